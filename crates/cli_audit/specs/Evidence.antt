-- What stands under two names, the second of which is that of digests.
use Rattle.std.specs.Prelude.{◌⊎◌, ℕ, List, Option, IfSome}
use Rattle.base_io.specs.Store.{Names}
use Rattle.cli_audit.specs.declared.status.Status.{Status}
use Rattle.cli_audit.specs.Names.{IsInVault, LacksName, digests_limit}

-- these bytes, no more than the limit, stand under the first, and this file under the second
abbrev pub AreUnder : ℕ → List ℕ → List ℕ → Names → List ℕ → List ℕ → Type 0
AreUnder limit first digests names bytes file =
    IsInVault (names first) limit bytes × IsInVault (names digests) digests_limit file

-- why the two aren't read: the first name is at fault, or else the second
abbrev pub LacksEither : Status → ℕ → List ℕ → List ℕ → Option Names → Type 0
LacksEither status limit first digests names =
    LacksName status 1 limit names first
    ⊎ ((bytes : List ℕ) × IfSome names (λ n. IsInVault (n first) limit bytes)
    × LacksName status 2 digests_limit names digests)

-- such bytes and such a file stand under the two
pub record StandUnder (limit : ℕ) (first digests : List ℕ) (names : Option Names)
    (Such : List ℕ → List ℕ → Type 0) : Type 0 where
  pub bytes : List ℕ
  pub file : List ℕ
  pub are_in_vault : IfSome names (λ n. AreUnder limit first digests n bytes file)
  pub such : Such bytes file
