-- What is read of names that hold something.
use Rattle.std.proofs.Common.{◌≡◌, ◌<◌, ◌≤◌, ℕ, List, length, subst, arith}
use Rattle.std.specs.Prelude.{Ok, Err}
use Rattle.base_io.specs.Store.{NameContent, Absent, Bytes, Names}
use Rattle.sql_types.specs.declared.digest.HeldDigest.{HeldDigest}
use Rattle.format_digest.specs.declared.digest_err.DigestErr.TheVariants as reading
use Rattle.format_digest.specs.Reading.{IsRead}
use Rattle.cli_commands.specs.Names.{IsInVault, IsTooLong}

pub found_in : (names : Names) (name bytes : List ℕ) (limit : ℕ) (found : List ℕ) → names name ≡ Bytes bytes → IsInVault (names name) limit found → found ≡ bytes
found_in names name bytes limit found there is = (subst (λ (held : NameContent). IsInVault held limit found) there is).0

pub not_too_long : (names : Names) (name bytes : List ℕ) (limit : ℕ) → names name ≡ Bytes bytes → length bytes ≤ limit → IsTooLong (names name) limit → ⊥
not_too_long names name bytes limit there fits is =
    let long : limit < length bytes = subst (λ (held : NameContent). IsTooLong held limit) there is in
    omega (arith, long, fits)

pub not_missing : (names : Names) (name bytes : List ℕ) → names name ≡ Bytes bytes → names name ≡ Absent → ⊥
not_missing names name bytes there is = cc

-- ---- a file of digests

pub read_once : (file : List ℕ) (xs ys : List HeldDigest) → IsRead file (Ok xs) → IsRead file (Ok ys) → xs ≡ ys
read_once file xs ys x y =
    let first = x.1.1 in
    let second = y.1.1 in
    let in_first = x.1.2 in
    let in_second = y.1.2 in
    cc

pub not_unreadable : (file : List ℕ) (xs : List HeldDigest) → IsRead file (Ok xs) → IsRead file (Err reading.Unreadable) → ⊥
not_unreadable file xs x none =
    let first = x.1.1 in
    let second = none x.0 in
    cc

pub not_bad : (file : List ℕ) (xs : List HeldDigest) (index : ℕ) → IsRead file (Ok xs) → IsRead file (Err (reading.Bad index)) → ⊥
not_bad file xs index x y =
    let first = x.1.1 in
    let second = y.1.1 in
    let in_first = x.1.2 in
    let in_second = y.1.2 in
    cc
