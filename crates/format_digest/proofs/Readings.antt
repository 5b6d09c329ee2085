-- What is read of some bytes excludes what else may be.
use Rattle.std.proofs.Common.{◌≡◌, ◌∙◌, ℕ, List, Option, Some, Result, Ok, Err, refl, sym, ap}
use Rattle.std.specs.Prelude.{MatchResult}
use Rattle.sql_types.specs.declared.digest.HeldDigest.{HeldDigest}
use Rattle.format_digest.specs.declared.digest_err.DigestErr.TheVariants as errors
use Rattle.format_digest.specs.Reading.{Answer, AreDigests, IsRead, digests_in}

some_is : {A : Type 0} (x y : A) → (let o : Option A = Some x in let p : Option A = Some y in o ≡ p) → x ≡ y
some_is x y e = cc

one_meaning : (bytes : List ℕ) (m n : Result (List HeldDigest) ℕ) → AreDigests bytes m → AreDigests bytes n
    → m ≡ n
one_meaning bytes m n a b =
    let same : a.1.0 ≡ b.1.0 = some_is a.1.0 b.1.0 (sym a.1.1 ∙ b.1.1) in
    sym a.1.2 ∙ ap digests_in same ∙ b.1.2

same_list : (a b : List HeldDigest)
    → (let m : Result (List HeldDigest) ℕ = Ok a in let n : Result (List HeldDigest) ℕ = Ok b in m ≡ n)
    → b ≡ a
same_list a b e = cc

no_place : (a : List HeldDigest) (index : ℕ)
    → (let m : Result (List HeldDigest) ℕ = Ok a in let n : Result (List HeldDigest) ℕ = Err index in m ≡ n)
    → ⊥
no_place a index e = absurd cc

pub one_reading : (bytes : List ℕ) (held : List HeldDigest) (r : Answer) → IsRead bytes (Ok held)
    → IsRead bytes r → MatchResult r (λ list. list ≡ held) (λ e. e ≡ errors.Memory)
one_reading bytes held (Ok list) is other = same_list held list (one_meaning bytes (Ok held) (Ok list) is other)
one_reading bytes held (Err errors.Unreadable) is other = absurd (let e = sym is.1.1 ∙ other is.0 in cc)
one_reading bytes held (Err (errors.Bad index)) is other = absurd (no_place held index (one_meaning bytes (Ok held) (Err index) is other))
one_reading bytes held (Err errors.Memory) is other = refl
