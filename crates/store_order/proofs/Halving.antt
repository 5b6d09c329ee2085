-- A step of a search by halving.
use Rattle.std.specs.Fn.{Mut, Called, ComputesKey}
use Rattle.std.proofs.Common.{◌≡◌, ◌<◌, ◌+◌, ℕ, Bool, true, false, true≢false, sym, subst, ◌∙◌, List, [], ◌∷◌, Bor, length, get_or, arith}
use Rattle.std.specs.List.{AllWithin}
use Rattle.std.specs.List.Sorted.{IsPartitionedBy}
use Rattle.std.proofs.lemmas.List.{get_or_read}

or_false : (b : Bool) → (b ≡ true → ⊥) → b ≡ false
or_false true h = absurd (h (λ _. true))
or_false false h = λ _. false

module _ {X : Type 0} (p : X → Bool) (xs : List X) (middle : ℕ) (y : X) (within : middle < length xs) (read : y ≡ get_or xs middle y) (parted : IsPartitionedBy p xs) where
  pub passed : p y ≡ true → AllWithin (λ z. p z ≡ true) xs 0 (middle + 1)
  passed y_is k d a b = parted k middle d (omega arith) within (subst (λ (z : X). p z ≡ true) (get_or_read xs middle y within read d) y_is)

  pub failed : p y ≡ false → AllWithin (λ z. p z ≡ false) xs middle (length xs)
  failed y_is k d a b = or_false _ (λ t. true≢false (sym (parted middle k d a b t) ∙ subst (λ (z : X). p z ≡ false) (get_or_read xs middle y within read d) y_is))

-- a closure that computes a key does so again after a call
pub computed : {F A R : Type 0} {g : Mut F (Bor A × Unit {0}) R} {f next : F} (h : A → R) {x : Bor A} {r : R} → ComputesKey g h f → Called g f (x, tt) r next → ComputesKey g h next × (r ≡ h x.now)
computed {g = g} {f = f} {next = next} h {x} {r} k e = (record { at = λ xs. (k.at ((x, tt) ∷ xs) r next e).1 }, (k.at ((x, tt) ∷ []) r next e).0)
