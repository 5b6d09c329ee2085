-- A table has two rows in the table of tables at most.
use Rattle.std.proofs.Common.{◌≡◌, ◌+◌, refl, sym, ap, ap₂, ℕ, suc, arith, Bool, true, false, cond, List, [], ◌∷◌, filter, length, nat_le, nat_lt}
use Rattle.std.proofs.lemmas.Bool.Decides.{nat_tests}
use Rattle.std.specs.Prelude.{◌==◌, ◌&&◌, not}
use Rattle.std.specs.List.{list_all}
use Rattle.spec_rules.specs.Places.{PlacedRow}
use Rattle.spec_rules.specs.Rows.{firsts, is_first_of, seconds}
use Rattle.spec_rules.specs.Tables.{drops, is_new_table, tables_are_right}

in_two : {A : Type 0} (p : A → Bool) (xs : List A) → length (filter p xs) + length (filter (λ x. not (p x)) xs) ≡ length xs
in_two p [] = refl
in_two p (x ∷ xs) = here (p x) (in_two p xs)
  where
    here : (b : Bool) → length (filter p xs) + length (filter (λ x. not (p x)) xs) ≡ length xs
        → length (cond b (x ∷ filter p xs) (filter p xs)) + length (cond (not b) (x ∷ filter (λ x. not (p x)) xs) (filter (λ x. not (p x)) xs)) ≡ suc (length xs)
    here true more = omega (arith, more)
    here false more = omega (arith, more)

too_many : (m n k : ℕ) → m + n ≡ k → nat_lt 2 k ≡ true → (m == 1 && nat_le n 1) ≡ false
too_many m n k sum many = here (m == 1) refl (nat_le n 1) refl
  where
    here : (a : Bool) → (m == 1) ≡ a → (b : Bool) → nat_le n 1 ≡ b → (m == 1 && nat_le n 1) ≡ false
    here true e true f = absurd (grind (arith, nat_tests, sum, many, e, f))
    here true e false f = ap₂ (λ s t. s && t) e f
    here false e b f = ap (λ s. s && nat_le n 1) e

pub more_than_two : (tables : List PlacedRow) → nat_lt 2 (length tables) ≡ true → false ≡ tables_are_right tables
unfolding tables_are_right
more_than_two tables many =
    sym (ap (λ b. b && list_all is_new_table (firsts 0 tables) && list_all (λ (s : PlacedRow). list_all (λ (f : PlacedRow). drops f.row s.row) (firsts 0 tables)) (seconds 0 tables))
    (too_many (length (firsts 0 tables)) (length (seconds 0 tables)) (length tables) (in_two (is_first_of 0 tables) tables) many))
