-- Each place of a key has a column, which has a key position.
use Rattle.std.proofs.Common.{arith, ◌≡◌, ◌≢◌, ℕ, suc, refl, ap, subst, Bool, true, false, List, [], ◌∷◌, Some}
use Rattle.std.proofs.lemmas.Bool.{eq-eqb}
use Rattle.std.specs.Prelude.{slice_get, ◌+◌, ◌==◌, not}
use Rattle.std.specs.List.{AllByRecursion, filter}
use Rattle.sql_value.specs.declared.column.ColumnDef.{ColumnDef}
use Rattle.spec_model.specs.Lists.{sorted, numbered}
use Rattle.spec_model.specs.Keys.{Placed, position_cmp, key_places}
use Rattle.law_frame.proofs.Alls.{all_weaker, all_both, all_filter, all_pass, all_sorted, all_map}

abbrev pub HasColumn : List ColumnDef → ℕ → Type 0
HasColumn columns place = (c : ColumnDef) × (slice_get columns place ≡ Some c)

abbrev pub HasKeyColumn : List ColumnDef → ℕ → Type 0
HasKeyColumn columns place = (c : ColumnDef) × (slice_get columns place ≡ Some c) × (c.key_position ≢ 0)

module _ (columns : List ColumnDef) where
  abbrev IsColumnAt : Placed → Type 0
  IsColumnAt p = slice_get columns p.0 ≡ Some p.1

  abbrev in_key : Placed → Bool
  in_key p = not (p.1.key_position == 0)

  numbered_at_places : (part : List ColumnDef) (n : ℕ) → ((i : ℕ) → slice_get columns (n + i) ≡ slice_get part i) → AllByRecursion IsColumnAt (numbered n part)
  numbered_at_places [] n h = tt
  numbered_at_places (c ∷ cs) n h = (
    subst (λ k. slice_get columns k ≡ Some c) (omega arith) (h 0),
    numbered_at_places cs (n + 1) (λ i. subst (λ k. slice_get columns k ≡ slice_get cs i) (omega arith) (h (suc i))),
  )

  not_zero : (n : ℕ) (b : Bool) → (n == 0) ≡ b → not b ≡ true → n ≢ 0
  not_zero n true e h = cc
  not_zero n false e h = λ z. absurd (let t : (n == 0) ≡ true = eq-eqb n 0 z in cc)

  pub key_place_columns : AllByRecursion (HasKeyColumn columns) (key_places columns)
  unfolding key_places
  key_place_columns =
      all_map (λ p. IsColumnAt p × (in_key p ≡ true)) (HasKeyColumn columns) (λ p. p.0)
      (λ p h. (p.1, h.0, not_zero p.1.key_position (p.1.key_position == 0) refl h.1)) (sorted position_cmp (filter in_key (numbered 0 columns)))
      (all_sorted (λ p. IsColumnAt p × (in_key p ≡ true)) position_cmp (filter in_key (numbered 0 columns))
      (all_both IsColumnAt (λ p. in_key p ≡ true) (filter in_key (numbered 0 columns))
      (all_filter IsColumnAt in_key (numbered 0 columns) (numbered_at_places columns 0 (λ i. ap (slice_get columns) (omega arith))))
      (all_pass in_key (numbered 0 columns))))

  pub key_places_have : AllByRecursion (HasColumn columns) (key_places columns)
  key_places_have = all_weaker (HasKeyColumn columns) (HasColumn columns) (λ p h. (h.0, h.1)) (key_places columns) key_place_columns
