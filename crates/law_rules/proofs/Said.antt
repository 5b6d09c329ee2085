-- What rows say of things, such as the names of a table, and what one more row leaves of that. Of the rows about one thing
-- the last one is in force.
use Rattle.std.proofs.Common.{◌≡◌, ◌⊎◌, ℕ, pos, inl, inr, sym, subst, ◌∙◌, ap, Bool, true, false, List, [], ◌∷◌}
use Rattle.std.proofs.lemmas.Bool.Decides.{Decides-int_eq}
use Rattle.std.proofs.lemmas.List.Sorted.{IsPermutation-sym}
use Rattle.std.specs.Prelude.{◌&&◌}
use Rattle.std.specs.List.{AllByRecursion, list_any}
use Rattle.std.specs.List.Sorted.{IsPermutation}
use Rattle.spec_history.specs.Lists.{Some_of, In}
use Rattle.law_frame.proofs.Alls.{all_weaker, all_both}
use Rattle.law_catalog_rows.specs.Latest.{number_at}
use Rattle.spec_rules.specs.Places.{PlacedRow, stands_before}
use Rattle.spec_rules.specs.Rows.{same_thing, earlier_than, is_last_of, in_force}
use Rattle.law_rules.proofs.InOrder.{Before, all_in_order, some_weaker, in_some, never_both, both, not_true, never_true, none_of, none_twice}

-- the row is about the thing with this number, which stands at k
abbrev pub IsOf : ℕ → ℕ → PlacedRow → Type 0
IsOf k n r = number_at k r.row ≡ pos n

abbrev pub AreOfOne : ℕ → PlacedRow → PlacedRow → Type 0
AreOfOne k a b = number_at k a.row ≡ number_at k b.row

-- rows say what `says` makes of them, of the thing that they are about. What is said newly of one may clash with
-- what is in force of another.
module _ {S : Type 0} (k : ℕ) (says : PlacedRow → S) (clash : S → S → Bool) where
  -- of the rows about its thing none stands after it
  abbrev pub IsLast : List PlacedRow → PlacedRow → Type 0
  IsLast rows b = AllByRecursion (λ c. AreOfOne k c b → Before b c → ⊥) rows

  -- none does so before the other row
  abbrev pub IsLastBefore : List PlacedRow → PlacedRow → PlacedRow → Type 0
  IsLastBefore rows w b = AllByRecursion (λ c. AreOfOne k c b → Before b c → Before c w → ⊥) rows

  -- what the row says clashes with nothing that is in force at its place
  abbrev pub IsFree : List PlacedRow → PlacedRow → Type 0
  IsFree rows w = AllByRecursion (λ b. Before b w → IsLastBefore rows w b → clash (says w) (says b) ≡ false) rows

  -- the row is about this thing, and says this of it if it is the last
  pub record SaysOf (rows : List PlacedRow) (b : PlacedRow) (p : ℕ × S) : Type 0 where
    pub of : IsOf k p.0 b
    pub is : IsLast rows b → says b ≡ p.1

  pub record Said (rows : List PlacedRow) (N : List (ℕ × S)) : Type 0 where
    pub said : AllByRecursion (λ b. Some_of (SaysOf rows b) N) rows
    pub free : AllByRecursion (IsFree rows) rows

  -- ---- in any order

  module _ (V W : List PlacedRow) (same : IsPermutation W V) where
    turned : (P : PlacedRow → Type 0) → AllByRecursion P W → AllByRecursion P V
    turned P h = all_in_order P V W (IsPermutation-sym W V same) h

    said_so : (b : PlacedRow) (N : List (ℕ × S)) → Some_of (SaysOf V b) N → Some_of (SaysOf W b) N
    said_so b N h = some_weaker (SaysOf V b) (SaysOf W b) (λ p q. record { of = q.of; is = λ last. q.is (turned (λ c. AreOfOne k c b → Before b c → ⊥) last) }) N h

    free_so : (w : PlacedRow) → IsFree V w → IsFree W w
    free_so w h =
        all_in_order (λ b. Before b w → IsLastBefore W w b → clash (says w) (says b) ≡ false) W V same
        (all_weaker (λ b. Before b w → IsLastBefore V w b → clash (says w) (says b) ≡ false) (λ b. Before b w → IsLastBefore W w b → clash (says w) (says b) ≡ false)
        (λ b q before last. q before (turned (λ c. AreOfOne k c b → Before b c → Before c w → ⊥) last)) V h)

    pub said_in_order : (N : List (ℕ × S)) → Said V N → Said W N
    said_in_order N h = record {
      said = all_in_order (λ b. Some_of (SaysOf W b) N) W V same (all_weaker (λ b. Some_of (SaysOf V b) N) (λ b. Some_of (SaysOf W b) N) (λ b q. said_so b N q) V h.said);
      free = all_in_order (IsFree W) W V same (all_weaker (IsFree V) (IsFree W) free_so V h.free);
    }

  -- ---- a row more, that says something new of a thing

  pub record NewSaying (N : List (ℕ × S)) (n : ℕ) (new : S) (M : List (ℕ × S)) : Type 0 where
    pub fresh : AllByRecursion (λ (p : ℕ × S). clash new p.1 ≡ false) N
    pub others : AllByRecursion (λ (p : ℕ × S). (p.0 ≡ n) ⊎ In p M) N
    pub there : In (n, new) M

  module _ (V : List PlacedRow) (N : List (ℕ × S)) (row : PlacedRow) (past : AllByRecursion (λ r. Before r row) V) (n : ℕ) (new : S) (M : List (ℕ × S))
      (of : IsOf k n row) (has : says row ≡ new) (step : NewSaying N n new M) where
    said_still : (b : PlacedRow) → Before b row → (ps : List (ℕ × S)) → AllByRecursion (λ (p : ℕ × S). (p.0 ≡ n) ⊎ In p M) ps → Some_of (SaysOf V b) ps → Some_of (SaysOf (row ∷ V) b) M
    said_still b early [] others some = absurd some
    said_still b early (p ∷ ps) others some = elim some [
      | inl s ↦ elim others.0 [
        | inl same ↦ (
            let is : IsOf k n b = s.of ∙ ap (λ (m : ℕ). pos m) same in
            in_some (SaysOf (row ∷ V) b) (n, new) M step.there (record { of = is; is = λ last. absurd (last.0 (of ∙ sym is) early) }))
        | inr there ↦ in_some (SaysOf (row ∷ V) b) p M there (record { of = s.of; is = λ last. s.is last.1 })
      ]
      | inr more ↦ said_still b early ps others.1 more
    ]

    fresh_of : (b : PlacedRow) → IsLast V b → (ps : List (ℕ × S)) → AllByRecursion (λ (p : ℕ × S). clash new p.1 ≡ false) ps → Some_of (SaysOf V b) ps → clash (says row) (says b) ≡ false
    fresh_of b last [] fresh some = absurd some
    fresh_of b last (p ∷ ps) fresh some = elim some [
      | inl s ↦ (subst (λ (x : S). clash x (says b) ≡ false) (sym has) (subst (λ (x : S). clash new x ≡ false) (sym (s.is last)) fresh.0))
      | inr more ↦ fresh_of b last ps fresh.1 more
    ]

    -- what is free stays so, since the row comes later
    free_still : (w : PlacedRow) → Before w row → IsFree V w → IsFree (row ∷ V) w
    free_still w early free = (
      (λ later last. absurd (never_both row.place w.place later early)),
      all_weaker (λ b. Before b w → IsLastBefore V w b → clash (says w) (says b) ≡ false) (λ b. Before b w → IsLastBefore (row ∷ V) w b → clash (says w) (says b) ≡ false)
          (λ b q before last. q before last.1) V free,
    )

    last_now : (b : PlacedRow) → IsLastBefore (row ∷ V) row b → IsLast V b
    last_now b last =
        all_weaker (λ c. Before c row × (AreOfOne k c b → Before b c → Before c row → ⊥)) (λ c. AreOfOne k c b → Before b c → ⊥) (λ c q one later. q.1 one later q.0) V
        (all_both (λ c. Before c row) (λ c. AreOfOne k c b → Before b c → Before c row → ⊥) V past last.1)

    free_new : AllByRecursion (λ b. Some_of (SaysOf V b) N) V → IsFree (row ∷ V) row
    free_new said = (
      (λ itself last. absurd (never_both row.place row.place itself itself)),
      all_weaker (λ b. Some_of (SaysOf V b) N) (λ b. Before b row → IsLastBefore (row ∷ V) row b → clash (says row) (says b) ≡ false)
          (λ b some before last. fresh_of b (last_now b last) N step.fresh some) V said,
    )

    pub said_with : Said V N → Said (row ∷ V) M
    said_with h = record {
      said = (
        in_some (SaysOf (row ∷ V) row) (n, new) M step.there (record { of = of; is = λ last. has }),
        all_weaker (λ b. Before b row × Some_of (SaysOf V b) N) (λ b. Some_of (SaysOf (row ∷ V) b) M) (λ b q. said_still b q.0 N step.others q.1) V
            (all_both (λ b. Before b row) (λ b. Some_of (SaysOf V b) N) V past h.said),
      );
      free = (free_new h.said, all_weaker (λ w. Before w row × IsFree V w) (IsFree (row ∷ V)) (λ w q. free_still w q.0 q.1) V (all_both (λ w. Before w row) (IsFree V) V past h.free));
    }

  -- ---- among those in force

  last_before : (rows : List PlacedRow) (w b : PlacedRow) → is_last_of k (earlier_than w.place rows) b ≡ true → IsLastBefore rows w b
  last_before rows w b e =
      all_weaker (λ (c : PlacedRow). stands_before c.place w.place ≡ true → (same_thing k c b && stands_before b.place c.place) ≡ false) (λ c. AreOfOne k c b → Before b c → Before c w → ⊥)
      (λ c q one later before. never_true (same_thing k c b && stands_before b.place c.place)
      (both (same_thing k c b) (stands_before b.place c.place) ((Decides-int_eq (number_at k c.row) (number_at k b.row)).1 one) later) (q before)) rows
      (none_of (λ c. same_thing k c b && stands_before b.place c.place) (λ (r : PlacedRow). stands_before r.place w.place) rows
      (not_true (list_any (λ c. same_thing k c b && stands_before b.place c.place) (earlier_than w.place rows)) e))

  pub none_clashes : (rows : List PlacedRow) (w : PlacedRow) → IsFree rows w → list_any (λ b. clash (says w) (says b)) (in_force k w.place rows) ≡ false
  none_clashes rows w free =
      none_twice (λ b. clash (says w) (says b)) (is_last_of k (earlier_than w.place rows)) (λ (r : PlacedRow). stands_before r.place w.place) rows
      (all_weaker (λ b. Before b w → IsLastBefore rows w b → clash (says w) (says b) ≡ false)
      (λ (b : PlacedRow). stands_before b.place w.place ≡ true → is_last_of k (earlier_than w.place rows) b ≡ true → clash (says w) (says b) ≡ false)
      (λ b q before last. q before (last_before rows w b last)) rows free)
