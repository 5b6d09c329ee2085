-- The rows in force at a place, found among rows that stand by the table that they are about and then by place.
use Rattle.std.proofs.Common.{◌≡◌, refl, sym, ap, ap₂, ◌∙◌, ℕ, ℤ, zero, suc, zero-le, suc-le-suc, ◌<◌, ◌≤◌, Bool, true, false, cond, List, [], ◌∷◌, ◌++◌, length, get_or, is_lt, IsSorted, append_assoc}
use Rattle.std.proofs.lemmas.Bool.{true≢false}
use Rattle.std.proofs.lemmas.Bool.Decides.{Decides-int_eq}
use Rattle.std.proofs.lemmas.Map.Lookups.{exact_signed}
use Rattle.std.proofs.lemmas.List.Sorted.{ranks_by, sorted_far}
use Rattle.std.specs.Prelude.{◌&&◌, ◌||◌, not}
use Rattle.std.specs.Cmp.{IsTotalOrder, int_cmp_total, on_total, then_total, tied_itself}
use Rattle.std.specs.List.{AllByRecursion, list_any}
use Rattle.std.specs.Ordering.{int_cmp, ordering_reverse, ordering_then}
use Rattle.std.specs.declared.cmp.Ordering.{Ordering}
use Rattle.std.specs.declared.cmp.Ordering.TheVariants.{Less, Equal, Greater}
use Rattle.sql_parts.proofs.Orders.{event_total}
use Rattle.spec_model.specs.Rows.{event_cmp}
use Rattle.law_catalog_rows.specs.Latest.{number_at}
use Rattle.spec_rules.specs.Places.{EventPlace, PlacedRow, stands_before}
use Rattle.spec_rules.specs.Rows.{earlier_than, in_force, is_last_of, same_thing}
use Rattle.audit_rules.specs.declared.rows.PlacedVersion.{PlacedVersion}
use Rattle.audit_rules.specs.InForce.{any_standing, is_superseded}
use Rattle.audit_rules.specs.Seen.{row_of, seen, table_cmp}
use Rattle.audit_rules.proofs.Lists.{any_filtered}
use Rattle.audit_rules.proofs.Places.{before_as}

-- ---- the order

-- by the table, and then by place
abbrev row_cmp : PlacedRow → PlacedRow → Ordering
row_cmp a b = ordering_then (int_cmp (number_at 0 a.row) (number_at 0 b.row)) (event_cmp a.place b.place)

rows_total : IsTotalOrder row_cmp
rows_total = then_total (on_total (λ (r : PlacedRow). number_at 0 r.row) int_cmp_total) (on_total (λ (r : PlacedRow). r.place) event_total)

pub tables_total : IsTotalOrder table_cmp
tables_total = on_total row_of rows_total

same_as : (a b : PlacedRow) → same_thing 0 a b ≡ true → int_cmp (number_at 0 a.row) (number_at 0 b.row) ≡ Equal
same_as a b e =
    ap (λ (n : ℤ). int_cmp n (number_at 0 b.row)) ((Decides-int_eq (number_at 0 a.row) (number_at 0 b.row)).0 e)
    ∙ tied_itself int_cmp_total (number_at 0 b.row)

as_same : (a b : PlacedRow) → int_cmp (number_at 0 a.row) (number_at 0 b.row) ≡ Equal → same_thing 0 a b ≡ true
as_same a b e = (Decides-int_eq (number_at 0 a.row) (number_at 0 b.row)).1 (exact_signed (number_at 0 a.row) (number_at 0 b.row) e)

-- of one table the order is that of the places
by_places : (a b : PlacedRow) → same_thing 0 a b ≡ true → row_cmp a b ≡ event_cmp a.place b.place
by_places a b e = ap (λ o. ordering_then o (event_cmp a.place b.place)) (same_as a b e)

same_back : (a b : PlacedRow) → same_thing 0 a b ≡ true → same_thing 0 b a ≡ true
same_back a b e = as_same b a (int_cmp_total.antisymm (number_at 0 b.row) (number_at 0 a.row) ∙ ap ordering_reverse (same_as a b e))

same_twice : (a b c : PlacedRow) → same_thing 0 a b ≡ true → same_thing 0 b c ≡ true → same_thing 0 a c ≡ true
same_twice a b c e f =
    as_same a c (int_cmp_total.congr (number_at 0 a.row) (number_at 0 b.row) (number_at 0 c.row) (same_as a b e) ∙ same_as b c f)

-- ---- rows that rise

-- none is below this one
abbrev pub Above : PlacedRow → List PlacedRow → Type 0
Above r rs = AllByRecursion (λ b. is_lt (row_cmp b r) ≡ false) rs

pub Rises : List PlacedRow → Type 0
Rises [] = Unit {0}
Rises (r ∷ rs) = Above r rs × Rises rs

-- ---- what supersedes a row

module _ (place : EventPlace) (r : PlacedRow) where
  -- b is before the place, is about r's table and stands after r
  abbrev pub after : PlacedRow → Bool
  after b = stands_before b.place place && (same_thing 0 b r && stands_before r.place b.place)

  -- where b is of another table, or not before the place, so is all that stands above it
  NotYet : PlacedRow → Type 0
  NotYet b = (same_thing 0 b r && stands_before b.place place) ≡ false

  over : (b c : PlacedRow) → is_lt (row_cmp b r) ≡ false → is_lt (row_cmp c b) ≡ false → NotYet b → after c ≡ false
  unfolding NotYet
  over b c above_r above_b not_yet = here (after c) refl
    where
      here : (t : Bool) → after c ≡ t → after c ≡ false
      here false e = e
      here true e =
          let one = parts (stands_before c.place place) (same_thing 0 c r && stands_before r.place c.place) e in
          let two = parts (same_thing 0 c r) (stands_before r.place c.place) one.1 in
          absurd (true≢false (sym (reached one.0 two.0) ∙ not_yet))
        where
          parts : (a b : Bool) → (a && b) ≡ true → (a ≡ true) × (b ≡ true)
          parts true true e = (refl, refl)
          parts true false e = cc
          parts false b e = cc

          -- r ≤ b ≤ c, and c is of r's table: so b is
          same_b : same_thing 0 c r ≡ true → same_thing 0 b r ≡ true
          same_b own = from (int_cmp (number_at 0 b.row) (number_at 0 r.row)) refl
            where
              from : (o : Ordering) → int_cmp (number_at 0 b.row) (number_at 0 r.row) ≡ o → same_thing 0 b r ≡ true
              from Less f = absurd (true≢false (sym (ap (λ o. is_lt (ordering_then o (event_cmp b.place r.place))) f) ∙ above_r))
              from Equal f = as_same b r f
              from Greater f =
                  let back : int_cmp (number_at 0 r.row) (number_at 0 b.row) ≡ Less = int_cmp_total.antisymm (number_at 0 r.row) (number_at 0 b.row) ∙ ap ordering_reverse f in
                  let less : int_cmp (number_at 0 c.row) (number_at 0 b.row) ≡ Less = int_cmp_total.congr (number_at 0 c.row) (number_at 0 r.row) (number_at 0 b.row) (same_as c r own) ∙ back in
                  absurd (true≢false (sym (ap (λ o. is_lt (ordering_then o (event_cmp c.place b.place))) less) ∙ above_b))

          reached : stands_before c.place place ≡ true → same_thing 0 c r ≡ true → (same_thing 0 b r && stands_before b.place place) ≡ true
          reached early own =
              let same = same_b own in
              let late : is_lt (event_cmp c.place b.place) ≡ false = sym (ap is_lt (by_places c b (same_twice c r b own (same_back b r same)))) ∙ above_b in
              rw (same, early_too late (sym (before_as c.place place) ∙ early)) refl
            where
              early_too : is_lt (event_cmp c.place b.place) ≡ false → is_lt (event_cmp c.place place) ≡ true → stands_before b.place place ≡ true
              early_too late e = from (event_cmp c.place b.place) refl late
                where
                  less : (o : Ordering) → is_lt o ≡ true → o ≡ Less
                  less Less e = refl
                  less Equal e = cc
                  less Greater e = cc

                  from : (o : Ordering) → event_cmp c.place b.place ≡ o → is_lt o ≡ false → stands_before b.place place ≡ true
                  from Less f l = cc
                  from Equal f l = before_as b.place place ∙ ap is_lt (sym (event_total.congr c.place b.place place f) ∙ less _ e)
                  from Greater f l = before_as b.place place ∙ ap is_lt (event_total.trans b.place c.place place (event_total.antisymm b.place c.place ∙ ap ordering_reverse f) (less _ e))

  none_over : (b : PlacedRow) (cs : List PlacedRow) → is_lt (row_cmp b r) ≡ false → Above b cs → NotYet b → list_any after cs ≡ false
  none_over b [] above_r all not_yet = refl
  none_over b (c ∷ cs) above_r all not_yet = ap₂ (λ s t. s || t) (over b c above_r all.0 not_yet) (none_over b cs above_r all.1 not_yet)

  pub superseded_is : (bs : List PlacedRow) → Above r bs → Rises bs → is_superseded place r bs ≡ list_any after bs
  unfolding Rises NotYet
  superseded_is [] all up = refl
  superseded_is (b ∷ bs) all up = here (same_thing 0 b r) (stands_before b.place place) (stands_before r.place b.place) refl refl (superseded_is bs all.1 up.1) (none_over b bs all.0 up.0)
    where
      here : (s e l : Bool) → same_thing 0 b r ≡ s → stands_before b.place place ≡ e → is_superseded place r bs ≡ list_any after bs → (NotYet b → list_any after bs ≡ false)
          → cond (s && e) (cond l true (is_superseded place r bs)) false ≡ ((e && (s && l)) || list_any after bs)
      here true true true is is' more none = refl
      here true true false is is' more none = more
      here true false l is is' more none = sym (none (ap₂ (λ s t. s && t) is is'))
      here false true l is is' more none = sym (none (ap₂ (λ s t. s && t) is is'))
      here false false l is is' more none = sym (none (ap₂ (λ s t. s && t) is is'))

  -- what r isn't below doesn't supersede it
  not_after : (f : PlacedRow) → is_lt (row_cmp r f) ≡ false → after f ≡ false
  not_after f low = here (same_thing 0 f r) refl
    where
      and_false : (b : Bool) → (b && false) ≡ false
      and_false true = refl
      and_false false = refl

      here : (s : Bool) → same_thing 0 f r ≡ s → after f ≡ false
      here true e =
          let late : stands_before r.place f.place ≡ false = before_as r.place f.place ∙ ap is_lt (sym (by_places r f (same_back f r e))) ∙ low in
          rw (e, late) (and_false (stands_before f.place place))
      here false e = rw e (and_false (stands_before f.place place))

  none_after : (fs : List PlacedRow) → AllByRecursion (λ f. is_lt (row_cmp r f) ≡ false) fs → list_any after fs ≡ false
  none_after [] all = refl
  none_after (f ∷ fs) all = ap₂ (λ s t. s || t) (not_after f all.0) (none_after fs all.1)

  itself : is_lt (row_cmp r r) ≡ false
  itself = ap is_lt (tied_itself rows_total r)

-- ---- all rows

any_append : {A : Type 0} (p : A → Bool) (xs ys : List A) → list_any p (xs ++ ys) ≡ (list_any p xs || list_any p ys)
any_append p [] ys = refl
any_append p (x ∷ xs) ys = ap (λ b. p x || b) (any_append p xs ys) ∙ or_assoc (p x) (list_any p xs) (list_any p ys)
  where
    or_assoc : (a b c : Bool) → (a || (b || c)) ≡ ((a || b) || c)
    or_assoc true b c = refl
    or_assoc false b c = refl

module _ (p : PlacedRow → Bool) (place : EventPlace) where
  -- r is in force among all these rows, and passes
  abbrev pub stands : List PlacedRow → PlacedRow → Bool
  stands all r = stands_before r.place place && (p r && not (list_any (after place r) all))

  -- none of these is above one of those
  AllBelow : List PlacedRow → List PlacedRow → Type 0
  AllBelow fs rs = AllByRecursion (λ r. AllByRecursion (λ f. is_lt (row_cmp r f) ≡ false) fs) rs

  joined : (r : PlacedRow) (fs : List PlacedRow) (rs : List PlacedRow) → AllBelow fs rs → Above r rs → AllBelow (fs ++ r ∷ []) rs
  unfolding AllBelow
  joined r fs [] all above = tt
  joined r fs (s ∷ ss) all above = (with_last fs all.0, joined r fs ss all.1 above.1)
    where
      with_last : (gs : List PlacedRow) → AllByRecursion (λ f. is_lt (row_cmp s f) ≡ false) gs → AllByRecursion (λ f. is_lt (row_cmp s f) ≡ false) (gs ++ r ∷ [])
      with_last [] all = (above.0, tt)
      with_last (g ∷ gs) all = (all.0, with_last gs all.1)

  from_front : (fs rs : List PlacedRow) → AllBelow fs rs → Rises rs → list_any (stands (fs ++ rs)) rs ≡ any_standing p place rs
  unfolding AllBelow Rises
  from_front fs [] all up = refl
  from_front fs (r ∷ rs) all up =
      ap₂ (λ s t. s || t)
      (ap (λ b. stands_before r.place place && (p r && not b)) (seen_after ∙ sym (superseded_is place r rs up.0 up.1)))
      (ap (λ l. list_any (stands l) rs) (sym (append_assoc fs (r ∷ []) rs)) ∙ from_front (fs ++ r ∷ []) rs (joined r fs rs all.1 up.0) up.1)
    where
      seen_after : list_any (after place r) (fs ++ r ∷ rs) ≡ list_any (after place r) rs
      seen_after =
          any_append (after place r) fs (r ∷ rs)
          ∙ ap₂ (λ s t. s || (t || list_any (after place r) rs)) (none_after place r fs all.0) (not_after place r r (itself place r))

  -- in the words of the definition
  pub any_stands : (rows : List PlacedRow) → list_any p (in_force 0 place rows) ≡ list_any (stands rows) rows
  any_stands rows =
      any_filtered p (is_last_of 0 (earlier_than place rows)) (earlier_than place rows)
      ∙ any_filtered (λ r. is_last_of 0 (earlier_than place rows) r && p r) (λ r. stands_before r.place place) rows
      ∙ ap (λ (q : PlacedRow → Bool). list_any q rows)
      (λ i r. stands_before r.place place && turned (not (list_any (λ b. same_thing 0 b r && stands_before r.place b.place) (earlier_than place rows))) (p r)
      (ap not (any_filtered (λ b. same_thing 0 b r && stands_before r.place b.place) (λ b. stands_before b.place place) rows)) i)
    where
      turned : {c : Bool} (a b : Bool) → a ≡ c → (a && b) ≡ (b && c)
      turned true true e = e
      turned true false e = refl
      turned false true e = e
      turned false false e = refl

  none_below : (rs : List PlacedRow) → AllBelow [] rs
  unfolding AllBelow
  none_below [] = tt
  none_below (r ∷ rs) = (tt, none_below rs)

  pub standing_is : (rows : List PlacedRow) → Rises rows → any_standing p place rows ≡ list_any p (in_force 0 place rows)
  standing_is rows up = sym (from_front [] rows (none_below rows) up) ∙ sym (any_stands rows)

-- ---- of rows that are held

all_places : (P : PlacedRow → Type 0) (rs : List PlacedVersion) → ((k : ℕ) (d : PlacedVersion) → k < length rs → P (row_of (get_or rs k d))) → AllByRecursion P (seen rs)
all_places P [] h = tt
all_places P (r ∷ rs) h = (h zero r (suc-le-suc zero-le), all_places P rs (λ k d lt. h (suc k) d (suc-le-suc lt)))

rises_far : (rs : List PlacedVersion) → ((i j : ℕ) (d : PlacedVersion) → i ≤ j → j < length rs → is_lt (table_cmp (get_or rs j d) (get_or rs i d)) ≡ false) → Rises (seen rs)
unfolding Rises
rises_far [] far = tt
rises_far (r ∷ rs) far = (all_places (λ s. is_lt (row_cmp s (row_of r)) ≡ false) rs (λ k d lt. far zero (suc k) d zero-le (suc-le-suc lt)), rises_far rs (λ i j d le lt. far (suc i) (suc j) d (suc-le-suc le) (suc-le-suc lt)))

pub any_standing_is : (p : PlacedRow → Bool) (place : EventPlace) (rows : List PlacedVersion) → IsSorted table_cmp rows
    → any_standing p place (seen rows) ≡ list_any p (in_force 0 place (seen rows))
any_standing_is p place rows up = standing_is p place (seen rows) (rises_far rows (sorted_far (λ a b. is_lt (table_cmp a b)) (ranks_by tables_total (λ x. x)) rows up))
