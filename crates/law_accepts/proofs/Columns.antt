-- Versions in the image of a legal journal have NULL only where their columns took it when they started.
use Rattle.std.proofs.Common.{◌≡◌, ◌+◌, ℕ, pos, refl, sym, ◌∙◌, inl, inr, arith, Bool, true, false, true≢false, List, [], ◌∷◌, Option, Some, None, filter}
use Rattle.std.proofs.lemmas.Bool.Decides.{Decides-int_eq}
use Rattle.std.specs.List.{AllByRecursion, list_any}
use Rattle.std.specs.Prelude.{◌&&◌, ◌||◌, not, if◌then◌else◌, IfSome, is_some}
use Rattle.sql_value.specs.declared.value.Value.{Value}
use Rattle.sql_value.specs.declared.value.Value.TheVariants.{Null, Num, Text, Bytes, Date}
use Rattle.sql_types.specs.declared.entry.TxEntry.{TxEntry}
use Rattle.sql_types.specs.declared.version.TypedValue.{TypedValue}
use Rattle.sql_types.specs.declared.version.Version.{Version}
use Rattle.spec_model.specs.Keys.{value_at}
use Rattle.spec_model.specs.Rows.{EventId, values_of}
use Rattle.spec_model.specs.SystemTables.{columns_columns}
use Rattle.spec_history.specs.Lists.{Some_of}
use Rattle.law_frame.proofs.Alls.{all_weaker}
use Rattle.law_frame.proofs.SameKeys.{and_true}
use Rattle.law_journal.specs.Kept.{IsEarlier}
use Rattle.law_journal.proofs.Order.{then_}
use Rattle.law_catalog_time.specs.AsOfStart.{IsNumber, IsAboutColumn, SaysNotNull, IsRowBefore, IsLastBefore, Takes, TakeFrom}
use Rattle.format_image.specs.Rows.{Stored}
use Rattle.spec_verify.specs.Order.{is_before, later_started, last_started}
use Rattle.spec_verify.specs.Versions.{has_columns, is_number, is_about_column, says_not_null, takes, column_as_of, respects_from}
use Rattle.law_accepts.proofs.Firsts.{both}

-- ---- numbers

from_number : (n : ℕ) (v : Value) → is_number (pos n) v ≡ true → IsNumber n v
from_number n Null e = cc
from_number n (Num s v) e = (Decides-int_eq v (pos n)).0 e
from_number n (Text t) e = cc
from_number n (Bytes b) e = cc
from_number n (Date d) e = cc

a_number : (n : ℕ) (v : Value) → IsNumber n v → is_number (pos n) v ≡ true
a_number n Null h = absurd h
a_number n (Num s v) h = (Decides-int_eq v (pos n)).1 h
a_number n (Text t) h = absurd h
a_number n (Bytes b) h = absurd h
a_number n (Date d) h = absurd h

about_it : (id n : ℕ) (r : Version) → is_about_column id n r ≡ true → IsAboutColumn id n (values_of r)
about_it id n r e =
    let table : Bool = is_number (pos id) (value_at (values_of r) 0) in
    let column : Bool = is_number (pos n) (value_at (values_of r) 1) in
    let p = and_true table column (and_true (has_columns columns_columns r.values) (table && column) e).1 in
    (from_number id (value_at (values_of r) 0) p.0, from_number n (value_at (values_of r) 1) p.1)

is_about : (id n : ℕ) (r : Version) → has_columns columns_columns r.values ≡ true → IsAboutColumn id n (values_of r) → is_about_column id n r ≡ true
is_about id n r fits h = both fits (both (a_number id (value_at (values_of r) 0) h.0) (a_number n (value_at (values_of r) 1) h.1))

-- ---- the last row

module _ (entries : List TxEntry) (place : ℕ → ℕ) (by_test : (a b : EventId) → IsEarlier place a b → is_before entries a b ≡ true)
    (from_test : (a b : EventId) → is_before entries a b ≡ true → IsEarlier place a b) where
  some_last : (p : Version → Bool) (vs : List Version) → list_any p vs ≡ true → is_some (last_started entries (filter p vs)) ≡ true
  some_last p [] e = absurd (true≢false (sym e))
  some_last p (v ∷ vs) e = here (p v) (some_last p vs) e
    where
      chosen : (b : Bool) (w : Version) → is_some (if b then Some v else Some w) ≡ true
      chosen true w = refl
      chosen false w = refl

      some : (o : Option Version) → is_some (later_started entries v o) ≡ true
      some None = refl
      some (Some w) = chosen (is_before entries w.start v.start) w

      here : (b : Bool) → (list_any p vs ≡ true → is_some (last_started entries (filter p vs)) ≡ true)
          → (b || list_any p vs) ≡ true → is_some (last_started entries (if b then v ∷ filter p vs else filter p vs)) ≡ true
      here true more e = some (last_started entries (filter p vs))
      here false more e = more e

  last_of : (P : Version → Type 0) (vs : List Version) → AllByRecursion P vs → IfSome (last_started entries vs) P
  last_of P [] all = tt
  last_of P (v ∷ vs) all = here (last_started entries vs) (last_of P vs all.1)
    where
      chosen : (b : Bool) (w : Version) → P w → IfSome (if b then Some v else Some w) P
      chosen true w h = all.0
      chosen false w h = h

      here : (o : Option Version) → IfSome o P → IfSome (later_started entries v o) P
      here None h = all.0
      here (Some w) h = chosen (is_before entries w.start v.start) w h

  -- none of these versions started after it
  abbrev NoneBehind : List Version → Version → Type 0
  NoneBehind vs w = AllByRecursion (λ x. IsEarlier place w.start x.start → ⊥) vs

  never_itself : (a : EventId) → IsEarlier place a a → ⊥
  never_itself a h = elim h [ inl lt ↦ omega (arith, lt) | inr p ↦ omega (arith, p.1) ]

  alone : (v : Version) (us : List Version) → last_started entries us ≡ None → NoneBehind us v
  alone v [] e = tt
  alone v (u ∷ us) e = never (last_started entries us) e
    where
      never_so : (b : Bool) (w : Version) → (if b then Some u else Some w) ≡ None → NoneBehind (u ∷ us) v
      never_so true w e = cc
      never_so false w e = cc

      never : (o : Option Version) → later_started entries u o ≡ None → NoneBehind (u ∷ us) v
      never None e = cc
      never (Some w) e = never_so (is_before entries w.start u.start) w e

  last_is_last : (vs : List Version) → IfSome (last_started entries vs) (NoneBehind vs)
  last_is_last [] = tt
  last_is_last (v ∷ vs) = here (last_started entries vs) refl (last_is_last vs)
    where
      chosen : (w : Version) (b : Bool) → is_before entries w.start v.start ≡ b → NoneBehind vs w → IfSome (if b then Some v else Some w) (NoneBehind (v ∷ vs))
      chosen w true e h = (
        never_itself v.start,
        all_weaker (λ x. IsEarlier place w.start x.start → ⊥) (λ x. IsEarlier place v.start x.start → ⊥) (λ x none k. none (then_ place w.start v.start x.start (from_test w.start v.start e) k)) vs h,
      )
      chosen w false e h = ((λ k. absurd (true≢false (sym (by_test w.start v.start k) ∙ e))), h)

      here : (o : Option Version) → last_started entries vs ≡ o → IfSome o (NoneBehind vs) → IfSome (later_started entries v o) (NoneBehind (v ∷ vs))
      here None e h = (never_itself v.start, alone v vs e)
      here (Some w) e h = chosen w (is_before entries w.start v.start) refl h

  all_kept : (P : Version → Type 0) (p : Version → Bool) (vs : List Version) → AllByRecursion (λ r. p r ≡ true → P r) vs → AllByRecursion P (filter p vs)
  all_kept P p [] all = tt
  all_kept P p (v ∷ vs) all = here (p v) refl (all_kept P p vs all.1)
    where
      here : (b : Bool) → p v ≡ b → AllByRecursion P (filter p vs) → AllByRecursion P (if b then v ∷ filter p vs else filter p vs)
      here true is more = (all.0 is, more)
      here false is more = more

  -- those that are left out of the list don't count
  behind_all : (p : Version → Bool) (Q : Version → Type 0) (w : Version) (vs : List Version) → AllByRecursion (λ x. Q x → p x ≡ true) vs → NoneBehind (filter p vs) w
      → AllByRecursion (λ x. Q x → IsEarlier place w.start x.start → ⊥) vs
  behind_all p Q w [] kept none = tt
  behind_all p Q w (v ∷ vs) kept none = here (p v) refl none (behind_all p Q w vs kept.1)
    where
      here : (b : Bool) → p v ≡ b → NoneBehind (if b then v ∷ filter p vs else filter p vs) w → (NoneBehind (filter p vs) w → AllByRecursion (λ x. Q x → IsEarlier place w.start x.start → ⊥) vs)
          → AllByRecursion (λ x. Q x → IsEarlier place w.start x.start → ⊥) (v ∷ vs)
      here true is h more = ((λ q. h.0), more h.1)
      here false is h more = ((λ q. absurd (true≢false (sym (kept.0 q) ∙ is))), more h)

  any_kept : (p : Version → Bool) (Q : Version → Type 0) (vs : List Version) → AllByRecursion (λ x. Q x → p x ≡ true) vs → Some_of Q vs → list_any p vs ≡ true
  any_kept p Q [] kept some = absurd some
  any_kept p Q (v ∷ vs) kept some = elim some [ inl q ↦ first (p v) (kept.0 q) | inr more ↦ later (p v) (any_kept p Q vs kept.1 more) ]
    where
      first : (b : Bool) → b ≡ true → (b || list_any p vs) ≡ true
      first true e = refl
      first false e = cc

      later : (b : Bool) → list_any p vs ≡ true → (b || list_any p vs) ≡ true
      later true e = refl
      later false e = e

  -- ---- the values of a version

  module _ (second : List Version) (fit : AllByRecursion (λ (r : Version). has_columns columns_columns r.values ≡ true) second) (id : ℕ) (at : EventId) where
    abbrev RowBefore : ℕ → Version → Type 0
    RowBefore n r = IsRowBefore place second id at n r

    abbrev is_row_before : ℕ → Version → Bool
    is_row_before n r = is_about_column id n r && is_before entries r.start at

    row_before : (n : ℕ) → AllByRecursion (λ r. RowBefore n r → is_row_before n r ≡ true) second
    row_before n =
        all_weaker (λ (r : Version). has_columns columns_columns r.values ≡ true) (λ r. RowBefore n r → is_row_before n r ≡ true)
        (λ r fits h. both (is_about id n r fits h.0) (by_test r.start at h.1)) second fit

    from_row_before : (n : ℕ) (r : Version) → is_row_before n r ≡ true → RowBefore n r
    from_row_before n r e = let p = and_true (is_about_column id n r) (is_before entries r.start at) e in (about_it id n r p.0, from_test r.start at p.1)

    nothing_taken : (o : Option Version) → IfSome o (λ r. SaysNotNull (values_of r) → ⊥) → takes o None ≡ true
    nothing_taken None h = refl
    nothing_taken (Some r) h = here (says_not_null r) refl
      where
        here : (b : Bool) → says_not_null r ≡ b → not b ≡ true
        here true e = absurd (h (from_number 0 (value_at (values_of r) 7) e))
        here false e = refl

    something_taken : (o : Option Version) (t : TypedValue) → is_some o ≡ true → takes o (Some t) ≡ true
    something_taken None t e = cc
    something_taken (Some r) t e = refl

    column_takes : (n : ℕ) (x : Option TypedValue) → Takes place second id at n x → takes (column_as_of entries second id n at) x ≡ true
    column_takes n (Some t) h = something_taken (column_as_of entries second id n at) t (some_last (is_row_before n) second (any_kept (is_row_before n) (RowBefore n) second (row_before n) h))
    column_takes n None h =
        let last : Version → Type 0 = λ r. IsLastBefore place second id at n r → SaysNotNull (values_of r) → ⊥ in
        let found : List Version = filter (is_row_before n) second in
        let own = last_of (λ r. last r × RowBefore n r) found
        (all_kept (λ r. last r × RowBefore n r) (is_row_before n) second (all_weaker last (λ r. is_row_before n r ≡ true → last r × RowBefore n r) (λ r k e. (k, from_row_before n r e)) second h)) in
        nothing_taken (last_started entries found) (together (last_started entries found) own (last_is_last found))
      where
        together : (o : Option Version) → IfSome o (λ r. (IsLastBefore place second id at n r → SaysNotNull (values_of r) → ⊥) × RowBefore n r) → IfSome o (NoneBehind (filter (is_row_before n) second))
            → IfSome o (λ r. SaysNotNull (values_of r) → ⊥)
        together None k none = tt
        together (Some r) k none = k.0 (record { before = k.1; last = behind_all (is_row_before n) (RowBefore n) r second (row_before n) none })

    pub respected : (n : ℕ) (values : Stored) → TakeFrom place second id at n values → respects_from entries second id n at values ≡ true
    respected n [] h = refl
    respected n (v ∷ vs) h = both (column_takes n v h.0) (respected (n + 1) vs h.1)
