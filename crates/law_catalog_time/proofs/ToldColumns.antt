-- What the rows of the table of columns tell of the columns of a table, and what one more row leaves of that.
use Rattle.std.proofs.Common.{◌≡◌, ◌≤◌, ◌<◌, ℕ, suc, ◌+◌, inl, inr, refl, sym, subst, Bool, true, false, List, [], ◌∷◌, length, Option, Some, None, arith}
use Rattle.std.proofs.lemmas.Option.{slice_get_within}
use Rattle.std.specs.Prelude.{if◌then◌else◌, slice_get}
use Rattle.std.specs.List.{AllByRecursion}
use Rattle.std.specs.Ordering.{is_gt}
use Rattle.sql_value.specs.declared.column.ColumnDef.{ColumnDef}
use Rattle.sql_types.specs.declared.version.Table.{Table}
use Rattle.sql_types.specs.declared.version.TypedValue.{TypedValue}
use Rattle.sql_types.specs.declared.version.Version.{Version}
use Rattle.spec_model.specs.Lists.{inserted}
use Rattle.spec_model.specs.Rows.{EventId, start_cmp, values_of, filled_stored}
use Rattle.spec_history.specs.Lists.{Some_of}
use Rattle.law_frame.proofs.Alls.{all_weaker, all_both, all_inserted}
use Rattle.law_frame.proofs.Filled.{filled_stored_whole}
use Rattle.law_journal.specs.Fits.{FitsColumn, Fits}
use Rattle.law_journal.specs.Kept.{IsEarlier, IsPast}
use Rattle.law_journal.proofs.SoFar.{as_many}
use Rattle.law_catalog_time.specs.AsOfStart.{IsAboutColumn, SaysNotNull, IsRowBefore, IsLastBefore, Takes, TakeFrom}

-- ---- a list with one more

-- what holds of all holds of the new one, and of those that there were
pub with_one : (P : Version → Type 0) (r : Version) (vs : List Version) → AllByRecursion P (inserted start_cmp r vs) → P r × AllByRecursion P vs
with_one P r [] h = (h.0, tt)
with_one P r (v ∷ vs) h = here (is_gt (start_cmp r v)) h (with_one P r vs)
  where
    here : (b : Bool) → AllByRecursion P (if b then v ∷ inserted start_cmp r vs else r ∷ v ∷ vs) → (AllByRecursion P (inserted start_cmp r vs) → P r × AllByRecursion P vs) → P r × AllByRecursion P (v ∷ vs)
    here true k more = let m = more k.1 in (m.0, (k.0, m.1))
    here false k more = (k.0, k.1)

pub some_new : (P : Version → Type 0) (r : Version) (vs : List Version) → P r → Some_of P (inserted start_cmp r vs)
some_new P r [] h = inl h
some_new P r (v ∷ vs) h = here (is_gt (start_cmp r v)) (some_new P r vs h)
  where
    here : (b : Bool) → Some_of P (inserted start_cmp r vs) → Some_of P (if b then v ∷ inserted start_cmp r vs else r ∷ v ∷ vs)
    here true k = inr k
    here false k = inl h

pub some_still : (P : Version → Type 0) (r : Version) (vs : List Version) → Some_of P vs → Some_of P (inserted start_cmp r vs)
some_still P r [] h = absurd h
some_still P r (v ∷ vs) h = here (is_gt (start_cmp r v)) h (some_still P r vs)
  where
    here : (b : Bool) → Some_of P (v ∷ vs) → (Some_of P vs → Some_of P (inserted start_cmp r vs)) → Some_of P (if b then v ∷ inserted start_cmp r vs else r ∷ v ∷ vs)
    here true k more = elim k [ inl p ↦ inl p | inr q ↦ inr (more q) ]
    here false k more = inr k

-- ---- what rows tell

-- a row started now isn't before what started before now
pub never_both : (place : ℕ → ℕ) (a b : EventId) → IsEarlier place a b → IsEarlier place b a → ⊥
never_both place a b h k = elim h [
  | inl lt ↦ elim k [ inl lu ↦ omega (arith, lt, lu) | inr q ↦ omega (arith, lt, q.0) ]
  | inr p ↦ elim k [ inl lu ↦ omega (arith, p.0, lu) | inr q ↦ omega (arith, p.1, q.1) ]
]

abbrev pub IsAbout : ℕ → ℕ → Version → Type 0
IsAbout id n w = IsAboutColumn id n (values_of w)

module _ (place : ℕ → ℕ) where
  module _ (second : List Version) (id : ℕ) where
    -- the last of all rows about the column
    abbrev pub IsLast : ℕ → Version → Type 0
    IsLast n w = IsAbout id n w × AllByRecursion (λ x. IsAbout id n x → IsEarlier place w.start x.start → ⊥) second

    -- that one doesn't say NOT NULL
    abbrev pub MayBeNull : ℕ → Type 0
    MayBeNull n = AllByRecursion (λ w. IsLast n w → SaysNotNull (values_of w) → ⊥) second

    -- there is a row about column n, and where the column may be NULL, the last such row doesn't say NOT NULL
    pub record IsTold (n : ℕ) (c : ColumnDef) : Type 0 where
      pub there : Some_of (IsAbout id n) second
      pub nulls : c.nullable ≡ true → MayBeNull n

    -- of each of the columns, which have the ordinals from n on
    abbrev pub AreTold : ℕ → List ColumnDef → Type 0
    AreTold n columns = (j : ℕ) (c : ColumnDef) → slice_get columns j ≡ Some c → IsTold (n + j) c

    -- no row is about a column behind the first so many
    abbrev pub NoneBehind : ℕ → Type 0
    NoneBehind count = AllByRecursion (λ w. (n : ℕ) → count < n → n < 1000 → IsAbout id n w → ⊥) second

    told_next : (n : ℕ) (c : ColumnDef) (cs : List ColumnDef) → AreTold n (c ∷ cs) → AreTold (n + 1) cs
    told_next n c cs h j d e = subst (λ (m : ℕ). IsTold m d) (omega arith) (h (suc j) d e)

    told_first : (n : ℕ) (c : ColumnDef) (cs : List ColumnDef) → AreTold n (c ∷ cs) → IsTold n c
    told_first n c cs h = subst (λ (m : ℕ). IsTold m c) (omega arith) (h 0 c refl)

  -- the columns took the values of a version when it started
  abbrev pub Took : List Version → ℕ → List ColumnDef → Version → Type 0
  Took second id columns v = TakeFrom place second id v.start 1 (filled_stored columns v.values)

  -- rows tell of a table's columns and of no others, and its columns took the values of its versions
  pub record ToldTable (second : List Version) (t : Table) : Type 0 where
    pub columns : AreTold second t.def.id 1 t.def.columns
    pub behind : NoneBehind second t.def.id (length t.def.columns)
    pub versions : AllByRecursion (Took second t.def.id t.def.columns) t.versions

  -- ---- a version that starts

  module _ (second : List Version) (id : ℕ) (now : EventId) (past : AllByRecursion (IsPast place now) second) where
    some_before : (n : ℕ) (ws : List Version) → AllByRecursion (IsPast place now) ws → Some_of (IsAbout id n) ws → Some_of (IsRowBefore place second id now n) ws
    some_before n [] p h = absurd h
    some_before n (w ∷ ws) p h = elim h [ inl a ↦ inl (a, p.0.start) | inr k ↦ inr (some_before n ws p.1 k) ]

    last_of_all : (n : ℕ) (w : Version) → IsLastBefore place second id now n w → IsLast second id n w
    last_of_all n w h = (
      h.before.0,
      all_weaker (λ x. IsPast place now x × (IsRowBefore place second id now n x → IsEarlier place w.start x.start → ⊥)) (λ x. IsAbout id n x → IsEarlier place w.start x.start → ⊥)
          (λ x p a later. p.1 (a, p.0.start) later) second
          (all_both (IsPast place now) (λ x. IsRowBefore place second id now n x → IsEarlier place w.start x.start → ⊥) second past h.last),
    )

    taken : (n : ℕ) (c : ColumnDef) (v : Option TypedValue) → IsTold second id n c → FitsColumn c v → Takes place second id now n v
    taken n c None h fits =
        all_weaker (λ w. IsLast second id n w → SaysNotNull (values_of w) → ⊥) (λ w. IsLastBefore place second id now n w → SaysNotNull (values_of w) → ⊥)
        (λ w k last. k (last_of_all n w last)) second (h.nulls fits)
    taken n c (Some t) h fits = some_before n second past h.there

    all_taken : (n : ℕ) (cs : List ColumnDef) (vs : List (Option TypedValue)) → AreTold second id n cs → Fits cs vs → TakeFrom place second id now n vs
    all_taken n [] [] h fits = tt
    all_taken n [] (v ∷ vs) h fits = absurd fits
    all_taken n (c ∷ cs) [] h fits = absurd fits
    all_taken n (c ∷ cs) (v ∷ vs) h fits =
        (taken n c v (told_first second id n c cs h) fits.0, all_taken (n + 1) cs vs (told_next second id n c cs h) fits.1)

    pub started_taken : (cs : List ColumnDef) (vs : List (Option TypedValue)) → AreTold second id 1 cs → Fits cs vs → TakeFrom place second id now 1 (filled_stored cs vs)
    started_taken cs vs h fits =
        subst (TakeFrom place second id now 1) (sym (filled_stored_whole cs vs (omega (arith, as_many cs vs fits)))) (all_taken 1 cs vs h fits)

  -- ---- one more row

  module _ (second : List Version) (id : ℕ) (r : Version) where
    abbrev More : List Version
    More = inserted start_cmp r second

    -- about another column
    pub still_told : (n : ℕ) (c : ColumnDef) → (IsAboutColumn id n (values_of r) → ⊥) → IsTold second id n c → IsTold More id n c
    still_told n c other h = record {
      there = some_still (IsAbout id n) r second h.there;
      nulls = λ e. all_inserted (λ w. IsLast More id n w → SaysNotNull (values_of w) → ⊥) start_cmp r second (λ last. absurd (other last.0))
          (all_weaker (λ w. IsLast second id n w → SaysNotNull (values_of w) → ⊥) (λ w. IsLast More id n w → SaysNotNull (values_of w) → ⊥)
          (λ w k last. k (last.0, (with_one (λ x. IsAbout id n x → IsEarlier place w.start x.start → ⊥) r second last.1).1)) second (h.nulls e));
    }

    -- not before an event
    module _ (at : EventId) (later : IsEarlier place r.start at → ⊥) where
      still_takes : (n : ℕ) (v : Option TypedValue) → Takes place second id at n v → Takes place More id at n v
      still_takes n (Some t) h = some_still (IsRowBefore place second id at n) r second h
      still_takes n None h =
          all_inserted (λ w. IsLastBefore place More id at n w → SaysNotNull (values_of w) → ⊥) start_cmp r second (λ last. absurd (later last.before.1))
          (all_weaker (λ w. IsLastBefore place second id at n w → SaysNotNull (values_of w) → ⊥) (λ w. IsLastBefore place More id at n w → SaysNotNull (values_of w) → ⊥)
          (λ w k last. k (record {
            before = last.before;
            last = (with_one (λ x. IsRowBefore place More id at n x → IsEarlier place w.start x.start → ⊥) r second last.last).1;
          })) second h)

      still_take : (n : ℕ) (vs : List (Option TypedValue)) → TakeFrom place second id at n vs → TakeFrom place More id at n vs
      still_take n [] h = tt
      still_take n (v ∷ vs) h = (still_takes n v h.0, still_take (n + 1) vs h.1)

    -- no version of the table started before now
    pub all_took : (now : EventId) (columns : List ColumnDef) (vs : List Version) → r.start ≡ now → AllByRecursion (IsPast place now) vs → AllByRecursion (Took second id columns) vs → AllByRecursion (Took More id columns) vs
    all_took now columns vs e past h =
        all_weaker (λ v. IsPast place now v × Took second id columns v) (Took More id columns)
        (λ v k. still_take v.start (λ before. never_both place v.start now k.0.start (subst (λ (a : EventId). IsEarlier place a v.start) e before)) 1 (filled_stored columns v.values) k.1) vs
        (all_both (IsPast place now) (Took second id columns) vs past h)

    -- none about a column behind
    pub still_none : (count : ℕ) → ((n : ℕ) → count < n → n < 1000 → IsAboutColumn id n (values_of r) → ⊥) → NoneBehind second id count → NoneBehind More id count
    still_none count none h = all_inserted (λ w. (n : ℕ) → count < n → n < 1000 → IsAbout id n w → ⊥) start_cmp r second none h

-- a row about no column of the table
pub still_told_table : (place : ℕ → ℕ) (second : List Version) (now : EventId) (r : Version) (t : Table) → r.start ≡ now → ((n : ℕ) → n < 1000 → IsAboutColumn t.def.id n (values_of r) → ⊥) → length t.def.columns ≤ 64
    → AllByRecursion (IsPast place now) t.versions → ToldTable place second t → ToldTable place (inserted start_cmp r second) t
still_told_table place second now r t e none few past h = record {
  columns = λ j c is. (let lt = slice_get_within t.def.columns j c is in still_told place second t.def.id r (1 + j) c (none (1 + j) (omega (arith, lt, few))) (h.columns j c is));
  behind = still_none place second t.def.id r (length t.def.columns) (λ n behind lt. none n lt) h.behind;
  versions = all_took place second t.def.id r now t.def.columns t.versions e past h.versions;
}
