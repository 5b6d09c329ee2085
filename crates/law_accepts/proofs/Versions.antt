-- Each version in the image of a legal journal fits its table as it was when the version started, and follows the
-- one before it.
use Rattle.std.proofs.Common.{◌≡◌, ◌≤◌, ◌<◌, ◌⊎◌, ℕ, inl, inr, refl, ap, sym, subst, ◌∙◌, List, [], ◌∷◌, map, flat_map, Bool, true, false, Option, Some, None, arith, nat_lt}
use Rattle.std.specs.Prelude.{◌==◌, ◌&&◌, ◌||◌, not, if◌then◌else◌, IfSome, is_some, is_none}
use Rattle.std.specs.List.{AllByRecursion, list_any}
use Rattle.std.proofs.lemmas.Bool.{cases_lt, eq-eqb, eqb-true, le-leb, lt-leb, lt-ltb, ltb-true}
use Rattle.sql_value.specs.declared.column.ColumnDef.{ColumnDef}
use Rattle.sql_value.specs.declared.column.TableKind.{TableKind}
use Rattle.sql_value.specs.declared.column.TableKind.TheVariants.{AppendOnly, Updatable}
use Rattle.sql_value.specs.declared.sql_type.SqlType.{SqlType}
use Rattle.sql_types.specs.declared.entry.TxEntry.{TxEntry}
use Rattle.sql_types.specs.declared.journal.JournalItem.{JournalItem}
use Rattle.sql_types.specs.declared.table.TableDef.{TableDef}
use Rattle.sql_types.specs.declared.version.Table.{Table}
use Rattle.sql_types.specs.declared.version.TypedValue.{TypedValue}
use Rattle.sql_types.specs.declared.version.Version.{Version}
use Rattle.spec_model.specs.Catalog.{Tables, defs_of, versions_of}
use Rattle.spec_model.specs.Checks.{is_append_only}
use Rattle.spec_model.specs.Journals.{serial, IsLegal}
use Rattle.spec_model.specs.Keys.{Key, same_key, version_key, of_key}
use Rattle.spec_model.specs.Rows.{EventId, same_event, live, filled_stored}
use Rattle.spec_model.specs.Script.{Reading}
use Rattle.spec_model.specs.SystemTables.{columns_columns, columns_id}
use Rattle.law_frame.proofs.Alls.{all_weaker, all_both, all_append, all_filter, all_pass}
use Rattle.law_frame.proofs.SameKeys.{and_true}
use Rattle.law_catalog_rows.specs.Formed.{AreInFront}
use Rattle.law_catalog_time.specs.AsOfStart.{TakeFrom, AllRespectColumns, VersionsRespectColumns}
use Rattle.law_catalog_time.proofs.Journals.{legal_respects}
use Rattle.law_journal.specs.AppendOnly.{KeepsRows, AllKeepRows}
use Rattle.law_journal.specs.Fits.{FitsColumn, Fits}
use Rattle.law_journal.specs.Kept.{IsEarlier, EndedBefore, Apart, AllApart}
use Rattle.law_journal.specs.Serial.{place_in, HasTx, IsOf, TableOf}
use Rattle.law_journal.proofs.Order.{apart_flip, then_}
use Rattle.law_journal.proofs.Serials.{legal_tables, legal_keeps_rows}
use Rattle.spec_ledger.specs.Ledger.{entries_of}
use Rattle.format_image.specs.Image.{image_of}
use Rattle.format_image.specs.Rows.{Stored, ended_ones, filled_table, filled_version, table_rows}
use Rattle.spec_verify.specs.Entries.{least_event}
use Rattle.spec_verify.specs.Order.{position_of, is_before, is_earlier, later_of, latest, ends_before, ends_well, follows, before, is_in_order, shares_key}
use Rattle.spec_verify.specs.Versions.{same_type, is_of, has_columns, respects_columns, respects_from, respects_not_null, rows_of_columns, with_columns, version_holds, bad_versions, version_fault}
use Rattle.law_accepts.proofs.Columns.{respected}
use Rattle.law_accepts.proofs.Definitions.{second_whole}
use Rattle.law_accepts.proofs.FilledTables.{filled_tables, all_filled, all_fit, filled_fits, keep_rows, tables_filled}
use Rattle.law_accepts.proofs.Firsts.{both}
use Rattle.law_accepts.proofs.Ids.{none_left, same_place}
use Rattle.law_accepts.proofs.Indexes.{own_type}
use Rattle.law_accepts.proofs.Shown.{in_front, in_parts, tables_shown}

-- ---- columns

of_column : (c : ColumnDef) (v : Option TypedValue) → FitsColumn c v → is_of c v ≡ true
of_column c None fits = refl
of_column c (Some t) fits = both (ap (λ (ty : SqlType). same_type ty c.ty) fits.0 ∙ own_type c.ty) fits.2

pub columns_fit : (columns : List ColumnDef) (values : Stored) → Fits columns values → has_columns columns values ≡ true
columns_fit [] [] fits = refl
columns_fit [] (v ∷ vs) fits = absurd fits
columns_fit (c ∷ cs) [] fits = absurd fits
columns_fit (c ∷ cs) (v ∷ vs) fits = both (of_column c v fits.0) (columns_fit cs vs fits.1)

or_true : (a : Bool) → (a || true) ≡ true
or_true true = refl
or_true false = refl

there_or_null : (c : ColumnDef) (v : Option TypedValue) → FitsColumn c v → (c.nullable || is_some v) ≡ true
there_or_null c None fits = rw fits refl
there_or_null c (Some t) fits = or_true c.nullable

values_fit : (columns : List ColumnDef) (values : Stored) → Fits columns values → respects_not_null columns values ≡ true
values_fit [] [] fits = refl
values_fit [] (v ∷ vs) fits = absurd fits
values_fit (c ∷ cs) [] fits = absurd fits
values_fit (c ∷ cs) (v ∷ vs) fits = both (there_or_null c v fits.0) (values_fit cs vs fits.1)

all_kept : (columns : List ColumnDef) (versions : List Version) → AllByRecursion (λ v. Fits columns v.values) versions → with_columns columns versions ≡ versions
all_kept columns [] fit = refl
all_kept columns (v ∷ vs) fit = rw (columns_fit columns v.values fit.0, all_kept columns vs fit.1) refl

-- each version of the table has a value for each column
abbrev AllFit : Table → Type 0
AllFit t = AllByRecursion (λ v. Fits t.def.columns v.values) t.versions

-- no version has an end
all_live : (vs : List Version) → AllByRecursion (λ v. v.end ≡ None) vs → live vs ≡ vs
all_live [] h = refl
all_live (v ∷ vs) h = rw (h.0, all_live vs h.1) refl

-- NULL stands where it may in each version of the table
abbrev AllRespect : List TxEntry → List Version → Table → Type 0
AllRespect entries second t = AllByRecursion (λ v. respects_columns entries second t.def v ≡ true) t.versions

-- ---- append-only tables

no_history : (kind : TableKind) (v : Version) → (kind ≡ AppendOnly → v.end ≡ None) → not (is_append_only kind && is_some v.end) ≡ true
no_history AppendOnly v h = rw (h refl) refl
no_history Updatable v h = refl

-- ---- the order of versions

-- two versions in a list are one, or apart
abbrev OneOrApart : (ℕ → ℕ) → List ColumnDef → Version → Version → Type 0
OneOrApart place columns v w = (w ≡ v) ⊎ Apart place columns w v

module _ (place : ℕ → ℕ) (columns : List ColumnDef) where
  with_others : (v : Version) (vs us : List Version) → AllByRecursion (Apart place columns v) us → AllByRecursion (λ u. AllByRecursion (OneOrApart place columns u) vs) us
      → AllByRecursion (λ u. AllByRecursion (OneOrApart place columns u) (v ∷ vs)) us
  with_others v vs [] apart all = tt
  with_others v vs (u ∷ us) apart all = ((inr apart.0, all.0), with_others v vs us apart.1 all.1)

  pub each_apart : (vs : List Version) → AllApart place columns vs → AllByRecursion (λ v. AllByRecursion (OneOrApart place columns v) vs) vs
  each_apart [] apart = tt
  each_apart (v ∷ vs) apart = (
    (inl refl, all_weaker (Apart place columns v) (OneOrApart place columns v) (λ w a. inr (apart_flip place columns v w a)) vs apart.0),
    with_others v vs vs apart.0 (each_apart vs apart.1),
  )

never_itself : (place : ℕ → ℕ) (a : EventId) → IsEarlier place a a → ⊥
never_itself place a h = elim h [ inl lt ↦ omega (arith, lt) | inr p ↦ omega (arith, p.1) ]

or_cases : (a b : Bool) → (a || b) ≡ true → (a ≡ true) ⊎ (b ≡ true)
or_cases true b e = inl refl
or_cases false b e = inr e

some_or_none : (o : Option EventId) → is_some o ≡ true → is_none o ≡ true → ⊥
some_or_none None e f = cc
some_or_none (Some x) e f = cc

module _ (items : List JournalItem) (entries : List TxEntry) (same : (id : ℕ) → position_of entries id ≡ place_in items id) where
  abbrev place : ℕ → ℕ
  place = place_in items

  by_test : (a b : EventId) → IsEarlier place a b → is_before entries a b ≡ true
  by_test a b h = rw (same a.0, same b.0) (elim h [
    | inl lt ↦ (rw (lt-ltb (place a.0) (place b.0) lt) refl)
    | inr p ↦ (rw (eq-eqb (place a.0) (place b.0) p.0, lt-ltb a.1 b.1 p.1) (or_true (nat_lt (place a.0) (place b.0))))
  ])

  from_test : (a b : EventId) → is_before entries a b ≡ true → IsEarlier place a b
  from_test a b e =
      let test : (nat_lt (place a.0) (place b.0) || ((place a.0 == place b.0) && nat_lt a.1 b.1)) ≡ true = rw (same a.0, same b.0) at e in
      elim (or_cases (nat_lt (place a.0) (place b.0)) ((place a.0 == place b.0) && nat_lt a.1 b.1) test) [
        | inl lt ↦ inl (ltb-true (place a.0) (place b.0) lt)
        | inr p ↦ (let q = and_true (place a.0 == place b.0) (nat_lt a.1 b.1) p in inr (eqb-true (place a.0) (place b.0) q.0, ltb-true a.1 b.1 q.1))
      ]

  after_start : (v : Version) → IsOf items v → ends_well entries v v.end ≡ true
  after_start v is = here v.end is.end
    where
      here : (o : Option EventId) → IfSome o (λ e. HasTx items e.0 × IsEarlier place v.start e) → ends_well entries v o ≡ true
      here None h = refl
      here (Some e) h = by_test v.start e h.1

  starts_before : (v : Version) (e : EventId) → IsOf items v → v.end ≡ Some e → IsEarlier place v.start e
  starts_before v e is end = here v.end is.end end
    where
      here : (o : Option EventId) → IfSome o (λ x. HasTx items x.0 × IsEarlier place v.start x) → o ≡ Some e → IsEarlier place v.start e
      here None h k = cc
      here (Some x) h k = let one : x ≡ e = cc in subst (IsEarlier place v.start) one h.1

  module _ (columns : List ColumnDef) where
    abbrev Precedes : Version → Version → Type 0
    Precedes v w = ends_before entries w.end v.start ≡ true

    ended_then : (v w : Version) → EndedBefore place v.start w → Precedes v w
    ended_then v w h = ap (λ (o : Option EventId). ends_before entries o v.start) h.1 ∙ by_test h.0 v.start h.2

    not_both_ways : (v w : Version) → IsOf items v → EndedBefore place w.start v → is_earlier entries w v ≡ true → ⊥
    not_both_ways v w is ended earlier =
        elim (or_cases (is_before entries w.start v.start) (same_event w.start v.start && (is_some w.end && is_none v.end)) earlier) [
          | inl b ↦ never_itself place v.start (then_ place v.start ended.0 v.start (starts_before v ended.0 is ended.1) (then_ place ended.0 w.start v.start ended.2 (from_test w.start v.start b)))
          | inr p ↦ (let q = and_true (is_some w.end) (is_none v.end) (and_true (same_event w.start v.start) (is_some w.end && is_none v.end) p).1 in
              let some : is_some v.end ≡ true = ap is_some ended.1 in some_or_none v.end some q.1)
        ]

    not_itself : (v : Version) → is_earlier entries v v ≡ true → ⊥
    not_itself v earlier =
        elim (or_cases (is_before entries v.start v.start) (same_event v.start v.start && (is_some v.end && is_none v.end)) earlier) [
          | inl b ↦ never_itself place v.start (from_test v.start v.start b)
          | inr p ↦ (let q = and_true (is_some v.end) (is_none v.end) (and_true (same_event v.start v.start) (is_some v.end && is_none v.end) p).1 in some_or_none v.end q.0 q.1)
        ]

    -- an earlier version of the key ends before this one starts
    precedes : (v w : Version) → IsOf items v → OneOrApart place columns v w → same_key (version_key columns w) (version_key columns v) ≡ true → is_earlier entries w v ≡ true → Precedes v w
    precedes v w is apart key earlier = elim apart [
      | inl one ↦ absurd (not_itself v (ap (λ (x : Version). is_earlier entries x v) (sym one) ∙ earlier))
      | inr a ↦ elim (a key) [ inl ended ↦ ended_then v w ended | inr ended ↦ absurd (not_both_ways v w is ended earlier) ]
    ]

    all_precede : (v : Version) (vs : List Version) → IsOf items v → AllByRecursion (OneOrApart place columns v) vs → AllByRecursion (Precedes v) (before entries columns vs v)
    all_precede v vs is apart =
        let key : Key = version_key columns v in
        let found : List Version = of_key columns key vs in
        let P : Version → Type 0 = λ w. OneOrApart place columns v w × (same_key (version_key columns w) key ≡ true) in
        let Q : Version → Type 0 = λ w. is_earlier entries w v ≡ true in
        all_weaker (λ w. P w × Q w) (Precedes v) (λ w h. precedes v w is h.0.0 h.0.1 h.1) (before entries columns vs v)
        (all_both P Q (before entries columns vs v)
        (all_filter P (λ w. is_earlier entries w v) found (all_both (OneOrApart place columns v) (λ w. same_key (version_key columns w) key ≡ true) found
        (all_filter (OneOrApart place columns v) (λ w. same_key (version_key columns w) key) vs apart) (all_pass (λ w. same_key (version_key columns w) key) vs)))
        (all_pass (λ w. is_earlier entries w v) found))

    latest_of : (P : Version → Type 0) (vs : List Version) → AllByRecursion P vs → IfSome (latest entries vs) P
    latest_of P [] all = tt
    latest_of P (v ∷ vs) all = here (latest entries vs) (latest_of P vs all.1)
      where
        chosen : (b : Bool) (w : Version) → P w → IfSome (if b then Some v else Some w) P
        chosen true w h = all.0
        chosen false w h = h

        here : (o : Option Version) → IfSome o P → IfSome (later_of entries v o) P
        here None h = all.0
        here (Some w) h = chosen (is_earlier entries w v) w h

    follows_it : (v : Version) (o : Option Version) → IfSome o (Precedes v) → follows entries v o ≡ true
    follows_it v None h = refl
    follows_it v (Some w) h = h

    has_ended : (v w : Version) → Precedes v w → is_none w.end ≡ false
    has_ended v w h = here w.end h
      where
        here : (o : Option EventId) → ends_before entries o v.start ≡ true → is_none o ≡ false
        here None e = cc
        here (Some x) e = refl

    none_open : (v : Version) (vs : List Version) → AllByRecursion (Precedes v) vs → list_any (λ (w : Version). is_none w.end) vs ≡ false
    none_open v [] all = refl
    none_open v (w ∷ ws) all = rw (has_ended v w all.0) (none_open v ws all.1)

    not_and : (a b : Bool) → b ≡ false → not (a && b) ≡ true
    not_and true b e = ap not e
    not_and false b e = refl

    five : {a b c d e : Bool} → a ≡ true → b ≡ true → c ≡ true → d ≡ true → e ≡ true → (a && b && c && d && e) ≡ true
    five p q r s t = rw (p, q, r, s, t) refl

  -- ---- all versions of a table

  module _ (second : List Version) (t : Table) (is : TableOf items t) (whole : AllFit t) (keeps : KeepsRows t) (respect : AllRespect entries second t) where
    abbrev Facts : Version → Type 0
    Facts v = (IsOf items v × Fits t.def.columns v.values) × ((t.def.kind ≡ AppendOnly → v.end ≡ None) × AllByRecursion (OneOrApart place t.def.columns v) t.versions)

    kept_end : (k : TableKind) (vs : List Version) → (k ≡ AppendOnly → AllByRecursion (λ v. v.end ≡ None) vs) → AllByRecursion (λ v. k ≡ AppendOnly → v.end ≡ None) vs
    kept_end k [] h = tt
    kept_end k (v ∷ vs) h = ((λ e. (h e).0), kept_end k vs (λ e. (h e).1))

    facts : AllByRecursion Facts t.versions
    facts =
        all_both (λ v. IsOf items v × Fits t.def.columns v.values) (λ v. (t.def.kind ≡ AppendOnly → v.end ≡ None) × AllByRecursion (OneOrApart place t.def.columns v) t.versions) t.versions
        (all_both (IsOf items) (λ v. Fits t.def.columns v.values) t.versions is.ids whole)
        (all_both (λ v. t.def.kind ≡ AppendOnly → v.end ≡ None) (λ v. AllByRecursion (OneOrApart place t.def.columns v) t.versions) t.versions
        (kept_end t.def.kind t.versions keeps) (each_apart place t.def.columns t.versions is.apart))

    -- in both parts of the table as the image shows it
    in_both : (P : Version → Type 0) → AllByRecursion P t.versions → AllByRecursion P (in_parts t).versions
    in_both P all = all_append P (live t.versions) (ended_ones t.versions) (all_filter P _ t.versions all) (all_filter P _ t.versions all)

    one_holds : (v : Version) → Facts v → respects_columns entries second t.def v ≡ true → version_holds entries second (in_parts t) v ≡ true
    one_holds v f respects =
        let vs : List Version = (in_parts t).versions in
        let columns : List ColumnDef = t.def.columns in
        let fit : AllByRecursion (λ w. Fits columns w.values) vs = in_both (λ w. Fits columns w.values) whole in
        let all : AllByRecursion (Precedes columns v) (before entries columns vs v) = all_precede columns v vs f.0.0 (in_both (OneOrApart place columns v) f.1.1) in
        let shown : with_columns columns vs ≡ vs = all_kept columns vs fit in
        five columns (columns_fit columns v.values f.0.1) respects (no_history t.def.kind v f.1.0)
        (ap (λ (ws : List Version). not (shares_key entries columns ws v)) shown ∙ not_and columns (is_none v.end) _ (none_open columns v (before entries columns vs v) all))
        (ap (λ (ws : List Version). is_in_order entries columns ws v) shown
        ∙ both (after_start v f.0.0) (follows_it columns v (latest entries (before entries columns vs v)) (latest_of columns (Precedes columns v) (before entries columns vs v) all)))

    none_bad : bad_versions entries second (in_parts t) ≡ []
    none_bad =
        let Good : Version → Type 0 = λ v. Facts v × (respects_columns entries second t.def v ≡ true) in
        ap (map (λ (v : Version). (t.def.id, v.start)))
        (none_left (λ v. not (version_holds entries second (in_parts t) v)) (in_parts t).versions
        (all_weaker Good (λ v. not (version_holds entries second (in_parts t) v) ≡ false) (λ v f. ap not (one_holds v f.0 f.1)) (in_parts t).versions
        (in_both Good (all_both Facts (λ v. respects_columns entries second t.def v ≡ true) t.versions facts respect))))

  no_bad : (second : List Version) (T : Tables) → AllByRecursion (TableOf items) T → AllByRecursion AllFit T → AllKeepRows T → AllByRecursion (AllRespect entries second) T
      → flat_map (bad_versions entries second) (map in_parts T) ≡ []
  no_bad second [] all whole keep respect = refl
  no_bad second (t ∷ ts) all whole keep respect = rw (none_bad second t all.0 whole.0 keep.0 respect.0, no_bad second ts all.1 whole.1 keep.1 respect.1) refl

  -- ---- NULL where columns took it

  as_defined : (second : List Version) (def : TableDef) (v : Version) → def.id ≤ columns_id → Fits def.columns v.values → respects_columns entries second def v ≡ true
  as_defined second def v le fits = ap (λ (b : Bool). if b then respects_not_null def.columns v.values else respects_from entries second def.id 1 v.start v.values) (le-leb def.id columns_id le) ∙ values_fit def.columns v.values fits

  as_of_start : (second : List Version) (def : TableDef) (v : Version) → columns_id < def.id → respects_from entries second def.id 1 v.start v.values ≡ true → respects_columns entries second def v ≡ true
  as_of_start second def v lt e = ap (λ (b : Bool). if b then respects_not_null def.columns v.values else respects_from entries second def.id 1 v.start v.values) (lt-leb def.id columns_id lt) ∙ e

  module _ (second : List Version) (fit : AllByRecursion (λ (r : Version). has_columns columns_columns r.values ≡ true) second) where
    -- the versions of a table when they are filled, which start where they did
    filled_respects : (t : Table) → TableOf items t → AllRespectColumns place second t → AllRespect entries second (filled_table t)
    filled_respects t is respect = elim (cases_lt columns_id t.def.id) [
      | inr le ↦ all_weaker (λ v. Fits t.def.columns v.values) (λ v. respects_columns entries second t.def v ≡ true) (λ v fits. as_defined second t.def v le fits)
          (filled_table t).versions (filled_fits t.def.columns t.versions is.fit)
      | inl lt ↦ all_filled t.def.columns (λ v. TakeFrom place second t.def.id v.start 1 (filled_stored t.def.columns v.values)) (λ v. respects_columns entries second t.def v ≡ true)
          (λ v takes. as_of_start second t.def (filled_version t.def.columns v) lt (respected entries place by_test from_test second fit t.def.id v.start 1 (filled_stored t.def.columns v.values) takes))
          t.versions (respect lt)
    ]

    filled_respect : (ts : Tables) → AllByRecursion (TableOf items) ts → AllByRecursion (AllRespectColumns place second) ts → AllByRecursion (AllRespect entries second) (filled_tables ts)
    filled_respect [] is respect = tt
    filled_respect (t ∷ ts) is respect = (filled_respects t is.0 respect.0, filled_respect ts is.1 respect.1)

  -- the rows of the table of columns are all in its base, with a value for each column
  all_respect : (T : Tables) → AllByRecursion (TableOf items) T → AreInFront (defs_of T) → AllKeepRows T → VersionsRespectColumns place T
      → AllByRecursion (AllRespect entries (rows_of_columns (map table_rows T))) (filled_tables T)
  unfolding table_rows
  all_respect [] is front keep respect = absurd front
  all_respect (a ∷ []) is front keep respect = absurd front
  all_respect (a ∷ b ∷ users) is front keep respect =
      let first : a.def.id ≡ 1 = ap (λ (d : TableDef). d.id) front.0 in
      let second : b.def.id ≡ columns_id = ap (λ (d : TableDef). d.id) front.1 in
      let all : List Version = b.versions in
      let full : map (filled_version b.def.columns) all ≡ all = second_whole items b front.1 is.1.0 in
      let none_ended : live all ≡ all = all_live all (keep.1.0 (ap (λ (d : TableDef). d.kind) front.1)) in
      let found : versions_of (a ∷ b ∷ users) columns_id ≡ all = rw (first, second) refl in
      let own : AllByRecursion (λ v. Fits b.def.columns v.values) all = subst (λ (vs : List Version). AllByRecursion (λ v. Fits b.def.columns v.values) vs) full (filled_fits b.def.columns all is.1.0.fit) in
      let fit : AllByRecursion (λ (r : Version). has_columns columns_columns r.values ≡ true) all =
      all_weaker (λ v. Fits columns_columns v.values) (λ (r : Version). has_columns columns_columns r.values ≡ true) (λ v f. columns_fit columns_columns v.values f) all
      (subst (λ (d : TableDef). AllByRecursion (λ v. Fits d.columns v.values) all) front.1 own) in
      subst (λ (vs : List Version). AllByRecursion (AllRespect entries vs) (filled_tables (a ∷ b ∷ users))) (sym (ap live full ∙ none_ended))
      (filled_respect all fit (a ∷ b ∷ users) is (subst (λ (vs : List Version). AllByRecursion (AllRespectColumns place vs) (a ∷ b ∷ users)) found respect))

pub versions_hold : (h : List ℕ → List ℕ) (reads : Reading) (database : List ℕ) (items : List JournalItem) → IsLegal reads items → version_fault (image_of h reads database items) ≡ None
unfolding image_of version_fault
versions_hold h reads database items legal =
    let T : Tables = serial reads items in
    let entries : List TxEntry = entries_of h reads items in
    let second : List Version = rows_of_columns (map table_rows T) in
    let each = (legal_tables reads items legal).each in
    let keep : AllKeepRows T = legal_keeps_rows reads items legal in
    ap least_event
    (ap (λ (shown : Tables). flat_map (bad_versions entries second) shown) (tables_shown h reads database items legal)
    ∙ no_bad items entries (same_place h reads items legal) second (filled_tables T) (tables_filled items T each) (all_fit items T each) (keep_rows T keep)
    (all_respect items entries (same_place h reads items legal) T each (in_front h reads database items legal) keep (legal_respects reads items legal)))
