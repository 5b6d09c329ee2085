-- The image of a legal journal tells the tables as they were behind its first transactions.
use Rattle.std.proofs.Common.{◌≡◌, ◌≤◌, ◌<◌, ◌+◌, ◌*◌, ℕ, pos, inl, inr, refl, sym, ap, ap₂, subst, ◌∙◌, Bool, true, false, List, [], ◌∷◌, map, take, length, Option, None, arith}
use Rattle.std.proofs.lemmas.Int.{ints}
use Rattle.std.proofs.lemmas.List.{length-map}
use Rattle.std.specs.Prelude.{codes, is_none}
use Rattle.std.specs.List.{AllByRecursion}
use Rattle.sql_value.specs.declared.column.TableKind.TheVariants.{AppendOnly}
use Rattle.sql_value.specs.declared.sql_type.SqlType.TheVariants.{Int}
use Rattle.sql_types.specs.declared.journal.JournalItem.{JournalItem}
use Rattle.sql_types.specs.declared.statement.Stmt.{Stmt}
use Rattle.sql_types.specs.declared.table.TableDef.{TableDef}
use Rattle.sql_types.specs.declared.version.Table.{Table}
use Rattle.sql_types.specs.declared.version.Version.{Version}
use Rattle.spec_model.specs.Agreement.{IdsFrom}
use Rattle.spec_model.specs.Catalog.{Defs, Tables, defs_of, versions_of}
use Rattle.spec_model.specs.Journals.{upto, serial, IsLegal}
use Rattle.spec_model.specs.Keys.{version_key}
use Rattle.spec_model.specs.Lists.{is_among}
use Rattle.spec_model.specs.Rows.{Row, live, values_of}
use Rattle.spec_model.specs.Script.{Reading}
use Rattle.spec_model.specs.SystemTables.{a_column, columns_columns, columns_def, columns_id, name_type, tables_columns, tables_def}
use Rattle.spec_history.specs.Journals.{ids_of}
use Rattle.law_frame.proofs.Alls.{all_weaker}
use Rattle.law_frame.proofs.UndoneTables.{own_versions}
use Rattle.law_journal.specs.AppendOnly.{KeepsRows, AllKeepRows}
use Rattle.law_journal.specs.Described.{items_below, IsColumnKey, Described}
use Rattle.law_journal.specs.Fine.{OfTable}
use Rattle.law_journal.specs.Fits.{FitsSoFar}
use Rattle.law_journal.specs.Serial.{TableOf}
use Rattle.law_journal.proofs.Serials.{legal_described as legal_keys, legal_keeps_rows, legal_tables}
use Rattle.law_journal.proofs.SoFar.{few}
use Rattle.law_catalog_rows.specs.Encoded.{about, live_rows, AreEncodedByRows, EncodeDef, IsAmong, RowsEncode}
use Rattle.law_catalog_rows.specs.Formed.{AreInFront, AllFormed, Formed}
use Rattle.law_catalog_rows.specs.IsEncodableDef.{has_new_names, is_encodable_def}
use Rattle.law_catalog_rows.specs.Latest.{latest}
use Rattle.law_catalog_rows.specs.Written.{AllWritten, ReadsWritten, Written}
use Rattle.law_catalog_rows.proofs.Defs.{HasId, has_id}
use Rattle.law_catalog_rows.proofs.Journals.{legal_described, legal_encoded, legal_ids, legal_written}
use Rattle.format_image.specs.Image.{image_of, user_defs}
use Rattle.format_image.specs.Rows.{filled_version, filled_table, table_rows}
use Rattle.law_accepts.proofs.FilledTables.{all_stay}
use Rattle.spec_asof.specs.Answer.{answer_of}
use Rattle.spec_asof.specs.DatabaseAt.{database_at, rows_at, system_at, tables_at, users_at, versions_at}
use Rattle.law_asof.proofs.Grown.{GrowAll, filter_own}
use Rattle.law_asof.proofs.Answered.{answered_same}
use Rattle.law_asof.proofs.GrowAlong.{upto_grows}
use Rattle.law_asof.proofs.Later.{upto_legal}
use Rattle.law_asof.proofs.Told.{all_left, first_are}
use Rattle.law_asof.proofs.ToldIndexes.{IsItemRow}
use Rattle.law_asof.proofs.ToldTables.{IsSaid, IsLeft, items_of_table, own_items, users_told}

-- what is known of the tables so far, and of the later ones
record Known (has : ℕ → Bool) (items : List JournalItem) (T U : Tables) : Type 0 where
  front : AreInFront (defs_of T)
  later_front : AreInFront (defs_of U)
  ids : IdsFrom 1 (defs_of T)
  later_ids : IdsFrom 1 (defs_of U)
  grow : GrowAll (defs_of T) (defs_of U)
  left : AllByRecursion (λ u. versions_at has (table_rows u) ≡ map (filled_version u.def.columns) (versions_of T u.def.id)) U
  encoded : AreEncodedByRows T
  formed : AllFormed (defs_of T)
  later_formed : AllFormed (defs_of U)
  written : AllWritten (defs_of T)
  described : Described T
  keep : AllKeepRows T
  each : AllByRecursion (TableOf items) T

-- ---- lists

not_there : (id n : ℕ) (P : Table → Type 0) (ts : Tables) → IdsFrom n (defs_of ts) → id < n → OfTable id P ts → ⊥
not_there id n P [] ids lt o = o
not_there id n P (t ∷ ts) ids lt (inl p) = omega (arith, p.0, ids.0, lt)
not_there id n P (t ∷ ts) ids lt (inr q) = not_there id (n + 1) P ts ids.1 (omega (arith, lt)) q

-- an append-only table's rows all stand
all_stand : (t : Table) → t.def.kind ≡ AppendOnly → KeepsRows t → live t.versions ≡ t.versions
all_stand t kind keep = filter_own (λ v. is_none v.end) t.versions (all_weaker (λ v. v.end ≡ None) (λ v. is_none v.end ≡ true) (λ v e. ap is_none e) t.versions (keep kind))

module _ (has : ℕ → Bool) (items : List JournalItem) where
  -- the rows of the system's tables have all their values
  first_whole : (t : Table) → t.def ≡ tables_def → TableOf items t → map (filled_version tables_columns) t.versions ≡ t.versions
  first_whole t same is =
      all_stay (take 5 tables_columns) (a_column (codes "view_name") name_type false 0) t.versions refl
      (subst (λ (d : TableDef). AllByRecursion (λ v. FitsSoFar d.columns v.values) t.versions) same is.fit)

  second_whole : (t : Table) → t.def ≡ columns_def → TableOf items t → map (filled_version columns_columns) t.versions ≡ t.versions
  second_whole t same is =
      all_stay (take 8 columns_columns) (a_column (codes "key_position") Int false 0) t.versions refl
      (subst (λ (d : TableDef). AllByRecursion (λ v. FitsSoFar d.columns v.values) t.versions) same is.fit)

  module _ (T : Tables) where
    abbrev Left : Table → Type 0
    Left u = versions_at has (table_rows u) ≡ map (filled_version u.def.columns) (versions_of T u.def.id)

    -- ---- the tables of the system

    system_versions : (t u : Table) (def : TableDef) → t.def ≡ def → u.def ≡ def → versions_of T t.def.id ≡ t.versions → Left u → versions_at has (table_rows u) ≡ map (filled_version def.columns) t.versions
    system_versions t u def same later own left =
        left ∙ ap (λ (d : TableDef). map (filled_version d.columns) (versions_of T d.id)) (later ∙ sym same)
        ∙ ap (map (filled_version t.def.columns)) own ∙ ap (λ (d : TableDef). map (filled_version d.columns) t.versions) same

    system_told : (t u : Table) (def : TableDef) → t.def ≡ def → u.def ≡ def → versions_of T t.def.id ≡ t.versions → Left u → system_at has def (table_rows u) ≡ filled_table t
    system_told t u def same later own left =
        ap (λ (vs : List Version). record { def = def; versions = vs }) (system_versions t u def same later own left)
        ∙ ap (λ (d : TableDef). record { def = d; versions = map (filled_version d.columns) t.versions }) (sym same)

    -- ---- the tables of users

    module _ (first second : List Row) where
      all_said : (n : ℕ) (ts : Tables) → 3 ≤ n → IdsFrom n (defs_of ts) → ((d : TableDef) → IsAmong d (defs_of ts) → EncodeDef first second d)
          → AllByRecursion (λ d. is_encodable_def d ≡ true) (defs_of ts) → AllByRecursion (λ d. has_new_names (latest 0 first) d ≡ true) (defs_of ts)
          → AllByRecursion (λ (d : TableDef). 2 < d.id → Formed d) (defs_of ts) → AllByRecursion (λ (d : TableDef). 2 < d.id → Written d) (defs_of ts)
          → AllByRecursion (λ t. AllByRecursion (IsItemRow (1000 * (length t.def.indexes + 1))) (about (pos t.def.id) second)) ts
          → AllByRecursion (λ t. versions_of T t.def.id ≡ t.versions) ts → AllByRecursion (TableOf items) ts → AllByRecursion (IsSaid has T first second) ts
      all_said n [] le ids one may new formed written parts own each = tt
      all_said n (t ∷ ts) le ids one may new formed written parts own each =
          let users : 2 < t.def.id = omega (arith, ids.0, le) in (
            record {
              encoded = one t.def (inl refl);
              may = may.0;
              new = new.0;
              formed = formed.0 users;
              written = written.0 users;
              items = parts.0;
              own = own.0;
              few = all_weaker (λ v. FitsSoFar t.def.columns v.values) (λ v. length v.values ≤ length t.def.columns) (λ v f. few t.def.columns v.values f) t.versions each.0.fit;
            },
            all_said (n + 1) ts (omega (arith, le)) ids.1 (λ d a. one d (inr a)) may.1 new.1 formed.1 written.1 parts.1 own.1 each.1,
          )

      all_are_left : (n : ℕ) (us : Tables) → 3 ≤ n → IdsFrom n (defs_of us) → AllByRecursion (λ (d : TableDef). 2 < d.id → Formed d) (defs_of us) → AllByRecursion Left us → AllByRecursion (IsLeft has T first second) us
      all_are_left n [] le ids formed left = tt
      all_are_left n (u ∷ us) le ids formed left = (record { formed = formed.0 (omega (arith, ids.0, le)); left = left.0 }, all_are_left (n + 1) us (omega (arith, le)) ids.1 formed.1 left.1)

  -- ---- all tables

  -- the keys of the rows of the table of columns
  column_keys : (a b : Table) (ts : Tables) → IdsFrom 1 (defs_of (a ∷ b ∷ ts)) → Described (a ∷ b ∷ ts) → AllByRecursion (λ v. IsColumnKey (defs_of (a ∷ b ∷ ts)) (version_key columns_columns v)) b.versions
  column_keys a b ts ids d = elim d.of_columns [
    | inl p ↦ absurd (omega (arith, p.0, ids.0))
    | inr o ↦ elim o [ inl p ↦ p.1.1 | inr q ↦ absurd (not_there columns_id 3 _ ts ids.1.1 (omega arith) q) ]
  ]

  all_parts : (defs : Defs) (vs : List Version) (ts : Tables) → AllByRecursion (λ v. IsColumnKey defs (version_key columns_columns v)) vs → AllByRecursion (λ t. items_below defs t.def.id ≡ 1000 * (length t.def.indexes + 1)) ts
      → AllByRecursion (λ t. AllByRecursion (IsItemRow (1000 * (length t.def.indexes + 1))) (about (pos t.def.id) (map values_of vs))) ts
  all_parts defs vs ts keys below =
      all_weaker (λ t. items_below defs t.def.id ≡ 1000 * (length t.def.indexes + 1)) (λ t. AllByRecursion (IsItemRow (1000 * (length t.def.indexes + 1))) (about (pos t.def.id) (map values_of vs)))
      (λ t e. items_of_table defs t.def.id (1000 * (length t.def.indexes + 1)) e vs keys) ts below

  none_yet : (first second : List Row) (ts : Tables) → IdsFrom 3 (defs_of ts) → RowsEncode first second (defs_of ts) → (id : ℕ) → 3 + length ts ≤ id → about (pos id) first ≡ []
  none_yet first second ts ids e id le =
      (e.others (pos id) (λ d among same. (let r : HasId 3 (defs_of ts) d = has_id 3 (defs_of ts) ids d among in absurd (omega (arith, ints, same, r.below, le, length-map ts (λ (t : Table). t.def)))))).0

  all_told : (T U : Tables) → Known has items T U → tables_at has (user_defs U) (map table_rows U) ≡ map filled_table T
  all_told [] U k = absurd k.front
  all_told (a ∷ []) U k = absurd k.front
  all_told (a ∷ b ∷ ts) [] k = absurd k.later_front
  all_told (a ∷ b ∷ ts) (c ∷ []) k = absurd k.later_front
  all_told (a ∷ b ∷ ts) (c ∷ d ∷ us) k =
      let T : Tables = a ∷ b ∷ ts in
      let first : List Row = map values_of a.versions in
      let second : List Row = map values_of b.versions in
      let own = own_versions 1 T k.ids in
      let encoded : RowsEncode first second (defs_of ts) =
      subst (λ (vs : List Version). RowsEncode (map values_of vs) second (defs_of ts)) (all_stand a (ap (λ (x : TableDef). x.kind) k.front.0) k.keep.0)
      (subst (λ (vs : List Version). RowsEncode (live_rows a.versions) (map values_of vs) (defs_of ts)) (all_stand b (ap (λ (x : TableDef). x.kind) k.front.1) k.keep.1.0) k.encoded) in
      let first_rows : rows_at has (table_rows c) ≡ first =
      ap (map values_of) (system_versions T a c tables_def k.front.0 k.later_front.0 own.0 k.left.0 ∙ first_whole a k.front.0 k.each.0) in
      let second_rows : rows_at has (table_rows d) ≡ second =
      ap (map values_of) (system_versions T b d columns_def k.front.1 k.later_front.1 own.1.0 k.left.1.0 ∙ second_whole b k.front.1 k.each.1.0) in
      let parts = all_parts (defs_of T) b.versions ts (column_keys a b ts k.ids k.described) (own_items 1 T k.ids).1.1 in
      ap₂ (λ (x : Table) (xs : Tables). x ∷ xs) (system_told T a c tables_def k.front.0 k.later_front.0 own.0 k.left.0)
      (ap₂ (λ (x : Table) (xs : Tables). x ∷ xs) (system_told T b d columns_def k.front.1 k.later_front.1 own.1.0 k.left.1.0)
      (ap₂ (λ (xs ys : List Row). users_at has xs ys (defs_of us) (map table_rows us)) first_rows second_rows
      ∙ users_told has T first second (3 + length ts) (none_yet first second ts k.ids.1.1 encoded) 3 ts us refl k.later_ids.1.1
      (all_said T first second 3 ts (omega arith) k.ids.1.1 encoded.one encoded.rules encoded.names k.formed.each.1.1 k.written.1.1 parts own.1.1 k.each.1.1)
      (all_are_left T first second 3 us (omega arith) k.later_ids.1.1 k.later_formed.each.1.1 k.left.1.1) k.grow.1.1))

-- ---- the image of a journal

module _ (h : List ℕ → List ℕ) (reads : Reading) (database : List ℕ) (items : List JournalItem) (n : ℕ) (written : ReadsWritten reads) (legal : IsLegal reads items) where
  abbrev so_far : List JournalItem
  so_far = upto items n

  abbrev counts : ℕ → Bool
  counts = is_among (ids_of so_far)

  known : Known counts so_far (serial reads so_far) (serial reads items)
  known =
      let part : IsLegal reads so_far = upto_legal reads items n legal in
      let said = legal_described reads so_far part in
      let later = legal_described reads items legal in
      record {
        front = said.1.system;
        later_front = later.1.system;
        ids = legal_ids reads so_far part;
        later_ids = legal_ids reads items legal;
        grow = upto_grows reads items n legal;
        left = all_left reads items legal n;
        encoded = legal_encoded reads written so_far part;
        formed = said.1;
        later_formed = later.1;
        written = legal_written reads written so_far part;
        described = legal_keys reads so_far part;
        keep = legal_keeps_rows reads so_far part;
        each = (legal_tables reads so_far part).each;
      }

  pub database_told : database_at (image_of h reads database items) n ≡ map filled_table (serial reads so_far)
  unfolding database_at image_of
  database_told =
      ap (λ (ids : List ℕ). tables_at (is_among ids) (user_defs (serial reads items)) (map table_rows (serial reads items))) (first_are h reads database items n legal)
      ∙ all_told counts so_far (serial reads so_far) (serial reads items) known

  pub text_answered : (text : Option Stmt) → answer_of (database_at (image_of h reads database items) n) text ≡ answer_of (serial reads so_far) text
  text_answered text =
      ap (λ (T : Tables). answer_of T text) database_told ∙ answered_same (serial reads so_far) (legal_ids reads so_far (upto_legal reads items n legal)) text
