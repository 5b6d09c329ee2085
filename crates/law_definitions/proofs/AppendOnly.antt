-- Nothing ever ended in a table of which some row says that it is append-only.
use Rattle.std.proofs.Common.{◌≡◌, ◌<◌, ◌+◌, ◌⊎◌, inl, inr, ℕ, ℤ, pos, refl, sym, ap, subst, ◌∙◌, Bool, true, false, List, [], ◌∷◌, map, flat_map, length, None, arith}
use Rattle.std.proofs.lemmas.Bool.{eqb-true}
use Rattle.std.proofs.lemmas.List.Elements.{All-from_recursion, recursion_from_All}
use Rattle.std.proofs.lemmas.List.Sorted.{All-permutation}
use Rattle.std.specs.Prelude.{◌==◌, ◌&&◌, ◌||◌, ◌+ℤ◌, if◌then◌else◌}
use Rattle.std.specs.List.{AllByRecursion, filter, filter_map, list_all}
use Rattle.std.specs.List.Sorted.{IsPermutation}
use Rattle.sql_value.specs.declared.column.TableKind.{TableKind}
use Rattle.sql_value.specs.declared.column.TableKind.TheVariants.{AppendOnly, Updatable}
use Rattle.sql_types.specs.declared.digest.HeldDigest.{HeldDigest}
use Rattle.sql_types.specs.declared.entry.TxEntry.{TxEntry}
use Rattle.sql_types.specs.declared.image.Image.{Image}
use Rattle.sql_types.specs.declared.image.TableRows.{TableRows}
use Rattle.sql_types.specs.declared.table.TableDef.{TableDef}
use Rattle.sql_types.specs.declared.version.Table.{Table}
use Rattle.sql_types.specs.declared.version.Version.{Version}
use Rattle.spec_model.specs.Catalog.{Defs, Tables}
use Rattle.spec_model.specs.Rows.{Row, values_of}
use Rattle.spec_model.specs.SystemTables.{columns_def, columns_id, kind_code, tables_def}
use Rattle.law_frame.proofs.Alls.{all_append, all_both, all_filter, all_map, all_weaker}
use Rattle.law_catalog_rows.specs.Differs.{table_of}
use Rattle.law_catalog_rows.specs.Encoded.{IsAmong, RowsEncode, about, is_about, latest_table_row}
use Rattle.law_catalog_rows.specs.Latest.{is_latest, latest, latest_said, number_at, without_change}
use Rattle.law_catalog_rows.proofs.CountingUp.{one_number}
use Rattle.law_catalog_rows.proofs.OneRowMore.{said_at}
use Rattle.format_image.specs.DefBytes.{ids_rise}
use Rattle.format_image.specs.Tables.{tables_in, tables_with}
use Rattle.spec_rules.specs.Places.{PlacedRow, placed}
use Rattle.spec_rules.specs.Rows.{firsts, is_about_table, is_first_of, seconds, says}
use Rattle.spec_rules.specs.Tables.{drops, is_new_table, tables_are_right}
use Rattle.spec_verify.specs.Definitions.{base_in, base_rows}
use Rattle.spec_verify.specs.Sentences.{HoldsTogether, TableRulesHold, TableVersion, VersionHolds, versions_of_image}
use Rattle.spec_verify.specs.Verdict.{AllHold}
use Rattle.spec_verify.proofs.EncodedSo.{all_front, none_about, spelled_exactly}
use Rattle.law_definitions.specs.Accepted.{NothingEnded, SaysAppendOnly, rows_about}
use Rattle.law_definitions.proofs.Bases.{base_is, rows_without_places}
use Rattle.law_definitions.proofs.Lists.{behind, each_passes, front, of_both_parts}

-- ---- kinds in the rows about a table

-- the kind of a table that stands, or of the same that was dropped
abbrev IsOfKind : ℕ → Row → Type 0
IsOfKind k row = (number_at 3 row ≡ pos k) ⊎ (number_at 3 row ≡ pos (k + 2))

record OneKind (rows : List PlacedRow) : Type 0 where
  pub kind : ℕ
  pub few : (kind ≡ 1) ⊎ (kind ≡ 2)
  pub all : AllByRecursion (λ (r : PlacedRow). IsOfKind kind r.row) rows

one_only : {A : Type 0} (xs : List A) → (length xs == 1) ≡ true → (x : A) × (xs ≡ x ∷ [])
one_only [] e = cc
one_only (x ∷ []) e = (x, refl)
one_only (x ∷ y ∷ ys) e = absurd (let n = eqb-true (length (x ∷ y ∷ ys)) 1 e in omega (arith, n))

either : (a b : Bool) → (a || b) ≡ true → (a ≡ true) ⊎ (b ≡ true)
either true b e = inl refl
either false b e = inr e

second_kind : (f s : Row) → drops f s ≡ true → number_at 3 s ≡ number_at 3 f +ℤ pos 2
second_kind f s e = one_number (number_at 3 s) (number_at 3 f +ℤ pos 2) (front _ _ (front _ _ (front _ _ e)))

first_kind : (f : PlacedRow) → is_new_table f ≡ true → (number_at 3 f.row ≡ pos 1) ⊎ (number_at 3 f.row ≡ pos 2)
first_kind f e = elim (either (says 3 (pos 1) f) (says 3 (pos 2) f) (front _ _ (front _ _ (front _ _ e)))) [
  | inl one ↦ inl (one_number (number_at 3 f.row) (pos 1) one)
  | inr two ↦ inr (one_number (number_at 3 f.row) (pos 2) two)
]

with_kind : (k : ℕ) → (k ≡ 1) ⊎ (k ≡ 2) → pos k +ℤ pos 2 ≡ pos (k + 2) → (L : List PlacedRow) (f : PlacedRow) → number_at 3 f.row ≡ pos k → firsts 0 L ≡ f ∷ []
    → list_all (λ s. list_all (λ g. drops g.row s.row) (f ∷ [])) (seconds 0 L) ≡ true → OneKind L
with_kind k few sum L f is one dropped = record {
  kind = k;
  few = few;
  all = of_both_parts (λ (r : PlacedRow). IsOfKind k r.row) (is_first_of 0 L) L
      (subst (λ (fs : List PlacedRow). AllByRecursion (λ (r : PlacedRow). IsOfKind k r.row) fs) (sym one) (inl is, tt))
      (all_weaker (λ (s : PlacedRow). (drops f.row s.row && true) ≡ true) (λ (r : PlacedRow). IsOfKind k r.row)
      (λ s e. inr (second_kind f.row s.row (front _ _ e) ∙ ap (λ (z : ℤ). z +ℤ pos 2) is ∙ sum)) (seconds 0 L)
      (each_passes (λ s. list_all (λ g. drops g.row s.row) (f ∷ [])) (seconds 0 L) dropped));
}

one_kind : (L : List PlacedRow) → tables_are_right L ≡ true → OneKind L
unfolding tables_are_right
one_kind L e =
    let one = one_only (firsts 0 L) (front _ _ (front _ _ (front _ _ e))) in
    let new : list_all is_new_table (one.0 ∷ []) ≡ true = subst (λ (fs : List PlacedRow). list_all is_new_table fs ≡ true) one.1 (behind _ _ (front _ _ e)) in
    let dropped : list_all (λ s. list_all (λ g. drops g.row s.row) (one.0 ∷ [])) (seconds 0 L) ≡ true =
    subst (λ (fs : List PlacedRow). list_all (λ s. list_all (λ g. drops g.row s.row) fs) (seconds 0 L) ≡ true) one.1 (behind _ _ e) in
    elim (first_kind one.0 (front _ _ new)) [
      | inl k ↦ with_kind 1 (inl refl) refl L one.0 k one.1 dropped
      | inr k ↦ with_kind 2 (inr refl) refl L one.0 k one.1 dropped
    ]

-- ---- the kind in the definition

none_placed : (entries : List TxEntry) (t : ℤ) (vs : List Version) → about t (map values_of vs) ≡ [] → filter (is_about_table t) (map (placed entries) vs) ≡ []
none_placed entries t [] e = refl
none_placed entries t (v ∷ vs) e = here (is_about t (values_of v)) e (λ f. none_placed entries t vs f)
  where
    here : (b : Bool) → (if b then values_of v ∷ about t (map values_of vs) else about t (map values_of vs)) ≡ []
        → (about t (map values_of vs) ≡ [] → filter (is_about_table t) (map (placed entries) vs) ≡ [])
        → (if b then placed entries v ∷ filter (is_about_table t) (map (placed entries) vs) else filter (is_about_table t) (map (placed entries) vs)) ≡ []
    here true f more = cc
    here false f more = more f

same_kind : (row : Row) → number_at 3 (without_change 0 row) ≡ number_at 3 row
same_kind row = said_at 0 row 3 (λ e. omega (arith, e))

said_kind : (k : ℕ) (row : Row) → IsOfKind k row → IsOfKind k (without_change 0 row)
said_kind k row (inl e) = inl (same_kind row ∙ e)
said_kind k row (inr e) = inr (same_kind row ∙ e)

kind_told : (k : ℕ) (rows : List Row) (def : TableDef) → IsPermutation (latest_said 0 rows) (latest_table_row def ∷ []) → AllByRecursion (IsOfKind k) rows → IsOfKind k (latest_table_row def)
kind_told k rows def h all =
    (recursion_from_All (IsOfKind k) (latest_table_row def ∷ []) (All-permutation (IsOfKind k) (latest_said 0 rows) (latest_table_row def ∷ []) h
    (All-from_recursion (IsOfKind k) (latest_said 0 rows)
    (all_map (IsOfKind k) (IsOfKind k) (without_change 0) (said_kind k) (latest 0 rows) (all_filter (IsOfKind k) (is_latest 0 rows) rows all))))).0

append_only_kind : (kind : TableKind) (gone : Bool) → (pos (if gone then kind_code kind + 2 else kind_code kind) ≡ pos 1) ⊎ (pos (if gone then kind_code kind + 2 else kind_code kind) ≡ pos (1 + 2)) → kind ≡ AppendOnly
append_only_kind AppendOnly gone e = refl
append_only_kind Updatable true (inl e) = cc
append_only_kind Updatable true (inr e) = cc
append_only_kind Updatable false (inl e) = cc
append_only_kind Updatable false (inr e) = cc

append_only_def : (def : TableDef) → IsOfKind 1 (latest_table_row def) → def.kind ≡ AppendOnly
unfolding latest_table_row
append_only_def def e = append_only_kind def.kind def.gone e

-- a row that says append-only is of that kind
says_one : (k : ℕ) → (k ≡ 1) ⊎ (k ≡ 2) → (row : Row) → IsOfKind k row → (number_at 3 row ≡ pos 1) ⊎ (number_at 3 row ≡ pos 3) → k ≡ 1
says_one k (inl one) row of says = one
says_one k (inr two) row of says = absurd (never (number_at 3 row) (subst (λ (n : ℕ). (number_at 3 row ≡ pos n) ⊎ (number_at 3 row ≡ pos (n + 2))) two of) says)
  where
    never : (z : ℤ) → (z ≡ pos 2) ⊎ (z ≡ pos 4) → (z ≡ pos 1) ⊎ (z ≡ pos 3) → ⊥
    never z (inl e) (inl f) = let g : pos 2 ≡ pos 1 = sym e ∙ f in cc
    never z (inl e) (inr f) = let g : pos 2 ≡ pos 3 = sym e ∙ f in cc
    never z (inr e) (inl f) = let g : pos 4 ≡ pos 1 = sym e ∙ f in cc
    never z (inr e) (inr f) = let g : pos 4 ≡ pos 3 = sym e ∙ f in cc

-- ---- the tables of an image

all_among : (ds : Defs) (rs : List TableRows) → AllByRecursion (λ (t : Table). IsAmong t.def ds) (tables_with ds rs)
all_among [] [] = tt
all_among [] (r ∷ rs) = tt
all_among (d ∷ ds) [] = tt
all_among (d ∷ ds) (r ∷ rs) = (inl refl, all_weaker (λ (t : Table). IsAmong t.def ds) (λ (t : Table). IsAmong t.def (d ∷ ds)) (λ t a. inr a) (tables_with ds rs) (all_among ds rs))

users_among : (ds : Defs) (rs : List TableRows) → AllByRecursion (λ (t : Table). columns_id < t.def.id → IsAmong t.def ds) (tables_with (tables_def ∷ columns_def ∷ ds) rs)
users_among ds [] = tt
users_among ds (r ∷ []) = ((λ lt. absurd (omega (arith, lt))), tt)
users_among ds (r ∷ s ∷ rs) =
    ((λ lt. absurd (omega (arith, lt))), ((λ lt. absurd (omega (arith, lt))), all_weaker (λ (t : Table). IsAmong t.def ds) (λ (t : Table). columns_id < t.def.id → IsAmong t.def ds) (λ t a lt. a) (tables_with ds rs) (all_among ds rs)))

of_versions : (P : Table → Type 0) (t : Table) → P t → (vs : List Version) → AllByRecursion (λ (x : TableVersion). P x.0) (map (λ v. (t, v)) vs)
of_versions P t h [] = tt
of_versions P t h (v ∷ vs) = (h, of_versions P t h vs)

of_tables : (P : Table → Type 0) (ts : Tables) → AllByRecursion P ts → AllByRecursion (λ (x : TableVersion). P x.0) (flat_map (λ (t : Table). map (λ v. (t, v)) t.versions) ts)
of_tables P [] h = tt
of_tables P (t ∷ ts) h = all_append (λ (x : TableVersion). P x.0) (map (λ v. (t, v)) t.versions) _ (of_versions P t h.0 t.versions) (of_tables P ts h.1)

module _ (h : List ℕ → List ℕ) (i : Image) (digests : List HeldDigest) (rise : ids_rise 2 i.defs ≡ true) (hold : AllHold h i digests) (all : HoldsTogether h i digests) where
  spelled : RowsEncode (base_rows i.tables 0) (base_rows i.tables 1) i.defs
  spelled = (spelled_exactly i rise hold.versions).0 hold.definitions

  none_ended : (x : TableVersion) → (columns_id < x.0.def.id → IsAmong x.0.def i.defs) → VersionHolds i x → columns_id < x.0.def.id
      → AllByRecursion (λ r. SaysAppendOnly r → x.1.end ≡ None) (rows_about i x)
  none_ended x among holds lt = where_right (tables_are_right (rows_about i x)) refl
    where
      t : ℤ
      t = pos x.0.def.id

      each : OneKind (rows_about i x) → AllByRecursion (λ r. SaysAppendOnly r → x.1.end ≡ None) (rows_about i x)
      each one =
          let rows : List Row = about t (base_rows i.tables 0) in
          let kinds : AllByRecursion (IsOfKind one.kind) rows =
          subst (λ (all : List Row). AllByRecursion (IsOfKind one.kind) (about t all)) (sym (base_is i.tables 0)) (rows_without_places (IsOfKind one.kind) i.entries t (base_in i.tables 0) one.all) in
          let told : IsOfKind one.kind (latest_table_row x.0.def) = kind_told one.kind rows x.0.def (spelled.one x.0.def (among lt)).table kinds in
          all_weaker (λ (r : PlacedRow). IsOfKind one.kind r.row) _
          (λ r of says. holds.append_only (append_only_def x.0.def (subst (λ (k : ℕ). IsOfKind k (latest_table_row x.0.def)) (says_one one.kind one.few r.row of says) told))) (rows_about i x) one.all

      where_right : (b : Bool) → tables_are_right (rows_about i x) ≡ b → AllByRecursion (λ r. SaysAppendOnly r → x.1.end ≡ None) (rows_about i x)
      where_right true e = each (one_kind (rows_about i x) e)
      where_right false e =
          let in_first : AllByRecursion (TableRulesHold i) (filter_map table_of (base_rows i.tables 0)) = all_front (TableRulesHold i) (filter_map table_of (base_rows i.tables 0)) (filter_map table_of (base_rows i.tables 1)) all.table_rules in
          let none : about t (base_rows i.tables 0) ≡ [] = none_about (TableRulesHold i) t (base_rows i.tables 0) (λ keeps. (let right : tables_are_right (rows_about i x) ≡ true = keeps.tables in cc)) in_first in
          let no_rows : rows_about i x ≡ [] = none_placed i.entries t (base_in i.tables 0) (ap (about t) (sym (base_is i.tables 0)) ∙ none) in
          subst (λ (L : List PlacedRow). AllByRecursion (λ r. SaysAppendOnly r → x.1.end ≡ None) L) (sym no_rows) tt

  pub nothing_ended : NothingEnded i
  nothing_ended =
      all_weaker (λ x. (columns_id < x.0.def.id → IsAmong x.0.def i.defs) × VersionHolds i x) _ (λ x k lt. none_ended x k.0 k.1 lt) (versions_of_image i)
      (all_both (λ x. columns_id < x.0.def.id → IsAmong x.0.def i.defs) (VersionHolds i) (versions_of_image i) (of_tables (λ t. columns_id < t.def.id → IsAmong t.def i.defs) (tables_in i) (users_among i.defs i.tables)) all.versions)
