-- What CREATE TABLE and CREATE INDEX add, and ALTER TABLE and DROP TABLE change.
use Rattle.std.proofs.Common.{◌≡◌, ◌≢◌, ◌<◌, ◌≤◌, ◌+◌, ◌-◌, ℕ, suc, zero, refl, sym, ap, subst, ◌∙◌, Bool, false, true, List, [], ◌∷◌, ◌++◌, map, length, get_or, Option, Some, None, Ok, ◌⊎◌, inl, inr, arith}
use Rattle.std.proofs.lemmas.Bool.{eq-eqb, ne_eqb, eqb-true}
use Rattle.std.proofs.lemmas.List.{length-map}
use Rattle.std.specs.Prelude.{slice_set, ◌==◌, if◌then◌else◌}
use Rattle.std.specs.List.{AllByRecursion}
use Rattle.sql_value.specs.declared.refusal.Refusal.{Refusal}
use Rattle.sql_value.specs.declared.refusal.Refusal.TheVariants.{NoSuchTable, NameConflict, NoSuchColumn, ReadOnlyTable, LimitExceeded}
use Rattle.sql_types.specs.declared.table.TableDef.{TableDef}
use Rattle.sql_types.specs.declared.table.IndexDef.{IndexDef}
use Rattle.sql_types.specs.declared.table.Part.{Part}
use Rattle.sql_types.specs.declared.statement.CreateIndex.{CreateIndex}
use Rattle.sql_types.specs.declared.version.Table.{Table}
use Rattle.sql_types.specs.declared.reply.Reply.TheVariants.{Made}
use Rattle.spec_model.specs.Refusals.{Checked, or_refused}
use Rattle.spec_model.specs.Agreement.{IdsFrom}
use Rattle.spec_model.specs.Alter.{Altered}
use Rattle.spec_model.specs.Checks.{refused_if}
use Rattle.spec_model.specs.Catalog.{Defs, NamedPart, Tables, defs_of, changed_table, part_named, or_in, find_part}
use Rattle.spec_model.specs.Changes.{Change, changed_all}
use Rattle.spec_model.specs.Create.{index_def, index_check_in, index_check, with_index}
use Rattle.spec_model.specs.Effect.{Effect, with_system_rows, table_start, column_starts, table_effect, with_def, redefined, index_starts, index_effect, altered_effect}
use Rattle.spec_model.specs.Lists.{numbered}
use Rattle.spec_model.specs.Rows.{Row}
use Rattle.spec_model.specs.ChangeSets.{in_table, changed_from}
use Rattle.spec_model.specs.Runs.{Sound}
use Rattle.spec_model.specs.SystemTables.{tables_id, columns_id, column_row, column_rows, index_row, index_rows}
use Rattle.law_frame.proofs.Alls.{all_weaker}
use Rattle.law_frame.proofs.Checked.{Led, led}
use Rattle.law_frame.proofs.Definitions.{same_defs}
use Rattle.law_frame.proofs.NamedPart.{was_found}
use Rattle.law_frame.proofs.ChangeSets.{in_one_table, length-in_table, length-numbered}
use Rattle.law_frame.proofs.Sounds.{sound_all}
use Rattle.law_journal.proofs.DefLists.{IsOnly}

-- ---- rows of the system tables

sound_after : (tx seq id : ℕ) (cs : List Change) (T : Tables) → Sound tx seq T → Sound tx (seq + length cs) (changed_table id (changed_all tx seq cs) T)
sound_after tx seq id cs T h =
    subst (λ (U : Tables). Sound tx (seq + length cs) U) (in_one_table tx seq id cs T)
    (subst (λ (n : ℕ). Sound tx (seq + n) (changed_from tx seq (in_table id cs) T)) (length-in_table id cs)
    (sound_all tx seq (in_table id cs) T h))

pub sound_between : (tx seq next id : ℕ) (cs : List Change) (T U : Tables) → Sound tx seq T → next ≡ seq + length cs → U ≡ changed_table id (changed_all tx seq cs) T → Sound tx next U
sound_between tx seq next id cs T U h n u =
    rw (u, n) (sound_after tx seq id cs T h)

rows_keep_defs : (tx seq : ℕ) (first second : List Change) (T : Tables) → defs_of (with_system_rows tx seq first second T) ≡ defs_of T
rows_keep_defs tx seq first second T =
    same_defs columns_id (changed_all tx (seq + length first) second) (changed_table tables_id (changed_all tx seq first) T)
    ∙ same_defs tables_id (changed_all tx seq first) T

pub ids_after_rows : (tx seq : ℕ) (first second : List Change) (T U : Tables) → IdsFrom 1 (defs_of T) → U ≡ with_system_rows tx seq first second T → IdsFrom 1 (defs_of U)
ids_after_rows tx seq first second T U ids u = subst (IdsFrom 1) (sym (ap (λ (W : Tables). defs_of W) u ∙ rows_keep_defs tx seq first second T)) ids

-- ---- one table of those that have the ids from the first one on

abbrev pub changed_at : ℕ → (Table → Table) → Tables → Tables
changed_at id f T = map (λ t. if t.def.id == id then f t else t) T

module _ (id : ℕ) (f : Table → Table) where
  -- no table has the id
  none_from : (n : ℕ) (T : Tables) → IdsFrom n (defs_of T) → (id < n) ⊎ (n + length T ≤ id) → changed_at id f T ≡ T
  none_from n [] ids apart = refl
  none_from n (t ∷ ts) ids apart =
      let other : (t.def.id == id) ≡ false = ne_eqb t.def.id id (λ same. elim apart [ inl below ↦ omega (arith, ids.0, same) | inr above ↦ omega (arith, ids.0, same) ]) in
      let rest : changed_at id f ts ≡ ts = none_from (n + 1) ts ids.1 (elim apart [ inl below ↦ inl (omega arith) | inr above ↦ inr (omega arith) ]) in
      rw (other, rest) refl

  pub none_changed : (T : Tables) → IdsFrom 1 (defs_of T) → (id ≡ 0) ⊎ (length T < id) → T ≡ changed_at id f T
  none_changed T ids apart = sym (none_from 1 T ids (elim apart [ inl none ↦ inl (omega arith) | inr above ↦ inr (omega arith) ]))

  -- one has it, by its place
  one_from : (n k : ℕ) (T : Tables) (d : Table) → IdsFrom n (defs_of T) → id ≡ n + k → k < length T → slice_set T k (f (get_or T k d)) ≡ changed_at id f T
  one_from n k [] d ids is inside = absurd (omega arith)
  one_from n zero (t ∷ ts) d ids is inside =
      let same : (t.def.id == id) ≡ true = eq-eqb t.def.id id (omega (arith, ids.0)) in
      let rest : changed_at id f ts ≡ ts = none_from (n + 1) ts ids.1 (inl (omega arith)) in
      rw (same, rest) refl
  one_from n (suc k) (t ∷ ts) d ids is inside =
      let other : (t.def.id == id) ≡ false = ne_eqb t.def.id id (λ same. omega (arith, ids.0, same)) in
      rw other (ap (λ us. t ∷ us) (one_from (n + 1) k ts d ids.1 (omega arith) (omega arith)))

  pub one_changed : (T : Tables) (d : Table) → IdsFrom 1 (defs_of T) → id ≢ 0 → id ≤ length T → slice_set T (id - 1) (f (get_or T (id - 1) d)) ≡ changed_at id f T
  one_changed T d ids some inside = one_from 1 (id - 1) T d ids (omega arith) (omega arith)

-- ---- the table that a name stands for

-- it is one of them
by_part : (P : TableDef → Type 0) (def : TableDef) (part : Option Part) (rest : Option NamedPart) (x : NamedPart) → or_in part def rest ≡ Some x → P def → (rest ≡ Some x → P x.0) → P x.0
by_part P def (Some part) rest x e here behind = (let it : (def, part) ≡ x = cc in subst (λ (n : NamedPart). P n.0) it here)
by_part P def None rest x e here behind = behind e

pub found_all : (P : TableDef → Type 0) (defs : Defs) (name : List ℕ) (x : NamedPart) → find_part defs name ≡ Some x → AllByRecursion P defs → P x.0
unfolding find_part
found_all P [] name x e h = cc
found_all P (def ∷ defs) name x e h = by_part P def (part_named def name) (find_part defs name) x e h.0 (λ k. found_all P defs name x k h.1)

ids_above : (n : ℕ) (defs : Defs) → IdsFrom n defs → AllByRecursion (λ def. n ≤ def.id) defs
ids_above n [] ids = tt
ids_above n (def ∷ defs) ids = (omega (arith, ids.0), all_weaker (λ d. n + 1 ≤ d.id) (λ d. n ≤ d.id) (λ d le. omega (arith, le)) defs (ids_above (n + 1) defs ids.1))

only_by_part : (n : ℕ) (def : TableDef) (defs : Defs) (part : Option Part) (rest : Option NamedPart) (x : NamedPart) → def.id ≡ n → AllByRecursion (λ d. n + 1 ≤ d.id) defs → or_in part def rest ≡ Some x
    → (rest ≡ Some x → (n + 1 ≤ x.0.id) × AllByRecursion (IsOnly x.0) defs) → AllByRecursion (IsOnly x.0) (def ∷ defs)
only_by_part n def defs (Some part) rest x is above e behind =
    let it : def ≡ x.0 = cc in
    ((λ same. it), all_weaker (λ d. n + 1 ≤ d.id) (IsOnly x.0) (λ d le same. absurd (omega (arith, le, same, is, ap (λ (y : TableDef). y.id) it))) defs above)
only_by_part n def defs None rest x is above e behind = let b = behind e in ((λ same. absurd (omega (arith, same, is, b.0))), b.1)

-- and the only one with its id
only_found : (n : ℕ) (defs : Defs) (name : List ℕ) (x : NamedPart) → IdsFrom n defs → find_part defs name ≡ Some x → AllByRecursion (IsOnly x.0) defs
unfolding find_part
only_found n [] name x ids e = cc
only_found n (def ∷ defs) name x ids e =
    let above : AllByRecursion (λ d. n + 1 ≤ d.id) defs = ids_above (n + 1) defs ids.1 in
    only_by_part n def defs (part_named def name) (find_part defs name) x ids.0 above e
    (λ k. (found_all (λ d. n + 1 ≤ d.id) defs name x k above, only_found (n + 1) defs name x ids.1 k))

four_passed : {A : Type 0} (a b c d : Bool) (e f g h : Refusal) (y x : A) → refused_if a e (refused_if b f (refused_if c g (refused_if d h (Ok y)))) ≡ Ok x → y ≡ x
four_passed true b c d e f g h y x k = cc
four_passed false true c d e f g h y x k = cc
four_passed false false true d e f g h y x k = cc
four_passed false false false true e f g h y x k = cc
four_passed false false false false e f g h y x k = cc

same_table : (c : CreateIndex) (n : NamedPart) (x : TableDef × IndexDef) → index_check_in c n ≡ Ok x → n.0 ≡ x.0
same_table c n x e = ap (λ (y : TableDef × IndexDef). y.0) (four_passed _ _ _ _ NameConflict LimitExceeded ReadOnlyTable NoSuchColumn (n.0, index_def n.0 c) x e)

only_indexed : (defs : Defs) (c : CreateIndex) (x : TableDef × IndexDef) → IdsFrom 1 defs → index_check defs c ≡ Ok x → AllByRecursion (IsOnly x.0) defs
unfolding index_check
only_indexed defs c x ids e =
    let l : Led (or_refused NoSuchTable (find_part defs c.table)) (index_check_in c) x = led _ _ x e in
    subst (λ (def : TableDef). AllByRecursion (IsOnly def) defs) (same_table c l.value x l.then_)
    (only_found 1 defs c.table l.value ids (was_found NoSuchTable (find_part defs c.table) l.value l.was))

pub few_found : (m : ℕ) (defs : Defs) (name : List ℕ) (x : NamedPart) → find_part defs name ≡ Some x → AllByRecursion (λ def. length def.columns < m) defs → length x.0.columns < m
few_found m defs name x e h = found_all (λ def. length def.columns < m) defs name x e h

abbrev pub indexed : IndexDef → Table → Table
indexed index t = with_def (with_index t.def index) t

-- an index that is pushed to the definition of the table with its id
in_its_place : (index : IndexDef) (def : TableDef) (b : Bool) (t : Table) → (t.def.id == def.id) ≡ b → IsOnly def t.def → (if b then indexed index t else t) ≡ (if b then with_def (with_index def index) t else t)
in_its_place index def true t e only = ap (λ (d : TableDef). with_def (with_index d index) t) (only (eqb-true t.def.id def.id e))
in_its_place index def false t e only = refl

index_in_place : (index : IndexDef) (def : TableDef) (T : Tables) → AllByRecursion (IsOnly def) (defs_of T) → changed_at def.id (indexed index) T ≡ redefined (with_index def index) T
index_in_place index def [] only = refl
index_in_place index def (t ∷ ts) only = rw (in_its_place index def (t.def.id == def.id) t refl only.0, index_in_place index def ts only.1) refl

-- ---- what the statements come to

length-starts : (rows : List Row) → length (column_starts rows) ≡ length rows
length-starts rows = length-map rows _

length-column_starts : (def : TableDef) → length (column_starts (column_rows def)) ≡ length def.columns
unfolding column_rows
length-column_starts def = length-starts (column_rows def) ∙ length-map (numbered 1 def.columns) (column_row def.id) ∙ length-numbered 1 def.columns

length-index_starts : (def : TableDef) (index : IndexDef) → length (index_starts def index) ≡ length index.ordinals
unfolding index_rows
length-index_starts def index =
    length-starts (index_rows def.id (length def.indexes + 1) index)
    ∙ length-map (numbered 1 index.ordinals) (index_row def.id (length def.indexes + 1) index.name)
    ∙ length-numbered 1 index.ordinals

abbrev made : Tables → ℕ → Effect
made T seq = record { tables = T; seq = seq; reply = Made }

same_made : (T U : Tables) (m n : ℕ) → T ≡ U → m ≡ n → made T m ≡ made U n
same_made T U m n e f = rw (e, f) refl

module _ (T : Tables) (tx seq next : ℕ) where
  pub table_made : (m : Checked TableDef) (def : TableDef) (first second : List Change) (U V : Tables) → m ≡ Ok def → first ≡ table_start def → second ≡ column_starts (column_rows def)
      → U ≡ with_system_rows tx seq first second T → V ≡ U ++ record { def = def; versions = [] } ∷ [] → next ≡ seq + length first + length second
      → table_effect T tx seq m ≡ record { tables = V; seq = next; reply = Made }
  table_made m def first second U V e f g u v n =
      ap (table_effect T tx seq) e
      ∙ same_made _ _ _ _
      (ap (λ (cs : List Change). with_system_rows tx seq (table_start def) cs T ++ record { def = def; versions = [] } ∷ []) (sym g)
      ∙ ap (λ (cs : List Change). with_system_rows tx seq cs second T ++ record { def = def; versions = [] } ∷ []) (sym f)
      ∙ ap (λ (W : Tables). W ++ record { def = def; versions = [] } ∷ []) (sym u)
      ∙ sym v)
      (omega (arith, n, ap (λ (cs : List Change). length cs) f, ap (λ (cs : List Change). length cs) g, length-column_starts def))

  index_made_at : (x : TableDef × IndexDef) → AllByRecursion (IsOnly x.0) (defs_of T) → next ≡ seq + length (index_starts x.0 x.1)
      → index_effect T tx seq (Ok x) ≡ made (changed_at x.0.id (indexed x.1) (with_system_rows tx seq [] (index_starts x.0 x.1) T)) next
  index_made_at x only n =
      let U : Tables = with_system_rows tx seq [] (index_starts x.0 x.1) T in
      same_made _ _ _ _
      (sym (index_in_place x.1 x.0 U (subst (λ (ds : Defs). AllByRecursion (IsOnly x.0) ds) (sym (rows_keep_defs tx seq [] (index_starts x.0 x.1) T)) only)))
      (omega (arith, n, length-index_starts x.0 x.1))

  pub index_made : (c : CreateIndex) (id : ℕ) (index : IndexDef) (def : TableDef) (none starts : List Change) (U V : Tables) → IdsFrom 1 (defs_of T) → index_check (defs_of T) c ≡ Ok (def, index) → id ≡ def.id → none ≡ [] → starts ≡ index_starts def index
      → U ≡ with_system_rows tx seq none starts T → V ≡ changed_at id (indexed index) U → next ≡ seq + length none + length starts
      → index_effect T tx seq (index_check (defs_of T) c) ≡ record { tables = V; seq = next; reply = Made }
  index_made c id index def none starts U V ids e f o g u v n =
      ap (index_effect T tx seq) e
      ∙ index_made_at (def, index) (only_indexed (defs_of T) c (def, index) ids e) (omega (arith, n, ap (λ (cs : List Change). length cs) o, ap (λ (cs : List Change). length cs) g))
      ∙ same_made _ _ _ _
      (ap (λ (cs : List Change). changed_at def.id (indexed index) (with_system_rows tx seq [] cs T)) (sym g)
      ∙ ap (λ (cs : List Change). changed_at def.id (indexed index) (with_system_rows tx seq cs starts T)) (sym o)
      ∙ ap (changed_at def.id (indexed index)) (sym u)
      ∙ ap (λ (k : ℕ). changed_at k (indexed index) U) (sym f)
      ∙ sym v)
      refl

  pub altered_made : (a : Altered) (U V : Tables) → U ≡ with_system_rows tx seq a.first a.second T → V ≡ redefined a.def U → next ≡ seq + length a.first + length a.second
      → altered_effect T tx seq (Ok a) ≡ record { tables = V; seq = next; reply = Made }
  altered_made a U V u v n = same_made _ _ _ _ (ap (redefined a.def) (sym u) ∙ sym v) (sym n)
