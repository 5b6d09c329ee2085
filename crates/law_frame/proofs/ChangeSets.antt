-- The effect of a statement is its plan, carried out.
use Rattle.std.proofs.Common.{◌≡◌, ℕ, suc, ◌+◌, refl, sym, ap, ◌∙◌, Bool, true, false, List, [], ◌∷◌, ◌++◌, length, Ok, Err, arith, length-append}
use Rattle.std.proofs.lemmas.List.{length-map}
use Rattle.std.specs.Prelude.{◌==◌, if◌then◌else◌}
use Rattle.sql_types.specs.declared.statement.Stmt.{Stmt}
use Rattle.sql_types.specs.declared.statement.Stmt.TheVariants as s
use Rattle.sql_types.specs.declared.statement.RowStmt.{RowStmt}
use Rattle.sql_types.specs.declared.statement.Select.{Select}
use Rattle.sql_types.specs.declared.reply.Reply.{Reply}
use Rattle.sql_types.specs.declared.table.TableDef.{TableDef}
use Rattle.sql_types.specs.declared.table.IndexDef.{IndexDef}
use Rattle.sql_types.specs.declared.version.Table.{Table}
use Rattle.sql_types.specs.declared.version.Version.{Version}
use Rattle.spec_model.specs.Refusals.{Checked}
use Rattle.spec_model.specs.Lists.{numbered}
use Rattle.spec_model.specs.Rows.{Row}
use Rattle.spec_model.specs.Changes.{Change, Changes, changed, changed_all, row_changes}
use Rattle.spec_model.specs.Catalog.{NamedPart, Tables, defs_of, versions_of, with_versions, changed_table}
use Rattle.spec_model.specs.Checks.{row_statement_check}
use Rattle.spec_model.specs.Query.{query_check}
use Rattle.spec_model.specs.SystemTables.{tables_id, columns_id, column_row, column_rows, index_row, index_rows}
use Rattle.spec_model.specs.Create.{create_check, index_check, with_index}
use Rattle.spec_model.specs.Alter.{Altered, alteration, table_drop}
use Rattle.spec_model.specs.Effect.{Effect, effect, done, row_effect, shown, query_rows, query_effect, table_start, column_starts, table_effect, redefined, index_starts, index_effect, altered_effect}
use Rattle.spec_model.specs.ChangeSets.{TableChange, in_table, changed_in, changed_from, row_change_set, row_stmt_change_set, select_change_set, query_change_set, create_table_change_set, create_index_change_set, altered_change_set, change_set, carried_out}

-- ---- changes in one table

as_it_was : (b : Bool) (t : Table) (f : List Version → List Version) → ((vs : List Version) → f vs ≡ vs) → (if b then with_versions f t else t) ≡ t
as_it_was true t f h = ap (λ (vs : List Version). with_versions (λ ws. vs) t) (h t.versions)
as_it_was false t f h = refl

pub nothing_changed : (id : ℕ) (f : List Version → List Version) → ((vs : List Version) → f vs ≡ vs) → (T : Tables) → changed_table id f T ≡ T
nothing_changed id f h [] = refl
nothing_changed id f h (t ∷ ts) = rw (as_it_was (t.def.id == id) t f h, nothing_changed id f h ts) refl

-- the versions of a table change, where it is the one
abbrev versions_if : Bool → (List Version → List Version) → Table → Table
versions_if b f t = if b then with_versions f t else t

pub same_def : (b : Bool) (f : List Version → List Version) (t : Table) → (if b then with_versions f t else t).def ≡ t.def
same_def true f t = refl
same_def false f t = refl

composed : (b : Bool) (f g : List Version → List Version) (t : Table) → versions_if b g (versions_if b f t) ≡ versions_if b (λ vs. g (f vs)) t
composed true f g t = refl
composed false f g t = refl

one_after_another : (id : ℕ) (f g : List Version → List Version) (t : Table) (u : Table) → u.def ≡ t.def → u ≡ versions_if (t.def.id == id) f t
    → (if u.def.id == id then with_versions g u else u) ≡ (if t.def.id == id then with_versions (λ vs. g (f vs)) t else t)
one_after_another id f g t u d e =
    ap (λ (def : TableDef). versions_if (def.id == id) g u) d
    ∙ ap (versions_if (t.def.id == id) g) e
    ∙ composed (t.def.id == id) f g t

pub changed_twice : (id : ℕ) (f g : List Version → List Version) (T : Tables) → changed_table id g (changed_table id f T) ≡ changed_table id (λ vs. g (f vs)) T
changed_twice id f g [] = refl
changed_twice id f g (t ∷ ts) = rw (one_after_another id f g t _ (same_def (t.def.id == id) f t) refl, changed_twice id f g ts) refl

pub in_one_table : (tx seq id : ℕ) (cs : List Change) (T : Tables) → changed_from tx seq (in_table id cs) T ≡ changed_table id (changed_all tx seq cs) T
unfolding changed_all
in_one_table tx seq id [] T = sym (nothing_changed id (λ vs. vs) (λ vs. refl) T)
in_one_table tx seq id (c ∷ cs) T =
    in_one_table tx (seq + 1) id cs (changed_table id (changed (tx, seq) c) T)
    ∙ changed_twice id (changed (tx, seq) c) (changed_all tx (seq + 1) cs) T

pub in_turn : (tx seq : ℕ) (cs ds : List TableChange) (T : Tables) → changed_from tx seq (cs ++ ds) T ≡ changed_from tx (seq + length cs) ds (changed_from tx seq cs T)
in_turn tx seq [] ds T = ap (λ (n : ℕ). changed_from tx n ds T) (omega arith)
in_turn tx seq (c ∷ cs) ds T =
    in_turn tx (seq + 1) cs ds (changed_in (tx, seq) c T)
    ∙ ap (λ (n : ℕ). changed_from tx n ds (changed_from tx (seq + 1) cs (changed_in (tx, seq) c T))) (omega arith)

-- ---- the effect

abbrev an_effect : Tables → ℕ → Reply → Effect
an_effect T seq reply = record { tables = T; seq = seq; reply = reply }

same_effect : (T U : Tables) (m n : ℕ) (reply : Reply) → T ≡ U → m ≡ n → an_effect T m reply ≡ an_effect U n reply
same_effect T U m n reply e f = rw (e, f) refl

pub length-in_table : (id : ℕ) (cs : List Change) → length (in_table id cs) ≡ length cs
length-in_table id cs = length-map cs (λ (c : Change). (id, c))

unchanged : (T : Tables) (seq : ℕ) (reply : Reply) → an_effect T seq reply ≡ an_effect T (seq + 0) reply
unchanged T seq reply = same_effect T T seq (seq + 0) reply refl (omega arith)

rows_carried_out : (T : Tables) (tx seq id : ℕ) (m : Checked Changes) → done T tx seq id m ≡ carried_out T tx seq (row_change_set id m)
rows_carried_out T tx seq id (Ok c) = same_effect _ _ _ _ _ (sym (in_one_table tx seq id c.0 T)) (ap (λ (n : ℕ). seq + n) (sym (length-in_table id c.0)))
rows_carried_out T tx seq id (Err e) = unchanged T seq _

change_carried_out : (T : Tables) (tx seq : ℕ) (stmt : RowStmt) (m : Checked TableDef) → row_effect T tx seq stmt m ≡ carried_out T tx seq (row_stmt_change_set T stmt m)
change_carried_out T tx seq stmt (Ok def) = rows_carried_out T tx seq def.id (row_changes def (versions_of T def.id) stmt)
change_carried_out T tx seq stmt (Err e) = unchanged T seq _

rows_shown : (T : Tables) (tx seq : ℕ) (m : Checked (List Row)) → shown T seq m ≡ carried_out T tx seq (select_change_set m)
rows_shown T tx seq (Ok rows) = unchanged T seq _
rows_shown T tx seq (Err e) = unchanged T seq _

query_carried_out : (T : Tables) (tx seq : ℕ) (q : Select) (m : Checked NamedPart) → query_effect T seq q m ≡ carried_out T tx seq (query_change_set T q m)
query_carried_out T tx seq q (Ok n) = rows_shown T tx seq (query_rows q n (versions_of T n.0.id))
query_carried_out T tx seq q (Err e) = unchanged T seq _

pub length-numbered : {A : Type 0} (n : ℕ) (xs : List A) → length (numbered n xs) ≡ length xs
length-numbered n [] = refl
length-numbered n (x ∷ xs) = ap suc (length-numbered (n + 1) xs)

pub length-starts : (rows : List Row) → length (column_starts rows) ≡ length rows
length-starts rows = length-map rows _

system_rows : (T : Tables) (tx seq : ℕ) (cs ds : List Change)
    → changed_table columns_id (changed_all tx (seq + length cs) ds) (changed_table tables_id (changed_all tx seq cs) T)
    ≡ changed_from tx seq (in_table tables_id cs ++ in_table columns_id ds) T
system_rows T tx seq cs ds =
    ap (changed_table columns_id (changed_all tx (seq + length cs) ds)) (sym (in_one_table tx seq tables_id cs T))
    ∙ ap (λ (n : ℕ). changed_table columns_id (changed_all tx (seq + n) ds) (changed_from tx seq (in_table tables_id cs) T)) (sym (length-in_table tables_id cs))
    ∙ sym (in_one_table tx (seq + length (in_table tables_id cs)) columns_id ds (changed_from tx seq (in_table tables_id cs) T))
    ∙ sym (in_turn tx seq (in_table tables_id cs) (in_table columns_id ds) T)

table_carried_out : (T : Tables) (tx seq : ℕ) (m : Checked TableDef) → table_effect T tx seq m ≡ carried_out T tx seq (create_table_change_set m)
unfolding column_rows
table_carried_out T tx seq (Ok def) = same_effect _ _ _ _ _
    (ap (λ (U : Tables). U ++ record { def = def; versions = [] } ∷ []) (system_rows T tx seq (table_start def) (column_starts (column_rows def))))
    (omega (arith, length-in_table columns_id (column_starts (column_rows def)), length-starts (column_rows def), length-map (numbered 1 def.columns) (column_row def.id), length-numbered 1 def.columns))
table_carried_out T tx seq (Err e) = unchanged T seq _

index_carried_out : (T : Tables) (tx seq : ℕ) (m : Checked (TableDef × IndexDef)) → index_effect T tx seq m ≡ carried_out T tx seq (create_index_change_set m)
unfolding index_rows
index_carried_out T tx seq (Ok x) = same_effect _ _ _ _ _
    (ap (redefined (with_index x.0 x.1)) (system_rows T tx seq [] (index_starts x.0 x.1)))
    (omega (arith, length-in_table columns_id (index_starts x.0 x.1), length-starts (index_rows x.0.id (length x.0.indexes + 1) x.1), length-map (numbered 1 x.1.ordinals) (index_row x.0.id (length x.0.indexes + 1) x.1.name), length-numbered 1 x.1.ordinals))
index_carried_out T tx seq (Err e) = unchanged T seq _

altered_carried_out : (T : Tables) (tx seq : ℕ) (m : Checked Altered) → altered_effect T tx seq m ≡ carried_out T tx seq (altered_change_set m)
altered_carried_out T tx seq (Ok a) = same_effect _ _ _ _ _
    (ap (redefined a.def) (system_rows T tx seq a.first a.second))
    (omega (arith, length-append (in_table tables_id a.first) (in_table columns_id a.second), length-in_table tables_id a.first, length-in_table columns_id a.second))
altered_carried_out T tx seq (Err e) = unchanged T seq _

-- every statement does what its plan says
pub carries_change_set_out : (T : Tables) (tx seq : ℕ) (stmt : Stmt) → effect T tx seq stmt ≡ carried_out T tx seq (change_set T stmt)
unfolding effect change_set
carries_change_set_out T tx seq (s.Create c) = table_carried_out T tx seq (create_check (defs_of T) c)
carries_change_set_out T tx seq (s.Index c) = index_carried_out T tx seq (index_check (defs_of T) c)
carries_change_set_out T tx seq (s.Alter a) = altered_carried_out T tx seq (alteration (defs_of T) (versions_of T tables_id) (versions_of T columns_id) a)
carries_change_set_out T tx seq (s.Drop name) = altered_carried_out T tx seq (table_drop (defs_of T) (versions_of T tables_id) (versions_of T columns_id) name)
carries_change_set_out T tx seq (s.Change stmt) = change_carried_out T tx seq stmt (row_statement_check (defs_of T) stmt)
carries_change_set_out T tx seq (s.Select q) = query_carried_out T tx seq q (query_check (defs_of T) q)
carries_change_set_out T tx seq s.Begin = unchanged T seq _
carries_change_set_out T tx seq s.Commit = unchanged T seq _
carries_change_set_out T tx seq (s.Save name) = unchanged T seq _
carries_change_set_out T tx seq (s.Rollback name) = unchanged T seq _
carries_change_set_out T tx seq s.Digest = unchanged T seq _
carries_change_set_out T tx seq s.Image = unchanged T seq _
