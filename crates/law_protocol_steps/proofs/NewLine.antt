-- A script with one line more: an INSERT, UPDATE or DELETE over a table of its tables.
use Rattle.std.proofs.Common.{◌≡◌, ◌≢◌, ℕ, ◌+◌, Bool, true, false, List, [], ◌∷◌, ◌++◌, length, Option, Some, None, Ok, refl, sym, ap, ap₂, ◌∙◌, subst}
use Rattle.std.proofs.lemmas.Bool.{eq-eqb, ne_eqb, or_right}
use Rattle.std.specs.Prelude.{◌==◌, ◌&&◌, ◌||◌, if◌then◌else◌}
use Rattle.std.specs.List.{list_any}
use Rattle.sql_types.specs.declared.reply.Reply.TheVariants as reply
use Rattle.sql_types.specs.declared.statement.Stmt.TheVariants as stmt
use Rattle.sql_types.specs.declared.statement.RowStmt.{RowStmt}
use Rattle.sql_types.specs.declared.table.TableDef.{TableDef}
use Rattle.sql_types.specs.declared.table.Part.{Part}
use Rattle.sql_types.specs.declared.version.Version.{Version}
use Rattle.spec_model.specs.Refusals.{and_then, or_refused}
use Rattle.sql_value.specs.declared.refusal.Refusal.TheVariants.{NoSuchTable}
use Rattle.spec_model.specs.Catalog.{Defs, NamedPart, Tables, defs_of, versions_of, changed_table, part_named, or_in, find_part}
use Rattle.spec_model.specs.Changes.{Change, changed_all, row_changes}
use Rattle.spec_model.specs.Checks.{row_check, table_of, row_statement_check}
use Rattle.spec_model.specs.Effect.{effect, row_effect, done}
use Rattle.spec_model.specs.Script.{Reading, State, ScriptEnd, by_effect, by_statement, text_step, script_from}
use Rattle.law_frame.proofs.AgreeAfter.{exact_at, has_table}
use Rattle.law_frame.proofs.Checked.{Led, led}

module _ (reads : Reading) (explicit : Bool) (tx : ℕ) where
  pub one_more : (x : State) (ts : List (List ℕ)) (t : List ℕ) → script_from reads explicit tx x (ts ++ t ∷ [])
      ≡ (let e : ScriptEnd = script_from reads explicit tx x ts in record { state = (text_step reads explicit tx e.state t).0; replies = e.replies ++ (text_step reads explicit tx e.state t).1 ∷ [] })
  unfolding script_from
  one_more x [] t = refl
  one_more x (u ∷ ts) t = ap (λ (e : ScriptEnd). record { state = e.state; replies = (text_step reads explicit tx x u).1 ∷ e.replies }) (one_more (text_step reads explicit tx x u).0 ts t)

  -- a row statement over tables of these definitions, which makes these changes
  module _ (x : State) (text : List ℕ) (row : RowStmt) (def : TableDef) (changes : List Change) (count : ℕ) (is : reads text ≡ Some (stmt.Change row)) (checked : row_statement_check (defs_of x.tables) row ≡ Ok def)
      (changed : row_changes def (versions_of x.tables def.id) row ≡ Ok (changes, count)) where
    pub its_effect : effect x.tables tx x.seq (stmt.Change row) ≡ record { tables = changed_table def.id (changed_all tx x.seq changes) x.tables; seq = x.seq + length changes; reply = reply.Changed count }
    unfolding effect
    its_effect = ap (row_effect x.tables tx x.seq row) checked ∙ ap (done x.tables tx x.seq def.id) changed

    by_bool : (b : Bool) → by_statement b tx x (Some (stmt.Change row)) ≡ by_effect x (effect x.tables tx x.seq (stmt.Change row))
    by_bool true = refl
    by_bool false = refl

    pub its_step : text_step reads explicit tx x text ≡ (record { tables = changed_table def.id (changed_all tx x.seq changes) x.tables; seq = x.seq + length changes; saved = x.saved }, reply.Changed count)
    unfolding text_step
    its_step = ap (by_statement explicit tx x) is ∙ by_bool explicit ∙ ap (by_effect x) its_effect

-- ---- the definition that was found

found_part_at : (def : TableDef) (defs : Defs) (name : List ℕ) (found : NamedPart) (o : Option Part) → part_named def name ≡ o → or_in o def (find_part defs name) ≡ Some found → (find_part defs name ≡ Some found → part_named found.0 name ≡ Some found.1) → part_named found.0 name ≡ Some found.1
found_part_at def defs name found (Some p) e f h = let z : (def, p) ≡ found = cc in subst (λ (n : NamedPart). part_named n.0 name ≡ Some n.1) z e
found_part_at def defs name found None e f h = h f

pub found_part : (defs : Defs) (name : List ℕ) (found : NamedPart) → find_part defs name ≡ Some found → part_named found.0 name ≡ Some found.1
unfolding find_part
found_part [] name found e = cc
found_part (d ∷ defs) name found e = found_part_at d defs name found (part_named d name) refl e (found_part defs name found)

-- it is found among itself alone
pub found_alone : (defs : Defs) (name : List ℕ) (found : NamedPart) → find_part defs name ≡ Some found → find_part (found.0 ∷ []) name ≡ Some found
unfolding find_part
found_alone defs name found e = ap (λ (o : Option Part). or_in o found.0 None) (found_part defs name found e)

-- and so a statement passes its checks over all definitions where it does over that one
pub same_check : (defs : Defs) (row : RowStmt) (found : NamedPart) → find_part defs (table_of row) ≡ Some found → row_statement_check (found.0 ∷ []) row ≡ row_statement_check defs row
unfolding row_statement_check
same_check defs row found e = ap (λ (o : Option NamedPart). and_then (or_refused NoSuchTable o) (λ n. and_then (row_check row n.0 n.1) (λ passed. Ok n.0))) (found_alone defs (table_of row) found e ∙ sym e)

pub checked_part : (defs : Defs) (row : RowStmt) (def : TableDef) → row_statement_check defs row ≡ Ok def → (part : Part) × (row_check row def part ≡ Ok tt)
unfolding row_statement_check
checked_part defs row def e =
    let l : Led (or_refused NoSuchTable (find_part defs (table_of row))) (λ n. and_then (row_check row n.0 n.1) (λ passed. Ok n.0)) def = led _ _ def e in
    let k : Led (row_check row l.value.0 l.value.1) (λ passed. Ok l.value.0) def = led _ _ def l.then_ in
    let same : l.value.0 ≡ def = cc in
    (l.value.1, subst (λ (d : TableDef). row_check row d l.value.1 ≡ Ok tt) same k.was)

has_at : (d : TableDef) (defs : Defs) (name : List ℕ) (found : NamedPart) (o : Option Part) → or_in o d (find_part defs name) ≡ Some found → (find_part defs name ≡ Some found → has_table defs found.0.id ≡ true) → has_table (d ∷ defs) found.0.id ≡ true
unfolding has_table
has_at d defs name found (Some p) f h = let z : (d, p) ≡ found = cc in ap (λ (b : Bool). b || list_any (λ e. e.id == found.0.id) defs) (eq-eqb d.id found.0.id (ap (λ (n : NamedPart). n.0.id) z))
has_at d defs name found None f h = ap (λ (b : Bool). (d.id == found.0.id) || b) (h f) ∙ or_right (d.id == found.0.id) true refl

pub has_found : (defs : Defs) (name : List ℕ) (found : NamedPart) → find_part defs name ≡ Some found → has_table defs found.0.id ≡ true
unfolding find_part
has_found [] name found e = cc
has_found (d ∷ defs) name found e = has_at d defs name found (part_named d name) e (has_found defs name found)

-- ---- the tables after it

pub changed_here : (id : ℕ) (f : List Version → List Version) (T : Tables) → has_table (defs_of T) id ≡ true → versions_of (changed_table id f T) id ≡ f (versions_of T id)
changed_here id f T h = exact_at id id f T ∙ ap (λ (b : Bool). if b then f (versions_of T id) else versions_of T id) (ap₂ (λ (p q : Bool). p && q) (eq-eqb id id refl) h)

pub changed_else : (id i : ℕ) (f : List Version → List Version) (T : Tables) → id ≢ i → versions_of (changed_table id f T) i ≡ versions_of T i
changed_else id i f T ne = exact_at id i f T ∙ ap (λ (b : Bool). if b && has_table (defs_of T) i then f (versions_of T i) else versions_of T i) (ne_eqb id i ne)
