-- The visits of the catalog's cell that create, alter or drop, or are refused: cells and seats stand together.
use Rattle.law_protocol_steps.proofs.ActedFor.{StandsBy}
use Rattle.std.proofs.Common.{◌≡◌, ◌≢◌, ℕ, ◌+◌, ◌≤◌, Bool, true, false, List, [], ◌∷◌, ◌++◌, map, length, set, Option, Some, Ok, refl, sym, ap, ap₂, ◌∙◌, subst, inl, inr, ⊎_elim, arith, None}
use Rattle.std.proofs.lemmas.Bool.{cases_eq, eq-eqb, ne_eqb, eqb-true, eqb-false}
use Rattle.std.proofs.lemmas.List.{length-map}
use Rattle.std.specs.Prelude.{◌==◌, ◌||◌, ◌-◌, if◌then◌else◌}
use Rattle.std.specs.List.{AllByRecursion, list_any}
use mathlib.Core.Option.{some}
use lib.ListN.{get_elem?}
use Rattle.sql_value.specs.declared.refusal.Refusal.{Refusal}
use Rattle.sql_types.specs.declared.lock.Mode.{Mode}
use Rattle.sql_types.specs.declared.lock.Mode.TheVariants.{X}
use Rattle.sql_types.specs.declared.lock.Item.{Item}
use Rattle.sql_types.specs.declared.lock.LockRequest.{LockRequest}
use Rattle.sql_types.specs.declared.reply.Reply.{Reply}
use Rattle.sql_types.specs.declared.reply.Reply.TheVariants as reply
use Rattle.sql_types.specs.declared.statement.Stmt.{Stmt}
use Rattle.sql_types.specs.declared.statement.Stmt.TheVariants as st
use Rattle.sql_types.specs.declared.table.TableDef.{TableDef}
use Rattle.sql_types.specs.declared.table.IndexDef.{IndexDef}
use Rattle.sql_types.specs.declared.version.Version.{Version}
use Rattle.sql_types.specs.declared.version.Table.{Table}
use Rattle.spec_model.specs.Rows.{Row}
use Rattle.spec_model.specs.Catalog.{Defs, Tables, defs_of, versions_of, changed_table}
use Rattle.spec_model.specs.Alter.{Altered, alteration, table_drop}
use Rattle.spec_model.specs.Changes.{Change, changed_all}
use Rattle.spec_model.specs.Create.{create_check, index_check, with_index}
use Rattle.spec_model.specs.Effect.{effect, table_effect, index_effect, altered_effect, table_start, column_starts, index_starts}
use Rattle.spec_model.specs.SystemTables.{tables_id, columns_id, column_rows, column_row, index_rows, index_row}
use Rattle.spec_model.specs.Lists.{numbered}
use Rattle.spec_model.specs.Refusals.{Checked}
use Rattle.spec_model.specs.Locks.{whole, catalog_request}
use Rattle.spec_model.specs.ChangeSets.{change_set, create_table_change_set, create_index_change_set, altered_change_set, defined, in_place, altered}
use Rattle.spec_model.specs.Reach.{creates}
use Rattle.spec_model.specs.Replies.{reply_text}
use Rattle.spec_protocol.specs.EventsIn.{events_in}
use Rattle.spec_protocol.specs.TreesAreOfEvents.{AreTrees}
use Rattle.sql_types.specs.declared.event.Event.{Event}
use Rattle.spec_protocol.specs.Doing.{grown, events_from}
use Rattle.law_protocol_changes.proofs.Grown.{grown_trees}
use Rattle.spec_protocol.specs.CatalogVisits.{with_table, with_new_index, with_system_leaves, replaced_def, alters_in, with_altered, with_altered_leaves}
use Rattle.std.specs.Prelude.{nat_le}
use Rattle.std.proofs.lemmas.Bool.Decides.{nat_tests}
use Rattle.std.specs.List.{filter}
use Rattle.sql_types.specs.declared.statement.Alter.{Alter}
use Rattle.sql_types.specs.declared.statement.CreateTable.{CreateTable}
use Rattle.sql_types.specs.declared.statement.CreateIndex.{CreateIndex}
use Rattle.spec_model.specs.Script.{start, text_step, by_statement, by_effect}
use Rattle.law_frame.proofs.AgreeAfter.{has_table}
use Rattle.law_frame.proofs.AtTable.{new_table, redefined_table}
use Rattle.law_frame.proofs.Definitions.{same_defs}
use Rattle.law_frame.proofs.ChangeSets.{length-numbered, length-starts}
use Rattle.law_frame.proofs.UndoneVersions.{Undoes}
use Rattle.law_journal.specs.Fine.{OfTable}
use Rattle.law_journal.specs.Described.{Described}
use Rattle.law_journal.proofs.DefLists.{defs_append, defs_redefined}
use Rattle.law_journal.proofs.Altered.{by_alter, by_drop}
use Rattle.law_journal.proofs.Serials.{legal_described}
use Rattle.spec_history.specs.Lists.{Text, In}
use Rattle.spec_protocol.specs.Server.{Server}
use Rattle.sql_types.specs.declared.lock.Hold.{Hold}
use Rattle.spec_protocol.specs.Cells.{CatalogCell, Cell, Catalog, versions_in, versions_at, catalog_at, cell_of}
use Rattle.spec_protocol.specs.Seats.{OpenTransaction, begun, made, replied, inside, Session, SeatState}
use Rattle.spec_protocol.specs.RequestsIn.{Holds}
use Rattle.spec_protocol.specs.Moves.{visiting, noting, InOpenTransaction, at_place, sits}
use Rattle.spec_protocol.specs.Doing.{with_reply, with_line, stage_after}
use Rattle.spec_protocol.specs.LocksCover.{IsRepliedTo, IsAfter}
use Rattle.spec_protocol.specs.CatalogVisits.{CreateRefused, RefusesCreate, CreatesTable, CreatesIndex, AltersTable}
use Rattle.spec_protocol.specs.StandTogether.{History, Stands}
use Rattle.law_protocol_steps.proofs.AfterSet.{set_here, set_same, set_twice}
use Rattle.law_protocol_steps.proofs.CellsAfter.{were_here, versions_here}
use Rattle.law_protocol_steps.proofs.Looks.{put_there}
use Rattle.law_protocol_steps.proofs.Taken.{taken_holds, whole_alone}
use Rattle.law_protocol_steps.proofs.NewLine.{changed_here, changed_else}
use Rattle.law_protocol_steps.proofs.SameOne.{no_change, trees_from}
use Rattle.law_protocol_steps.proofs.Takes.{tables_now}
use Rattle.law_protocol_changes.proofs.CatalogTakes as take
use Rattle.law_protocol_changes.proofs.Creating.{no_seq, IsStage, SystemChange, HasTables, Creating, creates_there, was_trees, same_here_none, none_elsewhere}
use Rattle.law_frame.proofs.PlainRefusals.{IsPlainReply, effect_reply}
use Rattle.law_protocol_steps.proofs.TakenLocks.{all_free}
use Rattle.spec_model.specs.InTheWay.{first_conflict}
use Rattle.law_protocol_changes.proofs.PlainReplies.{replied_fits}
use Rattle.spec_history.specs.Transactions.{unfixed}
use Rattle.spec_history.specs.Acts.{SessionAct, looks}

nothing : (tx : ℕ) (vs : List Version) → vs ≡ changed_all tx 0 [] vs
unfolding changed_all
nothing tx vs = refl

-- ---- the system tables

has_of : (id : ℕ) (P : Table → Type 0) (T : Tables) → OfTable id P T → has_table (defs_of T) id ≡ true
unfolding has_table
has_of id P [] h = absurd h
has_of id P (t ∷ ts) h = ⊎_elim
    (λ (e : (t.def.id ≡ id) × P t). ap (λ (b : Bool). b || list_any (λ (d : TableDef). d.id == id) (defs_of ts)) (eq-eqb t.def.id id e.0))
    (λ (k : OfTable id P ts). ap (λ (b : Bool). (t.def.id == id) || b) (has_of id P ts k) ∙ or_true (t.def.id == id))
    h
  where
    or_true : (b : Bool) → (b || true) ≡ true
    or_true true = refl
    or_true false = refl

-- the ids in the catalog's cell
pub data IsSystemId (id : ℕ) : Type 0 where
  is_tables : id ≡ 1 → IsSystemId id
  is_columns : id ≡ 2 → IsSystemId id

system_id : (id : ℕ) → 1 ≤ id → cell_of id ≡ catalog_at → IsSystemId id
system_id id l e = by (id == 1) refl
  where
    last : (b : Bool) → (id == 1) ≡ false → (id == 2) ≡ b → IsSystemId id
    last true f g = is_columns (eqb-true id 2 g)
    last false f g = absurd (let z : id - 1 ≡ 0 = sym (rw (f, g) refl) ∙ e in let ne = eqb-false id 1 f in omega arith)

    by : (b : Bool) → (id == 1) ≡ b → IsSystemId id
    by true f = is_tables (eqb-true id 1 f)
    by false f = last (id == 2) f refl

pub not_tables : (id : ℕ) → cell_of id ≢ catalog_at → 1 ≢ id
not_tables id ne e = ne (ap cell_of (sym e))

pub not_columns : (id : ℕ) → cell_of id ≢ catalog_at → 2 ≢ id
not_columns id ne e = ne (ap cell_of (sym e))

all_start : (tx n : ℕ) (V : List Version) (rows : List Row) → AllByRecursion (Undoes tx n V) (column_starts rows)
all_start tx n V [] = tt
all_start tx n V (r ∷ rs) = (tt, all_start tx n V rs)

many_starts : (def : TableDef) → length (column_starts (column_rows def)) ≡ length def.columns
unfolding column_rows
many_starts def = length-starts (map (column_row def.id) (numbered 1 def.columns)) ∙ length-map (numbered 1 def.columns) (column_row def.id) ∙ length-numbered 1 def.columns

many_parts : (def : TableDef) (index : IndexDef) → length (index_starts def index) ≡ length index.ordinals
unfolding index_rows
many_parts def index = length-starts (map (index_row def.id (length def.indexes + 1) index.name) (numbered 1 index.ordinals)) ∙ length-map (numbered 1 index.ordinals) (index_row def.id (length def.indexes + 1) index.name) ∙ length-numbered 1 index.ordinals

none_changed : (tx n : ℕ) (vs : List Version) → changed_all tx n [] vs ≡ vs
unfolding changed_all
none_changed tx n vs = refl

zero_le : (n : ℕ) → nat_le 0 n ≡ true
zero_le n = grind (arith, nat_tests)

all_events : (es : List Event) → filter (λ e. nat_le 0 e.seq) es ≡ es
all_events [] = refl
all_events (e ∷ es) = rw (zero_le e.seq) (ap (λ (l : List Event). e ∷ l) (all_events es))

-- ---- stages

replied_stage : (v : Server) (T : Tables) (text : Text) (r : Reply) → IsPlainReply r → IsRepliedTo T (v.reads text) → IsStage v T text r (replied r)
replied_stage v T text r h to = record { lines = refl; counts = λ tx id vs. refl; asks = inl refl; shows = refl; image = refl; fits = λ n own. replied_fits v.meaning text n r h unfixed own; got = to; acted = tt; not_first = λ h. h; not_dropping = λ p h. h; goes_to = λ n. tt; explicit = tt; indexed = λ cs. tt }

made_stage : (v : Server) (T : Tables) (text : Text) (def : TableDef) → IsAfter T (v.reads text) def → IsStage v T text reply.Made (made def false)
made_stage v T text def h = record { lines = refl; counts = λ tx id vs. refl; asks = inl refl; shows = refl; image = refl; fits = λ n own. tt; got = (refl, h, tt); acted = tt; not_first = λ h. h; not_dropping = λ p h. h; goes_to = λ n. tt; explicit = refl; indexed = λ cs. tt }

-- ---- the lock

pub has_whole : (hs : List Hold) (id : ℕ) → Holds hs id (whole X) → In (record { tx = id; request = whole X }) hs
has_whole hs id h = subst (λ (g : Hold). In g hs) (ap₂ (λ (n : ℕ) (w : LockRequest). record { tx = n; request = w }) h.mine (ap₂ (λ (i : Item) (m : Mode). record { item = i; mode = m }) (whole_alone h.hold.request.item h.item) h.mode)) h.has

-- ---- what ALTER TABLE and DROP TABLE make over the catalog is what they make over the tables

same_alteration : (c : CatalogCell) (T : Tables) → HasTables c T → (a : Alter) → alteration c.defs c.tables c.columns a ≡ alteration (defs_of T) (versions_of T tables_id) (versions_of T columns_id) a
same_alteration c T f a = λ i. alteration (f.defs i) (f.rows 1 (omega arith) refl i) (f.rows 2 (omega arith) refl i) a

same_drop : (c : CatalogCell) (T : Tables) → HasTables c T → (name : Text) → table_drop c.defs c.tables c.columns name ≡ table_drop (defs_of T) (versions_of T tables_id) (versions_of T columns_id) name
same_drop c T f name = λ i. table_drop (f.defs i) (f.rows 1 (omega arith) refl i) (f.rows 2 (omega arith) refl i) name

only_passed : (m : Checked Altered) (a : Altered) → Some m ≡ Some (Ok a) → m ≡ Ok a
only_passed m a e = cc

-- ---- refused

plain_refused : (c : CatalogCell) (T : Tables) (tx : ℕ) (q : Stmt) (e : Refusal) → CreateRefused c q e → HasTables c T → IsPlainReply (reply.Refused e)
unfolding effect
plain_refused c T tx (st.Create create) e h f = subst IsPlainReply (ap (λ m. (table_effect T tx 0 m).reply) (ap (λ (ds : Defs). create_check ds create) (sym f.defs) ∙ h)) (effect_reply T tx 0 (st.Create create))
plain_refused c T tx (st.Index create) e h f = subst IsPlainReply (ap (λ m. (index_effect T tx 0 m).reply) (ap (λ (ds : Defs). index_check ds create) (sym f.defs) ∙ h)) (effect_reply T tx 0 (st.Index create))
plain_refused c T tx (st.Alter a) e h f = subst IsPlainReply (ap (λ m. (altered_effect T tx 0 m).reply) (sym (same_alteration c T f a) ∙ h)) (effect_reply T tx 0 (st.Alter a))
plain_refused c T tx (st.Drop name) e h f = subst IsPlainReply (ap (λ m. (altered_effect T tx 0 m).reply) (sym (same_drop c T f name) ∙ h)) (effect_reply T tx 0 (st.Drop name))
plain_refused c T tx q e h f = absurd h

refused_makes_none : (c : CatalogCell) (T : Tables) (q : Stmt) (e : Refusal) → CreateRefused c q e → HasTables c T → IsRepliedTo T (Some q)
unfolding change_set
refused_makes_none c T (st.Create create) e h f = tt
refused_makes_none c T (st.Index create) e h f = ap (λ m. (create_index_change_set m).definition) (ap (λ (ds : Defs). index_check ds create) (sym f.defs) ∙ h)
refused_makes_none c T (st.Alter a) e h f = tt
refused_makes_none c T (st.Drop name) e h f = tt
refused_makes_none c T q e h f = absurd h

refused_creates : (c : CatalogCell) (q : Stmt) (e : Refusal) → CreateRefused c q e → (creates q ≡ true) × (catalog_request false q ≡ Some X)
refused_creates c (st.Create create) e h = (refl, refl)
refused_creates c (st.Index create) e h = (refl, refl)
refused_creates c (st.Alter a) e h = (refl, refl)
refused_creates c (st.Drop name) e h = (refl, refl)
refused_creates c q e h = absurd h

refused_step : (c : CatalogCell) (T : Tables) (tx : ℕ) (q : Stmt) (e : Refusal) → CreateRefused c q e → HasTables c T → by_statement false tx (start T) (Some q) ≡ (start T, reply.Refused e)
unfolding effect
refused_step c T tx (st.Create create) e h f = ap (λ m. by_effect (start T) (table_effect T tx 0 m)) (ap (λ (ds : Defs). create_check ds create) (sym f.defs) ∙ h)
refused_step c T tx (st.Index create) e h f = ap (λ m. by_effect (start T) (index_effect T tx 0 m)) (ap (λ (ds : Defs). index_check ds create) (sym f.defs) ∙ h)
refused_step c T tx (st.Alter a) e h f = ap (λ m. by_effect (start T) (altered_effect T tx 0 m)) (sym (same_alteration c T f a) ∙ h)
refused_step c T tx (st.Drop name) e h f = ap (λ m. by_effect (start T) (altered_effect T tx 0 m)) (sym (same_drop c T f name) ∙ h)
refused_step c T tx q e h f = absurd h

-- ---- altered or dropped

pub alters_x : (c : CatalogCell) (q : Stmt) (a : Altered) → alters_in c q ≡ Some (Ok a) → catalog_request false q ≡ Some X
alters_x c (st.Alter y) a e = refl
alters_x c (st.Drop name) a e = refl
alters_x c q a e = cc

alters_creates : (c : CatalogCell) (q : Stmt) (a : Altered) → alters_in c q ≡ Some (Ok a) → creates q ≡ true
alters_creates c (st.Alter y) a e = refl
alters_creates c (st.Drop name) a e = refl
alters_creates c q a e = cc

alters_replied : (c : CatalogCell) (T : Tables) (q : Stmt) (a : Altered) → alters_in c q ≡ Some (Ok a) → IsRepliedTo T (Some q)
alters_replied c T (st.Alter y) a e = tt
alters_replied c T (st.Drop name) a e = tt
alters_replied c T q a e = cc

alters_made : (c : CatalogCell) (T : Tables) (q : Stmt) (a : Altered) → alters_in c q ≡ Some (Ok a) → HasTables c T → (change_set T q).definition ≡ altered a.def
unfolding change_set
alters_made c T (st.Alter y) a e f = ap (λ m. (altered_change_set m).definition) (sym (same_alteration c T f y) ∙ only_passed (alteration c.defs c.tables c.columns y) a e)
alters_made c T (st.Drop name) a e f = ap (λ m. (altered_change_set m).definition) (sym (same_drop c T f name) ∙ only_passed (table_drop c.defs c.tables c.columns name) a e)
alters_made c T q a e f = cc

alters_step : (c : CatalogCell) (T : Tables) (tx : ℕ) (q : Stmt) (a : Altered) → alters_in c q ≡ Some (Ok a) → HasTables c T → by_statement false tx (start T) (Some q) ≡ by_effect (start T) (altered_effect T tx 0 (Ok a))
unfolding effect
alters_step c T tx (st.Alter y) a e f = ap (λ m. by_effect (start T) (altered_effect T tx 0 m)) (sym (same_alteration c T f y) ∙ only_passed (alteration c.defs c.tables c.columns y) a e)
alters_step c T tx (st.Drop name) a e f = ap (λ m. by_effect (start T) (altered_effect T tx 0 m)) (sym (same_drop c T f name) ∙ only_passed (table_drop c.defs c.tables c.columns name) a e)
alters_step c T tx q a e f = cc

-- rows start, and those of one of the two system tables alone
HasOne : List Change → List Change → Type 0
HasOne [] second = Unit {0}
HasOne (x ∷ first) second = second ≡ []

record Starting (tx : ℕ) (a : Altered) : Type 0 where
  first : (V : List Version) → AllByRecursion (Undoes tx 0 V) a.first
  second : (V : List Version) → AllByRecursion (Undoes tx 0 V) a.second
  one : HasOne a.first a.second

alters_start : (tx : ℕ) (c : CatalogCell) (q : Stmt) (a : Altered) → alters_in c q ≡ Some (Ok a) → Starting tx a
unfolding HasOne
alters_start tx c (st.Alter y) a e = by_alter c.defs c.tables c.columns (Starting tx) y a (only_passed (alteration c.defs c.tables c.columns y) a e) (λ x f. record { first = λ V. tt; second = λ V. (tt, tt); one = tt })
alters_start tx c (st.Drop name) a e = by_drop c.defs c.tables c.columns (Starting tx) name a (only_passed (table_drop c.defs c.tables c.columns name) a e) (λ def f. record { first = λ V. (tt, tt); second = λ V. tt; one = refl })
alters_start tx c q a e = cc

step_of : (v : Server) (tx : ℕ) (T : Tables) (text : Text) (stmt : Stmt) → v.reads text ≡ Some stmt → text_step v.reads false tx (start T) text ≡ by_statement false tx (start T) (Some stmt)
unfolding text_step
step_of v tx T text stmt e = ap (by_statement false tx (start T)) e

module _ (v : Server) (cells : List Cell) (seats : List SeatState) {history : History} (S : Stands v history cells seats) (j : ℕ) (s : SeatState) (there : get_elem? seats j ≡ some s) (c : CatalogCell) (out : get_elem? cells catalog_at ≡ some (Catalog c))
    (o : OpenTransaction) (at : InOpenTransaction v s o) (at_begin : at.stands.stage ≡ begun) (alone : o.explicit ≡ false) (requests : catalog_request false at.stands.stmt ≡ Some X) (its : creates at.stands.stmt ≡ true) (free : first_conflict c.holds o.id (whole X ∷ []) ≡ None) where
  abbrev x : Session
  x = at.stands.x

  abbrev text : Text
  text = at.stands.text

  abbrev stmt : Stmt
  stmt = at.stands.stmt

  place : x.place ≡ inside text begun
  place = at.stands.place ∙ ap (inside text) at_begin

  K : take.Exclusive v cells seats S j s x o text stmt c
  K = record { there = there; role = at.stands.role; open_one = at.open_one; unfixed = at.unfixed; place = place; out = out; is = at.stands.is; alone = alone; wanted = requests; free = all_free c.holds o.id (whole X ∷ []) free }

  abbrev x1 : Session
  x1 = take.then_session v cells seats S j s x o text stmt c K

  abbrev o1 : OpenTransaction
  o1 = visiting catalog_at o

  abbrev c1 : CatalogCell
  c1 = take.then_catalog v cells seats S j s x o text stmt c K

  abbrev cells1 : List Cell
  cells1 = take.then_cells v cells seats S j s x o text stmt c K

  abbrev seats1 : List SeatState
  seats1 = take.then_seats v cells seats S j s x o text stmt c K

  stands_then : Stands v history cells1 seats1
  stands_then = take.exclusive_there v cells seats S j s x o text stmt c K

  abbrev T : Tables
  T = tables_now stands_then

  out1 : get_elem? cells1 catalog_at ≡ some (Catalog c1)
  out1 = set_here cells catalog_at (Catalog c) (Catalog c1) out

  there1 : get_elem? seats1 j ≡ some (sits s x1)
  there1 = set_here seats j s (sits s x1) there

  exclusive1 : In (record { tx = o.id; request = whole X }) c1.holds
  exclusive1 = has_whole c1.holds o.id (taken_holds o.id (whole X ∷ []) c.holds).0

  rows1 : (id : ℕ) → cell_of id ≡ catalog_at → versions_at cells1 id ≡ versions_in id (Catalog c1)
  rows1 id e = were_here cells1 catalog_at (Catalog c1) (Catalog c1) out1 id e

  has_c : HasTables c1 T → HasTables c T
  has_c f = record { defs = f.defs; rows = f.rows }

  -- ---- refused

  module _ (e : Refusal) (refused : CreateRefused c stmt e) where
    abbrev p : OpenTransaction
    p = with_reply text (reply.Refused e) o1

    refusing : Creating v cells1 seats1 stands_then j (sits s x1) x1 o1 p text stmt c1 c1 (replied (reply.Refused e)) (reply.Refused e) T
    refusing = record {
      there = there1;
      role = refl;
      open_one = refl;
      unfixed = at.unfixed;
      place = place;
      out = out1;
      is = at.stands.is;
      alone = alone;
      creates = its;
      exclusive = exclusive1;
      visited = put_there catalog_at o.visited;
      alike = record { id = refl; explicit = refl; script = ap (λ (b : Bool). with_line b (text, reply_text (reply.Refused e)) o.script) alone; end = refl };
      same_visited = refl;
      same_released = refl;
      stage_is = λ f. replied_stage v T text (reply.Refused e) (plain_refused c T o.id stmt e refused (has_c f)) (subst (IsRepliedTo T) (sym at.stands.is) (refused_makes_none c T stmt e refused (has_c f)));
      holds = refl;
      same_savepoints = refl;
      steps = λ f q. step_of v o.id T text stmt at.stands.is ∙ refused_step c T o.id stmt e refused (has_c f) ∙ ap (λ (n : ℕ). (record { tables = T; seq = n; saved = [] }, reply.Refused e)) (sym q);
      system = λ f id l k. record { from = 0; changes = []; is = sym (rows1 id k) ∙ nothing o.id (versions_at cells1 id); script = sym (f.rows id l k); within = omega arith; undoes = tt };
      users = λ id ne. refl;
      left = λ f. f.defs;
      creator = inl (refl, refl);
    }

    refuses : StandsBy v j history o.id o.explicit (looks text false ∷ []) (set cells1 catalog_at (Catalog c1)) (set seats1 j (sits (sits s x1) (at_place (Some p) (inside text (replied (reply.Refused e))) x1)))
    refuses = creates_there v cells1 seats1 stands_then j (sits s x1) x1 o1 p text stmt c1 c1 (replied (reply.Refused e)) (reply.Refused e) T refusing
        (trees_from x1 o1 x1 o1 (no_change x1 o1) v (λ id. []) _ p.trees
        (λ id l. same_here_none v cells1 seats1 stands_then j (sits s x1) x1 o1 p text stmt c1 c1 (replied (reply.Refused e)) (reply.Refused e) T refusing id l (ap (λ (cs : List Cell). versions_at cs id) (set_same cells1 catalog_at (Catalog c1) out1)))
        (was_trees v cells1 seats1 stands_then j (sits s x1) x1 o1 p text stmt c1 c1 (replied (reply.Refused e)) (reply.Refused e) T refusing))

  -- ---- a table is made

  module _ (create : CreateTable) (is : stmt ≡ st.Create create) (def : TableDef) (passes : create_check c.defs create ≡ Ok def) where
    abbrev d : CatalogCell
    d = with_table o.id o.seq def c1.holds c

    abbrev E : Tables
    E = (table_effect T o.id o.seq (Ok def)).tables

    abbrev q : OpenTransaction
    q = with_reply text reply.Made (noting (o.seq + 1 + length def.columns) (with_system_leaves o.id o.seq d o.trees) o1)

    ids : Described T
    ids = legal_described v.reads stands_then.ledger.items stands_then.ledger_is_legal.legal

    f1 : List Version → List Version
    f1 = changed_all o.id o.seq (table_start def)

    f2 : List Version → List Version
    f2 = changed_all o.id (o.seq + 1) (column_starts (column_rows def))

    system_rows : HasTables c1 T → (id : ℕ) → 1 ≤ id → cell_of id ≡ catalog_at → SystemChange o.id (versions_at cells1 id) (versions_in id (Catalog d)) (versions_of E id) (o.seq + 1 + length def.columns)
    unfolding f1 f2
    system_rows f id l e = by (system_id id l e)
      where
        by : IsSystemId id → SystemChange o.id (versions_at cells1 id) (versions_in id (Catalog d)) (versions_of E id) (o.seq + 1 + length def.columns)
        by (is_tables m) = subst (λ (i : ℕ). SystemChange o.id (versions_at cells1 i) (versions_in i (Catalog d)) (versions_of E i) (o.seq + 1 + length def.columns)) (sym m)
            (record {
              from = o.seq;
              changes = table_start def;
              is = ap f1 (sym (rows1 1 refl));
              script = new_table def 1 (changed_table 2 f2 (changed_table 1 f1 T)) ∙ changed_else 2 1 f2 (changed_table 1 f1 T) (λ z. omega arith) ∙ changed_here 1 f1 T (has_of 1 _ T ids.of_tables) ∙ ap f1 (sym (f.rows 1 (omega arith) refl));
              within = omega arith;
              undoes = (tt, tt);
            })
        by (is_columns m) = subst (λ (i : ℕ). SystemChange o.id (versions_at cells1 i) (versions_in i (Catalog d)) (versions_of E i) (o.seq + 1 + length def.columns)) (sym m)
            (record {
              from = o.seq + 1;
              changes = column_starts (column_rows def);
              is = ap f2 (sym (rows1 2 refl));
              script = new_table def 2 (changed_table 2 f2 (changed_table 1 f1 T)) ∙ changed_here 2 f2 (changed_table 1 f1 T) (ap (λ (ds : Defs). has_table ds 2) (same_defs 1 f1 T) ∙ has_of 2 _ T ids.of_columns) ∙ ap f2 (changed_else 1 2 f1 T (λ z. omega arith) ∙ sym (f.rows 2 (omega arith) refl));
              within = let n = many_starts def in omega arith;
              undoes = all_start o.id 0 _ (column_rows def);
            })

    steps_so : HasTables c1 T → o.seq ≡ 0 → text_step v.reads false o.id (start T) text ≡ (record { tables = E; seq = o.seq + 1 + length def.columns; saved = [] }, reply.Made)
    unfolding effect
    steps_so f z = step_of v o.id T text stmt at.stands.is ∙ ap (λ (u : Stmt). by_statement false o.id (start T) (Some u)) is
        ∙ ap (λ m. by_effect (start T) (table_effect T o.id 0 m)) (ap (λ (ds : Defs). create_check ds create) (sym f.defs) ∙ passes)
        ∙ ap (λ (n : ℕ). by_effect (start T) (table_effect T o.id n (Ok def))) (sym z)

    change_set_defs : HasTables c1 T → d.defs ≡ defs_of (defined (change_set T stmt).definition T)
    unfolding change_set
    change_set_defs f = ap (λ (ds : Defs). ds ++ def ∷ []) f.defs ∙ sym (defs_append T (record { def = def; versions = [] }))
        ∙ ap (λ m. defs_of (defined (create_table_change_set m).definition T)) (sym (ap (λ (ds : Defs). create_check ds create) (sym f.defs) ∙ passes)) ∙ ap (λ (u : Stmt). defs_of (defined (change_set T u).definition T)) (sym is)

    making : Creating v cells1 seats1 stands_then j (sits s x1) x1 o1 q text stmt c1 d (replied reply.Made) reply.Made E
    unfolding f1 f2
    making = record {
      there = there1;
      role = refl;
      open_one = refl;
      unfixed = at.unfixed;
      place = place;
      out = out1;
      is = at.stands.is;
      alone = alone;
      creates = its;
      exclusive = exclusive1;
      visited = put_there catalog_at o.visited;
      alike = record { id = refl; explicit = refl; script = ap (λ (b : Bool). with_line b (text, reply_text reply.Made) o.script) alone; end = refl };
      same_visited = refl;
      same_released = refl;
      stage_is = λ f. replied_stage v T text reply.Made tt (subst (IsRepliedTo T) (sym (at.stands.is ∙ ap (λ (q : Stmt). Some q) is)) tt);
      holds = refl;
      same_savepoints = refl;
      steps = steps_so;
      system = system_rows;
      users = λ id ne. new_table def id (changed_table 2 f2 (changed_table 1 f1 T)) ∙ changed_else 2 id f2 (changed_table 1 f1 T) (not_columns id ne) ∙ changed_else 1 id f1 T (not_tables id ne);
      left = λ f. ap (λ (ds : Defs). ds ++ def ∷ []) (f.defs ∙ sym (same_defs 2 f2 (changed_table 1 f1 T) ∙ same_defs 1 f1 T)) ∙ sym (defs_append (changed_table 2 f2 (changed_table 1 f1 T)) (record { def = def; versions = [] }));
      creator = inr (refl, change_set_defs);
    }

    abbrev cells2 : List Cell
    cells2 = set cells1 catalog_at (Catalog d)

    rows2 : (id : ℕ) → cell_of id ≡ catalog_at → versions_at cells2 id ≡ versions_in id (Catalog d)
    rows2 id e = versions_here cells1 catalog_at (Catalog c1) (Catalog d) out1 id e

    mid : ℕ → List Event
    mid id = if id == 1 then events_in o.id 1 (versions_at cells2 1) else []

    first_trees : AreTrees mid (grown 1 (events_from o.id o.seq 1 d.tables) o.trees)
    unfolding mid
    first_trees = grown_trees v 1 (events_from o.id o.seq 1 d.tables) mid (λ id. []) first_same (λ i l ne. rw (ne_eqb i 1 ne) refl) o.trees (omega arith) (was_trees v cells1 seats1 stands_then j (sits s x1) x1 o1 q text stmt c1 d (replied reply.Made) reply.Made E making)
      where
        first_same : events_in o.id 1 (versions_at cells2 1) ≡ filter (λ e. nat_le o.seq e.seq) (events_in o.id 1 d.tables)
        first_same = ap (events_in o.id 1) (rows2 1 refl) ∙ sym (ap (λ (n : ℕ). filter (λ e. nat_le n e.seq) (events_in o.id 1 d.tables)) (no_seq v cells1 seats1 stands_then j (sits s x1) x1 o1 q text stmt c1 d (replied reply.Made) reply.Made E making) ∙ all_events (events_in o.id 1 d.tables))

    both_trees : AreTrees (λ id. events_in o.id id (versions_at cells2 id)) q.trees
    unfolding mid
    both_trees = grown_trees v 2 (events_from o.id o.seq 2 d.columns) (λ id. events_in o.id id (versions_at cells2 id)) mid second_same others_same (grown 1 (events_from o.id o.seq 1 d.tables) o.trees) (omega arith) first_trees
      where
        second_same : events_in o.id 2 (versions_at cells2 2) ≡ filter (λ e. nat_le o.seq e.seq) (events_in o.id 2 d.columns)
        second_same = ap (events_in o.id 2) (rows2 2 refl) ∙ sym (ap (λ (n : ℕ). filter (λ e. nat_le n e.seq) (events_in o.id 2 d.columns)) (no_seq v cells1 seats1 stands_then j (sits s x1) x1 o1 q text stmt c1 d (replied reply.Made) reply.Made E making) ∙ all_events (events_in o.id 2 d.columns))

        others_same : (i : ℕ) → 1 ≤ i → i ≢ 2 → events_in o.id i (versions_at cells2 i) ≡ mid i
        others_same i l ne = by (i == 1) refl
          where
            by : (b : Bool) → (i == 1) ≡ b → events_in o.id i (versions_at cells2 i) ≡ (if b then events_in o.id 1 (versions_at cells2 1) else [])
            by true e = ap (λ (n : ℕ). events_in o.id n (versions_at cells2 n)) (eqb-true i 1 e)
            by false e = none_elsewhere v cells1 seats1 stands_then j (sits s x1) x1 o1 q text stmt c1 d (replied reply.Made) reply.Made E making i l (λ k. is_not (system_id i l k))
              where
                is_not : IsSystemId i → ⊥
                is_not (is_tables m) = eqb-false i 1 e m
                is_not (is_columns m) = ne m

    makes : StandsBy v j history o.id o.explicit (looks text false ∷ []) cells2 (set seats1 j (sits (sits s x1) (at_place (Some q) (inside text (replied reply.Made)) x1)))
    makes = creates_there v cells1 seats1 stands_then j (sits s x1) x1 o1 q text stmt c1 d (replied reply.Made) reply.Made E making both_trees

  -- ---- an index is made

  module _ (create : CreateIndex) (is : stmt ≡ st.Index create) (def : TableDef) (index : IndexDef) (passes : index_check c.defs create ≡ Ok (def, index)) where
    abbrev wi : TableDef
    wi = with_index def index

    abbrev di : CatalogCell
    di = with_new_index o.id o.seq def index c1.holds c

    abbrev Ei : Tables
    Ei = (index_effect T o.id o.seq (Ok (def, index))).tables

    abbrev qi : OpenTransaction
    qi = noting (o.seq + length index.ordinals) (grown columns_id (events_from o.id o.seq columns_id di.columns) o.trees) o1

    idsi : Described T
    idsi = legal_described v.reads stands_then.ledger.items stands_then.ledger_is_legal.legal

    g1 : List Version → List Version
    g1 = changed_all o.id o.seq []

    g2 : List Version → List Version
    g2 = changed_all o.id (o.seq + 0) (index_starts def index)

    same_number : o.seq + 0 ≡ o.seq
    same_number = omega arith

    index_rows_then : HasTables c1 T → (id : ℕ) → 1 ≤ id → cell_of id ≡ catalog_at → SystemChange o.id (versions_at cells1 id) (versions_in id (Catalog di)) (versions_of Ei id) (o.seq + length index.ordinals)
    unfolding g1 g2
    index_rows_then f id l e = by (system_id id l e)
      where
        by : IsSystemId id → SystemChange o.id (versions_at cells1 id) (versions_in id (Catalog di)) (versions_of Ei id) (o.seq + length index.ordinals)
        by (is_tables m) = subst (λ (i : ℕ). SystemChange o.id (versions_at cells1 i) (versions_in i (Catalog di)) (versions_of Ei i) (o.seq + length index.ordinals)) (sym m)
            (record {
              from = 0;
              changes = [];
              is = sym (rows1 1 refl) ∙ nothing o.id (versions_at cells1 1);
              script = redefined_table wi 1 (changed_table 2 g2 (changed_table 1 g1 T)) ∙ changed_else 2 1 g2 (changed_table 1 g1 T) (λ z. omega arith) ∙ changed_here 1 g1 T (has_of 1 _ T idsi.of_tables) ∙ none_changed o.id o.seq (versions_of T 1) ∙ sym (f.rows 1 (omega arith) refl);
              within = omega arith;
              undoes = tt;
            })
        by (is_columns m) = subst (λ (i : ℕ). SystemChange o.id (versions_at cells1 i) (versions_in i (Catalog di)) (versions_of Ei i) (o.seq + length index.ordinals)) (sym m)
            (record {
              from = o.seq;
              changes = index_starts def index;
              is = ap (changed_all o.id o.seq (index_starts def index)) (sym (rows1 2 refl));
              script = redefined_table wi 2 (changed_table 2 g2 (changed_table 1 g1 T)) ∙ changed_here 2 g2 (changed_table 1 g1 T) (ap (λ (ds : Defs). has_table ds 2) (same_defs 1 g1 T) ∙ has_of 2 _ T idsi.of_columns) ∙ ap g2 (changed_else 1 2 g1 T (λ z. omega arith) ∙ sym (f.rows 2 (omega arith) refl))
                  ∙ ap (λ (n : ℕ). changed_all o.id n (index_starts def index) c.columns) same_number;
              within = let n = many_parts def index in omega arith;
              undoes = all_start o.id 0 _ (index_rows def.id (length def.indexes + 1) index);
            })

    index_steps : HasTables c1 T → o.seq ≡ 0 → text_step v.reads false o.id (start T) text ≡ (record { tables = Ei; seq = o.seq + length index.ordinals; saved = [] }, reply.Made)
    unfolding effect
    index_steps f z = step_of v o.id T text stmt at.stands.is ∙ ap (λ (u : Stmt). by_statement false o.id (start T) (Some u)) is
        ∙ ap (λ m. by_effect (start T) (index_effect T o.id 0 m)) (ap (λ (ds : Defs). index_check ds create) (sym f.defs) ∙ passes)
        ∙ ap (λ (n : ℕ). by_effect (start T) (index_effect T o.id n (Ok (def, index)))) (sym z)

    plan_is : HasTables c1 T → (change_set T stmt).definition ≡ in_place wi
    unfolding change_set
    plan_is f = ap (λ (u : Stmt). (change_set T u).definition) is ∙ ap (λ m. (create_index_change_set m).definition) (ap (λ (ds : Defs). index_check ds create) (sym f.defs) ∙ passes)

    index_defs : HasTables c1 T → di.defs ≡ defs_of (defined (change_set T stmt).definition T)
    index_defs f = ap (replaced_def wi) f.defs ∙ sym (defs_redefined wi T) ∙ ap (λ p. defs_of (defined p T)) (sym (plan_is f))

    indexing : Creating v cells1 seats1 stands_then j (sits s x1) x1 o1 qi text stmt c1 di (made wi false) reply.Made Ei
    unfolding g1 g2
    indexing = record {
      there = there1;
      role = refl;
      open_one = refl;
      unfixed = at.unfixed;
      place = place;
      out = out1;
      is = at.stands.is;
      alone = alone;
      creates = its;
      exclusive = exclusive1;
      visited = put_there catalog_at o.visited;
      alike = record { id = refl; explicit = refl; script = refl; end = refl };
      same_visited = refl;
      same_released = refl;
      stage_is = λ f. made_stage v T text wi (subst (λ (u : Option Stmt). IsAfter T u wi) (sym at.stands.is) (plan_is f));
      holds = refl;
      same_savepoints = refl;
      steps = index_steps;
      system = index_rows_then;
      users = λ id ne. redefined_table wi id (changed_table 2 g2 (changed_table 1 g1 T)) ∙ changed_else 2 id g2 (changed_table 1 g1 T) (not_columns id ne) ∙ changed_else 1 id g1 T (not_tables id ne);
      left = λ f. ap (replaced_def wi) (f.defs ∙ sym (same_defs 2 g2 (changed_table 1 g1 T) ∙ same_defs 1 g1 T)) ∙ sym (defs_redefined wi (changed_table 2 g2 (changed_table 1 g1 T)));
      creator = inr (refl, index_defs);
    }

    abbrev cells3 : List Cell
    cells3 = set cells1 catalog_at (Catalog di)

    rows3 : (id : ℕ) → cell_of id ≡ catalog_at → versions_at cells3 id ≡ versions_in id (Catalog di)
    rows3 id e = versions_here cells1 catalog_at (Catalog c1) (Catalog di) out1 id e

    index_trees : AreTrees (λ id. events_in o.id id (versions_at cells3 id)) qi.trees
    index_trees = grown_trees v 2 (events_from o.id o.seq 2 di.columns) (λ id. events_in o.id id (versions_at cells3 id)) (λ id. []) here_same others_same o.trees (omega arith) (was_trees v cells1 seats1 stands_then j (sits s x1) x1 o1 qi text stmt c1 di (made wi false) reply.Made Ei indexing)
      where
        here_same : events_in o.id 2 (versions_at cells3 2) ≡ filter (λ e. nat_le o.seq e.seq) (events_in o.id 2 di.columns)
        here_same = ap (events_in o.id 2) (rows3 2 refl) ∙ sym (ap (λ (n : ℕ). filter (λ e. nat_le n e.seq) (events_in o.id 2 di.columns)) (no_seq v cells1 seats1 stands_then j (sits s x1) x1 o1 qi text stmt c1 di (made wi false) reply.Made Ei indexing) ∙ all_events (events_in o.id 2 di.columns))

        others_same : (i : ℕ) → 1 ≤ i → i ≢ 2 → events_in o.id i (versions_at cells3 i) ≡ []
        others_same i l ne = by (i == 1) refl
          where
            by : (b : Bool) → (i == 1) ≡ b → events_in o.id i (versions_at cells3 i) ≡ []
            by true e = same_here_none v cells1 seats1 stands_then j (sits s x1) x1 o1 qi text stmt c1 di (made wi false) reply.Made Ei indexing i l
                (subst (λ (n : ℕ). versions_at cells3 n ≡ versions_at cells1 n) (sym (eqb-true i 1 e)) (rows3 1 refl ∙ sym (rows1 1 refl)))
            by false e = none_elsewhere v cells1 seats1 stands_then j (sits s x1) x1 o1 qi text stmt c1 di (made wi false) reply.Made Ei indexing i l (λ k. is_not (system_id i l k))
              where
                is_not : IsSystemId i → ⊥
                is_not (is_tables m) = eqb-false i 1 e m
                is_not (is_columns m) = ne m

    indexes : StandsBy v j history o.id o.explicit (looks text false ∷ []) cells3 (set seats1 j (sits (sits s x1) (at_place (Some qi) (inside text (made wi false)) x1)))
    indexes = creates_there v cells1 seats1 stands_then j (sits s x1) x1 o1 qi text stmt c1 di (made wi false) reply.Made Ei indexing index_trees

  -- ---- a table is altered or dropped

  module _ (a : Altered) (passes : alters_in c stmt ≡ Some (Ok a)) where
    abbrev da : CatalogCell
    da = with_altered o.id o.seq a c1.holds c

    abbrev Ea : Tables
    Ea = (altered_effect T o.id o.seq (Ok a)).tables

    abbrev qa : OpenTransaction
    qa = with_reply text reply.Made (noting (o.seq + length a.first + length a.second) (with_altered_leaves o.id o.seq a.first da o.trees) o1)

    idsa : Described T
    idsa = legal_described v.reads stands_then.ledger.items stands_then.ledger_is_legal.legal

    starts : Starting o.id a
    starts = alters_start o.id c stmt a passes

    h1 : List Version → List Version
    h1 = changed_all o.id o.seq a.first

    h2 : List Version → List Version
    h2 = changed_all o.id (o.seq + length a.first) a.second

    altered_rows : HasTables c1 T → (id : ℕ) → 1 ≤ id → cell_of id ≡ catalog_at → SystemChange o.id (versions_at cells1 id) (versions_in id (Catalog da)) (versions_of Ea id) (o.seq + length a.first + length a.second)
    unfolding h1 h2
    altered_rows f id l e = by (system_id id l e)
      where
        by : IsSystemId id → SystemChange o.id (versions_at cells1 id) (versions_in id (Catalog da)) (versions_of Ea id) (o.seq + length a.first + length a.second)
        by (is_tables m) = subst (λ (i : ℕ). SystemChange o.id (versions_at cells1 i) (versions_in i (Catalog da)) (versions_of Ea i) (o.seq + length a.first + length a.second)) (sym m)
            (record {
              from = o.seq;
              changes = a.first;
              is = ap h1 (sym (rows1 1 refl));
              script = redefined_table a.def 1 (changed_table 2 h2 (changed_table 1 h1 T)) ∙ changed_else 2 1 h2 (changed_table 1 h1 T) (λ z. omega arith) ∙ changed_here 1 h1 T (has_of 1 _ T idsa.of_tables) ∙ ap h1 (sym (f.rows 1 (omega arith) refl));
              within = omega arith;
              undoes = starts.first _;
            })
        by (is_columns m) = subst (λ (i : ℕ). SystemChange o.id (versions_at cells1 i) (versions_in i (Catalog da)) (versions_of Ea i) (o.seq + length a.first + length a.second)) (sym m)
            (record {
              from = o.seq + length a.first;
              changes = a.second;
              is = ap h2 (sym (rows1 2 refl));
              script = redefined_table a.def 2 (changed_table 2 h2 (changed_table 1 h1 T)) ∙ changed_here 2 h2 (changed_table 1 h1 T) (ap (λ (ds : Defs). has_table ds 2) (same_defs 1 h1 T) ∙ has_of 2 _ T idsa.of_columns) ∙ ap h2 (changed_else 1 2 h1 T (λ z. omega arith) ∙ sym (f.rows 2 (omega arith) refl));
              within = omega arith;
              undoes = starts.second _;
            })

    altered_steps : HasTables c1 T → o.seq ≡ 0 → text_step v.reads false o.id (start T) text ≡ (record { tables = Ea; seq = o.seq + length a.first + length a.second; saved = [] }, reply.Made)
    altered_steps f z = step_of v o.id T text stmt at.stands.is ∙ alters_step c T o.id stmt a passes (has_c f)
        ∙ ap (λ (n : ℕ). by_effect (start T) (altered_effect T o.id n (Ok a))) (sym z)

    altered_defs : HasTables c1 T → da.defs ≡ defs_of (defined (change_set T stmt).definition T)
    altered_defs f = ap (replaced_def a.def) f.defs ∙ sym (defs_redefined a.def T) ∙ ap (λ p. defs_of (defined p T)) (sym (alters_made c T stmt a passes (has_c f)))

    altering : Creating v cells1 seats1 stands_then j (sits s x1) x1 o1 qa text stmt c1 da (replied reply.Made) reply.Made Ea
    unfolding h1 h2
    altering = record {
      there = there1;
      role = refl;
      open_one = refl;
      unfixed = at.unfixed;
      place = place;
      out = out1;
      is = at.stands.is;
      alone = alone;
      creates = its;
      exclusive = exclusive1;
      visited = put_there catalog_at o.visited;
      alike = record { id = refl; explicit = refl; script = ap (λ (b : Bool). with_line b (text, reply_text reply.Made) o.script) alone; end = refl };
      same_visited = refl;
      same_released = refl;
      stage_is = λ f. replied_stage v T text reply.Made tt (subst (IsRepliedTo T) (sym at.stands.is) (alters_replied c T stmt a passes));
      holds = refl;
      same_savepoints = refl;
      steps = altered_steps;
      system = altered_rows;
      users = λ id ne. redefined_table a.def id (changed_table 2 h2 (changed_table 1 h1 T)) ∙ changed_else 2 id h2 (changed_table 1 h1 T) (not_columns id ne) ∙ changed_else 1 id h1 T (not_tables id ne);
      left = λ f. ap (replaced_def a.def) (f.defs ∙ sym (same_defs 2 h2 (changed_table 1 h1 T) ∙ same_defs 1 h1 T)) ∙ sym (defs_redefined a.def (changed_table 2 h2 (changed_table 1 h1 T)));
      creator = inr (refl, altered_defs);
    }

    abbrev cells4 : List Cell
    cells4 = set cells1 catalog_at (Catalog da)

    rows4 : (id : ℕ) → cell_of id ≡ catalog_at → versions_at cells4 id ≡ versions_in id (Catalog da)
    rows4 id e = versions_here cells1 catalog_at (Catalog c1) (Catalog da) out1 id e

    abbrev events4 : ℕ → List Event
    events4 id = events_in o.id id (versions_at cells4 id)

    -- the system table in which nothing starts has no event
    still_none : (id : ℕ) → 1 ≤ id → cell_of id ≡ catalog_at → versions_in id (Catalog da) ≡ versions_in id (Catalog c1) → events4 id ≡ []
    still_none id l e same = same_here_none v cells1 seats1 stands_then j (sits s x1) x1 o1 qa text stmt c1 da (replied reply.Made) reply.Made Ea altering id l (rows4 id e ∙ same ∙ sym (rows1 id e))

    -- the tree of the one in which rows start grows
    one_grown : (n : ℕ) → 1 ≤ n → (vs : List Version) → versions_at cells4 n ≡ vs → ((i : ℕ) → 1 ≤ i → cell_of i ≡ catalog_at → i ≢ n → events4 i ≡ []) → AreTrees events4 (grown n (events_from o.id o.seq n vs) o.trees)
    one_grown n l vs are none = grown_trees v n (events_from o.id o.seq n vs) events4 (λ id. []) here_same others_same o.trees l (was_trees v cells1 seats1 stands_then j (sits s x1) x1 o1 qa text stmt c1 da (replied reply.Made) reply.Made Ea altering)
      where
        here_same : events4 n ≡ filter (λ e. nat_le o.seq e.seq) (events_in o.id n vs)
        here_same = ap (events_in o.id n) are ∙ sym (ap (λ (m : ℕ). filter (λ e. nat_le m e.seq) (events_in o.id n vs)) (no_seq v cells1 seats1 stands_then j (sits s x1) x1 o1 qa text stmt c1 da (replied reply.Made) reply.Made Ea altering) ∙ all_events (events_in o.id n vs))

        others_same : (i : ℕ) → 1 ≤ i → i ≢ n → events4 i ≡ []
        others_same i k ne = ⊎_elim (λ (e : cell_of i ≡ catalog_at). none i k e ne) (λ (e : cell_of i ≢ catalog_at). none_elsewhere v cells1 seats1 stands_then j (sits s x1) x1 o1 qa text stmt c1 da (replied reply.Made) reply.Made Ea altering i k e) (cases_eq (cell_of i) catalog_at)

    altered_trees : AreTrees events4 qa.trees
    unfolding HasOne h1 h2
    altered_trees = by a.first refl starts.one
      where
        in_first : (x : Change) (xs : List Change) → HasOne (x ∷ xs) a.second → (i : ℕ) → 1 ≤ i → cell_of i ≡ catalog_at → i ≢ 1 → events4 i ≡ []
        in_first x xs none i l e ne = at_id (system_id i l e)
          where
            at_id : IsSystemId i → events4 i ≡ []
            at_id (is_tables m) = absurd (ne m)
            at_id (is_columns m) = subst (λ (n : ℕ). events4 n ≡ []) (sym m) (still_none 2 (omega arith) refl (ap (λ (cs : List Change). changed_all o.id (o.seq + length a.first) cs c.columns) none ∙ none_changed o.id (o.seq + length a.first) c.columns))

        in_second : a.first ≡ [] → (i : ℕ) → 1 ≤ i → cell_of i ≡ catalog_at → i ≢ 2 → events4 i ≡ []
        in_second none i l e ne = at_id (system_id i l e)
          where
            at_id : IsSystemId i → events4 i ≡ []
            at_id (is_tables m) = subst (λ (n : ℕ). events4 n ≡ []) (sym m) (still_none 1 (omega arith) refl (ap (λ (cs : List Change). changed_all o.id o.seq cs c.tables) none ∙ none_changed o.id o.seq c.tables))
            at_id (is_columns m) = absurd (ne m)

        by : (cs : List Change) → a.first ≡ cs → HasOne cs a.second → AreTrees events4 (with_altered_leaves o.id o.seq cs da o.trees)
        by [] none h = one_grown 2 (omega arith) da.columns (rows4 2 refl) (in_second none)
        by (x ∷ xs) is h = one_grown 1 (omega arith) da.tables (rows4 1 refl) (in_first x xs h)

    alters : StandsBy v j history o.id o.explicit (looks text false ∷ []) cells4 (set seats1 j (sits (sits s x1) (at_place (Some qa) (inside text (replied reply.Made)) x1)))
    alters = creates_there v cells1 seats1 stands_then j (sits s x1) x1 o1 qa text stmt c1 da (replied reply.Made) reply.Made Ea altering altered_trees

-- ---- the visits, in their own form

module _ (v : Server) (cells : List Cell) (seats : List SeatState) {history : History} (S : Stands v history cells seats) (j : ℕ) (s : SeatState) (there : get_elem? seats j ≡ some s) (c d : CatalogCell) (t : SeatState) (out : get_elem? cells catalog_at ≡ some (Catalog c)) where
  after_two : {id : ℕ} {explicit : Bool} {acts : List SessionAct} (e f : CatalogCell) (u w : SeatState) → e ≡ d → u ≡ t → StandsBy v j history id explicit acts (set (set cells catalog_at (Catalog f)) catalog_at (Catalog e)) (set (set seats j w) j u) → StandsBy v j history id explicit acts (set cells catalog_at (Catalog d)) (set seats j t)
  after_two {id} {explicit} {acts} e f u w q r h = subst (λ (cs : List Cell). StandsBy v j history id explicit acts cs (set seats j t)) (set_twice cells catalog_at (Catalog f) (Catalog e) ∙ ap (λ (g : CatalogCell). set cells catalog_at (Catalog g)) q)
      (subst (StandsBy v j history id explicit acts (set (set cells catalog_at (Catalog f)) catalog_at (Catalog e))) (set_twice seats j w u ∙ ap (set seats j) r) h)

  -- the refusal of a statement that creates, alters or drops
  pub refuses_create : (L : RefusesCreate v c s d t) → StandsBy v j history L.o.id L.o.explicit (looks L.at.stands.text false ∷ []) (set cells catalog_at (Catalog d)) (set seats j t)
  refuses_create L = let k = refused_creates c L.at.stands.stmt L.refusal L.is in
      after_two _ _ _ _ (sym L.cell) (ap (λ (b : Bool). sits s (at_place (Some (with_reply L.at.stands.text (reply.Refused L.refusal) (visiting catalog_at L.o))) (inside L.at.stands.text (stage_after b (reply.Refused L.refusal))) L.at.stands.x)) (sym L.alone) ∙ sym L.seat)
      (refuses v cells seats S j s there c out L.o L.at L.at_begin L.alone k.1 k.0 L.free L.refusal L.is)

  -- CREATE TABLE
  pub creates_table : (L : CreatesTable v c s d t) → StandsBy v j history L.o.id L.o.explicit (looks L.at.stands.text false ∷ []) (set cells catalog_at (Catalog d)) (set seats j t)
  creates_table L =
      after_two _ _ _ _ (sym L.cell)
      (ap₂ (λ (e : CatalogCell) (b : Bool). sits s (at_place (Some (with_reply L.at.stands.text reply.Made (noting (L.o.seq + 1 + length L.def.columns) (with_system_leaves L.o.id L.o.seq e L.o.trees) (visiting catalog_at L.o)))) (inside L.at.stands.text (stage_after b reply.Made)) L.at.stands.x)) (sym L.cell) (sym L.alone) ∙ sym L.seat)
      (makes v cells seats S j s there c out L.o L.at L.at_begin L.alone (ap (catalog_request false) L.creates) (ap creates L.creates) L.free L.create L.creates L.def L.passes)

  -- CREATE INDEX, as far as the catalog goes
  pub creates_index : (L : CreatesIndex v c s d t) → StandsBy v j history L.o.id L.o.explicit (looks L.at.stands.text false ∷ []) (set cells catalog_at (Catalog d)) (set seats j t)
  creates_index L =
      after_two _ _ _ _ (sym L.cell)
      (ap (λ (e : CatalogCell). sits s (at_place (Some (noting (L.o.seq + length L.index.ordinals) (grown columns_id (events_from L.o.id L.o.seq columns_id e.columns) L.o.trees) (visiting catalog_at L.o))) (inside L.at.stands.text (made (with_index L.def L.index) false)) L.at.stands.x)) (sym L.cell) ∙ sym L.seat)
      (indexes v cells seats S j s there c out L.o L.at L.at_begin L.alone (ap (catalog_request false) L.creates) (ap creates L.creates) L.free L.create L.creates L.def L.index L.passes)

  -- ALTER TABLE and DROP TABLE
  pub alters_table : (L : AltersTable v c s d t) → StandsBy v j history L.o.id L.o.explicit (looks L.at.stands.text false ∷ []) (set cells catalog_at (Catalog d)) (set seats j t)
  alters_table L =
      after_two _ _ _ _ (sym L.cell)
      (ap₂ (λ (e : CatalogCell) (b : Bool). sits s (at_place (Some (with_reply L.at.stands.text reply.Made (noting (L.o.seq + length L.made_is.first + length L.made_is.second) (with_altered_leaves L.o.id L.o.seq L.made_is.first e L.o.trees) (visiting catalog_at L.o)))) (inside L.at.stands.text (stage_after b reply.Made)) L.at.stands.x)) (sym L.cell) (sym L.alone) ∙ sym L.seat)
      (alters v cells seats S j s there c out L.o L.at L.at_begin L.alone (alters_x c L.at.stands.stmt L.made_is L.passes) (alters_creates c L.at.stands.stmt L.made_is L.passes) L.free L.made_is L.passes)
