-- The definitions that a statement gets in the catalog.
use Rattle.std.proofs.Common.{◌≡◌, ◌≢◌, ◌⊎◌, ℕ, ◌+◌, ◌≤◌, ◌<◌, Bool, true, false, List, [], ◌∷◌, Option, Some, None, refl, sym, ap, ◌∙◌, subst, ⊎_elim, arith}
use Rattle.std.specs.Prelude.{◌-◌, nat_le, if◌then◌else◌}
use Rattle.std.specs.List.{AllByRecursion}
use Rattle.std.proofs.lemmas.Bool.{cases_eq}
use Rattle.std.proofs.lemmas.Grind.{common_steps}
use mathlib.Core.Option.{some}
use lib.ListN.{get_elem?}
use Rattle.sql_types.specs.declared.lock.Hold.{Hold}
use Rattle.sql_types.specs.declared.lock.Mode.{Mode}
use Rattle.sql_types.specs.declared.lock.Mode.TheVariants as mode
use Rattle.sql_types.specs.declared.statement.Stmt.{Stmt}
use Rattle.sql_types.specs.declared.table.Part.{Part}
use Rattle.sql_types.specs.declared.table.Part.TheVariants.{History, System}
use Rattle.sql_types.specs.declared.table.TableDef.{TableDef}
use Rattle.spec_model.specs.Agreement.{IdsFrom}
use Rattle.spec_model.specs.Catalog.{Defs, NamedPart, defs_of, find_part, is_named, or_in, own_part, part_named}
use Rattle.spec_model.specs.InTheWay.{first_conflict}
use Rattle.spec_model.specs.Locks.{whole, requests_conflict, same_item, conflict}
use Rattle.spec_model.specs.SystemTables.{tables_def, columns_def}
use Rattle.server_session.specs.Lists.{In}
use Rattle.law_frame.proofs.NamedPart.{named_part}
use Rattle.law_catalog_rows.specs.Formed.{AllFormed, Formed}
use Rattle.law_catalog_rows.proofs.Journals.{legal_described, legal_ids}
use Rattle.server_session.specs.Cells.{Cell, Catalog, CatalogCell, catalog_at}
use Rattle.server_session.specs.OpenOnes.{HasOpen}
use Rattle.server_session.specs.Seats.{OpenTransaction, Session, SeatState}
use Rattle.server_session.specs.Server.{Server}
use Rattle.server_session.specs.StandTogether.{Stands}
use Rattle.server_session.specs.StandTogether as standing
use Rattle.server_session.specs.TablesAreSerial.{HasActed}
use Rattle.law_protocol_steps.proofs.AfterSet.{each_at}
use Rattle.law_protocol_steps.proofs.CellsAfter.{held_here}
use Rattle.law_protocol_steps.proofs.OfCells.{Creates, IsUnderWay}
use Rattle.law_protocol_steps.proofs.SeatIds.{one_seat}
use Rattle.law_protocol_steps.proofs.SeatsAfter.{one_session}
use Rattle.law_protocol_steps.proofs.TakenLocks.{all_free}
use Rattle.law_protocol_steps.proofs.Takes.{tables_now}
use Rattle.server_session.specs.VisitedCells.{IsTableCell, table_cell}

-- ---- the definitions are those of the journal

-- who creates has X, which no lock stands beside
against_x : (m : Mode) → requests_conflict (whole m) (whole mode.X) ≡ true
unfolding same_item conflict
against_x mode.IS = refl
against_x mode.IX = refl
against_x mode.S = refl
against_x mode.X = refl

module _ (v : Server) (cells : List Cell) (seats : List SeatState) {history : standing.History} (S : Stands v history cells seats) (j : ℕ) (x : Session) (o : OpenTransaction) (c : CatalogCell)
    (has : HasOpen seats j x o) (not_yet : HasActed x.place → ⊥) (out : get_elem? cells catalog_at ≡ some (Catalog c))
    (m : Mode) (free : first_conflict c.holds o.id (whole m ∷ []) ≡ None) where
  is_catalog : c ≡ S.catalog
  is_catalog = let e : some (Catalog c) ≡ some (Catalog S.catalog) = sym out ∙ S.are_cells.has_catalog in cc

  not_creating : (z : Session) (stmt : Stmt) → Creates v cells seats S.ledger z stmt → ⊥
  not_creating z stmt k = ⊎_elim
      (λ (e : k.j ≡ j). not_yet (subst (λ (u : Session). HasActed u.place) (one_session seats j z x k.o o (subst (λ (n : ℕ). HasOpen seats n z k.o) e k.has) has).0 k.acted))
      (λ (ne : k.j ≢ j).
      let f : requests_conflict (whole m) (whole mode.X) ≡ false = each_at (λ (h : Hold). h.tx ≢ o.id → requests_conflict (whole m) h.request ≡ false) c.holds (record { tx = k.o.id; request = whole mode.X }) (all_free c.holds o.id (whole m ∷ []) free).0
      (subst (In (record { tx = k.o.id; request = whole mode.X })) (held_here cells catalog_at (Catalog c) (Catalog c) out) k.exclusive)
      (λ q. ne (one_seat v cells seats S k.j j z x k.o o k.has has q)) in
      let t : requests_conflict (whole m) (whole mode.X) ≡ true = against_x m in cc)
      (cases_eq k.j j)

  -- where no lock is in the way of one
  pub definitions_are : c.defs ≡ defs_of (tables_now S)
  definitions_are = ⊎_elim
      (λ (e : S.catalog.defs ≡ defs_of (tables_now S)). ap (λ (z : CatalogCell). z.defs) is_catalog ∙ e)
      (λ (k : IsUnderWay v cells seats S.ledger S.catalog.defs S.catalog.creator). absurd (not_creating k.x k.stmt k.by))
      S.tables_are_serial.definitions

-- ---- the cell of a table that isn't the system's

-- the part is the system's, or the table has a cell
abbrev HasCell : NamedPart → Type 0
HasCell n = n.1 ≢ System → IsTableCell (table_cell n.0.id)

in_range : (id : ℕ) → 3 ≤ id → id ≤ 34 → IsTableCell (table_cell id)
in_range id low high = by (nat_le id 2) refl
  where
    by : (b : Bool) → nat_le id 2 ≡ b → IsTableCell (if b then catalog_at else id - 1)
    by true e = let le : id ≤ 2 = grind (arith, common_steps) in absurd (omega (arith, le, low))
    by false e = (omega (arith, low), omega (arith, low, high))

found_of_user : (n : ℕ) (defs : Defs) (name : List ℕ) (found : NamedPart) → 3 ≤ n → IdsFrom n defs → AllByRecursion (λ (def : TableDef). 2 < def.id → Formed def) defs → find_part defs name ≡ Some found
    → IsTableCell (table_cell found.0.id)
unfolding find_part
found_of_user n [] name found low ids formed e = absurd cc
found_of_user n (d ∷ defs) name found low ids formed e =
    let here : IsTableCell (table_cell d.id) = in_range d.id (omega (arith, low, ids.0)) (formed.0 (omega (arith, low, ids.0))).id in
    named_part d (own_part d) (is_named d.name name) (is_named d.history name) (is_named d.view name) (find_part defs name) found (λ (n : NamedPart). IsTableCell (table_cell n.0.id)) e
    here here here (λ f. found_of_user (n + 1) defs name found (omega (arith, low)) ids.1 formed.1 f)

-- a table of the system has no part besides itself
of_system : (d : TableDef) (rest : Option NamedPart) (own : Bool) (found : NamedPart) → or_in (if own then Some System else None) d rest ≡ Some found → (rest ≡ Some found → HasCell found) → HasCell found
of_system d rest true found e f = let same : (d, System) ≡ found = cc in subst HasCell same (λ ne. absurd (ne refl))
of_system d rest false found e f = f e

has_cell : (defs : Defs) (name : List ℕ) (found : NamedPart) → IdsFrom 1 defs → AllFormed defs → find_part defs name ≡ Some found → HasCell found
unfolding find_part
has_cell [] name found ids formed e = absurd formed.system
has_cell (a ∷ []) name found ids formed e = absurd formed.system
has_cell (a ∷ b ∷ users) name found ids formed e = first_in a b formed.system.0 formed.system.1 e
  where
    last_in : find_part users name ≡ Some found → HasCell found
    last_in f ne = found_of_user 3 users name found (omega arith) ids.1.1 formed.each.1.1 f

    first_in : (p q : TableDef) → p ≡ tables_def → q ≡ columns_def → or_in (part_named p name) p (or_in (part_named q name) q (find_part users name)) ≡ Some found → HasCell found
    first_in p q e f found_so =
        let at : or_in (part_named tables_def name) tables_def (or_in (part_named columns_def name) columns_def (find_part users name)) ≡ Some found
        = subst (λ (u : TableDef). or_in (part_named tables_def name) tables_def (or_in (part_named u name) u (find_part users name)) ≡ Some found) f
        (subst (λ (u : TableDef). or_in (part_named u name) u (or_in (part_named q name) q (find_part users name)) ≡ Some found) e found_so) in
        of_system tables_def (or_in (part_named columns_def name) columns_def (find_part users name)) (is_named tables_def.name name) found at
        (λ g. of_system columns_def (find_part users name) (is_named columns_def.name name) found g last_in)

-- among cells that stand together
pub found_cell : (v : Server) (cells : List Cell) (seats : List SeatState) {history : standing.History} (S : Stands v history cells seats) (defs : Defs) (name : List ℕ) (def : TableDef) (part : Part)
    → defs ≡ defs_of (tables_now S) → find_part defs name ≡ Some (def, part) → part ≢ System → IsTableCell (table_cell def.id)
found_cell v cells seats S defs name def part are e ne =
    let legal = S.ledger_is_legal.legal in
    has_cell defs name (def, part) (subst (IdsFrom 1) (sym are) (legal_ids v.reads S.ledger.items legal)) (subst AllFormed (sym are) (legal_described v.reads S.ledger.items legal).1) e ne
