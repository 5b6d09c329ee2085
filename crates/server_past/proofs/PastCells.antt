-- The cells of a legal journal's tables.
use Rattle.std.proofs.Common.{◌≡◌, ℕ, zero, suc, ◌+◌, ◌-◌, ◌≤◌, ◌<◌, Bool, List, [], ◌∷◌, ◌++◌, map, length, Some, refl, sym, ap, ap₂, subst, ◌∙◌, arith}
use Rattle.std.specs.Prelude.{if◌then◌else◌, max}
use Rattle.std.specs.List.{AllByRecursion}
use Rattle.std.proofs.lemmas.Bool.{eq-eqb, ne_eqb}
use Rattle.sql_types.specs.declared.journal.JournalItem.{JournalItem}
use Rattle.sql_types.specs.declared.journal.JournalItem.TheVariants.{Tx, Close}
use Rattle.sql_types.specs.declared.version.Table.{Table}
use Rattle.spec_model.specs.Agreement.{IdsFrom}
use Rattle.spec_model.specs.Catalog.{Tables, defs_of, versions_of}
use Rattle.spec_model.specs.Journals.{IsLegal, IsOther, serial}
use Rattle.spec_model.specs.Runs.{Rising, Sound, SoundTable}
use Rattle.spec_model.specs.Script.{Reading}
use Rattle.law_frame.proofs.Alls.{all_weaker}
use Rattle.law_frame.proofs.LegalSound.{legal_sound}
use Rattle.spec_model.specs.Lists.{greatest}
use Rattle.spec_history.specs.Journals.{ids_of}
use Rattle.spec_continued.specs.Continued.{catalog_of, cell_with, continued_cells, ledger_from, table_cell, table_cells}
use Rattle.spec_history.specs.Lists.{Text}
use Rattle.spec_ledger.specs.Ledger.{ledger_of}
use Rattle.spec_protocol.specs.Cells.{Cell, Catalog, Ledger, Rows, TableCell}
use Rattle.spec_protocol.specs.Server.{Server}
use Rattle.spec_protocol.specs.Serves.{Serves}
use Rattle.spec_syntax.specs.Text.{statement_of}
use Rattle.spec_protocol.specs.TablesAreSerial.{def_at}
use Rattle.server_session.specs.KeptCell.{KeptCell, rows_seen}
use Rattle.server_engine.specs.FirstCells.{all_empty, empty_kept}
use Rattle.server_past.specs.PastCells.{all_rows_kept, cells_kept, rows_kept}

-- ---- one cell for each id

module _ (t : Table) (ts : Tables) where
  abbrev chosen : ℕ → Bool → TableCell
  chosen id b = cell_with id (if b then t.versions else versions_of ts id) (if b then Some t.def else def_at (defs_of ts) id)

  -- the first table isn't the one with this id
  passed : (id : ℕ) → t.def.id < id → table_cell (t ∷ ts) id ≡ table_cell ts id
  passed id l = ap (chosen id) (ne_eqb t.def.id id (λ e. omega (arith, e, l)))

  -- or it is
  found : (id : ℕ) → t.def.id ≡ id → table_cell (t ∷ ts) id ≡ cell_with t.def.id t.versions (Some t.def)
  found id e = ap (chosen id) (eq-eqb t.def.id id e) ∙ ap (λ (n : ℕ). cell_with n t.versions (Some t.def)) (sym e)

  pub all_passed : (n id : ℕ) → t.def.id < id → all_rows_kept (t ∷ ts) n id ≡ all_rows_kept ts n id
  all_passed zero id l = refl
  all_passed (suc n) id l =
      ap₂ (λ (c : TableCell) (cs : List KeptCell). rows_seen c ∷ cs) (passed id l) (all_passed n (suc id) (omega (arith, l)))

none_there : (n id : ℕ) → all_rows_kept [] n id ≡ all_empty n id
none_there zero id = refl
none_there (suc n) id = ap (λ (cs : List KeptCell). empty_kept id ∷ cs) (none_there n (suc id))

-- the cells of these tables, and behind them empty ones
pub all_there : (ts : Tables) (n id : ℕ) → IdsFrom id (defs_of ts) → length ts ≤ n
    → all_rows_kept ts n id ≡ map rows_kept ts ++ all_empty (n - length ts) (id + length ts)
all_there [] n id ids few =
    let same : n ≡ n - 0 = omega arith in
    let place : id ≡ id + 0 = omega arith in
    none_there n id ∙ ap₂ all_empty same place
all_there (t ∷ ts) zero id ids few = absurd (omega (arith, few))
all_there (t ∷ ts) (suc n) id ids few =
    let left : n - length ts ≡ suc n - suc (length ts) = omega arith in
    let place : suc id + length ts ≡ id + suc (length ts) = omega arith in
    let next : id + 1 ≡ suc id = omega arith in
    let own : t.def.id < suc id = let e = ids.0 in omega (arith, e) in
    ap₂ (λ (c : TableCell) (cs : List KeptCell). rows_seen c ∷ cs) (found t ts id ids.0)
    (all_passed t ts n (suc id) own
    ∙ all_there ts n (suc id) (subst (λ (k : ℕ). IdsFrom k (defs_of ts)) next ids.1) (omega (arith, few))
    ∙ ap₂ (λ (k i : ℕ). map rows_kept ts ++ all_empty k i) left place)

-- one empty cell more
pub one_empty : (n from id : ℕ) → from + n ≡ id → all_empty n from ++ empty_kept id ∷ [] ≡ all_empty (suc n) from
one_empty zero from id e =
    let same : id ≡ from = omega (arith, e) in
    ap (λ (i : ℕ). empty_kept i ∷ []) same
one_empty (suc n) from id e = ap (λ (cs : List KeptCell). empty_kept from ∷ cs) (one_empty n (suc from) id (omega (arith, e)))

-- ---- what holds of the tables

pub max_left : (n m : ℕ) → n ≤ max n m
max_left n m = grind arith

pub max_right : (n m : ℕ) → m ≤ max n m
max_right n m = grind arith

-- the id behind the greatest
abbrev next_id : List JournalItem → ℕ
next_id J = suc (greatest (ids_of J))

others_below : (own : ℕ) (J : List JournalItem) → greatest (ids_of J) < own → AllByRecursion (IsOther own) J
others_below own [] l = tt
others_below own (Tx id session time explicit lines ∷ is) l =
    let rest = greatest (ids_of is) in
    ((λ e. omega (arith, e, l, max_left id rest)), others_below own is (omega (arith, l, max_right id rest)))
others_below own (Close k ∷ is) l = (tt, others_below own is l)

pub sound_tables : (reads : Reading) (J : List JournalItem) → IsLegal reads J → Sound (next_id J) 0 (serial reads J)
sound_tables reads J legal = legal_sound reads J (next_id J) legal (others_below (next_id J) J (omega arith))

pub all_rise : (reads : Reading) (J : List JournalItem) → IsLegal reads J → AllByRecursion (λ t. Rising t.versions) (serial reads J)
all_rise reads J legal = all_weaker (SoundTable (next_id J) 0) (λ t. Rising t.versions) (λ t s. s.rising) (serial reads J) (sound_tables reads J legal).each

-- ---- as the laws see them

rows_seen_so : (T : Tables) (n id : ℕ) → map (λ (c : KeptCell). c.cell) (all_rows_kept T n id) ≡ table_cells T n id
rows_seen_so T zero id = refl
rows_seen_so T (suc n) id = ap (λ (cs : List Cell). Rows (table_cell T id) ∷ cs) (rows_seen_so T n (suc id))

pub cells_continued : (v : Server) (h : List ℕ → List ℕ) → Serves h statement_of v → (database : Text) (size : ℕ) (items : List JournalItem) (count : ℕ)
    → map (λ (c : KeptCell). c.cell) (cells_kept h database size items (suc count)) ≡ continued_cells v database size items count
cells_continued v h serves database size items count =
    ap (λ (cs : List Cell). Catalog (catalog_of (serial statement_of items)) ∷ Ledger (ledger_from database size items (suc count) (ledger_of h statement_of items)) ∷ cs)
    (rows_seen_so (serial statement_of items) 32 3)
    ∙ ap₂ (λ (g : List ℕ → List ℕ) (reads : Reading). Catalog (catalog_of (serial reads items))
    ∷ Ledger (ledger_from database size items (suc count) (ledger_of g reads items)) ∷ table_cells (serial reads items) 32 3)
    (sym serves.hash) (sym serves.reading)
