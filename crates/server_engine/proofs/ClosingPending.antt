-- The builder's visit is one that a seat may make.
use Rattle.std.proofs.Common.{◌≡◌, ℕ, List, [], ◌∷◌, Result, Ok, Err, refl, sym, ap, subst, ⊎_elim}
use Rattle.std.specs.Prelude.{OnErr, OnOk}
use mathlib.Core.Option.{some}
use lib.ListN.{get_elem?}
use Rattle.spec_model.specs.Script.{Reading}
use Rattle.server_visits.specs.Full.{ClosesPending}
use Rattle.server_session.specs.KeptCell.{KeptCell, Keeps}
use Rattle.spec_protocol.specs.Serves.{Serves}
use Rattle.spec_protocol.specs.Alone.{none}
use Rattle.spec_protocol.specs.Cells.{Cell, Catalog, Ledger, Rows, ledger_at}
use Rattle.spec_protocol.specs.LedgerVisits.{next_block}
use Rattle.spec_protocol.specs.Seats.{SeatState}
use Rattle.spec_protocol.specs.Server.{Server}
use Rattle.spec_protocol.specs.Visits.{Visit, Happens, close, nothing}
use Rattle.server_board.specs.ServedDatabase.{ServedDatabase, MayVisitServed, StandsOn}
use Rattle.server_board.proofs.Unchanged.{each_there}

-- a visit that leaves the seat as it is, and this in the cell
record Leaves (v : Server) (out : List (ℕ × Cell)) (c d : Cell) (s : SeatState) : Type 0 where
  visit : Visit
  happens : Happens v out visit c s d s

leaves_it : (v : Server) (out : List (ℕ × Cell)) (c d : Cell) (s : SeatState) → d ≡ c → Leaves v out c d s
leaves_it v out c d s same = record { visit = nothing; happens = (same, refl) }

closes_it : (v : Server) (out : List (ℕ × Cell)) (c d : Cell) (s : SeatState) → ClosesPending v.hash c d → Leaves v out c d s
closes_it v out (Catalog c) d s same = leaves_it v out (Catalog c) d s same
closes_it v out (Rows c) d s same = leaves_it v out (Rows c) d s same
closes_it v out (Ledger c) d s closed = ⊎_elim
    (λ p. subst (λ (e : Cell). Leaves v out (Ledger c) e s) (sym p.1)
    (record { visit = close (next_block c); happens = (record { some = p.0; all = refl; cell = refl }, refl) }))
    (λ p. leaves_it v out (Ledger c) d s p.1) closed

-- the ledger's cell is taken alone
module _ (d : ServedDatabase) (h : List ℕ → List ℕ) (reads : Reading) (serves : Serves h reads d.server) (c e : KeptCell) (s : SeatState) where
  alone : Leaves d.server ((ledger_at, c.cell) ∷ []) c.cell e.cell s → Keeps h e → MayVisitServed (λ (k : KeptCell). k.cell) Keeps d s ((ledger_at, c) ∷ []) ledger_at e s
  alone l keeps = record {
    kept = subst (λ (g : List ℕ → List ℕ). Keeps g e) (sym serves.hash) keeps;
    may = record { visit = l.visit; old = c.cell; rest = []; is_out = refl; begun = s; before = none; ended = s; happens = l.happens; after = none };
  }

  pub may_close : ClosesPending h c.cell e.cell → Keeps h e → MayVisitServed (λ (k : KeptCell). k.cell) Keeps d s ((ledger_at, c) ∷ []) ledger_at e s
  may_close closed = alone (closes_it d.server ((ledger_at, c.cell) ∷ []) c.cell e.cell s
      (subst (λ (g : List ℕ → List ℕ). ClosesPending g c.cell e.cell) (sym serves.hash) closed))

  pub may_leave : e ≡ c → Keeps h e → MayVisitServed (λ (k : KeptCell). k.cell) Keeps d s ((ledger_at, c) ∷ []) ledger_at e s
  may_leave same = alone (leaves_it d.server ((ledger_at, c.cell) ∷ []) c.cell e.cell s (ap (λ (k : KeptCell). k.cell) same))

  -- whether there was memory or not
  pub may_either : {T E : Type 0} (r : Result T E) → OnOk r (ClosesPending h c.cell e.cell) → OnErr r (e ≡ c) → Keeps h e → MayVisitServed (λ (k : KeptCell). k.cell) Keeps d s ((ledger_at, c) ∷ []) ledger_at e s
  may_either (Ok x) closed same keeps = may_close closed keeps
  may_either (Err x) closed same keeps = may_leave same keeps

-- ---- what the cell keeps

-- a cell that stands with others keeps what was worked out with the server's hash
pub kept_there : (d : ServedDatabase) (h : List ℕ → List ℕ) (reads : Reading) → Serves h reads d.server → (cells : List KeptCell) (seats : List SeatState)
    → StandsOn (λ (k : KeptCell). k.cell) Keeps d cells seats → (i : ℕ) (c : KeptCell) → get_elem? cells i ≡ some c → Keeps h c
kept_there d h reads serves cells seats stands i c there =
    subst (λ (g : List ℕ → List ℕ). Keeps g c) serves.hash (each_there (Keeps d.server.hash) cells stands.kept i c there)
