-- Each visit of the catalog's cell or a table's keeps what locks were asked for.
use Rattle.std.proofs.Common.{◌≡◌, ◌≢◌, ◌⊎◌, ℕ, suc, Bool, true, false, List, [], ◌∷◌, ◌++◌, map, Option, Some, None, set, refl, sym, ap, ◌∙◌, subst, inl, inr, ⊎_elim, arith, cond}
use Rattle.std.proofs.lemmas.Bool.{eq-eqb}
use Rattle.std.specs.Prelude.{◌==◌, if◌then◌else◌, not}
use Rattle.std.specs.List.{filter}
use mathlib.Core.Option.{some}
use lib.ListN.{get_elem?}
use Rattle.sql_types.specs.declared.lock.Hold.{Hold}
use Rattle.sql_types.specs.declared.lock.LockRequest.{LockRequest}
use Rattle.sql_types.specs.declared.statement.Stmt.{Stmt}
use Rattle.spec_model.specs.Catalog.{Defs, NamedPart, Tables, defs_of}
use Rattle.spec_model.specs.Holds.{holds_after, released}
use Rattle.spec_model.specs.Journals.{serial}
use Rattle.spec_model.specs.Locks.{CellRequests}
use Rattle.spec_history.specs.Lists.{Text, Each, In}
use Rattle.spec_history.specs.Real.{requests_cell}
use Rattle.spec_history.specs.Acts.{SessionAct, by}
use Rattle.spec_history.specs.Sessions.{SessionState}
use Rattle.spec_protocol.specs.Server.{Server}
use Rattle.spec_protocol.specs.Answering.{refused_by_check}
use Rattle.spec_protocol.specs.Cells.{Cell, LedgerCell, Rows, TableCell, cell_of, holds_in, ledger_at}
use Rattle.spec_protocol.specs.Contents.{contents, known, HasAlone}
use Rattle.spec_protocol.specs.LocksCover.{HoldsCatalog, IsGotAt, IsNamed, LookedAt}
use Rattle.spec_protocol.specs.LocksWereAsked.{IsAskedFor, IsRequested, WasAsked}
use Rattle.spec_protocol.specs.OpenOnes.{HasOpen}
use Rattle.spec_protocol.specs.Seats.{OpenTransaction, SeatState, Session, found, inside}
use Rattle.spec_protocol.specs.StandTogether.{History, LocksAskedFor, Stands, StandsAfter}
use Rattle.spec_protocol.specs.TableVisits.{Found, requests_here}
use Rattle.spec_protocol.specs.RequestsIn.{of_cell}
use Rattle.law_protocol_steps.proofs.ActedFor.{StandsBy, by_any, sessions_at}
use Rattle.law_protocol_steps.proofs.AfterSet.{set_else}
use Rattle.law_protocol_tables.proofs.AskedStays.{AssignsNoId}
use Rattle.law_protocol_tables.proofs.KeepsAsked.{defs_at, new_locks, same_ledger, stay_asked}
use Rattle.law_protocol_tables.proofs.PassedRequests.{requests_found}
use Rattle.law_protocol_steps.proofs.Taken.{taken_comes}
use Rattle.law_protocol_steps.proofs.TakesInTable.{IsAtPlace, cell_at, table_place}

-- ---- locks that are taken

-- each was there, or is a want of what was asked for
pub taken_for : (v : Server) (at : ℕ → SessionState) (D : Defs) (i id : ℕ) (explicit : Bool) (a : Text × Bool) → WasAsked at id explicit a → (ws : List LockRequest) → ((w : LockRequest) → In w ws → IsRequested v D explicit i a w)
    → (holds : List Hold) (lock : Hold) → In lock (holds_after holds id ws) → In lock holds ⊎ IsAskedFor v at D i lock
taken_for v at D i id explicit a was ws wanted holds lock has = ⊎_elim (λ (k : In lock holds). inl k)
    (λ (k : (lock.tx ≡ id) × In lock.request ws). inr (record { explicit = explicit; statement = a; asked = subst (λ (n : ℕ). WasAsked at n explicit a) (sym k.0) was; wanted = wanted lock.request k.1 }))
    (taken_comes id ws holds lock has)

-- ---- locks that are released

kept_by : (test : Hold → Bool) (b : Bool) (h lock : Hold) (hs : List Hold) → (In lock (filter test hs) → In lock hs) → In lock (cond b (h ∷ filter test hs) (filter test hs)) → In lock (h ∷ hs)
kept_by test true h lock hs later (inl e) = inl e
kept_by test true h lock hs later (inr k) = inr (later k)
kept_by test false h lock hs later k = inr (later k)

kept_in : (test : Hold → Bool) (hs : List Hold) (lock : Hold) → In lock (filter test hs) → In lock hs
kept_in test [] lock i = i
kept_in test (h ∷ hs) lock i = kept_by test (test h) h lock hs (kept_in test hs lock) i

pub were_held : (hs : List Hold) (id : ℕ) (lock : Hold) → In lock (released hs id) → In lock hs
unfolding released
were_held hs id lock i = kept_in _ hs lock i

-- ---- a cell

module _ (v : Server) {history : History} {cells : List Cell} {seats : List SeatState} (st : Stands v history cells seats) (asked : LocksAskedFor st) (i : ℕ) (old new : Cell) (out : get_elem? cells i ≡ some old) (elsewhere : ledger_at ≢ i) where
  still_defs : {g : History} {then_seats : List SeatState} (after : Stands v g (set cells i new) then_seats) → defs_at st ≡ defs_at after
  still_defs after = ap (λ (l : LedgerCell). defs_of (serial v.reads l.items)) (sym (same_ledger v st after (set_else cells i ledger_at new elsewhere)))

  -- where it gained no lock
  pub no_more : {j : ℕ} {acts : List SessionAct} {then_seats : List SeatState} (after : StandsAfter v j history acts (set cells i new) then_seats) → Each AssignsNoId acts → ((lock : Hold) → In lock (holds_in new) → In lock (holds_in old)) → LocksAskedFor after.stands
  no_more {j} {acts} after none fewer = stay_asked v st asked after none (still_defs after.stands) (new_locks cells i old new out (IsAskedFor v (sessions_at (history ++ map (by after.session) acts)) (defs_at after.stands)) (λ lock has. inl (fewer lock has)))

  -- where a transaction took what it asked for
  pub taken_there : {j : ℕ} {acts : List SessionAct} {then_seats : List SeatState} {id : ℕ} {explicit : Bool} (b : StandsBy v j history id explicit acts (set cells i new) then_seats) → Each AssignsNoId acts → (ws : List LockRequest) → holds_in new ≡ holds_after (holds_in old) id ws
      → (a : Text × Bool) → WasAsked (sessions_at (history ++ map (by b.session) acts)) id explicit a → ((w : LockRequest) → In w ws → IsRequested v (defs_at st) explicit i a w) → LocksAskedFor b.stands
  taken_there {j} {acts} {then_seats} {id} {explicit} b none ws takes a was wanted = stay_asked v st asked (by_any b) none (still_defs b.stands)
      (new_locks cells i old new out (IsAskedFor v (sessions_at (history ++ map (by b.session) acts)) (defs_at b.stands))
      (λ lock has. taken_for v (sessions_at (history ++ map (by b.session) acts)) (defs_at b.stands) i id explicit a was ws (λ w k. subst (λ (ds : Defs). IsRequested v ds explicit i a w) (still_defs b.stands) (wanted w k)) (holds_in old) lock (subst (In lock) takes has)))

-- ---- a statement that passes its checks, in the cell of the table that it found

there_in : (n m : ℕ) (ws : List LockRequest) (w : LockRequest) → n ≡ m → In w ws → In w (if n == m then ws else [])
there_in n m ws w e k = subst (λ (b : Bool). In w (if b then ws else [])) (sym (eq-eqb n m e)) k

module _ (v : Server) {history : History} {cells : List Cell} {seats : List SeatState} (st : Stands v history cells seats) (j : ℕ) (s : SeatState) (there : get_elem? seats j ≡ some s)
    (i : ℕ) (c : TableCell) (out : get_elem? cells i ≡ some (Rows c)) (o : OpenTransaction) (named : NamedPart) (fresh : Bool) (L : Found v c s o named fresh) (passes : refused_by_check (Some named) L.at.stands.stmt ≡ None) where
  abbrev T : Tables
  T = serial v.reads st.ledger.items

  abbrev x : Session
  x = L.at.stands.x

  abbrev text : Text
  text = L.at.stands.text

  place : x.place ≡ inside text (found (Some named) fresh)
  place = L.at.stands.place ∙ ap (inside text) L.at_found

  mine : HasOpen seats j x o
  mine = record { seat = s; there = there; role = L.at.stands.role; open_one = L.at.open_one }

  pub looked : HoldsCatalog v (contents cells) (defs_of T) o.id o.explicit text
  looked = subst (LookedAt v (contents cells) (defs_of T) o.id o.explicit) place (st.locks_cover.looked j x o mine L.at.unfixed)

  pub got : IsNamed T (Some L.at.stands.stmt) (Some named)
  got = subst (λ (d : Option Stmt). IsNamed T d (Some named)) L.at.stands.is
      (subst (IsGotAt v T (HasAlone (contents cells) o.id) (not ((known v.reads st.ledger.items).has o.id))) place (st.locks_cover.got j x o mine looked.lock))

  pub lies : IsAtPlace i c
  lies = table_place cells st.catalog st.ledger i c st.are_cells out

  pub not_ledger : ledger_at ≢ i
  not_ledger e = let f = lies.is in omega (arith, e, f)

  here : cell_of named.0.id ≡ suc (suc lies.n)
  here = ap cell_of L.here ∙ cell_at i c lies ∙ lies.is

  -- its wants there are those that count
  pub wanted_there : (w : LockRequest) → In w (requests_here named L.at.stands.stmt) → IsRequested v (defs_of T) o.explicit i (text, true) w
  wanted_there w k = subst (λ (n : ℕ). IsRequested v (defs_of T) o.explicit n (text, true) w) (sym lies.is)
      (refl, subst (λ (m : CellRequests). In w (of_cell (suc (suc lies.n)) m)) (sym requests) (there_in (cell_of named.0.id) (suc (suc lies.n)) (requests_here named L.at.stands.stmt) w here k))
    where
      requests : requests_cell (defs_of T) (v.reads text) ≡ Some (named.0.id, requests_here named L.at.stands.stmt)
      requests = ap (requests_cell (defs_of T)) L.at.stands.is ∙ requests_found (defs_of T) named L.at.stands.stmt got.0 got.1 (sym got.2) passes w k
