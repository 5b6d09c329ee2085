-- A commit keeps what locks were asked for: one that changes definitions has all locks that there are, and none of them in a table's cell.
use Rattle.std.proofs.Common.{◌≡◌, ℕ, zero, suc, Bool, true, List, [], ◌∷◌, Some, None, refl, sym, ap, ◌∙◌, subst, ⊎_elim}
use Rattle.sql_types.specs.declared.lock.Hold.{Hold}
use Rattle.sql_types.specs.declared.statement.Stmt.{Stmt}
use Rattle.sql_types.specs.declared.statement.Stmt.TheVariants as stmt
use Rattle.spec_model.specs.Catalog.{Defs}
use Rattle.spec_model.specs.Locks.{CellRequests, cell_requests}
use Rattle.spec_model.specs.Reach.{creates}
use Rattle.spec_history.specs.Lists.{Text, In}
use Rattle.spec_history.specs.Real.{requests_cell}
use Rattle.spec_history.specs.Transactions.{unfixed}
use Rattle.spec_history.specs.Worlds.{first, run}
use Rattle.spec_protocol.specs.Server.{Server}
use Rattle.spec_protocol.specs.Cells.{Cell, holds_at}
use Rattle.spec_protocol.specs.LocksWereAsked.{IsAskedFor, WasAsked}
use Rattle.spec_protocol.specs.OpenOnes.{HasOpen, texts_so_far}
use Rattle.spec_protocol.specs.Seats.{OpenTransaction, SeatState, Session}
use Rattle.spec_protocol.specs.StandTogether.{History, LocksAskedFor, Stands}
use Rattle.spec_protocol.specs.RequestsIn.{of_cell}
use Rattle.law_protocol_steps.proofs.ActedFor.{sessions_at}
use Rattle.law_protocol_tables.proofs.AskedStays.{asked_it}
use Rattle.law_protocol_steps.proofs.Ids.{InTransaction, in_transaction, apart, each_in}
use Rattle.law_protocol_tables.proofs.KeepsAsked.{defs_at}

no_cell_requested : (D : Defs) (d : Stmt) → creates d ≡ true → cell_requests D d ≡ None
unfolding cell_requests
no_cell_requested D (stmt.Create q) e = refl
no_cell_requested D (stmt.Index q) e = refl
no_cell_requested D (stmt.Alter a) e = refl
no_cell_requested D (stmt.Drop name) e = refl
no_cell_requested D (stmt.Change row) e = cc
no_cell_requested D (stmt.Select q) e = cc
no_cell_requested D stmt.Begin e = refl
no_cell_requested D stmt.Commit e = refl
no_cell_requested D (stmt.Save name) e = refl
no_cell_requested D (stmt.Rollback name) e = refl
no_cell_requested D stmt.Digest e = refl
no_cell_requested D stmt.Image e = refl

module _ (v : Server) {history : History} {cells : List Cell} {seats : List SeatState} (st : Stands v history cells seats) (asked : LocksAskedFor st) (j : ℕ) (x : Session) (o : OpenTransaction) (mine : HasOpen seats j x o) (open_end : o.end ≡ unfixed)
    (text : Text) (d : Stmt) (reads : v.reads text ≡ Some d) (creating : creates d ≡ true) (texts_are : texts_so_far x o ≡ text ∷ []) (its : (i : ℕ) (lock : Hold) → In lock (holds_at cells i) → lock.tx ≡ o.id) where
  abbrev its_transaction : InTransaction v.meaning history (st.transcripts_agree.of_seat j) x o
  its_transaction = in_transaction v history st.ledger seats st.transcripts_agree j x o mine

  -- it asked for the wants of its one statement alone
  its_text : (i : ℕ) (lock : Hold) → In lock (holds_at cells i) → (explicit : Bool) (a : Text × Bool) → WasAsked (sessions_at history) lock.tx explicit a → a.1 ≡ true → text ≡ a.0
  its_text i lock has explicit a was flag =
      let in_asked : In a its_transaction.transaction.asked = asked_it (run first history) (apart v history st.ledger seats st.transcripts_agree) lock.tx explicit a was its_transaction.runs.number its_transaction.transaction its_transaction.has (its_transaction.is.id ∙ sym (its i lock has)) in
      let in_texts : In a.0 (texts_so_far x o) = each_in (λ (b : Text × Bool). b.1 ≡ true → In b.0 (texts_so_far x o)) its_transaction.transaction.asked a (its_transaction.is.asked open_end) in_asked flag in
      ⊎_elim (λ (e : text ≡ a.0). e) (λ (e : ⊥). absurd e) (subst (In a.0) texts_are in_texts)

  nothing_there : (n : ℕ) (lock : Hold) (a : Text × Bool) → text ≡ a.0 → In lock.request (of_cell n (requests_cell (defs_at st) (v.reads a.0))) → ⊥
  nothing_there n lock a same has = subst (λ (c : CellRequests). In lock.request (of_cell n c)) (ap (λ (u : Text). requests_cell (defs_at st) (v.reads u)) (sym same) ∙ ap (requests_cell (defs_at st)) reads ∙ no_cell_requested (defs_at st) d creating) has

  -- so its locks are asked for over whatever definitions
  pub over_all : (E : Defs) (i : ℕ) (lock : Hold) → In lock (holds_at cells i) → IsAskedFor v (sessions_at history) E i lock
  over_all E zero lock has = let w = asked zero lock has in record { explicit = w.explicit; statement = w.statement; asked = w.asked; wanted = w.wanted }
  over_all E (suc i) lock has = let w = asked (suc i) lock has in absurd (nothing_there (suc i) lock w.statement (its_text (suc i) lock has w.explicit w.statement w.asked w.wanted.0) w.wanted.1)
