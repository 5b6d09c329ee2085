-- Where all other sessions are idle, nobody is in the way of a statement whose wants are locked, and the lock that stops one is in its way.
use Rattle.std.proofs.Common.{◌≡◌, ◌≢◌, ℕ, suc, ◌<◌, Bool, true, false, List, [], Option, Some, None, refl, sym, ap, ◌∙◌, subst, arith}
use Rattle.std.proofs.lemmas.Bool.{eq-eqb, eqb-true, ne_eqb}
use Rattle.std.specs.Prelude.{◌==◌, if◌then◌else◌}
use Rattle.sql_types.specs.declared.journal.JournalItem.{JournalItem}
use Rattle.sql_types.specs.declared.lock.Hold.{Hold}
use Rattle.sql_types.specs.declared.lock.Mode.{Mode}
use Rattle.sql_types.specs.declared.lock.LockRequest.{LockRequest}
use Rattle.sql_types.specs.declared.statement.Stmt.{Stmt}
use Rattle.spec_model.specs.Catalog.{Defs, defs_of}
use Rattle.spec_model.specs.InTheWay.{Conflict, first_conflict}
use Rattle.spec_model.specs.Journals.{serial}
use Rattle.spec_model.specs.Locks.{CellRequests, requests_conflict}
use Rattle.spec_model.specs.ScriptRequests.{text_requests}
use Rattle.spec_history.specs.ExactRefusals.{HeldStatement, catalog_requests, first_some, holder_named, in_the_way, in_the_way_there}
use Rattle.spec_history.specs.ExactRefusals as exact
use Rattle.spec_history.specs.Histories.{IsIdle}
use Rattle.spec_history.specs.Lists.{Text, Each, In}
use Rattle.spec_history.specs.Real.{requests_catalog, requests_cell}
use Rattle.spec_history.specs.Serial as serials
use Rattle.spec_history.specs.Sessions.{SessionTransaction}
use Rattle.spec_history.specs.Worlds.{World, first, run, tables}
use Rattle.spec_history.proofs.Settles.{in_left, in_right}
use Rattle.spec_protocol.specs.Server.{Server}
use Rattle.spec_protocol.specs.Cells.{Cell, catalog_at, cell_of}
use Rattle.spec_protocol.specs.Contents.{Contents, contents}
use Rattle.spec_protocol.specs.LocksAreRequested.{LocksAreRequested}
use Rattle.spec_protocol.specs.Seats.{SeatState}
use Rattle.spec_protocol.specs.StandTogether.{History, LocksAskedFor, Stands}
use Rattle.spec_protocol.specs.RequestsIn.{of_catalog, of_cell, requests_in, Holds}
use Rattle.law_protocol.proofs.HeldStatements.{IsRequestedBy, holds_of, names_same, none_in_way}
use Rattle.law_protocol_steps.proofs.Ids.{each_in}
use Rattle.law_protocol_steps.proofs.JournalMore.{same_serial}
use Rattle.law_protocol_steps.proofs.Locks.{no_conflict}
use Rattle.law_protocol_tables.proofs.MetLock.{wanted_there}
use Rattle.law_protocol.proofs.OthersHold.{IsTheirs, beside, covered, is_theirs, others}

-- ---- wants, as step order has them

pub catalog_alike : (m : Option Mode) → catalog_requests m ≡ of_catalog m
catalog_alike None = refl
catalog_alike (Some mode) = refl

text_catalog : (D : Defs) (o : Bool) (s : Option Stmt) → (text_requests D o s).catalog ≡ requests_catalog o s
text_catalog D o None = refl
text_catalog D o (Some stmt) = refl

text_cell : (D : Defs) (o : Bool) (s : Option Stmt) → (text_requests D o s).cell ≡ requests_cell D s
text_cell D o None = refl
text_cell D o (Some stmt) = refl

there : (m n : ℕ) (ws : List LockRequest) (w : LockRequest) → m ≡ n → In w ws → In w (if m == n then ws else [])
there m n ws w e i = subst (λ (b : Bool). In w (if b then ws else [])) (sym (eq-eqb m n e)) i

record There (m n : ℕ) (ws : List LockRequest) (w : LockRequest) : Type 0 where
  same : m ≡ n
  has : In w ws

there_so : (m n : ℕ) (ws : List LockRequest) (w : LockRequest) → In w (if m == n then ws else []) → There m n ws w
there_so m n ws w i = by (m == n) refl i
  where
    by : (b : Bool) → (m == n) ≡ b → In w (if b then ws else []) → There m n ws w
    by true e k = record { same = eqb-true m n e; has = k }
    by false e k = absurd k

in_its_cell : (id : ℕ) (cw : CellRequests) (w : LockRequest) → In w (exact.requests_in id cw) → In w (of_cell (cell_of id) cw)
in_its_cell id None w i = i
in_its_cell id (Some c) w i = let k = there_so c.0 id c.1 w i in there (cell_of c.0) (cell_of id) c.1 w (ap cell_of k.same) k.has

user_cell : (m : ℕ) → cell_of (suc (suc (suc m))) ≡ suc (suc m)
user_cell m = rw (ne_eqb (suc (suc (suc m))) 1 (λ e. omega (arith, e)), ne_eqb (suc (suc (suc m))) 2 (λ e. omega (arith, e))) (omega arith)

in_its_table : (m : ℕ) (cw : CellRequests) (w : LockRequest) → In w (of_cell (suc m) cw) → In w (exact.requests_in (suc (suc m)) cw)
in_its_table m None w i = i
in_its_table m (Some c) w i = let k = wanted_there m c w i in there c.0 (suc (suc m)) c.1 w k.0 k.1

module _ (v : Server) (D : Defs) (explicit : Bool) (text : Text) where
  pub catalog_to_text : (w : LockRequest) → In w (catalog_requests (requests_catalog explicit (v.meaning.reads text))) → In w (of_catalog (text_requests D explicit (v.reads text)).catalog)
  catalog_to_text w i = subst (λ (m : Option Mode). In w (of_catalog m)) (sym (text_catalog D explicit (v.reads text)))
      (subst (In w) (catalog_alike (requests_catalog explicit (v.reads text))) (subst (λ (s : Option Stmt). In w (catalog_requests (requests_catalog explicit s))) (v.real.reading text) i))

  pub catalog_of_text : (w : LockRequest) → In w (catalog_requests (requests_catalog explicit (v.meaning.reads text))) → In w (requests_in v D explicit catalog_at text)
  catalog_of_text w i = in_left w (of_catalog (text_requests D explicit (v.reads text)).catalog) (of_cell catalog_at (text_requests D explicit (v.reads text)).cell) (catalog_to_text w i)

  pub cell_of_text : (i : ℕ) (w : LockRequest) → In w (of_cell i (requests_cell D (v.reads text))) → In w (requests_in v D explicit i text)
  cell_of_text i w k = in_right w (if i == catalog_at then of_catalog (text_requests D explicit (v.reads text)).catalog else []) (of_cell i (text_requests D explicit (v.reads text)).cell) (subst (λ (cw : CellRequests). In w (of_cell i cw)) (sym (text_cell D explicit (v.reads text))) k)

module _ (v : Server) {history : History} {cells : List Cell} {seats : List SeatState} (st : Stands v history cells seats) (n : ℕ) (idle : (t : ℕ) → t ≢ n → IsIdle ((run first history).at t)) (k : ℕ) where
  abbrev W : World
  W = run first history

  abbrev c : Contents
  c = contents cells

  abbrev D : Defs
  D = defs_of (serial v.reads st.ledger.items)

  abbrev hs : List HeldStatement
  hs = beside v st n idle k

  -- the definitions over which wants stand are those of the journal
  over : v.meaning.defs (tables v.meaning W) ≡ D
  over = v.real.defs _ ∙ ap (λ (items : List JournalItem). defs_of (serials.serial v.meaning v.meaning.first items)) st.transcripts_agree.items ∙ ap defs_of (same_serial v.reads v.hashing v.meaning v.real st.ledger.items)

  abbrev in_catalog : HeldStatement → List LockRequest
  in_catalog h = catalog_requests (requests_catalog h.explicit (v.meaning.reads h.text))

  abbrev in_cell : ℕ → HeldStatement → List LockRequest
  in_cell id h = exact.requests_in id (requests_cell D (v.meaning.reads h.text))

  catalog_covered : (h : HeldStatement) → In h hs → (u : LockRequest) → In u (in_catalog h) → Holds (c.holds catalog_at) h.id u
  catalog_covered h i u e = covered v st n idle h (others v st n idle k h i) catalog_at u (catalog_of_text v D h.explicit h.text u e)

  cell_covered : (id : ℕ) (h : HeldStatement) → In h hs → (u : LockRequest) → In u (in_cell id h) → Holds (c.holds (cell_of id)) h.id u
  cell_covered id h i u e = covered v st n idle h (others v st n idle k h i) (cell_of id) u
      (cell_of_text v D h.explicit h.text (cell_of id) u (in_its_cell id (requests_cell D (v.reads h.text)) u (subst (λ (s : Option Stmt). In u (exact.requests_in id (requests_cell D s))) (v.real.reading h.text) e)))

  agree : (i : ℕ) (a b : Hold) → In a (c.holds i) → In b (c.holds i) → a.tx ≢ b.tx → requests_conflict a.request b.request ≡ false
  agree i a b has_a has_b differ = no_conflict v cells seats st i a b has_a has_b differ

  way_over : (id : ℕ) (explicit : Bool) (text : Text) (r : Option ℕ) → in_the_way v.meaning D hs id explicit text ≡ r → in_the_way v.meaning (v.meaning.defs (tables v.meaning W)) hs id explicit text ≡ r
  way_over id explicit text r e = ap (λ (ds : Defs). in_the_way v.meaning ds hs id explicit text) over ∙ e

  module _ (id : ℕ) (explicit : Bool) (text : Text) where
    abbrev requests_first : List LockRequest
    requests_first = catalog_requests (requests_catalog explicit (v.meaning.reads text))

    catalog_free : ((w : LockRequest) → In w requests_first → Holds (c.holds catalog_at) id w) → first_conflict (holds_of in_catalog hs) id requests_first ≡ None
    catalog_free locked = none_in_way in_catalog hs (c.holds catalog_at) id catalog_covered (agree catalog_at) requests_first locked

    there_free : (cw : CellRequests) → requests_cell D (v.meaning.reads text) ≡ cw → ((i : ℕ) → Each (Holds (c.holds i) id) (requests_in v D explicit i text)) → in_the_way_there v.meaning D id hs cw ≡ None
    there_free None e locked = refl
    there_free (Some t) e locked = ap holder_named (none_in_way (in_cell t.0) hs (c.holds (cell_of t.0)) id (cell_covered t.0) (agree (cell_of t.0)) t.1
        (λ w i. each_in (Holds (c.holds (cell_of t.0)) id) (requests_in v D explicit (cell_of t.0) text) w (locked (cell_of t.0))
        (cell_of_text v D explicit text (cell_of t.0) w (subst (λ (z : CellRequests). In w (of_cell (cell_of t.0) z)) (sym (ap (requests_cell D) (sym (v.real.reading text)) ∙ e)) (there (cell_of t.0) (cell_of t.0) t.1 w refl i)))))

    -- where all that it wants is locked, nobody is in its way
    pub none_there : ((i : ℕ) → Each (Holds (c.holds i) id) (requests_in v D explicit i text)) → in_the_way v.meaning (v.meaning.defs (tables v.meaning W)) hs id explicit text ≡ None
    none_there locked = way_over id explicit text None
        (ap (λ (z : Option Conflict). first_some (holder_named z) (in_the_way_there v.meaning D id hs (requests_cell D (v.meaning.reads text)))) (catalog_free (λ w i. each_in (Holds (c.holds catalog_at) id) (requests_in v D explicit catalog_at text) w (locked catalog_at) (catalog_of_text v D explicit text w i)))
        ∙ there_free (requests_cell D (v.meaning.reads text)) refl locked)

    module _ (asked : LocksAskedFor st) (are_requested : LocksAreRequested v c seats) (below : (t : ℕ) (d : SessionTransaction) → (W.at t).transaction ≡ Some d → t < k) (mine : (d : SessionTransaction) → (W.at n).transaction ≡ Some d → d.id ≡ id) where
      theirs : (i : ℕ) (lock : Hold) → In lock (c.holds i) → lock.tx ≢ id → IsTheirs v st n idle asked are_requested k below id mine i lock
      theirs i lock has foreign = is_theirs v st n idle asked are_requested k below id mine i lock has foreign

      catalog_requested : (lock : Hold) → In lock (c.holds catalog_at) → lock.tx ≢ id → IsRequestedBy in_catalog hs lock
      catalog_requested lock has foreign = let w = theirs catalog_at lock has foreign in record {
        statement = w.statement;
        has = w.has;
        mine = w.tx;
        wanted = subst (λ (s : Option Stmt). In lock.request (catalog_requests (requests_catalog w.statement.explicit s))) (sym (v.real.reading w.statement.text)) (subst (In lock.request) (sym (catalog_alike (requests_catalog w.statement.explicit (v.reads w.statement.text)))) w.wanted);
      }

      cell_requested : (m : ℕ) (lock : Hold) → In lock (c.holds (suc m)) → lock.tx ≢ id → IsRequestedBy (in_cell (suc (suc m))) hs lock
      cell_requested m lock has foreign = let w = theirs (suc m) lock has foreign in record {
        statement = w.statement;
        has = w.has;
        mine = w.tx;
        wanted = subst (λ (s : Option Stmt). In lock.request (exact.requests_in (suc (suc m)) (requests_cell D s))) (sym (v.real.reading w.statement.text)) (in_its_table m (requests_cell D (v.reads w.statement.text)) lock.request w.wanted.1);
      }

      -- the lock that stops it in the catalog is in its way
      pub met_in_catalog : (q : Conflict) → first_conflict (c.holds catalog_at) id (of_catalog (requests_catalog explicit (v.reads text))) ≡ Some q → in_the_way v.meaning (v.meaning.defs (tables v.meaning W)) hs id explicit text ≡ Some q.0.0
      met_in_catalog q e = way_over id explicit text (Some q.0.0)
          (ap (λ (z : Option ℕ). first_some z (in_the_way_there v.meaning D id hs (requests_cell D (v.meaning.reads text))))
          (names_same in_catalog hs (c.holds catalog_at) id catalog_covered catalog_requested requests_first
          ∙ ap (λ (ws : List LockRequest). holder_named (first_conflict (c.holds catalog_at) id ws)) (ap (λ (s : Option Stmt). catalog_requests (requests_catalog explicit s)) (v.real.reading text) ∙ catalog_alike (requests_catalog explicit (v.reads text)))
          ∙ ap holder_named e))

      -- and the one that stops it in its table's cell, where the catalog lets it pass
      pub met_in_table : (m : ℕ) (ws : List LockRequest) (q : Conflict) → Each (Holds (c.holds catalog_at) id) (of_catalog (text_requests D explicit (v.reads text)).catalog) → requests_cell D (v.reads text) ≡ Some (suc (suc (suc m)), ws) → first_conflict (c.holds (suc (suc m))) id ws ≡ Some q
          → in_the_way v.meaning (v.meaning.defs (tables v.meaning W)) hs id explicit text ≡ Some q.0.0
      met_in_table m ws q locked is e = way_over id explicit text (Some q.0.0)
          (ap (λ (z : Option Conflict). first_some (holder_named z) (in_the_way_there v.meaning D id hs (requests_cell D (v.meaning.reads text)))) (catalog_free (λ w i. each_in (Holds (c.holds catalog_at) id) (of_catalog (text_requests D explicit (v.reads text)).catalog) w locked (catalog_to_text v D explicit text w i)))
          ∙ ap (in_the_way_there v.meaning D id hs) (ap (requests_cell D) (v.real.reading text) ∙ is)
          ∙ names_same (in_cell (suc (suc (suc m)))) hs (c.holds (suc (suc m))) id (λ h i u k. subst (λ (n : ℕ). Holds (c.holds n) h.id u) (user_cell m) (cell_covered (suc (suc (suc m))) h i u k)) (cell_requested (suc m)) ws
          ∙ ap holder_named e)
