-- Where all other sessions are idle, the locks of others are the wants of the scripts of their open transactions.
use Rattle.std.proofs.Common.{◌≡◌, ◌≢◌, ◌⊎◌, ℕ, zero, suc, ◌<◌, Bool, true, List, [], ◌∷◌, ◌++◌, Option, Some, None, refl, sym, ap, ◌∙◌, subst, inl, inr, ⊎_elim, arith}
use Rattle.std.proofs.lemmas.Bool.{cases_lt}
use mathlib.Core.Option.{some}
use lib.ListN.{get_elem?}
use Rattle.sql_types.specs.declared.lock.Hold.{Hold}
use Rattle.sql_types.specs.declared.lock.Mode.{Mode}
use Rattle.sql_types.specs.declared.lock.Mode.TheVariants.{S}
use Rattle.sql_types.specs.declared.lock.LockRequest.{LockRequest}
use Rattle.sql_types.specs.declared.statement.Stmt.{Stmt}
use Rattle.sql_types.specs.declared.statement.Stmt.TheVariants as stmt
use Rattle.spec_model.specs.Catalog.{Defs, defs_of}
use Rattle.spec_model.specs.Journals.{Line, serial}
use Rattle.spec_model.specs.Locks.{whole}
use Rattle.spec_history.specs.ExactRefusals.{HeldStatement, held_beside}
use Rattle.spec_history.specs.Histories.{IsIdle}
use Rattle.spec_history.specs.Lists.{Text, Each, Some_of, In}
use Rattle.spec_history.specs.Real.{requests_catalog, requests_cell}
use Rattle.spec_history.specs.Sessions.{SessionTransaction, SessionState, view, viewed}
use Rattle.spec_history.specs.Transactions.{Transaction, listed, unfixed}
use Rattle.spec_history.specs.Worlds.{World, first, run}
use Rattle.spec_history.proofs.Settles.{in_append, in_left}
use Rattle.spec_protocol.specs.Server.{Server}
use Rattle.spec_protocol.specs.Cells.{Cell, catalog_at}
use Rattle.spec_protocol.specs.Contents.{Contents, contents}
use Rattle.spec_protocol.specs.LocksAreRequested.{LocksAreRequested}
use Rattle.spec_protocol.specs.LocksCover.{Belongs, KeepsLocks, LookedFirst}
use Rattle.spec_protocol.specs.LocksWereAsked.{IsAskedFor, IsRequested}
use Rattle.spec_protocol.specs.OpenOnes.{HasOpen, lines_at, script_so_far, text_at, texts_so_far}
use Rattle.spec_protocol.specs.Parts.{AreTransactions, IsNow, IsTransaction, Now}
use Rattle.spec_protocol.specs.Seats.{OpenTransaction, SessionStatus, between, inside, leaving, Role, session, Session, SeatState}
use Rattle.spec_protocol.specs.StandTogether.{History, LocksAskedFor, Stands}
use Rattle.spec_protocol.specs.TranscriptsAgree.{TranscriptsAgree}
use Rattle.spec_protocol.specs.RequestsIn.{of_catalog, of_cell, requests_in, Holds}
use Rattle.law_protocol_ledger.proofs.GoneFree.{gone_free}
use Rattle.law_protocol.proofs.HeldStatements.{Made, at_held, held_at, in_map, statement_of}
use Rattle.law_protocol.proofs.IdleOnes.{idle_goes_on}
use Rattle.law_protocol_steps.proofs.Ids.{each_in}
use Rattle.law_protocol_tables.proofs.MetLock as met
use Rattle.law_protocol_ledger.proofs.NoneWanting.{listed_is, past_over}

-- ---- places between statements

pub no_lines : (p : SessionStatus) → text_at p ≡ None → lines_at p ≡ []
no_lines between e = refl
no_lines (inside text stage) e = cc
no_lines leaving e = refl

not_looking : (p : SessionStatus) → text_at p ≡ None → LookedFirst p → ⊥
not_looking between e f = f
not_looking (inside text stage) e f = cc
not_looking leaving e f = f

-- ---- small words

no_transaction : (o : Option SessionTransaction) (d : SessionTransaction) → o ≡ None → o ≡ Some d → ⊥
no_transaction o d e f = cc

record Viewed (o : Option SessionTransaction) (u : Transaction) : Type 0 where
  transaction : SessionTransaction
  is : o ≡ Some transaction
  same : view transaction ≡ u

viewed_some : (o : Option SessionTransaction) (u : Transaction) → viewed o ≡ Some u → Viewed o u
viewed_some None u e = cc
viewed_some (Some d) u e = record { transaction = d; is = refl; same = cc }

record Found {A : Type 0} (P : A → Type 0) (xs : List A) : Type 0 where
  one : A
  has : In one xs
  is : P one

found_in : {A : Type 0} (P : A → Type 0) (xs : List A) → Some_of P xs → Found P xs
found_in P [] h = absurd h
found_in P (x ∷ xs) (inl p) = record { one = x; has = inl refl; is = p }
found_in P (x ∷ xs) (inr h) = let w = found_in P xs h in record { one = w.one; has = inr w.has; is = w.is }

-- in a transaction that BEGIN opened a statement wants S in the catalog, if anything
shares_only : (s : Option Stmt) (w : LockRequest) → In w (of_catalog (requests_catalog true s)) → whole S ≡ w
shares_only None w i = absurd i
shares_only (Some (stmt.Create c)) w i = absurd i
shares_only (Some (stmt.Index c)) w i = absurd i
shares_only (Some (stmt.Alter a)) w i = absurd i
shares_only (Some (stmt.Drop name)) w i = absurd i
shares_only (Some (stmt.Change row)) w i = ⊎_elim (λ (e : whole S ≡ w). e) (λ (e : ⊥). absurd e) i
shares_only (Some (stmt.Select q)) w i = ⊎_elim (λ (e : whole S ≡ w). e) (λ (e : ⊥). absurd e) i
shares_only (Some stmt.Begin) w i = absurd i
shares_only (Some stmt.Commit) w i = absurd i
shares_only (Some (stmt.Save name)) w i = absurd i
shares_only (Some (stmt.Rollback name)) w i = absurd i
shares_only (Some stmt.Digest) w i = absurd i
shares_only (Some stmt.Image) w i = absurd i

module _ (v : Server) {history : History} {cells : List Cell} {seats : List SeatState} (st : Stands v history cells seats) where
  abbrev W : World
  W = run first history

  abbrev agree : TranscriptsAgree v history st.ledger seats
  agree = st.transcripts_agree

  abbrev c : Contents
  c = contents cells

  abbrev D : Defs
  D = defs_of (serial v.reads st.ledger.items)

  -- ---- each transaction is a seat's

  pub record AtSeat (t : ℕ) (d : SessionTransaction) : Type 0 where
    pub j : ℕ
    pub x : Session
    pub o : OpenTransaction
    pub has : HasOpen seats j x o
    pub is : IsTransaction d x o
    pub now : IsNow v.meaning (W.at t) x

  of_transactions : (t j : ℕ) (s : SeatState) (there : get_elem? seats j ≡ some s) (x : Session) (role : s.role ≡ session x) (now : IsNow v.meaning (W.at t) x) (e : Option SessionTransaction) (u : Option OpenTransaction) → x.open_one ≡ u → AreTransactions e x u → (d : SessionTransaction) → e ≡ Some d → AtSeat t d
  of_transactions t j s there x role now None u one a d f = absurd (no_transaction None d refl f)
  of_transactions t j s there x role now (Some e) None one a d f = absurd a
  of_transactions t j s there x role now (Some e) (Some o) one a d f = record {
    j = j;
    x = x;
    o = o;
    has = record { seat = s; there = there; role = role; open_one = one };
    is = subst (λ (z : SessionTransaction). IsTransaction z x o) (let g : e ≡ d = cc in g) a;
    now = now;
  }

  of_role : (t j : ℕ) (s : SeatState) (there : get_elem? seats j ≡ some s) (r : Role) → s.role ≡ r → Now history v.meaning (Some t) r → (d : SessionTransaction) → (W.at t).transaction ≡ Some d → AtSeat t d
  of_role t j s there (session x) role n d e = of_transactions t j s there x role n.0 (W.at t).transaction x.open_one refl n.0.open_one d e
  of_role t j s there r role n d e = absurd n

  pub at_seat : (t : ℕ) (d : SessionTransaction) → (W.at t).transaction ≡ Some d → AtSeat t d
  at_seat t d e = ⊎_elim
      (λ (l : t < agree.count). let a = agree.all t l in let j = agree.owner t in ⊎_elim
      (λ (k : In t (agree.of_seat j).past). absurd (no_transaction (W.at t).transaction d (gone_free v.meaning st.ledger.database history agree.good t (past_over history (agree.of_seat j).past a.0.written t (agree.agree j a.0 a.1).sessions.past k)) e))
      (λ (k : In t (listed (agree.of_seat j).now)). of_role t j a.0 a.1 a.0.role refl (subst (λ (o : Option ℕ). Now history v.meaning o a.0.role) (listed_is t (agree.of_seat j).now k) (agree.agree j a.0 a.1).sessions.now) d e)
      (in_append t (agree.of_seat j).past (listed (agree.of_seat j).now) a.2))
      (λ l. absurd (no_transaction (W.at t).transaction d (ap (λ (z : SessionState). z.transaction) (agree.no_others t (omega arith)).0) e))
      (cases_lt t agree.count)

  -- ---- where all sessions but n are idle

  module _ (n : ℕ) (idle : (t : ℕ) → t ≢ n → IsIdle (W.at t)) where
    abbrev pub beside : ℕ → List HeldStatement
    beside k = held_beside n k (λ t. viewed (W.at t).transaction)

    pub record IsOthers (h : HeldStatement) : Type 0 where
      pub session : ℕ
      pub transaction : SessionTransaction
      pub seat : AtSeat session transaction
      pub goes_on : (transaction.explicit ≡ true) × (transaction.fixed ≡ unfixed)
      pub line : Line
      pub has : In line transaction.script
      pub is : statement_of (view transaction) line ≡ h

    pub others : (k : ℕ) (h : HeldStatement) → In h (beside k) → IsOthers h
    others k h i = let w = held_at n k (λ t. viewed (W.at t).transaction) h i in let u = viewed_some (W.at w.session).transaction w.transaction w.is in record {
      session = w.session;
      transaction = u.transaction;
      seat = at_seat w.session u.transaction u.is;
      goes_on = idle_goes_on v.meaning st.ledger.database history agree.good w.session (idle w.session w.other) u.transaction u.is;
      line = w.line;
      has = subst (λ (z : Transaction). In w.line z.script) (sym u.same) w.has;
      is = ap (λ (z : Transaction). statement_of z w.line) u.same ∙ w.same;
    }

    nothing_released : (o : OpenTransaction) (i : ℕ) → o.released ≡ [] → KeepsLocks o i
    nothing_released o i e = (λ k. subst (In i) e k, λ k. subst (In catalog_at) e k)

    -- what they want is locked
    pub covered : (h : HeldStatement) → IsOthers h → (i : ℕ) (u : LockRequest) → In u (requests_in v D h.explicit i h.text) → Holds (c.holds i) h.id u
    covered h w i = subst (λ (z : HeldStatement). (u : LockRequest) → In u (requests_in v D z.explicit i z.text) → Holds (c.holds i) z.id u) w.is its
      where
        keeps : KeepsLocks w.seat.o i
        keeps = nothing_released w.seat.o i (st.locks_cover.unreleased w.seat.j w.seat.x w.seat.o w.seat.has (sym w.seat.is.end ∙ w.goes_on.1))

        its : (u : LockRequest) → In u (requests_in v D w.transaction.explicit i w.line.0) → Holds (c.holds i) w.transaction.id u
        its u k = subst (λ (id : ℕ). Holds (c.holds i) id u) (sym w.seat.is.id)
            (each_in (Holds (c.holds i) w.seat.o.id) (requests_in v D w.seat.o.explicit i w.line.0) u
            (each_in (λ l. Each (Holds (c.holds i) w.seat.o.id) (requests_in v D w.seat.o.explicit i l.0)) (script_so_far w.seat.x w.seat.o) w.line (st.locks_cover.cover w.seat.j w.seat.x w.seat.o w.seat.has i keeps)
            (in_left w.line w.seat.o.script (lines_at w.seat.x.place) (subst (In w.line) w.seat.is.script w.has)))
            (subst (λ (b : Bool). In u (requests_in v D b i w.line.0)) w.seat.is.explicit k))

    -- and what is locked they want
    module _ (asked : LocksAskedFor st) (are_requested : LocksAreRequested v c seats) (k : ℕ) (below : (t : ℕ) (d : SessionTransaction) → (W.at t).transaction ≡ Some d → t < k)
        (id : ℕ) (mine : (d : SessionTransaction) → (W.at n).transaction ≡ Some d → d.id ≡ id) where
      pub record IsTheirs (i : ℕ) (lock : Hold) : Type 0 where
        pub statement : HeldStatement
        pub has : In statement (beside k)
        pub tx : statement.id ≡ lock.tx
        pub wanted : IsRequested v D statement.explicit i (statement.text, true) lock.request

      module _ (i : ℕ) (lock : Hold) (there : In lock (c.holds i)) (foreign : lock.tx ≢ id) where
        abbrev was : IsAskedFor v W.at D i lock
        was = met.was v history st.ledger c seats agree st.locks_cover asked i lock there

        abbrev t : ℕ
        t = was.asked.session

        abbrev d : SessionTransaction
        d = was.asked.transaction

        not_mine : t ≢ n
        not_mine e = foreign (sym was.asked.is ∙ mine d (sym (ap (λ (m : ℕ). (W.at m).transaction) e) ∙ was.asked.has))

        goes_on : (d.explicit ≡ true) × (d.fixed ≡ unfixed)
        goes_on = idle_goes_on v.meaning st.ledger.database history agree.good t (idle t not_mine) d was.asked.has

        abbrev theirs : Belongs seats i lock
        theirs = met.theirs v history st.ledger c seats agree st.locks_cover asked i lock there

        abbrev x : Session
        x = theirs.x

        abbrev o : OpenTransaction
        o = theirs.o

        is : IsTransaction d x o
        is = subst (λ (z : SessionTransaction). IsTransaction z x o) (sym (met.one_transaction v history st.ledger c seats agree st.locks_cover asked i lock there)) (met.b v history st.ledger c seats agree st.locks_cover asked i lock there).is

        between_lines : text_at x.place ≡ None
        between_lines = let b = met.b v history st.ledger c seats agree st.locks_cover asked i lock there in
            sym b.runs.now.under ∙ ap (λ (m : ℕ). (W.at m).so_far.under) (sym (met.one_session v history st.ledger c seats agree st.locks_cover asked i lock there)) ∙ (idle t not_mine).under

        of_line : (line : Line) → In line o.script → In (statement_of (view d) line) (beside k)
        of_line line has = at_held n k (λ m. viewed (W.at m).transaction) t (below t d was.asked.has) not_mine (view d) (ap viewed was.asked.has) line (subst (In line) (sym is.script) has)

        by_script : (m : ℕ) → i ≡ m → IsRequested v D was.explicit m was.statement lock.request → IsTheirs m lock
        by_script zero e wanted = ⊎_elim
            (λ (some : Some_of (λ l. requests_catalog true (v.reads l.0) ≡ Some S) o.script). let f = found_in (λ l. requests_catalog true (v.reads l.0) ≡ Some S) o.script some in record {
              statement = statement_of (view d) f.one;
              has = of_line f.one f.has;
              tx = was.asked.is;
              wanted = subst (λ (mode : Option Mode). In lock.request (of_catalog mode)) (sym (ap (λ (b : Bool). requests_catalog b (v.reads f.one.0)) goes_on.0 ∙ f.is)) (inl shares);
            })
            (λ (first_look : LookedFirst x.place). absurd (not_looking x.place between_lines first_look))
            (are_requested theirs.j x o theirs.has (sym is.explicit ∙ goes_on.0) (sym is.end ∙ goes_on.1) (record { hold = lock; has = subst (λ (m : ℕ). In lock (c.holds m)) e there; mine = sym theirs.mine }))
          where
            shares : whole S ≡ lock.request
            shares = shares_only (v.reads was.statement.0) lock.request (subst (λ (b : Bool). In lock.request (of_catalog (requests_catalog b (v.reads was.statement.0)))) (sym was.asked.by_begin ∙ goes_on.0) wanted)
        by_script (suc m) e wanted = said (in_map (λ l. l.0) (o.script ++ lines_at x.place) was.statement.0 (each_in (λ a. a.1 ≡ true → In a.0 (texts_so_far x o)) d.asked was.statement (is.asked (sym is.end ∙ goes_on.1)) was.asked.asked wanted.0))
          where
            in_script : (line : Line) → In line o.script ⊎ In line (lines_at x.place) → In line o.script
            in_script line (inl a) = a
            in_script line (inr a) = absurd (subst (In line) (no_lines x.place between_lines) a)

            said : Made (λ (l : Line). l.0) (o.script ++ lines_at x.place) was.statement.0 → IsTheirs (suc m) lock
            said a = record {
              statement = statement_of (view d) a.of;
              has = of_line a.of (in_script a.of (in_append a.of o.script (lines_at x.place) a.has));
              tx = was.asked.is;
              wanted = (refl, subst (λ (text : Text). In lock.request (of_cell (suc m) (requests_cell D (v.reads text)))) (sym a.is) wanted.1);
            }

        pub is_theirs : IsTheirs i lock
        is_theirs = by_script i refl was.wanted
