-- Acts of the session that has a transaction: what it asks for by them.
use Rattle.std.proofs.Common.{◌≡◌, ℕ, Bool, true, false, List, [], ◌∷◌, ◌++◌, map, Some, refl, sym, ap, ◌∙◌, subst, inl, append_assoc}
use Rattle.sql_types.specs.declared.reply.Reply.{Reply}
use Rattle.spec_model.specs.Journals.{Line}
use Rattle.spec_model.specs.Replies.{reply_text}
use Rattle.spec_history.specs.Lists.{Text, Each}
use Rattle.spec_history.specs.Guards.{Good}
use Rattle.spec_history.specs.Transactions.{on_some}
use Rattle.spec_history.specs.Acts.{SessionAct, by, looks, says}
use Rattle.spec_history.specs.Sessions.{SessionTransaction, SessionState, asks, scripts}
use Rattle.spec_history.specs.Worlds.{World, first, run, step}
use Rattle.spec_history.proofs.Cuts.{good_append, run_append}
use Rattle.spec_protocol.specs.Server.{Server}
use Rattle.spec_protocol.specs.Cells.{Cell}
use Rattle.spec_protocol.specs.Seats.{OpenTransaction, SeatState, Session}
use Rattle.spec_protocol.specs.ActsOf.{done_acts}
use Rattle.spec_protocol.specs.LocksWereAsked.{WasAsked}
use Rattle.spec_protocol.specs.StandTogether.{History, Stands, StandsAfter}
use Rattle.law_protocol_steps.proofs.AskedMore.{NotFree, asked_by_all}
use Rattle.law_protocol_steps.proofs.OneMore.{by_each}
use Rattle.law_protocol_steps.proofs.AnonymousActs.{at_after}
use Rattle.law_protocol_steps.proofs.GoesOn.{each_so, one_number}
use Rattle.law_protocol_steps.proofs.Ids.{InTransaction}
use Rattle.spec_history.specs.Meaning.{Meaning}
use Rattle.spec_protocol.specs.Parts.{Numbers}

-- the sessions of a history
abbrev pub sessions_at : History → ℕ → SessionState
sessions_at h = (run first h).at

-- this is the session that has the transaction
pub record IsOf (h : History) (session id : ℕ) (explicit : Bool) : Type 0 where
  pub transaction : SessionTransaction
  pub has : ((run first h).at session).transaction ≡ Some transaction
  pub id_is : transaction.id ≡ id
  pub by_begin : transaction.explicit ≡ explicit

module _ (h : History) (n id : ℕ) (explicit : Bool) (of : IsOf h n id explicit) where
  after_one : (act : SessionAct) → sessions_at (h ++ by n act ∷ []) ≡ (step (run first h) (by n act)).at
  after_one act = ap (λ (z : World). z.at) (run_append first h (by n act ∷ []))

  pub looked_for : (text : Text) (table : Bool) → WasAsked (sessions_at (h ++ by n (looks text table) ∷ [])) id explicit (text, table)
  looked_for text table = record {
    session = n;
    transaction = asks text table of.transaction;
    has = ap (λ (at : ℕ → SessionState). (at n).transaction) (after_one (looks text table)) ∙ ap (λ (x : SessionState). x.transaction) (at_after (run first h) n (looks text table)) ∙ ap (on_some (asks text table)) of.has;
    is = of.id_is;
    by_begin = of.by_begin;
    asked = inl refl;
  }

  pub said_for : (line : Line) → WasAsked (sessions_at (h ++ by n (says line) ∷ [])) id explicit (line.0, true)
  said_for line = record {
    session = n;
    transaction = scripts line of.transaction;
    has = ap (λ (at : ℕ → SessionState). (at n).transaction) (after_one (says line)) ∙ ap (λ (x : SessionState). x.transaction) (at_after (run first h) n (says line)) ∙ ap (on_some (scripts line)) of.has;
    is = of.id_is;
    by_begin = of.by_begin;
    asked = inl refl;
  }

  -- a statement of rows that is done has asked for all its locks
  pub done_for : (b : Bool) (text : Text) (r : Reply) → WasAsked (sessions_at (h ++ map (by n) (done_acts b text true r))) id explicit (text, true)
  done_for true text r = said_for (text, reply_text r)
  done_for false text r = looked_for text true

  -- and so it has after more acts that don't free it
  pub looked_then : (q : Meaning) (db : Text) (text : Text) (table : Bool) (more : List SessionAct) → Each NotFree more → Good q db first (h ++ by_each n (looks text table ∷ more)) → WasAsked (sessions_at (h ++ by_each n (looks text table ∷ more))) id explicit (text, table)
  looked_then q db text table more kept good = subst (λ (z : World). WasAsked z.at id explicit (text, table)) (sym (run_append first h (by_each n (looks text table ∷ more))))
      (asked_by_all q db (step (run first h) (by n (looks text table))) n more kept (good_append q db first h (by_each n (looks text table ∷ more)) good).1.1 id explicit (text, table)
      (subst (λ (at : ℕ → SessionState). WasAsked at id explicit (text, table)) (after_one (looks text table)) (looked_for text table)))

-- that of a seat's transaction is its session
pub its_session : (q : Meaning) (h : History) (m : Numbers) (x : Session) (o : OpenTransaction) (d : InTransaction q h m x o) → IsOf h d.runs.number o.id o.explicit
its_session q h m x o d = record { transaction = d.transaction; has = d.has; id_is = d.is.id; by_begin = d.is.explicit }

-- they stand together once this session did these acts
pub record StandsBy (v : Server) (j : ℕ) (history : History) (id : ℕ) (explicit : Bool) (acts : List SessionAct) (cells : List Cell) (seats : List SeatState) : Type 0 where
  pub session : ℕ
  pub of : IsOf history session id explicit
  pub stands : Stands v (history ++ map (by session) acts) cells seats
  pub mine : stands.transcripts_agree.owner session ≡ j

abbrev pub by_any : {v : Server} {j : ℕ} {history : History} {id : ℕ} {explicit : Bool} {acts : List SessionAct} {cells : List Cell} {seats : List SeatState} → StandsBy v j history id explicit acts cells seats → StandsAfter v j history acts cells seats
by_any {acts = acts} b = record { session = b.session; stands = b.stands; mine = each_so acts b.mine }

-- known by its number
pub by_number : (q : Meaning) (h : History) (m : Numbers) (x : Session) (o : OpenTransaction) (d : InTransaction q h m x o) (n : ℕ) → m.now ≡ Some n → IsOf h n o.id o.explicit
by_number q h m x o d n e = subst (λ (k : ℕ). IsOf h k o.id o.explicit) (one_number d.runs.number n d.runs.is e) (its_session q h m x o d)

-- one act, and others behind it
pub first_by : (v : Server) {j : ℕ} (history : History) (n id : ℕ) (explicit : Bool) → IsOf history n id explicit → {a : SessionAct} {acts : List SessionAct} {cells : List Cell} {seats : List SeatState}
    (st : StandsAfter v j (history ++ by n a ∷ []) acts cells seats) → st.stands.transcripts_agree.owner st.session ≡ j → st.session ≡ n → StandsBy v j history id explicit (a ∷ acts) cells seats
first_by v {j} history n id explicit of {a} {acts} {cells} {seats} st own e = record {
  session = st.session;
  of = subst (λ (m : ℕ). IsOf history m id explicit) (sym e) of;
  stands = both.0;
  mine = both.1;
}
  where
    both : (x : Stands v (history ++ (by st.session a ∷ map (by st.session) acts)) cells seats) × (x.transcripts_agree.owner st.session ≡ j)
    both = subst (λ (h : History). (x : Stands v h cells seats) × (x.transcripts_agree.owner st.session ≡ j)) (append_assoc history (by st.session a ∷ []) (map (by st.session) acts))
        (subst (λ (m : ℕ). (x : Stands v ((history ++ by m a ∷ []) ++ map (by st.session) acts) cells seats) × (x.transcripts_agree.owner st.session ≡ j)) (sym e) (st.stands, own))
