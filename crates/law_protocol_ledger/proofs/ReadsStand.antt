-- The visit in which the point is read at which a transaction ends that isn't committed.
use Rattle.std.proofs.Common.{◌≡◌, ℕ, zero, suc, ◌≤◌, not, Bool, true, false, List, [], ◌∷◌, ◌++◌, map, Option, Some, None, slice_set, refl, sym, ap, ◌∙◌, subst, subst₂, append-nil, arith}
use mathlib.Core.Option.{some}
use lib.ListN.{get_elem?}
use Rattle.sql_types.specs.declared.journal.JournalItem.{JournalItem}
use Rattle.sql_types.specs.declared.journal.JournalItem.TheVariants.{Tx, Close}
use Rattle.sql_types.specs.declared.reply.Reply.{Reply}
use Rattle.sql_types.specs.declared.reply.Reply.TheVariants as reply
use Rattle.sql_value.specs.declared.refusal.Refusal.TheVariants.{NoMemory}
use Rattle.spec_model.specs.Catalog.{Tables, defs_of, versions_of}
use Rattle.spec_model.specs.Events.{all_events}
use Rattle.spec_model.specs.Journals.{Line, tx_count, upto, serial_from, after_item}
use Rattle.spec_model.specs.Replies.{reply_text}
use Rattle.spec_model.specs.Runs.{Sound}
use Rattle.spec_model.specs.Script.{Reading, script}
use Rattle.spec_model.specs.SystemTables.{first_tables}
use Rattle.law_frame.proofs.Definitions.{nothing_done}
use Rattle.law_frame.proofs.NoEvents as before
use Rattle.law_frame.proofs.OtherTransactions.{others_sound}
use Rattle.law_frame.proofs.LegalSound.{legal_sound}
use Rattle.spec_history.specs.Lists.{Text, Each, In}
use Rattle.spec_history.specs.Refusals.{EndsAt}
use Rattle.spec_history.specs.Transactions.{unfixed, ended}
use Rattle.spec_history.specs.Acts.{SessionAct, by}
use Rattle.spec_protocol.specs.Server.{Server}
use Rattle.spec_protocol.specs.Cells.{LedgerCell, Cell, Ledger, ledger_at, catalog_at}
use Rattle.spec_protocol.specs.Contents.{Contents, Known, contents, known, HasAlone}
use Rattle.spec_protocol.specs.Seats.{answering, SessionStatus, inside, leaving, OpenTransaction, Session, session, SeatState}
use Rattle.spec_protocol.specs.OpenOnes.{HasOpen, text_at, lines_at, script_so_far, texts_so_far, script_end}
use Rattle.spec_protocol.specs.EventsIn.{events_in}
use Rattle.spec_protocol.specs.RequestsIn.{requests_in, Holds}
use Rattle.spec_protocol.specs.OpenScripts.{IsOfItsScript, events_counted, counted}
use Rattle.spec_protocol.specs.LocksCover.{KeepsLocks, HasLock, IsGotAt, IsDropping, LookedAt}
use Rattle.spec_protocol.specs.TranscriptsAgree.{TranscriptsAgree}
use Rattle.sql_types.specs.declared.statement.Stmt.{Stmt}
use Rattle.sql_types.specs.declared.table.TableDef.{TableDef}
use Rattle.spec_history.specs.Transcripts.{kind_of}
use Rattle.spec_history.specs.Facts.{said, failed, passed}
use Rattle.spec_protocol.specs.Parts.{asking}
use Rattle.spec_protocol.specs.Seats.{StatementProgress, begun, replied, made}
use Rattle.spec_protocol.specs.TranscriptsSoFar.{image_in, shown_alone}
use Rattle.law_protocol_steps.proofs.TranscriptActs.{GoesFrom}
use Rattle.law_protocol_steps.proofs.TranscriptProgress.{from_at, fits_if, at_read_only_commit, at_roll_back, at_leaving, at_said, at_own_end, at_fail_end}
use Rattle.spec_protocol.specs.StandTogether.{History, Stands, StandsAfter}
use Rattle.spec_protocol.specs.Moves.{saying, ending, at_place, sits, marking}
use Rattle.spec_protocol.specs.LedgerVisits.{is_read_only, Ends, commits_nothing, rolls_back, leaves, did_nothing, was_refused, lacks_memory, lacks_index, ReadsPoint}
use Rattle.law_protocol_steps.proofs.AssignsId.{at_own, others_in_journal}
use Rattle.law_protocol_ledger.proofs.EndsHistory.{ends_act, fails_ends_act, ends_by}
use Rattle.law_protocol_steps.proofs.FreshIds.{events_of_touched}
use Rattle.law_protocol_steps.proofs.Ids.{below, others}
use Rattle.law_protocol_steps.proofs.LedgerVisit.{the_ledger, ledger_after}
use Rattle.law_protocol_steps.proofs.OpenSeats.{Own}
use Rattle.law_protocol_steps.proofs.OthersScripts.{sound_for}
use Rattle.spec_protocol.proofs.Places.{set_here, set_again}
use Rattle.law_protocol_ledger.proofs.QuietOnes.{no_events, none_at_all}
use Rattle.law_protocol_changes.proofs.SaysHistory.{told}
use Rattle.law_protocol_steps.proofs.Turns.{MayHoldLock, StillStands, Owes, Turns}
use Rattle.spec_protocol.specs.RowsAgree.{GoesBackTo, IsExplicitAt}
use Rattle.spec_protocol.specs.TablesAreSerial.{HasActed, HasAdded}
use Rattle.law_protocol_steps.proofs.PlainPlaces.{IsBare, not_back, not_dropping, of_either}
use Rattle.law_protocol_steps.proofs.AloneTurns.{bare}
use Rattle.spec_protocol.specs.ActsOf.{end_acts}
use Rattle.law_protocol_steps.proofs.GoesOn.{Owned, ActsBy, then_more}
use Rattle.spec_history.specs.Acts as act

-- ---- lists

each_front : (P : Line → Type 0) (xs ys : List Line) → Each P (xs ++ ys) → Each P xs
each_front P [] ys h = tt
each_front P (x ∷ xs) ys h = (h.0, each_front P xs ys h.1)

-- the tables after all transactions are those of the journal
module _ (reads : Reading) where
  upto_all : (T : Tables) (J : List JournalItem) → serial_from reads T (upto J (tx_count J)) ≡ serial_from reads T J
  unfolding serial_from
  upto_all T [] = refl
  upto_all T (Tx id name time explicit lines ∷ is) = upto_all (after_item reads T (Tx id name time explicit lines)) is
  upto_all T (Close k ∷ is) = by_count (tx_count is) refl (upto_all T is)
    where
      by_count : (n : ℕ) → tx_count is ≡ n → serial_from reads T (upto is (tx_count is)) ≡ serial_from reads T is → serial_from reads T (upto (Close k ∷ is) n) ≡ serial_from reads T is
      by_count zero e h = ap (λ (m : ℕ). serial_from reads T (upto is m)) (sym e) ∙ h
      by_count (suc n) e h = ap (λ (m : ℕ). serial_from reads T (upto is m)) (sym e) ∙ h

-- ---- how a transaction ends

-- the script and the place then, beside those from before
pub record EndsSo (v : Server) (x : Session) (o : OpenTransaction) (ls : List Line) (place : SessionStatus) : Type 1 where
  pub same_text : text_at x.place ≡ text_at place
  pub cover : (P : Line → Type 0) → Each P (script_so_far x o) → Each P (ls ++ lines_at place)
  pub got : (T : Tables) (E : Type 0) (b : Bool) → IsGotAt v T E b x.place → IsGotAt v T E b place
  pub acted : HasActed x.place → HasActed place
  pub adding : (after : TableDef) (q : OpenTransaction) → HasAdded x.place o after → HasAdded place q after
  pub dropping : (q : OpenTransaction) → IsDropping place q → (text : Text) × (def : TableDef) × (b : Bool) × (x.place ≡ inside text (made def b))
  pub back : (n : ℕ) → GoesBackTo place n
  pub either : (b : Bool) → IsExplicitAt place b

module _ (v : Server) (x : Session) (o : OpenTransaction) where
  -- with the script as it is
  as_is : (place : SessionStatus) → IsBare place → (HasActed x.place → HasActed place) → ((after : TableDef) → HasAdded x.place o after → ⊥) → text_at x.place ≡ text_at place → lines_at place ≡ [] → ((T : Tables) (E : Type 0) (b : Bool) → IsGotAt v T E b x.place → IsGotAt v T E b place) → EndsSo v x o o.script place
  as_is place bare acted adds same none got = record {
    same_text = same;
    cover = λ P h. subst (Each P) (sym (append-nil o.script) ∙ ap (λ (ls : List Line). o.script ++ ls) (sym none)) (each_front P o.script (lines_at x.place) h);
    got = got;
    acted = acted;
    adding = λ after q a. absurd (adds after a);
    dropping = λ q d. absurd (not_dropping place q bare d);
    back = λ n. not_back place n bare;
    either = λ b. of_either place b bare;
  }

  so : (back : Bool) (ls : List Line) (place : SessionStatus) → Ends v x o back ls place → EndsSo v x o ls place
  so _ _ _ (commits_nothing text by_begin at is quiet) = as_is (inside text (answering reply.NoOutput None)) tt (λ a. tt) (λ after a. subst (λ z. HasAdded z o after) at a) (ap text_at at) refl (λ T E b g. tt)
  so _ _ _ (rolls_back text by_begin at is) = as_is (inside text (answering reply.NoOutput None)) tt (λ a. tt) (λ after a. subst (λ z. HasAdded z o after) at a) (ap text_at at) refl (λ T E b g. tt)
  so _ _ _ (leaves by_begin at) = as_is leaving tt (λ a. subst HasActed at a) (λ after a. subst (λ z. HasAdded z o after) at a) (ap text_at at) refl (λ T E b g. tt)
  so _ _ _ (did_nothing text r alone at quiet) = record {
    same_text = ap text_at at;
    cover = λ P h. subst (Each P) (sym (append-nil (script_so_far x o))) h;
    got = λ T E b g. tt;
    acted = λ a. tt;
    adding = λ after q a. absurd (subst (λ z. HasAdded z o after) at a);
    dropping = λ q d. absurd d;
    back = λ n. tt;
    either = λ b. tt;
  }
  so _ _ _ (was_refused text r alone at) = as_is (inside text (answering r None)) tt (λ a. tt) (λ after a. subst (λ z. HasAdded z o after) at a) (ap text_at at) refl (λ T E b g. tt)
  so _ _ _ (lacks_memory text r alone at) = as_is (inside text (answering (reply.Refused NoMemory) None)) tt (λ a. tt) (λ after a. subst (λ z. HasAdded z o after) at a) (ap text_at at) refl (λ T E b g. tt)
  so _ _ _ (lacks_index text def indexed alone at) = record {
    same_text = ap text_at at;
    cover = λ P h. subst (Each P) (sym (append-nil o.script)) (each_front P o.script (lines_at x.place) h);
    got = λ T E b g. subst (IsGotAt v T E b) at g;
    acted = λ a. tt;
    adding = λ after q a. was_added indexed after (subst (λ z. HasAdded z o after) at a);
    dropping = λ q d. (text, def, indexed, at);
    back = λ n. tt;
    either = λ b. tt;
  }
    where
      was_added : (b : Bool) (after : TableDef) → HasAdded (inside text (made def b)) o after → def ≡ after
      was_added true after a = a.0
      was_added false after a = absurd a

module _ (v : Server) (cells : List Cell) (seats : List SeatState) {history : History} (st : Stands v history cells seats) (j : ℕ) (s : SeatState) (there : get_elem? seats j ≡ some s)
    (x : Session) (role : s.role ≡ session x) (o : OpenTransaction) (open_one : x.open_one ≡ Some o) (open_end : o.end ≡ unfixed) where
  abbrev ledger : LedgerCell
  ledger = st.ledger

  abbrev c : Contents
  c = contents cells

  abbrev k : Known
  k = known v.reads ledger.items

  abbrev count : ℕ
  count = tx_count ledger.items

  has : HasOpen seats j x o
  has = record { seat = s; there = there; role = role; open_one = open_one }

  its : IsOfItsScript v c k.tables x o
  its = st.open_scripts j x o has open_end

  -- ---- the seat

  module _ (back : Bool) (ls : List Line) (place : SessionStatus) (e : EndsSo v x o ls place) where
    abbrev q : OpenTransaction
    q = ending (ended count back) ls o

    abbrev y : Session
    y = at_place (Some q) place x

    abbrev t : SeatState
    t = marking count (sits s y)

    own : (P : Session → OpenTransaction → Type 0) → P y q → (z : Session) (u : OpenTransaction) → Own t z u → P z u
    own P h = at_own t y q P refl refl h

    was : (P : Session → OpenTransaction → Type 0) → P x o → (z : Session) (u : OpenTransaction) → Own s z u → P z u
    was P h = at_own s x o P role open_one h

    is_fixed : (z : Session) (u : OpenTransaction) → Own t z u → u.end ≡ unfixed → ⊥
    is_fixed = own (λ z u. u.end ≡ unfixed → ⊥) (λ e. let f : ended count back ≡ unfixed = e in cc)

    abbrev new : Own t y q
    new = record { role = refl; open_one = refl }

    abbrev Covered : Session → OpenTransaction → Type 0
    Covered z u = (i : ℕ) → KeepsLocks u i → Each (λ l. Each (Holds (c.holds i) u.id) (requests_in v (defs_of k.tables) u.explicit i l.0)) (script_so_far z u)

    pub ends_turn : Turns v c k st.catalog.defs s t
    ends_turn = record {
      came = λ i h l w. record { x = x; o = o; own = record { role = role; open_one = open_one }; is = own (λ z u. u.id ≡ h.tx → o.id ≡ h.tx) (λ f. f) w.x w.o w.own w.is };
      locks = λ i h l w. was (λ z u. u.id ≡ h.tx → In i u.visited → (In i u.released → ⊥) → MayHoldLock t i h)
          (λ mine visited free. record { x = y; o = q; own = new; mine = mine; visited = visited; unreleased = free })
          w.x w.o w.own w.mine w.visited w.unreleased;
      stands = λ z u text w alone out exclusive stands acted. was (λ a b. b.explicit ≡ false → text_at a.place ≡ Some text → HasActed a.place → StillStands t a b text)
          (λ f g h. record { y = y; p = q; own = new; is = refl; alone = f; stands = sym e.same_text ∙ g; acted = e.acted h; adding = λ after i a. record { added = e.adding after q a.added; visited = a.visited; unreleased = a.unreleased } })
          z u w alone stands acted;
      script = λ z u w f. absurd (is_fixed z u w f);
      trees = λ z u w f. absurd (is_fixed z u w f);
      cover = own Covered (λ i free. e.cover (λ l. Each (Holds (c.holds i) o.id) (requests_in v (defs_of k.tables) o.explicit i l.0)) (st.locks_cover.cover j x o has i free));
      unreleased = λ z u w f. absurd (is_fixed z u w f);
      looked = λ z u w f. absurd (is_fixed z u w f);
      definitions = λ z u n w f l. own (λ a b. EndsAt b.end n → defs_of k.tables ≡ defs_of (k.after n)) (λ (g : count ≡ n). ap defs_of (sym (upto_all v.reads first_tables ledger.items)) ∙ ap (λ (i : ℕ). defs_of (k.after i)) g) z u w f;
      got = λ z u w l. own (λ a b. HasLock c catalog_at b.id → IsGotAt v k.tables (HasAlone c b.id) (not (k.has b.id)) a.place) (λ l. e.got k.tables (HasAlone c o.id) (not (k.has o.id)) (st.locks_cover.got j x o has l)) z u w l;
      owes = own (Owes v c k st.catalog.defs) (record {
        carried = λ f. absurd (is_fixed y q new f);
        indexed = λ f. absurd (is_fixed y q new f);
        looked_first = λ f. absurd (is_fixed y q new f);
        dropping = λ d. let w = e.dropping q d in alone_at w.0 w.1 w.2 w.3;
        own = λ f. absurd (is_fixed y q new f);
        before = λ f. absurd (is_fixed y q new f);
        back = e.back o.seq;
        explicit = e.either o.explicit;
      });
    }
      where
        -- where a CREATE INDEX made its rows it has the catalog alone
        alone_at : (text : Text) (def : TableDef) (b : Bool) → x.place ≡ inside text (made def b) → HasAlone c o.id
        alone_at text def b at = let looked = subst (LookedAt v c (defs_of k.tables) o.id o.explicit) at (st.locks_cover.looked j x o has open_end) in
            (subst (IsGotAt v k.tables (HasAlone c o.id) (not (k.has o.id))) at (st.locks_cover.got j x o has looked.lock)).2

  -- ---- what it left

  abbrev left : Tables
  left = (script_end v k.tables x o).state.tables

  abbrev sound : Sound o.id 0 k.tables
  sound = sound_for v cells seats st j x o has open_end

  -- with no leaf in its trees there is no event
  quiet_left : is_read_only o ≡ true → all_events o.id left ≡ []
  quiet_left quiet = none_at_all o.id left none_there sound_left.ids
    where
      none_there : (id : ℕ) → 1 ≤ id → events_in o.id id (versions_of left id) ≡ []
      none_there id l = events_of_touched o.id id (versions_of left id) ∙ ap (events_in o.id id) (sym (its.versions id l)) ∙ sym (events_of_touched o.id id (counted o.id id x.place (c.versions id)))
          ∙ no_events v (events_counted c x o) o.trees (st.trees_are_of_events j x o has open_end).trees quiet id l

      next_sound : Sound ledger.next 0 k.tables
      next_sound = legal_sound v.reads ledger.items ledger.next st.ledger_is_legal.legal (others ledger.next ledger.items (others_in_journal v cells seats st))

      sound_left : Sound ledger.next 0 left
      sound_left = others_sound o.id ledger.next 0 (λ e. let l = below v history ledger seats st.transcripts_agree j x o has in absurd (omega arith)) v.reads o.explicit k.tables (texts_so_far x o) sound next_sound

  -- ---- the history

  pub record AgreesAt (acts : List SessionAct) (us : List SeatState) : Type 0 where
    pub session : ℕ
    pub agree : TranscriptsAgree v (history ++ map (by session) acts) ledger us
    pub own : agree.owner session ≡ j

  at_history : (n : ℕ) (acts : List SessionAct) (us : List SeatState) → Owned v (history ++ map (by n) acts) ledger us n j → AgreesAt acts us
  at_history n acts us a = record { session = n; agree = a.0; own = a.1 }

  abbrev then_seats : Bool → List Line → SessionStatus → List SeatState
  then_seats back ls place = slice_set seats j (marking count (sits s (at_place (Some (ending (ended count back) ls o)) place x)))

  abbrev replies_with : List Line → Type 0
  replies_with ls = map (λ l. l.1) ls ≡ map reply_text (script v.reads o.explicit k.tables o.id (map (λ l. l.0) ls)).replies

  abbrev none_with : List Line → Type 0
  none_with ls = all_events o.id (script v.reads o.explicit k.tables o.id (map (λ l. l.0) ls)).state.tables ≡ []

  abbrev ended_at : Bool → List Line → SessionStatus → Session
  ended_at back ls place = at_place (Some (ending (ended count back) ls o)) place x

  -- the script as it is
  by_script : (back : Bool) (place : SessionStatus) → text_at x.place ≡ text_at place → asking x.place ≡ [] → GoesFrom v.meaning x (ended_at back o.script place) (passed count back ∷ []) → replies_with o.script → (back ≡ false → none_with o.script) → AgreesAt (act.ends count back ∷ []) (then_seats back o.script place)
  by_script back place same none_asked goes replies quiet = at_history _ _ _ (ends_act v ledger seats history st.transcripts_agree j s there x role o open_one open_end back place same none_asked goes replies quiet)

  no_lines : lines_at x.place ≡ [] → script_so_far x o ≡ o.script
  no_lines e = ap (λ (ls : List Line). o.script ++ ls) e ∙ append-nil o.script

  nothing_with : o.script ≡ [] → replies_with o.script × none_with o.script
  nothing_with e = subst (λ (ls : List Line). replies_with ls × none_with ls) (sym e)
      (let same = nothing_done v.reads o.explicit k.tables o.id in (ap (λ z. map reply_text z.replies) (sym same), ap (λ z. all_events o.id z.state.tables) same ∙ before.no_events o.id k.tables sound.each))

  -- the statement was answered NoMemory first
  by_failure : (text : Text) (stage : StatementProgress) (def : Option TableDef) → x.place ≡ inside text stage → o.explicit ≡ false → image_in stage ≡ 0 → shown_alone v.meaning text stage ≡ [] → AgreesAt (act.fails text ∷ act.ends count false ∷ []) (then_seats false o.script (inside text (answering (reply.Refused NoMemory) def)))
  by_failure text stage def at own none_shown nothing = let none = its.alone own in
      at_history _ _ _ (fails_ends_act v ledger seats history st.transcripts_agree j s there x role o open_one open_end text (ap text_at at) (inside text (answering (reply.Refused NoMemory) def)) refl none
      (from_at v.meaning x (ended_at false o.script (inside text (answering (reply.Refused NoMemory) def))) (inside text stage) (Some o) (failed text ∷ passed count false ∷ []) at open_one refl
      (λ n i f. at_fail_end v.meaning n text o stage def count o.script own open_end none_shown nothing (fits_if v.meaning n text stage o false own f).0))
      (nothing_with none).0 (nothing_with none).1)

  -- the statement is said first
  by_line : (text : Text) (r : Reply) → x.place ≡ inside text (replied r) → o.explicit ≡ false → is_read_only o ≡ true → AgreesAt (act.says (text, reply_text r) ∷ act.ends count false ∷ []) (then_seats false (script_so_far x o) (inside text (answering r None)))
  by_line text r at own quiet = let line : Line = (text, reply_text r) in let counts : lines_at x.place ≡ line ∷ [] = ap lines_at at in let e : script_so_far x o ≡ o.script ++ line ∷ [] = ap (λ (ls : List Line). o.script ++ ls) counts in
      let x1 : Session = at_place (Some (saying line o)) (inside text (answering r None)) x in let s1 : SeatState = sits s x1 in
      let y1 : Session = at_place (Some (ending (ended count false) (o.script ++ line ∷ []) (saying line o))) (inside text (answering r None)) x1 in
      let t1 : SeatState = marking count (sits s1 y1) in
      let said_it : ActsBy v history (act.says line ∷ []) ledger (slice_set seats j s1) j = told v ledger seats history st.transcripts_agree j s there x role o open_one open_end its.alone line (λ a i. subst (λ (ls : List Line). In a (map (λ l. l.0) (o.script ++ ls))) counts i) (ap text_at at) (answering r None)
      (from_at v.meaning x x1 (inside text (replied r)) (Some o) (said line ∷ []) at open_one refl (λ n i z. let g = fits_if v.meaning n text (replied r) o false own z in
      at_said v.meaning n text r o (replied r) (reply_text r) own (v.real.writes r) refl refl open_end g.0 g.1.0 g.1.1)) in
      subst (AgreesAt (act.says line ∷ act.ends count false ∷ [])) (set_again seats j s1 t1 ∙ ap (λ (ls : List Line). then_seats false ls (inside text (answering r None))) (sym e))
      (at_history said_it.session (act.says line ∷ act.ends count false ∷ []) (slice_set (slice_set seats j s1) j t1)
      (then_more v history (by said_it.session (act.says line) ∷ []) (by said_it.session (act.ends count false) ∷ []) _ _
      (ends_by v ledger (slice_set seats j s1) _ said_it.agree j s1 (set_here seats j s1 s there) x1 refl (saying line o) refl open_end false (inside text (answering r None)) refl refl
      (from_at v.meaning x1 y1 (inside text (answering r None)) (Some (saying line o)) (passed count false ∷ []) refl refl refl (λ n i f. at_own_end v.meaning n text r None (saying line o) (ended count false) (o.script ++ line ∷ []) own open_end refl f))
      (subst replies_with e its.replies) (λ f. subst none_with e (quiet_left quiet)) said_it.session said_it.now)))

  kind_at : (text : Text) (d : Stmt) → v.reads text ≡ Some d → kind_of (v.meaning.reads text) ≡ kind_of (Some d)
  kind_at text d is = ap kind_of (v.real.reading text ∙ is)

  then_agree : (back : Bool) (ls : List Line) (place : SessionStatus) → (e : Ends v x o back ls place) → AgreesAt (end_acts e count) (then_seats back ls place)
  then_agree _ _ _ (commits_nothing text by_begin at is quiet) = let e = no_lines (ap lines_at at) in by_script false (inside text (answering reply.NoOutput None)) (ap text_at at) (ap asking at)
      (from_at v.meaning x (ended_at false o.script (inside text (answering reply.NoOutput None))) (inside text begun) (Some o) (passed count false ∷ []) at open_one refl (λ n i f. at_read_only_commit v.meaning n text o count o.script by_begin open_end (kind_at text _ is)))
      (subst replies_with e its.replies) (λ f. subst none_with e (quiet_left quiet))
  then_agree _ _ _ (rolls_back text by_begin at is) = let e = no_lines (ap lines_at at) in by_script true (inside text (answering reply.NoOutput None)) (ap text_at at) (ap asking at)
      (from_at v.meaning x (ended_at true o.script (inside text (answering reply.NoOutput None))) (inside text begun) (Some o) (passed count true ∷ []) at open_one refl (λ n i f. at_roll_back v.meaning n text o count o.script by_begin open_end (kind_at text _ is)))
      (subst replies_with e its.replies) (λ f. cc)
  then_agree _ _ _ (leaves by_begin at) = let e = no_lines (ap lines_at at) in by_script true leaving (ap text_at at) (ap asking at)
      (from_at v.meaning x (ended_at true o.script leaving) leaving (Some o) (passed count true ∷ []) at open_one refl (λ n i f. at_leaving v.meaning n o count o.script by_begin open_end))
      (subst replies_with e its.replies) (λ f. cc)
  then_agree _ _ _ (did_nothing text r alone at quiet) = by_line text r at alone quiet
  then_agree _ _ _ (was_refused text r alone at) = by_script false (inside text (answering r None)) (ap text_at at) (ap asking at)
      (from_at v.meaning x (ended_at false o.script (inside text (answering r None))) (inside text (answering r None)) (Some o) (passed count false ∷ []) at open_one refl (λ n i f. at_own_end v.meaning n text r None o (ended count false) o.script alone open_end refl f))
      (nothing_with (its.alone alone)).0 (λ f. (nothing_with (its.alone alone)).1)
  then_agree _ _ _ (lacks_memory text r alone at) = by_failure text (replied r) None at alone refl refl
  then_agree _ _ _ (lacks_index text def indexed alone at) = by_failure text (made def indexed) (Some def) at alone refl refl

  pub read_stands : (back : Bool) (ls : List Line) (place : SessionStatus) → (e : Ends v x o back ls place) → StandsAfter v j history (end_acts e count) (slice_set cells ledger_at (Ledger ledger)) (then_seats back ls place)
  read_stands back ls place e = let a = then_agree back ls place e in
      ledger_after v cells seats st j s (marking count (sits s (at_place (Some (ending (ended count back) ls o)) place x))) there ledger refl a.session st.ledger_is_legal (ends_turn back ls place (so v x o back ls place e)) a.agree a.own

-- Reading the point keeps cells and seats standing together.
pub reads_stand : (v : Server) (cells : List Cell) (seats : List SeatState) {history : History} → Stands v history cells seats → (j : ℕ) (s : SeatState) → get_elem? seats j ≡ some s
    → (c d : LedgerCell) (t : SeatState) → get_elem? cells ledger_at ≡ some (Ledger c) → (w : ReadsPoint v c s t) → d ≡ c
    → StandsAfter v j history (end_acts w.ends (tx_count c.items)) (slice_set cells ledger_at (Ledger d)) (slice_set seats j t)
reads_stand v cells seats {history} st j s there c d t here = subst (λ (e : LedgerCell). (w : ReadsPoint v e s t) → d ≡ e → StandsAfter v j history (end_acts w.ends (tx_count e.items)) (slice_set cells ledger_at (Ledger d)) (slice_set seats j t))
    (sym (the_ledger cells st.catalog st.ledger c st.are_cells here)) from
  where
    from : (w : ReadsPoint v st.ledger s t) → d ≡ st.ledger → StandsAfter v j history (end_acts w.ends (tx_count st.ledger.items)) (slice_set cells ledger_at (Ledger d)) (slice_set seats j t)
    from w same = subst₂ (λ (l : LedgerCell) (u : SeatState). StandsAfter v j history (end_acts w.ends (tx_count st.ledger.items)) (slice_set cells ledger_at (Ledger l)) (slice_set seats j u)) (sym same) (sym w.seat)
        (read_stands v cells seats st j s there w.x w.role w.o w.open_one w.unfixed w.back w.script w.place w.ends)
