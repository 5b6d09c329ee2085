-- A statement of a transaction that BEGIN opened is said: what its script comes to, and the history.
use Rattle.std.proofs.Common.{◌≡◌, ℕ, ◌≤◌, not, Bool, true, false, List, [], ◌∷◌, ◌++◌, map, Option, Some, None, slice_set, refl, sym, ap, ◌∙◌, subst, inl, inr, ⊎_elim, append-nil}
use Rattle.std.proofs.lemmas.List.{map-append}
use mathlib.Core.Option.{some}
use lib.ListN.{get_elem?}
use Rattle.sql_types.specs.declared.reply.Reply.{Reply}
use Rattle.sql_types.specs.declared.event.Event.{Event as RowEvent}
use Rattle.sql_types.specs.declared.version.Version.{Version}
use Rattle.spec_model.specs.Catalog.{Tables, defs_of, versions_of}
use Rattle.spec_model.specs.Journals.{Line}
use Rattle.spec_model.specs.Replies.{reply_text}
use Rattle.spec_model.specs.Script.{ScriptEnd, State, start, script, text_step}
use Rattle.spec_model.specs.Touched.{touched}
use Rattle.spec_history.specs.Lists.{Text, Each, In}
use Rattle.spec_history.specs.Facts.{said}
use Rattle.spec_history.specs.Transactions.{unfixed, on_some}
use Rattle.spec_history.specs.Acts.{says, by}
use Rattle.spec_history.specs.Sessions.{SessionTransaction, SessionState, acted, scripts}
use Rattle.spec_history.specs.Worlds.{first, run}
use Rattle.spec_history.specs.Guards.{OnlyOne}
use Rattle.spec_history.proofs.Trace.{each_append, each_weaker}
use Rattle.spec_protocol.specs.Server.{Server}
use Rattle.spec_protocol.specs.Cells.{Cell, catalog_at}
use Rattle.spec_protocol.specs.Contents.{Contents, Known, contents, known, HasAlone}
use Rattle.spec_protocol.specs.EventsIn.{events_in}
use Rattle.spec_protocol.specs.LocksCover.{KeepsLocks, LookedAt, HasLock, IsGotAt}
use Rattle.spec_protocol.specs.Moves.{at_place, sits}
use Rattle.spec_protocol.specs.OpenOnes.{HasOpen, text_at, last_line, lines_at, script_so_far, texts_so_far}
use Rattle.spec_protocol.specs.OpenScripts.{counted, counted_in}
use Rattle.spec_protocol.specs.Parts.{AreTransactions, IsNow}
use Rattle.spec_protocol.specs.Seats.{Tree, OpenTransaction, StatementProgress, answering, SessionStatus, inside, Session, session, SeatState}
use Rattle.spec_protocol.specs.StandTogether.{History, Stands, StandsAfter}
use Rattle.spec_protocol.specs.TranscriptsAgree.{TranscriptsAgree}
use Rattle.spec_protocol.specs.TreesAreOfEvents.{AreTrees, AreOpenSavepoints}
use Rattle.spec_protocol.specs.RequestsIn.{requests_in, Holds}
use Rattle.law_protocol_steps.proofs.AloneTurns.{Keeps, keeps_turn, StillAt, owes_like, bare, alone_after}
use Rattle.law_protocol_steps.proofs.AnonymousActs.{IsPlain, plain_acts, plain_owner}
use Rattle.law_protocol_steps.proofs.TranscriptActs.{GoesFrom, goes_on}
use Rattle.law_protocol_steps.proofs.FreshIds.{events_of_touched}
use Rattle.law_protocol_steps.proofs.Heard.{heard_answer, heard_now}
use Rattle.law_protocol_steps.proofs.Ids.{InTransaction, in_transaction}
use Rattle.law_protocol_steps.proofs.ScriptMore.{last_state, last_reply}
use Rattle.law_protocol_steps.proofs.PlainPlaces.{AddsNone, none_added, IsBare, all_counted}
use Rattle.spec_protocol.specs.TablesAreSerial.{IsAdding, HasActed}
use Rattle.law_protocol_steps.proofs.Turns.{Owes}
use Rattle.law_protocol_steps.proofs.GoesOn.{still, one_number}
use Rattle.spec_protocol.specs.Leaf.{event_bytes}

pub plain_say : (line : Line) → IsPlain (says line)
plain_say line = record { items = λ x. refl; ids = refl; issued = refl; marks = refl; images = refl }

-- trees over events that are the same
pub trees_over : (v : Server) (es fs : ℕ → List RowEvent) (trees : List Tree) → ((id : ℕ) → 1 ≤ id → es id ≡ fs id) → AreTrees es trees → AreTrees fs trees
trees_over v es fs trees same h = record {
  differ = h.differ;
  tables = h.tables;
  leaves = leaves trees h.tables h.leaves;
  others = λ id l e. sym (same id l) ∙ h.others id l e;
}
  where
    leaves : (ts : List Tree) → Each (λ t. 1 ≤ t.table) ts → Each (λ t. t.leaves ≡ map event_bytes (es t.table)) ts → Each (λ t. t.leaves ≡ map event_bytes (fs t.table)) ts
    leaves [] l e = tt
    leaves (t ∷ ts) l e = (e.0 ∙ ap (map event_bytes) (same t.table l.0), leaves ts l.1 e.1)

module _ {b : Bool} (v : Server) (cells : List Cell) (seats : List SeatState) {history : History} (st : Stands v history cells seats) (j : ℕ) (s : SeatState) (there : get_elem? seats j ≡ some s) (x : Session) (role : s.role ≡ session x)
    (o : OpenTransaction) (one : x.open_one ≡ Some o) (open_end : o.end ≡ unfixed) (explicit : o.explicit ≡ b) (text : Text) (stage : StatementProgress) (at : x.place ≡ inside text stage)
    (no_lines : last_line text stage ≡ []) (all_count : (id : ℕ) (ws : List Version) → counted_in o.id id stage ws ≡ ws) where
  abbrev pub c : Contents
  c = contents cells

  abbrev pub k : Known
  k = known v.reads st.ledger.items

  has : HasOpen seats j x o
  has = record { seat = s; there = there; role = role; open_one = one }

  abbrev pub texts : List Line → List Text
  texts ls = map (λ l. l.0) ls

  -- what its script comes to
  abbrev pub end_of : List Line → ScriptEnd
  end_of ls = script v.reads o.explicit k.tables o.id (texts ls)

  abbrev pub X : State
  X = (end_of o.script).state

  so_far : script_so_far x o ≡ o.script
  so_far = ap (λ (p : SessionStatus). o.script ++ lines_at p) at ∙ ap (λ (ls : List Line). o.script ++ ls) no_lines ∙ append-nil o.script

  pub its_replies : map (λ l. l.1) o.script ≡ map reply_text (end_of o.script).replies
  its_replies = subst (λ ls. map (λ l. l.1) ls ≡ map reply_text (end_of ls).replies) so_far (st.open_scripts j x o has open_end).replies

  pub its_versions : (id : ℕ) → 1 ≤ id → touched o.id (c.versions id) ≡ touched o.id (versions_of X.tables id)
  its_versions id l = ap (touched o.id) (sym (all_count id (c.versions id)) ∙ (λ i. counted o.id id (sym at i) (c.versions id))) ∙ subst (λ ls. touched o.id (counted o.id id x.place (c.versions id)) ≡ touched o.id (versions_of (end_of ls).state.tables id)) so_far ((st.open_scripts j x o has open_end).versions id l)

  pub its_counter : o.seq ≡ X.seq
  its_counter = subst (λ ls. o.seq ≡ (end_of ls).state.seq) so_far (st.open_scripts j x o has open_end).counter

  pub its_trees : AreTrees (λ id. events_in o.id id (c.versions id)) o.trees
  its_trees = subst (λ f. AreTrees f o.trees) (λ i id. events_in o.id id (((λ n. counted o.id id (at n) (c.versions id)) ∙ all_count id (c.versions id)) i)) (st.trees_are_of_events j x o has open_end).trees

  -- over the tables of its script too
  pub its_trees_there : AreTrees (λ id. events_in o.id id (versions_of X.tables id)) o.trees
  its_trees_there = trees_over v (λ id. events_in o.id id (c.versions id)) (λ id. events_in o.id id (versions_of X.tables id)) o.trees
      (λ id l. events_of_touched o.id id (c.versions id) ∙ ap (events_in o.id id) (its_versions id l) ∙ sym (events_of_touched o.id id (versions_of X.tables id))) its_trees

  pub its_savepoints : AreOpenSavepoints o.id o.open_savepoints X.saved
  its_savepoints = subst (λ ls. AreOpenSavepoints o.id o.open_savepoints (end_of ls).state.saved) so_far (st.trees_are_of_events j x o has open_end).open_savepoints

  pub its_cover : (i : ℕ) → KeepsLocks o i → Each (λ l. Each (Holds (c.holds i) o.id) (requests_in v (defs_of k.tables) o.explicit i l.0)) o.script
  its_cover i free = subst (Each (λ l. Each (Holds (c.holds i) o.id) (requests_in v (defs_of k.tables) o.explicit i l.0))) so_far (st.locks_cover.cover j x o has i free)

  -- ---- with the statement

  module _ (r : Reply) (then_state : State) (step : text_step v.reads o.explicit o.id X text ≡ (then_state, r)) (covers : (i : ℕ) → Each (Holds (c.holds i) o.id) (requests_in v (defs_of k.tables) o.explicit i text)) where
    abbrev line : Line
    line = (text, reply_text r)

    abbrev lines : List Line
    lines = o.script ++ line ∷ []

    texts_are : texts lines ≡ texts o.script ++ text ∷ []
    texts_are = map-append (λ l. l.0) o.script (line ∷ [])

    pub state_is : (end_of lines).state ≡ then_state
    state_is = ap (λ ts. (script v.reads o.explicit k.tables o.id ts).state) texts_are ∙ last_state v.reads o.explicit o.id (start k.tables) (texts o.script) text ∙ ap (λ z. z.0) step

    pub replies_are : map (λ l. l.1) lines ≡ map reply_text (end_of lines).replies
    replies_are = map-append (λ l. l.1) o.script (line ∷ []) ∙ ap (λ (l : List Text). l ++ reply_text r ∷ []) its_replies ∙ sym (map-append reply_text (end_of o.script).replies (r ∷ []))
        ∙ sym (ap (map reply_text) (ap (λ ts. (script v.reads o.explicit k.tables o.id ts).replies) texts_are ∙ last_reply v.reads o.explicit o.id (start k.tables) (texts o.script) text ∙ ap (λ z. (end_of o.script).replies ++ z.1 ∷ []) step))

    -- the session then, with what counts at its place
    module _ (y : Session) (p : OpenTransaction) (ls : List Line) (id : p.id ≡ o.id) (opened_same : p.explicit ≡ o.explicit) (visited : p.visited ≡ o.visited) (released : p.released ≡ o.released) (end : p.end ≡ o.end)
        (script_is : p.script ≡ ls) (lines_are : ls ++ lines_at y.place ≡ lines)
        (versions : (id : ℕ) → 1 ≤ id → touched o.id (counted o.id id y.place (c.versions id)) ≡ touched o.id (versions_of then_state.tables id)) (counter : p.seq ≡ then_state.seq)
        (trees : AreTrees (λ id. events_in o.id id (counted o.id id y.place (c.versions id))) p.trees) (open_savepoints : AreOpenSavepoints o.id p.open_savepoints then_state.saved)
        (got : HasLock c catalog_at o.id → IsGotAt v k.tables (HasAlone c o.id) (not (k.has o.id)) y.place) (looked : LookedAt v c (defs_of k.tables) o.id o.explicit y.place) (stands : o.explicit ≡ false → text_at x.place ≡ text_at y.place) (alone : o.explicit ≡ false → p.script ≡ []) where
      all_lines : script_so_far y p ≡ lines
      all_lines = ap (λ (ms : List Line). ms ++ lines_at y.place) script_is ∙ lines_are

      ends_so : (script v.reads p.explicit k.tables p.id (texts_so_far y p)) ≡ end_of lines
      ends_so = λ i. script v.reads (opened_same i) k.tables (id i) (texts (all_lines i))

      pub keeps_said : StillAt v cells seats st j s there x o y p → Owes v c k st.catalog.defs y p → Keeps v cells seats st j s there x role o one y p
      keeps_said still owes = record {
        id = id;
        explicit = opened_same;
        visited = visited;
        released = released;
        end = end;
        stands = stands;
        script = λ u. record {
          replies = ap (map (λ l. l.1)) all_lines ∙ replies_are ∙ sym (ap (λ z. map reply_text z.replies) ends_so);
          versions = λ n l. (λ i. touched (id i) (counted (id i) n y.place (c.versions n))) ∙ versions n l ∙ ap (λ z. touched o.id (versions_of z.tables n)) (sym state_is) ∙ sym (λ i. touched (id i) (versions_of (ends_so i).state.tables n));
          counter = counter ∙ sym (ap (λ z. z.seq) state_is) ∙ sym (ap (λ z. z.state.seq) ends_so);
          alone = λ e. alone (sym opened_same ∙ e);
        };
        trees = λ u. record {
          trees = subst (λ n. AreTrees (λ a. events_in n a (counted n a y.place (c.versions a))) p.trees) (sym id) trees;
          open_savepoints = subst (λ n. AreOpenSavepoints n p.open_savepoints (script v.reads p.explicit k.tables p.id (texts_so_far y p)).state.saved) (sym id) (subst (AreOpenSavepoints o.id p.open_savepoints) (ap (λ z. z.saved) (sym state_is) ∙ sym (ap (λ z. z.state.saved) ends_so)) open_savepoints);
        };
        cover = λ i free. subst (Each (λ l. Each (Holds (c.holds i) o.id) (requests_in v (defs_of k.tables) o.explicit i l.0))) (sym all_lines) (each_append (λ l. Each (Holds (c.holds i) o.id) (requests_in v (defs_of k.tables) o.explicit i l.0)) o.script (line ∷ []) (its_cover i free) (covers i, tt));
        got = got;
        looked = looked;
        still = still;
        owes = owes;
      }

      -- where it leaves the tables as they were
      pub keeps_bare : AddsNone (inside text stage) → (o.explicit ≡ false → HasActed x.place → HasActed y.place) → then_state.tables ≡ X.tables → p.seq ≡ o.seq → IsBare y.place → Keeps v cells seats st j s there x role o one y p
      keeps_bare adds acted same_tables same_seq bare = keeps_said
          (record { acted = acted; adding = λ after i a. absurd (none_added (inside text stage) o after i adds (subst (λ z. IsAdding z o after i) at a)) })
          (owes_like v cells seats st j s there x role o one y p id same_seq end bare
          (ap (λ z. z.state.tables) ends_so ∙ ap (λ z. z.tables) state_is ∙ same_tables ∙ sym (ap (λ ls. (end_of ls).state.tables) so_far))
          (λ a ws. (λ i. counted o.id a (at i) ws) ∙ all_count a ws ∙ sym (all_counted o.id a y.place ws bare)))

  -- ---- the history

  module _ (by_begin : o.explicit ≡ true) (r : Reply) (p : OpenTransaction) (id : p.id ≡ o.id) (opened_same : p.explicit ≡ o.explicit) (end : p.end ≡ o.end) (script_is : p.script ≡ o.script ++ (text, reply_text r) ∷ [])
      (goes : GoesFrom v.meaning x (at_place (Some p) (inside text (answering r None)) x) (said (text, reply_text r) ∷ [])) where
    abbrev y : Session
    y = at_place (Some p) (inside text (answering r None)) x

    abbrev told : Line
    told = (text, reply_text r)

    pub d : InTransaction v.meaning history (st.transcripts_agree.of_seat j) x o
    d = in_transaction v history st.ledger seats st.transcripts_agree j x o has

    abbrev n : ℕ
    n = d.runs.number

    abbrev sess : SessionState
    sess = (run first history).at n

    in_old : (a : Text) (ls : List Line) → In a (texts ls) → In a (texts (ls ++ told ∷ []))
    in_old a [] i = absurd i
    in_old a (l ∷ ls) i = ⊎_elim (λ e. inl e) (λ e. inr (in_old a ls e)) i

    in_new : (ls : List Line) → In text (texts (ls ++ told ∷ []))
    in_new [] = inl refl
    in_new (l ∷ ls) = inr (in_new ls)

    then_texts : texts_so_far y p ≡ texts (o.script ++ told ∷ [])
    then_texts = ap texts (append-nil p.script ∙ script_is)

    only : OnlyOne d.transaction text
    only e = let no : true ≡ false = sym by_begin ∙ sym d.is.explicit ∙ e in cc

    now : IsNow v.meaning (acted sess (says told)) y
    now = record {
      running = d.runs.now.running;
      transcript = d.runs.now.transcript;
      under = d.runs.now.under ∙ ap text_at at;
      open_one = subst (λ (z : Option SessionTransaction). AreTransactions (on_some (scripts told) z) y y.open_one) (sym d.has) (record {
        id = d.is.id ∙ sym id;
        explicit = d.is.explicit ∙ sym opened_same;
        script = ap (λ (ls : List Line). ls ++ told ∷ []) d.is.script ∙ sym script_is;
        end = d.is.end ∙ sym end;
        asked = λ u. subst (λ ts. Each (λ a. a.1 ≡ true → In a.0 ts) ((text, true) ∷ d.transaction.asked)) (sym then_texts) (
          (λ e. in_new o.script),
          each_weaker (λ a. a.1 ≡ true → In a.0 (texts_so_far x o)) (λ a. a.1 ≡ true → In a.0 (texts (o.script ++ told ∷ []))) (λ a f e. in_old a.0 o.script (subst (λ ls. In a.0 (texts ls)) so_far (f e))) d.transaction.asked (d.is.asked open_end),
        );
        heard = (heard_now y.place d.transaction.answered text true, heard_answer x.place y.place d.transaction.answered d.transaction.asked text (ap text_at at) d.is.heard);
      });
      so_far = goes_on v.meaning sess.so_far (acted sess (says told)).so_far x y (said told ∷ []) refl refl d.runs.now.so_far goes;
    }

    pub said_act : TranscriptsAgree v (history ++ by n (says told) ∷ []) st.ledger (slice_set seats j (sits s y))
    said_act = plain_acts v st.ledger seats history st.transcripts_agree j s there x y role n d.runs.is (says told ∷ []) (plain_say told, tt)
        ((d.transaction, record { runs = d.runs.now.running; has = d.has; unfixed = d.is.end ∙ open_end }, only), tt) now (record { images = refl; moments = refl; earlier = refl })

    -- by the session whose number is known
    pub said_owner : said_act.owner n ≡ j
    unfolding said_act
    said_owner = (plain_owner _ _ _ _ _ _ _ _ _ _ _ _ _ _ _ _ _ _)

    -- known by its number
    pub said_by : (m : ℕ) → (st.transcripts_agree.of_seat j).now ≡ Some m → (agree : TranscriptsAgree v (history ++ by m (says told) ∷ []) st.ledger (slice_set seats j (sits s y))) × (agree.owner m ≡ j)
    said_by m e = subst (λ (i : ℕ). (agree : TranscriptsAgree v (history ++ by i (says told) ∷ []) st.ledger (slice_set seats j (sits s y))) × (agree.owner i ≡ j)) (one_number n m d.runs.is e) (said_act, said_owner)

  -- ---- it is said, and certain at once

  module _ (by_begin : o.explicit ≡ true) (r : Reply) (then_state : State) (step : text_step v.reads o.explicit o.id X text ≡ (then_state, r)) (covers : (i : ℕ) → Each (Holds (c.holds i) o.id) (requests_in v (defs_of k.tables) o.explicit i text))
      (p : OpenTransaction) (id : p.id ≡ o.id) (opened_same : p.explicit ≡ o.explicit) (visited : p.visited ≡ o.visited) (released : p.released ≡ o.released) (end : p.end ≡ o.end) (script_is : p.script ≡ o.script ++ (text, reply_text r) ∷ [])
      (same_tables : then_state.tables ≡ X.tables) (counter : p.seq ≡ then_state.seq) (same_trees : p.trees ≡ o.trees) (open_savepoints : AreOpenSavepoints o.id p.open_savepoints then_state.saved) (same_seq : p.seq ≡ o.seq) (adds : AddsNone (inside text stage))
      (goes : GoesFrom v.meaning x (at_place (Some p) (inside text (answering r None)) x) (said (text, reply_text r) ∷ [])) where
    pub said_stands : StandsAfter v j history (says (text, reply_text r) ∷ []) cells (slice_set seats j (sits s (at_place (Some p) (inside text (answering r None)) x)))
    said_stands = alone_after v cells seats st j s there _ _
        (keeps_turn v cells seats st j s there x role o one _ _ p refl refl
        (keeps_bare r then_state step covers (at_place (Some p) (inside text (answering r None)) x) p p.script id opened_same visited released end refl (append-nil p.script ∙ script_is)
        (λ n l. its_versions n l ∙ ap (λ (T : Tables). touched o.id (versions_of T n)) (sym same_tables)) counter (subst (AreTrees (λ a. events_in o.id a (c.versions a))) (sym same_trees) its_trees) open_savepoints (λ l. tt) tt (λ e. ap text_at at) (λ e. let no : true ≡ false = sym by_begin ∙ e in cc) adds (λ e f. tt) same_tables same_seq tt))
        (said_act by_begin r p id opened_same end script_is goes) (said_owner _ _ _ _ _ _ _ _)
