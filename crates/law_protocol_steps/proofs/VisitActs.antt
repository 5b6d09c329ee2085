-- What the history has of a visit of a catalog or a table's cell: a statement asked for its locks, was done, or went on.
use Rattle.std.proofs.Common.{◌≡◌, ℕ, Bool, true, false, List, [], ◌∷◌, ◌++◌, Option, Some, None, refl, sym, ap, ◌∙◌, subst, inl, inr, ⊎_elim, append-nil, map, slice_set}
use Rattle.spec_protocol.specs.Parts.{AreTransactions, IsTransaction, IsHeard, IsNow, asking_in, Numbers}
use Rattle.spec_protocol.specs.Cells.{Cell, LedgerCell}
use Rattle.spec_history.specs.Sessions.{SessionTransaction, SessionState, acted, asks}
use Rattle.law_protocol_steps.proofs.Ids.{InTransaction}
use Rattle.spec_history.specs.Lists.{Each, In, Text}
use Rattle.spec_protocol.specs.TranscriptsSoFar.{EndsOwn, IsSaid, end_shown, image_in, is_begin, shown_alone, shown_inside, shown_with, FitsOpened, EndsLeaving, Fits, FitsWith, open_before, shown_at}
use Rattle.spec_history.specs.Acts.{looks, SessionAct, by}
use Rattle.spec_history.specs.Facts.{Fact, began, begun_by, said}
use Rattle.law_protocol_steps.proofs.TranscriptActs.{GoesFrom, goes_on}
use Rattle.spec_protocol.specs.OpenOnes.{HasOpen, last_line, lines_at, text_at, texts_so_far}
use Rattle.spec_history.specs.Guards.{IsAnswered, OnlyOne}
use Rattle.law_protocol_steps.proofs.AnonymousActs.{IsPlain, plain_acts, plain_owner, plain_parts}
use Rattle.law_protocol_steps.proofs.PlainAct.{KeepsAll}
use Rattle.spec_history.specs.Transcripts.{Kind, kind_of, statement}
use Rattle.spec_model.specs.Journals.{Line}
use Rattle.law_protocol_steps.proofs.InPlaces.{NoControl, controlled_inside, fits_own, within}
use Rattle.spec_protocol.specs.Seats.{OpenTransaction, SeatState, Session, StatementProgress, answering, inside, replied, session, SessionStatus, between, leaving}
use Rattle.sql_types.specs.declared.reply.Reply.{Reply}
use Rattle.spec_protocol.specs.Server.{Server}
use Rattle.spec_protocol.specs.StandTogether.{History, Stands}
use Rattle.spec_protocol.specs.TranscriptsAgree.{TranscriptsAgree}
use Rattle.sql_types.specs.declared.version.Version.{Version}
use Rattle.law_protocol_steps.proofs.TranscriptProgress.{at_opened, fits_if, from_at, if_fits}
use Rattle.spec_protocol.specs.Moves.{at_place, sits}
use Rattle.spec_protocol.specs.OpenScripts.{counted_in}
use Rattle.spec_history.specs.Worlds.{first, run}
use lib.ListN.{get_elem?}
use Rattle.std.specs.Prelude.{if◌then◌else◌}
use Rattle.spec_history.specs.InPlace.{image_by, InPlace}
use Rattle.sql_value.specs.Order.{kind}
use Rattle.spec_history.specs.Transactions.{on_some, unfixed, End}
use Rattle.spec_model.specs.Replies.{reply_text}
use Rattle.law_protocol_steps.proofs.SaidMore.{said_by}
use mathlib.Core.Option.{some}
use Rattle.spec_protocol.specs.Doing.{stage_after, with_line}
use Rattle.spec_history.specs.Transcripts.{rows}
use Rattle.spec_history.specs.Acts.{by}
use Rattle.law_protocol_steps.proofs.Ids.{in_transaction}
use Rattle.spec_history.proofs.Trace.{each_weaker}
use Rattle.sql_types.specs.declared.reply.Reply.TheVariants as reply
use Rattle.spec_history.specs.Meaning.{Meaning}
use Rattle.spec_protocol.specs.ActsOf.{done_acts}
use Rattle.law_protocol_steps.proofs.GoesOn.{nothing_added}

plain_look : (text : Text) (b : Bool) → IsPlain (looks text b)
plain_look text b = record { items = λ x. refl; ids = refl; issued = refl; marks = refl; images = refl }

opened_fits : (q : Meaning) (n : ℕ) (text : Text) (id : ℕ) (r : Reply) → begun_by r ≡ None → InPlace q (Some id) n (statement text r None) → FitsOpened q n text id unfixed r
opened_fits q n text id (reply.Begun i) e h = cc
opened_fits q n text id r e h = h

-- the history then, with these acts of one session behind it
pub record ActsAt (v : Server) (history : History) (j : ℕ) (number : Option ℕ) (acts : List SessionAct) (ledger : LedgerCell) (seats : List SeatState) : Type 0 where
  pub session : ℕ
  pub is : number ≡ Some session
  pub agree : TranscriptsAgree v (history ++ map (by session) acts) ledger seats
  pub own : agree.owner session ≡ j

-- a transaction that the history can't tell from another
pub record IsAlike (o p : OpenTransaction) : Type 0 where
  pub id : p.id ≡ o.id
  pub explicit : p.explicit ≡ o.explicit
  pub script : p.script ≡ o.script
  pub end : p.end ≡ o.end

module _ (v : Server) (cells : List Cell) (seats : List SeatState) {history : History} (st : Stands v history cells seats) (j : ℕ) (s : SeatState) (there : get_elem? seats j ≡ some s) (x : Session) (role : s.role ≡ session x)
    (o : OpenTransaction) (one : x.open_one ≡ Some o) where
  has : HasOpen seats j x o
  has = record { seat = s; there = there; role = role; open_one = one }

  pub g : InTransaction v.meaning history (st.transcripts_agree.of_seat j) x o
  g = in_transaction v history st.ledger seats st.transcripts_agree j x o has

  abbrev sess : SessionState
  sess = (run first history).at g.runs.number

  -- ---- nothing is done: what is said of the seat stays

  module _ (y : Session) (p : OpenTransaction) (alike : IsAlike o p) (one_then : y.open_one ≡ Some p) (same_text : text_at y.place ≡ text_at x.place) (same_lines : lines_at y.place ≡ lines_at x.place)
      (heard_more : (answered : List (Text × Bool)) (a : Text × Bool) → IsHeard x.place answered a → IsHeard y.place answered a) (same_transcript : y.transcript ≡ x.transcript) (keeps : KeepsAll x y) (goes : GoesFrom v.meaning x y []) where
    same_texts : texts_so_far y p ≡ texts_so_far x o
    same_texts = λ i. map (λ l. l.0) (alike.script i ++ same_lines i)

    still_transaction : IsTransaction g.transaction y p
    still_transaction = record {
      id = g.is.id ∙ sym alike.id;
      explicit = g.is.explicit ∙ sym alike.explicit;
      script = g.is.script ∙ sym alike.script;
      end = g.is.end ∙ sym alike.end;
      asked = λ u. subst (λ ts. Each (λ a. a.1 ≡ true → In a.0 ts) g.transaction.asked) (sym same_texts) (g.is.asked (sym alike.end ∙ u));
      heard = each_weaker (IsHeard x.place g.transaction.answered) (IsHeard y.place g.transaction.answered) (heard_more g.transaction.answered) g.transaction.asked g.is.heard;
    }

    still_now : IsNow v.meaning sess y
    still_now = record {
      running = g.runs.now.running;
      transcript = g.runs.now.transcript ∙ sym same_transcript;
      under = g.runs.now.under ∙ sym same_text;
      open_one = subst (AreTransactions sess.transaction y) (sym one_then) (subst (λ (z : Option SessionTransaction). AreTransactions z y (Some p)) (sym g.has) still_transaction);
      so_far = goes_on v.meaning sess.so_far sess.so_far x y [] refl (sym (append-nil sess.so_far.pending)) g.runs.now.so_far goes;
    }

    pub still_act : TranscriptsAgree v history st.ledger (slice_set seats j (sits s y))
    still_act = nothing_added v history st.ledger (slice_set seats j (sits s y)) (plain_acts v st.ledger seats history st.transcripts_agree j s there x y role g.runs.number g.runs.is [] tt tt still_now keeps)

  -- its place stays
  shown_alike : (p : OpenTransaction) → IsAlike o p → (place : SessionStatus) → shown_at v.meaning place (Some o) ≡ shown_at v.meaning place (Some p)
  shown_alike p a between = refl
  shown_alike p a (inside text stage) = λ i. shown_with v.meaning (sym a.explicit i) (sym a.id i) text stage ++ end_shown (sym a.end i)
  shown_alike p a leaving = ap end_shown (sym a.end)

  before_alike : (p : OpenTransaction) → IsAlike o p → (place : SessionStatus) → open_before v.meaning place (Some o) ≡ open_before v.meaning place (Some p)
  before_alike p a between = λ i. if sym a.explicit i then Some (sym a.id i) else None
  before_alike p a (inside text stage) = λ i. if sym a.explicit i then (if is_begin stage then None else Some (sym a.id i)) else None
  before_alike p a leaving = λ i. if sym a.explicit i then Some (sym a.id i) else None

  fits_alike : (p : OpenTransaction) → IsAlike o p → (n : ℕ) (place : SessionStatus) → Fits v.meaning n place (Some o) → Fits v.meaning n place (Some p)
  fits_alike p a n between f = tt
  fits_alike p a n (inside text stage) f = subst (λ (b : Bool). FitsWith v.meaning b n text stage p.id p.end) (sym a.explicit) (subst (λ (i : ℕ). FitsWith v.meaning o.explicit n text stage i p.end) (sym a.id) (subst (λ (e : End). FitsWith v.meaning o.explicit n text stage o.id e) (sym a.end) f))
  fits_alike p a n leaving f = (a.explicit ∙ f.0, subst EndsLeaving (sym a.end) f.1)

  pub unmoved : (p : OpenTransaction) → IsAlike o p → TranscriptsAgree v history st.ledger (slice_set seats j (sits s (at_place (Some p) x.place x)))
  unmoved p a = still_act (at_place (Some p) x.place x) p a refl refl refl (λ answered b h. h) refl (record { images = refl; moments = refl; earlier = refl })
      (λ n images f. record {
        shown = append-nil _ ∙ (λ i. shown_at v.meaning x.place (one i)) ∙ shown_alike p a x.place;
        before = (λ i. open_before v.meaning x.place (one i)) ∙ before_alike p a x.place;
        images = images;
        fits = fits_alike p a n x.place (subst (Fits v.meaning n x.place) one f);
      })

  -- it goes on in its statement, and nothing more is to be shown
  module _ (text : Text) (stage next : StatementProgress) (at : x.place ≡ inside text stage) (same_shown : (b : Bool) → shown_with v.meaning b o.id text stage ≡ shown_with v.meaning b o.id text next) (same_begin : is_begin stage ≡ is_begin next) (same_image : image_in stage ≡ image_in next)
      (more_fits : (b : Bool) (n : ℕ) → FitsWith v.meaning b n text stage o.id o.end → FitsWith v.meaning b n text next o.id o.end) (same_lines : last_line text next ≡ last_line text stage)
      (more_heard : (answered : List (Text × Bool)) (a : Text × Bool) → IsHeard (inside text stage) answered a → IsHeard (inside text next) answered a) where
    pub stage_act : (p : OpenTransaction) → IsAlike o p → TranscriptsAgree v history st.ledger (slice_set seats j (sits s (at_place (Some p) (inside text next) x)))
    stage_act p a = still_act (at_place (Some p) (inside text next) x) p a refl (ap text_at (sym at)) (same_lines ∙ ap lines_at (sym at)) (λ answered b h. more_heard answered b (subst (λ q. IsHeard q answered b) at h)) refl (record { images = refl; moments = refl; earlier = refl })
        (from_at v.meaning x (at_place (Some p) (inside text next) x) (inside text stage) (Some o) [] at one refl (λ n i f. record {
          shown = append-nil _ ∙ ap (λ (l : List Fact). l ++ end_shown o.end) (same_shown o.explicit) ∙ shown_alike p a (inside text next);
          before = ap (λ (b : Bool). if o.explicit then (if b then None else Some o.id) else None) same_begin ∙ before_alike p a (inside text next);
          images = same_image;
          fits = fits_alike p a n (inside text next) (more_fits o.explicit n f);
        }))

  -- ---- a statement asks for its locks

  module _ (open_end : o.end ≡ unfixed) (text : Text) (stage : StatementProgress) (at : x.place ≡ inside text stage) (no_lines : last_line text stage ≡ []) where
    only : OnlyOne g.transaction text
    only e = let none : o.script ≡ [] = (st.open_scripts j x o has open_end).alone (sym g.is.explicit ∙ e) in (
      g.is.script ∙ none,
      each_weaker (λ a. a.1 ≡ true → In a.0 (map (λ l. l.0) (o.script ++ lines_at x.place))) (λ a. a.1 ≡ true → a.0 ≡ text)
          (λ a f h. absurd (subst (λ (ls : List Line). In a.0 (map (λ l. l.0) ls)) (ap (λ (ls : List Line). ls ++ lines_at x.place) none ∙ ap lines_at at ∙ no_lines) (f h))) g.transaction.asked (g.is.asked open_end),
    )

    was_asked : Each (λ a. a.1 ≡ true → In a.0 (map (λ l. l.0) (o.script ++ []))) g.transaction.asked
    was_asked = subst (λ (ls : List Line). Each (λ a. a.1 ≡ true → In a.0 (map (λ l. l.0) (o.script ++ ls))) g.transaction.asked) (ap lines_at at ∙ no_lines) (g.is.asked open_end)

    in_more : (a : Text) (xs ys : List Line) → In a (map (λ l. l.0) (xs ++ [])) → In a (map (λ l. l.0) (xs ++ ys))
    in_more a [] ys i = absurd i
    in_more a (z ∷ xs) ys i = ⊎_elim (λ e. inl e) (λ e. inr (in_more a xs ys e)) i

    module _ (b : Bool) (next : StatementProgress) (p : OpenTransaction) (alike : IsAlike o p) (is_asking : In (text, b) (asking_in text next)) (in_text : b ≡ true → In text (map (λ l. l.0) (p.script ++ last_line text next)))
        (heard_more : (answered : List (Text × Bool)) (a : Text × Bool) → IsHeard (inside text stage) answered a → IsHeard (inside text next) answered a) (goes : GoesFrom v.meaning x (at_place (Some p) (inside text next) x) []) where
      abbrev y : Session
      y = at_place (Some p) (inside text next) x

      asks_transaction : IsTransaction (asks text b g.transaction) y p
      asks_transaction = record {
        id = g.is.id ∙ sym alike.id;
        explicit = g.is.explicit ∙ sym alike.explicit;
        script = g.is.script ∙ sym alike.script;
        end = g.is.end ∙ sym alike.end;
        asked = λ u. (
          in_text,
          each_weaker (λ a. a.1 ≡ true → In a.0 (map (λ l. l.0) (o.script ++ []))) (λ a. a.1 ≡ true → In a.0 (texts_so_far y p)) (λ a f e. subst (λ (ls : List Line). In a.0 (map (λ l. l.0) (ls ++ last_line text next))) (sym alike.script) (in_more a.0 o.script (last_line text next) (f e))) g.transaction.asked was_asked,
        );
        heard = (inr is_asking, each_weaker (IsHeard (inside text stage) g.transaction.answered) (IsHeard (inside text next) g.transaction.answered) (heard_more g.transaction.answered) g.transaction.asked (subst (λ q. Each (IsHeard q g.transaction.answered) g.transaction.asked) at g.is.heard));
      }

      asks_now : IsNow v.meaning (acted sess (looks text b)) y
      asks_now = record {
        running = g.runs.now.running;
        transcript = g.runs.now.transcript;
        under = g.runs.now.under ∙ ap text_at at;
        open_one = subst (λ (z : Option SessionTransaction). AreTransactions (on_some (asks text b) z) y y.open_one) (sym g.has) asks_transaction;
        so_far = goes_on v.meaning sess.so_far (acted sess (looks text b)).so_far x y [] refl refl g.runs.now.so_far goes;
      }

      pub asks_act : TranscriptsAgree v (history ++ by g.runs.number (looks text b) ∷ []) st.ledger (slice_set seats j (sits s y))
      asks_act = plain_acts v st.ledger seats history st.transcripts_agree j s there x y role g.runs.number g.runs.is (looks text b ∷ []) (plain_look text b, tt)
          ((g.transaction, record { runs = g.runs.now.running; has = g.has; unfixed = g.is.end ∙ open_end }, only), tt) asks_now (record { images = refl; moments = refl; earlier = refl })

      -- its session keeps its number
      pub asks_number : (asks_act.of_seat j).now ≡ Some g.runs.number
      unfolding asks_act
      asks_number = ap (λ (f : ℕ → Numbers). (f j).now) (plain_parts v st.ledger seats history st.transcripts_agree j s there x y role g.runs.number g.runs.is (looks text b ∷ []) (plain_look text b, tt)
          ((g.transaction, record { runs = g.runs.now.running; has = g.has; unfixed = g.is.end ∙ open_end }, only), tt) asks_now (record { images = refl; moments = refl; earlier = refl })) ∙ g.runs.is

      -- and is the seat's
      pub asks_owner : asks_act.owner g.runs.number ≡ j
      unfolding asks_act
      asks_owner = (plain_owner _ _ _ _ _ _ _ _ _ _ _ _ _ _ _ _ _ _)

  -- ---- a statement of rows is done

  module _ (open_end : o.end ≡ unfixed) (text : Text) (stage : StatementProgress) (at : x.place ≡ inside text stage) (no_lines : last_line text stage ≡ []) (all_count : (id : ℕ) (ws : List Version) → counted_in o.id id stage ws ≡ ws)
      (b : Bool) (asks_for : (a : Text × Bool) → In a (asking_in text stage) → In a ((text, false) ∷ [])) (nothing : shown_alone v.meaning text stage ≡ []) (nothing_inside : (k : Kind) → shown_inside v.meaning k text stage ≡ []) (not_begin : is_begin stage ≡ false) (no_image : image_in stage ≡ 0)
      (r : Reply) (plain : NoControl r) (not_begun : is_begin (answering r None) ≡ false) (kept_none : image_in (answering r None) ≡ 0) (no_begin : begun_by r ≡ None) (none_kept : image_by r ≡ 0)
      (inside_shown : shown_inside v.meaning rows text (answering r None) ≡ said (text, v.meaning.writes r) ∷ []) (is_said : IsSaid v.meaning text r)
      (p : OpenTransaction) (id : p.id ≡ o.id) (explicit : p.explicit ≡ o.explicit) (end : p.end ≡ o.end) (script : p.script ≡ with_line o.explicit (text, reply_text r) o.script) where
    abbrev then_seat : SeatState
    then_seat = sits s (at_place (Some p) (inside text (stage_after o.explicit r)) x)

    abbrev Done : Type 0
    Done = ActsAt v history j (st.transcripts_agree.of_seat j).now (done_acts o.explicit text b r) st.ledger (slice_set seats j then_seat)

    by_explicit : (e : o.explicit ≡ true) → kind_of (v.meaning.reads text) ≡ rows → ActsAt v history j (st.transcripts_agree.of_seat j).now (done_acts true text b r) st.ledger (slice_set seats j (sits s (at_place (Some p) (inside text (answering r None)) x)))
    by_explicit e kind = let said_so = said_by v cells seats st j s there x role o one open_end e text stage at no_lines all_count e r p id explicit end (script ∙ ap (λ (z : Bool). with_line z (text, reply_text r) o.script) e)
        (from_at v.meaning x _ (inside text stage) (Some o) (said (text, reply_text r) ∷ []) at one refl (λ n i f. at_opened v.meaning n text o p stage (answering r None) (said (text, reply_text r) ∷ []) e open_end id (explicit ∙ e) (end ∙ open_end)
        (nothing_inside (kind_of (v.meaning.reads text))) not_begin no_image
        (ap (λ (k : Kind). shown_inside v.meaning k text (answering r None)) kind ∙ inside_shown ∙ ap (λ w. said (text, w) ∷ []) (v.real.writes r)) not_begun kept_none
        (opened_fits v.meaning n text o.id r no_begin (within v.meaning n text r o.id rows None kind refl (controlled_inside n r plain o.id rows refl refl) tt)))) g.runs.number g.runs.is in record {
          session = g.runs.number;
          is = g.runs.is;
          agree = said_so.0;
          own = said_so.1;
        }

    own_heard : (answered : List (Text × Bool)) (a : Text × Bool) → IsHeard (inside text stage) answered a → IsHeard (inside text (replied r)) answered a
    own_heard answered a h = ⊎_elim (λ (g : IsAnswered answered a). inl g) (λ (g : In a (asking_in text stage)). inr (⊎_elim (λ e. inl e) (λ (e : ⊥). absurd e) (asks_for a g))) h

    own_script : o.explicit ≡ false → p.script ≡ o.script
    own_script e = script ∙ ap (λ (z : Bool). with_line z (text, reply_text r) o.script) e

    in_last : (ls : List Line) (l : Line) → In l.0 (map (λ z. z.0) (ls ++ l ∷ []))
    in_last [] l = inl refl
    in_last (z ∷ ls) l = inr (in_last ls l)

    is_asked : (c : Bool) → In {A = Text × Bool} (text, c) ((text, false) ∷ (text, true) ∷ [])
    is_asked false = inl refl
    is_asked true = inr (inl refl)

    by_own : (e : o.explicit ≡ false) → ActsAt v history j (st.transcripts_agree.of_seat j).now (done_acts false text b r) st.ledger (slice_set seats j (sits s (at_place (Some p) (inside text (replied r)) x)))
    by_own e = record {
      session = g.runs.number;
      is = g.runs.is;
      agree = asks_act open_end text stage at no_lines b (replied r) p (record { id = id; explicit = explicit; script = own_script e; end = end }) (is_asked b) (λ f. in_last p.script (text, reply_text r)) own_heard
          (from_at v.meaning x _ (inside text stage) (Some o) [] at one refl (λ n i f. let z = fits_if v.meaning n text stage o false e f in record {
            shown = append-nil _ ∙ (λ m. shown_with v.meaning (e m) o.id text stage ++ end_shown o.end) ∙ ap (λ (l : List Fact). (began o.id false ∷ l) ++ end_shown o.end) nothing ∙ (λ m. shown_with v.meaning (sym (explicit ∙ e) m) (sym id m) text (replied r) ++ end_shown (sym end m));
            before = (λ m. if e m then (if is_begin stage then None else Some o.id) else None) ∙ (λ m. if sym (explicit ∙ e) m then (if is_begin (replied r) then None else Some p.id) else None);
            images = no_image;
            fits = if_fits v.meaning n text (replied r) p false (explicit ∙ e) (subst (EndsOwn (kind_of (v.meaning.reads text))) (sym end) z.0, (fits_own n r plain v.meaning text o.end z.0 no_begin none_kept, is_said));
          }));
      own = asks_owner _ _ _ _ _ _ _ _ _ _ _ _ _;
    }

    pub done_act : (o.explicit ≡ true → kind_of (v.meaning.reads text) ≡ rows) → Done
    done_act kind = by o.explicit refl
      where
        by : (c : Bool) → o.explicit ≡ c → Done
        by true e = subst (λ (z : Bool). ActsAt v history j (st.transcripts_agree.of_seat j).now (done_acts z text b r) st.ledger (slice_set seats j (sits s (at_place (Some p) (inside text (stage_after z r)) x)))) (sym e) (by_explicit e (kind e))
        by false e = subst (λ (z : Bool). ActsAt v history j (st.transcripts_agree.of_seat j).now (done_acts z text b r) st.ledger (slice_set seats j (sits s (at_place (Some p) (inside text (stage_after z r)) x)))) (sym e) (by_own e)
