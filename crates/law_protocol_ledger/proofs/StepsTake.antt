-- A session takes up a statement; it is answered; the session ends where no transaction is open.
use Rattle.std.proofs.Common.{◌≡◌, ℕ, ◌+◌, true, false, List, [], ◌∷◌, ◌++◌, map, length, Option, Some, None, slice_set, refl, sym, ap, ◌∙◌, subst, append-nil, arith}
use Rattle.std.specs.Prelude.{if◌then◌else◌}
use mathlib.Core.Option.{some}
use lib.ListN.{get_elem?}
use Rattle.sql_types.specs.declared.reply.Reply.{Reply}
use Rattle.spec_history.specs.Lists.{Text, Each, In}
use Rattle.spec_history.specs.Transcripts.{Entry, statement, Transcript, kind_of, statements}
use Rattle.spec_history.specs.Facts.{Fact, entry_facts, open_after, open_at_end}
use Rattle.spec_history.specs.InPlace.{image_by, images_after}
use Rattle.spec_history.specs.Transactions.{End, unfixed}
use Rattle.spec_history.specs.Acts.{takes, answers}
use Rattle.spec_history.specs.Sessions.{SessionTransaction, TranscriptSoFar, SessionState, runs, acted}
use Rattle.spec_history.specs.Worlds.{first, run}
use Rattle.spec_history.specs.Guards.{IsStatement, images_of, Answers}
use Rattle.spec_history.proofs.Trace.{each_append}
use Rattle.spec_protocol.specs.Server.{Server}
use Rattle.spec_protocol.specs.Cells.{Cell}
use Rattle.spec_protocol.specs.Contents.{contents, known}
use Rattle.spec_protocol.specs.Answering.{with_entry}
use Rattle.spec_protocol.specs.TranscriptsSoFar.{EndsOpened, shown_with, end_shown, image_at, shown_at, open_before, Fits, IsTranscript}
use Rattle.spec_protocol.specs.Moves.{at_place, sits}
use Rattle.spec_protocol.specs.OpenOnes.{text_at, lines_at}
use Rattle.spec_protocol.specs.OpenScripts.{counted}
use Rattle.spec_protocol.specs.Parts.{asking, AreTransactions}
use Rattle.spec_protocol.specs.Seats.{OpenTransaction, begun, answering, SessionStatus, between, inside, Session, session, SeatState}
use Rattle.spec_protocol.specs.StandTogether.{History, Stands, StandsAfter}
use Rattle.law_protocol_steps.proofs.AloneTurns.{kept, keeps_turn, bare, alone_after}
use Rattle.law_protocol_steps.proofs.AnonymousActs.{IsPlain, plain_acts, plain_owner}
use Rattle.law_protocol_steps.proofs.TranscriptActs.{goes_on}
use Rattle.law_protocol_steps.proofs.TranscriptProgress.{from_at, if_fits}
use Rattle.law_protocol_changes.proofs.DigestsStand.{no_turn}
use Rattle.law_protocol_ledger.proofs.Entries.{open_snoc, images_snoc, Pays, pays_outside, pays_at}
use Rattle.law_protocol_steps.proofs.Heard.{heard_still}
use Rattle.law_protocol_steps.proofs.Ids.{Running, running, InTransaction, in_transaction}
use Rattle.law_protocol_steps.proofs.OpenSeats.{owns_none}
use Rattle.law_protocol_steps.proofs.PlainPlaces.{AddsNone}
use Rattle.spec_history.proofs.Rising.{images}

-- an act that adds nothing
pub plain_take : (text : Text) → IsPlain (takes text)
plain_take text = record { items = λ x. refl; ids = refl; issued = refl; marks = refl; images = refl }

pub plain_answer : (e : Entry) → IsPlain (answers e)
plain_answer e = record { items = λ x. refl; ids = refl; issued = refl; marks = refl; images = refl }

no_transaction : (z : Option SessionTransaction) (x y : Session) → AreTransactions z x None → AreTransactions z y None
no_transaction None x y e = tt
no_transaction (Some d) x y e = absurd e

-- ---- the guard of an answer, and the transcript then

module _ (v : Server) (sess : SessionState) (x y : Session) (e : Entry) (then_open : Option ℕ) (pending : List Fact) where
  -- the transcript has this pending
  pub paid : sess.phase ≡ runs → Each IsStatement sess.so_far.entries → Rattle.spec_history.specs.Guards.Answered sess.so_far.under e → (before : Option ℕ) → open_at_end None sess.so_far.entries ≡ before → sess.so_far.pending ≡ pending
      → Pays v.meaning (images_of 0 sess.so_far.entries) before pending e then_open → Answers v.meaning sess e
  paid running statements answered before explicit shows p = record {
    running = running;
    none_ended = statements;
    answered = answered;
    shows = shows ∙ p.shows ∙ ap (λ (o : Option ℕ). entry_facts v.meaning o e) (sym explicit);
    in_place = subst (λ (o : Option ℕ). Rattle.spec_history.specs.InPlace.InPlace v.meaning o (images_of 0 sess.so_far.entries) e) (sym explicit) p.in_place;
  }

  -- and after the entry
  pub written : (k : TranscriptSoFar) → k.entries ≡ sess.so_far.entries ++ e ∷ [] → k.pending ≡ [] → Each IsStatement sess.so_far.entries → IsStatement e → (before : Option ℕ) → open_at_end None sess.so_far.entries ≡ before
      → Pays v.meaning (images_of 0 sess.so_far.entries) before pending e then_open → y.place ≡ between → then_open ≡ open_before v.meaning between y.open_one → images_after (images_of 0 sess.so_far.entries) e ≡ length y.images → IsTranscript v.meaning k y
  written k entries none statements is before explicit p at after images = record {
    pending = none ∙ sym (λ i. shown_at v.meaning (at i) y.open_one);
    statements = subst (Each IsStatement) (sym entries) (each_append IsStatement sess.so_far.entries (e ∷ []) statements (is, tt));
    open_before = ap (open_at_end None) entries ∙ open_snoc None sess.so_far.entries e ∙ ap (λ (o : Option ℕ). open_after o e) explicit ∙ p.after ∙ after ∙ sym (λ i. open_before v.meaning (at i) y.open_one);
    images = (λ i. images_of 0 (entries i) + image_at (at i)) ∙ (let f = images_snoc 0 sess.so_far.entries e in let g : images_of 0 (sess.so_far.entries ++ e ∷ []) + 0 ≡ images_after (images_of 0 sess.so_far.entries) e = omega arith in g) ∙ images;
    fits = subst (λ (p : SessionStatus). Fits v.meaning (images_of 0 k.entries) p y.open_one) (sym at) tt;
  }

module _ (v : Server) (cells : List Cell) (seats : List SeatState) {history : History} (st : Stands v history cells seats) (j : ℕ) (s : SeatState) (there : get_elem? seats j ≡ some s) (x : Session) (role : s.role ≡ session x) where
  r : Running v.meaning history (st.transcripts_agree.of_seat j) x
  r = running v history st.ledger seats st.transcripts_agree j s x there role

  abbrev sess : SessionState
  sess = (run first history).at r.number

  -- ---- a statement is taken up

  module _ (text : Text) (at : x.place ≡ between) where
    nothing_shown : sess.so_far.pending ≡ []
    nothing_shown = r.now.so_far.pending ∙ (λ i. shown_at v.meaning (at i) x.open_one)

    abbrev y : Session
    y = at_place None (inside text begun) x

    pub taken_none : x.open_one ≡ None → StandsAfter v j history (takes text ∷ []) cells (slice_set seats j (sits s (at_place None (inside text begun) x)))
    taken_none free = alone_after v cells seats st j s there (sits s y) _
        (no_turn v (contents cells) (known v.reads st.ledger.items) st.catalog.defs s (sits s y) (owns_none s x role free) (owns_none (sits s y) y refl refl))
        (plain_acts v st.ledger seats history st.transcripts_agree j s there x y role r.number r.is (takes text ∷ []) (plain_take text, tt)
        ((r.now.running, (r.now.under ∙ ap text_at at), nothing_shown, r.now.so_far.statements), tt)
        (record {
          running = r.now.running;
          transcript = r.now.transcript;
          under = refl;
          open_one = no_transaction sess.transaction x y (subst (AreTransactions sess.transaction x) free r.now.open_one);
          so_far = goes_on v.meaning sess.so_far (acted sess (takes text)).so_far x y [] refl (sym (append-nil sess.so_far.pending)) r.now.so_far (from_at v.meaning x y between None [] at free refl (λ n i f. record { shown = refl; before = refl; images = refl; fits = tt }));
        })
        (record { images = refl; moments = refl; earlier = refl })) (plain_owner _ _ _ _ _ _ _ _ _ _ _ _ _ _ _ _ _ _)

    module _ (o : OpenTransaction) (one : x.open_one ≡ Some o) (open_end : o.end ≡ unfixed) (explicit : o.explicit ≡ true) where
      abbrev z : Session
      z = at_place (Some o) (inside text begun) x

      d : InTransaction v.meaning history (st.transcripts_agree.of_seat j) x o
      d = in_transaction v history st.ledger seats st.transcripts_agree j x o (record { seat = s; there = there; role = role; open_one = one })

      abbrev dess : SessionState
      dess = (run first history).at d.runs.number

      pub taken_some : StandsAfter v j history (takes text ∷ []) cells (slice_set seats j (sits s z))
      taken_some = alone_after v cells seats st j s there (sits s z) _
          (keeps_turn v cells seats st j s there x role o one (sits s z) z o refl refl
          (kept v cells seats st j s there x role o one z o.script (ap (λ p. o.script ++ lines_at p) at) (λ id ws. ap (λ p. counted o.id id p ws) at) (λ e f. f) (λ e. let no : true ≡ false = sym explicit ∙ e in cc) (λ l. tt) tt
          (bare v cells seats st j s there x role o one z o tt (subst AddsNone (sym at) tt) (λ e. let no : true ≡ false = sym explicit ∙ e in cc))))
          (plain_acts v st.ledger seats history st.transcripts_agree j s there x z role d.runs.number d.runs.is (takes text ∷ []) (plain_take text, tt)
          ((d.runs.now.running, (d.runs.now.under ∙ ap text_at at), (d.runs.now.so_far.pending ∙ (λ i. shown_at v.meaning (at i) x.open_one)), d.runs.now.so_far.statements), tt)
          (record {
            running = d.runs.now.running;
            transcript = d.runs.now.transcript;
            under = refl;
            open_one = subst (λ (w : Option SessionTransaction). AreTransactions w z z.open_one) (sym d.has) (record {
              id = d.is.id;
              explicit = d.is.explicit;
              script = d.is.script;
              end = d.is.end;
              asked = λ u. subst (λ (p : SessionStatus). Each (λ a. a.1 ≡ true → In a.0 (map (λ l. l.0) (o.script ++ lines_at p))) d.transaction.asked) at (d.is.asked u);
              heard = heard_still x.place z.place d.transaction.answered d.transaction.asked (ap asking at) d.is.heard;
            });
            so_far = goes_on v.meaning dess.so_far (acted dess (takes text)).so_far x z [] refl (sym (append-nil dess.so_far.pending)) d.runs.now.so_far (from_at v.meaning x z between (Some o) [] at one refl (λ n i f. record {
              shown = sym (λ i. shown_with v.meaning (explicit i) o.id text begun ++ end_shown (open_end i));
              before = refl;
              images = refl;
              fits = if_fits v.meaning n text begun o true explicit (subst (λ (e : End). EndsOpened e (kind_of (v.meaning.reads text))) (sym open_end) tt, tt);
            }));
          })
          (record { images = refl; moments = refl; earlier = refl })) (plain_owner _ _ _ _ _ _ _ _ _ _ _ _ _ _ _ _ _ _)

  -- ---- a statement is answered

  module _ (text : Text) (a : Reply) (at : x.place ≡ inside text (answering a None)) where
    abbrev e : Entry
    e = statement text a None

    same_images : images_of 0 sess.so_far.entries + image_by a ≡ length x.images
    same_images = (λ i. images_of 0 sess.so_far.entries + image_at (sym at i)) ∙ r.now.so_far.images

    abbrev u : Session
    u = with_entry e None between x

    pub answered_none : x.open_one ≡ None → StandsAfter v j history (answers e ∷ []) cells (slice_set seats j (sits s (with_entry e None between x)))
    answered_none free = alone_after v cells seats st j s there (sits s u) _
        (no_turn v (contents cells) (known v.reads st.ledger.items) st.catalog.defs s (sits s u) (owns_none s x role free) (owns_none (sits s u) u refl refl))
        (plain_acts v st.ledger seats history st.transcripts_agree j s there x u role r.number r.is (answers e ∷ []) (plain_answer e, tt) (guard, tt)
        (record {
          running = r.now.running;
          transcript = ap (λ (t : Transcript). record { session = t.session; entries = t.entries ++ e ∷ [] }) r.now.transcript;
          under = refl;
          open_one = no_transaction sess.transaction x u (subst (AreTransactions sess.transaction x) free r.now.open_one);
          so_far = written v sess x u e None (shown_at v.meaning (inside text (answering a None)) None) (acted sess (answers e)).so_far refl refl r.now.so_far.statements tt None before pays refl refl same_images;
        })
        (record { images = refl; moments = refl; earlier = refl })) (plain_owner _ _ _ _ _ _ _ _ _ _ _ _ _ _ _ _ _ _)
      where
        before : open_at_end None sess.so_far.entries ≡ None
        before = r.now.so_far.open_before ∙ (λ i. open_before v.meaning (at i) (free i))

        pays : Pays v.meaning (images_of 0 sess.so_far.entries) None (shown_at v.meaning (inside text (answering a None)) None) e None
        pays = pays_outside v.meaning (images_of 0 sess.so_far.entries) text a (subst (λ p. Fits v.meaning (images_of 0 sess.so_far.entries) p None) at (subst (Fits v.meaning (images_of 0 sess.so_far.entries) x.place) free r.now.so_far.fits))

        guard : Answers v.meaning sess e
        guard = paid v sess x u e None (shown_at v.meaning (inside text (answering a None)) None) r.now.running r.now.so_far.statements (r.now.under ∙ ap text_at at) None before (r.now.so_far.pending ∙ (λ i. shown_at v.meaning (at i) (free i))) pays

    module _ (o : OpenTransaction) (one : x.open_one ≡ Some o) (open_end : o.end ≡ unfixed) (explicit : o.explicit ≡ true) where
      abbrev w : Session
      w = with_entry e (Some o) between x

      dw : InTransaction v.meaning history (st.transcripts_agree.of_seat j) x o
      dw = in_transaction v history st.ledger seats st.transcripts_agree j x o (record { seat = s; there = there; role = role; open_one = one })

      abbrev now_at : SessionState
      now_at = (run first history).at dw.runs.number

      abbrev before_is : Option ℕ
      before_is = open_before v.meaning (inside text (answering a None)) (Some o)

      abbrev shown_is : List Fact
      shown_is = shown_at v.meaning (inside text (answering a None)) (Some o)

      opens : open_at_end None now_at.so_far.entries ≡ before_is
      opens = dw.runs.now.so_far.open_before ∙ (λ i. open_before v.meaning (at i) (one i))

      pays_now : Pays v.meaning (images_of 0 now_at.so_far.entries) before_is shown_is e (Some o.id)
      pays_now = pays_at v.meaning (images_of 0 now_at.so_far.entries) text a o open_end explicit (subst (λ p. Fits v.meaning (images_of 0 now_at.so_far.entries) p (Some o)) at (subst (Fits v.meaning (images_of 0 now_at.so_far.entries) x.place) one dw.runs.now.so_far.fits))

      pub answered_some : StandsAfter v j history (answers e ∷ []) cells (slice_set seats j (sits s w))
      answered_some = alone_after v cells seats st j s there (sits s w) _
          (keeps_turn v cells seats st j s there x role o one (sits s w) w o refl refl
          (kept v cells seats st j s there x role o one w o.script (ap (λ p. o.script ++ lines_at p) at) (λ id ws. ap (λ p. counted o.id id p ws) at) (λ e f. f) (λ e. let no : true ≡ false = sym explicit ∙ e in cc) (λ l. tt) tt
          (bare v cells seats st j s there x role o one w o tt (subst AddsNone (sym at) tt) (λ e. let no : true ≡ false = sym explicit ∙ e in cc))))
          (plain_acts v st.ledger seats history st.transcripts_agree j s there x w role dw.runs.number dw.runs.is (answers e ∷ []) (plain_answer e, tt)
          (paid v now_at x w e (Some o.id) shown_is dw.runs.now.running dw.runs.now.so_far.statements (dw.runs.now.under ∙ ap text_at at) before_is opens (dw.runs.now.so_far.pending ∙ (λ i. shown_at v.meaning (at i) (one i))) pays_now, tt)
          (record {
            running = dw.runs.now.running;
            transcript = ap (λ (t : Transcript). record { session = t.session; entries = t.entries ++ e ∷ [] }) dw.runs.now.transcript;
            under = refl;
            open_one = subst (λ (g : Option SessionTransaction). AreTransactions g w w.open_one) (sym dw.has) (record {
              id = dw.is.id;
              explicit = dw.is.explicit;
              script = dw.is.script;
              end = dw.is.end;
              asked = λ u. subst (λ (p : SessionStatus). Each (λ b. b.1 ≡ true → In b.0 (map (λ l. l.0) (o.script ++ lines_at p))) dw.transaction.asked) at (dw.is.asked u);
              heard = heard_still x.place w.place dw.transaction.answered dw.transaction.asked (ap asking at) dw.is.heard;
            });
            so_far = written v now_at x w e (Some o.id) shown_is (acted now_at (answers e)).so_far refl refl dw.runs.now.so_far.statements tt before_is opens pays_now refl (λ i. if sym explicit i then Some o.id else None)
                ((λ i. images_of 0 now_at.so_far.entries + image_at (sym at i)) ∙ dw.runs.now.so_far.images);
          })
          (record { images = refl; moments = refl; earlier = refl })) (plain_owner _ _ _ _ _ _ _ _ _ _ _ _ _ _ _ _ _ _)
