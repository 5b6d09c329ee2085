-- Steps of a seat alone at which nothing is said: a session leaves, a statement is refused outside a transaction, memory is wanting.
use Rattle.std.proofs.Common.{◌≡◌, ℕ, ◌+◌, not, Bool, true, false, List, [], ◌∷◌, ◌++◌, map, length, Option, Some, None, slice_set, refl, sym, ap, ◌∙◌, subst, ⊎_elim, append-nil}
use Rattle.std.specs.Prelude.{if◌then◌else◌}
use mathlib.Core.Option.{some}
use lib.ListN.{get_elem?}
use Rattle.sql_value.specs.declared.refusal.Refusal.TheVariants.{NoMemory}
use Rattle.sql_types.specs.declared.reply.Reply.{Reply}
use Rattle.sql_types.specs.declared.reply.Reply.TheVariants as reply
use Rattle.sql_types.specs.declared.version.Version.{Version}
use Rattle.spec_model.specs.Catalog.{Tables, NamedPart, defs_of}
use Rattle.spec_model.specs.Journals.{Line}
use Rattle.spec_history.specs.Lists.{Text, Each, In}
use Rattle.spec_history.specs.Transcripts.{rows, kind_of}
use Rattle.spec_history.specs.Facts.{Fact, began, failed, facts_outside}
use Rattle.spec_history.specs.Transactions.{unfixed, on_some}
use Rattle.spec_history.specs.Acts.{fails}
use Rattle.spec_history.specs.Sessions.{SessionTransaction, SessionState, acted, hears}
use Rattle.spec_history.specs.Worlds.{first, run}
use Rattle.spec_protocol.specs.Server.{Server}
use Rattle.spec_protocol.specs.Cells.{Cell}
use Rattle.spec_protocol.specs.Contents.{Contents, Known, contents, known, HasAlone}
use Rattle.spec_protocol.specs.TranscriptsSoFar.{EndsLeaving, end_shown, is_begin, image_in, shown_inside, shown_alone, shown_with, FitsOwn, ProgressOpened, Fits}
use Rattle.spec_protocol.specs.Doing.{stage_refused}
use Rattle.spec_protocol.specs.LocksCover.{LookedAt, IsGotAt, LookedFirst}
use Rattle.spec_protocol.specs.Moves.{at_place, sits}
use Rattle.spec_protocol.specs.OpenOnes.{HasOpen, text_at, last_line, lines_at, texts_so_far}
use Rattle.spec_protocol.specs.OpenScripts.{counted, counted_in}
use Rattle.spec_protocol.specs.Parts.{asking_in, asking, AreTransactions}
use Rattle.spec_protocol.specs.Seats.{OpenTransaction, StatementProgress, begun, found, answering, refused, SessionStatus, between, inside, leaving, Session, session, SeatState}
use Rattle.spec_protocol.specs.StandTogether.{History, Stands, StandsAfter}
use Rattle.law_protocol_steps.proofs.AloneTurns.{Keeps, alone_stands, kept, keeps_turn, PlaceOwes, bare, alone_after}
use Rattle.law_protocol_steps.proofs.AnonymousActs.{IsPlain, plain_acts, plain_owner}
use Rattle.law_protocol_steps.proofs.TranscriptActs.{GoesFrom, goes_on}
use Rattle.law_protocol_steps.proofs.TranscriptProgress.{from_at, fits_if, if_fits, at_opened, memory_refused_own}
use Rattle.law_protocol_changes.proofs.DigestsStand.{no_turn}
use Rattle.law_protocol_steps.proofs.Heard.{heard_still, heard_answer, heard_now}
use Rattle.law_protocol_steps.proofs.Ids.{Running, running, InTransaction, in_transaction}
use Rattle.law_protocol_steps.proofs.InPlaces.{memory_refused_inside}
use Rattle.law_protocol_steps.proofs.OpenSeats.{owns_none}
use Rattle.law_protocol_changes.proofs.OutsideRefusals.{no_memory_facts}
use Rattle.law_protocol_steps.proofs.PlainPlaces.{AddsNone, none_added}
use Rattle.spec_model.specs.Columns.{fits}
use Rattle.spec_protocol.specs.TablesAreSerial.{HasActed, IsAdding}
use Rattle.spec_protocol.specs.ActsOf.{failed_acts, failed_in}
use Rattle.law_protocol_steps.proofs.GoesOn.{nothing_added, unacted, same_acts}

pub plain_fail : (text : Text) → IsPlain (fails text)
plain_fail text = record { items = λ x. refl; ids = refl; issued = refl; marks = refl; images = refl }

no_transaction : (z : Option SessionTransaction) (x y : Session) → AreTransactions z x None → AreTransactions z y None
no_transaction None x y e = tt
no_transaction (Some d) x y e = absurd e

module _ (v : Server) (cells : List Cell) (seats : List SeatState) {history : History} (st : Stands v history cells seats) (j : ℕ) (s : SeatState) (there : get_elem? seats j ≡ some s) (x : Session) (role : s.role ≡ session x) where
  abbrev c : Contents
  c = contents cells

  abbrev k : Known
  k = known v.reads st.ledger.items

  -- ---- where no transaction is open

  module _ (text : Text) (at : x.place ≡ inside text begun) (free : x.open_one ≡ None) where
    r : Running v.meaning history (st.transcripts_agree.of_seat j) x
    r = running v history st.ledger seats st.transcripts_agree j s x there role

    abbrev sess : SessionState
    sess = (run first history).at r.number

    abbrev y : Reply → Session
    y a = at_place None (inside text (answering a None)) x

    pub outside_stands : (a : Reply) → image_in (answering a None) ≡ 0 → ((n : ℕ) → n + 0 ≡ length x.images → Rattle.spec_protocol.specs.TranscriptsSoFar.FitsOutside v.meaning n text a × (facts_outside v.meaning (kind_of (v.meaning.reads text)) text a None ≡ []))
        → Stands v history cells (slice_set seats j (sits s (at_place None (inside text (answering a None)) x)))
    outside_stands a no_image fits = alone_stands v cells seats st j s there _ history
        (no_turn v c k st.catalog.defs s _ (owns_none s x role free) (owns_none (sits s (y a)) (y a) refl refl))
        (nothing_added v history st.ledger _ (plain_acts v st.ledger seats history st.transcripts_agree j s there x (y a) role r.number r.is [] tt tt (record {
          running = r.now.running;
          transcript = r.now.transcript;
          under = r.now.under ∙ ap text_at at;
          open_one = no_transaction sess.transaction x (y a) (subst (AreTransactions sess.transaction x) free r.now.open_one);
          so_far = goes_on v.meaning sess.so_far sess.so_far x (y a) [] refl (sym (append-nil sess.so_far.pending)) r.now.so_far (from_at v.meaning x (y a) (inside text begun) None [] at free refl (λ n i f. let g = fits n i in record { shown = sym g.1; before = refl; images = sym no_image; fits = g.0 }));
        }) (record { images = refl; moments = refl; earlier = refl })))

  -- ---- where one is open

  module _ (o : OpenTransaction) (one : x.open_one ≡ Some o) (open_end : o.end ≡ unfixed) where
    has : HasOpen seats j x o
    has = record { seat = s; there = there; role = role; open_one = one }

    d : InTransaction v.meaning history (st.transcripts_agree.of_seat j) x o
    d = in_transaction v history st.ledger seats st.transcripts_agree j x o has

    abbrev now_at : SessionState
    now_at = (run first history).at d.runs.number

    -- the session leaves
    pub leaves_stands : x.place ≡ between → o.explicit ≡ true → Stands v history cells (slice_set seats j (sits s (at_place (Some o) leaving x)))
    leaves_stands at explicit = alone_stands v cells seats st j s there _ history
        (keeps_turn v cells seats st j s there x role o one _ (at_place (Some o) leaving x) o refl refl
        (kept v cells seats st j s there x role o one (at_place (Some o) leaving x) o.script (ap (λ p. o.script ++ lines_at p) at) (λ id ws. ap (λ p. counted o.id id p ws) at) (λ e f. f) (λ e. let no : true ≡ false = sym explicit ∙ e in cc) (λ l. tt) tt
        (bare v cells seats st j s there x role o one (at_place (Some o) leaving x) o tt (subst AddsNone (sym at) tt) (λ e. let no : true ≡ false = sym explicit ∙ e in cc))))
        (nothing_added v history st.ledger _ (plain_acts v st.ledger seats history st.transcripts_agree j s there x (at_place (Some o) leaving x) role d.runs.number d.runs.is [] tt tt (record {
          running = d.runs.now.running;
          transcript = d.runs.now.transcript;
          under = d.runs.now.under ∙ ap text_at at;
          open_one = subst (λ (w : Option SessionTransaction). AreTransactions w (at_place (Some o) leaving x) (Some o)) (sym d.has) (record {
            id = d.is.id;
            explicit = d.is.explicit;
            script = d.is.script;
            end = d.is.end;
            asked = λ u. subst (λ (p : SessionStatus). Each (λ a. a.1 ≡ true → In a.0 (map (λ l. l.0) (o.script ++ lines_at p))) d.transaction.asked) at (d.is.asked u);
            heard = heard_still x.place leaving d.transaction.answered d.transaction.asked (ap asking at) d.is.heard;
          });
          so_far = goes_on v.meaning now_at.so_far now_at.so_far x (at_place (Some o) leaving x) [] refl (sym (append-nil now_at.so_far.pending)) d.runs.now.so_far (from_at v.meaning x (at_place (Some o) leaving x) between (Some o) [] at one refl (λ n i f. record {
            shown = ap end_shown (sym open_end);
            before = refl;
            images = refl;
            fits = (explicit, subst EndsLeaving (sym open_end) tt);
          }));
        }) (record { images = refl; moments = refl; earlier = refl })))

    -- memory is wanting: from one stage to another, which shows this
    module _ (text : Text) (stage next : StatementProgress) (at : x.place ≡ inside text stage) (no_lines : last_line text stage ≡ []) (no_lines_then : last_line text next ≡ []) (all_count : (id : ℕ) (ws : List Version) → counted_in o.id id stage ws ≡ ws) (all_count_then : (id : ℕ) (ws : List Version) → counted_in o.id id next ws ≡ ws)
        (got : (T : Tables) (E : Type 0) (b : Bool) → IsGotAt v T E b (inside text next)) (looked : LookedAt v c (defs_of k.tables) o.id o.explicit (inside text next))
        (owes : PlaceOwes v cells seats st j s there x role o one (at_place (Some o) (inside text next) x) o) where
      abbrev z : Session
      z = at_place (Some o) (inside text next) x

      same_lines : o.script ++ lines_at x.place ≡ o.script ++ lines_at (inside text next)
      same_lines = ap (λ p. o.script ++ lines_at p) at ∙ ap (λ (ls : List Line). o.script ++ ls) (no_lines ∙ sym no_lines_then)

      keeps_it : Keeps v cells seats st j s there x role o one z o
      keeps_it = kept v cells seats st j s there x role o one z o.script same_lines (λ id ws. ap (λ p. counted o.id id p ws) at ∙ all_count id ws ∙ sym (all_count_then id ws)) (λ e f. f) (λ e. ap text_at at) (λ l. got k.tables (HasAlone c o.id) (not (k.has o.id))) looked owes

      asked_then : o.end ≡ unfixed → Each (λ a. a.1 ≡ true → In a.0 (texts_so_far z o)) d.transaction.asked
      asked_then u = subst (λ ls. Each (λ a. a.1 ≡ true → In a.0 (map (λ l. l.0) ls)) d.transaction.asked) same_lines (d.is.asked u)

      pub fails_stands : GoesFrom v.meaning x z (failed text ∷ []) → StandsAfter v j history (fails text ∷ []) cells (slice_set seats j (sits s z))
      fails_stands goes = alone_after v cells seats st j s there _ _ (keeps_turn v cells seats st j s there x role o one _ z o refl refl keeps_it)
          (plain_acts v st.ledger seats history st.transcripts_agree j s there x z role d.runs.number d.runs.is (fails text ∷ []) (plain_fail text, tt)
          ((d.transaction, record { runs = d.runs.now.running; has = d.has; unfixed = d.is.end ∙ open_end }), tt)
          (record {
            running = d.runs.now.running;
            transcript = d.runs.now.transcript;
            under = d.runs.now.under ∙ ap text_at at;
            open_one = subst (λ (w : Option SessionTransaction). AreTransactions (on_some (hears text true) w) z z.open_one) (sym d.has) (record {
              id = d.is.id;
              explicit = d.is.explicit;
              script = d.is.script;
              end = d.is.end;
              asked = λ u. ((λ f. cc), asked_then u);
              heard = (heard_now z.place d.transaction.answered text false, heard_answer x.place z.place d.transaction.answered d.transaction.asked text (ap text_at at) d.is.heard);
            });
            so_far = goes_on v.meaning now_at.so_far (acted now_at (fails text)).so_far x z (failed text ∷ []) refl refl d.runs.now.so_far goes;
          }) (record { images = refl; moments = refl; earlier = refl })) (plain_owner _ _ _ _ _ _ _ _ _ _ _ _ _ _ _ _ _ _)

      pub quiet_stands : asking_in text stage ≡ [] → GoesFrom v.meaning x z [] → Stands v history cells (slice_set seats j (sits s z))
      quiet_stands none goes = alone_stands v cells seats st j s there _ history (keeps_turn v cells seats st j s there x role o one _ z o refl refl keeps_it)
          (nothing_added v history st.ledger _ (plain_acts v st.ledger seats history st.transcripts_agree j s there x z role d.runs.number d.runs.is [] tt tt
          (record {
            running = d.runs.now.running;
            transcript = d.runs.now.transcript;
            under = d.runs.now.under ∙ ap text_at at;
            open_one = subst (λ (w : Option SessionTransaction). AreTransactions w z z.open_one) (sym d.has) (record {
              id = d.is.id;
              explicit = d.is.explicit;
              script = d.is.script;
              end = d.is.end;
              asked = asked_then;
              heard = heard_still x.place z.place d.transaction.answered d.transaction.asked (ap asking at ∙ none) d.is.heard;
            });
            so_far = goes_on v.meaning now_at.so_far now_at.so_far x z [] refl (sym (append-nil now_at.so_far.pending)) d.runs.now.so_far goes;
          }) (record { images = refl; moments = refl; earlier = refl })))

      -- one of its own
      pub own_fails : o.explicit ≡ false → shown_alone v.meaning text stage ≡ [] → image_in stage ≡ 0 → shown_alone v.meaning text next ≡ failed text ∷ [] → image_in next ≡ 0
          → ((n : ℕ) → FitsOwn v.meaning n text (reply.Refused NoMemory) → Rattle.spec_protocol.specs.TranscriptsSoFar.ProgressOwn v.meaning n text next) → StandsAfter v j history (fails text ∷ []) cells (slice_set seats j (sits s z))
      own_fails own nothing none shows none_then fits = fails_stands (from_at v.meaning x z (inside text stage) (Some o) (failed text ∷ []) at one refl (λ n i f. let g = fits_if v.meaning n text stage o false own f in record {
        shown = (λ i. (shown_with v.meaning (own i) o.id text stage ++ end_shown (open_end i)) ++ failed text ∷ []) ∙ ap (λ (l : List Fact). ((began o.id false ∷ l) ++ []) ++ failed text ∷ []) nothing ∙ ap (λ (l : List Fact). (began o.id false ∷ l) ++ []) (sym shows)
            ∙ (λ i. shown_with v.meaning (sym own i) o.id text next ++ end_shown (sym open_end i));
        before = (λ i. if own i then (if is_begin stage then None else Some o.id) else None) ∙ (λ i. if sym own i then (if is_begin next then None else Some o.id) else None);
        images = none ∙ sym none_then;
        fits = if_fits v.meaning n text next o false own (g.0, fits n (memory_refused_own v.meaning n text o.end g.0));
      }))

      -- one that BEGIN opened
      pub opened_fails : o.explicit ≡ true → shown_inside v.meaning (kind_of (v.meaning.reads text)) text stage ≡ [] → is_begin stage ≡ false → image_in stage ≡ 0 → is_begin next ≡ false → image_in next ≡ 0
          → shown_inside v.meaning (kind_of (v.meaning.reads text)) text next ≡ failed text ∷ [] → ((n : ℕ) → ProgressOpened v.meaning n text o.id unfixed next) → StandsAfter v j history (fails text ∷ []) cells (slice_set seats j (sits s z))
      opened_fails explicit nothing not_begin none still_not none_then shows fits = fails_stands (from_at v.meaning x z (inside text stage) (Some o) (failed text ∷ []) at one refl (λ n i f. at_opened v.meaning n text o o stage next (failed text ∷ []) explicit open_end refl explicit open_end nothing not_begin none shows still_not none_then (fits n)))

      pub opened_quiet : asking_in text stage ≡ [] → o.explicit ≡ true → shown_inside v.meaning (kind_of (v.meaning.reads text)) text stage ≡ [] → is_begin stage ≡ false → image_in stage ≡ 0 → is_begin next ≡ false → image_in next ≡ 0
          → shown_inside v.meaning (kind_of (v.meaning.reads text)) text next ≡ [] → ((n : ℕ) → ProgressOpened v.meaning n text o.id unfixed next) → Stands v history cells (slice_set seats j (sits s z))
      opened_quiet none_asked explicit nothing not_begin none still_not none_then shows fits = quiet_stands none_asked (from_at v.meaning x z (inside text stage) (Some o) [] at one refl (λ n i f. at_opened v.meaning n text o o stage next [] explicit open_end refl explicit open_end nothing not_begin none shows still_not none_then (fits n)))

    -- before it visits a cell
    pub no_memory_stands : (text : Text) → x.place ≡ inside text begun → StandsAfter v j history (failed_in v.meaning (Some o) text) cells (slice_set seats j (sits s (at_place (Some o) (inside text (answering (reply.Refused NoMemory) None)) x)))
    no_memory_stands text at = by_explicit o.explicit refl
      where
        by_explicit : (b : Bool) → o.explicit ≡ b → StandsAfter v j history (failed_in v.meaning (Some o) text) cells (slice_set seats j (sits s (at_place (Some o) (inside text (answering (reply.Refused NoMemory) None)) x)))
        by_explicit false own = same_acts v (ap (λ (z : Bool). if z then failed_acts (kind_of (v.meaning.reads text)) text else fails text ∷ []) (sym own)) (own_fails text begun (answering (reply.Refused NoMemory) None) at refl refl (λ id ws. refl) (λ id ws. refl) (λ T E b. tt) tt (bare v cells seats st j s there x role o one (at_place (Some o) (inside text (answering (reply.Refused NoMemory) None)) x) o tt (subst AddsNone (sym at) tt) (λ e f. tt)) own refl refl refl refl (λ n f. f))
        by_explicit true explicit = ⊎_elim
            (λ e. same_acts v (sym e.1 ∙ ap (λ (z : Bool). if z then failed_acts (kind_of (v.meaning.reads text)) text else fails text ∷ []) (sym explicit)) (unacted v (opened_quiet text begun (answering (reply.Refused NoMemory) None) at refl refl (λ id ws. refl) (λ id ws. refl) (λ T E b. tt) tt (bare v cells seats st j s there x role o one (at_place (Some o) (inside text (answering (reply.Refused NoMemory) None)) x) o tt (subst AddsNone (sym at) tt) (λ e f. tt)) refl explicit refl refl refl refl refl e.0 (λ n. memory_refused_inside v.meaning n text o.id))))
            (λ e. same_acts v (sym e.1 ∙ ap (λ (z : Bool). if z then failed_acts (kind_of (v.meaning.reads text)) text else fails text ∷ []) (sym explicit)) (opened_fails text begun (answering (reply.Refused NoMemory) None) at refl refl (λ id ws. refl) (λ id ws. refl) (λ T E b. tt) tt (bare v cells seats st j s there x role o one (at_place (Some o) (inside text (answering (reply.Refused NoMemory) None)) x) o tt (subst AddsNone (sym at) tt) (λ e f. tt)) explicit refl refl refl refl refl e.0 (λ n. memory_refused_inside v.meaning n text o.id)))
            (no_memory_facts v.meaning text (kind_of (v.meaning.reads text)))

    -- after it visited the catalog's
    pub no_memory_then_stands : (text : Text) (named : Option NamedPart) (fresh : Bool) → x.place ≡ inside text (found named fresh) → StandsAfter v j history (fails text ∷ []) cells (slice_set seats j (sits s (at_place (Some o) (inside text (stage_refused fresh (reply.Refused NoMemory))) x)))
    no_memory_then_stands text named fresh at = by_both fresh o.explicit at refl
      where
        fits_now : (n : ℕ) (f : Bool) → x.place ≡ inside text (found named f) → Fits v.meaning n x.place x.open_one → Fits v.meaning n (inside text (found named f)) (Some o)
        fits_now n f e g = subst (λ p. Fits v.meaning n p (Some o)) e (subst (Fits v.meaning n x.place) one g)

        rows_there : (f : Bool) → x.place ≡ inside text (found named f) → o.explicit ≡ true → kind_of (v.meaning.reads text) ≡ rows
        rows_there f e explicit = (fits_if v.meaning _ text (found named f) o true explicit (fits_now _ f e d.runs.now.so_far.fits)).1

        found_bare : x.place ≡ inside text (found named false) → PlaceOwes v cells seats st j s there x role o one (at_place (Some o) (inside text (answering (reply.Refused NoMemory) None)) x) o
        found_bare e = bare v cells seats st j s there x role o one (at_place (Some o) (inside text (answering (reply.Refused NoMemory) None)) x) o tt (subst AddsNone (sym e) tt) (λ d f. tt)

        found_first : x.place ≡ inside text (found named true) → PlaceOwes v cells seats st j s there x role o one (at_place (Some o) (inside text (refused (reply.Refused NoMemory))) x) o
        found_first e = record {
          still = record { acted = λ d f. absurd (subst HasActed e f); adding = λ after i a. absurd (none_added (inside text (found named true)) o after i tt (subst (λ q. IsAdding q o after i) e a)) };
          indexed = tt;
          looked_first = λ f. let w = st.locks_cover.looked_first j x o has open_end (subst LookedFirst (sym e) tt) in record { before = w.before; elsewhere = w.elsewhere; shares = w.shares };
          dropping = λ d. absurd d;
          back = tt;
          explicit = tt;
        }

        by_both : (f b : Bool) → x.place ≡ inside text (found named f) → o.explicit ≡ b → StandsAfter v j history (fails text ∷ []) cells (slice_set seats j (sits s (at_place (Some o) (inside text (stage_refused f (reply.Refused NoMemory))) x)))
        by_both true false e own = own_fails text (found named true) (refused (reply.Refused NoMemory)) e refl refl (λ id ws. refl) (λ id ws. refl) (λ T E b. tt) (subst (LookedAt v c (defs_of k.tables) o.id o.explicit) e (st.locks_cover.looked j x o has open_end)) (found_first e) own refl refl refl refl (λ n f. f)
        by_both false false e own = own_fails text (found named false) (answering (reply.Refused NoMemory) None) e refl refl (λ id ws. refl) (λ id ws. refl) (λ T E b. tt) tt (found_bare e) own refl refl refl refl (λ n f. f)
        by_both true true e explicit = opened_fails text (found named true) (refused (reply.Refused NoMemory)) e refl refl (λ id ws. refl) (λ id ws. refl) (λ T E b. tt) (subst (LookedAt v c (defs_of k.tables) o.id o.explicit) e (st.locks_cover.looked j x o has open_end)) (found_first e) explicit refl refl refl refl refl
            (ap (λ a. shown_inside v.meaning a text (refused (reply.Refused NoMemory))) (rows_there true e explicit)) (λ n. memory_refused_inside v.meaning n text o.id)
        by_both false true e explicit = opened_fails text (found named false) (answering (reply.Refused NoMemory) None) e refl refl (λ id ws. refl) (λ id ws. refl) (λ T E b. tt) tt (found_bare e) explicit refl refl refl refl refl
            (ap (λ a. shown_inside v.meaning a text (answering (reply.Refused NoMemory) None)) (rows_there false e explicit)) (λ n. memory_refused_inside v.meaning n text o.id)
