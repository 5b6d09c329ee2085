-- A statement is answered with the end line of its transaction; a session ends.
use Rattle.std.proofs.Common.{◌≡◌, ℕ, ◌+◌, List, [], ◌∷◌, ◌++◌, Option, Some, None, slice_set, refl, sym, ap, ◌∙◌, subst}
use Rattle.std.specs.Prelude.{if◌then◌else◌}
use mathlib.Core.Option.{some}
use lib.ListN.{get_elem?}
use Rattle.sql_types.specs.declared.lock.Hold.{Hold}
use Rattle.sql_types.specs.declared.reply.Reply.{Reply}
use Rattle.sql_types.specs.declared.table.TableDef.{TableDef}
use Rattle.sql_types.specs.declared.lock.Mode.TheVariants.{X}
use Rattle.spec_model.specs.Locks.{whole}
use Rattle.spec_history.specs.Lists.{Text, In}
use Rattle.spec_history.specs.Transcripts.{EndLine, Entry, statement, end_of_session, Transcript}
use Rattle.spec_history.specs.Facts.{Fact, over, open_after, open_at_end}
use Rattle.spec_history.specs.Transactions.{End, unfixed, committed, ended}
use Rattle.spec_history.specs.Acts.{releases_locks, answers, stops, by}
use Rattle.spec_history.specs.Sessions.{SessionTransaction, SessionState, acted}
use Rattle.spec_history.specs.Worlds.{World, first, run, step}
use Rattle.spec_history.specs.Guards.{Fixed, images_of, Answers, AtRest, ReleasesLocks}
use Rattle.spec_protocol.specs.Server.{Server}
use Rattle.spec_protocol.specs.Cells.{Cell, catalog_at}
use Rattle.spec_protocol.specs.Contents.{Contents, Known, contents, known}
use Rattle.spec_protocol.specs.Answering.{end_line, with_entry}
use Rattle.spec_protocol.specs.Alone.{over as session_over, IsReleased}
use Rattle.spec_protocol.specs.TranscriptsSoFar.{image_at, shown_at, open_before, Fits}
use Rattle.spec_protocol.specs.Moves.{sits}
use Rattle.spec_protocol.specs.OpenOnes.{HasOpen, text_at}
use Rattle.spec_protocol.specs.Parts.{asking, AreTransactions}
use Rattle.spec_protocol.specs.Seats.{OpenTransaction, answering, between, inside, leaving, idle, Session, session, SeatState}
use Rattle.spec_protocol.specs.StandTogether.{History, Stands, StandsAfter}
use Rattle.law_protocol_steps.proofs.AloneTurns.{alone_after}
use Rattle.law_protocol_steps.proofs.AnonymousActs.{IsPlain, at_after, plain_acts, plain_owner}
use Rattle.law_protocol_changes.proofs.DigestsStand.{no_turn}
use Rattle.law_protocol_ledger.proofs.Entries.{open_snoc, Pays, line_is, pays_end_at, pays_leaving}
use Rattle.law_protocol_steps.proofs.Heard.{heard_all}
use Rattle.law_protocol_steps.proofs.Ids.{each_in, Running, running, InTransaction, in_transaction}
use Rattle.law_protocol_steps.proofs.OpenSeats.{Own, owns_none, owns_one, one_open}
use Rattle.law_protocol_ledger.proofs.Overs.{over_agrees, over_owner}
use Rattle.law_protocol_ledger.proofs.StepsTake.{plain_answer, paid, written}
use Rattle.law_protocol_steps.proofs.Turns.{Turns}

pub plain_free : IsPlain releases_locks
plain_free = record { items = λ x. refl; ids = refl; issued = refl; marks = refl; images = refl }

pub plain_stop : IsPlain stops
plain_stop = record { items = λ x. refl; ids = refl; issued = refl; marks = refl; images = refl }

is_fixed : (o : OpenTransaction) (e : End) (line : EndLine) → end_line o e ≡ Some line → Fixed e
is_fixed o unfixed line e = cc
is_fixed o (committed n) line e = tt
is_fixed o (ended n back) line e = tt

none_transaction : (z : Option SessionTransaction) (x : Session) → AreTransactions z x None → z ≡ None
none_transaction None x e = refl
none_transaction (Some d) x e = absurd e

module _ (v : Server) (cells : List Cell) (seats : List SeatState) {history : History} (st : Stands v history cells seats) (j : ℕ) (s : SeatState) (there : get_elem? seats j ≡ some s) (x : Session) (role : s.role ≡ session x) where
  abbrev c : Contents
  c = contents cells

  abbrev k : Known
  k = known v.reads st.ledger.items

  -- ---- where none is open the session stops

  module _ (at : x.place ≡ between) (free : x.open_one ≡ None) where
    r : Running v.meaning history (st.transcripts_agree.of_seat j) x
    r = running v history st.ledger seats st.transcripts_agree j s x there role

    abbrev sess : SessionState
    sess = (run first history).at r.number

    rests : AtRest sess
    rests = record {
      idle = r.now.under ∙ ap text_at at;
      shown = r.now.so_far.pending ∙ (λ i. shown_at v.meaning (at i) x.open_one);
      none_open = r.now.so_far.open_before ∙ (λ i. open_before v.meaning (at i) (free i));
      free = none_transaction sess.transaction x (subst (AreTransactions sess.transaction x) free r.now.open_one);
    }

    owns_nothing : (z : Session) (u : OpenTransaction) → Own (session_over x s) z u → ⊥
    owns_nothing z u w = let f : idle ≡ session z = w.role in cc

    pub stopped : StandsAfter v j history (stops ∷ []) cells (slice_set seats j (session_over x s))
    stopped = alone_after v cells seats st j s there (session_over x s) _ (no_turn v c k st.catalog.defs s (session_over x s) (owns_none s x role free) owns_nothing)
        (over_agrees v st.ledger seats history st.transcripts_agree j s there x x role r.number r.is (stops ∷ []) (plain_stop, tt) ((r.now.running, rests), tt) refl r.now.transcript (record { images = refl; moments = refl; earlier = refl })) (over_owner _ _ _ _ _ _ _ _ _ _ _ _ _ _ _ _ _ _ _)

  -- ---- a transaction that holds nothing any more

  module _ (o : OpenTransaction) (one : x.open_one ≡ Some o) (line : EndLine) (is : end_line o o.end ≡ Some line) (released : IsReleased o) where
    has : HasOpen seats j x o
    has = record { seat = s; there = there; role = role; open_one = one }

    no_lock : (i : ℕ) (h : Hold) → In h (c.holds i) → o.id ≡ h.tx → ⊥
    no_lock i h e mine = let b = st.locks_cover.belong i h e in
        let here : j ≡ b.j = b.only j x o has mine in
        let same : b.o ≡ o = (one_open seats j b.x x b.o o (subst (λ n. HasOpen seats n b.x b.o) (sym here) b.has) has).1 in
        subst (λ u. (In i u.released → ⊥)) same b.unreleased (each_in (λ n. In n o.released) o.visited i released (subst (λ u. In i u.visited) same b.visited))

    released_turn : (t : SeatState) → ((z : Session) (u : OpenTransaction) → Own t z u → ⊥) → Turns v c k st.catalog.defs s t
    released_turn t free = record {
      came = λ i h e w. absurd (free w.x w.o w.own);
      locks = λ i h e w. absurd (no_lock i h e (ap (λ u. u.id) (owns_one s x role o one w.x w.o w.own) ∙ w.mine));
      stands = λ z u text w alone out lock. absurd (no_lock catalog_at (record { tx = u.id; request = whole X }) lock (ap (λ u. u.id) (owns_one s x role o one z u w)));
      script = λ z u w e. absurd (free z u w);
      trees = λ z u w e. absurd (free z u w);
      cover = λ z u w. absurd (free z u w);
      unreleased = λ z u w e. absurd (free z u w);
      looked = λ z u w e. absurd (free z u w);
      definitions = λ z u n w. absurd (free z u w);
      got = λ z u w. absurd (free z u w);
      owes = λ z u w. absurd (free z u w);
    }

    d : InTransaction v.meaning history (st.transcripts_agree.of_seat j) x o
    d = in_transaction v history st.ledger seats st.transcripts_agree j x o has

    abbrev n : ℕ
    n = d.runs.number

    abbrev w0 : World
    w0 = run first history

    abbrev old : SessionState
    old = w0.at n

    abbrev freed : SessionState
    freed = acted old releases_locks

    w1_at : (step w0 (by n releases_locks)).at n ≡ freed
    w1_at = at_after w0 n releases_locks

    releases_locks_ok : asking x.place ≡ [] → ReleasesLocks v.meaning old
    releases_locks_ok none = record { mine = d.transaction; running = d.runs.now.running; has = d.has; fixed = subst Fixed (sym d.is.end) (is_fixed o o.end line is); all_answered = heard_all x.place d.transaction.answered d.transaction.asked none d.is.heard }

    -- the answer of a statement
    module _ (text : Text) (a : Reply) (def : Option TableDef) (at : x.place ≡ inside text (answering a def)) where
      abbrev e : Entry
      e = statement text a (Some line)

      abbrev y : Session
      y = with_entry e None between x

      abbrev before : Option ℕ
      before = open_before v.meaning (inside text (answering a def)) (Some o)

      abbrev shown : List Fact
      shown = shown_at v.meaning (inside text (answering a def)) (Some o) ++ over ∷ []

      opens : open_at_end None old.so_far.entries ≡ before
      opens = d.runs.now.so_far.open_before ∙ (λ i. open_before v.meaning (at i) (one i))

      pays : Pays v.meaning (images_of 0 old.so_far.entries) before shown e None
      pays = pays_end_at v.meaning (images_of 0 old.so_far.entries) text a def o line is (subst (λ p. Fits v.meaning (images_of 0 old.so_far.entries) p (Some o)) at (subst (Fits v.meaning (images_of 0 old.so_far.entries) x.place) one d.runs.now.so_far.fits))

      guard : Answers v.meaning freed e
      guard = paid v freed x y e None shown d.runs.now.running d.runs.now.so_far.statements (d.runs.now.under ∙ ap text_at at) before opens (ap (λ (l : List Fact). l ++ over ∷ []) (d.runs.now.so_far.pending ∙ (λ i. shown_at v.meaning (at i) (one i)))) pays

      pub answered_end : StandsAfter v j history (releases_locks ∷ answers e ∷ []) cells (slice_set seats j (sits s y))
      answered_end = alone_after v cells seats st j s there (sits s y) _ (released_turn (sits s y) (owns_none (sits s y) y refl refl))
          (plain_acts v st.ledger seats history st.transcripts_agree j s there x y role n d.runs.is (releases_locks ∷ answers e ∷ []) (plain_free, (plain_answer e, tt))
          (releases_locks_ok (ap asking at), (subst (λ z. Answers v.meaning z e) (sym w1_at) guard, tt))
          (record {
            running = d.runs.now.running;
            transcript = ap (λ (t : Transcript). record { session = t.session; entries = t.entries ++ e ∷ [] }) d.runs.now.transcript;
            under = refl;
            open_one = tt;
            so_far = written v freed x y e None shown (acted freed (answers e)).so_far refl refl d.runs.now.so_far.statements tt before opens pays refl refl ((λ i. images_of 0 old.so_far.entries + image_at (sym at i)) ∙ d.runs.now.so_far.images);
          })
          (record { images = refl; moments = refl; earlier = refl })) (plain_owner _ _ _ _ _ _ _ _ _ _ _ _ _ _ _ _ _ _)

    -- the session's end
    module _ (at : x.place ≡ leaving) where
      abbrev last : Entry
      last = end_of_session line

      abbrev z : Session
      z = with_entry last None between x

      fits_there : Fits v.meaning (images_of 0 old.so_far.entries) leaving (Some o)
      fits_there = subst (λ p. Fits v.meaning (images_of 0 old.so_far.entries) p (Some o)) at (subst (Fits v.meaning (images_of 0 old.so_far.entries) x.place) one d.runs.now.so_far.fits)

      opens_there : open_at_end None old.so_far.entries ≡ Some o.id
      opens_there = d.runs.now.so_far.open_before ∙ (λ i. open_before v.meaning (at i) (one i)) ∙ (λ i. if fits_there.0 i then Some o.id else None)

      pays_there : Pays v.meaning (images_of 0 old.so_far.entries) (Some o.id) (shown_at v.meaning leaving (Some o) ++ over ∷ []) last None
      pays_there = pays_leaving v.meaning (images_of 0 old.so_far.entries) o.id o.end line (sym (line_is v.meaning o o.end) ∙ is) fits_there.1

      guard_there : Answers v.meaning freed last
      guard_there = paid v freed x z last None (shown_at v.meaning leaving (Some o) ++ over ∷ []) d.runs.now.running d.runs.now.so_far.statements (d.runs.now.under ∙ ap text_at at) (Some o.id) opens_there (ap (λ (l : List Fact). l ++ over ∷ []) (d.runs.now.so_far.pending ∙ (λ i. shown_at v.meaning (at i) (one i)))) pays_there

      abbrev done : SessionState
      done = acted freed (answers last)

      rests_there : AtRest done
      rests_there = record {
        idle = refl;
        shown = refl;
        none_open = open_snoc None old.so_far.entries last ∙ ap (λ (b : Option ℕ). open_after b last) opens_there ∙ pays_there.after;
        free = refl;
      }

      w2_at : (step (step w0 (by n releases_locks)) (by n (answers last))).at n ≡ done
      w2_at = at_after (step w0 (by n releases_locks)) n (answers last) ∙ ap (λ y. acted y (answers last)) w1_at

      owns_no_one : (y : Session) (u : OpenTransaction) → Own (session_over z s) y u → ⊥
      owns_no_one y u w = let f : idle ≡ session y = w.role in cc

      pub left : StandsAfter v j history (releases_locks ∷ answers last ∷ stops ∷ []) cells (slice_set seats j (session_over z s))
      left = alone_after v cells seats st j s there (session_over z s) _ (released_turn (session_over z s) owns_no_one)
          (over_agrees v st.ledger seats history st.transcripts_agree j s there x z role n d.runs.is (releases_locks ∷ answers last ∷ stops ∷ []) (plain_free, (plain_answer last, (plain_stop, tt)))
          (releases_locks_ok (ap asking at), (subst (λ y. Answers v.meaning y last) (sym w1_at) guard_there, (((ap (λ y. y.phase) w2_at ∙ d.runs.now.running), subst AtRest (sym w2_at) rests_there), tt)))
          refl
          (ap (λ (t : Transcript). record { session = t.session; entries = t.entries ++ last ∷ [] }) d.runs.now.transcript)
          (record { images = refl; moments = refl; earlier = refl })) (over_owner _ _ _ _ _ _ _ _ _ _ _ _ _ _ _ _ _ _ _)
