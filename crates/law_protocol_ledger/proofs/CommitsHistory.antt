-- A commit as an act of the history.
use Rattle.std.proofs.Common.{◌≡◌, ◌≢◌, ℕ, ◌+◌, ◌<◌, ◌≤◌, ◌⊎◌, List, [], ◌∷◌, ◌++◌, map, length, flat_map, Option, Some, None, slice_set, refl, sym, ap, ◌∙◌, subst, inl, inr, ⊎_elim, append-nil, arith}
use mathlib.Core.Option.{some}
use lib.ListN.{get_elem?}
use Rattle.sql_types.specs.declared.journal.JournalItem.{JournalItem}
use Rattle.sql_types.specs.declared.journal.JournalItem.TheVariants.{Tx}
use Rattle.sql_types.specs.declared.reply.Reply.{Reply}
use Rattle.spec_model.specs.Catalog.{Tables, defs_of}
use Rattle.spec_model.specs.Events.{all_events}
use Rattle.spec_model.specs.Journals.{tx_count, serial, AgreesWith}
use Rattle.spec_model.specs.Script.{script}
use Rattle.spec_history.specs.Lists.{Text, Each, In}
use Rattle.spec_history.specs.Serial.{texts_of, replies_of, ScriptReplays}
use Rattle.spec_history.specs.Serial as whole
use Rattle.spec_history.specs.Facts.{placed}
use Rattle.law_protocol_steps.proofs.TranscriptActs.{GoesFrom, goes_on}
use Rattle.law_protocol_steps.proofs.Heard.{heard_still}
use Rattle.spec_history.specs.Transactions.{unfixed, committed, on_some}
use Rattle.spec_history.specs.Transcripts.{Transcript}
use Rattle.spec_history.specs.Journals.{times}
use Rattle.spec_history.specs.Acts.{commits, Act, by}
use Rattle.spec_history.specs.Sessions.{SessionTransaction, SessionState, fixes, acted}
use Rattle.spec_history.specs.Worlds.{first, run, item_of, tables}
use Rattle.spec_history.specs.Guards.{Commits, NoTable}
use Rattle.spec_history.proofs.Settles.{in_append, in_left, in_right}
use Rattle.spec_history.proofs.Trace.{count_append}
use Rattle.spec_protocol.specs.Server.{Server}
use Rattle.spec_protocol.specs.Cells.{LedgerCell}
use Rattle.spec_protocol.specs.Seats.{OpenTransaction, answering, inside, Session, Written, Role, session, SeatState}
use Rattle.spec_protocol.specs.OpenOnes.{text_at}
use Rattle.spec_protocol.specs.Moves.{ending, at_place, at_moment, sits, marking}
use Rattle.spec_protocol.specs.LedgerVisits.{with_item, entry_of_trees}
use Rattle.spec_protocol.specs.Parts.{asking, AreTransactions, IsNow}
use Rattle.spec_protocol.specs.TranscriptsAgree.{session_moments, moments_of, TranscriptsAgree}
use Rattle.law_protocol_steps.proofs.Ids.{InTransaction, in_transaction}
use Rattle.law_protocol_steps.proofs.JournalMore.{same_serial}
use Rattle.law_protocol_steps.proofs.OneMore.{Acts, agrees_then, agrees_owner, images_stay_each}
use Rattle.law_protocol_steps.proofs.GoesOn.{Owned, one_number}
use Rattle.sql_types.specs.declared.entry.TxEntry.{TxEntry}

some_there : {A : Type 0} (xs : List A) → xs ≢ [] → 0 < length xs
some_there [] e = absurd (e refl)
some_there (x ∷ xs) e = omega arith

module _ (v : Server) (c : LedgerCell) (seats : List SeatState) (h : List Act) (agree : TranscriptsAgree v h c seats) (j : ℕ) (s : SeatState) (there : get_elem? seats j ≡ some s)
    (x : Session) (role : s.role ≡ session x) (o : OpenTransaction) (open_one : x.open_one ≡ Some o) (open_end : o.end ≡ unfixed) (time : ℕ) (text : Text) (stands : text_at x.place ≡ Some text) (reply : Reply) (none_asked : asking x.place ≡ [])
    (goes : GoesFrom v.meaning x (at_moment time (at_place (Some (ending (committed (tx_count c.items + 1)) o.script o)) (inside text (answering reply None)) x)) (placed (tx_count c.items + 1) ∷ [])) where
  abbrev T : Tables
  T = serial v.reads c.items

  abbrev texts : List Text
  texts = map (λ l. l.0) o.script

  abbrev place : ℕ
  place = tx_count c.items + 1

  abbrev entry : TxEntry
  entry = entry_of_trees v o x.transcript.session time

  abbrev item : JournalItem
  item = Tx o.id x.transcript.session time o.explicit o.script

  abbrev y : Session
  y = at_moment time (at_place (Some (ending (committed place) o.script o)) (inside text (answering reply None)) x)

  abbrev t : SeatState
  t = marking place (sits s y)

  abbrev pub d : InTransaction v.meaning h (agree.of_seat j) x o
  d = in_transaction v h c seats agree j x o (record { seat = s; there = there; role = role; open_one = open_one })

  abbrev n : ℕ
  n = d.runs.number

  abbrev sess : SessionState
  sess = (run first h).at n

  -- the meaning's tables are those of the journal
  tables_are : tables v.meaning (run first h) ≡ T
  tables_are = ap (whole.serial v.meaning v.meaning.first) agree.items ∙ same_serial v.reads v.hashing v.meaning v.real c.items

  texts_are : texts_of d.transaction.script ≡ texts
  texts_are = ap texts_of d.is.script

  abbrev After : Tables
  After = (script v.reads o.explicit T o.id texts).state.tables

  after_is : v.meaning.after d.transaction.explicit (tables v.meaning (run first h)) d.transaction.id (texts_of d.transaction.script) ≡ After
  after_is = (λ i. v.meaning.after (d.is.explicit i) (tables_are i) (d.is.id i) (texts_are i)) ∙ v.real.after o.explicit T o.id texts

  module _ (right : AgreesWith v.reads T o.id o.explicit o.script (script v.reads o.explicit T o.id texts)) where
    agrees : ScriptReplays v.meaning (tables v.meaning (run first h)) d.transaction.id d.transaction.explicit d.transaction.script
    agrees = record {
      replies = ap replies_of d.is.script ∙ right.replies ∙ sym (v.real.replies o.explicit T o.id texts) ∙ sym (λ i. v.meaning.replies (d.is.explicit i) (tables_are i) (d.is.id i) (texts_are i));
      acts = let e : v.meaning.events d.transaction.explicit (tables v.meaning (run first h)) d.transaction.id (texts_of d.transaction.script) ≡ length (all_events o.id After) = (λ i. v.meaning.events (d.is.explicit i) (tables_are i) (d.is.id i) (texts_are i)) ∙ v.real.events o.explicit T o.id texts in
          omega (arith, e, some_there (all_events o.id After) right.events);
    }

    -- the definitions stay, or nobody else has a statement that wants anything
    module _ (others : (defs_of After ≡ defs_of T) ⊎ ((m : ℕ) → m ≢ n → NoTable v.meaning ((run first h).at m).transaction)) where
      guard : Commits v.meaning (run first h) n time place
      guard = record {
        mine = d.transaction;
        stands = record { runs = d.runs.now.running; has = d.has; unfixed = d.is.end ∙ open_end };
        agrees = agrees;
        last = ap (λ (J : List JournalItem). tx_count J + 1) (sym agree.items);
        others = ⊎_elim (λ e. inl (ap v.meaning.defs after_is ∙ v.real.defs After ∙ e ∙ sym (v.real.defs T) ∙ ap v.meaning.defs (sym tables_are))) (λ e. inr e) others;
      }

      name_is : sess.name ≡ x.transcript.session
      name_is = ap (λ (z : Transcript). z.session) d.runs.now.transcript

      items_are : item_of sess sess.transaction time ≡ item ∷ []
      items_are = ap (λ (z : Option SessionTransaction). item_of sess z time) d.has ∙ (λ i. Tx (d.is.id i) (name_is i) time (d.is.explicit i) (d.is.script i) ∷ [])

      transaction_then : IsNow v.meaning (acted sess (commits time place)) y
      transaction_then = record {
        running = d.runs.now.running;
        transcript = d.runs.now.transcript;
        under = d.runs.now.under ∙ stands;
        open_one = subst (λ (z : Option SessionTransaction). AreTransactions (on_some (fixes (committed place)) z) y y.open_one) (sym d.has)
            (record { id = d.is.id; explicit = d.is.explicit; script = d.is.script; end = refl; asked = λ e. let f : committed place ≡ unfixed = e in cc; heard = heard_still x.place y.place d.transaction.answered d.transaction.asked none_asked d.is.heard });
        so_far = goes_on v.meaning sess.so_far (acted sess (commits time place)).so_far x y (placed place ∷ []) refl refl d.runs.now.so_far goes;
      }

      was_greatest : (s.least ≤ s.greatest) × (s.greatest ≤ tx_count c.items)
      was_greatest = (agree.agree j s there).greatest

      kept_moments : (i : ℕ) → In i (moments_of s) → In i (moments_of t)
      kept_moments i e = ⊎_elim
          (λ (a : In i (flat_map (λ (w : Written). w.moments) s.written)). in_left i (flat_map (λ (w : Written). w.moments) s.written) (x.moments ++ time ∷ []) a)
          (λ (a : In i x.moments). in_right i (flat_map (λ (w : Written). w.moments) s.written) (x.moments ++ time ∷ []) (in_left i x.moments (time ∷ []) a))
          (in_append i (flat_map (λ (w : Written). w.moments) s.written) x.moments (subst (λ (r : Role). In i (flat_map (λ (w : Written). w.moments) s.written ++ session_moments r)) role e))

      acts : Acts v h n (commits time place) c (with_item entry item c) s t
      acts = record {
        ok = guard;
        items = ap (λ (K : List JournalItem). c.items ++ K) (sym items_are);
        next = omega arith;
        issued = sym (append-nil c.issued);
        same_database = refl;
        same_size = refl;
        x = x;
        y = y;
        was = role;
        role = refl;
        same_name = refl;
        now = transaction_then;
        same_present = refl;
        seat_database = refl;
        seat_size = refl;
        same_written = refl;
        same_earlier = refl;
        same_least = refl;
        more_marks = omega arith;
        greatest = let l = was_greatest.1 in omega (arith, count_append c.items (item ∷ []));
        marks = ((let l = was_greatest.0 in let m = was_greatest.1 in omega arith, omega arith), tt);
        images = sym (append-nil _);
        each_image = λ e. images_stay_each v c (with_item entry item c) (item ∷ []) x.images refl refl e;
        moments = kept_moments;
        times = subst (λ (K : List JournalItem). Each (λ i. In i (moments_of t)) (times K)) (sym items_are) (in_right time (flat_map (λ (w : Written). w.moments) s.written) (x.moments ++ time ∷ []) (in_right time x.moments (time ∷ []) (inl refl)), tt);
        made = tt;
      }

      pub commit_act : Owned v (h ++ by n (commits time place) ∷ []) (with_item entry item c) (slice_set seats j t) n j
      commit_act = (agrees_then v h c (with_item entry item c) seats agree j s t there n (commits time place) d.runs.is acts, (agrees_owner _ _ _ _ _ _ _ _ _ _ _ _ _ _))

      -- by the session whose number is known
      pub commit_by : (m : ℕ) → (agree.of_seat j).now ≡ Some m → Owned v (h ++ by m (commits time place) ∷ []) (with_item entry item c) (slice_set seats j t) m j
      commit_by m e = subst (λ (i : ℕ). Owned v (h ++ by i (commits time place) ∷ []) (with_item entry item c) (slice_set seats j t) i j) (one_number n m d.runs.is e) commit_act
