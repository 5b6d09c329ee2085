-- The end of a transaction that isn't committed, and a statement that memory fails, as acts of the history.
use Rattle.std.proofs.Common.{append-nil, append_assoc, flat_map, ◌≡◌, ℕ, ◌≤◌, Bool, true, false, List, [], ◌∷◌, ◌++◌, map, length, Option, Some, slice_set, max, refl, sym, ap, ◌∙◌, subst, arith}
use mathlib.Core.Option.{some}
use lib.ListN.{get_elem?}
use Rattle.spec_model.specs.Catalog.{Tables}
use Rattle.spec_model.specs.Events.{all_events}
use Rattle.spec_model.specs.Journals.{tx_count, serial}
use Rattle.spec_model.specs.Replies.{reply_text}
use Rattle.spec_model.specs.Script.{script}
use Rattle.spec_history.specs.Lists.{Text, In}
use Rattle.spec_history.specs.Serial.{texts_of, replies_of}
use Rattle.spec_history.specs.Serial as whole
use Rattle.spec_history.specs.Facts.{passed, failed}
use Rattle.law_protocol_steps.proofs.TranscriptActs.{GoesFrom, goes_on}
use Rattle.law_protocol_steps.proofs.Heard.{heard_answer, heard_now, heard_still}
use Rattle.spec_history.specs.Transactions.{unfixed, ended, on_some}
use Rattle.spec_history.specs.Acts.{ends, fails, Act, by}
use Rattle.spec_history.specs.Sessions.{SessionTransaction, SessionState, fixes, hears, acted}
use Rattle.spec_history.specs.Worlds.{first, run, tables}
use Rattle.spec_history.specs.Guards.{HasOpenTransaction, Ends}
use Rattle.spec_protocol.specs.Server.{Server}
use Rattle.spec_protocol.specs.Cells.{LedgerCell}
use Rattle.spec_protocol.specs.Seats.{SessionStatus, OpenTransaction, Session, session, SeatState}
use Rattle.spec_protocol.specs.OpenOnes.{text_at}
use Rattle.spec_protocol.specs.Moves.{ending, at_place, sits, marking}
use Rattle.spec_protocol.specs.Parts.{asking, AreTransactions, IsNow}
use Rattle.std.proofs.lemmas.Bool.{eq-eqb}
use Rattle.spec_history.specs.Acts.{SessionAct}
use Rattle.spec_history.specs.Worlds.{World, step}
use Rattle.spec_protocol.specs.Seats.{Written, Role}
use Rattle.spec_protocol.specs.TranscriptsAgree.{session_moments}
use Rattle.law_protocol_steps.proofs.OneMore.{acted_all, by_each, all_agree_then, owner_is}
use Rattle.spec_protocol.specs.TranscriptsAgree.{TranscriptsAgree}
use Rattle.law_protocol_steps.proofs.Ids.{InTransaction, in_transaction}
use Rattle.law_protocol_steps.proofs.JournalMore.{same_serial}
use Rattle.law_protocol_steps.proofs.PlainAct.{plain_act, plain_act_owner}
use Rattle.law_protocol_steps.proofs.GoesOn.{Owned, one_number}

module _ (v : Server) (c : LedgerCell) (seats : List SeatState) (h : List Act) (agree : TranscriptsAgree v h c seats) (j : ℕ) (s : SeatState) (there : get_elem? seats j ≡ some s)
    (x : Session) (role : s.role ≡ session x) (o : OpenTransaction) (open_one : x.open_one ≡ Some o) (open_end : o.end ≡ unfixed) where
  abbrev T : Tables
  T = serial v.reads c.items

  abbrev texts : List Text
  texts = map (λ l. l.0) o.script

  pub d : InTransaction v.meaning h (agree.of_seat j) x o
  d = in_transaction v h c seats agree j x o (record { seat = s; there = there; role = role; open_one = open_one })

  abbrev n : ℕ
  n = d.runs.number

  abbrev sess : SessionState
  sess = (run first h).at n

  tables_are : tables v.meaning (run first h) ≡ T
  tables_are = ap (whole.serial v.meaning v.meaning.first) agree.items ∙ same_serial v.reads v.hashing v.meaning v.real c.items

  texts_are : texts_of d.transaction.script ≡ texts
  texts_are = ap texts_of d.is.script

  was_greatest : (s.least ≤ s.greatest) × (s.greatest ≤ tx_count c.items)
  was_greatest = (agree.agree j s there).greatest

  module _ (back : Bool) (place : SessionStatus) (same_text : text_at x.place ≡ text_at place) (none_asked : asking x.place ≡ []) (goes : GoesFrom v.meaning x (at_place (Some (ending (ended (tx_count c.items) back) o.script o)) place x) (passed (tx_count c.items) back ∷ []))
      (replies : map (λ l. l.1) o.script ≡ map reply_text (script v.reads o.explicit T o.id texts).replies) (quiet : back ≡ false → all_events o.id (script v.reads o.explicit T o.id texts).state.tables ≡ []) where
    abbrev count : ℕ
    count = tx_count c.items

    abbrev y : Session
    y = at_place (Some (ending (ended count back) o.script o)) place x

    guard : Ends v.meaning (run first h) n count back
    guard = record {
      mine = d.transaction;
      stands = record { runs = d.runs.now.running; has = d.has; unfixed = d.is.end ∙ open_end };
      replies = ap replies_of d.is.script ∙ replies ∙ sym (v.real.replies o.explicit T o.id texts) ∙ sym (λ i. v.meaning.replies (d.is.explicit i) (tables_are i) (d.is.id i) (texts_are i));
      quiet = λ e. (λ i. v.meaning.events (d.is.explicit i) (tables_are i) (d.is.id i) (texts_are i)) ∙ v.real.events o.explicit T o.id texts ∙ ap length (quiet e);
      last = ap tx_count (sym agree.items);
    }

    now : IsNow v.meaning (acted sess (ends count back)) y
    now = record {
      running = d.runs.now.running;
      transcript = d.runs.now.transcript;
      under = d.runs.now.under ∙ same_text;
      open_one = subst (λ (z : Option SessionTransaction). AreTransactions (on_some (fixes (ended count back)) z) y y.open_one) (sym d.has)
          (record { id = d.is.id; explicit = d.is.explicit; script = d.is.script; end = refl; asked = λ e. let f : ended count back ≡ unfixed = e in cc; heard = heard_still x.place place d.transaction.answered d.transaction.asked none_asked d.is.heard });
      so_far = goes_on v.meaning sess.so_far (acted sess (ends count back)).so_far x y (passed count back ∷ []) refl refl d.runs.now.so_far goes;
    }

    pub ends_act : Owned v (h ++ by n (ends count back) ∷ []) c (slice_set seats j (marking count (sits s y))) n j
    ends_act = (
      plain_act v c seats h agree j s there x y role n d.runs.is (ends count back) (max s.greatest count) (omega arith) (let l = was_greatest.1 in omega arith)
          ((let l = was_greatest.0 in let m = was_greatest.1 in omega arith, omega arith), tt) guard now (record { items = refl; ids = refl; issued = refl; images = refl }) (record { images = refl; moments = refl; earlier = refl }),
      plain_act_owner _ _ _ _ _ _ _ _ _ _ _ _ _ _ _ _ _ _ _ _ _ _,
    )

    -- by the session whose number is known
    pub ends_by : (m : ℕ) → (agree.of_seat j).now ≡ Some m → Owned v (h ++ by m (ends count back) ∷ []) c (slice_set seats j (marking count (sits s y))) m j
    ends_by m e = subst (λ (i : ℕ). Owned v (h ++ by i (ends count back) ∷ []) c (slice_set seats j (marking count (sits s y))) i j) (one_number n m d.runs.is e) ends_act

  -- the statement is answered NoMemory, and the end is fixed
  module _ (text : Text) (stands : text_at x.place ≡ Some text) (place : SessionStatus) (same_text : text_at place ≡ Some text) (none : o.script ≡ [])
      (goes : GoesFrom v.meaning x (at_place (Some (ending (ended (tx_count c.items) false) o.script o)) place x) (failed text ∷ passed (tx_count c.items) false ∷ []))
      (replies : map (λ l. l.1) o.script ≡ map reply_text (script v.reads o.explicit T o.id texts).replies) (quiet : all_events o.id (script v.reads o.explicit T o.id texts).state.tables ≡ []) where
    abbrev m : ℕ
    m = tx_count c.items

    abbrev z : Session
    z = at_place (Some (ending (ended m false) o.script o)) place x

    abbrev anonymous_acts : List SessionAct
    anonymous_acts = fails text ∷ ends m false ∷ []

    abbrev w1 : World
    w1 = step (run first h) (by n (fails text))

    abbrev mine : SessionTransaction
    mine = hears text true d.transaction

    at1 : w1.at n ≡ acted sess (fails text)
    at1 = rw (eq-eqb n n refl) refl

    tables1 : tables v.meaning w1 ≡ T
    tables1 = ap (whole.serial v.meaning v.meaning.first) (append-nil (run first h).items) ∙ tables_are

    guard2 : Ends v.meaning w1 n m false
    guard2 = record {
      mine = mine;
      stands = subst (λ (u : SessionState). HasOpenTransaction u mine) (sym at1) (record { runs = d.runs.now.running; has = ap (on_some (hears text true)) d.has; unfixed = d.is.end ∙ open_end });
      replies = ap replies_of d.is.script ∙ replies ∙ sym (v.real.replies o.explicit T o.id texts) ∙ sym (λ i. v.meaning.replies (d.is.explicit i) (tables1 i) (d.is.id i) (texts_are i));
      quiet = λ e. (λ i. v.meaning.events (d.is.explicit i) (tables1 i) (d.is.id i) (texts_are i)) ∙ v.real.events o.explicit T o.id texts ∙ ap length quiet;
      last = ap tx_count (sym agree.items ∙ sym (append-nil (run first h).items));
    }

    now2 : IsNow v.meaning (acted_all sess anonymous_acts) z
    now2 = record {
      running = d.runs.now.running;
      transcript = d.runs.now.transcript;
      under = d.runs.now.under ∙ stands ∙ sym same_text;
      open_one = subst (λ (w : Option SessionTransaction). AreTransactions (on_some (fixes (ended m false)) (on_some (hears text true) w)) z z.open_one) (sym d.has)
          (record { id = d.is.id; explicit = d.is.explicit; script = d.is.script; end = refl; asked = λ e. let f : ended m false ≡ unfixed = e in cc; heard = (heard_now place d.transaction.answered text false, heard_answer x.place place d.transaction.answered d.transaction.asked text stands d.is.heard) });
      so_far = goes_on v.meaning sess.so_far (acted_all sess anonymous_acts).so_far x z (failed text ∷ passed m false ∷ []) refl (append_assoc sess.so_far.pending (failed text ∷ []) (passed m false ∷ [])) d.runs.now.so_far goes;
    }

    pub fails_ends_act : Owned v (h ++ by_each n anonymous_acts) c (slice_set seats j (marking m (sits s z))) n j
    fails_ends_act = (
      all_agree_then v h c c seats agree j s (marking m (sits s z)) there n anonymous_acts d.runs.is (record {
        ok = ((d.transaction, record { runs = d.runs.now.running; has = d.has; unfixed = d.is.end ∙ open_end }), (guard2, tt));
        K = [];
        ids = 0;
        G = [];
        adds_items = append-nil ((run first h).items ++ []);
        adds_ids = omega arith;
        adds_digests = append-nil ((run first h).issued ++ []);
        items = sym (append-nil c.items);
        next = omega arith;
        issued = sym (append-nil c.issued);
        same_database = refl;
        same_size = refl;
        x = x;
        y = z;
        was = role;
        role = refl;
        same_name = refl;
        now = now2;
        same_present = refl;
        seat_database = refl;
        seat_size = refl;
        same_written = refl;
        same_earlier = refl;
        same_least = refl;
        more_marks = omega arith;
        greatest = let l = was_greatest.1 in omega arith;
        marks = (tt, (((let l = was_greatest.0 in let g = was_greatest.1 in omega arith, omega arith), tt), tt));
        images = sym (append-nil _);
        each_image = λ e. e;
        moments = λ i e. subst (λ (r : Role). In i (flat_map (λ (w : Written). w.moments) s.written ++ session_moments r)) role e;
        times = tt;
        made = tt;
      }),
      owner_is _ _ _ _ _ _ _ _ _ _ _ _ _ _,
    )
