-- A statement of the script as an act of the history.
use Rattle.std.proofs.Common.{◌≡◌, ℕ, ◌≤◌, true, false, List, [], ◌∷◌, ◌++◌, map, flat_map, Option, Some, slice_set, refl, sym, ap, ◌∙◌, subst, inl, inr, ⊎_elim, append-nil, arith}
use mathlib.Core.Option.{some}
use lib.ListN.{get_elem?}
use Rattle.spec_model.specs.Journals.{Line, tx_count}
use Rattle.spec_history.specs.Lists.{Text, Each, In}
use Rattle.spec_history.specs.Transactions.{unfixed, on_some}
use Rattle.spec_history.specs.Facts.{said}
use Rattle.law_protocol_steps.proofs.TranscriptActs.{GoesFrom, goes_on}
use Rattle.law_protocol_steps.proofs.Heard.{heard_answer, heard_now}
use Rattle.spec_history.specs.Acts.{says, Act, by}
use Rattle.spec_history.specs.Sessions.{SessionTransaction, SessionState, scripts, acted}
use Rattle.spec_history.specs.Worlds.{first, run}
use Rattle.spec_history.specs.Guards.{OnlyOne}
use Rattle.spec_history.proofs.Trace.{each_weaker}
use Rattle.spec_protocol.specs.Server.{Server}
use Rattle.spec_protocol.specs.Cells.{LedgerCell}
use Rattle.spec_protocol.specs.Seats.{OpenTransaction, StatementProgress, inside, Session, Written, Role, session, SeatState}
use Rattle.spec_protocol.specs.OpenOnes.{text_at, last_line, texts_so_far}
use Rattle.spec_protocol.specs.Moves.{saying, at_place, sits}
use Rattle.spec_protocol.specs.Parts.{AreTransactions, IsNow, Numbers}
use Rattle.spec_protocol.specs.TranscriptsAgree.{session_moments, TranscriptsAgree}
use Rattle.law_protocol_steps.proofs.Ids.{InTransaction, in_transaction}
use Rattle.law_protocol_steps.proofs.OneMore.{Acts, agrees_then, agrees_owner, agrees_parts}
use Rattle.law_protocol_steps.proofs.GoesOn.{ActsBy}

in_more : (f : Line → Text) (a : Text) (xs : List Line) (line : Line) (ys : List Line) → In a (map f (xs ++ line ∷ [])) → In a (map f ((xs ++ line ∷ []) ++ ys))
in_more f a [] line ys i = ⊎_elim (λ e. inl e) (λ (e : ⊥). absurd e) i
in_more f a (x ∷ xs) line ys i = ⊎_elim (λ e. inl e) (λ e. inr (in_more f a xs line ys e)) i

module _ (v : Server) (c : LedgerCell) (seats : List SeatState) (h : List Act) (agree : TranscriptsAgree v h c seats) (j : ℕ) (s : SeatState) (there : get_elem? seats j ≡ some s)
    (x : Session) (role : s.role ≡ session x) (o : OpenTransaction) (open_one : x.open_one ≡ Some o) (open_end : o.end ≡ unfixed) (alone : o.explicit ≡ false → o.script ≡ []) (line : Line) (in_script : (a : Text) → In a (texts_so_far x o) → In a (map (λ l. l.0) (o.script ++ line ∷ [])))
    (stands : text_at x.place ≡ Some line.0) (stage : StatementProgress) (goes : GoesFrom v.meaning x (at_place (Some (saying line o)) (inside line.0 stage) x) (said line ∷ [])) where
  abbrev y : Session
  y = at_place (Some (saying line o)) (inside line.0 stage) x

  abbrev t : SeatState
  t = sits s y

  pub d : InTransaction v.meaning h (agree.of_seat j) x o
  d = in_transaction v h c seats agree j x o (record { seat = s; there = there; role = role; open_one = open_one })

  abbrev n : ℕ
  n = d.runs.number

  abbrev sess : SessionState
  sess = (run first h).at n

  asked : Each (λ a. a.1 ≡ true → In a.0 (map (λ l. l.0) (o.script ++ line ∷ []))) d.transaction.asked
  asked = each_weaker (λ a. a.1 ≡ true → In a.0 (texts_so_far x o)) (λ a. a.1 ≡ true → In a.0 (map (λ l. l.0) (o.script ++ line ∷ []))) (λ a f e. in_script a.0 (f e)) d.transaction.asked (d.is.asked open_end)

  the_one : (ls : List Line) (a : Text) → ls ≡ [] → In a (map (λ l. l.0) (ls ++ line ∷ [])) → a ≡ line.0
  the_one ls a e i = ⊎_elim (λ (f : line.0 ≡ a). sym f) (λ (f : ⊥). absurd f) (subst (λ (k : List Line). In a (map (λ l. l.0) (k ++ line ∷ []))) e i)

  only : OnlyOne d.transaction line.0
  only e = let none : o.script ≡ [] = alone (sym d.is.explicit ∙ e) in
      (d.is.script ∙ none, each_weaker (λ a. a.1 ≡ true → In a.0 (map (λ l. l.0) (o.script ++ line ∷ []))) (λ a. a.1 ≡ true → a.0 ≡ line.0) (λ a f g. the_one o.script a.0 none (f g)) d.transaction.asked asked)

  asked_then : Each (λ a. a.1 ≡ true → In a.0 (texts_so_far y (saying line o))) ((line.0, true) ∷ d.transaction.asked)
  asked_then = (
    (λ e. in_more (λ l. l.0) line.0 o.script line (last_line line.0 stage) (last_in o.script)),
    each_weaker (λ a. a.1 ≡ true → In a.0 (map (λ l. l.0) (o.script ++ line ∷ []))) (λ a. a.1 ≡ true → In a.0 (texts_so_far y (saying line o))) (λ a f e. in_more (λ l. l.0) a.0 o.script line (last_line line.0 stage) (f e)) d.transaction.asked asked,
  )
    where
      last_in : (xs : List Line) → In line.0 (map (λ l. l.0) (xs ++ line ∷ []))
      last_in [] = inl refl
      last_in (z ∷ zs) = inr (last_in zs)

  now : IsNow v.meaning (acted sess (says line)) y
  now = record {
    running = d.runs.now.running;
    transcript = d.runs.now.transcript;
    under = d.runs.now.under ∙ stands;
    open_one = subst (λ (z : Option SessionTransaction). AreTransactions (on_some (scripts line) z) y y.open_one) (sym d.has)
        (record { id = d.is.id; explicit = d.is.explicit; script = ap (λ (ls : List Line). ls ++ line ∷ []) d.is.script; end = d.is.end; asked = λ e. asked_then; heard = (heard_now y.place d.transaction.answered line.0 true, heard_answer x.place y.place d.transaction.answered d.transaction.asked line.0 stands d.is.heard) });
    so_far = goes_on v.meaning sess.so_far (acted sess (says line)).so_far x y (said line ∷ []) refl refl d.runs.now.so_far goes;
  }

  was_greatest : (s.least ≤ s.greatest) × (s.greatest ≤ tx_count c.items)
  was_greatest = (agree.agree j s there).greatest

  acts : Acts v h n (says line) c c s t
  acts = record {
    ok = (d.transaction, record { runs = d.runs.now.running; has = d.has; unfixed = d.is.end ∙ open_end }, only);
    items = sym (append-nil c.items);
    next = omega arith;
    issued = sym (append-nil c.issued);
    same_database = refl;
    same_size = refl;
    x = x;
    y = y;
    was = role;
    role = refl;
    same_name = refl;
    now = now;
    same_present = refl;
    seat_database = refl;
    seat_size = refl;
    same_written = refl;
    same_earlier = refl;
    same_least = refl;
    more_marks = omega arith;
    greatest = was_greatest.1;
    marks = tt;
    images = sym (append-nil _);
    each_image = λ e. e;
    moments = λ i e. subst (λ (r : Role). In i (flat_map (λ (w : Written). w.moments) s.written ++ session_moments r)) role e;
    times = tt;
    made = tt;
  }

  pub says_act : TranscriptsAgree v (h ++ by n (says line) ∷ []) c (slice_set seats j t)
  says_act = agrees_then v h c c seats agree j s t there n (says line) d.runs.is acts

  pub says_owner : says_act.owner n ≡ j
  unfolding says_act
  says_owner = (agrees_owner _ _ _ _ _ _ _ _ _ _ _ _ _ _)

  -- and its number is known
  pub told : ActsBy v h (says line ∷ []) c (slice_set seats j t) j
  unfolding says_act
  told = record {
    session = n;
    agree = says_act;
    now = ap (λ (f : ℕ → Numbers). (f j).now) (agrees_parts v h c c seats agree j s t there n (says line) d.runs.is acts) ∙ d.runs.is;
  }
