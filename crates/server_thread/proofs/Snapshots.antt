-- A visit of all cells at once is one that a seat may make on the board.
use Rattle.std.proofs.Common.{◌≡◌, ◌<◌, ◌+◌, ℕ, zero, suc, List, [], ◌∷◌, Option, append-nil, length, map, refl, sym, ap, ap₂, subst, ◌∙◌, inl, inr, arith}
use mathlib.Core.Option.{some, some-injective, some-ne-none}
use lib.ListN.{get_elem?}
use Rattle.base_board.specs.Outs as board
use Rattle.std.specs.Prelude.{slice_index_or}
use Rattle.spec_history.specs.Lists.{In}
use Rattle.spec_syntax.specs.Text.{statement_of}
use Rattle.spec_protocol.specs.Serves.{Serves}
use Rattle.spec_protocol.specs.Cells.{Cell, cell_count}
use Rattle.spec_protocol.specs.AllowedVisit.{AllowedVisit}
use Rattle.spec_protocol.specs.Seats.{KeptImage, SeatState}
use Rattle.server_result.specs.Moments.{IsMoment}
use Rattle.server_board.specs.Laws.{outs_are_seen}
use Rattle.server_board.specs.ServedDatabase.{ServedDatabase, MayVisitServed, StandsOn, outs_seen}
use Rattle.server_session.specs.KeptCell.{KeptCell, Keeps}
use Rattle.server_session.specs.Needs.{need_of}
use Rattle.server_session.specs.Steps.{AllOut, VisitedAll, image_in, images_kept, items_in, items_of}
use Rattle.server_session.specs.declared.need.NextVisit.TheVariants as need
use Rattle.server_session.specs.declared.answer.LastAnswer.{LastAnswer}
use Rattle.server_engine.specs.Standing.{AnswerMayLie}
use Rattle.server_engine.specs.Written.{KeepsSessionImage, texts_shown}
use Rattle.server_engine.specs.declared.session.Session as core
use Rattle.server_thread.specs.Seated.{known_by, says_in, IsAhead, IsSeated}
use Rattle.server_thread.specs.declared.worker.Job.{Job}
use Rattle.server_engine.proofs.Holding.{apart_lies, same_shown}
use Rattle.server_thread.proofs.Seating.{at, seated_on}
use Rattle.server_thread.proofs.StepsAhead.{may_behind}
use Rattle.server_thread.proofs.Moments.{all_not_done, needs_timed}
use Rattle.server_thread.proofs.Visiting.{among_all, keeps_there, same_texts}

-- ---- all cells are out

module _ {C : Type 0} where
  all_stand : (whole : List C) (n : ℕ) (cs : List C) (out : List (ℕ × C)) → ((k : ℕ) (c : C) → get_elem? cs k ≡ some c → get_elem? whole (n + k) ≡ some c) → board.OutsAreIn whole out → board.OutsAreIn whole (board.all_out n cs out)
  all_stand whole n [] out f h = h
  all_stand whole n (c ∷ cs) out f h = all_stand whole (n + 1) cs ((n, c) ∷ out)
      (λ k d e. subst (λ (m : ℕ). get_elem? whole m ≡ some d) (let q : n + suc k ≡ n + 1 + k = omega arith in q) (f (suc k) d e))
      (subst (λ (m : ℕ). get_elem? whole m ≡ some c) (let q : n + 0 ≡ n = omega arith in q) (f 0 c refl), h)

  still_out : (n : ℕ) (cs : List C) (out : List (ℕ × C)) (x : ℕ × C) → In x out → In x (board.all_out n cs out)
  still_out n [] out x i = i
  still_out n (c ∷ cs) out x i = still_out (n + 1) cs ((n, c) ∷ out) x (inr i)

  is_out : (n : ℕ) (cs : List C) (out : List (ℕ × C)) (k : ℕ) (c : C) → get_elem? cs k ≡ some c → In (n + k, c) (board.all_out n cs out)
  is_out n [] out k c e = absurd (some-ne-none c (sym e))
  is_out n (d ∷ cs) out zero c e = still_out (n + 1) cs ((n, d) ∷ out) (n + 0, c)
      (inl (ap₂ (λ (m : ℕ) (x : C). (m, x)) (let q : n ≡ n + 0 = omega arith in q) (some-injective d c e)))
  is_out n (d ∷ cs) out (suc k) c e = subst (λ (m : ℕ). In (m, c) (board.all_out (n + 1) cs ((n, d) ∷ out))) (let q : n + 1 + k ≡ n + suc k = omega arith in q) (is_out (n + 1) cs ((n, d) ∷ out) k c e)

  got : (cs : List C) (k : ℕ) → k < length cs → (c : C) × (get_elem? cs k ≡ some c)
  got [] k l = absurd (omega (arith, l))
  got (c ∷ cs) zero l = (c, refl)
  got (c ∷ cs) (suc k) l = got cs k (omega (arith, l))

  module _ (cell : C → Cell) where
    seen_in : (out : List (ℕ × C)) (x : ℕ × C) → In x out → In (x.0, cell x.1) (outs_seen cell out)
    seen_in [] x i = absurd i
    seen_in (y ∷ ys) x (inl e) = inl (ap (λ (u : ℕ × C). (u.0, cell u.1)) e)
    seen_in (y ∷ ys) x (inr i) = inr (seen_in ys x i)

    pub all_are_out : (cells : List C) → length cells ≡ cell_count → AllOut (map cell cells) (outs_seen cell (board.all_out 0 cells []))
    all_are_out cells count = record {
      are_out = outs_are_seen cell cells (board.all_out 0 cells [])
          (all_stand cells 0 cells [] (λ k c e. subst (λ (m : ℕ). get_elem? cells m ≡ some c) (let q : k ≡ 0 + k = omega arith in q) e) tt);
      all = λ i l. let g = got cells i (omega (arith, l, count)) in (
        cell g.0,
        seen_in (board.all_out 0 cells []) (i, g.0)
            (subst (λ (m : ℕ). In (m, g.0) (board.all_out 0 cells [])) (let q : 0 + i ≡ i = omega arith in q) (is_out 0 cells [] i g.0 g.1)),
      );
    }

-- the items of the journal
pub items_there : (cells : List KeptCell) (x : KeptCell) → 1 < length cells → x ≡ slice_index_or cells 1 x → length (items_of x.cell) ≡ items_in cells
items_there [] x l e = absurd (omega (arith, l))
items_there (c ∷ []) x l e = absurd (let f : 1 < 1 = l in omega (arith, f))
items_there (c ∷ d ∷ cells) x l e = ap (λ (u : KeptCell). length (items_of u.cell)) e

-- ---- an image

module _ {H C : Type 0} (digest : H → List ℕ → List ℕ) (says : C → ℕ → Type 0) (d : ServedDatabase) (job : Job H C) (serves : Serves (digest job.hasher) statement_of d.server) (y : core.Session H) (n : ℕ) (s : SeatState)
    (ahead : IsAhead digest says d.server (at job y n) s) (cells : List KeptCell) (seats : List SeatState) (j : ℕ) (stands : StandsOn (λ (c : KeptCell). c.cell) Keeps d cells seats) (there : get_elem? seats j ≡ some s)
    (needs : need_of y.seat ≡ need.All) (z : core.Session H) (keeps : KeepsSessionImage digest cells y z) where
  abbrev now : IsSeated digest says (known_by s) s.written (at job y n) ahead.t
  now = ahead.seated

  abbrev kept : Option KeptImage
  kept = image_in (items_in cells) keeps.image

  abbrev visited : VisitedAll digest y.seat cells (among_all digest says d job serves y n s ahead cells seats j stands there needs) kept z.seat
  visited = keeps.keeps (among_all digest says d job serves y n s ahead cells seats j stands there needs)

  time : IsMoment (says_in says job) y.seat.started
  time = needs_timed (says_in says job) y.seat need.All needs all_not_done now.timed

  image_seated : IsSeated digest says (known_by s) s.written (at job z n) visited.t
  image_seated = let lies = apart_lies y.seat.point z.seat.point y.answer y.seat.running z.seat.running keeps.stays.point now.answer in
      seated_on digest says (known_by s) s.written job y z n n ahead.t visited.t now visited.sits [] (images_kept kept) [] visited.adds keeps.stays.name
      (same_texts digest says d job serves y n s ahead z.seat keeps.stays) (same_shown y z lies.0 keeps.stays.name keeps.entries keeps.answer keeps.last ∙ sym (append-nil (texts_shown y)))
      (subst (λ (last : Option LastAnswer). AnswerMayLie z.seat.point last z.seat.running) (sym keeps.answer) lies.1) (keeps.last ∙ now.last) (sym keeps.images) tt
      (inr (subst (IsMoment (says_in says job)) (sym keeps.stays.started) time))

  -- the first cell that is given back makes the visit
  pub image_may : length cells ≡ cell_count → (out : List (ℕ × KeptCell)) → out ≡ board.all_out 0 cells [] → (i : ℕ) (c : KeptCell) (rest : List (ℕ × KeptCell)) → out ≡ (i, c) ∷ rest → get_elem? cells i ≡ some c
      → (t : SeatState) × MayVisitServed (λ (c : KeptCell). c.cell) Keeps d s out i c t × IsSeated digest says (known_by s) s.written (at job z n) t
  image_may count out all i c rest first here = (
    visited.t,
    record {
      kept = keeps_there digest says d job serves y n s ahead cells seats j stands there i c here;
      may = may_behind d.server s ahead.t visited.t (outs_seen (λ (c : KeptCell). c.cell) out) i c.cell ahead.steps
          (subst (λ (o : List (ℕ × KeptCell)). AllowedVisit d.server ahead.t (outs_seen (λ (c : KeptCell). c.cell) o) i c.cell visited.t) (sym first)
          (visited.may i c.cell (outs_seen (λ (c : KeptCell). c.cell) rest) (subst (λ (o : List (ℕ × KeptCell)). AllOut (map (λ (c : KeptCell). c.cell) cells) (outs_seen (λ (c : KeptCell). c.cell) o)) (sym all ∙ first)
          (all_are_out (λ (c : KeptCell). c.cell) cells count))));
    },
    image_seated,
  )
