-- What is left when all threads have ended.
use Rattle.std.proofs.Common.{◌≡◌, ℕ, List, [], ◌∷◌, ◌++◌, Vec, map, refl, sym, ap, subst, ◌∙◌, inl}
use Rattle.std.specs.declared.alloc.Global.{Global}
use mathlib.Core.Option.{some}
use lib.ListN.{get_elem?}
use Rattle.base_board.specs.Boards.{AllElse}
use Rattle.spec_history.specs.Lists.{Text, In}
use Rattle.spec_history.specs.Transcripts.{Transcript}
use Rattle.spec_history.proofs.Settles.{in_right}
use Rattle.spec_history.proofs.Trace.{each_weaker}
use Rattle.format_sections.specs.declared.section.Section.{Section}
use Rattle.server_ending.specs.KeptCell.{KeptCell, Keeps}
use Rattle.spec_protocol.specs.Seats.{nobody, SeatState, Written}
use Rattle.server_thread.specs.ServedDatabase.{ServedDatabase, StandsOn}
use Rattle.server_run.specs.FinishedRun.{HasFinished, setup_name}
use Rattle.server_thread.specs.Seated.{IsIdle, known_by}
use Rattle.server_run.specs.AllWrote.{AreWritten, HaveWritten, BeganAfterAll}
use Rattle.server_thread.specs.Wrote.{HasWritten, IsWritten}
use Rattle.server_ending.specs.declared.finished.FinishedRun.{FinishedRun}
use Rattle.server_thread.specs.SessionEnd.{SessionEnd}
use Rattle.server_run.proofs.Together.{idle_knows}

module _ (d : ServedDatabase) (says : ℕ → Type 0) (texts : List Text) (sections : List Section) (f : FinishedRun) (seats : List SeatState) (j : ℕ) (first s t : SeatState) where
  pub has_finished : first.written ≡ [] → IsIdle s → (known : List Transcript) → HasWritten says setup_name texts f.setup known first.written s
      → HaveWritten says sections f.ends.items s t → StandsOn (λ (k : KeptCell). k.cell) Keeps d f.cells.items seats → get_elem? seats j ≡ some t
      → AllElse nobody j seats → HasFinished d says texts sections f
  has_finished new idle_one known setup ends stands there others = record {
    seats = seats;
    stands = stands;
    j = j;
    s = t;
    there = there;
    others = others;
    rests = ends.rests;
    first = setup.w;
    rest = ends.ws;
    wrote = ends.wrote ∙ ap (λ (ws : List Written). ws ++ ends.ws) wrote;
    setup_is = setup.is;
    are = ends.are;
    knew = each_weaker (BeganAfterAll (known_by s)) (λ (w : Written). In setup.w.transcript w.earlier) (λ w k. k setup.w.transcript knows) ends.ws ends.knew;
  }
    where
      wrote : s.written ≡ setup.w ∷ []
      wrote = setup.wrote ∙ ap (λ (ws : List Written). ws ++ setup.w ∷ []) new

      knows : In setup.w.transcript (known_by s)
      knows = subst (In setup.w.transcript) (sym (idle_knows s idle_one.role)) (in_right setup.w.transcript s.earlier (map (λ (w : Written). w.transcript) s.written)
          (subst (λ (ws : List Written). In setup.w.transcript (map (λ (w : Written). w.transcript) ws)) (sym wrote) (inl refl)))

-- the cells may be others that stand together with the same seats
pub finished_with : (d : ServedDatabase) (says : ℕ → Type 0) (texts : List Text) (sections : List Section) (f g : FinishedRun) (fin : HasFinished d says texts sections f)
    → g.setup ≡ f.setup → g.ends ≡ f.ends → StandsOn (λ (k : KeptCell). k.cell) Keeps d g.cells.items fin.seats → HasFinished d says texts sections g
finished_with d says texts sections f g fin setup ends stands = record {
  seats = fin.seats;
  stands = stands;
  j = fin.j;
  s = fin.s;
  there = fin.there;
  others = fin.others;
  rests = fin.rests;
  first = fin.first;
  rest = fin.rest;
  wrote = fin.wrote;
  setup_is = subst (λ (e : SessionEnd). IsWritten says setup_name texts e fin.first) (sym setup) fin.setup_is;
  are = subst (λ (es : Vec SessionEnd Global). AreWritten says sections es.items fin.rest) (sym ends) fin.are;
  knew = fin.knew;
}
