-- What sessions do to themselves doesn't depend on the journal.
use Rattle.std.proofs.Common.{◌≡◌, ℕ, List, [], ◌∷◌, ◌++◌, refl, sym, ap, ◌∙◌, subst}
use Rattle.spec_history.specs.Transcripts.{end_of_session}
use Rattle.spec_history.specs.Acts.{answers, Act, by, closes}
use Rattle.spec_history.specs.Sessions.{SessionState, acted}
use Rattle.spec_history.specs.Worlds.{World, first, put, step, run}
use Rattle.spec_history.specs.Histories.{EndsComeLast, IsIdle, OneAtATime, line_by, lines_of}
use Rattle.law_behind.specs.Past.{Past, behind}

step_at : (w v : World) → w.at ≡ v.at → (e : Act) → (step w e).at ≡ (step v e).at
step_at w v same (by s a) = ap (λ (f : ℕ → SessionState). put f s (acted (f s) a)) same
step_at w v same (closes k) = same

pub run_at : (w v : World) → w.at ≡ v.at → (es : List Act) → (run w es).at ≡ (run v es).at
run_at w v same [] = same
run_at w v same (e ∷ es) = run_at (step w e) (step v e) (step_at w v same e) es

pub lines_at : (w v : World) → w.at ≡ v.at → (es : List Act) → lines_of w es ≡ lines_of v es
lines_at w v same [] = refl
lines_at w v same (by s a ∷ es) = λ i. line_by (same i s) a ++ lines_at (step w (by s a)) (step v (by s a)) (step_at w v same (by s a)) es i
lines_at w v same (closes k ∷ es) = lines_at (step w (closes k)) (step v (closes k)) same es

pub alone_at : (w v : World) → w.at ≡ v.at → (es : List Act) → OneAtATime w es → OneAtATime v es
alone_at w v same [] h = tt
alone_at w v same (by s a ∷ es) h = ((λ t ne. subst (λ (f : ℕ → SessionState). IsIdle (f t)) same (h.0 t ne)), alone_at (step w (by s a)) (step v (by s a)) (step_at w v same (by s a)) es h.1)
alone_at w v same (closes k ∷ es) h = alone_at (step w (closes k)) (step v (closes k)) same es h

pub ends_at : (w v : World) → w.at ≡ v.at → (es : List Act) → EndsComeLast w es → EndsComeLast v es
ends_at w v same [] h = tt
ends_at w v same (by s (answers (end_of_session end)) ∷ es) h = let after = step_at w v same (by s (answers (end_of_session end))) in (
  sym (lines_at (step w (by s (answers (end_of_session end)))) (step v (by s (answers (end_of_session end)))) after es) ∙ h.0,
  ends_at (step w (by s (answers (end_of_session end)))) (step v (by s (answers (end_of_session end)))) after es h.1,
)
ends_at w v same (by s a ∷ es) h = ends_at (step w (by s a)) (step v (by s a)) (step_at w v same (by s a)) es h
ends_at w v same (closes k ∷ es) h = ends_at (step w (closes k)) (step v (closes k)) same es h

-- a world behind a past has the sessions of the first one
pub sessions_behind : (past : Past) (es : List Act) → (run first es).at ≡ (run (behind past) es).at
sessions_behind past es = run_at first (behind past) refl es
