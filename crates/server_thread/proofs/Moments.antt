-- Who needs something has a statement that was taken up at a moment that is said.
use Rattle.std.proofs.Common.{◌≡◌, ℕ, None, refl, sym, ◌∙◌, ⊎_elim}
use Rattle.server_result.specs.Moments.{IsMoment}
use Rattle.server_session.specs.ControlPoints.{IsBetween, IsBetweenAt}
use Rattle.server_session.specs.Needs.{need_of, point_need}
use Rattle.server_session.specs.declared.need.NextVisit.{NextVisit}
use Rattle.server_session.specs.declared.need.NextVisit.TheVariants as need
use Rattle.server_session.specs.declared.seat.Seat.{Seat}
use Rattle.server_session.specs.declared.stage.ControlPoint.{ControlPoint}
use Rattle.server_session.specs.declared.stage.ControlPoint.TheVariants.{Between, Inside, Leaving, Over}
use Rattle.server_thread.specs.Seated.{IsTimed}

between_done : {H : Type 0} (y : Seat H) (p : ControlPoint) → IsBetweenAt p → point_need p y.running ≡ need.Done
between_done y Between b = refl
between_done y (Inside stage) b = absurd b
between_done y Leaving b = absurd b
between_done y Over b = absurd b

pub needs_timed : {H : Type 0} (says : ℕ → Type 0) (y : Seat H) (n : NextVisit) → need_of y ≡ n → (need.Done ≡ n → ⊥) → IsTimed says y → IsMoment says y.started
needs_timed says y n needs ne timed = ⊎_elim (λ (b : IsBetween y × (y.running ≡ None)). absurd (ne (sym (between_done y y.point b.0) ∙ needs))) (λ m. m) timed

pub cell_not_done : (i : ℕ) → need.Done ≡ need.Cell i → ⊥
cell_not_done i e = cc

pub all_not_done : need.Done ≡ need.All → ⊥
all_not_done e = cc
