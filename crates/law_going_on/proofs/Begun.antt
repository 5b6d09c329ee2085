-- Where sessions began in the order of their numbers, those that came since did so too.
use Rattle.std.proofs.Common.{◌≡◌, ℕ, ◌+◌, ◌-◌, List, [], ◌∷◌, map, refl, sym, ap, ◌∙◌, arith}
use Rattle.spec_history.specs.Acts.{SessionAct, starts, Act, by, closes}
use Rattle.spec_history.specs.Guards.{Good}
use Rattle.spec_history.specs.Lists.{Text}
use Rattle.spec_history.specs.Meaning.{Meaning}
use Rattle.spec_history.specs.Sessions.{SessionState}
use Rattle.spec_history.specs.Worlds.{World, step}
use Rattle.spec_protocol.specs.AnonymousActs.{AnonymousAct, anonymous_act, closed, did}
use Rattle.spec_protocol.specs.Follows.{BeginInTurn, BeginsNext}
use Rattle.law_behind.specs.Forgotten.{IsWithout, without}
use Rattle.law_behind.proofs.Forgotten.{closed_then, without_then}

-- whoever did it, the same was done
pub same_acts : (count : ℕ) (es : List Act) → map anonymous_act (without count es) ≡ map anonymous_act es
same_acts count [] = refl
same_acts count (by s a ∷ es) = ap (λ (l : List AnonymousAct). did a ∷ l) (same_acts count es)
same_acts count (closes k ∷ es) = ap (λ (l : List AnonymousAct). closed k ∷ l) (same_acts count es)

module _ (q : Meaning) (db : Text) (count : ℕ) where
  next_so : (w v : World) → IsWithout count w v → (s : ℕ) (a : SessionAct) → BeginsNext w s a → BeginsNext v (s - count) a
  next_so w v z s (starts name) next = λ m l e. next (count + m) (omega (arith, l)) (sym (ap (λ (x : SessionState). x.phase) (z.at m)) ∙ e)
  next_so w v z s a next = tt

  pub turn_without : (es : List Act) (w v : World) → IsWithout count w v → Good q db w es → BeginInTurn w es → BeginInTurn v (without count es)
  turn_without [] w v z g t = tt
  turn_without (by s a ∷ es) w v z g t = (next_so w v z s a t.0, turn_without es (step w (by s a)) (step v (by (s - count) a)) (without_then q db count w v z s a g.0) g.1 t.1)
  turn_without (closes k ∷ es) w v z g t = turn_without es (step w (closes k)) (step v (closes k)) (closed_then q db count w v k z) g.1 t
