-- Histories in which locks decide: a statement is said where no lock of the others is in its way, and else it
-- meets the one that is.
use Rattle.std.specs.Prelude.{ℕ, ◌≡◌, List, [], ◌∷◌, Option, Some, None}
use Rattle.spec_history.specs.Lists.{Text}
use Rattle.spec_history.specs.Meaning.{Meaning}
use Rattle.spec_history.specs.Acts.{SessionAct, says, meets, Act, by, closes}
use Rattle.spec_history.specs.Sessions.{SessionTransaction, viewed}
use Rattle.spec_history.specs.Worlds.{World, tables, step}
use Rattle.spec_history.specs.ExactRefusals.{held_beside, in_the_way}

module _ (q : Meaning) (k : ℕ) where
  -- the transaction in the way of this statement of session s, over the tables now and the scripts so far of
  -- the other ones of k sessions
  abbrev pub in_its_way : World → ℕ → SessionTransaction → Text → Option ℕ
  in_its_way w s d text = in_the_way q (q.defs (tables q w))
      (held_beside s k (λ t. viewed (w.at t).transaction)) d.id d.explicit text

  abbrev pub IsByLocks : World → ℕ → SessionAct → Type 0
  IsByLocks w s (says line) =
      (d : SessionTransaction) → (w.at s).transaction ≡ Some d → in_its_way w s d line.0 ≡ None
  IsByLocks w s (meets text holder) =
      (d : SessionTransaction) → (w.at s).transaction ≡ Some d → in_its_way w s d text ≡ Some holder
  IsByLocks w s _ = Unit {0}

  -- at each act
  abbrev pub LocksDecide : World → List Act → Type 0
  LocksDecide w [] = Unit {0}
  LocksDecide w (by s a ∷ es) = IsByLocks w s a × LocksDecide (step w (by s a)) es
  LocksDecide w (closes n ∷ es) = LocksDecide (step w (closes n)) es
