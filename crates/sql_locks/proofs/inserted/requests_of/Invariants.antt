use Rattle.std.proofs.Common.{◌≡◌, ◌∷◌, map}
use Rattle.sql_types.specs.declared.lock.Mode.TheVariants.{IX, X}
use Rattle.spec_model.specs.Locks.{whole, of_key}
use Rattle.sql_locks.proofs.inserted.requests_of.Given as goal

abbrev pub invariant-loop-key : goal.invariant-loop-key
invariant-loop-key l = l.requests.items ≡ whole IX ∷ map (of_key X) l.yielded
