use Rattle.std.proofs.Common.{◌≡◌, drop}
use Rattle.spec_model.specs.Keys.{key_at, key_cmp}
use Rattle.sql_parts.proofs.keys.compare_at.Given as goal

abbrev pub invariant-loop-place : goal.invariant-loop-place
invariant-loop-place g l =
    key_cmp (key_at (drop l.place-index l.places) (g.A.Valued.values l.a)) (key_at (drop l.place-index l.places) (g.B.Valued.values l.b))
    ≡ key_cmp (key_at l.places (g.A.Valued.values l.a)) (key_at l.places (g.B.Valued.values l.b))
