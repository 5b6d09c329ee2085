use Rattle.std.proofs.Common.{ℕ, ◌≡◌, ◌+◌, drop}
use Rattle.sql_types.specs.declared.table.IndexDef.{IndexDef}
use Rattle.spec_verify.specs.declared.place.Place.TheVariants as at
use Rattle.spec_verify.specs.First.{unless, first, first_from}
use Rattle.spec_verify.specs.Indexes.{index_holds}
use Rattle.audit_verify.proofs.indexes.table_fault.Given as goal

abbrev pub invariant-loop-g : goal.invariant-loop-g
invariant-loop-g l =
    let def = l.table.def.now in
    let found = λ (g : ℕ) (index : IndexDef). unless (index_holds def l.table.rows.now g index) (at.Index def.id (g + 1)) in
    first_from found l.g (drop l.g def.indexes) ≡ first found def.indexes
