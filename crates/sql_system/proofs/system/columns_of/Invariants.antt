use Rattle.std.proofs.Common.{◌≡◌, take, map}
use Rattle.spec_model.specs.SystemTables.{a_column}
use Rattle.sql_system.proofs.system.columns_of.Given as goal

abbrev pub invariant-loop-name : goal.invariant-loop-name
invariant-loop-name l = l.columns.items ≡ map (λ d. a_column d.0.now d.1 d.2 d.3) (take l.name-index l.described)
