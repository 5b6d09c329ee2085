use Rattle.std.proofs.Common.{◌≡◌, ℕ, List, drop, map}
use Rattle.std.specs.List.{list_all}
use Rattle.spec_rules.specs.OneStatement.{is_system_table}
use Rattle.audit_rules.proofs.statements.are_of_system.Given as goal

abbrev pub invariant-loop-root : goal.invariant-loop-root
invariant-loop-root l =
    list_all is_system_table (map (λ (r : ℕ × List ℕ). r.0) (drop l.root-index l.roots)) ≡ list_all is_system_table (map (λ (r : ℕ × List ℕ). r.0) l.roots)
