use Rattle.std.proofs.Common.{◌∙◌, ap, ℕ, List, map}
use Rattle.std.specs.List.{list_all}
use Rattle.spec_rules.specs.OneStatement.{is_system_table}
use Rattle.audit_rules.proofs.Rooted.{none_rooted, some_rooted}
use Rattle.audit_rules.proofs.statements.is_rooted_in_system.Goals as goal

pub returns-in-Some : goal.returns-in-Some
returns-in-Some c =
    let found = c.in-Some.ensures.lookup in
    c.are_of_system.ensures ∙ ap (λ (roots : List (ℕ × List ℕ)). list_all is_system_table (map (λ (r : ℕ × List ℕ). r.0) roots)) c.as_slice.ensures
    ∙ some_rooted c.args.entries.now c.args.position c.in-Some.entry.now found.0 found.1

pub returns-in-None : goal.returns-in-None
returns-in-None c = none_rooted c.args.entries.now c.args.position c.in-None.ensures.lookup.3
