use Rattle.std.proofs.Common.{◌∙◌}
use Rattle.audit_extract.proofs.Covering.{entries_there, roots_at, sorted_at, covered_at}
use Rattle.audit_extract.proofs.Linked.{digested}
use Rattle.audit_extract.proofs.Nodes.{of_events}
use Rattle.audit_extract.proofs.entries.in_entries.Goals as goal

pub covered_entries-entries-requires-clause-block : goal.covered_entries-entries-requires-clause-block
covered_entries-entries-requires-clause-block g c = (digested (g.H.Hash32.digest c.args.h) c.args.honest.now c.args.digest.now c.requires.honest).within

pub covered_entries-entries-requires-clause-entries : goal.covered_entries-entries-requires-clause-entries
covered_entries-entries-requires-clause-entries g c = entries_there (g.H.Hash32.digest c.args.h) c.args.honest.now c.args.digest.now c.requires.honest

pub in_trees-requires-clause-sorted_a : goal.in_trees-requires-clause-sorted_a
in_trees-requires-clause-sorted_a g c = λ κ o. sorted_at _ _ c.in_ok-a.ensures.sorted c.deref.ensures.value

pub in_trees-requires-clause-sorted_b : goal.in_trees-requires-clause-sorted_b
in_trees-requires-clause-sorted_b g c = λ κ o. sorted_at _ _ c.in_ok-b.ensures.sorted c.deref-2.ensures.value

pub in_trees-requires-clause-roots_a : goal.in_trees-requires-clause-roots_a
in_trees-requires-clause-roots_a g c = λ κ o.
    roots_at (g.H.Hash32.digest c.args.h) c.args.honest.now c.args.digest.now _ _ _ c.requires.honest c.in_ok-a.ensures.sorted c.in_ok-a.ensures.stable c.deref.ensures.value c.covered_entries-entries.ensures

pub in_trees-requires-clause-roots_b : goal.in_trees-requires-clause-roots_b
in_trees-requires-clause-roots_b g c = λ κ o.
    roots_at (g.H.Hash32.digest c.args.h) c.args.suspect.now c.args.digest.now _ _ _ c.requires.suspect c.in_ok-b.ensures.sorted c.in_ok-b.ensures.stable c.deref-2.ensures.value (c.covered_entries-entries.ensures ∙ c.requires.same)

pub returns-clause-finds : goal.returns-clause-finds
returns-clause-finds g c =
    covered_at (g.H.Hash32.digest c.args.h) c.args.honest.now c.args.suspect.now c.args.digest.now _ _ _ _ _ _ c.equal_leaves_are_of_equal_events.ensures.equal c.requires.honest c.requires.suspect
    c.in_ok-a.ensures.sorted c.in_ok-a.ensures.stable c.in_ok-b.ensures.sorted c.in_ok-b.ensures.stable c.deref.ensures.value c.deref-2.ensures.value c.covered_entries-entries.ensures c.requires.same c.in_trees.ensures.finds

pub returns-clause-strings : goal.returns-clause-strings
returns-clause-strings g c =
    of_events (g.H.Hash32.digest c.args.h) c.args.honest.now c.args.suspect.now _ _ _ _ _ c.requires.honest.image c.requires.suspect.image
    c.in_ok-a.ensures.sorted c.in_ok-a.ensures.stable c.in_ok-b.ensures.sorted c.in_ok-b.ensures.stable c.deref.ensures.value c.deref-2.ensures.value c.in_trees.ensures.strings
