use Rattle.std.proofs.Common.{map, sym, subst, ap, ap₂, ◌∙◌}
use Rattle.std.specs.List.{All}
use Rattle.std.specs.List.Sorted.{IsNonDecreasingBy}
use Rattle.audit_roots.specs.Marks.{leaf_hash, tx_of, HasValues}
use Rattle.audit_roots.specs.Roots.{first_fault}
use Rattle.audit_roots.proofs.EntryRoots.{root_fault_is}
use Rattle.audit_roots.proofs.Tables.{are_spelled}
use Rattle.audit_definitions.proofs.Verdicts.{same_ok}
use Rattle.audit_roots.proofs.roots.root_fault.Goals as goal

pub sorted_marks-requires : goal.sorted_marks-requires
sorted_marks-requires g c = are_spelled c.args.tables.now c.args.image.now c.requires.tables c.requires.image

pub leaf_hashes-requires-after_bounds : goal.leaf_hashes-requires-after_bounds
leaf_hashes-requires-after_bounds g c κs within = subst (All HasValues) (sym c.deref.ensures.value) c.in_ok-marks.ensures.values

pub first_fault-requires-clause-rise : goal.first_fault-requires-clause-rise
first_fault-requires-clause-rise g c κs within = subst (IsNonDecreasingBy tx_of) (sym c.deref-2.ensures.value) c.in_ok-marks.ensures.rise

pub first_fault-requires-clause-hashes : goal.first_fault-requires-clause-hashes
first_fault-requires-clause-hashes g c κs within =
    c.deref-3.ensures.value ∙ c.in_ok-hashes.ensures
    ∙ ap (map (leaf_hash (g.H.Hash32.digest c.args.hasher))) (c.deref.ensures.value ∙ sym c.deref-2.ensures.value)

pub returns : goal.returns
returns g c =
    let h = g.H.Hash32.digest c.args.hasher in
    same_ok c.first_fault.result _ _
    (ap₂ (first_fault h) c.deref-2.ensures.value c.as_slice.ensures ∙ root_fault_is h c.args.image.now c.args.tables.now _ c.in_ok-marks.ensures c.requires.tables c.requires.image)
    c.first_fault.ensures
