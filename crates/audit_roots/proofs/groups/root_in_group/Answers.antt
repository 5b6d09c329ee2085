use Rattle.std.proofs.Common.{List, length, map, sym, ap, subst, ◌∙◌}
use Rattle.std.specs.List.{All}
use Rattle.std.specs.List.Sorted.{IsNonDecreasingBy}
use Rattle.audit_roots.specs.declared.marks.Mark.{Mark}
use Rattle.audit_roots.specs.Marks.{leaf_hash, tx_of, HasValues}
use Rattle.audit_roots.specs.ImageTable.{table_of}
use Rattle.audit_roots.specs.WrongRoots.{wrong_part}
use Rattle.audit_definitions.proofs.Verdicts.{same_ok}
use Rattle.audit_roots.proofs.WrongRoots.{whole_told}
use Rattle.audit_roots.proofs.groups.root_in_group.Goals as goal

pub leaf_hashes-requires-after_bounds : goal.leaf_hashes-requires-after_bounds
leaf_hashes-requires-after_bounds g c κs within = subst (All HasValues) (sym c.deref.ensures.value) c.in_ok-marks.ensures.values

pub wrong_root-requires-clause-rise : goal.wrong_root-requires-clause-rise
wrong_root-requires-clause-rise g c κs within = subst (IsNonDecreasingBy tx_of) (sym c.deref-2.ensures.value) c.in_ok-marks.ensures.rise

pub wrong_root-requires-clause-hashes : goal.wrong_root-requires-clause-hashes
wrong_root-requires-clause-hashes g c κs within =
    c.deref-3.ensures.value ∙ c.in_ok-hashes.ensures
    ∙ ap (map (leaf_hash (g.H.Hash32.digest c.args.hasher))) (c.deref.ensures.value ∙ sym c.deref-2.ensures.value)

pub returns : goal.returns
returns g c =
    let h = g.H.Hash32.digest c.args.hasher in
    let ts = map table_of c.args.tables.now in
    let es = c.args.entries.now in
    same_ok c.wrong_root.result _ _
    (ap (λ (ms : List Mark). wrong_part h ts ms es 0 (length es)) c.deref-2.ensures.value
    ∙ whole_told h ts c.requires.rise _ c.in_ok-marks.ensures es)
    c.wrong_root.ensures
