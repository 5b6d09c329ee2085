use Rattle.std.proofs.Common.{sym, subst}
use Rattle.std.proofs.lemmas.List.Elements.{All-take, All-drop}
use Rattle.std.specs.List.{All}
use Rattle.audit_roots.specs.Marks.{HasValues}
use Rattle.audit_roots.proofs.hashes.parts_at.Goals as goal

pub returns-clause-first : goal.returns-clause-first
returns-clause-first c = subst (All HasValues) (sym c.split_at.ensures.front) (All-take HasValues c.args.front c.args.marks.now c.requires.values)

pub returns-clause-second : goal.returns-clause-second
returns-clause-second c = subst (All HasValues) (sym c.split_at.ensures.back) (All-drop HasValues c.args.front c.args.marks.now c.requires.values)
