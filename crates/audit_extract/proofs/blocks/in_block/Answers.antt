use Rattle.std.proofs.Common.{refl, sym, ◌∙◌}
use Rattle.audit_extract.proofs.Parted.{same_entries}
use Rattle.audit_extract.proofs.blocks.in_block.Goals as goal

pub returns-then-are_same-clause-finds : goal.returns-then-are_same-clause-finds
returns-then-are_same-clause-finds g c =
    same_entries c.args.a.now c.args.b.now _ _ c.requires.fit_a c.requires.fit_b c.in_ok-first.ensures c.in_ok-second.ensures (sym c.deref.ensures.value ∙ c.if-are_same.ensures.same refl ∙ c.deref-2.ensures.value)
