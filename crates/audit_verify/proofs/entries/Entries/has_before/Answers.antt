use Rattle.std.proofs.Common.{sym, ap, ◌∙◌}
use Rattle.audit_verify.proofs.EntryPlaces.{is_below, is_before}
use Rattle.audit_verify.proofs.entries.Entries.has_before.Goals as goal

pub returns-in-Some : goal.returns-in-Some
returns-in-Some c = ap (is_below c.args.id c.args.k) (sym c.in-Some.is ∙ c.position.ensures) ∙ is_before c.args.id c.args.k c.args.self.now.all.now

pub returns-in-None : goal.returns-in-None
returns-in-None c = ap (is_below c.args.id c.args.k) (sym c.in-None.is ∙ c.position.ensures) ∙ is_before c.args.id c.args.k c.args.self.now.all.now
