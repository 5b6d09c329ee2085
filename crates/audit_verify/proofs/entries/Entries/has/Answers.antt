use Rattle.std.proofs.Common.{ap, ◌∙◌, is_some}
use Rattle.audit_verify.proofs.EntryPlaces.{is_there}
use Rattle.audit_verify.proofs.entries.Entries.has.Goals as goal

pub returns : goal.returns
returns c = c.is_some.ensures ∙ ap is_some c.position.ensures ∙ is_there c.args.id c.args.self.now.all.now
