use Rattle.std.proofs.Common.{◌∙◌}
use Rattle.spec_model.specs.Keys.{key_places}
use Rattle.store_table.proofs.OfKey.{same_has_live_row}
use Rattle.store_table.proofs.live_by_key.VersionStoreLiveVersions.has_key_of.Goals as goal

pub returns : goal.returns
returns c = c.has_key_of_row.ensures ∙ same_has_live_row c.args.self.now.stored.key (key_places c.args.table.now.columns) c.args.row.now c.args.self.now.stored.versions c.requires
