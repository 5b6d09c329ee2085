use Rattle.std.proofs.Common.{◌∙◌}
use Rattle.std.proofs.lemmas.Result.{IfOk-weaker}
use Rattle.spec_model.specs.Keys.{key_places}
use Rattle.store_table.proofs.OfKey.{same_live_by_key}
use Rattle.store_table.proofs.live_by_key.VersionStoreLiveVersions.in_key_order.Goals as goal

pub returns : goal.returns
returns c =
    IfOk-weaker c.live_by_key.result _ _
    (λ found e. e ∙ same_live_by_key c.args.self.now.stored.key (key_places c.args.table.now.columns) c.args.key.now c.args.self.now.stored.versions c.requires)
    c.live_by_key.ensures
