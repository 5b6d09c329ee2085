use Rattle.std.proofs.Common.{ap, sym, ◌∙◌, List, filter_map, slice_get}
use Rattle.std.proofs.lemmas.Result.{IfOk-weaker}
use Rattle.sql_types.specs.declared.table.TableDef.{TableDef}
use Rattle.sql_types.specs.declared.version.Version.{Version}
use Rattle.spec_model.specs.Keys.{live_by_key}
use Rattle.audit_asof.proofs.KeyOrder.{rows_found}
use Rattle.audit_asof.proofs.opened_table.OpenedTableLiveVersions.in_key_order.Goals as goal

pub returns : goal.returns
returns c =
    IfOk-weaker c.versions_at.result _ _
    (λ found e.
    e
    ∙ ap (λ (vs : List Version). filter_map (slice_get vs) c.live_places.result.now) c.versions.ensures
    ∙ rows_found c.args.self.now.versions c.live_places.result.now (live_by_key c.args.self.now.def.columns c.args.key.now c.args.self.now.versions) c.live_places.ensures
    ∙ ap (λ (def : TableDef). live_by_key def.columns c.args.key.now c.args.self.now.versions) (sym c.requires))
    c.versions_at.ensures
