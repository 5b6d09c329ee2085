use Rattle.std.proofs.Common.{List, ap, ap₂, subst, ◌∙◌}
use Rattle.std.specs.Prelude.{IfOk}
use Rattle.sql_types.specs.declared.entry.TxEntry.{TxEntry}
use Rattle.spec_rules.specs.Rows.{CatalogRows, catalog_rows}
use Rattle.audit_rules.specs.Times.{AreTimes}
use Rattle.audit_verify.proofs.versions.times_of.Goals as goal

pub returns : goal.returns
returns c =
    subst (λ (rows : CatalogRows). IfOk c.of.result (AreTimes rows))
    (ap (λ (es : List TxEntry). catalog_rows es c.base_at.result.now c.base_at-2.result.now) (c.positions.ensures ∙ c.requires)
    ∙ ap₂ (catalog_rows c.args.image.now.entries) c.base_at.ensures c.base_at-2.ensures)
    c.of.ensures
