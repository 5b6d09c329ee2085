use Rattle.std.proofs.Common.{ap, ◌∙◌, map}
use Rattle.format_image.specs.Rows.{stored_cmp}
use Rattle.spec_model.specs.Lists.{sorted}
use Rattle.audit_verify.specs.Indexes.{row_at}
use Rattle.audit_definitions.proofs.Walks.{seen}
use Rattle.audit_verify.proofs.indexes.sorted_versions.Goals as goal

pub returns : goal.returns
returns c =
    let row = row_at c.args.ordinals.now in
    c.in_ok-sort_by_row.ensures ∙ ap (sorted stored_cmp) (seen row c.in_ok-found.found.items ∙ ap (map row) c.in_ok-found.ensures)
