use Rattle.std.proofs.Common.{sym, ◌∙◌}
use Rattle.spec_model.specs.Changes.{is_duplicate}
use Rattle.spec_model.specs.Keys.{key_of, has_live_row}
use Rattle.sql_change.proofs.KeyOrder.{added_in_order}
use Rattle.sql_change.proofs.inserting.add_row.Goals as goal

pub returns-clause-in_order : goal.returns-clause-in_order
unfolding is_duplicate
returns-clause-in_order g c =
    added_in_order c.args.table.now.columns c.args.before.now.rows c.args.row c.args.before.now.by_key.items _ _ _
    (has_live_row c.args.table.now.columns (key_of c.args.table.now.columns c.args.row) (g.R.LiveVersions.versions c.args.versions.now))
    c.requires.in_order (sym c.is_duplicate.ensures ∙ c.if-is_duplicate.false) c.place_of-place.ensures.value c.in_ok-add.ensures.rows c.in_ok-add.ensures.by_key
