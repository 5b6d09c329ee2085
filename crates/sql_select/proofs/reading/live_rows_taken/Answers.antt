use Rattle.std.proofs.Common.{Bor, ap, ap₂, map, subst, ◌∙◌}
use Rattle.sql_types.specs.declared.version.Version.{Version}
use Rattle.spec_model.specs.Lists.{checked_filter}
use Rattle.spec_model.specs.Parts.{base_row}
use Rattle.spec_model.specs.Where.{holds}
use Rattle.sql_select.specs.Answers.{ItemsMatchUnlessOom}
use Rattle.sql_select.proofs.reading.live_rows_taken.Goals as goal

abbrev seen : Bor Version → Version
seen v = v.now

pub returns : goal.returns
returns g c =
    subst (λ rows. ItemsMatchUnlessOom (checked_filter (holds c.args.columns.now c.args.cond.now) rows) c.matching_rows.result)
    (ap₂ (λ cs vs. map (base_row cs) vs) c.columns.ensures (ap (map seen) c.deref.ensures.value ∙ c.in_ok-live_by_key.ensures)) c.matching_rows.ensures
