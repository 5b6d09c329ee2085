use Rattle.std.proofs.Common.{◌≡◌, Bool, List, ap, ◌∙◌}
use Rattle.std.proofs.lemmas.Result.{IfOk-weaker}
use Rattle.spec_model.specs.Rows.{Row}
use Rattle.law_catalog_rows.specs.Changes.{changes_are_right}
use Rattle.law_catalog_rows.specs.Differs.{encode_def}
use Rattle.audit_definitions.specs.DefinitionRows.{rows_seen}
use Rattle.audit_definitions.proofs.LatestDefs.{encoded_where, not_encoded}
use Rattle.audit_definitions.proofs.spelling.encode_def.Goals as goal

pub returns-then-not-say_def : goal.returns-then-not-say_def
returns-then-not-say_def c =
    not_encoded (rows_seen c.args.tables.now) (rows_seen c.args.items.now) c.args.def.now (rows_seen c.deref.result.now) (rows_seen c.deref-2.result.now)
    (ap rows_seen c.deref.ensures.value ∙ c.in_ok-latest_tables.ensures) (ap rows_seen c.deref-2.ensures.value ∙ c.in_ok-latest_items.ensures)
    c.say_def.result c.say_def.ensures c.if-not-say_def.true

pub returns : goal.returns
returns c =
    let tables : List Row = rows_seen c.args.tables.now in
    let items : List Row = rows_seen c.args.items.now in
    let def = c.args.def.now in
    IfOk-weaker c.changes_are_right.result (λ (right : Bool). right ≡ changes_are_right tables items) (λ (is : Bool). is ≡ encode_def tables items def)
    (λ (right : Bool) right_is.
    encoded_where tables items def (rows_seen c.deref.result.now) (rows_seen c.deref-2.result.now)
    (ap rows_seen c.deref.ensures.value ∙ c.in_ok-latest_tables.ensures) (ap rows_seen c.deref-2.ensures.value ∙ c.in_ok-latest_items.ensures)
    c.say_def.result right c.say_def.ensures c.if-not-say_def.false right_is)
    c.changes_are_right.ensures
