use Rattle.std.proofs.Common.{◌≡◌, Bool, List, sym, ◌∙◌}
use Rattle.std.proofs.lemmas.Result.{IfOk-weaker}
use Rattle.spec_model.specs.Catalog.{Defs}
use Rattle.spec_model.specs.Rows.{Row}
use Rattle.law_catalog_rows.specs.Differs.{is_encoded}
use Rattle.audit_definitions.specs.DefinitionRows.{encodes, rows_in, rows_seen}
use Rattle.audit_definitions.proofs.LatestDefs.{encoded_is, no_names, no_rules}
use Rattle.audit_definitions.proofs.spelling.is_encoded_with.Goals as goal

pub returns-then-not-encodable : goal.returns-then-not-encodable
returns-then-not-encodable c = λ defs.
    no_rules (rows_in c.args.first.now) (rows_in c.args.second.now) defs c.args.def.now (sym c.in_ok-encodable.ensures ∙ c.if-not-encodable.true)

pub returns-then-not-has_new_names : goal.returns-then-not-has_new_names
returns-then-not-has_new_names c = λ defs.
    no_names (rows_in c.args.first.now) (rows_in c.args.second.now) defs c.args.def.now (rows_seen c.args.named.now) c.requires (sym c.has_new_names.ensures ∙ c.if-not-has_new_names.true)

pub returns : goal.returns
returns c =
    let first : List Row = rows_in c.args.first.now in
    let second : List Row = rows_in c.args.second.now in
    let def = c.args.def.now in
    IfOk-weaker c.has_its_rows.result (λ (own : Bool). own ≡ encodes first second def) (λ (is : Bool). (defs : Defs) → is ≡ is_encoded first second defs def)
    (λ (own : Bool) own_is. λ defs.
    encoded_is first second defs def (rows_seen c.args.named.now) own (sym c.in_ok-encodable.ensures ∙ c.if-not-encodable.false) c.requires
    (sym c.has_new_names.ensures ∙ c.if-not-has_new_names.false) own_is)
    c.has_its_rows.ensures
