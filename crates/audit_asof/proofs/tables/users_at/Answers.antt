use Rattle.std.proofs.Common.{◌≡◌, ◌++◌, ◌∙◌, List, [], append-nil, ap, ap₂, arith, inl, inr, sym}
use Rattle.sql_types.specs.declared.image.TableRows.{TableRows}
use Rattle.spec_model.specs.Catalog.{Defs, Tables}
use Rattle.spec_model.specs.Lists.{is_among}
use Rattle.audit_definitions.specs.DefinitionRows.{rows_in}
use Rattle.spec_asof.specs.DatabaseAt.{users_at}
use Rattle.audit_asof.proofs.Users.{go_on, no_defs, none_left}
use Rattle.audit_asof.proofs.tables.users_at.Goals as goal

pub loop-def-preserved : goal.loop-def-preserved
loop-def-preserved c =
    let has = is_among c.args.txs.now in
    let first = rows_in c.args.first.now in
    let second = rows_in c.args.second.now in
    let before = c.loop-def.tables.items in
    let left = c.next.new.self in
    go_on has first second before c.add_table.new.tables.items _ c.in-Some.def c.in-Some.rows left.a.rest.items left.b.rest.items c.in_ok-add_table.ensures
    (ap₂ (λ (ds : Defs) (rs : List TableRows). before ++ users_at has first second ds rs) (sym c.in-Some.ensures.steps.0.0) (sym c.in-Some.ensures.steps.1.0) ∙ c.loop-def.invariant)

pub returns : goal.returns
returns c =
    let has = is_among c.args.txs.now in
    let first = rows_in c.args.first.now in
    let second = rows_in c.args.second.now in
    let left = c.loop-def.def-iterator in
    let none : users_at has first second left.a.rest.items left.b.rest.items ≡ [] =
    elim c.in-None.ensures.steps [
      | inl ended ↦ no_defs has first second left.a.rest.items left.b.rest.items (omega (arith, ended.1.0, left.a.rest.ok.0))
      | inr ended ↦ none_left has first second left.a.rest.items left.b.rest.items (omega (arith, ended.1.0, left.b.rest.ok.0))
    ] in
    sym (append-nil c.loop-def.tables.items) ∙ ap (λ (T : Tables). c.loop-def.tables.items ++ T) (sym none) ∙ c.loop-def.invariant
