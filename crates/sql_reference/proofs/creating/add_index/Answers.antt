use Rattle.std.proofs.Common.{◌≤◌, ◌-◌, ◌∙◌, ap, arith, inl, inr, length}
use Rattle.std.proofs.lemmas.Result.{on_ok_weaker}
use Rattle.std.specs.Prelude.{slice_set}
use Rattle.sql_reference.proofs.NewTables.{indexed, none_changed, one_changed}
use Rattle.sql_reference.proofs.creating.add_index.Goals.{then-id-eq0-via-then-id-eq0, then-id-eq0-via-else-id-eq0+then-len-id}
use Rattle.sql_reference.proofs.creating.add_index.Goals as goal

pub returns-then-id-eq0 : goal.returns-then-id-eq0
returns-then-id-eq0 c =
    let none = none_changed c.args.id (indexed c.args.index) c.args.tables.now.items c.requires in
    elim c.then-id-eq0.branch [
      | then-id-eq0-via-then-id-eq0 w ↦ none (inl (omega (arith, w.if-id-eq0.true)))
      | then-id-eq0-via-else-id-eq0+then-len-id w ↦ none (inr (omega (arith, w.if-len-id.true, w.len.ensures)))
    ]

pub returns : goal.returns
returns c =
    let tables = c.args.tables.now.items in
    let inside : c.args.id ≤ length tables = omega (arith, c.if-len-id.false, c.len.ensures) in
    on_ok_weaker c.push_index.result
    (λ made. ap (slice_set tables (c.args.id - 1)) (made ∙ ap (indexed c.args.index) c.index_mut.ensures.value) ∙ one_changed c.args.id (indexed c.args.index) tables c.index_mut.result.now c.requires c.if-id-eq0.false inside)
    c.push_index.ensures
