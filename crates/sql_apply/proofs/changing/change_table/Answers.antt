use Rattle.std.proofs.Common.{◌≤◌, ◌-◌, ◌∙◌, List, ap, arith, inl, inr, length}
use Rattle.std.proofs.lemmas.Result.{on_ok_weaker}
use Rattle.std.specs.Prelude.{slice_set}
use Rattle.sql_types.specs.declared.version.Version.{Version}
use Rattle.spec_model.specs.Catalog.{with_versions}
use Rattle.spec_model.specs.Changes.{changed_all}
use Rattle.sql_apply.proofs.Tables.{none_changed, one_changed}
use Rattle.sql_apply.proofs.changing.change_table.Goals.{then-id-eq0-via-then-id-eq0, then-id-eq0-via-else-id-eq0+then-len-id}
use Rattle.sql_apply.proofs.changing.change_table.Goals as goal

pub returns-then-id-eq0 : goal.returns-then-id-eq0
returns-then-id-eq0 c =
    let f : List Version → List Version = changed_all c.args.tx c.args.seq c.args.changes in
    let none = none_changed c.args.id f c.args.tables.now.items c.requires.sound.ids in
    elim c.then-id-eq0.branch [
      | then-id-eq0-via-then-id-eq0 w ↦ none (inl (omega (arith, w.if-id-eq0.true)))
      | then-id-eq0-via-else-id-eq0+then-len-id w ↦ none (inr (omega (arith, w.if-len-id.true, w.len.ensures)))
    ]

pub returns : goal.returns
returns c =
    let f : List Version → List Version = changed_all c.args.tx c.args.seq c.args.changes in
    let tables = c.args.tables.now.items in
    let inside : c.args.id ≤ length tables = omega (arith, c.if-len-id.false, c.len.ensures) in
    on_ok_weaker c.change_versions.result
    (λ made. ap (slice_set tables (c.args.id - 1)) (made ∙ ap (with_versions f) c.index_mut.ensures.value) ∙ one_changed c.args.id f tables c.index_mut.result.now c.requires.sound.ids c.if-id-eq0.false inside)
    c.change_versions.ensures
