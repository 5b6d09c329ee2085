use Rattle.std.proofs.Common.{sym, ap, ◌∙◌, rules}
use Rattle.std.specs.Prelude.{not}
use Rattle.sql_types.specs.declared.version.Version.{Version}
use Rattle.spec_model.specs.Undo.{end_undone, is_undone}
use Rattle.sql_apply.proofs.Retained.{retained}
use Rattle.sql_apply.proofs.undoing.undo_versions.Goals as goal

pub returns : goal.returns
returns c =
    let stays = λ (v : Version). not (is_undone c.args.tx c.args.seq v.start) in
    let left = end_undone c.args.tx c.args.seq in
    retained _ stays left _
    (λ x b t y h. let met = h.called.met.0 in (search rules, met.0 ∙ ap stays h.shows, sym h.leaves ∙ met.1 ∙ ap left h.shows))
    _ _ c.retain_mut.ensures.filtered
