use Rattle.std.proofs.Common.{arith, ap, sym, ◌∙◌}
use Rattle.sql_types.specs.declared.version.Version.{Version}
use Rattle.spec_model.specs.Rows.{same_event}
use Rattle.store_table.proofs.Found.{found_at, none_at, none_beyond}
use Rattle.store_table.proofs.searching.version_at.Goals.{else-place-versions-via-then-place-versions+else-eq, else-place-versions-via-else-place-versions}
use Rattle.store_table.proofs.searching.version_at.Goals as goal

pub returns-then-eq : goal.returns-then-eq
returns-then-eq c =
    found_at c.args.start c.args.versions.now c.place_of_start-place.result c.requires c.place_of_start-place.ensures.value
    c.index-versions-place.result c.index-versions-place-then-eq.result c.if-place-versions.true
    c.index-versions-place.is c.index-versions-place-then-eq.is (ap (λ (v : Version). same_event v.start c.args.start) c.index-versions-place.is ∙ sym c.eq.ensures ∙ c.if-eq.true)

pub returns-else-place-versions : goal.returns-else-place-versions
returns-else-place-versions c =
    elim c.else-place-versions.branch [
      | else-place-versions-via-then-place-versions+else-eq w ↦
          none_at c.args.start c.args.versions.now c.place_of_start-place.result c.requires c.place_of_start-place.ensures.value
          w.index-versions-place.result w.index-versions-place.is (ap (λ (v : Version). same_event v.start c.args.start) w.index-versions-place.is ∙ sym w.eq.ensures ∙ w.if-eq.false)
      | else-place-versions-via-else-place-versions w ↦
          none_beyond c.args.start c.args.versions.now c.place_of_start-place.result c.requires c.place_of_start-place.ensures.value
          (omega (arith, w.if-place-versions.false))
    ]
