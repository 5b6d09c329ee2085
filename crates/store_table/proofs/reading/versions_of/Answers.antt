use Rattle.std.proofs.Common.{Bor, List, Vec, [], ◌∷◌, ◌∙◌, ap, map}
use Rattle.std.proofs.lemmas.List.{map-append}
use Rattle.std.specs.declared.alloc.Global.{Global}
use Rattle.sql_types.specs.declared.version.Version.{Version}
use Rattle.store_table.proofs.Stretches.{next_found, next_none}
use Rattle.store_table.proofs.reading.versions_of.Goals.{in-Some+in_ok-push, in_default}
use Rattle.store_table.proofs.reading.versions_of.Goals as goal

abbrev seen : List (Bor Version) → List Version
seen = map (λ v. v.now)

abbrev kept : Vec (Bor Version) Global → List Version
kept found = seen found.items

pub loop-place-preserved : goal.loop-place-preserved
loop-place-preserved c =
    let order = c.args.order.now.list in
    let vs = c.args.versions.now in
    let n = c.loop-place.place in
    let behind = c.args.stretch.behind in
    elim c.match-version_in.branch [
      | in-Some+in_ok-push w ↦
          let v = w.in-Some.version in
          next_found order vs n behind c.loop-place-test.true _ (kept c.loop-place.found) _ v.now w.in-Some.ensures c.loop-place.invariant
          (ap kept w.found-is ∙ ap seen w.in_ok-push.ensures.items ∙ map-append (λ (x : Bor Version). x.now) c.loop-place.found.items (v ∷ []))
      | in_default w ↦ next_none order vs n behind c.loop-place-test.true _ (kept c.loop-place.found) _ w.in_default.ensures c.loop-place.invariant (ap kept w.found-is)
    ]
