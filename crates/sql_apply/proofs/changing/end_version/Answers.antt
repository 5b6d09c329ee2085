use Rattle.std.proofs.Common.{arith, sym, ap, ◌∙◌}
use Rattle.sql_apply.specs.Places.{place}
use Rattle.sql_apply.proofs.Places.{all_before, none_ends, one_ends}
use Rattle.sql_apply.proofs.changing.end_version.Goals.{else-place-len-via-then-place-len+else-eq, else-place-len-via-else-place-len}
use Rattle.sql_apply.proofs.changing.end_version.Goals as goal

pub returns-then-eq : goal.returns-then-eq
returns-then-eq c =
    let here = c.place_of-place.ensures.value ∙ ap (place c.args.start) c.deref.ensures.value in
    one_ends c.args.at c.args.start c.args.versions.now.items c.place_of-place.result c.requires here c.index.result.now c.index_mut.result.now
    (omega (arith, c.if-place-len.true, c.len.ensures)) c.index.ensures c.index_mut.ensures.value (sym c.eq.ensures ∙ c.if-eq.true)

pub returns-else-place-len : goal.returns-else-place-len
returns-else-place-len c =
    let here = c.place_of-place.ensures.value ∙ ap (place c.args.start) c.deref.ensures.value in
    elim c.else-place-len.branch [
      | else-place-len-via-then-place-len+else-eq w ↦
          none_ends c.args.at c.args.start c.args.versions.now.items c.place_of-place.result c.requires here w.index.result.now w.index.ensures (sym w.eq.ensures ∙ w.if-eq.false)
      | else-place-len-via-else-place-len w ↦
          all_before c.args.at c.args.start c.args.versions.now.items c.place_of-place.result c.requires here (omega (arith, w.if-place-len.false, c.len.ensures))
    ]
