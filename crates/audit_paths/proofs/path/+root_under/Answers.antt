use Rattle.std.proofs.Common.{List, ℕ, ap, ◌∙◌, sym}
use Rattle.audit_paths.specs.Path.{root_under}
use Rattle.audit_paths.proofs.Equations.{under_few, under_few_none, under_none, climbs}
use Rattle.audit_paths.proofs.path.+root_under.Goals as goal

pub returns-then-count-lt2-2 : goal.returns-then-count-lt2-2
returns-then-count-lt2-2 g t c =
    let h = g.H.Hash32.digest c.args.h in
    sym (ap (λ (p : List (List ℕ)). root_under h p c.args.place c.args.count c.args.leaf.now) c.in-Some.ensures
    ∙ under_few_none h c.in-Some.below.now c.in-Some.other.now c.args.place c.args.count c.args.leaf.now c.if-count-lt2-2.true)

pub returns-then-count-lt2 : goal.returns-then-count-lt2
returns-then-count-lt2 g t c =
    let h = g.H.Hash32.digest c.args.h in
    rw c.leaf_hash.ensures
    (sym (ap (λ (p : List (List ℕ)). root_under h p c.args.place c.args.count c.args.leaf.now) c.in-None.ensures
    ∙ under_few h c.args.place c.args.count c.args.leaf.now c.if-count-lt2.true))

pub returns-else-count-lt2 : goal.returns-else-count-lt2
returns-else-count-lt2 g t c =
    let h = g.H.Hash32.digest c.args.h in
    sym (ap (λ (p : List (List ℕ)). root_under h p c.args.place c.args.count c.args.leaf.now) c.in-None.ensures
    ∙ under_none h c.args.place c.args.count c.args.leaf.now c.if-count-lt2.false)

pub returns-else-count-lt2-2 : goal.returns-else-count-lt2-2
returns-else-count-lt2-2 g t c =
    c.above.ensures
    ∙ climbs (g.H.Hash32.digest c.args.h) c.args.path.now c.in-Some.below.now c.in-Some.other.now c.half_of-half.result.other c.args.place c.args.count c.half_of-half.result.place c.half_of-half.result.count
    c.args.leaf.now c.root_under-hash.result c.in-Some.ensures c.half_of-half.ensures.sides c.root_under-hash.ensures
