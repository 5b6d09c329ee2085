use Rattle.std.proofs.Common.{sym, ap, ◌∙◌, subst, ◌∷◌, ◌++◌, []}
use Rattle.std.specs.Prelude.{◌==◌}
use Rattle.std.specs.List.{position}
use Rattle.std.specs.Option.{IsSome}
use Rattle.store_tx.proofs.Trees.{has_place, room_there, pushed_here, pushed_elsewhere, pushed_open, pushed_at, set_tables}
use Rattle.store_tx.proofs.tree.push_leaf.Goals as goal

pub unwrap-place-requires : goal.unwrap-place-requires
unwrap-place-requires g c = subst (λ o. IsSome o)
    (sym (c.place_of.ensures ∙ ap (position (λ t. t.table == c.args.table)) c.deref.ensures.value))
    (has_place c.args.table c.args.trees.now.items c.requires.open.0 c.requires.open.1)

pub push_leaf-requires-after_bounds : goal.push_leaf-requires-after_bounds
push_leaf-requires-after_bounds g c κs within = room_there g.H.Hash32.digest c.args.table c.args.trees.now.items c.unwrap-place.result c.index_mut.result.now
    (pushed_at c.args.table c.args.trees.now.items c.place_of.result c.unwrap-place.result c.index_mut.result.now
    (c.place_of.ensures ∙ ap (position (λ t. t.table == c.args.table)) c.deref.ensures.value) c.unwrap-place.ensures c.index_mut.ensures.value)
    c.requires.open

pub returns-clause-here : goal.returns-clause-here
returns-clause-here g c = λ h leaves. pushed_here g.H.Hash32.digest h c.args.table c.args.trees.now.items c.unwrap-place.result c.index_mut.result.now
    (pushed_at c.args.table c.args.trees.now.items c.place_of.result c.unwrap-place.result c.index_mut.result.now
    (c.place_of.ensures ∙ ap (position (λ t. t.table == c.args.table)) c.deref.ensures.value) c.unwrap-place.ensures c.index_mut.ensures.value)
    c.push_leaf.new.self leaves (leaves ++ c.args.leaf.now ∷ []) (c.push_leaf.ensures h leaves)

pub returns-clause-others : goal.returns-clause-others
returns-clause-others g c = λ id. pushed_elsewhere id c.args.table c.args.trees.now.items c.unwrap-place.result c.index_mut.result.now
    (pushed_at c.args.table c.args.trees.now.items c.place_of.result c.unwrap-place.result c.index_mut.result.now
    (c.place_of.ensures ∙ ap (position (λ t. t.table == c.args.table)) c.deref.ensures.value) c.unwrap-place.ensures c.index_mut.ensures.value)
    c.push_leaf.new.self

pub returns-clause-open : goal.returns-clause-open
returns-clause-open g c = pushed_open c.args.table c.args.trees.now.items c.unwrap-place.result c.index_mut.result.now
    (pushed_at c.args.table c.args.trees.now.items c.place_of.result c.unwrap-place.result c.index_mut.result.now
    (c.place_of.ensures ∙ ap (position (λ t. t.table == c.args.table)) c.deref.ensures.value) c.unwrap-place.ensures c.index_mut.ensures.value)
    c.push_leaf.new.self

pub returns-clause-tables : goal.returns-clause-tables
returns-clause-tables g c = set_tables c.args.trees.now.items c.unwrap-place.result c.index_mut.result.now _ (ap (λ t. t.table) c.index_mut.ensures.value)
