use Rattle.std.proofs.Common.{◌≡◌, ℕ, List, [], suc, length, slice_index_or, ap, sym, subst, ◌∙◌, arith}
use Rattle.base_merkle.specs.Levels.{level_above}
use Rattle.base_merkle.proofs.Levels.{IsLevel, length-level_above, level_is_above, level_of_leaves, root_of_none, root_of_one}
use Rattle.base_merkle.proofs.level.root_of_hashes.Goals as goal

pub levels-init : goal.levels-init
levels-init g c = λ leaves e. (0, rw e (level_of_leaves (g.H.Hash32.digest c.args.hasher) leaves))

pub levels-preserved : goal.levels-preserved
levels-preserved g c = λ leaves e.
    let h = g.H.Hash32.digest c.args.hasher in
    let before = c.levels.invariant leaves e in
    let above : c.in_ok-nodes.nodes.items ≡ level_above h c.levels.nodes.items = c.in_ok-nodes.ensures ∙ ap (level_above h) c.deref.ensures.value in
    (suc before.0, subst (λ (nodes : List (List ℕ)). IsLevel h (suc before.0) nodes leaves) (sym above) (level_is_above h before.0 c.levels.nodes.items leaves before.1))

pub levels-smaller : goal.levels-smaller
levels-smaller g c =
    let h = g.H.Hash32.digest c.args.hasher in
    let above : c.in_ok-nodes.nodes.items ≡ level_above h c.levels.nodes.items = c.in_ok-nodes.ensures ∙ ap (level_above h) c.deref.ensures.value in
    omega (arith, ap length above, length-level_above h c.levels.nodes.items, c.len.ensures, c.levels-test.true)

pub returns-in-empty : goal.returns-in-empty
returns-in-empty g c = λ leaves e.
    let h = g.H.Hash32.digest c.args.hasher in
    let last = c.levels.invariant leaves e in
    c.hash.ensures ∙ root_of_none h last.0 c.levels.nodes.items leaves (omega (arith, ap length c.as_slice.ensures.value, c.in-empty.len_below)) last.1

pub returns : goal.returns
returns g c = λ leaves e.
    let h = g.H.Hash32.digest c.args.hasher in
    let last = c.levels.invariant leaves e in
    ap (λ (nodes : List (List ℕ)). slice_index_or nodes 0 []) c.as_slice.ensures.value
    ∙ root_of_one h last.0 c.levels.nodes.items leaves
    (omega (arith, ap length c.as_slice.ensures.value, c.in-len1-up.len_at_least, c.len.ensures, c.levels-test.false)) last.1
