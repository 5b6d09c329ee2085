use Rattle.std.proofs.Common.{sym, ◌∙◌, ap, subst, List, map}
use Rattle.std.specs.List.{AllByRecursion}
use Rattle.sql_types.specs.declared.entry.TxEntry.{TxEntry}
use Rattle.format_entry.specs.Entry.{IsEntry, entry_bytes}
use Rattle.base_merkle.specs.TreeHash.{tree_hash}
use Rattle.audit_extract.proofs.Linked.{digested}
use Rattle.audit_extract.proofs.Nodes.{behind_next, behind_none, in_this_block}
use Rattle.audit_extract.proofs.Parted.{all_left_at, here, next, differ, ended}
use Rattle.audit_extract.proofs.blocks.in_blocks.Goals as goal

pub covered_blocks-rest-requires : goal.covered_blocks-rest-requires
covered_blocks-rest-requires g c = (digested (g.H.Hash32.digest c.args.h) c.args.honest.now c.args.digest.now c.requires.honest).within

pub each-init : goal.each-init
each-init g c = (
  all_left_at (g.H.Hash32.digest c.args.h) c.args.honest.now c.args.suspect.now c.args.digest.now _ _ _ c.requires.honest c.requires.suspect c.requires.same c.covered_blocks-rest.ensures c.as_slice-a.ensures c.as_slice-b.ensures,
  behind_none c.args.honest.now c.args.suspect.now c.args.digest.now.block _ _ _ c.requires.same c.covered_blocks-rest.ensures c.as_slice-a.ensures c.as_slice-b.ensures,
)

pub split_at-requires : goal.split_at-requires
split_at-requires g c = (here (g.H.Hash32.digest c.args.h) _ c.in-Some.block.now c.each.rest.now c.in-Some.more.now c.each.a.now c.each.b.now c.in-Some.ensures c.each.invariant.0).within_a

pub split_at-requires-in-Some : goal.split_at-requires-in-Some
split_at-requires-in-Some g c = (here (g.H.Hash32.digest c.args.h) _ c.in-Some.block.now c.each.rest.now c.in-Some.more.now c.each.a.now c.each.b.now c.in-Some.ensures c.each.invariant.0).within_b

pub in_block-requires-clause-fit_a : goal.in_block-requires-clause-fit_a
in_block-requires-clause-fit_a g c = λ κ o.
    subst (AllByRecursion IsEntry) (sym c.split_at.ensures.front) (here (g.H.Hash32.digest c.args.h) _ c.in-Some.block.now c.each.rest.now c.in-Some.more.now c.each.a.now c.each.b.now c.in-Some.ensures c.each.invariant.0).fit_a

pub in_block-requires-clause-fit_b : goal.in_block-requires-clause-fit_b
in_block-requires-clause-fit_b g c = λ κ o.
    subst (AllByRecursion IsEntry) (sym c.split_at-in-Some.ensures.front) (here (g.H.Hash32.digest c.args.h) _ c.in-Some.block.now c.each.rest.now c.in-Some.more.now c.each.a.now c.each.b.now c.in-Some.ensures c.each.invariant.0).fit_b

pub in_block-requires-clause-root : goal.in_block-requires-clause-root
in_block-requires-clause-root g c = λ κ o.
    let h = g.H.Hash32.digest c.args.h in
    let at = here h _ c.in-Some.block.now c.each.rest.now c.in-Some.more.now c.each.a.now c.each.b.now c.in-Some.ensures c.each.invariant.0 in
    ap (λ (xs : List TxEntry). tree_hash h (map entry_bytes xs)) c.split_at.ensures.front ∙ at.root ∙ sym (ap (λ (xs : List TxEntry). tree_hash h (map entry_bytes xs)) c.split_at-in-Some.ensures.front)

pub returns-in-Collision-clause-finds : goal.returns-in-Collision-clause-finds
returns-in-Collision-clause-finds g c =
    let found = rw c.in-Collision.is at c.in_ok-found.ensures.finds in
    (differ (g.H.Hash32.digest c.args.h) _ c.in-Some.block.now c.each.rest.now c.in-Some.more.now c.each.a.now c.each.b.now _ _ c.in-Some.ensures c.each.invariant.0 c.split_at.ensures.front c.split_at-in-Some.ensures.front found.0, found.1)

pub each-preserved : goal.each-preserved
each-preserved g c =
    let same = rw c.in_default-2.is at c.in_ok-found.ensures.finds in (
      next (g.H.Hash32.digest c.args.h) _ c.in-Some.block.now c.each.rest.now c.in-Some.more.now c.each.a.now c.each.b.now _ _ _ _ c.in-Some.ensures c.each.invariant.0 c.split_at.ensures.front c.split_at-in-Some.ensures.front c.split_at.ensures.back c.split_at-in-Some.ensures.back same,
      behind_next c.args.honest.now c.args.suspect.now c.args.digest.now.block c.in-Some.block.now c.each.rest.now c.in-Some.more.now c.each.a.now c.each.b.now c.in-Some.ensures c.each.invariant.1 _ _ c.split_at.ensures.back c.split_at-in-Some.ensures.back,
    )

pub returns-in-Collision-clause-strings : goal.returns-in-Collision-clause-strings
returns-in-Collision-clause-strings g c =
    in_this_block c.args.honest.now c.args.suspect.now c.args.digest.now.block c.in-Some.block.now c.each.rest.now c.in-Some.more.now c.each.a.now c.each.b.now c.in-Some.ensures c.each.invariant.1
    (g.H.Hash32.digest c.args.h) _ _ _ c.split_at.ensures.front c.split_at-in-Some.ensures.front (rw c.in-Collision.is at c.in_ok-found.ensures.strings)

pub returns-clause-finds : goal.returns-clause-finds
returns-clause-finds g c = ended (g.H.Hash32.digest c.args.h) _ c.each.rest.now c.each.a.now c.each.b.now (rw c.in_default.is at c.first_of.ensures) c.each.invariant.0
