use Rattle.std.proofs.Common.{rules, refl, drop, ◌+◌, ◌-◌}
use Rattle.audit_extract.proofs.Linked.{agreed_at, digested, one_less, records_collide}
use Rattle.audit_extract.proofs.Nodes.{get_of_drop}
use Rattle.audit_extract.proofs.chain.in_chain.Goals as goal

pub covered_blocks-at-requires : goal.covered_blocks-at-requires
covered_blocks-at-requires g c = (digested (g.H.Hash32.digest c.args.h) c.args.honest.now c.args.digest.now c.requires.honest).within

pub loop-at-init : goal.loop-at-init
loop-at-init g c =
    agreed_at (g.H.Hash32.digest c.args.h) c.args.honest.now c.args.suspect.now c.args.digest.now c.covered_blocks-at.result.now _ c.requires.honest c.requires.suspect c.covered_blocks-at.ensures (search rules)

pub loop-at-preserved : goal.loop-at-preserved
loop-at-preserved g c =
    one_less (g.H.Hash32.digest c.args.h) c.args.honest.now c.args.suspect.now c.args.digest.now c.loop-at.at (c.loop-at.at - 1) c.record_at-x.result.now c.record_at-y.result.now c.requires.honest c.requires.suspect (search rules) refl c.loop-at.invariant
    (search rules) (search rules) (c.if-not-is_same_record.ensures.same refl)

pub returns-then-not-is_same_record-clause-finds : goal.returns-then-not-is_same_record-clause-finds
returns-then-not-is_same_record-clause-finds g c =
    records_collide (g.H.Hash32.digest c.args.h) c.args.honest.now c.args.suspect.now c.args.digest.now c.loop-at.at (c.loop-at.at - 1) c.record_at-x.result.now c.record_at-y.result.now _ _ c.requires.honest c.requires.suspect (search rules) refl c.loop-at.invariant
    (search rules) (search rules) (c.if-not-is_same_record.ensures.differ refl) c.in_ok-bytes_of_both.ensures.first c.in_ok-bytes_of_both.ensures.second

pub returns-then-not-is_same_record-clause-strings : goal.returns-then-not-is_same_record-clause-strings
returns-then-not-is_same_record-clause-strings g c = record {
  block = c.loop-at.at - 1;
  x = c.record_at-x.result.now;
  y = c.record_at-y.result.now;
  at_x = get_of_drop (c.loop-at.at - 1) c.args.honest.now.blocks c.record_at-x.result.now (drop (c.loop-at.at - 1 + 1) c.args.honest.now.blocks) (search rules);
  at_y = get_of_drop (c.loop-at.at - 1) c.args.suspect.now.blocks c.record_at-y.result.now (drop (c.loop-at.at - 1 + 1) c.args.suspect.now.blocks) (search rules);
  first = c.in_ok-bytes_of_both.ensures.first;
  second = c.in_ok-bytes_of_both.ensures.second;
}
