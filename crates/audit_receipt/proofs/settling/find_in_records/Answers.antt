use Rattle.std.proofs.Common.{rules, refl, ◌+◌, ◌-◌, drop}
use Rattle.audit_receipt.proofs.SameRecords.{level_start, one_less, records_collide}
use Rattle.audit_receipt.proofs.Strings.{found_among}
use Rattle.audit_receipt.proofs.settling.find_in_records.Goals as goal

pub loop-at-init : goal.loop-at-init
loop-at-init g c = level_start (g.H.Hash32.digest c.args.h) c.args.from c.args.a.now c.args.b.now c.args.digest.now c.requires.a_leads c.requires.b_leads

pub loop-at-preserved : goal.loop-at-preserved
loop-at-preserved g c =
    one_less (g.H.Hash32.digest c.args.h) c.args.from c.loop-at.at (c.loop-at.at - 1) c.args.a.now c.args.b.now c.args.digest.now c.record_at-x.result.now c.record_at-y.result.now
    c.requires.a_leads c.requires.b_leads (search rules) refl c.loop-at.invariant (search rules) (search rules) (c.if-not-is_same_record.ensures.same refl)

pub returns-then-not-is_same_record : goal.returns-then-not-is_same_record
returns-then-not-is_same_record g c = (
  records_collide (g.H.Hash32.digest c.args.h) c.loop-at.at (c.loop-at.at - 1) c.args.a.now c.args.b.now c.record_at-x.result.now c.record_at-y.result.now _ _
      c.requires.a_fit c.requires.b_fit (search rules) refl c.loop-at.invariant (search rules) (search rules) (c.if-not-is_same_record.ensures.differ refl) c.in_ok-bytes_of_both.ensures.first c.in_ok-bytes_of_both.ensures.second,
  (
    found_among (c.loop-at.at - 1) c.args.a.now c.record_at-x.result.now (drop (c.loop-at.at - 1 + 1) c.args.a.now) _ (search rules) c.in_ok-bytes_of_both.ensures.first,
    found_among (c.loop-at.at - 1) c.args.b.now c.record_at-y.result.now (drop (c.loop-at.at - 1 + 1) c.args.b.now) _ (search rules) c.in_ok-bytes_of_both.ensures.second,
  ),
)
