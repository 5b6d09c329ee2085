use Rattle.std.proofs.Common.{arith, rules, ap, sym, ◌∙◌, ◌-◌}
use Rattle.std.specs.Prelude.{nat_le}
use Rattle.std.proofs.lemmas.List.{get_or_default}
use Rattle.std.proofs.lemmas.List.Sorted.{IsPartitionPoint-from_clause}
use Rattle.spec_model.specs.Undo.{is_undone}
use Rattle.store_table.specs.declared.ending.Ending.{Ending}
use Rattle.store_table.proofs.Ends.{endings_rise}
use Rattle.store_table.proofs.Last.{none_undone, up_to_parted}
use Rattle.store_table.proofs.ending.last_ending.Goals.{else-behind-gt0-via-then-behind-gt0+else-is_undone, else-behind-gt0-via-else-behind-gt0}
use Rattle.store_table.proofs.ending.last_ending.Goals as goal

pub returns-else-behind-gt0-clause-none : goal.returns-else-behind-gt0-clause-none
returns-else-behind-gt0-clause-none c =
    let ends = c.args.ends.now in
    let n = c.partition_point-behind.result in
    let within = c.partition_point-behind.ensures.bound in
    let rises = endings_rise c.requires.0 ends c.requires.1 in
    let point = IsPartitionPoint-from_clause (λ (e : Ending). nat_le e.end.0 c.args.tx) ends n c.partition_point-behind.ensures.partitioned
    (up_to_parted (λ (e : Ending). e.end) ends rises c.args.tx c.args.seq) (λ a r f called. search rules) in
    none_undone (λ (e : Ending). e.end) ends rises c.args.tx c.args.seq n within point
    (elim c.else-behind-gt0.branch [
      | else-behind-gt0-via-then-behind-gt0+else-is_undone w ↦ λ d some. ap (λ (e : Ending). is_undone c.args.tx c.args.seq e.end) (get_or_default ends (n - 1) d w.index-ends-behind.result (omega (arith, some, within))) ∙ sym w.is_undone.ensures ∙ w.if-is_undone.false
      | else-behind-gt0-via-else-behind-gt0 w ↦ λ d some. absurd (omega (arith, some, w.if-behind-gt0.false))
    ])
