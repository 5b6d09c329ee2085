use Rattle.std.proofs.Common.{arith, rules, ap, sym, ◌∙◌, ◌-◌}
use Rattle.std.specs.Prelude.{nat_le}
use Rattle.std.proofs.lemmas.List.{get_or_default}
use Rattle.std.proofs.lemmas.List.Sorted.{IsPartitionPoint-from_clause}
use Rattle.sql_types.specs.declared.version.Version.{Version}
use Rattle.spec_model.specs.Undo.{is_undone}
use Rattle.store_table.proofs.Last.{none_undone, up_to_parted, versions_rise}
use Rattle.store_table.proofs.searching.last_start.Goals.{else-behind-gt0-via-then-behind-gt0+else-is_undone, else-behind-gt0-via-else-behind-gt0}
use Rattle.store_table.proofs.searching.last_start.Goals as goal

pub returns-else-behind-gt0-clause-none : goal.returns-else-behind-gt0-clause-none
returns-else-behind-gt0-clause-none c =
    let vs = c.args.versions.now in
    let n = c.partition_point-behind.result in
    let within = c.partition_point-behind.ensures.bound in
    let rises = versions_rise vs c.requires in
    let point = IsPartitionPoint-from_clause (λ (v : Version). nat_le v.start.0 c.args.tx) vs n c.partition_point-behind.ensures.partitioned
    (up_to_parted (λ (v : Version). v.start) vs rises c.args.tx c.args.seq) (λ a r f called. search rules) in
    none_undone (λ (v : Version). v.start) vs rises c.args.tx c.args.seq n within point
    (elim c.else-behind-gt0.branch [
      | else-behind-gt0-via-then-behind-gt0+else-is_undone w ↦ λ d some. ap (λ (v : Version). is_undone c.args.tx c.args.seq v.start) (get_or_default vs (n - 1) d w.index-versions-behind.result (omega (arith, some, within))) ∙ sym w.is_undone.ensures ∙ w.if-is_undone.false
      | else-behind-gt0-via-else-behind-gt0 w ↦ λ d some. absurd (omega (arith, some, w.if-behind-gt0.false))
    ])
