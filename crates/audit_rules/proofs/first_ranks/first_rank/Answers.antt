use Rattle.std.proofs.Common.{rules, of_calls, is_lt, sym, ◌∙◌}
use Rattle.std.proofs.lemmas.List.Sorted.{IsPartitionPoint-from_clause}
use Rattle.audit_rules.specs.declared.first_ranks.Happened.{Happened}
use Rattle.audit_rules.specs.FirstRanks.{by_thing, by_rank, thing_cmp}
use Rattle.audit_rules.proofs.FirstOfRuns.{parted, some_came, none_came}
use Rattle.audit_rules.proofs.Happenings.{any_is, at, happened_is, happened_total, ranks_total, things_total}
use Rattle.audit_rules.proofs.first_ranks.first_rank.Goals as goal

pub returns-in-Some : goal.returns-in-Some
returns-in-Some c = λ before.
    let thing = c.args.thing.now in
    let hs = c.args.happened.now in
    let found = c.in-Some.ensures.lookup in
    let point = IsPartitionPoint-from_clause (λ (h : Happened). is_lt (thing_cmp h.thing thing)) _ _ c.partition_point-at.ensures.partitioned
    (parted by_thing by_rank things_total ranks_total (at thing before) happened_total hs c.requires) (λ a r q k. search (rules, of_calls)) in
    c.rank_if.ensures before ∙ sym (happened_is thing before c.in-Some.one.now)
    ∙ some_came by_thing by_rank things_total ranks_total (at thing before) happened_total hs c.requires c.partition_point-at.result point c.in-Some.one.now found.0 found.1
    ∙ any_is thing before hs

pub returns-in-None : goal.returns-in-None
returns-in-None c = λ before.
    let thing = c.args.thing.now in
    let hs = c.args.happened.now in
    let found = c.in-None.ensures.lookup in
    let point = IsPartitionPoint-from_clause (λ (h : Happened). is_lt (thing_cmp h.thing thing)) _ _ c.partition_point-at.ensures.partitioned
    (parted by_thing by_rank things_total ranks_total (at thing before) happened_total hs c.requires) (λ a r q k. search (rules, of_calls)) in
    none_came by_thing by_rank things_total ranks_total (at thing before) happened_total hs c.requires c.partition_point-at.result point found.3
    ∙ any_is thing before hs
