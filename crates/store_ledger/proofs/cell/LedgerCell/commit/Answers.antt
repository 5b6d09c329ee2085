use Rattle.std.proofs.Common.{rules, ◌≡◌, ◌∙◌, ◌∷◌, [], sym, ap, arith}
use Rattle.sql_types.specs.declared.journal.JournalItem.TheVariants.{Tx}
use Rattle.sql_types.specs.declared.journal.JournalItem.{JournalItem}
use Rattle.spec_model.specs.Journals.{tx_count}
use Rattle.std.specs.Prelude.{List, ◌++◌}
use Rattle.spec_history.proofs.Trace.{count_append}
use Rattle.store_ledger.specs.HashedCell.{HashedCell}
use Rattle.store_ledger.specs.Commits.{new_entry}
use Rattle.store_ledger.proofs.Counted.{committed}
use Rattle.store_ledger.proofs.cell.LedgerCell.commit.Goals as goal

pub invariant_of-self-2 : goal.invariant_of-self-2
invariant_of-self-2 c =
    committed c.self.inside.block_size c.self.inside.items.items c.push_reserved.new.self.items
    c.self.inside.next c.self.inside.ledger_chain.ledger c.commit.new.self.ledger c.self.invariant
    (new_entry c.args.id c.args.session.now c.args.time c.args.roots) c.args.id c.args.time c.args.session.now
    c.args.explicit c.args.script (search rules) (search rules)

pub returns-clause-place : goal.returns-clause-place
returns-clause-place c =
    let item = Tx c.args.id c.args.session.now c.args.time c.args.explicit c.args.script in
    let items : c.push_reserved.new.self.items ≡ c.self.inside.items.items ++ item ∷ [] = search rules in
    let before : tx_count c.args.self.now.cell.items ≡ tx_count c.self.inside.items.items =
    ap (λ (v : HashedCell). tx_count v.cell.items) (sym c.self.view_is) in
    c.point.ensures ∙ ap (λ (J : List JournalItem). tx_count J) items
    ∙ (let all = count_append c.self.inside.items.items (item ∷ []) in omega arith)
