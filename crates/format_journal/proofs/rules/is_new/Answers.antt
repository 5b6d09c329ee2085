use Rattle.format_journal.proofs.Ids.{inserted}
use Rattle.format_journal.proofs.rules.is_new.Goals as goal

pub returns-in_ok-insert-in-Tx : goal.returns-in_ok-insert-in-Tx
returns-in_ok-insert-in-Tx c = λ items.
    let t = c.in-Tx in
    let e = c.in_ok-insert-in-Tx.ensures in
    rw t.is (inserted t.id t.session t.time t.explicit t.script c.args.before.now.keys c.insert.new.self.keys c.in_ok-insert-in-Tx.field-0 e.added e.updates.0 items)
