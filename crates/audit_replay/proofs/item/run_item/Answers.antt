use Rattle.std.proofs.Common.{sym, subst, ◌++◌, ◌∷◌, []}
use Rattle.spec_model.specs.Journals.{serial}
use Rattle.spec_syntax.specs.Text.{reading_of}
use Rattle.sql_apply.specs.Short.{AreShort}
use Rattle.audit_replay.specs.Reached.{HaveLeaves, Reached}
use Rattle.audit_replay.proofs.Steps.{new_item, enough, closes_one, close_end, closing_follows, short_then, leaves_then, entry_then, reached_then}
use Rattle.audit_replay.proofs.item.run_item.Goals as goal

pub run-requires-clause-new : goal.run-requires-clause-new
run-requires-clause-new g c = new_item _ _ _ _ _ _ c.requires.reached c.requires.follows

pub close-requires-clause-count : goal.close-requires-clause-count
close-requires-clause-count g c κs within =
    enough (reading_of c.args.version) (g.H.Hash32.digest c.args.h) c.args.before.now c.in-Close.count c.args.serial_machine.now c.args.ledger_chain.now c.args.ledger_chain.now
    c.requires.reached (closing_follows c.args.before.now c.args.item.now c.in-Close.count c.in-Close.is c.requires.follows).1

pub returns-in_ok-close-in-Close-clause-end : goal.returns-in_ok-close-in-Close-clause-end
returns-in_ok-close-in-Close-clause-end g c =
    close_end (reading_of c.args.version) (serial (reading_of c.args.version) c.args.before.now) c.args.item.now c.in-Close.count c.in-Close.is

pub returns-in_ok-close-in-Close-clause-agrees : goal.returns-in_ok-close-in-Close-clause-agrees
returns-in_ok-close-in-Close-clause-agrees g c = λ same.
    let follows = closing_follows c.args.before.now c.args.item.now c.in-Close.count c.in-Close.is c.requires.follows in
    subst (λ i. Reached (g.H.Hash32.digest c.args.h) (reading_of c.args.version) (c.args.before.now ++ i ∷ []) c.args.serial_machine.now c.close.new.self) (sym c.in-Close.is)
    (closes_one (reading_of c.args.version) (g.H.Hash32.digest c.args.h) c.args.before.now c.in-Close.count c.args.serial_machine.now c.args.ledger_chain.now c.close.new.self
    c.requires.reached follows.0 follows.1 c.in_ok-close-in-Close.ensures.ledger c.in_ok-close-in-Close.ensures.hash)

pub entry_of-requires-clause-short : goal.entry_of-requires-clause-short
entry_of-requires-clause-short g c κs within =
    subst AreShort (sym c.tables.ensures)
    (short_then (reading_of c.args.version) (g.H.Hash32.digest c.args.h) c.args.before.now c.args.item.now c.in-Tx.id c.in-Tx.session c.in-Tx.time c.in-Tx.explicit
    c.in-Tx.script c.args.serial_machine.now c.run.new.self c.args.ledger_chain.now c.in_ok-statement-in-Tx.field-0 c.requires.reached c.requires.follows c.in-Tx.is
    (c.run_agrees_with_legal_items.ensures.there (reading_of c.args.version) (serial (reading_of c.args.version) c.args.before.now) c.in-Tx.id c.in-Tx.session c.in-Tx.time c.in-Tx.explicit c.in-Tx.script)
    c.in_ok-statement-in-Tx.ensures.end c.in-Agrees.is c.in_ok-statement-in-Tx.ensures.tables)

pub entry_of-requires-clause-leaves : goal.entry_of-requires-clause-leaves
entry_of-requires-clause-leaves g c κs within =
    subst (HaveLeaves c.in-Tx.id) (sym c.tables.ensures)
    (leaves_then (reading_of c.args.version) (g.H.Hash32.digest c.args.h) c.args.before.now c.args.item.now c.in-Tx.id c.in-Tx.session c.in-Tx.time c.in-Tx.explicit
    c.in-Tx.script c.args.serial_machine.now c.run.new.self c.args.ledger_chain.now c.in_ok-statement-in-Tx.field-0 c.requires.reached c.requires.follows c.in-Tx.is
    (c.run_agrees_with_legal_items.ensures.there (reading_of c.args.version) (serial (reading_of c.args.version) c.args.before.now) c.in-Tx.id c.in-Tx.session c.in-Tx.time c.in-Tx.explicit c.in-Tx.script)
    c.in_ok-statement-in-Tx.ensures.end c.in-Agrees.is c.in_ok-statement-in-Tx.ensures.tables)

pub commit-requires : goal.commit-requires
commit-requires g c =
    rw (c.in_ok-entry-in-Agrees.ensures, c.tables.ensures)
    (entry_then (reading_of c.args.version) (g.H.Hash32.digest c.args.h) c.args.before.now c.args.item.now c.in-Tx.id c.in-Tx.session c.in-Tx.time c.in-Tx.explicit
    c.in-Tx.script c.args.serial_machine.now c.run.new.self c.args.ledger_chain.now c.in_ok-statement-in-Tx.field-0 c.requires.reached c.requires.follows c.in-Tx.is
    (c.run_agrees_with_legal_items.ensures.there (reading_of c.args.version) (serial (reading_of c.args.version) c.args.before.now) c.in-Tx.id c.in-Tx.session c.in-Tx.time c.in-Tx.explicit c.in-Tx.script)
    c.in_ok-statement-in-Tx.ensures.end c.in-Agrees.is c.in_ok-statement-in-Tx.ensures.tables ((g.met.H.Hash32 g.world.𝓛 g.world.𝓜 g.world.𝓡 ((λ s x. x), (λ x. x), (λ x. x), λ x. x)).sized c.args.h))

pub returns-in_ok-commit-in-Agrees-clause-agrees : goal.returns-in_ok-commit-in-Agrees-clause-agrees
returns-in_ok-commit-in-Agrees-clause-agrees g c = λ same.
    reached_then (reading_of c.args.version) (g.H.Hash32.digest c.args.h) c.args.before.now c.args.item.now c.in-Tx.id c.in-Tx.session c.in-Tx.time c.in-Tx.explicit
    c.in-Tx.script c.args.serial_machine.now c.run.new.self c.args.ledger_chain.now c.in_ok-statement-in-Tx.field-0 c.requires.reached c.requires.follows c.in-Tx.is
    (c.run_agrees_with_legal_items.ensures.there (reading_of c.args.version) (serial (reading_of c.args.version) c.args.before.now) c.in-Tx.id c.in-Tx.session c.in-Tx.time c.in-Tx.explicit c.in-Tx.script)
    c.in_ok-statement-in-Tx.ensures.end c.in-Agrees.is c.in_ok-statement-in-Tx.ensures.tables
    c.commit.new.self (c.in_ok-statement-in-Tx.ensures.order c.in-Agrees.is)
    (rw (c.in_ok-entry-in-Agrees.ensures, c.tables.ensures) at c.in_ok-commit-in-Agrees.ensures.ledger)
    c.in_ok-commit-in-Agrees.ensures.hash
