use Rattle.store_table.proofs.UndoSteps.{undone_both}
use Rattle.store_table.proofs.version_store.VersionStore.undo.Goals as goal

pub returns-clause-stored : goal.returns-clause-stored
returns-clause-stored c =
    undone_both c.args.tx c.args.seq c.args.self.now.stored c.undo_ends.new.self.stored c.undo_starts.new.self.stored
    c.undo_ends.ensures.stored c.undo_ends.ensures.left c.undo_starts.ensures.stored
