use Rattle.base_io.proofs.Places.{replaced, added}
use Rattle.base_io.proofs.mem_vault.keep.Goals as goal

pub returns-in-Some-clause-ok : goal.returns-in-Some-clause-ok
returns-in-Some-clause-ok c =
    let place = rw c.deref.ensures.value at c.in-Some.ensures.place in
    replaced c.args.entries.now.items c.args.name.now c.in-Some.at c.index_mut.result.now c.args.held place c.index_mut.ensures.value

pub returns-in_ok-push-in-None-clause-ok : goal.returns-in_ok-push-in-None-clause-ok
returns-in_ok-push-in-None-clause-ok c =
    let none = rw c.deref.ensures.value at c.in-None.ensures.none in
    added c.args.entries.now.items c.push.new.self.items c.args.name.now c.in_ok-name-in-None.name c.args.held none c.in_ok-name-in-None.ensures c.in_ok-push-in-None.ensures.items
