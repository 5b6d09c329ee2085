use Rattle.std.proofs.Common.{rules, sym, ap, ◌∙◌}
use Rattle.std.specs.Prelude.{◌==◌}
use Rattle.std.specs.List.{position}
use Rattle.store_tx.proofs.Trees.{still_there, now_there, more_tables, leaves_same, there_at_all, differ_pushed, not_there}
use Rattle.store_tx.proofs.tree.open.Goals as goal

pub returns-in_ok-push-clause-leaves : goal.returns-in_ok-push-clause-leaves
returns-in_ok-push-clause-leaves g c = λ id leaves k. leaves_same g.H.Hash32.digest c.args.hasher id c.args.trees.now.items c.push.new.self.items _ leaves c.in_ok-push.ensures.items c.new-frontier.ensures k

pub returns-in_ok-push-clause-others : goal.returns-in_ok-push-clause-others
returns-in_ok-push-clause-others g c = λ id f e. still_there id c.args.trees.now.items c.push.new.self.items _ f c.in_ok-push.ensures.items e

pub returns-in_ok-push-clause-tables : goal.returns-in_ok-push-clause-tables
returns-in_ok-push-clause-tables g c = (_, more_tables c.args.trees.now.items c.push.new.self.items _ c.in_ok-push.ensures.items)

pub returns-in_ok-push-clause-ok : goal.returns-in_ok-push-clause-ok
returns-in_ok-push-clause-ok g c = now_there c.args.trees.now.items c.push.new.self.items _ c.in_ok-push.ensures.items

pub returns-else-is_none-clause-ok : goal.returns-else-is_none-clause-ok
returns-else-is_none-clause-ok g c = there_at_all c.args.table c.args.trees.now.items c.place_of.result (sym (c.place_of.ensures ∙ ap (position (λ t. t.table == c.args.table)) c.deref.ensures.value)) (search rules)

pub returns-in_ok-push-clause-differ : goal.returns-in_ok-push-clause-differ
returns-in_ok-push-clause-differ g c = λ d. differ_pushed c.args.trees.now.items c.push.new.self.items _ c.in_ok-push.ensures.items
    (not_there c.args.table c.args.trees.now.items c.place_of.result (c.place_of.ensures ∙ ap (position (λ t. t.table == c.args.table)) c.deref.ensures.value) (search rules)) d
