use Rattle.std.proofs.Common.{◌≡◌, Bool, true, ◌++◌, refl, sym, ap, ◌∙◌, rules}
use Rattle.server_session.specs.Rest.{said_pair}
use Rattle.server_session.proofs.LastAnswers.{last_pushed}
use Rattle.server_session.proofs.rest.with_statement.Goals as goal

pub returns-clause-rest : goal.returns-clause-rest
returns-clause-rest g c =
    let said : c.args.answering.said ≡ true = search rules in
    λ may. (
      refl,
      refl,
      c.requires,
      c.push_reserved.ensures.items
          ∙ ap (λ (b : Bool). c.args.running.now.script.items ++ said_pair b c.args.text c.args.answering.reply) (sym said),
      refl,
    )

pub returns-clause-left : goal.returns-clause-left
returns-clause-left g c = last_pushed c.push_reserved.new.self.items c.args.running.now.script.items c.args.text c.args.answering.reply
    c.push_reserved.ensures.items
