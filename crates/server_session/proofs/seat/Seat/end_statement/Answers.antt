use Rattle.std.proofs.Common.{◌≡◌, ℕ, List, [], ◌∷◌, Option, sym, ap, ◌∙◌, subst, subst₂, rules}
use Rattle.sql_types.specs.declared.statement.Stmt.{Stmt}
use Rattle.spec_history.specs.Transcripts.{statement}
use Rattle.server_session.specs.Rest.{IsRest, HasScriptRoom}
use Rattle.server_session.specs.Steps.{IsAnsweredBy, end_of, entries_by}
use Rattle.server_session.specs.declared.stage.ControlPoint.{ControlPoint}
use Rattle.server_session.specs.declared.stage.ControlPoint.TheVariants.{Inside}
use Rattle.server_session.specs.declared.stage.Stage.TheVariants.{Answering as Answered}
use Rattle.server_session.proofs.Alone.{then_seat}
use Rattle.server_session.proofs.Ending.{ends_statement}
use Rattle.server_session.proofs.seat.Seat.end_statement.Goals as goal

pub returns-clause-answered : goal.returns-clause-answered
returns-clause-answered g c =
    let y = c.args.self.now in
    let a = c.certain_reply-answering.result in
    let text : c.replace-text.result ≡ y.text = search rules in
    subst₂ (λ (st : Option Stmt) (p : ControlPoint). IsAnsweredBy g.H.Hash32.digest y (then_seat y y.started c.replace-text.new.dest st c.rest_of.new.place p))
    (sym c.put_statement.ensures) (sym c.replace.ensures.after)
    (ends_statement g.H.Hash32.digest y a c.replace-text.new.dest c.rest_of.new.place (sym c.replace.ensures.value ∙ c.certain_reply-answering.ensures) c.requires.done
    (subst (λ (t : List ℕ). HasScriptRoom a.said y.running → IsRest t a y.running c.rest_of.new.place) text c.rest_of.ensures.rest))

pub returns-clause-left : goal.returns-clause-left
returns-clause-left g c =
    let y = c.args.self.now in
    let a = c.certain_reply-answering.result in
    let text : c.replace-text.result ≡ y.text = search rules in
    let at : y.point ≡ Inside (Answered a) = sym c.replace.ensures.value ∙ c.certain_reply-answering.ensures in
    c.rest_of.ensures.left ∙ ap (λ (t : List ℕ). statement t a.reply (end_of y.running) ∷ []) text
    ∙ sym (ap (λ (p : ControlPoint). entries_by p y.text (end_of y.running)) at)
