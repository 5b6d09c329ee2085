use Rattle.std.proofs.Common.{IfSome, Err, inl, inr, subst}
use Rattle.base_io.specs.History.{Since}
use Rattle.cli_audit.specs.declared.transfer.ReadErr.{ReadErr}
use Rattle.cli_audit.specs.Calls.{ReadsOf}
use Rattle.cli_audit.specs.Transfer.{IsInputRead}
use Rattle.cli_audit.proofs.AsOfLemmas.{read_came, read_none, read_past}
use Rattle.cli_audit.proofs.CallLemmas.{since_weaker}
use Rattle.cli_audit.proofs.asof.read_whole.Goals as goal

pub returns-in-Ok-clause-came : goal.returns-in-Ok-clause-came
returns-in-Ok-clause-came g c = read_came _ _ c.in-Ok.input c.in-Ok.ensures.came

pub returns-in-Ok-clause-rest : goal.returns-in-Ok-clause-rest
returns-in-Ok-clause-rest g c = read_none _ _ c.in-Ok.input c.in-Ok.ensures.came

pub returns-in-Err-TooMuch-clause-read : goal.returns-in-Err-TooMuch-clause-read
returns-in-Err-TooMuch-clause-read g c =
    let rest = g.S.Source.left c.read_input.new.source in
    let P : ReadErr → Type 0 = λ e. IfSome (g.S.Source.left c.args.source.now) (λ all. IsInputRead all rest (Err e)) in
    read_past _ rest (subst P c.in-Err-TooMuch.field-0-is c.in-Err-TooMuch.ensures.came)

pub returns-in-Err-TooMuch-clause-reads : goal.returns-in-Err-TooMuch-clause-reads
returns-in-Err-TooMuch-clause-reads g c =
    let P : ReadErr → Type 0 = λ e. Since (g.S.Source.history c.args.source.now) (g.S.Source.history c.read_input.new.source) (ReadsOf (Err e)) in
    since_weaker _ _ _ _ (λ answers moved. inr (inl moved)) (subst P c.in-Err-TooMuch.field-0-is c.in-Err-TooMuch.ensures.reads)

pub returns-in-Err-Memory-clause-reads : goal.returns-in-Err-Memory-clause-reads
returns-in-Err-Memory-clause-reads g c =
    let P : ReadErr → Type 0 = λ e. Since (g.S.Source.history c.args.source.now) (g.S.Source.history c.read_input.new.source) (ReadsOf (Err e)) in
    since_weaker _ _ _ _ (λ answers moved. inr (inl moved)) (subst P c.in-Err-Memory.field-0-is c.in-Err-Memory.ensures.reads)
