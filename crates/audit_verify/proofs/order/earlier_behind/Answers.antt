use Rattle.std.proofs.Common.{is_lt, sym, ap, refl, ◌∙◌}
use Rattle.audit_verify.proofs.InRuns.{knows_begin, knows_tie, knows_next}
use Rattle.audit_verify.proofs.order.earlier_behind.Goals as goal

pub returns-then-not-have_same_key : goal.returns-then-not-have_same_key
returns-then-not-have_same_key c = λ all beside known.
    knows_begin c.args.table.now.columns all c.args.last.now c.args.version.now beside _ (sym c.have_same_key.ensures ∙ c.if-not-have_same_key.true) refl refl refl

pub returns-then-is_lt : goal.returns-then-is_lt
returns-then-is_lt c = λ all beside known.
    knows_next c.args.table.now.columns all c.args.last.now c.args.version.now beside c.args.known.now _ (sym c.have_same_key.ensures ∙ c.if-not-have_same_key.false)
    (sym (c.if-is_lt.ensures ∙ ap is_lt c.compare_starts.ensures)) known refl refl c.is_any_open.ensures

pub returns : goal.returns
returns c = λ all beside known.
    knows_tie c.args.table.now.columns all c.args.last.now c.args.version.now beside c.args.known.now (sym c.have_same_key.ensures ∙ c.if-not-have_same_key.false)
    (sym (c.if-is_lt.ensures ∙ ap is_lt c.compare_starts.ensures)) known
