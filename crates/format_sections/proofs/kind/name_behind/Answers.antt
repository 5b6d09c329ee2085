use Rattle.std.proofs.Common.{◌≡◌, ◌∙◌, Bool, true, List, ℕ, Option, Some, None, if◌then◌else◌, refl, ap, sym}
use Rattle.format_lines.specs.Line.{behind_blanks}
use Rattle.format_sections.specs.Kind.{begins_with, name_behind}
use Rattle.format_sections.proofs.Texts.{head_there, no_head}
use Rattle.format_sections.proofs.kind.name_behind.Goals as goal

pub returns-in_err-rest : goal.returns-in_err-rest
returns-in_err-rest c = rw (c.from_residual.ensures, no_head c.args.head.now c.args.text.now c.in_err-rest.ensures.cases) refl

pub returns-then-is_apart : goal.returns-then-is_apart
returns-then-is_apart c =
    let there = head_there c.args.head.now c.args.text.now c.in_ok-rest.rest.now c.in_ok-rest.ensures.cases in
    let begins : begins_with c.args.head.now c.args.text.now ≡ true = there.0 ∙ (sym c.is_apart.ensures ∙ c.if-is_apart.true) in
    rw begins (ap Some (c.behind_blanks.ensures ∙ ap behind_blanks there.1))
