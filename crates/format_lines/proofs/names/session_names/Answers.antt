use Rattle.std.proofs.Common.{◌∙◌, arith, map, [], get_or, ap, sym}
use Rattle.std.proofs.lemmas.Grind.{common_steps}
use Rattle.std.specs.List.{list_any}
use Rattle.std.specs.Str.{bytes_eq}
use Rattle.format_lines.specs.declared.line.Line.{Line}
use Rattle.format_lines.proofs.Grows.{too_many}
use Rattle.format_lines.proofs.names.session_names.Goals as goal

abbrev no_line : Line
no_line = record { number = 0; session = record { ref_ptr = (0, 0); now = [] }; text = record { ref_ptr = (0, 0); now = [] } }

pub returns-then-len-eq-MAX_SESSIONS-clause-many : goal.returns-then-len-eq-MAX_SESSIONS-clause-many
returns-then-len-eq-MAX_SESSIONS-clause-many c =
    let name = (get_or c.args.lines.now c.loop-line.line-index no_line).session.now in
    let same = ap (λ z. list_any (bytes_eq name) (map (λ n. n.now) z)) (sym c.deref.ensures.value) in
    let new = same ∙ (sym c.is_among.ensures ∙ c.if-not-is_among.true) in
    let names = map (λ n. n.now) c.loop-line.names.items in
    too_many c.args.lines.now c.loop-line.line-index no_line names 64 c.loop-line-test.true new (grind (arith, common_steps)) c.loop-line.invariant.0
