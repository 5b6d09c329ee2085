use Rattle.std.proofs.Common.{◌≡◌, ◌∙◌, ◌++◌, ◌-◌, ap, arith, take, drop, length, length-drop, append_assoc, string_bytes}
use Rattle.std.proofs.lemmas.List.{take_all}
use Rattle.sql_value.specs.Printed.{printed}
use Rattle.format_reply.specs.Lines.{behind_bars}
use Rattle.format_reply.proofs.Lines.{joined_parts}
use Rattle.format_reply.proofs.rows.push_joined.Goals as goal

pub returns-in_ok-push_behind_bars : goal.returns-in_ok-push_behind_bars
returns-in_ok-push_behind_bars c =
    let row = c.args.row.now in
    let first = c.first-item.result in
    let rest = take (length row - 1) (drop 1 row) in
    let all : rest ≡ drop 1 row = take_all (length row - 1) (drop 1 row) (omega (arith, length-drop 1 row)) in
    let before = string_bytes c.args.text.now in
    c.in_ok-push_behind_bars.ensures ∙ ap (λ l. l ++ behind_bars rest) c.in_ok-push_value.ensures ∙ append_assoc before (printed first) (behind_bars rest)
    ∙ ap (λ l. before ++ (printed first ++ behind_bars l)) all ∙ ap (λ l. before ++ l) (joined_parts row first c.in-len1-up.len_at_least c.first-item.is)
