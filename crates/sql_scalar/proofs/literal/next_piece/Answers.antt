use Rattle.std.proofs.Common.{arith, rules, ◌≡◌, Some, None}
use Rattle.std.proofs.lemmas.Str.Pattern.{split_parts}
use Rattle.sql_value.specs.Literal.{after_quote}
use Rattle.sql_scalar.proofs.Reading.{empty_from, not_empty, no_end, ends_here, ends_badly, goes_on}
use Rattle.sql_scalar.proofs.literal.next_piece.Goals as goal

pub returns-in_err-piece : goal.returns-in_err-piece
returns-in_err-piece c =
    let rest = c.args.rest.now in
    let free = split_parts 39 rest None c.in_err-piece.ensures.cases (omega arith) in
    rw c.from_residual.ensures (λ before. no_end rest before free)

pub returns-then-is_empty : goal.returns-then-is_empty
returns-then-is_empty c =
    let rest = c.args.rest.now in
    let parts = split_parts 39 rest (Some (c.in_ok-piece.piece, c.in_ok-piece.after)) c.in_ok-piece.ensures.cases (omega arith) in
    let none = empty_from c.in_ok-piece.after.now (search rules) in
    ends_here rest c.in_ok-piece.piece.now c.in_ok-piece.after.now parts.0 parts.1 none

pub returns-in_err-more : goal.returns-in_err-more
returns-in_err-more c =
    let rest = c.args.rest.now in
    let parts = split_parts 39 rest (Some (c.in_ok-piece.piece, c.in_ok-piece.after)) c.in_ok-piece.ensures.cases (omega arith) in
    let some = not_empty c.in_ok-piece.after.now (search rules) in
    let none : after_quote c.in_ok-piece.after.now ≡ None = search rules in
    rw c.from_residual-in_err-more.ensures (ends_badly rest c.in_ok-piece.piece.now c.in_ok-piece.after.now parts.0 parts.1 some none)

pub returns : goal.returns
returns c =
    let rest = c.args.rest.now in
    let parts = split_parts 39 rest (Some (c.in_ok-piece.piece, c.in_ok-piece.after)) c.in_ok-piece.ensures.cases (omega arith) in
    let some : after_quote c.in_ok-piece.after.now ≡ Some c.in_ok-more.more.now = search rules in
    goes_on rest c.in_ok-piece.piece.now c.in_ok-piece.after.now c.in_ok-more.more.now parts.0 parts.1 some
