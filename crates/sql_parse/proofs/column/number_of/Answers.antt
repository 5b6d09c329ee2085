use Rattle.std.proofs.Common.{arith, rules, ◌≡◌, ◌∙◌, ◌+◌, ◌-◌, ◌^◌, sym, ap, length, drop, get_or, true, lit<}
use Rattle.std.proofs.Math.Nat.{pow-le-pow_right}
use Rattle.std.specs.Char.{is_ascii_digit}
use Rattle.std.proofs.lemmas.List.{drop_more}
use Rattle.sql_value.specs.Literal.{digits_after}
use Rattle.sql_scalar.proofs.Digits.{one_digit, digit_read, no_digit, small_digit, some_room}
use Rattle.sql_parse.proofs.column.number_of.Goals as goal

pub overflow_mul-number : goal.overflow_mul-number
overflow_mul-number c =
    let rest = drop_more c.args.text.now c.loop-digit.digit-index 0 (search rules) in
    let most = pow-le-pow_right {n = 10} (lit< tt) {i = length c.args.text.now} {j = 9} c.requires in
    let room = some_room c.loop-digit.number (length (drop c.loop-digit.digit-index c.args.text.now)) (10 ^ length c.args.text.now) (10 ^ 9) c.loop-digit.invariant.1 most (rw rest (omega arith)) in
    record { fits = omega (arith, room) }

pub overflow_add-number : goal.overflow_add-number
overflow_add-number c =
    let rest = drop_more c.args.text.now c.loop-digit.digit-index 0 (search rules) in
    let most = pow-le-pow_right {n = 10} (lit< tt) {i = length c.args.text.now} {j = 9} c.requires in
    let room = some_room c.loop-digit.number (length (drop c.loop-digit.digit-index c.args.text.now)) (10 ^ length c.args.text.now) (10 ^ 9) c.loop-digit.invariant.1 most (rw rest (omega arith)) in
    let small = small_digit (get_or c.args.text.now c.loop-digit.digit-index 0) (search rules) in
    record { fits = omega (arith, room, small, c.from.ensures) }

pub loop-digit-preserved : goal.loop-digit-preserved
loop-digit-preserved c =
    let i = c.loop-digit.digit-index in
    let digits = c.args.text.now in
    let d = get_or digits i 0 in
    let n = c.loop-digit.number in
    let rest = drop_more digits i 0 (search rules) in
    let is_digit : is_ascii_digit d ≡ true = search rules in
    let small = small_digit d is_digit in
    rw c.from.ensures (
      sym (digit_read n d (drop (i + 1) digits) is_digit) ∙ ap (digits_after n) (sym rest) ∙ c.loop-digit.invariant.0,
      omega (arith, one_digit n (d - 48) (length (drop (i + 1) digits)) small, rw rest at c.loop-digit.invariant.1),
    )

pub returns-then-not-is_ascii_digit : goal.returns-then-not-is_ascii_digit
returns-then-not-is_ascii_digit c =
    let i = c.loop-digit.digit-index in
    let digits = c.args.text.now in
    let rest = drop_more digits i 0 (search rules) in
    sym (no_digit c.loop-digit.number (get_or digits i 0) (drop (i + 1) digits) (search rules)) ∙ ap (digits_after c.loop-digit.number) (sym rest) ∙ c.loop-digit.invariant.0
