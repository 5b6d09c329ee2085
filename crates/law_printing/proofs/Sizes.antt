-- Printed sizes of types are read as themselves.
use Rattle.std.proofs.Common.{◌≡◌, ◌≤◌, ℕ, length, arith, Some}
use Rattle.std.specs.Fmt.{decimal}
use Rattle.std.proofs.lemmas.Fmt.{length-decimal-le_wide}
use Rattle.std.proofs.lemmas.Bool.{le-leb}
use Rattle.sql_scalar.proofs.DigitTexts.{decimal_read}
use Rattle.spec_syntax.specs.Table.{digits_of}
use Rattle.spec_syntax.specs.Parsed.{IsSize}

pub size_read : (n : ℕ) → IsSize n → digits_of (decimal n) ≡ Some n
unfolding digits_of
size_read n small =
    let few : length (decimal n) ≤ 9 = length-decimal-le_wide 9 n (omega arith) small (omega (arith, small)) in
    rw (le-leb (length (decimal n)) 9 few) (decimal_read n (omega (arith, small)))
