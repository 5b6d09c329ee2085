use Rattle.std.proofs.Common.{◌≡◌, ◌++◌, drop, take, vec_len}
use Rattle.hex.specs.Hex.{encode_upper}
use Rattle.sql_scalar.proofs.printing.put_hex.Given as goal

abbrev pub invariant-loop-byte : goal.invariant-loop-byte
invariant-loop-byte l =
    (l.out.items ++ encode_upper (drop l.byte-index l.bytes) ≡ l.fn.out.items ++ encode_upper l.bytes)
    × (take (vec_len l.fn.out) l.out.items ≡ l.fn.out.items)
