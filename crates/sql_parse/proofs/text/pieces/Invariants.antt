use Rattle.std.proofs.Common.{◌≡◌, map, take}
use Rattle.spec_syntax.specs.Input.{syms}
use Rattle.spec_syntax.specs.Text.{sym_of}
use Rattle.sql_parse.proofs.text.pieces.Given as goal

abbrev pub invariant-loop-token : goal.invariant-loop-token
invariant-loop-token l = syms l.found ≡ map (sym_of l.text) (take l.token-index l.tokens)
