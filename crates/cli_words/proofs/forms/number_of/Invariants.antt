use Rattle.std.proofs.Common.{◌≡◌, true, ◌<◌, ◌^◌}
use Rattle.std.specs.Prelude.{drop}
use Rattle.std.specs.List.{list_all}
use Rattle.std.specs.Char.{is_ascii_digit}
use Rattle.cli_words.specs.Forms.{number_from}
use Rattle.cli_words.proofs.forms.number_of.Given as goal

abbrev pub invariant-loop-b : goal.invariant-loop-b
invariant-loop-b l = (number_from l.n (drop l.b-index l.digits) ≡ number_from 0 l.digits) × (l.n < 10 ^ l.b-index)
    × (list_all is_ascii_digit (drop l.b-index l.digits) ≡ true)
