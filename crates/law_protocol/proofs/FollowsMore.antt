-- Statements that are taken up and sessions that begin, in two parts of a history.
use Rattle.std.proofs.Common.{◌≡◌, List, [], ◌∷◌, ◌++◌, refl, sym, ap, ap₂, ◌∙◌, append_assoc}
use Rattle.spec_history.specs.Acts.{Act, by, closes}
use Rattle.spec_history.specs.Histories.{line_by, lines_of}
use Rattle.spec_history.specs.Inputs.{InputLine}
use Rattle.spec_history.specs.Worlds.{World, run, step}
use Rattle.spec_protocol.specs.Follows.{BeginInTurn, Follows}

lines_append : (w : World) (es fs : List Act) → lines_of w (es ++ fs) ≡ lines_of w es ++ lines_of (run w es) fs
lines_append w [] fs = refl
lines_append w (by n a ∷ es) fs = ap (λ (ls : List InputLine). line_by (w.at n) a ++ ls) (lines_append (step w (by n a)) es fs) ∙ sym (append_assoc (line_by (w.at n) a) (lines_of (step w (by n a)) es) (lines_of (run (step w (by n a)) es) fs))
lines_append w (closes k ∷ es) fs = lines_append (step w (closes k)) es fs

turn_append : (w : World) (es fs : List Act) → BeginInTurn w es → BeginInTurn (run w es) fs → BeginInTurn w (es ++ fs)
turn_append w [] fs a b = b
turn_append w (by n a ∷ es) fs h k = (h.0, turn_append (step w (by n a)) es fs h.1 k)
turn_append w (closes n ∷ es) fs h k = turn_append (step w (closes n)) es fs h k

pub follows_append : (w : World) (es fs : List Act) {xs ys : List InputLine} → Follows w es xs → Follows (run w es) fs ys → Follows w (es ++ fs) (xs ++ ys)
follows_append w es fs {xs} {ys} a b = record {
  lines_are = lines_append w es fs ∙ ap₂ (λ (ks ls : List InputLine). ks ++ ls) a.lines_are b.lines_are;
  in_turn = turn_append w es fs a.in_turn b.in_turn;
}
