use Rattle.std.proofs.Common.{◌≡◌, ◌+◌, ◌-◌, ◌≤◌, length, drop, min}
use Rattle.std.specs.List.{prefix_len}
use Rattle.std.specs.Char.{is_ascii_digit}
use Rattle.sql_lex.proofs.front.digits.Given as goal

abbrev pub invariant-loop-count : goal.invariant-loop-count
invariant-loop-count l =
    (l.count + min (l.most - l.count) (prefix_len is_ascii_digit (drop (l.at + l.count) l.z)) ≡ min l.most (prefix_len is_ascii_digit (drop l.at l.z)))
    × (l.at + l.count ≤ length l.z) × (l.count ≤ l.most)

abbrev pub decreases-loop-count : goal.decreases-loop-count
decreases-loop-count l = l.most - l.count
