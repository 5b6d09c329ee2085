use Rattle.std.proofs.Common.{◌≡◌, ◌++◌, map, drop, string_bytes}
use Rattle.format_lines.specs.Line.{seen}
use Rattle.server_step.specs.Numbers.{numbers_of}
use Rattle.server_step.specs.Woven.{woven_text}
use Rattle.server_step.proofs.weaving.weave.Given as goal

-- what is there and what is still to be woven make the whole
abbrev pub invariant-loop-line : goal.invariant-loop-line
invariant-loop-line l =
    string_bytes l.out ++ woven_text (numbers_of (map (λ n. n.now) l.sessions) (map seen (drop l.line-index l.lines))) (map (λ t. t.now) l.left.items)
    ≡ woven_text (numbers_of (map (λ n. n.now) l.sessions) (map seen l.lines)) (map (λ t. t.now) l.fn.texts.items)
