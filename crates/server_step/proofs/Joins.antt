-- Lines and names that are one more, and what is woven of them.
use Rattle.std.proofs.Common.{◌≡◌, ◌<◌, ◌+◌, ◌∙◌, ℕ, zero, suc, Bor, List, [], ◌∷◌, ◌++◌, map, take, drop, length, get_or, refl, sym, ap, ap₂, append_assoc, arith}
use Rattle.std.proofs.lemmas.List.{length-map, take_more, map_push}
use Rattle.std.proofs.Math.Seq.{drop-cons}
use Rattle.format_lines.specs.Line.{seen}
use Rattle.format_lines.specs.declared.line.Line.{Line}
use Rattle.server_result.specs.Joined.{joined}
use Rattle.server_step.specs.Numbers.{number_of, numbers_of}
use Rattle.server_step.specs.Woven.{first_at, without_first, woven_text}

abbrev pub no_line : Line
no_line = record { number = 0; session = record { ref_ptr = (0, 0); now = [] }; text = record { ref_ptr = (0, 0); now = [] } }

pub seen_more : (lines : List Line) (k : ℕ) → k < length lines → map seen (take (k + 1) lines) ≡ map seen (take k lines) ++ seen (get_or lines k no_line) ∷ []
seen_more lines k within = ap (map seen) (take_more lines k no_line within) ∙ map_push seen (take k lines) (get_or lines k no_line)

pub name_more : (names : List (Bor (List ℕ))) (k : ℕ) → k < length names → map (λ n. n.now) (take (k + 1) names) ≡ map (λ n. n.now) (take k names) ++ (get_or names k (record { ref_ptr = (0, 0); now = [] })).now ∷ []
name_more names k within = ap (map (λ n. n.now)) (take_more names k (record { ref_ptr = (0, 0); now = [] }) within) ∙ map_push (λ n. n.now) (take k names) (get_or names k (record { ref_ptr = (0, 0); now = [] }))

pub as_many : (names : List (Bor (List ℕ))) (k : ℕ) → k < length names → length (map (λ n. n.now) (take k names)) ≡ k
as_many names k within = length-map (take k names) (λ n. n.now) ∙ so_many names k within
  where
    so_many : (xs : List (Bor (List ℕ))) (k : ℕ) → k < length xs → length (take k xs) ≡ k
    so_many xs zero less = refl
    so_many [] (suc k) less = absurd (omega (arith, less))
    so_many (x ∷ xs) (suc k) less = ap suc (so_many xs k (omega (arith, less)))

-- one line more is woven
pub woven_more : (names : List (List ℕ)) (lines : List Line) (k i : ℕ) (out then_out whole : List ℕ) (left then_left : List (List (List ℕ))) → k < length lines → i ≡ number_of names (get_or lines k no_line).session.now
    → then_out ≡ out ++ joined (first_at i left) → then_left ≡ without_first i left
    → out ++ woven_text (numbers_of names (map seen (drop k lines))) left ≡ whole → then_out ++ woven_text (numbers_of names (map seen (drop (k + 1) lines))) then_left ≡ whole
woven_more names lines k i out then_out whole left then_left within is outs lefts so_far =
    let line = get_or lines k no_line in
    let rest = numbers_of names (map seen (drop (k + 1) lines)) in
    let up : suc k ≡ k + 1 = omega arith in
    let next : drop k lines ≡ line ∷ drop (k + 1) lines = drop-cons lines k no_line within ∙ ap (λ (n : ℕ). line ∷ drop n lines) up in
    ap₂ (λ (o : List ℕ) (l : List (List (List ℕ))). o ++ woven_text rest l) outs lefts
    ∙ append_assoc out (joined (first_at i left)) (woven_text rest (without_first i left))
    ∙ ap (λ (j : ℕ). out ++ woven_text (j ∷ rest) left) is
    ∙ ap (λ (ls : List Line). out ++ woven_text (numbers_of names (map seen ls)) left) (sym next)
    ∙ so_far
