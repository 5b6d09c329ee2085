-- The lines of a report, put together.
use Rattle.std.proofs.Common.{◌≡◌, ◌∙◌, ℕ, List, [], ◌∷◌, ◌++◌, codes, sym, ap, append_assoc}
use Rattle.std.specs.Fmt.{decimal}
use Rattle.cli_commands.specs.Generated.{figure}

-- a line, and what comes behind it
line : (word number more : List ℕ) → word ++ (number ++ 10 ∷ more) ≡ ((word ++ number) ++ 10 ∷ []) ++ more
line word number more = sym (append_assoc (word ++ number) (10 ∷ []) more ∙ append_assoc word number (10 ∷ more))

pub three_lines : (transactions rows history : ℕ)
    → codes "transactions " ++ (decimal transactions ++ (codes "\nrows " ++ (decimal rows ++ (codes "\nhistory " ++ (decimal history ++ codes "\n")))))
    ≡ (figure (codes "transactions ") transactions ++ figure (codes "rows ") rows) ++ figure (codes "history ") history
three_lines transactions rows history =
    let first = figure (codes "transactions ") transactions in
    let second = figure (codes "rows ") rows in
    let last = codes "history " ++ (decimal history ++ 10 ∷ []) in
    line (codes "transactions ") (decimal transactions) (codes "rows " ++ (decimal rows ++ 10 ∷ last))
    ∙ ap (λ (z : List ℕ). first ++ z) (line (codes "rows ") (decimal rows) last)
    ∙ sym (append_assoc first second last)
    ∙ ap (λ (z : List ℕ). (first ++ second) ++ z) (sym (append_assoc (codes "history ") (decimal history) (10 ∷ [])))

pub two_more : (counts verdict : List ℕ) (sum : ℕ)
    → counts ++ (codes "sum " ++ (decimal sum ++ (codes "\nverify " ++ (verdict ++ codes "\n"))))
    ≡ ((counts ++ figure (codes "sum ") sum) ++ codes "verify ") ++ (verdict ++ 10 ∷ [])
two_more counts verdict sum =
    let total = figure (codes "sum ") sum in
    let last = verdict ++ 10 ∷ [] in
    ap (λ (z : List ℕ). counts ++ z) (line (codes "sum ") (decimal sum) (codes "verify " ++ last))
    ∙ sym (append_assoc counts total (codes "verify " ++ last))
    ∙ sym (append_assoc (counts ++ total) (codes "verify ") last)
