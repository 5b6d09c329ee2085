-- How many statements and sessions a plan has.
use Rattle.std.proofs.Common.{◌≡◌, ◌+◌, ◌≤◌, ℕ, List, [], ◌∷◌, ◌++◌, length, map, arith}
use Rattle.std.specs.Borrow.{Bor}
use Rattle.std.proofs.lemmas.List.{length-map}
use Rattle.std.proofs.lemmas.List.Sums.{sum_by_push}
use Rattle.format_sections.specs.declared.section.Section as read
use Rattle.format_sections.specs.RunSections.{Section, RunSections, size_of, section_view}

abbrev pub all_sections : List (List ℕ) → List Section → RunSections
all_sections setup sessions = record { setup = setup; sessions = sessions }

-- the setup alone counts with its statements
pub size_begun : (setup : List (Bor (List ℕ))) (sessions : List Section) (k n : ℕ) → sessions ≡ [] → k + length setup ≤ n → size_of (all_sections (map (λ t. t.now) setup) sessions) ≤ n
size_begun setup [] k n none count = omega (arith, length-map setup (λ t. t.now), count)
size_begun setup (s ∷ sessions) k n none count = cc

size_last : (setup : List (List ℕ)) (sessions : List Section) (s : Section) (n m : ℕ) → size_of (all_sections setup sessions) ≤ n → n + 1 + length s.statements ≤ m → size_of (all_sections setup (sessions ++ s ∷ [])) ≤ m
size_last setup sessions s n m old more = omega (arith, sum_by_push (λ t. 1 + length t.statements) sessions s, old, more)

-- one more session counts with its statements
pub size_more : (setup : List (List ℕ)) (sessions longer : List Section) (s : read.Section) (n m : ℕ) → longer ≡ sessions ++ section_view s ∷ [] → size_of (all_sections setup sessions) ≤ n → n + 1 + length s.statements.items ≤ m
    → size_of (all_sections setup longer) ≤ m
size_more setup sessions longer s n m pushed old more =
    rw pushed (size_last setup sessions (section_view s) n m old (omega (arith, length-map s.statements.items (λ t. t.now), more)))
