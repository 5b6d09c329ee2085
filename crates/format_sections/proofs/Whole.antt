-- What is read of a whole input.
use Rattle.std.proofs.Common.{◌≡◌, ◌==◌, ◌+◌, ◌<◌, ◌∙◌, ℕ, suc, arith, true, List, [], ◌∷◌, ◌++◌, length, codes, refl, ap, subst, Option, Some, None, Ok, Err}
use Rattle.std.specs.Borrow.{Bor}
use Rattle.std.specs.BTreeSet.{BTreeSet}
use Rattle.std.specs.List.{All, IsDistinct}
use Rattle.std.specs.Str.{bytes_eq}
use Rattle.std.proofs.lemmas.Bool.Decides.{nat_tests}
use Rattle.format_sections.specs.Form.{is_session_name, first_lacking}
use Rattle.format_sections.specs.Kind.{kinds_of}
use Rattle.format_sections.specs.Names.{has}
use Rattle.format_sections.specs.RunSections.{Section, RunSections, setup_of, sessions_of, run_sections_of, unless_lacking, read_run_sections, session_names}
use Rattle.format_sections.specs.UnreadInput.{first_head}
use Rattle.format_sections.proofs.Reached.{Reached, failed, none_behind}
use Rattle.format_sections.proofs.Laws.{named}
use Rattle.format_sections.proofs.Sizes.{all_sections}

plan_is : (first : Option ℕ) (setup read_setup : List (List ℕ)) (sessions read_sessions : List Section) → first ≡ None → setup ≡ read_setup → sessions ≡ read_sessions → unless_lacking first (all_sections setup sessions) ≡ Ok (all_sections read_setup read_sessions)
plan_is first setup read_setup sessions read_sessions e f g = rw (e, f, g) refl

is_zero : (n : ℕ) → (n == 0) ≡ true → n ≡ 0
is_zero n e = grind (arith, nat_tests)

nothing : (z : List ℕ) → length z ≡ 0 → z ≡ []
nothing [] e = refl
nothing (b ∷ z) e = absurd (some (length z) e)
  where
    some : (n : ℕ) → suc n ≡ 0 → ⊥
    some n e = omega arith

-- all was read
pub finished : (bytes rest : List ℕ) (setup : List (List ℕ)) (sessions : List Section) (names : BTreeSet (Bor (List ℕ))) → Reached (kinds_of bytes) (kinds_of rest) setup sessions (has names) → (length rest == 0) ≡ true
    → read_run_sections bytes ≡ Ok (all_sections setup sessions)
unfolding read_run_sections
finished bytes rest setup sessions names r end =
    let none : kinds_of rest ≡ [] = ap kinds_of (nothing rest (is_zero (length rest) end)) in
    let lacking : first_lacking [] (kinds_of bytes) ≡ None = r.lacking ∙ ap (first_lacking r.before) none in
    let sections : sessions_of (kinds_of bytes) ≡ sessions = r.sections ∙ (ap (λ z. sessions ++ sessions_of z) none ∙ none_behind sessions) in
    plan_is (first_lacking [] (kinds_of bytes)) (setup_of (kinds_of bytes)) setup (sessions_of (kinds_of bytes)) sessions lacking r.opening sections

-- the next line lacks its form
pub refused : (bytes rest : List ℕ) (setup : List (List ℕ)) (sessions : List Section) (names : BTreeSet (Bor (List ℕ))) (number : ℕ) → Reached (kinds_of bytes) (kinds_of rest) setup sessions (has names) → 0 < length (kinds_of rest)
    → first_head names (kinds_of rest) ≡ None → number + length (kinds_of rest) ≡ length (kinds_of bytes) → read_run_sections bytes ≡ Err (number + 1)
unfolding read_run_sections
refused bytes rest setup sessions names number r some e size =
    ap (λ first. unless_lacking first (run_sections_of (kinds_of bytes))) (failed (kinds_of bytes) (kinds_of rest) setup sessions names number r some e size)

run_sections_from : (first : Option ℕ) (known read : RunSections) → unless_lacking first known ≡ Ok read → (first ≡ None) × (known ≡ read)
run_sections_from None known read e = (refl, cc)
run_sections_from (Some line) known read e = cc

-- the names of a plan that was read
pub names_read : (bytes : List ℕ) (read : RunSections) → read_run_sections bytes ≡ Ok read
    → All (λ name. is_session_name name ≡ true) (session_names read) × IsDistinct bytes_eq (codes "setup" ∷ session_names read)
unfolding read_run_sections
names_read bytes read e =
    let from = run_sections_from (first_lacking [] (kinds_of bytes)) (run_sections_of (kinds_of bytes)) read e in
    let P : RunSections → Type 0 = λ p. All (λ name. is_session_name name ≡ true) (session_names p) × IsDistinct bytes_eq (codes "setup" ∷ session_names p) in
    subst P from.1 (named (kinds_of bytes) from.0)
