-- The workload's plan may be run.
use Rattle.std.proofs.Common.{◌≡◌, ◌≤◌, ◌<◌, ◌^◌, ℕ, true, List, [], ◌∷◌, codes, length, refl, sym, subst, arith}
use Rattle.std.specs.Fmt.{digits}
use Rattle.std.specs.List.{All, IsDistinct}
use Rattle.std.specs.Str.{bytes_eq}
use Rattle.base_types.specs.DatabaseName.{is_database_name}
use Rattle.base_types.specs.SessionName.{is_session_name}
use Rattle.spec_history.specs.Lists.{Each}
use Rattle.format_sections.specs.RunSections.{RunSections, session_names, size_of}
use Rattle.server_result.proofs.Each.{all_from_each}
use Rattle.workload_generator.specs.Workload.{session_texts, statement_count, workload_sections}

pub database_is_named : is_database_name (codes "LedgerDB") ≡ true
unfolding is_database_name
database_is_named = refl

abbrev names : List (List ℕ)
names = codes "s1" ∷ codes "s2" ∷ codes "s3" ∷ codes "s4" ∷ []

names_are : (rows : ℕ) → session_names (workload_sections rows) ≡ names
unfolding digits
names_are rows = refl

each_named : Each (λ name. is_session_name name ≡ true) names
unfolding is_session_name
each_named = (refl, (refl, (refl, (refl, tt))))

distinct : IsDistinct bytes_eq (codes "setup" ∷ names)
unfolding IsDistinct
distinct = ((refl, (refl, (refl, (refl, tt)))), ((refl, (refl, (refl, tt))), ((refl, (refl, tt)), ((refl, tt), (tt, tt)))))

module _ (all_sections : RunSections) (rows : ℕ) (is : all_sections ≡ workload_sections rows) where
  pub named : All (λ name. is_session_name name ≡ true) (session_names all_sections)
  named = subst (λ (p : RunSections). All (λ name. is_session_name name ≡ true) (session_names p)) (sym is)
      (subst (All (λ name. is_session_name name ≡ true)) (sym (names_are rows)) (all_from_each (λ name. is_session_name name ≡ true) names each_named))

  pub apart : IsDistinct bytes_eq (codes "setup" ∷ session_names all_sections)
  apart = subst (λ (p : RunSections). IsDistinct bytes_eq (codes "setup" ∷ session_names p)) (sym is)
      (subst (λ (ns : List (List ℕ)). IsDistinct bytes_eq (codes "setup" ∷ ns)) (sym (names_are rows)) distinct)

  pub few : rows ≤ 1000000 → ((table n : ℕ) → length (session_texts table n) ≡ statement_count n) → size_of all_sections < 2 ^ 31
  few most count = subst (λ (p : RunSections). size_of p < 2 ^ 31) (sym is) (omega (arith, most, count 1 rows, count 2 rows, count 3 rows, count 4 rows))
