-- How many sessions and statements a plan has.
use Rattle.std.proofs.Common.{◌≡◌, ◌≤◌, ◌<◌, ◌+◌, ◌^◌, ◌∙◌, ℕ, zero, suc, true, List, [], ◌∷◌, ◌++◌, get_or, length, map, take, ap, arith}
use Rattle.std.specs.List.{All, fold}
use Rattle.std.proofs.lemmas.List.{length-map}
use Rattle.base_types.specs.SessionName.{is_session_name}
use Rattle.format_sections.specs.RunSections as all_sections
use Rattle.format_sections.specs.RunSections.{run_as, run_sections_view, section_view, session_names, size_of, statements_run}
use Rattle.format_sections.specs.declared.all_sections.RunSections.{RunSections}
use Rattle.format_sections.specs.declared.kind.SectionKind.{SectionKind}
use Rattle.format_sections.specs.declared.kind.SectionKind.TheVariants.{Session, Snapshot}
use Rattle.format_sections.specs.declared.section.Section.{Section}
use Rattle.server_result.proofs.Joins.{one_more}
use Rattle.server_run.specs.FinishedRun.{AreRunnable}

-- the sessions and their statements together
abbrev pub weight : List Section → ℕ
weight [] = 0
weight (p ∷ ps) = (1 + length p.statements.items) + weight ps

weighed : (n : ℕ) (ps : List Section) → fold (λ (a : ℕ) (s : all_sections.Section). a + (1 + length s.statements)) n (map section_view ps) ≡ n + weight ps
weighed n [] = omega arith
weighed n (p ∷ ps) =
    let e = weighed (n + (1 + length (map (λ t. t.now) p.statements.items))) ps in
    let f = length-map p.statements.items (λ t. t.now) in
    e ∙ ap (λ (m : ℕ). (n + (1 + m)) + weight ps) f ∙ omega arith

pub size_is : (p : RunSections) → size_of (run_sections_view p) ≡ length p.setup.items + weight p.sessions.items
size_is p = let e = weighed 0 p.sessions.items in let f = length-map p.setup.items (λ t. t.now) in
    ap (λ (m : ℕ). length (map (λ t. t.now) p.setup.items) + m) e ∙ ap (λ (m : ℕ). m + (0 + weight p.sessions.items)) f ∙ omega arith

-- ---- the first sessions

more_weigh : (ps : List Section) (x : Section) → weight (ps ++ x ∷ []) ≡ weight ps + (1 + length x.statements.items)
more_weigh [] x = omega arith
more_weigh (p ∷ ps) x = let e = more_weigh ps x in ap (λ (m : ℕ). (1 + length p.statements.items) + m) e ∙ omega arith

pub one_more_weighs : (ps : List Section) (k : ℕ) (x : Section) → k < length ps → x ≡ get_or ps k x → weight (take (k + 1) ps) ≡ weight (take k ps) + (1 + length x.statements.items)
one_more_weighs ps k x less is = ap weight (one_more ps k x less is) ∙ more_weigh (take k ps) x

pub first_weigh : (ps : List Section) (k : ℕ) → weight (take k ps) ≤ weight ps
first_weigh ps zero = omega arith
first_weigh [] (suc k) = omega arith
first_weigh (p ∷ ps) (suc k) = let e = first_weigh ps k in omega (arith, e)

-- ---- all of them

pub few_sessions : (ps : List Section) → length ps ≤ weight ps
few_sessions [] = omega arith
few_sessions (p ∷ ps) = let e = few_sessions ps in omega (arith, e)

runnable_by : (ps : List Section) (n : ℕ) → n < 2147483648 → weight ps ≤ n → All (λ name. is_session_name name ≡ true) (map (λ s. s.name) (map section_view ps)) → AreRunnable ps
runnable_by [] n small within names = tt
runnable_by (p ∷ ps) n small within names = (
  record { name = names 0 p.name.now (omega arith); few = omega (arith, small, within) },
  runnable_by ps n small (omega (arith, within)) (λ k d less. names (suc k) d (omega (arith, less))),
)

pub are_runnable : (p : RunSections) → size_of (run_sections_view p) < 2147483648 → All (λ name. is_session_name name ≡ true) (session_names (run_sections_view p)) → AreRunnable p.sessions.items
are_runnable p few names = let e = size_is p in runnable_by p.sessions.items (size_of (run_sections_view p)) few (omega (arith, e)) names

-- the session of a section runs few statements
pub few_run : (p : Section) (n : ℕ) → n ≡ length (statements_run (section_view p)) → length p.statements.items < 2 ^ 32 → n < 2 ^ 32
few_run p n is few = by_kind p.kind is
  where
    by_kind : (kind : SectionKind) → n ≡ length (run_as kind (map (λ t. t.now) p.statements.items)) → n < 2 ^ 32
    by_kind Session same = let e = length-map p.statements.items (λ t. t.now) in omega (arith, same, e, few)
    by_kind Snapshot same = omega (arith, same)
