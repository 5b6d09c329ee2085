-- The names of the sessions of some statements.
use Rattle.std.proofs.Common.{◌≡◌, ◌<◌, ◌∙◌, ℕ, zero, suc, Bool, true, false, cond, List, [], ◌∷◌, ◌++◌, length, get_or, refl, arith, ◌||◌, bytes_eq}
use Rattle.std.specs.List.{fold, list_any, IsDistinct, All}
use Rattle.std.proofs.lemmas.List.Folds.{list_any-append, list_any_at}
use Rattle.std.proofs.lemmas.List.Elements.{All-push}
use Rattle.std.proofs.lemmas.Slice.Eq.{bytes_eq-Decides}
use Rattle.std.proofs.lemmas.Map.Keys.{IsDistinct-push}
use Rattle.std.specs.Cmp.Lexicographic.{nat_list_eq_equiv}
use Rattle.format_lines.specs.Line.{Statement}
use Rattle.format_lines.specs.Sessions.{with_session, sessions_of}

self : (name : List ℕ) → bytes_eq name name ≡ true
self name = (bytes_eq-Decides name name).1 refl

joined_left : (a b : Bool) → a ≡ true → (a || b) ≡ true
joined_left a b e = rw e refl

joined_right : (a b : Bool) → b ≡ true → (a || b) ≡ true
joined_right true b e = refl
joined_right false b e = e

-- a name that is there stays
kept_at : (names : List (List ℕ)) (new name : List ℕ) (t : Bool) → list_any (bytes_eq name) names ≡ true → list_any (bytes_eq name) (cond t names (names ++ new ∷ [])) ≡ true
kept_at names new name true e = e
kept_at names new name false e = list_any-append (bytes_eq name) names (new ∷ []) ∙ joined_left (list_any (bytes_eq name) names) (list_any (bytes_eq name) (new ∷ [])) e

kept : (names : List (List ℕ)) (ss : List Statement) (name : List ℕ) → list_any (bytes_eq name) names ≡ true → list_any (bytes_eq name) (fold with_session names ss) ≡ true
kept names [] name e = e
kept names (s ∷ ss) name e = kept (with_session names s) ss name (kept_at names s.session name (list_any (bytes_eq s.session) names) e)

there_at : (names : List (List ℕ)) (name : List ℕ) (t : Bool) → list_any (bytes_eq name) names ≡ t → list_any (bytes_eq name) (cond t names (names ++ name ∷ [])) ≡ true
there_at names name true e = e
there_at names name false e =
    list_any-append (bytes_eq name) names (name ∷ []) ∙ joined_right (list_any (bytes_eq name) names) (bytes_eq name name || false) (joined_left (bytes_eq name name) false (self name))

named : (names : List (List ℕ)) (ss : List Statement) (k : ℕ) (d : Statement) → k < length ss → list_any (bytes_eq (get_or ss k d).session) (fold with_session names ss) ≡ true
named names [] k d l = absurd (none k l)
  where
    none : (k : ℕ) → k < 0 → ⊥
    none k l = omega arith
named names (s ∷ ss) zero d l = kept (with_session names s) ss s.session (there_at names s.session (list_any (bytes_eq s.session) names) refl)
named names (s ∷ ss) (suc k) d l = named (with_session names s) ss k d (omega arith)

pub all_named : (ss : List Statement) → All (λ s. list_any (bytes_eq s.session) (sessions_of ss) ≡ true) ss
unfolding sessions_of
all_named ss k d l = named [] ss k d l

once_at : (names : List (List ℕ)) (name : List ℕ) (t : Bool) → list_any (bytes_eq name) names ≡ t → IsDistinct bytes_eq names → IsDistinct bytes_eq (cond t names (names ++ name ∷ []))
once_at names name true e once = once
once_at names name false e once = IsDistinct-push nat_list_eq_equiv names name once e

once_after : (names : List (List ℕ)) (ss : List Statement) → IsDistinct bytes_eq names → IsDistinct bytes_eq (fold with_session names ss)
once_after names [] once = once
once_after names (s ∷ ss) once = once_after (with_session names s) ss (once_at names s.session (list_any (bytes_eq s.session) names) refl once)

pub all_once : (ss : List Statement) → IsDistinct bytes_eq (sessions_of ss)
unfolding sessions_of IsDistinct
all_once ss = once_after [] ss tt

of_at : (names : List (List ℕ)) (name : List ℕ) (P : List ℕ → Type 0) (t : Bool) → All P names → P name → All P (cond t names (names ++ name ∷ []))
of_at names name P true all one = all
of_at names name P false all one = All-push P names name all one

-- each name is one of those before or the session of a statement
of_after : (names : List (List ℕ)) (ss : List Statement) (P : List ℕ → Type 0) → All P names → All (λ s. P s.session) ss → All P (fold with_session names ss)
of_after names [] P all each = all
of_after names (s ∷ ss) P all each = of_after (with_session names s) ss P (of_at names s.session P (list_any (bytes_eq s.session) names) all (each 0 s (omega arith))) (λ k d l. each (suc k) d (omega arith))

pub all_of_statements : (ss : List Statement) → All (λ name. list_any (λ s. bytes_eq name s.session) ss ≡ true) (sessions_of ss)
unfolding sessions_of
all_of_statements ss = of_after [] ss (λ name. list_any (λ s. bytes_eq name s.session) ss ≡ true) (λ k d l. absurd (none k l))
    (λ k d l. list_any_at (λ s. bytes_eq (get_or ss k d).session s.session) ss k d l (self (get_or ss k d).session))
  where
    none : (k : ℕ) → k < 0 → ⊥
    none k l = omega arith
