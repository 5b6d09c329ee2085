-- Sessions stand at their numbers among the names.
use Rattle.std.proofs.Common.{◌≡◌, ◌≢◌, ◌<◌, ◌+◌, ℕ, suc, Bool, true, false, cond, not, List, [], ◌∷◌, map, length, refl, sym, ap, arith, Bor, true≢false}
use mathlib.Core.Option.{some}
use lib.ListN.{get_elem?}
use Rattle.std.specs.List.{list_any, prefix_len}
use Rattle.std.specs.Str.{bytes_eq}
use Rattle.std.proofs.lemmas.Slice.Eq.{bytes_eq-Decides}
use Rattle.spec_history.specs.Lists.{At}
use Rattle.spec_history.specs.Transcripts.{Transcript}
use Rattle.server_step.specs.Numbers.{number_of}

prefix_map : {A B : Type 0} (p : B → Bool) (f : A → B) (xs : List A) → prefix_len (λ x. p (f x)) xs ≡ prefix_len p (map f xs)
prefix_map p f [] = refl
prefix_map p f (x ∷ xs) = ap (λ n. cond (p (f x)) (1 + n) 0) (prefix_map p f xs)

pub as_many_before : (name : List ℕ) (names : List (Bor (List ℕ))) → prefix_len (λ other. not (bytes_eq name other.now)) names ≡ number_of (map (λ n. n.now) names) name
as_many_before name names = prefix_map (λ other. not (bytes_eq name other)) (λ n. n.now) names

-- the first name is this one
pub number_here : (n : List ℕ) (names : List (List ℕ)) (name : List ℕ) → bytes_eq name n ≡ true → number_of (n ∷ names) name ≡ 0
number_here n names name same = rw same refl

-- it is another one
pub number_behind : (n : List ℕ) (names : List (List ℕ)) (name : List ℕ) → bytes_eq name n ≡ false → number_of (n ∷ names) name ≡ suc (number_of names name)
number_behind n names name other = rw other (omega arith)

pub any_behind : (n : List ℕ) (names : List (List ℕ)) (name : List ℕ) → bytes_eq name n ≡ false → list_any (bytes_eq name) (n ∷ names) ≡ true → list_any (bytes_eq name) names ≡ true
any_behind n names name other any = rw other at any

none_named : (name : List ℕ) → list_any (bytes_eq name) [] ≡ true → ⊥
none_named name any = true≢false (sym any)

pub found : (names : List (List ℕ)) (name : List ℕ) → list_any (bytes_eq name) names ≡ true → get_elem? names (number_of names name) ≡ some name
found [] name any = absurd (none_named name any)
found (n ∷ names) name any = go (bytes_eq name n) refl (found names name)
  where
    go : (b : Bool) → bytes_eq name n ≡ b → (list_any (bytes_eq name) names ≡ true → get_elem? names (number_of names name) ≡ some name) → get_elem? (n ∷ names) (number_of (n ∷ names) name) ≡ some name
    go true same rest = rw (number_here n names name same) (ap (λ x. some x) (sym ((bytes_eq-Decides name n).0 same)))
    go false other rest = rw (number_behind n names name other) (rest (any_behind n names name other any))

pub within : (names : List (List ℕ)) (name : List ℕ) → list_any (bytes_eq name) names ≡ true → number_of names name < length names
within [] name any = absurd (none_named name any)
within (n ∷ names) name any = go (bytes_eq name n) refl (within names name)
  where
    go : (b : Bool) → bytes_eq name n ≡ b → (list_any (bytes_eq name) names ≡ true → number_of names name < length names) → number_of (n ∷ names) name < length (n ∷ names)
    go true same rest = rw (number_here n names name same) (omega arith)
    go false other rest = rw (number_behind n names name other) (omega (arith, rest (any_behind n names name other any)))

-- the transcript of the session of this name
pub record Named (X : List Transcript) (i : ℕ) (name : List ℕ) : Type 0 where
  pub transcript : Transcript
  pub there : At X i transcript
  pub session : transcript.session ≡ name

pub named_at : (X : List Transcript) (name : List ℕ) → list_any (bytes_eq name) (map (λ x. x.session) X) ≡ true → Named X (number_of (map (λ x. x.session) X) name) name
named_at [] name any = absurd (none_named name any)
named_at (x ∷ X) name any = go (bytes_eq name x.session) refl (named_at X name)
  where
    go : (b : Bool) → bytes_eq name x.session ≡ b → (list_any (bytes_eq name) (map (λ y. y.session) X) ≡ true → Named X (number_of (map (λ y. y.session) X) name) name)
        → Named (x ∷ X) (number_of (map (λ y. y.session) (x ∷ X)) name) name
    go true same behind = rw (number_here x.session (map (λ y. y.session) X) name same) (record { transcript = x; there = refl; session = sym ((bytes_eq-Decides name x.session).0 same) })
    go false other behind =
        let rest = behind (any_behind x.session (map (λ y. y.session) X) name other any) in
        rw (number_behind x.session (map (λ y. y.session) X) name other) (record { transcript = rest.transcript; there = rest.there; session = rest.session })
