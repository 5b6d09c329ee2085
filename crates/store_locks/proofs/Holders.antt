-- The least holder depends on which holders there are, and not on their order or number.
use Rattle.std.proofs.Common.{◌≡◌, ◌⊎◌, inl, inr, ◌<◌, ◌≤◌, ◌+◌, ◌*◌, ℕ, suc, zero, Bool, true, false, cond, eqb, ltb, ◌&&◌, ◌||◌, List, [], ◌∷◌, get_or, length, map, Option, Some, None, refl, sym, ap, subst, ◌∙◌, arith}
use Rattle.std.specs.List.{All, Any, filter, fold, list_any, slice_get}
use Rattle.std.proofs.lemmas.Option.{get_or_from_slice_get, slice_get-get_or, slice_get_within}
use Rattle.std.proofs.lemmas.Bool.{both_ways, cases_order, cases_Bool, ltb-true, ltb-false, lt-ltb, le-ltb, eq-eqb, ne_eqb, or_cases, false_from_ne_true}
use Rattle.sql_types.specs.declared.lock.Mode.{Mode}
use Rattle.sql_types.specs.declared.lock.Mode.TheVariants.{IS, IX, S, X}
use Rattle.sql_types.specs.declared.lock.LockRequest.{LockRequest}
use Rattle.sql_types.specs.declared.lock.Hold.{Hold}
use Rattle.spec_model.specs.Holds.{rank}
use Rattle.spec_model.specs.InTheWay.{Holder, barrier, bars, holder_of, least_with, precedes}

-- ---- holders as numbers

abbrev code : Holder → ℕ
code a = 4 * a.0 + rank a.1

rank_small : (m : Mode) → rank m < 4
rank_small IS = omega arith
rank_small IX = omega arith
rank_small S = omega arith
rank_small X = omega arith

abbrev mode_of : ℕ → Mode
mode_of zero = IS
mode_of (suc zero) = IX
mode_of (suc (suc zero)) = S
mode_of (suc (suc (suc n))) = X

mode_of-rank : (m : Mode) → mode_of (rank m) ≡ m
mode_of-rank IS = refl
mode_of-rank IX = refl
mode_of-rank S = refl
mode_of-rank X = refl

rank_one : (m n : Mode) → rank m ≡ rank n → m ≡ n
rank_one m n same = sym (mode_of-rank m) ∙ (ap mode_of same ∙ mode_of-rank n)

below_by : (t u m n : ℕ) → m < 4 → n < 4 → (ltb t u || (eqb t u && ltb m n)) ≡ ltb (4 * t + m) (4 * u + n)
below_by t u m n ms ns =
    elim (cases_order t u) [
      | inl same ↦ elim (cases_Bool (ltb m n)) [
        | inl less ↦ let l : m < n = ltb-true m n less in rw (le-ltb t u (omega arith), eq-eqb t u same, less, lt-ltb (4 * t + m) (4 * u + n) (omega arith)) refl
        | inr more ↦ let l : n ≤ m = ltb-false m n more in rw (le-ltb t u (omega arith), eq-eqb t u same, more, le-ltb (4 * t + m) (4 * u + n) (omega arith)) refl
      ]
      | inr other ↦ elim other [
        | inl below ↦ rw (lt-ltb t u below, lt-ltb (4 * t + m) (4 * u + n) (omega arith)) refl
        | inr above ↦ rw (le-ltb t u (omega arith), ne_eqb t u (λ e. absurd (omega (arith, e))), le-ltb (4 * t + m) (4 * u + n) (omega arith)) refl
      ]
    ]

precedes_code : (a b : Holder) → precedes a b ≡ ltb (code a) (code b)
precedes_code a b = below_by a.0 b.0 (rank a.1) (rank b.1) (rank_small a.1) (rank_small b.1)

code_one : (a b : Holder) → code a ≡ code b → a ≡ b
code_one (t, m) (u, n) same =
    let rm = rank_small m in
    let rn = rank_small n in
    let tx : t ≡ u = omega arith in
    let mode : m ≡ n = rank_one m n (omega arith) in
    cc

-- ---- the least of those of which P holds

abbrev IsLeastOf : (Holder → Type 0) → Option Holder → Type 0
IsLeastOf P None = (a : Holder) → P a → ⊥
IsLeastOf P (Some b) = P b × ((a : Holder) → P a → code b ≤ code a)

one_least : (P Q : Holder → Type 0) (x y : Option Holder) → ((a : Holder) → P a → Q a) → ((a : Holder) → Q a → P a) → IsLeastOf P x → IsLeastOf Q y → x ≡ y
one_least P Q None None there back px qy = refl
one_least P Q None (Some b) there back px qy = absurd (px b (back b qy.0))
one_least P Q (Some a) None there back px qy = absurd (qy a (there a px.0))
one_least P Q (Some a) (Some b) there back px qy =
    let ab = px.1 b (back b qy.0) in
    let ba = qy.1 a (there a px.0) in
    ap Some (code_one a b (omega arith))

same_least : (P Q : Holder → Type 0) (x : Option Holder) → ((a : Holder) → P a → Q a) → ((a : Holder) → Q a → P a) → IsLeastOf P x → IsLeastOf Q x
same_least P Q None there back px = λ a q. px a (back a q)
same_least P Q (Some b) there back px = (there b px.0, λ a q. px.1 a (back a q))

with_lesser : (P : Holder → Type 0) (b x : Holder) (t : Bool) → precedes b x ≡ t → IsLeastOf P (Some b) → IsLeastOf (λ a. P a ⊎ (x ≡ a)) (Some (cond t b x))
with_lesser P b x true is pb =
    let l : code b < code x = ltb-true (code b) (code x) (sym (precedes_code b x) ∙ is) in
    (inl pb.0, λ a q. elim q [ inl p ↦ pb.1 a p | inr e ↦ let m : code x ≡ code a = ap code e in omega arith ])
with_lesser P b x false is pb =
    let l : code x ≤ code b = ltb-false (code b) (code x) (sym (precedes_code b x) ∙ is) in
    (inr refl, λ a q. elim q [ inl p ↦ let m = pb.1 a p in omega arith | inr e ↦ let m : code x ≡ code a = ap code e in omega arith ])

least_with_is : (P : Holder → Type 0) (best : Option Holder) (x : Holder) → IsLeastOf P best → IsLeastOf (λ a. P a ⊎ (x ≡ a)) (least_with best x)
least_with_is P None x none = (inr refl, λ a q. elim q [ inl p ↦ absurd (none a p) | inr e ↦ let m : code x ≡ code a = ap code e in omega arith ])
least_with_is P (Some b) x pb = with_lesser P b x (precedes b x) refl pb

module _ (tx : ℕ) (request : LockRequest) where
  -- the holder is one of those that bar the want
  abbrev pub Barring : List Hold → Holder → Type 0
  Barring [] a = ⊥
  Barring (h ∷ hs) a = ((bars tx request h ≡ true) × (holder_of h ≡ a)) ⊎ Barring hs a

  abbrev weighed : Option Holder → List Hold → Option Holder
  weighed best holds = fold least_with best (map holder_of (filter (bars tx request) holds))

  weighed_by : (P : Holder → Type 0) (best : Option Holder) (h : Hold) (hs : List Hold) (b : Bool) → bars tx request h ≡ b
      → ((Q : Holder → Type 0) (x : Option Holder) → IsLeastOf Q x → IsLeastOf (λ a. Q a ⊎ Barring hs a) (weighed x hs)) → IsLeastOf P best
      → IsLeastOf (λ a. P a ⊎ Barring (h ∷ hs) a) (fold least_with best (map holder_of (cond b (h ∷ filter (bars tx request) hs) (filter (bars tx request) hs))))
  weighed_by P best h hs true blocked rest is =
      same_least (λ a. (P a ⊎ (holder_of h ≡ a)) ⊎ Barring hs a) (λ a. P a ⊎ Barring (h ∷ hs) a) (weighed (least_with best (holder_of h)) hs)
      (λ a q. elim q [ inl r ↦ elim r [ inl p ↦ inl p | inr e ↦ inr (inl (blocked, e)) ] | inr b ↦ inr (inr b) ])
      (λ a q. elim q [ inl p ↦ inl (inl p) | inr r ↦ elim r [ inl e ↦ inl (inr e.1) | inr b ↦ inr b ] ])
      (rest (λ a. P a ⊎ (holder_of h ≡ a)) (least_with best (holder_of h)) (least_with_is P best (holder_of h) is))
  weighed_by P best h hs false passes rest is =
      same_least (λ a. P a ⊎ Barring hs a) (λ a. P a ⊎ Barring (h ∷ hs) a) (weighed best hs)
      (λ a q. elim q [ inl p ↦ inl p | inr b ↦ inr (inr b) ])
      (λ a q. elim q [ inl p ↦ inl p | inr r ↦ elim r [ inl e ↦ absurd (both_ways (bars tx request h) passes e.0) | inr b ↦ inr b ] ])
      (rest P best is)

  weighed_least : (holds : List Hold) (P : Holder → Type 0) (best : Option Holder) → IsLeastOf P best → IsLeastOf (λ a. P a ⊎ Barring holds a) (weighed best holds)
  weighed_least [] P best is = same_least P (λ a. P a ⊎ ⊥) best (λ a p. inl p) (λ a q. elim q [ inl p ↦ p | inr none ↦ absurd none ]) is
  weighed_least (h ∷ hs) P best is = weighed_by P best h hs (bars tx request h) refl (weighed_least hs) is

  barrier_least : (holds : List Hold) → IsLeastOf (λ a. ⊥ ⊎ Barring holds a) (barrier holds tx request)
  unfolding barrier
  barrier_least holds = weighed_least holds (λ a. ⊥) None (λ a none. none)

  pub same_barrier : (xs ys : List Hold) → ((a : Holder) → Barring xs a → Barring ys a) → ((a : Holder) → Barring ys a → Barring xs a) → barrier xs tx request ≡ barrier ys tx request
  same_barrier xs ys there back =
      one_least (λ a. ⊥ ⊎ Barring xs a) (λ a. ⊥ ⊎ Barring ys a) (barrier xs tx request) (barrier ys tx request)
      (λ a q. elim q [ inl none ↦ absurd none | inr b ↦ inr (there a b) ]) (λ a q. elim q [ inl none ↦ absurd none | inr b ↦ inr (back a b) ]) (barrier_least xs) (barrier_least ys)

  -- by the place of a hold
  pub barring_at : (holds : List Hold) (a : Holder) → Barring holds a → (p : ℕ) × (h : Hold) × (slice_get holds p ≡ Some h) × (bars tx request h ≡ true) × (holder_of h ≡ a)
  barring_at [] a is = absurd is
  barring_at (h ∷ hs) a (inl is) = (0, h, refl, is.0, is.1)
  barring_at (h ∷ hs) a (inr is) = let at = barring_at hs a is in (suc at.0, at.1, at.2, at.3, at.4)

  pub barring_from : (holds : List Hold) (p : ℕ) (h : Hold) (a : Holder) → slice_get holds p ≡ Some h → bars tx request h ≡ true → holder_of h ≡ a → Barring holds a
  barring_from [] p h a at blocked is = absurd cc
  barring_from (x ∷ xs) zero h a at blocked is = let same : x ≡ h = cc in inl (ap (bars tx request) same ∙ blocked, ap holder_of same ∙ is)
  barring_from (x ∷ xs) (suc p) h a at blocked is = inr (barring_from xs p h a at blocked is)

-- ---- whether some hold passes a test

pub any_at : (test : Hold → Bool) (holds : List Hold) → list_any test holds ≡ true → (p : ℕ) × (h : Hold) × (slice_get holds p ≡ Some h) × (test h ≡ true)
any_at test [] is = absurd cc
any_at test (h ∷ hs) is = elim (or_cases (test h) (list_any test hs) is) [
  | inl here ↦ (0, h, refl, here)
  | inr there ↦ let at = any_at test hs there in (suc at.0, at.1, at.2, at.3)
]

-- ---- what the named holder is

module _ (tx : ℕ) (request : LockRequest) (holds : List Hold) where
  named_is : (a : Holder) → barrier holds tx request ≡ Some a → IsLeastOf (λ b. ⊥ ⊎ Barring tx request holds b) (Some a)
  named_is a is = subst (IsLeastOf (λ b. ⊥ ⊎ Barring tx request holds b)) is (barrier_least tx request holds)

  barring : (a : Holder) → ⊥ ⊎ Barring tx request holds a → Barring tx request holds a
  barring a (inl none) = absurd none
  barring a (inr is) = is

  pub named_bars : (a : Holder) → barrier holds tx request ≡ Some a → Any (λ h. (bars tx request h ≡ true) × (holder_of h ≡ a)) holds
  named_bars a is =
      let at = barring_at tx request holds a (barring a (named_is a is).0) in
      (at.0, at.1, slice_get_within holds at.0 at.1 at.2, get_or_from_slice_get holds at.0 at.1 at.1 at.2, (at.3, at.4))

  there : (k : ℕ) (d : Hold) → k < length holds → bars tx request (get_or holds k d) ≡ true → Barring tx request holds (holder_of (get_or holds k d))
  there k d inside blocked = barring_from tx request holds k (get_or holds k d) (holder_of (get_or holds k d)) (slice_get-get_or holds k d inside) blocked refl

  pub named_is_least : (a : Holder) → barrier holds tx request ≡ Some a → All (λ h. bars tx request h ≡ true → precedes (holder_of h) a ≡ false) holds
  named_is_least a is = λ k d inside blocked.
      let h = get_or holds k d in
      precedes_code (holder_of h) a ∙ le-ltb (code (holder_of h)) (code a) ((named_is a is).1 (holder_of h) (inr (there k d inside blocked)))

  pub none_bars : barrier holds tx request ≡ None → All (λ h. bars tx request h ≡ false) holds
  none_bars is = λ k d inside.
      let none : (b : Holder) → ⊥ ⊎ Barring tx request holds b → ⊥ = subst (IsLeastOf (λ b. ⊥ ⊎ Barring tx request holds b)) is (barrier_least tx request holds) in
      false_from_ne_true (bars tx request (get_or holds k d)) (λ blocked. none (holder_of (get_or holds k d)) (inr (there k d inside blocked)))
