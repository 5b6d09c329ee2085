-- Events by number: the order in which they come doesn't matter where their numbers differ.
use Rattle.std.proofs.Common.{◌≡◌, ◌≢◌, ◌≤◌, ℕ, zero, suc, ◌+◌, refl, ap, sym, ◌∙◌, Bool, true, false, cond, List, [], ◌∷◌, ◌++◌, length, map, arith, nat_lt}
use Rattle.std.specs.Prelude.{◌==◌, not, if◌then◌else◌}
use Rattle.std.specs.List.{AllByRecursion, list_all, filter, range_with_len}
use Rattle.std.specs.Ordering.{nat_cmp, is_gt}
use Rattle.std.proofs.lemmas.Bool.{eq-eqb, lt-ltb}
use Rattle.std.proofs.lemmas.Bool.Decides.{nat_tests}
use Rattle.std.proofs.lemmas.List.{length-map}
use Rattle.sql_types.specs.declared.event.Event.{Event}
use Rattle.spec_model.specs.Lists.{inserted, sorted}
use Rattle.spec_verify.specs.Entries.{are_numbered}
use Rattle.law_accepts.proofs.Firsts.{both}

-- ---- how many have a number

abbrev pub one_if : Event → ℕ → ℕ
one_if e n = cond (e.seq == n) 1 0

unfoldable pub occurs : ℕ → List Event → ℕ
occurs n [] = 0
occurs n (e ∷ es) = one_if e n + occurs n es

pub occurs_append : (n : ℕ) (xs ys : List Event) → occurs n (xs ++ ys) ≡ occurs n xs + occurs n ys
unfolding occurs
occurs_append n [] ys = omega arith
occurs_append n (x ∷ xs) ys = omega (arith, occurs_append n xs ys)

abbrev by_seq : List Event → List Event
by_seq es = sorted (λ a b. nat_cmp a.seq b.seq) es

abbrev put : Event → List Event → List Event
put x es = inserted (λ a b. nat_cmp a.seq b.seq) x es

put_by : (n : ℕ) (x y : Event) (ys : List Event) (b : Bool) → occurs n (put x ys) ≡ one_if x n + occurs n ys → occurs n (if b then y ∷ put x ys else x ∷ y ∷ ys) ≡ one_if x n + (one_if y n + occurs n ys)
unfolding occurs
put_by n x y ys true e = omega (arith, e)
put_by n x y ys false e = refl

occurs_put : (n : ℕ) (x : Event) (ys : List Event) → occurs n (put x ys) ≡ one_if x n + occurs n ys
unfolding occurs
occurs_put n x [] = refl
occurs_put n x (y ∷ ys) = put_by n x y ys (is_gt (nat_cmp x.seq y.seq)) (occurs_put n x ys)

pub occurs_sorted : (n : ℕ) (xs : List Event) → occurs n (by_seq xs) ≡ occurs n xs
unfolding occurs
occurs_sorted n [] = refl
occurs_sorted n (x ∷ xs) = omega (arith, occurs_put n x (by_seq xs), occurs_sorted n xs)

one_when : (b : Bool) → b ≡ true → (let n : ℕ = cond b 1 0 in n ≡ 1)
one_when true e = refl
one_when false e = cc

none_when : (b : Bool) → b ≡ false → (let n : ℕ = cond b 1 0 in n ≡ 0)
none_when true e = cc
none_when false e = refl

-- ---- in order

bigger : (a b : ℕ) → is_gt (nat_cmp a b) ≡ nat_lt b a
bigger a b = grind (arith, nat_tests)

-- x comes behind y
abbrev behind : Event → Event → Bool
behind x y = is_gt (nat_cmp x.seq y.seq)

not_both : (m n : ℕ) → m ≢ n → nat_lt n m ≡ not (nat_lt m n)
not_both m n ne = grind (arith, nat_tests)

other_way : (x y : Event) → x.seq ≢ y.seq → behind y x ≡ not (behind x y)
other_way x y ne = bigger y.seq x.seq ∙ not_both y.seq x.seq (λ e. ne (sym e)) ∙ ap not (sym (bigger x.seq y.seq))

between_numbers : (x y z : ℕ) → nat_lt z x ≡ true → nat_lt z y ≡ false → nat_lt y x ≡ true
between_numbers x y z p q = grind (arith, nat_tests)

between : (x y z : Event) → behind x z ≡ true → behind y z ≡ false → behind x y ≡ true
between x y z p q = bigger x.seq y.seq ∙ between_numbers x.seq y.seq z.seq (sym (bigger x.seq z.seq) ∙ p) (sym (bigger y.seq z.seq) ∙ q)

two : (x y : Event) (rest : List Event) (b c : Bool) → c ≡ not b → (if b then y ∷ x ∷ rest else x ∷ y ∷ rest) ≡ (if c then x ∷ y ∷ rest else y ∷ x ∷ rest)
two x y rest true true e = cc
two x y rest true false e = refl
two x y rest false true e = refl
two x y rest false false e = cc

swap_at : (x y z : Event) (zs : List Event) (b c : Bool) → x.seq ≢ y.seq → behind x z ≡ b → behind y z ≡ c → put x (put y zs) ≡ put y (put x zs)
    → put x (put y (z ∷ zs)) ≡ put y (put x (z ∷ zs))
swap_at x y z zs true true ne p q more = rw (p, q) (rw p (ap (λ (es : List Event). z ∷ es) more))
swap_at x y z zs true false ne p q more = rw (p, q) (rw (between x y z p q, p) refl)
swap_at x y z zs false true ne p q more = rw (p, q) (rw (between y x z q p, p) refl)
swap_at x y z zs false false ne p q more = rw (p, q) (rw p (two x y (z ∷ zs) (behind x y) (behind y x) (other_way x y ne)))

swap : (x y : Event) (zs : List Event) → x.seq ≢ y.seq → put x (put y zs) ≡ put y (put x zs)
swap x y [] ne = two x y [] (behind x y) (behind y x) (other_way x y ne)
swap x y (z ∷ zs) ne = swap_at x y z zs (behind x z) (behind y z) ne refl refl (swap x y zs ne)

-- an event has another number than each of these
abbrev pub Differs : List Event → Event → Type 0
Differs ys x = AllByRecursion (λ y. x.seq ≢ y.seq) ys

middle : (x : Event) (xs ys : List Event) → Differs xs x → by_seq (xs ++ x ∷ ys) ≡ put x (by_seq (xs ++ ys))
middle x [] ys ne = refl
middle x (y ∷ xs) ys ne = ap (put y) (middle x xs ys ne.1) ∙ swap y x (by_seq (xs ++ ys)) (λ e. ne.0 (sym e))

-- events in the middle come to the same places as in front
pub middles : (es xs ys : List Event) → AllByRecursion (Differs xs) es → by_seq (xs ++ (es ++ ys)) ≡ by_seq (es ++ (xs ++ ys))
middles [] xs ys ne = refl
middles (e ∷ es) xs ys ne = middle e xs (es ++ ys) ne.0 ∙ ap (put e) (middles es xs ys ne.1)

pub in_front : (es xs ys : List Event) → by_seq xs ≡ by_seq ys → by_seq (es ++ xs) ≡ by_seq (es ++ ys)
in_front [] xs ys e = e
in_front (x ∷ es) xs ys e = ap (put x) (in_front es xs ys e)

none_has : (n : ℕ) (ys : List Event) → occurs n ys ≡ 0 → AllByRecursion (λ y. n ≢ y.seq) ys
unfolding occurs
none_has n [] e = tt
none_has n (y ∷ ys) e = ((λ same. (let one = one_when (y.seq == n) (eq-eqb y.seq n (sym same)) in absurd (omega (arith, e, one)))), none_has n ys (omega (arith, e)))

pub all_differ : (es xs : List Event) → ((n : ℕ) → occurs n es + occurs n xs ≤ 1) → AllByRecursion (Differs xs) es
unfolding occurs
all_differ [] xs few = tt
all_differ (e ∷ es) xs few =
    let one = one_when (e.seq == e.seq) (eq-eqb e.seq e.seq refl) in
    (none_has e.seq xs (let f = few e.seq in omega (arith, f, one)), all_differ es xs (λ n. (let f = few n in omega (arith, f))))

-- ---- numbered from 0 on

counted : (n : ℕ) (es : List Event) → length (filter (λ m. m == n) (map (λ (x : Event). x.seq) es)) ≡ occurs n es
unfolding occurs
counted n [] = refl
counted n (e ∷ es) = here (e.seq == n) (counted n es)
  where
    rest : List ℕ
    rest = filter (λ m. m == n) (map (λ (x : Event). x.seq) es)

    here : (b : Bool) → length rest ≡ occurs n es → length (if b then e.seq ∷ rest else rest) ≡ cond b 1 0 + occurs n es
    here true h = omega (arith, h)
    here false h = omega (arith, h)

-- how many have a lower number
below : ℕ → List Event → ℕ
below k [] = 0
below k (e ∷ es) = cond (nat_lt e.seq k) 1 0 + below k es

one_below : (s k : ℕ) → cond (nat_lt s (suc k)) 1 0 ≡ cond (nat_lt s k) 1 0 + cond (s == k) 1 0
one_below s k = grind (arith, nat_tests)

next_below : (k : ℕ) (es : List Event) → below (suc k) es ≡ below k es + occurs k es
unfolding below occurs
next_below k [] = refl
next_below k (e ∷ es) = omega (arith, one_below e.seq k, next_below k es)

not_lower : (s : ℕ) → nat_lt s 0 ≡ false
not_lower s = grind (arith, nat_tests)

none_below : (es : List Event) → below 0 es ≡ 0
unfolding below
none_below [] = refl
none_below (e ∷ es) = (let z = none_when (nat_lt e.seq 0) (not_lower e.seq) in omega (arith, z, none_below es))

below_each : (k m : ℕ) (es : List Event) → ((n : ℕ) → occurs n es ≡ cond (nat_lt n k) 1 0) → m ≤ k → below m es ≡ m
below_each k zero es h le = none_below es
below_each k (suc m) es h le =
    let is = h m in
    let one = one_when (nat_lt m k) (lt-ltb m k (omega (arith, le))) in
    omega (arith, next_below m es, below_each k m es h (omega (arith, le)), is, one)

all_below : (k : ℕ) (es : List Event) → ((n : ℕ) → 1 ≤ occurs n es → nat_lt n k ≡ true) → below k es ≡ length es
unfolding below occurs
all_below k [] h = refl
all_below k (e ∷ es) h =
    let one = one_when (e.seq == e.seq) (eq-eqb e.seq e.seq refl) in
    let first = one_when (nat_lt e.seq k) (h e.seq (omega (arith, one))) in
    let rest = all_below k es (λ n some. h n (omega (arith, some))) in
    omega (arith, first, rest)

pub as_many : (k : ℕ) (es : List Event) → ((n : ℕ) → occurs n es ≡ cond (nat_lt n k) 1 0) → length es ≡ k
as_many k es h = sym (all_below k es (λ n some. here n (nat_lt n k) refl (h n) some)) ∙ below_each k k es h (omega arith)
  where
    here : (n : ℕ) (b : Bool) → nat_lt n k ≡ b → occurs n es ≡ cond (nat_lt n k) 1 0 → 1 ≤ occurs n es → nat_lt n k ≡ true
    here n true is e some = is
    here n false is e some = (let z = none_when (nat_lt n k) is in absurd (omega (arith, e, z, some)))

each_once : (es : List Event) (a m k : ℕ) → ((n : ℕ) → occurs n es ≡ cond (nat_lt n k) 1 0) → a + m ≤ k
    → list_all (λ n. length (filter (λ i. i == n) (map (λ (x : Event). x.seq) es)) == 1) (range_with_len a m) ≡ true
each_once es a zero k h le = refl
each_once es a (suc m) k h le =
    both (eq-eqb _ 1 (counted a es ∙ h a ∙ one_when (nat_lt a k) (lt-ltb a k (omega (arith, le))))) (each_once es (a + 1) m k h (omega (arith, le)))

pub are_all_numbered : (k : ℕ) (es : List Event) → ((n : ℕ) → occurs n es ≡ cond (nat_lt n k) 1 0) → are_numbered (map (λ (x : Event). x.seq) es) ≡ true
are_all_numbered k es h =
    each_once es 0 (length (map (λ (x : Event). x.seq) es)) k h (let l = length-map es (λ (x : Event). x.seq) in let c = as_many k es h in omega (arith, l, c))
