-- Columns that were not dropped, found by their names and by flags.
use Rattle.std.proofs.Common.{Bor, ◌≡◌, ◌≤◌, ◌<◌, ◌+◌, ◌-◌, ℕ, zero, suc, refl, sym, ap, ◌∙◌, arith, Bool, true, false, cond, not, ◌&&◌, ◌||◌, ◌==◌, nat_le, List, [], ◌∷◌, ◌++◌, map, length, take, drop, filter, replicate, Option, Some, None, is_some, option_copied, option_map, slice_set}
use Rattle.std.proofs.lemmas.Grind.{common_steps}
use Rattle.std.proofs.lemmas.List.{append_assoc, append-nil}
use Rattle.std.specs.List.{list_any}
use Rattle.std.specs.Str.{bytes_eq}
use Rattle.sql_value.specs.declared.column.ColumnDef.{ColumnDef}
use Rattle.spec_model.specs.Checks.{is_declared}
use Rattle.spec_model.specs.Columns.{column_of}
use Rattle.spec_model.specs.Lists.{is_among, numbered, without}
use Rattle.sql_parts.specs.Dropped.{first_live, flags_from, flagged, all_flagged, unless, unflagged}
use Rattle.sql_parts.proofs.Positions.{found, first, is_first, at_first}

abbrev second : {A : Type 0} → ℕ × A → A
second p = p.1

-- those with the ordinals from n on that are not among these
abbrev standing : {A : Type 0} → List ℕ → ℕ → List A → List A
standing dropped n xs = map second (filter (λ p. not (is_among dropped p.0)) (numbered n xs))

standing_all : {A : Type 0} (n : ℕ) (xs : List A) → standing [] n xs ≡ xs
standing_all n [] = refl
standing_all n (x ∷ xs) = ap (λ l. x ∷ l) (standing_all (n + 1) xs)

without_is : {A : Type 0} (dropped : List ℕ) (xs : List A) → standing dropped 1 xs ≡ without dropped xs
without_is [] xs = standing_all 1 xs
without_is (d ∷ ds) xs = refl

pub none_dropped : {A : Type 0} (dropped : List ℕ) (xs : List A) → length dropped ≡ 0 → without dropped xs ≡ xs
none_dropped [] xs h = refl
none_dropped (d ∷ ds) xs h = absurd (omega (arith, h))

-- ---- by name

abbrev named : List ℕ → ColumnDef → Bool
named name c = bytes_eq c.name name

in_turn : {A : Type 0} (b d : Bool) (x : A) (r : Option A) → cond (b && not d) (Some x) r ≡ cond (not d) (cond b (Some x) r) r
in_turn true true x r = refl
in_turn true false x r = refl
in_turn false true x r = refl
in_turn false false x r = refl

found_one : (name : List ℕ) (d : Bool) (n : ℕ) (c : ColumnDef) (ps : List (ℕ × ColumnDef))
    → found (named name) (map second (cond (not d) ((n, c) ∷ ps) ps)) ≡ cond (not d) (cond (bytes_eq c.name name) (Some c) (found (named name) (map second ps))) (found (named name) (map second ps))
found_one name true n c ps = refl
found_one name false n c ps = refl

live_is_found : (dropped name : List ℕ) (n : ℕ) (cs : List ColumnDef) → first_live dropped name n cs ≡ found (named name) (standing dropped n cs)
live_is_found dropped name n [] = refl
live_is_found dropped name n (c ∷ cs) =
    ap (cond (bytes_eq c.name name && not (is_among dropped n)) (Some c)) (live_is_found dropped name (n + 1) cs)
    ∙ in_turn (bytes_eq c.name name) (is_among dropped n) c (found (named name) (standing dropped (n + 1) cs))
    ∙ sym (found_one name (is_among dropped n) n c (filter (λ p. not (is_among dropped p.0)) (numbered (n + 1) cs)))

pub live_named : (dropped name : List ℕ) (cs : List ColumnDef) → first_live dropped name 1 cs ≡ column_of (without dropped cs) name
live_named dropped name cs =
    live_is_found dropped name 1 cs ∙ ap (found (named name)) (without_is dropped cs) ∙ sym (at_first (named name) (without dropped cs))

pub copied_there : (r : Option (Bor ColumnDef)) → is_some r ≡ is_some (option_copied r)
copied_there (Some c) = refl
copied_there None = refl

first_there : {A : Type 0} (b : Bool) (x : A) (r : Option ℕ) (s : Option A) → is_some s ≡ is_some r → is_some (cond b (Some x) s) ≡ is_some (cond b (Some 0) (option_map suc r))
first_there true x r s e = refl
first_there false x (Some n) s e = e
first_there false x None s e = e

found_there : {A : Type 0} (test : A → Bool) (xs : List A) → is_some (found test xs) ≡ is_some (first test xs)
found_there test [] = refl
found_there test (x ∷ xs) = first_there (test x) x (first test xs) (found test xs) (found_there test xs)

-- a column is declared exactly where there is one of its name
pub is_there : (cs : List ColumnDef) (name : List ℕ) → is_some (column_of cs name) ≡ is_declared cs name
is_there cs name = ap is_some (at_first (named name) cs) ∙ found_there (named name) cs ∙ ap is_some (sym (is_first (named name) cs))

-- ---- flags

any_append : {A : Type 0} (p : A → Bool) (xs ys : List A) → list_any p (xs ++ ys) ≡ (list_any p xs || list_any p ys)
any_append p [] ys = refl
any_append p (x ∷ xs) ys = ap (λ b. p x || b) (any_append p xs ys) ∙ or_assoc (p x) (list_any p xs) (list_any p ys)
  where
    or_assoc : (a b c : Bool) → (a || (b || c)) ≡ ((a || b) || c)
    or_assoc true b c = refl
    or_assoc false b c = refl

-- a number more
among_more : (ds : List ℕ) (d n : ℕ) → is_among (ds ++ d ∷ []) n ≡ (is_among ds n || ((d == n) || false))
among_more ds d n = any_append (λ m. m == n) ds (d ∷ [])

or_false : (b c : Bool) → c ≡ false → (b || (c || false)) ≡ b
or_false true c e = refl
or_false false c e = (rw e refl)

or_true : (b c : Bool) → c ≡ true → (b || (c || false)) ≡ true
or_true true c e = refl
or_true false c e = (rw e refl)

among_other : (ds : List ℕ) (d n : ℕ) → (d == n) ≡ false → is_among (ds ++ d ∷ []) n ≡ is_among ds n
among_other ds d n e = among_more ds d n ∙ or_false (is_among ds n) (d == n) e

among_this : (ds : List ℕ) (d n : ℕ) → (d == n) ≡ true → is_among (ds ++ d ∷ []) n ≡ true
among_this ds d n e = among_more ds d n ∙ or_true (is_among ds n) (d == n) e

differs : (d n : ℕ) → d < n → (d == n) ≡ false
differs d n h = grind (arith, common_steps)

-- an ordinal before all flags
flags_behind : (ds : List ℕ) (d n k : ℕ) → d < n → flags_from (ds ++ d ∷ []) n k ≡ flags_from ds n k
flags_behind ds d n zero h = refl
flags_behind ds d n (suc k) h = λ i. among_other ds d n (differs d n h) i ∷ flags_behind ds d (n + 1) k (omega (arith, h)) i

same_number : (n : ℕ) → (n + 0 == n) ≡ true
same_number n = grind (arith, common_steps)

later_number : (n j : ℕ) → (n + suc j == n) ≡ false
later_number n j = grind (arith, common_steps)

-- an ordinal j behind the first
flag_set : (ds : List ℕ) (n j k : ℕ) → flags_from (ds ++ (n + j) ∷ []) n k ≡ slice_set (flags_from ds n k) j true
flag_set ds n j zero = refl
flag_set ds n zero (suc k) = λ i. among_this ds (n + 0) n (same_number n) i ∷ flags_behind ds (n + 0) (n + 1) k (omega arith) i
flag_set ds n (suc j) (suc k) =
    λ i. among_other ds (n + suc j) n (later_number n j) i
    ∷ (ap (λ (m : ℕ). flags_from (ds ++ m ∷ []) (n + 1) k) (let e : n + suc j ≡ (n + 1) + j = omega arith in e) ∙ flag_set ds (n + 1) j k) i

set_nothing : {A : Type 0} (xs : List A) (j : ℕ) (x : A) → length xs ≤ j → slice_set xs j x ≡ xs
set_nothing [] j x h = refl
set_nothing (y ∷ ys) zero x h = absurd (omega (arith, h))
set_nothing (y ∷ ys) (suc j) x h = ap (λ l. y ∷ l) (set_nothing ys j x (omega (arith, h)))

by_tests : (ds : List ℕ) (d k : ℕ) (a b : Bool) → nat_le 1 d ≡ a → nat_le d (length (flags_from ds 1 k)) ≡ b
    → cond (a && b) (slice_set (flags_from ds 1 k) (d - 1) true) (flags_from ds 1 k) ≡ flags_from (ds ++ d ∷ []) 1 k
by_tests ds d k true true p q =
    let at : d ≡ 1 + (d - 1) = grind (arith, common_steps) in
    sym (ap (λ (m : ℕ). flags_from (ds ++ m ∷ []) 1 k) at ∙ flag_set ds 1 (d - 1) k)
by_tests ds d k true false p q =
    let at : d ≡ 1 + (d - 1) = grind (arith, common_steps) in
    let behind : length (flags_from ds 1 k) ≤ d - 1 = grind (arith, common_steps) in
    sym (ap (λ (m : ℕ). flags_from (ds ++ m ∷ []) 1 k) at ∙ flag_set ds 1 (d - 1) k ∙ set_nothing (flags_from ds 1 k) (d - 1) true behind)
by_tests ds d k false b p q = sym (flags_behind ds d 1 k (let none : d < 1 = grind (arith, common_steps) in none))

one_flag : (ds : List ℕ) (d k : ℕ) → flagged (flags_from ds 1 k) d ≡ flags_from (ds ++ d ∷ []) 1 k
one_flag ds d k = by_tests ds d k (nat_le 1 d) (nat_le d (length (flags_from ds 1 k))) refl refl

more_flags : (es ds : List ℕ) (k : ℕ) → all_flagged (flags_from ds 1 k) es ≡ flags_from (ds ++ es) 1 k
more_flags [] ds k = ap (λ (l : List ℕ). flags_from l 1 k) (sym (append-nil ds))
more_flags (e ∷ es) ds k =
    ap (λ (fs : List Bool). all_flagged fs es) (one_flag ds e k)
    ∙ more_flags es (ds ++ e ∷ []) k
    ∙ ap (λ (l : List ℕ). flags_from l 1 k) (append_assoc ds (e ∷ []) es)

no_flags : (n k : ℕ) → replicate k false ≡ flags_from [] n k
no_flags n zero = refl
no_flags n (suc k) = ap (λ l. false ∷ l) (no_flags (n + 1) k)

flags_of_all : (ds : List ℕ) (k : ℕ) → all_flagged (replicate k false) ds ≡ flags_from ds 1 k
flags_of_all ds k = ap (λ (fs : List Bool). all_flagged fs ds) (no_flags 1 k) ∙ more_flags ds [] k

drop_over : {A : Type 0} (n : ℕ) (xs : List A) → length xs ≤ n → drop n xs ≡ []
drop_over zero [] h = refl
drop_over zero (x ∷ xs) h = absurd (omega (arith, h))
drop_over (suc n) [] h = refl
drop_over (suc n) (x ∷ xs) h = drop_over n xs (omega (arith, h))

-- once the flags of all are set
pub flags_done : (ds : List ℕ) (n k : ℕ) (fs : List Bool) → length ds ≤ n → all_flagged fs (drop n ds) ≡ all_flagged (replicate k false) ds → fs ≡ flags_from ds 1 k
flags_done ds n k fs over set = sym (ap (all_flagged fs) (drop_over n ds over)) ∙ set ∙ flags_of_all ds k

-- ---- what is left

left_one : {A : Type 0} (d : Bool) (n : ℕ) (x : A) (ps : List (ℕ × A)) → unless d x ++ map second ps ≡ map second (cond (not d) ((n, x) ∷ ps) ps)
left_one true n x ps = refl
left_one false n x ps = refl

unflagged_are : {A : Type 0} (ds : List ℕ) (n k : ℕ) (xs : List A) → unflagged (flags_from ds n k) xs ≡ standing ds n (take k xs)
unflagged_are ds n zero xs = refl
unflagged_are ds n (suc k) [] = refl
unflagged_are ds n (suc k) (x ∷ xs) =
    ap (λ l. unless (is_among ds n) x ++ l) (unflagged_are ds (n + 1) k xs)
    ∙ left_one (is_among ds n) n x (filter (λ p. not (is_among ds p.0)) (numbered (n + 1) (take k xs)))

pub unflagged_first : {A : Type 0} (dropped : List ℕ) (k : ℕ) (xs : List A) → unflagged (flags_from dropped 1 k) xs ≡ without dropped (take k xs)
unflagged_first dropped k xs = unflagged_are dropped 1 k xs ∙ without_is dropped (take k xs)

take_all : {A : Type 0} (xs : List A) → take (length xs) xs ≡ xs
take_all [] = refl
take_all (x ∷ xs) = ap (λ l. x ∷ l) (take_all xs)

pub all_unflagged : {A : Type 0} (dropped : List ℕ) (xs : List A) → unflagged (flags_from dropped 1 (length xs)) xs ≡ without dropped xs
all_unflagged dropped xs = unflagged_first dropped (length xs) xs ∙ ap (without dropped) (take_all xs)

-- ---- what is left of two lists of which one has ended

pub no_flags_left : {A : Type 0} (fs : List Bool) (xs : List A) → length fs ≡ 0 → unflagged fs xs ≡ []
no_flags_left [] xs h = refl
no_flags_left (f ∷ fs) xs h = absurd (omega (arith, h))

pub no_items_left : {A : Type 0} (fs : List Bool) (xs : List A) → length xs ≡ 0 → unflagged fs xs ≡ []
no_items_left [] xs h = refl
no_items_left (f ∷ fs) [] h = refl
no_items_left (f ∷ fs) (x ∷ xs) h = absurd (omega (arith, h))

-- behind the end of one of them
flags_over : {A : Type 0} (n : ℕ) (fs : List Bool) (xs : List A) → length fs ≤ n → unflagged (drop n fs) (drop n xs) ≡ []
flags_over n fs xs h = ap (λ (l : List Bool). unflagged l (drop n xs)) (drop_over n fs h)

items_over : {A : Type 0} (n : ℕ) (fs : List Bool) (xs : List A) → length xs ≤ n → unflagged (drop n fs) (drop n xs) ≡ []
items_over {A} n fs xs h = ap (λ (l : List A). unflagged (drop n fs) l) (drop_over n xs h) ∙ no_items_left (drop n fs) [] refl

pub both_over : {A : Type 0} (n : ℕ) (fs : List Bool) (xs : List A) → (n < length fs → length xs ≤ n) → unflagged (drop n fs) (drop n xs) ≡ []
both_over n fs xs h = by_flags (nat_le (length fs) n) refl
  where
    by_flags : (b : Bool) → nat_le (length fs) n ≡ b → unflagged (drop n fs) (drop n xs) ≡ []
    by_flags true e = flags_over n fs xs (let over : length fs ≤ n = grind (arith, common_steps) in over)
    by_flags false e = items_over n fs xs (h (let under : n < length fs = grind (arith, common_steps) in under))
