-- The equations of one split, for paths and for the way back.
use Rattle.std.proofs.Common.{◌≡◌, ◌≢◌, ◌≤◌, ◌<◌, ◌+◌, ◌-◌, ◌^◌, ℕ, zero, suc, Bool, true, false, nat_lt, List, [], ◌∷◌, ◌++◌, length, take, drop, Option, Some, None, refl, arith, sym, ◌∙◌, ap, lit<, length-append, length-take}
use Rattle.std.specs.Prelude.{eqb, if◌then◌else◌, zip}
use Rattle.std.specs.Option.{option_map}
use Rattle.std.proofs.lemmas.Bool.{eqb-true, eqb-false, eq-eqb, ne_eqb, ltb-true, ltb-false}
use Rattle.std.proofs.Math.Nat.{one-le-pow}
use Rattle.base_merkle.specs.TreeHash.{split_of, tree_hash}
use Rattle.base_merkle.proofs.Split.{split_is}
use Rattle.audit_extract.proofs.Halves.{front_length, back_length}
use Rattle.audit_paths.specs.declared.side.Side.{Side}
use Rattle.audit_paths.specs.declared.side.Side.TheVariants as other
use Rattle.audit_paths.specs.Path.{path_within, audit_path, sides_within, sides_of, node_of, climbed, root_over, root_under}
use Rattle.audit_paths.proofs.Leading.{path_left, path_right, sides_left, sides_right, zip_one_more, climbed_one_more}

-- ---- how often may be parted doesn't matter, if it is enough

same_if : {A : Type 0} (few far : Bool) (p q r s : List A) → (few ≡ false → p ≡ r) → (few ≡ false → q ≡ s) → (if few then [] else (if far then p else q)) ≡ (if few then [] else (if far then r else s))
same_if true far p q r s f g = refl
same_if false true p q r s f g = f refl
same_if false false p q r s f g = g refl

pub path_depth : (h : List ℕ → List ℕ) (d e m : ℕ) (leaves : List (List ℕ)) → length leaves ≤ d → length leaves ≤ e → path_within h d m leaves ≡ path_within h e m leaves
path_depth h zero zero m leaves a b = refl
path_depth h zero (suc e) m [] a b = refl
path_depth h zero (suc e) m (x ∷ leaves) a b = absurd (omega (arith, a))
path_depth h (suc d) zero m [] a b = refl
path_depth h (suc d) zero m (x ∷ leaves) a b = absurd (omega (arith, b))
path_depth h (suc d) (suc e) m leaves a b =
    let k = split_of (length leaves) in
    same_if (nat_lt (length leaves) 2) (nat_lt m k)
    (path_within h d m (take k leaves) ++ tree_hash h (drop k leaves) ∷ []) (path_within h d (m - k) (drop k leaves) ++ tree_hash h (take k leaves) ∷ [])
    (path_within h e m (take k leaves) ++ tree_hash h (drop k leaves) ∷ []) (path_within h e (m - k) (drop k leaves) ++ tree_hash h (take k leaves) ∷ [])
    (λ t. let l = front_length leaves (ltb-false (length leaves) 2 t) in
    ap (λ (p : List (List ℕ)). p ++ tree_hash h (drop k leaves) ∷ []) (path_depth h d e m (take k leaves) (omega (arith, l, a)) (omega (arith, l, b))))
    (λ t. let l = back_length leaves (ltb-false (length leaves) 2 t) in
    ap (λ (p : List (List ℕ)). p ++ tree_hash h (take k leaves) ∷ []) (path_depth h d e (m - k) (drop k leaves) (omega (arith, l, a)) (omega (arith, l, b))))

pub sides_depth : (d e m n : ℕ) → n ≤ d → n ≤ e → sides_within d m n ≡ sides_within e m n
sides_depth zero zero m n a b = refl
sides_depth zero (suc e) m zero a b = refl
sides_depth zero (suc e) m (suc n) a b = absurd (omega (arith, a))
sides_depth (suc d) zero m zero a b = refl
sides_depth (suc d) zero m (suc n) a b = absurd (omega (arith, b))
sides_depth (suc d) (suc e) m n a b =
    let k = split_of n in
    same_if (nat_lt n 2) (nat_lt m k)
    (sides_within d m k ++ other.Right ∷ []) (sides_within d (m - k) (n - k) ++ other.Left ∷ [])
    (sides_within e m k ++ other.Right ∷ []) (sides_within e (m - k) (n - k) ++ other.Left ∷ [])
    (λ t. let s = split_is n (ltb-false n 2 t) in
    ap (λ (l : List Side). l ++ other.Right ∷ []) (sides_depth d e m k (omega (arith, s.below, a)) (omega (arith, s.below, b))))
    (λ t. let s = split_is n (ltb-false n 2 t) in
    let some : 1 ≤ 2 ^ s.height = one-le-pow s.height 2 (lit< tt) in
    ap (λ (l : List Side). l ++ other.Left ∷ []) (sides_depth d e (m - k) (n - k) (omega (arith, s.power, some, a)) (omega (arith, s.power, some, b))))

-- ---- the equations of RFC 6962, section 2.1.1

pub path_few : (h : List ℕ → List ℕ) (m : ℕ) (leaves : List (List ℕ)) → length leaves < 2 → audit_path h m leaves ≡ []
path_few h m [] few = refl
path_few h m (x ∷ []) few = refl
path_few h m (x ∷ y ∷ leaves) few = absurd (omega (arith, few))

pub path_front : (h : List ℕ → List ℕ) (m : ℕ) (leaves : List (List ℕ)) → 2 ≤ length leaves → m < split_of (length leaves)
    → audit_path h m leaves ≡ audit_path h m (take (split_of (length leaves)) leaves) ++ tree_hash h (drop (split_of (length leaves)) leaves) ∷ []
path_front h m [] more lt = absurd (omega (arith, more))
path_front h m (x ∷ leaves) more lt =
    let all : List (List ℕ) = x ∷ leaves in
    let k = split_of (length all) in
    let l = front_length all more in
    path_left h (length leaves) m all more lt
    ∙ ap (λ (p : List (List ℕ)). p ++ tree_hash h (drop k all) ∷ []) (path_depth h (length leaves) (length (take k all)) m (take k all) (omega (arith, l)) (omega arith))

pub path_back : (h : List ℕ → List ℕ) (m : ℕ) (leaves : List (List ℕ)) → 2 ≤ length leaves → split_of (length leaves) ≤ m
    → audit_path h m leaves ≡ audit_path h (m - split_of (length leaves)) (drop (split_of (length leaves)) leaves) ++ tree_hash h (take (split_of (length leaves)) leaves) ∷ []
path_back h m [] more le = absurd (omega (arith, more))
path_back h m (x ∷ leaves) more le =
    let all : List (List ℕ) = x ∷ leaves in
    let k = split_of (length all) in
    let l = back_length all more in
    path_right h (length leaves) m all more le
    ∙ ap (λ (p : List (List ℕ)). p ++ tree_hash h (take k all) ∷ []) (path_depth h (length leaves) (length (drop k all)) (m - k) (drop k all) (omega (arith, l)) (omega arith))

-- ---- the same of sides

pub sides_few : (m n : ℕ) → n < 2 → sides_of m n ≡ []
sides_few m zero few = refl
sides_few m (suc zero) few = refl
sides_few m (suc (suc n)) few = absurd (omega (arith, few))

pub sides_front : (m n : ℕ) → 2 ≤ n → m < split_of n → sides_of m n ≡ sides_of m (split_of n) ++ other.Right ∷ []
sides_front m zero more lt = absurd (omega (arith, more))
sides_front m (suc n) more lt =
    let s = split_is (suc n) more in
    sides_left n m (suc n) more lt ∙ ap (λ (l : List Side). l ++ other.Right ∷ []) (sides_depth n (split_of (suc n)) m (split_of (suc n)) (omega (arith, s.below)) (omega arith))

pub sides_back : (m n : ℕ) → 2 ≤ n → split_of n ≤ m → sides_of m n ≡ sides_of (m - split_of n) (n - split_of n) ++ other.Left ∷ []
sides_back m zero more le = absurd (omega (arith, more))
sides_back m (suc n) more le =
    let s = split_is (suc n) more in
    let some : 1 ≤ 2 ^ s.height = one-le-pow s.height 2 (lit< tt) in
    sides_right n m (suc n) more le
    ∙ ap (λ (l : List Side). l ++ other.Left ∷ []) (sides_depth n (suc n - split_of (suc n)) (m - split_of (suc n)) (suc n - split_of (suc n)) (omega (arith, s.power, some)) (omega arith))

-- by the front half's count k
pub half_front : (m n k : ℕ) → 2 ≤ n → k ≡ split_of n → m < k → sides_of m n ≡ sides_of m k ++ other.Right ∷ []
half_front m n k more is lt = sides_front m n more (omega (arith, lt, is)) ∙ ap (λ (j : ℕ). sides_of m j ++ other.Right ∷ []) (sym is)

pub half_back : (m n k : ℕ) → 2 ≤ n → k ≡ split_of n → k ≤ m → sides_of m n ≡ sides_of (m - k) (n - k) ++ other.Left ∷ []
half_back m n k more is le = sides_back m n more (omega (arith, le, is)) ∙ ap (λ (j : ℕ). sides_of (m - j) (n - j) ++ other.Left ∷ []) (sym is)

-- ---- the root under a path

abbrev under_by : (List ℕ → List ℕ) → List ℕ → List Side → List (List ℕ) → Option (List ℕ)
under_by h leaf sides path = if eqb (length path) (length sides) then Some (root_over h leaf (zip sides path)) else None

one_step : (h : List ℕ → List ℕ) (leaf : List ℕ) (sides : List Side) (s : Side) (ps : List (List ℕ)) (p : List ℕ)
    → under_by h leaf (sides ++ s ∷ []) (ps ++ p ∷ []) ≡ option_map (λ r. h (node_of (s, p) r)) (under_by h leaf sides ps)
one_step h leaf sides s ps p = by (eqb (length ps) (length sides)) refl
  where
    a : length (ps ++ p ∷ []) ≡ length ps + 1
    a = length-append ps (p ∷ [])

    b : length (sides ++ s ∷ []) ≡ length sides + 1
    b = length-append sides (s ∷ [])

    by : (t : Bool) → eqb (length ps) (length sides) ≡ t → under_by h leaf (sides ++ s ∷ []) (ps ++ p ∷ []) ≡ option_map (λ r. h (node_of (s, p) r)) (under_by h leaf sides ps)
    by true e =
        let same : length ps ≡ length sides = eqb-true (length ps) (length sides) e in
        let one : eqb (length (ps ++ p ∷ [])) (length (sides ++ s ∷ [])) ≡ true = eq-eqb (length (ps ++ p ∷ [])) (length (sides ++ s ∷ [])) (omega (arith, a, b, same)) in
        rw (e, one) (ap Some (ap (climbed h (h (0 ∷ leaf))) (zip_one_more sides ps s p (sym same)) ∙ climbed_one_more h (h (0 ∷ leaf)) (zip sides ps) (s, p)))
    by false e =
        let differ : length ps ≢ length sides = eqb-false (length ps) (length sides) e in
        let two : eqb (length (ps ++ p ∷ [])) (length (sides ++ s ∷ [])) ≡ false = ne_eqb (length (ps ++ p ∷ [])) (length (sides ++ s ∷ [])) (λ i. differ (omega (arith, a, b, i))) in
        rw (e, two) refl

pub under_few : (h : List ℕ → List ℕ) (m n : ℕ) (leaf : List ℕ) → n < 2 → root_under h [] m n leaf ≡ Some (h (0 ∷ leaf))
unfolding root_under
under_few h m n leaf few = ap (λ (sides : List Side). under_by h leaf sides []) (sides_few m n few)

pub under_few_none : (h : List ℕ → List ℕ) (ps : List (List ℕ)) (p : List ℕ) (m n : ℕ) (leaf : List ℕ) → n < 2 → root_under h (ps ++ p ∷ []) m n leaf ≡ None
unfolding root_under
under_few_none h ps p m n leaf few =
    let l = length-append ps (p ∷ []) in
    let no : eqb (length (ps ++ p ∷ [])) 0 ≡ false = ne_eqb (length (ps ++ p ∷ [])) 0 (λ e. absurd (omega (arith, e, l))) in
    ap (λ (sides : List Side). under_by h leaf sides (ps ++ p ∷ [])) (sides_few m n few) ∙ rw no refl

-- one step more, to the half in which the place stands
pub under_step : (h : List ℕ → List ℕ) (ps : List (List ℕ)) (p : List ℕ) (s : Side) (m n j k : ℕ) (leaf : List ℕ) → sides_of m n ≡ sides_of j k ++ s ∷ []
    → root_under h (ps ++ p ∷ []) m n leaf ≡ option_map (λ r. h (node_of (s, p) r)) (root_under h ps j k leaf)
unfolding root_under
under_step h ps p s m n j k leaf e = ap (λ (sides : List Side). under_by h leaf sides (ps ++ p ∷ [])) e ∙ one_step h leaf (sides_of j k) s ps p

pub under_none : (h : List ℕ → List ℕ) (m n : ℕ) (leaf : List ℕ) → 2 ≤ n → root_under h [] m n leaf ≡ None
unfolding root_under
under_none h m n leaf more = by (nat_lt m (split_of n)) refl
  where
    none_with : (sides : List Side) (s : Side) → under_by h leaf (sides ++ s ∷ []) [] ≡ None
    none_with sides s =
        let l = length-append sides (s ∷ []) in
        let no : eqb 0 (length (sides ++ s ∷ [])) ≡ false = ne_eqb 0 (length (sides ++ s ∷ [])) (λ e. absurd (omega (arith, e, l))) in
        rw no refl

    by : (b : Bool) → nat_lt m (split_of n) ≡ b → under_by h leaf (sides_of m n) [] ≡ None
    by true t = ap (λ (sides : List Side). under_by h leaf sides []) (sides_front m n more (ltb-true m (split_of n) t)) ∙ none_with (sides_of m (split_of n)) other.Right
    by false t = ap (λ (sides : List Side). under_by h leaf sides []) (sides_back m n more (ltb-false m (split_of n) t)) ∙ none_with (sides_of (m - split_of n) (n - split_of n)) other.Left

-- a leaf alone leads to its hash
pub under_leaf : (h : List ℕ → List ℕ) (path : List (List ℕ)) (m n : ℕ) (leaf root : List ℕ) → n < 2 → root_under h path m n leaf ≡ Some root → h (0 ∷ leaf) ≡ root
unfolding root_under
under_leaf h path m n leaf root few e =
    some_if (eqb (length path) 0) (h (0 ∷ leaf)) root (ap (λ (sides : List Side). under_by h leaf sides path) (sym (sides_few m n few)) ∙ e)
  where
    some_if : (b : Bool) (x y : List ℕ) → (if b then Some x else None) ≡ Some y → x ≡ y
    some_if true x y same = cc
    some_if false x y same = cc

-- ---- for the code

pub front_count : (all front : List (List ℕ)) → 2 ≤ length all → front ≡ take (split_of (length all)) all → length front ≡ split_of (length all)
front_count all front more is_front =
    let s = split_is (length all) more in
    let l = length-take (split_of (length all)) all in
    let f = ap length is_front in
    omega (arith, l, f, s.below)

pub front_shorter : (all front : List (List ℕ)) → 2 ≤ length all → front ≡ take (split_of (length all)) all → length front < length all
front_shorter all front more is_front = rw is_front (front_length all more)

pub back_shorter : (all back : List (List ℕ)) → 2 ≤ length all → back ≡ drop (split_of (length all)) all → length back < length all
back_shorter all back more is_back = rw is_back (back_length all more)

pub split_below : (n k : ℕ) → 2 ≤ n → k ≡ split_of n → (1 ≤ k) × (k < n)
split_below n k more is =
    let s = split_is n more in
    let some : 1 ≤ 2 ^ s.height = one-le-pow s.height 2 (lit< tt) in
    (omega (arith, s.power, some, is), omega (arith, s.below, is))

pub made_front : (h : List ℕ → List ℕ) (all front back path made : List (List ℕ)) (root : List ℕ) (m : ℕ) → 2 ≤ length all → front ≡ take (split_of (length all)) all → back ≡ drop (split_of (length all)) all
    → m < length front → path ≡ audit_path h m front → root ≡ tree_hash h back → made ≡ path ++ root ∷ [] → made ≡ audit_path h m all
made_front h all front back path made root m more is_front is_back lt is_path is_root is_made =
    let count = front_count all front more is_front in
    is_made
    ∙ ap (λ (p : List (List ℕ)). p ++ root ∷ []) (is_path ∙ ap (audit_path h m) is_front)
    ∙ ap (λ (r : List ℕ). audit_path h m (take (split_of (length all)) all) ++ r ∷ []) (is_root ∙ ap (tree_hash h) is_back)
    ∙ sym (path_front h m all more (omega (arith, count, lt)))

pub made_back : (h : List ℕ → List ℕ) (all front back path made : List (List ℕ)) (root : List ℕ) (m : ℕ) → 2 ≤ length all → front ≡ take (split_of (length all)) all → back ≡ drop (split_of (length all)) all
    → length front ≤ m → path ≡ audit_path h (m - length front) back → root ≡ tree_hash h front → made ≡ path ++ root ∷ [] → made ≡ audit_path h m all
made_back h all front back path made root m more is_front is_back le is_path is_root is_made =
    let count = front_count all front more is_front in
    is_made
    ∙ ap (λ (p : List (List ℕ)). p ++ root ∷ []) (is_path ∙ ap (λ (n : ℕ). audit_path h (m - n) back) count ∙ ap (audit_path h (m - split_of (length all))) is_back)
    ∙ ap (λ (r : List ℕ). audit_path h (m - split_of (length all)) (drop (split_of (length all)) all) ++ r ∷ []) (is_root ∙ ap (tree_hash h) is_front)
    ∙ sym (path_back h m all more (omega (arith, count, le)))

pub climbs : (h : List ℕ → List ℕ) (path below : List (List ℕ)) (other : List ℕ) (s : Side) (m n j k : ℕ) (leaf : List ℕ) (half : Option (List ℕ)) → path ≡ below ++ other ∷ []
    → sides_of m n ≡ sides_of j k ++ s ∷ [] → half ≡ root_under h below j k leaf → option_map (λ r. h (node_of (s, other) r)) half ≡ root_under h path m n leaf
climbs h path below other s m n j k leaf half is sides is_half =
    ap (option_map (λ r. h (node_of (s, other) r))) is_half ∙ sym (under_step h below other s m n j k leaf sides) ∙ ap (λ (p : List (List ℕ)). root_under h p m n leaf) (sym is)
