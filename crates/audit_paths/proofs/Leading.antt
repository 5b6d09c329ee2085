-- The path of a place leads to the tree hash.
use Rattle.std.proofs.Common.{◌≡◌, ◌≤◌, ◌<◌, ◌+◌, ◌-◌, ◌^◌, ℕ, zero, suc, Bool, true, false, nat_lt, List, [], ◌∷◌, ◌++◌, length, take, drop, Some, refl, arith, sym, ◌∙◌, ap, ap₂, subst, lit<, length-take, length-drop, length-append}
use Rattle.std.specs.Prelude.{if◌then◌else◌, zip}
use Rattle.std.specs.List.{slice_get}
use Rattle.std.proofs.lemmas.Bool.{eq-eqb, lt-ltb, le-ltb, ltb-true, ltb-false}
use Rattle.std.proofs.Math.Nat.{one-le-pow}
use Rattle.base_merkle.specs.TreeHash.{split_of, tree_hash}
use Rattle.base_merkle.proofs.Trees.{tree_hash_two}
use Rattle.base_merkle.proofs.Split.{split_is}
use Rattle.audit_extract.specs.Collisions.{IsAtNode}
use Rattle.audit_extract.specs.Hashed.{half, hashed}
use Rattle.audit_extract.proofs.Halves.{hash_of_hashed}
use Rattle.audit_paths.specs.declared.side.Side.{Side}
use Rattle.audit_paths.specs.declared.side.Side.TheVariants as other
use Rattle.audit_paths.specs.Hashed.{IsHashedOver, IsHashedUnder}
use Rattle.audit_paths.specs.Path.{path_within, audit_path, sides_within, sides_of, Step, node_of, climbed, root_over, root_under, AreHashes}
use Rattle.audit_paths.proofs.Ways.{hashed_two, leaf_alone, node_above}

-- ---- lists

pub zip_one_more : {A B : Type 0} (xs : List A) (ys : List B) (x : A) (y : B) → length xs ≡ length ys → zip (xs ++ x ∷ []) (ys ++ y ∷ []) ≡ zip xs ys ++ (x, y) ∷ []
zip_one_more [] [] x y l = refl
zip_one_more [] (w ∷ ys) x y l = absurd (omega arith)
zip_one_more (v ∷ xs) [] x y l = absurd (omega arith)
zip_one_more {A = A} {B = B} (v ∷ xs) (w ∷ ys) x y l = ap (λ (zs : List (A × B)). (v, w) ∷ zs) (zip_one_more xs ys x y (omega arith))

pub climbed_one_more : (h : List ℕ → List ℕ) (hash : List ℕ) (steps : List Step) (s : Step) → climbed h hash (steps ++ s ∷ []) ≡ h (node_of s (climbed h hash steps))
climbed_one_more h hash [] s = refl
climbed_one_more h hash (t ∷ steps) s = climbed_one_more h (h (node_of t hash)) steps s

get_taken : (k m : ℕ) (xs : List (List ℕ)) (x : List ℕ) → m < k → slice_get xs m ≡ Some x → slice_get (take k xs) m ≡ Some x
get_taken zero m xs x lt e = absurd (omega (arith, lt))
get_taken (suc k) m [] x lt e = cc
get_taken (suc k) zero (y ∷ xs) x lt e = e
get_taken (suc k) (suc m) (y ∷ xs) x lt e = get_taken k m xs x (omega (arith, lt)) e

get_left : (k m : ℕ) (xs : List (List ℕ)) (x : List ℕ) → k ≤ m → slice_get xs m ≡ Some x → slice_get (drop k xs) (m - k) ≡ Some x
get_left zero m xs x le e = let same : m - 0 ≡ m = omega arith in subst (λ (n : ℕ). slice_get xs n ≡ Some x) (sym same) e
get_left (suc k) m [] x le e = cc
get_left (suc k) zero (y ∷ xs) x le e = absurd (omega (arith, le))
get_left (suc k) (suc m) (y ∷ xs) x le e =
    let same : suc m - suc k ≡ m - k = omega arith in
    subst (λ (n : ℕ). slice_get (drop k xs) n ≡ Some x) (sym same) (get_left k m xs x (omega (arith, le)) e)

-- ---- one split of the sides

pub sides_left : (depth m n : ℕ) → 2 ≤ n → m < split_of n → sides_within (suc depth) m n ≡ sides_within depth m (split_of n) ++ other.Right ∷ []
sides_left depth m n more lt = rw (le-ltb n 2 more, lt-ltb m (split_of n) lt) refl

pub sides_right : (depth m n : ℕ) → 2 ≤ n → split_of n ≤ m → sides_within (suc depth) m n ≡ sides_within depth (m - split_of n) (n - split_of n) ++ other.Left ∷ []
sides_right depth m n more le = rw (le-ltb n 2 more, le-ltb m (split_of n) le) refl

-- ---- the way up

module _ (h : List ℕ → List ℕ) where
  -- what is to be shown of a place in some leaves, with so many splits
  pub record Leads (depth m n : ℕ) (leaves : List (List ℕ)) (leaf : List ℕ) : Type 0 where
    pub lengths : length (path_within h depth m leaves) ≡ length (sides_within depth m n)
    pub root : climbed h (h (0 ∷ leaf)) (zip (sides_within depth m n) (path_within h depth m leaves)) ≡ tree_hash h leaves
    pub nodes : (x : List ℕ) → IsHashedOver h leaf (zip (sides_within depth m n) (path_within h depth m leaves)) x → IsAtNode h leaves x

  -- ---- the equations of one split

  pub path_left : (depth m : ℕ) (leaves : List (List ℕ)) → 2 ≤ length leaves → m < split_of (length leaves)
      → path_within h (suc depth) m leaves ≡ path_within h depth m (take (split_of (length leaves)) leaves) ++ tree_hash h (drop (split_of (length leaves)) leaves) ∷ []
  path_left depth m leaves more lt = rw (le-ltb (length leaves) 2 more, lt-ltb m (split_of (length leaves)) lt) refl

  pub path_right : (depth m : ℕ) (leaves : List (List ℕ)) → 2 ≤ length leaves → split_of (length leaves) ≤ m
      → path_within h (suc depth) m leaves ≡ path_within h depth (m - split_of (length leaves)) (drop (split_of (length leaves)) leaves) ++ tree_hash h (take (split_of (length leaves)) leaves) ∷ []
  path_right depth m leaves more le = rw (le-ltb (length leaves) 2 more, le-ltb m (split_of (length leaves)) le) refl

  one_longer : {A B : Type 0} (xs : List A) (ys : List B) (x : A) (y : B) → length xs ≡ length ys → length (xs ++ x ∷ []) ≡ length (ys ++ y ∷ [])
  one_longer xs ys x y e = length-append xs (x ∷ []) ∙ ap (λ (n : ℕ). n + 1) e ∙ sym (length-append ys (y ∷ []))

  -- ---- one leaf alone

  alone : (depth m n : ℕ) (leaves : List (List ℕ)) (leaf : List ℕ) → length leaves ≡ n → n < 2 → slice_get leaves m ≡ Some leaf → Leads depth m n leaves leaf
  alone depth m n [] leaf l few e = cc
  alone depth (suc m) n (x ∷ []) leaf l few e = cc
  alone depth m n (x ∷ y ∷ leaves) leaf l few e = absurd (omega (arith, l, few))
  alone zero zero n (x ∷ []) leaf l few e =
      let same : x ≡ leaf = cc in
      record { lengths = refl; root = ap (λ (y : List ℕ). h (0 ∷ y)) (sym same); nodes = leaf_alone h leaf (x ∷ []) (ap (λ (y : List ℕ). y ∷ []) (sym same)) }
  alone (suc depth) zero n (x ∷ []) leaf l few e =
      let same : x ≡ leaf = cc in
      let few_sides : sides_within (suc depth) zero n ≡ [] = rw (lt-ltb n 2 few) refl in
      record {
        lengths = ap length (sym few_sides);
        root = ap (λ (ss : List Side). climbed h (h (0 ∷ leaf)) (zip ss [])) few_sides ∙ ap (λ (y : List ℕ). h (0 ∷ y)) (sym same);
        nodes = λ y on. leaf_alone h leaf (x ∷ []) (ap (λ (z : List ℕ). z ∷ []) (sym same)) y
            (subst (λ (ss : List Side). IsHashedOver h leaf (zip ss (path_within h (suc depth) zero (x ∷ []))) y) few_sides on);
      }

  -- ---- one split more

  up_left : (depth m n : ℕ) (leaves : List (List ℕ)) (leaf : List ℕ) → length leaves ≡ n → 2 ≤ n → m < split_of n
      → Leads depth m (split_of n) (take (split_of n) leaves) leaf → Leads (suc depth) m n leaves leaf
  up_left depth m n leaves leaf l more lt before =
      let k = split_of n in
      let at : split_of (length leaves) ≡ k = ap split_of l in
      let path : path_within h (suc depth) m leaves ≡ path_within h depth m (take k leaves) ++ tree_hash h (drop k leaves) ∷ [] =
      subst (λ (j : ℕ). path_within h (suc depth) m leaves ≡ path_within h depth m (take j leaves) ++ tree_hash h (drop j leaves) ∷ []) at
      (path_left depth m leaves (omega (arith, l, more)) (subst (λ (j : ℕ). m < j) (sym at) lt)) in
      let sides = sides_left depth m n more lt in
      let steps : zip (sides_within (suc depth) m n) (path_within h (suc depth) m leaves) ≡ zip (sides_within depth m k) (path_within h depth m (take k leaves)) ++ (other.Right, tree_hash h (drop k leaves)) ∷ [] =
      ap₂ (λ (ss : List Side) (ps : List (List ℕ)). zip ss ps) sides path
      ∙ zip_one_more (sides_within depth m k) (path_within h depth m (take k leaves)) other.Right (tree_hash h (drop k leaves)) (sym before.lengths) in
      let two : tree_hash h leaves ≡ h (1 ∷ tree_hash h (take k leaves) ++ tree_hash h (drop k leaves)) =
      subst (λ (j : ℕ). tree_hash h leaves ≡ h (1 ∷ tree_hash h (take j leaves) ++ tree_hash h (drop j leaves))) at (tree_hash_two h leaves (omega (arith, l, more))) in
      record {
        lengths = ap length path ∙ one_longer (path_within h depth m (take k leaves)) (sides_within depth m k) (tree_hash h (drop k leaves)) other.Right before.lengths ∙ sym (ap length sides);
        root =
            ap (climbed h (h (0 ∷ leaf))) steps
            ∙ climbed_one_more h (h (0 ∷ leaf)) (zip (sides_within depth m k) (path_within h depth m (take k leaves))) (other.Right, tree_hash h (drop k leaves))
            ∙ ap (λ (x : List ℕ). h (1 ∷ x ++ tree_hash h (drop k leaves))) before.root
            ∙ sym two;
        nodes = node_above h true leaf (zip (sides_within depth m k) (path_within h depth m (take k leaves))) (zip (sides_within (suc depth) m n) (path_within h (suc depth) m leaves)) (other.Right, tree_hash h (drop k leaves))
            (take k leaves) leaves (ap (λ (j : ℕ). take j leaves) (sym at)) steps
            (ap (λ (x : List ℕ). 1 ∷ x ++ tree_hash h (drop k leaves)) before.root
            ∙ ap (λ (j : ℕ). 1 ∷ tree_hash h (take j leaves) ++ tree_hash h (drop j leaves)) (sym at)
            ∙ sym (hashed_two h leaves (omega (arith, l, more))))
            before.nodes;
      }

  up_right : (depth m n : ℕ) (leaves : List (List ℕ)) (leaf : List ℕ) → length leaves ≡ n → 2 ≤ n → split_of n ≤ m
      → Leads depth (m - split_of n) (n - split_of n) (drop (split_of n) leaves) leaf → Leads (suc depth) m n leaves leaf
  up_right depth m n leaves leaf l more le before =
      let k = split_of n in
      let at : split_of (length leaves) ≡ k = ap split_of l in
      let path : path_within h (suc depth) m leaves ≡ path_within h depth (m - k) (drop k leaves) ++ tree_hash h (take k leaves) ∷ [] =
      subst (λ (j : ℕ). path_within h (suc depth) m leaves ≡ path_within h depth (m - j) (drop j leaves) ++ tree_hash h (take j leaves) ∷ []) at
      (path_right depth m leaves (omega (arith, l, more)) (subst (λ (j : ℕ). j ≤ m) (sym at) le)) in
      let sides = sides_right depth m n more le in
      let steps : zip (sides_within (suc depth) m n) (path_within h (suc depth) m leaves) ≡ zip (sides_within depth (m - k) (n - k)) (path_within h depth (m - k) (drop k leaves)) ++ (other.Left, tree_hash h (take k leaves)) ∷ [] =
      ap₂ (λ (ss : List Side) (ps : List (List ℕ)). zip ss ps) sides path
      ∙ zip_one_more (sides_within depth (m - k) (n - k)) (path_within h depth (m - k) (drop k leaves)) other.Left (tree_hash h (take k leaves)) (sym before.lengths) in
      let two : tree_hash h leaves ≡ h (1 ∷ tree_hash h (take k leaves) ++ tree_hash h (drop k leaves)) =
      subst (λ (j : ℕ). tree_hash h leaves ≡ h (1 ∷ tree_hash h (take j leaves) ++ tree_hash h (drop j leaves))) at (tree_hash_two h leaves (omega (arith, l, more))) in
      record {
        lengths = ap length path ∙ one_longer (path_within h depth (m - k) (drop k leaves)) (sides_within depth (m - k) (n - k)) (tree_hash h (take k leaves)) other.Left before.lengths ∙ sym (ap length sides);
        root =
            ap (climbed h (h (0 ∷ leaf))) steps
            ∙ climbed_one_more h (h (0 ∷ leaf)) (zip (sides_within depth (m - k) (n - k)) (path_within h depth (m - k) (drop k leaves))) (other.Left, tree_hash h (take k leaves))
            ∙ ap (λ (x : List ℕ). h (1 ∷ tree_hash h (take k leaves) ++ x)) before.root
            ∙ sym two;
        nodes = node_above h false leaf (zip (sides_within depth (m - k) (n - k)) (path_within h depth (m - k) (drop k leaves))) (zip (sides_within (suc depth) m n) (path_within h (suc depth) m leaves)) (other.Left, tree_hash h (take k leaves))
            (drop k leaves) leaves (ap (λ (j : ℕ). drop j leaves) (sym at)) steps
            (ap (λ (x : List ℕ). 1 ∷ tree_hash h (take k leaves) ++ x) before.root
            ∙ ap (λ (j : ℕ). 1 ∷ tree_hash h (take j leaves) ++ tree_hash h (drop j leaves)) (sym at)
            ∙ sym (hashed_two h leaves (omega (arith, l, more))))
            before.nodes;
      }

  -- ---- all splits

  module _ (depth : ℕ) (leaf : List ℕ) (before : (m n : ℕ) (leaves : List (List ℕ)) → length leaves ≡ n → n ≤ depth → slice_get leaves m ≡ Some leaf → Leads depth m n leaves leaf) where
    by_place : (m n : ℕ) (leaves : List (List ℕ)) → length leaves ≡ n → n ≤ suc depth → slice_get leaves m ≡ Some leaf → 2 ≤ n → (b : Bool) → nat_lt m (split_of n) ≡ b → Leads (suc depth) m n leaves leaf
    by_place m n leaves l le e more true t =
        let lt = ltb-true m (split_of n) t in
        let s = split_is n more in
        let some : 1 ≤ 2 ^ s.height = one-le-pow s.height 2 (lit< tt) in
        let front = length-take (split_of n) leaves in
        let count : length (take (split_of n) leaves) ≡ split_of n = omega (arith, front, s.below, l) in
        up_left depth m n leaves leaf l more lt
        (before m (split_of n) (take (split_of n) leaves) count (omega (arith, s.below, le)) (get_taken (split_of n) m leaves leaf lt e))
    by_place m n leaves l le e more false t =
        let far = ltb-false m (split_of n) t in
        let s = split_is n more in
        let some : 1 ≤ 2 ^ s.height = one-le-pow s.height 2 (lit< tt) in
        let back = length-drop (split_of n) leaves in
        let count : length (drop (split_of n) leaves) ≡ n - split_of n = omega (arith, back, l) in
        up_right depth m n leaves leaf l more far
        (before (m - split_of n) (n - split_of n) (drop (split_of n) leaves) count (omega (arith, s.power, some, le)) (get_left (split_of n) m leaves leaf far e))

    by_length : (m n : ℕ) (leaves : List (List ℕ)) → length leaves ≡ n → n ≤ suc depth → slice_get leaves m ≡ Some leaf → (b : Bool) → nat_lt n 2 ≡ b → Leads (suc depth) m n leaves leaf
    by_length m n leaves l le e true t = alone (suc depth) m n leaves leaf l (ltb-true n 2 t) e
    by_length m n leaves l le e false t = by_place m n leaves l le e (ltb-false n 2 t) (nat_lt m (split_of n)) refl

  pub leads : (depth m n : ℕ) (leaves : List (List ℕ)) (leaf : List ℕ) → length leaves ≡ n → n ≤ depth → slice_get leaves m ≡ Some leaf → Leads depth m n leaves leaf
  leads zero m n leaves leaf l le e = alone zero m n leaves leaf l (omega (arith, le)) e
  leads (suc depth) m n leaves leaf l le e = by_length depth leaf (λ m n leaves l le e. leads depth m n leaves leaf l le e) m n leaves l le e (nat_lt n 2) refl

  pub path_leads : (leaves : List (List ℕ)) (m : ℕ) (leaf : List ℕ) → slice_get leaves m ≡ Some leaf → root_under h (audit_path h m leaves) m (length leaves) leaf ≡ Some (tree_hash h leaves)
  unfolding root_under
  path_leads leaves m leaf e =
      let it = leads (length leaves) m (length leaves) leaves leaf refl (omega arith) e in
      rw (eq-eqb (length (audit_path h m leaves)) (length (sides_of m (length leaves))) it.lengths) (ap Some it.root)

  -- what is hashed on the way is hashed at nodes of the tree
  pub path_nodes : (leaves : List (List ℕ)) (m : ℕ) (leaf : List ℕ) → slice_get leaves m ≡ Some leaf → (x : List ℕ) → IsHashedUnder h (audit_path h m leaves) m (length leaves) leaf x → IsAtNode h leaves x
  path_nodes leaves m leaf e = let it = leads (length leaves) m (length leaves) leaves leaf refl (omega arith) e in it.nodes

  -- ---- hashes of 32 bytes

  module _ (sized : (bytes : List ℕ) → length (h bytes) ≡ 32) where
    tree_sized : (leaves : List (List ℕ)) → length (tree_hash h leaves) ≡ 32
    tree_sized leaves = rw (hash_of_hashed h leaves) (sized (hashed h leaves))

    hashes_and : (p : List (List ℕ)) (x : List ℕ) → AreHashes p → length x ≡ 32 → AreHashes (p ++ x ∷ [])
    hashes_and [] x hp hx = (hx, tt)
    hashes_and (y ∷ p) x hp hx = (hp.0, hashes_and p x hp.1 hx)

    hashes_by : (few far : Bool) (p q : List (List ℕ)) (x y : List ℕ) → AreHashes p → AreHashes q → length x ≡ 32 → length y ≡ 32
        → AreHashes (if few then [] else (if far then p ++ x ∷ [] else q ++ y ∷ []))
    hashes_by true far p q x y hp hq hx hy = tt
    hashes_by false true p q x y hp hq hx hy = hashes_and p x hp hx
    hashes_by false false p q x y hp hq hx hy = hashes_and q y hq hy

    pub path_hashes : (depth m : ℕ) (leaves : List (List ℕ)) → AreHashes (path_within h depth m leaves)
    path_hashes zero m leaves = tt
    path_hashes (suc depth) m leaves =
        let k = split_of (length leaves) in
        hashes_by (nat_lt (length leaves) 2) (nat_lt m k) (path_within h depth m (take k leaves)) (path_within h depth (m - k) (drop k leaves)) (tree_hash h (drop k leaves)) (tree_hash h (take k leaves))
        (path_hashes depth m (take k leaves)) (path_hashes depth (m - k) (drop k leaves)) (tree_sized (drop k leaves)) (tree_sized (take k leaves))
