-- The steps of a place: its path, and on which side each hash stands.
use Rattle.std.proofs.Common.{◌≡◌, ◌≤◌, ◌<◌, ◌-◌, ◌+◌, ℕ, zero, suc, Bool, true, false, nat_lt, List, [], ◌∷◌, ◌++◌, length, take, drop, refl, arith, sym, ◌∙◌, ap, ap₂, length-append, length-take, length-drop}
use Rattle.std.specs.Prelude.{if◌then◌else◌, zip}
use Rattle.std.proofs.lemmas.Bool.{ltb-false}
use Rattle.base_merkle.specs.TreeHash.{split_of, tree_hash}
use Rattle.base_merkle.proofs.Split.{split_is}
use Rattle.audit_paths.specs.declared.side.Side.{Side}
use Rattle.audit_paths.specs.declared.side.Side.TheVariants as other
use Rattle.audit_paths.specs.Path.{path_within, audit_path, sides_within, sides_of, Step, audit_steps}
use Rattle.audit_paths.proofs.Equations.{path_few, path_front, path_back, sides_few, sides_front, sides_back, front_count, path_depth}
use Rattle.audit_paths.proofs.Leading.{zip_one_more}

-- ---- a path has a hash for each side

length_if : (few far : Bool) (p q : List (List ℕ)) (x y : List ℕ) (s t : List Side) → (few ≡ false → length p ≡ length s) → (few ≡ false → length q ≡ length t)
    → length (if few then [] else (if far then p ++ x ∷ [] else q ++ y ∷ [])) ≡ length (if few then [] else (if far then s ++ other.Right ∷ [] else t ++ other.Left ∷ []))
length_if true far p q x y s t f g = refl
length_if false true p q x y s t f g = length-append p (x ∷ []) ∙ ap (λ (n : ℕ). n + 1) (f refl) ∙ sym (length-append s (other.Right ∷ []))
length_if false false p q x y s t f g = length-append q (y ∷ []) ∙ ap (λ (n : ℕ). n + 1) (g refl) ∙ sym (length-append t (other.Left ∷ []))

pub same_lengths : (h : List ℕ → List ℕ) (d m : ℕ) (leaves : List (List ℕ)) → length (path_within h d m leaves) ≡ length (sides_within d m (length leaves))
same_lengths h zero m leaves = refl
same_lengths h (suc d) m leaves =
    let k = split_of (length leaves) in
    length_if (nat_lt (length leaves) 2) (nat_lt m k) (path_within h d m (take k leaves)) (path_within h d (m - k) (drop k leaves)) (tree_hash h (drop k leaves)) (tree_hash h (take k leaves))
    (sides_within d m k) (sides_within d (m - k) (length leaves - k))
    (λ t. let s = split_is (length leaves) (ltb-false (length leaves) 2 t) in
    let l = length-take k leaves in
    let count : length (take k leaves) ≡ k = omega (arith, l, s.below) in
    same_lengths h d m (take k leaves) ∙ ap (λ (n : ℕ). length (sides_within d m n)) count)
    (λ t. let l = length-drop k leaves in
    let count : length (drop k leaves) ≡ length leaves - k = omega (arith, l) in
    same_lengths h d (m - k) (drop k leaves) ∙ ap (λ (n : ℕ). length (sides_within d (m - k) n)) count)

-- ---- the equations of one split

zip_none : (sides : List Side) (path : List (List ℕ)) → sides ≡ [] → zip sides path ≡ []
zip_none [] path e = refl
zip_none (s ∷ sides) path e = absurd cc

pub steps_few : (h : List ℕ → List ℕ) (m : ℕ) (leaves : List (List ℕ)) → length leaves < 2 → audit_steps h m leaves ≡ []
steps_few h m leaves few = zip_none (sides_of m (length leaves)) (audit_path h m leaves) (sides_few m (length leaves) few)

module _ (h : List ℕ → List ℕ) (all front back : List (List ℕ)) (steps made : List Step) (root : List ℕ) (m : ℕ) (more : 2 ≤ length all) (is_front : front ≡ take (split_of (length all)) all)
    (is_back : back ≡ drop (split_of (length all)) all) where
  pub steps_made_front : m < length front → steps ≡ audit_steps h m front → root ≡ tree_hash h back → made ≡ steps ++ (other.Right, root) ∷ [] → made ≡ audit_steps h m all
  steps_made_front lt is_steps is_root is_made =
      let count = front_count all front more is_front in
      let sides : sides_of m (length all) ≡ sides_of m (length front) ++ other.Right ∷ [] = sides_front m (length all) more (omega (arith, count, lt)) ∙ ap (λ (n : ℕ). sides_of m n ++ other.Right ∷ []) (sym count) in
      let path : audit_path h m all ≡ audit_path h m front ++ root ∷ [] =
      path_front h m all more (omega (arith, count, lt)) ∙ ap₂ (λ (f b : List (List ℕ)). audit_path h m f ++ tree_hash h b ∷ []) (sym is_front) (sym is_back) ∙ ap (λ (r : List ℕ). audit_path h m front ++ r ∷ []) (sym is_root) in
      is_made ∙ ap (λ (l : List Step). l ++ (other.Right, root) ∷ []) is_steps
      ∙ sym (zip_one_more (sides_of m (length front)) (audit_path h m front) other.Right root (sym (same_lengths h (length front) m front)))
      ∙ sym (ap₂ (λ (s : List Side) (p : List (List ℕ)). zip s p) sides path)

  pub steps_made_back : length front ≤ m → steps ≡ audit_steps h (m - length front) back → root ≡ tree_hash h front → made ≡ steps ++ (other.Left, root) ∷ [] → made ≡ audit_steps h m all
  steps_made_back le is_steps is_root is_made =
      let count = front_count all front more is_front in
      let l = length-drop (split_of (length all)) all in
      let rest : length all - split_of (length all) ≡ length back = sym (ap length is_back ∙ l) in
      let far : m - split_of (length all) ≡ m - length front = ap (λ (n : ℕ). m - n) (sym count) in
      let sides : sides_of m (length all) ≡ sides_of (m - length front) (length back) ++ other.Left ∷ [] =
      sides_back m (length all) more (omega (arith, count, le)) ∙ ap₂ (λ (j n : ℕ). sides_of j n ++ other.Left ∷ []) far rest in
      let path : audit_path h m all ≡ audit_path h (m - length front) back ++ root ∷ [] =
      path_back h m all more (omega (arith, count, le)) ∙ ap (λ (j : ℕ). audit_path h j (drop (split_of (length all)) all) ++ tree_hash h (take (split_of (length all)) all) ∷ []) far
      ∙ ap₂ (λ (b f : List (List ℕ)). audit_path h (m - length front) b ++ tree_hash h f ∷ []) (sym is_back) (sym is_front) ∙ ap (λ (r : List ℕ). audit_path h (m - length front) back ++ r ∷ []) (sym is_root) in
      is_made ∙ ap (λ (l : List Step). l ++ (other.Left, root) ∷ []) is_steps
      ∙ sym (zip_one_more (sides_of (m - length front) (length back)) (audit_path h (m - length front) back) other.Left root (sym (same_lengths h (length back) (m - length front) back)))
      ∙ sym (ap₂ (λ (s : List Side) (p : List (List ℕ)). zip s p) sides path)
