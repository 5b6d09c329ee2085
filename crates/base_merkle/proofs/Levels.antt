-- The levels of a tree, from its leaves to its root.
use Rattle.std.proofs.Common.{◌≡◌, ◌≤◌, ◌+◌, ◌*◌, ◌/◌, ◌^◌, suc, zero, ℕ, List, [], ◌∷◌, ◌++◌, length, map, take, drop, slice_index_or, refl, arith, sym, ◌∙◌, ap, append_assoc, length-append, length-drop}
use Rattle.std.proofs.lemmas.List.{append-nil, drop-drop, drop_more, length-take-le, take-append-drop}
use Rattle.std.proofs.Math.Nat.{pow-succ'}
use Rattle.base_merkle.specs.Levels.{level_above}
use Rattle.base_merkle.specs.TreeHash.{tree_hash}
use Rattle.base_merkle.proofs.Trees.{tree_hash_join}

-- node by node the tree hashes of 2 ^ height leaves each, and the last of at most as many
abbrev pub IsLevel : (List ℕ → List ℕ) → ℕ → List (List ℕ) → List (List ℕ) → Type 0
IsLevel h height [] leaves = leaves ≡ []
IsLevel h height (n ∷ ns) leaves =
    (front : List (List ℕ)) × (rest : List (List ℕ)) × (leaves ≡ front ++ rest) × (n ≡ tree_hash h front) × (1 ≤ length front)
    × (length front ≤ 2 ^ height) × (1 ≤ length rest → length front ≡ 2 ^ height) × IsLevel h height ns rest

-- the hashes of the leaves
pub level_of_leaves : (h : List ℕ → List ℕ) (leaves : List (List ℕ)) → IsLevel h 0 (map (λ leaf. h (0 ∷ leaf)) leaves) leaves
level_of_leaves h [] = refl
level_of_leaves h (leaf ∷ leaves) = (leaf ∷ [], leaves, refl, refl, omega arith, omega arith, λ some. omega arith, level_of_leaves h leaves)

some_of_level : (h : List ℕ → List ℕ) (height : ℕ) (n : List ℕ) (ns leaves : List (List ℕ)) → IsLevel h height (n ∷ ns) leaves → 1 ≤ length leaves
some_of_level h height n ns leaves level =
    let len = length-append level.0 level.1 in
    omega (arith, ap length level.2, level.4)

-- one level up
pub level_is_above : (h : List ℕ → List ℕ) (height : ℕ) (nodes leaves : List (List ℕ)) → IsLevel h height nodes leaves
    → IsLevel h (suc height) (level_above h nodes) leaves
level_is_above h height [] leaves level = level
level_is_above h height (a ∷ []) leaves level =
    let two : 2 ^ suc height ≡ 2 * 2 ^ height = pow-succ' 2 height in
    let none : length level.1 ≡ 0 = ap length level.7 in
    (level.0, level.1, level.2, level.3, level.4, omega (arith, level.5), λ some. absurd (omega arith), level.7)
level_is_above h height (a ∷ b ∷ nodes) leaves level =
    let two : 2 ^ suc height ≡ 2 * 2 ^ height = pow-succ' 2 height in
    let next : IsLevel h height (b ∷ nodes) level.1 = level.7 in
    let some : 1 ≤ length level.1 = some_of_level h height b nodes level.1 next in
    let full : length level.0 ≡ 2 ^ height = level.6 some in
    let front : List (List ℕ) = level.0 ++ next.0 in
    let len : length front ≡ length level.0 + length next.0 = length-append level.0 next.0 in
    let joined : tree_hash h front ≡ h (1 ∷ tree_hash h level.0 ++ tree_hash h next.0) =
    tree_hash_join h level.0 next.0 height full next.4 (omega (arith, next.5)) in (
      front,
      next.1,
      level.2 ∙ ap (λ (l : List (List ℕ)). level.0 ++ l) next.2 ∙ sym (append_assoc level.0 next.0 next.1),
      (λ i. h (1 ∷ level.3 i ++ next.3 i)) ∙ sym joined,
      omega (arith, next.4),
      omega (arith, next.5),
      λ more. omega (arith, next.6 more),
      level_is_above h height nodes next.1 next.7,
    )

-- no node, or the one of the top
pub root_of_none : (h : List ℕ → List ℕ) (height : ℕ) (nodes leaves : List (List ℕ)) → length nodes ≡ 0 → IsLevel h height nodes leaves → h [] ≡ tree_hash h leaves
root_of_none h height [] leaves e level = ap (tree_hash h) (sym level)
root_of_none h height (n ∷ ns) leaves e level = absurd (omega arith)

pub root_of_one : (h : List ℕ → List ℕ) (height : ℕ) (nodes leaves : List (List ℕ)) → length nodes ≡ 1 → IsLevel h height nodes leaves
    → slice_index_or nodes 0 [] ≡ tree_hash h leaves
root_of_one h height [] leaves e level = absurd (omega arith)
root_of_one h height (n ∷ []) leaves e level =
    let all : leaves ≡ level.0 = level.2 ∙ ap (λ (l : List (List ℕ)). level.0 ++ l) level.7 ∙ append-nil level.0 in
    level.3 ∙ ap (tree_hash h) (sym all)
root_of_one h height (n ∷ next ∷ ns) leaves e level = absurd (omega arith)

pub length-level_above : (h : List ℕ → List ℕ) (nodes : List (List ℕ)) → length (level_above h nodes) ≡ (length nodes + 1) / 2
length-level_above h [] = omega arith
length-level_above h (a ∷ []) = omega arith
length-level_above h (a ∷ b ∷ nodes) = omega (arith, length-level_above h nodes)

-- pairs at the front are joined by themselves
pub level_append : (h : List ℕ → List ℕ) (k : ℕ) (xs ys : List (List ℕ)) → length xs ≡ 2 * k → level_above h (xs ++ ys) ≡ level_above h xs ++ level_above h ys
level_append h k [] ys e = refl
level_append h k (a ∷ []) ys e = absurd (omega arith)
level_append h zero (a ∷ b ∷ xs) ys e = absurd (omega arith)
level_append h (suc k) (a ∷ b ∷ xs) ys e = ap (λ (l : List (List ℕ)). h (1 ∷ a ++ b) ∷ l) (level_append h k xs ys (omega arith))

-- eight more
pub eight_more : (h : List ℕ → List ℕ) (nodes above part now : List (List ℕ)) (done : ℕ) → done + 8 ≤ length nodes → part ≡ take 8 (drop done nodes)
    → now ≡ above ++ level_above h part → above ++ level_above h (drop done nodes) ≡ level_above h nodes
    → now ++ level_above h (drop (done + 8) nodes) ≡ level_above h nodes
eight_more h nodes above part now done fits ep en held =
    let rest : List (List ℕ) = drop done nodes in
    let lp : length part ≡ 8 = ap length ep ∙ length-take-le 8 rest (omega (arith, length-drop done nodes)) in
    let whole : part ++ drop 8 rest ≡ rest = ap (λ (l : List (List ℕ)). l ++ drop 8 rest) ep ∙ take-append-drop 8 rest in
    let split : level_above h rest ≡ level_above h part ++ level_above h (drop 8 rest) =
    ap (level_above h) (sym whole) ∙ level_append h 4 part (drop 8 rest) (omega arith) in
    ap (λ (l : List (List ℕ)). l ++ level_above h (drop (done + 8) nodes)) en
    ∙ append_assoc above (level_above h part) (level_above h (drop (done + 8) nodes))
    ∙ ap (λ (l : List (List ℕ)). above ++ (level_above h part ++ level_above h l)) (sym (drop-drop 8 done nodes))
    ∙ ap (λ (l : List (List ℕ)). above ++ l) (sym split) ∙ held

-- two more
pub two_more : (h : List ℕ → List ℕ) (nodes above now : List (List ℕ)) (done : ℕ) (node : List ℕ) → done + 2 ≤ length nodes
    → node ≡ h (1 ∷ slice_index_or nodes done [] ++ slice_index_or nodes (done + 1) [])
    → now ≡ above ++ node ∷ [] → above ++ level_above h (drop done nodes) ≡ level_above h nodes
    → now ++ level_above h (drop (done + 2) nodes) ≡ level_above h nodes
two_more h nodes above now done node fits e en held =
    let first : drop done nodes ≡ slice_index_or nodes done [] ∷ drop (done + 1) nodes = drop_more nodes done [] (omega arith) in
    let second : drop (done + 1) nodes ≡ slice_index_or nodes (done + 1) [] ∷ drop (done + 1 + 1) nodes = drop_more nodes (done + 1) [] (omega arith) in
    let both : drop done nodes ≡ slice_index_or nodes done [] ∷ slice_index_or nodes (done + 1) [] ∷ drop (done + 2) nodes =
    first ∙ ap (λ (l : List (List ℕ)). slice_index_or nodes done [] ∷ l) second
    ∙ ap (λ (k : ℕ). slice_index_or nodes done [] ∷ slice_index_or nodes (done + 1) [] ∷ drop k nodes) (omega arith) in
    let split : level_above h (drop done nodes) ≡ node ∷ level_above h (drop (done + 2) nodes) =
    ap (level_above h) both ∙ ap (λ (n : List ℕ). n ∷ level_above h (drop (done + 2) nodes)) (sym e) in
    ap (λ (l : List (List ℕ)). l ++ level_above h (drop (done + 2) nodes)) en
    ∙ append_assoc above (node ∷ []) (level_above h (drop (done + 2) nodes))
    ∙ ap (λ (l : List (List ℕ)). above ++ l) (sym split) ∙ held

-- a list of eight
pub eight_of : (xs : List (List ℕ)) → length xs ≡ 8
    → xs ≡ slice_index_or xs 0 [] ∷ slice_index_or xs 1 [] ∷ slice_index_or xs 2 [] ∷ slice_index_or xs 3 []
    ∷ slice_index_or xs 4 [] ∷ slice_index_or xs 5 [] ∷ slice_index_or xs 6 [] ∷ slice_index_or xs 7 [] ∷ []
eight_of [] e = absurd (omega arith)
eight_of (a ∷ []) e = absurd (omega arith)
eight_of (a ∷ b ∷ []) e = absurd (omega arith)
eight_of (a ∷ b ∷ c ∷ []) e = absurd (omega arith)
eight_of (a ∷ b ∷ c ∷ d ∷ []) e = absurd (omega arith)
eight_of (a ∷ b ∷ c ∷ d ∷ f ∷ []) e = absurd (omega arith)
eight_of (a ∷ b ∷ c ∷ d ∷ f ∷ g ∷ []) e = absurd (omega arith)
eight_of (a ∷ b ∷ c ∷ d ∷ f ∷ g ∷ i ∷ []) e = absurd (omega arith)
eight_of (a ∷ b ∷ c ∷ d ∷ f ∷ g ∷ i ∷ j ∷ []) e = refl
eight_of (a ∷ b ∷ c ∷ d ∷ f ∷ g ∷ i ∷ j ∷ k ∷ xs) e = absurd (omega arith)
