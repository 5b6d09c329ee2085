-- Nodes of trees, and what is hashed there.
use Rattle.std.proofs.Common.{◌≡◌, ◌∙◌, ◌+◌, ℕ, zero, suc, Bool, List, [], ◌∷◌, ◌++◌, map, take, drop, refl, sym, ap, subst, inr, arith, Some}
use Rattle.std.specs.Prelude.{IfOk, Result, Ok, Err, IsSorted, slice_get}
use Rattle.std.specs.List.{sum_by}
use Rattle.std.specs.List.Sorted.{IsStable}
use Rattle.std.proofs.lemmas.List.{drop-drop}
use Rattle.std.proofs.lemmas.List.Sums.{sum_by-cons}
use Rattle.base_types.specs.declared.memory.Memory.{Memory}
use Rattle.format_image.specs.ImageBytes.{IsImage}
use Rattle.format_image.specs.Tables.{tables_in}
use Rattle.format_entry.specs.Entry.{entry_bytes}
use Rattle.sql_types.specs.declared.entry.BlockRecord.{BlockRecord}
use Rattle.sql_types.specs.declared.entry.TxEntry.{TxEntry}
use Rattle.sql_types.specs.declared.image.Image.{Image}
use Rattle.spec_verify.specs.Blocks.{entries_before}
use Rattle.audit_extract.specs.declared.found.Collision.{Collision}
use Rattle.audit_extract.specs.declared.found.ImageComparison.{ImageComparison}
use Rattle.audit_extract.specs.declared.found.ImageComparison.TheVariants as found
use Rattle.audit_extract.specs.declared.leaves.Leaf.{Leaf}
use Rattle.audit_extract.specs.Hashed.{half, hashed, under}
use Rattle.audit_extract.specs.Leaves.{Group, all_leaves, leaf_cmp, tree_of}
use Rattle.audit_extract.specs.Parts.{blocks_to}
use Rattle.audit_extract.specs.Strings.{AreAtNode, AreHashed, AreOfEntries, AreOfEvents, OfCollision}
use Rattle.audit_extract.proofs.ImageLeaves.{found_leaves}

under_more : (path : List Bool) (side : Bool) (leaves : List (List ℕ)) → half side (under path leaves) ≡ under (path ++ side ∷ []) leaves
under_more [] side leaves = refl
under_more (first ∷ path) side leaves = under_more path side (half first leaves)

-- two lists of leaves are those under one node of two trees
pub record Under (a b x y : List (List ℕ)) : Type 0 where
  pub path : List Bool
  pub is_x : x ≡ under path a
  pub is_y : y ≡ under path b

pub whole : (a b : List (List ℕ)) → Under a b a b
whole a b = record { path = []; is_x = refl; is_y = refl }

pub further : (a b x y p q : List (List ℕ)) (side : Bool) → Under a b x y → p ≡ half side x → q ≡ half side y → Under a b p q
further a b x y p q side u p_is q_is = record {
  path = u.path ++ side ∷ [];
  is_x = p_is ∙ ap (half side) u.is_x ∙ under_more u.path side a;
  is_y = q_is ∙ ap (half side) u.is_y ∙ under_more u.path side b;
}

pub at_node : (h : List ℕ → List ℕ) (a b x y : List (List ℕ)) (c : Collision) → Under a b x y → (c.first ≡ hashed h x) × (c.second ≡ hashed h y) → AreAtNode h a b c
at_node h a b x y c u is = record {
  path = u.path;
  first = is.0 ∙ ap (hashed h) u.is_x;
  second = is.1 ∙ ap (hashed h) u.is_y;
}

-- the same of leaves that are equal to these
pub same_trees : (h : List ℕ → List ℕ) (a b x y : List (List ℕ)) (c : Collision) → a ≡ x → b ≡ y → AreAtNode h a b c → AreAtNode h x y c
same_trees h a b x y c is_x is_y n =
    subst (λ (t : List (List ℕ)). AreAtNode h x t c) is_y (subst (λ (t : List (List ℕ)). AreAtNode h t b c) is_x n)

-- ---- places

pub get_of_drop : {A : Type 0} (k : ℕ) (xs : List A) (x : A) (more : List A) → drop k xs ≡ x ∷ more → slice_get xs k ≡ Some x
get_of_drop zero [] x more e = absurd cc
get_of_drop zero (y ∷ ys) x more e = cc
get_of_drop (suc k) [] x more e = absurd cc
get_of_drop (suc k) (y ∷ ys) x more e = get_of_drop k ys x more e

get_of_taken : {A : Type 0} (n k : ℕ) (xs : List A) (x : A) → slice_get (take n xs) k ≡ Some x → slice_get xs k ≡ Some x
get_of_taken zero k xs x e = absurd cc
get_of_taken (suc n) k [] x e = e
get_of_taken (suc n) zero (y ∷ ys) x e = e
get_of_taken (suc n) (suc k) (y ∷ ys) x e = get_of_taken n k ys x e

sum_next : (f : BlockRecord → ℕ) (k : ℕ) (rs : List BlockRecord) (r : BlockRecord) → slice_get rs k ≡ Some r → sum_by f (take (suc k) rs) ≡ sum_by f (take k rs) + f r
sum_next f k [] r e = absurd cc
sum_next f zero (x ∷ rs) r e =
    let same : x ≡ r = cc in
    let one = sum_by-cons f x [] in
    let size : f x ≡ f r = ap f same in
    omega (arith, one, size)
sum_next f (suc k) (x ∷ rs) r e =
    let one = sum_by-cons f x (take (suc k) rs) in
    let two = sum_by-cons f x (take k rs) in
    let rest = sum_next f k rs r e in
    omega (arith, one, two, rest)

-- ---- the walk through the blocks

-- behind so many blocks, which are the same in both images, these are left of them and of the entries
pub record BehindBlocks (i j : Image) (b : ℕ) (rest : List BlockRecord) (x y : List TxEntry) : Type 0 where
  pub number : ℕ
  pub same : blocks_to i b ≡ blocks_to j b
  pub rest_is : rest ≡ drop number (blocks_to i b)
  pub x_is : x ≡ drop (entries_before i number) i.entries
  pub y_is : y ≡ drop (entries_before j number) j.entries

pub behind_none : (i j : Image) (b : ℕ) (rest : List BlockRecord) (x y : List TxEntry) → blocks_to i b ≡ blocks_to j b → rest ≡ blocks_to i b → x ≡ i.entries → y ≡ j.entries → BehindBlocks i j b rest x y
behind_none i j b rest x y same rest_is x_is y_is = record { number = 0; same = same; rest_is = rest_is; x_is = x_is; y_is = y_is }

entries_next : (i : Image) (k : ℕ) (r : BlockRecord) → slice_get i.blocks k ≡ Some r → entries_before i k + r.size ≡ entries_before i (k + 1)
entries_next i k r is =
    let next : k + 1 ≡ suc k = omega arith in
    sym (ap (entries_before i) next ∙ sum_next (λ (s : BlockRecord). s.size) k i.blocks r is)

module _ (i j : Image) (b : ℕ) (r : BlockRecord) (rest more : List BlockRecord) (x y : List TxEntry) (is : rest ≡ r ∷ more) (left : BehindBlocks i j b rest x y) where
  here_i : slice_get i.blocks left.number ≡ Some r
  here_i = get_of_taken (b + 1) left.number i.blocks r (get_of_drop left.number (blocks_to i b) r more (sym left.rest_is ∙ is))

  here_j : slice_get j.blocks left.number ≡ Some r
  here_j = get_of_taken (b + 1) left.number j.blocks r
      (get_of_drop left.number (blocks_to j b) r more (ap (drop left.number) (sym left.same) ∙ sym left.rest_is ∙ is))

  pub behind_next : (p q : List TxEntry) → p ≡ drop r.size x → q ≡ drop r.size y → BehindBlocks i j b more p q
  behind_next p q p_is q_is = record {
    number = left.number + 1;
    same = left.same;
    rest_is = ap (drop 1) (sym is ∙ left.rest_is) ∙ drop-drop 1 left.number (blocks_to i b);
    x_is = p_is ∙ ap (drop r.size) left.x_is ∙ drop-drop r.size (entries_before i left.number) i.entries
        ∙ ap (λ n. drop n i.entries) (entries_next i left.number r here_i);
    y_is = q_is ∙ ap (drop r.size) left.y_is ∙ drop-drop r.size (entries_before j left.number) j.entries
        ∙ ap (λ n. drop n j.entries) (entries_next j left.number r here_j);
  }

  pub in_this_block : (h : List ℕ → List ℕ) (p q : List TxEntry) (c : Collision) → p ≡ take r.size x → q ≡ take r.size y
      → AreAtNode h (map entry_bytes p) (map entry_bytes q) c → AreOfEntries h i j c
  in_this_block h p q c p_is q_is nodes = record {
    block = left.number;
    record_of = r;
    there = here_i;
    nodes = same_trees h _ _ _ _ c
        (ap (map entry_bytes) (p_is ∙ ap (take r.size) left.x_is)) (ap (map entry_bytes) (q_is ∙ ap (take r.size) left.y_is)) nodes;
  }

-- ---- the leaves of images

abbrev InSomeTree : (List ℕ → List ℕ) → List Leaf → List Leaf → Collision → Type 0
InSomeTree h a b c = (group : Group) × AreAtNode h (tree_of a group) (tree_of b group) c

pub of_events : (h : List ℕ → List ℕ) (i j : Image) (ya yb za zb : List Leaf) (r : Result ImageComparison Memory) → IsImage i → IsImage j
    → IsSorted leaf_cmp ya → IsStable leaf_cmp (all_leaves (tables_in i)) ya → IsSorted leaf_cmp yb → IsStable leaf_cmp (all_leaves (tables_in j)) yb
    → za ≡ ya → zb ≡ yb
    → IfOk r (OfCollision (InSomeTree h za zb)) → IfOk r (OfCollision (AreOfEvents h i j))
of_events h i j ya yb za zb (Ok found.Same) is_i is_j up_a stable_a up_b stable_b a_is b_is f = tt
of_events h i j ya yb za zb (Ok (found.Collision c)) is_i is_j up_a stable_a up_b stable_b a_is b_is f = record {
  tx = f.0.0;
  table = f.0.1;
  nodes = same_trees h _ _ _ _ c
      (found_leaves i ya f.0.0 f.0.1 (tree_of za f.0) is_i up_a stable_a (ap (λ l. tree_of l f.0) a_is))
      (found_leaves j yb f.0.0 f.0.1 (tree_of zb f.0) is_j up_b stable_b (ap (λ l. tree_of l f.0) b_is)) f.1;
}
of_events h i j ya yb za zb (Err e) is_i is_j up_a stable_a up_b stable_b a_is b_is f = tt

pub events_hashed : (h : List ℕ → List ℕ) (i j : Image) (r : Result ImageComparison Memory) → IfOk r (OfCollision (AreOfEvents h i j)) → IfOk r (OfCollision (AreHashed h i j))
events_hashed h i j (Ok found.Same) f = tt
events_hashed h i j (Ok (found.Collision c)) f = inr (inr f)
events_hashed h i j (Err e) f = tt
