-- What two images agree in that agree in what a digest covers.
use Rattle.std.proofs.Common.{◌≡◌, ◌≤◌, ◌+◌, ℕ, List, length, map, take, arith, sym, ◌∙◌, ap, subst, length-take}
use Rattle.std.specs.Prelude.{IfOk, Result, Ok, Err, IsSorted}
use Rattle.std.specs.List.{AllByRecursion}
use Rattle.std.specs.List.Sorted.{IsStable}
use Rattle.base_types.specs.declared.memory.Memory.{Memory}
use Rattle.sql_types.specs.declared.digest.HeldDigest.{HeldDigest}
use Rattle.sql_types.specs.declared.entry.TxEntry.{TxEntry}
use Rattle.sql_types.specs.declared.image.Image.{Image}
use Rattle.spec_ledger.specs.Blocks.{no_hash}
use Rattle.format_image.specs.Tables.{tables_in}
use Rattle.spec_verify.specs.Blocks.{entries_before}
use Rattle.spec_verify.specs.Covered.{covered_entry, covered_of, entries_upto}
use Rattle.audit_extract.specs.declared.found.ImageComparison.{ImageComparison}
use Rattle.audit_extract.specs.declared.found.ImageComparison.TheVariants as found
use Rattle.audit_extract.specs.declared.leaves.Leaf.{Leaf}
use Rattle.audit_extract.specs.Finds.{Finds}
use Rattle.audit_extract.specs.Leaves.{HasRoots, SameTrees, all_leaves, leaf_cmp}
use Rattle.audit_extract.specs.Meets.{Meets}
use Rattle.audit_extract.specs.Parts.{blocks_to}
use Rattle.audit_extract.proofs.Agreeing.{Injective, RootsOf, all_covered, all_have, all_trees, entries_back}
use Rattle.audit_extract.proofs.Lists.{all_taken}
use Rattle.audit_extract.proofs.Heads.{enough, heads, records_back, sizes, sizes_are}
use Rattle.audit_extract.proofs.ImageLeaves.{all_found, image_fits}
use Rattle.audit_extract.proofs.Linked.{digested}
use Rattle.audit_extract.proofs.Rooted.{all_rooted}

pub entries_rooted : (h : List ℕ → List ℕ) (i : Image) (d : HeldDigest) → Meets h i d → AllByRecursion (RootsOf h (tables_in i) (tables_in i) (tables_in i)) (entries_upto i d.block)
entries_rooted h i d m = all_taken _ (entries_before i (d.block + 1)) i.entries (all_rooted h i m.image m.roots)

pub entries_same : (h : List ℕ → List ℕ) (i j : Image) (d : HeldDigest) → Meets h i d → Meets h j d → covered_of i d.block ≡ covered_of j d.block → entries_upto i d.block ≡ entries_upto j d.block
unfolding covered_of
entries_same h i j d m n e = entries_back h (tables_in i) (tables_in j) (entries_upto i d.block) (entries_upto j d.block) (entries_rooted h i d m) (entries_rooted h j d n) e

pub blocks_same : (h : List ℕ → List ℕ) (i j : Image) (d : HeldDigest) → Meets h i d → Meets h j d → covered_of i d.block ≡ covered_of j d.block → blocks_to i d.block ≡ blocks_to j d.block
blocks_same h i j d m n e =
    let p = (digested h i d m).within in
    let q = (digested h j d n).within in
    let x = length-take (d.block + 1) i.blocks in
    let y = length-take (d.block + 1) j.blocks in
    let one : take (sizes (blocks_to i d.block)) i.entries ≡ entries_upto i d.block = ap (λ (k : ℕ). take k i.entries) (sym (sizes_are (blocks_to i d.block))) in
    let two : take (sizes (blocks_to j d.block)) j.entries ≡ entries_upto j d.block = ap (λ (k : ℕ). take k j.entries) (sym (sizes_are (blocks_to j d.block))) in
    records_back h 0 no_hash (blocks_to i d.block) (blocks_to j d.block) i.entries j.entries (omega arith)
    (heads h i m.image m.chain m.blocks (d.block + 1)) (heads h j n.image n.chain n.blocks (d.block + 1)) (one ∙ entries_same h i j d m n e ∙ sym two)

-- the entries of the blocks that a digest covers are there
pub entries_there : (h : List ℕ → List ℕ) (i : Image) (d : HeldDigest) → Meets h i d → entries_before i (d.block + 1) ≤ length i.entries
entries_there h i d m =
    let few = enough h 0 no_hash (blocks_to i d.block) i.entries (heads h i m.image m.chain m.blocks (d.block + 1)) in
    let count : entries_before i (d.block + 1) ≡ sizes (blocks_to i d.block) = sizes_are (blocks_to i d.block) in
    omega arith

-- ---- leaves

pub have_roots : (h : List ℕ → List ℕ) (i : Image) (d : HeldDigest) (ys : List Leaf) (es : List TxEntry) → Meets h i d → IsSorted leaf_cmp ys → IsStable leaf_cmp (all_leaves (tables_in i)) ys → es ≡ entries_upto i d.block
    → AllByRecursion (HasRoots h ys) es
have_roots h i d ys es m up stable is =
    subst (AllByRecursion (HasRoots h ys)) (sym is)
    (all_have h (tables_in i) (tables_in i) ys (all_found i ys m.image up stable) (entries_upto i d.block) (entries_rooted h i d m))

-- what the search through the trees answers, in terms of what is covered
pub covered_found : (h : List ℕ → List ℕ) (i j : Image) (d : HeldDigest) (ya yb : List Leaf) (es : List TxEntry) (r : Result ImageComparison Memory) → Injective → Meets h i d → Meets h j d
    → IsSorted leaf_cmp ya → IsStable leaf_cmp (all_leaves (tables_in i)) ya → IsSorted leaf_cmp yb → IsStable leaf_cmp (all_leaves (tables_in j)) yb
    → es ≡ entries_upto i d.block → entries_upto i d.block ≡ entries_upto j d.block
    → IfOk r (Finds h (AllByRecursion (SameTrees ya yb) es)) → IfOk r (Finds h (covered_of i d.block ≡ covered_of j d.block))
unfolding covered_of
covered_found h i j d ya yb es r one m n up_a stable_a up_b stable_b is same answer = by r answer
  where
    roots_a : AllByRecursion (RootsOf h (tables_in i) (tables_in j) (tables_in i)) (entries_upto i d.block)
    roots_a = entries_rooted h i d m

    roots_b : AllByRecursion (RootsOf h (tables_in i) (tables_in j) (tables_in j)) (entries_upto i d.block)
    roots_b = subst (AllByRecursion (RootsOf h (tables_in i) (tables_in j) (tables_in j))) (sym same) (entries_rooted h j d n)

    agree : AllByRecursion (SameTrees ya yb) es → map (covered_entry (tables_in i)) (entries_upto i d.block) ≡ map (covered_entry (tables_in j)) (entries_upto j d.block)
    agree trees =
        all_covered h (tables_in i) (tables_in j) ya yb (all_found i ya m.image up_a stable_a) (all_found j yb n.image up_b stable_b) one (λ tx. image_fits tx i m.image) (λ tx. image_fits tx j n.image)
        (entries_upto i d.block) roots_a roots_b (subst (AllByRecursion (SameTrees ya yb)) is trees)
        ∙ ap (map (covered_entry (tables_in j))) same

    back : map (covered_entry (tables_in i)) (entries_upto i d.block) ≡ map (covered_entry (tables_in j)) (entries_upto j d.block) → AllByRecursion (SameTrees ya yb) es
    back e =
        subst (AllByRecursion (SameTrees ya yb)) (sym is)
        (all_trees h (tables_in i) (tables_in j) ya yb (all_found i ya m.image up_a stable_a) (all_found j yb n.image up_b stable_b) (entries_upto i d.block) roots_a
        (e ∙ ap (map (covered_entry (tables_in j))) (sym same)))

    by : (r : Result ImageComparison Memory) → IfOk r (Finds h (AllByRecursion (SameTrees ya yb) es)) → IfOk r (Finds h (map (covered_entry (tables_in i)) (entries_upto i d.block) ≡ map (covered_entry (tables_in j)) (entries_upto j d.block)))
    by (Ok found.Same) f = agree f
    by (Ok (found.Collision c)) f = ((λ e. f.0 (back e)), f.1)
    by (Err x) f = tt

-- the same of slices of the leaves
pub roots_at : (h : List ℕ → List ℕ) (i : Image) (d : HeldDigest) (ys zs : List Leaf) (es : List TxEntry) → Meets h i d → IsSorted leaf_cmp ys → IsStable leaf_cmp (all_leaves (tables_in i)) ys → zs ≡ ys → es ≡ entries_upto i d.block
    → AllByRecursion (HasRoots h zs) es
roots_at h i d ys zs es m up stable zs_is es_is = subst (λ (l : List Leaf). AllByRecursion (HasRoots h l) es) (sym zs_is) (have_roots h i d ys es m up stable es_is)

pub sorted_at : (ys zs : List Leaf) → IsSorted leaf_cmp ys → zs ≡ ys → IsSorted leaf_cmp zs
sorted_at ys zs up is = subst (IsSorted leaf_cmp) (sym is) up

pub covered_at : (h : List ℕ → List ℕ) (i j : Image) (d : HeldDigest) (ya yb za zb : List Leaf) (es : List TxEntry) (r : Result ImageComparison Memory) → Injective → Meets h i d → Meets h j d
    → IsSorted leaf_cmp ya → IsStable leaf_cmp (all_leaves (tables_in i)) ya → IsSorted leaf_cmp yb → IsStable leaf_cmp (all_leaves (tables_in j)) yb
    → za ≡ ya → zb ≡ yb → es ≡ entries_upto i d.block → entries_upto i d.block ≡ entries_upto j d.block
    → IfOk r (Finds h (AllByRecursion (SameTrees za zb) es)) → IfOk r (Finds h (covered_of i d.block ≡ covered_of j d.block))
covered_at h i j d ya yb za zb es r one m n up_a stable_a up_b stable_b a_is b_is is same answer =
    covered_found h i j d za zb es r one m n
    (sorted_at ya za up_a a_is) (subst (IsStable leaf_cmp (all_leaves (tables_in i))) (sym a_is) stable_a)
    (sorted_at yb zb up_b b_is) (subst (IsStable leaf_cmp (all_leaves (tables_in j))) (sym b_is) stable_b) is same answer
