-- What is made of an image has a spelling.
use Rattle.std.proofs.Common.{◌≡◌, ◌≤◌, ◌<◌, ◌+◌, ◌-◌, ◌*◌, ◌^◌, ℕ, zero, suc, Bool, true, false, nat_lt, List, [], ◌∷◌, ◌++◌, length, map, take, drop, Some, None, refl, arith, sym, ◌∙◌, subst, lit<, length-take, length-drop, length-append}
use Rattle.std.specs.Prelude.{if◌then◌else◌}
use Rattle.std.specs.List.{AllByRecursion, slice_get}
use Rattle.std.proofs.Math.Nat.{pow-le-pow_right}
use Rattle.std.proofs.lemmas.Bool.{lt-ltb, ltb-true, ltb-false}
use Rattle.std.proofs.lemmas.List.{length-map}
use Rattle.format_entry.specs.Entry.{entry_bytes, IsEntry}
use Rattle.format_entry.specs.Record.{IsRecord}
use Rattle.sql_types.specs.declared.entry.TxEntry.{TxEntry}
use Rattle.sql_types.specs.declared.image.Image.{Image}
use Rattle.spec_ledger.specs.Blocks.{no_hash}
use Rattle.spec_verify.specs.ImageBytes.{IsImage}
use Rattle.base_merkle.specs.TreeHash.{split_of, tree_hash}
use Rattle.base_merkle.proofs.Split.{split_is}
use Rattle.spec_verify.specs.Blocks.{chain_fault, block_fault}
use Rattle.audit_extract.specs.Parts.{blocks_to}
use Rattle.audit_paths.specs.Path.{path_within}
use Rattle.audit_paths.proofs.Leading.{path_hashes}
use Rattle.format_receipt.specs.declared.receipt.Receipt.{Receipt}
use Rattle.format_receipt.specs.Receipts.{IsReceipt}
use Rattle.audit_receipt.specs.Made.{entry_of, part_at, receipt_of, IsMade}
use Rattle.audit_extract.proofs.Lists.{all_left, all_taken}
use Rattle.audit_receipt.proofs.Found.{HasBlock, block_at, block_fits, each_at, stands, all_heads}
use Rattle.audit_receipt.proofs.Finding.{found}

-- ---- a path of few leaves is short

-- both halves of at most 2 ^ (d + 1) leaves have at most 2 ^ d
record Half (n d : ℕ) : Type 0 where
  front : split_of n ≤ 2 ^ d
  back : n - split_of n ≤ 2 ^ d

half_by : (n d k height : ℕ) → n ≤ 2 ^ suc d → k ≡ 2 ^ height → k < n → n ≤ 2 * k → (b : Bool) → nat_lt d height ≡ b → (k ≤ 2 ^ d) × (n - k ≤ 2 ^ d)
half_by n d k height le power below double true t =
    let far : 2 ^ suc d ≤ 2 ^ height = pow-le-pow_right {n = 2} (lit< tt) (omega (arith, ltb-true d height t)) in
    absurd (omega (arith, far, power, below, le))
half_by n d k height le power below double false t =
    let near : 2 ^ height ≤ 2 ^ d = pow-le-pow_right {n = 2} (lit< tt) (ltb-false d height t) in
    (omega (arith, near, power), omega (arith, near, power, double))

half_of : (n d : ℕ) → 2 ≤ n → n ≤ 2 ^ suc d → Half n d
half_of n d more le =
    let s = split_is n more in
    let r = half_by n d (split_of n) s.height le s.power s.below s.double (nat_lt d s.height) refl in
    record { front = r.0; back = r.1 }

short_if : (few far : Bool) (p q : List (List ℕ)) (x y : List ℕ) (d : ℕ) → (few ≡ false → length p ≤ d) → (few ≡ false → length q ≤ d)
    → length (if few then [] else (if far then p ++ x ∷ [] else q ++ y ∷ [])) ≤ suc d
short_if true far p q x y d f g = omega arith
short_if false true p q x y d f g = let l = length-append p (x ∷ []) in omega (arith, l, f refl)
short_if false false p q x y d f g = let l = length-append q (y ∷ []) in omega (arith, l, g refl)

nothing_is : (d : ℕ) → 0 ≤ d
nothing_is d = omega arith

pub path_short : (h : List ℕ → List ℕ) (d n m : ℕ) (leaves : List (List ℕ)) → length leaves ≤ 2 ^ d → length (path_within h n m leaves) ≤ d
path_short h d zero m leaves le = nothing_is d
path_short h zero (suc n) m leaves le =
    let one : 2 ^ 0 ≡ 1 = refl in
    rw (lt-ltb (length leaves) 2 (omega (arith, le, one))) (nothing_is 0)
path_short h (suc d) (suc n) m leaves le =
    let k = split_of (length leaves) in
    short_if (nat_lt (length leaves) 2) (nat_lt m k) (path_within h n m (take k leaves)) (path_within h n (m - k) (drop k leaves)) (tree_hash h (drop k leaves)) (tree_hash h (take k leaves)) d
    (λ t. let half = half_of (length leaves) d (ltb-false (length leaves) 2 t) le in
    let l = length-take k leaves in
    path_short h d n m (take k leaves) (omega (arith, l, half.front)))
    (λ t. let half = half_of (length leaves) d (ltb-false (length leaves) 2 t) le in
    let l = length-drop k leaves in
    path_short h d n (m - k) (drop k leaves) (omega (arith, l, half.back)))

module _ (h : List ℕ → List ℕ) (i : Image) (is : IsImage i) (chain : chain_fault h i ≡ None) (blocks : block_fault h i ≡ None) where
  records_fit : (b j : ℕ) → AllByRecursion IsRecord (drop j (blocks_to i b))
  records_fit b j = all_left IsRecord j (blocks_to i b) (all_taken IsRecord (b + 1) i.blocks is.blocks)

  records_count : (b j : ℕ) → j ≤ b → b < length i.blocks → length (drop j (blocks_to i b)) ≡ b + 1 - j
  records_count b j le lt =
      let t = length-take (b + 1) i.blocks in
      let l = length-drop j (blocks_to i b) in
      omega (arith, le, lt, t, l)

  pub part_fits_at : (j : ℕ) → j < length i.blocks → AllByRecursion IsEntry (part_at i.blocks i.entries j)
  part_fits_at j lt = block_fits h 0 no_hash i.blocks i.entries (all_heads h i is chain blocks) (let few = is.block_count in omega (arith, few)) is.entries j lt

  pub receipt_has_spelling : ((bytes : List ℕ) → length (h bytes) ≡ 32) → (b k : ℕ) (e : TxEntry) → b < length i.blocks → slice_get i.entries k ≡ Some e → e.block ≤ b → IsReceipt (receipt_of h i e b)
  receipt_has_spelling sized b k e lt at le =
      let all = all_heads h i is chain blocks in
      let s = stands 0 i.blocks i.entries is.places k e at (omega (arith, le, lt)) in
      let zero_is : 0 + s.j ≡ s.j = omega arith in
      let part : List TxEntry = part_at i.blocks i.entries e.block in
      let there : slice_get part e.ordinal ≡ Some e = subst (λ (j : ℕ). slice_get (part_at i.blocks i.entries j) e.ordinal ≡ Some e) (sym (s.block ∙ zero_is)) s.there in
      let fits : AllByRecursion IsEntry part = part_fits_at e.block (omega (arith, le, lt)) in
      let block : HasBlock h i.blocks i.entries e.block = block_at h 0 no_hash i.blocks i.entries all e.block (omega (arith, le, lt)) in
      let count : length (map entry_bytes part) ≡ block.first.size = length-map part entry_bytes ∙ block.size in
      let size = block.few in
      let most : 2 ^ 17 ≡ 131072 = refl in
      let records = records_count b e.block le lt in
      let blocks_few = is.block_count in
      record {
        database = is.database;
        entry = each_at IsEntry part e.ordinal e fits there;
        few = path_short h 17 (length (map entry_bytes part)) e.ordinal (map entry_bytes part) (omega (arith, count, size, most));
        path = path_hashes h sized (length (map entry_bytes part)) e.ordinal (map entry_bytes part);
        some = omega (arith, records, le);
        count = omega (arith, records, lt, blocks_few);
        records = records_fit b e.block;
      }

  -- what is made is the receipt
  pub is_made : ((bytes : List ℕ) → length (h bytes) ≡ 32) → (tx b : ℕ) (e : TxEntry) (r : Receipt) → b < length i.blocks → entry_of tx b i.entries ≡ Some e → r ≡ receipt_of h i e b → IsMade h i tx b r
  is_made sized tx b e r lt at same =
      let f = found i.entries tx b e at in
      record {
        place = f.place;
        entry = e;
        first = at;
        there = f.there;
        of = f.of;
        within = f.within;
        is = same;
        spelled = subst IsReceipt (sym same) (receipt_has_spelling sized b f.place e lt f.there f.within);
      }
