-- An entry of an image stands at its place in its block.
use Rattle.std.proofs.Common.{◌≡◌, ◌≤◌, ◌<◌, ◌+◌, ◌-◌, ◌^◌, ℕ, zero, suc, Bool, true, false, nat_lt, List, [], ◌∷◌, ◌++◌, length, map, take, drop, Some, None, refl, arith, sym, ◌∙◌, ap, subst, length-take}
use Rattle.std.specs.List.{AllByRecursion, slice_get}
use Rattle.std.proofs.lemmas.Bool.{ltb-true, ltb-false}
use Rattle.std.proofs.lemmas.List.{take-append-drop, take_all}
use Rattle.base_fields.proofs.Fronts.{fronts}
use Rattle.format_entry.specs.Entry.{entry_bytes, IsEntry}
use Rattle.base_merkle.specs.TreeHash.{tree_hash}
use Rattle.sql_types.specs.declared.entry.BlockRecord.{BlockRecord}
use Rattle.sql_types.specs.declared.entry.TxEntry.{TxEntry}
use Rattle.sql_types.specs.declared.image.Image.{Image}
use Rattle.spec_model.specs.Limits.{max_block}
use Rattle.spec_ledger.specs.Blocks.{no_hash, block_of, record_hash}
use Rattle.spec_ledger.specs.Entries.{placed}
use Rattle.spec_ledger.specs.Parts.{by_sizes, IsBlockOf}
use Rattle.spec_verify.specs.ImageBytes.{IsImage, IsPlaceless, sizes_of}
use Rattle.spec_verify.specs.Blocks.{chain_fault, block_fault}
use Rattle.audit_extract.proofs.Heads.{Heads, heads, length_placed}
use Rattle.audit_extract.proofs.Lists.{all_taken, all_left}
use Rattle.audit_extract.proofs.Parted.{placed_fit}
use Rattle.audit_receipt.specs.Accepted.{KeepsHashOf, AreLinked}
use Rattle.audit_receipt.specs.Made.{part_at}

-- ---- lists

in_front : (xs ys : List TxEntry) (k : ℕ) → k < length xs → slice_get (xs ++ ys) k ≡ slice_get xs k
in_front [] ys k lt = absurd (omega (arith, lt))
in_front (x ∷ xs) ys zero lt = refl
in_front (x ∷ xs) ys (suc k) lt = in_front xs ys k (omega (arith, lt))

behind : (xs ys : List TxEntry) (k : ℕ) → length xs ≤ k → slice_get (xs ++ ys) k ≡ slice_get ys (k - length xs)
behind [] ys k le = let same : k ≡ k - 0 = omega arith in ap (slice_get ys) same
behind (x ∷ xs) ys zero le = absurd (omega (arith, le))
behind (x ∷ xs) ys (suc k) le = let same : k - length xs ≡ suc k - suc (length xs) = omega arith in behind xs ys k (omega (arith, le)) ∙ ap (slice_get ys) same

-- ---- places

-- the item at place k of entries that are placed from ordinal o on
pub record IsPlaced (n o : ℕ) (e : TxEntry) : Type 0 where
  pub block : e.block ≡ n
  pub ordinal : e.ordinal ≡ o

placed_at : (n o k : ℕ) (es : List TxEntry) (e : TxEntry) → slice_get (placed n o es) k ≡ Some e → IsPlaced n (o + k) e
placed_at n o k [] e at = cc
placed_at n o zero (x ∷ es) e at =
    let same : o ≡ o + 0 = omega arith in
    let block : n ≡ e.block = cc in
    let ordinal : o ≡ e.ordinal = cc in
    record { block = sym block; ordinal = sym ordinal ∙ same }
placed_at n o (suc k) (x ∷ es) e at =
    let same : o + 1 + k ≡ o + suc k = omega arith in
    subst (λ (m : ℕ). IsPlaced n m e) same (placed_at n (o + 1) k es e at)

-- ---- entries at their places have a spelling

pub each_at : {A : Type 0} (P : A → Type 0) (xs : List A) (k : ℕ) (x : A) → AllByRecursion P xs → slice_get xs k ≡ Some x → P x
each_at P [] k x all e = cc
each_at P (y ∷ ys) zero x all e = let same : y ≡ x = cc in subst P same all.0
each_at P (y ∷ ys) (suc k) x all e = each_at P ys k x all.1 e

parts_at : (n k : ℕ) (ks : List ℕ) (xs : List TxEntry) → xs ≡ by_sizes n (k ∷ ks) xs → (take k xs ≡ placed n 0 (take k xs)) × (drop k xs ≡ by_sizes (n + 1) ks (drop k xs))
parts_at n k ks xs e =
    fronts (take k xs) (placed n 0 (take k xs)) (drop k xs) (by_sizes (n + 1) ks (drop k xs)) (sym (length_placed n 0 (take k xs))) (take-append-drop k xs ∙ e)

module _ (h : List ℕ → List ℕ) where
  -- ---- records are linked

  keeps_next : (n : ℕ) (r : BlockRecord) (rs : List BlockRecord) (xs : List TxEntry) → Heads h n (record_hash h r) rs xs → KeepsHashOf h r rs
  unfolding Heads block_of
  keeps_next n r [] xs heads = tt
  keeps_next n r (s ∷ rs) xs heads = ap (λ (x : BlockRecord). x.previous) heads.1.0.is

  pub heads_linked : (n : ℕ) (previous : List ℕ) (rs : List BlockRecord) (xs : List TxEntry) → Heads h n previous rs xs → AreLinked h n rs
  unfolding Heads block_of
  heads_linked n previous [] xs heads = tt
  heads_linked n previous (r ∷ rs) xs heads = (ap (λ (x : BlockRecord). x.id) heads.1.0.is, keeps_next (n + 1) r rs (drop r.size xs) heads.1.1, heads_linked (n + 1) (record_hash h r) rs (drop r.size xs) heads.1.1)

  -- ---- the block with a number, and its entries

  pub record HasBlock (rs : List BlockRecord) (xs : List TxEntry) (j : ℕ) : Type 0 where
    pub first : BlockRecord
    pub more : List BlockRecord
    pub at : drop j rs ≡ first ∷ more
    pub few : first.size ≤ max_block
    pub size : length (part_at rs xs j) ≡ first.size
    pub root : first.root ≡ tree_hash h (map entry_bytes (part_at rs xs j))

  pub block_at : (n : ℕ) (previous : List ℕ) (rs : List BlockRecord) (xs : List TxEntry) → Heads h n previous rs xs → (j : ℕ) → j < length rs → HasBlock rs xs j
  unfolding Heads block_of
  block_at n previous [] xs heads j lt = absurd (omega (arith, lt))
  block_at n previous (r ∷ rs) xs heads zero lt =
      let l = length-take r.size xs in
      record {
        first = r;
        more = rs;
        at = refl;
        few = heads.0.1;
        size = omega (arith, l, heads.0.0);
        root = ap (λ (x : BlockRecord). x.root) heads.1.0.is;
      }
  block_at n previous (r ∷ rs) xs heads (suc j) lt =
      let b = block_at (n + 1) (record_hash h r) rs (drop r.size xs) heads.1.1 j (omega (arith, lt)) in
      record { first = b.first; more = b.more; at = b.at; few = b.few; size = b.size; root = b.root }

  part_fits : (n : ℕ) (previous : List ℕ) (r : BlockRecord) (xs : List TxEntry) → n < 2 ^ 64 → r.size ≤ max_block → AllByRecursion IsPlaceless xs → IsBlockOf h n previous r (take r.size xs)
      → AllByRecursion IsEntry (take r.size xs)
  part_fits n previous r xs small few fits is =
      let l = length-take r.size xs in
      subst (AllByRecursion IsEntry) (sym is.places) (placed_fit n 0 (take r.size xs) small (omega (arith, few, l)) (all_taken IsPlaceless r.size xs fits))

  pub block_fits : (n : ℕ) (previous : List ℕ) (rs : List BlockRecord) (xs : List TxEntry) → Heads h n previous rs xs → n + length rs ≤ 2 ^ 64 → AllByRecursion IsPlaceless xs
      → (j : ℕ) → j < length rs → AllByRecursion IsEntry (part_at rs xs j)
  unfolding Heads
  block_fits n previous [] xs heads small fits j lt = absurd (omega (arith, lt))
  block_fits n previous (r ∷ rs) xs heads small fits zero lt = part_fits n previous r xs (omega (arith, small)) heads.0.1 fits heads.1.0
  block_fits n previous (r ∷ rs) xs heads small fits (suc j) lt =
      block_fits (n + 1) (record_hash h r) rs (drop r.size xs) heads.1.1 (omega (arith, small)) (all_left IsPlaceless r.size xs fits) j (omega (arith, lt))

  -- ---- of an image

  pub all_heads : (i : Image) → IsImage i → chain_fault h i ≡ None → block_fault h i ≡ None → Heads h 0 no_hash i.blocks i.entries
  all_heads i is chain blocks = subst (λ (rs : List BlockRecord). Heads h 0 no_hash rs i.entries) (take_all (length i.blocks) i.blocks (omega arith)) (heads h i is chain blocks (length i.blocks))

-- ---- an entry that is in a block

pub record Stands (n : ℕ) (rs : List BlockRecord) (xs : List TxEntry) (e : TxEntry) : Type 0 where
  pub j : ℕ
  pub block : e.block ≡ n + j
  pub there : slice_get (part_at rs xs j) e.ordinal ≡ Some e

stands_first : (n : ℕ) (r : BlockRecord) (rs : List BlockRecord) (xs : List TxEntry) (k : ℕ) (e : TxEntry) → take r.size xs ≡ placed n 0 (take r.size xs)
    → slice_get (take r.size xs) k ≡ Some e → Stands n (r ∷ rs) xs e
stands_first n r rs xs k e places at =
    let is = placed_at n 0 k (take r.size xs) e (ap (λ (l : List TxEntry). slice_get l k) (sym places) ∙ at) in
    let zero_is : n ≡ n + 0 = omega arith in
    let same : 0 + k ≡ k = omega arith in
    record {
      j = 0;
      block = is.block ∙ zero_is;
      there = subst (λ (m : ℕ). slice_get (take r.size xs) m ≡ Some e) (sym (is.ordinal ∙ same)) at;
    }

stands_next : (n : ℕ) (r : BlockRecord) (rs : List BlockRecord) (xs : List TxEntry) (e : TxEntry) → Stands (n + 1) rs (drop r.size xs) e → Stands n (r ∷ rs) xs e
stands_next n r rs xs e s = let same : n + 1 + s.j ≡ n + suc s.j = omega arith in record { j = suc s.j; block = s.block ∙ same; there = s.there }

stands_by : (n : ℕ) (r : BlockRecord) (rs : List BlockRecord) (xs : List TxEntry) (k : ℕ) (e : TxEntry) → take r.size xs ≡ placed n 0 (take r.size xs) → slice_get xs k ≡ Some e
    → ((j : ℕ) → slice_get (drop r.size xs) j ≡ Some e → Stands (n + 1) rs (drop r.size xs) e) → (b : Bool) → nat_lt k (length (take r.size xs)) ≡ b → Stands n (r ∷ rs) xs e
stands_by n r rs xs k e places at next true t =
    let whole : slice_get (take r.size xs ++ drop r.size xs) k ≡ Some e = ap (λ (l : List TxEntry). slice_get l k) (take-append-drop r.size xs) ∙ at in
    stands_first n r rs xs k e places (sym (in_front (take r.size xs) (drop r.size xs) k (ltb-true k (length (take r.size xs)) t)) ∙ whole)
stands_by n r rs xs k e places at next false t =
    let whole : slice_get (take r.size xs ++ drop r.size xs) k ≡ Some e = ap (λ (l : List TxEntry). slice_get l k) (take-append-drop r.size xs) ∙ at in
    stands_next n r rs xs e (next (k - length (take r.size xs)) (sym (behind (take r.size xs) (drop r.size xs) k (ltb-false k (length (take r.size xs)) t)) ∙ whole))

pub stands : (n : ℕ) (rs : List BlockRecord) (xs : List TxEntry) → xs ≡ by_sizes n (sizes_of rs) xs → (k : ℕ) (e : TxEntry) → slice_get xs k ≡ Some e → e.block < n + length rs → Stands n rs xs e
stands n [] xs places k e at lt =
    let is = placed_at n 0 k xs e (ap (λ (l : List TxEntry). slice_get l k) (sym places) ∙ at) in
    absurd (omega (arith, lt, is.block))
stands n (r ∷ rs) xs places k e at lt =
    let parts = parts_at n r.size (sizes_of rs) xs places in
    stands_by n r rs xs k e parts.0 at (λ j there. stands (n + 1) rs (drop r.size xs) parts.1 j e there (omega (arith, lt))) (nat_lt k (length (take r.size xs))) refl
