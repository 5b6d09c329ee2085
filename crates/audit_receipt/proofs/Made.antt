-- Receipts that are made are accepted.
use Rattle.std.proofs.Common.{◌≡◌, ◌≤◌, ◌<◌, ◌+◌, ◌-◌, ℕ, suc, List, [], ◌∷◌, length, map, take, drop, Option, Some, None, arith, sym, ◌∙◌, ap, subst, length-take, length-drop}
use Rattle.std.specs.Option.{option_map}
use Rattle.std.specs.List.{slice_get}
use Rattle.std.proofs.lemmas.List.{drop-take, length-map}
use Rattle.std.proofs.lemmas.Option.{slice_get-map, slice_get_within}
use Rattle.format_entry.specs.Entry.{entry_bytes}
use Rattle.sql_types.specs.declared.digest.HeldDigest.{HeldDigest}
use Rattle.sql_types.specs.declared.entry.BlockRecord.{BlockRecord}
use Rattle.sql_types.specs.declared.entry.TxEntry.{TxEntry}
use Rattle.sql_types.specs.declared.image.Image.{Image}
use Rattle.spec_ledger.specs.Blocks.{no_hash}
use Rattle.spec_verify.specs.ImageBytes.{IsImage}
use Rattle.spec_verify.specs.Blocks.{digest_fault, chain_fault, block_fault}
use Rattle.spec_verify.specs.Told.{TellsFirst}
use Rattle.spec_verify.specs.declared.place.Place.{Place}
use Rattle.spec_verify.specs.declared.place.Place.TheVariants as at
use Rattle.spec_verify.proofs.ToldBlocks.{digests_told}
use Rattle.spec_verify.specs.Sentences.{DigestHolds}
use Rattle.audit_extract.specs.Parts.{blocks_to}
use Rattle.audit_paths.specs.Path.{audit_path, root_under}
use Rattle.audit_paths.proofs.Leading.{path_leads}
use Rattle.audit_receipt.specs.Accepted.{AreLinked, LeadTo, StandsIn, Accepted}
use Rattle.audit_receipt.specs.Made.{part_at, receipt_of}
use Rattle.audit_receipt.proofs.Chains.{linked_left, linked_taken, last_of_part}
use Rattle.audit_receipt.proofs.Found.{HasBlock, block_at, stands, heads_linked, all_heads}

-- the records from a block on, up to one that isn't before it, begin with that block's
pub first_taken : (j m : ℕ) (rs : List BlockRecord) (r : BlockRecord) (more : List BlockRecord) → j < m → drop j rs ≡ r ∷ more → drop j (take m rs) ≡ r ∷ take (m - j - 1) more
first_taken j m rs r more lt e =
    let n : m ≡ j + suc (m - j - 1) = omega (arith, lt) in
    ap (λ (q : ℕ). drop j (take q rs)) n ∙ drop-take j (suc (m - j - 1)) rs ∙ ap (take (suc (m - j - 1))) e

-- the leaf of an entry at its place in the block
pub leaf_at : (part : List TxEntry) (k : ℕ) (e : TxEntry) → slice_get part k ≡ Some e → slice_get (map entry_bytes part) k ≡ Some (entry_bytes e)
leaf_at part k e at = slice_get-map entry_bytes part k ∙ ap (option_map entry_bytes) at

module _ (h : List ℕ → List ℕ) (i : Image) (is : IsImage i) (chain : chain_fault h i ≡ None) (blocks : block_fault h i ≡ None) where
  -- the records from a block to that of a digest lead to it
  pub parts_lead : (d : HeldDigest) (j : ℕ) → DigestHolds h i d → j ≤ d.block → LeadTo h j (drop j (blocks_to i d.block)) d
  parts_lead d j holds le =
      let all = all_heads h i is chain blocks in
      let zero_is : 0 + j ≡ j = omega arith in
      let linked : AreLinked h j (drop j (blocks_to i d.block)) =
      subst (λ (n : ℕ). AreLinked h n (drop j (blocks_to i d.block))) zero_is (linked_left h j 0 (blocks_to i d.block) (linked_taken h (d.block + 1) 0 i.blocks (heads_linked h 0 no_hash i.blocks i.entries all))) in
      let within = holds.block in
      let t = length-take (d.block + 1) i.blocks in
      let l = length-drop j (blocks_to i d.block) in
      record {
        linked = linked;
        reach = omega (arith, le, within, t, l);
        hash = last_of_part h j d.block no_hash i.blocks le within ∙ sym holds.hash;
      }

  -- the path of a place in a block leads to its root
  pub path_shows : (j k : ℕ) (e : TxEntry) → (b : HasBlock h i.blocks i.entries j) → slice_get (part_at i.blocks i.entries j) k ≡ Some e
      → root_under h (audit_path h k (map entry_bytes (part_at i.blocks i.entries j))) k b.first.size (entry_bytes e) ≡ Some b.first.root
  path_shows j k e b at =
      let part : List TxEntry = part_at i.blocks i.entries j in
      let count : length (map entry_bytes part) ≡ b.first.size = length-map part entry_bytes ∙ b.size in
      ap (λ (n : ℕ). root_under h (audit_path h k (map entry_bytes part)) k n (entry_bytes e)) (sym count)
      ∙ path_leads h (map entry_bytes part) k (entry_bytes e) (leaf_at part k e at) ∙ ap Some (sym b.root)

  made_at : (d : HeldDigest) (e : TxEntry) → DigestHolds h i d → e.block ≤ d.block → (b : HasBlock h i.blocks i.entries e.block)
      → slice_get (part_at i.blocks i.entries e.block) e.ordinal ≡ Some e → Accepted h (receipt_of h i e d.block) d
  made_at d e holds le b there =
      let part : List TxEntry = part_at i.blocks i.entries e.block in
      let within : e.ordinal < length part = slice_get_within part e.ordinal e there in
      let first = first_taken e.block (d.block + 1) i.blocks b.first b.more (omega (arith, le)) b.at in
      record {
        database = sym holds.database;
        chain = parts_lead d e.block holds le;
        entry = subst (StandsIn h e (audit_path h e.ordinal (map entry_bytes part))) (sym first) (b.few, subst (λ (n : ℕ). e.ordinal < n) b.size within, path_shows e.block e.ordinal e b there);
      }

  pub made_accepted : (d : HeldDigest) (k : ℕ) (e : TxEntry) → DigestHolds h i d → slice_get i.entries k ≡ Some e → e.block ≤ d.block → Accepted h (receipt_of h i e d.block) d
  made_accepted d k e holds at le =
      let within = holds.block in
      let all = all_heads h i is chain blocks in
      let s = stands 0 i.blocks i.entries is.places k e at (omega (arith, le, within)) in
      let zero_is : 0 + s.j ≡ s.j = omega arith in
      let here : slice_get (part_at i.blocks i.entries e.block) e.ordinal ≡ Some e =
      subst (λ (j : ℕ). slice_get (part_at i.blocks i.entries j) e.ordinal ≡ Some e) (sym (s.block ∙ zero_is)) s.there in
      made_at d e holds le (block_at h 0 no_hash i.blocks i.entries all e.block (omega (arith, le, within))) here

-- a digest at which nothing is at fault holds
pub digest_holds_of : (h : List ℕ → List ℕ) (i : Image) (d : HeldDigest) → digest_fault h i (d ∷ []) ≡ None → DigestHolds h i d
digest_holds_of h i d none = at_first (digest_fault h i (d ∷ [])) none (digests_told h i (d ∷ []))
  where
    at_first : (o : Option Place) → o ≡ None → TellsFirst (λ k d. DigestHolds h i d) (λ k d p. p ≡ at.Digest k) (d ∷ []) o → DigestHolds h i d
    at_first None e told = told 0
    at_first (Some p) e told = cc
