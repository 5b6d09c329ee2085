-- Receipts that are accepted with one digest agree, with each other and with images.
use Rattle.std.proofs.Common.{◌≡◌, ◌≤◌, ◌<◌, ◌+◌, ◌-◌, ◌⊎◌, ℕ, zero, suc, List, [], ◌∷◌, length, map, take, drop, Some, None, refl, arith, sym, ◌∙◌, ap, subst, inl, inr}
use Rattle.std.specs.List.{AllByRecursion, slice_get}
use Rattle.format_entry.specs.Entry.{entry_bytes, IsEntry}
use Rattle.format_entry.specs.Record.{IsRecord}
use Rattle.format_entry.proofs.EntryExact.{equal_entries}
use Rattle.sql_types.specs.declared.digest.HeldDigest.{HeldDigest}
use Rattle.sql_types.specs.declared.entry.BlockRecord.{BlockRecord}
use Rattle.sql_types.specs.declared.entry.TxEntry.{TxEntry}
use Rattle.sql_types.specs.declared.image.Image.{Image}
use Rattle.spec_ledger.specs.Blocks.{no_hash}
use Rattle.format_image.specs.ImageBytes.{IsImage}
use Rattle.spec_verify.specs.Blocks.{chain_fault, block_fault}
use Rattle.spec_verify.specs.Sentences.{DigestHolds}
use Rattle.audit_extract.specs.Collisions.{HasCollisionBetween, IsHashedIn, IsRecordAmong}
use Rattle.audit_extract.specs.Parts.{blocks_to}
use Rattle.audit_extract.proofs.Collisions.{or_wider}
use Rattle.audit_extract.proofs.Lists.{all_left, all_taken}
use Rattle.audit_extract.proofs.Unbroken.{so_far}
use Rattle.audit_paths.specs.Hashed.{IsHashedUnder}
use Rattle.audit_paths.specs.Path.{audit_path, root_under, AreHashes}
use Rattle.audit_paths.proofs.Climbing.{one_leaf}
use Rattle.audit_paths.proofs.Leading.{path_hashes}
use Rattle.format_receipt.specs.declared.receipt.Receipt.{Receipt}
use Rattle.format_receipt.specs.Receipts.{IsReceipt}
use Rattle.audit_receipt.specs.Accepted.{LeadTo, StandsIn, Accepted}
use Rattle.audit_receipt.specs.Hashed.{IsHashedOf, IsHashedTo}
use Rattle.audit_receipt.specs.Made.{part_at}
use Rattle.audit_receipt.proofs.Chains.{same_chain}
use Rattle.audit_receipt.proofs.Found.{HasBlock, block_at, block_fits, each_at, all_heads}
use Rattle.audit_receipt.proofs.Imaged.{path_hashed, records_hashed}
use Rattle.audit_receipt.proofs.Made.{first_taken, parts_lead, path_shows}

module _ (h : List ℕ → List ℕ) (sized : (bytes : List ℕ) → length (h bytes) ≡ 32) where
  -- entries that stand at one place of one block are one
  pub same_entry : (e f : TxEntry) (p q : List (List ℕ)) (rs : List BlockRecord) → IsEntry e → IsEntry f → AreHashes p → AreHashes q → e.ordinal ≡ f.ordinal
      → StandsIn h e p rs → StandsIn h f q rs → (e ≡ f) ⊎ HasCollisionBetween h (IsHashedTo h e p rs) (IsHashedTo h f q rs)
  same_entry e f p q [] fe ff hp hq o x y = absurd x
  same_entry e f p q (r ∷ rs) fe ff hp hq o x y =
      so_far (λ (bytes : entry_bytes e ≡ entry_bytes f). inl (equal_entries e f fe ff bytes))
      (or_wider h (IsHashedTo h e p (r ∷ rs)) (IsHashedUnder h q e.ordinal r.size (entry_bytes f)) (IsHashedTo h e p (r ∷ rs)) (IsHashedTo h f q (r ∷ rs))
      (λ z on. on) (λ z on. subst (λ (m : ℕ). IsHashedUnder h q m r.size (entry_bytes f) z) o on)
      (one_leaf h sized (entry_bytes e) (entry_bytes f) r.root p q e.ordinal r.size hp hq x.2
      (subst (λ (m : ℕ). root_under h q m r.size (entry_bytes f) ≡ Some r.root) (sym o) y.2)))

  pub receipts_agree : (a b : Receipt) (d : HeldDigest) → IsReceipt a → IsReceipt b → Accepted h a d → Accepted h b d → a.entry.block ≡ b.entry.block → a.entry.ordinal ≡ b.entry.ordinal
      → (a.entry ≡ b.entry) ⊎ HasCollisionBetween h (IsHashedOf h a) (IsHashedOf h b)
  receipts_agree a b d fa fb x y block ordinal =
      so_far (λ (same : a.records ≡ b.records).
      or_wider h (IsHashedTo h a.entry a.path b.records) (IsHashedTo h b.entry b.path b.records) (IsHashedOf h a) (IsHashedOf h b)
      (λ z on. inr (subst (λ (rs : List BlockRecord). IsHashedTo h a.entry a.path rs z) (sym same) on)) (λ z on. inr on)
      (same_entry a.entry b.entry a.path b.path b.records fa.entry fb.entry fa.path fb.path ordinal (subst (StandsIn h a.entry a.path) same x.entry) y.entry))
      (or_wider h (IsRecordAmong a.records) (IsRecordAmong b.records) (IsHashedOf h a) (IsHashedOf h b) (λ z among. inl among) (λ z among. inl among)
      (same_chain h a.entry.block a.records b.records d fa.records fb.records x.chain (subst (λ (n : ℕ). LeadTo h n b.records d) (sym block) y.chain)))

  -- ---- with an image

  module _ (i : Image) (is : IsImage i) (chain : chain_fault h i ≡ None) (blocks : block_fault h i ≡ None) where
    records_fit : (b j : ℕ) → AllByRecursion IsRecord (drop j (blocks_to i b))
    records_fit b j = all_left IsRecord j (blocks_to i b) (all_taken IsRecord (b + 1) i.blocks is.blocks)

    got : (xs : List TxEntry) (k : ℕ) → k < length xs → (e : TxEntry) × (slice_get xs k ≡ Some e)
    got [] k lt = absurd (omega (arith, lt))
    got (x ∷ xs) zero lt = (x, refl)
    got (x ∷ xs) (suc k) lt = got xs k (omega (arith, lt))

    pub agrees_with_image : (r : Receipt) (d : HeldDigest) → IsReceipt r → Accepted h r d → DigestHolds h i d
        → (slice_get (part_at i.blocks i.entries r.entry.block) r.entry.ordinal ≡ Some r.entry) ⊎ HasCollisionBetween h (IsHashedOf h r) (IsHashedIn h i)
    agrees_with_image r d fr x holds =
        so_far found
        (or_wider h (IsRecordAmong r.records) (IsRecordAmong (drop r.entry.block (blocks_to i d.block))) (IsHashedOf h r) (IsHashedIn h i) (λ z among. inl among) (records_hashed h i r.entry.block d.block)
        (same_chain h r.entry.block r.records (drop r.entry.block (blocks_to i d.block)) d fr.records (records_fit d.block r.entry.block) x.chain (parts_lead h i is chain blocks d r.entry.block holds le)))
      where
        le : r.entry.block ≤ d.block
        le = let some = fr.some in let reach = x.chain.reach in omega (arith, some, reach)

        within : d.block < length i.blocks
        within = holds.block

        b : HasBlock h i.blocks i.entries r.entry.block
        b = block_at h 0 no_hash i.blocks i.entries (all_heads h i is chain blocks) r.entry.block (omega (arith, le, within))

        part : List TxEntry
        part = part_at i.blocks i.entries r.entry.block

        fits : AllByRecursion IsEntry part
        fits =
            block_fits h 0 no_hash i.blocks i.entries (all_heads h i is chain blocks) (let few = is.block_count in omega (arith, few)) is.entries r.entry.block (omega (arith, le, within))

        own : List (List ℕ)
        own = audit_path h r.entry.ordinal (map entry_bytes part)

        -- where the first record is that of the block
        here : (p : List (List ℕ)) (more : List BlockRecord) → StandsIn h r.entry p (b.first ∷ more) → AreHashes p
            → (slice_get part r.entry.ordinal ≡ Some r.entry) ⊎ HasCollisionBetween h (IsHashedTo h r.entry p (b.first ∷ more)) (IsHashedIn h i)
        here p more s hp =
            let e = got part r.entry.ordinal (let l = b.size in omega (arith, s.1, l)) in
            so_far (λ (bytes : entry_bytes r.entry ≡ entry_bytes e.0). inl (e.1 ∙ ap Some (equal_entries e.0 r.entry (each_at IsEntry part r.entry.ordinal e.0 fits e.1) fr.entry (sym bytes))))
            (or_wider h (IsHashedTo h r.entry p (b.first ∷ more)) (IsHashedUnder h own r.entry.ordinal b.first.size (entry_bytes e.0)) (IsHashedTo h r.entry p (b.first ∷ more)) (IsHashedIn h i)
            (λ z on. on) (path_hashed h i r.entry.block r.entry.ordinal e.0 b e.1)
            (one_leaf h sized (entry_bytes r.entry) (entry_bytes e.0) b.first.root p own r.entry.ordinal b.first.size
            hp (path_hashes h sized (length (map entry_bytes part)) r.entry.ordinal (map entry_bytes part))
            s.2 (path_shows h i is chain blocks r.entry.block r.entry.ordinal e.0 b e.1)))

        found : r.records ≡ drop r.entry.block (blocks_to i d.block) → (slice_get part r.entry.ordinal ≡ Some r.entry) ⊎ HasCollisionBetween h (IsHashedOf h r) (IsHashedIn h i)
        found same =
            let more : List BlockRecord = take (d.block + 1 - r.entry.block - 1) b.more in
            let first : r.records ≡ b.first ∷ more = same ∙ first_taken r.entry.block (d.block + 1) i.blocks b.first b.more (omega (arith, le)) b.at in
            or_wider h (IsHashedTo h r.entry r.path (b.first ∷ more)) (IsHashedIn h i) (IsHashedOf h r) (IsHashedIn h i)
            (λ z on. inr (subst (λ (rs : List BlockRecord). IsHashedTo h r.entry r.path rs z) (sym first) on)) (λ z in_image. in_image)
            (here r.path more (subst (StandsIn h r.entry r.path) first x.entry) fr.path)
