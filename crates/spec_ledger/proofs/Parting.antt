-- The entries of a journal fall into its blocks.
use Rattle.std.proofs.Common.{◌≡◌, ℕ, zero, suc, ◌+◌, refl, ap, sym, subst, ◌∙◌, List, [], ◌∷◌, ◌++◌, length, map, take, drop, arith, append_assoc, append-nil}
use Rattle.std.proofs.Math.Seq.{take-append_seam, drop-append_seam}
use Rattle.std.proofs.lemmas.List.{length-append}
use Rattle.sql_types.specs.declared.entry.BlockRecord.{BlockRecord}
use Rattle.sql_types.specs.declared.entry.TxEntry.{TxEntry}
use Rattle.sql_types.specs.declared.journal.JournalItem.{JournalItem}
use Rattle.sql_types.specs.declared.journal.JournalItem.TheVariants.{Tx, Close}
use Rattle.spec_model.specs.Catalog.{Tables}
use Rattle.spec_model.specs.Journals.{after_item}
use Rattle.spec_model.specs.Script.{Reading}
use Rattle.spec_model.specs.SystemTables.{first_tables}
use Rattle.spec_ledger.specs.Entries.{entry_of, at_place, placed}
use Rattle.spec_ledger.specs.Blocks.{no_hash, block_of, record_hash, last_hash}
use Rattle.spec_ledger.specs.Parts.{by_sizes, AreBlocksOf}
use Rattle.spec_ledger.specs.Ledger.{Ledger, empty_ledger, recorded, ledger_from, ledger_of, blocks_of, entries_of}

-- ---- places

pub placed_append : (b n m : ℕ) (xs ys : List TxEntry) → n + length xs ≡ m → placed b n (xs ++ ys) ≡ placed b n xs ++ placed b m ys
placed_append b n m [] ys e = ap (λ (k : ℕ). placed b k ys) (let same : n ≡ m = omega arith in same)
placed_append b n m (x ∷ xs) ys e = ap (λ (l : List TxEntry). at_place b n x ∷ l) (placed_append b (n + 1) m xs ys (omega arith))

pub placed_take : (b n k : ℕ) (xs : List TxEntry) → take k (placed b n xs) ≡ placed b n (take k xs)
placed_take b n zero xs = refl
placed_take b n (suc k) [] = refl
placed_take b n (suc k) (x ∷ xs) = ap (λ (l : List TxEntry). at_place b n x ∷ l) (placed_take b (n + 1) k xs)

pub placed_twice : (b c n m : ℕ) (xs : List TxEntry) → placed b n (placed c m xs) ≡ placed b n xs
placed_twice b c n m [] = refl
placed_twice b c n m (x ∷ xs) = ap (λ (l : List TxEntry). at_place b n x ∷ l) (placed_twice b c (n + 1) (m + 1) xs)

front_placed : (b k : ℕ) (xs : List TxEntry) → xs ≡ placed b 0 xs → take k xs ≡ placed b 0 (take k xs)
front_placed b k xs e = ap (take k) e ∙ placed_take b 0 k xs

one_placed : (b : ℕ) (xs : List TxEntry) (x : TxEntry) → xs ≡ placed b 0 xs → xs ++ at_place b (length xs) x ∷ [] ≡ placed b 0 (xs ++ at_place b (length xs) x ∷ [])
one_placed b xs x e =
    ap (λ (l : List TxEntry). l ++ at_place b (length xs) x ∷ []) e
    ∙ sym (placed_append b 0 (length xs) xs (at_place b (length xs) x ∷ []) (omega arith))

-- ---- parts

module _ (h : List ℕ → List ℕ) where
  one_more_block : (b n : ℕ) (previous : List ℕ) (rs : List BlockRecord) (es part : List TxEntry)
      → AreBlocksOf h b previous rs es → n ≡ b + length rs → part ≡ placed n 0 part
      → AreBlocksOf h b previous (rs ++ block_of h n part (last_hash h previous rs) ∷ []) (es ++ part)
  one_more_block b n previous [] es part none count places =
      let same : n ≡ b = omega arith in (
        part,
        [],
        ap (λ (l : List TxEntry). l ++ part) none ∙ sym (append-nil part),
        record { places = subst (λ (m : ℕ). part ≡ placed m 0 part) same places; is = ap (λ (m : ℕ). block_of h m part previous) same },
        refl,
      )
  one_more_block b n previous (r ∷ rs) es part all count places = (
    all.0,
    all.1 ++ part,
    ap (λ (l : List TxEntry). l ++ part) all.2 ∙ append_assoc all.0 all.1 part,
    all.3,
    one_more_block (b + 1) n (record_hash h r) rs all.1 part all.4 (omega arith) places,
  )

  size_is : (b : ℕ) (previous : List ℕ) (r : BlockRecord) (part : List TxEntry) → r ≡ block_of h b part previous → r.size ≡ length part
  unfolding block_of
  size_is b previous r part e = ap (λ (x : BlockRecord). x.size) e

  pub all_by_sizes : (b n : ℕ) (previous : List ℕ) (rs : List BlockRecord) (es more : List TxEntry)
      → AreBlocksOf h b previous rs es → n ≡ b + length rs → more ≡ placed n 0 more
      → es ++ more ≡ by_sizes b (map (λ r. r.size) rs) (es ++ more)
  all_by_sizes b n previous [] es more none count places =
      let same : n ≡ b = omega arith in
      let start : es ++ more ≡ more = ap (λ (l : List TxEntry). l ++ more) none in
      start ∙ places ∙ ap (λ (m : ℕ). placed m 0 more) same ∙ ap (placed b 0) (sym start)
  all_by_sizes b n previous (r ∷ rs) es more all count places =
      let part = all.0 in
      let behind = all.1 ++ more in
      let ks = map (λ (x : BlockRecord). x.size) rs in
      let size : r.size ≡ length part = size_is b previous r part all.3.is in
      let start : es ++ more ≡ part ++ behind = ap (λ (l : List TxEntry). l ++ more) all.2 ∙ append_assoc part all.1 more in
      let front : placed b 0 (take (length part) (part ++ behind)) ≡ part = ap (placed b 0) (take-append_seam part behind) ∙ sym all.3.places in
      let rest : by_sizes (b + 1) ks (drop (length part) (part ++ behind)) ≡ behind =
      ap (by_sizes (b + 1) ks) (drop-append_seam part behind) ∙ sym (all_by_sizes (b + 1) n (record_hash h r) rs all.1 more all.4 (omega arith) places) in
      cc

  -- ---- one item after another

  pub record Parted (l : Ledger) : Type 0 where
    pub closed : AreBlocksOf h 0 no_hash l.blocks l.closed
    pub pending : l.pending ≡ placed (length l.blocks) 0 l.pending

  recorded_parted : (T : Tables) (i : JournalItem) (l : Ledger) → Parted l → Parted (recorded h T i l)
  recorded_parted T (Tx id session time explicit lines) l p = record { closed = p.closed; pending = one_placed (length l.blocks) l.pending (entry_of h T id session time) p.pending }
  recorded_parted T (Close k) l p =
      let count : length (recorded h T (Close k) l).blocks ≡ length l.blocks + 1 = length-append l.blocks _ in
      record {
        closed = one_more_block 0 (length l.blocks) no_hash l.blocks l.closed (take k l.pending) p.closed (omega arith) (front_placed (length l.blocks) k l.pending p.pending);
        pending = sym (ap (λ (n : ℕ). placed n 0 (placed (length l.blocks + 1) 0 (drop k l.pending))) count ∙ placed_twice (length l.blocks + 1) (length l.blocks + 1) 0 0 (drop k l.pending));
      }

  module _ (reads : Reading) where
    from_parted : (T : Tables) (l : Ledger) (J : List JournalItem) → Parted l → Parted (ledger_from h reads T l J)
    unfolding ledger_from
    from_parted T l [] p = p
    from_parted T l (i ∷ is) p = let after = after_item reads T i in from_parted after (recorded h after i l) is (recorded_parted after i l p)

    pub parted : (J : List JournalItem) → Parted (ledger_of h reads J)
    parted J = from_parted first_tables empty_ledger J (record { closed = refl; pending = refl })

    pub entries_by_size : (J : List JournalItem) → entries_of h reads J ≡ by_sizes 0 (map (λ r. r.size) (blocks_of h reads J)) (entries_of h reads J)
    entries_by_size J =
        let p = parted J in
        let l = ledger_of h reads J in
        all_by_sizes 0 (length l.blocks) no_hash l.blocks l.closed l.pending p.closed (omega arith) p.pending
