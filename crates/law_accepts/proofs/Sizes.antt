-- Blocks have the sizes that a legal journal closes, and the roots of their entries.
use Rattle.std.proofs.Common.{◌≡◌, ◌≤◌, ℕ, zero, suc, ◌+◌, refl, ap, sym, subst, ◌∙◌, List, [], ◌∷◌, ◌++◌, length, map, take, drop, true, None, arith, add-one, append_assoc}
use Rattle.std.proofs.Math.Seq.{take-append_seam, drop-append_seam}
use Rattle.std.proofs.lemmas.Bool.{le-leb}
use Rattle.std.proofs.lemmas.List.{length-append, length-take-le}
use Rattle.std.proofs.lemmas.List.Sums.{sum_by-cons}
use Rattle.std.specs.List.{AllByRecursion, sum_by}
use Rattle.format_entry.specs.Entry.{entry_bytes}
use Rattle.base_merkle.specs.TreeHash.{tree_hash}
use Rattle.sql_types.specs.declared.entry.BlockRecord.{BlockRecord}
use Rattle.sql_types.specs.declared.entry.TxEntry.{TxEntry}
use Rattle.sql_types.specs.declared.image.Image.{Image}
use Rattle.sql_types.specs.declared.journal.JournalItem.{JournalItem}
use Rattle.sql_types.specs.declared.journal.JournalItem.TheVariants.{Tx, Close}
use Rattle.spec_model.specs.Catalog.{Tables}
use Rattle.spec_model.specs.Journals.{closed, tx_count, serial, IsNext, IsLegal}
use Rattle.spec_model.specs.Limits.{max_block}
use Rattle.spec_model.specs.Script.{Reading}
use Rattle.law_frame.proofs.Alls.{all_append}
use Rattle.spec_ledger.specs.Blocks.{no_hash, block_of, record_hash, last_hash}
use Rattle.spec_ledger.specs.Parts.{AreBlocksOf}
use Rattle.spec_ledger.specs.Ledger.{Ledger, recorded, ledger_from, ledger_of, blocks_of}
use Rattle.spec_ledger.proofs.Adding.{one_more}
use Rattle.law_blocks.proofs.Counting.{entries_counted, closed_counted}
use Rattle.spec_ledger.proofs.Parting.{parted}
use Rattle.format_image.specs.Image.{image_of}
use Rattle.spec_verify.specs.declared.place.Place.TheVariants as at
use Rattle.spec_verify.specs.First.{unless, first_from}
use Rattle.spec_verify.specs.Blocks.{entries_before, entries_in, block_holds, block_fault}
use Rattle.law_accepts.proofs.Along.{along}
use Rattle.law_accepts.proofs.Blocks.{behind}
use Rattle.law_accepts.proofs.Firsts.{same_bytes, both, passes, neither}

-- ---- sizes

abbrev IsSize : BlockRecord → Type 0
IsSize r = (1 ≤ r.size) × (r.size ≤ max_block)

module _ (h : List ℕ → List ℕ) where
  of_size : (n k : ℕ) (es : List TxEntry) (previous : List ℕ) → length es ≡ k → 1 ≤ k → k ≤ max_block → IsSize (block_of h n es previous)
  unfolding block_of
  of_size n k es previous e low high = (omega (arith, e, low), omega (arith, e, high))

  sizes_after : (reads : Reading) (before : List JournalItem) (T U : Tables) (i : JournalItem) (l : Ledger) → length l.closed + length l.pending ≡ tx_count before → length l.closed ≡ closed before
      → IsNext reads before U i → AllByRecursion IsSize l.blocks → AllByRecursion IsSize (recorded h T i l).blocks
  sizes_after reads before T U (Tx id session time explicit lines) l all in_blocks next sizes = sizes
  sizes_after reads before T U (Close k) l all in_blocks next sizes =
      let fits : k ≤ length l.pending = let most = next.2 in omega (arith, all, in_blocks, most) in
      all_append IsSize l.blocks (block_of h (length l.blocks) (take k l.pending) (last_hash h no_hash l.blocks) ∷ []) sizes
      (of_size (length l.blocks) k (take k l.pending) (last_hash h no_hash l.blocks) (length-take-le k l.pending fits) next.0 next.1, tt)

  no_blocks : (reads : Reading) → AllByRecursion IsSize (blocks_of h reads [])
  unfolding ledger_from
  no_blocks reads = tt

  pub sizes : (reads : Reading) (items : List JournalItem) → IsLegal reads items → AllByRecursion IsSize (blocks_of h reads items)
  sizes reads items legal = along reads (λ J. AllByRecursion IsSize (blocks_of h reads J)) one items legal (no_blocks reads)
    where
      one : (before : List JournalItem) (i : JournalItem) → IsLegal reads before → IsNext reads before (serial reads before) i
          → AllByRecursion IsSize (blocks_of h reads before) → AllByRecursion IsSize (blocks_of h reads (before ++ i ∷ []))
      one before i legal_before next p =
          let l : Ledger = ledger_of h reads before in
          let all : length l.closed + length l.pending ≡ tx_count before = sym (length-append l.closed l.pending) ∙ entries_counted h reads before in
          subst (λ (m : Ledger). AllByRecursion IsSize m.blocks) (sym (one_more h reads before i))
          (sizes_after reads before (serial reads (before ++ i ∷ [])) (serial reads before) i l all (closed_counted h reads before legal_before) next p)

-- ---- sizes and roots

sum_further : (f : BlockRecord → ℕ) (b : ℕ) (all rest : List BlockRecord) (r : BlockRecord) → drop b all ≡ r ∷ rest → sum_by f (take (suc b) all) ≡ sum_by f (take b all) + f r
sum_further f zero [] rest r e = cc
sum_further f (suc b) [] rest r e = cc
sum_further f zero (x ∷ xs) rest r e =
    let same : x ≡ r = cc in
    ap (λ (y : BlockRecord). sum_by f (y ∷ [])) same
sum_further f (suc b) (x ∷ xs) rest r e =
    let p = sum_by-cons f x (take (suc b) xs) in
    let q = sum_by-cons f x (take b xs) in
    let s = sum_further f b xs rest r e in
    omega (arith, p, q, s)

sum_behind : (f : BlockRecord → ℕ) (b : ℕ) (all rest : List BlockRecord) (r : BlockRecord) → drop b all ≡ r ∷ rest → sum_by f (take (b + 1) all) ≡ sum_by f (take b all) + f r
sum_behind f b all rest r e = ap (λ (n : ℕ). sum_by f (take n all)) (add-one b) ∙ sum_further f b all rest r e

module _ (h : List ℕ → List ℕ) (i : Image) where
  record Its (b : ℕ) (r : BlockRecord) (part : List TxEntry) : Type 0 where
    pub size : r.size ≡ length part
    pub root : r.root ≡ tree_hash h (map entry_bytes part)

  its : (b : ℕ) (previous : List ℕ) (r : BlockRecord) (part : List TxEntry) → r ≡ block_of h b part previous → Its b r part
  unfolding block_of
  its b previous r part e = record { size = ap (λ (x : BlockRecord). x.size) e; root = ap (λ (x : BlockRecord). x.root) e }

  -- the entries of the block
  cut_out : (front part more : List TxEntry) (n k : ℕ) → n ≡ length front → k ≡ length part → take k (drop n (front ++ (part ++ more))) ≡ part
  cut_out front part more n k e f =
      ap (λ (m : ℕ). take k (drop m (front ++ (part ++ more)))) e
      ∙ ap (take k) (drop-append_seam front (part ++ more))
      ∙ ap (λ (m : ℕ). take m (part ++ more)) f ∙ take-append_seam part more

  one_holds : (b : ℕ) (r : BlockRecord) (front part more : List TxEntry) → Its b r part → IsSize r → i.entries ≡ front ++ (part ++ more) → entries_before i b ≡ length front → block_holds h i b r ≡ true
  one_holds b r front part more is size all before =
      let count : length i.entries ≡ length front + (length part + length more) = ap length all ∙ length-append front (part ++ more) ∙ ap (λ (n : ℕ). length front + n) (length-append part more) in
      let here : entries_in i b r ≡ part = ap (λ (es : List TxEntry). take r.size (drop (entries_before i b) es)) all ∙ cut_out front part more (entries_before i b) r.size before is.size in
      both (both (le-leb 1 r.size size.0) (le-leb r.size max_block size.1))
      (both (le-leb (entries_before i b + r.size) (length i.entries) (let s = is.size in omega (arith, count, before, s)))
      (same_bytes r.root (tree_hash h (map entry_bytes (entries_in i b r))) (is.root ∙ ap (λ (es : List TxEntry). tree_hash h (map entry_bytes es)) (sym here))))

  all_hold : (b : ℕ) (previous : List ℕ) (rs : List BlockRecord) (es front more : List TxEntry) → AreBlocksOf h b previous rs es → AllByRecursion IsSize rs
      → drop b i.blocks ≡ rs → i.entries ≡ front ++ (es ++ more) → entries_before i b ≡ length front
      → first_from (λ n r. unless (block_holds h i n r) (at.Block n)) b rs ≡ None
  all_hold b previous [] es front more blocks sizes there all before = refl
  all_hold b previous (r ∷ rs) es front more blocks sizes there all before =
      let part : List TxEntry = blocks.0 in
      let rest : List TxEntry = blocks.1 in
      let is : Its b r part = its b previous r part blocks.3.is in
      let one : i.entries ≡ front ++ (part ++ (rest ++ more)) = all ∙ ap (λ (xs : List TxEntry). front ++ xs) (ap (λ (xs : List TxEntry). xs ++ more) blocks.2 ∙ append_assoc part rest more) in
      let next : entries_before i (b + 1) ≡ length (front ++ part) =
      (let s = sum_behind (λ (x : BlockRecord). x.size) b i.blocks rs r there in let l = length-append front part in let z = is.size in omega (arith, s, l, z, before)) in
      neither _ _ (passes (block_holds h i b r) (at.Block b) (one_holds b r front part (rest ++ more) is sizes.0 one before))
      (all_hold (b + 1) (record_hash h r) rs rest (front ++ part) more blocks.4 sizes.1 (behind b i.blocks rs r there)
      (one ∙ sym (append_assoc front part (rest ++ more))) next)

pub blocks_hold : (h : List ℕ → List ℕ) (reads : Reading) (database : List ℕ) (items : List JournalItem) → IsLegal reads items → block_fault h (image_of h reads database items) ≡ None
unfolding image_of block_fault
blocks_hold h reads database items legal =
    let l : Ledger = ledger_of h reads items in
    all_hold h (image_of h reads database items) 0 no_hash l.blocks l.closed [] l.pending (parted h reads items).closed (sizes h reads items legal) refl refl refl
