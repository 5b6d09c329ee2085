-- What closing a block does to books.
use Rattle.std.proofs.Common.{◌≡◌, ◌≤◌, ◌<◌, ◌+◌, ◌-◌, ◌^◌, ℕ, zero, suc, refl, sym, ap, ap₂, subst, ◌∙◌, List, [], ◌∷◌, ◌++◌, take, drop, length, map, arith, append-nil}
use Rattle.std.proofs.Math.Seq.{take-append_seam, drop-append_seam}
use Rattle.std.proofs.lemmas.List.{length-append, length-drop, length-take, take_all}
use Rattle.std.specs.List.{AllByRecursion}
use Rattle.sql_types.specs.declared.entry.BlockRecord.{BlockRecord}
use Rattle.sql_types.specs.declared.entry.TxEntry.{TxEntry}
use Rattle.format_entry.specs.Entry.{IsEntry, entry_bytes}
use Rattle.format_entry.specs.Record.{record_bytes}
use Rattle.base_merkle.specs.TreeHash.{tree_hash}
use Rattle.spec_ledger.specs.Entries.{placed}
use Rattle.spec_ledger.specs.Blocks.{no_hash, block_of, record_hash, last_hash}
use Rattle.spec_ledger.specs.Ledger.{Ledger, closes}
use Rattle.spec_ledger.proofs.Parting.{placed_take, placed_twice}
use Rattle.store_blocks.specs.Closings.{AreFull, all_placed, closed_by, placed_first, takes, with_pending}
use Rattle.store_blocks.specs.LedgerChain.{IsLedgerChain}

-- ---- parts of lists

none_taken : {A : Type 0} (k : ℕ) → take {A = A} k [] ≡ []
none_taken zero = refl
none_taken (suc k) = refl

none_left : {A : Type 0} (k : ℕ) → drop {A = A} k [] ≡ []
none_left zero = refl
none_left (suc k) = refl

take_sum : {A : Type 0} (m n k : ℕ) (xs : List A) → k ≡ m + n → take k xs ≡ take m xs ++ take n (drop m xs)
take_sum {A} m n k [] is =
    none_taken k ∙ sym (ap (λ (l : List A). l ++ take n (drop {A = A} m [])) (none_taken m)
    ∙ ap (take n) (none_left m) ∙ none_taken n)
take_sum zero n k (x ∷ xs) is = let same : k ≡ n = omega (arith, is) in rw same refl
take_sum (suc m) n zero (x ∷ xs) is = absurd (omega (arith, is))
take_sum (suc m) n (suc k) (x ∷ xs) is = ap (λ l. x ∷ l) (take_sum m n k xs (omega (arith, is)))

drop_sum : {A : Type 0} (m n k : ℕ) (xs : List A) → k ≡ m + n → drop k xs ≡ drop n (drop m xs)
drop_sum m n k [] is = none_left k ∙ sym (ap (drop n) (none_left m) ∙ none_left n)
drop_sum zero n k (x ∷ xs) is = let same : k ≡ n = omega (arith, is) in rw same refl
drop_sum (suc m) n zero (x ∷ xs) is = absurd (omega (arith, is))
drop_sum (suc m) n (suc k) (x ∷ xs) is = drop_sum m n k xs (omega (arith, is))

front : {A : Type 0} (n : ℕ) (xs ys : List A) → n ≡ length xs → take n (xs ++ ys) ≡ xs
front n xs ys is = rw is (take-append_seam xs ys)

back : {A : Type 0} (n : ℕ) (xs ys : List A) → n ≡ length xs → drop n (xs ++ ys) ≡ ys
back n xs ys is = rw is (drop-append_seam xs ys)

module _ {A : Type 0} (P : A → Type 0) where
  all_joined : (xs ys : List A) → AllByRecursion P xs → AllByRecursion P ys → AllByRecursion P (xs ++ ys)
  all_joined [] ys h k = k
  all_joined (x ∷ xs) ys h k = (h.0, all_joined xs ys h.1 k)

  all_taken : (n : ℕ) (xs : List A) → AllByRecursion P xs → AllByRecursion P (take n xs)
  all_taken zero xs h = tt
  all_taken (suc n) [] h = tt
  all_taken (suc n) (x ∷ xs) h = (h.0, all_taken n xs h.1)

  all_left : (n : ℕ) (xs : List A) → AllByRecursion P xs → AllByRecursion P (drop n xs)
  all_left zero xs h = h
  all_left (suc n) [] h = tt
  all_left (suc n) (x ∷ xs) h = all_left n xs h.1

-- ---- entries at their places

length_placed : (b o : ℕ) (es : List TxEntry) → length (placed b o es) ≡ length es
length_placed b o [] = refl
length_placed b o (e ∷ es) = ap suc (length_placed b (o + 1) es)

placed_spelled : (b o : ℕ) (es : List TxEntry) → b < 2 ^ 64 → o + length es < 2 ^ 32 → AllByRecursion IsEntry es
    → AllByRecursion IsEntry (placed b o es)
placed_spelled b o [] block few h = tt
placed_spelled b o (e ∷ es) block few h = (
  record {
    id = h.0.id;
    block = block;
    ordinal = omega (arith, few);
    time = h.0.time;
    principal = h.0.principal;
    count = h.0.count;
    roots = h.0.roots;
    rise = h.0.rise;
  },
  placed_spelled b (o + 1) es block (omega (arith, few)) h.1,
)

-- those behind the first k get the same places, whatever places they had
placed_left : (c m b n k : ℕ) (es : List TxEntry) → placed c m (drop k (placed b n es)) ≡ placed c m (drop k es)
placed_left c m b n zero es = placed_twice c b m n es
placed_left c m b n (suc k) [] = refl
placed_left c m b n (suc k) (e ∷ es) = placed_left c m b (n + 1) k es

first_length : (b k : ℕ) (es : List TxEntry) → k ≤ length es → k ≡ length (placed b 0 (take k es))
first_length b k es enough = omega (arith, length_placed b 0 (take k es), length-take k es, enough)

pub length_first : (b k : ℕ) (es : List TxEntry) → k ≤ length es → length (placed_first b k es) ≡ length es
length_first b k es enough =
    omega (arith, length-append (placed b 0 (take k es)) (drop k es), first_length b k es enough, length-drop k es, enough)

all_first : (b : ℕ) (es : List TxEntry) → placed_first b (length es) es ≡ placed b 0 es
all_first b es =
    ap₂ (λ (xs ys : List TxEntry). placed b 0 xs ++ ys) (take_all (length es) es (omega arith)) (left_none (length es) es (omega arith))
    ∙ append-nil (placed b 0 es)
  where
    left_none : (k : ℕ) (xs : List TxEntry) → length xs ≤ k → drop k xs ≡ []
    left_none k [] l = none_left k
    left_none zero (x ∷ xs) l = absurd (omega (arith, l))
    left_none (suc k) (x ∷ xs) l = left_none k xs (omega (arith, l))

last_of : (h : List ℕ → List ℕ) (previous : List ℕ) (rs : List BlockRecord) (r : BlockRecord)
    → last_hash h previous (rs ++ r ∷ []) ≡ record_hash h r
last_of h previous [] r = refl
last_of h previous (x ∷ xs) r = last_of h (record_hash h x) xs r

-- ---- the first `count` entries that are pending get their places

module _ (blocks : List BlockRecord) (entries moved : List TxEntry) (closed count block : ℕ)
    (ledger_chain : IsLedgerChain blocks entries closed)
    (enough : count ≤ length (drop closed entries))
    (places : moved ≡ take closed entries
    ++ (placed block 0 (take (closed + count - closed) (drop closed entries)) ++ drop (closed + count) entries)) where
  are_placed : moved ≡ take closed entries ++ placed_first block count (drop closed entries)
  are_placed =
      let few : closed + count - closed ≡ count = omega arith in
      places ∙ ap₂ (λ (k : ℕ) (es : List TxEntry). take closed entries ++ (placed block 0 (take k (drop closed entries)) ++ es))
      few (drop_sum closed count (closed + count) entries refl)

  whole : closed ≡ length (take closed entries)
  whole = omega (arith, length-take closed entries, ledger_chain.within)

  pub still_closed : take closed moved ≡ take closed entries
  still_closed =
      ap (take closed) are_placed ∙ front closed (take closed entries) (placed_first block count (drop closed entries)) whole

  pub now_pending : drop closed moved ≡ placed_first block count (drop closed entries)
  now_pending =
      ap (drop closed) are_placed ∙ back closed (take closed entries) (placed_first block count (drop closed entries)) whole

  -- it is the ledger with these entries
  pub is_placed : block ≡ length blocks → ◌≡◌ {A = Ledger}
      (record { blocks = blocks; closed = take closed moved; pending = drop closed moved })
      (with_pending (placed_first (length blocks) count (drop closed entries))
      (record { blocks = blocks; closed = take closed entries; pending = drop closed entries }))
  is_placed number = λ i. record {
    blocks = blocks;
    closed = still_closed i;
    pending = (now_pending ∙ ap (λ (b : ℕ). placed_first b count (drop closed entries)) number) i;
  }

  -- the books are kept so
  pub still_kept : block < 2 ^ 64 → IsLedgerChain blocks moved closed
  still_kept few = record {
    within = omega (arith, ap length are_placed, length-append (take closed entries) (placed_first block count (drop closed entries)), whole);
    few = omega (arith, ap length now_pending, length_first block count (drop closed entries) enough, ledger_chain.few);
    spelled = rw are_placed (all_joined IsEntry (take closed entries) (placed_first block count (drop closed entries))
        (all_taken IsEntry closed entries ledger_chain.spelled)
        (all_joined IsEntry (placed block 0 (take count (drop closed entries))) (drop count (drop closed entries))
        (placed_spelled block 0 (take count (drop closed entries)) few (omega (arith, length-take count (drop closed entries), ledger_chain.few, enough))
        (all_taken IsEntry count (drop closed entries) (all_left IsEntry closed entries ledger_chain.spelled)))
        (all_left IsEntry count (drop closed entries) (all_left IsEntry closed entries ledger_chain.spelled))));
  }

-- ---- a block of the first `count` entries, behind those that are closed

module _ (blocks after : List BlockRecord) (entries : List TxEntry) (closed count : ℕ)
    (ledger_chain : IsLedgerChain blocks entries closed)
    (enough : count ≤ length (drop closed entries)) where
  -- the books are kept so
  pub still_ledger_chain : IsLedgerChain after entries (closed + count)
  still_ledger_chain = record {
    within = omega (arith, length-drop closed entries, enough, ledger_chain.within);
    few = omega (arith, length-drop (closed + count) entries, length-drop closed entries, ledger_chain.few);
    spelled = ledger_chain.spelled;
  }

  module _ (h : List ℕ → List ℕ) (root hash : List ℕ) (n : ℕ)
      (size : n ≡ count)
      (roots : root ≡ tree_hash h (map entry_bytes (take n (drop closed entries))))
      (keeps : hash ≡ last_hash h no_hash blocks)
      (pushed : after ≡ blocks ++ record { id = length blocks; root = root; size = count; previous = hash } ∷ []) where
    is_block : after ≡ blocks ++ block_of h (length blocks) (take count (drop closed entries)) (last_hash h no_hash blocks) ∷ []
    unfolding block_of
    is_block =
        let whole : length (take count (drop closed entries)) ≡ count =
        omega (arith, length-take count (drop closed entries), enough) in
        let root_is : root ≡ tree_hash h (map entry_bytes (take count (drop closed entries))) = rw (sym size) roots in
        pushed ∙ rw (sym keeps, sym root_is, whole) refl

    -- the ledger has it
    pub is_taking : ◌≡◌ {A = Ledger}
        (record { blocks = after; closed = take (closed + count) entries; pending = drop (closed + count) entries })
        (takes h count (record { blocks = blocks; closed = take closed entries; pending = drop closed entries }))
    is_taking = λ i. record {
      blocks = is_block i;
      closed = take_sum closed count (closed + count) entries refl i;
      pending = drop_sum closed count (closed + count) entries refl i;
    }

    -- and the hash that is kept is that of the block
    pub keeps_hash : (kept_hash : List ℕ)
        → kept_hash ≡ h (record_bytes (record { id = length blocks; root = root; size = count; previous = hash }))
        → kept_hash ≡ last_hash h no_hash after
    keeps_hash kept_hash is =
        is ∙ sym (ap (last_hash h no_hash) pushed
        ∙ last_of h no_hash blocks (record { id = length blocks; root = root; size = count; previous = hash }))

-- ---- closings

-- where all that are pending get their places
pub places_all : (k : ℕ) (l : Ledger) → k ≡ length l.pending → with_pending (placed_first (length l.blocks) k l.pending) l ≡ all_placed l
places_all k l is =
    ap (λ (n : ℕ). with_pending (placed_first (length l.blocks) n l.pending) l) is
    ∙ ap (λ (es : List TxEntry). with_pending es l) (all_first (length l.blocks) l.pending)

module _ (h : List ℕ → List ℕ) (k : ℕ) (l : Ledger) where
  -- a block is taken and all others get their places: that is a closing
  pub taken_placed : all_placed (takes h k l) ≡ closes h k l
  taken_placed =
      ap (λ (n : ℕ). with_pending (placed n 0 (drop k l.pending)) (takes h k l))
      (length-append l.blocks (block_of h (length l.blocks) (take k l.pending) (last_hash h no_hash l.blocks) ∷ []))

  -- it is also one where only those that the block takes had their places
  module _ (enough : k ≤ length l.pending) where
    abbrev b : ℕ
    b = length l.blocks

    abbrev firsts : List TxEntry
    firsts = placed_first b k l.pending

    taken : take k firsts ≡ take k (placed b 0 l.pending)
    taken =
        front k (placed b 0 (take k l.pending)) (drop k l.pending) (first_length b k l.pending enough)
        ∙ sym (placed_take b 0 k l.pending)

    left : drop k firsts ≡ drop k l.pending
    left = back k (placed b 0 (take k l.pending)) (drop k l.pending) (first_length b k l.pending enough)

    pub first_closed : all_placed (takes h k (with_pending firsts l)) ≡ closes h k (all_placed l)
    first_closed = λ i. record {
      blocks = l.blocks ++ block_of h b (taken i) (last_hash h no_hash l.blocks) ∷ [];
      closed = l.closed ++ taken i;
      pending = (ap₂ (λ (n : ℕ) (es : List TxEntry). placed n 0 es) (length-append l.blocks (block_of h b (take k firsts) (last_hash h no_hash l.blocks) ∷ [])) left
          ∙ sym (placed_left (b + 1) 0 b 0 k l.pending)) i;
    }

-- ---- one block more

module _ (h : List ℕ → List ℕ) (size n : ℕ) (l m placed_now taken_now : Ledger) (enough : size ≤ length m.pending)
    (so_far : all_placed m ≡ closed_by h n size l)
    (places : placed_now ≡ with_pending (placed_first (length m.blocks) size m.pending) m)
    (takes_now : taken_now ≡ takes h size placed_now) where
  both : taken_now ≡ takes h size (with_pending (placed_first (length m.blocks) size m.pending) m)
  both = takes_now ∙ ap (takes h size) places

  pub one_more_closed : (next : ℕ) → suc n ≡ next → all_placed taken_now ≡ closed_by h next size l
  one_more_closed next is =
      ap (λ (x : Ledger). all_placed x) both ∙ first_closed h size m enough ∙ ap (closes h size) so_far
      ∙ ap (λ (k : ℕ). closed_by h k size l) is

  pub one_more_full : (next : ℕ) → suc n ≡ next → AreFull h n size l → AreFull h next size l
  one_more_full next is full =
      let again : size ≤ length (closed_by h n size l).pending =
      subst (λ (x : Ledger). size ≤ length x.pending) so_far (omega (arith, length_placed (length m.blocks) 0 m.pending, enough)) in
      subst (λ (k : ℕ). AreFull h k size l) is (full, again)

  pub pending_less : length taken_now.pending ≡ length m.pending - size
  pending_less =
      ap (λ (x : Ledger). length x.pending) both
      ∙ length-drop size (placed_first (length m.blocks) size m.pending)
      ∙ ap (λ (k : ℕ). k - size) (length_first (length m.blocks) size m.pending enough)
