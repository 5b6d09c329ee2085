-- Closing all that is pending, one block after another.
use Rattle.std.proofs.Common.{◌≡◌, ◌≤◌, ◌<◌, ℕ, zero, suc, ◌+◌, ◌-◌, Bool, true, false, List, [], ◌∷◌, refl, ap, sym, subst, ◌∙◌, arith}
use Rattle.std.specs.Prelude.{nat_le, if◌then◌else◌}
use Rattle.std.proofs.lemmas.Bool.{leb-true, leb-false}
use Rattle.spec_protocol.specs.Cells.{LedgerCell, pending_in}
use Rattle.spec_protocol.specs.LedgerIsLegal.{LedgerIsLegal}
use Rattle.spec_protocol.specs.LedgerVisits.{closed_by, all_closed, next_block}
use Rattle.spec_protocol.specs.Server.{Server}
use Rattle.law_protocol_steps.proofs.Closes.{closing_is_legal, next_within}
use Rattle.std.proofs.lemmas.List.{length-drop}
use Rattle.std.specs.Prelude.{length, drop}
use Rattle.sql_types.specs.declared.journal.JournalItem.TheVariants.{Close}
use Rattle.spec_model.specs.Journals.{tx_count}
use Rattle.spec_history.proofs.Trace.{count_append}
use Rattle.store_ledger.proofs.Counted.{length_placed}

-- ---- the next block

next_some : (c : LedgerCell) → 1 ≤ c.block_size → 1 ≤ pending_in c → 1 ≤ next_block c
next_some c size some = (next_within c size some).0

size_of : (size pending : ℕ) (b : Bool) → nat_le size pending ≡ b
    → 1 ≤ (if b then size else pending) → 1 ≤ size
size_of size pending true e some = some
size_of size pending false e some = let l = leb-false size pending e in omega arith

size_of_next : (c : LedgerCell) → 1 ≤ next_block c → 1 ≤ c.block_size
size_of_next c = size_of c.block_size (pending_in c) (nat_le c.block_size (pending_in c)) refl

module _ (h : List ℕ → List ℕ) where
  abbrev pub one_closed : LedgerCell → LedgerCell
  one_closed c = closed_by h (next_block c) c

  pub pending_after : (k : ℕ) (c : LedgerCell) → pending_in (closed_by h k c) ≡ pending_in c - k
  pending_after k c =
      length_placed (length c.chain.blocks + 1) 0 (drop k c.chain.pending)
      ∙ length-drop k c.chain.pending

  -- ---- from the front

  pub none_closed : (n : ℕ) (c : LedgerCell) → pending_in c ≡ 0 → all_closed h n c ≡ c
  none_closed zero c none = refl
  none_closed (suc n) c none = by (nat_le (pending_in c) 0) refl
    where
      by : (b : Bool) → nat_le (pending_in c) 0 ≡ b → (if b then c else all_closed h n (one_closed c)) ≡ c
      by true e = refl
      by false e = absurd (let l = leb-false (pending_in c) 0 e in omega (arith, l, none))

  pub first_closed : (n : ℕ) (c : LedgerCell) → 1 ≤ pending_in c
      → all_closed h (suc n) c ≡ all_closed h n (one_closed c)
  first_closed n c some = by (nat_le (pending_in c) 0) refl
    where
      by : (b : Bool) → nat_le (pending_in c) 0 ≡ b
          → (if b then c else all_closed h n (one_closed c)) ≡ all_closed h n (one_closed c)
      by true e = absurd (let l = leb-true (pending_in c) 0 e in omega (arith, l, some))
      by false e = refl

  -- ---- one more at the end

  pub one_more : (n : ℕ) (c d : LedgerCell) → d ≡ all_closed h n c → 1 ≤ pending_in d
      → one_closed d ≡ all_closed h (suc n) c
  one_more zero c d is some =
      ap one_closed is ∙ sym (first_closed 0 c (subst (λ (e : LedgerCell). 1 ≤ pending_in e) is some))
  one_more (suc n) c d is some = by (pending_in c) refl (λ after. one_more n (one_closed c) d after some)
    where
      by : (m : ℕ) → pending_in c ≡ m
          → (d ≡ all_closed h n (one_closed c) → one_closed d ≡ all_closed h (suc n) (one_closed c))
          → one_closed d ≡ all_closed h (suc (suc n)) c
      by zero none behind =
          let same : d ≡ c = is ∙ none_closed (suc n) c none in
          absurd (omega (arith, ap (λ (e : LedgerCell). pending_in e) same, none, some))
      by (suc m) more behind =
          let least : 1 ≤ pending_in c = omega (arith, more) in
          behind (is ∙ first_closed n c least) ∙ sym (first_closed (suc n) c least)

  -- ---- enough of them

  pub enough : (m n : ℕ) (c : LedgerCell) → 1 ≤ c.block_size → pending_in c ≤ m → pending_in c ≤ n
      → all_closed h m c ≡ all_closed h n c
  enough zero n c size few less = sym (none_closed n c (omega (arith, few)))
  enough (suc m) zero c size few less = none_closed (suc m) c (omega (arith, less))
  enough (suc m) (suc n) c size few less = by (pending_in c) refl (λ a b. enough m n (one_closed c) size a b)
    where
      by : (k : ℕ) → pending_in c ≡ k
          → (pending_in (one_closed c) ≤ m → pending_in (one_closed c) ≤ n
          → all_closed h m (one_closed c) ≡ all_closed h n (one_closed c))
          → all_closed h (suc m) c ≡ all_closed h (suc n) c
      by zero none behind = none_closed (suc m) c none ∙ sym (none_closed (suc n) c none)
      by (suc k) more behind =
          let least : 1 ≤ pending_in c = omega (arith, more) in
          let after = pending_after (next_block c) c in
          let some = next_some c size least in
          first_closed m c least
          ∙ behind (omega (arith, after, some, few)) (omega (arith, after, some, less))
          ∙ sym (first_closed n c least)

  -- what is left to close is the same after one more
  pub left_to_close : (c : LedgerCell) → 1 ≤ c.block_size → 1 ≤ pending_in c
      → all_closed h (pending_in (one_closed c)) (one_closed c) ≡ all_closed h (pending_in c) c
  left_to_close c size some = by (pending_in c) refl
    where
      by : (m : ℕ) → pending_in c ≡ m
          → all_closed h (pending_in (one_closed c)) (one_closed c) ≡ all_closed h m c
      by zero none = absurd (omega (arith, some, none))
      by (suc m) more =
          let after = pending_after (next_block c) c in
          let least = next_some c size some in
          enough (pending_in (one_closed c)) m (one_closed c) size (omega arith)
          (omega (arith, after, least, more))
          ∙ sym (first_closed m c some)

  -- ---- where one block takes all that is pending

  next_is_all : (c : LedgerCell) → pending_in c ≤ c.block_size → next_block c ≡ pending_in c
  next_is_all c fits = by (nat_le c.block_size (pending_in c)) refl
    where
      by : (b : Bool) → nat_le c.block_size (pending_in c) ≡ b
          → (if b then c.block_size else pending_in c) ≡ pending_in c
      by true e = let l = leb-true c.block_size (pending_in c) e in omega (arith, l, fits)
      by false e = refl

  module _ (c d : LedgerCell) (fits : pending_in c ≤ c.block_size) (some : 1 ≤ pending_in c)
      (is : d ≡ closed_by h (pending_in c) c) where
    pub none_then : pending_in d ≡ 0
    none_then =
        ap (λ (e : LedgerCell). pending_in e) is
        ∙ (let after = pending_after (pending_in c) c in omega (arith, after))

    pub by_one : d ≡ all_closed h (pending_in c) c
    by_one = by (pending_in c) refl
      where
        one : d ≡ one_closed c
        one = is ∙ ap (λ (m : ℕ). closed_by h m c) (sym (next_is_all c fits))

        by : (m : ℕ) → pending_in c ≡ m → d ≡ all_closed h m c
        by zero none = absurd (omega (arith, some, none))
        by (suc m) more =
            one ∙ sym (none_closed m (one_closed c)
            (ap (λ (e : LedgerCell). pending_in e) (sym one) ∙ none_then)) ∙ sym (first_closed m c some)

  -- ---- one block more, of k entries

  module _ (k : ℕ) (c d : LedgerCell) (is : d ≡ closed_by h k c) (some : 1 ≤ pending_in c) where
    fewer : pending_in d ≡ pending_in c - k
    fewer = ap (λ (e : LedgerCell). pending_in e) is ∙ pending_after k c

    pub smaller : 1 ≤ k → pending_in d < pending_in c
    smaller least = omega (arith, fewer, least, some)

    pub some_stay : k < pending_in c → 1 ≤ pending_in d
    some_stay more = omega (arith, fewer, more)

    pub count_stays : tx_count d.items ≡ tx_count c.items
    count_stays =
        ap (λ (e : LedgerCell). tx_count e.items) is
        ∙ (let all = count_append c.items (Close k ∷ []) in omega arith)

    module _ (next : k ≡ next_block c) where
      one : d ≡ one_closed c
      one = is ∙ ap (λ (m : ℕ). closed_by h m c) next

      pub one_further : (n : ℕ) (first : LedgerCell) → c ≡ all_closed h n first
          → d ≡ all_closed h (suc n) first
      one_further n first so_far = one ∙ one_more n first c so_far some

      pub rest_stays : 1 ≤ k → all_closed h (pending_in d) d ≡ all_closed h (pending_in c) c
      rest_stays least =
          ap (λ (e : LedgerCell). all_closed h (pending_in e) e) one
          ∙ left_to_close c (size_of_next c (omega (arith, next, least))) some

-- ---- the cell stays legal

pub closings_are_legal : (v : Server) (n : ℕ) (c : LedgerCell) → LedgerIsLegal v c
    → LedgerIsLegal v (all_closed v.hash n c)
closings_are_legal v zero c l = l
closings_are_legal v (suc n) c l = by (pending_in c) refl (closings_are_legal v n (one_closed v.hash c))
  where
    by : (m : ℕ) → pending_in c ≡ m
        → (LedgerIsLegal v (one_closed v.hash c)
        → LedgerIsLegal v (all_closed v.hash n (one_closed v.hash c)))
        → LedgerIsLegal v (all_closed v.hash (suc n) c)
    by zero none behind = subst (LedgerIsLegal v) (sym (none_closed v.hash (suc n) c none)) l
    by (suc m) more behind =
        let least : 1 ≤ pending_in c = omega (arith, more) in
        subst (LedgerIsLegal v) (sym (first_closed v.hash n c least))
        (let k = next_within c l.some_size least in behind (closing_is_legal v c (next_block c) k.0 k.1 k.2 l))
