-- Issuing a digest, where one block takes all that is pending.
use Rattle.std.proofs.Common.{◌≡◌, ◌≤◌, ℕ, zero, suc, ◌+◌, List, [], ◌∷◌, ◌++◌, length, refl, ap, sym, subst, ◌∙◌, arith}
use Rattle.sql_types.specs.declared.digest.Digest.{Digest}
use Rattle.sql_types.specs.declared.journal.JournalItem.{JournalItem}
use Rattle.sql_types.specs.declared.journal.JournalItem.TheVariants.{Close}
use Rattle.spec_model.specs.Journals.{tx_count}
use Rattle.spec_ledger.specs.Ledger.{Ledger, closes}
use Rattle.spec_protocol.specs.Cells.{LedgerCell, pending_in}
use Rattle.spec_protocol.specs.LedgerVisits.{all_closed, closed_by, with_digest}
use Rattle.store_ledger.specs.HashedCell.{IsCounted}
use Rattle.store_ledger.specs.Issues.{IsOfNewest, IsIssued}
use Rattle.store_ledger.specs.declared.cell.IssuedDigest.{IssuedDigest}
use Rattle.store_ledger.proofs.Closings.{by_one, count_stays, none_closed, none_then}
use Rattle.store_ledger.proofs.Counted.{closed}

-- the cell with these items and blocks
abbrev pub now_with : List JournalItem → Ledger → LedgerCell → LedgerCell
now_with items chain c = record {
  database = c.database;
  block_size = c.block_size;
  items = items;
  next = c.next;
  chain = chain;
  issued = c.issued;
}

-- the cell with these digests
abbrev pub with_issued : List Digest → LedgerCell → LedgerCell
with_issued digests c = record {
  database = c.database;
  block_size = c.block_size;
  items = c.items;
  next = c.next;
  chain = c.chain;
  issued = digests;
}

module _ (h : List ℕ → List ℕ) (c : LedgerCell) (items : List JournalItem) (chain : Ledger)
    (counted : IsCounted c.block_size c.items c.next c.chain)
    (fits : pending_in c ≤ c.block_size)
    (same_items : pending_in c ≡ 0 → items ≡ c.items)
    (same_chain : pending_in c ≡ 0 → chain ≡ c.chain)
    (item : 1 ≤ pending_in c → items ≡ c.items ++ Close (pending_in c) ∷ [])
    (block : 1 ≤ pending_in c → chain ≡ closes h (pending_in c) c.chain) where
  abbrev d : LedgerCell
  d = now_with items chain c

  same : pending_in c ≡ 0 → d ≡ c
  same none = λ i. now_with (same_items none i) (same_chain none i) c

  one : 1 ≤ pending_in c → d ≡ closed_by h (pending_in c) c
  one some = λ i. now_with (item some i) (block some i) c

  pub rest_is_counted : IsCounted c.block_size items c.next chain
  rest_is_counted = by (pending_in c) refl
    where
      by : (n : ℕ) → pending_in c ≡ n → IsCounted c.block_size items c.next chain
      by zero none = subst (λ (e : LedgerCell). IsCounted e.block_size e.items e.next e.chain)
          (sym (same none)) counted
      by (suc n) more =
          let some : 1 ≤ pending_in c = omega (arith, more) in
          closed c.block_size c.items items c.next c.chain chain counted h (pending_in c) (item some)
          (block some)

  pub none_is_left : length chain.pending ≡ 0
  none_is_left = by (pending_in c) refl
    where
      by : (n : ℕ) → pending_in c ≡ n → length chain.pending ≡ 0
      by zero none = ap (λ (e : LedgerCell). pending_in e) (same none) ∙ none
      by (suc n) more =
          let some : 1 ≤ pending_in c = omega (arith, more) in none_then h c d fits some (one some)

  pub count_is_kept : tx_count items ≡ tx_count c.items
  count_is_kept = by (pending_in c) refl
    where
      by : (n : ℕ) → pending_in c ≡ n → tx_count items ≡ tx_count c.items
      by zero none = ap tx_count (same_items none)
      by (suc n) more =
          let some : 1 ≤ pending_in c = omega (arith, more) in
          count_stays h (pending_in c) c d (one some) some

  all_is_closed : d ≡ all_closed h (pending_in c) c
  all_is_closed = by (pending_in c) refl
    where
      by : (n : ℕ) → pending_in c ≡ n → d ≡ all_closed h (pending_in c) c
      by zero none = same none ∙ sym (none_closed h (pending_in c) c none)
      by (suc n) more =
          let some : 1 ≤ pending_in c = omega (arith, more) in by_one h c d fits some (one some)

  pub issued_then : (made : ℕ) (digest : Digest) (issued : IssuedDigest) (digests : List Digest)
      → IsOfNewest h d digest → digest.made ≡ made → issued.block ≡ digest.block → issued.hash ≡ digest.hash
      → digests ≡ c.issued ++ digest ∷ [] → IsIssued h made c issued (with_issued digests d)
  issued_then made digest issued digests newest at block hash is =
      let so : with_issued digests d ≡ with_digest digest d = λ i. with_issued (is i) d in
      record {
        digest = digest;
        of_newest = subst (λ (x : LedgerCell). IsOfNewest h x digest) all_is_closed newest;
        made = at;
        block = block;
        hash = hash;
        none_pending = none_is_left;
        cell = so ∙ ap (λ (x : LedgerCell). with_digest digest x) all_is_closed;
      }

-- What is issued once full blocks were closed is issued of the cell before.
pub issued_of_all : (h : List ℕ → List ℕ) (made : ℕ) (c m d : LedgerCell) (issued : IssuedDigest)
    → all_closed h (pending_in m) m ≡ all_closed h (pending_in c) c
    → IsIssued h made m issued d → IsIssued h made c issued d
issued_of_all h made c m d issued same i = record {
  digest = i.digest;
  of_newest = subst (λ (x : LedgerCell). IsOfNewest h x i.digest) same i.of_newest;
  made = i.made;
  block = i.block;
  hash = i.hash;
  none_pending = i.none_pending;
  cell = i.cell ∙ ap (λ (x : LedgerCell). with_digest i.digest x) same;
}
