-- The digest of the newest block of a legal cell is one of its journal.
use Rattle.std.proofs.Common.{◌≡◌, ℕ, zero, suc, ◌+◌, Bool, true, false, List, [], ◌∷◌, ◌++◌, length, map, take, drop, refl, ap, sym, subst, ◌∙◌, arith, Some, append_assoc, append-nil}
use Rattle.std.specs.Prelude.{nat_le, if◌then◌else◌}
use Rattle.std.proofs.lemmas.List.{take-append-drop}
use Rattle.sql_types.specs.declared.digest.Digest.{Digest}
use Rattle.sql_types.specs.declared.entry.BlockRecord.{BlockRecord}
use Rattle.sql_types.specs.declared.entry.TxEntry.{TxEntry}
use Rattle.sql_types.specs.declared.journal.JournalItem.{JournalItem}
use Rattle.sql_types.specs.declared.journal.JournalItem.TheVariants.{Tx, Close}
use Rattle.spec_model.specs.Catalog.{Tables}
use Rattle.spec_model.specs.Journals.{after_item}
use Rattle.spec_model.specs.Script.{Reading}
use Rattle.spec_model.specs.SystemTables.{first_tables}
use Rattle.spec_history.specs.Digests.{IsDigest, last_time}
use Rattle.spec_history.specs.Journals.{blocks, in_blocks, times}
use Rattle.spec_history.specs.Lists.{Text}
use Rattle.spec_history.proofs.Grows.{blocks_all}
use Rattle.spec_ledger.specs.Blocks.{no_hash, record_hash, last_hash, hash_at}
use Rattle.spec_protocol.specs.Digests.{or_zero, digest_of}
use Rattle.spec_ledger.specs.Entries.{entry_of, at_place, placed}
use Rattle.spec_ledger.specs.Ledger.{Ledger, empty_ledger, recorded, ledger_from, entries_of, block_hash}
use Rattle.spec_protocol.proofs.Counting.{closed_counted}
use Rattle.spec_protocol.specs.Cells.{LedgerCell, pending_in}
use Rattle.spec_protocol.specs.LedgerIsLegal.{LedgerIsLegal}
use Rattle.spec_protocol.specs.LedgerVisits.{all_closed}
use Rattle.spec_protocol.specs.Server.{Server}
use Rattle.spec_protocol.proofs.LedgerNumbers.{blocks_are}
use Rattle.store_ledger.specs.declared.cell.IssuedDigest.{IssuedDigest}
use Rattle.store_ledger.specs.Issues.{IsOfNewest, IsIssued}
use Rattle.store_ledger.proofs.Closings.{one_closed, closings_are_legal}
use Rattle.store_ledger.proofs.Newest.{nothing}

-- ---- the hash of the last block

hash_of_last : (h : List ℕ → List ℕ) (previous : List ℕ) (rs : List BlockRecord) (b : ℕ) → length rs ≡ b + 1
    → last_hash h previous rs ≡ hash_at h rs b
hash_of_last h previous [] b e = absurd (omega (arith, e))
hash_of_last h previous (r ∷ []) zero e = refl
hash_of_last h previous (r ∷ []) (suc b) e = absurd (omega (arith, e))
hash_of_last h previous (r ∷ (s ∷ rs)) zero e = absurd (omega (arith, e))
hash_of_last h previous (r ∷ (s ∷ rs)) (suc b) e =
    hash_of_last h (record_hash h r) (s ∷ rs) b (omega (arith, e))

-- ---- the times of the entries

abbrev times_in : List TxEntry → List ℕ
times_in es = map (λ e. e.time) es

times_joined : (xs ys : List TxEntry) → times_in (xs ++ ys) ≡ times_in xs ++ times_in ys
times_joined [] ys = refl
times_joined (x ∷ xs) ys = ap (λ (l : List ℕ). x.time ∷ l) (times_joined xs ys)

times_placed : (b o : ℕ) (es : List TxEntry) → times_in (placed b o es) ≡ times_in es
times_placed b o [] = refl
times_placed b o (e ∷ es) = ap (λ (l : List ℕ). e.time ∷ l) (times_placed b (o + 1) es)

abbrev all_of : Ledger → List TxEntry
all_of l = l.closed ++ l.pending

module _ (h : List ℕ → List ℕ) where
  times_of_one : (T : Tables) (i : JournalItem) (l : Ledger)
      → times_in (all_of (recorded h T i l)) ≡ times_in (all_of l) ++ times (i ∷ [])
  times_of_one T (Tx id session time explicit lines) l =
      let entry = at_place (length l.blocks) (length l.pending) (entry_of h T id session time) in
      ap times_in (sym (append_assoc l.closed l.pending (entry ∷ []))) ∙ times_joined (all_of l) (entry ∷ [])
  times_of_one T (Close k) l =
      let front = take k l.pending in
      let back = drop k l.pending in
      times_joined (l.closed ++ front) (placed (length l.blocks + 1) 0 back)
      ∙ ap (λ (m : List ℕ). times_in (l.closed ++ front) ++ m) (times_placed (length l.blocks + 1) 0 back)
      ∙ sym (times_joined (l.closed ++ front) back)
      ∙ ap times_in (append_assoc l.closed front back)
      ∙ ap (λ (m : List TxEntry). times_in (l.closed ++ m)) (take-append-drop k l.pending)
      ∙ sym (append-nil (times_in (all_of l)))

  times_split : (i : JournalItem) (is : List JournalItem) → times (i ∷ is) ≡ times (i ∷ []) ++ times is
  times_split (Tx id session time explicit lines) is = refl
  times_split (Close k) is = refl

  module _ (reads : Reading) where
    times_from : (T : Tables) (l : Ledger) (J : List JournalItem)
        → times_in (all_of (ledger_from h reads T l J)) ≡ times_in (all_of l) ++ times J
    unfolding ledger_from
    times_from T l [] = sym (append-nil (times_in (all_of l)))
    times_from T l (i ∷ is) =
        let after = after_item reads T i in
        times_from after (recorded h after i l) is
        ∙ ap (λ (m : List ℕ). m ++ times is) (times_of_one after i l)
        ∙ append_assoc (times_in (all_of l)) (times (i ∷ [])) (times is)
        ∙ ap (λ (m : List ℕ). times_in (all_of l) ++ m) (sym (times_split i is))

    times_of_entries : (J : List JournalItem) → times_in (entries_of h reads J) ≡ times J
    times_of_entries J = times_from first_tables empty_ledger J

-- ---- the digest

module _ (v : Server) (c : LedgerCell) (l : LedgerIsLegal v c) (none : pending_in c ≡ 0) (d : Digest)
    (newest : IsOfNewest v.hash c d) where
  all_blocks : blocks c.items ≡ d.block + 1
  all_blocks = sym (blocks_are v c l) ∙ newest.newest

  hash_is : d.hash ≡ v.meaning.block_hash c.items d.block
  hash_is =
      newest.hash ∙ hash_of_last v.hash no_hash c.chain.blocks d.block newest.newest
      ∙ ap (λ (m : Ledger). hash_at v.hash m.blocks d.block) l.chain
      ∙ sym (v.real.block_hash c.items d.block ∙ v.hashes c.items d.block)

  in_them : in_blocks (suc d.block) c.items ≡ length c.chain.closed
  in_them =
      let same : suc d.block ≡ blocks c.items = omega (arith, all_blocks) in
      ap (λ (n : ℕ). in_blocks n c.items) same
      ∙ ap (λ (J : List JournalItem). in_blocks (blocks c.items) J) (sym (append-nil c.items))
      ∙ blocks_all c.items []
      ∙ sym (ap (λ (m : Ledger). length m.closed) l.chain ∙ closed_counted v.hash v.reads c.items l.legal)

  times_are : times c.items ≡ times_in c.chain.closed
  times_are =
      sym (ap (λ (m : Ledger). times_in (all_of m)) l.chain ∙ times_of_entries v.hash v.reads c.items)
      ∙ ap (λ (m : List TxEntry). times_in (c.chain.closed ++ m)) (nothing c.chain.pending none)
      ∙ ap times_in (append-nil c.chain.closed)

  last_is : last_time c.items d.block ≡ Some d.last_commit
  last_is = rw (in_them, times_are) newest.last

  pub is_digest : IsDigest v.meaning c.database c.items d
  is_digest = record { of = newest.database; hash = hash_is; last = last_is }

-- ---- the digest that is issued, once all is closed

pub same_database : (h : List ℕ → List ℕ) (n : ℕ) (c : LedgerCell) → (all_closed h n c).database ≡ c.database
same_database h zero c = refl
same_database h (suc n) c = by (nat_le (pending_in c) 0) (same_database h n (one_closed h c))
  where
    by : (b : Bool) → (all_closed h n (one_closed h c)).database ≡ c.database
        → (if b then c else all_closed h n (one_closed h c)).database ≡ c.database
    by true behind = refl
    by false behind = behind

pub issued_is_digest : (v : Server) (made : ℕ) (c d : LedgerCell) (issued : IssuedDigest) → LedgerIsLegal v c
    → (i : IsIssued v.hash made c issued d)
    → IsDigest v.meaning c.database (all_closed v.hash (pending_in c) c).items i.digest
issued_is_digest v made c d issued l i =
    let all = all_closed v.hash (pending_in c) c in
    subst (λ (name : Text). IsDigest v.meaning name all.items i.digest)
    (same_database v.hash (pending_in c) c)
    (is_digest v all (closings_are_legal v (pending_in c) c l)
    (sym (ap (λ (e : LedgerCell). pending_in e) i.cell) ∙ i.none_pending) i.digest i.of_newest)

module _ (v : Server) (made : ℕ) (c d : LedgerCell) (issued : IssuedDigest) (l : LedgerIsLegal v c)
    (i : IsIssued v.hash made c issued d) where
  abbrev all : LedgerCell
  all = all_closed v.hash (pending_in c) c

  is : IsDigest v.meaning c.database all.items i.digest
  is = issued_is_digest v made c d issued l i

  hash : i.digest.hash ≡ block_hash v.hash v.reads all.items issued.block
  hash =
      is.hash ∙ v.real.block_hash all.items i.digest.block ∙ v.hashes all.items i.digest.block
      ∙ ap (block_hash v.hash v.reads all.items) (sym i.block)

  last : i.digest.last_commit ≡ or_zero (last_time all.items issued.block)
  last = sym (ap or_zero is.last) ∙ ap (λ (b : ℕ). or_zero (last_time all.items b)) (sym i.block)

  pub issued_is_digest_of : i.digest ≡ digest_of v.hash v.reads c.database all.items issued.block made
  issued_is_digest_of = λ k. record {
    database = is.of k;
    block = sym i.block k;
    hash = hash k;
    last_commit = last k;
    made = i.made k;
  }
