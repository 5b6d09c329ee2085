-- The digest of a closed block is a digest of its journal.
use Rattle.std.proofs.Common.{◌≡◌, ◌≤◌, ◌<◌, ℕ, zero, suc, ◌-◌, refl, ap, sym, ◌∙◌, List, [], ◌∷◌, ◌++◌, length, arith, Some}
use Rattle.std.specs.Prelude.{slice_get}
use Rattle.sql_types.specs.declared.journal.JournalItem.{JournalItem}
use Rattle.sql_types.specs.declared.journal.JournalItem.TheVariants.{Tx, Close}
use Rattle.spec_model.specs.Catalog.{Tables}
use Rattle.spec_model.specs.Journals.{tx_count, closed, after_item, IsLegalFrom, IsLegal}
use Rattle.spec_model.specs.Script.{Reading}
use Rattle.spec_model.specs.SystemTables.{first_tables}
use Rattle.spec_history.specs.Digests.{IsDigest}
use Rattle.spec_history.specs.Journals.{blocks, in_blocks, times}
use Rattle.spec_history.specs.Meaning.{Meaning}
use Rattle.spec_history.proofs.Grows.{closed_append}
use Rattle.spec_history.proofs.Trace.{count_append}
use Rattle.law_blocks.specs.Digests.{or_zero, digest_of}
use Rattle.spec_ledger.specs.Ledger.{block_hash}

in_blocks_most : (n : ℕ) (J : List JournalItem) → in_blocks n J ≤ closed J
in_blocks_most zero J = omega arith
in_blocks_most (suc n) [] = omega arith
in_blocks_most (suc n) (Tx id session time explicit lines ∷ is) = in_blocks_most (suc n) is
in_blocks_most (suc n) (Close k ∷ is) = omega (arith, in_blocks_most n is)

times_counted : (J : List JournalItem) → length (times J) ≡ tx_count J
times_counted [] = refl
times_counted (Tx id session time explicit lines ∷ is) = ap suc (times_counted is)
times_counted (Close k ∷ is) = times_counted is

get_some : (xs : List ℕ) (i : ℕ) → i < length xs → (n : ℕ) × (slice_get xs i ≡ Some n)
get_some [] i lt = absurd (omega arith)
get_some (x ∷ xs) zero lt = (x, refl)
get_some (x ∷ xs) (suc i) lt = get_some xs i (omega arith)

module _ (reads : Reading) where
  -- a block has an entry
  one_in_block : (before : List JournalItem) (T : Tables) (b : ℕ) (J : List JournalItem) → IsLegalFrom reads before T J → b < blocks J → 1 ≤ in_blocks (suc b) J
  one_in_block before T b [] legal lt = absurd (omega arith)
  one_in_block before T b (Tx id session time explicit lines ∷ is) legal lt =
      one_in_block (before ++ Tx id session time explicit lines ∷ []) (after_item reads T (Tx id session time explicit lines)) b is legal.1 lt
  one_in_block before T b (Close k ∷ is) legal lt = let one = legal.0.0 in omega arith

  closed_most : (before : List JournalItem) (T : Tables) (J : List JournalItem) → IsLegalFrom reads before T J → closed before ≤ tx_count before
      → closed (before ++ J) ≤ tx_count (before ++ J)
  closed_most before T [] legal le = omega (arith, closed_append before [], count_append before [])
  closed_most before T (Tx id session time explicit lines ∷ is) legal le =
      let i = Tx id session time explicit lines in
      let now : closed (before ++ i ∷ []) ≤ tx_count (before ++ i ∷ []) = omega (arith, closed_append before (i ∷ []), count_append before (i ∷ [])) in
      let all = closed_most (before ++ i ∷ []) (after_item reads T i) is legal.1 now in
      omega (arith, all, closed_append (before ++ i ∷ []) is, count_append (before ++ i ∷ []) is, closed_append before (i ∷ is), count_append before (i ∷ is), closed_append before (i ∷ []), count_append before (i ∷ []))
  closed_most before T (Close k ∷ is) legal le =
      let i = Close k in
      let most = legal.0.2 in
      let now : closed (before ++ i ∷ []) ≤ tx_count (before ++ i ∷ []) = omega (arith, closed_append before (i ∷ []), count_append before (i ∷ [])) in
      let all = closed_most (before ++ i ∷ []) T is legal.1 now in
      omega (arith, all, closed_append (before ++ i ∷ []) is, count_append (before ++ i ∷ []) is, closed_append before (i ∷ is), count_append before (i ∷ is), closed_append before (i ∷ []), count_append before (i ∷ []))

  pub digest_is : (h : List ℕ → List ℕ) (q : Meaning) (database : List ℕ) (J : List JournalItem) (b made : ℕ)
      → ((K : List JournalItem) (a : ℕ) → q.block_hash K a ≡ block_hash h reads K a) → IsLegal reads J → b < blocks J
      → IsDigest q database J (digest_of h reads database J b made)
  digest_is h q database J b made hashes legal lt =
      let n = in_blocks (suc b) J in
      let some = get_some (times J) (n - 1) (omega (arith, one_in_block [] first_tables b J legal lt, closed_most [] first_tables J legal (omega arith), in_blocks_most (suc b) J, times_counted J)) in
      record { of = refl; hash = sym (hashes J b); last = some.1 ∙ sym (ap Some (ap or_zero some.1)) }
