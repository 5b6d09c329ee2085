-- How many entries a journal leads to, and how many of them are in blocks.
use Rattle.std.proofs.Common.{◌≡◌, ◌≤◌, ℕ, suc, ◌+◌, refl, ap, sym, ◌∙◌, List, [], ◌∷◌, ◌++◌, length, take, drop, arith}
use Rattle.std.proofs.lemmas.List.{length-append, take-append-drop, length-take-le}
use Rattle.sql_types.specs.declared.entry.TxEntry.{TxEntry}
use Rattle.sql_types.specs.declared.journal.JournalItem.{JournalItem}
use Rattle.sql_types.specs.declared.journal.JournalItem.TheVariants.{Tx, Close}
use Rattle.spec_model.specs.Catalog.{Tables}
use Rattle.spec_model.specs.Journals.{tx_count, closed, after_item, IsLegalFrom, IsLegal}
use Rattle.spec_model.specs.Script.{Reading}
use Rattle.spec_model.specs.SystemTables.{first_tables}
use Rattle.spec_history.proofs.Grows.{closed_append}
use Rattle.spec_history.proofs.Trace.{count_append}
use Rattle.spec_ledger.specs.Entries.{entry_of, at_place, placed}
use Rattle.spec_ledger.specs.Ledger.{Ledger, empty_ledger, recorded, ledger_from, ledger_of, entries_of}

placed_length : (b n : ℕ) (xs : List TxEntry) → length (placed b n xs) ≡ length xs
placed_length b n [] = refl
placed_length b n (x ∷ xs) = ap suc (placed_length b (n + 1) xs)

abbrev all_of : Ledger → ℕ
all_of l = length l.closed + length l.pending

parts_length : (k : ℕ) (xs : List TxEntry) → length (take k xs) + length (drop k xs) ≡ length xs
parts_length k xs = sym (length-append (take k xs) (drop k xs)) ∙ ap length (take-append-drop k xs)

module _ (h : List ℕ → List ℕ) where
  one_counted : (T : Tables) (i : JournalItem) (l : Ledger) → all_of (recorded h T i l) ≡ all_of l + tx_count (i ∷ [])
  one_counted T (Tx id session time explicit lines) l = omega (arith, length-append l.pending (at_place (length l.blocks) (length l.pending) (entry_of h T id session time) ∷ []))
  one_counted T (Close k) l =
      omega (arith, length-append l.closed (take k l.pending), placed_length (length l.blocks + 1) 0 (drop k l.pending), parts_length k l.pending)

  module _ (reads : Reading) where
    from_counted : (T : Tables) (l : Ledger) (J : List JournalItem) → all_of (ledger_from h reads T l J) ≡ all_of l + tx_count J
    unfolding ledger_from
    from_counted T l [] = omega arith
    from_counted T l (i ∷ is) =
        let after = after_item reads T i in
        omega (arith, from_counted after (recorded h after i l) is, one_counted after i l, count_append (i ∷ []) is)

    pub entries_counted : (J : List JournalItem) → length (entries_of h reads J) ≡ tx_count J
    entries_counted J =
        let l = ledger_of h reads J in
        omega (arith, length-append l.closed l.pending, from_counted first_tables empty_ledger J)

    -- ---- of a legal journal

    one_closed : (before : List JournalItem) (T U : Tables) (i : JournalItem) (l : Ledger) → all_of l ≡ tx_count before → length l.closed ≡ closed before
        → IsLegalFrom reads before U (i ∷ []) → length (recorded h T i l).closed ≡ closed before + closed (i ∷ [])
    one_closed before T U (Tx id session time explicit lines) l all in_blocks legal = omega arith
    one_closed before T U (Close k) l all in_blocks legal =
        let fits : k ≤ length l.pending = let most = legal.0.2 in omega arith in
        omega (arith, length-append l.closed (take k l.pending), length-take-le k l.pending fits)

    closed_from : (before : List JournalItem) (T : Tables) (l : Ledger) (J : List JournalItem) → all_of l ≡ tx_count before → length l.closed ≡ closed before
        → IsLegalFrom reads before T J → length (ledger_from h reads T l J).closed ≡ closed before + closed J
    unfolding ledger_from
    closed_from before T l [] all in_blocks legal = omega arith
    closed_from before T l (i ∷ is) all in_blocks legal =
        let after = after_item reads T i in
        let now = recorded h after i l in
        let one : length now.closed ≡ closed before + closed (i ∷ []) = one_closed before after T i l all in_blocks (legal.0, tt) in
        let all_now : all_of now ≡ tx_count (before ++ i ∷ []) = omega (arith, one_counted after i l, count_append before (i ∷ [])) in
        let closed_now : length now.closed ≡ closed (before ++ i ∷ []) = omega (arith, closed_append before (i ∷ [])) in
        omega (arith, closed_from (before ++ i ∷ []) after now is all_now closed_now legal.1, closed_append before (i ∷ []), closed_append (i ∷ []) is)

    pub closed_counted : (J : List JournalItem) → IsLegal reads J → length (ledger_of h reads J).closed ≡ closed J
    closed_counted J legal = closed_from [] first_tables empty_ledger J refl refl legal ∙ omega arith
