-- The counts of the cell, after a commit and after a closing.
use Rattle.std.proofs.Common.{◌≡◌, ℕ, suc, ◌+◌, Bool, List, [], ◌∷◌, ◌++◌, length, take, drop, refl, ap, sym, ◌∙◌, arith}
use Rattle.std.proofs.lemmas.List.{length-append, take-append-drop}
use Rattle.sql_types.specs.declared.entry.TxEntry.{TxEntry}
use Rattle.sql_types.specs.declared.journal.JournalItem.{JournalItem}
use Rattle.sql_types.specs.declared.journal.JournalItem.TheVariants.{Tx, Close}
use Rattle.spec_model.specs.Journals.{Line}
use Rattle.spec_history.proofs.Trace.{count_append}
use Rattle.spec_ledger.specs.Blocks.{no_hash, block_of, last_hash}
use Rattle.spec_ledger.specs.Entries.{at_place, placed}
use Rattle.spec_ledger.specs.Ledger.{Ledger, commits, closes}
use Rattle.store_ledger.specs.HashedCell.{IsCounted}

pub length_placed : (block ordinal : ℕ) (es : List TxEntry) → length (placed block ordinal es) ≡ length es
length_placed block ordinal [] = refl
length_placed block ordinal (e ∷ es) = ap suc (length_placed block (ordinal + 1) es)

parts : (k : ℕ) (es : List TxEntry) → length (take k es) + length (drop k es) ≡ length es
parts k es = sym (length-append (take k es) (drop k es)) ∙ ap length (take-append-drop k es)

module _ (size : ℕ) (items after : List JournalItem) (next : ℕ) (chain then : Ledger)
    (counted : IsCounted size items next chain) where
  pub committed : (entry : TxEntry) (id time : ℕ) (session : List ℕ) (explicit : Bool) (script : List Line)
      → after ≡ items ++ Tx id session time explicit script ∷ [] → then ≡ commits entry chain
      → IsCounted size after next then
  committed entry id time session explicit script item more =
      rw (item, more) (record {
        some_size = counted.some_size;
        most_size = counted.most_size;
        most_next = counted.most_next;
        entries = omega (
          arith,
          counted.entries,
          length-append chain.pending (at_place (length chain.blocks) (length chain.pending) entry ∷ []),
          count_append items (Tx id session time explicit script ∷ []),
        );
        in_blocks = counted.in_blocks;
      })

  pub closed : (h : List ℕ → List ℕ) (k : ℕ) → after ≡ items ++ Close k ∷ [] → then ≡ closes h k chain
      → IsCounted size after next then
  closed h k item more =
      rw (item, more) (record {
        some_size = counted.some_size;
        most_size = counted.most_size;
        most_next = counted.most_next;
        entries = omega (
          arith,
          counted.entries,
          parts k chain.pending,
          length-append chain.closed (take k chain.pending),
          length_placed (length chain.blocks + 1) 0 (drop k chain.pending),
          count_append items (Close k ∷ []),
        );
        in_blocks = λ none. absurd (omega (
          arith,
          none,
          length-append chain.blocks
              (block_of h (length chain.blocks) (take k chain.pending) (last_hash h no_hash chain.blocks) ∷ []),
        ));
      })
