-- The blocks of a journal are counted, and stay.
use Rattle.std.proofs.Common.{◌≡◌, ◌<◌, ℕ, ◌+◌, ap, ◌∙◌, List, [], ◌∷◌, ◌++◌, length, arith}
use Rattle.std.proofs.lemmas.List.{length-append}
use Rattle.sql_types.specs.declared.entry.BlockRecord.{BlockRecord}
use Rattle.sql_types.specs.declared.journal.JournalItem.{JournalItem}
use Rattle.sql_types.specs.declared.journal.JournalItem.TheVariants.{Tx, Close}
use Rattle.spec_model.specs.Catalog.{Tables}
use Rattle.spec_model.specs.Journals.{after_item}
use Rattle.spec_model.specs.Script.{Reading}
use Rattle.spec_model.specs.SystemTables.{first_tables}
use Rattle.spec_history.specs.Journals.{blocks}
use Rattle.spec_history.specs.Real.{Hashing}
use Rattle.spec_history.proofs.Grows.{blocks_append}
use Rattle.spec_ledger.specs.Blocks.{hash_at}
use Rattle.spec_ledger.specs.Ledger.{Ledger, empty_ledger, recorded, ledger_from, blocks_of, block_hash}
use Rattle.spec_ledger.proofs.Adding.{hash_in_front, more_extends}

module _ (h : List ℕ → List ℕ) where
  recorded_blocks : (T : Tables) (i : JournalItem) (l : Ledger) → length (recorded h T i l).blocks ≡ length l.blocks + blocks (i ∷ [])
  recorded_blocks T (Tx id session time explicit lines) l = omega arith
  recorded_blocks T (Close k) l = length-append l.blocks _

  module _ (reads : Reading) where
    from_blocks : (T : Tables) (l : Ledger) (J : List JournalItem) → length (ledger_from h reads T l J).blocks ≡ length l.blocks + blocks J
    unfolding ledger_from
    from_blocks T l [] = omega arith
    from_blocks T l (i ∷ is) =
        let after = after_item reads T i in
        let one = recorded_blocks after i l in
        let more = from_blocks after (recorded h after i l) is in
        omega (arith, blocks_append (i ∷ []) is)

    pub blocks_counted : (J : List JournalItem) → length (blocks_of h reads J) ≡ blocks J
    blocks_counted J = from_blocks first_tables empty_ledger J ∙ omega arith

    pub hash_stays : (J K : List JournalItem) (b : ℕ) → b < blocks J → block_hash h reads (J ++ K) b ≡ block_hash h reads J b
    hash_stays J K b lt =
        let e = more_extends h reads J K in
        ap (λ (rs : List BlockRecord). hash_at h rs b) e.blocks
        ∙ hash_in_front h b (blocks_of h reads J) e.more_blocks (omega (arith, lt, blocks_counted J))

    unfoldable pub hashing : Hashing
    hashing = record { hash = block_hash h reads; stays = hash_stays }
