-- What one more item adds to the ledger of a journal.
use Rattle.std.proofs.Common.{◌≡◌, ◌<◌, ℕ, zero, suc, ◌+◌, refl, ap, sym, subst, ◌∙◌, List, [], ◌∷◌, ◌++◌, length, arith, append_assoc, append-nil}
use Rattle.sql_types.specs.declared.entry.BlockRecord.{BlockRecord}
use Rattle.sql_types.specs.declared.entry.TxEntry.{TxEntry}
use Rattle.sql_types.specs.declared.journal.JournalItem.{JournalItem}
use Rattle.sql_types.specs.declared.journal.JournalItem.TheVariants.{Tx, Close}
use Rattle.spec_model.specs.Catalog.{Tables}
use Rattle.spec_model.specs.Journals.{after_item, serial_from, serial}
use Rattle.spec_model.specs.Script.{Reading}
use Rattle.spec_model.specs.SystemTables.{first_tables}
use Rattle.spec_ledger.specs.Blocks.{hash_at}
use Rattle.spec_ledger.specs.Ledger.{Ledger, empty_ledger, recorded, ledger_from, ledger_of}

pub hash_in_front : (h : List ℕ → List ℕ) (b : ℕ) (rs more : List BlockRecord) → b < length rs → hash_at h (rs ++ more) b ≡ hash_at h rs b
hash_in_front h b [] more lt = absurd (omega arith)
hash_in_front h zero (r ∷ rs) more lt = refl
hash_in_front h (suc b) (r ∷ rs) more lt = hash_in_front h b rs more (omega arith)

-- a ledger has another one's blocks and closed entries in front
pub record Extends (l m : Ledger) : Type 0 where
  pub more_blocks : List BlockRecord
  pub blocks : m.blocks ≡ l.blocks ++ more_blocks
  pub more_closed : List TxEntry
  pub closed : m.closed ≡ l.closed ++ more_closed

extends_itself : (l : Ledger) → Extends l l
extends_itself l = record { more_blocks = []; blocks = sym (append-nil l.blocks); more_closed = []; closed = sym (append-nil l.closed) }

extends_more : (l m n : Ledger) → Extends l m → Extends m n → Extends l n
extends_more l m n a b = record {
  more_blocks = a.more_blocks ++ b.more_blocks;
  blocks = b.blocks ∙ ap (λ (x : List BlockRecord). x ++ b.more_blocks) a.blocks ∙ append_assoc l.blocks a.more_blocks b.more_blocks;
  more_closed = a.more_closed ++ b.more_closed;
  closed = b.closed ∙ ap (λ (x : List TxEntry). x ++ b.more_closed) a.closed ∙ append_assoc l.closed a.more_closed b.more_closed;
}

module _ (reads : Reading) where
  pub serial_more : (T : Tables) (J : List JournalItem) (i : JournalItem) → serial_from reads T (J ++ i ∷ []) ≡ after_item reads (serial_from reads T J) i
  unfolding serial_from
  serial_more T [] i = refl
  serial_more T (j ∷ js) i = serial_more (after_item reads T j) js i

module _ (h : List ℕ → List ℕ) where
  recorded_extends : (T : Tables) (i : JournalItem) (l : Ledger) → Extends l (recorded h T i l)
  recorded_extends T (Tx id session time explicit lines) l =
      record { more_blocks = []; blocks = sym (append-nil l.blocks); more_closed = []; closed = sym (append-nil l.closed) }
  recorded_extends T (Close k) l = record { more_blocks = _; blocks = refl; more_closed = _; closed = refl }

  module _ (reads : Reading) where
    pub from_append : (T : Tables) (l : Ledger) (J K : List JournalItem)
        → ledger_from h reads T l (J ++ K) ≡ ledger_from h reads (serial_from reads T J) (ledger_from h reads T l J) K
    unfolding ledger_from serial_from
    from_append T l [] K = refl
    from_append T l (i ∷ is) K = let after = after_item reads T i in from_append after (recorded h after i l) is K

    pub one_more : (J : List JournalItem) (i : JournalItem)
        → ledger_of h reads (J ++ i ∷ []) ≡ recorded h (serial reads (J ++ i ∷ [])) i (ledger_of h reads J)
    unfolding ledger_from
    one_more J i = from_append first_tables empty_ledger J (i ∷ []) ∙ ap (λ (T : Tables). recorded h T i (ledger_of h reads J)) (sym (serial_more reads first_tables J i))

    from_extends : (T : Tables) (l : Ledger) (J : List JournalItem) → Extends l (ledger_from h reads T l J)
    unfolding ledger_from
    from_extends T l [] = extends_itself l
    from_extends T l (i ∷ is) =
        let after = after_item reads T i in
        extends_more l (recorded h after i l) _ (recorded_extends after i l) (from_extends after (recorded h after i l) is)

    pub more_extends : (J K : List JournalItem) → Extends (ledger_of h reads J) (ledger_of h reads (J ++ K))
    more_extends J K =
        subst (λ (m : Ledger). Extends (ledger_of h reads J) m) (sym (from_append first_tables empty_ledger J K))
        (from_extends (serial_from reads first_tables J) (ledger_of h reads J) K)
