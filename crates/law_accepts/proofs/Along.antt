-- What holds along a legal journal, one item after another.
use Rattle.std.proofs.Common.{sym, subst, List, [], ◌∷◌, ◌++◌, append-nil, append_assoc}
use Rattle.sql_types.specs.declared.journal.JournalItem.{JournalItem}
use Rattle.spec_model.specs.Catalog.{Tables}
use Rattle.spec_model.specs.Journals.{after_item, serial_from, serial, IsNext, IsLegalFrom, IsLegal}
use Rattle.spec_model.specs.Script.{Reading}
use Rattle.spec_model.specs.SystemTables.{first_tables}
use Rattle.spec_ledger.proofs.Adding.{serial_more}

module _ (reads : Reading) where
  -- a legal journal with one more item that may stand behind it is legal
  pub more_legal : (before : List JournalItem) (T : Tables) (J : List JournalItem) (i : JournalItem) → IsLegalFrom reads before T J → IsNext reads (before ++ J) (serial_from reads T J) i
      → IsLegalFrom reads before T (J ++ i ∷ [])
  unfolding serial_from
  more_legal before T [] i legal next = (subst (λ (b : List JournalItem). IsNext reads b T i) (append-nil before) next, tt)
  more_legal before T (j ∷ js) i legal next = (
    legal.0,
    more_legal (before ++ j ∷ []) (after_item reads T j) js i legal.1
        (subst (λ (b : List JournalItem). IsNext reads b (serial_from reads (after_item reads T j) js) i) (sym (append_assoc before (j ∷ []) js)) next),
  )

  module _ (P : List JournalItem → Type 0)
      (step : (before : List JournalItem) (i : JournalItem) → IsLegal reads before → IsNext reads before (serial reads before) i → P before → P (before ++ i ∷ [])) where
    along_from : (before items : List JournalItem) → IsLegal reads before → IsLegalFrom reads before (serial reads before) items → P before → P (before ++ items)
    along_from before [] legal from p = subst P (sym (append-nil before)) p
    along_from before (i ∷ is) legal from p =
        let more : List JournalItem = before ++ i ∷ [] in
        subst P (append_assoc before (i ∷ []) is)
        (along_from more is (more_legal [] first_tables before i legal from.0)
        (subst (λ (T : Tables). IsLegalFrom reads more T is) (sym (serial_more reads first_tables before i)) from.1)
        (step before i legal from.0 p))

    -- what holds of the empty journal, and of each legal one if it holds of all but its last item
    pub along : (items : List JournalItem) → IsLegal reads items → P [] → P items
    unfolding serial_from
    along items legal p = along_from [] items tt legal p
