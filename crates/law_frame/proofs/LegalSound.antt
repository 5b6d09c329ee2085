-- The tables of a legal journal are sound for each transaction that it doesn't have.
use Rattle.std.proofs.Common.{ℕ, List, [], ◌∷◌, ◌++◌, map}
use Rattle.std.specs.List.{AllByRecursion}
use Rattle.sql_types.specs.declared.journal.JournalItem.{JournalItem}
use Rattle.sql_types.specs.declared.journal.JournalItem.TheVariants.{Tx, Close}
use Rattle.spec_model.specs.Catalog.{Tables}
use Rattle.spec_model.specs.SystemTables.{first_tables}
use Rattle.spec_model.specs.Runs.{Sound}
use Rattle.spec_model.specs.Script.{Reading}
use Rattle.spec_model.specs.Journals.{IsOther, after_item, serial_from, serial, IsNext, IsLegalFrom, IsLegal}
use Rattle.law_frame.proofs.OtherTransactions.{others_sound}
use Rattle.law_frame.proofs.SoundStatements.{first_sound}

pub first_part : (P : JournalItem → Type 0) (xs ys : List JournalItem) → AllByRecursion P (xs ++ ys) → AllByRecursion P xs
first_part P [] ys h = tt
first_part P (x ∷ xs) ys h = (h.0, first_part P xs ys h.1)

pub last_one : (P : JournalItem → Type 0) (xs : List JournalItem) (y : JournalItem) → AllByRecursion P (xs ++ y ∷ []) → P y
last_one P [] y h = h.0
last_one P (x ∷ xs) y h = last_one P xs y h.1

regrouped : (P : JournalItem → Type 0) (xs : List JournalItem) (y : JournalItem) (ys : List JournalItem) → AllByRecursion P (xs ++ y ∷ ys) → AllByRecursion P ((xs ++ y ∷ []) ++ ys)
regrouped P [] y ys h = h
regrouped P (x ∷ xs) y ys h = (h.0, regrouped P xs y ys h.1)

module _ (reads : Reading) where
  -- sound for each transaction that isn't among these
  abbrev SoundForOthers : List JournalItem → Tables → Type 0
  SoundForOthers before T = (id : ℕ) → AllByRecursion (IsOther id) before → Sound id 0 T

  after_one : (before : List JournalItem) (T : Tables) (item : JournalItem) → IsNext reads before T item → SoundForOthers before T → SoundForOthers (before ++ item ∷ []) (after_item reads T item)
  after_one before T (Tx own session time explicit lines) next h id others =
      others_sound own id 0 (last_one (IsOther id) before (Tx own session time explicit lines) others) reads explicit T (map (λ l. l.0) lines)
      (h own next.1) (h id (first_part (IsOther id) before (Tx own session time explicit lines ∷ []) others))
  after_one before T (Close k) next h id others = h id (first_part (IsOther id) before (Close k ∷ []) others)

  after_all : (before : List JournalItem) (T : Tables) (items : List JournalItem) → IsLegalFrom reads before T items → SoundForOthers before T → (id : ℕ) → AllByRecursion (IsOther id) (before ++ items) → Sound id 0 (serial_from reads T items)
  unfolding serial_from
  after_all before T [] legal h id others = h id (first_part (IsOther id) before [] others)
  after_all before T (i ∷ is) legal h id others =
      after_all (before ++ i ∷ []) (after_item reads T i) is legal.1 (after_one before T i legal.0 h) id (regrouped (IsOther id) before i is others)

  pub legal_sound : (items : List JournalItem) (id : ℕ) → IsLegal reads items → AllByRecursion (IsOther id) items → Sound id 0 (serial reads items)
  legal_sound items id legal others = after_all [] first_tables items legal (λ own none. first_sound own 0) id others
