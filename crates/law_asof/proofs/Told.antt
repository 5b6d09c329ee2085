-- What the image of a legal journal tells of the versions behind its first transactions.
use Rattle.std.proofs.Common.{◌≡◌, ◌≤◌, ℕ, Bool, zero, suc, ◌+◌, refl, sym, ap, ◌∙◌, List, [], ◌∷◌, map, take, arith}
use Rattle.std.specs.List.{AllByRecursion}
use Rattle.std.proofs.lemmas.List.{take-map}
use Rattle.sql_types.specs.declared.entry.TxEntry.{TxEntry}
use Rattle.sql_types.specs.declared.journal.JournalItem.{JournalItem}
use Rattle.sql_types.specs.declared.journal.JournalItem.TheVariants.{Tx, Close}
use Rattle.sql_types.specs.declared.version.Table.{Table}
use Rattle.sql_types.specs.declared.version.Version.{Version}
use Rattle.spec_model.specs.Catalog.{versions_of}
use Rattle.spec_model.specs.Journals.{upto, serial, IsOther, IsLegal}
use Rattle.spec_model.specs.Runs.{SoundTable, Sound}
use Rattle.spec_model.specs.Script.{Reading}
use Rattle.spec_model.specs.Lists.{is_among}
use Rattle.spec_history.specs.Journals.{ids_of}
use Rattle.law_frame.proofs.Alls.{all_weaker, all_both}
use Rattle.law_frame.proofs.LegalSound.{legal_sound}
use Rattle.law_frame.proofs.UndoneTables.{own_versions}
use Rattle.format_image.specs.Image.{image_of}
use Rattle.format_image.specs.Rows.{filled_version, table_rows}
use Rattle.law_accepts.proofs.Ids.{same_ids}
use Rattle.spec_asof.specs.DatabaseAt.{first_ids, left_of, versions_at}
use Rattle.law_asof.proofs.Later.{upto_stays}
use Rattle.law_asof.proofs.Shown.{told_versions}

-- ---- the first transactions

ids_upto : (items : List JournalItem) (n : ℕ) → take n (ids_of items) ≡ ids_of (upto items n)
ids_upto items zero = refl
ids_upto [] (suc n) = refl
ids_upto (Tx id session time explicit lines ∷ is) (suc n) = ap (λ (ids : List ℕ). id ∷ ids) (ids_upto is n)
ids_upto (Close k ∷ is) (suc n) = ids_upto is (suc n)

pub first_are : (h : List ℕ → List ℕ) (reads : Reading) (database : List ℕ) (items : List JournalItem) (n : ℕ) → IsLegal reads items
    → first_ids (image_of h reads database items).entries n ≡ ids_of (upto items n)
unfolding image_of
first_are h reads database items n legal =
    let entries : List TxEntry = (image_of h reads database items).entries in
    sym (take-map (λ (e : TxEntry). e.id) n entries) ∙ ap (take n) (same_ids h reads items legal) ∙ ids_upto items n

-- ---- a transaction that the journal doesn't have

above : List JournalItem → ℕ
above [] = 0
above (Tx id session time explicit lines ∷ is) = suc (id + above is)
above (Close k ∷ is) = above is

all_other : (n : ℕ) (J : List JournalItem) → above J ≤ n → AllByRecursion (IsOther n) J
unfolding above
all_other n [] le = tt
all_other n (Tx id session time explicit lines ∷ is) le = ((λ e. absurd (omega (arith, e, le))), all_other n is (omega arith))
all_other n (Close k ∷ is) le = (tt, all_other n is le)

module _ (reads : Reading) (items : List JournalItem) (legal : IsLegal reads items) where
  sound : Sound (above items) 0 (serial reads items)
  sound = legal_sound reads items (above items) legal (all_other (above items) items (omega arith))

  -- each table's versions stand in the image as the first transactions left them, filled
  module _ (n : ℕ) where
    abbrev AreLeft : (ℕ → Bool) → Table → Type 0
    AreLeft has t = versions_at has (table_rows t) ≡ map (filled_version t.def.columns) (versions_of (serial reads (upto items n)) t.def.id)

    one_left : (t : Table) → (versions_of (serial reads items) t.def.id ≡ t.versions) × SoundTable (above items) 0 t → AreLeft (is_among (ids_of (upto items n))) t
    one_left t k =
        told_versions (is_among (ids_of (upto items n))) t k.1.rising
        ∙ ap (λ (vs : List Version). map (filled_version t.def.columns) vs) (ap (left_of (is_among (ids_of (upto items n)))) (sym k.0) ∙ upto_stays reads items n t.def.id legal)

    pub all_left : AllByRecursion (AreLeft (is_among (ids_of (upto items n)))) (serial reads items)
    all_left =
        all_weaker (λ t. (versions_of (serial reads items) t.def.id ≡ t.versions) × SoundTable (above items) 0 t) (AreLeft (is_among (ids_of (upto items n)))) one_left (serial reads items)
        (all_both (λ t. versions_of (serial reads items) t.def.id ≡ t.versions) (SoundTable (above items) 0) (serial reads items) (own_versions 1 (serial reads items) sound.ids) sound.each)
