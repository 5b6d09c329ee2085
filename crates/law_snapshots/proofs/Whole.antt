-- A journal up to its last transaction leads to what the whole journal leads to.
use Rattle.std.proofs.Common.{◌≡◌, ◌∙◌, ℕ, zero, suc, List, [], ◌∷◌, length, refl, sym, arith}
use Rattle.sql_types.specs.declared.journal.JournalItem.{JournalItem}
use Rattle.sql_types.specs.declared.journal.JournalItem.TheVariants.{Tx, Close}
use Rattle.spec_model.specs.Catalog.{Tables}
use Rattle.spec_model.specs.Journals.{after_item, serial_from, tx_count, upto}
use Rattle.spec_model.specs.Script.{Reading}
use Rattle.spec_ledger.specs.Ledger.{entries_of}
use Rattle.format_image.specs.Image.{image_of}

pub entries_are : (h : List ℕ → List ℕ) (reads : Reading) (database : List ℕ) (items : List JournalItem) → length (image_of h reads database items).entries ≡ length (entries_of h reads items)
unfolding image_of
entries_are h reads database items = refl

module _ (reads : Reading) where
  pub serial_whole : (tables : Tables) (items : List JournalItem) (n : ℕ) → n ≡ tx_count items → serial_from reads tables (upto items n) ≡ serial_from reads tables items
  unfolding serial_from
  serial_whole tables [] zero e = refl
  serial_whole tables [] (suc n) e = absurd (omega (arith, e))
  serial_whole tables (Tx id session time explicit lines ∷ is) zero e = absurd (omega (arith, e))
  serial_whole tables (Tx id session time explicit lines ∷ is) (suc n) e =
      serial_whole (after_item reads tables (Tx id session time explicit lines)) is n (omega (arith, e))
  serial_whole tables (Close k ∷ is) zero e = serial_whole tables is zero e
  serial_whole tables (Close k ∷ is) (suc n) e = serial_whole tables is (suc n) e
