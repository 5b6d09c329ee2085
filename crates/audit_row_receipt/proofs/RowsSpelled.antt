-- Receipts of rows that are made have a spelling.
use Rattle.std.proofs.Common.{◌≡◌, ◌≢◌, ◌≤◌, ◌<◌, ◌^◌, ℕ, Bool, true, false, cond, List, [], ◌∷◌, length, Option, Some, None, refl, arith, sym, ◌∙◌, ap, subst, inr}
use Rattle.std.specs.Prelude.{◌==◌, zip}
use Rattle.std.specs.List.{AllByRecursion, slice_get}
use Rattle.sql_types.specs.declared.event.Event.{Event}
use Rattle.sql_types.specs.declared.image.Image.{Image}
use Rattle.sql_types.specs.declared.version.Table.{Table}
use Rattle.format_event.specs.Leaf.{event_bytes, HasLeaf}
use Rattle.law_frame.proofs.Alls.{all_map}
use Rattle.spec_model.specs.Catalog.{Tables}
use Rattle.spec_model.specs.Events.{events_of}
use Rattle.spec_ledger.specs.Entries.{leaves_of}
use Rattle.format_image.specs.ImageBytes.{IsImage}
use Rattle.format_image.specs.Tables.{tables_in}
use Rattle.audit_extract.specs.Leaves.{leaves_in}
use Rattle.audit_extract.proofs.ImageLeaves.{EventsFit, image_fits}
use Rattle.audit_paths.specs.declared.side.Side.{Side}
use Rattle.audit_paths.specs.Path.{AreHashes, AreSteps, Step, audit_path, audit_steps, sides_of}
use Rattle.audit_paths.proofs.Leading.{path_hashes}
use Rattle.format_receipt.specs.declared.receipt.Receipt.{Receipt}
use Rattle.format_receipt.specs.Receipts.{IsReceipt}
use Rattle.format_row_receipt.specs.RowReceipts.{IsShown, IsTableReceipt}
use Rattle.audit_receipt.specs.Made.{IsMade}
use Rattle.audit_receipt.proofs.Found.{each_at}
use Rattle.audit_receipt.proofs.Spelled.{path_short}
use Rattle.audit_row_receipt.specs.RowsMade.{IsLeafOf, HasNoLeaf, IsPlaceOf, IsMadeRow, HasNoRow, IsMadeTable}
use Rattle.audit_row_receipt.proofs.Numbered.{leaf_found, none_found}
use Rattle.audit_row_receipt.proofs.Room.{event_room}

all_shown : (tx table : ℕ) (ts : Tables) → AllByRecursion (EventsFit tx) ts → AllByRecursion IsShown (leaves_in ts tx table)
all_shown tx table [] fits = tt
all_shown tx table (t ∷ ts) fits = by (t.def.id == table) (all_shown tx table ts fits.1)
  where
    by : (b : Bool) → AllByRecursion IsShown (leaves_in ts tx table) → AllByRecursion IsShown (cond b (leaves_of tx t) (leaves_in ts tx table))
    by true later = all_map HasLeaf IsShown event_bytes (λ e leaf. event_room e leaf) (events_of tx t) fits.0
    by false later = later

some_of : (leaves : List (List ℕ)) → leaves ≢ [] → 1 ≤ length leaves
some_of [] ne = absurd (ne refl)
some_of (leaf ∷ leaves) ne = omega arith

-- what is made is the receipt
pub table_made : (h : List ℕ → List ℕ) (i : Image) (tx table b : ℕ) (r : Receipt) (leaves : List (List ℕ)) → IsImage i → IsMade h i tx b r → leaves ≡ leaves_in (tables_in i) tx table
    → leaves ≢ [] → length leaves < 2 ^ 64 → IsMadeTable h i tx table b (record { receipt = r; leaves = leaves })
table_made h i tx table b r leaves is made same some few =
    record {
      receipt = made;
      leaves = same;
      spelled = record {
        receipt = made.spelled;
        some = some_of leaves some;
        count = few;
        leaves = subst (AllByRecursion IsShown) (sym same) (all_shown tx table (tables_in i) (image_fits tx i is));
      };
    }

-- ---- one event

zip_short : (sides : List Side) (path : List (List ℕ)) → length (zip sides path) ≤ length path
zip_short [] path = omega arith
zip_short (s ∷ sides) [] = omega arith
zip_short (s ∷ sides) (p ∷ path) = omega (arith, zip_short sides path)

zip_hashes : (sides : List Side) (path : List (List ℕ)) → AreHashes path → AreSteps (zip sides path)
zip_hashes [] path all = tt
zip_hashes (s ∷ sides) [] all = tt
zip_hashes (s ∷ sides) (p ∷ path) all = (all.0, zip_hashes sides path all.1)

row_made : (h : List ℕ → List ℕ) → ((bytes : List ℕ) → length (h bytes) ≡ 32) → (i : Image) (tx table seq b place : ℕ) (r : Receipt) (leaf : List ℕ) (steps : List Step) (leaves : List (List ℕ))
    → IsImage i → IsMade h i tx b r → leaves ≡ leaves_in (tables_in i) tx table → length leaves < 2 ^ 63 → slice_get leaves place ≡ Some leaf → IsLeafOf seq leaf → steps ≡ audit_steps h place leaves
    → IsMadeRow h i tx table seq b (record { receipt = r; leaf = leaf; steps = steps })
row_made h sized i tx table seq b place r leaf steps leaves is made same few at of steps_are =
    let shown : AllByRecursion IsShown leaves = subst (AllByRecursion IsShown) (sym same) (all_shown tx table (tables_in i) (image_fits tx i is)) in
    let short = path_short h 63 (length leaves) place leaves (omega (arith, few)) in
    let l = zip_short (sides_of place (length leaves)) (audit_path h place leaves) in
    let count : length steps ≡ length (audit_steps h place leaves) = ap length steps_are in
    record {
      receipt = made;
      place = place;
      there = subst (λ (ls : List (List ℕ)). slice_get ls place ≡ Some leaf) same at;
      of = of;
      steps = steps_are ∙ ap (audit_steps h place) same;
      spelled = record {
        receipt = made.spelled;
        leaf = each_at IsShown leaves place leaf shown at;
        few = omega (arith, short, l, count);
        steps = subst AreSteps (sym steps_are) (zip_hashes (sides_of place (length leaves)) (audit_path h place leaves) (path_hashes h sized (length leaves) place leaves));
      };
    }

-- by what was found on the way
pub row_from : (h : List ℕ → List ℕ) → ((bytes : List ℕ) → length (h bytes) ≡ 32) → (i : Image) (tx table seq b place : ℕ) (r : Receipt) (leaf own : List ℕ) (steps : List Step) (leaves one two three : List (List ℕ))
    (found : Option ℕ) → IsImage i → IsMade h i tx b r → leaves ≡ leaves_in (tables_in i) tx table → length leaves < 2 ^ 63
    → IsPlaceOf seq one found → found ≡ Some place → one ≡ leaves → slice_get two place ≡ Some own → two ≡ leaves → leaf ≡ own → steps ≡ audit_steps h place three → three ≡ leaves
    → IsMadeRow h i tx table seq b (record { receipt = r; leaf = leaf; steps = steps })
row_from h sized i tx table seq b place r leaf own steps leaves one two three found is made same few placed is_place one_is at two_is leaf_is steps_are three_is =
    let l = leaf_found seq place leaves own one two found placed is_place one_is at two_is in
    row_made h sized i tx table seq b place r leaf steps leaves is made same few (subst (λ (x : List ℕ). slice_get leaves place ≡ Some x) (sym leaf_is) l.0) (subst (IsLeafOf seq) (sym leaf_is) l.1)
    (steps_are ∙ ap (audit_steps h place) three_is)

pub no_row : (i : Image) (tx table seq b : ℕ) (leaves one : List (List ℕ)) (found : Option ℕ) → leaves ≡ leaves_in (tables_in i) tx table → IsPlaceOf seq one found → found ≡ None → one ≡ leaves → HasNoRow i tx table seq b
no_row i tx table seq b leaves one found same placed none one_is = inr (subst (HasNoLeaf seq) same (none_found seq leaves one found placed none one_is))
