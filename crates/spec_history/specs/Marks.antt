-- Marks and ids along a transcript.
use Rattle.std.specs.Prelude.{ℕ, ◌≡◌, ◌<◌, ◌≤◌, List, [], ◌∷◌, take}
use Rattle.sql_types.specs.declared.journal.JournalItem.{JournalItem}
use Rattle.spec_history.specs.Lists.{Each}
use Rattle.spec_history.specs.Journals.{blocks}
use Rattle.spec_history.specs.Facts.{Fact, digest, image, mark_of, place_of, id_of, Shows}

-- marks never fall, and the place of a commit is above each earlier mark
abbrev pub MarksRise : List JournalItem → List Fact → Type 0
MarksRise J [] = Unit {0}
MarksRise J (g ∷ gs) =
    Each (λ m. Shows (mark_of J) (λ n. m ≤ n) gs × Shows place_of (λ n. m < n) gs) (mark_of J g)
    × MarksRise J gs

-- ids rise
abbrev pub IdsRise : List Fact → Type 0
IdsRise [] = Unit {0}
IdsRise (g ∷ gs) = Each (λ m. Shows id_of (λ n. m < n) gs) (id_of g) × IdsRise gs

-- no mark of these is below a mark of those
abbrev pub NoneBelow : List JournalItem → List Fact → List Fact → Type 0
NoneBelow J those these = Shows (mark_of J) (λ m. Shows (mark_of J) (λ n. m ≤ n) these) those

-- this block is closed in each image
abbrev pub ClosedIn : List JournalItem → ℕ → Fact → Type 0
ClosedIn J b (image items) = b < blocks (take items J)
ClosedIn J b _ = Unit {0}

-- each block is closed in each image that comes after its digest
abbrev pub ImagesHave : List JournalItem → List Fact → Type 0
ImagesHave J [] = Unit {0}
ImagesHave J (digest b hash ∷ gs) = Each (ClosedIn J b) gs × ImagesHave J gs
ImagesHave J (_ ∷ gs) = ImagesHave J gs

-- each block of these digests is closed in each of those images
abbrev pub ImagesOfOthersHave : List JournalItem → List Fact → List Fact → Type 0
ImagesOfOthersHave J [] gs = Unit {0}
ImagesOfOthersHave J (digest b hash ∷ us) gs = Each (ClosedIn J b) gs × ImagesOfOthersHave J us gs
ImagesOfOthersHave J (_ ∷ us) gs = ImagesOfOthersHave J us gs

-- all marks are 0
abbrev pub NoneCounted : List JournalItem → List Fact → Type 0
NoneCounted J gs = Shows (mark_of J) (λ m. m ≡ 0) gs
