-- The images that the sessions of a run kept, each once.
use Rattle.std.specs.Prelude.{ℕ, ◌<◌, ◌==◌, Bool, false, List, [], ◌∷◌, Option, Some, None, if◌then◌else◌, nat_lt, slice_get}
use Rattle.std.specs.List.{fold, insert, prefix_len}
use Rattle.spec_history.specs.Lists.{Text, Each, Some_of, In}

-- an image as it is saved: of so many items of the journal, with these bytes
abbrev pub SavedImage : Type 0
SavedImage = ℕ × Text

-- each is of more items than those before it
abbrev pub ItemsRise : List SavedImage → Type 0
ItemsRise [] = Unit {0}
ItemsRise (k ∷ ks) = Each (λ later. k.0 < later.0) ks × ItemsRise ks

-- these are the images that the sessions kept, each once, by rising number of items
pub record AreKept (kept : List (List SavedImage)) (images : List SavedImage) : Type 0 where
  pub rise : ItemsRise images
  pub all : Each (λ ks. Each (λ k. In k images) ks) kept
  pub no_others : Each (λ k. Some_of (λ ks. In k ks) kept) images

-- ---- how they are put together

-- an image of so many items
abbrev pub has_items : ℕ → Option SavedImage → Bool
has_items items None = false
has_items items (Some k) = k.0 == items

-- how many are of fewer items
abbrev pub place_for : ℕ → List SavedImage → ℕ
place_for items images = prefix_len (λ k. nat_lt k.0 items) images

-- some images by rising number of items, and this one in its place, unless there is one of as many items
abbrev pub with_image : List SavedImage → SavedImage → List SavedImage
with_image images k = let place = place_for k.0 images in
    if has_items k.0 (slice_get images place) then images else insert images place k

-- and these, one after another
abbrev pub with_images : List SavedImage → List SavedImage → List SavedImage
with_images images more = fold with_image images more

-- and those of each of some sessions
abbrev pub with_each : List (List SavedImage) → List SavedImage
with_each kept = fold with_images [] kept
