-- Which images the transcripts of a run show.
use Rattle.std.specs.Prelude.{ℕ, List, flat_map, map}
use Rattle.spec_history.specs.Facts.{facts_of}
use Rattle.spec_history.specs.Lists.{In, Some_of}
use Rattle.spec_history.specs.Meaning.{Meaning}
use Rattle.spec_history.specs.Transcripts.{Transcript}
use Rattle.spec_protocol.specs.AtTheEnd.{image_items}
use Rattle.spec_protocol.specs.Seats.{KeptImage}

-- some of these transcripts shows an image of so many items
abbrev pub IsShown : Meaning → List Transcript → ℕ → Type 0
IsShown q X items = Some_of (λ x. In items (flat_map image_items (facts_of q x))) X

-- The images, by their numbers of items, are those that these transcripts show: each that is shown, and no others.
pub record AreShown (q : Meaning) (X : List Transcript) (images : List KeptImage) : Type 0 where
  pub all : (items : ℕ) → IsShown q X items → In items (map (λ k. k.0) images)
  pub no_others : (items : ℕ) → In items (map (λ k. k.0) images) → IsShown q X items
