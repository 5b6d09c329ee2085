-- Images that are accepted with digests of a run.
use Rattle.std.specs.Prelude.{ℕ, ◌≡◌, ◌<◌, List, map}
use Rattle.sql_types.specs.declared.digest.Digest.{Digest}
use Rattle.sql_types.specs.declared.journal.JournalItem.{JournalItem}
use Rattle.spec_model.specs.Journals.{cut}
use Rattle.spec_history.specs.Journals.{blocks}
use Rattle.spec_history.specs.Lists.{Text, Each, In}
use Rattle.spec_syntax.specs.Text.{statement_of}
use Rattle.format_image.specs.Image.{image_of_cut}
use Rattle.format_image.specs.ImageBytes.{IsImage}
use Rattle.spec_verify.specs.declared.place.Verdict.TheVariants.{Yes}
use Rattle.spec_verify.specs.Bytes.{verdict_of}
use Rattle.law_accepts.specs.Held.{held}
use Rattle.spec_protocol.specs.Seats.{KeptImage}

-- one of these digests, of a block that is closed in the first so many items
abbrev pub IsOfCut : List JournalItem → ℕ → List Digest → Digest → Type 0
IsOfCut J items G d = In d G × (d.block < blocks (cut J items))

-- the verdict on the bytes is Yes with any of these digests, of blocks that are closed in the image
abbrev pub IsAccepted : (List ℕ → List ℕ) → Text → List JournalItem → List Digest → KeptImage → Type 0
IsAccepted h database J G k = (digests : List Digest) → Each (IsOfCut J k.0 G) digests
    → verdict_of h (map held digests) k.1 ≡ Yes

-- so it is if the image has a spelling
abbrev pub IsAcceptedIfEncodable : (List ℕ → List ℕ) → Text → List JournalItem → List Digest → KeptImage
    → Type 0
IsAcceptedIfEncodable h database J G k = IsImage (image_of_cut h statement_of database J k.0)
    → IsAccepted h database J G k
