-- The verdict on an image: the first invariant that fails, with its least place.
use Rattle.std.specs.Prelude.{ℕ, ◌≡◌, List, [], ◌∷◌, Option, Some, None}
use Rattle.sql_types.specs.declared.digest.HeldDigest.{HeldDigest}
use Rattle.sql_types.specs.declared.image.Image.{Image}
use Rattle.spec_verify.specs.declared.place.Invariant.{Invariant}
use Rattle.spec_verify.specs.declared.place.Invariant.TheVariants.{V1, V2, V3, V4, V5, V6, V7, V8}
use Rattle.spec_verify.specs.declared.place.Place.{Place}
use Rattle.spec_verify.specs.declared.place.Verdict.{Verdict}
use Rattle.spec_verify.specs.declared.place.Verdict.TheVariants.{Yes, No}
use Rattle.spec_verify.specs.Blocks.{digest_fault, chain_fault, block_fault}
use Rattle.spec_verify.specs.Entries.{id_fault, root_fault}
use Rattle.spec_verify.specs.Versions.{version_fault}
use Rattle.spec_verify.specs.Definitions.{definition_fault}
use Rattle.spec_verify.specs.Rules.{row_fault, catalog_fault, table_rule_fault, version_rule_fault}
use Rattle.spec_verify.specs.Indexes.{index_fault}

-- an invariant, and the least place at which it fails, if it does
abbrev pub Tried : Type 0
Tried = Invariant × Option Place

abbrev pub failed_or : Invariant → Option Place → Verdict → Verdict
failed_or invariant (Some place) rest = No invariant place
failed_or invariant None rest = rest

-- the first that fails
abbrev pub first_failed : List Tried → Verdict
first_failed [] = Yes
first_failed (t ∷ ts) = failed_or t.0 t.1 (first_failed ts)

-- each invariant, in order
abbrev pub all_tried : (List ℕ → List ℕ) → Image → List HeldDigest → List Tried
all_tried h i digests =
    (V1, digest_fault h i digests) ∷ (V2, chain_fault h i) ∷ (V3, block_fault h i) ∷ (V4, id_fault i)
    ∷ (V5, root_fault h i) ∷ (V6, row_fault i) ∷ (V7, catalog_fault i) ∷ (V8, index_fault i) ∷ []

-- of an image and digests; that the bytes are those of an image comes before
unfoldable pub image_verdict : (List ℕ → List ℕ) → Image → List HeldDigest → Verdict
image_verdict h i digests = first_failed (all_tried h i digests)

-- no invariant fails anywhere
pub record AllHold (h : List ℕ → List ℕ) (i : Image) (digests : List HeldDigest) : Type 0 where
  pub digests_hold : digest_fault h i digests ≡ None
  pub chain : chain_fault h i ≡ None
  pub blocks : block_fault h i ≡ None
  pub ids : id_fault i ≡ None
  pub roots : root_fault h i ≡ None
  pub versions : version_fault i ≡ None
  pub version_rules : version_rule_fault i ≡ None
  pub definitions : definition_fault i ≡ None
  pub table_rules : table_rule_fault i ≡ None
  pub indexes : index_fault i ≡ None
