-- The invariants in two parts: those that speak of digests and blocks, and those of the rows of tables.
use Rattle.std.specs.Prelude.{ℕ, List, [], ◌∷◌, Option}
use Rattle.sql_types.specs.declared.digest.HeldDigest.{HeldDigest}
use Rattle.sql_types.specs.declared.image.Image.{Image}
use Rattle.spec_verify.specs.declared.place.Invariant.TheVariants.{V1, V2, V3, V4, V5, V6, V7, V8}
use Rattle.spec_verify.specs.declared.place.Place.{Place}
use Rattle.spec_verify.specs.declared.place.Verdict.{Verdict}
use Rattle.spec_verify.specs.Blocks.{block_fault, chain_fault, digest_fault}
use Rattle.spec_verify.specs.Entries.{id_fault, root_fault}
use Rattle.spec_verify.specs.Rules.{catalog_fault, row_fault}
use Rattle.spec_verify.specs.Indexes.{index_fault}
use Rattle.spec_verify.specs.Verdict.{first_failed}

abbrev pub blocks_tried : (List ℕ → List ℕ) → Image → List HeldDigest → Verdict
blocks_tried h i digests =
    first_failed ((V1, digest_fault h i digests) ∷ (V2, chain_fault h i) ∷ (V3, block_fault h i) ∷ [])

abbrev pub tables_tried : (List ℕ → List ℕ) → Image → Verdict
tables_tried h i =
    first_failed (
    (V4, id_fault i) ∷ (V5, root_fault h i) ∷ (V6, row_fault i) ∷ (V7, catalog_fault i)
    ∷ (V8, index_fault i) ∷ [])

-- those after the ids, by the place at which a root of an entry is at fault
abbrev pub rows_tried : Option Place → Image → Verdict
rows_tried root i =
    first_failed ((V5, root) ∷ (V6, row_fault i) ∷ (V7, catalog_fault i) ∷ (V8, index_fault i) ∷ [])
