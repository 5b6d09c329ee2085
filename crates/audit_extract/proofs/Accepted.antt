-- What an accepted image meets.
use Rattle.std.proofs.Common.{◌≡◌, ℕ, true, List, [], ◌∷◌, drop, None, ap}
use Rattle.sql_types.specs.declared.digest.HeldDigest.{HeldDigest}
use Rattle.sql_types.specs.declared.image.Image.{Image}
use Rattle.format_image.specs.ImageBytes.{IsImage}
use Rattle.spec_model.specs.Lists.{or_else}
use Rattle.spec_verify.specs.declared.place.Place.TheVariants as at
use Rattle.spec_verify.specs.declared.place.Verdict.TheVariants.{Yes}
use Rattle.spec_verify.specs.Blocks.{digest_holds, digest_fault}
use Rattle.spec_verify.specs.First.{unless}
use Rattle.spec_verify.specs.Verdict.{image_verdict}
use Rattle.spec_verify.proofs.AllHold.{yes_exactly}
use Rattle.audit_extract.specs.Meets.{Meets}
use Rattle.audit_extract.proofs.Heads.{none_first, passes}

one_digest : (h : List ℕ → List ℕ) (i : Image) (digests : List HeldDigest) → digest_fault h i digests ≡ None → (k : ℕ) (d : HeldDigest) (more : List HeldDigest) → drop k digests ≡ d ∷ more
    → digest_fault h i (d ∷ []) ≡ None
unfolding digest_fault
one_digest h i digests none k d more e =
    let holds : digest_holds h i d ≡ true = passes (digest_holds h i d) _ (none_first _ digests none k d more e) in
    ap (λ b. or_else (unless b (at.Digest 0)) None) holds

pub accepted : (h : List ℕ → List ℕ) (i : Image) (digests : List HeldDigest) → IsImage i → image_verdict h i digests ≡ Yes → (k : ℕ) (d : HeldDigest) (more : List HeldDigest) → drop k digests ≡ d ∷ more → Meets h i d
accepted h i digests is accepts k d more e =
    let a = (yes_exactly h i digests).0 accepts in
    record { image = is; digest_holds = one_digest h i digests a.digests_hold k d more e; chain = a.chain; blocks = a.blocks; ids = a.ids; roots = a.roots }
