-- What an accepted image meets of one of the digests that it is accepted with.
use Rattle.std.proofs.Common.{◌≡◌, ◌∙◌, ◌<◌, ◌≤◌, ℕ, zero, suc, Bool, true, false, cond, nat_lt, List, [], ◌∷◌, Some, None, refl, sym, subst, arith}
use Rattle.std.specs.List.{AllByRecursion, Contains}
use Rattle.std.proofs.lemmas.Bool.{ltb-true, ltb-false}
use Rattle.sql_types.specs.declared.digest.HeldDigest.{HeldDigest}
use Rattle.sql_types.specs.declared.image.Image.{Image}
use Rattle.format_image.specs.ImageBytes.{IsImage, IsSpellingOf}
use Rattle.spec_verify.specs.declared.place.Verdict.TheVariants.{Yes}
use Rattle.spec_verify.specs.Blocks.{chain_fault, block_fault}
use Rattle.spec_verify.specs.Bytes.{verdict_of}
use Rattle.spec_verify.specs.Entries.{root_fault}
use Rattle.spec_verify.specs.Sentences.{DigestHolds}
use Rattle.spec_verify.specs.Verdict.{image_verdict}
use Rattle.spec_verify.proofs.AllHold.{yes_exactly}
use Rattle.spec_verify.proofs.AllTold.{yes_together}
use Rattle.spec_verify.proofs.Judged.{of_spelling}
use Rattle.audit_extract.specs.Each.{last_from, last_of}

-- ---- one of several digests

last_from_has : (P : HeldDigest → Type 0) (first : HeldDigest) (rest : List HeldDigest) → P first → AllByRecursion P rest → P (last_from first rest)
last_from_has P first [] p all = p
last_from_has P first (d ∷ ds) p all = go (nat_lt first.block d.block) (last_from_has P d ds all.0 all.1) (last_from_has P first ds p all.1)
  where
    go : (b : Bool) → P (last_from d ds) → P (last_from first ds) → P (last_from (cond b d first) ds)
    go true later earlier = later
    go false later earlier = earlier

last_has : (P : HeldDigest → Type 0) (digests : List HeldDigest) (d : HeldDigest) → AllByRecursion P digests → last_of digests ≡ Some d → P d
last_has P [] d all is = absurd cc
last_has P (first ∷ rest) d all is = let same : last_from first rest ≡ d = cc in subst P same (last_from_has P first rest all.0 all.1)

one_has : (P : HeldDigest → Type 0) (digests : List HeldDigest) (d : HeldDigest) → AllByRecursion P digests → Contains digests d → P d
one_has P [] d all (k, within, is) = absurd (omega (arith, within))
one_has P (first ∷ rest) d all (zero, within, is) = subst P is all.0
one_has P (first ∷ rest) d all (suc k, within, is) = one_has P rest d all.1 (k, omega (arith, within), is)

-- ---- the greatest block

-- no digest is of a later block than the last of them
record IsGreatest (last first : HeldDigest) (rest : List HeldDigest) : Type 0 where
  above : first.block ≤ last.block
  rest_below : AllByRecursion (λ (d : HeldDigest). d.block ≤ last.block) rest

greatest : (first : HeldDigest) (rest : List HeldDigest) → IsGreatest (last_from first rest) first rest
greatest first [] = record { above = omega arith; rest_below = tt }
greatest first (d ∷ ds) = go (nat_lt first.block d.block) refl (greatest d ds) (greatest first ds)
  where
    go : (b : Bool) → nat_lt first.block d.block ≡ b → IsGreatest (last_from d ds) d ds → IsGreatest (last_from first ds) first ds → IsGreatest (last_from (cond b d first) ds) first (d ∷ ds)
    go true e later earlier =
        let lt = ltb-true first.block d.block e in
        let above = later.above in
        record { above = omega (arith, lt, above); rest_below = (above, later.rest_below) }
    go false e later earlier =
        let le = ltb-false first.block d.block e in
        let above = earlier.above in
        record { above = above; rest_below = (omega (arith, le, above), earlier.rest_below) }

pub all_to : (digests : List HeldDigest) (d : HeldDigest) → last_of digests ≡ Some d → AllByRecursion (λ (e : HeldDigest). e.block ≤ d.block) digests
all_to [] d is = cc
all_to (first ∷ rest) d is =
    let same : last_from first rest ≡ d = cc in
    let g = greatest first rest in
    subst (λ (x : HeldDigest). AllByRecursion (λ (e : HeldDigest). e.block ≤ x.block) (first ∷ rest)) same (g.above, g.rest_below)

-- ---- what holds with it

-- the image's chain, blocks and roots hold, and so does the digest with it
pub record Fits (h : List ℕ → List ℕ) (i : Image) (d : HeldDigest) : Type 0 where
  pub chain : chain_fault h i ≡ None
  pub blocks : block_fault h i ≡ None
  pub roots : root_fault h i ≡ None
  pub digest : DigestHolds h i d

fits_by : (h : List ℕ → List ℕ) (i : Image) (digests : List HeldDigest) (d : HeldDigest) → image_verdict h i digests ≡ Yes
    → (AllByRecursion (DigestHolds h i) digests → DigestHolds h i d) → Fits h i d
fits_by h i digests d accepts one =
    let a = (yes_exactly h i digests).0 accepts in
    let t = (yes_together h i digests).0 accepts in
    record { chain = a.chain; blocks = a.blocks; roots = a.roots; digest = one t.digests_hold }

-- all of them hold
pub all_fit : (h : List ℕ → List ℕ) (i : Image) (digests : List HeldDigest) → image_verdict h i digests ≡ Yes → AllByRecursion (DigestHolds h i) digests
all_fit h i digests accepts = let t = (yes_together h i digests).0 accepts in t.digests_hold

pub last_fits : (h : List ℕ → List ℕ) (i : Image) (digests : List HeldDigest) (d : HeldDigest) → image_verdict h i digests ≡ Yes → last_of digests ≡ Some d → Fits h i d
last_fits h i digests d accepts last = fits_by h i digests d accepts (λ all. last_has (DigestHolds h i) digests d all last)

pub one_fits : (h : List ℕ → List ℕ) (i : Image) (digests : List HeldDigest) (d : HeldDigest) (bytes : List ℕ) → IsImage i → IsSpellingOf bytes i → verdict_of h digests bytes ≡ Yes → Contains digests d → Fits h i d
one_fits h i digests d bytes is spelling accepts one =
    fits_by h i digests d (sym (of_spelling h digests bytes i is spelling) ∙ accepts) (λ all. one_has (DigestHolds h i) digests d all one)
