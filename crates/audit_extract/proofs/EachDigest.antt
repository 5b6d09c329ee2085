-- What holds of all digests with which two images are accepted.
use Rattle.std.proofs.Common.{◌≡◌, ◌≤◌, ◌+◌, ◌⊎◌, ℕ, zero, suc, Bool, true, false, cond, nat_lt, List, [], ◌∷◌, length, map, take, drop, take-take, Option, Some, None, refl, arith, sym, ◌∙◌, ap, subst, inl}
use Rattle.std.specs.Prelude.{IfOk, Result, Ok, Err}
use Rattle.std.specs.List.{AllByRecursion, sum_by}
use Rattle.std.proofs.lemmas.Bool.{ltb-true, ltb-false}
use Rattle.std.proofs.lemmas.List.{take-map}
use Rattle.base_fields.specs.Exact.{IsBytes}
use Rattle.base_fields.specs.Readers.{whole}
use Rattle.base_types.specs.declared.memory.Memory.{Memory}
use Rattle.sql_types.specs.declared.digest.HeldDigest.{HeldDigest}
use Rattle.sql_types.specs.declared.entry.BlockRecord.{BlockRecord}
use Rattle.sql_types.specs.declared.image.Image.{Image}
use Rattle.format_image.specs.ImageBytes.{IsImage, IsSpellingOf}
use Rattle.format_image.specs.ImageReading.{image_at}
use Rattle.format_image.specs.Tables.{tables_in}
use Rattle.format_image.proofs.ImageExact.{found_of}
use Rattle.spec_verify.specs.declared.place.Verdict.TheVariants.{Yes}
use Rattle.spec_verify.specs.Blocks.{entries_before}
use Rattle.spec_verify.specs.Bytes.{verdict_read, verdict_of}
use Rattle.spec_verify.specs.Covered.{covered_entry, covered_of}
use Rattle.spec_verify.specs.Verdict.{image_verdict}
use Rattle.audit_extract.specs.declared.found.ImageComparison.{ImageComparison}
use Rattle.audit_extract.specs.declared.found.ImageComparison.TheVariants as found
use Rattle.audit_extract.specs.Each.{AgreeOnEach, OneHistory, last_from, last_of}
use Rattle.audit_extract.specs.Finds.{Finds}
use Rattle.audit_extract.specs.Meets.{Meets}
use Rattle.audit_extract.specs.Parts.{blocks_to}
use Rattle.audit_extract.specs.Strings.{HasCollisionIn}
use Rattle.audit_extract.proofs.Accepted.{accepted}
use Rattle.audit_extract.proofs.Agreeing.{Injective}
use Rattle.audit_extract.proofs.Covering.{blocks_same}
use Rattle.audit_extract.proofs.Heads.{sizes, sizes_are}
use Rattle.audit_extract.proofs.Unbroken.{both_so, one_history}

-- ---- earlier blocks

sizes_rise : (k m : ℕ) (rs : List BlockRecord) → k ≤ m → sizes (take k rs) ≤ sizes (take m rs)
unfolding sizes
sizes_rise zero m rs le = omega arith
sizes_rise (suc k) zero rs le = absurd (omega (arith, le))
sizes_rise (suc k) (suc m) [] le = omega arith
sizes_rise (suc k) (suc m) (r ∷ rs) le = let rest = sizes_rise k m rs (omega (arith, le)) in omega (arith, rest)

module _ (i : Image) where
  entries_rise : (b c : ℕ) → b ≤ c → entries_before i (b + 1) ≤ entries_before i (c + 1)
  entries_rise b c le =
      let p = sizes_are (take (b + 1) i.blocks) in
      let q = sizes_are (take (c + 1) i.blocks) in
      let up = sizes_rise (b + 1) (c + 1) i.blocks (omega (arith, le)) in
      omega (arith, p, q, up)

  taken_twice : {A : Type 0} (n m : ℕ) (xs : List A) → n ≤ m → take n (take m xs) ≡ take n xs
  taken_twice n m xs le = take-take n m xs le

  covered_first : (b c : ℕ) → b ≤ c → covered_of i b ≡ take (entries_before i (b + 1)) (covered_of i c)
  unfolding covered_of
  covered_first b c le =
      ap (map (covered_entry (tables_in i))) (sym (taken_twice (entries_before i (b + 1)) (entries_before i (c + 1)) i.entries (entries_rise b c le)))
      ∙ sym (take-map (covered_entry (tables_in i)) (entries_before i (b + 1)) (take (entries_before i (c + 1)) i.entries))

pub earlier : (h : List ℕ → List ℕ) (i j : Image) (d : HeldDigest) → Meets h i d → Meets h j d → covered_of i d.block ≡ covered_of j d.block → (b : ℕ) → b ≤ d.block → covered_of i b ≡ covered_of j b
earlier h i j d m n same b le =
    let taken : (x : Image) → take (b + 1) (blocks_to x d.block) ≡ take (b + 1) x.blocks = λ x. take-take (b + 1) (d.block + 1) x.blocks (omega (arith, le)) in
    let blocks : take (b + 1) i.blocks ≡ take (b + 1) j.blocks = sym (taken i) ∙ ap (take (b + 1)) (blocks_same h i j d m n same) ∙ taken j in
    let count : entries_before i (b + 1) ≡ entries_before j (b + 1) = ap (sum_by (λ (r : BlockRecord). r.size)) blocks in
    covered_first i b d.block le ∙ ap (λ (k : ℕ). take k (covered_of i d.block)) count ∙ ap (take (entries_before j (b + 1))) same ∙ sym (covered_first j b d.block le)

-- ---- the last digest

-- a digest of a list, at its place
abbrev pub IsOneOf : HeldDigest → List HeldDigest → Type 0
IsOneOf d ds = (k : ℕ) × (more : List HeldDigest) × (drop k ds ≡ d ∷ more)

behind_first : (x d : HeldDigest) (ds : List HeldDigest) → IsOneOf d ds → IsOneOf d (x ∷ ds)
behind_first x d ds at = (suc at.0, at.1, at.2)

-- the last is one of them, and none is later
record IsLast (d : HeldDigest) (first : HeldDigest) (rest : List HeldDigest) : Type 0 where
  one : IsOneOf d (first ∷ rest)
  above : first.block ≤ d.block
  above_rest : AllByRecursion (λ (e : HeldDigest). e.block ≤ d.block) rest

later_or_first : (first d : HeldDigest) (ds : List HeldDigest) (b : Bool) → nat_lt first.block d.block ≡ b → ((x : HeldDigest) → IsLast (last_from x ds) x ds) → IsLast (last_from (cond b d first) ds) first (d ∷ ds)
later_or_first first d ds true e rest =
    let r = rest d in
    let lt = ltb-true first.block d.block e in
    record { one = behind_first first (last_from d ds) (d ∷ ds) r.one; above = omega (arith, lt, r.above); above_rest = (r.above, r.above_rest) }
later_or_first first d ds false e rest =
    let r = rest first in
    let le = ltb-false first.block d.block e in
    record { one = past r.one; above = r.above; above_rest = (omega (arith, le, r.above), r.above_rest) }
  where
    past : IsOneOf (last_from first ds) (first ∷ ds) → IsOneOf (last_from first ds) (first ∷ d ∷ ds)
    past (zero, more, e) = (zero, d ∷ ds, front e)
      where
        front : {m : List HeldDigest} → first ∷ ds ≡ last_from first ds ∷ m → first ∷ d ∷ ds ≡ last_from first ds ∷ d ∷ ds
        front e = let same : first ≡ last_from first ds = cc in ap (λ (x : HeldDigest). x ∷ d ∷ ds) same
    past (suc k, more, e) = (suc (suc k), more, e)

is_last : (first : HeldDigest) (rest : List HeldDigest) → IsLast (last_from first rest) first rest
is_last first [] = record { one = (zero, [], refl); above = omega arith; above_rest = tt }
is_last first (d ∷ ds) = later_or_first first d ds (nat_lt first.block d.block) refl (λ x. is_last x ds)

-- ---- each digest

all_of : {A : Type 0} (P Q : A → Type 0) → ((x : A) → P x → Q x) → (xs : List A) → AllByRecursion P xs → AllByRecursion Q xs
all_of P Q f [] all = tt
all_of P Q f (x ∷ xs) all = (f x all.0, all_of P Q f xs all.1)

at_place : {A : Type 0} (P : A → Type 0) (xs : List A) (k : ℕ) (x : A) (more : List A) → drop k xs ≡ x ∷ more → AllByRecursion P xs → P x
at_place P [] zero x more e all = cc
at_place P [] (suc k) x more e all = cc
at_place P (y ∷ ys) zero x more e all = let same : y ≡ x = cc in subst P same all.0
at_place P (y ∷ ys) (suc k) x more e all = at_place P ys k x more e all.1

module _ (h : List ℕ → List ℕ) (i j : Image) (is_i : IsImage i) (is_j : IsImage j) where
  -- with the last digest the others are judged
  module _ (first : HeldDigest) (rest : List HeldDigest) (yes_i : image_verdict h i (first ∷ rest) ≡ Yes) (yes_j : image_verdict h j (first ∷ rest) ≡ Yes) where
    meets_i : Meets h i (last_from first rest)
    meets_i = let at = (is_last first rest).one in accepted h i (first ∷ rest) is_i yes_i at.0 (last_from first rest) at.1 at.2

    meets_j : Meets h j (last_from first rest)
    meets_j = let at = (is_last first rest).one in accepted h j (first ∷ rest) is_j yes_j at.0 (last_from first rest) at.1 at.2

    pub all_agree : covered_of i (last_from first rest).block ≡ covered_of j (last_from first rest).block → AgreeOnEach i j (first ∷ rest)
    all_agree same =
        let l = is_last first rest in
        let agree : (e : HeldDigest) → e.block ≤ (last_from first rest).block → covered_of i e.block ≡ covered_of j e.block =
        λ e le. earlier h i j (last_from first rest) meets_i meets_j same e.block le in (
          agree first l.above,
          all_of (λ (e : HeldDigest). e.block ≤ (last_from first rest).block) (λ (e : HeldDigest). covered_of i e.block ≡ covered_of j e.block) agree rest l.above_rest,
        )

    pub last_agrees : AgreeOnEach i j (first ∷ rest) → covered_of i (last_from first rest).block ≡ covered_of j (last_from first rest).block
    last_agrees all =
        let at = (is_last first rest).one in
        at_place (λ (e : HeldDigest). covered_of i e.block ≡ covered_of j e.block) (first ∷ rest) at.0 (last_from first rest) at.1 at.2 all

  pub meets_of : (digests : List HeldDigest) (d : HeldDigest) → last_of digests ≡ Some d → image_verdict h i digests ≡ Yes → image_verdict h j digests ≡ Yes → Meets h i d × Meets h j d
  meets_of [] d is yes_i yes_j = cc
  meets_of (first ∷ rest) d is yes_i yes_j =
      let same : last_from first rest ≡ d = cc in
      (subst (Meets h i) same (meets_i first rest yes_i yes_j), subst (Meets h j) same (meets_j first rest yes_i yes_j))

  finds_last : (first : HeldDigest) (rest : List HeldDigest) (r : Result ImageComparison Memory) → image_verdict h i (first ∷ rest) ≡ Yes → image_verdict h j (first ∷ rest) ≡ Yes
      → IfOk r (Finds h (covered_of i (last_from first rest).block ≡ covered_of j (last_from first rest).block)) → IfOk r (Finds h (AgreeOnEach i j (first ∷ rest)))
  finds_last first rest (Ok found.Same) p q f = all_agree first rest p q f
  finds_last first rest (Ok (found.Collision c)) p q f = ((λ all. f.0 (last_agrees first rest p q all)), f.1)
  finds_last first rest (Err e) p q f = tt

  pub finds_of : (digests : List HeldDigest) (d : HeldDigest) (r : Result ImageComparison Memory) → last_of digests ≡ Some d → image_verdict h i digests ≡ Yes → image_verdict h j digests ≡ Yes
      → IfOk r (Finds h (covered_of i d.block ≡ covered_of j d.block)) → IfOk r (Finds h (AgreeOnEach i j digests))
  finds_of [] d r is yes_i yes_j found = cc
  finds_of (first ∷ rest) d r is yes_i yes_j found =
      let same : d ≡ last_from first rest = cc in
      finds_last first rest r yes_i yes_j (subst (λ (e : HeldDigest). IfOk r (Finds h (covered_of i e.block ≡ covered_of j e.block))) same found)

  -- ---- one history or a collision

  each_agrees : Injective → ((bytes : List ℕ) → length (h bytes) ≡ 32) → (ds : List HeldDigest) → AllByRecursion (λ (d : HeldDigest). Meets h i d × Meets h j d) ds → AgreeOnEach i j ds ⊎ HasCollisionIn h i j
  each_agrees one sized [] all = inl tt
  each_agrees one sized (d ∷ ds) all = both_so (one_history h sized one i j d all.0.0 all.0.1) (each_agrees one sized ds all.1)

  all_meet : (digests : List HeldDigest) → image_verdict h i digests ≡ Yes → image_verdict h j digests ≡ Yes → (n : ℕ) (ds : List HeldDigest) → drop n digests ≡ ds
      → AllByRecursion (λ (d : HeldDigest). Meets h i d × Meets h j d) ds
  all_meet digests yes_i yes_j n [] at = tt
  all_meet digests yes_i yes_j n (d ∷ ds) at = (
    (accepted h i digests is_i yes_i n d ds at, accepted h j digests is_j yes_j n d ds at),
    all_meet digests yes_i yes_j (n + 1) ds (next n digests at),
  )
    where
      next : (n : ℕ) (xs : List HeldDigest) → drop n xs ≡ d ∷ ds → drop (n + 1) xs ≡ ds
      next zero [] e = cc
      next zero (x ∷ xs) e = cc
      next (suc n) [] e = cc
      next (suc n) (x ∷ xs) e = let shift : suc n + 1 ≡ suc (n + 1) = omega arith in ap (λ (m : ℕ). drop m (x ∷ xs)) shift ∙ next n xs e

  pub agree_or_collide : Injective → ((bytes : List ℕ) → length (h bytes) ≡ 32) → (digests : List HeldDigest) → image_verdict h i digests ≡ Yes → image_verdict h j digests ≡ Yes → AgreeOnEach i j digests ⊎ HasCollisionIn h i j
  agree_or_collide one sized digests yes_i yes_j = each_agrees one sized digests (all_meet digests yes_i yes_j 0 digests refl)

-- ---- of bytes

record Accepted (h : List ℕ → List ℕ) (digests : List HeldDigest) (bytes : List ℕ) : Type 0 where
  image : Image
  is : IsImage image × IsSpellingOf bytes image
  accepts : image_verdict h image digests ≡ Yes

accepted_by : (h : List ℕ → List ℕ) (digests : List HeldDigest) (bytes : List ℕ) → IsBytes bytes → (found : Option Image) → found ≡ whole image_at bytes → verdict_read h digests found ≡ Yes → Accepted h digests bytes
accepted_by h digests bytes fits None e accepts = cc
accepted_by h digests bytes fits (Some i) e accepts = record { image = i; is = found_of bytes (Some i) fits e; accepts = accepts }

accepted_bytes : (h : List ℕ → List ℕ) (digests : List HeldDigest) (bytes : List ℕ) → IsBytes bytes → verdict_of h digests bytes ≡ Yes → Accepted h digests bytes
unfolding verdict_of
accepted_bytes h digests bytes fits accepts = accepted_by h digests bytes fits (whole image_at bytes) refl accepts

pub one_history_of_bytes : Injective → (h : List ℕ → List ℕ) (digests : List HeldDigest) (a b : List ℕ) → ((bytes : List ℕ) → length (h bytes) ≡ 32) → IsBytes a → IsBytes b
    → verdict_of h digests a ≡ Yes → verdict_of h digests b ≡ Yes → OneHistory h digests a b
one_history_of_bytes one h digests a b sized fits_a fits_b yes_a yes_b =
    let p = accepted_bytes h digests a fits_a yes_a in
    let q = accepted_bytes h digests b fits_b yes_b in
    record { first = p.image; second = q.image; is_first = p.is; is_second = q.is; agree = agree_or_collide h p.image q.image p.is.0 q.is.0 one sized digests p.accepts q.accepts }
