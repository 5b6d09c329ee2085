-- What is made of an image is accepted.
use Rattle.std.proofs.Common.{◌≡◌, ◌≤◌, ◌<◌, ℕ, Bool, true, false, nat_lt, List, [], ◌∷◌, Some, refl, sym, subst, arith}
use Rattle.std.specs.Prelude.{if◌then◌else◌}
use Rattle.std.proofs.lemmas.Bool.{ltb-true, ltb-false}
use Rattle.std.specs.List.{AllByRecursion}
use Rattle.sql_types.specs.declared.digest.HeldDigest.{HeldDigest}
use Rattle.sql_types.specs.declared.image.Image.{Image}
use Rattle.format_image.specs.ImageBytes.{IsImage}
use Rattle.spec_verify.specs.declared.place.Verdict.TheVariants.{Yes}
use Rattle.spec_verify.specs.Verdict.{image_verdict}
use Rattle.audit_extract.specs.Each.{last_of}
use Rattle.format_chain.specs.declared.chain.Chain.{Chain}
use Rattle.format_receipt.specs.declared.receipt.Receipt.{Receipt}
use Rattle.audit_receipt.specs.Accepted.{Accepted}
use Rattle.audit_receipt.proofs.Made.{made_accepted}
use Rattle.audit_chain.specs.Continues.{Continues}
use Rattle.audit_chain.specs.Joins.{IsWithin}
use Rattle.audit_chain.proofs.Continuing.{made_continues}
use Rattle.law_row_receipt.proofs.RowsGiven.{table_given, row_given}
use Rattle.audit_any_receipt.specs.declared.any.AnyReceipt.{AnyReceipt}
use Rattle.audit_any_receipt.specs.declared.any.AnyReceipt.TheVariants as kinds
use Rattle.audit_any_receipt.specs.declared.make.Wanted.{Wanted}
use Rattle.audit_any_receipt.specs.declared.make.Wanted.TheVariants as wanted
use Rattle.audit_any_receipt.specs.Among.{IsAcceptedBy}
use Rattle.audit_any_receipt.specs.Kinds.{IsAny}
use Rattle.audit_any_receipt.specs.Wanted.{least_to, IsMadeFor, IsReceiptUnder}
use Rattle.audit_any_receipt.proofs.Held.{Fits, all_fit, all_to, last_fits}

-- ---- the least block

less_if : (b : Bool) (n m : ℕ) → nat_lt n m ≡ b → (if b then n else m) ≤ m
less_if true n m e = let lt = ltb-true n m e in omega (arith, lt)
less_if false n m e = omega arith

lesser_of : (b : Bool) (n m : ℕ) → nat_lt n m ≡ b → (if b then n else m) ≤ n
lesser_of true n m e = omega arith
lesser_of false n m e = let le = ltb-false n m e in omega (arith, le)

pub least_within : (n : ℕ) (ds : List HeldDigest) → least_to n ds ≤ n
least_within n [] = omega arith
least_within n (d ∷ ds) =
    let one = less_if (nat_lt d.block n) d.block n refl in
    let more = least_within (if nat_lt d.block n then d.block else n) ds in
    omega (arith, one, more)

-- the least block is no later than that of each digest
all_from : (n : ℕ) (ds : List HeldDigest) → AllByRecursion (λ (d : HeldDigest). least_to n ds ≤ d.block) ds
all_from n [] = tt
all_from n (d ∷ ds) =
    let one = lesser_of (nat_lt d.block n) d.block n refl in
    let more = least_within (if nat_lt d.block n then d.block else n) ds in
    (omega (arith, one, more), all_from (if nat_lt d.block n then d.block else n) ds)

all_within : (from to : ℕ) (ds : List HeldDigest) → AllByRecursion (λ (d : HeldDigest). from ≤ d.block) ds → AllByRecursion (λ (d : HeldDigest). d.block ≤ to) ds → AllByRecursion (IsWithin from to) ds
all_within from to [] a b = tt
all_within from to (d ∷ ds) a b = ((a.0, b.0), all_within from to ds a.1 b.1)

-- ---- receipts

module _ (h : List ℕ → List ℕ) (i : Image) (held : List HeldDigest) (d : HeldDigest) (is : IsImage i) (yields : image_verdict h i held ≡ Yes) (last : last_of held ≡ Some d) where
  fits : Fits h i d
  fits = last_fits h i held d yields last

  is_under : (w : Wanted) (r : AnyReceipt) → IsMadeFor h i w (least_to d.block held) d.block r → IsReceiptUnder h i held w r
  is_under (wanted.Entry tx) (kinds.Entry r) made =
      record {
        d = d;
        last = last;
        made = made;
        spelled = made.spelled;
        accepted = subst (λ (x : Receipt). Accepted h x d) (sym made.is) (made_accepted h i is fits.chain fits.blocks d made.place made.entry fits.digest made.there made.within);
      }
  is_under (wanted.Table tx table) (kinds.Table r) made =
      record { d = d; last = last; made = made; spelled = made.spelled; accepted = table_given h i is fits.chain fits.blocks fits.roots d tx table r fits.digest made }
  is_under (wanted.Event tx table seq) (kinds.Event r) made =
      record { d = d; last = last; made = made; spelled = made.spelled; accepted = row_given h i is fits.chain fits.blocks fits.roots d tx table seq r fits.digest made }
  is_under wanted.Chain (kinds.Chain c) made =
      record {
        d = d;
        last = last;
        made = made;
        spelled = made.spelled;
        accepted = subst (λ (x : Chain). Continues h x d held) (sym made.is)
            (made_continues h i is fits.chain fits.blocks (least_to d.block held) d held fits.digest (all_fit h i held yields) (least_within d.block held)
            (all_within (least_to d.block held) d.block held (all_from d.block held) (all_to held d last)));
      }
  is_under (wanted.Entry tx) (kinds.Table r) made = absurd made
  is_under (wanted.Entry tx) (kinds.Event r) made = absurd made
  is_under (wanted.Entry tx) (kinds.Chain c) made = absurd made
  is_under (wanted.Table tx table) (kinds.Entry r) made = absurd made
  is_under (wanted.Table tx table) (kinds.Event r) made = absurd made
  is_under (wanted.Table tx table) (kinds.Chain c) made = absurd made
  is_under (wanted.Event tx table seq) (kinds.Entry r) made = absurd made
  is_under (wanted.Event tx table seq) (kinds.Table r) made = absurd made
  is_under (wanted.Event tx table seq) (kinds.Chain c) made = absurd made
  is_under wanted.Chain (kinds.Entry r) made = absurd made
  is_under wanted.Chain (kinds.Table r) made = absurd made
  is_under wanted.Chain (kinds.Event r) made = absurd made

  pub given_under : (w : Wanted) (from : ℕ) (r : AnyReceipt) → from ≡ least_to d.block held → IsMadeFor h i w from d.block r → IsReceiptUnder h i held w r
  given_under w from r same made = is_under w r (subst (λ (n : ℕ). IsMadeFor h i w n d.block r) same made)
