-- What is said as a moment is one, and so the moments of a run's digests are.
use Rattle.std.proofs.Common.{◌≡◌, ◌≤◌, ◌-◌, ℕ, zero, suc, min, true, List, [], ◌∷◌, sym, subst, arith, Some}
use Rattle.std.specs.Prelude.{slice_get}
use Rattle.std.specs.List.{AllByRecursion}
use Rattle.std.proofs.lemmas.Bool.Decides.{nat_tests}
use Rattle.base_types.specs.Moment.{is_moment}
use Rattle.base_types.specs.declared.moment.TheConstants.{MAX_TICKS}
use Rattle.sql_types.specs.declared.digest.Digest.{Digest}
use Rattle.sql_types.specs.declared.journal.JournalItem.{JournalItem}
use Rattle.spec_history.specs.Digests.{IsDigest}
use Rattle.spec_history.specs.Journals.{in_blocks, times}
use Rattle.spec_history.specs.Lists.{Text, Each}
use Rattle.spec_history.specs.Meaning.{Meaning}
use Rattle.format_digest.specs.Writing.{HasMoments}
use Rattle.server_result.specs.Moments.{IsMoment}

is_within : (said : ℕ) → is_moment (min said MAX_TICKS) ≡ true
is_within said = grind (arith, nat_tests)

pub moment_is : (says : ℕ → Type 0) (at : ℕ) → IsMoment says at → is_moment at ≡ true
moment_is says at m = subst (λ n. is_moment n ≡ true) (sym m.2) (is_within m.0)

in_time : (said : ℕ) → min said MAX_TICKS ≤ MAX_TICKS
in_time said = omega arith

is_in_time : (says : ℕ → Type 0) (t : ℕ) → IsMoment says t → t ≤ MAX_TICKS
is_in_time says t m = subst (λ (n : ℕ). n ≤ MAX_TICKS) (sym m.2) (in_time m.0)

same : {A : Type 0} (y x : A) → Some y ≡ Some x → y ≡ x
same y x at = cc

each_at : {A : Type 0} (P : A → Type 0) (xs : List A) (i : ℕ) (x : A) → Each P xs → slice_get xs i ≡ Some x → P x
each_at P [] i x each at = absurd cc
each_at P (y ∷ ys) zero x each at = subst P (same y x at) each.0
each_at P (y ∷ ys) (suc i) x each at = each_at P ys i x each.1 at

pub have_moments : (q : Meaning) (database : Text) (J : List JournalItem) (says : ℕ → Type 0) (G : List Digest)
    → Each (IsMoment says) (times J) → Each (λ d. IsMoment says d.made) G → Each (IsDigest q database J) G → AllByRecursion HasMoments G
have_moments q database J says [] in_times made are = tt
have_moments q database J says (d ∷ ds) in_times made are = (
  record {
    made = is_in_time says d.made made.0;
    last_commit = is_in_time says d.last_commit (each_at (IsMoment says) (times J) (in_blocks (suc d.block) J - 1) d.last_commit in_times are.0.last);
  },
  have_moments q database J says ds in_times made.1 are.1,
)
