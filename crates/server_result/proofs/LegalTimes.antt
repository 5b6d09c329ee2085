-- The times of a legal journal are moments, whoever says them.
use Rattle.std.proofs.Common.{◌≡◌, ◌≤◌, ℕ, min, true, List, [], ◌∷◌, arith}
use Rattle.std.specs.List.{AllByRecursion}
use Rattle.std.proofs.lemmas.Bool.Decides.{nat_tests}
use Rattle.base_types.specs.Moment.{is_moment}
use Rattle.base_types.specs.declared.moment.TheConstants.{MAX_TICKS}
use Rattle.sql_types.specs.declared.digest.Digest.{Digest}
use Rattle.sql_types.specs.declared.journal.JournalItem.{JournalItem}
use Rattle.sql_types.specs.declared.journal.JournalItem.TheVariants.{Close, Tx}
use Rattle.sql_types.specs.JournalRules.{ItemRules}
use Rattle.spec_history.specs.Journals.{times}
use Rattle.spec_history.specs.Lists.{Each}
use Rattle.spec_history.proofs.Trace.{each_weaker}
use Rattle.server_result.specs.Moments.{IsMoment}

-- whatever it is
abbrev pub AnyTime : ℕ → Type 0
AnyTime time = Unit {0}

within : (time : ℕ) → is_moment time ≡ true → time ≡ min time MAX_TICKS
within time is = let l : time ≤ MAX_TICKS = grind (arith, nat_tests, is) in omega (arith, l)

pub legal_times : (J : List JournalItem) → AllByRecursion ItemRules J → Each (IsMoment AnyTime) (times J)
legal_times [] rules = tt
legal_times (Tx id session time explicit lines ∷ J) rules = ((time, tt, within time rules.0.time), legal_times J rules.1)
legal_times (Close k ∷ J) rules = legal_times J rules.1

pub at_any_time : (says : ℕ → Type 0) (time : ℕ) → IsMoment says time → IsMoment AnyTime time
at_any_time says time m = (m.0, tt, m.2)

pub made_at_any_time : (says : ℕ → Type 0) (G : List Digest) → Each (λ d. IsMoment says d.made) G → Each (λ d. IsMoment AnyTime d.made) G
made_at_any_time says G = each_weaker (λ (d : Digest). IsMoment says d.made) (λ (d : Digest). IsMoment AnyTime d.made) (λ d m. at_any_time says d.made m) G
