-- The calls of a fake: which are to fail, how many were made, how many have failed.
use Rattle.std.specs.Prelude.{ℕ, List}
use Rattle.base_io.specs.Count.{counted}

-- the numbers of the calls that are to fail, counted from 1, and how many were made and have failed
pub record FaultSchedule : Type 0 where
  pub fails : List ℕ
  pub calls : ℕ
  pub failed : ℕ

-- no call was made so far
abbrev pub no_calls_yet : List ℕ → FaultSchedule
no_calls_yet fails = record { fails = fails; calls = 0; failed = 0 }

-- the same after a failure more
abbrev pub failed_once : FaultSchedule → FaultSchedule
failed_once p = record { fails = p.fails; calls = p.calls; failed = counted p.failed }

-- the same after a call more
abbrev pub called : FaultSchedule → FaultSchedule
called p = record { fails = p.fails; calls = counted p.calls; failed = p.failed }
