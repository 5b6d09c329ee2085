-- Where the history takes one statement after another, locks decide in what comes behind it.
use Rattle.std.specs.Prelude.{ℕ, ◌++◌, List}
use Rattle.spec_history.specs.Acts.{Act}
use Rattle.spec_history.specs.ByLocks.{LocksDecide}
use Rattle.spec_history.specs.Histories.{OneAtATime, SessionsBelow}
use Rattle.spec_history.specs.Worlds.{first, run}
use Rattle.spec_protocol.specs.Server.{Server}

-- for any number of sessions that bounds those which act
abbrev pub LocksDecideIn : Server → List Act → List Act → Type 0
LocksDecideIn v history events = (k : ℕ) → SessionsBelow k (history ++ events)
    → OneAtATime (run first history) events → LocksDecide v.meaning k (run first history) events
