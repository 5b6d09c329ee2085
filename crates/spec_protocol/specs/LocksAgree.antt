-- Locks agree: no two seats have conflicting locks.
use Rattle.std.specs.Prelude.{ℕ, ◌≡◌, ◌≢◌, false, List}
use Rattle.sql_types.specs.declared.lock.Hold.{Hold}
use Rattle.spec_model.specs.Locks.{requests_conflict}
use Rattle.spec_history.specs.Lists.{In}
use Rattle.spec_protocol.specs.Contents.{Contents}
use Rattle.spec_protocol.specs.Seats.{OpenTransaction, Session, SeatState}
use Rattle.spec_protocol.specs.OpenOnes.{HasOpen}

-- seat j has this lock in cell i
pub record SeatHas (c : Contents) (seats : List SeatState) (i j : ℕ) (h : Hold) : Type 0 where
  pub x : Session
  pub o : OpenTransaction
  pub open_one : HasOpen seats j x o
  pub lock : In h (c.holds i)
  pub mine : o.id ≡ h.tx

-- no two seats have conflicting locks
abbrev pub LocksAgree : Contents → List SeatState → Type 0
LocksAgree c seats = (i j k : ℕ) (a b : Hold) → j ≢ k → SeatHas c seats i j a → SeatHas c seats i k b
    → requests_conflict a.request b.request ≡ false
