-- What both halves of a plan wrote, once their seats are one.
use Rattle.std.proofs.Common.{◌≡◌, ◌++◌, ◌∙◌, ℕ, List, take, drop, Result, Ok, Err, ap₂}
use Rattle.std.proofs.lemmas.List.{take-append-drop}
use Rattle.std.specs.Prelude.{IfOk, Vec}
use Rattle.std.specs.declared.alloc.Global.{Global}
use Rattle.base_types.specs.declared.memory.Memory.{Memory}
use Rattle.base_board.specs.Boards.{seat_state}
use Rattle.base_board.specs.declared.board.Board.{Board}
use Rattle.base_board.specs.declared.board.BoardSeat.{BoardSeat}
use Rattle.base_board.specs.declared.world.World.{Ghosts}
use Rattle.format_sections.specs.declared.section.Section.{Section}
use Rattle.spec_protocol.specs.Seats.{idle, kept, split, SeatState}
use Rattle.server_run.specs.FinishedRun.{AreUnited}
use Rattle.server_run.specs.AllWrote.{HaveWritten}
use Rattle.server_thread.specs.SessionEnd.{SessionEnd}
use Rattle.server_run.proofs.Together.{have_united}

pub whole_again : (left right sections : List Section) (n : ℕ) → left ≡ take n sections → right ≡ drop n sections → left ++ right ≡ sections
whole_again left right sections n front back = ap₂ (λ (a b : List Section). a ++ b) front back ∙ take-append-drop n sections

module _ {W C : Type 0} {g : Ghosts W C SeatState} (says : ℕ → Type 0) (b : Board W C SeatState) (sections left right : List Section) (s : SeatState) (n : ℕ) (mine theirs : SeatState) where
  pub halves : (first second united : Result (BoardSeat W C SeatState g × Vec SessionEnd Global) Memory) → s.role ≡ idle → left ++ right ≡ sections → mine ≡ kept s n → theirs ≡ split s n
      → IfOk united (AreUnited b first second)
      → IfOk first (λ r. HaveWritten says left r.1.items mine (seat_state r.0))
      → IfOk second (λ r. HaveWritten says right r.1.items theirs (seat_state r.0))
      → IfOk united (λ r. HaveWritten says sections r.1.items s (seat_state r.0))
  halves first second (Err e) role whole one two u x y = tt
  halves (Err e) second (Ok r) role whole one two u x y = absurd u
  halves (Ok p) (Err e) (Ok r) role whole one two u x y = absurd u
  halves (Ok p) (Ok q) (Ok r) role whole one two u x y =
      have_united says sections left right r.1.items p.1.items q.1.items s n mine theirs (seat_state p.0) (seat_state q.0) (seat_state r.0) role whole u.ends one two u.state x y
