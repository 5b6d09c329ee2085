-- What sessions count.
use Rattle.std.specs.Prelude.{ℕ, ◌+◌, ◌-◌}
use Rattle.test_board.specs.declared.run.Session.{Session}
use Rattle.test_board.specs.declared.world.Share.{Share}
use Rattle.test_board.specs.declared.world.CounterId.{CounterId}
use Rattle.test_board.specs.declared.world.CounterId.TheVariants.{First, Second}
use Rattle.test_board.specs.Shares.{share}

abbrev pub times_first : CounterId → ℕ → ℕ
times_first First n = n
times_first Second n = 0

abbrev pub times_second : CounterId → ℕ → ℕ
times_second First n = 0
times_second Second n = n

-- how often a session counts in the first counter, and in the second
abbrev pub first_times : Session → ℕ
first_times s = times_first s.counter s.times

abbrev pub second_times : Session → ℕ
second_times s = times_second s.counter s.times

-- what a seat is once it counted n times in a counter
abbrev pub counted_times : CounterId → ℕ → Share → Share
counted_times w n s = share (s.first + times_first w n) (s.second + times_second w n) (s.left - n)

-- what a seat is once it ran a session
abbrev pub counted_by : Session → Share → Share
counted_by n s = counted_times n.counter n.times s
