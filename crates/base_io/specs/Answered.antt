-- What the calls of a fake have answered, as far as it keeps it: how many answers there were, at how many of them
-- whoever calls in a loop has to stop, and the last one. So of the calls behind a moment it tells whether the first
-- stop among them was the last call, which is what contracts say of calls.
use Rattle.std.specs.Prelude.{◌≡◌, ◌-◌, ◌^◌, ◌==◌, ◌++◌, ◌∷◌, [], ℕ, Bool, true, if◌then◌else◌, List, length, min, Option, Some, None, Result, Ok, Err, is_err}
use Rattle.std.specs.List.{count_by}
use Rattle.base_io.specs.Count.{counted}
use Rattle.base_io.specs.declared.answer_log.AnswerLog.{AnswerLog}
use Rattle.base_io.specs.declared.failed.Failed.{Failed}
use Rattle.base_io.specs.declared.vault.VaultErr.{VaultErr}

abbrev pub no_answers : {A : Type 0} → AnswerLog A
no_answers = record { answers = 0; stops = 0; last = None }

-- after an answer more, which may be a stop
abbrev pub with_answer : {A : Type 0} → A → Bool → AnswerLog A → AnswerLog A
with_answer answer stop log = record {
  answers = counted log.answers;
  stops = if stop then counted log.stops else log.stops;
  last = Some answer;
}

-- a read or a write that failed, or moved nothing
abbrev pub is_move_stop : Result ℕ Failed → Bool
is_move_stop (Ok n) = n == 0
is_move_stop (Err e) = true

-- a call of a vault that answered an error
abbrev pub is_vault_stop : Result (Unit {0}) VaultErr → Bool
is_vault_stop answer = is_err answer

-- it is the last of these, and there is none where there are none
abbrev pub IsLast : {A : Type 0} → Option A → List A → Type 0
IsLast None answers = answers ≡ []
IsLast {A} (Some a) answers = (front : List A) × (answers ≡ front ++ a ∷ [])

-- so many answers are these, so many of them are stops, and this one is the last
pub record HasAnswered {A : Type 0} (is_stop : A → Bool) (log : AnswerLog A) (answers : List A) : Type 0 where
  pub many : log.answers ≡ min (length answers) (2 ^ 64 - 1)
  pub stops : log.stops ≡ min (count_by is_stop answers) (2 ^ 64 - 1)
  pub last : IsLast log.last answers
