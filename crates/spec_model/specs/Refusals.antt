-- Answers: a value, or why there is none.
use Rattle.std.specs.Prelude.{Result, Ok, Err, Option, Some, None, ◌≡◌, ◌≢◌}
use Rattle.sql_value.specs.declared.refusal.Refusal.{Refusal}
use Rattle.sql_value.specs.declared.refusal.Refusal.TheVariants.{NoMemory}

-- a value, or the refusal that a statement gets in its place
abbrev pub Checked : Type 0 → Type 0
Checked A = Result A Refusal

-- goes on with the value; a refusal stays
abbrev pub and_then : {A B : Type 0} → Checked A → (A → Checked B) → Checked B
and_then (Ok a) f = f a
and_then (Err e) f = Err e

-- the value that is there, or else this refusal
abbrev pub or_refused : {A : Type 0} → Refusal → Option A → Checked A
or_refused e (Some a) = Ok a
or_refused e None = Err e

-- what code answers that may lack memory: what is meant, or that there is no more memory
abbrev pub MatchesUnlessOom : {A : Type 0} → Checked A → Checked A → Type 0
MatchesUnlessOom meant (Ok a) = meant ≡ Ok a
MatchesUnlessOom meant (Err e) = e ≢ NoMemory → meant ≡ Err e
