-- The journals of the workload: the setup's statements, and then those of the four sessions, in turns.
use Rattle.std.specs.Prelude.{◌≡◌, ◌≤◌, ◌<◌, ◌^◌, ◌+◌, ℕ, zero, suc, false, List, [], ◌∷◌, Some}
use Rattle.sql_types.specs.declared.journal.JournalItem.{JournalItem}
use Rattle.sql_types.specs.declared.journal.JournalItem.TheVariants.{Tx, Close}
use Rattle.spec_model.specs.Script.{Reading}
use Rattle.workload_generator.specs.Workload.{value_of, create_text, insert_text, update_text}
use Rattle.law_workload.specs.Statements.{create_statement, insert_statement, update_statement}

-- The transactions are these statements, each alone: those of the setup, and then those of the four sessions,
-- each session's in its order. Blocks may be closed before the first, between any two and behind the last.
pub data Turns : List (List ℕ) → List (List ℕ) → List (List ℕ) → List (List ℕ) → List (List ℕ)
    → List JournalItem → Type 0 where
  over : Turns [] [] [] [] [] []
  closes : {s a b c d : List (List ℕ)} {is : List JournalItem} (n : ℕ)
      → Turns s a b c d is → Turns s a b c d (Close n ∷ is)
  sets_up : {s a b c d : List (List ℕ)} {is : List JournalItem} (id : ℕ) (session : List ℕ) (time : ℕ)
      (text reply : List ℕ)
      → Turns s a b c d is → Turns (text ∷ s) a b c d (Tx id session time false ((text, reply) ∷ []) ∷ is)
  first : {a b c d : List (List ℕ)} {is : List JournalItem} (id : ℕ) (session : List ℕ) (time : ℕ)
      (text reply : List ℕ)
      → Turns [] a b c d is → Turns [] (text ∷ a) b c d (Tx id session time false ((text, reply) ∷ []) ∷ is)
  second : {a b c d : List (List ℕ)} {is : List JournalItem} (id : ℕ) (session : List ℕ) (time : ℕ)
      (text reply : List ℕ)
      → Turns [] a b c d is → Turns [] a (text ∷ b) c d (Tx id session time false ((text, reply) ∷ []) ∷ is)
  third : {a b c d : List (List ℕ)} {is : List JournalItem} (id : ℕ) (session : List ℕ) (time : ℕ)
      (text reply : List ℕ)
      → Turns [] a b c d is → Turns [] a b (text ∷ c) d (Tx id session time false ((text, reply) ∷ []) ∷ is)
  fourth : {a b c d : List (List ℕ)} {is : List JournalItem} (id : ℕ) (session : List ℕ) (time : ℕ)
      (text reply : List ℕ)
      → Turns [] a b c d is → Turns [] a b c (text ∷ d) (Tx id session time false ((text, reply) ∷ []) ∷ is)

-- the texts are read as the statements that they look like
pub record ReadsTexts (reads : Reading) : Type 0 where
  pub create : (table : ℕ) → 1 ≤ table → table ≤ 4 → reads (create_text table) ≡ Some (create_statement table)
  pub insert : (table row : ℕ) → 1 ≤ table → table ≤ 4 → row < 2 ^ 31
      → reads (insert_text table row) ≡ Some (insert_statement table row)
  pub update : (table row : ℕ) → 1 ≤ table → table ≤ 4 → row < 2 ^ 31
      → reads (update_text table row) ≡ Some (update_statement table row)

-- the sum of what the first rows of a table are inserted with
abbrev pub inserted_total : ℕ → ℕ → ℕ
inserted_total table zero = 0
inserted_total table (suc rows) = inserted_total table rows + value_of table rows
