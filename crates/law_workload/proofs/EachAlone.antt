-- Each statement of the workload is a transaction of its own.
use Rattle.std.proofs.Common.{◌≡◌, ◌≤◌, ◌<◌, ◌^◌, ◌%◌, ◌==◌, ℕ, zero, suc, Bool, true, false, [], ◌∷◌, Option, Some, sym, subst, arith}
use Rattle.std.specs.Prelude.{if◌then◌else◌}
use Rattle.sql_types.specs.declared.statement.Stmt.{Stmt}
use Rattle.spec_history.specs.Meaning.{Meaning}
use Rattle.spec_history.specs.Transcripts.{kind_of}
use Rattle.spec_history.proofs.Trace.{each_append}
use Rattle.workload_generator.specs.Workload.{create_text, insert_text, update_text, row_texts, setup_texts, session_texts}
use Rattle.law_workload.specs.Statements.{create_statement, insert_statement, update_statement}
use Rattle.law_workload.specs.Turns.{ReadsTexts}
use Rattle.law_workload.proofs.Entries.{IsOwn}
use Rattle.law_workload.proofs.Committed.{AreOwn}

own_of : (o : Option Stmt) (s : Stmt) → o ≡ Some s → IsOwn (kind_of (Some s)) → IsOwn (kind_of o)
own_of o s e own = subst (λ (z : Option Stmt). IsOwn (kind_of z)) (sym e) own

module _ (q : Meaning) (known : ReadsTexts q.reads) where
  create_own : (table : ℕ) → 1 ≤ table → table ≤ 4 → IsOwn (kind_of (q.reads (create_text table)))
  create_own table some few = own_of (q.reads (create_text table)) (create_statement table) (known.create table some few) tt

  pub setup_own : AreOwn q setup_texts
  setup_own = (
    create_own 1 (omega arith) (omega arith),
    (
      create_own 2 (omega arith) (omega arith),
      (
        create_own 3 (omega arith) (omega arith),
        (create_own 4 (omega arith) (omega arith), tt),
      ),
    ),
  )

  module _ (table : ℕ) (some : 1 ≤ table) (few : table ≤ 4) where
    row_own : (row : ℕ) → row < 2 ^ 31 → (b : Bool) → AreOwn q (insert_text table row ∷ (if b then update_text table row ∷ [] else []))
    row_own row small true = (
      own_of (q.reads (insert_text table row)) (insert_statement table row) (known.insert table row some few small) tt,
      (own_of (q.reads (update_text table row)) (update_statement table row) (known.update table row some few small) tt, tt),
    )
    row_own row small false = (own_of (q.reads (insert_text table row)) (insert_statement table row) (known.insert table row some few small) tt, tt)

    pub session_own : (n : ℕ) → n ≤ 2 ^ 31 → AreOwn q (session_texts table n)
    unfolding session_texts
    session_own zero small = tt
    session_own (suc n) small =
        each_append (λ text. IsOwn (kind_of (q.reads text))) (session_texts table n) (row_texts table n) (session_own n (omega (arith, small)))
        (row_own n (omega (arith, small)) (n % 10 == 9))
