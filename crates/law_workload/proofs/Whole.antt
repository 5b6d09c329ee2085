-- A run of the workload in which every statement was committed takes turns.
use Rattle.std.proofs.Common.{◌≡◌, ◌≢◌, ◌≤◌, ◌+◌, ◌*◌, ◌/◌, ◌^◌, ℕ, List, length, Some, refl, arith}
use Rattle.std.specs.List.{AllByRecursion}
use Rattle.sql_types.specs.JournalRules.{ItemRules}
use Rattle.sql_types.specs.declared.digest.Digest.{Digest}
use Rattle.sql_types.specs.declared.journal.JournalItem.{JournalItem}
use Rattle.spec_model.specs.Journals.{tx_count}
use Rattle.spec_history.specs.Lists.{Text, At}
use Rattle.spec_history.specs.Meaning.{Meaning}
use Rattle.spec_history.specs.Agree.{of_session, Agree}
use Rattle.spec_history.specs.Transcripts.{Transcript}
use Rattle.workload_generator.specs.Workload.{setup_texts, session_name, session_texts, statement_count}
use Rattle.law_workload.specs.Turns.{Turns, ReadsTexts}
use Rattle.law_workload.specs.Input.{setup_session, table_session, workload_input}
use Rattle.law_workload.proofs.Committed.{at_most, all_are}
use Rattle.law_workload.proofs.Counting.{found_in, each_is_found}
use Rattle.law_workload.proofs.EachAlone.{setup_own, session_own}
use Rattle.law_workload.proofs.Sessions.{Before, of_some, after_setup}
use Rattle.law_workload.proofs.Taking.{takes_turns}

pub all_in_turns : (count : (table rows : ℕ) → length (session_texts table rows) ≡ statement_count rows) (q : Meaning) (database : Text) (rows : ℕ) (X : List Transcript)
    (items : List JournalItem) (G : List Digest) → ReadsTexts q.reads → rows ≤ 1000000 → AllByRecursion ItemRules items → Agree q database (workload_input rows) (Some 0) X items G
    → tx_count items ≡ 4 + 4 * rows + 4 * (rows / 10)
    → Turns setup_texts (session_texts 1 rows) (session_texts 2 rows) (session_texts 3 rows) (session_texts 4 rows) items
all_in_turns count q database rows X items G known few rules agree many =
    let input = workload_input rows in
    let small : rows ≤ 2 ^ 31 = omega (arith, few) in
    let some = of_some q database input (Some 0) X items G agree in
    let after : (i table : ℕ) → At input i (table_session rows table) → i ≢ 0 → Before (of_session setup_session.name items) (of_session (session_name table) items)
    = λ i table there other. after_setup q database input (Some 0) X items G agree 0 i setup_session (table_session rows table) refl refl there other in
    let s = some 0 setup_session refl (setup_own q known) in
    let a = some 1 (table_session rows 1) refl (session_own q known 1 (omega arith) (omega arith) rows small) in
    let b = some 2 (table_session rows 2) refl (session_own q known 2 (omega arith) (omega arith) rows small) in
    let c = some 3 (table_session rows 3) refl (session_own q known 3 (omega arith) (omega arith) rows small) in
    let d = some 4 (table_session rows 4) refl (session_own q known 4 (omega arith) (omega arith) rows small) in
    let enough : length setup_texts + length (session_texts 1 rows) + length (session_texts 2 rows) + length (session_texts 3 rows) + length (session_texts 4 rows) ≤ found_in input 0 items
    = omega (arith, many, each_is_found input 0 items agree.journal_is_theirs.no_others, count 1 rows, count 2 rows, count 3 rows, count 4 rows) in
    takes_turns rows 0 items agree.journal_is_theirs.no_others rules
    setup_texts (session_texts 1 rows) (session_texts 2 rows) (session_texts 3 rows) (session_texts 4 rows)
    (record {
      setup = all_are s (omega (arith, enough, at_most a, at_most b, at_most c, at_most d));
      first = record { are = all_are a (omega (arith, enough, at_most s, at_most b, at_most c, at_most d)); before = after 1 1 refl (λ e. cc) };
      second = record { are = all_are b (omega (arith, enough, at_most s, at_most a, at_most c, at_most d)); before = after 2 2 refl (λ e. cc) };
      third = record { are = all_are c (omega (arith, enough, at_most s, at_most a, at_most b, at_most d)); before = after 3 3 refl (λ e. cc) };
      fourth = record { are = all_are d (omega (arith, enough, at_most s, at_most a, at_most b, at_most c)); before = after 4 4 refl (λ e. cc) };
    })
