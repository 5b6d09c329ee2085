-- A small history: setup commits, one session commits in a transaction that BEGIN opened, another meets its
-- lock and is issued a digest.
use Rattle.std.specs.Prelude.{◌==◌, if◌then◌else◌, true, false, List, [], ◌∷◌, ◌++◌, map, length, Option, Some, None, refl}
use Rattle.sql_value.specs.declared.refusal.Refusal.TheVariants.{Locked}
use Rattle.sql_value.specs.declared.column.TableKind.TheVariants.{Updatable}
use Rattle.sql_types.specs.declared.statement.Stmt.{Stmt}
use Rattle.sql_types.specs.declared.statement.Stmt.TheVariants as stmt
use Rattle.sql_types.specs.declared.statement.SelectList.TheVariants as what
use Rattle.sql_types.specs.declared.reply.Reply.TheVariants as reply
use Rattle.spec_history.specs.Lists.{Text}
use Rattle.spec_history.specs.Inputs.{InputSession}
use Rattle.spec_history.specs.Meaning.{Meaning}
use Rattle.spec_history.specs.Transcripts.{Transcript, committed_at, ended_after, statement}
use Rattle.spec_history.specs.Digests.{Digest}
use Rattle.spec_history.specs.Acts.{Act, by, closes, starts, takes, assigns_id, looks, says, meets, commits, ends, releases_locks, issues, answers, stops}

-- a text is the number of its kind
abbrev pub reads : Text → Option Stmt
reads [] = None
reads (c ∷ cs) =
    if c == 1 then Some stmt.Begin
    else (if c == 2 then Some stmt.Commit
    else (if c == 3 then Some stmt.Digest
    else (if c == 5
    then Some (stmt.Create (record {
      name = [];
      columns = [];
      key = [];
      kind = Updatable;
      history = None;
      view = None;
    }))
    else Some (stmt.Select (record { table = []; what = what.All; cond = None; order = [] })))))

-- statements that change no definitions, each with one start or end, which all clash in one table
abbrev pub meaning : Meaning
meaning = record {
  first = [];
  defs = λ tables. [];
  reads = reads;
  writes = λ r. [];
  after = λ explicit tables id texts. tables;
  replies = λ explicit tables id texts. map (λ t. []) texts;
  events = λ explicit tables id texts. length texts;
  in_catalog = λ o a p b. false;
  in_table = λ defs o a p b. true;
  requests = λ p b. true;
  block_hash = λ items b. [];
  opened_keeps = λ tables id texts. refl;
  nothing_keeps = λ tables id. refl;
  alone_keeps = λ defs tables id a b o e. refl;
  table_requests = λ defs a b o p e. refl;
  hash_stays = λ J K b l. refl;
}

abbrev pub database : Text
database = 76 ∷ []

abbrev pub digest : Digest
digest = record { database = database; block = 0; hash = []; last_commit = 9; made = 9 }

abbrev pub row : Text
row = 4 ∷ []

abbrev pub creating : Text
creating = 5 ∷ []

-- setup commits a statement of its own, and is over
abbrev pub setup_runs : List Act
setup_runs =
    by 0 (starts (115 ∷ [])) ∷ by 0 (takes row) ∷ by 0 (assigns_id 1 false) ∷ by 0 (looks row true)
    ∷ by 0 (says (row, [])) ∷ by 0 (commits 9 1) ∷ by 0 releases_locks
    ∷ by 0 (answers (statement row reply.Made (Some (committed_at 1 1)))) ∷ by 0 stops ∷ []

-- a session opens transaction 2, and locks
abbrev pub locks : List Act
locks =
    by 1 (takes (1 ∷ [])) ∷ by 1 (assigns_id 2 true) ∷ by 1 (answers (statement (1 ∷ []) (reply.Begun 2) None))
    ∷ by 1 (takes row) ∷ by 1 (looks row true) ∷ by 1 (says (row, []))
    ∷ by 1 (answers (statement row reply.Made None)) ∷ []

-- two sessions begin
abbrev pub opens : List Act
opens = by 1 (starts (97 ∷ [])) ∷ by 2 (starts (98 ∷ [])) ∷ locks

-- the second would create a table, and meets this lock
abbrev pub is_refused : List Act
is_refused =
    by 2 (takes creating) ∷ by 2 (assigns_id 3 false) ∷ by 2 (looks creating false) ∷ by 2 (meets creating 2)
    ∷ by 2 (ends 1 false) ∷ by 2 releases_locks
    ∷ by 2 (answers (statement creating (reply.Refused (Locked 2)) (Some (ended_after 3 1)))) ∷ []

-- the first commits
abbrev pub is_committed : List Act
is_committed =
    by 1 (takes (2 ∷ [])) ∷ by 1 (commits 9 2) ∷ by 1 releases_locks
    ∷ by 1 (answers (statement (2 ∷ []) reply.NoOutput (Some (committed_at 2 2)))) ∷ by 1 stops ∷ []

-- a block is closed, and the second is issued its digest
abbrev pub is_issued : List Act
is_issued =
    closes 2 ∷ by 2 (takes (3 ∷ [])) ∷ by 2 (issues digest 2)
    ∷ by 2 (answers (statement (3 ∷ []) (reply.Digest 0 []) None)) ∷ by 2 stops ∷ []

abbrev pub history : List Act
history = setup_runs ++ (opens ++ (is_refused ++ (is_committed ++ is_issued)))

abbrev pub input : List InputSession
input =
    record { name = 115 ∷ []; texts = row ∷ [] }
    ∷ record { name = 97 ∷ []; texts = (1 ∷ []) ∷ row ∷ (2 ∷ []) ∷ [] }
    ∷ record { name = 98 ∷ []; texts = creating ∷ (3 ∷ []) ∷ [] } ∷ []

abbrev pub transcripts : List Transcript
transcripts =
    record { session = 115 ∷ []; entries = statement row reply.Made (Some (committed_at 1 1)) ∷ [] }
    ∷ record {
      session =
          97 ∷ [];
      entries = statement (1 ∷ []) (reply.Begun 2) None ∷ statement row reply.Made None
          ∷ statement (2 ∷ []) reply.NoOutput (Some (committed_at 2 2)) ∷ [];
    }
    ∷ record {
      session =
          98 ∷ [];
      entries = statement creating (reply.Refused (Locked 2)) (Some (ended_after 3 1))
          ∷ statement (3 ∷ []) (reply.Digest 0 []) None ∷ [];
    }
    ∷ []
