-- How long a file of digests is.
use Rattle.std.specs.Prelude.{◌≡◌, ◌≤◌, ◌<◌, ◌*◌, ◌^◌, ℕ, true, List, length}
use Rattle.std.specs.List.{AllByRecursion}
use Rattle.base_types.specs.DatabaseName.{is_database_name}
use Rattle.sql_types.specs.declared.digest.Digest.{Digest}
use Rattle.format_digest.specs.Writing.{IsFile, IsHash}

-- what a run issues: a digest of a database by its name
pub record IsIssued (d : Digest) : Type 0 where
  pub database : is_database_name d.database ≡ true
  pub block : d.block < 2 ^ 64
  pub hash : IsHash d.hash

-- the most bytes of an input, 4 MiB, and of the digests that are read, 32 MiB
abbrev pub input_limit : ℕ
input_limit = 4194304

abbrev pub digests_limit : ℕ
digests_limit = 33554432

-- no line that issues a digest has fewer bytes with its line feed: `EXEC` and
-- `sp_generate_database_ledger_digest` alone have 38
abbrev pub least_line : ℕ
least_line = 39

-- The file of the digests that the statements of one input asked for can be read.
abbrev pub FitsWhatIsRead : List Digest → List ℕ → Type 0
FitsWhatIsRead list bytes =
    IsFile list bytes → AllByRecursion IsIssued list → length list * least_line ≤ input_limit
    → length bytes ≤ digests_limit
