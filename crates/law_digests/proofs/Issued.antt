-- The file of the digests that a run of one input issued can be read.
use Rattle.std.proofs.Common.{◌≡◌, ◌∙◌, ℕ, ◌+◌, ◌*◌, ◌<◌, ◌≤◌, ◌^◌, true, List, [], ◌∷◌, length, Option, ap, arith}
use Rattle.std.specs.List.{AllByRecursion}
use Rattle.base_types.specs.DatabaseName.{is_database_name}
use Rattle.sql_types.specs.declared.digest.Digest.{Digest}
use Rattle.sql_types.specs.declared.journal.JournalItem.{JournalItem}
use Rattle.sql_types.specs.declared.journal.JournalItem.TheVariants.{Tx, Close}
use Rattle.spec_history.specs.Digests.{IsDigest}
use Rattle.spec_history.specs.Inputs.{InputSession}
use Rattle.spec_history.specs.Journals.{blocks}
use Rattle.spec_history.specs.Lists.{Text, Each}
use Rattle.spec_history.specs.Meaning.{Meaning}
use Rattle.format_digest.specs.Writing.{IsHash}
use Rattle.law_digests.specs.Issued.{AreIssued, input_bytes}
use Rattle.law_digests.specs.Size.{IsIssued, digests_limit, input_limit, least_line}
use Rattle.law_digests.proofs.Answered.{closed}
use Rattle.law_digests.proofs.ReadBack.{hashes}
use Rattle.law_digests.proofs.Sizes.{fits}

blocks_are_items : (J : List JournalItem) → blocks J ≤ length J
blocks_are_items [] = omega arith
blocks_are_items (Tx id session time explicit script ∷ J) = let rest = blocks_are_items J in omega (arith, rest)
blocks_are_items (Close k ∷ J) = let rest = blocks_are_items J in omega (arith, rest)

all_issued : (q : Meaning) (database : Text) (J : List JournalItem) (k : ℕ) (G : List Digest) → is_database_name database ≡ true → k < 2 ^ 64
    → Each (λ d. d.block < k) G → Each (IsDigest q database J) G → AllByRecursion (λ d. IsHash d.hash) G → AllByRecursion IsIssued G
all_issued q database J k [] named count closed_ are hashes_ = tt
all_issued q database J k (d ∷ G) named count closed_ are hashes_ = (
  record { database = ap is_database_name are.0.of ∙ named; block = below d.block k closed_.0 count; hash = hashes_.0 },
  all_issued q database J k G named count closed_.1 are.1 hashes_.1,
)
  where
    below : (block k : ℕ) → block < k → k < 2 ^ 64 → block < 2 ^ 64
    below block k lt count = omega (arith, lt, count)

pub can_be_read : (q : Meaning) (database : Text) (input : List InputSession) (setup : Option ℕ) (J : List JournalItem) (G : List Digest) (file : List ℕ) (bytes : ℕ)
    → AreIssued q database input setup J G file → length G * least_line ≤ input_bytes input → input_bytes input ≤ bytes + 1 → bytes ≤ input_limit → length file ≤ digests_limit
can_be_read q database input setup J G file bytes issued cost all within =
    let are = issued.agree.digests_are_the_journals in
    let items = blocks_are_items J in
    let count = issued.count in
    let each = all_issued q database J (blocks J) G issued.database_name (fewer (blocks J) (length J) items count) (closed q database setup issued.X J G are) are.each (hashes G file issued.read_back) in
    fits G file issued.is_file each (omega (arith, cost, all, within))
  where
    fewer : (m n : ℕ) → m ≤ n → n < 2 ^ 64 → m < 2 ^ 64
    fewer m n le lt = omega (arith, le, lt)
