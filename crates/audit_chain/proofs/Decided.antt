-- The tests decide whether a chain joins two digests.
use Rattle.std.proofs.Common.{◌≡◌, ◌-◌, ℕ, Bool, true, false, nat_lt, List, [], ◌∷◌, drop, refl, arith}
use Rattle.std.specs.Prelude.{◌&&◌, bytes_eq, if◌then◌else◌}
use Rattle.std.specs.List.{AllByRecursion}
use Rattle.std.specs.Bool.{Decides}
use Rattle.std.proofs.lemmas.Bool.{ltb-true, ltb-false}
use Rattle.sql_types.specs.declared.digest.HeldDigest.{HeldDigest}
use Rattle.sql_types.specs.declared.entry.BlockRecord.{BlockRecord}
use Rattle.spec_ledger.specs.Blocks.{record_hash, first_or_no_hash}
use Rattle.format_chain.specs.declared.chain.Chain.{Chain}
use Rattle.audit_receipt.specs.Tests.{lead_to}
use Rattle.audit_receipt.proofs.Decided.{both, turned, strings, led}
use Rattle.audit_chain.specs.Continues.{first_block, IsOfFirst, IsJoined, LeadsOn, is_of_first, is_joined}
use Rattle.audit_chain.specs.Joins.{Joins}

module _ (h : List ℕ → List ℕ) where
  -- the answer of the four tests
  pub joined : (c : Chain) (older newer : HeldDigest) (a b l f answer : Bool) → a ≡ bytes_eq c.database older.database → b ≡ bytes_eq c.database newer.database
      → l ≡ lead_to h older.block c.records newer → f ≡ bytes_eq (first_or_no_hash h c.records) older.hash → answer ≡ ((a && b) && (l && f)) → Decides answer (Joins h c older newer)
  joined c older newer a b l f answer is_a is_b is_l is_f is_answer =
      rw (is_answer, is_a, is_b, is_l, is_f) (turned ((bytes_eq c.database older.database && bytes_eq c.database newer.database) && (lead_to h older.block c.records newer && bytes_eq (first_or_no_hash h c.records) older.hash))
      (λ p. record { older_database = p.0.0; newer_database = p.0.1; chain = p.1.0; hash = p.1.1 })
      (λ j. ((j.older_database, j.newer_database), (j.chain, j.hash)))
      (both (bytes_eq c.database older.database && bytes_eq c.database newer.database) (lead_to h older.block c.records newer && bytes_eq (first_or_no_hash h c.records) older.hash)
      (both (bytes_eq c.database older.database) (bytes_eq c.database newer.database) (strings c.database older.database) (strings c.database newer.database))
      (both (lead_to h older.block c.records newer) (bytes_eq (first_or_no_hash h c.records) older.hash) (led h older.block c.records newer) (strings (first_or_no_hash h c.records) older.hash))))

  -- ---- several digests

  of_first : (database : List ℕ) (d : HeldDigest) (rs : List BlockRecord) → Decides (is_of_first h database d rs) (IsOfFirst h database d rs)
  of_first database d [] = ((λ e. cc), λ p. absurd p)
  of_first database d (r ∷ rs) = both (bytes_eq d.database database) (bytes_eq (record_hash h r) d.hash) (strings d.database database) (strings (record_hash h r) d.hash)

  pub joined_one : (c : Chain) (d : HeldDigest) → Decides (is_joined h c.database (first_block c.records) c.records d) (IsJoined h c d)
  joined_one c d = by (nat_lt d.block (first_block c.records)) refl
    where
      rest : List BlockRecord
      rest = drop (d.block - first_block c.records) c.records

      by : (b : Bool) → nat_lt d.block (first_block c.records) ≡ b → Decides (if b then false else is_of_first h c.database d rest) (IsJoined h c d)
      by true t = ((λ e. cc), λ p. let le = p.0 in absurd (omega (arith, le, ltb-true d.block (first_block c.records) t)))
      by false t = ((λ e. (ltb-false d.block (first_block c.records) t, (of_first c.database d rest).0 e)), λ p. (of_first c.database d rest).1 p.1)

  -- the answer of the two tests
  pub led_on : (c : Chain) (newest : HeldDigest) (a l answer : Bool) → a ≡ bytes_eq c.database newest.database → l ≡ lead_to h (first_block c.records) c.records newest
      → answer ≡ (a && l) → Decides answer (LeadsOn h c newest)
  led_on c newest a l answer is_a is_l is_answer =
      rw (is_answer, is_a, is_l) (turned (bytes_eq c.database newest.database && lead_to h (first_block c.records) c.records newest)
      (λ p. record { database = p.0; chain = p.1 })
      (λ x. (x.database, x.chain))
      (both (bytes_eq c.database newest.database) (lead_to h (first_block c.records) c.records newest) (strings c.database newest.database) (led h (first_block c.records) c.records newest)))
