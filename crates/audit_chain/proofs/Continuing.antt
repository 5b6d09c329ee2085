-- A chain shows that one digest continues the histories of others.
use Rattle.std.proofs.Common.{◌≡◌, ◌≤◌, ◌<◌, ◌+◌, ◌-◌, ◌⊎◌, ℕ, zero, suc, List, [], ◌∷◌, length, drop, None, arith, refl, sym, ◌∙◌, ap, subst, length-drop, length-take}
use Rattle.std.specs.Prelude.{Contains}
use Rattle.std.specs.List.{AllByRecursion}
use Rattle.std.proofs.lemmas.List.{drop-drop}
use Rattle.format_entry.specs.Record.{IsRecord}
use Rattle.sql_types.specs.declared.digest.HeldDigest.{HeldDigest}
use Rattle.sql_types.specs.declared.entry.BlockRecord.{BlockRecord}
use Rattle.sql_types.specs.declared.image.Image.{Image}
use Rattle.spec_ledger.specs.Blocks.{no_hash, record_hash, first_or_no_hash, last_hash}
use Rattle.format_image.specs.ImageBytes.{IsImage}
use Rattle.spec_verify.specs.Blocks.{chain_fault, block_fault}
use Rattle.spec_verify.specs.Sentences.{DigestHolds}
use Rattle.audit_extract.specs.Collisions.{HasCollisionBetween, IsHashedIn, IsRecordAmong}
use Rattle.audit_extract.specs.Parts.{blocks_to}
use Rattle.audit_extract.proofs.Collisions.{left_record, or_wider}
use Rattle.audit_extract.proofs.Lists.{all_left}
use Rattle.format_chain.specs.declared.chain.Chain.{Chain}
use Rattle.format_chain.specs.Chains.{IsChain}
use Rattle.audit_receipt.specs.Accepted.{AreLinked, LeadTo}
use Rattle.audit_receipt.proofs.Chains.{linked_left}
use Rattle.audit_receipt.proofs.Made.{parts_lead}
use Rattle.audit_chain.specs.Continues.{first_block, IsOfFirst, IsJoined, Continues}
use Rattle.audit_chain.specs.Joins.{IsWithin, Joins, chain_of}
use Rattle.audit_chain.proofs.Histories.{first_is, older_holds}

module _ (h : List ℕ → List ℕ) where
  -- linked records begin with the block from which they are linked
  first_linked : (n : ℕ) (rs : List BlockRecord) → 1 ≤ length rs → AreLinked h n rs → first_block rs ≡ n
  first_linked n [] some l = absurd (omega (arith, some))
  first_linked n (r ∷ rs) some l = l.0

  -- what is left of records has their last hash
  last_left : (k : ℕ) (p q : List ℕ) (rs : List BlockRecord) → k < length rs → last_hash h p (drop k rs) ≡ last_hash h q rs
  last_left k p q [] lt = absurd (omega (arith, lt))
  last_left zero p q (r ∷ rs) lt = refl
  last_left (suc k) p q (r ∷ rs) lt = last_left k p (record_hash h r) rs (omega (arith, lt))

  of_first_hash : (database : List ℕ) (d : HeldDigest) (rs : List BlockRecord) → 1 ≤ length rs → IsOfFirst h database d rs → (d.database ≡ database) × (first_or_no_hash h rs ≡ d.hash)
  of_first_hash database d [] some is = absurd is
  of_first_hash database d (r ∷ rs) some is = is

  -- ---- one history

  -- the records from a joined digest on join it to the newest one
  abbrev rest_of : Chain → HeldDigest → Chain
  rest_of c d = record { database = c.database; records = drop (d.block - first_block c.records) c.records }

  module _ (c : Chain) (newest older : HeldDigest) (led : LeadTo h (first_block c.records) c.records newest) (from : first_block c.records ≤ older.block) (to : older.block ≤ newest.block) where
    within : older.block - first_block c.records < length c.records
    within = let reach = led.reach in omega (arith, reach, from, to)

    rest_some : 1 ≤ length (drop (older.block - first_block c.records) c.records)
    rest_some = let l = length-drop (older.block - first_block c.records) c.records in omega (arith, l, within)

    rest_is : IsChain c → IsChain (rest_of c older)
    rest_is is =
        let l = length-drop (older.block - first_block c.records) c.records in
        let count = is.count in
        record {
          database = is.database;
          some = rest_some;
          count = omega (arith, l, count);
          records = all_left IsRecord (older.block - first_block c.records) c.records is.records;
        }

    rest_joins : c.database ≡ newest.database → IsJoined h c older → Joins h (rest_of c older) older newest
    rest_joins own joined =
        let l = length-drop (older.block - first_block c.records) c.records in
        let reach = led.reach in
        let at : first_block c.records + (older.block - first_block c.records) ≡ older.block = omega (arith, from) in
        let first = of_first_hash c.database older (drop (older.block - first_block c.records) c.records) rest_some joined.1 in
        record {
          older_database = sym first.0;
          newer_database = own;
          chain = record {
            linked = subst (λ (n : ℕ). AreLinked h n (drop (older.block - first_block c.records) c.records)) at (linked_left h (older.block - first_block c.records) (first_block c.records) c.records led.linked);
            reach = omega (arith, l, reach, within, from);
            hash = last_left (older.block - first_block c.records) no_hash no_hash c.records within ∙ led.hash;
          };
          hash = first.1;
        }

  one_joined : (c : Chain) (digests : List HeldDigest) (d : HeldDigest) → AllByRecursion (IsJoined h c) digests → Contains digests d → IsJoined h c d
  one_joined c [] d all (n, within, is) = absurd (omega (arith, within))
  one_joined c (x ∷ digests) d all (zero, within, is) = subst (IsJoined h c) is all.0
  one_joined c (x ∷ digests) d all (suc n, within, is) = one_joined c digests d all.1 (n, omega (arith, within), is)

  -- a digest that is joined isn't of a later block than the newest one
  not_later : (c : Chain) (newest d : HeldDigest) → LeadTo h (first_block c.records) c.records newest → IsJoined h c d → d.block ≤ newest.block
  not_later c newest d led j = by (drop (d.block - first_block c.records) c.records) refl j.1
    where
      by : (rs : List BlockRecord) → drop (d.block - first_block c.records) c.records ≡ rs → IsOfFirst h c.database d rs → d.block ≤ newest.block
      by [] e never = absurd never
      by (r ∷ rs) e own =
          let l = length-drop (d.block - first_block c.records) c.records in
          let some : length (drop (d.block - first_block c.records) c.records) ≡ suc (length rs) = ap length e in
          let reach = led.reach in
          let from = j.0 in
          omega (arith, l, some, reach, from)

  module _ (i : Image) (is : IsImage i) (chain : chain_fault h i ≡ None) (blocks : block_fault h i ≡ None) where
    pub each_holds : (c : Chain) (newest older : HeldDigest) (digests : List HeldDigest) → IsChain c → Continues h c newest digests → DigestHolds h i newest → Contains digests older
        → DigestHolds h i older ⊎ HasCollisionBetween h (IsRecordAmong c.records) (IsHashedIn h i)
    each_holds c newest older digests fc x holds among =
        let led = x.leads.chain in
        let joined = one_joined c digests older x.joined among in
        let to = not_later c newest older led joined in
        or_wider h (IsRecordAmong (rest_of c older).records) (IsHashedIn h i) (IsRecordAmong c.records) (IsHashedIn h i)
        (left_record (older.block - first_block c.records) c.records) (λ z in_image. in_image)
        (older_holds h i is chain blocks (rest_of c older) older newest (rest_is c newest older led joined.0 to fc)
        (rest_joins c newest older led joined.0 to x.leads.database joined) holds)

    -- ---- what an image gives

    joined_of : (from : ℕ) (newest d : HeldDigest) → DigestHolds h i newest → DigestHolds h i d → IsWithin from newest.block d → first_block (drop from (blocks_to i newest.block)) ≡ from
        → IsJoined h (chain_of i from newest.block) d
    joined_of from newest d new own (there, to) begins =
        let far : d.block - first_block (drop from (blocks_to i newest.block)) ≡ d.block - from = ap (λ (n : ℕ). d.block - n) begins in
        let part : drop (d.block - from) (drop from (blocks_to i newest.block)) ≡ drop d.block (blocks_to i newest.block) =
        drop-drop (d.block - from) from (blocks_to i newest.block) ∙ ap (λ (n : ℕ). drop n (blocks_to i newest.block)) (let same : from + (d.block - from) ≡ d.block = omega (arith, there) in same) in (
          omega (arith, there, begins),
          subst (IsOfFirst h i.database d) (sym (ap (λ (n : ℕ). drop n (drop from (blocks_to i newest.block))) far ∙ part)) (by (drop d.block (blocks_to i newest.block)) refl),
        )
      where
        by : (rs : List BlockRecord) → drop d.block (blocks_to i newest.block) ≡ rs → IsOfFirst h i.database d rs
        by [] e =
            let t = length-take (newest.block + 1) i.blocks in
            let l = length-drop d.block (blocks_to i newest.block) in
            let none = ap length e in
            let within = new.block in
            absurd (omega (arith, t, l, none, within, to))
        by (r ∷ rs) e = let first = first_is h i is chain blocks d.block newest new to in (own.database, ap (first_or_no_hash h) (sym e) ∙ first ∙ sym own.hash)

    all_joined : (from : ℕ) (newest : HeldDigest) (digests : List HeldDigest) → DigestHolds h i newest → AllByRecursion (DigestHolds h i) digests → AllByRecursion (IsWithin from newest.block) digests
        → first_block (drop from (blocks_to i newest.block)) ≡ from → AllByRecursion (IsJoined h (chain_of i from newest.block)) digests
    all_joined from newest [] new all between begins = tt
    all_joined from newest (d ∷ digests) new all between begins = (joined_of from newest d new all.0 between.0 begins, all_joined from newest digests new all.1 between.1 begins)

    pub made_continues : (from : ℕ) (newest : HeldDigest) (digests : List HeldDigest) → DigestHolds h i newest → AllByRecursion (DigestHolds h i) digests → from ≤ newest.block
        → AllByRecursion (IsWithin from newest.block) digests → Continues h (chain_of i from newest.block) newest digests
    made_continues from newest digests new all le between =
        let led = parts_lead h i is chain blocks newest from new le in
        let within = new.block in
        let t = length-take (newest.block + 1) i.blocks in
        let l = length-drop from (blocks_to i newest.block) in
        let begins = first_linked from (drop from (blocks_to i newest.block)) (omega (arith, t, l, within, le)) led.linked in
        record {
          leads = record {
            database = sym new.database;
            chain = subst (λ (n : ℕ). LeadTo h n (drop from (blocks_to i newest.block)) newest) (sym begins) led;
          };
          joined = all_joined from newest digests new all between begins;
        }
