-- Records that lead to one digest.
use Rattle.std.proofs.Common.{◌≡◌, ◌≤◌, ◌<◌, ◌+◌, ◌-◌, ◌⊎◌, ℕ, zero, suc, List, [], ◌∷◌, length, take, drop, Some, refl, arith, sym, ◌∙◌, ap, subst, inl, length-drop}
use Rattle.std.specs.List.{AllByRecursion, slice_get}
use Rattle.std.proofs.lemmas.List.{drop-take, drop-drop}
use Rattle.format_entry.specs.Record.{record_bytes, IsRecord}
use Rattle.format_entry.proofs.RecordExact.{equal_records}
use Rattle.sql_types.specs.declared.digest.HeldDigest.{HeldDigest}
use Rattle.sql_types.specs.declared.entry.BlockRecord.{BlockRecord}
use Rattle.spec_ledger.specs.Blocks.{no_hash, record_hash, first_or_no_hash, last_hash}
use Rattle.audit_extract.specs.Collisions.{HasCollisionBetween, IsRecordAmong}
use Rattle.audit_extract.proofs.Collisions.{equal_or, first_record, later_record, or_wider}
use Rattle.audit_extract.proofs.Lists.{cons_is}
use Rattle.audit_extract.proofs.Unbroken.{so_far}
use Rattle.audit_receipt.specs.Accepted.{KeepsHashOf, AreLinked, LeadTo}

pub first_left : (j : ℕ) (rs : List BlockRecord) (r : BlockRecord) (more : List BlockRecord) → drop j rs ≡ r ∷ more → slice_get rs j ≡ Some r
first_left zero [] r more e = cc
first_left zero (s ∷ rs) r more e = ap Some (cons_is s r rs more e).0
first_left (suc j) [] r more e = cc
first_left (suc j) (s ∷ rs) r more e = first_left j rs r more e

module _ (h : List ℕ → List ℕ) where
  -- two things are one, or a record of the one list and one of the other collide
  abbrev OneOr : Type 0 → List BlockRecord → List BlockRecord → Type 0
  OneOr P rs ss = P ⊎ HasCollisionBetween h (IsRecordAmong rs) (IsRecordAmong ss)

  -- records with one hash are one
  same_record : (r s : BlockRecord) (rs ss : List BlockRecord) → IsRecord r → IsRecord s → record_hash h r ≡ record_hash h s → OneOr (r ≡ s) (r ∷ rs) (s ∷ ss)
  same_record r s rs ss fr fs e =
      so_far (λ (b : record_bytes r ≡ record_bytes s). inl (equal_records r s fr fs b))
      (equal_or h (IsRecordAmong (r ∷ rs)) (IsRecordAmong (s ∷ ss)) (record_bytes r) (record_bytes s) (first_record r rs) (first_record s ss) e)

  -- linked records of one length with one last hash are one list
  same_links : (n : ℕ) (p q : List ℕ) (rs ss : List BlockRecord) → AreLinked h n rs → AreLinked h n ss → length rs ≡ length ss
      → AllByRecursion IsRecord rs → AllByRecursion IsRecord ss → last_hash h p rs ≡ last_hash h q ss → OneOr (rs ≡ ss) rs ss
  same_links n p q [] [] lr ls l fr fs e = inl refl
  same_links n p q [] (s ∷ ss) lr ls l fr fs e = absurd (omega (arith, l))
  same_links n p q (r ∷ rs) [] lr ls l fr fs e = absurd (omega (arith, l))
  same_links n p q (r ∷ []) (s ∷ []) lr ls l fr fs e = so_far (λ (same : r ≡ s). inl (ap (λ (x : BlockRecord). x ∷ []) same)) (same_record r s [] [] fr.0 fs.0 e)
  same_links n p q (r ∷ []) (s ∷ t ∷ ss) lr ls l fr fs e = absurd (omega (arith, l))
  same_links n p q (r ∷ t ∷ rs) (s ∷ []) lr ls l fr fs e = absurd (omega (arith, l))
  same_links n p q (r ∷ r2 ∷ rs) (s ∷ s2 ∷ ss) lr ls l fr fs e =
      so_far (λ (tails : r2 ∷ rs ≡ s2 ∷ ss).
      so_far (λ (head : r ≡ s). inl (ap (λ (x : BlockRecord). x ∷ r2 ∷ rs) head ∙ ap (λ (xs : List BlockRecord). s ∷ xs) tails))
      (same_record r s (r2 ∷ rs) (s2 ∷ ss) fr.0 fs.0 (sym lr.1 ∙ ap (λ (x : BlockRecord). x.previous) (cons_is r2 s2 rs ss tails).0 ∙ ls.1)))
      (or_wider h (IsRecordAmong (r2 ∷ rs)) (IsRecordAmong (s2 ∷ ss)) (IsRecordAmong (r ∷ r2 ∷ rs)) (IsRecordAmong (s ∷ s2 ∷ ss)) (later_record r (r2 ∷ rs)) (later_record s (s2 ∷ ss))
      (same_links (n + 1) (record_hash h r) (record_hash h s) (r2 ∷ rs) (s2 ∷ ss) lr.2 ls.2 (omega (arith, l)) fr.1 fs.1 e))

  -- records that lead from one block to one digest are one list
  pub same_chain : (n : ℕ) (rs ss : List BlockRecord) (d : HeldDigest) → AllByRecursion IsRecord rs → AllByRecursion IsRecord ss → LeadTo h n rs d → LeadTo h n ss d → OneOr (rs ≡ ss) rs ss
  same_chain n rs ss d fr fs x y = same_links n no_hash no_hash rs ss x.linked y.linked (omega (arith, x.reach, y.reach)) fr fs (x.hash ∙ sym y.hash)

  -- ---- parts of linked records

  pub linked_left : (j n : ℕ) (rs : List BlockRecord) → AreLinked h n rs → AreLinked h (n + j) (drop j rs)
  linked_left zero n rs l = let same : n ≡ n + 0 = omega arith in subst (λ (m : ℕ). AreLinked h m rs) same l
  linked_left (suc j) n [] l = tt
  linked_left (suc j) n (r ∷ rs) l =
      let same : n + 1 + j ≡ n + suc j = omega arith in
      subst (λ (m : ℕ). AreLinked h m (drop j rs)) same (linked_left j (n + 1) rs l.2)

  keeps_taken : (m : ℕ) (r : BlockRecord) (rs : List BlockRecord) → KeepsHashOf h r rs → KeepsHashOf h r (take m rs)
  keeps_taken zero r rs k = tt
  keeps_taken (suc m) r [] k = tt
  keeps_taken (suc m) r (s ∷ ss) k = k

  pub linked_taken : (m n : ℕ) (rs : List BlockRecord) → AreLinked h n rs → AreLinked h n (take m rs)
  linked_taken zero n rs l = tt
  linked_taken (suc m) n [] l = tt
  linked_taken (suc m) n (r ∷ rs) l = (l.0, keeps_taken m r rs l.1, linked_taken m (n + 1) rs l.2)

  -- ---- the last hash

  pub last_of_taken : (b : ℕ) (p : List ℕ) (rs : List BlockRecord) (r : BlockRecord) (more : List BlockRecord) → drop b rs ≡ r ∷ more → last_hash h p (take (suc b) rs) ≡ record_hash h r
  last_of_taken zero p [] r more e = cc
  last_of_taken zero p (s ∷ rs) r more e = ap (record_hash h) (cons_is s r rs more e).0
  last_of_taken (suc b) p [] r more e = cc
  last_of_taken (suc b) p (s ∷ rs) r more e = last_of_taken b (record_hash h s) rs r more e

  -- of the records from block j to block b
  pub last_of_part : (j b : ℕ) (p : List ℕ) (rs : List BlockRecord) → j ≤ b → b < length rs → last_hash h p (drop j (take (b + 1) rs)) ≡ first_or_no_hash h (drop b rs)
  last_of_part j b p rs le lt =
      let far : b + 1 ≡ j + suc (b - j) = omega (arith, le) in
      let part : drop j (take (b + 1) rs) ≡ take (suc (b - j)) (drop j rs) = ap (λ (n : ℕ). drop j (take n rs)) far ∙ drop-take j (suc (b - j)) rs in
      let same : (b - j) + j ≡ b = omega (arith, le) in
      let back : drop (b - j) (drop j rs) ≡ drop b rs = drop-drop (b - j) j rs ∙ ap (λ (n : ℕ). drop n rs) (let other : j + (b - j) ≡ b = omega (arith, le) in other) in
      ap (last_hash h p) part ∙ there (drop b rs) refl back
    where
      there : (ds : List BlockRecord) → drop b rs ≡ ds → drop (b - j) (drop j rs) ≡ drop b rs → last_hash h p (take (suc (b - j)) (drop j rs)) ≡ first_or_no_hash h ds
      there [] e back = let l = length-drop b rs in absurd (omega (arith, lt, l, ap length e))
      there (r ∷ more) e back = last_of_taken (b - j) p (drop j rs) r more (back ∙ e)
