-- The tests decide what is accepted.
use Rattle.std.proofs.Common.{◌≡◌, ◌+◌, ℕ, suc, Bool, true, false, nat_lt, List, [], ◌∷◌, length, drop, Option, Some, None, refl, arith, sym, ◌∙◌, ap, subst}
use Rattle.std.specs.Prelude.{◌==◌, ◌&&◌, nat_le, bytes_eq}
use Rattle.std.specs.Bool.{Decides}
use Rattle.std.proofs.lemmas.Bool.{eqb-true, eq-eqb, leb-true, le-leb, ltb-true, lt-ltb}
use Rattle.std.proofs.lemmas.List.{take_all}
use Rattle.std.proofs.lemmas.Slice.Eq.{bytes_eq-Decides}
use Rattle.format_entry.specs.Entry.{entry_bytes}
use Rattle.sql_types.specs.declared.digest.HeldDigest.{HeldDigest}
use Rattle.sql_types.specs.declared.entry.BlockRecord.{BlockRecord}
use Rattle.sql_types.specs.declared.entry.TxEntry.{TxEntry}
use Rattle.spec_model.specs.Limits.{max_block}
use Rattle.spec_ledger.specs.Blocks.{no_hash, record_hash, last_hash}
use Rattle.audit_paths.specs.Path.{root_under}
use Rattle.format_receipt.specs.declared.receipt.Receipt.{Receipt}
use Rattle.audit_receipt.specs.Accepted.{AreLinked, LeadTo, StandsIn, Accepted}
use Rattle.audit_receipt.specs.Tests.{keeps_hash, is_root, are_linked, lead_to, stands_in, is_accepted}
use Rattle.audit_receipt.proofs.Chains.{last_of_taken}

pub both : {P Q : Type 0} (a b : Bool) → Decides a P → Decides b Q → Decides (a && b) (P × Q)
both true b x y = ((λ e. (x.0 refl, y.0 e)), λ p. y.1 p.1)
both false b x y = ((λ e. cc), λ p. x.1 p.0)

pub turned : {P Q : Type 0} (a : Bool) → (P → Q) → (Q → P) → Decides a P → Decides a Q
turned a f g x = ((λ e. f (x.0 e)), λ q. x.1 (g q))

numbers : (x y : ℕ) → Decides (x == y) (x ≡ y)
numbers x y = (eqb-true x y, eq-eqb x y)

pub strings : (x y : List ℕ) → Decides (bytes_eq x y) (x ≡ y)
strings x y = ((bytes_eq-Decides x y).0, (bytes_eq-Decides x y).1)

-- what a record keeps
abbrev Keeps : Option (List ℕ) → BlockRecord → Type 0
Keeps None r = Unit {0}
Keeps (Some hash) r = r.previous ≡ hash

keeps : (before : Option (List ℕ)) (r : BlockRecord) → Decides (keeps_hash before r) (Keeps before r)
keeps None r = ((λ e. tt), λ p. refl)
keeps (Some hash) r = strings r.previous hash

root_is : (root : List ℕ) (o : Option (List ℕ)) → Decides (is_root root o) (o ≡ Some root)
root_is root None = ((λ e. cc), λ e. cc)
root_is root (Some hash) = turned (bytes_eq hash root) (λ e. ap Some e) (λ e. cc) (strings hash root)

module _ (h : List ℕ → List ℕ) where
  -- the first keeps this hash, if there is one, and all are linked
  abbrev Linked : Option (List ℕ) → ℕ → List BlockRecord → Type 0
  Linked before n [] = Unit {0}
  Linked before n (r ∷ rs) = ((r.id ≡ n) × Keeps before r) × Linked (Some (record_hash h r)) (n + 1) rs

  linked : (before : Option (List ℕ)) (n : ℕ) (rs : List BlockRecord) → Decides (are_linked h before n rs) (Linked before n rs)
  linked before n [] = ((λ e. tt), λ p. refl)
  linked before n (r ∷ rs) =
      both (r.id == n && keeps_hash before r) (are_linked h (Some (record_hash h r)) (n + 1) rs)
      (both (r.id == n) (keeps_hash before r) (numbers r.id n) (keeps before r)) (linked (Some (record_hash h r)) (n + 1) rs)

  to_linked : (before : Option (List ℕ)) (n : ℕ) (rs : List BlockRecord) → Linked before n rs → AreLinked h n rs
  to_linked before n [] l = tt
  to_linked before n (r ∷ []) l = (l.0.0, tt, tt)
  to_linked before n (r ∷ s ∷ rs) l = (l.0.0, l.1.0.1, to_linked (Some (record_hash h r)) (n + 1) (s ∷ rs) l.1)

  of_linked : (before : Option (List ℕ)) (n : ℕ) (rs : List BlockRecord) → ((r : BlockRecord) (more : List BlockRecord) → rs ≡ r ∷ more → Keeps before r) → AreLinked h n rs → Linked before n rs
  of_linked before n [] k l = tt
  of_linked before n (r ∷ []) k l = ((l.0, k r [] refl), tt)
  of_linked before n (r ∷ s ∷ rs) k l =
      ((l.0, k r (s ∷ rs) refl), of_linked (Some (record_hash h r)) (n + 1) (s ∷ rs) (λ x more e. (let same : s ≡ x = cc in subst (λ (y : BlockRecord). y.previous ≡ record_hash h r) same l.1)) l.2)

  chain : (n : ℕ) (rs : List BlockRecord) → Decides (are_linked h None n rs) (AreLinked h n rs)
  chain n rs = turned (are_linked h None n rs) (to_linked None n rs) (of_linked None n rs (λ r more e. tt)) (linked None n rs)

  pub led : (from : ℕ) (rs : List BlockRecord) (d : HeldDigest) → Decides (lead_to h from rs d) (LeadTo h from rs d)
  led from rs d =
      turned (lead_to h from rs d)
      (λ p. record { linked = p.1.0; reach = p.0; hash = p.1.1 })
      (λ l. (l.reach, (l.linked, l.hash)))
      (both (from + length rs == d.block + 1) (are_linked h None from rs && bytes_eq (last_hash h no_hash rs) d.hash) (numbers (from + length rs) (d.block + 1))
      (both (are_linked h None from rs) (bytes_eq (last_hash h no_hash rs) d.hash) (chain from rs) (strings (last_hash h no_hash rs) d.hash)))

  stands : (e : TxEntry) (path : List (List ℕ)) (rs : List BlockRecord) → Decides (stands_in h e path rs) (StandsIn h e path rs)
  stands e path [] = ((λ f. cc), λ p. absurd p)
  stands e path (r ∷ rs) =
      turned (stands_in h e path (r ∷ rs)) (λ p. (p.0, p.1.0, p.1.1)) (λ p. (p.0, (p.1, p.2)))
      (both (nat_le r.size max_block) (nat_lt e.ordinal r.size && is_root r.root (root_under h path e.ordinal r.size (entry_bytes e)))
      (leb-true r.size max_block, le-leb r.size max_block)
      (both (nat_lt e.ordinal r.size) (is_root r.root (root_under h path e.ordinal r.size (entry_bytes e))) (ltb-true e.ordinal r.size, lt-ltb e.ordinal r.size)
      (root_is r.root (root_under h path e.ordinal r.size (entry_bytes e)))))

  pub accepted : (r : Receipt) (d : HeldDigest) → Decides (is_accepted h r d) (Accepted h r d)
  accepted r d =
      turned (is_accepted h r d)
      (λ p. record { database = p.0; chain = p.1.0; entry = p.1.1 })
      (λ a. (a.database, (a.chain, a.entry)))
      (both (bytes_eq r.database d.database) (lead_to h r.entry.block r.records d && stands_in h r.entry r.path r.records) (strings r.database d.database)
      (both (lead_to h r.entry.block r.records d) (stands_in h r.entry r.path r.records) (led r.entry.block r.records d) (stands r.entry r.path r.records)))

  -- the hash of the last
  pub last_is : (at : ℕ) (rs : List BlockRecord) (r : BlockRecord) (more : List BlockRecord) → length rs ≡ suc at → drop at rs ≡ r ∷ more → last_hash h no_hash rs ≡ record_hash h r
  last_is at rs r more l e = ap (last_hash h no_hash) (sym (take_all (suc at) rs (omega (arith, l)))) ∙ last_of_taken h at no_hash rs r more e

  -- the answer of the three tests
  pub answered : (r : Receipt) (d : HeldDigest) (a b c answer : Bool) → a ≡ bytes_eq r.database d.database → b ≡ lead_to h r.entry.block r.records d → c ≡ stands_in h r.entry r.path r.records
      → answer ≡ (a && (b && c)) → Decides answer (Accepted h r d)
  answered r d a b c answer is_a is_b is_c is_answer = rw (is_answer, is_a, is_b, is_c) (accepted r d)
