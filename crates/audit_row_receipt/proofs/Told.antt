-- What a leaf tells, and what receipts of rows are accepted.
use Rattle.std.proofs.Common.{◌≡◌, ◌≤◌, ℕ, Bool, true, false, List, [], ◌∷◌, length, Option, Some, None, refl, sym, ap, ◌∙◌, subst, arith}
use Rattle.std.specs.Prelude.{◌&&◌}
use Rattle.std.specs.List.{AllByRecursion}
use Rattle.std.specs.Bool.{Decides}
use Rattle.std.proofs.lemmas.Slice.Eq.{bytes_eq-Decides}
use Rattle.sql_types.specs.declared.digest.HeldDigest.{HeldDigest}
use Rattle.base_merkle.specs.TreeHash.{tree_hash}
use Rattle.spec_verify.specs.Entries.{root_at}
use Rattle.audit_paths.specs.Path.{root_over}
use Rattle.format_row_receipt.specs.declared.row_receipt.RowReceipt.{RowReceipt}
use Rattle.format_row_receipt.specs.declared.table_receipt.TableReceipt.{TableReceipt}
use Rattle.audit_receipt.specs.Accepted.{Accepted}
use Rattle.audit_receipt.specs.Tests.{is_root}
use Rattle.audit_receipt.proofs.Decided.{both, turned}
use Rattle.audit_row_receipt.specs.AcceptedRows.{IsLeafIn, Tells, AcceptedTable, AcceptedRow}
use Rattle.audit_row_receipt.specs.RowsMade.{IsLeafOf, Numbers}

-- ---- the table that a leaf tells

module _ (tx : ℕ) (leaf : List ℕ) where
  pub in_decided : (found : Option ℕ) (table : ℕ) (so : Bool) → Tells tx leaf found → Decides so (found ≡ Some table) → Decides so (IsLeafIn tx table leaf)
  in_decided None table so told d = ((λ e. let never : None ≡ Some table = d.0 e in absurd cc), λ it. absurd (told table it))
  in_decided (Some own) table so told d = (
    (λ e. let both : Some own ≡ Some table = d.0 e in let same : own ≡ table = cc in subst (λ (n : ℕ). IsLeafIn tx n leaf) same told.0),
    λ it. d.1 (ap (λ (n : ℕ). Some n) (sym (told.1 table it))),
  )

pub told_as : (tx : ℕ) (a b : List ℕ) (found is : Option ℕ) → Tells tx a found → a ≡ b → found ≡ is → Tells tx b is
told_as tx a b found is told same e = subst (λ (x : Option ℕ). Tells tx b x) e (subst (λ (x : List ℕ). Tells tx x found) same told)

-- ---- the number that a leaf tells

pub number_decided : (leaf : List ℕ) (found : Option ℕ) (seq : ℕ) (so : Bool) → Numbers leaf found → Decides so (found ≡ Some seq) → Decides so (IsLeafOf seq leaf)
number_decided leaf None seq so told d = ((λ e. let never : None ≡ Some seq = d.0 e in absurd cc), λ it. absurd (told seq it))
number_decided leaf (Some own) seq so told d = (
  (λ e. let both : Some own ≡ Some seq = d.0 e in let same : own ≡ seq = cc in subst (λ (n : ℕ). IsLeafOf n leaf) same told.0),
  λ it. d.1 (ap (λ (n : ℕ). Some n) (sym (told.1 seq it))),
)

-- ---- the root of a table

pub root_decided : (root : List ℕ) (found : Option (List ℕ)) (so : Bool) → so ≡ is_root root found → Decides so (found ≡ Some root)
root_decided root None so is = rw is ((λ e. cc), λ e. cc)
root_decided root (Some own) so is =
    rw is ((λ e. ap (λ (x : List ℕ). Some x) ((bytes_eq-Decides own root).0 e)), λ e. (let same : own ≡ root = cc in (bytes_eq-Decides own root).1 same))

-- ---- receipts

module _ (h : List ℕ → List ℕ) (d : HeldDigest) where
  pub row_decided : (r : RowReceipt) (table : ℕ) (root : List ℕ) (a b answer : Bool) → Tells r.receipt.entry.id r.leaf (Some table) → root ≡ root_over h r.leaf r.steps
      → Decides a (Accepted h r.receipt d) → Decides b (root_at r.receipt.entry.roots table ≡ Some root) → answer ≡ (a && (true && b)) → Decides answer (AcceptedRow h r d)
  row_decided r table root a b answer told root_is da db is =
      rw is (turned (a && (true && b))
      (λ p. record { receipt = p.0; table = table; leaf = told.0; root = p.1 ∙ ap (λ (x : List ℕ). Some x) root_is })
      (λ x. (x.receipt, subst (λ (n : ℕ). root_at r.receipt.entry.roots n ≡ Some root) (told.1 x.table x.leaf) (x.root ∙ ap (λ (y : List ℕ). Some y) (sym root_is))))
      (both a (true && b) da db))

  pub row_refused : (r : RowReceipt) → Tells r.receipt.entry.id r.leaf None → Decides false (AcceptedRow h r d)
  row_refused r told = ((λ e. cc), λ x. absurd (told x.table x.leaf))

  first_told : (tx : ℕ) (first : List ℕ) (leaves : List (List ℕ)) → 1 ≤ length leaves → ((leaf : List ℕ) (more : List (List ℕ)) → leaves ≡ leaf ∷ more → first ≡ leaf)
      → (table : ℕ) → AllByRecursion (IsLeafIn tx table) leaves → IsLeafIn tx table first
  first_told tx first [] some is table all = absurd (omega (arith, some))
  first_told tx first (leaf ∷ more) some is table all = subst (IsLeafIn tx table) (sym (is leaf more refl)) all.0

  pub table_decided : (r : TableReceipt) (first : List ℕ) (table : ℕ) (root : List ℕ) (a b c answer : Bool) → 1 ≤ length r.leaves → ((leaf : List ℕ) (more : List (List ℕ)) → r.leaves ≡ leaf ∷ more → first ≡ leaf)
      → Tells r.receipt.entry.id first (Some table) → root ≡ tree_hash h r.leaves
      → Decides a (Accepted h r.receipt d) → Decides b (AllByRecursion (IsLeafIn r.receipt.entry.id table) r.leaves) → Decides c (root_at r.receipt.entry.roots table ≡ Some root) → answer ≡ (a && (b && c))
      → Decides answer (AcceptedTable h r d)
  table_decided r first table root a b c answer some first_is told root_is da db dc is =
      rw is (turned (a && (b && c))
      (λ p. record { receipt = p.0; table = table; leaves = p.1.0; root = p.1.1 ∙ ap (λ (x : List ℕ). Some x) root_is })
      (λ x.
      (let same : x.table ≡ table = told.1 x.table (first_told r.receipt.entry.id first r.leaves some first_is x.table x.leaves) in
      (x.receipt, (subst (λ (n : ℕ). AllByRecursion (IsLeafIn r.receipt.entry.id n) r.leaves) same x.leaves, subst (λ (n : ℕ). root_at r.receipt.entry.roots n ≡ Some root) same (x.root ∙ ap (λ (y : List ℕ). Some y) (sym root_is))))))
      (both a (b && c) da (both b c db dc)))

  pub table_refused : (r : TableReceipt) (first : List ℕ) → 1 ≤ length r.leaves → ((leaf : List ℕ) (more : List (List ℕ)) → r.leaves ≡ leaf ∷ more → first ≡ leaf)
      → Tells r.receipt.entry.id first None → Decides false (AcceptedTable h r d)
  table_refused r first some first_is told = ((λ e. cc), λ x. absurd (told x.table (first_told r.receipt.entry.id first r.leaves some first_is x.table x.leaves)))
