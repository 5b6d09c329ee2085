-- What is made of an image is accepted.
use Rattle.std.proofs.Common.{◌≡◌, ◌≢◌, ◌≤◌, ◌<◌, ℕ, zero, suc, Bool, true, false, cond, List, [], ◌∷◌, length, map, Option, Some, None, refl, arith, sym, ◌∙◌, ap, subst}
use Rattle.std.specs.Prelude.{◌==◌, not}
use Rattle.std.specs.Option.{option_map}
use Rattle.std.specs.List.{slice_get}
use Rattle.std.proofs.lemmas.Bool.{ne_eqb}
use Rattle.std.proofs.lemmas.List.{length-map}
use Rattle.std.proofs.lemmas.Option.{slice_get-map}
use Rattle.sql_types.specs.declared.digest.HeldDigest.{HeldDigest}
use Rattle.sql_types.specs.declared.event.Event.{Event}
use Rattle.sql_types.specs.declared.image.Image.{Image}
use Rattle.sql_types.specs.declared.version.Table.{Table}
use Rattle.format_event.specs.Leaf.{event_bytes}
use Rattle.spec_model.specs.Catalog.{Tables}
use Rattle.spec_model.specs.Events.{events_of}
use Rattle.spec_ledger.specs.Entries.{has_events, leaves_of}
use Rattle.format_image.specs.ImageBytes.{IsImage}
use Rattle.format_image.specs.Tables.{tables_in}
use Rattle.spec_verify.specs.Blocks.{chain_fault, block_fault}
use Rattle.spec_verify.specs.Entries.{root_fault}
use Rattle.spec_verify.specs.Sentences.{DigestHolds}
use Rattle.audit_extract.specs.Leaves.{leaves_in}
use Rattle.audit_paths.specs.Path.{Step, audit_steps}
use Rattle.format_receipt.specs.declared.receipt.Receipt.{Receipt}
use Rattle.format_row_receipt.specs.declared.row_receipt.RowReceipt.{RowReceipt}
use Rattle.format_row_receipt.specs.declared.table_receipt.TableReceipt.{TableReceipt}
use Rattle.audit_receipt.specs.Made.{receipt_of}
use Rattle.audit_row_receipt.specs.AcceptedRows.{AcceptedTable, AcceptedRow}
use Rattle.audit_row_receipt.specs.RowsMade.{IsMadeTable, IsMadeRow}
use Rattle.law_row_receipt.specs.RowsMade.{table_receipt_of, row_receipt_of}
use Rattle.law_row_receipt.proofs.RowsAccepted.{table_made, row_made}

-- ---- the table of some leaves

-- there is a table whose leaves these are
record HasLeaves (ts : Tables) (tx table : ℕ) : Type 0 where
  place : ℕ
  it : Table
  there : slice_get ts place ≡ Some it
  are : leaves_in ts tx table ≡ leaves_of tx it

next_leaves : (t : Table) (ts : Tables) (tx table : ℕ) → leaves_in (t ∷ ts) tx table ≡ leaves_in ts tx table → HasLeaves ts tx table → HasLeaves (t ∷ ts) tx table
next_leaves t ts tx table same l = record { place = suc l.place; it = l.it; there = l.there; are = same ∙ l.are }

leaves_if : (b : Bool) (t : Table) (ts : Tables) (tx table : ℕ) → (t.def.id == table) ≡ b → 1 ≤ length (cond b (leaves_of tx t) (leaves_in ts tx table)) → (1 ≤ length (leaves_in ts tx table) → HasLeaves ts tx table)
    → HasLeaves (t ∷ ts) tx table
leaves_if true t ts tx table e some next = record { place = 0; it = t; there = refl; are = rw e refl }
leaves_if false t ts tx table e some next = next_leaves t ts tx table (rw e refl) (next some)

has_leaves : (ts : Tables) (tx table : ℕ) → 1 ≤ length (leaves_in ts tx table) → HasLeaves ts tx table
has_leaves [] tx table some = absurd (omega (arith, some))
has_leaves (t ∷ ts) tx table some = leaves_if (t.def.id == table) t ts tx table refl some (λ more. has_leaves ts tx table more)

events_some : (tx : ℕ) (t : Table) → 1 ≤ length (leaves_of tx t) → has_events tx t ≡ true
events_some tx t some =
    let l = length-map (events_of tx t) event_bytes in
    ap not (ne_eqb (length (events_of tx t)) 0 (λ e. absurd (omega (arith, some, l, e))))

-- an event at a place of the leaves
record EventAt (tx : ℕ) (t : Table) (k : ℕ) (leaf : List ℕ) : Type 0 where
  it : Event
  there : slice_get (events_of tx t) k ≡ Some it
  is : leaf ≡ event_bytes it

event_at : (tx : ℕ) (t : Table) (k : ℕ) (leaf : List ℕ) → slice_get (leaves_of tx t) k ≡ Some leaf → EventAt tx t k leaf
event_at tx t k leaf e = by (slice_get (events_of tx t) k) refl (sym (slice_get-map event_bytes (events_of tx t) k) ∙ e)
  where
    by : (o : Option Event) → slice_get (events_of tx t) k ≡ o → option_map event_bytes o ≡ Some leaf → EventAt tx t k leaf
    by None at f = cc
    by (Some x) at f = let same : event_bytes x ≡ leaf = cc in record { it = x; there = at; is = sym same }

some_at : (k : ℕ) (leaves : List (List ℕ)) (leaf : List ℕ) → slice_get leaves k ≡ Some leaf → 1 ≤ length leaves
some_at k [] leaf e = cc
some_at k (x ∷ leaves) leaf e = omega arith

-- ---- receipts

same_table : (r : TableReceipt) (receipt : Receipt) (leaves : List (List ℕ)) → r.receipt ≡ receipt → r.leaves ≡ leaves → record { receipt = receipt; leaves = leaves } ≡ r
same_table r receipt leaves a b = rw (sym a, sym b) refl

same_row : (r : RowReceipt) (receipt : Receipt) (leaf : List ℕ) (steps : List Step) → r.receipt ≡ receipt → r.leaf ≡ leaf → r.steps ≡ steps → record { receipt = receipt; leaf = leaf; steps = steps } ≡ r
same_row r receipt leaf steps a b c = rw (sym a, sym b, sym c) refl

module _ (h : List ℕ → List ℕ) (i : Image) (is : IsImage i) (chain : chain_fault h i ≡ None) (blocks : block_fault h i ≡ None) (roots : root_fault h i ≡ None) where
  pub table_given : (d : HeldDigest) (tx table : ℕ) (r : TableReceipt) → DigestHolds h i d → IsMadeTable h i tx table d.block r → AcceptedTable h r d
  table_given d tx table r holds made =
      let m = made.receipt in
      let some : 1 ≤ length (leaves_in (tables_in i) tx table) = let l = made.spelled.some in omega (arith, l, ap length made.leaves) in
      let t = has_leaves (tables_in i) tx table some in
      let all : r.leaves ≡ leaves_of m.entry.id t.it = made.leaves ∙ t.are ∙ ap (λ (n : ℕ). leaves_of n t.it) (sym m.of) in
      let own : 1 ≤ length (leaves_of m.entry.id t.it) = let l = made.spelled.some in omega (arith, l, ap length all) in
      subst (λ (x : TableReceipt). AcceptedTable h x d) (same_table r (receipt_of h i m.entry d.block) (leaves_of m.entry.id t.it) m.is all)
      (table_made h i is chain blocks roots d m.place t.place m.entry t.it holds m.there m.within t.there (events_some m.entry.id t.it own))

  pub row_given : (d : HeldDigest) (tx table seq : ℕ) (r : RowReceipt) → DigestHolds h i d → IsMadeRow h i tx table seq d.block r → AcceptedRow h r d
  row_given d tx table seq r holds made =
      let m = made.receipt in
      let t = has_leaves (tables_in i) tx table (some_at made.place (leaves_in (tables_in i) tx table) r.leaf made.there) in
      let all : leaves_in (tables_in i) tx table ≡ leaves_of m.entry.id t.it = t.are ∙ ap (λ (n : ℕ). leaves_of n t.it) (sym m.of) in
      let at : slice_get (leaves_of m.entry.id t.it) made.place ≡ Some r.leaf = subst (λ (ls : List (List ℕ)). slice_get ls made.place ≡ Some r.leaf) all made.there in
      let e = event_at m.entry.id t.it made.place r.leaf at in
      let steps : r.steps ≡ audit_steps h made.place (leaves_of m.entry.id t.it) = made.steps ∙ ap (audit_steps h made.place) all in
      let same : row_receipt_of h i m.entry t.it made.place e.it d.block ≡ r = same_row r (receipt_of h i m.entry d.block) (event_bytes e.it) (audit_steps h made.place (leaves_of m.entry.id t.it)) m.is e.is steps in
      subst (λ (x : RowReceipt). AcceptedRow h x d) same
      (row_made h i is chain blocks roots d m.place t.place made.place m.entry t.it e.it holds m.there m.within t.there e.there)
