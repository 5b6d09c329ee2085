-- Receipts of rows agree with images.
use Rattle.std.proofs.Common.{◌≡◌, ◌⊎◌, ℕ, zero, suc, Bool, true, false, List, [], ◌∷◌, length, map, filter, drop, Option, Some, None, refl, arith, sym, ◌∙◌, ap, inl, inr}
use Rattle.std.specs.Prelude.{◌==◌, if◌then◌else◌}
use Rattle.std.specs.Option.{option_map}
use Rattle.std.specs.List.{AllByRecursion, slice_get}
use Rattle.std.proofs.lemmas.Bool.{eqb-true}
use Rattle.std.proofs.lemmas.Option.{slice_get-map}
use Rattle.sql_types.specs.declared.digest.HeldDigest.{HeldDigest}
use Rattle.sql_types.specs.declared.entry.BlockRecord.{BlockRecord}
use Rattle.sql_types.specs.declared.entry.TxEntry.{TxEntry}
use Rattle.sql_types.specs.declared.event.Event.{Event}
use Rattle.sql_types.specs.declared.image.Image.{Image}
use Rattle.sql_types.specs.declared.version.Table.{Table}
use Rattle.format_event.specs.Leaf.{event_bytes}
use Rattle.base_merkle.specs.TreeHash.{tree_hash}
use Rattle.spec_model.specs.Catalog.{Tables}
use Rattle.spec_model.specs.Events.{events_of}
use Rattle.spec_ledger.specs.Entries.{has_events, leaves_of, root_in, roots_of}
use Rattle.format_image.specs.ImageBytes.{IsImage}
use Rattle.format_image.specs.Tables.{tables_in}
use Rattle.spec_verify.specs.Blocks.{chain_fault, block_fault}
use Rattle.spec_verify.specs.Entries.{TableRoot, root_at, root_fault}
use Rattle.spec_verify.specs.Sentences.{DigestHolds}
use Rattle.audit_extract.specs.Collisions.{HasCollisionBetween, IsAtNode, IsHashedIn}
use Rattle.audit_extract.proofs.Collisions.{or_wider}
use Rattle.audit_extract.proofs.Lists.{all_taken, all_left}
use Rattle.audit_extract.proofs.Rooted.{all_rooted}
use Rattle.audit_extract.proofs.Unbroken.{so_far}
use Rattle.audit_paths.specs.Hashed.{IsHashedOver}
use Rattle.audit_paths.specs.Path.{root_over}
use Rattle.audit_paths.proofs.Members.{IsAmong, member}
use Rattle.audit_paths.proofs.Trees.{same_tree}
use Rattle.format_receipt.specs.declared.receipt.Receipt.{Receipt}
use Rattle.format_receipt.specs.Receipts.{IsReceipt}
use Rattle.format_row_receipt.specs.declared.row_receipt.RowReceipt.{RowReceipt}
use Rattle.format_row_receipt.specs.declared.table_receipt.TableReceipt.{TableReceipt}
use Rattle.format_row_receipt.specs.RowReceipts.{IsRowReceipt, IsTableReceipt}
use Rattle.audit_receipt.specs.Accepted.{Accepted}
use Rattle.audit_receipt.specs.Hashed.{IsHashedOf}
use Rattle.audit_receipt.specs.Made.{part_at}
use Rattle.audit_receipt.proofs.Found.{each_at}
use Rattle.audit_row_receipt.specs.AcceptedRows.{AcceptedRow, AcceptedTable}
use Rattle.audit_row_receipt.specs.Hashed.{IsHashedOfRow, IsHashedOfTable}
use Rattle.law_receipt.proofs.Agreeing.{agrees_with_image}
use Rattle.law_row_receipt.specs.Shown.{HasTable, HasAll, HasOne}
use Rattle.law_row_receipt.proofs.Picked.{events_hashed}

-- ---- lists

part_each : (P : TxEntry → Type 0) (rs : List BlockRecord) (xs : List TxEntry) (j : ℕ) → AllByRecursion P xs → AllByRecursion P (part_at rs xs j)
part_each P [] xs j all = tt
part_each P (r ∷ rs) xs zero all = all_taken P r.size xs all
part_each P (r ∷ rs) xs (suc j) all = part_each P rs (drop r.size xs) j (all_left P r.size xs all)

-- where a list has an item of a filtered one
record Among (ts : Tables) (t : Table) : Type 0 where
  place : ℕ
  there : slice_get ts place ≡ Some t

next_among : (t u : Table) (ts : Tables) → Among ts t → Among (u ∷ ts) t
next_among t u ts a = record { place = suc a.place; there = a.there }

among_if : (b : Bool) (k : ℕ) (t u : Table) (fs ts : Tables) → slice_get (if b then u ∷ fs else fs) k ≡ Some t → ((j : ℕ) → slice_get fs j ≡ Some t → Among ts t) → Among (u ∷ ts) t
among_if true zero t u fs ts e next = record { place = 0; there = e }
among_if true (suc k) t u fs ts e next = next_among t u ts (next k e)
among_if false k t u fs ts e next = next_among t u ts (next k e)

among_filter : (p : Table → Bool) (ts : Tables) (k : ℕ) (t : Table) → slice_get (filter p ts) k ≡ Some t → Among ts t
among_filter p [] k t e = cc
among_filter p (u ∷ ts) k t e = among_if (p u) k t u (filter p ts) ts e (λ j f. among_filter p ts j t f)

module _ (h : List ℕ → List ℕ) (tx : ℕ) where
  -- a table of which a root is that of its leaves
  record HasRoot (ts : Tables) (table : ℕ) (root : List ℕ) : Type 0 where
    place : ℕ
    it : Table
    there : slice_get ts place ≡ Some it
    of : it.def.id ≡ table
    root_is : root ≡ tree_hash h (leaves_of tx it)

  next_root : (t : Table) (ts : Tables) (table : ℕ) (root : List ℕ) → HasRoot ts table root → HasRoot (t ∷ ts) table root
  next_root t ts table root r = record { place = suc r.place; it = r.it; there = r.there; of = r.of; root_is = r.root_is }

  root_if : (b : Bool) (t : Table) (ts : Tables) (table : ℕ) (root : List ℕ) → (t.def.id == table) ≡ b → (if b then Some (tree_hash h (leaves_of tx t)) else root_at (map (root_in h tx) ts) table) ≡ Some root
      → (root_at (map (root_in h tx) ts) table ≡ Some root → HasRoot ts table root) → HasRoot (t ∷ ts) table root
  root_if true t ts table root is e next =
      let same : tree_hash h (leaves_of tx t) ≡ root = cc in
      record { place = 0; it = t; there = refl; of = eqb-true t.def.id table is; root_is = sym same }
  root_if false t ts table root is e next = next_root t ts table root (next e)

  root_found : (ts : Tables) (table : ℕ) (root : List ℕ) → root_at (map (root_in h tx) ts) table ≡ Some root → HasRoot ts table root
  root_found [] table root e = cc
  root_found (t ∷ ts) table root e = root_if (t.def.id == table) t ts table root refl e (λ f. root_found ts table root f)

-- ---- events

-- an event of which some bytes are the leaf
record LeafOf (es : List Event) (k : ℕ) (leaf : List ℕ) : Type 0 where
  it : Event
  there : slice_get es k ≡ Some it
  is : event_bytes it ≡ leaf

leaf_of : (es : List Event) (k : ℕ) (leaf : List ℕ) → slice_get (map event_bytes es) k ≡ Some leaf → LeafOf es k leaf
leaf_of es k leaf e = by (slice_get es k) refl (sym (slice_get-map event_bytes es k) ∙ e)
  where
    by : (o : Option Event) → slice_get es k ≡ o → option_map event_bytes o ≡ Some leaf → LeafOf es k leaf
    by None at f = cc
    by (Some x) at f = let same : event_bytes x ≡ leaf = cc in record { it = x; there = at; is = same }

module _ (h : List ℕ → List ℕ) (sized : (bytes : List ℕ) → length (h bytes) ≡ 32) (i : Image) (is : IsImage i) (chain : chain_fault h i ≡ None) (blocks : block_fault h i ≡ None)
    (roots : root_fault h i ≡ None) where
  -- a root of an accepted entry is that of the leaves of its transaction in a table
  rooted : (r : Receipt) (d : HeldDigest) (table : ℕ) (root : List ℕ) → IsReceipt r → Accepted h r d → DigestHolds h i d → root_at r.entry.roots table ≡ Some root
      → HasRoot h r.entry.id (filter (has_events r.entry.id) (tables_in i)) table root ⊎ HasCollisionBetween h (IsHashedOf h r) (IsHashedIn h i)
  unfolding roots_of
  rooted r d table root fr x holds at_root = so_far found (agrees_with_image h sized i is chain blocks r d fr x holds)
    where
      e : TxEntry
      e = r.entry

      found : slice_get (part_at i.blocks i.entries e.block) e.ordinal ≡ Some e
          → HasRoot h e.id (filter (has_events e.id) (tables_in i)) table root ⊎ HasCollisionBetween h (IsHashedOf h r) (IsHashedIn h i)
      found at =
          let own : e.roots ≡ roots_of h e.id (tables_in i) =
          each_at (λ (f : TxEntry). f.roots ≡ roots_of h f.id (tables_in i)) (part_at i.blocks i.entries e.block) e.ordinal e
          (part_each (λ (f : TxEntry). f.roots ≡ roots_of h f.id (tables_in i)) i.blocks i.entries e.block (all_rooted h i is roots)) at in
          inl (root_found h e.id (filter (has_events e.id) (tables_in i)) table root (ap (λ (rs : List TableRoot). root_at rs table) (sym own) ∙ at_root))

  abbrev table_is : (tx table : ℕ) (root : List ℕ) (r : HasRoot h tx (filter (has_events tx) (tables_in i)) table root) → HasTable i table
  table_is tx table root r =
      let t = among_filter (has_events tx) (tables_in i) r.place r.it r.there in
      record { place = t.place; it = r.it; there = t.there; of = r.of }

  root_hashed : (tx table : ℕ) (root : List ℕ) (r : HasRoot h tx (filter (has_events tx) (tables_in i)) table root) (x : List ℕ) → IsAtNode h (leaves_of tx r.it) x → IsHashedIn h i x
  root_hashed tx table root r x node =
      let t = among_filter (has_events tx) (tables_in i) r.place r.it r.there in
      events_hashed h i is tx t.place r.it t.there x node

  pub all_shown : (r : TableReceipt) (d : HeldDigest) → IsTableReceipt r → (x : AcceptedTable h r d) → DigestHolds h i d
      → HasAll i r.receipt.entry.id x.table r.leaves ⊎ HasCollisionBetween h (IsHashedOfTable h r) (IsHashedIn h i)
  all_shown r d fr x holds =
      so_far found
      (or_wider h (IsHashedOf h r.receipt) (IsHashedIn h i) (IsHashedOfTable h r) (IsHashedIn h i) (λ y of. inl of) (λ y in_image. in_image)
      (rooted r.receipt d x.table (tree_hash h r.leaves) fr.receipt x.receipt holds x.root))
    where
      tx : ℕ
      tx = r.receipt.entry.id

      found : HasRoot h tx (filter (has_events tx) (tables_in i)) x.table (tree_hash h r.leaves) → HasAll i tx x.table r.leaves ⊎ HasCollisionBetween h (IsHashedOfTable h r) (IsHashedIn h i)
      found root =
          so_far (λ (all : r.leaves ≡ leaves_of tx root.it). inl (record { table_there = table_is tx x.table (tree_hash h r.leaves) root; all = all }))
          (or_wider h (IsAtNode h r.leaves) (IsAtNode h (leaves_of tx root.it)) (IsHashedOfTable h r) (IsHashedIn h i) (λ y node. inr node) (root_hashed tx x.table (tree_hash h r.leaves) root)
          (same_tree h sized (length r.leaves) r.leaves (leaves_of tx root.it) (omega arith) root.root_is))

  pub one_shown : (r : RowReceipt) (d : HeldDigest) → IsRowReceipt r → (x : AcceptedRow h r d) → DigestHolds h i d
      → HasOne i r.receipt.entry.id x.table r.leaf ⊎ HasCollisionBetween h (IsHashedOfRow h r) (IsHashedIn h i)
  one_shown r d fr x holds =
      so_far found
      (or_wider h (IsHashedOf h r.receipt) (IsHashedIn h i) (IsHashedOfRow h r) (IsHashedIn h i) (λ y of. inl of) (λ y in_image. in_image)
      (rooted r.receipt d x.table (root_over h r.leaf r.steps) fr.receipt x.receipt holds x.root))
    where
      tx : ℕ
      tx = r.receipt.entry.id

      among : (root : HasRoot h tx (filter (has_events tx) (tables_in i)) x.table (root_over h r.leaf r.steps)) → IsAmong r.leaf (leaves_of tx root.it)
          → HasOne i tx x.table r.leaf ⊎ HasCollisionBetween h (IsHashedOfRow h r) (IsHashedIn h i)
      among root a =
          let l = leaf_of (events_of tx root.it) a.0 r.leaf a.1 in
          inl (record { table_there = table_is tx x.table (root_over h r.leaf r.steps) root; number = a.0; event = l.it; among = l.there; is = sym l.is })

      found : HasRoot h tx (filter (has_events tx) (tables_in i)) x.table (root_over h r.leaf r.steps) → HasOne i tx x.table r.leaf ⊎ HasCollisionBetween h (IsHashedOfRow h r) (IsHashedIn h i)
      found root =
          so_far (among root)
          (or_wider h (IsHashedOver h r.leaf r.steps) (IsAtNode h (leaves_of tx root.it)) (IsHashedOfRow h r) (IsHashedIn h i) (λ y on. inr on) (root_hashed tx x.table (root_over h r.leaf r.steps) root)
          (member h sized (length r.steps) r.leaf r.steps (leaves_of tx root.it) (omega arith) fr.steps root.root_is))
