-- Receipts of rows that are made are accepted.
use Rattle.std.proofs.Common.{◌≡◌, ◌≢◌, ◌≤◌, ◌<◌, ℕ, zero, suc, Bool, true, false, cond, List, [], ◌∷◌, length, map, filter, flat_map, Option, Some, None, refl, arith, sym, ◌∙◌, ap, subst}
use Rattle.std.specs.Prelude.{◌==◌, not, if◌then◌else◌}
use Rattle.std.specs.Option.{option_map}
use Rattle.std.specs.List.{AllByRecursion, slice_get}
use Rattle.std.specs.Ordering.{nat_cmp}
use Rattle.std.proofs.lemmas.Bool.{eqb-true, eq-eqb, ne_eqb}
use Rattle.std.proofs.lemmas.Option.{slice_get-map, slice_get_within}
use Rattle.sql_types.specs.declared.digest.HeldDigest.{HeldDigest}
use Rattle.sql_types.specs.declared.entry.TxEntry.{TxEntry}
use Rattle.sql_types.specs.declared.event.Event.{Event}
use Rattle.sql_types.specs.declared.event.EventField.{EventField}
use Rattle.sql_types.specs.declared.image.Image.{Image}
use Rattle.sql_types.specs.declared.version.Table.{Table}
use Rattle.sql_types.specs.declared.version.Version.{Version}
use Rattle.format_event.specs.Leaf.{has_value, without_nulls, encoded, event_bytes, HasLeaf}
use Rattle.law_frame.proofs.Alls.{all_append, all_both, all_map, all_sorted}
use Rattle.base_merkle.specs.TreeHash.{tree_hash}
use Rattle.spec_model.specs.Catalog.{Tables}
use Rattle.spec_model.specs.Events.{version_events, end_events, events_of}
use Rattle.spec_model.specs.Rows.{EventId}
use Rattle.spec_ledger.specs.Entries.{has_events, leaves_of, root_in, roots_of}
use Rattle.format_image.specs.ImageBytes.{IsImage}
use Rattle.format_image.specs.Tables.{tables_in}
use Rattle.spec_verify.specs.Blocks.{chain_fault, block_fault}
use Rattle.spec_verify.specs.Entries.{TableRoot, root_at, root_fault}
use Rattle.spec_verify.specs.Sentences.{DigestHolds}
use Rattle.audit_extract.proofs.ImageLeaves.{EventsFit, image_fits}
use Rattle.audit_extract.proofs.Rooted.{Above, tables_above, all_rooted}
use Rattle.audit_paths.proofs.Leading.{leads}
use Rattle.audit_receipt.proofs.Found.{each_at}
use Rattle.audit_receipt.proofs.Made.{made_accepted}
use Rattle.audit_row_receipt.specs.AcceptedRows.{IsLeafIn, AcceptedTable, AcceptedRow}
use Rattle.law_row_receipt.specs.RowsMade.{table_receipt_of, row_receipt_of}

-- ---- events are of their transaction and table

record IsIn (tx table : ℕ) (e : Event) : Type 0 where
  tx_is : e.tx ≡ tx
  table_is : e.table ≡ table

abbrev OfTable : ℕ → Event → Type 0
OfTable table e = e.table ≡ table

ends_in : (table : ℕ) (v : Version) (o : Option EventId) → AllByRecursion (OfTable table) (end_events table v o)
ends_in table v None = tt
ends_in table v (Some end) = (refl, tt)

all_in : (table : ℕ) (vs : List Version) → AllByRecursion (OfTable table) (flat_map (version_events table) vs)
all_in table [] = tt
all_in table (v ∷ vs) = all_append (OfTable table) (version_events table v) (flat_map (version_events table) vs) (refl, ends_in table v v.end) (all_in table vs)

own_if : (t : Bool) (tx table : ℕ) (x : Event) (xs : List Event) → (x.tx == tx) ≡ t → x.table ≡ table → AllByRecursion (IsIn tx table) xs → AllByRecursion (IsIn tx table) (if t then x ∷ xs else xs)
own_if true tx table x xs test at all = (record { tx_is = eqb-true x.tx tx test; table_is = at }, all)
own_if false tx table x xs test at all = all

own : (tx table : ℕ) (xs : List Event) → AllByRecursion (OfTable table) xs → AllByRecursion (IsIn tx table) (filter (λ e. e.tx == tx) xs)
own tx table [] all = tt
own tx table (x ∷ xs) all = own_if (x.tx == tx) tx table x (filter (λ e. e.tx == tx) xs) refl all.0 (own tx table xs all.1)

events_in : (tx : ℕ) (t : Table) → AllByRecursion (IsIn tx t.def.id) (events_of tx t)
unfolding events_of
events_in tx t = all_sorted (IsIn tx t.def.id) (λ a b. nat_cmp a.seq b.seq) (filter (λ e. e.tx == tx) (flat_map (version_events t.def.id) t.versions)) (own tx t.def.id (flat_map (version_events t.def.id) t.versions) (all_in t.def.id t.versions))

-- ---- the leaf of an event is that of the event without its NULL columns

told_if : (b : Bool) (f : EventField) (fs : List EventField) → has_value f ≡ b → filter has_value fs ≡ fs → filter has_value (cond b (f ∷ fs) fs) ≡ cond b (f ∷ fs) fs
told_if true f fs is same = rw is (ap (λ (l : List EventField). f ∷ l) same)
told_if false f fs is same = same

told_again : (fs : List EventField) → filter has_value (filter has_value fs) ≡ filter has_value fs
told_again [] = refl
told_again (f ∷ fs) = told_if (has_value f) f (filter has_value fs) refl (told_again fs)

without_again : (e : Event) → without_nulls (without_nulls e) ≡ without_nulls e
without_again e = ap (λ (fs : List EventField). record { table = e.table; tx = e.tx; seq = e.seq; ends = e.ends; columns = fs }) (told_again e.columns)

same_leaf : (e : Event) → event_bytes e ≡ event_bytes (without_nulls e)
unfolding event_bytes
same_leaf e = ap encoded (sym (without_again e))

leaf_in : (tx table : ℕ) (e : Event) → IsIn tx table e → HasLeaf e → IsLeafIn tx table (event_bytes e)
leaf_in tx table e it fits = record { event = without_nulls e; fits = fits; is = same_leaf e; tx_is = it.tx_is; table_is = it.table_is }

-- ---- the root of a table among those of a transaction

above_each : (n p : ℕ) (ts : Tables) (t : Table) → Above n ts → slice_get ts p ≡ Some t → n < t.def.id
above_each n p [] t above at = cc
above_each n zero (x ∷ ts) t above at = let same : x ≡ t = cc in subst (λ (y : Table). n < y.def.id) same above.0
above_each n (suc p) (x ∷ ts) t above at = let later = above_each x.def.id p ts t above.1 at in omega (arith, later, above.0)

module _ (h : List ℕ → List ℕ) (tx : ℕ) where
  abbrev Rooted : Tables → Table → Type 0
  Rooted ts t = root_at (map (root_in h tx) ts) t.def.id ≡ Some (tree_hash h (leaves_of tx t))

  first_if : (b : Bool) (x : Table) (fs : Tables) → b ≡ true → Rooted (if b then x ∷ fs else fs) x
  first_if true x fs e = rw (eq-eqb x.def.id x.def.id refl) refl
  first_if false x fs e = cc

  later_if : (b : Bool) (x t : Table) (fs : Tables) → x.def.id ≢ t.def.id → Rooted fs t → Rooted (if b then x ∷ fs else fs) t
  later_if true x t fs ne r = rw (ne_eqb x.def.id t.def.id ne) r
  later_if false x t fs ne r = r

  root_there : (n p : ℕ) (ts : Tables) (t : Table) → Above n ts → slice_get ts p ≡ Some t → has_events tx t ≡ true → Rooted (filter (has_events tx) ts) t
  root_there n p [] t above at some = cc
  root_there n zero (x ∷ ts) t above at some =
      let same : x ≡ t = cc in
      subst (λ (y : Table). Rooted (filter (has_events tx) (x ∷ ts)) y) same (first_if (has_events tx x) x (filter (has_events tx) ts) (ap (has_events tx) same ∙ some))
  root_there n (suc p) (x ∷ ts) t above at some =
      let lt = above_each x.def.id p ts t above.1 at in
      later_if (has_events tx x) x t (filter (has_events tx) ts) (λ e. absurd (omega (arith, lt, e))) (root_there x.def.id p ts t above.1 at some)

has_some : (tx : ℕ) (t : Table) (k : ℕ) (e : Event) → slice_get (events_of tx t) k ≡ Some e → has_events tx t ≡ true
has_some tx t k e at =
    let lt = slice_get_within (events_of tx t) k e at in
    ap not (ne_eqb (length (events_of tx t)) 0 (λ e. absurd (omega (arith, lt, e))))

module _ (h : List ℕ → List ℕ) (i : Image) (is : IsImage i) (chain : chain_fault h i ≡ None) (blocks : block_fault h i ≡ None) (roots : root_fault h i ≡ None) where
  -- the root that the entry has for the table
  root_is : (k p : ℕ) (e : TxEntry) (t : Table) → slice_get i.entries k ≡ Some e → slice_get (tables_in i) p ≡ Some t → has_events e.id t ≡ true
      → root_at e.roots t.def.id ≡ Some (tree_hash h (leaves_of e.id t))
  unfolding roots_of
  root_is k p e t at table_at some =
      let rooted : e.roots ≡ roots_of h e.id (tables_in i) = each_at (λ (f : TxEntry). f.roots ≡ roots_of h f.id (tables_in i)) i.entries k e (all_rooted h i is roots) at in
      ap (λ (rs : List TableRoot). root_at rs t.def.id) rooted ∙ root_there h e.id 0 p (tables_in i) t (tables_above i.defs i.tables is.ids) table_at some

  all_leaves_in : (p tx : ℕ) (t : Table) → slice_get (tables_in i) p ≡ Some t → AllByRecursion (IsLeafIn tx t.def.id) (leaves_of tx t)
  all_leaves_in p tx t at =
      all_map (λ (e : Event). IsIn tx t.def.id e × HasLeaf e) (IsLeafIn tx t.def.id) event_bytes (λ e both. leaf_in tx t.def.id e both.0 both.1) (events_of tx t)
      (all_both (IsIn tx t.def.id) HasLeaf (events_of tx t) (events_in tx t) (each_at (EventsFit tx) (tables_in i) p t (image_fits tx i is) at))

  pub table_made : (d : HeldDigest) (k p : ℕ) (e : TxEntry) (t : Table) → DigestHolds h i d → slice_get i.entries k ≡ Some e → e.block ≤ d.block
      → slice_get (tables_in i) p ≡ Some t → has_events e.id t ≡ true → AcceptedTable h (table_receipt_of h i e t d.block) d
  table_made d k p e t holds at le table_at some =
      record {
        receipt = made_accepted h i is chain blocks d k e holds at le;
        table = t.def.id;
        leaves = all_leaves_in p e.id t table_at;
        root = root_is k p e t at table_at some;
      }

  pub row_made : (d : HeldDigest) (k p n : ℕ) (e : TxEntry) (t : Table) (event : Event) → DigestHolds h i d → slice_get i.entries k ≡ Some e → e.block ≤ d.block
      → slice_get (tables_in i) p ≡ Some t → slice_get (events_of e.id t) n ≡ Some event → AcceptedRow h (row_receipt_of h i e t n event d.block) d
  row_made d k p n e t event holds at le table_at event_at =
      let leaves : List (List ℕ) = leaves_of e.id t in
      let leaf : slice_get leaves n ≡ Some (event_bytes event) = slice_get-map event_bytes (events_of e.id t) n ∙ ap (option_map event_bytes) event_at in
      let climbs = leads h (length leaves) n (length leaves) leaves (event_bytes event) refl (omega arith) leaf in
      record {
        receipt = made_accepted h i is chain blocks d k e holds at le;
        table = t.def.id;
        leaf = each_at (IsLeafIn e.id t.def.id) leaves n (event_bytes event) (all_leaves_in p e.id t table_at) leaf;
        root = root_is k p e t at table_at (has_some e.id t n event event_at) ∙ ap Some (sym climbs.root);
      }
