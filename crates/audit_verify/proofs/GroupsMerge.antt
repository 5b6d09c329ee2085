-- What two groups of tables find that stand side by side, and what they find together.
use Rattle.std.proofs.Common.{◌≡◌, ◌+◌, subst, ℕ, zero, suc, Bool, true, false, cond, List, [], ◌∷◌, length, flat_map, take, drop, refl, sym, ap, ap₂, ◌∙◌, arith, Option, Some, None}
use Rattle.std.specs.Ordering.{nat_cmp, is_gt}
use Rattle.std.proofs.lemmas.List.{drop-drop, length-map}
use Rattle.std.proofs.lemmas.List.Concat.{flat_map-append}
use Rattle.sql_types.specs.declared.entry.TxEntry.{TxEntry}
use Rattle.sql_types.specs.declared.image.Image.{Image}
use Rattle.sql_types.specs.declared.image.TableRows.{TableRows}
use Rattle.spec_model.specs.Catalog.{Defs, Tables}
use Rattle.spec_model.specs.Lists.{or_else}
use Rattle.format_image.specs.ImageBytes.{IsImage}
use Rattle.format_image.specs.Tables.{defs_in, tables_in}
use Rattle.law_catalog_rows.specs.Least.{least, lesser_of}
use Rattle.spec_verify.specs.declared.place.Place.{Place}
use Rattle.spec_verify.specs.Entries.{TableEvent, event_place, least_event, root_fault, table_event_cmp}
use Rattle.spec_verify.specs.Groups.{Found, found_cmp}
use Rattle.spec_verify.specs.Indexes.{first_table, index_fault, table_fault}
use Rattle.spec_verify.specs.Rules.{row_fault}
use Rattle.spec_verify.proofs.Leasts.{least_split}
use Rattle.spec_verify.proofs.ToldEntries.{table_event_total}
use Rattle.audit_roots.specs.declared.groups.Fault.{Fault}
use Rattle.audit_verify.specs.declared.groups.GroupFaults.{GroupFaults}
use Rattle.audit_roots.specs.declared.shown.ImageTable.{ImageTable}
use Rattle.audit_verify.specs.Groups.{AreFaults, faulty, if_none, index_in, lesser_version, version_in}
use Rattle.audit_roots.specs.Groups.{fault_place, group_of, left_over, merged, wrong_root}
use Rattle.audit_roots.specs.ImageTable.{def_of, rows_of, table_of, AreImageTables}
use Rattle.audit_roots.proofs.FirstParts.{or_else_assoc}
use Rattle.audit_roots.proofs.MergedFaults.{fault_is_merged, groups_merge}
use Rattle.audit_roots.proofs.Parts.{empty, side_by_side, take_whole}
use Rattle.audit_roots.proofs.Tables.{are_tables}
use Rattle.audit_verify.proofs.RowFaults.{faults_are, named}

-- ---- side by side

module _ (from a b : ℕ) (i : Image) where
  pub roots_together : (h : List ℕ → List ℕ)
      → wrong_root h (group_of from (a + b) i) i.entries ≡ lesser_of (found_cmp nat_cmp) (wrong_root h (group_of from a i) i.entries) (wrong_root h (group_of (from + a) b i) i.entries)
  roots_together h =
      ap (λ (ts : Tables). wrong_root h ts i.entries) (side_by_side from a b (tables_in i))
      ∙ groups_merge h (group_of from a i) (group_of (from + a) b i) i.entries

  pub versions_together : version_in i (group_of from (a + b) i) ≡ lesser_version (version_in i (group_of from a i)) (version_in i (group_of (from + a) b i))
  versions_together =
      let bad = λ (ts : Tables). flat_map (faulty i) ts in
      ap (version_in i) (side_by_side from a b (tables_in i))
      ∙ ap least_event (flat_map-append (faulty i) (group_of from a i) (group_of (from + a) b i))
      ∙ ap event_place (least_split table_event_cmp table_event_total (bad (group_of from a i)) (bad (group_of (from + a) b i)))
      ∙ ap₂ (λ (x y : Option TableEvent). event_place (lesser_of table_event_cmp x y)) (sym (named (least table_event_cmp (bad (group_of from a i))))) (sym (named (least table_event_cmp (bad (group_of (from + a) b i)))))

-- ---- indexes

no_defs : (rs : List TableRows) → first_table [] rs ≡ None
no_defs [] = refl
no_defs (r ∷ rs) = refl

no_rows : (ds : Defs) → first_table ds [] ≡ None
no_rows [] = refl
no_rows (d ∷ ds) = refl

first_parts : (a b : ℕ) (ds : Defs) (rs : List TableRows)
    → first_table (take (a + b) ds) (take (a + b) rs) ≡ or_else (first_table (take a ds) (take a rs)) (first_table (take b (drop a ds)) (take b (drop a rs)))
first_parts zero b ds rs = let none : 0 + b ≡ b = omega arith in ap (λ n. first_table (take n ds) (take n rs)) none
first_parts (suc a) b [] rs =
    ap (λ (l : Defs). first_table l (take (suc a + b) rs)) (empty (suc a + b)) ∙ no_defs (take (suc a + b) rs)
    ∙ sym (ap₂ or_else (no_defs (take (suc a) rs)) (ap (λ (l : Defs). first_table l (take b (drop (suc a) rs))) (empty b) ∙ no_defs (take b (drop (suc a) rs))))
first_parts (suc a) b (d ∷ ds) [] =
    ap (λ (l : List TableRows). first_table (take (suc a + b) (d ∷ ds)) l) (empty (suc a + b)) ∙ no_rows (take (suc a + b) (d ∷ ds))
    ∙ sym (ap (λ (l : List TableRows). first_table (take b (drop a ds)) l) (empty b) ∙ no_rows (take b (drop a ds)))
first_parts (suc a) b (d ∷ ds) (r ∷ rs) =
    let one : suc a + b ≡ suc (a + b) = omega arith in
    ap (λ n. first_table (take n (d ∷ ds)) (take n (r ∷ rs))) one
    ∙ ap (or_else (table_fault d r)) (first_parts a b ds rs)
    ∙ or_else_assoc (table_fault d r) (first_table (take a ds) (take a rs)) (first_table (take b (drop a ds)) (take b (drop a rs)))

indexes_split : (from a b : ℕ) (i : Image) → index_in from (a + b) i ≡ or_else (index_in from a i) (index_in (from + a) b i)
indexes_split from a b i =
    first_parts a b (drop from (defs_in i)) (drop from i.tables)
    ∙ ap₂ (λ (ds : Defs) (rs : List TableRows). or_else (index_in from a i) (first_table (take b ds) (take b rs))) (drop-drop a from (defs_in i)) (drop-drop a from i.tables)

-- ---- indexes, where no version is at fault

abbrev IsEventPlace : Option Place → Type 0
IsEventPlace v = (e : Option TableEvent) × (v ≡ event_place e)

-- a group with a version at fault hasn't looked at its indexes, and then neither counts
looked : (v w : Option TableEvent) (p q : Option Place)
    → if_none (event_place (lesser_of table_event_cmp v w)) (or_else (if_none (event_place v) p) (if_none (event_place w) q)) ≡ if_none (event_place (lesser_of table_event_cmp v w)) (or_else p q)
looked None None p q = refl
looked (Some v) None p q = refl
looked None (Some w) p q = refl
looked (Some v) (Some w) p q = here (is_gt (table_event_cmp v w))
  where
    here : (g : Bool) → if_none (event_place (cond g (Some w) (Some v))) None ≡ if_none (event_place (cond g (Some w) (Some v))) (or_else p q)
    here true = refl
    here false = refl

both_looked : (v w p q : Option Place) → IsEventPlace v → IsEventPlace w → if_none (lesser_version v w) (or_else (if_none v p) (if_none w q)) ≡ if_none (lesser_version v w) (or_else p q)
both_looked v w p q x y =
    ap₂ (λ (a b : Option Place). if_none (lesser_version a b) (or_else (if_none a p) (if_none b q))) x.1 y.1
    ∙ ap₂ (λ (a b : Option TableEvent). if_none (event_place (lesser_of table_event_cmp a b)) (or_else (if_none (event_place x.0) p) (if_none (event_place y.0) q))) (named x.0) (named y.0)
    ∙ looked x.0 y.0 p q
    ∙ ap₂ (λ (a b : Option TableEvent). if_none (event_place (lesser_of table_event_cmp a b)) (or_else p q)) (sym (named x.0)) (sym (named y.0))
    ∙ ap₂ (λ (a b : Option Place). if_none (lesser_version a b) (or_else p q)) (sym x.1) (sym y.1)

pub indexes_together : (from a b : ℕ) (i : Image) (v w : Option Place) → v ≡ version_in i (group_of from a i) → w ≡ version_in i (group_of (from + a) b i)
    → if_none (lesser_version v w) (or_else (if_none v (index_in from a i)) (if_none w (index_in (from + a) b i))) ≡ if_none (lesser_version v w) (index_in from (a + b) i)
indexes_together from a b i v w v_is w_is =
    both_looked v w (index_in from a i) (index_in (from + a) b i) (least table_event_cmp (flat_map (faulty i) (group_of from a i)), v_is) (least table_event_cmp (flat_map (faulty i) (group_of (from + a) b i)), w_is)
    ∙ ap (if_none (lesser_version v w)) (sym (indexes_split from a b i))

-- ---- groups

-- what two groups show that stand side by side
pub two_groups : (h : List ℕ → List ℕ) (from a b middle n : ℕ) (i : Image) (x y z : GroupFaults) → AreFaults h from a i x → AreFaults h middle b i y → middle ≡ from + a → n ≡ a + b
    → z.root ≡ lesser_of (found_cmp nat_cmp) x.root y.root → z.version ≡ lesser_version x.version y.version → z.index ≡ if_none z.version (or_else x.index y.index) → AreFaults h from n i z
two_groups h from a b middle n i x y z first second_ middle_is n_is root version index =
    let second = subst (λ (m : ℕ). AreFaults h m b i y) middle_is second_ in
    subst (λ (m : ℕ). AreFaults h from m i z) (sym n_is)
    (record {
      root = root ∙ ap₂ (lesser_of (found_cmp nat_cmp)) first.root second.root ∙ sym (roots_together from a b i h);
      version = version ∙ ap₂ lesser_version first.version second.version ∙ sym (versions_together from a b i);
      index =
          index
          ∙ ap₂ (λ (v : Option Place) (o : Option Place). if_none v o) version (ap₂ or_else first.index second.index)
          ∙ indexes_together from a b i x.version y.version first.version second.version
          ∙ ap (λ (v : Option Place). if_none v (index_in from (a + b) i)) (sym version);
    })

-- ---- all tables

module _ (ts : List ImageTable) (i : Image) (shown : AreImageTables ts i) where
  count : length i.tables ≡ length ts
  count = ap length (sym shown.rows) ∙ length-map ts rows_of

  all_of : {A : Type 0} (n : ℕ) (xs : List A) → n ≡ length xs → take n xs ≡ xs
  all_of n xs e = ap (λ k. take k xs) e ∙ take_whole xs

  pub whole_group : group_of 0 (length i.tables) i ≡ tables_in i
  whole_group = all_of (length i.tables) (tables_in i) (count ∙ sym (length-map ts table_of) ∙ ap length (are_tables ts i shown))

  pub whole_index : index_in 0 (length i.tables) i ≡ index_fault i
  unfolding index_fault
  whole_index =
      ap₂ first_table
      (all_of (length i.tables) (defs_in i) (count ∙ sym (length-map ts def_of) ∙ ap length shown.defs))
      (all_of (length i.tables) i.tables refl)

  module _ (h : List ℕ → List ℕ) (n : ℕ) (n_is : n ≡ length i.tables) (f : GroupFaults) (faults : AreFaults h 0 n i f) where
    pub all_versions : f.version ≡ row_fault i
    all_versions = faults.version ∙ ap (λ (k : ℕ). version_in i (group_of 0 k i)) n_is ∙ ap (version_in i) whole_group ∙ faults_are i

    pub all_indexes : f.index ≡ if_none f.version (index_fault i)
    all_indexes = faults.index ∙ ap (if_none f.version) (ap (λ (k : ℕ). index_in 0 k i) n_is ∙ whole_index)

    -- what is left, and what all tables show, are what the verdict asks for
    pub all_roots : IsImage i → (places : List TxEntry) (left : Option (Found Fault)) (root : Option Place)
        → places ≡ i.entries → left ≡ left_over (tables_in i) i.entries → root ≡ fault_place places (merged left f.root) → root ≡ root_fault h i
    all_roots is places left root places_is left_is root_is =
        root_is
        ∙ ap₂ (λ (es : List TxEntry) (l : Option (Found Fault)). fault_place es (merged l f.root)) places_is left_is
        ∙ ap (λ (r : Option (Found ℕ)). fault_place i.entries (merged (left_over (tables_in i) i.entries) r))
        (faults.root ∙ ap (λ (k : ℕ). wrong_root h (group_of 0 k i) i.entries) n_is ∙ ap (λ (g : Tables). wrong_root h g i.entries) whole_group)
        ∙ sym (fault_is_merged h i is)
