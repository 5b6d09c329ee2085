-- The verdict is Yes exactly where all sentences hold.
use Rattle.std.proofs.Common.{◌≡◌, ◌∙◌, ℕ, zero, suc, refl, subst, List, [], ◌∷◌, Option, Some, None}
use Rattle.std.specs.Prelude.{◌↔◌, IfSome, slice_get}
use Rattle.std.specs.List.{AllByRecursion}
use Rattle.std.specs.Ordering.{int_cmp, on}
use Rattle.std.specs.declared.cmp.Ordering.{Ordering}
use Rattle.sql_types.specs.declared.digest.HeldDigest.{HeldDigest}
use Rattle.sql_types.specs.declared.image.Image.{Image}
use Rattle.spec_model.specs.Lists.{or_else}
use Rattle.spec_verify.specs.declared.place.Place.{Place}
use Rattle.spec_verify.specs.declared.place.Place.TheVariants as at
use Rattle.spec_verify.specs.declared.place.Verdict.TheVariants.{Yes}
use Rattle.spec_verify.specs.Blocks.{digest_fault, chain_fault, block_fault}
use Rattle.spec_verify.specs.Definitions.{definition_fault}
use Rattle.spec_verify.specs.Entries.{table_event_cmp, strangers, least_event, repeated_id, id_fault, root_fault}
use Rattle.spec_verify.specs.Indexes.{index_fault}
use Rattle.spec_verify.specs.Sentences.{DigestHolds, LinkHolds, BlockHolds, IsNewId, HasEntry, events_of_image, EntryHolds, IsEntryFault, TableRulesHold, VersionHolds, VersionRulesHold, versions_of_image, start_of, IsEncodedAt, ids_of_tables, IndexesHold, IsIndexFault, defs_and_rows, HoldsTogether}
use Rattle.spec_verify.specs.Told.{HoldsOfEach, TellsFirst, TellsLeast}
use Rattle.spec_verify.specs.Verdict.{image_verdict, AllHold}
use Rattle.spec_verify.specs.Rules.{ids_of_rows, table_rule_fault, version_rule_fault}
use Rattle.spec_verify.specs.Versions.{version_fault}
use Rattle.spec_verify.proofs.AllHold.{yes_exactly}
use Rattle.spec_verify.proofs.ToldBlocks.{digests_told, chain_told, blocks_told}
use Rattle.spec_verify.proofs.ToldEntries.{ids_told, events_told, entries_told}
use Rattle.spec_verify.proofs.ToldRules.{table_rules_told, version_rules_told}
use Rattle.spec_verify.proofs.ToldTables.{definitions_told, indexes_told}
use Rattle.spec_verify.proofs.ToldVersions.{versions_told}

module _ {A B : Type 0} (P : ℕ → A → Type 0) (Says : ℕ → A → B → Type 0) (xs : List A) where
  pub each_holds : (found : Option B) → TellsFirst P Says xs found → found ≡ None → HoldsOfEach P xs
  each_holds None t e = t
  each_holds (Some b) t e = absurd (let f : Some b ≡ None = e in cc)

  pub none_found : (found : Option B) → TellsFirst P Says xs found → HoldsOfEach P xs → found ≡ None
  none_found None t h = refl
  none_found (Some b) t h = absurd (t.2.fails (subst (λ o. IfSome o (P t.0)) t.2.there (h t.0)))

module _ {A B : Type 0} (cmp : A → A → Ordering) (P : A → Type 0) (Says : A → B → Type 0) where
  at_place : (xs : List A) (k : ℕ) (x : A) → slice_get xs k ≡ Some x → AllByRecursion P xs → P x
  at_place [] k x e h = absurd (let f : None ≡ Some x = e in cc)
  at_place (y ∷ ys) zero x e h = let f : y ≡ x = cc in subst P f h.0
  at_place (y ∷ ys) (suc k) x e h = at_place ys k x e h.1

  pub all_hold : (xs : List A) (found : Option B) → TellsLeast cmp P Says xs found → found ≡ None → AllByRecursion P xs
  all_hold xs None t e = t
  all_hold xs (Some b) t e = absurd (let f : Some b ≡ None = e in cc)

  pub no_least : (xs : List A) (found : Option B) → TellsLeast cmp P Says xs found → AllByRecursion P xs → found ≡ None
  no_least xs None t h = refl
  no_least xs (Some b) t h = absurd (t.1.fails (at_place xs t.1.place t.0 t.1.there h))

module _ {A : Type 0} (P : A → Type 0) where
  pub by_recursion : (xs : List A) → HoldsOfEach (λ k x. P x) xs → AllByRecursion P xs
  by_recursion [] h = tt
  by_recursion (x ∷ xs) h = (h zero, by_recursion xs (λ k. h (suc k)))

  pub by_place : (xs : List A) → AllByRecursion P xs → HoldsOfEach (λ k x. P x) xs
  by_place [] h = λ k. tt
  by_place (x ∷ xs) h = here
    where
      here : (k : ℕ) → IfSome (slice_get (x ∷ xs) k) P
      here zero = h.0
      here (suc k) = by_place_of xs h.1 k
        where
          by_place_of : (ys : List A) → AllByRecursion P ys → (j : ℕ) → IfSome (slice_get ys j) P
          by_place_of [] a j = tt
          by_place_of (y ∷ ys) a zero = a.0
          by_place_of (y ∷ ys) a (suc j) = by_place_of ys a.1 j

first_none : (a b : Option Place) → or_else a b ≡ None → (a ≡ None) × (b ≡ None)
first_none None b e = (refl, e)
first_none (Some p) b e = absurd (let f : Some p ≡ None = e in cc)

-- ---- ids

module _ (i : Image) where
  pub entry_first : (p : Place) → repeated_id i ≡ Some p → id_fault i ≡ Some p
  unfolding id_fault
  entry_first p e = rw e refl

  pub else_event : HoldsOfEach (IsNewId i.entries) i.entries → id_fault i ≡ least_event (strangers i)
  unfolding id_fault
  else_event h = rw (none_found (IsNewId i.entries) (λ k e p. p ≡ at.Entry k) i.entries (repeated_id i) (ids_told i) h) refl

  ids_hold : id_fault i ≡ None → HoldsOfEach (IsNewId i.entries) i.entries × AllByRecursion (HasEntry i.entries) (events_of_image i)
  unfolding id_fault
  ids_hold e =
      let none = first_none (repeated_id i) (least_event (strangers i)) e in (
        each_holds (IsNewId i.entries) (λ k e p. p ≡ at.Entry k) i.entries (repeated_id i) (ids_told i) none.0,
        all_hold table_event_cmp (HasEntry i.entries) (λ e p. p ≡ at.Event e.0 e.1.0 e.1.1) (events_of_image i) (least_event (strangers i)) (events_told i) none.1,
      )

  no_id_fault : HoldsOfEach (IsNewId i.entries) i.entries × AllByRecursion (HasEntry i.entries) (events_of_image i) → id_fault i ≡ None
  no_id_fault h =
      else_event h.0 ∙ no_least table_event_cmp (HasEntry i.entries) (λ e p. p ≡ at.Event e.0 e.1.0 e.1.1) (events_of_image i) (least_event (strangers i)) (events_told i) h.1

  pub no_id_fault_exactly : (id_fault i ≡ None) ↔ (HoldsOfEach (IsNewId i.entries) i.entries × AllByRecursion (HasEntry i.entries) (events_of_image i))
  no_id_fault_exactly = (ids_hold, no_id_fault)

-- ---- all of them

module _ (h : List ℕ → List ℕ) (i : Image) (digests : List HeldDigest) where
  together : AllHold h i digests → HoldsTogether h i digests
  together a =
      let ids = ids_hold i a.ids in
      record {
        digests_hold = by_recursion (DigestHolds h i) digests (each_holds (λ k d. DigestHolds h i d) (λ k d p. p ≡ at.Digest k) digests (digest_fault h i digests) (digests_told h i digests) a.digests_hold);
        chain = each_holds (LinkHolds h i) (λ b r p. p ≡ at.Block b) i.blocks (chain_fault h i) (chain_told h i) a.chain;
        blocks = each_holds (BlockHolds h i) (λ b r p. p ≡ at.Block b) i.blocks (block_fault h i) (blocks_told h i) a.blocks;
        ids = ids.0;
        events = ids.1;
        entries = by_recursion (EntryHolds h i) i.entries (each_holds (λ k e. EntryHolds h i e) (λ k e p. IsEntryFault h i e p) i.entries (root_fault h i) (entries_told h i) a.roots);
        versions = all_hold (on start_of table_event_cmp) (VersionHolds i) (λ x p. p ≡ at.Event x.0.def.id x.1.start.0 x.1.start.1) (versions_of_image i) (version_fault i) (versions_told i) a.versions;
        version_rules = all_hold (on start_of table_event_cmp) (VersionRulesHold i) (λ x p. p ≡ at.Event x.0.def.id x.1.start.0 x.1.start.1) (versions_of_image i) (version_rule_fault i) (version_rules_told i) a.version_rules;
        definitions = all_hold int_cmp (IsEncodedAt i) (λ id p. p ≡ at.Table id) (ids_of_tables i) (definition_fault i) (definitions_told i) a.definitions;
        table_rules = all_hold int_cmp (TableRulesHold i) (λ id p. p ≡ at.Table id) (ids_of_rows i) (table_rule_fault i) (table_rules_told i) a.table_rules;
        indexes = by_recursion IndexesHold (defs_and_rows i) (each_holds (λ k t. IndexesHold t) (λ k t p. IsIndexFault t p) (defs_and_rows i) (index_fault i) (indexes_told i) a.indexes);
      }

  no_faults : HoldsTogether h i digests → AllHold h i digests
  no_faults t =
      record {
        digests_hold = none_found (λ k d. DigestHolds h i d) (λ k d p. p ≡ at.Digest k) digests (digest_fault h i digests) (digests_told h i digests) (by_place (DigestHolds h i) digests t.digests_hold);
        chain = none_found (LinkHolds h i) (λ b r p. p ≡ at.Block b) i.blocks (chain_fault h i) (chain_told h i) t.chain;
        blocks = none_found (BlockHolds h i) (λ b r p. p ≡ at.Block b) i.blocks (block_fault h i) (blocks_told h i) t.blocks;
        ids = no_id_fault i (t.ids, t.events);
        roots = none_found (λ k e. EntryHolds h i e) (λ k e p. IsEntryFault h i e p) i.entries (root_fault h i) (entries_told h i) (by_place (EntryHolds h i) i.entries t.entries);
        versions = no_least (on start_of table_event_cmp) (VersionHolds i) (λ x p. p ≡ at.Event x.0.def.id x.1.start.0 x.1.start.1) (versions_of_image i) (version_fault i) (versions_told i) t.versions;
        version_rules = no_least (on start_of table_event_cmp) (VersionRulesHold i) (λ x p. p ≡ at.Event x.0.def.id x.1.start.0 x.1.start.1) (versions_of_image i) (version_rule_fault i) (version_rules_told i) t.version_rules;
        definitions = no_least int_cmp (IsEncodedAt i) (λ id p. p ≡ at.Table id) (ids_of_tables i) (definition_fault i) (definitions_told i) t.definitions;
        table_rules = no_least int_cmp (TableRulesHold i) (λ id p. p ≡ at.Table id) (ids_of_rows i) (table_rule_fault i) (table_rules_told i) t.table_rules;
        indexes = none_found (λ k t. IndexesHold t) (λ k t p. IsIndexFault t p) (defs_and_rows i) (index_fault i) (indexes_told i) (by_place IndexesHold (defs_and_rows i) t.indexes);
      }

  pub yes_together : (image_verdict h i digests ≡ Yes) ↔ HoldsTogether h i digests
  yes_together = (λ e. together ((yes_exactly h i digests).0 e), λ t. (yes_exactly h i digests).1 (no_faults t))
