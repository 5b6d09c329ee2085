-- Where no start or end is a stranger's, each version was started by a transaction that has an entry.
use Rattle.std.proofs.Common.{◌≡◌, refl, sym, subst, ℕ, Bool, true, false, cond, List, [], ◌∷◌, ◌++◌, map, flat_map, filter, Option, Some, None}
use Rattle.std.proofs.lemmas.List.Elements.{All-from_recursion}
use Rattle.std.specs.Prelude.{not, MatchOption}
use Rattle.std.specs.List.{All, AllByRecursion}
use Rattle.sql_types.specs.declared.entry.TxEntry.{TxEntry}
use Rattle.sql_types.specs.declared.event.Event.{Event}
use Rattle.sql_types.specs.declared.image.Image.{Image}
use Rattle.sql_types.specs.declared.version.Table.{Table}
use Rattle.sql_types.specs.declared.version.Version.{Version}
use Rattle.spec_model.specs.Events.{version_events}
use Rattle.spec_model.specs.Lists.{or_else}
use Rattle.format_image.specs.Tables.{tables_in}
use Rattle.spec_verify.proofs.Leasts.{least_is, IsLeast}
use Rattle.spec_verify.proofs.ToldEntries.{table_event_total}
use Rattle.spec_verify.specs.Entries.{TableEvent, table_event_cmp, event_place, has_id, events_in, strangers, repeated_id, least_event, id_fault}
use Rattle.law_catalog_rows.specs.Least.{least}
use Rattle.audit_roots.specs.declared.shown.ImageTable.{ImageTable}
use Rattle.audit_verify.specs.Order.{IsStarted, AreStarted}
use Rattle.audit_roots.specs.ImageTable.{rows_of, table_of, AreImageTables}
use Rattle.audit_roots.proofs.Tables.{are_tables}

second_none : {A : Type 0} (a b : Option A) → or_else a b ≡ None → b ≡ None
second_none None b e = e
second_none (Some a) b e = cc

no_event : (o : Option TableEvent) → event_place o ≡ None → o ≡ None
no_event None e = refl
no_event (Some x) e = cc

none_there : {A : Type 0} (P : Type 0) (Q : A → Type 0) (o : Option A) → o ≡ None → MatchOption o P Q → P
none_there P Q None e h = h
none_there P Q (Some x) e h = cc

no_strangers : (i : Image) → id_fault i ≡ None → strangers i ≡ []
unfolding id_fault
no_strangers i e =
    none_there (strangers i ≡ []) (IsLeast table_event_cmp table_event_total (strangers i)) (least table_event_cmp (strangers i))
    (no_event (least table_event_cmp (strangers i)) (second_none (repeated_id i) (least_event (strangers i)) e)) (least_is table_event_cmp table_event_total (strangers i))

none_kept : {A : Type 0} (p : A → Bool) (xs : List A) → filter p xs ≡ [] → AllByRecursion (λ x. p x ≡ false) xs
none_kept p [] e = tt
none_kept {A} p (x ∷ xs) e = here (p x) refl e (none_kept p xs)
  where
    here : (b : Bool) → p x ≡ b → cond b (x ∷ filter p xs) (filter p xs) ≡ [] → (filter p xs ≡ [] → AllByRecursion (λ y. p y ≡ false) xs) → AllByRecursion (λ y. p y ≡ false) (x ∷ xs)
    here true is f more = cc
    here false is f more = (is, more f)

module _ {A : Type 0} (P : A → Type 0) where
  front : (xs ys : List A) → AllByRecursion P (xs ++ ys) → AllByRecursion P xs
  front [] ys a = tt
  front (x ∷ xs) ys a = (a.0, front xs ys a.1)

  back : (xs ys : List A) → AllByRecursion P (xs ++ ys) → AllByRecursion P ys
  back [] ys a = a
  back (x ∷ xs) ys a = back xs ys a.1

  of_parts : {B : Type 0} (f : B → List A) (bs : List B) → AllByRecursion P (flat_map f bs) → AllByRecursion (λ b. AllByRecursion P (f b)) bs
  of_parts f [] a = tt
  of_parts f (b ∷ bs) a = (front (f b) (flat_map f bs) a, of_parts f bs (back (f b) (flat_map f bs) a))

  of_map : {B : Type 0} (f : B → A) (bs : List B) → AllByRecursion P (map f bs) → AllByRecursion (λ b. P (f b)) bs
  of_map f [] a = tt
  of_map f (b ∷ bs) a = (a.0, of_map f bs a.1)

is_true : (b : Bool) → not b ≡ false → b ≡ true
is_true true e = refl
is_true false e = cc

module _ (entries : List TxEntry) where
  abbrev IsKnown : TableEvent → Type 0
  IsKnown e = not (has_id entries e.1.0) ≡ false

  abbrev as_event : Event → TableEvent
  as_event e = (e.table, (e.tx, e.seq))

  abbrev Starts : ℕ → Version → Type 0
  Starts table v = AllByRecursion (λ e. IsKnown (as_event e)) (version_events table v)

  each_started : (table : ℕ) (vs : List Version) → AllByRecursion (Starts table) vs → AllByRecursion (IsStarted entries) vs
  each_started table [] a = tt
  each_started table (v ∷ vs) a = (is_true (has_id entries v.start.0) a.0.0, each_started table vs a.1)

  of_table : (t : Table) → AllByRecursion IsKnown (events_in t) → AllByRecursion (IsStarted entries) t.versions
  of_table t a =
      each_started t.def.id t.versions
      (of_parts (λ e. IsKnown (as_event e)) (version_events t.def.id) t.versions (of_map IsKnown as_event (flat_map (version_events t.def.id) t.versions) a))

  of_shown : (s : ImageTable) → AllByRecursion IsKnown (events_in (table_of s)) → AreStarted entries s
  of_shown s a =
      let both = of_table (table_of s) a in
      record {
        base = All-from_recursion (IsStarted entries) (rows_of s).base (front (IsStarted entries) (rows_of s).base (rows_of s).history both);
        history = All-from_recursion (IsStarted entries) (rows_of s).history (back (IsStarted entries) (rows_of s).base (rows_of s).history both);
      }

  of_all : (ts : List ImageTable) → AllByRecursion (λ s. AllByRecursion IsKnown (events_in (table_of s))) ts → AllByRecursion (AreStarted entries) ts
  of_all [] a = tt
  of_all (s ∷ ts) a = (of_shown s a.0, of_all ts a.1)

pub are_started : (ts : List ImageTable) (i : Image) → AreImageTables ts i → id_fault i ≡ None → All (AreStarted i.entries) ts
are_started ts i s none =
    let known = none_kept (λ (e : TableEvent). not (has_id i.entries e.1.0)) (flat_map events_in (tables_in i)) (no_strangers i none) in
    let shown = subst (λ (l : List Table). AllByRecursion (IsKnown i.entries) (flat_map events_in l)) (sym (are_tables ts i s)) known in
    let each = of_parts (IsKnown i.entries) events_in (map table_of ts) shown in
    All-from_recursion (AreStarted i.entries) ts (of_all i.entries ts (of_map (λ t. AllByRecursion (IsKnown i.entries) (events_in t)) table_of ts each))
