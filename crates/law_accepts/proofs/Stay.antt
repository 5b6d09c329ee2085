-- The roots of a transaction stay under the scripts of all later ones.
use Rattle.std.proofs.Common.{◌≡◌, ◌≢◌, ◌≤◌, ℕ, ◌+◌, refl, ap, sym, subst, ◌∙◌, Bool, true, false, List, [], ◌∷◌, ◌++◌, length, map, None, arith}
use Rattle.std.specs.Prelude.{◌==◌, not, if◌then◌else◌}
use Rattle.std.specs.List.{AllByRecursion, filter}
use Rattle.std.specs.Ordering.{nat_cmp, is_gt}
use Rattle.std.proofs.lemmas.Bool.{eqb-true, ne_eqb}
use Rattle.std.proofs.lemmas.List.Sums.{sum_by-cons}
use Rattle.sql_value.specs.declared.column.ColumnDef.{ColumnDef}
use Rattle.format_event.specs.Leaf.{event_bytes}
use Rattle.base_merkle.specs.TreeHash.{tree_hash}
use Rattle.sql_types.specs.declared.event.Event.{Event}
use Rattle.sql_types.specs.declared.statement.Stmt.{Stmt}
use Rattle.sql_types.specs.declared.table.TableDef.{TableDef}
use Rattle.sql_types.specs.declared.version.Table.{Table}
use Rattle.sql_types.specs.declared.version.Version.{Version}
use Rattle.spec_model.specs.Catalog.{Tables, with_versions}
use Rattle.spec_model.specs.Changes.{Change, Starts, Ends, changed}
use Rattle.spec_model.specs.Effect.{Effect, effect, with_def, redefined}
use Rattle.spec_model.specs.Events.{events_of}
use Rattle.spec_model.specs.Lists.{inserted, sorted}
use Rattle.spec_model.specs.ChangeSets.{TableChange, changed_in, changed_from, Definition, as_before, new, in_place, altered, defined, ChangeSet, change_set}
use Rattle.spec_model.specs.Rows.{EventId, same_event, start_cmp, started, with_end, ended}
use Rattle.spec_model.specs.Script.{Reading, script}
use Rattle.law_frame.proofs.ChangeSets.{carries_change_set_out}
use Rattle.law_frame.proofs.WholeScripts.{whole_script}
use Rattle.law_journal.specs.Described.{Described}
use Rattle.law_journal.specs.Fine.{HasLive, IsFine, IsFineIn, AllFine}
use Rattle.law_journal.specs.Kept.{count, count_all, Kept}
use Rattle.law_journal.proofs.Counts.{ended_cons, hit, missed, one_less}
use Rattle.law_journal.proofs.Keeping.{statement_kept, statement_described}
use Rattle.law_journal.proofs.Lift.{of_all as of_all_tables}
use Rattle.law_journal.proofs.Order.{new_version}
use Rattle.law_journal.proofs.Statements.{change_set_fine}
use Rattle.law_journal.proofs.Tables.{Split, split_from, table_count, once, kept_changed}
use Rattle.spec_ledger.specs.Entries.{has_events, root_in, roots_of}
use Rattle.law_accepts.proofs.Events.{of_one, of_all, of_cons}

-- ---- tables that are the same for a transaction

module _ (h : List ℕ → List ℕ) (tx : ℕ) where
  -- for the transaction the second table is as the first
  pub record Same (t u : Table) : Type 0 where
    pub id : u.def.id ≡ t.def.id
    pub events : events_of tx u ≡ events_of tx t

  abbrev roots_if : Bool → Table → List (ℕ × List ℕ) → List (ℕ × List ℕ)
  roots_if b t more = if b then root_in h tx t ∷ more else more

  map_if : (b : Bool) (t : Table) (ts : Tables) → map (root_in h tx) (if b then t ∷ ts else ts) ≡ roots_if b t (map (root_in h tx) ts)
  map_if true t ts = refl
  map_if false t ts = refl

  roots_cons : (t : Table) (ts : Tables) → roots_of h tx (t ∷ ts) ≡ roots_if (has_events tx t) t (roots_of h tx ts)
  unfolding roots_of
  roots_cons t ts = map_if (has_events tx t) t (filter (has_events tx) ts)

  same_root : (t u : Table) → Same t u → root_in h tx u ≡ root_in h tx t
  same_root t u s i = (s.id i, tree_hash h (map event_bytes (s.events i)))

  one_alike : (t u : Table) (ts us : Tables) → Same t u → roots_of h tx us ≡ roots_of h tx ts → roots_of h tx (u ∷ us) ≡ roots_of h tx (t ∷ ts)
  one_alike t u ts us s e =
      let has : has_events tx u ≡ has_events tx t = ap (λ (es : List Event). not (length es == 0)) s.events in
      let root : root_in h tx u ≡ root_in h tx t = same_root t u s in
      roots_cons u us
      ∙ ap (λ (b : Bool). roots_if b u (roots_of h tx us)) has
      ∙ ap (λ (r : ℕ × List ℕ). if has_events tx t then r ∷ roots_of h tx us else roots_of h tx us) root
      ∙ ap (roots_if (has_events tx t) t) e
      ∙ sym (roots_cons t ts)

  -- each table may be replaced by one that is the same
  pub all_alike : (f : Table → Table) (T : Tables) → AllByRecursion (λ t. Same t (f t)) T → roots_of h tx (map f T) ≡ roots_of h tx T
  all_alike f [] all = refl
  all_alike f (t ∷ ts) all = one_alike t (f t) ts (map f ts) all.0 (all_alike f ts all.1)

  replaced : (A : Tables) (t u : Table) (B : Tables) → Same t u → roots_of h tx (A ++ u ∷ B) ≡ roots_of h tx (A ++ t ∷ B)
  replaced [] t u B s = one_alike t u B B s refl
  replaced (x ∷ A) t u B s = one_alike x x (A ++ t ∷ B) (A ++ u ∷ B) (record { id = refl; events = refl }) (replaced A t u B s)

  -- a table without versions has no root
  empty_last : (def : TableDef) (T : Tables) → roots_of h tx (T ++ record { def = def; versions = [] } ∷ []) ≡ roots_of h tx T
  unfolding roots_of events_of
  empty_last def [] = refl
  empty_last def (t ∷ ts) = here (has_events tx t) (empty_last def ts)
    where
      more : Tables
      more = ts ++ record { def = def; versions = [] } ∷ []

      here : (b : Bool) → map (root_in h tx) (filter (has_events tx) more) ≡ map (root_in h tx) (filter (has_events tx) ts)
          → map (root_in h tx) (if b then t ∷ filter (has_events tx) more else filter (has_events tx) more) ≡ map (root_in h tx) (if b then t ∷ filter (has_events tx) ts else filter (has_events tx) ts)
      here true e = ap (λ rs. root_in h tx t ∷ rs) e
      here false e = e

-- ---- changes by another transaction

module _ (tx other table : ℕ) (differs : other ≢ tx) where
  new_one : (m : ℕ) (v : Version) → v.start ≡ (other, m) → v.end ≡ None → of_one tx table v ≡ []
  new_one m v start end = rw (end, start) (rw (ne_eqb other tx differs) refl)

  with_new : (m : ℕ) (v : Version) (vs : List Version) → of_one tx table v ≡ [] → of_all tx table (inserted start_cmp v vs) ≡ of_all tx table vs
  with_new m v [] none = of_cons tx table v [] ∙ ap (λ (es : List Event). es ++ []) none
  with_new m v (w ∷ ws) none = here (is_gt (start_cmp v w)) (with_new m v ws none)
    where
      here : (b : Bool) → of_all tx table (inserted start_cmp v ws) ≡ of_all tx table ws → of_all tx table (if b then w ∷ inserted start_cmp v ws else v ∷ w ∷ ws) ≡ of_all tx table (w ∷ ws)
      here true e = of_cons tx table w (inserted start_cmp v ws) ∙ ap (λ (es : List Event). of_one tx table w ++ es) e ∙ sym (of_cons tx table w ws)
      here false e = of_cons tx table v (w ∷ ws) ∙ ap (λ (es : List Event). es ++ of_all tx table (w ∷ ws)) none

  its_end : (m : ℕ) (v : Version) → v.end ≡ None → of_one tx table (with_end (other, m) v) ≡ of_one tx table v
  its_end m v none = rw (none, ne_eqb other tx differs) refl

  ended_at : (m : ℕ) (start : EventId) (b : Bool) (v : Version) (vs : List Version) → same_event v.start start ≡ b → count start (v ∷ vs) ≤ 1 → HasLive start (v ∷ vs)
      → (HasLive start vs → of_all tx table (ended (other, m) start vs) ≡ of_all tx table vs) → of_all tx table (ended (other, m) start (v ∷ vs)) ≡ of_all tx table (v ∷ vs)
  ended_at m start true v vs e few there rest =
      let it = hit (other, m) start v vs e few there in
      ap (of_all tx table) it.is ∙ of_cons tx table (with_end (other, m) v) vs ∙ ap (λ (es : List Event). es ++ of_all tx table vs) (its_end m v it.is_live) ∙ sym (of_cons tx table v vs)
  ended_at m start false v vs e few there rest =
      ap (of_all tx table) (ended_cons (other, m) start false v vs e)
      ∙ of_cons tx table v (ended (other, m) start vs) ∙ ap (λ (es : List Event). of_one tx table v ++ es) (rest (missed start v vs e there)) ∙ sym (of_cons tx table v vs)

  with_ended : (m : ℕ) (start : EventId) (vs : List Version) → count start vs ≤ 1 → HasLive start vs → of_all tx table (ended (other, m) start vs) ≡ of_all tx table vs
  with_ended m start [] few there = absurd there
  with_ended m start (v ∷ vs) few there = ended_at m start (same_event v.start start) v vs refl few there (with_ended m start vs (one_less start v vs few))

  pub with_change : (m : ℕ) (columns : List ColumnDef) (c : Change) (vs : List Version) → ((a : EventId) → count a vs ≤ 1) → IsFine columns c vs → of_all tx table (changed (other, m) c vs) ≡ of_all tx table vs
  unfolding started
  with_change m columns (Starts values) vs few fine = with_new m (new_version (other, m) values) vs (new_one m (new_version (other, m) values) refl refl)
  with_change m columns (Ends start) vs few fine = with_ended m start vs (few start) fine

-- ---- statements and scripts of another transaction

all_of_them : {A : Type 0} (P : A → Type 0) → ((x : A) → P x) → (xs : List A) → AllByRecursion P xs
all_of_them P f [] = tt
all_of_them P f (x ∷ xs) = (f x, all_of_them P f xs)

abbrev pub Few : Table → Type 0
Few t = (a : EventId) → count a t.versions ≤ 1

pub few_each : (T : Tables) → ((a : EventId) → count_all a T ≤ 1) → AllByRecursion Few T
few_each [] h = tt
few_each (t ∷ ts) h =
    ((λ a. (let l = sum_by-cons (table_count a) t ts in let o = h a in omega (arith, l, o))), few_each ts (λ a. (let l = sum_by-cons (table_count a) t ts in let o = h a in omega (arith, l, o))))

module _ (h : List ℕ → List ℕ) (place : ℕ → ℕ) (tx other : ℕ) (differs : other ≢ tx) where
  table_changed : (m : ℕ) (c : Change) (t : Table) → Few t → IsFine t.def.columns c t.versions → Same h tx t (with_versions (changed (other, m) c) t)
  unfolding events_of
  table_changed m c t few fine = record { id = refl; events = ap (sorted (λ (a b : Event). nat_cmp a.seq b.seq)) (with_change tx other t.def.id differs m t.def.columns c t.versions few fine) }

  change_leaves : (seq : ℕ) (c : TableChange) (T : Tables) → Kept place other seq T → IsFineIn c T → roots_of h tx (changed_in (other, seq) c T) ≡ roots_of h tx T
  change_leaves seq c T k fine =
      let P : Table → Type 0 = λ t. Few t × IsFine t.def.columns c.1 t.versions in
      let s : Split c.0 P T = (split_from 1 c.0 P T k.sound.ids (of_all_tables c.0 Few (λ t. IsFine t.def.columns c.1 t.versions) T (few_each T (once place other seq T k)) fine)).split in
      ap (roots_of h tx) (s.changed_ (changed (other, seq) c.1))
      ∙ replaced h tx s.front s.table (with_versions (changed (other, seq) c.1) s.table) s.back (table_changed seq c.1 s.table s.holds.0 s.holds.1)
      ∙ ap (roots_of h tx) (sym s.is)

  changes_leave : (seq : ℕ) (cs : List TableChange) (T : Tables) → Kept place other seq T → AllFine other seq cs T → roots_of h tx (changed_from other seq cs T) ≡ roots_of h tx T
  changes_leave seq [] T k fine = refl
  changes_leave seq (c ∷ cs) T k fine =
      changes_leave (seq + 1) cs (changed_in (other, seq) c T) (kept_changed place other seq c T k fine.0) fine.1 ∙ change_leaves seq c T k fine.0

  redefined_alike : (def : TableDef) (b : Bool) (t : Table) → (t.def.id == def.id) ≡ b → Same h tx t (if b then with_def def t else t)
  unfolding events_of
  redefined_alike def true t e =
      let same : def.id ≡ t.def.id = sym (eqb-true t.def.id def.id e) in
      record { id = same; events = ap (λ (id : ℕ). sorted (λ (a b : Event). nat_cmp a.seq b.seq) (of_all tx id t.versions)) same }
  redefined_alike def false t e = record { id = refl; events = refl }

  redefined_leaves : (def : TableDef) (T : Tables) → roots_of h tx (redefined def T) ≡ roots_of h tx T
  redefined_leaves def T =
      all_alike h tx (λ t. if t.def.id == def.id then with_def def t else t) T
      (all_of_them (λ t. Same h tx t (if t.def.id == def.id then with_def def t else t)) (λ t. redefined_alike def (t.def.id == def.id) t refl) T)

  definition_leaves : (d : Definition) (T : Tables) → roots_of h tx (defined d T) ≡ roots_of h tx T
  definition_leaves as_before T = refl
  definition_leaves (new def) T = empty_last h tx def T
  definition_leaves (in_place def) T = redefined_leaves def T
  definition_leaves (altered def) T = redefined_leaves def T

  statement_leaves : (seq : ℕ) (T : Tables) (stmt : Stmt) → Kept place other seq T → Described T → roots_of h tx (effect T other seq stmt).tables ≡ roots_of h tx T
  statement_leaves seq T stmt k d =
      let p : ChangeSet = change_set T stmt in
      subst (λ (e : Effect). roots_of h tx e.tables ≡ roots_of h tx T) (sym (carries_change_set_out T other seq stmt))
      (definition_leaves p.definition (changed_from other seq p.changes T) ∙ changes_leave seq p.changes T k (change_set_fine place other seq T stmt k d))

  module _ (R : List (ℕ × List ℕ)) where
    abbrev Leaves : ℕ → Tables → Type 0
    Leaves seq T = (Kept place other seq T × Described T) × (roots_of h tx T ≡ R)

    step : (seq : ℕ) (T : Tables) (stmt : Stmt) → Leaves seq T → Leaves (effect T other seq stmt).seq (effect T other seq stmt).tables
    step seq T stmt l =
        ((statement_kept place other seq T stmt l.0.0 l.0.1, statement_described place other seq T stmt l.0.0.sound.ids l.0.1), statement_leaves seq T stmt l.0.0 l.0.1 ∙ l.1)

    pub script_leaves : (reads : Reading) (explicit : Bool) (T : Tables) (texts : List (List ℕ)) → Kept place other 0 T → Described T → roots_of h tx T ≡ R
        → roots_of h tx (script reads explicit T other texts).state.tables ≡ R
    script_leaves reads explicit T texts k d e = (whole_script other Leaves step reads explicit T texts ((k, d), e)).0.1
