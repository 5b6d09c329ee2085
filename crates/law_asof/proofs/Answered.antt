-- Over tables that are filled, each text is answered as over the tables themselves.
use Rattle.std.proofs.Common.{◌≡◌, ℕ, refl, sym, ap, ap₂, ◌∙◌, Bool, true, false, List, [], ◌∷◌, ◌++◌, flat_map, map, Option, Some, None, Ok, Err}
use Rattle.std.proofs.lemmas.List.Concat.{flat_map-cons}
use Rattle.std.specs.Prelude.{◌==◌, codes, if◌then◌else◌, is_none}
use Rattle.std.specs.List.{filter}
use Rattle.std.specs.Ordering.{is_gt}
use Rattle.std.specs.declared.cmp.Ordering.{Ordering}
use Rattle.sql_value.specs.declared.column.ColumnDef.{ColumnDef}
use Rattle.sql_value.specs.declared.value.Value.TheVariants.{Null, Text}
use Rattle.sql_types.specs.declared.statement.Select.{Select}
use Rattle.sql_types.specs.declared.statement.Stmt.{Stmt}
use Rattle.sql_types.specs.declared.statement.Stmt.TheVariants as s
use Rattle.sql_types.specs.declared.table.Part.{Part}
use Rattle.sql_types.specs.declared.table.Part.TheVariants.{Base, History, View, System}
use Rattle.sql_types.specs.declared.table.TableDef.{TableDef}
use Rattle.sql_types.specs.declared.version.Version.{Version}
use Rattle.spec_model.specs.Agreement.{IdsFrom, columns_at}
use Rattle.spec_model.specs.Catalog.{Defs, NamedPart, Tables, defs_of, versions_of}
use Rattle.spec_model.specs.Effect.{effect, query_effect, query_rows, shown}
use Rattle.spec_model.specs.Keys.{Key, key_cmp, key_of, live_by_key, live_by_key_at, part_read, same_key, version_key}
use Rattle.spec_model.specs.Lists.{inserted, sorted}
use Rattle.spec_model.specs.Parts.{ViewRow, base_row, columns_of, history_rows, history_rows_of, rows_of, shown_of, view_row_of_end, view_row_of_start, view_rows}
use Rattle.spec_model.specs.Query.{query_check, selected}
use Rattle.spec_model.specs.Refusals.{Checked}
use Rattle.spec_model.specs.Rows.{EventId, Row, event_cmp, filled, live, number, row_of, values_of}
use Rattle.spec_model.specs.Where.{key_fixed}
use Rattle.law_frame.proofs.Filled.{filled_key, filled_values}
use Rattle.law_frame.proofs.NamedPart.{IsAmongDefs, query_is_listed}
use Rattle.format_image.specs.Rows.{filled_version, filled_table}
use Rattle.spec_asof.specs.Answer.{answer_of, of_reply}

-- ---- lists

filtered_map : {A : Type 0} (f : A → A) (p : A → Bool) → ((x : A) → p (f x) ≡ p x) → (xs : List A) → filter p (map f xs) ≡ map f (filter p xs)
filtered_map f p h [] = refl
filtered_map f p h (x ∷ xs) = here (p x) (h x) (filtered_map f p h xs)
  where
    here : (b : Bool) → p (f x) ≡ b → filter p (map f xs) ≡ map f (filter p xs) → filter p (map f (x ∷ xs)) ≡ map f (if b then x ∷ filter p xs else filter p xs)
    here true e more = rw e (ap (λ ys. f x ∷ ys) more)
    here false e more = rw e more

module _ {A : Type 0} (f : A → A) (cmp : A → A → Ordering) (same : (x y : A) → cmp (f x) (f y) ≡ cmp x y) where
  inserted_map : (x : A) (ys : List A) → inserted cmp (f x) (map f ys) ≡ map f (inserted cmp x ys)
  inserted_map x [] = refl
  inserted_map x (y ∷ ys) = here (is_gt (cmp x y)) (ap is_gt (same x y)) (inserted_map x ys)
    where
      here : (b : Bool) → is_gt (cmp (f x) (f y)) ≡ b → inserted cmp (f x) (map f ys) ≡ map f (inserted cmp x ys) → inserted cmp (f x) (map f (y ∷ ys)) ≡ map f (if b then y ∷ inserted cmp x ys else x ∷ y ∷ ys)
      here true e more = rw e (ap (λ zs. f y ∷ zs) more)
      here false e more = rw e refl

  sorted_map : (xs : List A) → sorted cmp (map f xs) ≡ map f (sorted cmp xs)
  sorted_map [] = refl
  sorted_map (x ∷ xs) = ap (inserted cmp (f x)) (sorted_map xs) ∙ inserted_map x (sorted cmp xs)

mapped_alike : {A B : Type 0} (f : A → A) (g : A → B) → ((x : A) → g (f x) ≡ g x) → (xs : List A) → map g (map f xs) ≡ map g xs
mapped_alike f g h [] = refl
mapped_alike f g h (x ∷ xs) = ap₂ (λ y ys. y ∷ ys) (h x) (mapped_alike f g h xs)

flat_alike : {A B : Type 0} (f : A → A) (g : A → List B) → ((x : A) → g (f x) ≡ g x) → (xs : List A) → flat_map g (map f xs) ≡ flat_map g xs
flat_alike f g h [] = refl
flat_alike f g h (x ∷ xs) = flat_map-cons g (f x) (map f xs) ∙ ap₂ (λ ys zs. ys ++ zs) (h x) (flat_alike f g h xs) ∙ sym (flat_map-cons g x xs)

-- ---- rows

filled_twice : (cs : List ColumnDef) (row : Row) → filled cs (filled cs row) ≡ filled cs row
filled_twice [] row = refl
filled_twice (c ∷ cs) [] = ap (λ (r : Row). Null ∷ r) (filled_twice cs [])
filled_twice (c ∷ cs) (v ∷ vs) = ap (λ (r : Row). v ∷ r) (filled_twice cs vs)

module _ (columns : List ColumnDef) where
  abbrev full : Version → Version
  full v = filled_version columns v

  same_row : (v : Version) → row_of columns (full v) ≡ row_of columns v
  same_row v = ap (filled columns) (filled_values columns v.values) ∙ filled_twice columns (values_of v)

  its_key : (v : Version) → version_key columns (full v) ≡ version_key columns v
  its_key v = ap (key_of columns) (filled_values columns v.values) ∙ filled_key columns columns (values_of v)

  base_same : (v : Version) → base_row columns (full v) ≡ base_row columns v
  base_same v = ap (λ (row : Row). row ++ number v.start.0 ∷ number v.start.1 ∷ []) (same_row v)

  history_same : (v : Version) (end : Option EventId) → history_rows_of columns (full v) end ≡ history_rows_of columns v end
  history_same v None = refl
  history_same v (Some e) = ap (λ (row : Row). (row ++ number v.start.0 ∷ number e.0 ∷ number v.start.1 ∷ number e.1 ∷ []) ∷ []) (same_row v)

  abbrev end_shown : EventId → Row → List ViewRow
  end_shown e row = (e, row ++ number e.0 ∷ number e.1 ∷ number 2 ∷ Text (codes "DELETE") ∷ []) ∷ []

  abbrev start_shown : EventId → Row → ViewRow
  start_shown e row = (e, row ++ number e.0 ∷ number e.1 ∷ number 1 ∷ Text (codes "INSERT") ∷ [])

  end_same : (v : Version) (end : Option EventId) → view_row_of_end columns (full v) end ≡ view_row_of_end columns v end
  end_same v None = refl
  end_same v (Some e) = ap (λ (row : Row). end_shown e row) (same_row v)

  view_same : (v : Version) → view_row_of_start columns (full v) ∷ view_row_of_end columns (full v) v.end ≡ view_row_of_start columns v ∷ view_row_of_end columns v v.end
  view_same v =
      ap₂ (λ (x : ViewRow) (xs : List ViewRow). x ∷ xs)
      (ap (λ (row : Row). start_shown v.start row) (same_row v)) (end_same v v.end)

  part_same : (key : Option Key) (vs : List Version) → part_read columns key (map full vs) ≡ map full (part_read columns key vs)
  part_same None vs = refl
  part_same (Some key) vs = filtered_map full (λ v. same_key (version_key columns v) key) (λ v. ap (λ (k : Key). same_key k key) (its_key v)) vs

  live_same : (key : Option Key) (vs : List Version) → live_by_key columns key (map full vs) ≡ map full (live_by_key columns key vs)
  unfolding live_by_key_at
  live_same key vs =
      let by_key : Version → Version → Ordering = λ v w. key_cmp (version_key columns v) (version_key columns w) in
      ap (λ (ws : List Version). sorted by_key (live ws)) (part_same key vs)
      ∙ ap (sorted by_key) (filtered_map full (λ v. is_none v.end) (λ v. refl) (part_read columns key vs))
      ∙ sorted_map full by_key (λ v w. ap₂ key_cmp (its_key v) (its_key w)) (live (part_read columns key vs))

  base_rows_same : (key : Option Key) (vs : List Version) → map (base_row columns) (live_by_key columns key (map full vs)) ≡ map (base_row columns) (live_by_key columns key vs)
  base_rows_same key vs = ap (map (base_row columns)) (live_same key vs) ∙ mapped_alike full (base_row columns) base_same (live_by_key columns key vs)

  history_rows_same : (vs : List Version) → history_rows columns (map full vs) ≡ history_rows columns vs
  history_rows_same vs = flat_alike full (λ v. history_rows_of columns v v.end) (λ v. history_same v v.end) vs

  view_rows_same : (vs : List Version) → view_rows columns (map full vs) ≡ view_rows columns vs
  view_rows_same vs =
      ap (λ (rows : List ViewRow). map (λ r. r.1) (sorted (λ a b. event_cmp a.0 b.0) rows))
      (flat_alike full (λ v. view_row_of_start columns v ∷ view_row_of_end columns v v.end) view_same vs)

rows_same : (def : TableDef) (part : Part) (key : Option Key) (vs : List Version) → rows_of def part key (map (filled_version def.columns) vs) ≡ rows_of def part key vs
unfolding rows_of
rows_same def Base key vs = base_rows_same def.columns key vs
rows_same def History key vs = history_rows_same def.columns vs
rows_same def View key vs = view_rows_same def.columns vs
rows_same def System key vs = base_rows_same def.columns None vs

-- ---- answers

filled_at : (id : ℕ) (T : Tables) → versions_of (map filled_table T) id ≡ map (filled_version (columns_at (defs_of T) id)) (versions_of T id)
filled_at id [] = refl
filled_at id (t ∷ ts) = here (t.def.id == id) (filled_at id ts)
  where
    here : (b : Bool) → versions_of (map filled_table ts) id ≡ map (filled_version (columns_at (defs_of ts) id)) (versions_of ts id)
        → (if b then map (filled_version t.def.columns) t.versions else versions_of (map filled_table ts) id) ≡ map (filled_version (if b then t.def.columns else columns_at (defs_of ts) id)) (if b then t.versions else versions_of ts id)
    here true e = refl
    here false e = e

pub filled_defs : (T : Tables) → defs_of (map filled_table T) ≡ defs_of T
filled_defs [] = refl
filled_defs (t ∷ ts) = ap (λ (ds : Defs). t.def ∷ ds) (filled_defs ts)

query_same : (q : Select) (n : NamedPart) (vs : List Version) → query_rows q n (map (filled_version n.0.columns) vs) ≡ query_rows q n vs
unfolding query_rows
query_same q n vs =
    ap (selected (columns_of n.0 n.1) n.0.dropped (shown_of n.0 n.1) q) (rows_same n.0 n.1 (key_fixed n.0.columns q.cond) vs)

module _ (T : Tables) (ids : IdsFrom 1 (defs_of T)) (q : Select) where
  shown_same : (m : Checked NamedPart) → query_check (defs_of T) q ≡ m → (query_effect (map filled_table T) 0 q m).reply ≡ (query_effect T 0 q m).reply
  shown_same (Err e) is = refl
  shown_same (Ok n) is =
      let l : IsAmongDefs 1 (defs_of T) n.0 = query_is_listed (defs_of T) q n ids is in
      reply_same (query_rows q n (versions_of (map filled_table T) n.0.id)) (query_rows q n (versions_of T n.0.id))
      (ap (query_rows q n) (filled_at n.0.id T ∙ ap (λ (cs : List ColumnDef). map (filled_version cs) (versions_of T n.0.id)) l.columns) ∙ query_same q n (versions_of T n.0.id))
    where
      both : (m : Checked (List Row)) → (shown (map filled_table T) 0 m).reply ≡ (shown T 0 m).reply
      both (Ok rows) = refl
      both (Err e) = refl

      reply_same : (m o : Checked (List Row)) → m ≡ o → (shown (map filled_table T) 0 m).reply ≡ (shown T 0 o).reply
      reply_same m o e = ap (λ (x : Checked (List Row)). (shown (map filled_table T) 0 x).reply) e ∙ both o

  select_same : (effect (map filled_table T) 0 0 (s.Select q)).reply ≡ (effect T 0 0 (s.Select q)).reply
  unfolding effect
  select_same = ap (λ (ds : Defs). (query_effect (map filled_table T) 0 q (query_check ds q)).reply) (filled_defs T) ∙ shown_same (query_check (defs_of T) q) refl

pub answered_same : (T : Tables) → IdsFrom 1 (defs_of T) → (text : Option Stmt) → answer_of (map filled_table T) text ≡ answer_of T text
unfolding answer_of
answered_same T ids None = refl
answered_same T ids (Some (s.Create c)) = refl
answered_same T ids (Some (s.Index c)) = refl
answered_same T ids (Some (s.Alter a)) = refl
answered_same T ids (Some (s.Drop name)) = refl
answered_same T ids (Some (s.Change stmt)) = refl
answered_same T ids (Some (s.Select q)) = ap of_reply (select_same T ids q)
answered_same T ids (Some s.Begin) = refl
answered_same T ids (Some s.Commit) = refl
answered_same T ids (Some (s.Save name)) = refl
answered_same T ids (Some (s.Rollback name)) = refl
answered_same T ids (Some s.Digest) = refl
answered_same T ids (Some s.Image) = refl
