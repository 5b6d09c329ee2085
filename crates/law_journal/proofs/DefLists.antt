-- Definitions after a table or an index has been made.
use Rattle.std.proofs.Common.{◌≡◌, ◌≤◌, ◌<◌, ℕ, ◌+◌, ◌*◌, inl, inr, refl, sym, ap, subst, ◌∙◌, Bool, true, false, List, [], ◌∷◌, ◌++◌, map, length, arith, length-append}
use Rattle.std.proofs.lemmas.List.{length-map}
use Rattle.std.proofs.lemmas.Bool.{eqb-true, eq-eqb, ne_eqb}
use Rattle.std.specs.Prelude.{◌==◌, if◌then◌else◌}
use Rattle.std.specs.List.{AllByRecursion}
use Rattle.std.proofs.lemmas.List.Sums.{sum_by-cons}
use Rattle.sql_value.specs.declared.column.ColumnDef.{ColumnDef}
use Rattle.sql_types.specs.declared.table.TableDef.{TableDef}
use Rattle.sql_types.specs.declared.version.Table.{Table}
use Rattle.spec_model.specs.Lists.{is_among}
use Rattle.spec_model.specs.Rows.{EventId}
use Rattle.spec_model.specs.Keys.{Key}
use Rattle.spec_model.specs.Catalog.{Defs, Tables, defs_of}
use Rattle.spec_model.specs.Effect.{with_def, redefined}
use Rattle.spec_model.specs.Agreement.{IdsFrom}
use Rattle.law_frame.proofs.Alls.{all_both, all_append, all_map}
use Rattle.law_journal.specs.Fine.{OfTable}
use Rattle.law_journal.specs.Kept.{count_all}
use Rattle.law_journal.specs.Described.{items_below, live_from, IsChange, IsTableKey, IsColumnKey}
use Rattle.law_journal.proofs.Tables.{table_count}

pub defs_append : (T : Tables) (t : Table) → defs_of (T ++ t ∷ []) ≡ defs_of T ++ t.def ∷ []
defs_append [] t = refl
defs_append (u ∷ us) t = ap (λ (ds : Defs). u.def ∷ ds) (defs_append us t)

pub all_defs : (P : TableDef → Type 0) (T : Tables) → AllByRecursion P (defs_of T) → AllByRecursion (λ t. P t.def) T
all_defs P [] h = tt
all_defs P (t ∷ ts) h = (h.0, all_defs P ts h.1)

-- ---- a new table

pub count_new : (a : EventId) (def : TableDef) (T : Tables) → count_all a (T ++ record { def = def; versions = [] } ∷ []) ≡ count_all a T
count_new a def [] = sum_by-cons (table_count a) (record { def = def; versions = [] }) []
count_new a def (t ∷ ts) =
    let p = sum_by-cons (table_count a) t (ts ++ record { def = def; versions = [] } ∷ []) in
    let q = sum_by-cons (table_count a) t ts in
    let r = count_new a def ts in
    omega (arith, p, q, r)

pub no_items : (n id : ℕ) (defs : Defs) → IdsFrom n defs → n + length defs ≤ id → items_below defs id ≡ 0
no_items n id [] ids le = refl
no_items n id (d ∷ ds) ids le = rw (ne_eqb d.id id (λ e. absurd (omega (arith, e, ids.0, le)))) (no_items (n + 1) id ds ids.1 (omega (arith, le)))

more_items : (id : ℕ) (def : TableDef) (defs : Defs) → items_below defs id ≤ items_below (defs ++ def ∷ []) id
more_items id def [] = omega arith
more_items id def (d ∷ ds) = here (d.id == id) (more_items id def ds)
  where
    here : (b : Bool) → items_below ds id ≤ items_below (ds ++ def ∷ []) id → (if b then 1000 * (length d.indexes + 1) else items_below ds id) ≤ (if b then 1000 * (length d.indexes + 1) else items_below (ds ++ def ∷ []) id)
    here true h = omega arith
    here false h = h

pub new_items : (n : ℕ) (def : TableDef) (defs : Defs) → IdsFrom n defs → n + length defs ≤ def.id → items_below (defs ++ def ∷ []) def.id ≡ 1000 * (length def.indexes + 1)
new_items n def [] ids le = rw (eq-eqb def.id def.id refl) refl
new_items n def (d ∷ ds) ids le = rw (ne_eqb d.id def.id (λ e. absurd (omega (arith, e, ids.0, le)))) (new_items (n + 1) def ds ids.1 (omega (arith, le)))

pub table_key_stays : (def : TableDef) (defs : Defs) (key : Key) → length defs < def.id → IsTableKey defs key → IsTableKey (defs ++ def ∷ []) key
table_key_stays def defs key new h = (
  h.0,
  h.1,
  omega (arith, h.2, length-append defs (def ∷ [])),
  all_append (IsChange h.0 h.1) defs (def ∷ []) h.3 ((λ e. absurd (omega (arith, e, h.2, new))), tt),
  h.4,
)

pub column_key_stays : (def : TableDef) (defs : Defs) (key : Key) → IdsFrom 1 defs → length defs < def.id → IsColumnKey defs key → IsColumnKey (defs ++ def ∷ []) key
column_key_stays def defs key ids new h = (
  h.0,
  h.1,
  h.2,
  omega (arith, h.3, more_items h.0 def defs),
  all_append (IsChange h.0 h.2) defs (def ∷ []) h.4 ((λ e. absurd (omega (arith, h.3, no_items 1 h.0 defs ids (omega (arith, e, new))))), tt),
  h.5,
)

-- ---- changes

live_one : (b : Bool) (n m : ℕ) → n ≤ m → (if b then 0 else 1) + n ≤ m + 1
live_one true n m h = omega (arith, h)
live_one false n m h = omega (arith, h)

pub live_at_most : (dropped : List ℕ) (n : ℕ) (cs : List ColumnDef) → live_from dropped n cs ≤ length cs
live_at_most dropped n [] = omega arith
live_at_most dropped n (c ∷ cs) = omega (arith, live_one (is_among dropped n) (live_from dropped (n + 1) cs) (length cs) (live_at_most dropped (n + 1) cs))

-- a table may have had none
pub no_changes : (id : ℕ) (defs : Defs) → AllByRecursion (IsChange id 0) defs
no_changes id [] = tt
no_changes id (d ∷ ds) = ((λ e. omega (arith, live_at_most d.dropped 1 d.columns)), no_changes id ds)

-- ---- a definition in the place of another

abbrev pub redef : TableDef → Defs → Defs
redef def defs = map (λ (d : TableDef). if d.id == def.id then def else d) defs

def_after : (def : TableDef) (b : Bool) (t : Table) → (if b then with_def def t else t).def ≡ (if b then def else t.def)
def_after def true t = refl
def_after def false t = refl

pub defs_redefined : (def : TableDef) (T : Tables) → defs_of (redefined def T) ≡ redef def (defs_of T)
defs_redefined def [] = refl
defs_redefined def (t ∷ ts) = rw (def_after def (t.def.id == def.id) t, defs_redefined def ts) refl

count_after : (a : EventId) (def : TableDef) (b : Bool) (t : Table) → table_count a (if b then with_def def t else t) ≡ table_count a t
count_after a def true t = refl
count_after a def false t = refl

pub count_redefined : (a : EventId) (def : TableDef) (T : Tables) → count_all a (redefined def T) ≡ count_all a T
count_redefined a def [] = refl
count_redefined a def (t ∷ ts) =
    let p = sum_by-cons (table_count a) (if t.def.id == def.id then with_def def t else t) (redefined def ts) in
    let q = sum_by-cons (table_count a) t ts in
    let r = count_redefined a def ts in
    let e = count_after a def (t.def.id == def.id) t in
    omega (arith, p, q, r, e)

-- who has the id of this definition is this definition
abbrev pub IsOnly : TableDef → TableDef → Type 0
IsOnly x d = d.id ≡ x.id → d ≡ x

far : (n : ℕ) (x : TableDef) (defs : Defs) → IdsFrom n defs → x.id < n → AllByRecursion (IsOnly x) defs
far n x [] ids lt = tt
far n x (d ∷ ds) ids lt = ((λ e. absurd (omega (arith, e, ids.0, lt))), far (n + 1) x ds ids.1 (omega (arith, lt)))

pub record ListedOnce (n : ℕ) (x : TableDef) (T : Tables) : Type 0 where
  pub from : n ≤ x.id
  pub to : x.id < n + length (defs_of T)
  pub only : AllByRecursion (IsOnly x) (defs_of T)
  pub items : items_below (defs_of T) x.id ≡ 1000 * (length x.indexes + 1)

pub is_listed_once : (n : ℕ) (x : TableDef) (T : Tables) → IdsFrom n (defs_of T) → OfTable x.id (λ t. t.def ≡ x) T → ListedOnce n x T
is_listed_once n x [] ids o = absurd o
is_listed_once n x (t ∷ ts) ids o = elim o [
  | inl p ↦ record {
    from = omega (arith, ids.0, p.0);
    to = omega (arith, ids.0, p.0);
    only = ((λ e. p.1), far (n + 1) x (defs_of ts) ids.1 (omega (arith, ids.0, p.0)));
    items = rw (eq-eqb t.def.id x.id p.0) (ap (λ (d : TableDef). 1000 * (length d.indexes + 1)) p.1);
  }
  | inr q ↦ (
      let r : ListedOnce (n + 1) x ts = is_listed_once (n + 1) x ts ids.1 q in
      record {
        from = omega (arith, r.from);
        to = omega (arith, r.to);
        only = ((λ e. absurd (omega (arith, e, ids.0, r.from))), r.only);
        items = rw (ne_eqb t.def.id x.id (λ e. absurd (omega (arith, e, ids.0, r.from)))) r.items;
      })
]

module _ (x def : TableDef) (same : def.id ≡ x.id) (more : length x.indexes ≤ length def.indexes) where
  -- one definition
  redefined_items : (id : ℕ) (d : TableDef) (ds : Defs) (b c : Bool) → (d.id == def.id) ≡ b → (d.id == id) ≡ c → IsOnly x d → items_below ds id ≤ items_below (redef def ds) id
      → (if c then 1000 * (length d.indexes + 1) else items_below ds id) ≤ items_below ((if b then def else d) ∷ redef def ds) id
  redefined_items id d ds true true e g o h =
      let is : def.id ≡ id = sym (eqb-true d.id def.id e) ∙ eqb-true d.id id g in
      let old : d ≡ x = o (eqb-true d.id def.id e ∙ same) in
      rw (eq-eqb def.id id is) (omega (arith, more, ap (λ (y : TableDef). length y.indexes) old))
  redefined_items id d ds true false e g o h =
      let no : (def.id == id) ≡ false = ap (λ (i : ℕ). i == id) (sym (eqb-true d.id def.id e)) ∙ g in
      rw no h
  redefined_items id d ds false true e g o h = rw g (omega arith)
  redefined_items id d ds false false e g o h = rw g h

  pub items_stay : (id : ℕ) (defs : Defs) → AllByRecursion (IsOnly x) defs → items_below defs id ≤ items_below (redef def defs) id
  items_stay id [] o = omega arith
  items_stay id (d ∷ ds) o = redefined_items id d ds (d.id == def.id) (d.id == id) refl refl o.0 (items_stay id ds o.1)

  module _ (wider : (id change : ℕ) → IsChange id change x → IsChange id change def) where
    change_kept : (id change : ℕ) (b : Bool) (d : TableDef) → (d.id == def.id) ≡ b → IsOnly x d × IsChange id change d → IsChange id change (if b then def else d)
    change_kept id change true d e h = wider id change (subst (IsChange id change) (h.0 (eqb-true d.id def.id e ∙ same)) h.1)
    change_kept id change false d e h = h.1

    pub changes_kept : (id change : ℕ) (defs : Defs) → AllByRecursion (IsOnly x) defs → AllByRecursion (IsChange id change) defs → AllByRecursion (IsChange id change) (redef def defs)
    changes_kept id change defs o h =
        all_map (λ (d : TableDef). IsOnly x d × IsChange id change d) (IsChange id change) (λ (d : TableDef). if d.id == def.id then def else d) (λ d k. change_kept id change (d.id == def.id) d refl k) defs
        (all_both (IsOnly x) (IsChange id change) defs o h)

    pub table_key_kept : (defs : Defs) (key : Key) → AllByRecursion (IsOnly x) defs → IsTableKey defs key → IsTableKey (redef def defs) key
    table_key_kept defs key o h = (h.0, h.1, omega (arith, h.2, length-map defs (λ (d : TableDef). if d.id == def.id then def else d)), changes_kept h.0 h.1 defs o h.3, h.4)

    pub column_key_kept : (defs : Defs) (key : Key) → AllByRecursion (IsOnly x) defs → IsColumnKey defs key → IsColumnKey (redef def defs) key
    column_key_kept defs key o h = (h.0, h.1, h.2, omega (arith, h.3, items_stay h.0 defs o), changes_kept h.0 h.2 defs o h.4, h.5)

-- the items of the definition in its place
pub items_now : (n : ℕ) (x def : TableDef) (T : Tables) → def.id ≡ x.id → IdsFrom n (defs_of T) → OfTable x.id (λ t. t.def ≡ x) T → items_below (redef def (defs_of T)) x.id ≡ 1000 * (length def.indexes + 1)
items_now n x def [] same ids o = absurd o
items_now n x def (t ∷ ts) same ids o = elim o [
  | inl p ↦ rw (eq-eqb t.def.id def.id (p.0 ∙ sym same)) (rw (eq-eqb def.id x.id same) refl)
  | inr q ↦ (
      let s : ListedOnce (n + 1) x ts = is_listed_once (n + 1) x ts ids.1 q in
      rw (ne_eqb t.def.id def.id (λ e. absurd (omega (arith, e, same, ids.0, s.from)))) (rw (ne_eqb t.def.id x.id (λ e. absurd (omega (arith, e, ids.0, s.from)))) (items_now (n + 1) x def ts same ids.1 q)))
]
