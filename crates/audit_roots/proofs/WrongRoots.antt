-- Wrong roots of entries are told by the starts and ends of a group of tables.
use Rattle.std.proofs.Common.{◌≡◌, ◌≤◌, ◌==◌, ◌+◌, ℕ, zero, suc, Bool, true, false, List, [], ◌∷◌, length, map, filter, flat_map, take, drop, refl, sym, ap, ap₂, subst, ◌∙◌, arith, Option, Some, None}
use Rattle.std.specs.Prelude.{◌&&◌, ◌||◌, not, is_some}
use Rattle.std.specs.List.{All}
use Rattle.std.specs.Ordering.{nat_cmp}
use Rattle.std.specs.Str.{bytes_eq}
use Rattle.std.proofs.lemmas.List.{length-map, take-map, drop-map}
use Rattle.std.proofs.lemmas.List.Elements.{All-take, All-drop}
use Rattle.sql_types.specs.declared.entry.TxEntry.{TxEntry}
use Rattle.sql_types.specs.declared.event.Event.{Event}
use Rattle.sql_types.specs.declared.image.Image.{Image}
use Rattle.spec_ledger.specs.Entries.{roots_of}
use Rattle.spec_model.specs.Catalog.{Tables}
use Rattle.spec_model.specs.Events.{events_of}
use Rattle.spec_model.specs.Lists.{or_else}
use Rattle.format_image.specs.ImageBytes.{IsImage}
use Rattle.format_image.specs.Tables.{tables_in}
use Rattle.law_catalog_rows.specs.Least.{least}
use Rattle.spec_verify.specs.Entries.{TableRoot, root_at, same_root}
use Rattle.spec_verify.specs.Groups.{Found, first_found, found_at}
use Rattle.audit_roots.specs.declared.marks.Mark.{Mark}
use Rattle.audit_roots.specs.declared.shown.ImageTable.{ImageTable}
use Rattle.audit_roots.specs.Groups.{group_of, is_table, wrong_in, wrong_root}
use Rattle.audit_roots.specs.Marks.{event_of, AreMarks, HaveEncodableValues}
use Rattle.audit_roots.specs.Roots.{run_in, roots_in}
use Rattle.audit_roots.specs.ImageTable.{IdsRise, rows_of, table_of, AreImageTables}
use Rattle.audit_roots.specs.WrongRoots.{is_shown, wrong_roots, wrong_by_marks, wrong_part, wrong_told}
use Rattle.audit_roots.proofs.EntryRoots.{filter_seen, ids_of_image}
use Rattle.audit_roots.proofs.FirstParts.{found_in_both, whole_part}
use Rattle.audit_roots.proofs.Grouped.{run_is}
use Rattle.audit_roots.proofs.TableFaults.{has, has_filter, has_append, has_roots, least_same, no_root, root_found, rooted, table_root, wrong_has}
use Rattle.audit_roots.proofs.TableRoots.{roots_are}
use Rattle.audit_roots.proofs.Tables.{are_tables, are_spelled}

-- ---- tables of a group

pub shown_is : (ts : List ImageTable) (id : ℕ) → is_shown ts id ≡ is_table (map table_of ts) id
shown_is [] id = refl
shown_is (t ∷ ts) id = ap (λ b. (t.def.now.id == id) || b) (shown_is ts id)

lower : (m n : ℕ) (ts : Tables) → m ≤ n → IdsRise n ts → IdsRise m ts
lower m n [] le rise = tt
lower m n (t ∷ ts) le rise = (let lt = rise.0 in omega (arith, le, lt), rise.1)

rise_behind : (k : ℕ) (ts : Tables) → IdsRise 0 ts → IdsRise 0 (drop k ts)
rise_behind zero ts rise = rise
rise_behind (suc k) [] rise = tt
rise_behind (suc k) (t ∷ ts) rise = rise_behind k ts (lower 0 t.def.id ts (omega arith) rise.1)

rise_before : (k last : ℕ) (ts : Tables) → IdsRise last ts → IdsRise last (take k ts)
rise_before zero last ts rise = tt
rise_before (suc k) last [] rise = tt
rise_before (suc k) last (t ∷ ts) rise = (rise.0, rise_before k t.def.id ts rise.1)

pub within_shown : (ts seen : List ImageTable) (i : Image) (n : ℕ) → AreImageTables ts i → seen ≡ ts → n ≤ length i.tables → n ≤ length seen
within_shown ts seen i n shown same within =
    let long : length seen ≡ length i.tables = ap length same ∙ sym (length-map ts rows_of) ∙ ap length shown.rows in
    omega (arith, within, long)

module _ (ts seen group : List ImageTable) (i : Image) (from count : ℕ) (shown : AreImageTables ts i) (is : IsImage i) (same : seen ≡ ts)
    (taken : group ≡ take count (drop from seen)) where
  group_is : group ≡ take count (drop from ts)
  group_is = taken ∙ ap (λ (l : List ImageTable). take count (drop from l)) same

  pub group_tables : map table_of group ≡ group_of from count i
  group_tables =
      ap (map table_of) group_is ∙ sym (take-map table_of count (drop from ts)) ∙ ap (take count) (sym (drop-map table_of from ts) ∙ ap (drop from) (are_tables ts i shown))

  pub group_spelled : All HaveEncodableValues group
  group_spelled = subst (All HaveEncodableValues) (sym group_is) (All-take HaveEncodableValues count (drop from ts) (All-drop HaveEncodableValues from ts (are_spelled ts i shown is)))

  pub group_rises : IdsRise 0 (map table_of group)
  group_rises = subst (IdsRise 0) (sym group_tables) (rise_before count 0 (drop from (tables_in i)) (rise_behind from (tables_in i) (ids_of_image i is)))

-- ---- an entry

run_events : (tx : ℕ) (ts : Tables) (ms : List Mark) → AreMarks ts ms → IdsRise 0 ts → run_in tx ms ≡ flat_map (events_of tx) ts
run_events tx ts ms are rise =
    filter_seen event_of (λ (e : Event). e.tx == tx) ms
    ∙ ap (filter (λ (e : Event). e.tx == tx)) are.events
    ∙ run_is tx 0 ts rise

outside : (d s : Bool) → (((d && false) && s) || (d && false)) ≡ false
outside true s = refl
outside false s = refl

inside : (a b : Option (List ℕ)) → (((not (same_root a b) && true) && is_some a) || (not (same_root a b) && is_some b)) ≡ not (same_root a b)
inside None None = refl
inside None (Some b) = refl
inside (Some a) None = refl
inside (Some a) (Some b) = twice (not (bytes_eq a b))
  where
    twice : (x : Bool) → (((x && true) && true) || (x && true)) ≡ x
    twice true = refl
    twice false = refl

module _ (h : List ℕ → List ℕ) (ts : Tables) (rise : IdsRise 0 ts) where
  abbrev roots : ℕ → List TableRoot
  roots tx = rooted h tx ts

  abbrev id : TableRoot → ℕ
  id r = r.0

  abbrev differs : TxEntry → ℕ → Bool
  differs e t = not (same_root (root_at e.roots t) (root_at (roots e.id) t))

  -- some root is there, and one of the entry alone counts where it is for a table of the group
  abbrev counts : Option (List ℕ) → Bool → Option (List ℕ) → Bool
  counts a b r = ((not (same_root a r) && b) && is_some a) || (not (same_root a r) && is_some r)

  of_table : (a r : Option (List ℕ)) (b : Bool) → (b ≡ false → r ≡ None) → counts a b r ≡ (b && not (same_root a r))
  of_table a r true none = inside a r
  of_table a r false none =
      ap (λ (o : Option (List ℕ)). ((not (same_root a r) && false) && is_some a) || (not (same_root a r) && is_some o)) (none refl)
      ∙ outside (not (same_root a r)) (is_some a)

  same_tables : (e : TxEntry) (n : ℕ) → has (wrong_roots ts e.roots (roots e.id)) n ≡ has (wrong_in h ts e) n
  same_tables e n =
      has_append (filter (λ t. differs e t && is_table ts t) (map id e.roots)) (filter (differs e) (map id (roots e.id))) n
      ∙ ap₂ (λ c d. c || d)
      (has_filter (λ t. differs e t && is_table ts t) (map id e.roots) n ∙ ap (λ c. (differs e n && is_table ts n) && c) (has_roots e.roots n))
      (has_filter (differs e) (map id (roots e.id)) n ∙ ap (λ c. differs e n && c) (has_roots (roots e.id) n))
      ∙ ap (counts (root_at e.roots n) (is_table ts n)) (root_found h e.id 0 ts rise n)
      ∙ of_table (root_at e.roots n) (table_root h e.id ts n) (is_table ts n) (no_root h e.id ts n)
      ∙ sym (wrong_has h e 0 ts rise n)

  module _ (ms : List Mark) (are : AreMarks ts ms) where
    wrong_is : (e : TxEntry) → wrong_by_marks h ts ms e ≡ least nat_cmp (wrong_in h ts e)
    unfolding roots_of
    wrong_is e =
        ap (λ (es : List Event). least nat_cmp (wrong_roots ts e.roots (roots_in h es))) (run_events e.id ts ms are rise)
        ∙ ap (λ (rs : List TableRoot). least nat_cmp (wrong_roots ts e.roots rs)) (roots_are e.id h 0 ts rise)
        ∙ least_same (wrong_roots ts e.roots (roots e.id)) (wrong_in h ts e) (same_tables e)

    pub told_is : (entries : List TxEntry) → wrong_told h ts ms entries ≡ wrong_root h ts entries
    unfolding wrong_root
    told_is entries = ap (λ (f : ℕ → TxEntry → Option ℕ). first_found f entries) (λ i k e. wrong_is e i)

    -- from the first entry to the last
    pub whole_told : (entries : List TxEntry) → wrong_part h ts ms entries 0 (length entries) ≡ wrong_root h ts entries
    whole_told entries = whole_part (λ (k : ℕ) (e : TxEntry). found_at k (wrong_by_marks h ts ms e)) entries (length entries) refl ∙ told_is entries

-- ---- parts of the entries

module _ (h : List ℕ → List ℕ) (ts : Tables) (ms : List Mark) (es : List TxEntry) where
  -- what is found in both parts together
  pub wrong_in_both : (from a b middle n : ℕ) (x y z : Option (Found ℕ)) → x ≡ wrong_part h ts ms es from a → y ≡ wrong_part h ts ms es middle b
      → z ≡ or_else x y → from + a ≤ length es → middle ≡ from + a → n ≡ a + b → z ≡ wrong_part h ts ms es from n
  wrong_in_both = found_in_both (λ (k : ℕ) (e : TxEntry). found_at k (wrong_by_marks h ts ms e)) es
