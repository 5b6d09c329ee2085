-- What fails of an entry is told by the marks of its transaction.
use Rattle.std.proofs.Common.{◌≡◌, ◌+◌, ◌==◌, ℕ, Bool, true, false, cond, List, [], ◌∷◌, map, filter, flat_map, refl, sym, ap, ap₂, ◌∙◌, arith, nat_lt, Option, Some}
use Rattle.std.specs.Ordering.{nat_cmp}
use Rattle.std.proofs.lemmas.Bool.{and_parts, ltb-true}
use Rattle.sql_types.specs.declared.entry.TxEntry.{TxEntry}
use Rattle.sql_types.specs.declared.event.Event.{Event}
use Rattle.sql_types.specs.declared.image.Image.{Image}
use Rattle.sql_types.specs.declared.image.TableRows.{TableRows}
use Rattle.spec_model.specs.Catalog.{Defs, Tables}
use Rattle.spec_model.specs.Events.{events_of, all_events}
use Rattle.spec_model.specs.Lists.{or_else, sorted}
use Rattle.spec_model.specs.SystemTables.{tables_def, columns_def}
use Rattle.format_image.specs.DefBytes.{ids_rise}
use Rattle.format_image.specs.ImageBytes.{IsImage}
use Rattle.format_image.specs.Tables.{tables_with, tables_in}
use Rattle.law_catalog_rows.specs.Least.{least}
use Rattle.spec_verify.specs.declared.place.Place.{Place}
use Rattle.spec_verify.specs.declared.place.Place.TheVariants as at
use Rattle.spec_verify.specs.Entries.{TableRoot, are_numbered, other_roots, root_place, entry_fault, root_fault}
use Rattle.spec_verify.specs.First.{unless, first_from}
use Rattle.audit_roots.specs.declared.marks.Mark.{Mark}
use Rattle.audit_roots.specs.declared.shown.ImageTable.{ImageTable}
use Rattle.audit_roots.specs.Marks.{event_of, tx_of, number_of, leaf_cmp, events_in, AreMarks}
use Rattle.audit_roots.specs.Roots.{numbers_in, run_in, roots_in, fault_of, first_fault}
use Rattle.audit_roots.specs.ImageTable.{IdsRise, table_of, AreImageTables}
use Rattle.audit_roots.proofs.Grouped.{run_is}
use Rattle.audit_roots.proofs.TableRoots.{roots_are}
use Rattle.audit_roots.proofs.Tables.{are_tables}

-- ---- the ids of an image's tables rise

rise_with : (last : ℕ) (ds : Defs) (rs : List TableRows) → ids_rise last ds ≡ true → IdsRise last (tables_with ds rs)
rise_with last [] rs rise = tt
rise_with last (d ∷ ds) [] rise = tt
rise_with last (d ∷ ds) (r ∷ rs) rise =
    let parts = and_parts (nat_lt last d.id) (ids_rise d.id ds) rise in
    (ltb-true last d.id parts.0, rise_with d.id ds rs parts.1)

system_first : (ds : Defs) (rs : List TableRows) → ids_rise 2 ds ≡ true → IdsRise 0 (tables_with (tables_def ∷ columns_def ∷ ds) rs)
system_first ds [] rise = tt
system_first ds (r ∷ []) rise = (omega arith, tt)
system_first ds (r ∷ s ∷ rs) rise = (omega arith, (omega arith, rise_with 2 ds rs rise))

pub ids_of_image : (i : Image) → IsImage i → IdsRise 0 (tables_in i)
ids_of_image i is = system_first i.defs i.tables is.ids

-- ---- an entry

pub filter_seen : {A B : Type 0} (f : A → B) (p : B → Bool) (xs : List A) → map f (filter (λ x. p (f x)) xs) ≡ filter p (map f xs)
filter_seen f p [] = refl
filter_seen {A} {B} f p (x ∷ xs) = by (p (f x)) (filter_seen f p xs)
  where
    by : (b : Bool) → map f (filter (λ y. p (f y)) xs) ≡ filter p (map f xs) → map f (cond b (x ∷ filter (λ y. p (f y)) xs) (filter (λ y. p (f y)) xs)) ≡ cond b (f x ∷ filter p (map f xs)) (filter p (map f xs))
    by true rest = ap (λ (l : List B). f x ∷ l) rest
    by false rest = rest

events_are : (tx : ℕ) (ts : List ImageTable) (ms : List Mark) (i : Image) → AreMarks (map table_of ts) ms → AreImageTables ts i → IsImage i → run_in tx ms ≡ flat_map (events_of tx) (tables_in i)
events_are tx ts ms i are shown is =
    filter_seen event_of (λ (e : Event). e.tx == tx) ms
    ∙ ap (filter (λ (e : Event). e.tx == tx)) (are.events ∙ ap (λ (l : Tables). sorted leaf_cmp (flat_map events_in l)) (are_tables ts i shown))
    ∙ run_is tx 0 (tables_in i) (ids_of_image i is)

module _ (h : List ℕ → List ℕ) (i : Image) where
  by_events : (e : TxEntry) (es : List Event) → es ≡ flat_map (events_of e.id) (tables_in i) → IsImage i → fault_of h es e ≡ entry_fault h i e
  unfolding all_events
  by_events e es same is =
      ap (λ (l : List Event). fault_of h l e) same
      ∙ ap (λ (rs : List TableRoot). or_else (unless (are_numbered (numbers_in (flat_map (events_of e.id) (tables_in i)))) (at.Numbers e.id)) (root_place e.id (least nat_cmp (other_roots e.roots rs))))
      (roots_are e.id h 0 (tables_in i) (ids_of_image i is))

  pub first_agree : {A : Type 0} (f g : ℕ → A → Option Place) → ((k : ℕ) (x : A) → f k x ≡ g k x) → (k : ℕ) (xs : List A) → first_from f k xs ≡ first_from g k xs
  first_agree f g same k [] = refl
  first_agree f g same k (x ∷ xs) = ap₂ or_else (same k x) (first_agree f g same (k + 1) xs)

  pub root_fault_is : (ts : List ImageTable) (ms : List Mark) → AreMarks (map table_of ts) ms → AreImageTables ts i → IsImage i → first_fault h ms i.entries ≡ root_fault h i
  unfolding root_fault
  root_fault_is ts ms are shown is =
      first_agree (λ k (e : TxEntry). fault_of h (run_in e.id ms) e) (λ k (e : TxEntry). entry_fault h i e)
      (λ k e. by_events e (run_in e.id ms) (events_are e.id ts ms i are shown is) is) 0 i.entries

-- ---- what is told of an entry by its marks

numbers_seen : (ms : List Mark) → numbers_in (map event_of ms) ≡ map number_of ms
numbers_seen [] = refl
numbers_seen (m ∷ ms) = ap (λ (l : List ℕ). m.seq ∷ l) (numbers_seen ms)

module _ (h : List ℕ → List ℕ) (e : TxEntry) (marks own : List Mark) (own_is : own ≡ filter (λ (m : Mark). tx_of m == e.id) marks)
    (numbers : List ℕ) (numbers_are : numbers ≡ map number_of own) where
  abbrev rest_of : List Event → Option Place
  rest_of es = root_place e.id (least nat_cmp (other_roots e.roots (roots_in h es)))

  told : (b : Bool) → b ≡ are_numbered numbers → or_else (unless b (at.Numbers e.id)) (rest_of (map event_of own)) ≡ fault_of h (run_in e.id marks) e
  told b is =
      ap (λ (c : Bool). or_else (unless c (at.Numbers e.id)) (rest_of (map event_of own))) (is ∙ ap are_numbered (numbers_are ∙ sym (numbers_seen own)))
      ∙ ap (λ (l : List Mark). fault_of h (map event_of l) e) own_is

  pub misnumbered : false ≡ are_numbered numbers → Some (at.Numbers e.id) ≡ fault_of h (run_in e.id marks) e
  misnumbered fails = told false fails

  pub by_roots : (roots : List TableRoot) (found : Option ℕ) → true ≡ are_numbered numbers → roots ≡ roots_in h (map event_of own)
      → found ≡ least nat_cmp (other_roots e.roots roots) → root_place e.id found ≡ fault_of h (run_in e.id marks) e
  by_roots roots found holds roots_are found_is =
      ap (root_place e.id) (found_is ∙ ap (λ (rs : List TableRoot). least nat_cmp (other_roots e.roots rs)) roots_are)
      ∙ told true holds
