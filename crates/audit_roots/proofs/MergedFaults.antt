-- What groups of tables find, and what is left, merge to the place of the verdict.
use Rattle.std.proofs.Common.{◌≡◌, ◌+◌, ℕ, zero, suc, Bool, true, false, cond, List, [], ◌∷◌, ◌++◌, map, refl, sym, ap, ◌∙◌, arith, Option, Some, None}
use Rattle.std.specs.Prelude.{option_map}
use Rattle.std.specs.Ordering.{nat_cmp, is_gt}
use Rattle.sql_types.specs.declared.entry.TxEntry.{TxEntry}
use Rattle.sql_types.specs.declared.event.Event.{Event}
use Rattle.sql_types.specs.declared.image.Image.{Image}
use Rattle.spec_model.specs.Catalog.{Tables}
use Rattle.spec_model.specs.Events.{all_events}
use Rattle.spec_model.specs.Lists.{or_else}
use Rattle.format_image.specs.ImageBytes.{IsImage}
use Rattle.format_image.specs.Tables.{tables_in}
use Rattle.law_catalog_rows.specs.Least.{least, lesser_of}
use Rattle.spec_verify.specs.declared.place.Place.{Place}
use Rattle.spec_verify.specs.declared.place.Place.TheVariants as at
use Rattle.spec_verify.specs.Entries.{are_numbered, root_place, entry_fault, root_fault}
use Rattle.spec_verify.specs.First.{unless, first_from}
use Rattle.spec_verify.specs.Groups.{Found, found_at, first_found, found_cmp}
use Rattle.spec_verify.proofs.Merged.{first_of_groups}
use Rattle.audit_roots.specs.declared.groups.Fault.{Fault}
use Rattle.audit_roots.specs.declared.groups.Fault.TheVariants.{Numbers, Root}
use Rattle.audit_roots.specs.Groups.{wrong_in, wrong_root, strange, left_of, left_over, fault_cmp, as_fault, merged, id_at, place_of, fault_place}
use Rattle.audit_roots.proofs.EntryRoots.{ids_of_image, first_agree}
use Rattle.audit_roots.proofs.TableFaults.{least_of_parts, least_of_both}

-- ---- groups

pub groups_merge : (h : List ℕ → List ℕ) (front rest : Tables) (entries : List TxEntry)
    → wrong_root h (front ++ rest) entries ≡ lesser_of (found_cmp nat_cmp) (wrong_root h front entries) (wrong_root h rest entries)
unfolding wrong_root
groups_merge h front rest entries =
    ap (λ (f : ℕ → TxEntry → Option ℕ). first_found f entries) (λ i k e. least_of_both h e front rest i)
    ∙ first_of_groups nat_cmp (λ k e. least nat_cmp (wrong_in h front e)) (λ k e. least nat_cmp (wrong_in h rest e)) entries

-- ---- an entry

abbrev placed : ℕ → Option Fault → Option Place
placed tx f = option_map (place_of tx) f

roots_merge : (tx : ℕ) (a b : Option ℕ) → root_place tx (lesser_of nat_cmp a b) ≡ placed tx (lesser_of fault_cmp (option_map Root a) (option_map Root b))
roots_merge tx None None = refl
roots_merge tx (Some a) None = refl
roots_merge tx None (Some b) = refl
roots_merge tx (Some a) (Some b) = here (is_gt (nat_cmp a b))
  where
    here : (g : Bool) → root_place tx (cond g (Some b) (Some a)) ≡ placed tx (cond g (Some (Root b)) (Some (Root a)))
    here true = refl
    here false = refl

numbers_first : (tx : ℕ) (b : Option ℕ) → Some (at.Numbers tx) ≡ placed tx (lesser_of fault_cmp (Some Numbers) (option_map Root b))
numbers_first tx None = refl
numbers_first tx (Some b) = refl

module _ (h : List ℕ → List ℕ) (i : Image) (is : IsImage i) where
  abbrev ts : Tables
  ts = tables_in i

  abbrev numbered : TxEntry → Bool
  numbered e = are_numbered (map (λ (x : Event). x.seq) (all_events e.id ts))

  abbrev alone : TxEntry → Option ℕ
  alone e = least nat_cmp (strange ts e)

  abbrev wrong : TxEntry → Option ℕ
  wrong e = least nat_cmp (wrong_in h ts e)

  of_entry : (e : TxEntry) → entry_fault h i e ≡ placed e.id (lesser_of fault_cmp (left_of ts e) (option_map Root (wrong e)))
  of_entry e =
      ap (λ (o : Option ℕ). or_else (unless (numbered e) (at.Numbers e.id)) (root_place e.id o)) (least_of_parts h e 0 ts (ids_of_image i is))
      ∙ here (numbered e)
    where
      here : (b : Bool) → or_else (unless b (at.Numbers e.id)) (root_place e.id (lesser_of nat_cmp (alone e) (wrong e)))
          ≡ placed e.id (lesser_of fault_cmp (cond b (option_map Root (alone e)) (Some Numbers)) (option_map Root (wrong e)))
      here true = roots_merge e.id (alone e) (wrong e)
      here false = numbers_first e.id (wrong e)

-- ---- all entries

abbrev AreAt : (ℕ → ℕ) → ℕ → List TxEntry → Type 0
AreAt id n [] = Unit {0}
AreAt id n (e ∷ es) = (id n ≡ e.id) × AreAt id (n + 1) es

moved : (f g : ℕ → ℕ) → ((k : ℕ) → g (k + 1) ≡ f k) → (n : ℕ) (es : List TxEntry) → AreAt f n es → AreAt g (n + 1) es
moved f g same n [] are = tt
moved f g same n (e ∷ es) are = (same n ∙ are.0, moved f g same (n + 1) es are.1)

are_at : (es : List TxEntry) → AreAt (id_at es) zero es
are_at [] = tt
are_at (e ∷ es) = (refl, moved (id_at es) (id_at (e ∷ es)) next zero es (are_at es))
  where
    next : (k : ℕ) → id_at (e ∷ es) (k + 1) ≡ id_at es k
    next k = let one : k + 1 ≡ suc k = omega arith in ap (id_at (e ∷ es)) one

abbrev shown : (ℕ → ℕ) → Option (Found Fault) → Option Place
shown id found = option_map (λ (x : Found Fault). place_of (id x.0) x.1) found

first_place : (id : ℕ → ℕ) (f : TxEntry → Option Fault) (n : ℕ) (es : List TxEntry) → AreAt id n es
    → first_from (λ k e. placed e.id (f e)) n es ≡ shown id (first_from (λ k e. found_at k (f e)) n es)
first_place id f n [] are = refl
first_place id f n (e ∷ es) are = here (f e) (first_place id f (n + 1) es are.1)
  where
    here : (o : Option Fault) → first_from (λ k x. placed x.id (f x)) (n + 1) es ≡ shown id (first_from (λ k x. found_at k (f x)) (n + 1) es)
        → or_else (placed e.id o) (first_from (λ k x. placed x.id (f x)) (n + 1) es) ≡ shown id (or_else (found_at n o) (first_from (λ k x. found_at k (f x)) (n + 1) es))
    here None more = more
    here (Some x) more = ap (λ (tx : ℕ). Some (place_of tx x)) (sym are.0)

roots_found : (f : TxEntry → Option ℕ) (n : ℕ) (es : List TxEntry) → first_from (λ k e. found_at k (option_map Root (f e))) n es ≡ option_map as_fault (first_from (λ k e. found_at k (f e)) n es)
roots_found f n [] = refl
roots_found f n (e ∷ es) = here (f e) (roots_found f (n + 1) es)
  where
    here : (o : Option ℕ) → first_from (λ k x. found_at k (option_map Root (f x))) (n + 1) es ≡ option_map as_fault (first_from (λ k x. found_at k (f x)) (n + 1) es)
        → or_else (found_at n (option_map Root o)) (first_from (λ k x. found_at k (option_map Root (f x))) (n + 1) es)
        ≡ option_map as_fault (or_else (found_at n o) (first_from (λ k x. found_at k (f x)) (n + 1) es))
    here None more = more
    here (Some x) more = refl

pub fault_is_merged : (h : List ℕ → List ℕ) (i : Image) → IsImage i → root_fault h i ≡ fault_place i.entries (merged (left_over (tables_in i) i.entries) (wrong_root h (tables_in i) i.entries))
unfolding root_fault wrong_root left_over
fault_is_merged h i is =
    let ts = tables_in i in
    let wrong : TxEntry → Option ℕ = λ (e : TxEntry). least nat_cmp (wrong_in h ts e) in
    let left : TxEntry → Option Fault = λ (e : TxEntry). left_of ts e in
    let both : TxEntry → Option Fault = λ (e : TxEntry). lesser_of fault_cmp (left e) (option_map Root (wrong e)) in
    first_agree h i (λ k (e : TxEntry). entry_fault h i e) (λ k (e : TxEntry). placed e.id (both e)) (λ k e. of_entry h i is e) 0 i.entries
    ∙ first_place (id_at i.entries) both 0 i.entries (are_at i.entries)
    ∙ ap (fault_place i.entries)
    (first_of_groups fault_cmp (λ k e. left e) (λ k e. option_map Root (wrong e)) i.entries
    ∙ ap (lesser_of (found_cmp fault_cmp) (first_found (λ k e. left e) i.entries)) (roots_found wrong 0 i.entries))
