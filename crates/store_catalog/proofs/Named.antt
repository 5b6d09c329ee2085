-- The map of names: what a look-up finds, and the map after each change of the definitions.
use Rattle.std.proofs.Common.{◌≡◌, ◌<◌, ◌+◌, ℕ, suc, zero, refl, sym, ap, subst, ap₂, ◌∙◌, Bool, false, true, if◌then◌else◌, nat_le, ◌||◌, List, [], ◌∷◌, ◌++◌, length, get_or, take, drop, slice_set, Option, Some, None, Ok, arith, append_assoc, append-nil, length-append, bytes_eq}
use Rattle.std.proofs.lemmas.List.{get_or-set_same, map-append, set-get_or, set-set, take-append-le}
use Rattle.std.proofs.lemmas.List.Folds.{list_any-append}
use Rattle.std.proofs.Math.Seq.{drop-cons}
use Rattle.std.specs.Cmp.Lexicographic.{nat_list_eq_equiv}
use Rattle.std.specs.List.{filter, list_any, AllByRecursion, IsDistinct}
use Rattle.std.specs.Map.{keys_of, lookup}
use Rattle.std.specs.Prelude.{option_map, unwrap_or, IfNone, IfSome}
use Rattle.indexmap.specs.IndexMap.{insert_all, insert_entry, IndexMap}
use Rattle.sql_value.specs.declared.refusal.Refusal.{Refusal}
use Rattle.sql_value.specs.declared.refusal.Refusal.TheVariants.{NameConflict, NoSuchColumn, NullNotAllowed, LimitExceeded}
use Rattle.sql_types.specs.declared.table.Part.{Part}
use Rattle.sql_types.specs.declared.table.Part.TheVariants.{Base, History, View, System}
use Rattle.sql_types.specs.declared.table.TableDef.{TableDef}
use Rattle.sql_types.specs.declared.statement.CreateTable.{CreateTable}
use Rattle.spec_model.specs.Catalog.{Defs, find_part, is_named, or_in, own_part, part_named}
use Rattle.spec_model.specs.Checks.{refused_if}
use Rattle.spec_model.specs.Create.{all_names, create_check, exceeds_limit, has_bad_name, has_null_key, is_ledger_name, is_name, names_of, next_id, table_def, table_names}
use Rattle.spec_model.specs.Lists.{has_name, repeats}
use Rattle.law_frame.proofs.SameKeys.{or_false}
use Rattle.store_catalog.specs.Names.{leading, names_at, names_from, HasNewNames, HaveSameNames, NameEntry}
use Rattle.store_catalog.specs.declared.named_defs.NamedPlace.{NamedPlace}

same : (x y : List ℕ) → bytes_eq x y ≡ bytes_eq y x
same x y = nat_list_eq_equiv.symm x y

-- ---- what a look-up finds

abbrev led : ℕ → Part → NamedPlace
led place part = record { place = place; part = part }

abbrev or_later : Option Part → ℕ → Option NamedPlace → Option NamedPlace
or_later (Some part) place rest = Some (led place part)
or_later None place rest = rest

-- of the entries of one name and the rest
first_or_later : (own name : List ℕ) (place : ℕ) (part : Part) (rest : List NameEntry)
    → lookup (bytes_eq name) (leading own place part ++ rest) ≡ (if is_named own name then Some (led place part) else lookup (bytes_eq name) rest)
first_or_later [] name place part rest = refl
first_or_later (b ∷ bs) name place part rest = ap (λ (t : Bool). if t then Some (led place part) else lookup (bytes_eq name) rest) (same name (b ∷ bs))

three_or_later : (p q r : Bool) (own : Part) (place : ℕ) (rest : Option NamedPlace)
    → (if p then Some (led place own) else (if q then Some (led place History) else (if r then Some (led place View) else rest)))
    ≡ or_later (if p then Some own else (if q then Some History else (if r then Some View else None))) place rest
three_or_later true q r own place rest = refl
three_or_later false true r own place rest = refl
three_or_later false false true own place rest = refl
three_or_later false false false own place rest = refl

grouped : (a b c d : List NameEntry) → a ++ b ++ c ++ d ≡ a ++ (b ++ (c ++ d))
grouped a b c d = append_assoc (a ++ b) c d ∙ append_assoc a b (c ++ d)

-- of the names of one table and the rest
found_at : (place : ℕ) (def : TableDef) (name : List ℕ) (rest : List NameEntry)
    → lookup (bytes_eq name) (names_at place def ++ rest) ≡ or_later (part_named def name) place (lookup (bytes_eq name) rest)
found_at place def name rest =
    let own : Part = own_part def in
    let history : List NameEntry = leading def.history place History in
    let view : List NameEntry = leading def.view place View in
    ap (lookup (bytes_eq name)) (grouped (leading def.name place own) history view rest)
    ∙ first_or_later def.name name place own (history ++ (view ++ rest))
    ∙ ap (λ (o : Option NamedPlace). if is_named def.name name then Some (led place own) else o)
    (first_or_later def.history name place History (view ++ rest)
    ∙ ap (λ (o : Option NamedPlace). if is_named def.history name then Some (led place History) else o) (first_or_later def.view name place View rest))
    ∙ three_or_later (is_named def.name name) (is_named def.history name) (is_named def.view name) own place (lookup (bytes_eq name) rest)

-- what the name stands for is there where it leads
pub record LeadsTo (first : ℕ) (defs : Defs) (name : List ℕ) (to : NamedPlace) : Type 0 where
  pub index : ℕ
  pub place : to.place ≡ first + index
  pub within : index < length defs
  pub found : (d : TableDef) → find_part defs name ≡ Some (get_or defs index d, to.part)

leads_from : (first : ℕ) (def : TableDef) (defs : Defs) (name : List ℕ) (to : NamedPlace) (part : Option Part) (rest : Option NamedPlace) → part_named def name ≡ part
    → or_later part first rest ≡ Some to → (rest ≡ Some to → LeadsTo (first + 1) defs name to) → LeadsTo first (def ∷ defs) name to
unfolding find_part
leads_from first def defs name to (Some part) rest is e behind =
    let here : led first part ≡ to = cc in
    subst (LeadsTo first (def ∷ defs) name) here (record {
      index = 0;
      place = omega arith;
      within = omega arith;
      found = λ d. ap (λ (o : Option Part). or_in o def (find_part defs name)) is;
    })
leads_from first def defs name to None rest is e behind =
    let l : LeadsTo (first + 1) defs name to = behind e in
    record {
      index = suc l.index;
      place = omega (arith, l.place);
      within = omega (arith, l.within);
      found = λ d. ap (λ (o : Option Part). or_in o def (find_part defs name)) is ∙ l.found d;
    }

pub leads : (first : ℕ) (defs : Defs) (name : List ℕ) (to : NamedPlace) → lookup (bytes_eq name) (names_from first defs) ≡ Some to → LeadsTo first defs name to
leads first [] name to e = cc
leads first (def ∷ defs) name to e =
    leads_from first def defs name to (part_named def name) (lookup (bytes_eq name) (names_from (first + 1) defs)) refl
    (sym (found_at first def name (names_from (first + 1) defs)) ∙ e) (λ k. leads (first + 1) defs name to k)

leads_nowhere_from : (first : ℕ) (def : TableDef) (defs : Defs) (name : List ℕ) (part : Option Part) (rest : Option NamedPlace) → part_named def name ≡ part
    → or_later part first rest ≡ None → (rest ≡ None → find_part defs name ≡ None) → find_part (def ∷ defs) name ≡ None
unfolding find_part
leads_nowhere_from first def defs name (Some part) rest is e behind = cc
leads_nowhere_from first def defs name None rest is e behind = ap (λ (o : Option Part). or_in o def (find_part defs name)) is ∙ behind e

pub leads_nowhere : (first : ℕ) (defs : Defs) (name : List ℕ) → lookup (bytes_eq name) (names_from first defs) ≡ None → find_part defs name ≡ None
unfolding find_part
leads_nowhere first [] name e = refl
leads_nowhere first (def ∷ defs) name e =
    leads_nowhere_from first def defs name (part_named def name) (lookup (bytes_eq name) (names_from (first + 1) defs)) refl
    (sym (found_at first def name (names_from (first + 1) defs)) ∙ e) (λ k. leads_nowhere (first + 1) defs name k)

-- ---- new names go last

keys_three : (a b c : List ℕ) (place : ℕ) (p q r : Part) → keys_of (leading a place p ++ leading b place q ++ leading c place r) ≡ filter is_name (a ∷ b ∷ c ∷ [])
keys_three [] [] [] place p q r = refl
keys_three [] [] (z ∷ c) place p q r = refl
keys_three [] (y ∷ b) [] place p q r = refl
keys_three [] (y ∷ b) (z ∷ c) place p q r = refl
keys_three (x ∷ a) [] [] place p q r = refl
keys_three (x ∷ a) [] (z ∷ c) place p q r = refl
keys_three (x ∷ a) (y ∷ b) [] place p q r = refl
keys_three (x ∷ a) (y ∷ b) (z ∷ c) place p q r = refl

keys_at : (place : ℕ) (def : TableDef) → keys_of (names_at place def) ≡ table_names def
keys_at place def = keys_three def.name def.history def.view place (own_part def) History View

keys_from : (first : ℕ) (defs : Defs) → keys_of (names_from first defs) ≡ all_names defs
keys_from first [] = refl
keys_from first (def ∷ defs) =
    map-append (λ (e : NameEntry). e.0) (names_at first def) (names_from (first + 1) defs)
    ∙ (λ i. keys_at first def i ++ keys_from (first + 1) defs i)

-- a name that isn't there goes last
last_entry : (es : List NameEntry) (k : List ℕ) (to : NamedPlace) → has_name (keys_of es) k ≡ false → insert_entry bytes_eq es k to ≡ es ++ (k, to) ∷ []
last_entry [] k to e = refl
last_entry (x ∷ xs) k to e =
    let p = or_false (bytes_eq x.0 k) (has_name (keys_of xs) k) e in
    let other : bytes_eq k x.0 ≡ false = same k x.0 ∙ p.0 in
    let rest : insert_entry bytes_eq xs k to ≡ xs ++ (k, to) ∷ [] = last_entry xs k to p.1 in
    ap (λ (t : Bool). if t then (x.0, to) ∷ xs else x ∷ insert_entry bytes_eq xs k to) other ∙ ap (λ (ys : List NameEntry). x ∷ ys) rest

has_one_more : (ks : List (List ℕ)) (k y : List ℕ) → has_name ks y ≡ false → bytes_eq k y ≡ false → has_name (ks ++ k ∷ []) y ≡ false
has_one_more [] k y e other = ap (λ (t : Bool). t || false) other
has_one_more (x ∷ xs) k y e other =
    let p = or_false (bytes_eq x y) (has_name xs y) e in
    λ i. p.0 i || has_one_more xs k y p.1 other i

still_unused : (ks : List (List ℕ)) (k : List ℕ) (ys : List (List ℕ)) → list_any (has_name ks) ys ≡ false → has_name ys k ≡ false → list_any (has_name (ks ++ k ∷ [])) ys ≡ false
still_unused ks k [] unused apart = refl
still_unused ks k (y ∷ ys) unused apart =
    let p = or_false (has_name ks y) (list_any (has_name ks) ys) unused in
    let q = or_false (bytes_eq y k) (has_name ys k) apart in
    λ i. has_one_more ks k y p.0 (same k y ∙ q.0) i || still_unused ks k ys p.1 q.1 i

all_last : (es xs : List NameEntry) → list_any (has_name (keys_of es)) (keys_of xs) ≡ false → repeats (keys_of xs) ≡ false → insert_all bytes_eq es xs ≡ es ++ xs
all_last es [] unused apart = sym (append-nil es)
all_last es (x ∷ xs) unused apart =
    let p = or_false (has_name (keys_of es) x.0) (list_any (has_name (keys_of es)) (keys_of xs)) unused in
    let q = or_false (has_name (keys_of xs) x.0) (repeats (keys_of xs)) apart in
    let more : keys_of (es ++ x ∷ []) ≡ keys_of es ++ x.0 ∷ [] = map-append (λ (e : NameEntry). e.0) es (x ∷ []) in
    let free : list_any (has_name (keys_of (es ++ x ∷ []))) (keys_of xs) ≡ false =
    ap (λ (ks : List (List ℕ)). list_any (has_name ks) (keys_of xs)) more ∙ still_unused (keys_of es) x.0 (keys_of xs) p.1 q.0 in
    ap (λ (ys : List NameEntry). insert_all bytes_eq ys xs) (last_entry es x.0 x.1 p.0)
    ∙ all_last (es ++ x ∷ []) xs free q.1
    ∙ append_assoc es (x ∷ []) xs

from_more : (first : ℕ) (defs : Defs) (def : TableDef) → names_from first (defs ++ def ∷ []) ≡ names_from first defs ++ names_at (first + length defs) def
from_more first [] def =
    let place : first ≡ first + 0 = omega arith in
    append-nil (names_at first def) ∙ ap (λ (n : ℕ). names_at n def) place
from_more first (d ∷ ds) def =
    let place : (first + 1) + length ds ≡ first + suc (length ds) = omega arith in
    ap (λ (es : List NameEntry). names_at first d ++ es) (from_more (first + 1) ds def ∙ ap (λ (n : ℕ). names_from (first + 1) ds ++ names_at n def) place)
    ∙ sym (append_assoc (names_at first d) (names_from (first + 1) ds) (names_at (first + suc (length ds)) def))

from_first : (defs : Defs) (def : TableDef) → names_from 0 (defs ++ def ∷ []) ≡ names_from 0 defs ++ names_at (length defs) def
from_first defs def =
    let place : 0 + length defs ≡ length defs = omega arith in
    from_more 0 defs def ∙ ap (λ (n : ℕ). names_from 0 defs ++ names_at n def) place

none_unused : (ys : List (List ℕ)) → list_any (has_name []) ys ≡ false
none_unused [] = refl
none_unused (y ∷ ys) = none_unused ys

-- the map after one more definition
pub after_push : (defs : Defs) (def : TableDef) → HasNewNames defs def → insert_all bytes_eq (names_from 0 defs) (insert_all bytes_eq [] (names_at (length defs) def)) ≡ names_from 0 (defs ++ def ∷ [])
after_push defs def new =
    let names : List NameEntry = names_at (length defs) def in
    let keys : keys_of names ≡ table_names def = keys_at (length defs) def in
    let apart : repeats (keys_of names) ≡ false = ap repeats keys ∙ new.apart in
    let unused : list_any (has_name (keys_of (names_from 0 defs))) (keys_of names) ≡ false =
    (λ i. list_any (has_name (keys_from 0 defs i)) (keys i)) ∙ new.unused in
    ap (λ (es : List NameEntry). insert_all bytes_eq (names_from 0 defs) es) (all_last [] names (none_unused (keys_of names)) apart)
    ∙ all_last (names_from 0 defs) names unused apart
    ∙ sym (from_first defs def)

-- ---- the last names go

whole : (es : List NameEntry) → take (length es) es ≡ es
whole [] = refl
whole (e ∷ es) = ap (λ (xs : List NameEntry). e ∷ xs) (whole es)

front : (n : ℕ) (es ls : List NameEntry) → n ≡ length es → take n (es ++ ls) ≡ es
front n es ls is = ap (λ (k : ℕ). take k (es ++ ls)) is ∙ take-append-le (length es) es ls (omega arith) ∙ whole es

module _ (defs rest : Defs) (def : TableDef) (is : defs ≡ rest ++ def ∷ []) where
  more : names_from 0 defs ≡ names_from 0 rest ++ names_at (length rest) def
  more = ap (λ (ds : Defs). names_from 0 ds) is ∙ from_first rest def

  -- the last table's names are among them
  pub count_last : length (names_from 0 defs) ≡ length (names_from 0 rest) + length (names_at (length rest) def)
  count_last = ap (λ (es : List NameEntry). length es) more ∙ length-append (names_from 0 rest) (names_at (length rest) def)

  -- they go away
  pub after_pop : (n : ℕ) → n + length (names_at (length rest) def) ≡ length (names_from 0 defs) → take n (names_from 0 defs) ≡ names_from 0 rest
  after_pop n count = ap (λ (es : List NameEntry). take n es) more ∙ front n (names_from 0 rest) (names_at (length rest) def) (omega (arith, count, count_last))

-- ---- the names stay where a definition has the same ones

same_at : (place : ℕ) (old new : TableDef) → HaveSameNames old new → names_at place new ≡ names_at place old
same_at place old new h =
    λ i. leading (sym h.name i) place (if nat_le (sym h.id i) 2 then System else Base) ++ leading (sym h.history i) place History ++ leading (sym h.view i) place View

after_replace : (first place : ℕ) (new : TableDef) (defs : Defs) → place < length defs → ((d : TableDef) → HaveSameNames (get_or defs place d) new) → names_from first (slice_set defs place new) ≡ names_from first defs
after_replace first place new [] within same = refl
after_replace first zero new (d ∷ ds) within same = ap (λ (es : List NameEntry). es ++ names_from (first + 1) ds) (same_at first d new (same d))
after_replace first (suc place) new (d ∷ ds) within same =
    ap (λ (es : List NameEntry). names_at first d ++ es) (after_replace (first + 1) place new ds (omega (arith, within)) same)

-- ---- names that are apart

-- no name of the first is among the others
abbrev Apart : List (List ℕ) → List (List ℕ) → Type 0
Apart xs ys = AllByRecursion (λ x. has_name ys x ≡ false) xs

has_both : (xs ys : List (List ℕ)) (n : List ℕ) → has_name (xs ++ ys) n ≡ (has_name xs n || has_name ys n)
has_both xs ys n = list_any-append (λ m. bytes_eq m n) xs ys

free_of_both : (xs ys : List (List ℕ)) (n : List ℕ) → has_name xs n ≡ false → has_name ys n ≡ false → has_name (xs ++ ys) n ≡ false
free_of_both xs ys n e f = has_both xs ys n ∙ (λ i. e i || f i)

free_of_each : (xs ys : List (List ℕ)) (n : List ℕ) → has_name (xs ++ ys) n ≡ false → (has_name xs n ≡ false) × (has_name ys n ≡ false)
free_of_each xs ys n e = or_false (has_name xs n) (has_name ys n) (sym (has_both xs ys n) ∙ e)

apart_of : (xs ys : List (List ℕ)) → list_any (has_name ys) xs ≡ false → Apart xs ys
apart_of [] ys e = tt
apart_of (x ∷ xs) ys e = let p = or_false (has_name ys x) (list_any (has_name ys) xs) e in (p.0, apart_of xs ys p.1)

apart_first : (xs ys zs : List (List ℕ)) → Apart xs (ys ++ zs) → Apart xs ys
apart_first [] ys zs h = tt
apart_first (x ∷ xs) ys zs h = ((free_of_each ys zs x h.0).0, apart_first xs ys zs h.1)

apart_second : (xs ys zs : List (List ℕ)) → Apart xs (ys ++ zs) → Apart xs zs
apart_second [] ys zs h = tt
apart_second (x ∷ xs) ys zs h = ((free_of_each ys zs x h.0).1, apart_second xs ys zs h.1)

free_by : (xs ys : List (List ℕ)) (y : List ℕ) → Apart xs (y ∷ ys) → has_name xs y ≡ false
free_by [] ys y h = refl
free_by (x ∷ xs) ys y h =
    let p = or_false (bytes_eq y x) (has_name ys x) h.0 in
    let rest : has_name xs y ≡ false = free_by xs ys y h.1 in
    λ i. (same x y ∙ p.0) i || rest i

turned : (xs ys : List (List ℕ)) → Apart xs ys → Apart ys xs
turned xs [] h = tt
turned xs (y ∷ ys) h = (free_by xs ys y h, turned xs ys (apart_second xs (y ∷ []) ys h))

repeats_none : (xs ys : List (List ℕ)) → repeats xs ≡ false → repeats ys ≡ false → Apart xs ys → repeats (xs ++ ys) ≡ false
repeats_none [] ys e f h = f
repeats_none (x ∷ xs) ys e f h =
    let p = or_false (has_name xs x) (repeats xs) e in
    let rest : repeats (xs ++ ys) ≡ false = repeats_none xs ys p.1 f h.1 in
    λ i. free_of_both xs ys x p.0 h.0 i || rest i

repeats_neither : (xs ys : List (List ℕ)) → repeats (xs ++ ys) ≡ false → (repeats xs ≡ false) × (repeats ys ≡ false) × Apart xs ys
repeats_neither [] ys e = (refl, e, tt)
repeats_neither (x ∷ xs) ys e =
    let p = or_false (has_name (xs ++ ys) x) (repeats (xs ++ ys)) e in
    let q = free_of_each xs ys x p.0 in
    let rest = repeats_neither xs ys p.1 in
    ((λ i. q.0 i || rest.0 i), rest.1, (q.1, rest.2))

once_each : (ks : List (List ℕ)) → IsDistinct bytes_eq ks → repeats ks ≡ false
unfolding IsDistinct
once_each [] d = refl
once_each (k ∷ ks) d =
    let rest : repeats ks ≡ false = once_each ks d.1 in
    λ i. here ks d.0 i || rest i
  where
    here : (xs : List (List ℕ)) → AllByRecursion (λ x. bytes_eq k x ≡ false) xs → has_name xs k ≡ false
    here [] h = refl
    here (x ∷ xs) h =
        let rest : has_name xs k ≡ false = here xs h.1 in
        λ i. (same x k ∙ h.0) i || rest i

-- ---- all names, once a definition with new ones stands at its place

module _ (new : TableDef) where
  free_instead : (defs : Defs) (p : ℕ) (n : List ℕ) → has_name (all_names defs) n ≡ false → has_name (table_names new) n ≡ false → has_name (all_names (slice_set defs p new)) n ≡ false
  free_instead [] p n e f = refl
  free_instead (d ∷ ds) zero n e f = free_of_both (table_names new) (all_names ds) n f (free_of_each (table_names d) (all_names ds) n e).1
  free_instead (d ∷ ds) (suc p) n e f =
      let q = free_of_each (table_names d) (all_names ds) n e in
      free_of_both (table_names d) (all_names (slice_set ds p new)) n q.0 (free_instead ds p n q.1 f)

  apart_instead : (xs : List (List ℕ)) (defs : Defs) (p : ℕ) → Apart xs (all_names defs) → Apart xs (table_names new) → Apart xs (all_names (slice_set defs p new))
  apart_instead [] defs p h k = tt
  apart_instead (x ∷ xs) defs p h k = (free_instead defs p x h.0 k.0, apart_instead xs defs p h.1 k.1)

  once_instead : (defs : Defs) (p : ℕ) → repeats (all_names defs) ≡ false → Apart (table_names new) (all_names defs) → repeats (table_names new) ≡ false → repeats (all_names (slice_set defs p new)) ≡ false
  once_instead [] p e h own = refl
  once_instead (d ∷ ds) zero e h own =
      repeats_none (table_names new) (all_names ds) own (repeats_neither (table_names d) (all_names ds) e).1 (apart_second (table_names new) (table_names d) (all_names ds) h)
  once_instead (d ∷ ds) (suc p) e h own =
      let old = repeats_neither (table_names d) (all_names ds) e in
      repeats_none (table_names d) (all_names (slice_set ds p new)) old.0
      (once_instead ds p old.1 (apart_second (table_names new) (table_names d) (all_names ds) h) own)
      (apart_instead (table_names d) ds p old.2 (turned (table_names new) (table_names d) (apart_first (table_names new) (table_names d) (all_names ds) h)))

pub all_once : (defs : Defs) (entries : List NameEntry) → entries ≡ names_from 0 defs → IsDistinct bytes_eq (keys_of entries) → repeats (all_names defs) ≡ false
all_once defs entries is d = ap repeats (sym (ap keys_of is ∙ keys_from 0 defs)) ∙ once_each (keys_of entries) d

-- the map that is made of all names
pub after_rename : (defs : Defs) (place : ℕ) (new : TableDef) → repeats (all_names defs) ≡ false → HasNewNames defs new → insert_all bytes_eq [] (names_from 0 (slice_set defs place new)) ≡ names_from 0 (slice_set defs place new)
after_rename defs place new once h =
    let after : Defs = slice_set defs place new in
    let apart : repeats (all_names after) ≡ false = once_instead new defs place once (apart_of (table_names new) (all_names defs) h.unused) h.apart in
    all_last [] (names_from 0 after) (none_unused (keys_of (names_from 0 after))) (ap repeats (keys_from 0 after) ∙ apart)

-- the names of one definition after those of others
pub add_step : (entries made : List NameEntry) (defs : Defs) (there : ℕ) (def : TableDef) → made ≡ insert_all bytes_eq entries (names_at there def) → def ≡ get_or defs there def → there < length defs
    → insert_all bytes_eq made (names_from (there + 1) (drop (there + 1) defs)) ≡ insert_all bytes_eq entries (names_from there (drop there defs))
add_step entries made defs there def is at within =
    let next : suc there ≡ there + 1 = omega arith in
    let rest : List NameEntry = names_from (there + 1) (drop (there + 1) defs) in
    ap (λ (es : List NameEntry). insert_all bytes_eq es rest) is
    ∙ sym (all_in_turn entries (names_at there def) rest)
    ∙ ap (λ (ds : Defs). insert_all bytes_eq entries (names_from there ds)) (sym (drop-cons defs there def within ∙ ap₂ (λ (d : TableDef) (n : ℕ). d ∷ drop n defs) (sym at) next))
  where
    all_in_turn : (es xs ys : List NameEntry) → insert_all bytes_eq es (xs ++ ys) ≡ insert_all bytes_eq (insert_all bytes_eq es xs) ys
    all_in_turn es [] ys = refl
    all_in_turn es (x ∷ xs) ys = all_in_turn (insert_entry bytes_eq es x.0 x.1) xs ys

-- ---- a definition in the place of another, and the way back

module _ {S : Type 0} (defs : Defs) (place : ℕ) (new : TableDef) (names : IndexMap (List ℕ) NamedPlace S) (is : names.entries ≡ names_from 0 defs) (within : place < length defs) where
  pub now_named : (o : Option (IndexMap (List ℕ) NamedPlace S)) → IfNone o ((d : TableDef) → HaveSameNames (get_or defs place d) new) → IfSome o (λ given. given.entries ≡ names_from 0 (slice_set defs place new))
      → (unwrap_or o names).entries ≡ names_from 0 (slice_set defs place new)
  now_named None kept given = is ∙ sym (after_replace 0 place new defs within kept)
  now_named (Some m) kept given = given

  module _ (old : TableDef) (there : old ≡ get_or defs place old) where
    pub same_back : (o : Option (IndexMap (List ℕ) NamedPlace S)) → IfNone o ((d : TableDef) → HaveSameNames (get_or defs place d) new)
        → IfNone (option_map (λ (m : IndexMap (List ℕ) NamedPlace S). names) o) ((d : TableDef) → HaveSameNames (get_or (slice_set defs place new) place d) old)
    same_back None kept =
        let h : HaveSameNames old new = subst (λ (d : TableDef). HaveSameNames d new) (sym there) (kept old) in
        let back : HaveSameNames new old = record { id = sym h.id; name = sym h.name; history = sym h.history; view = sym h.view } in
        λ d. subst (λ (e : TableDef). HaveSameNames e old) (sym (get_or-set_same defs place new d within)) back
    same_back (Some m) kept = tt

    pub names_back : (o : Option (IndexMap (List ℕ) NamedPlace S))
        → IfSome (option_map (λ (m : IndexMap (List ℕ) NamedPlace S). names) o) (λ given. given.entries ≡ names_from 0 (slice_set (slice_set defs place new) place old))
    names_back None = tt
    names_back (Some m) = is ∙ ap (names_from 0) (sym (set-set defs place new old ∙ ap (slice_set defs place) there ∙ set-get_or defs place old))

-- ---- a table that passes the checks has new names

four_passed : {A : Type 0} (a b c d : Bool) (e f g h : Refusal) (y x : A) → refused_if a e (refused_if b f (refused_if c g (refused_if d h (Ok y)))) ≡ Ok x → (a ≡ false) × (y ≡ x)
four_passed true b c d e f g h y x k = cc
four_passed false true c d e f g h y x k = cc
four_passed false false true d e f g h y x k = cc
four_passed false false false true e f g h y x k = cc
four_passed false false false false e f g h y x k = (refl, cc)

five_false : (a b c d e : Bool) → (a || b || c || d || e) ≡ false → (a ≡ false) × (b ≡ false)
five_false true b c d e k = cc
five_false false true c d e k = cc
five_false false false c d e k = (refl, refl)

pub new_names : (defs : Defs) (c : CreateTable) (def : TableDef) → create_check defs c ≡ Ok def → HasNewNames defs def
unfolding create_check
new_names defs c def e =
    let made : TableDef = table_def (next_id defs) c in
    let p = four_passed (has_bad_name defs made c.key) (exceeds_limit defs made c.key) _ (has_null_key made) NameConflict LimitExceeded NoSuchColumn NullNotAllowed made def e in
    let q = five_false (repeats (table_names made)) (list_any (has_name (all_names defs)) (table_names made)) (repeats (names_of made.columns)) (repeats c.key) (list_any (λ x. is_ledger_name x.name) made.columns) p.0 in
    subst (HasNewNames defs) p.1 (record { unused = q.1; apart = q.0 })
