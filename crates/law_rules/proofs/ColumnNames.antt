-- Each statement keeps that the names of a table's columns are new at their places.
use Rattle.std.proofs.Common.{◌≡◌, ◌≤◌, ◌<◌, ◌⊎◌, ℕ, ℤ, zero, suc, pos, ◌+◌, ◌*◌, inl, inr, refl, sym, ap, subst, ◌∙◌, arith, Bool, true, false, List, [], ◌∷◌, ◌++◌, map, length, Ok, Some, filter, append_assoc, append-nil}
use Rattle.std.proofs.lemmas.Bool.{eqb-true, eqb-false, eq-eqb, leb-false, lt-ltb}
use Rattle.std.proofs.lemmas.Int.{ints}
use Rattle.std.proofs.lemmas.List.Sorted.{IsPermutation-refl, IsPermutation-sym, IsPermutation-trans, IsPermutation-middle}
use Rattle.std.proofs.lemmas.Option.{slice_get_within}
use Rattle.std.proofs.lemmas.Map.Lookups.{exact_bytes}
use Rattle.std.proofs.lemmas.Slice.Eq.{bytes_eq-Decides}
use Rattle.std.specs.Str.{bytes_eq}
use Rattle.std.specs.Cmp.{int_ranks}
use Rattle.std.specs.Cmp.Lexicographic.{slice_cmp}
use Rattle.std.specs.declared.cmp.Ordering.{Ordering}
use Rattle.std.specs.declared.cmp.Ordering.TheVariants.{Less, Equal, Greater}
use Rattle.std.specs.Ordering.{MatchOrdering, nat_cmp, int_cmp, int_eq, is_eq, is_lt}
use Rattle.std.specs.Prelude.{◌&&◌, ◌==◌, ◌<ℤ◌, not, nat_lt, if◌then◌else◌, slice_get, slice_set}
use Rattle.std.specs.List.{AllByRecursion, list_all, list_any}
use Rattle.std.specs.List.Sorted.{IsPermutation}
use Rattle.sql_value.specs.declared.column.ColumnDef.{ColumnDef}
use Rattle.sql_value.specs.declared.value.Value.{Value}
use Rattle.sql_value.specs.declared.value.Value.TheVariants.{Text}
use Rattle.sql_value.specs.Order.{value_cmp}
use Rattle.sql_types.specs.declared.statement.CreateTable.{CreateTable}
use Rattle.sql_types.specs.declared.table.IndexDef.{IndexDef}
use Rattle.sql_types.specs.declared.table.TableDef.{TableDef}
use Rattle.spec_model.specs.Alter.{WithColumn, column_to_add, dropped_column, added_to, dropped_from, dropped_table}
use Rattle.spec_model.specs.Catalog.{Defs}
use Rattle.spec_model.specs.Columns.{names_of}
use Rattle.spec_model.specs.Create.{create_check, with_index}
use Rattle.spec_model.specs.Keys.{value_at}
use Rattle.spec_model.specs.Limits.{max_columns}
use Rattle.spec_model.specs.Lists.{has_name, repeats, numbered}
use Rattle.spec_model.specs.Rows.{Row}
use Rattle.spec_model.specs.SystemTables.{table_row, column_row, column_rows, index_row, index_rows, changed_column_row}
use Rattle.spec_history.specs.Lists.{In}
use Rattle.law_frame.proofs.Alls.{all_weaker, all_filter, all_append}
use Rattle.law_frame.proofs.Alterations.{Added, ColumnDropped}
use Rattle.law_frame.proofs.SameKeys.{or_false}
use Rattle.law_journal.proofs.Created.{Created, created}
use Rattle.law_journal.proofs.DefLists.{IsOnly, redef}
use Rattle.law_catalog_rows.specs.Encoded.{IsAmong, is_about, about}
use Rattle.law_catalog_rows.specs.Formed.{Formed}
use Rattle.law_catalog_rows.specs.Latest.{number_at}
use Rattle.law_catalog_rows.proofs.CountingUp.{is_number, other_number}
use Rattle.law_catalog_rows.proofs.Defs.{HasId, has_id, of_among}
use Rattle.law_catalog_rows.proofs.Forms.{Made, made}
use Rattle.law_catalog_rows.proofs.Orders.{filtered}
use Rattle.spec_rules.specs.Places.{EventPlace, PlacedRow, stands_before}
use Rattle.spec_rules.specs.Rows.{is_column_row, is_about_table, columns_about, same_value, in_force}
use Rattle.spec_rules.specs.ColumnNames.{same_column_name, column_names_are_new}
use Rattle.law_rules.specs.Steps.{Catalog, all_defs, nothing, rows_alone, placed_from, Entered, Stands}
use Rattle.law_rules.proofs.InOrder.{Before, before_is, both, or_second}
use Rattle.law_rules.proofs.Kept.{Around, ColumnEntered, StepsKeep}
use Rattle.law_rules.proofs.NamesKept.{only_one}
use Rattle.law_rules.proofs.Said.{IsOf, IsFree, Said, NewSaying, said_in_order, said_with, none_clashes}

-- ---- names

differ : (a b : List ℕ) → bytes_eq a b ≡ false → a ≡ b → ⊥
differ a b e same = let t : bytes_eq a b ≡ true = (bytes_eq-Decides a b).1 same in cc

unlike : (a b : List ℕ) → (a ≡ b → ⊥) → same_value (Text a) (Text b) ≡ false
unfolding value_cmp
unlike a b ne = here (slice_cmp nat_cmp a b) refl
  where
    here : (o : Ordering) → slice_cmp nat_cmp a b ≡ o → is_eq o ≡ false
    here Less e = refl
    here Equal e = absurd (ne (exact_bytes a b e))
    here Greater e = refl

-- the name that the row of a column says
abbrev name_said : PlacedRow → Value
name_said r = value_at r.row 3

-- columns by their ordinals, from this one on
abbrev named_from : ℕ → List ColumnDef → List (ℕ × Value)
named_from n cs = map (λ (p : ℕ × ColumnDef). (p.0, Text p.1.name)) (numbered n cs)

abbrev Fresh : List ℕ → ℕ × Value → Type 0
Fresh name p = same_value (Text name) p.1 ≡ false

all_fresh : (name : List ℕ) (n : ℕ) (cs : List ColumnDef) → has_name (names_of cs) name ≡ false → AllByRecursion (Fresh name) (named_from n cs)
all_fresh name n [] e = tt
all_fresh name n (c ∷ cs) e =
    let p = or_false (bytes_eq c.name name) (has_name (names_of cs) name) e in
    (unlike name c.name (λ same. differ c.name name p.0 (sym same)), all_fresh name (n + 1) cs p.1)

-- ---- one column more, and another one in a place

named_more : (n : ℕ) (cs : List ColumnDef) (c : ColumnDef) → named_from n (cs ++ c ∷ []) ≡ named_from n cs ++ (n + length cs, Text c.name) ∷ []
named_more n [] c = let same : n ≡ n + 0 = omega arith in ap (λ (m : ℕ). (m, Text c.name) ∷ []) same
named_more n (d ∷ cs) c =
    let same : n + 1 + length cs ≡ n + suc (length cs) = omega arith in
    ap (λ (ps : List (ℕ × Value)). (n, Text d.name) ∷ ps) (named_more (n + 1) cs c ∙ ap (λ (m : ℕ). named_from (n + 1) cs ++ (m, Text c.name) ∷ []) same)

abbrev OtherOrIn : ℕ → List (ℕ × Value) → ℕ × Value → Type 0
OtherOrIn n M p = (p.0 ≡ n) ⊎ In p M

others_more : (n : ℕ) (q : ℕ × Value) (M ps : List (ℕ × Value)) → AllByRecursion (OtherOrIn n M) ps → AllByRecursion (OtherOrIn n (q ∷ M)) ps
others_more n q M ps h = all_weaker (OtherOrIn n M) (OtherOrIn n (q ∷ M)) (λ p k. elim k [ inl e ↦ inl e | inr i ↦ inr (inr i) ]) ps h

all_still : (n : ℕ) (xs ys : List (ℕ × Value)) → AllByRecursion (OtherOrIn n (xs ++ ys)) xs
all_still n [] ys = tt
all_still n (x ∷ xs) ys = (inr (inl refl), others_more n x (xs ++ ys) xs (all_still n xs ys))

at_end : (x : ℕ × Value) (xs : List (ℕ × Value)) → In x (xs ++ x ∷ [])
at_end x [] = inl refl
at_end x (y ∷ ys) = inr (at_end x ys)

set_others : (n i : ℕ) (cs : List ColumnDef) (d : ColumnDef) → AllByRecursion (OtherOrIn (n + i) (named_from n (slice_set cs i d))) (named_from n cs)
set_others n i [] d = tt
set_others n zero (c ∷ cs) d = (inl (omega arith), others_more (n + 0) (n, Text d.name) (named_from (n + 1) cs) (named_from (n + 1) cs) (subst (λ (M : List (ℕ × Value)). AllByRecursion (OtherOrIn (n + 0) M) (named_from (n + 1) cs)) (append-nil (named_from (n + 1) cs)) (all_still (n + 0) (named_from (n + 1) cs) [])))
set_others n (suc i) (c ∷ cs) d = (
  inr (inl refl),
  others_more (n + suc i) (n, Text c.name) (named_from (n + 1) (slice_set cs i d)) (named_from (n + 1) cs)
      (subst (λ (m : ℕ). AllByRecursion (OtherOrIn m (named_from (n + 1) (slice_set cs i d))) (named_from (n + 1) cs)) (omega arith) (set_others (n + 1) i cs d)),
)

set_there : (n i : ℕ) (cs : List ColumnDef) (c d : ColumnDef) → slice_get cs i ≡ Some c → In (n + i, Text d.name) (named_from n (slice_set cs i d))
set_there n i [] c d e = cc
set_there n zero (b ∷ cs) c d e = let same : n ≡ n + 0 = omega arith in inl (ap (λ (m : ℕ). (m, Text d.name)) same)
set_there n (suc i) (b ∷ cs) c d e = inr (subst (λ (m : ℕ). In (m, Text d.name) (named_from (n + 1) (slice_set cs i d))) (omega arith) (set_there (n + 1) i cs c d e))

-- ---- the rows about the columns of a table

abbrev pub columns_of : ℕ → List PlacedRow → List PlacedRow
columns_of id items = filter is_column_row (filter (is_about_table (pos id)) items)

pub in_order : (id : ℕ) (xs ys : List PlacedRow) → IsPermutation xs ys → IsPermutation (columns_of id xs) (columns_of id ys)
in_order id xs ys h = filtered is_column_row (filter (is_about_table (pos id)) xs) (filter (is_about_table (pos id)) ys) (filtered (is_about_table (pos id)) xs ys h)

-- no row of a column of this table
abbrev pub IsNone : ℕ → Row → Type 0
IsNone id row = is_about (pos id) row ≡ true → is_lt (int_cmp (number_at 1 row) (pos 1000)) ≡ false

pub record IsOne (id : ℕ) (row : Row) : Type 0 where
  pub about : is_about (pos id) row ≡ true
  pub column : is_lt (int_cmp (number_at 1 row) (pos 1000)) ≡ true

pub none_more : (id m j : ℕ) (rows : List Row) (xs : List PlacedRow) → AllByRecursion (IsNone id) rows → columns_of id (placed_from m j rows ++ xs) ≡ columns_of id xs
none_more id m j [] xs h = refl
none_more id m j (r ∷ rs) xs h = here (is_about (pos id) r) refl (filter (is_about_table (pos id)) (placed_from m (j + 1) rs ++ xs)) (none_more id m (j + 1) rs xs h.1)
  where
    here : (b : Bool) → is_about (pos id) r ≡ b → (rest : List PlacedRow) → filter is_column_row rest ≡ columns_of id xs → filter is_column_row (if b then record { place = (m, j); row = r } ∷ rest else rest) ≡ columns_of id xs
    here true e rest more = ap (λ (c : Bool). if c then record { place = (m, j); row = r } ∷ filter is_column_row rest else filter is_column_row rest) (h.0 e) ∙ more
    here false e rest more = more

pub one_more : (id : ℕ) (r : PlacedRow) (xs : List PlacedRow) → IsOne id r.row → columns_of id (r ∷ xs) ≡ r ∷ columns_of id xs
one_more id r xs h = rw h.about (rw h.column refl)

pub all_more : (id m j : ℕ) (rows : List Row) (xs : List PlacedRow) → AllByRecursion (IsOne id) rows → columns_of id (placed_from m j rows ++ xs) ≡ placed_from m j rows ++ columns_of id xs
all_more id m j [] xs h = refl
all_more id m j (r ∷ rs) xs h =
    one_more id (record { place = (m, j); row = r }) (placed_from m (j + 1) rs ++ xs) h.0 ∙ ap (λ (l : List PlacedRow). record { place = (m, j); row = r } ∷ l) (all_more id m (j + 1) rs xs h.1)

pub is_less : (n : ℕ) → n < 1000 → is_lt (int_cmp (pos n) (pos 1000)) ≡ true
is_less n lt = here (int_cmp (pos n) (pos 1000)) (int_ranks (pos n) (pos 1000))
  where
    here : (o : Ordering) → MatchOrdering o (pos n <ℤ pos 1000) (pos n ≡ pos 1000) (pos 1000 <ℤ pos n) → is_lt o ≡ true
    here Less m = refl
    here Equal m = absurd (omega (arith, ints, m, lt))
    here Greater m = absurd (omega (arith, ints, m, lt))

pub isnt_less : (n : ℕ) → 1000 ≤ n → is_lt (int_cmp (pos n) (pos 1000)) ≡ false
isnt_less n le = here (int_cmp (pos n) (pos 1000)) (int_ranks (pos n) (pos 1000))
  where
    here : (o : Ordering) → MatchOrdering o (pos n <ℤ pos 1000) (pos n ≡ pos 1000) (pos 1000 <ℤ pos n) → is_lt o ≡ false
    here Less m = absurd (omega (arith, ints, m, le))
    here Equal m = refl
    here Greater m = refl

pub own : (id : ℕ) → int_eq (pos id) (pos id) ≡ true
own id = is_number (pos id) (pos id) refl

other : (id k : ℕ) → (id ≡ k → ⊥) → int_eq (pos id) (pos k) ≡ false
other id k ne = other_number (pos id) (pos k) (λ e. ne (omega (arith, ints, e)))

parts_none : (k id g n : ℕ) (name : List ℕ) (os : List ℕ) → 1 ≤ g → AllByRecursion (IsNone k) (map (index_row id g name) (numbered n os))
parts_none k id g n name [] le = tt
parts_none k id g n name (o ∷ os) le = ((λ about. isnt_less (1000 * g + n) (omega (arith, le))), parts_none k id g (n + 1) name os le)

pub index_none : (k : ℕ) (def : TableDef) (i : IndexDef) → AllByRecursion (IsNone k) (index_rows def.id (length def.indexes + 1) i)
unfolding index_rows
index_none k def i = parts_none k def.id (length def.indexes + 1) 1 i.name i.ordinals (omega arith)

pub columns_none : (k id n : ℕ) (cs : List ColumnDef) → (id ≡ k → ⊥) → AllByRecursion (IsNone k) (map (column_row id) (numbered n cs))
columns_none k id n [] ne = tt
columns_none k id n (c ∷ cs) ne = ((λ about. absurd (let no = other id k ne in cc)), columns_none k id (n + 1) cs ne)

pub columns_one : (id n : ℕ) (cs : List ColumnDef) → n + length cs ≤ 1000 → AllByRecursion (IsOne id) (map (column_row id) (numbered n cs))
columns_one id n [] le = tt
columns_one id n (c ∷ cs) le = (record { about = own id; column = is_less n (omega (arith, le)) }, columns_one id (n + 1) cs (omega (arith, le)))

pub changed_none : (k change : ℕ) (def : TableDef) (c : ℕ × ColumnDef) → (def.id ≡ k → ⊥) → IsNone k (changed_column_row change def c)
unfolding changed_column_row
changed_none k change def c ne about = absurd (let no = other def.id k ne in cc)

pub changed_one : (change : ℕ) (def : TableDef) (c : ℕ × ColumnDef) → c.0 < 1000 → IsOne def.id (changed_column_row change def c)
unfolding changed_column_row
changed_one change def c lt = record { about = own def.id; column = is_less c.0 lt }

changed_says : (p : EventPlace) (change : ℕ) (def : TableDef) (c : ℕ × ColumnDef) → let r : PlacedRow = record { place = p; row = changed_column_row change def c } in IsOf 1 c.0 r × (name_said r ≡ Text c.1.name)
unfolding changed_column_row
changed_says p change def c = (refl, refl)

-- ---- what is said of the columns of tables

abbrev SaidOf : List PlacedRow → TableDef → Type 0
SaidOf items d = Said 1 name_said same_value (columns_of d.id items) (named_from 1 d.columns)

abbrev pub ColumnNamesSaid : Catalog → Type 0
ColumnNamesSaid x = AllByRecursion (SaidOf x.rows.items) x.defs

-- rows of no column of the table
with_none : (d : TableDef) (m j : ℕ) (rows : List Row) (xs ys : List PlacedRow) → IsPermutation ys (placed_from m j rows ++ xs) → AllByRecursion (IsNone d.id) rows → SaidOf xs d → SaidOf ys d
with_none d m j rows xs ys same none h =
    said_in_order 1 name_said same_value (columns_of d.id xs) (columns_of d.id ys)
    (subst (IsPermutation (columns_of d.id ys)) (none_more d.id m j rows xs none) (in_order d.id ys (placed_from m j rows ++ xs) same)) (named_from 1 d.columns) h

all_before : (id : ℕ) (r : PlacedRow) (xs : List PlacedRow) → AllByRecursion (λ x. Before x r) xs → AllByRecursion (λ x. Before x r) (columns_of id xs)
all_before id r xs h = all_filter (λ x. Before x r) is_column_row (filter (is_about_table (pos id)) xs) (all_filter (λ x. Before x r) (is_about_table (pos id)) xs h)

-- a row of a column of the table
with_one : (old new : TableDef) → new.id ≡ old.id → (r : PlacedRow) (xs ys : List PlacedRow) → IsPermutation ys (r ∷ xs) → AllByRecursion (λ x. Before x r) xs → IsOne old.id r.row
    → (n : ℕ) (name : Value) → IsOf 1 n r → name_said r ≡ name → NewSaying 1 name_said same_value (named_from 1 old.columns) n name (named_from 1 new.columns) → SaidOf xs old → SaidOf ys new
with_one old new id r xs ys same past one n name of has step h =
    let with_row : Said 1 name_said same_value (r ∷ columns_of old.id xs) (named_from 1 new.columns) =
    said_with 1 name_said same_value (columns_of old.id xs) (named_from 1 old.columns) r (all_before old.id r xs past) n name (named_from 1 new.columns) of has step h in
    let perm : IsPermutation (columns_of old.id ys) (r ∷ columns_of old.id xs) = subst (IsPermutation (columns_of old.id ys)) (one_more old.id r xs one) (in_order old.id ys (r ∷ xs) same) in
    subst (λ (i : ℕ). Said 1 name_said same_value (columns_of i ys) (named_from 1 new.columns)) (sym id)
    (said_in_order 1 name_said same_value (r ∷ columns_of old.id xs) (columns_of old.id ys) perm (named_from 1 new.columns) with_row)

-- ---- definitions

pub redef_all : (P Q : TableDef → Type 0) (old new : TableDef) → new.id ≡ old.id → (P old → Q new) → ((d : TableDef) → (new.id ≡ d.id → ⊥) → P d → Q d) → (ds : Defs) → AllByRecursion (IsOnly old) ds → AllByRecursion P ds → AllByRecursion Q (redef new ds)
redef_all P Q old new id f g [] only h = tt
redef_all P Q old new id f g (d ∷ ds) only h = (here (d.id == new.id) refl, redef_all P Q old new id f g ds only.1 h.1)
  where
    here : (b : Bool) → (d.id == new.id) ≡ b → Q (if b then new else d)
    here true e = f (subst P (only.0 (eqb-true d.id new.id e ∙ id)) h.0)
    here false e = g d (λ same. eqb-false d.id new.id e (sym same)) h.0

-- ---- CREATE TABLE

pub before_next : (r : PlacedRow) (m j : ℕ) → stands_before r.place (m, j) ≡ true → stands_before r.place (m, j + 1) ≡ true
before_next r m j e = elim (before_is r.place (m, j) e) [
  | inl lt ↦ rw (lt-ltb r.place.0 m lt) refl
  | inr p ↦ or_second (nat_lt r.place.0 m) ((r.place.0 == m) && nat_lt r.place.1 (j + 1)) (both (r.place.0 == m) (nat_lt r.place.1 (j + 1)) (eq-eqb r.place.0 m p.0) (lt-ltb r.place.1 (j + 1) (omega (arith, p.1))))
]

pub itself_next : (m j : ℕ) → stands_before (m, j) (m, j + 1) ≡ true
itself_next m j = or_second (nat_lt m m) ((m == m) && nat_lt j (j + 1)) (both (m == m) (nat_lt j (j + 1)) (eq-eqb m m refl) (lt-ltb j (j + 1) (omega arith)))

abbrev FreshIn : List (ℕ × Value) → ColumnDef → Type 0
FreshIn N c = AllByRecursion (Fresh c.name) N

fresh_behind : (name : List ℕ) (n : ℕ) (N : List (ℕ × Value)) (cs : List ColumnDef) → has_name (names_of cs) name ≡ false → AllByRecursion (FreshIn N) cs → AllByRecursion (FreshIn (N ++ (n, Text name) ∷ [])) cs
fresh_behind name n N [] e h = tt
fresh_behind name n N (c ∷ cs) e h =
    let p = or_false (bytes_eq c.name name) (has_name (names_of cs) name) e in
    (all_append (Fresh c.name) N ((n, Text name) ∷ []) h.0 (unlike c.name name (differ c.name name p.0), tt), fresh_behind name n N cs p.1 h.1)

module _ (id m : ℕ) where
  record Entering (n j : ℕ) (cs : List ColumnDef) (C : List PlacedRow) (N : List (ℕ × Value)) : Type 0 where
    rows : List PlacedRow
    same : IsPermutation rows (placed_from m j (map (column_row id) (numbered n cs)) ++ C)
    said : Said 1 name_said same_value rows (N ++ named_from n cs)

  said_created : (n j : ℕ) (cs : List ColumnDef) (C : List PlacedRow) (N : List (ℕ × Value)) → AllByRecursion (λ (r : PlacedRow). stands_before r.place (m, j) ≡ true) C → AllByRecursion (FreshIn N) cs → repeats (names_of cs) ≡ false
      → Said 1 name_said same_value C N → Entering n j cs C N
  said_created n j [] C N past fresh differ h = record { rows = C; same = IsPermutation-refl C; said = subst (Said 1 name_said same_value C) (sym (append-nil N)) h }
  said_created n j (c ∷ cs) C N past fresh differ h =
      let row : PlacedRow = record { place = (m, j); row = column_row id (n, c) } in
      let q = or_false (has_name (names_of cs) c.name) (repeats (names_of cs)) differ in
      let M : List (ℕ × Value) = N ++ (n, Text c.name) ∷ [] in
      let one : Said 1 name_said same_value (row ∷ C) M = said_with 1 name_said same_value C N row past n (Text c.name) M refl refl (record { fresh = fresh.0; others = all_still n N ((n, Text c.name) ∷ []); there = at_end (n, Text c.name) N }) h in
      let more : Entering (n + 1) (j + 1) cs (row ∷ C) M =
      said_created (n + 1) (j + 1) cs (row ∷ C) M (itself_next m j, all_weaker (λ (r : PlacedRow). stands_before r.place (m, j) ≡ true) (λ (r : PlacedRow). stands_before r.place (m, j + 1) ≡ true) (λ r e. before_next r m j e) C past)
      (fresh_behind c.name n N cs q.0 fresh.1) q.1 one in
      record {
        rows = more.rows;
        same = IsPermutation-trans more.rows (placed_from m (j + 1) (map (column_row id) (numbered (n + 1) cs)) ++ row ∷ C) (row ∷ placed_from m (j + 1) (map (column_row id) (numbered (n + 1) cs)) ++ C) more.same
            (IsPermutation-middle (placed_from m (j + 1) (map (column_row id) (numbered (n + 1) cs))) row C);
        said = subst (Said 1 name_said same_value more.rows) (append_assoc N ((n, Text c.name) ∷ []) (named_from (n + 1) cs)) more.said;
      }

none_about : (t : ℤ) (rows : List PlacedRow) → about t (rows_alone rows) ≡ [] → filter (is_about_table t) rows ≡ []
none_about t [] e = refl
none_about t (r ∷ rs) e = here (is_about t r.row) e (none_about t rs)
  where
    here : (b : Bool) → (if b then r.row ∷ about t (rows_alone rs) else about t (rows_alone rs)) ≡ [] → (about t (rows_alone rs) ≡ [] → filter (is_about_table t) rs ≡ []) → (if b then r ∷ filter (is_about_table t) rs else filter (is_about_table t) rs) ≡ []
    here true k more = cc
    here false k more = more k

nothing_fresh : (cs : List ColumnDef) → AllByRecursion (FreshIn []) cs
nothing_fresh [] = tt
nothing_fresh (c ∷ cs) = (tt, nothing_fresh cs)

module _ (p : EventPlace) (x y : Catalog) (around : Around p x y) where
  abbrev V : List PlacedRow
  V = x.rows.items

  others_kept : (new : TableDef) (ds : Defs) → ((d : TableDef) → IsAmong d ds → d.id < new.id) → (m j : ℕ) → IsPermutation y.rows.items (placed_from m j (column_rows new) ++ V) → AllByRecursion (SaidOf V) ds → AllByRecursion (SaidOf y.rows.items) ds
  unfolding column_rows
  others_kept new [] below m j same h = tt
  others_kept new (d ∷ ds) below m j same h = (
    with_none d m j (map (column_row new.id) (numbered 1 new.columns)) V y.rows.items same
        (columns_none d.id new.id 1 new.columns (λ e. (let lt = below d (inl refl) in omega (arith, e, lt)))) h.0,
    others_kept new ds (λ e among. below e (inr among)) m j same h.1,
  )

  created_said : (c : CreateTable) (def : TableDef) → create_check (all_defs x) c ≡ Ok def → Entered p (table_row def ∷ []) (column_rows def) x y → y.defs ≡ x.defs ++ def ∷ [] → ColumnNamesSaid x → ColumnNamesSaid y
  unfolding column_rows
  created_said c def e entered defs h =
      let ds : Defs = x.defs in
      let k : Made (all_defs x) def = made (all_defs x) c def e in
      let f : Created (all_defs x) def = created (all_defs x) c def e in
      let rows : List Row = map (column_row def.id) (numbered 1 def.columns) in
      let below : (d : TableDef) → IsAmong d ds → d.id < def.id = λ d among. (let r : HasId 3 ds d = has_id 3 ds around.before.ids d among in omega (arith, r.below, f.id)) in
      let none : about (pos def.id) (rows_alone V) ≡ [] = (around.before.encoded.others (pos def.id) (λ d among e. (let lt = below d among in omega (arith, ints, e, lt)))).1 in
      let empty : columns_of def.id V ≡ [] = ap (filter is_column_row) (none_about (pos def.id) V none) in
      let made_rows : Entering def.id p.0 1 (p.1 + 1) def.columns [] [] = said_created def.id p.0 1 (p.1 + 1) def.columns [] [] tt (nothing_fresh def.columns) k.formed.column_names (record { said = tt; free = tt }) in
      let perm : IsPermutation (columns_of def.id y.rows.items) (placed_from p.0 (p.1 + 1) rows ++ []) =
      subst (λ (l : List PlacedRow). IsPermutation (columns_of def.id y.rows.items) (placed_from p.0 (p.1 + 1) rows ++ l)) empty
      (subst (IsPermutation (columns_of def.id y.rows.items)) (all_more def.id p.0 (p.1 + 1) rows V (columns_one def.id 1 def.columns (omega (arith, f.count)))) (in_order def.id y.rows.items (placed_from p.0 (p.1 + 1) rows ++ V) entered.items)) in
      let own_said : SaidOf y.rows.items def =
      said_in_order 1 name_said same_value made_rows.rows (columns_of def.id y.rows.items)
      (IsPermutation-trans (columns_of def.id y.rows.items) (placed_from p.0 (p.1 + 1) rows ++ []) made_rows.rows perm (IsPermutation-sym made_rows.rows (placed_from p.0 (p.1 + 1) rows ++ []) made_rows.same)) (named_from 1 def.columns) made_rows.said in
      subst (AllByRecursion (SaidOf y.rows.items)) (sym defs) (all_append (SaidOf y.rows.items) ds (def ∷ []) (others_kept def ds below p.0 (p.1 + 1) entered.items h) (own_said, tt))

  -- ---- rows of one table

  old_only : (old : TableDef) → IsAmong old x.defs → AllByRecursion (IsOnly old) x.defs
  old_only old among = only_one 3 old x.defs around.before.ids among

  -- of no column
  same_said : (old new : TableDef) → IsAmong old x.defs → new.id ≡ old.id → new.columns ≡ old.columns → (m j : ℕ) (rows : List Row) → ((k : ℕ) → AllByRecursion (IsNone k) rows) → IsPermutation y.rows.items (placed_from m j rows ++ V)
      → y.defs ≡ redef new x.defs → ColumnNamesSaid x → ColumnNamesSaid y
  same_said old new among id columns m j rows none same defs h =
      subst (AllByRecursion (SaidOf y.rows.items)) (sym defs)
      (redef_all (SaidOf V) (SaidOf y.rows.items) old new id
      (λ said. subst (λ (i : ℕ). Said 1 name_said same_value (columns_of i y.rows.items) (named_from 1 new.columns)) (sym id)
      (subst (λ (cs : List ColumnDef). Said 1 name_said same_value (columns_of old.id y.rows.items) (named_from 1 cs)) (sym columns) (with_none old m j rows V y.rows.items same (none old.id) said)))
      (λ d ne said. with_none d m j rows V y.rows.items same (none d.id) said) x.defs (old_only old among) h)

  -- of a column
  changed_said : (old : TableDef) (w : WithColumn) → IsAmong old x.defs → w.0.id ≡ old.id → w.1.0 < 1000 → (change : ℕ) → ColumnEntered p change w x y
      → NewSaying 1 name_said same_value (named_from 1 old.columns) w.1.0 (Text w.1.1.name) (named_from 1 w.0.columns) → ColumnNamesSaid x → ColumnNamesSaid y
  changed_said old w among id few change entered step h =
      let row : Row = changed_column_row change w.0 w.1 in
      let new : PlacedRow = record { place = (p.0, p.1 + 0); row = row } in
      let says = changed_says (p.0, p.1 + 0) change w.0 w.1 in
      let past : AllByRecursion (λ r. Before r new) V = subst (λ (n : ℕ). AllByRecursion (λ (r : PlacedRow). stands_before r.place (p.0, n) ≡ true) V) (omega arith) around.earlier.items in
      let one : IsOne old.id row = subst (λ (i : ℕ). IsOne i row) id (changed_one change w.0 w.1 few) in
      subst (AllByRecursion (SaidOf y.rows.items)) (sym entered.defs)
      (redef_all (SaidOf V) (SaidOf y.rows.items) old w.0 id
      (λ said. with_one old w.0 id new V y.rows.items entered.rows.items past one w.1.0 (Text w.1.1.name) says.0 says.1 step said)
      (λ d ne said. with_none d p.0 (p.1 + 0) (row ∷ []) V y.rows.items entered.rows.items (changed_none d.id change w.0 w.1 ne, tt) said) x.defs (old_only old among) h)

  added_said : (table : List ℕ) (c : ColumnDef) (w : WithColumn) (a : Added (all_defs x) table c w) → Stands x a.found.0 → (change : ℕ) → ColumnEntered p change (added_to a.found.0 c) x y → ColumnNamesSaid x → ColumnNamesSaid y
  added_said table c w a stands change entered h =
      let old : TableDef = a.found.0 in
      let cs : List ColumnDef = old.columns in
      let M : List (ℕ × Value) = named_from 1 cs ++ (suc (length cs), Text c.name) ∷ [] in
      let ordinal : 1 + length cs ≡ suc (length cs) = omega arith in
      let is : M ≡ named_from 1 (cs ++ column_to_add c ∷ []) = sym (named_more 1 cs (column_to_add c) ∙ ap (λ (n : ℕ). named_from 1 cs ++ (n, Text c.name) ∷ []) ordinal) in
      let room : suc (length cs) < 1000 = (let lt = leb-false max_columns (length cs) a.room in omega (arith, lt)) in
      changed_said old (added_to old c) stands.among refl room change entered
      (subst (NewSaying 1 name_said same_value (named_from 1 cs) (suc (length cs)) (Text c.name)) is
      (record { fresh = all_fresh c.name 1 cs a.free; others = all_still (suc (length cs)) (named_from 1 cs) ((suc (length cs), Text c.name) ∷ []); there = at_end (suc (length cs), Text c.name) (named_from 1 cs) })) h

  dropped_said : (table name : List ℕ) (w : WithColumn) (d : ColumnDropped (all_defs x) table name w) → Stands x d.found.0 → (change : ℕ) → ColumnEntered p change (dropped_from d.found.0 d.column) x y
      → AllByRecursion (λ (t : TableDef). length t.columns ≤ 64) x.defs → ColumnNamesSaid x → ColumnNamesSaid y
  dropped_said table name w d stands change entered few h =
      let old : TableDef = d.found.0 in
      let cs : List ColumnDef = old.columns in
      let i : ℕ = d.column.0 in
      let new : ColumnDef = dropped_column (suc i) d.column.1 in
      let count : length cs ≤ 64 = of_among (λ (t : TableDef). length t.columns ≤ 64) x.defs few old stands.among in
      let within : suc i < 1000 = (let lt = slice_get_within cs i d.column.1 d.live.at in omega (arith, lt, count)) in
      let ordinal : 1 + i ≡ suc i = omega arith in
      changed_said old (dropped_from old d.column) stands.among refl within change entered
      (record {
        fresh = all_fresh new.name 1 cs d.free;
        others = subst (λ (n : ℕ). AllByRecursion (OtherOrIn n (named_from 1 (slice_set cs i new))) (named_from 1 cs)) ordinal (set_others 1 i cs new);
        there = subst (λ (n : ℕ). In (n, Text new.name) (named_from 1 (slice_set cs i new))) ordinal (set_there 1 i cs d.column.1 new d.live.at);
      }) h

  gone_columns : (old : TableDef) → ((dropped_table old).columns ≡ old.columns) × ((dropped_table old).id ≡ old.id)
  unfolding dropped_table
  gone_columns old = (refl, refl)

pub column_names_kept : StepsKeep ColumnNamesSaid
column_names_kept = record {
  table_created = λ p x y around c def e entered defs h. created_said p x y around c def e entered defs h;
  index_created = λ p x y around c i e stands entered defs h.
      same_said p x y around i.0 (with_index i.0 i.1) stands.among refl refl p.0 (p.1 + 0) (index_rows i.0.id (length i.0.indexes + 1) i.1) (λ k. index_none k i.0 i.1) entered.items defs h;
  column_added = λ p x y around table c w a stands change next entered h. added_said p x y around table c w a stands change entered h;
  column_dropped = λ p x y around table name w d stands change next entered h.
      dropped_said p x y around table name w d stands change entered (all_weaker Formed (λ (t : TableDef). length t.columns ≤ 64) (λ t f. f.count) x.defs around.before.formed) h;
  table_dropped = λ p x y around name def d stands change next entered defs h.
      (let g = gone_columns p x y around d.found.0 in
      same_said p x y around d.found.0 (dropped_table d.found.0) stands.among g.1 g.0 p.0 (p.1 + 1) [] (λ k. tt) entered.items defs h);
}

pub nothing_said : ColumnNamesSaid nothing
nothing_said = tt

-- ---- the rule

pub all_tests : {A : Type 0} (f : A → Bool) (xs : List A) → AllByRecursion (λ r. f r ≡ true) xs → list_all f xs ≡ true
all_tests f [] h = refl
all_tests f (x ∷ xs) h = both (f x) (list_all f xs) h.0 (all_tests f xs h.1)

pub columns_keep_the_rule : (x : Catalog) → ColumnNamesSaid x → (d : TableDef) → IsAmong d x.defs → column_names_are_new (columns_about x.rows (pos d.id)) ≡ true
unfolding column_names_are_new
columns_keep_the_rule x h d among =
    let rows : List PlacedRow = columns_of d.id x.rows.items in
    all_tests (λ r. not (list_any (same_column_name r) (in_force 1 r.place rows))) rows
    (all_weaker (IsFree 1 name_said same_value rows) (λ r. not (list_any (same_column_name r) (in_force 1 r.place rows)) ≡ true)
    (λ r free. ap not (none_clashes 1 name_said same_value rows r free)) rows (of_among (SaidOf x.rows.items) x.defs h d among).free)
