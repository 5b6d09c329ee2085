-- Values of one type that compare as equal are one, where the type stores them; and so are rows.
use Rattle.std.proofs.Common.{◌≡◌, ◌<◌, ◌≤◌, ◌^◌, ◌∙◌, ℤ, ℕ, zero, suc, refl, sym, ap, subst, arith, Bool, true, false, List, [], ◌∷◌, map, Option, Some, None}
use Rattle.std.proofs.lemmas.Bool.Decides.{Decides-eqb, nat_tests}
use Rattle.std.proofs.lemmas.Bool.{eq-eqb}
use Rattle.std.specs.Prelude.{◌↔◌, ◌&&◌, ◌==◌, get_or, if◌then◌else◌, nat_le}
use Rattle.std.specs.Cmp.{tied_itself, int_cmp_total}
use Rattle.std.specs.List.{AllByRecursion}
use Rattle.std.specs.Ordering.{is_eq, int_cmp}
use Rattle.std.specs.declared.cmp.Ordering.{Ordering}
use Rattle.std.specs.declared.cmp.Ordering.TheVariants.{Less, Equal, Greater}
use Rattle.sql_value.specs.declared.sql_type.SqlType.{SqlType}
use Rattle.sql_value.specs.declared.sql_type.SqlType.TheVariants as t
use Rattle.sql_value.specs.declared.value.Value.{Value}
use Rattle.sql_value.specs.declared.value.Value.TheVariants.{Null, Num, Text, Bytes, Date}
use Rattle.sql_value.specs.Number.{raised, has_digits}
use Rattle.sql_value.specs.Order.{value_cmp, value_total, IsSameValue, HasScale}
use Rattle.sql_value.specs.Stored.{is_in_range, is_bit, in_bits, number_stored, is_stored}
use Rattle.sql_value.specs.TypeCodes.{type_code, first_parameter, second_parameter}
use Rattle.sql_value.proofs.Numbers.{cmp_raised}
use Rattle.sql_scalar.proofs.OrderLaws.{equal}
use Rattle.format_image.specs.TypedBytes.{IsTyped}
use Rattle.sql_types.specs.declared.image.TableRows.{TableRows}
use Rattle.sql_types.specs.declared.table.IndexDef.{IndexDef}
use Rattle.sql_types.specs.declared.table.TableDef.{TableDef}
use Rattle.sql_types.specs.declared.version.TypedValue.{TypedValue}
use Rattle.sql_types.specs.declared.version.Version.{Version}
use Rattle.law_catalog_rows.proofs.Alls.{all_map, all_sorted}
use Rattle.format_image.specs.RowBytes.{IsValue, AreValues, IsBaseRow, AreIndexes, IsTable}
use Rattle.format_image.specs.Rows.{Stored, stored_at, index_ordinals, index_row, stored_cmp, index_rows}
use Rattle.spec_verify.specs.Indexes.{same_value, same_row, same_rows, index_holds}
use Rattle.spec_verify.specs.Versions.{same_type}

pub front : (a b : Bool) → (a && b) ≡ true → a ≡ true
front true b e = refl
front false b e = cc

pub rest : (a b : Bool) → (a && b) ≡ true → b ≡ true
rest true b e = e
rest false b e = cc

-- ---- types

-- the type of a code and two parameters
type_from : ℕ → ℕ → ℕ → SqlType
type_from code p s =
    if code == 1 then t.Bit else
    if code == 2 then t.Int else
    if code == 3 then t.BigInt else
    if code == 4 then t.Decimal p s else
    if code == 5 then t.NVarChar p else
    if code == 6 then t.VarBinary p else t.Date

there : (ty : SqlType) → type_from (type_code ty) (first_parameter ty) (second_parameter ty) ≡ ty
unfolding type_from
there t.Bit = refl
there t.Int = refl
there t.BigInt = refl
there (t.Decimal p s) = refl
there (t.NVarChar n) = refl
there (t.VarBinary n) = refl
there t.Date = refl

one_type : (a b : SqlType) → same_type a b ≡ true → a ≡ b
one_type a b e =
    let two : Bool = first_parameter a == first_parameter b && second_parameter a == second_parameter b in
    let code : type_code a ≡ type_code b = (Decides-eqb (type_code a) (type_code b)).0 (front (type_code a == type_code b) two e) in
    let both : two ≡ true = rest (type_code a == type_code b) two e in
    let p : first_parameter a ≡ first_parameter b = (Decides-eqb (first_parameter a) (first_parameter b)).0 (front (first_parameter a == first_parameter b) (second_parameter a == second_parameter b) both) in
    let s : second_parameter a ≡ second_parameter b = (Decides-eqb (second_parameter a) (second_parameter b)).0 (rest (first_parameter a == first_parameter b) (second_parameter a == second_parameter b) both) in
    sym (there a)
    ∙ ap (λ c. type_from c (first_parameter a) (second_parameter a)) code
    ∙ ap (λ q. type_from (type_code b) q (second_parameter a)) p
    ∙ ap (λ z. type_from (type_code b) (first_parameter b) z) s
    ∙ there b

own_type : (a : SqlType) → same_type a a ≡ true
own_type a = rw (eq-eqb (type_code a) (type_code a) refl, eq-eqb (first_parameter a) (first_parameter a) refl, eq-eqb (second_parameter a) (second_parameter a) refl) refl

-- ---- values

-- the scale of a number of a type
unfoldable pub scale_of : SqlType → ℕ
scale_of (t.Decimal p z) = z
scale_of _ = 0

has_scale : (ty : SqlType) (v : ℤ) (s : ℕ) → number_stored ty v s ≡ true → s ≡ scale_of ty
unfolding scale_of
has_scale t.Bit v s e = (Decides-eqb s 0).0 (front (s == 0) (is_bit v) e)
has_scale t.Int v s e = (Decides-eqb s 0).0 (front (s == 0) (in_bits 31 v) e)
has_scale t.BigInt v s e = (Decides-eqb s 0).0 (front (s == 0) (in_bits 63 v) e)
has_scale (t.Decimal p z) v s e = (Decides-eqb s z).0 (front (s == z) (has_digits v p) e)
has_scale (t.NVarChar n) v s e = cc
has_scale (t.VarBinary n) v s e = cc
has_scale t.Date v s e = cc

small_scale : (ty : SqlType) → is_in_range ty ≡ true → scale_of ty < 2 ^ 8
unfolding scale_of is_in_range
small_scale t.Bit e = omega arith
small_scale t.Int e = omega arith
small_scale t.BigInt e = omega arith
small_scale (t.Decimal p z) e =
    let within : (nat_le 1 p && nat_le p 38) ≡ true = front (nat_le 1 p && nat_le p 38) (nat_le z p) e in
    let most : nat_le p 38 ≡ true = rest (nat_le 1 p) (nat_le p 38) within in
    let less : nat_le z p ≡ true = rest (nat_le 1 p && nat_le p 38) (nat_le z p) e in
    let a : p ≤ 38 = grind (arith, nat_tests, most) in
    let b : z ≤ p = grind (arith, nat_tests, less) in
    omega (arith, a, b)
small_scale (t.NVarChar n) e = omega arith
small_scale (t.VarBinary n) e = omega arith
small_scale t.Date e = omega arith

pub stored_scale : (ty : SqlType) (v : Value) → is_stored v ty ≡ true → HasScale v
unfolding is_stored
stored_scale ty Null e = tt
stored_scale ty (Num s v) e =
    let small : scale_of ty < 2 ^ 8 = small_scale ty (front (is_in_range ty) (number_stored ty v s) e) in
    let is : s ≡ scale_of ty = has_scale ty v s (rest (is_in_range ty) (number_stored ty v s) e) in
    omega (arith, small, is)
stored_scale ty (Text x) e = tt
stored_scale ty (Bytes x) e = tt
stored_scale ty (Date d) e = tt

-- a number has the scale of its type
abbrev pub AtScale : SqlType → Value → Type 0
AtScale ty (Num s v) = s ≡ scale_of ty
AtScale ty _ = Unit {0}

pub at_scale : (ty : SqlType) (v : Value) → is_stored v ty ≡ true → AtScale ty v
unfolding is_stored
at_scale ty Null e = tt
at_scale ty (Num s v) e = has_scale ty v s (rest (is_in_range ty) (number_stored ty v s) e)
at_scale ty (Text x) e = tt
at_scale ty (Bytes x) e = tt
at_scale ty (Date d) e = tt

pub eq_equal : (r : Ordering) → is_eq r ≡ true → r ≡ Equal
eq_equal Less e = cc
eq_equal Equal e = refl
eq_equal Greater e = cc

one_number : (v w : ℤ) (k : ℕ) → raised v k ≡ raised w k → v ≡ w
one_number v w k e =
    let same : int_cmp v w ≡ Equal = sym (cmp_raised v w k) ∙ ap (λ x. int_cmp x (raised w k)) e ∙ tied_itself int_cmp_total (raised w k) in
    equal_ints v w same
  where
    equal_ints : (a b : ℤ) → int_cmp a b ≡ Equal → a ≡ b
    equal_ints a b f = grind arith

pub one_value : (ty : SqlType) (a b : Value) → AtScale ty a → AtScale ty b → IsSameValue a b → a ≡ b
one_value ty Null Null p q s = refl
one_value ty Null (Num z w) p q s = absurd s
one_value ty Null (Text y) p q s = absurd s
one_value ty Null (Bytes y) p q s = absurd s
one_value ty Null (Date y) p q s = absurd s
one_value ty (Num x v) Null p q s = absurd s
one_value ty (Num x v) (Num z w) p q s =
    let scale : x ≡ z = p ∙ sym q in
    let same : raised v z ≡ raised w z = s ∙ ap (raised w) scale in
    ap (λ n. Num n v) scale ∙ ap (Num z) (one_number v w z same)
one_value ty (Num x v) (Text y) p q s = absurd s
one_value ty (Num x v) (Bytes y) p q s = absurd s
one_value ty (Num x v) (Date y) p q s = absurd s
one_value ty (Text x) Null p q s = absurd s
one_value ty (Text x) (Num z w) p q s = absurd s
one_value ty (Text x) (Text y) p q s = ap Text s
one_value ty (Text x) (Bytes y) p q s = absurd s
one_value ty (Text x) (Date y) p q s = absurd s
one_value ty (Bytes x) Null p q s = absurd s
one_value ty (Bytes x) (Num z w) p q s = absurd s
one_value ty (Bytes x) (Text y) p q s = absurd s
one_value ty (Bytes x) (Bytes y) p q s = ap Bytes s
one_value ty (Bytes x) (Date y) p q s = absurd s
one_value ty (Date x) Null p q s = absurd s
one_value ty (Date x) (Num z w) p q s = absurd s
one_value ty (Date x) (Text y) p q s = absurd s
one_value ty (Date x) (Bytes y) p q s = absurd s
one_value ty (Date x) (Date y) p q s = ap Date s

typed_as : SqlType → Value → TypedValue
typed_as ty v = record { ty = ty; value = v }

one_typed : (a b : TypedValue) → IsTyped a → IsTyped b → (same_type a.ty b.ty && is_eq (value_cmp a.value b.value)) ≡ true → a ≡ b
unfolding typed_as
one_typed a b p q e =
    let ty : a.ty ≡ b.ty = one_type a.ty b.ty (front (same_type a.ty b.ty) (is_eq (value_cmp a.value b.value)) e) in
    let cmp : value_cmp a.value b.value ≡ Equal = eq_equal (value_cmp a.value b.value) (rest (same_type a.ty b.ty) (is_eq (value_cmp a.value b.value)) e) in
    let same : IsSameValue a.value b.value = (equal a.value b.value (stored_scale a.ty a.value p.stored) (stored_scale b.ty b.value q.stored)).0 cmp in
    let value : a.value ≡ b.value = one_value b.ty a.value b.value (at_scale b.ty a.value (subst (λ y. is_stored a.value y ≡ true) ty p.stored)) (at_scale b.ty b.value q.stored) same in
    ap (λ y. typed_as y a.value) ty ∙ ap (typed_as b.ty) value

-- ---- rows

exact_value : (a b : Option TypedValue) → IsValue a → IsValue b → same_value a b ≡ true → a ≡ b
exact_value None None p q e = refl
exact_value None (Some b) p q e = cc
exact_value (Some a) None p q e = cc
exact_value (Some a) (Some b) p q e = ap (λ (x : TypedValue). Some x) (one_typed a b p q e)

exact_row : (a b : Stored) → AllByRecursion IsValue a → AllByRecursion IsValue b → same_row a b ≡ true → a ≡ b
exact_row [] [] p q e = refl
exact_row [] (y ∷ b) p q e = cc
exact_row (x ∷ a) [] p q e = cc
exact_row (x ∷ a) (y ∷ b) p q e =
    ap (λ v. v ∷ a) (exact_value x y p.0 q.0 (front (same_value x y) (same_row a b) e))
    ∙ ap (λ vs. y ∷ vs) (exact_row a b p.1 q.1 (rest (same_value x y) (same_row a b) e))

exact_rows : (a b : List Stored) → AllByRecursion (λ r. AllByRecursion IsValue r) a → AllByRecursion (λ r. AllByRecursion IsValue r) b → same_rows a b ≡ true → a ≡ b
exact_rows [] [] p q e = refl
exact_rows [] (y ∷ b) p q e = cc
exact_rows (x ∷ a) [] p q e = cc
exact_rows (x ∷ a) (y ∷ b) p q e =
    ap (λ v. v ∷ a) (exact_row x y p.0 q.0 (front (same_row x y) (same_rows a b) e))
    ∙ ap (λ vs. y ∷ vs) (exact_rows a b p.1 q.1 (rest (same_row x y) (same_rows a b) e))

own_value : (a : Option TypedValue) → same_value a a ≡ true
own_value None = refl
own_value (Some a) = rw (own_type a.ty, tied_itself value_total a.value) refl

own_row : (a : Stored) → same_row a a ≡ true
own_row [] = refl
own_row (x ∷ a) = rw (own_value x, own_row a) refl

own_rows : (a : List Stored) → same_rows a a ≡ true
own_rows [] = refl
own_rows (x ∷ a) = rw (own_row x, own_rows a) refl

-- ---- indexes

at_place : (row : Stored) (n : ℕ) → AllByRecursion IsValue row → IsValue (get_or row n None)
at_place [] n h = tt
at_place (v ∷ vs) zero h = h.0
at_place (v ∷ vs) (suc n) h = at_place vs n h.1

at_ordinal : (row : Stored) (n : ℕ) → AllByRecursion IsValue row → IsValue (stored_at row n)
at_ordinal row zero h = tt
at_ordinal row (suc n) h = at_place row n h

each_ordinal : (row : Stored) (ns : List ℕ) → AllByRecursion IsValue row → AllByRecursion IsValue (map (stored_at row) ns)
each_ordinal row [] h = tt
each_ordinal row (n ∷ ns) h = (at_ordinal row n h, each_ordinal row ns h)

projected : (def : TableDef) (base : List Version) (index : IndexDef) → AllByRecursion IsBaseRow base → AllByRecursion (λ r. AllByRecursion IsValue r) (index_rows def base index)
unfolding index_rows
projected def base index h =
    all_sorted (λ r. AllByRecursion IsValue r) stored_cmp (map (index_row def index) base)
    (all_map IsBaseRow (λ r. AllByRecursion IsValue r) (index_row def index) (λ v b. each_ordinal v.values (index_ordinals def index) b.values.1) base h)

only_values : (rows : List Stored) → AllByRecursion AreValues rows → AllByRecursion (λ r. AllByRecursion IsValue r) rows
only_values [] h = tt
only_values (r ∷ rs) h = (h.0.1, only_values rs h.1)

kept_rows : (is : List IndexDef) (all : List (List Stored)) (g : ℕ) → AreIndexes is all → AllByRecursion (λ r. AllByRecursion IsValue r) (get_or all g [])
kept_rows [] [] g h = tt
kept_rows [] (rows ∷ more) g h = absurd h
kept_rows (i ∷ is) [] g h = absurd h
kept_rows (i ∷ is) (rows ∷ more) zero h = only_values rows h.0.1
kept_rows (i ∷ is) (rows ∷ more) (suc g) h = kept_rows is more g h.1

pub exact_index : (def : TableDef) (rows : TableRows) (g : ℕ) (index : IndexDef) → IsTable def rows → (index_holds def rows g index ≡ true) ↔ (get_or rows.indexes g [] ≡ index_rows def rows.base index)
exact_index def rows g index h = (
  λ e. exact_rows (get_or rows.indexes g []) (index_rows def rows.base index) (kept_rows def.indexes rows.indexes g h.indexes) (projected def rows.base index h.base.0.1) e,
  λ e. subst (λ r. same_rows r (index_rows def rows.base index) ≡ true) (sym e) (own_rows (index_rows def rows.base index)),
)
