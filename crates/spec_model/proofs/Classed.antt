-- An expression of a class gives outcomes of it.
use Rattle.std.proofs.Common.{◌≡◌, ℕ, zero, suc, List, [], ◌∷◌, refl, subst, arith, rules}
use Rattle.std.proofs.lemmas.Grind.{common_steps}
use Rattle.std.specs.Prelude.{Bool, true, false, if◌then◌else◌, Option, Some, None, Ok, Err, option_and_then, slice_get}
use Rattle.sql_value.specs.declared.value.Value.{Value}
use Rattle.sql_value.specs.declared.value.Value.TheVariants as val
use Rattle.sql_value.specs.declared.sql_type.SqlType.{SqlType}
use Rattle.sql_value.specs.declared.column.ColumnDef.{ColumnDef}
use Rattle.sql_value.specs.Stored.{is_stored}
use Rattle.sql_value.specs.declared.refusal.Refusal.TheVariants.{NoSuchColumn, TypeMismatch}
use Rattle.sql_value.specs.declared.expr.Class.{Class}
use Rattle.sql_value.specs.declared.expr.Class.TheVariants.{Text}
use Rattle.sql_value.specs.declared.expr.Expr.{Expr}
use Rattle.sql_value.specs.declared.expr.Op.{Op}
use Rattle.sql_value.specs.declared.expr.Op.TheVariants as op
use Rattle.sql_types.specs.declared.outcome.Outcome.{Outcome}
use Rattle.sql_types.specs.declared.outcome.Outcome.TheVariants as out
use Rattle.spec_model.specs.Refusals.{Checked, and_then, or_refused}
use Rattle.spec_model.specs.Numbers.{sum_of, difference_of, product_of, negative_of}
use Rattle.spec_model.specs.Columns.{fits, place_of}
use Rattle.sql_value.specs.Tree.{Tree, literal, column, minus, not, is_null, binary, tree}
use Rattle.spec_model.specs.Days.{written_day}
use Rattle.spec_model.specs.Classes as cl
use Rattle.spec_model.specs.Evaluation as me
use Rattle.spec_model.specs.Outcomes.{IsOf, Answers}

-- what goes on with a value was answered one
pub ok_before : {A B : Type 0} (m : Checked A) (f : A → Checked B) (b : B) → and_then m f ≡ Ok b → (a : A) × (m ≡ Ok a) × (f a ≡ Ok b)
ok_before (Ok a) f b h = (a, refl, h)
ok_before (Err e) f b h = absurd (search rules)

pub goes_on : (x c : Class) (m : me.Answer) (f : Outcome → me.Answer) → Answers x m → ((o : Outcome) → IsOf x o → Answers c (f o)) → Answers c (and_then m f)
goes_on x c (Ok o) f is next = next o is
goes_on x c (Err e) f is next = is

pub inverted : (x c : Class) (o : Outcome) → cl.opposite_class x ≡ Ok c → IsOf x o → Answers c (me.inverted o)
inverted x c o ok is = grind (arith, common_steps)

pub null_test : (n : Bool) (x c : Class) (o : Outcome) → cl.null_test_class x ≡ Ok c → IsOf x o → Answers c (me.null_test n o)
null_test n x c o ok is = grind (arith, common_steps)

pub negated : (x c : Class) (o : Outcome) → cl.negation_class x ≡ Ok c → IsOf x o → Answers c (me.negated o)
unfolding negative_of
negated x c o ok is = grind (arith, common_steps)

-- an operator on operands of classes that it takes
pub applied : (o : Op) (x y c : Class) (a b : Outcome) → cl.binary_class o x y ≡ Ok c → IsOf x a → IsOf y b → Answers c (me.applied o a b)
unfolding sum_of difference_of product_of
applied op.Add x y c a b ok is also = grind (arith, common_steps)
applied op.Sub x y c a b ok is also = grind (arith, common_steps)
applied op.Mul x y c a b ok is also = grind (arith, common_steps)
applied op.Eq x y c a b ok is also = grind (arith, common_steps)
applied op.Ne x y c a b ok is also = grind (arith, common_steps)
applied op.Lt x y c a b ok is also = grind (arith, common_steps)
applied op.Le x y c a b ok is also = grind (arith, common_steps)
applied op.Gt x y c a b ok is also = grind (arith, common_steps)
applied op.Ge x y c a b ok is also = grind (arith, common_steps)
applied op.And x y c a b ok is also = grind (arith, common_steps)
applied op.Or x y c a b ok is also = grind (arith, common_steps)

-- the same with a text literal that is a date on the left
left_day : (o : Op) (d : ℕ) (y c : Class) (a b : Outcome) → cl.binary_class o (cl.class_beside_day (Some d) Text y) y ≡ Ok c → IsOf Text a → IsOf y b
    → Answers c (me.applied o (me.beside_day (Some d) a b) b)
left_day o d y c a b ok is also = grind (arith, common_steps, applied)

right_day : (o : Op) (d : ℕ) (x c : Class) (a b : Outcome) → cl.binary_class o x (cl.class_beside_day (Some d) Text x) ≡ Ok c → IsOf x a → IsOf Text b
    → Answers c (me.applied o a (me.beside_day (Some d) b a))
right_day o d x c a b ok is also = grind (arith, common_steps, applied)

-- ---- columns and literals

literal_of : (v : Value) (c : Class) → cl.class_of_literal v ≡ c → IsOf c (out.Value v)
literal_of v c same = grind (arith, common_steps)

stored : (v : Value) (ty : SqlType) (c : Class) → cl.class_of_type ty ≡ Ok c → is_stored v ty ≡ true → IsOf c (out.Value v)
unfolding is_stored
stored v ty c ok is = grind (arith, common_steps)

-- the value in the place of a column is one that it stores
in_place : (cs : List ColumnDef) (vs : List Value) (i : ℕ) (c : ColumnDef) → fits cs vs ≡ true → slice_get cs i ≡ Some c
    → (v : Value) × (slice_get vs i ≡ Some v) × (is_stored v c.ty ≡ true)
unfolding fits
in_place [] vs i c fit at = absurd (search rules)
in_place (d ∷ cs) [] i c fit at = absurd (search rules)
in_place (d ∷ cs) (v ∷ vs) zero c fit at = (v, refl, grind (arith, common_steps))
in_place (d ∷ cs) (v ∷ vs) (suc i) c fit at = in_place cs vs i c (grind (arith, common_steps)) (search rules)

column_at : (columns : List ColumnDef) (row : List Value) (i : ℕ) (found : Option ColumnDef) (c : Class) → fits columns row ≡ true
    → slice_get columns i ≡ found → and_then (or_refused TypeMismatch found) (λ k. cl.class_of_type k.ty) ≡ Ok c
    → Answers c (and_then (or_refused TypeMismatch (slice_get row i)) me.a_value)
column_at columns row i None c fit same ok = absurd (search rules)
column_at columns row i (Some k) c fit same ok =
    let p = in_place columns row i k fit same in
    rw p.1 (stored p.0 k.ty c ok p.2)

column_in : (columns : List ColumnDef) (row : List Value) (place : Option ℕ) (c : Class) → fits columns row ≡ true
    → and_then (or_refused TypeMismatch (option_and_then (slice_get columns) place)) (λ k. cl.class_of_type k.ty) ≡ Ok c
    → Answers c (and_then (or_refused TypeMismatch (option_and_then (slice_get row) place)) me.a_value)
column_in columns row None c fit ok = absurd (search rules)
column_in columns row (Some i) c fit ok = column_at columns row i (slice_get columns i) c fit refl ok

-- ---- operands beside days

-- only a text literal writes a day
text_of : (columns : List ColumnDef) (t : Tree) (x : Class) (d : ℕ) → cl.class columns t ≡ Ok x → written_day t ≡ Some d → x ≡ Text
text_of columns (literal val.Null) x d ok day = absurd (search rules)
text_of columns (literal (val.Num s v)) x d ok day = absurd (search rules)
text_of columns (literal (val.Text y)) x d ok day = search rules
text_of columns (literal (val.Bytes y)) x d ok day = absurd (search rules)
text_of columns (literal (val.Date e)) x d ok day = absurd (search rules)
text_of columns (column name) x d ok day = absurd (search rules)
text_of columns (minus a) x d ok day = absurd (search rules)
text_of columns (not a) x d ok day = absurd (search rules)
text_of columns (is_null a n) x d ok day = absurd (search rules)
text_of columns (binary o a b) x d ok day = absurd (search rules)

abbrev IsTextAt : Option ℕ → Class → Type 0
IsTextAt t x = (d : ℕ) → t ≡ Some d → x ≡ Text

with_days : (o : Op) (t u : Option ℕ) (x y c : Class) (a b : Outcome) → IsTextAt t x → IsTextAt u y
    → cl.binary_class o (cl.class_beside_day t x y) (cl.class_beside_day u y x) ≡ Ok c → IsOf x a → IsOf y b
    → Answers c (me.applied o (me.beside_day t a b) (me.beside_day u b a))
with_days o None None x y c a b text also ok is too = applied o x y c a b ok is too
with_days o (Some d) None x y c a b text also ok is too =
    left_day o d y c a b (subst (λ k. cl.binary_class o (cl.class_beside_day (Some d) k y) y ≡ Ok c) (text d refl) ok) (subst (λ k. IsOf k a) (text d refl) is) too
with_days o None (Some d) x y c a b text also ok is too =
    right_day o d x c a b (subst (λ k. cl.binary_class o x (cl.class_beside_day (Some d) k x) ≡ Ok c) (also d refl) ok) is (subst (λ k. IsOf k b) (also d refl) too)
with_days o (Some d) (Some e) x y c a b text also ok is too = grind (arith, common_steps, text d refl, also e refl, applied)

-- ---- expressions

pub answers : (columns : List ColumnDef) (row : List Value) → fits columns row ≡ true → (t : Tree) (c : Class) → cl.class columns t ≡ Ok c
    → Answers c (me.meaning columns row t)
answers columns row fit (literal v) c ok = literal_of v c (search rules)
answers columns row fit (column name) c ok = column_in columns row (place_of columns name) c fit ok
answers columns row fit (minus a) c ok =
    let p = ok_before (cl.class columns a) cl.negation_class c ok in
    goes_on p.0 c (me.meaning columns row a) me.negated (answers columns row fit a p.0 p.1) (λ o is. negated p.0 c o p.2 is)
answers columns row fit (not a) c ok =
    let p = ok_before (cl.class columns a) cl.opposite_class c ok in
    goes_on p.0 c (me.meaning columns row a) me.inverted (answers columns row fit a p.0 p.1) (λ o is. inverted p.0 c o p.2 is)
answers columns row fit (is_null a n) c ok =
    let p = ok_before (cl.class columns a) cl.null_test_class c ok in
    goes_on p.0 c (me.meaning columns row a) (me.null_test n) (answers columns row fit a p.0 p.1) (λ o is. null_test n p.0 c o p.2 is)
answers columns row fit (binary o a b) c ok =
    let p = ok_before (cl.class columns a) _ c ok in
    let q = ok_before (cl.class columns b) _ c p.2 in
    goes_on p.0 c (me.meaning columns row a) _ (answers columns row fit a p.0 p.1) (λ v is.
    goes_on q.0 c (me.meaning columns row b) _ (answers columns row fit b q.0 q.1) (λ w also.
    with_days o (written_day a) (written_day b) p.0 q.0 c v w (λ d. text_of columns a p.0 d p.1) (λ d. text_of columns b q.0 d q.1) q.2 is also))

class_before : (named : Bool) (m : Checked Class) (c : Class) → (if named then m else Err NoSuchColumn) ≡ Ok c → m ≡ Ok c
class_before true m c h = h
class_before false m c h = absurd (search rules)

pub foretold : (columns : List ColumnDef) (row : List Value) (e : Expr) (c : Class) → cl.class_of columns e ≡ Ok c → fits columns row ≡ true
    → Answers c (me.meaning_of columns row e)
unfolding cl.class_of me.meaning_of
foretold columns row e c ok fit = answers columns row fit (tree e) c (class_before (cl.names_columns columns (tree e)) (cl.class columns (tree e)) c ok)
