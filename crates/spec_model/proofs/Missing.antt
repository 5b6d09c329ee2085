-- Which refusals an expression without a class has.
use Rattle.std.proofs.Common.{◌≡◌, ℕ, List, refl, arith, rules, inl, inr}
use Rattle.std.proofs.lemmas.Grind.{common_steps}
use Rattle.std.specs.Prelude.{Bool, true, false, ◌&&◌, if◌then◌else◌, ◌↔◌, ◌⊎◌, Option, Some, None, Ok, Err, option_and_then, slice_get, is_some}
use Rattle.sql_value.specs.declared.column.ColumnDef.{ColumnDef}
use Rattle.sql_value.specs.declared.refusal.Refusal.{Refusal}
use Rattle.sql_value.specs.declared.refusal.Refusal.TheVariants.{NoSuchColumn, TypeMismatch}
use Rattle.sql_value.specs.declared.expr.Class.{Class}
use Rattle.sql_value.specs.declared.expr.Expr.{Expr}
use Rattle.sql_value.specs.declared.expr.Op.{Op}
use Rattle.sql_value.specs.declared.expr.Op.TheVariants as op
use Rattle.sql_value.specs.Tree.{Tree, literal, column, minus, not, is_null, binary, tree}
use Rattle.spec_model.specs.Refusals.{Checked, and_then, or_refused}
use Rattle.spec_model.specs.Columns.{place_of, column_of}
use Rattle.spec_model.specs.Days.{written_day}
use Rattle.spec_model.specs.Classes as cl
use Rattle.spec_model.proofs.Classed.{ok_before}

there_at : (columns : List ColumnDef) (place : Option ℕ) (c : Class)
    → and_then (or_refused TypeMismatch (option_and_then (slice_get columns) place)) (λ k. cl.class_of_type k.ty) ≡ Ok c → is_some place ≡ true
there_at columns None c ok = absurd (search rules)
there_at columns (Some i) c ok = refl

both_true : (a b : Bool) → a ≡ true → b ≡ true → (a && b) ≡ true
both_true a b h k = grind arith

pub there : (columns : List ColumnDef) (t : Tree) (c : Class) → cl.class columns t ≡ Ok c → cl.names_columns columns t ≡ true
there columns (literal v) c ok = refl
there columns (column name) c ok = there_at columns (place_of columns name) c ok
there columns (minus a) c ok = let p = ok_before (cl.class columns a) cl.negation_class c ok in there columns a p.0 p.1
there columns (not a) c ok = let p = ok_before (cl.class columns a) cl.opposite_class c ok in there columns a p.0 p.1
there columns (is_null a n) c ok = let p = ok_before (cl.class columns a) cl.null_test_class c ok in there columns a p.0 p.1
there columns (binary o a b) c ok =
    let p = ok_before (cl.class columns a) _ c ok in
    let q = ok_before (cl.class columns b) _ c p.2 in
    both_true _ _ (there columns a p.0 p.1) (there columns b q.0 q.1)

-- where classes don't agree it is TypeMismatch
abbrev OnlyTypeMismatch : {A : Type 0} → Checked A → Type 0
OnlyTypeMismatch {A} m = (r : Refusal) → m ≡ Err r → r ≡ TypeMismatch

only_after : {A B : Type 0} (m : Checked A) (f : A → Checked B) → OnlyTypeMismatch m → ((a : A) → OnlyTypeMismatch (f a)) → OnlyTypeMismatch (and_then m f)
only_after (Ok a) f first next r h = next a r h
only_after (Err e) f first next r h = first r (search rules)

only_negation : (x : Class) → OnlyTypeMismatch (cl.negation_class x)
only_negation x r h = grind (arith, common_steps)

only_opposite : (x : Class) → OnlyTypeMismatch (cl.opposite_class x)
only_opposite x r h = grind (arith, common_steps)

only_null_test : (x : Class) → OnlyTypeMismatch (cl.null_test_class x)
only_null_test x r h = grind (arith, common_steps)

only_binary : (o : Op) (x y : Class) → OnlyTypeMismatch (cl.binary_class o x y)
only_binary op.Add x y r h = grind (arith, common_steps)
only_binary op.Sub x y r h = grind (arith, common_steps)
only_binary op.Mul x y r h = grind (arith, common_steps)
only_binary op.And x y r h = grind (arith, common_steps)
only_binary op.Or x y r h = grind (arith, common_steps)
only_binary _ x y r h = grind (arith, common_steps)

only_type : (k : ColumnDef) → OnlyTypeMismatch (cl.class_of_type k.ty)
only_type k r h = grind (arith, common_steps)

only_found : {A : Type 0} (found : Option A) → OnlyTypeMismatch (or_refused TypeMismatch found)
only_found None r h = search rules
only_found (Some a) r h = absurd (search rules)

only : (columns : List ColumnDef) (t : Tree) → OnlyTypeMismatch (cl.class columns t)
only columns (literal v) = λ r h. absurd (search rules)
only columns (column name) = only_after (or_refused TypeMismatch (column_of columns name)) (λ c. cl.class_of_type c.ty) (only_found (column_of columns name)) only_type
only columns (minus a) = only_after (cl.class columns a) cl.negation_class (only columns a) only_negation
only columns (not a) = only_after (cl.class columns a) cl.opposite_class (only columns a) only_opposite
only columns (is_null a n) = only_after (cl.class columns a) cl.null_test_class (only columns a) only_null_test
only columns (binary o a b) =
    only_after (cl.class columns a) _ (only columns a) (λ x. only_after (cl.class columns b) _ (only columns b) (λ y.
    only_binary o (cl.class_beside_day (written_day a) x y) (cl.class_beside_day (written_day b) y x)))

-- NoSuchColumn exactly where a column is missing
chosen : (named : Bool) (m : Checked Class) → OnlyTypeMismatch m → ((if named then m else Err NoSuchColumn) ≡ Err NoSuchColumn) ↔ (named ≡ false)
chosen true m five = ((λ h. let same : NoSuchColumn ≡ TypeMismatch = five NoSuchColumn h in absurd (search rules)), (λ h. absurd (search rules)))
chosen false m five = ((λ h. refl), (λ h. refl))

pub missing : (columns : List ColumnDef) (e : Expr) → (cl.class_of columns e ≡ Err NoSuchColumn) ↔ (cl.names_columns columns (tree e) ≡ false)
unfolding cl.class_of
missing columns e = chosen (cl.names_columns columns (tree e)) (cl.class columns (tree e)) (only columns (tree e))

one_of : (named : Bool) (m : Checked Class) → OnlyTypeMismatch m → (r : Refusal) → (if named then m else Err NoSuchColumn) ≡ Err r → (r ≡ NoSuchColumn) ⊎ (r ≡ TypeMismatch)
one_of true m five r h = inr (five r h)
one_of false m five r h = inl (search rules)

pub others : (columns : List ColumnDef) (e : Expr) (r : Refusal) → cl.class_of columns e ≡ Err r → (r ≡ NoSuchColumn) ⊎ (r ≡ TypeMismatch)
unfolding cl.class_of
others columns e r h = one_of (cl.names_columns columns (tree e)) (cl.class columns (tree e)) (only columns (tree e)) r h
