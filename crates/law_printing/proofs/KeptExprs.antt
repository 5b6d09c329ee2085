-- What holds of each expression that is read.
use Rattle.std.proofs.Common.{◌≡◌, ◌==◌, ℕ, zero, suc, ◌+◌, ◌-◌, Bool, true, false, cond, List, [], ◌∷◌, Option, Some, None, refl, ap, sym, subst, arith}
use Rattle.std.specs.Prelude.{⊤}
use Rattle.std.proofs.lemmas.Bool.Decides.{nat_tests}
use Rattle.sql_value.specs.declared.value.Value.{Value}
use Rattle.sql_value.specs.declared.expr.Op.{Op}
use Rattle.sql_value.specs.declared.expr.Expr.{Expr}
use Rattle.sql_value.specs.declared.expr.Expr.TheVariants.{Lit, Col, Neg, Not, IsNull, Bin}
use Rattle.sql_value.specs.Tree.{Tree, literal, column, minus, not, is_null, binary, tree}
use Rattle.spec_syntax.specs.declared.tag.Tag.{Tag}
use Rattle.spec_syntax.specs.declared.tag.Tag.TheVariants as t
use Rattle.spec_syntax.specs.declared.level.Level.TheVariants as l
use Rattle.spec_syntax.specs.Tags.{same_tag}
use Rattle.spec_syntax.specs.Input.{Input, Sym, Outcome, Parser, and_then, required, tag, text, next, sees, after, expect, spend, repeated, repeated_at, one_more, begin, max_parts}
use Rattle.spec_syntax.specs.Expr as e
use Rattle.spec_syntax.specs.Expr.{operator, comparison, name, times, more, more_by, grouped, leaf, leaf_by, prim, unary, product, sum, cmp, cmp_by, and, or, whole, max_nesting}
use Rattle.spec_syntax.specs.Parsed.{IsName, IsTree, IsExpr, count}
use Rattle.law_printing.proofs.Repeats.{at_}
use Rattle.sql_value.proofs.Trees.{of_literal, of_column, of_minus, of_not, of_is_null, of_binary}
use Rattle.law_printing.proofs.Kept.{AreSyms, Holds, Literal, IsRead, name_keeps, literal_keeps, next_ok, after_ok}

-- the expression is well-formed, and it was counted
abbrev pub Spent : ℕ → Outcome Expr → Type 0
Spent n None = ⊤
Spent n (Some q) = IsTree (tree q.0) × AreSyms q.1.rest × (q.1.left + count (tree q.0) ≡ n)

abbrev pub Spends : Parser Expr → Type 0
Spends p = (i : Input) → AreSyms i.rest → Spent i.left (p i)

is_of : (x : Expr) (a : Tree) → tree x ≡ a → IsTree a → IsTree (tree x)
is_of x a same is = subst IsTree (sym same) is

spent_same : (n m : ℕ) (o : Outcome Expr) → n ≡ m → Spent n o → Spent m o
spent_same n m o same k = let P : ℕ → Type 0 = λ z. Spent z o in subst P same k

flat : {A B C : Type 0} (o : Outcome A) (f : A → Parser B) (g : B → Parser C) → and_then o (λ a i. and_then (f a i) g) ≡ and_then (and_then o f) g
flat None f g = refl
flat (Some q) f g = refl

-- ---- leaves

abbrev pub LeftIs : {A : Type 0} → ℕ → Outcome A → Type 0
LeftIs n None = ⊤
LeftIs n (Some q) = q.1.left ≡ n

required_left : {A : Type 0} (o : Option A) (i : Input) → LeftIs i.left (required o i)
required_left None i = tt
required_left (Some a) i = refl

name_left_by : (g : Tag) (i : Input) → LeftIs i.left (e.name_by g i)
unfolding text next
name_left_by t.Word i = refl
name_left_by t.Bracketed i = required_left (e.inside (text i)) (next i)
name_left_by _ i = tt

pub name_left : (i : Input) → LeftIs i.left (name i)
unfolding name
name_left i = name_left_by (tag i) i

literal_left_by : (g : Tag) (i : Input) → LeftIs i.left (e.literal_by g i)
unfolding text next
literal_left_by t.Null i = required_left _ (next i)
literal_left_by t.Number i = required_left _ (next i)
literal_left_by t.Text i = required_left _ (next i)
literal_left_by t.Bytes i = required_left _ (next i)
literal_left_by _ i = tt

pub literal_left : (i : Input) → LeftIs i.left (e.literal i)
unfolding e.literal
literal_left i = literal_left_by (tag i) i

column_spent : (o : Outcome (List ℕ)) (n : ℕ) → Holds IsName o → LeftIs n o → Spent (n + 1) (and_then o (λ x i. Some (Col x, i)))
column_spent None n k left = tt
column_spent (Some q) n k left =
    let one : count (tree (Col q.0)) ≡ 1 = ap count (of_column q.0) in
    (is_of (Col q.0) (column q.0) (of_column q.0) k.0, k.1, omega (arith, one, left))

value_spent : (o : Outcome Value) (n : ℕ) → Holds IsRead o → LeftIs n o → Spent (n + 1) (and_then o (λ x i. Some (Lit x, i)))
value_spent None n k left = tt
value_spent (Some q) n k left =
    let one : count (tree (Lit q.0)) ≡ 1 = ap count (of_literal q.0) in
    (is_of (Lit q.0) (literal q.0) (of_literal q.0) k.0, k.1, omega (arith, one, left))

leaf_spent_by : Literal → (g : Tag) (i : Input) → AreSyms i.rest → Spent (i.left + 1) (leaf_by g i)
leaf_spent_by read t.Word i ok = column_spent (name i) i.left (name_keeps i ok) (name_left i)
leaf_spent_by read t.Bracketed i ok = column_spent (name i) i.left (name_keeps i ok) (name_left i)
leaf_spent_by read _ i ok = value_spent (e.literal i) i.left (literal_keeps read i ok) (literal_left i)

paid_by : (c : Bool) (i : Input) (f : Parser Expr) → (i.left == 0) ≡ c → AreSyms i.rest → ((j : Input) → AreSyms j.rest → j.left + 1 ≡ i.left → Spent i.left (f j))
    → Spent i.left (and_then (cond {A = Outcome (Unit {0})} c None (Some (tt, record { rest = i.rest; left = i.left - 1 }))) (λ x. f))
paid_by true i f is ok k = tt
paid_by false i f is ok k = k (record { rest = i.rest; left = i.left - 1 }) ok (grind (arith, nat_tests, is))

paid : (i : Input) (f : Parser Expr) → AreSyms i.rest → ((j : Input) → AreSyms j.rest → j.left + 1 ≡ i.left → Spent i.left (f j)) → Spent i.left (and_then (spend i) (λ x. f))
unfolding spend
paid i f ok k = paid_by (i.left == 0) i f refl ok k

leaf_spent : Literal → Spends leaf
unfolding leaf
leaf_spent read i ok =
    let P : Outcome Expr → Type 0 = λ z. Spent i.left z in
    subst P (flat (spend i) (λ x j. Some (tag j, j)) leaf_by)
    (paid i (λ j. leaf_by (tag j) j) ok (λ j kept one. spent_same (j.left + 1) i.left (leaf_by (tag j) j) one (leaf_spent_by read (tag j) j kept)))

-- ---- parentheses

after_left_by : (c : Bool) (i : Input) → (cond c (next i) i).left ≡ i.left
unfolding next
after_left_by true i = refl
after_left_by false i = refl

pub after_left : (g : Tag) (i : Input) → (after g i).left ≡ i.left
unfolding after
after_left g i = after_left_by (sees g i) i

shut_by : (c : Bool) (x : Expr) (i : Input) (n : ℕ) → Spent n (Some (x, i)) → Spent n (and_then (cond {A = Outcome (Unit {0})} c (Some (tt, next i)) None) (λ y k. Some (x, k)))
unfolding next
shut_by true x i n k = (k.0, next_ok i k.1, k.2)
shut_by false x i n k = tt

shut : (g : Tag) (n : ℕ) (o : Outcome Expr) → Spent n o → Spent n (and_then o (λ x i. and_then (expect g i) (λ y k. Some (x, k))))
unfolding expect
shut g n None k = tt
shut g n (Some q) k = shut_by (sees g q.1) q.0 q.1 n k

if_spent : (n : ℕ) (c : Bool) (p q : Parser Expr) (i : Input) → Spent n (p i) → Spent n (q i) → Spent n ((cond c p q) i)
if_spent n true p q i a b = a
if_spent n false p q i a b = b

module _ (read : Literal) (inner : Parser Expr) (spends : Spends inner) where
  prim_spent : Spends (prim inner)
  unfolding prim
  prim_spent i ok =
      let j = after t.Open i in
      let kept = after_ok t.Open i ok in
      spent_same j.left i.left _ (after_left t.Open i)
      (if_spent j.left (sees t.Open i) (λ k. and_then (inner k) (λ x m. and_then (expect t.Close m) (λ y z. Some (x, z)))) leaf j (shut t.Close j.left (inner j) (spends j kept)) (leaf_spent read j kept))

-- ---- signs and NOT

abbrev Repeats : ℕ → Outcome ℕ → Type 0
Repeats n None = ⊤
Repeats n (Some q) = AreSyms q.1.rest × (q.1.left + q.0 ≡ n)

one_repeat : (n : ℕ) (o : Outcome ℕ) → Repeats n o → Repeats (n + 1) (one_more o)
one_repeat n None k = tt
one_repeat n (Some q) k = (k.0, omega (arith, k.1))

paid_repeat : (c : Bool) (n : ℕ) (o : Outcome ℕ) → (n == 0) ≡ c → Repeats (n - 1) o → Repeats n (cond c None (one_more o))
paid_repeat true n o is k = tt
paid_repeat false n o is k =
    let one : n - 1 + 1 ≡ n = grind (arith, nat_tests, is) in
    let P : ℕ → Type 0 = λ z. Repeats z (one_more o) in
    subst P one (one_repeat (n - 1) o k)

if_repeat : (c : Bool) (n : ℕ) (a b : Outcome ℕ) → Repeats n a → Repeats n b → Repeats n (cond c a b)
if_repeat true n a b k h = k
if_repeat false n a b k h = h

repeats_at : (g : Tag) (ts : List Sym) (n : ℕ) → AreSyms ts → Repeats n (repeated_at g ts n)
repeats_at g [] n ok = (tt, omega arith)
repeats_at g (s ∷ ts) n ok =
    if_repeat (same_tag s.0 g) n (cond (n == 0) None (one_more (repeated_at g ts (n - 1)))) (Some (0, at_ (s ∷ ts) n))
    (paid_repeat (n == 0) n (repeated_at g ts (n - 1)) refl (repeats_at g ts (n - 1) ok.1)) (ok, omega arith)

-- each use of it is one part more
abbrev Wraps : (Expr → Expr) → Type 0
Wraps f = (x : Expr) → IsTree (tree x) → IsTree (tree (f x)) × (count (tree (f x)) ≡ count (tree x) + 1)

neg_wraps : Wraps Neg
neg_wraps x is = (is_of (Neg x) (minus (tree x)) (of_minus x) is, ap count (of_minus x))

not_wraps : Wraps Not
not_wraps x is = (is_of (Not x) (not (tree x)) (of_not x) is, ap count (of_not x))

times_wraps : (m : ℕ) (f : Expr → Expr) → Wraps f → (x : Expr) → IsTree (tree x) → IsTree (tree (times m f x)) × (count (tree (times m f x)) ≡ count (tree x) + m)
times_wraps zero f wraps x is = (is, omega arith)
times_wraps (suc m) f wraps x is =
    let rest = times_wraps m f wraps x is in
    let all = wraps (times m f x) rest.0 in
    (all.0, omega (arith, all.1, rest.1))

wrapped : (m n : ℕ) (f : Expr → Expr) → Wraps f → (o : Outcome Expr) → Spent n o → Spent (n + m) (and_then o (λ x i. Some (times m f x, i)))
wrapped m n f wraps None k = tt
wrapped m n f wraps (Some q) k = let all = times_wraps m f wraps q.0 k.0 in (all.0, k.1, omega (arith, all.1, k.2))

led : (n : ℕ) (f : Expr → Expr) → Wraps f → (p : Parser Expr) → Spends p → (o : Outcome ℕ) → Repeats n o → Spent n (and_then o (λ m i. and_then (p i) (λ x j. Some (times m f x, j))))
led n f wraps p spends None k = tt
led n f wraps p spends (Some q) k = spent_same (q.1.left + q.0) n _ k.1 (wrapped q.0 q.1.left f wraps (p q.1) (spends q.1 k.0))

-- ---- operators

both : (o : Op) (x y : Expr) → IsTree (tree x) → IsTree (tree y) → IsTree (tree (Bin o x y)) × (count (tree (Bin o x y)) ≡ count (tree x) + count (tree y) + 1)
both o x y a b = (is_of (Bin o x y) (binary o (tree x) (tree y)) (of_binary o x y) (a, b), ap count (of_binary o x y))

module _ (operators : Tag → Option Op) (operand : Parser Expr) (spends : Spends operand) where
  after_right : (n fuel : ℕ) (o : Op) (x : Expr) → IsTree (tree x) → ((y : Expr) → IsTree (tree y) → (i : Input) → AreSyms i.rest → Spent (i.left + count (tree y)) (more operators operand fuel y i))
      → (r : Outcome Expr) → Spent n r → Spent (n + 1 + count (tree x)) (and_then r (λ y. more operators operand fuel (Bin o x y)))
  after_right n fuel o x is again None k = tt
  after_right n fuel o x is again (Some q) k =
      let all = both o x q.0 is k.0 in
      spent_same (q.1.left + count (tree (Bin o x q.0))) (n + 1 + count (tree x)) _ (omega (arith, all.1, k.2)) (again (Bin o x q.0) all.0 q.1 k.1)

  paid_more_by : (c : Bool) (i : Input) (m : ℕ) (f : Parser Expr) → (i.left == 0) ≡ c → AreSyms i.rest → ((j : Input) → AreSyms j.rest → j.left + 1 ≡ i.left → Spent (j.left + 1 + m) (f j))
      → Spent (i.left + m) (and_then (cond {A = Outcome (Unit {0})} c None (Some (tt, record { rest = i.rest; left = i.left - 1 }))) (λ x. f))
  paid_more_by true i m f is ok k = tt
  paid_more_by false i m f is ok k =
      let one : i.left - 1 + 1 ≡ i.left = grind (arith, nat_tests, is) in
      let j : Input = record { rest = i.rest; left = i.left - 1 } in
      spent_same (j.left + 1 + m) (i.left + m) (f j) (ap (λ z. z + m) one) (k j ok one)

  paid_more : (i : Input) (m : ℕ) (f : Parser Expr) → AreSyms i.rest → ((j : Input) → AreSyms j.rest → j.left + 1 ≡ i.left → Spent (j.left + 1 + m) (f j)) → Spent (i.left + m) (and_then (spend i) (λ x. f))
  unfolding spend
  paid_more i m f ok k = paid_more_by (i.left == 0) i m f refl ok k

  next_left : (i : Input) → (next i).left ≡ i.left
  unfolding next
  next_left i = refl

  turn_spent : (fuel : ℕ) (x : Expr) → IsTree (tree x) → (i : Input) → AreSyms i.rest → ((y : Expr) → IsTree (tree y) → (j : Input) → AreSyms j.rest → Spent (j.left + count (tree y)) (more operators operand fuel y j))
      → (q : Option Op) → Spent (i.left + count (tree x)) (more_by operators operand q (λ o i. and_then (and_then (spend (next i)) (λ z. operand)) (λ y. more operators operand fuel (Bin o x y))) x i)
  turn_spent fuel x is i ok again None = (is, ok, refl)
  turn_spent fuel x is i ok again (Some o) =
      let P : Outcome Expr → Type 0 = λ z. Spent (i.left + count (tree x)) z in
      subst P (flat (spend (next i)) (λ z. operand) (λ y. more operators operand fuel (Bin o x y))) (spent_same ((next i).left + count (tree x)) (i.left + count (tree x)) _ (ap (λ z. z + count (tree x)) (next_left i))
      (paid_more (next i) (count (tree x)) (λ j. and_then (operand j) (λ y. more operators operand fuel (Bin o x y))) (next_ok i ok)
      (λ j kept one. after_right j.left fuel o x is again (operand j) (spends j kept))))

  more_spent : (fuel : ℕ) (x : Expr) → IsTree (tree x) → (i : Input) → AreSyms i.rest → Spent (i.left + count (tree x)) (more operators operand fuel x i)
  unfolding more
  more_spent zero x is i ok = tt
  more_spent (suc fuel) x is i ok = turn_spent fuel x is i ok (more_spent fuel) (operators (tag i))

  first_spent : (n : ℕ) (o : Outcome Expr) → Spent n o → Spent n (and_then o (λ x i. more operators operand (i.left + 1) x i))
  first_spent n None k = tt
  first_spent n (Some q) k = spent_same (q.1.left + count (tree q.0)) n _ k.2 (more_spent (q.1.left + 1) q.0 k.0 q.1 k.1)

  grouped_spent : Spends (grouped operators operand)
  grouped_spent i ok = first_spent i.left (operand i) (spends i ok)

-- ---- the rules

module _ (read : Literal) (inner : Parser Expr) (spends : Spends inner) where
  unary_spent : Spends (unary inner)
  unfolding unary repeated
  unary_spent i ok = led i.left Neg neg_wraps (prim inner) (prim_spent read inner spends) (repeated_at t.Minus i.rest i.left) (repeats_at t.Minus i.rest i.left ok)

  product_spent : Spends (product inner)
  unfolding product
  product_spent = grouped_spent (operator l.Product) (unary inner) unary_spent

  sum_spent : Spends (sum inner)
  unfolding sum
  sum_spent = grouped_spent (operator l.Sum) (product inner) product_spent

  -- one more part, and then something that keeps what is left
  null_part : (x : Expr) → IsTree (tree x) → (negated : Bool) → IsTree (tree (IsNull x negated)) × (count (tree (IsNull x negated)) ≡ count (tree x) + 1)
  null_part x is negated = (is_of (IsNull x negated) (is_null (tree x) negated) (of_is_null x negated) is, ap count (of_is_null x negated))

  null_by : (c : Bool) (x : Expr) (negated : Bool) (j : Input) (n : ℕ) → AreSyms j.rest → IsTree (tree x) → j.left + 1 + count (tree x) ≡ n
      → Spent n (and_then (cond {A = Outcome (Unit {0})} c (Some (tt, next j)) None) (λ y k. Some (IsNull x negated, k)))
  unfolding next
  null_by true x negated j n ok is same = let all = null_part x is negated in (all.0, next_ok j ok, omega (arith, all.1, same))
  null_by false x negated j n ok is same = tt

  null_spent : (x : Expr) (negated : Bool) (j : Input) (n : ℕ) → AreSyms j.rest → IsTree (tree x) → j.left + 1 + count (tree x) ≡ n → Spent n (and_then (expect t.Null j) (λ y k. Some (IsNull x negated, k)))
  unfolding expect
  null_spent x negated j n ok is same = null_by (sees t.Null j) x negated j n ok is same

  right_spent : (o : Op) (x : Expr) (n : ℕ) → IsTree (tree x) → (r : Outcome Expr) → Spent n r → Spent (n + 1 + count (tree x)) (and_then r (λ y i. Some (Bin o x y, i)))
  right_spent o x n is None k = tt
  right_spent o x n is (Some q) k = let all = both o x q.0 is k.0 in (all.0, k.1, omega (arith, all.1, k.2))

  tested : (x : Expr) → IsTree (tree x) → (i : Input) → AreSyms i.rest
      → Spent (i.left + count (tree x)) (and_then (spend i) (λ z j. and_then (expect t.Null (after t.Not j)) (λ y k. Some (IsNull x (sees t.Not j), k))))
  tested x is i ok =
      paid_more (operator l.Sum) (product inner) product_spent i (count (tree x)) (λ j. and_then (expect t.Null (after t.Not j)) (λ y k. Some (IsNull x (sees t.Not j), k))) ok
      (λ j kept one. null_spent x (sees t.Not j) (after t.Not j) (j.left + 1 + count (tree x)) (after_ok t.Not j kept) is (ap (λ z. z + 1 + count (tree x)) (after_left t.Not j)))

  cmp_spent_by : (x : Expr) → IsTree (tree x) → (i : Input) → AreSyms i.rest → (q : Option Op) → Spent (i.left + count (tree x)) (cmp_by inner x q i)
  unfolding next
  cmp_spent_by x is i ok (Some o) =
      paid_more (operator l.Sum) (product inner) product_spent (next i) (count (tree x)) (λ j. and_then (sum inner j) (λ y k. Some (Bin o x y, k))) (next_ok i ok)
      (λ j kept one. right_spent o x j.left is (sum inner j) (sum_spent j kept))
  cmp_spent_by x is i ok None =
      let j = after t.Is i in
      let kept = after_ok t.Is i ok in
      spent_same (j.left + count (tree x)) (i.left + count (tree x)) _ (ap (λ z. z + count (tree x)) (after_left t.Is i))
      (if_spent (j.left + count (tree x)) (sees t.Is i) (λ k. and_then (spend k) (λ z m. and_then (expect t.Null (after t.Not m)) (λ y v. Some (IsNull x (sees t.Not m), v)))) (λ k. Some (x, k)) j (tested x is j kept) (is, kept, refl))

  cmp_left : (n : ℕ) (o : Outcome Expr) → Spent n o → Spent n (and_then o (λ x i. cmp_by inner x (comparison (tag i)) i))
  cmp_left n None k = tt
  cmp_left n (Some q) k = spent_same (q.1.left + count (tree q.0)) n _ k.2 (cmp_spent_by q.0 k.0 q.1 k.1 (comparison (tag q.1)))

  cmp_spent : Spends (cmp inner)
  unfolding cmp
  cmp_spent i ok = cmp_left i.left (sum inner i) (sum_spent i ok)

  not_spent : Spends (e.not inner)
  unfolding e.not repeated
  not_spent i ok = led i.left Not not_wraps (cmp inner) cmp_spent (repeated_at t.Not i.rest i.left) (repeats_at t.Not i.rest i.left ok)

  and_spent : Spends (and inner)
  unfolding and
  and_spent = grouped_spent (operator l.And) (e.not inner) not_spent

  or_spent : Spends (or inner)
  unfolding or
  or_spent = grouped_spent (operator l.Or) (and inner) and_spent

expr_spent : Literal → (d : ℕ) → Spends (e.expr d)
unfolding e.expr
expr_spent read zero = λ i ok. tt
expr_spent read (suc d) = or_spent read (e.expr d) (expr_spent read d)

is_expr : (o : Outcome Expr) → Spent max_parts o → Holds IsExpr o
is_expr None k = tt
is_expr (Some q) k = ((k.0, omega (arith, k.2)), k.1)

pub whole_keeps : Literal → (i : Input) → AreSyms i.rest → Holds IsExpr (whole i)
unfolding whole begin
whole_keeps read i ok = is_expr (or (e.expr max_nesting) (record { rest = i.rest; left = max_parts })) (or_spent read (e.expr max_nesting) (expr_spent read max_nesting) (record { rest = i.rest; left = max_parts }) ok)
