-- Printed expressions are read as themselves, whole.
use Rattle.std.proofs.Common.{◌≡◌, ◌∙◌, ◌==◌, ℕ, zero, suc, ◌-◌, ◌<◌, ◌≤◌, Bool, true, false, List, ◌∷◌, ◌++◌, Some, None, refl, ap, arith, append_assoc}
use Rattle.std.proofs.lemmas.Bool.Decides.{nat_tests}
use Rattle.sql_value.specs.declared.expr.Op.{Op}
use Rattle.sql_value.specs.declared.expr.Op.TheVariants as op
use Rattle.sql_value.specs.declared.expr.Expr.{Expr}
use Rattle.sql_value.specs.declared.expr.Expr.TheVariants.{Neg, Not, IsNull, Bin}
use Rattle.sql_value.specs.Tree.{Tree, literal, column, minus, not, is_null, binary}
use Rattle.spec_syntax.specs.declared.tag.Tag.TheVariants as t
use Rattle.spec_syntax.specs.declared.level.Level.TheVariants as l
use Rattle.spec_syntax.specs.Tags.{same_tag}
use Rattle.spec_syntax.specs.Input.{Input, Sym, Parser, tag, next, sees, after, expect, spend, repeated, begin, max_parts}
use Rattle.spec_syntax.specs.Expr as e
use Rattle.spec_syntax.specs.Expr.{operator, comparison, prim, unary, product, sum, cmp, and, or, whole, max_nesting}
use Rattle.spec_syntax.specs.Printed as p
use Rattle.spec_syntax.specs.Printed.{key, enclosed, op_tag}
use Rattle.spec_syntax.specs.Parsed.{IsTree, count}
use Rattle.law_printing.proofs.Repeats.{at_}
use Rattle.law_printing.proofs.ReadExpr.{untree, spent, grouped_binary, unary_minus, not_none, not_not, cmp_ends, cmp_binary, Operand, as_unary, as_product, as_sum, as_and, as_or}
use Rattle.law_printing.proofs.ReadTrees.{Written, count_some, no_tag, literal_read, column_read, enclosed_read, Shut, up_cmp, up_or, up_and, up_not, up_sum, up_product, up_unary}

module _ (inner : Parser Expr) where
  -- a printed operand
  of : (a : Tree) (rest : List Sym) (n m : ℕ) (x : Expr) → prim inner (at_ (p.expr a ++ rest) n) ≡ Some (x, at_ rest m) → Operand inner (at_ (p.expr a ++ rest) n) (at_ rest m) x
  of a rest n m x read = let none = no_tag a rest n in record { read = read; no_minus = none.0; no_not = none.1 }

  minus_read : (a : Tree) (rest : List Sym) (n m : ℕ) (x : Expr) → 0 < n → prim inner (at_ (p.expr a ++ key t.Close ∷ rest) (n - 1)) ≡ Some (x, Shut inner rest m)
      → or inner (at_ (key t.Minus ∷ (p.expr a ++ key t.Close ∷ rest)) n) ≡ Some (Neg x, Shut inner rest m)
  unfolding repeated same_tag
  minus_read a rest n m x some read =
      let is : (n == 0) ≡ false = grind (arith, nat_tests, some) in
      let ts = p.expr a ++ key t.Close ∷ rest in
      let one : repeated t.Minus (at_ (key t.Minus ∷ ts) n) ≡ Some (1, at_ ts (n - 1)) = rw is (rw ((no_tag a (key t.Close ∷ rest) (n - 1)).0) refl) in
      up_unary inner (at_ (key t.Minus ∷ ts) n) rest m (Neg x) refl (unary_minus inner (at_ (key t.Minus ∷ ts) n) (at_ ts (n - 1)) (Shut inner rest m) x one read)

  cmp_of : (i : Input) (rest : List Sym) (m : ℕ) (x : Expr) → Operand inner i (Shut inner rest m) x → cmp inner i ≡ Some (x, Shut inner rest m)
  unfolding tag
  cmp_of i rest m x k = up_cmp inner i rest m x (as_sum inner i (Shut inner rest m) x (as_product inner i (Shut inner rest m) x k refl) refl)

  not_read : (a : Tree) (rest : List Sym) (n m : ℕ) (x : Expr) → 0 < n → prim inner (at_ (p.expr a ++ key t.Close ∷ rest) (n - 1)) ≡ Some (x, Shut inner rest m)
      → or inner (at_ (key t.Not ∷ (p.expr a ++ key t.Close ∷ rest)) n) ≡ Some (Not x, Shut inner rest m)
  unfolding repeated same_tag
  not_read a rest n m x some read =
      let is : (n == 0) ≡ false = grind (arith, nat_tests, some) in
      let ts = p.expr a ++ key t.Close ∷ rest in
      let one : repeated t.Not (at_ (key t.Not ∷ ts) n) ≡ Some (1, at_ ts (n - 1)) = rw is (rw ((no_tag a (key t.Close ∷ rest) (n - 1)).1) refl) in
      up_and inner (at_ (key t.Not ∷ ts) n) rest m (Not x)
      (not_not inner (at_ (key t.Not ∷ ts) n) (at_ ts (n - 1)) (Shut inner rest m) x one (cmp_of (at_ ts (n - 1)) rest m x (of a (key t.Close ∷ rest) (n - 1) m x read)))

  cmp_null : (i : Input) (rest : List Sym) (m : ℕ) (x : Expr) (negated : Bool) → 0 < m → sum inner i ≡ Some (x, at_ (p.null negated ++ key t.Close ∷ rest) m) → cmp inner i ≡ Some (IsNull x negated, Shut inner rest (m - 1))
  unfolding cmp tag sees after next expect same_tag
  cmp_null i rest m x true some read = rw read (rw (spent (key t.Not ∷ key t.Null ∷ key t.Close ∷ rest) m some) refl)
  cmp_null i rest m x false some read = rw read (rw (spent (key t.Null ∷ key t.Close ∷ rest) m some) refl)

  sum_before_is : (i : Input) (rest : List Sym) (m : ℕ) (x : Expr) (negated : Bool) → Operand inner i (at_ (p.null negated ++ rest) m) x → sum inner i ≡ Some (x, at_ (p.null negated ++ rest) m)
  unfolding tag
  sum_before_is i rest m x true k = as_sum inner i (at_ (p.null true ++ rest) m) x (as_product inner i (at_ (p.null true ++ rest) m) x k refl) refl
  sum_before_is i rest m x false k = as_sum inner i (at_ (p.null false ++ rest) m) x (as_product inner i (at_ (p.null false ++ rest) m) x k refl) refl

  null_read : (a : Tree) (rest : List Sym) (n m : ℕ) (x : Expr) (negated : Bool) → 0 < m → prim inner (at_ (p.expr a ++ (p.null negated ++ key t.Close ∷ rest)) n) ≡ Some (x, at_ (p.null negated ++ key t.Close ∷ rest) m)
      → or inner (at_ (p.expr a ++ (p.null negated ++ key t.Close ∷ rest)) n) ≡ Some (IsNull x negated, Shut inner rest (m - 1))
  null_read a rest n m x negated some read =
      let tail = p.null negated ++ key t.Close ∷ rest in
      let k = of a tail n m x read in
      let i = at_ (p.expr a ++ tail) n in
      up_not inner i rest (m - 1) (IsNull x negated) k.no_not (cmp_null i rest m x negated some (sum_before_is i (key t.Close ∷ rest) m x negated k))

  -- both operands are read, before and behind the operator
  record Both (o : Op) (i k : Input) (ts rest : List Sym) (m r : ℕ) (x y : Expr) : Type 0 where
    left : Operand inner i (at_ (key (op_tag o) ∷ ts) m) x
    some : 0 < m
    paid : spend (next (at_ (key (op_tag o) ∷ ts) m)) ≡ Some (tt, k)
    right : Operand inner k (Shut inner rest r) y

  at_product : (i k : Input) (ts rest : List Sym) (m r : ℕ) (x y : Expr) → Both op.Mul i k ts rest m r x y → product inner i ≡ Some (Bin op.Mul x y, Shut inner rest r)
  unfolding product tag
  at_product i k ts rest m r x y b =
      grouped_binary (operator l.Product) (unary inner) i (at_ (key t.Star ∷ ts) m) k (Shut inner rest r) x y op.Mul (as_unary inner i (at_ (key t.Star ∷ ts) m) x b.left) refl b.some b.paid (as_unary inner k (Shut inner rest r) y b.right) refl

  at_plus : (i k : Input) (ts rest : List Sym) (m r : ℕ) (x y : Expr) → Both op.Add i k ts rest m r x y → sum inner i ≡ Some (Bin op.Add x y, Shut inner rest r)
  unfolding sum tag
  at_plus i k ts rest m r x y b =
      grouped_binary (operator l.Sum) (product inner) i (at_ (key t.Plus ∷ ts) m) k (Shut inner rest r) x y op.Add (as_product inner i (at_ (key t.Plus ∷ ts) m) x b.left refl) refl b.some b.paid (as_product inner k (Shut inner rest r) y b.right refl) refl

  at_minus : (i k : Input) (ts rest : List Sym) (m r : ℕ) (x y : Expr) → Both op.Sub i k ts rest m r x y → sum inner i ≡ Some (Bin op.Sub x y, Shut inner rest r)
  unfolding sum tag
  at_minus i k ts rest m r x y b =
      grouped_binary (operator l.Sum) (product inner) i (at_ (key t.Minus ∷ ts) m) k (Shut inner rest r) x y op.Sub (as_product inner i (at_ (key t.Minus ∷ ts) m) x b.left refl) refl b.some b.paid (as_product inner k (Shut inner rest r) y b.right refl) refl

  at_cmp : (o : Op) (i k : Input) (ts rest : List Sym) (m r : ℕ) (x y : Expr) → operator l.Product (op_tag o) ≡ None → operator l.Sum (op_tag o) ≡ None → comparison (op_tag o) ≡ Some o → Both o i k ts rest m r x y
      → cmp inner i ≡ Some (Bin o x y, Shut inner rest r)
  unfolding tag
  at_cmp o i k ts rest m r x y one two is b =
      let j = at_ (key (op_tag o) ∷ ts) m in
      cmp_binary inner i j k (Shut inner rest r) x y o (as_sum inner i j x (as_product inner i j x b.left one) two) is b.paid (as_sum inner k (Shut inner rest r) y (as_product inner k (Shut inner rest r) y b.right refl) refl)

  not_of : (i j : Input) (x : Expr) → Operand inner i j x → operator l.Product (tag j) ≡ None → operator l.Sum (tag j) ≡ None → comparison (tag j) ≡ None → sees t.Is j ≡ false → e.not inner i ≡ Some (x, j)
  not_of i j x k one two three four = not_none inner i j x k.no_not (cmp_ends inner i j x (as_sum inner i j x (as_product inner i j x k one) two) three four)

  at_and : (i k : Input) (ts rest : List Sym) (m r : ℕ) (x y : Expr) → Both op.And i k ts rest m r x y → and inner i ≡ Some (Bin op.And x y, Shut inner rest r)
  unfolding and tag sees same_tag
  at_and i k ts rest m r x y b =
      grouped_binary (operator l.And) (e.not inner) i (at_ (key t.And ∷ ts) m) k (Shut inner rest r) x y op.And (not_of i (at_ (key t.And ∷ ts) m) x b.left refl refl refl refl) refl b.some b.paid
      (not_of k (Shut inner rest r) y b.right refl refl refl refl) refl

  at_or : (i k : Input) (ts rest : List Sym) (m r : ℕ) (x y : Expr) → Both op.Or i k ts rest m r x y → or inner i ≡ Some (Bin op.Or x y, Shut inner rest r)
  unfolding or tag sees same_tag
  at_or i k ts rest m r x y b =
      grouped_binary (operator l.Or) (and inner) i (at_ (key t.Or ∷ ts) m) k (Shut inner rest r) x y op.Or
      (as_and inner i (at_ (key t.Or ∷ ts) m) x (not_of i (at_ (key t.Or ∷ ts) m) x b.left refl refl refl refl) refl) refl b.some b.paid
      (as_and inner k (Shut inner rest r) y (not_of k (Shut inner rest r) y b.right refl refl refl refl) refl) refl

  at_any : (o : Op) (i k : Input) (ts rest : List Sym) (m r : ℕ) (x y : Expr) → Both o i k ts rest m r x y → or inner i ≡ Some (Bin o x y, Shut inner rest r)
  at_any op.Add i k ts rest m r x y b = up_sum inner i rest r (Bin op.Add x y) b.left.no_not (at_plus i k ts rest m r x y b)
  at_any op.Sub i k ts rest m r x y b = up_sum inner i rest r (Bin op.Sub x y) b.left.no_not (at_minus i k ts rest m r x y b)
  at_any op.Mul i k ts rest m r x y b = up_product inner i rest r (Bin op.Mul x y) b.left.no_not (at_product i k ts rest m r x y b)
  at_any op.Eq i k ts rest m r x y b = up_not inner i rest r (Bin op.Eq x y) b.left.no_not (at_cmp op.Eq i k ts rest m r x y refl refl refl b)
  at_any op.Ne i k ts rest m r x y b = up_not inner i rest r (Bin op.Ne x y) b.left.no_not (at_cmp op.Ne i k ts rest m r x y refl refl refl b)
  at_any op.Lt i k ts rest m r x y b = up_not inner i rest r (Bin op.Lt x y) b.left.no_not (at_cmp op.Lt i k ts rest m r x y refl refl refl b)
  at_any op.Le i k ts rest m r x y b = up_not inner i rest r (Bin op.Le x y) b.left.no_not (at_cmp op.Le i k ts rest m r x y refl refl refl b)
  at_any op.Gt i k ts rest m r x y b = up_not inner i rest r (Bin op.Gt x y) b.left.no_not (at_cmp op.Gt i k ts rest m r x y refl refl refl b)
  at_any op.Ge i k ts rest m r x y b = up_not inner i rest r (Bin op.Ge x y) b.left.no_not (at_cmp op.Ge i k ts rest m r x y refl refl refl b)
  at_any op.And i k ts rest m r x y b = up_or inner i rest r (Bin op.And x y) (at_and i k ts rest m r x y b)
  at_any op.Or i k ts rest m r x y b = at_or i k ts rest m r x y b

  binary_read : (o : Op) (a b : Tree) (rest : List Sym) (n m r : ℕ) (x y : Expr) → 0 < m → prim inner (at_ (p.expr a ++ (key (op_tag o) ∷ (p.expr b ++ key t.Close ∷ rest))) n) ≡ Some (x, at_ (key (op_tag o) ∷ (p.expr b ++ key t.Close ∷ rest)) m)
      → prim inner (at_ (p.expr b ++ key t.Close ∷ rest) (m - 1)) ≡ Some (y, Shut inner rest r)
      → or inner (at_ (p.expr a ++ (key (op_tag o) ∷ (p.expr b ++ key t.Close ∷ rest))) n) ≡ Some (Bin o x y, Shut inner rest r)
  unfolding next
  binary_read o a b rest n m r x y some first second =
      let ts = p.expr b ++ key t.Close ∷ rest in
      at_any o (at_ (p.expr a ++ (key (op_tag o) ∷ ts)) n) (at_ ts (m - 1)) ts rest m r x y (record {
        left = of a (key (op_tag o) ∷ ts) n m x first;
        some = some;
        paid = spent ts m some;
        right = of b (key t.Close ∷ rest) (m - 1) r y second;
      })

-- ---- all of it

abbrev Reads : ℕ → Tree → Type 0
Reads d a = (rest : List Sym) (n : ℕ) → count a ≤ n → prim (e.expr d) (at_ (p.expr a ++ rest) n) ≡ Some (untree a, at_ rest (n - count a))

enclosed_at : (d : ℕ) (ts rest : List Sym) (n m k : ℕ) (x : Expr) → m ≡ k → or (e.expr d) (at_ (ts ++ key t.Close ∷ rest) n) ≡ Some (x, at_ (key t.Close ∷ rest) m) → prim (e.expr (suc d)) (at_ (enclosed ts ++ rest) n) ≡ Some (x, at_ rest k)
unfolding e.expr
enclosed_at d ts rest n m k x same read = enclosed_read (e.expr (suc d)) ts rest n m x read ∙ ap (λ z. Some (x, at_ rest z)) same

minus_at : (d : ℕ) (a : Tree) → Reads d a → Reads (suc d) (minus a)
minus_at d a read rest n fits =
    let some = count_some a in
    enclosed_at d (key t.Minus ∷ p.expr a) rest n (n - 1 - count a) (n - count (minus a)) (Neg (untree a)) (omega arith)
    (minus_read (e.expr d) a rest n (n - 1 - count a) (untree a) (omega (arith, fits)) (read (key t.Close ∷ rest) (n - 1) (omega (arith, fits))))

not_at : (d : ℕ) (a : Tree) → Reads d a → Reads (suc d) (not a)
not_at d a read rest n fits =
    enclosed_at d (key t.Not ∷ p.expr a) rest n (n - 1 - count a) (n - count (not a)) (Not (untree a)) (omega arith)
    (not_read (e.expr d) a rest n (n - 1 - count a) (untree a) (omega (arith, fits)) (read (key t.Close ∷ rest) (n - 1) (omega (arith, fits))))

null_at : (d : ℕ) (a : Tree) (negated : Bool) → Reads d a → Reads (suc d) (is_null a negated)
null_at d a negated read rest n fits =
    let flat = append_assoc (p.expr a) (p.null negated) (key t.Close ∷ rest) in
    enclosed_at d (p.expr a ++ p.null negated) rest n (n - count a - 1) (n - count (is_null a negated)) (IsNull (untree a) negated) (omega arith)
    (ap (λ z. or (e.expr d) (at_ z n)) flat
    ∙ null_read (e.expr d) a rest n (n - count a) (untree a) negated (omega (arith, fits)) (read (p.null negated ++ key t.Close ∷ rest) n (omega (arith, fits))))

binary_at : (d : ℕ) (o : Op) (a b : Tree) → Reads d a → Reads d b → Reads (suc d) (binary o a b)
binary_at d o a b first second rest n fits =
    let flat = append_assoc (p.expr a) (key (op_tag o) ∷ p.expr b) (key t.Close ∷ rest) in
    let some = count_some b in
    enclosed_at d (p.expr a ++ key (op_tag o) ∷ p.expr b) rest n (n - count a - 1 - count b) (n - count (binary o a b)) (Bin o (untree a) (untree b)) (omega arith)
    (ap (λ z. or (e.expr d) (at_ z n)) flat
    ∙ binary_read (e.expr d) o a b rest n (n - count a) (n - count a - 1 - count b) (untree a) (untree b) (omega (arith, fits))
    (first (key (op_tag o) ∷ (p.expr b ++ key t.Close ∷ rest)) n (omega (arith, fits))) (second (key t.Close ∷ rest) (n - count a - 1) (omega (arith, fits))))

pub tree_read : Written → (a : Tree) → IsTree a → (d : ℕ) → count a ≤ suc d → Reads d a
tree_read written (literal v) is d few = λ rest n fits. literal_read (e.expr d) written v is.0 rest n (omega (arith, fits))
tree_read written (column c) is d few = λ rest n fits. column_read (e.expr d) c rest n (omega (arith, fits))
tree_read written (minus a) is zero few = absurd (omega (arith, few, count_some a))
tree_read written (minus a) is (suc d) few = minus_at d a (tree_read written a is d (omega (arith, few)))
tree_read written (not a) is zero few = absurd (omega (arith, few, count_some a))
tree_read written (not a) is (suc d) few = not_at d a (tree_read written a is d (omega (arith, few)))
tree_read written (is_null a negated) is zero few = absurd (omega (arith, few, count_some a))
tree_read written (is_null a negated) is (suc d) few = null_at d a negated (tree_read written a is d (omega (arith, few)))
tree_read written (binary o a b) is zero few = absurd (omega (arith, few, count_some a))
tree_read written (binary o a b) is (suc d) few = binary_at d o a b (tree_read written a is.0 d (omega (arith, few))) (tree_read written b is.1 d (omega (arith, few)))

-- nothing goes on with an expression there
abbrev pub Ends : Input → Type 0
Ends j = (operator l.Product (tag j) ≡ None) × (operator l.Sum (tag j) ≡ None) × (comparison (tag j) ≡ None) × (sees t.Is j ≡ false) × (operator l.And (tag j) ≡ None) × (operator l.Or (tag j) ≡ None)

or_of : (inner : Parser Expr) (i j : Input) (x : Expr) → Operand inner i j x → Ends j → or inner i ≡ Some (x, j)
or_of inner i j x k end = as_or inner i j x (as_and inner i j x (not_of inner i j x k end.0 end.1 end.2 end.3) end.4) end.5

pub whole_read : Written → (a : Tree) → IsTree a → count a ≤ max_parts → (rest : List Sym) (n : ℕ) → Ends (at_ rest (max_parts - count a)) → whole (at_ (p.expr a ++ rest) n) ≡ Some (untree a, at_ rest (max_parts - count a))
unfolding whole begin
whole_read written a is few rest n end =
    or_of (e.expr max_nesting) (at_ (p.expr a ++ rest) max_parts) (at_ rest (max_parts - count a)) (untree a)
    (of (e.expr max_nesting) a rest max_parts (max_parts - count a) (untree a) (tree_read written a is max_nesting (omega (arith, few)) rest max_parts few)) end
