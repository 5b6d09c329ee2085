-- Printed trees are read as themselves.
use Rattle.std.proofs.Common.{◌≡◌, ℕ, ◌-◌, ◌<◌, List, [], ◌∷◌, ◌++◌, Some, refl, arith, append_assoc}
use Rattle.std.specs.Prelude.{ℤ}
use Rattle.sql_value.specs.declared.value.Value.{Value}
use Rattle.sql_value.specs.declared.value.Value.TheVariants as value
use Rattle.sql_value.specs.declared.expr.Expr.{Expr}
use Rattle.sql_value.specs.declared.expr.Expr.TheVariants.{Lit, Col}
use Rattle.sql_value.specs.Tree.{Tree, literal, column, minus, not, is_null, binary}
use Rattle.sql_value.specs.Literal.{literal_of}
use Rattle.sql_value.specs.Literals.{IsLiteral}
use Rattle.sql_value.specs.Printed.{literal_text}
use Rattle.spec_syntax.specs.declared.tag.Tag.TheVariants as t
use Rattle.spec_syntax.specs.declared.level.Level.TheVariants as l
use Rattle.spec_syntax.specs.Tags.{same_tag}
use Rattle.spec_syntax.specs.Input.{Input, Sym, Parser, tag, text, next, sees, after, expect, repeated}
use Rattle.spec_syntax.specs.Expr as e
use Rattle.spec_syntax.specs.Expr.{operator, prim, unary, product, sum, cmp, and, or, leaf, name, inside}
use Rattle.spec_syntax.specs.Printed as p
use Rattle.spec_syntax.specs.Printed.{key, enclosed}
use Rattle.spec_syntax.specs.Parsed.{count}
use Rattle.law_printing.proofs.Names.{closed}
use Rattle.law_printing.proofs.Repeats.{at_}
use Rattle.law_printing.proofs.ReadExpr.{spent, grouped_ends, not_none, cmp_ends, as_sum, as_and, as_or}

-- what is written of a literal is read as the value
abbrev pub Written : Type 0
Written = (v : Value) → IsLiteral v → literal_of (literal_text v) ≡ Some v

pub count_some : (a : Tree) → 0 < count a
count_some (literal v) = omega arith
count_some (column n) = omega arith
count_some (minus a) = omega arith
count_some (not a) = omega arith
count_some (is_null a negated) = omega arith
count_some (binary o a b) = omega arith

-- a token begins it that is neither of these
pub no_tag : (a : Tree) (rest : List Sym) (n : ℕ) → (repeated t.Minus (at_ (p.expr a ++ rest) n) ≡ Some (0, at_ (p.expr a ++ rest) n)) × (repeated t.Not (at_ (p.expr a ++ rest) n) ≡ Some (0, at_ (p.expr a ++ rest) n))
unfolding repeated same_tag
no_tag (literal value.Null) rest n = (refl, refl)
no_tag (literal (value.Num s v)) rest n = (refl, refl)
no_tag (literal (value.Text x)) rest n = (refl, refl)
no_tag (literal (value.Bytes b)) rest n = (refl, refl)
no_tag (literal (value.Date d)) rest n = (refl, refl)
no_tag (column c) rest n = (refl, refl)
no_tag (minus a) rest n = (refl, refl)
no_tag (not a) rest n = (refl, refl)
no_tag (is_null a negated) rest n = (refl, refl)
no_tag (binary o a b) rest n = (refl, refl)

pub name_read : (c : List ℕ) (rest : List Sym) (n : ℕ) → name (at_ (p.name c ∷ rest) n) ≡ Some (c, at_ rest n)
unfolding name tag text next inside
name_read c rest n = rw (closed c) refl

module _ (inner : Parser Expr) where
  pub column_read : (c : List ℕ) (rest : List Sym) (n : ℕ) → 0 < n → prim inner (at_ (p.name c ∷ rest) n) ≡ Some (Col c, at_ rest (n - 1))
  unfolding prim leaf sees after tag same_tag
  column_read c rest n some = rw (spent (p.name c ∷ rest) n some) (rw (name_read c rest (n - 1)) refl)

  null_literal_read : Written → (rest : List Sym) (n : ℕ) → 0 < n → prim inner (at_ (p.literal_sym value.Null ∷ rest) n) ≡ Some (Lit value.Null, at_ rest (n - 1))
  unfolding prim leaf e.literal sees after tag text next same_tag
  null_literal_read written rest n some = rw (spent (p.literal_sym value.Null ∷ rest) n some) (rw (written value.Null tt) refl)

  number_read : Written → (v : ℤ) (s : ℕ) → IsLiteral (value.Num s v) → (rest : List Sym) (n : ℕ) → 0 < n → prim inner (at_ (p.literal_sym (value.Num s v) ∷ rest) n) ≡ Some (Lit (value.Num s v), at_ rest (n - 1))
  unfolding prim leaf e.literal sees after tag text next same_tag
  number_read written v s is rest n some = rw (spent (p.literal_sym (value.Num s v) ∷ rest) n some) (rw (written (value.Num s v) is) refl)

  text_read : Written → (x : List ℕ) (rest : List Sym) (n : ℕ) → 0 < n → prim inner (at_ (p.literal_sym (value.Text x) ∷ rest) n) ≡ Some (Lit (value.Text x), at_ rest (n - 1))
  unfolding prim leaf e.literal sees after tag text next same_tag
  text_read written x rest n some = rw (spent (p.literal_sym (value.Text x) ∷ rest) n some) (rw (written (value.Text x) tt) refl)

  bytes_read : Written → (b : List ℕ) → IsLiteral (value.Bytes b) → (rest : List Sym) (n : ℕ) → 0 < n → prim inner (at_ (p.literal_sym (value.Bytes b) ∷ rest) n) ≡ Some (Lit (value.Bytes b), at_ rest (n - 1))
  unfolding prim leaf e.literal sees after tag text next same_tag
  bytes_read written b is rest n some = rw (spent (p.literal_sym (value.Bytes b) ∷ rest) n some) (rw (written (value.Bytes b) is) refl)

  pub literal_read : Written → (v : Value) → IsLiteral v → (rest : List Sym) (n : ℕ) → 0 < n → prim inner (at_ (p.literal_sym v ∷ rest) n) ≡ Some (Lit v, at_ rest (n - 1))
  literal_read written value.Null is rest n some = null_literal_read written rest n some
  literal_read written (value.Num s v) is rest n some = number_read written v s is rest n some
  literal_read written (value.Text x) is rest n some = text_read written x rest n some
  literal_read written (value.Bytes b) is rest n some = bytes_read written b is rest n some
  literal_read written (value.Date d) is rest n some = absurd is

  pub enclosed_read : (ts rest : List Sym) (n m : ℕ) (a : Expr) → inner (at_ (ts ++ key t.Close ∷ rest) n) ≡ Some (a, at_ (key t.Close ∷ rest) m) → prim inner (at_ (enclosed ts ++ rest) n) ≡ Some (a, at_ rest m)
  unfolding prim sees after next expect same_tag
  enclosed_read ts rest n m a read =
      rw (append_assoc ts (key t.Close ∷ []) rest) (rw read refl)

  -- ---- what stands in the parentheses of each operator, up to the one that closes them

  abbrev pub Shut : List Sym → ℕ → Input
  Shut rest m = at_ (key t.Close ∷ rest) m

  pub up_cmp : (i : Input) (rest : List Sym) (m : ℕ) (a : Expr) → sum inner i ≡ Some (a, Shut rest m) → cmp inner i ≡ Some (a, Shut rest m)
  unfolding tag sees same_tag
  up_cmp i rest m a read = cmp_ends inner i (Shut rest m) a read refl refl

  pub up_or : (i : Input) (rest : List Sym) (m : ℕ) (a : Expr) → and inner i ≡ Some (a, Shut rest m) → or inner i ≡ Some (a, Shut rest m)
  unfolding tag
  up_or i rest m a read = as_or inner i (Shut rest m) a read refl

  pub up_and : (i : Input) (rest : List Sym) (m : ℕ) (a : Expr) → e.not inner i ≡ Some (a, Shut rest m) → or inner i ≡ Some (a, Shut rest m)
  unfolding tag
  up_and i rest m a read = up_or i rest m a (as_and inner i (Shut rest m) a read refl)

  pub up_not : (i : Input) (rest : List Sym) (m : ℕ) (a : Expr) → repeated t.Not i ≡ Some (0, i) → cmp inner i ≡ Some (a, Shut rest m) → or inner i ≡ Some (a, Shut rest m)
  up_not i rest m a none read = up_and i rest m a (not_none inner i (Shut rest m) a none read)

  pub up_sum : (i : Input) (rest : List Sym) (m : ℕ) (a : Expr) → repeated t.Not i ≡ Some (0, i) → sum inner i ≡ Some (a, Shut rest m) → or inner i ≡ Some (a, Shut rest m)
  up_sum i rest m a none read = up_not i rest m a none (up_cmp i rest m a read)

  pub up_product : (i : Input) (rest : List Sym) (m : ℕ) (a : Expr) → repeated t.Not i ≡ Some (0, i) → product inner i ≡ Some (a, Shut rest m) → or inner i ≡ Some (a, Shut rest m)
  unfolding tag
  up_product i rest m a none read = up_sum i rest m a none (as_sum inner i (Shut rest m) a read refl)

  pub up_unary : (i : Input) (rest : List Sym) (m : ℕ) (a : Expr) → repeated t.Not i ≡ Some (0, i) → unary inner i ≡ Some (a, Shut rest m) → or inner i ≡ Some (a, Shut rest m)
  unfolding tag product
  up_unary i rest m a none read = up_product i rest m a none (grouped_ends (operator l.Product) (unary inner) i (Shut rest m) a read refl)
