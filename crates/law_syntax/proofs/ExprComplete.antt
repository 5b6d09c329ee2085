-- An expression of the grammar is read, whatever stands after it that cannot go on with it.
use Rattle.std.proofs.Common.{◌≡◌, ◌∙◌, ℕ, zero, suc, ◌+◌, ◌-◌, ◌<◌, ◌≤◌, Bool, true, false, List, [], ◌∷◌, ◌++◌, map, Option, Some, None, refl, ap, sym, subst, arith, append_assoc, add-one, eqb, codes, ◌⊎◌, inl, inr}
use Rattle.std.proofs.lemmas.Bool.Decides.{nat_tests}
use Rattle.sql_lex.specs.declared.token.Kind.TheVariants as kind
use Rattle.sql_value.specs.declared.value.Value.{Value}
use Rattle.sql_value.specs.declared.value.Value.TheVariants.{Null}
use Rattle.sql_value.specs.declared.expr.Op.{Op}
use Rattle.sql_value.specs.declared.expr.Op.TheVariants as op
use Rattle.sql_value.specs.declared.expr.Expr.{Expr}
use Rattle.sql_value.specs.declared.expr.Expr.TheVariants.{Lit, Col, Neg, Not, IsNull, Bin}
use Rattle.sql_value.specs.Tree.{tree}
use Rattle.sql_value.specs.Literal.{literal_of}
use Rattle.spec_grammar.specs.Tokens.{Lexemes, Word, word, Sign, sign, IsName, bare, bracketed, number, IsConstant, text as a_text, bytes, null}
use Rattle.spec_grammar.specs.Expressions as g
use Rattle.spec_grammar.specs.Expressions.{Level as Production, Expr', And', Not', Cmp', Sum', Prod', Unary', Prim', Derives, IsComparison, parts, IsExpr}
use Rattle.spec_syntax.specs.declared.tag.Tag.{Tag}
use Rattle.spec_syntax.specs.declared.tag.Tag.TheVariants as t
use Rattle.spec_syntax.specs.declared.level.Level.{Level}
use Rattle.spec_syntax.specs.declared.level.Level.TheVariants as l
use Rattle.spec_syntax.specs.Tags.{same_tag, tag_of}
use Rattle.spec_syntax.specs.Input.{Input, Sym, Outcome, Parser, and_then, ◌>>=◌, ◌>>◌, ◌<$>◌, pure, peek, take_text, tag, tag_at, text, next, sees, after, eat, expect, spend, repeated, repeated_at, begin, required, max_parts}
use Rattle.spec_syntax.specs.Expr.{operator, comparison, name, literal, literal_by, inside, leaf, leaf_by, times, more, more_by, prim, unary, product, sum, cmp, cmp_by, not, level, operand, expr, whole, max_nesting}
use Rattle.law_printing.proofs.Repeats.{at_}
use Rattle.law_printing.proofs.Names.{closed}
use Rattle.law_syntax.proofs.Levels.{starts}
use Rattle.sql_value.proofs.Trees.{of_literal, of_column, of_minus, of_not, of_is_null, of_binary}
use Rattle.law_syntax.proofs.Terminals as w
use Rattle.law_syntax.proofs.Terminals.{Terminal, tagged, word_tag}
use Rattle.law_syntax.proofs.Leaves.{free_word, null_value}
use Rattle.law_syntax.proofs.NotEqual.{not_equal_tag, not_equal_too_tag}
use Rattle.law_syntax.proofs.Steps.{the_same, same_tag_true}
use Rattle.law_syntax.proofs.ExprSound.{below}
use Rattle.law_syntax.proofs.ExprFalls.{FallsTo, Falls, operand_falls, expr_falls}

-- ---- tokens of the grammar as the parser's

abbrev pub syms : Lexemes → List Sym
syms a = map tagged a

pub syms_join : (a b : Lexemes) → syms (a ++ b) ≡ syms a ++ syms b
syms_join [] b = refl
syms_join (s ∷ a) b = ap (λ z. tagged s ∷ z) (syms_join a b)

-- one token of this tag
pub record One (gt : Tag) (a : Lexemes) : Type 0 where
  pub word_ : List ℕ
  pub is : syms a ≡ (gt, word_) ∷ []

pub one : {gt : Tag} {part : Lexemes → Type 0} → Terminal gt part → (a : Lexemes) → part a → One gt a
one {gt} is a h =
    let k = is.takes a h in
    record { word_ = k.1; is = ap syms k.2 ∙ ap (λ z. (z, k.1) ∷ []) k.3 }

-- before other tokens
pub led : {gt : Tag} (a b : Lexemes) (o : One gt a) → syms (a ++ b) ≡ (gt, o.word_) ∷ syms b
led a b o = syms_join a b ∙ ap (λ z. z ++ syms b) o.is

-- and behind others
pub parted : {gt : Tag} (a b c : Lexemes) (o : One gt b) → syms (a ++ (b ++ c)) ≡ syms a ++ (gt, o.word_) ∷ syms c
parted a b c o = syms_join a (b ++ c) ∙ ap (λ z. syms a ++ z) (led b c o)

-- ---- steps of a parser

pub spend_some : (i : Input) → 0 < i.left → spend i ≡ Some (tt, record { rest = i.rest; left = i.left - 1 })
unfolding spend
spend_some i some = let e : eqb i.left 0 ≡ false = grind (arith, nat_tests) in rw e refl

pub spend_none : (i : Input) → i.left ≡ 0 → spend i ≡ None
unfolding spend
spend_none i none = let e : eqb i.left 0 ≡ true = grind (arith, nat_tests) in rw e refl

some_or_none : (n : ℕ) → (0 < n) ⊎ (n ≡ 0)
some_or_none zero = inr refl
some_or_none (suc n) = inl (omega arith)

falls_at : (o : Outcome Expr) (n : ℕ) (e : Expr) (j : Input) → FallsTo n o → o ≡ Some (e, j) → j.left ≤ n
falls_at None n e j k h = absurd (cc)
falls_at (Some q) n e j k h = let same : q.1 ≡ j = ap (λ p. p.1) (the_same h) in subst (λ (z : Input). z.left ≤ n) same k

module _ (ops : Tag → Option Op) (operand_ : Parser Expr) (falls : Falls operand_) where
  after_operand : (f k : ℕ) (o : Op) (a : Expr) (i : Input) → ((b : Expr) (j : Input) → j.left < f → j.left < k → more ops operand_ f b j ≡ more ops operand_ k b j) → i.left ≤ f → i.left ≤ k → 0 < i.left
      → (r : Outcome Expr) → operand_ (record { rest = (next i).rest; left = (next i).left - 1 }) ≡ r
      → and_then r (λ right. more ops operand_ f (Bin o a right)) ≡ and_then r (λ right. more ops operand_ k (Bin o a right))
  unfolding next
  after_operand f k o a i again hf hk some None e = refl
  after_operand f k o a i again hf hk some (Some p) e =
      let h : p.1.left ≤ i.left - 1 = falls_at _ (i.left - 1) p.0 p.1 (falls (record { rest = (next i).rest; left = (next i).left - 1 })) e in
      again (Bin o a p.0) p.1 (omega arith) (omega arith)

  after_operator : (f k : ℕ) (o : Op) (a : Expr) (i : Input) → ((b : Expr) (j : Input) → j.left < f → j.left < k → more ops operand_ f b j ≡ more ops operand_ k b j) → i.left ≤ f → i.left ≤ k
      → (0 < i.left) ⊎ (i.left ≡ 0)
      → and_then (and_then (spend (next i)) (λ _. operand_)) (λ right. more ops operand_ f (Bin o a right)) ≡ and_then (and_then (spend (next i)) (λ _. operand_)) (λ right. more ops operand_ k (Bin o a right))
  unfolding next
  after_operator f k o a i again hf hk (inl some) = rw (spend_some (next i) some) (after_operand f k o a i again hf hk some _ refl)
  after_operator f k o a i again hf hk (inr none) = rw (spend_none (next i) none) refl

  at_option : (f k : ℕ) (q : Option Op) (a : Expr) (i : Input) → ((b : Expr) (j : Input) → j.left < f → j.left < k → more ops operand_ f b j ≡ more ops operand_ k b j) → i.left ≤ f → i.left ≤ k
      → more_by ops operand_ q (λ o. take_text >> spend >> operand_ >>= (λ right. more ops operand_ f (Bin o a right))) a i
      ≡ more_by ops operand_ q (λ o. take_text >> spend >> operand_ >>= (λ right. more ops operand_ k (Bin o a right))) a i
  at_option f k None a i again hf hk = refl
  at_option f k (Some o) a i again hf hk = after_operator f k o a i again hf hk (some_or_none i.left)

  -- enough turns are as good as any other number that is enough
  more_same : (f k : ℕ) (a : Expr) (i : Input) → i.left < f → i.left < k → more ops operand_ f a i ≡ more ops operand_ k a i
  unfolding more
  more_same zero k a i hf hk = absurd (omega arith)
  more_same (suc f) zero a i hf hk = absurd (omega arith)
  more_same (suc f) (suc k) a i hf hk = at_option f k (ops (tag i)) a i (more_same f k) (omega arith) (omega arith)

-- ---- what is claimed of each production, for an expression of so many parts

-- how tightly a token binds after an expression
abbrev pub binds : Tag → ℕ
binds t.Or = 1
binds t.And = 2
binds t.Equal = 3
binds t.NotEqual = 3
binds t.Less = 3
binds t.LessEqual = 3
binds t.Greater = 3
binds t.GreaterEqual = 3
binds t.Is = 3
binds t.Plus = 4
binds t.Minus = 4
binds t.Star = 5
binds _ = 0

abbrev rank : Level → ℕ
rank l.Or = 1
rank l.And = 2
rank l.Sum = 4
rank l.Product = 5

abbrev LevelClaim : ℕ → Level → List Sym → ℕ → Expr → Type 0
LevelClaim d k xs c e = (rest : List Sym) (n f : ℕ) → binds (tag_at rest) ≤ rank k → c ≤ n → n - c < f
    → level (expr d) k (at_ (xs ++ rest) n) ≡ more (operator k) (operand (expr d) k) f e (at_ rest (n - c))

abbrev Claim : ℕ → Production → List Sym → ℕ → Expr → Type 0
Claim d Expr' xs c e = LevelClaim d l.Or xs c e
Claim d And' xs c e = LevelClaim d l.And xs c e
Claim d Sum' xs c e = LevelClaim d l.Sum xs c e
Claim d Prod' xs c e = LevelClaim d l.Product xs c e
Claim d Not' xs c e = (rest : List Sym) (n : ℕ) → binds (tag_at rest) < 3 → c ≤ n → not (expr d) (at_ (xs ++ rest) n) ≡ Some (e, at_ rest (n - c))
Claim d Cmp' xs c e = (rest : List Sym) (n : ℕ) → binds (tag_at rest) < 3 → c ≤ n → cmp (expr d) (at_ (xs ++ rest) n) ≡ Some (e, at_ rest (n - c))
Claim d Unary' xs c e = (rest : List Sym) (n : ℕ) → c ≤ n → unary (expr d) (at_ (xs ++ rest) n) ≡ Some (e, at_ rest (n - c))
Claim d Prim' xs c e = (rest : List Sym) (n : ℕ) → c ≤ n → prim (expr d) (at_ (xs ++ rest) n) ≡ Some (e, at_ rest (n - c))

stops : (k : Level) (gt : Tag) → binds gt < rank k → operator k gt ≡ None
stops l.Or t.Or h = absurd (omega arith)
stops l.Or _ h = refl
stops l.And t.And h = absurd (omega arith)
stops l.And _ h = refl
stops l.Sum t.Plus h = absurd (omega arith)
stops l.Sum t.Minus h = absurd (omega arith)
stops l.Sum _ h = refl
stops l.Product t.Star h = absurd (omega arith)
stops l.Product _ h = refl

op_binds : (k : Level) (gt : Tag) (o : Op) → operator k gt ≡ Some o → binds gt ≡ rank k
op_binds l.Or t.Or o h = refl
op_binds l.Or _ o h = absurd (cc)
op_binds l.And t.And o h = refl
op_binds l.And _ o h = absurd (cc)
op_binds l.Sum t.Plus o h = refl
op_binds l.Sum t.Minus o h = refl
op_binds l.Sum _ o h = absurd (cc)
op_binds l.Product t.Star o h = refl
op_binds l.Product _ o h = absurd (cc)

falls : (d : ℕ) (k : Level) → Falls (operand (expr d) k)
falls d k = operand_falls (expr d) (expr_falls d) k

more_stops : (d : ℕ) (k : Level) (f : ℕ) (e : Expr) (rest : List Sym) (n : ℕ) → binds (tag_at rest) < rank k → 0 < f → more (operator k) (operand (expr d) k) f e (at_ rest n) ≡ Some (e, at_ rest n)
unfolding more tag
more_stops d k zero e rest n free some = absurd (omega arith)
more_stops d k (suc f) e rest n free some = rw (stops k (tag_at rest) free) refl

-- a level to its end
ends : (d : ℕ) (k : Level) (xs : List Sym) (c : ℕ) (e : Expr) → LevelClaim d k xs c e → (rest : List Sym) (n : ℕ) → binds (tag_at rest) < rank k → c ≤ n → level (expr d) k (at_ (xs ++ rest) n) ≡ Some (e, at_ rest (n - c))
ends d k xs c e claim rest n free fits =
    claim rest n (n - c + 1) (omega arith) fits (omega arith) ∙ more_stops d k (n - c + 1) e rest (n - c) free (omega arith)

operand_reads : (d : ℕ) (k : Level) (xs : List Sym) (c : ℕ) (e : Expr) → Claim d (below k) xs c e → (rest : List Sym) (n : ℕ) → binds (tag_at rest) ≤ rank k → c ≤ n
    → operand (expr d) k (at_ (xs ++ rest) n) ≡ Some (e, at_ rest (n - c))
unfolding operand
operand_reads d l.Or xs c e claim rest n free fits = ends d l.And xs c e claim rest n (omega arith) fits
operand_reads d l.And xs c e claim rest n free fits = claim rest n (omega arith) fits
operand_reads d l.Sum xs c e claim rest n free fits = ends d l.Product xs c e claim rest n (omega arith) fits
operand_reads d l.Product xs c e claim rest n free fits = claim rest n fits

level_up : (d : ℕ) (k : Level) (xs : List Sym) (c : ℕ) (e : Expr) → Claim d (below k) xs c e → LevelClaim d k xs c e
level_up d k xs c e claim rest n f free fits enough =
    starts (expr d) k (at_ (xs ++ rest) n) (at_ rest (n - c)) e (operand_reads d k xs c e claim rest n free fits)
    ∙ more_same (operator k) (operand (expr d) k) (falls d k) (n - c + 1) f e (at_ rest (n - c)) (omega arith) enough

-- one more turn
turn_reads : (d : ℕ) (k : Level) (ys : List Sym) (a b : Expr) (c : ℕ) (o : Op) (s : Tag) (v : List ℕ) → operator k s ≡ Some o → Claim d (below k) ys c b → (rest : List Sym) (m f : ℕ)
    → binds (tag_at rest) ≤ rank k → c + 1 ≤ m
    → more (operator k) (operand (expr d) k) (suc f) a (at_ ((s, v) ∷ (ys ++ rest)) m) ≡ more (operator k) (operand (expr d) k) f (Bin o a b) (at_ rest (m - 1 - c))
unfolding more tag next
turn_reads d k ys a b c o s v is claim rest m f free fits =
    let then_ : Expr → Parser Expr = λ right. more (operator k) (operand (expr d) k) f (Bin o a right) in
    rw is (ap (λ q. and_then (and_then q (λ _. operand (expr d) k)) then_) (spend_some (at_ (ys ++ rest) m) (omega arith))
    ∙ ap (λ q. and_then q then_) (operand_reads d k ys c b claim rest (m - 1) free (omega arith)))

level_group : (d : ℕ) (k : Level) (xs ys : List Sym) (a b : Expr) (ca cb : ℕ) (o : Op) (s : Tag) (v : List ℕ) → operator k s ≡ Some o → LevelClaim d k xs ca a → Claim d (below k) ys cb b
    → LevelClaim d k (xs ++ (s, v) ∷ ys) (ca + cb + 1) (Bin o a b)
level_group d k xs ys a b ca cb o s v is left right rest n f free fits enough =
    let same = op_binds k s o is in
    let m : n - ca - 1 - cb ≡ n - (ca + cb + 1) = omega arith in
    ap (λ z. level (expr d) k (at_ z n)) (append_assoc xs ((s, v) ∷ ys) rest)
    ∙ left ((s, v) ∷ (ys ++ rest)) n (suc n) (omega (arith, same)) (omega arith) (omega arith)
    ∙ turn_reads d k ys a b cb o s v is right rest (n - ca) n free (omega arith)
    ∙ ap (λ z. more (operator k) (operand (expr d) k) n (Bin o a b) (at_ rest z)) m
    ∙ more_same (operator k) (operand (expr d) k) (falls d k) n f (Bin o a b) (at_ rest (n - (ca + cb + 1))) (omega arith) enough

-- ---- comparisons

no_comparison : (s : Tag) → binds s < 3 → comparison s ≡ None
no_comparison t.Equal h = absurd (omega arith)
no_comparison t.NotEqual h = absurd (omega arith)
no_comparison t.Less h = absurd (omega arith)
no_comparison t.LessEqual h = absurd (omega arith)
no_comparison t.Greater h = absurd (omega arith)
no_comparison t.GreaterEqual h = absurd (omega arith)
no_comparison _ h = refl

comparison_binds : (s : Tag) (o : Op) → comparison s ≡ Some o → binds s ≡ 3
comparison_binds t.Equal o h = refl
comparison_binds t.NotEqual o h = refl
comparison_binds t.Less o h = refl
comparison_binds t.LessEqual o h = refl
comparison_binds t.Greater o h = refl
comparison_binds t.GreaterEqual o h = refl
comparison_binds _ o h = absurd (cc)

no_is_tag : (s : Tag) → binds s < 3 → same_tag s t.Is ≡ false
unfolding same_tag
no_is_tag t.Is h = absurd (omega arith)
no_is_tag t.Equal h = absurd (omega arith)
no_is_tag t.NotEqual h = absurd (omega arith)
no_is_tag t.Less h = absurd (omega arith)
no_is_tag t.LessEqual h = absurd (omega arith)
no_is_tag t.Greater h = absurd (omega arith)
no_is_tag t.GreaterEqual h = absurd (omega arith)
no_is_tag _ h = refl

no_is : (rest : List Sym) (n : ℕ) → binds (tag_at rest) < 3 → sees t.Is (at_ rest n) ≡ false
unfolding sees
no_is [] n h = refl
no_is (s ∷ ts) n h = no_is_tag s.0 h

sum_reads : (d : ℕ) (xs : List Sym) (c : ℕ) (e : Expr) → LevelClaim d l.Sum xs c e → (rest : List Sym) (n : ℕ) → binds (tag_at rest) < 4 → c ≤ n → sum (expr d) (at_ (xs ++ rest) n) ≡ Some (e, at_ rest (n - c))
unfolding level
sum_reads d xs c e claim rest n free fits = ends d l.Sum xs c e claim rest n free fits

cmp_up : (d : ℕ) (xs : List Sym) (c : ℕ) (e : Expr) → LevelClaim d l.Sum xs c e → Claim d Cmp' xs c e
unfolding cmp tag after
cmp_up d xs c e claim rest n free fits =
    ap (λ q. and_then q (λ a. peek >>= (λ k. cmp_by (expr d) a (comparison k)))) (sum_reads d xs c e claim rest n (omega arith) fits)
    ∙ rw (no_comparison (tag_at rest) free, no_is rest (n - c) free) refl

cmp_compare : (d : ℕ) (xs ys : List Sym) (a b : Expr) (ca cb : ℕ) (o : Op) (s : Tag) (v : List ℕ) → comparison s ≡ Some o → LevelClaim d l.Sum xs ca a → LevelClaim d l.Sum ys cb b
    → Claim d Cmp' (xs ++ (s, v) ∷ ys) (ca + cb + 1) (Bin o a b)
unfolding cmp tag next
cmp_compare d xs ys a b ca cb o s v is left right rest n free fits =
    let same = comparison_binds s o is in
    let m : n - ca - 1 - cb ≡ n - (ca + cb + 1) = omega arith in
    ap (λ z. cmp (expr d) (at_ z n)) (append_assoc xs ((s, v) ∷ ys) rest)
    ∙ ap (λ q. and_then q (λ x. peek >>= (λ k. cmp_by (expr d) x (comparison k)))) (sum_reads d xs ca a left ((s, v) ∷ (ys ++ rest)) n (omega (arith, same)) (omega arith))
    ∙ rw is (ap (λ q. and_then q (λ _ i. and_then (sum (expr d) i) (λ x j. Some (Bin o a x, j)))) (spend_some (at_ (ys ++ rest) (n - ca)) (omega arith))
    ∙ ap (λ q. and_then q (λ x j. Some (Bin o a x, j))) (sum_reads d ys cb b right rest (n - ca - 1) (omega arith) (omega arith)))
    ∙ ap (λ z. Some (Bin o a b, at_ rest z)) m

cmp_null : (d : ℕ) (xs : List Sym) (c : ℕ) (a : Expr) (v x : List ℕ) → LevelClaim d l.Sum xs c a → Claim d Cmp' (xs ++ (t.Is, v) ∷ (t.Null, x) ∷ []) (c + 1) (IsNull a false)
unfolding cmp tag next after sees same_tag expect
cmp_null d xs c a v x left rest n free fits =
    let m : n - c - 1 ≡ n - (c + 1) = omega arith in
    ap (λ z. cmp (expr d) (at_ z n)) (append_assoc xs ((t.Is, v) ∷ (t.Null, x) ∷ []) rest)
    ∙ ap (λ q. and_then q (λ y. peek >>= (λ k. cmp_by (expr d) y (comparison k)))) (sum_reads d xs c a left ((t.Is, v) ∷ (t.Null, x) ∷ rest) n (omega arith) (omega arith))
    ∙ ap (λ q. and_then q (λ _. eat t.Not >>= (λ b. expect t.Null >> pure (IsNull a b)))) (spend_some (at_ ((t.Null, x) ∷ rest) (n - c)) (omega arith))
    ∙ ap (λ z. Some (IsNull a false, at_ rest z)) m

cmp_not_null : (d : ℕ) (xs : List Sym) (c : ℕ) (a : Expr) (v x y : List ℕ) → LevelClaim d l.Sum xs c a → Claim d Cmp' (xs ++ (t.Is, v) ∷ (t.Not, x) ∷ (t.Null, y) ∷ []) (c + 1) (IsNull a true)
unfolding cmp tag next after sees same_tag expect
cmp_not_null d xs c a v x y left rest n free fits =
    let m : n - c - 1 ≡ n - (c + 1) = omega arith in
    ap (λ z. cmp (expr d) (at_ z n)) (append_assoc xs ((t.Is, v) ∷ (t.Not, x) ∷ (t.Null, y) ∷ []) rest)
    ∙ ap (λ q. and_then q (λ u. peek >>= (λ k. cmp_by (expr d) u (comparison k)))) (sum_reads d xs c a left ((t.Is, v) ∷ (t.Not, x) ∷ (t.Null, y) ∷ rest) n (omega arith) (omega arith))
    ∙ ap (λ q. and_then q (λ _. eat t.Not >>= (λ b. expect t.Null >> pure (IsNull a b)))) (spend_some (at_ ((t.Not, x) ∷ (t.Null, y) ∷ rest) (n - c)) (omega arith))
    ∙ ap (λ z. Some (IsNull a true, at_ rest z)) m

-- ---- primaries

-- a token that is a name
pub record NameToken (a : Lexemes) (m : List ℕ) : Type 0 where
  pub tag_ : Tag
  pub word_ : List ℕ
  pub whole : syms a ≡ (tag_, word_) ∷ []
  pub names : (tag_ ≡ t.Word) ⊎ (tag_ ≡ t.Bracketed)
  pub reads : (rest : List Sym) (n : ℕ) → name (at_ ((tag_, word_) ∷ rest) n) ≡ Some (m, at_ rest n)

word_reads : (m : List ℕ) (rest : List Sym) (n : ℕ) → name (at_ ((t.Word, m) ∷ rest) n) ≡ Some (m, at_ rest n)
unfolding name tag text next
word_reads m rest n = refl

brackets_read : (m : List ℕ) (rest : List Sym) (n : ℕ) → name (at_ ((t.Bracketed, codes "[" ++ (m ++ codes "]")) ∷ rest) n) ≡ Some (m, at_ rest n)
unfolding name tag text next inside
brackets_read m rest n = rw (closed m) refl

bracket_tag : (v : List ℕ) → tag_of kind.Bracketed v ≡ t.Bracketed
unfolding tag_of
bracket_tag v = refl

pub name_token : {a : Lexemes} {m : List ℕ} → IsName a m → NameToken a m
name_token (bare m free) = record { tag_ = t.Word; word_ = m; whole = ap (λ z. (z, m) ∷ []) (free_word m free); names = inl refl; reads = word_reads m }
name_token (bracketed m) =
    record { tag_ = t.Bracketed; word_ = codes "[" ++ (m ++ codes "]"); whole = ap (λ z. (z, codes "[" ++ (m ++ codes "]")) ∷ []) (bracket_tag (codes "[" ++ (m ++ codes "]"))); names = inr refl; reads = brackets_read m }

abbrev pub is_literal_tag : Tag → Bool
is_literal_tag t.Null = true
is_literal_tag t.Number = true
is_literal_tag t.Text = true
is_literal_tag t.Bytes = true
is_literal_tag _ = false

-- a token that is a literal
pub record LiteralToken (a : Lexemes) (x : Value) : Type 0 where
  pub tag_ : Tag
  pub word_ : List ℕ
  pub whole : syms a ≡ (tag_, word_) ∷ []
  pub is_tag : is_literal_tag tag_ ≡ true
  pub value : literal_of word_ ≡ Some x

number_tag : (v : List ℕ) → tag_of kind.Number v ≡ t.Number
unfolding tag_of
number_tag v = refl

text_tag : (v : List ℕ) → tag_of kind.Text v ≡ t.Text
unfolding tag_of
text_tag v = refl

bytes_tag : (v : List ℕ) → tag_of kind.Bytes v ≡ t.Bytes
unfolding tag_of
bytes_tag v = refl

null_tag : tag_of kind.Word (codes "NULL") ≡ t.Null
unfolding tag_of
null_tag = refl

null_token : {a : Lexemes} → Word (codes "NULL") a → LiteralToken a Null
null_token (word v h) = record { tag_ = t.Null; word_ = v; whole = ap (λ z. (z, v) ∷ []) (word_tag (codes "NULL") v h ∙ null_tag); is_tag = refl; value = null_value v h }

pub literal_token : {a : Lexemes} {x : Value} → IsConstant a x → LiteralToken a x
literal_token (number (number v h)) = record { tag_ = t.Number; word_ = v; whole = ap (λ z. (z, v) ∷ []) (number_tag v); is_tag = refl; value = h }
literal_token (a_text v h) = record { tag_ = t.Text; word_ = v; whole = ap (λ z. (z, v) ∷ []) (text_tag v); is_tag = refl; value = h }
literal_token (bytes v h) = record { tag_ = t.Bytes; word_ = v; whole = ap (λ z. (z, v) ∷ []) (bytes_tag v); is_tag = refl; value = h }
literal_token (null is) = null_token is

literal_by_reads : (gt : Tag) (v : List ℕ) (x : Value) (rest : List Sym) (n : ℕ) → is_literal_tag gt ≡ true → literal_of v ≡ Some x → literal_by gt (at_ ((gt, v) ∷ rest) n) ≡ Some (x, at_ rest n)
unfolding text next
literal_by_reads t.Null v x rest n is h = ap (λ z. required z (at_ rest n)) h
literal_by_reads t.Number v x rest n is h = ap (λ z. required z (at_ rest n)) h
literal_by_reads t.Text v x rest n is h = ap (λ z. required z (at_ rest n)) h
literal_by_reads t.Bytes v x rest n is h = ap (λ z. required z (at_ rest n)) h
literal_by_reads _ v x rest n is h = absurd (cc)

pub literal_reads : (gt : Tag) (v : List ℕ) (x : Value) (rest : List Sym) (n : ℕ) → is_literal_tag gt ≡ true → literal_of v ≡ Some x → literal (at_ ((gt, v) ∷ rest) n) ≡ Some (x, at_ rest n)
unfolding literal tag
literal_reads gt v x rest n is h = literal_by_reads gt v x rest n is h

leaf_reads : (s : Sym) (rest : List Sym) (n : ℕ) (e : Expr) → 1 ≤ n → leaf_by s.0 (at_ (s ∷ rest) (n - 1)) ≡ Some (e, at_ rest (n - 1)) → leaf (at_ (s ∷ rest) n) ≡ Some (e, at_ rest (n - 1))
unfolding leaf tag
leaf_reads s rest n e fits read = ap (λ q. and_then (and_then q (λ _. peek)) leaf_by) (spend_some (at_ (s ∷ rest) n) fits) ∙ read

literal_mapped : (o : Outcome Value) (x : Value) (i : Input) → o ≡ Some (x, i) → and_then o (λ y k. Some (Lit y, k)) ≡ Some (Lit x, i)
literal_mapped o x i h = ap (λ q. and_then q (λ y k. Some (Lit y, k))) h

literal_leaf_by : (gt : Tag) (v : List ℕ) (x : Value) (rest : List Sym) (n : ℕ) → is_literal_tag gt ≡ true → literal_of v ≡ Some x → leaf_by gt (at_ ((gt, v) ∷ rest) n) ≡ Some (Lit x, at_ rest n)
literal_leaf_by t.Null v x rest n is h = literal_mapped (literal (at_ ((t.Null, v) ∷ rest) n)) x (at_ rest n) (literal_reads t.Null v x rest n is h)
literal_leaf_by t.Number v x rest n is h = literal_mapped (literal (at_ ((t.Number, v) ∷ rest) n)) x (at_ rest n) (literal_reads t.Number v x rest n is h)
literal_leaf_by t.Text v x rest n is h = literal_mapped (literal (at_ ((t.Text, v) ∷ rest) n)) x (at_ rest n) (literal_reads t.Text v x rest n is h)
literal_leaf_by t.Bytes v x rest n is h = literal_mapped (literal (at_ ((t.Bytes, v) ∷ rest) n)) x (at_ rest n) (literal_reads t.Bytes v x rest n is h)
literal_leaf_by _ v x rest n is h = absurd (cc)

name_leaf_by : (gt : Tag) (v m : List ℕ) (rest : List Sym) (n : ℕ) → (gt ≡ t.Word) ⊎ (gt ≡ t.Bracketed) → name (at_ ((gt, v) ∷ rest) n) ≡ Some (m, at_ rest n) → leaf_by gt (at_ ((gt, v) ∷ rest) n) ≡ Some (Col m, at_ rest n)
name_leaf_by gt v m rest n (inl is) read = ap (λ z. leaf_by z (at_ ((gt, v) ∷ rest) n)) is ∙ ap (λ q. and_then q (λ x i. Some (Col x, i))) read
name_leaf_by gt v m rest n (inr is) read = ap (λ z. leaf_by z (at_ ((gt, v) ∷ rest) n)) is ∙ ap (λ q. and_then q (λ x i. Some (Col x, i))) read

prim_leaf : (d : ℕ) (gt : Tag) (v : List ℕ) (e : Expr) → same_tag gt t.Open ≡ false → ((rest : List Sym) (n : ℕ) → leaf_by gt (at_ ((gt, v) ∷ rest) n) ≡ Some (e, at_ rest n)) → Claim d Prim' ((gt, v) ∷ []) 1 e
unfolding prim sees after
prim_leaf d gt v e closed_ read rest n fits = rw closed_ (leaf_reads (gt, v) rest n e fits (read rest (n - 1)))

literal_no_open : (gt : Tag) → is_literal_tag gt ≡ true → same_tag gt t.Open ≡ false
unfolding same_tag
literal_no_open t.Open is = absurd (cc)
literal_no_open _ is = refl

name_no_open : (gt : Tag) → (gt ≡ t.Word) ⊎ (gt ≡ t.Bracketed) → same_tag gt t.Open ≡ false
unfolding same_tag
name_no_open gt (inl is) = rw is refl
name_no_open gt (inr is) = rw is refl

prim_literal : (d : ℕ) (a : Lexemes) (x : Value) → LiteralToken a x → Claim d Prim' (syms a) 1 (Lit x)
prim_literal d a x k =
    subst (λ z. Claim d Prim' z 1 (Lit x)) (sym k.whole) (prim_leaf d k.tag_ k.word_ (Lit x) (literal_no_open k.tag_ k.is_tag) (λ rest n. literal_leaf_by k.tag_ k.word_ x rest n k.is_tag k.value))

prim_name : (d : ℕ) (a : Lexemes) (m : List ℕ) → NameToken a m → Claim d Prim' (syms a) 1 (Col m)
prim_name d a m k =
    subst (λ z. Claim d Prim' z 1 (Col m)) (sym k.whole) (prim_leaf d k.tag_ k.word_ (Col m) (name_no_open k.tag_ k.names) (λ rest n. name_leaf_by k.tag_ k.word_ m rest n k.names (k.reads rest n)))

or_reads : (d : ℕ) (xs : List Sym) (c : ℕ) (e : Expr) → LevelClaim d l.Or xs c e → (rest : List Sym) (n : ℕ) → binds (tag_at rest) < 1 → c ≤ n → expr (suc d) (at_ (xs ++ rest) n) ≡ Some (e, at_ rest (n - c))
unfolding level expr
or_reads d xs c e claim rest n free fits = ends d l.Or xs c e claim rest n free fits

prim_paren : (d : ℕ) (xs : List Sym) (c : ℕ) (e : Expr) (v x : List ℕ) → LevelClaim d l.Or xs c e → Claim (suc d) Prim' ((t.Open, v) ∷ (xs ++ (t.Close, x) ∷ [])) c e
unfolding prim sees same_tag after next expect
prim_paren d xs c e v x claim rest n fits =
    ap (λ z. prim (expr (suc d)) (at_ ((t.Open, v) ∷ z) n)) (append_assoc xs ((t.Close, x) ∷ []) rest)
    ∙ ap (λ q. and_then q (λ u. expect t.Close >> pure u)) (or_reads d xs c e claim ((t.Close, x) ∷ rest) n (omega arith) fits)

-- ---- a word or a sign before an operand, any number of times

seen_at : (gt : Tag) (rest : List Sym) (n : ℕ) → sees gt (at_ rest n) ≡ true → (v : List ℕ) × (ts : List Sym) × (rest ≡ (gt, v) ∷ ts)
unfolding sees
seen_at gt [] n h = absurd (cc)
seen_at gt (s ∷ ts) n h = (s.1, ts, ap (λ a. (a, s.1) ∷ ts) (same_tag_true s.0 gt h))

no_more_at : (lead : Tag) (rest : List Sym) (n : ℕ) → sees lead (at_ rest n) ≡ false → repeated_at lead rest n ≡ Some (0, at_ rest n)
unfolding sees
no_more_at lead [] n h = refl
no_more_at lead (s ∷ ts) n h = rw h refl

same_self : (lead : Tag) → (lead ≡ t.Minus) ⊎ (lead ≡ t.Not) → same_tag lead lead ≡ true
unfolding same_tag
same_self lead (inl h) = rw h refl
same_self lead (inr h) = rw h refl

lead_done : (f : Expr → Expr) (n : ℕ) (e : Expr) (j : Input) (r : Outcome Expr) → and_then r (λ x k. Some (times n f x, k)) ≡ Some (e, j) → and_then r (λ x k. Some (times (n + 1) f x, k)) ≡ Some (f e, j)
lead_done f n e j None h = absurd (cc)
lead_done f n e j (Some x) h =
    let pair : ◌≡◌ {A = Expr × Input} (times n f x.0, x.1) (e, j) = the_same h in
    rw add-one (ap (λ (p : Expr × Input). Some (f p.0, p.1)) pair)

lead_more : (lead : Tag) (v : List ℕ) (f : Expr → Expr) (operand_ : Parser Expr) (z : List Sym) (n : ℕ) (e : Expr) (j : Input) → 0 < n → same_tag lead lead ≡ true
    → (q : Outcome ℕ) → repeated_at lead z (n - 1) ≡ q → and_then q (λ m. (λ x. times m f x) <$> operand_) ≡ Some (e, j)
    → and_then (repeated_at lead ((lead, v) ∷ z) n) (λ m. (λ x. times m f x) <$> operand_) ≡ Some (f e, j)
lead_more lead v f operand_ z n e j some same None met h = absurd (cc)
lead_more lead v f operand_ z n e j some same (Some p) met h =
    let no : eqb n 0 ≡ false = grind (arith, nat_tests) in
    rw (same, no, met) (lead_done f p.0 e j (operand_ p.1) h)

leaf_none : (s : Sym) (ts : List Sym) (n : ℕ) → leaf_by s.0 (at_ (s ∷ ts) (n - 1)) ≡ None → (0 < n) ⊎ (n ≡ 0) → leaf (at_ (s ∷ ts) n) ≡ None
unfolding leaf tag
leaf_none s ts n read (inl some) = ap (λ q. and_then (and_then q (λ _. peek)) leaf_by) (spend_some (at_ (s ∷ ts) n) some) ∙ read
leaf_none s ts n read (inr none) = ap (λ q. and_then (and_then q (λ _. peek)) leaf_by) (spend_none (at_ (s ∷ ts) n) none)

prim_not_minus : (p : Parser Expr) (v : List ℕ) (ts : List Sym) (n : ℕ) → prim p (at_ ((t.Minus, v) ∷ ts) n) ≡ None
unfolding prim sees same_tag after literal tag
prim_not_minus p v ts n = leaf_none (t.Minus, v) ts n refl (some_or_none n)

prim_not_not : (p : Parser Expr) (v : List ℕ) (ts : List Sym) (n : ℕ) → prim p (at_ ((t.Not, v) ∷ ts) n) ≡ None
unfolding prim sees same_tag after literal tag
prim_not_not p v ts n = leaf_none (t.Not, v) ts n refl (some_or_none n)

unary_not_not : (p : Parser Expr) (v : List ℕ) (ts : List Sym) (n : ℕ) → unary p (at_ ((t.Not, v) ∷ ts) n) ≡ None
unfolding unary repeated same_tag
unary_not_not p v ts n = ap (λ q. and_then q (λ x k. Some (x, k))) (prim_not_not p v ts n)

cmp_not_not : (p : Parser Expr) (v : List ℕ) (ts : List Sym) (n : ℕ) → cmp p (at_ ((t.Not, v) ∷ ts) n) ≡ None
unfolding cmp sum product
cmp_not_not p v ts n =
    ap (λ q. and_then (and_then (and_then q (λ left i. more (operator l.Product) (unary p) (i.left + 1) left i)) (λ left i. more (operator l.Sum) (product p) (i.left + 1) left i))
    (λ a. peek >>= (λ k. cmp_by p a (comparison k)))) (unary_not_not p v ts n)

-- what reads, reads as well where no such word is before it
lead_none : (lead : Tag) (f : Expr → Expr) (operand_ : Parser Expr) (z : List Sym) (n : ℕ) (e : Expr) (j : Input) → ((v : List ℕ) (ts : List Sym) → operand_ (at_ ((lead, v) ∷ ts) n) ≡ None)
    → operand_ (at_ z n) ≡ Some (e, j) → (b : Bool) → sees lead (at_ z n) ≡ b → and_then (repeated_at lead z n) (λ m. (λ x. times m f x) <$> operand_) ≡ Some (e, j)
lead_none lead f operand_ z n e j never read true seen =
    let s = seen_at lead z n seen in
    let no : operand_ (at_ z n) ≡ None = ap (λ y. operand_ (at_ y n)) s.2 ∙ never s.0 s.1 in
    absurd (cc)
lead_none lead f operand_ z n e j never read false seen =
    rw (no_more_at lead z n seen) (ap (λ q. and_then q (λ x k. Some (x, k))) read)

unary_up : (d : ℕ) (xs : List Sym) (c : ℕ) (e : Expr) → Claim d Prim' xs c e → Claim d Unary' xs c e
unfolding unary repeated
unary_up d xs c e claim rest n fits =
    lead_none t.Minus Neg (prim (expr d)) (xs ++ rest) n e (at_ rest (n - c)) (λ v ts. prim_not_minus (expr d) v ts n) (claim rest n fits) (sees t.Minus (at_ (xs ++ rest) n)) refl

unary_minus : (d : ℕ) (xs : List Sym) (c : ℕ) (e : Expr) (v : List ℕ) → Claim d Unary' xs c e → Claim d Unary' ((t.Minus, v) ∷ xs) (c + 1) (Neg e)
unfolding unary repeated
unary_minus d xs c e v claim rest n fits =
    let m : n - 1 - c ≡ n - (c + 1) = omega arith in
    lead_more t.Minus v Neg (prim (expr d)) (xs ++ rest) n e (at_ rest (n - 1 - c)) (omega arith) (same_self t.Minus (inl refl)) (repeated_at t.Minus (xs ++ rest) (n - 1)) refl (claim rest (n - 1) (omega arith))
    ∙ ap (λ z. Some (Neg e, at_ rest z)) m

not_up : (d : ℕ) (xs : List Sym) (c : ℕ) (e : Expr) → Claim d Cmp' xs c e → Claim d Not' xs c e
unfolding not repeated
not_up d xs c e claim rest n free fits =
    lead_none t.Not Not (cmp (expr d)) (xs ++ rest) n e (at_ rest (n - c)) (λ v ts. cmp_not_not (expr d) v ts n) (claim rest n free fits) (sees t.Not (at_ (xs ++ rest) n)) refl

not_again : (d : ℕ) (xs : List Sym) (c : ℕ) (e : Expr) (v : List ℕ) → Claim d Not' xs c e → Claim d Not' ((t.Not, v) ∷ xs) (c + 1) (Not e)
unfolding not repeated
not_again d xs c e v claim rest n free fits =
    let m : n - 1 - c ≡ n - (c + 1) = omega arith in
    lead_more t.Not v Not (cmp (expr d)) (xs ++ rest) n e (at_ rest (n - 1 - c)) (omega arith) (same_self t.Not (inr refl)) (repeated_at t.Not (xs ++ rest) (n - 1)) refl (claim rest (n - 1) free (omega arith))
    ∙ ap (λ z. Some (Not e, at_ rest z)) m

-- ---- each production

at : (d : ℕ) (r : Production) (e : Expr) (xs ys : List Sym) (c k : ℕ) → ys ≡ xs → k ≡ c → Claim d r xs c e → Claim d r ys k e
at d r e xs ys c k tokens count is = subst (λ z. Claim d r ys z e) (sym count) (subst (λ z. Claim d r z c e) (sym tokens) is)

abbrev size : Expr → ℕ
size e = parts (tree e)

size_binary : (o : Op) (x y : Expr) → size (Bin o x y) ≡ size x + size y + 1
size_binary o x y = ap parts (of_binary o x y)

-- an operator between two operands
grouped : (d : ℕ) (k : Level) (a b c : Lexemes) (x y : Expr) (o : Op) (gt : Tag) → One gt b → operator k gt ≡ Some o → LevelClaim d k (syms a) (size x) x → Claim d (below k) (syms c) (size y) y
    → LevelClaim d k (syms (a ++ (b ++ c))) (size (Bin o x y)) (Bin o x y)
grouped d k a b c x y o gt token is left right =
    let claim = level_group d k (syms a) (syms c) x y (size x) (size y) o gt token.word_ is left right in
    let P : List Sym → ℕ → Type 0 = λ z m. LevelClaim d k z m (Bin o x y) in
    subst (λ z. P z (size (Bin o x y))) (sym (parted a b c token)) (subst (λ m. P (syms a ++ (gt, token.word_) ∷ syms c) m) (sym (size_binary o x y)) claim)

-- the token of a comparison
record ComparisonToken (b : Lexemes) (o : Op) : Type 0 where
  tag_ : Tag
  token : One tag_ b
  is : comparison tag_ ≡ Some o

by_sign : (gt : Tag) (s : List ℕ) (b : Lexemes) (o : Op) → tag_of kind.Sign s ≡ gt → comparison gt ≡ Some o → Sign s b → ComparisonToken b o
by_sign gt s _ o same is sign = record { tag_ = gt; token = record { word_ = s; is = ap (λ z. (z, s) ∷ []) same }; is = is }

comparison_token : {b : Lexemes} {o : Op} → IsComparison b o → ComparisonToken b o
comparison_token {b} (g.equal is) = record { tag_ = t.Equal; token = one w.equal_ b is; is = refl }
comparison_token {b} (g.not_equal is) = by_sign t.NotEqual (codes "<>") b op.Ne not_equal_tag refl is
comparison_token {b} (g.not_equal_too is) = by_sign t.NotEqual (codes "!=") b op.Ne not_equal_too_tag refl is
comparison_token {b} (g.less is) = record { tag_ = t.Less; token = one w.less_ b is; is = refl }
comparison_token {b} (g.less_equal is) = record { tag_ = t.LessEqual; token = one w.less_equal_ b is; is = refl }
comparison_token {b} (g.greater is) = record { tag_ = t.Greater; token = one w.greater_ b is; is = refl }
comparison_token {b} (g.greater_equal is) = record { tag_ = t.GreaterEqual; token = one w.greater_equal_ b is; is = refl }

compared : (d : ℕ) (a b c : Lexemes) (x y : Expr) (o : Op) → ComparisonToken b o → LevelClaim d l.Sum (syms a) (size x) x → LevelClaim d l.Sum (syms c) (size y) y → Claim d Cmp' (syms (a ++ (b ++ c))) (size (Bin o x y)) (Bin o x y)
compared d a b c x y o k left right =
    at d Cmp' (Bin o x y) _ _ _ _ (parted a b c k.token) (size_binary o x y) (cmp_compare d (syms a) (syms c) x y (size x) (size y) o k.tag_ k.token.word_ k.is left right)

tested : (d : ℕ) (a b c : Lexemes) (x : Expr) → One t.Is b → One t.Null c → LevelClaim d l.Sum (syms a) (size x) x → Claim d Cmp' (syms (a ++ (b ++ c))) (size (IsNull x false)) (IsNull x false)
tested d a b c x is null_ claim =
    at d Cmp' (IsNull x false) _ _ _ _ (parted a b c is ∙ ap (λ z. syms a ++ (t.Is, is.word_) ∷ z) null_.is) (ap parts (of_is_null x false)) (cmp_null d (syms a) (size x) x is.word_ null_.word_ claim)

tested_not : (d : ℕ) (a b c f : Lexemes) (x : Expr) → One t.Is b → One t.Not c → One t.Null f → LevelClaim d l.Sum (syms a) (size x) x → Claim d Cmp' (syms (a ++ (b ++ (c ++ f)))) (size (IsNull x true)) (IsNull x true)
tested_not d a b c f x is not_ null_ claim =
    at d Cmp' (IsNull x true) _ _ _ _ (parted a b (c ++ f) is ∙ ap (λ z. syms a ++ (t.Is, is.word_) ∷ z) (led c f not_ ∙ ap (λ z. (t.Not, not_.word_) ∷ z) null_.is)) (ap parts (of_is_null x true))
    (cmp_not_null d (syms a) (size x) x is.word_ not_.word_ null_.word_ claim)

inverted : (d : ℕ) (a b : Lexemes) (x : Expr) → One t.Not a → Claim d Not' (syms b) (size x) x → Claim d Not' (syms (a ++ b)) (size (Not x)) (Not x)
inverted d a b x not_ claim = at d Not' (Not x) _ _ _ _ (led a b not_) (ap parts (of_not x)) (not_again d (syms b) (size x) x not_.word_ claim)

negated : (d : ℕ) (a b : Lexemes) (x : Expr) → One t.Minus a → Claim d Unary' (syms b) (size x) x → Claim d Unary' (syms (a ++ b)) (size (Neg x)) (Neg x)
negated d a b x minus_ claim = at d Unary' (Neg x) _ _ _ _ (led a b minus_) (ap parts (of_minus x)) (unary_minus d (syms b) (size x) x minus_.word_ claim)

enclosed : (d : ℕ) (a b c : Lexemes) (x : Expr) → One t.Open a → One t.Close c → LevelClaim d l.Or (syms b) (size x) x → Claim (suc d) Prim' (syms (a ++ (b ++ c))) (size x) x
enclosed d a b c x open_ close_ claim =
    at (suc d) Prim' x _ _ _ _ (led a (b ++ c) open_ ∙ ap (λ z. (t.Open, open_.word_) ∷ z) (syms_join b c ∙ ap (λ z. syms b ++ z) close_.is)) refl (prim_paren d (syms b) (size x) x open_.word_ close_.word_ claim)

complete : {d : ℕ} {r : Production} {a : Lexemes} {x : Expr} → Derives d r a x → Claim d r (syms a) (size x) x
complete {d} {r} {a} {x} (g.expr_and is) = level_up d l.Or (syms a) (size x) x (complete is)
complete {d} (g.expr_or {a = a} {b = b} {c = c} {x = x} {y = y} left word_ right) = grouped d l.Or a b c x y op.Or t.Or (one w.or_ b word_) refl (complete left) (complete right)
complete {d} {r} {a} {x} (g.and_not is) = level_up d l.And (syms a) (size x) x (complete is)
complete {d} (g.and_and {a = a} {b = b} {c = c} {x = x} {y = y} left word_ right) = grouped d l.And a b c x y op.And t.And (one w.and_ b word_) refl (complete left) (complete right)
complete {d} (g.not_not {a = a} {b = b} {x = x} word_ is) = inverted d a b x (one w.not_ a word_) (complete is)
complete {d} {r} {a} {x} (g.not_cmp is) = not_up d (syms a) (size x) x (complete is)
complete {d} {r} {a} {x} (g.cmp_sum is) = cmp_up d (syms a) (size x) x (complete is)
complete {d} (g.cmp_sums {a = a} {b = b} {c = c} {x = x} {y = y} {o = o} left sign_ right) = compared d a b c x y o (comparison_token sign_) (complete left) (complete right)
complete {d} (g.cmp_null {a = a} {b = b} {c = c} {x = x} left is null_) = tested d a b c x (one w.is_ b is) (one w.null_ c null_) (complete left)
complete {d} (g.cmp_not_null {a = a} {b = b} {c = c} {e = e} {x = x} left is not_ null_) = tested_not d a b c e x (one w.is_ b is) (one w.not_ c not_) (one w.null_ e null_) (complete left)
complete {d} {r} {a} {x} (g.sum_prod is) = level_up d l.Sum (syms a) (size x) x (complete is)
complete {d} (g.sum_plus {a = a} {b = b} {c = c} {x = x} {y = y} left sign_ right) = grouped d l.Sum a b c x y op.Add t.Plus (one w.plus_ b sign_) refl (complete left) (complete right)
complete {d} (g.sum_minus {a = a} {b = b} {c = c} {x = x} {y = y} left sign_ right) = grouped d l.Sum a b c x y op.Sub t.Minus (one w.minus_ b sign_) refl (complete left) (complete right)
complete {d} {r} {a} {x} (g.prod_unary is) = level_up d l.Product (syms a) (size x) x (complete is)
complete {d} (g.prod_times {a = a} {b = b} {c = c} {x = x} {y = y} left sign_ right) = grouped d l.Product a b c x y op.Mul t.Star (one w.star_ b sign_) refl (complete left) (complete right)
complete {d} (g.unary_minus {a = a} {b = b} {x = x} sign_ is) = negated d a b x (one w.minus_ a sign_) (complete is)
complete {d} {r} {a} {x} (g.unary_prim is) = unary_up d (syms a) (size x) x (complete is)
complete {d} (g.prim_literal {a = a} {v = v} is) = at d Prim' (Lit v) _ _ _ _ refl (ap parts (of_literal v)) (prim_literal d a v (literal_token is))
complete {d} (g.prim_name {a = a} {n = n} is) = at d Prim' (Col n) _ _ _ _ refl (ap parts (of_column n)) (prim_name d a n (name_token is))
complete (g.prim_expr {d = d} {a = a} {b = b} {c = c} {x = x} open_ is close_) = enclosed d a b c x (one w.open_ a open_) (one w.close_ c close_) (complete is)

-- an expression within the limits is read
pub whole_reads : {a : Lexemes} {x : Expr} → IsExpr a x → (rest : List Sym) (n : ℕ) → binds (tag_at rest) < 1 → whole (at_ (syms a ++ rest) n) ≡ Some (x, at_ rest (max_parts - size x))
unfolding whole level begin
whole_reads {a} {x} is rest n free = ends max_nesting l.Or (syms a) (size x) x (complete is.derived) rest max_parts free is.few
