-- An expression that the parser reads is one of the grammar.
use Rattle.std.proofs.Common.{◌≡◌, ◌∙◌, ℕ, zero, suc, ◌+◌, ◌-◌, ◌<◌, Bool, true, false, cond, if◌then◌else◌, List, [], ◌∷◌, ◌++◌, Option, Some, None, refl, ap, sym, subst, arith, append_assoc, eqb, add-one, codes, ◌⊎◌, inl, inr}
use Rattle.std.proofs.lemmas.List.{append-nil}
use Rattle.std.proofs.lemmas.Bool.Decides.{nat_tests}
use Rattle.sql_lex.specs.declared.token.Kind.{Kind}
use Rattle.sql_value.specs.declared.value.Value.{Value}
use Rattle.sql_value.specs.declared.expr.Op.{Op}
use Rattle.sql_value.specs.declared.expr.Expr.{Expr}
use Rattle.sql_value.specs.declared.expr.Expr.TheVariants.{Lit, Col, Neg, Not, IsNull, Bin}
use Rattle.sql_value.specs.Tree.{tree}
use Rattle.spec_grammar.specs.Tokens.{Lexeme, Lexemes, Word}
use Rattle.spec_grammar.specs.Expressions as g
use Rattle.spec_grammar.specs.Expressions.{Level as Production, Expr', And', Not', Cmp', Sum', Prod', Unary', Prim', Derives, IsComparison, parts, IsExpr}
use Rattle.spec_syntax.specs.declared.tag.Tag.{Tag}
use Rattle.spec_syntax.specs.declared.tag.Tag.TheVariants as t
use Rattle.spec_syntax.specs.declared.level.Level.{Level}
use Rattle.spec_syntax.specs.declared.level.Level.TheVariants as l
use Rattle.spec_syntax.specs.Tags.{same_tag, tag_of}
use Rattle.spec_syntax.specs.Input.{Input, Outcome, Parser, and_then, ◌>>=◌, ◌>>◌, ◌<$>◌, pure, peek, take_text, tag, next, sees, after, eat, expect, spend, repeated, repeated_at, one_more, begin, max_parts}
use Rattle.spec_syntax.specs.Expr.{operator, comparison, name, literal, leaf, leaf_by, times, more, more_by, prim, unary, sum, cmp, cmp_by, not, or, level, operand, expr, whole, max_nesting}
use Rattle.law_syntax.proofs.Levels.{level-grouped}
use Rattle.sql_value.proofs.Trees.{of_literal, of_column, of_minus, of_not, of_is_null, of_binary}
use Rattle.law_syntax.proofs.Terminals.{from, and_, or_, not_, is_, null_, plus_, minus_, star_, equal_, less_, less_equal_, greater_, greater_equal_, open_, close_}
use Rattle.law_syntax.proofs.NotEqual.{not_equal_gives}
use Rattle.law_syntax.proofs.Steps.{the_same, same_tag_true, Follows, moved, First, seen_first, taken_first, name_leaf, literal_leaf, expects_leaf, joins}

-- the productions whose operators group from the left, and those below them
abbrev pub at_level : Level → Production
at_level l.Or = Expr'
at_level l.And = And'
at_level l.Sum = Sum'
at_level l.Product = Prod'

abbrev pub below : Level → Production
below l.Or = And'
below l.And = Not'
below l.Sum = Prod'
below l.Product = Unary'

pub up : (d : ℕ) (k : Level) (a : Lexemes) (x : Expr) → Derives d (below k) a x → Derives d (at_level k) a x
up d l.Or a x is = g.expr_and is
up d l.And a x is = g.and_not is
up d l.Sum a x is = g.sum_prod is
up d l.Product a x is = g.prod_unary is

pub group : (d : ℕ) (k : Level) (gt : Tag) (o : Op) (kd : Kind) (w : List ℕ) (a c : Lexemes) (x y : Expr) → operator k gt ≡ Some o → tag_of kd w ≡ gt → Derives d (at_level k) a x → Derives d (below k) c y
    → Derives d (at_level k) (a ++ (kd, w) ∷ c) (Bin o x y)
group d l.Or t.Or o kd w a c x y is tag_ left right = moved (Derives d Expr') refl (ap (λ z. Bin z x y) (the_same is)) (g.expr_or left (or_.gives kd w tag_) right)
group d l.Or _ o kd w a c x y is tag_ left right = absurd (cc)
group d l.And t.And o kd w a c x y is tag_ left right = moved (Derives d And') refl (ap (λ z. Bin z x y) (the_same is)) (g.and_and left (and_.gives kd w tag_) right)
group d l.And _ o kd w a c x y is tag_ left right = absurd (cc)
group d l.Sum t.Plus o kd w a c x y is tag_ left right = moved (Derives d Sum') refl (ap (λ z. Bin z x y) (the_same is)) (g.sum_plus left (plus_.gives kd w tag_) right)
group d l.Sum t.Minus o kd w a c x y is tag_ left right = moved (Derives d Sum') refl (ap (λ z. Bin z x y) (the_same is)) (g.sum_minus left (minus_.gives kd w tag_) right)
group d l.Sum _ o kd w a c x y is tag_ left right = absurd (cc)
group d l.Product t.Star o kd w a c x y is tag_ left right = moved (Derives d Prod') refl (ap (λ z. Bin z x y) (the_same is)) (g.prod_times left (star_.gives kd w tag_) right)
group d l.Product _ o kd w a c x y is tag_ left right = absurd (cc)

compares : (gt : Tag) (o : Op) (kd : Kind) (w : List ℕ) → comparison gt ≡ Some o → tag_of kd w ≡ gt → IsComparison ((kd, w) ∷ []) o
compares t.Equal o kd w is tag_ = moved IsComparison refl (the_same is) (g.equal (equal_.gives kd w tag_))
compares t.NotEqual o kd w is tag_ = moved IsComparison refl (the_same is) (not_equal_gives kd w tag_)
compares t.Less o kd w is tag_ = moved IsComparison refl (the_same is) (g.less (less_.gives kd w tag_))
compares t.LessEqual o kd w is tag_ = moved IsComparison refl (the_same is) (g.less_equal (less_equal_.gives kd w tag_))
compares t.Greater o kd w is tag_ = moved IsComparison refl (the_same is) (g.greater (greater_.gives kd w tag_))
compares t.GreaterEqual o kd w is tag_ = moved IsComparison refl (the_same is) (g.greater_equal (greater_equal_.gives kd w tag_))
compares _ o kd w is tag_ = absurd (cc)

-- What is taken of the tokens is the expression by the production, and its parts are counted.
pub record Took (d : ℕ) (r : Production) (a : Lexemes) (n : ℕ) (e : Expr) (j : Input) : Type 0 where
  pub tokens : Lexemes
  pub rest : Lexemes
  pub left : ℕ
  pub cut : a ≡ tokens ++ rest
  pub met : from rest left ≡ j
  pub derived : Derives d r tokens e
  pub counted : n ≡ left + parts (tree e)

abbrev pub Sound : ℕ → Production → Parser Expr → Type 0
Sound d r p = (a : Lexemes) (n : ℕ) (e : Expr) (j : Input) → p (from a n) ≡ Some (e, j) → Took d r a n e j

pub lifted : {d : ℕ} {r s : Production} {a : Lexemes} {n : ℕ} {e : Expr} {j : Input} → ((b : Lexemes) → Derives d r b e → Derives d s b e) → Took d r a n e j → Took d s a n e j
lifted f k = record { tokens = k.tokens; rest = k.rest; left = k.left; cut = k.cut; met = k.met; derived = f k.tokens k.derived; counted = k.counted }

took_at : {d : ℕ} {r : Production} {a : Lexemes} {n : ℕ} {e f : Expr} {i j : Input} → ◌≡◌ {A = Outcome Expr} (Some (e, i)) (Some (f, j)) → Took d r a n e i → Took d r a n f j
took_at {d} {r} {a} {n} {e} {f} {i} {j} h k =
    let pair : ◌≡◌ {A = Expr × Input} (e, i) (f, j) = the_same h in
    subst (λ (x : Expr × Input). Took d r a n x.0 x.1) pair k

guarded : (b : Bool) (a : Lexemes) (n : ℕ) (j : Input) → cond {A = Outcome (Unit {0})} b None (Some (tt, from a (n - 1))) ≡ Some (tt, j) → (b ≡ false) × (from a (n - 1) ≡ j)
guarded true a n j h = absurd (cc)
guarded false a n j h = (refl, ap (λ p. p.1) (the_same h))

-- one more part may be counted
pub spend_takes : (a : Lexemes) (n : ℕ) (j : Input) → spend (from a n) ≡ Some (tt, j) → (m : ℕ) × (n ≡ m + 1) × (from a m ≡ j)
unfolding spend
spend_takes a n j h =
    let guard : (eqb n 0 ≡ false) × (from a (n - 1) ≡ j) = guarded (eqb n 0) a n j h in
    (n - 1, grind (arith, nat_tests, guard.0), guard.1)

-- ---- leaves

leaf_part : (d : ℕ) (a : Lexemes) (n : ℕ) (e : Expr) (s : Lexeme) (rest : Lexemes) (j : Input) → a ≡ s ∷ rest → from rest n ≡ j → Derives d Prim' (s ∷ []) e → parts (tree e) ≡ 1 → Took d Prim' a (n + 1) e j
leaf_part d a n e s rest j cut met is one =
    record { tokens = s ∷ []; rest = rest; left = n; cut = cut; met = met; derived = is; counted = ap (λ z. n + z) (sym one) }

column_part : (d : ℕ) (a : Lexemes) (n : ℕ) (e : Expr) (j : Input) (q : Outcome (List ℕ)) → name (from a n) ≡ q → and_then q (λ x k. Some (Col x, k)) ≡ Some (e, j) → Took d Prim' a (n + 1) e j
column_part d a n e j None read h = absurd (cc)
column_part d a n e j (Some q) read h =
    let k = name_leaf a n q.0 q.1 read in
    took_at h (leaf_part d a n (Col q.0) k.token k.rest q.1 k.cut k.met (g.prim_name k.is) (ap parts (of_column q.0)))

value_after : (d : ℕ) (a : Lexemes) (n : ℕ) (e : Expr) (j : Input) (q : Outcome Value) → literal (from a n) ≡ q → and_then q (λ x k. Some (Lit x, k)) ≡ Some (e, j) → Took d Prim' a (n + 1) e j
value_after d a n e j None read h = absurd (cc)
value_after d a n e j (Some q) read h =
    let k = literal_leaf a n q.0 q.1 read in
    took_at h (leaf_part d a n (Lit q.0) k.token k.rest q.1 k.cut k.met (g.prim_literal k.is) (ap parts (of_literal q.0)))

value_part : (d : ℕ) (a : Lexemes) (n : ℕ) (e : Expr) (j : Input) → and_then (literal (from a n)) (λ x k. Some (Lit x, k)) ≡ Some (e, j) → Took d Prim' a (n + 1) e j
value_part d a n e j h = value_after d a n e j (literal (from a n)) refl h

leaf_by_sound : (d : ℕ) (a : Lexemes) (n : ℕ) (e : Expr) (j : Input) (gt : Tag) → leaf_by gt (from a n) ≡ Some (e, j) → Took d Prim' a (n + 1) e j
leaf_by_sound d a n e j t.Word h = column_part d a n e j (name (from a n)) refl h
leaf_by_sound d a n e j t.Bracketed h = column_part d a n e j (name (from a n)) refl h
leaf_by_sound d a n e j _ h = value_part d a n e j h

leaf_after : (d : ℕ) (a : Lexemes) (n : ℕ) (e : Expr) (j : Input) (q : Outcome (Unit {0})) → spend (from a n) ≡ q → and_then (and_then q (λ _. peek)) leaf_by ≡ Some (e, j) → Took d Prim' a n e j
leaf_after d a n e j None spent h = absurd (cc)
leaf_after d a n e j (Some q) spent h =
    let s = spend_takes a n q.1 spent in
    let read : leaf_by (tag (from a s.0)) (from a s.0) ≡ Some (e, j) = subst (λ z. leaf_by (tag z) z ≡ Some (e, j)) (sym s.2) h in
    subst (λ z. Took d Prim' a z e j) (sym s.1) (leaf_by_sound d a s.0 e j (tag (from a s.0)) read)

pub leaf_sound : (d : ℕ) → Sound d Prim' leaf
unfolding leaf
leaf_sound d a n e j h = leaf_after d a n e j (spend (from a n)) refl h

-- ---- parentheses

abbrev pub InnerSound : ℕ → Type 0
InnerSound d = (a : Lexemes) (n : ℕ) (e : Expr) (j : Input) → expr d (from a n) ≡ Some (e, j) → (m : ℕ) × (d ≡ suc m) × Took m Expr' a n e j

-- the parser behind a first token of this tag
abbrev pub Behind : {A : Type 0} → Tag → Lexemes → ℕ → Parser A → A → Input → Type 0
Behind gt a n p x j = (f : First gt a) × (p (from f.rest n) ≡ Some (x, j))

pub eaten_or : {A : Type 0} (gt : Tag) (a : Lexemes) (n : ℕ) (p q : Parser A) (x : A) (j : Input) (b : Bool) → sees gt (from a n) ≡ b → (if b then p else q) (cond b (next (from a n)) (from a n)) ≡ Some (x, j)
    → Behind gt a n p x j ⊎ (q (from a n) ≡ Some (x, j))
eaten_or gt a n p q x j true seen h = let f = seen_first gt a n seen in inl (f, ap p (sym (taken_first gt a n f)) ∙ h)
eaten_or gt a n p q x j false seen h = inr h

closed_after : (d : ℕ) (a : Lexemes) (n : ℕ) (e : Expr) (j : Input) (f : First t.Open a) (x : Expr) (i : Input) → Took d Expr' f.rest n x i → (q : Outcome (Unit {0})) → expect t.Close i ≡ q
    → and_then q (λ _ k. Some (x, k)) ≡ Some (e, j) → Took (suc d) Prim' a n e j
closed_after d a n e j f x i k None met h = absurd (cc)
closed_after d a n e j f x i k (Some q) met h =
    let c = expects_leaf close_ k.rest k.left tt q.1 (ap (expect t.Close) k.met ∙ met) in
    took_at h (record {
      tokens = (f.kind_, f.word_) ∷ (k.tokens ++ c.token ∷ []);
      rest = c.rest;
      left = k.left;
      cut = f.cut ∙ ap (λ z. (f.kind_, f.word_) ∷ z) (joins _ _ _ k.cut c.cut);
      met = c.met;
      derived = g.prim_expr (open_.gives f.kind_ f.word_ f.is) k.derived c.is;
      counted = k.counted;
    })

module _ (d : ℕ) (inner_sound : InnerSound d) where
  inner_after : (a : Lexemes) (n : ℕ) (e : Expr) (j : Input) (f : First t.Open a) (q : Outcome Expr) → expr d (from f.rest n) ≡ q → and_then q (λ x. expect t.Close >> pure x) ≡ Some (e, j) → Took d Prim' a n e j
  inner_after a n e j f None read h = absurd (cc)
  inner_after a n e j f (Some q) read h =
      let k = inner_sound f.rest n q.0 q.1 read in
      subst (λ z. Took z Prim' a n e j) (sym k.1) (closed_after k.0 a n e j f q.0 q.1 k.2 (expect t.Close q.1) refl h)

  prim_by : (a : Lexemes) (n : ℕ) (e : Expr) (j : Input) → Behind t.Open a n (do x ← expr d; expect t.Close; pure x) e j ⊎ (leaf (from a n) ≡ Some (e, j)) → Took d Prim' a n e j
  prim_by a n e j (inl k) = inner_after a n e j k.0 (expr d (from (k.0).rest n)) refl k.1
  prim_by a n e j (inr h) = leaf_sound d a n e j h

  pub prim_sound : Sound d Prim' (prim (expr d))
  unfolding prim after
  prim_sound a n e j h = prim_by a n e j (eaten_or t.Open a n (do x ← expr d; expect t.Close; pure x) leaf e j (sees t.Open (from a n)) refl h)

-- ---- a word or a sign before an operand, any number of times

module _ (d : ℕ) (r : Production) (lead : Tag) (f : Expr → Expr)
    (make : (k : Kind) (w : List ℕ) (a : Lexemes) (e : Expr) → tag_of k w ≡ lead → Derives d r a e → Derives d r ((k, w) ∷ a) (f e)) (one : (e : Expr) → parts (tree (f e)) ≡ parts (tree e) + 1) where
  one_before : (s : Lexeme) (a : Lexemes) (left n : ℕ) (e : Expr) (j : Input) → tag_of s.0 s.1 ≡ lead → 0 < left → Took d r a (left - 1) (times n f e) j → Took d r (s ∷ a) left (times (n + 1) f e) j
  one_before s a left n e j is some k =
      rw add-one (record {
        tokens = s ∷ k.tokens;
        rest = k.rest;
        left = k.left;
        cut = ap (λ z. s ∷ z) k.cut;
        met = k.met;
        derived = make s.0 s.1 k.tokens (times n f e) is k.derived;
        counted = omega (arith, k.counted, one (times n f e));
      })

  -- what repeated gives, and the operand behind it
  abbrev Repeats : Lexemes → ℕ → Outcome ℕ → Type 0
  Repeats a left q = (m : ℕ) (i : Input) → q ≡ Some (m, i)
      → (b : Lexemes) × (k : ℕ) × (from b k ≡ i) × ((e : Expr) (j : Input) → Took d r b k e j → Took d r a left (times m f e) j)

  repeats_none : (a : Lexemes) (left : ℕ) → Repeats a left (Some (0, from a left))
  repeats_none a left m i h =
      let pair : ◌≡◌ {A = ℕ × Input} (0, from a left) (m, i) = the_same h in
      (a, left, ap (λ p. p.1) pair, λ e j. subst (λ z. Took d r a left e j → Took d r a left (times z f e) j) (ap (λ p. p.0) pair) (λ k. k))

  repeats_one : (s : Lexeme) (a : Lexemes) (left : ℕ) → tag_of s.0 s.1 ≡ lead → 0 < left → (q : Outcome ℕ) → Repeats a (left - 1) q → Repeats (s ∷ a) left (one_more q)
  repeats_one s a left is some None again m i h = absurd (cc)
  repeats_one s a left is some (Some q) again m i h =
      let pair : ◌≡◌ {A = ℕ × Input} (q.0 + 1, q.1) (m, i) = the_same h in
      let more_ = again q.0 q.1 refl in (
        more_.0,
        more_.1,
        more_.2 ∙ ap (λ p. p.1) pair,
        λ e j k. subst (λ z. Took d r (s ∷ a) left (times z f e) j) (ap (λ p. p.0) pair) (one_before s a left q.0 e j is some (more_.3 e j k)),
      )

  repeats_by : (s : Lexeme) (a : Lexemes) (left : ℕ) (b c : Bool) → same_tag (tag_of s.0 s.1) lead ≡ b → eqb left 0 ≡ c → Repeats a (left - 1) (repeated_at lead (from a left).rest (left - 1))
      → Repeats (s ∷ a) left (cond b (cond c None (one_more (repeated_at lead (from a left).rest (left - 1)))) (Some (0, from (s ∷ a) left)))
  repeats_by s a left false c same none again = repeats_none (s ∷ a) left
  repeats_by s a left true true same none again = λ m i h. absurd (cc)
  repeats_by s a left true false same some again = repeats_one s a left (same_tag_true (tag_of s.0 s.1) lead same) (grind (arith, nat_tests, some)) (repeated_at lead (from a left).rest (left - 1)) again

  repeats : (a : Lexemes) (left : ℕ) → Repeats a left (repeated_at lead (from a left).rest left)
  repeats [] left = repeats_none [] left
  repeats (s ∷ a) left = repeats_by s a left (same_tag (tag_of s.0 s.1) lead) (eqb left 0) refl refl (repeats a (left - 1))

  module _ (operand_ : Parser Expr) (sound : Sound d r operand_) where
    wrapped_by : (a : Lexemes) (n : ℕ) (e : Expr) (j : Input) (m : ℕ) (b : Lexemes) (k : ℕ) → ((x : Expr) (i : Input) → Took d r b k x i → Took d r a n (times m f x) i)
        → (q : Outcome Expr) → operand_ (from b k) ≡ q → and_then q (λ x i. Some (times m f x, i)) ≡ Some (e, j) → Took d r a n e j
    wrapped_by a n e j m b k wraps None read h = absurd (cc)
    wrapped_by a n e j m b k wraps (Some q) read h = took_at h (wraps q.0 q.1 (sound b k q.0 q.1 read))

    wrapped_after : (a : Lexemes) (n : ℕ) (e : Expr) (j : Input) (q : Outcome ℕ) → repeated_at lead (from a n).rest n ≡ q
        → and_then q (λ m. (λ x. times m f x) <$> operand_) ≡ Some (e, j) → Took d r a n e j
    wrapped_after a n e j None met h = absurd (cc)
    wrapped_after a n e j (Some q) met h =
        let first = repeats a n q.0 q.1 met in
        wrapped_by a n e j q.0 first.0 first.1 first.3 (operand_ (from first.0 first.1)) refl (ap (λ z. and_then (operand_ z) (λ x i. Some (times q.0 f x, i))) first.2 ∙ h)

    pub wrapped : (a : Lexemes) (n : ℕ) (e : Expr) (j : Input) → and_then (repeated lead (from a n)) (λ m. (λ x. times m f x) <$> operand_) ≡ Some (e, j) → Took d r a n e j
    unfolding repeated
    wrapped a n e j h = wrapped_after a n e j (repeated_at lead (from a n).rest n) refl h

-- ---- operators that group from the left

-- what more turns take, behind tokens that are the expression so far
record More (d : ℕ) (k : Level) (b : Lexemes) (x : Expr) (a : Lexemes) (n : ℕ) (e : Expr) (j : Input) : Type 0 where
  tokens : Lexemes
  rest : Lexemes
  left : ℕ
  cut : a ≡ tokens ++ rest
  met : from rest left ≡ j
  derived : Derives d (at_level k) (b ++ tokens) e
  counted : n + parts (tree x) ≡ left + parts (tree e)

no_operator_at_end : (k : Level) → operator k t.End ≡ None
no_operator_at_end l.Or = refl
no_operator_at_end l.And = refl
no_operator_at_end l.Sum = refl
no_operator_at_end l.Product = refl

module _ (d : ℕ) (k : Level) (inner : Parser Expr) (operand_sound : Sound d (below k) (operand inner k)) where
  abbrev Goes : ℕ → Expr → Input → Type 0
  Goes fuel e j = (b : Lexemes) (x : Expr) (a : Lexemes) (n : ℕ) → Derives d (at_level k) b x → more (operator k) (operand inner k) fuel x (from a n) ≡ Some (e, j) → More d k b x a n e j

  more_none : (b : Lexemes) (x : Expr) (a : Lexemes) (n : ℕ) (e : Expr) (j : Input) → Derives d (at_level k) b x → ◌≡◌ {A = Outcome Expr} (Some (x, from a n)) (Some (e, j)) → More d k b x a n e j
  more_none b x a n e j left h =
      let pair : ◌≡◌ {A = Expr × Input} (x, from a n) (e, j) = the_same h in
      subst (λ (y : Expr × Input). More d k b x a n y.0 y.1) pair (record { tokens = []; rest = a; left = n; cut = refl; met = refl; derived = rw append-nil left; counted = refl })

  turn_operand : (fuel : ℕ) (o : Op) (b : Lexemes) (x : Expr) (s : Lexeme) (a : Lexemes) (n m : ℕ) (e : Expr) (j : Input) → Derives d (at_level k) b x → operator k (tag_of s.0 s.1) ≡ Some o → n ≡ m + 1 → Goes fuel e j
      → (q : Outcome Expr) → operand inner k (from a m) ≡ q → and_then q (λ y. more (operator k) (operand inner k) fuel (Bin o x y)) ≡ Some (e, j) → More d k b x (s ∷ a) n e j
  turn_operand fuel o b x s a n m e j left is spent again None read h = absurd (cc)
  turn_operand fuel o b x s a n m e j left is spent again (Some q) read h =
      let right = operand_sound a m q.0 q.1 read in
      let joined = group d k (tag_of s.0 s.1) o s.0 s.1 b right.tokens x q.0 is refl left right.derived in
      let rec_ = again (b ++ s ∷ right.tokens) (Bin o x q.0) right.rest right.left joined (ap (more (operator k) (operand inner k) fuel (Bin o x q.0)) right.met ∙ h) in
      let sum_ : parts (tree (Bin o x q.0)) ≡ parts (tree x) + parts (tree q.0) + 1 = ap parts (of_binary o x q.0) in
      record {
        tokens = s ∷ (right.tokens ++ rec_.tokens);
        rest = rec_.rest;
        left = rec_.left;
        cut = ap (λ z. s ∷ z) (joins _ _ _ right.cut rec_.cut);
        met = rec_.met;
        derived = subst (λ z. Derives d (at_level k) z e) (append_assoc b (s ∷ right.tokens) rec_.tokens) rec_.derived;
        counted = omega (arith, right.counted, rec_.counted, spent, sum_);
      }

  turn_spend : (fuel : ℕ) (o : Op) (b : Lexemes) (x : Expr) (s : Lexeme) (a : Lexemes) (n : ℕ) (e : Expr) (j : Input) → Derives d (at_level k) b x → operator k (tag_of s.0 s.1) ≡ Some o → Goes fuel e j
      → (q : Outcome (Unit {0})) → spend (from a n) ≡ q → and_then (and_then q (λ _. operand inner k)) (λ y. more (operator k) (operand inner k) fuel (Bin o x y)) ≡ Some (e, j) → More d k b x (s ∷ a) n e j
  turn_spend fuel o b x s a n e j left is again None spent h = absurd (cc)
  turn_spend fuel o b x s a n e j left is again (Some q) spent h =
      let p = spend_takes a n q.1 spent in
      turn_operand fuel o b x s a n p.0 e j left is p.1 again (operand inner k (from a p.0)) refl
      (ap (λ z. and_then (operand inner k z) (λ y. more (operator k) (operand inner k) fuel (Bin o x y))) p.2 ∙ h)

  turn_by : (fuel : ℕ) (b : Lexemes) (x : Expr) (s : Lexeme) (a : Lexemes) (n : ℕ) (e : Expr) (j : Input) → Derives d (at_level k) b x → Goes fuel e j
      → (q : Option Op) → operator k (tag_of s.0 s.1) ≡ q
      → more_by (operator k) (operand inner k) q (λ o. take_text >> spend >> operand inner k >>= (λ y. more (operator k) (operand inner k) fuel (Bin o x y))) x (from (s ∷ a) n) ≡ Some (e, j) → More d k b x (s ∷ a) n e j
  unfolding next
  turn_by fuel b x s a n e j left again None is h = more_none b x (s ∷ a) n e j left h
  turn_by fuel b x s a n e j left again (Some o) is h = turn_spend fuel o b x s a n e j left is again (spend (from a n)) refl h

  more_sound : (fuel : ℕ) (b : Lexemes) (x : Expr) (a : Lexemes) (n : ℕ) (e : Expr) (j : Input) → Derives d (at_level k) b x → more (operator k) (operand inner k) fuel x (from a n) ≡ Some (e, j) → More d k b x a n e j
  unfolding more tag
  more_sound zero b x a n e j left h = absurd (cc)
  more_sound (suc fuel) b x [] n e j left h =
      more_none b x [] n e j left (ap (λ z. more_by (operator k) (operand inner k) z (λ o. take_text >> spend >> operand inner k >>= (λ y. more (operator k) (operand inner k) fuel (Bin o x y))) x (from [] n)) (sym (no_operator_at_end k)) ∙ h)
  more_sound (suc fuel) b x (s ∷ a) n e j left h = turn_by fuel b x s a n e j left (λ c y z m is. more_sound fuel c y z m e j is) (operator k (tag_of s.0 s.1)) refl h

  level_after : (a : Lexemes) (n : ℕ) (e : Expr) (j : Input) (q : Outcome Expr) → operand inner k (from a n) ≡ q → and_then q (λ x m. more (operator k) (operand inner k) (m.left + 1) x m) ≡ Some (e, j) → Took d (at_level k) a n e j
  level_after a n e j None read h = absurd (cc)
  level_after a n e j (Some q) read h =
      let first = operand_sound a n q.0 q.1 read in
      let rest_ = more_sound (first.left + 1) first.tokens q.0 first.rest first.left e j (up d k first.tokens q.0 first.derived) (ap (λ z. more (operator k) (operand inner k) (z.left + 1) q.0 z) first.met ∙ h) in
      record {
        tokens = first.tokens ++ rest_.tokens;
        rest = rest_.rest;
        left = rest_.left;
        cut = joins _ _ _ first.cut rest_.cut;
        met = rest_.met;
        derived = rest_.derived;
        counted = omega (arith, first.counted, rest_.counted);
      }

  pub level_sound : Sound d (at_level k) (level inner k)
  level_sound a n e j h = level_after a n e j (operand inner k (from a n)) refl (ap (λ (p : Parser Expr). p (from a n)) (sym (level-grouped inner k)) ∙ h)

-- ---- the rules under a number of parentheses

module _ (d : ℕ) (inner_sound : InnerSound d) where
  pub unary_sound : Sound d Unary' (unary (expr d))
  unfolding unary
  unary_sound a n e j h =
      wrapped d Unary' t.Minus Neg (λ k w b x is m. g.unary_minus (minus_.gives k w is) m) (λ x. ap parts (of_minus x)) (prim (expr d))
      (λ b m x i read. lifted (λ c is. g.unary_prim is) (prim_sound d inner_sound b m x i read)) a n e j h

  operand_product : Sound d (below l.Product) (operand (expr d) l.Product)
  unfolding operand
  operand_product = unary_sound

  operand_sum : Sound d (below l.Sum) (operand (expr d) l.Sum)
  unfolding operand
  operand_sum = level_sound d l.Product (expr d) operand_product

  pub sum_sound : Sound d Sum' (sum (expr d))
  unfolding level
  sum_sound = level_sound d l.Sum (expr d) operand_sum

  -- the second side of a comparison
  second_after : (a : Lexemes) (n : ℕ) (x : Expr) (i : Input) (first : Took d Sum' a n x i) (s : Lexeme) (b : Lexemes) (m : ℕ) (o : Op) (e : Expr) (j : Input) → first.rest ≡ s ∷ b → comparison (tag_of s.0 s.1) ≡ Some o
      → first.left ≡ m + 1 → (q : Outcome Expr) → sum (expr d) (from b m) ≡ q → and_then q (λ y k. Some (Bin o x y, k)) ≡ Some (e, j) → Took d Cmp' a n e j
  second_after a n x i first s b m o e j at_ is spent None read h = absurd (cc)
  second_after a n x i first s b m o e j at_ is spent (Some q) read h =
      let right = sum_sound b m q.0 q.1 read in
      let sum_ : parts (tree (Bin o x q.0)) ≡ parts (tree x) + parts (tree q.0) + 1 = ap parts (of_binary o x q.0) in
      took_at h (record {
        tokens = first.tokens ++ (s ∷ right.tokens);
        rest = right.rest;
        left = right.left;
        cut = joins _ _ _ first.cut (at_ ∙ ap (λ z. s ∷ z) right.cut);
        met = right.met;
        derived = g.cmp_sums first.derived (compares (tag_of s.0 s.1) o s.0 s.1 is refl) right.derived;
        counted = omega (arith, first.counted, right.counted, spent, sum_);
      })

  second_spend : (a : Lexemes) (n : ℕ) (x : Expr) (i : Input) (first : Took d Sum' a n x i) (s : Lexeme) (b : Lexemes) (o : Op) (e : Expr) (j : Input) → first.rest ≡ s ∷ b → comparison (tag_of s.0 s.1) ≡ Some o
      → (q : Outcome (Unit {0})) → spend (from b first.left) ≡ q → and_then q (λ _ k. and_then (sum (expr d) k) (λ y z. Some (Bin o x y, z))) ≡ Some (e, j) → Took d Cmp' a n e j
  second_spend a n x i first s b o e j at_ is None spent h = absurd (cc)
  second_spend a n x i first s b o e j at_ is (Some q) spent h =
      let p = spend_takes b first.left q.1 spent in
      second_after a n x i first s b p.0 o e j at_ is p.1 (sum (expr d) (from b p.0)) refl (ap (λ z. and_then (sum (expr d) z) (λ y k. Some (Bin o x y, k))) p.2 ∙ h)

  null_after : (a : Lexemes) (n : ℕ) (x : Expr) (i : Input) (first : Took d Sum' a n x i) (f : First t.Is first.rest) (m : ℕ) (negated : Bool) (b : Lexemes) (e : Expr) (j : Input) → first.left ≡ m + 1
      → ((c : Lexemes) (w : Lexeme) → b ≡ w ∷ c → Word (codes "NULL") (w ∷ []) → (ts : Lexemes) × (f.rest ≡ ts ++ c) × Derives d Cmp' (first.tokens ++ ((f.kind_, f.word_) ∷ ts)) (IsNull x negated))
      → (q : Outcome (Unit {0})) → expect t.Null (from b m) ≡ q → and_then q (λ _ k. Some (IsNull x negated, k)) ≡ Some (e, j) → Took d Cmp' a n e j
  null_after a n x i first f m negated b e j spent makes None met h = absurd (cc)
  null_after a n x i first f m negated b e j spent makes (Some q) met h =
      let c = expects_leaf null_ b m tt q.1 met in
      let made = makes c.rest c.token c.cut c.is in
      let one : parts (tree (IsNull x negated)) ≡ parts (tree x) + 1 = ap parts (of_is_null x negated) in
      took_at h (record {
        tokens = first.tokens ++ ((f.kind_, f.word_) ∷ made.0);
        rest = c.rest;
        left = m;
        cut = joins _ _ _ first.cut (f.cut ∙ ap (λ z. (f.kind_, f.word_) ∷ z) made.1);
        met = c.met;
        derived = made.2;
        counted = omega (arith, first.counted, spent, one);
      })

  null_by : (a : Lexemes) (n : ℕ) (x : Expr) (i : Input) (first : Took d Sum' a n x i) (f : First t.Is first.rest) (m : ℕ) (e : Expr) (j : Input) → first.left ≡ m + 1 → (b : Bool) → sees t.Not (from f.rest m) ≡ b
      → and_then (expect t.Null (cond b (next (from f.rest m)) (from f.rest m))) (λ _ k. Some (IsNull x b, k)) ≡ Some (e, j) → Took d Cmp' a n e j
  null_by a n x i first f m e j spent false seen h =
      null_after a n x i first f m false f.rest e j spent
      (λ c w cut is. (w ∷ [], cut, g.cmp_null first.derived (is_.gives f.kind_ f.word_ f.is) is)) (expect t.Null (from f.rest m)) refl h
  null_by a n x i first f m e j spent true seen h =
      let no = seen_first t.Not f.rest m seen in
      null_after a n x i first f m true no.rest e j spent
      (λ c w cut is. ((no.kind_, no.word_) ∷ w ∷ [], no.cut ∙ ap (λ z. (no.kind_, no.word_) ∷ z) cut, g.cmp_not_null first.derived (is_.gives f.kind_ f.word_ f.is) (not_.gives no.kind_ no.word_ no.is) is))
      (expect t.Null (from no.rest m)) refl (ap (λ z. and_then (expect t.Null z) (λ _ k. Some (IsNull x true, k))) (sym (taken_first t.Not f.rest m no)) ∙ h)

  null_spend : (a : Lexemes) (n : ℕ) (x : Expr) (i : Input) (first : Took d Sum' a n x i) (f : First t.Is first.rest) (e : Expr) (j : Input) → (q : Outcome (Unit {0})) → spend (from f.rest first.left) ≡ q
      → and_then q (λ _. eat t.Not >>= (λ b. expect t.Null >> pure (IsNull x b))) ≡ Some (e, j) → Took d Cmp' a n e j
  unfolding after
  null_spend a n x i first f e j None spent h = absurd (cc)
  null_spend a n x i first f e j (Some q) spent h =
      let p = spend_takes f.rest first.left q.1 spent in
      null_by a n x i first f p.0 e j p.1 (sees t.Not (from f.rest p.0)) refl (ap (λ z. (eat t.Not >>= (λ b. expect t.Null >> pure (IsNull x b))) z) p.2 ∙ h)

  no_comparison : (a : Lexemes) (n : ℕ) (x : Expr) (i : Input) (first : Took d Sum' a n x i) (e : Expr) (j : Input)
      → Behind t.Is first.rest first.left (do spend; b ← eat t.Not; expect t.Null; pure (IsNull x b)) e j ⊎ (◌≡◌ {A = Outcome Expr} (Some (x, from first.rest first.left)) (Some (e, j))) → Took d Cmp' a n e j
  no_comparison a n x i first e j (inl k) = null_spend a n x i first k.0 e j (spend (from (k.0).rest first.left)) refl k.1
  no_comparison a n x i first e j (inr h) =
      took_at h (record { tokens = first.tokens; rest = first.rest; left = first.left; cut = first.cut; met = refl; derived = g.cmp_sum first.derived; counted = first.counted })

  cmp_option : (a : Lexemes) (n : ℕ) (x : Expr) (i : Input) (first : Took d Sum' a n x i) (e : Expr) (j : Input) (b : Lexemes) → first.rest ≡ b → (q : Option Op) → comparison (tag (from b first.left)) ≡ q
      → cmp_by (expr d) x q (from b first.left) ≡ Some (e, j) → Took d Cmp' a n e j
  unfolding after tag next
  cmp_option a n x i first e j [] at_ (Some o) is h = absurd (cc)
  cmp_option a n x i first e j (s ∷ b) at_ (Some o) is h = second_spend a n x i first s b o e j at_ is (spend (from b first.left)) refl h
  cmp_option a n x i first e j b at_ None is h =
      no_comparison a n x i first e j
      (eaten_or t.Is first.rest first.left (do spend; b ← eat t.Not; expect t.Null; pure (IsNull x b)) (pure x) e j (sees t.Is (from first.rest first.left)) refl (ap (λ z. cmp_by (expr d) x None (from z first.left)) at_ ∙ h))

  cmp_after : (a : Lexemes) (n : ℕ) (e : Expr) (j : Input) (q : Outcome Expr) → sum (expr d) (from a n) ≡ q → and_then q (λ x. peek >>= (λ z. cmp_by (expr d) x (comparison z))) ≡ Some (e, j) → Took d Cmp' a n e j
  cmp_after a n e j None read h = absurd (cc)
  cmp_after a n e j (Some q) read h =
      let first = sum_sound a n q.0 q.1 read in
      cmp_option a n q.0 q.1 first e j first.rest refl (comparison (tag (from first.rest first.left))) refl (ap (λ z. cmp_by (expr d) q.0 (comparison (tag z)) z) first.met ∙ h)

  pub cmp_sound : Sound d Cmp' (cmp (expr d))
  unfolding cmp
  cmp_sound a n e j h = cmp_after a n e j (sum (expr d) (from a n)) refl h

  pub not_sound : Sound d Not' (not (expr d))
  unfolding not
  not_sound a n e j h =
      wrapped d Not' t.Not Not (λ k w b x is m. g.not_not (not_.gives k w is) m) (λ x. ap parts (of_not x)) (cmp (expr d))
      (λ b m x i read. lifted (λ c is. g.not_cmp is) (cmp_sound b m x i read)) a n e j h

  operand_and : Sound d (below l.And) (operand (expr d) l.And)
  unfolding operand
  operand_and = not_sound

  operand_or : Sound d (below l.Or) (operand (expr d) l.Or)
  unfolding operand
  operand_or = level_sound d l.And (expr d) operand_and

  pub or_sound : Sound d Expr' (or (expr d))
  unfolding level
  or_sound = level_sound d l.Or (expr d) operand_or

pub all_sound : (d : ℕ) → InnerSound d
unfolding expr
all_sound zero a n e j h = absurd (cc)
all_sound (suc d) a n e j h = (d, refl, or_sound d (all_sound d) a n e j h)

pub whole_follows : Follows whole IsExpr
unfolding whole begin
whole_follows a n e j h =
    let k = or_sound max_nesting (all_sound max_nesting) a max_parts e j h in
    record { tokens = k.tokens; rest = k.rest; left = k.left; cut = k.cut; met = k.met; is = record { derived = k.derived; few = omega (arith, k.counted) } }
