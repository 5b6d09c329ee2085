-- What holds of each value that a parser gives, from tokens of which something holds.
use Rattle.std.proofs.Common.{◌≡◌, ℕ, zero, suc, Bool, true, false, cond, List, [], ◌∷◌, ◌++◌, drop, Option, Some, None, refl}
use Rattle.std.specs.Prelude.{⊤}
use Rattle.sql_value.specs.declared.value.Value.{Value}
use Rattle.sql_value.specs.Literal.{literal_of}
use Rattle.sql_value.specs.Literals.{IsLiteral}
use Rattle.spec_syntax.specs.declared.tag.Tag.{Tag}
use Rattle.spec_syntax.specs.declared.tag.Tag.TheVariants as t
use Rattle.spec_syntax.specs.Input.{Input, Sym, Outcome, Parser, and_then, required, tag, text, next, sees, after, expect, list, list_from, tokens_left}
use Rattle.spec_syntax.specs.Expr as e
use Rattle.spec_syntax.specs.Expr.{inside, name}
use Rattle.spec_syntax.specs.Parsed.{IsName, IsUnsigned, Each, OneOrMore, Maybe}
use Rattle.law_printing.proofs.Repeats.{at_}

-- what holds of each token of a text
pub record IsSym (s : Sym) : Type 0 where
  pub word : s.0 ≡ t.Word → IsName s.1
  pub bracket : (n : List ℕ) → inside s.1 ≡ Some n → IsName n
  pub unsigned : (v : Value) → literal_of s.1 ≡ Some v → IsUnsigned v

abbrev pub AreSyms : List Sym → Type 0
AreSyms ts = Each IsSym ts

abbrev pub Holds : {A : Type 0} → (A → Type 0) → Outcome A → Type 0
Holds P None = ⊤
Holds P (Some q) = P q.0 × AreSyms q.1.rest

abbrev pub Always : {A : Type 0} → A → Type 0
Always a = ⊤

pub then_keeps : {A B : Type 0} (P : A → Type 0) (Q : B → Type 0) (f : A → Parser B) (o : Outcome A) → Holds P o → ((a : A) → P a → (j : Input) → AreSyms j.rest → Holds Q (f a j)) → Holds Q (and_then o f)
then_keeps P Q f None k h = tt
then_keeps P Q f (Some q) k h = h q.0 k.0 q.1 k.1

pub map_keeps : {A B : Type 0} (P : A → Type 0) (Q : B → Type 0) (f : A → B) (o : Outcome A) → Holds P o → ((a : A) → P a → Q (f a)) → Holds Q (and_then o (λ x i. Some (f x, i)))
map_keeps P Q f None k h = tt
map_keeps P Q f (Some q) k h = (h q.0 k.0, k.1)

pub weak : {A : Type 0} (P Q : A → Type 0) (o : Outcome A) → Holds P o → ((a : A) → P a → Q a) → Holds Q o
weak P Q None k h = tt
weak P Q (Some q) k h = (h q.0 k.0, k.1)

pub required_keeps : {A : Type 0} (P : A → Type 0) (o : Option A) → Maybe P o → (i : Input) → AreSyms i.rest → Holds P (required o i)
required_keeps P None k i ok = tt
required_keeps P (Some a) k i ok = (k, ok)

drop_ok : (ts : List Sym) → AreSyms ts → AreSyms (drop 1 ts)
drop_ok [] ok = tt
drop_ok (s ∷ ts) ok = ok.1

pub next_ok : (i : Input) → AreSyms i.rest → AreSyms (next i).rest
unfolding next
next_ok i ok = drop_ok i.rest ok

cond_ok : (c : Bool) (i j : Input) → AreSyms i.rest → AreSyms j.rest → AreSyms (cond c i j).rest
cond_ok true i j a b = a
cond_ok false i j a b = b

pub after_ok : (g : Tag) (i : Input) → AreSyms i.rest → AreSyms (after g i).rest
unfolding after
after_ok g i ok = cond_ok (sees g i) (next i) i (next_ok i ok) ok

cond_expect : (c : Bool) (i : Input) → AreSyms i.rest → Holds {A = Unit {0}} Always (cond c (Some (tt, i)) None)
cond_expect true i ok = (tt, ok)
cond_expect false i ok = tt

pub expect_keeps : (g : Tag) (i : Input) → AreSyms i.rest → Holds Always (expect g i)
unfolding expect
expect_keeps g i ok = cond_expect (sees g i) (next i) (next_ok i ok)

-- one way or the other
pub if_keeps : {A : Type 0} (Q : A → Type 0) (c : Bool) (p q : Parser A) (i : Input) → Holds Q (p i) → Holds Q (q i) → Holds Q ((cond c p q) i)
if_keeps Q true p q i a b = a
if_keeps Q false p q i a b = b

-- ---- names and literals

bracket_at : (w : List ℕ) (o : Option (List ℕ)) (i : Input) → inside w ≡ o → ((n : List ℕ) → inside w ≡ Some n → IsName n) → AreSyms i.rest → Holds IsName (required o i)
bracket_at w None i same is ok = tt
bracket_at w (Some n) i same is ok = (is n same, ok)

name_at : (ts : List Sym) (n : ℕ) → AreSyms ts → Holds IsName (name (at_ ts n))
unfolding name tag text next
name_at [] n ok = tt
name_at ((t.Word, w) ∷ ts) n ok = (ok.0.word refl, ok.1)
name_at ((t.Bracketed, w) ∷ ts) n ok = bracket_at w (inside w) (at_ ts n) refl ok.0.bracket ok.1
name_at ((_, w) ∷ ts) n ok = tt

pub name_keeps : (i : Input) → AreSyms i.rest → Holds IsName (name i)
name_keeps i ok = name_at i.rest i.left ok

-- what is read of a literal is a value that literals write
abbrev pub Literal : Type 0
Literal = (w : List ℕ) (v : Value) → literal_of w ≡ Some v → IsLiteral v

abbrev pub IsRead : Value → Type 0
IsRead v = IsLiteral v × IsUnsigned v

literal_value : Literal → (w : List ℕ) (o : Option Value) (i : Input) → literal_of w ≡ o → ((v : Value) → literal_of w ≡ Some v → IsUnsigned v) → AreSyms i.rest → Holds IsRead (required o i)
literal_value literal w None i same is ok = tt
literal_value literal w (Some v) i same is ok = ((literal w v same, is v same), ok)

literal_at : Literal → (ts : List Sym) (n : ℕ) → AreSyms ts → Holds IsRead (e.literal (at_ ts n))
unfolding e.literal tag text next
literal_at literal [] n ok = tt
literal_at literal ((t.Null, w) ∷ ts) n ok = literal_value literal w (literal_of w) (at_ ts n) refl ok.0.unsigned ok.1
literal_at literal ((t.Number, w) ∷ ts) n ok = literal_value literal w (literal_of w) (at_ ts n) refl ok.0.unsigned ok.1
literal_at literal ((t.Text, w) ∷ ts) n ok = literal_value literal w (literal_of w) (at_ ts n) refl ok.0.unsigned ok.1
literal_at literal ((t.Bytes, w) ∷ ts) n ok = literal_value literal w (literal_of w) (at_ ts n) refl ok.0.unsigned ok.1
literal_at literal ((_, w) ∷ ts) n ok = tt

pub literal_keeps : Literal → (i : Input) → AreSyms i.rest → Holds IsRead (e.literal i)
literal_keeps literal i ok = literal_at literal i.rest i.left ok

-- ---- one or more, with commas between

module _ {A : Type 0} (P : A → Type 0) (item : Parser A) (keeps : (i : Input) → AreSyms i.rest → Holds P (item i)) where
  each_last : (xs : List A) (x : A) → Each P xs → P x → Each P (xs ++ x ∷ [])
  each_last [] x k is = (is, tt)
  each_last (y ∷ ys) x k is = (k.0, each_last ys x k.1 is)

  some_last : (xs : List A) (x : A) → Each P xs → P x → OneOrMore P (xs ++ x ∷ [])
  some_last [] x k is = (is, tt)
  some_last (y ∷ ys) x k is = (k.0, each_last ys x k.1 is)

  from_keeps : (n : ℕ) (found : List A) → Each P found → (i : Input) → AreSyms i.rest → Holds (OneOrMore P) (list_from item n found i)
  unfolding list_from
  from_keeps zero found k i ok = tt
  from_keeps (suc n) found k i ok =
      then_keeps P (OneOrMore P) (λ y. _) (item i) (keeps i ok)
      (λ x is j more. if_keeps (OneOrMore P) (sees t.Comma j) (list_from item n (found ++ x ∷ [])) (λ m. Some (found ++ x ∷ [], m)) (after t.Comma j)
      (from_keeps n (found ++ x ∷ []) (each_last found x k is) (after t.Comma j) (after_ok t.Comma j more)) (some_last found x k is, after_ok t.Comma j more))

  pub list_keeps : (i : Input) → AreSyms i.rest → Holds (OneOrMore P) (list item i)
  unfolding list
  list_keeps i ok = from_keeps (tokens_left i) [] tt i ok
