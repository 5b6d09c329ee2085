-- A rule that is a sequence of parts is followed where its parts are.
use Rattle.std.proofs.Common.{◌≡◌, ◌∙◌, ℕ, zero, suc, Bool, true, false, cond, List, [], ◌∷◌, ◌++◌, Option, Some, None, refl, ap, sym, subst, append_assoc, codes, rules, ◌==◌, if◌then◌else◌, arith}
use Rattle.std.specs.Prelude.{option_and_then}
use Rattle.std.proofs.lemmas.Bool.Decides.{nat_tests}
use Rattle.sql_lex.specs.declared.token.Kind.{Kind}
use Rattle.sql_lex.specs.declared.token.Kind.TheVariants as kind
use Rattle.sql_value.specs.declared.value.Value.{Value}
use Rattle.sql_value.specs.declared.value.Value.TheVariants.{Null}
use Rattle.sql_value.specs.Literal.{literal_of}
use Rattle.spec_grammar.specs.Tokens.{Lexeme, Lexemes, Word, word, same_word, Sign, IsName, bracketed, IsNumber, number, IsConstant, text, bytes, null, OptionalPart, left_out, written, Listed, last, more}
use Rattle.spec_syntax.specs.declared.tag.Tag.{Tag}
use Rattle.spec_syntax.specs.declared.tag.Tag.TheVariants as t
use Rattle.spec_syntax.specs.Tags.{same_tag, tag_of}
use Rattle.spec_syntax.specs.Input.{Input, Outcome, Parser, and_then, ◌>>=◌, pure, tag, text as word_at, next, required, sees, after, eat, expect, list, list_from, tokens_left}
use Rattle.spec_syntax.specs.Expr.{name, name_by, literal, literal_by, inside, before_close}
use Rattle.spec_syntax.specs.Row as r
use Rattle.law_printing.proofs.Names.{ends}
use Rattle.law_syntax.proofs.Terminals.{Terminal, from, null_, comma_}
use Rattle.law_syntax.proofs.Leaves.{is_free, is_bracketed, is_number, is_text, is_bytes, null_value}
use denote.Enum.Bare.{same_true}
use Rattle.spec_syntax.specs.contracts.tag.Tag.{the_type}

pub the_same : {A : Type 0} {a b : A} → ◌≡◌ {A = Option A} (Some a) (Some b) → a ≡ b
the_same h = cc

pub same_tag_true : (a b : Tag) → same_tag a b ≡ true → a ≡ b
unfolding same_tag
same_tag_true a b h = same_true the_type (search rules) a b h

-- What the parser takes of the tokens is the value by the rule.
pub record Part {A : Type 0} (rule : Lexemes → A → Type 0) (a : Lexemes) (j : Input) (x : A) : Type 0 where
  pub tokens : Lexemes
  pub rest : Lexemes
  pub left : ℕ
  pub cut : a ≡ tokens ++ rest
  pub met : from rest left ≡ j
  pub is : rule tokens x

abbrev pub Follows : {A : Type 0} → Parser A → (Lexemes → A → Type 0) → Type 0
Follows {A} p rule = (a : Lexemes) (n : ℕ) (x : A) (j : Input) → p (from a n) ≡ Some (x, j) → Part rule a j x

-- a rule at equal tokens and an equal value
pub moved : {A : Type 0} (rule : Lexemes → A → Type 0) {a b : Lexemes} {x y : A} → a ≡ b → x ≡ y → rule a x → rule b y
moved rule {b = b} {x = x} tokens value is = subst (λ z. rule b z) value (subst (λ z. rule z x) tokens is)

-- one step of a sequence, and what comes next
pub record Step {A B : Type 0} (rule : Lexemes → A → Type 0) (a : Lexemes) (f : A → Parser B) (y : B) (j : Input) : Type 0 where
  pub value : A
  pub tokens : Lexemes
  pub rest : Lexemes
  pub left : ℕ
  pub cut : a ≡ tokens ++ rest
  pub is : rule tokens value
  pub then_ : f value (from rest left) ≡ Some (y, j)

step_of : {A B : Type 0} (rule : Lexemes → A → Type 0) (p : Parser A) (f : A → Parser B) → Follows p rule → (a : Lexemes) (n : ℕ) (y : B) (j : Input) (q : Outcome A) → p (from a n) ≡ q
    → and_then q f ≡ Some (y, j) → Step rule a f y j
step_of rule p f follows a n y j None read h = absurd (cc)
step_of rule p f follows a n y j (Some x) read h =
    let k = follows a n x.0 x.1 read in
    record { value = x.0; tokens = k.tokens; rest = k.rest; left = k.left; cut = k.cut; is = k.is; then_ = ap (λ z. f x.0 z) k.met ∙ h }

pub step : {A B : Type 0} {rule : Lexemes → A → Type 0} (p : Parser A) → Follows p rule → (f : A → Parser B) (a : Lexemes) (n : ℕ) (y : B) (j : Input) → and_then (p (from a n)) f ≡ Some (y, j) → Step rule a f y j
step {rule = rule} p follows f a n y j h = step_of rule p f follows a n y j (p (from a n)) refl h

-- tokens in a row
pub joins : {a y : Lexemes} (x u v : Lexemes) → a ≡ x ++ y → y ≡ u ++ v → a ≡ (x ++ u) ++ v
joins x u v whole rest = whole ∙ ap (λ z. x ++ z) rest ∙ sym (append_assoc x u v)

-- the end of a sequence
pub built : {A : Type 0} (rule : Lexemes → A → Type 0) {a : Lexemes} {x y : A} {j : Input} (tokens rest : Lexemes) (left : ℕ) → a ≡ tokens ++ rest → rule tokens x
    → ◌≡◌ {A = Outcome A} (Some (x, from rest left)) (Some (y, j)) → Part rule a j y
built {A} rule {x = x} {y = y} {j = j} tokens rest left cut is h =
    let pair : ◌≡◌ {A = A × Input} (x, from rest left) (y, j) = the_same h in
    record { tokens = tokens; rest = rest; left = left; cut = cut; met = ap (λ p. p.1) pair; is = subst (λ z. rule tokens z) (ap (λ p. p.0) pair) is }

-- ---- words and signs

-- the token of this tag comes first
pub record First (g : Tag) (a : Lexemes) : Type 0 where
  pub kind_ : Kind
  pub word_ : List ℕ
  pub rest : Lexemes
  pub cut : a ≡ (kind_, word_) ∷ rest
  pub is : tag_of kind_ word_ ≡ g

pub seen_first : (g : Tag) (a : Lexemes) (n : ℕ) → sees g (from a n) ≡ true → First g a
unfolding sees
seen_first g [] n h = absurd (cc)
seen_first g (s ∷ a) n h = record { kind_ = s.0; word_ = s.1; rest = a; cut = refl; is = same_tag_true (tag_of s.0 s.1) g h }

-- a part that says nothing
abbrev pub Said : (Lexemes → Type 0) → Lexemes → Unit {0} → Type 0
Said part a u = part a

-- a part that may come, and whether it did
abbrev pub Seen : (Lexemes → Type 0) → Lexemes → Bool → Type 0
Seen part a true = part a
Seen part a false = a ≡ []

pub may : {part : Lexemes → Type 0} {a : Lexemes} (b : Bool) → Seen part a b → OptionalPart part a
may true is = written is
may {part = part} false is = subst (OptionalPart part) (sym is) left_out

pub next_first : (k : Kind) (w : List ℕ) (a : Lexemes) (n : ℕ) → next (from ((k, w) ∷ a) n) ≡ from a n
unfolding next
next_first k w a n = refl

pub taken_first : (g : Tag) (a : Lexemes) (n : ℕ) (f : First g a) → next (from a n) ≡ from f.rest n
taken_first g a n f = ap (λ z. next (from z n)) f.cut ∙ next_first f.kind_ f.word_ f.rest n

-- one token that is the value by the rule, where what is left of the expression stays
pub record Leaf {A : Type 0} (rule : Lexemes → A → Type 0) (a : Lexemes) (n : ℕ) (j : Input) (x : A) : Type 0 where
  pub token : Lexeme
  pub rest : Lexemes
  pub cut : a ≡ token ∷ rest
  pub met : from rest n ≡ j
  pub is : rule (token ∷ []) x

pub part_of : {A : Type 0} {rule : Lexemes → A → Type 0} {a : Lexemes} {n : ℕ} {j : Input} {x : A} → Leaf rule a n j x → Part rule a j x
part_of {n = n} k = record { tokens = k.token ∷ []; rest = k.rest; left = n; cut = k.cut; met = k.met; is = k.is }

expects_by : (g : Tag) (part : Lexemes → Type 0) → Terminal g part → (a : Lexemes) (n : ℕ) (x : Unit {0}) (j : Input) (b : Bool) → sees g (from a n) ≡ b
    → cond {A = Outcome (Unit {0})} b (Some (tt, next (from a n))) None ≡ Some (x, j) → Leaf (Said part) a n j x
expects_by g part is a n x j false seen h = absurd (cc)
expects_by g part is a n x j true seen h =
    let f = seen_first g a n seen in
    record { token = (f.kind_, f.word_); rest = f.rest; cut = f.cut; met = sym (taken_first g a n f) ∙ ap (λ p. p.1) (the_same h); is = is.gives f.kind_ f.word_ f.is }

pub expects_leaf : {g : Tag} {part : Lexemes → Type 0} → Terminal g part → (a : Lexemes) (n : ℕ) (x : Unit {0}) (j : Input) → expect g (from a n) ≡ Some (x, j) → Leaf (Said part) a n j x
unfolding expect
expects_leaf {g} {part} is a n x j h = expects_by g part is a n x j (sees g (from a n)) refl h

pub expects : {g : Tag} {part : Lexemes → Type 0} → Terminal g part → Follows (expect g) (Said part)
expects is a n x j h = part_of (expects_leaf is a n x j h)

eats_by : (g : Tag) (part : Lexemes → Type 0) → Terminal g part → (a : Lexemes) (n : ℕ) (x : Bool) (j : Input) (b : Bool) → sees g (from a n) ≡ b → b ≡ x
    → cond b (next (from a n)) (from a n) ≡ j → Part (Seen part) a j x
eats_by g part is a n true j true seen same met =
    let f = seen_first g a n seen in
    record { tokens = (f.kind_, f.word_) ∷ []; rest = f.rest; left = n; cut = f.cut; met = sym (taken_first g a n f) ∙ met; is = is.gives f.kind_ f.word_ f.is }
eats_by g part is a n false j false seen same met = record { tokens = []; rest = a; left = n; cut = refl; met = met; is = refl }
eats_by g part is a n true j false seen same met = absurd (cc)
eats_by g part is a n false j true seen same met = absurd (cc)

pub eats : {g : Tag} {part : Lexemes → Type 0} → Terminal g part → Follows (eat g) (Seen part)
unfolding after
eats {g} {part} is a n x j h =
    let pair : ◌≡◌ {A = Bool × Input} (sees g (from a n), after g (from a n)) (x, j) = the_same h in
    eats_by g part is a n x j (sees g (from a n)) refl (ap (λ p. p.0) pair) (ap (λ p. p.1) pair)

-- ---- names and literals

pub required_some : {A : Type 0} (o : Option A) (i j : Input) (x : A) → required o i ≡ Some (x, j) → (o ≡ Some x) × (i ≡ j)
required_some None i j x h = absurd (cc)
required_some {A} (Some y) i j x h =
    let pair : ◌≡◌ {A = A × Input} (y, i) (x, j) = the_same h in
    (ap (λ p. Some p.0) pair, ap (λ p. p.1) pair)

opened_by : (c : ℕ) (cs n : List ℕ) (b : Bool) → (c == 91) ≡ b → option_and_then before_close (cond b (Some cs) None) ≡ Some n → c ∷ cs ≡ codes "[" ++ (n ++ codes "]")
opened_by c cs n false is h = absurd (cc)
opened_by c cs n true is h = let first : c ≡ 91 = grind (arith, nat_tests) in ap (λ z. z ∷ cs) first ∙ ap (λ z. 91 ∷ z) (ends cs n h)

inside_is : (w n : List ℕ) → inside w ≡ Some n → w ≡ codes "[" ++ (n ++ codes "]")
unfolding inside
inside_is [] n h = absurd (cc)
inside_is (c ∷ cs) n h = opened_by c cs n (c == 91) refl h

pub in_brackets : (k : Kind) (w n : List ℕ) → k ≡ kind.Bracketed → inside w ≡ Some n → IsName ((k, w) ∷ []) n
in_brackets k w n is h =
    let P : Kind → List ℕ → Type 0 = λ y z. IsName ((y, z) ∷ []) n in
    subst (λ z. P k z) (sym (inside_is w n h)) (subst (λ y. P y (codes "[" ++ (n ++ codes "]"))) (sym is) (bracketed n))

name_by_tag : (k : Kind) (w : List ℕ) (a : Lexemes) (n : ℕ) (x : List ℕ) (j : Input) (g : Tag) → tag_of k w ≡ g → name_by g (from ((k, w) ∷ a) n) ≡ Some (x, j) → Leaf IsName ((k, w) ∷ a) n j x
unfolding word_at next
name_by_tag k w a n x j t.Word is h =
    let pair : ◌≡◌ {A = List ℕ × Input} (w, from a n) (x, j) = the_same h in
    record { token = (k, w); rest = a; cut = refl; met = ap (λ p. p.1) pair; is = moved IsName refl (ap (λ p. p.0) pair) (is_free k w is) }
name_by_tag k w a n x j t.Bracketed is h =
    let given = required_some (inside w) (from a n) j x h in
    record { token = (k, w); rest = a; cut = refl; met = given.1; is = in_brackets k w x (is_bracketed k w is) given.0 }
name_by_tag k w a n x j _ is h = absurd (cc)

pub name_leaf : (a : Lexemes) (n : ℕ) (x : List ℕ) (j : Input) → name (from a n) ≡ Some (x, j) → Leaf IsName a n j x
unfolding name tag
name_leaf [] n x j h = absurd (cc)
name_leaf (s ∷ a) n x j h = name_by_tag s.0 s.1 a n x j (tag_of s.0 s.1) refl h

pub name_follows : Follows name IsName
name_follows a n x j h = part_of (name_leaf a n x j h)

abbrev Spells : List ℕ → Lexemes → Type 0
Spells known [] = ⊥
Spells known (s ∷ a) = same_word known s.1 ≡ true

spells : (known : List ℕ) (a : Lexemes) → Word known a → Spells known a
spells known _ (word w h) = h

word_of : (k : Kind) (w : List ℕ) → Word (codes "NULL") ((k, w) ∷ []) → same_word (codes "NULL") w ≡ true
word_of k w is = spells (codes "NULL") ((k, w) ∷ []) is

null_is : (k : Kind) (w : List ℕ) (x : Value) → Word (codes "NULL") ((k, w) ∷ []) → literal_of w ≡ Some x → IsConstant ((k, w) ∷ []) x
null_is k w x is h = let same : Null ≡ x = the_same (sym (null_value w (word_of k w is)) ∙ h) in moved IsConstant refl same (null is)

literal_by_tag : (k : Kind) (w : List ℕ) (a : Lexemes) (n : ℕ) (x : Value) (j : Input) (g : Tag) → tag_of k w ≡ g → literal_by g (from ((k, w) ∷ a) n) ≡ Some (x, j) → Leaf IsConstant ((k, w) ∷ a) n j x
unfolding word_at next
literal_by_tag k w a n x j t.Null is h =
    let given = required_some (literal_of w) (from a n) j x h in
    let a_word = null_.gives k w is in
    record { token = (k, w); rest = a; cut = refl; met = given.1; is = null_is k w x a_word given.0 }
literal_by_tag k w a n x j t.Number is h =
    let given = required_some (literal_of w) (from a n) j x h in
    let P : Kind → Type 0 = λ y. IsConstant ((y, w) ∷ []) x in
    record { token = (k, w); rest = a; cut = refl; met = given.1; is = subst P (sym (is_number k w is)) (number (number w given.0)) }
literal_by_tag k w a n x j t.Text is h =
    let given = required_some (literal_of w) (from a n) j x h in
    let P : Kind → Type 0 = λ y. IsConstant ((y, w) ∷ []) x in
    record { token = (k, w); rest = a; cut = refl; met = given.1; is = subst P (sym (is_text k w is)) (text w given.0) }
literal_by_tag k w a n x j t.Bytes is h =
    let given = required_some (literal_of w) (from a n) j x h in
    let P : Kind → Type 0 = λ y. IsConstant ((y, w) ∷ []) x in
    record { token = (k, w); rest = a; cut = refl; met = given.1; is = subst P (sym (is_bytes k w is)) (bytes w given.0) }
literal_by_tag k w a n x j _ is h = absurd (cc)

pub literal_leaf : (a : Lexemes) (n : ℕ) (x : Value) (j : Input) → literal (from a n) ≡ Some (x, j) → Leaf IsConstant a n j x
unfolding literal tag
literal_leaf [] n x j h = absurd (cc)
literal_leaf (s ∷ a) n x j h = literal_by_tag s.0 s.1 a n x j (tag_of s.0 s.1) refl h

number_leaf : (k : Kind) (w : List ℕ) (a : Lexemes) (n : ℕ) (x : Value) (j : Input) → tag_of k w ≡ t.Number → literal (from ((k, w) ∷ a) n) ≡ Some (x, j) → Leaf IsNumber ((k, w) ∷ a) n j x
unfolding literal tag word_at next
number_leaf k w a n x j is h =
    let read : literal_by t.Number (from ((k, w) ∷ a) n) ≡ Some (x, j) = subst (λ z. literal_by z (from ((k, w) ∷ a) n) ≡ Some (x, j)) is h in
    let given = required_some (literal_of w) (from a n) j x read in
    let P : Kind → Type 0 = λ y. IsNumber ((y, w) ∷ []) x in
    record { token = (k, w); rest = a; cut = refl; met = given.1; is = subst P (sym (is_number k w is)) (number w given.0) }

number_by_tag : (k : Kind) (w : List ℕ) (a : Lexemes) (n : ℕ) (x : Value) (j : Input) (g : Tag) → tag_of k w ≡ g → r.number_by g (from ((k, w) ∷ a) n) ≡ Some (x, j) → Leaf IsNumber ((k, w) ∷ a) n j x
number_by_tag k w a n x j t.Number is h = number_leaf k w a n x j is h
number_by_tag k w a n x j _ is h = absurd (cc)

pub number_follows : Follows r.number IsNumber
unfolding r.number tag
number_follows [] n x j h = absurd (cc)
number_follows (s ∷ a) n x j h = part_of (number_by_tag s.0 s.1 a n x j (tag_of s.0 s.1) refl h)

-- ---- lists

module _ {A : Type 0} (item : Parser A) (rule : Lexemes → A → Type 0) (follows : Follows item rule) where
  -- what more is read behind the items that were found
  record Grows (found : List A) (a : Lexemes) (j : Input) (all : List A) : Type 0 where
    new : List A
    whole : all ≡ found ++ new
    part : Part (Listed rule) a j new

  grows_by : (m : ℕ) (found : List A) (a : Lexemes) (j : Input) (all : List A) (b : Bool) (s : Step rule a (λ x. eat t.Comma >>= (λ c. if c then list_from item m (found ++ x ∷ []) else pure (found ++ x ∷ []))) all j)
      (c : Step (Seen (Sign (codes ","))) s.rest (λ z. if z then list_from item m (found ++ s.value ∷ []) else pure (found ++ s.value ∷ [])) all j) → c.value ≡ b
      → ((f : List A) (e : Lexemes) (k : ℕ) → list_from item m f (from e k) ≡ Some (all, j) → Grows f e j all) → Grows found a j all
  grows_by m found a j all false s c is again =
      let rest : Seen (Sign (codes ",")) c.tokens false = subst (λ z. Seen (Sign (codes ",")) c.tokens z) is c.is in
      let next_ : pure (found ++ s.value ∷ []) (from c.rest c.left) ≡ Some (all, j) = subst (λ z. (if z then list_from item m (found ++ s.value ∷ []) else pure (found ++ s.value ∷ [])) (from c.rest c.left) ≡ Some (all, j)) is c.then_ in
      let pair : ◌≡◌ {A = List A × Input} (found ++ s.value ∷ [], from c.rest c.left) (all, j) = the_same next_ in
      record {
        new = s.value ∷ [];
        whole = sym (ap (λ p. p.0) pair);
        part = record {
          tokens = s.tokens;
          rest = c.rest;
          left = c.left;
          cut = s.cut ∙ ap (λ z. s.tokens ++ z) (c.cut ∙ ap (λ z. z ++ c.rest) rest);
          met = ap (λ p. p.1) pair;
          is = last s.is;
        };
      }
  grows_by m found a j all true s c is again =
      let comma : Seen (Sign (codes ",")) c.tokens true = subst (λ z. Seen (Sign (codes ",")) c.tokens z) is c.is in
      let next_ : list_from item m (found ++ s.value ∷ []) (from c.rest c.left) ≡ Some (all, j) = subst (λ z. (if z then list_from item m (found ++ s.value ∷ []) else pure (found ++ s.value ∷ [])) (from c.rest c.left) ≡ Some (all, j)) is c.then_ in
      let g = again (found ++ s.value ∷ []) c.rest c.left next_ in
      record {
        new = s.value ∷ g.new;
        whole = g.whole ∙ append_assoc found (s.value ∷ []) g.new;
        part = record {
          tokens = s.tokens ++ (c.tokens ++ g.part.tokens);
          rest = g.part.rest;
          left = g.part.left;
          cut = joins _ _ _ s.cut (joins _ _ _ c.cut g.part.cut);
          met = g.part.met;
          is = more s.is comma g.part.is;
        };
      }

  grows : (m : ℕ) (found : List A) (a : Lexemes) (n : ℕ) (j : Input) (all : List A) → list_from item m found (from a n) ≡ Some (all, j) → Grows found a j all
  unfolding list_from
  grows zero found a n j all h = absurd (cc)
  grows (suc m) found a n j all h =
      let s = step item follows _ a n all j h in
      let c = step (eat t.Comma) (eats comma_) _ s.rest s.left all j s.then_ in
      grows_by m found a j all c.value s c refl (λ f e k is. grows m f e k j all is)

  pub list_follows : Follows (list item) (Listed rule)
  unfolding list
  list_follows a n all j h =
      let g = grows (tokens_left (from a n)) [] a n j all h in
      record { tokens = g.part.tokens; rest = g.part.rest; left = g.part.left; cut = g.part.cut; met = g.part.met; is = subst (λ z. Listed rule g.part.tokens z) (sym g.whole) g.part.is }
