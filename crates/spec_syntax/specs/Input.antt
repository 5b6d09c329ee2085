-- What a parser reads from, and the steps that every rule is made of.
use Rattle.std.specs.Prelude.{◌≡◌, ℕ, zero, suc, ◌+◌, ◌-◌, Bool, false, if◌then◌else◌, ◌==◌, List, [], ◌∷◌, ◌++◌, map, drop, length, Option, Some, None, Result, Ok, Err}
use Rattle.std.specs.Borrow.{Bor}
use Rattle.spec_syntax.specs.declared.tag.Tag.{Tag}
use Rattle.spec_syntax.specs.declared.tag.Tag.TheVariants.{End, Comma, Open}
use Rattle.spec_syntax.specs.declared.piece.Piece.{Piece}
use Rattle.spec_syntax.specs.declared.parse_err.ParseErr.{ParseErr}
use Rattle.spec_syntax.specs.declared.parse_err.ParseErr.TheVariants.{Syntax, Memory}
use Rattle.spec_syntax.specs.Tags.{same_tag}

-- a token: what it is, and how it is written
abbrev pub Sym : Type 0
Sym = Tag × List ℕ

abbrev pub syms : List Piece → List Sym
syms pieces = map (λ p. (p.tag, p.text.now)) pieces

pub record Input : Type 0 where
  -- the tokens from here on
  pub rest : List Sym
  -- how many operators and operands the expression may still have
  pub left : ℕ

abbrev pub start : List Sym → Input
start ts = record { rest = ts; left = 0 }

-- ---- the next token

abbrev pub tag_at : List Sym → Tag
tag_at [] = End
tag_at (t ∷ ts) = t.0

abbrev pub text_at : List Sym → List ℕ
text_at [] = []
text_at (t ∷ ts) = t.1

unfoldable pub tag : Input → Tag
tag i = tag_at i.rest

unfoldable pub text : Input → List ℕ
text i = text_at i.rest

unfoldable pub next : Input → Input
next i = record { rest = drop 1 i.rest; left = i.left }

-- ---- parsers

abbrev pub Outcome : Type 0 → Type 0
Outcome A = Option (A × Input)

abbrev pub Parser : Type 0 → Type 0
Parser A = Input → Outcome A

abbrev pub and_then : {A B : Type 0} → Outcome A → (A → Parser B) → Outcome B
and_then (Some p) f = f p.0 p.1
and_then None f = None

infixl 10 ◌>>=◌
abbrev pub ◌>>=◌ : {A B : Type 0} → Parser A → (A → Parser B) → Parser B
p >>= f = λ i. and_then (p i) f

infixl 10 ◌>>◌
abbrev pub ◌>>◌ : {A B : Type 0} → Parser A → Parser B → Parser B
p >> q = p >>= (λ _. q)

abbrev pub pure : {A : Type 0} → A → Parser A
pure a = λ i. Some (a, i)

abbrev pub refuse : {A : Type 0} → Parser A
refuse = λ i. None

-- what there is of an option
abbrev pub required : {A : Type 0} → Option A → Parser A
required (Some a) = pure a
required None = refuse

infixr 11 ◌<$>◌
abbrev pub ◌<$>◌ : {A B : Type 0} → (A → B) → Parser A → Parser B
f <$> p = p >>= (λ x. pure (f x))

abbrev pub peek : Parser Tag
peek = λ i. Some (tag i, i)

-- the token's text, whatever its tag
abbrev pub take_text : Parser (List ℕ)
take_text = λ i. Some (text i, next i)

abbrev pub sees_at : Tag → List Sym → Bool
sees_at t [] = false
sees_at t (s ∷ ts) = same_tag s.0 t

unfoldable pub sees : Tag → Input → Bool
sees t i = sees_at t i.rest

-- a '(' stands behind the next token
unfoldable pub calls : Input → Bool
calls i = sees_at Open (drop 1 i.rest)

unfoldable pub after : Tag → Input → Input
after t i = if sees t i then next i else i

-- takes a token with this tag, if it comes next
abbrev pub eat : Tag → Parser Bool
eat t = λ i. Some (sees t i, after t i)

unfoldable pub expect : Tag → Parser (Unit {0})
expect t = λ i. if sees t i then Some (tt, next i) else None

unfoldable pub tokens_left : Input → ℕ
tokens_left i = length i.rest

-- ---- one or more, with commas between. The number bounds the turns, and each takes a token.

module _ {A : Type 0} (item : Parser A) where
  unfoldable pub list_from : ℕ → List A → Parser (List A)
  list_from zero found = refuse
  list_from (suc n) found = do
    x ← item
    more ← eat Comma
    if more then list_from n (found ++ x ∷ []) else pure (found ++ x ∷ [])

  unfoldable pub list : Parser (List A)
  list = λ i. list_from (tokens_left i) [] i

-- one or more, with commas between, each of which adds to what was read so far
module _ {A : Type 0} (step : A → Parser A) where
  unfoldable pub fold_from : ℕ → A → Parser A
  fold_from zero found = refuse
  fold_from (suc n) found = do
    x ← step found
    more ← eat Comma
    if more then fold_from n x else pure x

  unfoldable pub fold : A → Parser A
  fold found = λ i. fold_from (tokens_left i) found i

-- ---- the operators and operands of an expression

abbrev pub max_parts : ℕ
max_parts = 256

unfoldable pub begin : Input → Input
begin i = record { rest = i.rest; left = max_parts }

-- counts one more
unfoldable pub spend : Parser (Unit {0})
spend = λ i. if i.left == 0 then None else Some (tt, record { rest = i.rest; left = i.left - 1 })

abbrev pub one_more : Outcome ℕ → Outcome ℕ
one_more (Some p) = Some (p.0 + 1, p.1)
one_more None = None

abbrev pub repeated_at : Tag → List Sym → ℕ → Outcome ℕ
repeated_at t [] left = Some (0, record { rest = []; left = left })
repeated_at t (s ∷ ts) left =
    if same_tag s.0 t
    then (if left == 0 then None else one_more (repeated_at t ts (left - 1)))
    else Some (0, record { rest = s ∷ ts; left = left })

-- takes each token of the tag that comes next, and counts it
unfoldable pub repeated : Tag → Parser ℕ
repeated t = λ i. repeated_at t i.rest i.left

-- ---- what a function that parses ensures: the parser's outcome, unless memory fails

abbrev pub ParsesUnlessOom : {A : Type 0} → Outcome A → Result A ParseErr → Input → Type 0
ParsesUnlessOom outcome (Ok x) new = outcome ≡ Some (x, new)
ParsesUnlessOom outcome (Err Syntax) new = outcome ≡ None
ParsesUnlessOom outcome (Err Memory) new = Unit {0}

-- the same for a text that is borrowed
abbrev pub ParsesTextUnlessOom : Outcome (List ℕ) → Result (Bor (List ℕ)) ParseErr → Input → Type 0
ParsesTextUnlessOom outcome (Ok x) new = outcome ≡ Some (x.now, new)
ParsesTextUnlessOom outcome (Err Syntax) new = outcome ≡ None
ParsesTextUnlessOom outcome (Err Memory) new = Unit {0}

-- the same where no token is taken
abbrev pub ConvertsUnlessOom : {A : Type 0} → Option A → Result A ParseErr → Type 0
ConvertsUnlessOom meant (Ok x) = meant ≡ Some x
ConvertsUnlessOom meant (Err Syntax) = meant ≡ None
ConvertsUnlessOom meant (Err Memory) = Unit {0}
