-- The words, signs and other tokens that the grammar is made of.
use Rattle.std.specs.Prelude.{◌≡◌, ℕ, Bool, false, true, List, [], ◌∷◌, ◌++◌, codes, Option, Some, None}
use Rattle.std.specs.List.{list_any}
use Rattle.std.specs.Str.{str_eq_ignore_ascii_case}
use Rattle.sql_lex.specs.declared.token.Kind.{Kind}
use Rattle.sql_lex.specs.declared.token.Kind.TheVariants as kind
use Rattle.sql_value.specs.declared.value.Value.{Value}
use Rattle.sql_value.specs.declared.value.Value.TheVariants.{Null}
use Rattle.sql_value.specs.Literal.{literal_of}

-- a token as it is written: its kind and its bytes
abbrev pub Lexeme : Type 0
Lexeme = Kind × List ℕ

abbrev pub Lexemes : Type 0
Lexemes = List Lexeme

-- ---- words and signs

-- the reserved words, each in any case
abbrev pub reserved : List (List ℕ)
reserved =
    codes "ADD" ∷ codes "ALTER" ∷ codes "AND" ∷ codes "AS" ∷ codes "ASC" ∷ codes "BEGIN"
    ∷ codes "BY" ∷ codes "CLUSTERED" ∷ codes "COLUMN" ∷ codes "COMMIT" ∷ codes "CREATE"
    ∷ codes "DELETE" ∷ codes "DESC" ∷ codes "DROP" ∷ codes "EXEC" ∷ codes "EXECUTE" ∷ codes "FROM"
    ∷ codes "IN" ∷ codes "INDEX" ∷ codes "INSERT" ∷ codes "INTO" ∷ codes "IS" ∷ codes "KEY"
    ∷ codes "NONCLUSTERED" ∷ codes "NOT" ∷ codes "NULL" ∷ codes "OF" ∷ codes "ON" ∷ codes "OR"
    ∷ codes "ORDER" ∷ codes "PRIMARY" ∷ codes "ROLLBACK" ∷ codes "SAVE" ∷ codes "SELECT"
    ∷ codes "SET" ∷ codes "TABLE" ∷ codes "TRAN" ∷ codes "TRANSACTION" ∷ codes "UPDATE"
    ∷ codes "VALUES" ∷ codes "WHERE" ∷ codes "WITH" ∷ []

abbrev pub same_word : List ℕ → List ℕ → Bool
same_word known w = str_eq_ignore_ascii_case known w

abbrev pub is_reserved : List ℕ → Bool
is_reserved w = list_any (λ known. same_word known w) reserved

-- one word, in any case and without brackets
pub data Word (known : List ℕ) : Lexemes → Type 0 where
  word : (w : List ℕ) → same_word known w ≡ true → Word known ((kind.Word, w) ∷ [])

-- one sign
pub data Sign (known : List ℕ) : Lexemes → Type 0 where
  sign : Sign known ((kind.Sign, known) ∷ [])

-- ---- names and literals

-- name := a word that isn't reserved, or what stands between brackets
pub data IsName : Lexemes → List ℕ → Type 0 where
  bare : (w : List ℕ) → is_reserved w ≡ false → IsName ((kind.Word, w) ∷ []) w
  bracketed : (n : List ℕ) → IsName ((kind.Bracketed, codes "[" ++ (n ++ codes "]")) ∷ []) n

-- a word that isn't reserved and stands for something, in any case, in brackets or without
pub data Known (known : List ℕ) : Lexemes → Type 0 where
  named : {a : Lexemes} {n : List ℕ} → IsName a n → same_word known n ≡ true → Known known a

pub data IsNumber : Lexemes → Value → Type 0 where
  number : (w : List ℕ) {v : Value} → literal_of w ≡ Some v → IsNumber ((kind.Number, w) ∷ []) v

-- literal := number | text | bytes | NULL
pub data IsConstant : Lexemes → Value → Type 0 where
  number : {a : Lexemes} {v : Value} → IsNumber a v → IsConstant a v
  text : (w : List ℕ) {v : Value} → literal_of w ≡ Some v → IsConstant ((kind.Text, w) ∷ []) v
  bytes : (w : List ℕ) {v : Value} → literal_of w ≡ Some v → IsConstant ((kind.Bytes, w) ∷ []) v
  null : {a : Lexemes} → Word (codes "NULL") a → IsConstant a Null

-- ---- what may be left out, and lists

-- [part], of a part that says nothing
pub data OptionalPart (part : Lexemes → Type 0) : Lexemes → Type 0 where
  left_out : OptionalPart part []
  written : {a : Lexemes} → part a → OptionalPart part a

-- [part], of a part with a value
pub data Optional {A : Type 0} (part : Lexemes → A → Type 0) : Lexemes → Option A → Type 0 where
  absent : Optional part [] None
  present : {a : Lexemes} {x : A} → part a x → Optional part a (Some x)

-- part {',' part}
pub data Listed {A : Type 0} (part : Lexemes → A → Type 0) : Lexemes → List A → Type 0 where
  last : {a : Lexemes} {x : A} → part a x → Listed part a (x ∷ [])
  more : {a b c : Lexemes} {x : A} {xs : List A}
      → part a x → Sign (codes ",") b → Listed part c xs
      → Listed part (a ++ (b ++ c)) (x ∷ xs)

-- '(' part ')'
pub data Enclosed {A : Type 0} (part : Lexemes → A → Type 0) : Lexemes → A → Type 0 where
  enclosed : {a b c : Lexemes} {x : A}
      → Sign (codes "(") a → part b x → Sign (codes ")") c
      → Enclosed part (a ++ (b ++ c)) x
