-- The words and signs of the grammar are the tokens of the parser's tags.
use Rattle.std.proofs.Common.{◌≡◌, ◌∙◌, ℕ, Bool, true, false, cond, List, [], ◌∷◌, map, Option, Some, None, refl, ap, sym, subst, arith, codes, nat_lt, drop}
use Rattle.std.specs.Char.{to_ascii_lowercase}
use Rattle.std.specs.Str.{str_eq_ignore_ascii_case, str_to_ascii_lowercase}
use Rattle.std.specs.List.{list_all}
use Rattle.std.proofs.lemmas.Bool.{and_parts}
use Rattle.std.proofs.lemmas.Bool.Decides.{nat_tests}
use Rattle.std.proofs.lemmas.Slice.Eq.{bytes_eq-Decides}
use Rattle.sql_lex.specs.declared.token.Kind.{Kind}
use Rattle.sql_lex.specs.declared.token.Kind.TheVariants as kind
use Rattle.spec_grammar.specs.Tokens.{Lexeme, Lexemes, Word, word, Sign, sign as the_sign, same_word}
use Rattle.spec_syntax.specs.declared.tag.Tag.{Tag}
use Rattle.spec_syntax.specs.declared.tag.Tag.TheVariants as t
use Rattle.spec_syntax.specs.declared.tag.TheConstants.{RESERVED, SIGNS}
use Rattle.spec_syntax.specs.Tags.{lookup, tag_of}
use Rattle.spec_syntax.specs.Input.{Sym, Input}

-- what a token is to the parser
abbrev pub tagged : Lexeme → Sym
tagged s = (tag_of s.0 s.1, s.1)

-- the parser at these tokens
abbrev pub from : Lexemes → ℕ → Input
from a n = record { rest = map tagged a; left = n }

-- The part of the grammar is one token, the one of the tag.
pub record Terminal (g : Tag) (part : Lexemes → Type 0) : Type 0 where
  pub takes : (a : Lexemes) → part a → (k : Kind) × (w : List ℕ) × (a ≡ (k, w) ∷ []) × (tag_of k w ≡ g)
  pub gives : (k : Kind) (w : List ℕ) → tag_of k w ≡ g → part ((k, w) ∷ [])

-- ---- case

pub lower_same : (a b : List ℕ) → str_eq_ignore_ascii_case a b ≡ true → str_to_ascii_lowercase a ≡ str_to_ascii_lowercase b
lower_same a b h = (bytes_eq-Decides (str_to_ascii_lowercase a) (str_to_ascii_lowercase b)).0 h

pub same_lower : (a b : List ℕ) → str_to_ascii_lowercase a ≡ str_to_ascii_lowercase b → str_eq_ignore_ascii_case a b ≡ true
same_lower a b h = (bytes_eq-Decides (str_to_ascii_lowercase a) (str_to_ascii_lowercase b)).1 h

pub same_turned : (a b : List ℕ) → str_eq_ignore_ascii_case a b ≡ true → str_eq_ignore_ascii_case b a ≡ true
same_turned a b h = same_lower b a (sym (lower_same a b h))

pub same_through : (a b c : List ℕ) → str_eq_ignore_ascii_case a b ≡ true → str_eq_ignore_ascii_case b c ≡ true → str_eq_ignore_ascii_case a c ≡ true
same_through a b c h k = same_lower a c (lower_same a b h ∙ lower_same b c k)

pub same_test : (a b c : List ℕ) → str_eq_ignore_ascii_case b c ≡ true → str_eq_ignore_ascii_case a b ≡ str_eq_ignore_ascii_case a c
same_test a b c h = rw (lower_same b c h) refl

-- ---- tables

abbrev pub Table : Type 0
Table = List (List ℕ × Tag)

abbrev pub words : Table
words = map (λ k. (k.0.now, k.1)) RESERVED

abbrev pub signs : Table
signs = map (λ k. (k.0.now, k.1)) SIGNS

lookup_same : (ks : Table) (v w : List ℕ) (other : Tag) → str_eq_ignore_ascii_case v w ≡ true → lookup ks v other ≡ lookup ks w other
lookup_same [] v w other h = refl
lookup_same (k ∷ ks) v w other h = rw (same_test k.0 v w h) (ap (λ z. cond (str_eq_ignore_ascii_case k.0 w) k.1 z) (lookup_same ks v w other h))

-- a spelling of tags, and a table that keeps to it
abbrev fits_by : Option (List ℕ) → List ℕ → Bool
fits_by None w = true
fits_by (Some s) w = str_eq_ignore_ascii_case s w

abbrev pub none_by : Option (List ℕ) → Bool
none_by None = true
none_by (Some s) = false

fits_some : (o : Option (List ℕ)) (s w : List ℕ) → o ≡ Some s → fits_by o w ≡ true → str_eq_ignore_ascii_case s w ≡ true
fits_some o s w e h = let P : Option (List ℕ) → Type 0 = λ z. fits_by z w ≡ true in subst P e h

pub none_some : {A : Type 0} (o : Option (List ℕ)) (s : List ℕ) → o ≡ Some s → none_by o ≡ true → A
none_some o s e h = let no : false ≡ true = sym (ap none_by e) ∙ h in absurd (cc)

module _ (spelled : Tag → Option (List ℕ)) where
  found_by : (c : Bool) (k : List ℕ × Tag) (w s : List ℕ) (rest g : Tag) → str_eq_ignore_ascii_case k.0 w ≡ c → fits_by (spelled k.1) k.0 ≡ true → spelled g ≡ Some s
      → (rest ≡ g → str_eq_ignore_ascii_case s w ≡ true) → cond c k.1 rest ≡ g → str_eq_ignore_ascii_case s w ≡ true
  found_by true k w s rest g same fits is again e = same_through s k.0 w (fits_some (spelled k.1) s k.0 (ap spelled e ∙ is) fits) same
  found_by false k w s rest g same fits is again e = again e

  -- what is found in a table is spelled so
  found : (ks : Table) (w s : List ℕ) (other g : Tag) → list_all (λ k. fits_by (spelled k.1) k.0) ks ≡ true → none_by (spelled other) ≡ true → spelled g ≡ Some s → lookup ks w other ≡ g
      → str_eq_ignore_ascii_case s w ≡ true
  found [] w s other g all none is e = none_some (spelled other) s (ap spelled e ∙ is) none
  found (k ∷ ks) w s other g all none is e =
      let both = and_parts (fits_by (spelled k.1) k.0) (list_all (λ x. fits_by (spelled x.1) x.0) ks) all in
      found_by (str_eq_ignore_ascii_case k.0 w) k w s (lookup ks w other) g refl both.0 is (λ h. found ks w s other g both.1 none is h) e

  other_by : {A : Type 0} (c : Bool) (a b g : Tag) (s : List ℕ) → none_by (spelled a) ≡ true → spelled g ≡ Some s → (b ≡ g → A) → cond c a b ≡ g → A
  other_by true a b g s none is again e = none_some (spelled a) s (ap spelled e ∙ is) none
  other_by false a b g s none is again e = again e

  -- what is found in a table of others isn't spelled
  pub others : {A : Type 0} (ks : Table) (w s : List ℕ) (other g : Tag) → list_all (λ k. none_by (spelled k.1)) ks ≡ true → none_by (spelled other) ≡ true → spelled g ≡ Some s → lookup ks w other ≡ g → A
  others [] w s other g all none is e = none_some (spelled other) s (ap spelled e ∙ is) none
  others (k ∷ ks) w s other g all none is e =
      let both = and_parts (none_by (spelled k.1)) (list_all (λ x. none_by (spelled x.1)) ks) all in
      other_by (str_eq_ignore_ascii_case k.0 w) k.1 (lookup ks w other) g s both.0 is (λ h. others ks w s other g both.1 none is h) e

-- ---- words

abbrev pub spelled_word : Tag → Option (List ℕ)
spelled_word t.Add = Some (codes "ADD")
spelled_word t.Alter = Some (codes "ALTER")
spelled_word t.And = Some (codes "AND")
spelled_word t.Asc = Some (codes "ASC")
spelled_word t.Begin = Some (codes "BEGIN")
spelled_word t.By = Some (codes "BY")
spelled_word t.Clustered = Some (codes "CLUSTERED")
spelled_word t.Column = Some (codes "COLUMN")
spelled_word t.Commit = Some (codes "COMMIT")
spelled_word t.Create = Some (codes "CREATE")
spelled_word t.Delete = Some (codes "DELETE")
spelled_word t.Desc = Some (codes "DESC")
spelled_word t.Drop = Some (codes "DROP")
spelled_word t.Exec = Some (codes "EXEC")
spelled_word t.Execute = Some (codes "EXECUTE")
spelled_word t.From = Some (codes "FROM")
spelled_word t.Index = Some (codes "INDEX")
spelled_word t.Insert = Some (codes "INSERT")
spelled_word t.Into = Some (codes "INTO")
spelled_word t.Is = Some (codes "IS")
spelled_word t.Key = Some (codes "KEY")
spelled_word t.Nonclustered = Some (codes "NONCLUSTERED")
spelled_word t.Not = Some (codes "NOT")
spelled_word t.Null = Some (codes "NULL")
spelled_word t.On = Some (codes "ON")
spelled_word t.Or = Some (codes "OR")
spelled_word t.Order = Some (codes "ORDER")
spelled_word t.Primary = Some (codes "PRIMARY")
spelled_word t.Rollback = Some (codes "ROLLBACK")
spelled_word t.Save = Some (codes "SAVE")
spelled_word t.Select = Some (codes "SELECT")
spelled_word t.Set = Some (codes "SET")
spelled_word t.Table = Some (codes "TABLE")
spelled_word t.Tran = Some (codes "TRAN")
spelled_word t.Transaction = Some (codes "TRANSACTION")
spelled_word t.Update = Some (codes "UPDATE")
spelled_word t.Values = Some (codes "VALUES")
spelled_word t.Where = Some (codes "WHERE")
spelled_word t.With = Some (codes "WITH")
spelled_word _ = None

abbrev pub spelled_sign : Tag → Option (List ℕ)
spelled_sign t.Open = Some (codes "(")
spelled_sign t.Close = Some (codes ")")
spelled_sign t.Comma = Some (codes ",")
spelled_sign t.Semi = Some (codes ";")
spelled_sign t.Equal = Some (codes "=")
spelled_sign t.Less = Some (codes "<")
spelled_sign t.LessEqual = Some (codes "<=")
spelled_sign t.Greater = Some (codes ">")
spelled_sign t.GreaterEqual = Some (codes ">=")
spelled_sign t.Plus = Some (codes "+")
spelled_sign t.Minus = Some (codes "-")
spelled_sign t.Star = Some (codes "*")
spelled_sign t.Dot = Some (codes ".")
spelled_sign _ = None

word_gives : (g : Tag) (s : List ℕ) → spelled_word g ≡ Some s → (k : Kind) (w : List ℕ) → tag_of k w ≡ g → Word s ((k, w) ∷ [])
unfolding tag_of
word_gives g s is kind.Word w e = word w (found spelled_word words w s t.Word g refl refl is e)
word_gives g s is kind.Bracketed w e = none_some (spelled_word t.Bracketed) s (ap spelled_word e ∙ is) refl
word_gives g s is kind.Number w e = none_some (spelled_word t.Number) s (ap spelled_word e ∙ is) refl
word_gives g s is kind.Text w e = none_some (spelled_word t.Text) s (ap spelled_word e ∙ is) refl
word_gives g s is kind.Bytes w e = none_some (spelled_word t.Bytes) s (ap spelled_word e ∙ is) refl
word_gives g s is kind.Sign w e = others spelled_word signs w s t.Unknown g refl refl is e

-- a word's tag is that of its spelling
pub word_tag : (s w : List ℕ) → same_word s w ≡ true → tag_of kind.Word w ≡ tag_of kind.Word s
unfolding tag_of
word_tag s w h = sym (lookup_same words s w t.Word h)

word_takes : (g : Tag) (s : List ℕ) → tag_of kind.Word s ≡ g → (a : Lexemes) → Word s a → (k : Kind) × (w : List ℕ) × (a ≡ (k, w) ∷ []) × (tag_of k w ≡ g)
word_takes g s is _ (word w h) = (kind.Word, w, refl, word_tag s w h ∙ is)

-- a reserved word
pub reserved_word : (g : Tag) (s : List ℕ) → spelled_word g ≡ Some s → tag_of kind.Word s ≡ g → Terminal g (Word s)
reserved_word g s spells is = record { takes = word_takes g s is; gives = word_gives g s spells }

-- ---- signs

abbrev pub first_or : List ℕ → ℕ
first_or [] = 0
first_or (b ∷ w) = b

-- no letter stands below 65
lower_sign : (b c : ℕ) → nat_lt c 65 ≡ true → to_ascii_lowercase c ≡ to_ascii_lowercase b → b ≡ c
lower_sign b c small h = grind (arith, nat_tests)

pub no_letters : (s w : List ℕ) → list_all (λ c. nat_lt c 65) s ≡ true → str_to_ascii_lowercase s ≡ str_to_ascii_lowercase w → w ≡ s
no_letters [] [] small h = refl
no_letters [] (b ∷ w) small h = absurd (cc)
no_letters (c ∷ s) [] small h = absurd (cc)
no_letters (c ∷ s) (b ∷ w) small h =
    let both = and_parts (nat_lt c 65) (list_all (λ x. nat_lt x 65) s) small in
    let first : to_ascii_lowercase c ≡ to_ascii_lowercase b = ap (λ z. first_or z) h in
    let rest : str_to_ascii_lowercase s ≡ str_to_ascii_lowercase w = ap (λ z. drop 1 z) h in
    ap (λ z. z ∷ w) (lower_sign b c both.0 first) ∙ ap (λ z. c ∷ z) (no_letters s w both.1 rest)

sign_gives : (g : Tag) (s : List ℕ) → spelled_sign g ≡ Some s → list_all (λ c. nat_lt c 65) s ≡ true → (k : Kind) (w : List ℕ) → tag_of k w ≡ g → Sign s ((k, w) ∷ [])
unfolding tag_of
sign_gives g s is small kind.Word w e = others spelled_sign words w s t.Word g refl refl is e
sign_gives g s is small kind.Bracketed w e = none_some (spelled_sign t.Bracketed) s (ap spelled_sign e ∙ is) refl
sign_gives g s is small kind.Number w e = none_some (spelled_sign t.Number) s (ap spelled_sign e ∙ is) refl
sign_gives g s is small kind.Text w e = none_some (spelled_sign t.Text) s (ap spelled_sign e ∙ is) refl
sign_gives g s is small kind.Bytes w e = none_some (spelled_sign t.Bytes) s (ap spelled_sign e ∙ is) refl
sign_gives g s is small kind.Sign w e =
    let same : w ≡ s = no_letters s w small (lower_same s w (found spelled_sign signs w s t.Unknown g refl refl is e)) in
    let P : List ℕ → Type 0 = λ z. Sign s ((kind.Sign, z) ∷ []) in
    subst P (sym same) the_sign

sign_takes : (g : Tag) (s : List ℕ) → tag_of kind.Sign s ≡ g → (a : Lexemes) → Sign s a → (k : Kind) × (w : List ℕ) × (a ≡ (k, w) ∷ []) × (tag_of k w ≡ g)
sign_takes g s is _ the_sign = (kind.Sign, s, refl, is)

a_sign : (g : Tag) (s : List ℕ) → spelled_sign g ≡ Some s → list_all (λ c. nat_lt c 65) s ≡ true → tag_of kind.Sign s ≡ g → Terminal g (Sign s)
a_sign g s spells small is = record { takes = sign_takes g s is; gives = sign_gives g s spells small }

-- ---- each of them

pub add_ : Terminal t.Add (Word (codes "ADD"))
unfolding tag_of
add_ = reserved_word t.Add (codes "ADD") refl refl

pub alter_ : Terminal t.Alter (Word (codes "ALTER"))
unfolding tag_of
alter_ = reserved_word t.Alter (codes "ALTER") refl refl

pub and_ : Terminal t.And (Word (codes "AND"))
unfolding tag_of
and_ = reserved_word t.And (codes "AND") refl refl

pub asc_ : Terminal t.Asc (Word (codes "ASC"))
unfolding tag_of
asc_ = reserved_word t.Asc (codes "ASC") refl refl

pub begin_ : Terminal t.Begin (Word (codes "BEGIN"))
unfolding tag_of
begin_ = reserved_word t.Begin (codes "BEGIN") refl refl

pub by_ : Terminal t.By (Word (codes "BY"))
unfolding tag_of
by_ = reserved_word t.By (codes "BY") refl refl

pub clustered_ : Terminal t.Clustered (Word (codes "CLUSTERED"))
unfolding tag_of
clustered_ = reserved_word t.Clustered (codes "CLUSTERED") refl refl

pub column_ : Terminal t.Column (Word (codes "COLUMN"))
unfolding tag_of
column_ = reserved_word t.Column (codes "COLUMN") refl refl

pub commit_ : Terminal t.Commit (Word (codes "COMMIT"))
unfolding tag_of
commit_ = reserved_word t.Commit (codes "COMMIT") refl refl

pub create_ : Terminal t.Create (Word (codes "CREATE"))
unfolding tag_of
create_ = reserved_word t.Create (codes "CREATE") refl refl

pub delete_ : Terminal t.Delete (Word (codes "DELETE"))
unfolding tag_of
delete_ = reserved_word t.Delete (codes "DELETE") refl refl

pub desc_ : Terminal t.Desc (Word (codes "DESC"))
unfolding tag_of
desc_ = reserved_word t.Desc (codes "DESC") refl refl

pub drop_ : Terminal t.Drop (Word (codes "DROP"))
unfolding tag_of
drop_ = reserved_word t.Drop (codes "DROP") refl refl

pub exec_ : Terminal t.Exec (Word (codes "EXEC"))
unfolding tag_of
exec_ = reserved_word t.Exec (codes "EXEC") refl refl

pub execute_ : Terminal t.Execute (Word (codes "EXECUTE"))
unfolding tag_of
execute_ = reserved_word t.Execute (codes "EXECUTE") refl refl

pub from_ : Terminal t.From (Word (codes "FROM"))
unfolding tag_of
from_ = reserved_word t.From (codes "FROM") refl refl

pub index_ : Terminal t.Index (Word (codes "INDEX"))
unfolding tag_of
index_ = reserved_word t.Index (codes "INDEX") refl refl

pub insert_ : Terminal t.Insert (Word (codes "INSERT"))
unfolding tag_of
insert_ = reserved_word t.Insert (codes "INSERT") refl refl

pub into_ : Terminal t.Into (Word (codes "INTO"))
unfolding tag_of
into_ = reserved_word t.Into (codes "INTO") refl refl

pub is_ : Terminal t.Is (Word (codes "IS"))
unfolding tag_of
is_ = reserved_word t.Is (codes "IS") refl refl

pub key_ : Terminal t.Key (Word (codes "KEY"))
unfolding tag_of
key_ = reserved_word t.Key (codes "KEY") refl refl

pub nonclustered_ : Terminal t.Nonclustered (Word (codes "NONCLUSTERED"))
unfolding tag_of
nonclustered_ = reserved_word t.Nonclustered (codes "NONCLUSTERED") refl refl

pub not_ : Terminal t.Not (Word (codes "NOT"))
unfolding tag_of
not_ = reserved_word t.Not (codes "NOT") refl refl

pub null_ : Terminal t.Null (Word (codes "NULL"))
unfolding tag_of
null_ = reserved_word t.Null (codes "NULL") refl refl

pub on_ : Terminal t.On (Word (codes "ON"))
unfolding tag_of
on_ = reserved_word t.On (codes "ON") refl refl

pub or_ : Terminal t.Or (Word (codes "OR"))
unfolding tag_of
or_ = reserved_word t.Or (codes "OR") refl refl

pub order_ : Terminal t.Order (Word (codes "ORDER"))
unfolding tag_of
order_ = reserved_word t.Order (codes "ORDER") refl refl

pub primary_ : Terminal t.Primary (Word (codes "PRIMARY"))
unfolding tag_of
primary_ = reserved_word t.Primary (codes "PRIMARY") refl refl

pub rollback_ : Terminal t.Rollback (Word (codes "ROLLBACK"))
unfolding tag_of
rollback_ = reserved_word t.Rollback (codes "ROLLBACK") refl refl

pub save_ : Terminal t.Save (Word (codes "SAVE"))
unfolding tag_of
save_ = reserved_word t.Save (codes "SAVE") refl refl

pub select_ : Terminal t.Select (Word (codes "SELECT"))
unfolding tag_of
select_ = reserved_word t.Select (codes "SELECT") refl refl

pub set_ : Terminal t.Set (Word (codes "SET"))
unfolding tag_of
set_ = reserved_word t.Set (codes "SET") refl refl

pub table_ : Terminal t.Table (Word (codes "TABLE"))
unfolding tag_of
table_ = reserved_word t.Table (codes "TABLE") refl refl

pub tran_ : Terminal t.Tran (Word (codes "TRAN"))
unfolding tag_of
tran_ = reserved_word t.Tran (codes "TRAN") refl refl

pub transaction_ : Terminal t.Transaction (Word (codes "TRANSACTION"))
unfolding tag_of
transaction_ = reserved_word t.Transaction (codes "TRANSACTION") refl refl

pub update_ : Terminal t.Update (Word (codes "UPDATE"))
unfolding tag_of
update_ = reserved_word t.Update (codes "UPDATE") refl refl

pub values_ : Terminal t.Values (Word (codes "VALUES"))
unfolding tag_of
values_ = reserved_word t.Values (codes "VALUES") refl refl

pub where_ : Terminal t.Where (Word (codes "WHERE"))
unfolding tag_of
where_ = reserved_word t.Where (codes "WHERE") refl refl

pub with_ : Terminal t.With (Word (codes "WITH"))
unfolding tag_of
with_ = reserved_word t.With (codes "WITH") refl refl

pub open_ : Terminal t.Open (Sign (codes "("))
unfolding tag_of
open_ = a_sign t.Open (codes "(") refl refl refl

pub close_ : Terminal t.Close (Sign (codes ")"))
unfolding tag_of
close_ = a_sign t.Close (codes ")") refl refl refl

pub comma_ : Terminal t.Comma (Sign (codes ","))
unfolding tag_of
comma_ = a_sign t.Comma (codes ",") refl refl refl

pub semi_ : Terminal t.Semi (Sign (codes ";"))
unfolding tag_of
semi_ = a_sign t.Semi (codes ";") refl refl refl

pub equal_ : Terminal t.Equal (Sign (codes "="))
unfolding tag_of
equal_ = a_sign t.Equal (codes "=") refl refl refl

pub less_ : Terminal t.Less (Sign (codes "<"))
unfolding tag_of
less_ = a_sign t.Less (codes "<") refl refl refl

pub less_equal_ : Terminal t.LessEqual (Sign (codes "<="))
unfolding tag_of
less_equal_ = a_sign t.LessEqual (codes "<=") refl refl refl

pub greater_ : Terminal t.Greater (Sign (codes ">"))
unfolding tag_of
greater_ = a_sign t.Greater (codes ">") refl refl refl

pub greater_equal_ : Terminal t.GreaterEqual (Sign (codes ">="))
unfolding tag_of
greater_equal_ = a_sign t.GreaterEqual (codes ">=") refl refl refl

pub plus_ : Terminal t.Plus (Sign (codes "+"))
unfolding tag_of
plus_ = a_sign t.Plus (codes "+") refl refl refl

pub minus_ : Terminal t.Minus (Sign (codes "-"))
unfolding tag_of
minus_ = a_sign t.Minus (codes "-") refl refl refl

pub star_ : Terminal t.Star (Sign (codes "*"))
unfolding tag_of
star_ = a_sign t.Star (codes "*") refl refl refl

pub dot_ : Terminal t.Dot (Sign (codes "."))
unfolding tag_of
dot_ = a_sign t.Dot (codes ".") refl refl refl
