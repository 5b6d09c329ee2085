-- What a token is to the grammar.
use Rattle.std.specs.Prelude.{ℕ, Bool, if◌then◌else◌, List, [], ◌∷◌, map}
use Rattle.std.specs.Str.{str_eq_ignore_ascii_case}
use denote.Enum.Bare.{sameb}
use Rattle.sql_lex.specs.declared.token.Kind.{Kind}
use Rattle.sql_lex.specs.declared.token.Kind.TheVariants as kind
use Rattle.spec_syntax.specs.contracts.tag.Tag.{the_type}
use Rattle.spec_syntax.specs.declared.tag.Tag.{Tag}
use Rattle.spec_syntax.specs.declared.tag.Tag.TheVariants.{Word, Bracketed, Number, Text, Bytes, Unknown}
use Rattle.spec_syntax.specs.declared.tag.TheConstants.{RESERVED, SIGNS}

abbrev pub lookup : List (List ℕ × Tag) → List ℕ → Tag → Tag
lookup [] word other = other
lookup (k ∷ ks) word other = if str_eq_ignore_ascii_case k.0 word then k.1 else lookup ks word other

-- a reserved word in any case, a sign, or what its kind says
unfoldable pub tag_of : Kind → List ℕ → Tag
tag_of kind.Word word = lookup (map (λ k. (k.0.now, k.1)) RESERVED) word Word
tag_of kind.Bracketed word = Bracketed
tag_of kind.Number word = Number
tag_of kind.Text word = Text
tag_of kind.Bytes word = Bytes
tag_of kind.Sign word = lookup (map (λ k. (k.0.now, k.1)) SIGNS) word Unknown

unfoldable pub same_tag : Tag → Tag → Bool
same_tag = sameb the_type
