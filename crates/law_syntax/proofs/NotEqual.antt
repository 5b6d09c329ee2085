-- Two signs say that something isn't equal.
use Rattle.std.proofs.Common.{◌≡◌, ℕ, Bool, true, false, cond, List, [], ◌∷◌, Option, Some, None, refl, ap, sym, subst, codes, ◌||◌, ◌⊎◌, inl, inr}
use Rattle.std.specs.Str.{str_eq_ignore_ascii_case}
use Rattle.std.specs.List.{list_all}
use Rattle.std.proofs.lemmas.Bool.{and_parts}
use Rattle.sql_lex.specs.declared.token.Kind.{Kind}
use Rattle.sql_lex.specs.declared.token.Kind.TheVariants as kind
use Rattle.sql_value.specs.declared.expr.Op.TheVariants as op
use Rattle.spec_grammar.specs.Tokens.{sign}
use Rattle.spec_grammar.specs.Expressions.{IsComparison, not_equal, not_equal_too}
use Rattle.spec_syntax.specs.declared.tag.Tag.{Tag}
use Rattle.spec_syntax.specs.declared.tag.Tag.TheVariants as t
use Rattle.spec_syntax.specs.Tags.{lookup, tag_of}
use Rattle.law_syntax.proofs.Terminals.{Table, words, signs, others, no_letters, lower_same, same_through}

abbrev differs : Tag → Option (List ℕ)
differs t.NotEqual = Some []
differs _ = None

-- a test of a table: its signs of this tag are the two
abbrev two_by : Option (List ℕ) → List ℕ → Bool
two_by None w = true
two_by (Some s) w = str_eq_ignore_ascii_case (codes "<>") w || str_eq_ignore_ascii_case (codes "!=") w

abbrev Either : List ℕ → Type 0
Either w = (str_eq_ignore_ascii_case (codes "<>") w ≡ true) ⊎ (str_eq_ignore_ascii_case (codes "!=") w ≡ true)

or_true : (a b : Bool) → (a || b) ≡ true → (a ≡ true) ⊎ (b ≡ true)
or_true true b h = inl refl
or_true false b h = inr h

either_through : (v w : List ℕ) → str_eq_ignore_ascii_case v w ≡ true → Either v → Either w
either_through v w same (inl h) = inl (same_through (codes "<>") v w h same)
either_through v w same (inr h) = inr (same_through (codes "!=") v w h same)

either_of : (o : Option (List ℕ)) (v : List ℕ) → o ≡ Some [] → two_by o v ≡ true → Either v
either_of o v e h = let P : Option (List ℕ) → Type 0 = λ z. two_by z v ≡ true in or_true _ _ (subst P e h)

found_by : (c : Bool) (k : List ℕ × Tag) (w : List ℕ) (rest : Tag) → str_eq_ignore_ascii_case k.0 w ≡ c → two_by (differs k.1) k.0 ≡ true → (rest ≡ t.NotEqual → Either w) → cond c k.1 rest ≡ t.NotEqual → Either w
found_by true k w rest same fits again e = either_through k.0 w same (either_of (differs k.1) k.0 (ap differs e) fits)
found_by false k w rest same fits again e = again e

found : (ks : Table) (w : List ℕ) → list_all (λ k. two_by (differs k.1) k.0) ks ≡ true → lookup ks w t.Unknown ≡ t.NotEqual → Either w
found [] w all e = absurd (cc)
found (k ∷ ks) w all e =
    let both = and_parts (two_by (differs k.1) k.0) (list_all (λ x. two_by (differs x.1) x.0) ks) all in
    found_by (str_eq_ignore_ascii_case k.0 w) k w (lookup ks w t.Unknown) refl both.0 (λ h. found ks w both.1 h) e

-- the comparison by either of them
either_is : (w : List ℕ) → Either w → IsComparison ((kind.Sign, w) ∷ []) op.Ne
either_is w (inl h) =
    let P : List ℕ → Type 0 = λ z. IsComparison ((kind.Sign, z) ∷ []) op.Ne in
    subst P (sym (no_letters (codes "<>") w refl (lower_same (codes "<>") w h))) (not_equal sign)
either_is w (inr h) =
    let P : List ℕ → Type 0 = λ z. IsComparison ((kind.Sign, z) ∷ []) op.Ne in
    subst P (sym (no_letters (codes "!=") w refl (lower_same (codes "!=") w h))) (not_equal_too sign)

pub not_equal_gives : (k : Kind) (w : List ℕ) → tag_of k w ≡ t.NotEqual → IsComparison ((k, w) ∷ []) op.Ne
unfolding tag_of
not_equal_gives kind.Word w e = others differs words w [] t.Word t.NotEqual refl refl refl e
not_equal_gives kind.Bracketed w e = absurd (cc)
not_equal_gives kind.Number w e = absurd (cc)
not_equal_gives kind.Text w e = absurd (cc)
not_equal_gives kind.Bytes w e = absurd (cc)
not_equal_gives kind.Sign w e = either_is w (found signs w refl e)

-- both have its tag
pub not_equal_tag : tag_of kind.Sign (codes "<>") ≡ t.NotEqual
unfolding tag_of
not_equal_tag = refl

pub not_equal_too_tag : tag_of kind.Sign (codes "!=") ≡ t.NotEqual
unfolding tag_of
not_equal_too_tag = refl
