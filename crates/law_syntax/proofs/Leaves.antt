-- Names, numbers and the other tokens that have a value are those of the grammar.
use Rattle.std.proofs.Common.{◌≡◌, ◌∙◌, ◌==◌, ℕ, Bool, true, false, cond, List, [], ◌∷◌, map, Option, Some, None, refl, ap, sym, arith, codes, drop, ◌||◌}
use Rattle.std.specs.Char.{to_ascii_lowercase}
use Rattle.std.specs.Str.{str_eq_ignore_ascii_case, str_to_ascii_lowercase}
use Rattle.std.specs.List.{list_all, list_any}
use Rattle.std.proofs.lemmas.Bool.{and_parts}
use Rattle.std.proofs.lemmas.Bool.Decides.{nat_tests}
use Rattle.sql_lex.specs.declared.token.Kind.{Kind}
use Rattle.sql_lex.specs.declared.token.Kind.TheVariants as kind
use Rattle.sql_value.specs.declared.value.Value.TheVariants.{Null}
use Rattle.sql_value.specs.Literal.{literal_of, other}
use Rattle.spec_grammar.specs.Tokens.{IsName, bare, same_word, is_reserved, reserved}
use Rattle.spec_syntax.specs.declared.tag.Tag.{Tag}
use Rattle.spec_syntax.specs.declared.tag.Tag.TheVariants as t
use Rattle.spec_syntax.specs.Tags.{lookup, tag_of}
use Rattle.law_syntax.proofs.Terminals.{Table, words, signs, none_by, none_some, others, first_or, lower_same, same_turned}

-- ---- reserved words

abbrev head_or : List (List ℕ) → List ℕ
head_or [] = []
head_or (x ∷ xs) = x

any_lower : (rs qs : List (List ℕ)) (w : List ℕ) → map str_to_ascii_lowercase rs ≡ map str_to_ascii_lowercase qs → list_any (λ k. str_eq_ignore_ascii_case k w) rs ≡ list_any (λ k. str_eq_ignore_ascii_case k w) qs
any_lower [] [] w h = refl
any_lower [] (q ∷ qs) w h = absurd (cc)
any_lower (x ∷ rs) [] w h = absurd (cc)
any_lower (x ∷ rs) (q ∷ qs) w h =
    let first : str_to_ascii_lowercase x ≡ str_to_ascii_lowercase q = ap (λ z. head_or z) h in
    let rest : map str_to_ascii_lowercase rs ≡ map str_to_ascii_lowercase qs = ap (λ z. drop 1 z) h in
    rw first (ap (λ z. str_eq_ignore_ascii_case q w || z) (any_lower rs qs w rest))

any_mapped : (ks : Table) (w : List ℕ) → list_any (λ k. str_eq_ignore_ascii_case k w) (map (λ k. k.0) ks) ≡ list_any (λ k. str_eq_ignore_ascii_case k.0 w) ks
any_mapped [] w = refl
any_mapped (k ∷ ks) w = ap (λ z. str_eq_ignore_ascii_case k.0 w || z) (any_mapped ks w)

-- the reserved words are the parser's
same_words : (w : List ℕ) → is_reserved w ≡ list_any (λ k. str_eq_ignore_ascii_case k.0 w) words
same_words w = any_lower reserved (map (λ k. k.0) words) w refl ∙ any_mapped words w

or_false : (a b : Bool) → (a || b) ≡ false → (a ≡ false) × (b ≡ false)
or_false true b h = absurd (cc)
or_false false b h = (refl, h)

missed : (ks : Table) (w : List ℕ) (other : Tag) → list_any (λ k. str_eq_ignore_ascii_case k.0 w) ks ≡ false → lookup ks w other ≡ other
missed [] w other h = refl
missed (k ∷ ks) w other h =
    let both = or_false (str_eq_ignore_ascii_case k.0 w) (list_any (λ x. str_eq_ignore_ascii_case x.0 w) ks) h in
    rw both.0 (missed ks w other both.1)

-- marks of the tags of tokens that are no reserved words and no signs
abbrev marked_word : Tag → Option (List ℕ)
marked_word t.Word = Some []
marked_word _ = None

abbrev marked : Tag → Option (List ℕ)
marked t.Bracketed = Some []
marked t.Number = Some []
marked t.Text = Some []
marked t.Bytes = Some []
marked _ = None

unfound_by : (c : Bool) (k : List ℕ × Tag) (ks : Table) (w : List ℕ) → str_eq_ignore_ascii_case k.0 w ≡ c → none_by (marked_word k.1) ≡ true → (lookup ks w t.Word ≡ t.Word → list_any (λ x. str_eq_ignore_ascii_case x.0 w) ks ≡ false)
    → cond c k.1 (lookup ks w t.Word) ≡ t.Word → (c || list_any (λ x. str_eq_ignore_ascii_case x.0 w) ks) ≡ false
unfound_by true k ks w same none again e = none_some (marked_word k.1) [] (ap marked_word e) none
unfound_by false k ks w same none again e = again e

unfound : (ks : Table) (w : List ℕ) → list_all (λ k. none_by (marked_word k.1)) ks ≡ true → lookup ks w t.Word ≡ t.Word → list_any (λ k. str_eq_ignore_ascii_case k.0 w) ks ≡ false
unfound [] w all e = refl
unfound (k ∷ ks) w all e =
    let both = and_parts (none_by (marked_word k.1)) (list_all (λ x. none_by (marked_word x.1)) ks) all in
    unfound_by (str_eq_ignore_ascii_case k.0 w) k ks w refl both.0 (λ h. unfound ks w both.1 h) e

-- a word that isn't reserved has the tag of words
pub free_word : (w : List ℕ) → is_reserved w ≡ false → tag_of kind.Word w ≡ t.Word
unfolding tag_of
free_word w h = missed words w t.Word (sym (same_words w) ∙ h)

-- ---- what a tag says of the token

-- a token that is a name, and not in brackets
pub is_free : (k : Kind) (w : List ℕ) → tag_of k w ≡ t.Word → IsName ((k, w) ∷ []) w
unfolding tag_of
is_free kind.Word w e = bare w (same_words w ∙ unfound words w refl e)
is_free kind.Sign w e = others marked_word signs w [] t.Unknown t.Word refl refl refl e
is_free kind.Bracketed w e = absurd (cc)
is_free kind.Number w e = absurd (cc)
is_free kind.Text w e = absurd (cc)
is_free kind.Bytes w e = absurd (cc)

pub is_word : (k : Kind) (w : List ℕ) → tag_of k w ≡ t.Word → k ≡ kind.Word
unfolding tag_of
is_word kind.Word w e = refl
is_word kind.Sign w e = others marked_word signs w [] t.Unknown t.Word refl refl refl e
is_word kind.Bracketed w e = absurd (cc)
is_word kind.Number w e = absurd (cc)
is_word kind.Text w e = absurd (cc)
is_word kind.Bytes w e = absurd (cc)

pub is_bracketed : (k : Kind) (w : List ℕ) → tag_of k w ≡ t.Bracketed → k ≡ kind.Bracketed
unfolding tag_of
is_bracketed kind.Word w e = others marked words w [] t.Word t.Bracketed refl refl refl e
is_bracketed kind.Sign w e = others marked signs w [] t.Unknown t.Bracketed refl refl refl e
is_bracketed kind.Bracketed w e = refl
is_bracketed kind.Number w e = absurd (cc)
is_bracketed kind.Text w e = absurd (cc)
is_bracketed kind.Bytes w e = absurd (cc)

pub is_number : (k : Kind) (w : List ℕ) → tag_of k w ≡ t.Number → k ≡ kind.Number
unfolding tag_of
is_number kind.Word w e = others marked words w [] t.Word t.Number refl refl refl e
is_number kind.Sign w e = others marked signs w [] t.Unknown t.Number refl refl refl e
is_number kind.Bracketed w e = absurd (cc)
is_number kind.Number w e = refl
is_number kind.Text w e = absurd (cc)
is_number kind.Bytes w e = absurd (cc)

pub is_text : (k : Kind) (w : List ℕ) → tag_of k w ≡ t.Text → k ≡ kind.Text
unfolding tag_of
is_text kind.Word w e = others marked words w [] t.Word t.Text refl refl refl e
is_text kind.Sign w e = others marked signs w [] t.Unknown t.Text refl refl refl e
is_text kind.Bracketed w e = absurd (cc)
is_text kind.Number w e = absurd (cc)
is_text kind.Text w e = refl
is_text kind.Bytes w e = absurd (cc)

pub is_bytes : (k : Kind) (w : List ℕ) → tag_of k w ≡ t.Bytes → k ≡ kind.Bytes
unfolding tag_of
is_bytes kind.Word w e = others marked words w [] t.Word t.Bytes refl refl refl e
is_bytes kind.Sign w e = others marked signs w [] t.Unknown t.Bytes refl refl refl e
is_bytes kind.Bracketed w e = absurd (cc)
is_bytes kind.Number w e = absurd (cc)
is_bytes kind.Text w e = absurd (cc)
is_bytes kind.Bytes w e = refl

-- ---- NULL

not_opening : (b c : ℕ) (w : List ℕ) → to_ascii_lowercase b ≡ 110 → to_ascii_lowercase c ≡ 117 → literal_of (b ∷ (c ∷ w)) ≡ other (b ∷ (c ∷ w))
unfolding literal_of
not_opening b c w first second =
    let a : (b == 39) ≡ false = grind (arith, nat_tests) in
    let n : (b == 78 || b == 110) ≡ true = grind (arith, nat_tests) in
    let q : (c == 39) ≡ false = grind (arith, nat_tests) in
    let z : (b == 48) ≡ false = grind (arith, nat_tests) in
    rw (a, n, q, z) refl

null_long : (w : List ℕ) → str_to_ascii_lowercase (codes "NULL") ≡ str_to_ascii_lowercase w → str_eq_ignore_ascii_case w (codes "NULL") ≡ true → literal_of w ≡ Some Null
null_long [] h is = absurd (cc)
null_long (b ∷ []) h is = absurd (cc)
null_long (b ∷ (c ∷ w)) h is =
    let first : to_ascii_lowercase b ≡ 110 = sym (ap (λ z. first_or z) h) in
    let second : to_ascii_lowercase c ≡ 117 = sym (ap (λ z. first_or (drop 1 z)) h) in
    not_opening b c w first second ∙ rw is refl

pub null_value : (w : List ℕ) → same_word (codes "NULL") w ≡ true → literal_of w ≡ Some Null
null_value w h = null_long w (lower_same (codes "NULL") w h) (same_turned (codes "NULL") w h)
