-- The tokens of a text keep to what a parser needs of them.
use Rattle.std.proofs.Common.{◌≡◌, ◌∙◌, ◌==◌, ◌<◌, ◌≤◌, ℕ, zero, suc, ◌+◌, ◌-◌, Bool, true, false, cond, ◌&&◌, ◌||◌, List, [], ◌∷◌, length, take, map, nat_lt, nat_le, Option, Some, None, refl, ap, sym, subst, arith}
use Rattle.std.specs.Prelude.{⊤, option_map}
use Rattle.std.specs.List.{list_all}
use Rattle.std.specs.Char.{is_ascii_digit}
use Rattle.std.specs.Str.{str_eq_ignore_ascii_case}
use Rattle.std.proofs.lemmas.Bool.{and_parts}
use Rattle.std.proofs.lemmas.Bool.Decides.{nat_tests}
use Rattle.sql_value.specs.declared.value.Value.{Value}
use Rattle.sql_value.specs.Literal.{literal_of}
use Rattle.sql_lex.specs.declared.token.Kind.{Kind}
use Rattle.sql_lex.specs.declared.token.Kind.TheVariants as kind
use Rattle.sql_lex.specs.IsToken.{kind_of, is_word, is_bracketed, is_closed, is_number, is_text, is_quoted, is_bytes, is_sign, is_single, is_pair, begins_word, is_word_byte, is_name_byte}
use Rattle.sql_lex.specs.Longest.{longest}
use Rattle.sql_lex.specs.Cut.{is_blank, begins_comment}
use Rattle.sql_lex.proofs.Laws.{says}
use Rattle.spec_syntax.specs.declared.tag.Tag.{Tag}
use Rattle.spec_syntax.specs.declared.tag.Tag.TheVariants as t
use Rattle.spec_syntax.specs.declared.tag.TheConstants.{SIGNS}
use Rattle.spec_syntax.specs.Tags.{tag_of, lookup}
use Rattle.spec_syntax.specs.Input.{Sym}
use Rattle.spec_syntax.specs.Expr.{inside, before_close}
use Rattle.spec_syntax.specs.Parsed.{IsName, IsUnsigned}
use Rattle.law_printing.proofs.Signs.{literal_unsigned, minus_alone}
use Rattle.law_printing.proofs.Cut.{cut, goes, prepend, sym_at}
use Rattle.law_printing.proofs.Kept.{IsSym, AreSyms}

-- no token in brackets begins otherwise
not_open : (b : ℕ) (w n : List ℕ) → (b == 91) ≡ false → inside (b ∷ w) ≡ Some n → ⊥
unfolding inside
not_open b w n first e = let none : None ≡ Some n = sym (rw first refl) ∙ e in cc

-- ---- words

word_name_byte : (b : ℕ) → is_word_byte b ≡ true → is_name_byte b ≡ true
word_name_byte b e = grind (arith, nat_tests)

begins_word_byte : (b : ℕ) → begins_word b ≡ true → is_word_byte b ≡ true
begins_word_byte b e = grind (arith, nat_tests)

word_name : (w : List ℕ) → list_all is_word_byte w ≡ true → list_all is_name_byte w ≡ true
word_name [] all = refl
word_name (b ∷ w) all =
    let both = and_parts (is_word_byte b) (list_all is_word_byte w) all in
    rw (word_name_byte b both.0, word_name w both.1) refl

letter_first : (b : ℕ) → begins_word b ≡ true → ((b == 91) ≡ false) × ((b == 45) ≡ false)
letter_first b e = (grind (arith, nat_tests), grind (arith, nat_tests))

word_sym : (w : List ℕ) (tag : Tag) → is_word w ≡ true → IsSym (tag, w)
word_sym [] tag is = absurd (cc)
word_sym (b ∷ w) tag is =
    let both = and_parts (begins_word b) (list_all is_word_byte w) is in
    let first = letter_first b both.0 in
    record {
      word = λ e. (omega arith, rw (word_name_byte b (begins_word_byte b both.0), word_name w both.1) refl);
      bracket = λ n e. absurd (not_open b w n first.0 e);
      unsigned = λ v e. literal_unsigned b w v first.1 e;
    }

-- ---- names in brackets

closed_name : (b : ℕ) (w x : List ℕ) (o : Option (List ℕ)) → is_name_byte b ≡ true → before_close w ≡ o → ((y : List ℕ) → before_close w ≡ Some y → list_all is_name_byte y ≡ true) → option_map (λ y. b ∷ y) o ≡ Some x → list_all is_name_byte x ≡ true
closed_name b w x None is same again e = absurd (cc)
closed_name b w x (Some y) is same again e =
    let same_ : b ∷ y ≡ x = cc in
    subst (λ z. list_all is_name_byte z ≡ true) same_ (rw (is, again y same) refl)

before_name : (w x : List ℕ) → is_closed w ≡ true → before_close w ≡ Some x → list_all is_name_byte x ≡ true
before_name [] x is e = absurd (cc)
before_name (b ∷ []) x is e =
    let none : [] ≡ x = grind (arith, nat_tests, is, e) in
    subst (λ z. list_all is_name_byte z ≡ true) none refl
before_name (b ∷ c ∷ w) x is e =
    let both = and_parts (is_name_byte b) (is_closed (c ∷ w)) is in
    closed_name b (c ∷ w) x (before_close (c ∷ w)) both.0 refl (λ y h. before_name (c ∷ w) y both.1 h) e

mapped_length : (b : ℕ) (w x : List ℕ) (n : ℕ) (o : Option (List ℕ)) → before_close w ≡ o → n < length (b ∷ w) → ((y : List ℕ) (m : ℕ) → m < length w → before_close w ≡ Some y → m ≤ length y) → option_map (λ y. b ∷ y) o ≡ Some x → n ≤ length x
mapped_length b w x zero o same few again e = omega arith
mapped_length b w x (suc n) None same few again e = absurd (cc)
mapped_length b w x (suc n) (Some y) same few again e =
    let same_ : b ∷ y ≡ x = cc in
    let rest = again y n (omega (arith, few)) same in
    subst (λ z. suc n ≤ length z) same_ (omega (arith, rest))

before_length : (w x : List ℕ) (n : ℕ) → n < length w → before_close w ≡ Some x → n ≤ length x
before_length [] x n few e = absurd (omega (arith, few))
before_length (b ∷ []) x n few e = omega (arith, few)
before_length (b ∷ c ∷ w) x n few e = mapped_length b (c ∷ w) x n (before_close (c ∷ w)) refl few (λ y m small h. before_length (c ∷ w) y m small h) e

first_is : (b c : ℕ) → (b == c) ≡ true → b ≡ c
first_is b c e = grind (arith, nat_tests, e)

opened_name : (b : ℕ) (w n : List ℕ) → (b == 91) ≡ true → is_closed w ≡ true → 1 < length w → inside (b ∷ w) ≡ Some n → IsName n
unfolding inside
opened_name b w n first closed some e =
    let is : before_close w ≡ Some n = sym (rw first refl) ∙ e in
    (before_length w n 1 some is, before_name w n closed is)

bracket_first : (b : ℕ) → (b == 91) ≡ true → (b == 45) ≡ false
bracket_first b e = grind (arith, nat_tests)

bracket_long : (w : List ℕ) → nat_lt 1 (length w) ≡ true → 1 < length w
bracket_long w e = grind (arith, nat_tests, e)

bracket_sym : (w : List ℕ) → is_bracketed w ≡ true → IsSym (t.Bracketed, w)
bracket_sym [] is = absurd (cc)
bracket_sym (b ∷ w) is =
    let outer = and_parts (b == 91 && nat_lt 1 (length w)) (is_closed w) is in
    let both = and_parts (b == 91) (nat_lt 1 (length w)) outer.0 in
    record {
      word = λ e. cc;
      bracket = λ n e. opened_name b w n both.0 outer.1 (bracket_long w both.1) e;
      unsigned = λ v e. literal_unsigned b w v (bracket_first b both.0) e;
    }

-- ---- other tokens

-- a token that is no word and begins with neither '[' nor '-'
plain_sym : (b : ℕ) (w : List ℕ) (tag : Tag) → (tag ≡ t.Word → ⊥) → (b == 91) ≡ false → (b == 45) ≡ false → IsSym (tag, b ∷ w)
plain_sym b w tag other open_ minus = record {
  word = λ e. absurd (other e);
  bracket = λ n e. absurd (not_open b w n open_ e);
  unsigned = λ v e. literal_unsigned b w v minus e;
}

digit_or_point : (b : ℕ) (w : List ℕ) (c : Bool) → is_ascii_digit b ≡ c → is_number (b ∷ w) ≡ true → ((b == 91) ≡ false) × ((b == 45) ≡ false)
digit_or_point b w true e is = (grind (arith, nat_tests, e), grind (arith, nat_tests, e))
digit_or_point b w false e is =
    let some = nat_lt 0 (length w) in
    let digits = list_all is_ascii_digit w in
    let few = nat_le (0 + length w) 38 in
    let point : (((b == 46 && some) && digits) && few) ≡ true = sym (rw e refl) ∙ is in
    let first = (and_parts (b == 46) some (and_parts (b == 46 && some) digits (and_parts ((b == 46 && some) && digits) few point).0).0).0 in
    (grind (arith, nat_tests, first), grind (arith, nat_tests, first))

quote_first : (b : ℕ) (w : List ℕ) (c : Bool) → (b == 39) ≡ c → is_text (b ∷ w) ≡ true → ((b == 91) ≡ false) × ((b == 45) ≡ false)
quote_first b w true e is = (grind (arith, nat_tests, e), grind (arith, nat_tests, e))
quote_first b w false e is =
    let letter : ((b == 78 || b == 110) && is_quoted w) ≡ true = sym (rw e refl) ∙ is in
    let first = (and_parts (b == 78 || b == 110) (is_quoted w) letter).0 in
    (grind (arith, nat_tests, first), grind (arith, nat_tests, first))

zero_first : (b : ℕ) → (b == 48) ≡ true → ((b == 91) ≡ false) × ((b == 45) ≡ false)
zero_first b e = (grind (arith, nat_tests, e), grind (arith, nat_tests, e))

number_sym : (w : List ℕ) → is_number w ≡ true → IsSym (t.Number, w)
number_sym [] is = absurd (cc)
number_sym (b ∷ w) is = let first = digit_or_point b w (is_ascii_digit b) refl is in plain_sym b w t.Number (λ e. cc) first.0 first.1

text_sym : (w : List ℕ) → is_text w ≡ true → IsSym (t.Text, w)
text_sym [] is = absurd (cc)
text_sym (b ∷ w) is = let first = quote_first b w (b == 39) refl is in plain_sym b w t.Text (λ e. cc) first.0 first.1

bytes_sym : (w : List ℕ) → is_bytes w ≡ true → IsSym (t.Bytes, w)
bytes_sym [] is = absurd (cc)
bytes_sym (b ∷ []) is = absurd (cc)
bytes_sym (b ∷ x ∷ w) is =
    let most = and_parts ((b == 48 && (x == 120 || x == 88)) && list_all _ w) _ is in
    let more = and_parts (b == 48 && (x == 120 || x == 88)) (list_all _ w) most.0 in
    let first = zero_first b (and_parts (b == 48) (x == 120 || x == 88) more.0).0 in
    plain_sym b (x ∷ w) t.Bytes (λ e. cc) first.0 first.1

-- no sign is a word
abbrev no_word : Tag → Bool
no_word t.Word = false
no_word _ = true

not_word : (tag : Tag) → no_word tag ≡ true → tag ≡ t.Word → ⊥
not_word tag is e = let false_ : no_word tag ≡ false = ap no_word e in cc

cond_no_word : (c : Bool) (a b : Tag) → no_word a ≡ true → no_word b ≡ true → no_word (cond c a b) ≡ true
cond_no_word true a b first second = first
cond_no_word false a b first second = second

lookup_no_word : (ks : List (List ℕ × Tag)) (w : List ℕ) (other : Tag) → list_all (λ k. no_word k.1) ks ≡ true → no_word other ≡ true → no_word (lookup ks w other) ≡ true
lookup_no_word [] w other all is = is
lookup_no_word (k ∷ ks) w other all is =
    let both = and_parts (no_word k.1) (list_all (λ x. no_word x.1) ks) all in
    cond_no_word (str_eq_ignore_ascii_case k.0 w) k.1 (lookup ks w other) both.0 (lookup_no_word ks w other both.1 is)

sign_tag : (w : List ℕ) → tag_of kind.Sign w ≡ t.Word → ⊥
unfolding tag_of
sign_tag w e = not_word (lookup (map (λ k. (k.0.now, k.1)) SIGNS) w t.Unknown) (lookup_no_word (map (λ k. (k.0.now, k.1)) SIGNS) w t.Unknown refl refl) e

single_open : (b : ℕ) → is_single b ≡ true → (b == 91) ≡ false
single_open b e = grind (arith, nat_tests)

pair_first : (b c : ℕ) → is_pair b c ≡ true → ((b == 91) ≡ false) × ((b == 45) ≡ false)
pair_first b c e = (grind (arith, nat_tests), grind (arith, nat_tests))

single_unsigned : (b : ℕ) (c : Bool) → (b == 45) ≡ c → (v : Value) → literal_of (b ∷ []) ≡ Some v → IsUnsigned v
single_unsigned b true e v is =
    let same : b ≡ 45 = first_is b 45 e in
    let none : None ≡ Some v = sym minus_alone ∙ ap (λ x. literal_of (x ∷ [])) (sym same) ∙ is in
    absurd (cc)
single_unsigned b false e v is = literal_unsigned b [] v e is

sign_sym : (w : List ℕ) → is_sign w ≡ true → IsSym (tag_of kind.Sign w, w)
sign_sym [] is = absurd (cc)
sign_sym (b ∷ []) is = record {
  word = λ e. absurd (sign_tag (b ∷ []) e);
  bracket = λ n e. absurd (not_open b [] n (single_open b is) e);
  unsigned = λ v e. single_unsigned b (b == 45) refl v e;
}
sign_sym (b ∷ c ∷ []) is = let first = pair_first b c is in plain_sym b (c ∷ []) (tag_of kind.Sign (b ∷ c ∷ [])) (sign_tag (b ∷ c ∷ [])) first.0 first.1
sign_sym (b ∷ c ∷ d ∷ w) is = absurd (cc)

-- ---- each token

pick : (Q : Kind → Type 0) (c : Bool) (one : Kind) (rest : Option Kind) → (c ≡ true → Q one) → ((k : Kind) → rest ≡ Some k → Q k) → (k : Kind) → cond c (Some one) rest ≡ Some k → Q k
pick Q true one rest is others k e = let same : one ≡ k = cc in subst Q same (is refl)
pick Q false one rest is others k e = others k e

token_sym : (w : List ℕ) (k : Kind) → kind_of w ≡ Some k → IsSym (tag_of k w, w)
unfolding kind_of tag_of
token_sym w =
    let Q : Kind → Type 0 = λ k. IsSym (tag_of k w, w) in
    pick Q (is_bytes w) kind.Bytes _ (bytes_sym w)
    (pick Q (is_number w) kind.Number _ (number_sym w)
    (pick Q (is_text w) kind.Text _ (text_sym w)
    (pick Q (is_word w) kind.Word _ (word_sym w _)
    (pick Q (is_bracketed w) kind.Bracketed _ (bracket_sym w)
    (pick Q (is_sign w) kind.Sign None (sign_sym w) (λ k e. absurd (cc)))))))

abbrev pub AllSyms : Option (List Sym) → Type 0
AllSyms None = ⊤
AllSyms (Some ts) = AreSyms ts

prepended : (s : Sym) (o : Option (List Sym)) → IsSym s → AllSyms o → AllSyms (prepend (s ∷ []) o)
prepended s None is k = tt
prepended s (Some ts) is k = (is, k)

goes_syms : (z : List ℕ) (o : Option (Kind × ℕ)) (rest : ℕ → Option (List Sym)) → longest z ≡ o → ((left : ℕ) → AllSyms (rest left)) → AllSyms (goes z o rest)
goes_syms z None rest e k = tt
goes_syms z (Some q) rest e k = prepended (sym_at q.0 (take q.1 z)) (rest (q.1 - 1)) (token_sym (take q.1 z) q.0 (says z (Some q) e).2) (k (q.1 - 1))

cond_syms : (c : Bool) (a b : Option (List Sym)) → AllSyms a → AllSyms b → AllSyms (cond c a b)
cond_syms true a b k h = k
cond_syms false a b k h = h

-- all tokens of a text
pub cut_syms : (left : ℕ) (z : List ℕ) → AllSyms (cut left z)
cut_syms zero [] = tt
cut_syms (suc left) [] = tt
cut_syms (suc left) (b ∷ z) = cut_syms left z
cut_syms zero (b ∷ z) =
    cond_syms (is_blank b) (cut 0 z) _ (cut_syms 0 z)
    (cond_syms (begins_comment (b ∷ z)) (Some []) _ tt (goes_syms (b ∷ z) (longest (b ∷ z)) (λ left. cut left z) refl (λ left. cut_syms left z)))
