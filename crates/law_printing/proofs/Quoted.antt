-- Printed texts and bytes are the longest tokens at their places.
use Rattle.std.proofs.Common.{◌≡◌, ℕ, zero, suc, ◌+◌, ◌-◌, ◌*◌, ◌/◌, ◌%◌, ◌<◌, Bool, true, false, ◌==◌, List, [], ◌∷◌, ◌++◌, length, get_or, Option, Some, None, refl, ap, ◌∙◌, sym, arith, append_assoc, length-append}
use Rattle.std.specs.List.{list_all, prefix_len}
use Rattle.std.specs.Char.{is_ascii_hexdigit}
use Rattle.hex.specs.Hex.{IsBytes, encode_upper, encode_with, upper_digits}
use Rattle.sql_value.specs.Printed.{doubled, quoted}
use Rattle.sql_lex.specs.declared.token.Kind.TheVariants as kind
use Rattle.sql_lex.specs.Front.{front, closing}
use Rattle.sql_lex.proofs.Found.{front_is}
use Rattle.spec_syntax.specs.declared.tag.Tag.TheVariants as t
use Rattle.spec_syntax.specs.Tags.{tag_of}
use Rattle.law_printing.proofs.Cut.{cut_token}
use Rattle.law_printing.proofs.Lexed.{Stop, by_stop, One}
use Rattle.law_printing.proofs.Tokens.{run_len}

-- ---- texts

closes : (best : Option ℕ) (at : ℕ) {rest : List ℕ} → Stop rest → closing false best at (39 ∷ rest) ≡ Some (at + 1)
closes best at stop = by_stop (λ r. closing false best at (39 ∷ r) ≡ Some (at + 1)) refl (λ z. refl) (λ z. refl) (λ z. refl) stop

closing_byte : (c : ℕ) (cs rest : List ℕ) (best : Option ℕ) (at : ℕ) (is : Bool) → (c == 39) ≡ is
    → ((b : Option ℕ) (m : ℕ) → closing false b m (doubled cs ++ 39 ∷ rest) ≡ Some (m + (length (doubled cs) + 1)))
    → closing false best at (doubled (c ∷ cs) ++ 39 ∷ rest) ≡ Some (at + (length (doubled (c ∷ cs)) + 1))
closing_byte c cs rest best at true e again =
    rw e (again (Some (at + 1)) (at + 1 + 1) ∙ ap (λ m. Some m) (omega arith))
closing_byte c cs rest best at false e again =
    rw (e, e) (again best (at + 1) ∙ ap (λ m. Some m) (omega arith))

closing_doubled : (x rest : List ℕ) (best : Option ℕ) (at : ℕ) → Stop rest → closing false best at (doubled x ++ 39 ∷ rest) ≡ Some (at + (length (doubled x) + 1))
closing_doubled [] rest best at stop = closes best at stop ∙ ap (λ m. Some (at + m)) (omega arith)
closing_doubled (c ∷ cs) rest best at stop = closing_byte c cs rest best at (c == 39) refl (λ b m. closing_doubled cs rest b m stop)

text_front : (x rest : List ℕ) → Stop rest → front (78 ∷ 39 ∷ (doubled x ++ 39 ∷ rest)) ≡ Some (kind.Text, 2 + (length (doubled x) + 1))
unfolding front
text_front x rest stop = rw (closing_doubled x rest None 2 stop) refl

pub one_text : (x : List ℕ) → One (t.Text, 78 ∷ quoted (doubled x)) ((t.Text, 78 ∷ quoted (doubled x)) ∷ [])
unfolding tag_of
one_text x = record {
  lexes = λ rest after. (let flat : (doubled x ++ 39 ∷ []) ++ rest ≡ doubled x ++ 39 ∷ rest = append_assoc (doubled x) (39 ∷ []) rest in
      let len : 2 + (length (doubled x) + 1) ≡ length (78 ∷ quoted (doubled x)) = omega (arith, length-append (doubled x) (39 ∷ [])) in
      cut_token kind.Text 78 (quoted (doubled x)) rest refl refl
      (sym (front_is (78 ∷ (quoted (doubled x) ++ rest))) ∙ ap (λ z. front (78 ∷ 39 ∷ z)) flat ∙ text_front x rest after ∙ ap (λ m. Some (kind.Text, m)) len));
  touching = λ h. cc;
}

-- ---- bytes

no_hex : {rest : List ℕ} → Stop rest → prefix_len is_ascii_hexdigit rest ≡ 0
no_hex = by_stop (λ r. prefix_len is_ascii_hexdigit r ≡ 0) refl (λ z. refl) (λ z. refl) (λ z. refl)

hex_digit : (n : ℕ) → n < 16 → is_ascii_hexdigit (get_or upper_digits n 0) ≡ true
hex_digit zero h = refl
hex_digit (suc zero) h = refl
hex_digit (suc (suc zero)) h = refl
hex_digit (suc (suc (suc zero))) h = refl
hex_digit (suc (suc (suc (suc zero)))) h = refl
hex_digit (suc (suc (suc (suc (suc zero))))) h = refl
hex_digit (suc (suc (suc (suc (suc (suc zero)))))) h = refl
hex_digit (suc (suc (suc (suc (suc (suc (suc zero))))))) h = refl
hex_digit (suc (suc (suc (suc (suc (suc (suc (suc zero)))))))) h = refl
hex_digit (suc (suc (suc (suc (suc (suc (suc (suc (suc zero))))))))) h = refl
hex_digit (suc (suc (suc (suc (suc (suc (suc (suc (suc (suc zero)))))))))) h = refl
hex_digit (suc (suc (suc (suc (suc (suc (suc (suc (suc (suc (suc zero))))))))))) h = refl
hex_digit (suc (suc (suc (suc (suc (suc (suc (suc (suc (suc (suc (suc zero)))))))))))) h = refl
hex_digit (suc (suc (suc (suc (suc (suc (suc (suc (suc (suc (suc (suc (suc zero))))))))))))) h = refl
hex_digit (suc (suc (suc (suc (suc (suc (suc (suc (suc (suc (suc (suc (suc (suc zero)))))))))))))) h = refl
hex_digit (suc (suc (suc (suc (suc (suc (suc (suc (suc (suc (suc (suc (suc (suc (suc zero))))))))))))))) h = refl
hex_digit (suc (suc (suc (suc (suc (suc (suc (suc (suc (suc (suc (suc (suc (suc (suc (suc n)))))))))))))))) h = absurd (omega (arith, h))

hex_digits : (b : List ℕ) → IsBytes b → list_all is_ascii_hexdigit (encode_upper b) ≡ true
unfolding encode_with
hex_digits [] is = refl
hex_digits (c ∷ cs) is =
    let small : c < 256 = is 0 in
    let high : c / 16 < 16 = omega (arith, small) in
    let low : c % 16 < 16 = omega (arith) in
    rw (hex_digit (c / 16) high, hex_digit (c % 16) low, hex_digits cs (λ i. is (suc i))) refl

hex_length : (b : List ℕ) → length (encode_upper b) ≡ 2 * length b
unfolding encode_with
hex_length [] = refl
hex_length (c ∷ cs) = omega (arith, hex_length cs)

bytes_front : (b rest : List ℕ) → IsBytes b → Stop rest → front (48 ∷ 120 ∷ (encode_upper b ++ rest)) ≡ Some (kind.Bytes, 2 + length (encode_upper b))
unfolding front
bytes_front b rest is stop =
    let run : prefix_len is_ascii_hexdigit (encode_upper b ++ rest) ≡ length (encode_upper b) = run_len is_ascii_hexdigit (encode_upper b) rest (hex_digits b is) (no_hex stop) in
    let len = hex_length b in
    let all : 2 + (2 + length (encode_upper b) - 2) - (2 + length (encode_upper b) - 2) % 2 ≡ 2 + length (encode_upper b) = omega (arith, len) in
    rw run (ap (λ m. Some (kind.Bytes, m)) all)

pub one_bytes : (b : List ℕ) → IsBytes b → One (t.Bytes, 48 ∷ 120 ∷ encode_upper b) ((t.Bytes, 48 ∷ 120 ∷ encode_upper b) ∷ [])
unfolding tag_of
one_bytes b is = record {
  lexes = λ rest after. cut_token kind.Bytes 48 (120 ∷ encode_upper b) rest refl refl (sym (front_is (48 ∷ 120 ∷ (encode_upper b ++ rest))) ∙ bytes_front b rest is after ∙ ap (λ m. Some (kind.Bytes, m)) (omega arith));
  touching = λ h. cc;
}
