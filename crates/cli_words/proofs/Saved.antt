-- What is saved under a name stands under names of files.
use Rattle.std.proofs.Common.{ℕ, ◌≡◌, ◌≤◌, ◌<◌, ◌+◌, ◌*◌, ◌/◌, ◌%◌, ◌^◌, arith, Bool, true, false, List, [], ◌∷◌, ◌++◌, length, length-append, append_assoc, refl, sym, ap, subst, ◌∙◌, codes}
use Rattle.std.specs.Prelude.{◌&&◌, nat_le}
use Rattle.std.specs.List.{list_all}
use Rattle.std.specs.Fmt.{decimal}
use Rattle.std.proofs.lemmas.Bool.{and_parts}
use Rattle.std.proofs.lemmas.Bool.Decides.{nat_tests}
use Rattle.std.proofs.lemmas.Fmt.{length-decimal-le_wide, decimal_by_steps_wide}
use Rattle.base_types.specs.DatabaseName.{is_database_byte, starts_as_name}
use Rattle.cli_words.specs.Forms.{is_file_name, is_save_name, IsReadable}

abbrev AreNameBytes : List ℕ → Type 0
AreNameBytes bytes = list_all is_database_byte bytes ≡ true

both_bytes : (a b : List ℕ) → AreNameBytes a → AreNameBytes b → AreNameBytes (a ++ b)
both_bytes [] b g h = h
both_bytes (c ∷ cs) b g h =
    let parts = and_parts (is_database_byte c) (list_all is_database_byte cs) g in
    rw (parts.0, both_bytes cs b parts.1 h) refl

begins : (a b : List ℕ) → starts_as_name a ≡ true → starts_as_name (a ++ b) ≡ true
begins [] b h = absurd cc
begins (c ∷ cs) b h = h

at_most : (m n : ℕ) → nat_le m n ≡ true → m ≤ n
at_most m n e = grind (arith, nat_tests)

fits : (m n : ℕ) → m ≤ n → nat_le m n ≡ true
fits m n e = grind (arith, nat_tests)

-- such a name with some name bytes behind it, of which there are few
longer : (name ending : List ℕ) → is_save_name name ≡ true → length ending ≤ 28 → AreNameBytes ending → is_file_name (name ++ ending) ≡ true
unfolding is_save_name is_file_name
longer name ending saved few bytes =
    let all = and_parts (nat_le (length name) 100) (starts_as_name name && (nat_le (length name) 128 && list_all is_database_byte name)) saved in
    let parts = and_parts (starts_as_name name) (nat_le (length name) 128 && list_all is_database_byte name) all.1 in
    let rest = and_parts (nat_le (length name) 128) (list_all is_database_byte name) parts.1 in
    let short : length name ≤ 100 = at_most (length name) 100 all.0 in
    let within : length (name ++ ending) ≤ 128 = omega (arith, length-append name ending, short, few) in
    rw (begins name ending parts.0, fits (length (name ++ ending)) 128 within, both_bytes name ending rest.1 bytes) refl

-- ---- numbers

abbrev Digits : ℕ → List ℕ → Type 0
Digits n ds = AreNameBytes ds

digit_byte : (n : ℕ) → n < 10 → is_database_byte (48 + n) ≡ true
digit_byte n h = grind (arith, nat_tests)

one_digit : (n : ℕ) → n < 10 → Digits n ((48 + n) ∷ [])
one_digit n h = rw (digit_byte n h) refl

more_digits : (n : ℕ) (ds : List ℕ) → 10 ≤ n → Digits (n / 10) ds → Digits n (ds ++ ((48 + n % 10) ∷ []))
more_digits n ds h p =
    let last : n % 10 < 10 = omega arith in
    both_bytes ds ((48 + n % 10) ∷ []) p (rw (digit_byte (n % 10) last) refl)

decimal_bytes : (n : ℕ) → n < 10 ^ 64 → AreNameBytes (decimal n)
decimal_bytes n h = decimal_by_steps_wide Digits one_digit more_digits n h

-- ---- the names that are saved under

part_ending : (items : ℕ) → items < 2 ^ 64 → (length (codes "-" ++ decimal items ++ codes ".img") ≤ 28) × AreNameBytes (codes "-" ++ decimal items ++ codes ".img")
part_ending items small =
    let wide : items < 10 ^ 64 = omega (arith, small) in
    let few : length (decimal items) ≤ 20 = length-decimal-le_wide 20 items (omega arith) (omega (arith, small)) wide in
    let size = length-append (decimal items) (codes ".img") in
    let whole = length-append (codes "-") (decimal items ++ codes ".img") in
    (omega (arith, few, size, whole), both_bytes (codes "-") (decimal items ++ codes ".img") refl (both_bytes (decimal items) (codes ".img") (decimal_bytes items wide) refl))

pub readable : (name : List ℕ) → is_save_name name ≡ true → IsReadable name
readable name saved = record {
  image = longer name (codes ".img") saved (omega arith) refl;
  digests = longer name (codes ".digests") saved (omega arith) refl;
  journal = longer name (codes ".journal") saved (omega arith) refl;
  receipt = longer name (codes ".receipt") saved (omega arith) refl;
  chain = longer name (codes ".chain") saved (omega arith) refl;
  part = λ items small.
      let ending = part_ending items small in
      let shape = ap (λ (l : List ℕ). l ++ codes ".img") (append_assoc name (codes "-") (decimal items)) ∙ append_assoc name (codes "-" ++ decimal items) (codes ".img") in
      subst (λ l. is_file_name l ≡ true) (sym shape) (longer name (codes "-" ++ decimal items ++ codes ".img") saved ending.0 ending.1);
}
