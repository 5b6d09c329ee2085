-- What is escaped is one line, is read back, and stays UTF-8.
use Rattle.std.proofs.Common.{◌≡◌, ◌<◌, ◌∙◌, ℕ, true, false, List, [], ◌∷◌, ◌++◌, refl, sym, ap, subst, arith, inl, inr, append_assoc, IsUtf8}
use Rattle.std.specs.Prelude.{◌==◌, ◌||◌, if◌then◌else◌}
use Rattle.std.specs.List.{list_any}
use Rattle.std.proofs.lemmas.Bool.{cases_Bool, eqb-true}
use Rattle.format_reply.specs.Shown.{escaped, escaped_byte, is_line_end, unescaped}
use Rattle.format_reply.proofs.Shown.{two_for_one}

-- ---- a byte and what is behind it, by cases

data ByteCase (b : ℕ) : Type 0 where
  feed : (b == 10) ≡ true → ByteCase b
  return : (b == 10) ≡ false → (b == 13) ≡ true → ByteCase b
  backslash : (b == 10) ≡ false → (b == 13) ≡ false → (b == 92) ≡ true → ByteCase b
  plain : (b == 10) ≡ false → (b == 13) ≡ false → (b == 92) ≡ false → ByteCase b

case_of : (b : ℕ) → ByteCase b
case_of b =
    elim (cases_Bool (b == 10)) [
      | inl ten ↦ feed ten
      | inr not_ten ↦ elim (cases_Bool (b == 13)) [
        | inl thirteen ↦ return not_ten thirteen
        | inr other ↦ elim (cases_Bool (b == 92)) [ inl slash ↦ backslash not_ten other slash | inr rest ↦ plain not_ten other rest ]
      ]
    ]

-- ---- one line

one_by_case : (b : ℕ) (rest : List ℕ) → ByteCase b → list_any is_line_end rest ≡ false → list_any is_line_end (escaped_byte b ++ rest) ≡ false
one_by_case b rest (feed ten) e = rw ten e
one_by_case b rest (return ten thirteen) e = rw (ten, thirteen) e
one_by_case b rest (backslash ten thirteen slash) e = rw (ten, thirteen, slash) e
one_by_case b rest (plain ten thirteen slash) e = rw (ten, thirteen, slash) (rw (ten, thirteen) e)

pub one_line : (line : List ℕ) → list_any is_line_end (escaped line) ≡ false
unfolding escaped
one_line [] = refl
one_line (b ∷ bs) = one_by_case b (escaped bs) (case_of b) (one_line bs)

-- ---- reading back

plain_back : (b : ℕ) (rest : List ℕ) → (b == 92) ≡ false → unescaped (b ∷ rest) ≡ b ∷ unescaped rest
plain_back b [] e = refl
plain_back b (c ∷ rest) e = rw e refl

back_by_case : (b : ℕ) (rest : List ℕ) → ByteCase b → unescaped (escaped_byte b ++ rest) ≡ b ∷ unescaped rest
back_by_case b rest (feed ten) = rw ten (ap (λ c. c ∷ unescaped rest) (sym (eqb-true b 10 ten)))
back_by_case b rest (return ten thirteen) = rw (ten, thirteen) (ap (λ c. c ∷ unescaped rest) (sym (eqb-true b 13 thirteen)))
back_by_case b rest (backslash ten thirteen slash) = rw (ten, thirteen, slash) (ap (λ c. c ∷ unescaped rest) (sym (eqb-true b 92 slash)))
back_by_case b rest (plain ten thirteen slash) = rw (ten, thirteen, slash) (plain_back b rest slash)

pub back : (line : List ℕ) → unescaped (escaped line) ≡ line
unfolding escaped
back [] = refl
back (b ∷ bs) = back_by_case b (escaped bs) (case_of b) ∙ ap (λ rest. b ∷ rest) (back bs)

pub alike : (line other : List ℕ) → escaped line ≡ escaped other → line ≡ other
alike line other e = sym (back line) ∙ ap unescaped e ∙ back other

-- ---- UTF-8

module _ (front : List ℕ) (b : ℕ) (bs : List ℕ) (more : IsUtf8 bs → IsUtf8 (escaped bs)) (u : IsUtf8 (front ++ b ∷ bs)) where
  for_one : (n e : ℕ) → (b == n) ≡ true → n < 128 → e < 128 → IsUtf8 (front ++ 92 ∷ e ∷ escaped bs)
  for_one n e is n_small e_small =
      two_for_one n 92 e n_small (omega arith) e_small front bs (escaped bs) more (subst (λ c. IsUtf8 (front ++ c ∷ bs)) (eqb-true b n is) u)

  by_case : ByteCase b → IsUtf8 ((front ++ b ∷ []) ++ escaped bs) → IsUtf8 (front ++ (escaped_byte b ++ escaped bs))
  by_case (feed ten) kept = rw ten (for_one 10 110 ten (omega arith) (omega arith))
  by_case (return ten thirteen) kept = rw (ten, thirteen) (for_one 13 114 thirteen (omega arith) (omega arith))
  by_case (backslash ten thirteen slash) kept = rw (ten, thirteen, slash) (for_one 92 92 slash (omega arith) (omega arith))
  by_case (plain ten thirteen slash) kept = rw (ten, thirteen, slash) (subst IsUtf8 (append_assoc front (b ∷ []) (escaped bs)) kept)

utf8_behind : (front bs : List ℕ) → IsUtf8 (front ++ bs) → IsUtf8 (front ++ escaped bs)
unfolding escaped
utf8_behind front [] u = u
utf8_behind front (b ∷ bs) u =
    by_case front b bs (utf8_behind [] bs) u (case_of b) (utf8_behind (front ++ b ∷ []) bs (subst IsUtf8 (sym (append_assoc front (b ∷ []) bs)) u))

pub escaped_utf8 : (text : List ℕ) → IsUtf8 text → IsUtf8 (escaped text)
escaped_utf8 text u = utf8_behind [] text u
