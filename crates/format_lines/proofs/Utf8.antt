-- A text cut at a byte of ASCII.
use Rattle.std.proofs.Common.{◌≡◌, ◌≤◌, ◌<◌, ◌-◌, ◌+◌, ◌∙◌, ℕ, zero, suc, Bool, true, false, List, [], ◌∷◌, ◌++◌, length, get_or, refl, arith, ◌==◌, ◌&&◌, cond, ap, sym, subst, take, drop, length-drop, drop-cons, IsUtf8, Option, Some, None}
use Rattle.std.specs.List.{list_all, position}
use Rattle.std.specs.Str.{is_utf8}
use Rattle.std.proofs.lemmas.Bool.Decides.{nat_tests}
use Rattle.std.proofs.lemmas.List.{take-append-drop, take_all}
use Rattle.std.proofs.lemmas.Str.{IsUtf8-from_is_utf8, is_utf8-from_IsUtf8, IsUtf8-nil, IsUtf8-append, IsUtf8-take, IsUtf8-drop, IsUtf8-from_ascii, IsCharBoundary-before_ascii, IsCharBoundary-after_ascii}
use Rattle.std.proofs.lemmas.Str.Ascii.{IsAscii-nil, IsAscii-cons}
use Rattle.format_lines.specs.Lines.{lines_of, without_return, is_line_feed}
use Rattle.format_lines.proofs.Cuts.{line_ended, line_alone, feed_at}

both_ways : (a b : Bool) → (a ≡ true → b ≡ true) → (b ≡ true → a ≡ true) → a ≡ b
both_ways true b there back = sym (there refl)
both_ways false true there back = back refl
both_ways false false there back = refl

both : (a b : Bool) → a ≡ true → b ≡ true → (a && b) ≡ true
both a b e f = rw (e, f) refl

each : (a b : Bool) → (a && b) ≡ true → (a ≡ true) × (b ≡ true)
each true b e = (refl, e)
each false b e = cc

and_true : (a : Bool) → a ≡ (a && true)
and_true true = refl
and_true false = refl

one_byte : (c : ℕ) → c < 128 → IsUtf8 (c ∷ [])
one_byte c small = IsUtf8-from_ascii (c ∷ []) (IsAscii-cons c [] small IsAscii-nil)

joined : (z : List ℕ) (n c : ℕ) → n < length z → get_or z n 0 ≡ c → z ≡ take n z ++ (c ∷ drop (suc n) z)
joined z n c within is = sym (take-append-drop n z) ∙ ap (λ x. take n z ++ x) (drop-cons z n 0 within ∙ ap (λ b. b ∷ drop (suc n) z) is)

-- a text on both sides of a byte of ASCII
utf8_cut : (z : List ℕ) (n c : ℕ) → n < length z → get_or z n 0 ≡ c → c < 128 → is_utf8 z ≡ (is_utf8 (take n z) && is_utf8 (drop (suc n) z))
utf8_cut z n c within is small =
    let low : get_or z n 0 < 128 = rw is small in
    let next : n + 1 ≡ suc n = omega arith in
    let there : is_utf8 z ≡ true → (is_utf8 (take n z) && is_utf8 (drop (suc n) z)) ≡ true = λ e.
    let utf8 = IsUtf8-from_is_utf8 z e in
    let front = IsUtf8-take z n utf8 (IsCharBoundary-before_ascii z n within low) in
    let rest = subst (λ k. IsUtf8 (drop k z)) next (IsUtf8-drop z (n + 1) utf8 (IsCharBoundary-after_ascii z n utf8 within low)) in
    both (is_utf8 (take n z)) (is_utf8 (drop (suc n) z)) (is_utf8-from_IsUtf8 (take n z) front) (is_utf8-from_IsUtf8 (drop (suc n) z) rest) in
    let back : (is_utf8 (take n z) && is_utf8 (drop (suc n) z)) ≡ true → is_utf8 z ≡ true = λ e.
    let parts = each (is_utf8 (take n z)) (is_utf8 (drop (suc n) z)) e in
    let rest = IsUtf8-append (c ∷ []) (drop (suc n) z) (one_byte c small) (IsUtf8-from_is_utf8 (drop (suc n) z) parts.1) in
    let all = IsUtf8-append (take n z) (c ∷ drop (suc n) z) (IsUtf8-from_is_utf8 (take n z) parts.0) rest in
    is_utf8-from_IsUtf8 z (subst IsUtf8 (sym (joined z n c within is)) all) in
    both_ways (is_utf8 z) (is_utf8 (take n z) && is_utf8 (drop (suc n) z)) there back

utf8_nil : is_utf8 [] ≡ true
utf8_nil = is_utf8-from_IsUtf8 [] IsUtf8-nil

is_13 : (b : ℕ) → (b == 13) ≡ true → b ≡ 13
is_13 b e = grind (arith, nat_tests)

nothing : (z : List ℕ) → length z ≡ 0 → z ≡ []
nothing [] e = refl
nothing (b ∷ z) e = absurd (some (length z) e)
  where
    some : (n : ℕ) → suc n ≡ 0 → ⊥
    some n e = omega arith

without_at : (z : List ℕ) (t : Bool) → 0 < length z → (get_or z (length z - 1) 0 == 13) ≡ t → is_utf8 (cond t (take (length z - 1) z) z) ≡ is_utf8 z
without_at z false some e = refl
without_at z true some e =
    let n = length z - 1 in
    let is = is_13 (get_or z n 0) e in
    let cut = utf8_cut z n 13 (omega arith) is (omega arith) in
    let size : length (drop (suc n) z) ≡ 0 = omega (arith, length-drop (suc n) z) in
    let end = nothing (drop (suc n) z) size in
    and_true (is_utf8 (take n z)) ∙ (ap (λ t. is_utf8 (take n z) && t) (sym utf8_nil ∙ ap is_utf8 (sym end)) ∙ sym cut)

utf8_without : (z : List ℕ) → is_utf8 (without_return z) ≡ is_utf8 z
utf8_without [] = refl
utf8_without (b ∷ z) = without_at (b ∷ z) (get_or (b ∷ z) (length (b ∷ z) - 1) 0 == 13) (omega arith) refl

turn : (z : List ℕ) (found : Option ℕ) → position is_line_feed z ≡ found → 0 < length z
    → ((rest : List ℕ) → length rest < length z → is_utf8 rest ≡ list_all is_utf8 (lines_of rest)) → is_utf8 z ≡ list_all is_utf8 (lines_of z)
turn z None e some rest = rw (line_alone z e some) (and_true (is_utf8 z))
turn z (Some at) e some rest =
    let place = feed_at z at e in
    let next : at + 1 ≡ suc at = omega arith in
    let behind = drop (suc at) z in
    let cut = utf8_cut z at 10 place.0 place.1 (omega arith) in
    let shorter : length behind < length z = omega (arith, length-drop (suc at) z, place.0) in
    let within : length behind ≤ length z - suc at = omega (arith, length-drop (suc at) z) in
    let all : take (length z - suc at) behind ≡ behind = take_all (length z - suc at) behind within in
    let lines : lines_of z ≡ without_return (take at z) ∷ lines_of behind =
    line_ended z at e ∙ (ap (λ k. without_return (take at z) ∷ lines_of (take (length z - k) (drop k z))) next
    ∙ ap (λ x. without_return (take at z) ∷ lines_of x) all) in
    cut ∙ (ap (λ t. t && is_utf8 behind) (sym (utf8_without (take at z))) ∙ (ap (λ t. is_utf8 (without_return (take at z)) && t) (rest behind shorter)
    ∙ ap (λ ls. list_all is_utf8 ls) (sym lines)))

utf8_up_to : (n : ℕ) (z : List ℕ) → length z ≤ n → is_utf8 z ≡ list_all is_utf8 (lines_of z)
utf8_up_to n [] l = utf8_nil
utf8_up_to zero (b ∷ z) l = absurd (none l)
  where
    none : suc (length z) ≤ 0 → ⊥
    none l = omega arith
utf8_up_to (suc n) (b ∷ z) l = turn (b ∷ z) (position is_line_feed (b ∷ z)) refl (omega arith) (λ rest shorter. utf8_up_to n rest (omega arith))

-- an input is a text where each line is
pub utf8_by_line : (bytes : List ℕ) → is_utf8 bytes ≡ list_all is_utf8 (lines_of bytes)
utf8_by_line bytes = utf8_up_to (length bytes) bytes (omega arith)
