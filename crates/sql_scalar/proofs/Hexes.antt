-- Bytes in hexadecimal digits, one by one.
use Rattle.std.proofs.Common.{◌≡◌, ◌∙◌, ◌<◌, ◌≤◌, ℕ, ◌+◌, ◌/◌, ◌%◌, List, [], ◌∷◌, ◌++◌, length, drop, get_or, ap, sym, refl, append_assoc, append-nil, take, arith}
use Rattle.std.specs.Prelude.{slice_index}
use Rattle.std.proofs.lemmas.List.{drop_more, length-take, take-append-le}
use Rattle.std.proofs.Math.ListN.{drop_of_length-le}
use Rattle.hex.specs.Hex.{encode_with, encode_upper, upper_digits}

-- the two digits of a byte
abbrev pub two : ℕ → List ℕ
two b = slice_index upper_digits (b / 16) ∷ slice_index upper_digits (b % 16) ∷ []

upper_step : (b : ℕ) (bs : List ℕ) → encode_upper (b ∷ bs) ≡ two b ++ encode_upper bs
unfolding encode_with
upper_step b bs = refl

upper_nil : encode_upper [] ≡ []
unfolding encode_with
upper_nil = refl

pub hex_more : (out new bytes : List ℕ) (i : ℕ) → i < length bytes → new ≡ out ++ two (get_or bytes i 0)
    → new ++ encode_upper (drop (i + 1) bytes) ≡ out ++ encode_upper (drop i bytes)
hex_more out new bytes i small is =
    rw is (append_assoc out (two (get_or bytes i 0)) (encode_upper (drop (i + 1) bytes))
    ∙ ap (λ x. out ++ x) (sym (upper_step (get_or bytes i 0) (drop (i + 1) bytes)) ∙ ap encode_upper (sym (drop_more bytes i 0 small))))

pub hex_done : (out bytes : List ℕ) (i : ℕ) → length bytes ≤ i → out ≡ out ++ encode_upper (drop i bytes)
hex_done out bytes i all = rw (drop_of_length-le bytes all, upper_nil) (sym (append-nil out))

-- what stood before stays before
pub kept : (n : ℕ) (old out more new : List ℕ) → length old ≡ n → take n out ≡ old → new ≡ out ++ more → take n new ≡ old
kept n old out more new sized before is =
    let long : n ≤ length out = omega (arith, ap length before, length-take n out) in
    rw is (take-append-le n out more long ∙ before)
