-- The blocks in which a message ends, with its padding.
use Rattle.std.proofs.Common.{◌≡◌, ℕ, suc, ◌+◌, ◌-◌, ◌*◌, ◌%◌, ◌^◌, ◌<◌, ◌≤◌, List, [], ◌∷◌, ◌++◌, length, take, drop, replicate, slice_set, refl, sym, ap, ◌∙◌, arith, length-append, length-drop}
use Rattle.std.proofs.lemmas.List.{append-nil, append_assoc, drop-append-le, drop_all, drop-replicate, length-replicate, length-take-le, set_at, take-append-drop, take-append-le, take-replicate, take_all}
use Rattle.std.specs.Int.{w64, to_be_bytes}
use Rattle.sha2.specs.Sha256.{padded_message, padding}
use Rattle.base_sha256.specs.Blocks.{IsFilled}
use Rattle.base_sha256.proofs.Filling.{take_both, window_both}
use borrow.Rule.Slice.PartMut.{put_mid}

-- the length in bits, as it ends the padding
abbrev pub bits_of : List ℕ → List ℕ
bits_of m = to_be_bytes w64 (length m * 8 % 2 ^ 64)

length-bits : (m : List ℕ) → length (bits_of m) ≡ 8
length-bits m = refl

-- the zeros of a padding
abbrev zeros_of : List ℕ → ℕ
zeros_of m = (119 - length m % 64) % 64

pub length-padded : (m : List ℕ) → length (padded_message m) ≡ length m + 1 + (119 - length m % 64) % 64 + 8
length-padded m =
    omega (
      arith,
      length-bits m,
      length-append m (0x80 ∷ replicate (zeros_of m) 0 ++ bits_of m),
      length-append (0x80 ∷ replicate (zeros_of m) 0) (bits_of m),
      length-replicate {A = ℕ} (zeros_of m) 0,
    )

-- what stands in the block: bytes of the message, and then of the padding
seen : (block : List ℕ) (f start : ℕ) (m : List ℕ) → IsFilled block f start m
    → take 64 (drop start (padded_message m)) ≡ take f block ++ take (64 - f) (drop (start - length m) (padding (length m)))
seen block f start m held =
    window_both start f m (padding (length m)) held.count ∙ ap (λ (l : List ℕ). l ++ take (64 - f) (drop (start - length m) (padding (length m)))) (sym held.front)

-- the last eight bytes of a block
last_eight : (b bits : List ℕ) (j : ℕ) → length b ≡ 64 → 8 ≤ j → put_mid 56 j b bits ≡ take 56 b ++ bits
last_eight b bits j len fits =
    let none : drop j (drop 56 b) ≡ [] = drop_all j (drop 56 b) (omega (arith, length-drop 56 b)) in
    ap (λ (l : List ℕ). take 56 b ++ (bits ++ l)) none ∙ ap (λ (l : List ℕ). take 56 b ++ l) (append-nil bits)

-- no padding
pub padded_full : (block : List ℕ) (f start : ℕ) (m : List ℕ) → 64 ≤ f → IsFilled block f start m → block ≡ take 64 (drop start (padded_message m))
padded_full block f start m full held =
    let none : 64 - f ≡ 0 = omega arith in
    sym (seen block f start m held
    ∙ ap (λ (k : ℕ). take f block ++ take k (drop (start - length m) (padding (length m)))) none
    ∙ append-nil (take f block) ∙ take_all f block (omega (arith, held.len)))

-- the padding's first byte, behind the message
marked : (block : List ℕ) (f start : ℕ) (m : List ℕ) → f < 64 → IsFilled block f start m
    → slice_set block f 0x80 ≡ take f block ++ 0x80 ∷ replicate (63 - f) 0
marked block f start m lt held =
    let more : 64 - f ≡ suc (63 - f) = omega arith in
    let split : block ≡ take f block ++ 0 ∷ replicate (63 - f) 0 =
    sym (take-append-drop f block) ∙ ap (λ (l : List ℕ). take f block ++ l) (held.back ∙ ap (λ (k : ℕ). replicate k 0) more) in
    ap (λ (b : List ℕ). slice_set b f 0x80) split ∙ set_at (take f block) 0 (replicate (63 - f) 0) 0x80 f (length-take-le f block (omega (arith, held.len)))

-- the message ends too late in the block for the length
pub padded_mark : (block : List ℕ) (f index start : ℕ) (m : List ℕ) → start ≡ index * 64 → start ≤ length m → 56 ≤ f → f < 64
    → IsFilled block f start m → slice_set block f 0x80 ≡ take 64 (drop start (padded_message m))
padded_mark block f index start m es le low lt held =
    let used : length m % 64 ≡ f = omega (arith, held.count) in
    let zeros : 63 - f ≤ length (replicate (zeros_of m) 0) = omega (arith, length-replicate {A = ℕ} (zeros_of m) 0) in
    let fewer : 63 - f ≤ zeros_of m = omega arith in
    let none : start - length m ≡ 0 = omega arith in
    let more : 64 - f ≡ suc (63 - f) = omega arith in
    let part : take (64 - f) (drop (start - length m) (padding (length m))) ≡ 0x80 ∷ replicate (63 - f) 0 =
    ap (λ (k : ℕ). take (64 - f) (drop k (padding (length m)))) none ∙ ap (λ (k : ℕ). take k (padding (length m))) more
    ∙ ap (λ (l : List ℕ). 0x80 ∷ l) (take-append-le (63 - f) (replicate (zeros_of m) 0) (bits_of m) zeros ∙ take-replicate (63 - f) (zeros_of m) 0 fewer) in
    marked block f start m lt held ∙ sym (seen block f start m held ∙ ap (λ (l : List ℕ). take f block ++ l) part)

-- the message ends in the block, with its padding
pub padded_end : (block bits : List ℕ) (f index start j : ℕ) (m : List ℕ) → start ≡ index * 64 → start ≤ length m → f < 56 → 8 ≤ j
    → bits ≡ bits_of m → IsFilled block f start m → put_mid 56 j (slice_set block f 0x80) bits ≡ take 64 (drop start (padded_message m))
padded_end block bits f index start j m es le lt fits eb held =
    let used : length m % 64 ≡ f = omega (arith, held.count) in
    let zeros : zeros_of m ≡ 55 - f = omega arith in
    let none : start - length m ≡ 0 = omega arith in
    let x : List ℕ = take f block in
    let lx : length x ≡ f = length-take-le f block (omega (arith, held.len)) in
    let mark : slice_set block f 0x80 ≡ x ++ 0x80 ∷ replicate (63 - f) 0 = marked block f start m (omega arith) held in
    let len : length (slice_set block f 0x80) ≡ 64 =
    ap length mark ∙ omega (arith, length-append x (0x80 ∷ replicate (63 - f) 0), length-replicate {A = ℕ} (63 - f) 0) in
    let room : 56 - length x ≡ suc (55 - f) = omega arith in
    let front : take 56 (slice_set block f 0x80) ≡ x ++ 0x80 ∷ replicate (55 - f) 0 =
    ap (take 56) mark ∙ take_both 56 x (0x80 ∷ replicate (63 - f) 0)
    ∙ ap (λ (l : List ℕ). l ++ take (56 - length x) (0x80 ∷ replicate (63 - f) 0)) (take_all 56 x (omega arith))
    ∙ ap (λ (k : ℕ). x ++ take k (0x80 ∷ replicate (63 - f) 0)) room
    ∙ ap (λ (l : List ℕ). x ++ 0x80 ∷ l) (take-replicate (55 - f) (63 - f) 0 (omega arith)) in
    let whole : length (padding (length m)) ≤ 64 - f =
    omega (arith, length-bits m, length-append (0x80 ∷ replicate (zeros_of m) 0) (bits_of m), length-replicate {A = ℕ} (zeros_of m) 0) in
    let part : take (64 - f) (drop (start - length m) (padding (length m))) ≡ (0x80 ∷ replicate (55 - f) 0) ++ bits_of m =
    ap (λ (k : ℕ). take (64 - f) (drop k (padding (length m)))) none ∙ take_all (64 - f) (padding (length m)) whole
    ∙ ap (λ (k : ℕ). (0x80 ∷ replicate k 0) ++ bits_of m) zeros in
    last_eight (slice_set block f 0x80) bits j len fits ∙ (λ i. front i ++ eb i) ∙ append_assoc x (0x80 ∷ replicate (55 - f) 0) (bits_of m)
    ∙ sym (seen block f start m held ∙ ap (λ (l : List ℕ). x ++ l) part)

-- the message ended in the block before
pub padded_last : (block bits : List ℕ) (f index start j : ℕ) (m : List ℕ) → start ≡ index * 64 → length m < start → start < length (padded_message m) → 8 ≤ j
    → bits ≡ bits_of m → IsFilled block f start m → put_mid 56 j block bits ≡ take 64 (drop start (padded_message m))
padded_last block bits f index start j m es lt within fits eb held =
    let lp : length (padded_message m) ≡ length m + 1 + (119 - length m % 64) % 64 + 8 = length-padded m in
    let nothing : f ≡ 0 = omega (arith, held.count) in
    let r : ℕ = length m % 64 in
    let past : start - length m ≡ suc (63 - r) = omega arith in
    let late : 56 ≤ r = omega arith in
    let below : r < 64 = omega arith in
    let zeros : zeros_of m - (63 - r) ≡ 56 = omega arith in
    let some : 63 - r ≤ length (replicate (zeros_of m) 0) = omega (arith, length-replicate {A = ℕ} (zeros_of m) 0) in
    let blank : block ≡ replicate 64 0 =
    ap (λ (k : ℕ). drop k block) (sym nothing) ∙ held.back ∙ ap (λ (k : ℕ). replicate (64 - k) 0) nothing in
    let front : take 56 block ≡ replicate 56 0 = ap (take 56) blank in
    let none : take f block ≡ [] = ap (λ (k : ℕ). take k block) nothing in
    let rest : drop (start - length m) (padding (length m)) ≡ replicate 56 0 ++ bits_of m =
    ap (λ (k : ℕ). drop k (padding (length m))) past ∙ drop-append-le (63 - r) (replicate (zeros_of m) 0) (bits_of m) some
    ∙ ap (λ (l : List ℕ). l ++ bits_of m) (drop-replicate (63 - r) (zeros_of m) 0 ∙ ap (λ (k : ℕ). replicate k 0) zeros) in
    let part : take f block ++ take (64 - f) (drop (start - length m) (padding (length m))) ≡ replicate 56 0 ++ bits_of m =
    (λ i. none i ++ take (64 - nothing i) (rest i)) ∙ take_all 64 (replicate 56 0 ++ bits_of m) (omega (arith, length-bits m, length-append (replicate 56 0) (bits_of m), length-replicate {A = ℕ} 56 0)) in
    last_eight block bits j held.len fits ∙ (λ i. front i ++ eb i) ∙ sym (seen block f start m held ∙ part)
