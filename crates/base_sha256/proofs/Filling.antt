-- A block that is filled from the pieces of a padded message.
use Rattle.std.proofs.Common.{◌≡◌, ℕ, ◌+◌, ◌-◌, ◌<◌, ◌≤◌, List, [], ◌++◌, length, min, take, drop, replicate, refl, sym, ap, ◌∙◌, arith, inl, inr, length-append, length-drop}
use Rattle.std.proofs.lemmas.Bool.{cases_lt}
use Rattle.std.proofs.lemmas.List.{append-nil, drop-append-le, drop_all, drop-drop, drop-replicate, length-take-le, take-append-le, take_all}
use Rattle.std.proofs.lemmas.Slice.{drop-put_mid, take-put_mid}
use Rattle.std.proofs.Math.Seq.{drop-append-add, take-append-add}
use Rattle.base_sha256.specs.Blocks.{IsFilled}
use borrow.Rule.Slice.PartMut.{put_mid}

-- a part of two lists is parts of both
pub drop_both : (n : ℕ) (xs ys : List ℕ) → drop n (xs ++ ys) ≡ drop n xs ++ drop (n - length xs) ys
drop_both n xs ys = elim (cases_lt n (length xs)) [
  | inl lt ↦
      let none : n - length xs ≡ 0 = omega arith in
      rw (none, drop-append-le n xs ys (omega arith)) refl
  | inr ge ↦
      let e : n ≡ length xs + (n - length xs) = omega arith in
      ap (λ (k : ℕ). drop k (xs ++ ys)) e ∙ drop-append-add xs ys (n - length xs) ∙ ap (λ (l : List ℕ). l ++ drop (n - length xs) ys) (sym (drop_all n xs ge))
]

pub take_both : (n : ℕ) (xs ys : List ℕ) → take n (xs ++ ys) ≡ take n xs ++ take (n - length xs) ys
take_both n xs ys = elim (cases_lt n (length xs)) [
  | inl lt ↦
      let none : n - length xs ≡ 0 = omega arith in
      rw (none, take-append-le n xs ys (omega arith)) (sym (append-nil (take n xs)))
  | inr ge ↦
      let e : n ≡ length xs + (n - length xs) = omega arith in
      ap (λ (k : ℕ). take k (xs ++ ys)) e ∙ take-append-add xs ys (n - length xs) ∙ ap (λ (l : List ℕ). l ++ take (n - length xs) ys) (sym (take_all n xs ge))
]

-- 64 bytes of two lists
pub window_both : (start f : ℕ) (xs ys : List ℕ) → f ≡ min 64 (length xs - start)
    → take 64 (drop start (xs ++ ys)) ≡ take 64 (drop start xs) ++ take (64 - f) (drop (start - length xs) ys)
window_both start f xs ys e =
    let room : 64 - length (drop start xs) ≡ 64 - f = omega (arith, length-drop start xs) in
    ap (take 64) (drop_both start xs ys) ∙ take_both 64 (drop start xs) (drop (start - length xs) ys)
    ∙ ap (λ (k : ℕ). take 64 (drop start xs) ++ take k (drop (start - length xs) ys)) room

-- a piece with nothing to copy
pub filled_none : (block : List ℕ) (f from start : ℕ) (m piece : List ℕ) → from ≡ start - length m → length piece ≤ from
    → IsFilled block f start m → IsFilled block f start (m ++ piece)
filled_none block f from start m piece ef none held =
    let len : length (m ++ piece) ≡ length m + length piece = length-append m piece in
    let empty : drop (start - length m) piece ≡ [] = drop_all (start - length m) piece (omega arith) in
    let nothing : take (64 - f) (drop (start - length m) piece) ≡ [] = ap (take (64 - f)) empty ∙ take_all (64 - f) [] (omega arith) in
    record {
      len = held.len;
      count = omega (arith, held.count);
      front = held.front ∙ sym (window_both start f m piece held.count ∙ ap (λ (l : List ℕ). take 64 (drop start m) ++ l) nothing ∙ append-nil (take 64 (drop start m)));
      back = held.back;
    }

-- a piece that is copied behind what is filled
pub filled_more : (block : List ℕ) (f from start n j : ℕ) (m piece ys : List ℕ) → from ≡ start - length m → from < length piece
    → n ≡ min (length piece - from) (64 - f) → j ≡ n → ys ≡ take n (drop from piece)
    → IsFilled block f start m → IsFilled (put_mid f j block ys) (f + n) start (m ++ piece)
filled_more block f from start n j m piece ys ef some en ej ey held =
    let len : length (m ++ piece) ≡ length m + length piece = length-append m piece in
    let rest : length (drop from piece) ≡ length piece - from = length-drop from piece in
    let all : take (64 - f) (drop from piece) ≡ take n (drop from piece) = elim (cases_lt (64 - f) (length piece - from)) [
      | inl lt ↦ ap (λ (k : ℕ). take k (drop from piece)) (omega arith)
      | inr ge ↦ take_all (64 - f) (drop from piece) (omega arith) ∙ sym (take_all n (drop from piece) (omega arith))
    ] in
    let ly : length ys ≡ n = ap length ey ∙ length-take-le n (drop from piece) (omega arith) in
    let within : f + n ≤ 64 = omega (arith, held.count) in
    let placed : take (f + n) (put_mid f j block ys) ≡ take f block ++ ys = take-put_mid f j block ys (f + n) (omega arith) (omega (arith, held.len)) in
    let kept : drop (f + n) (put_mid f j block ys) ≡ drop (f + n) block = drop-put_mid f j block ys (f + n) (omega arith) (omega (arith, held.len)) (omega arith) in
    let left : drop (f + n) block ≡ replicate (64 - f - n) 0 = sym (drop-drop n f block) ∙ ap (drop n) held.back ∙ drop-replicate n (64 - f) 0 in
    record {
      len = omega (
        arith,
        held.len,
        length-append (take f block) (ys ++ drop j (drop f block)),
        length-append ys (drop j (drop f block)),
        length-take-le f block (omega (arith, held.len)),
        length-drop j (drop f block),
        length-drop f block,
      );
      count = omega (arith, held.count);
      front = placed ∙ (λ i. held.front i ++ ey i) ∙ ap (λ (l : List ℕ). take 64 (drop start m) ++ l) (sym all ∙ ap (λ (k : ℕ). take (64 - f) (drop k piece)) ef)
          ∙ sym (window_both start f m piece held.count);
      back = kept ∙ left ∙ ap (λ (k : ℕ). replicate k 0) (omega arith);
    }

-- a block with nothing in it yet
pub filled_empty : (block : List ℕ) (start : ℕ) → length block ≡ 64 → block ≡ replicate 64 0 → IsFilled block 0 start []
filled_empty block start len zeros = record {
  len = len;
  count = omega arith;
  front = sym (ap (take 64) (drop_all start [] (omega arith)) ∙ take_all 64 [] (omega arith));
  back = zeros;
}
