-- Entries that get their places one after another.
use Rattle.std.proofs.Common.{◌≡◌, ◌≤◌, ◌<◌, ◌+◌, ◌-◌, ℕ, zero, suc, refl, sym, ap, subst, ◌∙◌, List, [], ◌∷◌, ◌++◌, take, drop, length, get_or, slice_set, arith}
use Rattle.sql_types.specs.declared.entry.TxEntry.{TxEntry}
use Rattle.spec_ledger.specs.Entries.{at_place, placed}

-- the first k of these are at their places, and the others as they were
abbrev placed_first : ℕ → ℕ → ℕ → List TxEntry → List TxEntry
placed_first b o k rest = placed b o (take k rest) ++ drop k rest

one_placed : (b o k n m : ℕ) (rest : List TxEntry) (y e : TxEntry) → k < length rest → n ≡ o + k → m ≡ suc k
    → y ≡ get_or (placed_first b o k rest) k y → e ≡ at_place b n y
    → slice_set (placed_first b o k rest) k e ≡ placed_first b o m rest
one_placed b o k n m [] y e lt here next is at = absurd (omega (arith, lt))
one_placed b o zero n m (r ∷ rs) y e lt here next is at =
    let same : n ≡ o = omega (arith, here) in
    rw (next, sym same) (ap (λ x. x ∷ rs) (at ∙ ap (at_place b n) is))
one_placed b o (suc k) n m (r ∷ rs) y e lt here next is at =
    rw next (ap (λ xs. at_place b o r ∷ xs)
    (one_placed b (o + 1) k n (suc k) rs y e (omega (arith, lt)) (omega (arith, here)) refl is at))

behind : (b from k place m : ℕ) (old : List TxEntry) (y e : TxEntry) → place < length old → place ≡ from + k → m ≡ suc k
    → y ≡ get_or (take from old ++ placed_first b 0 k (drop from old)) place y → e ≡ at_place b k y
    → slice_set (take from old ++ placed_first b 0 k (drop from old)) place e
    ≡ take from old ++ placed_first b 0 m (drop from old)
behind b zero k place m old y e lt here next is at =
    let same : place ≡ k = omega (arith, here) in
    rw same (one_placed b 0 k k m old y e (omega (arith, lt, same)) (omega arith) next
    (subst (λ n. y ≡ get_or (placed_first b 0 k old) n y) same is) at)
behind b (suc f) k place m [] y e lt here next is at = absurd (omega (arith, lt))
behind b (suc f) k zero m (x ∷ xs) y e lt here next is at = absurd (omega (arith, here))
behind b (suc f) k (suc place) m (x ∷ xs) y e lt here next is at =
    ap (λ l. x ∷ l) (behind b f k place m xs y e (omega (arith, lt)) (omega (arith, here)) next is at)

drop_behind : (from k place : ℕ) (old : List TxEntry) → place ≡ from + k → drop k (drop from old) ≡ drop place old
drop_behind zero k place old here = let same : place ≡ k = omega (arith, here) in rw same refl
drop_behind (suc f) k zero old here = absurd (omega (arith, here))
drop_behind (suc f) zero (suc place) [] here = refl
drop_behind (suc f) (suc k) (suc place) [] here = refl
drop_behind (suc f) k (suc place) (x ∷ xs) here = drop_behind f k place xs (omega (arith, here))

-- one entry more is at its place
pub one_more : (b from place : ℕ) (old now : List TxEntry) (y e : TxEntry) → from ≤ place → place < length old
    → now ≡ take from old ++ (placed b 0 (take (place - from) (drop from old)) ++ drop place old)
    → y ≡ get_or now place y → e ≡ at_place b (place - from) y
    → slice_set now place e
    ≡ take from old ++ (placed b 0 (take (place + 1 - from) (drop from old)) ++ drop (place + 1) old)
one_more b from place old now y e le lt so_far is at =
    let shown : now ≡ take from old ++ placed_first b 0 (place - from) (drop from old) =
    so_far ∙ ap (λ l. take from old ++ (placed b 0 (take (place - from) (drop from old)) ++ l))
    (sym (drop_behind from (place - from) place old (omega (arith, le)))) in
    ap (λ l. slice_set l place e) shown
    ∙ behind b from (place - from) place (place + 1 - from) old y e lt (omega (arith, le)) (omega (arith, le))
    (subst (λ l. y ≡ get_or l place y) shown is) at
    ∙ ap (λ l. take from old ++ (placed b 0 (take (place + 1 - from) (drop from old)) ++ l))
    (drop_behind from (place + 1 - from) (place + 1) old (omega (arith, le)))
