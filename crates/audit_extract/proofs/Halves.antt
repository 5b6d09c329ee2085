-- Two lists of leaves whose last hashed bytes are one.
use Rattle.std.proofs.Common.{◌≡◌, ◌≢◌, ◌≤◌, ◌<◌, ◌*◌, ◌^◌, suc, ℕ, List, [], ◌∷◌, ◌++◌, length, take, drop, refl, arith, sym, ◌∙◌, ap, lit<, length-take, length-drop}
use Rattle.std.proofs.Math.Nat.{one-le-pow, pow-succ'}
use Rattle.std.proofs.lemmas.List.{take-append-drop}
use Rattle.base_fields.proofs.Fronts.{fronts}
use Rattle.base_merkle.specs.TreeHash.{tree_hash, split_of}
use Rattle.base_merkle.proofs.Trees.{tree_hash_two}
use Rattle.base_merkle.proofs.Split.{split_is, split_of_is}
use Rattle.spec_verify.specs.Collision.{Collides}
use Rattle.audit_extract.specs.Hashed.{hashed}

-- ---- the largest power of two below a number

pub record Power (n k : ℕ) : Type 0 where
  pub height : ℕ
  pub power : k ≡ 2 ^ height
  pub below : k < n

pub first_power : (n : ℕ) → 2 ≤ n → Power n 1
first_power n more = record { height = 0; power = refl; below = omega arith }

pub next_power : (n k m : ℕ) → Power n k → m ≡ k * 2 → 2 * k < n → Power n m
next_power n k m p is lt =
    let two : 2 ^ suc p.height ≡ 2 * 2 ^ p.height = pow-succ' 2 p.height in
    record { height = suc p.height; power = omega (arith, p.power); below = omega arith }

pub last_power : (n k : ℕ) → Power n k → n ≤ 2 * k → k ≡ split_of n
last_power n k p le = p.power ∙ sym (split_of_is n p.height (omega (arith, p.power, p.below)) (omega (arith, p.power)))

-- ---- halves

pub hash_of_hashed : (h : List ℕ → List ℕ) (all : List (List ℕ)) → tree_hash h all ≡ h (hashed h all)
hash_of_hashed h [] = refl
hash_of_hashed h (x ∷ []) = refl
hash_of_hashed h (x ∷ y ∷ ls) = tree_hash_two h (x ∷ y ∷ ls) (omega arith)

-- what two lists of leaves, not equal, with the same hashed bytes, have
pub record Halves (h : List ℕ → List ℕ) (a b : List (List ℕ)) : Type 0 where
  pub more_a : 2 ≤ length a
  pub more_b : 2 ≤ length b
  pub left : tree_hash h (take (split_of (length a)) a) ≡ tree_hash h (take (split_of (length b)) b)
  pub right : tree_hash h (drop (split_of (length a)) a) ≡ tree_hash h (drop (split_of (length b)) b)

module _ (h : List ℕ → List ℕ) (sized : (bytes : List ℕ) → length (h bytes) ≡ 32) where
  length_tree_hash : (all : List (List ℕ)) → length (tree_hash h all) ≡ 32
  length_tree_hash all = rw (hash_of_hashed h all) (sized (hashed h all))

  pub halves : (a b : List (List ℕ)) → a ≢ b → hashed h a ≡ hashed h b → Halves h a b
  halves [] [] ne e = absurd (ne refl)
  halves [] (y ∷ []) ne e = cc
  halves [] (y ∷ z ∷ b) ne e = cc
  halves (x ∷ []) [] ne e = cc
  halves (x ∷ []) (y ∷ []) ne e = let same : x ≡ y = cc in absurd (ne (rw same refl))
  halves (x ∷ []) (y ∷ z ∷ b) ne e = cc
  halves (x ∷ w ∷ a) [] ne e = cc
  halves (x ∷ w ∷ a) (y ∷ []) ne e = cc
  halves (x ∷ w ∷ a) (y ∷ z ∷ b) ne e =
      let m : List (List ℕ) = x ∷ w ∷ a in
      let n : List (List ℕ) = y ∷ z ∷ b in
      let tails : tree_hash h (take (split_of (length m)) m) ++ tree_hash h (drop (split_of (length m)) m) ≡ tree_hash h (take (split_of (length n)) n) ++ tree_hash h (drop (split_of (length n)) n) = cc in
      let parts = fronts (tree_hash h (take (split_of (length m)) m)) (tree_hash h (take (split_of (length n)) n)) _ _ (length_tree_hash (take (split_of (length m)) m) ∙ sym (length_tree_hash (take (split_of (length n)) n))) tails in
      record { more_a = omega arith; more_b = omega arith; left = parts.0; right = parts.1 }

-- where the halves agree the lists do
pub joined : (a b : List (List ℕ)) (k m : ℕ) → take k a ≡ take m b → drop k a ≡ drop m b → a ≡ b
joined a b k m t d = sym (take-append-drop k a) ∙ ap (λ x. x ++ drop k a) t ∙ ap (λ x. take m b ++ x) d ∙ take-append-drop m b

-- what the search keeps of two lists
pub record Sought (h : List ℕ → List ℕ) (a b : List (List ℕ)) : Type 0 where
  pub few_a : length a < 2 ^ 63
  pub few_b : length b < 2 ^ 63
  pub differ : a ≢ b
  pub same : tree_hash h a ≡ tree_hash h b

pub split_within : (all : List (List ℕ)) → 2 ≤ length all → split_of (length all) ≤ length all
split_within all more = let s = split_is (length all) more in omega (arith, s.below)

pub front_length : (all : List (List ℕ)) → 2 ≤ length all → length (take (split_of (length all)) all) < length all
front_length all more = let s = split_is (length all) more in let l = length-take (split_of (length all)) all in omega (arith, s.below)

pub back_length : (all : List (List ℕ)) → 2 ≤ length all → length (drop (split_of (length all)) all) < length all
back_length all more =
    let s = split_is (length all) more in
    let some : 1 ≤ 2 ^ s.height = one-le-pow s.height 2 (lit< tt) in
    let l = length-drop (split_of (length all)) all in
    omega (arith, s.below, s.power)

pub go_back : (h : List ℕ → List ℕ) (a b c d x y : List (List ℕ)) → Sought h a b → Halves h a b
    → c ≡ take (split_of (length a)) a → d ≡ take (split_of (length b)) b → x ≡ drop (split_of (length a)) a → y ≡ drop (split_of (length b)) b → c ≡ d
    → Sought h x y
go_back h a b c d x y sought halves c_is d_is x_is y_is same =
    let la = back_length a halves.more_a in
    let lb = back_length b halves.more_b in
    record {
      few_a = rw x_is (omega (arith, sought.few_a));
      few_b = rw y_is (omega (arith, sought.few_b));
      differ = λ e. sought.differ (joined a b _ _ (sym c_is ∙ same ∙ d_is) (sym x_is ∙ e ∙ y_is));
      same = rw (x_is, y_is) halves.right;
    }

pub go_front : (h : List ℕ → List ℕ) (a b c d : List (List ℕ)) → Sought h a b → Halves h a b
    → c ≡ take (split_of (length a)) a → d ≡ take (split_of (length b)) b → c ≢ d
    → Sought h c d
go_front h a b c d sought halves c_is d_is ne =
    let la = front_length a halves.more_a in
    let lb = front_length b halves.more_b in
    record {
      few_a = rw c_is (omega (arith, sought.few_a));
      few_b = rw d_is (omega (arith, sought.few_b));
      differ = ne;
      same = rw (c_is, d_is) halves.left;
    }

-- the hashed bytes of two lists of one tree hash collide where they differ
pub collides : (h : List ℕ → List ℕ) (a b : List (List ℕ)) (x y : List ℕ) → tree_hash h a ≡ tree_hash h b → x ≡ hashed h a → y ≡ hashed h b → x ≢ y
    → (hashed h a ≢ hashed h b) × Collides h x y
collides h a b x y same x_is y_is ne = (
  λ e. ne (x_is ∙ e ∙ sym y_is),
  record { differ = ne; same = rw (x_is, y_is) (sym (hash_of_hashed h a) ∙ same ∙ hash_of_hashed h b) },
)
