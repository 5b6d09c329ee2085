-- Nodes taken off and put on at the end.
use Rattle.std.proofs.Common.{◌≡◌, ◌≢◌, ◌≤◌, ◌<◌, ◌+◌, ◌-◌, ◌*◌, ◌^◌, suc, ℕ, List, [], ◌∷◌, ◌++◌, length, refl, arith, sym, ◌∙◌, ap, subst, lit<, append_assoc, append-nil, length-append, min}
use Rattle.std.proofs.Math.Nat.{one-le-pow, pow-le-pow_right, pow-succ'}
use Rattle.base_merkle.specs.declared.node.Node.{Node}
use Rattle.base_merkle.specs.TreeHash.{tree_hash}
use Rattle.base_merkle.specs.Stack.{IsNode, IsStack, stack_root}
use Rattle.base_merkle.specs.PutOn.{Carries, PutOn}
use Rattle.base_merkle.proofs.Trees.{tree_hash_join}

some_leaf : (h : List ℕ → List ℕ) (n : Node) (ns : List Node) (leaves : List (List ℕ)) (more : ℕ)
    → IsStack h (n ∷ ns) leaves more → 1 ≤ length leaves
some_leaf h n ns leaves more s =
    let one : 1 ≤ 2 ^ s.3.height = one-le-pow s.3.height 2 (lit< tt) in
    let len = length-append s.0 s.1 in
    omega (arith, ap length s.2, s.3.power)

pub root_is : (h : List ℕ → List ℕ) (ns : List Node) (leaves : List (List ℕ)) (more : ℕ)
    → IsStack h ns leaves more → stack_root h ns ≡ tree_hash h leaves
root_is h [] leaves more s = rw s refl
root_is h (n ∷ []) leaves more s = rw (s.2, s.5, append-nil s.0) s.3.hash
root_is h (n ∷ m ∷ ns) leaves more s =
    let rest = root_is h (m ∷ ns) s.1 more s.5 in
    let some = some_leaf h m ns s.1 more s.5 in
    let few : length s.1 ≤ length s.0 = omega (arith, s.4) in
    rw (rest, s.2, s.3.hash) (sym (tree_hash_join h s.0 s.1 s.3.height s.3.power some few))

pub put_on : (h : List ℕ → List ℕ) (ns : List Node) (n : Node) (front d : List (List ℕ)) (more : ℕ)
    → IsStack h ns front (length d + more) → IsNode h n d → more ≤ length d
    → IsStack h (ns ++ n ∷ []) (front ++ d) more
put_on h [] n front d more s node few = (d, [], rw (s, append-nil d) refl, node, omega arith, refl)
put_on h (m ∷ ns) n front d more s node few =
    let len = length-append s.1 d in
    (s.0, s.1 ++ d, rw (s.2, append_assoc) refl, s.3, omega (arith, s.4), put_on h ns n s.1 d more s.5 node few)

pub take_off : (h : List ℕ → List ℕ) (ns : List Node) (n : Node) (leaves : List (List ℕ)) (more : ℕ)
    → IsStack h (ns ++ n ∷ []) leaves more
    → (front : List (List ℕ)) × (d : List (List ℕ)) × (leaves ≡ front ++ d) × IsNode h n d × (more ≤ length d) × IsStack h ns front (length d + more)
take_off h [] n leaves more s = ([], s.0, rw (s.2, s.5, append-nil s.0) refl, s.3, omega (arith, s.4), refl)
take_off h (m ∷ ns) n leaves more s =
    let r = take_off h ns n s.1 more s.5 in
    let len = length-append r.0 r.1 in
    (s.0 ++ r.0, r.1, s.2 ∙ ap (λ x. s.0 ++ x) r.2 ∙ sym (append_assoc s.0 r.0 r.1), r.3, r.4, (s.0, r.0, refl, s.3, omega (arith, s.4, ap length r.2), r.5))

-- the first node of some nodes has at least half of all
half : (h : List ℕ → List ℕ) (ns : List Node) (n : Node) (leaves : List (List ℕ)) (more : ℕ)
    → IsStack h (ns ++ n ∷ []) leaves more
    → (b : ℕ) × (2 ^ b ≤ length leaves) × (length leaves + more ≤ 2 * 2 ^ b)
half h [] n leaves more s =
    let len = length-append s.0 s.1 in
    (s.3.height, omega (arith, s.3.power, ap length s.2), omega (arith, s.3.power, ap length s.2, s.4))
half h (m ∷ ns) n leaves more s =
    let len = length-append s.0 s.1 in
    (s.3.height, omega (arith, s.3.power, ap length s.2), omega (arith, s.3.power, ap length s.2, s.4))

below_power : (a b : ℕ) → 2 ^ b < 2 ^ a → 2 * 2 ^ b ≤ 2 ^ a
below_power a b lt =
    let high : a ≤ b → ⊥ = λ le. let l : 2 ^ a ≤ 2 ^ b = pow-le-pow_right {n = 2} (lit< tt) le in omega arith in
    let le : suc b ≤ a = omega (arith, high) in
    let l : 2 ^ suc b ≤ 2 ^ a = pow-le-pow_right {n = 2} (lit< tt) le in
    let two : 2 ^ suc b ≡ 2 * 2 ^ b = pow-succ' 2 b in
    omega arith

-- where the last node isn't as large as what is to come, there is room for one more
pub more_room : (h : List ℕ → List ℕ) (ns : List Node) (n : Node) (leaves : List (List ℕ)) (more : ℕ)
    → 1 ≤ more → n.size ≢ more → IsStack h (ns ++ n ∷ []) leaves more
    → IsStack h (ns ++ n ∷ []) leaves (more + 1)
more_room h [] n leaves more some ne s =
    let no : length s.0 ≡ more → ⊥ = λ e. ne (s.3.size ∙ e) in
    (s.0, s.1, s.2, s.3, omega (arith, s.4, no, ap length s.5), s.5)
more_room h (m ∷ ns) n leaves more some ne s =
    let rest = more_room h ns n s.1 more some ne s.5 in
    let b = half h ns n s.1 (more + 1) rest in
    let two = below_power s.3.height b.0 (omega (arith, b.1, s.4, s.3.power)) in
    (s.0, s.1, s.2, s.3, omega (arith, b.2, two, s.3.power), rest)

pub few_nodes : (h : List ℕ → List ℕ) (ns : List Node) (leaves : List (List ℕ)) (more : ℕ) → 1 ≤ more
    → IsStack h ns leaves more → 2 ^ length ns ≤ length leaves + more
few_nodes h [] leaves more some s = omega arith
few_nodes h (n ∷ ns) leaves more some s =
    let rest = few_nodes h ns s.1 more some s.5 in
    let two : 2 ^ suc (length ns) ≡ 2 * 2 ^ length ns = pow-succ' 2 (length ns) in
    let len = length-append s.0 s.1 in
    omega (arith, s.4, ap length s.2)

pub joined_node : (h : List ℕ → List ℕ) (left right : Node) (hash : List ℕ) (size : ℕ) (c d : List (List ℕ))
    → IsNode h left c → IsNode h right d → left.size ≡ right.size → hash ≡ h (1 ∷ left.hash ++ right.hash)
    → size ≡ 2 * right.size → IsNode h (record { hash = hash; size = size }) (c ++ d)
joined_node h left right hash size c d l r same is twice =
    let len = length-append c d in
    let one : 1 ≤ 2 ^ r.height = one-le-pow r.height 2 (lit< tt) in
    let eq : length c ≡ length d = sym l.size ∙ same ∙ r.size in
    record {
      height = suc r.height;
      power = rw (len, eq, r.power, pow-succ' 2 r.height) (omega arith);
      size = rw (len, twice, r.size, eq) (omega arith);
      hash = rw (is, l.hash, r.hash) (sym (tree_hash_join h c d l.height l.power (omega (arith, r.power)) (omega (arith, eq))));
    }

some_of : (h : List ℕ → List ℕ) (n : Node) (d : List (List ℕ)) → IsNode h n d → 1 ≤ length d
some_of h n d node = let one : 1 ≤ 2 ^ node.height = one-le-pow node.height 2 (lit< tt) in omega (arith, node.power)

pub carries_on : (h : List ℕ → List ℕ) (old ns : List Node) (node last carry : Node) (hash : List ℕ)
    (size : ℕ) → Carries h old node (ns ++ last ∷ []) carry → last.size ≡ carry.size
    → hash ≡ h (1 ∷ last.hash ++ carry.hash) → size ≡ min (carry.size * 2) (2 ^ 64 - 1)
    → Carries h old node ns (record { hash = hash; size = size })
carries_on h old ns node last carry hash size so_far same is twice = λ leaves d small s n.
    let r = so_far leaves d small s n in
    let off = take_off h ns last r.0 (length r.1) r.3 in
    let one = length-append leaves d in
    let two = length-append r.0 r.1 in
    let three = length-append off.0 off.1 in
    let all = ap length r.2 in
    let parts = ap length off.2 in
    let bound : carry.size * 2 < 2 ^ 64 - 1 = omega (arith, r.4.size, off.3.size, same) in
    let exact : size ≡ 2 * carry.size = omega (arith, twice) in (
      off.0,
      off.1 ++ r.1,
      r.2 ∙ ap (λ x. x ++ r.1) off.2 ∙ append_assoc off.0 off.1 r.1,
      (let P : ℕ → Type 0 = λ x. IsStack h ns off.0 x in subst P (sym (length-append off.1 r.1)) off.5),
      joined_node h last carry hash size off.1 r.1 off.3 r.4 same is exact,
    )

pub ends_none : (h : List ℕ → List ℕ) (old : List Node) (node carry : Node) → Carries h old node [] carry
    → PutOn h old node (carry ∷ [])
ends_none h old node carry so_far = λ leaves d small s n.
    let r = so_far leaves d small s n in
    let P : List (List ℕ) → Type 0 = λ x. IsStack h (carry ∷ []) x 1 in
    subst P (sym r.2) (put_on h [] carry r.0 r.1 1 r.3 r.4 (some_of h carry r.1 r.4))

pub ends_some : (h : List ℕ → List ℕ) (old ns : List Node) (node last carry : Node)
    → Carries h old node (ns ++ last ∷ []) carry → last.size ≢ carry.size
    → PutOn h old node ((ns ++ last ∷ []) ++ carry ∷ [])
ends_some h old ns node last carry so_far ne = λ leaves d small s n.
    let r = so_far leaves d small s n in
    let some = some_of h carry r.1 r.4 in
    let other : last.size ≢ length r.1 = λ e. ne (e ∙ sym r.4.size) in
    let room = more_room h ns last r.0 (length r.1) some other r.3 in
    let P : List (List ℕ) → Type 0 = λ x. IsStack h ((ns ++ last ∷ []) ++ carry ∷ []) x 1 in
    subst P (sym r.2) (put_on h (ns ++ last ∷ []) carry r.0 r.1 1 room r.4 some)

pub ends_none_at : (h : List ℕ → List ℕ) (old nodes popped new : List Node) (node carry : Node)
    → Carries h old node nodes carry → nodes ≡ [] → nodes ≡ popped → new ≡ popped ++ carry ∷ []
    → PutOn h old node new
ends_none_at h old nodes popped new node carry so_far nil same is =
    let C : List Node → Type 0 = λ x. Carries h old node x carry in
    let P : List Node → Type 0 = λ x. PutOn h old node x in
    let end : [] ++ carry ∷ [] ≡ new = ap (λ x. x ++ carry ∷ []) (sym nil ∙ same) ∙ sym is in
    subst P end (ends_none h old node carry (subst C nil so_far))

pub ends_some_at : (h : List ℕ → List ℕ) (old nodes ns back new : List Node) (node last carry : Node)
    → Carries h old node nodes carry → nodes ≡ ns ++ last ∷ [] → last.size ≢ carry.size
    → back ≡ ns ++ last ∷ [] → new ≡ back ++ carry ∷ [] → PutOn h old node new
ends_some_at h old nodes ns back new node last carry so_far parts ne e f =
    let C : List Node → Type 0 = λ x. Carries h old node x carry in
    let P : List Node → Type 0 = λ x. PutOn h old node x in
    subst P (ap (λ x. x ++ carry ∷ []) (sym e) ∙ sym f) (ends_some h old ns node last carry (subst C parts so_far) ne)

pub carries_on_at : (h : List ℕ → List ℕ) (old nodes ns : List Node) (node last carry : Node) (hash : List ℕ)
    (size : ℕ) → Carries h old node nodes carry → nodes ≡ ns ++ last ∷ [] → last.size ≡ carry.size
    → hash ≡ h (1 ∷ last.hash ++ carry.hash) → size ≡ min (carry.size * 2) (2 ^ 64 - 1)
    → Carries h old node ns (record { hash = hash; size = size })
carries_on_at h old nodes ns node last carry hash size so_far parts same is twice =
    let C : List Node → Type 0 = λ x. Carries h old node x carry in
    carries_on h old ns node last carry hash size (subst C parts so_far) same is twice

pub few_at : (n m : ℕ) → 2 ^ n ≤ m → m < 2 ^ 63 → n < 63
few_at n m le lt =
    let high : 63 ≤ n → ⊥ = λ l. let p : 2 ^ 63 ≤ 2 ^ n = pow-le-pow_right {n = 2} (lit< tt) l in omega arith in
    omega (arith, high)
