-- Two leaves that lead to one root from one place, from the root down.
use Rattle.std.proofs.Common.{◌≡◌, ◌≢◌, ◌≤◌, ◌<◌, ◌^◌, ℕ, Bool, true, false, List, [], ◌∷◌, ◌++◌, length, Option, Some, None, refl, arith, sym, ◌∙◌, ap, subst}
use Rattle.std.specs.Prelude.{IsSome, eqb, if◌then◌else◌, zip}
use Rattle.std.specs.Option.{option_map}
use Rattle.audit_extract.specs.Collision.{Collides}
use Rattle.audit_paths.specs.declared.side.Side.{Side}
use Rattle.audit_paths.specs.Path.{sides_of, Step, node_of, climbed, root_over, root_under, HaveOneRoot, AreHashes}
use Rattle.audit_paths.proofs.Climbing.{halves_of, behind_first}
use Rattle.audit_paths.proofs.Equations.{under_step, under_none, under_leaf}

-- ---- a root has 32 bytes

climbed_sized : (h : List ℕ → List ℕ) → ((bytes : List ℕ) → length (h bytes) ≡ 32) → (hash : List ℕ) (steps : List Step) → length hash ≡ 32 → length (climbed h hash steps) ≡ 32
climbed_sized h sized hash [] e = e
climbed_sized h sized hash (s ∷ steps) e = climbed_sized h sized (h (node_of s hash)) steps (sized (node_of s hash))

some_if : (b : Bool) (x y : List ℕ) → (if b then Some x else None) ≡ Some y → x ≡ y
some_if true x y e = cc
some_if false x y e = cc

under_sized : (h : List ℕ → List ℕ) → ((bytes : List ℕ) → length (h bytes) ≡ 32) → (m n : ℕ) (leaf root : List ℕ) (path : List (List ℕ)) → root_under h path m n leaf ≡ Some root → length root ≡ 32
unfolding root_under
under_sized h sized m n leaf root path e =
    let same = some_if (eqb (length path) (length (sides_of m n))) (root_over h leaf (zip (sides_of m n) path)) root e in
    sym (ap length same) ∙ climbed_sized h sized (h (0 ∷ leaf)) (zip (sides_of m n) path) (sized (0 ∷ leaf))

-- ---- the search

-- what the search keeps: the two paths that are left, at place m of n
pub record Sought (h : List ℕ → List ℕ) (m n : ℕ) (a : List ℕ) (p : List (List ℕ)) (b : List ℕ) (q : List (List ℕ)) : Type 0 where
  pub few : n < 2 ^ 63
  pub first : AreHashes p
  pub second : AreHashes q
  pub roots : HaveOneRoot h m n a p b q

mapped : {A : Type 0} (f : A → List ℕ) (o : Option A) (r : List ℕ) → option_map f o ≡ Some r → (x : A) × ((o ≡ Some x) × (f x ≡ r))
mapped f None r e = cc
mapped f (Some x) r e = (x, (refl, cc))

pub some_left : (h : List ℕ → List ℕ) (m n : ℕ) (leaf root : List ℕ) (path : List (List ℕ)) → 2 ≤ n → root_under h path m n leaf ≡ Some root → path ≢ []
some_left h m n leaf root path more e = λ none.
    let no : None ≡ Some root = sym (under_none h m n leaf more) ∙ ap (λ (p : List (List ℕ)). root_under h p m n leaf) (sym none) ∙ e in
    absurd cc

all_but_last : (ps : List (List ℕ)) (p : List ℕ) → AreHashes (ps ++ p ∷ []) → AreHashes ps × (length p ≡ 32)
all_but_last [] p all = (tt, all.0)
all_but_last (x ∷ ps) p all = let r = all_but_last ps p all.1 in ((all.0, r.0), r.1)

-- the half of a leaf under a node
pub record Under (h : List ℕ → List ℕ) (s : Side) (j k : ℕ) (leaf root : List ℕ) (below : List (List ℕ)) (other : List ℕ) : Type 0 where
  pub half : List ℕ
  pub there : root_under h below j k leaf ≡ Some half
  pub node : h (node_of (s, other) half) ≡ root
  pub fits : AreHashes below
  pub sized : length other ≡ 32

pub under : (h : List ℕ → List ℕ) (m n j k : ℕ) (s : Side) (leaf root : List ℕ) (path below : List (List ℕ)) (other : List ℕ) → sides_of m n ≡ sides_of j k ++ s ∷ []
    → path ≡ below ++ other ∷ [] → AreHashes path → root_under h path m n leaf ≡ Some root → Under h s j k leaf root below other
under h m n j k s leaf root path below other sides is fits e =
    let up : option_map (λ r. h (node_of (s, other) r)) (root_under h below j k leaf) ≡ Some root =
    sym (under_step h below other s m n j k leaf sides) ∙ ap (λ (p : List (List ℕ)). root_under h p m n leaf) (sym is) ∙ e in
    let x = mapped (λ r. h (node_of (s, other) r)) (root_under h below j k leaf) root up in
    let f = all_but_last below other (subst AreHashes is fits) in
    record { half = x.0; there = x.1.0; node = x.1.1; fits = f.0; sized = f.1 }

pub is_there : (o : Option (List ℕ)) (x : List ℕ) → o ≡ Some x → IsSome o
is_there o x e = subst IsSome (sym e) refl

-- the bytes of the node above a half
pub bytes_are : (s : Side) (other half bytes : List ℕ) (o : Option (List ℕ)) → o ≡ Some half → Some bytes ≡ option_map (node_of (s, other)) o → bytes ≡ node_of (s, other) half
bytes_are s other half bytes o is e = let one : Some bytes ≡ Some (node_of (s, other) half) = e ∙ ap (option_map (node_of (s, other))) is in cc

module _ (h : List ℕ → List ℕ) (s : Side) (j k : ℕ) (a b root : List ℕ) (p q : List (List ℕ)) (x y first second : List ℕ)
    (u : Under h s j k a root p x) (v : Under h s j k b root q y)
    (first_is : Some first ≡ option_map (node_of (s, x)) (root_under h p j k a)) (second_is : Some second ≡ option_map (node_of (s, y)) (root_under h q j k b)) where
  one : first ≡ node_of (s, x) u.half
  one = bytes_are s x u.half first (root_under h p j k a) u.there first_is

  two : second ≡ node_of (s, y) v.half
  two = bytes_are s y v.half second (root_under h q j k b) v.there second_is

  pub nodes_collide : first ≢ second → Collides h first second
  nodes_collide ne = record { differ = ne; same = ap h one ∙ u.node ∙ sym v.node ∙ sym (ap h two) }

  -- where they are the same bytes, both halves have one root
  pub go_down : ((bytes : List ℕ) → length (h bytes) ≡ 32) → k < 2 ^ 63 → first ≡ second → Sought h j k a p b q
  go_down sized few same =
      let lu = under_sized h sized j k a u.half p u.there in
      let lv = under_sized h sized j k b v.half q v.there in
      let r = halves_of h sized s x y u.half v.half (u.sized ∙ sym v.sized) (lu ∙ sym lv) (sym one ∙ same ∙ two) in
      record {
        few = few;
        first = u.fits;
        second = v.fits;
        roots = record { root = u.half; first = u.there; second = v.there ∙ ap Some (sym r.0) };
      }

pub leaves_collide : (h : List ℕ → List ℕ) (m n : ℕ) (a b first second : List ℕ) (p q : List (List ℕ)) → HaveOneRoot h m n a p b q → n < 2 → a ≢ b → first ≡ 0 ∷ a → second ≡ 0 ∷ b → Collides h first second
leaves_collide h m n a b first second p q one few ne is_first is_second =
    record {
      differ = λ e. ne (behind_first 0 0 a b (sym is_first ∙ e ∙ is_second));
      same = ap h is_first ∙ under_leaf h p m n a one.root few one.first ∙ sym (under_leaf h q m n b one.root few one.second) ∙ sym (ap h is_second);
    }

-- ---- one step of it, from what is kept

module _ (h : List ℕ → List ℕ) (m n j k : ℕ) (s : Side) (a b : List ℕ) (p q below_p below_q : List (List ℕ)) (x y : List ℕ) (sides : sides_of m n ≡ sides_of j k ++ s ∷ [])
    (kept : Sought h m n a p b q) (p_is : p ≡ below_p ++ x ∷ []) (q_is : q ≡ below_q ++ y ∷ []) where
  pub left : Under h s j k a kept.roots.root below_p x
  left = under h m n j k s a kept.roots.root p below_p x sides p_is kept.first kept.roots.first

  pub right : Under h s j k b kept.roots.root below_q y
  right = under h m n j k s b kept.roots.root q below_q y sides q_is kept.second kept.roots.second

  pub left_there : IsSome (root_under h below_p j k a)
  left_there = is_there (root_under h below_p j k a) left.half left.there

  pub right_there : IsSome (root_under h below_q j k b)
  right_there = is_there (root_under h below_q j k b) right.half right.there

  module _ (first second : List ℕ) (first_is : Some first ≡ option_map (node_of (s, x)) (root_under h below_p j k a)) (second_is : Some second ≡ option_map (node_of (s, y)) (root_under h below_q j k b)) where
    pub step_collides : first ≢ second → Collides h first second
    step_collides ne = nodes_collide h s j k a b kept.roots.root below_p below_q x y first second left right first_is second_is ne

    pub step_down : ((bytes : List ℕ) → length (h bytes) ≡ 32) → k < n → first ≡ second → Sought h j k a below_p b below_q
    step_down sized lt same =
        let few = kept.few in
        go_down h s j k a b kept.roots.root below_p below_q x y first second left right first_is second_is sized (omega (arith, few, lt)) same
