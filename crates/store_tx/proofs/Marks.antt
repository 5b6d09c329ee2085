-- Marks that are made of trees, and trees that go back to marks.
use Rattle.std.proofs.Common.{◌≡◌, ◌<◌, ◌≤◌, ◌+◌, ℕ, zero, suc, Bool, true, false, List, [], ◌∷◌, ◌++◌, Option, Some, None, length, get_or, slice_set, take, refl, sym, ap, ◌∙◌, subst, arith, length-append}
use Rattle.std.proofs.lemmas.List.{length-take-le, length-set, take_all}
use Rattle.std.proofs.Math.Seq.{take-suc}
use Rattle.std.specs.Prelude.{◌==◌, slice_get, if◌then◌else◌}
use Rattle.base_merkle.specs.declared.frontier.Frontier.{Frontier}
use Rattle.base_merkle.specs.declared.frontier.FrontierMark.{FrontierMark}
use Rattle.base_merkle.specs.Holds.{Holds, Marks}
use Rattle.store_tx.specs.Trees.{tree_of, tables_of, mark_of, IsTree, IsMark}
use Rattle.store_tx.specs.declared.tree.TableTree.{TableTree}

module _ {H : Type 0} (digest : H → List ℕ → List ℕ) where
  -- ---- marks of trees

  abbrev pub AreMarked : List (TableTree H) → List FrontierMark → Type 0
  AreMarked ts ms = (h : H) (id : ℕ) (leaves : List (List ℕ)) → IsTree digest h (tree_of id ts) leaves → IsMark (digest h) (mark_of id (tables_of ts) ms) leaves

  one_marked : (h : H) (id : ℕ) (ts : List (TableTree H)) (ms : List FrontierMark) (t : TableTree H) (m : FrontierMark) (leaves : List (List ℕ))
      → length ms ≡ length ts → (IsTree digest h (tree_of id ts) leaves → IsMark (digest h) (mark_of id (tables_of ts) ms) leaves)
      → (Holds digest h t.frontier leaves → Marks (digest h) m leaves)
      → IsTree digest h (tree_of id (ts ++ t ∷ [])) leaves → IsMark (digest h) (mark_of id (tables_of (ts ++ t ∷ [])) (ms ++ m ∷ [])) leaves
  one_marked h id [] [] t m leaves len so_far marks = by (t.table == id)
    where
      by : (b : Bool) → IsTree digest h (if b then Some t.frontier else None) leaves → IsMark (digest h) (if b then Some m else None) leaves
      by true k = marks k
      by false k = k
  one_marked h id [] (n ∷ ms) t m leaves len so_far marks = absurd (omega (arith, len))
  one_marked h id (u ∷ ts) [] t m leaves len so_far marks = absurd (omega (arith, len))
  one_marked h id (u ∷ ts) (n ∷ ms) t m leaves len so_far marks = by (u.table == id) so_far (λ k. one_marked h id ts ms t m leaves (omega (arith, len)) k marks)
    where
      by : (b : Bool) → (IsTree digest h (if b then Some u.frontier else tree_of id ts) leaves → IsMark (digest h) (if b then Some n else mark_of id (tables_of ts) ms) leaves)
          → ((IsTree digest h (tree_of id ts) leaves → IsMark (digest h) (mark_of id (tables_of ts) ms) leaves) → IsTree digest h (tree_of id (ts ++ t ∷ [])) leaves → IsMark (digest h) (mark_of id (tables_of (ts ++ t ∷ [])) (ms ++ m ∷ [])) leaves)
          → IsTree digest h (if b then Some u.frontier else tree_of id (ts ++ t ∷ [])) leaves → IsMark (digest h) (if b then Some n else mark_of id (tables_of (ts ++ t ∷ [])) (ms ++ m ∷ [])) leaves
      by true so rest k = so k
      by false so rest k = rest so k

  pub marked_more : (ts us : List (TableTree H)) (ms ns : List FrontierMark) (t : TableTree H) (m : FrontierMark) → length ms ≡ length ts
      → us ≡ ts ++ t ∷ [] → ns ≡ ms ++ m ∷ [] → AreMarked ts ms
      → ((h : H) (leaves : List (List ℕ)) → Holds digest h t.frontier leaves → Marks (digest h) m leaves) → AreMarked us ns
  marked_more ts us ms ns t m len more there so_far marks = rw (more, there) (λ h id leaves k. one_marked h id ts ms t m leaves len (so_far h id leaves) (marks h leaves) k)

  pub marks_more : (ts : List (TableTree H)) (i : ℕ) (t : TableTree H) (ms ns : List FrontierMark) (m : FrontierMark) → i < length ts → t ≡ get_or ts i t → length ms ≡ i
      → AreMarked (take i ts) ms → ns ≡ ms ++ m ∷ [] → ((h : H) (leaves : List (List ℕ)) → Holds digest h t.frontier leaves → Marks (digest h) m leaves)
      → (length ns ≡ i + 1) × AreMarked (take (i + 1) ts) ns
  marks_more ts i t ms ns m lt here len so_far there marks =
      let longer = length-append ms (m ∷ []) in
      let taken = length-take-le i ts (omega (arith, lt)) in
      let next : i + 1 ≡ suc i = omega arith in
      let one : take (i + 1) ts ≡ take i ts ++ t ∷ [] = ap (λ n. take n ts) next ∙ take-suc ts i t lt ∙ ap (λ x. take i ts ++ x ∷ []) (sym here) in
      (omega (arith, ap length there, longer, len), marked_more (take i ts) (take (i + 1) ts) ms ns t m (len ∙ sym taken) one there so_far marks)

  pub marks_all : (ts : List (TableTree H)) (i : ℕ) (ms : List FrontierMark) → length ts ≤ i → AreMarked (take i ts) ms → AreMarked ts ms
  marks_all ts i ms le so = subst (λ v. AreMarked v ms) (take_all i ts le) so

  -- ---- trees that go back

  abbrev head_of : List FrontierMark → Option FrontierMark
  head_of [] = None
  head_of (m ∷ ms) = Some m

  abbrev rest_of : List FrontierMark → List FrontierMark
  rest_of [] = []
  rest_of (m ∷ ms) = ms

  -- the tree is back at the mark, or has no leaf where there is none
  pub record IsBack (h : H) (t : TableTree H) (mark : Option FrontierMark) (u : TableTree H) : Type 0 where
    pub table : u.table ≡ t.table
    pub leaves : (leaves before : List (List ℕ)) → Holds digest h t.frontier leaves → IsMark (digest h) mark before → Holds digest h u.frontier before

  -- the first n are back, the others as they were
  abbrev pub AreBack : H → ℕ → List (TableTree H) → List FrontierMark → List (TableTree H) → Type 0
  AreBack h zero ts ms us = us ≡ ts
  AreBack h (suc n) [] ms us = us ≡ []
  AreBack h (suc n) (t ∷ ts) ms [] = ⊥
  AreBack h (suc n) (t ∷ ts) ms (u ∷ us) = IsBack h t (head_of ms) u × AreBack h n ts (rest_of ms) us

  mark_at : (n : ℕ) (ms : List FrontierMark) → slice_get ms (suc n) ≡ slice_get (rest_of ms) n
  mark_at n [] = refl
  mark_at n (m ∷ ms) = refl

  first_mark : (ms : List FrontierMark) → slice_get ms 0 ≡ head_of ms
  first_mark [] = refl
  first_mark (m ∷ ms) = refl

  pub one_back : (h : H) (n : ℕ) (ts : List (TableTree H)) (ms : List FrontierMark) (us : List (TableTree H)) (x y : TableTree H) → AreBack h n ts ms us → n < length us
      → IsBack h (get_or us n x) (slice_get ms n) y → AreBack h (suc n) ts ms (slice_set us n y)
  one_back h zero [] ms [] x y so lt one = absurd (omega (arith, lt))
  one_back h zero [] ms (u ∷ us) x y so lt one = cc
  one_back h zero (t ∷ ts) ms [] x y so lt one = absurd (omega (arith, lt))
  one_back h zero (t ∷ ts) ms (u ∷ us) x y so lt one = (subst (λ v. IsBack h v (head_of ms) y) (head_same so) (subst (λ o. IsBack h u o y) (first_mark ms) one), tail_same so)
    where
      head_same : u ∷ us ≡ t ∷ ts → u ≡ t
      head_same e = cc

      tail_same : u ∷ us ≡ t ∷ ts → us ≡ ts
      tail_same e = cc
  one_back h (suc n) [] ms [] x y so lt one = absurd (omega (arith, lt))
  one_back h (suc n) [] ms (u ∷ us) x y so lt one = cc
  one_back h (suc n) (t ∷ ts) ms [] x y so lt one = absurd (omega (arith, lt))
  one_back h (suc n) (t ∷ ts) ms (u ∷ us) x y so lt one =
      (so.0, one_back h n ts (rest_of ms) us x y so.1 (omega (arith, lt)) (subst (λ o. IsBack h (get_or us n x) o y) (mark_at n ms) one))

  pub step_back : (h : H) (n : ℕ) (ts : List (TableTree H)) (ms : List FrontierMark) (us : List (TableTree H)) (x : TableTree H) (f : Frontier H) (mark : Option FrontierMark)
      → n < length us → x ≡ get_or us n x → mark ≡ slice_get ms n
      → ((leaves before : List (List ℕ)) → Holds digest h x.frontier leaves → IsMark (digest h) mark before → Holds digest h f before)
      → length us ≡ length ts → AreBack h n ts ms us
      → (length (slice_set us n (record { frontier = f; table = x.table })) ≡ length ts) × AreBack h (n + 1) ts ms (slice_set us n (record { frontier = f; table = x.table }))
  step_back h n ts ms us x f mark lt here read back len so =
      let y : TableTree H = record { frontier = f; table = x.table } in
      let one : IsBack h x mark y = record { table = refl; leaves = back } in
      let there : IsBack h (get_or us n x) (slice_get ms n) y = subst (λ o. IsBack h (get_or us n x) o y) read (subst (λ v. IsBack h v mark y) here one) in
      let next : suc n ≡ n + 1 = omega arith in
      (length-set us n y ∙ len, subst (λ k. AreBack h k ts ms (slice_set us n y)) next (one_back h n ts ms us x y so lt there))

  pub back_tables : (h : H) (n : ℕ) (ts : List (TableTree H)) (ms : List FrontierMark) (us : List (TableTree H)) → AreBack h n ts ms us → tables_of us ≡ tables_of ts
  back_tables h zero ts ms us so = ap tables_of so
  back_tables h (suc n) [] ms us so = ap tables_of so
  back_tables h (suc n) (t ∷ ts) ms [] so = absurd so
  back_tables h (suc n) (t ∷ ts) ms (u ∷ us) so = rw (so.0.table, back_tables h n ts (rest_of ms) us so.1) refl

  no_mark : (id : ℕ) (tables : List ℕ) → mark_of id tables [] ≡ None
  no_mark id [] = refl
  no_mark id (t ∷ ts) = refl

  pub back_leaves : (h : H) (n : ℕ) (ts : List (TableTree H)) (ms : List FrontierMark) (us : List (TableTree H)) (id : ℕ) (leaves before : List (List ℕ)) → length ts ≤ n → AreBack h n ts ms us
      → IsTree digest h (tree_of id ts) leaves → IsMark (digest h) (mark_of id (tables_of ts) ms) before → IsTree digest h (tree_of id us) before
  back_leaves h zero [] ms us id leaves before le so k l = subst (λ v. IsTree digest h (tree_of id v) before) (sym so) l
  back_leaves h (suc n) [] ms us id leaves before le so k l = subst (λ v. IsTree digest h (tree_of id v) before) (sym so) l
  back_leaves h zero (t ∷ ts) ms us id leaves before le so k l = absurd (omega (arith, le))
  back_leaves h (suc n) (t ∷ ts) ms [] id leaves before le so k l = absurd so
  back_leaves h (suc n) (t ∷ ts) [] (u ∷ us) id leaves before le so k l =
      subst (λ m. IsTree digest h (if m == id then Some u.frontier else tree_of id us) before) (sym so.0.table)
      (by (t.table == id) k (λ r. back_leaves h n ts [] us id leaves before (omega (arith, le)) so.1 r (subst (λ o. IsMark (digest h) o before) (sym (no_mark id (tables_of ts))) l)))
    where
      by : (b : Bool) → IsTree digest h (if b then Some t.frontier else tree_of id ts) leaves → (IsTree digest h (tree_of id ts) leaves → IsTree digest h (tree_of id us) before)
          → IsTree digest h (if b then Some u.frontier else tree_of id us) before
      by true r rest = so.0.leaves leaves before r l
      by false r rest = rest r
  back_leaves h (suc n) (t ∷ ts) (m ∷ ms) (u ∷ us) id leaves before le so k l =
      subst (λ w. IsTree digest h (if w == id then Some u.frontier else tree_of id us) before) (sym so.0.table)
      (by (t.table == id) k l (λ r q. back_leaves h n ts ms us id leaves before (omega (arith, le)) so.1 r q))
    where
      by : (b : Bool) → IsTree digest h (if b then Some t.frontier else tree_of id ts) leaves → IsMark (digest h) (if b then Some m else mark_of id (tables_of ts) ms) before
          → (IsTree digest h (tree_of id ts) leaves → IsMark (digest h) (mark_of id (tables_of ts) ms) before → IsTree digest h (tree_of id us) before)
          → IsTree digest h (if b then Some u.frontier else tree_of id us) before
      by true r q rest = so.0.leaves leaves before r q
      by false r q rest = rest r q
