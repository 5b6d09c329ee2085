-- Trees found by their table, and one of them changed.
use Rattle.std.proofs.Common.{◌≡◌, ◌≢◌, ◌<◌, ℕ, zero, suc, Bool, true, false, List, [], ◌∷◌, ◌++◌, Option, Some, None, length, get_or, slice_set, refl, sym, ap, ◌∙◌, subst, ⊎_elim, arith}
use Rattle.std.specs.Prelude.{◌==◌, nat_lt, if◌then◌else◌}
use Rattle.std.specs.List.{position, position_or_len}
use Rattle.std.proofs.lemmas.Bool.Decides.{nat_tests}
use Rattle.std.specs.Option.{IsSome, is_none, is_some}
use Rattle.std.proofs.lemmas.Bool.{ne_eqb, eqb-true, eq-eqb, cases_eq}
use Rattle.std.proofs.lemmas.List.Quantifiers.{position-Some}
use Rattle.base_merkle.specs.declared.frontier.Frontier.{Frontier}
use Rattle.base_merkle.specs.Holds.{Holds, MayAddLeaf}
use Rattle.spec_model.specs.Lists.{or_else}
use Rattle.spec_protocol.specs.Lists.{Each}
use Rattle.spec_protocol.specs.Serial.{Differ}
use Rattle.store_tx.specs.Trees.{tree_of, tables_of, IsTree}
use Rattle.store_tx.specs.declared.tree.TableTree.{TableTree}

module _ {H : Type 0} where
  abbrev is_of : ℕ → TableTree H → Bool
  is_of table t = t.table == table

  -- ---- one that is there has a place

  within_all : (table : ℕ) (ts : List (TableTree H)) (f : Frontier H) → tree_of table ts ≡ Some f → position_or_len (is_of table) ts < length ts
  within_all table [] f e = cc
  within_all table (t ∷ ts) f e = by (t.table == table) refl e (within_all table ts f)
    where
      by : (b : Bool) → (t.table == table) ≡ b → (if b then Some t.frontier else tree_of table ts) ≡ Some f
          → (tree_of table ts ≡ Some f → position_or_len (is_of table) ts < length ts) → position_or_len (is_of table) (t ∷ ts) < suc (length ts)
      by true h k rest = rw h (omega arith)
      by false h k rest = let r = rest k in rw h (omega (arith, r))

  pub has_place : (table : ℕ) (ts : List (TableTree H)) (f : Frontier H) → tree_of table ts ≡ Some f → IsSome (position (is_of table) ts)
  has_place table [] f e = cc
  has_place table (t ∷ ts) f e = let l = within_all table (t ∷ ts) f e in let test : nat_lt (position_or_len (is_of table) (t ∷ ts)) (length (t ∷ ts)) ≡ true = grind (arith, nat_tests, l) in rw test refl

  -- ---- the first one is replaced by one of the same table

  -- the first tree of the table stands at this place
  pub record First (table : ℕ) (ts : List (TableTree H)) (i : ℕ) (x : TableTree H) : Type 0 where
    pub within : i < length ts
    pub here : is_of table (get_or ts i x) ≡ true
    pub before : (k : ℕ) → k < i → is_of table (get_or ts k x) ≡ false

  pub first_is : (table : ℕ) (ts : List (TableTree H)) (i : ℕ) (x : TableTree H) → position (is_of table) ts ≡ Some i → First table ts i x
  first_is table ts i x e = let p = position-Some (is_of table) ts i x e in record { within = p.0; here = p.1; before = p.2 }

  rest_first : (table : ℕ) (t : TableTree H) (ts : List (TableTree H)) (i : ℕ) (x : TableTree H) → First table (t ∷ ts) (suc i) x → First table ts i x
  rest_first table t ts i x w = record { within = omega (arith, w.within); here = w.here; before = λ k l. w.before (suc k) (omega arith) }

  pub tree_there : (table : ℕ) (ts : List (TableTree H)) (i : ℕ) (x : TableTree H) → First table ts i x → tree_of table ts ≡ Some (get_or ts i x).frontier
  tree_there table [] i x w = absurd (omega (arith, w.within))
  tree_there table (t ∷ ts) zero x w = rw w.here refl
  tree_there table (t ∷ ts) (suc i) x w = rw (w.before 0 (omega arith)) (tree_there table ts i x (rest_first table t ts i x w))

  pub set_there : (table : ℕ) (ts : List (TableTree H)) (i : ℕ) (x y : TableTree H) → First table ts i x → y.table ≡ (get_or ts i x).table → tree_of table (slice_set ts i y) ≡ Some y.frontier
  set_there table [] i x y w e = absurd (omega (arith, w.within))
  set_there table (t ∷ ts) zero x y w e = rw (e, w.here) refl
  set_there table (t ∷ ts) (suc i) x y w e = rw (w.before 0 (omega arith)) (set_there table ts i x y (rest_first table t ts i x w) e)

  pub set_others : (id : ℕ) (ts : List (TableTree H)) (i : ℕ) (x y : TableTree H) → y.table ≡ (get_or ts i x).table → y.table ≢ id → tree_of id (slice_set ts i y) ≡ tree_of id ts
  set_others id [] i x y e ne = refl
  set_others id (t ∷ ts) zero x y e ne = let no : (t.table == id) ≡ false = ne_eqb t.table id (λ q. ne (e ∙ q)) in let too : (y.table == id) ≡ false = ne_eqb y.table id ne in rw (no, too) refl
  set_others id (t ∷ ts) (suc i) x y e ne = ap (λ (o : Option (Frontier H)). if t.table == id then Some t.frontier else o) (set_others id ts i x y e ne)

  pub set_tables : (ts : List (TableTree H)) (i : ℕ) (x y : TableTree H) → y.table ≡ (get_or ts i x).table → tables_of (slice_set ts i y) ≡ tables_of ts
  set_tables [] i x y e = refl
  set_tables (t ∷ ts) zero x y e = ap (λ n. n ∷ tables_of ts) e
  set_tables (t ∷ ts) (suc i) x y e = ap (λ l. t.table ∷ l) (set_tables ts i x y e)

  -- ---- a leaf in the tree that stands there

  -- the tree is the first of its table, at this place
  pub record FirstAt (table : ℕ) (ts : List (TableTree H)) (i : ℕ) (x : TableTree H) : Type 0 where
    pub first : First table ts i x
    pub is : x ≡ get_or ts i x

  pub pushed_at : (table : ℕ) (ts : List (TableTree H)) (o : Option ℕ) (i : ℕ) (x : TableTree H) → o ≡ position (is_of table) ts → o ≡ Some i → x ≡ get_or ts i x → FirstAt table ts i x
  pushed_at table ts o i x place some is = record { first = first_is table ts i x (sym place ∙ some); is = is }

  found : (table : ℕ) (ts : List (TableTree H)) (i : ℕ) (x : TableTree H) → FirstAt table ts i x → tree_of table ts ≡ Some x.frontier
  found table ts i x w = tree_there table ts i x w.first ∙ ap (λ t. Some t.frontier) (sym w.is)

  pub room_there : (digest : H → List ℕ → List ℕ) (table : ℕ) (ts : List (TableTree H)) (i : ℕ) (x : TableTree H) → FirstAt table ts i x
      → (f : Frontier H) × (tree_of table ts ≡ Some f) × MayAddLeaf digest f → MayAddLeaf digest x.frontier
  room_there digest table ts i x w o =
      let some : Some o.0 ≡ Some x.frontier = sym o.1 ∙ found table ts i x w in
      let same : o.0 ≡ x.frontier = cc in
      subst (λ f. MayAddLeaf digest f) same o.2

  pub pushed_here : (digest : H → List ℕ → List ℕ) (h : H) (table : ℕ) (ts : List (TableTree H)) (i : ℕ) (x : TableTree H) → FirstAt table ts i x → (f : Frontier H) (leaves more : List (List ℕ))
      → (Holds digest h x.frontier leaves → Holds digest h f more) → IsTree digest h (tree_of table ts) leaves
      → IsTree digest h (tree_of table (slice_set ts i (record { frontier = f; table = x.table }))) more
  pushed_here digest h table ts i x w f leaves more push k =
      subst (λ o. IsTree digest h o more) (sym (set_there table ts i x (record { frontier = f; table = x.table }) w.first (ap (λ t. t.table) w.is)))
      (push (subst (λ o. IsTree digest h o leaves) (found table ts i x w) k))

  pub pushed_open : (table : ℕ) (ts : List (TableTree H)) (i : ℕ) (x : TableTree H) → FirstAt table ts i x → (f : Frontier H)
      → (g : Frontier H) × (tree_of table (slice_set ts i (record { frontier = f; table = x.table })) ≡ Some g)
  pushed_open table ts i x w f = (f, set_there table ts i x (record { frontier = f; table = x.table }) w.first (ap (λ t. t.table) w.is))

  pub pushed_elsewhere : (id table : ℕ) (ts : List (TableTree H)) (i : ℕ) (x : TableTree H) → FirstAt table ts i x → (f : Frontier H) → id ≢ table
      → tree_of id (slice_set ts i (record { frontier = f; table = x.table })) ≡ tree_of id ts
  pushed_elsewhere id table ts i x w f ne =
      let is : x.table ≡ table = ap (λ t. t.table) w.is ∙ eqb-true (get_or ts i x).table table w.first.here in
      set_others id ts i x (record { frontier = f; table = x.table }) (ap (λ t. t.table) w.is) (λ e. ne (sym e ∙ is))

  pub there_at_all : (table : ℕ) (ts : List (TableTree H)) (o : Option ℕ) → position (is_of table) ts ≡ o → is_none o ≡ false → (f : Frontier H) × (tree_of table ts ≡ Some f)
  there_at_all table [] None e never = cc
  there_at_all table [] (Some i) e never = cc
  there_at_all table (t ∷ ts) None e never = cc
  there_at_all table (t ∷ ts) (Some i) e never = ((get_or (t ∷ ts) i t).frontier, tree_there table (t ∷ ts) i t (first_is table (t ∷ ts) i t e))

  -- ---- one comes behind the others

  tree_pushed : (id : ℕ) (ts : List (TableTree H)) (t : TableTree H) → tree_of id (ts ++ t ∷ []) ≡ or_else (tree_of id ts) (tree_of id (t ∷ []))
  tree_pushed id [] t = refl
  tree_pushed id (u ∷ ts) t = by (u.table == id) (tree_pushed id ts t)
    where
      by : (b : Bool) → tree_of id (ts ++ t ∷ []) ≡ or_else (tree_of id ts) (tree_of id (t ∷ []))
          → (if b then Some u.frontier else tree_of id (ts ++ t ∷ [])) ≡ or_else (if b then Some u.frontier else tree_of id ts) (tree_of id (t ∷ []))
      by true e = refl
      by false e = e

  pub still_there : (id : ℕ) (ts us : List (TableTree H)) (t : TableTree H) (f : Frontier H) → us ≡ ts ++ t ∷ [] → tree_of id ts ≡ Some f → tree_of id us ≡ Some f
  still_there id ts us t f is e = ap (tree_of id) is ∙ tree_pushed id ts t ∙ ap (λ o. or_else o (tree_of id (t ∷ []))) e

  pub now_there : (ts us : List (TableTree H)) (t : TableTree H) → us ≡ ts ++ t ∷ [] → (f : Frontier H) × (tree_of t.table us ≡ Some f)
  now_there ts us t is = by (tree_of t.table ts) refl
    where
      new : tree_of t.table (t ∷ []) ≡ Some t.frontier
      new = rw (eq-eqb t.table t.table refl) refl

      by : (o : Option (Frontier H)) → tree_of t.table ts ≡ o → (f : Frontier H) × (tree_of t.table us ≡ Some f)
      by None e = (t.frontier, ap (tree_of t.table) is ∙ tree_pushed t.table ts t ∙ ap (λ o. or_else o (tree_of t.table (t ∷ []))) e ∙ new)
      by (Some f) e = (f, still_there t.table ts us t f is e)

  pub more_tables : (ts us : List (TableTree H)) (t : TableTree H) → us ≡ ts ++ t ∷ [] → tables_of us ≡ tables_of ts ++ t.table ∷ []
  more_tables ts us t is = ap tables_of is ∙ all ts
    where
      all : (ts : List (TableTree H)) → tables_of (ts ++ t ∷ []) ≡ tables_of ts ++ t.table ∷ []
      all [] = refl
      all (u ∷ ts) = ap (λ l. u.table ∷ l) (all ts)

  pub leaves_same : (digest : H → List ℕ → List ℕ) (h : H) (id : ℕ) (ts us : List (TableTree H)) (t : TableTree H) (leaves : List (List ℕ)) → us ≡ ts ++ t ∷ []
      → Holds digest h t.frontier [] → IsTree digest h (tree_of id ts) leaves → IsTree digest h (tree_of id us) leaves
  leaves_same digest h id ts us t leaves is new k = subst (λ o. IsTree digest h o leaves) (sym (ap (tree_of id) is ∙ tree_pushed id ts t)) (by (tree_of id ts) k)
    where
      empty : (b : Bool) → leaves ≡ [] → IsTree digest h (if b then Some t.frontier else None) leaves
      empty true e = subst (λ l. Holds digest h t.frontier l) (sym e) new
      empty false e = e

      by : (o : Option (Frontier H)) → IsTree digest h o leaves → IsTree digest h (or_else o (tree_of id (t ∷ []))) leaves
      by None e = empty (t.table == id) e
      by (Some f) e = e

  -- ---- open trees

  pub open_by_tables : (id : ℕ) (ts us : List (TableTree H)) (f : Frontier H) → tables_of us ≡ tables_of ts → tree_of id ts ≡ Some f → (g : Frontier H) × (tree_of id us ≡ Some g)
  open_by_tables id [] us f e k = cc
  open_by_tables id (t ∷ ts) [] f e k = cc
  open_by_tables id (t ∷ ts) (u ∷ us) f e k =
      let head : u.table ≡ t.table = cc in
      let rest : tables_of us ≡ tables_of ts = cc in
      subst (λ n. (g : Frontier H) × ((if n == id then Some u.frontier else tree_of id us) ≡ Some g)) (sym head) (by (t.table == id) k (open_by_tables id ts us f rest))
    where
      by : (b : Bool) → (if b then Some t.frontier else tree_of id ts) ≡ Some f → (tree_of id ts ≡ Some f → (g : Frontier H) × (tree_of id us ≡ Some g))
          → (g : Frontier H) × ((if b then Some u.frontier else tree_of id us) ≡ Some g)
      by true k rest = (u.frontier, refl)
      by false k rest = rest k

  pub still_open : (id table : ℕ) (ts us : List (TableTree H)) (f g : Frontier H) → tree_of id ts ≡ Some f → tree_of table us ≡ Some g
      → (id ≢ table → tree_of id us ≡ tree_of id ts) → (k : Frontier H) × (tree_of id us ≡ Some k)
  still_open id table ts us f g old here others = ⊎_elim
      (λ (e : id ≡ table). (g, ap (λ n. tree_of n us) e ∙ here))
      (λ (ne : id ≢ table). (f, others ne ∙ old))
      (cases_eq id table)

  -- ---- their tables differ

  pub not_there : (table : ℕ) (ts : List (TableTree H)) (o : Option ℕ) → o ≡ position (is_of table) ts → is_none o ≡ true → tree_of table ts ≡ None
  not_there table ts o e none = by (tree_of table ts) refl
    where
      never : (p : Option ℕ) → p ≡ o → is_some p ≡ true → is_none o ≡ true → ⊥
      never None q s n = cc
      never (Some i) q s n = cc

      by : (t : Option (Frontier H)) → tree_of table ts ≡ t → tree_of table ts ≡ None
      by None q = q
      by (Some f) q = absurd (never (position (is_of table) ts) (sym e) (has_place table ts f q) none)

  each_pushed : (P : ℕ → Type 0) (ts : List (TableTree H)) (t : TableTree H) → Each P (tables_of ts) → P t.table → Each P (tables_of (ts ++ t ∷ []))
  each_pushed P [] t e p = (p, tt)
  each_pushed P (u ∷ ts) t e p = (e.0, each_pushed P ts t e.1 p)

  one_differs : (ts : List (TableTree H)) (t : TableTree H) → tree_of t.table ts ≡ None → Differ (tables_of ts) → Differ (tables_of (ts ++ t ∷ []))
  one_differs [] t none d = (tt, tt)
  one_differs (u ∷ ts) t none d = by (u.table == t.table) refl none (λ k. one_differs ts t k d.1)
    where
      by : (b : Bool) → (u.table == t.table) ≡ b → (if b then Some u.frontier else tree_of t.table ts) ≡ None
          → (tree_of t.table ts ≡ None → Differ (tables_of (ts ++ t ∷ []))) → Differ (u.table ∷ tables_of (ts ++ t ∷ []))
      by true e k rest = cc
      by false e k rest = (each_pushed (λ n. u.table ≢ n) ts t d.0 (λ q. let yes : (u.table == t.table) ≡ true = eq-eqb u.table t.table q in let never : true ≡ false = sym yes ∙ e in cc), rest k)

  pub differ_pushed : (ts us : List (TableTree H)) (t : TableTree H) → us ≡ ts ++ t ∷ [] → tree_of t.table ts ≡ None → Differ (tables_of ts) → Differ (tables_of us)
  differ_pushed ts us t is none d = subst (λ v. Differ (tables_of v)) (sym is) (one_differs ts t none d)
