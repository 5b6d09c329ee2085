-- The roots of an entry of an image without faults are those of its transaction.
use Rattle.std.proofs.Common.{◌≡◌, ◌≢◌, ◌≤◌, ◌<◌, ◌+◌, ℕ, Bool, true, false, cond, nat_lt, List, [], ◌∷◌, ◌++◌, map, filter, Option, Some, None, refl, arith, sym, ◌∙◌, ap, subst, inl, inr}
use Rattle.std.specs.Prelude.{◌==◌, not}
use Rattle.std.specs.List.{AllByRecursion}
use Rattle.std.specs.Ordering.{nat_cmp, is_gt}
use Rattle.std.proofs.lemmas.Bool.{eqb-true, eqb-false, eq-eqb, ne_eqb, lt-ltb, ltb-true, ltb-false, cases_Bool}
use Rattle.std.proofs.lemmas.Slice.Eq.{bytes_eq-Decides}
use Rattle.sql_types.specs.declared.entry.TxEntry.{TxEntry}
use Rattle.sql_types.specs.declared.event.Event.{Event}
use Rattle.sql_types.specs.declared.image.Image.{Image}
use Rattle.sql_types.specs.declared.image.TableRows.{TableRows}
use Rattle.format_entry.specs.Entry.{rise_above, tables_rise}
use Rattle.spec_model.specs.Catalog.{Defs, Tables}
use Rattle.spec_model.specs.Events.{all_events}
use Rattle.spec_model.specs.SystemTables.{tables_def, columns_def}
use Rattle.spec_ledger.specs.Entries.{has_events, root_in, roots_of}
use Rattle.format_image.specs.DefBytes.{ids_rise}
use Rattle.format_image.specs.ImageBytes.{IsImage, IsPlaceless}
use Rattle.format_image.specs.Tables.{tables_in, tables_with}
use Rattle.spec_verify.specs.Least.{least, least_from}
use Rattle.spec_verify.specs.First.{unless, first_from}
use Rattle.spec_verify.specs.Entries.{TableRoot, are_numbered, root_at, same_root, other_roots, root_place, entry_fault, root_fault}
use Rattle.spec_verify.specs.declared.place.Place.TheVariants as at
use Rattle.spec_verify.proofs.EncodedSo.{all_rest as all_back, all_front}
use Rattle.audit_extract.proofs.Heads.{none_both, both_true}

-- ---- the tables of an image stand by rising id

abbrev pub Above : ℕ → Tables → Type 0
Above n [] = Unit {0}
Above n (t ∷ ts) = (n < t.def.id) × Above t.def.id ts

users_above : (n : ℕ) (defs : Defs) (rows : List TableRows) → ids_rise n defs ≡ true → Above n (tables_with defs rows)
users_above n [] rows e = tt
users_above n (d ∷ ds) [] e = tt
users_above n (d ∷ ds) (r ∷ rs) e =
    let b = both_true (nat_lt n d.id) (ids_rise d.id ds) e in
    (ltb-true n d.id b.0, users_above d.id ds rs b.1)

pub tables_above : (defs : Defs) (rows : List TableRows) → ids_rise 2 defs ≡ true → Above 0 (tables_with (tables_def ∷ columns_def ∷ defs) rows)
tables_above defs [] e = tt
tables_above defs (r ∷ []) e = (omega arith, tt)
tables_above defs (r ∷ s ∷ rs) e = (omega arith, (omega arith, users_above 2 defs rs e))

-- ---- roots by rising table

-- the first apart, they rise above the one before
abbrev Rise : List TableRoot → Type 0
Rise [] = Unit {0}
Rise (r ∷ rs) = rise_above r.0 rs ≡ true

rise_on : (n : ℕ) (rs : List TableRoot) → rise_above n rs ≡ true → Rise rs
rise_on n [] e = tt
rise_on n (r ∷ rs) e = (both_true (nat_lt n r.0) (rise_above r.0 rs) e).1

entry_rises : (rs : List TableRoot) → tables_rise rs ≡ true → Rise rs
entry_rises [] e = tt
entry_rises (r ∷ rs) e = e

rise_lower : (m n : ℕ) (rs : List TableRoot) → m ≤ n → rise_above n rs ≡ true → rise_above m rs ≡ true
rise_lower m n [] le e = refl
rise_lower m n (r ∷ rs) le e =
    let b = both_true (nat_lt n r.0) (rise_above r.0 rs) e in
    let lt : n < r.0 = ltb-true n r.0 b.0 in
    let low : nat_lt m r.0 ≡ true = lt-ltb m r.0 (omega arith) in
    rw (low, b.1) refl

roots_above : (h : List ℕ → List ℕ) (tx n : ℕ) (ts : Tables) → Above n ts → rise_above n (map (root_in h tx) (filter (has_events tx) ts)) ≡ true
roots_above h tx n [] above = refl
roots_above h tx n (t ∷ ts) above = by above.0 (roots_above h tx t.def.id ts above.1) (has_events tx t)
  where
    by : n < t.def.id → rise_above t.def.id (map (root_in h tx) (filter (has_events tx) ts)) ≡ true → (b : Bool) → rise_above n (map (root_in h tx) (cond b (t ∷ filter (has_events tx) ts) (filter (has_events tx) ts))) ≡ true
    by lt rest true = rw (lt-ltb n t.def.id lt, rest) refl
    by lt rest false = rise_lower n t.def.id (map (root_in h tx) (filter (has_events tx) ts)) (omega arith) rest

-- nothing is at or below what they rise above
none_below : (n k : ℕ) (rs : List TableRoot) → k ≤ n → rise_above n rs ≡ true → root_at rs k ≡ None
none_below n k [] le e = refl
none_below n k (r ∷ rs) le e =
    let b = both_true (nat_lt n r.0) (rise_above r.0 rs) e in
    let lt : n < r.0 = ltb-true n r.0 b.0 in
    let ne : (r.0 == k) ≡ false = ne_eqb r.0 k (λ i. absurd (omega (arith, lt, i))) in
    rw ne (none_below r.0 k rs (omega arith) b.1)

at_first : (r : TableRoot) (rs : List TableRoot) → root_at (r ∷ rs) r.0 ≡ Some r.1
at_first r rs = rw (eq-eqb r.0 r.0 refl) refl

at_later : (r : TableRoot) (rs : List TableRoot) (k : ℕ) → k ≢ r.0 → root_at (r ∷ rs) k ≡ root_at rs k
at_later r rs k ne = rw (ne_eqb r.0 k (λ e. ne (sym e))) refl

some_is : {A : Type 0} (x y : A) → Some x ≡ Some y → x ≡ y
some_is x y e = cc

-- two lists by rising table in which each table has the same root are one
one_list : (a b : List TableRoot) → Rise a → Rise b → ((k : ℕ) → root_at a k ≡ root_at b k) → a ≡ b
one_list [] [] ra rb same = refl
one_list [] (y ∷ b) ra rb same = let e = same y.0 ∙ at_first y b in absurd cc
one_list (x ∷ a) [] ra rb same = let e = sym (at_first x a) ∙ same x.0 in absurd cc
one_list (x ∷ a) (y ∷ b) ra rb same =
    by (nat_lt x.0 y.0) refl (nat_lt y.0 x.0) refl (λ head. one_list a b (rise_on x.0 a ra) (rise_on y.0 b rb) (tails head))
  where
    tails : x.0 ≡ y.0 → (k : ℕ) → root_at a k ≡ root_at b k
    tails head k = elim (cases_Bool (k == x.0)) [
      | inl own ↦
          let is : k ≡ x.0 = eqb-true k x.0 own in
          none_below x.0 k a (omega arith) ra ∙ sym (none_below y.0 k b (omega arith) rb)
      | inr other ↦
          let ne : k ≢ x.0 = eqb-false k x.0 other in
          sym (at_later x a k ne) ∙ same k ∙ at_later y b k (λ e. ne (e ∙ sym head))
    ]

    by : (p : Bool) → nat_lt x.0 y.0 ≡ p → (q : Bool) → nat_lt y.0 x.0 ≡ q → (x.0 ≡ y.0 → a ≡ b) → x ∷ a ≡ y ∷ b
    by true less q f rest =
        let lt : x.0 < y.0 = ltb-true x.0 y.0 less in
        let gone : root_at (y ∷ b) x.0 ≡ None = at_later y b x.0 (λ e. absurd (omega (arith, lt, e))) ∙ none_below y.0 x.0 b (omega arith) rb in
        let e = sym (at_first x a) ∙ same x.0 ∙ gone in absurd cc
    by false more true less rest =
        let lt : y.0 < x.0 = ltb-true y.0 x.0 less in
        let gone : root_at (x ∷ a) y.0 ≡ None = at_later x a y.0 (λ e. absurd (omega (arith, lt, e))) ∙ none_below x.0 y.0 a (omega arith) ra in
        let e = sym (at_first y b) ∙ sym (same y.0) ∙ gone in absurd cc
    by false more false less rest =
        let one = ltb-false x.0 y.0 more in
        let two = ltb-false y.0 x.0 less in
        let head : x.0 ≡ y.0 = omega arith in
        let root : Some x.1 ≡ Some y.1 = sym (at_first x a) ∙ same x.0 ∙ ap (root_at (y ∷ b)) head ∙ at_first y b in
        let front : x ≡ y = ap (λ (n : ℕ). (n, x.1)) head ∙ ap (λ (r : List ℕ). (y.0, r)) (some_is x.1 y.1 root) in
        ap (λ (z : TableRoot). z ∷ a) front ∙ ap (λ (l : List TableRoot). y ∷ l) (rest head)

-- ---- no root is at fault

some_least : (best : ℕ) (xs : List ℕ) → least_from nat_cmp (Some best) xs ≢ None
some_least best [] = λ e. absurd cc
some_least best (x ∷ xs) = by (is_gt (nat_cmp best x)) (some_least x xs) (some_least best xs)
  where
    by : (b : Bool) → least_from nat_cmp (Some x) xs ≢ None → least_from nat_cmp (Some best) xs ≢ None → least_from nat_cmp (cond b (Some x) (Some best)) xs ≢ None
    by true it other = it
    by false it other = other

no_least : (xs : List ℕ) → least nat_cmp xs ≡ None → xs ≡ []
no_least [] e = refl
no_least (x ∷ xs) e = absurd (some_least x xs e)

no_place : (tx : ℕ) (o : Option ℕ) → root_place tx o ≡ None → o ≡ None
no_place tx None e = refl
no_place tx (Some t) e = absurd cc

none_kept : (p : ℕ → Bool) (xs : List ℕ) → filter p xs ≡ [] → AllByRecursion (λ x. p x ≡ false) xs
none_kept p [] e = tt
none_kept p (x ∷ xs) e = by (p x) refl (none_kept p xs) e
  where
    by : (b : Bool) → p x ≡ b → (filter p xs ≡ [] → AllByRecursion (λ y. p y ≡ false) xs) → cond b (x ∷ filter p xs) (filter p xs) ≡ [] → AllByRecursion (λ y. p y ≡ false) (x ∷ xs)
    by true f rest g = absurd cc
    by false f rest g = (f, rest g)

listed : (P : ℕ → Type 0) (rs : List TableRoot) (k : ℕ) (r : List ℕ) → AllByRecursion P (map (λ r. r.0) rs) → root_at rs k ≡ Some r → P k
listed P [] k r all e = absurd cc
listed P (x ∷ rs) k r all e = elim (cases_Bool (x.0 == k)) [
  | inl own ↦ subst P (eqb-true x.0 k own) all.0
  | inr other ↦ listed P rs k r all.1 (let g : root_at (x ∷ rs) k ≡ root_at rs k = rw other refl in sym g ∙ e)
]

not_false : (b : Bool) → not b ≡ false → b ≡ true
not_false true e = refl
not_false false e = cc

same_roots : (o p : Option (List ℕ)) → same_root o p ≡ true → o ≡ p
same_roots None None e = refl
same_roots None (Some y) e = cc
same_roots (Some x) None e = cc
same_roots (Some x) (Some y) e = ap (λ (r : List ℕ). Some r) ((bytes_eq-Decides x y).0 e)

at_each : (a b : List TableRoot) → other_roots a b ≡ [] → (k : ℕ) → root_at a k ≡ root_at b k
at_each a b e k = by (root_at a k) refl (root_at b k) refl
  where
    Passes : ℕ → Type 0
    Passes t = not (same_root (root_at a t) (root_at b t)) ≡ false

    all : AllByRecursion (λ t. not (same_root (root_at a t) (root_at b t)) ≡ false) (map (λ r. r.0) a ++ map (λ r. r.0) b)
    all = none_kept (λ t. not (same_root (root_at a t) (root_at b t))) (map (λ r. r.0) a ++ map (λ r. r.0) b) e

    agree : not (same_root (root_at a k) (root_at b k)) ≡ false → root_at a k ≡ root_at b k
    agree f = same_roots (root_at a k) (root_at b k) (not_false (same_root (root_at a k) (root_at b k)) f)

    by : (o : Option (List ℕ)) → root_at a k ≡ o → (p : Option (List ℕ)) → root_at b k ≡ p → root_at a k ≡ root_at b k
    by (Some x) f p g = agree (listed (λ t. not (same_root (root_at a t) (root_at b t)) ≡ false) a k x (all_front (λ t. not (same_root (root_at a t) (root_at b t)) ≡ false) (map (λ r. r.0) a) (map (λ r. r.0) b) all) f)
    by None f (Some y) g = agree (listed (λ t. not (same_root (root_at a t) (root_at b t)) ≡ false) b k y (all_back (λ t. not (same_root (root_at a t) (root_at b t)) ≡ false) (map (λ r. r.0) a) (map (λ r. r.0) b) all) g)
    by None f None g = f ∙ sym g

-- ---- the roots of each entry

module _ (h : List ℕ → List ℕ) (i : Image) (is : IsImage i) (roots : root_fault h i ≡ None) where
  above : Above 0 (tables_in i)
  above = tables_above i.defs i.tables is.ids

  one_entry : (e : TxEntry) → IsPlaceless e → entry_fault h i e ≡ None → e.roots ≡ roots_of h e.id (tables_in i)
  unfolding roots_of
  one_entry e fits none =
      let found = no_place e.id (least nat_cmp (other_roots e.roots (roots_of h e.id (tables_in i))))
      (none_both (unless (are_numbered (map (λ (x : Event). x.seq) (all_events e.id (tables_in i)))) (at.Numbers e.id))
      (root_place e.id (least nat_cmp (other_roots e.roots (roots_of h e.id (tables_in i))))) none).1 in
      one_list e.roots (roots_of h e.id (tables_in i)) (entry_rises e.roots fits.rise) (rise_on 0 (roots_of h e.id (tables_in i)) (roots_above h e.id 0 (tables_in i) above))
      (at_each e.roots (roots_of h e.id (tables_in i)) (no_least (other_roots e.roots (roots_of h e.id (tables_in i))) found))

  each_entry : (n : ℕ) (es : List TxEntry) → AllByRecursion IsPlaceless es → first_from (λ (k : ℕ) (e : TxEntry). entry_fault h i e) n es ≡ None
      → AllByRecursion (λ e. e.roots ≡ roots_of h e.id (tables_in i)) es
  each_entry n [] fits none = tt
  each_entry n (e ∷ es) fits none =
      let b = none_both (entry_fault h i e) (first_from (λ (k : ℕ) (e : TxEntry). entry_fault h i e) (n + 1) es) none in
      (one_entry e fits.0 b.0, each_entry (n + 1) es fits.1 b.1)

  pub all_rooted : AllByRecursion (λ e. e.roots ≡ roots_of h e.id (tables_in i)) i.entries
  unfolding root_fault
  all_rooted = each_entry 0 i.entries is.entries roots
