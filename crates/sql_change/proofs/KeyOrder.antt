-- A search by halving in the order of keys finds whether a row has a key, and where a new key belongs.
use Rattle.std.proofs.Common.{◌≡◌, ◌<◌, ◌≤◌, ◌+◌, ℕ, zero, suc, refl, sym, ap, subst, ◌∙◌, Bool, true, false, cond, List, [], ◌∷◌, ◌++◌, length, get_or, Some, arith}
use Rattle.std.specs.Prelude.{◌||◌}
use Rattle.std.specs.List.{AllByRecursion, insert, list_any, prefix_len, slice_get}
use Rattle.std.specs.List.Sorted.{IsPartitionedBy, IsPartitionPoint, IsStrictlySortedBy}
use Rattle.std.specs.Ordering.{is_eq, is_lt, ordering_reverse}
use Rattle.std.specs.declared.cmp.Ordering.{Ordering}
use Rattle.std.specs.declared.cmp.Ordering.TheVariants.{Less, Equal, Greater}
use Rattle.std.proofs.lemmas.Bool.{true≢false, or_parts}
use Rattle.std.proofs.lemmas.List.{get_or_append_left, length_push}
use Rattle.std.proofs.lemmas.List.Folds.{list_any-append}
use Rattle.std.proofs.lemmas.List.Sorted.{IsPermutation-insert, list_any-IsPermutation}
use Rattle.std.proofs.lemmas.List.Sums.{prefix_len_is}
use Rattle.std.proofs.lemmas.Option.{slice_get-get_or}
use Rattle.std.proofs.Math.Seq.{get_or-append_seam}
use Rattle.sql_value.specs.declared.column.ColumnDef.{ColumnDef}
use Rattle.spec_model.specs.Rows.{Row}
use Rattle.spec_model.specs.Keys.{Key, key_cmp, key_of, same_key}
use Rattle.sql_parts.proofs.Orders.{key_total}
use Rattle.sql_change.specs.KeyOrder.{is_there, passes, is_below, has_key_of, InKeyOrder}

-- ---- what holds of each

all_follow : {A : Type 0} (P Q : A → Type 0) → ((x : A) → P x → Q x) → (xs : List A) → AllByRecursion P xs → AllByRecursion Q xs
all_follow P Q more [] h = tt
all_follow P Q more (x ∷ xs) h = (more x h.0, all_follow P Q more xs h.1)

all_at : {A : Type 0} (P : A → Type 0) (xs : List A) (k : ℕ) (d : A) → k < length xs → AllByRecursion P xs → P (get_or xs k d)
all_at P [] k d within h = absurd (omega arith)
all_at P (x ∷ xs) zero d within h = h.0
all_at P (x ∷ xs) (suc k) d within h = all_at P xs k d (omega arith) h.1

all_put : {A : Type 0} (P : A → Type 0) (xs : List A) (n : ℕ) (x : A) → P x → AllByRecursion P xs → AllByRecursion P (insert xs n x)
all_put P [] zero x one h = (one, tt)
all_put P [] (suc n) x one h = (one, tt)
all_put P (y ∷ ys) zero x one h = (one, h)
all_put P (y ∷ ys) (suc n) x one h = (h.0, all_put P ys n x one h.1)

any_same : {A : Type 0} (p q : A → Bool) (xs : List A) → AllByRecursion (λ x. p x ≡ q x) xs → list_any p xs ≡ list_any q xs
any_same p q [] h = refl
any_same p q (x ∷ xs) h = λ i. h.0 i || any_same p q xs h.1 i

one_up : (n : ℕ) → 1 + n ≡ suc n
one_up n = omega arith

-- ---- a key among rising keys

module _ (key : ℕ → Key) (k : Key) where
  -- tests that tell how the key at a place stands to k
  record Tells (less same : ℕ → Bool) (p : ℕ) : Type 0 where
    below : less p ≡ is_lt (key_cmp (key p) k)
    equal : same p ≡ is_eq (key_cmp (key p) k)

  abbrev Rising : List ℕ → Type 0
  Rising = IsStrictlySortedBy (λ p q. key_cmp (key p) (key q))

  past : (p q : ℕ) → key_cmp (key p) k ≡ Greater → key_cmp (key p) (key q) ≡ Less → key_cmp (key q) k ≡ Greater
  past p q over up =
      let under : key_cmp k (key p) ≡ Less = key_total.antisymm k (key p) ∙ ap ordering_reverse over in
      key_total.antisymm (key q) k ∙ ap ordering_reverse (key_total.trans k (key p) (key q) under up)

  none_past : (less same : ℕ → Bool) (p : ℕ) (ps : List ℕ) → key_cmp (key p) k ≡ Greater
      → AllByRecursion (λ q. key_cmp (key p) (key q) ≡ Less) ps → AllByRecursion (Tells less same) ps → list_any same ps ≡ false
  none_past less same p [] over up told = refl
  none_past less same p (q ∷ qs) over up told =
      λ i. (told.0.equal ∙ ap is_eq (past p q over up.0)) i || none_past less same p qs over up.1 told.1 i

  found_by : (o : Ordering) (same : ℕ → Bool) (p : ℕ) (ps : List ℕ) (n : ℕ) (rest : Bool) → same p ≡ is_eq o → is_there same (slice_get ps n) ≡ rest → (o ≡ Greater → rest ≡ false)
      → is_there same (slice_get (p ∷ ps) (cond (is_lt o) (1 + n) 0)) ≡ same p || rest
  found_by Less same p ps n rest equal more none = rw (one_up n) (more ∙ sym (ap (λ b. b || rest) equal))
  found_by Equal same p ps n rest equal more none = equal ∙ sym (ap (λ b. b || rest) equal)
  found_by Greater same p ps n rest equal more none = equal ∙ sym (none refl) ∙ sym (ap (λ b. b || rest) equal)

  -- the first key that isn't below k is k, if k is among them
  found_is : (less same : ℕ → Bool) (order : List ℕ) → AllByRecursion (Tells less same) order → Rising order
      → is_there same (slice_get order (prefix_len less order)) ≡ list_any same order
  unfolding IsStrictlySortedBy
  found_is less same [] told up = refl
  found_is less same (p ∷ ps) told up =
      let by : is_there same (slice_get (p ∷ ps) (cond (is_lt (key_cmp (key p) k)) (1 + prefix_len less ps) 0)) ≡ same p || list_any same ps =
      found_by (key_cmp (key p) k) same p ps (prefix_len less ps) (list_any same ps) told.0.equal (found_is less same ps told.1 up.1) (λ over. none_past less same p ps over up.0 told.1) in
      ap (λ b. is_there same (slice_get (p ∷ ps) (cond b (1 + prefix_len less ps) 0))) told.0.below ∙ by

  put_by : (o : Ordering) (p x : ℕ) (ps : List ℕ) (n : ℕ) → key_cmp (key p) (key x) ≡ o → is_eq o ≡ false
      → AllByRecursion (λ q. key_cmp (key p) (key q) ≡ Less) ps → Rising ps → Rising (insert ps n x) → Rising (insert (p ∷ ps) (cond (is_lt o) (1 + n) 0) x)
  unfolding IsStrictlySortedBy
  put_by Less p x ps n is apart later up more = rw (one_up n) (all_put (λ q. key_cmp (key p) (key q) ≡ Less) ps n x is later, more)
  put_by Equal p x ps n is apart later up more = absurd (true≢false apart)
  put_by Greater p x ps n is apart later up more =
      let first : key_cmp (key x) (key p) ≡ Less = key_total.antisymm (key x) (key p) ∙ ap ordering_reverse is in
      ((first, all_follow (λ q. key_cmp (key p) (key q) ≡ Less) (λ q. key_cmp (key x) (key q) ≡ Less) (λ q next. key_total.trans (key x) (key p) (key q) first next) ps later), (later, up))

  -- a new key k keeps the order before the first that isn't below it
  put_is : (less same : ℕ → Bool) (order : List ℕ) (x : ℕ) → key x ≡ k → AllByRecursion (Tells less same) order → Rising order → list_any same order ≡ false
      → Rising (insert order (prefix_len less order) x)
  unfolding IsStrictlySortedBy
  put_is less same [] x is told up none = (tt, tt)
  put_is less same (p ∷ ps) x is told up none =
      let parts = or_parts (same p) (list_any same ps) none in
      let at : Rising (insert (p ∷ ps) (cond (is_lt (key_cmp (key p) k)) (1 + prefix_len less ps) 0) x) =
      put_by (key_cmp (key p) k) p x ps (prefix_len less ps) (ap (key_cmp (key p)) is) (sym told.0.equal ∙ parts.0) up.0 up.1 (put_is less same ps x is told.1 up.1 parts.1) in
      subst (λ b. Rising (insert (p ∷ ps) (cond b (1 + prefix_len less ps) 0) x)) (sym told.0.below) at

  less_is : (o : Ordering) → is_lt o ≡ true → o ≡ Less
  less_is Less is = refl
  less_is Equal is = absurd (true≢false (sym is))
  less_is Greater is = absurd (true≢false (sym is))

  both_below : (less same : ℕ → Bool) (p q : ℕ) → Tells less same p → Tells less same q → key_cmp (key p) (key q) ≡ Less → less q ≡ true → less p ≡ true
  both_below less same p q a b up before =
      a.below ∙ ap is_lt (key_total.trans (key p) (key q) k up (less_is (key_cmp (key q) k) (sym b.below ∙ before)))

  parted : (less same : ℕ → Bool) (order : List ℕ) → AllByRecursion (Tells less same) order → Rising order → IsPartitionedBy less order
  unfolding IsStrictlySortedBy
  parted less same [] told up i j d le within before = absurd (omega arith)
  parted less same (p ∷ ps) told up zero zero d le within before = before
  parted less same (p ∷ ps) told up zero (suc j) d le within before =
      both_below less same p (get_or ps j d) told.0 (all_at (Tells less same) ps j d (omega arith) told.1) (all_at (λ q. key_cmp (key p) (key q) ≡ Less) ps j d (omega arith) up.0) before
  parted less same (p ∷ ps) told up (suc i) zero d le within before = absurd (omega arith)
  parted less same (p ∷ ps) told up (suc i) (suc j) d le within before = parted less same ps told.1 up.1 i j d (omega arith) (omega arith) before

rising_along : (key other : ℕ → Key) (n : ℕ) → ((p : ℕ) → p < n → key p ≡ other p) → (order : List ℕ) → AllByRecursion (λ p. p < n) order
    → IsStrictlySortedBy (λ p q. key_cmp (key p) (key q)) order → IsStrictlySortedBy (λ p q. key_cmp (other p) (other q)) order
unfolding IsStrictlySortedBy
rising_along key other n same [] inside up = tt
rising_along key other n same (p ∷ ps) inside up =
    (later ps inside.1 up.0, rising_along key other n same ps inside.1 up.1)
  where
    later : (qs : List ℕ) → AllByRecursion (λ q. q < n) qs → AllByRecursion (λ q. key_cmp (key p) (key q) ≡ Less) qs → AllByRecursion (λ q. key_cmp (other p) (other q) ≡ Less) qs
    later [] in_them h = tt
    later (q ∷ qs) in_them h = ((λ i. key_cmp (sym (same p inside.0) i) (sym (same q in_them.0) i)) ∙ h.0, later qs in_them.1 h.1)

-- ---- the key of a row among those of rows before it

module _ (columns : List ColumnDef) (rows : List Row) (row : Row) where
  abbrev row_key : ℕ → Key
  row_key p = key_of columns (get_or rows p [])

  abbrev less : ℕ → Bool
  less = passes (is_below columns row) rows

  abbrev same : ℕ → Bool
  same = passes (has_key_of columns row) rows

  tells : (p : ℕ) → p < length rows → Tells row_key (key_of columns row) less same p
  unfolding same_key
  tells p within = record {
    below = ap (is_there (is_below columns row)) (slice_get-get_or rows p [] within);
    equal = ap (is_there (has_key_of columns row)) (slice_get-get_or rows p [] within);
  }

  all_told : (order : List ℕ) → InKeyOrder columns rows order → AllByRecursion (Tells row_key (key_of columns row) less same) order
  all_told order h = all_follow (λ p. p < length rows) (Tells row_key (key_of columns row) less same) tells order h.inside

  pub partitioned : (order : List ℕ) → InKeyOrder columns rows order → IsPartitionedBy less order
  partitioned order h = parted row_key (key_of columns row) less same order (all_told order h) h.rising

  pub place_is : (order : List ℕ) (n : ℕ) → n ≤ length order → IsPartitionPoint (λ p. less p ≡ true) (λ p. less p ≡ false) order n → n ≡ prefix_len less order
  place_is order n within point =
      sym (prefix_len_is less order n 0 within (λ i before. point.0 i 0 (omega arith) before) (λ inside. point.1 n 0 (omega arith) inside))

  -- a row of the key is among them exactly where one stands at its place
  pub among : (order : List ℕ) → InKeyOrder columns rows order → is_there same (slice_get order (prefix_len less order)) ≡ list_any (has_key_of columns row) rows
  among order h = found_is row_key (key_of columns row) less same order (all_told order h) h.rising ∙ h.same (has_key_of columns row)

-- ---- a row more

module _ (columns : List ColumnDef) (rows : List Row) (row : Row) where
  abbrev more : List Row
  more = rows ++ row ∷ []

  still_at : (p : ℕ) → p < length rows → get_or rows p [] ≡ get_or more p []
  still_at p within = sym (get_or_append_left rows (row ∷ []) [] p within)

  within_more : (p : ℕ) → p < length rows → p < length more
  within_more p within = omega (arith, length_push rows row)

  still_there : (p : ℕ) → p < length rows → slice_get rows p ≡ slice_get more p
  still_there p within = slice_get-get_or rows p [] within ∙ ap Some (still_at p within) ∙ sym (slice_get-get_or more p [] (within_more p within))

  last_within : length rows < length more
  last_within = omega (arith, length_push rows row)

  last_there : slice_get more (length rows) ≡ Some row
  last_there = slice_get-get_or more (length rows) [] last_within ∙ ap Some (get_or-append_seam rows row [] [])

  turned : (a b : Bool) → (a || b) ≡ (b || (a || false))
  turned true true = refl
  turned true false = refl
  turned false true = refl
  turned false false = refl

  still_same : (order : List ℕ) (n : ℕ) → InKeyOrder columns rows order → (test : Row → Bool) → list_any (passes test more) (insert order n (length rows)) ≡ list_any test more
  still_same order n h test =
      let those : list_any (passes test rows) order ≡ list_any (passes test more) order =
      any_same (passes test rows) (passes test more) order (all_follow (λ p. p < length rows) (λ p. passes test rows p ≡ passes test more p) (λ p within. ap (is_there test) (still_there p within)) order h.inside) in
      sym (list_any-IsPermutation (passes test more) (length rows ∷ order) (insert order n (length rows)) (IsPermutation-insert order n (length rows)))
      ∙ (λ i. ap (is_there test) last_there i || (sym those ∙ h.same test) i)
      ∙ turned (test row) (list_any test rows)
      ∙ sym (list_any-append test rows (row ∷ []))

  -- a row of a new key, put at its place, keeps the order
  pub one_more_in_order : (order : List ℕ) → InKeyOrder columns rows order → list_any (has_key_of columns row) rows ≡ false
      → InKeyOrder columns more (insert order (prefix_len (less columns rows row) order) (length rows))
  one_more_in_order order h none =
      let k = key_of columns row in
      let key : ℕ → Key = λ p. key_of columns (get_or more p []) in
      let told : AllByRecursion (Tells key k (less columns rows row) (same columns rows row)) order =
      all_follow (λ p. p < length rows) (Tells key k (less columns rows row) (same columns rows row)) (λ p within. told_more p within) order h.inside in
      let up : IsStrictlySortedBy (λ p q. key_cmp (key p) (key q)) order =
      rising_along (row_key columns rows row) key (length rows) (λ p within. ap (key_of columns) (still_at p within)) order h.inside h.rising in
      let n = prefix_len (less columns rows row) order in
      record {
        inside = all_put (λ p. p < length more) order n (length rows) last_within (all_follow (λ p. p < length rows) (λ p. p < length more) within_more order h.inside);
        same = still_same order n h;
        rising = put_is key k (less columns rows row) (same columns rows row) order (length rows) (ap (key_of columns) (get_or-append_seam rows row [] [])) told up (h.same (has_key_of columns row) ∙ none);
      }
    where
      told_more : (p : ℕ) → p < length rows → Tells (λ q. key_of columns (get_or more q [])) (key_of columns row) (less columns rows row) (same columns rows row) p
      told_more p within =
          let was = tells columns rows row p within in
          record {
            below = was.below ∙ ap (λ r. is_lt (key_cmp (key_of columns r) (key_of columns row))) (still_at p within);
            equal = was.equal ∙ ap (λ r. is_eq (key_cmp (key_of columns r) (key_of columns row))) (still_at p within);
          }

  -- the same, of the rows and the places after it was added
  pub added_in_order : (order : List ℕ) (all : List Row) (places : List ℕ) (n : ℕ) (key_is_there : Bool) → InKeyOrder columns rows order → (key_is_there || list_any (has_key_of columns row) rows) ≡ false
      → n ≡ prefix_len (less columns rows row) order → all ≡ more → places ≡ insert order n (length rows) → InKeyOrder columns all places
  added_in_order order all places n key_is_there h none here rows_are places_are =
      let now : places ≡ insert order (prefix_len (less columns rows row) order) (length rows) = places_are ∙ ap (λ m. insert order m (length rows)) here in
      subst (λ l. InKeyOrder columns all l) (sym now)
      (subst (λ l. InKeyOrder columns l (insert order (prefix_len (less columns rows row) order) (length rows))) (sym rows_are)
      (one_more_in_order order h (or_parts key_is_there (list_any (has_key_of columns row) rows) none).1))

-- no rows
pub none_in_order : (columns : List ColumnDef) (rows : List Row) (order : List ℕ) → rows ≡ [] → order ≡ [] → InKeyOrder columns rows order
unfolding IsStrictlySortedBy
none_in_order columns rows order no_rows no_places =
    subst (λ l. InKeyOrder columns rows l) (sym no_places) (subst (λ l. InKeyOrder columns l []) (sym no_rows) empty)
  where
    empty : InKeyOrder columns [] []
    empty = record { inside = tt; same = λ test. refl; rising = tt }
