-- The earlier elements of a key, in a list and in that list sorted by key and start: where it is sorted they stand just
-- before it.
use Rattle.std.proofs.Common.{◌≡◌, refl, sym, ap, ap₂, ◌∙◌, Bool, true, false, cond, List, [], ◌∷◌, ◌++◌, Option, Some, None}
use Rattle.std.proofs.lemmas.Bool.{true≢false}
use Rattle.std.proofs.lemmas.List.Elements.{filter-append}
use Rattle.std.specs.Prelude.{◌&&◌, ◌||◌}
use Rattle.std.specs.List.{AllByRecursion, list_any}
use Rattle.std.specs.Cmp.{IsTotalOrder, tied_itself}
use Rattle.std.specs.declared.cmp.Ordering.{Ordering}
use Rattle.std.specs.declared.cmp.Ordering.TheVariants.{Less, Equal, Greater}
use Rattle.std.specs.Ordering.{is_eq, is_gt, is_lt, ordering_reverse, ordering_then}
use Rattle.spec_model.specs.Lists.{sorted}
use Rattle.audit_columns.specs.Runs as runs
use Rattle.audit_columns.proofs.Folds.{sorted_is}

is_equal : (r : Ordering) → is_eq r ≡ true → r ≡ Equal
is_equal Less e = cc
is_equal Equal e = refl
is_equal Greater e = cc

is_less : (r : Ordering) → is_lt r ≡ true → r ≡ Less
is_less Less e = refl
is_less Equal e = cc
is_less Greater e = cc

is_greater : (r : Ordering) → is_gt r ≡ true → r ≡ Greater
is_greater Less e = cc
is_greater Equal e = cc
is_greater Greater e = refl

both : (a b : Bool) → a && b ≡ true → (a ≡ true) × (b ≡ true)
both true true e = (refl, refl)
both true false e = cc
both false b e = cc

module _ {A : Type 0} (by_key by_start : A → A → Ordering) (keys : IsTotalOrder by_key) (starts : IsTotalOrder by_start) where
  abbrev cmp : A → A → Ordering
  cmp = runs.run_cmp by_key by_start

  abbrev precedes : A → A → Bool
  precedes = runs.precedes by_key by_start

  abbrev earlier : A → List A → List A
  earlier = runs.earlier by_key by_start

  abbrev later_of : A → Option A → Option A
  later_of = runs.later_of by_key by_start

  abbrev latest : List A → Option A
  latest = runs.latest by_key by_start

  -- ---- orders

  key_of : (w v : A) → precedes w v ≡ true → by_key w v ≡ Equal
  key_of w v p = is_equal _ (both _ _ p).0

  less_of : (w v : A) → precedes w v ≡ true → by_start w v ≡ Less
  less_of w v p = is_less _ (both _ _ p).1

  it_precedes : (w v : A) → by_key w v ≡ Equal → by_start w v ≡ Less → precedes w v ≡ true
  it_precedes w v k s = rw (k, s) refl

  key_back : (x y : A) → by_key x y ≡ Equal → by_key y x ≡ Equal
  key_back x y e = keys.antisymm y x ∙ ap ordering_reverse e

  -- x and y have v's key, so one key
  one_key : (x y v : A) → by_key x v ≡ Equal → by_key y v ≡ Equal → by_key x y ≡ Equal
  one_key x y v e f = keys.congr x v y e ∙ key_back y v f

  -- of one key the order is that of the starts
  by_starts : (x y : A) → by_key x y ≡ Equal → cmp x y ≡ by_start x y
  by_starts x y e = ap (λ r. ordering_then r (by_start x y)) e

  back_less : (x y : A) → by_start x y ≡ Greater → by_start y x ≡ Less
  back_less x y e = starts.antisymm y x ∙ ap ordering_reverse e

  -- ---- sorting keeps the latest of the earlier ones

  abbrev step : A → A → Option A → Option A
  step v x m = cond (precedes x v) (later_of x m) m

  one_more : (v x : A) (xs : List A) → latest (earlier v (x ∷ xs)) ≡ step v x (latest (earlier v xs))
  one_more v x xs = here (precedes x v)
    where
      here : (b : Bool) → latest (cond b (x ∷ earlier v xs) (earlier v xs)) ≡ cond b (later_of x (latest (earlier v xs))) (latest (earlier v xs))
      here true = refl
      here false = refl

  -- y starts before x
  later_twice : (x y : A) (m : Option A) → by_start y x ≡ Less → later_of y (later_of x m) ≡ later_of x (later_of y m)
  later_twice x y None less =
      let no : is_lt (by_start x y) ≡ false = ap is_lt (starts.antisymm x y ∙ ap ordering_reverse less) in
      let yes : is_lt (by_start y x) ≡ true = ap is_lt less in
      rw (no, yes) refl
  later_twice x y (Some w) less = here (is_lt (by_start w x)) refl (is_lt (by_start w y)) refl
    where
      no : is_lt (by_start x y) ≡ false
      no = ap is_lt (starts.antisymm x y ∙ ap ordering_reverse less)

      yes : is_lt (by_start y x) ≡ true
      yes = ap is_lt less

      here : (a : Bool) → is_lt (by_start w x) ≡ a → (b : Bool) → is_lt (by_start w y) ≡ b → later_of y (later_of x (Some w)) ≡ later_of x (later_of y (Some w))
      here true e true f = rw (e, f, no, yes) refl
      here true e false f = rw (e, f, no) (rw e refl)
      here false e true f =
          let on : by_start w x ≡ Less = starts.trans w y x (is_less _ f) less in
          absurd (true≢false (sym (ap is_lt on) ∙ e))
      here false e false f = rw (e, f, e) refl

  exchange : (v x y : A) (m : Option A) → is_gt (cmp x y) ≡ true → step v y (step v x m) ≡ step v x (step v y m)
  exchange v x y m gt = here (precedes x v) refl (precedes y v) refl
    where
      here : (a : Bool) → precedes x v ≡ a → (b : Bool) → precedes y v ≡ b
          → cond b (later_of y (cond a (later_of x m) m)) (cond a (later_of x m) m) ≡ cond a (later_of x (cond b (later_of y m) m)) (cond b (later_of y m) m)
      here false e b f = refl
      here true e false f = refl
      here true e true f =
          let key = one_key x y v (key_of x v e) (key_of y v f) in
          later_twice x y m (back_less x y (sym (by_starts x y key) ∙ is_greater _ gt))

  pub latest_sorted : (v : A) (xs : List A) → latest (earlier v (sorted cmp xs)) ≡ latest (earlier v xs)
  latest_sorted v xs = sorted_is cmp (step v) (λ l. latest (earlier v l)) (one_more v) (exchange v) xs

  abbrev any_step : (A → Bool) → A → A → Bool → Bool
  any_step p v x b = (precedes x v && p x) || b

  one_any : (p : A → Bool) (v x : A) (xs : List A) → list_any p (earlier v (x ∷ xs)) ≡ any_step p v x (list_any p (earlier v xs))
  one_any p v x xs = here (precedes x v)
    where
      here : (b : Bool) → list_any p (cond b (x ∷ earlier v xs) (earlier v xs)) ≡ ((b && p x) || list_any p (earlier v xs))
      here true = refl
      here false = refl

  or_twice : (a b c : Bool) → (a || (b || c)) ≡ (b || (a || c))
  or_twice true true c = refl
  or_twice true false c = refl
  or_twice false true c = refl
  or_twice false false c = refl

  pub any_sorted : (p : A → Bool) (v : A) (xs : List A) → list_any p (earlier v (sorted cmp xs)) ≡ list_any p (earlier v xs)
  any_sorted p v xs = sorted_is cmp (any_step p v) (λ l. list_any p (earlier v l)) (one_any p v) (λ x y b gt. or_twice (precedes y v && p y) (precedes x v && p x) b) xs

  -- ---- among neighbours

  -- none of these is less than v
  abbrev pub Behind : A → List A → Type 0
  Behind v xs = AllByRecursion (λ y. is_lt (cmp y v) ≡ false) xs

  -- v is less than none of these
  abbrev pub InFront : A → List A → Type 0
  InFront v xs = AllByRecursion (λ y. is_lt (cmp v y) ≡ false) xs

  precedes_less : (w v : A) → precedes w v ≡ true → is_lt (cmp w v) ≡ true
  precedes_less w v p = ap is_lt (by_starts w v (key_of w v p) ∙ less_of w v p)

  none_behind : (v : A) (xs : List A) → Behind v xs → earlier v xs ≡ []
  none_behind v [] a = refl
  none_behind v (x ∷ xs) a = here (precedes x v) refl (none_behind v xs a.1)
    where
      here : (b : Bool) → precedes x v ≡ b → earlier v xs ≡ [] → cond b (x ∷ earlier v xs) (earlier v xs) ≡ []
      here true e more = absurd (true≢false (sym (precedes_less x v e) ∙ a.0))
      here false e more = more

  not_itself : (v : A) → precedes v v ≡ false
  not_itself v = rw (tied_itself keys v, tied_itself starts v) refl

  -- nothing of its key stands before the first
  pub first_of_all : (v : A) (rest : List A) → Behind v rest → earlier v (v ∷ rest) ≡ []
  first_of_all v rest a = ap (λ b. cond b (v ∷ earlier v rest) (earlier v rest)) (not_itself v) ∙ none_behind v rest a

  module _ (u v : A) (front rest : List A) (first : InFront u front) (order : is_lt (cmp v u) ≡ false) (last : Behind v rest) (behind : Behind u rest) where
    abbrev whole : List A
    whole = front ++ u ∷ v ∷ rest

    split : earlier v whole ≡ earlier v front ++ cond (precedes u v) (u ∷ []) []
    split =
        filter-append (λ w. precedes w v) front (u ∷ v ∷ rest)
        ∙ ap (λ l. earlier v front ++ l) (ap (λ l. cond (precedes u v) (u ∷ l) l) (first_of_all v rest last))

    own : earlier u whole ≡ earlier u front
    own = filter-append (λ w. precedes w u) front (u ∷ v ∷ rest) ∙ ap (λ l. earlier u front ++ l) (none_behind u (u ∷ v ∷ rest) (itself, (order, behind))) ∙ no_more (earlier u front)
      where
        itself : is_lt (cmp u u) ≡ false
        itself = rw (tied_itself keys u, tied_itself starts u) refl

        no_more : (xs : List A) → xs ++ [] ≡ xs
        no_more [] = refl
        no_more (x ∷ xs) = ap (λ l. x ∷ l) (no_more xs)

    -- ---- v begins a run

    cmp_key : (x y : A) → is_lt (cmp y x) ≡ false → is_lt (by_key y x) ≡ false
    cmp_key x y e = here (by_key y x) e
      where
        here : (r : Ordering) → is_lt (ordering_then r (by_start y x)) ≡ false → is_lt r ≡ false
        here Less e = cc
        here Equal e = refl
        here Greater e = refl

    -- w ≤ u ≤ v in keys, and w has v's key: so u has it
    between : (w : A) → is_lt (cmp u w) ≡ false → by_key w v ≡ Equal → by_key u v ≡ Equal
    between w up same = here (by_key u v) refl
      where
        here : (r : Ordering) → by_key u v ≡ r → by_key u v ≡ Equal
        here Less e =
            let f : by_key u w ≡ Less = keys.antisymm u w ∙ ap ordering_reverse (keys.congr w v u same ∙ keys.antisymm v u ∙ ap ordering_reverse e) in
            absurd (true≢false (sym (ap is_lt f) ∙ cmp_key w u up))
        here Equal e = e
        here Greater e = absurd (true≢false (sym (ap is_lt (keys.antisymm v u ∙ ap ordering_reverse e)) ∙ cmp_key u v order))

    pub run_begins : is_eq (by_key u v) ≡ false → earlier v whole ≡ []
    run_begins other =
        split ∙ ap (λ l. l ++ cond (precedes u v) (u ∷ []) []) (none front first) ∙ ap (λ b. cond (b && is_lt (by_start u v)) (u ∷ []) []) other
      where
        none : (xs : List A) → InFront u xs → earlier v xs ≡ []
        none [] a = refl
        none (x ∷ xs) a = here (precedes x v) refl (none xs a.1)
          where
            here : (b : Bool) → precedes x v ≡ b → earlier v xs ≡ [] → cond b (x ∷ earlier v xs) (earlier v xs) ≡ []
            here true e more = absurd (true≢false (sym (ap is_eq (between x a.0 (key_of x v e))) ∙ other))
            here false e more = more

    -- ---- v goes on with the run, and starts with u

    same_precedes : by_key u v ≡ Equal → by_start u v ≡ Equal → (w : A) → precedes w v ≡ precedes w u
    same_precedes key start w =
        ap₂ (λ (r s : Ordering). is_eq r && is_lt s) (alike by_key keys key) (alike by_start starts start)
      where
        alike : (c : A → A → Ordering) → IsTotalOrder c → c u v ≡ Equal → c w v ≡ c w u
        alike c o e = o.antisymm w v ∙ ap ordering_reverse (sym (o.congr u v w e)) ∙ sym (o.antisymm w u)

    same_earlier : by_key u v ≡ Equal → by_start u v ≡ Equal → (xs : List A) → earlier v xs ≡ earlier u xs
    same_earlier key start [] = refl
    same_earlier key start (x ∷ xs) = ap₂ (λ b l. cond b (x ∷ l) l) (same_precedes key start x) (same_earlier key start xs)

    pub run_ties : is_eq (by_key u v) ≡ true → is_lt (by_start u v) ≡ false → earlier v whole ≡ earlier u whole
    run_ties key level = same_earlier (is_equal _ key) tie whole
      where
        no_start : is_lt (by_start v u) ≡ false
        no_start = ap is_lt (sym (by_starts v u (key_back u v (is_equal _ key)))) ∙ order

        here : (r s : Ordering) → s ≡ ordering_reverse r → is_lt r ≡ false → is_lt s ≡ false → r ≡ Equal
        here Less s e a b = cc
        here Equal s e a b = refl
        here Greater s e a b = absurd (true≢false (sym (ap is_lt e) ∙ b))

        tie : by_start u v ≡ Equal
        tie = here (by_start u v) (by_start v u) (starts.antisymm v u) level no_start

    -- ---- v goes on with the run, and starts after u

    module _ (key : is_eq (by_key u v) ≡ true) (less : is_lt (by_start u v) ≡ true) where
      is_key : by_key u v ≡ Equal
      is_key = is_equal _ key

      is_start : by_start u v ≡ Less
      is_start = is_less _ less

      before_v : precedes u v ≡ true
      before_v = it_precedes u v is_key is_start

      pair : earlier v whole ≡ earlier v front ++ u ∷ []
      pair = split ∙ ap (λ b. earlier v front ++ cond b (u ∷ []) []) before_v

      -- w of the run stands before u, so it doesn't start after u
      not_after : (w : A) → is_lt (cmp u w) ≡ false → by_key w v ≡ Equal → is_lt (by_start u w) ≡ false
      not_after w up same = ap is_lt (sym (by_starts u w (one_key u w v is_key same))) ∙ up

      pub run_latest : latest (earlier v whole) ≡ Some u
      run_latest = ap latest pair ∙ upto front first
        where
          upto : (xs : List A) → InFront u xs → latest (earlier v xs ++ u ∷ []) ≡ Some u
          upto [] a = refl
          upto (x ∷ xs) a = here (precedes x v) refl (upto xs a.1)
            where
              here : (b : Bool) → precedes x v ≡ b → latest (earlier v xs ++ u ∷ []) ≡ Some u → latest (cond b (x ∷ earlier v xs) (earlier v xs) ++ u ∷ []) ≡ Some u
              here true e more = ap (later_of x) more ∙ ap (λ t. cond t (Some x) (Some u)) (not_after x a.0 (key_of x v e))
              here false e more = more

      pub run_any : (p : A → Bool) → ((x y : A) → by_start x y ≡ Equal → p x ≡ p y) → list_any p (earlier v whole) ≡ (list_any p (earlier u whole) || p u)
      run_any p ties = ap (list_any p) pair ∙ upto front first ∙ ap (λ l. list_any p l || p u) (sym own)
        where
          upto : (xs : List A) → InFront u xs → list_any p (earlier v xs ++ u ∷ []) ≡ (list_any p (earlier u xs) || p u)
          upto [] a = or_false (p u)
            where
              or_false : (b : Bool) → (b || false) ≡ (false || b)
              or_false true = refl
              or_false false = refl
          upto (x ∷ xs) a = here (precedes x v) refl (precedes x u) refl (upto xs a.1)
            where
              Goal : Bool → Bool → Type 0
              Goal b c = list_any p (cond b (x ∷ earlier v xs) (earlier v xs) ++ u ∷ []) ≡ (list_any p (cond c (x ∷ earlier u xs) (earlier u xs)) || p u)

              or_own : (b c : Bool) → (b || (c || b)) ≡ (c || b)
              or_own true true = refl
              or_own true false = refl
              or_own false true = refl
              or_own false false = refl

              or_left : (a b c d : Bool) → d ≡ (b || c) → (a || d) ≡ ((a || b) || c)
              or_left true b c d e = refl
              or_left false b c d e = e

              tie : by_key x v ≡ Equal → precedes x u ≡ false → by_start x u ≡ Equal
              tie same level = from (by_start x u) refl
                where
                  key_u : by_key x u ≡ Equal
                  key_u = one_key x u v same is_key

                  from : (r : Ordering) → by_start x u ≡ r → by_start x u ≡ Equal
                  from Less e = absurd (true≢false (sym (it_precedes x u key_u e) ∙ level))
                  from Equal e = e
                  from Greater e = absurd (true≢false (sym (ap is_lt (back_less x u e)) ∙ not_after x a.0 same))

              on : precedes x u ≡ true → precedes x v ≡ true
              on e = it_precedes x v (keys.congr x u v (key_of x u e) ∙ is_key) (starts.trans x u v (less_of x u e) is_start)

              here : (b : Bool) → precedes x v ≡ b → (c : Bool) → precedes x u ≡ c → list_any p (earlier v xs ++ u ∷ []) ≡ (list_any p (earlier u xs) || p u)
                  → list_any p (cond b (x ∷ earlier v xs) (earlier v xs) ++ u ∷ []) ≡ (list_any p (cond c (x ∷ earlier u xs) (earlier u xs)) || p u)
              here true e true f more = or_left (p x) (list_any p (earlier u xs)) (p u) _ more
              here true e false f more =
                  ap₂ (λ s t. s || t) (ties x u (tie (key_of x v e) f)) more ∙ or_own (p u) (list_any p (earlier u xs))
              here false e true f more = absurd (true≢false (sym (on f) ∙ e))
              here false e false f more = more
