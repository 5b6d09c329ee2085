-- What a lock list keeps beside its holds stays true when they change.
use Rattle.std.proofs.Common.{◌≡◌, ◌==◌, ◌<◌, ◌≤◌, ℕ, Bool, true, false, not, ltb, ◌&&◌, ◌||◌, List, [], ◌∷◌, ◌++◌, map, take, drop, length, get_or, refl, sym, ap, ◌∙◌, arith}
use Rattle.std.specs.List.{All, filter, insert, list_any}
use Rattle.std.proofs.lemmas.Bool.{eqb-true}
use Rattle.std.proofs.lemmas.List.{append-nil, drop_all, length_push, length-take-le, take-append-drop, take_all}
use Rattle.std.proofs.lemmas.List.Elements.{All-filter, All-weaker}
use Rattle.std.proofs.lemmas.List.Filters.{length-filter_both}
use Rattle.std.proofs.lemmas.List.Folds.{list_any-append}
use Rattle.std.proofs.lemmas.Map.Views.{any-filter_same}
use Rattle.sql_types.specs.declared.lock.Hold.{Hold}
use Rattle.spec_model.specs.Holds.{holds_any, is_foreign, is_of}
use Rattle.store_locks.specs.Index.{Bookkeeping, item_is_before, staying, stays}
use Rattle.store_locks.proofs.Changes.{indexed_more, indexed_back, indexed_left}

-- the transaction is one of these
abbrev known : List ℕ → ℕ → Bool
known who tx = list_any (λ holder. holder == tx) who

twice : (b : Bool) → b ≡ not (not b)
twice true = refl
twice false = refl

-- a list that was written over whole
pub whole : {X : Type 0} (n : ℕ) (new old : List X) → length new ≡ length old → n ≡ length old → take n (new ++ drop (length new) old) ≡ new
whole n new old len is = rw (drop_all (length new) old (omega arith), append-nil new) (take_all n new (omega arith))

-- ---- nothing is held

pub kept_none : Bookkeeping [] [] [] []
unfolding holds_any
kept_none = record {
  indexed = record {
    within = λ k d inside. absurd (omega arith);
    complete = λ p inside. absurd (omega arith);
    in_order = λ i j d ij inside. absurd (omega arith);
  };
  room = omega arith;
  holders = λ tx. refl;
}

-- ---- a hold comes

or_none : (a b : Bool) → (a || (b || false)) ≡ (b || a)
or_none true true = refl
or_none true false = refl
or_none false true = refl
or_none false false = refl

or_known : (a b : Bool) → (b ≡ true → a ≡ true) → a ≡ (b || a)
or_known a true is = is refl
or_known a false is = refl

any_more : (holds : List Hold) (h : Hold) (tx : ℕ) → holds_any (holds ++ h ∷ []) tx ≡ (h.tx == tx || holds_any holds tx)
unfolding holds_any
any_more holds h tx = list_any-append (is_of tx) holds (h ∷ []) ∙ or_none (list_any (is_of tx) holds) (h.tx == tx)

known_more : (who : List ℕ) (tx t : ℕ) → known (who ++ tx ∷ []) t ≡ (tx == t || known who t)
known_more who tx t = list_any-append (λ holder. holder == t) who (tx ∷ []) ∙ or_none (known who t) (tx == t)

module _ (holds : List Hold) (places moved who : List ℕ) (is : Bookkeeping holds places moved who) where
  -- a transaction that holds something already
  pub known_stays : (h : Hold) → known who h.tx ≡ true → (t : ℕ) → known who t ≡ holds_any (holds ++ h ∷ []) t
  known_stays h already t =
      is.holders t ∙ (or_known (holds_any holds t) (h.tx == t) (λ e. sym (is.holders t) ∙ (ap (known who) (sym (eqb-true h.tx t e)) ∙ already)) ∙ sym (any_more holds h t))

  -- another one
  pub known_comes : (h : Hold) (t : ℕ) → known (who ++ h.tx ∷ []) t ≡ holds_any (holds ++ h ∷ []) t
  known_comes h t = known_more who h.tx t ∙ (ap (λ b. h.tx == t || b) (is.holders t) ∙ sym (any_more holds h t))

  pub kept_more : (h : Hold) (n : ℕ) (room others : List ℕ) → length holds < length room → n ≤ length places
      → ((k : ℕ) → k < n → item_is_before holds h.request.item (get_or places k 0) ≡ true)
      → ((k : ℕ) → n ≤ k → k < length places → item_is_before holds h.request.item (get_or places k 0) ≡ false)
      → ((t : ℕ) → known others t ≡ holds_any (holds ++ h ∷ []) t) → Bookkeeping (holds ++ h ∷ []) (insert places n (length holds)) room others
  kept_more h n room others wide le before behind holders = record {
    indexed = indexed_more holds h places n is.indexed le before behind;
    room = (let len = length_push holds h in omega arith);
    holders = holders;
  }

  -- ---- the last ones go

  front_any : (k t : ℕ) → holds_any (take k holds) t ≡ true → holds_any holds t ≡ true
  unfolding holds_any
  front_any k t some =
      ap (list_any (is_of t)) (sym (take-append-drop k holds)) ∙ (list_any-append (is_of t) (take k holds) (drop k holds) ∙ ap (λ b. b || list_any (is_of t) (drop k holds)) some)

  front_by : (a b : Bool) → (a ≡ true → b ≡ true) → (a && b) ≡ a
  front_by true b is = is refl
  front_by false b is = refl

  pub kept_back : (k : ℕ) → k ≤ length holds → Bookkeeping (take k holds) (filter (λ p. ltb p k) places) moved (filter (holds_any (take k holds)) who)
  kept_back k le = record {
    indexed = indexed_back holds places k le is.indexed;
    room = (let len = length-take-le k holds le in let room = is.room in omega arith);
    holders = λ t.
        any-filter_same (λ holder. holder == t) (holds_any (take k holds)) (holds_any (take k holds) t) (λ x e. ap (holds_any (take k holds)) (eqb-true x t e)) who
        ∙ (ap (λ b. holds_any (take k holds) t && b) (is.holders t) ∙ front_by (holds_any (take k holds) t) (holds_any holds t) (front_any k t));
  }

  -- ---- those of a transaction go

  -- there is room for all places
  pub kept_within : (test : ℕ → Bool) (n : ℕ) → n ≡ length moved → All (λ p. p < n) (filter test places)
  kept_within test n same =
      let room = is.room in
      All-weaker (λ p. p < length holds) (λ p. p < n) (λ p below. omega arith) (filter test places) (All-filter test (λ p. p < length holds) places is.indexed.within)

  others_known : (tx t : ℕ) → known (filter (λ holder. not (holder == tx)) who) t ≡ holds_any (filter (is_foreign tx) holds) t
  unfolding holds_any
  others_known tx t =
      any-filter_same (λ holder. holder == t) (λ holder. not (holder == tx)) (not (t == tx)) (λ x e. ap (λ y. not (y == tx)) (eqb-true x t e)) who
      ∙ (ap (λ b. not (t == tx) && b) (is.holders t) ∙ sym (any-filter_same (is_of t) (is_foreign tx) (not (t == tx)) (λ h e. ap (λ y. not (y == tx)) (eqb-true h.tx t e)) holds))

  pub kept_released : (tx : ℕ) (f : ℕ → ℕ) (room : List ℕ) → ((p : ℕ) → p < length holds → f p ≡ staying (is_foreign tx) holds p) → length room ≡ length moved
      → Bookkeeping (filter (is_foreign tx) holds) (map f (filter (stays (is_foreign tx) holds) places)) room (filter (λ holder. not (holder == tx)) who)
  kept_released tx f room moves same = record {
    indexed = indexed_left (is_foreign tx) holds places f is.indexed moves;
    room = (let fewer = length-filter_both (is_foreign tx) (is_of tx) (λ h. twice (h.tx == tx)) holds in let enough = is.room in omega arith);
    holders = others_known tx;
  }
