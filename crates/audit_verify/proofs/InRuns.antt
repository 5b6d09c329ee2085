-- The earlier versions of a version's key, by ranks: what the pass knows of them, and that they are those of the
-- definition.
use Rattle.std.proofs.Common.{◌≡◌, ◌<◌, ◌+◌, ◌-◌, ℕ, zero, suc, arith, refl, sym, ap, ap₂, subst, ◌∙◌, Bool, true, false, cond, nat_lt, List, [], ◌∷◌, ◌++◌, length, map, filter, drop, get_or, is_lt, IsSorted, Option, Some, None}
use Rattle.std.proofs.lemmas.Bool.{true≢false, eqb-true, eq-eqb}
use Rattle.std.proofs.lemmas.List.{get_or_default}
use Rattle.std.specs.Prelude.{◌&&◌, ◌||◌, ◌==◌, not, is_none, is_some, option_map, IfSome}
use Rattle.std.specs.Cmp.{IsTotalOrder, on_total, then_total, nat_cmp_total}
use Rattle.std.specs.Borrow.{Bor}
use Rattle.std.specs.List.{AllByRecursion, list_any}
use Rattle.std.specs.declared.cmp.Ordering.TheVariants.{Less, Equal, Greater}
use Rattle.std.specs.Ordering.{is_eq, nat_cmp, ordering_then}
use Rattle.sql_value.specs.declared.column.ColumnDef.{ColumnDef}
use Rattle.sql_types.specs.declared.entry.TxEntry.{TxEntry}
use Rattle.sql_types.specs.declared.version.Version.{Version}
use Rattle.spec_model.specs.Keys.{same_key, version_key}
use Rattle.spec_model.specs.Lists.{sorted}
use Rattle.spec_model.specs.Rows.{EventId, event_cmp}
use Rattle.sql_parts.proofs.Orders.{event_total, key_total}
use Rattle.sql_parts.proofs.Sorting.{is_sorted}
use Rattle.spec_verify.specs.Entries.{has_id}
use Rattle.spec_verify.specs.Order as spec
use Rattle.spec_verify.proofs.SystemRows.{then_equal as then_both}
use Rattle.audit_verify.specs.declared.order.EarlierVersions.{EarlierVersions}
use Rattle.audit_verify.specs.declared.order.VersionWithRanks.{VersionWithRanks}
use Rattle.audit_verify.specs.Order.{IsRanked, KnowsEarlier, KnowsBefore, version_of, start_cmp, key_order, ranked_cmp, openness, rank_before, is_open, earlier_of, last_version, any_open, ends_well, follows, is_ordered_after, is_ordered_among}
use Rattle.audit_columns.specs.Positions.{Rank, rank_of}
use Rattle.audit_columns.specs.Runs as runs
use Rattle.audit_columns.specs.Runs.{Neighbours}
use Rattle.audit_verify.proofs.Neighbours.{neighbours, first_is, behind_first}
use Rattle.audit_columns.proofs.Runs as law

-- ---- orders

pub starts_total : IsTotalOrder start_cmp
starts_total = then_total (on_total (λ (r : VersionWithRanks). r.start) event_total) (on_total (λ (r : VersionWithRanks). openness r.end) nat_cmp_total)

pub keys_total : (columns : List ColumnDef) → IsTotalOrder (key_order columns)
keys_total columns = on_total (λ (r : VersionWithRanks). version_key columns r.version.now) key_total

pub ranked_total : (columns : List ColumnDef) → IsTotalOrder (ranked_cmp columns)
ranked_total columns = then_total (keys_total columns) starts_total

open_by : (a b : Option Rank) → nat_cmp (openness a) (openness b) ≡ Equal → is_none a ≡ is_none b
open_by None None e = refl
open_by None (Some b) e = absurd (true≢false (sym (ap is_eq e)))
open_by (Some a) None e = absurd (true≢false (sym (ap is_eq e)))
open_by (Some a) (Some b) e = refl

ties_open : (x y : VersionWithRanks) → start_cmp x y ≡ Equal → is_open x ≡ is_open y
ties_open x y e = open_by x.end y.end (then_both (event_cmp x.start y.start) _ e).1

-- ---- what the pass knows

module _ (columns : List ColumnDef) (all : List VersionWithRanks) where
  abbrev latest_of : List VersionWithRanks → Option VersionWithRanks
  latest_of = runs.latest (key_order columns) start_cmp

  abbrev seen_last : Option (Bor Version) → Option Version
  seen_last o = option_map (λ (w : Bor Version). w.now) o

  nothing : (v : VersionWithRanks) (e : EarlierVersions) → earlier_of columns all v ≡ [] → e.latest ≡ None → e.last ≡ None → e.any_open ≡ false → KnowsEarlier columns all v e
  nothing v e none latest last open_ = record {
    last = ap seen_last last ∙ sym (ap (λ l. option_map version_of (latest_of l)) none);
    latest = latest ∙ sym (ap (λ l. option_map (λ (w : VersionWithRanks). w.end) (runs.latest (key_order columns) start_cmp l)) none);
    some_open = open_ ∙ sym (ap (list_any is_open) none);
  }

  pub knows_first : (d : VersionWithRanks) (e : EarlierVersions) → IsSorted (ranked_cmp columns) all → 0 < length all → e.latest ≡ None → e.last ≡ None → e.any_open ≡ false
      → KnowsEarlier columns all (get_or all 0 d) e
  knows_first d e up some latest last open_ =
      let v = get_or all 0 d in
      nothing v e (ap (runs.earlier (key_order columns) start_cmp v) (first_is (ranked_cmp columns) (ranked_total columns) all up d some)
      ∙ law.first_of_all (key_order columns) start_cmp (keys_total columns) starts_total v (drop 1 all) (behind_first (ranked_cmp columns) (ranked_total columns) all up d some)) latest last open_

  module _ (u v : VersionWithRanks) (n : Neighbours (ranked_cmp columns) all u v) where
    seen : (x : VersionWithRanks) → earlier_of columns all x ≡ runs.earlier (key_order columns) start_cmp x (n.front ++ u ∷ v ∷ n.rest)
    seen x = ap (runs.earlier (key_order columns) start_cmp x) n.whole

    pub knows_begin : (e : EarlierVersions) → is_eq (key_order columns u v) ≡ false → e.latest ≡ None → e.last ≡ None → e.any_open ≡ false → KnowsEarlier columns all v e
    knows_begin e other latest last open_ =
        nothing v e (seen v ∙ law.run_begins (key_order columns) start_cmp (keys_total columns) starts_total u v n.front n.rest n.first n.order n.last n.behind other) latest last open_

    pub knows_tie : (e : EarlierVersions) → is_eq (key_order columns u v) ≡ true → is_lt (start_cmp u v) ≡ false → KnowsEarlier columns all u e → KnowsEarlier columns all v e
    knows_tie e key level k =
        let same : earlier_of columns all u ≡ earlier_of columns all v =
        seen u ∙ sym (seen v ∙ law.run_ties (key_order columns) start_cmp (keys_total columns) starts_total u v n.front n.rest n.first n.order n.last n.behind key level) in
        record {
          latest = k.latest ∙ ap (λ l. option_map (λ (w : VersionWithRanks). w.end) (runs.latest (key_order columns) start_cmp l)) same;
          last = k.last ∙ ap (λ l. option_map version_of (latest_of l)) same;
          some_open = k.some_open ∙ ap (list_any is_open) same;
        }

    pub knows_next : (e f : EarlierVersions) → is_eq (key_order columns u v) ≡ true → is_lt (start_cmp u v) ≡ true → KnowsEarlier columns all u e
        → f.latest ≡ Some u.end → f.last ≡ Some u.version → f.any_open ≡ (e.any_open || is_none u.end) → KnowsEarlier columns all v f
    knows_next e f key less k latest last open_ = record {
      last =
          ap seen_last last
          ∙ sym (ap (λ l. option_map version_of (latest_of l)) (seen v)
          ∙ ap (option_map version_of) (law.run_latest (key_order columns) start_cmp (keys_total columns) starts_total u v n.front n.rest n.first n.order n.last n.behind key less));
      latest =
          latest
          ∙ sym (ap (λ l. option_map (λ (w : VersionWithRanks). w.end) (runs.latest (key_order columns) start_cmp l)) (seen v)
          ∙ ap (option_map (λ (w : VersionWithRanks). w.end)) (law.run_latest (key_order columns) start_cmp (keys_total columns) starts_total u v n.front n.rest n.first n.order n.last n.behind key less));
      some_open =
          open_ ∙ ap (λ b. b || is_none u.end) (k.some_open ∙ ap (list_any is_open) (seen u))
          ∙ sym (ap (list_any is_open) (seen v)
          ∙ law.run_any (key_order columns) start_cmp (keys_total columns) starts_total u v n.front n.rest n.first n.order n.last n.behind key less is_open ties_open);
    }

-- from one place to the next
pub next_known : (columns : List ColumnDef) (all : List VersionWithRanks) (k : ℕ) (x y : VersionWithRanks) (e f : EarlierVersions) → IsSorted (ranked_cmp columns) all → k < length all → 0 < k
    → x ≡ get_or all (k - 1) x → y ≡ get_or all k y → KnowsBefore columns all k e
    → ((some : List VersionWithRanks) → Neighbours (ranked_cmp columns) some x y → KnowsEarlier columns some x e → KnowsEarlier columns some y f)
    → (d : VersionWithRanks) → KnowsEarlier columns all (get_or all k d) f
next_known columns all k x y e f up within some x_is y_is before on d =
    let back : (k - 1) + 1 ≡ k = omega (arith, some) in
    let pair = neighbours (ranked_cmp columns) (ranked_total columns) all up (k - 1) x (omega (arith, some, within)) in
    let second : get_or all ((k - 1) + 1) x ≡ y = ap (λ n. get_or all n x) back ∙ get_or_default all k x y within ∙ sym y_is in
    let beside = subst (λ (v : VersionWithRanks). Neighbours (ranked_cmp columns) all x v) second (subst (λ (u : VersionWithRanks). Neighbours (ranked_cmp columns) all u (get_or all ((k - 1) + 1) x)) (sym x_is) pair) in
    let known = subst (λ (u : VersionWithRanks). KnowsEarlier columns all u e) (sym x_is) (before x some) in
    subst (λ (v : VersionWithRanks). KnowsEarlier columns all v f) (y_is ∙ get_or_default all k y d within) (on all beside known)

pub at_first : (columns : List ColumnDef) (all : List VersionWithRanks) (k : ℕ) (e : EarlierVersions) → IsSorted (ranked_cmp columns) all → k < length all → k ≡ 0 → e.latest ≡ None → e.last ≡ None → e.any_open ≡ false
    → (d : VersionWithRanks) → KnowsEarlier columns all (get_or all k d) e
at_first columns all k e up within zero_ latest last open_ d =
    subst (λ (n : ℕ). KnowsEarlier columns all (get_or all n d) e) (sym zero_) (knows_first columns all d e up (omega (arith, within, zero_)) latest last open_)

pub known_before : (columns : List ColumnDef) (all : List VersionWithRanks) (k : ℕ) (e : EarlierVersions) → ((d : VersionWithRanks) → KnowsEarlier columns all (get_or all k d) e) → KnowsBefore columns all (k + 1) e
known_before columns all k e here d lt = subst (λ (n : ℕ). KnowsEarlier columns all (get_or all n d) e) {x = k} {y = k + 1 - 1} (omega arith) (here d)

-- ---- ranks are the order of the definition

-- a transaction with an entry has its place to itself
one_place : (entries : List TxEntry) (a b : ℕ) → has_id entries a ≡ true → spec.position_of entries a ≡ spec.position_of entries b → a ≡ b
one_place [] a b has e = absurd (true≢false (sym has))
one_place (x ∷ xs) a b has e = here (x.id == a) refl (x.id == b) refl has e (one_place xs a b)
  where
    here : (s : Bool) → (x.id == a) ≡ s → (t : Bool) → (x.id == b) ≡ t → (s || has_id xs a) ≡ true
        → cond s zero (suc (spec.position_of xs a)) ≡ cond t zero (suc (spec.position_of xs b))
        → (has_id xs a ≡ true → spec.position_of xs a ≡ spec.position_of xs b → a ≡ b) → a ≡ b
    here true is true is' has e more = sym (eqb-true x.id a is) ∙ eqb-true x.id b is'
    here true is false is' has e more = absurd (omega (arith, e))
    here false is true is' has e more = absurd (omega (arith, e))
    here false is false is' has e more = more has (omega (arith, e))

-- by places and numbers, and then by openness
three_steps : (p q m n : ℕ) (x y : Option Rank)
    → ((nat_lt p q || (p == q && nat_lt m n)) || (p == q && m == n && (is_some x && is_none y)))
    ≡ is_lt (ordering_then (ordering_then (nat_cmp p q) (nat_cmp m n)) (nat_cmp (openness x) (openness y)))
three_steps p q m n x y = by (nat_lt p q) (p == q) (nat_lt m n) (m == n) x y
  where
    by : (a e b f : Bool) (x y : Option Rank) → ((a || (e && b)) || ((e && f) && (is_some x && is_none y)))
        ≡ is_lt (ordering_then (ordering_then (cond a Less (cond e Equal Greater)) (cond b Less (cond f Equal Greater))) (nat_cmp (openness x) (openness y)))
    by true e b f x y = refl
    by false true true f x y = refl
    by false true false true None None = refl
    by false true false true None (Some y) = refl
    by false true false true (Some x) None = refl
    by false true false true (Some x) (Some y) = refl
    by false true false false x y = refl
    by false false b f x y = refl

none_map : {A B : Type 0} (f : A → B) (o : Option A) → is_none (option_map f o) ≡ is_none o
none_map f None = refl
none_map f (Some x) = refl

some_map : {A B : Type 0} (f : A → B) (o : Option A) → is_some (option_map f o) ≡ is_some o
some_map f None = refl
some_map f (Some x) = refl

module _ (entries : List TxEntry) where
  abbrev place : ℕ → ℕ
  place id = spec.position_of entries id

  same_place : (a b : ℕ) → has_id entries a ≡ true → (a == b) ≡ (place a == place b)
  same_place a b has = here (place a == place b) refl
    where
      here : (t : Bool) → (place a == place b) ≡ t → (a == b) ≡ (place a == place b)
      here true e = eq-eqb a b (one_place entries a b has (eqb-true (place a) (place b) e)) ∙ sym e
      here false e = from (a == b) refl
        where
          from : (t : Bool) → (a == b) ≡ t → (a == b) ≡ (place a == place b)
          from true f = absurd (true≢false (sym (eq-eqb (place a) (place b) (ap place (eqb-true a b f))) ∙ e))
          from false f = f ∙ sym e

  is_open_is : (r : VersionWithRanks) → IsRanked entries r → is_none r.version.now.end ≡ is_open r
  is_open_is r k = sym (ap is_none k.end ∙ none_map (rank_of entries) r.version.now.end)

  earlier_is : (w v : VersionWithRanks) → IsRanked entries w → IsRanked entries v → spec.is_earlier entries w.version.now v.version.now ≡ is_lt (start_cmp w v)
  earlier_is w v k l =
      let a = w.version.now.start in
      let b = v.version.now.start in
      let x = w.version.now.end in
      let y = v.version.now.end in
      ap (λ t. (nat_lt (place a.0) (place b.0) || (place a.0 == place b.0 && nat_lt a.1 b.1)) || ((t && a.1 == b.1) && (is_some x && is_none y))) (same_place a.0 b.0 k.started)
      ∙ ap₂ (λ s t. (nat_lt (place a.0) (place b.0) || (place a.0 == place b.0 && nat_lt a.1 b.1)) || ((place a.0 == place b.0 && a.1 == b.1) && (s && t)))
      (sym (ap is_some k.end ∙ some_map (rank_of entries) x)) (is_open_is v l)
      ∙ three_steps (place a.0) (place b.0) a.1 b.1 w.end v.end
      ∙ sym (ap₂ (λ s t. is_lt (ordering_then (event_cmp s t) (nat_cmp (openness w.end) (openness v.end)))) k.start l.start)

  module _ (columns : List ColumnDef) where
    two : {A : Type 0} (q r : A → Bool) (x : A) (ys : List A)
        → filter r (filter q (x ∷ ys)) ≡ cond (q x && r x) (x ∷ filter r (filter q ys)) (filter r (filter q ys))
    two {A} q r x ys = here (q x)
      where
        here : (b : Bool) → filter r (cond b (x ∷ filter q ys) (filter q ys)) ≡ cond (b && r x) (x ∷ filter r (filter q ys)) (filter r (filter q ys))
        here true = refl
        here false = refl

    before_is : (r : VersionWithRanks) → IsRanked entries r → (xs : List VersionWithRanks) → AllByRecursion (IsRanked entries) xs
        → spec.before entries columns (map version_of xs) (version_of r) ≡ map version_of (earlier_of columns xs r)
    unfolding same_key
    before_is r k [] a = refl
    before_is r k (x ∷ xs) a =
        two (λ (w : Version). same_key (version_key columns w) (version_key columns r.version.now)) (λ w. spec.is_earlier entries w r.version.now) (version_of x) (map version_of xs)
        ∙ ap (λ b. cond (is_eq (key_order columns x r) && b) (version_of x ∷ rest) rest) (earlier_is x r a.0 k)
        ∙ here (is_eq (key_order columns x r) && is_lt (start_cmp x r)) (before_is r k xs a.1)
      where
        rest : List Version
        rest = spec.before entries columns (map version_of xs) (version_of r)

        here : (b : Bool) → rest ≡ map version_of (earlier_of columns xs r) → cond b (version_of x ∷ rest) rest ≡ map version_of (cond b (x ∷ earlier_of columns xs r) (earlier_of columns xs r))
        here true e = ap (λ l. version_of x ∷ l) e
        here false e = e

    abbrev latest : List VersionWithRanks → Option VersionWithRanks
    latest = runs.latest (key_order columns) start_cmp

    abbrev later_of : VersionWithRanks → Option VersionWithRanks → Option VersionWithRanks
    later_of = runs.later_of (key_order columns) start_cmp

    record LatestIs (xs : List VersionWithRanks) : Type 0 where
      is : spec.latest entries (map version_of xs) ≡ option_map version_of (latest xs)
      ranked : IfSome (latest xs) (IsRanked entries)

    later_is : (x : VersionWithRanks) (m : Option VersionWithRanks) → IsRanked entries x → IfSome m (IsRanked entries)
        → spec.later_of entries (version_of x) (option_map version_of m) ≡ option_map version_of (later_of x m)
    later_is x None k l = refl
    later_is x (Some w) k l = here (spec.is_earlier entries w.version.now x.version.now) (is_lt (start_cmp w x)) (earlier_is w x l k)
      where
        here : (a b : Bool) → a ≡ b → cond a (Some (version_of x)) (Some (version_of w)) ≡ option_map version_of (cond b (Some x) (Some w))
        here a true e = ap (λ t. cond t (Some (version_of x)) (Some (version_of w))) e
        here a false e = ap (λ t. cond t (Some (version_of x)) (Some (version_of w))) e

    later_ranked : (x : VersionWithRanks) (m : Option VersionWithRanks) → IsRanked entries x → IfSome m (IsRanked entries) → IfSome (later_of x m) (IsRanked entries)
    later_ranked x None k l = k
    later_ranked x (Some w) k l = here (is_lt (start_cmp w x))
      where
        here : (b : Bool) → IfSome (cond b (Some x) (Some w)) (IsRanked entries)
        here true = k
        here false = l

    latest_is : (xs : List VersionWithRanks) → AllByRecursion (IsRanked entries) xs → LatestIs xs
    latest_is [] a = record { is = refl; ranked = tt }
    latest_is (x ∷ xs) a =
        let more = latest_is xs a.1 in
        record {
          is = ap (spec.later_of entries (version_of x)) more.is ∙ later_is x (latest xs) a.0 more.ranked;
          ranked = later_ranked x (latest xs) a.0 more.ranked;
        }

    all_kept : {A : Type 0} (P : A → Type 0) (p : A → Bool) (xs : List A) → AllByRecursion P xs → AllByRecursion P (filter p xs)
    all_kept P p [] a = tt
    all_kept {A} P p (x ∷ xs) a = here (p x) (all_kept P p xs a.1)
      where
        here : (b : Bool) → AllByRecursion P (filter p xs) → AllByRecursion P (cond b (x ∷ filter p xs) (filter p xs))
        here true more = (a.0, more)
        here false more = more

    any_is : (xs : List VersionWithRanks) → AllByRecursion (IsRanked entries) xs → list_any (λ (w : Version). is_none w.end) (map version_of xs) ≡ list_any is_open xs
    any_is [] a = refl
    any_is (x ∷ xs) a = ap₂ (λ s t. s || t) (is_open_is x a.0) (any_is xs a.1)

    ends_is : (r : VersionWithRanks) → IsRanked entries r → spec.ends_well entries (version_of r) r.version.now.end ≡ ends_well r r.end
    ends_is r k = here r.version.now.end r.end k.end
      where
        here : (o : Option EventId) (p : Option Rank) → p ≡ option_map (rank_of entries) o → spec.ends_well entries (version_of r) o ≡ ends_well r p
        here None p e = sym (ap (ends_well r) e)
        here (Some end) p e = sym (ap (ends_well r) e ∙ ap (λ s. rank_before s (rank_of entries end)) k.start)

    follows_is : (r : VersionWithRanks) (m : Option VersionWithRanks) → IsRanked entries r → IfSome m (IsRanked entries)
        → spec.follows entries (version_of r) (option_map version_of m) ≡ follows r (option_map (λ (w : VersionWithRanks). w.end) m)
    follows_is r None k l = refl
    follows_is r (Some w) k l = here w.version.now.end w.end l.end
      where
        here : (o : Option EventId) (p : Option Rank) → p ≡ option_map (rank_of entries) o → spec.ends_before entries o r.version.now.start ≡ follows r (Some p)
        here None p e = sym (ap (λ q. follows r (Some q)) e)
        here (Some end) p e = sym (ap (λ q. follows r (Some q)) e ∙ ap (rank_before (rank_of entries end)) k.start)

    -- a version among those of its table, by its ranks
    pub ordered_among_is : (found : List VersionWithRanks) (r : VersionWithRanks) → AllByRecursion (IsRanked entries) found → IsRanked entries r
        → (not (spec.shares_key entries columns (map version_of found) (version_of r)) && spec.is_in_order entries columns (map version_of found) (version_of r)) ≡ is_ordered_among columns found r
    ordered_among_is found r a k =
        let before = before_is r k found a in
        let kept = all_kept (IsRanked entries) (λ w. runs.precedes (key_order columns) start_cmp w r) found a in
        let last = latest_is (earlier_of columns found r) kept in
        ap₂ (λ s t. not s && t)
        (ap₂ (λ s t. s && t) (is_open_is r k) (ap (list_any (λ (w : Version). is_none w.end)) before ∙ any_is (earlier_of columns found r) kept))
        (ap₂ (λ s t. s && t) (ends_is r k)
        (ap (spec.follows entries (version_of r)) (ap (spec.latest entries) before ∙ last.is) ∙ follows_is r (latest (earlier_of columns found r)) k last.ranked))

    -- the version before it among those of its table is that of its ranks
    pub last_is : (found : List VersionWithRanks) (r : VersionWithRanks) → AllByRecursion (IsRanked entries) found → IsRanked entries r
        → spec.latest entries (spec.before entries columns (map version_of found) (version_of r)) ≡ last_version columns found r
    last_is found r a k =
        let kept = all_kept (IsRanked entries) (λ w. runs.precedes (key_order columns) start_cmp w r) found a in
        ap (spec.latest entries) (before_is r k found a) ∙ (latest_is (earlier_of columns found r) kept).is

-- sorting changes nothing of that
pub last_sorted : (columns : List ColumnDef) (found : List VersionWithRanks) (r : VersionWithRanks) → last_version columns (sorted (ranked_cmp columns) found) r ≡ last_version columns found r
last_sorted columns found r =
    ap (option_map version_of) (law.latest_sorted (key_order columns) start_cmp (keys_total columns) starts_total r found)

pub ordered_among_sorted : (columns : List ColumnDef) (found : List VersionWithRanks) (r : VersionWithRanks) → is_ordered_among columns (sorted (ranked_cmp columns) found) r ≡ is_ordered_among columns found r
ordered_among_sorted columns found r =
    ap₂ (λ m b. is_ordered_after r (option_map (λ (w : VersionWithRanks). w.end) m) b)
    (law.latest_sorted (key_order columns) start_cmp (keys_total columns) starts_total r found)
    (law.any_sorted (key_order columns) start_cmp (keys_total columns) starts_total is_open r found)

-- what is sorted so rises
pub runs_rise : (columns : List ColumnDef) (found ranked : List VersionWithRanks) → ranked ≡ sorted (ranked_cmp columns) found → IsSorted (ranked_cmp columns) ranked
runs_rise columns found ranked order = subst (IsSorted (ranked_cmp columns)) (sym order) (is_sorted (ranked_cmp columns) (ranked_total columns) found)
