-- Who is named depends on who is in the way alone: where the same transactions bar each want, the first conflict names the same holder.
use Rattle.std.proofs.Common.{◌≡◌, ℕ, ◌≤◌, Bool, true, false, cond, List, [], ◌∷◌, map, Option, Some, None, refl, sym, ap, ap₂, ◌∙◌, subst, inl, inr, ⊎_elim, arith}
use Rattle.std.proofs.lemmas.Bool.{ltb-true, ltb-false, eqb-true, ne_eqb, or_cases, or_parts, and_parts}
use Rattle.std.specs.Prelude.{◌==◌, ◌&&◌, not, nat_lt, if◌then◌else◌}
use Rattle.std.specs.List.{filter, fold}
use Rattle.sql_types.specs.declared.lock.Hold.{Hold}
use Rattle.sql_types.specs.declared.lock.Item.{Item}
use Rattle.sql_types.specs.declared.lock.LockRequest.{LockRequest}
use Rattle.spec_model.specs.Holds.{rank}
use Rattle.spec_model.specs.InTheWay.{Conflict, Holder, barrier, bars, conflict_or, first_conflict, holder_of, least_with, lesser, precedes}
use Rattle.spec_model.specs.Locks.{requests_conflict}
use Rattle.spec_history.specs.ExactRefusals.{holder_named}
use Rattle.spec_history.specs.Lists.{In}
use Rattle.law_protocol_tables.proofs.Barring.{blocked}

-- among these locks one of this transaction bars the want
pub record BlockedBy (holds : List Hold) (id : ℕ) (request : LockRequest) (tx : ℕ) : Type 0 where
  pub hold : Hold
  pub has : In hold holds
  pub is : hold.tx ≡ tx
  pub in_way : bars id request hold ≡ true

-- ---- the least

least_left : (a b : Holder) → (lesser a (Some b)).0 ≤ b.0
least_left a b = by (precedes b a) refl
  where
    by : (c : Bool) → precedes b a ≡ c → (if c then b else a).0 ≤ b.0
    by true e = omega arith
    by false e = ltb-false b.0 a.0 (or_parts (nat_lt b.0 a.0) (b.0 == a.0 && nat_lt (rank b.1) (rank a.1)) e).0

least_right : (a b : Holder) → (lesser a (Some b)).0 ≤ a.0
least_right a b = by (precedes b a) refl
  where
    by : (c : Bool) → precedes b a ≡ c → (if c then b else a).0 ≤ a.0
    by true e = ⊎_elim
        (λ (f : nat_lt b.0 a.0 ≡ true). let l = ltb-true b.0 a.0 f in omega (arith, l))
        (λ (f : (b.0 == a.0 && nat_lt (rank b.1) (rank a.1)) ≡ true). let l = eqb-true b.0 a.0 (and_parts (b.0 == a.0) (nat_lt (rank b.1) (rank a.1)) f).0 in omega (arith, l))
        (or_cases (nat_lt b.0 a.0) (b.0 == a.0 && nat_lt (rank b.1) (rank a.1)) e)
    by false e = omega arith

least_of : (a : Holder) (best : Option Holder) → (lesser a best).0 ≤ a.0
least_of a None = omega arith
least_of a (Some b) = least_right a b

-- there is a least, and it is no greater
record Least (best : Option Holder) (hs : List Holder) (n : ℕ) : Type 0 where
  holder : Holder
  is : fold least_with best hs ≡ Some holder
  least : holder.0 ≤ n

best_least : (hs : List Holder) (b : Holder) → Least (Some b) hs b.0
best_least [] b = record { holder = b; is = refl; least = omega arith }
best_least (h ∷ hs) b = let w = best_least hs (lesser h (Some b)) in let l = w.least in let k = least_left h b in record { holder = w.holder; is = w.is; least = omega (arith, l, k) }

one_least : (hs : List Holder) (a : Holder) → In a hs → (best : Option Holder) → Least best hs a.0
one_least [] a i best = absurd i
one_least (h ∷ hs) a (inl e) best = let w = best_least hs (lesser h best) in let l = w.least in let k = least_of h best in let q : h.0 ≡ a.0 = ap (λ (z : Holder). z.0) e in record { holder = w.holder; is = w.is; least = omega (arith, l, k, q) }
one_least (h ∷ hs) a (inr i) best = let w = one_least hs a i (least_with best h) in record { holder = w.holder; is = w.is; least = w.least }

-- ---- who bars a want

module _ (id : ℕ) (request : LockRequest) where
  in_barring : (hs : List Hold) (h : Hold) → In h hs → bars id request h ≡ true → In (holder_of h) (map holder_of (filter (bars id request) hs))
  in_barring [] h i e = absurd i
  in_barring (g ∷ hs) h (inl same) e = subst (λ (z : Hold). In (holder_of z) (map holder_of (filter (bars id request) (g ∷ hs)))) same (here (bars id request g) (ap (bars id request) same ∙ e))
    where
      here : (c : Bool) → c ≡ true → In (holder_of g) (map holder_of (cond c (g ∷ filter (bars id request) hs) (filter (bars id request) hs)))
      here true f = inl refl
      here false f = cc
  in_barring (g ∷ hs) h (inr i) e = later (bars id request g) (in_barring hs h i e)
    where
      later : (c : Bool) → In (holder_of h) (map holder_of (filter (bars id request) hs)) → In (holder_of h) (map holder_of (cond c (g ∷ filter (bars id request) hs) (filter (bars id request) hs)))
      later true k = inr k
      later false k = k

  -- whoever bars it is no less than the barrier
  record Barrier (hs : List Hold) (n : ℕ) : Type 0 where
    holder : Holder
    is : barrier hs id request ≡ Some holder
    least : holder.0 ≤ n

  barrier_least : (hs : List Hold) (h : Hold) → In h hs → bars id request h ≡ true → Barrier hs h.tx
  unfolding barrier
  barrier_least hs h i e = let w = one_least (map holder_of (filter (bars id request) hs)) (holder_of h) (in_barring hs h i e) None in record { holder = w.holder; is = w.is; least = w.least }

  -- and the barrier bars it
  barrier_bars : (hs : List Hold) (a : Holder) → barrier hs id request ≡ Some a → BlockedBy hs id request a.0
  barrier_bars hs a e = let b = blocked id request hs a e in record {
    hold = b.hold;
    has = b.has;
    is = b.is;
    in_way = ap₂ (λ (p q : Bool). not p && q) (ne_eqb b.hold.tx id b.foreign) (⊎_elim (λ (f : request ≡ b.request). ap (λ (w : LockRequest). requests_conflict w b.hold.request) f ∙ b.conflicts) (λ (f : ⊥). absurd f) b.wanted);
  }

-- ---- the first conflict

-- none is named where nobody bars a want
pub none_first : (hs : List Hold) (id : ℕ) (ws : List LockRequest) → ((w : LockRequest) → In w ws → (h : Hold) → In h hs → bars id w h ≡ true → ⊥) → first_conflict hs id ws ≡ None
unfolding first_conflict
none_first hs id [] none = refl
none_first hs id (w ∷ ws) none = by (barrier hs id w) refl (none_first hs id ws (λ u i. none u (inr i)))
  where
    by : (b : Option Holder) → barrier hs id w ≡ b → first_conflict hs id ws ≡ None → conflict_or b w.item (first_conflict hs id ws) ≡ None
    by None e rest = rest
    by (Some a) e rest = let b = barrier_bars id w hs a e in absurd (none w (inl refl) b.hold b.has b.in_way)

abbrev number_of : Option Holder → Option ℕ
number_of None = None
number_of (Some a) = Some a.0

some_same : (a b : Holder) → Some a ≡ Some b → a.0 ≡ b.0
some_same a b e = cc

module _ (L M : List Hold) (id : ℕ) where
  -- whoever bars a want here bars it there
  abbrev pub BarsToo : LockRequest → Type 0
  BarsToo w = (h : Hold) → In h L → bars id w h ≡ true → BlockedBy M id w h.tx

module _ (L M : List Hold) (id : ℕ) where
  same_barrier : (w : LockRequest) → BarsToo L M id w → BarsToo M L id w → number_of (barrier L id w) ≡ number_of (barrier M id w)
  same_barrier w there here = by (barrier L id w) (barrier M id w) refl refl
    where
      no_less : (K N : List Hold) (a b : Holder) → BarsToo K N id w → barrier K id w ≡ Some a → barrier N id w ≡ Some b → b.0 ≤ a.0
      no_less K N a b too e f = let h = barrier_bars id w K a e in let g = too h.hold h.has h.in_way in let r = barrier_least id w N g.hold g.has g.in_way in
          let p : r.holder.0 ≡ b.0 = some_same r.holder b (sym r.is ∙ f) in let l = r.least in let m : g.hold.tx ≡ a.0 = g.is ∙ h.is in omega (arith, p, l, m)

      some_too : (K N : List Hold) (a : Holder) → BarsToo K N id w → barrier K id w ≡ Some a → barrier N id w ≡ None → ⊥
      some_too K N a too e f = let h = barrier_bars id w K a e in let g = too h.hold h.has h.in_way in let r = barrier_least id w N g.hold g.has g.in_way in
          let q : Some r.holder ≡ None = sym r.is ∙ f in cc

      by : (a b : Option Holder) → barrier L id w ≡ a → barrier M id w ≡ b → number_of a ≡ number_of b
      by None None e f = refl
      by (Some a) None e f = absurd (some_too L M a there e f)
      by None (Some b) e f = absurd (some_too M L b here f e)
      by (Some a) (Some b) e f = let l = no_less L M a b there e f in let k = no_less M L b a here f e in ap Some (let q : a.0 ≡ b.0 = omega (arith, l, k) in q)

  one_or : (a b : Option Holder) (i : Item) (p q : Option Conflict) → number_of a ≡ number_of b → holder_named p ≡ holder_named q → holder_named (conflict_or a i p) ≡ holder_named (conflict_or b i q)
  one_or None None i p q e f = f
  one_or (Some a) (Some b) i p q e f = e
  one_or (Some a) None i p q e f = cc
  one_or None (Some b) i p q e f = cc

  pub same_first : (ws : List LockRequest) → ((w : LockRequest) → In w ws → BarsToo L M id w) → ((w : LockRequest) → In w ws → BarsToo M L id w) → holder_named (first_conflict L id ws) ≡ holder_named (first_conflict M id ws)
  unfolding first_conflict
  same_first [] there here = refl
  same_first (w ∷ ws) there here = one_or (barrier L id w) (barrier M id w) w.item (first_conflict L id ws) (first_conflict M id ws) (same_barrier w (there w (inl refl)) (here w (inl refl))) (same_first ws (λ u i. there u (inr i)) (λ u i. here u (inr i)))
