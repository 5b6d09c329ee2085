-- The lock that is in the way: who is named holds it, and it conflicts with one of the wants.
use Rattle.std.proofs.Common.{◌≡◌, ◌≢◌, ◌⊎◌, ℕ, Bool, true, false, cond, List, [], ◌∷◌, map, Option, Some, None, refl, sym, ap, ◌∙◌, inl, inr, ⊎_elim}
use Rattle.std.proofs.lemmas.Bool.{eq-eqb}
use Rattle.std.specs.Prelude.{◌==◌, ◌&&◌, not, if◌then◌else◌}
use Rattle.std.specs.List.{filter, fold}
use Rattle.sql_types.specs.declared.lock.Hold.{Hold}
use Rattle.sql_types.specs.declared.lock.LockRequest.{LockRequest}
use Rattle.spec_model.specs.Locks.{requests_conflict}
use Rattle.spec_model.specs.InTheWay.{Conflict, Holder, barrier, bars, conflict_or, first_conflict, holder_of, least_with, precedes}
use Rattle.spec_history.specs.Lists.{In}

-- this holder's lock conflicts with a want
pub record Bars (holds : List Hold) (id : ℕ) (requests : List LockRequest) (holder : ℕ) : Type 0 where
  pub hold : Hold
  pub has : In hold holds
  pub is : hold.tx ≡ holder
  pub foreign : hold.tx ≢ id
  pub request : LockRequest
  pub wanted : In request requests
  pub conflicts : requests_conflict request hold.request ≡ true

-- the least is one of them
one_of : (a : Holder) (best : Option Holder) (h : Holder) → least_with best h ≡ Some a → (best ≡ Some a) ⊎ (h ≡ a)
one_of a None h e = inr cc
one_of a (Some b) h e = by (precedes b h) e
  where
    by : (c : Bool) → Some (if c then b else h) ≡ Some a → (Some b ≡ Some a) ⊎ (h ≡ a)
    by true f = inl f
    by false f = inr cc

among : (hs : List Holder) (best : Option Holder) (a : Holder) → fold least_with best hs ≡ Some a → (best ≡ Some a) ⊎ In a hs
among [] best a e = inl e
among (h ∷ hs) best a e = ⊎_elim
    (λ (f : least_with best h ≡ Some a). ⊎_elim (λ (g : best ≡ Some a). inl g) (λ (g : h ≡ a). inr (inl g)) (one_of a best h f))
    (λ (k : In a hs). inr (inr k)) (among hs (least_with best h) a e)

none_best : (a : Holder) (hs : List Holder) → (None ≡ Some a) ⊎ In a hs → In a hs
none_best a hs (inl e) = absurd cc
none_best a hs (inr k) = k

both : (a b : Bool) → (a && b) ≡ true → (a ≡ true) × (b ≡ true)
both true b e = (refl, e)
both false b e = cc

module _ (id : ℕ) (request : LockRequest) where
  foreign_to : (h : Hold) → not (h.tx == id) ≡ true → h.tx ≢ id
  foreign_to h f same = let e : (h.tx == id) ≡ true = eq-eqb h.tx id same in let no : not true ≡ true = ap not (sym e) ∙ f in cc

  -- who is among those that bar the want
  barring : (hs : List Hold) (a : Holder) → In a (map holder_of (filter (bars id request) hs)) → Bars hs id (request ∷ []) a.0
  barring [] a i = absurd i
  barring (h ∷ hs) a i = by (bars id request h) refl (barring hs a) i
    where
      later : Bars hs id (request ∷ []) a.0 → Bars (h ∷ hs) id (request ∷ []) a.0
      later b = record { hold = b.hold; has = inr b.has; is = b.is; foreign = b.foreign; request = b.request; wanted = b.wanted; conflicts = b.conflicts }

      by : (c : Bool) → bars id request h ≡ c → (In a (map holder_of (filter (bars id request) hs)) → Bars hs id (request ∷ []) a.0) → In a (map holder_of (cond c (h ∷ filter (bars id request) hs) (filter (bars id request) hs))) → Bars (h ∷ hs) id (request ∷ []) a.0
      by true e rest (inl f) = let p = both (not (h.tx == id)) (requests_conflict request h.request) e in
          record { hold = h; has = inl refl; is = ap (λ (z : Holder). z.0) f; foreign = foreign_to h p.0; request = request; wanted = inl refl; conflicts = p.1 }
      by true e rest (inr k) = later (rest k)
      by false e rest k = later (rest k)

  pub blocked : (hs : List Hold) (a : Holder) → barrier hs id request ≡ Some a → Bars hs id (request ∷ []) a.0
  unfolding barrier
  blocked hs a e = barring hs a (none_best a _ (among (map holder_of (filter (bars id request) hs)) None a e))

first_by : (hs : List Hold) (id : ℕ) (w : LockRequest) (ws : List LockRequest) (c : Conflict) (b : Option Holder) → barrier hs id w ≡ b → conflict_or b w.item (first_conflict hs id ws) ≡ Some c
    → (first_conflict hs id ws ≡ Some c → Bars hs id ws c.0.0) → Bars hs id (w ∷ ws) c.0.0
first_by hs id w ws c (Some a) f e rest = let z = blocked id w hs c.0 (f ∙ ap Some (let q : a ≡ c.0 = cc in q)) in
    record { hold = z.hold; has = z.has; is = z.is; foreign = z.foreign; request = z.request; wanted = ⊎_elim (λ (g : w ≡ z.request). inl g) (λ (g : ⊥). absurd g) z.wanted; conflicts = z.conflicts }
first_by hs id w ws c None f e rest = let z = rest e in
    record { hold = z.hold; has = z.has; is = z.is; foreign = z.foreign; request = z.request; wanted = inr z.wanted; conflicts = z.conflicts }

-- the first conflict names a holder whose lock conflicts with a want
pub first_bars : (hs : List Hold) (id : ℕ) (requests : List LockRequest) (c : Conflict) → first_conflict hs id requests ≡ Some c → Bars hs id requests c.0.0
unfolding first_conflict
first_bars hs id [] c e = absurd cc
first_bars hs id (w ∷ ws) c e = first_by hs id w ws c (barrier hs id w) refl e (first_bars hs id ws c)
