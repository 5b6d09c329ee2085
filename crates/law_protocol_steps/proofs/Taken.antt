-- Locks that are taken: those that were there stay, the wants are held, and who is in the way of none of them changes none of their rows.
use Rattle.std.proofs.Common.{◌≡◌, ◌≢◌, ◌⊎◌, ℕ, Bool, true, false, List, [], ◌∷◌, ◌++◌, refl, sym, ap, ap₂, ◌∙◌, inl, inr, ⊎_elim}
use Rattle.std.proofs.lemmas.Bool.{eqb-true, eq-eqb}
use Rattle.std.specs.Prelude.{◌==◌, ◌&&◌, ◌||◌, not, if◌then◌else◌}
use Rattle.std.specs.List.{list_any, filter}
use Rattle.sql_types.specs.declared.lock.Mode.{Mode}
use Rattle.sql_types.specs.declared.lock.Mode.TheVariants.{IS, IX, S, X}
use Rattle.sql_types.specs.declared.lock.Item.{Item}
use Rattle.sql_types.specs.declared.lock.Item.TheVariants as item
use Rattle.sql_types.specs.declared.lock.LockRequest.{LockRequest}
use Rattle.spec_model.specs.Keys.{Key, same_key}
use Rattle.spec_model.specs.Locks.{conflict, same_item, requests_conflict}
use Rattle.law_frame.proofs.SameKeys.{same_key_as, same_itself, and_true}
use Rattle.spec_history.specs.Lists.{Each, In}
use Rattle.spec_history.proofs.Settles.{in_append, in_left, in_right}
use Rattle.sql_types.specs.declared.lock.Hold.{Hold}
use Rattle.spec_protocol.specs.RequestsIn.{Holds}
use Rattle.spec_model.specs.Holds.{answers, released}
use Rattle.spec_model.specs.Holds.{holds_after, holds_any, holds_request, same_mode}

abbrev pub taken : ℕ → List LockRequest → List Hold → List Hold
taken id requests holds = holds_after holds id requests

abbrev pub holds_none : ℕ → List Hold → Bool
holds_none id holds = not (holds_any holds id)

-- no lock of another transaction conflicts with one of these wants
abbrev pub AreFree : List Hold → ℕ → List LockRequest → Type 0
AreFree holds id requests = Each (λ w. Each (λ h. h.tx ≢ id → requests_conflict w h.request ≡ false) holds) requests

-- ---- items

pub keys_turned : (a b : Key) (p q : Bool) → same_key a b ≡ p → same_key b a ≡ q → p ≡ q
keys_turned a b true true e f = refl
keys_turned a b false false e f = refl
keys_turned a b true false e f = sym (same_itself b) ∙ sym (same_key_as a b b e) ∙ e ∙ let z : same_key b a ≡ true = sym (same_key_as a b a e) ∙ same_itself a in sym z ∙ f
keys_turned a b false true e f = sym e ∙ sym (let z : same_key a b ≡ true = sym (same_key_as b a b f) ∙ same_itself b in sym z)

items_turned : (x y : Item) → same_item x y ≡ same_item y x
unfolding same_item
items_turned item.Whole item.Whole = refl
items_turned item.Whole (item.Key k) = refl
items_turned (item.Key k) item.Whole = refl
items_turned (item.Key a) (item.Key b) = keys_turned a b (same_key a b) (same_key b a) refl refl

-- ---- what is among the locks

module _ (id : ℕ) where
  add_keeps : (b : Bool) (w : LockRequest) (holds : List Hold) (h : Hold) → In h holds → In h (if b then holds else holds ++ record { tx = id; request = w } ∷ [])
  add_keeps true w holds h i = i
  add_keeps false w holds h i = in_left h holds _ i

  pub taken_keeps : (ws : List LockRequest) (holds : List Hold) (h : Hold) → In h holds → In h (taken id ws holds)
  unfolding holds_after
  taken_keeps [] holds h i = i
  taken_keeps (w ∷ ws) holds h i = taken_keeps ws _ h (add_keeps (holds_request holds id w) w holds h i)

  add_comes : (b : Bool) (w : LockRequest) (holds : List Hold) (h : Hold) → In h (if b then holds else holds ++ record { tx = id; request = w } ∷ []) → In h holds ⊎ ((h.tx ≡ id) × (w ≡ h.request))
  add_comes true w holds h i = inl i
  add_comes false w holds h i = ⊎_elim (λ (k : In h holds). inl k)
      (λ (k : In h (record { tx = id; request = w } ∷ [])). ⊎_elim (λ (e : record { tx = id; request = w } ≡ h). inr (ap (λ (z : Hold). z.tx) (sym e), ap (λ (z : Hold). z.request) e)) (λ (z : ⊥). absurd z) k)
      (in_append h holds _ i)

  -- a lock was there, or it is one of the wants
  pub taken_comes : (ws : List LockRequest) (holds : List Hold) (h : Hold) → In h (taken id ws holds) → In h holds ⊎ ((h.tx ≡ id) × In h.request ws)
  unfolding holds_after
  taken_comes [] holds h i = inl i
  taken_comes (w ∷ ws) holds h i = ⊎_elim
      (λ (k : In h (if holds_request holds id w then holds else holds ++ record { tx = id; request = w } ∷ [])). ⊎_elim (λ (m : In h holds). inl m) (λ (m : (h.tx ≡ id) × (w ≡ h.request)). inr (m.0, inl m.1)) (add_comes (holds_request holds id w) w holds h k))
      (λ (k : (h.tx ≡ id) × In h.request ws). inr (k.0, inr k.1))
      (taken_comes ws _ h i)

  -- ---- the wants are held

  same_modes : (m n : Mode) → same_mode m n ≡ true → m ≡ n
  same_modes IS IS e = refl
  same_modes IX IX e = refl
  same_modes S S e = refl
  same_modes X X e = refl
  same_modes IS IX e = cc
  same_modes IS S e = cc
  same_modes IS X e = cc
  same_modes IX IS e = cc
  same_modes IX S e = cc
  same_modes IX X e = cc
  same_modes S IS e = cc
  same_modes S IX e = cc
  same_modes S X e = cc
  same_modes X IS e = cc
  same_modes X IX e = cc
  same_modes X S e = cc

  pub itself : (x : Item) → same_item x x ≡ true
  unfolding same_item
  itself item.Whole = refl
  itself (item.Key k) = same_itself k

  held_at_head : (w : LockRequest) (h : Hold) (hs : List Hold) (b : Bool) → answers id w h ≡ b → (b ≡ false → Holds hs id w) → Holds (h ∷ hs) id w
  held_at_head w h hs true f later =
      let p = and_true (h.tx == id) _ f in let q = and_true (same_item w.item h.request.item) _ p.1 in
      record { hold = h; has = inl refl; mine = eqb-true h.tx id p.0; item = items_turned h.request.item w.item ∙ q.0; mode = sym (same_modes w.mode h.request.mode q.1) }
  held_at_head w h hs false f later = let k = later refl in record { hold = k.hold; has = inr k.has; mine = k.mine; item = k.item; mode = k.mode }

  found_held : (w : LockRequest) (holds : List Hold) → holds_request holds id w ≡ true → Holds holds id w
  unfolding holds_request
  found_held w [] e = cc
  found_held w (h ∷ hs) e =
      held_at_head w h hs (answers id w h) refl
      (λ f. found_held w hs (ap (λ (c : Bool). c || holds_request hs id w) (sym f) ∙ e))

  pub held_longer : (holds more : List Hold) (w : LockRequest) → ((h : Hold) → In h holds → In h more) → Holds holds id w → Holds more id w
  held_longer holds more w f k = record { hold = k.hold; has = f k.hold k.has; mine = k.mine; item = k.item; mode = k.mode }

  added : (b : Bool) (w : LockRequest) (holds : List Hold) → holds_request holds id w ≡ b → Holds (if b then holds else holds ++ record { tx = id; request = w } ∷ []) id w
  added true w holds e = found_held w holds e
  added false w holds e = record { hold = record { tx = id; request = w }; has = in_right _ holds _ (inl refl); mine = refl; item = itself w.item; mode = refl }

  pub taken_holds : (ws : List LockRequest) (holds : List Hold) → Each (Holds (taken id ws holds) id) ws
  unfolding holds_after
  taken_holds [] holds = tt
  taken_holds (w ∷ ws) holds = (
    held_longer _ _ w (λ h i. taken_keeps ws _ h i) (added (holds_request holds id w) w holds refl),
    taken_holds ws _,
  )

  -- ---- whoever held nothing here

  not_at_head : (h : Hold) (hs : List Hold) → holds_none id (h ∷ hs) ≡ true → (h.tx ≢ id) × (holds_none id hs ≡ true)
  unfolding holds_any
  not_at_head h hs e = by (h.tx == id) refl
    where
      by : (b : Bool) → (h.tx == id) ≡ b → (h.tx ≢ id) × (holds_none id hs ≡ true)
      by true f = absurd (let z : not (true || list_any (λ (x : Hold). x.tx == id) hs) ≡ true = ap (λ (c : Bool). not (c || list_any (λ (x : Hold). x.tx == id) hs)) (sym f) ∙ e in cc)
      by false f = ((λ m. let z : (h.tx == id) ≡ true = eq-eqb h.tx id m in cc), ap (λ (c : Bool). not (c || list_any (λ (x : Hold). x.tx == id) hs)) (sym f) ∙ e)

  pub held_nothing : (holds : List Hold) → holds_none id holds ≡ true → (h : Hold) → In h holds → h.tx ≢ id
  unfolding holds_any
  held_nothing [] e h i = absurd i
  held_nothing (g ∷ gs) e h i = let p = not_at_head g gs e in
      ⊎_elim (λ (k : g ≡ h). λ m. p.0 (ap (λ (x : Hold). x.tx) k ∙ m)) (λ (k : In h gs). held_nothing gs p.1 h k) i

-- ---- items and conflicts

pub whole_alone : (x : Item) → same_item x item.Whole ≡ true → x ≡ item.Whole
unfolding same_item
whole_alone item.Whole e = refl
whole_alone (item.Key k) e = cc

modes_turned : (m n : Mode) → conflict m n ≡ conflict n m
unfolding conflict
modes_turned IS IS = refl
modes_turned IS IX = refl
modes_turned IS S = refl
modes_turned IS X = refl
modes_turned IX IS = refl
modes_turned IX IX = refl
modes_turned IX S = refl
modes_turned IX X = refl
modes_turned S IS = refl
modes_turned S IX = refl
modes_turned S S = refl
modes_turned S X = refl
modes_turned X IS = refl
modes_turned X IX = refl
modes_turned X S = refl
modes_turned X X = refl

pub conflict_turned : (a b : LockRequest) → requests_conflict b a ≡ requests_conflict a b
conflict_turned a b = ap₂ (λ (p q : Bool). p && q) (items_turned b.item a.item) (modes_turned b.mode a.mode)

-- the locks that are left are those of others
pub released_is : (holds : List Hold) (id : ℕ) → released holds id ≡ filter (λ h. not (h.tx == id)) holds
unfolding released
released_is holds id = refl
