-- Seats after one of them changed, which stays with a transaction.
use Rattle.std.proofs.Common.{◌≡◌, ◌≢◌, ℕ, List, Some, set, sym, ap, ◌∙◌, subst, ⊎_elim}
use Rattle.std.proofs.lemmas.Bool.{cases_eq}
use mathlib.Core.Option.{some}
use Rattle.spec_protocol.specs.Seats.{OpenTransaction, Session, session, SeatState}
use Rattle.spec_protocol.specs.OpenOnes.{HasOpen}
use Rattle.law_protocol_steps.proofs.AfterSet.{set_here, set_else}

-- seat j is with session x and its transaction o before, and with y and p after
pub record Goes (seats : List SeatState) (j : ℕ) (t : SeatState) (x : Session) (o : OpenTransaction) (y : Session) (p : OpenTransaction) : Type 0 where
  pub before : HasOpen seats j x o
  pub role : t.role ≡ session y
  pub open_one : y.open_one ≡ Some p

-- a seat has one session, and a session one transaction
pub one_session : (seats : List SeatState) (j : ℕ) (x y : Session) (o p : OpenTransaction) → HasOpen seats j x o → HasOpen seats j y p → (x ≡ y) × (o ≡ p)
one_session seats j x y o p h k =
    let found : some h.seat ≡ some k.seat = sym h.there ∙ k.there in
    let seat : h.seat ≡ k.seat = cc in
    let roles : session x ≡ session y = sym h.role ∙ ap (λ (s : SeatState). s.role) seat ∙ k.role in
    let same : x ≡ y = cc in
    let opens : Some o ≡ Some p = sym h.open_one ∙ ap (λ (s : Session). s.open_one) same ∙ k.open_one in
    (same, cc)

module _ (seats : List SeatState) (j : ℕ) (t : SeatState) (x : Session) (o : OpenTransaction) (y : Session) (p : OpenTransaction) (g : Goes seats j t x o y p) where
  pub open_here : HasOpen (set seats j t) j y p
  open_here = record { seat = t; there = set_here seats j g.before.seat t g.before.there; role = g.role; open_one = g.open_one }

  pub open_else : (k : ℕ) (z : Session) (r : OpenTransaction) → k ≢ j → HasOpen seats k z r → HasOpen (set seats j t) k z r
  open_else k z r n h = record { seat = h.seat; there = set_else seats j k t n ∙ h.there; role = h.role; open_one = h.open_one }

  was_else : (k : ℕ) (z : Session) (r : OpenTransaction) → k ≢ j → HasOpen (set seats j t) k z r → HasOpen seats k z r
  was_else k z r n h = record { seat = h.seat; there = sym (set_else seats j k t n) ∙ h.there; role = h.role; open_one = h.open_one }

  module _ (P : ℕ → Session → OpenTransaction → Type 0) where
    -- what holds of this seat after it, and of each other, holds of each
    pub each_open : P j y p → ((k : ℕ) (z : Session) (r : OpenTransaction) → k ≢ j → HasOpen seats k z r → P k z r) → (k : ℕ) (z : Session) (r : OpenTransaction) → HasOpen (set seats j t) k z r → P k z r
    each_open here there k z r h = ⊎_elim
        (λ (e : k ≡ j). let at : HasOpen (set seats j t) j z r = subst (λ (n : ℕ). HasOpen (set seats j t) n z r) e h in
        let same = one_session (set seats j t) j y z p r open_here at in
        subst (λ (n : ℕ). P n z r) (sym e) (subst (λ (s : Session). P j s r) same.0 (subst (λ (q : OpenTransaction). P j y q) same.1 here)))
        (λ (n : k ≢ j). there k z r n (was_else k z r n h))
        (cases_eq k j)

    -- and what held of each before, where it stays at this one
    pub kept_open : (P j x o → P j y p) → ((k : ℕ) (z : Session) (r : OpenTransaction) → HasOpen seats k z r → P k z r) → (k : ℕ) (z : Session) (r : OpenTransaction) → HasOpen (set seats j t) k z r → P k z r
    kept_open here all = each_open (here (all j x o g.before)) (λ k z r n h. all k z r h)
