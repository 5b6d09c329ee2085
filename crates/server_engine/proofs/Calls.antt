-- What the calls of a core ask of each other.
use Rattle.std.proofs.Common.{◌≡◌, ◌≢◌, ◌⊎◌, ◌<◌, ℕ, zero, suc, Bool, true, false, MatchBool, List, [], ◌∷◌, ◌++◌, Option, Some, None, Result, Ok, Err, OnErr, OnOk, length, refl, sym, ap, subst, ◌∙◌, inr, ⊎_elim, arith}
use mathlib.Core.Option.{some, some-injective, some-ne-none}
use lib.ListN.{get_elem?}
use Rattle.spec_history.specs.Lists.{Text}
use Rattle.spec_protocol.specs.Cells.{ledger_at}
use Rattle.spec_protocol.proofs.Places.{set_else, set_here}
use Rattle.server_session.specs.KeptCell.{KeptCell}
use Rattle.server_session.specs.Needs.{need_of}
use Rattle.server_session.specs.ControlPoints.{IsAnswering, IsBegun, IsBetween, IsInside, IsLeaving, IsLeavingAt, KeepsStatement, IsSamePhase}
use Rattle.server_session.specs.Rest.{MayEndSession, MayEndSessionAt}
use Rattle.server_session.specs.Steps.{items_in, items_of}
use Rattle.server_session.specs.declared.need.NextVisit.TheVariants as need
use Rattle.server_session.specs.declared.running.Running.{Running}
use Rattle.server_session.specs.declared.seat.Seat.{Seat}
use Rattle.server_session.specs.declared.stage.ControlPoint.{ControlPoint}
use Rattle.server_session.specs.declared.stage.ControlPoint.TheVariants.{Between, Inside, Leaving, Over}
use Rattle.server_engine.specs.CoreInput.{CoreInput}
use Rattle.server_engine.specs.IsMidway.{ChangesSession, IsAtSessionEnd, IsMidway, IsReady, TookUp, WentOn, WentToEnd}
use Rattle.server_engine.specs.Standing.{Found, IsOpen, OthersStay, Stands}
use Rattle.server_engine.specs.declared.one_thread.Core.{Core}
use Rattle.server_engine.specs.declared.session.Session.{Session}
use Rattle.server_engine.proofs.Holding as holding
use Rattle.server_engine.proofs.Ends.{session_count}
use Rattle.server_engine.proofs.Midways.{found_is, same_at, turned_on}
use Rattle.server_engine.proofs.Pairs.{last_at, last_else, near}
use Rattle.server_engine.proofs.Turns as turns
use Rattle.server_engine.proofs.Within.{need_within}

module _ {H : Type 0} (c : Core H) (j : ℕ) where
  -- an open session is there
  pub open_near : IsOpen c j → j < length c.sessions.items
  open_near o = let f = found_is (λ (y : Session H). IsBetween y.seat) (get_elem? c.sessions.items j) o in near c.sessions.items j f.0 f.1

  pub open_between : IsOpen c j → (y : Session H) → get_elem? c.sessions.items j ≡ some y → IsBetween y.seat
  open_between o y e = let f = found_is (λ (y : Session H). IsBetween y.seat) (get_elem? c.sessions.items j) o in
      same_at c.sessions.items j y (λ (u : Session H). IsBetween u.seat) e f.0 f.1 f.2

  -- one that is ready
  pub ready_is : IsReady c j → (y : Session H) → get_elem? c.sessions.items j ≡ some y → IsBetween y.seat × (y.answer ≡ None)
  ready_is o y e = let f = found_is (λ (y : Session H). IsBetween y.seat × (y.answer ≡ None)) (get_elem? c.sessions.items j) o in
      same_at c.sessions.items j y (λ (u : Session H). IsBetween u.seat × (u.answer ≡ None)) e f.0 f.1 f.2

  pub ready_near : IsReady c j → j < length c.sessions.items
  ready_near o = let f = found_is (λ (y : Session H). IsBetween y.seat × (y.answer ≡ None)) (get_elem? c.sessions.items j) o in near c.sessions.items j f.0 f.1

  -- who changed alone left the others
  pub turned_others : (d : Core H) (P : Seat H → Seat H → Type 0) → ChangesSession P j c d → OthersStay j c d
  turned_others d P t k ne = ap (λ (ys : List (Session H)). get_elem? ys k) t.are ∙ set_else c.sessions.items j k t.z ne

  pub turned_found : (d : Core H) (P : Seat H → Seat H → Type 0) (Q : Session H → Type 0) → ((y z : Session H) → P y.seat z.seat → Q z) → ChangesSession P j c d → Found Q (get_elem? d.sessions.items j)
  turned_found d P Q f t = subst (Found Q) (sym (ap (λ (ys : List (Session H)). get_elem? ys j) t.are ∙ set_here c.sessions.items j t.z t.y t.there)) (f t.y t.z t.went)

  module _ (digest : H → List ℕ → List ℕ) (h : H) (a : CoreInput) (m : IsMidway digest h c a j) where
    pub midway_near : j < length c.sessions.items
    midway_near = near c.sessions.items j m.y m.there

    pub midway_at : (P : Session H → Type 0) → P m.y → (y : Session H) → get_elem? c.sessions.items j ≡ some y → P y
    midway_at P p y e = same_at c.sessions.items j y P e m.y m.there p

    -- what holds of the seat there
    pub seat_of_midway : (y : Session H) → get_elem? c.sessions.items j ≡ some y → (P : Seat H → Type 0) → P y.seat → P m.y.seat
    seat_of_midway y e P p = same_at c.sessions.items j m.y (λ (u : Session H). P u.seat) m.there y e p

    -- the cell that is needed is there
    pub cell_near : (i : ℕ) → need_of m.y.seat ≡ need.Cell i → i < length c.cells.items
    cell_near i e = let n = need_within digest h m.y.seat _ (turns.its_sits digest h a j c m m.y m.there) i e in let k = holding.as_many digest h m.holds in omega (arith, n, k)

-- a session more
module _ {H : Type 0} (xs ys : List (Session H)) (y : Session H) (n : ℕ) (are : ys ≡ xs ++ y ∷ []) (count : n ≡ length xs) where
  pub last_open : IsBetween y.seat → Found (λ (u : Session H). IsBetween u.seat) (get_elem? ys n)
  last_open b = subst (Found (λ (u : Session H). IsBetween u.seat)) (sym (ap (λ (k : ℕ). get_elem? ys k) count ∙ ap (λ (zs : List (Session H)). get_elem? zs (length xs)) are ∙ last_at xs y)) b

  pub last_others : (k : ℕ) → k ≢ n → get_elem? ys k ≡ get_elem? xs k
  last_others k ne = ap (λ (zs : List (Session H)). get_elem? zs k) are ∙ last_else xs y k (λ e. ne (e ∙ sym count))

-- the items of the journal
pub items_there : (cells : List KeptCell) (x : KeptCell) → get_elem? cells ledger_at ≡ some x → length (items_of x.cell) ≡ items_in cells
items_there [] x e = absurd (some-ne-none x (sym e))
items_there (c ∷ []) x e = absurd (some-ne-none x (sym e))
items_there (c ∷ d ∷ cells) x e = ap (λ (u : KeptCell). length (items_of u.cell)) (sym (some-injective d x e))

-- ---- one call after another

pub others_on : {H : Type 0} (j : ℕ) (b c d : Core H) → OthersStay j b c → OthersStay j c d → OthersStay j b d
others_on j b c d p q k ne = q k ne ∙ p k ne

-- the session that changed is there
pub turned_there : {H : Type 0} (j : ℕ) (c d : Core H) (P : Seat H → Seat H → Type 0) (t : ChangesSession P j c d) → get_elem? d.sessions.items j ≡ some t.z
turned_there {H} j c d P t = ap (λ (ys : List (Session H)). get_elem? ys j) t.are ∙ set_here c.sessions.items j t.z t.y t.there

abbrev pub IsDoneInside : {H : Type 0} → Seat H → Seat H → Type 0
IsDoneInside y z = (IsInside z × (IsBegun z → ⊥)) × (need_of z ≡ need.Done)

abbrev pub IsDoneAtEnd : {H : Type 0} → Seat H → Seat H → Type 0
IsDoneAtEnd y z = (MayEndSession z ⊎ IsLeaving z) × (need_of z ≡ need.Done)

-- who may end stays nowhere
ends_nowhere : {H : Type 0} (p q : ControlPoint) (r : Option (Running H)) → MayEndSessionAt p r → IsSamePhase p q → IsLeavingAt q
ends_nowhere Between q None e s = absurd s
ends_nowhere Between q (Some r) e s = absurd e
ends_nowhere (Inside stage) q r e s = absurd e
ends_nowhere Leaving q None e s = absurd e
ends_nowhere Leaving q (Some r) e s = s
ends_nowhere Over q r e s = absurd e

leaves_on : (p q : ControlPoint) → IsLeavingAt p → IsSamePhase p q → IsLeavingAt q
leaves_on Between q l s = absurd l
leaves_on (Inside stage) q l s = absurd l
leaves_on Leaving q l s = s
leaves_on Over q l s = absurd l

pub still_ending : {H : Type 0} (y z : Seat H) → IsAtSessionEnd y y → WentOn y z → MayEndSession z ⊎ IsLeaving z
still_ending {H} y z f w = ⊎_elim
    (λ (e : z ≡ y). subst (λ (u : Seat H). MayEndSession u ⊎ IsLeaving u) (sym e) f)
    (λ (s : KeepsStatement y z). ⊎_elim (λ (e : MayEndSession y). inr (ends_nowhere y.point z.point y.running e s.point)) (λ l. inr (leaves_on y.point z.point l s.point)) f) w

module _ {H : Type 0} (digest : H → List ℕ → List ℕ) (h : H) (a : CoreInput) (j : ℕ) (b c d : Core H) (m : IsMidway digest h d a j) where
  -- a statement was taken up, and needs nothing more: its answer is there
  pub answer_ready : ChangesSession TookUp j b c → ChangesSession WentToEnd j c d → IsAnswering m.y.seat × (need_of m.y.seat ≡ need.Done)
  answer_ready s t = let u = turned_on j b c d TookUp WentToEnd IsDoneInside (λ x y z p q. (turns.still_inside y z p q.0, q.1)) s t in
      let there = turned_there j b d IsDoneInside u in
      same_at d.sessions.items j m.y (λ (y : Session H). IsAnswering y.seat × (need_of y.seat ≡ need.Done)) m.there u.z there
      (turns.may_answer digest h a j d m u.z there u.went.0.0 u.went.0.1 u.went.1, u.went.1)

  -- a session came to its end, and needs nothing more: it may be over
  pub leave_ready : ChangesSession IsAtSessionEnd j b c → ChangesSession WentToEnd j c d → MayEndSession m.y.seat
  leave_ready s t = let u = turned_on j b c d IsAtSessionEnd WentToEnd IsDoneAtEnd (λ x y z p q. (still_ending y z p q.0, q.1)) s t in
      let there = turned_there j b d IsDoneAtEnd u in
      same_at d.sessions.items j m.y (λ (y : Session H). MayEndSession y.seat) m.there u.z there
      (⊎_elim (λ (e : MayEndSession u.z.seat). e) (λ l. turns.may_leave digest h a j d m u.z there l u.went.1) u.went.0)

-- the name of an open session
pub name_there : {H : Type 0} (digest : H → List ℕ → List ℕ) (h : H) (a : CoreInput) (c : Core H) → Stands digest h c a → (j : ℕ) → j < length c.sessions.items → (name : Text) × (get_elem? a.names j ≡ some name)
name_there digest h a c m j l = let n = session_count digest h a c m in element_there a.names j (omega (arith, l, n))
  where
    element_there : (names : List Text) (k : ℕ) → k < length names → (name : Text) × (get_elem? names k ≡ some name)
    element_there [] k l = absurd (omega (arith, l))
    element_there (n ∷ ns) zero l = (n, refl)
    element_there (n ∷ ns) (suc k) l = element_there ns k (omega (arith, l))

-- ---- answers of a test

pub when_true : (P Q : Type 0) (b : Bool) → b ≡ true → MatchBool b P Q → P
when_true P Q true e p = p
when_true P Q false e p = absurd (let f : false ≡ true = e in cc)

pub when_false : (P Q : Type 0) (b : Bool) → b ≡ false → MatchBool b P Q → Q
when_false P Q true e p = absurd (let f : true ≡ false = e in cc)
when_false P Q false e p = p

-- ---- want of memory

pub when_err : {T E P : Type 0} (r : Result T E) → P → OnErr r P
when_err (Ok x) p = tt
when_err (Err e) p = p

pub ok_map : {T E P Q : Type 0} (r : Result T E) → (P → Q) → OnOk r P → OnOk r Q
ok_map (Ok x) f p = f p
ok_map (Err e) f p = tt

pub err_map : {T E P Q : Type 0} (r : Result T E) → (P → Q) → OnErr r P → OnErr r Q
err_map (Ok x) f p = tt
err_map (Err e) f p = f p
