-- A seat takes up the builder's part, or lays it down; a session begins.
use Rattle.std.proofs.Common.{◌≡◌, ◌≢◌, ℕ, List, [], ◌++◌, flat_map, Option, Some, None, slice_set, refl, sym, ap, ◌∙◌, subst, ⊎_elim, ◌∷◌}
use Rattle.std.proofs.lemmas.Bool.{cases_eq}
use mathlib.Core.Option.{some, some-injective}
use lib.ListN.{get_elem?}
use Rattle.spec_history.specs.Lists.{Text, Each, In}
use Rattle.spec_history.specs.Acts.{Act, starts}
use Rattle.spec_history.proofs.Trace.{each_weaker}
use Rattle.spec_protocol.specs.Server.{Server}
use Rattle.spec_protocol.specs.Cells.{LedgerCell, Cell}
use Rattle.spec_protocol.specs.Contents.{contents, known}
use Rattle.spec_protocol.specs.Alone.{new_session, with_role}
use Rattle.spec_protocol.specs.Moves.{sits}
use Rattle.spec_protocol.specs.Parts.{all_of, Now}
use Rattle.spec_protocol.specs.Seats.{OpenTransaction, Session, Written, Role, idle, session, builder, SeatState}
use Rattle.spec_protocol.specs.StandTogether.{History, Stands, StandsAfter}
use Rattle.spec_protocol.specs.TranscriptsAgree.{session_moments, moments_of, IsMoment, ImagesNow, SeatAgrees, TranscriptsAgree}
use Rattle.law_protocol_steps.proofs.AloneTurns.{alone_stands, alone_after}
use Rattle.law_protocol_ledger.proofs.Begins.{begin_agrees, begin_owner}
use Rattle.law_protocol_changes.proofs.DigestsStand.{no_turn}
use Rattle.law_protocol_steps.proofs.OpenSeats.{Own}
use Rattle.spec_protocol.proofs.Places.{at_set, set_here, set_else}

-- a role without a session
abbrev pub Rests : Role → Type 0
Rests (session x) = ⊥
Rests _ = Unit {0}

now_rests : (v : Server) (h : List Act) (o : Option ℕ) (a b : Role) → Rests a → Rests b → Now h v.meaning o a → Now h v.meaning o b
now_rests v h None idle idle r t p = tt
now_rests v h None idle builder r t p = tt
now_rests v h None builder idle r t p = tt
now_rests v h None builder builder r t p = tt
now_rests v h o (session x) b r t p = absurd r
now_rests v h o a (session x) r t p = absurd t
now_rests v h (Some n) idle b r t p = absurd p
now_rests v h (Some n) builder b r t p = absurd p

images_rest : (v : Server) (h : List Act) (c : LedgerCell) (o : Option ℕ) (b : Role) → Rests b → ImagesNow v h c o b
images_rest v h c None b r = tt
images_rest v h c (Some n) idle r = tt
images_rest v h c (Some n) builder r = tt
images_rest v h c (Some n) (session x) r = absurd r

no_moments : (b : Role) → Rests b → session_moments b ≡ []
no_moments idle r = refl
no_moments builder r = refl
no_moments (session x) r = absurd r

owns_nothing : (s : SeatState) (a : Role) → s.role ≡ a → Rests a → (z : Session) (u : OpenTransaction) → Own s z u → ⊥
owns_nothing s a e r z u w = by_role a r (sym e ∙ w.role)
  where
    by_role : (b : Role) → Rests b → b ≡ session z → ⊥
    by_role idle r f = cc
    by_role builder r f = cc
    by_role (session x) r f = absurd r

module _ (v : Server) (cells : List Cell) (seats : List SeatState) {history : History} (st : Stands v history cells seats) (j : ℕ) (s : SeatState) (there : get_elem? seats j ≡ some s) (a b : Role) (role : s.role ≡ a) (rests : Rests a) (rests_then : Rests b) where
  abbrev t : SeatState
  t = with_role b s

  abbrev after : List SeatState
  after = slice_set seats j t

  abbrev agree : TranscriptsAgree v history st.ledger seats
  agree = st.transcripts_agree

  was : SeatAgrees v history st.ledger (agree.of_seat j) s
  was = agree.agree j s there

  seat_then : SeatAgrees v history st.ledger (agree.of_seat j) t
  seat_then = record {
    sessions = record { differ = was.sessions.differ; past = was.sessions.past; now = now_rests v history (agree.of_seat j).now a b rests rests_then (subst (Now history v.meaning (agree.of_seat j).now) role was.sessions.now); earlier = was.sessions.earlier };
    database = was.database;
    block_size = was.block_size;
    marks = was.marks;
    greatest = was.greatest;
    past_images = was.past_images;
    images = images_rest v history st.ledger (agree.of_seat j).now b rests_then;
  }

  all_seats : (k : ℕ) (u : SeatState) → get_elem? after k ≡ some u → SeatAgrees v history st.ledger (agree.of_seat k) u
  all_seats k u e = ⊎_elim
      (λ (f : (k ≡ j) × (t ≡ u)). subst (λ (w : SeatState). SeatAgrees v history st.ledger (agree.of_seat k) w) f.1 (subst (λ (i : ℕ). SeatAgrees v history st.ledger (agree.of_seat i) t) (sym f.0) seat_then))
      (λ (f : (k ≢ j) × (get_elem? seats k ≡ some u)). agree.agree k u f.1)
      (at_set seats j k t u e)

  all_own : (k : ℕ) (u : SeatState) → get_elem? after k ≡ some u → Each (λ i. agree.owner i ≡ k) (all_of (agree.of_seat k))
  all_own k u e = ⊎_elim
      (λ (f : (k ≡ j) × (t ≡ u)). subst (λ (l : ℕ). Each (λ i. agree.owner i ≡ l) (all_of (agree.of_seat l))) (sym f.0) (agree.own j s there))
      (λ (f : (k ≢ j) × (get_elem? seats k ≡ some u)). agree.own k u f.1)
      (at_set seats j k t u e)

  still_there : (k : ℕ) (u : SeatState) → get_elem? seats k ≡ some u → (w : SeatState) × (get_elem? after k ≡ some w)
  still_there k u e = ⊎_elim
      (λ (f : k ≡ j). (t, ap (get_elem? after) f ∙ set_here seats j t s there))
      (λ (f : k ≢ j). (u, set_else seats j k t f ∙ e))
      (cases_eq k j)

  same_moments : moments_of s ≡ moments_of t
  same_moments = ap (λ (l : List ℕ). flat_map (λ (w : Written). w.moments) s.written ++ l) (ap session_moments role ∙ no_moments a rests ∙ sym (no_moments b rests_then))

  moment : (time : ℕ) → IsMoment seats time → IsMoment after time
  moment time e = ⊎_elim
      (λ (f : e.j ≡ j). record { j = j; seat = t; there = set_here seats j t s there; is = subst (In time) same_moments (subst (λ (u : SeatState). In time (moments_of u)) (some-injective e.seat s (sym e.there ∙ ap (get_elem? seats) f ∙ there)) e.is) })
      (λ (f : e.j ≢ j). record { j = e.j; seat = e.seat; there = set_else seats j e.j t f ∙ e.there; is = e.is })
      (cases_eq e.j j)

  role_agrees : TranscriptsAgree v history st.ledger after
  role_agrees = record {
    good = agree.good;
    items = agree.items;
    next = agree.next;
    issued = agree.issued;
    of_seat = agree.of_seat;
    agree = all_seats;
    owner = agree.owner;
    own = all_own;
    count = agree.count;
    all = λ i l. let o = agree.all i l in let w = still_there (agree.owner i) o.0 o.1 in (w.0, w.1, o.2);
    no_others = agree.no_others;
    times = each_weaker (IsMoment seats) (IsMoment after) moment _ agree.times;
    made = each_weaker (λ g. IsMoment seats g.made) (λ g. IsMoment after g.made) (λ g. moment g.made) _ agree.made;
  }

  pub role_stands : Stands v history cells after
  role_stands = alone_stands v cells seats st j s there t history (no_turn v (contents cells) (known v.reads st.ledger.items) st.catalog.defs s t (owns_nothing s a role rests) (owns_nothing t b refl rests_then)) role_agrees

pub begin_stands : (v : Server) (cells : List Cell) (seats : List SeatState) {history : History} (st : Stands v history cells seats) (j : ℕ) (s : SeatState) (there : get_elem? seats j ≡ some s) → s.role ≡ idle → (name : Text) → StandsAfter v j history (starts name ∷ []) cells (slice_set seats j (sits s (new_session name s)))
begin_stands v cells seats {history} st j s there role name = alone_after v cells seats st j s there (sits s (new_session name s)) _
    (no_turn v (contents cells) (known v.reads st.ledger.items) st.catalog.defs s _ (owns_nothing s idle role tt) (λ z u w. new_owns z u w))
    (begin_agrees v st.ledger seats history st.transcripts_agree j s there role name) (begin_owner _ _ _ _ _ _ _ _ _ _)
  where
    new_owns : (z : Session) (u : OpenTransaction) → Own (sits s (new_session name s)) z u → ⊥
    new_owns z u w = let same : new_session name s ≡ z = cc in let no : None ≡ Some u = ap (λ y. y.open_one) same ∙ w.open_one in cc
