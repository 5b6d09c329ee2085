-- A session begins at an idle seat.
use Rattle.std.proofs.Common.{◌≡◌, ◌≢◌, ℕ, suc, ◌<◌, ◌≤◌, Bool, List, [], ◌∷◌, ◌++◌, map, flat_map, Option, Some, None, slice_set, refl, sym, ap, ◌∙◌, subst, inl, inr, ⊎_elim, append-nil, arith}
use Rattle.std.proofs.lemmas.Bool.{eq-eqb, ne_eqb, cases_eq}
use Rattle.std.specs.Prelude.{◌==◌, if◌then◌else◌}
use mathlib.Core.Option.{some, some-injective}
use lib.ListN.{get_elem?}
use Rattle.spec_history.specs.Lists.{Text, Each, In}
use Rattle.spec_history.specs.Serial.{Differ}
use Rattle.spec_history.specs.Facts.{Shows}
use Rattle.spec_history.specs.Transactions.{listed}
use Rattle.spec_history.specs.Transcripts.{Transcript}
use Rattle.spec_history.specs.Acts.{SessionAct, starts, Act, of, marked}
use Rattle.spec_history.specs.Sessions.{SessionState, unborn, runs, gone, fresh, acted, transcript_of}
use Rattle.spec_history.specs.Worlds.{World, first, run}
use Rattle.spec_history.proofs.Trace.{each_append, each_weaker}
use Rattle.spec_history.proofs.Settles.{in_right}
use Rattle.spec_protocol.specs.Server.{Server}
use Rattle.spec_protocol.specs.Cells.{LedgerCell}
use Rattle.spec_protocol.specs.Seats.{Session, Written, Role, idle, session, builder, SeatState}
use Rattle.spec_protocol.specs.Alone.{new_session}
use Rattle.spec_protocol.specs.Moves.{sits}
use Rattle.spec_protocol.specs.Parts.{Numbers, all_of, IsNow, IsOver, WasOver, Past, Now}
use Rattle.spec_protocol.specs.TranscriptsAgree.{session_moments, moments_of, IsMoment, AreImages, MarksWithin, SeatAgrees, TranscriptsAgree}
use Rattle.law_protocol_steps.proofs.AnonymousActs.{IsPlain, same_items, same_next, same_issued}
use Rattle.law_protocol_steps.proofs.OneMore.{by_each, good_more, world_more, else_same, now_acted, of_else, of_now, over_stays, past_stays, past_images_stay, seat_stays}
use Rattle.spec_protocol.proofs.Places.{at_set, set_here, set_else}

-- the numbers of a seat are of sessions that began
numbers_began : (v : Server) (h : List Act) (ns : List ℕ) (xs : List Written) (n : ℕ) → (run first h).at n ≡ fresh → Past h ns xs → Each (λ i. i ≢ n) ns
numbers_began v h [] xs n e p = tt
numbers_began v h (i ∷ ns) [] n e p = absurd p
numbers_began v h (i ∷ ns) (x ∷ xs) n e p = ((λ same. let f : gone ≡ unborn = sym p.0.over ∙ ap (λ (k : ℕ). ((run first h).at k).phase) same ∙ ap (λ (z : SessionState). z.phase) e in cc), numbers_began v h ns xs n e p.1)

now_began : (v : Server) (h : List Act) (o : Option ℕ) (r : Role) (n : ℕ) → (run first h).at n ≡ fresh → Now h v.meaning o r → Each (λ i. i ≢ n) (listed o)
now_began v h None r n e p = tt
now_began v h (Some i) (session x) n e p = ((λ same. let f : runs ≡ unborn = sym p.0.running ∙ ap (λ (k : ℕ). ((run first h).at k).phase) same ∙ ap (λ (z : SessionState). z.phase) e in cc), tt)
now_began v h (Some i) idle n e p = absurd p
now_began v h (Some i) builder n e p = absurd p

differ_snoc : (ns : List ℕ) (n : ℕ) → Differ ns → Each (λ i. i ≢ n) ns → Differ (ns ++ n ∷ [])
differ_snoc [] n d e = (tt, tt)
differ_snoc (m ∷ ns) n d e = (each_append (λ k. m ≢ k) ns (n ∷ []) d.0 (e.0, tt), differ_snoc ns n d.1 e.1)

pub no_number : (q : _) (h : List Act) (o : Option ℕ) (r : Role) → r ≡ idle → Now h q o r → o ≡ None
no_number q h None r e p = refl
no_number q h (Some n) (session x) e p = cc
no_number q h (Some n) idle e p = absurd p
no_number q h (Some n) builder e p = absurd p

module _ (v : Server) (c : LedgerCell) (seats : List SeatState) (h : List Act) (agree : TranscriptsAgree v h c seats) (j : ℕ) (s : SeatState) (there : get_elem? seats j ≡ some s) (at_rest : s.role ≡ idle) (name : Text) where
  abbrev y : Session
  y = new_session name s

  abbrev t : SeatState
  t = sits s y

  abbrev after : List SeatState
  after = slice_set seats j t

  abbrev n : ℕ
  n = agree.count

  abbrev anonymous_acts : List SessionAct
  anonymous_acts = starts name ∷ []

  abbrev longer : List Act
  longer = h ++ by_each n anonymous_acts

  abbrev m : Numbers
  m = agree.of_seat j

  abbrev new : Numbers
  new = record { past = m.past; now = Some n }

  abbrev of_seat : ℕ → Numbers
  of_seat k = if k == j then new else agree.of_seat k

  abbrev owner : ℕ → ℕ
  owner i = if i == n then j else agree.owner i

  at_this : of_seat j ≡ new
  at_this = ap (λ (b : Bool). if b then new else agree.of_seat j) (eq-eqb j j refl)

  at_other : (k : ℕ) → k ≢ j → of_seat k ≡ agree.of_seat k
  at_other k ne = ap (λ (b : Bool). if b then new else agree.of_seat k) (ne_eqb k j ne)

  owner_new : owner n ≡ j
  owner_new = ap (λ (b : Bool). if b then j else agree.owner n) (eq-eqb n n refl)

  owner_old : (i : ℕ) → i ≢ n → owner i ≡ agree.owner i
  owner_old i ne = ap (λ (b : Bool). if b then j else agree.owner i) (ne_eqb i n ne)

  fresh_now : ((run first h).at n ≡ fresh) × (of n h ≡ [])
  fresh_now = agree.no_others n (omega arith)

  alive : ((run first h).at n).phase ≡ gone → ⊥
  alive e = let f : unborn ≡ gone = sym (ap (λ (z : SessionState). z.phase) fresh_now.0) ∙ e in cc

  was : SeatAgrees v h c m s
  was = agree.agree j s there

  no_now : m.now ≡ None
  no_now = no_number v.meaning h m.now s.role at_rest was.sessions.now

  past_differ : Each (λ i. i ≢ n) m.past
  past_differ = numbers_began v h m.past s.written n fresh_now.0 was.sessions.past

  all_differ : (k : ℕ) (u : SeatState) → get_elem? seats k ≡ some u → Each (λ i. i ≢ n) (all_of (agree.of_seat k))
  all_differ k u e = let w = agree.agree k u e in each_append (λ i. i ≢ n) (agree.of_seat k).past (listed (agree.of_seat k).now) (numbers_began v h (agree.of_seat k).past u.written n fresh_now.0 w.sessions.past) (now_began v h (agree.of_seat k).now u.role n fresh_now.0 w.sessions.now)

  same_past : all_of m ≡ m.past
  same_past = ap (λ (o : Option ℕ). m.past ++ listed o) no_now ∙ append-nil m.past

  acted_is : (run first longer).at n ≡ acted fresh (starts name)
  acted_is = now_acted v.meaning c.database h agree.good n anonymous_acts alive ∙ ap (λ (z : SessionState). acted z (starts name)) fresh_now.0

  of_is : of n longer ≡ starts name ∷ []
  of_is = of_now v.meaning c.database h agree.good n anonymous_acts alive ∙ ap (λ (l : List SessionAct). l ++ starts name ∷ []) fresh_now.1

  is_now : IsNow v.meaning (acted fresh (starts name)) y
  is_now = record { running = refl; transcript = refl; under = refl; open_one = tt; so_far = record { pending = refl; statements = tt; open_before = refl; images = refl; fits = tt } }

  -- what was over is over before it begins
  was_over : (x : Transcript) → IsOver h x → WasOver longer n x
  was_over x o = record {
    number = o.number;
    before = record { before = h; after = by_each n anonymous_acts; is = refl; over = o.over; none = fresh_now.1 };
    is = ap transcript_of (else_same v.meaning c.database h agree.good n anonymous_acts alive o.number (λ same. alive (ap (λ (i : ℕ). ((run first h).at i).phase) (sym same) ∙ o.over))) ∙ o.is;
  }

  past_over : (ns : List ℕ) (xs : List Written) → Past h ns xs → Each (IsOver h) (map (λ x. x.transcript) xs)
  past_over [] [] p = tt
  past_over [] (x ∷ xs) p = absurd p
  past_over (i ∷ ns) [] p = absurd p
  past_over (i ∷ ns) (x ∷ xs) p = (record { number = i; over = p.0.over; is = p.0.is }, past_over ns xs p.1)

  earlier_then : Each (WasOver longer n) y.earlier
  earlier_then = each_weaker (IsOver h) (WasOver longer n) was_over y.earlier (each_append (IsOver h) s.earlier (map (λ x. x.transcript) s.written) was.sessions.earlier (past_over m.past s.written was.sessions.past))

  past_marks : (ns : List ℕ) → Each (λ i. i ≢ n) ns → Each (MarksWithin v h c s) ns → Each (MarksWithin v longer c t) ns
  past_marks [] ne e = tt
  past_marks (i ∷ ns) ne e = (subst (Shows marked (λ i. (s.least ≤ i) × (i ≤ s.greatest))) (sym (of_else v.meaning c.database h agree.good n anonymous_acts alive i ne.0)) e.0, past_marks ns ne.1 e.1)

  seat_then : SeatAgrees v longer c new t
  seat_then = record {
    sessions = record {
      differ = differ_snoc m.past n (subst Differ same_past was.sessions.differ) past_differ;
      past = past_stays v.meaning c.database h agree.good n anonymous_acts alive m.past s.written past_differ was.sessions.past;
      now = (subst (λ z. IsNow v.meaning z y) (sym acted_is) is_now, earlier_then);
      earlier = each_weaker (IsOver h) (IsOver longer) (over_stays v.meaning c.database h agree.good n anonymous_acts alive) s.earlier was.sessions.earlier;
    };
    database = was.database;
    block_size = was.block_size;
    marks = each_append (MarksWithin v longer c t) m.past (n ∷ []) (past_marks m.past past_differ (subst (Each (MarksWithin v h c s)) same_past was.marks)) (subst (Shows marked (λ i. (s.least ≤ i) × (i ≤ s.greatest))) (sym of_is) (tt, tt), tt);
    greatest = was.greatest;
    past_images = past_images_stay v.meaning c.database h agree.good n anonymous_acts alive v c c [] refl (sym (append-nil c.items)) m.past s.written past_differ was.past_images;
    images = subst (λ l. AreImages v c l []) (sym of_is) (record { shown = refl; each = tt });
  }

  all_seats : (k : ℕ) (u : SeatState) → get_elem? after k ≡ some u → SeatAgrees v longer c (of_seat k) u
  all_seats k u e = ⊎_elim
      (λ (f : (k ≡ j) × (t ≡ u)). subst (λ (w : SeatState). SeatAgrees v longer c (of_seat k) w) f.1 (subst (λ (i : ℕ). SeatAgrees v longer c (of_seat i) t) (sym f.0) (subst (λ (w : Numbers). SeatAgrees v longer c w t) (sym at_this) seat_then)))
      (λ (f : (k ≢ j) × (get_elem? seats k ≡ some u)). subst (λ (w : Numbers). SeatAgrees v longer c w u) (sym (at_other k f.0))
      (seat_stays v.meaning c.database h agree.good n anonymous_acts alive v c c [] refl (sym (append-nil c.items)) (agree.of_seat k) u refl (omega arith) (all_differ k u f.1) (agree.agree k u f.1)))
      (at_set seats j k t u e)

  owners_old : (k : ℕ) (ns : List ℕ) → Each (λ i. i ≢ n) ns → Each (λ i. agree.owner i ≡ k) ns → Each (λ i. owner i ≡ k) ns
  owners_old k [] ne e = tt
  owners_old k (i ∷ ns) ne e = (owner_old i ne.0 ∙ e.0, owners_old k ns ne.1 e.1)

  all_own : (k : ℕ) (u : SeatState) → get_elem? after k ≡ some u → Each (λ i. owner i ≡ k) (all_of (of_seat k))
  all_own k u e = ⊎_elim
      (λ (f : (k ≡ j) × (t ≡ u)). subst (λ (l : ℕ). Each (λ i. owner i ≡ l) (all_of (of_seat l))) (sym f.0) (subst (λ (w : Numbers). Each (λ i. owner i ≡ j) (all_of w)) (sym at_this)
      (each_append (λ i. owner i ≡ j) m.past (n ∷ []) (owners_old j m.past past_differ (subst (Each (λ i. agree.owner i ≡ j)) same_past (agree.own j s there))) (owner_new, tt))))
      (λ (f : (k ≢ j) × (get_elem? seats k ≡ some u)). subst (λ (w : Numbers). Each (λ i. owner i ≡ k) (all_of w)) (sym (at_other k f.0)) (owners_old k (all_of (agree.of_seat k)) (all_differ k u f.1) (agree.own k u f.1)))
      (at_set seats j k t u e)

  in_left : (i : ℕ) (ns ms : List ℕ) → In i ns → In i (ns ++ ms)
  in_left i [] ms e = absurd e
  in_left i (k ∷ ns) ms e = ⊎_elim (λ f. inl f) (λ f. inr (in_left i ns ms f)) e

  abbrev There : ℕ → ℕ → Type 0
  There i k = (w : SeatState) × (get_elem? after k ≡ some w) × In i (all_of (of_seat k))

  there_new : There n j
  there_new = (t, set_here seats j t s there, subst (λ (w : Numbers). In n (all_of w)) (sym at_this) (in_right n m.past (n ∷ []) (inl refl)))

  there_old : (i k : ℕ) (u : SeatState) → get_elem? seats k ≡ some u → In i (all_of (agree.of_seat k)) → There i k
  there_old i k u e has = ⊎_elim
      (λ (f : k ≡ j). (t, ap (get_elem? after) f ∙ set_here seats j t s there, subst (λ (l : ℕ). In i (all_of (of_seat l))) (sym f) (subst (λ (w : Numbers). In i (all_of w)) (sym at_this) (in_left i m.past (n ∷ []) (subst (In i) same_past (subst (λ (l : ℕ). In i (all_of (agree.of_seat l))) f has))))))
      (λ (f : k ≢ j). (u, set_else seats j k t f ∙ e, subst (λ (w : Numbers). In i (all_of w)) (sym (at_other k f)) has))
      (cases_eq k j)

  all_there : (i : ℕ) → i < suc n → There i (owner i)
  all_there i l = ⊎_elim
      (λ (e : i ≡ n). subst (λ k. There i k) (sym (ap owner e ∙ owner_new)) (subst (λ k. There k j) (sym e) there_new))
      (λ (ne : i ≢ n). let old = agree.all i (omega (arith, ne)) in subst (λ k. There i k) (sym (owner_old i ne)) (there_old i (agree.owner i) old.0 old.1 old.2))
      (cases_eq i n)

  same_moments : moments_of s ≡ moments_of t
  same_moments = ap (λ (r : Role). flat_map (λ (w : Written). w.moments) s.written ++ session_moments r) at_rest

  moment_stays : (time : ℕ) → IsMoment seats time → IsMoment after time
  moment_stays time e = ⊎_elim
      (λ (f : e.j ≡ j). record { j = j; seat = t; there = set_here seats j t s there; is = subst (In time) same_moments (subst (λ (u : SeatState). In time (moments_of u)) (some-injective e.seat s (sym e.there ∙ ap (get_elem? seats) f ∙ there)) e.is) })
      (λ (f : e.j ≢ j). record { j = e.j; seat = e.seat; there = set_else seats j e.j t f ∙ e.there; is = e.is })
      (cases_eq e.j j)

  plain : Each IsPlain anonymous_acts
  plain = (record { items = λ x. refl; ids = refl; issued = refl; marks = refl; images = refl }, tt)

  pub begin_agrees : TranscriptsAgree v longer c after
  begin_agrees = record {
    good = good_more v.meaning c.database first h (by_each n anonymous_acts) agree.good (fresh_now.0, tt);
    items = ap (λ (w : World). w.items) world ∙ same_items n (run first h) anonymous_acts plain ∙ agree.items;
    next = ap (λ (w : World). w.next) world ∙ same_next n (run first h) anonymous_acts plain ∙ agree.next;
    issued = ap (λ (w : World). w.issued) world ∙ same_issued n (run first h) anonymous_acts plain ∙ agree.issued;
    of_seat = of_seat;
    agree = all_seats;
    owner = owner;
    own = all_own;
    count = suc n;
    all = all_there;
    no_others = λ i l. let old = agree.no_others i (omega arith) in let ne : i ≢ n = λ e. omega arith in (else_same v.meaning c.database h agree.good n anonymous_acts alive i ne ∙ old.0, of_else v.meaning c.database h agree.good n anonymous_acts alive i ne ∙ old.1);
    times = each_weaker (IsMoment seats) (IsMoment after) moment_stays _ agree.times;
    made = each_weaker (λ g. IsMoment seats g.made) (λ g. IsMoment after g.made) (λ g. moment_stays g.made) _ agree.made;
  }
    where
      world : run first longer ≡ run (run first h) (by_each n anonymous_acts)
      world = world_more v.meaning c.database h agree.good n anonymous_acts alive

  pub begin_owner : begin_agrees.owner n ≡ j
  unfolding begin_agrees
  begin_owner = owner_new
