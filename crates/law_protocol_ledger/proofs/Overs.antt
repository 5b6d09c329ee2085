-- The session at a seat does its last acts, and is over.
use Rattle.std.proofs.Common.{◌≡◌, ◌≢◌, ℕ, ◌≤◌, Bool, List, [], ◌∷◌, ◌++◌, flat_map, Option, Some, None, slice_set, refl, sym, ap, ◌∙◌, subst, inl, ⊎_elim, append-nil, arith}
use Rattle.std.proofs.lemmas.Bool.{eq-eqb, ne_eqb, cases_eq}
use Rattle.std.proofs.lemmas.Grind.{flat_map-append}
use Rattle.std.specs.Prelude.{◌==◌, if◌then◌else◌}
use mathlib.Core.Option.{some, some-injective}
use lib.ListN.{get_elem?}
use Rattle.spec_history.specs.Lists.{Each, In}
use Rattle.spec_history.specs.Serial.{Differ}
use Rattle.spec_history.specs.Facts.{Shows}
use Rattle.spec_history.specs.Transactions.{listed}
use Rattle.spec_history.specs.Acts.{SessionAct, Act, of, marked}
use Rattle.spec_history.specs.Sessions.{SessionState, unborn, runs, gone, fresh, transcript_of}
use Rattle.spec_history.specs.Worlds.{World, first, run}
use Rattle.spec_history.specs.Guards.{Good}
use Rattle.spec_history.proofs.Trace.{each_append, each_weaker}
use Rattle.spec_history.proofs.Settles.{in_right}
use Rattle.spec_protocol.specs.Server.{Server}
use Rattle.spec_protocol.specs.Cells.{LedgerCell}
use Rattle.spec_protocol.specs.Seats.{Session, Written, Role, session, SeatState}
use Rattle.spec_protocol.specs.Answering.{written_of}
use Rattle.spec_protocol.specs.Alone.{over}
use Rattle.spec_protocol.specs.Parts.{Numbers, all_of, IsPast, IsOver, WasOver, Past, Now}
use Rattle.spec_protocol.specs.TranscriptsAgree.{session_moments, moments_of, IsMoment, image_of, AreImages, ImagesOfPast, ImagesNow, MarksWithin, SeatAgrees, TranscriptsAgree}
use Rattle.law_protocol_steps.proofs.AnonymousActs.{IsPlain, same_items, same_next, same_issued, no_images, no_marks}
use Rattle.law_protocol_steps.proofs.Ids.{each_in}
use Rattle.law_protocol_steps.proofs.OneMore.{acted_all, by_each, good_more, world_more, else_same, now_acted, of_else, of_now, over_stays, each_was_over, past_stays, past_images_stay, seat_stays, differ_front}
use Rattle.spec_protocol.proofs.Places.{at_set, set_here, set_else}
use Rattle.law_protocol_steps.proofs.PlainAct.{KeepsAll}

past_snoc : (h : List Act) (ns : List ℕ) (xs : List Written) (n : ℕ) (x : Written) → Past h ns xs → IsPast h n x → Past h (ns ++ n ∷ []) (xs ++ x ∷ [])
past_snoc h [] [] n x p e = (e, tt)
past_snoc h [] (y ∷ ys) n x p e = absurd p
past_snoc h (m ∷ ns) [] n x p e = absurd p
past_snoc h (m ∷ ns) (y ∷ ys) n x p e = (p.0, past_snoc h ns ys n x p.1 e)

images_snoc : (v : Server) (h : List Act) (c : LedgerCell) (g : List Act) (ns : List ℕ) (xs : List Written) (n : ℕ) (x : Written) → Past g ns xs → ImagesOfPast v h c ns xs → AreImages v c (of n h) x.images → ImagesOfPast v h c (ns ++ n ∷ []) (xs ++ x ∷ [])
images_snoc v h c g [] [] n x p i e = (e, tt)
images_snoc v h c g [] (y ∷ ys) n x p i e = absurd p
images_snoc v h c g (m ∷ ns) [] n x p i e = absurd p
images_snoc v h c g (m ∷ ns) (y ∷ ys) n x p i e = (i.0, images_snoc v h c g ns ys n x p.1 i.1 e)

module _ (v : Server) (c : LedgerCell) (seats : List SeatState) (h : List Act) (agree : TranscriptsAgree v h c seats) (j : ℕ) (s : SeatState) (there : get_elem? seats j ≡ some s) (x y : Session) (role : s.role ≡ session x)
    (n : ℕ) (number : (agree.of_seat j).now ≡ Some n) (anonymous_acts : List SessionAct) (plain : Each IsPlain anonymous_acts) (ok : Good v.meaning c.database (run first h) (by_each n anonymous_acts))
    (gone_then : (acted_all ((run first h).at n) anonymous_acts).phase ≡ gone) (written_then : transcript_of (acted_all ((run first h).at n) anonymous_acts) ≡ y.transcript) (keeps : KeepsAll x y) where
  abbrev t : SeatState
  t = over y s

  abbrev after : List SeatState
  after = slice_set seats j t

  abbrev longer : List Act
  longer = h ++ by_each n anonymous_acts

  abbrev m : Numbers
  m = agree.of_seat j

  abbrev new : Numbers
  new = record { past = m.past ++ n ∷ []; now = None }

  abbrev of_seat : ℕ → Numbers
  of_seat k = if k == j then new else agree.of_seat k

  at_this : of_seat j ≡ new
  at_this = ap (λ (b : Bool). if b then new else agree.of_seat j) (eq-eqb j j refl)

  at_other : (k : ℕ) → k ≢ j → of_seat k ≡ agree.of_seat k
  at_other k ne = ap (λ (b : Bool). if b then new else agree.of_seat k) (ne_eqb k j ne)

  was : SeatAgrees v h c m s
  was = agree.agree j s there

  own_now : Now h v.meaning (Some n) (session x)
  own_now = subst (λ (o : Option ℕ). Now h v.meaning o (session x)) number (subst (Now h v.meaning m.now) role was.sessions.now)

  alive : ((run first h).at n).phase ≡ gone → ⊥
  alive e = let f : runs ≡ gone = sym own_now.0.running ∙ e in cc

  same_numbers : all_of new ≡ all_of m
  same_numbers = append-nil (m.past ++ n ∷ []) ∙ ap (λ (o : Option ℕ). m.past ++ listed o) (sym number)

  among : In n (all_of m)
  among = subst (λ (o : Option ℕ). In n (m.past ++ listed o)) (sym number) (in_right n m.past (n ∷ []) (inl refl))

  owned : agree.owner n ≡ j
  owned = each_in (λ i. agree.owner i ≡ j) (all_of m) n (agree.own j s there) among

  not_of : (k : ℕ) (u : SeatState) → k ≢ j → get_elem? seats k ≡ some u → Each (λ i. i ≢ n) (all_of (agree.of_seat k))
  not_of k u ne e = each_weaker (λ i. agree.owner i ≡ k) (λ i. i ≢ n) (λ i o same. ne (sym o ∙ ap agree.owner same ∙ owned)) (all_of (agree.of_seat k)) (agree.own k u e)

  past_differ : Each (λ i. i ≢ n) m.past
  past_differ = differ_front m.past n (subst (λ (o : Option ℕ). Differ (m.past ++ listed o)) number was.sessions.differ)

  left_of : (P : ℕ → Type 0) (xs ys : List ℕ) → Each P (xs ++ ys) → Each P xs
  left_of P [] ys e = tt
  left_of P (i ∷ xs) ys e = (e.0, left_of P xs ys e.1)

  past_marks : (ns : List ℕ) → Each (λ i. i ≢ n) ns → Each (MarksWithin v h c s) ns → Each (MarksWithin v longer c t) ns
  past_marks [] ne e = tt
  past_marks (i ∷ ns) ne e = (subst (Shows marked (λ i. (s.least ≤ i) × (i ≤ s.greatest))) (sym (of_else v.meaning c.database h agree.good n anonymous_acts alive i ne.0)) e.0, past_marks ns ne.1 e.1)

  now_marks : Shows marked (λ i. (s.least ≤ i) × (i ≤ s.greatest)) (of n longer)
  now_marks = subst (Shows marked (λ i. (s.least ≤ i) × (i ≤ s.greatest))) (sym (of_now v.meaning c.database h agree.good n anonymous_acts alive))
      (each_append (λ b. Each (λ i. (s.least ≤ i) × (i ≤ s.greatest)) (marked b)) (of n h) anonymous_acts (each_in (MarksWithin v h c s) (all_of m) n was.marks among) (no_marks _ anonymous_acts plain))

  own_images : AreImages v c (of n h) x.images
  own_images = subst (λ (o : Option ℕ). ImagesNow v h c o (session x)) number (subst (ImagesNow v h c m.now) role was.images)

  now_images : AreImages v c (of n longer) y.images
  now_images = subst (AreImages v c (of n longer)) (sym keeps.images) (record {
    shown = own_images.shown ∙ sym (append-nil _) ∙ ap (λ (l : List ℕ). flat_map image_of (of n h) ++ l) (sym (no_images anonymous_acts plain)) ∙ sym (flat_map-append image_of (of n h) anonymous_acts) ∙ ap (flat_map image_of) (sym (of_now v.meaning c.database h agree.good n anonymous_acts alive));
    each = own_images.each;
  })

  is_past : IsPast longer n (written_of y)
  is_past = record {
    over = ap (λ (z : SessionState). z.phase) (now_acted v.meaning c.database h agree.good n anonymous_acts alive) ∙ gone_then;
    is = ap transcript_of (now_acted v.meaning c.database h agree.good n anonymous_acts alive) ∙ written_then;
    earlier = subst (Each (WasOver longer n)) (sym keeps.earlier) (each_was_over v.meaning c.database h agree.good n anonymous_acts alive n x.earlier own_now.1);
  }

  past_then : Past longer m.past s.written
  past_then = past_stays v.meaning c.database h agree.good n anonymous_acts alive m.past s.written past_differ was.sessions.past

  seat_then : SeatAgrees v longer c new t
  seat_then = record {
    sessions = record {
      differ = subst Differ (sym same_numbers) was.sessions.differ;
      past = past_snoc longer m.past s.written n (written_of y) past_then is_past;
      now = tt;
      earlier = each_weaker (IsOver h) (IsOver longer) (over_stays v.meaning c.database h agree.good n anonymous_acts alive) s.earlier was.sessions.earlier;
    };
    database = was.database;
    block_size = was.block_size;
    marks = subst (Each (MarksWithin v longer c t)) (sym (append-nil (m.past ++ n ∷ []))) (each_append (MarksWithin v longer c t) m.past (n ∷ []) (past_marks m.past past_differ (left_of (MarksWithin v h c s) m.past (listed m.now) was.marks)) (now_marks, tt));
    greatest = was.greatest;
    past_images = images_snoc v longer c longer m.past s.written n (written_of y) past_then (past_images_stay v.meaning c.database h agree.good n anonymous_acts alive v c c [] refl (sym (append-nil c.items)) m.past s.written past_differ was.past_images) now_images;
    images = tt;
  }

  all_seats : (k : ℕ) (u : SeatState) → get_elem? after k ≡ some u → SeatAgrees v longer c (of_seat k) u
  all_seats k u e = ⊎_elim
      (λ (f : (k ≡ j) × (t ≡ u)). subst (λ (w : SeatState). SeatAgrees v longer c (of_seat k) w) f.1 (subst (λ (i : ℕ). SeatAgrees v longer c (of_seat i) t) (sym f.0) (subst (λ (w : Numbers). SeatAgrees v longer c w t) (sym at_this) seat_then)))
      (λ (f : (k ≢ j) × (get_elem? seats k ≡ some u)). subst (λ (w : Numbers). SeatAgrees v longer c w u) (sym (at_other k f.0))
      (seat_stays v.meaning c.database h agree.good n anonymous_acts alive v c c [] refl (sym (append-nil c.items)) (agree.of_seat k) u refl (omega arith) (not_of k u f.0 f.1) (agree.agree k u f.1)))
      (at_set seats j k t u e)

  all_own : (k : ℕ) (u : SeatState) → get_elem? after k ≡ some u → Each (λ i. agree.owner i ≡ k) (all_of (of_seat k))
  all_own k u e = ⊎_elim
      (λ (f : (k ≡ j) × (t ≡ u)). subst (λ (l : ℕ). Each (λ i. agree.owner i ≡ l) (all_of (of_seat l))) (sym f.0) (subst (λ (w : Numbers). Each (λ i. agree.owner i ≡ j) (all_of w)) (sym at_this) (subst (Each (λ i. agree.owner i ≡ j)) (sym same_numbers) (agree.own j s there))))
      (λ (f : (k ≢ j) × (get_elem? seats k ≡ some u)). subst (λ (w : Numbers). Each (λ i. agree.owner i ≡ k) (all_of w)) (sym (at_other k f.0)) (agree.own k u f.1))
      (at_set seats j k t u e)

  still_there : (i k : ℕ) (u : SeatState) → get_elem? seats k ≡ some u → In i (all_of (agree.of_seat k)) → (w : SeatState) × (get_elem? after k ≡ some w) × In i (all_of (of_seat k))
  still_there i k u e has = ⊎_elim
      (λ (f : k ≡ j). (t, ap (get_elem? after) f ∙ set_here seats j t s there, subst (λ (l : ℕ). In i (all_of (of_seat l))) (sym f) (subst (λ (w : Numbers). In i (all_of w)) (sym at_this) (subst (In i) (sym same_numbers) (subst (λ (l : ℕ). In i (all_of (agree.of_seat l))) f has)))))
      (λ (f : k ≢ j). (u, set_else seats j k t f ∙ e, subst (λ (w : Numbers). In i (all_of w)) (sym (at_other k f)) has))
      (cases_eq k j)

  same_moments : moments_of s ≡ moments_of t
  same_moments = ap (λ (r : Role). flat_map (λ (w : Written). w.moments) s.written ++ session_moments r) role ∙ ap (λ (l : List ℕ). flat_map (λ (w : Written). w.moments) s.written ++ l) (sym keeps.moments ∙ sym (append-nil y.moments))
      ∙ sym (flat_map-append (λ (w : Written). w.moments) s.written (written_of y ∷ [])) ∙ sym (append-nil _)

  moment_stays : (time : ℕ) → IsMoment seats time → IsMoment after time
  moment_stays time e = ⊎_elim
      (λ (f : e.j ≡ j). record { j = j; seat = t; there = set_here seats j t s there; is = subst (In time) same_moments (subst (λ (u : SeatState). In time (moments_of u)) (some-injective e.seat s (sym e.there ∙ ap (get_elem? seats) f ∙ there)) e.is) })
      (λ (f : e.j ≢ j). record { j = e.j; seat = e.seat; there = set_else seats j e.j t f ∙ e.there; is = e.is })
      (cases_eq e.j j)

  pub over_agrees : TranscriptsAgree v longer c after
  over_agrees = record {
    good = good_more v.meaning c.database first h (by_each n anonymous_acts) agree.good ok;
    items = ap (λ (w : World). w.items) world ∙ same_items n (run first h) anonymous_acts plain ∙ agree.items;
    next = ap (λ (w : World). w.next) world ∙ same_next n (run first h) anonymous_acts plain ∙ agree.next;
    issued = ap (λ (w : World). w.issued) world ∙ same_issued n (run first h) anonymous_acts plain ∙ agree.issued;
    of_seat = of_seat;
    agree = all_seats;
    owner = agree.owner;
    own = all_own;
    count = agree.count;
    all = λ i l. let old = agree.all i l in still_there i (agree.owner i) old.0 old.1 old.2;
    no_others = λ i l. let old = agree.no_others i l in let ne = not_fresh i old.0 in (else_same v.meaning c.database h agree.good n anonymous_acts alive i ne ∙ old.0, of_else v.meaning c.database h agree.good n anonymous_acts alive i ne ∙ old.1);
    times = each_weaker (IsMoment seats) (IsMoment after) moment_stays _ agree.times;
    made = each_weaker (λ g. IsMoment seats g.made) (λ g. IsMoment after g.made) (λ g. moment_stays g.made) _ agree.made;
  }
    where
      world : run first longer ≡ run (run first h) (by_each n anonymous_acts)
      world = world_more v.meaning c.database h agree.good n anonymous_acts alive

      not_fresh : (i : ℕ) → (run first h).at i ≡ fresh → i ≢ n
      not_fresh i e same = let r : ((run first h).at i).phase ≡ runs = ap (λ (k : ℕ). ((run first h).at k).phase) same ∙ own_now.0.running in let f : ((run first h).at i).phase ≡ unborn = ap (λ (z : SessionState). z.phase) e in cc

  pub over_owner : over_agrees.owner n ≡ j
  unfolding over_agrees
  over_owner = owned
