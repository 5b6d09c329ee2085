-- The events of changes, one after another, come behind those of the transaction before.
use Rattle.std.proofs.Common.{◌≡◌, ◌<◌, ◌≤◌, ◌+◌, ℕ, refl, sym, ap, ap₂, subst, ◌∙◌, Bool, true, false, cond, List, [], ◌∷◌, ◌++◌, length, Option, Some, None, arith, length-append}
use Rattle.std.proofs.lemmas.Grind.{common_steps}
use Rattle.std.proofs.lemmas.Bool.{eq-eqb, eqb-true}
use Rattle.std.proofs.lemmas.List.Elements.{filter-append}
use Rattle.std.proofs.lemmas.List.{append-nil, append_assoc}
use Rattle.std.specs.Prelude.{◌==◌, nat_le, if◌then◌else◌, flat_map}
use Rattle.std.specs.List.{AllByRecursion, filter, find}
use Rattle.std.specs.Cmp.{IsTotalOrder, on_total, nat_cmp_total}
use Rattle.std.specs.Ordering.{is_gt, nat_cmp}
use Rattle.std.specs.declared.cmp.Ordering.{Ordering}
use Rattle.std.specs.declared.cmp.Ordering.TheVariants.{Less}
use Rattle.sql_value.specs.declared.column.ColumnDef.{ColumnDef}
use Rattle.sql_types.specs.declared.event.Event.{Event}
use Rattle.sql_types.specs.declared.version.Version.{Version}
use Rattle.spec_model.specs.Changes.{Change, Starts, Ends, changed, changed_all}
use Rattle.spec_model.specs.Events.{start_event, end_event, end_events, version_events}
use Rattle.spec_model.specs.Lists.{inserted, sorted}
use Rattle.spec_model.specs.Rows.{EventId, event_cmp, same_event, start_cmp, started, with_end, ended}
use Rattle.spec_model.specs.Runs.{IsBefore, EndsBefore, MadeBefore, Rising}
use Rattle.spec_model.specs.Undo.{end_left}
use Rattle.law_frame.proofs.Alls.{all_weaker}
use Rattle.law_frame.proofs.SameKeys.{IsAlone, each_alone, not_less, one_start}
use Rattle.law_frame.proofs.Sounds.{before_changed, rising_changed}
use Rattle.law_frame.proofs.UndoneVersions.{Undoes}
use Rattle.spec_protocol.specs.Doing.{events_from}
use Rattle.spec_protocol.specs.EventsIn.{events_in}
use Rattle.spec_protocol.proofs.NewEvents.{come_last}
use Rattle.store_table.specs.Made.{new_version, end_of, event_of, events_made, LiveFits, IsMade}
use Rattle.store_table.specs.Orders.{version_at, started_by}
use Rattle.sql_parts.proofs.OneMore.{sorted_passing}

abbrev by_seq : Event → Event → Ordering
by_seq a b = nat_cmp a.seq b.seq

seq_total : IsTotalOrder by_seq
seq_total = on_total (λ (e : Event). e.seq) nat_cmp_total

-- ---- what is found

find_all : {A : Type 0} (P : A → Type 0) (test : A → Bool) (xs : List A) (x : A) → find test xs ≡ Some x → AllByRecursion P xs → P x × (test x ≡ true)
find_all P test [] x e h = cc
find_all P test (y ∷ ys) x e h = by (test y) refl e (λ g. find_all P test ys x g h.1)
  where
    by : (b : Bool) → test y ≡ b → cond b (Some y) (find test ys) ≡ Some x → (find test ys ≡ Some x → P x × (test x ≡ true)) → P x × (test x ≡ true)
    by true f g rest = let same : y ≡ x = cc in subst (λ (z : _). P z × (test z ≡ true)) same (h.0, f)
    by false f g rest = rest g

apart_later : (start : EventId) (u w : Version) (s : Bool) → u.start ≡ start → same_event w.start start ≡ s → start_cmp u w ≡ Less → s ≡ false
apart_later start u w true is same less =
    absurd (not_less u.start (subst (λ (e : EventId). event_cmp u.start e ≡ Less) (one_start w.start start same ∙ sym is) less))
apart_later start u w false is same less = refl

-- which version a start is of, where one is started or ended
found_started : (start : EventId) (w : Version) (vs : List Version) → same_event w.start start ≡ false → version_at start (inserted start_cmp w vs) ≡ version_at start vs
found_started start w [] unlike = rw unlike refl
found_started start w (v ∷ vs) unlike = by (is_gt (start_cmp w v)) (found_started start w vs unlike)
  where
    by : (b : Bool) → version_at start (inserted start_cmp w vs) ≡ version_at start vs → version_at start (if b then v ∷ inserted start_cmp w vs else w ∷ v ∷ vs) ≡ version_at start (v ∷ vs)
    by true rest = ap (λ (o : Option Version). cond (same_event v.start start) (Some v) o) rest
    by false rest = rw unlike refl

found_ended : (at start other : EventId) (v : Version) (vs : List Version) → version_at start vs ≡ Some v → same_event v.start other ≡ false → version_at start (ended at other vs) ≡ Some v
unfolding ended
found_ended at start other v [] found apart = found
found_ended at start other v (u ∷ us) found apart = by (same_event u.start start) (same_event u.start other) refl refl found (found_ended at start other v us)
  where
    start_stays : (b : Bool) → (if b then with_end at u else u).start ≡ u.start
    start_stays true = refl
    start_stays false = refl

    by : (s b : Bool) → same_event u.start start ≡ s → same_event u.start other ≡ b → cond s (Some u) (version_at start us) ≡ Some v
        → (version_at start us ≡ Some v → same_event v.start other ≡ false → version_at start (ended at other us) ≡ Some v)
        → cond (same_event (if b then with_end at u else u).start start) (Some (if b then with_end at u else u)) (version_at start (ended at other us)) ≡ Some v
    by true true e f g rest = let same : u ≡ v = cc in let not_other : same_event u.start other ≡ false = ap (λ (x : Version). same_event x.start other) same ∙ apart in cc
    by true false e f g rest = rw e g
    by false b e f g rest = rw (start_stays b, e) (rest g apart)

-- ---- the new ones among events

module _ (tx id n : ℕ) where
  abbrev mine : Event → Bool
  mine e = e.tx == tx

  abbrev late : Event → Bool
  late e = nat_le n e.seq

  abbrev new : List Event → List Event
  new es = filter late (filter mine es)

  abbrev at : EventId
  at = (tx, n)

  late_no : (m : ℕ) → m < n → nat_le n m ≡ false
  late_no m l = grind (arith, common_steps, l)

  late_yes : (m : ℕ) → n ≤ m → nat_le n m ≡ true
  late_yes m l = grind (arith, common_steps, l)

  new_append : (es fs : List Event) → new (es ++ fs) ≡ new es ++ new fs
  new_append es fs = ap (filter late) (filter-append mine es fs) ∙ filter-append late (filter mine es) (filter mine fs)

  old_event : (e : Event) → IsBefore tx n (e.tx, e.seq) → new (e ∷ []) ≡ []
  old_event e h = by (e.tx == tx) refl
    where
      by : (b : Bool) → (e.tx == tx) ≡ b → filter late (if b then e ∷ [] else []) ≡ []
      by true f = rw (late_no e.seq (h (eqb-true e.tx tx f))) refl
      by false f = refl

  new_event : (e : Event) → e.tx ≡ tx → n ≤ e.seq → new (e ∷ []) ≡ e ∷ []
  new_event e is le = rw (eq-eqb e.tx tx is, late_yes e.seq le) refl

  old_ends : (v : Version) (o : Option EventId) → EndsBefore tx n o → new (end_events id v o) ≡ []
  old_ends v None h = refl
  old_ends v (Some e) h = old_event (end_event id v e) h

  old_version : (v : Version) → MadeBefore tx n v → new (version_events id v) ≡ []
  old_version v h = new_append (start_event id v ∷ []) (end_events id v v.end) ∙ ap₂ (λ (xs ys : List Event). xs ++ ys) (old_event (start_event id v) h.start) (old_ends v v.end h.end)

  all_old : (vs : List Version) → AllByRecursion (MadeBefore tx n) vs → new (flat_map (version_events id) vs) ≡ []
  all_old [] h = refl
  all_old (v ∷ vs) h = new_append (version_events id v) (flat_map (version_events id) vs) ∙ ap₂ (λ (xs ys : List Event). xs ++ ys) (old_version v h.0) (all_old vs h.1)

  -- ---- a start

  with_start : (w : Version) (e : Event) (vs : List Version) → new (version_events id w) ≡ e ∷ [] → AllByRecursion (MadeBefore tx n) vs
      → new (flat_map (version_events id) (inserted start_cmp w vs)) ≡ e ∷ []
  with_start w e [] is h = new_append (version_events id w) [] ∙ ap (λ (xs : List Event). xs ++ []) is
  with_start w e (v ∷ vs) is h = by (is_gt (start_cmp w v)) (with_start w e vs is h.1)
    where
      by : (b : Bool) → new (flat_map (version_events id) (inserted start_cmp w vs)) ≡ e ∷ []
          → new (flat_map (version_events id) (if b then v ∷ inserted start_cmp w vs else w ∷ v ∷ vs)) ≡ e ∷ []
      by true rest = new_append (version_events id v) (flat_map (version_events id) (inserted start_cmp w vs)) ∙ ap₂ (λ (xs ys : List Event). xs ++ ys) (old_version v h.0) rest
      by false rest = new_append (version_events id w) (flat_map (version_events id) (v ∷ vs)) ∙ ap₂ (λ (xs ys : List Event). xs ++ ys) is (all_old (v ∷ vs) h)

  -- ---- an end

  abbrev its_end : EventId → Version → List Event
  its_end start v = if same_event v.start start then end_event id v at ∷ [] else []

  ended_one : (b : Bool) (v : Version) → MadeBefore tx n v → new (version_events id (if b then with_end at v else v)) ≡ (if b then end_event id v at ∷ [] else [])
  ended_one true v h = new_append (start_event id v ∷ []) (end_event id v at ∷ []) ∙ ap₂ (λ (xs ys : List Event). xs ++ ys) (old_event (start_event id v) h.start) (new_event (end_event id v at) refl (omega arith))
  ended_one false v h = old_version v h

  with_ends : (start : EventId) (vs : List Version) → AllByRecursion (MadeBefore tx n) vs → new (flat_map (version_events id) (ended at start vs)) ≡ flat_map (its_end start) vs
  unfolding ended
  with_ends start [] h = refl
  with_ends start (v ∷ vs) h =
      new_append (version_events id (if same_event v.start start then with_end at v else v)) (flat_map (version_events id) (ended at start vs))
      ∙ ap₂ (λ (xs ys : List Event). xs ++ ys) (ended_one (same_event v.start start) v h.0) (with_ends start vs h.1)

  no_end : (start : EventId) (vs : List Version) → AllByRecursion (λ w. same_event w.start start ≡ false) vs → flat_map (its_end start) vs ≡ []
  no_end start [] h = refl
  no_end start (v ∷ vs) h = rw h.0 (no_end start vs h.1)

  one_end : (start : EventId) (v : Version) (vs : List Version) → Rising vs → version_at start vs ≡ Some v → flat_map (its_end start) vs ≡ end_event id v at ∷ []
  one_end start v [] r found = cc
  one_end start v (u ∷ us) r found = by (same_event u.start start) refl found (one_end start v us r.1)
    where
      by : (s : Bool) → same_event u.start start ≡ s → cond s (Some u) (version_at start us) ≡ Some v → (version_at start us ≡ Some v → flat_map (its_end start) us ≡ end_event id v at ∷ [])
          → (if s then end_event id u at ∷ [] else []) ++ flat_map (its_end start) us ≡ end_event id v at ∷ []
      by true e f rest =
          let same : u ≡ v = cc in
          let none = no_end start us (all_weaker (λ w. start_cmp u w ≡ Less) (λ w. same_event w.start start ≡ false) (λ w less. apart_later start u w (same_event w.start start) (one_start u.start start e) refl less) us r.0) in
          ap (λ (l : List Event). end_event id u at ∷ l) none ∙ ap (λ (x : Version). end_event id x at ∷ []) same
      by false e f rest = rest f

  module _ (columns : List ColumnDef) where
    one_new : (c : Change) (vs : List Version) → AllByRecursion (MadeBefore tx n) vs → Rising vs → IsMade columns vs c → new (flat_map (version_events id) (changed at c vs)) ≡ event_of id at c vs
    unfolding started
    one_new (Starts values) vs h r made = with_start (new_version at values) (start_event id (new_version at values)) vs (new_event (start_event id (new_version at values)) refl (omega arith)) h
    one_new (Ends start) vs h r made = with_ends start vs h ∙ one_end start made.version vs r made.found ∙ sym (ap (end_of id at) made.found)

    undoes : (c : Change) (vs : List Version) → Rising vs → IsMade columns vs c → Undoes tx n vs c
    undoes (Starts values) vs r made = tt
    undoes (Ends start) vs r made =
        let v = made.version in
        let p = find_all (IsAlone vs) (started_by start) vs v made.found (each_alone vs r) in
        all_weaker (λ w. same_event w.start v.start ≡ true → w ≡ v) (λ w. same_event w.start start ≡ true → end_left tx n w.end ≡ None)
        (λ w alone same. let is : w ≡ v = alone (subst (λ (e : EventId). same_event w.start e ≡ true) (sym (one_start v.start start p.1)) same) in
        ap (λ (x : Version). end_left tx n x.end) is ∙ ap (end_left tx n) made.is_live) vs p.0

    sorted_one : (c : Change) (vs : List Version) → sorted by_seq (event_of id at c vs) ≡ event_of id at c vs
    sorted_one (Starts values) vs = refl
    sorted_one (Ends start) vs = by (version_at start vs)
      where
        by : (o : Option Version) → sorted by_seq (end_of id at o) ≡ end_of id at o
        by (Some v) = refl
        by None = refl

    one_more : (c : Change) (vs : List Version) → AllByRecursion (MadeBefore tx n) vs → Rising vs → IsMade columns vs c
        → events_in tx id (changed at c vs) ≡ events_in tx id vs ++ event_of id at c vs
    unfolding changed_all
    one_more c vs h r made =
        come_last n tx id (c ∷ []) vs h (undoes c vs r made, tt)
        ∙ ap (λ (es : List Event). events_in tx id vs ++ es)
        (sorted_passing by_seq seq_total late (filter mine (flat_map (version_events id) (changed at c vs)))
        ∙ ap (sorted by_seq) (one_new c vs h r made) ∙ sorted_one c vs)

    -- ---- a later change

    abbrev pub Apart : Change → Change → Type 0
    Apart (Starts values) d = Unit {0}
    Apart (Ends start) (Starts values) = Unit {0}
    Apart (Ends start) (Ends other) = same_event other start ≡ false

    not_new : (start : EventId) (v : Version) (b : Bool) → same_event at start ≡ b → same_event v.start start ≡ true → MadeBefore tx n v → b ≡ false
    not_new start v true e same m =
        let is : v.start ≡ at = one_start v.start start same ∙ sym (one_start at start e) in
        absurd (let l = m.start (ap (λ (x : EventId). x.0) is) in omega (arith, l, ap (λ (x : EventId). x.1) is))
    not_new start v false e same m = refl

    still_found : (c : Change) (start : EventId) (vs : List Version) → AllByRecursion (MadeBefore tx n) vs → Apart c (Ends start) → (made : LiveFits columns start vs)
        → version_at start (changed at c vs) ≡ Some made.version
    unfolding started
    still_found (Starts values) start vs h apart made =
        let p = find_all (MadeBefore tx n) (started_by start) vs made.version made.found h in
        found_started start (new_version at values) vs (not_new start made.version (same_event at start) refl p.1 p.0) ∙ made.found
    still_found (Ends other) start vs h apart made =
        let p = find_all (MadeBefore tx n) (started_by start) vs made.version made.found h in
        found_ended at start other made.version vs made.found
        (ap (λ (e : EventId). same_event e other) (one_start made.version.start start p.1) ∙ apart)

    pub still_made : (c d : Change) (vs : List Version) → AllByRecursion (MadeBefore tx n) vs → Apart c d → IsMade columns vs d → IsMade columns (changed at c vs) d
    still_made c (Starts values) vs h apart made = made
    still_made c (Ends start) vs h apart made = record { version = made.version; found = still_found c start vs h apart made; is_live = made.is_live; fits = made.fits }

    same_event_of : (c d : Change) (vs : List Version) (now : EventId) → AllByRecursion (MadeBefore tx n) vs → Apart c d → IsMade columns vs d → event_of id now d (changed at c vs) ≡ event_of id now d vs
    same_event_of c (Starts values) vs now h apart made = refl
    same_event_of c (Ends start) vs now h apart made = ap (end_of id now) (still_found c start vs h apart made ∙ sym made.found)

    all_still : (c : Change) (vs : List Version) (cs : List Change) → AllByRecursion (MadeBefore tx n) vs → AllByRecursion (Apart c) cs → AllByRecursion (IsMade columns vs) cs → AllByRecursion (IsMade columns (changed at c vs)) cs
    all_still c vs [] h apart made = tt
    all_still c vs (d ∷ ds) h apart made = (still_made c d vs h apart.0 made.0, all_still c vs ds h apart.1 made.1)

    same_made : (c : Change) (vs : List Version) (m : ℕ) (cs : List Change) → AllByRecursion (MadeBefore tx n) vs → AllByRecursion (Apart c) cs → AllByRecursion (IsMade columns vs) cs
        → events_made id tx m cs (changed at c vs) ≡ events_made id tx m cs vs
    same_made c vs m [] h apart made = refl
    same_made c vs m (d ∷ ds) h apart made = ap₂ (λ (xs ys : List Event). xs ++ ys) (same_event_of c d vs (tx, m) h apart.0 made.0) (same_made c vs (m + 1) ds h apart.1 made.1)

-- no two of the changes end one version
abbrev pub AllApart : List ColumnDef → List Change → Type 0
AllApart columns [] = Unit {0}
AllApart columns (c ∷ cs) = AllByRecursion (Apart 0 0 0 columns c) cs × AllApart columns cs

module _ (tx id : ℕ) (columns : List ColumnDef) where
  apart_too : (n : ℕ) (c : Change) (cs : List Change) → AllByRecursion (Apart 0 0 0 columns c) cs → AllByRecursion (Apart tx id n columns c) cs
  apart_too n (Starts values) [] h = tt
  apart_too n (Starts values) (d ∷ ds) h = (tt, apart_too n (Starts values) ds h.1)
  apart_too n (Ends start) [] h = tt
  apart_too n (Ends start) (Starts values ∷ ds) h = (tt, apart_too n (Ends start) ds h.1)
  apart_too n (Ends start) (Ends other ∷ ds) h = (h.0, apart_too n (Ends start) ds h.1)

  come_behind : (n : ℕ) (cs : List Change) (vs : List Version) → AllByRecursion (MadeBefore tx n) vs → Rising vs → AllByRecursion (IsMade columns vs) cs → AllApart columns cs
      → events_in tx id (changed_all tx n cs vs) ≡ events_in tx id vs ++ events_made id tx n cs vs
  unfolding changed_all
  come_behind n [] vs h r made apart = sym (append-nil (events_in tx id vs))
  come_behind n (c ∷ cs) vs h r made apart =
      let ws = changed (tx, n) c vs in
      let others = apart_too n c cs apart.0 in
      come_behind (n + 1) cs ws (before_changed tx n c vs h) (rising_changed tx n c vs h r) (all_still tx id n columns c vs cs h others made.1) apart.1
      ∙ ap₂ (λ (xs ys : List Event). xs ++ ys) (one_more tx id n columns c vs h r made.0) (same_made tx id n columns c vs (n + 1) cs h others made.1)
      ∙ append_assoc (events_in tx id vs) (event_of id (tx, n) c vs) (events_made id tx (n + 1) cs vs)

  late_event : (n m : ℕ) (c : Change) (vs : List Version) → n ≤ m → filter (late tx id n) (event_of id (tx, m) c vs) ≡ event_of id (tx, m) c vs
  late_event n m (Starts values) vs le = rw (late_yes tx id n m le) refl
  late_event n m (Ends start) vs le = by (version_at start vs)
    where
      by : (o : Option Version) → filter (late tx id n) (end_of id (tx, m) o) ≡ end_of id (tx, m) o
      by (Some v) = rw (late_yes tx id n m le) refl
      by None = refl

  all_late : (n m : ℕ) (cs : List Change) (vs : List Version) → n ≤ m → filter (late tx id n) (events_made id tx m cs vs) ≡ events_made id tx m cs vs
  all_late n m [] vs le = refl
  all_late n m (c ∷ cs) vs le =
      filter-append (late tx id n) (event_of id (tx, m) c vs) (events_made id tx (m + 1) cs vs)
      ∙ ap₂ (λ (xs ys : List Event). xs ++ ys) (late_event n m c vs le) (all_late n (m + 1) cs vs (omega (arith, le)))

  -- the transaction's events from n on are those that the changes are
  pub events_are : (n : ℕ) (cs : List Change) (vs : List Version) → AllByRecursion (MadeBefore tx n) vs → Rising vs → AllByRecursion (IsMade columns vs) cs → AllApart columns cs
      → events_from tx n id (changed_all tx n cs vs) ≡ events_made id tx n cs vs
  events_are n cs vs h r made apart =
      ap (filter (late tx id n)) (come_behind n cs vs h r made apart)
      ∙ filter-append (late tx id n) (events_in tx id vs) (events_made id tx n cs vs)
      ∙ ap₂ (λ (xs ys : List Event). xs ++ ys)
      (sorted_passing by_seq seq_total (late tx id n) (filter (mine tx id n) (flat_map (version_events id) vs)) ∙ ap (sorted by_seq) (all_old tx id n vs h))
      (all_late n n cs vs (omega arith))

  one_long : (m : ℕ) (c : Change) (vs : List Version) → IsMade columns vs c → length (event_of id (tx, m) c vs) ≡ 1
  one_long m (Starts values) vs made = refl
  one_long m (Ends start) vs made = ap (λ (o : Option Version). length (end_of id (tx, m) o)) made.found

  pub made_long : (m : ℕ) (cs : List Change) (vs : List Version) → AllByRecursion (IsMade columns vs) cs → length (events_made id tx m cs vs) ≡ length cs
  made_long m [] vs made = refl
  made_long m (c ∷ cs) vs made =
      let both = length-append (event_of id (tx, m) c vs) (events_made id tx (m + 1) cs vs) in
      let one = one_long m c vs made.0 in
      let rest = made_long (m + 1) cs vs made.1 in
      omega (arith, both, one, rest)
