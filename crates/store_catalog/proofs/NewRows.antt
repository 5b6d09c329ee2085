-- The events of rows that start are the transaction's events from there on.
use Rattle.std.proofs.Common.{◌≡◌, ℕ, ◌+◌, ◌≤◌, Bool, true, false, List, [], ◌∷◌, ◌++◌, Option, Some, None, refl, sym, ap, ap₂, ◌∙◌, arith, append_assoc, append-nil}
use Rattle.std.proofs.lemmas.Bool.{eq-eqb, eqb-true, le-leb, leb-true}
use Rattle.std.specs.Prelude.{◌==◌, ◌&&◌, nat_le, if◌then◌else◌, flat_map}
use Rattle.std.specs.List.{AllByRecursion, filter}
use Rattle.std.specs.Ordering.{nat_cmp, is_gt}
use Rattle.std.specs.declared.cmp.Ordering.{Ordering}
use Rattle.sql_types.specs.declared.event.Event.{Event}
use Rattle.sql_types.specs.declared.version.Version.{Version}
use Rattle.sql_types.specs.declared.version.TypedValue.{TypedValue}
use Rattle.spec_model.specs.Rows.{EventId, start_cmp, started}
use Rattle.spec_model.specs.Changes.{Change, Starts, Ends, changed, changed_all}
use Rattle.spec_model.specs.Events.{start_event, end_event, end_events, version_events}
use Rattle.spec_model.specs.Lists.{inserted, sorted}
use Rattle.spec_model.specs.Runs.{IsBefore, EndsBefore, MadeBefore}
use Rattle.law_frame.proofs.Alls.{all_weaker}
use Rattle.law_frame.proofs.LeftRows.{all_flat_map}
use Rattle.law_frame.proofs.Sounds.{before_changed}
use Rattle.law_frame.proofs.UndoneVersions.{filter_inserted}
use Rattle.spec_protocol.specs.Doing.{events_from}
use Rattle.spec_protocol.specs.EventsIn.{events_in}
use Rattle.spec_protocol.proofs.NewEvents.{come_last}
use Rattle.store_catalog.specs.Rows.{new_version, starts_of, IsRow}

-- ---- lists of which a test takes one

module _ {A : Type 0} (test : A → Bool) where
  taken_none : (cmp : A → A → Ordering) (xs : List A) → filter test xs ≡ [] → filter test (sorted cmp xs) ≡ []
  taken_none cmp [] h = refl
  taken_none cmp (x ∷ xs) h = by (test x) refl h (taken_none cmp xs)
    where
      by : (b : Bool) → test x ≡ b → (if b then x ∷ filter test xs else filter test xs) ≡ [] → (filter test xs ≡ [] → filter test (sorted cmp xs) ≡ []) → filter test (inserted cmp x (sorted cmp xs)) ≡ []
      by true e k r = cc
      by false e k r = filter_inserted test cmp x (sorted cmp xs) e ∙ r k

  one_inserted : (cmp : A → A → Ordering) (x : A) (ys : List A) → test x ≡ true → filter test ys ≡ [] → filter test (inserted cmp x ys) ≡ x ∷ []
  one_inserted cmp x [] e h = rw e refl
  one_inserted cmp x (y ∷ ys) e h = by (test y) refl h (one_inserted cmp x ys e)
    where
      behind : (c : Bool) → test y ≡ false → filter test ys ≡ [] → filter test (inserted cmp x ys) ≡ x ∷ [] → filter test (if c then y ∷ inserted cmp x ys else x ∷ y ∷ ys) ≡ x ∷ []
      behind true f k r = rw f r
      behind false f k r = rw (e, f) (ap (λ (l : List A). x ∷ l) k)

      by : (b : Bool) → test y ≡ b → (if b then y ∷ filter test ys else filter test ys) ≡ [] → (filter test ys ≡ [] → filter test (inserted cmp x ys) ≡ x ∷ []) → filter test (if is_gt (cmp x y) then y ∷ inserted cmp x ys else x ∷ y ∷ ys) ≡ x ∷ []
      by true f k r = cc
      by false f k r = behind (is_gt (cmp x y)) f k (r k)

  taken_one : (cmp : A → A → Ordering) (e : A) (xs : List A) → filter test xs ≡ e ∷ [] → filter test (sorted cmp xs) ≡ e ∷ []
  taken_one cmp e [] h = cc
  taken_one cmp e (x ∷ xs) h = by (test x) refl h (taken_one cmp e xs)
    where
      by : (b : Bool) → test x ≡ b → (if b then x ∷ filter test xs else filter test xs) ≡ e ∷ [] → (filter test xs ≡ e ∷ [] → filter test (sorted cmp xs) ≡ e ∷ []) → filter test (inserted cmp x (sorted cmp xs)) ≡ e ∷ []
      by true f k r =
          let same : x ≡ e = cc in
          let none : filter test xs ≡ [] = cc in
          one_inserted cmp x (sorted cmp xs) f (taken_none cmp xs none) ∙ ap (λ (y : A). y ∷ []) same
      by false f k r = filter_inserted test cmp x (sorted cmp xs) f ∙ r k

  filter_parts : (xs ys : List A) → filter test (xs ++ ys) ≡ filter test xs ++ filter test ys
  filter_parts [] ys = refl
  filter_parts (x ∷ xs) ys = by (test x) (filter_parts xs ys)
    where
      by : (b : Bool) → filter test (xs ++ ys) ≡ filter test xs ++ filter test ys → (if b then x ∷ filter test (xs ++ ys) else filter test (xs ++ ys)) ≡ (if b then x ∷ filter test xs else filter test xs) ++ filter test ys
      by true e = ap (λ (l : List A). x ∷ l) e
      by false e = e

  pub all_taken : (xs : List A) → AllByRecursion (λ x. test x ≡ true) xs → filter test xs ≡ xs
  all_taken [] h = refl
  all_taken (x ∷ xs) h = rw h.0 (ap (λ (l : List A). x ∷ l) (all_taken xs h.1))

  pub none_taken : (xs : List A) → AllByRecursion (λ x. test x ≡ false) xs → filter test xs ≡ []
  none_taken [] h = refl
  none_taken (x ∷ xs) h = rw h.0 (none_taken xs h.1)

-- ---- one row

abbrev by_seq : Event → Event → Ordering
by_seq a b = nat_cmp a.seq b.seq

module _ (tx id : ℕ) where
  -- an event of the transaction with this number or above
  late : ℕ → Event → Bool
  late m e = (e.tx == tx) && nat_le m e.seq

  both : (m : ℕ) (es : List Event) → filter (λ e. nat_le m e.seq) (filter (λ e. e.tx == tx) es) ≡ filter (late m) es
  unfolding late
  both m [] = refl
  both m (e ∷ es) = by (e.tx == tx) (both m es)
    where
      by : (b : Bool) → filter (λ d. nat_le m d.seq) (filter (λ d. d.tx == tx) es) ≡ filter (late m) es
          → filter (λ d. nat_le m d.seq) (if b then e ∷ filter (λ d. d.tx == tx) es else filter (λ d. d.tx == tx) es) ≡ (if b && nat_le m e.seq then e ∷ filter (late m) es else filter (late m) es)
      by true h = ap (λ (l : List Event). if nat_le m e.seq then e ∷ l else l) h
      by false h = h

  not_late : (m : ℕ) (e : Event) → IsBefore tx m (e.tx, e.seq) → late m e ≡ false
  unfolding late
  not_late m e h = by (e.tx == tx) (nat_le m e.seq) refl refl
    where
      by : (b c : Bool) → (e.tx == tx) ≡ b → nat_le m e.seq ≡ c → (b && c) ≡ false
      by true true f g = absurd (omega (arith, h (eqb-true e.tx tx f), leb-true m e.seq g))
      by true false f g = refl
      by false c f g = refl

  ends_before : (m : ℕ) (v : Version) (o : Option EventId) → EndsBefore tx m o → AllByRecursion (λ e. late m e ≡ false) (end_events id v o)
  ends_before m v None h = tt
  ends_before m v (Some e) h = (not_late m (end_event id v e) h, tt)

  none_late : (m : ℕ) (vs : List Version) → AllByRecursion (MadeBefore tx m) vs → filter (late m) (flat_map (version_events id) vs) ≡ []
  none_late m vs h = none_taken (late m) (flat_map (version_events id) vs)
      (all_flat_map (MadeBefore tx m) (λ e. late m e ≡ false) (version_events id) (λ v k. (not_late m (start_event id v) k.start, ends_before m v v.end k.end)) vs h)

  -- the event of one more row among those of rows that were there
  one_late : (m : ℕ) (values : List (Option TypedValue)) (vs : List Version) → AllByRecursion (MadeBefore tx m) vs
      → filter (late m) (flat_map (version_events id) (inserted start_cmp (new_version (tx, m) values) vs)) ≡ start_event id (new_version (tx, m) values) ∷ []
  unfolding late
  one_late m values vs h = by vs (none_late m vs h)
    where
      here : (rest : List Event) → filter (late m) rest ≡ [] → filter (late m) (version_events id (new_version (tx, m) values) ++ rest) ≡ start_event id (new_version (tx, m) values) ∷ []
      here rest k = rw (eq-eqb tx tx refl, le-leb m m (omega arith)) (ap (λ (l : List Event). start_event id (new_version (tx, m) values) ∷ l) k)

      split : (xs ys : List Event) → xs ++ ys ≡ [] → (xs ≡ []) × (ys ≡ [])
      split [] ys e = (refl, e)
      split (x ∷ xs) ys e = cc

      parts : (u : Version) (us : List Version) → filter (late m) (version_events id u ++ flat_map (version_events id) us) ≡ [] → (filter (late m) (version_events id u) ≡ []) × (filter (late m) (flat_map (version_events id) us) ≡ [])
      parts u us k = split (filter (late m) (version_events id u)) (filter (late m) (flat_map (version_events id) us)) (sym (filter_parts (late m) (version_events id u) (flat_map (version_events id) us)) ∙ k)

      at : (u : Version) (us : List Version) (c : Bool) → filter (late m) (version_events id u ++ flat_map (version_events id) us) ≡ []
          → filter (late m) (flat_map (version_events id) (inserted start_cmp (new_version (tx, m) values) us)) ≡ start_event id (new_version (tx, m) values) ∷ []
          → filter (late m) (flat_map (version_events id) (if c then u ∷ inserted start_cmp (new_version (tx, m) values) us else new_version (tx, m) values ∷ u ∷ us)) ≡ start_event id (new_version (tx, m) values) ∷ []
      at u us true k r = filter_parts (late m) (version_events id u) (flat_map (version_events id) (inserted start_cmp (new_version (tx, m) values) us)) ∙ ap₂ (λ (a b : List Event). a ++ b) ((parts u us k).0) r
      at u us false k r = here (flat_map (version_events id) (u ∷ us)) k

      by : (us : List Version) → filter (late m) (flat_map (version_events id) us) ≡ [] → filter (late m) (flat_map (version_events id) (inserted start_cmp (new_version (tx, m) values) us)) ≡ start_event id (new_version (tx, m) values) ∷ []
      by [] k = here [] refl
      by (u ∷ us) k = at u us (is_gt (start_cmp (new_version (tx, m) values) u)) k (by us ((parts u us k).1))

  one_from : (m : ℕ) (values : List (Option TypedValue)) (vs : List Version) → AllByRecursion (MadeBefore tx m) vs
      → events_from tx m id (changed (tx, m) (Starts values) vs) ≡ start_event id (new_version (tx, m) values) ∷ []
  unfolding started
  one_from m values vs h =
      taken_one (λ e. nat_le m e.seq) by_seq (start_event id (new_version (tx, m) values)) (filter (λ e. e.tx == tx) (flat_map (version_events id) (inserted start_cmp (new_version (tx, m) values) vs)))
      (both m (flat_map (version_events id) (inserted start_cmp (new_version (tx, m) values) vs)) ∙ one_late m values vs h)

  -- ---- all rows

  later : (m : ℕ) (v : Version) → MadeBefore tx m v → MadeBefore tx (m + 1) v
  later m v h = record { start = λ e. omega (arith, h.start e); end = later_end v.end h.end }
    where
      later_end : (o : Option EventId) → EndsBefore tx m o → EndsBefore tx (m + 1) o
      later_end None k = tt
      later_end (Some e) k = λ same. omega (arith, k same)

  pub all_later : (m : ℕ) (vs : List Version) → AllByRecursion (MadeBefore tx m) vs → AllByRecursion (MadeBefore tx (m + 1)) vs
  all_later m vs h = all_weaker (MadeBefore tx m) (MadeBefore tx (m + 1)) (later m) vs h

  -- a row's event comes behind those that were there
  one_more : (m : ℕ) (values : List (Option TypedValue)) (vs : List Version) → AllByRecursion (MadeBefore tx m) vs
      → events_in tx id (changed (tx, m) (Starts values) vs) ≡ events_in tx id vs ++ start_event id (new_version (tx, m) values) ∷ []
  unfolding changed_all
  one_more m values vs h = come_last m tx id (Starts values ∷ []) vs h (tt, tt) ∙ ap (λ (es : List Event). events_in tx id vs ++ es) (one_from m values vs h)

  all_more : (m : ℕ) (cs : List Change) (vs : List Version) → AllByRecursion IsRow cs → AllByRecursion (MadeBefore tx m) vs
      → events_in tx id (changed_all tx m cs vs) ≡ events_in tx id vs ++ starts_of id tx m cs
  unfolding changed_all
  all_more m [] vs rows h = sym (append-nil (events_in tx id vs))
  all_more m (Starts values ∷ cs) vs rows h =
      all_more (m + 1) cs (changed (tx, m) (Starts values) vs) rows.1 (before_changed tx m (Starts values) vs h)
      ∙ ap (λ (es : List Event). es ++ starts_of id tx (m + 1) cs) (one_more m values vs h)
      ∙ append_assoc (events_in tx id vs) (start_event id (new_version (tx, m) values) ∷ []) (starts_of id tx (m + 1) cs)
  all_more m (Ends start ∷ cs) vs rows h = absurd rows.0

  starts_late : (n m : ℕ) (cs : List Change) → n ≤ m → AllByRecursion IsRow cs → AllByRecursion (λ e. nat_le n e.seq ≡ true) (starts_of id tx m cs)
  starts_late n m [] le rows = tt
  starts_late n m (Starts values ∷ cs) le rows = (le-leb n m le, starts_late n (m + 1) cs (omega (arith, le)) rows.1)
  starts_late n m (Ends start ∷ cs) le rows = absurd rows.0

  -- the events from a number on, where none was made from it on before, are those of the rows
  pub rows_from : (n m : ℕ) (cs : List Change) (vs : List Version) → n ≤ m → AllByRecursion IsRow cs → AllByRecursion (MadeBefore tx n) vs → AllByRecursion (MadeBefore tx m) vs
      → events_from tx n id (changed_all tx m cs vs) ≡ starts_of id tx m cs
  rows_from n m cs vs le rows h k =
      ap (filter (λ e. nat_le n e.seq)) (all_more m cs vs rows k)
      ∙ filter_parts (λ e. nat_le n e.seq) (events_in tx id vs) (starts_of id tx m cs)
      ∙ ap₂ (λ (a b : List Event). a ++ b)
      (taken_none (λ e. nat_le n e.seq) by_seq (filter (λ e. e.tx == tx) (flat_map (version_events id) vs)) (both n (flat_map (version_events id) vs) ∙ none_late n vs h))
      (all_taken (λ e. nat_le n e.seq) (starts_of id tx m cs) (starts_late n m cs le rows))
