-- Nothing in the cells, and nothing in the tables of the journal, is of a transaction that hasn't begun.
use Rattle.std.proofs.Common.{◌≡◌, ◌≢◌, ℕ, ◌<◌, Bool, true, false, List, [], ◌∷◌, ◌++◌, flat_map, Option, Some, None, refl, sym, ap, arith, ◌∙◌, map}
use Rattle.std.proofs.lemmas.Bool.{ne_eqb, or_parts, eq-eqb}
use Rattle.std.specs.Prelude.{◌==◌, if◌then◌else◌, nat_le, not, ◌&&◌}
use Rattle.std.specs.List.{AllByRecursion, filter}
use Rattle.std.specs.Ordering.{nat_cmp}
use Rattle.sql_types.specs.declared.event.Event.{Event}
use Rattle.sql_types.specs.declared.version.Version.{Version}
use Rattle.spec_model.specs.Lists.{sorted}
use Rattle.spec_model.specs.Rows.{EventId}
use Rattle.spec_model.specs.Catalog.{Tables, versions_of}
use Rattle.spec_model.specs.Events.{end_events, version_events}
use Rattle.spec_model.specs.Runs.{IsBefore, EndsBefore, MadeBefore, SoundTable, Sound}
use Rattle.spec_history.specs.Lists.{Each}
use Rattle.spec_history.proofs.Trace.{each_append, each_weaker}
use Rattle.spec_model.specs.Touched.{ends_by, is_touched, touched}
use Rattle.spec_protocol.specs.EventsIn.{events_in}
use Rattle.spec_model.specs.Undo.{end_left, end_undone, is_undone, versions_undone}

abbrev pub EndIsNotOf : ℕ → Option EventId → Type 0
EndIsNotOf tx None = Unit {0}
EndIsNotOf tx (Some event) = event.0 ≢ tx

-- a version that the transaction neither started nor ended
pub record IsNotOf (tx : ℕ) (v : Version) : Type 0 where
  pub start : v.start.0 ≢ tx
  pub end : EndIsNotOf tx v.end

filter_none : {A : Type 0} (test : A → Bool) (es : List A) → Each (λ e. test e ≡ false) es → filter test es ≡ []
filter_none test [] h = refl
filter_none test (e ∷ es) h = rw (h.0) (filter_none test es h.1)

module _ (tx id : ℕ) where
  abbrev NotBy : Event → Type 0
  NotBy e = (e.tx == tx) ≡ false

  end_not : (v : Version) (o : Option EventId) → EndIsNotOf tx o → Each NotBy (end_events id v o)
  end_not v None h = tt
  end_not v (Some event) h = (ne_eqb event.0 tx h, tt)

  all_not : (vs : List Version) → Each (IsNotOf tx) vs → Each NotBy (flat_map (version_events id) vs)
  all_not [] h = tt
  all_not (v ∷ vs) h = each_append NotBy (version_events id v) (flat_map (version_events id) vs) (ne_eqb v.start.0 tx h.0.start, end_not v v.end h.0.end) (all_not vs h.1)

  pub no_events : (vs : List Version) → Each (IsNotOf tx) vs → events_in tx id vs ≡ []
  no_events vs h = ap (λ (es : List Event). sorted (λ a b. nat_cmp a.seq b.seq) es) (filter_none (λ e. e.tx == tx) (flat_map (version_events id) vs) (all_not vs h))

module _ (tx n : ℕ) where
  ended_before : (o : Option EventId) → EndIsNotOf tx o → EndsBefore tx n o
  ended_before None h = tt
  ended_before (Some event) h = λ e. absurd (h e)

  pub made_before : (vs : List Version) → Each (IsNotOf tx) vs → AllByRecursion (MadeBefore tx n) vs
  made_before [] h = tt
  made_before (v ∷ vs) h = (record { start = λ e. absurd (h.0.start e); end = ended_before v.end h.0.end }, made_before vs h.1)

module _ (tx : ℕ) where
  ends_not : (o : Option EventId) → EndIsNotOf tx o → ends_by tx o ≡ false
  ends_not None h = refl
  ends_not (Some event) h = ne_eqb event.0 tx h

  pub untouched : (v : Version) → IsNotOf tx v → is_touched tx v ≡ false
  untouched v h = rw (ne_eqb v.start.0 tx h.start) (ends_not v.end h.end)

  pub none_touched : (vs : List Version) → Each (IsNotOf tx) vs → touched tx vs ≡ []
  none_touched vs h = filter_none (is_touched tx) vs (each_weaker (IsNotOf tx) (λ v. is_touched tx v ≡ false) untouched vs h)

-- ---- tables that are sound for a transaction from its start

module _ (tx : ℕ) where
  not_before : (event : EventId) → IsBefore tx 0 event → event.0 ≢ tx
  not_before event h e = let l : event.1 < 0 = h e in absurd (omega arith)

  end_before : (o : Option EventId) → EndsBefore tx 0 o → EndIsNotOf tx o
  end_before None h = tt
  end_before (Some event) h = not_before event h

  all_before : (vs : List Version) → AllByRecursion (MadeBefore tx 0) vs → Each (IsNotOf tx) vs
  all_before [] h = tt
  all_before (v ∷ vs) h = (record { start = not_before v.start h.0.start; end = end_before v.end h.0.end }, all_before vs h.1)

  if_sound : (b : Bool) (xs ys : List Version) → Each (IsNotOf tx) xs → Each (IsNotOf tx) ys → Each (IsNotOf tx) (if b then xs else ys)
  if_sound true xs ys h k = h
  if_sound false xs ys h k = k

  tables_not : (T : Tables) (id : ℕ) → AllByRecursion (SoundTable tx 0) T → Each (IsNotOf tx) (versions_of T id)
  tables_not [] id h = tt
  tables_not (t ∷ ts) id h = if_sound (t.def.id == id) t.versions (versions_of ts id) (all_before t.versions h.0.before) (tables_not ts id h.1)

  pub none_touched_in : (T : Tables) (id : ℕ) → Sound tx 0 T → touched tx (versions_of T id) ≡ []
  none_touched_in T id h = none_touched tx (versions_of T id) (tables_not T id h.each)

  pub none_in_tables : (T : Tables) (id : ℕ) → Sound tx 0 T → events_in tx id (versions_of T id) ≡ []
  none_in_tables T id h = no_events tx id (versions_of T id) (tables_not T id h.each)

-- ---- its events are those of the versions that it touched

module _ (tx id : ℕ) where
  no_event : (v : Version) (o : Option EventId) → ends_by tx o ≡ false → filter (λ e. e.tx == tx) (end_events id v o) ≡ []
  no_event v None h = refl
  no_event v (Some event) h = rw h refl

  two_parts : (test : Event → Bool) (xs ys : List Event) → filter test (xs ++ ys) ≡ filter test xs ++ filter test ys
  two_parts test [] ys = refl
  two_parts test (x ∷ xs) ys = by_test (test x) (two_parts test xs ys)
    where
      by_test : (b : Bool) → filter test (xs ++ ys) ≡ filter test xs ++ filter test ys → (if b then x ∷ filter test (xs ++ ys) else filter test (xs ++ ys)) ≡ (if b then x ∷ filter test xs else filter test xs) ++ filter test ys
      by_test true e = ap (λ (l : List Event). x ∷ l) e
      by_test false e = e

  abbrev by_it : List Event → List Event
  by_it es = filter (λ e. e.tx == tx) es

  not_one : (v : Version) → (v.start.0 == tx) ≡ false → ends_by tx v.end ≡ false → by_it (version_events id v) ≡ []
  not_one v e f = rw e (no_event v v.end f)

  one_version : (v : Version) (vs ws : List Version) (b : Bool) → is_touched tx v ≡ b → by_it (flat_map (version_events id) vs) ≡ by_it (flat_map (version_events id) ws)
      → by_it (flat_map (version_events id) (v ∷ vs)) ≡ by_it (flat_map (version_events id) (if b then v ∷ ws else ws))
  one_version v vs ws true h e = two_parts (λ e. e.tx == tx) (version_events id v) (flat_map (version_events id) vs) ∙ ap (λ (l : List Event). by_it (version_events id v) ++ l) e
      ∙ sym (two_parts (λ e. e.tx == tx) (version_events id v) (flat_map (version_events id) ws))
  one_version v vs ws false h e = let p = or_parts (v.start.0 == tx) (ends_by tx v.end) h in
      two_parts (λ e. e.tx == tx) (version_events id v) (flat_map (version_events id) vs) ∙ ap (λ (l : List Event). l ++ by_it (flat_map (version_events id) vs)) (not_one v p.0 p.1) ∙ e

  all_versions : (vs : List Version) → by_it (flat_map (version_events id) vs) ≡ by_it (flat_map (version_events id) (touched tx vs))
  all_versions [] = refl
  all_versions (v ∷ vs) = one_version v vs (touched tx vs) (is_touched tx v) refl (all_versions vs)

  pub events_of_touched : (vs : List Version) → events_in tx id vs ≡ events_in tx id (touched tx vs)
  events_of_touched vs = ap (λ (es : List Event). sorted (λ a b. nat_cmp a.seq b.seq) es) (all_versions vs)

-- who touched nothing made no event
module _ (tx : ℕ) where
  end_none : (o : Option EventId) → ends_by tx o ≡ false → EndIsNotOf tx o
  end_none None e = tt
  end_none (Some event) e = λ same. let yes : (event.0 == tx) ≡ true = eq-eqb event.0 tx same in cc

  one_none : (v : Version) → is_touched tx v ≡ false → IsNotOf tx v
  one_none v e = let p = or_parts (v.start.0 == tx) (ends_by tx v.end) e in record { start = λ same. (let yes : (v.start.0 == tx) ≡ true = eq-eqb v.start.0 tx same in let no = p.0 in cc); end = end_none v.end p.1 }

  pub none_of_touched : (vs : List Version) → touched tx vs ≡ [] → Each (IsNotOf tx) vs
  none_of_touched [] e = tt
  none_of_touched (v ∷ vs) e = by_touch (is_touched tx v) refl e (none_of_touched vs)
    where
      by_touch : (b : Bool) → is_touched tx v ≡ b → (if b then v ∷ touched tx vs else touched tx vs) ≡ [] → (touched tx vs ≡ [] → Each (IsNotOf tx) vs) → Each (IsNotOf tx) (v ∷ vs)
      by_touch true f g r = cc
      by_touch false f g r = (one_none v f, r g)

  pub each_filter_not : (test : Version → Bool) (vs : List Version) → Each (IsNotOf tx) vs → Each (IsNotOf tx) (filter test vs)
  each_filter_not test [] h = tt
  each_filter_not test (v ∷ vs) h = here (test v) (each_filter_not test vs h.1)
    where
      here : (b : Bool) → Each (IsNotOf tx) (filter test vs) → Each (IsNotOf tx) (if b then v ∷ filter test vs else filter test vs)
      here true k = (h.0, k)
      here false k = k

-- and undo leaves what it didn't make
module _ (tx n : ℕ) where
  end_stays : (o : Option EventId) → EndIsNotOf tx o → end_left tx n o ≡ o
  end_stays None h = refl
  end_stays (Some event) h = ap (λ (b : Bool). if b && nat_le n event.1 then None else Some event) (ne_eqb event.0 tx h)

  pub undone_nothing : (vs : List Version) → Each (IsNotOf tx) vs → versions_undone tx n vs ≡ vs
  undone_nothing [] h = refl
  undone_nothing (v ∷ vs) h = ap (λ (b : Bool). map (end_undone tx n) (if not (b && nat_le n v.start.1) then v ∷ filter (λ w. not (is_undone tx n w.start)) vs else filter (λ w. not (is_undone tx n w.start)) vs)) (ne_eqb v.start.0 tx h.0.start)
      ∙ (λ i. record { values = v.values; start = v.start; end = end_stays v.end h.0.end i } ∷ undone_nothing vs h.1 i)
