-- A transaction that hasn't begun has no events.
use Rattle.std.proofs.Common.{◌≡◌, ℕ, refl, ap, Bool, true, false, List, [], ◌∷◌, flat_map, Option, Some, None, arith}
use Rattle.std.proofs.lemmas.Bool.{eqb-true}
use Rattle.std.specs.Prelude.{◌==◌}
use Rattle.std.specs.List.{AllByRecursion, filter}
use Rattle.std.specs.Ordering.{nat_cmp}
use Rattle.sql_types.specs.declared.event.Event.{Event}
use Rattle.sql_types.specs.declared.version.Table.{Table}
use Rattle.sql_types.specs.declared.version.Version.{Version}
use Rattle.spec_model.specs.Lists.{sorted}
use Rattle.spec_model.specs.Rows.{EventId}
use Rattle.spec_model.specs.Catalog.{Tables}
use Rattle.spec_model.specs.Events.{end_events, version_events, events_of, all_events}
use Rattle.spec_model.specs.Runs.{IsBefore, EndsBefore, MadeBefore, SoundTable}
use Rattle.law_frame.proofs.LeftRows.{all_flat_map}

filter_none : {A : Type 0} (test : A → Bool) (xs : List A) → AllByRecursion (λ x. test x ≡ false) xs → filter test xs ≡ []
filter_none test [] h = refl
filter_none test (x ∷ xs) h = rw (h.0) (filter_none test xs h.1)

module _ (tx : ℕ) where
  is_others : (e : EventId) → IsBefore tx 0 e → (e.0 == tx) ≡ false
  is_others e h = here (e.0 == tx) refl
    where
      here : (b : Bool) → (e.0 == tx) ≡ b → b ≡ false
      here true i = absurd (omega (arith, h (eqb-true e.0 tx i)))
      here false i = refl

  abbrev NotOf : Event → Type 0
  NotOf e = (e.tx == tx) ≡ false

  ends_not : (table : ℕ) (v : Version) (o : Option EventId) → EndsBefore tx 0 o → AllByRecursion NotOf (end_events table v o)
  ends_not table v (Some e) h = (is_others e h, tt)
  ends_not table v None h = tt

  version_not : (table : ℕ) (v : Version) → MadeBefore tx 0 v → AllByRecursion NotOf (version_events table v)
  version_not table v h = (is_others v.start h.start, ends_not table v v.end h.end)

  table_not : (t : Table) → SoundTable tx 0 t → events_of tx t ≡ []
  unfolding events_of
  table_not t h =
      ap (λ (es : List Event). sorted (λ a b. nat_cmp a.seq b.seq) es)
      (filter_none (λ e. e.tx == tx) (flat_map (version_events t.def.id) t.versions)
      (all_flat_map (MadeBefore tx 0) NotOf (version_events t.def.id) (version_not t.def.id) t.versions h.before))

  pub no_events : (T : Tables) → AllByRecursion (SoundTable tx 0) T → all_events tx T ≡ []
  unfolding all_events
  no_events [] h = refl
  no_events (t ∷ ts) h = rw (table_not t h.0) (no_events ts h.1)
