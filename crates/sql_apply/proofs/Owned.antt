-- The events of the transaction among those of all versions are those of each.
use Rattle.std.proofs.Common.{◌≡◌, refl, ap, ap₂, ◌∙◌, ℕ, ◌==◌, Bool, true, false, cond, List, [], ◌∷◌, ◌++◌, flat_map, filter, Option, Some, None}
use Rattle.std.proofs.lemmas.List.Elements.{filter-append}
use Rattle.sql_types.specs.declared.event.Event.{Event}
use Rattle.sql_types.specs.declared.version.Version.{Version}
use Rattle.spec_model.specs.Rows.{EventId}
use Rattle.spec_model.specs.Events.{start_event, end_events, version_events}
use Rattle.sql_apply.specs.Own.{own, own_start, own_ends}

module _ (tx table : ℕ) where
  abbrev of_tx : Event → Bool
  of_tx e = e.tx == tx

  ends : (v : Version) (end : Option EventId) → filter of_tx (end_events table v end) ≡ own_ends tx table v end
  ends v (Some end) = refl
  ends v None = refl

  in_front : (b : Bool) (e : Event) (es : List Event) → cond b (e ∷ es) es ≡ cond b (e ∷ []) [] ++ es
  in_front true e es = refl
  in_front false e es = refl

  each : (v : Version) → filter of_tx (version_events table v) ≡ own tx table v
  each v = in_front (v.start.0 == tx) (start_event table v) (filter of_tx (end_events table v v.end)) ∙ ap (λ es. own_start tx table v ++ es) (ends v v.end)

  pub owned : (versions : List Version) → filter of_tx (flat_map (version_events table) versions) ≡ flat_map (own tx table) versions
  owned [] = refl
  owned (v ∷ vs) = filter-append of_tx (version_events table v) (flat_map (version_events table) vs) ∙ ap₂ (λ xs ys. xs ++ ys) (each v) (owned vs)
