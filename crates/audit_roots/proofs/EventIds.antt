-- The numbers of a transaction's events, told by the ids of all starts and ends in order.
use Rattle.std.proofs.Common.{◌≡◌, ◌==◌, ℕ, Bool, List, [], ◌∷◌, ◌++◌, map, filter, flat_map, refl, sym, ap, ap₂, subst, ◌∙◌, is_lt, false, Option, Some, None}
use Rattle.std.specs.Cmp.{IsTotalOrder, on_total, then_total, nat_cmp_total}
use Rattle.std.specs.List.Sorted.{IsPermutation, IsSortedBy, IsNonDecreasingBy}
use Rattle.std.specs.Ordering.{nat_cmp, ordering_then}
use Rattle.std.specs.declared.cmp.Ordering.{Ordering}
use Rattle.std.specs.declared.cmp.Ordering.TheVariants.{Less, Equal, Greater}
use Rattle.std.proofs.lemmas.List.{map-append}
use Rattle.std.proofs.lemmas.List.Concat.{flat_map-append}
use Rattle.std.proofs.lemmas.List.Elements.{filter-append}
use Rattle.std.proofs.lemmas.List.Sorted.{IsNonDecreasingBy-from_sort, IsPermutation-refl, IsPermutation-trans, IsPermutation-sym, IsPermutation-append, IsPermutation-map}
use Rattle.sql_parts.proofs.Sorting.{same_elements}
use Rattle.sql_types.specs.declared.event.Event.{Event}
use Rattle.sql_types.specs.declared.version.Version.{Version}
use Rattle.spec_model.specs.Catalog.{Tables}
use Rattle.spec_model.specs.Events.{version_events, end_events, events_of, all_events}
use Rattle.spec_model.specs.Lists.{sorted}
use Rattle.spec_model.specs.Rows.{EventId, event_cmp}
use Rattle.spec_verify.specs.Entries.{are_numbered}
use Rattle.audit_roots.specs.declared.shown.ImageTable.{ImageTable}
use Rattle.audit_roots.specs.EventIds.{AreIds, end_ids, ids_in, ids_shown, number_in, numbers_of, tx_in, version_ids}
use Rattle.audit_roots.specs.Marks.{events_in}
use Rattle.audit_roots.specs.ImageTable.{rows_of}
use Rattle.audit_roots.proofs.EntryRoots.{filter_seen}
use Rattle.audit_roots.proofs.InRows.{numbered_moved}
use Rattle.audit_columns.proofs.Sortings.{filter_sorted}

pub ids_of_parts : (s : ImageTable) → flat_map version_ids (rows_of s).base ++ flat_map version_ids (rows_of s).history ≡ ids_shown s
ids_of_parts s = sym (flat_map-append version_ids (rows_of s).base (rows_of s).history)

-- ---- the order

pub ids_total : IsTotalOrder event_cmp
ids_total = then_total (on_total tx_in nat_cmp_total) (on_total number_in nat_cmp_total)

first_less : (o p : Ordering) → is_lt (ordering_then o p) ≡ false → is_lt o ≡ false
first_less Less p e = e
first_less Equal p e = refl
first_less Greater p e = refl

pub tx_rises : (ids : List EventId) → IsSortedBy (λ a b. is_lt (event_cmp a b)) ids → IsNonDecreasingBy tx_in ids
tx_rises ids up = IsNonDecreasingBy-from_sort tx_in ids (λ k d low high. first_less _ _ (up k d low high))

-- ---- events and their ids

abbrev id_of : Event → EventId
id_of e = (e.tx, e.seq)

of_end : (table : ℕ) (v : Version) (end : Option EventId) → map id_of (end_events table v end) ≡ end_ids end
of_end table v None = refl
of_end table v (Some end) = refl

of_versions : (table : ℕ) (vs : List Version) → map id_of (flat_map (version_events table) vs) ≡ flat_map version_ids vs
of_versions table [] = refl
of_versions table (v ∷ vs) =
    map-append id_of (version_events table v) (flat_map (version_events table) vs)
    ∙ ap₂ (λ (a b : List EventId). (v.start ∷ a) ++ b) (of_end table v v.end) (of_versions table vs)

of_tables : (ts : Tables) → map id_of (flat_map events_in ts) ≡ flat_map ids_in ts
of_tables [] = refl
of_tables (t ∷ ts) =
    map-append id_of (events_in t) (flat_map events_in ts)
    ∙ ap₂ (λ (a b : List EventId). a ++ b) (of_versions t.def.id t.versions) (of_tables ts)

-- ---- those of a transaction

module _ (tx : ℕ) where
  abbrev is_own : Event → Bool
  is_own e = e.tx == tx

  same_events : (ts : Tables) → IsPermutation (filter is_own (flat_map events_in ts)) (all_events tx ts)
  unfolding all_events events_of
  same_events [] = IsPermutation-refl []
  same_events (t ∷ ts) =
      subst (λ (l : List Event). IsPermutation l (sorted (λ a b. nat_cmp a.seq b.seq) (filter is_own (events_in t)) ++ all_events tx ts)) (sym (filter-append is_own (events_in t) (flat_map events_in ts)))
      (IsPermutation-append (filter is_own (events_in t)) (sorted (λ a b. nat_cmp a.seq b.seq) (filter is_own (events_in t))) (filter is_own (flat_map events_in ts)) (all_events tx ts)
      (same_elements (λ a b. nat_cmp a.seq b.seq) (on_total (λ (e : Event). e.seq) nat_cmp_total) (filter is_own (events_in t))) (same_events ts))

  abbrev is_own_id : EventId → Bool
  is_own_id e = tx_in e == tx

  own_ids : (ts : Tables) → filter is_own_id (sorted event_cmp (flat_map ids_in ts)) ≡ sorted event_cmp (map id_of (filter is_own (flat_map events_in ts)))
  own_ids ts =
      filter_sorted event_cmp ids_total is_own_id (flat_map ids_in ts)
      ∙ ap (sorted event_cmp) (ap (filter is_own_id) (sym (of_tables ts)) ∙ sym (filter_seen id_of is_own_id (flat_map events_in ts)))

  seen_numbers : (es : List Event) → map number_in (map id_of es) ≡ map (λ (e : Event). e.seq) es
  seen_numbers [] = refl
  seen_numbers (e ∷ es) = ap (λ (l : List ℕ). e.seq ∷ l) (seen_numbers es)

  moved : (ts : Tables) → IsPermutation (map (λ (e : Event). e.seq) (all_events tx ts)) (map number_in (sorted event_cmp (map id_of (filter is_own (flat_map events_in ts)))))
  moved ts =
      let own = filter is_own (flat_map events_in ts) in
      IsPermutation-trans (map (λ (e : Event). e.seq) (all_events tx ts)) (map (λ (e : Event). e.seq) own) (map number_in (sorted event_cmp (map id_of own)))
      (IsPermutation-sym (map (λ (e : Event). e.seq) own) (map (λ (e : Event). e.seq) (all_events tx ts)) (IsPermutation-map (λ (e : Event). e.seq) own (all_events tx ts) (same_events ts)))
      (subst (λ (l : List ℕ). IsPermutation l (map number_in (sorted event_cmp (map id_of own)))) (seen_numbers own)
      (IsPermutation-map number_in (map id_of own) (sorted event_cmp (map id_of own)) (same_elements event_cmp ids_total (map id_of own))))

  pub numbers_are : (ts : Tables) (ids : List EventId) → AreIds ts ids → are_numbered (numbers_of tx ids) ≡ are_numbered (map (λ (e : Event). e.seq) (all_events tx ts))
  numbers_are ts ids are =
      ap (λ (l : List EventId). are_numbered (numbers_of tx l)) are.ids_are
      ∙ ap (λ (l : List EventId). are_numbered (map number_in l)) (own_ids ts)
      ∙ numbered_moved (map (λ (e : Event). e.seq) (all_events tx ts)) _ (moved ts)
