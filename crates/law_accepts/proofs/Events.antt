-- The events of a transaction in a table are the same when its base stands in front of its history.
use Rattle.std.proofs.Common.{◌≡◌, ◌≤◌, ℕ, ◌+◌, refl, ap, sym, ◌∙◌, Bool, true, false, cond, List, [], ◌∷◌, ◌++◌, flat_map, Option, Some, None, arith, nat_lt, append_assoc}
use Rattle.std.specs.Prelude.{◌==◌, ◌&&◌, if◌then◌else◌, is_some, is_none}
use Rattle.std.specs.List.{filter}
use Rattle.std.specs.Ordering.{nat_cmp}
use Rattle.std.proofs.lemmas.List.Concat.{flat_map-cons}
use Rattle.std.proofs.lemmas.Grind.{flat_map-append}
use Rattle.std.proofs.lemmas.List.Elements.{filter-append}
use Rattle.std.proofs.lemmas.List.Sums.{sum_by-cons}
use Rattle.sql_types.specs.declared.event.Event.{Event}
use Rattle.sql_types.specs.declared.version.Table.{Table}
use Rattle.sql_types.specs.declared.version.Version.{Version}
use Rattle.spec_model.specs.Catalog.{Tables}
use Rattle.spec_model.specs.Events.{start_event, end_events, version_events, events_of, all_events}
use Rattle.spec_model.specs.Lists.{sorted}
use Rattle.spec_model.specs.Rows.{EventId, live}
use Rattle.law_journal.specs.Kept.{is_it, ends_with, count_in, count, count_all, IsNumbered}
use Rattle.law_journal.proofs.Tables.{table_count}
use Rattle.format_image.specs.Rows.{ended_ones}
use Rattle.law_accepts.proofs.ByNumber.{occurs, occurs_append, occurs_sorted, middles, in_front, all_differ}
use Rattle.law_accepts.proofs.Shown.{in_parts}

module _ (tx table : ℕ) where
  -- those of the transaction
  abbrev pub own : List Event → List Event
  own es = filter (λ (e : Event). e.tx == tx) es

  abbrev pub of_one : Version → List Event
  of_one v = own (version_events table v)

  abbrev pub of_all : List Version → List Event
  of_all vs = own (flat_map (version_events table) vs)

  pub of_cons : (v : Version) (vs : List Version) → of_all (v ∷ vs) ≡ of_one v ++ of_all vs
  of_cons v vs = ap own (flat_map-cons (version_events table) v vs) ∙ filter-append (λ (e : Event). e.tx == tx) (version_events table v) (flat_map (version_events table) vs)

  pub of_append : (vs ws : List Version) → of_all (vs ++ ws) ≡ of_all vs ++ of_all ws
  of_append vs ws = ap own (flat_map-append (version_events table) vs ws) ∙ filter-append (λ (e : Event). e.tx == tx) (flat_map (version_events table) vs) (flat_map (version_events table) ws)

  -- ---- counted

  one_counted : (n : ℕ) (e : Event) (es : List Event) → occurs n (own (e ∷ es)) ≡ is_it (tx, n) (e.tx, e.seq) + occurs n (own es)
  unfolding occurs
  one_counted n e es = here (e.tx == tx)
    where
      here : (b : Bool) → occurs n (if b then e ∷ own es else own es) ≡ cond (b && e.seq == n) 1 0 + occurs n (own es)
      here true = refl
      here false = omega arith

  end_counted : (n : ℕ) (v : Version) (o : Option EventId) → occurs n (own (end_events table v o)) ≡ ends_with (tx, n) o
  unfolding occurs
  end_counted n v None = refl
  end_counted n v (Some e) = (let c = one_counted n (record { table = table; tx = e.0; seq = e.1; ends = Some v.start; columns = (start_event table v).columns }) [] in omega (arith, c))

  version_counted : (n : ℕ) (v : Version) → occurs n (of_one v) ≡ count_in (tx, n) v
  version_counted n v = (let s = one_counted n (start_event table v) (end_events table v v.end) in let e = end_counted n v v.end in omega (arith, s, e))

  pub all_counted : (n : ℕ) (vs : List Version) → occurs n (of_all vs) ≡ count (tx, n) vs
  unfolding occurs
  all_counted n [] = refl
  all_counted n (v ∷ vs) =
      let s = ap (occurs n) (of_cons v vs) ∙ occurs_append n (of_one v) (of_all vs) in
      let one = version_counted n v in
      let c = sum_by-cons (count_in (tx, n)) v vs in
      let more = all_counted n vs in
      omega (arith, s, one, c, more)

  -- ---- in two parts

  fewer_if : (n : ℕ) (b : Bool) (v : Version) (vs ws : List Version) → count (tx, n) ws ≤ count (tx, n) vs → count (tx, n) (if b then v ∷ ws else ws) ≤ count_in (tx, n) v + count (tx, n) vs
  fewer_if n true v vs ws le = (let c = sum_by-cons (count_in (tx, n)) v ws in omega (arith, c, le))
  fewer_if n false v vs ws le = omega (arith, le)

  fewer : (n : ℕ) (test : Version → Bool) (vs : List Version) → count (tx, n) (filter test vs) ≤ count (tx, n) vs
  fewer n test [] = omega arith
  fewer n test (v ∷ vs) = (let c = sum_by-cons (count_in (tx, n)) v vs in let f = fewer_if n (test v) v vs (filter test vs) (fewer n test vs) in omega (arith, c, f))

  abbrev by_seq : List Event → List Event
  by_seq es = sorted (λ a b. nat_cmp a.seq b.seq) es

  part_at : (v : Version) (vs : List Version) (o : Option EventId) → ((n : ℕ) → count (tx, n) (v ∷ vs) ≤ 1) → by_seq (of_all (live vs) ++ of_all (ended_ones vs)) ≡ by_seq (of_all vs)
      → by_seq (of_all (if is_none o then v ∷ live vs else live vs) ++ of_all (if is_some o then v ∷ ended_ones vs else ended_ones vs)) ≡ by_seq (of_all (v ∷ vs))
  part_at v vs None few more =
      let F : List Event = of_one v in
      ap (λ (es : List Event). by_seq (es ++ of_all (ended_ones vs))) (of_cons v (live vs))
      ∙ ap by_seq (append_assoc F (of_all (live vs)) (of_all (ended_ones vs)))
      ∙ in_front F (of_all (live vs) ++ of_all (ended_ones vs)) (of_all vs) more
      ∙ ap by_seq (sym (of_cons v vs))
  part_at v vs (Some e) few more =
      let F : List Event = of_one v in
      let apart : (n : ℕ) → occurs n F + occurs n (of_all (live vs)) ≤ 1 = λ n. (
      let one = version_counted n v in
      let all = all_counted n (live vs) in
      let c = sum_by-cons (count_in (tx, n)) v vs in
      let less = fewer n (λ (w : Version). is_none w.end) vs in
      let f = few n in
      omega (arith, one, all, c, less, f)) in
      ap (λ (es : List Event). by_seq (of_all (live vs) ++ es)) (of_cons v (ended_ones vs))
      ∙ middles F (of_all (live vs)) (of_all (ended_ones vs)) (all_differ F (of_all (live vs)) apart)
      ∙ in_front F (of_all (live vs) ++ of_all (ended_ones vs)) (of_all vs) more
      ∙ ap by_seq (sym (of_cons v vs))

  in_two : (vs : List Version) → ((n : ℕ) → count (tx, n) vs ≤ 1) → by_seq (of_all (live vs) ++ of_all (ended_ones vs)) ≡ by_seq (of_all vs)
  in_two [] few = refl
  in_two (v ∷ vs) few = part_at v vs v.end few (in_two vs (λ n. (let c = sum_by-cons (count_in (tx, n)) v vs in let f = few n in omega (arith, c, f))))

  pub parts_alike : (vs : List Version) → ((n : ℕ) → count (tx, n) vs ≤ 1) → by_seq (of_all (live vs ++ ended_ones vs)) ≡ by_seq (of_all vs)
  parts_alike vs few = ap by_seq (of_append (live vs) (ended_ones vs)) ∙ in_two vs few

module _ (tx : ℕ) where
  pub same_events : (t : Table) → ((n : ℕ) → count (tx, n) t.versions ≤ 1) → events_of tx (in_parts t) ≡ events_of tx t
  unfolding events_of
  same_events t few = parts_alike tx t.def.id t.versions few

  table_counted : (n : ℕ) (t : Table) → occurs n (events_of tx t) ≡ count (tx, n) t.versions
  unfolding events_of
  table_counted n t = occurs_sorted n (of_all tx t.def.id t.versions) ∙ all_counted tx t.def.id n t.versions

  tables_counted : (n : ℕ) (T : Tables) → occurs n (all_events tx T) ≡ count_all (tx, n) T
  unfolding all_events occurs
  tables_counted n [] = refl
  tables_counted n (t ∷ ts) =
      let s = occurs_append n (events_of tx t) (flat_map (events_of tx) ts) in
      let one = table_counted n t in
      let c = sum_by-cons (table_count (tx, n)) t ts in
      let more = tables_counted n ts in
      omega (arith, s, one, c, more)

  pub numbered : (k : ℕ) (T : Tables) → IsNumbered tx k T → (n : ℕ) → occurs n (all_events tx T) ≡ cond (nat_lt n k) 1 0
  numbered k T h n = tables_counted n T ∙ h n
