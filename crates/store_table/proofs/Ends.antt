-- The ends of versions, with one version more or less.
use Rattle.std.proofs.Common.{◌≡◌, ◌<◌, ◌≤◌, ℕ, refl, sym, ap, subst, ◌∙◌, false, List, [], ◌∷◌, ◌++◌, length, get_or, Option, Some, None, arith}
use Rattle.std.specs.List.{AllByRecursion, insert, remove}
use Rattle.std.specs.List.Sorted.{IsPartitionedBy}
use Rattle.std.specs.Cmp.{IsTotalOrder, on_total, then_total}
use Rattle.std.specs.Ordering.{is_lt, ordering_then}
use Rattle.std.specs.declared.cmp.Ordering.{Ordering}
use Rattle.std.specs.declared.cmp.Ordering.TheVariants.{Less, Equal, Greater}
use Rattle.std.proofs.lemmas.List.Concat.{flat_map-append}
use Rattle.std.proofs.lemmas.List.Sorted.{ranks_by, sorted_far}
use Rattle.sql_types.specs.declared.version.Version.{Version}
use Rattle.spec_model.specs.Lists.{inserted, sorted}
use Rattle.spec_model.specs.Rows.{EventId, event_cmp}
use Rattle.spec_model.specs.Runs.{Rising}
use Rattle.law_frame.proofs.Sounds.{event_total}
use Rattle.sql_parts.proofs.Sorting.{is_sorted}
use Rattle.store_table.specs.declared.ending.Ending.{Ending}
use Rattle.store_table.specs.Ends.{ending, ending_cmp, own_ending, endings_of, endings_in, ending_place}
use Rattle.sql_parts.proofs.OneMore.{inserted_at, removed_at, place_there, place_within, sorted_more, parted, before_is_downward}
use Rattle.store_table.proofs.Splits.{rising_left}

pub ending_total : IsTotalOrder ending_cmp
ending_total = then_total (on_total (λ (e : Ending). e.end) event_total) (on_total (λ (e : Ending). e.start) event_total)

apart_then : (o t : Ordering) → t ≡ Less → ordering_then o t ≡ Equal → ⊥
apart_then Less t less e = cc
apart_then Equal t less e = cc
apart_then Greater t less e = cc

all_own : (end start : EventId) (o : Option EventId) (w : EventId) (es : List Ending) → event_cmp w start ≡ Less
    → AllByRecursion (λ a. ending_cmp a (ending end start) ≡ Equal → ⊥) es → AllByRecursion (λ a. ending_cmp a (ending end start) ≡ Equal → ⊥) (own_ending o w ++ es)
all_own end start None w es less h = h
all_own end start (Some e) w es less h = (apart_then (event_cmp e end) (event_cmp w start) less, h)

apart_before : (end start : EventId) (xs : List Version) → AllByRecursion (λ w. event_cmp w.start start ≡ Less) xs
    → AllByRecursion (λ a. ending_cmp a (ending end start) ≡ Equal → ⊥) (endings_of xs)
apart_before end start [] h = tt
apart_before end start (x ∷ xs) h = all_own end start x.end x.start (endings_of xs) h.0 (apart_before end start xs h.1)

module _ (xs : List Version) (v : Version) (ys : List Version) where
  with_one : (end : EventId) → v.end ≡ Some end → endings_of (xs ++ v ∷ ys) ≡ endings_of xs ++ (ending end v.start) ∷ endings_of ys
  with_one end ended = flat_map-append (λ (w : Version). own_ending w.end w.start) xs (v ∷ ys) ∙ ap (λ l. endings_of xs ++ l) (rw ended refl)

  pub none_ended : v.end ≡ None → endings_of (xs ++ v ∷ ys) ≡ endings_of (xs ++ ys)
  none_ended is_live =
      flat_map-append (λ (w : Version). own_ending w.end w.start) xs (v ∷ ys)
      ∙ ap (λ l. endings_of xs ++ l) (rw is_live refl)
      ∙ sym (flat_map-append (λ (w : Version). own_ending w.end w.start) xs ys)

  pub one_ended : (end : EventId) → Rising (xs ++ v ∷ ys) → v.end ≡ Some end
      → endings_in (xs ++ v ∷ ys) ≡ inserted ending_cmp (ending end v.start) (endings_in (xs ++ ys))
  one_ended end r ended =
      ap (sorted ending_cmp) (with_one end ended)
      ∙ sorted_more ending_cmp ending_total (endings_of xs) (ending end v.start) (endings_of ys) (apart_before end v.start xs (rising_left xs v ys r))
      ∙ ap (λ l. inserted ending_cmp (ending end v.start) (sorted ending_cmp l)) (sym (flat_map-append (λ (w : Version). own_ending w.end w.start) xs ys))

-- ---- halving

pub endings_parted : (e : Ending) (es ends : List Ending) → ends ≡ sorted ending_cmp es → IsPartitionedBy (λ a. is_lt (ending_cmp a e)) ends
endings_parted e es ends is =
    subst (IsPartitionedBy (λ a. is_lt (ending_cmp a e))) (sym is)
    (parted ending_cmp ending_total (λ a. is_lt (ending_cmp a e)) (before_is_downward ending_cmp ending_total e) es)

pub put_among : (e : Ending) (es ends : List Ending) → ends ≡ es → insert ends (ending_place e ends) e ≡ inserted ending_cmp e es
put_among e es ends is = ap (λ l. insert l (ending_place e l) e) is ∙ sym (inserted_at ending_cmp ending_total e es)

pub taken_from : (e : Ending) (rest ends : List Ending) → ends ≡ inserted ending_cmp e rest → remove ends (ending_place e ends) ≡ rest
taken_from e rest ends is =
    ap (λ l. remove l (ending_place e l)) is
    ∙ ap (remove (inserted ending_cmp e rest)) (place_there ending_cmp ending_total e rest)
    ∙ removed_at ending_cmp ending_total e rest

pub ending_inside : (e : Ending) (rest ends : List Ending) → ends ≡ inserted ending_cmp e rest → ending_place e ends < length ends
ending_inside e rest ends is =
    let here = ap (ending_place e) is ∙ place_there ending_cmp ending_total e rest in
    let long = ap length is in
    let within = place_within ending_cmp ending_total e rest in
    omega (arith, here, long, within)

-- none comes before one in front of it
pub endings_rise : (es ends : List Ending) → ends ≡ sorted ending_cmp es → (i j : ℕ) (d : Ending) → i ≤ j → j < length ends
    → is_lt (event_cmp (get_or ends j d).end (get_or ends i d).end) ≡ false
endings_rise es ends is i j d le inside = first_not_less (event_cmp (get_or ends j d).end (get_or ends i d).end) (event_cmp (get_or ends j d).start (get_or ends i d).start) (far es ends is i j d le inside)
  where
    far : (es ends : List Ending) → ends ≡ sorted ending_cmp es → (i j : ℕ) (d : Ending) → i ≤ j → j < length ends → is_lt (ending_cmp (get_or ends j d) (get_or ends i d)) ≡ false
    far es ends is = subst (λ l. (i j : ℕ) (d : Ending) → i ≤ j → j < length l → is_lt (ending_cmp (get_or l j d) (get_or l i d)) ≡ false) (sym is)
        (sorted_far (λ x y. is_lt (ending_cmp x y)) (ranks_by ending_total (λ x. x)) (sorted ending_cmp es) (is_sorted ending_cmp ending_total es))

    first_not_less : (o t : Ordering) → is_lt (ordering_then o t) ≡ false → is_lt o ≡ false
    first_not_less Less t h = h
    first_not_less Equal t h = refl
    first_not_less Greater t h = refl
