-- The events of changes come after those before them.
use Rattle.std.proofs.Common.{◌≡◌, ℕ, ◌+◌, ◌≤◌, Bool, true, false, List, [], ◌∷◌, ◌++◌, Option, Some, None, refl, sym, ap, ap₂, ◌∙◌, arith}
use Rattle.std.proofs.lemmas.Grind.{common_steps}
use Rattle.std.proofs.lemmas.Bool.{eqb-true}
use Rattle.std.specs.Prelude.{◌==◌, ◌&&◌, not, nat_le, if◌then◌else◌, flat_map}
use Rattle.std.specs.List.{AllByRecursion, filter}
use Rattle.std.specs.Ordering.{nat_cmp, is_gt}
use Rattle.std.specs.declared.cmp.Ordering.{Ordering}
use Rattle.sql_types.specs.declared.event.Event.{Event}
use Rattle.sql_types.specs.declared.version.Version.{Version}
use Rattle.sql_types.specs.declared.version.TypedValue.{TypedValue}
use Rattle.spec_model.specs.Rows.{EventId, same_event, start_cmp, started, with_end, ended}
use Rattle.spec_model.specs.Changes.{Change, Starts, Ends, changed, changed_all}
use Rattle.spec_model.specs.Events.{start_event, end_event, end_events, version_events}
use Rattle.spec_model.specs.Lists.{inserted, sorted}
use Rattle.spec_model.specs.Runs.{IsBefore, EndsBefore, MadeBefore}
use Rattle.spec_model.specs.Undo.{is_undone, end_left}
use Rattle.law_blocks.proofs.Alls.{all_weaker}
use Rattle.law_blocks.proofs.LeftRows.{all_flat_map}
use Rattle.law_blocks.proofs.SameKeys.{and_true}
use Rattle.law_blocks.proofs.UndoneVersions.{Undoes, still_undoes}
use Rattle.spec_protocol.specs.EventsIn.{events_in}

abbrev by_seq : Event → Event → Ordering
by_seq a b = nat_cmp a.seq b.seq

module _ (n : ℕ) where
  late : Event → Bool
  late e = nat_le n e.seq

  early : Event → Bool
  early e = not (late e)

  -- ---- sorting puts the late ones after the early ones

  not_gt : (x y : Event) → late x ≡ false → late y ≡ true → is_gt (by_seq x y) ≡ false
  unfolding late
  not_gt x y h k = grind (arith, common_steps, h, k)

  gt : (x y : Event) → late x ≡ true → late y ≡ false → is_gt (by_seq x y) ≡ true
  unfolding late
  gt x y h k = grind (arith, common_steps, h, k)

  abbrev AllEarly : List Event → Type 0
  AllEarly = AllByRecursion (λ e. late e ≡ false)

  abbrev AllLate : List Event → Type 0
  AllLate = AllByRecursion (λ e. late e ≡ true)

  insert_keeps : (b : Bool) (x : Event) (xs : List Event) → late x ≡ b → AllByRecursion (λ e. late e ≡ b) xs → AllByRecursion (λ e. late e ≡ b) (inserted by_seq x xs)
  insert_keeps b x [] h k = (h, tt)
  insert_keeps b x (y ∷ ys) h k = by (is_gt (by_seq x y)) (insert_keeps b x ys h k.1)
    where
      by : (c : Bool) → AllByRecursion (λ e. late e ≡ b) (inserted by_seq x ys) → AllByRecursion (λ e. late e ≡ b) (if c then y ∷ inserted by_seq x ys else x ∷ y ∷ ys)
      by true r = (k.0, r)
      by false r = (h, (k.0, k.1))

  early_first : (x : Event) (front bs : List Event) → late x ≡ false → AllLate bs → inserted by_seq x (front ++ bs) ≡ inserted by_seq x front ++ bs
  early_first x [] [] h k = refl
  early_first x [] (b ∷ bs) h k = ap (λ (c : Bool). if c then b ∷ inserted by_seq x bs else x ∷ b ∷ bs) (not_gt x b h k.0)
  early_first x (a ∷ front) bs h k = by (is_gt (by_seq x a)) (early_first x front bs h k)
    where
      by : (c : Bool) → inserted by_seq x (front ++ bs) ≡ inserted by_seq x front ++ bs → (if c then a ∷ inserted by_seq x (front ++ bs) else x ∷ a ∷ (front ++ bs)) ≡ (if c then a ∷ inserted by_seq x front else x ∷ a ∷ front) ++ bs
      by true e = ap (λ (l : List Event). a ∷ l) e
      by false e = refl

  late_last : (x : Event) (front bs : List Event) → late x ≡ true → AllEarly front → inserted by_seq x (front ++ bs) ≡ front ++ inserted by_seq x bs
  late_last x [] bs h k = refl
  late_last x (a ∷ front) bs h k = ap (λ (c : Bool). if c then a ∷ inserted by_seq x (front ++ bs) else x ∷ a ∷ (front ++ bs)) (gt x a h k.0) ∙ ap (λ (l : List Event). a ∷ l) (late_last x front bs h k.1)

  sorted_keeps : (b : Bool) (xs : List Event) → AllByRecursion (λ e. late e ≡ b) xs → AllByRecursion (λ e. late e ≡ b) (sorted by_seq xs)
  sorted_keeps b [] h = tt
  sorted_keeps b (x ∷ xs) h = insert_keeps b x (sorted by_seq xs) h.0 (sorted_keeps b xs h.1)

  passed : (b : Bool) (p : Event → Bool) (xs : List Event) → ((e : Event) → p e ≡ true → late e ≡ b) → AllByRecursion (λ e. late e ≡ b) (filter p xs)
  passed b p [] f = tt
  passed b p (x ∷ xs) f = by (p x) refl (passed b p xs f)
    where
      by : (c : Bool) → p x ≡ c → AllByRecursion (λ e. late e ≡ b) (filter p xs) → AllByRecursion (λ e. late e ≡ b) (if c then x ∷ filter p xs else filter p xs)
      by true e r = (f x e, r)
      by false e r = r

  is_early : (e : Event) → early e ≡ true → late e ≡ false
  unfolding early
  is_early e h = by (late e) refl h
    where
      by : (b : Bool) → late e ≡ b → not b ≡ true → b ≡ false
      by true f g = cc
      by false f g = refl

  two_parts : (xs : List Event) → sorted by_seq xs ≡ sorted by_seq (filter early xs) ++ sorted by_seq (filter late xs)
  unfolding early
  two_parts [] = refl
  two_parts (x ∷ xs) = by (late x) refl (two_parts xs)
    where
      E : AllEarly (sorted by_seq (filter early xs))
      E = sorted_keeps false (filter early xs) (passed false early xs is_early)

      L : AllLate (sorted by_seq (filter late xs))
      L = sorted_keeps true (filter late xs) (passed true late xs (λ e h. h))

      by : (b : Bool) → late x ≡ b → sorted by_seq xs ≡ sorted by_seq (filter early xs) ++ sorted by_seq (filter late xs)
          → inserted by_seq x (sorted by_seq xs) ≡ sorted by_seq (if not b then x ∷ filter early xs else filter early xs) ++ sorted by_seq (if b then x ∷ filter late xs else filter late xs)
      by true f e = ap (inserted by_seq x) e ∙ late_last x (sorted by_seq (filter early xs)) (sorted by_seq (filter late xs)) f E
      by false f e = ap (inserted by_seq x) e ∙ early_first x (sorted by_seq (filter early xs)) (sorted by_seq (filter late xs)) f L

  none_late : (front bs : List Event) → AllEarly front → AllLate bs → filter late (front ++ bs) ≡ bs
  none_late [] [] h k = refl
  none_late [] (b ∷ bs) h k = ap (λ (c : Bool). if c then b ∷ filter late bs else filter late bs) k.0 ∙ ap (λ (l : List Event). b ∷ l) (none_late [] bs h k.1)
  none_late (a ∷ front) bs h k = ap (λ (c : Bool). if c then a ∷ filter late (front ++ bs) else filter late (front ++ bs)) h.0 ∙ none_late front bs h.1 k

  -- the late ones of a sorted list are those sorted
  late_sorted : (xs : List Event) → filter late (sorted by_seq xs) ≡ sorted by_seq (filter late xs)
  late_sorted xs = ap (filter late) (two_parts xs) ∙ none_late (sorted by_seq (filter early xs)) (sorted by_seq (filter late xs)) (sorted_keeps false (filter early xs) (passed false early xs is_early)) (sorted_keeps true (filter late xs) (passed true late xs (λ e h. h)))

  -- ---- what was there, among the events of a transaction

  module _ (tx id : ℕ) where
    counts : Event → Bool
    counts e = (e.tx == tx) && early e

    abbrev old : List Version → List Event
    old vs = filter counts (flat_map (version_events id) vs)

    skip : (e : Event) → e.tx ≡ tx → n ≤ e.seq → counts e ≡ false
    unfolding counts early late
    skip e m l = grind (arith, common_steps, m, l)

    alike : (es fs xs ys : List Event) → filter counts es ≡ filter counts fs → filter counts xs ≡ filter counts ys → filter counts (es ++ xs) ≡ filter counts (fs ++ ys)
    alike es fs xs ys e f = parted es xs ∙ ap₂ (λ (a b : List Event). a ++ b) e f ∙ sym (parted fs ys)
      where
        parted : (front bs : List Event) → filter counts (front ++ bs) ≡ filter counts front ++ filter counts bs
        parted [] bs = refl
        parted (a ∷ front) bs = by (counts a) (parted front bs)
          where
            by : (c : Bool) → filter counts (front ++ bs) ≡ filter counts front ++ filter counts bs → (if c then a ∷ filter counts (front ++ bs) else filter counts (front ++ bs)) ≡ (if c then a ∷ filter counts front else filter counts front) ++ filter counts bs
            by true e = ap (λ (l : List Event). a ∷ l) e
            by false e = e

    module _ (m : ℕ) (le : n ≤ m) where
      inserted_old : (w : Version) (vs : List Version) → filter counts (version_events id w) ≡ [] → old (inserted start_cmp w vs) ≡ old vs
      inserted_old w [] h = alike (version_events id w) [] [] [] h refl
      inserted_old w (v ∷ vs) h = by (is_gt (start_cmp w v)) (inserted_old w vs h)
        where
          by : (c : Bool) → old (inserted start_cmp w vs) ≡ old vs → old (if c then v ∷ inserted start_cmp w vs else w ∷ v ∷ vs) ≡ old (v ∷ vs)
          by true e = alike (version_events id v) (version_events id v) (flat_map (version_events id) (inserted start_cmp w vs)) (flat_map (version_events id) vs) refl e
          by false e = alike (version_events id w) [] (flat_map (version_events id) (v ∷ vs)) (flat_map (version_events id) (v ∷ vs)) h refl

      new_start : (values : List (Option TypedValue)) → filter counts (version_events id (record { values = values; start = (tx, m); end = None })) ≡ []
      new_start values = ap (λ (c : Bool). if c then start_event id (record { values = values; start = (tx, m); end = None }) ∷ [] else []) (skip (start_event id (record { values = values; start = (tx, m); end = None })) refl le)

      old_end : (v : Version) (o : Option EventId) → end_left tx n o ≡ None → filter counts (end_events id v o) ≡ []
      old_end v None h = refl
      old_end v (Some e) h = by (is_undone tx n e) refl h
        where
          by : (b : Bool) → is_undone tx n e ≡ b → (if b then None else Some e) ≡ None → filter counts (end_event id v e ∷ []) ≡ []
          by true f g = let p = and_true (e.0 == tx) (nat_le n e.1) f in
              ap (λ (c : Bool). if c then end_event id v e ∷ [] else []) (skip (end_event id v e) (eqb-true e.0 tx p.0) (let q = p.1 in grind (arith, common_steps, q)))
          by false f g = cc

      one_end : (b : Bool) (v : Version) → (b ≡ true → end_left tx n v.end ≡ None) → filter counts (version_events id (if b then with_end (tx, m) v else v)) ≡ filter counts (version_events id v)
      one_end true v h = alike (start_event id v ∷ []) (start_event id v ∷ []) (end_event id v (tx, m) ∷ []) (end_events id v v.end) refl
          (ap (λ (c : Bool). if c then end_event id v (tx, m) ∷ [] else []) (skip (end_event id v (tx, m)) refl le) ∙ sym (old_end v v.end (h refl)))
      one_end false v h = refl

      ended_old : (start : EventId) (vs : List Version) → Undoes tx n vs (Ends start) → old (ended (tx, m) start vs) ≡ old vs
      unfolding ended
      ended_old start [] h = refl
      ended_old start (v ∷ vs) h = alike (version_events id (if same_event v.start start then with_end (tx, m) v else v)) (version_events id v) (flat_map (version_events id) (ended (tx, m) start vs)) (flat_map (version_events id) vs) (one_end (same_event v.start start) v h.0) (ended_old start vs h.1)

      changed_old : (c : Change) (vs : List Version) → Undoes tx n vs c → old (changed (tx, m) c vs) ≡ old vs
      unfolding started
      changed_old (Starts values) vs h = inserted_old (record { values = values; start = (tx, m); end = None }) vs (new_start values)
      changed_old (Ends start) vs h = ended_old start vs h

    all_old : (m : ℕ) → n ≤ m → (cs : List Change) (vs : List Version) → AllByRecursion (Undoes tx n vs) cs → old (changed_all tx m cs vs) ≡ old vs
    unfolding changed_all
    all_old m le [] vs h = refl
    all_old m le (c ∷ cs) vs h = all_old (m + 1) (omega arith) cs (changed (tx, m) c vs) (all_weaker (Undoes tx n vs) (Undoes tx n (changed (tx, m) c vs)) (λ d k. still_undoes tx n m le c vs d k) cs h.1) ∙ changed_old m le c vs h.0

    -- ---- all

    mine : Event → Bool
    mine e = e.tx == tx

    both : (es : List Event) → filter early (filter mine es) ≡ filter counts es
    unfolding counts mine
    both [] = refl
    both (e ∷ es) = by (e.tx == tx) (both es)
      where
        by : (b : Bool) → filter early (filter mine es) ≡ filter counts es → filter early (if b then e ∷ filter mine es else filter mine es) ≡ (if b && early e then e ∷ filter counts es else filter counts es)
        by true h = ap (λ (l : List Event). if early e then e ∷ l else l) h
        by false h = h

    same_on : (es : List Event) → AllByRecursion (λ e. counts e ≡ mine e) es → filter counts es ≡ filter mine es
    same_on [] h = refl
    same_on (e ∷ es) h = ap₂ (λ (c : Bool) (l : List Event). if c then e ∷ l else l) h.0 (same_on es h.1)

    early_start : (e : Event) → IsBefore tx n (e.tx, e.seq) → counts e ≡ mine e
    unfolding counts mine early late
    early_start e h = by (e.tx == tx) refl
      where
        by : (b : Bool) → (e.tx == tx) ≡ b → (b && not (nat_le n e.seq)) ≡ b
        by true f = let l = h (eqb-true e.tx tx f) in grind (arith, common_steps, l)
        by false f = refl

    early_ends : (v : Version) (o : Option EventId) → EndsBefore tx n o → AllByRecursion (λ e. counts e ≡ mine e) (end_events id v o)
    early_ends v None h = tt
    early_ends v (Some e) h = (early_start (end_event id v e) h, tt)

    all_before : (vs : List Version) → AllByRecursion (MadeBefore tx n) vs → old vs ≡ filter mine (flat_map (version_events id) vs)
    all_before vs h = same_on (flat_map (version_events id) vs)
        (all_flat_map (MadeBefore tx n) (λ e. counts e ≡ mine e) (version_events id) (λ v k. (early_start (start_event id v) k.start, early_ends v v.end k.end)) vs h)

    -- the events of changes come at the end of those before them
    pub come_last : (cs : List Change) (vs : List Version) → AllByRecursion (MadeBefore tx n) vs → AllByRecursion (Undoes tx n vs) cs
        → events_in tx id (changed_all tx n cs vs) ≡ events_in tx id vs ++ filter (λ e. nat_le n e.seq) (events_in tx id (changed_all tx n cs vs))
    unfolding mine late
    come_last cs vs h k = two_parts (filter mine (flat_map (version_events id) (changed_all tx n cs vs)))
        ∙ ap₂ (λ (a b : List Event). a ++ b)
        (ap (sorted by_seq) (both (flat_map (version_events id) (changed_all tx n cs vs)) ∙ all_old n (omega arith) cs vs k ∙ all_before vs h))
        (sym (late_sorted (filter mine (flat_map (version_events id) (changed_all tx n cs vs)))))
