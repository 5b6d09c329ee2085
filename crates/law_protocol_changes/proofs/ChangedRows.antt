-- What the changes of a statement leave of what is said of a table's versions.
use Rattle.std.proofs.Common.{◌≡◌, ◌≢◌, ◌⊎◌, ℕ, ◌+◌, ◌≤◌, Bool, true, false, List, [], ◌∷◌, ◌++◌, map, length, Option, Some, None, refl, sym, ap, ◌∙◌, subst, inl, inr, ⊎_elim, arith}
use Rattle.std.proofs.lemmas.Grind.{common_steps}
use Rattle.std.proofs.lemmas.Bool.{eqb-true, eq-eqb, or_parts}
use Rattle.std.specs.Prelude.{◌==◌, ◌&&◌, ◌||◌, not, if◌then◌else◌, flat_map, nat_le}
use Rattle.std.specs.List.{AllByRecursion, filter, list_any}
use Rattle.std.specs.Ordering.{nat_cmp}
use Rattle.std.specs.declared.cmp.Ordering.TheVariants.{Less}
use Rattle.sql_value.specs.declared.column.ColumnDef.{ColumnDef}
use Rattle.sql_types.specs.declared.event.Event.{Event}
use Rattle.sql_types.specs.declared.version.Version.{Version}
use Rattle.spec_model.specs.Rows.{EventId, start_cmp}
use Rattle.spec_model.specs.Keys.{Key, same_key, version_key, of_key}
use Rattle.spec_model.specs.Changes.{Change, changed, changed_all}
use Rattle.spec_model.specs.Events.{end_events, version_events}
use Rattle.spec_model.specs.Lists.{sorted}
use Rattle.spec_model.specs.Runs.{Rising, IsBefore, EndsBefore, MadeBefore}
use Rattle.spec_model.specs.Undo.{is_undone, end_left, end_undone, versions_undone}
use Rattle.law_frame.proofs.AgreeAfter.{key_after}
use Rattle.law_frame.proofs.Alls.{all_weaker, all_filter}
use Rattle.law_frame.proofs.ByKeys.{by_keys}
use Rattle.law_frame.proofs.OtherTransactions.{versions_untouched}
use Rattle.law_frame.proofs.SameKeys.{same_itself}
use Rattle.law_frame.proofs.Sounds.{rising_changed, before_changed}
use Rattle.law_frame.proofs.UndoneVersions.{Undoes, change_undoes, still_undoes}
use Rattle.spec_history.specs.Lists.{In}
use Rattle.spec_protocol.specs.EventsIn.{events_in}
use Rattle.spec_protocol.specs.Cells.{cell_of}
use Rattle.spec_protocol.specs.Seats.{going_back, SessionStatus, inside}
use Rattle.spec_protocol.specs.OpenScripts.{counted}
use Rattle.spec_protocol.specs.RowsAgree.{GoesBackTo}
use Rattle.spec_model.specs.Touched as t
use Rattle.law_frame.proofs.SameTouched as touching

-- ---- changes one after another

module _ (tx : ℕ) where
  pub all_rising : (seq : ℕ) (cs : List Change) (vs : List Version) → AllByRecursion (MadeBefore tx seq) vs → Rising vs → Rising (changed_all tx seq cs vs)
  unfolding changed_all
  all_rising seq [] vs m r = r
  all_rising seq (c ∷ cs) vs m r = all_rising (seq + 1) cs (changed (tx, seq) c vs) (before_changed tx seq c vs m) (rising_changed tx seq c vs m r)

  pub all_before : (seq : ℕ) (cs : List Change) (vs : List Version) → AllByRecursion (MadeBefore tx seq) vs → AllByRecursion (MadeBefore tx (seq + length cs)) (changed_all tx seq cs vs)
  unfolding changed_all
  all_before seq [] vs m = subst (λ (n : ℕ). AllByRecursion (MadeBefore tx n) vs) (omega arith) m
  all_before seq (c ∷ cs) vs m = subst (λ (n : ℕ). AllByRecursion (MadeBefore tx n) (changed_all tx (seq + 1) cs (changed (tx, seq) c vs))) (omega arith) (all_before (seq + 1) cs (changed (tx, seq) c vs) (before_changed tx seq c vs m))

  pub all_untouched : (other n : ℕ) → tx ≢ other → (seq : ℕ) (cs : List Change) (vs : List Version) → AllByRecursion (MadeBefore other n) vs → AllByRecursion (MadeBefore other n) (changed_all tx seq cs vs)
  unfolding changed_all
  all_untouched other n ne seq [] vs m = m
  all_untouched other n ne seq (c ∷ cs) vs m = all_untouched other n ne (seq + 1) cs (changed (tx, seq) c vs) (versions_untouched tx other n ne seq c vs m)

  -- of two tables with the same versions of a key
  pub keys_follow : (columns : List ColumnDef) (key : Key) (seq : ℕ) (cs : List Change) (V W : List Version) → AllByRecursion (MadeBefore tx seq) V → AllByRecursion (MadeBefore tx seq) W → Rising V → Rising W
      → of_key columns key V ≡ of_key columns key W → of_key columns key (changed_all tx seq cs V) ≡ of_key columns key (changed_all tx seq cs W)
  unfolding changed_all
  keys_follow columns key seq [] V W m n r q e = e
  keys_follow columns key seq (c ∷ cs) V W m n r q e =
      keys_follow columns key (seq + 1) cs (changed (tx, seq) c V) (changed (tx, seq) c W) (before_changed tx seq c V m) (before_changed tx seq c W n) (rising_changed tx seq c V m r) (rising_changed tx seq c W n q)
      (key_after columns key (tx, seq) c V W r q e)

  pub all_undo : (n seq : ℕ) → n ≤ seq → (cs : List Change) (vs : List Version) → AllByRecursion (Undoes tx n vs) cs → versions_undone tx n (changed_all tx seq cs vs) ≡ versions_undone tx n vs
  unfolding changed_all
  all_undo n seq le [] vs h = refl
  all_undo n seq le (c ∷ cs) vs h =
      all_undo n (seq + 1) (omega arith) cs (changed (tx, seq) c vs) (all_weaker (Undoes tx n vs) (Undoes tx n (changed (tx, seq) c vs)) (λ d k. still_undoes tx n seq le c vs d k) cs h.1)
      ∙ change_undoes tx n seq le c vs h.0

-- ---- filters

pub filters_turned : {A : Type 0} (p q : A → Bool) (xs : List A) → filter p (filter q xs) ≡ filter q (filter p xs)
filters_turned p q [] = refl
filters_turned p q (x ∷ xs) = by (p x) (q x) refl refl (filters_turned p q xs)
  where
    by : (b c : Bool) → p x ≡ b → q x ≡ c → filter p (filter q xs) ≡ filter q (filter p xs) → filter p (if q x then x ∷ filter q xs else filter q xs) ≡ filter q (if p x then x ∷ filter p xs else filter p xs)
    by true true e f h = rw (e, f) (rw e (ap (λ l. x ∷ l) h))
    by true false e f h = rw (e, f) h
    by false true e f h = rw (e, f) (rw e h)
    by false false e f h = rw (e, f) h

pub in_passed : {A : Type 0} (p : A → Bool) (x : A) (xs : List A) → In x xs → p x ≡ true → In x (filter p xs)
in_passed p x [] i e = absurd i
in_passed p x (y ∷ ys) i e = by (p y) refl i (λ k. in_passed p x ys k e)
  where
    by : (b : Bool) → p y ≡ b → In x (y ∷ ys) → (In x ys → In x (filter p ys)) → In x (if b then y ∷ filter p ys else filter p ys)
    by true f k rest = ⊎_elim (λ (q : y ≡ x). inl q) (λ (q : In x ys). inr (rest q)) k
    by false f k rest = ⊎_elim (λ (q : y ≡ x). absurd (let z : p y ≡ true = ap p q ∙ e in cc)) (λ (q : In x ys). rest q) k

pub was_in : {A : Type 0} (p : A → Bool) (x : A) (xs : List A) → In x (filter p xs) → In x xs
was_in p x [] i = absurd i
was_in p x (y ∷ ys) i = by (p y) i (was_in p x ys)
  where
    by : (b : Bool) → In x (if b then y ∷ filter p ys else filter p ys) → (In x (filter p ys) → In x ys) → In x (y ∷ ys)
    by true k rest = ⊎_elim (λ (q : y ≡ x). inl q) (λ (q : In x (filter p ys)). inr (rest q)) k
    by false k rest = inr (rest k)

pub rising_filter : (p : Version → Bool) (vs : List Version) → Rising vs → Rising (filter p vs)
rising_filter p [] r = tt
rising_filter p (v ∷ vs) r = by (p v) (rising_filter p vs r.1)
  where
    by : (b : Bool) → Rising (filter p vs) → Rising (if b then v ∷ filter p vs else filter p vs)
    by true h = (all_filter (λ w. start_cmp v w ≡ Less) p vs r.0, h)
    by false h = h

-- a version is among those of its key
pub of_its_key : (columns : List ColumnDef) (v : Version) (vs : List Version) → In v vs → In v (of_key columns (version_key columns v) vs)
of_its_key columns v vs i = in_passed (λ w. same_key (version_key columns w) (version_key columns v)) v vs i (same_itself (version_key columns v))

-- ---- undo, key by key

pub undone_of_key : (columns : List ColumnDef) (key : Key) (tx n : ℕ) (vs : List Version) → versions_undone tx n (of_key columns key vs) ≡ of_key columns key (versions_undone tx n vs)
undone_of_key columns key tx n vs = ap (map (end_undone tx n)) (filters_turned (λ v. not (is_undone tx n v.start)) (λ v. same_key (version_key columns v) key) vs) ∙ mapped (filter (λ v. not (is_undone tx n v.start)) vs)
  where
    mapped : (ws : List Version) → map (end_undone tx n) (of_key columns key ws) ≡ of_key columns key (map (end_undone tx n) ws)
    mapped [] = refl
    mapped (w ∷ ws) = by (same_key (version_key columns w) key) refl (mapped ws)
      where
        by : (b : Bool) → same_key (version_key columns w) key ≡ b → map (end_undone tx n) (of_key columns key ws) ≡ of_key columns key (map (end_undone tx n) ws)
            → map (end_undone tx n) (if b then w ∷ of_key columns key ws else of_key columns key ws) ≡ (if b then end_undone tx n w ∷ of_key columns key (map (end_undone tx n) ws) else of_key columns key (map (end_undone tx n) ws))
        by true e h = ap (λ (l : List Version). end_undone tx n w ∷ l) h
        by false e h = h

-- ---- events

module _ (tx id : ℕ) where
  ends_mine : Option EventId → Bool
  ends_mine None = false
  ends_mine (Some e) = e.0 == tx

  touched : Version → Bool
  touched v = (v.start.0 == tx) || ends_mine v.end

  mine : Event → Bool
  mine e = e.tx == tx

  abbrev of_tx : List Version → List Event
  of_tx vs = filter mine (flat_map (version_events id) vs)

  end_untouched : (v : Version) (e : Option EventId) (rest : List Event) → ends_mine e ≡ false → filter mine (end_events id v e ++ rest) ≡ filter mine rest
  unfolding ends_mine mine
  end_untouched v None rest h = refl
  end_untouched v (Some e) rest h = rw h refl

  one_untouched : (v : Version) (rest : List Event) → touched v ≡ false → filter mine (version_events id v ++ rest) ≡ filter mine rest
  unfolding touched mine
  one_untouched v rest h = let p = or_parts (v.start.0 == tx) (ends_mine v.end) h in rw (p.0) (end_untouched v v.end rest p.1)

  one_touched : (v : Version) (a b : List Event) → filter mine a ≡ filter mine b → filter mine (version_events id v ++ a) ≡ filter mine (version_events id v ++ b)
  one_touched v a b h = along (version_events id v)
    where
      along : (es : List Event) → filter mine (es ++ a) ≡ filter mine (es ++ b)
      along [] = h
      along (e ∷ es) = ap (λ (l : List Event). if mine e then e ∷ l else l) (along es)

  -- only versions that the transaction touched have events of it
  touched_alone : (vs : List Version) → of_tx vs ≡ of_tx (filter touched vs)
  touched_alone [] = refl
  touched_alone (v ∷ vs) = by (touched v) refl (touched_alone vs)
    where
      by : (b : Bool) → touched v ≡ b → of_tx vs ≡ of_tx (filter touched vs) → of_tx (v ∷ vs) ≡ of_tx (if b then v ∷ filter touched vs else filter touched vs)
      by true e h = one_touched v (flat_map (version_events id) vs) (flat_map (version_events id) (filter touched vs)) h
      by false e h = one_untouched v (flat_map (version_events id) vs) e ∙ h

  not_mine : (e : EventId) → IsBefore tx 0 e → (e.0 == tx) ≡ false
  not_mine e h = by (e.0 == tx) refl
    where
      by : (b : Bool) → (e.0 == tx) ≡ b → b ≡ false
      by true f = absurd (omega (arith, h (eqb-true e.0 tx f)))
      by false f = refl

  end_not_mine : (o : Option EventId) → EndsBefore tx 0 o → ends_mine o ≡ false
  unfolding ends_mine
  end_not_mine None h = refl
  end_not_mine (Some e) h = not_mine e h

  none_touched : (vs : List Version) → AllByRecursion (MadeBefore tx 0) vs → filter touched vs ≡ []
  unfolding touched
  none_touched [] h = refl
  none_touched (v ∷ vs) h = rw (not_mine v.start h.0.start, end_not_mine v.end h.0.end) (none_touched vs h.1)

  -- versions without an event of the transaction
  pub no_events : (vs : List Version) → AllByRecursion (MadeBefore tx 0) vs → events_in tx id vs ≡ []
  unfolding mine
  no_events vs h = ap (sorted (λ a b. nat_cmp a.seq b.seq)) (touched_alone vs ∙ ap of_tx (none_touched vs h))

-- and so they have the same versions that it started or ended
pub touched_agree : (tx : ℕ) (columns : List ColumnDef) (V W : List Version) → Rising V → Rising W
    → ((key : Key) → (of_key columns key V ≡ of_key columns key W) ⊎ (AllByRecursion (MadeBefore tx 0) (of_key columns key V) × AllByRecursion (MadeBefore tx 0) (of_key columns key W)))
    → t.touched tx V ≡ t.touched tx W
touched_agree tx columns V W r q h = by_keys columns (t.touched tx V) (t.touched tx W) (rising_filter (t.is_touched tx) V r) (rising_filter (t.is_touched tx) W q)
    (λ key. filters_turned (λ v. same_key (version_key columns v) key) (t.is_touched tx) V ∙ ⊎_elim
    (λ (e : of_key columns key V ≡ of_key columns key W). ap (t.touched tx) e)
    (λ (n : AllByRecursion (MadeBefore tx 0) (of_key columns key V) × AllByRecursion (MadeBefore tx 0) (of_key columns key W)). touching.untouched tx (of_key columns key V) n.0 ∙ sym (touching.untouched tx (of_key columns key W) n.1))
    (h key)
    ∙ sym (filters_turned (λ v. same_key (version_key columns v) key) (t.is_touched tx) W))

-- ---- what counts on a way back

-- all counts, or what is below the savepoint's number
pub data IsCounted (tx id : ℕ) (place : SessionStatus) : Type 0 where
  all_count : ((vs : List Version) → counted tx id place vs ≡ vs) → IsCounted tx id place
  some_undone : (seq : ℕ) → ((n : ℕ) → GoesBackTo place n → seq ≡ n) → ((vs : List Version) → counted tx id place vs ≡ versions_undone tx seq vs) → IsCounted tx id place

pub counted_is : (tx id : ℕ) (place : SessionStatus) → IsCounted tx id place
counted_is tx id (inside text (going_back seq cells)) = by (list_any (λ i. i == cell_of id) cells) refl
  where
    by : (b : Bool) → list_any (λ i. i == cell_of id) cells ≡ b → IsCounted tx id (inside text (going_back seq cells))
    by true e = some_undone seq (λ n h. h) (λ vs. ap (λ (b : Bool). if b then versions_undone tx seq vs else vs) e)
    by false e = all_count (λ vs. ap (λ (b : Bool). if b then versions_undone tx seq vs else vs) e)
counted_is tx id (inside text stage) = all_count (λ vs. refl)
counted_is tx id place = all_count (λ vs. refl)

pub later : (tx n k : ℕ) (v : Version) → MadeBefore tx n v → MadeBefore tx (n + k) v
later tx n k v h = record { start = λ e. let l = h.start e in omega arith; end = end_later v.end h.end }
  where
    end_later : (o : Option EventId) → EndsBefore tx n o → EndsBefore tx (n + k) o
    end_later None h = tt
    end_later (Some e) h = λ m. let l = h m in omega arith

below_undone : (tx n : ℕ) (e : EventId) → is_undone tx n e ≡ false → IsBefore tx n e
below_undone tx n e h m = grind (arith, common_steps, is)
  where
    is : nat_le n e.1 ≡ false
    is = ap (λ (b : Bool). b && nat_le n e.1) (sym (eq-eqb e.0 tx m)) ∙ h

pub undone_before : (tx n : ℕ) (vs : List Version) → AllByRecursion (MadeBefore tx n) (versions_undone tx n vs)
undone_before tx n [] = tt
undone_before tx n (v ∷ vs) = by (is_undone tx n v.start) refl (undone_before tx n vs)
  where
    end_by : (o : Option EventId) → EndsBefore tx n (end_left tx n o)
    end_by None = tt
    end_by (Some e) = at (is_undone tx n e) refl
      where
        at : (b : Bool) → is_undone tx n e ≡ b → EndsBefore tx n (if b then None else Some e)
        at true f = tt
        at false f = below_undone tx n e f

    by : (b : Bool) → is_undone tx n v.start ≡ b → AllByRecursion (MadeBefore tx n) (versions_undone tx n vs)
        → AllByRecursion (MadeBefore tx n) (map (end_undone tx n) (if not b then v ∷ filter (λ w. not (is_undone tx n w.start)) vs else filter (λ w. not (is_undone tx n w.start)) vs))
    by true e h = h
    by false e h = (record { start = below_undone tx n v.start e; end = end_by v.end }, h)

pub rising_undone : (tx n : ℕ) (vs : List Version) → Rising vs → Rising (versions_undone tx n vs)
rising_undone tx n vs r = mapped (filter (λ v. not (is_undone tx n v.start)) vs) (rising_filter (λ v. not (is_undone tx n v.start)) vs r)
  where
    all_mapped : (v : Version) (ws : List Version) → AllByRecursion (λ w. start_cmp v w ≡ Less) ws → AllByRecursion (λ w. start_cmp (end_undone tx n v) w ≡ Less) (map (end_undone tx n) ws)
    all_mapped v [] h = tt
    all_mapped v (w ∷ ws) h = (h.0, all_mapped v ws h.1)

    mapped : (ws : List Version) → Rising ws → Rising (map (end_undone tx n) ws)
    mapped [] h = tt
    mapped (w ∷ ws) h = (all_mapped w ws h.0, mapped ws h.1)

-- what is undone of it leaves it without events that it hadn't
pub undone_untouched : (other tx n m : ℕ) (vs : List Version) → AllByRecursion (MadeBefore other m) vs → AllByRecursion (MadeBefore other m) (versions_undone tx n vs)
undone_untouched other tx n m vs h = mapped (filter (λ v. not (is_undone tx n v.start)) vs) (all_filter (MadeBefore other m) (λ v. not (is_undone tx n v.start)) vs h)
  where
    end_kept : (o : Option EventId) → EndsBefore other m o → EndsBefore other m (end_left tx n o)
    end_kept None k = tt
    end_kept (Some e) k = at (is_undone tx n e)
      where
        at : (b : Bool) → EndsBefore other m (if b then None else Some e)
        at true = tt
        at false = k

    mapped : (ws : List Version) → AllByRecursion (MadeBefore other m) ws → AllByRecursion (MadeBefore other m) (map (end_undone tx n) ws)
    mapped [] k = tt
    mapped (w ∷ ws) k = (record { start = k.0.start; end = end_kept w.end k.0.end }, mapped ws k.1)
