-- Each event keeps the tables sound.
use Rattle.std.proofs.Common.{◌≡◌, ◌≢◌, ℕ, ◌+◌, refl, sym, ap, subst, ◌∙◌, Bool, true, false, List, [], ◌∷◌, length, Option, Some, None, arith}
use Rattle.std.proofs.lemmas.Grind.{common_steps}
use Rattle.std.specs.Prelude.{◌==◌, if◌then◌else◌}
use Rattle.std.specs.List.{AllByRecursion}
use Rattle.std.specs.Cmp.{IsTotalOrder, then_total, on_total, nat_cmp_total}
use Rattle.std.specs.declared.cmp.Ordering.{Ordering}
use Rattle.std.specs.declared.cmp.Ordering.TheVariants.{Less, Equal, Greater}
use Rattle.std.specs.Ordering.{nat_cmp, ordering_then, ordering_reverse, is_gt}
use Rattle.sql_types.specs.declared.version.Table.{Table}
use Rattle.sql_types.specs.declared.version.TypedValue.{TypedValue}
use Rattle.sql_types.specs.declared.version.Version.{Version}
use Rattle.spec_model.specs.Lists.{inserted}
use Rattle.spec_model.specs.Rows.{EventId, event_cmp, same_event, start_cmp, started, with_end, ended}
use Rattle.spec_model.specs.Changes.{Change, Starts, Ends, changed}
use Rattle.spec_model.specs.Catalog.{Tables, with_versions}
use Rattle.spec_model.specs.ChangeSets.{TableChange, changed_in, changed_from}
use Rattle.spec_model.specs.Agreement.{IdsFrom}
use Rattle.spec_model.specs.Runs.{Rising, IsBefore, EndsBefore, MadeBefore, SoundTable, Sound}
use Rattle.law_frame.proofs.Alls.{all_weaker, all_inserted, all_map}
use Rattle.law_frame.proofs.Definitions.{same_defs}

-- ---- the order of events

pub event_total : IsTotalOrder event_cmp
event_total = then_total (on_total (λ (e : EventId). e.0) nat_cmp_total) (on_total (λ (e : EventId). e.1) nat_cmp_total)

pub start_total : IsTotalOrder start_cmp
start_total = on_total (λ (v : Version). v.start) event_total

both_equal : (a b : Ordering) → ordering_then a b ≡ Equal → (a ≡ Equal) × (b ≡ Equal)
both_equal Less b h = cc
both_equal Equal b h = (refl, h)
both_equal Greater b h = cc

equal_numbers : (m n : ℕ) → nat_cmp m n ≡ Equal → m ≡ n
equal_numbers m n h = grind (arith, common_steps)

pub one_event : (a b : EventId) → event_cmp a b ≡ Equal → (a.0 ≡ b.0) × (a.1 ≡ b.1)
one_event a b h = let p = both_equal (nat_cmp a.0 b.0) (nat_cmp a.1 b.1) h in (equal_numbers a.0 b.0 p.0, equal_numbers a.1 b.1 p.1)

turned : (v w : Version) → start_cmp v w ≡ Greater → start_cmp w v ≡ Less
turned v w h = start_total.antisymm w v ∙ ap ordering_reverse h

-- ---- a start

rises : (v w : Version) (ws us : List Version) (o : Ordering) → start_cmp v w ≡ o → o ≢ Equal → Rising (w ∷ ws) → Rising us → (start_cmp w v ≡ Less → AllByRecursion (λ u. start_cmp w u ≡ Less) us)
    → Rising (if is_gt o then w ∷ us else v ∷ w ∷ ws)
rises v w ws us Less e ne r s k = ((e, all_weaker (λ u. start_cmp w u ≡ Less) (λ u. start_cmp v u ≡ Less) (λ u l. start_total.trans v w u e l) ws r.0), r)
rises v w ws us Equal e ne r s k = absurd (ne refl)
rises v w ws us Greater e ne r s k = (k (turned v w e), s)

pub rising_inserted : (v : Version) (vs : List Version) → AllByRecursion (λ w. start_cmp v w ≢ Equal) vs → Rising vs → Rising (inserted start_cmp v vs)
rising_inserted v [] ne r = (tt, tt)
rising_inserted v (w ∷ ws) ne r =
    rises v w ws (inserted start_cmp v ws) (start_cmp v w) refl ne.0 r (rising_inserted v ws ne.1 r.1)
    (λ l. all_inserted (λ u. start_cmp w u ≡ Less) start_cmp v ws l r.0)

new_start : (tx seq : ℕ) (values : List (Option TypedValue)) (w : Version) → MadeBefore tx seq w → start_cmp (record { values = values; start = (tx, seq); end = None }) w ≢ Equal
new_start tx seq values w m h = let p = one_event (tx, seq) w.start h in absurd (omega (arith, m.start (sym p.0), p.1))

later : (tx seq : ℕ) (e : EventId) → IsBefore tx seq e → IsBefore tx (seq + 1) e
later tx seq e h k = omega (arith, h k)

later_end : (tx seq : ℕ) (o : Option EventId) → EndsBefore tx seq o → EndsBefore tx (seq + 1) o
later_end tx seq None h = tt
later_end tx seq (Some e) h = later tx seq e h

later_version : (tx seq : ℕ) (v : Version) → MadeBefore tx seq v → MadeBefore tx (seq + 1) v
later_version tx seq v m = record { start = later tx seq v.start m.start; end = later_end tx seq v.end m.end }

-- ---- an end

ended_start : (b : Bool) (at : EventId) (v : Version) → (if b then with_end at v else v).start ≡ v.start
ended_start true at v = refl
ended_start false at v = refl

less_ended : (at : EventId) (v : Version) (b c : Bool) (w : Version) → start_cmp v w ≡ Less → start_cmp (if b then with_end at v else v) (if c then with_end at w else w) ≡ Less
less_ended at v b c w h = rw (ended_start b at v, ended_start c at w) h

pub rising_ended : (at start : EventId) (vs : List Version) → Rising vs → Rising (ended at start vs)
unfolding ended
rising_ended at start [] r = tt
rising_ended at start (v ∷ vs) r = (
  all_map (λ w. start_cmp v w ≡ Less) (λ w. start_cmp (if same_event v.start start then with_end at v else v) w ≡ Less) (λ w. if same_event w.start start then with_end at w else w)
      (λ w h. less_ended at v (same_event v.start start) (same_event w.start start) w h) vs r.0,
  rising_ended at start vs r.1,
)

ended_before : (tx seq : ℕ) (b : Bool) (v : Version) → MadeBefore tx seq v → MadeBefore tx (seq + 1) (if b then with_end (tx, seq) v else v)
ended_before tx seq true v m = record { start = later tx seq v.start m.start; end = λ _. omega arith }
ended_before tx seq false v m = later_version tx seq v m

-- ---- a change

module _ (tx seq : ℕ) where
  pub rising_changed : (c : Change) (vs : List Version) → AllByRecursion (MadeBefore tx seq) vs → Rising vs → Rising (changed (tx, seq) c vs)
  unfolding started
  rising_changed (Starts values) vs m r = rising_inserted _ vs (all_weaker (MadeBefore tx seq) _ (new_start tx seq values) vs m) r
  rising_changed (Ends start) vs m r = rising_ended (tx, seq) start vs r

  pub before_changed : (c : Change) (vs : List Version) → AllByRecursion (MadeBefore tx seq) vs → AllByRecursion (MadeBefore tx (seq + 1)) (changed (tx, seq) c vs)
  unfolding started ended
  before_changed (Starts values) vs m =
      all_inserted (MadeBefore tx (seq + 1)) start_cmp _ vs (record { start = λ _. omega arith; end = tt })
      (all_weaker (MadeBefore tx seq) (MadeBefore tx (seq + 1)) (later_version tx seq) vs m)
  before_changed (Ends start) vs m =
      all_map (MadeBefore tx seq) (MadeBefore tx (seq + 1)) (λ v. if same_event v.start start then with_end (tx, seq) v else v)
      (λ v. ended_before tx seq (same_event v.start start) v) vs m

  pub later_table : (t : Table) → SoundTable tx seq t → SoundTable tx (seq + 1) t
  later_table t h = record { names = h.names; rising = h.rising; before = all_weaker (MadeBefore tx seq) (MadeBefore tx (seq + 1)) (later_version tx seq) t.versions h.before }

  table_changed : (b : Bool) (c : Change) (t : Table) → SoundTable tx seq t → SoundTable tx (seq + 1) (if b then with_versions (changed (tx, seq) c) t else t)
  table_changed true c t h = record { names = h.names; rising = rising_changed c t.versions h.before h.rising; before = before_changed c t.versions h.before }
  table_changed false c t h = later_table t h

  pub sound_changed : (c : TableChange) (T : Tables) → Sound tx seq T → Sound tx (seq + 1) (changed_in (tx, seq) c T)
  sound_changed c T h = record {
    ids = subst (IdsFrom 1) (sym (same_defs c.0 (changed (tx, seq) c.1) T)) h.ids;
    each = all_map (SoundTable tx seq) (SoundTable tx (seq + 1)) (λ t. if t.def.id == c.0 then with_versions (changed (tx, seq) c.1) t else t)
        (λ t. table_changed (t.def.id == c.0) c.1 t) T h.each;
  }

pub sound_all : (tx seq : ℕ) (cs : List TableChange) (T : Tables) → Sound tx seq T → Sound tx (seq + length cs) (changed_from tx seq cs T)
sound_all tx seq [] T h = subst (λ (n : ℕ). Sound tx n T) (omega arith) h
sound_all tx seq (c ∷ cs) T h =
    subst (λ (n : ℕ). Sound tx n (changed_from tx (seq + 1) cs (changed_in (tx, seq) c T))) (omega arith)
    (sound_all tx (seq + 1) cs (changed_in (tx, seq) c T) (sound_changed tx seq c T h))
