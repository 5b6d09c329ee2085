-- Events of a transaction taken back, one after another.
use Rattle.std.proofs.Common.{◌≡◌, ◌<◌, ◌≤◌, ℕ, zero, suc, refl, sym, ap, ap₂, subst, ◌∙◌, Bool, true, false, List, [], ◌∷◌, ◌++◌, map, length, get_or, Option, Some, None, arith}
use Rattle.std.specs.Prelude.{slice_set, not, if◌then◌else◌}
use Rattle.std.specs.List.{AllByRecursion, HoldsAt, Contains, filter, remove}
use Rattle.std.specs.Ordering.{is_gt}
use Rattle.std.specs.declared.cmp.Ordering.{Ordering}
use Rattle.std.proofs.lemmas.List.{get_or_default}
use Rattle.sql_types.specs.declared.version.Version.{Version}
use Rattle.spec_model.specs.Lists.{inserted, sorted}
use Rattle.spec_model.specs.Rows.{EventId, same_event}
use Rattle.spec_model.specs.Runs.{Rising}
use Rattle.spec_model.specs.Undo.{is_undone, end_left, end_undone, versions_undone}
use Rattle.law_frame.proofs.Alls.{all_sorted}
use Rattle.sql_apply.specs.Places.{place}
use Rattle.store_table.specs.declared.ending.Ending.{Ending}
use Rattle.store_table.specs.Ends.{ending_cmp, own_ending, endings_of, endings_in}
use Rattle.store_table.specs.Orders.{version_at}
use Rattle.store_table.specs.Undoing.{without_end, EndsUndone, NoEndUndone, NoStartUndone}
use Rattle.store_table.proofs.Found.{found_there}
use Rattle.store_table.proofs.InOrder.{find_own}

module _ (tx seq : ℕ) where
  abbrev stays : Version → Bool
  stays v = not (is_undone tx seq v.start)

  -- ---- an end

  same_without : (v : Version) (end : EventId) → v.end ≡ Some end → is_undone tx seq end ≡ true → end_undone tx seq (without_end v) ≡ end_undone tx seq v
  same_without v end ended undone =
      let left : end_left tx seq v.end ≡ None = ap (end_left tx seq) ended ∙ rw undone refl in
      ap (λ (o : Option EventId). record { values = v.values; start = v.start; end = o }) (sym left)

  head_same : (b : Bool) (v w : Version) (us ws : List Version) → end_undone tx seq v ≡ end_undone tx seq w → map (end_undone tx seq) us ≡ map (end_undone tx seq) ws
      → map (end_undone tx seq) (if b then v ∷ us else us) ≡ map (end_undone tx seq) (if b then w ∷ ws else ws)
  head_same true v w us ws one rest = ap₂ (λ (x : Version) (l : List Version). x ∷ l) one rest
  head_same false v w us ws one rest = rest

  pub undone_without : (vs : List Version) (p : ℕ) (v : Version) (end : EventId) → p < length vs → HoldsAt (λ w. w.end ≡ Some end) vs p → is_undone tx seq end ≡ true
      → versions_undone tx seq (slice_set vs p (without_end (get_or vs p v))) ≡ versions_undone tx seq vs
  undone_without [] p v end inside ended undone = absurd (omega (arith, inside))
  undone_without (u ∷ us) zero v end inside ended undone = head_same (stays u) (without_end u) u (filter stays us) (filter stays us) (same_without u end (ended v) undone) refl
  undone_without (u ∷ us) (suc p) v end inside ended undone =
      head_same (stays u) u u (filter stays (slice_set us p (without_end (get_or us p v)))) (filter stays us) refl
      (undone_without us p v end (omega (arith, inside)) ended undone)

  -- ---- a start

  pub undone_gone : (vs : List Version) (p : ℕ) → p < length vs → HoldsAt (λ w. is_undone tx seq w.start ≡ true) vs p
      → versions_undone tx seq (remove vs p) ≡ versions_undone tx seq vs
  undone_gone [] p inside undone = absurd (omega (arith, inside))
  undone_gone (u ∷ us) zero inside undone = rw (undone u) refl
  undone_gone (u ∷ us) (suc p) inside undone =
      head_same (stays u) u u (filter stays (remove us p)) (filter stays us) refl (undone_gone us p (omega (arith, inside)) undone)

  -- ---- nothing left

  pub none_left : (vs : List Version) → NoEndUndone tx seq vs → NoStartUndone tx seq vs → versions_undone tx seq vs ≡ vs
  none_left [] h k = refl
  none_left (v ∷ vs) h k =
      rw k.0 (ap₂ (λ (o : Option EventId) (l : List Version). record { values = v.values; start = v.start; end = o } ∷ l) h.0 (none_left vs h.1 k.1))

  no_own : (o : Option EventId) (start : EventId) (es : List Ending) → AllByRecursion (λ (e : Ending). is_undone tx seq e.end ≡ false) (own_ending o start ++ es)
      → (end_left tx seq o ≡ o) × AllByRecursion (λ (e : Ending). is_undone tx seq e.end ≡ false) es
  no_own None start es h = (refl, h)
  no_own (Some e) start es h = (rw h.0 refl, h.1)

  no_end_of : (vs : List Version) → AllByRecursion (λ (e : Ending). is_undone tx seq e.end ≡ false) (endings_of vs) → NoEndUndone tx seq vs
  no_end_of [] h = tt
  no_end_of (v ∷ vs) h = let p = no_own v.end v.start (endings_of vs) h in (p.0, no_end_of vs p.1)

-- ---- what holds of a sorted list holds of the list

uninserted_by : {A : Type 0} (P : A → Type 0) (b : Bool) (x y : A) (ys zs : List A) → AllByRecursion P (if b then y ∷ zs else x ∷ y ∷ ys) → (AllByRecursion P zs → P x × AllByRecursion P ys) → P x × AllByRecursion P (y ∷ ys)
uninserted_by P true x y ys zs h rest = let p = rest h.1 in (p.0, (h.0, p.1))
uninserted_by P false x y ys zs h rest = (h.0, h.1)

uninserted : {A : Type 0} (P : A → Type 0) (cmp : A → A → Ordering) (x : A) (ys : List A) → AllByRecursion P (inserted cmp x ys) → P x × AllByRecursion P ys
uninserted P cmp x [] h = (h.0, tt)
uninserted P cmp x (y ∷ ys) h = uninserted_by P (is_gt (cmp x y)) x y ys (inserted cmp x ys) h (uninserted P cmp x ys)

unsorted : {A : Type 0} (P : A → Type 0) (cmp : A → A → Ordering) (xs : List A) → AllByRecursion P (sorted cmp xs) → AllByRecursion P xs
unsorted P cmp [] h = tt
unsorted P cmp (x ∷ xs) h = let p = uninserted P cmp x (sorted cmp xs) h in (p.0, unsorted P cmp xs p.1)

pub no_end : (tx seq : ℕ) (vs : List Version) (ends : List Ending) → ends ≡ endings_in vs → AllByRecursion (λ (e : Ending). is_undone tx seq e.end ≡ false) ends → NoEndUndone tx seq vs
no_end tx seq vs ends is h =
    no_end_of tx seq vs (unsorted (λ (e : Ending). is_undone tx seq e.end ≡ false) ending_cmp (endings_of vs) (subst (AllByRecursion (λ (e : Ending). is_undone tx seq e.end ≡ false)) is h))

-- ---- the version of an end

-- the version that the event started is among these, and has this end
pub record HasEnd (vs : List Version) (e : Ending) : Type 0 where
  pub version : Version
  pub there : version_at e.start vs ≡ Some version
  pub ended : version.end ≡ Some e.end

own_has : (us : List Version) (v : Version) (o : Option EventId) (es : List Ending) → v.end ≡ o → version_at v.start us ≡ Some v → AllByRecursion (HasEnd us) es → AllByRecursion (HasEnd us) (own_ending o v.start ++ es)
own_has us v None es is found h = h
own_has us v (Some e) es is found h = (record { version = v; there = found; ended = is }, h)

all_have : (us vs : List Version) → AllByRecursion (λ w. version_at w.start us ≡ Some w) vs → AllByRecursion (HasEnd us) (endings_of vs)
all_have us [] h = tt
all_have us (v ∷ vs) h = own_has us v v.end (endings_of vs) refl h.0 (all_have us vs h.1)

at_all : {A : Type 0} (P : A → Type 0) (xs : List A) (k : ℕ) (x : A) → k < length xs → get_or xs k x ≡ x → AllByRecursion P xs → P x
at_all P [] k d inside is h = absurd (omega (arith, inside))
at_all P (x ∷ xs) zero d inside is h = subst P is h.0
at_all P (x ∷ xs) (suc k) d inside is h = at_all P xs k d (omega (arith, inside)) is h.1

pub has_end : (vs : List Version) (ends : List Ending) (e : Ending) → Rising vs → ends ≡ endings_in vs → Contains ends e → HasEnd vs e
has_end vs ends e r is c =
    at_all (HasEnd vs) ends c.0 e c.1 c.2
    (subst (AllByRecursion (HasEnd vs)) (sym is) (all_sorted (HasEnd vs) ending_cmp (endings_of vs) (all_have vs vs (find_own vs r))))

-- where a version is found it stands at the place of its start
pub record IsAtItsPlace (start : EventId) (vs : List Version) (v : Version) : Type 0 where
  pub within : place start vs < length vs
  pub is : HoldsAt (λ w. w ≡ v) vs (place start vs)

some_same : (v w : Version) → Some v ≡ Some w → v ≡ w
some_same v w e = cc

inside_by : (start : EventId) (vs : List Version) (v : Version) → Rising vs → version_at start vs ≡ Some v → (n : ℕ) → n ≡ place start vs → (length vs ≤ n → ⊥)
inside_by start vs v r found n is beyond =
    let none : version_at start vs ≡ None = (found_there start vs r).miss (λ d inside. absurd (omega (arith, is, beyond, inside))) in
    let clash = sym found ∙ none in cc

pub is_at_its_place : (start : EventId) (vs : List Version) (v : Version) → Rising vs → version_at start vs ≡ Some v → IsAtItsPlace start vs v
is_at_its_place start vs v r found =
    let f = found_there start vs r in
    let n = place start vs in
    let inside : n < length vs = omega (arith, inside_by start vs v r found n refl) in
    record {
      within = inside;
      is = λ d. by d inside (same_event (get_or vs n d).start start) refl;
    }
  where
    by : (d : Version) → place start vs < length vs → (b : Bool) → same_event (get_or vs (place start vs) d).start start ≡ b → get_or vs (place start vs) d ≡ v
    by d inside true e = some_same (get_or vs (place start vs) d) v (sym ((found_there start vs r).hit d inside e) ∙ found)
    by d inside false e =
        let none : version_at start vs ≡ None = (found_there start vs r).miss (λ c there. missed c d inside e) in
        let clash = sym found ∙ none in cc
      where
        missed : (c d : Version) → place start vs < length vs → same_event (get_or vs (place start vs) d).start start ≡ false → same_event (get_or vs (place start vs) c).start start ≡ false
        missed c d inside e = ap (λ (w : Version). same_event w.start start) (get_or_default vs (place start vs) c d inside) ∙ e

pub ends_there : (tx seq : ℕ) (vs : List Version) (ends : List Ending) (e : Ending) → Rising vs → ends ≡ endings_in vs → Contains ends e → is_undone tx seq e.end ≡ true
    → EndsUndone tx seq vs (place e.start vs)
ends_there tx seq vs ends e r is has undone =
    let h = has_end vs ends e r is has in
    let there = is_at_its_place e.start vs h.version r h.there in
    record {
      within = there.within;
      end = e.end;
      ended = λ d. ap (λ (w : Version). w.end) (there.is d) ∙ h.ended;
      undone = undone;
    }
