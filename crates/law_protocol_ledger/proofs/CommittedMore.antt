-- What the cells have of committed transactions, with one transaction more.
use Rattle.std.proofs.Common.{◌≡◌, ◌≢◌, ℕ, refl, sym, ap, ◌∙◌, subst, inl, inr, ⊎_elim, not, Bool, true, false, List, [], ◌∷◌, map, Option, Some, None}
use Rattle.std.proofs.lemmas.Bool.{eq-eqb, ne_eqb, or_parts, or_left, or_right}
use Rattle.std.specs.Prelude.{◌==◌, ◌&&◌, ◌||◌, nat_le, if◌then◌else◌}
use Rattle.spec_model.specs.Rows.{EventId, same_event, start_cmp}
use Rattle.spec_model.specs.Touched.{ends_by, is_touched, touched}
use Rattle.spec_model.specs.Undo.{is_undone, end_left, end_undone, versions_undone}
use Rattle.law_frame.proofs.Alls.{all_filter}
use Rattle.law_frame.proofs.ByTest.{by_test}
use Rattle.law_frame.proofs.SameKeys.{IsAlone, each_alone}
use Rattle.law_frame.proofs.SameTouched.{filter_both, rising_filter}
use Rattle.spec_history.specs.Lists.{Each, In}
use Rattle.spec_history.proofs.Trace.{each_weaker}
use Rattle.spec_protocol.specs.CommittedTxs.{end_committed, with_committed_end, committed}
use Rattle.std.specs.List.{AllByRecursion, filter, list_any}
use Rattle.std.specs.declared.cmp.Ordering.TheVariants.{Less}
use Rattle.sql_types.specs.declared.version.Version.{Version}
use Rattle.spec_model.specs.Runs.{Rising}

-- ---- lists

filter_map : (test : Version → Bool) (f : Version → Version) → ((v : Version) → test (f v) ≡ test v) → (vs : List Version) → filter test (map f vs) ≡ map f (filter test vs)
filter_map test f same [] = refl
filter_map test f same (v ∷ vs) = by_test_of (test v) (test (f v)) (same v) (filter_map test f same vs)
  where
    by_test_of : (b c : Bool) → c ≡ b → filter test (map f vs) ≡ map f (filter test vs) → (if c then f v ∷ filter test (map f vs) else filter test (map f vs)) ≡ map f (if b then v ∷ filter test vs else filter test vs)
    by_test_of true c e h = rw e (ap (λ (l : List Version). f v ∷ l) h)
    by_test_of false c e h = rw e h

filter_same : (p q : Version → Bool) (vs : List Version) → Each (λ v. p v ≡ q v) vs → filter p vs ≡ filter q vs
filter_same p q [] h = refl
filter_same p q (v ∷ vs) h = (λ i. if h.0 i then v ∷ filter p vs else filter p vs) ∙ ap (λ (l : List Version). if q v then v ∷ l else l) (filter_same p q vs h.1)

map_same : (f g : Version → Version) (vs : List Version) → Each (λ v. f v ≡ g v) vs → map f vs ≡ map g vs
map_same f g [] h = refl
map_same f g (v ∷ vs) h = λ i. h.0 i ∷ map_same f g vs h.1 i

pub unchanged : (f : Version → Version) (vs : List Version) → Each (λ v. f v ≡ v) vs → map f vs ≡ vs
unchanged f [] h = refl
unchanged f (v ∷ vs) h = λ i. h.0 i ∷ unchanged f vs h.1 i

pub all_pass : (test : Version → Bool) (vs : List Version) → Each (λ v. test v ≡ true) vs → filter test vs ≡ vs
all_pass test [] h = refl
all_pass test (v ∷ vs) h = rw h.0 (ap (λ (l : List Version). v ∷ l) (all_pass test vs h.1))

each_filter : (P : Version → Type 0) (test : Version → Bool) (vs : List Version) → Each P vs → Each P (filter test vs)
each_filter P test [] h = tt
each_filter P test (v ∷ vs) h = here (test v) (each_filter P test vs h.1)
  where
    here : (b : Bool) → Each P (filter test vs) → Each P (if b then v ∷ filter test vs else filter test vs)
    here true k = (h.0, k)
    here false k = k

-- those that pass do pass
pass_it : (test : Version → Bool) (vs : List Version) → Each (λ v. test v ≡ true) (filter test vs)
pass_it test [] = tt
pass_it test (v ∷ vs) = here (test v) refl (pass_it test vs)
  where
    here : (b : Bool) → test v ≡ b → Each (λ w. test w ≡ true) (filter test vs) → Each (λ w. test w ≡ true) (if b then v ∷ filter test vs else filter test vs)
    here true e k = (e, k)
    here false e k = k

each_rising : (f : Version → Version) → ((v w : Version) → start_cmp (f v) (f w) ≡ start_cmp v w) → (vs : List Version) → Rising vs → Rising (map f vs)
each_rising f same [] h = tt
each_rising f same (v ∷ vs) h = (heads vs h.0, each_rising f same vs h.1)
  where
    heads : (ws : List Version) → AllByRecursion (λ w. start_cmp v w ≡ Less) ws → AllByRecursion (λ w. start_cmp (f v) w ≡ Less) (map f ws)
    heads [] k = tt
    heads (w ∷ ws) k = (same v w ∙ k.0, heads ws k.1)

-- ---- a version is touched just where one with its start is among those that are

module _ (tx : ℕ) where
  abbrev among : List Version → Version → Bool
  among us v = list_any (λ u. same_event u.start v.start) us

  none_like : (us : List Version) (v : Version) → AllByRecursion (λ w. same_event w.start v.start ≡ true → w ≡ v) us → is_touched tx v ≡ false → Each (λ u. is_touched tx u ≡ true) us → among us v ≡ false
  none_like [] v a e h = refl
  none_like (u ∷ us) v a e h = here (same_event u.start v.start) refl (none_like us v a.1 e h.1)
    where
      here : (b : Bool) → same_event u.start v.start ≡ b → among us v ≡ false → (b || among us v) ≡ false
      here true k l = let same : u ≡ v = a.0 k in absurd (true_not_false (sym h.0 ∙ ap (is_touched tx) same ∙ e))
        where
          true_not_false : true ≡ false → ⊥
          true_not_false q = cc
      here false k l = l

pub each_all : (P : Version → Type 0) (vs : List Version) → ((v : Version) → In v vs → P v) → Each P vs
each_all P [] h = tt
each_all P (v ∷ vs) h = (h v (inl refl), each_all P vs (λ w i. h w (inr i)))

pub all_in : (P : Version → Type 0) (vs : List Version) (v : Version) → AllByRecursion P vs → In v vs → P v
all_in P [] v h i = absurd i
all_in P (w ∷ ws) v h i = ⊎_elim (λ (e : w ≡ v). subst P e h.0) (λ (k : In v ws). all_in P ws v h.1 k) i

itself : (e : EventId) → same_event e e ≡ true
itself e = rw (eq-eqb e.0 e.0 refl, eq-eqb e.1 e.1 refl) refl

module _ (tx : ℕ) where
  found_in : (b : Bool) (w v : Version) (us : List Version) → b ≡ true → w ≡ v → among tx (if b then w ∷ us else us) v ≡ true
  found_in true w v us e same = ap (λ (u : Version). same_event u.start v.start || among tx us v) same ∙ or_left (same_event v.start v.start) (among tx us v) (itself v.start)
  found_in false w v us e same = cc

  further : (b : Bool) (w v : Version) (us : List Version) → among tx us v ≡ true → among tx (if b then w ∷ us else us) v ≡ true
  further true w v us h = or_right (same_event w.start v.start) (among tx us v) h
  further false w v us h = h

  found : (vs : List Version) (v : Version) → In v vs → is_touched tx v ≡ true → among tx (touched tx vs) v ≡ true
  found [] v i e = absurd i
  found (w ∷ ws) v i e = ⊎_elim
      (λ (same : w ≡ v). found_in (is_touched tx w) w v (touched tx ws) (ap (is_touched tx) same ∙ e) same)
      (λ (k : In v ws). further (is_touched tx w) w v (touched tx ws) (found ws v k e)) i

  by_start : (V : List Version) → Rising V → (v : Version) → In v V → (b : Bool) → is_touched tx v ≡ b → b ≡ among tx (touched tx V) v
  by_start V r v i true e = sym (found V v i e)
  by_start V r v i false e = sym (none_like tx (touched tx V) v (all_filter (λ w. same_event w.start v.start ≡ true → w ≡ v) (is_touched tx) V (all_in (IsAlone V) V v (each_alone V r) i)) e (pass_it (is_touched tx) V))

  pub touched_is : (V : List Version) → Rising V → Each (λ v. is_touched tx v ≡ among tx (touched tx V) v) V
  touched_is V r = each_all (λ v. is_touched tx v ≡ among tx (touched tx V) v) V (λ v i. by_start V r v i (is_touched tx v) refl)

-- ---- one transaction more

-- all that a version has is of committed transactions
pub record IsWithin (has : ℕ → Bool) (v : Version) : Type 0 where
  pub start : has v.start.0 ≡ true
  pub end : end_committed has v.end ≡ v.end

module _ (o : ℕ) (has more : ℕ → Bool) (own : more o ≡ true) (others : (n : ℕ) → n ≢ o → more n ≡ has n) where
  abbrev t : Version → Bool
  t = is_touched o

  abbrev other : Version → Bool
  other v = not (t v)

  end_if : (e : EventId) (b : Bool) → more e.0 ≡ b → ends_by o (if b then Some e else None) ≡ (e.0 == o)
  end_if e true h = refl
  end_if e false h = sym (ne_eqb e.0 o (λ same. let k : true ≡ false = sym own ∙ ap more (sym same) ∙ h in cc))

  end_same : (x : Option EventId) → ends_by o (end_committed more x) ≡ ends_by o x
  end_same None = refl
  end_same (Some e) = end_if e (more e.0) refl

  touch_same : (v : Version) → t (with_committed_end more v) ≡ t v
  touch_same v = λ i. v.start.0 == o || end_same v.end i

  -- of a version that it didn't touch
  start_other : (v : Version) → t v ≡ false → more v.start.0 ≡ has v.start.0
  start_other v e = others v.start.0 (λ same. let p : (v.start.0 == o) ≡ true = eq-eqb v.start.0 o same in let q = (or_parts (v.start.0 == o) (ends_by o v.end) e).0 in cc)

  end_of_other : (x : Option EventId) → ends_by o x ≡ false → end_committed more x ≡ end_committed has x
  end_of_other None h = refl
  end_of_other (Some e) h = λ i. if others e.0 (λ same. let p : (e.0 == o) ≡ true = eq-eqb e.0 o same in cc) i then Some e else None

  end_other : (v : Version) → t v ≡ false → with_committed_end more v ≡ with_committed_end has v
  end_other v e = λ i. record { values = v.values; start = v.start; end = end_of_other v.end (or_parts (v.start.0 == o) (ends_by o v.end) e).1 i }

  not_undone : (v : Version) → t v ≡ false → not (is_undone o 0 v.start) ≡ true
  not_undone v e = ap not (ap (λ (b : Bool). b && nat_le 0 v.start.1) (or_parts (v.start.0 == o) (ends_by o v.end) e).0)

  end_stays : (x : Option EventId) → ends_by o x ≡ false → end_left o 0 x ≡ x
  end_stays None h = refl
  end_stays (Some e) h = ap (λ (b : Bool). if b && nat_le 0 e.1 then None else Some e) h

  undone_stays : (v : Version) → t v ≡ false → end_undone o 0 v ≡ v
  undone_stays v e = λ i. record { values = v.values; start = v.start; end = end_stays v.end (or_parts (v.start.0 == o) (ends_by o v.end) e).1 i }

  untouched : (vs : List Version) → Each (λ v. t v ≡ false) (filter other vs)
  untouched vs = each_weaker (λ v. other v ≡ true) (λ v. t v ≡ false) (λ v e. not_true (t v) e) (filter other vs) (pass_it other vs)
    where
      not_true : (b : Bool) → not b ≡ true → b ≡ false
      not_true true e = cc
      not_true false e = refl

  module _ (V W : List Version) (rising : Rising V) (rising_too : Rising W) (same : touched o V ≡ touched o W) (before : committed has V ≡ versions_undone o 0 W) (within : Each (IsWithin more) W) where
    abbrev A : List Version
    A = committed more V

    its_own : filter t A ≡ filter t W
    its_own = filter_map t (with_committed_end more) touch_same (filter (λ v. more v.start.0) V)
        ∙ ap (map (with_committed_end more)) (filter_both t (λ v. more v.start.0) V ∙ ap (filter (λ v. more v.start.0)) same
        ∙ all_pass (λ v. more v.start.0) (touched o W) (each_weaker (IsWithin more) (λ v. more v.start.0 ≡ true) (λ v h. h.start) (touched o W) (each_filter (IsWithin more) t W within)))
        ∙ unchanged (with_committed_end more) (touched o W) (each_weaker (IsWithin more) (λ v. with_committed_end more v ≡ v) (λ v h i. record { values = v.values; start = v.start; end = h.end i }) (touched o W) (each_filter (IsWithin more) t W within))

    abbrev apart : Version → Bool
    apart v = not (among o (touched o V) v)

    apart_v : filter other V ≡ filter apart V
    apart_v = filter_same other apart V (each_weaker (λ v. t v ≡ among o (touched o V) v) (λ v. other v ≡ apart v) (λ v e. ap not e) V (touched_is o V rising))

    apart_w : filter other W ≡ filter apart W
    apart_w = filter_same other apart W (each_weaker (λ v. t v ≡ among o (touched o W) v) (λ v. other v ≡ apart v) (λ v e. ap not (e ∙ ap (λ (us : List Version). among o us v) (sym same))) W (touched_is o W rising_too))

    -- the others as they were
    left_v : filter other A ≡ filter apart (committed has V)
    left_v = filter_map other (with_committed_end more) (λ v. ap not (touch_same v)) (filter (λ v. more v.start.0) V)
        ∙ ap (map (with_committed_end more)) (filter_both other (λ v. more v.start.0) V
        ∙ filter_same (λ v. more v.start.0) (λ v. has v.start.0) (filter other V) (each_weaker (λ v. t v ≡ false) (λ v. more v.start.0 ≡ has v.start.0) start_other (filter other V) (untouched V)))
        ∙ map_same (with_committed_end more) (with_committed_end has) (filter (λ v. has v.start.0) (filter other V))
        (each_weaker (λ v. t v ≡ false) (λ v. with_committed_end more v ≡ with_committed_end has v) end_other (filter (λ v. has v.start.0) (filter other V)) (each_filter (λ v. t v ≡ false) (λ v. has v.start.0) (filter other V) (untouched V)))
        ∙ ap (λ (l : List Version). map (with_committed_end has) (filter (λ v. has v.start.0) l)) apart_v
        ∙ ap (map (with_committed_end has)) (filter_both (λ v. has v.start.0) apart V)
        ∙ sym (filter_map apart (with_committed_end has) (λ v. refl) (filter (λ v. has v.start.0) V))

    left_w : filter apart (versions_undone o 0 W) ≡ filter other W
    left_w = filter_map apart (end_undone o 0) (λ v. refl) (filter (λ v. not (is_undone o 0 v.start)) W)
        ∙ ap (map (end_undone o 0)) (filter_both apart (λ v. not (is_undone o 0 v.start)) W ∙ ap (filter (λ v. not (is_undone o 0 v.start))) (sym apart_w)
        ∙ all_pass (λ v. not (is_undone o 0 v.start)) (filter other W) (each_weaker (λ v. t v ≡ false) (λ v. not (is_undone o 0 v.start) ≡ true) not_undone (filter other W) (untouched W)))
        ∙ unchanged (end_undone o 0) (filter other W) (each_weaker (λ v. t v ≡ false) (λ v. end_undone o 0 v ≡ v) undone_stays (filter other W) (untouched W))

    rising_a : Rising A
    rising_a = each_rising (with_committed_end more) (λ v w. refl) (filter (λ v. more v.start.0) V) (rising_filter (λ v. more v.start.0) V rising)

    -- what the cells have then is what the transaction leaves
    pub committed_more : committed more V ≡ W
    committed_more = by_test t A W rising_a rising_too its_own (left_v ∙ ap (filter apart) before ∙ left_w)

-- ---- versions by what a transaction touched, and by what undo leaves

module _ (o : ℕ) where
  abbrev each_id : ℕ → Bool
  each_id n = true

  abbrev not_touched : Version → Bool
  not_touched v = not (is_touched o v)

  abbrev apart_of : List Version → Version → Bool
  apart_of W v = not (among o (touched o W) v)

  others_are : (W : List Version) → Rising W → filter (apart_of W) (versions_undone o 0 W) ≡ filter not_touched W
  others_are W r = filter_map (apart_of W) (end_undone o 0) (λ v. refl) (filter (λ v. not (is_undone o 0 v.start)) W)
      ∙ ap (map (end_undone o 0)) (filter_both (apart_of W) (λ v. not (is_undone o 0 v.start)) W
      ∙ ap (filter (λ v. not (is_undone o 0 v.start))) (sym (filter_same not_touched (apart_of W) W (each_weaker (λ v. is_touched o v ≡ among o (touched o W) v) (λ v. not_touched v ≡ apart_of W v) (λ v e. ap not e) W (touched_is o W r))))
      ∙ all_pass (λ v. not (is_undone o 0 v.start)) (filter not_touched W) (each_weaker (λ v. is_touched o v ≡ false) (λ v. not (is_undone o 0 v.start) ≡ true) (not_undone o each_id each_id refl (λ n ne. refl)) (filter not_touched W) (untouched o each_id each_id refl (λ n ne. refl) W)))
      ∙ unchanged (end_undone o 0) (filter not_touched W) (each_weaker (λ v. is_touched o v ≡ false) (λ v. end_undone o 0 v ≡ v) (undone_stays o each_id each_id refl (λ n ne. refl)) (filter not_touched W) (untouched o each_id each_id refl (λ n ne. refl) W))

  -- two tables are the same where it touched the same versions, and they are the same without it
  pub same_by_undo : (V W : List Version) → Rising V → Rising W → touched o V ≡ touched o W → versions_undone o 0 V ≡ versions_undone o 0 W → V ≡ W
  same_by_undo V W r q same undo = by_test (is_touched o) V W r q same
      (sym (others_are V r) ∙ ap (λ (us : List Version). filter (λ v. not (among o us v)) (versions_undone o 0 V)) same ∙ ap (filter (apart_of W)) undo ∙ others_are W q)
