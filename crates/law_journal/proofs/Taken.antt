-- The versions that a condition takes stand, each once.
use Rattle.std.proofs.Common.{◌≡◌, inl, inr, ℕ, Bool, true, false, List, [], ◌∷◌, refl, ap, subst, ◌∙◌, Option, Some, None, Ok}
use Rattle.std.specs.Prelude.{if◌then◌else◌, is_none}
use Rattle.std.specs.List.{AllByRecursion, filter, zip}
use Rattle.std.specs.declared.cmp.Ordering.{Ordering}
use Rattle.std.specs.declared.cmp.Ordering.TheVariants.{Less}
use Rattle.std.specs.Ordering.{is_gt}
use Rattle.sql_value.specs.declared.column.ColumnDef.{ColumnDef}
use Rattle.sql_value.specs.declared.expr.Expr.{Expr}
use Rattle.sql_types.specs.declared.version.Version.{Version}
use Rattle.spec_model.specs.Refusals.{Checked, and_then}
use Rattle.spec_model.specs.Lists.{inserted, sorted, checked_filter}
use Rattle.spec_model.specs.Rows.{Row, EventId, event_cmp, same_event, start_cmp, live}
use Rattle.spec_model.specs.Keys.{Key, key_cmp, same_key, version_key, part_read, live_by_key, live_by_key_at}
use Rattle.spec_model.specs.Where.{key_fixed}
use Rattle.spec_model.specs.Changes.{versions_matched}
use Rattle.spec_model.specs.Runs.{Rising}
use Rattle.law_frame.proofs.Checked.{Led, led}
use Rattle.law_frame.proofs.Alls.{all_weaker, all_both, all_filter, all_pass, all_inserted, all_sorted, all_checked_filter}
use Rattle.law_frame.proofs.SameKeys.{one_start, not_less}
use Rattle.law_journal.proofs.Counts.{own_same}
use Rattle.law_journal.proofs.Here.{Open, Distinct, AllDistinct}

-- ---- each once

abbrev Unlike : Version → Version → Type 0
Unlike u w = same_event w.start u.start ≡ false

unlike_at : (u w : Version) (b : Bool) → same_event u.start w.start ≡ b → Unlike u w → same_event u.start w.start ≡ false
unlike_at u w true e h = absurd (let t : same_event w.start u.start ≡ true = ap (λ (x : EventId). same_event w.start x) (one_start u.start w.start e) ∙ own_same w.start in cc)
unlike_at u w false e h = e

turned : (u w : Version) → Unlike u w → Unlike w u
turned u w h = unlike_at u w (same_event u.start w.start) refl h

less_unlike : (u w : Version) (b : Bool) → same_event w.start u.start ≡ b → start_cmp u w ≡ Less → Unlike u w
less_unlike u w true e l = absurd (not_less u.start (subst (λ (x : EventId). event_cmp u.start x ≡ Less) (one_start w.start u.start e) l))
less_unlike u w false e l = e

rising_distinct : (vs : List Version) → Rising vs → AllDistinct vs
rising_distinct [] r = tt
rising_distinct (v ∷ vs) r = (all_weaker (λ w. start_cmp v w ≡ Less) (Unlike v) (λ w l. less_unlike v w (same_event w.start v.start) refl l) vs r.0, rising_distinct vs r.1)

if_distinct : (b : Bool) (v : Version) (vs : List Version) → AllByRecursion (Unlike v) vs → AllDistinct vs → AllDistinct (if b then v ∷ vs else vs)
if_distinct true v vs a d = (a, d)
if_distinct false v vs a d = d

distinct_filter : (test : Version → Bool) (vs : List Version) → AllDistinct vs → AllDistinct (filter test vs)
distinct_filter test [] d = tt
distinct_filter test (v ∷ vs) d = if_distinct (test v) v (filter test vs) (all_filter (Unlike v) test vs d.0) (distinct_filter test vs d.1)

put_distinct : (b : Bool) (v w : Version) (ws rest : List Version) → Unlike v w → AllByRecursion (Unlike v) ws → AllByRecursion (Unlike w) ws → AllByRecursion (Unlike w) rest → AllDistinct ws → AllDistinct rest → AllDistinct (if b then w ∷ rest else v ∷ w ∷ ws)
put_distinct true v w ws rest vw av aw ar d e = (ar, e)
put_distinct false v w ws rest vw av aw ar d e = ((vw, av), (aw, d))

distinct_inserted : (cmp : Version → Version → Ordering) (v : Version) (vs : List Version) → AllByRecursion (Unlike v) vs → AllDistinct vs → AllDistinct (inserted cmp v vs)
distinct_inserted cmp v [] a d = (tt, tt)
distinct_inserted cmp v (w ∷ ws) a d =
    put_distinct (is_gt (cmp v w)) v w ws (inserted cmp v ws) a.0 a.1 d.0 (all_inserted (Unlike w) cmp v ws (turned v w a.0) d.0) d.1 (distinct_inserted cmp v ws a.1 d.1)

distinct_sorted : (cmp : Version → Version → Ordering) (vs : List Version) → AllDistinct vs → AllDistinct (sorted cmp vs)
distinct_sorted cmp [] d = tt
distinct_sorted cmp (v ∷ vs) d = distinct_inserted cmp v (sorted cmp vs) (all_sorted (Unlike v) cmp vs d.0) (distinct_sorted cmp vs d.1)

distinct_checked : (test : Version → Checked Bool) (xs ys : List Version) → checked_filter test xs ≡ Ok ys → AllDistinct xs → AllDistinct ys
distinct_checked test [] [] e d = tt
distinct_checked test [] (y ∷ ys) e d = cc
distinct_checked test (x ∷ xs) ys e d =
    let l : Led (test x) (λ b. and_then (checked_filter test xs) (λ zs. Ok (if b then x ∷ zs else zs))) ys = led _ _ ys e in
    let k : Led (checked_filter test xs) (λ zs. Ok (if l.value then x ∷ zs else zs)) ys = led _ _ ys l.then_ in
    let is : (if l.value then x ∷ k.value else k.value) ≡ ys = cc in
    subst AllDistinct is (if_distinct l.value x k.value (all_checked_filter (Unlike x) test xs k.value k.was d.0) (distinct_checked test xs k.value k.was d.1))

-- ---- they stand

abbrev OpenIf : List Version → Version → Type 0
OpenIf vs u = u.end ≡ None → Open u vs

each_open : (vs : List Version) → AllByRecursion (OpenIf vs) vs
each_open [] = tt
each_open (v ∷ vs) = ((λ n. inl (refl, n)), all_weaker (OpenIf vs) (OpenIf (v ∷ vs)) (λ u h n. inr (h n)) vs (each_open vs))

no_end : (o : Option EventId) → is_none o ≡ true → o ≡ None
no_end None e = refl
no_end (Some x) e = cc

module _ (columns : List ColumnDef) (P : Version → Type 0) (V : List Version) where
  abbrev pub OpenAnd : Version → Type 0
  OpenAnd u = Open u V × P u

  part_all : (Q : Version → Type 0) (o : Option Key) → AllByRecursion Q V → AllByRecursion Q (part_read columns o V)
  part_all Q None h = h
  part_all Q (Some key) h = all_filter Q (λ v. same_key (version_key columns v) key) V h

  part_distinct : (o : Option Key) → AllDistinct V → AllDistinct (part_read columns o V)
  part_distinct None d = d
  part_distinct (Some key) d = distinct_filter (λ v. same_key (version_key columns v) key) V d

  live_are_open : (o : Option Key) → AllByRecursion P V → AllByRecursion OpenAnd (live_by_key columns o V)
  unfolding live_by_key_at
  live_are_open o h =
      all_sorted OpenAnd (λ v w. key_cmp (version_key columns v) (version_key columns w)) (live (part_read columns o V))
      (all_weaker (λ u. (OpenIf V u × P u) × (is_none u.end ≡ true)) OpenAnd (λ u k. (k.0.0 (no_end u.end k.1), k.0.1)) (live (part_read columns o V))
      (all_both (λ u. OpenIf V u × P u) (λ u. is_none u.end ≡ true) (live (part_read columns o V))
      (all_filter (λ u. OpenIf V u × P u) (λ v. is_none v.end) (part_read columns o V) (part_all (λ u. OpenIf V u × P u) o (all_both (OpenIf V) P V (each_open V) h)))
      (all_pass (λ v. is_none v.end) (part_read columns o V))))

  live_are_distinct : (o : Option Key) → AllDistinct V → AllDistinct (live_by_key columns o V)
  unfolding live_by_key_at
  live_are_distinct o d =
      distinct_sorted (λ v w. key_cmp (version_key columns v) (version_key columns w)) (live (part_read columns o V)) (distinct_filter (λ v. is_none v.end) (part_read columns o V) (part_distinct o d))

  pub taken_open : (cond : Option Expr) (taken : List Version) → AllByRecursion P V → versions_matched columns cond V ≡ Ok taken → AllByRecursion OpenAnd taken
  unfolding versions_matched
  taken_open cond taken h e = all_checked_filter OpenAnd _ (live_by_key columns (key_fixed columns cond) V) taken e (live_are_open (key_fixed columns cond) h)

  pub taken_distinct : (cond : Option Expr) (taken : List Version) → Rising V → versions_matched columns cond V ≡ Ok taken → AllDistinct taken
  unfolding versions_matched
  taken_distinct cond taken r e = distinct_checked _ (live_by_key columns (key_fixed columns cond) V) taken e (live_are_distinct (key_fixed columns cond) (rising_distinct V r))

-- ---- pairs

all_zip : (P : Version → Type 0) (xs : List Version) (ys : List Row) → AllByRecursion P xs → AllByRecursion (λ (p : Version × Row). P p.0) (zip xs ys)
all_zip P [] ys h = tt
all_zip P (x ∷ xs) [] h = tt
all_zip P (x ∷ xs) (y ∷ ys) h = (h.0, all_zip P xs ys h.1)

pub distinct_zip : (place : ℕ → ℕ) (columns : List ColumnDef) (xs : List Version) (ys : List Row) → AllDistinct xs → Distinct place columns (zip xs ys)
distinct_zip place columns [] ys d = tt
distinct_zip place columns (x ∷ xs) [] d = tt
distinct_zip place columns (x ∷ xs) (y ∷ ys) d = (all_zip (Unlike x) xs ys d.0, distinct_zip place columns xs ys d.1)
