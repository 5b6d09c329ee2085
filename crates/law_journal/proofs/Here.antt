-- Changes of one table that are fine, one after another.
use Rattle.std.proofs.Common.{◌≡◌, ◌≢◌, ◌≤◌, ℕ, ◌+◌, ◌⊎◌, inl, inr, Bool, true, false, List, [], ◌∷◌, map, flat_map, refl, arith, sym, ◌∙◌, ap, subst, Some, None}
use Rattle.std.specs.Prelude.{if◌then◌else◌}
use Rattle.std.specs.List.{AllByRecursion}
use Rattle.std.specs.Ordering.{is_gt}
use Rattle.std.proofs.lemmas.List.Sums.{sum_by-cons}
use Rattle.sql_value.specs.declared.column.ColumnDef.{ColumnDef}
use Rattle.sql_types.specs.declared.version.Version.{Version}
use Rattle.spec_model.specs.Lists.{inserted}
use Rattle.spec_model.specs.Rows.{Row, EventId, same_event, start_cmp, stored_row, started, with_end, ended}
use Rattle.spec_model.specs.Keys.{Key, same_key, version_key}
use Rattle.spec_model.specs.Changes.{Change, Starts, Ends, changed, replaced}
use Rattle.law_frame.proofs.Alls.{all_inserted}
use Rattle.law_frame.proofs.SameKeys.{one_start}
use Rattle.law_journal.specs.Fits.{Fits}
use Rattle.law_journal.specs.Fine.{key_in, HasLive, IsFine}
use Rattle.law_journal.specs.Kept.{is_it, count_in, count, EndedBefore, Apart, AllApart, IsPast}
use Rattle.law_journal.proofs.Counts.{count_changed, own_same, hit, ended_cons, one_less}
use Rattle.law_journal.proofs.Order.{NoneLive, has_no_live_row, new_version, no_now, past_changed, apart_changed, same_turned}

abbrev pub AllHere : List ColumnDef → ℕ → ℕ → List Change → List Version → Type 0
AllHere columns tx seq [] vs = Unit {0}
AllHere columns tx seq (c ∷ cs) vs = IsFine columns c vs × AllHere columns tx (seq + 1) cs (changed (tx, seq) c vs)

-- ---- starts at new keys

abbrev pub Differ : List ColumnDef → Row → Row → Type 0
Differ columns r s = same_key (key_in columns (stored_row columns r)) (key_in columns (stored_row columns s)) ≡ false

-- each row fits, at a key that no standing row has, and no row behind it
abbrev pub AllNew : List ColumnDef → List Row → List Version → Type 0
AllNew columns [] vs = Unit {0}
AllNew columns (r ∷ rs) vs =
    Fits columns (stored_row columns r) × NoneLive columns (key_in columns (stored_row columns r)) vs × AllByRecursion (Differ columns r) rs × AllNew columns rs vs

module _ (columns : List ColumnDef) (tx : ℕ) where
  still_new : (seq : ℕ) (r : Row) (rs : List Row) (vs : List Version) → AllByRecursion (Differ columns r) rs → AllNew columns rs vs → AllNew columns rs (changed (tx, seq) (Starts (stored_row columns r)) vs)
  unfolding started
  still_new seq r [] vs ne a = tt
  still_new seq r (s ∷ ss) vs ne a = (
    a.0,
    all_inserted (λ v. same_key (version_key columns v) (key_in columns (stored_row columns s)) ≡ true → v.end ≢ None) start_cmp (new_version (tx, seq) (stored_row columns r)) vs (λ same. (let no : same_key (key_in columns (stored_row columns r)) (key_in columns (stored_row columns s)) ≡ false = ne.0 in cc)) a.1,
    a.2,
    still_new seq r ss vs ne.1 a.3,
  )

  pub starts_fine : (seq : ℕ) (rs : List Row) (vs : List Version) → AllNew columns rs vs → AllHere columns tx seq (map (λ row. Starts (stored_row columns row)) rs) vs
  starts_fine seq [] vs a = tt
  starts_fine seq (r ∷ rs) vs a =
      ((a.0, has_no_live_row columns (key_in columns (stored_row columns r)) vs a.1), starts_fine (seq + 1) rs (changed (tx, seq) (Starts (stored_row columns r)) vs) (still_new seq r rs vs a.2 a.3))

-- ---- versions that stand

-- the version is one of these, and stands
abbrev pub Open : Version → List Version → Type 0
Open u [] = ⊥
Open u (v ∷ vs) = ((v ≡ u) × (u.end ≡ None)) ⊎ Open u vs

pub has_live_of_open : (u : Version) (vs : List Version) → Open u vs → HasLive u.start vs
has_live_of_open u [] o = o
has_live_of_open u (v ∷ vs) o = elim o [
  | inl p ↦ inl (ap (λ (x : Version). x.start) p.0, ap (λ (x : Version). x.end) p.0 ∙ p.1)
  | inr q ↦ inr (has_live_of_open u vs q)
]

open_end : (u : Version) (vs : List Version) → Open u vs → u.end ≡ None
open_end u [] o = absurd o
open_end u (v ∷ vs) o = elim o [ inl p ↦ p.1 | inr q ↦ open_end u vs q ]

some_count : (u : Version) (vs : List Version) → Open u vs → 1 ≤ count u.start vs
some_count u [] o = absurd o
some_count u (v ∷ vs) o =
    let l = sum_by-cons (count_in u.start) v vs in
    elim o [
      | inl p ↦ (let i : is_it u.start v.start ≡ 1 = rw (ap (λ (x : Version). same_event x.start u.start) p.0 ∙ own_same u.start) refl in omega (arith, l, i))
      | inr q ↦ (let r = some_count u vs q in omega (arith, l, r))
    ]

not_here : (u v : Version) (vs : List Version) (b : Bool) → same_event v.start u.start ≡ b → count u.start (v ∷ vs) ≤ 1 → Open u vs → b ≡ false
not_here u v vs true e once o =
    let l = sum_by-cons (count_in u.start) v vs in
    let i : is_it u.start v.start ≡ 1 = rw e refl in
    let s = some_count u vs o in
    absurd (omega (arith, l, i, s, once))
not_here u v vs false e once o = refl

open_ended_at : (u : Version) (now start : EventId) (v : Version) (vs : List Version) (b : Bool) → same_event v.start start ≡ b → same_event u.start start ≡ false → Open u (v ∷ vs) → (Open u vs → Open u (ended now start vs)) → Open u (ended now start (v ∷ vs))
open_ended_at u now start v vs b e ne o rest =
    let F : List Version → Type 0 = λ xs. Open u xs in
    subst F (sym (ended_cons now start b v vs e)) (elim o [
      | inl p ↦ inl (
        (let same : b ≡ false = sym e ∙ ap (λ (x : Version). same_event x.start start) p.0 ∙ ne in ap (λ (c : Bool). if c then with_end now v else v) same ∙ p.0),
        p.1,
      )
      | inr q ↦ inr (rest q)
    ])

open_ended : (u : Version) (now start : EventId) (vs : List Version) → same_event u.start start ≡ false → Open u vs → Open u (ended now start vs)
open_ended u now start [] ne o = absurd o
open_ended u now start (v ∷ vs) ne o = open_ended_at u now start v vs (same_event v.start start) refl ne o (open_ended u now start vs ne)

open_if : (u : Version) (b : Bool) (v w : Version) (ws rest : List Version) → Open u (w ∷ ws) → (Open u ws → Open u rest) → Open u (if b then w ∷ rest else v ∷ w ∷ ws)
open_if u false v w ws rest o f = inr o
open_if u true v w ws rest o f = elim o [ inl p ↦ inl p | inr q ↦ inr (f q) ]

open_inserted : (u v : Version) (vs : List Version) → Open u vs → Open u (inserted start_cmp v vs)
open_inserted u v [] o = absurd o
open_inserted u v (w ∷ ws) o = open_if u (is_gt (start_cmp v w)) v w ws (inserted start_cmp v ws) o (open_inserted u v ws)

module _ (place : ℕ → ℕ) (columns : List ColumnDef) where
  -- what is kept of the versions of one table
  pub record Here (now : EventId) (vs : List Version) : Type 0 where
    pub once : (a : EventId) → count a vs ≤ 1
    pub past : AllByRecursion (IsPast place now) vs
    pub apart : AllApart place columns vs

  one_now : (now a : EventId) (vs : List Version) (b : Bool) → same_event now a ≡ b → count a vs ≤ 1 → count now vs ≡ 0 → is_it a now + count a vs ≤ 1
  one_now now a vs true e once zero_ =
      let z : count a vs ≡ 0 = subst (λ (x : EventId). count x vs ≡ 0) (one_start now a e) zero_ in
      let i : is_it a now ≡ 1 = rw e refl in
      omega (arith, z, i)
  one_now now a vs false e once zero_ = let i : is_it a now ≡ 0 = rw e refl in omega (arith, i, once)

  pub here_changed : (tx seq : ℕ) (c : Change) (vs : List Version) → Here (tx, seq) vs → IsFine columns c vs → Here (tx, seq + 1) (changed (tx, seq) c vs)
  here_changed tx seq c vs h fine = record {
    once = λ a. (let e = count_changed columns a (tx, seq) c vs h.once fine in let l = one_now (tx, seq) a vs (same_event (tx, seq) a) refl (h.once a) (no_now place tx seq vs h.past) in omega (arith, e, l));
    past = past_changed place columns tx seq c vs h.once h.past fine;
    apart = apart_changed place columns tx seq c vs h.once h.past fine h.apart;
  }

  apart_from : (v u : Version) (vs : List Version) → AllByRecursion (Apart place columns v) vs → Open u vs → Apart place columns v u
  apart_from v u [] a o = absurd o
  apart_from v u (w ∷ ws) a o = elim o [
    | inl p ↦ (let P : Version → Type 0 = λ x. Apart place columns v x in subst P p.0 a.0)
    | inr q ↦ apart_from v u ws a.1 q
  ]

  some_end : (a : EventId) (w : Version) → EndedBefore place a w → w.end ≡ None → ⊥
  some_end a w p none = let e : Some p.0 ≡ None = sym p.1 ∙ none in cc

  others_closed : (u : Version) (vs : List Version) → u.end ≡ None → AllByRecursion (Apart place columns u) vs → NoneLive columns (version_key columns u) vs
  others_closed u [] none a = tt
  others_closed u (w ∷ ws) none a =
      ((λ same closed. elim (a.0 (same_turned (version_key columns w) (version_key columns u) same)) [ inl p ↦ some_end w.start u p none | inr q ↦ some_end u.start w q closed ]), others_closed u ws none a.1)

  -- once the one version of a key that stands has ended, none of its key stands
  closed_all : (u : Version) (now : EventId) (vs : List Version) → Open u vs → count u.start vs ≤ 1 → AllApart place columns vs → NoneLive columns (version_key columns u) (ended now u.start vs)
  closed_all u now [] o once a = absurd o
  closed_all u now (v ∷ vs) o once a = elim o [
    | inl p ↦ (
        let e : same_event v.start u.start ≡ true = ap (λ (x : Version). same_event x.start u.start) p.0 ∙ own_same u.start in
        let h = hit now u.start v vs e once (has_live_of_open u (v ∷ vs) (inl p)) in
        let F : List Version → Type 0 = λ xs. NoneLive columns (version_key columns u) xs in
        let A : Version → Type 0 = λ x. AllByRecursion (Apart place columns x) vs in
        subst F (sym h.is) ((λ same none. (let e2 : Some now ≡ None = none in cc)), others_closed u vs p.1 (subst A p.0 a.0)))
    | inr q ↦ (
        let no = not_here u v vs (same_event v.start u.start) refl once q in
        let F : List Version → Type 0 = λ xs. NoneLive columns (version_key columns u) xs in
        let rest = closed_all u now vs q (one_less u.start v vs once) a.1 in
        let apart = apart_from v u vs a.0 q in
        subst F (sym (ended_cons now u.start false v vs no)) ((λ same none. elim (apart same) [ inl x ↦ some_end u.start v x none | inr y ↦ some_end v.start u y (open_end u vs q) ]), rest))
  ]

  -- ---- UPDATE

  -- what takes the place of a version fits, and has its key
  abbrev pub TakesPlace : Version × Row → Type 0
  TakesPlace p = Fits columns (stored_row columns p.1) × (key_in columns (stored_row columns p.1) ≡ version_key columns p.0)

  abbrev pub Distinct : List (Version × Row) → Type 0
  Distinct [] = Unit {0}
  Distinct (p ∷ ps) = AllByRecursion (λ (q : Version × Row). same_event q.0.start p.0.start ≡ false) ps × Distinct ps

  all_open : (u : Version) (row : Row) (now then_ : EventId) (vs : List Version) (ps : List (Version × Row)) → AllByRecursion (λ (q : Version × Row). same_event q.0.start u.start ≡ false) ps → AllByRecursion (λ (q : Version × Row). Open q.0 vs) ps
      → AllByRecursion (λ (q : Version × Row). Open q.0 (changed then_ (Starts (stored_row columns row)) (changed now (Ends u.start) vs))) ps
  unfolding started
  all_open u row now then_ vs [] ne a = tt
  all_open u row now then_ vs (q ∷ qs) ne a =
      (open_inserted q.0 (new_version then_ (stored_row columns row)) (ended now u.start vs) (open_ended q.0 now u.start vs ne.0 a.0), all_open u row now then_ vs qs ne.1 a.1)

  pub update_fine : (tx seq : ℕ) (ps : List (Version × Row)) (vs : List Version) → Here (tx, seq) vs → Distinct ps → AllByRecursion (λ (q : Version × Row). Open q.0 vs) ps → AllByRecursion TakesPlace ps
      → AllHere columns tx seq (flat_map (λ (p : Version × Row). replaced columns p.0 p.1) ps) vs
  update_fine tx seq [] vs h d o r = tt
  update_fine tx seq (p ∷ ps) vs h d o r =
      let u : Version = p.0 in
      let one = has_live_of_open u vs o.0 in
      let key : NoneLive columns (key_in columns (stored_row columns p.1)) (ended (tx, seq) u.start vs) =
      subst (λ (k : Key). NoneLive columns k (ended (tx, seq) u.start vs)) (sym r.0.1) (closed_all u (tx, seq) vs o.0 (h.once u.start) h.apart) in
      let two : IsFine columns (Starts (stored_row columns p.1)) (changed (tx, seq) (Ends u.start) vs) = (r.0.0, has_no_live_row columns (key_in columns (stored_row columns p.1)) (ended (tx, seq) u.start vs) key) in
      let h1 = here_changed tx seq (Ends u.start) vs h one in
      let h2 = here_changed tx (seq + 1) (Starts (stored_row columns p.1)) (changed (tx, seq) (Ends u.start) vs) h1 two in
      (one, (two, update_fine tx (seq + 1 + 1) ps (changed (tx, seq + 1) (Starts (stored_row columns p.1)) (changed (tx, seq) (Ends u.start) vs)) h2 d.1 (all_open u p.1 (tx, seq) (tx, seq + 1) vs ps d.0 o.1) r.1))

-- ---- DELETE

abbrev pub AllDistinct : List Version → Type 0
AllDistinct [] = Unit {0}
AllDistinct (u ∷ us) = AllByRecursion (λ w. same_event w.start u.start ≡ false) us × AllDistinct us

all_left : (u : Version) (now : EventId) (vs us : List Version) → AllByRecursion (λ w. same_event w.start u.start ≡ false) us → AllByRecursion (λ w. Open w vs) us → AllByRecursion (λ w. Open w (ended now u.start vs)) us
all_left u now vs [] ne a = tt
all_left u now vs (w ∷ us) ne a = (open_ended w now u.start vs ne.0 a.0, all_left u now vs us ne.1 a.1)

pub delete_fine : (columns : List ColumnDef) (tx seq : ℕ) (us vs : List Version) → AllDistinct us → AllByRecursion (λ u. Open u vs) us → AllHere columns tx seq (map (λ v. Ends v.start) us) vs
delete_fine columns tx seq [] vs d o = tt
delete_fine columns tx seq (u ∷ us) vs d o = (has_live_of_open u vs o.0, delete_fine columns tx (seq + 1) us (changed (tx, seq) (Ends u.start) vs) d.1 (all_left u (tx, seq) vs us d.0 o.1))
