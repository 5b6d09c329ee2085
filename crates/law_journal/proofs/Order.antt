-- What each change keeps of the versions of a table.
use Rattle.std.proofs.Common.{◌≡◌, ◌≢◌, ◌≤◌, ℕ, ◌+◌, inl, inr, Bool, true, false, cond, List, [], ◌∷◌, refl, arith, sym, ◌∙◌, ap, subst, Option, Some, None}
use Rattle.std.specs.Prelude.{if◌then◌else◌, is_none, IfSome}
use Rattle.std.specs.List.{AllByRecursion, list_any, filter}
use Rattle.std.specs.Ordering.{is_gt}
use Rattle.std.proofs.lemmas.List.Sums.{sum_by-cons}
use Rattle.sql_value.specs.declared.column.ColumnDef.{ColumnDef}
use Rattle.sql_types.specs.declared.version.TypedValue.{TypedValue}
use Rattle.sql_types.specs.declared.version.Version.{Version}
use Rattle.spec_model.specs.Lists.{inserted}
use Rattle.spec_model.specs.Rows.{EventId, same_event, start_cmp, started, with_end, ended}
use Rattle.spec_model.specs.Keys.{Key, same_key, version_key, has_live_row, has_live_row_at}
use Rattle.spec_model.specs.Changes.{Change, Starts, Ends, changed}
use Rattle.law_frame.proofs.Alls.{all_weaker, all_inserted}
use Rattle.law_frame.proofs.SameKeys.{or_false, same_key_as, same_itself}
use Rattle.law_journal.specs.Fits.{FitsSoFar}
use Rattle.law_journal.proofs.SoFar.{so_far}
use Rattle.law_journal.specs.Fine.{key_in, HasLive, IsFine}
use Rattle.law_journal.specs.Kept.{is_it, ends_with, count_in, count, IsEarlier, EndedBefore, Apart, AllApart, IsPast}
use Rattle.law_journal.proofs.Counts.{same_parts, hit, ended_cons, missed, one_less}

-- ---- keys

pub same_turned : (a b : Key) → same_key a b ≡ true → same_key b a ≡ true
same_turned a b h = sym (same_key_as a b a h) ∙ same_itself a

-- none of this key stands
abbrev pub NoneLive : List ColumnDef → Key → List Version → Type 0
NoneLive columns key vs = AllByRecursion (λ v. same_key (version_key columns v) key ≡ true → v.end ≢ None) vs

ended_or_other : (o : Option EventId) → is_none o ≡ false → o ≢ None
ended_or_other None e = cc
ended_or_other (Some x) e = λ k. cc

of_if : (P : Version → Bool) (b : Bool) (v : Version) (vs : List Version) → list_any P (if b then v ∷ vs else vs) ≡ false → (b ≡ true → P v ≡ false) × (list_any P vs ≡ false)
of_if P true v vs e = let p = or_false (P v) (list_any P vs) e in ((λ t. p.0), p.1)
of_if P false v vs e = ((λ t. cc), e)

pub none_is_live : (columns : List ColumnDef) (key : Key) (vs : List Version) → has_live_row columns key vs ≡ false → NoneLive columns key vs
unfolding has_live_row_at
none_is_live columns key [] e = tt
none_is_live columns key (v ∷ vs) e =
    let p = of_if (λ (w : Version). is_none w.end) (same_key (version_key columns v) key) v (filter (λ w. same_key (version_key columns w) key) vs) e in
    ((λ h. ended_or_other v.end (p.0 h)), none_is_live columns key vs p.1)

not_none : (o : Option EventId) → (o ≢ None) → is_none o ≡ false
not_none None h = absurd (h refl)
not_none (Some x) h = refl

if_of : (P : Version → Bool) (b : Bool) (v : Version) (vs : List Version) → (b ≡ true → P v ≡ false) → list_any P vs ≡ false → list_any P (if b then v ∷ vs else vs) ≡ false
if_of P true v vs h e = rw (h refl) e
if_of P false v vs h e = e

pub has_no_live_row : (columns : List ColumnDef) (key : Key) (vs : List Version) → NoneLive columns key vs → has_live_row columns key vs ≡ false
unfolding has_live_row_at
has_no_live_row columns key [] h = refl
has_no_live_row columns key (v ∷ vs) h =
    if_of (λ (w : Version). is_none w.end) (same_key (version_key columns v) key) v (filter (λ w. same_key (version_key columns w) key) vs) (λ e. not_none v.end (h.0 e)) (has_no_live_row columns key vs h.1)

abbrev pub new_version : EventId → List (Option TypedValue) → Version
new_version now values = record { values = values; start = now; end = None }

module _ (place : ℕ → ℕ) where
  pub then_ : (a b c : EventId) → IsEarlier place a b → IsEarlier place b c → IsEarlier place a c
  then_ a b c p q = grind (arith, p, q)

  module _ (tx seq : ℕ) where
    later : (a : EventId) → IsEarlier place a (tx, seq) → IsEarlier place a (tx, seq + 1)
    later a b = elim b [ inl lt ↦ inl lt | inr p ↦ inr (p.0, omega (arith, p.1)) ]

    now_next : IsEarlier place (tx, seq) (tx, seq + 1)
    now_next = inr (refl, omega arith)

    not_same : (a : EventId) → IsEarlier place a (tx, seq) → same_event a (tx, seq) ≡ true → ⊥
    not_same a b e =
        let p = same_parts a (tx, seq) e in
        let t : place a.0 ≡ place tx = ap place p.0 in
        elim b [ inl lt ↦ omega (arith, t, lt) | inr q ↦ omega (arith, p.1, q.1) ]

    test_zero : (b : Bool) → (b ≡ true → ⊥) → (let n : ℕ = cond b 1 0 in n ≡ 0)
    test_zero true f = absurd (f refl)
    test_zero false f = refl

    not_there : (a : EventId) → IsEarlier place a (tx, seq) → is_it (tx, seq) a ≡ 0
    not_there a b = test_zero (same_event a (tx, seq)) (not_same a b)

    no_end : (start : EventId) (o : Option EventId) → IfSome o (λ e. IsEarlier place start e × IsEarlier place e (tx, seq)) → ends_with (tx, seq) o ≡ 0
    no_end start None p = refl
    no_end start (Some e) p = not_there e p.1

    -- no event is now
    pub no_now : (vs : List Version) → AllByRecursion (IsPast place (tx, seq)) vs → count (tx, seq) vs ≡ 0
    no_now [] past = refl
    no_now (v ∷ vs) past =
        let l = sum_by-cons (count_in (tx, seq)) v vs in
        let r = no_now vs past.1 in
        let s = not_there v.start past.0.start in
        let e = no_end v.start v.end past.0.end in
        omega (arith, l, r, s, e)

    past_end : (start : EventId) (o : Option EventId) → IfSome o (λ e. IsEarlier place start e × IsEarlier place e (tx, seq)) → IfSome o (λ e. IsEarlier place start e × IsEarlier place e (tx, seq + 1))
    past_end start None p = tt
    past_end start (Some e) p = (p.0, later e p.1)

    pub past_next : (v : Version) → IsPast place (tx, seq) v → IsPast place (tx, seq + 1) v
    past_next v p = record { start = later v.start p.start; end = past_end v.start v.end p.end }

    record PastOf (v : Version) : Type 0 where
      pub before : IsEarlier place v.start (tx, seq)
      pub past : IsPast place (tx, seq + 1) v

    past_of : (v : Version) → IsPast place (tx, seq) v → PastOf v
    past_of v p = record { before = p.start; past = past_next v p }

    ends_past : (w : Version) → w.end ≡ None → PastOf w → PastOf (with_end (tx, seq) w)
    ends_past w none p = record { before = p.before; past = record { start = p.past.start; end = (p.before, now_next) } }

  module _ (columns : List ColumnDef) where
    pub apart_flip : (v w : Version) → Apart place columns v w → Apart place columns w v
    apart_flip v w a same = elim (a (same_turned (version_key columns w) (version_key columns v) same)) [ inl p ↦ inr p | inr q ↦ inl q ]

    -- ---- a new version

    apart_if : (b : Bool) (v w : Version) (ws rest : List Version) → Apart place columns v w → AllByRecursion (Apart place columns v) ws → AllByRecursion (Apart place columns w) ws → AllByRecursion (Apart place columns w) rest
        → AllApart place columns ws → AllApart place columns rest → AllApart place columns (if b then w ∷ rest else v ∷ w ∷ ws)
    apart_if false v w ws rest vw vws wws wrest aws arest = ((vw, vws), (wws, aws))
    apart_if true v w ws rest vw vws wws wrest aws arest = (wrest, arest)

    pub apart_inserted : (v : Version) (vs : List Version) → AllByRecursion (Apart place columns v) vs → AllApart place columns vs → AllApart place columns (inserted start_cmp v vs)
    apart_inserted v [] av a = (tt, tt)
    apart_inserted v (w ∷ ws) av a =
        apart_if (is_gt (start_cmp v w)) v w ws (inserted start_cmp v ws) av.0 av.1 a.0 (all_inserted (Apart place columns w) start_cmp v ws (apart_flip v w av.0) a.0) a.1 (apart_inserted v ws av.1 a.1)

    closed_before : (now : EventId) (v : Version) (o : Option EventId) → v.end ≡ o → v.end ≢ None → IfSome o (λ e. IsEarlier place v.start e × IsEarlier place e now) → EndedBefore place now v
    closed_before now v None is ne p = absurd (ne is)
    closed_before now v (Some e) is ne p = (e, is, p.1)

    new_apart : (now : EventId) (values : List (Option TypedValue)) (vs : List Version) → AllByRecursion (IsPast place now) vs → NoneLive columns (key_in columns values) vs → AllByRecursion (Apart place columns (new_version now values)) vs
    new_apart now values [] past fine = tt
    new_apart now values (v ∷ vs) past fine =
        ((λ same. inr (closed_before now v v.end refl (fine.0 (same_turned (key_in columns values) (version_key columns v) same)) past.0.end)), new_apart now values vs past.1 fine.1)

    -- ---- an end

    apart_end : (at : EventId) (v w : Version) → v.end ≡ None → Apart place columns v w → Apart place columns (with_end at v) w
    apart_end at v w none a same = elim (a same) [
      | inl p ↦ (let x : v.end ≡ Some p.0 = p.1 in let y : Some p.0 ≡ None = sym x ∙ none in cc)
      | inr q ↦ inr q
    ]

  all_ended_at : (P : Version → Type 0) (at start : EventId) (b : Bool) (v : Version) (vs : List Version) → same_event v.start start ≡ b → count start (v ∷ vs) ≤ 1 → HasLive start (v ∷ vs)
      → ((w : Version) → w.end ≡ None → P w → P (with_end at w)) → P v → AllByRecursion P vs → (HasLive start vs → AllByRecursion P (ended at start vs)) → AllByRecursion P (ended at start (v ∷ vs))
  all_ended_at P at start true v vs e once there f p ps rest =
      let F : List Version → Type 0 = λ xs. AllByRecursion P xs in
      let h = hit at start v vs e once there in
      subst F (sym h.is) (f v h.is_live p, ps)
  all_ended_at P at start false v vs e once there f p ps rest =
      let F : List Version → Type 0 = λ xs. AllByRecursion P xs in
      subst F (sym (ended_cons at start false v vs e)) (p, rest (missed start v vs e there))

  -- what holds of each version, and of the one that ends when it has ended, holds after the end
  pub all_ended : (P : Version → Type 0) (at start : EventId) (vs : List Version) → count start vs ≤ 1 → HasLive start vs → ((w : Version) → w.end ≡ None → P w → P (with_end at w)) → AllByRecursion P vs → AllByRecursion P (ended at start vs)
  all_ended P at start [] once there f a = absurd there
  all_ended P at start (v ∷ vs) once there f a = all_ended_at P at start (same_event v.start start) v vs refl once there f a.0 a.1 (λ o. all_ended P at start vs (one_less start v vs once) o f a.1)

  module _ (columns : List ColumnDef) where
    apart_ended_at : (at start : EventId) (b : Bool) (v : Version) (vs : List Version) → same_event v.start start ≡ b → count start (v ∷ vs) ≤ 1 → HasLive start (v ∷ vs)
        → AllByRecursion (Apart place columns v) vs → AllApart place columns vs → (HasLive start vs → AllApart place columns (ended at start vs)) → AllApart place columns (ended at start (v ∷ vs))
    apart_ended_at at start true v vs e once there av a rest =
        let F : List Version → Type 0 = λ xs. AllApart place columns xs in
        let h = hit at start v vs e once there in
        subst F (sym h.is) (all_weaker (Apart place columns v) (Apart place columns (with_end at v)) (λ w p. apart_end columns at v w h.is_live p) vs av, a)
    apart_ended_at at start false v vs e once there av a rest =
        let F : List Version → Type 0 = λ xs. AllApart place columns xs in
        let o = missed start v vs e there in
        let flip = λ (w : Version) (none : w.end ≡ None) (p : Apart place columns v w). apart_flip columns (with_end at w) v (apart_end columns at w v none (apart_flip columns v w p)) in
        subst F (sym (ended_cons at start false v vs e)) (all_ended (Apart place columns v) at start vs (one_less start v vs once) o flip av, rest o)

    pub apart_ended : (at start : EventId) (vs : List Version) → count start vs ≤ 1 → HasLive start vs → AllApart place columns vs → AllApart place columns (ended at start vs)
    apart_ended at start [] once there a = absurd there
    apart_ended at start (v ∷ vs) once there a = apart_ended_at at start (same_event v.start start) v vs refl once there a.0 a.1 (λ o. apart_ended at start vs (one_less start v vs once) o a.1)

    -- ---- each change

    module _ (tx seq : ℕ) where
      pub past_changed : (c : Change) (vs : List Version) → ((start : EventId) → count start vs ≤ 1) → AllByRecursion (IsPast place (tx, seq)) vs → IsFine columns c vs → AllByRecursion (IsPast place (tx, seq + 1)) (changed (tx, seq) c vs)
      unfolding started
      past_changed (Starts values) vs once past fine =
          all_inserted (IsPast place (tx, seq + 1)) start_cmp (new_version (tx, seq) values) vs (record { start = now_next tx seq; end = tt })
          (all_weaker (IsPast place (tx, seq)) (IsPast place (tx, seq + 1)) (past_next tx seq) vs past)
      past_changed (Ends start) vs once past fine =
          all_weaker (PastOf tx seq) (IsPast place (tx, seq + 1)) (λ w p. p.past) (ended (tx, seq) start vs)
          (all_ended (PastOf tx seq) (tx, seq) start vs (once start) fine (ends_past tx seq) (all_weaker (IsPast place (tx, seq)) (PastOf tx seq) (past_of tx seq) vs past))

      pub apart_changed : (c : Change) (vs : List Version) → ((start : EventId) → count start vs ≤ 1) → AllByRecursion (IsPast place (tx, seq)) vs → IsFine columns c vs → AllApart place columns vs → AllApart place columns (changed (tx, seq) c vs)
      unfolding started
      apart_changed (Starts values) vs once past fine apart =
          apart_inserted columns (new_version (tx, seq) values) vs (new_apart columns (tx, seq) values vs past (none_is_live columns (key_in columns values) vs fine.1)) apart
      apart_changed (Ends start) vs once past fine apart = apart_ended (tx, seq) start vs (once start) fine apart

      pub fit_changed : (c : Change) (vs : List Version) → ((start : EventId) → count start vs ≤ 1) → IsFine columns c vs → AllByRecursion (λ v. FitsSoFar columns v.values) vs → AllByRecursion (λ v. FitsSoFar columns v.values) (changed (tx, seq) c vs)
      unfolding started
      fit_changed (Starts values) vs once fine fit = all_inserted (λ v. FitsSoFar columns v.values) start_cmp (new_version (tx, seq) values) vs (so_far columns values fine.0) fit
      fit_changed (Ends start) vs once fine fit = all_ended (λ v. FitsSoFar columns v.values) (tx, seq) start vs (once start) fine (λ w none p. p) fit
