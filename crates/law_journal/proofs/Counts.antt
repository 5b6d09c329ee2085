-- Each change makes one event, with the number that is next.
use Rattle.std.proofs.Common.{◌≡◌, ◌≤◌, ℕ, ◌+◌, inl, inr, Bool, true, false, cond, List, [], ◌∷◌, refl, arith, ◌∙◌, ap, None}
use Rattle.std.specs.Prelude.{if◌then◌else◌, ◌==◌}
use Rattle.std.specs.List.{AllByRecursion}
use Rattle.std.specs.Ordering.{is_gt}
use Rattle.std.proofs.lemmas.Bool.{eqb-true, eq-eqb}
use Rattle.std.proofs.lemmas.List.Sums.{sum_by-cons}
use Rattle.sql_value.specs.declared.column.ColumnDef.{ColumnDef}
use Rattle.sql_types.specs.declared.version.Version.{Version}
use Rattle.spec_model.specs.Lists.{inserted}
use Rattle.spec_model.specs.Rows.{EventId, same_event, start_cmp, started, with_end, ended}
use Rattle.spec_model.specs.Changes.{Change, Starts, Ends, changed}
use Rattle.law_frame.proofs.SameKeys.{and_true}
use Rattle.law_journal.specs.Fine.{HasLive, IsFine}
use Rattle.law_journal.specs.Kept.{is_it, ends_with, count_in, count}

count_if : (a : EventId) (b : Bool) (v w : Version) (ws rest : List Version) → count a rest ≡ count_in a v + count a ws → count a (if b then w ∷ rest else v ∷ w ∷ ws) ≡ count_in a v + count a (w ∷ ws)
count_if a false v w ws rest e = sum_by-cons (count_in a) v (w ∷ ws)
count_if a true v w ws rest e = let p = sum_by-cons (count_in a) w rest in let q = sum_by-cons (count_in a) w ws in omega (arith, p, q, e)

pub count_inserted : (a : EventId) (v : Version) (vs : List Version) → count a (inserted start_cmp v vs) ≡ count_in a v + count a vs
count_inserted a v [] = sum_by-cons (count_in a) v []
count_inserted a v (w ∷ ws) = count_if a (is_gt (start_cmp v w)) v w ws (inserted start_cmp v ws) (count_inserted a v ws)

-- no version has this start
abbrev pub NoStart : EventId → List Version → Type 0
NoStart start vs = AllByRecursion (λ v. same_event v.start start ≡ false) vs

pub same_none : (at start : EventId) (vs : List Version) → NoStart start vs → ended at start vs ≡ vs
unfolding ended
same_none at start [] n = refl
same_none at start (v ∷ vs) n = rw (n.0, same_none at start vs n.1) refl

pub same_parts : (a b : EventId) → same_event a b ≡ true → (a.0 ≡ b.0) × (a.1 ≡ b.1)
same_parts a b e = let p = and_true (a.0 == b.0) (a.1 == b.1) e in (eqb-true a.0 b.0 p.0, eqb-true a.1 b.1 p.1)

pub own_same : (a : EventId) → same_event a a ≡ true
own_same a = rw (eq-eqb a.0 a.0 refl, eq-eqb a.1 a.1 refl) refl

one : (b : Bool) → (let n : ℕ = cond b 1 0 in n ≡ 0) → b ≡ false
one true e = absurd (omega arith)
one false e = refl

pub no_start : (start : EventId) (vs : List Version) → count start vs ≡ 0 → NoStart start vs
no_start start [] z = tt
no_start start (v ∷ vs) z =
    let l = sum_by-cons (count_in start) v vs in
    (one (same_event v.start start) (omega (arith, l, z)), no_start start vs (omega (arith, l, z)))

pub starts_here : (start : EventId) (v : Version) → v.start ≡ start → same_event v.start start ≡ true
starts_here start v e = ap (λ (x : EventId). same_event x start) e ∙ own_same start

not_open : (start : EventId) (vs : List Version) → NoStart start vs → HasLive start vs → ⊥
not_open start [] n o = o
not_open start (v ∷ vs) n o = elim o [ inl p ↦ (let t : same_event v.start start ≡ true = starts_here start v p.0 in let f : same_event v.start start ≡ false = n.0 in cc) | inr q ↦ not_open start vs n.1 q ]

pub ended_cons : (at start : EventId) (b : Bool) (v : Version) (vs : List Version) → same_event v.start start ≡ b → ended at start (v ∷ vs) ≡ (if b then with_end at v else v) ∷ ended at start vs
unfolding ended
ended_cons at start b v vs e = rw e refl

-- the one version that stands, and ends
pub record Ended (at start : EventId) (v : Version) (vs : List Version) : Type 0 where
  pub is : ended at start (v ∷ vs) ≡ with_end at v ∷ vs
  pub is_live : v.end ≡ None

pub hit : (at start : EventId) (v : Version) (vs : List Version) → same_event v.start start ≡ true → count start (v ∷ vs) ≤ 1 → HasLive start (v ∷ vs) → Ended at start v vs
hit at start v vs e once there =
    let l = sum_by-cons (count_in start) v vs in
    let i : is_it start v.start ≡ 1 = rw e refl in
    let n : NoStart start vs = no_start start vs (omega (arith, l, once, i)) in
    record {
      is = ended_cons at start true v vs e ∙ ap (λ xs. with_end at v ∷ xs) (same_none at start vs n);
      is_live = elim there [ inl p ↦ p.1 | inr q ↦ absurd (not_open start vs n q) ];
    }

pub missed : (start : EventId) (v : Version) (vs : List Version) → same_event v.start start ≡ false → HasLive start (v ∷ vs) → HasLive start vs
missed start v vs e there = elim there [ inl p ↦ (let t : same_event v.start start ≡ true = starts_here start v p.0 in cc) | inr q ↦ q ]

pub one_less : (start : EventId) (v : Version) (vs : List Version) → count start (v ∷ vs) ≤ 1 → count start vs ≤ 1
one_less start v vs once = let l = sum_by-cons (count_in start) v vs in omega (arith, l, once)

count_ended_at : (a at start : EventId) (b : Bool) (v : Version) (vs : List Version) → same_event v.start start ≡ b → count start (v ∷ vs) ≤ 1 → HasLive start (v ∷ vs)
    → (HasLive start vs → count a (ended at start vs) ≡ is_it a at + count a vs) → count a (ended at start (v ∷ vs)) ≡ is_it a at + count a (v ∷ vs)
count_ended_at a at start true v vs e once there rest =
    let h = hit at start v vs e once there in
    let p = sum_by-cons (count_in a) (with_end at v) vs in
    let q = sum_by-cons (count_in a) v vs in
    let z : ends_with a v.end ≡ 0 = ap (ends_with a) h.is_live in
    ap (count a) h.is ∙ omega (arith, p, q, z)
count_ended_at a at start false v vs e once there rest =
    let r = rest (missed start v vs e there) in
    let p = sum_by-cons (count_in a) v (ended at start vs) in
    let q = sum_by-cons (count_in a) v vs in
    ap (count a) (ended_cons at start false v vs e) ∙ omega (arith, p, q, r)

count_ended : (a at start : EventId) (vs : List Version) → count start vs ≤ 1 → HasLive start vs → count a (ended at start vs) ≡ is_it a at + count a vs
count_ended a at start [] once there = absurd there
count_ended a at start (v ∷ vs) once there = count_ended_at a at start (same_event v.start start) v vs refl once there (count_ended a at start vs (one_less start v vs once))

pub count_changed : (columns : List ColumnDef) (a at : EventId) (c : Change) (vs : List Version) → ((start : EventId) → count start vs ≤ 1) → IsFine columns c vs → count a (changed at c vs) ≡ is_it a at + count a vs
unfolding started
count_changed columns a at (Starts values) vs once fine = let l = count_inserted a (record { values = values; start = at; end = None }) vs in omega (arith, l)
count_changed columns a at (Ends start) vs once fine = count_ended a at start vs (once start) fine
