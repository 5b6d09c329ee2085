-- Tokens of one tag in a row.
use Rattle.std.proofs.Common.{◌≡◌, ℕ, ◌+◌, ◌-◌, ◌<◌, ◌≤◌, Bool, Err, true, false, cond, List, [], ◌∷◌, Some, None, refl, ap, ◌∙◌, sym, arith, eqb}
use Rattle.std.proofs.lemmas.Bool.Decides.{nat_tests}
use Rattle.spec_syntax.specs.declared.tag.Tag.{Tag}
use Rattle.spec_syntax.specs.declared.parse_err.ParseErr.{ParseErr}
use Rattle.spec_syntax.specs.declared.parse_err.ParseErr.TheVariants.{Syntax, Memory}
use Rattle.spec_syntax.specs.Input.{Input, Sym, Outcome, repeated_at, one_more, next, after, spend, sees, ParsesUnlessOom}

-- with so many before
abbrev pub adds : ℕ → Outcome ℕ → Outcome ℕ
adds n (Some p) = Some (n + p.0, p.1)
adds n None = None

adds-one : (n : ℕ) (o : Outcome ℕ) → adds n (one_more o) ≡ adds (n + 1) o
adds-one n None = refl
adds-one n (Some p) = let e : n + (p.0 + 1) ≡ n + 1 + p.0 = omega arith in ap (λ m. Some (m, p.1)) e

abbrev pub at_ : List Sym → ℕ → Input
at_ rest left = record { rest = rest; left = left }

pub guard_some : {A : Type 0} (b : Bool) (x k : A) → cond b None (Some x) ≡ Some k → (b ≡ false) × (x ≡ k)
guard_some true x k e = cc
guard_some false x k e = (refl, cc)

pub guard_none : {A : Type 0} (b : Bool) (x : A) → cond b None (Some x) ≡ None → b ≡ true
guard_none true x e = refl
guard_none false x e = cc

spent_some : (rest : List Sym) (left : ℕ) (k : Input) → spend (at_ rest left) ≡ Some (tt, k) → (eqb left 0 ≡ false) × (at_ rest (left - 1) ≡ k)
unfolding spend
spent_some rest left k e = let h = guard_some (eqb left 0) (tt, at_ rest (left - 1)) (tt, k) e in (h.0, ap (λ p. p.1) h.1)

spent_none : (rest : List Sym) (left : ℕ) → spend (at_ rest left) ≡ None → eqb left 0 ≡ true
unfolding spend
spent_none rest left e = guard_none (eqb left 0) (tt, at_ rest (left - 1)) e

less_one : (left : ℕ) → eqb left 0 ≡ false → left - 1 + 1 ≡ left
less_one left e = grind (arith, nat_tests)

step_at : (t : Tag) (rest : List Sym) (left : ℕ) (k : Input) → sees t (at_ rest left) ≡ true → spend (next (at_ rest left)) ≡ Some (tt, k)
    → (repeated_at t rest left ≡ one_more (repeated_at t k.rest k.left)) × (k.left + 1 ≡ left)
unfolding sees next
step_at t [] left k seen spent = cc
step_at t (s ∷ ts) left k seen spent =
    let h = spent_some ts left k spent in
    let r : ts ≡ k.rest = ap (λ i. i.rest) h.1 in
    let l : left - 1 ≡ k.left = ap (λ i. i.left) h.1 in
    (rw (seen, h.0, ← r, ← l) refl, rw (← l) (less_one left h.0))

refused_at : (t : Tag) (rest : List Sym) (left : ℕ) → sees t (at_ rest left) ≡ true → spend (next (at_ rest left)) ≡ None → repeated_at t rest left ≡ None
unfolding sees next
refused_at t [] left seen spent = cc
refused_at t (s ∷ ts) left seen spent = rw (seen, spent_none ts left spent) refl

ended_at : (t : Tag) (rest : List Sym) (left : ℕ) → sees t (at_ rest left) ≡ false → repeated_at t rest left ≡ Some (0, at_ rest left)
unfolding sees
ended_at t [] left seen = refl
ended_at t (s ∷ ts) left seen = rw seen refl

pub eaten : (t : Tag) (i : Input) → sees t i ≡ true → after t i ≡ next i
unfolding after
eaten t i seen = rw seen refl

pub left_ : (t : Tag) (i : Input) → sees t i ≡ false → after t i ≡ i
unfolding after
left_ t i seen = rw seen refl

pub turn : (t : Tag) (i j k : Input) (o : Outcome ℕ) (m : ℕ) → sees t i ≡ true → j ≡ after t i → spend j ≡ Some (tt, k)
    → (o ≡ adds (m - i.left) (repeated_at t i.rest i.left)) × (i.left ≤ m) → (o ≡ adds (m - k.left) (repeated_at t k.rest k.left)) × (k.left ≤ m)
turn t i j k o m seen eat spent inv =
    let s = step_at t i.rest i.left k seen (rw (← eaten t i seen, ← eat) spent) in
    let e : m - i.left + 1 ≡ m - k.left = omega (arith, s.1, inv.1) in
    (inv.0 ∙ ap (adds (m - i.left)) s.0 ∙ adds-one (m - i.left) _ ∙ ap (λ n. adds n (repeated_at t k.rest k.left)) e, omega (arith, s.1, inv.1))

pub hands_on : {A B : Type 0} (o : Outcome A) (p : Outcome B) (e : ParseErr) (i j : Input) → (o ≡ None → p ≡ None) → ParsesUnlessOom o (Err e) i → ParsesUnlessOom p (Err e) j
hands_on o p Syntax i j f h = f h
hands_on o p Memory i j f h = tt

pub refused : (t : Tag) (i j : Input) (o : Outcome ℕ) (n : ℕ) → sees t i ≡ true → j ≡ after t i → spend j ≡ None → o ≡ adds n (repeated_at t i.rest i.left) → o ≡ None
refused t i j o n seen eat spent inv =
    inv ∙ ap (adds n) (refused_at t i.rest i.left seen (rw (← eaten t i seen, ← eat) spent))

pub ended : (t : Tag) (i j : Input) (o : Outcome ℕ) (n : ℕ) → sees t i ≡ false → j ≡ after t i → o ≡ adds n (repeated_at t i.rest i.left) → o ≡ Some (n, j)
ended t i j o n seen eat inv =
    let e : n + 0 ≡ n = omega arith in
    inv ∙ ap (adds n) (ended_at t i.rest i.left seen) ∙ ap (λ m. Some (m, i)) e ∙ ap (λ k. Some (n, k)) (sym (eat ∙ left_ t i seen))

pub falls : (t : Tag) (i j k : Input) → sees t i ≡ true → j ≡ after t i → spend j ≡ Some (tt, k) → k.left < i.left
falls t i j k seen eat spent = let s = step_at t i.rest i.left k seen (rw (← eaten t i seen, ← eat) spent) in omega (arith, s.1)

pub stays : (t : Tag) (i j : Input) → sees t i ≡ false → j ≡ after t i → i.left ≡ j.left
stays t i j seen eat = ap (λ k. k.left) (sym (eat ∙ left_ t i seen))
