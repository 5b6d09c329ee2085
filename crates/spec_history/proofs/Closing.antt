-- A transaction that stands, and stands no more at the end, is closed in between.
use Rattle.std.proofs.Common.{◌≡◌, ℕ, Bool, true, false, List, [], ◌∷◌, ◌++◌, Option, Some, None, refl, sym, ap, ◌∙◌, subst, append_assoc}
use Rattle.std.specs.Prelude.{if◌then◌else◌, ◌==◌}
use Rattle.std.proofs.lemmas.Bool.{eqb-true}
use Rattle.spec_history.specs.Lists.{Text, Each}
use Rattle.spec_history.specs.Meaning.{Meaning}
use Rattle.spec_history.specs.Facts.{Fact, began, over}
use Rattle.spec_history.specs.Transactions.{committed, ended}
use Rattle.spec_history.specs.Refusals.{IsInside, Within, Spans}
use Rattle.spec_history.specs.SoFar.{StartsOver, Among}
use Rattle.spec_history.specs.Acts.{SessionAct, starts, takes, assigns_id, looks, says, fails, meets, commits, ends, releases_locks, issues, keeps, lacks, answers, stops, Act, by, closes, of, shown, all_shown}
use Rattle.spec_history.specs.Sessions.{SessionTransaction, SessionState, asks, hears, scripts, fixes, acted}
use Rattle.spec_history.specs.Worlds.{World, put, step, run}
use Rattle.spec_history.specs.Guards.{IsEnabled, Good}
use Rattle.spec_history.proofs.Trace.{each_append}
use Rattle.spec_history.proofs.Follow.{eqb_sym}

-- the first `over` among these facts, with no begin before it
pub record Closes (gs : List Fact) : Type 0 where
  pub inside : List Fact
  pub after : List Fact
  pub is : gs ≡ inside ++ over ∷ after
  pub all_inside : Each IsInside inside

closes_later : (hs gs : List Fact) → Each IsInside hs → Closes gs → Closes (hs ++ gs)
closes_later hs gs h c = record { inside = hs ++ c.inside; after = c.after; is = ap (λ (l : List Fact). hs ++ l) c.is ∙ sym (append_assoc hs c.inside (over ∷ c.after)); all_inside = each_append IsInside hs c.inside h c.all_inside }

-- facts inside the transaction, to their end or until it is over
pub record Leaves (gs : List Fact) : Type 0 where
  pub inside : List Fact
  pub rest : List Fact
  pub is : gs ≡ inside ++ rest
  pub all_inside : Each IsInside inside
  pub ends : StartsOver rest

leaves_later : (hs gs : List Fact) → Each IsInside hs → Leaves gs → Leaves (hs ++ gs)
leaves_later hs gs h c = record { inside = hs ++ c.inside; rest = c.rest; is = ap (λ (l : List Fact). hs ++ l) c.is ∙ sym (append_assoc hs c.inside c.rest); all_inside = each_append IsInside hs c.inside h c.all_inside; ends = c.ends }

-- after an act the transaction still stands, or the act closed it. What is said of the facts behind a begin holds where the
-- next one is that it is over, and behind facts inside
module _ (q : Meaning) (db : Text) (C : List Fact → Type 0) (at_over : (gs : List Fact) → C (over ∷ gs)) (further : (hs gs : List Fact) → Each IsInside hs → C gs → C (hs ++ gs)) where
  act_closes : (w : World) (t : ℕ) (d : SessionTransaction) (a : SessionAct) (gs : List Fact) → IsEnabled q db w (by t a) → (w.at t).transaction ≡ Some d → ((c : SessionTransaction) → (acted (w.at t) a).transaction ≡ Some c → C gs) → C (shown a ++ gs)
  act_closes w t d releases_locks gs k e ih = at_over gs
  act_closes w t d (assigns_id id explicit) gs k e ih = let none = k.1 in absurd (no_transaction (w.at t).transaction none e)
    where
      no_transaction : (o : Option SessionTransaction) → o ≡ None → o ≡ Some d → ⊥
      no_transaction o a b = cc
  act_closes w t d (looks text table) gs k e ih = ih (asks text table d) (rw e refl)
  act_closes w t d (says line) gs k e ih = further (shown (says line)) gs (tt, tt) (ih (scripts line d) (rw e refl))
  act_closes w t d (fails text) gs k e ih = further (shown (fails text)) gs (tt, tt) (ih (hears text true d) (rw e refl))
  act_closes w t d (meets text holder) gs k e ih = further (shown (meets text holder)) gs (tt, tt) (ih (hears text false d) (rw e refl))
  act_closes w t d (commits time place) gs k e ih = further (shown (commits time place)) gs (tt, tt) (ih (fixes (committed place) d) (rw e refl))
  act_closes w t d (ends n back) gs k e ih = further (shown (ends n back)) gs (tt, tt) (ih (fixes (ended n back) d) (rw e refl))
  act_closes w t d (issues x mark) gs k e ih = further (shown (issues x mark)) gs (tt, tt) (ih d e)
  act_closes w t d (keeps items mark) gs k e ih = further (shown (keeps items mark)) gs (tt, tt) (ih d e)
  act_closes w t d lacks gs k e ih = further (shown lacks) gs (tt, tt) (ih d e)
  act_closes w t d (starts name) gs k e ih = ih d e
  act_closes w t d (takes text) gs k e ih = ih d e
  act_closes w t d (answers entry) gs k e ih = ih d e
  act_closes w t d stops gs k e ih = ih d e

  closed_by : (w : World) (t s : ℕ) (d : SessionTransaction) (a : SessionAct) (xs : List SessionAct) (b : Bool) → (s == t) ≡ b → (t == s) ≡ b → IsEnabled q db w (by s a) → (w.at t).transaction ≡ Some d → ((c : SessionTransaction) → (put w.at s (acted (w.at s) a) t).transaction ≡ Some c → C (all_shown xs)) → C (all_shown (if b then a ∷ xs else xs))
  closed_by w t s d a xs true e f k h ih = let same : t ≡ s = eqb-true t s f in act_closes w s d a (all_shown xs) k (subst (λ (u : ℕ). (w.at u).transaction ≡ Some d) same h) (λ c i. ih c (let is : put w.at s (acted (w.at s) a) t ≡ acted (w.at s) a = rw f refl in ap (λ (x : SessionState). x.transaction) is ∙ i))
  closed_by w t s d a xs false e f k h ih = ih d (let is : put w.at s (acted (w.at s) a) t ≡ w.at t = rw f refl in ap (λ (x : SessionState). x.transaction) is ∙ h)

  pub behind : (E : World → Type 0) (t : ℕ) → ((w : World) (d : SessionTransaction) → (w.at t).transaction ≡ Some d → E w → C []) → (w : World) (es : List Act) (d : SessionTransaction) → Good q db w es → (w.at t).transaction ≡ Some d → E (run w es) → C (all_shown (of t es))
  behind E t base w [] d g h e = base w d h e
  behind E t base w (by s a ∷ es) d g h e = closed_by w t s d a (of t es) (s == t) refl (eqb_sym t s) g.0 h (λ c i. behind E t base (step w (by s a)) es c g.1 i e)
  behind E t base w (closes k ∷ es) d g h e = behind E t base (step w (closes k)) es d g.1 h e

module _ (q : Meaning) (db : Text) where
  -- where none is open at the end, the transaction is closed
  pub closed : (t : ℕ) (w : World) (es : List Act) (d : SessionTransaction) → Good q db w es → (w.at t).transaction ≡ Some d → ((run w es).at t).transaction ≡ None → Closes (all_shown (of t es))
  closed t = behind q db Closes (λ gs. record { inside = []; after = gs; is = refl; all_inside = tt }) closes_later (λ w. (w.at t).transaction ≡ None) t (λ w d h none. absurd (none_some (w.at t).transaction d none h))
    where
      none_some : (o : Option SessionTransaction) (d : SessionTransaction) → o ≡ None → o ≡ Some d → ⊥
      none_some o d a b = cc

  -- and else it stands to the end
  pub left : (t : ℕ) (w : World) (es : List Act) (d : SessionTransaction) → Good q db w es → (w.at t).transaction ≡ Some d → Leaves (all_shown (of t es))
  left t w es d g h = behind q db Leaves (λ gs. record { inside = []; rest = over ∷ gs; is = refl; all_inside = tt; ends = tt }) leaves_later (λ w. Unit {0}) t (λ w d h e. record { inside = []; rest = []; is = refl; all_inside = tt; ends = tt }) w es d g h tt

-- facts that end inside a transaction, and then close it
abbrev pub spans : (id : ℕ) (o : Bool) (gs hs : List Fact) → Within id o gs → Closes hs → Spans id (gs ++ hs)
spans id o gs hs w c = record {
  explicit = o;
  before = w.before;
  inside = w.inside ++ c.inside;
  after = c.after;
  is = ap (λ (l : List Fact). l ++ hs) w.is ∙ append_assoc w.before (began id o ∷ w.inside) hs ∙ ap (λ (l : List Fact). w.before ++ began id o ∷ l) (ap (λ (l : List Fact). w.inside ++ l) c.is ∙ sym (append_assoc w.inside c.inside (over ∷ c.after))) ∙ sym (append_assoc w.before (began id o ∷ (w.inside ++ c.inside)) (over ∷ c.after));
  all_inside = each_append IsInside w.inside c.inside w.all_inside c.all_inside;
}

abbrev pub among_closed : (id : ℕ) (o : Bool) (gs hs : List Fact) → Within id o gs → Leaves hs → Among id (gs ++ hs)
among_closed id o gs hs w c = record {
  explicit = o;
  before = w.before;
  inside = w.inside ++ c.inside;
  rest = c.rest;
  is = ap (λ (l : List Fact). l ++ hs) w.is ∙ append_assoc w.before (began id o ∷ w.inside) hs ∙ ap (λ (l : List Fact). w.before ++ began id o ∷ l) (ap (λ (l : List Fact). w.inside ++ l) c.is ∙ sym (append_assoc w.inside c.inside c.rest)) ∙ sym (append_assoc w.before (began id o ∷ (w.inside ++ c.inside)) c.rest);
  all_inside = each_append IsInside w.inside c.inside w.all_inside c.all_inside;
  ends = c.ends;
}
