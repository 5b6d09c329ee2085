-- Each transaction of the journal is one that a session committed.
use Rattle.std.proofs.Common.{◌≡◌, ℕ, ◌<◌, List, [], ◌∷◌, Option, refl, sym, subst}
use Rattle.sql_types.specs.declared.journal.JournalItem.TheVariants.{Close}
use Rattle.spec_history.specs.Lists.{Text, Each, Some_of}
use Rattle.spec_history.specs.Inputs.{InputSession}
use Rattle.spec_history.specs.Meaning.{Meaning}
use Rattle.spec_history.specs.Agree.{IsOneOfTheirs}
use Rattle.spec_history.specs.Acts.{SessionAct, commits, Act, by, closes}
use Rattle.spec_history.specs.Sessions.{SessionTransaction, runs}
use Rattle.spec_history.specs.Worlds.{World, item_of, items_by, step, run}
use Rattle.spec_history.specs.Guards.{Good, Commits}
use Rattle.spec_history.specs.Histories.{SessionsBelow}
use Rattle.spec_history.proofs.Trace.{each_append}
use Rattle.law_history.proofs.Names.{keeps_name}

module _ (q : Meaning) (db : Text) (input : List InputSession) (k : ℕ) (end : World) where
  abbrev There : Type 0
  There = (t : ℕ) → t < k → Some_of (λ s. s.name ≡ (end.at t).name) input

  -- a session that runs has its name at the end
  name_at_end : (w : World) (es : List Act) (s : ℕ) → Good q db w es → run w es ≡ end → (w.at s).phase ≡ runs → (end.at s).name ≡ (w.at s).name
  name_at_end w es s g e r = subst (λ (v : World). (v.at s).name ≡ (w.at s).name) e (keeps_name q db (w.at s).name s w es g ((λ u. cc), refl)).1

  its_item : (w : World) (s time place : ℕ) (c : Commits q w s time place) → s < k → There → (end.at s).name ≡ (w.at s).name → Each (IsOneOfTheirs input) (item_of (w.at s) (w.at s).transaction time)
  its_item w s time place c l there e = subst (λ (o : Option SessionTransaction). Each (IsOneOfTheirs input) (item_of (w.at s) o time)) (sym c.stands.has) (subst (λ (n : Text). Some_of (λ z. z.name ≡ n) input) e (there s l), tt)

  its_items : (w : World) (s : ℕ) (a : SessionAct) (es : List Act) → Good q db w (by s a ∷ es) → run w (by s a ∷ es) ≡ end → s < k → There → Each (IsOneOfTheirs input) (items_by (w.at s) a)
  its_items w s (commits time place) es g e l there = its_item w s time place g.0 l there (name_at_end w (by s (commits time place) ∷ es) s g e (g.0).stands.runs)
  its_items w s a es g e l there = tt

  pub each_theirs : (w : World) (es : List Act) → Good q db w es → run w es ≡ end → SessionsBelow k es → There → Each (IsOneOfTheirs input) w.items → Each (IsOneOfTheirs input) (run w es).items
  each_theirs w [] g e b there h = h
  each_theirs w (by s a ∷ es) g e b there h = each_theirs (step w (by s a)) es g.1 e b.1 there (each_append (IsOneOfTheirs input) w.items (items_by (w.at s) a) h (its_items w s a es g e b.0 there))
  each_theirs w (closes n ∷ es) g e b there h = each_theirs (step w (closes n)) es g.1 e b there (each_append (IsOneOfTheirs input) w.items (Close n ∷ []) h (tt, tt))
