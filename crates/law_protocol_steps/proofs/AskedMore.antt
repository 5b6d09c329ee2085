-- What a transaction asked for stays asked for by whatever happens, until it holds nothing any more.
use Rattle.std.proofs.Common.{◌≡◌, ◌≢◌, ℕ, Bool, List, [], ◌∷◌, Option, Some, None, refl, sym, ap, ◌∙◌, inr, ⊎_elim}
use Rattle.std.proofs.lemmas.Bool.{cases_eq}
use Rattle.spec_history.specs.Lists.{Text, Each, In}
use Rattle.spec_history.specs.Meaning.{Meaning}
use Rattle.spec_history.specs.Acts.{SessionAct, starts, takes, assigns_id, looks, says, fails, meets, commits, ends, releases_locks, issues, keeps, lacks, answers, stops, by}
use Rattle.spec_history.specs.Sessions.{SessionTransaction, SessionState, transaction_by}
use Rattle.spec_history.specs.Worlds.{World, step, run}
use Rattle.spec_history.specs.Guards.{IsEnabledFor, Good}
use Rattle.spec_protocol.specs.LocksWereAsked.{WasAsked}
use Rattle.law_protocol_steps.proofs.AnonymousActs.{at_after}
use Rattle.law_protocol_steps.proofs.OneMore.{by_each, run_else}

-- a transaction goes on as another
record GoesOn (z : Option SessionTransaction) (d : SessionTransaction) (a : Text × Bool) : Type 0 where
  transaction : SessionTransaction
  has : z ≡ Some transaction
  id : transaction.id ≡ d.id
  explicit : transaction.explicit ≡ d.explicit
  asked : In a transaction.asked

abbrev pub NotFree : SessionAct → Type 0
NotFree releases_locks = ⊥
NotFree _ = Unit {0}

module _ (q : Meaning) (db : Text) (w : World) (n : ℕ) (d : SessionTransaction) (a : Text × Bool) (i : In a d.asked) where
  goes_on : (act : SessionAct) → NotFree act → IsEnabledFor q db w n act → (w.at n).transaction ≡ Some d → GoesOn (transaction_by (w.at n).transaction act) d a
  goes_on (assigns_id id explicit) f ok e = let no : None ≡ Some d = sym ok.1 ∙ e in cc
  goes_on (looks text table) f ok e = record { transaction = _; has = ap (λ z. transaction_by z (looks text table)) e; id = refl; explicit = refl; asked = inr i }
  goes_on (says line) f ok e = record { transaction = _; has = ap (λ z. transaction_by z (says line)) e; id = refl; explicit = refl; asked = inr i }
  goes_on (fails text) f ok e = record { transaction = _; has = ap (λ z. transaction_by z (fails text)) e; id = refl; explicit = refl; asked = inr i }
  goes_on (meets text holder) f ok e = record { transaction = _; has = ap (λ z. transaction_by z (meets text holder)) e; id = refl; explicit = refl; asked = inr i }
  goes_on (commits time place) f ok e = record { transaction = _; has = ap (λ z. transaction_by z (commits time place)) e; id = refl; explicit = refl; asked = i }
  goes_on (ends m back) f ok e = record { transaction = _; has = ap (λ z. transaction_by z (ends m back)) e; id = refl; explicit = refl; asked = i }
  goes_on releases_locks f ok e = absurd f
  goes_on (starts name) f ok e = record { transaction = d; has = e; id = refl; explicit = refl; asked = i }
  goes_on (takes text) f ok e = record { transaction = d; has = e; id = refl; explicit = refl; asked = i }
  goes_on (issues g mark) f ok e = record { transaction = d; has = e; id = refl; explicit = refl; asked = i }
  goes_on (keeps items mark) f ok e = record { transaction = d; has = e; id = refl; explicit = refl; asked = i }
  goes_on lacks f ok e = record { transaction = d; has = e; id = refl; explicit = refl; asked = i }
  goes_on (answers entry) f ok e = record { transaction = d; has = e; id = refl; explicit = refl; asked = i }
  goes_on stops f ok e = record { transaction = d; has = e; id = refl; explicit = refl; asked = i }

module _ (q : Meaning) (db : Text) where
  -- by one act that isn't the release, or is that of another transaction
  pub asked_by_act : (w : World) (n : ℕ) (act : SessionAct) → NotFree act → IsEnabledFor q db w n act → (id : ℕ) (explicit : Bool) (a : Text × Bool) → WasAsked w.at id explicit a → WasAsked (step w (by n act)).at id explicit a
  asked_by_act w n act f ok id explicit a h = ⊎_elim
      (λ (e : h.session ≡ n). let g = goes_on q db w n h.transaction a h.asked act f ok (ap (λ k. (w.at k).transaction) (sym e) ∙ h.has) in
      record { session = n; transaction = g.transaction; has = ap (λ (x : SessionState). x.transaction) (at_after w n act) ∙ g.has; is = g.id ∙ h.is; by_begin = g.explicit ∙ h.by_begin; asked = g.asked })
      (λ (ne : h.session ≢ n). record { session = h.session; transaction = h.transaction; has = ap (λ (x : SessionState). x.transaction) (run_else n w (act ∷ []) h.session ne) ∙ h.has; is = h.is; by_begin = h.by_begin; asked = h.asked })
      (cases_eq h.session n)

  pub asked_by_all : (w : World) (n : ℕ) (anonymous_acts : List SessionAct) → Each NotFree anonymous_acts → Good q db w (by_each n anonymous_acts) → (id : ℕ) (explicit : Bool) (a : Text × Bool) → WasAsked w.at id explicit a → WasAsked (run w (by_each n anonymous_acts)).at id explicit a
  asked_by_all w n [] f ok id explicit a h = h
  asked_by_all w n (act ∷ anonymous_acts) f ok id explicit a h = asked_by_all (step w (by n act)) n anonymous_acts f.1 ok.1 id explicit a (asked_by_act w n act f.0 ok.0 id explicit a h)
