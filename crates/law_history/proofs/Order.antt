-- In a history of one statement after another, ids and marks count.
use Rattle.std.proofs.Common.{◌≡◌, ℕ, suc, ◌+◌, ◌<◌, List, [], ◌∷◌, ◌++◌, refl, sym, ap, ◌∙◌, subst, arith, append-nil, add-zero}
use Rattle.sql_types.specs.declared.journal.JournalItem.{JournalItem}
use Rattle.sql_types.specs.declared.journal.JournalItem.TheVariants.{Tx, Close}
use Rattle.spec_model.specs.Journals.{tx_count, closed}
use Rattle.spec_history.specs.Lists.{Text}
use Rattle.spec_history.specs.Journals.{blocks}
use Rattle.spec_history.specs.Meaning.{Meaning}
use Rattle.spec_history.specs.Serial.{ClosesPending}
use Rattle.spec_history.specs.Facts.{Fact}
use Rattle.spec_history.specs.StepOrder.{Counted}
use Rattle.spec_history.specs.Acts.{SessionAct, assigns_id, commits, ends, issues, keeps, lacks, Act, by, closes, shown}
use Rattle.spec_history.specs.Worlds.{World, item_of, items_by, step, run}
use Rattle.spec_history.specs.Guards.{Good}
use Rattle.spec_history.proofs.Trace.{count_append}
use Rattle.spec_history.proofs.Clash.{place_last}
use Rattle.spec_history.proofs.Signs.{mark_same}
use Rattle.spec_history.proofs.Legal.{closings_run}

-- what all acts show, in order
abbrev pub facts_in : List Act → List Fact
facts_in [] = []
facts_in (by s a ∷ es) = shown a ++ facts_in es
facts_in (closes k ∷ es) = facts_in es

module _ (q : Meaning) (db : Text) where
  moved : (J : List JournalItem) (n m c d : ℕ) (gs : List Fact) → n ≡ m → c ≡ d → Counted J n c gs → Counted J m d gs
  moved J n m c d gs e f h = subst (λ (z : ℕ × ℕ). Counted J z.0 z.1 gs) (λ k. (e k, f k)) h

  still : (J : List JournalItem) (w : World) (s : ℕ) (a : SessionAct) (es : List Act) → items_by (w.at s) a ≡ [] → (step w (by s a)).next ≡ w.next + 0 → Counted J (step w (by s a)).next (tx_count (step w (by s a)).items) (facts_in es) → Counted J w.next (tx_count w.items) (facts_in es)
  still J w s a es e f h = moved J (step w (by s a)).next w.next (tx_count (step w (by s a)).items) (tx_count w.items) (facts_in es) (f ∙ add-zero w.next) (ap (λ (l : List JournalItem). tx_count (w.items ++ l)) e ∙ ap tx_count (append-nil w.items)) h

  head_is : (m n : ℕ) → (m ∷ []) ≡ (n ∷ []) → m ≡ n
  head_is m n e = cc

  closed_some : (J : List JournalItem) → ClosesPending 0 J → 0 < blocks J → 0 < closed J
  closed_some J h l = go 0 J h l
    where
      go : (n : ℕ) (J : List JournalItem) → ClosesPending n J → 0 < blocks J → 0 < closed J
      go n [] h l = absurd (omega arith)
      go n (Tx id session time explicit script ∷ is) h l = go (suc n) is h l
      go n (Close k ∷ is) h l = let a = h.0 in omega arith

  pub counted : (w : World) (es : List Act) → Good q db w es → ClosesPending 0 w.items → Counted (run w es).items w.next (tx_count w.items) (facts_in es)
  counted w [] g p = tt
  counted w (closes k ∷ es) g p = let J : List JournalItem = (run w (closes k ∷ es)).items in moved J w.next w.next (tx_count (w.items ++ Close k ∷ [])) (tx_count w.items) (facts_in es) refl (omega (arith, count_append w.items (Close k ∷ []))) (counted (step w (closes k)) es g.1 (closings_run q db w (closes k ∷ []) (g.0, tt) p))
  counted w (by s a ∷ es) g p = by_act w s a es g p (counted (step w (by s a)) es g.1 (closings_run q db w (by s a ∷ []) (g.0, tt) p))
    where
      by_act : (w : World) (s : ℕ) (a : SessionAct) (es : List Act) → Good q db w (by s a ∷ es) → ClosesPending 0 w.items → Counted (run w (by s a ∷ es)).items (step w (by s a)).next (tx_count (step w (by s a)).items) (facts_in es) → Counted (run w (by s a ∷ es)).items w.next (tx_count w.items) (shown a ++ facts_in es)
      by_act w s (assigns_id id explicit) es g p h = (g.0.2, moved (run w (by s (assigns_id id explicit) ∷ es)).items (w.next + 1) (w.next + 1) (tx_count (w.items ++ [])) (tx_count w.items) (facts_in es) refl (ap tx_count (append-nil w.items)) h)
      by_act w s (commits time place) es g p h = (g.0.last, moved (run w (by s (commits time place) ∷ es)).items (w.next + 0) w.next (tx_count (w.items ++ item_of (w.at s) (w.at s).transaction time)) (tx_count w.items + 1) (facts_in es) (add-zero w.next) (sym (place_last q w s time place g.0) ∙ g.0.last) h)
      by_act w s (ends n back) es g p h = (g.0.last, still (run w (by s (ends n back) ∷ es)).items w s (ends n back) es refl refl h)
      by_act w s (issues d mark) es g p h = let m = head_is _ _ (mark_same q db w s (issues d mark) es g.0).0 in (m ∙ (g.0).counts, (let l = (g.0).last in let a = (g.0).all in let c = closed_some w.items p (omega arith) in omega arith), still (run w (by s (issues d mark) ∷ es)).items w s (issues d mark) es refl refl h)
      by_act w s (keeps items mark) es g p h = (head_is _ _ (mark_same q db w s (keeps items mark) es g.0).0 ∙ g.0.2, still (run w (by s (keeps items mark) ∷ es)).items w s (keeps items mark) es refl refl h)
      by_act w s lacks es g p h = (g.0.1, still (run w (by s lacks ∷ es)).items w s lacks es refl refl h)
      by_act w s a es g p h = still (run w (by s a ∷ es)).items w s a es refl refl h
