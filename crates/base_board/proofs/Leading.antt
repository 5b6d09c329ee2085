-- What stands together at the start does so at the end.
use Rattle.std.proofs.Common.{◌≡◌, ◌≢◌, ℕ, ◌<◌, List, [], ◌∷◌, ◌++◌, set, sym, subst}
use mathlib.Core.Option.{some}
use lib.ListN.{get_elem?}
use Rattle.base_board.specs.Outs.{OutsAreIn}
use Rattle.base_board.specs.Histories.{BoardEvent, visit, split, join, Leads}

module _ {C S : Type 0} (stand : List C → List S → Type 0) (may : S → List (ℕ × C) → ℕ → C → S → Type 0) (kept split_off : S → ℕ → S) (may_end : S → Type 0) (joined : S → S → S) (nobody : S)
    (visits : (cells : List C) (seats : List S) (j : ℕ) (s : S) (out : List (ℕ × C)) (i : ℕ) (c : C) (t : S) → stand cells seats → get_elem? seats j ≡ some s → OutsAreIn cells out → may s out i c t → stand (set cells i c) (set seats j t))
    (splits : (cells : List C) (seats : List S) (j : ℕ) (s : S) (n : ℕ) → stand cells seats → get_elem? seats j ≡ some s → 0 < n → stand cells (set seats j (kept s n) ++ split_off s n ∷ []))
    (joins : (cells : List C) (seats : List S) (j k : ℕ) (s t : S) → stand cells seats → get_elem? seats j ≡ some s → get_elem? seats k ≡ some t → k ≢ j → may_end t → stand cells (set (set seats j (joined s t)) k nobody)) where
  pub leads_on : (es : List (BoardEvent C S)) (cells : List C) (seats : List S) (cells' : List C) (seats' : List S) → stand cells seats → Leads may kept split_off may_end joined nobody es cells seats cells' seats' → stand cells' seats'
  leads_on [] cells seats cells' seats' h e = subst (λ (z : List C × List S). stand z.0 z.1) (λ k. (sym e.0 k, sym e.1 k)) h
  leads_on (visit j s out i c t ∷ es) cells seats cells' seats' h e = leads_on es (set cells i c) (set seats j t) cells' seats' (visits cells seats j s out i c t h e.0 e.1 e.2) e.3
  leads_on (split j s n ∷ es) cells seats cells' seats' h e = leads_on es cells (set seats j (kept s n) ++ split_off s n ∷ []) cells' seats' (splits cells seats j s n h e.0 e.1) e.2
  leads_on (join j k s t ∷ es) cells seats cells' seats' h e = leads_on es cells (set (set seats j (joined s t)) k nobody) cells' seats' (joins cells seats j k s t h e.0 e.1 e.2 e.3) e.4
