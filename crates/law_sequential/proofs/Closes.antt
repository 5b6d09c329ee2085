-- Deeds that close blocks in step, put together; and what they tell of a history.
use Rattle.std.proofs.Common.{◌≡◌, ℕ, suc, List, [], ◌∷◌, ◌++◌, map, sym, subst}
use Rattle.std.specs.Prelude.{◌==◌}
use Rattle.spec_history.specs.Acts.{SessionAct, commits, issues, Act, by, closes}
use Rattle.spec_history.specs.Histories.{ClosesInStep, Due, pending, full, digest_next, full_or}
use Rattle.spec_protocol.specs.AnonymousActs.{AnonymousAct, did, closed, anonymous_act}
use Rattle.law_sequential.specs.InStep.{InStep}

module _ (N : ℕ) where
  -- ---- one after another

  one_more : (a : SessionAct) (ds es : List AnonymousAct) (then_due : Due) → ((due : Due) → ((last : Due) → InStep N due ds last → InStep N last es then_due → InStep N due (ds ++ es) then_due))
      → (due last : Due) → InStep N due (did a ∷ ds) last → InStep N last es then_due → InStep N due (did a ∷ (ds ++ es)) then_due
  one_more (commits time place) ds es then_due f (pending p) last h k = f (full_or (suc p == N) (suc p)) last h k
  one_more (issues d mark) ds es then_due f (pending p) last h k = (h.0, f (pending 0) last h.1 k)
  one_more a ds es then_due f (pending p) last h k = f (pending p) last h k
  one_more a ds es then_due f full last h k = (h.0, f full last h.1 k)
  one_more (issues d mark) ds es then_due f digest_next last h k = f (pending 0) last h k
  one_more a ds es then_due f digest_next last h k = absurd h

  pub in_step_append : (ds es : List AnonymousAct) (due last then_due : Due) → InStep N due ds last → InStep N last es then_due → InStep N due (ds ++ es) then_due
  in_step_append [] es due last then_due h k = subst (λ (x : Due). InStep N x es then_due) (sym h) k
  in_step_append (did a ∷ ds) es due last then_due h k = one_more a ds es then_due (λ x y. in_step_append ds es x y then_due) due last h k
  in_step_append (closed n ∷ ds) es (pending p) last then_due h k = (h.0, h.1, in_step_append ds es digest_next last then_due h.2 k)
  in_step_append (closed n ∷ ds) es full last then_due h k = (h.0, in_step_append ds es (pending 0) last then_due h.1 k)
  in_step_append (closed n ∷ ds) es digest_next last then_due h k = absurd h

  -- ---- a history

  one_act : (n p : ℕ) (a : SessionAct) (es : List Act) → ((due : Due) → InStep N due (map anonymous_act es) (pending p) → ClosesInStep N due es) → (due : Due) → InStep N due (did a ∷ map anonymous_act es) (pending p) → ClosesInStep N due (by n a ∷ es)
  one_act n q (commits time place) es f (pending p) h = f (full_or (suc p == N) (suc p)) h
  one_act n q (issues d mark) es f (pending p) h = (h.0, f (pending 0) h.1)
  one_act n q a es f (pending p) h = f (pending p) h
  one_act n q a es f full h = (h.0, f full h.1)
  one_act n q (issues d mark) es f digest_next h = f (pending 0) h
  one_act n q a es f digest_next h = absurd h

  nothing_left : (due : Due) (p : ℕ) → due ≡ pending p → ClosesInStep N due []
  nothing_left (pending n) p e = tt
  nothing_left full p e = cc
  nothing_left digest_next p e = cc

  pub closes_in_step : (h : List Act) (due : Due) (p : ℕ) → InStep N due (map anonymous_act h) (pending p) → ClosesInStep N due h
  closes_in_step [] due p h = nothing_left due p h
  closes_in_step (by n a ∷ es) due p h = one_act n p a es (λ x. closes_in_step es x p) due h
  closes_in_step (closes k ∷ es) (pending q) p h = (h.0, h.1, closes_in_step es digest_next p h.2)
  closes_in_step (closes k ∷ es) full p h = (h.0, closes_in_step es (pending 0) p h.1)
  closes_in_step (closes k ∷ es) digest_next p h = absurd h
