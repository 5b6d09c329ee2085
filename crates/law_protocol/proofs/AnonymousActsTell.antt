-- What the deeds of a history tell: whether sessions end behind the last statement, and blocks are closed in step.
use Rattle.std.proofs.Common.{◌≡◌, ℕ, suc, List, [], ◌∷◌, ◌++◌, map, refl, ◌∙◌, sym, ap, ap₂, subst}
use Rattle.std.specs.Prelude.{◌==◌}
use Rattle.spec_history.specs.Acts.{SessionAct, takes, commits, issues, answers, Act, by, closes}
use Rattle.spec_history.specs.Histories.{ClosesInStep, Due, EndsComeLast, digest_next, full, full_or, line_by, lines_of, pending}
use Rattle.spec_history.specs.Inputs.{InputLine}
use Rattle.spec_history.specs.Sessions.{SessionState}
use Rattle.spec_history.specs.Transcripts.{end_of_session}
use Rattle.spec_history.specs.Worlds.{World, step}
use Rattle.spec_protocol.specs.AnonymousActs.{anonymous_act}

-- two histories begin with one act
record SameFirst (a b : SessionAct) (es fs : List Act) : Type 0 where
  act : a ≡ b
  rest : map anonymous_act es ≡ map anonymous_act fs

same_first : (n m : ℕ) (a b : SessionAct) (es fs : List Act) → map anonymous_act (by n a ∷ es) ≡ map anonymous_act (by m b ∷ fs) → SameFirst a b es fs
same_first n m a b es fs e = record { act = cc; rest = cc }

same_closing : (k l : ℕ) (es fs : List Act) → map anonymous_act (closes k ∷ es) ≡ map anonymous_act (closes l ∷ fs) → (k ≡ l) × (map anonymous_act es ≡ map anonymous_act fs)
same_closing k l es fs e = (cc, cc)

-- ---- ends

none_here : (x y : SessionState) (a : SessionAct) (ls : List InputLine) → line_by x a ++ ls ≡ [] → (line_by y a ≡ []) × (ls ≡ [])
none_here x y (takes text) ls e = cc
none_here x y a ls e = (refl, e)

no_lines : (w u : World) (h g : List Act) → map anonymous_act h ≡ map anonymous_act g → lines_of w h ≡ [] → lines_of u g ≡ []
no_lines w u [] [] e l = refl
no_lines w u [] (by m b ∷ fs) e l = cc
no_lines w u [] (closes k ∷ fs) e l = cc
no_lines w u (by n a ∷ es) [] e l = cc
no_lines w u (by n a ∷ es) (by m b ∷ fs) e l = let s = same_first n m a b es fs e in let p = none_here (w.at n) (u.at m) a (lines_of (step w (by n a)) es) l in
    ap₂ (λ (ks ls : List InputLine). ks ++ ls) (ap (line_by (u.at m)) (sym s.act) ∙ p.0) (no_lines (step w (by n a)) (step u (by m b)) es fs s.rest p.1)
no_lines w u (by n a ∷ es) (closes k ∷ fs) e l = cc
no_lines w u (closes k ∷ es) [] e l = cc
no_lines w u (closes k ∷ es) (by m b ∷ fs) e l = cc
no_lines w u (closes k ∷ es) (closes l ∷ fs) e z = no_lines (step w (closes k)) (step u (closes l)) es fs (same_closing k l es fs e).1 z

ends_one : (w u : World) (n m : ℕ) (a : SessionAct) (es fs : List Act) → map anonymous_act es ≡ map anonymous_act fs → (EndsComeLast (step w (by n a)) es → EndsComeLast (step u (by m a)) fs) → EndsComeLast w (by n a ∷ es) → EndsComeLast u (by m a ∷ fs)
ends_one w u n m (answers (end_of_session end)) es fs e f h = (no_lines (step w (by n (answers (end_of_session end)))) (step u (by m (answers (end_of_session end)))) es fs e h.0, f h.1)
ends_one w u n m a es fs e f h = f h

pub same_ends : (w u : World) (h g : List Act) → map anonymous_act h ≡ map anonymous_act g → EndsComeLast w h → EndsComeLast u g
same_ends w u [] [] e l = tt
same_ends w u [] (by m b ∷ fs) e l = cc
same_ends w u [] (closes k ∷ fs) e l = cc
same_ends w u (by n a ∷ es) [] e l = cc
same_ends w u (by n a ∷ es) (by m b ∷ fs) e l = let s = same_first n m a b es fs e in
    subst (λ (c : SessionAct). EndsComeLast u (by m c ∷ fs)) s.act (ends_one w u n m a es fs s.rest (same_ends (step w (by n a)) (step u (by m a)) es fs s.rest) l)
same_ends w u (by n a ∷ es) (closes k ∷ fs) e l = cc
same_ends w u (closes k ∷ es) [] e l = cc
same_ends w u (closes k ∷ es) (by m b ∷ fs) e l = cc
same_ends w u (closes k ∷ es) (closes l ∷ fs) e z = same_ends (step w (closes k)) (step u (closes l)) es fs (same_closing k l es fs e).1 z

-- ---- closings

module _ (N : ℕ) where
  one_act : (n m : ℕ) (a : SessionAct) (es fs : List Act) → ((due : Due) → ClosesInStep N due es → ClosesInStep N due fs) → (due : Due) → ClosesInStep N due (by n a ∷ es) → ClosesInStep N due (by m a ∷ fs)
  one_act n m (commits time place) es fs f (pending p) h = f (full_or (suc p == N) (suc p)) h
  one_act n m (issues d mark) es fs f (pending p) h = (h.0, f (pending 0) h.1)
  one_act n m a es fs f (pending p) h = f (pending p) h
  one_act n m a es fs f full h = (h.0, f full h.1)
  one_act n m (issues d mark) es fs f digest_next h = f (pending 0) h
  one_act n m a es fs f digest_next h = absurd h

  one_closing : (k : ℕ) (es fs : List Act) → ((due : Due) → ClosesInStep N due es → ClosesInStep N due fs) → (due : Due) → ClosesInStep N due (closes k ∷ es) → ClosesInStep N due (closes k ∷ fs)
  one_closing k es fs f (pending p) h = (h.0, h.1, f digest_next h.2)
  one_closing k es fs f full h = (h.0, f (pending 0) h.1)
  one_closing k es fs f digest_next h = absurd h

  pub same_closings : (h g : List Act) → map anonymous_act h ≡ map anonymous_act g → (due : Due) → ClosesInStep N due h → ClosesInStep N due g
  same_closings [] [] e due l = l
  same_closings [] (by m b ∷ fs) e due l = cc
  same_closings [] (closes k ∷ fs) e due l = cc
  same_closings (by n a ∷ es) [] e due l = cc
  same_closings (by n a ∷ es) (by m b ∷ fs) e due l = let s = same_first n m a b es fs e in
      subst (λ (c : SessionAct). ClosesInStep N due (by m c ∷ fs)) s.act (one_act n m a es fs (same_closings es fs s.rest) due l)
  same_closings (by n a ∷ es) (closes k ∷ fs) e due l = cc
  same_closings (closes k ∷ es) [] e due l = cc
  same_closings (closes k ∷ es) (by m b ∷ fs) e due l = cc
  same_closings (closes k ∷ es) (closes l ∷ fs) e due z = let s = same_closing k l es fs e in subst (λ (c : ℕ). ClosesInStep N due (closes c ∷ fs)) s.0 (one_closing k es fs (same_closings es fs s.1) due z)
