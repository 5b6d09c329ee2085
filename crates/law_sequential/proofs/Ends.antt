-- What the deeds of a history tell of the ends of its sessions.
use Rattle.std.proofs.Common.{◌≡◌, ℕ, List, [], ◌∷◌, ◌++◌, map, refl, sym, ap₂, subst}
use Rattle.spec_history.specs.Acts.{SessionAct, takes, answers, Act, by, closes}
use Rattle.spec_history.specs.Histories.{EndsComeLast, line_by, lines_of}
use Rattle.spec_history.specs.Inputs.{InputLine}
use Rattle.spec_history.specs.Lists.{Each}
use Rattle.spec_history.specs.Sessions.{SessionState}
use Rattle.spec_history.specs.Transcripts.{end_of_session}
use Rattle.spec_history.specs.Worlds.{World, step}
use Rattle.spec_protocol.specs.AnonymousActs.{AnonymousAct, did, anonymous_act}
use Rattle.law_sequential.specs.EndsLast.{IsNoEnd, IsNoStatement}

-- ---- where no statement is taken up

none_taken : (x : SessionState) (a : SessionAct) → IsNoStatement (did a) → line_by x a ≡ []
none_taken x (takes text) h = absurd h
none_taken x a h = refl

no_lines : (w : World) (es : List Act) → Each IsNoStatement (map anonymous_act es) → lines_of w es ≡ []
no_lines w [] h = refl
no_lines w (by n a ∷ es) h = ap₂ (λ (ks ls : List InputLine). ks ++ ls) (none_taken (w.at n) a h.0) (no_lines (step w (by n a)) es h.1)
no_lines w (closes k ∷ es) h = no_lines (step w (closes k)) es h.1

one_end : (w : World) (n : ℕ) (a : SessionAct) (es : List Act) → lines_of (step w (by n a)) es ≡ [] → EndsComeLast (step w (by n a)) es → EndsComeLast w (by n a ∷ es)
one_end w n (answers (end_of_session end)) es l h = (l, h)
one_end w n a es l h = h

quiet_ends : (w : World) (es : List Act) → Each IsNoStatement (map anonymous_act es) → EndsComeLast w es
quiet_ends w [] h = tt
quiet_ends w (by n a ∷ es) h = one_end w n a es (no_lines (step w (by n a)) es h.1) (quiet_ends (step w (by n a)) es h.1)
quiet_ends w (closes k ∷ es) h = quiet_ends (step w (closes k)) es h.1

-- ---- where no session has ended

no_end : (w : World) (n : ℕ) (a : SessionAct) (es : List Act) → IsNoEnd (did a) → EndsComeLast (step w (by n a)) es → EndsComeLast w (by n a ∷ es)
no_end w n (answers (end_of_session end)) es e h = absurd e
no_end w n a es e h = h

same_first : (n : ℕ) (a : SessionAct) (es : List Act) (d : AnonymousAct) (ds : List AnonymousAct) → map anonymous_act (by n a ∷ es) ≡ d ∷ ds → (did a ≡ d) × (map anonymous_act es ≡ ds)
same_first n a es d ds e = (cc, cc)

same_closing : (k : ℕ) (es : List Act) (d : AnonymousAct) (ds : List AnonymousAct) → map anonymous_act (closes k ∷ es) ≡ d ∷ ds → map anonymous_act es ≡ ds
same_closing k es d ds e = cc

pub ends_last : (w : World) (es : List Act) (before after : List AnonymousAct) → map anonymous_act es ≡ before ++ after → Each IsNoEnd before → Each IsNoStatement after → EndsComeLast w es
ends_last w es [] after e b a = quiet_ends w es (subst (Each IsNoStatement) (sym e) a)
ends_last w [] (d ∷ before) after e b a = cc
ends_last w (by n x ∷ es) (d ∷ before) after e b a = let s = same_first n x es d (before ++ after) e in
    no_end w n x es (subst IsNoEnd (sym s.0) b.0) (ends_last (step w (by n x)) es before after s.1 b.1 a)
ends_last w (closes k ∷ es) (d ∷ before) after e b a = ends_last (step w (closes k)) es before after (same_closing k es d (before ++ after) e) b.1 a
