-- Names and moments of sessions, as the input and what was written have them.
use Rattle.std.proofs.Common.{◌≡◌, ℕ, true, List, [], ◌∷◌, map, refl, ap, inl, inr}
use Rattle.base_types.specs.SessionName.{is_session_name}
use Rattle.spec_history.specs.Lists.{Text, Each}
use Rattle.spec_history.specs.Transcripts.{Transcript}
use Rattle.spec_protocol.specs.Seats.{Written}
use Rattle.law_protocol_steps.proofs.AfterSet.{each_at}
use Rattle.law_kept_images.specs.Wrote.{transcripts_in}
use Rattle.law_concurrent.specs.Together.{IsMomentOf, names_in, session_in}

pub names_are : (X : List Transcript) → map (λ s. s.name) (map session_in X) ≡ names_in X
names_are [] = refl
names_are (x ∷ X) = ap (λ (ns : List Text). x.session ∷ ns) (names_are X)

pub are_named : (ws : List Written) → Each (λ s. is_session_name s.name ≡ true) (map session_in (transcripts_in ws)) → Each (λ w. is_session_name w.transcript.session ≡ true) ws
are_named [] h = tt
are_named (w ∷ ws) h = (h.0, are_named ws h.1)

-- a moment of one of the sessions is such where all are
pub is_said : (IsSaid : ℕ → Type 0) (ws : List Written) → Each (λ w. Each IsSaid w.moments) ws → (time : ℕ) → IsMomentOf ws time → IsSaid time
is_said IsSaid [] h time m = absurd m
is_said IsSaid (w ∷ ws) h time (inl i) = each_at IsSaid w.moments time h.0 i
is_said IsSaid (w ∷ ws) h time (inr m) = is_said IsSaid ws h.1 time m
