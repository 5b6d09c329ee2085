-- What the sessions of a plan wrote that are over.
use Rattle.std.specs.Prelude.{ℕ, ◌≡◌, ◌++◌, List, [], ◌∷◌}
use Rattle.spec_history.specs.Lists.{Each, In}
use Rattle.spec_history.specs.Transcripts.{Transcript}
use Rattle.spec_protocol.specs.Seats.{IsAtRest, SeatState, Written}
use Rattle.format_sections.specs.declared.section.Section.{Section}
use Rattle.format_sections.specs.RunSections.{section_view, statements_answered, statements_run}
use Rattle.server_thread.specs.SessionEnd.{SessionEnd}
use Rattle.law_snapshots.specs.Answered.{AreAnsweredBehind}
use Rattle.server_thread.specs.Seated.{known_by}
use Rattle.server_thread.specs.Wrote.{IsWritten}

-- This was written of the session of a section, and its thread has this of it: what the session left, and behind its
-- entries those of the texts that were answered over its image.
pub record IsOfSection (says : ℕ → Type 0) (p : Section) (e : SessionEnd) (w : Written) : Type 0 where
  pub left : SessionEnd
  pub is : IsWritten says p.name.now (statements_run (section_view p)) left w
  pub images : e.images ≡ left.images
  pub answered : AreAnsweredBehind p.name.now (statements_answered (section_view p)) left.images left.entries e.entries

-- these were written of the sessions of a plan, in its order
abbrev pub AreWritten : (ℕ → Type 0) → List Section → List SessionEnd → List Written → Type 0
AreWritten says [] [] [] = Unit {0}
AreWritten says (p ∷ ps) (e ∷ es) (w ∷ ws) = IsOfSection says p e w × AreWritten says ps es ws
AreWritten says _ _ _ = ⊥

-- when the session began, its seat knew all these to be over
abbrev pub BeganAfterAll : List Transcript → Written → Type 0
BeganAfterAll known w = (x : Transcript) → In x known → In x w.earlier

-- the sessions of a plan are over, and a seat wrote their transcripts or took them in
pub record HaveWritten (says : ℕ → Type 0) (sections : List Section) (ends : List SessionEnd)
    (s t : SeatState) : Type 0 where
  pub rests : IsAtRest t.role
  pub ws : List Written
  pub wrote : t.written ≡ s.written ++ ws
  pub are : AreWritten says sections ends ws
  pub knew : Each (BeganAfterAll (known_by s)) ws
