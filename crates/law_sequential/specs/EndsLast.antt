-- Entries (end) that are written behind the last statement.
use Rattle.std.specs.Prelude.{◌≡◌, ◌++◌, List}
use Rattle.spec_history.specs.Acts.{takes, answers}
use Rattle.spec_history.specs.Lists.{Each}
use Rattle.spec_history.specs.Transcripts.{end_of_session}
use Rattle.spec_protocol.specs.AnonymousActs.{AnonymousAct, did}

-- statements are taken up, and then entries (end) are written
pub data Phase : Type 0 where
  running : Phase
  ending : Phase

-- no entry (end) is written
abbrev pub IsNoEnd : AnonymousAct → Type 0
IsNoEnd (did (answers (end_of_session end))) = ⊥
IsNoEnd _ = Unit {0}

-- no statement is taken up
abbrev pub IsNoStatement : AnonymousAct → Type 0
IsNoStatement (did (takes text)) = ⊥
IsNoStatement _ = Unit {0}

-- a deed that may come in this phase
abbrev pub InPhase : Phase → AnonymousAct → Type 0
InPhase running d = IsNoEnd d
InPhase ending d = IsNoStatement d

-- the deeds so far: up to some place no entry (end) is written, and behind it no statement is taken up; a
-- session without a transaction writes none, and may stop before
pub record EndsLast (anonymous_acts : List AnonymousAct) : Type 0 where
  pub before : List AnonymousAct
  pub after : List AnonymousAct
  pub are : anonymous_acts ≡ before ++ after
  pub none_ended : Each IsNoEnd before
  pub none_taken : Each IsNoStatement after

abbrev pub CameSo : Phase → List AnonymousAct → Type 0
CameSo running anonymous_acts = Each IsNoEnd anonymous_acts
CameSo ending anonymous_acts = EndsLast anonymous_acts
