-- The answer of a session's last statement, until it is written down.
use Rattle.std.specs.Prelude.{◌≡◌, List, [], ◌∷◌, Option, Some, None}
use Rattle.sql_types.specs.declared.reply.Reply.{Reply}
use Rattle.spec_history.specs.EndSeen.{line_seen}
use Rattle.spec_history.specs.Lists.{Text}
use Rattle.spec_history.specs.Transcripts.{Entry, statement}
use Rattle.server_session.specs.declared.answer.LastAnswer.{LastAnswer}
use Rattle.server_session.specs.declared.answer.LastAnswer.TheVariants.{Own, InScript}
use Rattle.server_session.specs.declared.running.Running.{Running}

-- the entry of the last line of a script, if there is one
abbrev pub last_entry : List (Text × Reply) → List Entry
last_entry [] = []
last_entry (line ∷ []) = statement line.0 line.1 None ∷ []
last_entry (line ∷ next ∷ lines) = last_entry (next ∷ lines)

-- of the script of a transaction
abbrev pub last_said : {H : Type 0} → Option (Running H) → List Entry
last_said None = []
last_said (Some r) = last_entry r.script.items

-- of a line that was taken off a script
abbrev pub entries_said : Option (Text × Reply) → List Entry
entries_said None = []
entries_said (Some line) = statement line.0 line.1 None ∷ []

-- the entry of the last answer, beside this transaction
abbrev pub entries_kept : {H : Type 0} → LastAnswer → Option (Running H) → List Entry
entries_kept (Own a) r = statement a.text a.reply (line_seen a.end) ∷ []
entries_kept InScript r = last_said r

-- ---- transactions that are the same beside their scripts

pub record HasSameBesideScript {H : Type 0} (r q : Running H) : Type 0 where
  pub context : q.context ≡ r.context
  pub visited : q.visited ≡ r.visited
  pub explicit : q.explicit ≡ r.explicit
  pub end : q.end ≡ r.end

abbrev pub IsSameButScript : {H : Type 0} → Option (Running H) → Option (Running H) → Type 0
IsSameButScript None None = Unit {0}
IsSameButScript (Some r) (Some q) = HasSameBesideScript r q
IsSameButScript _ _ = ⊥
