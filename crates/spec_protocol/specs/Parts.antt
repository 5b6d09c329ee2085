-- Whose part of a history is whose: each session of the history is that of one seat.
use Rattle.std.specs.Prelude.{ℕ, ◌≡◌, ◌⊎◌, ◌++◌, Bool, true, false, List, [], ◌∷◌, Option, Some, None}
use Rattle.spec_history.specs.Lists.{Text, Each, In}
use Rattle.spec_history.specs.Meaning.{Meaning}
use Rattle.spec_history.specs.Guards.{IsAnswered}
use Rattle.spec_history.specs.Serial.{Differ}
use Rattle.spec_history.specs.Transactions.{unfixed, listed}
use Rattle.spec_history.specs.Acts.{Act, of}
use Rattle.spec_history.specs.Transcripts.{Transcript}
use Rattle.spec_history.specs.Sessions.{SessionTransaction, SessionState, runs, gone, transcript_of}
use Rattle.spec_history.specs.Worlds.{first, run}
use Rattle.spec_protocol.specs.TranscriptsSoFar.{IsTranscript}
use Rattle.spec_protocol.specs.Seats.{OpenTransaction, StatementProgress, found, made, replied, SessionStatus, inside, Session, Written, Role, idle, session, builder, SeatState}
use Rattle.spec_protocol.specs.OpenOnes.{text_at, texts_so_far}

-- the sessions of a seat, by their numbers in the history: those that are over, and the one that runs
pub record Numbers : Type 0 where
  pub past : List ℕ
  pub now : Option ℕ

abbrev pub all_of : Numbers → List ℕ
all_of m = m.past ++ listed m.now

-- what the statement under way has asked for, as long as its answer isn't certain
abbrev pub asking_in : Text → StatementProgress → List (Text × Bool)
asking_in text (found named fresh) = (text, false) ∷ []
asking_in text (made def indexed) = (text, false) ∷ []
asking_in text (replied reply) = (text, false) ∷ (text, true) ∷ []
asking_in text _ = []

abbrev pub asking : SessionStatus → List (Text × Bool)
asking (inside text stage) = asking_in text stage
asking _ = []

-- a want that counts is one of a statement that was answered, or of the one under way
abbrev pub IsHeard : SessionStatus → List (Text × Bool) → Text × Bool → Type 0
IsHeard place answered a = IsAnswered answered a ⊎ In a (asking place)

-- the session's transaction is the seat's
pub record IsTransaction (d : SessionTransaction) (x : Session) (o : OpenTransaction) : Type 0 where
  pub id : d.id ≡ o.id
  pub explicit : d.explicit ≡ o.explicit
  pub script : d.script ≡ o.script
  pub end : d.fixed ≡ o.end
  -- whose wants in a table's cell count, of those statements the script is made
  pub asked : o.end ≡ unfixed → Each (λ a. a.1 ≡ true → In a.0 (texts_so_far x o)) d.asked
  pub heard : Each (IsHeard x.place d.answered) d.asked

abbrev pub AreTransactions : Option SessionTransaction → Session → Option OpenTransaction → Type 0
AreTransactions None x None = Unit {0}
AreTransactions (Some d) x (Some o) = IsTransaction d x o
AreTransactions _ x _ = ⊥

-- a session of the history is the one that runs at this seat
pub record IsNow (q : Meaning) (x : SessionState) (s : Session) : Type 0 where
  pub running : x.phase ≡ runs
  pub transcript : transcript_of x ≡ s.transcript
  pub under : x.so_far.under ≡ text_at s.place
  pub open_one : AreTransactions x.transaction s s.open_one
  pub so_far : IsTranscript q x.so_far s

-- session n began after session m was over
pub record BeganAfter (h : List Act) (m n : ℕ) : Type 0 where
  pub before : List Act
  pub after : List Act
  pub is : h ≡ before ++ after
  pub over : ((run first before).at m).phase ≡ gone
  pub none : of n before ≡ []

module _ (h : List Act) where
  -- this is the transcript of a session that is over
  pub record IsOver (x : Transcript) : Type 0 where
    pub number : ℕ
    pub over : ((run first h).at number).phase ≡ gone
    pub is : transcript_of ((run first h).at number) ≡ x

  -- this is the transcript of a session that was over when session n began
  pub record WasOver (n : ℕ) (x : Transcript) : Type 0 where
    pub number : ℕ
    pub before : BeganAfter h number n
    pub is : transcript_of ((run first h).at number) ≡ x

  -- session n of the history is over, and this is its transcript
  pub record IsPast (n : ℕ) (x : Written) : Type 0 where
    pub over : ((run first h).at n).phase ≡ gone
    pub is : transcript_of ((run first h).at n) ≡ x.transcript
    pub earlier : Each (WasOver n) x.earlier

  abbrev pub Past : List ℕ → List Written → Type 0
  Past [] [] = Unit {0}
  Past (n ∷ ns) (x ∷ xs) = IsPast n x × Past ns xs
  Past _ _ = ⊥

  -- the session that runs at a seat, if one does
  abbrev pub Now : Meaning → Option ℕ → Role → Type 0
  Now q (Some n) (session x) = IsNow q ((run first h).at n) x × Each (WasOver n) x.earlier
  Now q None idle = Unit {0}
  Now q None builder = Unit {0}
  Now q _ _ = ⊥

  -- these are the sessions of the seat
  pub record Sessions (q : Meaning) (m : Numbers) (s : SeatState) : Type 0 where
    pub differ : Differ (all_of m)
    pub past : Past m.past s.written
    pub now : Now q m.now s.role
    -- what it keeps of its parent's
    pub earlier : Each IsOver s.earlier
