-- The transcripts of a history.
use Rattle.std.specs.Prelude.{ℕ, suc, ◌≡◌, ◌≢◌, ◌<◌, ◌≤◌, ◌==◌, Bool, true, false, List, [], ◌∷◌, ◌++◌, flat_map, length, Option, Some, None}
use Rattle.sql_types.specs.declared.journal.JournalItem.{JournalItem}
use Rattle.sql_types.specs.declared.journal.JournalItem.TheVariants.{Tx, Close}
use Rattle.spec_history.specs.Lists.{Text, In, At}
use Rattle.spec_history.specs.Inputs.{InputLine, InputSession}
use Rattle.spec_history.specs.Transcripts.{end_of_session, Transcript}
use Rattle.spec_history.specs.StepOrder.{Row}
use Rattle.spec_history.specs.Acts.{SessionAct, takes, commits, issues, keeps, answers, Act, by, closes, of, assigned_id}
use Rattle.spec_history.specs.Sessions.{SessionState, gone, transcript_of}
use Rattle.spec_history.specs.Worlds.{World, first, step, run}
use Rattle.spec_history.specs.Guards.{AtRest}

-- each act is one of the first k sessions'
abbrev pub SessionsBelow : ℕ → List Act → Type 0
SessionsBelow k [] = Unit {0}
SessionsBelow k (by s a ∷ es) = (s < k) × SessionsBelow k es
SessionsBelow k (closes n ∷ es) = SessionsBelow k es

-- what the input has of a session is its name and the statements that it took up
pub record IsInputOf (s : InputSession) (x : SessionState) : Type 0 where
  pub name : s.name ≡ x.name
  pub texts : s.texts ≡ x.so_far.taken

-- these are the input and the transcripts of the sessions from number n on, and each is at rest
abbrev pub AreOf : (ℕ → SessionState) → ℕ → List InputSession → List Transcript → Type 0
AreOf at n [] [] = Unit {0}
AreOf at n (s ∷ input) (x ∷ X) =
    IsInputOf s (at n) × (x ≡ transcript_of (at n)) × AtRest (at n) × AreOf at (suc n) input X
AreOf at n _ _ = ⊥

-- this session was over before any other did anything
pub record RanBefore (u : ℕ) (h : List Act) : Type 0 where
  pub earlier : List Act
  pub later : List Act
  pub is : h ≡ earlier ++ later
  pub others : (s : ℕ) → s ≢ u → of s earlier ≡ []
  pub gone : ((run first earlier).at u).phase ≡ gone

abbrev pub SetupRan : Option ℕ → List Act → Type 0
SetupRan None h = Unit {0}
SetupRan (Some u) h = RanBefore u h

-- input, setup and transcripts of a history at whose end every session is at rest
pub record IsWhole (input : List InputSession) (setup : Option ℕ) (X : List Transcript)
    (h : List Act) : Type 0 where
  pub sessions : AreOf (run first h).at 0 input X
  pub all : SessionsBelow (length X) h
  pub names_differ : (i j : ℕ) (x y : Transcript) → At X i x → At X j y → i ≢ j → x.session ≢ y.session
  pub setup_ran : SetupRan setup h

-- ---- the journal's names

-- a session of this name drew this id
pub record IsAssignedBy (h : List Act) (id : ℕ) (name : Text) : Type 0 where
  pub session : ℕ
  pub drew : In id (flat_map assigned_id (of session h))
  pub named : ((run first h).at session).name ≡ name

-- a transaction has the name of the session that drew its id
abbrev pub HasItsName : List Act → JournalItem → Type 0
HasItsName h (Tx id name time explicit script) = IsAssignedBy h id name
HasItsName h (Close k) = Unit {0}

-- ---- one statement after another

-- in no statement, and nothing is to be shown
pub record IsIdle (x : SessionState) : Type 0 where
  pub under : x.so_far.under ≡ None
  pub shown : x.so_far.pending ≡ []

-- at each act all other sessions are idle
abbrev pub OneAtATime : World → List Act → Type 0
OneAtATime w [] = Unit {0}
OneAtATime w (by s a ∷ es) = ((t : ℕ) → t ≢ s → IsIdle (w.at t)) × OneAtATime (step w (by s a)) es
OneAtATime w (closes k ∷ es) = OneAtATime (step w (closes k)) es

-- the statements that are taken up, in their order
abbrev pub line_by : SessionState → SessionAct → List InputLine
line_by x (takes text) = record { session = x.name; text = text } ∷ []
line_by x _ = []

abbrev pub lines_of : World → List Act → List InputLine
lines_of w [] = []
lines_of w (by s a ∷ es) = line_by (w.at s) a ++ lines_of (step w (by s a)) es
lines_of w (closes k ∷ es) = lines_of (step w (closes k)) es

-- after an entry (end) no statement is taken up
abbrev pub EndsComeLast : World → List Act → Type 0
EndsComeLast w [] = Unit {0}
EndsComeLast w (by s (answers (end_of_session end)) ∷ es) =
    (lines_of (step w (by s (answers (end_of_session end)))) es ≡ [])
    × EndsComeLast (step w (by s (answers (end_of_session end)))) es
EndsComeLast w (by s a ∷ es) = EndsComeLast (step w (by s a)) es
EndsComeLast w (closes k ∷ es) = EndsComeLast (step w (closes k)) es

-- the entries in the order in which they were written
abbrev pub rows_by : ℕ → SessionAct → List Row
rows_by s (answers entry) = (s, entry) ∷ []
rows_by s _ = []

abbrev pub rows_of : List Act → List Row
rows_of [] = []
rows_of (by s a ∷ es) = rows_by s a ++ rows_of es
rows_of (closes k ∷ es) = rows_of es

-- what the next closing depends on: so many entries are pending, or a block is full, or a digest comes
pub data Due : Type 0 where
  pending : (p : ℕ) → Due
  full : Due
  digest_next : Due

abbrev pub full_or : Bool → ℕ → Due
full_or true p = full
full_or false p = pending p

-- nothing that a full block has to come before
abbrev pub WaitsForNone : SessionAct → Type 0
WaitsForNone (commits time place) = ⊥
WaitsForNone (issues d mark) = ⊥
WaitsForNone (keeps items mark) = ⊥
WaitsForNone _ = Unit {0}

-- a block is closed as soon as N entries are pending, and what is pending is closed for a digest
abbrev pub ClosesInStep : ℕ → Due → List Act → Type 0
ClosesInStep N (pending p) [] = Unit {0}
ClosesInStep N (pending p) (closes k ∷ es) = (k ≡ p) × (1 ≤ p) × ClosesInStep N digest_next es
ClosesInStep N (pending p) (by s (commits time place) ∷ es) = ClosesInStep N (full_or (suc p == N) (suc p)) es
ClosesInStep N (pending p) (by s (issues d mark) ∷ es) = (p ≡ 0) × ClosesInStep N (pending 0) es
ClosesInStep N (pending p) (by s a ∷ es) = ClosesInStep N (pending p) es
ClosesInStep N full [] = ⊥
ClosesInStep N full (closes k ∷ es) = (k ≡ N) × ClosesInStep N (pending 0) es
ClosesInStep N full (by s a ∷ es) = WaitsForNone a × ClosesInStep N full es
ClosesInStep N digest_next (by s (issues d mark) ∷ es) = ClosesInStep N (pending 0) es
ClosesInStep N digest_next _ = ⊥
