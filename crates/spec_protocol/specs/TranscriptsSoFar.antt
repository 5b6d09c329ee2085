-- What is to be shown of the statement in which a session stands, how its entries so far stand to its
-- transaction, and which replies its stage may come to.
use Rattle.std.specs.Prelude.{ℕ, ◌≡◌, ◌+◌, ◌++◌, Bool, true, false, if◌then◌else◌, List, [], ◌∷◌, length, Option, Some, None}
use Rattle.sql_types.specs.declared.reply.Reply.{Reply}
use Rattle.sql_types.specs.declared.reply.Reply.TheVariants as reply
use Rattle.spec_history.specs.Lists.{Text, Each}
use Rattle.spec_history.specs.Meaning.{Meaning}
use Rattle.spec_history.specs.Transcripts.{EndLine, committed_at, ended_after, statement, Kind, commit, roll_back, to_savepoint, create, rows, kind_of}
use Rattle.spec_history.specs.Facts.{Fact, began, said, placed, passed, answer_facts, facts_inside, facts_outside, begun_by, open_at_end}
use Rattle.spec_history.specs.Transactions.{End, unfixed, committed, ended}
use Rattle.spec_history.specs.InPlace.{InPlace, image_by}
use Rattle.spec_history.specs.Sessions.{TranscriptSoFar}
use Rattle.spec_history.specs.Guards.{IsStatement, images_of}
use Rattle.spec_protocol.specs.Seats.{OpenTransaction, StatementProgress, found, going_back, replied, answering, refused, SessionStatus, between, inside, leaving, Session}

abbrev pub end_shown : End → List Fact
end_shown unfixed = []
end_shown (committed n) = placed n ∷ []
end_shown (ended n back) = passed n back ∷ []

abbrev pub line_of : ℕ → End → Option EndLine
line_of id unfixed = None
line_of id (committed n) = Some (committed_at id n)
line_of id (ended n back) = Some (ended_after id n)

-- BEGIN is answered, and its transaction is new
abbrev pub is_begin : StatementProgress → Bool
is_begin (answering (reply.Begun id) def) = true
is_begin _ = false

-- an image that is kept, and whose answer is still to be written
abbrev pub image_in : StatementProgress → ℕ
image_in (answering r def) = image_by r
image_in _ = 0

abbrev pub image_at : SessionStatus → ℕ
image_at (inside text stage) = image_in stage
image_at _ = 0

-- ---- how a transaction ends

abbrev pub NotBack : End → Type 0
NotBack (ended n back) = back ≡ false
NotBack _ = Unit {0}

-- one of its own: it is a CREATE or a statement of rows, and no way back ends it
abbrev pub EndsOwn : Kind → End → Type 0
EndsOwn create e = NotBack e
EndsOwn rows e = NotBack e
EndsOwn _ e = ⊥

-- one that BEGIN opened, inside a statement: COMMIT or a ROLLBACK without a name ends it
abbrev pub EndsOpened : End → Kind → Type 0
EndsOpened unfixed kind = Unit {0}
EndsOpened (committed n) commit = Unit {0}
EndsOpened (committed n) _ = ⊥
EndsOpened (ended n back) commit = back ≡ false
EndsOpened (ended n back) roll_back = back ≡ true
EndsOpened (ended n back) _ = ⊥

-- and at the session's end
abbrev pub EndsLeaving : End → Type 0
EndsLeaving unfixed = Unit {0}
EndsLeaving (committed n) = ⊥
EndsLeaving (ended n back) = back ≡ true

module _ (q : Meaning) where
  -- ---- what is to be shown

  -- where no transaction is open
  abbrev pub shown_outside : Kind → Text → StatementProgress → List Fact
  shown_outside kind text (answering r def) = facts_outside q kind text r None
  shown_outside kind text _ = []

  -- in a transaction that BEGIN opened, at its BEGIN and later
  abbrev pub shown_inside : Kind → Text → StatementProgress → List Fact
  shown_inside kind text (answering (reply.Begun id) def) = began id true ∷ []
  shown_inside kind text (answering r def) = facts_inside q kind text r None
  shown_inside kind text (refused r) = facts_inside q kind text r None
  shown_inside kind text _ = []

  -- in a transaction of its own
  abbrev pub shown_alone : Text → StatementProgress → List Fact
  shown_alone text (answering r def) = answer_facts q text r
  shown_alone text (refused r) = answer_facts q text r
  shown_alone text _ = []

  abbrev pub shown_with : Bool → ℕ → Text → StatementProgress → List Fact
  shown_with true id text stage = shown_inside (kind_of (q.reads text)) text stage
  shown_with false id text stage = began id false ∷ shown_alone text stage

  abbrev pub shown_in : Text → StatementProgress → Option OpenTransaction → List Fact
  shown_in text stage None = shown_outside (kind_of (q.reads text)) text stage
  shown_in text stage (Some o) = shown_with o.explicit o.id text stage ++ end_shown o.end

  abbrev pub shown_at : SessionStatus → Option OpenTransaction → List Fact
  shown_at between o = []
  shown_at (inside text stage) o = shown_in text stage o
  shown_at leaving None = []
  shown_at leaving (Some o) = end_shown o.end

  -- the transaction of a BEGIN among the entries so far
  abbrev pub open_before : SessionStatus → Option OpenTransaction → Option ℕ
  open_before place None = None
  open_before (inside text stage) (Some o) = if o.explicit then
      (if is_begin stage then None else Some o.id) else None
  open_before place (Some o) = if o.explicit then Some o.id else None

  -- ---- which replies may come

  -- so many images were answered before. Where no transaction is open
  pub record FitsOutside (n : ℕ) (text : Text) (r : Reply) : Type 0 where
    pub plain : begun_by r ≡ None
    pub in_place : InPlace q None n (statement text r None)

  -- a transaction of its own, whatever its end line is
  pub record FitsOwn (n : ℕ) (text : Text) (r : Reply) : Type 0 where
    pub plain : begun_by r ≡ None
    pub no_image : image_by r ≡ 0
    pub in_place : (line : EndLine) → InPlace q None n (statement text r (Some line))

  -- in one that BEGIN opened: at that BEGIN, and later
  abbrev pub FitsOpened : ℕ → Text → ℕ → End → Reply → Type 0
  FitsOpened n text id e (reply.Begun i) = (i ≡ id) × (e ≡ unfixed)
      × InPlace q None n (statement text (reply.Begun i) None)
  FitsOpened n text id e r = InPlace q (Some id) n (statement text r (line_of id e))

  -- it is neither E20 nor NoMemory
  abbrev pub IsSaid : Text → Reply → Type 0
  IsSaid text r = answer_facts q text r ≡ said (text, q.writes r) ∷ []

  abbrev pub ProgressOutside : ℕ → Text → StatementProgress → Type 0
  ProgressOutside n text (answering r def) = FitsOutside n text r
  ProgressOutside n text _ = Unit {0}

  abbrev pub ProgressOwn : ℕ → Text → StatementProgress → Type 0
  ProgressOwn n text (answering r def) = FitsOwn n text r
  ProgressOwn n text (refused r) = FitsOwn n text r
  ProgressOwn n text (replied r) = FitsOwn n text r × IsSaid text r
  ProgressOwn n text (going_back seq cells) = ⊥
  ProgressOwn n text _ = Unit {0}

  abbrev pub ProgressOpened : ℕ → Text → ℕ → End → StatementProgress → Type 0
  ProgressOpened n text id e (answering r def) = FitsOpened n text id e r
  ProgressOpened n text id e (refused r) = FitsOpened n text id e r
  ProgressOpened n text id e (found named fresh) = kind_of (q.reads text) ≡ rows
  ProgressOpened n text id e (going_back seq cells) = kind_of (q.reads text) ≡ to_savepoint
  ProgressOpened n text id e _ = Unit {0}

  abbrev pub FitsWith : Bool → ℕ → Text → StatementProgress → ℕ → End → Type 0
  FitsWith true n text stage id e = EndsOpened e (kind_of (q.reads text)) × ProgressOpened n text id e stage
  FitsWith false n text stage id e = EndsOwn (kind_of (q.reads text)) e × ProgressOwn n text stage

  abbrev pub Fits : ℕ → SessionStatus → Option OpenTransaction → Type 0
  Fits n between o = Unit {0}
  Fits n (inside text stage) None = ProgressOutside n text stage
  Fits n (inside text stage) (Some o) = FitsWith o.explicit n text stage o.id o.end
  Fits n leaving None = ⊥
  Fits n leaving (Some o) = (o.explicit ≡ true) × EndsLeaving o.end

  -- the transcript of a session is that of the one at the seat
  pub record IsTranscript (k : TranscriptSoFar) (s : Session) : Type 0 where
    pub pending : k.pending ≡ shown_at s.place s.open_one
    pub statements : Each IsStatement k.entries
    pub open_before : open_at_end None k.entries ≡ open_before s.place s.open_one
    pub images : images_of 0 k.entries + image_at s.place ≡ length s.images
    pub fits : Fits (images_of 0 k.entries) s.place s.open_one
