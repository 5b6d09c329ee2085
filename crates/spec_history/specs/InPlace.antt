-- Where end lines and refusals may stand: rules on one entry, by whether a transaction that BEGIN opened is
-- open.
use Rattle.std.specs.Prelude.{ℕ, ◌≡◌, ◌⊎◌, ◌+◌, ◌==◌, ◌&&◌, Bool, true, false, List, [], ◌∷◌, Option, Some, None}
use Rattle.sql_value.specs.declared.refusal.Refusal.{Refusal}
use Rattle.sql_value.specs.declared.refusal.Refusal.TheVariants.{SyntaxError, NoTransaction, AlreadyInTransaction, LimitExceeded, ForbiddenInTransaction, NothingCommitted, NoMemory}
use Rattle.sql_types.specs.declared.reply.Reply.{Reply}
use Rattle.sql_types.specs.declared.reply.Reply.TheVariants as reply
use Rattle.spec_history.specs.Meaning.{Meaning}
use Rattle.spec_history.specs.Transcripts.{EndLine, committed_at, ended_after, Entry, statement, end_of_session, ended_id, Kind, unread, begin, commit, roll_back, to_savepoint, create, rows, issue, keep, kind_of}
use Rattle.spec_history.specs.Facts.{open_after}

-- ---- a rule on each entry of a transcript

abbrev pub image_by : Reply → ℕ
image_by (reply.Image items) = 1
image_by _ = 0

abbrev pub images_after : ℕ → Entry → ℕ
images_after n (statement text r end) = n + image_by r
images_after n (end_of_session end) = n

-- a rule for each entry, by the transaction that is open there and the number of images answered before
abbrev pub Throughout : (Option ℕ → ℕ → Entry → Type 0) → Option ℕ → ℕ → List Entry → Type 0
Throughout P o n [] = Unit {0}
Throughout P o n (e ∷ es) = P o n e × Throughout P (open_after o e) (images_after n e) es

-- ---- (end)

-- an entry (end) ends the transaction that is open
abbrev pub EndsOpen : Option ℕ → ℕ → Entry → Type 0
EndsOpen o n (statement text r end) = Unit {0}
EndsOpen o n (end_of_session end) = o ≡ Some (ended_id end)

-- (end) is the last entry
abbrev pub EndIsLast : List Entry → Type 0
EndIsLast [] = Unit {0}
EndIsLast (statement text r end ∷ es) = EndIsLast es
EndIsLast (end_of_session end ∷ es) = es ≡ []

-- ---- end lines

abbrev pub NotCommitted : EndLine → Type 0
NotCommitted (committed_at id place) = ⊥
NotCommitted (ended_after id n) = Unit {0}

-- while the transaction of this id is open: a COMMIT or a ROLLBACK without a name ends it, with its id, or is
-- answered NoMemory; nothing else ends it, and `committed` stands at a COMMIT
abbrev pub EndsInside : Kind → ℕ → Reply → Option EndLine → Type 0
EndsInside commit id r (Some end) = ended_id end ≡ id
EndsInside commit id r None = r ≡ reply.Refused NoMemory
EndsInside roll_back id r (Some end) = (ended_id end ≡ id) × NotCommitted end
EndsInside roll_back id r None = r ≡ reply.Refused NoMemory
EndsInside _ id r end = end ≡ None

-- and else: only a statement that is a transaction of its own has an end line
abbrev pub EndsOutside : Kind → Option EndLine → Type 0
EndsOutside create end = Unit {0}
EndsOutside rows end = Unit {0}
EndsOutside _ end = end ≡ None

-- ---- refusals of transaction control

-- this refusal comes exactly where it is due, or it is NoMemory
abbrev pub ComesAt : Refusal → Bool → Reply → Type 0
ComesAt e due r =
    (r ≡ reply.Refused e → due ≡ true) × (due ≡ true → (r ≡ reply.Refused e) ⊎ (r ≡ reply.Refused NoMemory))

abbrev pub is_open : Option ℕ → Bool
is_open None = false
is_open (Some id) = true

-- COMMIT, SAVE TRANSACTION and ROLLBACK need an open transaction
abbrev pub needs_open : Kind → Bool
needs_open commit = true
needs_open roll_back = true
needs_open to_savepoint = true
needs_open _ = false

-- CREATE, the digest statement and SAVE IMAGE need that none is open
abbrev pub needs_none : Kind → Bool
needs_none create = true
needs_none issue = true
needs_none keep = true
needs_none _ = false

abbrev pub is_begin : Kind → Bool
is_begin begin = true
is_begin _ = false

abbrev pub is_unread : Kind → Bool
is_unread unread = true
is_unread _ = false

abbrev pub not_open : Option ℕ → Bool
not_open None = true
not_open (Some id) = false

-- SyntaxError outside a transaction comes for what is no statement
abbrev pub UnreadOutside : Option ℕ → Kind → Reply → Type 0
UnreadOutside None k r = ComesAt SyntaxError (is_unread k) r
UnreadOutside (Some id) k r = Unit {0}

-- LimitExceeded of SAVE IMAGE comes where the session has two images
abbrev pub ThirdImage : Option ℕ → ℕ → Kind → Reply → Type 0
ThirdImage o n keep r = ComesAt LimitExceeded (not_open o && (n == 2)) r
ThirdImage o n _ r = Unit {0}

-- BEGIN otherwise answers its id or, with no transaction begun, NoMemory
abbrev pub Begins : Option ℕ → Kind → Reply → Type 0
Begins None begin r = ((id : ℕ) × (r ≡ reply.Begun id)) ⊎ (r ≡ reply.Refused NoMemory)
Begins _ _ r = Unit {0}

pub record ControlledBy (o : Option ℕ) (n : ℕ) (k : Kind) (r : Reply) : Type 0 where
  pub none_open : ComesAt NoTransaction (not_open o && needs_open k) r
  pub begun_twice : ComesAt AlreadyInTransaction (is_open o && is_begin k) r
  pub not_inside : ComesAt ForbiddenInTransaction (is_open o && needs_none k) r
  pub unread_outside : UnreadOutside o k r
  pub third_image : ThirdImage o n k r
  pub begins : Begins o k r

-- ---- all other replies

abbrev pub IsNoMemory : Reply → Type 0
IsNoMemory r = r ≡ reply.Refused NoMemory

-- what a statement outside a transaction, which is none itself, may be answered but a refusal of transaction
-- control
abbrev pub HasItsForm : Kind → Reply → Option EndLine → Type 0
HasItsForm issue (reply.Digest block hash) end = Unit {0}
HasItsForm issue (reply.Refused NothingCommitted) end = Unit {0}
HasItsForm issue r end = IsNoMemory r
HasItsForm keep (reply.Image items) end = Unit {0}
HasItsForm keep (reply.Refused LimitExceeded) end = Unit {0}
HasItsForm keep r end = IsNoMemory r
-- a statement that has drawn an id has an end line
HasItsForm create r None = IsNoMemory r
HasItsForm rows r None = IsNoMemory r
HasItsForm _ r end = Unit {0}

-- a COMMIT or a ROLLBACK that ends the transaction has no reply lines
abbrev pub ReadOnlyEnd : Kind → Reply → Option EndLine → Type 0
ReadOnlyEnd commit r (Some end) = r ≡ reply.NoOutput
ReadOnlyEnd roll_back r (Some end) = r ≡ reply.NoOutput
ReadOnlyEnd _ r end = Unit {0}

module _ (q : Meaning) where
  abbrev pub EndsWhereItMay : Option ℕ → ℕ → Entry → Type 0
  EndsWhereItMay (Some id) n (statement text r end) = EndsInside (kind_of (q.reads text)) id r end
  EndsWhereItMay None n (statement text r end) = EndsOutside (kind_of (q.reads text)) end
  EndsWhereItMay o n (end_of_session end) = NotCommitted end

  abbrev pub IsControlled : Option ℕ → ℕ → Entry → Type 0
  IsControlled o n (statement text r end) = ControlledBy o n (kind_of (q.reads text)) r
  IsControlled o n (end_of_session end) = Unit {0}

  abbrev pub IsElseNoMemory : Option ℕ → ℕ → Entry → Type 0
  IsElseNoMemory (Some id) n (statement text r end) = ReadOnlyEnd (kind_of (q.reads text)) r end
  IsElseNoMemory None n (statement text r end) = HasItsForm (kind_of (q.reads text)) r end
  IsElseNoMemory o n (end_of_session end) = Unit {0}

  -- all of them
  pub record InPlace (o : Option ℕ) (n : ℕ) (e : Entry) : Type 0 where
    pub open_ended : EndsOpen o n e
    pub ends : EndsWhereItMay o n e
    pub controlled : IsControlled o n e
    pub else_no_memory : IsElseNoMemory o n e
