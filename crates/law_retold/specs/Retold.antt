-- A history that leads to a journal, told from its items alone. Each transaction is a session of its own. All
-- ids are assigned first, in their order, and those that the journal doesn't have are given up there; then the
-- items follow in their order.
use Rattle.std.specs.Prelude.{ℕ, zero, suc, ◌≡◌, ◌<◌, ◌≤◌, ◌==◌, if◌then◌else◌, Bool, true, false, List, [], ◌∷◌, ◌++◌, flat_map, map, Option, Some, None}
use Rattle.sql_types.specs.declared.journal.JournalItem.{JournalItem}
use Rattle.sql_types.specs.declared.journal.JournalItem.TheVariants.{Tx, Close}
use Rattle.sql_types.specs.declared.reply.Reply.{Reply}
use Rattle.sql_types.specs.declared.reply.Reply.TheVariants as reply
use Rattle.sql_types.specs.declared.statement.Stmt.TheVariants as stmt
use Rattle.sql_types.specs.JournalRules.{is_alone}
use Rattle.spec_model.specs.Catalog.{Tables}
use Rattle.spec_model.specs.Journals.{Line, after_item}
use Rattle.spec_model.specs.Script.{Reading, script}
use Rattle.spec_model.specs.SystemTables.{first_tables}
use Rattle.spec_history.specs.Acts.{SessionAct, starts, takes, assigns_id, says, commits, ends, releases_locks, keeps, answers, stops, Act, by, closes, of, assigned_id}
use Rattle.spec_history.specs.Lists.{Each, In, Text}
use Rattle.spec_history.specs.Sessions.{fresh, gone}
use Rattle.spec_history.specs.Transcripts.{Kind, commit, roll_back, committed_at, ended_after, end_of_session, statement, kind_of}
use Rattle.spec_history.specs.Worlds.{first, run}
use Rattle.law_behind.specs.Past.{Past}

-- ---- words

-- what such sessions say besides the statements of the journal: BEGIN and COMMIT; and the name of those whose
-- transaction isn't in the journal
pub record Words : Type 0 where
  pub begin_text : Text
  pub commit_text : Text
  pub name : Text

-- they are read as these
pub record AreWords (reads : Reading) (c : Words) : Type 0 where
  pub begins : reads c.begin_text ≡ Some stmt.Begin
  pub commits : reads c.commit_text ≡ Some stmt.Commit

-- ---- which journals

-- neither COMMIT nor ROLLBACK without a name
abbrev pub EndsNone : Kind → Type 0
EndsNone commit = ⊥
EndsNone roll_back = ⊥
EndsNone _ = Unit {0}

-- a transaction that a transcript can show, with an id up to `count`
pub record TxCanBeRetold (reads : Reading) (count id : ℕ) (explicit : Bool) (lines : List Line) : Type 0 where
  pub some : 1 ≤ id
  pub most : id ≤ count
  pub alone : is_alone explicit lines ≡ true
  pub inside : explicit ≡ true → Each (λ l. EndsNone (kind_of (reads l.0))) lines

abbrev pub CanBeRetold : Reading → ℕ → JournalItem → Type 0
CanBeRetold reads count (Tx id session time explicit lines) = TxCanBeRetold reads count id explicit lines
CanBeRetold reads count (Close k) = Unit {0}

-- ---- how a transaction begins

-- what the journal has of a transaction
pub record ToldTx : Type 0 where
  pub name : Text
  pub explicit : Bool
  pub lines : List Line

abbrev pub retold_as : Text → Bool → List Line → ToldTx
retold_as name explicit lines = record { name = name; explicit = explicit; lines = lines }

abbrev pub tx_with : ℕ → List JournalItem → Option ToldTx
tx_with id [] = None
tx_with id (Tx other session time explicit lines ∷ is) =
    if other == id then Some (retold_as session explicit lines) else tx_with id is
tx_with id (Close k ∷ is) = tx_with id is

abbrev pub first_text : List Line → Text
first_text [] = []
first_text (l ∷ ls) = l.0

abbrev pub begins : Words → Text → ℕ → List SessionAct
begins c name id =
    starts name ∷ takes c.begin_text ∷ assigns_id id true ∷ answers (statement c.begin_text (reply.Begun id) None) ∷ []

abbrev pub begins_own : Text → Text → ℕ → List SessionAct
begins_own name text id = starts name ∷ takes text ∷ assigns_id id false ∷ []

-- it is begun, and the session's end takes it back
abbrev pub gives_up : Words → ℕ → List SessionAct
gives_up c id =
    starts c.name ∷ takes c.begin_text ∷ assigns_id id true ∷ answers (statement c.begin_text (reply.Begun id) None)
    ∷ ends 0 true ∷ releases_locks ∷ answers (end_of_session (ended_after id 0)) ∷ stops ∷ []

abbrev pub opens_tx : Words → ℕ → Text → Bool → List Line → List SessionAct
opens_tx c id name true lines = begins c name id
opens_tx c id name false lines = begins_own name (first_text lines) id

abbrev pub opens : Words → ℕ → Option ToldTx → List SessionAct
opens c id None = gives_up c id
opens c id (Some t) = opens_tx c id t.name t.explicit t.lines

-- so many sessions from number n on; session n is assigned the id behind it
abbrev pub opening : Words → List JournalItem → ℕ → ℕ → List Act
opening c J n zero = []
opening c J n (suc k) = map (by n) (opens c (suc n) (tx_with (suc n) J)) ++ opening c J (suc n) k

-- ---- how it goes on

-- the session that is assigned this id
abbrev pub session_of : ℕ → ℕ
session_of zero = zero
session_of (suc n) = n

-- statement by statement, with these replies
abbrev pub says_each : List Line → List Reply → List SessionAct
says_each [] rs = []
says_each (l ∷ ls) [] = []
says_each (l ∷ ls) (r ∷ rs) = takes l.0 ∷ says l ∷ answers (statement l.0 r None) ∷ says_each ls rs

abbrev pub commits_at : Words → ℕ → ℕ → ℕ → List SessionAct
commits_at c id time place =
    takes c.commit_text ∷ commits time place ∷ releases_locks
    ∷ answers (statement c.commit_text reply.NoOutput (Some (committed_at id place))) ∷ stops ∷ []

abbrev pub says_own : List Line → List Reply → ℕ → ℕ → ℕ → List SessionAct
says_own (l ∷ ls) (r ∷ rs) id time place =
    says l ∷ commits time place ∷ releases_locks ∷ answers (statement l.0 r (Some (committed_at id place)))
    ∷ stops ∷ []
says_own _ _ id time place = []

abbrev pub tells : Words → ℕ → ℕ → Bool → List Line → List Reply → ℕ → List SessionAct
tells c id time true lines replies place = says_each lines replies ++ commits_at c id time place
tells c id time false lines replies place = says_own lines replies id time place

module _ (reads : Reading) (c : Words) where
  abbrev pub replies_of : Tables → ℕ → Bool → List Line → List Reply
  replies_of T id explicit lines = (script reads explicit T id (map (λ l. l.0) lines)).replies

  -- items over these tables, the first transaction at this place
  abbrev pub telling : Tables → ℕ → List JournalItem → List Act
  telling T place [] = []
  telling T place (Tx id session time explicit lines ∷ is) =
      map (by (session_of id)) (tells c id time explicit lines (replies_of T id explicit lines) place)
      ++ telling (after_item reads T (Tx id session time explicit lines)) (suc place) is
  telling T place (Close k ∷ is) = closes k ∷ telling T place is

  abbrev pub retold : List JournalItem → ℕ → List Act
  retold J count = opening c J 0 count ++ telling first_tables 1 J

-- ---- what it leads to

-- this journal, of which ids up to `count` were assigned, as a past
abbrev pub past_of : List JournalItem → ℕ → Past
past_of J count = record { items = J; next = suc count }

-- no image is kept
abbrev pub KeepsNone : SessionAct → Type 0
KeepsNone (keeps items mark) = ⊥
KeepsNone _ = Unit {0}

-- the name of the session with this number
abbrev pub name_told : Words → Option ToldTx → Text
name_told c None = c.name
name_told c (Some t) = t.name

-- to this journal, the id above `count` and no digest; the sessions below `count` are over, and there are no
-- others
pub record LeadsTo (c : Words) (J : List JournalItem) (count : ℕ) (history : List Act) : Type 0 where
  pub items : (run first history).items ≡ J
  pub next : (run first history).next ≡ suc count
  pub issued : (run first history).issued ≡ []
  pub over : (n : ℕ) → n < count → ((run first history).at n).phase ≡ gone
  pub free : (n : ℕ) → n < count → ((run first history).at n).transaction ≡ None
  pub names : (n : ℕ) → n < count → ((run first history).at n).name ≡ name_told c (tx_with (suc n) J)
  pub no_others : (n : ℕ) → count ≤ n → ((run first history).at n ≡ fresh) × (of n history ≡ [])
  pub keeps_none : (n : ℕ) → Each KeepsNone (of n history)
  -- each session draws the id behind its number
  pub drew : (n : ℕ) → n < count → In (suc n) (flat_map assigned_id (of n history))
