-- What holds at each moment of a history, also of sessions that are inside a statement.
use Rattle.std.specs.Prelude.{ℕ, ◌≡◌, ◌≢◌, ◌<◌, ◌≤◌, ◌==◌, Bool, List, [], ◌∷◌, ◌++◌, None}
use Rattle.sql_types.specs.declared.journal.JournalItem.{JournalItem}
use Rattle.sql_types.specs.declared.journal.JournalItem.TheVariants.{Tx, Close}
use Rattle.spec_history.specs.Lists.{Text, Each, Some_of, In, sum_from}
use Rattle.spec_history.specs.Meaning.{Meaning}
use Rattle.spec_history.specs.Serial.{IsLegal}
use Rattle.spec_history.specs.Facts.{Fact, began, met, over, no_digest, mark_of, id_of, Shows, first_shown, facts}
use Rattle.spec_history.specs.InPlace.{Throughout, InPlace}
use Rattle.spec_history.specs.Transactions.{transactions}
use Rattle.spec_history.specs.Marks.{MarksRise, IdsRise, ImagesHave, NoneCounted}
use Rattle.spec_history.specs.Digests.{IsDigest, of_block, replies_of_block, BlocksRise}
use Rattle.spec_history.specs.Refusals.{IsInside, Within}
use Rattle.spec_history.specs.Agree.{picked, committed_ones, IsEndedOver, ShowsHash}
use Rattle.spec_history.specs.Sessions.{SessionState}
use Rattle.spec_history.specs.Worlds.{World}
use Rattle.spec_history.specs.WantClashes.{ClashesWithId}

-- what a session's entries show, and what is to be shown of the statement in which it stands
abbrev pub facts_so_far : Meaning → World → ℕ → List Fact
facts_so_far q w s = facts q None (w.at s).so_far.entries ++ (w.at s).so_far.pending

-- ---- names

-- the transaction has the name of the session of its id
abbrev pub IsNamed : (ℕ → ℕ) → (ℕ → SessionState) → JournalItem → Type 0
IsNamed session at (Tx id name time explicit script) = name ≡ (at (session id)).name
IsNamed session at (Close k) = Unit {0}

-- ---- refusals for a lock

-- no facts, or first that the transaction is over
abbrev pub StartsOver : List Fact → Type 0
StartsOver [] = Unit {0}
StartsOver (over ∷ gs) = Unit {0}
StartsOver (g ∷ gs) = ⊥

-- where the transaction of this id stands among these facts: to their end, or until it is over
pub record Among (id : ℕ) (gs : List Fact) : Type 0 where
  pub explicit : Bool
  pub before : List Fact
  pub inside : List Fact
  pub rest : List Fact
  pub is : gs ≡ before ++ began id explicit ∷ inside ++ rest
  pub all_inside : Each IsInside inside
  pub ends : StartsOver rest

-- the holder stands among these facts of its session, and transaction `mine` is refused between those
pub record MetBetween (J : List JournalItem) (earlier later : List Fact) (mine holder : ℕ)
    (gs : List Fact) : Type 0 where
  pub among : Among holder gs
  -- marks before the refusal are at most the first mark of the holder's session after the holder, if there is
  -- one
  pub marks_before : Shows (mark_of J) (λ m. Each (λ k. m ≤ k) (first_shown (mark_of J) among.rest)) earlier
  -- and those of the holder's session before the holder at most the first mark after the refusal
  pub marks_of_holder : Shows (mark_of J)
      (λ m. Each (λ k. m ≤ k) (first_shown (mark_of J) later)) among.before
  -- the next id of the refused session is above the holder, and that of the holder's session above the
  -- refused one
  pub next_of_refused : Each (λ i. holder < i) (first_shown id_of later)
  pub next_of_holder : Each (λ i. mine < i) (first_shown id_of among.rest)

-- a refusal: the clash stands over the tables at the holder's end or, until that is fixed, those of the
-- journal
pub record MetRightly (q : Meaning) (w : World) (s : ℕ) (text : Text) (holder : ℕ)
    (earlier later : List Fact) : Type 0 where
  pub mine : ℕ
  pub explicit : Bool
  pub within : Within mine explicit earlier
  pub other : ℕ
  pub differs : other ≢ s
  pub against : ClashesWithId q w.items (w.at other) holder explicit text
  pub between : MetBetween w.items earlier later mine holder (facts_so_far q w other)

-- ---- all

-- the rules of agreement, of all that was shown so far; a session's transactions are those with its ids
pub record AgreeSoFar (q : Meaning) (database : Text) (w : World) : Type 0 where
  pub session : ℕ → ℕ
  pub ids : (s : ℕ) → Shows id_of (λ id. (1 ≤ id) × (id < w.next) × (session id ≡ s)) (facts_so_far q w s)
  pub all_ids_assigned : (id : ℕ) → 1 ≤ id → id < w.next
      → Some_of (λ g. In id (id_of g)) (facts_so_far q w (session id))
  pub ids_rise : (s : ℕ) → IdsRise (facts_so_far q w s)
  pub legal : IsLegal q w.items
  pub items : (s : ℕ)
      → picked (λ id name. session id == s) 0 w.items ≡ committed_ones (transactions (facts_so_far q w s))
  pub names : Each (IsNamed session w.at) w.items
  pub ended : (s : ℕ) → Each (λ u. IsEndedOver q w.items u u.end) (transactions (facts_so_far q w s))
  pub marks_rise : (s : ℕ) → MarksRise w.items (facts_so_far q w s)
  pub images : (s : ℕ) → ImagesHave w.items (facts_so_far q w s)
  pub shown : (s : ℕ) → Each (ShowsHash q w.items) (facts_so_far q w s)
  pub issued : Each (IsDigest q database w.items) w.issued
  pub blocks_rise : BlocksRise w.issued
  -- only the first sessions, so many, have shown anything; they were given as many digests of each block as
  -- there are
  pub count : ℕ
  pub no_others : (s : ℕ) → count ≤ s → facts_so_far q w s ≡ []
  pub as_many : (b : ℕ)
      → of_block b w.issued ≡ sum_from 0 count (λ s. replies_of_block b (facts_so_far q w s))
  -- NothingCommitted comes only where every mark before it in its transcript is 0
  pub none_counted : (s : ℕ) (before after : List Fact) → facts_so_far q w s ≡ before ++ no_digest ∷ after
      → NoneCounted w.items before
  pub in_place : (s : ℕ) → Throughout (InPlace q) None 0 (w.at s).so_far.entries
  pub refusals : (s : ℕ) (text : Text) (holder : ℕ) (earlier later : List Fact)
      → facts_so_far q w s ≡ earlier ++ met text holder ∷ later → MetRightly q w s text holder earlier later
