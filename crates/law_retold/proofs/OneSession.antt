-- What a session does one act after another, told by itself.
use Rattle.std.proofs.Common.{◌≡◌, ◌≢◌, ℕ, suc, ◌+◌, Bool, false, List, [], ◌∷◌, ◌++◌, map, None, refl, sym, ap, ◌∙◌, subst, arith, append-nil}
use Rattle.std.proofs.lemmas.Bool.{ne_eqb, eq-eqb}
use Rattle.std.specs.Prelude.{◌==◌, if◌then◌else◌}
use Rattle.std.proofs.Common.{inr}
use Rattle.sql_types.specs.declared.journal.JournalItem.{JournalItem}
use Rattle.spec_model.specs.Journals.{tx_count}
use Rattle.spec_history.specs.Lists.{Text, Each}
use Rattle.spec_history.specs.Digests.{Digest}
use Rattle.spec_history.specs.Meaning.{Meaning}
use Rattle.spec_history.specs.Serial.{texts_of, replies_of, serial, ScriptReplays}
use Rattle.spec_history.specs.Acts.{SessionAct, starts, takes, assigns_id, looks, says, fails, meets, commits, ends, releases_locks, issues, keeps, lacks, answers, stops, by, of}
use Rattle.spec_history.specs.Sessions.{runs, SessionTransaction, SessionState, fresh, acted}
use Rattle.spec_history.specs.Worlds.{World, items_by, ids_by, issued_by, step, run}
use Rattle.spec_history.specs.Guards.{HasOpenTransaction, OnlyOne, IsStatement, Answers, AtRest, NoTable, ReleasesLocks, IsEnabledFor, Good}
use Rattle.spec_history.proofs.Trace.{one_more}
use Rattle.law_retold.specs.Retold.{KeepsNone}

-- the items with these behind them
abbrev pub grown : List JournalItem → List JournalItem → List JournalItem
grown J [] = J
grown J (i ∷ is) = J ++ i ∷ is

grown_same : (J K : List JournalItem) → J ++ K ≡ grown J K
grown_same J [] = append-nil J
grown_same J (i ∷ is) = refl

abbrev pub next_by : ℕ → SessionAct → ℕ
next_by n (assigns_id id explicit) = suc n
next_by n _ = n

next_same : (n : ℕ) (a : SessionAct) → n + ids_by a ≡ next_by n a
next_same n (starts name) = omega arith
next_same n (takes text) = omega arith
next_same n (assigns_id id explicit) = omega arith
next_same n (looks text table) = omega arith
next_same n (says line) = omega arith
next_same n (fails text) = omega arith
next_same n (meets text holder) = omega arith
next_same n (commits time place) = omega arith
next_same n (ends m back) = omega arith
next_same n releases_locks = omega arith
next_same n (issues d mark) = omega arith
next_same n (keeps items mark) = omega arith
next_same n lacks = omega arith
next_same n (answers entry) = omega arith
next_same n stops = omega arith

module _ (q : Meaning) where
  -- a commit, but for what it asks of other sessions
  pub record MayCommit (J : List JournalItem) (x : SessionState) (place : ℕ) : Type 0 where
    pub mine : SessionTransaction
    pub stands : HasOpenTransaction x mine
    pub agrees : ScriptReplays q (serial q q.first J) mine.id mine.explicit mine.script
    pub last : place ≡ tx_count J + 1

  pub record MayEnd (J : List JournalItem) (x : SessionState) (n : ℕ) (back : Bool) : Type 0 where
    pub mine : SessionTransaction
    pub stands : HasOpenTransaction x mine
    pub replies : replies_of mine.script ≡ q.replies mine.explicit (serial q q.first J) mine.id (texts_of mine.script)
    pub quiet : back ≡ false → q.events mine.explicit (serial q q.first J) mine.id (texts_of mine.script) ≡ 0
    pub last : n ≡ tx_count J

  -- the acts of such a history, where the journal has these items and this id is the next
  abbrev pub May : List JournalItem → ℕ → SessionState → SessionAct → Type 0
  May J n x (starts name) = x ≡ fresh
  May J n x (takes text) =
      (x.phase ≡ runs) × (x.so_far.under ≡ None) × (x.so_far.pending ≡ []) × Each IsStatement x.so_far.entries
  May J n x (assigns_id id explicit) = (x.phase ≡ runs) × (x.transaction ≡ None) × (id ≡ n)
  May J n x (says line) = (d : SessionTransaction) × HasOpenTransaction x d × OnlyOne d line.0
  May J n x (commits time place) = MayCommit J x place
  May J n x (ends m back) = MayEnd J x m back
  May J n x releases_locks = ReleasesLocks q x
  May J n x (answers entry) = Answers q x entry
  May J n x stops = (x.phase ≡ runs) × AtRest x
  May J n x _ = ⊥

  -- one after another, and then this holds
  abbrev pub MayAll : (List JournalItem → ℕ → SessionState → Type 0) → List JournalItem → ℕ → SessionState → List SessionAct → Type 0
  MayAll P J n x [] = P J n x
  MayAll P J n x (a ∷ xs) = May J n x a × MayAll P (grown J (items_by x a)) (next_by n a) (acted x a) xs

  issues_none : (J : List JournalItem) (n : ℕ) (x : SessionState) (a : SessionAct) → May J n x a → issued_by a ≡ []
  issues_none J n x (starts name) m = refl
  issues_none J n x (takes text) m = refl
  issues_none J n x (assigns_id id explicit) m = refl
  issues_none J n x (looks text table) m = refl
  issues_none J n x (says line) m = refl
  issues_none J n x (fails text) m = refl
  issues_none J n x (meets text holder) m = refl
  issues_none J n x (commits time place) m = refl
  issues_none J n x (ends k back) m = refl
  issues_none J n x releases_locks m = refl
  issues_none J n x (issues d mark) m = absurd m
  issues_none J n x (keeps items mark) m = refl
  issues_none J n x lacks m = refl
  issues_none J n x (answers entry) m = refl
  issues_none J n x stops m = refl

  keeps_no_image : (J : List JournalItem) (n : ℕ) (x : SessionState) (a : SessionAct) → May J n x a → KeepsNone a
  keeps_no_image J n x (starts name) m = tt
  keeps_no_image J n x (takes text) m = tt
  keeps_no_image J n x (assigns_id id explicit) m = tt
  keeps_no_image J n x (looks text table) m = tt
  keeps_no_image J n x (says line) m = tt
  keeps_no_image J n x (fails text) m = tt
  keeps_no_image J n x (meets text holder) m = tt
  keeps_no_image J n x (commits time place) m = tt
  keeps_no_image J n x (ends k back) m = tt
  keeps_no_image J n x releases_locks m = tt
  keeps_no_image J n x (issues d mark) m = tt
  keeps_no_image J n x (keeps items mark) m = m
  keeps_no_image J n x lacks m = tt
  keeps_no_image J n x (answers entry) m = tt
  keeps_no_image J n x stops m = tt

  module _ (db : Text) where
    -- what others are asked for a commit
    abbrev pub OthersFree : World → ℕ → Type 0
    OthersFree w s = (t : ℕ) → t ≢ s → NoTable q (w.at t).transaction

    enabled : (w : World) (s : ℕ) (a : SessionAct) → OthersFree w s → May w.items w.next (w.at s) a → IsEnabledFor q db w s a
    enabled w s (starts name) free m = m
    enabled w s (takes text) free m = m
    enabled w s (assigns_id id explicit) free m = m
    enabled w s (looks text table) free m = absurd m
    enabled w s (says line) free m = m
    enabled w s (fails text) free m = absurd m
    enabled w s (meets text holder) free m = absurd m
    enabled w s (commits time place) free m = record { mine = m.mine; stands = m.stands; agrees = m.agrees; last = m.last; others = inr free }
    enabled w s (ends k back) free m = record { mine = m.mine; stands = m.stands; replies = m.replies; quiet = m.quiet; last = m.last }
    enabled w s releases_locks free m = m
    enabled w s (issues d mark) free m = absurd m
    enabled w s (keeps items mark) free m = absurd m
    enabled w s lacks free m = absurd m
    enabled w s (answers entry) free m = m
    enabled w s stops free m = m

    -- ---- the world behind one act

    pub here : (w : World) (s : ℕ) (a : SessionAct) → (step w (by s a)).at s ≡ acted (w.at s) a
    here w s a = ap (λ (b : Bool). if b then acted (w.at s) a else w.at s) (eq-eqb s s refl)

    pub elsewhere : (w : World) (s t : ℕ) (a : SessionAct) → t ≢ s → (step w (by s a)).at t ≡ w.at t
    elsewhere w s t a ne = ap (λ (b : Bool). if b then acted (w.at s) a else w.at t) (ne_eqb t s ne)

    -- ---- and behind several

    -- what they came to: the journal, the next id and the session are so, and all else is xs it was
    pub record CameTo (w : World) (s : ℕ) (xs : List SessionAct) (P : List JournalItem → ℕ → SessionState → Type 0) : Type 0 where
      pub good : Good q db w (map (by s) xs)
      pub holds : P (run w (map (by s) xs)).items (run w (map (by s) xs)).next ((run w (map (by s) xs)).at s)
      pub issued : (run w (map (by s) xs)).issued ≡ w.issued
      pub others : (t : ℕ) → t ≢ s → (run w (map (by s) xs)).at t ≡ w.at t
      pub keep : (t : ℕ) → Each KeepsNone (of t (map (by s) xs))

    -- what may follow may follow in the world behind the first act
    may_then : (w : World) (s : ℕ) (a : SessionAct) (xs : List SessionAct) (P : List JournalItem → ℕ → SessionState → Type 0)
        → MayAll P (grown w.items (items_by (w.at s) a)) (next_by w.next a) (acted (w.at s) a) xs
        → MayAll P (step w (by s a)).items (step w (by s a)).next ((step w (by s a)).at s) xs
    may_then w s a xs P m = subst (λ (y : SessionState). MayAll P (w.items ++ items_by (w.at s) a) (w.next + ids_by a) y xs) (sym (here w s a))
        (subst (λ (n : ℕ). MayAll P (w.items ++ items_by (w.at s) a) n (acted (w.at s) a) xs) (sym (next_same w.next a))
        (subst (λ (K : List JournalItem). MayAll P K (next_by w.next a) (acted (w.at s) a) xs) (sym (grown_same w.items (items_by (w.at s) a))) m))

    still_free : (w : World) (s : ℕ) (a : SessionAct) → OthersFree w s → OthersFree (step w (by s a)) s
    still_free w s a free t ne = subst (λ (y : SessionState). NoTable q y.transaction) (sym (elsewhere w s t a ne)) (free t ne)

    pub comes : (w : World) (s : ℕ) (xs : List SessionAct) (P : List JournalItem → ℕ → SessionState → Type 0)
        → OthersFree w s → MayAll P w.items w.next (w.at s) xs → CameTo w s xs P
    comes w s [] P free m = record { good = tt; holds = m; issued = refl; others = λ t ne. refl; keep = λ t. tt }
    comes w s (a ∷ xs) P free m = let rest = comes (step w (by s a)) s xs P (still_free w s a free) (may_then w s a xs P m.1) in record {
      good = (enabled w s a free m.0, rest.good);
      holds = rest.holds;
      issued = rest.issued ∙ ap (λ (G : List Digest). w.issued ++ G) (issues_none w.items w.next (w.at s) a m.0) ∙ append-nil w.issued;
      others = λ t ne. rest.others t ne ∙ elsewhere w s t a ne;
      keep = λ t. one_more KeepsNone (s == t) a (of t (map (by s) xs)) (keeps_no_image w.items w.next (w.at s) a m.0) (rest.keep t);
    }
