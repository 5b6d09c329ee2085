-- How the session of a committed transaction goes on, and ends.
use Rattle.std.proofs.Common.{◌≡◌, ℕ, ◌+◌, Bool, true, false, List, [], ◌∷◌, ◌++◌, map, Option, Some, None, refl, sym, ap, ◌∙◌, subst, inl, inr, append_assoc, append-nil}
use Rattle.sql_types.specs.declared.journal.JournalItem.{JournalItem}
use Rattle.sql_types.specs.declared.journal.JournalItem.TheVariants.{Tx}
use Rattle.sql_types.specs.declared.reply.Reply.{Reply}
use Rattle.sql_types.specs.declared.reply.Reply.TheVariants as reply
use Rattle.spec_model.specs.Journals.{Line, tx_count}
use Rattle.spec_model.specs.Replies.{reply_text}
use Rattle.spec_model.specs.Script.{Reading, State, by_statement, script_from, text_step}
use Rattle.spec_history.specs.Lists.{Text, Each}
use Rattle.spec_history.specs.Meaning.{Meaning}
use Rattle.spec_history.specs.Transactions.{unfixed, committed, on_some}
use Rattle.spec_history.specs.Transcripts.{Entry, Kind, create, rows, commit, statement, kind_of, committed_at, EndLine}
use Rattle.spec_history.specs.Facts.{Fact, began, said, placed, over, answer_facts, facts_inside, facts_outside, entry_facts, open_after, open_at_end}
use Rattle.spec_history.specs.InPlace.{EndsInside, EndsOutside, ControlledBy, HasItsForm, ReadOnlyEnd, InPlace}
use Rattle.sql_value.specs.declared.refusal.Refusal.TheVariants.{SyntaxError, NoTransaction, AlreadyInTransaction, ForbiddenInTransaction}
use Rattle.spec_history.specs.Acts.{SessionAct, takes, says, commits, releases_locks, answers}
use Rattle.spec_history.specs.Serial.{serial, ScriptReplays}
use Rattle.spec_history.specs.Sessions.{runs, gone, SessionState, SessionTransaction, fresh, acted, drawn, scripts, fixes}
use Rattle.spec_history.specs.Worlds.{item_of}
use Rattle.spec_history.specs.Guards.{IsAnswered, IsStatement, Answers, AtRest, ReleasesLocks, images_of}
use Rattle.spec_history.proofs.Follow.{open_append}
use Rattle.spec_history.proofs.Trace.{each_append, each_weaker}
use Rattle.law_retold.specs.Retold.{Words, EndsNone, begins_own, says_each, commits_at, says_own}
use Rattle.law_retold.proofs.Begins.{acted_all, begun}
use Rattle.law_retold.proofs.Fitting.{none_begun, IsOwnKind, IsOwn, FitsInside, fits_inside, never, no_control, NoControl, plain_said}
use Rattle.law_retold.proofs.OneSession.{MayAll, MayCommit, grown}

-- the item is behind the journal, the next id as it was, and the session is over
pub record Done (J : List JournalItem) (n : ℕ) (name : Text) (K : List JournalItem) (m : ℕ) (x : SessionState) : Type 0 where
  pub items : K ≡ J
  pub next : m ≡ n
  pub phase : x.phase ≡ gone
  pub free : x.transaction ≡ None
  pub named : x.name ≡ name

-- ---- inside a transaction that BEGIN opened

-- between two statements of it, after these
pub record IsInside (id : ℕ) (name : Text) (lines : List Line) (x : SessionState) : Type 0 where
  pub phase : x.phase ≡ runs
  pub named : x.name ≡ name
  pub d : SessionTransaction
  pub has : x.transaction ≡ Some d
  pub of_id : d.id ≡ id
  pub explicit : d.explicit ≡ true
  pub script : d.script ≡ lines
  pub open_end : d.fixed ≡ unfixed
  pub answered : Each (IsAnswered d.answered) d.asked
  pub under : x.so_far.under ≡ None
  pub pending : x.so_far.pending ≡ []
  pub statements : Each IsStatement x.so_far.entries
  pub open_one : open_at_end None x.so_far.entries ≡ Some id

pub begun_inside : (c : Words) (name : Text) (id : ℕ) → IsInside id name [] (begun c name id)
begun_inside c name id = record {
  phase = refl;
  named = refl;
  d = drawn id true;
  has = refl;
  of_id = refl;
  explicit = refl;
  script = refl;
  open_end = refl;
  answered = tt;
  under = refl;
  pending = refl;
  statements = (tt, tt);
  open_one = refl;
}

more_answered : (l : Text × Bool) (answered asked : List (Text × Bool)) → Each (IsAnswered answered) asked → Each (IsAnswered (l ∷ answered)) asked
more_answered l answered asked h = each_weaker (IsAnswered answered) (IsAnswered (l ∷ answered)) (λ x k. record { flag = k.flag; is = inr k.is; table = λ e. inr (k.table e) }) asked h

module _ (q : Meaning) (reads : Reading) (reading : (text : Text) → q.reads text ≡ reads text) (writes : (r : Reply) → q.writes r ≡ reply_text r) where
  -- ---- statement by statement

  -- the replies of the texts of these lines
  abbrev pub replied : ℕ → State → List Line → List Reply
  replied id s [] = []
  replied id s (l ∷ ls) = (by_statement true id s (reads l.0)).1 ∷ replied id (by_statement true id s (reads l.0)).0 ls

  pub replied_same : (id : ℕ) (s : State) (lines : List Line) → (script_from reads true id s (map (λ l. l.0) lines)).replies ≡ replied id s lines
  unfolding script_from text_step
  replied_same id s [] = refl
  replied_same id s (l ∷ ls) = ap (λ (rs : List Reply). (by_statement true id s (reads l.0)).1 ∷ rs) (replied_same id (by_statement true id s (reads l.0)).0 ls)

  module _ (id : ℕ) (name : Text) where
    -- a statement has been taken up and is said
    abbrev saying : SessionState → Line → SessionState
    saying x l = acted (acted x (takes l.0)) (says l)

    module _ (before : List Line) (x : SessionState) (i : IsInside id name before x) (l : Line) (r : Reply) (fits : FitsInside q id (images_of 0 x.so_far.entries) l.0 r) (is : l.1 ≡ q.writes r) where
      one_answers : Answers q (saying x l) (statement l.0 r None)
      one_answers = record {
        running = i.phase;
        none_ended = i.statements;
        answered = refl;
        shows = ap (λ (p : List Fact). p ++ said l ∷ []) i.pending
            ∙ ap (λ (t : Text). said (l.0, t) ∷ []) is
            ∙ sym fits.shows
            ∙ ap (λ (o : Option ℕ). entry_facts q o (statement l.0 r None)) (sym i.open_one);
        in_place = subst (λ (o : Option ℕ). InPlace q o (images_of 0 x.so_far.entries) (statement l.0 r None)) (sym i.open_one) fits.in_place;
      }

      one_inside : IsInside id name (before ++ l ∷ []) (acted (saying x l) (answers (statement l.0 r None)))
      one_inside = record {
        phase = i.phase;
        named = i.named;
        d = scripts l i.d;
        has = ap (on_some (scripts l)) i.has;
        of_id = i.of_id;
        explicit = i.explicit;
        script = ap (λ (ls : List Line). ls ++ l ∷ []) i.script;
        open_end = i.open_end;
        answered = (record { flag = true; is = inl refl; table = λ e. inl refl }, more_answered (l.0, true) i.d.answered i.d.asked i.answered);
        under = refl;
        pending = refl;
        statements = each_append IsStatement x.so_far.entries (statement l.0 r None ∷ []) i.statements (tt, tt);
        open_one = open_append None x.so_far.entries (statement l.0 r None ∷ []) ∙ ap (λ (o : Option ℕ). open_after o (statement l.0 r None)) i.open_one;
      }

    module _ (P : List JournalItem → ℕ → SessionState → Type 0) (J : List JournalItem) (n : ℕ) (rest : List SessionAct) where
      pub lines_may : (s : State) (before lines : List Line) (x : SessionState) → IsInside id name before x
          → map (λ l. l.1) lines ≡ map reply_text (replied id s lines) → Each (λ l. EndsNone (kind_of (reads l.0))) lines
          → ((y : SessionState) → IsInside id name (before ++ lines) y → MayAll q P J n y rest)
          → MayAll q P J n x (says_each lines (replied id s lines) ++ rest)
      lines_may s before [] x i e h k = k x (subst (λ (ls : List Line). IsInside id name ls x) (sym (append-nil before)) i)
      lines_may s before (l ∷ ls) x i e h k =
          let r : Reply = (by_statement true id s (reads l.0)).1 in
          let both : l.1 ∷ map (λ z. z.1) ls ≡ reply_text (by_statement true id s (reads l.0)).1 ∷ map reply_text (replied id (by_statement true id s (reads l.0)).0 ls) = e in
          let one : l.1 ≡ reply_text (by_statement true id s (reads l.0)).1 = cc in
          let others : map (λ z. z.1) ls ≡ map reply_text (replied id (by_statement true id s (reads l.0)).0 ls) = cc in
          let is : l.1 ≡ q.writes r = one ∙ sym (writes r) in
          let fits = fits_inside q id (images_of 0 x.so_far.entries) l.0 id s (reads l.0) (reading l.0) h.0 in (
            (i.phase, i.under, i.pending, i.statements),
            (
              (i.d, record { runs = i.phase; has = i.has; unfixed = i.open_end }, λ f. absurd (let g : true ≡ false = sym i.explicit ∙ f in cc)),
              (
                one_answers before x i l r fits is,
                lines_may (by_statement true id s (reads l.0)).0 (before ++ l ∷ []) ls (acted (saying x l) (answers (statement l.0 r None))) (one_inside before x i l r fits is) others h.1
                    (λ y j. k y (subst (λ (ks : List Line). IsInside id name ks y) (append_assoc before (l ∷ []) ls) j)),
              ),
            ),
          )

-- ---- COMMIT

module _ (q : Meaning) (c : Words) (is_commit : kind_of (q.reads c.commit_text) ≡ commit) (id time place : ℕ) (name : Text) (lines : List Line) (J : List JournalItem) (n : ℕ)
    (agrees : ScriptReplays q (serial q q.first J) id true lines) (last : place ≡ tx_count J + 1) (y : SessionState) (i : IsInside id name lines y) where
  abbrev committing : SessionState
  committing = acted y (takes c.commit_text)

  abbrev freed : SessionState
  freed = acted (acted committing (commits time place)) releases_locks

  abbrev entry : Entry
  entry = statement c.commit_text reply.NoOutput (Some (committed_at id place))

  may_commit : MayCommit q J committing place
  may_commit = record {
    mine = i.d;
    stands = record { runs = i.phase; has = i.has; unfixed = i.open_end };
    agrees = subst (λ (ls : List Line). ScriptReplays q (serial q q.first J) i.d.id i.d.explicit ls) (sym i.script)
        (subst (λ (b : Bool). ScriptReplays q (serial q q.first J) i.d.id b lines) (sym i.explicit)
        (subst (λ (k : ℕ). ScriptReplays q (serial q q.first J) k true lines) (sym i.of_id) agrees));
    last = last;
  }

  releases : ReleasesLocks q (acted committing (commits time place))
  releases = record {
    mine = fixes (committed place) i.d;
    running = i.phase;
    has = ap (on_some (fixes (committed place))) i.has;
    fixed = tt;
    all_answered = i.answered;
  }

  commit_in_place : InPlace q (Some id) (images_of 0 y.so_far.entries) entry
  commit_in_place = record {
    open_ended = tt;
    ends = subst (λ (k : Kind). EndsInside k id reply.NoOutput (Some (committed_at id place))) (sym is_commit) refl;
    controlled = subst (λ (k : Kind). ControlledBy (Some id) (images_of 0 y.so_far.entries) k reply.NoOutput) (sym is_commit) (record {
      none_open = ((λ e. cc), (λ e. cc));
      begun_twice = ((λ e. cc), (λ e. cc));
      not_inside = ((λ e. cc), (λ e. cc));
      unread_outside = tt;
      third_image = tt;
      begins = tt;
    });
    else_no_memory = subst (λ (k : Kind). ReadOnlyEnd k reply.NoOutput (Some (committed_at id place))) (sym is_commit) refl;
  }

  commit_answers : Answers q freed entry
  commit_answers = record {
    running = i.phase;
    none_ended = i.statements;
    answered = refl;
    shows = ap (λ (p : List Fact). (p ++ placed place ∷ []) ++ over ∷ []) i.pending
        ∙ sym (ap (λ (k : Kind). facts_inside q k c.commit_text reply.NoOutput (Some (committed_at id place))) is_commit)
        ∙ ap (λ (o : Option ℕ). entry_facts q o entry) (sym i.open_one);
    in_place = subst (λ (o : Option ℕ). InPlace q o (images_of 0 y.so_far.entries) entry) (sym i.open_one) commit_in_place;
  }

  comes_to_rest : AtRest (acted freed (answers entry))
  comes_to_rest = record {
    idle = refl;
    shown = refl;
    none_open = open_append None y.so_far.entries (entry ∷ []) ∙ ap (λ (o : Option ℕ). open_after o entry) i.open_one;
    free = refl;
  }

  item_is : item_of committing committing.transaction time ≡ Tx id name time true lines ∷ []
  item_is = ap (λ (o : Option SessionTransaction). item_of committing o time) i.has
      ∙ ap (λ (k : ℕ). Tx k y.name time i.d.explicit i.d.script ∷ []) i.of_id
      ∙ ap (λ (t : Text). Tx id t time i.d.explicit i.d.script ∷ []) i.named
      ∙ ap (λ (b : Bool). Tx id name time b i.d.script ∷ []) i.explicit
      ∙ ap (λ (ls : List Line). Tx id name time true ls ∷ []) i.script

  abbrev After : List JournalItem → ℕ → SessionState → Type 0
  After = Done (J ++ Tx id name time true lines ∷ []) n name

  pub commit_may : MayAll q After J n y (commits_at c id time place)
  commit_may = (
    (i.phase, i.under, i.pending, i.statements),
    (
      may_commit,
      (
        releases,
        (
          commit_answers,
          (
            (i.phase, comes_to_rest),
            record {
              items = ap (grown J) item_is;
              next = refl;
              phase = refl;
              free = refl;
              named = i.named;
            },
          ),
        ),
      ),
    ),
  )

-- ---- a transaction of its own

module _ (q : Meaning) (id time place : ℕ) (name : Text) (l : Line) (r : Reply) (J : List JournalItem) (n : ℕ)
    (agrees : ScriptReplays q (serial q q.first J) id false (l ∷ [])) (last : place ≡ tx_count J + 1) (is : l.1 ≡ q.writes r) (own : IsOwn (q.reads l.0) r) where
  abbrev line : EndLine
  line = committed_at id place

  abbrev own_entry : Entry
  own_entry = statement l.0 r (Some line)

  abbrev started : SessionState
  started = acted_all fresh (begins_own name l.0 id)

  abbrev own_freed : SessionState
  own_freed = acted (acted (acted started (says l)) (commits time place)) releases_locks

  plain : NoControl r
  plain = no_control r own.plain

  own_controlled : (k : Kind) → IsOwnKind k → ControlledBy None 0 k r
  own_controlled create h = record { none_open = never NoTransaction r plain.not_no_transaction; begun_twice = never AlreadyInTransaction r plain.not_already_in; not_inside = never ForbiddenInTransaction r plain.not_forbidden_in; unread_outside = never SyntaxError r plain.not_syntax_error; third_image = tt; begins = tt }
  own_controlled rows h = record { none_open = never NoTransaction r plain.not_no_transaction; begun_twice = never AlreadyInTransaction r plain.not_already_in; not_inside = never ForbiddenInTransaction r plain.not_forbidden_in; unread_outside = never SyntaxError r plain.not_syntax_error; third_image = tt; begins = tt }
  own_controlled k h = absurd h

  own_ends : (k : Kind) → IsOwnKind k → EndsOutside k (Some line) × HasItsForm k r (Some line)
      × (facts_outside q k l.0 r (Some line) ≡ began id false ∷ answer_facts q l.0 r ++ placed place ∷ over ∷ [])
  own_ends create h = (tt, tt, refl)
  own_ends rows h = (tt, tt, refl)
  own_ends k h = absurd h

  own_in_place : InPlace q None 0 own_entry
  own_in_place = let k : Kind = kind_of (q.reads l.0) in record {
    open_ended = tt;
    ends = (own_ends k own.kind).0;
    controlled = own_controlled k own.kind;
    else_no_memory = (own_ends k own.kind).1;
  }

  own_answers : Answers q own_freed own_entry
  own_answers = record {
    running = refl;
    none_ended = tt;
    answered = refl;
    shows = ap (λ (t : Text). began id false ∷ said (l.0, t) ∷ placed place ∷ over ∷ []) is
        ∙ ap (λ (gs : List Fact). began id false ∷ gs ++ placed place ∷ over ∷ []) (sym (plain_said q l.0 r own.plain))
        ∙ sym (own_ends (kind_of (q.reads l.0)) own.kind).2;
    in_place = own_in_place;
  }

  pub own_may : MayAll q (Done (J ++ Tx id name time false (l ∷ []) ∷ []) n name) J n started (says_own (l ∷ []) (r ∷ []) id time place)
  own_may = (
    (drawn id false, record { runs = refl; has = refl; unfixed = refl }, λ e. (refl, tt)),
    (
      record { mine = scripts l (drawn id false); stands = record { runs = refl; has = refl; unfixed = refl }; agrees = agrees; last = last },
      (
        record { mine = fixes (committed place) (scripts l (drawn id false)); running = refl; has = refl; fixed = tt; all_answered = (record { flag = true; is = inl refl; table = λ e. inl refl }, tt) },
        (
          own_answers,
          (
            (refl, record { idle = refl; shown = refl; none_open = none_begun r own.plain; free = refl }),
            record { items = refl; next = refl; phase = refl; free = refl; named = refl },
          ),
        ),
      ),
    ),
  )
