-- The items follow, one after another.
use Rattle.std.proofs.Common.{◌≡◌, ◌≢◌, ℕ, zero, suc, ◌+◌, ◌<◌, ◌≤◌, Bool, true, false, List, [], ◌∷◌, ◌++◌, map, length, Option, Some, None, refl, sym, ap, ◌∙◌, subst, ⊎_elim, inl, inr, arith, append_assoc, append-nil}
use Rattle.std.specs.Prelude.{if◌then◌else◌}
use Rattle.std.specs.List.{AllByRecursion}
use Rattle.std.proofs.lemmas.Bool.{cases_eq, eq-eqb, ne_eqb, eqb-true}
use Rattle.sql_types.specs.declared.event.Event.{Event}
use Rattle.sql_types.specs.declared.journal.JournalItem.{JournalItem}
use Rattle.sql_types.specs.declared.journal.JournalItem.TheVariants.{Tx, Close}
use Rattle.sql_types.specs.declared.reply.Reply.{Reply}
use Rattle.sql_types.specs.declared.statement.Stmt.{Stmt}
use Rattle.sql_types.specs.JournalRules.{is_alone}
use Rattle.spec_model.specs.Catalog.{Tables}
use Rattle.spec_model.specs.Events.{all_events}
use Rattle.spec_model.specs.Journals.{Line, tx_count, closed, IsOther, AgreesWith, after_item, IsLegalFrom, IsLegal}
use Rattle.spec_model.specs.Limits.{max_block}
use Rattle.spec_model.specs.Replies.{reply_text}
use Rattle.spec_model.specs.Runs.{Sound}
use Rattle.spec_model.specs.Script.{Reading, ScriptEnd, by_statement, text_step, script_from, script, start}
use Rattle.spec_model.specs.SystemTables.{first_tables}
use Rattle.law_frame.proofs.LegalSound.{first_part, last_one}
use Rattle.law_frame.proofs.OtherTransactions.{others_sound}
use Rattle.law_frame.proofs.SoundStatements.{first_sound}
use Rattle.spec_history.specs.Journals.{ids_of}
use Rattle.spec_history.specs.Lists.{Text, Each, In}
use Rattle.spec_history.specs.Meaning.{Meaning}
use Rattle.spec_history.specs.Real.{Hashing, IsReal}
use Rattle.spec_history.specs.Serial.{texts_of, serial, ScriptReplays, Differ}
use Rattle.spec_history.specs.Transcripts.{begin, commit, kind_of}
use Rattle.spec_history.specs.Acts.{SessionAct, Act, by, closes, of}
use Rattle.spec_history.specs.Sessions.{SessionState, fresh}
use Rattle.spec_history.specs.Worlds.{World, first, run}
use Rattle.spec_history.specs.Guards.{NoTable}
use Rattle.spec_history.proofs.Cuts.{of_append}
use Rattle.law_history.proofs.Legality.{one_legality}
use Rattle.spec_history.proofs.Stable.{serial_append}
use Rattle.spec_history.proofs.Trace.{count_append}
use Rattle.law_retold.specs.Retold as told
use Rattle.law_retold.specs.Retold.{Words, AreWords, EndsNone, TxCanBeRetold, CanBeRetold, ToldTx, retold_as, tx_with, opening, telling, retold, tells, name_told, LeadsTo}
use Rattle.law_retold.proofs.Begins.{begun}
use Rattle.law_retold.proofs.Drawn.{drew}
use Rattle.law_retold.proofs.Fitting.{IsOwn, own_one}
use Rattle.law_retold.proofs.Goes.{Goes, goes_on, not_of}
use Rattle.law_retold.proofs.OneSession.{MayAll, CameTo, comes}
use Rattle.law_retold.proofs.Openings.{opened, IsDone, OverIfNone, over_if_none, opened_name, Below, all_open, first_below, opening_of}
use Rattle.law_retold.proofs.Tells.{Done, begun_inside, replied, replied_same, lines_may, commit_may, own_may}

-- ---- the items of a journal are found by their ids

abbrev IsFound : List JournalItem → JournalItem → Type 0
IsFound J (Tx id session time explicit lines) = tx_with id J ≡ Some (retold_as session explicit lines)
IsFound J (Close k) = Unit {0}

behind_tx : (id : ℕ) (session : Text) (time : ℕ) (explicit : Bool) (lines : List Line) (J K : List JournalItem) → Each (λ k. id ≢ k) (ids_of K) → Each (IsFound J) K → Each (IsFound (Tx id session time explicit lines ∷ J)) K
behind_tx id session time explicit lines J [] ne h = tt
behind_tx id session time explicit lines J (Tx other name ticks by_begin script ∷ K) ne h = (
  ap (λ (b : Bool). if b then Some (retold_as session explicit lines) else tx_with other J) (ne_eqb id other ne.0) ∙ h.0,
  behind_tx id session time explicit lines J K ne.1 h.1,
)
behind_tx id session time explicit lines J (Close k ∷ K) ne h = (tt, behind_tx id session time explicit lines J K ne h.1)

behind_close : (k : ℕ) (J K : List JournalItem) → Each (IsFound J) K → Each (IsFound (Close k ∷ J)) K
behind_close k J [] h = tt
behind_close k J (Tx other name ticks by_begin script ∷ K) h = (h.0, behind_close k J K h.1)
behind_close k J (Close n ∷ K) h = (tt, behind_close k J K h.1)

all_found : (J : List JournalItem) → Differ (ids_of J) → Each (IsFound J) J
all_found [] d = tt
all_found (Tx id session time explicit lines ∷ J) d = (
  ap (λ (b : Bool). if b then Some (retold_as session explicit lines) else tx_with id J) (eq-eqb id id refl),
  behind_tx id session time explicit lines J J d.0 (all_found J d.1),
)
all_found (Close k ∷ J) d = (tt, behind_close k J J (all_found J d))

-- an id that isn't among them isn't found
not_found : (id : ℕ) (J : List JournalItem) → (In id (ids_of J) → ⊥) → tx_with id J ≡ None
not_found id [] lacks_it = refl
not_found id (Tx other session time explicit lines ∷ J) lacks_it =
    ap (λ (b : Bool). if b then Some (retold_as session explicit lines) else tx_with id J) (ne_eqb other id (λ e. lacks_it (inl e)))
    ∙ not_found id J (λ i. lacks_it (inr i))
not_found id (Close k ∷ J) lacks_it = not_found id J lacks_it

differs_in : (id t : ℕ) (ids : List ℕ) → Each (λ k. id ≢ k) ids → In t ids → id ≢ t
differs_in id t [] d i = absurd i
differs_in id t (k ∷ ids) d i = ⊎_elim (λ (e : k ≡ t). λ f. d.0 (f ∙ sym e)) (λ (j : In t ids). differs_in id t ids d.1 j) i

one_line : (lines : List Line) → is_alone false lines ≡ true → (l : Line) × (lines ≡ l ∷ [])
one_line [] e = cc
one_line (l ∷ []) e = (l, refl)
one_line (l ∷ k ∷ ls) e = absurd (let two : length (l ∷ k ∷ ls) ≡ 1 = eqb-true (length (l ∷ k ∷ ls)) 1 e in omega (arith, two))

some_events : (es : List Event) → es ≢ [] → 0 < length es
some_events [] h = absurd (h refl)
some_events (e ∷ es) h = omega arith

module _ (reads : Reading) (h : Hashing) (q : Meaning) (real : IsReal reads h q) (c : Words) (words : AreWords reads c) where
  is_begin : kind_of (q.reads c.begin_text) ≡ begin
  is_begin = ap kind_of (real.reading c.begin_text ∙ words.begins)

  is_commit : kind_of (q.reads c.commit_text) ≡ commit
  is_commit = ap kind_of (real.reading c.commit_text ∙ words.commits)

  none_replied : (T : Tables) (id : ℕ) → (script reads true T id []).replies ≡ []
  unfolding script_from
  none_replied T id = refl

  no_replies : (T : Tables) (id : ℕ) → q.replies true T id [] ≡ []
  no_replies T id = real.replies true T id [] ∙ ap (map reply_text) (none_replied T id)

  -- ---- a transaction

  replays : (T : Tables) (id : ℕ) (explicit : Bool) (lines : List Line) → AgreesWith reads T id explicit lines (script reads explicit T id (map (λ l. l.0) lines)) → ScriptReplays q T id explicit lines
  replays T id explicit lines a = record {
    replies = a.replies ∙ sym (real.replies explicit T id (texts_of lines));
    acts = subst (λ (n : ℕ). 0 < n) (sym (real.events explicit T id (texts_of lines))) (some_events _ a.events);
  }

  -- of one statement
  abbrev end_alone : Tables → ℕ → Text → ScriptEnd
  end_alone T id t = record { state = (by_statement false id (start T) (reads t)).0; replies = (by_statement false id (start T) (reads t)).1 ∷ [] }

  own_end : (T : Tables) (id : ℕ) (t : Text) → script reads false T id (t ∷ []) ≡ end_alone T id t
  unfolding script_from text_step
  own_end T id t = refl

  module _ (J : List JournalItem) (n time place : ℕ) (name : Text) (last : place ≡ tx_count J + 1) (T : Tables) (now : serial q q.first J ≡ T) (id : ℕ) where
    abbrev Behind : Bool → List Line → List JournalItem → ℕ → SessionState → Type 0
    Behind explicit lines = Done (J ++ Tx id name time explicit lines ∷ []) n name

    abbrev Agrees : Bool → List Line → Type 0
    Agrees explicit lines = AgreesWith reads T id explicit lines (script reads explicit T id (map (λ l. l.0) lines))

    abbrev IsTold : Bool → List Line → Type 0
    IsTold explicit lines = MayAll q (Behind explicit lines) J n (opened c id (Some (retold_as name explicit lines)))
        (tells c id time explicit lines (told.replies_of reads c T id explicit lines) place)

    opened_tells : (lines : List Line) → Agrees true lines → Each (λ l. EndsNone (kind_of (reads l.0))) lines → IsTold true lines
    opened_tells lines a inside = subst (λ (rs : List Reply). MayAll q (Behind true lines) J n (begun c name id) (tells c id time true lines rs place)) (sym same)
        (lines_may q reads real.reading real.writes id name (Behind true lines) J n (told.commits_at c id time place) (start T) [] lines (begun c name id) (begun_inside c name id)
        (a.replies ∙ ap (map reply_text) same) inside
        (λ y i. commit_may q c is_commit id time place name lines J n (subst (λ (U : Tables). ScriptReplays q U id true lines) (sym now) (replays T id true lines a)) last y i))
      where
        same : told.replies_of reads c T id true lines ≡ replied q reads real.reading real.writes id (start T) lines
        same = replied_same q reads real.reading real.writes id (start T) lines

    abbrev reply_alone : Line → Reply
    reply_alone l = (by_statement false id (start T) (reads l.0)).1

    replies_are : (l : Line) → told.replies_of reads c T id false (l ∷ []) ≡ reply_alone l ∷ []
    replies_are l = ap (λ (o : ScriptEnd). o.replies) (own_end T id l.0)

    first_reply : (l : Line) → Agrees false (l ∷ []) → l.1 ≡ reply_text (reply_alone l)
    first_reply l a = let e : l.1 ∷ [] ≡ reply_text (reply_alone l) ∷ [] = a.replies ∙ ap (map reply_text) (replies_are l) in cc

    some_left : (l : Line) → Agrees false (l ∷ []) → all_events id (by_statement false id (start T) (reads l.0)).0.tables ≢ []
    some_left l a e = a.events (ap (λ (o : ScriptEnd). all_events id o.state.tables) (own_end T id l.0) ∙ e)

    own_tells : (l : Line) → Sound id 0 T → Agrees false (l ∷ []) → IsTold false (l ∷ [])
    own_tells l sound a = subst (λ (rs : List Reply). MayAll q (Behind false (l ∷ [])) J n (opened c id (Some (retold_as name false (l ∷ [])))) (tells c id time false (l ∷ []) rs place)) (sym (replies_are l))
        (own_may q id time place name l (reply_alone l) J n (subst (λ (U : Tables). ScriptReplays q U id false (l ∷ [])) (sym now) (replays T id false (l ∷ []) a)) last (first_reply l a ∙ sym (real.writes (reply_alone l)))
        (subst (λ (o : Option Stmt). IsOwn o (reply_alone l)) (sym (real.reading l.0)) (own_one T id (reads l.0) sound (some_left l a))))

    tx_tells : (count : ℕ) (explicit : Bool) (lines : List Line) → TxCanBeRetold reads count id explicit lines → Sound id 0 T → Agrees explicit lines → IsTold explicit lines
    tx_tells count true lines may sound a = opened_tells lines a (may.inside refl)
    tx_tells count false lines may sound a = let one = one_line lines may.alone in
        subst (λ (ls : List Line). IsTold false ls) (sym one.1) (own_tells one.0 sound (subst (λ (ls : List Line). Agrees false ls) one.1 a))

  -- ---- all items

  module _ (db : Text) (J : List JournalItem) (count : ℕ) where
    -- the items so far were told, and these are still to come
    pub record ToldTo (before rest : List JournalItem) (w : World) : Type 0 where
      pub items : w.items ≡ before
      pub next : w.next ≡ suc count
      pub issued : w.issued ≡ []
      pub waiting : (t : ℕ) → In (suc t) (ids_of rest) → w.at t ≡ opened c (suc t) (tx_with (suc t) J)
      pub over : (t : ℕ) → t < count → (In (suc t) (ids_of rest) → ⊥) → IsDone (w.at t)
      pub names : (t : ℕ) → t < count → (w.at t).name ≡ name_told c (tx_with (suc t) J)
      pub others : (t : ℕ) → count ≤ t → w.at t ≡ fresh
      pub free : (t : ℕ) → NoTable q (w.at t).transaction

    -- sound for each transaction that isn't among these
    abbrev SoundForOthers : List JournalItem → Tables → Type 0
    SoundForOthers before T = (id : ℕ) → AllByRecursion (IsOther id) before → Sound id 0 T

    module _ (before rest : List JournalItem) (T : Tables) (s : ℕ) (session : Text) (time : ℕ) (explicit : Bool) (lines : List Line) (place : ℕ) (w : World) where
      abbrev item : JournalItem
      item = Tx (suc s) session time explicit lines

      abbrev acts : List SessionAct
      acts = tells c (suc s) time explicit lines (told.replies_of reads c T (suc s) explicit lines) place

      abbrev v : World
      v = run w (map (by s) acts)

      module _ (now : serial q q.first before ≡ T) (at_place : place ≡ suc (tx_count before)) (agrees : AgreesWith reads T (suc s) explicit lines (script reads explicit T (suc s) (map (λ l. l.0) lines)))
          (sound : Sound (suc s) 0 T) (found : tx_with (suc s) J ≡ Some (retold_as session explicit lines))
          (may : TxCanBeRetold reads count (suc s) explicit lines) (differ : Each (λ k. suc s ≢ k) (ids_of rest)) (b : ToldTo before (item ∷ rest) w) where
        abbrev After : List JournalItem → ℕ → SessionState → Type 0
        After = Done (before ++ item ∷ []) (suc count) session

        may_all : MayAll q After w.items w.next (w.at s) acts
        may_all = subst (λ (x : SessionState). MayAll q After w.items w.next x acts) (sym (b.waiting s (inl refl) ∙ ap (opened c (suc s)) found))
            (subst (λ (m : ℕ). MayAll q After w.items m (opened c (suc s) (Some (retold_as session explicit lines))) acts) (sym b.next)
            (subst (λ (K : List JournalItem). MayAll q After K (suc count) (opened c (suc s) (Some (retold_as session explicit lines))) acts) (sym b.items)
            (tx_tells before (suc count) time place session (omega (arith, at_place)) T now (suc s) count explicit lines may sound agrees)))

        came : CameTo q db w s acts After
        came = comes q db w s acts After (λ t ne. b.free t) may_all

        kept : (P : SessionState → Type 0) (t : ℕ) → t ≢ s → P (w.at t) → P (v.at t)
        kept P t ne p = subst P (sym (came.others t ne)) p

        not_it : (t : ℕ) → In (suc t) (ids_of rest) → t ≢ s
        not_it t i e = differs_in (suc s) (suc t) (ids_of rest) differ i (ap suc (sym e))

        over_then : (t : ℕ) → t < count → (In (suc t) (ids_of rest) → ⊥) → IsDone (v.at t)
        over_then t l lacks_it = ⊎_elim
            (λ (e : t ≡ s). subst (λ (k : ℕ). IsDone (v.at k)) (sym e) (came.holds.phase, came.holds.free))
            (λ (ne : t ≢ s). kept IsDone t ne (b.over t l (λ i. ⊎_elim (λ (e : suc s ≡ suc t). ne (omega (arith, e))) lacks_it i))) (cases_eq t s)

        names_then : (t : ℕ) → t < count → (v.at t).name ≡ name_told c (tx_with (suc t) J)
        names_then t l = ⊎_elim
            (λ (e : t ≡ s). subst (λ (k : ℕ). (v.at k).name ≡ name_told c (tx_with (suc k) J)) (sym e) (came.holds.named ∙ sym (ap (name_told c) found)))
            (λ (ne : t ≢ s). kept (λ x. x.name ≡ name_told c (tx_with (suc t) J)) t ne (b.names t l)) (cases_eq t s)

        free_then : (t : ℕ) → NoTable q (v.at t).transaction
        free_then t = ⊎_elim
            (λ (e : t ≡ s). subst (λ (k : ℕ). NoTable q (v.at k).transaction) (sym e) (subst (NoTable q) (sym came.holds.free) tt))
            (λ (ne : t ≢ s). kept (λ x. NoTable q x.transaction) t ne (b.free t)) (cases_eq t s)

        within_count : s < count
        within_count = let m = may.most in omega (arith, m)

        pub one_told : Goes q db w (map (by s) acts) (ToldTo (before ++ item ∷ []) rest)
        one_told = record {
          good = came.good;
          leads = record {
            items = came.holds.items;
            next = came.holds.next;
            issued = came.issued ∙ b.issued;
            waiting = λ t i. kept (λ x. x ≡ opened c (suc t) (tx_with (suc t) J)) t (not_it t i) (b.waiting t (inr i));
            over = over_then;
            names = names_then;
            others = λ t l. kept (λ x. x ≡ fresh) t (λ e. let k = within_count in omega (arith, e, l, k)) (b.others t l);
            free = free_then;
          };
          keep = came.keep;
        }

        tables_then : serial q q.first (before ++ item ∷ []) ≡ after_item reads T item
        tables_then = serial_append q q.first before (item ∷ []) ∙ ap (λ (U : Tables). q.after explicit U (suc s) (texts_of lines)) now ∙ real.after explicit T (suc s) (texts_of lines)

    -- a closing
    module _ (before rest : List JournalItem) (k : ℕ) (w : World) (b : ToldTo before (Close k ∷ rest) w) (may : (1 ≤ k) × (k ≤ max_block) × (closed before + k ≤ tx_count before)) where
      pub one_closed : Goes q db w (closes k ∷ []) (ToldTo (before ++ Close k ∷ []) rest)
      one_closed = record {
        good = ((may.0, may.1, subst (λ (K : List JournalItem). closed K + k ≤ tx_count K) (sym b.items) may.2), tt);
        leads = record {
          items = ap (λ (K : List JournalItem). K ++ Close k ∷ []) b.items;
          next = b.next;
          issued = b.issued;
          waiting = b.waiting;
          over = b.over;
          names = b.names;
          others = b.others;
          free = b.free;
        };
        keep = λ t. tt;
      }

    sound_then : (before : List JournalItem) (T : Tables) (id : ℕ) (session : Text) (time : ℕ) (explicit : Bool) (lines : List Line) → AllByRecursion (IsOther id) before
        → SoundForOthers before T → SoundForOthers (before ++ Tx id session time explicit lines ∷ []) (after_item reads T (Tx id session time explicit lines))
    sound_then before T own session time explicit lines new sound id others =
        others_sound own id 0 (last_one (IsOther id) before (Tx own session time explicit lines) others) reads explicit T (map (λ l. l.0) lines)
        (sound own new) (sound id (first_part (IsOther id) before (Tx own session time explicit lines ∷ []) others))

    all_told : (before rest : List JournalItem) (T : Tables) (place : ℕ) (w : World) → serial q q.first before ≡ T → place ≡ suc (tx_count before) → IsLegalFrom reads before T rest
        → Differ (ids_of rest) → Each (IsFound J) rest → Each (CanBeRetold reads count) rest → SoundForOthers before T → ToldTo before rest w
        → Goes q db w (telling reads c T place rest) (ToldTo (before ++ rest) [])
    all_told before [] T place w now at_place legal differ found may sound b = record { good = tt; leads = subst (λ (K : List JournalItem). ToldTo K [] w) (sym (append-nil before)) b; keep = λ t. tt }
    all_told before (Tx zero session time explicit lines ∷ rest) T place w now at_place legal differ found may sound b = absurd (let m = may.0.some in omega (arith, m))
    all_told before (Tx (suc s) session time explicit lines ∷ rest) T place w now at_place legal differ found may sound b =
        let item : JournalItem = Tx (suc s) session time explicit lines in
        let own : Sound (suc s) 0 T = sound (suc s) legal.0.1 in
        subst (λ (K : List JournalItem). Goes q db w (telling reads c T place (item ∷ rest)) (ToldTo K [])) (append_assoc before (item ∷ []) rest)
        (goes_on q db w (map (by s) (acts before rest T s session time explicit lines place w)) (telling reads c (after_item reads T item) (suc place) rest) (ToldTo (before ++ item ∷ []) rest) (ToldTo ((before ++ item ∷ []) ++ rest) [])
        (one_told before rest T s session time explicit lines place w now at_place legal.0.0 own found.0 may.0 differ.0 b)
        (λ v d. all_told (before ++ item ∷ []) rest (after_item reads T item) (suc place) v
        (tables_then before rest T s session time explicit lines place w now at_place legal.0.0 own found.0 may.0 differ.0 b)
        (omega (arith, at_place, count_append before (item ∷ []))) legal.1 differ.1 found.1 may.1 (sound_then before T (suc s) session time explicit lines legal.0.1 sound) d))
    all_told before (Close k ∷ rest) T place w now at_place legal differ found may sound b =
        subst (λ (K : List JournalItem). Goes q db w (telling reads c T place (Close k ∷ rest)) (ToldTo K [])) (append_assoc before (Close k ∷ []) rest)
        (goes_on q db w (closes k ∷ []) (telling reads c T place rest) (ToldTo (before ++ Close k ∷ []) rest) (ToldTo ((before ++ Close k ∷ []) ++ rest) [])
        (one_closed before rest k w b legal.0)
        (λ v d. all_told (before ++ Close k ∷ []) rest T place v (serial_append q q.first before (Close k ∷ []) ∙ now)
        (omega (arith, at_place, count_append before (Close k ∷ []))) legal.1 differ found.1 may.1 (λ id others. sound id (first_part (IsOther id) before (Close k ∷ []) others)) d))

    -- nobody else does anything
    telling_of : (rest : List JournalItem) (T : Tables) (place t : ℕ) → count ≤ t → Each (CanBeRetold reads count) rest → of t (telling reads c T place rest) ≡ []
    telling_of [] T place t l may = refl
    telling_of (Tx zero session time explicit lines ∷ rest) T place t l may = absurd (let m = may.0.some in omega (arith, m))
    telling_of (Tx (suc s) session time explicit lines ∷ rest) T place t l may =
        let mine : List SessionAct = tells c (suc s) time explicit lines (told.replies_of reads c T (suc s) explicit lines) place in
        let next : List Act = telling reads c (after_item reads T (Tx (suc s) session time explicit lines)) (suc place) rest in
        of_append t (map (by s) mine) next
        ∙ ap (λ (xs : List SessionAct). xs ++ of t next) (not_of s t mine (λ e. let m = may.0.most in omega (arith, e, l, m)))
        ∙ telling_of rest (after_item reads T (Tx (suc s) session time explicit lines)) (suc place) t l may.1
    telling_of (Close k ∷ rest) T place t l may = telling_of rest T place t l may.1

    -- ---- both

    module _ (legal : IsLegal reads J) (may : Each (CanBeRetold reads count) J) where
      ids_differ : Differ (ids_of J)
      ids_differ = ((one_legality reads h q real J).1 legal).ids_differ

      opened_told : (w : World) → Below c J q (0 + count) w → ToldTo [] J w
      opened_told w b = record {
        items = b.items;
        next = b.next ∙ (let e : suc (0 + count) ≡ suc count = omega arith in e);
        issued = b.issued;
        waiting = waits;
        over = λ t l lacks_it. subst IsDone (sym (b.below t (omega (arith, l))))
            (subst (λ (o : Option ToldTx). OverIfNone o (opened c (suc t) (tx_with (suc t) J))) (not_found (suc t) J lacks_it) (over_if_none c (suc t) (tx_with (suc t) J)));
        names = λ t l. ap (λ (x : SessionState). x.name) (b.below t (omega (arith, l))) ∙ opened_name c (suc t) (tx_with (suc t) J);
        others = λ t l. b.others t (omega (arith, l));
        free = b.free;
      }
        where
          within : (K : List JournalItem) → Each (CanBeRetold reads count) K → (id : ℕ) → In id (ids_of K) → id ≤ count
          within [] m id i = absurd i
          within (Tx other session time explicit lines ∷ K) m id i = ⊎_elim (λ (e : other ≡ id). let k = m.0.most in omega (arith, e, k)) (λ (j : In id (ids_of K)). within K m.1 id j) i
          within (Close k ∷ K) m id i = within K m.1 id i

          waits : (t : ℕ) → In (suc t) (ids_of J) → w.at t ≡ opened c (suc t) (tx_with (suc t) J)
          waits t i = let k = within J may (suc t) i in b.below t (omega (arith, k))

      pub all_goes : Goes q db first (retold reads c J count) (ToldTo J [])
      all_goes = goes_on q db first (opening c J 0 count) (telling reads c first_tables 1 J) (Below c J q (0 + count)) (ToldTo J [])
          (all_open q db c J is_begin no_replies 0 count first (first_below c J q))
          (λ w b. all_told [] J first_tables 1 w real.first refl legal ids_differ (all_found J ids_differ) may (λ id none. first_sound id 0) (opened_told w b))

      pub leads : LeadsTo c J count (retold reads c J count)
      leads = let g = all_goes in record {
        items = g.leads.items;
        next = g.leads.next;
        issued = g.leads.issued;
        over = λ n l. (g.leads.over n l (λ i. i)).0;
        free = λ n l. (g.leads.over n l (λ i. i)).1;
        names = λ n l. g.leads.names n l;
        no_others = λ n l. (
          g.leads.others n l,
          of_append n (opening c J 0 count) (telling reads c first_tables 1 J)
              ∙ ap (λ (xs : List SessionAct). xs ++ of n (telling reads c first_tables 1 J)) (opening_of c J 0 count n (omega (arith, l)))
              ∙ telling_of J first_tables 1 n l may,
        );
        keeps_none = g.keep;
        drew = λ n l. drew c J count n (telling reads c first_tables 1 J) l;
      }
