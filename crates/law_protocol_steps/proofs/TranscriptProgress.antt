-- How a transcript goes on at each visit and step of a seat, by the stage of its statement.
use Rattle.std.proofs.Common.{◌≡◌, ℕ, ◌+◌, Bool, true, false, List, [], ◌∷◌, ◌++◌, length, Option, Some, None, refl, sym, ap, ◌∙◌, subst, inl, append-nil}
use Rattle.std.specs.Prelude.{if◌then◌else◌}
use Rattle.sql_value.specs.declared.refusal.Refusal.{Refusal}
use Rattle.sql_value.specs.declared.refusal.Refusal.TheVariants.{SyntaxError, NoTransaction, AlreadyInTransaction, LimitExceeded, ForbiddenInTransaction, NothingCommitted, NoMemory}
use Rattle.sql_types.specs.declared.reply.Reply.{Reply}
use Rattle.sql_types.specs.declared.reply.Reply.TheVariants as reply
use Rattle.sql_types.specs.declared.table.TableDef.{TableDef}
use Rattle.sql_types.specs.declared.statement.Stmt.{Stmt}
use Rattle.sql_types.specs.declared.statement.Stmt.TheVariants as stmt
use Rattle.sql_types.specs.declared.lock.Mode.TheVariants.{S}
use Rattle.spec_model.specs.Locks.{catalog_request}
use Rattle.spec_model.specs.ScriptRequests.{runs}
use Rattle.spec_history.specs.Lists.{Text}
use Rattle.spec_history.specs.Meaning.{Meaning}
use Rattle.spec_history.specs.Transcripts.{committed_at, ended_after, statement, Kind, unread, begin, commit, roll_back, to_savepoint, create, rows, issue, keep, kind_of}
use Rattle.spec_history.specs.Facts.{Fact, began, said, failed, placed, passed, digest, no_digest, answer_facts, facts_inside, facts_outside}
use Rattle.spec_history.specs.InPlace.{InPlace, ControlledBy, ComesAt, ThirdImage, EndsInside, ReadOnlyEnd, needs_none, is_begin as in_place_begin}
use Rattle.spec_history.specs.Transactions.{End, unfixed, committed, ended}
use Rattle.spec_protocol.specs.Answering.{refused_inside}
use Rattle.spec_protocol.specs.Seats.{OpenTransaction, StatementProgress, begun, found, answering, SessionStatus, inside, leaving, Session}
use Rattle.spec_protocol.specs.Moves.{new_transaction, ending, saying}
use Rattle.spec_protocol.specs.LedgerVisits.{stage_with_id}
use Rattle.spec_protocol.specs.TranscriptsSoFar.{end_shown, line_of, is_begin, image_in, image_at, NotBack, EndsOwn, EndsOpened, shown_inside, shown_alone, shown_with, shown_at, open_before, FitsOutside, FitsOwn, FitsOpened, IsSaid, ProgressOpened, FitsWith, Fits}
use Rattle.law_protocol_steps.proofs.TranscriptActs.{GoesFrom}
use Rattle.law_protocol_steps.proofs.InPlaces.{NoControl, never, comes, outside, within, controlled_inside, fits_own}

-- ---- ends

pub own_end : (k : Kind) (e f : End) → EndsOwn k e → NotBack f → EndsOwn k f
own_end create e f a b = b
own_end rows e f a b = b
own_end unread e f a b = absurd a
own_end begin e f a b = absurd a
own_end commit e f a b = absurd a
own_end roll_back e f a b = absurd a
own_end to_savepoint e f a b = absurd a
own_end issue e f a b = absurd a
own_end keep e f a b = absurd a

-- a table statement is one of its own
pub runs_own : (st : Stmt) → runs false st ≡ true → EndsOwn (kind_of (Some st)) unfixed
runs_own (stmt.Create c) e = tt
runs_own (stmt.Index c) e = tt
runs_own (stmt.Alter a) e = tt
runs_own (stmt.Drop name) e = tt
runs_own (stmt.Change c) e = tt
runs_own (stmt.Select c) e = tt
runs_own stmt.Begin e = cc
runs_own stmt.Commit e = cc
runs_own (stmt.Save name) e = cc
runs_own (stmt.Rollback name) e = cc
runs_own stmt.Digest e = cc
runs_own stmt.Image e = cc

module _ (q : Meaning) where
  -- from one place and transaction to another
  pub record GoesAt (n : ℕ) (p : SessionStatus) (o : Option OpenTransaction) (r : SessionStatus) (u : Option OpenTransaction) (gs : List Fact) : Type 0 where
    pub shown : shown_at q p o ++ gs ≡ shown_at q r u
    pub before : open_before q p o ≡ open_before q r u
    pub images : image_at p ≡ image_at r
    pub fits : Fits q n r u

  pub from_at : (x y : Session) (p : SessionStatus) (o : Option OpenTransaction) (gs : List Fact) → x.place ≡ p → x.open_one ≡ o → length x.images ≡ length y.images
      → ((n : ℕ) → n + image_at p ≡ length x.images → Fits q n p o → GoesAt n p o y.place y.open_one gs) → GoesFrom q x y gs
  from_at x y p o gs at one same f n images fits = let g = f n (subst (λ (z : SessionStatus). n + image_at z ≡ length x.images) at images) (subst (λ (z : SessionStatus). Fits q n z o) at (subst (Fits q n x.place) one fits)) in record {
    shown = (λ i. shown_at q (at i) (one i) ++ gs) ∙ g.shown;
    before = (λ i. open_before q (at i) (one i)) ∙ g.before;
    images = ap (λ (m : ℕ). n + m) (sym g.images ∙ ap image_at (sym at)) ∙ images ∙ same;
    fits = g.fits;
  }

  -- ---- by whether BEGIN opened the transaction

  pub fits_if : (n : ℕ) (text : Text) (stage : StatementProgress) (o : OpenTransaction) (b : Bool) → o.explicit ≡ b → Fits q n (inside text stage) (Some o) → FitsWith q b n text stage o.id o.end
  fits_if n text stage o b e f = subst (λ (z : Bool). FitsWith q z n text stage o.id o.end) e f

  pub if_fits : (n : ℕ) (text : Text) (stage : StatementProgress) (o : OpenTransaction) (b : Bool) → o.explicit ≡ b → FitsWith q b n text stage o.id o.end → Fits q n (inside text stage) (Some o)
  if_fits n text stage o b e f = subst (λ (z : Bool). FitsWith q z n text stage o.id o.end) (sym e) f

  -- ---- an id is drawn

  begin_fits : (n : ℕ) (text : Text) (id : ℕ) → kind_of (q.reads text) ≡ begin → InPlace q None n (statement text (reply.Begun id) None)
  begin_fits n text id e = outside q n text (reply.Begun id) begin None e refl
      (record { none_open = never NoTransaction _ (λ f. cc); begun_twice = never AlreadyInTransaction _ (λ f. cc); not_inside = never ForbiddenInTransaction _ (λ f. cc); unread_outside = never SyntaxError _ (λ f. cc); third_image = tt; begins = inl (id, refl) }) tt

  pub at_begin : (n : ℕ) (text : Text) (id : ℕ) → kind_of (q.reads text) ≡ begin → GoesAt n (inside text begun) None (inside text (stage_with_id true id)) (Some (new_transaction id true)) (began id true ∷ [])
  at_begin n text id e = record { shown = refl; before = refl; images = refl; fits = (tt, (refl, refl, begin_fits n text id e)) }

  pub at_draw : (n : ℕ) (text : Text) (id : ℕ) → EndsOwn (kind_of (q.reads text)) unfixed → GoesAt n (inside text begun) None (inside text (stage_with_id false id)) (Some (new_transaction id false)) (began id false ∷ [])
  at_draw n text id e = record { shown = refl; before = refl; images = refl; fits = (e, tt) }

  -- ---- nothing is to be shown yet, and nothing then

  pub at_found : (n : ℕ) (text : Text) (o u : OpenTransaction) (named : _) (fresh : Bool) → u.id ≡ o.id → u.explicit ≡ o.explicit → u.end ≡ o.end → kind_of (q.reads text) ≡ rows → Fits q n (inside text begun) (Some o) → GoesAt n (inside text begun) (Some o) (inside text (found named fresh)) (Some u) []
  at_found n text o u named fresh id explicit end kind f = record {
    shown = append-nil _ ∙ (λ i. shown_with q (sym explicit i) (sym id i) text begun ++ end_shown (sym end i)) ∙ by_case u.explicit;
    before = (λ i. if sym explicit i then Some (sym id i) else None);
    images = refl;
    fits = subst (λ (e : End). FitsWith q u.explicit n text (found named fresh) u.id e) (sym end) (fits_then o.explicit u.explicit explicit f);
  }
    where
      by_case : (b : Bool) → shown_with q b u.id text begun ++ end_shown u.end ≡ shown_with q b u.id text (found named fresh) ++ end_shown u.end
      by_case true = refl
      by_case false = refl

      fits_then : (b c : Bool) → c ≡ b → FitsWith q b n text begun o.id o.end → FitsWith q c n text (found named fresh) u.id o.end
      fits_then true true e g = (g.0, kind)
      fits_then false false e g = (g.0, tt)
      fits_then true false e g = cc
      fits_then false true e g = cc

  -- ---- a statement that is a transaction of its own is said

  pub at_said : (n : ℕ) (text : Text) (r : Reply) (o : OpenTransaction) (stage : StatementProgress) (line : Text) → o.explicit ≡ false → q.writes r ≡ line → image_in stage ≡ 0 → shown_alone q text stage ≡ [] → o.end ≡ unfixed → EndsOwn (kind_of (q.reads text)) o.end → FitsOwn q n text r → IsSaid q text r
      → GoesAt n (inside text stage) (Some o) (inside text (answering r None)) (Some (saying (text, line) o)) (said (text, line) ∷ [])
  at_said n text r o stage line own writes none nothing open_end kind fits says = record {
    shown = (λ i. (shown_with q (own i) o.id text stage ++ end_shown (open_end i)) ++ said (text, line) ∷ [])
        ∙ ap (λ (l : List Fact). ((began o.id false ∷ l) ++ []) ++ said (text, line) ∷ []) nothing
        ∙ ap (λ (l : List Fact). (began o.id false ∷ l) ++ []) (ap (λ (w : Text). said (text, w) ∷ []) (sym writes) ∙ sym says)
        ∙ (λ i. shown_with q (sym own i) o.id text (answering r None) ++ end_shown (sym open_end i));
    before = (λ i. if own i then (if is_begin stage then None else Some o.id) else None) ∙ (λ i. if sym own i then (if is_begin (answering r None) then None else Some o.id) else None);
    images = none ∙ sym fits.no_image;
    fits = if_fits n text (answering r None) (saying (text, line) o) false own (kind, fits);
  }

  -- ---- ends that are fixed

  -- one of its own, whose answer is certain
  pub at_own_end : (n : ℕ) (text : Text) (r : Reply) (def : Option TableDef) (o : OpenTransaction) (e : End) (script : _) → o.explicit ≡ false → o.end ≡ unfixed → NotBack e → Fits q n (inside text (answering r def)) (Some o)
      → GoesAt n (inside text (answering r def)) (Some o) (inside text (answering r def)) (Some (ending e script o)) (end_shown e)
  at_own_end n text r def o e script own open_end ahead f = let g = fits_if n text (answering r def) o false own f in record {
    shown = (λ i. (shown_with q (own i) o.id text (answering r def) ++ end_shown (open_end i)) ++ end_shown e) ∙ ap (λ (l : List Fact). l ++ end_shown e) (append-nil (began o.id false ∷ answer_facts q text r)) ∙ (λ i. shown_with q (sym own i) o.id text (answering r def) ++ end_shown e);
    before = refl;
    images = refl;
    fits = if_fits n text (answering r def) (ending e script o) false own (own_end (kind_of (q.reads text)) o.end e g.0 ahead, g.1);
  }

  -- one that BEGIN opened: COMMIT, and ROLLBACK without a name
  commit_fits : (n : ℕ) (text : Text) (id : ℕ) (e : End) → kind_of (q.reads text) ≡ commit → (line_of id e ≡ None → ⊥) → FitsOpened q n text id e reply.NoOutput
  commit_fits n text id unfixed kind some = absurd (some refl)
  commit_fits n text id (committed m) kind some = within q n text reply.NoOutput id commit (Some (committed_at id m)) kind refl (controlled_inside n reply.NoOutput (record { not_syntax_error = λ f. cc; not_no_transaction = λ f. cc; not_already_in = λ f. cc; not_forbidden_in = λ f. cc }) id commit refl refl) refl
  commit_fits n text id (ended m back) kind some = within q n text reply.NoOutput id commit (Some (ended_after id m)) kind refl (controlled_inside n reply.NoOutput (record { not_syntax_error = λ f. cc; not_no_transaction = λ f. cc; not_already_in = λ f. cc; not_forbidden_in = λ f. cc }) id commit refl refl) refl

  back_fits : (n : ℕ) (text : Text) (id m : ℕ) → kind_of (q.reads text) ≡ roll_back → FitsOpened q n text id (ended m true) reply.NoOutput
  back_fits n text id m kind = within q n text reply.NoOutput id roll_back (Some (ended_after id m)) kind (refl, tt) (controlled_inside n reply.NoOutput (record { not_syntax_error = λ f. cc; not_no_transaction = λ f. cc; not_already_in = λ f. cc; not_forbidden_in = λ f. cc }) id roll_back refl refl) refl

  opened_end : (n : ℕ) (text : Text) (o : OpenTransaction) (e : End) (script : _) → o.explicit ≡ true → o.end ≡ unfixed → facts_inside q (kind_of (q.reads text)) text reply.NoOutput None ≡ [] → EndsOpened e (kind_of (q.reads text)) → FitsOpened q n text o.id e reply.NoOutput
      → GoesAt n (inside text begun) (Some o) (inside text (answering reply.NoOutput None)) (Some (ending e script o)) (end_shown e)
  opened_end n text o e script explicit open_end quiet ends fits = record {
    shown = (λ i. (shown_with q (explicit i) o.id text begun ++ end_shown (open_end i)) ++ end_shown e) ∙ ap (λ (l : List Fact). l ++ end_shown e) (sym quiet) ∙ (λ i. shown_with q (sym explicit i) o.id text (answering reply.NoOutput None) ++ end_shown e);
    before = refl;
    images = refl;
    fits = if_fits n text (answering reply.NoOutput None) (ending e script o) true explicit (ends, fits);
  }

  pub at_commit : (n : ℕ) (text : Text) (o : OpenTransaction) (m : ℕ) (script : _) → o.explicit ≡ true → o.end ≡ unfixed → kind_of (q.reads text) ≡ commit
      → GoesAt n (inside text begun) (Some o) (inside text (answering reply.NoOutput None)) (Some (ending (committed m) script o)) (placed m ∷ [])
  at_commit n text o m script explicit open_end kind = opened_end n text o (committed m) script explicit open_end (ap (λ (k : Kind). facts_inside q k text reply.NoOutput None) kind) (subst (EndsOpened (committed m)) (sym kind) tt) (commit_fits n text o.id (committed m) kind (λ e. cc))

  pub at_read_only_commit : (n : ℕ) (text : Text) (o : OpenTransaction) (m : ℕ) (script : _) → o.explicit ≡ true → o.end ≡ unfixed → kind_of (q.reads text) ≡ commit
      → GoesAt n (inside text begun) (Some o) (inside text (answering reply.NoOutput None)) (Some (ending (ended m false) script o)) (passed m false ∷ [])
  at_read_only_commit n text o m script explicit open_end kind = opened_end n text o (ended m false) script explicit open_end (ap (λ (k : Kind). facts_inside q k text reply.NoOutput None) kind) (subst (EndsOpened (ended m false)) (sym kind) refl) (commit_fits n text o.id (ended m false) kind (λ e. cc))

  pub at_roll_back : (n : ℕ) (text : Text) (o : OpenTransaction) (m : ℕ) (script : _) → o.explicit ≡ true → o.end ≡ unfixed → kind_of (q.reads text) ≡ roll_back
      → GoesAt n (inside text begun) (Some o) (inside text (answering reply.NoOutput None)) (Some (ending (ended m true) script o)) (passed m true ∷ [])
  at_roll_back n text o m script explicit open_end kind = opened_end n text o (ended m true) script explicit open_end (ap (λ (k : Kind). facts_inside q k text reply.NoOutput None) kind) (subst (EndsOpened (ended m true)) (sym kind) refl) (back_fits n text o.id m kind)

  pub at_leaving : (n : ℕ) (o : OpenTransaction) (m : ℕ) (script : _) → o.explicit ≡ true → o.end ≡ unfixed → GoesAt n leaving (Some o) leaving (Some (ending (ended m true) script o)) (passed m true ∷ [])
  at_leaving n o m script explicit open_end = record { shown = ap (λ (e : End). end_shown e ++ passed m true ∷ []) open_end; before = refl; images = refl; fits = (explicit, refl) }

  -- ---- digests

  lack_fits : (n : ℕ) (text : Text) → kind_of (q.reads text) ≡ issue → FitsOutside q n text (reply.Refused NothingCommitted)
  lack_fits n text e = record { plain = refl; in_place = outside q n text (reply.Refused NothingCommitted) issue None e refl (record { none_open = never NoTransaction _ (λ f. cc); begun_twice = never AlreadyInTransaction _ (λ f. cc); not_inside = never ForbiddenInTransaction _ (λ f. cc); unread_outside = never SyntaxError _ (λ f. cc); third_image = tt; begins = tt }) tt }

  pub at_lack : (n : ℕ) (text : Text) → kind_of (q.reads text) ≡ issue → GoesAt n (inside text begun) None (inside text (answering (reply.Refused NothingCommitted) None)) None (no_digest ∷ [])
  at_lack n text e = record { shown = sym (ap (λ (k : Kind). facts_outside q k text (reply.Refused NothingCommitted) None) e); before = refl; images = refl; fits = lack_fits n text e }

  digest_fits : (n : ℕ) (text : Text) (block : ℕ) (hash : Text) → kind_of (q.reads text) ≡ issue → FitsOutside q n text (reply.Digest block hash)
  digest_fits n text block hash e = record { plain = refl; in_place = outside q n text (reply.Digest block hash) issue None e refl (record { none_open = never NoTransaction _ (λ f. cc); begun_twice = never AlreadyInTransaction _ (λ f. cc); not_inside = never ForbiddenInTransaction _ (λ f. cc); unread_outside = never SyntaxError _ (λ f. cc); third_image = tt; begins = tt }) tt }

  pub at_digest : (n : ℕ) (text : Text) (block : ℕ) (hash : Text) → kind_of (q.reads text) ≡ issue → GoesAt n (inside text begun) None (inside text (answering (reply.Digest block hash) None)) None (digest block hash ∷ [])
  at_digest n text block hash e = record { shown = sym (ap (λ (k : Kind). facts_outside q k text (reply.Digest block hash) None) e); before = refl; images = refl; fits = digest_fits n text block hash e }

  -- ---- what one of its own may be answered

  pub made_fits : (n : ℕ) (text : Text) (e : End) → EndsOwn (kind_of (q.reads text)) e → FitsOwn q n text reply.Made
  made_fits n text e own = fits_own n reply.Made (record { not_syntax_error = λ f. cc; not_no_transaction = λ f. cc; not_already_in = λ f. cc; not_forbidden_in = λ f. cc }) q text e own refl refl

  pub memory_refused_own : (n : ℕ) (text : Text) (e : End) → EndsOwn (kind_of (q.reads text)) e → FitsOwn q n text (reply.Refused NoMemory)
  memory_refused_own n text e own = fits_own n (reply.Refused NoMemory) (record { not_syntax_error = λ f. cc; not_no_transaction = λ f. cc; not_already_in = λ f. cc; not_forbidden_in = λ f. cc }) q text e own refl refl

  -- want of memory, and then the end
  pub at_fail_end : (n : ℕ) (text : Text) (o : OpenTransaction) (stage : StatementProgress) (def : Option TableDef) (m : ℕ) (script : _) → o.explicit ≡ false → o.end ≡ unfixed → image_in stage ≡ 0 → shown_alone q text stage ≡ [] → EndsOwn (kind_of (q.reads text)) o.end
      → GoesAt n (inside text stage) (Some o) (inside text (answering (reply.Refused NoMemory) def)) (Some (ending (ended m false) script o)) (failed text ∷ passed m false ∷ [])
  at_fail_end n text o stage def m script own open_end none nothing kind = record {
    shown = (λ i. (shown_with q (own i) o.id text stage ++ end_shown (open_end i)) ++ failed text ∷ passed m false ∷ []) ∙ ap (λ (l : List Fact). ((began o.id false ∷ l) ++ []) ++ failed text ∷ passed m false ∷ []) nothing
        ∙ (λ i. shown_with q (sym own i) o.id text (answering (reply.Refused NoMemory) def) ++ passed m false ∷ []);
    before = (λ i. if own i then (if is_begin stage then None else Some o.id) else None) ∙ (λ i. if sym own i then (if is_begin (answering (reply.Refused NoMemory) def) then None else Some o.id) else None);
    images = none;
    fits = if_fits n text (answering (reply.Refused NoMemory) def) (ending (ended m false) script o) false own (own_end (kind_of (q.reads text)) o.end (ended m false) kind refl, memory_refused_own n text o.end kind);
  }

  -- ---- in a transaction that BEGIN opened

  pub fits_opened : (n : ℕ) (text : Text) (stage : StatementProgress) (p : OpenTransaction) (id : ℕ) → p.id ≡ id → p.explicit ≡ true → p.end ≡ unfixed → ProgressOpened q n text id unfixed stage → Fits q n (inside text stage) (Some p)
  fits_opened n text stage p id a b c f = subst (λ m. FitsWith q p.explicit n text stage m p.end) (sym a) (subst (λ e. FitsWith q p.explicit n text stage id e) (sym c) (subst (λ z. FitsWith q z n text stage id unfixed) (sym b) (tt, f)))

  pub shown_opened : (text : Text) (stage : StatementProgress) (p : OpenTransaction) (id : ℕ) → p.id ≡ id → p.explicit ≡ true → p.end ≡ unfixed → shown_at q (inside text stage) (Some p) ≡ shown_inside q (kind_of (q.reads text)) text stage ++ []
  shown_opened text stage p id a b c = λ i. shown_with q (b i) (a i) text stage ++ end_shown (c i)

  -- nothing was to be shown, and now these facts are
  pub at_opened : (n : ℕ) (text : Text) (o p : OpenTransaction) (stage next : StatementProgress) (gs : List Fact) → o.explicit ≡ true → o.end ≡ unfixed → p.id ≡ o.id → p.explicit ≡ true → p.end ≡ unfixed
      → shown_inside q (kind_of (q.reads text)) text stage ≡ [] → is_begin stage ≡ false → image_in stage ≡ 0
      → shown_inside q (kind_of (q.reads text)) text next ≡ gs → is_begin next ≡ false → image_in next ≡ 0 → ProgressOpened q n text o.id unfixed next
      → GoesAt n (inside text stage) (Some o) (inside text next) (Some p) gs
  at_opened n text o p stage next gs explicit open_end id opened_then end_then nothing not_begin no_image shows still_not no_more fits = record {
    shown = ap (λ (l : List Fact). l ++ gs) (shown_opened text stage o o.id refl explicit open_end ∙ ap (λ (l : List Fact). l ++ []) nothing) ∙ sym (shown_opened text next p o.id id opened_then end_then ∙ append-nil (shown_inside q (kind_of (q.reads text)) text next) ∙ shows);
    before = (λ i. if explicit i then (if not_begin i then None else Some (sym id i)) else None) ∙ (λ i. if sym opened_then i then (if sym still_not i then None else Some p.id) else None);
    images = no_image ∙ sym no_more;
    fits = fits_opened n text next p o.id id opened_then end_then fits;
  }

  -- at SAVE TRANSACTION, and ROLLBACK with a name
  pub savepoint_fits : (n : ℕ) (text : Text) (id : ℕ) (r : Reply) → kind_of (q.reads text) ≡ to_savepoint → NoControl r → InPlace q (Some id) n (statement text r None)
  savepoint_fits n text id r kind plain = within q n text r id to_savepoint None kind refl (controlled_inside n r plain id to_savepoint refl refl) tt

  -- ---- refused where a transaction is open

  inside_by : (n id : ℕ) (k : Kind) (r : Reply) → ComesAt NoTransaction false r → ComesAt AlreadyInTransaction (in_place_begin k) r → ComesAt ForbiddenInTransaction (needs_none k) r → ThirdImage (Some id) n k r → ControlledBy (Some id) n k r
  inside_by n id k r a b c d = record { none_open = a; begun_twice = b; not_inside = c; unread_outside = tt; third_image = d; begins = tt }

  pub refused_fits : (n id : ℕ) (text : Text) (o : Option Stmt) (e : Refusal) → refused_inside o ≡ Some e → kind_of (q.reads text) ≡ kind_of o
      → FitsOpened q n text id unfixed (reply.Refused e) × (facts_inside q (kind_of (q.reads text)) text (reply.Refused e) None ≡ said (text, q.writes (reply.Refused e)) ∷ [])
  refused_fits n id text o e f kind = by_text o e f kind
    where
      fits_as : (k : Kind) (e : Refusal) → kind_of (q.reads text) ≡ k → EndsInside k id (reply.Refused e) None → ControlledBy (Some id) n k (reply.Refused e) → ReadOnlyEnd k (reply.Refused e) None → InPlace q (Some id) n (statement text (reply.Refused e) None)
      fits_as k e same a b c = within q n text (reply.Refused e) id k None same a b c

      by_text : (o : Option Stmt) (e : Refusal) → refused_inside o ≡ Some e → kind_of (q.reads text) ≡ kind_of o → FitsOpened q n text id unfixed (reply.Refused e) × (facts_inside q (kind_of (q.reads text)) text (reply.Refused e) None ≡ said (text, q.writes (reply.Refused e)) ∷ [])
      by_text None SyntaxError f same = (fits_as unread SyntaxError same refl (inside_by n id unread (reply.Refused SyntaxError) (never NoTransaction _ (λ f. cc)) (never AlreadyInTransaction _ (λ f. cc)) (never ForbiddenInTransaction _ (λ f. cc)) tt) tt, ap (λ (k : Kind). facts_inside q k text (reply.Refused SyntaxError) None) same)
      by_text (Some (stmt.Create c)) ForbiddenInTransaction f same = (fits_as create ForbiddenInTransaction same refl (inside_by n id create (reply.Refused ForbiddenInTransaction) (never NoTransaction _ (λ f. cc)) (never AlreadyInTransaction _ (λ f. cc)) (comes ForbiddenInTransaction) tt) tt, ap (λ (k : Kind). facts_inside q k text (reply.Refused ForbiddenInTransaction) None) same)
      by_text (Some (stmt.Index c)) ForbiddenInTransaction f same = (fits_as create ForbiddenInTransaction same refl (inside_by n id create (reply.Refused ForbiddenInTransaction) (never NoTransaction _ (λ f. cc)) (never AlreadyInTransaction _ (λ f. cc)) (comes ForbiddenInTransaction) tt) tt, ap (λ (k : Kind). facts_inside q k text (reply.Refused ForbiddenInTransaction) None) same)
      by_text (Some (stmt.Alter a)) ForbiddenInTransaction f same = (fits_as create ForbiddenInTransaction same refl (inside_by n id create (reply.Refused ForbiddenInTransaction) (never NoTransaction _ (λ f. cc)) (never AlreadyInTransaction _ (λ f. cc)) (comes ForbiddenInTransaction) tt) tt, ap (λ (k : Kind). facts_inside q k text (reply.Refused ForbiddenInTransaction) None) same)
      by_text (Some (stmt.Drop name)) ForbiddenInTransaction f same = (fits_as create ForbiddenInTransaction same refl (inside_by n id create (reply.Refused ForbiddenInTransaction) (never NoTransaction _ (λ f. cc)) (never AlreadyInTransaction _ (λ f. cc)) (comes ForbiddenInTransaction) tt) tt, ap (λ (k : Kind). facts_inside q k text (reply.Refused ForbiddenInTransaction) None) same)
      by_text (Some stmt.Begin) AlreadyInTransaction f same = (fits_as begin AlreadyInTransaction same refl (inside_by n id begin (reply.Refused AlreadyInTransaction) (never NoTransaction _ (λ f. cc)) (comes AlreadyInTransaction) (never ForbiddenInTransaction _ (λ f. cc)) tt) tt, ap (λ (k : Kind). facts_inside q k text (reply.Refused AlreadyInTransaction) None) same)
      by_text (Some stmt.Digest) ForbiddenInTransaction f same = (fits_as issue ForbiddenInTransaction same refl (inside_by n id issue (reply.Refused ForbiddenInTransaction) (never NoTransaction _ (λ f. cc)) (never AlreadyInTransaction _ (λ f. cc)) (comes ForbiddenInTransaction) tt) tt, ap (λ (k : Kind). facts_inside q k text (reply.Refused ForbiddenInTransaction) None) same)
      by_text (Some stmt.Image) ForbiddenInTransaction f same = (fits_as keep ForbiddenInTransaction same refl (inside_by n id keep (reply.Refused ForbiddenInTransaction) (never NoTransaction _ (λ f. cc)) (never AlreadyInTransaction _ (λ f. cc)) (comes ForbiddenInTransaction) (never LimitExceeded _ (λ f. cc))) tt, ap (λ (k : Kind). facts_inside q k text (reply.Refused ForbiddenInTransaction) None) same)
      by_text None e f same = cc
      by_text (Some (stmt.Alter a)) e f same = cc
      by_text (Some (stmt.Drop name)) e f same = cc
      by_text (Some (stmt.Create c)) e f same = cc
      by_text (Some (stmt.Index c)) e f same = cc
      by_text (Some stmt.Begin) e f same = cc
      by_text (Some stmt.Digest) e f same = cc
      by_text (Some stmt.Image) e f same = cc
      by_text (Some (stmt.Change c)) e f same = cc
      by_text (Some (stmt.Select c)) e f same = cc
      by_text (Some stmt.Commit) e f same = cc
      by_text (Some (stmt.Save name)) e f same = cc
      by_text (Some (stmt.Rollback name)) e f same = cc

-- who looks a name up is a statement of rows
pub shares_rows : (explicit : Bool) (st : Stmt) → catalog_request explicit st ≡ Some S → kind_of (Some st) ≡ rows
shares_rows true (stmt.Create c) e = cc
shares_rows true (stmt.Index c) e = cc
shares_rows false (stmt.Create c) e = cc
shares_rows false (stmt.Index c) e = cc
shares_rows true (stmt.Alter a) e = cc
shares_rows false (stmt.Alter a) e = cc
shares_rows true (stmt.Drop name) e = cc
shares_rows false (stmt.Drop name) e = cc
shares_rows explicit (stmt.Change x) e = refl
shares_rows explicit (stmt.Select q) e = refl
shares_rows true stmt.Begin e = cc
shares_rows false stmt.Begin e = cc
shares_rows true stmt.Commit e = cc
shares_rows false stmt.Commit e = cc
shares_rows true (stmt.Save name) e = cc
shares_rows false (stmt.Save name) e = cc
shares_rows true (stmt.Rollback name) e = cc
shares_rows false (stmt.Rollback name) e = cc
shares_rows true stmt.Digest e = cc
shares_rows false stmt.Digest e = cc
shares_rows true stmt.Image e = cc
shares_rows false stmt.Image e = cc
