-- Statements of scripts, as transcripts show them.
use Rattle.std.proofs.Common.{◌≡◌, ◌≢◌, ℕ, Bool, true, false, List, [], ◌∷◌, Option, Some, None, refl, sym, ap, ◌∙◌, subst, inl}
use Rattle.std.specs.Prelude.{nat_lt, if◌then◌else◌, length}
use Rattle.sql_value.specs.declared.refusal.Refusal.{Refusal}
use Rattle.sql_value.specs.declared.refusal.Refusal.TheVariants.{NoSuchTable, NameConflict, NoSuchColumn, TypeMismatch, NullNotAllowed, DuplicateKey, NumberOutOfRange, ValueTooLong, AppendOnlyTable, ReadOnlyTable, KeyNotUpdatable, LimitExceeded, ValueCountMismatch, SyntaxError, NoTransaction, AlreadyInTransaction, ForbiddenInTransaction}
use Rattle.sql_types.specs.declared.reply.Reply.{Reply}
use Rattle.sql_types.specs.declared.reply.Reply.TheVariants as reply
use Rattle.sql_types.specs.declared.statement.Stmt.{Stmt}
use Rattle.sql_types.specs.declared.statement.Stmt.TheVariants as stmt
use Rattle.spec_model.specs.Limits.{max_savepoints}
use Rattle.spec_model.specs.Catalog.{Tables}
use Rattle.spec_model.specs.Events.{all_events}
use Rattle.spec_model.specs.Runs.{Sound}
use Rattle.spec_model.specs.Script.{Saved, State, Step, by_statement, saves, back_to, rolled_back, rolls_back_to, start}
use Rattle.law_frame.proofs.NoEvents.{no_events}
use Rattle.law_frame.proofs.PlainRefusals.{IsPlain, IsPlainReply, effect_reply}
use Rattle.spec_history.specs.Lists.{Text}
use Rattle.spec_history.specs.Meaning.{Meaning}
use Rattle.spec_history.specs.Facts.{said, answer_facts, facts_inside, begun_by}
use Rattle.spec_history.specs.InPlace.{ComesAt, EndsInside, ControlledBy, ReadOnlyEnd, InPlace}
use Rattle.spec_history.specs.Transcripts.{Kind, unread, begin, commit, roll_back, to_savepoint, create, rows, issue, keep, statement, kind_of}
use Rattle.law_retold.specs.Retold.{EndsNone}

-- ---- replies that are said

module _ (q : Meaning) (text : Text) where
  abbrev pub IsSaid : Reply → Type 0
  IsSaid r = answer_facts q text r ≡ said (text, q.writes r) ∷ []

  refused_said : (e : Refusal) → IsPlain e → IsSaid (reply.Refused e)
  refused_said NoSuchTable h = refl
  refused_said NameConflict h = refl
  refused_said NoSuchColumn h = refl
  refused_said TypeMismatch h = refl
  refused_said NullNotAllowed h = refl
  refused_said DuplicateKey h = refl
  refused_said NumberOutOfRange h = refl
  refused_said ValueTooLong h = refl
  refused_said AppendOnlyTable h = refl
  refused_said ReadOnlyTable h = refl
  refused_said KeyNotUpdatable h = refl
  refused_said LimitExceeded h = refl
  refused_said ValueCountMismatch h = refl
  refused_said e h = absurd h

  pub plain_said : (r : Reply) → IsPlainReply r → IsSaid r
  plain_said (reply.Changed n) h = refl
  plain_said (reply.Rows found_rows) h = refl
  plain_said reply.Made h = refl
  plain_said reply.NoOutput h = refl
  plain_said (reply.Refused e) h = refused_said e h
  plain_said r h = absurd h

pub none_begun : (r : Reply) → IsPlainReply r → begun_by r ≡ None
none_begun (reply.Changed n) h = refl
none_begun (reply.Rows found_rows) h = refl
none_begun reply.Made h = refl
none_begun reply.NoOutput h = refl
none_begun (reply.Refused e) h = refl
none_begun r h = absurd h

-- a refusal that never comes
pub never : (e : Refusal) (r : Reply) → (r ≡ reply.Refused e → ⊥) → ComesAt e false r
never e r n = ((λ f. absurd (n f)), (λ f. cc))

due : (e : Refusal) → ComesAt e true (reply.Refused e)
due e = ((λ f. refl), (λ f. inl refl))

-- no refusal of transaction control
pub record NoControl (r : Reply) : Type 0 where
  pub not_syntax_error : r ≡ reply.Refused SyntaxError → ⊥
  pub not_no_transaction : r ≡ reply.Refused NoTransaction → ⊥
  pub not_already_in : r ≡ reply.Refused AlreadyInTransaction → ⊥
  pub not_forbidden_in : r ≡ reply.Refused ForbiddenInTransaction → ⊥

pub no_control : (r : Reply) → IsPlainReply r → NoControl r
no_control r h = record {
  not_syntax_error = λ e. subst IsPlainReply e h;
  not_no_transaction = λ e. subst IsPlainReply e h;
  not_already_in = λ e. subst IsPlainReply e h;
  not_forbidden_in = λ e. subst IsPlainReply e h;
}

-- ---- in a transaction that BEGIN opened

module _ (q : Meaning) (id n : ℕ) (text : Text) where
  -- the reply to a statement of this kind
  pub record IsShown (k : Kind) (r : Reply) : Type 0 where
    pub controlled : ControlledBy (Some id) n k r
    pub is_said : IsSaid q text r

  rows_shown : (r : Reply) → IsPlainReply r → IsShown rows r
  rows_shown r h = let plain = no_control r h in record {
    controlled = record {
      none_open = never NoTransaction r plain.not_no_transaction;
      begun_twice = never AlreadyInTransaction r plain.not_already_in;
      not_inside = never ForbiddenInTransaction r plain.not_forbidden_in;
      unread_outside = tt;
      third_image = tt;
      begins = tt;
    };
    is_said = plain_said q text r h;
  }

  create_shown : IsShown create (reply.Refused ForbiddenInTransaction)
  create_shown = record {
    controlled = record {
      none_open = never NoTransaction _ (λ e. cc);
      begun_twice = never AlreadyInTransaction _ (λ e. cc);
      not_inside = due ForbiddenInTransaction;
      unread_outside = tt;
      third_image = tt;
      begins = tt;
    };
    is_said = refl;
  }

  -- to a savepoint
  savepoint_shown : (r : Reply) → NoControl r → IsSaid q text r → IsShown to_savepoint r
  savepoint_shown r plain h = record {
    controlled = record {
      none_open = never NoTransaction r plain.not_no_transaction;
      begun_twice = never AlreadyInTransaction r plain.not_already_in;
      not_inside = never ForbiddenInTransaction r plain.not_forbidden_in;
      unread_outside = tt;
      third_image = tt;
      begins = tt;
    };
    is_said = h;
  }

  abbrev reply_of : Step → Reply
  reply_of s = s.1

  saved_or_not : (b : Bool) (x y : State) → IsShown to_savepoint (reply_of (if b then (x, reply.Saved) else (y, reply.Refused LimitExceeded)))
  saved_or_not true x y = savepoint_shown reply.Saved (record { not_syntax_error = λ e. cc; not_no_transaction = λ e. cc; not_already_in = λ e. cc; not_forbidden_in = λ e. cc }) refl
  saved_or_not false x y = savepoint_shown (reply.Refused LimitExceeded) (record { not_syntax_error = λ e. cc; not_no_transaction = λ e. cc; not_already_in = λ e. cc; not_forbidden_in = λ e. cc }) refl

  saves_shown : (x : State) (name : Text) → IsShown to_savepoint (saves x name).1
  unfolding saves
  saves_shown x name = saved_or_not (nat_lt (length x.saved) max_savepoints) (record { tables = x.tables; seq = x.seq; saved = record { name = name; tables = x.tables; seq = x.seq } ∷ x.saved }) x

  back_or_not : (x : State) (cs : List Saved) → IsShown to_savepoint (rolled_back x cs).1
  back_or_not x [] = savepoint_shown _ (record { not_syntax_error = λ e. cc; not_no_transaction = λ e. cc; not_already_in = λ e. cc; not_forbidden_in = λ e. cc }) refl
  back_or_not x (k ∷ cs) = savepoint_shown reply.Back (record { not_syntax_error = λ e. cc; not_no_transaction = λ e. cc; not_already_in = λ e. cc; not_forbidden_in = λ e. cc }) refl

  back_shown : (x : State) (name : Text) → IsShown to_savepoint (rolls_back_to x name).1
  unfolding rolls_back_to
  back_shown x name = back_or_not x (back_to x.saved name)

  pub inside_shown : (tx : ℕ) (x : State) (o : Option Stmt) → EndsNone (kind_of o) → IsShown (kind_of o) (by_statement true tx x o).1
  inside_shown tx x None h = record {
    controlled = record {
      none_open = never NoTransaction _ (λ e. cc);
      begun_twice = never AlreadyInTransaction _ (λ e. cc);
      not_inside = never ForbiddenInTransaction _ (λ e. cc);
      unread_outside = tt;
      third_image = tt;
      begins = tt;
    };
    is_said = refl;
  }
  inside_shown tx x (Some (stmt.Create c)) h = create_shown
  inside_shown tx x (Some (stmt.Index c)) h = create_shown
  inside_shown tx x (Some (stmt.Alter a)) h = create_shown
  inside_shown tx x (Some (stmt.Drop name)) h = create_shown
  inside_shown tx x (Some (stmt.Change s)) h = rows_shown _ (effect_reply x.tables tx x.seq (stmt.Change s))
  inside_shown tx x (Some (stmt.Select s)) h = rows_shown _ (effect_reply x.tables tx x.seq (stmt.Select s))
  inside_shown tx x (Some stmt.Begin) h = record {
    controlled = record {
      none_open = never NoTransaction _ (λ e. cc);
      begun_twice = due AlreadyInTransaction;
      not_inside = never ForbiddenInTransaction _ (λ e. cc);
      unread_outside = tt;
      third_image = tt;
      begins = tt;
    };
    is_said = refl;
  }
  inside_shown tx x (Some stmt.Commit) h = absurd h
  inside_shown tx x (Some (stmt.Save name)) h = saves_shown x name
  inside_shown tx x (Some (stmt.Rollback (Some name))) h = back_shown x name
  inside_shown tx x (Some (stmt.Rollback None)) h = absurd h
  inside_shown tx x (Some stmt.Digest) h = record {
    controlled = record {
      none_open = never NoTransaction _ (λ e. cc);
      begun_twice = never AlreadyInTransaction _ (λ e. cc);
      not_inside = due ForbiddenInTransaction;
      unread_outside = tt;
      third_image = tt;
      begins = tt;
    };
    is_said = refl;
  }
  inside_shown tx x (Some stmt.Image) h = record {
    controlled = record {
      none_open = never NoTransaction _ (λ e. cc);
      begun_twice = never AlreadyInTransaction _ (λ e. cc);
      not_inside = due ForbiddenInTransaction;
      unread_outside = tt;
      third_image = never LimitExceeded _ (λ e. cc);
      begins = tt;
    };
    is_said = refl;
  }

  -- what doesn't end the transaction
  abbrev LeavesOpen : Kind → Reply → Type 0
  LeavesOpen k r = EndsInside k id r None × ReadOnlyEnd k r None × (facts_inside q k text r None ≡ answer_facts q text r)

  leaves_open : (k : Kind) (r : Reply) → EndsNone k → LeavesOpen k r
  leaves_open unread r h = (refl, tt, refl)
  leaves_open begin r h = (refl, tt, refl)
  leaves_open commit r h = absurd h
  leaves_open roll_back r h = absurd h
  leaves_open to_savepoint r h = (refl, tt, refl)
  leaves_open create r h = (refl, tt, refl)
  leaves_open rows r h = (refl, tt, refl)
  leaves_open issue r h = (refl, tt, refl)
  leaves_open keep r h = (refl, tt, refl)

  -- the entry of such a statement is in its place, and shows that it is said
  pub record FitsInside (r : Reply) : Type 0 where
    pub in_place : InPlace q (Some id) n (statement text r None)
    pub shows : facts_inside q (kind_of (q.reads text)) text r None ≡ said (text, q.writes r) ∷ []

  pub fits_inside : (tx : ℕ) (x : State) (o : Option Stmt) → q.reads text ≡ o → EndsNone (kind_of o) → FitsInside (by_statement true tx x o).1
  fits_inside tx x o e h = let same : kind_of o ≡ kind_of (q.reads text) = ap kind_of (sym e) in
      let shown = inside_shown tx x o h in
      let left_open = leaves_open (kind_of o) (by_statement true tx x o).1 h in
      record {
        in_place = record {
          open_ended = tt;
          ends = subst (λ (z : Kind). EndsInside z id (by_statement true tx x o).1 None) same left_open.0;
          controlled = subst (λ (z : Kind). ControlledBy (Some id) n z (by_statement true tx x o).1) same shown.controlled;
          else_no_memory = subst (λ (z : Kind). ReadOnlyEnd z (by_statement true tx x o).1 None) same left_open.1;
        };
        shows = sym (ap (λ (z : Kind). facts_inside q z text (by_statement true tx x o).1 None) same) ∙ left_open.2 ∙ shown.is_said;
      }

-- ---- a transaction of its own

-- CREATE, ALTER, DROP, or a statement of rows
abbrev pub IsOwnKind : Kind → Type 0
IsOwnKind create = Unit {0}
IsOwnKind rows = Unit {0}
IsOwnKind _ = ⊥

pub record IsOwn (o : Option Stmt) (r : Reply) : Type 0 where
  pub kind : IsOwnKind (kind_of o)
  pub plain : IsPlainReply r

-- what left an event is one, where the tables had none of this transaction
pub own_one : (T : Tables) (tx : ℕ) (o : Option Stmt) → Sound tx 0 T → all_events tx (by_statement false tx (start T) o).0.tables ≢ [] → IsOwn o (by_statement false tx (start T) o).1
own_one T tx None sound some = absurd (some (no_events tx T sound.each))
own_one T tx (Some (stmt.Create c)) sound some = record { kind = tt; plain = effect_reply T tx 0 (stmt.Create c) }
own_one T tx (Some (stmt.Index c)) sound some = record { kind = tt; plain = effect_reply T tx 0 (stmt.Index c) }
own_one T tx (Some (stmt.Alter a)) sound some = record { kind = tt; plain = effect_reply T tx 0 (stmt.Alter a) }
own_one T tx (Some (stmt.Drop name)) sound some = record { kind = tt; plain = effect_reply T tx 0 (stmt.Drop name) }
own_one T tx (Some (stmt.Change s)) sound some = record { kind = tt; plain = effect_reply T tx 0 (stmt.Change s) }
own_one T tx (Some (stmt.Select s)) sound some = record { kind = tt; plain = effect_reply T tx 0 (stmt.Select s) }
own_one T tx (Some stmt.Begin) sound some = absurd (some (no_events tx T sound.each))
own_one T tx (Some stmt.Commit) sound some = absurd (some (no_events tx T sound.each))
own_one T tx (Some (stmt.Save name)) sound some = absurd (some (no_events tx T sound.each))
own_one T tx (Some (stmt.Rollback None)) sound some = absurd (some (no_events tx T sound.each))
own_one T tx (Some (stmt.Rollback (Some name))) sound some = absurd (some (no_events tx T sound.each))
own_one T tx (Some stmt.Digest) sound some = absurd (some (no_events tx T sound.each))
own_one T tx (Some stmt.Image) sound some = absurd (some (no_events tx T sound.each))
