-- What a seat does between two visits: it changes nothing but itself.
use Rattle.std.specs.Prelude.{ℕ, ◌≡◌, ◌++◌, ◌<◌, Bool, true, List, [], ◌∷◌, map, length, Option, Some, None, nat_le}
use Rattle.std.specs.List.{filter}
use Rattle.sql_value.specs.declared.refusal.Refusal.{Refusal}
use Rattle.sql_value.specs.declared.refusal.Refusal.TheVariants.{NoSuchSavepoint, LimitExceeded, NoMemory}
use Rattle.sql_types.specs.declared.reply.Reply.{Reply}
use Rattle.sql_types.specs.declared.reply.Reply.TheVariants as reply
use Rattle.sql_types.specs.declared.statement.Stmt.TheVariants as stmt
use Rattle.sql_types.specs.declared.table.TableDef.{TableDef}
use Rattle.spec_model.specs.Limits.{max_savepoints}
use Rattle.spec_model.specs.Replies.{reply_text}
use Rattle.spec_model.specs.Catalog.{NamedPart}
use Rattle.spec_history.specs.Lists.{Text, Each, In}
use Rattle.spec_history.specs.Transcripts.{EndLine, statement, end_of_session}
use Rattle.spec_history.specs.Transactions.{unfixed}
use Rattle.spec_protocol.specs.Server.{Server}
use Rattle.spec_protocol.specs.Seats.{OpenSavepoint, OpenTransaction, begun, found, going_back, answering, SessionStatus, between, inside, leaving, Session, Role, idle, session, builder, SeatState}
use Rattle.spec_protocol.specs.Moves.{saying, with_undo_state, at_place, sits, InOpenTransaction, then_at}
use Rattle.spec_protocol.specs.Doing.{done, stage_refused}
use Rattle.spec_protocol.specs.Answering.{refused_inside, refused_outside, refused_by_check, savepoints_from, end_line, with_entry, written_of}

-- a session that begins at this seat
abbrev pub new_session : Text → SeatState → Session
new_session name s =
    record {
      transcript = record { session = name; entries = [] };
      images = [];
      moments = [];
      open_one = None;
      place = between;
      earlier = s.earlier ++ map (λ x. x.transcript) s.written;
    }

abbrev pub with_role : Role → SeatState → SeatState
with_role role s = record {
  present = s.present;
  role = role;
  database = s.database;
  block_size = s.block_size;
  written = s.written;
  least = s.least;
  greatest = s.greatest;
  earlier = s.earlier;
}

-- its session is over
abbrev pub over : Session → SeatState → SeatState
over x s = record {
  present = s.present;
  role = idle;
  database = s.database;
  block_size = s.block_size;
  written = s.written ++ written_of x ∷ [];
  least = s.least;
  greatest = s.greatest;
  earlier = s.earlier;
}

-- nothing is left to be released
abbrev pub IsReleased : OpenTransaction → Type 0
IsReleased o = Each (λ i. In i o.released) o.visited

-- the end of a transaction, if one is open, isn't fixed
abbrev pub IsUnfixed : Option OpenTransaction → Type 0
IsUnfixed None = Unit {0}
IsUnfixed (Some o) = o.end ≡ unfixed

-- a transaction that BEGIN opened goes on
abbrev pub GoesOn : Option OpenTransaction → Type 0
GoesOn None = Unit {0}
GoesOn (Some o) = (o.end ≡ unfixed) × (o.explicit ≡ true)

-- the session at the seat stands here
pub record IsAt (s : SeatState) (x : Session) (place : SessionStatus) : Type 0 where
  pub role : s.role ≡ session x
  pub here : x.place ≡ place

-- the tables' cells in which it may have starts and ends
abbrev pub tables_visited : OpenTransaction → List ℕ
tables_visited o = filter (λ i. nat_le 1 i) o.visited

pub data Alone (v : Server) (s : SeatState) : SeatState → Type 0 where
  -- ---- sessions
  begins : (name : Text) → s.present ≡ true → s.role ≡ idle → Alone v s (sits s (new_session name s))
  builds : s.present ≡ true → s.role ≡ idle → Alone v s (with_role builder s)
  rests : s.role ≡ builder → Alone v s (with_role idle s)
  takes : (x : Session) (text : Text) → IsAt s x between → GoesOn x.open_one
      → Alone v s (sits s (at_place x.open_one (inside text begun) x))
  -- a session's end, where a transaction is open
  leaves : (x : Session) (o : OpenTransaction) → IsAt s x between → x.open_one ≡ Some o → o.end ≡ unfixed
      → o.explicit ≡ true → Alone v s (sits s (at_place (Some o) leaving x))
  -- and where none is
  stops : (x : Session) → IsAt s x between → x.open_one ≡ None → Alone v s (over x s)
  -- ---- statements that need no cell
  refused_in : (x : Session) (o : OpenTransaction) (text : Text) (e : Refusal) → IsAt s x (inside text begun)
      → x.open_one ≡ Some o → o.end ≡ unfixed → o.explicit ≡ true
      → refused_inside (v.reads text) ≡ Some e → Alone v s (sits s
      (at_place (Some (saying (text, reply_text (reply.Refused e)) o))
      (inside text (answering (reply.Refused e) None)) x))
  refused_out : (x : Session) (text : Text) (e : Refusal) → IsAt s x (inside text begun) → x.open_one ≡ None
      → refused_outside (length x.images) (v.reads text) ≡ Some e
      → Alone v s (sits s (at_place None (inside text (answering (reply.Refused e) None)) x))
  -- what is checked before any row
  refused_checked : (o : OpenTransaction) (at : InOpenTransaction v s o) (named : Option NamedPart) (fresh : Bool)
      (e : Refusal) → at.stands.stage ≡ found named fresh
      → refused_by_check named at.stands.stmt ≡ Some e → Alone v s (done s at.stands o (reply.Refused e))
  -- no memory, before it visits a cell or after it visited the catalog's
  no_memory : (x : Session) (text : Text) → IsAt s x (inside text begun) → IsUnfixed x.open_one
      → Alone v s (sits s (at_place x.open_one (inside text (answering (reply.Refused NoMemory) None)) x))
  no_memory_then : (o : OpenTransaction) (at : InOpenTransaction v s o) (named : Option NamedPart) (fresh : Bool)
      → at.stands.stage ≡ found named fresh
      → Alone v s (then_at s at.stands (Some o) (stage_refused fresh (reply.Refused NoMemory)))
  -- ---- savepoints
  saves : (o : OpenTransaction) (at : InOpenTransaction v s o) (name : Text) → at.stands.stage ≡ begun
      → o.explicit ≡ true → at.stands.stmt ≡ stmt.Save name → length o.open_savepoints < max_savepoints
      → Alone v s (done s at.stands (with_undo_state o.seq o.trees (record {
        name = name;
        seq = o.seq;
        trees = o.trees;
      } ∷ o.open_savepoints) o) reply.Saved)
  has_too_many : (o : OpenTransaction) (at : InOpenTransaction v s o) (name : Text) → at.stands.stage ≡ begun
      → o.explicit ≡ true → at.stands.stmt ≡ stmt.Save name → length o.open_savepoints ≡ max_savepoints
      → Alone v s (done s at.stands o (reply.Refused LimitExceeded))
  goes_back : (o : OpenTransaction) (at : InOpenTransaction v s o) (name : Text) (f : OpenSavepoint) (fs : List OpenSavepoint)
      → at.stands.stage ≡ begun → o.explicit ≡ true → at.stands.stmt ≡ stmt.Rollback (Some name)
      → savepoints_from name o.open_savepoints ≡ f ∷ fs → Alone v s (then_at s at.stands
      (Some (with_undo_state f.seq f.trees (f ∷ fs) o)) (going_back f.seq (tables_visited o)))
  has_no_savepoint : (o : OpenTransaction) (at : InOpenTransaction v s o) (name : Text) → at.stands.stage ≡ begun
      → o.explicit ≡ true → at.stands.stmt ≡ stmt.Rollback (Some name)
      → savepoints_from name o.open_savepoints ≡ [] → Alone v s (done s at.stands o (reply.Refused NoSuchSavepoint))
  is_back : (o : OpenTransaction) (at : InOpenTransaction v s o) (seq : ℕ) → at.stands.stage ≡ going_back seq []
      → Alone v s (done s at.stands o reply.Back)
  -- ---- answers
  answers : (x : Session) (text : Text) (r : Reply) → IsAt s x (inside text (answering r None))
      → GoesOn x.open_one
      → Alone v s (sits s (with_entry (statement text r None) x.open_one between x))
  -- with the end line of a transaction that holds nothing any more
  answers_end : (x : Session) (o : OpenTransaction) (text : Text) (r : Reply) (def : Option TableDef)
      (line : EndLine) → IsAt s x (inside text (answering r def)) → x.open_one ≡ Some o
      → end_line o o.end ≡ Some line
      → IsReleased o → Alone v s (sits s (with_entry (statement text r (Some line)) None between x))
  has_left : (x : Session) (o : OpenTransaction) (line : EndLine) → IsAt s x leaving → x.open_one ≡ Some o
      → end_line o o.end ≡ Some line
      → IsReleased o → Alone v s (over (with_entry (end_of_session line) None between x) s)

-- one after another
pub data Alones (v : Server) (s : SeatState) : SeatState → Type 0 where
  none : Alones v s s
  more : {t u : SeatState} → Alones v s t → Alone v t u → Alones v s u
