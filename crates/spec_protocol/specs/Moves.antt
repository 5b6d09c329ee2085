-- How a seat is changed.
use Rattle.std.specs.Prelude.{ℕ, ◌≡◌, ◌++◌, ◌==◌, Bool, if◌then◌else◌, List, [], ◌∷◌, max, Option, Some}
use Rattle.std.specs.List.{list_any}
use Rattle.sql_types.specs.declared.statement.Stmt.{Stmt}
use Rattle.spec_model.specs.Journals.{Line}
use Rattle.spec_history.specs.Lists.{Text}
use Rattle.spec_history.specs.Transactions.{End, unfixed}
use Rattle.spec_protocol.specs.Server.{Server}
use Rattle.spec_protocol.specs.Seats.{Tree, OpenSavepoint, OpenTransaction, StatementProgress, SessionStatus, inside, KeptImage, Session, session, SeatState}

-- ---- a transaction

abbrev pub new_transaction : ℕ → Bool → OpenTransaction
new_transaction id explicit = record {
  id = id;
  explicit = explicit;
  script = [];
  seq = 0;
  trees = [];
  open_savepoints = [];
  end = unfixed;
  visited = [];
  released = [];
}

abbrev pub put_in : ℕ → List ℕ → List ℕ
put_in i is = if list_any (λ k. k == i) is then is else i ∷ is

-- it visits a cell in which it may take locks
abbrev pub visiting : ℕ → OpenTransaction → OpenTransaction
visiting i o = record {
  id = o.id;
  explicit = o.explicit;
  script = o.script;
  seq = o.seq;
  trees = o.trees;
  open_savepoints = o.open_savepoints;
  end = o.end;
  visited = put_in i o.visited;
  released = o.released;
}

-- it made events up to this number, and has these trees
abbrev pub noting : ℕ → List Tree → OpenTransaction → OpenTransaction
noting seq trees o = record {
  id = o.id;
  explicit = o.explicit;
  script = o.script;
  seq = seq;
  trees = trees;
  open_savepoints = o.open_savepoints;
  end = o.end;
  visited = o.visited;
  released = o.released;
}

-- a statement of its script is certain
abbrev pub saying : Line → OpenTransaction → OpenTransaction
saying line o = record {
  id = o.id;
  explicit = o.explicit;
  script = o.script ++ line ∷ [];
  seq = o.seq;
  trees = o.trees;
  open_savepoints = o.open_savepoints;
  end = o.end;
  visited = o.visited;
  released = o.released;
}

-- its end is fixed, with this script
abbrev pub ending : End → List Line → OpenTransaction → OpenTransaction
ending e script o = record {
  id = o.id;
  explicit = o.explicit;
  script = script;
  seq = o.seq;
  trees = o.trees;
  open_savepoints = o.open_savepoints;
  end = e;
  visited = o.visited;
  released = o.released;
}

-- it has released a cell
abbrev pub releasing : ℕ → OpenTransaction → OpenTransaction
releasing i o = record {
  id = o.id;
  explicit = o.explicit;
  script = o.script;
  seq = o.seq;
  trees = o.trees;
  open_savepoints = o.open_savepoints;
  end = o.end;
  visited = o.visited;
  released = i ∷ o.released;
}

-- its counter, trees and frames are these
abbrev pub with_undo_state : ℕ → List Tree → List OpenSavepoint → OpenTransaction → OpenTransaction
with_undo_state seq trees open_savepoints o = record {
  id = o.id;
  explicit = o.explicit;
  script = o.script;
  seq = seq;
  trees = trees;
  open_savepoints = open_savepoints;
  end = o.end;
  visited = o.visited;
  released = o.released;
}

-- ---- a session

abbrev pub at_place : Option OpenTransaction → SessionStatus → Session → Session
at_place open_one place x = record {
  transcript = x.transcript;
  images = x.images;
  moments = x.moments;
  open_one = open_one;
  place = place;
  earlier = x.earlier;
}

-- at this moment it committed, or was issued a digest
abbrev pub at_moment : ℕ → Session → Session
at_moment time x = record {
  transcript = x.transcript;
  images = x.images;
  moments = x.moments ++ time ∷ [];
  open_one = x.open_one;
  place = x.place;
  earlier = x.earlier;
}

abbrev pub keeping : KeptImage → Session → Session
keeping image x = record {
  transcript = x.transcript;
  images = x.images ++ image ∷ [];
  moments = x.moments;
  open_one = x.open_one;
  place = x.place;
  earlier = x.earlier;
}

-- ---- a seat

abbrev pub sits : SeatState → Session → SeatState
sits s x = record {
  present = s.present;
  role = session x;
  database = s.database;
  block_size = s.block_size;
  written = s.written;
  least = s.least;
  greatest = s.greatest;
  earlier = s.earlier;
}

-- it has this mark besides
abbrev pub marking : ℕ → SeatState → SeatState
marking mark s = record {
  present = s.present;
  role = s.role;
  database = s.database;
  block_size = s.block_size;
  written = s.written;
  least = s.least;
  greatest = max s.greatest mark;
  earlier = s.earlier;
}

-- ---- where a seat stands

-- in a statement of the grammar, so far
pub record InStatement (v : Server) (s : SeatState) : Type 0 where
  pub x : Session
  pub role : s.role ≡ session x
  pub text : Text
  pub stage : StatementProgress
  pub place : x.place ≡ inside text stage
  pub stmt : Stmt
  pub is : v.reads text ≡ Some stmt

-- with an open transaction whose end isn't fixed
pub record InOpenTransaction (v : Server) (s : SeatState) (o : OpenTransaction) : Type 0 where
  pub stands : InStatement v s
  pub open_one : stands.x.open_one ≡ Some o
  pub unfixed : o.end ≡ unfixed

-- the seat with this transaction, at this stage of the same statement
abbrev pub then_at : {v : Server} → (s : SeatState) → InStatement v s → Option OpenTransaction → StatementProgress
    → SeatState
then_at s p open_one stage = sits s (at_place open_one (inside p.text stage) p.x)
