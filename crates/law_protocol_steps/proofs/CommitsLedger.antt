-- A commit keeps the ledger legal.
use Rattle.std.proofs.Common.{◌≡◌, ◌≢◌, ℕ, ◌≤◌, Bool, true, false, List, [], ◌∷◌, map, Some, refl, sym, ap, ◌∙◌, inl, inr, arith, ap₂, subst, ◌++◌}
use Rattle.std.specs.Prelude.{◌&&◌}
use Rattle.std.specs.List.{list_all}
use lib.ListN.{get_elem?}
use mathlib.Core.Option.{some}
use Rattle.sql_types.specs.declared.version.Version.{Version}
use Rattle.sql_types.specs.declared.journal.JournalItem.{JournalItem}
use Rattle.sql_types.specs.declared.journal.JournalItem.TheVariants.{Tx}
use Rattle.sql_types.specs.declared.reply.Reply.{Reply}
use Rattle.sql_types.specs.declared.statement.Stmt.{Stmt}
use Rattle.sql_types.specs.declared.statement.Stmt.TheVariants as stmt
use Rattle.spec_model.specs.Catalog.{Tables, versions_of, defs_of}
use Rattle.spec_model.specs.Events.{all_events}
use Rattle.spec_model.specs.Journals.{Line, IsNext, serial}
use Rattle.spec_history.specs.Lists.{Text, In}
use Rattle.spec_history.specs.Transactions.{unfixed}
use Rattle.spec_history.specs.Digests.{Digest}
use Rattle.spec_history.proofs.Trace.{each_weaker}
use Rattle.spec_history.proofs.Grows.{blocks_append, digest_stays}
use Rattle.spec_protocol.specs.Server.{Server}
use Rattle.spec_protocol.specs.Cells.{LedgerCell, Cell}
use Rattle.spec_protocol.specs.Contents.{Contents, Known, contents, known}
use Rattle.spec_protocol.specs.Seats.{Tree, OpenTransaction, StatementProgress, begun, made, replied, SessionStatus, SeatState}
use Rattle.spec_protocol.specs.OpenOnes.{HasOpen, script_so_far, script_end}
use Rattle.spec_model.specs.Touched.{touched}
use Rattle.spec_protocol.specs.EventsIn.{events_in}
use Rattle.spec_protocol.specs.OpenScripts.{counted_in, counted, events_counted, IsOfItsScript}
use Rattle.spec_protocol.specs.TreesAreOfEvents.{HasItsTrees}
use Rattle.spec_protocol.specs.LedgerIsLegal.{IsOfCell, LedgerIsLegal}
use Rattle.spec_protocol.specs.StandTogether.{History, Stands}
use Rattle.spec_protocol.specs.Moves.{InStatement}
use Rattle.spec_protocol.specs.LedgerVisits.{Commits, is_empty, is_read_only, with_item, entry_of_trees, root_of_tree, with_leaves}
use Rattle.law_protocol_steps.proofs.FreshIds.{events_of_touched}
use Rattle.law_protocol_steps.proofs.Ids.{each_in, outside, others}
use Rattle.law_protocol_steps.proofs.JournalMore.{legal_more, none_in_one}
use Rattle.spec_protocol.specs.Leaf.{event_bytes}
use Rattle.sql_types.specs.declared.entry.TxEntry.{TxEntry}
use Rattle.spec_model.specs.SystemTables.{first_tables}
use Rattle.spec_model.specs.Agreement.{IdsFrom}
use Rattle.spec_protocol.specs.Entries.{entry_of, roots_of}
use Rattle.spec_protocol.proofs.Adding.{one_more, serial_more}
use Rattle.spec_protocol.proofs.Roots.{legal_ids}
use Rattle.law_protocol_steps.proofs.EntryRoots.{same_roots}
use Rattle.law_protocol_steps.proofs.SaidMore.{trees_over}
use Rattle.spec_protocol.specs.Ledger as of_journal

-- ---- one item more

module _ (v : Server) (c : LedgerCell) (id time : ℕ) (name : Text) (explicit : Bool) (script : List Line) (entry : TxEntry) where
  abbrev item : JournalItem
  item = Tx id name time explicit script

  abbrev d : LedgerCell
  d = with_item entry item c

  digest_of : (g : Digest) → IsOfCell v c g → IsOfCell v d g
  digest_of g e = record { closed = omega (arith, blocks_append c.items (item ∷ []), e.closed); is = digest_stays v.meaning c.database c.items (item ∷ []) g e.closed e.is }

  pub ledger_more : LedgerIsLegal v c → IsNext v.reads c.items (known v.reads c.items).tables item → entry ≡ entry_of v.hash (serial v.reads (c.items ++ item ∷ [])) id name time → LedgerIsLegal v d
  ledger_more l n is = record {
    legal = legal_more v.reads c.items item l.legal n;
    chain = ap₂ of_journal.commits is l.chain ∙ sym (one_more v.hash v.reads c.items item);
    digests = each_weaker (IsOfCell v c) (IsOfCell v d) digest_of c.issued l.digests;
    some_size = l.some_size;
    most_size = l.most_size;
  }

-- ---- a transaction that left an event

-- who commits is on no way back
pub all_count : (explicit : Bool) (st : Stmt) (stage : StatementProgress) (r : Reply) → Commits explicit st stage r → (tx id : ℕ) (V : List Version) → counted_in tx id stage V ≡ V
all_count true stmt.Commit begun r e tx id V = refl
all_count false st (replied q) r e tx id V = refl
all_count false st (made def true) r e tx id V = refl
all_count explicit st stage r e tx id V = absurd e

-- a tree with a leaf
pub record HasLeaf (trees : List Tree) : Type 0 where
  pub tree : Tree
  pub is : In tree trees
  pub some : tree.leaves ≢ []

empty_or_not : (xs : List Text) → is_empty xs ≡ false → xs ≢ []
empty_or_not [] e = cc
empty_or_not (x ∷ xs) e = λ f. cc

by_first : (t : Tree) (ts : List Tree) (b : Bool) → is_empty t.leaves ≡ b → (b && list_all (λ u. is_empty u.leaves) ts) ≡ false → (list_all (λ u. is_empty u.leaves) ts ≡ false → HasLeaf ts) → HasLeaf (t ∷ ts)
by_first t ts false f e rest = record { tree = t; is = inl refl; some = empty_or_not t.leaves f }
by_first t ts true f e rest = let r = rest e in record { tree = r.tree; is = inr r.is; some = r.some }

has_leaf : (trees : List Tree) → list_all (λ t. is_empty t.leaves) trees ≡ false → HasLeaf trees
has_leaf [] e = cc
has_leaf (t ∷ ts) e = by_first t ts (is_empty t.leaves) refl e (has_leaf ts)

-- ---- the commit

module _ (v : Server) (cells : List Cell) (seats : List SeatState) {history : History} (st : Stands v history cells seats) (j : ℕ) (s : SeatState) (there : get_elem? seats j ≡ some s)
    (p : InStatement v s) (o : OpenTransaction) (open_one : p.x.open_one ≡ Some o) (open_end : o.end ≡ unfixed) (reply : Reply) (commits : Commits o.explicit p.stmt p.stage reply) (acts : is_read_only o ≡ false) where
  abbrev c : Contents
  c = contents cells

  abbrev k : Known
  k = known v.reads st.ledger.items

  pub has : HasOpen seats j p.x o
  has = record { seat = s; there = there; role = p.role; open_one = open_one }

  pub its_script : IsOfItsScript v c k.tables p.x o
  its_script = st.open_scripts j p.x o has open_end

  pub its_trees : HasItsTrees v c k p.x o
  its_trees = st.trees_are_of_events j p.x o has open_end

  -- all its events count
  pub counts : (id : ℕ) (V : List Version) → counted o.id id p.x.place V ≡ V
  counts id V = ap (λ (q : SessionStatus). counted o.id id q V) p.place ∙ all_count o.explicit p.stmt p.stage reply commits o.id id V

  -- what it leaves over the tables of the journal
  abbrev left : Tables
  left = (script_end v k.tables p.x o).state.tables

  pub its_touched : (id : ℕ) → 1 ≤ id → touched o.id (c.versions id) ≡ touched o.id (versions_of left id)
  its_touched id l = sym (ap (touched o.id) (counts id (c.versions id))) ∙ its_script.versions id l

  pub its_events : (id : ℕ) → 1 ≤ id → events_in o.id id (c.versions id) ≡ events_in o.id id (versions_of left id)
  its_events id l = events_of_touched o.id id (c.versions id) ∙ ap (events_in o.id id) (its_touched id l) ∙ sym (events_of_touched o.id id (versions_of left id))

  pub some_event : all_events o.id left ≢ []
  some_event none = let f = has_leaf o.trees acts in let t = f.tree in
      let l : 1 ≤ t.table = each_in (λ (t : Tree). 1 ≤ t.table) o.trees t its_trees.trees.tables f.is in
      f.some (each_in (λ (t : Tree). t.leaves ≡ map event_bytes (events_counted c p.x o t.table)) o.trees t its_trees.trees.leaves f.is
      ∙ ap (map event_bytes) (ap (events_in o.id t.table) (counts t.table (c.versions t.table)) ∙ its_events t.table l ∙ none_in_one o.id t.table left none))

  abbrev lines : List Line
  lines = script_so_far p.x o

  pub next_item : (name : Text) (time : ℕ) → IsNext v.reads st.ledger.items k.tables (Tx o.id name time o.explicit lines)
  next_item name time = (record { replies = its_script.replies; events = some_event }, others o.id st.ledger.items (outside v history st.ledger seats st.transcripts_agree j p.x o has open_end))

  -- the entry made of its trees is that of the journal
  its_entry : (name : Text) (time : ℕ) → entry_of_trees v o name time ≡ entry_of v.hash (serial v.reads (st.ledger.items ++ Tx o.id name time o.explicit lines ∷ [])) o.id name time
  its_entry name time = λ i. record { id = o.id; block = 0; ordinal = 0; time = time; principal = name; roots = same i }
    where
      item : JournalItem
      item = Tx o.id name time o.explicit lines

      tables : serial v.reads (st.ledger.items ++ Tx o.id name time o.explicit lines ∷ []) ≡ left
      tables = serial_more v.reads first_tables st.ledger.items (Tx o.id name time o.explicit lines)

      same : map (root_of_tree v) (with_leaves o.trees) ≡ roots_of v.hash o.id (serial v.reads (st.ledger.items ++ Tx o.id name time o.explicit lines ∷ []))
      same = same_roots v o.id left (subst (λ (T : Tables). IdsFrom 1 (defs_of T)) tables (legal_ids v.reads (st.ledger.items ++ Tx o.id name time o.explicit lines ∷ []) (legal_more v.reads st.ledger.items (Tx o.id name time o.explicit lines) st.ledger_is_legal.legal (next_item name time))))
          some_event o.trees (trees_over v (events_counted c p.x o) (λ id. events_in o.id id (versions_of left id)) o.trees (λ id l. ap (events_in o.id id) (counts id (c.versions id)) ∙ its_events id l) its_trees.trees)
          ∙ ap (roots_of v.hash o.id) (sym tables)

  pub commit_is_legal : (time : ℕ) → LedgerIsLegal v (with_item (entry_of_trees v o p.x.transcript.session time) (Tx o.id p.x.transcript.session time o.explicit lines) st.ledger)
  commit_is_legal time = ledger_more v st.ledger o.id time p.x.transcript.session o.explicit lines (entry_of_trees v o p.x.transcript.session time) st.ledger_is_legal (next_item p.x.transcript.session time) (its_entry p.x.transcript.session time)
