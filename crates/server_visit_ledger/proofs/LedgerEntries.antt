-- The entry of a transaction that commits is the one that the law gives it, and has a spelling.
use Rattle.std.proofs.Common.{◌≡◌, ◌<◌, ◌≤◌, ℕ, true, false, List, [], ◌∷◌, ◌++◌, Some, length, map, sym, ap, ◌∙◌, subst, arith}
use Rattle.std.specs.List.{AllByRecursion}
use lib.ListN.{get_elem?}
use mathlib.Core.Option.{some}
use Rattle.base_types.specs.Ids.{is_tx_id}
use Rattle.base_types.specs.Moment.{is_moment}
use Rattle.base_types.specs.SessionName.{is_session_name}
use Rattle.sql_types.specs.declared.journal.JournalItem.{JournalItem}
use Rattle.sql_types.specs.declared.journal.JournalItem.TheVariants.{Tx}
use Rattle.sql_types.specs.declared.reply.Reply.{Reply}
use Rattle.spec_model.specs.Agreement.{IdsFrom}
use Rattle.spec_model.specs.Catalog.{Tables, defs_of, versions_of}
use Rattle.spec_model.specs.Journals.{IsLegal, IsNext, serial}
use Rattle.spec_model.specs.SystemTables.{first_tables}
use Rattle.law_journal.proofs.Serials.{legal_described}
use Rattle.server_session.specs.Lists.{Text}
use Rattle.server_session.specs.Transactions.{unfixed}
use Rattle.server_session.specs.Entry.{IsEntry, IsRoot, tables_rise}
use Rattle.server_session.specs.Entries.{roots_of}
use Rattle.server_session.proofs.Adding.{serial_more}
use Rattle.server_session.proofs.Roots.{legal_ids, roots_rise}
use Rattle.law_image.proofs.Entries.{roots_are, few_roots}
use Rattle.server_session.specs.Cells.{Cell}
use Rattle.server_session.specs.Contents.{contents, known}
use Rattle.server_session.specs.EventsIn.{events_in}
use Rattle.server_session.specs.LedgerVisits.{Commits, is_read_only, root_of_tree, with_leaves}
use Rattle.server_session.specs.Moves.{InStatement}
use Rattle.server_session.specs.OpenOnes.{script_so_far, script_end}
use Rattle.server_session.specs.OpenScripts.{events_counted}
use Rattle.server_session.specs.Seats.{OpenTransaction, SeatState}
use Rattle.server_session.specs.Server.{Server}
use Rattle.server_session.specs.StandTogether.{History, Stands}
use Rattle.law_protocol_steps.proofs.CommitsLedger as commits
use Rattle.law_protocol_steps.proofs.EntryRoots.{same_roots}
use Rattle.law_protocol_steps.proofs.JournalMore.{legal_more}
use Rattle.law_protocol_steps.proofs.SaidMore.{trees_over}
use Rattle.server_session.specs.Roots.{Root}
use Rattle.store_ledger.specs.Commits.{new_entry}

module _ (v : Server) (cells : List Cell) (seats : List SeatState) {history : History} (st : Stands v history cells seats) (j : ℕ) (s : SeatState) (there : get_elem? seats j ≡ some s)
    (p : InStatement v s) (o : OpenTransaction) (open_one : p.x.open_one ≡ Some o) (free : o.end ≡ unfixed) (reply : Reply) (may : Commits o.explicit p.stmt p.stage reply) (acts : is_read_only o ≡ false) where
  -- what it leaves over the tables of the journal
  abbrev left : Tables
  left = (script_end v (known v.reads st.ledger.items).tables p.x o).state.tables

  abbrev item : JournalItem
  item = Tx o.id p.x.transcript.session 0 o.explicit (script_so_far p.x o)

  abbrev with_it : List JournalItem
  with_it = st.ledger.items ++ item ∷ []

  next : IsNext v.reads st.ledger.items (known v.reads st.ledger.items).tables item
  next = commits.next_item v cells seats st j s there p o open_one free reply may acts p.x.transcript.session 0

  legal : IsLegal v.reads with_it
  legal = legal_more v.reads st.ledger.items item st.ledger_is_legal.legal next

  same : serial v.reads with_it ≡ left
  same = serial_more v.reads first_tables st.ledger.items item

  ids : IdsFrom 1 (defs_of left)
  ids = subst (λ (T : Tables). IdsFrom 1 (defs_of T)) same (legal_ids v.reads with_it legal)

  few : length (defs_of left) ≤ 34
  few = subst (λ (T : Tables). length (defs_of T) ≤ 34) same (legal_described v.reads with_it legal).count

  roots_there : map (root_of_tree v) (with_leaves o.trees) ≡ roots_of v.hash o.id left
  roots_there = same_roots v o.id left ids next.0.events o.trees
      (trees_over v (events_counted (contents cells) p.x o) (λ id. events_in o.id id (versions_of left id)) o.trees
      (λ id l. ap (events_in o.id id) (commits.counts v cells seats st j s there p o open_one free reply may acts id ((contents cells).versions id)) ∙ commits.its_events v cells seats st j s there p o open_one free reply may acts id l)
      (commits.its_trees v cells seats st j s there p o open_one free reply may acts).trees)

  pub its_entry_fits : ((bytes : List ℕ) → length (v.hash bytes) ≡ 32) → (id : ℕ) (name : Text) (time : ℕ) (roots : List Root) → is_tx_id id ≡ true → is_session_name name ≡ true → is_moment time ≡ true
      → roots ≡ map (root_of_tree v) (with_leaves o.trees) → IsEntry (new_entry id name time roots)
  its_entry_fits sized id name time roots is_id is_name is_time are = record {
    id = is_id;
    block = omega arith;
    ordinal = omega arith;
    time = is_time;
    principal = is_name;
    count = subst (λ (rs : List Root). length rs < 256) back (few_roots v.hash sized o.id left few);
    roots = subst (λ (rs : List Root). AllByRecursion IsRoot rs) back (roots_are v.hash sized o.id left ids few);
    rise = subst (λ (rs : List Root). tables_rise rs ≡ true) back (roots_rise v.hash o.id left ids next.0.events);
  }
    where
      back : roots_of v.hash o.id left ≡ roots
      back = sym (are ∙ roots_there)
