-- Each visit closes blocks in step, where it waits for a full block to be closed.
use Rattle.std.proofs.Common.{◌≡◌, ◌≢◌, ℕ, ◌<◌, ◌≤◌, ◌+◌, true, List, [], ◌∷◌, length, Some, slice_set, sym, ap, subst, ◌∙◌}
use Rattle.std.specs.Prelude.{◌==◌}
use mathlib.Core.Option.{some, some-injective}
use lib.ListN.{get_elem?}
use Rattle.sql_types.specs.declared.journal.JournalItem.TheVariants.{Tx}
use Rattle.spec_model.specs.Journals.{tx_count}
use Rattle.spec_history.specs.Acts.{keeps}
use Rattle.spec_history.specs.Histories.{Due, full_or}
use Rattle.spec_history.specs.Lists.{Each}
use Rattle.spec_protocol.specs.Cells.{CatalogCell, LedgerCell, TableCell, Cell, Catalog, Ledger, Rows, AreCells, ledger_at, pending_in}
use Rattle.spec_protocol.specs.AnonymousActs.{AnonymousAct, did, closed, visit_anonymous_acts}
use Rattle.spec_protocol.specs.LedgerVisits.{entry_of_trees}
use Rattle.spec_protocol.specs.OpenOnes.{lines_at, script_so_far}
use Rattle.spec_protocol.specs.Seats.{SeatState}
use Rattle.spec_protocol.specs.Server.{Server}
use Rattle.spec_protocol.specs.Visits as visit
use Rattle.spec_protocol.specs.Visits.{Visit, Happens}
use Rattle.law_protocol.proofs.LedgerVisit.{the_ledger, lies_there}
use Rattle.spec_protocol.proofs.Places.{set_here, set_else, set_same}
use Rattle.law_sequential.specs.InStep.{InStep, due_in, Waits}
use Rattle.law_sequential.proofs.Calm.{Calm, Still, calm_still, done_calm, failed_in_calm, stopped_calm, end_calm, still_in_step}
use Rattle.law_sequential.proofs.LedgerInStep.{commit_in_step, close_in_step, issue_in_step, due_below}

-- ---- most visits

-- one that neither commits nor closes, issues a digest or keeps an image
abbrev IsCalm : Visit → Type 0
IsCalm (visit.commit time) = ⊥
IsCalm (visit.close k) = ⊥
IsCalm (visit.issue moment) = ⊥
IsCalm visit.keep = ⊥
IsCalm _ = Unit {0}

visit_calm : (v : Server) (out : List (ℕ × Cell)) (how : Visit) (a : Cell) (s : SeatState) (b : Cell) (t : SeatState) → IsCalm how → (h : Happens v out how a s b t) → Each Calm (visit_anonymous_acts v out how a s b t h)
visit_calm v out (visit.assign_id explicit) (Ledger a) s (Ledger b) t calm h = (tt, tt)
visit_calm v out visit.look (Catalog a) s (Catalog b) t calm h = (tt, tt)
visit_calm v out visit.read_system (Catalog a) s (Catalog b) t calm h = (tt, done_calm h.o.explicit h.at.stands.text true _)
visit_calm v out visit.create_table (Catalog a) s (Catalog b) t calm h = (tt, tt)
visit_calm v out visit.create_index (Catalog a) s (Catalog b) t calm h = (tt, tt)
visit_calm v out visit.alter_table (Catalog a) s (Catalog b) t calm h = (tt, tt)
visit_calm v out visit.refuse_create (Catalog a) s (Catalog b) t calm h = (tt, tt)
visit_calm v out visit.stop_in_catalog (Catalog a) s (Catalog b) t calm h = stopped_calm h.0.stopped h.0.at.stands.text _ (failed_in_calm v.meaning (Some h.0.o) h.0.at.stands.text)
visit_calm v out visit.change (Rows a) s (Rows b) t calm h = done_calm h.o.explicit h.at.at.stands.text true _
visit_calm v out visit.refuse_change (Rows a) s (Rows b) t calm h = done_calm h.o.explicit h.at.at.stands.text true _
visit_calm v out visit.read (Rows a) s (Rows b) t calm h = done_calm h.o.explicit h.at.at.stands.text true _
visit_calm v out visit.stop_in_table (Rows a) s (Rows b) t calm h = stopped_calm h.0.stopped h.0.at.at.stands.text _ (tt, tt)
visit_calm v out visit.add_index (Rows a) s (Rows b) t calm h = tt
visit_calm v out visit.undo_to (Rows a) s (Rows b) t calm h = tt
visit_calm v out visit.read_point (Ledger a) s (Ledger b) t calm h = end_calm h.0.ends (tx_count a.items)
visit_calm v out visit.release (Rows a) s (Rows b) t calm h = tt
visit_calm v out visit.release_catalog (Catalog a) s (Catalog b) t calm h = tt
visit_calm v out visit.give_back (Catalog a) s (Catalog b) t calm h = tt
visit_calm v out visit.lack_block (Ledger a) s (Ledger b) t calm h = (tt, tt)
visit_calm v out visit.nothing a s b t calm h = tt
visit_calm v out (visit.commit time) a s b t calm h = absurd calm
visit_calm v out (visit.close k) a s b t calm h = absurd calm
visit_calm v out (visit.issue moment) a s b t calm h = absurd calm
visit_calm v out visit.keep a s b t calm h = absurd calm
visit_calm v out how a s b t calm h = absurd h

-- ---- closings

-- the ledger's cell then, and what the next closing depends on
pub record LedgerAfter (N : ℕ) (cells : List Cell) (i : ℕ) (d : Cell) (l : LedgerCell) (anonymous_acts : List AnonymousAct) : Type 0 where
  pub ledger : LedgerCell
  pub there : get_elem? (slice_set cells i d) ledger_at ≡ some (Ledger ledger)
  pub closes : InStep N (due_in N l) anonymous_acts (due_in N ledger)

not_catalog : (catalog : CatalogCell) (ledger : LedgerCell) → some (Catalog catalog) ≡ some (Ledger ledger) → ⊥
not_catalog catalog ledger e = let f : Catalog catalog ≡ Ledger ledger = some-injective (Catalog catalog) (Ledger ledger) e in cc

not_rows : (table : TableCell) (ledger : LedgerCell) → some (Rows table) ≡ some (Ledger ledger) → ⊥
not_rows table ledger e = let f : Rows table ≡ Ledger ledger = some-injective (Rows table) (Ledger ledger) e in cc

all_still : (ds : List AnonymousAct) → Each Calm ds → Each Still ds
all_still [] h = tt
all_still (d ∷ ds) h = (calm_still d h.0, all_still ds h.1)

module _ (v : Server) (N : ℕ) (some_size : 1 ≤ N) (cells : List Cell) (catalog : CatalogCell) (l : LedgerCell) (are : AreCells cells catalog l) (size : l.block_size ≡ N) (out : List (ℕ × Cell)) (i : ℕ) where
  abbrev Then : Cell → List AnonymousAct → Type 0
  Then d anonymous_acts = LedgerAfter N cells i d l anonymous_acts

  stays : (anonymous_acts : List AnonymousAct) → Each Calm anonymous_acts → InStep N (due_in N l) anonymous_acts (due_in N l)
  stays anonymous_acts calm = still_in_step N (pending_in l == N) (pending_in l) anonymous_acts (all_still anonymous_acts calm)

  else_there : (d : Cell) → ledger_at ≢ i → get_elem? (slice_set cells i d) ledger_at ≡ some (Ledger l)
  else_there d ne = set_else cells i ledger_at d ne ∙ are.has_ledger

  in_catalog : (a : CatalogCell) (d : Cell) (anonymous_acts : List AnonymousAct) → get_elem? cells i ≡ some (Catalog a) → Each Calm anonymous_acts → Then d anonymous_acts
  in_catalog a d anonymous_acts e calm = record { ledger = l; there = else_there d (λ same. not_catalog a l (sym e ∙ ap (get_elem? cells) (sym same) ∙ are.has_ledger)); closes = stays anonymous_acts calm }

  in_table : (a : TableCell) (d : Cell) (anonymous_acts : List AnonymousAct) → get_elem? cells i ≡ some (Rows a) → Each Calm anonymous_acts → Then d anonymous_acts
  in_table a d anonymous_acts e calm = record { ledger = l; there = else_there d (λ same. not_rows a l (sym e ∙ ap (get_elem? cells) (sym same) ∙ are.has_ledger)); closes = stays anonymous_acts calm }

  -- the cell is as it was
  unchanged : (a d : Cell) (anonymous_acts : List AnonymousAct) → get_elem? cells i ≡ some a → d ≡ a → InStep N (due_in N l) anonymous_acts (due_in N l) → Then d anonymous_acts
  unchanged a d anonymous_acts e same h = record { ledger = l; there = ap (λ (c : Cell). get_elem? (slice_set cells i c) ledger_at) same ∙ ap (λ (cs : List Cell). get_elem? cs ledger_at) (set_same cells i a e) ∙ are.has_ledger; closes = h }

  -- it is the ledger's
  is_ledger : (a : LedgerCell) → get_elem? cells i ≡ some (Ledger a) → a ≡ l
  is_ledger a e = the_ledger cells catalog l a are (ap (get_elem? cells) (sym (lies_there cells catalog l a are i e)) ∙ e)

  in_ledger : (a d : LedgerCell) (anonymous_acts : List AnonymousAct) → get_elem? cells i ≡ some (Ledger a) → InStep N (due_in N a) anonymous_acts (due_in N d) → Then (Ledger d) anonymous_acts
  in_ledger a d anonymous_acts e h = record {
    ledger = d;
    there = ap (λ (k : ℕ). get_elem? (slice_set cells i (Ledger d)) k) (sym (lies_there cells catalog l a are i e)) ∙ set_here cells i (Ledger d) (Ledger a) e;
    closes = subst (λ (c : LedgerCell). InStep N (due_in N c) anonymous_acts (due_in N d)) (is_ledger a e) h;
  }

  as_many_pending : (a d : LedgerCell) (anonymous_acts : List AnonymousAct) → pending_in d ≡ pending_in a → Each Calm anonymous_acts → InStep N (due_in N a) anonymous_acts (due_in N d)
  as_many_pending a d anonymous_acts same calm = subst (λ (x : Due). InStep N (due_in N a) anonymous_acts x) (ap (λ (n : ℕ). full_or (n == N) n) (sym same)) (still_in_step N (pending_in a == N) (pending_in a) anonymous_acts (all_still anonymous_acts calm))

  sized : (a : LedgerCell) → get_elem? cells i ≡ some (Ledger a) → a.block_size ≡ N
  sized a e = ap (λ (c : LedgerCell). c.block_size) (is_ledger a e) ∙ size

  below : (a : LedgerCell) → get_elem? cells i ≡ some (Ledger a) → pending_in l < N → pending_in a < N
  below a e less = subst (λ (c : LedgerCell). pending_in c < N) (sym (is_ledger a e)) less

  keeps_one : pending_in l < N → (items mark : ℕ) → InStep N (due_in N l) (did (keeps items mark) ∷ []) (due_in N l)
  keeps_one less items mark = subst (λ (x : Due). InStep N x (did (keeps items mark) ∷ []) (due_in N l)) (sym (due_below N l less)) (sym (due_below N l less))

  pub visit_in_step : (how : Visit) (a : Cell) (s : SeatState) (b : Cell) (t : SeatState) → get_elem? cells i ≡ some a → Waits N l how → (h : Happens v out how a s b t) → Then b (visit_anonymous_acts v out how a s b t h)
  visit_in_step (visit.assign_id explicit) (Ledger a) s (Ledger b) t e w h = in_ledger a b (visit_anonymous_acts v out (visit.assign_id explicit) (Ledger a) s (Ledger b) t h) e (as_many_pending a b (visit_anonymous_acts v out (visit.assign_id explicit) (Ledger a) s (Ledger b) t h) (ap (λ (c : LedgerCell). pending_in c) h.cell) (visit_calm v out (visit.assign_id explicit) (Ledger a) s (Ledger b) t tt h))
  visit_in_step visit.look (Catalog a) s (Catalog b) t e w h = in_catalog a (Catalog b) (visit_anonymous_acts v out visit.look (Catalog a) s (Catalog b) t h) e (visit_calm v out visit.look (Catalog a) s (Catalog b) t tt h)
  visit_in_step visit.read_system (Catalog a) s (Catalog b) t e w h = in_catalog a (Catalog b) (visit_anonymous_acts v out visit.read_system (Catalog a) s (Catalog b) t h) e (visit_calm v out visit.read_system (Catalog a) s (Catalog b) t tt h)
  visit_in_step visit.create_table (Catalog a) s (Catalog b) t e w h = in_catalog a (Catalog b) (visit_anonymous_acts v out visit.create_table (Catalog a) s (Catalog b) t h) e (visit_calm v out visit.create_table (Catalog a) s (Catalog b) t tt h)
  visit_in_step visit.create_index (Catalog a) s (Catalog b) t e w h = in_catalog a (Catalog b) (visit_anonymous_acts v out visit.create_index (Catalog a) s (Catalog b) t h) e (visit_calm v out visit.create_index (Catalog a) s (Catalog b) t tt h)
  visit_in_step visit.alter_table (Catalog a) s (Catalog b) t e w h = in_catalog a (Catalog b) (visit_anonymous_acts v out visit.alter_table (Catalog a) s (Catalog b) t h) e (visit_calm v out visit.alter_table (Catalog a) s (Catalog b) t tt h)
  visit_in_step visit.refuse_create (Catalog a) s (Catalog b) t e w h = in_catalog a (Catalog b) (visit_anonymous_acts v out visit.refuse_create (Catalog a) s (Catalog b) t h) e (visit_calm v out visit.refuse_create (Catalog a) s (Catalog b) t tt h)
  visit_in_step visit.stop_in_catalog (Catalog a) s (Catalog b) t e w h = in_catalog a (Catalog b) (visit_anonymous_acts v out visit.stop_in_catalog (Catalog a) s (Catalog b) t h) e (visit_calm v out visit.stop_in_catalog (Catalog a) s (Catalog b) t tt h)
  visit_in_step visit.change (Rows a) s (Rows b) t e w h = in_table a (Rows b) (visit_anonymous_acts v out visit.change (Rows a) s (Rows b) t h) e (visit_calm v out visit.change (Rows a) s (Rows b) t tt h)
  visit_in_step visit.refuse_change (Rows a) s (Rows b) t e w h = in_table a (Rows b) (visit_anonymous_acts v out visit.refuse_change (Rows a) s (Rows b) t h) e (visit_calm v out visit.refuse_change (Rows a) s (Rows b) t tt h)
  visit_in_step visit.read (Rows a) s (Rows b) t e w h = in_table a (Rows b) (visit_anonymous_acts v out visit.read (Rows a) s (Rows b) t h) e (visit_calm v out visit.read (Rows a) s (Rows b) t tt h)
  visit_in_step visit.stop_in_table (Rows a) s (Rows b) t e w h = in_table a (Rows b) (visit_anonymous_acts v out visit.stop_in_table (Rows a) s (Rows b) t h) e (visit_calm v out visit.stop_in_table (Rows a) s (Rows b) t tt h)
  visit_in_step visit.add_index (Rows a) s (Rows b) t e w h = in_table a (Rows b) (visit_anonymous_acts v out visit.add_index (Rows a) s (Rows b) t h) e (visit_calm v out visit.add_index (Rows a) s (Rows b) t tt h)
  visit_in_step visit.undo_to (Rows a) s (Rows b) t e w h = in_table a (Rows b) (visit_anonymous_acts v out visit.undo_to (Rows a) s (Rows b) t h) e (visit_calm v out visit.undo_to (Rows a) s (Rows b) t tt h)
  visit_in_step visit.read_point (Ledger a) s (Ledger b) t e w h = in_ledger a b (visit_anonymous_acts v out visit.read_point (Ledger a) s (Ledger b) t h) e (as_many_pending a b (visit_anonymous_acts v out visit.read_point (Ledger a) s (Ledger b) t h) (ap (λ (c : LedgerCell). pending_in c) h.1) (visit_calm v out visit.read_point (Ledger a) s (Ledger b) t tt h))
  visit_in_step visit.release (Rows a) s (Rows b) t e w h = in_table a (Rows b) (visit_anonymous_acts v out visit.release (Rows a) s (Rows b) t h) e (visit_calm v out visit.release (Rows a) s (Rows b) t tt h)
  visit_in_step visit.release_catalog (Catalog a) s (Catalog b) t e w h = in_catalog a (Catalog b) (visit_anonymous_acts v out visit.release_catalog (Catalog a) s (Catalog b) t h) e (visit_calm v out visit.release_catalog (Catalog a) s (Catalog b) t tt h)
  visit_in_step visit.give_back (Catalog a) s (Catalog b) t e w h = in_catalog a (Catalog b) (visit_anonymous_acts v out visit.give_back (Catalog a) s (Catalog b) t h) e (visit_calm v out visit.give_back (Catalog a) s (Catalog b) t tt h)
  visit_in_step visit.lack_block (Ledger a) s (Ledger b) t e w h = in_ledger a b (visit_anonymous_acts v out visit.lack_block (Ledger a) s (Ledger b) t h) e (as_many_pending a b (visit_anonymous_acts v out visit.lack_block (Ledger a) s (Ledger b) t h) (ap (λ (c : LedgerCell). pending_in c) h.1) (visit_calm v out visit.lack_block (Ledger a) s (Ledger b) t tt h))
  visit_in_step (visit.commit time) (Ledger a) s (Ledger b) t e w h = in_ledger a b (visit_anonymous_acts v out (visit.commit time) (Ledger a) s (Ledger b) t h) e
      (commit_in_step N a b (entry_of_trees v h.o h.stands.x.transcript.session time) (Tx h.o.id h.stands.x.transcript.session time h.o.explicit (script_so_far h.stands.x h.o)) (lines_at h.stands.x.place) time (tx_count a.items + 1) (below a e w) h.cell)
  visit_in_step (visit.close k) (Ledger a) s (Ledger b) t e w h = in_ledger a b (closed k ∷ []) e
      (close_in_step v N k a b some_size (sized a e) (subst (λ (c : LedgerCell). pending_in c ≡ N) (sym (is_ledger a e)) w) h.0.all h.0.cell)
  visit_in_step (visit.issue moment) (Ledger a) s (Ledger b) t e w h = in_ledger a b (visit_anonymous_acts v out (visit.issue moment) (Ledger a) s (Ledger b) t h) e
      (issue_in_step v N a (sized a e) (below a e w) b h.digest (tx_count a.items) some_size h.cell)
  visit_in_step visit.keep a s b t e w h = unchanged a b (did (keeps (length h.0.ledger.items) (tx_count h.0.ledger.items)) ∷ []) e h.1 (keeps_one w (length h.0.ledger.items) (tx_count h.0.ledger.items))
  visit_in_step visit.nothing a s b t e w h = unchanged a b [] e h.0 (stays [] tt)
  visit_in_step how a s b t e w h = absurd h
