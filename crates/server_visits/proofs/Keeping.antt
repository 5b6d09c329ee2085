-- The visit of all cells, in which an image is kept or memory is wanting.
use Rattle.std.proofs.Common.{◌≡◌, ◌<◌, ◌+◌, ℕ, false, List, [], ◌∷◌, ◌++◌, Option, Some, None, length, length-append, map, refl, sym, ap, ap₂, ◌∙◌, subst, arith}
use Rattle.std.proofs.lemmas.List.{append-nil}
use mathlib.Core.Option as core
use mathlib.Core.Option.{some}
use lib.ListN.{get_elem?}
use Rattle.sql_types.specs.declared.journal.JournalItem.{JournalItem}
use Rattle.sql_types.specs.declared.reply.Reply.TheVariants as reply
use Rattle.sql_types.specs.declared.statement.Stmt.{Stmt}
use Rattle.sql_types.specs.declared.statement.Stmt.TheVariants as stmt
use Rattle.spec_model.specs.Journals.{tx_count}
use Rattle.server_session.specs.Lists.{Text, Each, In}
use Rattle.server_session.specs.Alone.{none}
use Rattle.server_session.specs.Cells.{Cell, Ledger, LedgerCell, ledger_at}
use Rattle.server_session.specs.AnonymousActs.{did, alones_acts}
use Rattle.server_session.specs.Follows.{alones_lines}
use Rattle.server_session.specs.ImageVisits.{KeepsImage}
use Rattle.server_session.specs.Moves.{at_place, keeping, marking, sits}
use Rattle.server_session.specs.Seats.{inside, answering, KeptImage, Session, SeatState}
use Rattle.server_session.specs.Server.{journal_image}
use Rattle.server_session.specs.Visits.{keep, nothing}
use Rattle.server_visit_ledger.proofs.CellsOut.{out_lies}
use Rattle.store_image.proofs.CellsShow.{same_bytes}
use Rattle.server_visits.specs.Images.{AreImageBytes, CellsStand}
use Rattle.server_session.specs.KeptCell.{KeptCell}
use Rattle.server_session.specs.Sits.{Sits, Runs, HasScript, HasScriptCapacity, OfStmt}
use Rattle.server_session.specs.Steps.{Steps, StepsAlone, AmongAll, AllOut, VisitedAll, VisitsAll, items_of, items_in, image_in}
use Rattle.server_session.specs.SessionOutput.{IsPlainAnonymousAct, plainly}
use Rattle.server_session.specs.declared.running.Running.{Running}
use Rattle.server_session.specs.declared.seat.Seat.{Seat}
use Rattle.server_session.specs.declared.stage.Answering.{Answering}
use Rattle.server_session.specs.declared.stage.ControlPoint.{ControlPoint}
use Rattle.server_session.specs.declared.stage.ControlPoint.TheVariants.{Inside}
use Rattle.server_session.specs.declared.stage.Stage.TheVariants.{Keeping, Answering as Answered}
use Rattle.server_session.proofs.Alone.{then_seat, holds_at_point, lacking}
use Rattle.server_session.proofs.Keeping.{keeping_point, lacks_alone}
use Rattle.server_session.proofs.Sitting.{stmt_found, in_statement, plain_anonymous_acts}

-- ---- its seat

module _ {H : Type 0} (digest : H → List ℕ → List ℕ) (y : Seat H) (all : List KeptCell) (a : AmongAll digest y all) where
  pub at_keeping : y.point ≡ Inside Keeping
  at_keeping = keeping_point y.point y.running a.needs

  holds : (a.sits.x.open_one ≡ None) × OfStmt (λ s. s ≡ stmt.Image) y.stmt × (y.images < 2)
  holds = holds_at_point digest a.h y a.s a.sits (Inside Keeping) at_keeping

  pub few_kept : y.images < 2
  few_kept = holds.2

-- ---- nothing is kept

pub keeps_none : {H : Type 0} (digest : H → List ℕ → List ℕ) (y z : Seat H) (all : List KeptCell) → StepsAlone digest y [] z → VisitsAll digest y all None z
keeps_none {H} digest y z all alone a = let p : Steps digest a.h a.v a.s [] z = alone a.v a.h a.s a.serves a.sits in record {
  t = p.t;
  may = λ i c rest out. record {
    visit = nothing;
    old = c;
    rest = rest;
    is_out = refl;
    begun = p.t;
    before = p.steps;
    ended = p.t;
    happens = (refl, refl);
    after = none;
  };
  lines = λ i c rest out. append-nil (alones_lines p.steps) ∙ p.lines;
  did = λ i c rest out. plainly (subst (Each IsPlainAnonymousAct) (sym (append-nil (map did (alones_acts p.steps)))) (plain_anonymous_acts (alones_acts p.steps) p.plain)) refl;
  sits = p.sits;
  adds = p.adds;
}

pub lacks_image : {H : Type 0} (digest : H → List ℕ → List ℕ) (y : Seat H) (all : List KeptCell) → AmongAll digest y all
    → VisitsAll digest y all None (then_seat y y.started y.text y.stmt y.running (Inside (Answered lacking)))
lacks_image digest y all a = keeps_none digest y (then_seat y y.started y.text y.stmt y.running (Inside (Answered lacking))) all
    (lacks_alone digest y a.needs)

-- ---- an image is kept

abbrev found_items : core.Option Cell → List JournalItem
found_items core.none = []
found_items (some c) = items_of c

-- the number of items is that of the ledger's cell
items_are : (all : List KeptCell) (ledger : LedgerCell) → get_elem? (map (λ c. c.cell) all) ledger_at ≡ some (Ledger ledger) → items_in all ≡ length ledger.items
items_are [] ledger e = absurd cc
items_are (b ∷ []) ledger e = absurd cc
items_are (b ∷ c ∷ cs) ledger e = ap (λ (q : core.Option Cell). length (found_items q)) e

same_cell : (c d : Cell) → some c ≡ some d → c ≡ d
same_cell c d e = ap (elim [ core.none ↦ d | some k ↦ k ]) e

abbrev pub unsaid : (n : ℕ) → Answering
unsaid n = record { reply = reply.Image n; said = false; def = None }

abbrev pub image_seat_at : {H : Type 0} → Seat H → ControlPoint → Seat H
image_seat_at y p = record { hasher = y.hasher; name = y.name; started = y.started; images = y.images + 1; text = y.text; stmt = y.stmt; running = y.running; point = p }

abbrev pub image_seat : {H : Type 0} → Seat H → ℕ → Seat H
image_seat y n = image_seat_at y (Inside (Answered (unsaid n)))

no_script : {H : Type 0} (p : ControlPoint) (text : Text) (r : Option (Running H)) → HasScript p text r None
no_script p text None = tt
no_script p text (Some r) = tt

image_room : {H : Type 0} (n : ℕ) (r : Option (Running H)) → HasScriptCapacity (Inside (Answered (unsaid n))) r
image_room n None = tt
image_room n (Some r) = λ e. absurd cc

module _ {H : Type 0} (digest : H → List ℕ → List ℕ) (y : Seat H) (all : List KeptCell) (bytes : Text) (are : AreImageBytes all bytes) (a : AmongAll digest y all) where
  abbrev cells : List Cell
  cells = map (λ c. c.cell) all

  abbrev ledger : LedgerCell
  ledger = a.together.stands.ledger

  abbrev x : Session
  x = a.sits.x

  count_is : items_in all ≡ length ledger.items
  count_is = items_are all ledger a.together.stands.are_cells.has_ledger

  bytes_are : bytes ≡ journal_image a.v ledger.database ledger.items
  bytes_are = are a.together.stands.catalog ledger a.together.stands.are_cells
      ∙ sym (same_bytes a.v a.together.history cells a.seats a.together.stands)

  abbrev image : KeptImage
  image = (length ledger.items, journal_image a.v ledger.database ledger.items)

  abbrev then_x : Session
  then_x = keeping image (at_place None (inside y.text (answering (reply.Image (length ledger.items)) None)) x)

  abbrev then_s : SeatState
  then_s = marking (tx_count ledger.items) (sits a.s then_x)

  found : (st : Stmt) × (y.stmt ≡ Some st) × (st ≡ stmt.Image)
  found = stmt_found (λ s. s ≡ stmt.Image) y.stmt ((holds digest y all a).1)

  happens_so : (out : List (ℕ × Cell)) → AllOut cells out → KeepsImage a.v out a.s then_s
  happens_so out k = record {
    all = k.all;
    ledger = ledger;
    there = subst (λ (c : Cell). In (ledger_at, c) out)
        (same_cell (k.all ledger_at (omega arith)).0 (Ledger ledger) (sym (out_lies cells out k.are_out ledger_at (k.all ledger_at (omega arith)).0 (k.all ledger_at (omega arith)).1) ∙ a.together.stands.are_cells.has_ledger))
        (k.all ledger_at (omega arith)).1;
    stands = in_statement digest a.h y a.s a.sits a.v a.serves Keeping (at_keeping digest y all a) found.0 found.1;
    at_begin = refl;
    none_open = (holds digest y all a).0;
    asks = found.2;
    fewer = subst (λ (n : ℕ). n < 2) (sym a.sits.images) (few_kept digest y all a);
    seat = refl;
  }

  kept_sits : Sits digest a.h (image_seat y (items_in all)) then_s
  kept_sits = record {
    x = then_x;
    role = refl;
    hasher = a.sits.hasher;
    name = a.sits.name;
    formed = a.sits.formed;
    moment = a.sits.moment;
    images = length-append x.images (image ∷ []) ∙ ap (λ (n : ℕ). n + 1) a.sits.images;
    few = omega (arith, few_kept digest y all a);
    place = ap (λ (n : ℕ). inside y.text (answering (reply.Image n) None)) (sym count_is);
    reads = a.sits.reads;
    runs = subst (Runs digest a.h y.running) ((holds digest y all a).0) a.sits.runs;
    script = no_script (Inside (Answered (unsaid (items_in all)))) y.text y.running;
    room = image_room (items_in all) y.running;
    stands = (refl, refl);
  }

  pub keeps_image : VisitedAll digest y all a (image_in (items_in all) (Some bytes)) (image_seat y (items_in all))
  keeps_image = record {
    t = then_s;
    may = λ i c rest out. record {
      visit = keep;
      old = c;
      rest = rest;
      is_out = refl;
      begun = a.s;
      before = none;
      ended = then_s;
      happens = (happens_so ((i, c) ∷ rest) out, refl);
      after = none;
    };
    lines = λ i c rest out. refl;
    did = λ i c rest out. plainly (tt, tt) refl;
    sits = kept_sits;
    adds = record {
      x = x;
      y = then_x;
      before = a.sits.role;
      after = refl;
      session = refl;
      entries = sym (append-nil x.transcript.entries);
      images = ap₂ (λ (n : ℕ) (bs : Text). x.images ++ (n, bs) ∷ []) (sym count_is) (sym bytes_are);
      moments = sym (append-nil x.moments);
      earlier = refl;
      written = refl;
    };
  }

-- ---- the cells that are visited

pub cells_stand : {H : Type 0} (digest : H → List ℕ → List ℕ) (y : Seat H) (all : List KeptCell) → ((h : H) (bytes : List ℕ) → length (digest h bytes) ≡ 32) → AmongAll digest y all → CellsStand all
cells_stand digest y all sized a = record {
  hash = digest a.h;
  sized = sized a.h;
  v = a.v;
  serves = a.serves;
  seats = a.seats;
  together = a.together;
}
