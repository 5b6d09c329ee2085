-- A visit that meets a lock of another transaction: its cell stays, and cells and seats stand together.
use Rattle.spec_history.proofs.Trace.{each_weaker}
use Rattle.spec_history.specs.Acts.{meets}
use Rattle.spec_history.specs.Facts.{met}
use Rattle.spec_history.specs.Guards.{IsAnswered, Meets}
use Rattle.spec_history.specs.Lists.{Text, Each, In}
use Rattle.spec_history.specs.Real.{requests_catalog}
use Rattle.spec_history.specs.Sessions.{SessionTransaction, SessionState, acted, hears}
use Rattle.spec_history.specs.Transactions.{unfixed, on_some}
use Rattle.spec_history.specs.Transcripts.{Kind, rows, kind_of}
use Rattle.spec_history.specs.Worlds.{first, run}
use Rattle.spec_model.specs.Catalog.{Tables, NamedPart, defs_of}
use Rattle.spec_model.specs.InTheWay.{Conflict, first_conflict}
use Rattle.spec_model.specs.Journals.{serial}
use Rattle.spec_model.specs.Locks.{catalog_request}
use Rattle.law_protocol_steps.proofs.AloneTurns.{Keeps, alone_after, kept, keeps_turn, PlaceOwes, bare}
use Rattle.law_protocol_steps.proofs.AfterSet.{set_same}
use Rattle.law_protocol_tables.proofs.Barring.{Bars, first_bars}
use Rattle.law_protocol_steps.proofs.CellsAfter.{held_here}
use Rattle.law_protocol_steps.proofs.AnonymousActs.{IsPlain, plain_acts, plain_owner}
use Rattle.law_protocol_steps.proofs.TranscriptActs.{GoesFrom, goes_on}
use Rattle.law_protocol_steps.proofs.TranscriptProgress.{from_at, GoesAt}
use Rattle.law_protocol_tables.proofs.TranscriptVisits.{at_met, at_own_met}
use Rattle.law_protocol_steps.proofs.Ids.{InTransaction, in_transaction}
use Rattle.law_protocol_tables.proofs.MetLock.{meets_it}
use Rattle.law_protocol_tables.proofs.VisitsAsked.{wanted_there}
use Rattle.law_protocol_steps.proofs.PlainPlaces.{AddsNone, none_added}
use Rattle.spec_protocol.specs.CatalogVisits.{StopsInCatalog}
use Rattle.spec_protocol.specs.Cells.{Catalog, CatalogCell, Cell, Rows, TableCell, catalog_at}
use Rattle.spec_protocol.specs.Contents.{Contents, Known, contents, known, HasAlone}
use Rattle.spec_protocol.specs.TranscriptsSoFar.{image_in, is_begin, shown_inside, shown_alone, Fits}
use Rattle.spec_protocol.specs.Doing.{Stopped, blocked, no_memory, stage_refused}
use Rattle.spec_protocol.specs.LocksCover.{LookedAt, IsGotAt, LookedFirst}
use Rattle.spec_protocol.specs.LocksWereAsked.{IsRequested}
use Rattle.spec_protocol.specs.Moves.{at_place, sits, then_at}
use Rattle.spec_protocol.specs.OpenOnes.{HasOpen, text_at, last_line, lines_at, texts_so_far}
use Rattle.spec_protocol.specs.OpenScripts.{counted, counted_in}
use Rattle.spec_protocol.specs.Parts.{AreTransactions, asking, asking_in, IsHeard}
use Rattle.spec_protocol.specs.Seats.{OpenTransaction, StatementProgress, begun, found, answering, refused, SessionStatus, inside, Session, session, SeatState}
use Rattle.spec_protocol.specs.Server.{Server}
use Rattle.spec_protocol.specs.StandTogether.{History, LocksAskedFor, Stands, StandsAfter}
use Rattle.spec_protocol.specs.TableVisits.{StopsInTable, requests_here}
use Rattle.spec_protocol.specs.TablesAreSerial.{HasActed, IsAdding}
use Rattle.spec_protocol.specs.RequestsIn.{of_catalog}
use Rattle.sql_types.specs.declared.lock.LockRequest.{LockRequest}
use Rattle.sql_types.specs.declared.reply.Reply.TheVariants as reply
use Rattle.sql_types.specs.declared.reply.Reply.{Reply}
use Rattle.sql_types.specs.declared.statement.Stmt.TheVariants as stmt
use Rattle.sql_types.specs.declared.statement.Stmt.{Stmt}
use Rattle.sql_types.specs.declared.version.Version.{Version}
use Rattle.sql_value.specs.declared.refusal.Refusal.TheVariants.{NoMemory, Locked}
use Rattle.std.proofs.Common.{◌≡◌, ℕ, not, Bool, true, false, List, [], ◌∷◌, ◌++◌, map, Option, Some, None, set, refl, sym, ap, ◌∙◌, subst, subst₂, inl, inr, ⊎_elim}
use lib.ListN.{get_elem?}
use mathlib.Core.Option.{some}

plain_meet : (text : Text) (holder : ℕ) → IsPlain (meets text holder)
plain_meet text holder = record { items = λ x. refl; ids = refl; issued = refl; marks = refl; images = refl }

-- a statement that met a lock is heard, and of it only the catalog's want counts
heard_met : (x y : SessionStatus) (answered asked : List (Text × Bool)) (text : Text) → ((a : Text × Bool) → In a (asking x) → (text, false) ≡ a) → Each (IsHeard x answered) asked → Each (IsHeard y ((text, false) ∷ answered)) asked
heard_met x y answered asked text only = each_weaker (IsHeard x answered) (IsHeard y ((text, false) ∷ answered)) (λ a. ⊎_elim
    (λ (h : IsAnswered answered a). inl (record { flag = h.flag; is = inr h.is; table = λ f. inr (h.table f) }))
    (λ (h : In a (asking x)). let e : (text, false) ≡ a = only a h in
    inl (record { flag = false; is = inl (λ i. ((e i).0, false)); table = λ g. let no : false ≡ true = ap (λ (z : Text × Bool). z.1) e ∙ g in cc }))) asked

module _ (v : Server) (cells : List Cell) (seats : List SeatState) {history : History} (st : Stands v history cells seats) (j : ℕ) (s : SeatState) (there : get_elem? seats j ≡ some s) (x : Session) (role : s.role ≡ session x)
    (o : OpenTransaction) (one : x.open_one ≡ Some o) (open_end : o.end ≡ unfixed) where
  abbrev c : Contents
  c = contents cells

  abbrev k : Known
  k = known v.reads st.ledger.items

  abbrev has : HasOpen seats j x o
  has = record { seat = s; there = there; role = role; open_one = one }

  abbrev d : InTransaction v.meaning history (st.transcripts_agree.of_seat j) x o
  d = in_transaction v history st.ledger seats st.transcripts_agree j x o has

  abbrev now_at : SessionState
  now_at = (run first history).at d.runs.number

  -- what the history asks for
  abbrev pub MeetsIt : Text → ℕ → Type 0
  MeetsIt text holder = Meets v.meaning (run first history) d.runs.number text holder

  module _ (text : Text) (holder : ℕ) (guard : MeetsIt text holder) where
    abbrev r : Reply
    r = reply.Refused (Locked holder)

    -- from one stage to another
    module _ (stage next : StatementProgress) (at : x.place ≡ inside text stage) (no_lines : last_line text stage ≡ []) (no_lines_then : last_line text next ≡ []) (all_count : (id : ℕ) (ws : List Version) → counted_in o.id id stage ws ≡ ws) (all_count_then : (id : ℕ) (ws : List Version) → counted_in o.id id next ws ≡ ws)
        (got : (T : Tables) (E : Type 0) (b : Bool) → IsGotAt v T E b (inside text next)) (looked : LookedAt v c (defs_of k.tables) o.id o.explicit (inside text next))
        (only : (a : Text × Bool) → In a (asking_in text stage) → (text, false) ≡ a)
        (owes : PlaceOwes v cells seats st j s there x role o one (at_place (Some o) (inside text next) x) o) where
      abbrev z : Session
      z = at_place (Some o) (inside text next) x

      same_lines : o.script ++ lines_at x.place ≡ o.script ++ lines_at (inside text next)
      same_lines = ap (λ p. o.script ++ lines_at p) at ∙ ap (λ ls. o.script ++ ls) (no_lines ∙ sym no_lines_then)

      keeps_it : Keeps v cells seats st j s there x role o one z o
      keeps_it = kept v cells seats st j s there x role o one z o.script same_lines (λ id ws. ap (λ p. counted o.id id p ws) at ∙ all_count id ws ∙ sym (all_count_then id ws)) (λ e f. f) (λ e. ap text_at at) (λ l. got k.tables (HasAlone c o.id) (not (k.has o.id))) looked owes

      asked_then : o.end ≡ unfixed → Each (λ a. a.1 ≡ true → In a.0 (texts_so_far z o)) d.transaction.asked
      asked_then u = subst (λ ls. Each (λ a. a.1 ≡ true → In a.0 (map (λ l. l.0) ls)) d.transaction.asked) same_lines (d.is.asked u)

      heard_then : Each (IsHeard z.place ((text, false) ∷ d.transaction.answered)) d.transaction.asked
      heard_then = heard_met x.place z.place d.transaction.answered d.transaction.asked text (λ a i. only a (subst (λ p. In a (asking p)) at i)) d.is.heard

      pub meets_stands : GoesFrom v.meaning x z (met text holder ∷ []) → StandsAfter v j history (meets text holder ∷ []) cells (set seats j (sits s z))
      meets_stands goes = alone_after v cells seats st j s there _ d.runs.number (keeps_turn v cells seats st j s there x role o one _ z o refl refl keeps_it)
          (plain_acts v st.ledger seats history st.transcripts_agree j s there x z role d.runs.number d.runs.is (meets text holder ∷ []) (plain_meet text holder, tt)
          (guard, tt)
          (record {
            running = d.runs.now.running;
            transcript = d.runs.now.transcript;
            under = d.runs.now.under ∙ ap text_at at;
            open_one = subst (λ (w : Option SessionTransaction). AreTransactions (on_some (hears text false) w) z z.open_one) (sym d.has) (record {
              id = d.is.id;
              explicit = d.is.explicit;
              script = d.is.script;
              end = d.is.end;
              asked = λ u. ((λ f. cc), asked_then u);
              heard = (inl (record { flag = false; is = inl refl; table = λ f. cc }), heard_then);
            });
            so_far = goes_on v.meaning now_at.so_far (acted now_at (meets text holder)).so_far x z (met text holder ∷ []) refl refl d.runs.now.so_far goes;
          }) (record { images = refl; moments = refl; earlier = refl })) (plain_owner _ _ _ _ _ _ _ _ _ _ _ _ _ _ _ _ _ _)

    module _ (rows_there : o.explicit ≡ true → kind_of (v.meaning.reads text) ≡ rows) where
      goes : (stage : StatementProgress) (fresh : Bool) → x.place ≡ inside text stage → shown_alone v.meaning text stage ≡ [] → ((a : Kind) → shown_inside v.meaning a text stage ≡ []) → is_begin stage ≡ false → image_in stage ≡ 0
          → GoesFrom v.meaning x (at_place (Some o) (inside text (stage_refused fresh r)) x) (met text holder ∷ [])
      goes stage fresh at nothing nothing_inside not_begin none = from_at v.meaning x _ (inside text stage) (Some o) (met text holder ∷ []) at one refl (λ n i f. by o.explicit refl n f)
        where
          by : (b : Bool) → o.explicit ≡ b → (n : ℕ) → Fits v.meaning n (inside text stage) (Some o) → GoesAt v.meaning n (inside text stage) (Some o) (inside text (stage_refused fresh r)) (Some o) (met text holder ∷ [])
          by true explicit n f = at_met v.meaning n text holder o stage fresh explicit open_end (rows_there explicit) (nothing_inside (kind_of (v.meaning.reads text))) not_begin none
          by false own n f = at_own_met v.meaning n text holder o stage fresh own open_end nothing none f

      -- in the catalog, before it has a lock for the statement
      pub met_in_catalog : x.place ≡ inside text begun → StandsAfter v j history (meets text holder ∷ []) cells (set seats j (sits s (at_place (Some o) (inside text (answering r None)) x)))
      met_in_catalog at = meets_stands begun (answering r None) at refl refl (λ id ws. refl) (λ id ws. refl) (λ T E b. tt) tt (λ a i. absurd i)
          (bare v cells seats st j s there x role o one (at_place (Some o) (inside text (answering r None)) x) o tt (subst AddsNone (sym at) tt) (λ e f. tt))
          (goes begun false at refl (λ a. refl) refl refl)

      found_first : (named : Option NamedPart) → x.place ≡ inside text (found named true) → PlaceOwes v cells seats st j s there x role o one (at_place (Some o) (inside text (refused r)) x) o
      found_first named e = record {
        still = record { acted = λ d f. absurd (subst HasActed e f); adding = λ after i a. absurd (none_added (inside text (found named true)) o after i tt (subst (λ q. IsAdding q o after i) e a)) };
        indexed = tt;
        looked_first = λ f. let w = st.locks_cover.looked_first j x o has open_end (subst LookedFirst (sym e) tt) in record { before = w.before; elsewhere = w.elsewhere; shares = w.shares };
        dropping = λ d. absurd d;
        back = tt;
        explicit = tt;
      }

      asked_alone : (named : Option NamedPart) (fresh : Bool) (a : Text × Bool) → In a (asking_in text (found named fresh)) → (text, false) ≡ a
      asked_alone named fresh a (inl e) = e
      asked_alone named fresh a (inr e) = absurd e

      -- in a table's cell, after it visited the catalog
      pub met_in_table : (named : Option NamedPart) (fresh : Bool) → x.place ≡ inside text (found named fresh) → StandsAfter v j history (meets text holder ∷ []) cells (set seats j (sits s (at_place (Some o) (inside text (stage_refused fresh r)) x)))
      met_in_table named true e = meets_stands (found named true) (refused r) e refl refl (λ id ws. refl) (λ id ws. refl) (λ T E b. tt) (subst (LookedAt v c (defs_of k.tables) o.id o.explicit) e (st.locks_cover.looked j x o has open_end))
          (asked_alone named true) (found_first named e) (goes (found named true) true e refl (λ a. refl) refl refl)
      met_in_table named false e = meets_stands (found named false) (answering r None) e refl refl (λ id ws. refl) (λ id ws. refl) (λ T E b. tt) tt (asked_alone named false)
          (bare v cells seats st j s there x role o one (at_place (Some o) (inside text (answering r None)) x) o tt (subst AddsNone (sym e) tt) (λ d f. tt))
          (goes (found named false) false e refl (λ a. refl) refl refl)

-- ---- the visits

-- what is shared or exclusive in the catalog is a statement of rows, in a transaction that BEGIN opened
wanting_rows : (d : Stmt) (w : LockRequest) → In w (of_catalog (catalog_request true d)) → kind_of (Some d) ≡ rows
wanting_rows (stmt.Change row) w i = refl
wanting_rows (stmt.Select q) w i = refl
wanting_rows (stmt.Create q) w i = absurd i
wanting_rows (stmt.Index q) w i = absurd i
wanting_rows (stmt.Alter a) w i = absurd i
wanting_rows (stmt.Drop name) w i = absurd i
wanting_rows stmt.Begin w i = absurd i
wanting_rows stmt.Commit w i = absurd i
wanting_rows (stmt.Save name) w i = absurd i
wanting_rows (stmt.Rollback name) w i = absurd i
wanting_rows stmt.Digest w i = absurd i
wanting_rows stmt.Image w i = absurd i

rows_here : (named : NamedPart) (d : Stmt) (w : LockRequest) → In w (requests_here named d) → kind_of (Some d) ≡ rows
rows_here named (stmt.Change row) w i = refl
rows_here named (stmt.Select q) w i = refl
rows_here named d w i = absurd i

module _ (v : Server) (cells : List Cell) (seats : List SeatState) {history : History} (st : Stands v history cells seats) (were_asked : LocksAskedFor st)
    (j : ℕ) (s : SeatState) (there : get_elem? seats j ≡ some s) where
  abbrev T : Tables
  T = serial v.reads st.ledger.items

  pub stops_in_catalog : (c : CatalogCell) (t : SeatState) → get_elem? cells catalog_at ≡ some (Catalog c) → (w : StopsInCatalog v c s t) → (q : Conflict) → first_conflict c.holds w.o.id (of_catalog (catalog_request w.o.explicit w.at.stands.stmt)) ≡ Some q
      → w.r ≡ reply.Refused (Locked q.0.0) → StandsAfter v j history (meets w.at.stands.text q.0.0 ∷ []) cells (set seats j t)
  stops_in_catalog c t out w q e is = subst (λ (u : SeatState). StandsAfter v j history (meets text q.0.0 ∷ []) cells (set seats j u))
      (ap (λ (r : Reply). then_at s w.at.stands (Some w.o) (answering r None)) (sym is) ∙ sym w.seat)
      (met_in_catalog v cells seats st j s there x w.at.stands.role w.o w.at.open_one w.at.unfixed text q.0.0 guard rows_there (w.at.stands.place ∙ ap (inside text) w.at_begin))
    where
      x : Session
      x = w.at.stands.x

      text : Text
      text = w.at.stands.text

      bars : Bars c.holds w.o.id (of_catalog (catalog_request w.o.explicit w.at.stands.stmt)) q.0.0
      bars = first_bars c.holds w.o.id _ q e

      wanted : IsRequested v (defs_of T) w.o.explicit catalog_at (text, true) bars.request
      wanted = subst (λ (d : Option Stmt). In bars.request (of_catalog (requests_catalog w.o.explicit d))) (sym w.at.stands.is) bars.wanted

      guard : MeetsIt v cells seats st j s there x w.at.stands.role w.o w.at.open_one w.at.unfixed text q.0.0
      guard = subst (MeetsIt v cells seats st j s there x w.at.stands.role w.o w.at.open_one w.at.unfixed text) bars.is
          (meets_it v history st.ledger (contents cells) seats st.transcripts_agree st.locks_cover were_asked catalog_at bars.hold (subst (In bars.hold) (sym (held_here cells catalog_at (Catalog c) (Catalog c) out)) bars.has)
          j x w.o (record { seat = s; there = there; role = w.at.stands.role; open_one = w.at.open_one }) w.at.unfixed bars.foreign text bars.request wanted bars.conflicts)

      rows_there : w.o.explicit ≡ true → kind_of (v.meaning.reads text) ≡ rows
      rows_there explicit = ap kind_of (v.real.reading text ∙ w.at.stands.is) ∙ wanting_rows w.at.stands.stmt bars.request (subst (λ (b : Bool). In bars.request (of_catalog (catalog_request b w.at.stands.stmt))) explicit bars.wanted)

  pub stops_in_table : (i : ℕ) (c : TableCell) (t : SeatState) → get_elem? cells i ≡ some (Rows c) → (w : StopsInTable v c s t) → (q : Conflict) → first_conflict c.holds w.o.id (requests_here w.named w.at.at.stands.stmt) ≡ Some q
      → w.r ≡ reply.Refused (Locked q.0.0) → StandsAfter v j history (meets w.at.at.stands.text q.0.0 ∷ []) cells (set seats j t)
  stops_in_table i c t out w q e is = subst (λ (u : SeatState). StandsAfter v j history (meets text q.0.0 ∷ []) cells (set seats j u))
      (ap (λ (r : Reply). then_at s w.at.at.stands (Some w.o) (stage_refused w.fresh r)) (sym is) ∙ sym w.seat)
      (met_in_table v cells seats st j s there x w.at.at.stands.role w.o w.at.at.open_one w.at.at.unfixed text q.0.0 guard rows_there (Some w.named) w.fresh place)
    where
      x : Session
      x = w.at.at.stands.x

      text : Text
      text = w.at.at.stands.text

      place : x.place ≡ inside text (found (Some w.named) w.fresh)
      place = w.at.at.stands.place ∙ ap (inside text) w.at.at_found

      mine : HasOpen seats j x w.o
      mine = record { seat = s; there = there; role = w.at.at.stands.role; open_one = w.at.at.open_one }

      bars : Bars c.holds w.o.id (requests_here w.named w.at.at.stands.stmt) q.0.0
      bars = first_bars c.holds w.o.id _ q e

      wanted : IsRequested v (defs_of T) w.o.explicit i (text, true) bars.request
      wanted = wanted_there v st j s there i c out w.o w.named w.fresh w.at w.passes bars.request bars.wanted

      guard : MeetsIt v cells seats st j s there x w.at.at.stands.role w.o w.at.at.open_one w.at.at.unfixed text q.0.0
      guard = subst (MeetsIt v cells seats st j s there x w.at.at.stands.role w.o w.at.at.open_one w.at.at.unfixed text) bars.is
          (meets_it v history st.ledger (contents cells) seats st.transcripts_agree st.locks_cover were_asked i bars.hold (subst (In bars.hold) (sym (held_here cells i (Rows c) (Rows c) out)) bars.has)
          j x w.o mine w.at.at.unfixed bars.foreign text bars.request wanted bars.conflicts)

      rows_there : w.o.explicit ≡ true → kind_of (v.meaning.reads text) ≡ rows
      rows_there explicit = ap kind_of (v.real.reading text ∙ w.at.at.stands.is) ∙ rows_here w.named w.at.at.stands.stmt bars.request bars.wanted

  -- by the holder that is named
  held_by : (holder : ℕ) (q : Conflict) (r : Reply) → r ≡ reply.Refused (Locked q.0.0) → r ≡ reply.Refused (Locked holder) → q.0.0 ≡ holder
  held_by holder q r e f = let same : reply.Refused (Locked q.0.0) ≡ reply.Refused (Locked holder) = sym e ∙ f in cc

  pub meets_in_catalog : (c d : CatalogCell) (t : SeatState) → get_elem? cells catalog_at ≡ some (Catalog c) → (w : StopsInCatalog v c s t) → (holder : ℕ) → w.r ≡ reply.Refused (Locked holder) → d ≡ c
      → StandsAfter v j history (meets w.at.stands.text holder ∷ []) (set cells catalog_at (Catalog d)) (set seats j t)
  meets_in_catalog c d t out w holder named same = by w.r w.stopped refl
    where
      by : (r : Reply) → Stopped c.holds w.o.id (of_catalog (catalog_request w.o.explicit w.at.stands.stmt)) r → w.r ≡ r → StandsAfter v j history (meets w.at.stands.text holder ∷ []) (set cells catalog_at (Catalog d)) (set seats j t)
      by _ (blocked q e) is = subst₂ (λ (n : ℕ) (cs : List Cell). StandsAfter v j history (meets w.at.stands.text n ∷ []) cs (set seats j t)) (held_by holder q w.r is named)
          (sym (ap (λ (z : CatalogCell). set cells catalog_at (Catalog z)) same ∙ set_same cells catalog_at (Catalog c) out)) (stops_in_catalog c t out w q e is)
      by _ no_memory is = absurd (let no : reply.Refused NoMemory ≡ reply.Refused (Locked holder) = sym is ∙ named in cc)

  pub meets_in_table : (i : ℕ) (c d : TableCell) (t : SeatState) → get_elem? cells i ≡ some (Rows c) → (w : StopsInTable v c s t) → (holder : ℕ) → w.r ≡ reply.Refused (Locked holder) → d ≡ c
      → StandsAfter v j history (meets w.at.at.stands.text holder ∷ []) (set cells i (Rows d)) (set seats j t)
  meets_in_table i c d t out w holder named same = by w.r w.stopped refl
    where
      by : (r : Reply) → Stopped c.holds w.o.id (requests_here w.named w.at.at.stands.stmt) r → w.r ≡ r → StandsAfter v j history (meets w.at.at.stands.text holder ∷ []) (set cells i (Rows d)) (set seats j t)
      by _ (blocked q e) is = subst₂ (λ (n : ℕ) (cs : List Cell). StandsAfter v j history (meets w.at.at.stands.text n ∷ []) cs (set seats j t)) (held_by holder q w.r is named)
          (sym (ap (λ (z : TableCell). set cells i (Rows z)) same ∙ set_same cells i (Rows c) out)) (stops_in_table i c t out w q e is)
      by _ no_memory is = absurd (let no : reply.Refused NoMemory ≡ reply.Refused (Locked holder) = sym is ∙ named in cc)
