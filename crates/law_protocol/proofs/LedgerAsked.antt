-- Each visit of the ledger's cell keeps what locks were asked for.
use Rattle.std.proofs.Common.{◌≡◌, ℕ, zero, suc, Bool, true, false, List, [], ◌∷◌, ◌++◌, set, refl, sym, ap, ◌∙◌, subst, inl}
use Rattle.std.specs.Prelude.{if◌then◌else◌, nat_le}
use mathlib.Core.Option.{some}
use lib.ListN.{get_elem?}
use Rattle.sql_types.specs.declared.lock.Hold.{Hold}
use Rattle.sql_types.specs.declared.journal.JournalItem.TheVariants.{Close}
use Rattle.spec_model.specs.Catalog.{defs_of}
use Rattle.spec_model.specs.Journals.{serial}
use Rattle.spec_history.specs.Lists.{Each, In}
use Rattle.spec_history.specs.Acts.{SessionAct, by, closes, assigns_id}
use Rattle.spec_history.specs.Sessions.{SessionState}
use Rattle.spec_history.specs.Worlds.{World, first, run, step}
use Rattle.spec_history.proofs.Cuts.{good_append, run_append}
use Rattle.spec_protocol.specs.Server.{Server}
use Rattle.spec_protocol.specs.ActsOf.{closings}
use Rattle.spec_protocol.specs.Cells.{Cell, Ledger, LedgerCell, ledger_at, holds_at, pending_in}
use Rattle.spec_protocol.specs.LedgerVisits.{all_closed, closed_by}
use Rattle.spec_protocol.specs.LocksWereAsked.{IsAskedFor, WasAsked}
use Rattle.spec_protocol.specs.Seats.{SeatState}
use Rattle.spec_protocol.specs.StandTogether.{History, LocksAskedFor, Stands, StandsAfter}
use Rattle.law_protocol_steps.proofs.ActedFor.{sessions_at}
use Rattle.law_protocol_steps.proofs.AfterSet.{set_here}
use Rattle.law_protocol_steps.proofs.AskedMore.{NotFree, asked_by_all}
use Rattle.law_protocol_tables.proofs.AskedStays.{AssignsNoId, for_lock}
use Rattle.law_protocol_steps.proofs.CellsAfter.{each_holds}
use Rattle.law_protocol_steps.proofs.JournalMore.{serial_more}
use Rattle.law_protocol_tables.proofs.KeepsAsked.{defs_at, stay_asked, stay_asked_over}
use Rattle.law_protocol_steps.proofs.LedgerVisit.{the_ledger}
use Rattle.law_protocol_steps.proofs.OneMore.{by_each}

-- closings leave the tables, and the sessions of a history
pub closed_tables : (v : Server) (n : ℕ) (c : LedgerCell) → serial v.reads (all_closed v.hash n c).items ≡ serial v.reads c.items
closed_tables v zero c = refl
closed_tables v (suc n) c = by (nat_le (pending_in c) 0) (closed_tables v n (closed_by v.hash part c) ∙ serial_more v.reads c.items (Close part))
  where
    part : ℕ
    part = if nat_le c.block_size (pending_in c) then c.block_size else pending_in c

    by : (b : Bool) → serial v.reads (all_closed v.hash n (closed_by v.hash part c)).items ≡ serial v.reads c.items → serial v.reads (if b then c else all_closed v.hash n (closed_by v.hash part c)).items ≡ serial v.reads c.items
    by true e = refl
    by false e = e

closed_sessions : (v : Server) (n : ℕ) (c : LedgerCell) (w : World) → (run w (closings v n c)).at ≡ w.at
closed_sessions v zero c w = refl
closed_sessions v (suc n) c w = by (nat_le (pending_in c) 0) (closed_sessions v n (closed_by v.hash part c) (step w (closes part)))
  where
    part : ℕ
    part = if nat_le c.block_size (pending_in c) then c.block_size else pending_in c

    by : (b : Bool) → (run (step w (closes part)) (closings v n (closed_by v.hash part c))).at ≡ w.at → (run w (if b then [] else closes part ∷ closings v n (closed_by v.hash part c))).at ≡ w.at
    by true e = refl
    by false e = e

module _ (v : Server) {history : History} {cells : List Cell} {seats : List SeatState} (st : Stands v history cells seats) (asked : LocksAskedFor st) (c d : LedgerCell) (here : get_elem? cells ledger_at ≡ some (Ledger c)) where
  pub ledger_then : {g : History} {then_seats : List SeatState} (after : Stands v g (set cells ledger_at (Ledger d)) then_seats) → after.ledger ≡ d
  ledger_then after = let e : some (Ledger after.ledger) ≡ some (Ledger d) = sym after.are_cells.has_ledger ∙ set_here cells ledger_at (Ledger c) (Ledger d) here in cc

  tables_then : {g : History} {then_seats : List SeatState} (after : Stands v g (set cells ledger_at (Ledger d)) then_seats) → serial v.reads d.items ≡ serial v.reads c.items → defs_at st ≡ defs_at after
  tables_then after same = ap (λ (l : LedgerCell). defs_of (serial v.reads l.items)) (sym (the_ledger cells st.catalog st.ledger c st.are_cells here)) ∙ ap defs_of (sym same) ∙ ap (λ (l : LedgerCell). defs_of (serial v.reads l.items)) (sym (ledger_then after))

  locks_there : (i : ℕ) (lock : Hold) → In lock (holds_at (set cells ledger_at (Ledger d)) i) → In lock (holds_at cells i)
  locks_there i lock = each_holds cells ledger_at (Ledger c) (Ledger d) here (λ n hs. In lock hs → In lock (holds_at cells n)) (λ has. absurd has) (λ n has. has) i

  -- it leaves the tables, by acts that draw no id
  pub in_ledger_asked : {j : ℕ} {acts : List SessionAct} {then_seats : List SeatState} (after : StandsAfter v j history acts (set cells ledger_at (Ledger d)) then_seats) → Each AssignsNoId acts → serial v.reads d.items ≡ serial v.reads c.items → LocksAskedFor after.stands
  in_ledger_asked after none same = stay_asked v st asked after none (tables_then after.stands same) (λ i lock has. inl (locks_there i lock has))

  -- by whatever acts, where all locks are asked for over the definitions then
  pub in_ledger_over : {j : ℕ} {acts : List SessionAct} {then_seats : List SeatState} (after : StandsAfter v j history acts (set cells ledger_at (Ledger d)) then_seats) → Each AssignsNoId acts
      → ((i : ℕ) (lock : Hold) → In lock (holds_at cells i) → IsAskedFor v (sessions_at history) (defs_at after.stands) i lock) → LocksAskedFor after.stands
  in_ledger_over after none were = stay_asked_over v st after none were (λ i lock has. inl (locks_there i lock has))

  -- an id is drawn
  pub drawn_asked : {j : ℕ} (id : ℕ) (explicit : Bool) {then_seats : List SeatState} (after : StandsAfter v j history (assigns_id id explicit ∷ []) (set cells ledger_at (Ledger d)) then_seats) → serial v.reads d.items ≡ serial v.reads c.items → LocksAskedFor after.stands
  drawn_asked id explicit after same i lock has = for_lock v (sessions_at history) (sessions_at (history ++ by after.session (assigns_id id explicit) ∷ [])) _ _ i lock (tables_then after.stands same) (asked i lock (locks_there i lock has))
      (λ b a w. subst (λ (z : World). WasAsked z.at lock.tx b a) (sym (run_append first history (by after.session (assigns_id id explicit) ∷ [])))
      (asked_by_all v.meaning after.stands.ledger.database (run first history) after.session (assigns_id id explicit ∷ []) (tt, tt)
      (good_append v.meaning after.stands.ledger.database first history (by after.session (assigns_id id explicit) ∷ []) after.stands.transcripts_agree.good).1 lock.tx b a w))

  -- a block is closed
  pub closed_asked : (k : ℕ) {then_seats : List SeatState} (after : Stands v (history ++ closes k ∷ []) (set cells ledger_at (Ledger d)) then_seats) → serial v.reads d.items ≡ serial v.reads c.items → LocksAskedFor after
  closed_asked k after same i lock has = for_lock v (sessions_at history) (sessions_at (history ++ closes k ∷ [])) _ _ i lock (tables_then after same) (asked i lock (locks_there i lock has))
      (λ b a w. subst (λ (at : ℕ → SessionState). WasAsked at lock.tx b a) (sym (ap (λ (z : World). z.at) (run_append first history (closes k ∷ [])))) w)

  -- all is closed, and then a session acts
  pub issued_asked : {j : ℕ} (n : ℕ) {acts : List SessionAct} {then_seats : List SeatState} (after : StandsAfter v j (history ++ closings v n c) acts (set cells ledger_at (Ledger d)) then_seats) → Each NotFree acts → serial v.reads d.items ≡ serial v.reads c.items → LocksAskedFor after.stands
  issued_asked n {acts} after kept same i lock has = for_lock v (sessions_at history) (sessions_at ((history ++ closings v n c) ++ by_each after.session acts)) _ _ i lock (tables_then after.stands same) (asked i lock (locks_there i lock has))
      (λ b a w. subst (λ (z : World). WasAsked z.at lock.tx b a) (sym (run_append first (history ++ closings v n c) (by_each after.session acts)))
      (asked_by_all v.meaning after.stands.ledger.database (run first (history ++ closings v n c)) after.session acts kept
      (good_append v.meaning after.stands.ledger.database first (history ++ closings v n c) (by_each after.session acts) after.stands.transcripts_agree.good).1 lock.tx b a
      (subst (λ (at : ℕ → SessionState). WasAsked at lock.tx b a) (sym (ap (λ (z : World). z.at) (run_append first history (closings v n c)) ∙ closed_sessions v n c (run first history))) w)))
