-- A run begins with a journal that was there before, and with none.
use Rattle.std.proofs.Common.{◌≡◌, ◌≤◌, ◌<◌, ◌^◌, ◌-◌, ℕ, suc, true, List, [], ◌∷◌, refl, sym, subst, ◌∙◌, arith}
use Rattle.std.specs.List.{AllByRecursion}
use Rattle.base_types.specs.DatabaseName.{is_database_name}
use Rattle.base_types.specs.Moment.{is_moment}
use Rattle.base_types.specs.SessionName.{is_session_name}
use Rattle.sql_types.specs.declared.journal.JournalItem.{JournalItem}
use Rattle.sql_types.specs.JournalRules.{ItemRules}
use Rattle.spec_model.specs.Journals.{IsLegal, serial_from}
use Rattle.spec_model.specs.Limits.{max_block}
use Rattle.spec_model.specs.SystemTables.{first_tables}
use Rattle.spec_history.specs.Lists.{Each, Text}
use Rattle.spec_ledger.specs.Ledger.{ledger_from}
use Rattle.spec_protocol.specs.AllowedVisit.{first_seat}
use Rattle.spec_protocol.specs.Cells.{first_cells}
use Rattle.spec_protocol.specs.JournalForms.{HaveForms}
use Rattle.spec_protocol.specs.SeatNames.{names_of}
use Rattle.spec_protocol.specs.Seats.{SeatState}
use Rattle.spec_protocol.specs.Server.{Server}
use Rattle.spec_protocol.specs.TranscriptsAgree.{moments_of}
use Rattle.law_behind.specs.Past.{Past, no_past, unclosed}
use Rattle.law_going_on.specs.Retold.{AreWords, CanBeRetold, Words, past_of}
use Rattle.law_going_on.specs.Continued.{continued_cells, ledger_with, past_seat}
use Rattle.law_going_on.specs.Start.{Start}
use Rattle.law_sequential.specs.RunStart.{RunStart}

-- the laws that are used
abbrev pub ServerStarts : Type 0
ServerStarts = (v : Server) (c : Words) (database : Text) (size : ℕ) → 1 ≤ size → size ≤ max_block → (J : List JournalItem) (count : ℕ) → (1 ≤ count → AreWords v.reads c) → IsLegal v.reads J
    → Each (CanBeRetold v.reads count) J → unclosed J < size
    → (s : Start v database size) × (s.past ≡ past_of J count) × (s.cells ≡ continued_cells v database size J count) × (s.seat ≡ past_seat v c J count)

abbrev pub KeepsForms : Type 0
KeepsForms = (v : Server) (c : Words) (database : Text) (size : ℕ) (J : List JournalItem) (count : ℕ) → (1 ≤ count → AreWords v.reads c) → IsLegal v.reads J → Each (CanBeRetold v.reads count) J
    → AllByRecursion ItemRules J → is_session_name c.name ≡ true → is_database_name database ≡ true → suc count ≤ 2 ^ 63
    → HaveForms (ledger_with v database size J count) (past_seat v c J count ∷ first_seat (continued_cells v database size J count) ∷ [])

abbrev HasNames : SeatState → Type 0
HasNames s = Each (λ name. is_session_name name ≡ true) (names_of s)

abbrev HasMoments : SeatState → Type 0
HasMoments s = Each (λ time. is_moment time ≡ true) (moments_of s)

abbrev begun : (v : Server) (database : Text) (size : ℕ) (past : Past) (s : Start v database size) (seat : SeatState) → s.past ≡ past → s.seat ≡ seat → HasNames seat → HasMoments seat → RunStart v database size past
begun v database size past s seat of_past is names moments = record {
  begins = s;
  of_past = of_past;
  names = subst HasNames (sym is) names;
  moments = subst HasMoments (sym is) moments;
}

module _ (starts : ServerStarts) where
  pub with_a_journal : KeepsForms → (v : Server) (c : Words) (database : Text) (size : ℕ) → 1 ≤ size → size ≤ max_block → (J : List JournalItem) (count : ℕ) → (1 ≤ count → AreWords v.reads c) → IsLegal v.reads J
      → Each (CanBeRetold v.reads count) J → unclosed J < size → AllByRecursion ItemRules J → is_session_name c.name ≡ true → is_database_name database ≡ true → suc count ≤ 2 ^ 63
      → (s : RunStart v database size (past_of J count)) × (s.begins.cells ≡ continued_cells v database size J count)
  with_a_journal keeps v c database size some most J count words legal may few rules nobody named ids =
      let s = starts v c database size some most J count words legal may few in
      let f = keeps v c database size J count words legal may rules nobody named ids in
      (begun v database size (past_of J count) s.0 (past_seat v c J count) s.1 s.3 (f.names 0 (past_seat v c J count) refl) (f.moments 0 (past_seat v c J count) refl), s.2)

  -- ---- with none

  abbrev no_words : Words
  no_words = record { begin_text = []; commit_text = []; name = [] }

  cells_are : (v : Server) (database : Text) (size : ℕ) → continued_cells v database size [] 0 ≡ first_cells database size
  unfolding serial_from first_tables ledger_from
  cells_are v database size = refl

  pub with_none : (v : Server) (database : Text) (size : ℕ) → 1 ≤ size → size ≤ max_block → (s : RunStart v database size no_past) × (s.begins.cells ≡ first_cells database size)
  with_none v database size some most =
      let few : 0 - 0 < size = omega (arith, some) in
      let s = starts v no_words database size some most [] 0 (λ l. absurd (omega (arith, l))) tt tt few in
      (begun v database size no_past s.0 (past_seat v no_words [] 0) s.1 s.3 tt tt, s.2 ∙ cells_are v database size)
