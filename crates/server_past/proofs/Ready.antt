-- The tables of a legal journal are as the cells want them.
use Rattle.std.proofs.Common.{◌≡◌, ℕ, ◌+◌, ◌-◌, ◌≤◌, ◌<◌, ◌^◌, false, List, [], ◌∷◌, ◌++◌, map, flat_map, length, refl, sym, ap, subst, ◌∙◌, arith, append-nil}
use Rattle.std.specs.List.{AllByRecursion, list_any}
use Rattle.std.proofs.lemmas.List.{length-append}
use Rattle.std.proofs.lemmas.List.Concat.{flat_map-append}
use Rattle.sql_types.specs.declared.journal.JournalItem.{JournalItem}
use Rattle.sql_types.specs.declared.journal.JournalItem.TheVariants.{Tx, Close}
use Rattle.sql_types.specs.declared.table.TableDef.{TableDef}
use Rattle.sql_types.specs.declared.version.Table.{Table}
use Rattle.spec_model.specs.Agreement.{IdsFrom}
use Rattle.spec_model.specs.Catalog.{Defs, Tables, defs_of}
use Rattle.spec_model.specs.Create.{all_names, table_names}
use Rattle.spec_history.specs.Journals.{blocks}
use Rattle.spec_ledger.specs.Ledger.{Ledger, ledger_of}
use Rattle.spec_model.specs.Journals.{IsLegal, closed, serial, tx_count}
use Rattle.spec_model.specs.Limits.{max_block}
use Rattle.spec_model.specs.Lists.{has_name, repeats}
use Rattle.spec_model.specs.Script.{Reading}
use Rattle.law_catalog_rows.specs.Formed.{AllFormed, AllFresh, AreInFront, Formed}
use Rattle.law_blocks.proofs.Counting.{closed_counted, entries_counted}
use Rattle.law_blocks.proofs.Staying.{blocks_counted}
use Rattle.law_catalog_rows.proofs.Journals as rows
use Rattle.law_journal.proofs.Serials.{legal_described}
use Rattle.server_engine.specs.Definitions.{AreFormed}
use Rattle.server_engine.specs.GoingOn.{HaveNewNames}
use Rattle.server_engine.specs.HashedCell.{IsCounted}
use Rattle.server_engine.specs.FirstCells.{all_empty}
use Rattle.server_past.specs.PastCells.{all_rows_kept, rows_kept}
use Rattle.server_past.specs.Ready.{AreReady}
use Rattle.server_past.proofs.PastCells.{all_passed, all_rise, all_there, sound_tables}

-- ---- names

names_of_one : (d : TableDef) → flat_map table_names (d ∷ []) ≡ table_names d
names_of_one d = append-nil (table_names d)

new_names : (before : Defs) (names : List (List ℕ)) (defs : Defs) → names ≡ all_names before → AllFresh names (map table_names defs)
    → AllByRecursion (λ d. repeats (table_names d) ≡ false) defs → HaveNewNames before defs
new_names before names [] e fresh own = tt
new_names before names (d ∷ ds) e fresh own = (
  record { unused = ap (λ (ns : List (List ℕ)). list_any (has_name ns) (table_names d)) (sym e) ∙ fresh.0; apart = own.0 },
  new_names (before ++ d ∷ []) (names ++ table_names d) ds
      (ap (λ (ns : List (List ℕ)). ns ++ table_names d) e
      ∙ ap (λ (ns : List (List ℕ)). all_names before ++ ns) (sym (names_of_one d))
      ∙ sym (flat_map-append table_names before (d ∷ [])))
      fresh.1 own.1,
)

all_own : (n : ℕ) (defs : Defs) → 3 ≤ n → IdsFrom n defs → AllByRecursion (λ (d : TableDef). 2 < d.id → Formed d) defs
    → AllByRecursion (λ d. repeats (table_names d) ≡ false) defs
all_own n [] l ids each = tt
all_own n (d ∷ ds) l ids each =
    ((each.0 (let e = ids.0 in omega (arith, e, l))).own_names, all_own (n + 1) ds (omega (arith, l)) ids.1 each.1)

apart_by : (defs : Defs) → IdsFrom 1 defs → AllFormed defs → AllByRecursion (λ d. repeats (table_names d) ≡ false) defs
apart_by [] ids formed = tt
apart_by (a ∷ []) ids formed = absurd formed.system
apart_by (a ∷ b ∷ ds) ids formed = (
  ap (λ (d : TableDef). repeats (table_names d)) formed.system.0,
  (ap (λ (d : TableDef). repeats (table_names d)) formed.system.1, all_own 3 ds (omega arith) ids.1.1 formed.each.1.1),
)

at_least : (ts : Tables) → AreInFront (defs_of ts) → 2 ≤ length ts
at_least [] h = absurd h
at_least (a ∷ []) h = absurd h
at_least (a ∷ b ∷ ts) h = omega arith

-- ---- the tables of a legal journal

module _ (reads : Reading) (J : List JournalItem) (legal : IsLegal reads J) where
  abbrev T : Tables
  T = serial reads J

  formed : AllFormed (defs_of T)
  formed = (rows.legal_described reads J legal).1

  ids : IdsFrom 1 (defs_of T)
  ids = (sound_tables reads J legal).ids

  are_formed : AreFormed (defs_of T)
  are_formed = let d = legal_described reads J legal in record { ids = ids; count = d.count; few = d.few; types = d.types }

  have_new_names : HaveNewNames [] (defs_of T)
  have_new_names = new_names [] [] (defs_of T) refl formed.fresh (apart_by (defs_of T) ids formed)

  pub are_ready : AreReady T
  are_ready = record {
    system = at_least T formed.system;
    formed = are_formed;
    names = have_new_names;
    rise = all_rise reads J legal;
  }

-- ---- its ledger

none_closed : (J : List JournalItem) → blocks J ≡ 0 → closed J ≡ 0
none_closed [] e = refl
none_closed (Tx id session time explicit lines ∷ is) e = none_closed is e
none_closed (Close k ∷ is) e = absurd (omega (arith, e))

-- each transaction of the journal has an entry, and entries aren't in blocks before there is one
pub is_counted : (h : List ℕ → List ℕ) (reads : Reading) (J : List JournalItem) (size next : ℕ) (l : Ledger) → IsLegal reads J
    → 1 ≤ size → size ≤ max_block → next ≤ 2 ^ 63 → l ≡ ledger_of h reads J → IsCounted size J next l
is_counted h reads J size next l legal some most few e =
    let of : Ledger = ledger_of h reads J in
    let all : length of.closed + length of.pending ≡ tx_count J = sym (length-append of.closed of.pending) ∙ entries_counted h reads J in
    let in_blocks : length of.blocks ≡ 0 → length of.closed ≡ 0 = λ none. closed_counted h reads J legal ∙ none_closed J (sym (blocks_counted h reads J) ∙ none) in
    subst (IsCounted size J next) (sym e) (record { some_size = some; most_size = most; most_next = few; entries = all; in_blocks = in_blocks })

-- ---- the first two tables

module _ (a b : Table) (us : Tables) (ids : IdsFrom 1 (defs_of (a ∷ b ∷ us))) where
  pub rows_are : length us ≤ 32 → all_rows_kept (a ∷ b ∷ us) 32 3 ≡ map rows_kept us ++ all_empty (32 - length us) (3 + length us)
  rows_are few =
      all_passed a (b ∷ us) 32 3 (let e = ids.0 in omega (arith, e))
      ∙ all_passed b us 32 3 (let e = ids.1.0 in omega (arith, e))
      ∙ all_there us 32 3 ids.1.1 few
