-- What is committed by the journal.
use Rattle.std.proofs.Common.{◌≡◌, ◌∙◌, ℕ, Bool, true, false, List, [], ◌∷◌, ◌++◌, Option, Some, None, refl, sym, ap, ap₂}
use Rattle.std.specs.Prelude.{◌==◌, not, if◌then◌else◌, option_map, IfSome}
use Rattle.std.specs.List.{list_any}
use Rattle.std.proofs.lemmas.List.{map-append}
use Rattle.sql_types.specs.declared.table.TableDef.{TableDef}
use Rattle.sql_types.specs.declared.version.Table.{Table}
use Rattle.sql_types.specs.declared.version.Version.{Version}
use Rattle.spec_model.specs.Catalog.{Defs}
use Rattle.store_image.specs.Known.{has_in}
use Rattle.law_server.specs.CellsImage.{committed_tables, defs_before, tables_in_cells}
use Rattle.spec_protocol.specs.Cells.{Cell, CatalogCell, Creator, LedgerCell, versions_at}
use Rattle.spec_protocol.specs.CommittedTxs.{committed}
use Rattle.spec_protocol.specs.Contents.{has_id}
use Rattle.store_image.specs.Leads.{is_uncommitted}

-- ---- transactions

pub same_known : (known : List ℕ) (cells : List Cell) (catalog : CatalogCell) (ledger : LedgerCell)
    (defs : Defs) (tables : List Table)
    → ((id : ℕ) → list_any (λ n. n == id) known ≡ has_id ledger.items id)
    → defs ≡ defs_before (has_in known) catalog.defs catalog.creator
    → tables ≡ committed_tables (has_in known) cells defs
    → tables ≡ tables_in_cells cells catalog ledger
same_known known cells catalog ledger defs tables knows are these =
    let same : has_in known ≡ has_id ledger.items = λ i id. knows id i in
    these ∙ ap (committed_tables (has_in known) cells) are
    ∙ ap (λ (has : ℕ → Bool). committed_tables has cells (defs_before has catalog.defs catalog.creator)) same

-- ---- definitions

earlier_by : (b : Bool) (defs before copies : Defs) → not b ≡ true → copies ≡ before
    → copies ≡ (if b then defs else before)
earlier_by true defs before copies e is = cc
earlier_by false defs before copies e is = is

same_by : (b : Bool) (defs before : Defs) → not b ≡ false → defs ≡ (if b then defs else before)
same_by true defs before e = refl
same_by false defs before e = cc

pub earlier_defs : (has : ℕ → Bool) (defs copies : Defs) (creator : Option Creator) (tx : Option ℕ)
    → tx ≡ option_map (λ c. c.tx) creator → is_uncommitted has tx ≡ true
    → IfSome creator (λ c. copies ≡ c.before) → copies ≡ defs_before has defs creator
earlier_defs has defs copies None tx is e before =
    absurd (let never : false ≡ true = sym (ap (is_uncommitted has) is) ∙ e in cc)
earlier_defs has defs copies (Some c) tx is e before =
    earlier_by (has c.tx) defs c.before copies (sym (ap (is_uncommitted has) is) ∙ e) before

pub kept_defs : (has : ℕ → Bool) (defs copies : Defs) (creator : Option Creator) (tx : Option ℕ)
    → tx ≡ option_map (λ c. c.tx) creator → is_uncommitted has tx ≡ false → copies ≡ defs
    → copies ≡ defs_before has defs creator
kept_defs has defs copies None tx is e same = same
kept_defs has defs copies (Some c) tx is e same =
    same ∙ same_by (has c.tx) defs c.before (sym (ap (is_uncommitted has) is) ∙ e)

-- ---- tables
