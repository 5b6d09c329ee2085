-- The image of what lies in cells that stand together is that of their journal.
use Rattle.std.proofs.Common.{◌≡◌, ◌≢◌, ◌≤◌, ◌+◌, ◌∙◌, inl, inr, ℕ, refl, sym, ap, ap₂, arith, Bool, true, false, List, [], ◌∷◌, ◌++◌, map, Option, Some, None}
use Rattle.std.proofs.lemmas.Bool.{eq-eqb, ne_eqb}
use Rattle.std.specs.Prelude.{◌==◌}
use Rattle.sql_types.specs.declared.image.Image.{Image}
use Rattle.sql_types.specs.declared.table.TableDef.{TableDef}
use Rattle.sql_types.specs.declared.version.Table.{Table}
use Rattle.sql_types.specs.declared.version.Version.{Version}
use Rattle.spec_model.specs.Agreement.{IdsFrom}
use Rattle.spec_model.specs.Catalog.{Defs, Tables, defs_of, versions_of}
use Rattle.spec_model.specs.Journals.{serial}
use Rattle.spec_protocol.specs.StandTogether.{History}
use Rattle.spec_ledger.specs.Ledger.{Ledger}
use Rattle.law_blocks.proofs.Roots.{legal_ids}
use Rattle.format_image.specs.Image.{user_defs, image_of}
use Rattle.format_image.specs.ImageBytes.{image_bytes}
use Rattle.format_image.specs.Rows.{table_rows}
use Rattle.spec_protocol.specs.Server.{Server, journal_image}
use Rattle.spec_protocol.specs.Cells.{Creator, Cell, versions_at}
use Rattle.spec_protocol.specs.CommittedTxs.{committed}
use Rattle.spec_protocol.specs.Contents.{Contents, Known, contents, known, has_id}
use Rattle.spec_protocol.specs.Seats.{SeatState}
use Rattle.spec_protocol.specs.StandTogether.{Stands}
use Rattle.spec_protocol.specs.TablesAreSerial.{IsUnderWay, AreDefinitions, GoesBack}
use Rattle.law_server.specs.CellsImage.{defs_before, tables_in_cells, cells_image}

-- ---- tables, from their definitions and their versions

own_versions : (t : Table) (ts : Tables) → versions_of (t ∷ ts) t.def.id ≡ t.versions
own_versions t ts = let e : (t.def.id == t.def.id) ≡ true = eq-eqb t.def.id t.def.id refl in rw e refl

other_versions : (t : Table) (ts : Tables) (id : ℕ) → t.def.id ≢ id → versions_of (t ∷ ts) id ≡ versions_of ts id
other_versions t ts id other = let e : (t.def.id == id) ≡ false = ne_eqb t.def.id id other in rw e refl

abbrev with_its : (ℕ → List Version) → TableDef → Table
with_its f def = record { def = def; versions = f def.id }

abbrev table_of : TableDef → List Version → Table
table_of def versions = record { def = def; versions = versions }

rebuilt : (f : ℕ → List Version) (n : ℕ) (ts : Tables) → IdsFrom n (defs_of ts) → ((id : ℕ) → n ≤ id → f id ≡ versions_of ts id) → map (with_its f) (defs_of ts) ≡ ts
rebuilt f n [] ids e = refl
rebuilt f n (t ∷ ts) ids e =
    let own : t.def.id ≡ n = ids.0 in
    let first : with_its f t.def ≡ t = ap (table_of t.def) (e t.def.id (omega (arith, own)) ∙ own_versions t ts) in
    ap (λ x. x ∷ map (with_its f) (defs_of ts)) first
    ∙ ap (λ xs. t ∷ xs) (rebuilt f (n + 1) ts ids.1 (λ id le. e id (omega (arith, le)) ∙ other_versions t ts id (λ same. absurd (omega (arith, own, same, le)))))

-- ---- definitions

module _ (v : Server) (c : Contents) (k : Known) (seats : List SeatState) where
  back : (defs : Defs) (creator : Option Creator) → (b : Bool) → ((e : Creator) → creator ≡ Some e → k.has e.tx ≡ b) → defs ≡ defs_of k.tables
      → ((e : Creator) → creator ≡ Some e → GoesBack c k e) → defs_before k.has defs creator ≡ defs_of k.tables
  back defs None b is same goes = same
  back defs (Some e) true is same goes = rw (is e refl) same
  back defs (Some e) false is same goes = rw (is e refl) ((goes e refl).before (is e refl))

  under_way : (defs : Defs) (creator : Option Creator) → IsUnderWay v c k seats defs creator → defs_before k.has defs creator ≡ defs_of k.tables
  under_way defs creator u =
      let before : defs_before k.has defs (Some (record { tx = u.by.o.id; before = defs_of k.tables })) ≡ defs_of k.tables = rw u.by.outside refl in
      ap (defs_before k.has defs) u.has_creator ∙ before

  -- whether the journal has the creator's transaction
  has_creator : Option Creator → Bool
  has_creator None = true
  has_creator (Some e) = k.has e.tx

  same_has : (creator : Option Creator) (e : Creator) → creator ≡ Some e → k.has e.tx ≡ has_creator creator
  unfolding has_creator
  same_has creator e is = sym (ap has_creator is)

  known_defs : (defs : Defs) (creator : Option Creator) → AreDefinitions v c k seats defs creator → ((e : Creator) → creator ≡ Some e → GoesBack c k e)
      → defs_before k.has defs creator ≡ defs_of k.tables
  known_defs defs creator (inl same) goes = back defs creator (has_creator creator) (same_has creator) same goes
  known_defs defs creator (inr u) goes = under_way defs creator u

-- ---- all

module _ (v : Server) (history : History) (cells : List Cell) (seats : List SeatState) (st : Stands v history cells seats) where
  pub same_tables : tables_in_cells cells st.catalog st.ledger ≡ serial v.reads st.ledger.items
  same_tables =
      let J = st.ledger.items in
      let serials = st.tables_are_serial in
      let f : ℕ → List Version = λ id. committed (has_id J) (versions_at cells id) in
      let defs : defs_before (has_id J) st.catalog.defs st.catalog.creator ≡ defs_of (serial v.reads J) =
      known_defs v (contents cells) (known v.reads J) seats st.catalog.defs st.catalog.creator serials.definitions serials.goes_back in
      ap (map (with_its f)) defs
      ∙ rebuilt f 1 (serial v.reads J) (legal_ids v.reads J st.ledger_is_legal.legal) serials.versions

  abbrev image_with : Ledger → Tables → Image
  image_with chain tables = record {
    database = st.ledger.database;
    blocks = chain.blocks;
    entries = chain.closed ++ chain.pending;
    defs = user_defs tables;
    tables = map table_rows tables;
  }

  pub same_image : cells_image cells st.catalog st.ledger ≡ image_of v.hash v.reads st.ledger.database st.ledger.items
  unfolding cells_image image_of
  same_image = ap₂ image_with st.ledger_is_legal.chain same_tables

  pub same_bytes : journal_image v st.ledger.database st.ledger.items ≡ image_bytes (cells_image cells st.catalog st.ledger)
  unfolding journal_image
  same_bytes = ap image_bytes (sym same_image)
