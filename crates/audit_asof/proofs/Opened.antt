-- Tables whose ids rise, and transactions that are counted alike.
use Rattle.std.proofs.Common.{◌≡◌, ◌<◌, ℕ, pos, Bool, true, false, refl, sym, ap, subst, ◌∙◌, List, [], ◌∷◌, map, take, Option, Some, None, arith}
use Rattle.std.specs.Prelude.{if◌then◌else◌, nat_lt}
use Rattle.std.proofs.lemmas.Bool.{and_parts, ltb-true}
use Rattle.sql_types.specs.declared.image.Image.{Image}
use Rattle.sql_types.specs.declared.image.TableRows.{TableRows}
use Rattle.sql_types.specs.declared.table.TableDef.{TableDef}
use Rattle.sql_types.specs.declared.version.Table.{Table}
use Rattle.spec_model.specs.Catalog.{Defs, Tables, defs_of}
use Rattle.spec_model.specs.Rows.{Row}
use Rattle.spec_model.specs.Lists.{is_among}
use Rattle.format_image.specs.DefBytes.{ids_rise}
use Rattle.format_image.specs.ImageBytes.{IsImage}
use Rattle.law_catalog_rows.specs.Differs.{is_encoded}
use Rattle.law_catalog_rows.specs.Encoded.{about}
use Rattle.sql_reference.specs.Ids.{IdsRise}
use Rattle.spec_asof.specs.DatabaseAt.{database_at, first_ids, rows_at, table_at, tables_at, users_at}
use Rattle.spec_asof.specs.DefTold.{def_told, items_told, last_row, table_told}

-- ---- ids

lower : (m n : ℕ) (defs : Defs) → m < n → IdsRise n defs → IdsRise m defs
lower m n [] lt h = tt
lower m n (d ∷ ds) lt h = (omega (arith, lt, h.0), h.1)

said_id : (row : Option Row) (def : TableDef) → (table_told row def).id ≡ def.id
said_id None def = refl
said_id (Some row) def = refl

told_id : (first second : List Row) (def : TableDef) → (def_told first second def).id ≡ def.id
unfolding def_told
told_id first second def = said_id (last_row 0 (pos def.id) (about (pos def.id) first)) (items_told (about (pos def.id) second) def)

with_one : (b : Bool) (last : ℕ) (def : TableDef) (t : Table) (rest : Tables) → t.def.id ≡ def.id → last < def.id → IdsRise def.id (defs_of rest)
    → IdsRise last (defs_of (if b then t ∷ rest else rest))
with_one true last def t rest same lt h = (omega (arith, same, lt), subst (λ (n : ℕ). IdsRise n (defs_of rest)) (sym same) h)
with_one false last def t rest same lt h = lower last def.id (defs_of rest) lt h

users_rise : (has : ℕ → Bool) (first second : List Row) (last : ℕ) (defs : Defs) (rows : List TableRows) → ids_rise last defs ≡ true
    → IdsRise last (defs_of (users_at has first second defs rows))
users_rise has first second last [] rows rise = tt
users_rise has first second last (def ∷ defs) [] rise = tt
users_rise has first second last (def ∷ defs) (r ∷ rs) rise =
    let parts = and_parts (nat_lt last def.id) (ids_rise def.id defs) rise in
    with_one (is_encoded first second [] (def_told first second def)) last def (table_at has (def_told first second def) r) (users_at has first second defs rs)
    (told_id first second def) (ltb-true last def.id parts.0) (users_rise has first second def.id defs rs parts.1)

tables_rise : (has : ℕ → Bool) (defs : Defs) (rows : List TableRows) → ids_rise 2 defs ≡ true → IdsRise 0 (defs_of (tables_at has defs rows))
tables_rise has defs [] rise = tt
tables_rise has defs (r ∷ []) rise = tt
tables_rise has defs (a ∷ b ∷ users) rise =
    (omega arith, (omega arith, users_rise has (rows_at has a) (rows_at has b) 2 defs users rise))

pub opened_rise : (i : Image) → IsImage i → (has : ℕ → Bool) (T : Tables) → T ≡ tables_at has i.defs i.tables → IdsRise 0 (defs_of T)
opened_rise i is has T e = subst (λ (U : Tables). IdsRise 0 (defs_of U)) (sym e) (tables_rise has i.defs i.tables is.ids)

-- ---- transactions

pub counted_alike : (i : Image) (n : ℕ) (txs : List ℕ) (T : Tables)
    → ((id : ℕ) → is_among txs id ≡ is_among (map (λ e. e.id) (take n i.entries)) id)
    → T ≡ tables_at (is_among txs) i.defs i.tables → T ≡ database_at i n
unfolding database_at
counted_alike i n txs T alike e =
    let same : is_among txs ≡ is_among (first_ids i.entries n) = λ j id. alike id j in
    e ∙ ap (λ (has : ℕ → Bool). tables_at has i.defs i.tables) same
