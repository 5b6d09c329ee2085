-- The tables of users, one after another.
use Rattle.std.proofs.Common.{◌≡◌, ℕ, Bool, true, false, refl, sym, ap, ◌∙◌, List, [], ◌∷◌, ◌++◌, append_assoc, append-nil, length}
use Rattle.std.specs.Prelude.{if◌then◌else◌}
use Rattle.sql_types.specs.declared.image.TableRows.{TableRows}
use Rattle.sql_types.specs.declared.table.TableDef.{TableDef}
use Rattle.sql_types.specs.declared.version.Table.{Table}
use Rattle.spec_model.specs.Catalog.{Defs, Tables}
use Rattle.spec_model.specs.Rows.{Row}
use Rattle.law_catalog_rows.specs.Differs.{is_encoded}
use Rattle.spec_asof.specs.DatabaseAt.{table_at, users_at}
use Rattle.spec_asof.specs.DefTold.{def_told}

one_more : (b : Bool) (t : Table) (rest : Tables) → (if b then t ∷ rest else rest) ≡ (if b then t ∷ [] else []) ++ rest
one_more true t rest = refl
one_more false t rest = refl

module _ (has : ℕ → Bool) (first second : List Row) where
  pub go_on : (before after all : Tables) (def : TableDef) (rows : TableRows) (defs : Defs) (more : List TableRows)
      → after ≡ before ++ users_at has first second (def ∷ []) (rows ∷ [])
      → before ++ users_at has first second (def ∷ defs) (rows ∷ more) ≡ all
      → after ++ users_at has first second defs more ≡ all
  go_on before after all def rows defs more e so =
      let b : Bool = is_encoded first second [] (def_told first second def) in
      let t : Table = table_at has (def_told first second def) rows in
      ap (λ (T : Tables). T ++ users_at has first second defs more) e
      ∙ append_assoc before (if b then t ∷ [] else []) (users_at has first second defs more)
      ∙ ap (λ (T : Tables). before ++ T) (sym (one_more b t (users_at has first second defs more)))
      ∙ so

  pub none_left : (defs : Defs) (rows : List TableRows) → length rows ≡ 0 → users_at has first second defs rows ≡ []
  none_left [] rows e = refl
  none_left (def ∷ defs) [] e = refl
  none_left (def ∷ defs) (r ∷ rs) e = cc

  pub no_defs : (defs : Defs) (rows : List TableRows) → length defs ≡ 0 → users_at has first second defs rows ≡ []
  no_defs [] rows e = refl
  no_defs (def ∷ defs) rows e = cc

-- one table that passes, or that doesn't

pub added : (b : Bool) (t u : Table) (before after : Tables) → b ≡ true → u ≡ t → after ≡ before ++ u ∷ [] → after ≡ before ++ (if b then t ∷ [] else [])
added true t u before after e is so = so ∙ ap (λ (x : Table). before ++ x ∷ []) is
added false t u before after e is so = cc

pub passed : (b : Bool) (t : Table) (before : Tables) → b ≡ false → before ≡ before ++ (if b then t ∷ [] else [])
passed true t before e = cc
passed false t before e = sym (append-nil before)
