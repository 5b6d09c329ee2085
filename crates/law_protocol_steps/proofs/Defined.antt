-- The definition of a table that there is.
use Rattle.std.proofs.Common.{◌≡◌, ℕ, Bool, true, false, [], ◌∷◌, Some, refl, sym, ap, ◌∙◌}
use Rattle.std.specs.Prelude.{◌==◌, ◌||◌, if◌then◌else◌}
use Rattle.sql_types.specs.declared.table.TableDef.{TableDef}
use Rattle.spec_model.specs.Catalog.{Defs}
use Rattle.spec_model.specs.Agreement.{columns_at}
use Rattle.law_frame.proofs.AgreeAfter.{has_table}
use Rattle.spec_protocol.specs.TablesAreSerial.{def_at}

pub record IsDefined (defs : Defs) (id : ℕ) : Type 0 where
  pub def : TableDef
  pub is : def_at defs id ≡ Some def
  pub columns : def.columns ≡ columns_at defs id

pub is_defined : (defs : Defs) (id : ℕ) → has_table defs id ≡ true → IsDefined defs id
unfolding has_table
is_defined [] id e = absurd (let z : false ≡ true = e in cc)
is_defined (def ∷ defs) id e = by (def.id == id) refl (is_defined defs id)
  where
    by : (b : Bool) → (def.id == id) ≡ b → (has_table defs id ≡ true → IsDefined defs id) → IsDefined (def ∷ defs) id
    by true f rest = record { def = def; is = ap (λ (c : Bool). if c then Some def else def_at defs id) f; columns = ap (λ (c : Bool). if c then def.columns else columns_at defs id) (sym f) }
    by false f rest = let r = rest (ap (λ (c : Bool). c || has_table defs id) (sym f) ∙ e) in
        record { def = r.def; is = ap (λ (c : Bool). if c then Some def else def_at defs id) f ∙ r.is; columns = r.columns ∙ ap (λ (c : Bool). if c then def.columns else columns_at defs id) (sym f) }
