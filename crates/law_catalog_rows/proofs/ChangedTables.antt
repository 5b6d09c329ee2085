-- The tables after rows of some have changed, where the two system tables stand in front.
use Rattle.std.proofs.Common.{◌≡◌, ◌<◌, ℕ, ◌+◌, refl, List, [], ◌∷◌, arith}
use Rattle.std.proofs.lemmas.Bool.{eq-eqb, ne_eqb}
use Rattle.sql_types.specs.declared.version.Table.{Table}
use Rattle.sql_types.specs.declared.version.Version.{Version}
use Rattle.spec_model.specs.Catalog.{Tables, defs_of, with_versions, changed_table}
use Rattle.spec_model.specs.SystemTables.{tables_id, columns_id}
use Rattle.spec_model.specs.Agreement.{IdsFrom}

pub untouched : (n id : ℕ) (f : List Version → List Version) (T : Tables) → IdsFrom n (defs_of T) → id < n → changed_table id f T ≡ T
untouched n id f [] ids lt = refl
untouched n id f (t ∷ ts) ids lt = rw (ne_eqb t.def.id id (λ e. absurd (omega (arith, e, ids.0, lt))), untouched (n + 1) id f ts ids.1 (omega (arith, lt))) refl

module _ (a b : Table) (ts : Tables) (ids : IdsFrom 1 (defs_of (a ∷ b ∷ ts))) where
  pub system_changed : (f g : List Version → List Version) → changed_table columns_id g (changed_table tables_id f (a ∷ b ∷ ts)) ≡ with_versions f a ∷ with_versions g b ∷ ts
  system_changed f g =
      rw (eq-eqb a.def.id 1 ids.0, ne_eqb b.def.id 1 (λ e. absurd (omega (arith, e, ids.1.0))), untouched 3 1 f ts ids.1.1 (omega arith))
      (rw (ne_eqb a.def.id 2 (λ e. absurd (omega (arith, e, ids.0))), eq-eqb b.def.id 2 ids.1.0, untouched 3 2 g ts ids.1.1 (omega arith)) refl)

  pub users_changed : (id : ℕ) (f : List Version → List Version) → 2 < id → changed_table id f (a ∷ b ∷ ts) ≡ a ∷ b ∷ changed_table id f ts
  users_changed id f lt = rw (ne_eqb a.def.id id (λ e. absurd (omega (arith, e, ids.0, lt))), ne_eqb b.def.id id (λ e. absurd (omega (arith, e, ids.1.0, lt)))) refl
