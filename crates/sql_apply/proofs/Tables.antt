-- One table of those that have the ids from the first one on.
use Rattle.std.proofs.Common.{◌≡◌, ◌≢◌, ◌<◌, ◌≤◌, ◌+◌, ◌-◌, ℕ, suc, zero, refl, sym, ap, false, true, List, [], ◌∷◌, length, get_or, ◌⊎◌, inl, inr, arith}
use Rattle.std.specs.Prelude.{slice_set, ◌==◌}
use Rattle.std.proofs.lemmas.Bool.{eq-eqb, ne_eqb}
use Rattle.sql_types.specs.declared.version.Table.{Table}
use Rattle.sql_types.specs.declared.version.Version.{Version}
use Rattle.spec_model.specs.Agreement.{IdsFrom}
use Rattle.spec_model.specs.Catalog.{Tables, changed_table, defs_of, with_versions}

module _ (id : ℕ) (f : List Version → List Version) where
  -- no table has the id
  none_from : (n : ℕ) (T : Tables) → IdsFrom n (defs_of T) → (id < n) ⊎ (n + length T ≤ id) → changed_table id f T ≡ T
  none_from n [] ids apart = refl
  none_from n (t ∷ ts) ids apart =
      let other : (t.def.id == id) ≡ false = ne_eqb t.def.id id (λ same. elim apart [ inl below ↦ omega (arith, ids.0, same) | inr above ↦ omega (arith, ids.0, same) ]) in
      let rest : changed_table id f ts ≡ ts = none_from (n + 1) ts ids.1 (elim apart [ inl below ↦ inl (omega arith) | inr above ↦ inr (omega arith) ]) in
      rw (other, rest) refl

  pub none_changed : (T : Tables) → IdsFrom 1 (defs_of T) → (id ≡ 0) ⊎ (length T < id) → T ≡ changed_table id f T
  none_changed T ids apart = sym (none_from 1 T ids (elim apart [ inl none ↦ inl (omega arith) | inr above ↦ inr (omega arith) ]))

  -- one has it, by its place
  one_from : (n k : ℕ) (T : Tables) (d : Table) → IdsFrom n (defs_of T) → id ≡ n + k → k < length T → slice_set T k (with_versions f (get_or T k d)) ≡ changed_table id f T
  one_from n k [] d ids is inside = absurd (omega arith)
  one_from n zero (t ∷ ts) d ids is inside =
      let same : (t.def.id == id) ≡ true = eq-eqb t.def.id id (omega (arith, ids.0)) in
      let rest : changed_table id f ts ≡ ts = none_from (n + 1) ts ids.1 (inl (omega arith)) in
      rw (same, rest) refl
  one_from n (suc k) (t ∷ ts) d ids is inside =
      let other : (t.def.id == id) ≡ false = ne_eqb t.def.id id (λ same. omega (arith, ids.0, same)) in
      rw other (ap (λ us. t ∷ us) (one_from (n + 1) k ts d ids.1 (omega arith) (omega arith)))

  pub one_changed : (T : Tables) (d : Table) → IdsFrom 1 (defs_of T) → id ≢ 0 → id ≤ length T → slice_set T (id - 1) (with_versions f (get_or T (id - 1) d)) ≡ changed_table id f T
  one_changed T d ids some inside = one_from 1 (id - 1) T d ids (omega arith) (omega arith)
