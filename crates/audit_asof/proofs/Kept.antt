-- Versions that are kept one after another are those that were left.
use Rattle.std.proofs.Common.{◌≡◌, ◌∙◌, ℕ, Bool, true, false, refl, sym, ap, List, [], ◌∷◌, ◌++◌, map, flat_map}
use Rattle.std.specs.Prelude.{if◌then◌else◌}
use Rattle.std.specs.List.{filter}
use Rattle.std.proofs.lemmas.List.Concat.{flat_map-append}
use Rattle.sql_types.specs.declared.image.TableRows.{TableRows}
use Rattle.sql_types.specs.declared.version.Version.{Version}
use Rattle.spec_model.specs.Lists.{sorted}
use Rattle.spec_model.specs.Rows.{start_cmp}
use Rattle.spec_asof.specs.DatabaseAt.{left_of, versions_at, with_end_at}
use Rattle.audit_asof.specs.Kept.{kept_by}

one_kept : (has : ℕ → Bool) (v : Version) (vs kept : List Version) (b : Bool) → kept ≡ map (with_end_at has) vs
    → (if b then with_end_at has v ∷ [] else []) ++ kept ≡ map (with_end_at has) (if b then v ∷ vs else vs)
one_kept has v vs kept true e = ap (λ (us : List Version). with_end_at has v ∷ us) e
one_kept has v vs kept false e = e

all_kept : (has : ℕ → Bool) (vs : List Version) → flat_map (kept_by has) vs ≡ left_of has vs
all_kept has [] = refl
all_kept has (v ∷ vs) = one_kept has v (filter (λ u. has u.start.0) vs) (flat_map (kept_by has) vs) (has v.start.0) (all_kept has vs)

pub both_kept : (has : ℕ → Bool) (rows : TableRows) (kept : List Version)
    → kept ≡ sorted start_cmp (flat_map (kept_by has) rows.base ++ flat_map (kept_by has) rows.history)
    → kept ≡ versions_at has rows
unfolding versions_at
both_kept has rows kept e =
    e ∙ ap (sorted start_cmp) (sym (flat_map-append (kept_by has) rows.base rows.history) ∙ all_kept has (rows.base ++ rows.history))
