-- Versions that are kept one after another are those that are committed.
use Rattle.std.proofs.Common.{◌≡◌, ℕ, Bool, true, false, refl, ap, List, [], ◌∷◌, ◌++◌, map, flat_map}
use Rattle.std.specs.Prelude.{if◌then◌else◌}
use Rattle.std.specs.List.{filter}
use Rattle.sql_types.specs.declared.version.Version.{Version}
use Rattle.spec_protocol.specs.CommittedTxs.{with_committed_end, committed}
use Rattle.store_image.specs.Known.{kept_by}

one_kept : (has : ℕ → Bool) (v : Version) (vs kept : List Version) (b : Bool) → kept ≡ map (with_committed_end has) vs
    → (if b then with_committed_end has v ∷ [] else []) ++ kept ≡ map (with_committed_end has) (if b then v ∷ vs else vs)
one_kept has v vs kept true e = ap (λ (us : List Version). with_committed_end has v ∷ us) e
one_kept has v vs kept false e = e

pub all_kept : (has : ℕ → Bool) (vs : List Version) → flat_map (kept_by has) vs ≡ committed has vs
all_kept has [] = refl
all_kept has (v ∷ vs) = one_kept has v (filter (λ u. has u.start.0) vs) (flat_map (kept_by has) vs) (has v.start.0) (all_kept has vs)
