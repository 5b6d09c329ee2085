-- Entries without their places, and at the places that the sizes of blocks give them.
use Rattle.std.proofs.Common.{◌≡◌, ℕ, zero, suc, ◌+◌, List, [], ◌∷◌, ◌++◌, length, map, take, drop, refl, sym, ap, subst, ◌∙◌}
use Rattle.std.specs.Prelude.{flat_map}
use Rattle.std.specs.List.{AllByRecursion}
use Rattle.std.proofs.lemmas.List.{map-append, length-map, take-append-drop}
use Rattle.sql_types.specs.declared.entry.TxEntry.{TxEntry}
use Rattle.spec_ledger.specs.Entries.{at_place, placed}
use Rattle.spec_ledger.specs.Parts.{by_sizes}
use Rattle.format_image.specs.ImageBytes.{placeless_bytes, IsPlaceless}

-- the entry without its place
abbrev pub bare : TxEntry → TxEntry
bare e = at_place 0 0 e

pub record IsBare (e : TxEntry) : Type 0 where
  pub placeless : IsPlaceless e
  pub block : e.block ≡ 0
  pub ordinal : e.ordinal ≡ 0

take_map : (k : ℕ) (es : List TxEntry) → take k (map bare es) ≡ map bare (take k es)
take_map zero es = refl
take_map (suc k) [] = refl
take_map (suc k) (e ∷ es) = ap (λ (l : List TxEntry). bare e ∷ l) (take_map k es)

drop_map : (k : ℕ) (es : List TxEntry) → drop k (map bare es) ≡ map bare (drop k es)
drop_map zero es = refl
drop_map (suc k) [] = refl
drop_map (suc k) (e ∷ es) = drop_map k es

placed_bare : (b n : ℕ) (es : List TxEntry) → placed b n (map bare es) ≡ placed b n es
placed_bare b n [] = refl
placed_bare b n (e ∷ es) = ap (λ (l : List TxEntry). at_place b n e ∷ l) (placed_bare b (n + 1) es)

bare_placed : (b n : ℕ) (es : List TxEntry) → map bare (placed b n es) ≡ map bare es
bare_placed b n [] = refl
bare_placed b n (e ∷ es) = ap (λ (l : List TxEntry). bare e ∷ l) (bare_placed b (n + 1) es)

pub by_sizes_bare : (b : ℕ) (ks : List ℕ) (es : List TxEntry) → by_sizes b ks (map bare es) ≡ by_sizes b ks es
by_sizes_bare b [] es = placed_bare b 0 es
by_sizes_bare b (k ∷ ks) es =
    let front : placed b 0 (take k (map bare es)) ≡ placed b 0 (take k es) = ap (placed b 0) (take_map k es) ∙ placed_bare b 0 (take k es) in
    let rest : by_sizes (b + 1) ks (drop k (map bare es)) ≡ by_sizes (b + 1) ks (drop k es) = ap (by_sizes (b + 1) ks) (drop_map k es) ∙ by_sizes_bare (b + 1) ks (drop k es) in
    cc

pub bare_by_sizes : (b : ℕ) (ks : List ℕ) (es : List TxEntry) → map bare (by_sizes b ks es) ≡ map bare es
bare_by_sizes b [] es = bare_placed b 0 es
bare_by_sizes b (k ∷ ks) es =
    let parts : map bare (by_sizes b (k ∷ ks) es) ≡ map bare (placed b 0 (take k es)) ++ map bare (by_sizes (b + 1) ks (drop k es)) =
    map-append bare (placed b 0 (take k es)) (by_sizes (b + 1) ks (drop k es)) in
    let front = bare_placed b 0 (take k es) in
    let rest = bare_by_sizes (b + 1) ks (drop k es) in
    let whole : map bare es ≡ map bare (take k es) ++ map bare (drop k es) =
    ap (map bare) (sym (take-append-drop k es)) ∙ map-append bare (take k es) (drop k es) in
    cc

-- entries that stand at their places do so again
pub by_sizes_twice : (ks : List ℕ) (es : List TxEntry) → by_sizes 0 ks es ≡ by_sizes 0 ks (by_sizes 0 ks es)
by_sizes_twice ks es =
    sym (by_sizes_bare 0 ks es) ∙ ap (by_sizes 0 ks) (sym (bare_by_sizes 0 ks es)) ∙ by_sizes_bare 0 ks (by_sizes 0 ks es)

pub length_by_sizes : (b : ℕ) (ks : List ℕ) (es : List TxEntry) → length (by_sizes b ks es) ≡ length es
length_by_sizes b ks es = sym (length-map (by_sizes b ks es) bare) ∙ ap length (bare_by_sizes b ks es) ∙ length-map es bare

pub bytes_bare : (es : List TxEntry) → flat_map placeless_bytes (map bare es) ≡ flat_map placeless_bytes es
bytes_bare [] = refl
bytes_bare (e ∷ es) = ap (λ (bytes : List ℕ). placeless_bytes e ++ bytes) (bytes_bare es)

pub bytes_by_sizes : (b : ℕ) (ks : List ℕ) (es : List TxEntry) → flat_map placeless_bytes (by_sizes b ks es) ≡ flat_map placeless_bytes es
bytes_by_sizes b ks es = sym (bytes_bare (by_sizes b ks es)) ∙ ap (flat_map placeless_bytes) (bare_by_sizes b ks es) ∙ bytes_bare es

moved : (b n : ℕ) (e : TxEntry) → IsPlaceless e → IsPlaceless (at_place b n e)
moved b n e f = record { id = f.id; time = f.time; principal = f.principal; count = f.count; roots = f.roots; rise = f.rise }

moved_back : (e : TxEntry) → IsBare (bare e) → IsPlaceless e
moved_back e f = let p = f.placeless in record { id = p.id; time = p.time; principal = p.principal; count = p.count; roots = p.roots; rise = p.rise }

pub all_bare : (es : List TxEntry) → AllByRecursion IsPlaceless es → AllByRecursion IsBare (map bare es)
all_bare [] all = tt
all_bare (e ∷ es) all = (record { placeless = moved 0 0 e all.0; block = refl; ordinal = refl }, all_bare es all.1)

bare_all : (es : List TxEntry) → AllByRecursion IsBare (map bare es) → AllByRecursion IsPlaceless es
bare_all [] all = tt
bare_all (e ∷ es) all = (moved_back e all.0, bare_all es all.1)

pub all_placeless : (es : List TxEntry) → AllByRecursion IsBare es → AllByRecursion IsPlaceless es
all_placeless [] all = tt
all_placeless (e ∷ es) all = (all.0.placeless, all_placeless es all.1)

pub all_by_sizes : (b : ℕ) (ks : List ℕ) (es : List TxEntry) → AllByRecursion IsPlaceless es → AllByRecursion IsPlaceless (by_sizes b ks es)
all_by_sizes b ks es all = bare_all (by_sizes b ks es) (subst (AllByRecursion IsBare) (sym (bare_by_sizes b ks es)) (all_bare es all))
