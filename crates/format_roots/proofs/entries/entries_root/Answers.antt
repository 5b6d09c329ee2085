use Rattle.std.proofs.Common.{◌≡◌, ◌∷◌, ◌∙◌, ℕ, List, map, sym}
use Rattle.std.proofs.lemmas.Simd.{map-map}
use Rattle.format_entry.specs.Entry.{entry_bytes}
use Rattle.format_roots.proofs.entries.entries_root.Goals as goal

pub returns : goal.returns
returns g c =
    let h = g.H.Hash32.digest c.args.h in
    let leaves : List (List ℕ) = map entry_bytes c.args.entries.now in
    let hashed : c.in_ok-hashes.hashes.items ≡ map (λ leaf. h (0 ∷ leaf)) leaves =
    c.in_ok-hashes.ensures ∙ sym (map-map (λ (leaf : List ℕ). h (0 ∷ leaf)) entry_bytes c.args.entries.now) in
    c.in_ok-root.ensures leaves hashed
