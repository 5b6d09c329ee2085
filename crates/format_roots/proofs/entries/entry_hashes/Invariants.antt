use Rattle.std.proofs.Common.{◌≡◌, ◌≤◌, ◌-◌, ◌∷◌, length, map, take}
use Rattle.format_entry.specs.Entry.{entry_bytes}
use Rattle.format_roots.proofs.entries.entry_hashes.Given as goal

abbrev pub invariant-fours : goal.invariant-fours
invariant-fours g l = (l.done ≤ length l.entries)
    × (l.hashes.items ≡ map (λ e. g.H.Hash32.digest l.h (0 ∷ entry_bytes e)) (take l.done l.entries))

abbrev pub decreases-fours : goal.decreases-fours
decreases-fours g l = length l.entries - l.done

abbrev pub invariant-rest : goal.invariant-rest
invariant-rest g l = (l.done ≤ length l.entries)
    × (l.hashes.items ≡ map (λ e. g.H.Hash32.digest l.h (0 ∷ entry_bytes e)) (take l.done l.entries))

abbrev pub decreases-rest : goal.decreases-rest
decreases-rest g l = length l.entries - l.done
