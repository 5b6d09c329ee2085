-- The roots of a transaction, table by table.
use Rattle.std.proofs.Common.{◌≡◌, ℕ, true, false, refl, sym, List, [], ◌∷◌, ◌++◌, map, length, append-nil}
use Rattle.std.specs.Prelude.{◌==◌}
use Rattle.std.specs.List.{AllByRecursion}
use Rattle.format_event.specs.Leaf.{HasLeaf, event_bytes}
use Rattle.base_merkle.specs.TreeHash.{tree_hash}
use Rattle.sql_types.specs.declared.event.Event.{Event}
use Rattle.sql_types.specs.declared.version.Table.{Table}
use Rattle.spec_model.specs.Events.{events_of}
use Rattle.spec_ledger.specs.Entries.{roots_of}
use Rattle.law_events.specs.Room.{FitsLeafFormat, FitsLeaf}

pub all_fit : (es : List Event) → AllByRecursion FitsLeaf es → AllByRecursion FitsLeafFormat es → AllByRecursion HasLeaf es
all_fit [] f r = tt
all_fit (e ∷ es) f r = (f.0 r.0, all_fit es f.1 r.1)

pub no_root : (h : List ℕ → List ℕ) (tx : ℕ) (t : Table) (old : List (ℕ × List ℕ))
    → (length (events_of tx t) == 0) ≡ true → old ≡ old ++ roots_of h tx (t ∷ [])
unfolding roots_of
no_root h tx t old none = rw none (sym (append-nil old))

pub one_root : (h : List ℕ → List ℕ) (tx : ℕ) (t : Table) → (length (events_of tx t) == 0) ≡ false
    → roots_of h tx (t ∷ []) ≡ (t.def.id, tree_hash h (map event_bytes (events_of tx t))) ∷ []
unfolding roots_of
one_root h tx t some = rw some refl
