-- What a leaf changes of the leaves in each table.
use Rattle.std.proofs.Common.{◌≡◌, ◌≢◌, ℕ, Bool, true, false, List, [], ◌∷◌, ◌++◌, refl, sym, ap}
use Rattle.std.specs.Prelude.{◌==◌, if◌then◌else◌}
use Rattle.std.proofs.lemmas.Bool.{ne_eqb, eq-eqb, eqb-true}
use Rattle.spec_protocol.specs.Seats.{Tree}
use Rattle.store_tx.specs.Leaves.{leaves_in, with_leaf}

pub leaf_here : (table : ℕ) (leaf : List ℕ) (trees : List Tree) → leaves_in table (with_leaf table leaf trees) ≡ leaves_in table trees ++ leaf ∷ []
leaf_here table leaf [] = rw (eq-eqb table table refl) refl
leaf_here table leaf (t ∷ ts) = by (t.table == table) refl (leaf_here table leaf ts)
  where
    by : (b : Bool) → (t.table == table) ≡ b → leaves_in table (with_leaf table leaf ts) ≡ leaves_in table ts ++ leaf ∷ []
        → leaves_in table (if b then record { table = table; leaves = t.leaves ++ leaf ∷ [] } ∷ ts else t ∷ with_leaf table leaf ts) ≡ (if b then t.leaves else leaves_in table ts) ++ leaf ∷ []
    by true e rest = rw (eq-eqb table table refl) refl
    by false e rest = rw e rest

pub leaf_elsewhere : (id table : ℕ) (leaf : List ℕ) (trees : List Tree) → id ≢ table → leaves_in id (with_leaf table leaf trees) ≡ leaves_in id trees
leaf_elsewhere id table leaf [] ne = rw (ne_eqb table id (λ e. ne (sym e))) refl
leaf_elsewhere id table leaf (t ∷ ts) ne = by (t.table == table) refl (leaf_elsewhere id table leaf ts ne)
  where
    by : (b : Bool) → (t.table == table) ≡ b → leaves_in id (with_leaf table leaf ts) ≡ leaves_in id ts
        → leaves_in id (if b then record { table = table; leaves = t.leaves ++ leaf ∷ [] } ∷ ts else t ∷ with_leaf table leaf ts) ≡ (if t.table == id then t.leaves else leaves_in id ts)
    by true e rest = let here : t.table ≡ table = eqb-true t.table table e in rw (here, ne_eqb table id (λ e. ne (sym e))) refl
    by false e rest = ap (λ l. if t.table == id then t.leaves else l) rest
