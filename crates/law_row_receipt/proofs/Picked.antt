-- A table of an image is found by its id, and what is hashed of its events is hashed where the image is verified.
use Rattle.std.proofs.Common.{◌≡◌, ◌<◌, ℕ, zero, suc, Bool, true, false, List, [], ◌∷◌, Some, refl, arith, sym, ap, subst}
use Rattle.std.specs.Prelude.{◌==◌}
use Rattle.std.specs.List.{slice_get}
use Rattle.std.proofs.lemmas.Bool.{eq-eqb, ne_eqb}
use Rattle.sql_types.specs.declared.image.Image.{Image}
use Rattle.sql_types.specs.declared.version.Table.{Table}
use Rattle.spec_model.specs.Catalog.{Tables}
use Rattle.spec_ledger.specs.Entries.{leaves_of}
use Rattle.format_image.specs.ImageBytes.{IsImage}
use Rattle.format_image.specs.Tables.{tables_in}
use Rattle.audit_extract.specs.Collisions.{IsAtNode, IsHashedIn, of_events}
use Rattle.audit_extract.specs.Leaves.{leaves_in}
use Rattle.audit_extract.proofs.Rooted.{Above, tables_above}

above_at : (n k : ℕ) (ts : Tables) (t : Table) → Above n ts → slice_get ts k ≡ Some t → n < t.def.id
above_at n k [] t above at = cc
above_at n zero (s ∷ ts) t above at = let same : s ≡ t = cc in subst (λ (u : Table). n < u.def.id) same above.0
above_at n (suc k) (s ∷ ts) t above at = let lt = above.0 in let more = above_at s.def.id k ts t above.1 at in omega (arith, lt, more)

picked_if : (b : Bool) (tx table : ℕ) (s : Table) (ts : Tables) (leaves : List (List ℕ)) → (s.def.id == table) ≡ b → (b ≡ true → leaves_of tx s ≡ leaves) → (b ≡ false → leaves_in ts tx table ≡ leaves)
    → leaves_in (s ∷ ts) tx table ≡ leaves
picked_if true tx table s ts leaves e here later = rw e (here refl)
picked_if false tx table s ts leaves e here later = rw e (later refl)

picked : (n tx k : ℕ) (ts : Tables) (t : Table) → Above n ts → slice_get ts k ≡ Some t → leaves_in ts tx t.def.id ≡ leaves_of tx t
picked n tx k [] t above at = cc
picked n tx zero (s ∷ ts) t above at =
    let same : s ≡ t = cc in
    picked_if true tx t.def.id s ts (leaves_of tx t) (eq-eqb s.def.id t.def.id (ap (λ (u : Table). u.def.id) same)) (λ e. ap (leaves_of tx) same) (λ e. absurd cc)
picked n tx (suc k) (s ∷ ts) t above at =
    let lt = above_at s.def.id k ts t above.1 at in
    picked_if false tx t.def.id s ts (leaves_of tx t) (ne_eqb s.def.id t.def.id (λ e. absurd (omega (arith, lt, e)))) (λ e. absurd cc) (λ e. picked s.def.id tx k ts t above.1 at)

pub events_hashed : (h : List ℕ → List ℕ) (i : Image) → IsImage i → (tx k : ℕ) (t : Table) → slice_get (tables_in i) k ≡ Some t → (x : List ℕ) → IsAtNode h (leaves_of tx t) x → IsHashedIn h i x
events_hashed h i is tx k t at x node =
    of_events tx t.def.id
    (subst (λ (leaves : List (List ℕ)). IsAtNode h leaves x) (sym (picked 0 tx k (tables_in i) t (tables_above i.defs i.tables is.ids) at)) node)
