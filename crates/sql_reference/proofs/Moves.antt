-- Steps that change nothing.
use Rattle.std.proofs.Common.{◌≡◌, refl, Option, Some}
use Rattle.spec_model.specs.Catalog.{Tables}
use Rattle.sql_reference.specs.Machine.{Running, Machine, moved}

with_script : (tables : Tables) (x : Running) (o : Option Running) → o ≡ Some x → (let m : Machine = record { tables = tables; script = o } in moved m x x.state ≡ m)
with_script tables x o e = rw e refl

-- a step to the state in which the script is
pub stays : (m : Machine) (x : Running) → m.script ≡ Some x → moved m x x.state ≡ m
stays m x e = with_script m.tables x m.script e
