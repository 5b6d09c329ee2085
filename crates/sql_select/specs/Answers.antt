-- What code answers that gives a `Vec` and may lack memory.
use Rattle.std.specs.Prelude.{Result, Ok, Err, Vec, List, ◌≡◌, ◌≢◌}
use Rattle.std.specs.declared.alloc.Global.{Global}
use Rattle.sql_value.specs.declared.refusal.Refusal.{Refusal}
use Rattle.sql_value.specs.declared.refusal.Refusal.TheVariants.{NoMemory}
use Rattle.spec_model.specs.Refusals.{Checked}

-- the items that are meant, or the refusal, or that there is no more memory
abbrev pub ItemsMatchUnlessOom : {A : Type 0} → Checked (List A) → Result (Vec A Global) Refusal → Type 0
ItemsMatchUnlessOom meant (Ok v) = meant ≡ Ok v.items
ItemsMatchUnlessOom meant (Err e) = e ≢ NoMemory → meant ≡ Err e
