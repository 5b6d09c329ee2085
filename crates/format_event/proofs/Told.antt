-- The columns of an event that has a leaf.
use Rattle.std.proofs.Common.{◌≡◌, Bool, true, false, cond, List, [], ◌∷◌, filter, refl}
use Rattle.std.specs.List.{All, AllByRecursion}
use Rattle.std.proofs.lemmas.List.Elements.{All-from_recursion}
use Rattle.sql_types.specs.declared.event.EventField.{EventField}
use Rattle.format_event.specs.Leaf.{has_value, IsField, IsFieldOrNull}

told_here : (b : Bool) (f : EventField) (rest : List EventField) → has_value f ≡ b → AllByRecursion IsField (cond b (f ∷ rest) rest) → IsFieldOrNull f × AllByRecursion IsField rest
told_here true f rest e all = (λ told. all.0, all.1)
told_here false f rest e all = (λ told. absurd cc, all)

told : (columns : List EventField) → AllByRecursion IsField (filter has_value columns) → AllByRecursion IsFieldOrNull columns
told [] all = tt
told (f ∷ columns) all =
    let here = told_here (has_value f) f (filter has_value columns) refl all in
    (here.0, told columns here.1)

-- each column is one that a leaf takes, or is NULL
pub told_columns : (columns : List EventField) → AllByRecursion IsField (filter has_value columns) → All IsFieldOrNull columns
told_columns columns all = All-from_recursion IsFieldOrNull columns (told columns all)
