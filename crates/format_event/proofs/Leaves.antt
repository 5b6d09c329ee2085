-- Events without NULL columns have a leaf.
use Rattle.std.proofs.Common.{List, sym, subst}
use Rattle.sql_types.specs.declared.event.Event.{Event}
use Rattle.sql_types.specs.declared.event.EventField.{EventField}
use Rattle.format_event.specs.Leaf.{HasLeaf, IsEvent}
use Rattle.format_event.proofs.LeafExact.{all_told}

abbrev with_columns : Event → List EventField → Event
with_columns e columns = record { table = e.table; tx = e.tx; seq = e.seq; ends = e.ends; columns = columns }

pub leaf_again : (e : Event) → IsEvent e → HasLeaf e
leaf_again e is = subst (λ columns. IsEvent (with_columns e columns)) (sym (all_told e.columns is.columns)) is
