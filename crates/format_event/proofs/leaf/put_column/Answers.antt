use Rattle.format_event.proofs.Sizes.{value_small}
use Rattle.format_event.proofs.TypeLaws.{in_range_fits}
use Rattle.format_event.proofs.ValueLaws.{stored_in_range, stored_fits}
use Rattle.format_event.proofs.leaf.put_column.Goals as goal

pub put_type-requires-clause-first : goal.put_type-requires-clause-first
put_type-requires-clause-first c = (in_range_fits _ (stored_in_range _ _ c.requires.told c.requires.stored)).first

pub put_type-requires-clause-second : goal.put_type-requires-clause-second
put_type-requires-clause-second c = (in_range_fits _ (stored_in_range _ _ c.requires.told c.requires.stored)).second

pub put_value-requires-clause-size : goal.put_value-requires-clause-size
put_value-requires-clause-size c = value_small _ _ c.requires.stored c.requires.text

pub put_value-requires-clause-number : goal.put_value-requires-clause-number
put_value-requires-clause-number c = stored_fits _ _ c.requires.stored
