-- Events that have room in a leaf.
use Rattle.std.specs.Prelude.{ℕ, ◌≡◌, ◌<◌, ◌^◌, true, List, IfSome}
use Rattle.std.specs.List.{AllByRecursion}
use Rattle.sql_types.specs.declared.event.Event.{Event}
use Rattle.sql_types.specs.declared.event.EventField.{EventField}
use Rattle.format_event.specs.Leaf.{is_text, HasLeaf, IsPair}

-- each text is UTF-8
abbrev pub AreTexts : List EventField → Type 0
AreTexts columns = AllByRecursion (λ f. is_text f.value ≡ true) columns

-- its numbers have room in a leaf, and its texts are UTF-8
pub record FitsLeafFormat (e : Event) : Type 0 where
  pub table : e.table < 2 ^ 32
  pub tx : e.tx < 2 ^ 64
  pub seq : e.seq < 2 ^ 64
  pub ends : IfSome e.ends IsPair
  pub texts : AreTexts e.columns

-- it has a leaf, where it has room in one
abbrev pub FitsLeaf : Event → Type 0
FitsLeaf e = FitsLeafFormat e → HasLeaf e
