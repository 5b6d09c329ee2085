-- Names as an image may have them.
use Rattle.std.specs.Prelude.{ℕ, ◌==◌, ◌&&◌, not, nat_le, Bool, List, length}
use Rattle.std.specs.List.{list_all}
use Rattle.sql_value.specs.declared.column.TableKind.{TableKind}
use Rattle.sql_value.specs.declared.column.TableKind.TheVariants.{AppendOnly, Updatable}
use Rattle.spec_model.specs.Create.{is_long}

-- a byte that may stand in a name, from a blank to `~`, without the brackets
abbrev pub is_name_byte : ℕ → Bool
is_name_byte b = nat_le 32 b && nat_le b 126 && not (b == 91) && not (b == 93)

abbrev pub is_proper_name : List ℕ → Bool
is_proper_name name = nat_le 1 (length name) && not (is_long name) && list_all is_name_byte name

-- an append-only table alone has no history
abbrev pub has_its_history : TableKind → List ℕ → Bool
has_its_history AppendOnly history = length history == 0
has_its_history Updatable history = is_proper_name history
