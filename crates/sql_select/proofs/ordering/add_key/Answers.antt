use Rattle.std.proofs.Common.{◌∙◌, ap, sym}
use Rattle.std.specs.List.{list_any}
use Rattle.sql_select.specs.SortKeys.{same_place}
use Rattle.sql_select.proofs.RepeatedKeys.{left_out}
use Rattle.sql_select.proofs.ordering.add_key.Goals as goal

pub returns-then-has_place : goal.returns-then-has_place
returns-then-has_place c rest a b =
    left_out c.args.kept.now.items c.args.key rest a b
    (sym c.if-has_place.true ∙ c.has_place.ensures ∙ ap (list_any (λ key. same_place key.place c.args.key.place)) c.as_slice.ensures.value)
