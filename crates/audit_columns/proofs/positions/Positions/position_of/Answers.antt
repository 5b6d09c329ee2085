use Rattle.std.proofs.Common.{IsSorted, length, subst, sym, ap, ◌∙◌}
use Rattle.spec_verify.specs.Order.{position_of}
use Rattle.audit_columns.specs.Positions.{id_cmp, place_in}
use Rattle.audit_columns.proofs.EntryPositions.{ids_rise, place_is}
use Rattle.audit_columns.proofs.positions.Positions.position_of.Goals as goal

pub place_among-requires : goal.place_among-requires
place_among-requires c = subst (IsSorted id_cmp) (sym (c.deref.ensures.value ∙ c.self.invariant)) (ids_rise c.self.inside.entries.now)

pub returns : goal.returns
returns c =
    c.place_among.ensures
    ∙ ap (λ ids. place_in ids c.args.id (length c.self.inside.entries.now)) (c.deref.ensures.value ∙ c.self.invariant)
    ∙ place_is c.self.inside.entries.now c.args.id ∙ ap (λ es. position_of es c.args.id) c.self.view_is
