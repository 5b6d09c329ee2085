use Rattle.std.proofs.Common.{◌≡◌, ◌++◌, ◌∷◌, [], sym, ap, subst, ◌∙◌, append_assoc}
use Rattle.spec_model.specs.Catalog.{Defs}
use Rattle.store_catalog.specs.GoingOn.{HaveNewNames}
use Rattle.store_catalog.proofs.going_on.named_defs_of.Goals as goal

pub add_def-requires : goal.add_def-requires
add_def-requires c = (subst (HaveNewNames c.loop-def.named) c.in-Some.ensures.steps.0 c.loop-def.invariant.names).0

pub loop-def-preserved : goal.loop-def-preserved
loop-def-preserved c =
    let named = c.loop-def.named in
    let rest = c.next.new.self.rest.items in
    let next : c.loop-def.def-iterator.rest.items ≡ c.in-Some.def ∷ rest = c.in-Some.ensures.steps.0 in
    let more = c.in_ok-add_def.ensures in
    record {
      all = ap (λ (ds : Defs). ds ++ rest) more
          ∙ append_assoc named (c.in-Some.def ∷ []) rest
          ∙ ap (λ (ds : Defs). named ++ ds) (sym next)
          ∙ c.loop-def.invariant.all;
      names = subst (λ (ds : Defs). HaveNewNames ds rest) (sym more) (subst (HaveNewNames named) next c.loop-def.invariant.names).1;
    }
