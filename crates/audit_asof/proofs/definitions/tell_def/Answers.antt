use Rattle.std.proofs.Common.{rules, ◌∙◌, ap, List}
use Rattle.std.specs.Prelude.{Ok}
use Rattle.spec_model.specs.Rows.{Row}
use Rattle.audit_definitions.specs.DefinitionRows.{rows_in, rows_seen}
use Rattle.spec_asof.specs.DefTold.{items_told}
use Rattle.audit_asof.proofs.DefIs.{def_is}
use Rattle.audit_asof.proofs.definitions.tell_def.Goals as goal

pub returns : goal.returns
returns c =
    let seen = ap rows_seen c.deref-2.ensures.value ∙ c.in_ok-items.ensures in
    def_is (rows_in c.args.first.now) (rows_in c.args.second.now) c.args.def.now c.tell_items.new.def _ (Ok c.tell_table.new.def) (search rules)
    (c.in_ok-tell_items.ensures ∙ ap (λ (rows : List Row). items_told rows c.args.def.now) seen) c.in_ok-tell_table.ensures
