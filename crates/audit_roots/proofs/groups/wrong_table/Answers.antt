use Rattle.std.proofs.Common.{List, ap, ap₂, map, ◌∙◌}
use Rattle.std.specs.Ordering.{nat_cmp}
use Rattle.law_catalog_rows.specs.Least.{least}
use Rattle.spec_verify.specs.Entries.{TableRoot}
use Rattle.audit_roots.specs.declared.marks.Mark.{Mark}
use Rattle.audit_roots.specs.Marks.{event_of}
use Rattle.audit_roots.specs.Roots.{roots_in}
use Rattle.audit_roots.specs.ImageTable.{table_of}
use Rattle.audit_roots.specs.WrongRoots.{wrong_roots}
use Rattle.audit_roots.proofs.groups.wrong_table.Goals as goal

pub returns : goal.returns
returns g c =
    let h = g.H.Hash32.digest c.args.hasher in
    let ts = map table_of c.args.tables.now in
    c.least_wrong.ensures
    ∙ ap₂ (λ (a b : List TableRoot). least nat_cmp (wrong_roots ts a b)) c.as_slice.ensures
    (c.deref.ensures.value ∙ c.in_ok-put_roots.ensures ∙ ap (λ (own : List Mark). roots_in h (map event_of own)) c.run_of.ensures.own)
