use Rattle.std.proofs.Common.{List, sym, ap, ◌∙◌}
use Rattle.std.specs.Ordering.{nat_cmp}
use Rattle.law_catalog_rows.specs.Least.{least}
use Rattle.spec_verify.specs.Entries.{TableRoot, other_roots, root_place}
use Rattle.audit_roots.proofs.EntryRoots.{misnumbered, by_roots}
use Rattle.audit_roots.proofs.roots.entry_fault.Goals as goal

pub returns-then-not-are_numbered : goal.returns-then-not-are_numbered
returns-then-not-are_numbered g c =
    misnumbered (g.H.Hash32.digest c.args.hasher) c.args.entry.now c.args.marks.now c.run_of.result.0.now c.run_of.ensures.own _ c.in_ok-put_numbers.ensures c.if-not-are_numbered.ensures

pub returns-in-Some : goal.returns-in-Some
returns-in-Some g c =
    let e = c.args.entry.now in
    ap (root_place e.id) (sym c.in-Some.is)
    ∙ by_roots (g.H.Hash32.digest c.args.hasher) e c.args.marks.now c.run_of.result.0.now c.run_of.ensures.own _ c.in_ok-put_numbers.ensures _ c.least_other.result c.if-not-are_numbered.ensures c.in_ok-put_roots.ensures
    (c.least_other.ensures
    ∙ ap (λ (a : List TableRoot). least nat_cmp (other_roots a c.deref.result.now)) c.as_slice.ensures
    ∙ ap (λ (b : List TableRoot). least nat_cmp (other_roots e.roots b)) c.deref.ensures.value)

pub returns-in-None : goal.returns-in-None
returns-in-None g c =
    let e = c.args.entry.now in
    ap (root_place e.id) (sym c.in-None.is)
    ∙ by_roots (g.H.Hash32.digest c.args.hasher) e c.args.marks.now c.run_of.result.0.now c.run_of.ensures.own _ c.in_ok-put_numbers.ensures _ c.least_other.result c.if-not-are_numbered.ensures c.in_ok-put_roots.ensures
    (c.least_other.ensures
    ∙ ap (λ (a : List TableRoot). least nat_cmp (other_roots a c.deref.result.now)) c.as_slice.ensures
    ∙ ap (λ (b : List TableRoot). least nat_cmp (other_roots e.roots b)) c.deref.ensures.value)
