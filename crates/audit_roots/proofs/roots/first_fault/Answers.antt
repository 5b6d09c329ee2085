use Rattle.std.proofs.Common.{ℕ, sym, ◌∙◌}
use Rattle.sql_types.specs.declared.entry.TxEntry.{TxEntry}
use Rattle.audit_roots.specs.Roots.{fault_of, run_in}
use Rattle.audit_definitions.proofs.Walks.{first_skip, first_is_here}
use Rattle.audit_roots.proofs.roots.first_fault.Goals as goal

pub returns-in-Some : goal.returns-in-Some
returns-in-Some g c =
    let h = g.H.Hash32.digest c.args.hasher in
    first_is_here (λ (n : ℕ) (x : TxEntry). fault_of h (run_in x.id c.args.marks.now) x) c.args.entries.now c.loop-entry.entry-index c.entry-item.result c.loop-entry-test.true c.entry-item.is _ c.in-Some.place
    (sym c.in_ok-place.ensures ∙ c.in-Some.is) c.loop-entry.invariant

pub loop-entry-preserved : goal.loop-entry-preserved
loop-entry-preserved g c =
    let h = g.H.Hash32.digest c.args.hasher in
    first_skip (λ (n : ℕ) (x : TxEntry). fault_of h (run_in x.id c.args.marks.now) x) c.args.entries.now c.loop-entry.entry-index c.entry-item.result c.loop-entry-test.true c.entry-item.is _
    (sym c.in_ok-place.ensures ∙ c.in_default.is) c.loop-entry.invariant
