use Rattle.std.proofs.Common.{ℕ, sym, ap, ◌∙◌, map}
use Rattle.sql_types.specs.declared.entry.TxEntry.{TxEntry}
use Rattle.spec_verify.specs.Groups.{found_at}
use Rattle.audit_roots.specs.Groups.{left_of, left_over}
use Rattle.audit_roots.specs.ImageTable.{table_of}
use Rattle.audit_definitions.proofs.Walks.{first_skip, first_is_here}
use Rattle.audit_roots.proofs.leftover.first_left.Goals as goal

pub returns-in-Some : goal.returns-in-Some
unfolding left_over
returns-in-Some c =
    first_is_here (λ (n : ℕ) (x : TxEntry). found_at n (left_of (map table_of c.args.tables.now) x)) c.args.entries.now c.loop-k.k c.index-entries-k.result c.loop-k-test.true c.index-entries-k.is _ (c.loop-k.k, c.in-Some.fault)
    (ap (found_at c.loop-k.k) (sym c.in_ok-fault.ensures ∙ c.in-Some.is)) c.loop-k.invariant

pub loop-k-preserved : goal.loop-k-preserved
loop-k-preserved c =
    first_skip (λ (n : ℕ) (x : TxEntry). found_at n (left_of (map table_of c.args.tables.now) x)) c.args.entries.now c.loop-k.k c.index-entries-k.result c.loop-k-test.true c.index-entries-k.is _
    (ap (found_at c.loop-k.k) (sym c.in_ok-fault.ensures ∙ c.in_default.is)) c.loop-k.invariant
