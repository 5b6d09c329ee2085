use Rattle.std.proofs.Common.{ℕ, sym, ap, ◌∙◌, ◌+◌, ◌-◌, arith, map}
use Rattle.sql_types.specs.declared.entry.TxEntry.{TxEntry}
use Rattle.spec_verify.specs.Groups.{found_at}
use Rattle.audit_roots.specs.ImageTable.{table_of}
use Rattle.audit_roots.specs.WrongRoots.{wrong_by_marks}
use Rattle.audit_roots.proofs.FirstParts.{nothing_here, found_here, nothing_left}
use Rattle.audit_roots.proofs.groups.wrong_root.Goals as goal

pub returns-in-Some : goal.returns-in-Some
returns-in-Some g c =
    let h = g.H.Hash32.digest c.args.hasher in
    let end = c.args.from + c.args.count in
    let k = c.loop-k.k in
    found_here (λ (n : ℕ) (x : TxEntry). found_at n (wrong_by_marks h (map table_of c.args.tables.now) c.args.marks.now x)) c.args.entries.now
    k (end - k) (end - (k + 1)) c.index-entries-k.result (omega (arith, c.loop-k-test.true, c.requires.within)) c.index-entries-k.is (omega (arith, c.loop-k-test.true)) _ c.loop-k.invariant
    (k, c.in-Some.table) (ap (found_at k) (sym c.in_ok-table.ensures ∙ c.in-Some.is))

pub loop-k-preserved : goal.loop-k-preserved
loop-k-preserved g c =
    let h = g.H.Hash32.digest c.args.hasher in
    let end = c.args.from + c.args.count in
    let k = c.loop-k.k in
    nothing_here (λ (n : ℕ) (x : TxEntry). found_at n (wrong_by_marks h (map table_of c.args.tables.now) c.args.marks.now x)) c.args.entries.now
    k (end - k) (end - (k + 1)) c.index-entries-k.result (omega (arith, c.loop-k-test.true, c.requires.within)) c.index-entries-k.is (omega (arith, c.loop-k-test.true)) _ c.loop-k.invariant
    (ap (found_at k) (sym c.in_ok-table.ensures ∙ c.in_default.is))

pub returns : goal.returns
returns g c =
    let h = g.H.Hash32.digest c.args.hasher in
    nothing_left (λ (n : ℕ) (x : TxEntry). found_at n (wrong_by_marks h (map table_of c.args.tables.now) c.args.marks.now x)) c.args.entries.now
    c.loop-k.k (c.args.from + c.args.count - c.loop-k.k) _ (omega (arith, c.loop-k-test.false)) c.loop-k.invariant
