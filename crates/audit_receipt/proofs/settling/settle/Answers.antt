use Rattle.std.proofs.Common.{refl, sym, ◌∙◌, subst}
use Rattle.format_entry.specs.Entry.{entry_bytes}
use Rattle.audit_paths.specs.Path.{AreHashes}
use Rattle.audit_receipt.proofs.SameRecords.{entries_same, ready, roots_are}
use Rattle.audit_receipt.proofs.Strings.{entries_differ, paths_settled, records_settled}
use Rattle.audit_receipt.proofs.settling.settle.Goals as goal

pub returns-then-is_equal : goal.returns-then-is_equal
returns-then-is_equal g c =
    entries_same c.args.a.now.entry c.args.b.now.entry c.in_ok-a_leaf.a_leaf c.in_ok-b_leaf.b_leaf c.requires.first.entry c.requires.second.entry c.in_ok-a_leaf.ensures c.in_ok-b_leaf.ensures
    (sym c.bytes.ensures ∙ c.if-is_equal.ensures.same refl ∙ c.bytes-2.ensures)

pub find_in_paths-requires-clause-a_path : goal.find_in_paths-requires-clause-a_path
find_in_paths-requires-clause-a_path g c κs within = subst AreHashes (sym c.as_slice.ensures) c.requires.first.path

pub find_in_paths-requires-clause-b_path : goal.find_in_paths-requires-clause-b_path
find_in_paths-requires-clause-b_path g c κs within = subst AreHashes (sym c.as_slice-2.ensures) c.requires.second.path

pub find_in_paths-requires-clause-root : goal.find_in_paths-requires-clause-root
find_in_paths-requires-clause-root g c κs within =
    let h = g.H.Hash32.digest c.args.h in
    let a = c.args.a.now in
    let b = c.args.b.now in
    let same = rw c.in_default.is at c.in_ok-collision.ensures in
    let one = ready h a.entry b.entry a.path b.path a.records b.records c.first_size.result (sym c.as_slice-a_records.ensures ∙ same ∙ c.as_slice-b_records.ensures) c.requires.ordinal
    c.requires.first_accepted.entry c.requires.second_accepted.entry (λ r rs e. c.first_size.ensures r rs (c.as_slice-a_records.ensures ∙ e)) in
    roots_are h a.entry.ordinal c.first_size.result (entry_bytes a.entry) (entry_bytes b.entry) c.bytes-3.result.now c.bytes-4.result.now a.path b.path c.as_slice.result.now c.as_slice-2.result.now
    (c.bytes-3.ensures ∙ c.in_ok-a_leaf.ensures) c.as_slice.ensures (c.bytes-4.ensures ∙ c.in_ok-b_leaf.ensures) c.as_slice-2.ensures one.roots

pub returns-in-Some : goal.returns-in-Some
returns-in-Some g c =
    let a = c.args.a.now in
    let b = c.args.b.now in
    let found = rw c.in-Some.is at c.in_ok-collision.ensures in (
      entries_differ a.entry b.entry _ _ (c.bytes.ensures ∙ c.in_ok-a_leaf.ensures) (c.bytes-2.ensures ∙ c.in_ok-b_leaf.ensures) (c.if-is_equal.ensures.differ refl),
      records_settled (g.H.Hash32.digest c.args.h) a b c.in-Some.collision _ _ c.as_slice-a_records.ensures c.as_slice-b_records.ensures found,
    )

pub returns : goal.returns
returns g c =
    let a = c.args.a.now in
    let b = c.args.b.now in
    let same = rw c.in_default.is at c.in_ok-collision.ensures in (
      entries_differ a.entry b.entry _ _ (c.bytes.ensures ∙ c.in_ok-a_leaf.ensures) (c.bytes-2.ensures ∙ c.in_ok-b_leaf.ensures) (c.if-is_equal.ensures.differ refl),
      paths_settled (g.H.Hash32.digest c.args.h) a b _ c.first_size.result c.bytes-3.result.now c.bytes-4.result.now c.as_slice.result.now c.as_slice-2.result.now
          c.requires.first_accepted.entry c.requires.second_accepted.entry (sym c.as_slice-a_records.ensures ∙ same ∙ c.as_slice-b_records.ensures) c.requires.ordinal
          (λ r rs e. c.first_size.ensures r rs (c.as_slice-a_records.ensures ∙ e))
          (c.bytes-3.ensures ∙ c.in_ok-a_leaf.ensures) (c.bytes-4.ensures ∙ c.in_ok-b_leaf.ensures) c.as_slice.ensures c.as_slice-2.ensures c.in_ok-collision-2.ensures,
    )
