use Rattle.std.proofs.Common.{ℕ, Bool, None, map, filter, sym, ap, ◌∙◌}
use Rattle.std.specs.Prelude.{◌&&◌, not}
use Rattle.std.specs.Ordering.{nat_cmp}
use Rattle.law_catalog_rows.specs.Least.{least, least_from}
use Rattle.spec_verify.specs.Entries.{TableRoot, same_root, root_at}
use Rattle.audit_roots.specs.Groups.{is_table}
use Rattle.audit_roots.specs.ImageTable.{table_of}
use Rattle.audit_definitions.proofs.Walks.{least_append}
use Rattle.audit_roots.proofs.WrongRoots.{shown_is}
use Rattle.audit_roots.proofs.groups.least_wrong.Goals as goal

pub returns : goal.returns
returns c =
    let a = c.args.a.now in
    let b = c.args.b.now in
    let ts = c.args.tables.now in
    let other = λ (t : ℕ). not (same_root (root_at a t) (root_at b t)) in
    let table = λ (r : TableRoot). r.0 in
    c.least_among.ensures
    ∙ ap (λ o. least_from nat_cmp o (filter other (map table b))) (c.least_in_tables-best.ensures ∙ ap (λ (p : ℕ → Bool). least nat_cmp (filter p (map table a))) (λ i t. other t && shown_is ts t i))
    ∙ sym (least_append nat_cmp None (filter (λ t. other t && is_table (map table_of ts) t) (map table a)) (filter other (map table b)))
