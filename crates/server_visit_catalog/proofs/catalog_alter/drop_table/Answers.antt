use Rattle.std.proofs.Common.{inl, inr}
use Rattle.server_visit_catalog.proofs.CatalogParts.{refused_then}
use Rattle.server_visit_catalog.proofs.catalog_alter.drop_table.Goals as goal

pub returns-in-Err-drop_table : goal.returns-in-Err-drop_table
returns-in-Err-drop_table g c = inr (record {
  locked = c.lock.new.catalog;
  fresh = c.in_default.field-0;
  takes = c.in_default.ensures.ok;
  how = inl (
    c.in-Err-drop_table.e,
    c.in-Err-drop_table.ensures.refused,
    refused_then g.H.Hash32.digest c.args.running.now c.lock.new.running c.refuse.new.running c.drop_table.new.ctx c.lock.new.catalog c.drop_table.new.self c.refuse.new.catalog c.in-Err-drop_table.e
        c.refuse.result c.lock.ensures.same c.lock.ensures.left c.in-Err-drop_table.ensures.context c.in-Err-drop_table.ensures.err c.refuse.ensures,
  );
})
