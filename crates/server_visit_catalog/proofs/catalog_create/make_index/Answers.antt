use Rattle.std.proofs.Common.{◌∙◌, ap, subst, refl, inl, inr}
use Rattle.server_session.specs.Context.{TxCtx}
use Rattle.store_catalog.specs.Calls.{IndexMade}
use Rattle.server_session.specs.Cells.{catalog_at}
use Rattle.server_session.specs.Moves.{put_in}
use Rattle.server_visit_catalog.proofs.CatalogParts.{refused_then}
use Rattle.server_visit_catalog.proofs.catalog_create.make_index.Goals as goal

pub returns-in-Ok : goal.returns-in-Ok
returns-in-Ok g c = inr (record {
  locked = c.lock.new.catalog;
  fresh = c.in_default.field-0;
  takes = c.in_default.ensures.ok;
  how = inr (
    c.in-Ok.def,
    subst (λ (x : TxCtx _). IndexMade g.H.Hash32.digest c.lock.new.catalog x c.args.create.now c.in-Ok.def c.create_index.new.self c.create_index.new.ctx) (ap (λ r. r.context) c.lock.ensures.same) c.in-Ok.ensures.ok,
    (ap (λ r. r.script) c.lock.ensures.same, ap (λ r. r.explicit) c.lock.ensures.same, ap (λ r. r.end) c.lock.ensures.same, c.add.ensures ∙ ap (put_in catalog_at) c.lock.ensures.left),
    refl,
  );
})

pub returns-in-Err-create_index : goal.returns-in-Err-create_index
returns-in-Err-create_index g c = inr (record {
  locked = c.lock.new.catalog;
  fresh = c.in_default.field-0;
  takes = c.in_default.ensures.ok;
  how = inl (
    c.in-Err-create_index.e,
    c.in-Err-create_index.ensures.refused,
    refused_then g.H.Hash32.digest c.args.running.now c.lock.new.running c.refuse.new.running c.create_index.new.ctx c.lock.new.catalog c.create_index.new.self c.refuse.new.catalog c.in-Err-create_index.e
        c.refuse.result c.lock.ensures.same c.lock.ensures.left c.in-Err-create_index.ensures.context c.in-Err-create_index.ensures.err c.refuse.ensures,
  );
})
