use Rattle.std.proofs.Common.{◌∙◌, ap, sym, subst, List, Some}
use Rattle.sql_types.specs.declared.table.Part.TheVariants.{System}
use Rattle.sql_types.specs.declared.table.TableDef.{TableDef}
use Rattle.sql_types.specs.declared.version.Version.{Version}
use Rattle.spec_model.specs.Catalog.{NamedPart}
use Rattle.spec_model.specs.Effect.{query_rows}
use Rattle.spec_model.specs.Refusals.{MatchesUnlessOom}
use Rattle.spec_protocol.specs.Cells.{versions_in, Catalog}
use Rattle.store_catalog.proofs.Shown.{shown_rows, shown_refused}
use Rattle.store_catalog.proofs.cell.CatalogCell.read.Goals as goal

pub returns-clause-rows : goal.returns-clause-rows
returns-clause-rows c = λ def e.
    let n : NamedPart = (c.get-def.result.now, c.in-Some.part) in
    let found = sym c.in-Some.ensures ∙ ap (λ (d : TableDef). Some (d, c.in-Some.part)) (sym c.get-def.ensures) in
    let p = shown_rows c.args.self.now.defs c.args.q.now n c.versions_of.result.now c.show.result found c.show.ensures (def, System) e in
    subst (λ (x : NamedPart). MatchesUnlessOom (query_rows c.args.q.now x (versions_in x.0.id (Catalog c.args.self.now))) c.show.result) p.0
    (subst (λ (vs : List Version). MatchesUnlessOom (query_rows c.args.q.now n vs) c.show.result) c.versions_of.ensures p.1)

pub returns-clause-refused : goal.returns-clause-refused
returns-clause-refused c = λ e is.
    let found = sym c.in-Some.ensures ∙ ap (λ (d : TableDef). Some (d, c.in-Some.part)) (sym c.get-def.ensures) in
    shown_refused c.args.self.now.defs c.args.q.now (c.get-def.result.now, c.in-Some.part) c.versions_of.result.now c.show.result found c.show.ensures e is
