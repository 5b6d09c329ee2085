use Rattle.std.proofs.Common.{◌≡◌, ◌++◌, ◌∷◌, [], List, map, ap, ap₂, sym, subst, ◌∙◌, append_assoc}
use Rattle.std.specs.List.{AllByRecursion}
use Rattle.sql_types.specs.declared.table.TableDef.{TableDef}
use Rattle.sql_types.specs.declared.version.Table.{Table}
use Rattle.spec_model.specs.Runs.{Rising}
use Rattle.server_session.specs.KeptCell.{KeptCell}
use Rattle.server_past.specs.PastCells.{rows_kept}
use Rattle.server_past.proofs.cells.rows_of.Goals as goal

pub row_of-requires : goal.row_of-requires
row_of-requires c = (subst (AllByRecursion (λ t. Rising t.versions)) c.in-Some.ensures.steps.0 c.loop-table.invariant.rising).0

pub loop-table-preserved : goal.loop-table-preserved
loop-table-preserved c =
    let was = c.loop-table.table-iterator.rest.items in
    let rest = c.next.new.self.rest.items in
    let t = c.in-Some.table in
    let next : was ≡ t ∷ rest = c.in-Some.ensures.steps.0 in
    let cells = c.loop-table.cells.items in
    let defs = c.loop-table.defs.items in
    let row = c.in_ok-cell.ensures in
    record {
      cells = ap (λ (l : List KeptCell). l ++ map rows_kept rest)
          (c.push_reserved.ensures.items ∙ ap₂ (λ (l : List KeptCell) (x : KeptCell). l ++ x ∷ []) c.reserve.ensures.items row.cell)
          ∙ append_assoc cells (rows_kept t ∷ []) (map rows_kept rest)
          ∙ ap (λ (l : List Table). cells ++ map rows_kept l) (sym next) ∙ c.loop-table.invariant.cells;
      defs = ap (λ (l : List TableDef). l ++ map (λ (u : Table). u.def) rest)
          (c.push_reserved-in-loop-table.ensures.items ∙ ap₂ (λ (l : List TableDef) (d : TableDef). l ++ d ∷ []) c.reserve-in-loop-table.ensures.items row.def)
          ∙ append_assoc defs (t.def ∷ []) (map (λ (u : Table). u.def) rest)
          ∙ ap (λ (l : List Table). defs ++ map (λ (u : Table). u.def) l) (sym next) ∙ c.loop-table.invariant.defs;
      rising = (subst (AllByRecursion (λ u. Rising u.versions)) next c.loop-table.invariant.rising).1;
    }
