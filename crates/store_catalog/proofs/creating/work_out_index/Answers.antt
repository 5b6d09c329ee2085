use Rattle.std.proofs.Common.{◌≤◌, ◌-◌, ◌∙◌, sym, subst, List, length, arith}
use Rattle.std.specs.List.{AllByRecursion}
use Rattle.sql_types.specs.declared.change.Change.{Change}
use Rattle.sql_types.specs.declared.table.TableDef.{TableDef}
use Rattle.spec_model.specs.Catalog.{NamedPart}
use Rattle.spec_model.specs.Effect.{index_starts}
use Rattle.spec_model.specs.SystemTables.{columns_id}
use Rattle.store_catalog.specs.Rows.{IsRow}
use Rattle.store_catalog.proofs.Creates.{are_new, checked_index}
use Rattle.store_catalog.proofs.DefsKept.{found_all}
use Rattle.store_catalog.proofs.Fitting.{of_index}
use Rattle.store_catalog.proofs.Placing.{index_placed}
use Rattle.store_catalog.proofs.creating.work_out_index.Goals as goal

pub new_index-requires : goal.new_index-requires
new_index-requires c =
    let n : NamedPart = (c.in-Some.def.now, c.in-Some.part) in
    let few = found_all (λ (d : TableDef). length d.columns ≤ 64) c.args.defs.now c.args.create.now.table n (sym c.in-Some.ensures) c.requires.few in
    omega (arith, few)

pub new_rows-requires : goal.new_rows-requires
new_rows-requires c =
    let n : NamedPart = (c.in-Some.def.now, c.in-Some.part) in
    let index = c.in_ok-index.index in
    let passes = checked_index c.args.defs.now c.args.create.now n (sym c.in-Some.ensures) ∙ c.in_ok-index.ensures in
    let of = of_index c.args.defs.now c.args.create.now n.0 index c.requires passes in
    subst (λ (cs : List Change). AllByRecursion IsRow cs) (sym c.in_ok-starts.ensures) of.rows

pub overflow_sub-place : goal.overflow_sub-place
overflow_sub-place c =
    let n : NamedPart = (c.in-Some.def.now, c.in-Some.part) in
    let index = c.in_ok-index.index in
    let passes = checked_index c.args.defs.now c.args.create.now n (sym c.in-Some.ensures) ∙ c.in_ok-index.ensures in
    let of = of_index c.args.defs.now c.args.create.now n.0 index c.requires passes in
    omega (arith, of.has_listing.id)

pub returns : goal.returns
returns c =
    let n : NamedPart = (c.in-Some.def.now, c.in-Some.part) in
    let index = c.in_ok-index.index in
    let passes = checked_index c.args.defs.now c.args.create.now n (sym c.in-Some.ensures) ∙ c.in_ok-index.ensures in
    let of = of_index c.args.defs.now c.args.create.now n.0 index c.requires passes in
    record {
      def = n.0;
      index = index;
      passes = passes;
      now = c.in_ok-def.ensures;
      placed = index_placed c.args.defs.now n.0 index (n.0.id - 1) c.in_ok-def.def of (omega (arith, of.has_listing.id)) c.in_ok-def.ensures;
      answer = c.in_ok-answer.ensures ∙ c.in_ok-def.ensures;
      rows = are_new columns_id c.args.tx c.args.seq c.in_ok-starts.starts (index_starts n.0 index) c.in_ok-rows.rows c.in_ok-starts.ensures c.in_ok-rows.ensures.starts c.in_ok-rows.ensures.leaves c.in_ok-rows.ensures.room;
    }
