use Rattle.std.proofs.Common.{◌≡◌, ◌≤◌, ◌+◌, ◌-◌, ◌++◌, ◌∷◌, [], List, ℕ, length, map, ap, ap₂, sym, ◌∙◌, arith}
use Rattle.std.proofs.lemmas.List.{length-map}
use Rattle.sql_types.specs.declared.table.TableDef.{TableDef}
use Rattle.sql_types.specs.declared.version.Table.{Table}
use Rattle.spec_model.specs.Catalog.{defs_of}
use Rattle.server_session.specs.KeptCell.{KeptCell}
use Rattle.server_engine.specs.FirstCells.{all_empty}
use Rattle.server_past.specs.PastCells.{rows_kept}
use Rattle.server_past.proofs.Ready.{rows_are}
use Rattle.server_past.proofs.cells.cells_apart.Goals as goal

pub returns-clause-rows : goal.returns-clause-rows
returns-clause-rows c =
    let a = c.args.all.tables in
    let b = c.args.all.columns in
    let us = c.args.all.users.items in
    let defs : c.rows_of.new.defs.items ≡ defs_of (a ∷ b ∷ us) =
    c.in_ok-rows.ensures.defs
    ∙ ap (λ (l : List TableDef). l ++ map (λ (t : Table). t.def) us)
    (c.push_reserved-2.ensures.items ∙ ap (λ (l : List TableDef). l ++ b.def ∷ [])
    (c.push_reserved.ensures.items ∙ ap (λ (l : List TableDef). l ++ a.def ∷ []) c.in_ok-defs.ensures.items)) in
    let most : length (defs_of (a ∷ b ∷ us)) ≤ 34 = c.requires.formed.count in
    let few : length us ≤ 32 = omega (arith, most, length-map us (λ (t : Table). t.def)) in
    let behind : c.len.result + 1 ≡ 3 + length us = omega (arith, c.len.ensures, ap length defs, length-map us (λ (t : Table). t.def)) in
    let left : 35 - (3 + length us) ≡ 32 - length us = omega arith in
    c.in_ok-add_empty.ensures
    ∙ ap₂ (λ (l : List KeptCell) (n : ℕ). l ++ all_empty (35 - n) n) c.in_ok-rows.ensures.cells behind
    ∙ ap (λ (n : ℕ). map rows_kept us ++ all_empty n (3 + length us)) left
    ∙ sym (rows_are a b us c.requires.formed.ids few)
