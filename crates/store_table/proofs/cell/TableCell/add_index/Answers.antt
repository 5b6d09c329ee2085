use Rattle.std.proofs.Common.{◌≡◌, ◌∙◌, ◌∷◌, ◌++◌, ◌-◌, [], ap, sym, subst, ℕ, List, Some, length, map, slice_get}
use Rattle.std.proofs.lemmas.Result.{on_ok_weaker}
use Rattle.std.specs.Option.{option_copied}
use Rattle.sql_types.specs.declared.table.IndexDef.{IndexDef}
use Rattle.spec_protocol.specs.TablesAreSerial.{ordinals_of}
use Rattle.store_table.specs.Stored.{Stored}
use Rattle.store_table.proofs.Whole.{index_added, last_index, seen}
use Rattle.store_table.proofs.cell.TableCell.add_index.Goals as goal

pub returns-in-Some-clause-ok : goal.returns-in-Some-clause-ok
returns-in-Some-clause-ok c =
    let cell = c.args.self.now in
    let defs : List IndexDef = c.args.def.now.indexes in
    let got : slice_get defs (length defs - 1) ≡ Some c.in-Some.index.now =
    ap (λ (l : List IndexDef). slice_get l (length l - 1)) (sym c.as_slice.ensures) ∙ sym c.last.ensures.value ∙ ap option_copied c.in-Some.is in
    let front = map (λ i. i.ordinals) cell.indexes in
    let same : c.requires.indexes.0 ≡ c.as_slice-in-Some.result.now =
    last_index defs front c.requires.indexes.0 c.in-Some.index.now c.requires.indexes.1 got ∙ sym c.as_slice-in-Some.ensures in
    on_ok_weaker c.add_index.result
    (λ is. ap (λ (t : Stored). seen c.self.inside.id t c.self.inside.locks) is
    ∙ index_added c.self.inside.id c.self.inside.store.stored c.self.inside.locks cell c.args.def.now c.as_slice-in-Some.result.now c.orders_follow.ensures c.self.view_is c.requires.table.key
    (subst (λ (l : List ℕ). front ++ l ∷ [] ≡ ordinals_of defs) same c.requires.indexes.1))
    c.add_index.ensures.ok
