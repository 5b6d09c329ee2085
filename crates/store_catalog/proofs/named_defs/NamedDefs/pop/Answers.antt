use Rattle.std.proofs.Common.{◌≡◌, ◌-◌, ◌+◌, ◌∙◌, ap, arith, length, take, List}
use Rattle.sql_types.specs.declared.table.TableDef.{TableDef}
use Rattle.store_catalog.specs.Names.{names_at, names_from, NameEntry}
use Rattle.store_catalog.proofs.Named.{after_pop, count_last}
use Rattle.store_catalog.proofs.named_defs.NamedDefs.pop.Goals as goal

pub overflow_sub-len : goal.overflow_sub-len
overflow_sub-len c =
    let rest = c.pop.new.self.items in
    let all = count_last c.self.inside.defs.items rest c.in-Some.def c.in-Some.ensures.items in
    let kept = ap (λ (es : List NameEntry). length es) c.self.invariant in
    let named = c.count_names.ensures (length rest) ∙ ap (λ (d : TableDef). length (names_at (length rest) d)) c.get.ensures in
    omega (arith, all, kept, c.len.ensures.len, named)

pub invariant_of-self : goal.invariant_of-self
invariant_of-self c =
    let defs = c.self.inside.defs.items in
    let rest = c.pop.new.self.items in
    let n = c.len.result - c.count_names.result in
    let all = count_last defs rest c.in-Some.def c.in-Some.ensures.items in
    let kept = ap (λ (es : List NameEntry). length es) c.self.invariant in
    let named = c.count_names.ensures (length rest) ∙ ap (λ (d : TableDef). length (names_at (length rest) d)) c.get.ensures in
    let count : n + length (names_at (length rest) c.in-Some.def) ≡ length (names_from 0 defs) = omega (arith, all, kept, c.len.ensures.len, named) in
    c.truncate.ensures.entries
    ∙ ap (λ (es : List NameEntry). take n es) c.self.invariant
    ∙ after_pop defs rest c.in-Some.def c.in-Some.ensures.items n count
