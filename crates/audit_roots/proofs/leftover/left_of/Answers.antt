use Rattle.std.proofs.Common.{ℕ, List, sym, ap, ◌∙◌, map, filter}
use Rattle.std.specs.Prelude.{not, option_map}
use Rattle.std.specs.Ordering.{nat_cmp}
use Rattle.law_catalog_rows.specs.Least.{least}
use Rattle.spec_verify.specs.Entries.{TableRoot}
use Rattle.audit_roots.specs.ImageTable.{table_of}
use Rattle.audit_roots.specs.WrongRoots.{is_shown}
use Rattle.audit_roots.specs.declared.groups.Fault.TheVariants.{Root}
use Rattle.audit_roots.proofs.LeftParts.{misnumbered, by_roots}
use Rattle.audit_roots.proofs.leftover.left_of.Goals as goal

pub ids_of-own-requires : goal.ids_of-own-requires
ids_of-own-requires c = c.requires.rise

pub returns-then-not-are_numbered : goal.returns-then-not-are_numbered
returns-then-not-are_numbered c =
    misnumbered (map table_of c.args.tables.now) c.args.entry.now c.args.ids.now c.requires c.ids_of-own.result.now c.ids_of-own.ensures _ c.in_ok-put_numbers.ensures c.if-not-are_numbered.ensures

pub returns-in-Some : goal.returns-in-Some
returns-in-Some c =
    ap (option_map Root) (sym c.in-Some.is)
    ∙ by_roots c.args.tables.now c.args.entry.now c.args.ids.now c.requires c.ids_of-own.result.now c.ids_of-own.ensures _ c.in_ok-put_numbers.ensures c.if-not-are_numbered.ensures
    c.least_strange.result (c.least_strange.ensures ∙ ap (λ (rs : List TableRoot). least nat_cmp (filter (λ (t : ℕ). not (is_shown c.args.tables.now t)) (map (λ (r : TableRoot). r.0) rs))) c.as_slice.ensures)

pub returns-in-None : goal.returns-in-None
returns-in-None c =
    ap (option_map Root) (sym c.in-None.is)
    ∙ by_roots c.args.tables.now c.args.entry.now c.args.ids.now c.requires c.ids_of-own.result.now c.ids_of-own.ensures _ c.in_ok-put_numbers.ensures c.if-not-are_numbered.ensures
    c.least_strange.result (c.least_strange.ensures ∙ ap (λ (rs : List TableRoot). least nat_cmp (filter (λ (t : ℕ). not (is_shown c.args.tables.now t)) (map (λ (r : TableRoot). r.0) rs))) c.as_slice.ensures)
