use Rattle.std.proofs.Common.{◌≡◌, ◌++◌, map}
use Rattle.format_image.specs.Tables.{defs_in}
use Rattle.audit_roots.specs.ImageTable.{def_of, rows_of}
use Rattle.audit_roots.proofs.shown.shown_tables.Given as goal

abbrev pub invariant-loop-def : goal.invariant-loop-def
invariant-loop-def l = record {
  defs : map def_of l.tables.items ++ map (λ d. d.now) l.def-iterator.a.rest.now ≡ defs_in l.image;
  rows : map rows_of l.tables.items ++ l.def-iterator.b.rest.now ≡ l.image.tables;
}
