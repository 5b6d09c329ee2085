use Rattle.std.proofs.Common.{◌≡◌, drop, slice_set, bytes_eq}
use Rattle.indexmap.specs.IndexMap.{insert_all}
use Rattle.store_catalog.specs.Names.{names_from}
use Rattle.store_catalog.proofs.named_defs.add_all_names.Given as goal

abbrev pub invariant-loop-there : goal.invariant-loop-there
invariant-loop-there l =
    insert_all bytes_eq l.names.entries (names_from l.there (drop l.there (slice_set l.defs l.place l.def)))
    ≡ insert_all bytes_eq l.fn.names.entries (names_from 0 (slice_set l.defs l.place l.def))
