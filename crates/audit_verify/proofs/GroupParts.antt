-- The versions and the indexes of a group of an image's tables.
use Rattle.std.proofs.Common.{◌≡◌, ℕ, List, map, take, drop, sym, ap, ap₂, subst, ◌∙◌, None}
use Rattle.std.specs.List.{All, AllByRecursion}
use Rattle.std.proofs.lemmas.List.{take-map, drop-map}
use Rattle.std.proofs.lemmas.List.Elements.{All-take, All-drop, All-from_recursion, recursion_from_All}
use Rattle.sql_types.specs.declared.image.Image.{Image}
use Rattle.format_image.specs.ImageBytes.{IsImage}
use Rattle.spec_verify.specs.Entries.{id_fault}
use Rattle.spec_verify.specs.Indexes.{first_table}
use Rattle.audit_roots.specs.declared.shown.ImageTable.{ImageTable}
use Rattle.audit_verify.specs.Groups.{index_in}
use Rattle.audit_verify.specs.Indexes.{first_among, HasFewIndexes}
use Rattle.audit_verify.specs.Order.{AreStarted}
use Rattle.audit_roots.specs.ImageTable.{def_of, rows_of, AreImageTables}
use Rattle.audit_verify.proofs.Started.{are_started}
use Rattle.audit_verify.proofs.TableIndexes.{in_order, have_few_indexes}

module _ (ts seen group : List ImageTable) (i : Image) (from count : ℕ) (shown : AreImageTables ts i) (same : seen ≡ ts) (taken : group ≡ take count (drop from seen)) where
  group_is : group ≡ take count (drop from ts)
  group_is = taken ∙ ap (λ (l : List ImageTable). take count (drop from l)) same

  pub group_started : id_fault i ≡ None → All (AreStarted i.entries) group
  group_started none =
      subst (All (AreStarted i.entries)) (sym group_is) (All-take (AreStarted i.entries) count (drop from ts) (All-drop (AreStarted i.entries) from ts (are_started ts i shown none)))

  pub group_few : IsImage i → AllByRecursion HasFewIndexes group
  group_few is =
      subst (AllByRecursion HasFewIndexes) (sym group_is)
      (recursion_from_All HasFewIndexes (take count (drop from ts))
      (All-take HasFewIndexes count (drop from ts) (All-drop HasFewIndexes from ts (All-from_recursion HasFewIndexes ts (have_few_indexes ts i shown is)))))

  pub group_indexes : first_among group ≡ index_in from count i
  group_indexes =
      sym (in_order group)
      ∙ ap₂ first_table
      (ap (map def_of) group_is ∙ sym (take-map def_of count (drop from ts)) ∙ ap (take count) (sym (drop-map def_of from ts) ∙ ap (drop from) shown.defs))
      (ap (map rows_of) group_is ∙ sym (take-map rows_of count (drop from ts)) ∙ ap (take count) (sym (drop-map rows_of from ts) ∙ ap (drop from) shown.rows))
