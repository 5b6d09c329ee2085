-- The order of leaves.
use Rattle.std.proofs.Common.{◌≡◌, false, List, is_lt, refl}
use Rattle.std.specs.Cmp.{IsTotalOrder, on_total, then_total, nat_cmp_total}
use Rattle.std.specs.List.Sorted.{IsSortedBy, IsNonDecreasingBy}
use Rattle.std.specs.Ordering.{ordering_then}
use Rattle.std.specs.declared.cmp.Ordering.{Ordering}
use Rattle.std.specs.declared.cmp.Ordering.TheVariants.{Less, Equal, Greater}
use Rattle.std.proofs.lemmas.List.Sorted.{IsNonDecreasingBy-from_sort}
use Rattle.sql_types.specs.declared.event.Event.{Event}
use Rattle.audit_roots.specs.declared.marks.Mark.{Mark}
use Rattle.audit_roots.specs.Marks.{event_of, leaf_cmp, tx_of}

pub leaf_total : IsTotalOrder leaf_cmp
leaf_total = then_total (then_total (on_total (λ (e : Event). e.tx) nat_cmp_total) (on_total (λ (e : Event). e.table) nat_cmp_total)) (on_total (λ (e : Event). e.seq) nat_cmp_total)

first_less : (o p q : Ordering) → is_lt (ordering_then (ordering_then o p) q) ≡ false → is_lt o ≡ false
first_less Less p q e = e
first_less Equal p q e = refl
first_less Greater p q e = refl

pub tx_rises : (ms : List Mark) → IsSortedBy (λ a b. is_lt (leaf_cmp (event_of a) (event_of b))) ms → IsNonDecreasingBy tx_of ms
tx_rises ms up = IsNonDecreasingBy-from_sort tx_of ms (λ k d low high. first_less _ _ _ (up k d low high))
