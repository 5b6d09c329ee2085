-- Room for starts and ends.
use Rattle.std.proofs.Common.{◌≡◌, ◌<◌, ◌≤◌, ◌+◌, ℕ, zero, suc, ap, ◌∙◌, Bool, true, false, List, [], ◌∷◌, ◌++◌, length, Option, Some, None, arith}
use Rattle.std.specs.Prelude.{is_none, if◌then◌else◌}
use Rattle.std.specs.List.{HoldsAt, remove}
use Rattle.std.proofs.lemmas.List.Edits.{length-remove}
use Rattle.sql_types.specs.declared.version.Version.{Version}
use Rattle.spec_model.specs.Rows.{EventId, live}
use Rattle.law_frame.proofs.Alls.{all_weaker}
use Rattle.store_table.specs.declared.ending.Ending.{Ending}
use Rattle.store_table.specs.declared.orders.Orders.{Orders}
use Rattle.store_table.specs.Ends.{ending_cmp, own_ending, endings_of, endings_in}
use Rattle.store_table.specs.Kept.{HasCapacity, HaveCapacity}
use Rattle.store_table.proofs.InOrder.{sorted_long}

pub less_room : (n m : ℕ) (o : Orders) → n ≤ m → HaveCapacity m o → HaveCapacity n o
less_room n m o le h = record {
  for_keys = omega (arith, le, h.for_keys);
  for_ends = omega (arith, le, h.for_ends);
  for_indexes = all_weaker (HasCapacity m) (HasCapacity n) (λ i k. omega (arith, le, k)) o.indexes.items h.for_indexes;
}

live_by : (b : Bool) (v : Version) (vs : List Version) → length (live vs) ≤ length vs → length (if b then v ∷ live vs else live vs) ≤ suc (length vs)
live_by true v vs h = omega (arith, h)
live_by false v vs h = omega (arith, h)

pub live_few : (vs : List Version) → length (live vs) ≤ length vs
live_few [] = omega arith
live_few (v ∷ vs) = live_by (is_none v.end) v vs (live_few vs)

live_more : (b : Bool) (v : Version) (vs : List Version) → length (live vs) + 1 ≤ length vs → length (if b then v ∷ live vs else live vs) + 1 ≤ suc (length vs)
live_more true v vs h = omega (arith, h)
live_more false v vs h = omega (arith, h)

-- where one has an end, fewer stand
pub live_fewer : (vs : List Version) (p : ℕ) (end : EventId) → p < length vs → HoldsAt (λ v. v.end ≡ Some end) vs p → length (live vs) + 1 ≤ length vs
live_fewer [] p end inside ended = absurd (omega (arith, inside))
live_fewer (v ∷ vs) zero end inside ended = let few = live_few vs in rw (ended v) (omega (arith, few))
live_fewer (v ∷ vs) (suc p) end inside ended = live_more (is_none v.end) v vs (live_fewer vs p end (omega (arith, inside)) ended)

own_few : (o : Option EventId) (start : EventId) (es : List Ending) (n : ℕ) → length es ≤ n → length (own_ending o start ++ es) ≤ suc n
own_few None start es n h = omega (arith, h)
own_few (Some e) start es n h = omega (arith, h)

endings_few : (vs : List Version) → length (endings_of vs) ≤ length vs
endings_few [] = omega arith
endings_few (v ∷ vs) = own_few v.end v.start (endings_of vs) (length vs) (endings_few vs)

-- without one version there is room for one end more
pub endings_room : (vs : List Version) (p : ℕ) (ends : List Ending) → p < length vs → ends ≡ endings_in (remove vs p) → length ends < length vs
endings_room vs p ends inside is =
    let n = ap length is ∙ sorted_long ending_cmp (endings_of (remove vs p)) in
    let few = endings_few (remove vs p) in
    let less = length-remove vs p inside in
    omega (arith, n, few, less)
