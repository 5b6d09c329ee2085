use Rattle.std.proofs.Common.{arith, sym, ap, subst, length}
use Rattle.store_order.specs.Packed.{IsPacked, flat}
use Rattle.store_order.proofs.Packed.{none_packed}
use Rattle.store_order.proofs.starts.Starts.new.Goals as goal

pub invariant_of-result : goal.invariant_of-result
unfolding flat
invariant_of-result c =
    let none = c.new.ensures.items in
    record { packed = subst (IsPacked 512) (sym none) (none_packed _ 512); len = sym (ap length (ap flat none)); fits = omega (arith, ap length none) }

pub returns : goal.returns
unfolding flat
returns c = ap flat c.new.ensures.items
