-- Places in the words of orders.
use Rattle.std.proofs.Common.{◌≡◌, refl, Bool, true, false, cond, is_lt, nat_lt}
use Rattle.std.specs.Prelude.{◌&&◌, ◌||◌, ◌==◌}
use Rattle.std.specs.declared.cmp.Ordering.TheVariants.{Less, Equal, Greater}
use Rattle.std.specs.Ordering.{ordering_then}
use Rattle.spec_model.specs.Rows.{event_cmp}
use Rattle.spec_rules.specs.Places.{EventPlace, stands_before}

pub before_as : (a b : EventPlace) → stands_before a b ≡ is_lt (event_cmp a b)
before_as a b = by (nat_lt a.0 b.0) (a.0 == b.0) (nat_lt a.1 b.1) (a.1 == b.1)
  where
    by : (l e m f : Bool) → (l || (e && m)) ≡ is_lt (ordering_then (cond l Less (cond e Equal Greater)) (cond m Less (cond f Equal Greater)))
    by true e m f = refl
    by false true true f = refl
    by false true false true = refl
    by false true false false = refl
    by false false m f = refl
