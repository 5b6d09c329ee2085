-- What happened to things, sorted by the thing and then by rank: the first of a thing is found.
use Rattle.std.proofs.Common.{◌≡◌, refl, sym, ap, ap₂, ◌∙◌, ℤ, Bool, true, false, List, [], ◌∷◌}
use Rattle.std.proofs.lemmas.Bool.Decides.{Decides-int_eq}
use Rattle.std.proofs.lemmas.Map.Lookups.{exact_signed}
use Rattle.std.specs.Prelude.{◌&&◌, ◌||◌}
use Rattle.std.specs.Cmp.{IsTotalOrder, int_cmp_total, on_total, then_total, tied_itself}
use Rattle.std.specs.List.{list_any}
use Rattle.std.specs.Ordering.{int_cmp, int_eq, is_eq, ordering_then}
use Rattle.std.specs.declared.cmp.Ordering.{Ordering}
use Rattle.std.specs.declared.cmp.Ordering.TheVariants.{Less, Equal, Greater}
use Rattle.sql_parts.proofs.Orders.{event_total}
use Rattle.audit_rules.specs.declared.first_ranks.Happened.{Happened}
use Rattle.audit_rules.specs.declared.first_ranks.Thing.{Thing}
use Rattle.audit_rules.specs.FirstRanks.{by_thing, by_rank, happened_cmp, has_happened}
use Rattle.audit_columns.specs.Positions.{Rank}
use Rattle.audit_columns.specs.Runs.{precedes}
use Rattle.audit_rules.proofs.Places.{before_as}

pub things_total : IsTotalOrder by_thing
things_total = then_total (on_total (λ (h : Happened). h.thing.table) int_cmp_total) (on_total (λ (h : Happened). h.thing.item) int_cmp_total)

pub ranks_total : IsTotalOrder by_rank
ranks_total = on_total (λ (h : Happened). h.rank) event_total

pub happened_total : IsTotalOrder happened_cmp
happened_total = then_total things_total ranks_total

equal_is : (a b : ℤ) → is_eq (int_cmp a b) ≡ int_eq a b
equal_is a b = here (int_cmp a b) refl (int_eq a b) refl
  where
    here : (r : Ordering) → int_cmp a b ≡ r → (t : Bool) → int_eq a b ≡ t → is_eq (int_cmp a b) ≡ int_eq a b
    here Equal e t f = ap is_eq e ∙ sym ((Decides-int_eq a b).1 (exact_signed a b e))
    here Less e true f = ap (λ (n : ℤ). is_eq (int_cmp n b)) ((Decides-int_eq a b).0 f) ∙ ap is_eq (tied_itself int_cmp_total b) ∙ sym f
    here Less e false f = ap is_eq e ∙ sym f
    here Greater e true f = ap (λ (n : ℤ). is_eq (int_cmp n b)) ((Decides-int_eq a b).0 f) ∙ ap is_eq (tied_itself int_cmp_total b) ∙ sym f
    here Greater e false f = ap is_eq e ∙ sym f

then_equal : (a b : Ordering) → is_eq (ordering_then a b) ≡ (is_eq a && is_eq b)
then_equal Less b = refl
then_equal Equal b = refl
then_equal Greater b = refl

abbrev pub at : Thing → Rank → Happened
at thing before = record { thing = thing; rank = before }

-- that it happened, in the words of runs
pub happened_is : (thing : Thing) (before : Rank) (h : Happened) → precedes by_thing by_rank h (at thing before) ≡ has_happened thing before h
happened_is thing before h =
    ap₂ (λ s t. s && t)
    (then_equal (int_cmp h.thing.table thing.table) (int_cmp h.thing.item thing.item) ∙ ap₂ (λ s t. s && t) (equal_is h.thing.table thing.table) (equal_is h.thing.item thing.item))
    (sym (before_as h.rank before))

pub any_is : (thing : Thing) (before : Rank) (hs : List Happened)
    → list_any (λ h. precedes by_thing by_rank h (at thing before)) hs ≡ list_any (has_happened thing before) hs
any_is thing before [] = refl
any_is thing before (h ∷ hs) = ap₂ (λ s t. s || t) (happened_is thing before h) (any_is thing before hs)
