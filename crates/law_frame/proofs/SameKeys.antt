-- Equal keys, and the one version of a start.
use Rattle.std.proofs.Common.{◌≡◌, refl, ap, subst, Bool, true, false, List, [], ◌∷◌}
use Rattle.std.proofs.lemmas.Bool.{eqb-true}
use Rattle.std.specs.Prelude.{◌==◌, ◌&&◌, ◌||◌}
use Rattle.std.specs.List.{AllByRecursion}
use Rattle.std.specs.Cmp.{IsTotalOrder}
use Rattle.std.proofs.lemmas.Cmp.{lists_total}
use Rattle.std.specs.declared.cmp.Ordering.{Ordering}
use Rattle.std.specs.declared.cmp.Ordering.TheVariants.{Less, Equal, Greater}
use Rattle.std.specs.Ordering.{is_eq, ordering_reverse}
use Rattle.sql_value.specs.Order.{value_total}
use Rattle.sql_types.specs.declared.version.Version.{Version}
use Rattle.spec_model.specs.Rows.{EventId, event_cmp, same_event, start_cmp}
use Rattle.spec_model.specs.Keys.{Key, key_cmp, same_key}
use Rattle.spec_model.specs.Runs.{Rising}
use Rattle.law_frame.proofs.Alls.{all_weaker}
use Rattle.law_frame.proofs.Sounds.{event_total}

-- ---- keys

key_total : IsTotalOrder key_cmp
unfolding key_cmp
key_total = lists_total value_total

is_equal : (o : Ordering) → is_eq o ≡ true → o ≡ Equal
is_equal Less h = cc
is_equal Equal h = refl
is_equal Greater h = cc

-- what is equal to a key is equal to all that it is equal to, and to nothing else
pub same_key_as : (a b key : Key) → same_key a b ≡ true → same_key a key ≡ same_key b key
unfolding same_key
same_key_as a b key h = ap is_eq (key_total.congr a b key (is_equal (key_cmp a b) h))

-- ---- booleans

pub and_true : (a b : Bool) → (a && b) ≡ true → (a ≡ true) × (b ≡ true)
and_true true b h = (refl, h)
and_true false b h = cc

pub or_false : (a b : Bool) → (a || b) ≡ false → (a ≡ false) × (b ≡ false)
or_false true b h = cc
or_false false b h = (refl, h)

-- ---- starts

pub one_start : (a b : EventId) → same_event a b ≡ true → a ≡ b
one_start a b h = let p = and_true (a.0 == b.0) (a.1 == b.1) h in λ i. (eqb-true a.0 b.0 p.0 i, eqb-true a.1 b.1 p.1 i)

pub not_less : (a : EventId) → event_cmp a a ≡ Less → ⊥
not_less a h = let e : event_cmp a a ≡ ordering_reverse (event_cmp a a) = event_total.antisymm a a in let k : Less ≡ ordering_reverse Less = subst (λ (o : Ordering). o ≡ ordering_reverse o) h e in cc

rises_apart : (u w : Version) → start_cmp u w ≡ Less → same_event w.start u.start ≡ true → ⊥
rises_apart u w l h = not_less u.start (subst (λ (e : EventId). event_cmp u.start e ≡ Less) (one_start w.start u.start h) l)

rises_apart_too : (u w : Version) → start_cmp u w ≡ Less → same_event u.start w.start ≡ true → ⊥
rises_apart_too u w l h = not_less w.start (subst (λ (e : EventId). event_cmp e w.start ≡ Less) (one_start u.start w.start h) l)

-- who has its start is this version
abbrev pub IsAlone : List Version → Version → Type 0
IsAlone versions v = AllByRecursion (λ w. same_event w.start v.start ≡ true → w ≡ v) versions

pub each_alone : (versions : List Version) → Rising versions → AllByRecursion (IsAlone versions) versions
each_alone [] r = tt
each_alone (u ∷ us) r = (
  ((λ h. refl), all_weaker (λ w. start_cmp u w ≡ Less) (λ w. same_event w.start u.start ≡ true → w ≡ u) (λ w l h. absurd (rises_apart u w l h)) us r.0),
  together us r.0 (each_alone us r.1),
)
  where
    together : (vs : List Version) → AllByRecursion (λ w. start_cmp u w ≡ Less) vs → AllByRecursion (IsAlone us) vs → AllByRecursion (IsAlone (u ∷ us)) vs
    together [] l a = tt
    together (v ∷ vs) l a = (((λ h. absurd (rises_apart_too u v l.0 h)), a.0), together vs l.1 a.1)

pub own_reverse : (o : Ordering) → o ≡ ordering_reverse o → is_eq o ≡ true
own_reverse Less e = cc
own_reverse Equal e = refl
own_reverse Greater e = cc

pub same_itself : (a : Key) → same_key a a ≡ true
unfolding same_key
same_itself a = own_reverse (key_cmp a a) (key_total.antisymm a a)
