-- A list at one of its places, and versions that rise there.
use Rattle.std.proofs.Common.{◌≡◌, ◌<◌, ◌+◌, ℕ, zero, suc, refl, sym, ap, subst, ◌∙◌, Bool, false, List, [], ◌∷◌, ◌++◌, length, get_or, take, drop, arith}
use Rattle.std.specs.Prelude.{slice_set, if◌then◌else◌}
use Rattle.std.specs.List.{AllByRecursion}
use Rattle.std.specs.declared.cmp.Ordering.TheVariants.{Less}
use Rattle.sql_types.specs.declared.version.Version.{Version}
use Rattle.spec_model.specs.Rows.{EventId, event_cmp, start_cmp}
use Rattle.spec_model.specs.Runs.{Rising}
use Rattle.sql_apply.specs.Places.{place, starts_before}

pub split_at : {A : Type 0} (xs : List A) (p : ℕ) (d : A) → p < length xs → xs ≡ take p xs ++ get_or xs p d ∷ drop (suc p) xs
split_at [] p d inside = absurd (omega (arith, inside))
split_at (x ∷ xs) zero d inside = refl
split_at (x ∷ xs) (suc p) d inside = ap (λ l. x ∷ l) (split_at xs p d (omega (arith, inside)))

pub set_at : {A : Type 0} (xs : List A) (p : ℕ) (y : A) → p < length xs → slice_set xs p y ≡ take p xs ++ y ∷ drop (suc p) xs
set_at [] p y inside = absurd (omega (arith, inside))
set_at (x ∷ xs) zero y inside = refl
set_at (x ∷ xs) (suc p) y inside = ap (λ l. x ∷ l) (set_at xs p y (omega (arith, inside)))

pub cut_at : {A : Type 0} (xs : List A) (p : ℕ) → xs ≡ take p xs ++ drop p xs
cut_at [] zero = refl
cut_at [] (suc p) = refl
cut_at (x ∷ xs) zero = refl
cut_at (x ∷ xs) (suc p) = ap (λ l. x ∷ l) (cut_at xs p)

-- ---- what rises

all_right : (P : Version → Type 0) (xs : List Version) (v : Version) (ys : List Version) → AllByRecursion P (xs ++ v ∷ ys) → P v
all_right P [] v ys h = h.0
all_right P (x ∷ xs) v ys h = all_right P xs v ys h.1

pub rising_left : (xs : List Version) (v : Version) (ys : List Version) → Rising (xs ++ v ∷ ys) → AllByRecursion (λ w. start_cmp w v ≡ Less) xs
rising_left [] v ys r = tt
rising_left (x ∷ xs) v ys r = (all_right (λ w. start_cmp x w ≡ Less) xs v ys r.0, rising_left xs v ys r.1)

all_without : (P : Version → Type 0) (xs : List Version) (v : Version) (ys : List Version) → AllByRecursion P (xs ++ v ∷ ys) → AllByRecursion P (xs ++ ys)
all_without P [] v ys h = h.1
all_without P (x ∷ xs) v ys h = (h.0, all_without P xs v ys h.1)

pub rising_without : (xs : List Version) (v : Version) (ys : List Version) → Rising (xs ++ v ∷ ys) → Rising (xs ++ ys)
rising_without [] v ys r = r.1
rising_without (x ∷ xs) v ys r = (all_without (λ w. start_cmp x w ≡ Less) xs v ys r.0, rising_without xs v ys r.1)

all_instead : (P : Version → Type 0) (xs : List Version) (v w : Version) (ys : List Version) → (P v → P w) → AllByRecursion P (xs ++ v ∷ ys) → AllByRecursion P (xs ++ w ∷ ys)
all_instead P [] v w ys f h = (f h.0, h.1)
all_instead P (x ∷ xs) v w ys f h = (h.0, all_instead P xs v w ys f h.1)

pub rising_instead : (xs : List Version) (v w : Version) (ys : List Version) → w.start ≡ v.start → Rising (xs ++ v ∷ ys) → Rising (xs ++ w ∷ ys)
rising_instead [] v w ys same r = (subst (λ (s : EventId). AllByRecursion (λ u. event_cmp s u.start ≡ Less) ys) (sym same) r.0, r.1)
rising_instead (x ∷ xs) v w ys same r = (
  all_instead (λ u. start_cmp x u ≡ Less) xs v w ys (λ less. ap (event_cmp x.start) same ∙ less) r.0,
  rising_instead xs v w ys same r.1,
)
