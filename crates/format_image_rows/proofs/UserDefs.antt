-- The definitions of the tables of users, as tables come one by one.
use Rattle.std.proofs.Common.{◌≡◌, ◌<◌, ◌≤◌, refl, ap, [], ◌∷◌, ◌++◌, length, arith}
use Rattle.sql_types.specs.declared.version.Table.{Table}
use Rattle.spec_model.specs.Catalog.{Tables, defs_of}
use Rattle.format_image.specs.Image.{user_defs}

pub few_defs : (ys : Tables) (t : Table) → length ys < 2 → user_defs (ys ++ t ∷ []) ≡ user_defs ys
few_defs [] t few = refl
few_defs (x ∷ []) t few = refl
few_defs (x ∷ y ∷ ys) t few = absurd (omega (arith, few))

defs_more : (ys : Tables) (t : Table) → defs_of (ys ++ t ∷ []) ≡ defs_of ys ++ t.def ∷ []
defs_more [] t = refl
defs_more (y ∷ ys) t = ap (λ ds. y.def ∷ ds) (defs_more ys t)

pub more_defs : (ys : Tables) (t : Table) → 2 ≤ length ys → user_defs (ys ++ t ∷ []) ≡ user_defs ys ++ t.def ∷ []
more_defs [] t many = absurd (omega (arith, many))
more_defs (x ∷ []) t many = absurd (omega (arith, many))
more_defs (x ∷ y ∷ ys) t many = defs_more ys t
