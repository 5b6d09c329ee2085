-- Which columns were dropped, by flags and by names.
use Rattle.std.specs.Prelude.{ℕ, zero, suc, ◌+◌, ◌-◌, ◌&&◌, not, nat_le, Bool, true, if◌then◌else◌, List, [], ◌∷◌, ◌++◌, length, Option, Some, None, slice_set}
use Rattle.std.specs.Str.{bytes_eq}
use Rattle.sql_value.specs.declared.column.ColumnDef.{ColumnDef}
use Rattle.spec_model.specs.Lists.{is_among}

-- the first column of this name, of those with the ordinals from n on that are not among the dropped
abbrev pub first_live : List ℕ → List ℕ → ℕ → List ColumnDef → Option ColumnDef
first_live dropped name n [] = None
first_live dropped name n (c ∷ cs) =
    if bytes_eq c.name name && not (is_among dropped n) then Some c else first_live dropped name (n + 1) cs

-- ---- flags

-- for so many ordinals from n on, whether each is among the dropped
abbrev pub flags_from : List ℕ → ℕ → ℕ → List Bool
flags_from dropped n zero = []
flags_from dropped n (suc k) = is_among dropped n ∷ flags_from dropped (n + 1) k

-- with the flag of this ordinal, counted from 1, set where it has one
abbrev pub flagged : List Bool → ℕ → List Bool
flagged flags ordinal =
    if nat_le 1 ordinal && nat_le ordinal (length flags) then slice_set flags (ordinal - 1) true else flags

-- with those of all these ordinals set
abbrev pub all_flagged : List Bool → List ℕ → List Bool
all_flagged flags [] = flags
all_flagged flags (n ∷ ns) = all_flagged (flagged flags n) ns

-- an item, or nothing where its flag is set
abbrev pub unless : {A : Type 0} → Bool → A → List A
unless flag x = if flag then [] else x ∷ []

-- the items whose flags are false, as far as there are flags
abbrev pub unflagged : {A : Type 0} → List Bool → List A → List A
unflagged [] xs = []
unflagged (f ∷ fs) [] = []
unflagged (f ∷ fs) (x ∷ xs) = unless f x ++ unflagged fs xs
