-- Going through entries with the sizes of blocks, block by block.
use Rattle.std.specs.Prelude.{ℕ, ◌+◌, nat_lt, if◌then◌else◌, List, [], ◌∷◌, ◌++◌, Option, Some}
use Rattle.base_fields.specs.Readers.{◌>>=◌}
use Rattle.sql_types.specs.declared.entry.TxEntry.{TxEntry}
use Rattle.spec_ledger.specs.Entries.{at_place}

-- a place: the sizes of this block and of those behind it, its number, and the place in it
pub record Spot : Type 0 where
  pub sizes : List ℕ
  pub block : ℕ
  pub ordinal : ℕ

-- the first place that is free: behind a block that is full comes the next one
abbrev pub free_spot : List ℕ → ℕ → ℕ → Spot
free_spot [] block ordinal = record { sizes = []; block = block; ordinal = ordinal }
free_spot (k ∷ ks) block ordinal =
    if nat_lt ordinal k
    then record { sizes = k ∷ ks; block = block; ordinal = ordinal }
    else free_spot ks (block + 1) 0

-- these entries, each at the first place that is free
abbrev pub walked : List ℕ → ℕ → ℕ → List TxEntry → List TxEntry
walked sizes block ordinal [] = []
walked sizes block ordinal (e ∷ es) =
    let spot = free_spot sizes block ordinal in
    at_place spot.block spot.ordinal e ∷ walked spot.sizes spot.block (spot.ordinal + 1) es

-- entries that are read and placed from here on, behind those that are there
abbrev pub walked_behind : List TxEntry → List ℕ → ℕ → ℕ
    → Option (List TxEntry × List ℕ) → Option (List TxEntry × List ℕ)
walked_behind before sizes block ordinal read =
    read >>= λ x. Some (before ++ walked sizes block ordinal x.0, x.1)
