-- The forms of values.
use Rattle.std.specs.Prelude.{ℕ, ◌≡◌, ◌<◌, ◌^◌, Bool, true, false, not, ◌+◌, ◌*◌, ◌-◌, ◌==◌, ◌&&◌, nat_le, List, [], ◌∷◌, ◌++◌, length, codes}
use Rattle.std.specs.Prelude.{Option, Some, None, if◌then◌else◌, option_map}
use Rattle.std.specs.List.{list_all}
use Rattle.std.specs.Char.{is_ascii_digit}
use Rattle.std.specs.Fmt.{decimal}
use Rattle.std.specs.Str.{byte}
use Rattle.base_types.specs.DatabaseName.{is_database_name, is_database_byte, starts_as_name}

-- the name of a file: 1 to 128 letters or digits of ASCII, '_', '-' or '.', the first a letter or a digit
unfoldable pub is_file_name : List ℕ → Bool
is_file_name name = starts_as_name name && (nat_le (length name) 128 && list_all is_database_byte name)

-- the name that files are saved under: the same, but for at most 100
unfoldable pub is_save_name : List ℕ → Bool
is_save_name name = nat_le (length name) 100 && is_file_name name

-- what is saved under a name stands under names of files, so it can be read
pub record IsReadable (name : List ℕ) : Type 0 where
  pub image : is_file_name (name ++ codes ".img") ≡ true
  pub digests : is_file_name (name ++ codes ".digests") ≡ true
  pub journal : is_file_name (name ++ codes ".journal") ≡ true
  pub receipt : is_file_name (name ++ codes ".receipt") ≡ true
  pub chain : is_file_name (name ++ codes ".chain") ≡ true
  -- the image of the first `items` items
  pub part : (items : ℕ) → items < 2 ^ 64
      → is_file_name (name ++ codes "-" ++ decimal items ++ codes ".img") ≡ true

-- a zero, and further digits
abbrev pub has_leading_zero : List ℕ → Bool
has_leading_zero (b ∷ c ∷ bs) = b == byte "0"
has_leading_zero bs = false

-- 1 to 19 digits without a leading zero
unfoldable pub is_number : List ℕ → Bool
is_number text = (nat_le 1 (length text) && nat_le (length text) 19)
    && (list_all is_ascii_digit text && not (has_leading_zero text))

-- the number of the digits, behind those of `n`
abbrev pub number_from : ℕ → List ℕ → ℕ
number_from n [] = n
number_from n (b ∷ bs) = number_from (n * 10 + (b - byte "0")) bs

-- a number from `low` to `high`
unfoldable pub number_in : ℕ → ℕ → List ℕ → Option ℕ
number_in low high text =
    if is_number text && (nat_le low (number_from 0 text) && nat_le (number_from 0 text) high)
    then Some (number_from 0 text) else None

abbrev pub file_name : List ℕ → Option (List ℕ)
file_name text = if is_file_name text then Some text else None

abbrev pub save_name : List ℕ → Option (List ℕ)
save_name text = if is_save_name text then Some text else None

abbrev pub database_name : List ℕ → Option (List ℕ)
database_name text = if is_database_name text then Some text else None

-- a value that may be left out, for which `default` stands then
abbrev pub or_default : {A : Type 0} → A → (List ℕ → Option A) → Option (List ℕ) → Option A
or_default default read None = Some default
or_default default read (Some text) = read text

-- a value that may be left out
abbrev pub if_given : {A : Type 0} → (List ℕ → Option A) → Option (List ℕ) → Option (Option A)
if_given read None = Some None
if_given read (Some text) = option_map (λ a. Some a) (read text)
