-- What is read of a digest file.
use Rattle.std.specs.Prelude.{◌≡◌, ◌+◌, ◌++◌, ℕ, Bool, List, [], ◌∷◌, Option, Some, None, Result, Ok, Err, if◌then◌else◌, codes, take, drop, is_some, IsUtf8}
use Rattle.std.specs.Str.{bytes_eq}
use Rattle.hex.specs.Hex.{decode_sized}
use Rattle.serde_json.specs.Data.{Data, Items, no_items, item}
use Rattle.serde_json.specs.Find.{get, as_str, as_number, as_u64, as_array, as_object}
use Rattle.serde_json.specs.Read.{read}
use Rattle.base_fields.specs.Readers.{◌>>=◌}
use Rattle.sql_types.specs.declared.digest.HeldDigest.{HeldDigest}
use Rattle.format_digest.specs.declared.digest_err.DigestErr.{DigestErr}
use Rattle.format_digest.specs.declared.digest_err.DigestErr.TheVariants as errors

-- the value, if there is one
abbrev pub if_ok : {A E : Type 0} → Result A E → Option A
if_ok (Ok a) = Some a
if_ok (Err e) = None

-- the hash that `0x` and 64 hexadecimal digits of either case write
unfoldable pub hash_of : List ℕ → Option (List ℕ)
hash_of text = if bytes_eq (take 2 text) (codes "0x") then if_ok (decode_sized (drop 2 text) 32) else None

-- the digest that a value is: an object whose `database_name` is a string, whose `block_id` is a number in
-- digits alone
-- below 2^64, and whose `hash` is a string that writes one
unfoldable pub held_of : Data → Option HeldDigest
held_of d = get (codes "database_name") d >>= as_str >>= λ database.
    get (codes "block_id") d >>= as_number >>= as_u64 >>= λ block.
    get (codes "hash") d >>= as_str >>= hash_of >>= λ hash.
    Some (record { database = database; block = block; hash = hash })

-- what `f` makes of the value, if there is one
abbrev pub on_found : {A B : Type 0} → Option A → B → (A → B) → B
on_found None b f = b
on_found (Some a) b f = f a

-- the digests of the items after `i` items before them, behind `before`; or the place of the first that is
-- none
abbrev pub each_held : ℕ → List HeldDigest → Items → Result (List HeldDigest) ℕ
each_held i before no_items = Ok before
each_held i before (item d ds) =
    on_found (held_of d) (Err i) (λ held. each_held (i + 1) (before ++ held ∷ []) ds)

-- the value is an object
abbrev pub is_object : Data → Bool
is_object d = is_some (as_object d)

-- the digests of an array, or one object as a list of one; or the place of the first that is none
unfoldable pub digests_in : Data → Result (List HeldDigest) ℕ
digests_in d =
    on_found (as_array d) (if is_object d then each_held 0 [] (item d no_items) else Err 0) (each_held 0 [])

-- what the code answers
abbrev pub Answer : Type 0
Answer = Result (List HeldDigest) DigestErr

-- the code answers what the items are
abbrev pub IsEach : Result (List HeldDigest) ℕ → Answer → Type 0
IsEach meant (Ok list) = meant ≡ Ok list
IsEach meant (Err errors.Unreadable) = ⊥
IsEach meant (Err (errors.Bad index)) = meant ≡ Err index
IsEach meant (Err errors.Memory) = Unit {0}

-- the bytes are a JSON value with these digests, or the first item that is none
abbrev pub AreDigests : List ℕ → Result (List HeldDigest) ℕ → Type 0
AreDigests bytes meant = IsUtf8 bytes × ((d : Data) × (read bytes ≡ Some d) × (digests_in d ≡ meant))

-- what the code answers of some bytes, and each answer's cause
abbrev pub IsRead : List ℕ → Answer → Type 0
IsRead bytes (Ok list) = AreDigests bytes (Ok list)
IsRead bytes (Err errors.Unreadable) = IsUtf8 bytes → read bytes ≡ None
IsRead bytes (Err (errors.Bad index)) = AreDigests bytes (Err index)
IsRead bytes (Err errors.Memory) = Unit {0}
