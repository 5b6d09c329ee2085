-- Digests that are read of a file have the hashes of the type.
use Rattle.std.proofs.Common.{◌≡◌, ℕ, ◌+◌, ◌/◌, ◌%◌, ◌==◌, Bool, true, false, cond, List, [], ◌∷◌, ◌++◌, map, length, drop, take, Option, Some, None, Result, Ok, Err, refl, subst, arith, codes}
use Rattle.std.specs.List.{AllByRecursion}
use Rattle.std.specs.Str.{bytes_eq}
use Rattle.std.proofs.lemmas.Bool.Decides.{nat_tests}
use Rattle.hex.specs.Hex.{decode_pairs, decode_sized}
use Rattle.hex.specs.declared.error.FromHexError.{FromHexError}
use Rattle.hex.specs.declared.error.FromHexError.TheVariants.{OddLength, InvalidStringLength}
use Rattle.hex.proofs.HexLemmas.{decode_pairs-ok}
use Rattle.serde_json.specs.Data.{Data, Items, no_items, item}
use Rattle.serde_json.specs.Find.{get, as_str, as_number, as_u64, as_array}
use Rattle.base_fields.specs.Readers.{◌>>=◌}
use Rattle.sql_types.specs.declared.digest.Digest.{Digest}
use Rattle.sql_types.specs.declared.digest.HeldDigest.{HeldDigest}
use Rattle.format_digest.specs.Reading.{IsRead, digests_in, each_held, hash_of, held_of, if_ok, is_object, on_found}
use Rattle.format_digest.specs.Writing.{IsHash, held_form}

-- ---- a hash

abbrev MayBeHash : Option (List ℕ) → Type 0
MayBeHash None = Unit {0}
MayBeHash (Some hash) = IsHash hash

decoded : (text : List ℕ) (r : Result (List ℕ) FromHexError) → length text / 2 ≡ 32 → length text % 2 ≡ 0 → decode_pairs 0 text ≡ r → MayBeHash (if_ok r)
decoded text (Ok bytes) half even is =
    let ok = decode_pairs-ok 0 text bytes is in
    record { size = omega (arith, half, even, ok.1); bytes = ok.2 }
decoded text (Err e) half even is = tt

of_size : (text : List ℕ) (t : Bool) → (length text / 2 == 32) ≡ t → length text % 2 ≡ 0 → MayBeHash (if_ok (cond t (decode_pairs 0 text) (Err InvalidStringLength)))
of_size text true is even = let half : length text / 2 ≡ 32 = grind (arith, nat_tests) in decoded text (decode_pairs 0 text) half even refl
of_size text false is even = tt

of_parity : (text : List ℕ) (t : Bool) → (length text % 2 == 1) ≡ t → MayBeHash (if_ok (cond t (Err OddLength) (cond (length text / 2 == 32) (decode_pairs 0 text) (Err InvalidStringLength))))
of_parity text true is = tt
of_parity text false is = of_size text (length text / 2 == 32) refl (even text is)
  where
    even : (text : List ℕ) → (length text % 2 == 1) ≡ false → length text % 2 ≡ 0
    even text is = grind (arith, nat_tests)

prefixed : (t : Bool) (o : Option (List ℕ)) → MayBeHash o → MayBeHash (cond t o None)
prefixed true o is = is
prefixed false o is = tt

hash_is : (text : List ℕ) → MayBeHash (hash_of text)
unfolding hash_of
hash_is text = prefixed (bytes_eq (take 2 text) (codes "0x")) (if_ok (decode_sized (drop 2 text) 32)) (of_parity (drop 2 text) (length (drop 2 text) % 2 == 1) refl)

found_hash : (o : Option (List ℕ)) → MayBeHash (o >>= hash_of)
found_hash None = tt
found_hash (Some text) = hash_is text

-- ---- a digest

abbrev HasHash : HeldDigest → Type 0
HasHash held = IsHash held.hash

abbrev MayHaveHash : Option HeldDigest → Type 0
MayHaveHash None = Unit {0}
MayHaveHash (Some held) = HasHash held

then_has : {A : Type 0} (o : Option A) (f : A → Option HeldDigest) → ((a : A) → MayHaveHash (f a)) → MayHaveHash (o >>= f)
then_has None f each = tt
then_has (Some a) f each = each a

hash_has : (database : List ℕ) (block : ℕ) (o : Option (List ℕ)) → MayBeHash o → MayHaveHash (o >>= λ hash. Some (record { database = database; block = block; hash = hash }))
hash_has database block None is = tt
hash_has database block (Some hash) is = is

held_has : (d : Data) → MayHaveHash (held_of d)
unfolding held_of
held_has d = then_has (get (codes "database_name") d >>= as_str) _
    (λ database. then_has (get (codes "block_id") d >>= as_number >>= as_u64) _
    (λ block. hash_has database block (get (codes "hash") d >>= as_str >>= hash_of) (found_hash (get (codes "hash") d >>= as_str))))

-- ---- all of them

abbrev HaveHashes : List HeldDigest → Type 0
HaveHashes list = AllByRecursion HasHash list

abbrev MayHaveHashes : Result (List HeldDigest) ℕ → Type 0
MayHaveHashes (Ok list) = HaveHashes list
MayHaveHashes (Err i) = Unit {0}

one_more : (list : List HeldDigest) (held : HeldDigest) → HaveHashes list → HasHash held → HaveHashes (list ++ held ∷ [])
one_more [] held all one = (one, tt)
one_more (first ∷ list) held all one = (all.0, one_more list held all.1 one)

next_has : (i : ℕ) (before : List HeldDigest) (o : Option HeldDigest) (next : List HeldDigest → Result (List HeldDigest) ℕ) → HaveHashes before → MayHaveHash o
    → ((list : List HeldDigest) → HaveHashes list → MayHaveHashes (next list)) → MayHaveHashes (on_found o (Err i) (λ held. next (before ++ held ∷ [])))
next_has i before None next all one rest = tt
next_has i before (Some held) next all one rest = rest (before ++ held ∷ []) (one_more before held all one)

each_has : (i : ℕ) (before : List HeldDigest) (ds : Items) → HaveHashes before → MayHaveHashes (each_held i before ds)
each_has i before no_items all = all
each_has i before (item d ds) all = next_has i before (held_of d) (λ list. each_held (i + 1) list ds) all (held_has d) (λ list have. each_has (i + 1) list ds have)

object_has : (t : Bool) (d : Data) → MayHaveHashes (cond t (each_held 0 [] (item d no_items)) (Err 0))
object_has true d = each_has 0 [] (item d no_items) tt
object_has false d = tt

array_has : (o : Option Items) (d : Data) → MayHaveHashes (on_found o (cond (is_object d) (each_held 0 [] (item d no_items)) (Err 0)) (each_held 0 []))
array_has None d = object_has (is_object d) d
array_has (Some ds) d = each_has 0 [] ds tt

all_have : (d : Data) → MayHaveHashes (digests_in d)
unfolding digests_in
all_have d = array_has (as_array d) d

-- the digests of which these are what is held
held_forms : (G : List Digest) → HaveHashes (map held_form G) → AllByRecursion (λ d. IsHash d.hash) G
held_forms [] all = tt
held_forms (d ∷ G) all = (all.0, held_forms G all.1)

pub hashes : (G : List Digest) (file : List ℕ) → IsRead file (Ok (map held_form G)) → AllByRecursion (λ d. IsHash d.hash) G
hashes G file read = held_forms G (subst MayHaveHashes read.1.2 (all_have read.1.0))
