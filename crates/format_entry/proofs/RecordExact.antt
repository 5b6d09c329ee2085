-- Records are read exactly as they are written, and any 80 bytes are those of a record.
use Rattle.std.proofs.Common.{◌≡◌, ◌<◌, ◌^◌, ◌+◌, ◌≤◌, ℕ, List, [], ◌++◌, length, take, drop, Some, None, Option, refl, sym, ap, subst, ◌∙◌, arith, length-append}
use Rattle.std.specs.Option.{option_map, IsSome}
use Rattle.std.proofs.lemmas.List.{append-nil, nil_from_length, length-drop, take_at, drop_at}
use Rattle.std.proofs.lemmas.Bool.{le-ltb}
use Rattle.std.specs.Int.{w64, from_be_bytes}
use Rattle.base_fields.specs.Fields.{u64_field, hash_field}
use Rattle.base_fields.specs.Readers.{u64_at, hash_at, both}
use Rattle.base_fields.specs.Exact.{IsBytes, Exact}
use Rattle.base_fields.proofs.Worth.{length-bytes_high_first}
use Rattle.base_fields.proofs.Written.{u64_exact, hash_exact, some_is}
use Rattle.base_fields.proofs.Parts.{both_exact, mapped_exact, one_value}
use Rattle.sql_types.specs.declared.entry.BlockRecord.{BlockRecord}
use Rattle.format_entry.specs.Record.{record_bytes, IsRecord, record_from, record_at}

abbrev Parts : Type 0
Parts = ℕ × (List ℕ × (ℕ × List ℕ))

abbrev FitParts : Parts → Type 0
FitParts x = (x.0 < 2 ^ 64) × ((length x.1.0 ≡ 32) × ((x.1.1.0 < 2 ^ 64) × (length x.1.1.1 ≡ 32)))

abbrev encode_parts : Parts → List ℕ
encode_parts x = u64_field x.0 ++ (hash_field x.1.0 ++ (u64_field x.1.1.0 ++ hash_field x.1.1.1))

abbrev parts_of : BlockRecord → Parts
parts_of b = (b.id, (b.root, (b.size, b.previous)))

pub record_exact : Exact IsRecord record_bytes record_at
unfolding record_at record_bytes
record_exact = mapped_exact FitParts IsRecord encode_parts record_bytes record_from parts_of (both u64_at (both hash_at (both u64_at hash_at)))
    (record {
      there = λ b. refl;
      encoded = λ x. refl;
      fit = λ x f. record { id = f.0; root = f.1.0; size = f.1.1.0; previous = f.1.1.1 };
      fit_back = λ b f. (f.id, (f.root, (f.size, f.previous)));
    })
    (both_exact (λ (n : ℕ). n < 2 ^ 64) (λ (x : List ℕ × (ℕ × List ℕ)). (length x.0 ≡ 32) × ((x.1.0 < 2 ^ 64) × (length x.1.1 ≡ 32))) u64_field (λ (x : List ℕ × (ℕ × List ℕ)). hash_field x.0 ++ (u64_field x.1.0 ++ hash_field x.1.1))
    u64_at (both hash_at (both u64_at hash_at)) u64_exact
    (both_exact (λ (h : List ℕ). length h ≡ 32) (λ (x : ℕ × List ℕ). (x.0 < 2 ^ 64) × (length x.1 ≡ 32)) hash_field (λ (x : ℕ × List ℕ). u64_field x.0 ++ hash_field x.1) hash_at (both u64_at hash_at) hash_exact
    (both_exact (λ (n : ℕ). n < 2 ^ 64) (λ (h : List ℕ). length h ≡ 32) u64_field hash_field u64_at hash_at u64_exact hash_exact)))

length-u64_field : (n : ℕ) → length (u64_field n) ≡ 8
unfolding u64_field
length-u64_field n = length-bytes_high_first 8 n

pub length-record : (b : BlockRecord) → IsRecord b → length (record_bytes b) ≡ 80
unfolding record_bytes
length-record b is =
    let one = length-append (u64_field b.id) (b.root ++ (u64_field b.size ++ b.previous)) in
    let two = length-append b.root (u64_field b.size ++ b.previous) in
    let three = length-append (u64_field b.size) b.previous in
    omega (arith, one, two, three, length-u64_field b.id, length-u64_field b.size, is.root, is.previous)

-- ---- writing

-- 40 bytes over the second half of 80
pub behind : (front zeros back : List ℕ) → length front ≡ 40 → length zeros ≡ 40
    → take 40 (front ++ zeros) ++ (back ++ drop 40 (drop 40 (front ++ zeros))) ≡ front ++ back
behind front zeros back len zlen =
    let none : drop 40 zeros ≡ [] = nil_from_length (drop 40 zeros) (omega (arith, length-drop 40 zeros)) in
    rw (take_at front zeros 40 len, drop_at front zeros 40 len, none) (ap (λ z. front ++ z) (append-nil back))

-- ---- reading

number_found : (bytes : List ℕ) → 8 ≤ length bytes
    → (x : ℕ × List ℕ) × (u64_at bytes ≡ Some x) × (length x.1 + 8 ≡ length bytes)
unfolding u64_at
number_found bytes long = ((from_be_bytes w64 (take 8 bytes), drop 8 bytes), rw (le-ltb _ _ long) refl, omega (arith, length-drop 8 bytes))

hash_found : (bytes : List ℕ) → 32 ≤ length bytes
    → (x : List ℕ × List ℕ) × (hash_at bytes ≡ Some x) × (length x.1 + 32 ≡ length bytes)
unfolding hash_at
hash_found bytes long = ((take 32 bytes, drop 32 bytes), rw (le-ltb _ _ long) refl, omega (arith, length-drop 32 bytes))

-- 80 bytes are read
found : (bytes : List ℕ) → length bytes ≡ 80 → (b : BlockRecord) × (record_at bytes ≡ Some (b, []))
unfolding record_at
found bytes len =
    let id = number_found bytes (omega arith) in
    let root = hash_found id.0.1 (omega arith) in
    let size = number_found root.0.1 (omega arith) in
    let previous = hash_found size.0.1 (omega arith) in
    let nil : previous.0.1 ≡ [] = nil_from_length previous.0.1 (omega arith) in
    (record_from (id.0.0, (root.0.0, (size.0.0, previous.0.0))), rw (id.1, root.1, size.1, previous.1, nil) refl)

-- what was read
abbrev pub first : Option (BlockRecord × List ℕ) → Option BlockRecord
first read = option_map (λ x. x.0) read

some_of : (o : Option BlockRecord) (b : BlockRecord) → o ≡ Some b → IsSome o
some_of None b is = absurd cc
some_of (Some x) b is = refl

pub is_found : (bytes : List ℕ) (o : Option BlockRecord) → length bytes ≡ 80 → o ≡ first (record_at bytes)
    → IsSome o
is_found bytes o len is = let f = found bytes len in some_of o f.0 (is ∙ ap first f.1)

pub found_of : (bytes : List ℕ) (b : BlockRecord) → length bytes ≡ 80 → IsBytes bytes
    → first (record_at bytes) ≡ Some b → IsRecord b × (bytes ≡ record_bytes b)
found_of bytes b len fits read =
    let f = found bytes len in
    let t = record_exact.takes bytes f.0 [] fits f.1 in
    let same : f.0 ≡ b = some_is f.0 b (ap first (sym f.1) ∙ read) in
    let P : BlockRecord → Type 0 = λ x. IsRecord x × (bytes ≡ record_bytes x) in
    subst P same (t.fits, t.parts ∙ append-nil (record_bytes f.0))

pub equal_records : (b c : BlockRecord) → IsRecord b → IsRecord c → record_bytes b ≡ record_bytes c → b ≡ c
equal_records b c ib ic same = (one_value IsRecord record_bytes record_at record_exact b c [] ib ic (same ∙ sym (append-nil (record_bytes c)))).0
