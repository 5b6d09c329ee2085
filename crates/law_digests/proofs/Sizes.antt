-- How long the file of some digests is at most.
use Rattle.std.proofs.Common.{zero, suc, ℕ, ◌≡◌, ◌≤◌, ◌<◌, ◌+◌, ◌*◌, ◌/◌, ◌%◌, ◌==◌, arith, ℤ, Bool, true, false, List, [], ◌∷◌, ◌++◌, length, length-append, map, Some, refl, sym, ◌∙◌, ap, subst, codes, inl, inr, slice_index}
use Rattle.std.specs.Prelude.{◌&&◌, ◌||◌, ◌⊎◌, nat_le, nat_lt, pos, negsuc, neg_ℤ, ◌≤ℤ◌, decimal}
use Rattle.std.specs.List.{AllByRecursion, list_all}
use Rattle.std.specs.Char.{is_ascii_alphanumeric}
use Rattle.std.specs.Int.{is_in_range}
use Rattle.std.proofs.lemmas.Bool.{and_parts}
use Rattle.std.proofs.lemmas.Bool.Decides.{nat_tests}
use Rattle.std.proofs.lemmas.Fmt.{length-decimal-le_wide}
use Rattle.hex.specs.Hex.{IsBytes, encode_upper, encode_with, upper_digits}
use Rattle.hex.proofs.HexLemmas.{length-encode_with}
use Rattle.json.specs.Print.{escape, escape_byte, quoted}
use Rattle.jiff_core.specs.declared.civil.date.Date.{Date}
use Rattle.jiff_core.specs.declared.civil.time.Time.{Time}
use Rattle.jiff_core.proofs.SignedLemmas.{signed_arith}
use Rattle.jiff_core.proofs.CalendarLemmas.{days_in_month_bounds}
use Rattle.jiff_fmt.specs.Text.{pad2, pad4, places, year_text, date_text, time_text}
use Rattle.base_types.specs.DatabaseName.{is_database_name, is_database_byte, starts_as_name}
use Rattle.sql_types.specs.declared.digest.Digest.{Digest}
use Rattle.format_digest.specs.Moment.{IsMomentText}
use Rattle.law_digests.specs.Size.{IsIssued, FitsWhatIsRead}
use Rattle.format_digest.specs.Writing.{DigestWithTimes, joined, hash_text, digest_text, digest_texts, file_text, IsShown, AreShown, IsHash}

-- ---- bytes that stand for themselves in a string of JSON

abbrev Plain : ℕ → Type 0
Plain b = (35 ≤ b) × ((b < 92) ⊎ (92 < b))

abbrev ArePlain : List ℕ → Type 0
ArePlain = AllByRecursion Plain

low : (b : ℕ) → 35 ≤ b → b < 92 → Plain b
low b least most = (least, inl most)

plain_byte : (b : ℕ) → 35 ≤ b → (b == 92) ≡ false → escape_byte b ≡ b ∷ []
unfolding escape_byte
plain_byte b least no92 =
    let no34 : (b == 34) ≡ false = grind arith in
    let no8 : (b == 8) ≡ false = grind arith in
    let no12 : (b == 12) ≡ false = grind arith in
    let no10 : (b == 10) ≡ false = grind arith in
    let no13 : (b == 13) ≡ false = grind arith in
    let no9 : (b == 9) ≡ false = grind arith in
    let no32 : nat_lt b 32 ≡ false = grind (arith, nat_tests) in
    rw (no34, no92, no8, no12, no10, no13, no9, no32) refl

one_byte : (b : ℕ) → Plain b → escape_byte b ≡ b ∷ []
one_byte b (least, inl most) = let no92 : (b == 92) ≡ false = grind arith in plain_byte b least no92
one_byte b (least, inr more) = let no92 : (b == 92) ≡ false = grind arith in plain_byte b least no92

all_bytes : (bs : List ℕ) → ArePlain bs → escape bs ≡ bs
all_bytes [] plain = refl
all_bytes (b ∷ bs) plain = rw (one_byte b plain.0, all_bytes bs plain.1) refl

quoted_size : (bs : List ℕ) → ArePlain bs → length (quoted bs) ≡ length bs + 2
quoted_size bs plain = rw (all_bytes bs plain) (let size = length-append bs (34 ∷ []) in omega (arith, size))

both : (a b : List ℕ) → ArePlain a → ArePlain b → ArePlain (a ++ b)
both [] b g h = h
both (c ∷ cs) b g h = (g.0, both cs b g.1 h)

-- ---- names of databases

or_cases : (a b : Bool) → (a || b) ≡ true → (a ≡ true) ⊎ (b ≡ true)
or_cases true b e = inl refl
or_cases false b e = inr e

at_most : (m n : ℕ) → nat_le m n ≡ true → m ≤ n
at_most m n e = grind (arith, nat_tests)

same : (m n : ℕ) → (m == n) ≡ true → m ≡ n
same m n e = grind (arith, nat_tests)

in_range : (least most b : ℕ) → is_in_range least most b ≡ true → (least ≤ b) × (b ≤ most)
in_range least most b e =
    let parts = and_parts (nat_le least b) (nat_le b most) e in
    (at_most least b parts.0, at_most b most parts.1)

name_byte : (b : ℕ) → is_database_byte b ≡ true → Plain b
name_byte b e = elim (or_cases (is_ascii_alphanumeric b) (b == 95 || (b == 45 || b == 46)) e) [
  | inl letter ↦ elim (or_cases (is_in_range 48 57 b || is_in_range 65 90 b) (is_in_range 97 122 b) letter) [
    | inl first ↦ elim (or_cases (is_in_range 48 57 b) (is_in_range 65 90 b) first) [
      | inl digit ↦ let r = in_range 48 57 b digit in low b (omega (arith, r.0)) (omega (arith, r.1))
      | inr upper ↦ let r = in_range 65 90 b upper in low b (omega (arith, r.0)) (omega (arith, r.1))
    ]
    | inr lower ↦ let r = in_range 97 122 b lower in (omega (arith, r.0), inr (omega (arith, r.0)))
  ]
  | inr sign ↦ elim (or_cases (b == 95) (b == 45 || b == 46) sign) [
    | inl is ↦ let e = same b 95 is in (omega (arith, e), inr (omega (arith, e)))
    | inr more ↦ elim (or_cases (b == 45) (b == 46) more) [
      | inl is ↦ let e = same b 45 is in low b (omega (arith, e)) (omega (arith, e))
      | inr is ↦ let e = same b 46 is in low b (omega (arith, e)) (omega (arith, e))
    ]
  ]
]

name_bytes : (bs : List ℕ) → list_all is_database_byte bs ≡ true → ArePlain bs
name_bytes [] e = tt
name_bytes (b ∷ bs) e =
    let parts = and_parts (is_database_byte b) (list_all is_database_byte bs) e in
    (name_byte b parts.0, name_bytes bs parts.1)

name_size : (name : List ℕ) → is_database_name name ≡ true → length (quoted name) ≤ 66
unfolding is_database_name
name_size name is =
    let parts = and_parts (starts_as_name name) (nat_le (length name) 64 && list_all is_database_byte name) is in
    let rest = and_parts (nat_le (length name) 64) (list_all is_database_byte name) parts.1 in
    let few = at_most (length name) 64 rest.0 in
    let size = quoted_size name (name_bytes name rest.1) in
    omega (arith, few, size)

-- ---- hashes

at_index : (xs : List ℕ) (i : ℕ) → ArePlain xs → i < length xs → Plain (slice_index xs i)
at_index [] i all lt = absurd (omega arith)
at_index (x ∷ xs) zero all lt = all.0
at_index (x ∷ xs) (suc i) all lt = at_index xs i all.1 (omega arith)

digits : ArePlain upper_digits
digits =
    (low 48 (omega arith) (omega arith), (low 49 (omega arith) (omega arith), (low 50 (omega arith) (omega arith), (low 51 (omega arith) (omega arith), (low 52 (omega arith) (omega arith), (low 53 (omega arith) (omega arith), (low 54 (omega arith) (omega arith), (low 55 (omega arith) (omega arith), (low 56 (omega arith) (omega arith), (low 57 (omega arith) (omega arith), (low 65 (omega arith) (omega arith), (low 66 (omega arith) (omega arith), (low 67 (omega arith) (omega arith), (low 68 (omega arith) (omega arith), (low 69 (omega arith) (omega arith), (low 70 (omega arith) (omega arith), tt))))))))))))))))

digit : (i : ℕ) → i < 16 → Plain (slice_index upper_digits i)
digit i lt = at_index upper_digits i digits lt

hex_plain : (bs : List ℕ) → IsBytes bs → ArePlain (encode_upper bs)
unfolding encode_with
hex_plain [] h = tt
hex_plain (b ∷ rest) h =
    let fits : b < 256 = h zero in
    (digit (b / 16) (omega (arith, fits)), (digit (b % 16) (omega arith), hex_plain rest (λ k. h (suc k))))

hash_size : (hash : List ℕ) → IsHash hash → length (quoted (hash_text hash)) ≤ 68
hash_size hash is =
    let plain : ArePlain (hash_text hash) = (low 48 (omega arith) (omega arith), ((omega arith, inr (omega arith)), hex_plain hash is.bytes)) in
    let size = quoted_size (hash_text hash) plain in
    let all = length-append (codes "0x") (encode_upper hash) in
    let two : length (codes "0x") ≡ 2 = refl in
    let hex = length-encode_with upper_digits hash in
    let bytes = is.size in
    omega (arith, size, all, two, hex, bytes)

-- ---- moments

two_plain : (n : ℕ) → n < 100 → ArePlain (pad2 n)
two_plain n lt = (low (48 + n / 10) (omega arith) (omega arith), (low (48 + n % 10) (omega arith) (omega arith), tt))

four_plain : (n : ℕ) → n < 10000 → ArePlain (pad4 n)
four_plain n lt = both (pad2 (n / 100)) (pad2 (n % 100)) (two_plain (n / 100) (omega arith)) (two_plain (n % 100) (omega arith))

-- bytes that stand for themselves, and at most so many
abbrev Few : ℕ → List ℕ → Type 0
Few most bs = ArePlain bs × (length bs ≤ most)

few_both : (m n : ℕ) (a b : List ℕ) → Few m a → Few n b → Few (m + n) (a ++ b)
few_both m n a b g h = let size = length-append a b in (both a b g.0 h.0, omega (arith, size, g.1, h.1))

few_more : (m b : ℕ) (bs : List ℕ) → Plain b → Few m bs → Few (m + 1) (b ∷ bs)
few_more m b bs plain h = ((plain, h.0), omega (arith, h.1))

few_two : (n : ℕ) → n < 100 → Few 2 (pad2 n)
few_two n lt = (two_plain n lt, omega arith)

one_place : (k whole tenth n : ℕ) → whole / 10 ≡ tenth → n / tenth < 10 → Few k (places k tenth (n % tenth)) → Few (suc k) (places (suc k) whole n)
unfolding places
one_place k whole tenth n is first rest =
    rw is ((low (48 + n / tenth) (omega arith) (omega (arith, first)), rest.0), omega (arith, rest.1))

place_1 : (n : ℕ) → n < 1000 → Few 1 (places 1 1000 n)
unfolding places
place_1 n lt = one_place 0 1000 100 n refl (omega (arith, lt)) (tt, omega arith)

place_2 : (n : ℕ) → n < 10000 → Few 2 (places 2 10000 n)
place_2 n lt = one_place 1 10000 1000 n refl (omega (arith, lt)) (place_1 (n % 1000) (omega arith))

place_3 : (n : ℕ) → n < 100000 → Few 3 (places 3 100000 n)
place_3 n lt = one_place 2 100000 10000 n refl (omega (arith, lt)) (place_2 (n % 10000) (omega arith))

place_4 : (n : ℕ) → n < 1000000 → Few 4 (places 4 1000000 n)
place_4 n lt = one_place 3 1000000 100000 n refl (omega (arith, lt)) (place_3 (n % 100000) (omega arith))

place_5 : (n : ℕ) → n < 10000000 → Few 5 (places 5 10000000 n)
place_5 n lt = one_place 4 10000000 1000000 n refl (omega (arith, lt)) (place_4 (n % 1000000) (omega arith))

place_6 : (n : ℕ) → n < 100000000 → Few 6 (places 6 100000000 n)
place_6 n lt = one_place 5 100000000 10000000 n refl (omega (arith, lt)) (place_5 (n % 10000000) (omega arith))

place_7 : (n : ℕ) → n < 1000000000 → Few 7 (places 7 1000000000 n)
place_7 n lt = one_place 6 1000000000 100000000 n refl (omega (arith, lt)) (place_6 (n % 100000000) (omega arith))

year_few : (d : Date) → Few 7 (year_text d.year)
year_few d = go d.year d.year_in.0 d.year_in.1
  where
    go : (year : ℤ) → neg_ℤ (pos 9999) ≤ℤ year → year ≤ℤ pos 9999 → Few 7 (year_text year)
    go (pos n) least most = let lt : n < 10000 = omega (arith, signed_arith, most) in (four_plain n lt, omega arith)
    go (negsuc n) least most =
        let lt : suc n < 10000 = omega (arith, signed_arith, least) in
        ((low 45 (omega arith) (omega arith), (low 48 (omega arith) (omega arith), (low 48 (omega arith) (omega arith), four_plain (suc n) lt))), omega arith)

date_few : (d : Date) → Few 13 (date_text d)
date_few d =
    let month : d.month < 100 = omega (arith, d.month_in.1) in
    let last = (days_in_month_bounds d.year d.month).0 in
    let day : d.day < 100 = omega (arith, d.day_in.1, last) in
    let dash : Few 1 (45 ∷ []) = ((low 45 (omega arith) (omega arith), tt), omega arith) in
    let year_month = few_both 8 2 (year_text d.year ++ 45 ∷ []) (pad2 d.month) (few_both 7 1 (year_text d.year) (45 ∷ []) (year_few d) dash) (few_two d.month month) in
    few_both 11 2 (year_text d.year ++ 45 ∷ [] ++ pad2 d.month ++ 45 ∷ []) (pad2 d.day)
    (few_both 10 1 (year_text d.year ++ 45 ∷ [] ++ pad2 d.month) (45 ∷ []) year_month dash) (few_two d.day day)

time_few : (t : Time) → Few 16 (time_text (Some 7) t)
time_few t =
    let hour : t.hour < 100 = omega (arith, t.hour_in) in
    let minute : t.minute < 100 = omega (arith, t.minute_in) in
    let second : t.second < 100 = omega (arith, t.second_in) in
    let places_ = places 7 1000000000 t.subsec_nanosecond in
    let fraction_ = few_more 7 46 places_ (low 46 (omega arith) (omega arith)) (place_7 t.subsec_nanosecond t.subsec_in) in
    let minute_ = few_more 2 58 (pad2 t.minute) (low 58 (omega arith) (omega arith)) (few_two t.minute minute) in
    let second_ = few_more 2 58 (pad2 t.second) (low 58 (omega arith) (omega arith)) (few_two t.second second) in
    few_both 8 8 (pad2 t.hour ++ 58 ∷ pad2 t.minute ++ 58 ∷ pad2 t.second) (46 ∷ places_)
    (few_both 5 3 (pad2 t.hour ++ 58 ∷ pad2 t.minute) (58 ∷ pad2 t.second)
    (few_both 2 3 (pad2 t.hour) (58 ∷ pad2 t.minute) (few_two t.hour hour) minute_) second_) fraction_

moment_size : (ticks : ℕ) (text : List ℕ) → IsMomentText ticks text → length (quoted text) ≤ 32
moment_size ticks text (at, is, shown) =
    let behind = few_more 16 84 (time_text (Some 7) at.time) (low 84 (omega arith) (omega arith)) (time_few at.time) in
    let all : Few 30 (date_text at.date ++ 84 ∷ time_text (Some 7) at.time) =
    few_both 13 17 (date_text at.date) (84 ∷ time_text (Some 7) at.time) (date_few at.date) behind in
    let few : Few 30 text = subst (λ t. Few 30 t) (sym shown) all in
    let size = quoted_size text few.0 in
    omega (arith, size, few.1)

-- ---- the file

abbrev sizes : List (List ℕ) → ℕ
sizes [] = 0
sizes (t ∷ ts) = length t + sizes ts

joined_size : (ts : List (List ℕ)) → length (joined ts) ≡ sizes ts
joined_size [] = refl
joined_size (t ∷ ts) = let size = length-append t (joined ts) in let rest = joined_size ts in omega (arith, size, rest)

one_size : (s : DigestWithTimes) → IsShown s → IsIssued s.digest → length (digest_text s) ≤ 303
unfolding digest_text
one_size s shown issued =
    let block : length (decimal s.digest.block) ≤ 20 = (let fits = issued.block in length-decimal-le_wide 20 s.digest.block (omega arith) (omega (arith, fits)) (omega (arith, fits))) in
    let database = name_size s.digest.database issued.database in
    let made = moment_size s.digest.made s.made shown.made in
    let hash = hash_size s.digest.hash issued.hash in
    let last = moment_size s.digest.last_commit s.last_commit shown.last_commit in
    let all = joined_size (
    codes "{\"block_id\":" ∷ decimal s.digest.block ∷
    codes ",\"database_name\":" ∷ quoted s.digest.database ∷
    codes ",\"digest_time\":" ∷ quoted s.made ∷
    codes ",\"hash\":" ∷ quoted (hash_text s.digest.hash) ∷
    codes ",\"last_transaction_commit_time\":" ∷ quoted s.last_commit ∷
    codes "}" ∷ []) in
    let a : length (codes "{\"block_id\":") ≡ 12 = refl in
    let b : length (codes ",\"database_name\":") ≡ 17 = refl in
    let c : length (codes ",\"digest_time\":") ≡ 15 = refl in
    let d : length (codes ",\"hash\":") ≡ 8 = refl in
    let e : length (codes ",\"last_transaction_commit_time\":") ≡ 32 = refl in
    let f : length (codes "}") ≡ 1 = refl in
    omega (arith, block, database, made, hash, last, all, a, b, c, d, e, f)

texts_size : (later : Bool) (ss : List DigestWithTimes) → AreShown ss → AllByRecursion IsIssued (map (λ s. s.digest) ss) → length (digest_texts later ss) ≤ 304 * length ss + 1
texts_size later [] shown issued = omega arith
texts_size true (s ∷ ss) shown issued =
    let one = one_size s shown.0 issued.0 in
    let rest = texts_size true ss shown.1 issued.1 in
    let all = joined_size (codes "," ∷ digest_text s ∷ digest_texts true ss ∷ []) in
    omega (arith, one, rest, all)
texts_size false (s ∷ ss) shown issued =
    let one = one_size s shown.0 issued.0 in
    let rest = texts_size true ss shown.1 issued.1 in
    let all = joined_size ([] ∷ digest_text s ∷ digest_texts true ss ∷ []) in
    omega (arith, one, rest, all)

count : (ss : List DigestWithTimes) → length (map (λ s. s.digest) ss) ≡ length ss
count [] = refl
count (s ∷ ss) = let rest = count ss in omega (arith, rest)

file_size : (ss : List DigestWithTimes) → AreShown ss → AllByRecursion IsIssued (map (λ s. s.digest) ss) → length (file_text ss) ≤ 304 * length ss + 2
unfolding file_text
file_size ss shown issued = let size = texts_size false ss shown issued in omega (arith, size)

pub fits : (list : List Digest) (bytes : List ℕ) → FitsWhatIsRead list bytes
fits list bytes file issued few =
    let all = subst (λ l. AllByRecursion IsIssued l) (sym file.digests) issued in
    let size = file_size file.shown file.times all in
    let as_many : length file.shown ≡ length list = sym (count file.shown) ∙ ap (λ l. length l) file.digests in
    let text = ap (λ b. length b) file.text in
    omega (arith, few, size, as_many, text)
