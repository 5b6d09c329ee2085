-- What is written of digests.
use Rattle.std.specs.Prelude.{◌≡◌, ◌≤◌, ◌++◌, ℕ, Bool, true, false, List, [], ◌∷◌, if◌then◌else◌, codes, map, decimal, length}
use Rattle.std.specs.Str.{byte}
use Rattle.hex.specs.Hex.{IsBytes, encode_upper}
use Rattle.json.specs.Print.{quoted}
use Rattle.serde_json.specs.Data.{Data, number, string, object, member, no_members, unsigned}
use Rattle.serde_json.specs.View.{view}
use Rattle.serde_json.specs.declared.value.Value.{Value}
use Rattle.base_types.specs.declared.moment.TheConstants.{MAX_TICKS}
use Rattle.sql_types.specs.declared.digest.Digest.{Digest}
use Rattle.sql_types.specs.declared.digest.HeldDigest.{HeldDigest}
use Rattle.format_digest.specs.Moment.{IsMomentText}

-- both times are at most the greatest moment
pub record HasMoments (d : Digest) : Type 0 where
  pub made : d.made ≤ MAX_TICKS
  pub last_commit : d.last_commit ≤ MAX_TICKS

-- what is held of a digest
abbrev pub held_form : Digest → HeldDigest
held_form d = record { database = d.database; block = d.block; hash = d.hash }

-- the text of a hash: `0x` and its digits in upper case
abbrev pub hash_text : List ℕ → List ℕ
hash_text hash = codes "0x" ++ encode_upper hash

-- one text behind the other
abbrev pub joined : List (List ℕ) → List ℕ
joined [] = []
joined (t ∷ ts) = t ++ joined ts

-- ---- the text

-- a digest with the texts of its two times
pub record DigestWithTimes : Type 0 where
  pub digest : Digest
  pub made : List ℕ
  pub last_commit : List ℕ

-- the texts are those of the digest's times
pub record IsShown (s : DigestWithTimes) : Type 0 where
  pub made : IsMomentText s.digest.made s.made
  pub last_commit : IsMomentText s.digest.last_commit s.last_commit

-- so for each
abbrev pub AreShown : List DigestWithTimes → Type 0
AreShown [] = Unit {0}
AreShown (s ∷ ss) = IsShown s × AreShown ss

-- one digest, its keys in alphabetical order
unfoldable pub digest_text : DigestWithTimes → List ℕ
digest_text s = joined (
    codes "{\"block_id\":" ∷ decimal s.digest.block ∷
    codes ",\"database_name\":" ∷ quoted s.digest.database ∷
    codes ",\"digest_time\":" ∷ quoted s.made ∷
    codes ",\"hash\":" ∷ quoted (hash_text s.digest.hash) ∷
    codes ",\"last_transaction_commit_time\":" ∷ quoted s.last_commit ∷
    codes "}" ∷ [])

-- the digests and the closing bracket; a comma stands before each one that is `later` than the first
abbrev pub digest_texts : Bool → List DigestWithTimes → List ℕ
digest_texts later [] = codes "]"
digest_texts later (s ∷ ss) =
    joined ((if later then codes "," else []) ∷ digest_text s ∷ digest_texts true ss ∷ [])

-- the digests with a comma between them, in brackets
unfoldable pub file_text : List DigestWithTimes → List ℕ
file_text shown = byte "[" ∷ digest_texts false shown

-- the bytes are the file of these digests
pub record IsFile (list : List Digest) (bytes : List ℕ) : Type 0 where
  pub shown : List DigestWithTimes
  pub digests : map (λ s. s.digest) shown ≡ list
  pub times : AreShown shown
  pub text : bytes ≡ file_text shown

-- ---- the JSON values between digests and text

-- the members of a digest, by block, database, time, hash and time of the last entry
unfoldable pub digest_data : ℕ → List ℕ → List ℕ → List ℕ → List ℕ → Data
digest_data block database made hash last_commit = object (member (codes "block_id") (number (unsigned block))
    (member (codes "database_name") (string database)
    (member (codes "digest_time") (string made)
    (member (codes "hash") (string hash)
    (member (codes "last_transaction_commit_time") (string last_commit) no_members)))))

-- the members of a digest with these texts
abbrev pub shown_data : DigestWithTimes → Data
shown_data s = digest_data s.digest.block s.digest.database s.made (hash_text s.digest.hash) s.last_commit

-- ---- what the code makes of digests before it writes them

-- the type of a hash
pub record IsHash (hash : List ℕ) : Type 0 where
  pub size : length hash ≡ 32
  pub bytes : IsBytes hash

-- each has the type of a hash
abbrev pub AreHashes : List DigestWithTimes → Type 0
AreHashes [] = Unit {0}
AreHashes (s ∷ ss) = IsHash s.digest.hash × AreHashes ss

-- the value says the digest
pub record IsValue (d : Digest) (v : Value) : Type 0 where
  pub shown : DigestWithTimes
  pub digest : shown.digest ≡ d
  pub times : IsShown shown
  pub hash : IsHash shown.digest.hash
  pub value : view v ≡ shown_data shown

-- the values say the digests
pub record AreValues (list : List Digest) (values : List Value) : Type 0 where
  pub shown : List DigestWithTimes
  pub digests : map (λ s. s.digest) shown ≡ list
  pub times : AreShown shown
  pub hashes : AreHashes shown
  pub said : map view values ≡ map shown_data shown
