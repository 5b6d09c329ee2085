-- The hashes that a line may name.
use Rattle.std.specs.Prelude.{ℕ, ◌≡◌, ◌%◌, List, ◌∷◌, length, replicate, refl}
use Rattle.sha2.specs.Sha256.{sha256}
use Rattle.sha2.proofs.Facts256.{length-sha256}
use Rattle.test_extract.specs.declared.hashes.NamedHash.{NamedHash}
use Rattle.test_extract.specs.declared.hashes.NamedHash.TheVariants.{Zeros, Length, Sha256}

abbrev pub digest_of : NamedHash → List ℕ → List ℕ
digest_of Zeros bytes = replicate 32 0
digest_of Length bytes = length bytes % 256 ∷ replicate 31 0
digest_of Sha256 bytes = sha256 bytes

pub digest_sized : (hash : NamedHash) (bytes : List ℕ) → length (digest_of hash bytes) ≡ 32
digest_sized Zeros bytes = refl
digest_sized Length bytes = refl
digest_sized Sha256 bytes = length-sha256 bytes
