use Rattle.std.proofs.Common.{refl}
use Rattle.sha2.specs.Sha256.{digest_bytes}
use Rattle.base_sha256.proofs.hashing.bytes_of_state.Goals as goal

pub returns : goal.returns
unfolding digest_bytes
returns c = λ h e. rw (c.bytes_of_words.ensures, c.bytes_of_words-2.ensures, c.bytes_of_words-3.ensures, c.bytes_of_words-4.ensures, e) refl
