use Rattle.base_sha256.proofs.Together.{all_four}
use Rattle.base_sha256.proofs.hashing.digest_three.Goals as goal

pub digest_together-requires : goal.digest_together-requires
digest_together-requires c = all_four _ _ _ _ _ c.requires.first c.requires.second c.requires.third c.requires.third
