use Rattle.std.specs.Prelude.{[], ◌∷◌}
use Rattle.format_image.specs.Image.{image_of}
use Rattle.law_accepts.proofs.Blocks.{digests_hold, chain_holds}
use Rattle.law_accepts.proofs.Sizes.{blocks_hold}
use Rattle.audit_receipt.proofs.Made.{made_accepted, digest_holds_of}
use Rattle.law_receipt.proofs.laws.receipts_of_legal_journals_are_accepted.Goals as goal

pub returns : goal.returns
returns c = λ h reads database items d k e legal is held at le.
    made_accepted h (image_of h reads database items) is (chain_holds h reads database items) (blocks_hold h reads database items legal) d k e
    (digest_holds_of h (image_of h reads database items) d (digests_hold h reads database items (d ∷ []) (held, tt))) at le
