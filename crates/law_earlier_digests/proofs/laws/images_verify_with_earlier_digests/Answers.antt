use Rattle.spec_syntax.specs.Text.{statement_of}
use Rattle.law_earlier_digests.proofs.Earlier.{all_held}
use Rattle.law_earlier_digests.proofs.laws.images_verify_with_earlier_digests.Goals as goal

pub returns : goal.returns
returns c =
    let verify = c.images_of_legal_journals_verify.ensures in
    let holds = c.digests_are_held_where_their_blocks_are_closed.ensures in
    record {
      spelled = λ h q hashes j m digests legal are spelled.
          verify.parsed h j m _ legal (all_held h q j.database j.items m (λ d is below. holds.agreed h statement_of q j.database j.items m d hashes is below) digests are) spelled;
      room = λ h q hashes j m digests legal are room.
          verify.whole h j m _ legal room (all_held h q j.database j.items m (λ d is below. holds.agreed h statement_of q j.database j.items m d hashes is below) digests are);
    }
