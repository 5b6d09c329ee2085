use Rattle.std.specs.Prelude.{List, length}
use Rattle.spec_history.specs.Lists.{Each}
use Rattle.spec_history.proofs.Trace.{each_weaker}
use Rattle.spec_syntax.specs.Text.{statement_of}
use Rattle.spec_protocol.specs.Seats.{KeptImage}
use Rattle.law_kept_images.specs.AcceptedBehind.{IsAcceptedBehind, IsAcceptedBehindIfEncodable}
use Rattle.law_kept_images.specs.LastImage.{journal_of}
use Rattle.law_kept_images.proofs.Accepts.{Held}
use Rattle.law_kept_images.proofs.WithPast.{IsWhole, accepted, all_accepted, are_whole, whole_accepted}
use Rattle.law_kept_images.proofs.behind.kept_images_behind_a_past_are_accepted.Goals as goal

pub returns : goal.returns
returns c =
    let verify = c.images_of_legal_journals_verify.ensures in
    let held_there = c.digests_are_held_where_their_blocks_are_closed.ensures.agreed in
    record {
      spelled = λ h database size past names lines X images J G run legal.
          let holds : Held h database J = λ q m d hashes is below. held_there h statement_of q database J m d hashes is below in
          each_weaker (λ (ks : List KeptImage). Each (IsWhole h database past J) ks) (λ ks. Each (IsAcceptedBehindIfEncodable h database past J G) ks)
          (λ ks. each_weaker (IsWhole h database past J) (IsAcceptedBehindIfEncodable h database past J G)
          (λ k is spelled. accepted h database size past names lines X images J G run holds k is
          (λ digests held. verify.parsed h (journal_of database J) k.0 digests legal held spelled)) ks) images (are_whole h database size past names lines X images J G run);
      room = λ h database size past names lines X images J G run legal room.
          let holds : Held h database J = λ q m d hashes is below. held_there h statement_of q database J m d hashes is below in
          each_weaker (λ (ks : List KeptImage). Each (IsWhole h database past J) ks) (λ ks. Each (IsAcceptedBehind h database past J G) ks)
          (λ ks. each_weaker (IsWhole h database past J) (IsAcceptedBehind h database past J G)
          (λ k is. accepted h database size past names lines X images J G run holds k is
          (λ digests held. verify.whole h (journal_of database J) k.0 digests legal room held)) ks) images (are_whole h database size past names lines X images J G run);
      whole = λ h database size past names lines X images J G run legal room.
          whole_accepted h database size past names lines X images J G run (λ q m d hashes is below. held_there h statement_of q database J m d hashes is below)
          (λ digests held. verify.whole h (journal_of database J) (length J) digests legal room held);
      all = λ h database size past names lines X images J G run legal room.
          all_accepted h database size past names lines X images J G run (λ q m d hashes is below. held_there h statement_of q database J m d hashes is below)
          (λ digests held. verify.whole h (journal_of database J) (length J) digests legal room held);
    }
