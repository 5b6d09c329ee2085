use Rattle.sql_types.specs.declared.journal.TheConstants.{JOURNAL_VERSION}
use Rattle.law_sequential.specs.SessionOutput.{IsImageOf}
use Rattle.spec_history.specs.Lists.{Each}
use Rattle.spec_history.proofs.Trace.{each_weaker}
use Rattle.spec_syntax.specs.Text.{statement_of}
use Rattle.spec_protocol.specs.Seats.{KeptImage}
use Rattle.std.specs.Prelude.{List, length}
use Rattle.law_kept_images.specs.Accepted.{IsAccepted, IsAcceptedIfEncodable}
use Rattle.law_kept_images.proofs.Accepts.{accepted, all_closed, whole_accepted}
use Rattle.law_kept_images.proofs.laws.kept_images_are_accepted.Goals as goal

pub returns : goal.returns
returns c =
    let verify = c.images_of_legal_journals_verify.ensures in
    let holds = c.digests_are_held_where_their_blocks_are_closed.ensures in
    record {
      spelled = λ h database size names lines X images J G run legal.
          each_weaker (λ (ks : List KeptImage). Each (IsImageOf h statement_of database J) ks) (λ ks. Each (IsAcceptedIfEncodable h database J G) ks)
          (λ ks. each_weaker (IsImageOf h statement_of database J) (IsAcceptedIfEncodable h database J G)
          (λ k is spelled. accepted h database size names lines X images J G run (λ q m d hashes is_digest below. holds.agreed h statement_of q database J m d hashes is_digest below) k is
          (λ digests held. verify.parsed h (record { version = JOURNAL_VERSION; database = database; items = J }) k.0 digests legal held spelled)) ks) images run.are_images;
      room = λ h database size names lines X images J G run legal room.
          each_weaker (λ (ks : List KeptImage). Each (IsImageOf h statement_of database J) ks) (λ ks. Each (IsAccepted h database J G) ks)
          (λ ks. each_weaker (IsImageOf h statement_of database J) (IsAccepted h database J G)
          (λ k is. accepted h database size names lines X images J G run (λ q m d hashes is_digest below. holds.agreed h statement_of q database J m d hashes is_digest below) k is
          (λ digests held. verify.whole h (record { version = JOURNAL_VERSION; database = database; items = J }) k.0 digests legal room held)) ks) images run.are_images;
      whole = λ h database size names lines X images J G run legal room. whole_accepted h database size names lines X images J G run (λ q m d hashes is_digest below. holds.agreed h statement_of q database J m d hashes is_digest below)
          (λ digests held. verify.whole h (record { version = JOURNAL_VERSION; database = database; items = J }) (length J) digests legal room held);
      all = λ h database size names lines X images J G run legal room. whole_accepted h database size names lines X images J G run (λ q m d hashes is_digest below. holds.agreed h statement_of q database J m d hashes is_digest below)
          (λ digests held. verify.whole h (record { version = JOURNAL_VERSION; database = database; items = J }) (length J) digests legal room held) G (all_closed h database size names lines X images J G run);
    }
