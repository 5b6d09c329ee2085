use Rattle.sql_types.specs.declared.journal.TheConstants.{JOURNAL_VERSION}
use Rattle.sql_types.specs.declared.statement.Stmt.TheVariants as stmt
use Rattle.law_digests.proofs.Words.{digest_bytes}
use Rattle.law_digests.proofs.laws.digest_statements_have_their_length.Goals as goal

pub returns : goal.returns
returns c = λ text is. digest_bytes text (c.versions_keep_to_the_grammar.ensures.sound JOURNAL_VERSION text stmt.Digest is)
