use Rattle.format_digest.proofs.Texts.{file_is, file_back}
use Rattle.format_digest.proofs.writing.write_digests.Goals as goal

pub returns-clause-text : goal.returns-clause-text
returns-clause-text c = file_is c.args.list.now c.in_ok-values_of.field-0 c.in_ok-bytes.bytes.items c.in_ok-values_of.ensures c.in_ok-bytes.ensures.text

pub returns-clause-reads_back : goal.returns-clause-reads_back
returns-clause-reads_back c = file_back c.args.list.now c.in_ok-values_of.field-0 c.in_ok-bytes.bytes.items c.in_ok-values_of.ensures c.in_ok-bytes.ensures.utf8 c.in_ok-bytes.ensures.reads_back
