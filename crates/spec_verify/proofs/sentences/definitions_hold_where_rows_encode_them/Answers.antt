use Rattle.spec_verify.proofs.EncodedSo.{spelled_exactly}
use Rattle.spec_verify.proofs.sentences.definitions_hold_where_rows_encode_them.Goals as goal

pub returns : goal.returns
returns c = spelled_exactly
