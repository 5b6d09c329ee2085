-- Some database of a server.
use Rattle.std.proofs.Common.{refl, ℕ, List, []}
use Rattle.std.specs.Prelude.{None}
use Rattle.spec_model.specs.Script.{Reading}
use Rattle.spec_history.proofs.Real.{real, is_real}
use Rattle.law_blocks.proofs.Staying.{hashing}
use Rattle.spec_protocol.specs.Server.{Server}
use Rattle.law_behind.specs.Past.{no_past}
use Rattle.server_board.specs.ServedDatabase.{ServedDatabase}

some_server : (List ℕ → List ℕ) → Reading → Server
unfolding hashing
some_server h reads = record {
  reads = reads;
  hash = h;
  hashing = hashing h reads;
  hashes = λ J b. refl;
  meaning = real reads (hashing h reads);
  real = is_real reads (hashing h reads);
}

-- which reads nothing and hashes all to nothing
pub some_database : ServedDatabase
some_database = record { server = some_server (λ bytes. []) (λ text. None); database = []; size = 1; past = no_past }
