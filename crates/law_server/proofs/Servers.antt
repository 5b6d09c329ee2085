-- There is a server that reads and hashes so.
use Rattle.std.proofs.Common.{refl, List, ℕ}
use Rattle.spec_model.specs.Script.{Reading}
use Rattle.spec_history.proofs.Real.{real, is_real}
use Rattle.law_blocks.proofs.Staying.{hashing}
use Rattle.spec_protocol.specs.Server.{Server}
use Rattle.spec_protocol.specs.Serves.{Serves}

server : (List ℕ → List ℕ) → Reading → Server
unfolding hashing
server h reads = record {
  reads = reads;
  hash = h;
  hashing = hashing h reads;
  hashes = λ J b. refl;
  meaning = real reads (hashing h reads);
  real = is_real reads (hashing h reads);
}

pub some_server : (h : List ℕ → List ℕ) (reads : Reading) → (v : Server) × Serves h reads v
unfolding server hashing
some_server h reads = (server h reads, record { reading = refl; hash = refl })
