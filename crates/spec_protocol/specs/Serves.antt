-- The server that reads by one grammar and hashes with one hash.
use Rattle.std.specs.Prelude.{ℕ, ◌≡◌, List}
use Rattle.spec_model.specs.Script.{Reading}
use Rattle.spec_protocol.specs.Server.{Server}

-- it reads texts by this grammar and hashes bytes with this hash
pub record Serves (h : List ℕ → List ℕ) (reads : Reading) (v : Server) : Type 0 where
  pub reading : v.reads ≡ reads
  pub hash : v.hash ≡ h
