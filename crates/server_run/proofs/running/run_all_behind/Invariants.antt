use Rattle.spec_syntax.specs.Text.{statement_of}
use Rattle.law_server.proofs.Servers.{some_server}
use Rattle.server_thread.specs.Starts.{past_in}
use Rattle.server_run.proofs.running.run_all_behind.Given as goal

-- the database that is asked for, with the past that the cells have, of a server that reads by the grammar and hashes
-- with the hasher
abbrev pub ghosts-run_over : goal.ghosts-run_over
ghosts-run_over g a = record {
  database = record { server = (some_server (g.H.Hash32.digest a.hasher) statement_of).0; database = a.how.database.now; size = a.how.block_size; past = past_in a.cells.items };
}
