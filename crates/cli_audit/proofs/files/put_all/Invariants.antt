use Rattle.std.proofs.Common.{◌≡◌}
use Rattle.std.specs.List.{All}
use Rattle.base_io.specs.History.{Since}
use Rattle.cli_audit.specs.Calls.{KeptFile}
use Rattle.cli_audit.specs.Files.{FirstArePut}
use Rattle.cli_audit.proofs.files.put_all.Given as goal

-- the files so far stand
abbrev pub invariant-loop-file : goal.invariant-loop-file
invariant-loop-file g l =
    FirstArePut l.files l.file-index (g.V.Vault.names l.initial.vault) (g.V.Vault.names l.vault)
    × (g.V.Vault.faults l.vault ≡ g.V.Vault.faults l.initial.vault)
    × Since (g.V.Vault.history l.initial.vault) (g.V.Vault.history l.vault) (All KeptFile)
