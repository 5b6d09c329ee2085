-- What the adapters over the machine count, and what the system said last.
use Rattle.std.specs.Prelude.{ℕ, Option}
use Rattle.std.specs.declared.io.Error.{Error}
use Rattle.base_io.specs.declared.stdin_source.StdinSource.{StdinSource}
use Rattle.base_io.specs.declared.stdout_sink.StdoutSink.{StdoutSink}
use Rattle.base_io.specs.declared.folder_vault.FolderVault.{FolderVault}
use Rattle.base_io.specs.declared.folder_vault.FileFailure.{FileFailure}

-- how often a reader has failed
abbrev pub reader_faults : {R : Type 0} → StdinSource R → ℕ
reader_faults s = s.failed

-- what the system said when a reader failed last
abbrev pub reader_failure : {R : Type 0} → StdinSource R → Option Error
reader_failure s = s.failure

-- how often a writer has failed
abbrev pub writer_faults : {W : Type 0} → StdoutSink W → ℕ
writer_faults s = s.failed

-- how often a writer took nothing of a piece that has bytes
abbrev pub writer_stalls : {W : Type 0} → StdoutSink W → ℕ
writer_stalls s = s.stalled

-- what the system said when a writer failed last
abbrev pub writer_failure : {W : Type 0} → StdoutSink W → Option Error
writer_failure s = s.failure

-- how often the files have failed; the two further types are those of the runtime's files and folders
abbrev pub folder_faults : {R File Dir : Type 0} → FolderVault R File Dir → ℕ
folder_faults v = v.failed

-- what failed last, and what the system said
abbrev pub folder_failure : {R File Dir : Type 0} → FolderVault R File Dir → Option FileFailure
folder_failure v = v.failure
