use Rattle.std.proofs.Common.{◌≡◌, map}
use Rattle.cli_commands.specs.Run.{cut_file}
use Rattle.cli_commands.proofs.saved.cut_files.Given as goal

abbrev pub invariant-loop-image : goal.invariant-loop-image
invariant-loop-image l = l.files ≡ map (cut_file l.fn.save) l.yielded
