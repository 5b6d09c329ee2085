-- The help on each command, and the version.
use Rattle.std.specs.Prelude.{ℕ, List, [], ◌++◌, codes, Option, Some, None}
use Rattle.cli_words.specs.declared.build.TheConstants.{BUILD}
use Rattle.cli_words.specs.declared.help.TheConstants.{VERSION, LOGIC, HELP, STEP_HELP, RUN_HELP, VERIFY_HELP, EXTRACT_HELP, REPLAY_HELP, UPGRADE_HELP, GEN_HELP, RECEIPT_HELP, JOIN_HELP, CHECK_HELP, ASOF_HELP}
use Rattle.cli_words.specs.declared.subcommand.Subcommand.{Subcommand}
use Rattle.cli_words.specs.declared.subcommand.Subcommand.TheVariants.{Step, Run, Verify, Extract, Replay, Upgrade, Gen, Receipt, Join, Check, AsOf}

-- the text on a command, or on all
abbrev pub help_of : Option Subcommand → List ℕ
help_of None = HELP.now
help_of (Some Step) = STEP_HELP.now
help_of (Some Run) = RUN_HELP.now
help_of (Some Verify) = VERIFY_HELP.now
help_of (Some Extract) = EXTRACT_HELP.now
help_of (Some Replay) = REPLAY_HELP.now
help_of (Some Upgrade) = UPGRADE_HELP.now
help_of (Some Gen) = GEN_HELP.now
help_of (Some Receipt) = RECEIPT_HELP.now
help_of (Some Join) = JOIN_HELP.now
help_of (Some Check) = CHECK_HELP.now
help_of (Some AsOf) = ASOF_HELP.now

-- the line of the version, as `ledgerd 0.1.0 (proved, logic dac8208d650f15bf)`
abbrev pub version_line : List ℕ
version_line = VERSION.now ++ codes " (" ++ BUILD.now ++ codes ", logic " ++ LOGIC.now ++ codes ")\n"
