-- The types of the code, as the definitions see them.
use Rattle.std.specs.Option.{option_copied}
use Rattle.cli_words.specs.Commands.{Settings, Command, Step, Run, Verify, Extract, Replay, Upgrade, Gen, Receipt, Join, Check, AsOf, Help, Version}
use Rattle.server_result.specs.declared.settings.Settings as code
use Rattle.cli_words.specs.declared.command.Command as coded
use Rattle.cli_words.specs.declared.command.Command.TheVariants as words

abbrev pub settings_view : code.Settings → Settings
settings_view s = record { block_size = s.block_size; clock = s.clock; database = s.database.now }

abbrev pub command_view : coded.Command → Command
command_view (words.Step save journal settings) = Step save.now (option_copied journal) (settings_view settings)
command_view (words.Run save journal settings) = Run save.now (option_copied journal) (settings_view settings)
command_view (words.Verify image digests workers covers) = Verify image.now (option_copied digests) workers covers
command_view (words.Extract honest suspect digests) = Extract honest.now suspect.now digests.now
command_view (words.Replay journal save) = Replay journal.now save.now
command_view (words.Upgrade image save) = Upgrade image.now save.now
command_view (words.Gen count) = Gen count
command_view (words.Receipt image digests tx part save) = Receipt image.now digests.now tx part save.now
command_view (words.Join image digests save) = Join image.now digests.now save.now
command_view (words.Check receipt digests) = Check receipt.now digests.now
command_view (words.AsOf image n digests) = AsOf image.now n (option_copied digests)
command_view (words.Help which) = Help which
command_view words.Version = Version
