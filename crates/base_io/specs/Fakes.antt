-- What the fakes tell.
use Rattle.std.specs.Prelude.{ℕ, ◌-◌, List, Option, Some, Result, drop, length, min}
use Rattle.base_io.specs.Store.{Names}
use Rattle.base_io.specs.FaultSchedule.{FaultSchedule}
use Rattle.base_io.specs.Entries.{held_in}
use Rattle.base_io.specs.declared.answer_log.AnswerLog.{AnswerLog}
use Rattle.base_io.specs.declared.failed.Failed.{Failed}
use Rattle.base_io.specs.declared.vault.VaultErr.{VaultErr}
use Rattle.base_io.specs.declared.mem_source.MemSource.{MemSource}
use Rattle.base_io.specs.declared.mem_sink.MemSink.{MemSink}
use Rattle.base_io.specs.declared.mem_vault.MemVault.{MemVault}

-- the bytes that a source in memory has left
abbrev pub left_of : MemSource → Option (List ℕ)
left_of m = Some (drop m.at m.bytes.items)

-- the calls of a source in memory
abbrev pub source_fault_schedule : MemSource → FaultSchedule
source_fault_schedule m = m.fault_schedule

-- and what they have answered
abbrev pub source_answers : MemSource → AnswerLog (Result ℕ Failed)
source_answers m = m.answered

abbrev pub source_faults : MemSource → ℕ
source_faults m = m.fault_schedule.failed

-- how many bytes a read gives to a buffer with this room, if it doesn't fail
abbrev pub piece_of : MemSource → ℕ → ℕ
piece_of m room = min (min (length m.bytes.items - m.at) m.piece) room

-- the bytes that a sink in memory took
abbrev pub taken_of : MemSink → Option (List ℕ)
taken_of m = Some m.bytes.items

-- the calls of a sink in memory
abbrev pub sink_fault_schedule : MemSink → FaultSchedule
sink_fault_schedule m = m.fault_schedule

-- and what they have answered
abbrev pub sink_answers : MemSink → AnswerLog (Result ℕ Failed)
sink_answers m = m.answered

abbrev pub sink_faults : MemSink → ℕ
sink_faults m = m.fault_schedule.failed

abbrev pub sink_stalls : MemSink → ℕ
sink_stalls m = m.stalls

-- how many bytes a sink in memory takes at most at a call
abbrev pub sink_piece : MemSink → ℕ
sink_piece m = m.piece

-- what a vault in memory has under each name
abbrev pub names_of : MemVault → Option Names
names_of m = Some (held_in m.entries.items)

-- the calls of a vault in memory
abbrev pub vault_fault_schedule : MemVault → FaultSchedule
vault_fault_schedule m = m.fault_schedule

-- and what they have answered
abbrev pub vault_answers : MemVault → AnswerLog (Result (Unit {0}) VaultErr)
vault_answers m = m.answered

abbrev pub vault_faults : MemVault → ℕ
vault_faults m = m.fault_schedule.failed
