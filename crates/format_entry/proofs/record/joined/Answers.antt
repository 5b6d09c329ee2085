use Rattle.std.proofs.Common.{refl}
use Rattle.format_entry.proofs.RecordExact.{behind}
use Rattle.format_entry.proofs.record.joined.Goals as goal

pub returns : goal.returns
returns c =
    rw (c.copy_from_slice.ensures.after, c.copy_from_slice-2.ensures.after) (behind c.args.front.now _ c.args.back.now c.told-front refl)
