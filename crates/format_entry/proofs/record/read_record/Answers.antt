use Rattle.std.proofs.Common.{sym, ◌∙◌}
use Rattle.format_entry.proofs.RecordExact.{is_found, found_of, equal_records}
use Rattle.format_entry.proofs.record.read_record.Goals as goal

pub unwrap-requires : goal.unwrap-requires
unwrap-requires c = is_found c.args.bytes.now c.record_at.result c.told-bytes c.record_at.ensures

pub returns-clause-found : goal.returns-clause-found
returns-clause-found c = found_of c.args.bytes.now c.unwrap.result c.told-bytes c.fits-bytes (sym c.record_at.ensures ∙ c.unwrap.ensures)

pub returns-clause-only : goal.returns-clause-only
returns-clause-only c = λ b is same.
    let f = found_of c.args.bytes.now c.unwrap.result c.told-bytes c.fits-bytes (sym c.record_at.ensures ∙ c.unwrap.ensures) in
    equal_records c.unwrap.result b f.0 is (sym f.1 ∙ same)
