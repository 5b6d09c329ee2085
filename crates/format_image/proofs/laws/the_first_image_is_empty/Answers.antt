use Rattle.std.proofs.Common.{refl}
use Rattle.base_fields.specs.Fields.{u16_field, u32_field, u64_field}
use Rattle.spec_model.specs.Journals.{serial_from}
use Rattle.spec_model.specs.SystemTables.{first_tables}
use Rattle.spec_ledger.specs.Ledger.{ledger_from}
use Rattle.format_image.specs.Image.{image_of}
use Rattle.format_image.specs.ImageBytes.{image_bytes, image_bytes_1}
use Rattle.format_image.specs.Rows.{table_rows}
use Rattle.format_image.proofs.laws.the_first_image_is_empty.Goals as goal

pub returns : goal.returns
unfolding image_bytes image_bytes_1 image_of serial_from first_tables ledger_from table_rows u16_field u32_field u64_field
returns c = record { second = λ h reads. refl; first = λ h reads. refl }
