-- A small image has a spelling.
use Rattle.std.proofs.Common.{◌≡◌, ◌∙◌, ℕ, refl, arith, true, List, [], ◌∷◌, codes, None, inr}
use Rattle.std.proofs.lemmas.Bool.Decides.{nat_tests}
use Rattle.std.proofs.lemmas.Str.{IsUtf8-from_ascii, is_utf8-from_IsUtf8}
use Rattle.std.proofs.lemmas.Str.Ascii.{IsAscii-nil, IsAscii-cons}
use Rattle.std.specs.Fmt.{digits}
use Rattle.std.specs.Prelude.{nat_lt}
use Rattle.std.specs.List.{AllByRecursion, list_all}
use Rattle.std.specs.Str.{chars, is_utf8, IsAscii}
use Rattle.base_types.specs.DatabaseName.{is_database_name}
use Rattle.base_types.specs.SessionName.{is_session_name}
use Rattle.base_fields.specs.Fields.{u32_field}
use Rattle.sql_value.specs.Stored.{is_in_range, is_stored}
use Rattle.sql_value.specs.Text.{utf16_units}
use Rattle.format_image.specs.TypedBytes.{IsTyped}
use Rattle.spec_model.specs.Create.{table_def}
use Rattle.spec_model.specs.Events.{events_of}
use Rattle.spec_model.specs.SystemTables.{name_type, tables_def, columns_def, table_row}
use Rattle.format_image.specs.Blocks.{block_of}
use Rattle.format_image.specs.Entries.{roots_of}
use Rattle.format_image.specs.DefBytes.{IsDef}
use Rattle.format_image.specs.ImageBytes.{image_bytes, image_bytes_1, IsPlaceless, IsImage, NothingGone}
use Rattle.format_image.specs.RowBytes.{IsTable}
use Rattle.spec_verify.specs.Bytes.{verdict_of}
use Rattle.spec_verify.specs.declared.place.Verdict.TheVariants.{Yes}
use Rattle.spec_verify.specs.Samples.{summed, def_iv, of_tables, of_columns, rows_t, index_t, honest, digest_of}
use Rattle.sql_value.specs.declared.sql_type.SqlType.{SqlType}
use Rattle.sql_value.specs.declared.sql_type.SqlType.TheVariants.{Int, Bit}
use Rattle.sql_value.specs.declared.value.Value.TheVariants.{Text}
use Rattle.test_samples.specs.Samples.{num, version}
use Rattle.spec_verify.proofs.SameRows.{front, rest}
use Rattle.spec_verify.proofs.Judged.{of_spelling, of_image}
use Rattle.spec_verify.proofs.Worked.{holds}

def_is : IsDef def_iv
unfolding table_def is_in_range
def_is =
    record {
      id = omega arith;
      name = refl;
      history = refl;
      view = refl;
      column_count = omega arith;
      columns = (record { name = refl; ty = refl; key_position = omega arith }, (record { name = refl; ty = refl; key_position = omega arith }, tt));
      dropped = refl;
      index_count = omega arith;
      indexes = (record { name = refl; count = omega arith; ordinals = (omega arith, tt) }, tt);
    }

-- texts of ASCII are UTF-8
ascii : (bytes : List ℕ) → list_all (λ b. nat_lt b 128) bytes ≡ true → IsAscii bytes
ascii [] e = IsAscii-nil
ascii (b ∷ bytes) e =
    let low : nat_lt b 128 ≡ true = front (nat_lt b 128) (list_all (λ c. nat_lt c 128) bytes) e in
    IsAscii-cons b bytes (grind (arith, nat_tests, low)) (ascii bytes (rest (nat_lt b 128) (list_all (λ c. nat_lt c 128) bytes) e))

is_text : (bytes : List ℕ) → list_all (λ b. nat_lt b 128) bytes ≡ true → is_utf8 bytes ≡ true
is_text bytes e = is_utf8-from_IsUtf8 bytes (IsUtf8-from_ascii bytes (ascii bytes e))

number_is : (ty : SqlType) (n : ℕ) → is_stored (num n) ty ≡ true → IsTyped (record { ty = ty; value = num n })
number_is ty n e = record { told = refl; stored = e; text = refl }

text_is : (ty : SqlType) (text : List ℕ) → is_stored (Text text) ty ≡ true → list_all (λ b. nat_lt b 128) text ≡ true → IsTyped (record { ty = ty; value = Text text })
text_is ty text e f = record { told = refl; stored = e; text = is_text text f }

tables_are : IsTable tables_def of_tables
unfolding table_def table_row is_in_range is_stored utf16_units chars digits
tables_are =
    record {
      base = (
        (
          omega arith,
          (
            record {
              start = (omega arith, omega arith);
              end = refl;
              values = (
                omega arith,
                (
                  number_is Int 3 refl,
                  (number_is Int 0 refl, (text_is name_type def_iv.name refl refl, (number_is Int 2 refl, (text_is name_type def_iv.history refl refl, (text_is name_type def_iv.view refl refl, tt))))),
                ),
              );
            },
            tt,
          ),
        ),
        refl,
      );
      history = ((omega arith, tt), refl);
      indexes = tt;
    }

entries_are : AllByRecursion IsPlaceless honest.entries
unfolding is_session_name roots_of events_of table_def u32_field
entries_are = (
  record { id = refl; time = refl; principal = refl; count = omega arith; roots = ((omega arith, refl), ((omega arith, refl), tt)); rise = refl },
  (
    record { id = refl; time = refl; principal = refl; count = omega arith; roots = ((omega arith, refl), tt); rise = refl },
    (record { id = refl; time = refl; principal = refl; count = omega arith; roots = ((omega arith, refl), tt); rise = refl }, tt),
  ),
)

columns_are : IsTable columns_def of_columns
unfolding is_in_range is_stored utf16_units chars
columns_are =
    record {
      base = (
        (
          omega arith,
          (
            record { start = (omega arith, omega arith); end = refl; values = (omega arith, (number_is Int 3 refl, (number_is Int 1 refl, (number_is Int 0 refl, (text_is name_type (codes "id") refl refl, (number_is Int 2 refl, (number_is Int 0 refl, (number_is Int 0 refl, (number_is Bit 0 refl, (number_is Int 1 refl, tt)))))))))) },
            (
              record { start = (omega arith, omega arith); end = refl; values = (omega arith, (number_is Int 3 refl, (number_is Int 2 refl, (number_is Int 0 refl, (text_is name_type (codes "v") refl refl, (number_is Int 2 refl, (number_is Int 0 refl, (number_is Int 0 refl, (number_is Bit 1 refl, (number_is Int 0 refl, tt)))))))))) },
              (record { start = (omega arith, omega arith); end = refl; values = (omega arith, (number_is Int 3 refl, (number_is Int 1001 refl, (number_is Int 0 refl, (text_is name_type (codes "iv") refl refl, (number_is Int 0 refl, (number_is Int 0 refl, (number_is Int 0 refl, (number_is Bit 0 refl, (number_is Int 2 refl, tt)))))))))) }, tt),
            ),
          ),
        ),
        refl,
      );
      history = ((omega arith, tt), refl);
      indexes = tt;
    }

rows_are : IsTable def_iv (rows_t (version 1 10 (3, 0) None ∷ []) [] (index_t 1 10 ∷ []))
unfolding table_def is_in_range is_stored
rows_are =
    record {
      base = ((omega arith, (record { start = (omega arith, omega arith); end = refl; values = (omega arith, (number_is Int 1 refl, (number_is Int 10 refl, tt))) }, tt)), refl);
      history = ((omega arith, tt), refl);
      indexes = ((omega arith, ((omega arith, (number_is Int 10 refl, (number_is Int 1 refl, tt))), tt)), tt);
    }

pub honest_is : IsImage honest
unfolding is_database_name roots_of events_of block_of table_def u32_field
honest_is =
    record {
      database = refl;
      block_count = omega arith;
      blocks = (record { id = omega arith; root = refl; size = omega arith; previous = refl }, tt);
      entry_count = omega arith;
      entries = entries_are;
      places = refl;
      def_count = omega arith;
      defs = (def_is, tt);
      ids = refl;
      tables = (tables_are, (columns_are, (rows_are, tt)));
    }

pub nothing_gone : NothingGone honest
unfolding table_def
nothing_gone = (record { gone = refl; dropped = refl }, tt)

pub holds_in_bytes : verdict_of summed (digest_of honest ∷ []) (image_bytes honest) ≡ Yes
holds_in_bytes = of_image summed (digest_of honest ∷ []) honest honest_is ∙ holds.0

pub holds_in_bytes_1 : verdict_of summed (digest_of honest ∷ []) (image_bytes_1 honest) ≡ Yes
holds_in_bytes_1 = of_spelling summed (digest_of honest ∷ []) (image_bytes_1 honest) honest honest_is (inr (nothing_gone, refl)) ∙ holds.0
