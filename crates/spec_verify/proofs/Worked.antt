-- Small images, worked out.
use Rattle.std.proofs.Common.{◌≡◌, ◌≢◌, ℕ, refl, sym, ap, ◌∙◌, arith, List, [], ◌∷◌, ◌++◌, map, pos, codes, None}
use Rattle.std.specs.Prelude.{flat_map}
use Rattle.std.specs.Fmt.{digits}
use Rattle.std.specs.Str.{chars}
use Rattle.base_fields.specs.Fields.{u16_field, u32_field, u64_field, signed_field, i128_field}
use Rattle.sql_value.specs.Number.{raised}
use Rattle.sql_value.specs.Order.{value_cmp}
use Rattle.sql_value.specs.Stored.{is_in_range, is_stored}
use Rattle.sql_value.specs.Text.{utf16_units}
use Rattle.sql_value.specs.Conversion.{conversion_of}
use Rattle.format_image.specs.Leaf.{event_bytes}
use Rattle.format_entry.specs.Entry.{entry_bytes}
use Rattle.format_entry.specs.Record.{record_bytes}
use Rattle.spec_model.specs.Catalog.{find_part}
use Rattle.spec_model.specs.Changes.{changed_all, kept, kept_row, arranged, is_duplicate, inserted_rows, row_changes}
use Rattle.spec_model.specs.Checks.{insert_check, values_check, listed_check, row_statement_check}
use Rattle.spec_model.specs.Create.{table_def, create_check, index_check}
use Rattle.spec_model.specs.Effect.{effect}
use Rattle.spec_model.specs.Events.{events_of, all_events}
use Rattle.spec_model.specs.Journals.{serial_from}
use Rattle.spec_model.specs.Keys.{key_places, key_cmp, same_key, live_by_key_at, has_live_row_at, key_at}
use Rattle.spec_model.specs.Rows.{started, ended}
use Rattle.spec_model.specs.Script.{saves, rolls_back_to, text_step, script_from}
use Rattle.spec_model.specs.SystemTables.{first_tables, table_row, column_rows, index_rows}
use Rattle.law_catalog_rows.specs.Encoded.{item_rows, latest_table_row, latest_item_rows}
use Rattle.law_catalog_rows.specs.Differs.{encoding_fault}
use Rattle.format_image.specs.Entries.{roots_of}
use Rattle.format_image.specs.Blocks.{no_hash, block_of}
use Rattle.format_image.specs.Ledger.{ledger_from}
use Rattle.format_image.specs.Rows as rows
use Rattle.format_image.specs.Rows.{index_ordinals, stored_cmp, table_rows}
use Rattle.format_image.specs.Image.{image_of}
use Rattle.spec_verify.specs.Blocks.{digest_fault, chain_fault, block_fault}
use Rattle.spec_verify.specs.Entries.{id_fault, root_fault}
use Rattle.spec_verify.specs.Versions.{version_fault}
use Rattle.spec_verify.specs.Definitions.{definition_fault}
use Rattle.spec_rules.specs.OneStatement.{one_statement}
use Rattle.spec_rules.specs.Tables.{tables_are_right}
use Rattle.spec_rules.specs.Columns.{columns_are_right}
use Rattle.spec_rules.specs.OrderOfChanges.{changes_are_in_order}
use Rattle.spec_rules.specs.ColumnNames.{column_names_are_new}
use Rattle.spec_rules.specs.Indexes.{indexes_are_in_time}
use Rattle.spec_rules.specs.Ids.{ids_follow}
use Rattle.spec_rules.specs.TableNames.{table_names_are_new}
use Rattle.spec_rules.specs.WhileTheTableIsThere.{is_while_the_table_is_there}
use Rattle.spec_verify.specs.Rules.{catalog_fault, row_fault, table_rule_fault, version_rule_fault}
use Rattle.spec_verify.specs.Indexes.{index_fault}
use Rattle.spec_verify.specs.Verdict.{image_verdict}
use Rattle.test_samples.specs.Samples.{read_in, typed}
use Rattle.spec_verify.specs.declared.place.Invariant.TheVariants.{V1, V2, V3, V4, V5, V6, V7, V8}
use Rattle.spec_verify.specs.declared.place.Place.TheVariants as at
use Rattle.spec_verify.specs.declared.place.Verdict.TheVariants.{Yes, No}
use Rattle.sql_value.specs.declared.value.Value.{Value}
use Rattle.sql_value.specs.declared.value.Value.TheVariants.{Num}
use Rattle.sql_value.specs.declared.sql_type.SqlType.TheVariants.{BigInt}
use Rattle.sql_types.specs.declared.event.Event.{Event}
use Rattle.sql_types.specs.declared.event.EventField.{EventField}
use Rattle.spec_verify.specs.Covered.{CoveredEntry, covered_of}
use Rattle.spec_verify.specs.Samples.{summed, honest, digest_of, statements, items, with_rows_of, with_blocks, two_blocks, one_pending, ids_fall, older_block, index_left, key_twice, ended_early, misnamed, id_again, of_nobody, misnumbered, of_another, root_more, rootless, with_values, typed_as, appended_and_ended, two_rows, index_t, start_t}

pub honest_image : image_of summed (read_in statements) (codes "d") items ≡ honest
unfolding image_of serial_from ledger_from script_from text_step saves rolls_back_to effect create_check index_check table_def row_statement_check insert_check values_check listed_check row_changes inserted_rows is_duplicate arranged kept kept_row changed_all find_part chars key_places key_at key_cmp same_key has_live_row_at live_by_key_at started ended first_tables table_row column_rows index_rows value_cmp raised is_in_range is_stored utf16_units conversion_of digits events_of all_events roots_of block_of event_bytes entry_bytes record_bytes table_rows rows.index_rows index_ordinals stored_cmp u16_field u32_field u64_field signed_field i128_field
honest_image = refl

pub holds :
    (image_verdict summed honest (digest_of honest ∷ []) ≡ Yes)
    × (image_verdict summed two_blocks (digest_of two_blocks ∷ []) ≡ Yes)
    × (image_verdict summed one_pending (digest_of one_pending ∷ []) ≡ Yes)
    × (image_verdict summed ids_fall (digest_of ids_fall ∷ []) ≡ Yes)
unfolding image_verdict digest_fault chain_fault block_fault id_fault root_fault version_fault definition_fault index_fault row_fault catalog_fault version_rule_fault table_rule_fault one_statement tables_are_right columns_are_right changes_are_in_order column_names_are_new indexes_are_in_time ids_follow table_names_are_new is_while_the_table_is_there roots_of block_of events_of all_events event_bytes entry_bytes record_bytes key_places key_at key_cmp same_key value_cmp raised is_in_range is_stored utf16_units chars table_row column_rows index_rows item_rows latest_table_row latest_item_rows encoding_fault rows.index_rows index_ordinals stored_cmp u16_field u32_field u64_field signed_field i128_field
holds = (refl, refl, refl, refl)

pub damage :
    (image_verdict summed (with_rows_of honest index_left) (digest_of honest ∷ []) ≡ No V5 (at.Root 3 3))
    × (image_verdict summed index_left (digest_of index_left ∷ []) ≡ No V8 (at.Index 3 1))
    × (image_verdict summed key_twice (digest_of key_twice ∷ []) ≡ No V6 (at.Event 3 4 0))
    × (image_verdict summed ended_early (digest_of ended_early ∷ []) ≡ No V6 (at.Event 3 4 0))
    × (image_verdict summed misnamed (digest_of misnamed ∷ []) ≡ No V7 (at.Table (pos 3)))
    × (image_verdict summed id_again (digest_of id_again ∷ []) ≡ No V4 (at.Entry 3))
    × (image_verdict summed of_nobody (digest_of of_nobody ∷ []) ≡ No V4 (at.Event 3 98 5))
    × (image_verdict summed misnumbered (digest_of misnumbered ∷ []) ≡ No V5 (at.Numbers 3))
    × (image_verdict summed (with_blocks (block_of summed 1 honest.entries no_hash ∷ [])) [] ≡ No V2 (at.Block 0))
    × (image_verdict summed (with_blocks (block_of summed 0 [] no_hash ∷ [])) [] ≡ No V3 (at.Block 0))
    × (image_verdict summed older_block (digest_of older_block ∷ []) ≡ No V3 (at.Block 0))
    × (image_verdict summed honest (digest_of honest ∷ digest_of index_left ∷ []) ≡ No V1 (at.Digest 1))
unfolding image_verdict digest_fault chain_fault block_fault id_fault root_fault version_fault definition_fault index_fault row_fault catalog_fault version_rule_fault table_rule_fault one_statement tables_are_right columns_are_right changes_are_in_order column_names_are_new indexes_are_in_time ids_follow table_names_are_new is_while_the_table_is_there roots_of block_of events_of all_events event_bytes entry_bytes record_bytes key_places key_at key_cmp same_key value_cmp raised is_in_range is_stored utf16_units chars table_row column_rows index_rows item_rows latest_table_row latest_item_rows encoding_fault rows.index_rows index_ordinals stored_cmp u16_field u32_field u64_field signed_field i128_field
damage = (refl, refl, refl, refl, refl, refl, refl, refl, refl, refl, refl, refl)

pub others :
    (image_verdict summed honest (of_another (digest_of honest) ∷ []) ≡ No V1 (at.Digest 0))
    × (let image = root_more ((9, no_hash) ∷ []) in image_verdict summed image (digest_of image ∷ []) ≡ No V5 (at.Root 3 9))
    × (image_verdict summed rootless (digest_of rootless ∷ []) ≡ No V5 (at.Root 1 2))
unfolding image_verdict digest_fault chain_fault block_fault id_fault root_fault version_fault definition_fault index_fault row_fault catalog_fault version_rule_fault table_rule_fault one_statement tables_are_right columns_are_right changes_are_in_order column_names_are_new indexes_are_in_time ids_follow table_names_are_new is_while_the_table_is_there roots_of block_of events_of all_events event_bytes entry_bytes record_bytes key_places key_at key_cmp same_key value_cmp raised is_in_range is_stored utf16_units chars table_row column_rows index_rows item_rows latest_table_row latest_item_rows encoding_fault rows.index_rows index_ordinals stored_cmp u16_field u32_field u64_field signed_field i128_field
others = (refl, refl, refl)

pub rules :
    (let image = with_values (typed 1 ∷ typed_as BigInt 10 ∷ []) in image_verdict summed image (digest_of image ∷ []) ≡ No V6 (at.Event 3 3 0))
    × (let image = with_values (typed 1 ∷ []) in image_verdict summed image (digest_of image ∷ []) ≡ No V6 (at.Event 3 3 0))
    × (let image = with_values (None ∷ typed 10 ∷ []) in image_verdict summed image (digest_of image ∷ []) ≡ No V6 (at.Event 3 3 0))
    × (image_verdict summed appended_and_ended (digest_of appended_and_ended ∷ []) ≡ No V6 (at.Event 3 3 0))
    × (let image = two_rows (index_t 2 10 ∷ []) in image_verdict summed image (digest_of image ∷ []) ≡ No V8 (at.Index 3 1))
    × (let image = two_rows (index_t 1 20 ∷ index_t 2 10 ∷ []) in image_verdict summed image (digest_of image ∷ []) ≡ No V8 (at.Index 3 1))
    × (let image = two_rows (index_t 2 10 ∷ index_t 1 20 ∷ []) in image_verdict summed image (digest_of image ∷ []) ≡ Yes)
unfolding image_verdict digest_fault chain_fault block_fault id_fault root_fault version_fault definition_fault index_fault row_fault catalog_fault version_rule_fault table_rule_fault one_statement tables_are_right columns_are_right changes_are_in_order column_names_are_new indexes_are_in_time ids_follow table_names_are_new is_while_the_table_is_there roots_of block_of events_of all_events event_bytes entry_bytes record_bytes key_places key_at key_cmp same_key value_cmp raised is_in_range is_stored utf16_units chars table_row column_rows index_rows item_rows latest_table_row latest_item_rows encoding_fault rows.index_rows index_ordinals stored_cmp u16_field u32_field u64_field signed_field i128_field
rules = (refl, refl, refl, refl, refl, refl, refl)

pub covered :
    (map (λ e. e.id) (covered_of honest 0) ≡ 1 ∷ 2 ∷ 3 ∷ [])
    × (map (λ e. e.tables) (covered_of two_blocks 1) ≡ map (λ e. e.tables) (covered_of two_blocks 0) ++ ((3, start_t 1 10 ∷ []) ∷ []) ∷ [])
    × (map {B = ℕ × ℕ × ℕ} (λ e. (e.block, e.ordinal, e.id)) (covered_of two_blocks 0) ≡ (0, 0, 1) ∷ (0, 1, 2) ∷ [])
    × (covered_of (with_rows_of two_blocks index_left) 0 ≡ covered_of two_blocks 0)
unfolding covered_of digest_fault chain_fault block_fault id_fault root_fault version_fault definition_fault index_fault roots_of block_of events_of all_events event_bytes entry_bytes record_bytes key_places key_at key_cmp same_key value_cmp raised is_in_range is_stored utf16_units chars table_row column_rows index_rows item_rows latest_table_row latest_item_rows encoding_fault rows.index_rows index_ordinals stored_cmp u16_field u32_field u64_field signed_field i128_field
covered = (refl, refl, refl, refl)

abbrev tables_of_third : List CoveredEntry → List Event
tables_of_third (a ∷ b ∷ c ∷ more) = flat_map (λ t. t.1) c.tables
tables_of_third _ = []

abbrev number : Value → ℕ
number (Num s (pos n)) = n
number _ = 0

abbrev second_number : List EventField → ℕ
second_number (a ∷ b ∷ rest) = number b.value
second_number _ = 0

abbrev value_of : List Event → ℕ
value_of (e ∷ more) = second_number e.columns
value_of [] = 0

value_left : value_of (tables_of_third (covered_of (with_rows_of honest index_left) 0)) ≡ 11
unfolding covered_of digest_fault chain_fault block_fault id_fault root_fault version_fault definition_fault index_fault roots_of block_of events_of all_events event_bytes entry_bytes record_bytes key_places key_at key_cmp same_key value_cmp raised is_in_range is_stored utf16_units chars table_row column_rows index_rows item_rows latest_table_row latest_item_rows encoding_fault rows.index_rows index_ordinals stored_cmp u16_field u32_field u64_field signed_field i128_field
value_left = refl

value_honest : value_of (tables_of_third (covered_of honest 0)) ≡ 10
unfolding covered_of digest_fault chain_fault block_fault id_fault root_fault version_fault definition_fault index_fault roots_of block_of events_of all_events event_bytes entry_bytes record_bytes key_places key_at key_cmp same_key value_cmp raised is_in_range is_stored utf16_units chars table_row column_rows index_rows item_rows latest_table_row latest_item_rows encoding_fault rows.index_rows index_ordinals stored_cmp u16_field u32_field u64_field signed_field i128_field
value_honest = refl

pub changed : covered_of (with_rows_of honest index_left) 0 ≢ covered_of honest 0
changed e =
    let f : 11 ≡ 10 = sym value_left ∙ ap (λ c. value_of (tables_of_third c)) e ∙ value_honest in
    absurd (omega (arith, f))
