-- The bytes of an event are few.
use Rattle.std.proofs.Common.{◌≡◌, ◌<◌, ◌^◌, ◌+◌, ◌*◌, ◌≤◌, ℕ, List, [], ◌∷◌, ◌++◌, length, flat_map, Option, Some, None, arith, length-append}
use Rattle.std.specs.List.{AllByRecursion}
use Rattle.base_fields.specs.Fields.{u8_field, u16_field, u32_field, u64_field, long_field}
use Rattle.sql_types.specs.declared.event.Event.{Event}
use Rattle.sql_types.specs.declared.event.EventField.{EventField}
use Rattle.format_event.specs.Leaf.{value_bytes, type_bytes, type_code, first_parameter, second_parameter, column_bytes, columns_bytes, start_bytes, head_bytes, op_of, event_bytes, without_nulls, IsField, HasLeaf}
use Rattle.format_event.proofs.Sizes.{value_short}
use Rattle.format_receipt.proofs.Room.{length_u16, length_u32, length_u64}

column_short : (f : EventField) → IsField f → length (column_bytes f) ≤ 16010
column_short f is =
    let v : List ℕ = value_bytes f.ty f.value in
    let a = length-append (u16_field f.ordinal) (type_bytes f.ty ++ long_field v) in
    let b = length-append (type_bytes f.ty) (long_field v) in
    let c = length-append (u8_field (type_code f.ty) ++ u16_field (first_parameter f.ty)) (u8_field (second_parameter f.ty)) in
    let d = length-append (u8_field (type_code f.ty)) (u16_field (first_parameter f.ty)) in
    let e = length-append (u32_field (length v)) v in
    omega (arith, a, b, c, d, e, length_u16 f.ordinal, length_u16 (first_parameter f.ty), length_u32 (length v), value_short f.ty f.value is.stored is.text)

columns_short : (fs : List EventField) → AllByRecursion IsField fs → length (flat_map column_bytes fs) ≤ 16010 * length fs
columns_short [] all = omega arith
columns_short (f ∷ fs) all = omega (arith, length-append (column_bytes f) (flat_map column_bytes fs), column_short f all.0, columns_short fs all.1)

start_short : (start : Option (ℕ × ℕ)) → length (start_bytes start) ≤ 16
start_short None = omega arith
start_short (Some s) = omega (arith, length-append (u64_field s.0) (u64_field s.1), length_u64 s.0, length_u64 s.1)

head_short : (e : Event) → length (head_bytes e) ≡ 22
head_short e =
    let op = op_of e.ends in
    let a = length-append (u8_field 1) (u32_field e.table ++ (u8_field op ++ (u64_field e.tx ++ u64_field e.seq))) in
    let b = length-append (u32_field e.table) (u8_field op ++ (u64_field e.tx ++ u64_field e.seq)) in
    let c = length-append (u8_field op) (u64_field e.tx ++ u64_field e.seq) in
    let d = length-append (u64_field e.tx) (u64_field e.seq) in
    omega (arith, a, b, c, d, length_u32 e.table, length_u64 e.tx, length_u64 e.seq)

pub event_room : (e : Event) → HasLeaf e → length (event_bytes e) < 2 ^ 32
unfolding event_bytes
event_room e is =
    let w : Event = without_nulls e in
    let a = length-append (head_bytes w) (start_bytes w.ends ++ columns_bytes w.columns) in
    let b = length-append (start_bytes w.ends) (columns_bytes w.columns) in
    let c = length-append (u16_field (length w.columns)) (flat_map column_bytes w.columns) in
    omega (arith, a, b, c, head_short w, start_short w.ends, length_u16 (length w.columns), columns_short w.columns is.columns, is.count)
