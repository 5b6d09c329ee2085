-- The bytes of an entry are few.
use Rattle.std.proofs.Common.{◌≡◌, ◌<◌, ◌+◌, ◌*◌, ◌^◌, ℕ, List, [], ◌∷◌, ◌++◌, length, flat_map, refl, arith, length-append}
use Rattle.std.specs.List.{AllByRecursion}
use Rattle.base_types.proofs.Names.{session_short}
use Rattle.base_fields.specs.Fields.{u16_field, u32_field, u64_field, short_field, hash_field}
use Rattle.base_fields.proofs.Worth.{length-bytes_high_first}
use Rattle.sql_types.specs.declared.entry.TxEntry.{TxEntry}
use Rattle.format_entry.specs.Entry.{TableRoot, root_bytes, roots_bytes, head_bytes, entry_bytes, IsRoot, IsEntry}

pub length_u16 : (n : ℕ) → length (u16_field n) ≡ 2
unfolding u16_field
length_u16 n = length-bytes_high_first 2 n

pub length_u32 : (n : ℕ) → length (u32_field n) ≡ 4
unfolding u32_field
length_u32 n = length-bytes_high_first 4 n

pub length_u64 : (n : ℕ) → length (u64_field n) ≡ 8
unfolding u64_field
length_u64 n = length-bytes_high_first 8 n

length_roots : (rs : List TableRoot) → AllByRecursion IsRoot rs → length (flat_map root_bytes rs) ≡ 36 * length rs
length_roots [] all = refl
length_roots (r ∷ rs) all =
    let a = length-append (root_bytes r) (flat_map root_bytes rs) in
    let b = length-append (u32_field r.0) (hash_field r.1) in
    let c = length_u32 r.0 in
    let rest = length_roots rs all.1 in
    omega (arith, a, b, c, rest, all.0.1)

length_head : (e : TxEntry) → length (head_bytes e) ≡ 31 + length e.principal
length_head e =
    let a = length-append (u64_field e.id) (u64_field e.block ++ (u32_field e.ordinal ++ (u64_field e.time ++ short_field e.principal))) in
    let b = length-append (u64_field e.block) (u32_field e.ordinal ++ (u64_field e.time ++ short_field e.principal)) in
    let c = length-append (u32_field e.ordinal) (u64_field e.time ++ short_field e.principal) in
    let d = length-append (u64_field e.time) (short_field e.principal) in
    let f = length-append (u16_field (length e.principal)) e.principal in
    omega (arith, a, b, c, d, f, length_u64 e.id, length_u64 e.block, length_u32 e.ordinal, length_u64 e.time, length_u16 (length e.principal))

pub entry_room : (e : TxEntry) → IsEntry e → length (entry_bytes e) < 2 ^ 32
unfolding entry_bytes
entry_room e is =
    let a = length-append (head_bytes e) (roots_bytes e.roots) in
    let b = length_head e in
    let c = length_roots e.roots is.roots in
    omega (arith, a, b, c, is.count, session_short e.principal is.principal)
