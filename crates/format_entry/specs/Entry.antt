-- A transaction entry: its one spelling in bytes.
use Rattle.std.specs.Prelude.{◌≡◌, ◌<◌, ◌^◌, ◌&&◌, nat_lt, ℕ, Bool, true, false, List, [], ◌∷◌, ◌++◌, length, flat_map}
use Rattle.std.specs.List.{AllByRecursion}
use Rattle.base_types.specs.Ids.{is_tx_id}
use Rattle.base_types.specs.Moment.{is_moment}
use Rattle.base_types.specs.SessionName.{is_session_name}
use Rattle.base_fields.specs.Fields.{u8_field, u32_field, u64_field, hash_field, short_field}
use Rattle.sql_types.specs.declared.entry.TxEntry.{TxEntry}

-- a table, and the root of the tree over the transaction's events in it
abbrev pub TableRoot : Type 0
TableRoot = ℕ × List ℕ

-- the table in 4 bytes and the root in 32
abbrev pub root_bytes : TableRoot → List ℕ
root_bytes r = u32_field r.0 ++ hash_field r.1

-- the number of the format, the count of the roots in a byte, and each of them
abbrev pub roots_bytes : List TableRoot → List ℕ
roots_bytes roots = u8_field 1 ++ (u8_field (length roots) ++ flat_map root_bytes roots)

-- the number of the format, transaction, block, place in it, time of the commit and session
abbrev pub head_bytes : TxEntry → List ℕ
head_bytes e =
    u8_field 1 ++ (u64_field e.id ++ (u64_field e.block ++
    (u32_field e.ordinal ++ (u64_field e.time ++ short_field e.principal))))

-- the bytes of an entry, which are the leaves of the tree of its block
unfoldable pub entry_bytes : TxEntry → List ℕ
entry_bytes e = head_bytes e ++ roots_bytes e.roots

-- ---- which entries have a spelling

-- the root has 32 bytes
abbrev pub IsRoot : TableRoot → Type 0
IsRoot r = (r.0 < 2 ^ 32) × (length r.1 ≡ 32)

-- the tables of the roots are above this one and rise strictly
abbrev pub rise_above : ℕ → List TableRoot → Bool
rise_above last [] = true
rise_above last (r ∷ rs) = nat_lt last r.0 && rise_above r.0 rs

-- there is a root, and the tables rise strictly
abbrev pub tables_rise : List TableRoot → Bool
tables_rise [] = false
tables_rise (r ∷ rs) = rise_above r.0 rs

-- an entry that has a spelling
pub record IsEntry (e : TxEntry) : Type 0 where
  pub id : is_tx_id e.id ≡ true
  pub block : e.block < 2 ^ 64
  pub ordinal : e.ordinal < 2 ^ 32
  pub time : is_moment e.time ≡ true
  pub principal : is_session_name e.principal ≡ true
  pub count : length e.roots < 256
  pub roots : AllByRecursion IsRoot e.roots
  pub rise : tables_rise e.roots ≡ true
