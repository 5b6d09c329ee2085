-- Receipts are read exactly as they are written.
use Rattle.std.proofs.Common.{◌≡◌, ◌≤◌, ◌<◌, ◌^◌, ℕ, true, List, ◌++◌, length, Some, None, Option, refl, sym, ap, ◌∙◌, subst, arith}
use Rattle.std.specs.Prelude.{IfSome, codes}
use Rattle.std.specs.List.{AllByRecursion}
use Rattle.std.proofs.lemmas.Bool.{leb-true, le-leb}
use Rattle.base_types.specs.DatabaseName.{is_database_name}
use Rattle.base_fields.specs.Fields.{u8_field, u32_field, u64_field, hash_field, short_field, long_field}
use Rattle.base_fields.specs.Forms.{database_at}
use Rattle.base_fields.specs.Readers.{◌>>=◌, u8_at, u64_at, hash_at, long_at, after, both, listed, whole}
use Rattle.base_fields.specs.Exact.{IsBytes, Exact}
use Rattle.base_fields.proofs.FormsExact.{database_exact}
use Rattle.base_fields.proofs.Written.{IsBytes-back, IsBytes-front, Shorter, u8_exact, u64_exact, hash_exact, long_exact}
use Rattle.base_fields.proofs.Parts.{Decodes, after_exact, both_exact, mapped_exact, decoded_exact, where_exact, listed_exact, whole_sound, whole_complete}
use Rattle.format_entry.specs.Entry.{entry_bytes, IsEntry}
use Rattle.format_entry.specs.EntryReading.{entry_at}
use Rattle.format_entry.specs.Record.{record_bytes, record_at, IsRecord}
use Rattle.format_entry.proofs.EntryExact.{found_of, only_of}
use Rattle.format_entry.proofs.RecordExact.{record_exact}
use Rattle.sql_types.specs.declared.entry.BlockRecord.{BlockRecord}
use Rattle.sql_types.specs.declared.entry.TxEntry.{TxEntry}
use Rattle.format_receipt.specs.declared.receipt.Receipt.{Receipt}
use Rattle.format_receipt.specs.Receipts.{max_path, IsReceipt}
use Rattle.format_receipt.specs.Receipts.{path_bytes, records_bytes, receipt_bytes}
use Rattle.format_receipt.specs.ReceiptReading.{is_short, are_some, entry_behind, path_at, records_at, receipt_from, receipt_at}
use Rattle.format_receipt.proofs.Room.{entry_room}

-- ---- the entry

abbrev pub FitEntry : TxEntry → Type 0
FitEntry e = IsEntry e × (length (entry_bytes e) < 2 ^ 32)

abbrev pub encode_entry : TxEntry → List ℕ
encode_entry e = long_field (entry_bytes e)

entries_decode : Decodes (Shorter (2 ^ 32)) FitEntry long_field encode_entry (whole entry_at) entry_bytes
entries_decode = record {
  there = λ e f. only_of (entry_bytes e) e f.0 refl;
  encoded = λ e f. refl;
  fit_back = λ e f. f.1;
  back = λ bytes e fits small read.
      let t = found_of bytes (Some e) (IsBytes-back (u32_field (length bytes)) bytes fits) (sym read) in
      ((t.0, subst (λ (l : List ℕ). length l < 2 ^ 32) t.1 small), ap long_field t.1);
}

entry_behind_exact : Exact FitEntry encode_entry entry_behind
unfolding entry_behind
entry_behind_exact = decoded_exact (Shorter (2 ^ 32)) FitEntry long_field encode_entry (whole entry_at) entry_bytes long_at entries_decode long_exact

-- ---- the path and the records

abbrev pub FitPath : List (List ℕ) → Type 0
FitPath path = ((length path < 256) × AllByRecursion (λ (p : List ℕ). length p ≡ 32) path) × (is_short path ≡ true)

path_exact : Exact FitPath path_bytes path_at
unfolding path_at
path_exact = where_exact (λ (path : List (List ℕ)). (length path < 256) × AllByRecursion (λ (p : List ℕ). length p ≡ 32) path) path_bytes is_short (listed u8_at hash_at)
    (listed_exact (λ (p : List ℕ). length p ≡ 32) hash_field hash_at hash_exact 256 u8_field u8_at u8_exact)

abbrev pub FitRecords : List BlockRecord → Type 0
FitRecords records = ((length records < 2 ^ 64) × AllByRecursion IsRecord records) × (are_some records ≡ true)

pub records_exact : Exact FitRecords records_bytes records_at
unfolding records_at
records_exact = where_exact (λ (records : List BlockRecord). (length records < 2 ^ 64) × AllByRecursion IsRecord records) records_bytes are_some (listed u64_at record_at)
    (listed_exact IsRecord record_bytes record_at record_exact (2 ^ 64) u64_field u64_at u64_exact)

-- ---- all four, behind one another

abbrev pub Parts : Type 0
Parts = List ℕ × (TxEntry × (List (List ℕ) × List BlockRecord))

abbrev pub parts_of : Receipt → Parts
parts_of r = (r.database, (r.entry, (r.path, r.records)))

abbrev pub FitParts : Parts → Type 0
FitParts x = (is_database_name x.0 ≡ true) × (FitEntry x.1.0 × (FitPath x.1.1.0 × FitRecords x.1.1.1))

abbrev pub encode_parts : Parts → List ℕ
encode_parts x = short_field x.0 ++ (encode_entry x.1.0 ++ (path_bytes x.1.1.0 ++ records_bytes x.1.1.1))

few_hashes : (path : List (List ℕ)) → length path ≤ max_path → length path < 256
few_hashes path le = omega (arith, le)

pub parts_fit : (x : Parts) → FitParts x → IsReceipt (receipt_from x)
parts_fit x f = record { database = f.0; entry = f.1.0.0; few = leb-true (length x.1.1.0) max_path f.1.1.0.1; path = f.1.1.0.0.1; some = leb-true 1 (length x.1.1.1) f.1.1.1.1; count = f.1.1.1.0.0; records = f.1.1.1.0.1 }

pub receipt_fits : (r : Receipt) → IsReceipt r → FitParts (parts_of r)
receipt_fits r f = (f.database, ((f.entry, entry_room r.entry f.entry), (((few_hashes r.path f.few, f.path), le-leb (length r.path) max_path f.few), ((f.count, f.records), le-leb 1 (length r.records) f.some))))

pub parts_exact : Exact FitParts encode_parts (both database_at (both entry_behind (both path_at records_at)))
parts_exact = both_exact (λ (d : List ℕ). is_database_name d ≡ true) (λ (x : TxEntry × (List (List ℕ) × List BlockRecord)). FitEntry x.0 × (FitPath x.1.0 × FitRecords x.1.1)) short_field
    (λ (x : TxEntry × (List (List ℕ) × List BlockRecord)). encode_entry x.0 ++ (path_bytes x.1.0 ++ records_bytes x.1.1)) database_at (both entry_behind (both path_at records_at)) database_exact
    (both_exact FitEntry (λ (x : List (List ℕ) × List BlockRecord). FitPath x.0 × FitRecords x.1) encode_entry (λ (x : List (List ℕ) × List BlockRecord). path_bytes x.0 ++ records_bytes x.1)
    entry_behind (both path_at records_at) entry_behind_exact
    (both_exact FitPath FitRecords path_bytes records_bytes path_at records_at path_exact records_exact))

-- ---- the receipt

abbrev encoded : Receipt → List ℕ
encoded r = codes "LGRC" ++ (u8_field 1 ++ (short_field r.database ++ (long_field (entry_bytes r.entry) ++ (path_bytes r.path ++ records_bytes r.records))))

receipt_exact : Exact IsReceipt encoded receipt_at
unfolding receipt_at
receipt_exact = mapped_exact FitParts IsReceipt (λ (x : Parts). codes "LGRC" ++ (u8_field 1 ++ encode_parts x)) encoded receipt_from parts_of
    (after (codes "LGRC") (after (u8_field 1) (both database_at (both entry_behind (both path_at records_at)))))
    (record { there = λ r. refl; encoded = λ x. refl; fit = parts_fit; fit_back = receipt_fits })
    (after_exact (codes "LGRC") FitParts (λ (x : Parts). u8_field 1 ++ encode_parts x) (after (u8_field 1) (both database_at (both entry_behind (both path_at records_at))))
    (after_exact (u8_field 1) FitParts encode_parts (both database_at (both entry_behind (both path_at records_at))) parts_exact))

-- ---- the bytes

receipt_bytes-is : (r : Receipt) → receipt_bytes r ≡ encoded r
unfolding receipt_bytes
receipt_bytes-is r = refl

pub receipt_found : (bytes : List ℕ) (found : Option Receipt) → IsBytes bytes → found ≡ whole receipt_at bytes → IfSome found (λ r. IsReceipt r × (bytes ≡ receipt_bytes r))
receipt_found bytes None fits read = tt
receipt_found bytes (Some r) fits read =
    let t = whole_sound IsReceipt encoded receipt_at receipt_exact bytes r fits (sym read) in
    (t.0, t.1 ∙ sym (receipt_bytes-is r))

pub receipt_only : (bytes : List ℕ) (r : Receipt) → IsReceipt r → bytes ≡ receipt_bytes r → whole receipt_at bytes ≡ Some r
receipt_only bytes r is same = ap (whole receipt_at) (same ∙ receipt_bytes-is r) ∙ whole_complete IsReceipt encoded receipt_at receipt_exact r is

pub equal_receipts : (r s : Receipt) → IsReceipt r → IsReceipt s → receipt_bytes r ≡ receipt_bytes s → r ≡ s
equal_receipts r s is js same =
    let one : Some r ≡ Some s = sym (receipt_only (receipt_bytes r) r is refl) ∙ receipt_only (receipt_bytes r) s js same in
    cc

-- what `read_entry` answers is what the whole bytes are read as
pub entry_read : (bytes : List ℕ) (read : Option TxEntry) → IsBytes bytes → IfSome read (λ e. IsEntry e × (bytes ≡ entry_bytes e))
    → ((e : TxEntry) → IsEntry e → bytes ≡ entry_bytes e → read ≡ Some e) → whole entry_at bytes ≡ read
entry_read bytes (Some e) fits found only = only_of bytes e found.0 found.1
entry_read bytes None fits found only = none_or (whole entry_at bytes) refl
  where
    none_or : (o : Option TxEntry) → whole entry_at bytes ≡ o → whole entry_at bytes ≡ None
    none_or None e = e
    none_or (Some x) e = let t = found_of bytes (Some x) fits (sym e) in let no : None ≡ Some x = only x t.0 t.1 in absurd cc

-- the entry whose bytes stand behind their length
pub behind_some : (bytes own rest : List ℕ) (e : TxEntry) → long_at bytes ≡ Some (own, rest) → IsEntry e → own ≡ entry_bytes e → entry_behind bytes ≡ Some (e, rest)
unfolding entry_behind
behind_some bytes own rest e at is same =
    ap (λ (o : Option (List ℕ × List ℕ)). o >>= λ x. whole entry_at x.0 >>= λ y. Some (y, x.1)) at
    ∙ ap (λ (o : Option TxEntry). o >>= λ y. Some (y, rest)) (only_of own e is same)

pub behind_none : (bytes own rest : List ℕ) → IsBytes bytes → long_at bytes ≡ Some (own, rest) → ((e : TxEntry) → IsEntry e → own ≡ entry_bytes e → None ≡ Some e) → entry_behind bytes ≡ None
unfolding entry_behind
behind_none bytes own rest fits at only =
    let t = long_exact.takes bytes own rest fits at in
    let spelled_bytes : IsBytes (long_field own ++ rest) = subst IsBytes t.parts fits in
    let own_bytes : IsBytes own = IsBytes-back (u32_field (length own)) own (IsBytes-front (long_field own) rest spelled_bytes) in
    ap (λ (o : Option (List ℕ × List ℕ)). o >>= λ x. whole entry_at x.0 >>= λ y. Some (y, x.1)) at
    ∙ ap (λ (o : Option TxEntry). o >>= λ y. Some (y, rest)) (entry_read own None own_bytes tt only)
