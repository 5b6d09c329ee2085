-- Entries are read exactly as they are written.
use Rattle.std.proofs.Common.{◌≡◌, ◌<◌, ◌^◌, ℕ, true, List, [], ◌++◌, length, Some, None, Option, refl, sym, ap, ◌∙◌}
use Rattle.std.specs.Prelude.{IfSome, flat_map}
use Rattle.std.specs.List.{AllByRecursion}
use Rattle.std.proofs.lemmas.List.{append-nil}
use Rattle.base_types.specs.Ids.{is_tx_id}
use Rattle.base_types.specs.Moment.{is_moment}
use Rattle.base_types.specs.SessionName.{is_session_name}
use Rattle.base_fields.specs.Fields.{u8_field, u32_field, u64_field, hash_field, short_field}
use Rattle.base_fields.specs.Forms.{tx_id_at, moment_at, session_at}
use Rattle.base_fields.specs.Readers.{u8_at, u32_at, u64_at, hash_at, after, both, listed, whole}
use Rattle.base_fields.specs.Exact.{IsBytes, Exact}
use Rattle.base_fields.proofs.FormsExact.{tx_id_exact, moment_exact, session_exact}
use Rattle.base_fields.proofs.Written.{u8_exact, u32_exact, u64_exact, hash_exact}
use Rattle.base_fields.proofs.Parts.{after_exact, both_exact, mapped_exact, where_exact, listed_exact, one_value, whole_sound, whole_complete}
use Rattle.sql_types.specs.declared.entry.TxEntry.{TxEntry}
use Rattle.format_entry.specs.Entry.{TableRoot, root_bytes, roots_bytes, head_bytes, entry_bytes, IsRoot, tables_rise, IsEntry}
use Rattle.format_entry.specs.EntryReading.{root_at, roots_at, Head, head_at, from_parts, entry_at}

-- ---- the parts

abbrev FitId : ℕ → Type 0
FitId id = is_tx_id id ≡ true

abbrev FitTime : ℕ → Type 0
FitTime time = is_moment time ≡ true

abbrev FitName : List ℕ → Type 0
FitName name = is_session_name name ≡ true

root_exact : Exact IsRoot root_bytes root_at
unfolding root_at
root_exact = both_exact (λ (n : ℕ). n < 2 ^ 32) (λ (hash : List ℕ). length hash ≡ 32) u32_field hash_field u32_at hash_at u32_exact hash_exact

abbrev pub FitRoots : List TableRoot → Type 0
FitRoots roots = ((length roots < 256) × AllByRecursion IsRoot roots) × (tables_rise roots ≡ true)

abbrev pub encode_roots : List TableRoot → List ℕ
encode_roots roots = u8_field (length roots) ++ flat_map root_bytes roots

pub roots_exact : Exact FitRoots encode_roots roots_at
unfolding roots_at
roots_exact = where_exact (λ (roots : List TableRoot). (length roots < 256) × AllByRecursion IsRoot roots) encode_roots tables_rise (listed u8_at root_at)
    (listed_exact IsRoot root_bytes root_at root_exact 256 u8_field u8_at u8_exact)

-- ---- the entry

abbrev FitHead : Head → Type 0
FitHead h = FitId h.0 × ((h.1.0 < 2 ^ 64) × ((h.1.1.0 < 2 ^ 32) × (FitTime h.1.1.1.0 × FitName h.1.1.1.1)))

abbrev encode_head : Head → List ℕ
encode_head h = u8_field 1 ++ (u64_field h.0 ++ (u64_field h.1.0 ++ (u32_field h.1.1.0 ++ (u64_field h.1.1.1.0 ++ short_field h.1.1.1.1))))

head_exact : Exact FitHead encode_head head_at
unfolding head_at
head_exact = after_exact (u8_field 1) FitHead (λ (h : Head). u64_field h.0 ++ (u64_field h.1.0 ++ (u32_field h.1.1.0 ++ (u64_field h.1.1.1.0 ++ short_field h.1.1.1.1))))
    (both tx_id_at (both u64_at (both u32_at (both moment_at session_at))))
    (both_exact FitId (λ (x : ℕ × (ℕ × (ℕ × List ℕ))). (x.0 < 2 ^ 64) × ((x.1.0 < 2 ^ 32) × (FitTime x.1.1.0 × FitName x.1.1.1))) u64_field (λ (x : ℕ × (ℕ × (ℕ × List ℕ))). u64_field x.0 ++ (u32_field x.1.0 ++ (u64_field x.1.1.0 ++ short_field x.1.1.1)))
    tx_id_at (both u64_at (both u32_at (both moment_at session_at))) tx_id_exact
    (both_exact (λ (n : ℕ). n < 2 ^ 64) (λ (x : ℕ × (ℕ × List ℕ)). (x.0 < 2 ^ 32) × (FitTime x.1.0 × FitName x.1.1)) u64_field (λ (x : ℕ × (ℕ × List ℕ)). u32_field x.0 ++ (u64_field x.1.0 ++ short_field x.1.1))
    u64_at (both u32_at (both moment_at session_at)) u64_exact
    (both_exact (λ (n : ℕ). n < 2 ^ 32) (λ (x : ℕ × List ℕ). FitTime x.0 × FitName x.1) u32_field (λ (x : ℕ × List ℕ). u64_field x.0 ++ short_field x.1) u32_at (both moment_at session_at) u32_exact
    (both_exact FitTime FitName u64_field short_field moment_at session_at moment_exact session_exact))))

abbrev Parts : Type 0
Parts = Head × List TableRoot

abbrev parts_of : TxEntry → Parts
parts_of e = ((e.id, (e.block, (e.ordinal, (e.time, e.principal)))), e.roots)

abbrev encoded : TxEntry → List ℕ
encoded e = head_bytes e ++ roots_bytes e.roots

entry_exact : Exact IsEntry encoded entry_at
unfolding entry_at
entry_exact = mapped_exact (λ (x : Parts). FitHead x.0 × FitRoots x.1) IsEntry (λ (x : Parts). encode_head x.0 ++ (u8_field 1 ++ encode_roots x.1)) encoded from_parts parts_of (both head_at (after (u8_field 1) roots_at))
    (record {
      there = λ e. refl;
      encoded = λ x. refl;
      fit = λ x f. record { id = f.0.0; block = f.0.1.0; ordinal = f.0.1.1.0; time = f.0.1.1.1.0; principal = f.0.1.1.1.1; count = f.1.0.0; roots = f.1.0.1; rise = f.1.1 };
      fit_back = λ e f. ((f.id, (f.block, (f.ordinal, (f.time, f.principal)))), ((f.count, f.roots), f.rise));
    })
    (both_exact FitHead FitRoots encode_head (λ (roots : List TableRoot). u8_field 1 ++ encode_roots roots) head_at (after (u8_field 1) roots_at) head_exact
    (after_exact (u8_field 1) FitRoots encode_roots roots_at roots_exact))

-- ---- the bytes

entry_bytes-is : (e : TxEntry) → entry_bytes e ≡ encoded e
unfolding entry_bytes
entry_bytes-is e = refl

pub found_of : (bytes : List ℕ) (found : Option TxEntry) → IsBytes bytes → found ≡ whole entry_at bytes
    → IfSome found (λ e. IsEntry e × (bytes ≡ entry_bytes e))
found_of bytes None fits read = tt
found_of bytes (Some e) fits read =
    let t = whole_sound IsEntry encoded entry_at entry_exact bytes e fits (sym read) in
    (t.0, t.1 ∙ sym (entry_bytes-is e))

pub only_of : (bytes : List ℕ) (e : TxEntry) → IsEntry e → bytes ≡ entry_bytes e
    → whole entry_at bytes ≡ Some e
only_of bytes e is same = ap (whole entry_at) (same ∙ entry_bytes-is e) ∙ whole_complete IsEntry encoded entry_at entry_exact e is

pub one_entry : (e f : TxEntry) (rest : List ℕ) → IsEntry e → IsEntry f
    → entry_bytes e ≡ entry_bytes f ++ rest → (e ≡ f) × (rest ≡ [])
unfolding entry_bytes
one_entry e f rest ie if_ same = one_value IsEntry encoded entry_at entry_exact e f rest ie if_ same

pub equal_entries : (e f : TxEntry) → IsEntry e → IsEntry f → entry_bytes e ≡ entry_bytes f → e ≡ f
equal_entries e f ie if_ same = (one_entry e f [] ie if_ (same ∙ sym (append-nil (entry_bytes f)))).0
