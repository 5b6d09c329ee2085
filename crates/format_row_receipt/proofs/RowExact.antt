-- Receipts of rows are read exactly as they are written.
use Rattle.std.proofs.Common.{◌≡◌, ◌≤◌, ◌<◌, ◌^◌, ℕ, List, ◌++◌, length, Some, None, Option, refl, sym, ap, ◌∙◌, arith}
use Rattle.std.specs.Prelude.{IfSome, codes}
use Rattle.std.proofs.lemmas.Bool.{leb-true, le-leb}
use Rattle.base_fields.specs.Fields.{u8_field, long_field}
use Rattle.base_fields.specs.Readers.{long_at, after, both, whole}
use Rattle.base_fields.specs.Exact.{IsBytes, Exact}
use Rattle.base_fields.proofs.Written.{Shorter, long_exact}
use Rattle.base_fields.proofs.Parts.{after_exact, both_exact, mapped_exact, whole_sound, whole_complete}
use Rattle.format_receipt.specs.declared.receipt.Receipt.{Receipt}
use Rattle.format_receipt.specs.Receipts.{IsReceipt}
use Rattle.audit_paths.specs.Path.{Step}
use Rattle.format_row_receipt.specs.declared.row_receipt.RowReceipt.{RowReceipt}
use Rattle.format_row_receipt.specs.declared.table_receipt.TableReceipt.{TableReceipt}
use Rattle.format_row_receipt.specs.RowReceipts.{body_bytes, leaves_bytes, steps_bytes, max_steps, table_receipt_bytes, row_receipt_bytes, IsTableReceipt, IsRowReceipt}
use Rattle.format_row_receipt.specs.RowReading.{body_at, leaves_at, steps_at, table_receipt_from, row_receipt_from, table_receipt_at, row_receipt_at}
use Rattle.format_row_receipt.proofs.BodyExact.{body_exact, FitLeaves, leaves_exact}
use Rattle.format_row_receipt.proofs.StepsExact.{FitSteps, steps_exact, steps_fit, steps_hashes}

-- ---- all events of a transaction in a table

abbrev TableParts : Type 0
TableParts = Receipt × List (List ℕ)

abbrev FitTable : TableParts → Type 0
FitTable x = IsReceipt x.0 × FitLeaves x.1

abbrev encode_table : TableParts → List ℕ
encode_table x = body_bytes x.0 ++ leaves_bytes x.1

abbrev encoded_table : TableReceipt → List ℕ
encoded_table r = codes "LGRA" ++ (u8_field 1 ++ (body_bytes r.receipt ++ leaves_bytes r.leaves))

abbrev table_parts : TableReceipt → TableParts
table_parts r = (r.receipt, r.leaves)

table_exact : Exact IsTableReceipt encoded_table table_receipt_at
unfolding table_receipt_at
table_exact = mapped_exact FitTable IsTableReceipt (λ (x : TableParts). codes "LGRA" ++ (u8_field 1 ++ encode_table x)) encoded_table table_receipt_from table_parts
    (after (codes "LGRA") (after (u8_field 1) (both body_at leaves_at)))
    (record {
      there = λ r. refl;
      encoded = λ x. refl;
      fit = λ x f. record { receipt = f.0; some = leb-true 1 (length x.1) f.1.1; count = f.1.0.0; leaves = f.1.0.1 };
      fit_back = λ r f. (f.receipt, ((f.count, f.leaves), le-leb 1 (length r.leaves) f.some));
    })
    (after_exact (codes "LGRA") FitTable (λ (x : TableParts). u8_field 1 ++ encode_table x) (after (u8_field 1) (both body_at leaves_at))
    (after_exact (u8_field 1) FitTable encode_table (both body_at leaves_at)
    (both_exact IsReceipt FitLeaves body_bytes leaves_bytes body_at leaves_at body_exact leaves_exact)))

table_bytes-is : (r : TableReceipt) → table_receipt_bytes r ≡ encoded_table r
unfolding table_receipt_bytes
table_bytes-is r = refl

pub table_found : (bytes : List ℕ) (found : Option TableReceipt) → IsBytes bytes → found ≡ whole table_receipt_at bytes → IfSome found (λ r. IsTableReceipt r × (bytes ≡ table_receipt_bytes r))
table_found bytes None fits read = tt
table_found bytes (Some r) fits read =
    let t = whole_sound IsTableReceipt encoded_table table_receipt_at table_exact bytes r fits (sym read) in
    (t.0, t.1 ∙ sym (table_bytes-is r))

pub table_only : (bytes : List ℕ) (r : TableReceipt) → IsTableReceipt r → bytes ≡ table_receipt_bytes r → whole table_receipt_at bytes ≡ Some r
table_only bytes r is same = ap (whole table_receipt_at) (same ∙ table_bytes-is r) ∙ whole_complete IsTableReceipt encoded_table table_receipt_at table_exact r is

pub equal_tables : (r s : TableReceipt) → IsTableReceipt r → IsTableReceipt s → table_receipt_bytes r ≡ table_receipt_bytes s → r ≡ s
equal_tables r s is js same =
    let one : Some r ≡ Some s = sym (table_only (table_receipt_bytes r) r is refl) ∙ table_only (table_receipt_bytes r) s js same in
    cc

-- ---- one event

abbrev RowParts : Type 0
RowParts = Receipt × (List ℕ × List Step)

abbrev FitRow : RowParts → Type 0
FitRow x = IsReceipt x.0 × (Shorter (2 ^ 32) x.1.0 × FitSteps x.1.1)

abbrev encode_row : RowParts → List ℕ
encode_row x = body_bytes x.0 ++ (long_field x.1.0 ++ steps_bytes x.1.1)

abbrev encoded_row : RowReceipt → List ℕ
encoded_row r = codes "LGRR" ++ (u8_field 1 ++ (body_bytes r.receipt ++ (long_field r.leaf ++ steps_bytes r.steps)))

abbrev row_parts : RowReceipt → RowParts
row_parts r = (r.receipt, (r.leaf, r.steps))

few_steps : (steps : List Step) → length steps ≤ max_steps → length steps < 256
few_steps steps le = omega (arith, le)

row_exact : Exact IsRowReceipt encoded_row row_receipt_at
unfolding row_receipt_at
row_exact = mapped_exact FitRow IsRowReceipt (λ (x : RowParts). codes "LGRR" ++ (u8_field 1 ++ encode_row x)) encoded_row row_receipt_from row_parts
    (after (codes "LGRR") (after (u8_field 1) (both body_at (both long_at steps_at))))
    (record {
      there = λ r. refl;
      encoded = λ x. refl;
      fit = λ x f. record { receipt = f.0; leaf = f.1.0; few = leb-true (length x.1.1) max_steps f.1.1.1; steps = steps_hashes x.1.1 f.1.1.0.1 };
      fit_back = λ r f. (f.receipt, (f.leaf, ((few_steps r.steps f.few, steps_fit r.steps f.steps), le-leb (length r.steps) max_steps f.few)));
    })
    (after_exact (codes "LGRR") FitRow (λ (x : RowParts). u8_field 1 ++ encode_row x) (after (u8_field 1) (both body_at (both long_at steps_at)))
    (after_exact (u8_field 1) FitRow encode_row (both body_at (both long_at steps_at))
    (both_exact IsReceipt (λ (x : List ℕ × List Step). Shorter (2 ^ 32) x.0 × FitSteps x.1) body_bytes (λ (x : List ℕ × List Step). long_field x.0 ++ steps_bytes x.1) body_at (both long_at steps_at) body_exact
    (both_exact (Shorter (2 ^ 32)) FitSteps long_field steps_bytes long_at steps_at long_exact steps_exact))))

row_bytes-is : (r : RowReceipt) → row_receipt_bytes r ≡ encoded_row r
unfolding row_receipt_bytes
row_bytes-is r = refl

pub row_found : (bytes : List ℕ) (found : Option RowReceipt) → IsBytes bytes → found ≡ whole row_receipt_at bytes → IfSome found (λ r. IsRowReceipt r × (bytes ≡ row_receipt_bytes r))
row_found bytes None fits read = tt
row_found bytes (Some r) fits read =
    let t = whole_sound IsRowReceipt encoded_row row_receipt_at row_exact bytes r fits (sym read) in
    (t.0, t.1 ∙ sym (row_bytes-is r))

pub row_only : (bytes : List ℕ) (r : RowReceipt) → IsRowReceipt r → bytes ≡ row_receipt_bytes r → whole row_receipt_at bytes ≡ Some r
row_only bytes r is same = ap (whole row_receipt_at) (same ∙ row_bytes-is r) ∙ whole_complete IsRowReceipt encoded_row row_receipt_at row_exact r is

pub equal_rows : (r s : RowReceipt) → IsRowReceipt r → IsRowReceipt s → row_receipt_bytes r ≡ row_receipt_bytes s → r ≡ s
equal_rows r s is js same =
    let one : Some r ≡ Some s = sym (row_only (row_receipt_bytes r) r is refl) ∙ row_only (row_receipt_bytes r) s js same in
    cc
