-- Chains are read exactly as they are written.
use Rattle.std.proofs.Common.{◌≡◌, ℕ, true, List, ◌++◌, length, Some, None, Option, refl, sym, ap, ◌∙◌}
use Rattle.std.specs.Prelude.{IfSome, codes}
use Rattle.std.proofs.lemmas.Bool.{leb-true, le-leb}
use Rattle.base_types.specs.DatabaseName.{is_database_name}
use Rattle.base_fields.specs.Fields.{u8_field, short_field}
use Rattle.base_fields.specs.Forms.{database_at}
use Rattle.base_fields.specs.Readers.{after, both, whole}
use Rattle.base_fields.specs.Exact.{IsBytes, Exact}
use Rattle.base_fields.proofs.FormsExact.{database_exact}
use Rattle.base_fields.proofs.Parts.{after_exact, both_exact, mapped_exact, whole_sound, whole_complete}
use Rattle.sql_types.specs.declared.entry.BlockRecord.{BlockRecord}
use Rattle.format_receipt.specs.Receipts.{records_bytes}
use Rattle.format_receipt.specs.ReceiptReading.{records_at}
use Rattle.format_receipt.proofs.ReceiptExact.{FitRecords, records_exact}
use Rattle.format_chain.specs.declared.chain.Chain.{Chain}
use Rattle.format_chain.specs.Chains.{chain_bytes, IsChain}
use Rattle.format_chain.specs.ChainReading.{chain_from, chain_at}

-- ---- the chain

abbrev Parts : Type 0
Parts = List ℕ × List BlockRecord

abbrev parts_of : Chain → Parts
parts_of c = (c.database, c.records)

abbrev FitParts : Parts → Type 0
FitParts x = (is_database_name x.0 ≡ true) × FitRecords x.1

abbrev encode_parts : Parts → List ℕ
encode_parts x = short_field x.0 ++ records_bytes x.1

abbrev encoded : Chain → List ℕ
encoded c = codes "LGCC" ++ (u8_field 1 ++ (short_field c.database ++ records_bytes c.records))

chain_exact : Exact IsChain encoded chain_at
unfolding chain_at
chain_exact = mapped_exact FitParts IsChain (λ (x : Parts). codes "LGCC" ++ (u8_field 1 ++ encode_parts x)) encoded chain_from parts_of
    (after (codes "LGCC") (after (u8_field 1) (both database_at records_at)))
    (record {
      there = λ c. refl;
      encoded = λ x. refl;
      fit = λ x f. record { database = f.0; some = leb-true 1 (length x.1) f.1.1; count = f.1.0.0; records = f.1.0.1 };
      fit_back = λ c f. (f.database, ((f.count, f.records), le-leb 1 (length c.records) f.some));
    })
    (after_exact (codes "LGCC") FitParts (λ (x : Parts). u8_field 1 ++ encode_parts x) (after (u8_field 1) (both database_at records_at))
    (after_exact (u8_field 1) FitParts encode_parts (both database_at records_at)
    (both_exact (λ (d : List ℕ). is_database_name d ≡ true) FitRecords short_field records_bytes database_at records_at database_exact records_exact)))

-- ---- the bytes

chain_bytes-is : (c : Chain) → chain_bytes c ≡ encoded c
unfolding chain_bytes
chain_bytes-is c = refl

pub chain_found : (bytes : List ℕ) (found : Option Chain) → IsBytes bytes → found ≡ whole chain_at bytes → IfSome found (λ c. IsChain c × (bytes ≡ chain_bytes c))
chain_found bytes None fits read = tt
chain_found bytes (Some c) fits read =
    let t = whole_sound IsChain encoded chain_at chain_exact bytes c fits (sym read) in
    (t.0, t.1 ∙ sym (chain_bytes-is c))

pub chain_only : (bytes : List ℕ) (c : Chain) → IsChain c → bytes ≡ chain_bytes c → whole chain_at bytes ≡ Some c
chain_only bytes c is same = ap (whole chain_at) (same ∙ chain_bytes-is c) ∙ whole_complete IsChain encoded chain_at chain_exact c is

pub equal_chains : (c d : Chain) → IsChain c → IsChain d → chain_bytes c ≡ chain_bytes d → c ≡ d
equal_chains c d is js same =
    let one : Some c ≡ Some d = sym (chain_only (chain_bytes c) c is refl) ∙ chain_only (chain_bytes c) d js same in
    cc
