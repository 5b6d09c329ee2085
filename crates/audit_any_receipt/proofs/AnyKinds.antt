-- The kinds of receipts are told by their bytes.
use Rattle.std.proofs.Common.{◌≡◌, ◌<◌, ◌+◌, ◌*◌, ℕ, List, [], ◌∷◌, Option, Some, None, refl, ap, arith}
use Rattle.format_receipt.specs.declared.receipt.Receipt.{Receipt}
use Rattle.format_receipt.specs.Receipts.{receipt_bytes, IsReceipt}
use Rattle.format_receipt.proofs.ReceiptExact.{equal_receipts}
use Rattle.format_chain.specs.declared.chain.Chain.{Chain}
use Rattle.format_chain.specs.Chains.{chain_bytes, IsChain}
use Rattle.format_chain.proofs.ChainExact.{equal_chains}
use Rattle.format_row_receipt.specs.declared.row_receipt.RowReceipt.{RowReceipt}
use Rattle.format_row_receipt.specs.declared.table_receipt.TableReceipt.{TableReceipt}
use Rattle.format_row_receipt.specs.RowReceipts.{row_receipt_bytes, table_receipt_bytes, IsRowReceipt, IsTableReceipt}
use Rattle.format_row_receipt.proofs.RowExact.{equal_rows, equal_tables}
use Rattle.audit_any_receipt.specs.declared.any.AnyReceipt.{AnyReceipt}
use Rattle.audit_any_receipt.specs.declared.any.AnyReceipt.TheVariants as kinds
use Rattle.audit_any_receipt.specs.Kinds.{IsAny, any_bytes, kind_number, ReadsAny, ReadsFrom}

-- ---- the third and the fourth byte of each kind

abbrev kind_of : List ℕ → ℕ
kind_of (a ∷ b ∷ c ∷ d ∷ rest) = c * 256 + d
kind_of bytes = 0

entry_kind : (r : Receipt) → kind_of (receipt_bytes r) ≡ 21059
unfolding receipt_bytes
entry_kind r = refl

table_kind : (r : TableReceipt) → kind_of (table_receipt_bytes r) ≡ 21057
unfolding table_receipt_bytes
table_kind r = refl

event_kind : (r : RowReceipt) → kind_of (row_receipt_bytes r) ≡ 21074
unfolding row_receipt_bytes
event_kind r = refl

chain_kind : (c : Chain) → kind_of (chain_bytes c) ≡ 17219
unfolding chain_bytes
chain_kind c = refl

-- ---- no two have one spelling

pub equal_any : (r s : AnyReceipt) → IsAny r → IsAny s → any_bytes r ≡ any_bytes s → r ≡ s
equal_any (kinds.Entry r) (kinds.Entry s) f g e = ap (λ (x : Receipt). kinds.Entry x) (equal_receipts r s f g e)
equal_any (kinds.Entry r) (kinds.Table s) f g e = absurd (omega (arith, entry_kind r, table_kind s, ap kind_of e))
equal_any (kinds.Entry r) (kinds.Event s) f g e = absurd (omega (arith, entry_kind r, event_kind s, ap kind_of e))
equal_any (kinds.Entry r) (kinds.Chain s) f g e = absurd (omega (arith, entry_kind r, chain_kind s, ap kind_of e))
equal_any (kinds.Table r) (kinds.Entry s) f g e = absurd (omega (arith, table_kind r, entry_kind s, ap kind_of e))
equal_any (kinds.Table r) (kinds.Table s) f g e = ap (λ (x : TableReceipt). kinds.Table x) (equal_tables r s f g e)
equal_any (kinds.Table r) (kinds.Event s) f g e = absurd (omega (arith, table_kind r, event_kind s, ap kind_of e))
equal_any (kinds.Table r) (kinds.Chain s) f g e = absurd (omega (arith, table_kind r, chain_kind s, ap kind_of e))
equal_any (kinds.Event r) (kinds.Entry s) f g e = absurd (omega (arith, event_kind r, entry_kind s, ap kind_of e))
equal_any (kinds.Event r) (kinds.Table s) f g e = absurd (omega (arith, event_kind r, table_kind s, ap kind_of e))
equal_any (kinds.Event r) (kinds.Event s) f g e = ap (λ (x : RowReceipt). kinds.Event x) (equal_rows r s f g e)
equal_any (kinds.Event r) (kinds.Chain s) f g e = absurd (omega (arith, event_kind r, chain_kind s, ap kind_of e))
equal_any (kinds.Chain r) (kinds.Entry s) f g e = absurd (omega (arith, chain_kind r, entry_kind s, ap kind_of e))
equal_any (kinds.Chain r) (kinds.Table s) f g e = absurd (omega (arith, chain_kind r, table_kind s, ap kind_of e))
equal_any (kinds.Chain r) (kinds.Event s) f g e = absurd (omega (arith, chain_kind r, event_kind s, ap kind_of e))
equal_any (kinds.Chain r) (kinds.Chain s) f g e = ap (λ (x : Chain). kinds.Chain x) (equal_chains r s f g e)

-- ---- what the readers find

module _ (bytes : List ℕ) where
  pub any_from : ((r : Receipt) → IsReceipt r → bytes ≡ receipt_bytes r → None ≡ Some r) → (read : Option AnyReceipt) → ReadsFrom 1 bytes read → ReadsAny bytes read
  any_from only (Some r) reads = reads
  any_from only None reads = λ r spells. by r spells.0 spells.1 (reads r spells)
    where
      by : (r : AnyReceipt) → IsAny r → bytes ≡ any_bytes r → kind_number r < 1 → ⊥
      by (kinds.Entry r) f e lt = let never : None ≡ Some r = only r f e in absurd cc
      by (kinds.Table r) f e lt = absurd (omega (arith, lt))
      by (kinds.Event r) f e lt = absurd (omega (arith, lt))
      by (kinds.Chain c) f e lt = absurd (omega (arith, lt))

  pub table_from : ((r : TableReceipt) → IsTableReceipt r → bytes ≡ table_receipt_bytes r → None ≡ Some r) → (read : Option AnyReceipt) → ReadsFrom 2 bytes read → ReadsFrom 1 bytes read
  table_from only (Some r) reads = reads
  table_from only None reads = λ r spells. by r spells.0 spells.1 (reads r spells)
    where
      by : (r : AnyReceipt) → IsAny r → bytes ≡ any_bytes r → kind_number r < 2 → kind_number r < 1
      by (kinds.Entry r) f e lt = omega arith
      by (kinds.Table r) f e lt = let never : None ≡ Some r = only r f e in absurd cc
      by (kinds.Event r) f e lt = absurd (omega (arith, lt))
      by (kinds.Chain c) f e lt = absurd (omega (arith, lt))

  pub event_from : ((r : RowReceipt) → IsRowReceipt r → bytes ≡ row_receipt_bytes r → None ≡ Some r) → (read : Option AnyReceipt) → ReadsFrom 3 bytes read → ReadsFrom 2 bytes read
  event_from only (Some r) reads = reads
  event_from only None reads = λ r spells. by r spells.0 spells.1 (reads r spells)
    where
      by : (r : AnyReceipt) → IsAny r → bytes ≡ any_bytes r → kind_number r < 3 → kind_number r < 2
      by (kinds.Entry r) f e lt = omega arith
      by (kinds.Table r) f e lt = omega arith
      by (kinds.Event r) f e lt = let never : None ≡ Some r = only r f e in absurd cc
      by (kinds.Chain c) f e lt = absurd (omega (arith, lt))

  pub chain_from : ((c : Chain) → IsChain c → bytes ≡ chain_bytes c → None ≡ Some c) → ReadsFrom 3 bytes None
  chain_from only = λ r spells. by r spells.0 spells.1
    where
      by : (r : AnyReceipt) → IsAny r → bytes ≡ any_bytes r → kind_number r < 3
      by (kinds.Entry r) f e = omega arith
      by (kinds.Table r) f e = omega arith
      by (kinds.Event r) f e = omega arith
      by (kinds.Chain c) f e = let never : None ≡ Some c = only c f e in absurd cc
