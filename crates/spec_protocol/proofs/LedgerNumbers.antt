-- The numbers of blocks and pending entries of a ledger that is legal.
use Rattle.std.proofs.Common.{◌≡◌, ℕ, suc, ◌+◌, ◌-◌, List, [], ◌∷◌, length, drop, ap, ◌∙◌, refl, length-append, arith}
use Rattle.std.proofs.lemmas.List.{length-drop}
use Rattle.sql_types.specs.declared.entry.TxEntry.{TxEntry}
use Rattle.spec_model.specs.Journals.{tx_count, closed}
use Rattle.spec_history.specs.Journals.{blocks}
use Rattle.law_blocks.specs.Entries.{placed}
use Rattle.law_blocks.specs.Ledger.{Ledger, ledger_of}
use Rattle.law_blocks.proofs.Staying.{blocks_counted}
use Rattle.law_blocks.proofs.Counting.{entries_counted, closed_counted}
use Rattle.spec_protocol.specs.Cells.{LedgerCell, pending_in, blocks_in}
use Rattle.spec_protocol.specs.LedgerIsLegal.{LedgerIsLegal}
use Rattle.spec_protocol.specs.LedgerVisits.{closed_by}
use Rattle.spec_protocol.specs.Server.{Server}

pub blocks_are : (v : Server) (c : LedgerCell) → LedgerIsLegal v c → blocks_in c ≡ blocks c.items
blocks_are v c l = ap (λ (m : Ledger). length m.blocks) l.chain ∙ blocks_counted v.hash v.reads c.items

pub pending_are : (v : Server) (c : LedgerCell) → LedgerIsLegal v c → closed c.items + pending_in c ≡ tx_count c.items
pending_are v c l = let m : Ledger = ledger_of v.hash v.reads c.items in
    omega (arith, ap (λ (m : Ledger). length m.pending) l.chain, entries_counted v.hash v.reads c.items, closed_counted v.hash v.reads c.items l.legal, length-append m.closed m.pending)

placed_all : (block ordinal : ℕ) (es : List TxEntry) → length (placed block ordinal es) ≡ length es
placed_all block ordinal [] = refl
placed_all block ordinal (e ∷ es) = ap suc (placed_all block (ordinal + 1) es)

-- a closing takes so many
pub pending_after : (v : Server) (n : ℕ) (c : LedgerCell) → pending_in (closed_by v.hash n c) ≡ pending_in c - n
pending_after v n c = placed_all (length c.chain.blocks + 1) 0 (drop n c.chain.pending) ∙ length-drop n c.chain.pending
