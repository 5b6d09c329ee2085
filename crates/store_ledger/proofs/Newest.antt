-- The digest of the newest block, where nothing is pending.
use Rattle.std.proofs.Common.{◌≡◌, ◌≤◌, ◌<◌, ℕ, zero, suc, ◌+◌, ◌-◌, List, [], ◌∷◌, ◌++◌, length, map, refl, ap, sym, subst, ◌∙◌, arith, Some, append-nil, get_or}
use Rattle.std.specs.Prelude.{slice_get}
use Rattle.sql_types.specs.declared.entry.BlockRecord.{BlockRecord}
use Rattle.sql_types.specs.declared.entry.TxEntry.{TxEntry}
use Rattle.spec_model.specs.Journals.{tx_count}
use Rattle.spec_ledger.specs.Blocks.{no_hash, last_hash}
use Rattle.spec_protocol.specs.Cells.{LedgerCell, pending_in}
use Rattle.store_ledger.specs.HashedCell.{IsCounted}
use Rattle.store_ledger.specs.Issues.{IsOfNewest}

pub nothing : {A : Type 0} (xs : List A) → length xs ≡ 0 → xs ≡ []
nothing [] none = refl
nothing (x ∷ xs) none = absurd (omega (arith, none))

time_at : (es : List TxEntry) (i : ℕ) (e : TxEntry) → i < length es → e ≡ get_or es i e
    → slice_get (map (λ x. x.time) es) i ≡ Some e.time
time_at [] i e lt is = absurd (omega (arith, lt))
time_at (x ∷ xs) zero e lt is = ap (λ (y : TxEntry). Some y.time) (sym is)
time_at (x ∷ xs) (suc i) e lt is = time_at xs i e (omega (arith, lt)) is

module _ (h : List ℕ → List ℕ) (c : LedgerCell) (all : List TxEntry) (last : TxEntry)
    (blocks : List BlockRecord)
    (hash name : List ℕ) (made : ℕ)
    (counted : IsCounted c.block_size c.items c.next c.chain)
    (none_pending : pending_in c ≡ 0)
    (some : 1 ≤ tx_count c.items)
    (entries : all ≡ c.chain.closed ++ c.chain.pending)
    (is_last : last ≡ get_or all (length all - 1) last)
    (blocks_are : blocks ≡ c.chain.blocks)
    (keeps : hash ≡ last_hash h no_hash c.chain.blocks)
    (same_name : name ≡ c.database) where
  some_closed : 1 ≤ length c.chain.closed
  some_closed = omega (arith, counted.entries, none_pending, some)

  all_are_closed : all ≡ c.chain.closed
  all_are_closed =
      entries ∙ ap (λ (l : List TxEntry). c.chain.closed ++ l) (nothing c.chain.pending none_pending)
      ∙ append-nil c.chain.closed

  one_block : (n : ℕ) → length c.chain.blocks ≡ n → n ≡ n - 1 + 1
  one_block zero none = absurd (let empty = counted.in_blocks none in omega (arith, empty, some_closed))
  one_block (suc n) more = omega arith

  pub newest : IsOfNewest h c (record {
    database = name;
    block = length blocks - 1;
    hash = hash;
    last_commit = last.time;
    made = made;
  })
  newest = record {
    database = same_name;
    newest = subst (λ (bs : List BlockRecord). length c.chain.blocks ≡ length bs - 1 + 1)
        (sym blocks_are) (one_block (length c.chain.blocks) refl);
    hash = keeps;
    last = time_at c.chain.closed (length c.chain.closed - 1) last (omega (arith, some_closed))
        (subst (λ (l : List TxEntry). last ≡ get_or l (length l - 1) last) all_are_closed is_last);
  }
