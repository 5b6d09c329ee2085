-- What the first entry of a transaction tells.
use Rattle.std.proofs.Common.{◌≡◌, ◌≤◌, ◌<◌, ℕ, zero, suc, Bool, true, false, List, [], ◌∷◌, Some, None, refl, ◌∙◌, ap, subst}
use Rattle.std.specs.Prelude.{◌==◌, ◌&&◌, nat_le, if◌then◌else◌}
use Rattle.std.specs.List.{slice_get}
use Rattle.std.proofs.lemmas.Bool.{eqb-true, eq-eqb, leb-true, leb-false}
use Rattle.sql_types.specs.declared.entry.TxEntry.{TxEntry}
use Rattle.audit_receipt.specs.Made.{entry_of}

pub record Found (es : List TxEntry) (tx b : ℕ) (e : TxEntry) : Type 0 where
  pub place : ℕ
  pub there : slice_get es place ≡ Some e
  pub of : e.id ≡ tx
  pub within : e.block ≤ b

both_true : (a b : Bool) → (a && b) ≡ true → (a ≡ true) × (b ≡ true)
both_true true b e = (refl, e)
both_true false b e = cc

found_if : (t : Bool) (x e : TxEntry) (es : List TxEntry) (tx b : ℕ) → (x.id == tx && nat_le x.block b) ≡ t → (if t then Some x else entry_of tx b es) ≡ Some e
    → (entry_of tx b es ≡ Some e → Found es tx b e) → Found (x ∷ es) tx b e
found_if true x e es tx b test at next =
    let same : x ≡ e = cc in
    let t = both_true (x.id == tx) (nat_le x.block b) test in
    subst (Found (x ∷ es) tx b) same (record { place = 0; there = refl; of = eqb-true x.id tx t.0; within = leb-true x.block b t.1 })
found_if false x e es tx b test at next = let f = next at in record { place = suc f.place; there = f.there; of = f.of; within = f.within }

pub found : (es : List TxEntry) (tx b : ℕ) (e : TxEntry) → entry_of tx b es ≡ Some e → Found es tx b e
found [] tx b e at = cc
found (x ∷ es) tx b e at = found_if (x.id == tx && nat_le x.block b) x e es tx b refl at (found es tx b e)

abbrev None_of : List TxEntry → ℕ → ℕ → Type 0
None_of es tx b = (k : ℕ) (e : TxEntry) → slice_get es k ≡ Some e → e.id ≡ tx → b < e.block

behind : (x : TxEntry) (tx b : ℕ) → x.id ≡ tx → (x.id == tx && nat_le x.block b) ≡ false → b < x.block
behind x tx b of test = by (nat_le x.block b) refl
  where
    by : (t : Bool) → nat_le x.block b ≡ t → b < x.block
    by true e = let all : (x.id == tx && nat_le x.block b) ≡ true = rw (eq-eqb x.id tx of, e) refl in absurd cc
    by false e = leb-false x.block b e

none_if : (t : Bool) (x : TxEntry) (es : List TxEntry) (tx b : ℕ) → (x.id == tx && nat_le x.block b) ≡ t → (if t then Some x else entry_of tx b es) ≡ None
    → (entry_of tx b es ≡ None → None_of es tx b) → None_of (x ∷ es) tx b
none_if true x es tx b test at next k e there of = cc
none_if false x es tx b test at next zero e there of =
    let same : x ≡ e = cc in
    subst (λ (y : TxEntry). b < y.block) same (behind x tx b (ap (λ (y : TxEntry). y.id) same ∙ of) test)
none_if false x es tx b test at next (suc k) e there of = next at k e there of

pub none_found : (es : List TxEntry) (tx b : ℕ) → entry_of tx b es ≡ None → None_of es tx b
none_found [] tx b at k e there of = cc
none_found (x ∷ es) tx b at k e there of = none_if (x.id == tx && nat_le x.block b) x es tx b refl at (none_found es tx b) k e there of
