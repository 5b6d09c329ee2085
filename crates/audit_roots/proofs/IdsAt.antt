-- The id of the entry at a place.
use Rattle.std.proofs.Common.{◌≡◌, ◌<◌, ◌≤◌, ℕ, zero, suc, true, nat_lt, List, [], ◌∷◌, length, get_or, refl, arith, sym, ap}
use Rattle.std.proofs.lemmas.Bool.{ltb-true}
use Rattle.sql_types.specs.declared.entry.TxEntry.{TxEntry}
use Rattle.audit_roots.specs.Groups.{id_at}

id_of : (es : List TxEntry) (k : ℕ) (e : TxEntry) → k < length es → e ≡ get_or es k e → e.id ≡ id_at es k
id_of [] k e lt is = absurd (omega (arith, lt))
id_of (x ∷ xs) zero e lt is = ap (λ (y : TxEntry). y.id) is
id_of (x ∷ xs) (suc k) e lt is = id_of xs k e (omega (arith, lt)) is

pub id_some : (es : List TxEntry) (k : ℕ) (e : TxEntry) → true ≡ nat_lt k (length es) → e ≡ get_or es k e → e.id ≡ id_at es k
id_some es k e within is = id_of es k e (ltb-true k (length es) (sym within)) is

pub id_none : (es : List TxEntry) (k : ℕ) → length es ≤ k → 0 ≡ id_at es k
id_none [] k le = refl
id_none (x ∷ xs) zero le = absurd (omega (arith, le))
id_none (x ∷ xs) (suc k) le = id_none xs k (omega (arith, le))
