-- The tables in which an entry has roots, by its position.
use Rattle.std.proofs.Common.{◌≡◌, ◌<◌, ◌≤◌, ℕ, zero, suc, arith, refl, sym, ap, ◌∙◌, true, List, [], ◌∷◌, length, get_or, map, nat_lt}
use Rattle.std.proofs.lemmas.Bool.{ltb-true}
use Rattle.std.specs.List.{list_all}
use Rattle.sql_types.specs.declared.entry.TxEntry.{TxEntry}
use Rattle.spec_rules.specs.OneStatement.{is_system_table}
use Rattle.spec_rules.specs.Places.{rooted_at}

at_place : (es : List TxEntry) (k : ℕ) (q : TxEntry) → k < length es → rooted_at es k ≡ map (λ (r : ℕ × List ℕ). r.0) (get_or es k q).roots
at_place [] k q lt = absurd (omega (arith, lt))
at_place (e ∷ es) zero q lt = refl
at_place (e ∷ es) (suc k) q lt = at_place es k q (omega (arith, lt))

past : (es : List TxEntry) (k : ℕ) → length es ≤ k → rooted_at es k ≡ []
past [] k le = refl
past (e ∷ es) zero le = absurd (omega (arith, le))
past (e ∷ es) (suc k) le = past es k (omega (arith, le))

pub some_rooted : (es : List TxEntry) (k : ℕ) (q : TxEntry) → true ≡ nat_lt k (length es) → q ≡ get_or es k q
    → list_all is_system_table (map (λ (r : ℕ × List ℕ). r.0) q.roots) ≡ list_all is_system_table (rooted_at es k)
some_rooted es k q within is =
    ap (λ (e : TxEntry). list_all is_system_table (map (λ (r : ℕ × List ℕ). r.0) e.roots)) is
    ∙ sym (ap (list_all is_system_table) (at_place es k q (ltb-true k (length es) (sym within))))

pub none_rooted : (es : List TxEntry) (k : ℕ) → length es ≤ k → true ≡ list_all is_system_table (rooted_at es k)
none_rooted es k le = sym (ap (list_all is_system_table) (past es k le))
