-- What a SELECT shows, and how it is refused, once its table is found.
use Rattle.std.proofs.Common.{◌≡◌, sym, ap, subst, ◌∙◌, List, Option, Some, Ok, Err}
use Rattle.sql_value.specs.declared.refusal.Refusal.{Refusal}
use Rattle.sql_value.specs.declared.refusal.Refusal.TheVariants.{NoSuchTable}
use Rattle.sql_types.specs.declared.statement.Select.{Select}
use Rattle.sql_types.specs.declared.version.Version.{Version}
use Rattle.spec_model.specs.Catalog.{Defs, NamedPart, find_part}
use Rattle.spec_model.specs.Effect.{query_rows}
use Rattle.spec_model.specs.Parts.{columns_of}
use Rattle.spec_model.specs.Query.{select_check, query_check}
use Rattle.spec_model.specs.Refusals.{Checked, MatchesUnlessOom, and_then, or_refused}
use Rattle.spec_model.specs.Rows.{Row}

module _ (defs : Defs) (q : Select) (n : NamedPart) (vs : List Version) (result : Checked (List Row)) (found : find_part defs q.table ≡ Some n)
    (shown : MatchesUnlessOom (and_then (select_check (columns_of n.0 n.1) q) (λ passed. query_rows q n vs)) result) where
  checked : query_check defs q ≡ and_then (select_check (columns_of n.0 n.1) q) (λ passed. Ok n)
  unfolding query_check
  checked = ap (λ (o : Option NamedPart). and_then (or_refused NoSuchTable o) (λ m. and_then (select_check (columns_of m.0 m.1) q) (λ passed. Ok m))) found

  by_rows : (m : Checked (Unit {0})) (x : NamedPart) → and_then m (λ passed. Ok n) ≡ Ok x → MatchesUnlessOom (and_then m (λ passed. query_rows q n vs)) result → (n ≡ x) × MatchesUnlessOom (query_rows q n vs) result
  by_rows (Ok u) x e g = (cc, g)
  by_rows (Err r) x e g = cc

  by_refusal : (m : Checked (Unit {0})) (r : Refusal) → and_then m (λ passed. Ok n) ≡ Err r → MatchesUnlessOom (and_then m (λ passed. query_rows q n vs)) result → MatchesUnlessOom (Err r) result
  by_refusal (Ok u) r e g = cc
  by_refusal (Err k) r e g = let same : k ≡ r = cc in subst (λ (s : Refusal). MatchesUnlessOom (Err s) result) same g

  pub shown_rows : (x : NamedPart) → query_check defs q ≡ Ok x → (n ≡ x) × MatchesUnlessOom (query_rows q n vs) result
  shown_rows x e = by_rows (select_check (columns_of n.0 n.1) q) x (sym checked ∙ e) shown

  pub shown_refused : (r : Refusal) → query_check defs q ≡ Err r → MatchesUnlessOom (Err r) result
  shown_refused r e = by_refusal (select_check (columns_of n.0 n.1) q) r (sym checked ∙ e) shown
