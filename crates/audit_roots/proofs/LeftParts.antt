-- What is left of an entry is told by the ids of all events.
use Rattle.std.proofs.Common.{◌≡◌, ◌==◌, ℕ, Bool, true, false, cond, List, map, filter, ap, ◌∙◌, Option, Some}
use Rattle.std.specs.Prelude.{not, option_map}
use Rattle.std.specs.Ordering.{nat_cmp}
use Rattle.sql_types.specs.declared.entry.TxEntry.{TxEntry}
use Rattle.spec_model.specs.Catalog.{Tables}
use Rattle.spec_model.specs.Rows.{EventId}
use Rattle.law_catalog_rows.specs.Least.{least}
use Rattle.spec_verify.specs.Entries.{TableRoot, are_numbered}
use Rattle.audit_roots.specs.declared.groups.Fault.TheVariants.{Numbers, Root}
use Rattle.audit_roots.specs.declared.shown.ImageTable.{ImageTable}
use Rattle.audit_roots.specs.EventIds.{AreIds, number_in, tx_in}
use Rattle.audit_roots.specs.Groups.{left_of, strange}
use Rattle.audit_roots.specs.ImageTable.{table_of}
use Rattle.audit_roots.specs.WrongRoots.{is_shown}
use Rattle.audit_roots.proofs.EventIds.{numbers_are}
use Rattle.audit_roots.proofs.WrongRoots.{shown_is}

module _ (ts : Tables) (e : TxEntry) (ids : List EventId) (are : AreIds ts ids) (own : List EventId) (own_is : own ≡ filter (λ (x : EventId). tx_in x == e.id) ids)
    (numbers : List ℕ) (numbers_seen : numbers ≡ map number_in own) where
  told : (b : Bool) → b ≡ are_numbered numbers → cond b (option_map Root (least nat_cmp (strange ts e))) (Some Numbers) ≡ left_of ts e
  told b is =
      ap (λ (c : Bool). cond c (option_map Root (least nat_cmp (strange ts e))) (Some Numbers))
      (is ∙ ap are_numbered (numbers_seen ∙ ap (map number_in) own_is) ∙ numbers_are e.id ts ids are)

  pub misnumbered : false ≡ are_numbered numbers → Some Numbers ≡ left_of ts e
  misnumbered fails = told false fails

module _ (ts : List ImageTable) (e : TxEntry) (ids : List EventId) (are : AreIds (map table_of ts) ids) (own : List EventId) (own_is : own ≡ filter (λ (x : EventId). tx_in x == e.id) ids)
    (numbers : List ℕ) (numbers_seen : numbers ≡ map number_in own) where
  pub by_roots : true ≡ are_numbered numbers → (found : Option ℕ)
      → found ≡ least nat_cmp (filter (λ (t : ℕ). not (is_shown ts t)) (map (λ (r : TableRoot). r.0) e.roots)) → option_map Root found ≡ left_of (map table_of ts) e
  by_roots holds found found_is =
      ap (option_map Root) (found_is ∙ ap (λ (p : ℕ → Bool). least nat_cmp (filter p (map (λ (r : TableRoot). r.0) e.roots))) (λ i t. not (shown_is ts t i)))
      ∙ told (map table_of ts) e ids are own own_is numbers numbers_seen true holds
