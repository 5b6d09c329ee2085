-- Wrong roots of entries, told by the starts and ends of tables in order.
use Rattle.std.specs.Prelude.{ℕ, ◌==◌, ◌&&◌, not, Bool, List, ◌++◌, map, take, drop, Option}
use Rattle.std.specs.List.{filter, list_any}
use Rattle.std.specs.Ordering.{nat_cmp}
use Rattle.sql_types.specs.declared.entry.TxEntry.{TxEntry}
use Rattle.spec_model.specs.Catalog.{Tables}
use Rattle.law_catalog_rows.specs.Least.{least}
use Rattle.spec_verify.specs.Entries.{TableRoot, root_at, same_root}
use Rattle.spec_verify.specs.First.{first_from}
use Rattle.spec_verify.specs.Groups.{Found, first_found, found_at}
use Rattle.audit_roots.specs.declared.marks.Mark.{Mark}
use Rattle.audit_roots.specs.declared.shown.ImageTable.{ImageTable}
use Rattle.audit_roots.specs.Groups.{is_table}
use Rattle.audit_roots.specs.Roots.{roots_in, run_in}
use Rattle.audit_roots.specs.ImageTable.{def_of}

abbrev pub is_shown : List ImageTable → ℕ → Bool
is_shown tables id = list_any (λ (s : ImageTable). (def_of s).id == id) tables

-- the tables in which two lists have another root, or of which only one has one: of the roots of the first
-- those for these tables count
abbrev pub wrong_roots : Tables → List TableRoot → List TableRoot → List ℕ
wrong_roots tables a b =
    filter (λ t. not (same_root (root_at a t) (root_at b t)) && is_table tables t)
    (map (λ (r : TableRoot). r.0) a)
    ++ filter (λ t. not (same_root (root_at a t) (root_at b t))) (map (λ (r : TableRoot). r.0) b)

module _ (h : List ℕ → List ℕ) (tables : Tables) (marks : List Mark) where
  abbrev pub wrong_by_marks : TxEntry → Option ℕ
  wrong_by_marks e = least nat_cmp (wrong_roots tables e.roots (roots_in h (run_in e.id marks)))

  abbrev pub wrong_told : List TxEntry → Option (Found ℕ)
  wrong_told entries = first_found (λ k e. wrong_by_marks e) entries

  -- of so many entries, from the one at this place on
  abbrev pub wrong_part : List TxEntry → ℕ → ℕ → Option (Found ℕ)
  wrong_part entries from count =
      first_from (λ (k : ℕ) (e : TxEntry). found_at k (wrong_by_marks e)) from (take count (drop from entries))
