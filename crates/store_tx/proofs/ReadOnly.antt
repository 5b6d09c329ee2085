-- Whether a transaction left no event, by the counts of its trees.
use Rattle.std.proofs.Common.{◌≡◌, ◌≢◌, ℕ, ◌+◌, ◌<◌, ◌≤◌, Bool, true, false, List, [], ◌∷◌, Option, Some, None, length, map, take, get_or, refl, sym, ap, ◌∙◌, subst, ⊎_elim, arith}
use Rattle.std.specs.Prelude.{◌&&◌}
use Rattle.std.specs.List.{list_all}
use Rattle.std.proofs.lemmas.List.{take_all}
use Rattle.base_merkle.specs.declared.frontier.Frontier.{Frontier}
use Rattle.base_merkle.specs.Holds.{Holds}
use Rattle.spec_protocol.specs.Lists.{Each, In}
use Rattle.spec_protocol.specs.Serial.{Differ}
use Rattle.spec_protocol.specs.LedgerVisits.{is_empty}
use Rattle.spec_protocol.specs.Seats.{Tree}
use Rattle.store_tx.specs.Leaves.{leaves_in}
use Rattle.store_tx.specs.Trees.{tree_of, tables_of, IsTree, TreesHold}
use Rattle.store_tx.specs.declared.tree.TableTree.{TableTree}
use Rattle.store_tx.proofs.RootsMade.{each_more, has_leaves, has_tree, holds_at, holds_each, leaves_are, one_more}
use Rattle.store_tx.proofs.Sorting.{each_in, in_each}

abbrev are_quiet : List Tree → Bool
are_quiet trees = list_all (λ t. is_empty t.leaves) trees

module _ {H : Type 0} (digest : H → List ℕ → List ℕ) where
  -- the trees before this place have no leaf
  abbrev pub NoLeafSoFar : List (TableTree H) → ℕ → Type 0
  NoLeafSoFar ts i = (h : H) (leaves : ℕ → List (List ℕ))
      → Each (λ t. Holds digest h t.frontier (leaves t.table)) ts → Each (λ t. leaves t.table ≡ []) (take i ts)

  none_of : (count : ℕ) (xs : List (List ℕ)) → count ≡ length xs → count ≡ 0 → xs ≡ []
  none_of count [] is none = refl
  none_of count (x ∷ xs) is none = absurd (omega (arith, is, none))

  pub quiet_more : (ts : List (TableTree H)) (i : ℕ) (t : TableTree H) (count : ℕ)
      → i < length ts → t ≡ get_or ts i t → count ≡ 0
      → ((h : H) (leaves : List (List ℕ)) → Holds digest h t.frontier leaves → count ≡ length leaves)
      → NoLeafSoFar ts i → NoLeafSoFar ts (i + 1)
  quiet_more ts i t count within is none counts so h leaves holds =
      subst (λ us. Each (λ u. leaves u.table ≡ []) us) (sym (one_more digest ts i t within is))
      (each_more digest (digest h) leaves (λ u. leaves u.table ≡ []) t (take i ts) (so h leaves holds)
      (none_of count (leaves t.table)
      (counts h (leaves t.table)
      (holds_at digest (λ u. Holds digest h u.frontier (leaves u.table)) ts i t holds within is)) none))

each_quiet : (trees : List Tree) → Each (λ u. u.leaves ≡ []) trees → are_quiet trees ≡ true
each_quiet [] e = refl
each_quiet (u ∷ us) e = rw e.0 (each_quiet us e.1)

module _ {H : Type 0} (digest : H → List ℕ → List ℕ) (h : H) (ts : List (TableTree H)) (trees : List Tree)
    (differ : Differ (tables_of ts)) (model_differs : Differ (map (λ t. t.table) trees))
    (hold : TreesHold digest h ts trees) where
  each_holds : Each (λ t. Holds digest h t.frontier (leaves_in t.table trees)) ts
  each_holds = holds_each digest h ts trees differ model_differs hold

  -- ---- where no tree has a leaf

  module _ (none : Each (λ t. leaves_in t.table trees ≡ []) ts) where
    none_in : (table : ℕ) → leaves_in table trees ≡ []
    none_in table = by (tree_of table ts) refl (hold table)
      where
        by : (o : Option (Frontier H)) → tree_of table ts ≡ o → IsTree digest h o (leaves_in table trees)
            → leaves_in table trees ≡ []
        by None e is = is
        by (Some f) e is =
            let t = has_tree table ts f e in
            ap (λ n. leaves_in n trees) (sym t.table)
            ∙ each_in (λ t. leaves_in t.table trees ≡ []) ts t.t none t.there

    all_quiet : are_quiet trees ≡ true
    all_quiet = each_quiet trees (in_each (λ u. u.leaves ≡ []) trees
        (λ u there. sym (leaves_are trees u model_differs there) ∙ none_in u.table))

  -- ---- where one has

  loud : (us : List Tree) (u : Tree) → In u us → u.leaves ≢ [] → are_quiet us ≡ false
  loud [] u there some = absurd there
  loud (v ∷ us) u there some = by v.leaves refl (λ behind. loud us u behind some)
    where
      both : (b : Bool) → are_quiet us ≡ false → (b && are_quiet us) ≡ false
      both true e = e
      both false e = refl

      by : (xs : List (List ℕ)) → v.leaves ≡ xs → (In u us → are_quiet us ≡ false)
          → (is_empty v.leaves && are_quiet us) ≡ false
      by (x ∷ xs) e rest = rw e refl
      by [] e rest = both (is_empty v.leaves) (⊎_elim
          (λ (same : v ≡ u). absurd (some (ap (λ (w : Tree). w.leaves) (sym same) ∙ e))) rest there)

  module _ (i : ℕ) (t : TableTree H) (count : ℕ) (within : i < length ts) (is : t ≡ get_or ts i t)
      (some : count ≢ 0)
      (counts : (h : H) (leaves : List (List ℕ)) → Holds digest h t.frontier leaves → count ≡ length leaves) where
    has_some : leaves_in t.table trees ≢ []
    has_some none = some
        (counts h (leaves_in t.table trees)
        (holds_at digest (λ u. Holds digest h u.frontier (leaves_in u.table trees)) ts i t each_holds within is)
        ∙ ap length none)

    not_quiet : are_quiet trees ≡ false
    not_quiet =
        let u = has_leaves t.table trees has_some in
        loud trees u.u u.there (λ none. has_some (sym u.leaves ∙ none))

pub quiet_to_the_end : {H : Type 0} (digest : H → List ℕ → List ℕ) (ts : List (TableTree H)) (i : ℕ)
    → length ts ≤ i → NoLeafSoFar digest ts i
    → (h : H) (trees : List Tree) → Differ (tables_of ts) → Differ (map (λ t. t.table) trees)
    → TreesHold digest h ts trees → true ≡ list_all (λ t. is_empty t.leaves) trees
quiet_to_the_end digest ts i all so h trees differ model_differs hold =
    sym (all_quiet digest h ts trees differ model_differs hold
    (subst (λ us. Each (λ t. leaves_in t.table trees ≡ []) us) (take_all i ts all)
    (so h (λ table. leaves_in table trees) (each_holds digest h ts trees differ model_differs hold))))

pub loud_there : {H : Type 0} (digest : H → List ℕ → List ℕ) (ts : List (TableTree H)) (i : ℕ)
    (t : TableTree H) (count : ℕ) → i < length ts → t ≡ get_or ts i t → count ≢ 0
    → ((h : H) (leaves : List (List ℕ)) → Holds digest h t.frontier leaves → count ≡ length leaves)
    → (h : H) (trees : List Tree) → Differ (tables_of ts) → Differ (map (λ t. t.table) trees)
    → TreesHold digest h ts trees → false ≡ list_all (λ t. is_empty t.leaves) trees
loud_there digest ts i t count within is some counts h trees differ model_differs hold =
    sym (not_quiet digest h ts trees differ model_differs hold i t count within is some counts)
