-- A transaction whose trees have no leaf left no event.
use Rattle.std.proofs.Common.{◌≡◌, ◌≢◌, ℕ, ◌+◌, ◌≤◌, Bool, true, false, List, [], ◌∷◌, ◌++◌, map, flat_map, refl, sym, ap, ◌∙◌, subst, inl, inr, ⊎_elim, ◌⊎◌, arith}
use Rattle.std.proofs.lemmas.Bool.{cases_eq}
use Rattle.std.specs.Prelude.{◌&&◌}
use Rattle.std.specs.List.{AllByRecursion, list_all}
use Rattle.sql_types.specs.declared.event.Event.{Event}
use Rattle.spec_model.specs.Agreement.{IdsFrom}
use Rattle.spec_model.specs.Catalog.{Tables, defs_of, versions_of}
use Rattle.spec_model.specs.Events.{events_of, all_events}
use Rattle.law_frame.proofs.UndoneTables.{own_versions}
use Rattle.spec_history.specs.Lists.{Text, Each, In}
use Rattle.spec_protocol.specs.Seats.{Tree}
use Rattle.spec_protocol.specs.Server.{Server}
use Rattle.spec_protocol.specs.EventsIn.{events_in}
use Rattle.spec_protocol.specs.LedgerVisits.{is_empty}
use Rattle.spec_protocol.specs.TreesAreOfEvents.{AreTrees}
use Rattle.law_protocol_steps.proofs.Ids.{each_in}
use Rattle.format_event.specs.Leaf.{event_bytes}

is_nil : (xs : List Text) → is_empty xs ≡ true → xs ≡ []
is_nil [] e = refl
is_nil (x ∷ xs) e = cc

both_true : (a b : Bool) → (a && b) ≡ true → (a ≡ true) × (b ≡ true)
both_true true b e = (refl, e)
both_true false b e = cc

no_leaves : (trees : List Tree) → list_all (λ t. is_empty t.leaves) trees ≡ true → Each (λ t. t.leaves ≡ []) trees
no_leaves [] e = tt
no_leaves (t ∷ ts) e = let p = both_true (is_empty t.leaves) (list_all (λ u. is_empty u.leaves) ts) e in (is_nil t.leaves p.0, no_leaves ts p.1)

-- the tree of this table, if there is one
pub record TreeOf (id : ℕ) (trees : List Tree) : Type 0 where
  pub tree : Tree
  pub is : In tree trees
  pub of : tree.table ≡ id

tree_or_none : (id : ℕ) (trees : List Tree) → TreeOf id trees ⊎ Each (λ t. t.table ≢ id) trees
tree_or_none id [] = inr tt
tree_or_none id (t ∷ ts) = ⊎_elim
    (λ (e : t.table ≡ id). inl (record { tree = t; is = inl refl; of = e }))
    (λ (ne : t.table ≢ id). ⊎_elim (λ (r : TreeOf id ts). inl (record { tree = r.tree; is = inr r.is; of = r.of })) (λ (r : Each (λ t. t.table ≢ id) ts). inr (ne, r)) (tree_or_none id ts))
    (cases_eq t.table id)

no_map : (v : Server) (es : List Event) → map event_bytes es ≡ [] → es ≡ []
no_map v [] e = refl
no_map v (x ∷ xs) e = cc

pub no_events : (v : Server) (events : ℕ → List Event) (trees : List Tree) → AreTrees events trees → list_all (λ t. is_empty t.leaves) trees ≡ true → (id : ℕ) → 1 ≤ id → events id ≡ []
no_events v events trees h e id l = ⊎_elim
    (λ (r : TreeOf id trees). subst (λ n. events n ≡ []) r.of (no_map v (events r.tree.table) (sym (each_in (λ t. t.leaves ≡ map event_bytes (events t.table)) trees r.tree h.leaves r.is) ∙ each_in (λ t. t.leaves ≡ []) trees r.tree (no_leaves trees e) r.is)))
    (λ (r : Each (λ t. t.table ≢ id) trees). h.others id l r)
    (tree_or_none id trees)

-- where no table has one there is none
module _ (tx : ℕ) (U : Tables) (none : (id : ℕ) → 1 ≤ id → events_in tx id (versions_of U id) ≡ []) where
  in_tables : (k : ℕ) (T : Tables) → 1 ≤ k → IdsFrom k (defs_of T) → AllByRecursion (λ t. versions_of U t.def.id ≡ t.versions) T → all_events tx T ≡ []
  unfolding all_events events_of
  in_tables k [] l ids own = refl
  in_tables k (t ∷ ts) l ids own = (λ i. one i ++ flat_map (events_of tx) ts) ∙ in_tables (k + 1) ts (omega arith) ids.1 own.1
    where
      one : events_of tx t ≡ []
      one = ap (events_in tx t.def.id) (sym own.0) ∙ none t.def.id (let e = ids.0 in omega arith)

  pub none_at_all : IdsFrom 1 (defs_of U) → all_events tx U ≡ []
  none_at_all ids = in_tables 1 U (omega arith) ids (own_versions 1 U ids)
