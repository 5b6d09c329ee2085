-- The roots of the trees of a context are those of its transaction's trees.
use Rattle.std.proofs.Common.{◌≡◌, ◌≢◌, ℕ, zero, suc, ◌+◌, ◌<◌, ◌≤◌, Bool, true, false, List, [], ◌∷◌, ◌++◌, Option, Some, None, length, map, take, get_or, refl, sym, ap, ap₂, ◌∙◌, subst, inl, inr, ⊎_elim, arith}
use Rattle.std.specs.Prelude.{◌==◌, not, if◌then◌else◌}
use Rattle.std.specs.List.{filter}
use Rattle.std.proofs.lemmas.Bool.{ne_eqb, eq-eqb, eqb-true}
use Rattle.std.proofs.lemmas.List.{take_all}
use Rattle.std.proofs.Math.Seq.{take-suc}
use Rattle.base_merkle.specs.declared.frontier.Frontier.{Frontier}
use Rattle.base_merkle.specs.Holds.{Holds}
use Rattle.base_merkle.specs.TreeHash.{tree_hash}
use Rattle.spec_model.specs.Lists.{inserted}
use Rattle.spec_protocol.specs.Lists.{Each, In}
use Rattle.spec_protocol.specs.Serial.{Differ}
use Rattle.spec_protocol.specs.LedgerVisits.{is_empty, with_leaves}
use Rattle.spec_protocol.specs.Seats.{Tree}
use Rattle.store_tx.specs.Leaves.{leaves_in}
use Rattle.store_tx.specs.Roots.{Root, by_root, with_root, roots_of_trees}
use Rattle.store_tx.specs.Trees.{tree_of, tables_of, IsTree, TreesHold}
use Rattle.store_tx.specs.declared.tree.TableTree.{TableTree}
use Rattle.store_tx.proofs.Sorting.{each_in, in_each, RisesBy, each_inserted, in_inserted, insert_rises, each_sorted, in_sorted, each_kept, in_kept, sorting_rises, same_list}

abbrev table_of_root : Root → ℕ
table_of_root r = r.0

-- ---- the trees of the context

module _ {H : Type 0} where
  in_tables : (t : TableTree H) (ts : List (TableTree H)) → In t ts → In t.table (tables_of ts)
  in_tables t [] i = absurd i
  in_tables t (u ∷ ts) i = ⊎_elim (λ (e : u ≡ t). inl (ap (λ t. t.table) e)) (λ (k : In t ts). inr (in_tables t ts k)) i

  found_in : (ts : List (TableTree H)) (t : TableTree H) → Differ (tables_of ts) → In t ts → tree_of t.table ts ≡ Some t.frontier
  found_in [] t d i = absurd i
  found_in (u ∷ ts) t d i = ⊎_elim
      (λ (e : u ≡ t). subst (λ v. tree_of v.table (u ∷ ts) ≡ Some v.frontier) e (let yes : (u.table == u.table) ≡ true = eq-eqb u.table u.table refl in rw yes refl))
      (λ (k : In t ts). let no : (u.table == t.table) ≡ false = ne_eqb u.table t.table (each_in (λ n. u.table ≢ n) (tables_of ts) t.table d.0 (in_tables t ts k)) in rw no (found_in ts t d.1 k))
      i

  pub record HasTree (id : ℕ) (ts : List (TableTree H)) (f : Frontier H) : Type 0 where
    pub t : TableTree H
    pub there : In t ts
    pub table : t.table ≡ id
    pub is : t.frontier ≡ f

  pub has_tree : (id : ℕ) (ts : List (TableTree H)) (f : Frontier H) → tree_of id ts ≡ Some f → HasTree id ts f
  has_tree id [] f e = cc
  has_tree id (t ∷ ts) f e = by (t.table == id) refl e (has_tree id ts f)
    where
      by : (b : Bool) → (t.table == id) ≡ b → (if b then Some t.frontier else tree_of id ts) ≡ Some f → (tree_of id ts ≡ Some f → HasTree id ts f) → HasTree id (t ∷ ts) f
      by true y k rest = record { t = t; there = inl refl; table = eqb-true t.table id y; is = (let same : t.frontier ≡ f = cc in same) }
      by false y k rest = let r = rest k in record { t = r.t; there = inr r.there; table = r.table; is = r.is }

-- ---- the loop

module _ {H : Type 0} (digest : H → List ℕ → List ℕ) where
  -- these roots are those of these trees, where each tree has the leaves of its table
  pub record Made (h : List ℕ → List ℕ) (leaves : ℕ → List (List ℕ)) (ts : List (TableTree H)) (roots : List Root) : Type 0 where
    pub rise : RisesBy table_of_root roots
    pub from : Each (λ z. (t : TableTree H) × In t ts × (leaves t.table ≢ []) × (z ≡ (t.table, tree_hash h (leaves t.table)))) roots
    pub all : Each (λ t. leaves t.table ≢ [] → In (t.table, tree_hash h (leaves t.table)) roots) ts

  abbrev pub MadeSoFar : List (TableTree H) → ℕ → List Root → Type 0
  MadeSoFar ts i roots = (h : H) (leaves : ℕ → List (List ℕ)) → Differ (tables_of ts) → Each (λ t. Holds digest h t.frontier (leaves t.table)) ts
      → Made (digest h) leaves (take i ts) roots

  module _ (h : List ℕ → List ℕ) (leaves : ℕ → List (List ℕ)) where
    abbrev From : List (TableTree H) → Root → Type 0
    From ts z = (t : TableTree H) × In t ts × (leaves t.table ≢ []) × (z ≡ (t.table, tree_hash h (leaves t.table)))

    in_more : (u t : TableTree H) (ts : List (TableTree H)) → In u ts → In u (ts ++ t ∷ [])
    in_more u t [] i = absurd i
    in_more u t (v ∷ ts) i = ⊎_elim (λ (e : v ≡ u). inl e) (λ (k : In u ts). inr (in_more u t ts k)) i

    in_last : (t : TableTree H) (ts : List (TableTree H)) → In t (ts ++ t ∷ [])
    in_last t [] = inl refl
    in_last t (v ∷ ts) = inr (in_last t ts)

    from_more : (t : TableTree H) (ts : List (TableTree H)) (roots : List Root) → Each (From ts) roots → Each (From (ts ++ t ∷ [])) roots
    from_more t ts [] e = tt
    from_more t ts (r ∷ rs) e = ((e.0.0, in_more e.0.0 t ts e.0.1, e.0.2, e.0.3), from_more t ts rs e.1)

    pub each_more : (P : TableTree H → Type 0) (t : TableTree H) (ts : List (TableTree H)) → Each P ts → P t → Each P (ts ++ t ∷ [])
    each_more P t [] e p = (p, tt)
    each_more P t (u ∷ ts) e p = (e.0, each_more P t ts e.1 p)

    in_weaker : (P Q : TableTree H → Type 0) (ts : List (TableTree H)) → ((t : TableTree H) → P t → Q t) → Each P ts → Each Q ts
    in_weaker P Q [] f e = tt
    in_weaker P Q (t ∷ ts) f e = (f t e.0, in_weaker P Q ts f e.1)

    passes : (t : TableTree H) (ts : List (TableTree H)) (roots : List Root) → leaves t.table ≡ [] → Made h leaves ts roots → Made h leaves (ts ++ t ∷ []) roots
    passes t ts roots e m = record {
      rise = m.rise;
      from = from_more t ts roots m.from;
      all = each_more (λ t. leaves t.table ≢ [] → In (t.table, tree_hash h (leaves t.table)) roots) t ts m.all (λ ne. absurd (ne e));
    }

    adds : (t : TableTree H) (ts : List (TableTree H)) (roots : List Root) → leaves t.table ≢ [] → Each (λ u. u.table ≢ t.table) ts → Made h leaves ts roots
        → Made h leaves (ts ++ t ∷ []) (inserted by_root (t.table, tree_hash h (leaves t.table)) roots)
    adds t ts roots some new m = record {
      rise = insert_rises table_of_root z roots m.rise (in_each (λ (r : Root). r.0 ≢ t.table) roots (λ r i. other r (each_in (From ts) roots r m.from i)));
      from = each_inserted table_of_root (From (ts ++ t ∷ [])) z roots (t, in_last t ts, some, refl) (from_more t ts roots m.from);
      all = each_more (λ u. leaves u.table ≢ [] → In (u.table, tree_hash h (leaves u.table)) (inserted by_root z roots)) t ts
          (in_weaker (λ u. leaves u.table ≢ [] → In (u.table, tree_hash h (leaves u.table)) roots) (λ u. leaves u.table ≢ [] → In (u.table, tree_hash h (leaves u.table)) (inserted by_root z roots)) ts
          (λ u f ne. in_inserted table_of_root (u.table, tree_hash h (leaves u.table)) z roots (inr (f ne))) m.all)
          (λ ne. in_inserted table_of_root z z roots (inl refl));
    }
      where
        z : Root
        z = (t.table, tree_hash h (leaves t.table))

        other : (r : Root) → From ts r → r.0 ≢ t.table
        other r f e = each_in (λ (u : TableTree H). u.table ≢ t.table) ts f.0 new f.1 (sym (ap (λ (q : Root). q.0) f.3) ∙ e)

  -- the tree at a place has another table than those before it
  new_table : (ts : List (TableTree H)) (i : ℕ) (t : TableTree H) → Differ (tables_of ts) → i < length ts → t ≡ get_or ts i t → Each (λ u. u.table ≢ t.table) (take i ts)
  new_table [] i t d l e = absurd (omega (arith, l))
  new_table (u ∷ ts) zero t d l e = tt
  new_table (u ∷ ts) (suc i) t d l e =
      (each_in (λ n. u.table ≢ n) (tables_of ts) t.table d.0 (in_tables t ts (subst (λ v. In v ts) (sym e) (in_place ts i t (omega (arith, l))))), new_table ts i t d.1 (omega (arith, l)) e)
    where
      in_place : (ts : List (TableTree H)) (i : ℕ) (x : TableTree H) → i < length ts → In (get_or ts i x) ts
      in_place [] i x l = absurd (omega (arith, l))
      in_place (u ∷ ts) zero x l = inl refl
      in_place (u ∷ ts) (suc i) x l = inr (in_place ts i x (omega (arith, l)))

  pub holds_at : (P : TableTree H → Type 0) (ts : List (TableTree H)) (i : ℕ) (t : TableTree H) → Each P ts → i < length ts → t ≡ get_or ts i t → P t
  holds_at P [] i t e l is = absurd (omega (arith, l))
  holds_at P (u ∷ ts) zero t e l is = subst P (sym is) e.0
  holds_at P (u ∷ ts) (suc i) t e l is = holds_at P ts i t e.1 (omega (arith, l)) is

  pub one_more : (ts : List (TableTree H)) (i : ℕ) (t : TableTree H) → i < length ts → t ≡ get_or ts i t → take (i + 1) ts ≡ take i ts ++ t ∷ []
  one_more ts i t l is = let next : i + 1 ≡ suc i = omega arith in ap (λ n. take n ts) next ∙ take-suc ts i t l ∙ ap (λ x. take i ts ++ x ∷ []) (sym is)

  pub made_more : (ts : List (TableTree H)) (i : ℕ) (t : TableTree H) (roots new : List Root) → i < length ts → t ≡ get_or ts i t
      → ((h : H) (leaves : List (List ℕ)) → Holds digest h t.frontier leaves → new ≡ with_root (digest h) t.table leaves roots)
      → MadeSoFar ts i roots → MadeSoFar ts (i + 1) new
  made_more ts i t roots new l is there so h leaves d k =
      subst (λ us. Made (digest h) leaves us new) (sym (one_more ts i t l is))
      (subst (λ rs. Made (digest h) leaves (take i ts ++ t ∷ []) rs) (sym (there h (leaves t.table) (holds_at (λ t. Holds digest h t.frontier (leaves t.table)) ts i t k l is)))
      (by (leaves t.table) refl))
    where
      before : Made (digest h) leaves (take i ts) roots
      before = so h leaves d k

      by : (ls : List (List ℕ)) → leaves t.table ≡ ls → Made (digest h) leaves (take i ts ++ t ∷ []) (with_root (digest h) t.table ls roots)
      by [] e = passes (digest h) leaves t (take i ts) roots e before
      by (x ∷ xs) e = subst (λ ls. Made (digest h) leaves (take i ts ++ t ∷ []) (inserted by_root (t.table, tree_hash (digest h) ls) roots)) e
          (adds (digest h) leaves t (take i ts) roots (λ q. let never : x ∷ xs ≡ [] = sym e ∙ q in cc) (new_table ts i t d l is) before)

-- ---- the trees of the transaction

pub leaves_are : (trees : List Tree) (u : Tree) → Differ (map (λ t. t.table) trees) → In u trees → leaves_in u.table trees ≡ u.leaves
leaves_are [] u d i = absurd i
leaves_are (t ∷ ts) u d i = ⊎_elim
    (λ (e : t ≡ u). subst (λ v. leaves_in v.table (t ∷ ts) ≡ v.leaves) e (let yes : (t.table == t.table) ≡ true = eq-eqb t.table t.table refl in rw yes refl))
    (λ (k : In u ts). let no : (t.table == u.table) ≡ false = ne_eqb t.table u.table (each_in (λ n. t.table ≢ n) (map (λ t. t.table) ts) u.table d.0 (in_ids u ts k)) in rw no (leaves_are ts u d.1 k))
    i
  where
    in_ids : (u : Tree) (ts : List Tree) → In u ts → In u.table (map (λ t. t.table) ts)
    in_ids u [] i = absurd i
    in_ids u (t ∷ ts) i = ⊎_elim (λ (e : t ≡ u). inl (ap (λ t. t.table) e)) (λ (k : In u ts). inr (in_ids u ts k)) i

pub record HasLeaves (id : ℕ) (trees : List Tree) : Type 0 where
  pub u : Tree
  pub there : In u trees
  pub table : u.table ≡ id
  pub leaves : u.leaves ≡ leaves_in id trees

pub has_leaves : (id : ℕ) (trees : List Tree) → leaves_in id trees ≢ [] → HasLeaves id trees
has_leaves id [] ne = absurd (ne refl)
has_leaves id (t ∷ ts) ne = by (t.table == id) refl ne (has_leaves id ts)
  where
    by : (b : Bool) → (t.table == id) ≡ b → (if b then t.leaves else leaves_in id ts) ≢ [] → (leaves_in id ts ≢ [] → HasLeaves id ts) → HasLeaves id (t ∷ ts)
    by true e k rest = record { u = t; there = inl refl; table = eqb-true t.table id e; leaves = rw e refl }
    by false e k rest = let r = rest k in record { u = r.u; there = inr r.there; table = r.table; leaves = rw e r.leaves }

has_some : (xs : List (List ℕ)) → xs ≢ [] → not (is_empty xs) ≡ true
has_some [] e = absurd (e refl)
has_some (x ∷ xs) e = refl

not_none : (xs : List (List ℕ)) → not (is_empty xs) ≡ true → xs ≢ []
not_none [] e = cc
not_none (x ∷ xs) e = λ f. cc

module _ {H : Type 0} (digest : H → List ℕ → List ℕ) (h : H) (ts : List (TableTree H)) (trees : List Tree) (d : Differ (tables_of ts)) (e : Differ (map (λ t. t.table) trees)) (k : TreesHold digest h ts trees) where
  abbrev root : Tree → Root
  root t = (t.table, tree_hash (digest h) t.leaves)

  abbrev has_leaf : Tree → Bool
  has_leaf t = not (is_empty t.leaves)

  abbrev of_tree : Tree → ℕ
  of_tree t = t.table

  pub holds_each : Each (λ t. Holds digest h t.frontier (leaves_in t.table trees)) ts
  holds_each = in_each (λ t. Holds digest h t.frontier (leaves_in t.table trees)) ts (λ t i. subst (λ o. IsTree digest h o (leaves_in t.table trees)) (found_in ts t d i) (k t.table))

  maps_rise : (us : List Tree) → RisesBy of_tree us → RisesBy table_of_root (map root us)
  maps_rise [] r = tt
  maps_rise (u ∷ us) r = (each us r.0, maps_rise us r.1)
    where
      each : (vs : List Tree) → Each (λ v. u.table < v.table) vs → Each (λ y. u.table < y.0) (map root vs)
      each [] a = tt
      each (v ∷ vs) a = (a.0, each vs a.1)

  in_map : (u : Tree) (us : List Tree) → In u us → In (root u) (map root us)
  in_map u [] i = absurd i
  in_map u (v ∷ us) i = ⊎_elim (λ (q : v ≡ u). inl (ap root q)) (λ (j : In u us). inr (in_map u us j)) i

  of_map : (P : Root → Type 0) (us : List Tree) → Each (λ u. P (root u)) us → Each P (map root us)
  of_map P [] a = tt
  of_map P (u ∷ us) a = (a.0, of_map P us a.1)

  meant_there : (u : Tree) → In u trees → u.leaves ≢ [] → In (root u) (roots_of_trees (digest h) trees)
  meant_there u i ne = in_map u (with_leaves trees) (in_sorted of_tree u (filter has_leaf trees) (in_kept of_tree has_leaf u trees (has_some u.leaves ne) i))

  module _ (roots : List Root) (m : Made digest (digest h) (λ id. leaves_in id trees) ts roots) where
    made_meant : Each (λ z. In z (roots_of_trees (digest h) trees)) roots
    made_meant = in_each (λ z. In z (roots_of_trees (digest h) trees)) roots
        (λ z i. let f = each_in (λ z. (t : TableTree H) × In t ts × (leaves_in t.table trees ≢ []) × (z ≡ (t.table, tree_hash (digest h) (leaves_in t.table trees)))) roots z m.from i in
        let u = has_leaves f.0.table trees f.2 in
        let same : root u.u ≡ z = ap₂ (λ (n : ℕ) (ls : List (List ℕ)). (n, tree_hash (digest h) ls)) u.table u.leaves ∙ sym f.3 in
        subst (λ w. In w (roots_of_trees (digest h) trees)) same (meant_there u.u u.there (λ q. f.2 (sym u.leaves ∙ q))))

    one_made : (u : Tree) → In u trees → u.leaves ≢ [] → In (root u) roots
    one_made u i ne = by (tree_of u.table ts) refl (k u.table)
      where
        are : leaves_in u.table trees ≡ u.leaves
        are = leaves_are trees u e i

        by : (o : Option (Frontier H)) → tree_of u.table ts ≡ o → IsTree digest h o (leaves_in u.table trees) → In (root u) roots
        by None q none = absurd (ne (sym are ∙ none))
        by (Some f) q holds =
            let t = has_tree u.table ts f q in
            let ls : leaves_in t.t.table trees ≡ u.leaves = ap (λ n. leaves_in n trees) t.table ∙ are in
            let there = each_in (λ t. leaves_in t.table trees ≢ [] → In (t.table, tree_hash (digest h) (leaves_in t.table trees)) roots) ts t.t m.all t.there (λ z. ne (sym ls ∙ z)) in
            subst (λ w. In w roots) (ap₂ (λ (n : ℕ) (ls : List (List ℕ)). (n, tree_hash (digest h) ls)) t.table ls) there

    meant_made : Each (λ z. In z roots) (roots_of_trees (digest h) trees)
    meant_made = of_map (λ z. In z roots) (with_leaves trees)
        (in_each (λ u. In (root u) roots) (with_leaves trees) (λ u i.
        let b = each_in (λ u. In u trees × (has_leaf u ≡ true)) (with_leaves trees) u
        (each_sorted of_tree (λ u. In u trees × (has_leaf u ≡ true)) (filter has_leaf trees) (each_kept of_tree has_leaf (λ u. In u trees) trees (in_each (λ u. In u trees) trees (λ u j. j)))) i in
        one_made u b.0 (not_none u.leaves b.1)))

    are_meant : roots ≡ roots_of_trees (digest h) trees
    are_meant = same_list table_of_root roots (roots_of_trees (digest h) trees) m.rise (maps_rise (with_leaves trees) (sorting_rises of_tree has_leaf trees e))
        (λ z i. each_in (λ z. In z (roots_of_trees (digest h) trees)) roots z made_meant i)
        (λ z i. each_in (λ z. In z roots) (roots_of_trees (digest h) trees) z meant_made i)

pub all_made : {H : Type 0} (digest : H → List ℕ → List ℕ) (ts : List (TableTree H)) (i : ℕ) (roots : List Root) → length ts ≤ i → MadeSoFar digest ts i roots
    → (h : H) (trees : List Tree) → Differ (tables_of ts) → Differ (map (λ t. t.table) trees) → TreesHold digest h ts trees → roots ≡ roots_of_trees (digest h) trees
all_made digest ts i roots le so h trees d e k = are_meant digest h ts trees d e k roots
    (subst (λ us. Made digest (digest h) (λ id. leaves_in id trees) us roots) (take_all i ts le) (so h (λ id. leaves_in id trees) d (holds_each digest h ts trees d e k)))
