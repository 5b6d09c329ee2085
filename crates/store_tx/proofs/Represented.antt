-- What each call keeps of the transaction that a context is of.
use Rattle.std.proofs.Common.{◌≡◌, ◌≢◌, ◌<◌, ◌≤◌, ◌+◌, ℕ, List, [], ◌∷◌, ◌++◌, Some, length, get_or, take, sym, ap, ◌∙◌, subst, ⊎_elim, arith, length-append}
use Rattle.std.proofs.lemmas.Bool.{cases_eq}
use Rattle.std.proofs.lemmas.List.{length-take-le, length-map}
use Rattle.base_merkle.specs.declared.frontier.Frontier.{Frontier}
use Rattle.base_merkle.specs.Holds.{MayAddLeaf}
use Rattle.spec_protocol.specs.Serial.{Differ}
use Rattle.spec_model.specs.Limits.{max_savepoints}
use Rattle.spec_protocol.specs.Moves.{noting, with_undo_state}
use Rattle.spec_protocol.specs.Seats.{OpenSavepoint, OpenTransaction}
use Rattle.store_tx.specs.Leaves.{leaves_in, with_leaf, with_savepoint}
use Rattle.store_tx.specs.Trees.{tree_of, tables_of, mark_of, IsTree, IsMark}
use Rattle.store_tx.specs.Represents.{Represents, MayNote, RepresentsSavepoint, RepresentSavepoints}
use Rattle.store_tx.specs.declared.context.TxCtx.{TxCtx}
use Rattle.store_tx.specs.declared.savepoint.Savepoint.{Savepoint}
use Rattle.store_tx.proofs.OpenSavepoints.{keep_more, keep_length, last_read}
use Rattle.store_tx.proofs.Leaves.{leaf_here, leaf_elsewhere}
use Rattle.store_tx.proofs.Marks.{AreMarked}

module _ {H : Type 0} (digest : H → List ℕ → List ℕ) where
  -- a call leaves whose context it is
  pub record IsSame (c d : TxCtx H) : Type 0 where
    pub hasher : d.hasher ≡ c.hasher
    pub id : d.id ≡ c.id
    pub explicit : d.explicit ≡ c.explicit

  -- ---- opening a tree

  pub opened_more : (h : H) (c d : TxCtx H) (o : OpenTransaction) → IsSame c d → d.seq ≡ c.seq → d.savepoints.items ≡ c.savepoints.items
      → ((id : ℕ) (leaves : List (List ℕ)) → IsTree digest c.hasher (tree_of id c.trees.items) leaves → IsTree digest c.hasher (tree_of id d.trees.items) leaves)
      → (more : List ℕ) × (tables_of d.trees.items ≡ tables_of c.trees.items ++ more)
      → (Differ (tables_of c.trees.items) → Differ (tables_of d.trees.items))
      → Represents digest h c o → Represents digest h d o
  opened_more h c d o same seq saved leaves more differ r = record {
    differ = differ r.differ;
    hasher = same.hasher ∙ r.hasher;
    id = same.id ∙ r.id;
    explicit = same.explicit ∙ r.explicit;
    seq = seq ∙ r.seq;
    few = r.few;
    trees = λ id. subst (λ k. (ls : List (List ℕ)) → IsTree digest k (tree_of id c.trees.items) ls → IsTree digest k (tree_of id d.trees.items) ls) r.hasher (leaves id) (leaves_in id o.trees) (r.trees id);
    open_savepoints = subst (λ ts. RepresentSavepoints (digest h) ts d.savepoints.items o.open_savepoints) (sym more.1)
        (subst (λ ss. RepresentSavepoints (digest h) (tables_of c.trees.items ++ more.0) ss o.open_savepoints) (sym saved) (keep_more (digest h) (tables_of c.trees.items) more.0 c.savepoints.items o.open_savepoints r.open_savepoints));
    kept = r.kept;
  }

  -- ---- noting an event

  pub may_push : (table : ℕ) (c : TxCtx H) → MayNote digest table c → (f : Frontier H) × (tree_of table c.trees.items ≡ Some f) × MayAddLeaf digest f
  may_push table c m =
      let leaves = leaves_in table m.o.trees in
      (m.open_tree.0, m.open_tree.1, (m.h, leaves, subst (λ o. IsTree digest m.h o leaves) m.open_tree.1 (m.is.trees table), omega (arith, m.is.few table, m.room)))

  pub noted : (h : H) (c d : TxCtx H) (o : OpenTransaction) (table : ℕ) (leaf : List ℕ) → IsSame c d → d.seq ≡ c.seq + 1 → d.savepoints.items ≡ c.savepoints.items
      → ((h : H) (leaves : List (List ℕ)) → IsTree digest h (tree_of table c.trees.items) leaves → IsTree digest h (tree_of table d.trees.items) (leaves ++ leaf ∷ []))
      → ((id : ℕ) → id ≢ table → tree_of id d.trees.items ≡ tree_of id c.trees.items)
      → tables_of d.trees.items ≡ tables_of c.trees.items
      → Represents digest h c o → Represents digest h d (noting (o.seq + 1) (with_leaf table leaf o.trees) o)
  noted h c d o table leaf same seq saved here others tables r = record {
    differ = subst Differ (sym tables) r.differ;
    hasher = same.hasher ∙ r.hasher;
    id = same.id ∙ r.id;
    explicit = same.explicit ∙ r.explicit;
    seq = seq ∙ ap (λ n. n + 1) r.seq;
    few = λ id. ⊎_elim
        (λ (e : id ≡ table). subst (λ k. length (leaves_in k (with_leaf table leaf o.trees)) ≤ o.seq + 1) (sym e)
        (let len = length-append (leaves_in table o.trees) (leaf ∷ []) in omega (arith, ap length (leaf_here table leaf o.trees), len, r.few table)))
        (λ (ne : id ≢ table). omega (arith, ap length (leaf_elsewhere id table leaf o.trees ne), r.few id))
        (cases_eq id table);
    trees = λ id. ⊎_elim
        (λ (e : id ≡ table). subst (λ k. IsTree digest h (tree_of k d.trees.items) (leaves_in k (with_leaf table leaf o.trees))) (sym e)
        (subst (λ ls. IsTree digest h (tree_of table d.trees.items) ls) (sym (leaf_here table leaf o.trees)) (here h (leaves_in table o.trees) (r.trees table))))
        (λ (ne : id ≢ table). subst (λ ls. IsTree digest h (tree_of id d.trees.items) ls) (sym (leaf_elsewhere id table leaf o.trees ne))
        (subst (λ t. IsTree digest h t (leaves_in id o.trees)) (sym (others id ne)) (r.trees id)))
        (cases_eq id table);
    open_savepoints = subst (λ ts. RepresentSavepoints (digest h) ts d.savepoints.items o.open_savepoints) (sym tables) (subst (λ ss. RepresentSavepoints (digest h) (tables_of c.trees.items) ss o.open_savepoints) (sym saved) r.open_savepoints);
    kept = r.kept;
  }

  -- ---- saving

  pub not_full : (h : H) (c : TxCtx H) (o : OpenTransaction) → Represents digest h c o → length c.savepoints.items < 64 → length o.open_savepoints ≡ max_savepoints → ⊥
  not_full h c o r lt e = let len = keep_length (digest h) (tables_of c.trees.items) c.savepoints.items o.open_savepoints r.open_savepoints in let full : length o.open_savepoints ≡ 64 = e in omega (arith, len, lt, full)

  pub no_room : (h : H) (c : TxCtx H) (o : OpenTransaction) → Represents digest h c o → 64 ≤ length c.savepoints.items → length o.open_savepoints < max_savepoints → ⊥
  no_room h c o r le few = let len = keep_length (digest h) (tables_of c.trees.items) c.savepoints.items o.open_savepoints r.open_savepoints in let lt : length o.open_savepoints < 64 = few in omega (arith, len, le, lt)

  pub saved : (h : H) (c d : TxCtx H) (o : OpenTransaction) (s : Savepoint) (name : List ℕ) → IsSame c d → d.seq ≡ c.seq → d.trees.items ≡ c.trees.items
      → d.savepoints.items ≡ c.savepoints.items ++ s ∷ [] → length c.savepoints.items < 64
      → s.name ≡ name → s.seq ≡ c.seq → length s.marks.items ≡ length c.trees.items → AreMarked digest c.trees.items s.marks.items
      → Represents digest h c o → Represents digest h d (with_savepoint name o)
  saved h c d o s name same seq trees more few named at placed marked r =
      let len = keep_length (digest h) (tables_of c.trees.items) c.savepoints.items o.open_savepoints r.open_savepoints in
      let tables : length (tables_of c.trees.items) ≡ length c.trees.items = length-map c.trees.items (λ t. t.table) in
      let lt : length o.open_savepoints < max_savepoints = (let l : length o.open_savepoints < 64 = omega (arith, len, few) in l) in record {
        hasher = same.hasher ∙ r.hasher;
        id = same.id ∙ r.id;
        explicit = same.explicit ∙ r.explicit;
        seq = seq ∙ r.seq;
        few = r.few;
        trees = λ id. subst (λ ts. IsTree digest h (tree_of id ts) (leaves_in id o.trees)) (sym trees) (r.trees id);
        differ = subst (λ ts. Differ (tables_of ts)) (sym trees) r.differ;
        open_savepoints = (
          c.savepoints.items,
          s,
          more,
          record {
            name = named;
            seq = at ∙ r.seq;
            few = r.few;
            placed = rw trees (omega (arith, placed, tables));
            marks = λ id. subst (λ ts. IsMark (digest h) (mark_of id (tables_of ts) s.marks.items) (leaves_in id o.trees)) (sym trees) (marked h id (leaves_in id o.trees) (r.trees id));
          },
          subst (λ ts. RepresentSavepoints (digest h) (tables_of ts) c.savepoints.items o.open_savepoints) (sym trees) r.open_savepoints,
        );
        kept = omega (arith, lt);
      }

  -- ---- going back

  pub some_kept : (h : H) (tables : List ℕ) (ss : List Savepoint) (n : ℕ) → 0 < n → n ≤ length ss → RepresentSavepoints (digest h) tables (take n ss) [] → ⊥
  some_kept h tables ss n some le k = let len = length-take-le n ss le in omega (arith, some, len, ap length k)

  pub went_back : (h : H) (c d : TxCtx H) (o : OpenTransaction) (f : OpenSavepoint) (fs : List OpenSavepoint) (s : Savepoint) (n k : ℕ) → IsSame c d → k + 1 ≡ n → n ≤ length c.savepoints.items
      → d.savepoints.items ≡ take n c.savepoints.items → s ≡ get_or d.savepoints.items k s → d.seq ≡ s.seq
      → ((id : ℕ) (leaves before : List (List ℕ)) → IsTree digest c.hasher (tree_of id c.trees.items) leaves
      → IsMark (digest c.hasher) (mark_of id (tables_of c.trees.items) s.marks.items) before → IsTree digest c.hasher (tree_of id d.trees.items) before)
      → tables_of d.trees.items ≡ tables_of c.trees.items
      → RepresentSavepoints (digest h) (tables_of c.trees.items) (take n c.savepoints.items) (f ∷ fs)
      → Represents digest h c o → (s.seq ≡ f.seq) × Represents digest h d (with_undo_state f.seq f.trees (f ∷ fs) o)
  went_back h c d o f fs s n k same next le cut here seq back tables keep r = (
    is.seq,
    record {
      differ = subst Differ (sym tables) r.differ;
      hasher = same.hasher ∙ r.hasher;
      id = same.id ∙ r.id;
      explicit = same.explicit ∙ r.explicit;
      seq = seq ∙ is.seq;
      few = is.few;
      trees = λ id. subst (λ q. (leaves before : List (List ℕ)) → IsTree digest q (tree_of id c.trees.items) leaves
          → IsMark (digest q) (mark_of id (tables_of c.trees.items) s.marks.items) before → IsTree digest q (tree_of id d.trees.items) before)
          r.hasher (back id) (leaves_in id o.trees) (leaves_in id f.trees) (r.trees id) (is.marks id);
      open_savepoints = subst (λ ts. RepresentSavepoints (digest h) ts d.savepoints.items (f ∷ fs)) (sym tables) (subst (λ ss. RepresentSavepoints (digest h) (tables_of c.trees.items) ss (f ∷ fs)) (sym cut) keep);
      kept = omega (
        arith,
        r.kept,
        keep_length (digest h) (tables_of c.trees.items) c.savepoints.items o.open_savepoints r.open_savepoints,
        keep_length (digest h) (tables_of c.trees.items) (take n c.savepoints.items) (f ∷ fs) keep,
        len,
        le,
      );
    },
  )
    where
      len : length (take n c.savepoints.items) ≡ n
      len = length-take-le n c.savepoints.items le

      newest : s ≡ keep.1
      newest = here ∙ ap (λ ss. get_or ss k s) cut ∙ last_read (take n c.savepoints.items) keep.0 keep.1 s k keep.2 (next ∙ sym len)

      is : RepresentsSavepoint (digest h) (tables_of c.trees.items) s f
      is = subst (λ v. RepresentsSavepoint (digest h) (tables_of c.trees.items) v f) (sym newest) keep.3
