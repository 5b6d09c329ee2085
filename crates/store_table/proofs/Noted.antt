-- The leaves of events in the trees of a transaction.
use Rattle.std.proofs.Common.{◌≡◌, ◌≢◌, ◌<◌, ◌≤◌, ◌+◌, ℕ, refl, sym, ap, subst, ◌∙◌, Bool, true, false, List, [], ◌∷◌, ◌++◌, length, map, take, get_or, zero, suc, ⊎_elim, arith}
use Rattle.std.proofs.lemmas.Bool.{cases_eq, ne_eqb, eq-eqb, eqb-true}
use Rattle.std.proofs.lemmas.List.{append-nil, append_assoc}
use Rattle.std.specs.Prelude.{◌==◌, if◌then◌else◌}
use Rattle.sql_types.specs.declared.event.Event.{Event}
use Rattle.format_event.specs.Leaf.{event_bytes}
use Rattle.spec_protocol.specs.Doing.{grown}
use Rattle.spec_protocol.specs.Moves.{noting}
use Rattle.spec_protocol.specs.Seats.{OpenTransaction, Tree}
use Rattle.store_tx.specs.Leaves.{leaves_in, with_leaf}
use Rattle.store_tx.specs.Represents.{IsOpen, Represents}
use Rattle.store_tx.specs.Trees.{tree_of, IsTree}
use Rattle.store_tx.specs.declared.context.TxCtx.{TxCtx}
use Rattle.store_tx.proofs.Leaves.{leaf_here, leaf_elsewhere}
use Rattle.store_table.specs.Made.{MayNoteAll, with_leaves}

-- ---- one leaf after another

all_here : (table : ℕ) (leaves : List (List ℕ)) (trees : List Tree) → leaves_in table (with_leaves table leaves trees) ≡ leaves_in table trees ++ leaves
all_here table [] trees = sym (append-nil (leaves_in table trees))
all_here table (l ∷ ls) trees =
    all_here table ls (with_leaf table l trees)
    ∙ ap (λ (xs : List (List ℕ)). xs ++ ls) (leaf_here table l trees)
    ∙ append_assoc (leaves_in table trees) (l ∷ []) ls

all_elsewhere : (id table : ℕ) (leaves : List (List ℕ)) (trees : List Tree) → id ≢ table → leaves_in id (with_leaves table leaves trees) ≡ leaves_in id trees
all_elsewhere id table [] trees ne = refl
all_elsewhere id table (l ∷ ls) trees ne = all_elsewhere id table ls (with_leaf table l trees) ne ∙ leaf_elsewhere id table l trees ne

-- ---- all at once

pub grown_here : (table : ℕ) (es : List Event) (trees : List Tree) → leaves_in table (grown table es trees) ≡ leaves_in table trees ++ map event_bytes es
grown_here table es [] = rw (eq-eqb table table refl) refl
grown_here table es (t ∷ ts) = by (t.table == table) refl (grown_here table es ts)
  where
    by : (b : Bool) → (t.table == table) ≡ b → leaves_in table (grown table es ts) ≡ leaves_in table ts ++ map event_bytes es
        → leaves_in table (if b then record { table = table; leaves = t.leaves ++ map event_bytes es } ∷ ts else t ∷ grown table es ts)
        ≡ (if b then t.leaves else leaves_in table ts) ++ map event_bytes es
    by true e rest = rw (eq-eqb table table refl) refl
    by false e rest = rw e rest

grown_elsewhere : (id table : ℕ) (es : List Event) (trees : List Tree) → id ≢ table → leaves_in id (grown table es trees) ≡ leaves_in id trees
grown_elsewhere id table es [] ne = rw (ne_eqb table id (λ e. ne (sym e))) refl
grown_elsewhere id table es (t ∷ ts) ne = by (t.table == table) refl (grown_elsewhere id table es ts ne)
  where
    by : (b : Bool) → (t.table == table) ≡ b → leaves_in id (grown table es ts) ≡ leaves_in id ts
        → leaves_in id (if b then record { table = table; leaves = t.leaves ++ map event_bytes es } ∷ ts else t ∷ grown table es ts)
        ≡ (if t.table == id then t.leaves else leaves_in id ts)
    by true e rest = let here : t.table ≡ table = eqb-true t.table table e in rw (here, ne_eqb table id (λ q. ne (sym q))) refl
    by false e rest = ap (λ (l : List (List ℕ)). if t.table == id then t.leaves else l) rest

pub same_leaves : (table : ℕ) (es : List Event) (trees : List Tree) (id : ℕ) → leaves_in id (with_leaves table (map event_bytes es) trees) ≡ leaves_in id (grown table es trees)
same_leaves table es trees id = ⊎_elim
    (λ (e : id ≡ table). subst (λ (k : ℕ). leaves_in k (with_leaves table (map event_bytes es) trees) ≡ leaves_in k (grown table es trees)) (sym e)
    (all_here table (map event_bytes es) trees ∙ sym (grown_here table es trees)))
    (λ (ne : id ≢ table). all_elsewhere id table (map event_bytes es) trees ne ∙ sym (grown_elsewhere id table es trees ne))
    (cases_eq id table)

-- a context is of each transaction that has the same leaves
pub alike : {H : Type 0} (digest : H → List ℕ → List ℕ) (h : H) (c : TxCtx H) (n : ℕ) (ts us : List Tree) (o : OpenTransaction)
    → ((id : ℕ) → leaves_in id ts ≡ leaves_in id us) → Represents digest h c (noting n ts o) → Represents digest h c (noting n us o)
alike digest h c n ts us o same r = record {
  hasher = r.hasher;
  id = r.id;
  explicit = r.explicit;
  seq = r.seq;
  few = λ table. subst (λ (ls : List (List ℕ)). length ls ≤ n) (same table) (r.few table);
  trees = λ table. subst (λ (ls : List (List ℕ)). IsTree digest h (tree_of table c.trees.items) ls) (same table) (r.trees table);
  differ = r.differ;
  open_savepoints = r.open_savepoints;
  kept = r.kept;
}

-- ---- note after note

with_last : (table : ℕ) (done : List (List ℕ)) (leaf : List ℕ) (trees : List Tree) → with_leaf table leaf (with_leaves table done trees) ≡ with_leaves table (done ++ leaf ∷ []) trees
with_last table [] leaf trees = refl
with_last table (l ∷ ls) leaf trees = with_last table ls leaf (with_leaf table l trees)

take_more : {A : Type 0} (xs : List A) (k : ℕ) (x : A) → k < length xs → x ≡ get_or xs k x → take k xs ++ x ∷ [] ≡ take (suc k) xs
take_more [] k x inside is = absurd (omega (arith, inside))
take_more (y ∷ ys) zero x inside is = ap (λ (z : _). z ∷ []) is
take_more (y ∷ ys) (suc k) x inside is = ap (λ (zs : List _). y ∷ zs) (take_more ys k x (omega (arith, inside)) is)

one_up : (k : ℕ) → suc k ≡ k + 1
one_up k = omega arith

-- the first so many leaves are noted
pub record Noting {H : Type 0} (digest : H → List ℕ → List ℕ) (table k : ℕ) (leaves : List (List ℕ)) (was now : TxCtx H) : Type 0 where
  pub noted : (h : H) (o : OpenTransaction) → Represents digest h was o → Represents digest h now (noting (o.seq + k) (with_leaves table (take k leaves) o.trees) o)
  pub open_tree : IsOpen table now

module _ {H : Type 0} (digest : H → List ℕ → List ℕ) (table : ℕ) (leaves : List (List ℕ)) (was : TxCtx H) (may : MayNoteAll digest table (length leaves) was) where
  module _ (k : ℕ) (now : TxCtx H) (inside : k < length leaves) (so_far : Noting digest table k leaves was now) where
    pub noting_one : (new : TxCtx H) (leaf item : List ℕ) → leaf ≡ item → item ≡ get_or leaves k item
        → ((h : H) (o : OpenTransaction) → Represents digest h now o → Represents digest h new (noting (o.seq + 1) (with_leaf table leaf o.trees) o))
        → ((id : ℕ) → IsOpen id now → IsOpen id new) → Noting digest table (k + 1) leaves was new
    noting_one new leaf item same is noted_leaf still_open =
        let noted : (h : H) (o : OpenTransaction) → Represents digest h now o → Represents digest h new (noting (o.seq + 1) (with_leaf table item o.trees) o) =
        subst (λ (l : List ℕ). (h : H) (o : OpenTransaction) → Represents digest h now o → Represents digest h new (noting (o.seq + 1) (with_leaf table l o.trees) o)) same noted_leaf in
        record {
          noted = λ h o r.
              subst (λ (ls : List (List ℕ)). Represents digest h new (noting (o.seq + (k + 1)) (with_leaves table ls o.trees) o)) (take_more leaves k item inside is ∙ ap (λ (n : ℕ). take n leaves) (one_up k))
              (subst (λ (ts : List Tree). Represents digest h new (noting (o.seq + (k + 1)) ts o)) (with_last table (take k leaves) item o.trees)
              (subst (λ (n : ℕ). Represents digest h new (noting n (with_leaf table item (with_leaves table (take k leaves) o.trees)) o)) {x = o.seq + k + 1} (omega arith)
              (noted h (noting (o.seq + k) (with_leaves table (take k leaves) o.trees) o) (so_far.noted h o r))));
          open_tree = still_open table so_far.open_tree;
        }
