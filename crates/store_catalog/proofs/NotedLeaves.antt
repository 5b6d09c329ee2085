-- What leaves that are noted make of a transaction.
use Rattle.std.proofs.Common.{◌≡◌, ◌≢◌, ◌≤◌, ◌+◌, ◌-◌, ℕ, Bool, true, false, List, [], ◌∷◌, ◌++◌, length, map, take, drop, get_or, refl, sym, ap, subst, ◌∙◌, ⊎_elim, arith, append_assoc, append-nil}
use Rattle.std.specs.Prelude.{◌==◌, if◌then◌else◌}
use Rattle.std.proofs.lemmas.Bool.{cases_eq, eqb-true, ne_eqb}
use Rattle.sql_types.specs.declared.event.Event.{Event}
use Rattle.format_event.specs.Leaf.{event_bytes}
use Rattle.spec_model.specs.SystemTables.{columns_id, tables_id}
use Rattle.spec_protocol.specs.Doing.{grown}
use Rattle.spec_protocol.specs.Moves.{noting}
use Rattle.spec_protocol.specs.Seats.{Tree, OpenTransaction}
use Rattle.store_tx.specs.Leaves.{leaves_in, with_leaf}
use Rattle.store_tx.specs.Represents.{Represents, IsOpen}
use Rattle.store_tx.specs.Trees.{tree_of, IsTree}
use Rattle.store_tx.specs.declared.context.TxCtx.{TxCtx}
use Rattle.store_tx.proofs.Leaves.{leaf_here, leaf_elsewhere}
use Rattle.store_table.proofs.Noted.{grown_here}
use Rattle.store_catalog.specs.Noted.{with_leaves, MayNoteBoth, MayNoteMany}

-- ---- the first of some leaves

take_all : (n : ℕ) (ls : List (List ℕ)) → n ≡ length ls → take n ls ≡ ls
take_all n ls is = ap (λ (k : ℕ). take k ls) is ∙ whole ls
  where
    whole : (xs : List (List ℕ)) → take (length xs) xs ≡ xs
    whole [] = refl
    whole (x ∷ xs) = ap (λ (ys : List (List ℕ)). x ∷ ys) (whole xs)

pub first_and_rest : (leaves : List (List ℕ)) (leaf : List ℕ) → 1 ≤ length leaves → leaf ≡ get_or leaves 0 leaf → leaves ≡ leaf ∷ take (length leaves - 1) (drop 1 leaves)
first_and_rest [] leaf some is = absurd (omega (arith, some))
first_and_rest (l ∷ ls) leaf some is =
    ap (λ (x : List ℕ). x ∷ ls) (sym is) ∙ ap (λ (xs : List (List ℕ)). leaf ∷ xs) (sym (take_all (length (l ∷ ls) - 1) ls (omega arith)))

-- ---- the leaves of each table

with_here : (table : ℕ) (ls : List (List ℕ)) (trees : List Tree) → leaves_in table (with_leaves table ls trees) ≡ leaves_in table trees ++ ls
with_here table [] trees = sym (append-nil (leaves_in table trees))
with_here table (l ∷ ls) trees = with_here table ls (with_leaf table l trees) ∙ ap (λ (xs : List (List ℕ)). xs ++ ls) (leaf_here table l trees) ∙ append_assoc (leaves_in table trees) (l ∷ []) ls

with_elsewhere : (id table : ℕ) (ls : List (List ℕ)) (trees : List Tree) → id ≢ table → leaves_in id (with_leaves table ls trees) ≡ leaves_in id trees
with_elsewhere id table [] trees ne = refl
with_elsewhere id table (l ∷ ls) trees ne = with_elsewhere id table ls (with_leaf table l trees) ne ∙ leaf_elsewhere id table l trees ne

grown_elsewhere : (id table : ℕ) (es : List Event) (trees : List Tree) → id ≢ table → leaves_in id (grown table es trees) ≡ leaves_in id trees
grown_elsewhere id table es [] ne = rw (ne_eqb table id (λ e. ne (sym e))) refl
grown_elsewhere id table es (t ∷ ts) ne = by (t.table == table) refl (grown_elsewhere id table es ts ne)
  where
    by : (b : Bool) → (t.table == table) ≡ b → leaves_in id (grown table es ts) ≡ leaves_in id ts
        → leaves_in id (if b then record { table = table; leaves = t.leaves ++ map event_bytes es } ∷ ts else t ∷ grown table es ts) ≡ (if t.table == id then t.leaves else leaves_in id ts)
    by true e rest = let here : t.table ≡ table = eqb-true t.table table e in rw (here, ne_eqb table id (λ e. ne (sym e))) refl
    by false e rest = ap (λ (l : List (List ℕ)). if t.table == id then t.leaves else l) rest

-- noted one after another or at once, each table has the same leaves
pub same_grown : (table : ℕ) (ls : List (List ℕ)) (es : List Event) (xs ys : List Tree) → ls ≡ map event_bytes es → ((id : ℕ) → leaves_in id xs ≡ leaves_in id ys)
    → (id : ℕ) → leaves_in id (with_leaves table ls xs) ≡ leaves_in id (grown table es ys)
same_grown table ls es xs ys is same id = ⊎_elim
    (λ (e : id ≡ table). subst (λ (k : ℕ). leaves_in k (with_leaves table ls xs) ≡ leaves_in k (grown table es ys)) (sym e)
    (with_here table ls xs ∙ ap (λ (l : List (List ℕ)). l ++ ls) (same table) ∙ ap (λ (l : List (List ℕ)). leaves_in table ys ++ l) is ∙ sym (grown_here table es ys)))
    (λ (ne : id ≢ table). with_elsewhere id table ls xs ne ∙ same id ∙ sym (grown_elsewhere id table es ys ne))
    (cases_eq id table)

-- ---- the transaction

module _ {H : Type 0} (digest : H → List ℕ → List ℕ) where
  -- a context doesn't tell trees with the same leaves apart
  pub same_leaves : (h : H) (c : TxCtx H) (o : OpenTransaction) (m n : ℕ) (xs ys : List Tree) → ((id : ℕ) → leaves_in id xs ≡ leaves_in id ys) → m ≡ n
      → Represents digest h c (noting m xs o) → Represents digest h c (noting n ys o)
  same_leaves h c o m n xs ys same is r = record {
    hasher = r.hasher;
    id = r.id;
    explicit = r.explicit;
    seq = r.seq ∙ is;
    few = λ id. subst (λ (k : ℕ). length (leaves_in id ys) ≤ k) is (subst (λ (ls : List (List ℕ)). length ls ≤ m) (same id) (r.few id));
    trees = λ id. subst (λ (ls : List (List ℕ)). IsTree digest h (tree_of id c.trees.items) ls) (same id) (r.trees id);
    differ = r.differ;
    open_savepoints = r.open_savepoints;
    kept = r.kept;
  }

  pub may_note_rest : (table count rest : ℕ) (leaf : List ℕ) (c d : TxCtx H) → rest + 1 ≡ count
      → ((h : H) (o : OpenTransaction) → Represents digest h c o → Represents digest h d (noting (o.seq + 1) (with_leaf table leaf o.trees) o))
      → ((id : ℕ) → IsOpen id c → IsOpen id d) → MayNoteMany digest table count c → MayNoteMany digest table rest d
  may_note_rest table count rest leaf c d more noted still m = record {
    h = m.h;
    o = noting (m.o.seq + 1) (with_leaf table leaf m.o.trees) m.o;
    is = noted m.h m.o m.is;
    open_tree = still table m.open_tree;
    room = omega (arith, more, m.room);
  }

  -- ---- one after another

  module _ (table : ℕ) (leaves : List (List ℕ)) (item leaf : List ℕ) (some : 1 ≤ length leaves) (at : item ≡ get_or leaves 0 item) (is : leaf ≡ item) where
    abbrev rest : List (List ℕ)
    rest = take (length leaves - 1) (drop 1 leaves)

    parts : leaves ≡ leaf ∷ rest
    parts = first_and_rest leaves item some at ∙ ap (λ (l : List ℕ). l ∷ rest) (sym is)

    pub rest_may : (c d : TxCtx H) → ((h : H) (o : OpenTransaction) → Represents digest h c o → Represents digest h d (noting (o.seq + 1) (with_leaf table leaf o.trees) o))
        → ((id : ℕ) → IsOpen id c → IsOpen id d) → MayNoteMany digest table (length leaves) c → MayNoteMany digest table (length (take (length leaves - 1) (drop 1 leaves))) d
    rest_may c d noted still m =
        let more = ap (λ (l : List (List ℕ)). length l) parts in
        may_note_rest table (length leaves) (length rest) leaf c d (omega (arith, more)) noted still m

    pub all_noted : (c d e : TxCtx H) → ((h : H) (o : OpenTransaction) → Represents digest h c o → Represents digest h d (noting (o.seq + 1) (with_leaf table leaf o.trees) o))
        → ((h : H) (o : OpenTransaction) → Represents digest h d o → Represents digest h e (noting (o.seq + length (take (length leaves - 1) (drop 1 leaves))) (with_leaves table (take (length leaves - 1) (drop 1 leaves)) o.trees) o))
        → (h : H) (o : OpenTransaction) → Represents digest h c o → Represents digest h e (noting (o.seq + length leaves) (with_leaves table leaves o.trees) o)
    all_noted c d e noted others h o r =
        subst (λ (ls : List (List ℕ)). Represents digest h e (noting (o.seq + length ls) (with_leaves table ls o.trees) o)) (sym parts)
        (same_leaves h e o (o.seq + 1 + length rest) (o.seq + length (leaf ∷ rest)) (with_leaves table rest (with_leaf table leaf o.trees)) (with_leaves table rest (with_leaf table leaf o.trees)) (λ id. refl) (omega arith)
        (others h (noting (o.seq + 1) (with_leaf table leaf o.trees) o) (noted h o r)))

  -- ---- both tables of the system

  pub first_of : (total n : ℕ) (c : TxCtx H) → n ≤ total → MayNoteBoth digest total c → MayNoteMany digest tables_id n c
  first_of total n c le m = record { h = m.h; o = m.o; is = m.is; open_tree = m.tables; room = omega (arith, le, m.room) }

  pub second_of : (first : List (List ℕ)) (total n : ℕ) (c d : TxCtx H) → length first + n ≡ total
      → ((h : H) (o : OpenTransaction) → Represents digest h c o → Represents digest h d (noting (o.seq + length first) (with_leaves tables_id first o.trees) o))
      → ((id : ℕ) → IsOpen id c → IsOpen id d) → MayNoteBoth digest total c → MayNoteMany digest columns_id n d
  second_of first total n c d is noted still m = record {
    h = m.h;
    o = noting (m.o.seq + length first) (with_leaves tables_id first m.o.trees) m.o;
    is = noted m.h m.o m.is;
    open_tree = still columns_id m.columns;
    room = omega (arith, is, m.room);
  }
