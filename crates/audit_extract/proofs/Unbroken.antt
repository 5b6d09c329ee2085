-- What follows from equal hashes: equality all the way down, or a collision.
use Rattle.std.proofs.Common.{◌≡◌, ◌≢◌, ◌≤◌, ◌<◌, ◌+◌, ◌⊎◌, ℕ, zero, suc, Bool, true, false, List, [], ◌∷◌, length, map, filter, take, drop, refl, arith, sym, ◌∙◌, ap, subst, inl, inr}
use Rattle.std.specs.Prelude.{bytes_eq}
use Rattle.std.specs.List.{AllByRecursion}
use Rattle.std.proofs.lemmas.Slice.Eq.{bytes_eq-Decides}
use Rattle.sql_types.specs.declared.digest.HeldDigest.{HeldDigest}
use Rattle.sql_types.specs.declared.entry.BlockRecord.{BlockRecord}
use Rattle.sql_types.specs.declared.entry.TxEntry.{TxEntry}
use Rattle.sql_types.specs.declared.image.Image.{Image}
use Rattle.sql_types.specs.declared.version.Table.{Table}
use Rattle.sql_types.specs.declared.event.Event.{Event}
use Rattle.format_event.specs.Leaf.{without_nulls}
use Rattle.format_entry.specs.Entry.{entry_bytes}
use Rattle.format_entry.specs.Record.{record_bytes, IsRecord}
use Rattle.format_entry.proofs.RecordExact.{equal_records}
use Rattle.base_merkle.specs.TreeHash.{tree_hash, split_of}
use Rattle.spec_model.specs.Catalog.{Tables}
use Rattle.spec_model.specs.Events.{events_of}
use Rattle.spec_ledger.specs.Blocks.{first_or_no_hash}
use Rattle.spec_ledger.specs.Entries.{has_events, leaves_of, root_in, roots_of}
use Rattle.law_frame.proofs.Alls.{all_filter}
use Rattle.format_image.specs.ImageBytes.{IsImage}
use Rattle.format_image.specs.Tables.{tables_in}
use Rattle.spec_verify.specs.Blocks.{hash_before}
use Rattle.spec_verify.specs.Covered.{TableEvents, told_in, CoveredEntry, covered_entry, covered_of, entries_upto}
use Rattle.spec_verify.specs.Collision.{Collides}
use Rattle.audit_extract.specs.declared.found.Collision.{Collision}
use Rattle.audit_extract.specs.Hashed.{half, hashed}
use Rattle.audit_extract.specs.Leaves.{leaves_in}
use Rattle.audit_extract.specs.Meets.{Meets}
use Rattle.audit_extract.specs.Parts.{blocks_to}
use Rattle.audit_extract.specs.Strings.{AreAtNode, AreOfEntries, AreOfEvents, AreHashed, AreRecords, HasCollisionIn}
use Rattle.audit_extract.proofs.Agreeing.{Injective, RootsOf, events_from_leaves}
use Rattle.audit_extract.proofs.Covering.{entries_rooted}
use Rattle.audit_extract.proofs.Halves.{Halves, back_length, front_length, halves, hash_of_hashed, joined}
use Rattle.audit_extract.proofs.ImageLeaves.{EventsFit, IsPicked, all_picked, image_fits}
use Rattle.audit_extract.proofs.Linked.{Agreed, agreed_start, one_less}
use Rattle.audit_extract.proofs.Lists.{cons_is, all_left, all_two}
use Rattle.audit_extract.proofs.Nodes.{BehindBlocks, behind_next, behind_none, get_of_drop, in_this_block, same_trees}
use Rattle.audit_extract.proofs.Parted.{BlocksLeft, all_left_first, ended, here, next, same_entries}

-- ---- one fact after another

pub so_far : {P Q C : Type 0} → (P → Q ⊎ C) → P ⊎ C → Q ⊎ C
so_far f (inl p) = f p
so_far f (inr c) = inr c

pub both_so : {P Q C : Type 0} → P ⊎ C → Q ⊎ C → (P × Q) ⊎ C
both_so (inl p) (inl q) = inl (p, q)
both_so (inl p) (inr c) = inr c
both_so (inr c) q = inr c

-- ---- lists of byte strings are the same or not

same_or_not : (x y : List ℕ) → (x ≡ y) ⊎ (x ≢ y)
same_or_not x y = by (bytes_eq x y) refl
  where
    by : (b : Bool) → bytes_eq x y ≡ b → (x ≡ y) ⊎ (x ≢ y)
    by true e = inl ((bytes_eq-Decides x y).0 e)
    by false e = inr (λ i. let yes = (bytes_eq-Decides x y).1 i in absurd cc)

two_lists : (x y : List ℕ) (xs ys : List (List ℕ)) → (x ≡ y) ⊎ (x ≢ y) → (xs ≡ ys) ⊎ (xs ≢ ys) → (x ∷ xs ≡ y ∷ ys) ⊎ (x ∷ xs ≢ y ∷ ys)
two_lists x y xs ys (inl e) (inl f) = inl (rw (e, f) refl)
two_lists x y xs ys (inl e) (inr n) = inr (λ i. n (cons_is x y xs ys i).1)
two_lists x y xs ys (inr n) rest = inr (λ i. n (cons_is x y xs ys i).0)

lists_same_or_not : (a b : List (List ℕ)) → (a ≡ b) ⊎ (a ≢ b)
lists_same_or_not [] [] = inl refl
lists_same_or_not [] (y ∷ b) = inr (λ e. absurd cc)
lists_same_or_not (x ∷ a) [] = inr (λ e. absurd cc)
lists_same_or_not (x ∷ a) (y ∷ b) = two_lists x y a b (same_or_not x y) (lists_same_or_not a b)

-- ---- collisions

-- two different strings of bytes with one hash, and what is said of them
abbrev pub HasCollisionOf : (List ℕ → List ℕ) → (Collision → Type 0) → Type 0
HasCollisionOf h P = (c : Collision) × Collides h c.first c.second × P c

-- the events of a transaction in a table of an image have leaves, which are found by the table's id
abbrev IsShown : Image → ℕ → Table → Type 0
IsShown i tx t = EventsFit tx t × IsPicked tx (tables_in i) t

all_shown : (tx : ℕ) (i : Image) → IsImage i → AllByRecursion (IsShown i tx) (tables_in i)
all_shown tx i is =
    all_two (EventsFit tx) (IsPicked tx (tables_in i)) (IsShown i tx) (λ t fits there. (fits, there)) (tables_in i) (image_fits tx i is) (all_picked tx i is)

module _ (h : List ℕ → List ℕ) where
  -- something holds, or two different strings of bytes with one hash are so and so
  told : {Q : Type 0} (P : Collision → Type 0) (x y : List ℕ) → P (record { first = x; second = y }) → Q ⊎ Collides h x y → Q ⊎ HasCollisionOf h P
  told P x y is (inl q) = inl q
  told P x y is (inr c) = inr (record { first = x; second = y }, c, is)

  told_so : {Q : Type 0} (P R : Collision → Type 0) → ((c : Collision) → P c → R c) → Q ⊎ HasCollisionOf h P → Q ⊎ HasCollisionOf h R
  told_so P R to (inl q) = inl q
  told_so P R to (inr c) = inr (c.0, c.1, to c.0 c.2)

  -- of two byte strings with one hash
  pub same_or_collide : (x y : List ℕ) → h x ≡ h y → (x ≡ y) ⊎ Collides h x y
  same_or_collide x y e = by (same_or_not x y)
    where
      by : (x ≡ y) ⊎ (x ≢ y) → (x ≡ y) ⊎ Collides h x y
      by (inl s) = inl s
      by (inr n) = inr (record { differ = n; same = e })

  -- ---- the chain

  found_at : (l : ℕ) (xs : List BlockRecord) → l < length xs → (x : BlockRecord) × (drop l xs ≡ x ∷ drop (l + 1) xs)
  found_at zero [] lt = absurd (omega (arith, lt))
  found_at zero (x ∷ xs) lt = (x, refl)
  found_at (suc l) [] lt = absurd (omega (arith, lt))
  found_at (suc l) (x ∷ xs) lt =
      let there = found_at l xs (omega (arith, lt)) in
      let next : suc (l + 1) ≡ suc l + 1 = omega arith in
      (there.0, there.1 ∙ ap (λ (ys : List BlockRecord). there.0 ∷ ys) (ap (λ (n : ℕ). drop n (x ∷ xs)) next))

  record_there : (l : ℕ) (i : Image) (d : HeldDigest) (x : BlockRecord) → Meets h i d → drop l i.blocks ≡ x ∷ drop (l + 1) i.blocks → IsRecord x × (hash_before h i (suc l) ≡ h (record_bytes x))
  record_there l i d x m at = ((subst (AllByRecursion IsRecord) at (all_left IsRecord l i.blocks m.image.blocks)).0, ap (first_or_no_hash h) at)

  records_at : (i j : Image) (l : ℕ) (x y : BlockRecord) → drop l i.blocks ≡ x ∷ drop (l + 1) i.blocks → drop l j.blocks ≡ y ∷ drop (l + 1) j.blocks
      → AreRecords i j (record { first = record_bytes x; second = record_bytes y })
  records_at i j l x y at_x at_y = record {
    block = l;
    x = x;
    y = y;
    at_x = get_of_drop l i.blocks x (drop (l + 1) i.blocks) at_x;
    at_y = get_of_drop l j.blocks y (drop (l + 1) j.blocks) at_y;
    first = refl;
    second = refl;
  }

  pub same_chain : (i j : Image) (d : HeldDigest) (k : ℕ) → Meets h i d → Meets h j d → Agreed h i j d.block k → (blocks_to i d.block ≡ blocks_to j d.block) ⊎ HasCollisionOf h (AreRecords i j)
  same_chain i j d zero m n a = inl a.after
  same_chain i j d (suc l) m n a =
      let x = found_at l i.blocks (omega (arith, a.within_a, a.place)) in
      let y = found_at l j.blocks (omega (arith, a.within_b, a.place)) in
      let p = record_there l i d x.0 m x.1 in
      let q = record_there l j d y.0 n y.1 in
      so_far (λ (e : record_bytes x.0 ≡ record_bytes y.0).
      same_chain i j d l m n (one_less h i j d (suc l) l x.0 y.0 m n (omega arith) (omega arith) a x.1 y.1 (equal_records x.0 y.0 p.0 q.0 e)))
      (told (AreRecords i j) (record_bytes x.0) (record_bytes y.0) (records_at i j l x.0 y.0 x.1 y.1)
      (same_or_collide (record_bytes x.0) (record_bytes y.0) (sym p.1 ∙ a.hash ∙ q.1)))

  module _ (sized : (bytes : List ℕ) → length (h bytes) ≡ 32) where
    -- ---- a tree

    halved : (a b : List (List ℕ)) → a ≢ b → tree_hash h a ≡ tree_hash h b → Halves h a b ⊎ HasCollisionOf h (AreAtNode h a b)
    halved a b ne e =
        so_far (λ (s : hashed h a ≡ hashed h b). inl (halves h sized a b ne s))
        (told (AreAtNode h a b) (hashed h a) (hashed h b) (record { path = []; first = refl; second = refl })
        (same_or_collide (hashed h a) (hashed h b) (sym (hash_of_hashed h a) ∙ e ∙ hash_of_hashed h b)))

    in_half : {Q : Type 0} (side : Bool) (a b : List (List ℕ)) → Q ⊎ HasCollisionOf h (AreAtNode h (half side a) (half side b)) → Q ⊎ HasCollisionOf h (AreAtNode h a b)
    in_half side a b =
        told_so (AreAtNode h (half side a) (half side b)) (AreAtNode h a b)
        (λ c n. record { path = side ∷ n.path; first = n.first; second = n.second })

    pub same_tree : (n : ℕ) (a b : List (List ℕ)) → length a ≤ n → tree_hash h a ≡ tree_hash h b → (a ≡ b) ⊎ HasCollisionOf h (AreAtNode h a b)
    same_tree zero a b few e = elim (lists_same_or_not a b) [
      | inl s ↦ inl s
      | inr ne ↦ so_far (λ (v : Halves h a b). absurd (omega (arith, few, v.more_a))) (halved a b ne e)
    ]
    same_tree (suc n) a b few e = elim (lists_same_or_not a b) [
      | inl s ↦ inl s
      | inr ne ↦ so_far (λ (v : Halves h a b).
          so_far (λ (p : (take (split_of (length a)) a ≡ take (split_of (length b)) b) × (drop (split_of (length a)) a ≡ drop (split_of (length b)) b)). inl (joined a b _ _ p.0 p.1))
          (both_so
          (in_half true a b (same_tree n (take (split_of (length a)) a) (take (split_of (length b)) b) (omega (arith, few, front_length a v.more_a)) v.left))
          (in_half false a b (same_tree n (drop (split_of (length a)) a) (drop (split_of (length b)) b) (omega (arith, few, back_length a v.more_a)) v.right))))
          (halved a b ne e)
    ]

    -- ---- the entries, block by block

    pub same_blocks : (i j : Image) (d : ℕ) (W : Type 0) (rest : List BlockRecord) (a b : List TxEntry) → BlocksLeft h W rest a b → BehindBlocks i j d rest a b → W ⊎ HasCollisionOf h (AreOfEntries h i j)
    same_blocks i j d W [] a b left behind = inl (ended h W [] a b refl left)
    same_blocks i j d W (r ∷ more) a b left behind =
        let at = here h W r (r ∷ more) more a b refl left in
        so_far (λ (e : map entry_bytes (take r.size a) ≡ map entry_bytes (take r.size b)).
        same_blocks i j d W more (drop r.size a) (drop r.size b)
        (next h W r (r ∷ more) more a b (take r.size a) (take r.size b) (drop r.size a) (drop r.size b) refl left refl refl refl refl (same_entries (take r.size a) (take r.size b) _ _ at.fit_a at.fit_b refl refl e))
        (behind_next i j d r (r ∷ more) more a b refl behind (drop r.size a) (drop r.size b) refl refl))
        (told_so (AreAtNode h (map entry_bytes (take r.size a)) (map entry_bytes (take r.size b))) (AreOfEntries h i j)
        (λ c nodes. in_this_block i j d r (r ∷ more) more a b refl behind h (take r.size a) (take r.size b) c refl refl nodes)
        (same_tree (length (map entry_bytes (take r.size a))) (map entry_bytes (take r.size a)) (map entry_bytes (take r.size b)) (omega arith) at.root))

    -- ---- the events of a transaction, table by table

    module _ (i j : Image) where
      same_table : Injective → (tx : ℕ) (a b : Table) → IsShown i tx a → IsShown j tx b → root_in h tx a ≡ root_in h tx b → (told_in tx a ≡ told_in tx b) ⊎ HasCollisionOf h (AreOfEvents h i j)
      same_table one tx a b in_i in_j e =
          let id : a.def.id ≡ b.def.id = ap (λ (r : ℕ × List ℕ). r.0) e in
          let there : leaves_of tx b ≡ leaves_in (tables_in j) tx a.def.id = sym in_j.1 ∙ ap (leaves_in (tables_in j) tx) (sym id) in
          so_far (λ (s : leaves_of tx a ≡ leaves_of tx b). inl
          (ap (λ (n : ℕ). (n, map without_nulls (events_of tx a))) id ∙ ap (λ (l : List Event). (b.def.id, l)) (events_from_leaves one (events_of tx a) (events_of tx b) in_i.0 in_j.0 s)))
          (told_so (AreAtNode h (leaves_of tx a) (leaves_of tx b)) (AreOfEvents h i j)
          (λ c nodes. record { tx = tx; table = a.def.id; nodes = same_trees h _ _ _ _ c (sym in_i.1) there nodes })
          (same_tree (length (leaves_of tx a)) (leaves_of tx a) (leaves_of tx b) (omega arith) (ap (λ (r : ℕ × List ℕ). r.1) e)))

      same_tables : Injective → (tx : ℕ) (a b : Tables) → AllByRecursion (IsShown i tx) a → AllByRecursion (IsShown j tx) b → map (root_in h tx) a ≡ map (root_in h tx) b
          → (map (told_in tx) a ≡ map (told_in tx) b) ⊎ HasCollisionOf h (AreOfEvents h i j)
      same_tables one tx [] [] in_i in_j e = inl refl
      same_tables one tx [] (y ∷ b) in_i in_j e = absurd cc
      same_tables one tx (x ∷ a) [] in_i in_j e = absurd cc
      same_tables one tx (x ∷ a) (y ∷ b) in_i in_j e =
          let p = cons_is (root_in h tx x) (root_in h tx y) (map (root_in h tx) a) (map (root_in h tx) b) e in
          so_far (λ (s : (told_in tx x ≡ told_in tx y) × (map (told_in tx) a ≡ map (told_in tx) b)). inl
          (ap (λ (t : TableEvents). t ∷ map (told_in tx) a) s.0 ∙ ap (λ (l : List TableEvents). told_in tx y ∷ l) s.1))
          (both_so (same_table one tx x y in_i.0 in_j.0 p.0) (same_tables one tx a b in_i.1 in_j.1 p.1))

      module _ (one : Injective) (in_i : (tx : ℕ) → AllByRecursion (IsShown i tx) (tables_in i)) (in_j : (tx : ℕ) → AllByRecursion (IsShown j tx) (tables_in j)) where
        abbrev A : Tables
        A = tables_in i

        abbrev B : Tables
        B = tables_in j

        same_entry : (e : TxEntry) → RootsOf h A B A e → RootsOf h A B B e → (covered_entry A e ≡ covered_entry B e) ⊎ HasCollisionOf h (AreOfEvents h i j)
        unfolding roots_of
        same_entry e ra rb =
            so_far (λ (s : map (told_in e.id) (filter (has_events e.id) A) ≡ map (told_in e.id) (filter (has_events e.id) B)). inl
            (ap (λ (tables : List TableEvents). record { block = e.block; ordinal = e.ordinal; id = e.id; time = e.time; principal = e.principal; tables = tables }) s))
            (same_tables one e.id (filter (has_events e.id) A) (filter (has_events e.id) B)
            (all_filter (IsShown i e.id) (has_events e.id) A (in_i e.id)) (all_filter (IsShown j e.id) (has_events e.id) B (in_j e.id)) (sym ra ∙ rb))

        pub same_covered : (es : List TxEntry) → AllByRecursion (RootsOf h A B A) es → AllByRecursion (RootsOf h A B B) es → (map (covered_entry A) es ≡ map (covered_entry B) es) ⊎ HasCollisionOf h (AreOfEvents h i j)
        same_covered [] ra rb = inl refl
        same_covered (e ∷ es) ra rb =
            so_far (λ (s : (covered_entry A e ≡ covered_entry B e) × (map (covered_entry A) es ≡ map (covered_entry B) es)). inl
            (ap (λ (c : CoveredEntry). c ∷ map (covered_entry A) es) s.0 ∙ ap (λ (l : List CoveredEntry). covered_entry B e ∷ l) s.1))
            (both_so (same_entry e ra.0 rb.0) (same_covered es ra.1 rb.1))

    -- ---- two images that meet a digest

    covered_by_entries : Injective → (i j : Image) (d : HeldDigest) → Meets h i d → Meets h j d → entries_upto i d.block ≡ entries_upto j d.block → (covered_of i d.block ≡ covered_of j d.block) ⊎ HasCollisionOf h (AreOfEvents h i j)
    unfolding covered_of
    covered_by_entries one i j d m n same =
        so_far (λ (s : map (covered_entry (tables_in i)) (entries_upto i d.block) ≡ map (covered_entry (tables_in j)) (entries_upto i d.block)). inl (s ∙ ap (map (covered_entry (tables_in j))) same))
        (same_covered i j one (λ tx. all_shown tx i m.image) (λ tx. all_shown tx j n.image) (entries_upto i d.block)
        (entries_rooted_in i d m j) (subst (AllByRecursion (RootsOf h (tables_in i) (tables_in j) (tables_in j))) (sym same) (entries_rooted_in j d n i)))
      where
        entries_rooted_in : (i : Image) (d : HeldDigest) → Meets h i d → (j : Image) → AllByRecursion (RootsOf h (tables_in i) (tables_in j) (tables_in i)) (entries_upto i d.block)
        entries_rooted_in i d m j = entries_rooted h i d m

    pub one_history : Injective → (i j : Image) (d : HeldDigest) → Meets h i d → Meets h j d → (covered_of i d.block ≡ covered_of j d.block) ⊎ HasCollisionIn h i j
    one_history one i j d m n =
        so_far (λ (blocks : blocks_to i d.block ≡ blocks_to j d.block).
        so_far (λ (entries : entries_upto i d.block ≡ entries_upto j d.block).
        told_so (AreOfEvents h i j) (AreHashed h i j) (λ c of. inr (inr of)) (covered_by_entries one i j d m n entries))
        (told_so (AreOfEntries h i j) (AreHashed h i j) (λ c of. inr (inl of))
        (same_blocks i j d.block (entries_upto i d.block ≡ entries_upto j d.block) (blocks_to i d.block) i.entries j.entries
        (all_left_first h i j d m n blocks) (behind_none i j d.block (blocks_to i d.block) i.entries j.entries blocks refl refl refl))))
        (told_so (AreRecords i j) (AreHashed h i j) (λ c of. inl of) (same_chain i j d (d.block + 1) m n (agreed_start h i j d m n)))
