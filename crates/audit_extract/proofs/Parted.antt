-- The entries of two images with the same blocks, block by block.
use Rattle.std.proofs.Common.{◌≡◌, ◌≤◌, ◌<◌, ◌+◌, ◌^◌, ℕ, List, [], ◌∷◌, ◌++◌, length, map, take, drop, refl, arith, sym, ◌∙◌, ap, subst, length-take}
use Rattle.std.specs.List.{AllByRecursion}
use Rattle.sql_types.specs.declared.digest.HeldDigest.{HeldDigest}
use Rattle.sql_types.specs.declared.entry.BlockRecord.{BlockRecord}
use Rattle.sql_types.specs.declared.entry.TxEntry.{TxEntry}
use Rattle.sql_types.specs.declared.image.Image.{Image}
use Rattle.format_entry.specs.Entry.{IsEntry, entry_bytes}
use Rattle.format_entry.proofs.EntryExact.{equal_entries}
use Rattle.base_merkle.specs.TreeHash.{tree_hash}
use Rattle.spec_model.specs.Limits.{max_block}
use Rattle.spec_ledger.specs.Blocks.{no_hash, block_of, record_hash}
use Rattle.spec_ledger.specs.Entries.{placed}
use Rattle.spec_ledger.specs.Parts.{IsBlockOf}
use Rattle.format_image.specs.ImageBytes.{IsPlaceless}
use Rattle.spec_verify.specs.Blocks.{entries_before}
use Rattle.audit_extract.specs.Meets.{Meets}
use Rattle.audit_extract.specs.Parts.{blocks_to}
use Rattle.base_fields.proofs.Fronts.{fronts}
use Rattle.spec_verify.specs.Covered.{entries_upto}
use Rattle.audit_extract.proofs.Heads.{Heads, heads, sizes, sizes_are, take_parts}
use Rattle.audit_extract.proofs.Lists.{cons_is, all_taken, all_left}

-- ---- entries at their places have a spelling

pub placed_fit : (n o : ℕ) (es : List TxEntry) → n < 2 ^ 64 → o + length es ≤ 2 ^ 32 → AllByRecursion IsPlaceless es → AllByRecursion IsEntry (placed n o es)
placed_fit n o [] block le all = tt
placed_fit n o (e ∷ es) block le all =
    let f = all.0 in (
      record { id = f.id; block = block; ordinal = omega (arith, le); time = f.time; principal = f.principal; count = f.count; roots = f.roots; rise = f.rise },
      placed_fit n (o + 1) es block (omega (arith, le)) all.1,
    )

-- ---- equal bytes are of equal entries

same_bytes : (xs ys : List TxEntry) → AllByRecursion IsEntry xs → AllByRecursion IsEntry ys → map entry_bytes xs ≡ map entry_bytes ys → xs ≡ ys
same_bytes [] [] fx fy e = refl
same_bytes [] (y ∷ ys) fx fy e = absurd cc
same_bytes (x ∷ xs) [] fx fy e = absurd cc
same_bytes (x ∷ xs) (y ∷ ys) fx fy e =
    let p = cons_is (entry_bytes x) (entry_bytes y) (map entry_bytes xs) (map entry_bytes ys) e in
    ap (λ (z : TxEntry). z ∷ xs) (equal_entries x y fx.0 fy.0 p.0) ∙ ap (λ (l : List TxEntry). y ∷ l) (same_bytes xs ys fx.1 fy.1 p.1)

pub same_entries : (xs ys : List TxEntry) (u v : List (List ℕ)) → AllByRecursion IsEntry xs → AllByRecursion IsEntry ys → u ≡ map entry_bytes xs → v ≡ map entry_bytes ys → u ≡ v → xs ≡ ys
same_entries xs ys u v fx fy u_is v_is e = same_bytes xs ys fx fy (sym u_is ∙ e ∙ v_is)

-- ---- the walk

module _ (h : List ℕ → List ℕ) (Whole : Type 0) where
  -- what is still to be compared
  pub record BlocksLeft (rest : List BlockRecord) (a b : List TxEntry) : Type 0 where
    pub number : ℕ
    pub previous : List ℕ
    pub heads_a : Heads h number previous rest a
    pub heads_b : Heads h number previous rest b
    pub bound : number + length rest < 2 ^ 64
    pub fit_a : AllByRecursion IsPlaceless a
    pub fit_b : AllByRecursion IsPlaceless b
    pub whole : take (sizes rest) a ≡ take (sizes rest) b → Whole
    pub part : Whole → take (sizes rest) a ≡ take (sizes rest) b

  -- the next block's entries
  pub record Here (r : BlockRecord) (a b : List TxEntry) : Type 0 where
    pub within_a : r.size ≤ length a
    pub within_b : r.size ≤ length b
    pub fit_a : AllByRecursion IsEntry (take r.size a)
    pub fit_b : AllByRecursion IsEntry (take r.size b)
    pub root : tree_hash h (map entry_bytes (take r.size a)) ≡ tree_hash h (map entry_bytes (take r.size b))

  part_fits : (n : ℕ) (previous : List ℕ) (r : BlockRecord) (xs : List TxEntry) → n < 2 ^ 64 → r.size ≤ max_block → AllByRecursion IsPlaceless xs → IsBlockOf h n previous r (take r.size xs)
      → AllByRecursion IsEntry (take r.size xs)
  part_fits n previous r xs small few fits is =
      let l = length-take r.size xs in
      subst (AllByRecursion IsEntry) (sym is.places) (placed_fit n 0 (take r.size xs) small (omega (arith, few, l)) (all_taken IsPlaceless r.size xs fits))

  root_is : (n : ℕ) (previous : List ℕ) (r : BlockRecord) (part : List TxEntry) → IsBlockOf h n previous r part → r.root ≡ tree_hash h (map entry_bytes part)
  unfolding block_of
  root_is n previous r part is = ap (λ (s : BlockRecord). s.root) is.is

  here_first : (r : BlockRecord) (more : List BlockRecord) (a b : List TxEntry) → BlocksLeft (r ∷ more) a b → Here r a b
  unfolding Heads
  here_first r more a b l =
      let n = l.number in
      let small = l.bound in
      record {
        within_a = l.heads_a.0.0;
        within_b = l.heads_b.0.0;
        fit_a = part_fits n l.previous r a (omega arith) l.heads_a.0.1 l.fit_a l.heads_a.1.0;
        fit_b = part_fits n l.previous r b (omega arith) l.heads_b.0.1 l.fit_b l.heads_b.1.0;
        root = sym (root_is n l.previous r (take r.size a) l.heads_a.1.0) ∙ root_is n l.previous r (take r.size b) l.heads_b.1.0;
      }

  pub here : (r : BlockRecord) (rest more : List BlockRecord) (a b : List TxEntry) → rest ≡ r ∷ more → BlocksLeft rest a b → Here r a b
  here r rest more a b is left = here_first r more a b (subst (λ (rs : List BlockRecord). BlocksLeft rs a b) is left)

  same_length : (r : BlockRecord) (a b : List TxEntry) → Here r a b → length (take r.size a) ≡ length (take r.size b)
  same_length r a b at =
      let x = length-take r.size a in
      let y = length-take r.size b in
      omega (arith, at.within_a, at.within_b)

  both_parts : (r : BlockRecord) (more : List BlockRecord) (a b : List TxEntry) → BlocksLeft (r ∷ more) a b → Whole
      → (take r.size a ≡ take r.size b) × (take (sizes more) (drop r.size a) ≡ take (sizes more) (drop r.size b))
  unfolding sizes
  both_parts r more a b l w =
      fronts (take r.size a) (take r.size b) (take (sizes more) (drop r.size a)) (take (sizes more) (drop r.size b)) (same_length r a b (here_first r more a b l))
      (sym (take_parts r.size (sizes more) a) ∙ l.part w ∙ take_parts r.size (sizes more) b)

  next_first : (r : BlockRecord) (more : List BlockRecord) (a b : List TxEntry) → BlocksLeft (r ∷ more) a b → take r.size a ≡ take r.size b → BlocksLeft more (drop r.size a) (drop r.size b)
  unfolding Heads sizes
  next_first r more a b l same =
      let small = l.bound in
      record {
        number = l.number + 1;
        previous = record_hash h r;
        heads_a = l.heads_a.1.1;
        heads_b = l.heads_b.1.1;
        bound = omega arith;
        fit_a = all_left IsPlaceless r.size a l.fit_a;
        fit_b = all_left IsPlaceless r.size b l.fit_b;
        whole =
            λ e. l.whole (take_parts r.size (sizes more) a ∙ ap (λ (xs : List TxEntry). xs ++ take (sizes more) (drop r.size a)) same ∙ ap (λ (xs : List TxEntry). take r.size b ++ xs) e ∙ sym (take_parts r.size (sizes more) b));
        part = λ w. (both_parts r more a b l w).1;
      }

  pub next : (r : BlockRecord) (rest more : List BlockRecord) (a b x y p q : List TxEntry) → rest ≡ r ∷ more → BlocksLeft rest a b
      → x ≡ take r.size a → y ≡ take r.size b → p ≡ drop r.size a → q ≡ drop r.size b → x ≡ y → BlocksLeft more p q
  next r rest more a b x y p q is left x_is y_is p_is q_is same =
      let l = subst (λ (rs : List BlockRecord). BlocksLeft rs a b) is left in
      let done = next_first r more a b l (sym x_is ∙ same ∙ y_is) in
      subst (λ (t : List TxEntry). BlocksLeft more p t) (sym q_is) (subst (λ (t : List TxEntry). BlocksLeft more t (drop r.size b)) (sym p_is) done)

  pub differ : (r : BlockRecord) (rest more : List BlockRecord) (a b x y : List TxEntry) → rest ≡ r ∷ more → BlocksLeft rest a b
      → x ≡ take r.size a → y ≡ take r.size b → (x ≡ y → ⊥) → Whole → ⊥
  differ r rest more a b x y is left x_is y_is ne w =
      let l = subst (λ (rs : List BlockRecord). BlocksLeft rs a b) is left in
      ne (x_is ∙ (both_parts r more a b l w).0 ∙ sym y_is)

  ended_first : (a b : List TxEntry) → BlocksLeft [] a b → Whole
  unfolding sizes
  ended_first a b l = l.whole refl

  pub ended : (rest : List BlockRecord) (a b : List TxEntry) → rest ≡ [] → BlocksLeft rest a b → Whole
  ended rest a b is left = ended_first a b (subst (λ (rs : List BlockRecord). BlocksLeft rs a b) is left)

-- at the first block
pub all_left_first : (h : List ℕ → List ℕ) (i j : Image) (d : HeldDigest) → Meets h i d → Meets h j d → blocks_to i d.block ≡ blocks_to j d.block
    → BlocksLeft h (entries_upto i d.block ≡ entries_upto j d.block) (blocks_to i d.block) i.entries j.entries
all_left_first h i j d m n same =
    let few = m.image.block_count in
    let l = length-take (d.block + 1) i.blocks in
    let count : sizes (blocks_to i d.block) ≡ entries_before i (d.block + 1) = sym (sizes_are (blocks_to i d.block)) in
    let other : sizes (blocks_to i d.block) ≡ entries_before j (d.block + 1) = ap sizes same ∙ sym (sizes_are (blocks_to j d.block)) in
    let one = ap (λ (k : ℕ). take k i.entries) count in
    let two = ap (λ (k : ℕ). take k j.entries) other in
    record {
      number = 0;
      previous = no_hash;
      heads_a = heads h i m.image m.chain m.blocks (d.block + 1);
      heads_b = subst (λ (rs : List BlockRecord). Heads h 0 no_hash rs j.entries) (sym same) (heads h j n.image n.chain n.blocks (d.block + 1));
      bound = omega arith;
      fit_a = m.image.entries;
      fit_b = n.image.entries;
      whole = λ e. sym one ∙ e ∙ two;
      part = λ e. one ∙ e ∙ sym two;
    }

pub all_left_at : (h : List ℕ → List ℕ) (i j : Image) (d : HeldDigest) (rest : List BlockRecord) (a b : List TxEntry) → Meets h i d → Meets h j d → blocks_to i d.block ≡ blocks_to j d.block
    → rest ≡ blocks_to i d.block → a ≡ i.entries → b ≡ j.entries → BlocksLeft h (entries_upto i d.block ≡ entries_upto j d.block) rest a b
all_left_at h i j d rest a b m n same rest_is a_is b_is =
    let W = entries_upto i d.block ≡ entries_upto j d.block in
    subst (λ (rs : List BlockRecord). BlocksLeft h W rs a b) (sym rest_is)
    (subst (λ (t : List TxEntry). BlocksLeft h W (blocks_to i d.block) t b) (sym a_is)
    (subst (λ (t : List TxEntry). BlocksLeft h W (blocks_to i d.block) i.entries t) (sym b_is) (all_left_first h i j d m n same)))
