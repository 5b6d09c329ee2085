-- So many blocks of an image, from one place on.
use Rattle.std.proofs.Common.{◌≡◌, ◌<◌, ◌≤◌, ◌+◌, ◌-◌, ℕ, suc, Bool, true, false, refl, sym, ap, ◌∙◌, List, [], ◌∷◌, length, map, take, drop, arith, Option, Some, None}
use Rattle.std.specs.Prelude.{◌&&◌, nat_le}
use Rattle.std.specs.Str.{bytes_eq}
use Rattle.std.proofs.lemmas.Bool.{lt-leb}
use Rattle.std.proofs.lemmas.List.{length-drop}
use Rattle.base_merkle.specs.TreeHash.{tree_hash}
use Rattle.format_entry.specs.Entry.{entry_bytes}
use Rattle.sql_types.specs.declared.entry.BlockRecord.{BlockRecord}
use Rattle.sql_types.specs.declared.image.Image.{Image}
use Rattle.spec_model.specs.Limits.{max_block}
use Rattle.spec_model.specs.Lists.{or_else}
use Rattle.spec_verify.specs.declared.place.Place.{Place}
use Rattle.spec_verify.specs.declared.place.Place.TheVariants as at
use Rattle.spec_verify.specs.Blocks.{block_fault, block_holds, entries_before, entries_in}
use Rattle.spec_verify.specs.First.{first_from, unless}
use Rattle.audit_definitions.proofs.Walks.{first_next}
use Rattle.audit_verify.specs.BlockParts.{faulty_block}
use Rattle.audit_roots.proofs.FirstParts.{found_in_both as in_both_parts, whole_part}

neither : (p : Bool) → (p && false) ≡ false
neither true = refl
neither false = refl

module _ (h : List ℕ → List ℕ) (i : Image) where
  abbrev found : ℕ → BlockRecord → Option Place
  found b r = unless (block_holds h i b r) (at.Block b)

  -- what is found in both parts together
  pub found_in_both : (from a b middle n : ℕ) (x y z : Option Place) → x ≡ faulty_block h i from a → y ≡ faulty_block h i middle b → z ≡ or_else x y
      → from + a ≤ length i.blocks → middle ≡ from + a → n ≡ a + b → z ≡ faulty_block h i from n
  found_in_both = in_both_parts found i.blocks

  -- of all blocks
  pub whole_chain : (n : ℕ) → n ≡ length i.blocks → faulty_block h i 0 n ≡ block_fault h i
  unfolding block_fault
  whole_chain = whole_part found i.blocks

  module _ (b m n : ℕ) (r : BlockRecord) (more : List BlockRecord) (all : Option Place) (here : drop b i.blocks ≡ r ∷ more) (one : m ≡ suc n)
      (rest : first_from found b (take m (drop b i.blocks)) ≡ all) where
    parts : take m (drop b i.blocks) ≡ r ∷ take n more
    parts = ap (take m) here ∙ ap (λ (k : ℕ). take k (r ∷ more)) one

    -- the next block holds, or it is the first that doesn't
    pub next_holds : block_holds h i b r ≡ true → first_from found (b + 1) (take n more) ≡ all
    next_holds holds = first_next found b r (take m (drop b i.blocks)) (take n more) all parts (ap (λ (t : Bool). unless t (at.Block b)) holds) rest

    pub next_fails : block_holds h i b r ≡ false → Some (at.Block b) ≡ all
    next_fails fails =
        sym (ap (λ (t : Bool). or_else (unless t (at.Block b)) (first_from found (b + 1) (take n more))) fails)
        ∙ sym (ap (first_from found b) parts) ∙ rest

  -- no block is left
  pub none_left : (b m : ℕ) (rs : List BlockRecord) (all : Option Place) → m ≡ 0 → first_from found b (take m rs) ≡ all → None ≡ all
  none_left b m rs all none rest = sym (ap (λ (k : ℕ). first_from found b (take k rs)) none) ∙ rest

  -- more entries are counted before a block than there are
  outgrown : (b : ℕ) (r : BlockRecord) → length i.entries < entries_before i b → block_holds h i b r ≡ false
  outgrown b r many =
      let front : Bool = nat_le 1 r.size && nat_le r.size max_block in
      let last : Bool = bytes_eq r.root (tree_hash h (map entry_bytes (entries_in i b r))) in
      let no : nat_le (entries_before i b + r.size) (length i.entries) ≡ false = lt-leb (entries_before i b + r.size) (length i.entries) (omega (arith, many)) in
      ap (λ (t : Bool). front && (t && last)) no ∙ neither front

  pub first_outgrown : (from n : ℕ) → 1 ≤ n → from + n ≤ length i.blocks → length i.entries < entries_before i from
      → Some (at.Block from) ≡ faulty_block h i from n
  first_outgrown from n some within many = here (drop from i.blocks) refl
    where
      here : (rest : List BlockRecord) → drop from i.blocks ≡ rest → Some (at.Block from) ≡ faulty_block h i from n
      here [] none = absurd (omega (arith, some, within, length-drop from i.blocks, ap length none))
      here (r ∷ more) e = next_fails from n (n - 1) r more (faulty_block h i from n) e (omega (arith, some)) refl (outgrown from r many)
