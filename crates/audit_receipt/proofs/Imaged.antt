-- What is hashed of an image's records and paths is hashed where the image is verified.
use Rattle.std.proofs.Common.{◌≡◌, ◌+◌, ℕ, zero, suc, List, [], ◌∷◌, length, map, take, drop, Some, refl, sym, ◌∙◌, ap, subst}
use Rattle.std.specs.List.{slice_get, sum_by}
use Rattle.std.proofs.lemmas.List.{drop-drop, length-map}
use Rattle.std.proofs.lemmas.List.Sums.{sum_by-cons}
use Rattle.format_entry.specs.Entry.{entry_bytes}
use Rattle.sql_types.specs.declared.entry.BlockRecord.{BlockRecord}
use Rattle.sql_types.specs.declared.entry.TxEntry.{TxEntry}
use Rattle.sql_types.specs.declared.image.Image.{Image}
use Rattle.spec_verify.specs.Blocks.{entries_in}
use Rattle.audit_extract.specs.Collisions.{IsAtNode, IsHashedIn, IsRecordAmong, as_record, of_entries}
use Rattle.audit_extract.specs.Parts.{blocks_to}
use Rattle.audit_extract.proofs.Collisions.{left_record, taken_record}
use Rattle.audit_extract.proofs.Lists.{cons_is}
use Rattle.audit_paths.specs.Hashed.{IsHashedUnder}
use Rattle.audit_paths.specs.Path.{audit_path}
use Rattle.audit_paths.proofs.Leading.{path_nodes}
use Rattle.audit_receipt.specs.Made.{part_at}
use Rattle.audit_receipt.proofs.Chains.{first_left}
use Rattle.audit_receipt.proofs.Found.{HasBlock}
use Rattle.audit_receipt.proofs.Made.{leaf_at}

-- ---- lists

-- the entries of a block, as they are counted from the front
part_is : (j : ℕ) (rs : List BlockRecord) (xs : List TxEntry) (r : BlockRecord) (more : List BlockRecord) → drop j rs ≡ r ∷ more
    → part_at rs xs j ≡ take r.size (drop (sum_by (λ (s : BlockRecord). s.size) (take j rs)) xs)
part_is zero [] xs r more e = cc
part_is zero (s ∷ rs) xs r more e = ap (λ (t : BlockRecord). take t.size xs) (cons_is s r rs more e).0
part_is (suc j) [] xs r more e = cc
part_is (suc j) (s ∷ rs) xs r more e =
    part_is j rs (drop s.size xs) r more e
    ∙ ap (take r.size) (drop-drop (sum_by (λ (t : BlockRecord). t.size) (take j rs)) s.size xs)
    ∙ ap (λ (n : ℕ). take r.size (drop n xs)) (sym (sum_by-cons (λ (t : BlockRecord). t.size) s (take j rs)))

module _ (h : List ℕ → List ℕ) (i : Image) where
  pub records_hashed : (j b : ℕ) (x : List ℕ) → IsRecordAmong (drop j (blocks_to i b)) x → IsHashedIn h i x
  records_hashed j b x a = as_record (taken_record (b + 1) i.blocks x (left_record j (blocks_to i b) x a))

  nodes_hashed : (j : ℕ) → HasBlock h i.blocks i.entries j → (x : List ℕ) → IsAtNode h (map entry_bytes (part_at i.blocks i.entries j)) x → IsHashedIn h i x
  nodes_hashed j b x at =
      of_entries j b.first (first_left j i.blocks b.first b.more b.at)
      (subst (λ (es : List TxEntry). IsAtNode h (map entry_bytes es) x) (part_is j i.blocks i.entries b.first b.more b.at) at)

  -- on the way of an entry's place in its block
  pub path_hashed : (j k : ℕ) (e : TxEntry) → (b : HasBlock h i.blocks i.entries j) → slice_get (part_at i.blocks i.entries j) k ≡ Some e
      → (x : List ℕ) → IsHashedUnder h (audit_path h k (map entry_bytes (part_at i.blocks i.entries j))) k b.first.size (entry_bytes e) x → IsHashedIn h i x
  path_hashed j k e b at x on =
      let part : List TxEntry = part_at i.blocks i.entries j in
      let count : length (map entry_bytes part) ≡ b.first.size = length-map part entry_bytes ∙ b.size in
      nodes_hashed j b x (path_nodes h (map entry_bytes part) k (entry_bytes e) (leaf_at part k e at) x
      (subst (λ (n : ℕ). IsHashedUnder h (audit_path h k (map entry_bytes part)) k n (entry_bytes e) x) (sym count) on))
