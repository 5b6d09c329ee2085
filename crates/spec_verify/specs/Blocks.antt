-- Digests, and blocks: their chain, their sizes and their roots.
use Rattle.std.specs.Prelude.{ℕ, zero, suc, ◌+◌, ◌==◌, ◌&&◌, nat_lt, nat_le, Bool, List, length, map, take, drop, Option}
use Rattle.std.specs.List.{sum_by}
use Rattle.std.specs.Str.{bytes_eq}
use Rattle.format_entry.specs.Entry.{entry_bytes}
use Rattle.base_merkle.specs.TreeHash.{tree_hash}
use Rattle.sql_types.specs.declared.digest.HeldDigest.{HeldDigest}
use Rattle.sql_types.specs.declared.entry.BlockRecord.{BlockRecord}
use Rattle.sql_types.specs.declared.entry.TxEntry.{TxEntry}
use Rattle.sql_types.specs.declared.image.Image.{Image}
use Rattle.spec_model.specs.Limits.{max_block}
use Rattle.format_image.specs.Blocks.{no_hash, hash_at}
use Rattle.spec_verify.specs.declared.place.Place.{Place}
use Rattle.spec_verify.specs.declared.place.Place.TheVariants as at
use Rattle.spec_verify.specs.First.{unless, first}

-- how many entries the blocks before block b have
abbrev pub entries_before : Image → ℕ → ℕ
entries_before i b = sum_by (λ (r : BlockRecord). r.size) (take b i.blocks)

-- the entries of block b
abbrev pub entries_in : Image → ℕ → BlockRecord → List TxEntry
entries_in i b r = take r.size (drop (entries_before i b) i.entries)

module _ (h : List ℕ → List ℕ) (i : Image) where
  -- ---- a digest: it is of this database, of a block that the image has, and tells that block's hash

  abbrev pub digest_holds : HeldDigest → Bool
  digest_holds d =
      bytes_eq d.database i.database
      && (nat_lt d.block (length i.blocks) && bytes_eq d.hash (hash_at h i.blocks d.block))

  -- the first digest that is of something else
  unfoldable pub digest_fault : List HeldDigest → Option Place
  digest_fault digests = first (λ k d. unless (digest_holds d) (at.Digest k)) digests

  -- ---- the chain: blocks are numbered by their places, and each keeps the hash of the one before it

  -- what block b keeps: the hash of the block before it, or zeros where it is the first
  abbrev pub hash_before : ℕ → List ℕ
  hash_before zero = no_hash
  hash_before (suc b) = hash_at h i.blocks b

  abbrev pub link_holds : ℕ → BlockRecord → Bool
  link_holds b r = r.id == b && bytes_eq r.previous (hash_before b)

  -- the first block that breaks the chain
  unfoldable pub chain_fault : Option Place
  chain_fault = first (λ b r. unless (link_holds b r) (at.Block b)) i.blocks

  -- ---- a block and its entries: it has some, and not too many; the image has all that it and the blocks
  -- before it count; and its root is the tree hash of their bytes

  abbrev pub block_holds : ℕ → BlockRecord → Bool
  block_holds b r =
      (nat_le 1 r.size && nat_le r.size max_block)
      && (nat_le (entries_before i b + r.size) (length i.entries)
      && bytes_eq r.root (tree_hash h (map entry_bytes (entries_in i b r))))

  -- the first block that is not that of its entries
  unfoldable pub block_fault : Option Place
  block_fault = first (λ b r. unless (block_holds b r) (at.Block b)) i.blocks
