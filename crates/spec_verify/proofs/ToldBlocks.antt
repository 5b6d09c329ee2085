-- Digests, the chain and blocks: what is told of them.
use Rattle.std.proofs.Common.{◌≡◌, ◌+◌, ℕ, List, length, map}
use Rattle.std.proofs.lemmas.Bool.Decides.{Decides-and, Decides-like, Decides-eqb, Decides-ltb}
use Rattle.std.proofs.lemmas.Slice.Eq.{bytes_eq-Decides}
use Rattle.std.specs.Bool.{Decides}
use Rattle.std.specs.Prelude.{◌&&◌, ◌==◌, nat_le, nat_lt}
use Rattle.std.specs.Str.{bytes_eq}
use Rattle.format_entry.specs.Entry.{entry_bytes}
use Rattle.base_merkle.specs.TreeHash.{tree_hash}
use Rattle.sql_types.specs.declared.digest.HeldDigest.{HeldDigest}
use Rattle.sql_types.specs.declared.entry.BlockRecord.{BlockRecord}
use Rattle.sql_types.specs.declared.image.Image.{Image}
use Rattle.spec_model.specs.Limits.{max_block}
use Rattle.format_image.specs.Blocks.{hash_at}
use Rattle.spec_verify.specs.declared.place.Place.TheVariants as at
use Rattle.spec_verify.specs.Blocks.{digest_holds, digest_fault, hash_before, link_holds, chain_fault, block_holds, block_fault, entries_before, entries_in}
use Rattle.spec_verify.specs.First.{unless}
use Rattle.spec_verify.specs.Sentences.{DigestHolds, LinkHolds, BlockHolds}
use Rattle.spec_verify.specs.Told.{TellsFirst}
use Rattle.spec_verify.proofs.Deciding.{Decides-le, unless_told}
use Rattle.spec_verify.proofs.Firsts.{first_told}

module _ (h : List ℕ → List ℕ) (i : Image) where
  decides_digest : (d : HeldDigest) → Decides (digest_holds h i d) (DigestHolds h i d)
  decides_digest d =
      Decides-like (digest_holds h i d)
      (λ p. record { database = p.0; block = p.1.0; hash = p.1.1 })
      (λ r. (r.database, (r.block, r.hash)))
      (Decides-and (bytes_eq d.database i.database) (nat_lt d.block (length i.blocks) && bytes_eq d.hash (hash_at h i.blocks d.block)) (bytes_eq-Decides d.database i.database)
      (Decides-and (nat_lt d.block (length i.blocks)) (bytes_eq d.hash (hash_at h i.blocks d.block)) (Decides-ltb d.block (length i.blocks)) (bytes_eq-Decides d.hash (hash_at h i.blocks d.block))))

  pub digests_told : (digests : List HeldDigest) → TellsFirst (λ k d. DigestHolds h i d) (λ k d p. p ≡ at.Digest k) digests (digest_fault h i digests)
  unfolding digest_fault
  digests_told digests =
      first_told (λ k d. unless (digest_holds h i d) (at.Digest k)) (λ k d. DigestHolds h i d) (λ k d p. p ≡ at.Digest k)
      (λ k d. unless_told (digest_holds h i d) (at.Digest k) (decides_digest d)) digests

  decides_link : (b : ℕ) (r : BlockRecord) → Decides (link_holds h i b r) (LinkHolds h i b r)
  decides_link b r =
      Decides-like (link_holds h i b r)
      (λ p. record { number = p.0; previous = p.1 })
      (λ l. (l.number, l.previous))
      (Decides-and (r.id == b) (bytes_eq r.previous (hash_before h i b)) (Decides-eqb r.id b) (bytes_eq-Decides r.previous (hash_before h i b)))

  pub chain_told : TellsFirst (LinkHolds h i) (λ b r p. p ≡ at.Block b) i.blocks (chain_fault h i)
  unfolding chain_fault
  chain_told =
      first_told (λ b r. unless (link_holds h i b r) (at.Block b)) (LinkHolds h i) (λ b r p. p ≡ at.Block b)
      (λ b r. unless_told (link_holds h i b r) (at.Block b) (decides_link b r)) i.blocks

  decides_block : (b : ℕ) (r : BlockRecord) → Decides (block_holds h i b r) (BlockHolds h i b r)
  decides_block b r =
      let root : List ℕ = tree_hash h (map entry_bytes (entries_in i b r)) in
      let all : ℕ = entries_before i b + r.size in
      Decides-like (block_holds h i b r)
      (λ p. record { some = p.0.0; few = p.0.1; all_there = p.1.0; root = p.1.1 })
      (λ k. ((k.some, k.few), (k.all_there, k.root)))
      (Decides-and (nat_le 1 r.size && nat_le r.size max_block) (nat_le all (length i.entries) && bytes_eq r.root root)
      (Decides-and (nat_le 1 r.size) (nat_le r.size max_block) (Decides-le 1 r.size) (Decides-le r.size max_block))
      (Decides-and (nat_le all (length i.entries)) (bytes_eq r.root root) (Decides-le all (length i.entries)) (bytes_eq-Decides r.root root)))

  pub blocks_told : TellsFirst (BlockHolds h i) (λ b r p. p ≡ at.Block b) i.blocks (block_fault h i)
  unfolding block_fault
  blocks_told =
      first_told (λ b r. unless (block_holds h i b r) (at.Block b)) (BlockHolds h i) (λ b r p. p ≡ at.Block b)
      (λ b r. unless_told (block_holds h i b r) (at.Block b) (decides_block b r)) i.blocks
