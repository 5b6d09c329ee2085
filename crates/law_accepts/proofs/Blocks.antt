-- Digests and the chain of blocks.
use Rattle.std.proofs.Common.{◌≡◌, ℕ, zero, suc, ◌+◌, refl, ap, sym, ◌∙◌, List, [], ◌∷◌, length, drop, true, None, arith, add-one}
use Rattle.std.proofs.lemmas.Bool.{lt-ltb, eq-eqb}
use Rattle.sql_types.specs.declared.digest.HeldDigest.{HeldDigest}
use Rattle.sql_types.specs.declared.entry.BlockRecord.{BlockRecord}
use Rattle.sql_types.specs.declared.entry.TxEntry.{TxEntry}
use Rattle.sql_types.specs.declared.image.Image.{Image}
use Rattle.sql_types.specs.declared.journal.JournalItem.{JournalItem}
use Rattle.spec_model.specs.Script.{Reading}
use Rattle.law_frame.proofs.Alls.{all_weaker}
use Rattle.spec_ledger.specs.Blocks.{no_hash, block_of, record_hash, first_or_no_hash}
use Rattle.spec_ledger.specs.Parts.{AreBlocksOf}
use Rattle.spec_ledger.specs.Ledger.{ledger_of, blocks_of, block_hash}
use Rattle.law_blocks.proofs.Staying.{blocks_counted}
use Rattle.spec_ledger.proofs.Parting.{parted}
use Rattle.format_image.specs.Image.{image_of}
use Rattle.spec_verify.specs.declared.place.Place.TheVariants as at
use Rattle.spec_verify.specs.First.{unless, first_from}
use Rattle.spec_verify.specs.Blocks.{digest_holds, digest_fault, hash_before, link_holds, chain_fault}
use Rattle.law_accepts.specs.Held.{IsHeld, AllHeld}
use Rattle.law_accepts.proofs.Firsts.{same_bytes, both, passes, neither, nothing_first}

-- ---- digests

module _ (h : List ℕ → List ℕ) (reads : Reading) (database : List ℕ) (items : List JournalItem) where
  it_holds : (d : HeldDigest) → IsHeld h reads database items d → digest_holds h (image_of h reads database items) d ≡ true
  unfolding image_of
  it_holds d is =
      both (same_bytes d.database database is.of)
      (both (lt-ltb d.block (length (blocks_of h reads items)) (omega (arith, is.closed, blocks_counted h reads items)))
      (same_bytes d.hash (block_hash h reads items d.block) is.hash))

  pub digests_hold : (digests : List HeldDigest) → AllHeld h reads database items digests → digest_fault h (image_of h reads database items) digests ≡ None
  unfolding digest_fault
  digests_hold digests all =
      let i : Image = image_of h reads database items in
      nothing_first (λ k d. unless (digest_holds h i d) (at.Digest k)) 0 digests
      (all_weaker (IsHeld h reads database items) (λ d. (k : ℕ) → unless (digest_holds h i d) (at.Digest k) ≡ None) (λ d is k. passes (digest_holds h i d) (at.Digest k) (it_holds d is)) digests all)

-- ---- the chain

one_further : {A : Type 0} (b : ℕ) (all rest : List A) (x : A) → drop b all ≡ x ∷ rest → drop (suc b) all ≡ rest
one_further zero [] rest x e = cc
one_further (suc b) [] rest x e = cc
one_further zero (y ∷ ys) rest x e = cc
one_further (suc b) (y ∷ ys) rest x e = one_further b ys rest x e

-- what stands behind the element at a place
pub behind : {A : Type 0} (b : ℕ) (all rest : List A) (x : A) → drop b all ≡ x ∷ rest → drop (b + 1) all ≡ rest
behind b all rest x e = ap (λ (n : ℕ). drop n all) (add-one b) ∙ one_further b all rest x e

module _ (h : List ℕ → List ℕ) (i : Image) where
  pub linked : (b : ℕ) (previous : List ℕ) (r : BlockRecord) (part : List TxEntry) → r ≡ block_of h b part previous → previous ≡ hash_before h i b → link_holds h i b r ≡ true
  unfolding block_of
  linked b previous r part is e = both (eq-eqb r.id b (ap (λ (x : BlockRecord). x.id) is)) (same_bytes r.previous (hash_before h i b) (ap (λ (x : BlockRecord). x.previous) is ∙ e))

  next_hash : (b : ℕ) (r : BlockRecord) (rs : List BlockRecord) → drop b i.blocks ≡ r ∷ rs → record_hash h r ≡ hash_before h i (b + 1)
  next_hash b r rs e = sym (ap (λ (n : ℕ). hash_before h i n) (add-one b) ∙ ap (first_or_no_hash h) e)

  chained : (b : ℕ) (previous : List ℕ) (rs : List BlockRecord) (es : List TxEntry) → AreBlocksOf h b previous rs es → drop b i.blocks ≡ rs → previous ≡ hash_before h i b
      → first_from (λ n r. unless (link_holds h i n r) (at.Block n)) b rs ≡ None
  chained b previous [] es all there e = refl
  chained b previous (r ∷ rs) es all there e =
      neither _ _ (passes (link_holds h i b r) (at.Block b) (linked b previous r all.0 all.3.is e))
      (chained (b + 1) (record_hash h r) rs all.1 all.4 (behind b i.blocks rs r there) (next_hash b r rs there))

pub chain_holds : (h : List ℕ → List ℕ) (reads : Reading) (database : List ℕ) (items : List JournalItem) → chain_fault h (image_of h reads database items) ≡ None
unfolding image_of chain_fault
chain_holds h reads database items =
    chained h (image_of h reads database items) 0 no_hash (blocks_of h reads items) (ledger_of h reads items).closed (parted h reads items).closed refl refl
