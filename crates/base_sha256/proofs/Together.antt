-- Four messages in their lanes, and their digests.
use Rattle.std.proofs.Common.{◌≡◌, ℕ, zero, suc, ◌+◌, ◌/◌, ◌<◌, List, [], ◌∷◌, length, map, slice_index, slice_index_or, refl, sym, ap, subst, ◌∙◌, arith}
use Rattle.std.proofs.lemmas.List.{get_or-map, length-map}
use Rattle.std.proofs.lemmas.Simd.{map-map}
use Rattle.sha2.specs.Sha256.{compress, digest_bytes, hash_after, initial_hash_256, padded_message, sha256}
use Rattle.sha2.proofs.Absorbing256.{hash_after_next}
use Rattle.base_sha256.specs.Blocks.{HasBlocks, block_at}
use Rattle.base_sha256.specs.Lanes.{block, eight_words}
use Rattle.base_sha256.specs.Messages.{AllHaveBlocks, bytes_of}
use Rattle.base_sha256.specs.declared.message.Message.{Message}

-- the bytes of message i
abbrev pub message : List Message → ℕ → List ℕ
message messages i = slice_index_or (map bytes_of messages) i []

-- the hash values after the first n blocks of each message
abbrev pub hashes_after : List Message → ℕ → ℕ → List ℕ
hashes_after messages n i = hash_after initial_hash_256 (padded_message (message messages i)) n

spread : List ℕ → List ℕ → List ℕ → List ℕ → List (List ℕ)
spread a b c d =
    (slice_index a 0 ∷ slice_index b 0 ∷ slice_index c 0 ∷ slice_index d 0 ∷ [])
    ∷ (slice_index a 1 ∷ slice_index b 1 ∷ slice_index c 1 ∷ slice_index d 1 ∷ [])
    ∷ (slice_index a 2 ∷ slice_index b 2 ∷ slice_index c 2 ∷ slice_index d 2 ∷ [])
    ∷ (slice_index a 3 ∷ slice_index b 3 ∷ slice_index c 3 ∷ slice_index d 3 ∷ [])
    ∷ (slice_index a 4 ∷ slice_index b 4 ∷ slice_index c 4 ∷ slice_index d 4 ∷ [])
    ∷ (slice_index a 5 ∷ slice_index b 5 ∷ slice_index c 5 ∷ slice_index d 5 ∷ [])
    ∷ (slice_index a 6 ∷ slice_index b 6 ∷ slice_index c 6 ∷ slice_index d 6 ∷ [])
    ∷ (slice_index a 7 ∷ slice_index b 7 ∷ slice_index c 7 ∷ slice_index d 7 ∷ []) ∷ []

-- lanes 0 to 3 are all that counts
pub same_lanes : (s u : ℕ → List ℕ) → ((i : ℕ) → i < 4 → s i ≡ u i) → eight_words s ≡ eight_words u
unfolding spread
same_lanes s u e =
    let step : spread (s 0) (s 1) (s 2) (s 3) ≡ spread (u 0) (u 1) (u 2) (u 3) =
    λ j. spread (e 0 (omega arith) j) (e 1 (omega arith) j) (e 2 (omega arith) j) (e 3 (omega arith) j) in
    step

-- a list of four
pub four_of : (xs : List (List ℕ)) → length xs ≡ 4
    → xs ≡ slice_index_or xs 0 [] ∷ slice_index_or xs 1 [] ∷ slice_index_or xs 2 [] ∷ slice_index_or xs 3 [] ∷ []
four_of [] e = absurd (omega arith)
four_of (a ∷ []) e = absurd (omega arith)
four_of (a ∷ b ∷ []) e = absurd (omega arith)
four_of (a ∷ b ∷ c ∷ []) e = absurd (omega arith)
four_of (a ∷ b ∷ c ∷ d ∷ []) e = refl
four_of (a ∷ b ∷ c ∷ d ∷ f ∷ xs) e = absurd (omega arith)

-- what is made of each message, in the lane of that message
pub made_at : (f : List ℕ → List ℕ) (messages : List Message) (i : ℕ) → i < length messages
    → slice_index_or (map (λ m. f (bytes_of m)) messages) i [] ≡ f (message messages i)
made_at f messages i lt =
    ap (λ (l : List (List ℕ)). slice_index_or l i []) (sym (map-map f bytes_of messages))
    ∙ get_or-map f (map bytes_of messages) i [] [] (omega (arith, length-map messages bytes_of))

-- one more block of each message
pub hashes_more : (messages : List Message) (n : ℕ) (blocks next : List (List ℕ)) → length messages ≡ 4
    → blocks ≡ map (λ m. block_at (bytes_of m) n) messages
    → next ≡ eight_words (λ i. compress (hashes_after messages n i) (block blocks i))
    → next ≡ eight_words (hashes_after messages (n + 1))
hashes_more messages n blocks next len eb en =
    en ∙ same_lanes _ _ (λ i lt.
    ap (λ (l : List (List ℕ)). compress (hashes_after messages n i) (slice_index_or l i [])) eb
    ∙ ap (compress (hashes_after messages n i)) (made_at (λ m. block_at m n) messages i (omega arith))
    ∙ sym (hash_after_next initial_hash_256 (padded_message (message messages i)) n))

-- the digest of a message that has n blocks
digest_after : (m : List ℕ) (n : ℕ) → HasBlocks m n → digest_bytes (hash_after initial_hash_256 (padded_message m) n) 8 ≡ sha256 m
unfolding sha256
digest_after m n has =
    let count : n ≡ length (padded_message m) / 64 = omega (arith, has.blocks) in
    ap (λ (k : ℕ). digest_bytes (hash_after initial_hash_256 (padded_message m) k) 8) count

-- message i has n blocks, as each has
has_at : (messages : List Message) (n i : ℕ) → i < length messages → AllHaveBlocks messages n → HasBlocks (message messages i) n
has_at [] n i lt has = absurd (omega arith)
has_at (m ∷ ms) n i lt has = subst (λ (x : List ℕ). HasBlocks x n) (sym (get_or-map bytes_of (m ∷ ms) i m [] lt)) (has i m lt)

-- the digests, once all blocks are done
pub digests_after : (messages : List Message) (n : ℕ) → length messages ≡ 4 → AllHaveBlocks messages n
    → digest_bytes (hashes_after messages n 0) 8 ∷ digest_bytes (hashes_after messages n 1) 8 ∷ digest_bytes (hashes_after messages n 2) 8 ∷ digest_bytes (hashes_after messages n 3) 8 ∷ []
    ≡ map (λ m. sha256 (bytes_of m)) messages
digests_after messages n len has =
    let at : (i : ℕ) → i < 4 → digest_bytes (hashes_after messages n i) 8 ≡ slice_index_or (map (λ m. sha256 (bytes_of m)) messages) i [] =
    λ i lt. digest_after (message messages i) n (has_at messages n i (omega arith) has) ∙ sym (made_at sha256 messages i (omega arith)) in
    (λ j. at 0 (omega arith) j ∷ at 1 (omega arith) j ∷ at 2 (omega arith) j ∷ at 3 (omega arith) j ∷ [])
    ∙ sym (four_of (map (λ m. sha256 (bytes_of m)) messages) (length-map messages (λ m. sha256 (bytes_of m)) ∙ len))

-- each of four messages has n blocks
pub all_four : (a b c d : Message) (n : ℕ) → HasBlocks (bytes_of a) n → HasBlocks (bytes_of b) n → HasBlocks (bytes_of c) n → HasBlocks (bytes_of d) n
    → AllHaveBlocks (a ∷ b ∷ c ∷ d ∷ []) n
all_four a b c d n ha hb hc hd = at
  where
    at : (k : ℕ) (e : Message) → k < 4 → HasBlocks (bytes_of (slice_index_or (a ∷ b ∷ c ∷ d ∷ []) k e)) n
    at zero e lt = ha
    at (suc zero) e lt = hb
    at (suc (suc zero)) e lt = hc
    at (suc (suc (suc zero))) e lt = hd
    at (suc (suc (suc (suc k)))) e lt = absurd (omega arith)
