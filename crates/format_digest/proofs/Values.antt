-- Values of digests, one after another.
use Rattle.std.proofs.Common.{◌≡◌, ◌∙◌, ◌++◌, ◌+◌, ◌<◌, ap, ap₂, ℕ, List, [], ◌∷◌, map, length, take, sym, subst, refl}
use Rattle.std.specs.List.{slice_index_or}
use Rattle.std.proofs.lemmas.List.{take_more, map-append}
use Rattle.serde_json.specs.View.{view}
use Rattle.serde_json.specs.declared.value.Value.{Value}
use Rattle.sql_types.specs.declared.digest.Digest.{Digest}
use Rattle.hex.specs.Hex.{IsBytes}
use Rattle.format_digest.specs.Moment.{IsMomentText}
use Rattle.format_digest.specs.Writing.{DigestWithTimes, digest_data, hash_text, shown_data, IsShown, AreShown, IsHash, AreHashes, IsValue, AreValues}

more_shown : (ss : List DigestWithTimes) (s : DigestWithTimes) → AreShown ss → IsShown s → AreShown (ss ++ s ∷ [])
more_shown [] s all one = (one, tt)
more_shown (r ∷ ss) s all one = (all.0, more_shown ss s all.1 one)

more_hashes : (ss : List DigestWithTimes) (s : DigestWithTimes) → AreHashes ss → IsHash s.digest.hash → AreHashes (ss ++ s ∷ [])
more_hashes [] s all one = (one, tt)
more_hashes (r ∷ ss) s all one = (all.0, more_hashes ss s all.1 one)

-- one more of a list that is gone through
pub values_more : (list : List Digest) (i : ℕ) (d : Digest) (values more : List Value) (v : Value)
    → i < length list → d ≡ slice_index_or list i d → more ≡ values ++ v ∷ []
    → AreValues (take i list) values → IsValue d v → AreValues (take (i + 1) list) more
values_more list i d values more v lt at pushed so_far one = record {
  shown = so_far.shown ++ one.shown ∷ [];
  digests = map-append (λ (s : DigestWithTimes). s.digest) so_far.shown (one.shown ∷ []) ∙ ap₂ (λ (a : List Digest) (b : Digest). a ++ b ∷ []) so_far.digests (one.digest ∙ at) ∙ sym (take_more list i d lt);
  times = more_shown so_far.shown one.shown so_far.times one.times;
  hashes = more_hashes so_far.shown one.shown so_far.hashes one.hash;
  said = ap (map view) pushed ∙ map-append view values (v ∷ []) ∙ ap₂ (λ a b. a ++ b ∷ []) so_far.said one.value ∙ sym (map-append shown_data so_far.shown (one.shown ∷ []));
}

-- a value that was made of a digest and the texts of its times and its hash
pub value_is : (d : Digest) (m l made hash last : List ℕ) (v : Value) → IsMomentText d.made m → made ≡ m
    → IsMomentText d.last_commit l → last ≡ l → length d.hash ≡ 32 → IsBytes d.hash → hash ≡ hash_text d.hash
    → view v ≡ digest_data d.block d.database made hash last → IsValue d v
value_is d m l made hash last v is_made same_made is_last same_last size bytes same_hash is =
    let P : List ℕ → Type 0 = IsMomentText d.made in
    let Q : List ℕ → Type 0 = IsMomentText d.last_commit in
    record {
      shown = record { digest = d; made = made; last_commit = last };
      digest = refl;
      times = record { made = subst P (sym same_made) is_made; last_commit = subst Q (sym same_last) is_last };
      hash = record { size = size; bytes = bytes };
      value = is ∙ ap (λ (h : List ℕ). digest_data d.block d.database made h last) same_hash;
    }
