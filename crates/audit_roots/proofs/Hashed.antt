-- The hashes of some leaves, in parts of a list.
use Rattle.std.proofs.Common.{◌≡◌, ◌∙◌, ◌+◌, ℕ, List, ◌∷◌, ◌++◌, append_assoc, length, map, take, drop, sym, ap, ap₂}
use Rattle.std.proofs.Math.Seq.{take-append_seam}
use Rattle.std.proofs.lemmas.List.{drop-map, length-append, map-append, take-map}
use Rattle.std.proofs.lemmas.Simd.{map-map}
use Rattle.format_event.specs.Leaf.{event_bytes}
use Rattle.sql_types.specs.declared.event.Event.{Event}
use Rattle.audit_roots.specs.declared.marks.Mark.{Mark}
use Rattle.audit_roots.specs.Marks.{event_of, leaf_hash}

-- those of a part
pub hashes_of_part : (h : List ℕ → List ℕ) (marks rest own : List Mark) (hashes part : List (List ℕ)) (from count n : ℕ)
    → n ≡ count → rest ≡ drop from marks → own ≡ take count rest → part ≡ take n (drop from hashes)
    → hashes ≡ map (leaf_hash h) marks → part ≡ map (leaf_hash h) own
hashes_of_part h marks rest own hashes part from count n long rest_is own_is part_is all =
    part_is
    ∙ ap (λ (k : ℕ). take k (drop from hashes)) long
    ∙ ap (λ (l : List (List ℕ)). take count (drop from l)) all
    ∙ ap (take count) (drop-map (leaf_hash h) from marks)
    ∙ take-map (leaf_hash h) count (drop from marks)
    ∙ ap (λ (l : List Mark). map (leaf_hash h) (take count l)) (sym rest_is)
    ∙ ap (map (leaf_hash h)) (sym own_is)

-- they are the hashes of the leaves
pub hashes_of_leaves : (h : List ℕ → List ℕ) (own : List Mark) (hashes : List (List ℕ)) → hashes ≡ map (leaf_hash h) own
    → hashes ≡ map (λ leaf. h (0 ∷ leaf)) (map event_bytes (map event_of own))
hashes_of_leaves h own hashes is =
    is
    ∙ sym (map-map (λ (e : Event). h (0 ∷ event_bytes e)) event_of own)
    ∙ sym (map-map (λ (leaf : List ℕ). h (0 ∷ leaf)) event_bytes (map event_of own))

-- the first part of a list
pub front_part : (own others rest : List Mark) → rest ≡ own ++ others → own ≡ take (length own) rest
front_part own others rest parts = sym (take-append_seam own others) ∙ ap (take (length own)) (sym parts)

-- of two parts, the second of which has two, the first of these follows the first part
pub part_at : (from : ℕ) (marks front rest part others : List Mark) → marks ≡ front ++ rest → length front ≡ from → rest ≡ part ++ others
    → take (from + length part) marks ≡ take from marks ++ part
part_at from marks front rest part others parts long own =
    let head : take from marks ≡ front =
    ap (λ (k : ℕ). take k marks) (sym long) ∙ ap (take (length front)) parts ∙ take-append_seam front rest in
    let whole : marks ≡ (front ++ part) ++ others =
    parts ∙ ap (λ (l : List Mark). front ++ l) own ∙ sym (append_assoc front part others) in
    let both : from + length part ≡ length (front ++ part) =
    ap (λ (k : ℕ). k + length part) (sym long) ∙ sym (length-append front part) in
    ap (λ (k : ℕ). take k marks) both
    ∙ ap (take (length (front ++ part))) whole
    ∙ take-append_seam (front ++ part) others
    ∙ ap (λ (l : List Mark). l ++ part) (sym head)

-- with those of a part that follows
pub hashes_next : (h : List ℕ → List ℕ) (marks part : List Mark) (done n : ℕ) (own slice before next : List (List ℕ))
    → take (done + length part) marks ≡ take done marks ++ part → n ≡ length part → before ≡ map (leaf_hash h) (take done marks)
    → own ≡ map (leaf_hash h) part → slice ≡ own → next ≡ before ++ slice → next ≡ map (leaf_hash h) (take (done + n) marks)
hashes_next h marks part done n own slice before next parts long before_is own_is slice_is next_is =
    let f : Mark → List ℕ = leaf_hash h in
    next_is
    ∙ ap (λ (l : List (List ℕ)). l ++ slice) before_is
    ∙ ap (λ (l : List (List ℕ)). map f (take done marks) ++ l) (slice_is ∙ own_is)
    ∙ sym (map-append f (take done marks) part)
    ∙ ap (map f) (sym parts)
    ∙ ap (λ (k : ℕ). map f (take (done + k) marks)) (sym long)

-- those of two parts
pub hashes_of_both : (h : List ℕ → List ℕ) (marks a b : List Mark) (first second hashes : List (List ℕ)) → marks ≡ a ++ b
    → first ≡ map (leaf_hash h) a → second ≡ map (leaf_hash h) b → hashes ≡ first ++ second → hashes ≡ map (leaf_hash h) marks
hashes_of_both h marks a b first second hashes parts first_is second_is is =
    is
    ∙ ap₂ (λ (k l : List (List ℕ)). k ++ l) first_is second_is
    ∙ sym (map-append (leaf_hash h) a b)
    ∙ ap (map (leaf_hash h)) (sym parts)
