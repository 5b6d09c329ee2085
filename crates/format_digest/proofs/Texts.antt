-- What is written of digests, and what is read of it.
use Rattle.std.proofs.Common.{◌≡◌, ◌∙◌, ◌++◌, ◌+◌, ◌*◌, ◌≤◌, ap, ap₂, ℕ, Bool, true, false, List, [], ◌∷◌, map, length, Some, Ok, refl, sym, arith, append-nil, append_assoc, IsUtf8}
use Rattle.std.specs.Prelude.{Vec}
use Rattle.std.specs.declared.alloc.Global.{Global}
use Rattle.serde_json.specs.Data.{array, depth, items_depth}
use Rattle.serde_json.specs.Written.{compact_text, items_text, has_float, items_have_float}
use Rattle.serde_json.specs.View.{items_of, view}
use Rattle.serde_json.specs.Read.{read, max_depth}
use Rattle.serde_json.specs.declared.value.Value.{Value}
use Rattle.serde_json.specs.declared.value.Value.TheVariants.{Array}
use Rattle.serde_json.proofs.Views.{view-Array}
use Rattle.serde_json.proofs.OnLiterals.{serde_json_on_literals}
use Rattle.hex.specs.Hex.{decode_sized, encode_upper, upper_digits}
use Rattle.hex.proofs.HexLemmas.{length-encode_with, decode_sized-twice, decode_of-encode_upper}
use Rattle.sql_types.specs.declared.digest.HeldDigest.{HeldDigest}
use Rattle.sql_types.specs.declared.digest.Digest.{Digest}
use Rattle.format_digest.specs.Reading.{IsRead, held_of, each_held, hash_of, digests_in}
use Rattle.format_digest.specs.Writing.{DigestWithTimes, digest_data, shown_data, digest_text, digest_texts, file_text, held_form, IsHash, AreHashes, AreValues, IsFile}

-- ---- the text

one_text : (s : DigestWithTimes) → compact_text (shown_data s) ≡ digest_text s
unfolding digest_data digest_text serde_json_on_literals
one_text s = refl

no_float : (s : DigestWithTimes) → has_float (shown_data s) ≡ false
unfolding digest_data
no_float s = refl

shallow : (s : DigestWithTimes) → depth (shown_data s) ≡ 1
unfolding digest_data
shallow s = refl

each_text : (later : Bool) (ss : List DigestWithTimes)
    → items_text later (items_of (map shown_data ss)) ≡ digest_texts later ss
each_text later [] = refl
each_text true (s ∷ ss) = ap (λ (t : List ℕ). 44 ∷ t) (ap₂ (λ (a b : List ℕ). a ++ b) (one_text s) (each_text true ss ∙ sym (append-nil (digest_texts true ss))))
each_text false (s ∷ ss) = ap₂ (λ (a b : List ℕ). a ++ b) (one_text s) (each_text true ss ∙ sym (append-nil (digest_texts true ss)))

pub whole_text : (ss : List DigestWithTimes) → compact_text (array (items_of (map shown_data ss))) ≡ file_text ss
unfolding file_text
whole_text ss = ap (λ (t : List ℕ). 91 ∷ t) (each_text false ss)

pub no_floats : (ss : List DigestWithTimes) → items_have_float (items_of (map shown_data ss)) ≡ false
no_floats [] = refl
no_floats (s ∷ ss) = rw no_float (no_floats ss)

pub shallow_items : (ss : List DigestWithTimes) → items_depth (items_of (map shown_data ss)) ≤ 1
shallow_items [] = omega arith
shallow_items (s ∷ ss) = let rest = shallow_items ss in rw shallow (omega arith)

-- ---- and back

one_held : (s : DigestWithTimes) → IsHash s.digest.hash → held_of (shown_data s) ≡ Some (held_form s.digest)
unfolding held_of digest_data hash_of
one_held s h =
    let size : length (encode_upper s.digest.hash) ≡ 2 * 32 = length-encode_with upper_digits s.digest.hash ∙ ap (λ n. 2 * n) h.size in
    let back : decode_sized (encode_upper s.digest.hash) 32 ≡ Ok s.digest.hash = decode_sized-twice (encode_upper s.digest.hash) 32 size ∙ decode_of-encode_upper s.digest.hash h.bytes in
    rw back refl

each_back : (i : ℕ) (before : List HeldDigest) (ss : List DigestWithTimes) → AreHashes ss
    → each_held i before (items_of (map shown_data ss)) ≡ Ok (before ++ map held_form (map (λ s. s.digest) ss))
each_back i before [] h = ap (λ l. Ok l) (sym (append-nil before))
each_back i before (s ∷ ss) h =
    rw (one_held s h.0) (each_back (i + 1) (before ++ held_form s.digest ∷ []) ss h.1 ∙ ap (λ l. Ok l) (append_assoc before (held_form s.digest ∷ []) (map held_form (map (λ s. s.digest) ss))))

pub all_back : (ss : List DigestWithTimes) → AreHashes ss
    → digests_in (array (items_of (map shown_data ss))) ≡ Ok (map held_form (map (λ s. s.digest) ss))
unfolding digests_in
all_back ss h = each_back 0 [] ss h

-- ---- the file

pub file_is : (list : List Digest) (values : Vec Value Global) (bytes : List ℕ) → AreValues list values.items
    → (has_float (view (Array values)) ≡ false → bytes ≡ compact_text (view (Array values)))
    → IsFile list bytes
file_is list values bytes are text =
    let is = view-Array values ∙ ap (λ xs. array (items_of xs)) are.said in
    record {
      shown = are.shown;
      digests = are.digests;
      times = are.times;
      text = text (ap has_float is ∙ no_floats are.shown) ∙ ap compact_text is ∙ whole_text are.shown;
    }

pub file_back : (list : List Digest) (values : Vec Value Global) (bytes : List ℕ)
    → AreValues list values.items → IsUtf8 bytes
    → (depth (view (Array values)) ≤ max_depth → read bytes ≡ Some (view (Array values)))
    → IsRead bytes (Ok (map held_form list))
file_back list values bytes are utf8 back =
    let is = view-Array values ∙ ap (λ xs. array (items_of xs)) are.said in
    let shallow = shallow_items are.shown in
    (utf8, (array (items_of (map shown_data are.shown)), back (rw is (omega arith)) ∙ ap (λ x. Some x) is, all_back are.shown are.hashes ∙ ap (λ ds. Ok (map held_form ds)) are.digests))
