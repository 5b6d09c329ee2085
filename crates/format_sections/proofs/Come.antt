-- The set of names after one more.
use Rattle.std.proofs.Common.{◌≡◌, Bool, true, false, cond, ℕ, List, ◌||◌, ◌∙◌, sym, refl, ap}
use Rattle.std.specs.Borrow.{Bor}
use Rattle.std.specs.BTreeSet.{BTreeSet, Updates}
use Rattle.std.specs.Cmp.Lexicographic.{slice_cmp}
use Rattle.std.specs.Ordering.{nat_cmp}
use Rattle.std.specs.Str.{bytes_eq}
use Rattle.std.proofs.lemmas.Map.Text.{is_eq-slice_cmp}
use Rattle.std.proofs.lemmas.Slice.Eq.{bytes_eq-Decides}
use Rattle.format_sections.specs.Names.{has}

or_cond : (t b : Bool) → cond t true b ≡ (t || b)
or_cond true b = refl
or_cond false b = refl

both_ways : (a b : Bool) → (a ≡ true → b ≡ true) → (b ≡ true → a ≡ true) → a ≡ b
both_ways true b there back = sym (there refl)
both_ways false true there back = back refl
both_ways false false there back = refl

pub bytes_eq_sym : (a b : List ℕ) → bytes_eq a b ≡ bytes_eq b a
bytes_eq_sym a b = both_ways (bytes_eq a b) (bytes_eq b a) (λ e. (bytes_eq-Decides b a).1 (sym ((bytes_eq-Decides a b).0 e))) (λ e. (bytes_eq-Decides a b).1 (sym ((bytes_eq-Decides b a).0 e)))

-- a name is in the set with one more exactly where it is that one or was in it
pub added : (names more : BTreeSet (Bor (List ℕ))) (name : Bor (List ℕ)) → Updates (λ x y. slice_cmp nat_cmp x.now y.now) names more name true
    → (q : List ℕ) → has more q ≡ (bytes_eq q name.now || has names q)
added names more name updates q =
    let one : Bor (List ℕ) = record { ref_ptr = (0, 0); now = q } in
    updates.0 one ∙ (ap (λ t. cond t true (has names q)) (is_eq-slice_cmp name.now q ∙ bytes_eq_sym name.now q) ∙ or_cond (bytes_eq q name.now) (has names q))
