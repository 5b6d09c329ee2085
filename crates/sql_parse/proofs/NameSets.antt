-- Names in an ordered set.
use Rattle.std.proofs.Common.{◌≡◌, ◌∙◌, Bool, true, false, cond, ℕ, List, ◌||◌, refl, ap}
use Rattle.std.specs.Prelude.{if◌then◌else◌}
use Rattle.std.specs.Borrow.{Bor}
use Rattle.std.specs.BTreeSet.{BTreeSet, Updates}
use Rattle.std.specs.Cmp.Lexicographic.{slice_cmp}
use Rattle.std.specs.Ordering.{nat_cmp}
use Rattle.std.specs.Str.{bytes_eq}
use Rattle.std.proofs.lemmas.Map.Text.{is_eq-slice_cmp}
use Rattle.sql_parse.specs.NameSet.{has}

or_cond : (t b : Bool) → cond t true b ≡ (t || b)
or_cond true b = refl
or_cond false b = refl

-- a name is in the set with one more exactly where it is that one or was in it
pub added : (names more : BTreeSet (Bor (List ℕ))) (name : Bor (List ℕ))
    → Updates (λ x y. slice_cmp nat_cmp x.now y.now) names more name true → (q : List ℕ) → has more q ≡ (bytes_eq name.now q || has names q)
added names more name updates q =
    let one : Bor (List ℕ) = record { ref_ptr = (0, 0); now = q } in
    updates.0 one ∙ (ap (λ t. cond t true (has names q)) (is_eq-slice_cmp name.now q) ∙ or_cond (bytes_eq name.now q) (has names q))

pub in_more : (p b : Bool) → (p || b) ≡ (if p then true else b)
in_more true b = refl
in_more false b = refl
