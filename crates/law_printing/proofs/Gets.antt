-- What a parser gives, and the tokens that it leaves, whatever is left of the count of operators and operands.
use Rattle.std.proofs.Common.{◌≡◌, ◌∙◌, ℕ, zero, suc, ◌<◌, ◌≤◌, Bool, false, List, [], ◌∷◌, ◌++◌, length, Some, None, refl, ap, sym, subst, arith, append_assoc, length-append}
use Rattle.spec_syntax.specs.declared.tag.Tag.{Tag}
use Rattle.spec_syntax.specs.declared.tag.Tag.TheVariants as t
use Rattle.spec_syntax.specs.Tags.{same_tag}
use Rattle.spec_syntax.specs.Input.{Input, Sym, Outcome, Parser, and_then, tag, next, sees, after, tokens_left, list, list_from}
use Rattle.spec_syntax.specs.Printed.{key, listed, rest_listed}
use Rattle.spec_syntax.specs.Parsed.{Each, OneOrMore}
use Rattle.law_printing.proofs.Repeats.{at_, left_}

abbrev pub Gets : {A : Type 0} → Outcome A → A → List Sym → Type 0
Gets None a rest = ⊥
Gets (Some p) a rest = (p.0 ≡ a) × (p.1.rest ≡ rest)

pub gets : {A : Type 0} (o : Outcome A) (a : A) (rest : List Sym) (n : ℕ) → o ≡ Some (a, at_ rest n) → Gets o a rest
gets {A} o a rest n is = let P : Outcome A → Type 0 = λ x. Gets x a rest in subst P (sym is) (refl, refl)

pub then_gets : {A B : Type 0} (f : A → Parser B) (a : A) (b : B) (rest end : List Sym) (o : Outcome A) → Gets o a rest → ((n : ℕ) → Gets (f a (at_ rest n)) b end) → Gets (and_then o f) b end
then_gets f a b rest end None k h = absurd k
then_gets {A} {B} f a b rest end (Some p) k h =
    let P : List Sym → Type 0 = λ r. Gets (f a (at_ r p.1.left)) b end in
    let Q : A → Type 0 = λ x. Gets (f x p.1) b end in
    subst Q (sym k.0) (subst P (sym k.1) (h p.1.left))

pub map_gets : {A B : Type 0} (f : A → B) (a : A) (rest : List Sym) (o : Outcome A) → Gets o a rest → Gets (and_then o (λ x i. Some (f x, i))) (f a) rest
map_gets f a rest None k = k
map_gets f a rest (Some p) k = (ap f k.0, k.1)

abbrev pub NoComma : List Sym → Type 0
NoComma rest = (n : ℕ) → sees t.Comma (at_ rest n) ≡ false

-- ---- one or more, with commas between

module _ {A : Type 0} (item : Parser A) (tokens : A → List Sym) (Follow : List Sym → Type 0) where
  -- the item is read, where such tokens follow
  abbrev pub ItemReads : A → Type 0
  ItemReads x = (0 < length (tokens x)) × ((rest : List Sym) (n : ℕ) → Follow rest → Gets (item (at_ (tokens x ++ rest) n)) x rest)

  last : (x : A) (found : List A) (fuel : ℕ) (rest : List Sym) (n : ℕ) → ItemReads x → Follow rest → NoComma rest → Gets (list_from item (suc fuel) found (at_ (tokens x ++ rest) n)) (found ++ x ∷ []) rest
  unfolding list_from
  last x found fuel rest n reads follow end =
      then_gets (λ y. _) x (found ++ x ∷ []) rest rest (item (at_ (tokens x ++ rest) n)) (reads.1 rest n follow) (λ m. rw (end m) (refl, ap (λ i. i.rest) (left_ t.Comma (at_ rest m) (end m))))

  not_last : (x : A) (found all : List A) (fuel : ℕ) (more rest : List Sym) (n : ℕ) → ItemReads x → Follow (key t.Comma ∷ more) → ((m : ℕ) → Gets (list_from item fuel (found ++ x ∷ []) (at_ more m)) all rest)
      → Gets (list_from item (suc fuel) found (at_ (tokens x ++ key t.Comma ∷ more) n)) all rest
  unfolding list_from sees after next same_tag
  not_last x found all fuel more rest n reads follow again =
      then_gets (λ y. _) x all (key t.Comma ∷ more) rest (item (at_ (tokens x ++ key t.Comma ∷ more) n)) (reads.1 (key t.Comma ∷ more) n follow) (λ m. again m)

  from : ((more : List Sym) → Follow (key t.Comma ∷ more)) → (x : A) (xs found : List A) (fuel : ℕ) (rest : List Sym) (n : ℕ) → length xs < fuel → ItemReads x → Each ItemReads xs → Follow rest → NoComma rest
      → Gets (list_from item fuel found (at_ (tokens x ++ (rest_listed tokens xs ++ rest)) n)) (found ++ x ∷ xs) rest
  unfolding rest_listed
  from commas x xs found zero rest n few first others follow end = absurd (omega (arith, few))
  from commas x [] found (suc fuel) rest n few first others follow end = last x found fuel rest n first follow end
  from commas x (y ∷ ys) found (suc fuel) rest n few first others follow end =
      let flat : key t.Comma ∷ ((tokens y ++ rest_listed tokens ys) ++ rest) ≡ key t.Comma ∷ (tokens y ++ (rest_listed tokens ys ++ rest)) = ap (λ z. key t.Comma ∷ z) (append_assoc (tokens y) (rest_listed tokens ys) rest) in
      let more = tokens y ++ (rest_listed tokens ys ++ rest) in
      let P : List Sym → Type 0 = λ z. Gets (list_from item (suc fuel) found (at_ (tokens x ++ z) n)) (found ++ x ∷ y ∷ ys) rest in
      let Q : List A → Type 0 = λ z. Gets (list_from item (suc fuel) found (at_ (tokens x ++ key t.Comma ∷ more) n)) z rest in
      subst P (sym flat) (subst Q (append_assoc found (x ∷ []) (y ∷ ys))
      (not_last x found ((found ++ x ∷ []) ++ y ∷ ys) fuel more rest n first (commas more) (λ m. from commas y ys (found ++ x ∷ []) fuel rest m (omega (arith, few)) others.0 others.1 follow end)))

  enough : (xs : List A) → length xs ≤ length (rest_listed tokens xs)
  unfolding rest_listed
  enough [] = omega arith
  enough (y ∷ ys) = omega (arith, enough ys, length-append (tokens y) (rest_listed tokens ys))

  pub list_gets : ((more : List Sym) → Follow (key t.Comma ∷ more)) → (xs : List A) (rest : List Sym) (n : ℕ) → OneOrMore ItemReads xs → Follow rest → NoComma rest → Gets (list item (at_ (listed tokens xs ++ rest) n)) xs rest
  unfolding list listed tokens_left
  list_gets commas [] rest n reads follow end = absurd reads
  list_gets commas (x ∷ xs) rest n reads follow end =
      let ts = tokens x ++ (rest_listed tokens xs ++ rest) in
      let flat = append_assoc (tokens x) (rest_listed tokens xs) rest in
      let P : List Sym → Type 0 = λ z. Gets (list_from item (length z) [] (at_ z n)) (x ∷ xs) rest in
      subst P (sym flat) (from commas x xs [] (length ts) rest n (omega (arith, length-append (tokens x) (rest_listed tokens xs ++ rest), length-append (rest_listed tokens xs) rest, enough xs, reads.0.0)) reads.0 reads.1 follow end)
