-- Texts one behind the other, and lists that grow by one.
use Rattle.std.proofs.Common.{◌≡◌, ◌<◌, ◌+◌, ◌∙◌, ℕ, List, [], ◌∷◌, ◌++◌, map, take, length, get_or, refl, sym, ap, append-nil, append_assoc, arith}
use Rattle.std.specs.List.{fold}
use Rattle.std.proofs.lemmas.List.{take_more, map_push}
use Rattle.server_result.specs.Joined.{joined, joined_each}

pub joined_more : (texts : List (List ℕ)) (text : List ℕ) → joined (texts ++ text ∷ []) ≡ joined texts ++ text
joined_more [] text = append-nil text
joined_more (t ∷ texts) text = ap (λ (b : List ℕ). t ++ b) (joined_more texts text) ∙ sym (append_assoc t (joined texts) text)

pub each_more : (lists : List (List (List ℕ))) (texts : List (List ℕ)) → joined_each (lists ++ texts ∷ []) ≡ joined_each lists ++ joined texts
each_more [] texts = append-nil (joined texts)
each_more (l ∷ lists) texts = ap (λ (b : List ℕ). joined l ++ b) (each_more lists texts) ∙ sym (append_assoc (joined l) (joined_each lists) (joined texts))

-- what is taken of a list, and one element more of it
pub one_more : {A : Type 0} (xs : List A) (k : ℕ) (x : A) → k < length xs → x ≡ get_or xs k x → take (k + 1) xs ≡ take k xs ++ x ∷ []
one_more {A} xs k x within is = take_more xs k x within ∙ ap (λ (y : A). take k xs ++ y ∷ []) (sym is)

pub mapped_more : {A B : Type 0} (f : A → B) (xs : List A) (k : ℕ) (x : A) → k < length xs → x ≡ get_or xs k x → map f (take (k + 1) xs) ≡ map f (take k xs) ++ f x ∷ []
mapped_more f xs k x within is = ap (map f) (one_more xs k x within is) ∙ map_push f (take k xs) x

pub nothing_left : {A B : Type 0} (f : B → A → B) (b : B) (xs : List A) → length xs ≡ 0 → b ≡ fold f b xs
nothing_left f b [] none = refl
nothing_left f b (x ∷ xs) none = absurd (omega (arith, none))
