-- What holds of each item of a list.
use Rattle.std.proofs.Common.{◌≡◌, refl, Bool, true, false, List, [], ◌∷◌, ◌++◌, map, Ok}
use Rattle.std.specs.Prelude.{if◌then◌else◌}
use Rattle.std.specs.List.{AllByRecursion, filter}
use Rattle.std.specs.declared.cmp.Ordering.{Ordering}
use Rattle.std.specs.Ordering.{is_gt}
use Rattle.spec_model.specs.Refusals.{Checked, and_then}
use Rattle.spec_model.specs.Lists.{inserted, sorted, checked_filter}
use Rattle.law_frame.proofs.Checked.{Led, led}

pub all_weaker : {A : Type 0} (P Q : A → Type 0) → ((x : A) → P x → Q x) → (xs : List A) → AllByRecursion P xs → AllByRecursion Q xs
all_weaker P Q f [] h = tt
all_weaker P Q f (x ∷ xs) h = (f x h.0, all_weaker P Q f xs h.1)

pub all_both : {A : Type 0} (P Q : A → Type 0) (xs : List A) → AllByRecursion P xs → AllByRecursion Q xs → AllByRecursion (λ x. P x × Q x) xs
all_both P Q [] h k = tt
all_both P Q (x ∷ xs) h k = ((h.0, k.0), all_both P Q xs h.1 k.1)

pub all_append : {A : Type 0} (P : A → Type 0) (xs ys : List A) → AllByRecursion P xs → AllByRecursion P ys → AllByRecursion P (xs ++ ys)
all_append P [] ys h k = k
all_append P (x ∷ xs) ys h k = (h.0, all_append P xs ys h.1 k)

pub all_map : {A B : Type 0} (P : A → Type 0) (Q : B → Type 0) (f : A → B) → ((x : A) → P x → Q (f x)) → (xs : List A) → AllByRecursion P xs → AllByRecursion Q (map f xs)
all_map P Q f g [] h = tt
all_map P Q f g (x ∷ xs) h = (g x h.0, all_map P Q f g xs h.1)

if_kept : {A : Type 0} (P : A → Type 0) (b : Bool) (x : A) (xs : List A) → P x → AllByRecursion P xs → AllByRecursion P (if b then x ∷ xs else xs)
if_kept P true x xs h k = (h, k)
if_kept P false x xs h k = k

pub all_filter : {A : Type 0} (P : A → Type 0) (test : A → Bool) (xs : List A) → AllByRecursion P xs → AllByRecursion P (filter test xs)
all_filter P test [] h = tt
all_filter P test (x ∷ xs) h = if_kept P (test x) x (filter test xs) h.0 (all_filter P test xs h.1)

if_passes : {A : Type 0} (test : A → Bool) (b : Bool) (x : A) (xs : List A) → test x ≡ b → AllByRecursion (λ y. test y ≡ true) xs → AllByRecursion (λ y. test y ≡ true) (if b then x ∷ xs else xs)
if_passes test true x xs e k = (e, k)
if_passes test false x xs e k = k

pub all_pass : {A : Type 0} (test : A → Bool) (xs : List A) → AllByRecursion (λ x. test x ≡ true) (filter test xs)
all_pass test [] = tt
all_pass test (x ∷ xs) = if_passes test (test x) x (filter test xs) refl (all_pass test xs)

insertion : {A : Type 0} (P : A → Type 0) (b : Bool) (x y : A) (ys zs : List A) → P x → P y → AllByRecursion P ys → AllByRecursion P zs → AllByRecursion P (if b then y ∷ zs else x ∷ y ∷ ys)
insertion P true x y ys zs h k l m = (k, m)
insertion P false x y ys zs h k l m = (h, (k, l))

pub all_inserted : {A : Type 0} (P : A → Type 0) (cmp : A → A → Ordering) (x : A) (ys : List A) → P x → AllByRecursion P ys → AllByRecursion P (inserted cmp x ys)
all_inserted P cmp x [] h k = (h, tt)
all_inserted P cmp x (y ∷ ys) h k = insertion P (is_gt (cmp x y)) x y ys (inserted cmp x ys) h k.0 k.1 (all_inserted P cmp x ys h k.1)

pub all_sorted : {A : Type 0} (P : A → Type 0) (cmp : A → A → Ordering) (xs : List A) → AllByRecursion P xs → AllByRecursion P (sorted cmp xs)
all_sorted P cmp [] h = tt
all_sorted P cmp (x ∷ xs) h = all_inserted P cmp x (sorted cmp xs) h.0 (all_sorted P cmp xs h.1)

pub all_checked_filter : {A : Type 0} (P : A → Type 0) (test : A → Checked Bool) (xs ys : List A) → checked_filter test xs ≡ Ok ys → AllByRecursion P xs → AllByRecursion P ys
all_checked_filter P test [] [] e h = tt
all_checked_filter P test [] (y ∷ ys) e h = cc
all_checked_filter P test (x ∷ xs) ys e h =
    let l : Led (test x) (λ b. and_then (checked_filter test xs) (λ zs. Ok (if b then x ∷ zs else zs))) ys = led _ _ ys e in
    let k : Led (checked_filter test xs) (λ zs. Ok (if l.value then x ∷ zs else zs)) ys = led _ _ ys l.then_ in
    let is : ys ≡ (if l.value then x ∷ k.value else k.value) = cc in
    rw is (if_kept P l.value x k.value h.0 (all_checked_filter P test xs k.value k.was h.1))
