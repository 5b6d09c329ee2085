-- What may be refused on the way.
use Rattle.std.proofs.Common.{◌≡◌, refl, Bool, true, false, List, ◌∷◌, Option, Some, None, Ok, Err}
use Rattle.sql_value.specs.declared.refusal.Refusal.{Refusal}
use Rattle.spec_model.specs.Refusals.{Checked, and_then}
use Rattle.spec_model.specs.Lists.{in_front}
use Rattle.spec_model.specs.Checks.{refused_if}

pub and_then_same : {A B : Type 0} (m : Checked A) (f g : A → Checked B) → ((x : A) → m ≡ Ok x → f x ≡ g x) → and_then m f ≡ and_then m g
and_then_same (Ok x) f g h = h x refl
and_then_same (Err e) f g h = refl

-- what led to an answer
pub record Led {A B : Type 0} (m : Checked A) (f : A → Checked B) (b : B) : Type 0 where
  pub value : A
  pub was : m ≡ Ok value
  pub then_ : f value ≡ Ok b

pub led : {A B : Type 0} (m : Checked A) (f : A → Checked B) (b : B) → and_then m f ≡ Ok b → Led m f b
led (Ok a) f b h = record { value = a; was = refl; then_ = h }
led (Err e) f b h = cc

pub not_refused : {A : Type 0} (fails : Bool) (e : Refusal) (rest : Checked A) (x : A) → refused_if fails e rest ≡ Ok x → rest ≡ Ok x
not_refused true e rest x h = cc
not_refused false e rest x h = h

pub was_passed : {A : Type 0} (fails : Bool) (e : Refusal) (rest : Checked A) (x : A) → refused_if fails e rest ≡ Ok x → fails ≡ false
was_passed true e rest x h = cc
was_passed false e rest x h = refl

-- the parts of a list whose items are all there
pub record Parts {A : Type 0} (x : Option A) (xs : Option (List A)) (all : List A) : Type 0 where
  pub first : A
  pub others : List A
  pub is_first : x ≡ Some first
  pub are_others : xs ≡ Some others
  pub are : all ≡ first ∷ others

pub parts : {A : Type 0} (x : Option A) (xs : Option (List A)) (all : List A) → in_front x xs ≡ Some all → Parts x xs all
parts (Some x) (Some xs) all h = record { first = x; others = xs; is_first = refl; are_others = refl; are = cc }
parts (Some x) None all h = cc
parts None xs all h = cc
