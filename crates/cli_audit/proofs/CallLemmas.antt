-- What has been answered after one call more, and by the status of a call of the server.
use Rattle.std.proofs.Common.{List, [], ◌∷◌, ◌++◌, append_assoc, append-nil, refl, sym, subst, Result, Ok, Err}
use Rattle.std.specs.List.{All}
use Rattle.std.specs.Result.{OnErr}
use Rattle.std.proofs.lemmas.List.Elements.{All-push}
use Rattle.base_io.specs.History.{Adds, Since, EndsAt}

module _ {A : Type 0} (old now new : List A → Type 0) (goes_on : A → Type 0) where
  pub adds_more : (answers : List A) (answer : A) → Adds old now answers → Adds now new (answer ∷ []) → Adds old new (answers ++ answer ∷ [])
  adds_more answers answer so_far one =
      λ earlier had. subst new (append_assoc earlier answers (answer ∷ [])) (one (earlier ++ answers) (so_far earlier had))

  -- a call that goes on
  pub since_more : (answer : A) → Since old now (All goes_on) → Adds now new (answer ∷ []) → goes_on answer → Since old new (All goes_on)
  since_more answer so_far one on =
      record {
        answers = so_far.answers ++ answer ∷ [];
        adds = adds_more so_far.answers answer so_far.adds one;
        such = All-push goes_on so_far.answers answer so_far.such on;
      }

  -- a call that ends them
  pub since_end : (answer : A) → Since old now (All goes_on) → Adds now new (answer ∷ []) → Since old new (EndsAt goes_on answer)
  since_end answer so_far one =
      record {
        answers = so_far.answers ++ answer ∷ [];
        adds = adds_more so_far.answers answer so_far.adds one;
        such = (so_far.answers, refl, so_far.such);
      }

pub on_err : {T E P : Type 0} (r : Result T E) → P → OnErr r P
on_err (Ok v) p = tt
on_err (Err e) p = p

-- no call at all
pub since_none : {A : Type 0} (now are : List A → Type 0) → are [] → Since now now are
since_none now are none = record { answers = []; adds = λ earlier had. subst now (sym (append-nil earlier)) had; such = none }

pub since_weaker : {A : Type 0} (old now are also : List A → Type 0) → ((answers : List A) → are answers → also answers) → Since old now are → Since old now also
since_weaker old now are also so s = record { answers = s.answers; adds = s.adds; such = so s.answers s.such }
