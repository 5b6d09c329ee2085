-- Tokens that are written one after another.
use Rattle.std.proofs.Common.{◌≡◌, List, [], ◌∷◌, ◌++◌, refl}
use Rattle.spec_syntax.specs.Input.{Sym}
use Rattle.spec_syntax.specs.Page.{Page, put, write}

pub write_append : (p : Page) (xs ys : List Sym) → write p (xs ++ ys) ≡ write (write p xs) ys
write_append p [] ys = refl
write_append p (x ∷ xs) ys = write_append (put p x) xs ys
