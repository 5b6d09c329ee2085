-- The key that a condition fixes.
use Rattle.std.proofs.Common.{◌≡◌, refl, ap, ◌∙◌, sym, Bool, true, false, List, [], ◌∷◌, ◌++◌, Option, Some, None, map, cond}
use Rattle.std.specs.Str.{bytes_eq}
use Rattle.std.proofs.lemmas.List.{append_assoc, append-nil}
use Rattle.sql_value.specs.declared.column.ColumnDef.{ColumnDef}
use Rattle.spec_model.specs.Lists.{all_some, in_front, or_else}
use Rattle.sql_value.specs.declared.expr.Op.TheVariants.{Add, Sub, Mul, Eq, Ne, Lt, Le, Gt, Ge, And, Or}
use Rattle.sql_value.specs.Tree.{Tree, literal, column, minus, not, is_null, binary, tree}
use Rattle.spec_model.specs.Where.{Equality, fixed_to, fixed_value, equalities, key_fixed}
use Rattle.spec_model.specs.Keys.{key_columns}
use Rattle.sql_value.specs.declared.expr.Expr.{Expr}
use Rattle.sql_parts.specs.InTurn.{some_after}
use Rattle.sql_parts.specs.Fixed.{fixed_in}

pub or_else_none : {A : Type 0} (x : Option A) → or_else x None ≡ x
or_else_none (Some x) = refl
or_else_none None = refl

or_else_chain : {A : Type 0} (x y z : Option A) → or_else x (or_else y z) ≡ or_else (or_else x y) z
or_else_chain (Some x) y z = refl
or_else_chain None y z = refl

or_else_in : {A : Type 0} (b : Bool) (x y z : Option A) → cond b (or_else x (or_else y z)) (or_else y z) ≡ or_else (cond b (or_else x y) y) z
or_else_in true x y z = or_else_chain x y z
or_else_in false x y z = refl

pub fixed_by_both : (ps qs : List Equality) (c : ColumnDef) → fixed_value (ps ++ qs) c ≡ or_else (fixed_value ps c) (fixed_value qs c)
fixed_by_both [] qs c = refl
fixed_by_both (p ∷ ps) qs c =
    ap (λ r. cond (bytes_eq c.name p.0) (or_else (fixed_to c p.1) r) r) (fixed_by_both ps qs c)
    ∙ or_else_in (bytes_eq c.name p.0) (fixed_to c p.1) (fixed_value ps c) (fixed_value qs c)

abbrev behind : {A : Type 0} → List A → Option (List A) → Option (List A)
behind done (Some ys) = Some (done ++ ys)
behind done None = None

behind-one : {A : Type 0} (done : List A) (y : A) (rest : Option (List A)) → behind done (in_front (Some y) rest) ≡ behind (done ++ y ∷ []) rest
behind-one done y (Some ys) = ap Some (sym (append_assoc done (y ∷ []) ys))
behind-one done y None = refl

some_after_is : {A : Type 0} (xs : List (Option A)) (done : List A) → some_after done xs ≡ behind done (all_some xs)
some_after_is [] done = ap Some (sym (append-nil done))
some_after_is (Some x ∷ xs) done = some_after_is xs (done ++ x ∷ []) ∙ sym (behind-one done x (all_some xs))
some_after_is (None ∷ xs) done = refl

behind-nil : {A : Type 0} (rest : Option (List A)) → behind [] rest ≡ rest
behind-nil (Some ys) = refl
behind-nil None = refl

pub some_after_none : {A : Type 0} (xs : List (Option A)) → some_after [] xs ≡ all_some xs
some_after_none xs = some_after_is xs [] ∙ behind-nil (all_some xs)

-- by the tree of the condition
pub fixed_in_is : (c : ColumnDef) (t : Tree) → fixed_in c t ≡ fixed_value (equalities t) c
fixed_in_is c (literal v) = refl
fixed_in_is c (column name) = refl
fixed_in_is c (minus a) = refl
fixed_in_is c (not a) = refl
fixed_in_is c (is_null a negated) = refl
fixed_in_is c (binary Add a b) = refl
fixed_in_is c (binary Sub a b) = refl
fixed_in_is c (binary Mul a b) = refl
fixed_in_is c (binary Eq a b) = refl
fixed_in_is c (binary Ne a b) = refl
fixed_in_is c (binary Lt a b) = refl
fixed_in_is c (binary Le a b) = refl
fixed_in_is c (binary Gt a b) = refl
fixed_in_is c (binary Ge a b) = refl
fixed_in_is c (binary And a b) = (λ i. or_else (fixed_in_is c a i) (fixed_in_is c b i)) ∙ sym (fixed_by_both (equalities a) (equalities b) c)
fixed_in_is c (binary Or a b) = refl

pub all_fixed_in : (cs : List ColumnDef) (t : Tree) → map (λ c. fixed_in c t) cs ≡ map (fixed_value (equalities t)) cs
all_fixed_in [] t = refl
all_fixed_in (c ∷ cs) t = λ i. fixed_in_is c t i ∷ all_fixed_in cs t i

pub key_fixed_some : (columns : List ColumnDef) (e : Expr) → key_fixed columns (Some e) ≡ all_some (map (λ c. fixed_in c (tree e)) (key_columns columns))
unfolding key_fixed
key_fixed_some columns e = sym (ap all_some (all_fixed_in (key_columns columns) (tree e)))

pub key_fixed_none : (columns : List ColumnDef) → key_fixed columns None ≡ None
unfolding key_fixed
key_fixed_none columns = refl
