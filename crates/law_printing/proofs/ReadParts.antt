-- The printed parts of statements are read as themselves.
use Rattle.std.proofs.Common.{◌≡◌, ℕ, false, List, [], ◌∷◌, ◌++◌, Option, Some, None, refl, ap, sym, subst, arith, append_assoc}
use Rattle.sql_value.specs.declared.expr.Expr.{Expr}
use Rattle.sql_value.specs.Tree.{tree}
use Rattle.spec_syntax.specs.declared.tag.Tag.TheVariants as t
use Rattle.spec_syntax.specs.Tags.{same_tag}
use Rattle.spec_syntax.specs.Input.{Sym, next, sees, after, expect, list}
use Rattle.spec_syntax.specs.Expr.{name, whole}
use Rattle.spec_syntax.specs.Row as r
use Rattle.spec_syntax.specs.Printed as p
use Rattle.spec_syntax.specs.Printed.{key, listed}
use Rattle.spec_syntax.specs.PrintedStmt as s
use Rattle.spec_syntax.specs.Parsed.{IsName, IsExpr, Each, OneOrMore, Maybe}
use Rattle.law_printing.proofs.Repeats.{at_, left_}
use Rattle.law_printing.proofs.ReadExpr.{untree}
use Rattle.law_printing.proofs.ReadTrees.{Written, name_read}
use Rattle.law_printing.proofs.ReadWhole.{Ends, whole_read}
use Rattle.law_printing.proofs.Gets.{Gets, gets, then_gets, map_gets, NoComma, ItemReads, list_gets}

-- expressions of one tree are one expression
abbrev pub Untreed : Type 0
Untreed = (x : Expr) → untree (tree x) ≡ x

abbrev pub AnyEnds : List Sym → Type 0
AnyEnds rest = (n : ℕ) → Ends (at_ rest n)

pub expr_gets : Written → Untreed → (x : Expr) → IsExpr x → (rest : List Sym) (n : ℕ) → AnyEnds rest → Gets (whole (at_ (p.expr (tree x) ++ rest) n)) x rest
expr_gets written untreed x is rest n ends =
    let read = whole_read written (tree x) is.0 is.1 rest n (ends _) in
    let P : Expr → Type 0 = λ y. Gets (whole (at_ (p.expr (tree x) ++ rest) n)) y rest in
    subst P (untreed x) (gets (whole (at_ (p.expr (tree x) ++ rest) n)) (untree (tree x)) rest _ read)

-- ---- names

each : {A : Type 0} (P Q : A → Type 0) → ((x : A) → P x → Q x) → (xs : List A) → Each P xs → Each Q xs
each P Q f [] k = tt
each P Q f (x ∷ xs) k = (f x k.0, each P Q f xs k.1)

pub some_of : {A : Type 0} (P Q : A → Type 0) → ((x : A) → P x → Q x) → (xs : List A) → OneOrMore P xs → OneOrMore Q xs
some_of P Q f [] k = k
some_of P Q f (x ∷ xs) k = (f x k.0, each P Q f xs k.1)

abbrev pub Any : List Sym → Type 0
Any rest = Unit {0}

pub names_gets : (ns : List (List ℕ)) (rest : List Sym) (n : ℕ) → OneOrMore IsName ns → NoComma rest → Gets (list name (at_ (listed s.one_name ns ++ rest) n)) ns rest
names_gets ns rest n is end =
    list_gets name s.one_name Any (λ more. tt) ns rest n (some_of IsName (ItemReads name s.one_name Any) (λ c k. (omega arith, λ after_ m follow. gets (name (at_ (p.name c ∷ after_) m)) c after_ m (name_read c after_ m))) ns is) tt end

pub no_comma_close : (rest : List Sym) → NoComma (key t.Close ∷ rest)
unfolding sees same_tag
no_comma_close rest = λ n. refl

pub name_list_gets : (ns : List (List ℕ)) (rest : List Sym) (n : ℕ) → OneOrMore IsName ns → Gets (r.name_list (at_ (s.names ns ++ rest) n)) ns rest
unfolding r.name_list expect sees next same_tag
name_list_gets ns rest n is =
    let flat = append_assoc (listed s.one_name ns) (key t.Close ∷ []) rest in
    let P : List Sym → Type 0 = λ z. Gets (r.name_list (at_ (key t.Open ∷ z) n)) ns rest in
    subst P (sym flat) (then_gets (λ y. _) ns ns (key t.Close ∷ rest) rest (list name (at_ (listed s.one_name ns ++ key t.Close ∷ rest) n)) (names_gets ns (key t.Close ∷ rest) n is (no_comma_close rest)) (λ m. (refl, refl)))

-- ---- WHERE

pub filter_none : (rest : List Sym) (n : ℕ) → sees t.Where (at_ rest n) ≡ false → Gets (r.filter (at_ rest n)) None rest
unfolding r.filter
filter_none rest n no_ = rw no_ (refl, ap (λ i. i.rest) (left_ t.Where (at_ rest n) no_))

filter_some : Written → Untreed → (x : Expr) (rest : List Sym) (n : ℕ) → IsExpr x → AnyEnds rest → Gets (r.filter (at_ (key t.Where ∷ (p.expr (tree x) ++ rest)) n)) (Some x) rest
unfolding r.filter sees after next same_tag
filter_some written untreed x rest n is ends = map_gets (λ y. Some y) x rest (whole (at_ (p.expr (tree x) ++ rest) n)) (expr_gets written untreed x is rest n ends)

pub filter_gets : Written → Untreed → (cond : Option Expr) (rest : List Sym) (n : ℕ) → Maybe IsExpr cond → AnyEnds rest → sees t.Where (at_ rest n) ≡ false → Gets (r.filter (at_ (s.filter cond ++ rest) n)) cond rest
filter_gets written untreed None rest n is ends no_ = filter_none rest n no_
filter_gets written untreed (Some x) rest n is ends no_ = filter_some written untreed x rest n is ends
