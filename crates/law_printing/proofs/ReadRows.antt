-- Printed INSERT, UPDATE and DELETE are read as themselves.
use Rattle.std.proofs.Common.{◌≡◌, ℕ, suc, ◌<◌, false, List, [], ◌∷◌, ◌++◌, length, Option, Some, None, refl, sym, subst, arith, append_assoc, append-nil}
use Rattle.std.specs.Prelude.{pos, negsuc}
use Rattle.sql_value.specs.declared.value.Value.{Value}
use Rattle.sql_value.specs.declared.value.Value.TheVariants as value
use Rattle.sql_value.specs.declared.expr.Expr.{Expr}
use Rattle.sql_value.specs.Tree.{tree}
use Rattle.sql_value.specs.Literals.{IsLiteral}
use Rattle.sql_types.specs.declared.statement.RowStmt.{RowStmt}
use Rattle.sql_types.specs.declared.statement.RowStmt.TheVariants.{Insert, Update, Delete}
use Rattle.spec_syntax.specs.declared.tag.Tag.TheVariants as t
use Rattle.spec_syntax.specs.Tags.{same_tag}
use Rattle.spec_syntax.specs.Input.{Sym, tag, text, next, sees, after, expect, list}
use Rattle.spec_syntax.specs.Expr as e
use Rattle.spec_syntax.specs.Expr.{name, whole}
use Rattle.spec_syntax.specs.Row as r
use Rattle.spec_syntax.specs.Printed as p
use Rattle.spec_syntax.specs.Printed.{key, enclosed, listed}
use Rattle.spec_syntax.specs.PrintedStmt as s
use Rattle.spec_syntax.specs.Parsed.{IsName, IsExpr, IsAssignment, OneOrMore, Maybe}
use Rattle.law_printing.proofs.Repeats.{at_}
use Rattle.law_printing.proofs.ReadTrees.{Written, name_read}
use Rattle.law_printing.proofs.Gets.{Gets, gets, then_gets, NoComma, ItemReads, list_gets}
use Rattle.law_printing.proofs.ReadParts.{Untreed, AnyEnds, Any, expr_gets, some_of, names_gets, no_comma_close, filter_gets}

-- the tokens of a value, of which a sign is one
abbrev pub value_syms : Value → List Sym
value_syms (value.Num s (negsuc n)) = key t.Minus ∷ p.literal_sym (value.Num s (pos (suc n))) ∷ []
value_syms v = p.literal_sym v ∷ []

abbrev pub row_syms : List Value → List Sym
row_syms vs = enclosed (listed value_syms vs)

abbrev pub change_syms : RowStmt → List Sym
change_syms (Insert table found rows) = key t.Insert ∷ key t.Into ∷ p.name table ∷ (s.columns found ++ key t.Values ∷ listed row_syms rows)
change_syms other = s.change other

-- ---- values

null_value : Written → (rest : List Sym) (n : ℕ) → r.value (at_ (p.literal_sym value.Null ∷ rest) n) ≡ Some (value.Null, at_ rest n)
unfolding r.value e.literal tag text next
null_value written rest n = rw (written value.Null tt) refl

number_value : Written → (m z : ℕ) → IsLiteral (value.Num z (pos m)) → (rest : List Sym) (n : ℕ) → r.value (at_ (p.literal_sym (value.Num z (pos m)) ∷ rest) n) ≡ Some (value.Num z (pos m), at_ rest n)
unfolding r.value e.literal tag text next
number_value written m z is rest n = rw (written (value.Num z (pos m)) is) refl

minus_value : Written → (m z : ℕ) → IsLiteral (value.Num z (pos (suc m))) → (rest : List Sym) (n : ℕ) → r.value (at_ (key t.Minus ∷ p.literal_sym (value.Num z (pos (suc m))) ∷ rest) n) ≡ Some (value.Num z (negsuc m), at_ rest n)
unfolding r.value r.number e.literal tag text next
minus_value written m z is rest n = rw (written (value.Num z (pos (suc m))) is) refl

text_value : Written → (x : List ℕ) (rest : List Sym) (n : ℕ) → r.value (at_ (p.literal_sym (value.Text x) ∷ rest) n) ≡ Some (value.Text x, at_ rest n)
unfolding r.value e.literal tag text next
text_value written x rest n = rw (written (value.Text x) tt) refl

bytes_value : Written → (b : List ℕ) → IsLiteral (value.Bytes b) → (rest : List Sym) (n : ℕ) → r.value (at_ (p.literal_sym (value.Bytes b) ∷ rest) n) ≡ Some (value.Bytes b, at_ rest n)
unfolding r.value e.literal tag text next
bytes_value written b is rest n = rw (written (value.Bytes b) is) refl

value_gets : Written → (v : Value) → IsLiteral v → (rest : List Sym) (n : ℕ) → Gets (r.value (at_ (value_syms v ++ rest) n)) v rest
value_gets written value.Null is rest n = gets (r.value (at_ (value_syms value.Null ++ rest) n)) value.Null rest n (null_value written rest n)
value_gets written (value.Num z (pos m)) is rest n = gets (r.value (at_ (value_syms (value.Num z (pos m)) ++ rest) n)) (value.Num z (pos m)) rest n (number_value written m z is rest n)
value_gets written (value.Num z (negsuc m)) is rest n = gets (r.value (at_ (value_syms (value.Num z (negsuc m)) ++ rest) n)) (value.Num z (negsuc m)) rest n (minus_value written m z is rest n)
value_gets written (value.Text x) is rest n = gets (r.value (at_ (value_syms (value.Text x) ++ rest) n)) (value.Text x) rest n (text_value written x rest n)
value_gets written (value.Bytes b) is rest n = gets (r.value (at_ (value_syms (value.Bytes b) ++ rest) n)) (value.Bytes b) rest n (bytes_value written b is rest n)
value_gets written (value.Date d) is rest n = absurd is

value_some : (v : Value) → 0 < length (value_syms v)
value_some value.Null = omega arith
value_some (value.Num z (pos m)) = omega arith
value_some (value.Num z (negsuc m)) = omega arith
value_some (value.Text x) = omega arith
value_some (value.Bytes b) = omega arith
value_some (value.Date d) = omega arith

row_gets : Written → (vs : List Value) → OneOrMore IsLiteral vs → (rest : List Sym) (n : ℕ) → Gets (r.row (at_ (row_syms vs ++ rest) n)) vs rest
unfolding r.row expect sees next same_tag
row_gets written vs is rest n =
    let flat = append_assoc (listed value_syms vs) (key t.Close ∷ []) rest in
    let P : List Sym → Type 0 = λ z. Gets (r.row (at_ (key t.Open ∷ z) n)) vs rest in
    let read = list_gets r.value value_syms Any (λ more. tt) vs (key t.Close ∷ rest) n
    (some_of IsLiteral (ItemReads r.value value_syms Any) (λ v k. (value_some v, λ after_ m follow. value_gets written v k after_ m)) vs is) tt (no_comma_close rest) in
    subst P (sym flat) (then_gets (λ y. _) vs vs (key t.Close ∷ rest) rest (list r.value (at_ (listed value_syms vs ++ key t.Close ∷ rest) n)) read (λ m. (refl, refl)))

pub no_comma_end : NoComma []
unfolding sees
no_comma_end = λ n. refl

rows_gets : Written → (rows : List (List Value)) (n : ℕ) → OneOrMore (OneOrMore IsLiteral) rows → Gets (list r.row (at_ (listed row_syms rows) n)) rows []
rows_gets written rows n is =
    let P : List Sym → Type 0 = λ z. Gets (list r.row (at_ z n)) rows [] in
    subst P (append-nil (listed row_syms rows)) (list_gets r.row row_syms Any (λ more. tt) rows [] n
    (some_of (OneOrMore IsLiteral) (ItemReads r.row row_syms Any) (λ vs k. (omega arith, λ after_ m follow. row_gets written vs k after_ m)) rows is) tt no_comma_end)

-- ---- INSERT

columns_gets : (found : Option (List (List ℕ))) (rest : List Sym) (n : ℕ) → Maybe (OneOrMore IsName) found → Gets (r.columns (at_ (s.columns found ++ key t.Values ∷ rest) n)) found (key t.Values ∷ rest)
unfolding r.columns expect sees after next same_tag
columns_gets None rest n is = (refl, refl)
columns_gets (Some ns) rest n is =
    let ts = key t.Values ∷ rest in
    let flat = append_assoc (listed s.one_name ns) (key t.Close ∷ []) ts in
    let P : List Sym → Type 0 = λ z. Gets (r.columns (at_ (key t.Open ∷ z) n)) (Some ns) ts in
    subst P (sym flat) (then_gets (λ y. _) ns (Some ns) (key t.Close ∷ ts) ts (list name (at_ (listed s.one_name ns ++ key t.Close ∷ ts) n)) (names_gets ns (key t.Close ∷ ts) n is (no_comma_close ts)) (λ m. (refl, refl)))

pub behind_columns : Written → (table : List ℕ) (found : Option (List (List ℕ))) (rows : List (List Value)) (n : ℕ) → Maybe (OneOrMore IsName) found → OneOrMore (OneOrMore IsLiteral) rows
    → Gets (r.insert (at_ (key t.Into ∷ p.name table ∷ (s.columns found ++ key t.Values ∷ listed row_syms rows)) n)) (Insert table found rows) []
unfolding r.insert expect sees after next same_tag
behind_columns written table found rows n columns_ rows_ =
    let ts = s.columns found ++ key t.Values ∷ listed row_syms rows in
    rw (name_read table ts n) (then_gets (λ y. _) found (Insert table found rows) (key t.Values ∷ listed row_syms rows) [] (r.columns (at_ ts n)) (columns_gets found (listed row_syms rows) n columns_)
    (λ m. then_gets (λ y. _) rows (Insert table found rows) [] [] (list r.row (at_ (listed row_syms rows) m)) (rows_gets written rows m rows_) (λ k. (refl, refl))))

-- ---- UPDATE and DELETE

pub ends_comma : (more : List Sym) → AnyEnds (key t.Comma ∷ more)
unfolding tag sees same_tag
ends_comma more = λ n. (refl, refl, refl, refl, refl, refl)

ends_filter : (cond : Option Expr) → AnyEnds (s.filter cond)
unfolding tag sees same_tag
ends_filter None = λ n. (refl, refl, refl, refl, refl, refl)
ends_filter (Some x) = λ n. (refl, refl, refl, refl, refl, refl)

no_comma_filter : (cond : Option Expr) → NoComma (s.filter cond)
unfolding sees same_tag
no_comma_filter None = λ n. refl
no_comma_filter (Some x) = λ n. refl

pub ends_none : AnyEnds []
unfolding tag sees
ends_none = λ n. (refl, refl, refl, refl, refl, refl)

no_where_end : (n : ℕ) → sees t.Where (at_ [] n) ≡ false
unfolding sees
no_where_end n = refl

filter_at_end : Written → Untreed → (cond : Option Expr) (n : ℕ) → Maybe IsExpr cond → Gets (r.filter (at_ (s.filter cond) n)) cond []
filter_at_end written untreed cond n is =
    let P : List Sym → Type 0 = λ z. Gets (r.filter (at_ z n)) cond [] in
    subst P (append-nil (s.filter cond)) (filter_gets written untreed cond [] n is ends_none (no_where_end n))

assignment_gets : Written → Untreed → (x : List ℕ × Expr) → IsAssignment x → (rest : List Sym) (n : ℕ) → AnyEnds rest → Gets (r.assignment (at_ (s.assignment x ++ rest) n)) x rest
unfolding r.assignment expect sees next same_tag
assignment_gets written untreed x is rest n ends =
    rw (name_read x.0 (key t.Equal ∷ (p.expr (tree x.1) ++ rest)) n)
    (then_gets (λ y. _) x.1 x rest rest (whole (at_ (p.expr (tree x.1) ++ rest) n)) (expr_gets written untreed x.1 is.1 rest n ends) (λ m. (refl, refl)))

pub update_gets : Written → Untreed → (table : List ℕ) (sets : List (List ℕ × Expr)) (cond : Option Expr) (n : ℕ) → OneOrMore IsAssignment sets → Maybe IsExpr cond
    → Gets (r.update (at_ (p.name table ∷ key t.Set ∷ (listed s.assignment sets ++ s.filter cond)) n)) (Update table sets cond) []
unfolding r.update expect sees next same_tag
update_gets written untreed table sets cond n sets_ cond_ =
    let ts = listed s.assignment sets ++ s.filter cond in
    let read = list_gets r.assignment s.assignment AnyEnds ends_comma sets (s.filter cond) n
    (some_of IsAssignment (ItemReads r.assignment s.assignment AnyEnds) (λ x k. (omega arith, λ after_ m follow. assignment_gets written untreed x k after_ m follow)) sets sets_)
    (ends_filter cond) (no_comma_filter cond) in
    rw (name_read table (key t.Set ∷ ts) n) (then_gets (λ y. _) sets (Update table sets cond) (s.filter cond) [] (list r.assignment (at_ ts n)) read
    (λ m. then_gets (λ y. _) cond (Update table sets cond) [] [] (r.filter (at_ (s.filter cond) m)) (filter_at_end written untreed cond m cond_) (λ k. (refl, refl))))

pub delete_gets : Written → Untreed → (table : List ℕ) (cond : Option Expr) (n : ℕ) → Maybe IsExpr cond → Gets (r.delete (at_ (key t.From ∷ p.name table ∷ s.filter cond) n)) (Delete table cond) []
unfolding r.delete sees after next same_tag
delete_gets written untreed table cond n cond_ =
    rw (name_read table (s.filter cond) n) (then_gets (λ y. _) cond (Delete table cond) [] [] (r.filter (at_ (s.filter cond) n)) (filter_at_end written untreed cond n cond_) (λ k. (refl, refl)))
