-- What holds of each statement that is read.
use Rattle.std.proofs.Common.{◌≡◌, zero, suc, Bool, true, false, cond, List, [], ◌∷◌, Option, Some, None, refl}
use Rattle.std.specs.Prelude.{ℤ, pos, negsuc, neg_ℤ, unsigned_abs}
use Rattle.sql_value.specs.declared.value.Value.{Value}
use Rattle.sql_value.specs.declared.value.Value.TheVariants as value
use Rattle.sql_value.specs.Literals.{IsLiteral}
use Rattle.sql_types.specs.declared.statement.SelectList.{SelectList}
use Rattle.sql_types.specs.declared.statement.SelectList.TheVariants as shown
use Rattle.sql_types.specs.declared.statement.Agg.TheVariants as aggregate
use Rattle.spec_syntax.specs.declared.tag.Tag.{Tag}
use Rattle.spec_syntax.specs.declared.tag.Tag.TheVariants as t
use Rattle.spec_syntax.specs.declared.word.CallName.{CallName}
use Rattle.spec_syntax.specs.declared.word.CallName.TheVariants as call
use Rattle.spec_syntax.specs.Input.{Input, Outcome, and_then, tag, text, next, sees, calls, after, expect, list}
use Rattle.spec_syntax.specs.Words.{call_word, call_by, call_name}
use Rattle.spec_syntax.specs.Expr as e
use Rattle.spec_syntax.specs.Expr.{name, whole}
use Rattle.spec_syntax.specs.Row as r
use Rattle.spec_syntax.specs.Select as g
use Rattle.spec_syntax.specs.Table as b
use Rattle.spec_syntax.specs.Parsed.{IsName, IsExpr, IsAssignment, IsChange, IsAgg, IsWhat, IsSort, IsOrder, IsSelect, IsIndex, Each, OneOrMore, Maybe}
use Rattle.law_printing.proofs.Kept.{AreSyms, Holds, Always, then_keeps, map_keeps, weak, required_keeps, next_ok, after_ok, expect_keeps, if_keeps, name_keeps, Literal, IsRead, literal_keeps, list_keeps}
use Rattle.law_printing.proofs.KeptExprs.{whole_keeps}

pub names_keep : (i : Input) → AreSyms i.rest → Holds (OneOrMore IsName) (list name i)
names_keep i ok = list_keeps IsName name name_keeps i ok

pub name_list_keeps : (i : Input) → AreSyms i.rest → Holds (OneOrMore IsName) (r.name_list i)
unfolding r.name_list
name_list_keeps i ok =
    then_keeps Always (OneOrMore IsName) (λ x. _) (expect t.Open i) (expect_keeps t.Open i ok) (λ x is j more.
    then_keeps (OneOrMore IsName) (OneOrMore IsName) (λ y. _) (list name j) (names_keep j more) (λ ns named k rest.
    then_keeps Always (OneOrMore IsName) (λ z. _) (expect t.Close k) (expect_keeps t.Close k rest) (λ z done m end. (named, end))))

-- ---- values

number_by_keeps : Literal → (g_ : Tag) (i : Input) → AreSyms i.rest → Holds IsRead (r.number_by g_ i)
number_by_keeps read t.Number i ok = literal_keeps read i ok
number_by_keeps read _ i ok = tt

number_keeps : Literal → (i : Input) → AreSyms i.rest → Holds IsRead (r.number i)
unfolding r.number
number_keeps read i ok = number_by_keeps read (tag i) i ok

neg_abs : (v : ℤ) → unsigned_abs (neg_ℤ v) ≡ unsigned_abs v
neg_abs (pos zero) = refl
neg_abs (pos (suc n)) = refl
neg_abs (negsuc n) = refl

negated_literal : (v : Value) → IsRead v → IsLiteral (r.negated v)
negated_literal value.Null k = tt
negated_literal (value.Num z v) k = (rw (neg_abs v) k.0.0, k.0.1)
negated_literal (value.Text x) k = tt
negated_literal (value.Bytes x) k = k.0
negated_literal (value.Date d) k = k.0

value_by_keeps : Literal → (g_ : Tag) (i : Input) → AreSyms i.rest → Holds IsLiteral (r.value_by g_ i)
value_by_keeps read t.Plus i ok = weak IsRead IsLiteral (r.number (next i)) (number_keeps read (next i) (next_ok i ok)) (λ v k. k.0)
value_by_keeps read t.Minus i ok = map_keeps IsRead IsLiteral r.negated (r.number (next i)) (number_keeps read (next i) (next_ok i ok)) negated_literal
value_by_keeps read _ i ok = weak IsRead IsLiteral (e.literal i) (literal_keeps read i ok) (λ v k. k.0)

value_keeps : Literal → (i : Input) → AreSyms i.rest → Holds IsLiteral (r.value i)
unfolding r.value
value_keeps read i ok = value_by_keeps read (tag i) i ok

row_keeps : Literal → (i : Input) → AreSyms i.rest → Holds (OneOrMore IsLiteral) (r.row i)
unfolding r.row
row_keeps read i ok =
    then_keeps Always (OneOrMore IsLiteral) (λ x. _) (expect t.Open i) (expect_keeps t.Open i ok) (λ x is j more.
    then_keeps (OneOrMore IsLiteral) (OneOrMore IsLiteral) (λ y. _) (list r.value j) (list_keeps IsLiteral r.value (value_keeps read) j more) (λ vs all k rest.
    then_keeps Always (OneOrMore IsLiteral) (λ z. _) (expect t.Close k) (expect_keeps t.Close k rest) (λ z done m end. (all, end))))

columns_keep : (i : Input) → AreSyms i.rest → Holds (Maybe (OneOrMore IsName)) (r.columns i)
unfolding r.columns
columns_keep i ok =
    let j = after t.Open i in
    let kept = after_ok t.Open i ok in
    if_keeps (Maybe (OneOrMore IsName)) (sees t.Open i) (λ k. and_then (list name k) (λ found m. and_then (expect t.Close m) (λ z n. Some (Some found, n)))) (λ k. Some (None, k)) j
    (then_keeps (OneOrMore IsName) (Maybe (OneOrMore IsName)) (λ y. _) (list name j) (names_keep j kept) (λ ns named k rest.
    then_keeps Always (Maybe (OneOrMore IsName)) (λ z. _) (expect t.Close k) (expect_keeps t.Close k rest) (λ z done m end. (named, end))))
    (tt, kept)

pub insert_keeps : Literal → (i : Input) → AreSyms i.rest → Holds IsChange (r.insert i)
unfolding r.insert
insert_keeps read i ok =
    let j = after t.Into i in
    then_keeps IsName IsChange (λ x. _) (name j) (name_keeps j (after_ok t.Into i ok)) (λ table named k rest.
    then_keeps (Maybe (OneOrMore IsName)) IsChange (λ x. _) (r.columns k) (columns_keep k rest) (λ found columns_ m more.
    then_keeps Always IsChange (λ x. _) (expect t.Values m) (expect_keeps t.Values m more) (λ z done n others.
    then_keeps (OneOrMore (OneOrMore IsLiteral)) IsChange (λ x. _) (list r.row n) (list_keeps (OneOrMore IsLiteral) r.row (row_keeps read) n others) (λ rows all q end. ((named, columns_, all), end)))))

pub filter_keeps : Literal → (i : Input) → AreSyms i.rest → Holds (Maybe IsExpr) (r.filter i)
unfolding r.filter
filter_keeps read i ok =
    let j = after t.Where i in
    let kept = after_ok t.Where i ok in
    if_keeps (Maybe IsExpr) (sees t.Where i) (λ k. and_then (whole k) (λ x m. Some (Some x, m))) (λ k. Some (None, k)) j
    (map_keeps IsExpr (Maybe IsExpr) (λ x. Some x) (whole j) (whole_keeps read j kept) (λ x is. is)) (tt, kept)

assignment_keeps : Literal → (i : Input) → AreSyms i.rest → Holds IsAssignment (r.assignment i)
unfolding r.assignment
assignment_keeps read i ok =
    then_keeps IsName IsAssignment (λ x. _) (name i) (name_keeps i ok) (λ column named j more.
    then_keeps Always IsAssignment (λ x. _) (expect t.Equal j) (expect_keeps t.Equal j more) (λ z done k rest.
    then_keeps IsExpr IsAssignment (λ x. _) (whole k) (whole_keeps read k rest) (λ to is m end. ((named, is), end))))

pub update_keeps : Literal → (i : Input) → AreSyms i.rest → Holds IsChange (r.update i)
unfolding r.update
update_keeps read i ok =
    then_keeps IsName IsChange (λ x. _) (name i) (name_keeps i ok) (λ table named j more.
    then_keeps Always IsChange (λ x. _) (expect t.Set j) (expect_keeps t.Set j more) (λ z done k rest.
    then_keeps (OneOrMore IsAssignment) IsChange (λ x. _) (list r.assignment k) (list_keeps IsAssignment r.assignment (assignment_keeps read) k rest) (λ sets all m others.
    then_keeps (Maybe IsExpr) IsChange (λ x. _) (r.filter m) (filter_keeps read m others) (λ cond_ is n end. ((named, all, is), end)))))

pub delete_keeps : Literal → (i : Input) → AreSyms i.rest → Holds IsChange (r.delete i)
unfolding r.delete
delete_keeps read i ok =
    let j = after t.From i in
    then_keeps IsName IsChange (λ x. _) (name j) (name_keeps j (after_ok t.From i ok)) (λ table named k rest.
    then_keeps (Maybe IsExpr) IsChange (λ x. _) (r.filter k) (filter_keeps read k rest) (λ cond_ is m end. ((named, is), end)))

-- ---- SELECT

pub always : {A : Type 0} (o : Option A) → Maybe Always o
always None = tt
always (Some a) = tt

call_by_keeps : (g_ : Tag) (i : Input) → AreSyms i.rest → Holds Always (call_by g_ i)
call_by_keeps t.Word i ok = required_keeps Always (call_name (text i)) (always (call_name (text i))) (next i) (next_ok i ok)
call_by_keeps _ i ok = tt

pub call_keeps : (i : Input) → AreSyms i.rest → Holds Always (call_word i)
unfolding call_word
call_keeps i ok = call_by_keeps (tag i) i ok

agg_by_keeps : (c : CallName) (i : Input) → AreSyms i.rest → Holds IsAgg (g.agg_by c i)
agg_by_keeps call.Count i ok = then_keeps Always IsAgg (λ x. _) (expect t.Star i) (expect_keeps t.Star i ok) (λ z done j end. (tt, end))
agg_by_keeps call.Sum i ok = map_keeps IsName IsAgg aggregate.Sum (name i) (name_keeps i ok) (λ n named. named)
agg_by_keeps _ i ok = tt

agg_keeps : (i : Input) → AreSyms i.rest → Holds IsAgg (g.agg i)
unfolding g.agg
agg_keeps i ok =
    then_keeps Always IsAgg (λ x. _) (call_word i) (call_keeps i ok) (λ c called j more.
    then_keeps Always IsAgg (λ x. _) (expect t.Open j) (expect_keeps t.Open j more) (λ z done k rest.
    then_keeps IsAgg IsAgg (λ x. _) (g.agg_by c k) (agg_by_keeps c k rest) (λ found is m others.
    then_keeps Always IsAgg (λ x. _) (expect t.Close m) (expect_keeps t.Close m others) (λ y shut n end. (is, end)))))

if_holds : {A : Type 0} (Q : A → Type 0) (c : Bool) (p q : Outcome A) → Holds Q p → Holds Q q → Holds Q (cond c p q)
if_holds Q true p q a b = a
if_holds Q false p q a b = b

what_keeps : (i : Input) → AreSyms i.rest → Holds IsWhat (g.what i)
unfolding g.what
what_keeps i ok =
    let j = after t.Star i in
    let kept = after_ok t.Star i ok in
    if_holds IsWhat (calls i) (and_then (list g.agg i) (λ x m. Some (shown.Aggs x, m))) _
    (map_keeps (OneOrMore IsAgg) IsWhat shown.Aggs (list g.agg i) (list_keeps IsAgg g.agg agg_keeps i ok) (λ x is. is))
    (if_keeps IsWhat (sees t.Star i) (λ k. Some (shown.All, k)) (λ k. and_then (list name k) (λ x m. Some (shown.Columns x, m))) j (tt, kept)
    (map_keeps (OneOrMore IsName) IsWhat shown.Columns (list name j) (names_keep j kept) (λ x is. is)))

falls_keeps : (i : Input) → AreSyms i.rest → Holds Always (g.falls i)
unfolding g.falls
falls_keeps i ok =
    let j = after t.Asc i in
    let kept = after_ok t.Asc i ok in
    if_keeps Always (sees t.Asc i) (λ k. Some (false, k)) (λ k. Some (sees t.Desc k, after t.Desc k)) j (tt, kept) (tt, after_ok t.Desc j kept)

sort_keeps : (i : Input) → AreSyms i.rest → Holds IsSort (g.sort i)
unfolding g.sort
sort_keeps i ok =
    then_keeps IsName IsSort (λ x. _) (name i) (name_keeps i ok) (λ column named j more.
    then_keeps Always IsSort (λ x. _) (g.falls j) (falls_keeps j more) (λ down is k end. (named, end)))

some_each : {A : Type 0} (P : A → Type 0) (xs : List A) → OneOrMore P xs → Each P xs
some_each P [] k = absurd k
some_each P (x ∷ xs) k = k

order_keeps : (i : Input) → AreSyms i.rest → Holds (Each IsSort) (g.order i)
unfolding g.order
order_keeps i ok =
    let j = after t.Order i in
    let kept = after_ok t.Order i ok in
    if_keeps (Each IsSort) (sees t.Order i) (λ k. and_then (expect t.By k) (λ z. list g.sort)) (λ k. Some ([], k)) j
    (then_keeps Always (Each IsSort) (λ z. _) (expect t.By j) (expect_keeps t.By j kept) (λ z done k rest. weak (OneOrMore IsSort) (Each IsSort) (list g.sort k) (list_keeps IsSort g.sort sort_keeps k rest) (some_each IsSort)))
    (tt, kept)

order_of_keeps : (w : SelectList) (i : Input) → AreSyms i.rest → Holds (IsOrder w) (g.order_of w i)
order_of_keeps shown.All i ok = order_keeps i ok
order_of_keeps (shown.Columns ns) i ok = order_keeps i ok
order_of_keeps (shown.Aggs all) i ok = (refl, ok)

pub select_keeps : Literal → (i : Input) → AreSyms i.rest → Holds IsSelect (g.select i)
unfolding g.select
select_keeps read i ok =
    then_keeps IsWhat IsSelect (λ x. _) (g.what i) (what_keeps i ok) (λ w is j more.
    then_keeps Always IsSelect (λ x. _) (expect t.From j) (expect_keeps t.From j more) (λ z done k rest.
    then_keeps IsName IsSelect (λ x. _) (name k) (name_keeps k rest) (λ table named m others.
    then_keeps (Maybe IsExpr) IsSelect (λ x. _) (r.filter m) (filter_keeps read m others) (λ cond_ true_ n left.
    then_keeps (IsOrder w) IsSelect (λ x. _) (g.order_of w n) (order_of_keeps w n left) (λ order_ sorted q end. ((named, is, true_, sorted), end))))))

pub index_keeps : (i : Input) → AreSyms i.rest → Holds IsIndex (b.create_index i)
unfolding b.create_index
index_keeps i ok =
    then_keeps IsName IsIndex (λ x. _) (name i) (name_keeps i ok) (λ n named j more.
    then_keeps Always IsIndex (λ x. _) (expect t.On j) (expect_keeps t.On j more) (λ z done k rest.
    then_keeps IsName IsIndex (λ x. _) (name k) (name_keeps k rest) (λ table known m others.
    then_keeps (OneOrMore IsName) IsIndex (λ x. _) (r.name_list m) (name_list_keeps m others) (λ names all q end. ((named, known, all), end)))))
