-- Printed SELECT and CREATE INDEX are read as themselves.
use Rattle.std.proofs.Common.{◌≡◌, ◌∙◌, ℕ, ◌<◌, Bool, true, false, List, [], ◌∷◌, ◌++◌, length, Some, refl, ap, sym, subst, arith, append_assoc, append-nil, codes}
use Rattle.sql_types.specs.declared.statement.CreateIndex.{CreateIndex}
use Rattle.sql_types.specs.declared.statement.Select.{Select}
use Rattle.sql_types.specs.declared.statement.SelectList.{SelectList}
use Rattle.sql_types.specs.declared.statement.SelectList.TheVariants as shown
use Rattle.sql_types.specs.declared.statement.Agg.{Agg}
use Rattle.sql_types.specs.declared.statement.Agg.TheVariants as aggregate
use Rattle.spec_syntax.specs.declared.tag.Tag.TheVariants as t
use Rattle.spec_syntax.specs.Tags.{same_tag}
use Rattle.spec_syntax.specs.Input.{Sym, tag, text, next, sees, calls, after, expect, list}
use Rattle.spec_syntax.specs.Words.{call_name, call_word}
use Rattle.spec_syntax.specs.Expr.{name}
use Rattle.spec_syntax.specs.Row as r
use Rattle.spec_syntax.specs.Select as g
use Rattle.spec_syntax.specs.Table.{create_index}
use Rattle.spec_syntax.specs.Printed as p
use Rattle.spec_syntax.specs.Printed.{key, word, enclosed, listed, rest_listed}
use Rattle.spec_syntax.specs.PrintedStmt as s
use Rattle.spec_syntax.specs.Parsed.{IsName, IsAgg, IsWhat, IsSort, IsOrder, IsSelect, IsIndex, Each, OneOrMore}
use Rattle.law_printing.proofs.Repeats.{at_, left_}
use Rattle.law_printing.proofs.ReadTrees.{Written, name_read}
use Rattle.law_printing.proofs.Gets.{Gets, gets, then_gets, map_gets, NoComma, ItemReads, list_gets}
use Rattle.law_printing.proofs.ReadParts.{Untreed, AnyEnds, Any, some_of, names_gets, name_list_gets, filter_gets}
use Rattle.law_printing.proofs.ReadRows.{no_comma_end}

-- ---- what is shown

count_read : (rest : List Sym) (n : ℕ) → g.agg (at_ (word (codes "COUNT") ∷ (enclosed (key t.Star ∷ []) ++ rest)) n) ≡ Some (aggregate.Count, at_ rest n)
unfolding g.agg call_word call_name tag text next expect sees same_tag
count_read rest n = refl

sum_read : (c : List ℕ) (rest : List Sym) (n : ℕ) → g.agg (at_ (word (codes "SUM") ∷ (enclosed (p.name c ∷ []) ++ rest)) n) ≡ Some (aggregate.Sum c, at_ rest n)
unfolding g.agg call_word call_name tag text next expect sees same_tag
sum_read c rest n = rw (name_read c (key t.Close ∷ rest) n) refl

agg_gets : (a : Agg) (rest : List Sym) (n : ℕ) → Gets (g.agg (at_ (s.agg a ++ rest) n)) a rest
agg_gets aggregate.Count rest n = gets (g.agg (at_ (s.agg aggregate.Count ++ rest) n)) aggregate.Count rest n (count_read rest n)
agg_gets (aggregate.Sum c) rest n = gets (g.agg (at_ (s.agg (aggregate.Sum c) ++ rest) n)) (aggregate.Sum c) rest n (sum_read c rest n)

agg_some : (a : Agg) → 0 < length (s.agg a)
agg_some aggregate.Count = omega arith
agg_some (aggregate.Sum c) = omega arith

no_comma_from : (rest : List Sym) → NoComma (key t.From ∷ rest)
unfolding sees same_tag
no_comma_from rest = λ n. refl

-- a '(' stands behind the first token of an aggregate
aggs_call : (a : Agg) (rest : List Sym) (n : ℕ) → calls (at_ (s.agg a ++ rest) n) ≡ true
unfolding calls same_tag
aggs_call aggregate.Count rest n = refl
aggs_call (aggregate.Sum c) rest n = refl

list_calls : (a : Agg) (all : List Agg) (rest : List Sym) (n : ℕ) → calls (at_ (listed s.agg (a ∷ all) ++ rest) n) ≡ true
unfolding listed
list_calls a all rest n = ap (λ z. calls (at_ z n)) (append_assoc (s.agg a) (rest_listed s.agg all) rest) ∙ aggs_call a (rest_listed s.agg all ++ rest) n

names_call : (c : List ℕ) (ns : List (List ℕ)) (rest : List Sym) (n : ℕ) → calls (at_ (listed s.one_name (c ∷ ns) ++ key t.From ∷ rest) n) ≡ false
unfolding listed rest_listed calls same_tag
names_call c [] rest n = refl
names_call c (d ∷ ns) rest n = refl

no_star : (c : List ℕ) (ns : List (List ℕ)) (rest : List Sym) (n : ℕ) → sees t.Star (at_ (listed s.one_name (c ∷ ns) ++ rest) n) ≡ false
unfolding listed sees same_tag
no_star c ns rest n = refl

all_gets : (rest : List Sym) (n : ℕ) → Gets (g.what (at_ (key t.Star ∷ key t.From ∷ rest) n)) shown.All (key t.From ∷ rest)
unfolding g.what calls sees after next same_tag
all_gets rest n = (refl, refl)

columns_gets : (c : List ℕ) (ns : List (List ℕ)) (rest : List Sym) (n : ℕ) → OneOrMore IsName (c ∷ ns) → Gets (g.what (at_ (listed s.one_name (c ∷ ns) ++ key t.From ∷ rest) n)) (shown.Columns (c ∷ ns)) (key t.From ∷ rest)
unfolding g.what
columns_gets c ns rest n is =
    let ts = listed s.one_name (c ∷ ns) ++ key t.From ∷ rest in
    let no_ = no_star c ns (key t.From ∷ rest) n in
    rw (names_call c ns rest n) (rw no_ (rw (left_ t.Star (at_ ts n) no_)
    (map_gets shown.Columns (c ∷ ns) (key t.From ∷ rest) (list name (at_ ts n)) (names_gets (c ∷ ns) (key t.From ∷ rest) n is (no_comma_from rest)))))

aggs_gets : (a : Agg) (all : List Agg) (rest : List Sym) (n : ℕ) → OneOrMore IsAgg (a ∷ all) → Gets (g.what (at_ (listed s.agg (a ∷ all) ++ key t.From ∷ rest) n)) (shown.Aggs (a ∷ all)) (key t.From ∷ rest)
unfolding g.what
aggs_gets a all rest n is =
    let ts = listed s.agg (a ∷ all) ++ key t.From ∷ rest in
    rw (list_calls a all (key t.From ∷ rest) n) (map_gets shown.Aggs (a ∷ all) (key t.From ∷ rest) (list g.agg (at_ ts n))
    (list_gets g.agg s.agg Any (λ more. tt) (a ∷ all) (key t.From ∷ rest) n (some_of IsAgg (ItemReads g.agg s.agg Any) (λ x k. (agg_some x, λ after_ m follow. agg_gets x after_ m)) (a ∷ all) is) tt (no_comma_from rest)))

what_gets : (w : SelectList) (rest : List Sym) (n : ℕ) → IsWhat w → Gets (g.what (at_ (s.what w ++ key t.From ∷ rest) n)) w (key t.From ∷ rest)
what_gets shown.All rest n is = all_gets rest n
what_gets (shown.Columns []) rest n is = absurd is
what_gets (shown.Columns (c ∷ ns)) rest n is = columns_gets c ns rest n is
what_gets (shown.Aggs []) rest n is = absurd is
what_gets (shown.Aggs (a ∷ all)) rest n is = aggs_gets a all rest n is

-- ---- ORDER BY

sort_gets : (x : List ℕ × Bool) (down : Bool) (rest : List Sym) (n : ℕ) → x.1 ≡ down → Gets (g.sort (at_ (s.sort x ++ rest) n)) x rest
unfolding g.sort g.falls sees after next same_tag
sort_gets x true rest n is = rw is (rw (name_read x.0 (key t.Desc ∷ rest) n) (refl, refl))
sort_gets x false rest n is = rw is (rw (name_read x.0 (key t.Asc ∷ rest) n) (refl, refl))

sorts_gets : (order : List (List ℕ × Bool)) (n : ℕ) → OneOrMore IsSort order → Gets (list g.sort (at_ (listed s.sort order) n)) order []
sorts_gets order n is =
    let P : List Sym → Type 0 = λ z. Gets (list g.sort (at_ z n)) order [] in
    subst P (append-nil (listed s.sort order)) (list_gets g.sort s.sort Any (λ more. tt) order [] n
    (some_of IsSort (ItemReads g.sort s.sort Any) (λ x k. (omega arith, λ after_ m follow. sort_gets x x.1 after_ m refl)) order is) tt no_comma_end)

order_gets : (order : List (List ℕ × Bool)) (n : ℕ) → Each IsSort order → Gets (g.order (at_ (s.order order) n)) order []
unfolding g.order expect sees after next same_tag
order_gets [] n is = (refl, refl)
order_gets (x ∷ xs) n is = sorts_gets (x ∷ xs) n is

order_of_gets : (w : SelectList) (order : List (List ℕ × Bool)) (n : ℕ) → IsOrder w order → Gets (g.order_of w (at_ (s.order order) n)) order []
order_of_gets shown.All order n is = order_gets order n is
order_of_gets (shown.Columns ns) order n is = order_gets order n is
order_of_gets (shown.Aggs all) order n is =
    let P : List (List ℕ × Bool) → Type 0 = λ z. Gets (g.order_of (shown.Aggs all) (at_ (s.order z) n)) z [] in
    subst P (sym is) (refl, refl)

ends_order : (order : List (List ℕ × Bool)) → AnyEnds (s.order order)
unfolding tag sees same_tag
ends_order [] = λ n. (refl, refl, refl, refl, refl, refl)
ends_order (x ∷ xs) = λ n. (refl, refl, refl, refl, refl, refl)

no_where : (order : List (List ℕ × Bool)) (n : ℕ) → sees t.Where (at_ (s.order order) n) ≡ false
unfolding sees same_tag
no_where [] n = refl
no_where (x ∷ xs) n = refl

pub select_gets : Written → Untreed → (x : Select) (n : ℕ) → IsSelect x → Gets (g.select (at_ (s.what x.what ++ key t.From ∷ p.name x.table ∷ (s.filter x.cond ++ s.order x.order)) n)) x []
unfolding g.select expect sees next same_tag
select_gets written untreed x n is =
    let tail = s.filter x.cond ++ s.order x.order in
    then_gets (λ y. _) x.what x (key t.From ∷ p.name x.table ∷ tail) [] (g.what (at_ (s.what x.what ++ key t.From ∷ p.name x.table ∷ tail) n)) (what_gets x.what (p.name x.table ∷ tail) n is.1)
    (λ m. rw (name_read x.table tail m) (then_gets (λ y. _) x.cond x (s.order x.order) [] (r.filter (at_ tail m)) (filter_gets written untreed x.cond (s.order x.order) m is.2 (ends_order x.order) (no_where x.order m))
    (λ k. then_gets (λ y. _) x.order x [] [] (g.order_of x.what (at_ (s.order x.order) k)) (order_of_gets x.what x.order k is.3) (λ q. (refl, refl)))))

-- ---- CREATE INDEX

pub index_gets : (x : CreateIndex) (n : ℕ) → IsIndex x → Gets (create_index (at_ (p.name x.name ∷ key t.On ∷ p.name x.table ∷ s.names x.columns) n)) x []
unfolding create_index expect sees next same_tag
index_gets x n is =
    let names = s.names x.columns in
    let P : List Sym → Type 0 = λ z. Gets (r.name_list (at_ z n)) x.columns [] in
    rw (name_read x.name (key t.On ∷ p.name x.table ∷ names) n) (rw (name_read x.table names n)
    (then_gets (λ y. _) x.columns x [] [] (r.name_list (at_ names n)) (subst P (append-nil names) (name_list_gets x.columns [] n is.2)) (λ m. (refl, refl))))
