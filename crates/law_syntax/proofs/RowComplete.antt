-- Statements on rows of the grammar are read.
use Rattle.std.proofs.Common.{◌≡◌, ◌∙◌, ◌<◌, ℕ, ◌-◌, Bool, true, false, if◌then◌else◌, List, [], ◌∷◌, ◌++◌, Option, Some, None, refl, ap, sym, subst, codes, ◌⊎◌, inl, inr, arith}
use Rattle.std.proofs.lemmas.List.{append-nil}
use Rattle.sql_lex.specs.declared.token.Kind.TheVariants as kind
use Rattle.sql_value.specs.declared.value.Value.{Value}
use Rattle.sql_value.specs.declared.value.Value.TheVariants as value
use Rattle.sql_value.specs.declared.expr.Expr.{Expr}
use Rattle.sql_types.specs.declared.statement.RowStmt.{RowStmt}
use Rattle.sql_types.specs.declared.statement.RowStmt.TheVariants.{Insert, Update, Delete}
use Rattle.sql_types.specs.declared.statement.Select.{Select}
use Rattle.sql_types.specs.declared.statement.SelectList.{SelectList}
use Rattle.sql_types.specs.declared.statement.SelectList.TheVariants.{All, Columns, Aggs}
use Rattle.sql_types.specs.declared.statement.Agg.{Agg}
use Rattle.sql_types.specs.declared.statement.Agg.TheVariants as aggregate
use Rattle.spec_grammar.specs.Tokens.{Lexemes, Word, word, Sign, IsName, IsNumber, number, same_word, OptionalPart, Optional, absent, present, Listed, last, more, Enclosed, enclosed}
use Rattle.sql_value.specs.Tree.{tree}
use Rattle.spec_grammar.specs.Expressions.{IsExpr, parts}
use Rattle.spec_grammar.specs.Rows as g
use Rattle.spec_grammar.specs.Rows.{AreNames, IsCondition, IsValue, IsRow, IsInsert, IsAssignment, IsUpdate, IsDelete, IsAggregate, IsDirection, IsSorting, IsOrder, IsShown, IsSelect}
use Rattle.spec_syntax.specs.declared.tag.Tag.{Tag}
use Rattle.spec_syntax.specs.declared.tag.Tag.TheVariants as t
use Rattle.spec_syntax.specs.declared.word.CallName.{CallName}
use Rattle.spec_syntax.specs.declared.word.CallName.TheVariants as call
use Rattle.spec_syntax.specs.Tags.{same_tag, tag_of}
use Rattle.spec_syntax.specs.Input.{Sym, Input, Parser, and_then, ◌>>=◌, ◌>>◌, ◌<$>◌, pure, tag, tag_at, text, next, sees, calls, after, eat, expect, required, max_parts}
use Rattle.spec_syntax.specs.Words.{call_word, call_name}
use Rattle.spec_syntax.specs.Expr.{name, literal, whole}
use Rattle.spec_syntax.specs.Row as r
use Rattle.spec_syntax.specs.Select as s
use Rattle.law_printing.proofs.Repeats.{at_}
use Rattle.law_syntax.proofs.Terminals as w
use Rattle.law_syntax.proofs.Terminals.{lower_same, word_tag}
use Rattle.law_syntax.proofs.RowSound.{spelled_call}
use Rattle.law_syntax.proofs.ExprComplete.{syms, One, one, name_token, LiteralToken, literal_token, literal_reads, whole_reads, binds, is_literal_tag}
use Rattle.law_syntax.proofs.ParsesTo.{ParsesTo, then_parses, flow, give_at, go, pure_parses, expects_parses, either_one, either_none, skips, same_self, sees_one, after_one, unseen, name_parses, name_other, one_other, one_tag, closes, enclosed_parses, ReadsIf, list_parses}

-- ---- what may follow

-- any tag
abbrev pub any : Tag → Bool
any g = true

-- what may stand behind a statement's body
abbrev pub ends : Tag → Bool
ends t.End = true
ends t.Semi = true
ends _ = false

-- what may stand behind an expression of a statement
abbrev pub after_expr : Tag → Bool
after_expr t.End = true
after_expr t.Semi = true
after_expr t.Comma = true
after_expr t.Where = true
after_expr t.Order = true
after_expr _ = false

-- what may stand behind a condition, or where none is written
abbrev pub after_filter : Tag → Bool
after_filter t.End = true
after_filter t.Semi = true
after_filter t.Order = true
after_filter _ = false

after_expr_binds : (g : Tag) → after_expr g ≡ true → binds g < 1
after_expr_binds t.End h = omega arith
after_expr_binds t.Semi h = omega arith
after_expr_binds t.Comma h = omega arith
after_expr_binds t.Where h = omega arith
after_expr_binds t.Order h = omega arith
after_expr_binds _ h = absurd (cc)

filter_expr : (g : Tag) → after_filter g ≡ true → after_expr g ≡ true
filter_expr t.End h = refl
filter_expr t.Semi h = refl
filter_expr t.Order h = refl
filter_expr _ h = absurd (cc)

filter_no_where : (g : Tag) → after_filter g ≡ true → same_tag g t.Where ≡ false
unfolding same_tag
filter_no_where t.End h = refl
filter_no_where t.Semi h = refl
filter_no_where t.Order h = refl
filter_no_where _ h = absurd (cc)

ends_filter : (g : Tag) → ends g ≡ true → after_filter g ≡ true
ends_filter t.End h = refl
ends_filter t.Semi h = refl
ends_filter _ h = absurd (cc)

pub ends_no_comma : (g : Tag) → ends g ≡ true → same_tag g t.Comma ≡ false
unfolding same_tag
ends_no_comma t.End h = refl
ends_no_comma t.Semi h = refl
ends_no_comma _ h = absurd (cc)

ends_no_order : (g : Tag) → ends g ≡ true → same_tag g t.Order ≡ false
unfolding same_tag
ends_no_order t.End h = refl
ends_no_order t.Semi h = refl
ends_no_order _ h = absurd (cc)

filter_no_comma : (g : Tag) → after_filter g ≡ true → same_tag g t.Comma ≡ false
unfolding same_tag
filter_no_comma t.End h = refl
filter_no_comma t.Semi h = refl
filter_no_comma t.Order h = refl
filter_no_comma _ h = absurd (cc)

-- ---- lists of names

name_if : ReadsIf any name IsName
name_if a x is rest n fits = name_parses is rest n

name_none : (n : ℕ) → name (at_ [] n) ≡ None
unfolding name tag
name_none n = refl

pub names_give : (a : Lexemes) (ns : List (List ℕ)) → AreNames a ns → (rest : List Sym) (n : ℕ) → same_tag (tag_at rest) t.Comma ≡ false → ParsesTo (r.names (at_ (syms a ++ rest) n)) ns rest
names_give a ns is rest n other = list_parses any name IsName name_if refl refl name_none a ns is rest n refl other

close_no_comma : {c : Lexemes} → One t.Close c → (rest : List Sym) → same_tag (tag_at (syms c ++ rest)) t.Comma ≡ false
unfolding same_tag
close_no_comma k rest = one_other t.Comma refl k rest

pub name_list_parses : {a : Lexemes} {ns : List (List ℕ)} → Enclosed AreNames a ns → (rest : List Sym) (n : ℕ) → ParsesTo (r.name_list (at_ (syms a ++ rest) n)) ns rest
unfolding r.name_list
name_list_parses {ns = ns} is rest n = enclosed_parses r.names AreNames ns (λ b c named close rest_ m. names_give b ns named (syms c ++ rest_) m (close_no_comma close rest_)) is rest n

-- ---- conditions

whole_if : ReadsIf after_expr whole IsExpr
whole_if a x is rest n fits = (max_parts - parts (tree x), whole_reads is rest n (after_expr_binds (tag_at rest) fits))

pub filter_parses : {a : Lexemes} {x : Option Expr} → Optional IsCondition a x → (rest : List Sym) (n : ℕ) → after_filter (tag_at rest) ≡ true → ParsesTo (r.filter (at_ (syms a ++ rest) n)) x rest
unfolding r.filter
filter_parses absent rest n fits = either_none t.Where (Some <$> whole) (pure None) None rest rest n (filter_no_where (tag_at rest) fits) (pure_parses None rest n)
filter_parses (present (g.condition {a = a} {b = b} {x = x} word_ is)) rest n fits =
    let where_ = one w.where_ a word_ in
    give_at (eat t.Where >>= (λ c. if c then Some <$> whole else pure None)) n (flow a b rest)
    (either_one (Some <$> whole) (pure None) (Some x) (syms b ++ rest) rest n where_
    (then_parses (λ y. pure (Some y)) (whole_if b x is rest n (filter_expr (tag_at rest) fits)) (λ m. pure_parses (Some x) rest m)))

-- ---- INSERT

number_parses : {a : Lexemes} {x : Value} → IsNumber a x → (rest : List Sym) (n : ℕ) → r.number (at_ (syms a ++ rest) n) ≡ Some (x, at_ rest n)
unfolding r.number tag tag_of
number_parses {x = x} (number v h) rest n = literal_reads t.Number v x rest n refl h

signed_tag : (g : Tag) → is_literal_tag g ≡ true → (i : Input) → r.value_by g i ≡ literal i
signed_tag t.Null is i = refl
signed_tag t.Number is i = refl
signed_tag t.Text is i = refl
signed_tag t.Bytes is i = refl
signed_tag _ is i = absurd (cc)

literal_value : {a : Lexemes} {x : Value} → LiteralToken a x → (rest : List Sym) (n : ℕ) → r.value (at_ (syms a ++ rest) n) ≡ Some (x, at_ rest n)
unfolding r.value tag
literal_value {x = x} k rest n =
    ap (λ z. r.value_by (tag_at (z ++ rest)) (at_ (z ++ rest) n)) k.whole ∙ signed_tag k.tag_ k.is_tag (at_ ((k.tag_, k.word_) ∷ rest) n) ∙ literal_reads k.tag_ k.word_ x rest n k.is_tag k.value

plus_value : (v : List ℕ) (rest : List Sym) (n : ℕ) → r.value (at_ ((t.Plus, v) ∷ rest) n) ≡ r.number (at_ rest n)
unfolding r.value tag next
plus_value v rest n = refl

minus_value : (v : List ℕ) (rest : List Sym) (n : ℕ) → r.value (at_ ((t.Minus, v) ∷ rest) n) ≡ and_then (r.number (at_ rest n)) (λ x. pure (r.negated x))
unfolding r.value tag next
minus_value v rest n = refl

negated_same : (v : Value) → r.negated v ≡ g.negated v
negated_same value.Null = refl
negated_same (value.Num z v) = refl
negated_same (value.Text x) = refl
negated_same (value.Bytes x) = refl
negated_same (value.Date d) = refl

signed : {gt : Tag} (a b : Lexemes) (k : One gt a) (rest : List Sym) → syms (a ++ b) ++ rest ≡ (gt, k.word_) ∷ (syms b ++ rest)
signed a b k rest = flow a b rest ∙ ap (λ z. z ++ (syms b ++ rest)) k.is

value_reads : {a : Lexemes} {x : Value} → IsValue a x → (rest : List Sym) (n : ℕ) → r.value (at_ (syms a ++ rest) n) ≡ Some (x, at_ rest n)
value_reads (g.literal is) rest n = literal_value (literal_token is) rest n
value_reads (g.positive {a = a} {b = b} sign_ is) rest n =
    let k = one w.plus_ a sign_ in
    ap (λ z. r.value (at_ z n)) (signed a b k rest) ∙ plus_value k.word_ (syms b ++ rest) n ∙ number_parses is rest n
value_reads (g.negative {a = a} {b = b} {v = v} sign_ is) rest n =
    let k = one w.minus_ a sign_ in
    ap (λ z. r.value (at_ z n)) (signed a b k rest) ∙ minus_value k.word_ (syms b ++ rest) n ∙ ap (λ q. and_then q (λ x. pure (r.negated x))) (number_parses is rest n) ∙ ap (λ z. Some (z, at_ rest n)) (negated_same v)

value_if : ReadsIf any r.value IsValue
value_if a x is rest n fits = (n, value_reads is rest n)

value_none : (n : ℕ) → r.value (at_ [] n) ≡ None
unfolding r.value tag literal
value_none n = refl

row_if : ReadsIf any r.row IsRow
unfolding r.row
row_if a x is rest n fits =
    enclosed_parses r.values (Listed IsValue) x
    (λ b c all close rest_ m. list_parses any r.value IsValue value_if refl refl value_none b x all (syms c ++ rest_) m refl (close_no_comma close rest_)) is rest n

row_none : (n : ℕ) → r.row (at_ [] n) ≡ None
unfolding r.row expect sees
row_none n = refl

columns_give : {a : Lexemes} {x : Option (List (List ℕ))} → Optional (Enclosed AreNames) a x → (rest : List Sym) (n : ℕ) → same_tag (tag_at rest) t.Open ≡ false → ParsesTo (r.columns (at_ (syms a ++ rest) n)) x rest
unfolding r.columns
columns_give absent rest n other = either_none t.Open (r.names >>= (λ found. expect t.Close >> pure (Some found))) (pure None) None rest rest n other (pure_parses None rest n)
columns_give (present (enclosed {a = a} {b = b} {c = c} {x = x} open_ is close_)) rest n other =
    let close = one w.close_ c close_ in
    give_at (eat t.Open >>= (λ z. if z then (r.names >>= (λ found. expect t.Close >> pure (Some found))) else pure None)) n (flow a (b ++ c) rest)
    (either_one (r.names >>= (λ found. expect t.Close >> pure (Some found))) (pure None) (Some x) (syms (b ++ c) ++ rest) rest n (one w.open_ a open_)
    (closes r.names (λ y. Some y) b c x rest n (names_give b x is (syms c ++ rest) n (close_no_comma close rest)) close))

name_no_into : {a : Lexemes} {m : List ℕ} → IsName a m → (rest : List Sym) → same_tag (tag_at (syms a ++ rest)) t.Into ≡ false
unfolding same_tag
name_no_into is rest = name_other t.Into refl refl is rest

values_no_open : {a : Lexemes} → One t.Values a → (rest : List Sym) → same_tag (tag_at (syms a ++ rest)) t.Open ≡ false
unfolding same_tag
values_no_open k rest = one_other t.Open refl k rest

-- a statement of this form is read behind its first word
pub record Behind {A : Type 0} (word_ : List ℕ) (p : Parser A) (a : Lexemes) (x : A) (ok : Tag → Bool) : Type 0 where
  pub first : Lexemes
  pub others : Lexemes
  pub whole : a ≡ first ++ others
  pub is : Word word_ first
  pub gives : (rest : List Sym) (n : ℕ) → ok (tag_at rest) ≡ true → ParsesTo (p (at_ (syms others ++ rest) n)) x rest

insert_read : (b c e f k : Lexemes) (table : List ℕ) (columns : Option (List (List ℕ))) (rows : List (List Value)) → OptionalPart (Word (codes "INTO")) b → IsName c table → Optional (Enclosed AreNames) e columns → One t.Values f → Listed IsRow k rows
    → (rest : List Sym) (n : ℕ) → ends (tag_at rest) ≡ true → ParsesTo (r.insert (at_ (syms (b ++ (c ++ (e ++ (f ++ k)))) ++ rest) n)) (Insert table columns rows) rest
unfolding r.insert
insert_read b c e f k table columns rows into named columns_ values_ rows_ rest n fits =
    let last_ : List ℕ → Option (List (List ℕ)) → List (List Value) → Parser RowStmt = λ x y z. pure (Insert x y z) in
    let body = c ++ (e ++ (f ++ k)) in
    give_at (eat t.Into >> (name >>= (λ x. r.columns >>= (λ y. expect t.Values >> (r.rows >>= last_ x y))))) n (flow b body rest)
    (skips t.Into w.into_ (name >>= (λ x. r.columns >>= (λ y. expect t.Values >> (r.rows >>= last_ x y)))) (Insert table columns rows) (syms body ++ rest) rest n into
    (ap (λ z. same_tag (tag_at z) t.Into) (flow c (e ++ (f ++ k)) rest) ∙ name_no_into named (syms (e ++ (f ++ k)) ++ rest))
    (go name (λ x. r.columns >>= (λ y. expect t.Values >> (r.rows >>= last_ x y))) c (e ++ (f ++ k)) rest rest n (name_parses named (syms (e ++ (f ++ k)) ++ rest) n)
    (λ m. go r.columns (λ y. expect t.Values >> (r.rows >>= last_ table y)) e (f ++ k) rest rest m
    (columns_give columns_ (syms (f ++ k) ++ rest) m (ap (λ z. same_tag (tag_at z) t.Open) (flow f k rest) ∙ values_no_open values_ (syms k ++ rest)))
    (λ m. go (expect t.Values) (λ _. r.rows >>= last_ table columns) f k rest rest m (expects_parses values_ (syms k ++ rest) m)
    (λ m. then_parses (last_ table columns) (list_parses any r.row IsRow row_if refl refl row_none k rows rows_ rest m refl (ends_no_comma (tag_at rest) fits))
    (λ m. pure_parses (Insert table columns rows) rest m))))))

pub insert_parses : {a : Lexemes} {x : RowStmt} → IsInsert a x → Behind (codes "INSERT") r.insert a x ends
insert_parses (g.insert {a = a} {b = b} {c = c} {e = e} {f = f} {g = k} {table = table} {columns = columns} {rows = rows} first into named columns_ values_ rows_) =
    record { first = a; others = b ++ (c ++ (e ++ (f ++ k))); whole = refl; is = first; gives = λ rest n fits. insert_read b c e f k table columns rows into named columns_ (one w.values_ f values_) rows_ rest n fits }

-- ---- UPDATE and DELETE

equal_tokens : {a : Lexemes} → Sign (codes "=") a → One t.Equal a
equal_tokens {a} is = one w.equal_ a is

assignment_if : ReadsIf after_expr r.assignment IsAssignment
unfolding r.assignment
assignment_if _ _ (g.assignment {a = a} {b = b} {c = c} {n = v} {x = x} named equal is) rest n fits =
    go name (λ y. expect t.Equal >> (whole >>= (λ z. pure (y, z)))) a (b ++ c) rest rest n (name_parses named (syms (b ++ c) ++ rest) n)
    (λ m. go (expect t.Equal) (λ _. whole >>= (λ z. pure (v, z))) b c rest rest m (expects_parses (equal_tokens equal) (syms c ++ rest) m)
    (λ m. then_parses (λ z. pure (v, z)) (whole_if c x is rest m fits) (λ m. pure_parses (v, x) rest m)))

assignment_none : (n : ℕ) → r.assignment (at_ [] n) ≡ None
unfolding r.assignment name tag
assignment_none n = refl

filter_tag : {a : Lexemes} {x : Option Expr} → Optional IsCondition a x → (rest : List Sym) → after_filter (tag_at rest) ≡ true → (tag_at (syms a ++ rest) ≡ t.Where) ⊎ (tag_at (syms a ++ rest) ≡ tag_at rest)
filter_tag absent rest fits = inr refl
filter_tag (present (g.condition {a = a} {b = b} word_ is)) rest fits =
    let k = one w.where_ a word_ in
    inl (ap tag_at (flow a b rest) ∙ one_tag k (syms b ++ rest))

-- what is so of WHERE and of what follows
filter_by : (P : Tag → Type 0) → P t.Where → (h k : Tag) → P k → (h ≡ t.Where) ⊎ (h ≡ k) → P h
filter_by P where_ h k is (inl same) = subst P (sym same) where_
filter_by P where_ h k is (inr same) = subst P (sym same) is

filter_after_expr : {a : Lexemes} {x : Option Expr} → Optional IsCondition a x → (rest : List Sym) → after_filter (tag_at rest) ≡ true → after_expr (tag_at (syms a ++ rest)) ≡ true
filter_after_expr {a} is rest fits = filter_by (λ h. after_expr h ≡ true) refl (tag_at (syms a ++ rest)) (tag_at rest) (filter_expr (tag_at rest) fits) (filter_tag is rest fits)

where_no_comma : same_tag t.Where t.Comma ≡ false
unfolding same_tag
where_no_comma = refl

filter_other : {a : Lexemes} {x : Option Expr} → Optional IsCondition a x → (rest : List Sym) → after_filter (tag_at rest) ≡ true → same_tag (tag_at (syms a ++ rest)) t.Comma ≡ false
filter_other {a} is rest fits =
    filter_by (λ h. same_tag h t.Comma ≡ false) where_no_comma (tag_at (syms a ++ rest)) (tag_at rest) (filter_no_comma (tag_at rest) fits) (filter_tag is rest fits)

update_read : (b c e f : Lexemes) (table : List ℕ) (sets : List (List ℕ × Expr)) (cond_ : Option Expr) → IsName b table → One t.Set c → Listed IsAssignment e sets → Optional IsCondition f cond_
    → (rest : List Sym) (n : ℕ) → ends (tag_at rest) ≡ true → ParsesTo (r.update (at_ (syms (b ++ (c ++ (e ++ f))) ++ rest) n)) (Update table sets cond_) rest
unfolding r.update
update_read b c e f table sets cond_ named set_ sets_ filter_ rest n fits =
    let last_ : List ℕ → List (List ℕ × Expr) → Option Expr → Parser RowStmt = λ x y z. pure (Update x y z) in
    let free = ends_filter (tag_at rest) fits in
    go name (λ x. expect t.Set >> (r.assignments >>= (λ y. r.filter >>= last_ x y))) b (c ++ (e ++ f)) rest rest n (name_parses named (syms (c ++ (e ++ f)) ++ rest) n)
    (λ m. go (expect t.Set) (λ _. r.assignments >>= (λ y. r.filter >>= last_ table y)) c (e ++ f) rest rest m (expects_parses set_ (syms (e ++ f) ++ rest) m)
    (λ m. go r.assignments (λ y. r.filter >>= last_ table y) e f rest rest m
    (list_parses after_expr r.assignment IsAssignment assignment_if refl refl assignment_none e sets sets_ (syms f ++ rest) m (filter_after_expr filter_ rest free) (filter_other filter_ rest free))
    (λ m. then_parses (last_ table sets) (filter_parses filter_ rest m free) (λ m. pure_parses (Update table sets cond_) rest m))))

pub update_parses : {a : Lexemes} {x : RowStmt} → IsUpdate a x → Behind (codes "UPDATE") r.update a x ends
update_parses (g.update {a = a} {b = b} {c = c} {e = e} {f = f} {table = table} {sets = sets} {cond = cond_} first named set_ sets_ filter_) =
    record { first = a; others = b ++ (c ++ (e ++ f)); whole = refl; is = first; gives = λ rest n fits. update_read b c e f table sets cond_ named (one w.set_ c set_) sets_ filter_ rest n fits }

name_no_from : {a : Lexemes} {m : List ℕ} → IsName a m → (rest : List Sym) → same_tag (tag_at (syms a ++ rest)) t.From ≡ false
unfolding same_tag
name_no_from is rest = name_other t.From refl refl is rest

delete_read : (b c e : Lexemes) (table : List ℕ) (cond_ : Option Expr) → OptionalPart (Word (codes "FROM")) b → IsName c table → Optional IsCondition e cond_
    → (rest : List Sym) (n : ℕ) → ends (tag_at rest) ≡ true → ParsesTo (r.delete (at_ (syms (b ++ (c ++ e)) ++ rest) n)) (Delete table cond_) rest
unfolding r.delete
delete_read b c e table cond_ from_ named filter_ rest n fits =
    let last_ : List ℕ → Option Expr → Parser RowStmt = λ x y. pure (Delete x y) in
    give_at (eat t.From >> (name >>= (λ x. r.filter >>= last_ x))) n (flow b (c ++ e) rest)
    (skips t.From w.from_ (name >>= (λ x. r.filter >>= last_ x)) (Delete table cond_) (syms (c ++ e) ++ rest) rest n from_ (ap (λ z. same_tag (tag_at z) t.From) (flow c e rest) ∙ name_no_from named (syms e ++ rest))
    (go name (λ x. r.filter >>= last_ x) c e rest rest n (name_parses named (syms e ++ rest) n)
    (λ m. then_parses (last_ table) (filter_parses filter_ rest m (ends_filter (tag_at rest) fits)) (λ m. pure_parses (Delete table cond_) rest m))))

pub delete_parses : {a : Lexemes} {x : RowStmt} → IsDelete a x → Behind (codes "DELETE") r.delete a x ends
delete_parses (g.delete {a = a} {b = b} {c = c} {e = e} {table = table} {cond = cond_} first from_ named filter_) =
    record { first = a; others = b ++ (c ++ e); whole = refl; is = first; gives = λ rest n fits. delete_read b c e table cond_ from_ named filter_ rest n fits }

-- ---- SELECT

-- a word has the name that its spelling has
call_same : (known v : List ℕ) → same_word known v ≡ true → call_name v ≡ call_name known
unfolding call_name
call_same known v h = rw (lower_same known v h) refl

called : (c : CallName) → call_name (spelled_call c) ≡ Some c
unfolding call_name
called call.Count = refl
called call.Sum = refl
called call.Sys = refl
called call.Digest = refl
called call.Image = refl

-- a word that isn't reserved is a word to the parser
free_call : (c : CallName) → tag_of kind.Word (spelled_call c) ≡ t.Word
unfolding tag_of
free_call call.Count = refl
free_call call.Sum = refl
free_call call.Sys = refl
free_call call.Digest = refl
free_call call.Image = refl

call_by_word : (c : CallName) (v : List ℕ) (rest : List Sym) (n : ℕ) → call_name v ≡ Some c → call_word (at_ ((t.Word, v) ∷ rest) n) ≡ Some (c, at_ rest n)
unfolding call_word tag text next
call_by_word c v rest n h = ap (λ z. required z (at_ rest n)) h

pub call_token : (c : CallName) (a : Lexemes) → Word (spelled_call c) a → One t.Word a
call_token c _ (word v h) = record { word_ = v; is = ap (λ z. (z, v) ∷ []) (word_tag (spelled_call c) v h ∙ free_call c) }

pub call_parses : (c : CallName) {a : Lexemes} → Word (spelled_call c) a → (rest : List Sym) (n : ℕ) → ParsesTo (call_word (at_ (syms a ++ rest) n)) c rest
call_parses c (word v h) rest n =
    (n, ap (λ z. call_word (at_ ((z, v) ∷ rest) n)) (word_tag (spelled_call c) v h ∙ free_call c) ∙ call_by_word c v rest n (call_same (spelled_call c) v h ∙ called c))

agg_read : (k : CallName) (a b c e : Lexemes) (x : Agg) → Word (spelled_call k) a → One t.Open b → ((rest : List Sym) (n : ℕ) → ParsesTo (s.agg_by k (at_ (syms c ++ rest) n)) x rest) → One t.Close e
    → (rest : List Sym) (n : ℕ) → ParsesTo (s.agg (at_ (syms (a ++ (b ++ (c ++ e))) ++ rest) n)) x rest
unfolding s.agg
agg_read k a b c e x word_ open_ inner close_ rest n =
    go call_word (λ y. expect t.Open >> (s.agg_by y >>= (λ z. expect t.Close >> pure z))) a (b ++ (c ++ e)) rest rest n (call_parses k word_ (syms (b ++ (c ++ e)) ++ rest) n)
    (λ m. go (expect t.Open) (λ _. s.agg_by k >>= (λ z. expect t.Close >> pure z)) b (c ++ e) rest rest m (expects_parses open_ (syms (c ++ e) ++ rest) m)
    (λ m. closes (s.agg_by k) (λ z. z) c e x rest m (inner (syms e ++ rest) m) close_))

agg_if : ReadsIf any s.agg IsAggregate
agg_if _ _ (g.count {a = a} {b = b} {c = c} {e = e} word_ open_ star close_) rest n fits =
    agg_read call.Count a b c e aggregate.Count word_ (one w.open_ b open_) (λ rest_ m. then_parses (λ _. pure aggregate.Count) (expects_parses (one w.star_ c star) rest_ m) (λ k. pure_parses aggregate.Count rest_ k)) (one w.close_ e close_) rest n
agg_if _ _ (g.sum {a = a} {b = b} {c = c} {e = e} {n = v} word_ open_ named close_) rest n fits =
    agg_read call.Sum a b c e (aggregate.Sum v) word_ (one w.open_ b open_) (λ rest_ m. then_parses (λ z. pure (aggregate.Sum z)) (name_parses named rest_ m) (λ k. pure_parses (aggregate.Sum v) rest_ k)) (one w.close_ e close_) rest n

agg_none : (n : ℕ) → s.agg (at_ [] n) ≡ None
unfolding s.agg call_word tag
agg_none n = refl

-- an aggregate is called
one_called : (h : Tag) (k : List ℕ) (rest : List Sym) (n : ℕ) (v : List ℕ) → calls (at_ ((h, v) ∷ (t.Open, k) ∷ rest) n) ≡ true
unfolding calls
one_called h k rest n v = same_self t.Open

called_at : {h : Tag} (a b c : Lexemes) → One h a → One t.Open b → (rest : List Sym) (n : ℕ) → calls (at_ (syms (a ++ (b ++ c)) ++ rest) n) ≡ true
called_at {h} a b c k open_ rest n =
    ap (λ z. calls (at_ z n)) (flow a (b ++ c) rest ∙ ap (λ z. z ++ (syms (b ++ c) ++ rest)) k.is ∙ ap (λ z. (h, k.word_) ∷ z) (flow b c rest ∙ ap (λ z. z ++ (syms c ++ rest)) open_.is))
    ∙ one_called h open_.word_ (syms c ++ rest) n k.word_

agg_calls : {a : Lexemes} {x : Agg} → IsAggregate a x → (rest : List Sym) (n : ℕ) → calls (at_ (syms a ++ rest) n) ≡ true
agg_calls (g.count {a = a} {b = b} {c = c} {e = e} word_ open_ star close_) rest n = called_at a b (c ++ e) (call_token call.Count a word_) (one w.open_ b open_) rest n
agg_calls (g.sum {a = a} {b = b} {c = c} {e = e} word_ open_ named close_) rest n = called_at a b (c ++ e) (call_token call.Sum a word_) (one w.open_ b open_) rest n

aggs_call : {a : Lexemes} {xs : List Agg} → Listed IsAggregate a xs → (rest : List Sym) (n : ℕ) → calls (at_ (syms a ++ rest) n) ≡ true
aggs_call (last is) rest n = agg_calls is rest n
aggs_call (more {a = a} {b = b} {c = c} is comma others) rest n = ap (λ z. calls (at_ z n)) (flow a (b ++ c) rest) ∙ agg_calls is (syms (b ++ c) ++ rest) n

aggs_read : (a : Lexemes) (xs : List Agg) → Listed IsAggregate a xs → (rest : List Sym) (n : ℕ) → same_tag (tag_at rest) t.Comma ≡ false → ParsesTo (s.what (at_ (syms a ++ rest) n)) (Aggs xs) rest
unfolding s.what
aggs_read a xs is rest n other =
    let k = then_parses (λ z. pure (Aggs z)) (list_parses any s.agg IsAggregate agg_if refl refl agg_none a xs is rest n refl other) (λ m. pure_parses (Aggs xs) rest m) in
    (k.0, rw (aggs_call is rest n) k.1)

second_open : (h : Tag) (v : List ℕ) (rest : List Sym) (n : ℕ) → same_tag (tag_at rest) t.Open ≡ false → calls (at_ ((h, v) ∷ rest) n) ≡ false
unfolding calls
second_open h v [] n other = refl
second_open h v (z ∷ rest) n other = other

name_calls : {a : Lexemes} {m : List ℕ} → IsName a m → (rest : List Sym) (n : ℕ) → same_tag (tag_at rest) t.Open ≡ false → calls (at_ (syms a ++ rest) n) ≡ false
name_calls is rest n other =
    let k = name_token is in
    ap (λ z. calls (at_ (z ++ rest) n)) k.whole ∙ second_open k.tag_ k.word_ rest n other

comma_no_open : {a : Lexemes} → One t.Comma a → (rest : List Sym) → same_tag (tag_at (syms a ++ rest)) t.Open ≡ false
unfolding same_tag
comma_no_open k rest = one_other t.Open refl k rest

-- no '(' stands behind the first name
names_call : {a : Lexemes} {ns : List (List ℕ)} → AreNames a ns → (h : Tag) → same_tag h t.Open ≡ false → (rest : List Sym) → tag_at rest ≡ h → (n : ℕ) → calls (at_ (syms a ++ rest) n) ≡ false
names_call (last is) h other rest same n = name_calls is rest n (ap (λ z. same_tag z t.Open) same ∙ other)
names_call (more {a = a} {b = b} {c = c} is comma others) h other rest same n =
    let k = one w.comma_ b comma in
    ap (λ z. calls (at_ z n)) (flow a (b ++ c) rest) ∙ name_calls is (syms (b ++ c) ++ rest) n (ap (λ z. same_tag (tag_at z) t.Open) (flow b c rest) ∙ comma_no_open k (syms c ++ rest))

star_calls : {a : Lexemes} → One t.Star a → (rest : List Sym) (n : ℕ) → same_tag (tag_at rest) t.Open ≡ false → calls (at_ (syms a ++ rest) n) ≡ false
star_calls k rest n other = ap (λ z. calls (at_ (z ++ rest) n)) k.is ∙ second_open t.Star k.word_ rest n other

-- what is read where no aggregate is called
abbrev plain_what : Parser SelectList
plain_what = eat t.Star >>= (λ star. if star then pure All else Columns <$> r.names)

from_no_open : same_tag t.From t.Open ≡ false
unfolding same_tag
from_no_open = refl

from_no_comma : same_tag t.From t.Comma ≡ false
unfolding same_tag
from_no_comma = refl

name_no_star : {a : Lexemes} {m : List ℕ} → IsName a m → (rest : List Sym) → same_tag (tag_at (syms a ++ rest)) t.Star ≡ false
unfolding same_tag
name_no_star is rest = name_other t.Star refl refl is rest

names_no_star : {a : Lexemes} {ns : List (List ℕ)} → AreNames a ns → (rest : List Sym) → same_tag (tag_at (syms a ++ rest)) t.Star ≡ false
names_no_star (last is) rest = name_no_star is rest
names_no_star (more {a = a} {b = b} {c = c} is comma others) rest = ap (λ z. same_tag (tag_at z) t.Star) (flow a (b ++ c) rest) ∙ name_no_star is (syms (b ++ c) ++ rest)

plain_parses : {a : Lexemes} {x : SelectList} → IsShown a x → (rest : List Sym) (n : ℕ) → tag_at rest ≡ t.From → ParsesTo (plain_what (at_ (syms a ++ rest) n)) x rest
plain_parses (g.all {a = a} star) rest n same = either_one (pure All) (Columns <$> r.names) All rest rest n (one w.star_ a star) (pure_parses All rest n)
plain_parses (g.columns {a = a} {ns = ns} named) rest n same =
    either_none t.Star (pure All) (Columns <$> r.names) (Columns ns) (syms a ++ rest) rest n (names_no_star named rest)
    (then_parses (λ z. pure (Columns z)) (names_give a ns named rest n (ap (λ z. same_tag z t.Comma) same ∙ from_no_comma)) (λ m. pure_parses (Columns ns) rest m))

shown_calls : {a : Lexemes} {x : SelectList} → IsShown a x → (rest : List Sym) (n : ℕ) → tag_at rest ≡ t.From → calls (at_ (syms a ++ rest) n) ≡ false
shown_calls (g.all {a = a} star) rest n same = star_calls (one w.star_ a star) rest n (ap (λ z. same_tag z t.Open) same ∙ from_no_open)
shown_calls (g.columns named) rest n same = names_call named t.From from_no_open rest same n

shown_read : {a : Lexemes} {x : SelectList} → IsShown a x → (rest : List Sym) (n : ℕ) → tag_at rest ≡ t.From → ParsesTo (s.what (at_ (syms a ++ rest) n)) x rest
unfolding s.what
shown_read is rest n same = let k = plain_parses is rest n same in (k.0, rw (shown_calls is rest n same) k.1)

-- ---- ORDER BY

-- what may stand behind the direction of a sorting
abbrev after_sort : Tag → Bool
after_sort t.End = true
after_sort t.Semi = true
after_sort t.Comma = true
after_sort _ = false

sort_no_asc : (h : Tag) → after_sort h ≡ true → (same_tag h t.Asc ≡ false) × (same_tag h t.Desc ≡ false)
unfolding same_tag
sort_no_asc t.End e = (refl, refl)
sort_no_asc t.Semi e = (refl, refl)
sort_no_asc t.Comma e = (refl, refl)
sort_no_asc _ e = absurd (cc)

ends_sort : (h : Tag) → ends h ≡ true → after_sort h ≡ true
ends_sort t.End e = refl
ends_sort t.Semi e = refl
ends_sort _ e = absurd (cc)

desc_no_asc : same_tag t.Desc t.Asc ≡ false
unfolding same_tag
desc_no_asc = refl

desc_read : (rest : List Sym) (n : ℕ) → same_tag (tag_at rest) t.Desc ≡ false → ParsesTo (eat t.Desc (at_ rest n)) false rest
unfolding after
desc_read rest n other = (n, rw (unseen t.Desc rest n other) refl)

desc_seen : {a : Lexemes} → One t.Desc a → (rest : List Sym) (n : ℕ) → ParsesTo (eat t.Desc (at_ (syms a ++ rest) n)) true rest
desc_seen k rest n = (n, rw (sees_one k rest n, after_one k rest n) refl)

falls_give : {a : Lexemes} {x : Bool} → IsDirection a x → (rest : List Sym) (n : ℕ) → after_sort (tag_at rest) ≡ true → ParsesTo (s.falls (at_ (syms a ++ rest) n)) x rest
unfolding s.falls
falls_give g.unsaid rest n fits =
    let k = sort_no_asc (tag_at rest) fits in
    either_none t.Asc (pure false) (eat t.Desc) false rest rest n k.0 (desc_read rest n k.1)
falls_give (g.rises {a = a} word_) rest n fits = either_one (pure false) (eat t.Desc) false rest rest n (one w.asc_ a word_) (pure_parses false rest n)
falls_give (g.falls {a = a} word_) rest n fits =
    let k = one w.desc_ a word_ in
    either_none t.Asc (pure false) (eat t.Desc) true (syms a ++ rest) rest n (one_other t.Asc desc_no_asc k rest) (desc_seen k rest n)

sort_if : ReadsIf after_sort s.sort IsSorting
unfolding s.sort
sort_if _ _ (g.sorting {a = a} {b = b} {n = v} {down = down} named falls_) rest n fits =
    go name (λ y. s.falls >>= (λ z. pure (y, z))) a b rest rest n (name_parses named (syms b ++ rest) n)
    (λ m. then_parses (λ z. pure (v, z)) (falls_give falls_ rest m fits) (λ m. pure_parses (v, down) rest m))

sort_none : (n : ℕ) → s.sort (at_ [] n) ≡ None
unfolding s.sort name tag
sort_none n = refl

order_give : {a : Lexemes} {x : List (List ℕ × Bool)} → IsOrder a x → (rest : List Sym) (n : ℕ) → ends (tag_at rest) ≡ true → ParsesTo (s.order (at_ (syms a ++ rest) n)) x rest
unfolding s.order
order_give g.unordered rest n fits = either_none t.Order (expect t.By >> s.sorts) (pure []) [] rest rest n (ends_no_order (tag_at rest) fits) (pure_parses [] rest n)
order_give (g.ordered {a = a} {b = b} {c = c} {by = by} word_ by_ sorted) rest n fits =
    give_at (eat t.Order >>= (λ z. if z then expect t.By >> s.sorts else pure [])) n (flow a (b ++ c) rest)
    (either_one (expect t.By >> s.sorts) (pure []) by (syms (b ++ c) ++ rest) rest n (one w.order_ a word_)
    (go (expect t.By) (λ _. s.sorts) b c rest rest n (expects_parses (one w.by_ b by_) (syms c ++ rest) n)
    (λ m. list_parses after_sort s.sort IsSorting sort_if refl refl sort_none c by sorted rest m (ends_sort (tag_at rest) fits) (ends_no_comma (tag_at rest) fits))))

order_filter : {a : Lexemes} {x : List (List ℕ × Bool)} → IsOrder a x → (rest : List Sym) → ends (tag_at rest) ≡ true → after_filter (tag_at (syms a ++ rest)) ≡ true
order_filter g.unordered rest fits = ends_filter (tag_at rest) fits
order_filter (g.ordered {a = a} {b = b} {c = c} word_ by_ sorted) rest fits = ap (λ z. after_filter (tag_at z)) (flow a (b ++ c) rest) ∙ ap after_filter (one_tag (one w.order_ a word_) (syms (b ++ c) ++ rest))

shown_order_of : {a b : Lexemes} {x : SelectList} {by : List (List ℕ × Bool)} → IsShown a x → IsOrder b by → (rest : List Sym) (n : ℕ) → ends (tag_at rest) ≡ true → ParsesTo (s.order_of x (at_ (syms b ++ rest) n)) by rest
shown_order_of (g.all star) is rest n fits = order_give is rest n fits
shown_order_of (g.columns named) is rest n fits = order_give is rest n fits

select_read : (b c e f k : Lexemes) (x : SelectList) (table : List ℕ) (cond_ : Option Expr) (by : List (List ℕ × Bool)) → ((rest : List Sym) (n : ℕ) → tag_at rest ≡ t.From → ParsesTo (s.what (at_ (syms b ++ rest) n)) x rest) → One t.From c → IsName e table
    → Optional IsCondition f cond_ → ((rest : List Sym) → ends (tag_at rest) ≡ true → after_filter (tag_at (syms k ++ rest)) ≡ true)
    → ((rest : List Sym) (n : ℕ) → ends (tag_at rest) ≡ true → ParsesTo (s.order_of x (at_ (syms k ++ rest) n)) by rest)
    → (rest : List Sym) (n : ℕ) → ends (tag_at rest) ≡ true → ParsesTo (s.select (at_ (syms (b ++ (c ++ (e ++ (f ++ k)))) ++ rest) n)) (record { table = table; what = x; cond = cond_; order = by }) rest
unfolding s.select
select_read b c e f k x table cond_ by what_ from_ named filter_ free order_ rest n fits =
    let last_ : SelectList → List ℕ → Option Expr → List (List ℕ × Bool) → Parser Select = λ u y z v. pure (record { table = y; what = u; cond = z; order = v }) in
    go s.what (λ u. expect t.From >> (name >>= (λ y. r.filter >>= (λ z. s.order_of u >>= last_ u y z)))) b (c ++ (e ++ (f ++ k))) rest rest n
    (what_ (syms (c ++ (e ++ (f ++ k))) ++ rest) n (ap tag_at (flow c (e ++ (f ++ k)) rest) ∙ one_tag from_ (syms (e ++ (f ++ k)) ++ rest)))
    (λ m. go (expect t.From) (λ _. name >>= (λ y. r.filter >>= (λ z. s.order_of x >>= last_ x y z))) c (e ++ (f ++ k)) rest rest m (expects_parses from_ (syms (e ++ (f ++ k)) ++ rest) m)
    (λ m. go name (λ y. r.filter >>= (λ z. s.order_of x >>= last_ x y z)) e (f ++ k) rest rest m (name_parses named (syms (f ++ k) ++ rest) m)
    (λ m. go r.filter (λ z. s.order_of x >>= last_ x table z) f k rest rest m (filter_parses filter_ (syms k ++ rest) m (free rest fits))
    (λ m. then_parses (last_ x table cond_) (order_ rest m fits) (λ m. pure_parses (record { table = table; what = x; cond = cond_; order = by }) rest m)))))

select_none : (b c e f : Lexemes) (xs : List Agg) (table : List ℕ) (cond_ : Option Expr) → Listed IsAggregate b xs → One t.From c → IsName e table → Optional IsCondition f cond_ → (rest : List Sym) (n : ℕ) → ends (tag_at rest) ≡ true
    → ParsesTo (s.select (at_ (syms (b ++ (c ++ (e ++ f))) ++ rest) n)) (record { table = table; what = Aggs xs; cond = cond_; order = [] }) rest
select_none b c e f xs table cond_ all from_ named filter_ rest n fits =
    give_at s.select n (ap (λ z. syms (b ++ (c ++ (e ++ z))) ++ rest) (sym (append-nil f)))
    (select_read b c e f [] (Aggs xs) table cond_ [] (λ rest_ m same. aggs_read b xs all rest_ m (ap (λ z. same_tag z t.Comma) same ∙ from_no_comma)) from_ named filter_ (λ rest_ k. ends_filter (tag_at rest_) k) (λ rest_ m k. pure_parses [] rest_ m) rest n fits)

pub select_parses : {a : Lexemes} {x : Select} → IsSelect a x → Behind (codes "SELECT") s.select a x ends
select_parses (g.rows {a = a} {b = b} {c = c} {e = e} {f = f} {g = k} {what = x} {table = table} {cond = cond_} {by = by} first shown from_ named filter_ order_) =
    record {
      first = a;
      others = b ++ (c ++ (e ++ (f ++ k)));
      whole = refl;
      is = first;
      gives = λ rest n fits. select_read b c e f k x table cond_ by (λ rest_ m same. shown_read shown rest_ m same) (one w.from_ c from_) named filter_ (λ rest_ h. order_filter order_ rest_ h) (λ rest_ m h. shown_order_of shown order_ rest_ m h) rest n fits;
    }
select_parses (g.aggregates {a = a} {b = b} {c = c} {e = e} {f = f} {all = xs} {table = table} {cond = cond_} first all from_ named filter_) =
    record { first = a; others = b ++ (c ++ (e ++ f)); whole = refl; is = first; gives = λ rest n fits. select_none b c e f xs table cond_ all (one w.from_ c from_) named filter_ rest n fits }
