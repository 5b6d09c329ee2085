-- CREATE TABLE and CREATE INDEX of the grammar are read.
use Rattle.std.proofs.Common.{◌≡◌, ◌∙◌, ◌<◌, ◌≤◌, ℕ, zero, suc, Bool, true, false, if◌then◌else◌, List, [], ◌∷◌, ◌++◌, map, length, nat_le, Option, Some, None, refl, ap, sym, codes, ◌⊎◌, inl, inr, arith, append_assoc, length-append, drop}
use Rattle.std.proofs.lemmas.List.{append-nil}
use Rattle.std.proofs.lemmas.Bool.Decides.{nat_tests}
use Rattle.sql_lex.specs.declared.token.Kind.TheVariants as kind
use Rattle.sql_value.specs.Literal.{digits_after}
use Rattle.sql_value.specs.declared.sql_type.SqlType.{SqlType}
use Rattle.sql_value.specs.declared.sql_type.SqlType.TheVariants as sql
use Rattle.spec_grammar.specs.Tokens.{Lexemes, Word, IsName, Known, named, same_word, OptionalPart, Listed, last, more, Enclosed, enclosed}
use Rattle.spec_grammar.specs.Rows.{AreNames}
use Rattle.spec_grammar.specs.Tables as g
use Rattle.spec_grammar.specs.Tables.{IsDigits, digits, IsPrecision, IsType, IsNullability, IsKeyMark, IsItem, keys_of, columns_of, one_or_none}
use Rattle.spec_syntax.specs.declared.tag.Tag.{Tag}
use Rattle.spec_syntax.specs.declared.tag.Tag.TheVariants as t
use Rattle.spec_syntax.specs.declared.word.TypeName.{TypeName}
use Rattle.spec_syntax.specs.declared.word.TypeName.TheVariants as type_name
use Rattle.spec_syntax.specs.declared.word.OptionName.{OptionName}
use Rattle.spec_syntax.specs.declared.word.OptionName.TheVariants as option
use Rattle.spec_syntax.specs.declared.column.Column.{Column}
use Rattle.spec_syntax.specs.declared.column.Draft.{Draft}
use Rattle.spec_syntax.specs.declared.column.Item.{Item}
use Rattle.spec_syntax.specs.declared.column.Item.TheVariants as item
use Rattle.spec_syntax.specs.Tags.{same_tag, tag_of}
use Rattle.spec_syntax.specs.Input.{Sym, Input, Parser, and_then, ◌>>=◌, ◌>>◌, pure, refuse, tag, tag_at, text, next, eat, expect, required, fold, fold_from, tokens_left}
use Rattle.spec_syntax.specs.Words.{type_word, option_word, type_name as name_of_type, option_name}
use Rattle.spec_syntax.specs.Expr.{name}
use Rattle.spec_syntax.specs.Row as r
use Rattle.spec_syntax.specs.Table as b
use Rattle.spec_syntax.specs.Ledger as p
use Rattle.law_printing.proofs.Repeats.{at_}
use Rattle.law_syntax.proofs.Terminals as w
use Rattle.law_syntax.proofs.Terminals.{lower_same}
use Rattle.law_syntax.proofs.TableSound.{spelled_type, spelled_option, defined_, nullable_same}
use Rattle.law_syntax.proofs.ExprComplete.{syms, syms_join, One, one, name_token}
use Rattle.law_syntax.proofs.ParsesTo.{ParsesTo, then_parses, flow, give_at, go, pure_parses, expects_parses, either_one, either_none, skips, name_parses, one_other, one_tag, enclosed_parses, ReadsIf, not_empty}
use Rattle.law_syntax.proofs.RowComplete.{name_list_parses}

-- ---- words that aren't reserved

type_same : (known v : List ℕ) → same_word known v ≡ true → name_of_type v ≡ name_of_type known
unfolding name_of_type
type_same known v h = rw (lower_same known v h) refl

type_named : (c : TypeName) → name_of_type (spelled_type c) ≡ Some c
unfolding name_of_type
type_named type_name.Bit = refl
type_named type_name.Int = refl
type_named type_name.BigInt = refl
type_named type_name.Date = refl
type_named type_name.Decimal = refl
type_named type_name.NVarChar = refl
type_named type_name.VarBinary = refl

option_same : (known v : List ℕ) → same_word known v ≡ true → option_name v ≡ option_name known
unfolding option_name
option_same known v h = rw (lower_same known v h) refl

option_named : (c : OptionName) → option_name (spelled_option c) ≡ Some c
unfolding option_name
option_named option.Ledger = refl
option_named option.SystemVersioning = refl
option_named option.HistoryTable = refl
option_named option.LedgerView = refl
option_named option.AppendOnly = refl

pub required_parses : {A : Type 0} (o : Option A) (x : A) (rest : List Sym) (n : ℕ) → o ≡ Some x → ParsesTo (required o (at_ rest n)) x rest
required_parses o x rest n h = (n, ap (λ z. required z (at_ rest n)) h)

type_word_parses : (c : TypeName) {a : Lexemes} → Known (spelled_type c) a → (rest : List Sym) (n : ℕ) → ParsesTo (type_word (at_ (syms a ++ rest) n)) c rest
unfolding type_word
type_word_parses c (named {n = v} is h) rest n =
    then_parses (λ z. required (name_of_type z)) (name_parses is rest n) (λ m. required_parses (name_of_type v) c rest m (type_same (spelled_type c) v h ∙ type_named c))

pub option_word_parses : (c : OptionName) {a : Lexemes} → Known (spelled_option c) a → (rest : List Sym) (n : ℕ) → ParsesTo (option_word (at_ (syms a ++ rest) n)) c rest
unfolding option_word
option_word_parses c (named {n = v} is h) rest n =
    then_parses (λ z. required (option_name z)) (name_parses is rest n) (λ m. required_parses (option_name v) c rest m (option_same (spelled_option c) v h ∙ option_named c))

same_option_self : (c : OptionName) → p.same_option c c ≡ true
unfolding p.same_option
same_option_self option.Ledger = refl
same_option_self option.SystemVersioning = refl
same_option_self option.HistoryTable = refl
same_option_self option.LedgerView = refl
same_option_self option.AppendOnly = refl

pub the_parses : (c : OptionName) {a : Lexemes} → Known (spelled_option c) a → (rest : List Sym) (n : ℕ) → ParsesTo (p.the_option c (at_ (syms a ++ rest) n)) tt rest
unfolding p.the_option
the_parses c is rest n =
    then_parses (λ z. if p.same_option z c then pure tt else refuse) (option_word_parses c is rest n) (λ m. (m, ap (λ z. (if z then pure tt else refuse) (at_ rest m)) (same_option_self c)))

-- ---- types

few_digits : (v : List ℕ) (n : ℕ) → length v ≤ 9 → digits_after 0 v ≡ Some n → b.digits_of v ≡ Some n
unfolding b.digits_of
few_digits v n few h = let e : nat_le (length v) 9 ≡ true = grind (arith, nat_tests) in rw e h

digits_read : (v : List ℕ) (x : ℕ) (rest : List Sym) (n : ℕ) → b.digits_of v ≡ Some x → b.digits (at_ ((t.Number, v) ∷ rest) n) ≡ Some (x, at_ rest n)
unfolding b.digits tag text next
digits_read v x rest n h = ap (λ z. required z (at_ rest n)) h

number_syms : (v : List ℕ) (a : Lexemes) → syms ((kind.Number, v) ∷ a) ≡ (t.Number, v) ∷ syms a
unfolding tag_of
number_syms v a = refl

digits_give : {a : Lexemes} {x : ℕ} → IsDigits a x → (rest : List Sym) (n : ℕ) → ParsesTo (b.digits (at_ (syms a ++ rest) n)) x rest
digits_give (digits v {n = x} few h) rest n = (n, ap (λ z. b.digits (at_ (z ++ rest) n)) (number_syms v []) ∙ digits_read v x rest n (few_digits v x few h))

size_parses : {a : Lexemes} {x : ℕ} → Enclosed IsDigits a x → (rest : List Sym) (n : ℕ) → ParsesTo (b.size (at_ (syms a ++ rest) n)) x rest
unfolding b.size
size_parses {x = x} is rest n = enclosed_parses b.digits IsDigits x (λ e f ds close rest_ m. digits_give ds (syms f ++ rest_) m) is rest n

pub close_tag : same_tag t.Close t.Comma ≡ false
unfolding same_tag
close_tag = refl

-- digits and scale, before ')'
precision_parses : {a : Lexemes} {x s : ℕ} → IsPrecision a (x, s) → (c : Lexemes) → One t.Close c → (rest : List Sym) (n : ℕ)
    → ParsesTo ((b.digits >>= (λ y. b.scale >>= (λ z. expect t.Close >> pure (sql.Decimal y z)))) (at_ (syms a ++ (syms c ++ rest)) n)) (sql.Decimal x s) rest
unfolding b.scale
precision_parses (g.whole {p = x} ds) c close rest n =
    then_parses (λ y. b.scale >>= (λ z. expect t.Close >> pure (sql.Decimal y z))) (digits_give ds (syms c ++ rest) n)
    (λ m. then_parses (λ z. expect t.Close >> pure (sql.Decimal x z)) (either_none t.Comma b.digits (pure 0) 0 (syms c ++ rest) (syms c ++ rest) m (one_other t.Comma close_tag close rest) (pure_parses 0 (syms c ++ rest) m))
    (λ m. then_parses (λ _. pure (sql.Decimal x 0)) (expects_parses close rest m) (λ m. pure_parses (sql.Decimal x 0) rest m)))
precision_parses (g.scaled {a = a} {b = e} {c = f} {p = x} {s = s} ds comma others) c close rest n =
    go b.digits (λ y. b.scale >>= (λ z. expect t.Close >> pure (sql.Decimal y z))) a (e ++ f) (syms c ++ rest) rest n (digits_give ds (syms (e ++ f) ++ (syms c ++ rest)) n)
    (λ m. then_parses (λ z. expect t.Close >> pure (sql.Decimal x z))
    (give_at b.scale m (flow e f (syms c ++ rest)) (either_one b.digits (pure 0) s (syms f ++ (syms c ++ rest)) (syms c ++ rest) m (one w.comma_ e comma) (digits_give others (syms c ++ rest) m)))
    (λ m. then_parses (λ _. pure (sql.Decimal x s)) (expects_parses close rest m) (λ m. pure_parses (sql.Decimal x s) rest m)))

-- what may stand behind a type
abbrev pub after_type : Tag → Bool
after_type t.Null = true
after_type t.Not = true
after_type t.Primary = true
after_type t.Comma = true
after_type t.Close = true
after_type t.End = true
after_type t.Semi = true
after_type _ = false

type_no_open : (h : Tag) → after_type h ≡ true → same_tag h t.Open ≡ false
unfolding same_tag
type_no_open t.Null e = refl
type_no_open t.Not e = refl
type_no_open t.Primary e = refl
type_no_open t.Comma e = refl
type_no_open t.Close e = refl
type_no_open t.End e = refl
type_no_open t.Semi e = refl
type_no_open _ e = absurd (cc)

plain_type : (c : TypeName) (ty : SqlType) {a : Lexemes} → Known (spelled_type c) a → (rest : List Sym) → ((m : ℕ) → ParsesTo (b.type_by c (at_ rest m)) ty rest) → (n : ℕ) → ParsesTo (b.sql_type (at_ (syms a ++ rest) n)) ty rest
unfolding b.sql_type
plain_type c ty is rest more_ n = then_parses b.type_by (type_word_parses c is rest n) more_

sized_type : (c : TypeName) (ty : SqlType) (a e : Lexemes) → Known (spelled_type c) a → (rest : List Sym) → ((m : ℕ) → ParsesTo (b.type_by c (at_ (syms e ++ rest) m)) ty rest) → (n : ℕ) → ParsesTo (b.sql_type (at_ (syms (a ++ e) ++ rest) n)) ty rest
unfolding b.sql_type
sized_type c ty a e is rest more_ n = go type_word b.type_by a e rest rest n (type_word_parses c is (syms e ++ rest) n) more_

abbrev open_decimal : Parser SqlType
open_decimal = b.digits >>= (λ y. b.scale >>= (λ z. expect t.Close >> pure (sql.Decimal y z)))

decimal_none : (rest : List Sym) (m : ℕ) → after_type (tag_at rest) ≡ true → ParsesTo (b.decimal (at_ rest m)) (sql.Decimal 18 0) rest
unfolding b.decimal
decimal_none rest m fits = either_none t.Open open_decimal (pure (sql.Decimal 18 0)) (sql.Decimal 18 0) rest rest m (type_no_open (tag_at rest) fits) (pure_parses (sql.Decimal 18 0) rest m)

decimal_some : {e : Lexemes} {x s : ℕ} → Enclosed IsPrecision e (x, s) → (rest : List Sym) (m : ℕ) → ParsesTo (b.decimal (at_ (syms e ++ rest) m)) (sql.Decimal x s) rest
unfolding b.decimal
decimal_some {x = x} {s = s} (enclosed {a = a} {b = e} {c = f} open_ is close_) rest m =
    give_at (eat t.Open >>= (λ z. if z then open_decimal else pure (sql.Decimal 18 0))) m (flow a (e ++ f) rest)
    (either_one open_decimal (pure (sql.Decimal 18 0)) (sql.Decimal x s) (syms (e ++ f) ++ rest) rest m (one w.open_ a open_)
    (give_at open_decimal m (flow e f rest) (precision_parses is f (one w.close_ f close_) rest m)))

pub type_if : ReadsIf after_type b.sql_type IsType
type_if _ _ (g.bit is) rest n fits = plain_type type_name.Bit sql.Bit is rest (λ m. pure_parses sql.Bit rest m) n
type_if _ _ (g.int is) rest n fits = plain_type type_name.Int sql.Int is rest (λ m. pure_parses sql.Int rest m) n
type_if _ _ (g.bigint is) rest n fits = plain_type type_name.BigInt sql.BigInt is rest (λ m. pure_parses sql.BigInt rest m) n
type_if _ _ (g.date is) rest n fits = plain_type type_name.Date sql.Date is rest (λ m. pure_parses sql.Date rest m) n
type_if _ _ (g.decimal is) rest n fits = plain_type type_name.Decimal (sql.Decimal 18 0) is rest (λ m. decimal_none rest m fits) n
type_if _ _ (g.decimal_of {a = a} {b = e} {p = x} {s = s} is size_) rest n fits = sized_type type_name.Decimal (sql.Decimal x s) a e is rest (λ m. decimal_some size_ rest m) n
type_if _ _ (g.nvarchar {a = a} {b = e} {n = x} is size_) rest n fits =
    sized_type type_name.NVarChar (sql.NVarChar x) a e is rest (λ m. then_parses (λ z. pure (sql.NVarChar z)) (size_parses size_ rest m) (λ m. pure_parses (sql.NVarChar x) rest m)) n
type_if _ _ (g.varbinary {a = a} {b = e} {n = x} is size_) rest n fits =
    sized_type type_name.VarBinary (sql.VarBinary x) a e is rest (λ m. then_parses (λ z. pure (sql.VarBinary z)) (size_parses size_ rest m) (λ m. pure_parses (sql.VarBinary x) rest m)) n

-- ---- items

-- what may stand behind NULL, and behind an item
abbrev after_null : Tag → Bool
after_null t.Primary = true
after_null t.Comma = true
after_null t.Close = true
after_null t.End = true
after_null _ = false

abbrev after_item : Tag → Bool
after_item t.Comma = true
after_item t.Close = true
after_item t.End = true
after_item _ = false

nothing_said : (h : Tag) → after_null h ≡ true → (i : Input) → b.nullable_by h i ≡ Some (None, i)
nothing_said t.Primary e i = refl
nothing_said t.Comma e i = refl
nothing_said t.Close e i = refl
nothing_said t.End e i = refl
nothing_said _ e i = absurd (cc)

null_read : (v : List ℕ) (rest : List Sym) (n : ℕ) → b.nullable (at_ ((t.Null, v) ∷ rest) n) ≡ Some (Some true, at_ rest n)
unfolding b.nullable tag next
null_read v rest n = refl

not_read : (v : List ℕ) (rest : List Sym) (n : ℕ) → b.nullable (at_ ((t.Not, v) ∷ rest) n) ≡ and_then (expect t.Null (at_ rest n)) (λ _. pure (Some false))
unfolding b.nullable tag next
not_read v rest n = refl

unsaid_read : (rest : List Sym) (n : ℕ) → after_null (tag_at rest) ≡ true → b.nullable (at_ rest n) ≡ Some (None, at_ rest n)
unfolding b.nullable tag
unsaid_read rest n fits = nothing_said (tag_at rest) fits (at_ rest n)

nullable_parses : {a : Lexemes} {x : Option Bool} → IsNullability a x → (rest : List Sym) (n : ℕ) → after_null (tag_at rest) ≡ true → ParsesTo (b.nullable (at_ (syms a ++ rest) n)) x rest
nullable_parses g.unsaid rest n fits = (n, unsaid_read rest n fits)
nullable_parses (g.null {a = a} is) rest n fits =
    let k = one w.null_ a is in
    (n, ap (λ z. b.nullable (at_ (z ++ rest) n)) k.is ∙ null_read k.word_ rest n)
nullable_parses (g.not_null {a = a} {b = e} not_ is) rest n fits =
    let k = one w.not_ a not_ in
    let f = expects_parses (one w.null_ e is) rest n in
    (f.0, ap (λ z. b.nullable (at_ z n)) (flow a e rest ∙ ap (λ z. z ++ (syms e ++ rest)) k.is) ∙ not_read k.word_ (syms e ++ rest) n ∙ ap (λ q. and_then q (λ _. pure (Some false))) f.1)

-- what is expected behind PRIMARY
item_no_primary : (h : Tag) → after_item h ≡ true → same_tag h t.Primary ≡ false
unfolding same_tag
item_no_primary t.Comma e = refl
item_no_primary t.Close e = refl
item_no_primary t.End e = refl
item_no_primary _ e = absurd (cc)

item_no_clustered : (h : Tag) → after_item h ≡ true → same_tag h t.Clustered ≡ false
unfolding same_tag
item_no_clustered t.Comma e = refl
item_no_clustered t.Close e = refl
item_no_clustered t.End e = refl
item_no_clustered _ e = absurd (cc)

abbrev marked_key : Parser Bool
marked_key = expect t.Key >> (eat t.Clustered >> pure true)

mark_parses : {a : Lexemes} {x : Bool} → IsKeyMark a x → (rest : List Sym) (n : ℕ) → after_item (tag_at rest) ≡ true → ParsesTo (b.is_key (at_ (syms a ++ rest) n)) x rest
unfolding b.is_key
mark_parses g.unmarked rest n fits = either_none t.Primary marked_key (pure false) false rest rest n (item_no_primary (tag_at rest) fits) (pure_parses false rest n)
mark_parses (g.marked (g.primary {a = a} {b = e} {c = f} primary_ key_ clustered_)) rest n fits =
    give_at (eat t.Primary >>= (λ z. if z then marked_key else pure false)) n (flow a (e ++ f) rest)
    (either_one marked_key (pure false) true (syms (e ++ f) ++ rest) rest n (one w.primary_ a primary_)
    (go (expect t.Key) (λ _. eat t.Clustered >> pure true) e f rest rest n (expects_parses (one w.key_ e key_) (syms f ++ rest) n)
    (λ m. skips t.Clustered w.clustered_ (pure true) true rest rest m clustered_ (item_no_clustered (tag_at rest) fits) (pure_parses true rest m))))

item_null : (h : Tag) → after_item h ≡ true → after_null h ≡ true
item_null t.Comma e = refl
item_null t.Close e = refl
item_null t.End e = refl
item_null _ e = absurd (cc)

mark_tag : {a : Lexemes} {x : Bool} → IsKeyMark a x → (rest : List Sym) → after_item (tag_at rest) ≡ true → after_null (tag_at (syms a ++ rest)) ≡ true
mark_tag g.unmarked rest fits = item_null (tag_at rest) fits
mark_tag (g.marked (g.primary {a = a} {b = e} {c = f} primary_ key_ clustered_)) rest fits = ap (λ z. after_null (tag_at z)) (flow a (e ++ f) rest) ∙ ap after_null (one_tag (one w.primary_ a primary_) (syms (e ++ f) ++ rest))

null_type : (h : Tag) → after_null h ≡ true → after_type h ≡ true
null_type t.Primary e = refl
null_type t.Comma e = refl
null_type t.Close e = refl
null_type t.End e = refl
null_type _ e = absurd (cc)

nullability_tag : {a : Lexemes} {x : Option Bool} → IsNullability a x → (rest : List Sym) → after_null (tag_at rest) ≡ true → after_type (tag_at (syms a ++ rest)) ≡ true
nullability_tag g.unsaid rest fits = null_type (tag_at rest) fits
nullability_tag (g.null {a = a} is) rest fits = ap after_type (one_tag (one w.null_ a is) rest)
nullability_tag (g.not_null {a = a} {b = e} not_ is) rest fits = ap (λ z. after_type (tag_at z)) (flow a e rest) ∙ ap after_type (one_tag (one w.not_ a not_) (syms e ++ rest))

-- an item as the parser has it
abbrev back : g.Item → Item
back (g.Column n ty said marked) = item.Column (record { name = n; ty = ty; nullable = said }) marked
back (g.Key ns) = item.Key ns

column_read : (a e f k : Lexemes) (v : List ℕ) (ty : SqlType) (said : Option Bool) (marked : Bool) → IsName a v → IsType e ty → IsNullability f said → IsKeyMark k marked → (rest : List Sym) (n : ℕ) → after_item (tag_at rest) ≡ true
    → ParsesTo (b.column (at_ (syms (a ++ (e ++ (f ++ k))) ++ rest) n)) (back (g.Column v ty said marked)) rest
unfolding b.column
column_read a e f k v ty said marked named_ type_ null_ mark rest n fits =
    let last_ : List ℕ → SqlType → Option Bool → Bool → Parser Item = λ x y z u. pure (item.Column (record { name = x; ty = y; nullable = z }) u) in
    let free = mark_tag mark rest fits in
    let type_free = ap (λ z. after_type (tag_at z)) (flow f k rest) ∙ nullability_tag null_ (syms k ++ rest) free in
    go name (λ x. b.sql_type >>= (λ y. b.nullable >>= (λ z. b.is_key >>= last_ x y z))) a (e ++ (f ++ k)) rest rest n (name_parses named_ (syms (e ++ (f ++ k)) ++ rest) n)
    (λ m. go b.sql_type (λ y. b.nullable >>= (λ z. b.is_key >>= last_ v y z)) e (f ++ k) rest rest m (type_if e ty type_ (syms (f ++ k) ++ rest) m type_free)
    (λ m. go b.nullable (λ z. b.is_key >>= last_ v ty z) f k rest rest m (nullable_parses null_ (syms k ++ rest) m free)
    (λ m. then_parses (last_ v ty said) (mark_parses mark rest m fits) (λ m. pure_parses (back (g.Column v ty said marked)) rest m))))

open_no_clustered : {a : Lexemes} → One t.Open a → (rest : List Sym) → same_tag (tag_at (syms a ++ rest)) t.Clustered ≡ false
unfolding same_tag
open_no_clustered k rest = one_other t.Clustered refl k rest

names_no_clustered : {a : Lexemes} {ns : List (List ℕ)} → Enclosed AreNames a ns → (rest : List Sym) → same_tag (tag_at (syms a ++ rest)) t.Clustered ≡ false
names_no_clustered (enclosed {a = a} {b = e} {c = f} open_ is close_) rest =
    ap (λ z. same_tag (tag_at z) t.Clustered) (flow a (e ++ f) rest) ∙ open_no_clustered (one w.open_ a open_) (syms (e ++ f) ++ rest)

key_read : (e f k : Lexemes) (ns : List (List ℕ)) → One t.Key e → OptionalPart (Word (codes "CLUSTERED")) f → Enclosed AreNames k ns → (rest : List Sym) (n : ℕ) → ParsesTo (b.key (at_ (syms (e ++ (f ++ k)) ++ rest) n)) (item.Key ns) rest
unfolding b.key
key_read e f k ns key_ clustered_ names_ rest n =
    let last_ : List (List ℕ) → Parser Item = λ x. pure (item.Key x) in
    go (expect t.Key) (λ _. eat t.Clustered >> (r.name_list >>= last_)) e (f ++ k) rest rest n (expects_parses key_ (syms (f ++ k) ++ rest) n)
    (λ m. give_at (eat t.Clustered >> (r.name_list >>= last_)) m (flow f k rest)
    (skips t.Clustered w.clustered_ (r.name_list >>= last_) (item.Key ns) (syms k ++ rest) rest m clustered_ (names_no_clustered names_ rest)
    (then_parses last_ (name_list_parses names_ rest m) (λ m. pure_parses (item.Key ns) rest m))))

primary_item : (v : List ℕ) (rest : List Sym) (n : ℕ) → b.one_item (at_ ((t.Primary, v) ∷ rest) n) ≡ b.key (at_ rest n)
unfolding b.one_item tag next
primary_item v rest n = refl

column_item : (h : Tag) (v : List ℕ) (rest : List Sym) (n : ℕ) → (h ≡ t.Word) ⊎ (h ≡ t.Bracketed) → b.one_item (at_ ((h, v) ∷ rest) n) ≡ b.column (at_ ((h, v) ∷ rest) n)
unfolding b.one_item tag
column_item h v rest n (inl is) = ap (λ z. b.item_by z (at_ ((h, v) ∷ rest) n)) is
column_item h v rest n (inr is) = ap (λ z. b.item_by z (at_ ((h, v) ∷ rest) n)) is

one_item_if : (a : Lexemes) (x : g.Item) → IsItem a x → (rest : List Sym) (n : ℕ) → after_item (tag_at rest) ≡ true → ParsesTo (b.one_item (at_ (syms a ++ rest) n)) (back x) rest
one_item_if _ _ (g.column {a = a} {b = e} {c = f} {e = k} {n = v} {ty = ty} {nullable = said} {key = marked} named_ type_ null_ mark) rest n fits =
    let y = column_read a e f k v ty said marked named_ type_ null_ mark rest n fits in
    let token = name_token named_ in
    let first : syms (a ++ (e ++ (f ++ k))) ++ rest ≡ (token.tag_, token.word_) ∷ (syms (e ++ (f ++ k)) ++ rest) = flow a (e ++ (f ++ k)) rest ∙ ap (λ z. z ++ (syms (e ++ (f ++ k)) ++ rest)) token.whole in
    (y.0, ap (λ z. b.one_item (at_ z n)) first ∙ column_item token.tag_ token.word_ (syms (e ++ (f ++ k)) ++ rest) n token.names ∙ ap (λ z. b.column (at_ z n)) (sym first) ∙ y.1)
one_item_if _ _ (g.table_key {b = k} {ns = ns} (g.primary {a = a} {b = e} {c = f} primary_ key_ clustered_) names_) rest n fits =
    let token = one w.primary_ a primary_ in
    let y = key_read e f k ns (one w.key_ e key_) clustered_ names_ rest n in
    let joined : (a ++ (e ++ f)) ++ k ≡ a ++ (e ++ (f ++ k)) = append_assoc a (e ++ f) k ∙ ap (λ z. a ++ z) (append_assoc e f k) in
    let first : syms ((a ++ (e ++ f)) ++ k) ++ rest ≡ (t.Primary, token.word_) ∷ (syms (e ++ (f ++ k)) ++ rest) = ap (λ z. syms z ++ rest) joined ∙ flow a (e ++ (f ++ k)) rest ∙ ap (λ z. z ++ (syms (e ++ (f ++ k)) ++ rest)) token.is in
    (y.0, ap (λ z. b.one_item (at_ z n)) first ∙ primary_item token.word_ (syms (e ++ (f ++ k)) ++ rest) n ∙ y.1)

-- ---- each item in turn

abbrev pub all_by : {A B : Type 0} → Option A → (A → Option B) → Option B
all_by None f = None
all_by (Some x) f = f x

-- what is read so far with each of these
abbrev pub all_of : {A X : Type 0} → (A → X → Option A) → A → List X → Option A
all_of with_ found [] = Some found
all_of with_ found (x ∷ xs) = all_by (with_ found x) (λ z. all_of with_ z xs)

all_split : {A B : Type 0} (o : Option A) (f : A → Option B) (y : B) → all_by o f ≡ Some y → (x : A) × (o ≡ Some x) × (f x ≡ Some y)
all_split None f y h = absurd (cc)
all_split (Some x) f y h = (x, refl, h)

module _ {A X : Type 0} (ok : Tag → Bool) (turn : A → Parser A) (rule : Lexemes → X → Type 0) (with_ : A → X → Option A)
    (reads : (found : A) (a : Lexemes) (x : X) (new : A) → rule a x → with_ found x ≡ Some new → (rest : List Sym) (n : ℕ) → ok (tag_at rest) ≡ true → ParsesTo (turn found (at_ (syms a ++ rest) n)) new rest)
    (comma : ok t.Comma ≡ true) (end_ : ok t.End ≡ true) (none : (found : A) (n : ℕ) → turn found (at_ [] n) ≡ None) where
  turn_takes : (found : A) (a : Lexemes) (x : X) (new : A) → rule a x → with_ found x ≡ Some new → 0 < length (syms a)
  turn_takes found a x new is adds = not_empty (turn found) new a (none found) (reads found a x new is adds [] 0 end_)

  turns_give : (a : Lexemes) (xs : List X) → Listed rule a xs → (found final : A) → all_of with_ found xs ≡ Some final → (rest : List Sym) (n m : ℕ) → length (syms a) ≤ m → ok (tag_at rest) ≡ true → same_tag (tag_at rest) t.Comma ≡ false
      → ParsesTo (fold_from turn m found (at_ (syms a ++ rest) n)) final rest
  unfolding fold_from
  turns_give a _ (last {x = x} is) found final h rest n zero enough fits other =
      let s = all_split (with_ found x) (λ z. Some z) final h in
      absurd (omega (arith, turn_takes found a x s.0 is s.1))
  turns_give a _ (last {x = x} is) found final h rest n (suc m) enough fits other =
      let s = all_split (with_ found x) (λ z. Some z) final h in
      then_parses (λ y. eat t.Comma >>= (λ c. if c then fold_from turn m y else pure y)) (reads found a x final is (s.1 ∙ s.2) rest n fits)
      (λ k. either_none t.Comma (fold_from turn m final) (pure final) final rest rest k other (pure_parses final rest k))
  turns_give _ _ (more {a = a} {b = e} {c = c} {x = x} {xs = xs} is comma_ others) found final h rest n zero enough fits other =
      let s = all_split (with_ found x) (λ z. all_of with_ z xs) final h in
      absurd (omega (arith, turn_takes found a x s.0 is s.1, length-append (syms a) (syms (e ++ c)), ap (λ z. length z) (syms_join a (e ++ c))))
  turns_give _ _ (more {a = a} {b = e} {c = c} {x = x} {xs = xs} is comma_ others) found final h rest n (suc m) enough fits other =
      let s = all_split (with_ found x) (λ z. all_of with_ z xs) final h in
      let sign_ = one w.comma_ e comma_ in
      let small : length (syms c) ≤ m = omega (arith, turn_takes found a x s.0 is s.1, enough, length-append (syms a) (syms (e ++ c)), ap (λ z. length z) (syms_join a (e ++ c)), length-append (syms e) (syms c), ap (λ z. length z) (syms_join e c)) in
      let fits_ : ok (tag_at (syms (e ++ c) ++ rest)) ≡ true = ap (λ z. ok (tag_at z)) (flow e c rest) ∙ ap ok (one_tag sign_ (syms c ++ rest)) ∙ comma in
      go (turn found) (λ y. eat t.Comma >>= (λ z. if z then fold_from turn m y else pure y)) a (e ++ c) rest rest n (reads found a x s.0 is s.1 (syms (e ++ c) ++ rest) n fits_)
      (λ k. give_at (eat t.Comma >>= (λ z. if z then fold_from turn m s.0 else pure s.0)) k (flow e c rest)
      (either_one (fold_from turn m s.0) (pure s.0) final (syms c ++ rest) rest k sign_ (turns_give c xs others s.0 final s.2 rest k m small fits other)))

  pub fold_parses : (a : Lexemes) (xs : List X) → Listed rule a xs → (found final : A) → all_of with_ found xs ≡ Some final → (rest : List Sym) (n : ℕ) → ok (tag_at rest) ≡ true → same_tag (tag_at rest) t.Comma ≡ false
      → ParsesTo (fold turn found (at_ (syms a ++ rest) n)) final rest
  unfolding fold tokens_left
  fold_parses a xs is found final h rest n fits other = turns_give a xs is found final h rest n (length (syms a ++ rest)) (omega (arith, length-append (syms a) rest)) fits other

-- ---- the items of a table

abbrev with_back : Draft → g.Item → Option Draft
with_back d x = b.with_item d (back x)

step_reads : (d : Draft) (a : Lexemes) (x : g.Item) (new : Draft) → IsItem a x → with_back d x ≡ Some new → (rest : List Sym) (n : ℕ) → after_item (tag_at rest) ≡ true → ParsesTo (b.item_step d (at_ (syms a ++ rest) n)) new rest
unfolding b.item_step
step_reads d a x new is adds rest n fits =
    then_parses (λ y. required (b.with_item d y)) (one_item_if a x is rest n fits) (λ m. required_parses (b.with_item d (back x)) new rest m adds)

step_none : (d : Draft) (n : ℕ) → b.item_step d (at_ [] n) ≡ None
unfolding b.item_step b.one_item b.column name tag
step_none d n = refl

-- the columns of the items
abbrev pub columns_only : List g.Item → List Column
columns_only [] = []
columns_only (g.Column n ty said marked ∷ xs) = record { name = n; ty = ty; nullable = said } ∷ columns_only xs
columns_only (g.Key ns ∷ xs) = columns_only xs

abbrev first_or : List (List (List ℕ)) → Option (List (List ℕ))
first_or [] = None
first_or (k ∷ ks) = Some k

one_some : (o : Option (List (List ℕ))) (key : List (List ℕ)) → one_or_none o ≡ key ∷ [] → o ≡ Some key
one_some None key h = absurd (cc)
one_some (Some k) key h = ap (λ z. first_or z) h

no_second : {A : Type 0} (old k : List (List ℕ)) (ks : List (List (List ℕ))) (key : List (List ℕ)) → old ∷ k ∷ ks ≡ key ∷ [] → A
no_second old k ks key h = let n : length (k ∷ ks) ≡ 0 = ap (λ z. length (drop 1 z)) h in absurd (omega (arith, n))

-- there was no key before another one
none_before : (o : Option (List (List ℕ))) (k : List (List ℕ)) (ks : List (List (List ℕ))) (key : List (List ℕ)) → one_or_none o ++ (k ∷ ks) ≡ key ∷ [] → o ≡ None
none_before None k ks key h = refl
none_before (Some old) k ks key h = no_second old k ks key h

with_first_key : (columns : List Column) (o : Option (List (List ℕ))) (k : List (List ℕ)) → o ≡ None → b.with_key columns o k ≡ Some (record { columns = columns; key = Some k })
with_first_key columns o k h = ap (λ z. b.with_key columns z k) h

keys_after : (o : Option (List (List ℕ))) (k : List (List ℕ)) (ks : List (List (List ℕ))) (key : List (List ℕ)) → o ≡ None → one_or_none o ++ (k ∷ ks) ≡ key ∷ [] → one_or_none (Some k) ++ ks ≡ key ∷ []
keys_after o k ks key none h = ap (λ z. one_or_none z ++ (k ∷ ks)) (sym none) ∙ h

draft_all : (xs : List g.Item) (columns : List Column) (o : Option (List (List ℕ))) (key : List (List ℕ)) → one_or_none o ++ keys_of xs ≡ key ∷ []
    → all_of with_back (record { columns = columns; key = o }) xs ≡ Some (record { columns = columns ++ columns_only xs; key = Some key })
draft_all [] columns o key h =
    let same = one_some o key (sym (append-nil (one_or_none o)) ∙ h) in
    ap (λ z. Some (record { columns = columns; key = z })) same ∙ ap (λ z. Some (record { columns = z; key = Some key })) (sym (append-nil columns))
draft_all (g.Column n ty said false ∷ xs) columns o key h =
    let c : Column = record { name = n; ty = ty; nullable = said } in
    draft_all xs (columns ++ c ∷ []) o key h ∙ ap (λ z. Some (record { columns = z; key = Some key })) (append_assoc columns (c ∷ []) (columns_only xs))
draft_all (g.Column n ty said true ∷ xs) columns o key h =
    let c : Column = record { name = n; ty = ty; nullable = said } in
    let none = none_before o (n ∷ []) (keys_of xs) key h in
    ap (λ z. all_by z (λ d. all_of with_back d xs)) (with_first_key (columns ++ c ∷ []) o (n ∷ []) none)
    ∙ draft_all xs (columns ++ c ∷ []) (Some (n ∷ [])) key (keys_after o (n ∷ []) (keys_of xs) key none h) ∙ ap (λ z. Some (record { columns = z; key = Some key })) (append_assoc columns (c ∷ []) (columns_only xs))
draft_all (g.Key ns ∷ xs) columns o key h =
    let none = none_before o ns (keys_of xs) key h in
    ap (λ z. all_by z (λ d. all_of with_back d xs)) (with_first_key columns o ns none) ∙ draft_all xs columns (Some ns) key (keys_after o ns (keys_of xs) key none h)

pub columns_back : (key : List (List ℕ)) (xs : List g.Item) → columns_of key xs ≡ map (b.column_def key) (columns_only xs)
columns_back key [] = refl
columns_back key (g.Column n ty said marked ∷ xs) =
    let c : Column = record { name = n; ty = ty; nullable = said } in
    ap (λ z. z ∷ columns_of key xs) (ap (λ z. defined_ c z) (nullable_same key n said)) ∙ ap (λ z. b.column_def key c ∷ z) (columns_back key xs)
columns_back key (g.Key ns ∷ xs) = columns_back key xs

close_item : {c : Lexemes} → One t.Close c → (rest : List Sym) → after_item (tag_at (syms c ++ rest)) ≡ true
close_item k rest = ap after_item (one_tag k rest)

pub close_comma : {c : Lexemes} → One t.Close c → (rest : List Sym) → same_tag (tag_at (syms c ++ rest)) t.Comma ≡ false
close_comma k rest = one_other t.Comma close_tag k rest

pub items_give : (a : Lexemes) (xs : List g.Item) (key : List (List ℕ)) → Listed IsItem a xs → keys_of xs ≡ key ∷ [] → {c : Lexemes} → One t.Close c → (rest : List Sym) (n : ℕ)
    → ParsesTo (b.items b.no_items (at_ (syms a ++ (syms c ++ rest)) n)) (record { columns = columns_only xs; key = Some key }) (syms c ++ rest)
items_give a xs key is keys {c} close rest n =
    fold_parses after_item b.item_step IsItem with_back step_reads refl refl step_none a xs is b.no_items (record { columns = columns_only xs; key = Some key }) (draft_all xs [] None key keys) (syms c ++ rest) n (close_item close rest) (close_comma close rest)
