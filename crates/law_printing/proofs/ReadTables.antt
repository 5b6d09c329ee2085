-- Printed CREATE TABLE is read as itself.
use Rattle.std.proofs.Common.{◌≡◌, ◌∙◌, ℕ, zero, suc, ◌+◌, ◌<◌, ◌≤◌, Bool, true, false, List, [], ◌∷◌, ◌++◌, length, map, Option, Some, None, refl, ap, sym, subst, arith, append_assoc, codes, length-append}
use Rattle.sql_value.specs.declared.sql_type.SqlType.{SqlType}
use Rattle.sql_value.specs.declared.sql_type.SqlType.TheVariants as sql
use Rattle.sql_value.specs.declared.column.ColumnDef.{ColumnDef}
use Rattle.spec_syntax.specs.declared.tag.Tag.TheVariants as t
use Rattle.spec_syntax.specs.declared.word.OptionName.{OptionName}
use Rattle.spec_syntax.specs.declared.word.OptionName.TheVariants as option
use Rattle.spec_syntax.specs.declared.column.Column.{Column}
use Rattle.spec_syntax.specs.declared.column.Draft.{Draft}
use Rattle.spec_syntax.specs.declared.column.Item.TheVariants as item
use Rattle.spec_syntax.specs.Tags.{same_tag}
use Rattle.spec_syntax.specs.Input.{Sym, and_then, tag, text, next, sees, after, expect, fold, fold_from, tokens_left}
use Rattle.spec_syntax.specs.Words.{type_name, type_word, option_name, option_word}
use Rattle.spec_syntax.specs.Expr.{name}
use Rattle.spec_syntax.specs.Row as r
use Rattle.spec_syntax.specs.Ledger as g
use Rattle.spec_syntax.specs.Table as b
use Rattle.spec_syntax.specs.Printed as p
use Rattle.spec_syntax.specs.Printed.{key, word, digits, enclosed, listed, rest_listed}
use Rattle.spec_syntax.specs.PrintedStmt as s
use Rattle.spec_syntax.specs.Parsed.{IsName, IsSize, IsType, IsColumn, Each, OneOrMore}
use Rattle.law_printing.proofs.Repeats.{at_}
use Rattle.law_printing.proofs.ReadTrees.{name_read}
use Rattle.law_printing.proofs.Sizes.{size_read}
use Rattle.law_printing.proofs.Gets.{Gets, then_gets, map_gets}
use Rattle.law_printing.proofs.ReadParts.{name_list_gets}

-- ---- types

digits_read : (m : ℕ) (rest : List Sym) (n : ℕ) → IsSize m → b.digits (at_ (digits m ∷ rest) n) ≡ Some (m, at_ rest n)
unfolding b.digits tag text next
digits_read m rest n small = rw (size_read m small) refl

size_at : (m : ℕ) (rest : List Sym) (n : ℕ) → IsSize m → b.size (at_ (enclosed (digits m ∷ []) ++ rest) n) ≡ Some (m, at_ rest n)
unfolding b.size expect sees next same_tag
size_at m rest n small = rw (digits_read m (key t.Close ∷ rest) n small) refl

decimal_at : (m z : ℕ) (rest : List Sym) (n : ℕ) → IsSize m → IsSize z → b.decimal (at_ (enclosed (digits m ∷ key t.Comma ∷ digits z ∷ []) ++ rest) n) ≡ Some (sql.Decimal m z, at_ rest n)
unfolding b.decimal b.scale expect sees after next same_tag
decimal_at m z rest n small few = rw (digits_read m (key t.Comma ∷ digits z ∷ key t.Close ∷ rest) n small) (rw (digits_read z (key t.Close ∷ rest) n few) refl)

pub sql_read : (ty : SqlType) (rest : List Sym) (n : ℕ) → IsType ty → b.sql_type (at_ (s.sql_type ty ++ rest) n) ≡ Some (ty, at_ rest n)
unfolding b.sql_type s.sql_type type_word type_name name tag text next
sql_read sql.Bit rest n is = refl
sql_read sql.Int rest n is = refl
sql_read sql.BigInt rest n is = refl
sql_read sql.Date rest n is = refl
sql_read (sql.Decimal m z) rest n is = decimal_at m z rest n is.0 is.1
sql_read (sql.NVarChar m) rest n is = rw (size_at m rest n is) refl
sql_read (sql.VarBinary m) rest n is = rw (size_at m rest n is) refl

-- ---- columns and the key

nullable_read : (c : Bool) (rest : List Sym) (n : ℕ) → b.nullable (at_ (s.nullable c ++ key t.Comma ∷ rest) n) ≡ Some (Some c, at_ (key t.Comma ∷ rest) n)
unfolding b.nullable s.nullable tag text next expect sees same_tag
nullable_read true rest n = refl
nullable_read false rest n = refl

abbrev pub drafted : ColumnDef → Column
drafted d = record { name = d.name; ty = d.ty; nullable = Some d.nullable }

step_column : (d : Draft) (c : ColumnDef) (rest : List Sym) (n : ℕ) → IsColumn c → b.item_step d (at_ (s.column c ++ key t.Comma ∷ rest) n) ≡ Some (record { columns = d.columns ++ drafted c ∷ []; key = d.key }, at_ (key t.Comma ∷ rest) n)
unfolding b.item_step b.one_item b.column b.is_key s.column tag sees after same_tag
step_column d c rest n is =
    let tail = s.nullable c.nullable ++ key t.Comma ∷ rest in
    let flat = append_assoc (s.sql_type c.ty) (s.nullable c.nullable) (key t.Comma ∷ rest) in
    rw flat (rw (name_read c.name (s.sql_type c.ty ++ tail) n) (rw (sql_read c.ty tail n is.1) (rw (nullable_read c.nullable rest n) refl)))

step_key : (columns : List Column) (ks : List (List ℕ)) (rest : List Sym) (n : ℕ) → OneOrMore IsName ks
    → Gets (b.item_step (record { columns = columns; key = None }) (at_ (key t.Primary ∷ key t.Key ∷ (s.names ks ++ rest)) n)) (record { columns = columns; key = Some ks }) rest
unfolding b.item_step b.one_item b.key tag next expect sees after same_tag
step_key columns ks rest n is =
    let o = r.name_list (at_ (s.names ks ++ rest) n) in
    then_gets (λ y. _) (item.Key ks) (record { columns = columns; key = Some ks }) rest rest (and_then o (λ x i. Some (item.Key x, i))) (map_gets item.Key ks rest o (name_list_gets ks rest n is)) (λ m. (refl, refl))

-- the key and what stands behind it
abbrev with_key : List (List ℕ) → List Sym → List Sym
with_key ks rest = key t.Primary ∷ key t.Key ∷ (s.names ks ++ key t.Close ∷ rest)

last_step : (columns : List Column) (ks : List (List ℕ)) (rest : List Sym) (fuel n : ℕ) → OneOrMore IsName ks
    → Gets (fold_from b.item_step (suc fuel) (record { columns = columns; key = None }) (at_ (with_key ks rest) n)) (record { columns = columns; key = Some ks }) (key t.Close ∷ rest)
unfolding fold_from sees after same_tag
last_step columns ks rest fuel n is =
    let d : Draft = record { columns = columns; key = Some ks } in
    then_gets (λ y. _) d d (key t.Close ∷ rest) (key t.Close ∷ rest) (b.item_step (record { columns = columns; key = None }) (at_ (with_key ks rest) n)) (step_key columns ks (key t.Close ∷ rest) n is) (λ m. (refl, refl))

one_step : (columns : List Column) (c : ColumnDef) (d : Draft) (more rest : List Sym) (fuel n : ℕ) → IsColumn c
    → Gets (fold_from b.item_step fuel (record { columns = columns ++ drafted c ∷ []; key = None }) (at_ more n)) d rest
    → Gets (fold_from b.item_step (suc fuel) (record { columns = columns; key = None }) (at_ (s.column c ++ key t.Comma ∷ more) n)) d rest
unfolding fold_from sees after next same_tag
one_step columns c d more rest fuel n is k = rw (step_column (record { columns = columns; key = None }) c more n is) k

fold_gets : (columns : List Column) (c : ColumnDef) (cs : List ColumnDef) (ks : List (List ℕ)) (rest : List Sym) (fuel n : ℕ) → length cs + 2 ≤ fuel → IsColumn c → Each IsColumn cs → OneOrMore IsName ks
    → Gets (fold_from b.item_step fuel (record { columns = columns; key = None }) (at_ (s.column c ++ (rest_listed s.column cs ++ key t.Comma ∷ with_key ks rest)) n))
    (record { columns = columns ++ drafted c ∷ map drafted cs; key = Some ks }) (key t.Close ∷ rest)
unfolding rest_listed
fold_gets columns c cs ks rest zero n few first others is = absurd (omega (arith, few))
fold_gets columns c cs ks rest (suc zero) n few first others is = absurd (omega (arith, few))
fold_gets columns c [] ks rest (suc (suc fuel)) n few first others is =
    one_step columns c (record { columns = columns ++ drafted c ∷ []; key = Some ks }) (with_key ks rest) (key t.Close ∷ rest) (suc fuel) n first (last_step (columns ++ drafted c ∷ []) ks rest fuel n is)
fold_gets columns c (d ∷ ds) ks rest (suc (suc fuel)) n few first others is =
    let tail = key t.Comma ∷ with_key ks rest in
    let more = s.column d ++ (rest_listed s.column ds ++ tail) in
    let flat : key t.Comma ∷ ((s.column d ++ rest_listed s.column ds) ++ tail) ≡ key t.Comma ∷ more = ap (λ z. key t.Comma ∷ z) (append_assoc (s.column d) (rest_listed s.column ds) tail) in
    let P : List Sym → Type 0 = λ z. Gets (fold_from b.item_step (suc (suc fuel)) (record { columns = columns; key = None }) (at_ (s.column c ++ z) n)) (record { columns = columns ++ drafted c ∷ drafted d ∷ map drafted ds; key = Some ks }) (key t.Close ∷ rest) in
    let Q : List Column → Type 0 = λ z. Gets (fold_from b.item_step (suc (suc fuel)) (record { columns = columns; key = None }) (at_ (s.column c ++ key t.Comma ∷ more) n)) (record { columns = z; key = Some ks }) (key t.Close ∷ rest) in
    subst P (sym flat) (subst Q (append_assoc columns (drafted c ∷ []) (drafted d ∷ map drafted ds))
    (one_step columns c (record { columns = (columns ++ drafted c ∷ []) ++ drafted d ∷ map drafted ds; key = Some ks }) more (key t.Close ∷ rest) (suc fuel) n first
    (fold_gets (columns ++ drafted c ∷ []) d ds ks rest (suc fuel) n (omega (arith, few)) others.0 others.1 is)))

enough : (cs : List ColumnDef) → length cs ≤ length (rest_listed s.column cs)
unfolding rest_listed
enough [] = omega arith
enough (d ∷ ds) = omega (arith, enough ds, length-append (s.column d) (rest_listed s.column ds))

column_some : (c : ColumnDef) → 0 < length (s.column c)
unfolding s.column
column_some c = omega arith

pub items_gets : (c : ColumnDef) (cs : List ColumnDef) (ks : List (List ℕ)) (rest : List Sym) (n : ℕ) → IsColumn c → Each IsColumn cs → OneOrMore IsName ks
    → Gets (b.items b.no_items (at_ ((listed s.column (c ∷ cs) ++ key t.Comma ∷ key t.Primary ∷ key t.Key ∷ s.names ks) ++ key t.Close ∷ rest) n)) (record { columns = drafted c ∷ map drafted cs; key = Some ks }) (key t.Close ∷ rest)
unfolding fold tokens_left listed
items_gets c cs ks rest n first others is =
    let ts = s.column c ++ (rest_listed s.column cs ++ key t.Comma ∷ with_key ks rest) in
    let flat : ((s.column c ++ rest_listed s.column cs) ++ key t.Comma ∷ key t.Primary ∷ key t.Key ∷ s.names ks) ++ key t.Close ∷ rest ≡ ts =
    append_assoc (s.column c ++ rest_listed s.column cs) (key t.Comma ∷ key t.Primary ∷ key t.Key ∷ s.names ks) (key t.Close ∷ rest)
    ∙ append_assoc (s.column c) (rest_listed s.column cs) (key t.Comma ∷ with_key ks rest) in
    let P : List Sym → Type 0 = λ z. Gets (fold_from b.item_step (length z) b.no_items (at_ z n)) (record { columns = drafted c ∷ map drafted cs; key = Some ks }) (key t.Close ∷ rest) in
    let few : length cs + 2 ≤ length ts = omega (arith, length-append (s.column c) (rest_listed s.column cs ++ key t.Comma ∷ with_key ks rest), length-append (rest_listed s.column cs) (key t.Comma ∷ with_key ks rest), enough cs, column_some c) in
    subst P (sym flat) (fold_gets [] c cs ks rest (length ts) n few first others is)

-- ---- the ledger

pub option_read : (w : List ℕ) (o : OptionName) (rest : List Sym) (n : ℕ) → option_name w ≡ Some o → option_word (at_ (word w ∷ rest) n) ≡ Some (o, at_ rest n)
unfolding option_word name tag text next
option_read w o rest n is = rw is refl

pub the_read : (w : List ℕ) (o : OptionName) (rest : List Sym) (n : ℕ) → option_name w ≡ Some o → g.same_option o o ≡ true → g.the_option o (at_ (word w ∷ rest) n) ≡ Some (tt, at_ rest n)
unfolding g.the_option
the_read w o rest n is same = rw (option_read w o rest n is) (rw same refl)

pub versions_read : (h : Option (List ℕ)) (rest : List Sym) (n : ℕ) → g.versions (at_ (s.on ++ s.history h ++ key t.Comma ∷ rest) n) ≡ Some (h, at_ (key t.Comma ∷ rest) n)
unfolding g.versions expect sees after next same_tag option_name g.same_option
versions_read None rest n = refl
versions_read (Some h) rest n =
    let ts = key t.Equal ∷ p.name h ∷ key t.Close ∷ key t.Comma ∷ rest in
    rw (the_read (codes "HISTORY_TABLE") option.HistoryTable ts n refl refl) (rw (name_read h (key t.Close ∷ key t.Comma ∷ rest) n) refl)

pub chosen_own : (v : Option (List ℕ)) (n : ℕ) → g.chosen (at_ (s.on ++ s.own_view v ++ key t.Close ∷ []) n) ≡ Some (record { append_only = false; view = v }, at_ (key t.Close ∷ []) n)
unfolding g.chosen g.choice_step g.one_choice fold fold_from tokens_left expect sees after next same_tag option_name
chosen_own None n = refl
chosen_own (Some v) n =
    let ts = key t.Equal ∷ p.name v ∷ key t.Close ∷ key t.Close ∷ [] in
    rw (option_read (codes "LEDGER_VIEW") option.LedgerView ts n refl) (rw (name_read v (key t.Close ∷ key t.Close ∷ []) n) refl)

pub chosen_more : (v : Option (List ℕ)) (n : ℕ) → g.chosen (at_ (s.on ++ enclosed (s.choices v) ++ key t.Close ∷ []) n) ≡ Some (record { append_only = true; view = v }, at_ (key t.Close ∷ []) n)
unfolding g.chosen g.choice_step g.one_choice s.choices fold fold_from tokens_left expect sees after next same_tag option_name
chosen_more None n = rw (option_read (codes "APPEND_ONLY") option.AppendOnly (key t.Equal ∷ key t.On ∷ key t.Close ∷ key t.Close ∷ []) n refl) refl
chosen_more (Some v) n =
    let ts = key t.Equal ∷ p.name v ∷ key t.Close ∷ key t.Close ∷ [] in
    rw (option_read (codes "APPEND_ONLY") option.AppendOnly (key t.Equal ∷ key t.On ∷ key t.Comma ∷ word (codes "LEDGER_VIEW") ∷ ts) n refl)
    (rw (option_read (codes "LEDGER_VIEW") option.LedgerView ts n refl) (rw (name_read v (key t.Close ∷ key t.Close ∷ []) n) refl))
