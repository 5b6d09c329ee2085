-- What holds of each CREATE TABLE that is read.
use Rattle.std.proofs.Common.{◌≡◌, ◌≤◌, ◌*◌, ◌^◌, ℕ, zero, suc, ◌+◌, ◌-◌, Bool, true, false, cond, List, [], ◌∷◌, ◌++◌, length, map, nat_le, Option, Some, None, refl, arith, lit<}
use Rattle.std.specs.Prelude.{⊤}
use Rattle.std.specs.Char.{is_ascii_digit}
use Rattle.std.proofs.Math.Nat.{pow-le-pow_right}
use Rattle.std.proofs.lemmas.Bool.Decides.{nat_tests}
use Rattle.sql_value.specs.Literal.{digits_after}
use Rattle.sql_value.specs.declared.sql_type.SqlType.TheVariants as sql
use Rattle.sql_value.specs.declared.column.TableKind.TheVariants.{Updatable}
use Rattle.spec_syntax.specs.declared.tag.Tag.{Tag}
use Rattle.spec_syntax.specs.declared.tag.Tag.TheVariants as t
use Rattle.spec_syntax.specs.declared.word.TypeName.{TypeName}
use Rattle.spec_syntax.specs.declared.word.TypeName.TheVariants as type_name
use Rattle.spec_syntax.specs.declared.word.OptionName.{OptionName}
use Rattle.spec_syntax.specs.declared.word.OptionName.TheVariants as option
use Rattle.spec_syntax.specs.declared.column.Column.{Column}
use Rattle.spec_syntax.specs.declared.column.Draft.{Draft}
use Rattle.spec_syntax.specs.declared.column.Item.{Item}
use Rattle.spec_syntax.specs.declared.column.Item.TheVariants as item
use Rattle.spec_syntax.specs.declared.ledger.Ledger.{Ledger}
use Rattle.spec_syntax.specs.declared.ledger.Choices.{Choices}
use Rattle.spec_syntax.specs.declared.ledger.Choice.{Choice}
use Rattle.spec_syntax.specs.declared.ledger.Choice.TheVariants as choice
use Rattle.spec_syntax.specs.Input.{Input, Parser, and_then, required, tag, text, next, sees, after, expect, fold, fold_from, tokens_left}
use Rattle.spec_syntax.specs.Words as w
use Rattle.spec_syntax.specs.Words.{type_word, option_word}
use Rattle.spec_syntax.specs.Expr.{name}
use Rattle.spec_syntax.specs.Row as r
use Rattle.spec_syntax.specs.Ledger as g
use Rattle.spec_syntax.specs.Table as b
use Rattle.spec_syntax.specs.Parsed.{IsName, IsSize, IsType, IsColumn, IsHistory, IsTable, Each, OneOrMore, Maybe}
use Rattle.sql_scalar.proofs.Digits.{one_digit, small_digit}
use Rattle.law_printing.proofs.Kept.{AreSyms, Holds, Always, then_keeps, map_keeps, required_keeps, next_ok, after_ok, expect_keeps, if_keeps, name_keeps}
use Rattle.law_printing.proofs.KeptStmts.{name_list_keeps, always}

-- ---- sizes and types

bounded_by : (c : Bool) (d : ℕ) (ds : List ℕ) (m n : ℕ) → is_ascii_digit d ≡ c → ((k : ℕ) → digits_after k ds ≡ Some n → n + 1 ≤ (k + 1) * 10 ^ length ds)
    → cond c (digits_after (m * 10 + (d - 48)) ds) None ≡ Some n → n + 1 ≤ (m + 1) * 10 ^ suc (length ds)
bounded_by false d ds m n is again e = absurd (cc)
bounded_by true d ds m n is again e =
    let rest = again (m * 10 + (d - 48)) e in
    omega (arith, rest, one_digit m (d - 48) (length ds) (small_digit d is))

same_end : (m n : ℕ) → Some m ≡ Some n → n ≡ m
same_end m n e = cc

bounded : (ds : List ℕ) (m n : ℕ) → digits_after m ds ≡ Some n → n + 1 ≤ (m + 1) * 10 ^ length ds
bounded [] m n e = let same : n ≡ m = same_end m n e in rw same (omega arith)
bounded (d ∷ ds) m n e = bounded_by (is_ascii_digit d) d ds m n refl (λ k h. bounded ds k n h) e

size_by : (c : Bool) (ds : List ℕ) (n : ℕ) → nat_le (length ds) 9 ≡ c → cond c (digits_after 0 ds) None ≡ Some n → IsSize n
size_by false ds n few e = absurd (cc)
size_by true ds n few e =
    let small : length ds ≤ 9 = grind (arith, nat_tests, few) in
    omega (arith, bounded ds 0 n e, pow-le-pow_right {n = 10} (lit< tt) {i = length ds} {j = 9} small)

is_size : (ds : List ℕ) (n : ℕ) → b.digits_of ds ≡ Some n → IsSize n
unfolding b.digits_of
is_size ds n e = size_by (nat_le (length ds) 9) ds n refl e

sized : (ds : List ℕ) (o : Option ℕ) → b.digits_of ds ≡ o → Maybe IsSize o
sized ds None e = tt
sized ds (Some n) e = is_size ds n e

digits_by_keeps : (g_ : Tag) (i : Input) → AreSyms i.rest → Holds IsSize (b.digits_by g_ i)
digits_by_keeps t.Number i ok = required_keeps IsSize (b.digits_of (text i)) (sized (text i) (b.digits_of (text i)) refl) (next i) (next_ok i ok)
digits_by_keeps _ i ok = tt

digits_keep : (i : Input) → AreSyms i.rest → Holds IsSize (b.digits i)
unfolding b.digits
digits_keep i ok = digits_by_keeps (tag i) i ok

size_keeps : (i : Input) → AreSyms i.rest → Holds IsSize (b.size i)
unfolding b.size
size_keeps i ok =
    then_keeps Always IsSize (λ x. _) (expect t.Open i) (expect_keeps t.Open i ok) (λ x is j more.
    then_keeps IsSize IsSize (λ x. _) (b.digits j) (digits_keep j more) (λ n small k rest.
    then_keeps Always IsSize (λ x. _) (expect t.Close k) (expect_keeps t.Close k rest) (λ z done m end. (small, end))))

zero_size : IsSize 0
zero_size = omega arith

scale_keeps : (i : Input) → AreSyms i.rest → Holds IsSize (b.scale i)
unfolding b.scale
scale_keeps i ok =
    let j = after t.Comma i in
    let kept = after_ok t.Comma i ok in
    if_keeps IsSize (sees t.Comma i) b.digits (λ k. Some (0, k)) j (digits_keep j kept) (zero_size, kept)

standard : IsType (sql.Decimal 18 0)
standard = (omega arith, omega arith)

decimal_keeps : (i : Input) → AreSyms i.rest → Holds IsType (b.decimal i)
unfolding b.decimal
decimal_keeps i ok =
    let j = after t.Open i in
    let kept = after_ok t.Open i ok in
    if_keeps IsType (sees t.Open i) (λ k. and_then (b.digits k) (λ m x. and_then (b.scale x) (λ z y. and_then (expect t.Close y) (λ v u. Some (sql.Decimal m z, u))))) (λ k. Some (sql.Decimal 18 0, k)) j
    (then_keeps IsSize IsType (λ x. _) (b.digits j) (digits_keep j kept) (λ m small k rest.
    then_keeps IsSize IsType (λ x. _) (b.scale k) (scale_keeps k rest) (λ z few y more.
    then_keeps Always IsType (λ x. _) (expect t.Close y) (expect_keeps t.Close y more) (λ v done u end. ((small, few), end)))))
    (standard, kept)

type_by_keeps : (ty : TypeName) (i : Input) → AreSyms i.rest → Holds IsType (b.type_by ty i)
type_by_keeps type_name.Bit i ok = (tt, ok)
type_by_keeps type_name.Int i ok = (tt, ok)
type_by_keeps type_name.BigInt i ok = (tt, ok)
type_by_keeps type_name.Date i ok = (tt, ok)
type_by_keeps type_name.Decimal i ok = decimal_keeps i ok
type_by_keeps type_name.NVarChar i ok = map_keeps IsSize IsType sql.NVarChar (b.size i) (size_keeps i ok) (λ n small. small)
type_by_keeps type_name.VarBinary i ok = map_keeps IsSize IsType sql.VarBinary (b.size i) (size_keeps i ok) (λ n small. small)

type_word_keeps : (i : Input) → AreSyms i.rest → Holds Always (type_word i)
unfolding type_word
type_word_keeps i ok = then_keeps IsName Always (λ x. _) (name i) (name_keeps i ok) (λ n named j more. required_keeps Always (w.type_name n) (always (w.type_name n)) j more)

pub type_keeps : (i : Input) → AreSyms i.rest → Holds IsType (b.sql_type i)
unfolding b.sql_type
type_keeps i ok = then_keeps Always IsType (λ x. _) (type_word i) (type_word_keeps i ok) (λ ty is j more. type_by_keeps ty j more)

-- ---- columns and the key

nullable_by_keeps : (g_ : Tag) (i : Input) → AreSyms i.rest → Holds Always (b.nullable_by g_ i)
nullable_by_keeps t.Null i ok = (tt, next_ok i ok)
nullable_by_keeps t.Not i ok = then_keeps Always Always (λ x. _) (expect t.Null (next i)) (expect_keeps t.Null (next i) (next_ok i ok)) (λ z done j end. (tt, end))
nullable_by_keeps _ i ok = (tt, ok)

nullable_keeps : (i : Input) → AreSyms i.rest → Holds Always (b.nullable i)
unfolding b.nullable
nullable_keeps i ok = nullable_by_keeps (tag i) i ok

is_key_keeps : (i : Input) → AreSyms i.rest → Holds Always (b.is_key i)
unfolding b.is_key
is_key_keeps i ok =
    let j = after t.Primary i in
    let kept = after_ok t.Primary i ok in
    if_keeps Always (sees t.Primary i) (λ k. and_then (expect t.Key k) (λ z m. Some (true, after t.Clustered m))) (λ k. Some (false, k)) j
    (then_keeps Always Always (λ x. _) (expect t.Key j) (expect_keeps t.Key j kept) (λ z done m end. (tt, after_ok t.Clustered m end))) (tt, kept)

abbrev IsWritten : Column → Type 0
IsWritten c = IsName c.name × IsType c.ty

abbrev IsItem : Item → Type 0
IsItem (item.Column c key) = IsWritten c
IsItem (item.Key ns) = OneOrMore IsName ns

column_keeps : (i : Input) → AreSyms i.rest → Holds IsItem (b.column i)
unfolding b.column
column_keeps i ok =
    then_keeps IsName IsItem (λ x. _) (name i) (name_keeps i ok) (λ n named j more.
    then_keeps IsType IsItem (λ x. _) (b.sql_type j) (type_keeps j more) (λ ty is k rest.
    then_keeps Always IsItem (λ x. _) (b.nullable k) (nullable_keeps k rest) (λ null_ read m others.
    then_keeps Always IsItem (λ x. _) (b.is_key m) (is_key_keeps m others) (λ key_ told q end. ((named, is), end)))))

key_keeps : (i : Input) → AreSyms i.rest → Holds IsItem (b.key i)
unfolding b.key
key_keeps i ok =
    then_keeps Always IsItem (λ x. _) (expect t.Key i) (expect_keeps t.Key i ok) (λ z done j more.
    map_keeps (OneOrMore IsName) IsItem item.Key (r.name_list (after t.Clustered j)) (name_list_keeps (after t.Clustered j) (after_ok t.Clustered j more)) (λ ns all. all))

item_by_keeps : (g_ : Tag) (i : Input) → AreSyms i.rest → Holds IsItem (b.item_by g_ i)
item_by_keeps t.Primary i ok = key_keeps (next i) (next_ok i ok)
item_by_keeps _ i ok = column_keeps i ok

one_item_keeps : (i : Input) → AreSyms i.rest → Holds IsItem (b.one_item i)
unfolding b.one_item
one_item_keeps i ok = item_by_keeps (tag i) i ok

abbrev IsDraft : Draft → Type 0
IsDraft d = Each IsWritten d.columns × Maybe (OneOrMore IsName) d.key

each_last : {A : Type 0} (P : A → Type 0) (xs : List A) (x : A) → Each P xs → P x → Each P (xs ++ x ∷ [])
each_last P [] x k is = (is, tt)
each_last P (y ∷ ys) x k is = (k.0, each_last P ys x k.1 is)

with_key_is : (columns : List Column) (old : Option (List (List ℕ))) (names : List (List ℕ)) → Each IsWritten columns → OneOrMore IsName names → Maybe IsDraft (b.with_key columns old names)
with_key_is columns (Some old) names all key_ = tt
with_key_is columns None names all key_ = (all, key_)

with_item_is : (d : Draft) (x : Item) → IsDraft d → IsItem x → Maybe IsDraft (b.with_item d x)
with_item_is d (item.Column c false) k is = (each_last IsWritten d.columns c k.0 is, k.1)
with_item_is d (item.Column c true) k is = with_key_is (d.columns ++ c ∷ []) d.key (c.name ∷ []) (each_last IsWritten d.columns c k.0 is) (is.0, tt)
with_item_is d (item.Key names) k is = with_key_is d.columns d.key names k.0 is

item_step_keeps : (d : Draft) → IsDraft d → (i : Input) → AreSyms i.rest → Holds IsDraft (b.item_step d i)
unfolding b.item_step
item_step_keeps d k i ok = then_keeps IsItem IsDraft (λ x. _) (b.one_item i) (one_item_keeps i ok) (λ x is j more. required_keeps IsDraft (b.with_item d x) (with_item_is d x k is) j more)

module _ {A : Type 0} (P : A → Type 0) (step : A → Parser A) (keeps : (a : A) → P a → (i : Input) → AreSyms i.rest → Holds P (step a i)) where
  fold_from_keeps : (n : ℕ) (a : A) → P a → (i : Input) → AreSyms i.rest → Holds P (fold_from step n a i)
  unfolding fold_from
  fold_from_keeps zero a is i ok = tt
  fold_from_keeps (suc n) a is i ok =
      then_keeps P P (λ y. _) (step a i) (keeps a is i ok) (λ x has j more.
      if_keeps P (sees t.Comma j) (fold_from step n x) (λ m. Some (x, m)) (after t.Comma j) (fold_from_keeps n x has (after t.Comma j) (after_ok t.Comma j more)) (has, after_ok t.Comma j more))

  fold_keeps : (a : A) → P a → (i : Input) → AreSyms i.rest → Holds P (fold step a i)
  unfolding fold
  fold_keeps a is i ok = fold_from_keeps (tokens_left i) a is i ok

-- ---- the ledger

option_keeps : (i : Input) → AreSyms i.rest → Holds Always (option_word i)
unfolding option_word
option_keeps i ok = then_keeps IsName Always (λ x. _) (name i) (name_keeps i ok) (λ n named j more. required_keeps Always (w.option_name n) (always (w.option_name n)) j more)

the_keeps : (o : OptionName) (i : Input) → AreSyms i.rest → Holds Always (g.the_option o i)
unfolding g.the_option
the_keeps o i ok = then_keeps Always Always (λ x. _) (option_word i) (option_keeps i ok) (λ x is j more. if_keeps Always (g.same_option x o) (λ k. Some (tt, k)) (λ k. None) j (tt, more) tt)

abbrev IsChoice : Choice → Type 0
IsChoice choice.AppendOnly = ⊤
IsChoice (choice.View v) = IsName v

abbrev AreChoices : Choices → Type 0
AreChoices c = Maybe IsName c.view

choice_by_keeps : (o : OptionName) (i : Input) → AreSyms i.rest → Holds IsChoice (g.choice_by o i)
choice_by_keeps option.AppendOnly i ok =
    then_keeps Always IsChoice (λ x. _) (and_then (expect t.Equal i) (λ z. expect t.On)) (then_keeps Always Always (λ x. _) (expect t.Equal i) (expect_keeps t.Equal i ok) (λ z done j more. expect_keeps t.On j more)) (λ z done k end. (tt, end))
choice_by_keeps option.LedgerView i ok =
    then_keeps Always IsChoice (λ x. _) (expect t.Equal i) (expect_keeps t.Equal i ok) (λ z done j more. map_keeps IsName IsChoice choice.View (name j) (name_keeps j more) (λ v named. named))
choice_by_keeps _ i ok = tt

one_choice_keeps : (i : Input) → AreSyms i.rest → Holds IsChoice (g.one_choice i)
unfolding g.one_choice
one_choice_keeps i ok = then_keeps Always IsChoice (λ x. _) (option_word i) (option_keeps i ok) (λ o is j more. choice_by_keeps o j more)

with_view_is : (append_only : Bool) (old : Option (List ℕ)) (v : List ℕ) → IsName v → Maybe AreChoices (g.with_view append_only old v)
with_view_is append_only (Some old) v is = tt
with_view_is append_only None v is = is

append_is : (c : Bool) (v : Option (List ℕ)) → Maybe IsName v → Maybe AreChoices (cond c None (Some (record { append_only = true; view = v })))
append_is true v is = tt
append_is false v is = is

with_choice_is : (c : Choices) (x : Choice) → AreChoices c → IsChoice x → Maybe AreChoices (g.with_choice c x)
with_choice_is c choice.AppendOnly k is = append_is c.append_only c.view k
with_choice_is c (choice.View v) k is = with_view_is c.append_only c.view v is

choice_step_keeps : (c : Choices) → AreChoices c → (i : Input) → AreSyms i.rest → Holds AreChoices (g.choice_step c i)
unfolding g.choice_step
choice_step_keeps c k i ok = then_keeps IsChoice AreChoices (λ x. _) (g.one_choice i) (one_choice_keeps i ok) (λ x is j more. required_keeps AreChoices (g.with_choice c x) (with_choice_is c x k is) j more)

chosen_keeps : (i : Input) → AreSyms i.rest → Holds AreChoices (g.chosen i)
unfolding g.chosen
chosen_keeps i ok =
    then_keeps Always AreChoices (λ x. _) (expect t.Equal i) (expect_keeps t.Equal i ok) (λ z done j more.
    then_keeps Always AreChoices (λ x. _) (expect t.On j) (expect_keeps t.On j more) (λ y did k rest.
    if_keeps AreChoices (sees t.Open k) (λ m. and_then (g.choices g.no_choices m) (λ found n. and_then (expect t.Close n) (λ v u. Some (found, u)))) (λ m. Some (g.no_choices, m)) (after t.Open k)
    (then_keeps AreChoices AreChoices (λ x. _) (g.choices g.no_choices (after t.Open k)) (fold_keeps AreChoices g.choice_step choice_step_keeps g.no_choices tt (after t.Open k) (after_ok t.Open k rest)) (λ found is n others.
    then_keeps Always AreChoices (λ x. _) (expect t.Close n) (expect_keeps t.Close n others) (λ v shut u end. (is, end))))
    (tt, after_ok t.Open k rest)))

versions_keep : (i : Input) → AreSyms i.rest → Holds (Maybe IsName) (g.versions i)
unfolding g.versions
versions_keep i ok =
    then_keeps Always (Maybe IsName) (λ x. _) (expect t.Equal i) (expect_keeps t.Equal i ok) (λ z done j more.
    then_keeps Always (Maybe IsName) (λ x. _) (expect t.On j) (expect_keeps t.On j more) (λ y did k rest.
    if_keeps (Maybe IsName) (sees t.Open k) (λ m. and_then (g.the_option option.HistoryTable m) (λ x n. and_then (expect t.Equal n) (λ v u. and_then (name u) (λ h q. and_then (expect t.Close q) (λ a c. Some (Some h, c)))))) (λ m. Some (None, m)) (after t.Open k)
    (then_keeps Always (Maybe IsName) (λ x. _) (g.the_option option.HistoryTable (after t.Open k)) (the_keeps option.HistoryTable (after t.Open k) (after_ok t.Open k rest)) (λ x is n others.
    then_keeps Always (Maybe IsName) (λ x. _) (expect t.Equal n) (expect_keeps t.Equal n others) (λ v equal_ u left.
    then_keeps IsName (Maybe IsName) (λ x. _) (name u) (name_keeps u left) (λ h named q last.
    then_keeps Always (Maybe IsName) (λ x. _) (expect t.Close q) (expect_keeps t.Close q last) (λ a shut c end. (named, end))))))
    (tt, after_ok t.Open k rest)))

abbrev IsLedger : Ledger → Type 0
IsLedger x = IsHistory x.kind x.history × Maybe IsName x.view

updatable_by : (c : Bool) (old v : Option (List ℕ)) → Maybe IsName old → Maybe IsName v → Maybe IsLedger (cond c None (Some (record { kind = Updatable; history = old; view = v })))
updatable_by true old v is own = tt
updatable_by false old v is own = (is, own)

updatable_is : (old : Option (List ℕ)) (c : Choices) → Maybe IsName old → AreChoices c → Maybe IsLedger (g.updatable old c)
updatable_is old c is own = updatable_by c.append_only old c.view is own

no_history : (c : Bool) → IsHistory (g.kind_of c) None
no_history true = refl
no_history false = tt

ledger_by_keeps : (o : OptionName) (i : Input) → AreSyms i.rest → Holds IsLedger (g.ledger_by o i)
ledger_by_keeps option.SystemVersioning i ok =
    then_keeps (Maybe IsName) IsLedger (λ x. _) (g.versions i) (versions_keep i ok) (λ old is j more.
    then_keeps Always IsLedger (λ x. _) (expect t.Comma j) (expect_keeps t.Comma j more) (λ z done k rest.
    then_keeps Always IsLedger (λ x. _) (g.the_option option.Ledger k) (the_keeps option.Ledger k rest) (λ y did m others.
    then_keeps AreChoices IsLedger (λ x. _) (g.chosen m) (chosen_keeps m others) (λ found own n left. required_keeps IsLedger (g.updatable old found) (updatable_is old found is own) n left))))
ledger_by_keeps option.Ledger i ok =
    then_keeps AreChoices IsLedger (λ x. _) (g.chosen i) (chosen_keeps i ok) (λ found own j more.
    if_keeps IsLedger (sees t.Comma j) (λ k. and_then (g.the_option option.SystemVersioning k) (λ y m. and_then (g.versions m) (λ old. required (g.updatable old found)))) (λ k. Some (g.alone found, k)) (after t.Comma j)
    (then_keeps Always IsLedger (λ x. _) (g.the_option option.SystemVersioning (after t.Comma j)) (the_keeps option.SystemVersioning (after t.Comma j) (after_ok t.Comma j more)) (λ y did m others.
    then_keeps (Maybe IsName) IsLedger (λ x. _) (g.versions m) (versions_keep m others) (λ old is n left. required_keeps IsLedger (g.updatable old found) (updatable_is old found is own) n left)))
    ((no_history found.append_only, own), after_ok t.Comma j more))
ledger_by_keeps _ i ok = tt

ledger_keeps : (i : Input) → AreSyms i.rest → Holds IsLedger (g.ledger i)
unfolding g.ledger
ledger_keeps i ok = then_keeps Always IsLedger (λ x. _) (option_word i) (option_keeps i ok) (λ o is j more. ledger_by_keeps o j more)

part_keeps : (i : Input) → AreSyms i.rest → Holds IsLedger (g.ledger_part i)
unfolding g.ledger_part
part_keeps i ok =
    let j = after t.With i in
    let kept = after_ok t.With i ok in
    if_keeps IsLedger (sees t.With i) (λ k. and_then (expect t.Open k) (λ z m. and_then (g.ledger m) (λ found n. and_then (expect t.Close n) (λ v u. Some (found, u))))) (λ k. Some (g.alone g.no_choices, k)) j
    (then_keeps Always IsLedger (λ x. _) (expect t.Open j) (expect_keeps t.Open j kept) (λ z done m more.
    then_keeps IsLedger IsLedger (λ x. _) (g.ledger m) (ledger_keeps m more) (λ found is n rest.
    then_keeps Always IsLedger (λ x. _) (expect t.Close n) (expect_keeps t.Close n rest) (λ v shut u end. (is, end)))))
    ((tt, tt), kept)

-- ---- the table

defs_are : (ks : List (List ℕ)) (cs : List Column) → Each IsWritten cs → Each IsColumn (map (b.column_def ks) cs)
defs_are ks [] k = tt
defs_are ks (c ∷ cs) k = ((k.0.0, k.0.1, refl), defs_are ks cs k.1)

table_is : (n : List ℕ) (columns : List Column) (key_ : Option (List (List ℕ))) (x : Ledger) → IsName n → Each IsWritten columns → Maybe (OneOrMore IsName) key_ → IsLedger x → Maybe IsTable (b.table_of n columns key_ x)
table_is n [] key_ x named all keyed is = tt
table_is n (c ∷ cs) None x named all keyed is = tt
table_is n (c ∷ cs) (Some ks) x named all keyed is = (named, defs_are ks (c ∷ cs) all, keyed, is.0, is.1)

pub table_keeps : (i : Input) → AreSyms i.rest → Holds IsTable (b.create_table i)
unfolding b.create_table
table_keeps i ok =
    then_keeps IsName IsTable (λ x. _) (name i) (name_keeps i ok) (λ n named j more.
    then_keeps Always IsTable (λ x. _) (expect t.Open j) (expect_keeps t.Open j more) (λ z done k rest.
    then_keeps IsDraft IsTable (λ x. _) (b.items b.no_items k) (fold_keeps IsDraft b.item_step item_step_keeps b.no_items (tt, tt) k rest) (λ d drawn m others.
    then_keeps Always IsTable (λ x. _) (expect t.Close m) (expect_keeps t.Close m others) (λ y did q left.
    then_keeps IsLedger IsTable (λ x. _) (g.ledger_part q) (part_keeps q left) (λ x is u end. required_keeps IsTable (b.table_of n d.columns d.key x) (table_is n d.columns d.key x named drawn.0 drawn.1 is) u end)))))
