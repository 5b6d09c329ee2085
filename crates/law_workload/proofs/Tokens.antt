-- The tokens of the workload's texts.
use Rattle.std.proofs.Common.{◌≡◌, ◌∙◌, ◌≤◌, ◌<◌, ◌^◌, ℕ, List, [], ◌∷◌, ◌++◌, Some, refl, ap, sym, codes, arith, append-nil, append_assoc}
use Rattle.std.specs.Fmt.{decimal}
use Rattle.std.proofs.lemmas.Fmt.{decimal_digit}
use Rattle.sql_lex.specs.declared.token.Kind.TheVariants as kind
use Rattle.sql_lex.specs.Front.{front}
use Rattle.workload_generator.specs.Workload.{value_of, create_text, insert_text, update_text}
use Rattle.law_workload.specs.Statements.{table_name}
use Rattle.law_workload.proofs.Cut.{Lexeme, cut, token, spaced}
use Rattle.law_workload.proofs.Numbers.{decimal_token, at_end, at_close, at_comma}
use Rattle.law_workload.proofs.FourTables.{by_table}

-- the name of a table is one token
abbrev Named : ℕ → Type 0
Named c = (rest : List ℕ) → front (116 ∷ c ∷ 32 ∷ rest) ≡ Some (kind.Word, 2)

named_1 : Named 49
unfolding front
named_1 rest = refl

named_2 : Named 50
unfolding front
named_2 rest = refl

named_3 : Named 51
unfolding front
named_3 rest = refl

named_4 : Named 52
unfolding front
named_4 rest = refl

-- what holds where the number of the table is one digit holds of all four
module _ (P : ℕ → Type 0) (at : (table c : ℕ) → decimal table ≡ c ∷ [] → Named c → P table) where
  at_each : (table : ℕ) → 1 ≤ table → table ≤ 4 → P table
  at_each =
      by_table P (at 1 49 (decimal_digit 1 (omega arith)) named_1) (at 2 50 (decimal_digit 2 (omega arith)) named_2)
      (at 3 51 (decimal_digit 3 (omega arith)) named_3) (at 4 52 (decimal_digit 4 (omega arith)) named_4)

-- ---- CREATE TABLE

abbrev columns_made : List Lexeme
columns_made =
    (kind.Sign, codes "(") ∷ (kind.Word, codes "id") ∷ (kind.Word, codes "INT") ∷ (kind.Word, codes "PRIMARY")
    ∷ (kind.Word, codes "KEY") ∷ (kind.Sign, codes ",") ∷ (kind.Word, codes "v") ∷ (kind.Word, codes "BIGINT")
    ∷ (kind.Sign, codes ")") ∷ []

abbrev pub created : List ℕ → List Lexeme
created name = (kind.Word, codes "CREATE") ∷ (kind.Word, codes "TABLE") ∷ (kind.Word, name) ∷ columns_made

abbrev columns_text : List ℕ
columns_text = codes "(id INT PRIMARY KEY, v BIGINT)"

columns_cut : cut 0 columns_text ≡ Some columns_made
unfolding front
columns_cut =
    let close = token kind.Sign 41 [] [] [] refl refl refl refl in
    let bigint = token kind.Word 66 (codes "IGINT") (codes ")") _ refl refl refl close in
    let v = spaced kind.Word 118 [] (codes "BIGINT)") _ refl refl refl bigint in
    let comma = spaced kind.Sign 44 [] (codes "v BIGINT)") _ refl refl refl v in
    let key = token kind.Word 75 (codes "EY") (codes ", v BIGINT)") _ refl refl refl comma in
    let primary = spaced kind.Word 80 (codes "RIMARY") (codes "KEY, v BIGINT)") _ refl refl refl key in
    let int = spaced kind.Word 73 (codes "NT") (codes "PRIMARY KEY, v BIGINT)") _ refl refl refl primary in
    let id = spaced kind.Word 105 (codes "d") (codes "INT PRIMARY KEY, v BIGINT)") _ refl refl refl int in
    token kind.Sign 40 [] (codes "id INT PRIMARY KEY, v BIGINT)") _ refl refl refl id

create_cut : (c : ℕ) (rest : List ℕ) (ss : List Lexeme) → Named c → cut 0 rest ≡ Some ss
    → cut 0 (codes "CREATE TABLE t" ++ (c ∷ 32 ∷ rest))
    ≡ Some ((kind.Word, codes "CREATE") ∷ (kind.Word, codes "TABLE") ∷ (kind.Word, 116 ∷ c ∷ []) ∷ ss)
unfolding front
create_cut c rest ss is_name behind =
    let name = spaced kind.Word 116 (c ∷ []) rest ss refl refl (is_name rest) behind in
    let table = spaced kind.Word 84 (codes "ABLE") (116 ∷ c ∷ 32 ∷ rest) _ refl refl refl name in
    spaced kind.Word 67 (codes "REATE") (codes "TABLE t" ++ (c ∷ 32 ∷ rest)) _ refl refl refl table

create_at : (table c : ℕ) → decimal table ≡ c ∷ [] → Named c → cut 0 (create_text table) ≡ Some (created (table_name table))
create_at table c is is_name =
    ap (cut 0) (append_assoc (codes "CREATE TABLE t") (decimal table) (32 ∷ columns_text))
    ∙ ap (λ ds. cut 0 (codes "CREATE TABLE t" ++ (ds ++ (32 ∷ columns_text)))) is
    ∙ create_cut c columns_text _ is_name columns_cut ∙ ap (λ ds. Some (created (codes "t" ++ ds))) (sym is)

pub create_tokens : (table : ℕ) → 1 ≤ table → table ≤ 4 → cut 0 (create_text table) ≡ Some (created (table_name table))
create_tokens = at_each (λ table. cut 0 (create_text table) ≡ Some (created (table_name table))) create_at

-- ---- INSERT

abbrev values_put : List ℕ → List ℕ → List Lexeme
values_put row value =
    (kind.Word, codes "VALUES") ∷ (kind.Sign, codes "(") ∷ (kind.Number, row) ∷ (kind.Sign, codes ",")
    ∷ (kind.Number, value) ∷ (kind.Sign, codes ")") ∷ []

abbrev pub inserted : List ℕ → List ℕ → List ℕ → List Lexeme
inserted name row value = (kind.Word, codes "INSERT") ∷ (kind.Word, codes "INTO") ∷ (kind.Word, name) ∷ values_put row value

abbrev values_text : ℕ → ℕ → List ℕ
values_text row value = codes "VALUES (" ++ (decimal row ++ (codes ", " ++ (decimal value ++ codes ")")))

values_cut : (row value : ℕ) → row < 10 ^ 38 → value < 10 ^ 38
    → cut 0 (values_text row value) ≡ Some (values_put (decimal row) (decimal value))
unfolding front
values_cut row value few also =
    let close = token kind.Sign 41 [] [] [] refl refl refl refl in
    let second = decimal_token value (41 ∷ []) _ also (at_close []) close in
    let comma = spaced kind.Sign 44 [] (decimal value ++ 41 ∷ []) _ refl refl refl second in
    let first = decimal_token row (44 ∷ 32 ∷ (decimal value ++ 41 ∷ [])) _ few (at_comma _) comma in
    let open_ = token kind.Sign 40 [] (decimal row ++ (44 ∷ 32 ∷ (decimal value ++ 41 ∷ []))) _ refl refl refl first in
    spaced kind.Word 86 (codes "ALUES") (40 ∷ (decimal row ++ (44 ∷ 32 ∷ (decimal value ++ 41 ∷ [])))) _ refl refl refl open_

insert_cut : (c : ℕ) (rest : List ℕ) (ss : List Lexeme) → Named c → cut 0 rest ≡ Some ss
    → cut 0 (codes "INSERT INTO t" ++ (c ∷ 32 ∷ rest))
    ≡ Some ((kind.Word, codes "INSERT") ∷ (kind.Word, codes "INTO") ∷ (kind.Word, 116 ∷ c ∷ []) ∷ ss)
unfolding front
insert_cut c rest ss is_name behind =
    let name = spaced kind.Word 116 (c ∷ []) rest ss refl refl (is_name rest) behind in
    let into = spaced kind.Word 73 (codes "NTO") (116 ∷ c ∷ 32 ∷ rest) _ refl refl refl name in
    spaced kind.Word 73 (codes "NSERT") (codes "INTO t" ++ (c ∷ 32 ∷ rest)) _ refl refl refl into

six : (a b c d e f g : List ℕ) → a ++ b ++ c ++ d ++ e ++ f ++ g ≡ a ++ (b ++ (c ++ (d ++ (e ++ (f ++ g)))))
six a b c d e f g =
    append_assoc (a ++ b ++ c ++ d ++ e) f g ∙ append_assoc (a ++ b ++ c ++ d) e (f ++ g) ∙ append_assoc (a ++ b ++ c) d (e ++ (f ++ g))
    ∙ append_assoc (a ++ b) c (d ++ (e ++ (f ++ g))) ∙ append_assoc a b (c ++ (d ++ (e ++ (f ++ g))))

abbrev InsertTokens : ℕ → Type 0
InsertTokens table = (row : ℕ) → row < 10 ^ 38
    → cut 0 (insert_text table row) ≡ Some (inserted (table_name table) (decimal row) (decimal (value_of table row)))

insert_at : (table c : ℕ) → decimal table ≡ c ∷ [] → Named c → InsertTokens table
insert_at table c is is_name row few =
    let value = value_of table row in
    let behind = values_text row value in
    ap (cut 0) (six (codes "INSERT INTO t") (decimal table) (codes " VALUES (") (decimal row) (codes ", ") (decimal value) (codes ")"))
    ∙ ap (λ ds. cut 0 (codes "INSERT INTO t" ++ (ds ++ (32 ∷ behind)))) is
    ∙ insert_cut c behind _ is_name (values_cut row value few (omega arith))
    ∙ ap (λ ds. Some (inserted (codes "t" ++ ds) (decimal row) (decimal value))) (sym is)

pub insert_tokens : (table : ℕ) → 1 ≤ table → table ≤ 4 → InsertTokens table
insert_tokens = at_each InsertTokens insert_at

-- ---- UPDATE

abbrev set_put : List ℕ → List Lexeme
set_put row =
    (kind.Word, codes "SET") ∷ (kind.Word, codes "v") ∷ (kind.Sign, codes "=") ∷ (kind.Word, codes "v")
    ∷ (kind.Sign, codes "+") ∷ (kind.Number, codes "1") ∷ (kind.Word, codes "WHERE") ∷ (kind.Word, codes "id")
    ∷ (kind.Sign, codes "=") ∷ (kind.Number, row) ∷ []

abbrev pub updated : List ℕ → List ℕ → List Lexeme
updated name row = (kind.Word, codes "UPDATE") ∷ (kind.Word, name) ∷ set_put row

abbrev set_text : ℕ → List ℕ
set_text row = codes "SET v = v + 1 WHERE id = " ++ decimal row

set_cut : (row : ℕ) → row < 10 ^ 38 → cut 0 (set_text row) ≡ Some (set_put (decimal row))
unfolding front
set_cut row few =
    let number = ap (cut 0) (sym (append-nil (decimal row))) ∙ decimal_token row [] [] few at_end refl in
    let equal = spaced kind.Sign 61 [] (decimal row) _ refl refl refl number in
    let id = spaced kind.Word 105 (codes "d") (codes "= " ++ decimal row) _ refl refl refl equal in
    let where_ = spaced kind.Word 87 (codes "HERE") (codes "id = " ++ decimal row) _ refl refl refl id in
    let one = spaced kind.Number 49 [] (codes "WHERE id = " ++ decimal row) _ refl refl refl where_ in
    let plus = spaced kind.Sign 43 [] (codes "1 WHERE id = " ++ decimal row) _ refl refl refl one in
    let v = spaced kind.Word 118 [] (codes "+ 1 WHERE id = " ++ decimal row) _ refl refl refl plus in
    let becomes = spaced kind.Sign 61 [] (codes "v + 1 WHERE id = " ++ decimal row) _ refl refl refl v in
    let set_v = spaced kind.Word 118 [] (codes "= v + 1 WHERE id = " ++ decimal row) _ refl refl refl becomes in
    spaced kind.Word 83 (codes "ET") (codes "v = v + 1 WHERE id = " ++ decimal row) _ refl refl refl set_v

update_cut : (c : ℕ) (rest : List ℕ) (ss : List Lexeme) → Named c → cut 0 rest ≡ Some ss
    → cut 0 (codes "UPDATE t" ++ (c ∷ 32 ∷ rest)) ≡ Some ((kind.Word, codes "UPDATE") ∷ (kind.Word, 116 ∷ c ∷ []) ∷ ss)
unfolding front
update_cut c rest ss is_name behind =
    let name = spaced kind.Word 116 (c ∷ []) rest ss refl refl (is_name rest) behind in
    spaced kind.Word 85 (codes "PDATE") (116 ∷ c ∷ 32 ∷ rest) _ refl refl refl name

three : (a b c d : List ℕ) → a ++ b ++ c ++ d ≡ a ++ (b ++ (c ++ d))
three a b c d = append_assoc (a ++ b) c d ∙ append_assoc a b (c ++ d)

abbrev UpdateTokens : ℕ → Type 0
UpdateTokens table = (row : ℕ) → row < 10 ^ 38 → cut 0 (update_text table row) ≡ Some (updated (table_name table) (decimal row))

update_at : (table c : ℕ) → decimal table ≡ c ∷ [] → Named c → UpdateTokens table
update_at table c is is_name row few =
    ap (cut 0) (three (codes "UPDATE t") (decimal table) (codes " SET v = v + 1 WHERE id = ") (decimal row))
    ∙ ap (λ ds. cut 0 (codes "UPDATE t" ++ (ds ++ (32 ∷ set_text row)))) is
    ∙ update_cut c (set_text row) _ is_name (set_cut row few) ∙ ap (λ ds. Some (updated (codes "t" ++ ds) (decimal row))) (sym is)

pub update_tokens : (table : ℕ) → 1 ≤ table → table ≤ 4 → UpdateTokens table
update_tokens = at_each UpdateTokens update_at
