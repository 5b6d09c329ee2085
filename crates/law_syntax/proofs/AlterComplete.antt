-- ALTER TABLE and DROP TABLE of the grammar are read.
use Rattle.std.proofs.Common.{◌≡◌, ◌∙◌, ℕ, Bool, true, false, List, ◌∷◌, ◌++◌, refl, ap, codes}
use Rattle.sql_value.specs.declared.sql_type.SqlType.{SqlType}
use Rattle.sql_types.specs.declared.statement.Alter.{Alter}
use Rattle.sql_types.specs.declared.statement.Alter.TheVariants.{Add, DropColumn}
use Rattle.spec_grammar.specs.Tokens.{Lexemes, Word, IsName, OptionalPart, left_out, written}
use Rattle.spec_grammar.specs.Tables.{IsType}
use Rattle.spec_syntax.specs.declared.tag.Tag.{Tag}
use Rattle.spec_syntax.specs.declared.tag.Tag.TheVariants as t
use Rattle.spec_syntax.specs.Tags.{same_tag}
use Rattle.spec_syntax.specs.Input.{Sym, Input, Parser, ◌>>=◌, ◌>>◌, ◌<$>◌, pure, peek, tag, tag_at, next, eat, expect}
use Rattle.spec_syntax.specs.Expr.{name}
use Rattle.spec_syntax.specs.Table as b
use Rattle.law_printing.proofs.Repeats.{at_}
use Rattle.law_syntax.proofs.Terminals as w
use Rattle.law_syntax.proofs.ExprComplete.{syms, One, one}
use Rattle.law_syntax.proofs.ParsesTo.{ParsesTo, then_parses, flow, go, pure_parses, expects_parses, next_at, skips, name_parses, one_tag}
use Rattle.law_syntax.proofs.RowComplete.{ends}
use Rattle.law_syntax.proofs.TableComplete.{after_type, type_if}

-- ---- ADD

ends_type : (h : Tag) → ends h ≡ true → after_type h ≡ true
ends_type t.End e = refl
ends_type t.Semi e = refl
ends_type _ e = absurd (cc)

ends_no_null : (h : Tag) → ends h ≡ true → same_tag h t.Null ≡ false
unfolding same_tag
ends_no_null t.End e = refl
ends_no_null t.Semi e = refl
ends_no_null _ e = absurd (cc)

behind_type : {a : Lexemes} → OptionalPart (Word (codes "NULL")) a → (rest : List Sym) → ends (tag_at rest) ≡ true → after_type (tag_at (syms a ++ rest)) ≡ true
behind_type left_out rest fits = ends_type (tag_at rest) fits
behind_type (written {a = a} is) rest fits = ap after_type (one_tag (one w.null_ a is) rest)

add_read : (f k h : Lexemes) (table v : List ℕ) (ty : SqlType) → IsName f v → IsType k ty → OptionalPart (Word (codes "NULL")) h → (rest : List Sym) (n : ℕ) → ends (tag_at rest) ≡ true
    → ParsesTo (b.add table (at_ (syms (f ++ (k ++ h)) ++ rest) n)) (Add table (b.added_column v ty)) rest
unfolding b.add
add_read f k h table v ty named is null_ rest n fits =
    let x : Alter = Add table (b.added_column v ty) in
    go name (λ z. b.sql_type >>= (λ y. eat t.Null >> pure (Add table (b.added_column z y)))) f (k ++ h) rest rest n (name_parses named (syms (k ++ h) ++ rest) n)
    (λ m. go b.sql_type (λ y. eat t.Null >> pure (Add table (b.added_column v y))) k h rest rest m (type_if k ty is (syms h ++ rest) m (behind_type null_ rest fits))
    (λ l. skips t.Null w.null_ (pure x) x rest rest l null_ (ends_no_null (tag_at rest) fits) (pure_parses x rest l)))

-- ---- DROP COLUMN

drop_column_read : (f k : Lexemes) (table v : List ℕ) → Word (codes "COLUMN") f → IsName k v → (rest : List Sym) (n : ℕ) → ParsesTo (b.drop_column table (at_ (syms (f ++ k) ++ rest) n)) (DropColumn table v) rest
unfolding b.drop_column
drop_column_read f k table v is named rest n =
    go (expect t.Column) (λ _. DropColumn table <$> name) f k rest rest n (expects_parses (one w.column_ f is) (syms k ++ rest) n)
    (λ m. then_parses (λ z. pure (DropColumn table z)) (name_parses named rest m) (λ l. pure_parses (DropColumn table v) rest l))

-- ---- ALTER TABLE

alter_at : (table : List ℕ) (gt : Tag) (v : List ℕ) (rest : List Sym) (n : ℕ) → (peek >>= b.alter_by table) (at_ ((gt, v) ∷ rest) n) ≡ b.alter_by table gt (at_ ((gt, v) ∷ rest) n)
unfolding tag
alter_at table gt v rest n = refl

-- the word is taken, and the form behind it is read
altered : (table : List ℕ) (gt : Tag) (p : Parser Alter) → ((i : Input) → b.alter_by table gt i ≡ p (next i)) → (a e : Lexemes) (x : Alter) (end : List Sym) (n : ℕ) → One gt a → ParsesTo (p (at_ (syms e ++ end) n)) x end
    → ParsesTo ((peek >>= b.alter_by table) (at_ (syms (a ++ e) ++ end) n)) x end
altered table gt p same a e x end n k h = (
  h.0,
  ap (λ z. (peek >>= b.alter_by table) (at_ z n)) (flow a e end ∙ ap (λ z. z ++ (syms e ++ end)) k.is) ∙ alter_at table gt k.word_ (syms e ++ end) n ∙ same (at_ ((gt, k.word_) ∷ (syms e ++ end)) n)
      ∙ ap p (next_at gt k.word_ (syms e ++ end) n) ∙ h.1,
)

table_named : (e c d : Lexemes) (table : List ℕ) (x : Alter) → Word (codes "TABLE") e → IsName c table → (rest : List Sym) (n : ℕ) → ((m : ℕ) → ParsesTo ((peek >>= b.alter_by table) (at_ (syms d ++ rest) m)) x rest)
    → ParsesTo (b.alter_table (at_ (syms (e ++ (c ++ d)) ++ rest) n)) x rest
unfolding b.alter_table
table_named e c d table x is named rest n behind =
    go (expect t.Table) (λ _. name >>= (λ z. peek >>= b.alter_by z)) e (c ++ d) rest rest n (expects_parses (one w.table_ e is) (syms (c ++ d) ++ rest) n)
    (λ m. go name (λ z. peek >>= b.alter_by z) c d rest rest m (name_parses named (syms d ++ rest) m) behind)

pub add_column_read : (e c d f k h : Lexemes) (table v : List ℕ) (ty : SqlType) → Word (codes "TABLE") e → IsName c table → Word (codes "ADD") d → IsName f v → IsType k ty → OptionalPart (Word (codes "NULL")) h → (rest : List Sym) (n : ℕ)
    → ends (tag_at rest) ≡ true → ParsesTo (b.alter_table (at_ (syms (e ++ (c ++ (d ++ (f ++ (k ++ h))))) ++ rest) n)) (Add table (b.added_column v ty)) rest
add_column_read e c d f k h table v ty table_ of add_ named is null_ rest n fits =
    let x : Alter = Add table (b.added_column v ty) in
    table_named e c (d ++ (f ++ (k ++ h))) table x table_ of rest n
    (λ m. altered table t.Add (b.add table) (λ i. refl) d (f ++ (k ++ h)) x rest m (one w.add_ d add_) (add_read f k h table v ty named is null_ rest m fits))

pub column_dropped_read : (e c d f k : Lexemes) (table v : List ℕ) → Word (codes "TABLE") e → IsName c table → Word (codes "DROP") d → Word (codes "COLUMN") f → IsName k v → (rest : List Sym) (n : ℕ)
    → ParsesTo (b.alter_table (at_ (syms (e ++ (c ++ (d ++ (f ++ k)))) ++ rest) n)) (DropColumn table v) rest
column_dropped_read e c d f k table v table_ of drop_ column_ named rest n =
    table_named e c (d ++ (f ++ k)) table (DropColumn table v) table_ of rest n
    (λ m. altered table t.Drop (b.drop_column table) (λ i. refl) d (f ++ k) (DropColumn table v) rest m (one w.drop_ d drop_) (drop_column_read f k table v column_ named rest m))

-- ---- DROP TABLE

pub drop_table_read : (e c : Lexemes) (table : List ℕ) → Word (codes "TABLE") e → IsName c table → (rest : List Sym) (n : ℕ) → ParsesTo (b.drop_table (at_ (syms (e ++ c) ++ rest) n)) table rest
unfolding b.drop_table
drop_table_read e c table is named rest n = go (expect t.Table) (λ _. name) e c rest rest n (expects_parses (one w.table_ e is) (syms c ++ rest) n) (λ m. name_parses named rest m)
