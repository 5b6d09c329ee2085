-- ALTER TABLE and DROP TABLE that the parser reads are those of the grammar.
use Rattle.std.proofs.Common.{◌≡◌, ℕ, List, [], ◌∷◌, ◌++◌, Some, refl, ap, codes}
use Rattle.sql_lex.specs.declared.token.Kind.{Kind}
use Rattle.sql_types.specs.declared.statement.Alter.{Alter}
use Rattle.sql_types.specs.declared.statement.Alter.TheVariants.{Add, DropColumn}
use Rattle.spec_grammar.specs.Tokens.{Lexemes, Word, IsName}
use Rattle.spec_grammar.specs.Tables as g
use Rattle.spec_grammar.specs.Tables.{IsAlter, IsDrop}
use Rattle.spec_syntax.specs.declared.tag.Tag.{Tag}
use Rattle.spec_syntax.specs.declared.tag.Tag.TheVariants as t
use Rattle.spec_syntax.specs.Tags.{tag_of}
use Rattle.spec_syntax.specs.Input.{Input, ◌>>=◌, ◌>>◌, ◌<$>◌, pure, peek, tag, next, eat, expect}
use Rattle.spec_syntax.specs.Expr.{name}
use Rattle.spec_syntax.specs.Table as b
use Rattle.law_syntax.proofs.Terminals as w
use Rattle.law_syntax.proofs.Terminals.{from}
use Rattle.law_syntax.proofs.Steps.{Follows, Part, step, joins, built, may, expects, eats, name_follows}
use Rattle.law_syntax.proofs.RowSound.{After}
use Rattle.law_syntax.proofs.TableSound.{type_follows}

-- behind ALTER TABLE and the table's name
abbrev BehindName : List ℕ → Lexemes → Alter → Type 0
BehindName table a x = (c e f : Lexemes) → Word (codes "ALTER") c → Word (codes "TABLE") e → IsName f table → IsAlter (c ++ (e ++ (f ++ a))) x

-- and a word
abbrev BehindWord : List ℕ → List ℕ → Lexemes → Alter → Type 0
BehindWord known table a x = (c e f k : Lexemes) → Word (codes "ALTER") c → Word (codes "TABLE") e → IsName f table → Word known k → IsAlter (c ++ (e ++ (f ++ (k ++ a)))) x

add_follows : (table : List ℕ) → Follows (b.add table) (BehindWord (codes "ADD") table)
unfolding b.add
add_follows table a n x j h =
    let s0 = step name name_follows (λ v. b.sql_type >>= (λ ty. eat t.Null >> pure (Add table (b.added_column v ty)))) a n x j h in
    let s1 = step b.sql_type type_follows (λ ty. eat t.Null >> pure (Add table (b.added_column s0.value ty))) s0.rest s0.left x j s0.then_ in
    let s2 = step (eat t.Null) (eats w.null_) (λ _. pure (Add table (b.added_column s0.value s1.value))) s1.rest s1.left x j s1.then_ in
    built (BehindWord (codes "ADD") table) (s0.tokens ++ (s1.tokens ++ s2.tokens)) s2.rest s2.left (joins _ _ _ s0.cut (joins _ _ _ s1.cut s2.cut))
    (λ c e f k alter_ table_ named add_. g.add alter_ table_ named add_ s0.is s1.is (may s2.value s2.is)) s2.then_

drop_column_follows : (table : List ℕ) → Follows (b.drop_column table) (BehindWord (codes "DROP") table)
unfolding b.drop_column
drop_column_follows table a n x j h =
    let s0 = step (expect t.Column) (expects w.column_) (λ _. DropColumn table <$> name) a n x j h in
    let s1 = step name name_follows (λ v. pure (DropColumn table v)) s0.rest s0.left x j s0.then_ in
    built (BehindWord (codes "DROP") table) (s0.tokens ++ s1.tokens) s1.rest s1.left (joins _ _ _ s0.cut s1.cut)
    (λ c e f k alter_ table_ named drop_. g.drop_column alter_ table_ named drop_ s0.is s1.is) s1.then_

-- the word is taken
worded : (known table : List ℕ) (k : Kind) (v : List ℕ) (a : Lexemes) (x : Alter) (j : Input) → Word known ((k, v) ∷ []) → Part (BehindWord known table) a j x → Part (BehindName table) ((k, v) ∷ a) j x
worded known table k v a x j is m = record {
  tokens = (k, v) ∷ m.tokens;
  rest = m.rest;
  left = m.left;
  cut = ap (λ z. (k, v) ∷ z) m.cut;
  met = m.met;
  is = λ c e f alter_ table_ named. m.is c e f ((k, v) ∷ []) alter_ table_ named is;
}

alter_by_tag : (table : List ℕ) (k : Kind) (v : List ℕ) (a : Lexemes) (n : ℕ) (x : Alter) (j : Input) (g_ : Tag) → tag_of k v ≡ g_ → b.alter_by table g_ (from ((k, v) ∷ a) n) ≡ Some (x, j) → Part (BehindName table) ((k, v) ∷ a) j x
unfolding next
alter_by_tag table k v a n x j t.Add is h = worded (codes "ADD") table k v a x j (w.add_.gives k v is) (add_follows table a n x j h)
alter_by_tag table k v a n x j t.Drop is h = worded (codes "DROP") table k v a x j (w.drop_.gives k v is) (drop_column_follows table a n x j h)
alter_by_tag table k v a n x j _ is h = absurd (cc)

named_follows : (table : List ℕ) → Follows (peek >>= b.alter_by table) (BehindName table)
unfolding tag
named_follows table [] n x j h = absurd (cc)
named_follows table (s ∷ a) n x j h = alter_by_tag table s.0 s.1 a n x j (tag_of s.0 s.1) refl h

pub alter_table_follows : Follows b.alter_table (After (Word (codes "ALTER")) IsAlter)
unfolding b.alter_table
alter_table_follows a n x j h =
    let s0 = step (expect t.Table) (expects w.table_) (λ _. name >>= (λ table. peek >>= b.alter_by table)) a n x j h in
    let s1 = step name name_follows (λ table. peek >>= b.alter_by table) s0.rest s0.left x j s0.then_ in
    let m = named_follows s1.value s1.rest s1.left x j s1.then_ in
    record {
      tokens = s0.tokens ++ (s1.tokens ++ m.tokens);
      rest = m.rest;
      left = m.left;
      cut = joins _ _ _ s0.cut (joins _ _ _ s1.cut m.cut);
      met = m.met;
      is = λ c alter_. m.is c s0.tokens s1.tokens alter_ s0.is s1.is;
    }

pub drop_table_follows : Follows b.drop_table (After (Word (codes "DROP")) IsDrop)
unfolding b.drop_table
drop_table_follows a n x j h =
    let s0 = step (expect t.Table) (expects w.table_) (λ _. name) a n x j h in
    let m = name_follows s0.rest s0.left x j s0.then_ in
    record {
      tokens = s0.tokens ++ m.tokens;
      rest = m.rest;
      left = m.left;
      cut = joins _ _ _ s0.cut m.cut;
      met = m.met;
      is = λ c drop_. g.drop_table drop_ s0.is m.is;
    }
