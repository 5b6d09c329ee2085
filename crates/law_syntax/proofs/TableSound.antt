-- CREATE TABLE and CREATE INDEX that the parser reads are those of the grammar.
use Rattle.std.proofs.Common.{◌≡◌, ◌∙◌, ◌≤◌, ℕ, zero, suc, Bool, true, false, cond, if◌then◌else◌, List, [], ◌∷◌, ◌++◌, map, length, nat_le, Option, Some, None, refl, ap, sym, subst, codes, ◌⊎◌, inl, inr, arith, append_assoc, bytes_eq, ◌||◌}
use Rattle.std.specs.Prelude.{flat_map, not}
use Rattle.std.specs.List.{list_any}
use Rattle.std.proofs.lemmas.List.{append-nil}
use Rattle.std.proofs.lemmas.Bool.Decides.{nat_tests}
use Rattle.sql_lex.specs.declared.token.Kind.{Kind}
use Rattle.sql_value.specs.Literal.{digits_after}
use Rattle.sql_value.specs.declared.sql_type.SqlType.{SqlType}
use Rattle.sql_value.specs.declared.sql_type.SqlType.TheVariants as sql
use Rattle.sql_value.specs.declared.column.ColumnDef.{ColumnDef}
use Rattle.spec_grammar.specs.Tokens.{Lexemes, Word, Sign, Known, named, same_word, Listed, last, more as more_listed, Enclosed, enclosed}
use Rattle.spec_grammar.specs.Tables as g
use Rattle.spec_grammar.specs.Tables.{IsDigits, digits, IsPrecision, IsType, IsNullability, IsKeyMark, IsItem, keys_in, keys_of, columns_in, columns_of, is_nullable, one_or_none}
use Rattle.spec_syntax.specs.declared.tag.Tag.{Tag}
use Rattle.spec_syntax.specs.declared.tag.Tag.TheVariants as t
use Rattle.spec_syntax.specs.declared.word.TypeName.{TypeName}
use Rattle.spec_syntax.specs.declared.word.TypeName.TheVariants as type_name
use Rattle.spec_syntax.specs.declared.word.OptionName.{OptionName}
use Rattle.spec_syntax.specs.declared.word.OptionName.TheVariants as option
use Rattle.spec_syntax.specs.declared.column.Column.{Column}
use Rattle.spec_syntax.specs.declared.column.Draft.{Draft}
use Rattle.spec_syntax.specs.declared.column.Item.{Item}
use Rattle.spec_syntax.specs.declared.column.Item.TheVariants as item
use Rattle.spec_syntax.specs.Tags.{tag_of}
use Rattle.spec_syntax.specs.Input.{Input, Outcome, Parser, ◌>>=◌, ◌>>◌, pure, tag, text, next, sees, after, eat, expect, required, fold, fold_from, tokens_left}
use Rattle.spec_syntax.specs.Words.{type_word, option_word, type_name as name_of_type, option_name}
use Rattle.spec_syntax.specs.Expr.{name}
use Rattle.spec_syntax.specs.Row as r
use Rattle.spec_syntax.specs.Table as b
use Rattle.law_syntax.proofs.Terminals as w
use Rattle.law_syntax.proofs.Terminals.{from, same_turned}
use Rattle.law_syntax.proofs.Leaves.{is_number}
use Rattle.law_syntax.proofs.Steps.{the_same, Follows, Part, moved, Seen, Step, step, joins, built, may, expects, eats, name_follows, required_some}
use Rattle.law_syntax.proofs.ExprSound.{Behind, eaten_or}
use Rattle.law_syntax.proofs.RowSound.{After, encloses, pick, name_list_follows}

-- ---- words that aren't reserved

abbrev pub spelled_type : TypeName → List ℕ
spelled_type type_name.Bit = codes "BIT"
spelled_type type_name.Int = codes "INT"
spelled_type type_name.BigInt = codes "BIGINT"
spelled_type type_name.Date = codes "DATE"
spelled_type type_name.Decimal = codes "DECIMAL"
spelled_type type_name.NVarChar = codes "NVARCHAR"
spelled_type type_name.VarBinary = codes "VARBINARY"

abbrev pub spelled_option : OptionName → List ℕ
spelled_option option.Ledger = codes "LEDGER"
spelled_option option.SystemVersioning = codes "SYSTEM_VERSIONING"
spelled_option option.HistoryTable = codes "HISTORY_TABLE"
spelled_option option.LedgerView = codes "LEDGER_VIEW"
spelled_option option.AppendOnly = codes "APPEND_ONLY"

type_spelled : (v : List ℕ) (c : TypeName) → name_of_type v ≡ Some c → same_word (spelled_type c) v ≡ true
unfolding name_of_type
type_spelled v =
    let Q : TypeName → Type 0 = λ c. same_word (spelled_type c) v ≡ true in
    pick Q _ type_name.Bit _ (λ is. same_turned v (codes "BIT") is)
    (pick Q _ type_name.Int _ (λ is. same_turned v (codes "INT") is)
    (pick Q _ type_name.BigInt _ (λ is. same_turned v (codes "BIGINT") is)
    (pick Q _ type_name.Date _ (λ is. same_turned v (codes "DATE") is)
    (pick Q _ type_name.Decimal _ (λ is. same_turned v (codes "DECIMAL") is)
    (pick Q _ type_name.NVarChar _ (λ is. same_turned v (codes "NVARCHAR") is)
    (pick Q _ type_name.VarBinary None (λ is. same_turned v (codes "VARBINARY") is) (λ x e. absurd (cc))))))))

option_spelled : (v : List ℕ) (c : OptionName) → option_name v ≡ Some c → same_word (spelled_option c) v ≡ true
unfolding option_name
option_spelled v =
    let Q : OptionName → Type 0 = λ c. same_word (spelled_option c) v ≡ true in
    pick Q _ option.Ledger _ (λ is. same_turned v (codes "LEDGER") is)
    (pick Q _ option.SystemVersioning _ (λ is. same_turned v (codes "SYSTEM_VERSIONING") is)
    (pick Q _ option.HistoryTable _ (λ is. same_turned v (codes "HISTORY_TABLE") is)
    (pick Q _ option.LedgerView _ (λ is. same_turned v (codes "LEDGER_VIEW") is)
    (pick Q _ option.AppendOnly None (λ is. same_turned v (codes "APPEND_ONLY") is) (λ x e. absurd (cc))))))

-- an option, at its end
pub required_built : {A : Type 0} (rule : Lexemes → A → Type 0) (a tokens rest : Lexemes) (left : ℕ) (o : Option A) (x : A) (j : Input) → a ≡ tokens ++ rest → ((y : A) → o ≡ Some y → rule tokens y) → required o (from rest left) ≡ Some (x, j)
    → Part rule a j x
required_built rule a tokens rest left o x j cut is h =
    let given = required_some o (from rest left) j x h in
    record { tokens = tokens; rest = rest; left = left; cut = cut; met = given.1; is = is x given.0 }

abbrev pub IsTypeWord : Lexemes → TypeName → Type 0
IsTypeWord a x = Known (spelled_type x) a

abbrev pub IsOptionWord : Lexemes → OptionName → Type 0
IsOptionWord a x = Known (spelled_option x) a

type_word_follows : Follows type_word IsTypeWord
unfolding type_word
type_word_follows a n x j h =
    let s0 = step name name_follows (λ v. required (name_of_type v)) a n x j h in
    required_built IsTypeWord a s0.tokens s0.rest s0.left (name_of_type s0.value) x j s0.cut (λ y e. named s0.is (type_spelled s0.value y e)) s0.then_

pub option_word_follows : Follows option_word IsOptionWord
unfolding option_word
option_word_follows a n x j h =
    let s0 = step name name_follows (λ v. required (option_name v)) a n x j h in
    required_built IsOptionWord a s0.tokens s0.rest s0.left (option_name s0.value) x j s0.cut (λ y e. named s0.is (option_spelled s0.value y e)) s0.then_

-- ---- types

digits_if : (v : List ℕ) (n : ℕ) (c : Bool) → nat_le (length v) 9 ≡ c → cond c (digits_after 0 v) None ≡ Some n → (length v ≤ 9) × (digits_after 0 v ≡ Some n)
digits_if v n false is h = absurd (cc)
digits_if v n true is h = (grind (arith, nat_tests), h)

digits_by_tag : (k : Kind) (v : List ℕ) (a : Lexemes) (n : ℕ) (x : ℕ) (j : Input) (g_ : Tag) → tag_of k v ≡ g_ → b.digits_by g_ (from ((k, v) ∷ a) n) ≡ Some (x, j) → Part IsDigits ((k, v) ∷ a) j x
unfolding text next b.digits_of
digits_by_tag k v a n x j t.Number is h =
    let given = required_some (b.digits_of v) (from a n) j x h in
    let few = digits_if v x (nat_le (length v) 9) refl given.0 in
    let P : Kind → Type 0 = λ y. IsDigits ((y, v) ∷ []) x in
    record { tokens = (k, v) ∷ []; rest = a; left = n; cut = refl; met = given.1; is = subst P (sym (is_number k v is)) (digits v few.0 few.1) }
digits_by_tag k v a n x j _ is h = absurd (cc)

digits_follow : Follows b.digits IsDigits
unfolding b.digits tag
digits_follow [] n x j h = absurd (cc)
digits_follow (s ∷ a) n x j h = digits_by_tag s.0 s.1 a n x j (tag_of s.0 s.1) refl h

size_follows : Follows b.size (Enclosed IsDigits)
unfolding b.size
size_follows = encloses b.digits digits_follow

-- the second number of a DECIMAL
abbrev IsScale : Lexemes → ℕ → Type 0
IsScale a s = (p : ℕ) (c : Lexemes) → IsDigits c p → IsPrecision (c ++ a) (p, s)

scale_by : (a : Lexemes) (n : ℕ) (x : ℕ) (j : Input) → Behind t.Comma a n b.digits x j ⊎ (◌≡◌ {A = Outcome ℕ} (Some (0, from a n)) (Some (x, j))) → Part IsScale a j x
scale_by a n x j (inl k) =
    let f = k.0 in
    let m = digits_follow f.rest n x j k.1 in
    record {
      tokens = (f.kind_, f.word_) ∷ m.tokens;
      rest = m.rest;
      left = m.left;
      cut = f.cut ∙ ap (λ z. (f.kind_, f.word_) ∷ z) m.cut;
      met = m.met;
      is = λ p c first. g.scaled first (w.comma_.gives f.kind_ f.word_ f.is) m.is;
    }
scale_by a n x j (inr h) = built IsScale [] a n refl (λ p c first. moved IsPrecision (sym (append-nil c)) refl (g.whole first)) h

scale_follows : Follows b.scale IsScale
unfolding b.scale after
scale_follows a n x j h = scale_by a n x j (eaten_or t.Comma a n b.digits (pure 0) x j (sees t.Comma (from a n)) refl h)

abbrev BehindDecimal : Lexemes → SqlType → Type 0
BehindDecimal = After (Known (codes "DECIMAL")) IsType

decimal_by : (a : Lexemes) (n : ℕ) (x : SqlType) (j : Input) → Behind t.Open a n (do p ← b.digits; s ← b.scale; expect t.Close; pure (sql.Decimal p s)) x j ⊎ (◌≡◌ {A = Outcome SqlType} (Some (sql.Decimal 18 0, from a n)) (Some (x, j)))
    → Part BehindDecimal a j x
decimal_by a n x j (inl k) =
    let f = k.0 in
    let s0 = step b.digits digits_follow _ f.rest n x j k.1 in
    let s1 = step b.scale scale_follows _ s0.rest s0.left x j s0.then_ in
    let s2 = step (expect t.Close) (expects w.close_) _ s1.rest s1.left x j s1.then_ in
    built BehindDecimal ((f.kind_, f.word_) ∷ ((s0.tokens ++ s1.tokens) ++ s2.tokens)) s2.rest s2.left
    (f.cut ∙ ap (λ z. (f.kind_, f.word_) ∷ z) (joins (s0.tokens ++ s1.tokens) s2.tokens s2.rest (joins _ _ _ s0.cut s1.cut) s2.cut))
    (λ c first. g.decimal_of first (enclosed (w.open_.gives f.kind_ f.word_ f.is) (s1.is s0.value s0.tokens s0.is) s2.is)) s2.then_
decimal_by a n x j (inr h) = built BehindDecimal [] a n refl (λ c first. moved IsType (sym (append-nil c)) refl (g.decimal first)) h

decimal_follows : Follows b.decimal BehindDecimal
unfolding b.decimal after
decimal_follows a n x j h = decimal_by a n x j (eaten_or t.Open a n (do p ← b.digits; s ← b.scale; expect t.Close; pure (sql.Decimal p s)) (pure (sql.Decimal 18 0)) x j (sees t.Open (from a n)) refl h)

abbrev BehindType : TypeName → Lexemes → SqlType → Type 0
BehindType c = After (Known (spelled_type c)) IsType

plain_type : (c : TypeName) (ty : SqlType) → ((a : Lexemes) → Known (spelled_type c) a → IsType a ty) → (a : Lexemes) (n : ℕ) (x : SqlType) (j : Input) → ◌≡◌ {A = Outcome SqlType} (Some (ty, from a n)) (Some (x, j)) → Part (BehindType c) a j x
plain_type c ty is a n x j h = built (BehindType c) [] a n refl (λ e first. moved IsType (sym (append-nil e)) refl (is e first)) h

type_by_follows : (c : TypeName) (a : Lexemes) (n : ℕ) (x : SqlType) (j : Input) → b.type_by c (from a n) ≡ Some (x, j) → Part (BehindType c) a j x
type_by_follows type_name.Bit a n x j h = plain_type type_name.Bit sql.Bit (λ e is. g.bit is) a n x j h
type_by_follows type_name.Int a n x j h = plain_type type_name.Int sql.Int (λ e is. g.int is) a n x j h
type_by_follows type_name.BigInt a n x j h = plain_type type_name.BigInt sql.BigInt (λ e is. g.bigint is) a n x j h
type_by_follows type_name.Date a n x j h = plain_type type_name.Date sql.Date (λ e is. g.date is) a n x j h
type_by_follows type_name.Decimal a n x j h = decimal_follows a n x j h
type_by_follows type_name.NVarChar a n x j h =
    let s0 = step b.size size_follows (λ m. pure (sql.NVarChar m)) a n x j h in
    built (BehindType type_name.NVarChar) s0.tokens s0.rest s0.left s0.cut (λ c first. g.nvarchar first s0.is) s0.then_
type_by_follows type_name.VarBinary a n x j h =
    let s0 = step b.size size_follows (λ m. pure (sql.VarBinary m)) a n x j h in
    built (BehindType type_name.VarBinary) s0.tokens s0.rest s0.left s0.cut (λ c first. g.varbinary first s0.is) s0.then_

pub type_follows : Follows b.sql_type IsType
unfolding b.sql_type
type_follows a n x j h =
    let s0 = step type_word type_word_follows b.type_by a n x j h in
    let k = type_by_follows s0.value s0.rest s0.left x j s0.then_ in
    record { tokens = s0.tokens ++ k.tokens; rest = k.rest; left = k.left; cut = joins _ _ _ s0.cut k.cut; met = k.met; is = k.is s0.tokens s0.is }

-- ---- items

nullable_by_tag : (k : Kind) (v : List ℕ) (a : Lexemes) (n : ℕ) (x : Option Bool) (j : Input) (g_ : Tag) → tag_of k v ≡ g_ → b.nullable_by g_ (from ((k, v) ∷ a) n) ≡ Some (x, j) → Part IsNullability ((k, v) ∷ a) j x
unfolding next
nullable_by_tag k v a n x j t.Null is h = built IsNullability ((k, v) ∷ []) a n refl (g.null (w.null_.gives k v is)) h
nullable_by_tag k v a n x j t.Not is h =
    let s0 = step (expect t.Null) (expects w.null_) (λ _. pure (Some false)) a n x j h in
    built IsNullability ((k, v) ∷ s0.tokens) s0.rest s0.left (ap (λ z. (k, v) ∷ z) s0.cut) (g.not_null (w.not_.gives k v is) s0.is) s0.then_
nullable_by_tag k v a n x j _ is h = built IsNullability [] ((k, v) ∷ a) n refl g.unsaid h

nullable_follows : Follows b.nullable IsNullability
unfolding b.nullable tag
nullable_follows [] n x j h = built IsNullability [] [] n refl g.unsaid h
nullable_follows (s ∷ a) n x j h = nullable_by_tag s.0 s.1 a n x j (tag_of s.0 s.1) refl h

key_mark_by : (a : Lexemes) (n : ℕ) (x : Bool) (j : Input) → Behind t.Primary a n (do expect t.Key; eat t.Clustered; pure true) x j ⊎ (◌≡◌ {A = Outcome Bool} (Some (false, from a n)) (Some (x, j))) → Part IsKeyMark a j x
key_mark_by a n x j (inl k) =
    let f = k.0 in
    let s0 = step (expect t.Key) (expects w.key_) (λ _. eat t.Clustered >> pure true) f.rest n x j k.1 in
    let s1 = step (eat t.Clustered) (eats w.clustered_) (λ _. pure true) s0.rest s0.left x j s0.then_ in
    built IsKeyMark ((f.kind_, f.word_) ∷ (s0.tokens ++ s1.tokens)) s1.rest s1.left (f.cut ∙ ap (λ z. (f.kind_, f.word_) ∷ z) (joins _ _ _ s0.cut s1.cut))
    (g.marked (g.primary (w.primary_.gives f.kind_ f.word_ f.is) s0.is (may s1.value s1.is))) s1.then_
key_mark_by a n x j (inr h) = built IsKeyMark [] a n refl g.unmarked h

key_mark_follows : Follows b.is_key IsKeyMark
unfolding b.is_key after
key_mark_follows a n x j h = key_mark_by a n x j (eaten_or t.Primary a n (do expect t.Key; eat t.Clustered; pure true) (pure false) x j (sees t.Primary (from a n)) refl h)

-- an item as the grammar has it
abbrev pub item_of : Item → g.Item
item_of (item.Column c marked) = g.Column c.name c.ty c.nullable marked
item_of (item.Key ns) = g.Key ns

abbrev pub IsItemOf : Lexemes → Item → Type 0
IsItemOf a x = IsItem a (item_of x)

column_follows : Follows b.column IsItemOf
unfolding b.column
column_follows a n x j h =
    let s0 = step name name_follows _ a n x j h in
    let s1 = step b.sql_type type_follows _ s0.rest s0.left x j s0.then_ in
    let s2 = step b.nullable nullable_follows _ s1.rest s1.left x j s1.then_ in
    let s3 = step b.is_key key_mark_follows _ s2.rest s2.left x j s2.then_ in
    built IsItemOf (s0.tokens ++ (s1.tokens ++ (s2.tokens ++ s3.tokens))) s3.rest s3.left (joins _ _ _ s0.cut (joins _ _ _ s1.cut (joins _ _ _ s2.cut s3.cut))) (g.column s0.is s1.is s2.is s3.is) s3.then_

key_follows : Follows b.key (After (Word (codes "PRIMARY")) IsItemOf)
unfolding b.key
key_follows a n x j h =
    let s0 = step (expect t.Key) (expects w.key_) (λ _. eat t.Clustered >> (r.name_list >>= (λ names. pure (item.Key names)))) a n x j h in
    let s1 = step (eat t.Clustered) (eats w.clustered_) (λ _. r.name_list >>= (λ names. pure (item.Key names))) s0.rest s0.left x j s0.then_ in
    let s2 = step r.name_list name_list_follows (λ names. pure (item.Key names)) s1.rest s1.left x j s1.then_ in
    built (After (Word (codes "PRIMARY")) IsItemOf) ((s0.tokens ++ s1.tokens) ++ s2.tokens) s2.rest s2.left (joins (s0.tokens ++ s1.tokens) s2.tokens s2.rest (joins _ _ _ s0.cut s1.cut) s2.cut)
    (λ c first. moved IsItem (append_assoc c (s0.tokens ++ s1.tokens) s2.tokens) refl (g.table_key (g.primary first s0.is (may s1.value s1.is)) s2.is)) s2.then_

item_by_tag : (k : Kind) (v : List ℕ) (a : Lexemes) (n : ℕ) (x : Item) (j : Input) (g_ : Tag) → tag_of k v ≡ g_ → b.item_by g_ (from ((k, v) ∷ a) n) ≡ Some (x, j) → Part IsItemOf ((k, v) ∷ a) j x
unfolding next
item_by_tag k v a n x j t.Primary is h =
    let m = key_follows a n x j h in
    record { tokens = (k, v) ∷ m.tokens; rest = m.rest; left = m.left; cut = ap (λ z. (k, v) ∷ z) m.cut; met = m.met; is = m.is ((k, v) ∷ []) (w.primary_.gives k v is) }
item_by_tag k v a n x j _ is h = column_follows ((k, v) ∷ a) n x j h

one_item_follows : Follows b.one_item IsItemOf
unfolding b.one_item tag
one_item_follows [] n x j h = column_follows [] n x j h
one_item_follows (s ∷ a) n x j h = item_by_tag s.0 s.1 a n x j (tag_of s.0 s.1) refl h

-- ---- each item in turn

-- one or more that add to what was read so far
module _ {A X : Type 0} (turn : A → Parser A) (rule : Lexemes → X → Type 0) (Holds : A → List X → Type 0) where
  -- what one of them adds
  abbrev pub Adds : A → Lexemes → A → Type 0
  Adds found a new = (x : X) × rule a x × ((xs : List X) → Holds found xs → Holds new (xs ++ x ∷ []))

  abbrev pub AddAll : A → Lexemes → A → Type 0
  AddAll found a new = (ys : List X) × Listed rule a ys × ((xs : List X) → Holds found xs → Holds new (xs ++ ys))

  module _ (follows : (found : A) → Follows (turn found) (Adds found)) where
    abbrev Rest : ℕ → A → Bool → Parser A
    Rest m x c = if c then fold_from turn m x else pure x

    turns_by : (m : ℕ) (found : A) (a : Lexemes) (new : A) (j : Input) (b : Bool) (s : Step (Adds found) a (λ x. eat t.Comma >>= Rest m x) new j) (c : Step (Seen (Sign (codes ","))) s.rest (Rest m s.value) new j) → c.value ≡ b
        → ((x : A) (e : Lexemes) (k : ℕ) → fold_from turn m x (from e k) ≡ Some (new, j) → Part (AddAll x) e j new) → Part (AddAll found) a j new
    turns_by m found a new j false s c is again =
        let none : Seen (Sign (codes ",")) c.tokens false = subst (λ z. Seen (Sign (codes ",")) c.tokens z) is c.is in
        let end : pure s.value (from c.rest c.left) ≡ Some (new, j) = subst (λ z. Rest m s.value z (from c.rest c.left) ≡ Some (new, j)) is c.then_ in
        built (AddAll found) s.tokens c.rest c.left (s.cut ∙ ap (λ z. s.tokens ++ z) (c.cut ∙ ap (λ z. z ++ c.rest) none))
        ((s.is).0 ∷ [], last (s.is).1, (s.is).2) end
    turns_by m found a new j true s c is again =
        let comma : Seen (Sign (codes ",")) c.tokens true = subst (λ z. Seen (Sign (codes ",")) c.tokens z) is c.is in
        let more : fold_from turn m s.value (from c.rest c.left) ≡ Some (new, j) = subst (λ z. Rest m s.value z (from c.rest c.left) ≡ Some (new, j)) is c.then_ in
        let k = again s.value c.rest c.left more in
        record {
          tokens = s.tokens ++ (c.tokens ++ k.tokens);
          rest = k.rest;
          left = k.left;
          cut = joins _ _ _ s.cut (joins _ _ _ c.cut k.cut);
          met = k.met;
          is = ((s.is).0 ∷ (k.is).0, more_listed (s.is).1 comma (k.is).1, λ xs holds. subst (Holds new) (append_assoc xs ((s.is).0 ∷ []) (k.is).0) ((k.is).2 (xs ++ (s.is).0 ∷ []) ((s.is).2 xs holds)));
        }

    turns : (m : ℕ) (found : A) (a : Lexemes) (n : ℕ) (new : A) (j : Input) → fold_from turn m found (from a n) ≡ Some (new, j) → Part (AddAll found) a j new
    unfolding fold_from
    turns zero found a n new j h = absurd (cc)
    turns (suc m) found a n new j h =
        let s = step (turn found) (follows found) (λ x. eat t.Comma >>= Rest m x) a n new j h in
        let c = step (eat t.Comma) (eats w.comma_) (Rest m s.value) s.rest s.left new j s.then_ in
        turns_by m found a new j c.value s c refl (λ x e k is. turns m x e k new j is)

    pub fold_follows : (found : A) → Follows (fold turn found) (AddAll found)
    unfolding fold
    fold_follows found a n new j h = turns (tokens_left (from a n)) found a n new j h

flat_last : {A B : Type 0} (f : A → List B) (xs : List A) (x : A) → flat_map f (xs ++ x ∷ []) ≡ flat_map f xs ++ f x
flat_last f [] x = append-nil (f x)
flat_last f (y ∷ ys) x = ap (λ z. f y ++ z) (flat_last f ys x) ∙ sym (append_assoc (f y) (flat_map f ys) (f x))

map_last : {A B : Type 0} (f : A → B) (xs : List A) (x : A) → map f (xs ++ x ∷ []) ≡ map f xs ++ f x ∷ []
map_last f [] x = refl
map_last f (y ∷ ys) x = ap (λ z. f y ∷ z) (map_last f ys x)

-- the draft has the keys and the columns of the items
pub record Drafts (d : Draft) (xs : List g.Item) : Type 0 where
  pub keys : keys_of xs ≡ one_or_none d.key
  pub columns : (key : List (List ℕ)) → columns_of key xs ≡ map (b.column_def key) d.columns

in_any_by : (c x y : Bool) → x ≡ y → cond c true x ≡ (c || y)
in_any_by true x y h = refl
in_any_by false x y h = h

-- a column with this nullability
abbrev pub defined_ : Column → Bool → ColumnDef
defined_ c z = record { name = c.name; ty = c.ty; nullable = z; key_position = 0 }

in_any : (ns : List (List ℕ)) (n : List ℕ) → b.is_in ns n ≡ list_any (λ k. bytes_eq k n) ns
in_any [] n = refl
in_any (m ∷ ns) n = in_any_by (bytes_eq m n) (b.is_in ns n) (list_any (λ k. bytes_eq k n) ns) (in_any ns n)

pub nullable_same : (key : List (List ℕ)) (n : List ℕ) (said : Option Bool) → is_nullable key n said ≡ b.nullable_of said (b.is_in key n)
nullable_same key n (Some said) = refl
nullable_same key n None = ap not (sym (in_any key n))

column_same : (key : List (List ℕ)) (c : Column) (marked : Bool) → columns_in key (item_of (item.Column c marked)) ≡ b.column_def key c ∷ []
column_same key c marked = ap (λ (z : Bool). defined_ c z ∷ []) (nullable_same key c.name c.nullable)

no_keys : (d : Draft) (xs : List g.Item) (x : Item) → Drafts d xs → keys_in (item_of x) ≡ [] → keys_of (xs ++ item_of x ∷ []) ≡ one_or_none d.key
no_keys d xs x k none = flat_last keys_in xs (item_of x) ∙ ap (λ z. keys_of xs ++ z) none ∙ append-nil (keys_of xs) ∙ k.keys

one_key : (o : Option (List (List ℕ))) (xs : List g.Item) (x : g.Item) (ns : List (List ℕ)) → keys_of xs ≡ one_or_none o → o ≡ None → keys_in x ≡ ns ∷ [] → keys_of (xs ++ x ∷ []) ≡ ns ∷ []
one_key o xs x ns keys none is = flat_last keys_in xs x ∙ ap (λ z. z ++ keys_in x) (keys ∙ ap one_or_none none) ∙ is

more_columns : (d : Draft) (xs : List g.Item) (c : Column) (marked : Bool) → Drafts d xs → (key : List (List ℕ)) → columns_of key (xs ++ item_of (item.Column c marked) ∷ []) ≡ map (b.column_def key) (d.columns ++ c ∷ [])
more_columns d xs c marked k key =
    flat_last (columns_in key) xs (item_of (item.Column c marked)) ∙ ap (λ z. columns_of key xs ++ z) (column_same key c marked) ∙ ap (λ z. z ++ b.column_def key c ∷ []) (k.columns key) ∙ sym (map_last (b.column_def key) d.columns c)

keyed : (columns : List Column) (o : Option (List (List ℕ))) (ns : List (List ℕ)) (new : Draft) → b.with_key columns o ns ≡ Some new → (o ≡ None) × (◌≡◌ {A = Draft} (record { columns = columns; key = Some ns }) new)
keyed columns None ns new h = (refl, the_same h)
keyed columns (Some old) ns new h = absurd (cc)

drafted : (d : Draft) (x : Item) (new : Draft) → b.with_item d x ≡ Some new → (xs : List g.Item) → Drafts d xs → Drafts new (xs ++ item_of x ∷ [])
drafted d (item.Column c false) new h xs k =
    subst (λ z. Drafts z (xs ++ item_of (item.Column c false) ∷ [])) (the_same h) (record { keys = no_keys d xs (item.Column c false) k refl; columns = more_columns d xs c false k })
drafted d (item.Column c true) new h xs k =
    let key = keyed (d.columns ++ c ∷ []) d.key (c.name ∷ []) new h in
    subst (λ z. Drafts z (xs ++ item_of (item.Column c true) ∷ [])) key.1
    (record { keys = one_key d.key xs (item_of (item.Column c true)) (c.name ∷ []) k.keys key.0 refl; columns = more_columns d xs c true k })
drafted d (item.Key ns) new h xs k =
    let key = keyed d.columns d.key ns new h in
    subst (λ z. Drafts z (xs ++ item_of (item.Key ns) ∷ [])) key.1
    (record { keys = one_key d.key xs (g.Key ns) ns k.keys key.0 refl; columns = λ z. flat_last (columns_in z) xs (g.Key ns) ∙ append-nil (columns_of z xs) ∙ k.columns z })

item_step_follows : (d : Draft) → Follows (b.item_step d) (Adds b.item_step IsItem Drafts d)
unfolding b.item_step
item_step_follows d a n x j h =
    let s0 = step b.one_item one_item_follows (λ found. required (b.with_item d found)) a n x j h in
    required_built (Adds b.item_step IsItem Drafts d) a s0.tokens s0.rest s0.left (b.with_item d s0.value) x j s0.cut (λ y e. (item_of s0.value, s0.is, drafted d s0.value y e)) s0.then_

pub items_follow : Follows (b.items b.no_items) (λ a d. (xs : List g.Item) × Listed IsItem a xs × Drafts d xs)
items_follow a n x j h =
    let k = fold_follows b.item_step IsItem Drafts item_step_follows b.no_items a n x j h in
    record { tokens = k.tokens; rest = k.rest; left = k.left; cut = k.cut; met = k.met; is = ((k.is).0, (k.is).1, (k.is).2 [] (record { keys = refl; columns = λ key. refl })) }
