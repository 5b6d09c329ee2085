-- Statements on rows that the parser reads are those of the grammar.
use Rattle.std.proofs.Common.{◌≡◌, ◌∙◌, ℕ, Bool, true, false, cond, if◌then◌else◌, List, [], ◌∷◌, ◌++◌, Option, Some, None, refl, ap, sym, subst, codes, ◌⊎◌, inl, inr}
use Rattle.std.proofs.lemmas.List.{append-nil}
use Rattle.sql_lex.specs.declared.token.Kind.{Kind}
use Rattle.sql_value.specs.declared.value.Value.{Value}
use Rattle.sql_value.specs.declared.value.Value.TheVariants as value
use Rattle.sql_value.specs.declared.expr.Expr.{Expr}
use Rattle.sql_types.specs.declared.statement.RowStmt.TheVariants.{Insert, Delete}
use Rattle.sql_types.specs.declared.statement.SelectList.{SelectList}
use Rattle.sql_types.specs.declared.statement.SelectList.TheVariants.{All, Columns, Aggs}
use Rattle.sql_types.specs.declared.statement.Agg.{Agg}
use Rattle.sql_types.specs.declared.statement.Agg.TheVariants as aggregate
use Rattle.spec_grammar.specs.Tokens.{Lexemes, Word, word, Sign, IsName, same_word, Optional, absent, present, Listed, Enclosed, enclosed}
use Rattle.spec_grammar.specs.Rows as g
use Rattle.spec_grammar.specs.Rows.{AreNames, IsCondition, IsValue, IsRow, IsInsert, IsAssignment, IsUpdate, IsDelete, IsAggregate, IsDirection, IsSorting, IsOrder, IsShown, IsSelect}
use Rattle.spec_syntax.specs.declared.tag.Tag.{Tag}
use Rattle.spec_syntax.specs.declared.tag.Tag.TheVariants as t
use Rattle.spec_syntax.specs.declared.word.CallName.{CallName}
use Rattle.spec_syntax.specs.declared.word.CallName.TheVariants as call
use Rattle.spec_syntax.specs.Tags.{tag_of}
use Rattle.spec_syntax.specs.Input.{Input, Outcome, Parser, and_then, ◌>>=◌, ◌>>◌, ◌<$>◌, pure, tag, text, next, sees, calls, after, eat, expect}
use Rattle.spec_syntax.specs.Words.{call_word, call_by, call_name}
use Rattle.spec_syntax.specs.Expr.{name, literal, whole}
use Rattle.spec_syntax.specs.Row as r
use Rattle.spec_syntax.specs.Select as s
use Rattle.law_syntax.proofs.Terminals as w
use Rattle.law_syntax.proofs.Terminals.{from, same_turned}
use Rattle.law_syntax.proofs.Leaves.{is_word}
use Rattle.law_syntax.proofs.Steps.{the_same, Follows, Part, part_of, moved, Seen, step, joins, built, may, expects, eats, name_follows, literal_leaf, number_follows, list_follows, required_some}
use Rattle.law_syntax.proofs.ExprSound.{Behind, eaten_or, whole_follows}

-- what a rule of the parser takes, behind a first word that was taken before
abbrev pub After : {A : Type 0} → (Lexemes → Type 0) → (Lexemes → A → Type 0) → Lexemes → A → Type 0
After first rule a x = (c : Lexemes) → first c → rule (c ++ a) x

-- ---- in parentheses

-- a part, then ')'
pub record Shut {A B : Type 0} (rule : Lexemes → A → Type 0) (f : A → B) (a : Lexemes) (y : B) (j : Input) : Type 0 where
  pub value : A
  pub inner : Lexemes
  pub close : Lexemes
  pub rest : Lexemes
  pub left : ℕ
  pub cut : a ≡ (inner ++ close) ++ rest
  pub is : rule inner value
  pub shut : Sign (codes ")") close
  pub then_ : ◌≡◌ {A = Outcome B} (Some (f value, from rest left)) (Some (y, j))

pub shuts : {A B : Type 0} {rule : Lexemes → A → Type 0} (p : Parser A) → Follows p rule → (f : A → B) (a : Lexemes) (n : ℕ) (y : B) (j : Input)
    → and_then (p (from a n)) (λ x. expect t.Close >> pure (f x)) ≡ Some (y, j) → Shut rule f a y j
shuts p follows f a n y j h =
    let s0 = step p follows _ a n y j h in
    let s1 = step (expect t.Close) (expects w.close_) _ s0.rest s0.left y j s0.then_ in
    record { value = s0.value; inner = s0.tokens; close = s1.tokens; rest = s1.rest; left = s1.left; cut = joins _ _ _ s0.cut s1.cut; is = s0.is; shut = s1.is; then_ = s1.then_ }

pub encloses : {A : Type 0} {rule : Lexemes → A → Type 0} (p : Parser A) → Follows p rule → Follows (expect t.Open >> (p >>= (λ x. expect t.Close >> pure x))) (Enclosed rule)
encloses {rule = rule} p follows a n x j h =
    let s0 = step (expect t.Open) (expects w.open_) _ a n x j h in
    let k = shuts p follows (λ z. z) s0.rest s0.left x j s0.then_ in
    built (Enclosed rule) (s0.tokens ++ (k.inner ++ k.close)) k.rest k.left (joins _ _ _ s0.cut k.cut) (enclosed s0.is k.is k.shut) k.then_

pub names_follow : Follows r.names AreNames
names_follow = list_follows name IsName name_follows

pub name_list_follows : Follows r.name_list (Enclosed AreNames)
unfolding r.name_list
name_list_follows = encloses r.names names_follow

-- ---- conditions

filter_by : (a : Lexemes) (n : ℕ) (x : Option Expr) (j : Input) → Behind t.Where a n (Some <$> whole) x j ⊎ (◌≡◌ {A = Outcome (Option Expr)} (Some (None, from a n)) (Some (x, j))) → Part (Optional IsCondition) a j x
filter_by a n x j (inl k) =
    let f = k.0 in
    let s0 = step whole whole_follows _ f.rest n x j k.1 in
    built (Optional IsCondition) ((f.kind_, f.word_) ∷ s0.tokens) s0.rest s0.left (f.cut ∙ ap (λ z. (f.kind_, f.word_) ∷ z) s0.cut) (present (g.condition (w.where_.gives f.kind_ f.word_ f.is) s0.is)) s0.then_
filter_by a n x j (inr h) = built (Optional IsCondition) [] a n refl absent h

pub filter_follows : Follows r.filter (Optional IsCondition)
unfolding r.filter after
filter_follows a n x j h = filter_by a n x j (eaten_or t.Where a n (Some <$> whole) (pure None) x j (sees t.Where (from a n)) refl h)

-- ---- INSERT

same_negated : (v : Value) → g.negated v ≡ r.negated v
same_negated value.Null = refl
same_negated (value.Num z v) = refl
same_negated (value.Text x) = refl
same_negated (value.Bytes x) = refl
same_negated (value.Date d) = refl

no_literal : {A : Type 0} (n : ℕ) (x : Value) (j : Input) → literal (from [] n) ≡ Some (x, j) → A
unfolding literal tag
no_literal n x j h = absurd (cc)

value_by_tag : (k : Kind) (v : List ℕ) (a : Lexemes) (n : ℕ) (x : Value) (j : Input) (g_ : Tag) → tag_of k v ≡ g_ → r.value_by g_ (from ((k, v) ∷ a) n) ≡ Some (x, j) → Part IsValue ((k, v) ∷ a) j x
unfolding next
value_by_tag k v a n x j t.Plus is h =
    let m = number_follows a n x j h in
    record { tokens = (k, v) ∷ m.tokens; rest = m.rest; left = m.left; cut = ap (λ z. (k, v) ∷ z) m.cut; met = m.met; is = g.positive (w.plus_.gives k v is) m.is }
value_by_tag k v a n x j t.Minus is h =
    let s0 = step r.number number_follows _ a n x j h in
    built IsValue ((k, v) ∷ s0.tokens) s0.rest s0.left (ap (λ z. (k, v) ∷ z) s0.cut) (g.negative (w.minus_.gives k v is) s0.is) (ap (λ z. Some (z, from s0.rest s0.left)) (same_negated s0.value) ∙ s0.then_)
value_by_tag k v a n x j _ is h =
    let m = part_of (literal_leaf ((k, v) ∷ a) n x j h) in
    record { tokens = m.tokens; rest = m.rest; left = m.left; cut = m.cut; met = m.met; is = g.literal m.is }

pub value_follows : Follows r.value IsValue
unfolding r.value tag
value_follows [] n x j h = no_literal n x j h
value_follows (s ∷ a) n x j h = value_by_tag s.0 s.1 a n x j (tag_of s.0 s.1) refl h

pub row_follows : Follows r.row IsRow
unfolding r.row
row_follows = encloses r.values (list_follows r.value IsValue value_follows)

columns_by : (a : Lexemes) (n : ℕ) (x : Option (List (List ℕ))) (j : Input) → Behind t.Open a n (do found ← r.names; expect t.Close; pure (Some found)) x j ⊎ (◌≡◌ {A = Outcome (Option (List (List ℕ)))} (Some (None, from a n)) (Some (x, j)))
    → Part (Optional (Enclosed AreNames)) a j x
columns_by a n x j (inl k) =
    let f = k.0 in
    let m = shuts r.names names_follow (λ z. Some z) f.rest n x j k.1 in
    built (Optional (Enclosed AreNames)) ((f.kind_, f.word_) ∷ (m.inner ++ m.close)) m.rest m.left (f.cut ∙ ap (λ z. (f.kind_, f.word_) ∷ z) m.cut)
    (present (enclosed (w.open_.gives f.kind_ f.word_ f.is) m.is m.shut)) m.then_
columns_by a n x j (inr h) = built (Optional (Enclosed AreNames)) [] a n refl absent h

pub columns_follow : Follows r.columns (Optional (Enclosed AreNames))
unfolding r.columns after
columns_follow a n x j h = columns_by a n x j (eaten_or t.Open a n (do found ← r.names; expect t.Close; pure (Some found)) (pure None) x j (sees t.Open (from a n)) refl h)

pub insert_follows : Follows r.insert (After (Word (codes "INSERT")) IsInsert)
unfolding r.insert
insert_follows a n x j h =
    let s0 = step (eat t.Into) (eats w.into_) (λ _. name >>= (λ table. r.columns >>= (λ found. expect t.Values >> (r.rows >>= (λ all. pure (Insert table found all)))))) a n x j h in
    let s1 = step name name_follows _ s0.rest s0.left x j s0.then_ in
    let s2 = step r.columns columns_follow _ s1.rest s1.left x j s1.then_ in
    let s3 = step (expect t.Values) (expects w.values_) _ s2.rest s2.left x j s2.then_ in
    let s4 = step r.rows (list_follows r.row IsRow row_follows) _ s3.rest s3.left x j s3.then_ in
    built (After (Word (codes "INSERT")) IsInsert) (s0.tokens ++ (s1.tokens ++ (s2.tokens ++ (s3.tokens ++ s4.tokens)))) s4.rest s4.left
    (joins _ _ _ s0.cut (joins _ _ _ s1.cut (joins _ _ _ s2.cut (joins _ _ _ s3.cut s4.cut))))
    (λ c first. g.insert first (may s0.value s0.is) s1.is s2.is s3.is s4.is) s4.then_

-- ---- UPDATE and DELETE

pub assignment_follows : Follows r.assignment IsAssignment
unfolding r.assignment
assignment_follows a n x j h =
    let s0 = step name name_follows _ a n x j h in
    let s1 = step (expect t.Equal) (expects w.equal_) _ s0.rest s0.left x j s0.then_ in
    let s2 = step whole whole_follows _ s1.rest s1.left x j s1.then_ in
    built IsAssignment (s0.tokens ++ (s1.tokens ++ s2.tokens)) s2.rest s2.left (joins _ _ _ s0.cut (joins _ _ _ s1.cut s2.cut)) (g.assignment s0.is s1.is s2.is) s2.then_

pub update_follows : Follows r.update (After (Word (codes "UPDATE")) IsUpdate)
unfolding r.update
update_follows a n x j h =
    let s0 = step name name_follows _ a n x j h in
    let s1 = step (expect t.Set) (expects w.set_) _ s0.rest s0.left x j s0.then_ in
    let s2 = step r.assignments (list_follows r.assignment IsAssignment assignment_follows) _ s1.rest s1.left x j s1.then_ in
    let s3 = step r.filter filter_follows _ s2.rest s2.left x j s2.then_ in
    built (After (Word (codes "UPDATE")) IsUpdate) (s0.tokens ++ (s1.tokens ++ (s2.tokens ++ s3.tokens))) s3.rest s3.left (joins _ _ _ s0.cut (joins _ _ _ s1.cut (joins _ _ _ s2.cut s3.cut)))
    (λ c first. g.update first s0.is s1.is s2.is s3.is) s3.then_

pub delete_follows : Follows r.delete (After (Word (codes "DELETE")) IsDelete)
unfolding r.delete
delete_follows a n x j h =
    let s0 = step (eat t.From) (eats w.from_) (λ _. name >>= (λ table. r.filter >>= (λ found. pure (Delete table found)))) a n x j h in
    let s1 = step name name_follows _ s0.rest s0.left x j s0.then_ in
    let s2 = step r.filter filter_follows _ s1.rest s1.left x j s1.then_ in
    built (After (Word (codes "DELETE")) IsDelete) (s0.tokens ++ (s1.tokens ++ s2.tokens)) s2.rest s2.left (joins _ _ _ s0.cut (joins _ _ _ s1.cut s2.cut))
    (λ c first. g.delete first (may s0.value s0.is) s1.is s2.is) s2.then_

-- ---- SELECT

-- the words that are called
abbrev pub spelled_call : CallName → List ℕ
spelled_call call.Count = codes "COUNT"
spelled_call call.Sum = codes "SUM"
spelled_call call.Sys = codes "sys"
spelled_call call.Digest = codes "sp_generate_database_ledger_digest"
spelled_call call.Image = codes "IMAGE"

-- a name that is found by its tests in turn
pub pick : {A : Type 0} (Q : A → Type 0) (c : Bool) (one : A) (rest : Option A) → (c ≡ true → Q one) → ((x : A) → rest ≡ Some x → Q x) → (x : A) → cond c (Some one) rest ≡ Some x → Q x
pick Q true one rest is others x e = subst Q (the_same e) (is refl)
pick Q false one rest is others x e = others x e

call_spelled : (v : List ℕ) (c : CallName) → call_name v ≡ Some c → same_word (spelled_call c) v ≡ true
unfolding call_name
call_spelled v =
    let Q : CallName → Type 0 = λ c. same_word (spelled_call c) v ≡ true in
    pick Q _ call.Count _ (λ is. same_turned v (codes "COUNT") is)
    (pick Q _ call.Sum _ (λ is. same_turned v (codes "SUM") is)
    (pick Q _ call.Sys _ (λ is. same_turned v (codes "sys") is)
    (pick Q _ call.Digest _ (λ is. same_turned v (codes "sp_generate_database_ledger_digest") is)
    (pick Q _ call.Image None (λ is. same_turned v (codes "IMAGE") is) (λ x e. absurd (cc))))))

abbrev pub IsCall : Lexemes → CallName → Type 0
IsCall a c = Word (spelled_call c) a

call_by_tag : (k : Kind) (v : List ℕ) (a : Lexemes) (n : ℕ) (x : CallName) (j : Input) (g_ : Tag) → tag_of k v ≡ g_ → call_by g_ (from ((k, v) ∷ a) n) ≡ Some (x, j) → Part IsCall ((k, v) ∷ a) j x
unfolding text next
call_by_tag k v a n x j t.Word is h =
    let given = required_some (call_name v) (from a n) j x h in
    let P : Kind → Type 0 = λ y. IsCall ((y, v) ∷ []) x in
    record { tokens = (k, v) ∷ []; rest = a; left = n; cut = refl; met = given.1; is = subst P (sym (is_word k v is)) (word v (call_spelled v x given.0)) }
call_by_tag k v a n x j _ is h = absurd (cc)

pub call_follows : Follows call_word IsCall
unfolding call_word tag
call_follows [] n x j h = absurd (cc)
call_follows (s ∷ a) n x j h = call_by_tag s.0 s.1 a n x j (tag_of s.0 s.1) refl h

-- what stands between the parentheses of a call
abbrev Called : CallName → Lexemes → Agg → Type 0
Called call.Count a x = Sign (codes "*") a × (aggregate.Count ≡ x)
Called call.Sum a x = (n : List ℕ) × IsName a n × (aggregate.Sum n ≡ x)
Called _ a x = ⊥

agg_by_follows : (c : CallName) → Follows (s.agg_by c) (Called c)
agg_by_follows call.Count a n x j h =
    let s0 = step (expect t.Star) (expects w.star_) _ a n x j h in
    built (Called call.Count) s0.tokens s0.rest s0.left s0.cut (s0.is, refl) s0.then_
agg_by_follows call.Sum a n x j h =
    let s0 = step name name_follows _ a n x j h in
    built (Called call.Sum) s0.tokens s0.rest s0.left s0.cut (s0.value, s0.is, refl) s0.then_
agg_by_follows _ a n x j h = absurd (cc)

agg_is : (c : CallName) (x : Agg) (a b e f : Lexemes) → Word (spelled_call c) a → Sign (codes "(") b → Called c e x → Sign (codes ")") f → IsAggregate (a ++ (b ++ (e ++ f))) x
agg_is call.Count x a b e f first open_ is close_ = moved IsAggregate refl is.1 (g.count first open_ is.0 close_)
agg_is call.Sum x a b e f first open_ is close_ = moved IsAggregate refl is.2 (g.sum first open_ is.1 close_)
agg_is _ x a b e f first open_ is close_ = absurd is

pub agg_follows : Follows s.agg IsAggregate
unfolding s.agg
agg_follows a n x j h =
    let s0 = step call_word call_follows _ a n x j h in
    let s1 = step (expect t.Open) (expects w.open_) _ s0.rest s0.left x j s0.then_ in
    let s2 = step (s.agg_by s0.value) (agg_by_follows s0.value) _ s1.rest s1.left x j s1.then_ in
    let s3 = step (expect t.Close) (expects w.close_) _ s2.rest s2.left x j s2.then_ in
    built IsAggregate (s0.tokens ++ (s1.tokens ++ (s2.tokens ++ s3.tokens))) s3.rest s3.left (joins _ _ _ s0.cut (joins _ _ _ s1.cut (joins _ _ _ s2.cut s3.cut)))
    (agg_is s0.value s2.value s0.tokens s1.tokens s2.tokens s3.tokens s0.is s1.is s2.is s3.is) s3.then_

-- what is shown: columns, or aggregates
abbrev IsWhat : Lexemes → SelectList → Type 0
IsWhat a x = IsShown a x ⊎ ((all : List Agg) × Listed IsAggregate a all × (Aggs all ≡ x))

shown_by : (a : Lexemes) (n : ℕ) (x : SelectList) (j : Input) → Behind t.Star a n (pure All) x j ⊎ ((Columns <$> r.names) (from a n) ≡ Some (x, j)) → Part IsWhat a j x
shown_by a n x j (inl k) =
    let f = k.0 in
    built IsWhat ((f.kind_, f.word_) ∷ []) f.rest n f.cut (inl (g.all (w.star_.gives f.kind_ f.word_ f.is))) k.1
shown_by a n x j (inr h) =
    let s0 = step r.names names_follow _ a n x j h in
    built IsWhat s0.tokens s0.rest s0.left s0.cut (inl (g.columns s0.is)) s0.then_

what_by : (a : Lexemes) (n : ℕ) (x : SelectList) (j : Input) (b : Bool) → cond b ((Aggs <$> s.aggs) (from a n)) ((do star ← eat t.Star; if star then pure All else Columns <$> r.names) (from a n)) ≡ Some (x, j) → Part IsWhat a j x
unfolding after
what_by a n x j true h =
    let s0 = step s.aggs (list_follows s.agg IsAggregate agg_follows) _ a n x j h in
    built IsWhat s0.tokens s0.rest s0.left s0.cut (inr (s0.value, s0.is, refl)) s0.then_
what_by a n x j false h = shown_by a n x j (eaten_or t.Star a n (pure All) (Columns <$> r.names) x j (sees t.Star (from a n)) refl h)

what_follows : Follows s.what IsWhat
unfolding s.what
what_follows a n x j h = what_by a n x j (calls (from a n)) h

falls_other : (a : Lexemes) (n : ℕ) (x : Bool) (j : Input) (b : Bool) → Seen (Word (codes "DESC")) a b → IsDirection a b
falls_other a n x j true is = g.falls is
falls_other a n x j false is = moved IsDirection (sym is) refl g.unsaid

falls_by : (a : Lexemes) (n : ℕ) (x : Bool) (j : Input) → Behind t.Asc a n (pure false) x j ⊎ (eat t.Desc (from a n) ≡ Some (x, j)) → Part IsDirection a j x
falls_by a n x j (inl k) =
    let f = k.0 in
    built IsDirection ((f.kind_, f.word_) ∷ []) f.rest n f.cut (g.rises (w.asc_.gives f.kind_ f.word_ f.is)) k.1
falls_by a n x j (inr h) =
    let k = eats w.desc_ a n x j h in
    record { tokens = k.tokens; rest = k.rest; left = k.left; cut = k.cut; met = k.met; is = falls_other k.tokens n x j x k.is }

falls_follow : Follows s.falls IsDirection
unfolding s.falls after
falls_follow a n x j h = falls_by a n x j (eaten_or t.Asc a n (pure false) (eat t.Desc) x j (sees t.Asc (from a n)) refl h)

sort_follows : Follows s.sort IsSorting
unfolding s.sort
sort_follows a n x j h =
    let s0 = step name name_follows _ a n x j h in
    let s1 = step s.falls falls_follow _ s0.rest s0.left x j s0.then_ in
    built IsSorting (s0.tokens ++ s1.tokens) s1.rest s1.left (joins _ _ _ s0.cut s1.cut) (g.sorting s0.is s1.is) s1.then_

order_by : (a : Lexemes) (n : ℕ) (x : List (List ℕ × Bool)) (j : Input) → Behind t.Order a n (expect t.By >> s.sorts) x j ⊎ (◌≡◌ {A = Outcome (List (List ℕ × Bool))} (Some ([], from a n)) (Some (x, j))) → Part IsOrder a j x
order_by a n x j (inl k) =
    let f = k.0 in
    let s0 = step (expect t.By) (expects w.by_) _ f.rest n x j k.1 in
    let m = list_follows s.sort IsSorting sort_follows s0.rest s0.left x j s0.then_ in
    record {
      tokens = (f.kind_, f.word_) ∷ (s0.tokens ++ m.tokens);
      rest = m.rest;
      left = m.left;
      cut = f.cut ∙ ap (λ z. (f.kind_, f.word_) ∷ z) (joins _ _ _ s0.cut m.cut);
      met = m.met;
      is = g.ordered (w.order_.gives f.kind_ f.word_ f.is) s0.is m.is;
    }
order_by a n x j (inr h) = built IsOrder [] a n refl g.unordered h

order_follows : Follows s.order IsOrder
unfolding s.order after
order_follows a n x j h = order_by a n x j (eaten_or t.Order a n (expect t.By >> s.sorts) (pure []) x j (sees t.Order (from a n)) refl h)

abbrev OrderOf : SelectList → Lexemes → List (List ℕ × Bool) → Type 0
OrderOf (Aggs all) a by = (a ≡ []) × ([] ≡ by)
OrderOf _ a by = IsOrder a by

order_of_follows : (x : SelectList) → Follows (s.order_of x) (OrderOf x)
order_of_follows All a n x j h = order_follows a n x j h
order_of_follows (Columns ns) a n x j h = order_follows a n x j h
order_of_follows (Aggs all) a n x j h = built (OrderOf (Aggs all)) [] a n refl (refl, refl) h

shown_order : {a b : Lexemes} {x : SelectList} {by : List (List ℕ × Bool)} → IsShown a x → OrderOf x b by → IsOrder b by
shown_order (g.all star) is = is
shown_order (g.columns names_) is = is

aggregates_are : (all : List Agg) (z a b c e f : Lexemes) (table : List ℕ) (cond_ : Option Expr) (by : List (List ℕ × Bool)) → Word (codes "SELECT") z → Listed IsAggregate a all → Word (codes "FROM") b → IsName c table
    → Optional IsCondition e cond_ → OrderOf (Aggs all) f by → IsSelect (z ++ (a ++ (b ++ (c ++ (e ++ f))))) (record { table = table; what = Aggs all; cond = cond_; order = by })
aggregates_are all z a b c e f table cond_ by first is from_ named filtered o =
    let P : Lexemes → List (List ℕ × Bool) → Type 0 = λ u v. IsSelect (z ++ (a ++ (b ++ (c ++ u)))) (record { table = table; what = Aggs all; cond = cond_; order = v }) in
    subst (λ u. P u by) (sym (ap (λ u. e ++ u) o.0 ∙ append-nil e)) (subst (λ v. P e v) o.1 (g.aggregates first is from_ named filtered))

select_is : (x : SelectList) (a b c e f : Lexemes) (table : List ℕ) (cond_ : Option Expr) (by : List (List ℕ × Bool)) → IsWhat a x → Word (codes "FROM") b → IsName c table → Optional IsCondition e cond_ → OrderOf x f by
    → After (Word (codes "SELECT")) IsSelect (a ++ (b ++ (c ++ (e ++ f)))) (record { table = table; what = x; cond = cond_; order = by })
select_is x a b c e f table cond_ by (inl shown) from_ named filtered ordered_ =
    λ z first. g.rows first shown from_ named filtered (shown_order shown ordered_)
select_is x a b c e f table cond_ by (inr k) from_ named filtered ordered_ =
    let Q : SelectList → Type 0 = λ y. OrderOf y f by → After (Word (codes "SELECT")) IsSelect (a ++ (b ++ (c ++ (e ++ f)))) (record { table = table; what = y; cond = cond_; order = by }) in
    subst Q k.2 (λ o z first. aggregates_are k.0 z a b c e f table cond_ by first k.1 from_ named filtered o) ordered_

pub select_follows : Follows s.select (After (Word (codes "SELECT")) IsSelect)
unfolding s.select
select_follows a n x j h =
    let s0 = step s.what what_follows _ a n x j h in
    let s1 = step (expect t.From) (expects w.from_) _ s0.rest s0.left x j s0.then_ in
    let s2 = step name name_follows _ s1.rest s1.left x j s1.then_ in
    let s3 = step r.filter filter_follows _ s2.rest s2.left x j s2.then_ in
    let s4 = step (s.order_of s0.value) (order_of_follows s0.value) _ s3.rest s3.left x j s3.then_ in
    built (After (Word (codes "SELECT")) IsSelect) (s0.tokens ++ (s1.tokens ++ (s2.tokens ++ (s3.tokens ++ s4.tokens)))) s4.rest s4.left
    (joins _ _ _ s0.cut (joins _ _ _ s1.cut (joins _ _ _ s2.cut (joins _ _ _ s3.cut s4.cut))))
    (select_is s0.value s0.tokens s1.tokens s2.tokens s3.tokens s4.tokens s2.value s3.value s4.value s0.is s1.is s2.is s3.is s4.is) s4.then_
