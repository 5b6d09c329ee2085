-- What a CREATE TABLE says of the ledger, as the parser reads it, is what the grammar has.
use Rattle.std.proofs.Common.{◌≡◌, ◌∙◌, ◌≤◌, ◌<◌, ℕ, ◌+◌, Bool, true, false, cond, if◌then◌else◌, List, [], ◌∷◌, ◌++◌, map, length, Option, Some, None, refl, ap, sym, subst, codes, ◌⊎◌, inl, inr, arith, append_assoc, rules, drop}
use Rattle.std.proofs.lemmas.List.{append-nil}
use denote.Enum.Bare.{same_true}
use Rattle.sql_value.specs.declared.column.ColumnDef.{ColumnDef}
use Rattle.sql_value.specs.declared.column.TableKind.{TableKind}
use Rattle.sql_value.specs.declared.column.TableKind.TheVariants.{Updatable}
use Rattle.sql_types.specs.declared.statement.CreateTable.{CreateTable}
use Rattle.sql_types.specs.declared.statement.CreateIndex.{CreateIndex}
use Rattle.spec_grammar.specs.Tokens.{Lexemes, Word, Sign, IsName, Known, OptionalPart, Optional, absent, present, Listed, last, more as more_listed, Enclosed, enclosed}
use Rattle.spec_grammar.specs.Tables as g
use Rattle.spec_grammar.specs.Tables.{IsItem, keys_of, columns_of, IsHistory, IsView, IsOn, IsVersions, IsUpdatable, IsChoice, listed, appends, views, one_or_none, kind_of, IsLedger, IsLedgerPart, IsCreateTable, IsCreateIndex}
use Rattle.spec_syntax.specs.declared.tag.Tag.TheVariants as t
use Rattle.spec_syntax.specs.declared.word.OptionName.{OptionName}
use Rattle.spec_syntax.specs.declared.word.OptionName.TheVariants as option
use Rattle.spec_syntax.specs.declared.column.Column.{Column}
use Rattle.spec_syntax.specs.declared.ledger.Ledger.{Ledger}
use Rattle.spec_syntax.specs.declared.ledger.Choices.{Choices}
use Rattle.spec_syntax.specs.declared.ledger.Choice.{Choice}
use Rattle.spec_syntax.specs.declared.ledger.Choice.TheVariants as choice
use Rattle.spec_syntax.specs.contracts.word.OptionName as options
use Rattle.spec_syntax.specs.Input.{Input, Outcome, Parser, ◌>>=◌, ◌>>◌, ◌<$>◌, pure, refuse, sees, after, eat, expect, required}
use Rattle.spec_syntax.specs.Words.{option_word}
use Rattle.spec_syntax.specs.Expr.{name}
use Rattle.spec_syntax.specs.Row as r
use Rattle.spec_syntax.specs.Table as b
use Rattle.spec_syntax.specs.Ledger as p
use Rattle.law_syntax.proofs.Terminals as w
use Rattle.law_syntax.proofs.Terminals.{from}
use Rattle.law_syntax.proofs.Steps.{the_same, Follows, Part, moved, step, joins, built, expects, name_follows}
use Rattle.law_syntax.proofs.ExprSound.{Behind, eaten_or}
use Rattle.law_syntax.proofs.RowSound.{After, shuts, name_list_follows}
use Rattle.law_syntax.proofs.TableSound.{required_built, spelled_option, option_word_follows, Adds, fold_follows, items_follow}

same_option_true : (a c : OptionName) → p.same_option a c ≡ true → a ≡ c
unfolding p.same_option
same_option_true a c h = same_true options.the_type (search rules) a c h

-- a word that is expected
abbrev IsThe : OptionName → Lexemes → Unit {0} → Type 0
IsThe wanted a u = Known (spelled_option wanted) a

the_by : (wanted found : OptionName) (c : Bool) (tokens rest : Lexemes) (left : ℕ) (a : Lexemes) (x : Unit {0}) (j : Input) → a ≡ tokens ++ rest → Known (spelled_option found) tokens → p.same_option found wanted ≡ c
    → (if c then pure tt else refuse) (from rest left) ≡ Some (x, j) → Part (IsThe wanted) a j x
the_by wanted found false tokens rest left a x j cut is same h = absurd (cc)
the_by wanted found true tokens rest left a x j cut is same h = built (IsThe wanted) tokens rest left cut (subst (λ z. Known (spelled_option z) tokens) (same_option_true found wanted same) is) h

the_follows : (wanted : OptionName) → Follows (p.the_option wanted) (IsThe wanted)
unfolding p.the_option
the_follows wanted a n x j h =
    let s0 = step option_word option_word_follows (λ found. if p.same_option found wanted then pure tt else refuse) a n x j h in
    the_by wanted s0.value (p.same_option s0.value wanted) s0.tokens s0.rest s0.left a x j s0.cut s0.is refl s0.then_

-- ---- choices

abbrev choice_of : Choice → g.Choice
choice_of choice.AppendOnly = g.Append
choice_of (choice.View n) = g.View n

abbrev IsChoiceOf : Lexemes → Choice → Type 0
IsChoiceOf a x = IsChoice a (choice_of x)

abbrev IsChoiceWord : Lexemes → Type 0
IsChoiceWord = Known (codes "APPEND_ONLY")

-- '=' ON
abbrev EqualOn : Lexemes → Unit {0} → Type 0
EqualOn a u = (c : Lexemes) → IsChoiceWord c → IsChoice (c ++ a) g.Append

equal_on_follows : Follows (expect t.Equal >> expect t.On) EqualOn
equal_on_follows a n x j h =
    let s0 = step (expect t.Equal) (expects w.equal_) (λ _. expect t.On) a n x j h in
    let k = expects w.on_ s0.rest s0.left x j s0.then_ in
    record { tokens = s0.tokens ++ k.tokens; rest = k.rest; left = k.left; cut = joins _ _ _ s0.cut k.cut; met = k.met; is = λ c first. g.append (g.on first s0.is k.is) }

choice_by_follows : (o : OptionName) → Follows (p.choice_by o) (After (Known (spelled_option o)) IsChoiceOf)
choice_by_follows option.AppendOnly a n x j h =
    let s0 = step (expect t.Equal >> expect t.On) equal_on_follows (λ _. pure choice.AppendOnly) a n x j h in
    built (After (Known (spelled_option option.AppendOnly)) IsChoiceOf) s0.tokens s0.rest s0.left s0.cut (λ c first. s0.is c first) s0.then_
choice_by_follows option.LedgerView a n x j h =
    let s0 = step (expect t.Equal) (expects w.equal_) (λ _. choice.View <$> name) a n x j h in
    let s1 = step name name_follows (λ v. pure (choice.View v)) s0.rest s0.left x j s0.then_ in
    built (After (Known (spelled_option option.LedgerView)) IsChoiceOf) (s0.tokens ++ s1.tokens) s1.rest s1.left (joins _ _ _ s0.cut s1.cut) (λ c first. g.view (g.view_name first s0.is s1.is)) s1.then_
choice_by_follows _ a n x j h = absurd (cc)

one_choice_follows : Follows p.one_choice IsChoiceOf
unfolding p.one_choice
one_choice_follows a n x j h =
    let s0 = step option_word option_word_follows p.choice_by a n x j h in
    let k = choice_by_follows s0.value s0.rest s0.left x j s0.then_ in
    record { tokens = s0.tokens ++ k.tokens; rest = k.rest; left = k.left; cut = joins _ _ _ s0.cut k.cut; met = k.met; is = k.is s0.tokens s0.is }

abbrev pub once : Bool → ℕ
once true = 1
once false = 0

-- what was chosen so far
pub record Chose (c : Choices) (xs : List g.Choice) : Type 0 where
  pub appended : appends xs ≡ once c.append_only
  pub viewed : views xs ≡ one_or_none c.view

appends_last : (xs : List g.Choice) → appends (xs ++ g.Append ∷ []) ≡ appends xs + 1
appends_last [] = refl
appends_last (g.Append ∷ xs) = ap (λ z. z + 1) (appends_last xs)
appends_last (g.View n ∷ xs) = appends_last xs

appends_view : (xs : List g.Choice) (n : List ℕ) → appends (xs ++ g.View n ∷ []) ≡ appends xs
appends_view [] n = refl
appends_view (g.Append ∷ xs) n = ap (λ z. z + 1) (appends_view xs n)
appends_view (g.View m ∷ xs) n = appends_view xs n

views_last : (xs : List g.Choice) (n : List ℕ) → views (xs ++ g.View n ∷ []) ≡ views xs ++ n ∷ []
views_last [] n = refl
views_last (g.Append ∷ xs) n = views_last xs n
views_last (g.View m ∷ xs) n = ap (λ z. m ∷ z) (views_last xs n)

views_append : (xs : List g.Choice) → views (xs ++ g.Append ∷ []) ≡ views xs
views_append [] = refl
views_append (g.Append ∷ xs) = views_append xs
views_append (g.View m ∷ xs) = ap (λ z. m ∷ z) (views_append xs)

append_chosen : (c : Choices) (b_ : Bool) (new : Choices) → c.append_only ≡ b_ → cond b_ None (Some (record { append_only = true; view = c.view })) ≡ Some new → (xs : List g.Choice) → Chose c xs → Chose new (xs ++ g.Append ∷ [])
append_chosen c true new is h xs k = absurd (cc)
append_chosen c false new is h xs k =
    subst (λ z. Chose z (xs ++ g.Append ∷ [])) (the_same h)
    (record { appended = appends_last xs ∙ ap (λ z. z + 1) (k.appended ∙ ap once is); viewed = views_append xs ∙ k.viewed })

view_chosen : (append_only : Bool) (o : Option (List ℕ)) (n : List ℕ) (new : Choices) → p.with_view append_only o n ≡ Some new → (xs : List g.Choice) → appends xs ≡ once append_only → views xs ≡ one_or_none o → Chose new (xs ++ g.View n ∷ [])
view_chosen append_only (Some old) n new h xs appended viewed = absurd (cc)
view_chosen append_only None n new h xs appended viewed =
    subst (λ z. Chose z (xs ++ g.View n ∷ [])) (the_same h)
    (record { appended = appends_view xs n ∙ appended; viewed = views_last xs n ∙ ap (λ z. z ++ n ∷ []) viewed })

chosen_by : (c : Choices) (x : Choice) (new : Choices) → p.with_choice c x ≡ Some new → (xs : List g.Choice) → Chose c xs → Chose new (xs ++ choice_of x ∷ [])
chosen_by c choice.AppendOnly new h xs k = append_chosen c c.append_only new refl h xs k
chosen_by c (choice.View n) new h xs k = view_chosen c.append_only c.view n new h xs k.appended k.viewed

choice_step_follows : (c : Choices) → Follows (p.choice_step c) (Adds p.choice_step IsChoice Chose c)
unfolding p.choice_step
choice_step_follows c a n x j h =
    let s0 = step p.one_choice one_choice_follows (λ found. required (p.with_choice c found)) a n x j h in
    required_built (Adds p.choice_step IsChoice Chose c) a s0.tokens s0.rest s0.left (p.with_choice c s0.value) x j s0.cut (λ y e. (choice_of s0.value, s0.is, chosen_by c s0.value y e)) s0.then_

abbrev AreChoices : Lexemes → Choices → Type 0
AreChoices a c = (xs : List g.Choice) × Listed IsChoice a xs × Chose c xs

none_chosen : Chose p.no_choices []
none_chosen = record { appended = refl; viewed = refl }

choices_follow : Follows (p.choices p.no_choices) AreChoices
choices_follow a n x j h =
    let k = fold_follows p.choice_step IsChoice Chose choice_step_follows p.no_choices a n x j h in
    record { tokens = k.tokens; rest = k.rest; left = k.left; cut = k.cut; met = k.met; is = ((k.is).0, (k.is).1, (k.is).2 [] none_chosen) }

-- LEDGER '=' ON and what is chosen
pub record IsChosen (a : Lexemes) (c : Choices) : Type 0 where
  pub first : Lexemes
  pub second : Lexemes
  pub found : Option (List g.Choice)
  pub whole : a ≡ first ++ second
  pub on : IsOn (codes "LEDGER") first
  pub listed_ : Optional (Enclosed (Listed IsChoice)) second found
  pub chose : Chose c (listed found)

abbrev BehindLedger : Lexemes → Choices → Type 0
BehindLedger = After (Known (codes "LEDGER")) IsChosen

is_chosen : (c b_ e f : Lexemes) (x : Choices) (found : Option (List g.Choice)) → Known (codes "LEDGER") c → Sign (codes "=") b_ → Word (codes "ON") e → Optional (Enclosed (Listed IsChoice)) f found → Chose x (listed found) → IsChosen (c ++ (b_ ++ (e ++ f))) x
is_chosen c b_ e f x found first equal on is chose = record {
  first = c ++ (b_ ++ e);
  second = f;
  found = found;
  whole = ap (λ z. c ++ z) (sym (append_assoc b_ e f)) ∙ sym (append_assoc c (b_ ++ e) f);
  on = g.on first equal on;
  listed_ = is;
  chose = chose;
}

-- ['(' choice {',' choice} ')']
abbrev MayChoose : Lexemes → Choices → Type 0
MayChoose a x = (found : Option (List g.Choice)) × Optional (Enclosed (Listed IsChoice)) a found × Chose x (listed found)

may_choose_by : (a : Lexemes) (n : ℕ) (x : Choices) (j : Input) → Behind t.Open a n (do found ← p.choices p.no_choices; expect t.Close; pure found) x j ⊎ (◌≡◌ {A = Outcome Choices} (Some (p.no_choices, from a n)) (Some (x, j))) → Part MayChoose a j x
may_choose_by a n x j (inl k) =
    let f = k.0 in
    let m = shuts (p.choices p.no_choices) choices_follow (λ z. z) f.rest n x j k.1 in
    built MayChoose ((f.kind_, f.word_) ∷ (m.inner ++ m.close)) m.rest m.left (f.cut ∙ ap (λ z. (f.kind_, f.word_) ∷ z) m.cut)
    (Some (m.is).0, present (enclosed (w.open_.gives f.kind_ f.word_ f.is) (m.is).1 m.shut), (m.is).2) m.then_
may_choose_by a n x j (inr h) = built MayChoose [] a n refl (None, absent, none_chosen) h

abbrev choose : Parser Choices
choose = eat t.Open >>= (λ open_. if open_ then (do found ← p.choices p.no_choices; expect t.Close; pure found) else pure p.no_choices)

may_choose_follows : Follows choose MayChoose
unfolding after
may_choose_follows a n x j h = may_choose_by a n x j (eaten_or t.Open a n (do found ← p.choices p.no_choices; expect t.Close; pure found) (pure p.no_choices) x j (sees t.Open (from a n)) refl h)

chosen_follows : Follows p.chosen BehindLedger
unfolding p.chosen
chosen_follows a n x j h =
    let s0 = step (expect t.Equal) (expects w.equal_) (λ _. expect t.On >> choose) a n x j h in
    let s1 = step (expect t.On) (expects w.on_) (λ _. choose) s0.rest s0.left x j s0.then_ in
    let k = may_choose_follows s1.rest s1.left x j s1.then_ in
    record {
      tokens = s0.tokens ++ (s1.tokens ++ k.tokens);
      rest = k.rest;
      left = k.left;
      cut = joins _ _ _ s0.cut (joins _ _ _ s1.cut k.cut);
      met = k.met;
      is = λ c first. is_chosen c s0.tokens s1.tokens k.tokens x (k.is).0 first s0.is s1.is (k.is).1 (k.is).2;
    }

-- ---- versions

abbrev MayHistory : Lexemes → Option (List ℕ) → Type 0
MayHistory = Optional (Enclosed IsHistory)

abbrev history_inner : Parser (Option (List ℕ))
history_inner = do
  p.the_option option.HistoryTable
  expect t.Equal
  n ← name
  expect t.Close
  pure (Some n)

may_history_by : (a : Lexemes) (n : ℕ) (x : Option (List ℕ)) (j : Input) → Behind t.Open a n history_inner x j ⊎ (◌≡◌ {A = Outcome (Option (List ℕ))} (Some (None, from a n)) (Some (x, j))) → Part MayHistory a j x
may_history_by a n x j (inl k) =
    let f = k.0 in
    let s0 = step (p.the_option option.HistoryTable) (the_follows option.HistoryTable) (λ _. expect t.Equal >> (name >>= (λ v. expect t.Close >> pure (Some v)))) f.rest n x j k.1 in
    let s1 = step (expect t.Equal) (expects w.equal_) (λ _. name >>= (λ v. expect t.Close >> pure (Some v))) s0.rest s0.left x j s0.then_ in
    let s2 = step name name_follows (λ v. expect t.Close >> pure (Some v)) s1.rest s1.left x j s1.then_ in
    let s3 = step (expect t.Close) (expects w.close_) (λ _. pure (Some s2.value)) s2.rest s2.left x j s2.then_ in
    built MayHistory ((f.kind_, f.word_) ∷ ((s0.tokens ++ (s1.tokens ++ s2.tokens)) ++ s3.tokens)) s3.rest s3.left
    (f.cut ∙ ap (λ z. (f.kind_, f.word_) ∷ z) (joins (s0.tokens ++ (s1.tokens ++ s2.tokens)) s3.tokens s3.rest (joins _ _ _ s0.cut (joins _ _ _ s1.cut s2.cut)) s3.cut))
    (present (enclosed (w.open_.gives f.kind_ f.word_ f.is) (g.history_name s0.is s1.is s2.is) s3.is)) s3.then_
may_history_by a n x j (inr h) = built MayHistory [] a n refl absent h

abbrev may_history : Parser (Option (List ℕ))
may_history = eat t.Open >>= (λ open_. if open_ then history_inner else pure None)

may_history_follows : Follows may_history MayHistory
unfolding after
may_history_follows a n x j h = may_history_by a n x j (eaten_or t.Open a n history_inner (pure None) x j (sees t.Open (from a n)) refl h)

abbrev BehindVersioning : Lexemes → Option (List ℕ) → Type 0
BehindVersioning = After (Known (codes "SYSTEM_VERSIONING")) IsVersions

versions_follow : Follows p.versions BehindVersioning
unfolding p.versions
versions_follow a n x j h =
    let s0 = step (expect t.Equal) (expects w.equal_) (λ _. expect t.On >> may_history) a n x j h in
    let s1 = step (expect t.On) (expects w.on_) (λ _. may_history) s0.rest s0.left x j s0.then_ in
    let k = may_history_follows s1.rest s1.left x j s1.then_ in
    record {
      tokens = (s0.tokens ++ s1.tokens) ++ k.tokens;
      rest = k.rest;
      left = k.left;
      cut = joins (s0.tokens ++ s1.tokens) k.tokens k.rest (joins _ _ _ s0.cut s1.cut) k.cut;
      met = k.met;
      is = λ c first. moved IsVersions (append_assoc c (s0.tokens ++ s1.tokens) k.tokens) refl (g.versions (g.on first s0.is s1.is) k.is);
    }

-- ---- a table with versions

one_view : {a : Lexemes} {n : List ℕ} → IsChoice a (g.View n) → IsView a n
one_view (g.view is) = is

no_more_choices : (a : Lexemes) (xs : List g.Choice) → Listed IsChoice a xs → appends xs ≡ 0 → views xs ≡ [] → ⊥
no_more_choices a _ (last {x = g.Append} is) none empty = absurd (omega (arith, none))
no_more_choices a _ (last {x = g.View n} is) none empty = absurd (cc)
no_more_choices _ _ (more_listed {x = g.Append} is comma rest) none empty = absurd (omega (arith, none))
no_more_choices _ _ (more_listed {x = g.View n} is comma rest) none empty = absurd (cc)

abbrev first_view : List ℕ → List (List ℕ) → Option (List ℕ)
first_view n [] = None
first_view n (m ∷ ms) = Some m

-- choices that name one view and nothing else
only_view : (a : Lexemes) (xs : List g.Choice) (v : Option (List ℕ)) → Listed IsChoice a xs → appends xs ≡ 0 → views xs ≡ one_or_none v → (n : List ℕ) × IsView a n × (v ≡ Some n)
only_view a _ v (last {x = g.Append} is) none one = absurd (omega (arith, none))
only_view a _ None (last {x = g.View n} is) none one = absurd (cc)
only_view a _ (Some v) (last {x = g.View n} is) none one = (n, one_view is, ap (λ z. first_view n z) (sym one))
only_view _ _ v (more_listed {x = g.Append} is comma rest) none one = absurd (omega (arith, none))
only_view _ _ None (more_listed {x = g.View n} is comma rest) none one = absurd (cc)
only_view _ _ (Some v) (more_listed {c = c} {x = g.View n} {xs = xs} is comma rest) none one = absurd (no_more_choices c xs rest none (ap (λ z. drop 1 z) one))

view_of : (b_ : Lexemes) (found : Option (List g.Choice)) (v : Option (List ℕ)) → Optional (Enclosed (Listed IsChoice)) b_ found → appends (listed found) ≡ 0 → views (listed found) ≡ one_or_none v → Optional (Enclosed IsView) b_ v
view_of b_ _ None absent none one = absent
view_of b_ _ (Some v) absent none one = absurd (cc)
view_of b_ _ v (present {x = xs} (enclosed {b = a} open_ is close)) none one =
    let only = only_view a xs v is none one in
    moved (Optional (Enclosed IsView)) refl (sym only.2) (present (enclosed open_ only.1 close))

is_updatable : (a : Lexemes) (x : Choices) → x.append_only ≡ false → IsChosen a x → IsUpdatable a x.view
is_updatable a x plain k = moved IsUpdatable (sym k.whole) refl (g.updatable k.on (view_of k.second k.found x.view k.listed_ (k.chose.appended ∙ ap once plain) k.chose.viewed))

-- a table of the ledger as the grammar has it
abbrev pub ledger_of : Ledger → g.Ledger
ledger_of l = record { kind = l.kind; history = l.history; view = l.view }

abbrev pub IsLedgerOf : Lexemes → Ledger → Type 0
IsLedgerOf a l = IsLedger a (ledger_of l)

updatable_some : (old : Option (List ℕ)) (x : Choices) (c : Bool) (l : Ledger) → x.append_only ≡ c → cond c None (Some (record { kind = Updatable; history = old; view = x.view })) ≡ Some l
    → (x.append_only ≡ false) × (◌≡◌ {A = Ledger} (record { kind = Updatable; history = old; view = x.view }) l)
updatable_some old x true l is h = absurd (cc)
updatable_some old x false l is h = (is, the_same h)

once_few : (c : Bool) → once c ≤ 1
once_few true = omega arith
once_few false = omega arith

kind_once : (c : Bool) → kind_of (once c) ≡ p.kind_of c
kind_once true = refl
kind_once false = refl

abbrev ledger_with : TableKind → Option (List ℕ) → g.Ledger
ledger_with kind_ v = record { kind = kind_; history = None; view = v }

is_alone : (a : Lexemes) (x : Choices) → IsChosen a x → IsLedgerOf a (p.alone x)
is_alone a x k =
    let few : appends (listed k.found) ≤ 1 = subst (λ z. z ≤ 1) (sym k.chose.appended) (once_few x.append_only) in
    let kind_ : kind_of (appends (listed k.found)) ≡ p.kind_of x.append_only = ap kind_of k.chose.appended ∙ kind_once x.append_only in
    moved IsLedger (sym k.whole) (ap (λ (z : TableKind). ledger_with z x.view) kind_) (g.alone k.on k.listed_ few k.chose.viewed)

versions_before : (a b_ c e : Lexemes) (old : Option (List ℕ)) (x : Choices) (l : Ledger) → Known (codes "SYSTEM_VERSIONING") c → BehindVersioning a old → Sign (codes ",") b_ → IsChosen e x → p.updatable old x ≡ Some l → IsLedgerOf (c ++ (a ++ (b_ ++ e))) l
versions_before a b_ c e old x l first is comma chosen_ h =
    let u = updatable_some old x x.append_only l refl h in
    moved IsLedger (append_assoc c a (b_ ++ e)) (ap ledger_of u.1) (g.versions_first (is c first) comma (is_updatable e x u.0 chosen_))

versions_behind : (a b_ c : Lexemes) (old : Option (List ℕ)) (x : Choices) (l : Ledger) → IsChosen a x → Sign (codes ",") b_ → IsVersions c old → p.updatable old x ≡ Some l → IsLedgerOf (a ++ (b_ ++ c)) l
versions_behind a b_ c old x l chosen_ comma is h =
    let u = updatable_some old x x.append_only l refl h in
    moved IsLedger refl (ap ledger_of u.1) (g.versions_last (is_updatable a x u.0 chosen_) comma is)

abbrev BehindOption : OptionName → Lexemes → Ledger → Type 0
BehindOption o = After (Known (spelled_option o)) IsLedgerOf

tail_by : (a : Lexemes) (n : ℕ) (found : Choices) (x : Ledger) (j : Input) (before : Lexemes) → BehindLedger before found
    → Behind t.Comma a n (do p.the_option option.SystemVersioning; old ← p.versions; required (p.updatable old found)) x j ⊎ (◌≡◌ {A = Outcome Ledger} (Some (p.alone found, from a n)) (Some (x, j)))
    → Part (λ e l. BehindOption option.Ledger (before ++ e) l) a j x
tail_by a n found x j before is (inl k) =
    let f = k.0 in
    let s0 = step (p.the_option option.SystemVersioning) (the_follows option.SystemVersioning) (λ _. p.versions >>= (λ old. required (p.updatable old found))) f.rest n x j k.1 in
    let s1 = step p.versions versions_follow (λ old. required (p.updatable old found)) s0.rest s0.left x j s0.then_ in
    required_built (λ e l. BehindOption option.Ledger (before ++ e) l) a ((f.kind_, f.word_) ∷ (s0.tokens ++ s1.tokens)) s1.rest s1.left (p.updatable s1.value found) x j
    (f.cut ∙ ap (λ z. (f.kind_, f.word_) ∷ z) (joins _ _ _ s0.cut s1.cut))
    (λ l h c first. moved IsLedgerOf (append_assoc c before ((f.kind_, f.word_) ∷ (s0.tokens ++ s1.tokens))) refl
    (versions_behind (c ++ before) ((f.kind_, f.word_) ∷ []) (s0.tokens ++ s1.tokens) s1.value found l (is c first) (w.comma_.gives f.kind_ f.word_ f.is) (s1.is s0.tokens s0.is) h))
    s1.then_
tail_by a n found x j before is (inr h) =
    built (λ e l. BehindOption option.Ledger (before ++ e) l) [] a n refl (λ c first. moved IsLedgerOf (ap (λ z. c ++ z) (sym (append-nil before))) refl (is_alone (c ++ before) found (is c first))) h

ledger_by_follows : (o : OptionName) → Follows (p.ledger_by o) (BehindOption o)
unfolding after
ledger_by_follows option.SystemVersioning a n x j h =
    let s0 = step p.versions versions_follow (λ old. expect t.Comma >> (p.the_option option.Ledger >> (p.chosen >>= (λ found. required (p.updatable old found))))) a n x j h in
    let s1 = step (expect t.Comma) (expects w.comma_) (λ _. p.the_option option.Ledger >> (p.chosen >>= (λ found. required (p.updatable s0.value found)))) s0.rest s0.left x j s0.then_ in
    let s2 = step (p.the_option option.Ledger) (the_follows option.Ledger) (λ _. p.chosen >>= (λ found. required (p.updatable s0.value found))) s1.rest s1.left x j s1.then_ in
    let s3 = step p.chosen chosen_follows (λ found. required (p.updatable s0.value found)) s2.rest s2.left x j s2.then_ in
    required_built (BehindOption option.SystemVersioning) a (s0.tokens ++ (s1.tokens ++ (s2.tokens ++ s3.tokens))) s3.rest s3.left (p.updatable s0.value s3.value) x j
    (joins _ _ _ s0.cut (joins _ _ _ s1.cut (joins _ _ _ s2.cut s3.cut)))
    (λ l e c first. versions_before s0.tokens s1.tokens c (s2.tokens ++ s3.tokens) s0.value s3.value l first s0.is s1.is (s3.is s2.tokens s2.is) e) s3.then_
ledger_by_follows option.Ledger a n x j h =
    let s0 = step p.chosen chosen_follows (λ found. eat t.Comma >>= (λ comma. if comma then (do p.the_option option.SystemVersioning; old ← p.versions; required (p.updatable old found)) else pure (p.alone found))) a n x j h in
    let k = tail_by s0.rest s0.left s0.value x j s0.tokens s0.is
    (eaten_or t.Comma s0.rest s0.left (do p.the_option option.SystemVersioning; old ← p.versions; required (p.updatable old s0.value)) (pure (p.alone s0.value)) x j (sees t.Comma (from s0.rest s0.left)) refl s0.then_) in
    record { tokens = s0.tokens ++ k.tokens; rest = k.rest; left = k.left; cut = joins _ _ _ s0.cut k.cut; met = k.met; is = k.is }
ledger_by_follows _ a n x j h = absurd (cc)

ledger_follows : Follows p.ledger IsLedgerOf
unfolding p.ledger
ledger_follows a n x j h =
    let s0 = step option_word option_word_follows p.ledger_by a n x j h in
    let k = ledger_by_follows s0.value s0.rest s0.left x j s0.then_ in
    record { tokens = s0.tokens ++ k.tokens; rest = k.rest; left = k.left; cut = joins _ _ _ s0.cut k.cut; met = k.met; is = k.is s0.tokens s0.is }

abbrev IsPartOf : Lexemes → Ledger → Type 0
IsPartOf a l = IsLedgerPart a (ledger_of l)

part_by : (a : Lexemes) (n : ℕ) (x : Ledger) (j : Input) → Behind t.With a n (do expect t.Open; found ← p.ledger; expect t.Close; pure found) x j ⊎ (◌≡◌ {A = Outcome Ledger} (Some (p.alone p.no_choices, from a n)) (Some (x, j))) → Part IsPartOf a j x
part_by a n x j (inl k) =
    let f = k.0 in
    let s0 = step (expect t.Open) (expects w.open_) (λ _. p.ledger >>= (λ found. expect t.Close >> pure found)) f.rest n x j k.1 in
    let m = shuts p.ledger ledger_follows (λ z. z) s0.rest s0.left x j s0.then_ in
    built IsPartOf ((f.kind_, f.word_) ∷ (s0.tokens ++ (m.inner ++ m.close))) m.rest m.left (f.cut ∙ ap (λ z. (f.kind_, f.word_) ∷ z) (joins _ _ _ s0.cut m.cut))
    (g.said_part (w.with_.gives f.kind_ f.word_ f.is) (enclosed s0.is m.is m.shut)) m.then_
part_by a n x j (inr h) = built IsPartOf [] a n refl g.unsaid_part h

pub ledger_part_follows : Follows p.ledger_part IsPartOf
unfolding p.ledger_part after
ledger_part_follows a n x j h =
    part_by a n x j (eaten_or t.With a n (do expect t.Open; found ← p.ledger; expect t.Close; pure found) (pure (p.alone p.no_choices)) x j (sees t.With (from a n)) refl h)

-- ---- the statements

-- name '(' item {',' item} ')' [WITH '(' ledger ')'], behind CREATE TABLE
abbrev pub BehindCreateTable : Lexemes → CreateTable → Type 0
BehindCreateTable a x = (c e : Lexemes) → Word (codes "CREATE") c → Word (codes "TABLE") e → IsCreateTable (c ++ (e ++ a)) x

abbrev table_with : List ℕ → List ColumnDef → List (List ℕ) → Ledger → CreateTable
table_with v columns key l = record { name = v; columns = columns; key = key; kind = l.kind; history = l.history; view = l.view }

table_is : (v : List ℕ) (columns : List Column) (key : Option (List (List ℕ))) (l : Ledger) (x : CreateTable) (xs : List g.Item) (c e a b_ f : Lexemes)
    → b.table_of v columns key l ≡ Some x → keys_of xs ≡ one_or_none key → ((k : List (List ℕ)) → columns_of k xs ≡ map (b.column_def k) columns)
    → Word (codes "CREATE") c → Word (codes "TABLE") e → IsName a v → Enclosed (Listed IsItem) b_ xs → IsLedgerPart f (ledger_of l) → IsCreateTable (c ++ (e ++ (a ++ (b_ ++ f)))) x
table_is v [] key l x xs c e a b_ f h keys columns_ = absurd (cc)
table_is v (y ∷ ys) None l x xs c e a b_ f h keys columns_ = absurd (cc)
table_is v (y ∷ ys) (Some k) l x xs c e a b_ f h keys columns_ =
    λ create table named_ items_ part.
    let some : 0 < length (columns_of k xs) = subst (λ z. 0 < length z) (sym (columns_ k)) (omega arith) in
    let same : ◌≡◌ {A = CreateTable} (record { name = v; columns = columns_of k xs; key = k; kind = l.kind; history = l.history; view = l.view }) x = ap (λ (z : List ColumnDef). table_with v z k l) (columns_ k) ∙ the_same h in
    moved IsCreateTable refl same (g.create_table create table named_ items_ part keys some)

pub create_table_follows : Follows b.create_table BehindCreateTable
unfolding b.create_table
create_table_follows a n x j h =
    let s0 = step name name_follows (λ v. expect t.Open >> (b.items b.no_items >>= (λ d. expect t.Close >> (p.ledger_part >>= (λ l. required (b.table_of v d.columns d.key l)))))) a n x j h in
    let s1 = step (expect t.Open) (expects w.open_) (λ _. b.items b.no_items >>= (λ d. expect t.Close >> (p.ledger_part >>= (λ l. required (b.table_of s0.value d.columns d.key l))))) s0.rest s0.left x j s0.then_ in
    let s2 = step (b.items b.no_items) items_follow (λ d. expect t.Close >> (p.ledger_part >>= (λ l. required (b.table_of s0.value d.columns d.key l)))) s1.rest s1.left x j s1.then_ in
    let s3 = step (expect t.Close) (expects w.close_) (λ _. p.ledger_part >>= (λ l. required (b.table_of s0.value s2.value.columns s2.value.key l))) s2.rest s2.left x j s2.then_ in
    let s4 = step p.ledger_part ledger_part_follows (λ l. required (b.table_of s0.value s2.value.columns s2.value.key l)) s3.rest s3.left x j s3.then_ in
    required_built BehindCreateTable a (s0.tokens ++ ((s1.tokens ++ (s2.tokens ++ s3.tokens)) ++ s4.tokens)) s4.rest s4.left (b.table_of s0.value s2.value.columns s2.value.key s4.value) x j
    (joins _ _ _ s0.cut (joins (s1.tokens ++ (s2.tokens ++ s3.tokens)) s4.tokens s4.rest (joins _ _ _ s1.cut (joins _ _ _ s2.cut s3.cut)) s4.cut))
    (λ y e_ c e create table. table_is s0.value s2.value.columns s2.value.key s4.value y (s2.is).0 c e s0.tokens (s1.tokens ++ (s2.tokens ++ s3.tokens)) s4.tokens e_ (s2.is).2.keys (s2.is).2.columns create table s0.is
    (enclosed s1.is (s2.is).1 s3.is) s4.is) s4.then_

-- name ON name '(' name {',' name} ')', behind CREATE [NONCLUSTERED] INDEX
abbrev pub BehindIndex : Lexemes → CreateIndex → Type 0
BehindIndex a x = (c e f : Lexemes) → Word (codes "CREATE") c → OptionalPart (Word (codes "NONCLUSTERED")) e → Word (codes "INDEX") f → IsCreateIndex (c ++ (e ++ (f ++ a))) x

pub create_index_follows : Follows b.create_index BehindIndex
unfolding b.create_index
create_index_follows a n x j h =
    let s0 = step name name_follows _ a n x j h in
    let s1 = step (expect t.On) (expects w.on_) _ s0.rest s0.left x j s0.then_ in
    let s2 = step name name_follows _ s1.rest s1.left x j s1.then_ in
    let s3 = step r.name_list name_list_follows _ s2.rest s2.left x j s2.then_ in
    built BehindIndex (s0.tokens ++ (s1.tokens ++ (s2.tokens ++ s3.tokens))) s3.rest s3.left (joins _ _ _ s0.cut (joins _ _ _ s1.cut (joins _ _ _ s2.cut s3.cut)))
    (λ c e f create may_ index_. g.create_index create may_ index_ s0.is s1.is s2.is s3.is) s3.then_
