-- What a CREATE TABLE of the grammar says of the ledger is read, and so is the whole statement.
use Rattle.std.proofs.Common.{◌≡◌, ◌∙◌, ◌<◌, ◌≤◌, ℕ, ◌+◌, Bool, true, false, if◌then◌else◌, List, [], ◌∷◌, ◌++◌, map, length, Option, Some, None, refl, ap, sym, subst, codes, arith, append_assoc, drop}
use Rattle.std.proofs.lemmas.List.{append-nil}
use Rattle.sql_value.specs.declared.column.ColumnDef.{ColumnDef}
use Rattle.sql_value.specs.declared.column.TableKind.{TableKind}
use Rattle.sql_value.specs.declared.column.TableKind.TheVariants.{Updatable}
use Rattle.sql_types.specs.declared.statement.CreateTable.{CreateTable}
use Rattle.sql_types.specs.declared.statement.CreateIndex.{CreateIndex}
use Rattle.spec_grammar.specs.Tokens.{Lexemes, Sign, IsName, Known, Optional, absent, present, Listed, last, Enclosed, enclosed}
use Rattle.spec_grammar.specs.Rows.{AreNames}
use Rattle.spec_grammar.specs.Tables as g
use Rattle.spec_grammar.specs.Tables.{IsItem, keys_of, columns_of, IsHistory, IsView, IsOn, IsVersions, IsUpdatable, IsChoice, listed, appends, views, one_or_none, kind_of, IsLedger, IsLedgerPart}
use Rattle.spec_syntax.specs.declared.tag.Tag.{Tag}
use Rattle.spec_syntax.specs.declared.tag.Tag.TheVariants as t
use Rattle.spec_syntax.specs.declared.word.OptionName.{OptionName}
use Rattle.spec_syntax.specs.declared.word.OptionName.TheVariants as option
use Rattle.spec_syntax.specs.declared.column.Column.{Column}
use Rattle.spec_syntax.specs.declared.column.Draft.{Draft}
use Rattle.spec_syntax.specs.declared.ledger.Ledger.{Ledger}
use Rattle.spec_syntax.specs.declared.ledger.Choices.{Choices}
use Rattle.spec_syntax.specs.declared.ledger.Choice.{Choice}
use Rattle.spec_syntax.specs.declared.ledger.Choice.TheVariants as choice
use Rattle.spec_syntax.specs.Tags.{same_tag}
use Rattle.spec_syntax.specs.Input.{Sym, Input, Outcome, Parser, and_then, ◌>>=◌, ◌>>◌, ◌<$>◌, pure, tag, tag_at, eat, expect, required}
use Rattle.spec_syntax.specs.Words.{option_word}
use Rattle.spec_syntax.specs.Expr.{name}
use Rattle.spec_syntax.specs.Row as r
use Rattle.spec_syntax.specs.Table as b
use Rattle.spec_syntax.specs.Ledger as p
use Rattle.law_printing.proofs.Repeats.{at_}
use Rattle.law_syntax.proofs.Terminals as w
use Rattle.law_syntax.proofs.ExprComplete.{syms, One, one}
use Rattle.law_syntax.proofs.ParsesTo.{ParsesTo, then_parses, flow, give_at, go, pure_parses, expects_parses, either_one, either_none, name_parses, one_other, one_tag, closes}
use Rattle.law_syntax.proofs.RowComplete.{name_list_parses}
use Rattle.law_syntax.proofs.TableComplete.{required_parses, option_word_parses, the_parses, close_comma, all_of, all_by, fold_parses, items_give, columns_only, columns_back}
use Rattle.law_syntax.proofs.Steps.{the_same}
use Rattle.law_syntax.proofs.LedgerSound.{once}
use Rattle.law_syntax.proofs.RowComplete.{ends}

-- ---- choices

abbrev back_choice : g.Choice → Choice
back_choice g.Append = choice.AppendOnly
back_choice (g.View n) = choice.View n

abbrev with_choice : Choices → g.Choice → Option Choices
with_choice c x = p.with_choice c (back_choice x)

-- what may stand behind a choice
abbrev after_choice : Tag → Bool
after_choice t.Comma = true
after_choice t.Close = true
after_choice t.End = true
after_choice _ = false

equal_one : {a : Lexemes} → Sign (codes "=") a → One t.Equal a
equal_one {a} is = one w.equal_ a is

append_read : (a e f : Lexemes) → Known (codes "APPEND_ONLY") a → One t.Equal e → One t.On f → (rest : List Sym) (n : ℕ) → ParsesTo (p.one_choice (at_ (syms (a ++ (e ++ f)) ++ rest) n)) choice.AppendOnly rest
unfolding p.one_choice
append_read a e f known equal on rest n =
    go option_word p.choice_by a (e ++ f) rest rest n (option_word_parses option.AppendOnly known (syms (e ++ f) ++ rest) n)
    (λ m. then_parses (λ _. pure choice.AppendOnly) (go (expect t.Equal) (λ _. expect t.On) e f rest rest m (expects_parses equal (syms f ++ rest) m) (λ m. expects_parses on rest m)) (λ m. pure_parses choice.AppendOnly rest m))

view_read : (a e f : Lexemes) (v : List ℕ) → Known (codes "LEDGER_VIEW") a → One t.Equal e → IsName f v → (rest : List Sym) (n : ℕ) → ParsesTo (p.one_choice (at_ (syms (a ++ (e ++ f)) ++ rest) n)) (choice.View v) rest
unfolding p.one_choice
view_read a e f v known equal named_ rest n =
    go option_word p.choice_by a (e ++ f) rest rest n (option_word_parses option.LedgerView known (syms (e ++ f) ++ rest) n)
    (λ m. go (expect t.Equal) (λ _. choice.View <$> name) e f rest rest m (expects_parses equal (syms f ++ rest) m) (λ m. then_parses (λ z. pure (choice.View z)) (name_parses named_ rest m) (λ m. pure_parses (choice.View v) rest m)))

choice_read : (a : Lexemes) (x : g.Choice) → IsChoice a x → (rest : List Sym) (n : ℕ) → ParsesTo (p.one_choice (at_ (syms a ++ rest) n)) (back_choice x) rest
choice_read _ _ (g.append (g.on {a = a} {b = e} {c = f} known equal on)) rest n = append_read a e f known (equal_one equal) (one w.on_ f on) rest n
choice_read _ _ (g.view (g.view_name {a = a} {b = e} {c = f} {n = v} known equal named_)) rest n = view_read a e f v known (equal_one equal) named_ rest n

choice_step_reads : (c : Choices) (a : Lexemes) (x : g.Choice) (new : Choices) → IsChoice a x → with_choice c x ≡ Some new → (rest : List Sym) (n : ℕ) → after_choice (tag_at rest) ≡ true → ParsesTo (p.choice_step c (at_ (syms a ++ rest) n)) new rest
unfolding p.choice_step
choice_step_reads c a x new is adds rest n fits =
    then_parses (λ y. required (p.with_choice c y)) (choice_read a x is rest n) (λ m. required_parses (p.with_choice c (back_choice x)) new rest m adds)

choice_step_none : (c : Choices) (n : ℕ) → p.choice_step c (at_ [] n) ≡ None
unfolding p.choice_step p.one_choice option_word name tag
choice_step_none c n = refl

-- choices of which each comes once at most
append_with : (c v : Option (List ℕ)) (append_only : Bool) → append_only ≡ false → p.with_choice (record { append_only = append_only; view = c }) choice.AppendOnly ≡ Some (record { append_only = true; view = c })
append_with c v append_only h = rw h refl

append_free : (b_ : Bool) (k : ℕ) → once b_ + (k + 1) ≤ 1 → b_ ≡ false
append_free false k h = refl
append_free true k h = absurd (omega (arith, h))

abbrev first_name : List (List ℕ) → Option (List ℕ)
first_name [] = None
first_name (v ∷ vs) = Some v

one_name : (o v : Option (List ℕ)) → one_or_none o ≡ one_or_none v → o ≡ v
one_name None None h = refl
one_name None (Some y) h = absurd (cc)
one_name (Some x) None h = absurd (cc)
one_name (Some x) (Some y) h = ap (λ z. first_name z) h

no_view_before : (o v : Option (List ℕ)) (n : List ℕ) (ns : List (List ℕ)) → one_or_none o ++ (n ∷ ns) ≡ one_or_none v → o ≡ None
no_view_before None v n ns h = refl
no_view_before (Some old) None n ns h = absurd (cc)
no_view_before (Some old) (Some y) n ns h = let none : length (n ∷ ns) ≡ 0 = ap (λ z. length (drop 1 z)) h in absurd (omega (arith, none))

view_after : (o v : Option (List ℕ)) (n : List ℕ) (ns : List (List ℕ)) → o ≡ None → one_or_none o ++ (n ∷ ns) ≡ one_or_none v → one_or_none (Some n) ++ ns ≡ one_or_none v
view_after o v n ns none h = ap (λ z. one_or_none z ++ (n ∷ ns)) (sym none) ∙ h

-- what they make together
record Chosen (append_only : Bool) (o : Option (List ℕ)) (xs : List g.Choice) (v : Option (List ℕ)) : Type 0 where
  both : Bool
  made : all_of with_choice (record { append_only = append_only; view = o }) xs ≡ Some (record { append_only = both; view = v })
  counted : once both ≡ once append_only + appends xs

choose_all : (xs : List g.Choice) (append_only : Bool) (o v : Option (List ℕ)) → once append_only + appends xs ≤ 1 → one_or_none o ++ views xs ≡ one_or_none v → Chosen append_only o xs v
choose_all [] append_only o v few named_ =
    let same = one_name o v (sym (append-nil (one_or_none o)) ∙ named_) in
    record { both = append_only; made = ap (λ z. Some (record { append_only = append_only; view = z })) same; counted = omega arith }
choose_all (g.Append ∷ xs) append_only o v few named_ =
    let free = append_free append_only (appends xs) few in
    let k = choose_all xs true o v (omega (arith, few)) named_ in
    record {
      both = k.both;
      made = ap (λ z. all_by z (λ d. all_of with_choice d xs)) (append_with o v append_only free) ∙ k.made;
      counted = omega (arith, k.counted, ap once free);
    }
choose_all (g.View n ∷ xs) append_only o v few named_ =
    let none = no_view_before o v n (views xs) named_ in
    let k = choose_all xs append_only (Some n) v few (view_after o v n (views xs) none named_) in
    record { both = k.both; made = ap (λ z. all_by (p.with_view append_only z n) (λ d. all_of with_choice d xs)) none ∙ k.made; counted = k.counted }

close_choice : {c : Lexemes} → One t.Close c → (rest : List Sym) → after_choice (tag_at (syms c ++ rest)) ≡ true
close_choice k rest = ap after_choice (one_tag k rest)

abbrev open_choices : Parser Choices
open_choices = p.choices p.no_choices >>= (λ found. expect t.Close >> pure found)

abbrev choose : Parser Choices
choose = eat t.Open >>= (λ open_. if open_ then open_choices else pure p.no_choices)

-- ['(' opt {',' opt} ')']
may_choose : {a : Lexemes} {found : Option (List g.Choice)} → Optional (Enclosed (Listed IsChoice)) a found → (c : Choices) → all_of with_choice p.no_choices (listed found) ≡ Some c → (rest : List Sym) (n : ℕ) → same_tag (tag_at rest) t.Open ≡ false
    → ParsesTo (choose (at_ (syms a ++ rest) n)) c rest
may_choose absent c made rest n other = either_none t.Open open_choices (pure p.no_choices) c rest rest n other (n, ap (λ z. Some (z, at_ rest n)) (the_same made))
may_choose (present (enclosed {a = a} {b = e} {c = f} {x = xs} open_ is close_)) c made rest n other =
    let close = one w.close_ f close_ in
    give_at choose n (flow a (e ++ f) rest)
    (either_one open_choices (pure p.no_choices) c (syms (e ++ f) ++ rest) rest n (one w.open_ a open_)
    (closes (p.choices p.no_choices) (λ z. z) e f c rest n
    (fold_parses after_choice p.choice_step IsChoice with_choice choice_step_reads refl refl choice_step_none e xs is p.no_choices c made (syms f ++ rest) n (close_choice close rest) (close_comma close rest)) close))

-- behind LEDGER
chosen_read : (e f k : Lexemes) {found : Option (List g.Choice)} (c : Choices) → One t.Equal e → One t.On f → Optional (Enclosed (Listed IsChoice)) k found → all_of with_choice p.no_choices (listed found) ≡ Some c → (rest : List Sym) (n : ℕ) → same_tag (tag_at rest) t.Open ≡ false
    → ParsesTo (p.chosen (at_ (syms (e ++ (f ++ k)) ++ rest) n)) c rest
unfolding p.chosen
chosen_read e f k c equal on is made rest n other =
    go (expect t.Equal) (λ _. expect t.On >> choose) e (f ++ k) rest rest n (expects_parses equal (syms (f ++ k) ++ rest) n)
    (λ m. go (expect t.On) (λ _. choose) f k rest rest m (expects_parses on (syms k ++ rest) m) (λ m. may_choose is c made rest m other))

-- ---- versions

abbrev open_history : Parser (Option (List ℕ))
open_history = p.the_option option.HistoryTable >> (expect t.Equal >> (name >>= (λ z. expect t.Close >> pure (Some z))))

abbrev may_history : Parser (Option (List ℕ))
may_history = eat t.Open >>= (λ open_. if open_ then open_history else pure None)

history_read : (a e f k : Lexemes) (v : List ℕ) → Known (codes "HISTORY_TABLE") a → One t.Equal e → IsName f v → One t.Close k → (rest : List Sym) (n : ℕ) → ParsesTo (open_history (at_ (syms ((a ++ (e ++ f)) ++ k) ++ rest) n)) (Some v) rest
history_read a e f k v known equal named_ close rest n =
    let joined : (a ++ (e ++ f)) ++ k ≡ a ++ (e ++ (f ++ k)) = append_assoc a (e ++ f) k ∙ ap (λ z. a ++ z) (append_assoc e f k) in
    give_at open_history n (ap (λ z. syms z ++ rest) joined)
    (go (p.the_option option.HistoryTable) (λ _. expect t.Equal >> (name >>= (λ z. expect t.Close >> pure (Some z)))) a (e ++ (f ++ k)) rest rest n (the_parses option.HistoryTable known (syms (e ++ (f ++ k)) ++ rest) n)
    (λ m. go (expect t.Equal) (λ _. name >>= (λ z. expect t.Close >> pure (Some z))) e (f ++ k) rest rest m (expects_parses equal (syms (f ++ k) ++ rest) m)
    (λ m. closes name (λ z. Some z) f k v rest m (name_parses named_ (syms k ++ rest) m) close)))

may_history_parses : {a : Lexemes} {h : Option (List ℕ)} → Optional (Enclosed IsHistory) a h → (rest : List Sym) (n : ℕ) → same_tag (tag_at rest) t.Open ≡ false → ParsesTo (may_history (at_ (syms a ++ rest) n)) h rest
may_history_parses absent rest n other = either_none t.Open open_history (pure None) None rest rest n other (pure_parses None rest n)
may_history_parses (present (enclosed {a = a} {c = k} open_ (g.history_name {a = e} {b = f} {c = l} {n = v} known equal named_) close_)) rest n other =
    give_at may_history n (flow a ((e ++ (f ++ l)) ++ k) rest)
    (either_one open_history (pure None) (Some v) (syms ((e ++ (f ++ l)) ++ k) ++ rest) rest n (one w.open_ a open_)
    (history_read e f l k v known (equal_one equal) named_ (one w.close_ k close_) rest n))

-- behind SYSTEM_VERSIONING
versions_read : (e f k : Lexemes) {h : Option (List ℕ)} → One t.Equal e → One t.On f → Optional (Enclosed IsHistory) k h → (rest : List Sym) (n : ℕ) → same_tag (tag_at rest) t.Open ≡ false → ParsesTo (p.versions (at_ (syms (e ++ (f ++ k)) ++ rest) n)) h rest
unfolding p.versions
versions_read e f k equal on is rest n other =
    go (expect t.Equal) (λ _. expect t.On >> may_history) e (f ++ k) rest rest n (expects_parses equal (syms (f ++ k) ++ rest) n)
    (λ m. go (expect t.On) (λ _. may_history) f k rest rest m (expects_parses on (syms k ++ rest) m) (λ m. may_history_parses is rest m other))

-- the words of an option, and what stands behind
record Option_ (known : List ℕ) (a : Lexemes) : Type 0 where
  word_ : Lexemes
  equal : Lexemes
  on : Lexemes
  whole : a ≡ word_ ++ (equal ++ on)
  is_word : Known known word_
  is_equal : One t.Equal equal
  is_on : One t.On on

option_parts : {known : List ℕ} {a : Lexemes} → IsOn known a → Option_ known a
option_parts (g.on {a = a} {b = e} {c = f} known equal on) = record { word_ = a; equal = e; on = f; whole = refl; is_word = known; is_equal = equal_one equal; is_on = one w.on_ f on }

-- a view as a list of choices
view_choices : (v : Option (List ℕ)) → List g.Choice
view_choices None = []
view_choices (Some n) = g.View n ∷ []

as_choices : {a : Lexemes} {v : Option (List ℕ)} → Optional (Enclosed IsView) a v → (found : Option (List g.Choice)) × Optional (Enclosed (Listed IsChoice)) a found × (listed found ≡ view_choices v)
unfolding view_choices
as_choices absent = (None, absent, refl)
as_choices (present {x = n} (enclosed open_ is close_)) = (Some (g.View n ∷ []), present (enclosed open_ (last (g.view is)) close_), refl)

views_only : (v : Option (List ℕ)) → all_of with_choice p.no_choices (view_choices v) ≡ Some (record { append_only = false; view = v })
unfolding view_choices
views_only None = refl
views_only (Some n) = refl

comma_no_open : {a : Lexemes} → One t.Comma a → (rest : List Sym) → same_tag (tag_at (syms a ++ rest)) t.Open ≡ false
unfolding same_tag
comma_no_open k rest = one_other t.Open refl k rest

close_no_open : {a : Lexemes} → One t.Close a → (rest : List Sym) → same_tag (tag_at (syms a ++ rest)) t.Open ≡ false
unfolding same_tag
close_no_open k rest = one_other t.Open refl k rest

-- LEDGER '=' ON and what is chosen, behind the word
ledger_chosen : {a e : Lexemes} {found : Option (List g.Choice)} (c : Choices) (o : Option_ (codes "LEDGER") a) → Optional (Enclosed (Listed IsChoice)) e found → all_of with_choice p.no_choices (listed found) ≡ Some c → (rest : List Sym) (n : ℕ) → same_tag (tag_at rest) t.Open ≡ false
    → ParsesTo (p.chosen (at_ (syms (o.equal ++ (o.on ++ e)) ++ rest) n)) c rest
ledger_chosen {e = e} c o is made rest n other = chosen_read o.equal o.on e c o.is_equal o.is_on is made rest n other

-- the tokens of an option, from its word on
option_flow : {known : List ℕ} {a : Lexemes} (o : Option_ known a) (e : Lexemes) (rest : List Sym) → syms (a ++ e) ++ rest ≡ syms o.word_ ++ (syms (o.equal ++ (o.on ++ e)) ++ rest)
option_flow o e rest =
    ap (λ z. syms (z ++ e) ++ rest) o.whole ∙ ap (λ z. syms z ++ rest) (append_assoc o.word_ (o.equal ++ o.on) e ∙ ap (λ z. o.word_ ++ z) (append_assoc o.equal o.on e)) ∙ flow o.word_ (o.equal ++ (o.on ++ e)) rest

-- ---- the three forms

abbrev tail_of : Choices → Parser Ledger
tail_of found = eat t.Comma >>= (λ comma. if comma then (do p.the_option option.SystemVersioning; old ← p.versions; required (p.updatable old found)) else pure (p.alone found))

abbrev versions_tail : Choices → Parser Ledger
versions_tail found = p.the_option option.SystemVersioning >> (p.versions >>= (λ old. required (p.updatable old found)))

-- the words of versions, whole
versions_whole : {a : Lexemes} {h : Option (List ℕ)} → IsVersions a h → (rest : List Sym) (n : ℕ) → same_tag (tag_at rest) t.Open ≡ false → {B : Type 0} (f : Option (List ℕ) → Parser B) (y : B) (end : List Sym) → ((m : ℕ) → ParsesTo (f h (at_ rest m)) y end)
    → (q : OptionName → Parser B) → ((i : Input) → q option.SystemVersioning i ≡ and_then (p.versions i) f) → ParsesTo ((option_word >>= q) (at_ (syms a ++ rest) n)) y end
versions_whole (g.versions {a = a} {b = e} {h = h} on is) rest n other f y end more_ q same =
    let o = option_parts on in
    let v = λ (m : ℕ). then_parses f (versions_read o.equal o.on e o.is_equal o.is_on is rest m other) more_ in
    give_at (option_word >>= q) n (option_flow o e rest)
    (then_parses q (option_word_parses option.SystemVersioning o.is_word (syms (o.equal ++ (o.on ++ e)) ++ rest) n)
    (λ m. (let k = v m in (k.0, same (at_ (syms (o.equal ++ (o.on ++ e)) ++ rest) m) ∙ k.1))))

abbrev back_ledger : g.Ledger → Ledger
back_ledger l = record { kind = l.kind; history = l.history; view = l.view }

abbrev with_versions : Option (List ℕ) → Option (List ℕ) → Ledger
with_versions h v = record { kind = Updatable; history = h; view = v }

-- LEDGER with a view, behind another option
updatable_read : {c : Lexemes} {v : Option (List ℕ)} (h : Option (List ℕ)) → IsUpdatable c v → (rest : List Sym) (n : ℕ) → same_tag (tag_at rest) t.Open ≡ false
    → ParsesTo ((p.the_option option.Ledger >> (p.chosen >>= (λ found. required (p.updatable h found)))) (at_ (syms c ++ rest) n)) (with_versions h v) rest
updatable_read h (g.updatable {a = a} {b = e} {v = v} on is) rest n other =
    let o = option_parts on in
    let cs = as_choices is in
    let found : Choices = record { append_only = false; view = v } in
    let made = ap (λ z. all_of with_choice p.no_choices z) cs.2 ∙ views_only v in
    give_at (p.the_option option.Ledger >> (p.chosen >>= (λ z. required (p.updatable h z)))) n (option_flow o e rest)
    (then_parses (λ _. p.chosen >>= (λ z. required (p.updatable h z))) (the_parses option.Ledger o.is_word (syms (o.equal ++ (o.on ++ e)) ++ rest) n)
    (λ m. then_parses (λ z. required (p.updatable h z)) (ledger_chosen found o cs.1 made rest m other) (λ m. required_parses (p.updatable h found) (with_versions h v) rest m refl)))

versions_first_read : {a b_ c : Lexemes} {h v : Option (List ℕ)} → IsVersions a h → One t.Comma b_ → IsUpdatable c v → (rest : List Sym) (n : ℕ) → same_tag (tag_at rest) t.Open ≡ false → ParsesTo (p.ledger (at_ (syms (a ++ (b_ ++ c)) ++ rest) n)) (with_versions h v) rest
unfolding p.ledger
versions_first_read {a} {b_} {c} {h} {v} is comma others rest n other =
    let next_ : Option (List ℕ) → Parser Ledger = λ old. expect t.Comma >> (p.the_option option.Ledger >> (p.chosen >>= (λ found. required (p.updatable old found)))) in
    give_at (option_word >>= p.ledger_by) n (flow a (b_ ++ c) rest)
    (versions_whole is (syms (b_ ++ c) ++ rest) n (ap (λ z. same_tag (tag_at z) t.Open) (flow b_ c rest) ∙ comma_no_open comma (syms c ++ rest)) next_ (with_versions h v) rest
    (λ m. go (expect t.Comma) (λ _. p.the_option option.Ledger >> (p.chosen >>= (λ found. required (p.updatable h found)))) b_ c rest rest m (expects_parses comma (syms c ++ rest) m) (λ m. updatable_read h others rest m other))
    p.ledger_by (λ i. refl))

-- SYSTEM_VERSIONING behind a view
versions_last_tail : {c : Lexemes} {h : Option (List ℕ)} (v : Option (List ℕ)) → IsVersions c h → (rest : List Sym) (n : ℕ) → same_tag (tag_at rest) t.Open ≡ false
    → ParsesTo (versions_tail (record { append_only = false; view = v }) (at_ (syms c ++ rest) n)) (with_versions h v) rest
versions_last_tail v (g.versions {a = a} {b = e} {h = h} on is) rest n other =
    let o = option_parts on in
    let found : Choices = record { append_only = false; view = v } in
    give_at (versions_tail found) n (option_flow o e rest)
    (then_parses (λ _. p.versions >>= (λ old. required (p.updatable old found))) (the_parses option.SystemVersioning o.is_word (syms (o.equal ++ (o.on ++ e)) ++ rest) n)
    (λ m. then_parses (λ old. required (p.updatable old found)) (versions_read o.equal o.on e o.is_equal o.is_on is rest m other) (λ m. required_parses (p.updatable h found) (with_versions h v) rest m refl)))

-- LEDGER first, with what stands behind what is chosen
ledger_first : {a e : Lexemes} {found : Option (List g.Choice)} (c : Choices) → IsOn (codes "LEDGER") a → Optional (Enclosed (Listed IsChoice)) e found → all_of with_choice p.no_choices (listed found) ≡ Some c → (next_ end : List Sym) (n : ℕ) (y : Ledger)
    → same_tag (tag_at next_) t.Open ≡ false → ((m : ℕ) → ParsesTo (tail_of c (at_ next_ m)) y end) → ParsesTo (p.ledger (at_ (syms (a ++ e) ++ next_) n)) y end
unfolding p.ledger
ledger_first {e = e} c on is made next_ end n y other more_ =
    let o = option_parts on in
    give_at (option_word >>= p.ledger_by) n (option_flow o e next_)
    (then_parses p.ledger_by (option_word_parses option.Ledger o.is_word (syms (o.equal ++ (o.on ++ e)) ++ next_) n)
    (λ m. then_parses tail_of (ledger_chosen c o is made next_ m other) more_))

versions_last_read : {a b_ c : Lexemes} {h v : Option (List ℕ)} → IsUpdatable a v → One t.Comma b_ → IsVersions c h → (rest : List Sym) (n : ℕ) → same_tag (tag_at rest) t.Open ≡ false → ParsesTo (p.ledger (at_ (syms (a ++ (b_ ++ c)) ++ rest) n)) (with_versions h v) rest
versions_last_read {b_ = b_} {c = c} {h = h} (g.updatable {a = a} {b = e} {v = v} on is) comma others rest n other =
    let cs = as_choices is in
    let found : Choices = record { append_only = false; view = v } in
    give_at p.ledger n (flow (a ++ e) (b_ ++ c) rest)
    (ledger_first found on cs.1 (ap (λ z. all_of with_choice p.no_choices z) cs.2 ∙ views_only v) (syms (b_ ++ c) ++ rest) rest n (with_versions h v)
    (ap (λ z. same_tag (tag_at z) t.Open) (flow b_ c rest) ∙ comma_no_open comma (syms c ++ rest))
    (λ m. give_at (tail_of found) m (flow b_ c rest) (either_one (versions_tail found) (pure (p.alone found)) (with_versions h v) (syms c ++ rest) rest m comma (versions_last_tail v others rest m other))))

once_kind : (c : Bool) → kind_of (once c) ≡ p.kind_of c
once_kind true = refl
once_kind false = refl

abbrev made_of : TableKind → Option (List ℕ) → List Sym → ℕ → Outcome Ledger
made_of kind_ v rest n = Some (record { kind = kind_; history = None; view = v }, at_ rest n)

alone_read : {a e : Lexemes} {found : Option (List g.Choice)} {v : Option (List ℕ)} → IsOn (codes "LEDGER") a → Optional (Enclosed (Listed IsChoice)) e found → appends (listed found) ≤ 1 → views (listed found) ≡ one_or_none v
    → (rest : List Sym) (n : ℕ) → same_tag (tag_at rest) t.Open ≡ false → same_tag (tag_at rest) t.Comma ≡ false
    → ParsesTo (p.ledger (at_ (syms (a ++ e) ++ rest) n)) (record { kind = kind_of (appends (listed found)); history = None; view = v }) rest
alone_read {found = found} {v = v} on is few named_ rest n other no_comma =
    let k = choose_all (listed found) false None v (omega (arith, few)) named_ in
    let c : Choices = record { append_only = k.both; view = v } in
    let count : once k.both ≡ appends (listed found) = omega (arith, k.counted) in
    let kind_ : p.kind_of k.both ≡ kind_of (appends (listed found)) = sym (once_kind k.both) ∙ ap kind_of count in
    let y = ledger_first c on is k.made rest rest n (p.alone c) other (λ m. either_none t.Comma (versions_tail c) (pure (p.alone c)) (p.alone c) rest rest m no_comma (pure_parses (p.alone c) rest m)) in
    (y.0, y.1 ∙ ap (λ (z : TableKind). made_of z v rest y.0) kind_)

ledger_parses : {a : Lexemes} {l : g.Ledger} → IsLedger a l → {c : Lexemes} → One t.Close c → (rest : List Sym) (n : ℕ) → ParsesTo (p.ledger (at_ (syms a ++ (syms c ++ rest)) n)) (back_ledger l) (syms c ++ rest)
ledger_parses (g.versions_first {b = e} is comma others) {c} close rest n = versions_first_read is (one w.comma_ e comma) others (syms c ++ rest) n (close_no_open close rest)
ledger_parses (g.versions_last {b = e} is comma others) {c} close rest n = versions_last_read is (one w.comma_ e comma) others (syms c ++ rest) n (close_no_open close rest)
ledger_parses (g.alone on is few named_) {c} close rest n = alone_read on is few named_ (syms c ++ rest) n (close_no_open close rest) (close_comma close rest)

-- ---- the statements

ends_no_with : (h : Tag) → ends h ≡ true → same_tag h t.With ≡ false
unfolding same_tag
ends_no_with t.End e = refl
ends_no_with t.Semi e = refl
ends_no_with _ e = absurd (cc)

abbrev open_ledger : Parser Ledger
open_ledger = expect t.Open >> (p.ledger >>= (λ found. expect t.Close >> pure found))

ledger_enclosed : {a : Lexemes} {l : g.Ledger} → Enclosed IsLedger a l → (rest : List Sym) (n : ℕ) → ParsesTo (open_ledger (at_ (syms a ++ rest) n)) (back_ledger l) rest
ledger_enclosed {l = l} (enclosed {a = a} {b = e} {c = c} open_ is close_) rest n =
    let close = one w.close_ c close_ in
    go (expect t.Open) (λ _. p.ledger >>= (λ found. expect t.Close >> pure found)) a (e ++ c) rest rest n (expects_parses (one w.open_ a open_) (syms (e ++ c) ++ rest) n)
    (λ m. closes p.ledger (λ z. z) e c (back_ledger l) rest m (ledger_parses is close rest m) close)

part_parses : {a : Lexemes} {l : g.Ledger} → IsLedgerPart a l → (rest : List Sym) (n : ℕ) → ends (tag_at rest) ≡ true → ParsesTo (p.ledger_part (at_ (syms a ++ rest) n)) (back_ledger l) rest
unfolding p.ledger_part
part_parses g.unsaid_part rest n fits = either_none t.With open_ledger (pure (p.alone p.no_choices)) (p.alone p.no_choices) rest rest n (ends_no_with (tag_at rest) fits) (pure_parses (p.alone p.no_choices) rest n)
part_parses (g.said_part {a = a} {b = e} {l = l} with_ is) rest n fits =
    give_at (eat t.With >>= (λ z. if z then open_ledger else pure (p.alone p.no_choices))) n (flow a e rest)
    (either_one open_ledger (pure (p.alone p.no_choices)) (back_ledger l) (syms e ++ rest) rest n (one w.with_ a with_)
    (ledger_enclosed is rest n))

abbrev the_table : List ℕ → List ColumnDef → List (List ℕ) → g.Ledger → CreateTable
the_table v columns key l = record { name = v; columns = columns; key = key; kind = l.kind; history = l.history; view = l.view }

table_made : (v : List ℕ) (cs : List Column) (key : List (List ℕ)) (l : g.Ledger) → 0 < length (map (b.column_def key) cs) → b.table_of v cs (Some key) (back_ledger l) ≡ Some (the_table v (map (b.column_def key) cs) key l)
table_made v [] key l h = absurd (omega (arith, h))
table_made v (c ∷ cs) key l h = refl

items_before : (e : Lexemes) (xs : List g.Item) (key : List (List ℕ)) → Listed IsItem e xs → keys_of xs ≡ key ∷ [] → (k f : Lexemes) → One t.Close k → (rest : List Sym) (n : ℕ)
    → ParsesTo (b.items b.no_items (at_ (syms e ++ (syms (k ++ f) ++ rest)) n)) (record { columns = columns_only xs; key = Some key }) (syms (k ++ f) ++ rest)
items_before e xs key is keys k f close rest n =
    let P : List Sym → Type 0 = λ z. ParsesTo (b.items b.no_items (at_ (syms e ++ z) n)) (record { columns = columns_only xs; key = Some key }) z in
    subst P (sym (flow k f rest)) (items_give e xs key is keys close (syms f ++ rest) n)

pub create_table_read : (c e f : Lexemes) (v : List ℕ) (xs : List g.Item) (key : List (List ℕ)) (l : g.Ledger) → IsName c v → Enclosed (Listed IsItem) e xs → IsLedgerPart f l → keys_of xs ≡ key ∷ [] → 0 < length (columns_of key xs)
    → (rest : List Sym) (n : ℕ) → ends (tag_at rest) ≡ true → ParsesTo (b.create_table (at_ (syms (c ++ (e ++ f)) ++ rest) n)) (the_table v (columns_of key xs) key l) rest
unfolding b.create_table
create_table_read c _ f v xs key l named_ (enclosed {a = o} {b = e} {c = k} open_ is close_) part keys some rest n fits =
    let d : Draft = record { columns = columns_only xs; key = Some key } in
    let last_ : List ℕ → Draft → Ledger → Parser CreateTable = λ x y z. required (b.table_of x y.columns y.key z) in
    let close = one w.close_ k close_ in
    let joined : (o ++ (e ++ k)) ++ f ≡ o ++ (e ++ (k ++ f)) = append_assoc o (e ++ k) f ∙ ap (λ z. o ++ z) (append_assoc e k f) in
    let back = columns_back key xs in
    let made = table_made v (columns_only xs) key l (subst (λ z. 0 < length z) back some) ∙ ap (λ z. Some (the_table v z key l)) (sym back) in
    give_at b.create_table n (ap (λ z. syms (c ++ z) ++ rest) joined)
    (go name (λ x. expect t.Open >> (b.items b.no_items >>= (λ y. expect t.Close >> (p.ledger_part >>= last_ x y)))) c (o ++ (e ++ (k ++ f))) rest rest n (name_parses named_ (syms (o ++ (e ++ (k ++ f))) ++ rest) n)
    (λ m. go (expect t.Open) (λ _. b.items b.no_items >>= (λ y. expect t.Close >> (p.ledger_part >>= last_ v y))) o (e ++ (k ++ f)) rest rest m (expects_parses (one w.open_ o open_) (syms (e ++ (k ++ f)) ++ rest) m)
    (λ m. go (b.items b.no_items) (λ y. expect t.Close >> (p.ledger_part >>= last_ v y)) e (k ++ f) rest rest m (items_before e xs key is keys k f close rest m)
    (λ m. go (expect t.Close) (λ _. p.ledger_part >>= last_ v d) k f rest rest m (expects_parses close (syms f ++ rest) m)
    (λ m. then_parses (last_ v d) (part_parses part rest m fits) (λ m. required_parses (b.table_of v (columns_only xs) (Some key) (back_ledger l)) (the_table v (columns_of key xs) key l) rest m made))))))

pub create_index_read : (e f k h : Lexemes) (v table : List ℕ) (columns : List (List ℕ)) → IsName e v → One t.On f → IsName k table → Enclosed AreNames h columns → (rest : List Sym) (n : ℕ)
    → ParsesTo (b.create_index (at_ (syms (e ++ (f ++ (k ++ h))) ++ rest) n)) (record { name = v; table = table; columns = columns }) rest
unfolding b.create_index
create_index_read e f k h v table columns named_ on of names_ rest n =
    let last_ : List ℕ → List ℕ → List (List ℕ) → Parser CreateIndex = λ x y z. pure (record { name = x; table = y; columns = z }) in
    go name (λ x. expect t.On >> (name >>= (λ y. r.name_list >>= last_ x y))) e (f ++ (k ++ h)) rest rest n (name_parses named_ (syms (f ++ (k ++ h)) ++ rest) n)
    (λ m. go (expect t.On) (λ _. name >>= (λ y. r.name_list >>= last_ v y)) f (k ++ h) rest rest m (expects_parses on (syms (k ++ h) ++ rest) m)
    (λ m. go name (λ y. r.name_list >>= last_ v y) k h rest rest m (name_parses of (syms h ++ rest) m)
    (λ m. then_parses (last_ v table) (name_list_parses names_ rest m) (λ m. pure_parses (record { name = v; table = table; columns = columns }) rest m))))
