-- The checks of a new table's definition are those of what is written of it.
use Rattle.std.proofs.Common.{◌≡◌, ◌≢◌, ◌∙◌, ℕ, suc, refl, sym, ap, arith, Bool, true, false, List, [], ◌∷◌, ◌++◌, map, length, Some, None, Ok, Err, Option}
use Rattle.std.proofs.lemmas.Grind.{common_steps}
use Rattle.std.specs.Prelude.{cond, ◌≤◌, ◌+◌, ◌==◌, ◌&&◌, ◌||◌, not, nat_lt, nat_le, if◌then◌else◌, is_some, IsErrAnd}
use Rattle.std.specs.List.{list_all, list_any, filter, position_or_len}
use Rattle.std.specs.Str.{bytes_eq}
use Rattle.sql_value.specs.declared.column.ColumnDef.{ColumnDef}
use Rattle.sql_value.specs.Stored.{is_in_range}
use Rattle.sql_types.specs.declared.table.TableDef.{TableDef}
use Rattle.sql_types.specs.declared.table.Part.{Part}
use Rattle.sql_types.specs.declared.table.Part.TheVariants.{History, View}
use Rattle.sql_types.specs.declared.statement.CreateTable.{CreateTable}
use Rattle.spec_model.specs.Lists.{has_name, repeats}
use Rattle.spec_model.specs.Limits.{max_columns, max_key_columns, max_tables}
use Rattle.spec_model.specs.Catalog.{Defs, NamedPart, find_part, is_named, or_in, own_part, part_named}
use Rattle.sql_value.specs.declared.refusal.Refusal.{Refusal}
use Rattle.sql_value.specs.declared.refusal.Refusal.TheVariants.{NameConflict, NoMemory, NoSuchColumn, NullNotAllowed, LimitExceeded}
use Rattle.spec_model.specs.Refusals.{Checked, MatchesUnlessOom, and_then}
use Rattle.spec_model.specs.Checks.{refused_if, is_declared}
use Rattle.spec_model.specs.Create.{names_of, is_name, table_names, all_names, keyed, key_position_of, ordinal_at, table_def, is_long, is_ledger_name, system_tables, has_bad_name, exceeds_limit, has_null_key, history_of, view_of, next_id, create_check}
use Rattle.sql_check.specs.NewTable as new
use Rattle.sql_check.proofs.Lists.{any_map}

-- ---- names

named_once : (a b c n : List ℕ) → has_name (filter is_name (a ∷ b ∷ c ∷ [])) n ≡ (is_named a n || (is_named b n || (is_named c n || false)))
named_once [] [] [] n = refl
named_once [] [] (z ∷ c) n = refl
named_once [] (y ∷ b) [] n = refl
named_once [] (y ∷ b) (z ∷ c) n = refl
named_once (x ∷ a) [] [] n = refl
named_once (x ∷ a) [] (z ∷ c) n = refl
named_once (x ∷ a) (y ∷ b) [] n = refl
named_once (x ∷ a) (y ∷ b) (z ∷ c) n = refl

found : (p q r : Bool) (own : Part) → is_some (if p then Some own else (if q then Some History else (if r then Some View else None))) ≡ (p || (q || (r || false)))
found true q r own = refl
found false true r own = refl
found false false true own = refl
found false false false own = refl

has_part : (def : TableDef) (n : List ℕ) → has_name (table_names def) n ≡ is_some (part_named def n)
has_part def n = named_once def.name def.history def.view n ∙ sym (found (is_named def.name n) (is_named def.history n) (is_named def.view n) (own_part def))

or_assoc : (a b c : Bool) → ((a || b) || c) ≡ (a || (b || c))
or_assoc true b c = refl
or_assoc false b c = refl

any_append : {A : Type 0} (p : A → Bool) (xs ys : List A) → list_any p (xs ++ ys) ≡ (list_any p xs || list_any p ys)
any_append p [] ys = refl
any_append p (x ∷ xs) ys = ap (λ b. p x || b) (any_append p xs ys) ∙ sym (or_assoc (p x) (list_any p xs) (list_any p ys))

some_or_later : (part : Option Part) (def : TableDef) (rest : Option NamedPart) → (is_some part || is_some rest) ≡ is_some (or_in part def rest)
some_or_later (Some part) def rest = refl
some_or_later None def rest = refl

is_used : (defs : Defs) (n : List ℕ) → has_name (all_names defs) n ≡ new.is_used defs n
unfolding find_part
is_used [] n = refl
is_used (d ∷ ds) n =
    any_append (λ m. bytes_eq m n) (table_names d) (all_names ds)
    ∙ ap (λ b. b || has_name (all_names ds) n) (has_part d n)
    ∙ ap (λ b. is_some (part_named d n) || b) (is_used ds n)
    ∙ some_or_later (part_named d n) d (find_part ds n)

-- ---- the three names

any_kept : (P : List ℕ → Bool) (a b c : List ℕ) → P [] ≡ false → list_any P (filter is_name (a ∷ b ∷ c ∷ [])) ≡ (P a || (P b || (P c || false)))
any_kept P [] [] [] h = rw h refl
any_kept P [] [] (z ∷ c) h = rw h refl
any_kept P [] (y ∷ b) [] h = rw h refl
any_kept P [] (y ∷ b) (z ∷ c) h = rw h refl
any_kept P (x ∷ a) [] [] h = rw h refl
any_kept P (x ∷ a) [] (z ∷ c) h = rw h refl
any_kept P (x ∷ a) (y ∷ b) [] h = rw h refl
any_kept P (x ∷ a) (y ∷ b) (z ∷ c) h = refl

or_left : (a b c : Bool) → (a || (b || (c || false))) ≡ ((a || b) || c)
or_left true b c = refl
or_left false true c = refl
or_left false false true = refl
or_left false false false = refl

and_one_false : (b : Bool) → ((b || false) || (false || false)) ≡ (b || false)
and_one_false true = refl
and_one_false false = refl

and_no_more : (b : Bool) → ((b || false) || (false || false)) ≡ b
and_no_more true = refl
and_no_more false = refl

repeat_with : (own b c : List ℕ) → repeats (filter is_name (own ∷ b ∷ c ∷ [])) ≡ ((is_named b own || is_named c own) || is_named c b)
repeat_with [] [] [] = refl
repeat_with [] [] (z ∷ c) = refl
repeat_with [] (y ∷ b) [] = refl
repeat_with [] (y ∷ b) (z ∷ c) = and_no_more (bytes_eq (z ∷ c) (y ∷ b))
repeat_with (x ∷ a) [] [] = refl
repeat_with (x ∷ a) [] (z ∷ c) = and_one_false (bytes_eq (z ∷ c) (x ∷ a))
repeat_with (x ∷ a) (y ∷ b) [] = refl
repeat_with (x ∷ a) (y ∷ b) (z ∷ c) = four (bytes_eq (y ∷ b) (x ∷ a)) (bytes_eq (z ∷ c) (x ∷ a)) (bytes_eq (z ∷ c) (y ∷ b))
  where
    four : (p q r : Bool) → ((p || (q || false)) || ((r || false) || (false || false))) ≡ ((p || q) || r)
    four true q r = refl
    four false true r = refl
    four false false true = refl
    four false false false = refl

pub repeat : (a b c : List ℕ) → repeats (filter is_name (a ∷ b ∷ c ∷ [])) ≡ new.names_repeat a b c
unfolding new.names_repeat
repeat a b c = repeat_with a b c

none_empty : (a b c : List ℕ) → has_name (filter is_name (a ∷ b ∷ c ∷ [])) [] ≡ false
none_empty [] [] [] = refl
none_empty [] [] (z ∷ c) = refl
none_empty [] (y ∷ b) [] = refl
none_empty [] (y ∷ b) (z ∷ c) = refl
none_empty (x ∷ a) [] [] = refl
none_empty (x ∷ a) [] (z ∷ c) = refl
none_empty (x ∷ a) (y ∷ b) [] = refl
none_empty (x ∷ a) (y ∷ b) (z ∷ c) = refl

unnamed : (defs : Defs) → has_name (all_names defs) [] ≡ false
unnamed [] = refl
unnamed (d ∷ ds) =
    any_append (λ m. bytes_eq m []) (table_names d) (all_names ds)
    ∙ (λ i. none_empty d.name d.history d.view i || unnamed ds i)

pub used : (defs : Defs) (a b c : List ℕ) → list_any (has_name (all_names defs)) (filter is_name (a ∷ b ∷ c ∷ [])) ≡ new.names_used defs a b c
unfolding new.names_used
used defs a b c =
    any_kept (has_name (all_names defs)) a b c (unnamed defs)
    ∙ or_left (has_name (all_names defs) a) (has_name (all_names defs) b) (has_name (all_names defs) c)
    ∙ rw (is_used defs a, is_used defs b, is_used defs c) refl

pub long : (a b c : List ℕ) → list_any is_long (filter is_name (a ∷ b ∷ c ∷ [])) ≡ new.names_long a b c
unfolding new.names_long
long a b c = any_kept is_long a b c refl ∙ or_left (is_long a) (is_long b) (is_long c)

-- ---- columns

names_keyed : (key : List (List ℕ)) (cs : List ColumnDef) → names_of (map (keyed key) cs) ≡ names_of cs
names_keyed key [] = refl
names_keyed key (c ∷ cs) = ap (λ ns. c.name ∷ ns) (names_keyed key cs)

pub columns : (key : List (List ℕ)) (cs : List ColumnDef)
    → ((repeats (names_of (map (keyed key) cs)) || repeats key) || list_any (λ c. is_ledger_name c.name) (map (keyed key) cs)) ≡ new.columns_bad cs key
unfolding new.columns_bad
columns key cs = rw (names_keyed key cs, any_map (λ c. is_ledger_name c.name) (keyed key) cs) refl

length_keyed : (key : List (List ℕ)) (cs : List ColumnDef) → length (map (keyed key) cs) ≡ length cs
length_keyed key [] = refl
length_keyed key (c ∷ cs) = ap suc (length_keyed key cs)

pub long_columns : (key : List (List ℕ)) (cs : List ColumnDef) → list_any (λ c. is_long c.name) (map (keyed key) cs) ≡ new.columns_long cs
unfolding new.columns_long
long_columns key cs = any_map (λ c. is_long c.name) (keyed key) cs

pub types : (key : List (List ℕ)) (cs : List ColumnDef) → list_any (λ c. not (is_in_range c.ty)) (map (keyed key) cs) ≡ list_any (λ c. not (is_in_range c.ty)) cs
types key cs = any_map (λ c. not (is_in_range c.ty)) (keyed key) cs

place_keyed : (key : List (List ℕ)) (cs : List ColumnDef) (n : List ℕ)
    → position_or_len (λ c. bytes_eq c.name n) (map (keyed key) cs) ≡ position_or_len (λ c. bytes_eq c.name n) cs
place_keyed key [] n = refl
place_keyed key (c ∷ cs) n = ap (λ i. cond (not (bytes_eq c.name n)) (1 + i) 0) (place_keyed key cs n)

pub declared : (key : List (List ℕ)) (cs : List ColumnDef) (n : List ℕ) → is_declared (map (keyed key) cs) n ≡ is_declared cs n
declared key cs n = rw (place_keyed key cs n, length_keyed key cs) refl

-- a column has a place in the key exactly where the key names it
below_next : (i n : ℕ) (b : Bool) → nat_lt i n ≡ b → nat_lt (1 + i) (suc n) ≡ b
below_next i n true h = grind (arith, common_steps)
below_next i n false h = grind (arith, common_steps)

by_first : (p : Bool) (i n : ℕ) (b : Bool) → nat_lt i n ≡ b → nat_lt (cond (not p) (1 + i) 0) (suc n) ≡ (p || b)
by_first true i n b h = grind (arith, common_steps)
by_first false i n b h = below_next i n b h

has_place : (key : List (List ℕ)) (n : List ℕ) → nat_lt (position_or_len (λ m. bytes_eq m n) key) (length key) ≡ has_name key n
has_place [] n = refl
has_place (m ∷ ms) n = by_first (bytes_eq m n) (position_or_len (λ k. bytes_eq k n) ms) (length ms) (has_name ms n) (has_place ms n)

ordinal_of : (b : Bool) (i : ℕ) → not (ordinal_at (cond b (Some i) None) == 0) ≡ b
ordinal_of true i = grind (arith, common_steps)
ordinal_of false i = refl

in_key_one : (key : List (List ℕ)) (n : List ℕ) → not (key_position_of key n == 0) ≡ has_name key n
in_key_one key n = ordinal_of (nat_lt (position_or_len (λ m. bytes_eq m n) key) (length key)) (position_or_len (λ m. bytes_eq m n) key) ∙ has_place key n

pub in_key : (key : List (List ℕ)) (cs : List ColumnDef) → list_any (λ c. c.nullable && not (c.key_position == 0)) (map (keyed key) cs) ≡ new.key_null cs key
unfolding new.key_null
in_key key [] = refl
in_key key (c ∷ cs) = rw (in_key_one key c.name, in_key key cs) refl

-- ---- the whole

grouped : (p n k l : Bool) → (((p || n) || k) || l) ≡ (p || ((n || k) || l))
grouped true n k l = refl
grouped false n k l = refl

module _ (defs : Defs) (id : ℕ) (c : CreateTable) where
  pub bad_name : has_bad_name defs (table_def id c) c.key
      ≡ ((new.names_repeat c.name (history_of c.kind id c.history) (view_of c.name c.view)
      || new.names_used defs c.name (history_of c.kind id c.history) (view_of c.name c.view)) || new.columns_bad c.columns c.key)
  unfolding table_def
  bad_name =
      grouped _ (repeats (names_of (map (keyed c.key) c.columns))) (repeats c.key) (list_any (λ d. is_ledger_name d.name) (map (keyed c.key) c.columns))
      ∙ (λ i. (repeat c.name (history_of c.kind id c.history) (view_of c.name c.view) i
      || used defs c.name (history_of c.kind id c.history) (view_of c.name c.view) i) || columns c.key c.columns i)

  pub over : exceeds_limit defs (table_def id c) c.key
      ≡ ((new.counts_over defs c.columns c.key || new.names_long c.name (history_of c.kind id c.history) (view_of c.name c.view)) || new.columns_long c.columns)
  unfolding table_def new.counts_over
  over = λ i.
      ((((nat_lt max_columns (length_keyed c.key c.columns i) || nat_lt max_key_columns (length c.key)) || nat_le (max_tables + system_tables) (length defs)) || types c.key c.columns i)
      || long c.name (history_of c.kind id c.history) (view_of c.name c.view) i) || long_columns c.key c.columns i

  pub null_key : has_null_key (table_def id c) ≡ new.key_null c.columns c.key
  unfolding table_def
  null_key = in_key c.key c.columns

  all_declared : (ns : List (List ℕ)) → list_all (is_declared (table_def id c).columns) ns ≡ list_all (is_declared c.columns) ns
  unfolding table_def
  all_declared [] = refl
  all_declared (n ∷ ns) = λ i. declared c.key c.columns n i && all_declared ns i

  pub key_declared : list_all (is_declared (table_def id c).columns) c.key ≡ list_all (is_declared c.columns) c.key
  key_declared = all_declared c.key

passed : (b : Bool) (e : Refusal) (r : Checked (Unit {0})) (d : TableDef) → refused_if b e (and_then r (λ u. Ok d)) ≡ and_then (refused_if b e r) (λ u. Ok d)
passed true e r d = refl
passed false e r d = refl

-- a new table is checked, and then has its definition
pub created : (defs : Defs) (c : CreateTable) → create_check defs c
    ≡ and_then (new.new_check defs c (history_of c.kind (next_id defs) c.history) (view_of c.name c.view)) (λ u. Ok (table_def (next_id defs) c))
unfolding create_check new.new_check
created defs c =
    let d : TableDef = table_def (next_id defs) c in
    let h : List ℕ = history_of c.kind (next_id defs) c.history in
    let v : List ℕ = view_of c.name c.view in
    let b1 : Bool = (new.names_repeat c.name h v || new.names_used defs c.name h v) || new.columns_bad c.columns c.key in
    let b2 : Bool = (new.counts_over defs c.columns c.key || new.names_long c.name h v) || new.columns_long c.columns in
    let b3 : Bool = not (list_all (is_declared c.columns) c.key) in
    let b4 : Bool = new.key_null c.columns c.key in
    (λ i. refused_if (bad_name defs (next_id defs) c i) NameConflict (refused_if (over defs (next_id defs) c i) LimitExceeded
    (refused_if (not (key_declared defs (next_id defs) c i)) NoSuchColumn (refused_if (null_key defs (next_id defs) c i) NullNotAllowed (Ok d)))))
    ∙ ap (λ r. refused_if b1 NameConflict (refused_if b2 LimitExceeded (refused_if b3 NoSuchColumn r))) (passed b4 NullNotAllowed (Ok tt) d)
    ∙ ap (λ r. refused_if b1 NameConflict (refused_if b2 LimitExceeded r)) (passed b3 NoSuchColumn (refused_if b4 NullNotAllowed (Ok tt)) d)
    ∙ ap (λ r. refused_if b1 NameConflict r) (passed b2 LimitExceeded (refused_if b3 NoSuchColumn (refused_if b4 NullNotAllowed (Ok tt))) d)
    ∙ passed b1 NameConflict (refused_if b2 LimitExceeded (refused_if b3 NoSuchColumn (refused_if b4 NullNotAllowed (Ok tt)))) d

-- ---- the key of a table that passes has few columns

not_over : (a b m k n l o : Bool) (r : Checked (Unit {0})) (u : Unit {0})
    → refused_if a NameConflict (refused_if (((((b || m) || k) || n) || l) || o) LimitExceeded r) ≡ Ok u → m ≡ false
not_over true b m k n l o r u h = cc
not_over false true m k n l o r u h = cc
not_over false false true k n l o r u h = cc
not_over false false false k n l o r u h = refl

at_most : (n : ℕ) → nat_lt max_key_columns n ≡ false → n ≤ max_key_columns
at_most n h = grind (arith, common_steps)

pub few_key : (defs : Defs) (c : CreateTable) (h v : List ℕ) (u : Unit {0}) → new.new_check defs c h v ≡ Ok u → length c.key ≤ max_key_columns
unfolding new.new_check new.counts_over
few_key defs c h v u e =
    at_most (length c.key) (not_over ((new.names_repeat c.name h v || new.names_used defs c.name h v) || new.columns_bad c.columns c.key)
    (nat_lt max_columns (length c.columns)) (nat_lt max_key_columns (length c.key)) (nat_le (max_tables + system_tables) (length defs))
    (list_any (λ d. not (is_in_range d.ty)) c.columns) (new.names_long c.name h v) (new.columns_long c.columns)
    (refused_if (not (list_all (is_declared c.columns) c.key)) NoSuchColumn (refused_if (new.key_null c.columns c.key) NullNotAllowed (Ok tt))) u e)

-- ---- as code has it

module _ (defs : Defs) (c : CreateTable) (count : ℕ) (h v : List ℕ) (counted : count ≡ length defs) (is_history : h ≡ history_of c.kind (count + 1) c.history) (is_view : v ≡ view_of c.name c.view) where
  by_check : create_check defs c ≡ and_then (new.new_check defs c h v) (λ u. Ok (table_def (count + 1) c))
  by_check =
      created defs c
      ∙ (λ i. and_then (new.new_check defs c (history_of c.kind (sym counted i + 1) c.history) (view_of c.name c.view)) (λ u. Ok (table_def (sym counted i + 1) c)))
      ∙ (λ i. and_then (new.new_check defs c (sym is_history i) (sym is_view i)) (λ u. Ok (table_def (count + 1) c)))

  pub refused : (e : Refusal) → new.new_check defs c h v ≡ Err e → create_check defs c ≡ Err e
  refused e is = by_check ∙ ap (λ r. and_then r (λ u. Ok (table_def (count + 1) c))) is

  pub refused_gives : (e : Refusal) (r : Checked TableDef) → IsErrAnd r (λ x. x ≡ e) → (e ≢ NoMemory → new.new_check defs c h v ≡ Err e)
      → MatchesUnlessOom (create_check defs c) r
  refused_gives e (Ok def) fails is = absurd fails
  refused_gives e (Err x) fails is = λ kept. refused e (is (λ lacks. kept (fails ∙ lacks))) ∙ ap Err (sym fails)

  pub made : (u : Unit {0}) → new.new_check defs c h v ≡ Ok u
      → create_check defs c ≡ Ok (record { id = count + 1; name = c.name; kind = c.kind; gone = false; history = h; view = v; columns = map (keyed c.key) c.columns; dropped = []; indexes = [] })
  unfolding table_def
  made u is =
      by_check ∙ ap (λ r. and_then r (λ x. Ok (table_def (count + 1) c))) is
      ∙ (λ i. Ok (record { id = count + 1; name = c.name; kind = c.kind; gone = false; history = sym is_history i; view = sym is_view i; columns = map (keyed c.key) c.columns; dropped = []; indexes = [] }))
