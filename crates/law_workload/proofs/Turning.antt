-- Statement by statement, in whatever turns.
use Rattle.std.proofs.Common.{◌≡◌, ◌∙◌, ◌<◌, ◌≤◌, ◌+◌, ◌*◌, ◌/◌, ◌%◌, ◌==◌, ℕ, zero, suc, Bool, true, false, List, [], ◌∷◌, ◌++◌, map, length, drop, Option, Some, Ok, refl, ap, sym, subst, cond, arith}
use Rattle.std.specs.Prelude.{slice_get}
use Rattle.std.specs.List.{AllByRecursion}
use Rattle.std.proofs.lemmas.Bool.Decides.{nat_tests}
use Rattle.sql_types.specs.declared.journal.JournalItem.{JournalItem}
use Rattle.sql_types.specs.declared.journal.JournalItem.TheVariants.{Tx, Close}
use Rattle.sql_types.specs.declared.statement.RowStmt.{RowStmt}
use Rattle.sql_types.specs.declared.statement.Stmt.TheVariants.{Change}
use Rattle.sql_types.specs.declared.version.Table.{Table}
use Rattle.sql_types.specs.declared.version.Version.{Version}
use Rattle.spec_model.specs.Catalog.{Tables}
use Rattle.spec_model.specs.Changes.{Changes, Starts, Ends, changed_all, row_changes}
use Rattle.spec_model.specs.Checks.{row_statement_check}
use Rattle.spec_model.specs.Create.{table_def}
use Rattle.spec_model.specs.Effect.{effect}
use Rattle.spec_model.specs.Journals.{IsOther, tx_count, after_item, serial_from, serial, IsNext, IsLegalFrom, IsLegal}
use Rattle.spec_model.specs.Rows.{started, ended, stored_row}
use Rattle.spec_model.specs.Runs.{Sound}
use Rattle.spec_model.specs.Script.{Reading}
use Rattle.spec_model.specs.SystemTables.{first_tables}
use Rattle.law_frame.proofs.LegalSound.{first_part, last_one}
use Rattle.law_frame.proofs.OtherTransactions.{others_sound}
use Rattle.law_frame.proofs.SoundStatements.{first_sound}
use Rattle.workload_generator.specs.Workload.{value_of, create_text, insert_text, update_text, setup_texts, session_texts, nth_text}
use Rattle.law_workload.specs.Statements.{row_with, new_row, changed_row, create_statement}
use Rattle.law_workload.specs.Tables.{def_of, Shows}
use Rattle.law_workload.specs.Turns.{Turns, over as no_more, closes, sets_up, first, second, third, fourth, ReadsTexts, inserted_total}
use Rattle.law_workload.proofs.Counted.{count_is, sum_is}
use Rattle.law_workload.proofs.Inserts.{columns, insert_changes}
use Rattle.law_workload.proofs.Updates.{update_changes}
use Rattle.law_workload.proofs.Rows.{rows_after, none_is_live, IsNew, After, at_first, after_insert, after_update}
use Rattle.law_workload.proofs.Effects as e
use Rattle.law_workload.proofs.Effects.{tables_of, all_defs, insert_passes, update_passes, change_alone, create_alone, none_made, one_made, two_made, three_made, rows_of_table, rows_of_columns}
use Rattle.law_workload.proofs.FourTables.{by_table}

-- ---- the next of a list

-- x has the number k in the list, and xs stand behind it
pub record First (L : List (List ℕ)) (k : ℕ) (x : List ℕ) (xs : List (List ℕ)) : Type 0 where
  pub there : slice_get L k ≡ Some x
  pub behind : xs ≡ drop (suc k) L
  pub within : k < length L

-- where something is left, its first has the number of those that are passed
next_of : (L : List (List ℕ)) (k : ℕ) (x : List ℕ) (xs : List (List ℕ)) → x ∷ xs ≡ drop k L → First L k x xs
next_of [] zero x xs is = cc
next_of [] (suc k) x xs is = cc
next_of (y ∷ L) zero x xs is = let same : x ≡ y = cc in record { there = ap Some (sym same); behind = cc; within = omega arith }
next_of (y ∷ L) (suc k) x xs is =
    let later = next_of L k x xs is in
    record { there = later.there; behind = later.behind; within = omega (arith, later.within) }

-- where nothing is left, all are passed
past_end : (L : List (List ℕ)) (k : ℕ) → [] ≡ drop k L → length L ≤ k
past_end [] k is = omega arith
past_end (y ∷ L) zero is = cc
past_end (y ∷ L) (suc k) is = omega (arith, past_end L k is)

same_text : (a b : List ℕ) → ◌≡◌ {A = Option (List ℕ)} (Some a) (Some b) → a ≡ b
same_text a b h = cc

same_columns : (table : ℕ) → (def_of table).columns ≡ columns
unfolding table_def
same_columns table = refl

none_dropped : (table : ℕ) → (def_of table).dropped ≡ []
unfolding table_def
none_dropped table = refl

-- ---- how many transactions there are

pub as_many : {s a b c d : List (List ℕ)} {is : List JournalItem} → Turns s a b c d is → tx_count is ≡ length s + length a + length b + length c + length d
as_many no_more = refl
as_many (closes n t) = as_many t
as_many (sets_up id session time text reply t) = omega (arith, as_many t)
as_many (first id session time text reply t) = omega (arith, as_many t)
as_many (second id session time text reply t) = omega (arith, as_many t)
as_many (third id session time text reply t) = omega (arith, as_many t)
as_many (fourth id session time text reply t) = omega (arith, as_many t)

module _ (reads : Reading) (known : ReadsTexts reads) (n : ℕ) (few : n ≤ 1000000)
    (count : (table : ℕ) → length (session_texts table n) ≡ n + n / 10)
    (place : (table k : ℕ) → k < n + n / 10 → slice_get (session_texts table n) k ≡ Some (nth_text table k)) where
  -- ---- one session

  -- so many statements of a session ran, these are left, and its table has these versions
  record At (table : ℕ) (texts : List (List ℕ)) (V : List Version) : Type 0 where
    number : ℕ
    left : texts ≡ drop number (session_texts table n)
    most : number ≤ n + n / 10
    after : After table number V

  at_start : (table : ℕ) → At table (session_texts table n) []
  at_start table = record { number = 0; left = refl; most = omega arith; after = at_first table }

  at_end : (table : ℕ) (V : List Version) → At table [] V → After table (n + n / 10) V
  at_end table V h =
      let all : h.number ≡ n + n / 10 = omega (arith, past_end (session_texts table n) h.number h.left, count table, h.most) in
      subst (λ m. After table m V) all h.after

  -- ---- one statement

  -- the first statement that is left passes the checks, and behind it the session stands over what it makes of the table
  record Next (table tx : ℕ) (text : List ℕ) (rest : List (List ℕ)) (V : List Version) : Type 0 where
    stmt : RowStmt
    made : Changes
    is_read : reads text ≡ Some (Change stmt)
    passes : row_statement_check all_defs stmt ≡ Ok (def_of table)
    makes : row_changes (def_of table) V stmt ≡ Ok made
    later : At table rest (changed_all tx 0 made.0 V)

  next_at : (table k tx : ℕ) (rest : List (List ℕ)) → 1 ≤ table → table ≤ 4 → k < n + n / 10 → (V : List Version) → After table k V → IsNew tx V
      → ((W : List Version) → After table (suc k) W → At table rest W) → (t : Bool) → (k % 11 == 10) ≡ t
      → Next table tx (cond t (update_text table (k / 11 * 10 + 9)) (insert_text table (k / 11 * 10 + k % 11))) rest V
  unfolding changed_all started ended
  next_at table k tx rest some four less V h new behind true is =
      let last : k % 11 ≡ 10 = grind (arith, nat_tests, is) in
      let row = k / 11 * 10 + 9 in
      let value = value_of table row in
      let newest = h.newest last in
      record {
        stmt = changed_row table row;
        made = (Ends newest.start ∷ Starts (stored_row columns (row_with row (value + 1))) ∷ [], 1);
        is_read = known.update table row some four (omega (arith, less, few));
        passes = update_passes table some four row;
        makes = update_changes (def_of table) table V row value newest.start (same_columns table) (omega (arith, less, few)) (omega arith) newest.of_its_key;
        later = behind _ (after_update table k tx V last h newest);
      }
  next_at table k tx rest some four less V h new behind false is =
      let other : k % 11 < 10 = grind (arith, nat_tests, is) in
      let row = k / 11 * 10 + k % 11 in
      let value = value_of table row in
      record {
        stmt = new_row table row value;
        made = (Starts (stored_row columns (row_with row value)) ∷ [], 1);
        is_read = known.insert table row some four (omega (arith, less, few));
        passes = insert_passes table some four row value;
        makes = insert_changes (def_of table) table V row value (same_columns table) (none_dropped table) (omega (arith, less, few)) (omega arith) (none_is_live row V h.below);
        later = behind _ (after_insert table k tx V other h new);
      }

  next : (table tx : ℕ) (text : List ℕ) (rest : List (List ℕ)) (V : List Version) → 1 ≤ table → table ≤ 4 → At table (text ∷ rest) V → IsNew tx V → Next table tx text rest V
  unfolding nth_text
  next table tx text rest V some four h new =
      let k = h.number in
      let f = next_of (session_texts table n) k text rest h.left in
      let less : k < n + n / 10 = omega (arith, f.within, count table) in
      let is : nth_text table k ≡ text = same_text (nth_text table k) text (sym (place table k less) ∙ f.there) in
      let behind : (W : List Version) → After table (suc k) W → At table rest W = λ W after. record { number = suc k; left = f.behind; most = omega (arith, less); after = after } in
      subst (λ z. Next table tx z rest V) is (next_at table k tx rest some four less V h.after new behind (k % 11 == 10) refl)

  -- ---- on and on

  -- sound for each transaction that isn't among these
  abbrev SoundForOthers : List JournalItem → Tables → Type 0
  SoundForOthers before T = (id : ℕ) → AllByRecursion (IsOther id) before → Sound id 0 T

  after_one : (before : List JournalItem) (T : Tables) (item : JournalItem) → IsNext reads before T item → SoundForOthers before T → SoundForOthers (before ++ item ∷ []) (after_item reads T item)
  after_one before T (Tx own session time explicit lines) is h id others =
      others_sound own id 0 (last_one (IsOther id) before (Tx own session time explicit lines) others) reads explicit T (map (λ l. l.0) lines)
      (h own is.1) (h id (first_part (IsOther id) before (Tx own session time explicit lines ∷ []) others))
  after_one before T (Close k) is h id others = h id (first_part (IsOther id) before (Close k ∷ []) others)

  -- the tables after all statements
  pub record Ended (T : Tables) : Type 0 where
    pub s : List Version
    pub c : List Version
    pub v : List Version
    pub w : List Version
    pub x : List Version
    pub y : List Version
    pub are : T ≡ tables_of s c v w x y
    pub in_first : After 1 (n + n / 10) v
    pub in_second : After 2 (n + n / 10) w
    pub in_third : After 3 (n + n / 10) x
    pub in_fourth : After 4 (n + n / 10) y

  -- these items lead from these tables, behind the items before, to the end of all sessions
  abbrev Leads : List JournalItem → Tables → List JournalItem → Type 0
  Leads before T is = IsLegalFrom reads before T is → SoundForOthers before T → Ended (serial_from reads T is)

  -- an item that leads to tables from which the others lead on
  goes_on : (before : List JournalItem) (item : JournalItem) (T U : Tables) (is : List JournalItem) → after_item reads T item ≡ U → ((b : List JournalItem) → Leads b U is) → Leads before T (item ∷ is)
  unfolding serial_from
  goes_on before item T U is step rest legal others =
      subst (λ W. Ended (serial_from reads W is)) (sym step)
      (rest (before ++ item ∷ []) (subst (λ W. IsLegalFrom reads (before ++ item ∷ []) W is) step legal.1)
      (subst (λ W. SoundForOthers (before ++ item ∷ []) W) step (after_one before T item legal.0 others)))

  -- the sessions, from whatever statements on that are left to them
  run : {s a b c d : List (List ℕ)} {is : List JournalItem} → Turns s a b c d is → s ≡ [] → (p q v w x y : List Version) → At 1 a v → At 2 b w → At 3 c x → At 4 d y
      → (before : List JournalItem) → Leads before (tables_of p q v w x y) is
  unfolding serial_from
  run no_more none p q v w x y i j k l before legal others =
      record {
        s = p;
        c = q;
        v = v;
        w = w;
        x = x;
        y = y;
        are = refl;
        in_first = at_end 1 v i;
        in_second = at_end 2 w j;
        in_third = at_end 3 x k;
        in_fourth = at_end 4 y l;
      }
  run (closes {is = is} m t) none p q v w x y i j k l before legal others =
      goes_on before (Close m) (tables_of p q v w x y) (tables_of p q v w x y) is refl (run t none p q v w x y i j k l) legal others
  run (sets_up id session time text reply t) none p q v w x y i j k l before legal others = cc
  run (first {a = a} {is = is} id session time text reply t) none p q v w x y i j k l before legal others =
      let one = next 1 id text a v (omega arith) (omega arith) i (others id legal.0.1).each.1.1.0.before in
      goes_on before (Tx id session time false ((text, reply) ∷ [])) (tables_of p q v w x y) (tables_of p q (changed_all id 0 one.made.0 v) w x y) is
      (change_alone reads (tables_of p q v w x y) id text one.stmt one.is_read ∙ e.effect_1 p q v w x y id one.stmt one.made one.passes one.makes)
      (run t refl p q (changed_all id 0 one.made.0 v) w x y one.later j k l) legal others
  run (second {b = b} {is = is} id session time text reply t) none p q v w x y i j k l before legal others =
      let one = next 2 id text b w (omega arith) (omega arith) j (others id legal.0.1).each.1.1.1.0.before in
      goes_on before (Tx id session time false ((text, reply) ∷ [])) (tables_of p q v w x y) (tables_of p q v (changed_all id 0 one.made.0 w) x y) is
      (change_alone reads (tables_of p q v w x y) id text one.stmt one.is_read ∙ e.effect_2 p q v w x y id one.stmt one.made one.passes one.makes)
      (run t refl p q v (changed_all id 0 one.made.0 w) x y i one.later k l) legal others
  run (third {c = c} {is = is} id session time text reply t) none p q v w x y i j k l before legal others =
      let one = next 3 id text c x (omega arith) (omega arith) k (others id legal.0.1).each.1.1.1.1.0.before in
      goes_on before (Tx id session time false ((text, reply) ∷ [])) (tables_of p q v w x y) (tables_of p q v w (changed_all id 0 one.made.0 x) y) is
      (change_alone reads (tables_of p q v w x y) id text one.stmt one.is_read ∙ e.effect_3 p q v w x y id one.stmt one.made one.passes one.makes)
      (run t refl p q v w (changed_all id 0 one.made.0 x) y i j one.later l) legal others
  run (fourth {d = d} {is = is} id session time text reply t) none p q v w x y i j k l before legal others =
      let one = next 4 id text d y (omega arith) (omega arith) l (others id legal.0.1).each.1.1.1.1.1.0.before in
      goes_on before (Tx id session time false ((text, reply) ∷ [])) (tables_of p q v w x y) (tables_of p q v w x (changed_all id 0 one.made.0 y)) is
      (change_alone reads (tables_of p q v w x y) id text one.stmt one.is_read ∙ e.effect_4 p q v w x y id one.stmt one.made one.passes one.makes)
      (run t refl p q v w x (changed_all id 0 one.made.0 y) i j k one.later) legal others

  -- ---- the setup

  -- from these tables on, with these statements of the setup left
  abbrev Begins : List (List ℕ) → (List Version → List Version → Tables) → Type 0
  Begins texts made = (s a b c d : List (List ℕ)) (is : List JournalItem) → Turns s a b c d is → s ≡ texts → At 1 a [] → At 2 b [] → At 3 c [] → At 4 d []
      → (p q : List Version) (before : List JournalItem) → Leads before (made p q) is

  set_up : Begins [] (λ p q. tables_of p q [] [] [] [])
  set_up s a b c d is t none i j k l p q before = run t none p q [] [] [] [] i j k l before

  first_text : (x y : List ℕ) (xs ys : List (List ℕ)) → x ∷ xs ≡ y ∷ ys → x ≡ y
  first_text x y xs ys h = cc

  other_texts : (x y : List ℕ) (xs ys : List (List ℕ)) → x ∷ xs ≡ y ∷ ys → xs ≡ ys
  other_texts x y xs ys h = cc

  module _ (table : ℕ) (some : 1 ≤ table) (four : table ≤ 4) (texts : List (List ℕ)) (made more : List Version → List Version → Tables)
      (makes : (p q : List Version) (tx : ℕ) → (effect (made p q) tx 0 (create_statement table)).tables ≡ more (rows_of_table tx table p) (rows_of_columns tx table q))
      (later : Begins texts more) where
    -- one table is made, and then the others
    one_more : {s a b c d : List (List ℕ)} {is : List JournalItem} → Turns s a b c d is → s ≡ create_text table ∷ texts → At 1 a [] → At 2 b [] → At 3 c [] → At 4 d []
        → (p q : List Version) (before : List JournalItem) → Leads before (made p q) is
    one_more no_more these i j k l p q before legal others = cc
    one_more (closes {is = is} m t) these i j k l p q before legal others =
        goes_on before (Close m) (made p q) (made p q) is refl (one_more t these i j k l p q) legal others
    one_more (sets_up {s = s} {a = a} {b = b} {c = c} {d = d} {is = is} id session time text reply t) these i j k l p q before legal others =
        let is_read = ap reads (first_text text (create_text table) s texts these) ∙ known.create table some four in
        goes_on before (Tx id session time false ((text, reply) ∷ [])) (made p q) (more (rows_of_table id table p) (rows_of_columns id table q)) is
        (create_alone reads (made p q) id text table is_read ∙ makes p q id)
        (later s a b c d is t (other_texts text (create_text table) s texts these) i j k l (rows_of_table id table p) (rows_of_columns id table q)) legal others
    one_more (first id session time text reply t) these i j k l p q before legal others = cc
    one_more (second id session time text reply t) these i j k l p q before legal others = cc
    one_more (third id session time text reply t) these i j k l p q before legal others = cc
    one_more (fourth id session time text reply t) these i j k l p q before legal others = cc

  from_three : Begins (create_text 4 ∷ []) three_made
  from_three s a b c d is = one_more 4 (omega arith) (omega arith) [] three_made (λ p q. tables_of p q [] [] [] []) e.effect_create_4 set_up

  from_two : Begins (create_text 3 ∷ create_text 4 ∷ []) two_made
  from_two s a b c d is = one_more 3 (omega arith) (omega arith) (create_text 4 ∷ []) two_made three_made e.effect_create_3 from_three

  from_one : Begins (create_text 2 ∷ create_text 3 ∷ create_text 4 ∷ []) one_made
  from_one s a b c d is = one_more 2 (omega arith) (omega arith) (create_text 3 ∷ create_text 4 ∷ []) one_made two_made e.effect_create_2 from_two

  from_none : Begins setup_texts none_made
  from_none s a b c d is = one_more 1 (omega arith) (omega arith) (create_text 2 ∷ create_text 3 ∷ create_text 4 ∷ []) none_made one_made e.effect_create_1 from_one

  whole : (is : List JournalItem) → Turns setup_texts (session_texts 1 n) (session_texts 2 n) (session_texts 3 n) (session_texts 4 n) is → IsLegal reads is → Ended (serial reads is)
  unfolding first_tables
  whole is t legal =
      from_none setup_texts (session_texts 1 n) (session_texts 2 n) (session_texts 3 n) (session_texts 4 n) is t refl (at_start 1) (at_start 2) (at_start 3) (at_start 4)
      [] [] [] legal (λ id none. first_sound id 0)

  -- ---- what they show

  shown : (T : Tables) (table : ℕ) (V : List Version) → e.versions_in T table ≡ V → After table (n + n / 10) V → Shows T table n (n / 10) (inserted_total table n + n / 10)
  shown T table V is h =
      let rows : rows_after (n + n / 10) ≡ n = omega arith in
      let changed : (n + n / 10) / 11 ≡ n / 10 = omega arith in
      record {
        rows_are = rw is (count_is _ V ∙ h.rows ∙ rows);
        history_is = rw is (count_is _ V ∙ h.changed ∙ changed);
        sum_is = rw is (sum_is _ _ V ∙ h.amount ∙ omega (arith, ap (inserted_total table) rows, changed));
      }

  pub all_shown : (is : List JournalItem) → Turns setup_texts (session_texts 1 n) (session_texts 2 n) (session_texts 3 n) (session_texts 4 n) is → IsLegal reads is
      → (table : ℕ) → 1 ≤ table → table ≤ 4 → Shows (serial reads is) table n (n / 10) (inserted_total table n + n / 10)
  unfolding table_def
  all_shown is t legal =
      let end = whole is t legal in
      let T = serial reads is in
      by_table (λ table. Shows T table n (n / 10) (inserted_total table n + n / 10))
      (shown T 1 end.v (ap (λ U. e.versions_in U 1) end.are) end.in_first)
      (shown T 2 end.w (ap (λ U. e.versions_in U 2) end.are) end.in_second)
      (shown T 3 end.x (ap (λ U. e.versions_in U 3) end.are) end.in_third)
      (shown T 4 end.y (ap (λ U. e.versions_in U 4) end.are) end.in_fourth)

  pub ids_are : (is : List JournalItem) → Turns setup_texts (session_texts 1 n) (session_texts 2 n) (session_texts 3 n) (session_texts 4 n) is → IsLegal reads is
      → map (λ (t : Table). t.def.id) (serial reads is) ≡ 1 ∷ 2 ∷ 3 ∷ 4 ∷ 5 ∷ 6 ∷ []
  unfolding table_def
  ids_are is t legal = ap (map (λ (t : Table). t.def.id)) (whole is t legal).are
