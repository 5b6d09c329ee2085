-- Journals are read exactly as they are written.
use Rattle.std.proofs.Common.{◌≡◌, ◌<◌, ◌^◌, ℕ, Bool, true, false, cond, List, [], ◌∷◌, ◌++◌, length, Some, Option, None, refl, sym, ap, subst, ◌∙◌, arith}
use Rattle.std.specs.Prelude.{IfSome, codes, ◌==◌, ◌||◌}
use Rattle.std.specs.List.{AllByRecursion}
use Rattle.std.specs.Str.{is_utf8}
use Rattle.std.proofs.lemmas.List.{append-nil}
use Rattle.std.proofs.lemmas.Bool.{and_from, and_parts, eqb-true}
use Rattle.std.proofs.lemmas.Bool.Decides.{nat_tests}
use Rattle.base_types.specs.DatabaseName.{is_database_name}
use Rattle.base_types.specs.Ids.{is_tx_id}
use Rattle.base_types.specs.Moment.{is_moment}
use Rattle.base_types.specs.SessionName.{is_session_name}
use Rattle.base_fields.specs.Fields.{u8_field, u32_field, u64_field, short_field, wide_field}
use Rattle.base_fields.specs.Forms.{tx_id_at, moment_at, session_at, database_at}
use Rattle.base_fields.specs.Readers.{Reader, ◌>>=◌, u8_at, u32_at, u64_at, wide_at, after, both, mapped, where_, listed, whole}
use Rattle.base_fields.specs.Exact.{IsBytes, Exact, Taken}
use Rattle.base_fields.proofs.FormsExact.{tx_id_exact, moment_exact, session_exact, database_exact}
use Rattle.base_fields.proofs.Written.{bind_some, some_is, u8_exact, u32_exact, u64_exact, wide_exact}
use Rattle.base_fields.proofs.Parts.{after_exact, both_exact, mapped_exact, decoded_exact, where_exact, listed_exact, one_value, whole_sound, whole_complete}
use Rattle.sql_types.specs.declared.journal.Journal.{Journal}
use Rattle.sql_types.specs.declared.journal.JournalItem.{JournalItem}
use Rattle.sql_types.specs.declared.journal.JournalItem.TheVariants.{Tx, Close}
use Rattle.format_journal.specs.Journal.{statement_bytes, script_bytes, explicit_bytes, item_bytes, items_bytes, journal_bytes}
use Rattle.sql_types.specs.Versions.{is_version}
use Rattle.sql_types.specs.JournalRules.{Line, is_block_size, ids_differ, closes_follow}
use Rattle.format_journal.specs.Rules.{IsStatement, IsItem, IsJournal}
use Rattle.format_journal.specs.JournalReading.{text_at, statement_at, script_at, explicit_of, opened_at, Run, is_run, run_at, TxParts, tx_from, tx_at, close_from, close_at, item_behind, item_at, are_consistent, items_at, version_at, JournalParts, journal_from, journal_at}

-- ---- statements

abbrev FitText : List ℕ → Type 0
FitText text = (length text < 2 ^ 64) × (is_utf8 text ≡ true)

text_exact : Exact FitText wide_field text_at
unfolding text_at
text_exact = where_exact (λ (text : List ℕ). length text < 2 ^ 64) wide_field is_utf8 wide_at wide_exact

abbrev FitStatement : Line → Type 0
FitStatement s = FitText s.0 × FitText s.1

statement_exact : Exact FitStatement statement_bytes statement_at
unfolding statement_at
statement_exact = both_exact FitText FitText wide_field wide_field text_at text_at text_exact text_exact

abbrev FitScript : List Line → Type 0
FitScript script = (length script < 2 ^ 64) × AllByRecursion FitStatement script

script_exact : Exact FitScript script_bytes script_at
unfolding script_at
script_exact = listed_exact FitStatement statement_bytes statement_at statement_exact (2 ^ 64) u64_field u64_at u64_exact

-- ---- a transaction

abbrev FitId : ℕ → Type 0
FitId id = is_tx_id id ≡ true

abbrev FitTime : ℕ → Type 0
FitTime time = is_moment time ≡ true

abbrev FitSession : List ℕ → Type 0
FitSession name = is_session_name name ≡ true

abbrev Any : Bool → Type 0
Any explicit = Unit {0}

abbrev flag : Bool → ℕ
flag explicit = cond explicit 1 0

opened_there : (b : Bool) → explicit_of (flag b) ≡ Some b
opened_there true = refl
opened_there false = refl

flag_small : (b : Bool) → flag b < 256
flag_small true = omega arith
flag_small false = omega arith

opened_back_by : (n : ℕ) (a b : Bool) (explicit : Bool) → (n == 0) ≡ a → (n == 1) ≡ b
    → cond a (Some false) (cond b (Some true) None) ≡ Some explicit → n ≡ flag explicit
opened_back_by n true b explicit zero one e = let is : false ≡ explicit = cc in rw (← is) (eqb-true _ _ zero)
opened_back_by n false true explicit zero one e = let is : true ≡ explicit = cc in rw (← is) (eqb-true _ _ one)
opened_back_by n false false explicit zero one e = absurd cc

opened_back : (n : ℕ) (explicit : Bool) → explicit_of n ≡ Some explicit → u8_field n ≡ explicit_bytes explicit
opened_back n explicit e = ap u8_field (opened_back_by n (n == 0) (n == 1) explicit refl refl e)

opened_exact : Exact Any explicit_bytes opened_at
unfolding opened_at
opened_exact = decoded_exact (λ (n : ℕ). n < 256) Any u8_field explicit_bytes explicit_of flag u8_at
    (record { there = λ b fits. opened_there b; encoded = λ b fits. refl; fit_back = λ b fits. flag_small b; back = λ n b bytes fits e. (tt, opened_back n b e) })
    u8_exact

abbrev FitRun : Run → Type 0
FitRun x = (Any x.0 × FitScript x.1) × (is_run x ≡ true)

abbrev run_bytes : Run → List ℕ
run_bytes x = explicit_bytes x.0 ++ script_bytes x.1

run_exact : Exact FitRun run_bytes run_at
unfolding run_at
run_exact = where_exact (λ (x : Run). Any x.0 × FitScript x.1) run_bytes is_run (both opened_at script_at)
    (both_exact Any FitScript explicit_bytes script_bytes opened_at script_at opened_exact script_exact)

abbrev FitTx : TxParts → Type 0
FitTx x = FitId x.0 × (FitSession x.1.0 × (FitTime x.1.1.0 × FitRun x.1.1.1))

abbrev encode_tx : TxParts → List ℕ
encode_tx x = u64_field x.0 ++ (short_field x.1.0 ++ (u64_field x.1.1.0 ++ run_bytes x.1.1.1))

abbrev parts_at : Reader TxParts
parts_at = both tx_id_at (both session_at (both moment_at run_at))

parts_exact : Exact FitTx encode_tx parts_at
parts_exact =
    both_exact FitId (λ (x : List ℕ × (ℕ × Run)). FitSession x.0 × (FitTime x.1.0 × FitRun x.1.1)) u64_field (λ (x : List ℕ × (ℕ × Run)). short_field x.0 ++ (u64_field x.1.0 ++ run_bytes x.1.1))
    tx_id_at (both session_at (both moment_at run_at)) tx_id_exact
    (both_exact FitSession (λ (x : ℕ × Run). FitTime x.0 × FitRun x.1) short_field (λ (x : ℕ × Run). u64_field x.0 ++ run_bytes x.1) session_at (both moment_at run_at) session_exact
    (both_exact FitTime FitRun u64_field run_bytes moment_at run_at moment_exact run_exact))

-- ---- items

close_fits : (k : ℕ) → is_block_size k ≡ true → k < 2 ^ 32
close_fits k e = grind (arith, nat_tests)

fit_statements : (script : List Line) → AllByRecursion IsStatement script
    → AllByRecursion FitStatement script
fit_statements [] all = tt
fit_statements (s ∷ script) all = (((all.0.0.size, all.0.0.utf8), (all.0.1.size, all.0.1.utf8)), fit_statements script all.1)

are_statements : (script : List Line) → AllByRecursion FitStatement script
    → AllByRecursion IsStatement script
are_statements [] all = tt
are_statements (s ∷ script) all =
    ((record { utf8 = all.0.0.1; size = all.0.0.0 }, record { utf8 = all.0.1.1; size = all.0.1.0 }), are_statements script all.1)

tx_is : (x : TxParts) → FitTx x → IsItem (tx_from x)
tx_is x f = record {
  rules = record { id = f.0; session = f.1.0; time = f.1.1.0; alone = f.1.1.1.1 };
  count = f.1.1.1.0.1.0;
  texts = are_statements x.1.1.1.1 f.1.1.1.0.1.1;
}

tx_fits : (x : TxParts) → IsItem (tx_from x) → FitTx x
tx_fits x is =
    let rules = is.rules in
    (rules.id, (rules.session, (rules.time, ((tt, (is.count, fit_statements x.1.1.1.1 is.texts)), rules.alone))))

abbrev FitClose : ℕ → Type 0
FitClose k = (k < 2 ^ 32) × (is_block_size k ≡ true)

abbrev size_at : Reader ℕ
size_at = where_ is_block_size u32_at

size_exact : Exact FitClose u32_field size_at
size_exact = where_exact (λ (n : ℕ). n < 2 ^ 32) u32_field is_block_size u32_at u32_exact

-- what was read behind a byte that says its kind
abbrev TakenBehind : ℕ → List ℕ → JournalItem → List ℕ → Type 0
TakenBehind kind bytes item rest = Taken IsItem item_bytes (u8_field kind ++ bytes) item rest

behind_takes_by : (kind : ℕ) (a b : Bool) → (kind == 1) ≡ a → (kind == 2) ≡ b
    → (bytes : List ℕ) (item : JournalItem) (rest : List ℕ) → IsBytes bytes
    → cond a (mapped tx_from parts_at bytes) (cond b (mapped close_from size_at bytes) None) ≡ Some (item, rest) → TakenBehind kind bytes item rest
behind_takes_by kind true b one two bytes item rest fits e =
    let x = bind_some (parts_at bytes) (λ x. Some (tx_from x.0, x.1)) (item, rest) e in
    let t = parts_exact.takes bytes x.0.0 x.0.1 fits x.1 in
    let is : kind ≡ 1 = eqb-true _ _ one in
    let made : TakenBehind kind bytes (tx_from x.0.0) x.0.1 = record { parts = ap (λ z. u8_field kind ++ z) t.parts ∙ ap (λ k. u8_field k ++ (encode_tx x.0.0 ++ x.0.1)) is; rest_fits = t.rest_fits; fits = tx_is x.0.0 t.fits } in
    let P : JournalItem × List ℕ → Type 0 = λ q. TakenBehind kind bytes q.0 q.1 in
    subst P (some_is (tx_from x.0.0, x.0.1) (item, rest) x.2) made
behind_takes_by kind false true one two bytes item rest fits e =
    let x = bind_some (size_at bytes) (λ x. Some (close_from x.0, x.1)) (item, rest) e in
    let t = size_exact.takes bytes x.0.0 x.0.1 fits x.1 in
    let is : kind ≡ 2 = eqb-true _ _ two in
    let made : TakenBehind kind bytes (close_from x.0.0) x.0.1 = record { parts = ap (λ z. u8_field kind ++ z) t.parts ∙ ap (λ k. u8_field k ++ (u32_field x.0.0 ++ x.0.1)) is; rest_fits = t.rest_fits; fits = t.fits.1 } in
    let P : JournalItem × List ℕ → Type 0 = λ q. TakenBehind kind bytes q.0 q.1 in
    subst P (some_is (close_from x.0.0, x.0.1) (item, rest) x.2) made
behind_takes_by kind false false one two bytes item rest fits e = absurd cc

behind_takes : (kind : ℕ) (bytes : List ℕ) (item : JournalItem) (rest : List ℕ) → IsBytes bytes
    → item_behind kind bytes ≡ Some (item, rest) → TakenBehind kind bytes item rest
unfolding item_behind tx_at close_at
behind_takes kind bytes item rest fits e = behind_takes_by kind (kind == 1) (kind == 2) refl refl bytes item rest fits e

item_takes : (bytes : List ℕ) (item : JournalItem) (rest : List ℕ) → IsBytes bytes
    → item_at bytes ≡ Some (item, rest) → Taken IsItem item_bytes bytes item rest
unfolding item_at
item_takes bytes item rest fits e =
    let k = bind_some (u8_at bytes) (λ kind. item_behind kind.0 kind.1) (item, rest) e in
    let t = u8_exact.takes bytes k.0.0 k.0.1 fits k.1 in
    let u = behind_takes k.0.0 k.0.1 item rest t.rest_fits k.2 in
    record { parts = t.parts ∙ u.parts; rest_fits = u.rest_fits; fits = u.fits }

item_again : (item : JournalItem) (rest : List ℕ) → IsItem item
    → item_at (item_bytes item ++ rest) ≡ Some (item, rest)
unfolding item_at item_behind tx_at close_at u8_at
item_again (Tx id session time explicit script) rest is =
    let x : TxParts = (id, (session, (time, (explicit, script)))) in
    ap (λ o. o >>= λ (y : TxParts × List ℕ). Some (tx_from y.0, y.1)) (parts_exact.again x rest (tx_fits x is))
item_again (Close k) rest is =
    ap (λ o. o >>= λ (y : ℕ × List ℕ). Some (close_from y.0, y.1)) (size_exact.again k rest (close_fits k is, is))

item_exact : Exact IsItem item_bytes item_at
item_exact = record { takes = item_takes; again = item_again }

abbrev FitItems : List JournalItem → Type 0
FitItems items = ((length items < 2 ^ 64) × AllByRecursion IsItem items) × (are_consistent items ≡ true)

items_exact : Exact FitItems items_bytes items_at
unfolding items_at
items_exact = where_exact (λ (items : List JournalItem). (length items < 2 ^ 64) × AllByRecursion IsItem items) items_bytes are_consistent (listed u64_at item_at)
    (listed_exact IsItem item_bytes item_at item_exact (2 ^ 64) u64_field u64_at u64_exact)

-- ---- the journal

abbrev FitDatabase : List ℕ → Type 0
FitDatabase name = is_database_name name ≡ true

abbrev FitVersion : ℕ → Type 0
FitVersion n = (n < 256) × (is_version n ≡ true)

abbrev parts_of : Journal → JournalParts
parts_of j = (j.version, (j.database, j.items))

abbrev FitRest : List ℕ × List JournalItem → Type 0
FitRest x = FitDatabase x.0 × FitItems x.1

abbrev FitParts : JournalParts → Type 0
FitParts x = FitVersion x.0 × FitRest x.1

abbrev encode_rest : List ℕ × List JournalItem → List ℕ
encode_rest x = short_field x.0 ++ items_bytes x.1

abbrev encode_parts : JournalParts → List ℕ
encode_parts x = u8_field x.0 ++ encode_rest x.1

version_exact : Exact FitVersion u8_field version_at
unfolding version_at
version_exact = where_exact (λ (n : ℕ). n < 256) u8_field is_version u8_at u8_exact

small_version : (n : ℕ) → is_version n ≡ true → n < 256
small_version n e = here (n == 1) refl e
  where
    here : (first : Bool) → (n == 1) ≡ first → (first || n == 2) ≡ true → n < 256
    here true is e = omega (arith, eqb-true n 1 is)
    here false is e = omega (arith, eqb-true n 2 e)

together : (items : List JournalItem) → ids_differ [] items ≡ true → closes_follow 0 items ≡ true
    → are_consistent items ≡ true
together items ids closes = and_from (ids_differ [] items) (closes_follow 0 items) ids closes

apart : (items : List JournalItem) → are_consistent items ≡ true
    → (ids_differ [] items ≡ true) × (closes_follow 0 items ≡ true)
apart items e = and_parts (ids_differ [] items) (closes_follow 0 items) e

journal_is : (x : JournalParts) → FitParts x → IsJournal (journal_from x)
journal_is x f =
    let a = apart x.1.1 f.1.1.1 in
    record { version = f.0.1; database = f.1.0; count = f.1.1.0.0; items = f.1.1.0.1; ids = a.0; closes = a.1 }

abbrev encoded : Journal → List ℕ
encoded j = codes "LGJN" ++ (u8_field j.version ++ (short_field j.database ++ items_bytes j.items))

journal_exact : Exact IsJournal encoded journal_at
unfolding journal_at
journal_exact = mapped_exact FitParts IsJournal (λ (x : JournalParts). codes "LGJN" ++ encode_parts x) encoded journal_from parts_of (after (codes "LGJN") (both version_at (both database_at items_at)))
    (record {
      there = λ j. refl;
      encoded = λ x. refl;
      fit = journal_is;
      fit_back = λ j f. ((small_version j.version f.version, f.version), (f.database, ((f.count, f.items), together j.items f.ids f.closes)));
    })
    (after_exact (codes "LGJN") FitParts encode_parts (both version_at (both database_at items_at))
    (both_exact FitVersion FitRest u8_field encode_rest version_at (both database_at items_at) version_exact
    (both_exact FitDatabase FitItems short_field items_bytes database_at items_at database_exact items_exact)))

-- ---- the bytes

journal_bytes-is : (j : Journal) → journal_bytes j ≡ encoded j
unfolding journal_bytes
journal_bytes-is j = refl

pub found_of : (bytes : List ℕ) (found : Option Journal) → IsBytes bytes → found ≡ whole journal_at bytes
    → IfSome found (λ j. IsJournal j × (bytes ≡ journal_bytes j))
found_of bytes None fits read = tt
found_of bytes (Some j) fits read =
    let t = whole_sound IsJournal encoded journal_at journal_exact bytes j fits (sym read) in
    (t.0, t.1 ∙ sym (journal_bytes-is j))

pub only_of : (bytes : List ℕ) (j : Journal) → IsJournal j → bytes ≡ journal_bytes j
    → whole journal_at bytes ≡ Some j
only_of bytes j is same = ap (whole journal_at) (same ∙ journal_bytes-is j) ∙ whole_complete IsJournal encoded journal_at journal_exact j is

pub one_journal : (i j : Journal) (rest : List ℕ) → IsJournal i → IsJournal j
    → journal_bytes i ≡ journal_bytes j ++ rest → (i ≡ j) × (rest ≡ [])
unfolding journal_bytes
one_journal i j rest ii ij same = one_value IsJournal encoded journal_at journal_exact i j rest ii ij same

pub equal_journals : (i j : Journal) → IsJournal i → IsJournal j → journal_bytes i ≡ journal_bytes j → i ≡ j
equal_journals i j ii ij same = (one_journal i j [] ii ij (same ∙ sym (append-nil (journal_bytes j)))).0
