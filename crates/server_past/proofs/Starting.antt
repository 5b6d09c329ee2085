-- A run starts with the cells of a past.
use Rattle.std.proofs.Common.{◌≡◌, ℕ, zero, suc, ◌+◌, ◌<◌, ◌≤◌, ◌^◌, Bool, true, false, List, [], ◌∷◌, ◌++◌, length, replicate, Option, Some, None, codes, refl, sym, ap, subst, ◌∙◌, arith}
use Rattle.std.specs.Prelude.{if◌then◌else◌, nat_lt}
use Rattle.std.specs.List.{AllByRecursion}
use Rattle.std.proofs.lemmas.Bool.{and_parts, ltb-true}
use Rattle.std.proofs.lemmas.List.{length-append}
use Rattle.base_types.specs.DatabaseName.{is_database_name}
use Rattle.base_types.specs.SessionName.{is_session_name}
use Rattle.sql_types.specs.declared.journal.Journal.{Journal}
use Rattle.sql_types.specs.declared.journal.JournalItem.{JournalItem}
use Rattle.sql_types.specs.declared.journal.JournalItem.TheVariants.{Tx, Close}
use Rattle.sql_types.specs.JournalRules.{ItemRules}
use Rattle.spec_model.specs.Catalog.{Tables}
use Rattle.spec_model.specs.Journals.{IsLegal, Line, serial, tx_count}
use Rattle.spec_model.specs.Limits.{max_block}
use Rattle.spec_model.specs.Lists.{greatest}
use Rattle.spec_model.specs.Script.{Reading}
use Rattle.spec_history.specs.Journals.{ids_of}
use Rattle.spec_history.specs.Lists.{Each, Text}
use Rattle.spec_history.specs.Transcripts.{Kind, unread, begin, commit, roll_back, to_savepoint, create, rows, issue, keep, kind_of}
use Rattle.spec_syntax.specs.Text.{statement_of}
use Rattle.spec_ledger.specs.Ledger.{Ledger, ledger_of}
use Rattle.law_blocks.proofs.Counting.{closed_counted, entries_counted}
use Rattle.spec_protocol.specs.Server.{Server}
use Rattle.spec_protocol.specs.Serves.{Serves}
use Rattle.spec_continued.specs.Continued.{continued_cells}
use Rattle.law_behind.specs.Past.{unclosed}
use Rattle.law_retold.specs.Retold.{AreWords, CanBeRetold, EndsNone, Words, past_of}
use Rattle.audit_replay.specs.GoesOn.{LeadsOn, NoneEndsInside, end_from, end_inside, ends_all, is_end}
use Rattle.audit_replay.specs.declared.past.Past.{Past as ReplayedPast}
use Rattle.server_session.specs.KeptCell.{KeptCell, Keeps}
use Rattle.server_engine.specs.Standing.{cells_seen}
use Rattle.server_engine.specs.Starts.{Starts, StartsBehind}
use Rattle.server_past.specs.PastCells.{all_rows_kept, cells_kept}
use Rattle.server_past.proofs.PastCells.{cells_continued, max_left, max_right}

-- ---- its transactions can be told again

none_ends : (k : Kind) → is_end k ≡ false → EndsNone k
none_ends unread e = tt
none_ends begin e = tt
none_ends commit e = let no : true ≡ false = e in cc
none_ends roll_back e = let no : true ≡ false = e in cc
none_ends to_savepoint e = tt
none_ends create e = tt
none_ends rows e = tt
none_ends issue e = tt
none_ends keep e = tt

none_found : (b : Bool) (n : ℕ) (later : Option ℕ) → (if b then Some n else later) ≡ None → (b ≡ false) × (later ≡ None)
none_found true n later e = absurd (let no : Some n ≡ None = e in cc)
none_found false n later e = (refl, e)

module _ (reads : Reading) where
  lines_end_none : (n : ℕ) (lines : List Line) → end_from reads n lines ≡ None → Each (λ l. EndsNone (kind_of (reads l.0))) lines
  lines_end_none n [] e = tt
  lines_end_none n (l ∷ ls) e =
      let none = none_found (ends_all reads l.0) n (end_from reads (suc n) ls) e in
      (none_ends (kind_of (reads l.0)) none.0, lines_end_none (suc n) ls none.1)

  opened_end_none : (id : ℕ) (session : List ℕ) (time : ℕ) (explicit : Bool) (lines : List Line)
      → end_inside reads (Tx id session time explicit lines) ≡ None → explicit ≡ true → Each (λ l. EndsNone (kind_of (reads l.0))) lines
  opened_end_none id session time true lines e opened = lines_end_none 0 lines e
  opened_end_none id session time false lines e opened = absurd (let no : false ≡ true = opened in cc)

  can_be_retold : (count : ℕ) (J : List JournalItem) → AllByRecursion ItemRules J → NoneEndsInside reads J → greatest (ids_of J) ≤ count
      → Each (CanBeRetold reads count) J
  can_be_retold count [] rules none most = tt
  can_be_retold count (Tx id session time explicit lines ∷ is) rules none most =
      let rest = greatest (ids_of is) in (
        record {
          some = ltb-true 0 id (and_parts (nat_lt 0 id) (nat_lt id (2 ^ 63)) rules.0.id).0;
          most = omega (arith, most, max_left id rest);
          alone = rules.0.alone;
          inside = opened_end_none id session time explicit lines none.0;
        },
        can_be_retold count is rules.1 none.1 (omega (arith, most, max_right id rest)),
      )
  can_be_retold count (Close k ∷ is) rules none most = (tt, can_be_retold count is rules.1 none.1 most)

-- closings have no ids
ids_same : (J : List JournalItem) (n k : ℕ) → ids_of (J ++ replicate n (Close k)) ≡ ids_of J
ids_same [] zero k = refl
ids_same [] (suc n) k = ids_same [] n k
ids_same (Tx id session time explicit lines ∷ is) n k = ap (λ (l : List ℕ). id ∷ l) (ids_same is n k)
ids_same (Close m ∷ is) n k = ids_same is n k

-- ---- fewer entries are pending than a block takes

pending_unclosed : (h : List ℕ → List ℕ) (reads : Reading) (J : List JournalItem) → IsLegal reads J → length (ledger_of h reads J).pending ≡ unclosed J
pending_unclosed h reads J legal =
    let of : Ledger = ledger_of h reads J in
    let all : length (of.closed ++ of.pending) ≡ tx_count J = entries_counted h reads J in
    omega (arith, all, length-append of.closed of.pending, closed_counted h reads J legal)

-- ---- the cells keep what was worked out ahead

rows_keep : (h : List ℕ → List ℕ) (T : Tables) (n id : ℕ) → Each (Keeps h) (all_rows_kept T n id)
rows_keep h T zero id = tt
rows_keep h T (suc n) id = (tt, rows_keep h T n (suc id))

cells_keep : (h : List ℕ → List ℕ) (database : Text) (size : ℕ) (items : List JournalItem) (next : ℕ) → Each (Keeps h) (cells_kept h database size items next)
cells_keep h database size items next = (tt, (refl, rows_keep h (serial statement_of items) 32 3))

-- ---- a run starts

past_named : is_session_name (codes "past") ≡ true
unfolding is_session_name
past_named = refl

-- the laws that are used
abbrev pub StartsWithJournal : Type 0
StartsWithJournal = (h : List ℕ → List ℕ) (c : Words) (database : Text) (size : ℕ) → 1 ≤ size → size ≤ max_block → (J : List JournalItem) (count : ℕ)
    → (1 ≤ count → AreWords statement_of c) → IsLegal statement_of J → Each (CanBeRetold statement_of count) J → unclosed J < size → AllByRecursion ItemRules J
    → is_session_name c.name ≡ true → is_database_name database ≡ true → suc count ≤ 2 ^ 63
    → (cells : List KeptCell) → Each (Keeps h) cells → ((v : Server) → Serves h statement_of v → cells_seen cells ≡ continued_cells v database size J count)
    → StartsBehind h database size (past_of J count) cells

abbrev pub HasWords : Type 0
HasWords = (name : Text) → (c : Words) × AreWords statement_of c × (c.name ≡ name)

pub starts : StartsWithJournal → HasWords → (h : List ℕ → List ℕ) (size : ℕ) (J : Journal) (p : ReplayedPast) → 1 ≤ size → size ≤ max_block → LeadsOn h size J p
    → Starts h p.database size (cells_kept h p.database size p.items.items p.next)
starts begins has h size J p some most leads =
    let items = p.items.items in
    let count = greatest (ids_of J.items) in
    let words = has (codes "past") in
    let ids : greatest (ids_of items) ≡ count =
    ap (λ (l : List JournalItem). greatest (ids_of l)) leads.items ∙ ap greatest (ids_same J.items leads.count size) in
    let few : unclosed items < size =
    omega (arith, leads.few, ap (λ (l : Ledger). length l.pending) leads.led.ledger, pending_unclosed h statement_of items leads.led.legal) in
    let begun : StartsBehind h p.database size (past_of items count) (cells_kept h p.database size items (suc count)) =
    begins h words.0 p.database size some most items count (λ l. words.1) leads.led.legal
    (can_be_retold statement_of count items leads.led.rules leads.led.inside (omega (arith, ids))) few leads.led.rules
    (ap is_session_name words.2 ∙ past_named) leads.named (omega (arith, leads.most, leads.next))
    (cells_kept h p.database size items (suc count)) (cells_keep h p.database size items (suc count))
    (λ v serves. cells_continued v h serves p.database size items count) in
    subst (λ (next : ℕ). Starts h p.database size (cells_kept h p.database size items next)) (sym leads.next) begun
