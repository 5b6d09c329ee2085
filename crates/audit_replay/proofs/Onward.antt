-- How a database goes on from a journal: its items, and closings behind them.
use Rattle.std.proofs.Common.{◌≡◌, ℕ, zero, suc, ◌≤◌, ◌<◌, ◌^◌, List, [], ◌∷◌, ◌++◌, length, replicate, None, refl, sym, ap, subst, ◌∙◌, arith, append-nil, append_assoc}
use Rattle.std.specs.Prelude.{max, nat_lt}
use Rattle.std.specs.List.{AllByRecursion}
use Rattle.std.proofs.lemmas.Bool.{le-leb, ltb-true, and_parts}
use Rattle.std.proofs.lemmas.List.{length-append}
use Rattle.sql_types.specs.declared.entry.TxEntry.{TxEntry}
use Rattle.sql_types.specs.declared.journal.JournalItem.{JournalItem}
use Rattle.sql_types.specs.declared.journal.JournalItem.TheVariants.{Tx, Close}
use Rattle.sql_types.specs.JournalRules.{ItemRules}
use Rattle.spec_model.specs.Catalog.{Tables}
use Rattle.spec_model.specs.Journals.{tx_count}
use Rattle.spec_model.specs.Limits.{max_block}
use Rattle.spec_model.specs.Lists.{greatest}
use Rattle.spec_model.specs.Script.{Reading}
use Rattle.spec_model.specs.SystemTables.{first_tables}
use Rattle.law_frame.proofs.Alls.{all_append}
use Rattle.spec_history.specs.Journals.{ids_of}
use Rattle.spec_ledger.specs.Ledger.{Ledger, closes, ledger_of}
use Rattle.spec_ledger.proofs.Adding.{one_more, serial_more}
use Rattle.spec_ledger.proofs.Parting.{parted}
use Rattle.law_blocks.proofs.Counting.{closed_counted, entries_counted}
use Rattle.store_blocks.specs.Closings.{AreFull, all_placed, closed_by, with_pending}
use Rattle.audit_replay.specs.GoesOn.{Led, end_inside}
use Rattle.audit_replay.proofs.Steps.{legal_more}

-- ---- closings

-- the entries that are pending in a journal have their places
pub led_placed : (h : List ℕ → List ℕ) (reads : Reading) (J : List JournalItem) (l : Ledger) → l ≡ ledger_of h reads J → l ≡ all_placed l
led_placed h reads J l is =
    subst (λ (m : Ledger). m ≡ all_placed m) (sym is) (ap (λ (es : List TxEntry). with_pending es (ledger_of h reads J)) (parted h reads J).pending)

-- the last of so many is like the first
one_behind : (n : ℕ) (i : JournalItem) → replicate (suc n) i ≡ replicate n i ++ i ∷ []
one_behind zero i = refl
one_behind (suc n) i = ap (λ (l : List JournalItem). i ∷ l) (one_behind n i)

module _ (h : List ℕ → List ℕ) (reads : Reading) where
  one_closing : (J : List JournalItem) (T : Tables) (l : Ledger) (k : ℕ) → 1 ≤ k → k ≤ max_block → k ≤ length l.pending
      → Led h reads J T l → Led h reads (J ++ Close k ∷ []) T (closes h k l)
  one_closing J T l k some most enough led =
      let of : Ledger = ledger_of h reads J in
      let count : length (of.closed ++ of.pending) ≡ tx_count J = entries_counted h reads J in
      let pending : length l.pending ≡ length of.pending = ap (λ (m : Ledger). length m.pending) led.ledger in
      record {
        legal = legal_more reads [] first_tables J (Close k) led.legal
            (some, most, omega (arith, enough, pending, count, length-append of.closed of.pending, closed_counted h reads J led.legal));
        rules = all_append ItemRules J (Close k ∷ []) led.rules (rw (le-leb 1 k some, le-leb k max_block most) refl, tt);
        inside = all_append (λ i. end_inside reads i ≡ None) J (Close k ∷ []) led.inside (refl, tt);
        tables = led.tables ∙ sym (serial_more reads first_tables J (Close k));
        ledger = ap (closes h k) led.ledger ∙ sym (one_more h reads J (Close k));
      }

  pub all_closings : (n size : ℕ) (J : List JournalItem) (T : Tables) (l : Ledger) → 1 ≤ size → size ≤ max_block → AreFull h n size l
      → Led h reads J T l → Led h reads (J ++ replicate n (Close size)) T (closed_by h n size l)
  all_closings zero size J T l some most full led = subst (λ (K : List JournalItem). Led h reads K T l) (sym (append-nil J)) led
  all_closings (suc n) size J T l some most full led =
      subst (λ (K : List JournalItem). Led h reads K T (closed_by h (suc n) size l))
      (append_assoc J (replicate n (Close size)) (Close size ∷ []) ∙ ap (λ (K : List JournalItem). J ++ K) (sym (one_behind n (Close size))))
      (one_closing (J ++ replicate n (Close size)) T (closed_by h n size l) size some most full.1 (all_closings n size J T l some most full.0 led))

-- ---- the greatest id

max_below : (n m most : ℕ) → n < most → m < most → max n m < most
max_below n m most a b = grind arith

pub greatest_most : (J : List JournalItem) → AllByRecursion ItemRules J → greatest (ids_of J) < 2 ^ 63
greatest_most [] rules = omega arith
greatest_most (Tx id session time explicit lines ∷ is) rules =
    max_below id (greatest (ids_of is)) (2 ^ 63) (ltb-true id (2 ^ 63) (and_parts (nat_lt 0 id) (nat_lt id (2 ^ 63)) rules.0.id).1) (greatest_most is rules.1)
greatest_most (Close k ∷ is) rules = greatest_most is rules.1
