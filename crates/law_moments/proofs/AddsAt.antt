-- What a visit of the ledger's cell adds to the journal has moments of its seat, and blocks of at most its block size.
use Rattle.std.proofs.Common.{◌≡◌, ◌≤◌, ℕ, zero, suc, Bool, true, false, List, [], ◌∷◌, ◌++◌, refl, sym, ap, ◌∙◌, subst, inl, append-nil, append_assoc, arith, leb-false}
use Rattle.std.specs.Prelude.{if◌then◌else◌, nat_le}
use Rattle.sql_types.specs.declared.digest.Digest.{Digest}
use Rattle.sql_types.specs.declared.journal.JournalItem.{JournalItem}
use Rattle.sql_types.specs.declared.journal.JournalItem.TheVariants.{Tx, Close}
use Rattle.spec_history.specs.Journals.{times}
use Rattle.spec_history.specs.Lists.{Each, In}
use Rattle.spec_protocol.specs.Cells.{Cell, Ledger, LedgerCell, pending_in}
use Rattle.spec_protocol.specs.LedgerVisits.{all_closed, closed_by, next_block}
use Rattle.spec_protocol.specs.OpenOnes.{script_so_far}
use Rattle.spec_protocol.specs.Seats.{SeatState}
use Rattle.spec_protocol.specs.Server.{Server}
use Rattle.spec_protocol.specs.TranscriptsAgree.{moments_of}
use Rattle.spec_protocol.specs.Visits.{Visit, Happens}
use Rattle.spec_protocol.specs.Visits as visit
use Rattle.law_moments.specs.AddedInTime.{FitsBlock}
use Rattle.law_moments.proofs.Keeps.{gains_more}

-- these items and digests are new, with moments of this seat
pub record Adds (t : SeatState) (c d : LedgerCell) : Type 0 where
  pub items : List JournalItem
  pub are : d.items ≡ c.items ++ items
  pub block_size : d.block_size ≡ c.block_size
  pub closings : Each (FitsBlock c.block_size) items
  pub times : Each (λ time. In time (moments_of t)) (times items)
  pub digests : List Digest
  pub issued : d.issued ≡ c.issued ++ digests
  pub made : Each (λ g. In g.made (moments_of t)) digests

-- what becomes of the ledger's cell
pub record AddsThen (t : SeatState) (c : LedgerCell) (d : Cell) : Type 0 where
  pub ledger : LedgerCell
  pub is : d ≡ Ledger ledger
  pub adds : Adds t c ledger

adds_none : (t : SeatState) (c d : LedgerCell) → d.items ≡ c.items → d.block_size ≡ c.block_size → d.issued ≡ c.issued → Adds t c d
adds_none t c d items size issued = record {
  items = [];
  are = items ∙ sym (append-nil c.items);
  block_size = size;
  closings = tt;
  times = tt;
  digests = [];
  issued = issued ∙ sym (append-nil c.issued);
  made = tt;
}

same_cell : (t : SeatState) (c : LedgerCell) (d : Cell) → d ≡ Ledger c → AddsThen t c d
same_cell t c d e = record { ledger = c; is = e; adds = adds_none t c c refl refl refl }

-- ---- closings

block_fits : (c : LedgerCell) (b : Bool) → nat_le c.block_size (pending_in c) ≡ b → (if b then c.block_size else pending_in c) ≤ c.block_size
block_fits c true e = omega arith
block_fits c false e = let l = leb-false c.block_size (pending_in c) e in omega arith

-- the next block takes at most the block size
next_fits : (c : LedgerCell) → next_block c ≤ c.block_size
next_fits c = block_fits c (nat_le c.block_size (pending_in c)) refl

module _ (h : List ℕ → List ℕ) where
  -- the items that closings add
  pub record OnlyCloses (c d : LedgerCell) : Type 0 where
    pub items : List JournalItem
    pub are : d.items ≡ c.items ++ items
    pub block_size : d.block_size ≡ c.block_size
    pub closings : Each (FitsBlock c.block_size) items
    pub untimed : times items ≡ []
    pub issued : d.issued ≡ c.issued

  none_closed : (c : LedgerCell) → OnlyCloses c c
  none_closed c = record { items = []; are = sym (append-nil c.items); block_size = refl; closings = tt; untimed = refl; issued = refl }

  one_closed : (c d : LedgerCell) (k : ℕ) → k ≤ c.block_size → OnlyCloses (closed_by h k c) d → OnlyCloses c d
  one_closed c d k fits o = record {
    items = Close k ∷ o.items;
    are = o.are ∙ append_assoc c.items (Close k ∷ []) o.items;
    block_size = o.block_size;
    closings = (fits, o.closings);
    untimed = o.untimed;
    issued = o.issued;
  }

  closes_unless : (b : Bool) (c d : LedgerCell) (k : ℕ) → k ≤ c.block_size → OnlyCloses (closed_by h k c) d → OnlyCloses c (if b then c else d)
  closes_unless true c d k fits o = none_closed c
  closes_unless false c d k fits o = one_closed c d k fits o

  pub only_closes : (n : ℕ) (c : LedgerCell) → OnlyCloses c (all_closed h n c)
  only_closes zero c = none_closed c
  only_closes (suc n) c = closes_unless (nat_le (pending_in c) 0) c (all_closed h n (closed_by h (next_block c) c)) (next_block c) (next_fits c) (only_closes n (closed_by h (next_block c) c))

-- ---- visits

module _ (v : Server) (s : SeatState) where
  pub visit_adds : (out : List (ℕ × Cell)) (how : Visit) (c : LedgerCell) (d : Cell) (t : SeatState) → Happens v out how (Ledger c) s d t → AddsThen t c d
  visit_adds out (visit.assign_id explicit) c (Ledger d) t h = record { ledger = d; is = refl; adds = adds_none t c d (ap (λ (l : LedgerCell). l.items) h.cell) (ap (λ (l : LedgerCell). l.block_size) h.cell) (ap (λ (l : LedgerCell). l.issued) h.cell) }
  visit_adds out (visit.commit time) c (Ledger d) t h = record {
    ledger = d;
    is = refl;
    adds = record {
      items = Tx h.o.id h.stands.x.transcript.session time h.o.explicit (script_so_far h.stands.x h.o) ∷ [];
      are = ap (λ (l : LedgerCell). l.items) h.cell;
      block_size = ap (λ (l : LedgerCell). l.block_size) h.cell;
      closings = (tt, tt);
      times = (gains_more s t h.stands.x _ h.stands.role (ap (λ (z : SeatState). z.role) h.seat) (ap (λ (z : SeatState). z.written) h.seat) (time ∷ []) refl time (inl refl), tt);
      digests = [];
      issued = ap (λ (l : LedgerCell). l.issued) h.cell ∙ sym (append-nil c.issued);
      made = tt;
    };
  }
  visit_adds out visit.read_point c (Ledger d) t h = same_cell t c (Ledger d) (ap Ledger h.1)
  visit_adds out (visit.close k) c (Ledger d) t h = record {
    ledger = d;
    is = refl;
    adds = record {
      items = Close k ∷ [];
      are = ap (λ (l : LedgerCell). l.items) h.0.cell;
      block_size = ap (λ (l : LedgerCell). l.block_size) h.0.cell;
      closings = (subst (λ (n : ℕ). n ≤ c.block_size) (sym h.0.all) (next_fits c), tt);
      times = tt;
      digests = [];
      issued = ap (λ (l : LedgerCell). l.issued) h.0.cell ∙ sym (append-nil c.issued);
      made = tt;
    };
  }
  visit_adds out (visit.issue moment) c (Ledger d) t h = let o = only_closes v.hash (pending_in c) c in record {
    ledger = d;
    is = refl;
    adds = record {
      items = o.items;
      are = ap (λ (l : LedgerCell). l.items) h.cell ∙ o.are;
      block_size = ap (λ (l : LedgerCell). l.block_size) h.cell ∙ o.block_size;
      closings = o.closings;
      times = subst (Each (λ time. In time (moments_of t))) (sym o.untimed) tt;
      digests = h.digest ∷ [];
      issued = ap (λ (l : LedgerCell). l.issued) h.cell ∙ ap (λ (gs : List Digest). gs ++ h.digest ∷ []) o.issued;
      made = (
        subst (λ (time : ℕ). In time (moments_of t)) (sym h.made)
            (gains_more s t h.stands.x _ h.stands.role (ap (λ (z : SeatState). z.role) h.seat) (ap (λ (z : SeatState). z.written) h.seat) (moment ∷ []) refl moment (inl refl)),
        tt,
      );
    };
  }
  visit_adds out visit.lack_block c (Ledger d) t h = same_cell t c (Ledger d) (ap Ledger h.1)
  visit_adds out visit.keep c d t h = same_cell t c d h.1
  visit_adds out visit.nothing c d t h = same_cell t c d h.0
  visit_adds out how c d t h = absurd h
