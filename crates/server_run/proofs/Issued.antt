-- What is issued behind a run is of its journal, and `verify` says Yes with it.
use Rattle.std.proofs.Common.{◌≡◌, ◌<◌, ◌+◌, ◌++◌, ◌∙◌, ℕ, List, [], ◌∷◌, length, map, sym, ap, ap₂, subst, ⊎_elim, arith}
use Rattle.std.specs.List.{AllByRecursion}
use Rattle.std.proofs.lemmas.List.{take_all}
use Rattle.sql_types.specs.declared.digest.Digest.{Digest}
use Rattle.sql_types.specs.declared.digest.HeldDigest.{HeldDigest}
use Rattle.sql_types.specs.declared.journal.Journal.{Journal}
use Rattle.sql_types.specs.declared.journal.JournalItem.{JournalItem}
use Rattle.spec_model.specs.Journals.{closed, cut, tx_count}
use Rattle.spec_model.specs.LegalJournals.{IsLegalJournal}
use Rattle.spec_model.specs.Script.{Reading}
use Rattle.spec_history.specs.Digests.{IsDigest}
use Rattle.spec_history.specs.Journals.{blocks, times}
use Rattle.spec_history.specs.Lists.{Text, Each}
use Rattle.spec_history.specs.Meaning.{Meaning}
use Rattle.spec_history.proofs.Trace.{each_append, each_weaker}
use Rattle.format_image.specs.Image.{image_of, image_of_cut}
use Rattle.format_image.specs.ImageBytes.{image_bytes}
use Rattle.law_image.specs.Room.{FitsImageFormat}
use Rattle.law_blocks.specs.Digests.{digest_of}
use Rattle.spec_ledger.specs.Ledger.{block_hash}
use Rattle.spec_syntax.specs.Text.{statement_of}
use Rattle.spec_verify.specs.declared.place.Verdict.TheVariants.{Yes}
use Rattle.spec_verify.specs.Bytes.{verdict_of}
use Rattle.law_concurrent.specs.Held.{AllHeld, IsHeld, held}
use Rattle.spec_protocol.specs.Cells.{LedgerCell, blocks_in, pending_in}
use Rattle.spec_protocol.specs.JournalForms.{journal_in}
use Rattle.spec_protocol.specs.LedgerIsLegal.{IsOfCell, LedgerIsLegal}
use Rattle.spec_protocol.specs.LedgerVisits.{all_closed}
use Rattle.spec_protocol.specs.Server.{Server}
use Rattle.spec_protocol.proofs.LedgerNumbers.{blocks_are, pending_are}
use Rattle.store_ledger.specs.Issues.{IsIssued}
use Rattle.store_ledger.specs.declared.cell.IssuedDigest.{IssuedDigest}
use Rattle.store_ledger.proofs.Closings.{none_closed}
use Rattle.spec_protocol.specs.Serves.{Serves}
use Rattle.format_digest.specs.Writing.{HasMoments}
use Rattle.server_result.specs.Moments.{IsMoment}
use Rattle.server_result.proofs.Made.{have_moments}
use Rattle.law_concurrent.specs.CameTo.{last_image_bytes}
use Rattle.server_run.specs.CameTo.{AreLast, IsLast}
use Rattle.server_ending.specs.Closing.{IssuesLast}

-- the laws that are used
pub record Laws : Type 0 where
  pub meaning : (v : Server) (made : ℕ) (c d : LedgerCell) (issued : IssuedDigest) → LedgerIsLegal v c → (i : IsIssued v.hash made c issued d)
      → IsDigest v.meaning c.database (all_closed v.hash (pending_in c) c).items i.digest
  pub digest : (v : Server) (made : ℕ) (c d : LedgerCell) (issued : IssuedDigest) → LedgerIsLegal v c → (i : IsIssued v.hash made c issued d)
      → i.digest ≡ digest_of v.hash v.reads c.database (all_closed v.hash (pending_in c) c).items issued.block made
  pub are_held : (h : List ℕ → List ℕ) (reads : Reading) (q : Meaning) (database : Text) (items : List JournalItem) (m : ℕ) (d : Digest)
      → ((J : List JournalItem) (b : ℕ) → q.block_hash J b ≡ block_hash h reads J b) → IsDigest q database items d → d.block < blocks (cut items m) → IsHeld h reads database (cut items m) (held d)
  pub verify : (h : List ℕ → List ℕ) (j : Journal) (m : ℕ) (digests : List HeldDigest) → IsLegalJournal statement_of j → FitsImageFormat h statement_of j.database j.items
      → AllHeld h statement_of j.database (cut j.items m) digests → verdict_of h digests (image_bytes (image_of_cut h statement_of j.database j.items m)) ≡ Yes

module _ (laws : Laws) (h : List ℕ → List ℕ) (v : Server) (serves : Serves h statement_of v) (l : LedgerCell) (legal : LedgerIsLegal v l) (none : pending_in l ≡ 0) where
  pub all_in_blocks : closed l.items ≡ tx_count l.items
  all_in_blocks = let e = pending_are v l legal in omega (arith, e, none)

  as_it_is : all_closed v.hash (pending_in l) l ≡ l
  as_it_is = none_closed v.hash (pending_in l) l none

  -- all items are a cut
  whole : cut l.items (length l.items) ≡ l.items
  whole = take_all (length l.items) l.items (omega arith)

  module _ (made : ℕ) (more : List Digest) (after : LedgerCell) (told : IssuesLast h made l more after) where
    issued : IssuesLast v.hash made l more after
    issued = subst (λ (g : List ℕ → List ℕ). IssuesLast g made l more after) (sym serves.hash) told

    newest : (x : IssuedDigest) (i : IsIssued v.hash made l x after) → blocks l.items ≡ i.digest.block + 1
    newest x i = sym (blocks_are v l legal) ∙ subst (λ (c : LedgerCell). blocks_in c ≡ i.digest.block + 1) as_it_is i.of_newest.newest

    -- ---- the last one

    one_last : (says : ℕ → Type 0) → IsMoment says made → (x : IssuedDigest) (i : IsIssued v.hash made l x after) → IsLast h says (journal_in l) i.digest
    one_last says m x i = record {
      newest = newest x i;
      is = laws.digest v made l after x legal i
          ∙ ap (λ (c : LedgerCell). digest_of v.hash v.reads l.database c.items x.block made) as_it_is
          ∙ ap₂ (λ (g : List ℕ → List ℕ) (reads : Reading). digest_of g reads l.database l.items x.block made) serves.hash serves.reading
          ∙ ap₂ (λ (b time : ℕ). digest_of h statement_of l.database l.items b time) i.block (sym i.made);
      made = subst (IsMoment says) (sym i.made) m;
    }

    pub are_last : (says : ℕ → Type 0) → IsMoment says made → AreLast h says (journal_in l) more
    are_last says m = ⊎_elim
        (λ n. subst (AreLast h says (journal_in l)) (sym n.1) n.0)
        (λ p. subst (AreLast h says (journal_in l)) (sym p.2) (one_last says m p.0 p.1))
        issued

    pub each_made : (says : ℕ → Type 0) → IsMoment says made → Each (λ d. IsMoment says d.made) more
    each_made says m = ⊎_elim
        (λ n. subst (Each (λ d. IsMoment says d.made)) (sym n.1) tt)
        (λ p. subst (Each (λ d. IsMoment says d.made)) (sym p.2) (subst (IsMoment says) (sym p.1.made) m, tt))
        issued

    -- ---- all of them

    one_of : (x : IssuedDigest) (i : IsIssued v.hash made l x after) → IsOfCell v l i.digest
    one_of x i = record {
      closed = let e = newest x i in omega (arith, e);
      is = subst (λ (c : LedgerCell). IsDigest v.meaning l.database c.items i.digest) as_it_is (laws.meaning v made l after x legal i);
    }

    each_of : Each (IsOfCell v l) more
    each_of = ⊎_elim
        (λ n. subst (Each (IsOfCell v l)) (sym n.1) tt)
        (λ p. subst (Each (IsOfCell v l)) (sym p.2) (one_of p.0 p.1, tt))
        issued

    all_of : Each (IsOfCell v l) (l.issued ++ more)
    all_of = each_append (IsOfCell v l) l.issued more legal.digests each_of

    one_held : (d : Digest) → IsOfCell v l d → IsHeld h statement_of l.database (cut l.items (length l.items)) (held d)
    one_held d o = laws.are_held h statement_of v.meaning l.database l.items (length l.items) d
        (λ K b. v.real.block_hash K b ∙ v.hashes K b ∙ ap₂ (λ (g : List ℕ → List ℕ) (reads : Reading). block_hash g reads K b) serves.hash serves.reading)
        o.is (subst (λ (K : List JournalItem). d.block < blocks K) (sym whole) o.closed)

    all_held : (ds : List Digest) → Each (IsOfCell v l) ds → AllHeld h statement_of l.database (cut l.items (length l.items)) (map held ds)
    all_held [] e = tt
    all_held (d ∷ ds) e = (one_held d e.0, all_held ds e.1)

    pub accepted_with : IsLegalJournal statement_of (journal_in l) → FitsImageFormat h statement_of l.database l.items
        → verdict_of h (map held (l.issued ++ more)) (last_image_bytes h (journal_in l)) ≡ Yes
    accepted_with is_legal room =
        subst (λ (K : List JournalItem). verdict_of h (map held (l.issued ++ more)) (image_bytes (image_of h statement_of l.database K)) ≡ Yes) whole
        (laws.verify h (journal_in l) (length l.items) (map held (l.issued ++ more)) is_legal room (all_held (l.issued ++ more) all_of))

    pub all_have_moments : (says : ℕ → Type 0) → IsMoment says made → Each (IsMoment says) (times l.items) → Each (λ d. IsMoment says d.made) l.issued
        → AllByRecursion HasMoments (l.issued ++ more)
    all_have_moments says m in_time made_before = have_moments v.meaning l.database l.items says (l.issued ++ more) in_time
        (each_append (λ (d : Digest). IsMoment says d.made) l.issued more made_before (each_made says m))
        (each_weaker (IsOfCell v l) (IsDigest v.meaning l.database l.items) (λ d o. o.is) (l.issued ++ more) all_of)
