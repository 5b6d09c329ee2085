-- The transaction of a session that is in no statement, and has nothing to show, was opened by BEGIN, and its end isn't fixed.
use Rattle.std.proofs.Common.{◌≡◌, ℕ, Bool, true, false, List, [], ◌∷◌, ◌++◌, Option, Some, None, refl, sym, ap, ◌∙◌, subst, append-nil}
use Rattle.sql_value.specs.declared.refusal.Refusal.TheVariants.{Locked, NothingCommitted, NoMemory}
use Rattle.sql_types.specs.declared.reply.Reply.{Reply}
use Rattle.sql_types.specs.declared.reply.Reply.TheVariants as reply
use Rattle.spec_history.specs.Lists.{Text}
use Rattle.spec_history.specs.Meaning.{Meaning}
use Rattle.spec_history.specs.Transcripts.{EndLine, committed_at, ended_after, Entry, statement, end_of_session, ended_id, Kind, commit, roll_back, create, rows, kind_of}
use Rattle.spec_history.specs.Facts.{Fact, end_facts, maybe_end, other_facts, answer_facts, own_facts, facts_inside, facts_outside, entry_facts, open_after, facts}
use Rattle.spec_history.specs.Transactions.{unfixed, Transaction, TransactionLog, new, open_by, noted, read_facts, blank}
use Rattle.spec_history.specs.Acts.{Act, all_shown, of}
use Rattle.spec_history.specs.Sessions.{SessionTransaction, viewed}
use Rattle.spec_history.specs.Worlds.{first, run}
use Rattle.spec_history.specs.Guards.{Good}
use Rattle.spec_history.specs.Histories.{IsIdle}
use Rattle.spec_history.proofs.TransactionLogs.{has_book}
use Rattle.law_history.proofs.TranscriptsSoFar.{told}

abbrev open_all : Option Transaction → List Fact → Option Transaction
open_all o [] = o
open_all o (g ∷ gs) = open_all (open_by o g) gs

open_more : (o : Option Transaction) (gs fs : List Fact) → open_all o (gs ++ fs) ≡ open_all (open_all o gs) fs
open_more o [] fs = refl
open_more o (g ∷ gs) fs = open_more (open_by o g) gs fs

open_read : (b : TransactionLog) (gs : List Fact) → (read_facts b gs).open_one ≡ open_all b.open_one gs
open_read b [] = refl
open_read b (g ∷ gs) = open_read (noted b g) gs

-- none is open, or one that BEGIN opened and that goes on
abbrev GoesOn : Option Transaction → Type 0
GoesOn None = Unit {0}
GoesOn (Some u) = (u.explicit ≡ true) × (u.end ≡ unfixed)

over_then : (u : Option Transaction) (back : Bool) (end : EndLine) → GoesOn (open_all u (end_facts back end))
over_then u back (committed_at id place) = tt
over_then u back (ended_after id n) = tt

module _ (q : Meaning) where
  after_answer : (u : Option Transaction) (text : Text) (r : Reply) → GoesOn u → GoesOn (open_all u (answer_facts q text r))
  after_answer None text (reply.Refused (Locked holder)) g = tt
  after_answer None text (reply.Refused NoMemory) g = tt
  after_answer None text r g = tt
  after_answer (Some u) text (reply.Refused (Locked holder)) g = g
  after_answer (Some u) text (reply.Refused NoMemory) g = g
  after_answer (Some u) text r g = g

  after_end : (u : Option Transaction) (back : Bool) (end : Option EndLine) → GoesOn u → GoesOn (open_all u (maybe_end back end))
  after_end u back None g = g
  after_end u back (Some end) g = over_then u back end

  after_inside : (kind : Kind) (u : Option Transaction) (text : Text) (r : Reply) (end : Option EndLine) → GoesOn u → GoesOn (open_all u (facts_inside q kind text r end))
  after_inside commit u text r end g = after_end u false end g
  after_inside roll_back u text r end g = after_end u true end g
  after_inside kind u text r end g = after_answer u text r g

  after_own : (u : Option Transaction) (text : Text) (r : Reply) (end : Option EndLine) → GoesOn u → GoesOn (open_all u (own_facts q text r end))
  after_own u text r None g = g
  after_own u text r (Some end) g = subst GoesOn (sym (open_more (Some (new (ended_id end) false)) (answer_facts q text r) (end_facts false end))) (over_then (open_all (Some (new (ended_id end) false)) (answer_facts q text r)) false end)

  after_other : (u : Option Transaction) (r : Reply) → GoesOn u → GoesOn (open_all u (other_facts r))
  after_other u (reply.Begun id) g = (refl, refl)
  after_other u (reply.Digest block hash) g = g
  after_other u (reply.Image items) g = g
  after_other u (reply.Refused NothingCommitted) g = g
  after_other u r g = g

  after_outside : (kind : Kind) (u : Option Transaction) (text : Text) (r : Reply) (end : Option EndLine) → GoesOn u → GoesOn (open_all u (facts_outside q kind text r end))
  after_outside create u text r end g = after_own u text r end g
  after_outside rows u text r end g = after_own u text r end g
  after_outside kind u text r end g = after_other u r g

  after_entry : (o : Option ℕ) (u : Option Transaction) (e : Entry) → GoesOn u → GoesOn (open_all u (entry_facts q o e))
  after_entry (Some id) u (statement text r end) g = after_inside (kind_of (q.reads text)) u text r end g
  after_entry None u (statement text r end) g = after_outside (kind_of (q.reads text)) u text r end g
  after_entry (Some id) u (end_of_session end) g = over_then u true end
  after_entry None u (end_of_session end) g = over_then u true end

  after_entries : (o : Option ℕ) (u : Option Transaction) (es : List Entry) → GoesOn u → GoesOn (open_all u (facts q o es))
  after_entries o u [] g = g
  after_entries o u (e ∷ es) g = subst GoesOn (sym (open_more u (entry_facts q o e) (facts q (open_after o e) es))) (after_entries (open_after o e) (open_all u (entry_facts q o e)) es (after_entry o u e g))

module _ (q : Meaning) (db : Text) (h : List Act) (good : Good q db first h) (t : ℕ) (idle : IsIdle ((run first h).at t)) where
  shown_all : facts q None ((run first h).at t).so_far.entries ≡ all_shown (of t h)
  shown_all = sym (append-nil (facts q None ((run first h).at t).so_far.entries)) ∙ ap (λ (l : List Fact). facts q None ((run first h).at t).so_far.entries ++ l) (sym idle.shown)
      ∙ (told q db t first h [] good (record { shows = refl; in_order = refl; end_is_last = tt; in_place = tt })).shows

  goes_on : GoesOn (viewed ((run first h).at t).transaction)
  goes_on = subst GoesOn
      (sym (open_read blank (facts q None ((run first h).at t).so_far.entries)) ∙ ap (λ (gs : List Fact). (read_facts blank gs).open_one) shown_all ∙ ap (λ (b : TransactionLog). b.open_one) (has_book q db t first h [] good refl))
      (after_entries q None None ((run first h).at t).so_far.entries tt)

  pub idle_goes_on : (d : SessionTransaction) → ((run first h).at t).transaction ≡ Some d → (d.explicit ≡ true) × (d.fixed ≡ unfixed)
  idle_goes_on d e = subst GoesOn (ap viewed e) goes_on
