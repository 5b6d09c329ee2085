-- The visit in which an image is kept: all cells stay.
use Rattle.std.proofs.Common.{◌≡◌, ℕ, ◌+◌, ◌≤◌, Bool, List, [], ◌∷◌, ◌++◌, flat_map, Some, None, slice_set, refl, sym, ap, ◌∙◌, subst, subst₂, append-nil, arith, length, map, take, ◌<◌}
use mathlib.Core.Option.{some}
use lib.ListN.{get_elem?}
use Rattle.sql_value.specs.declared.refusal.Refusal.TheVariants.{SyntaxError, NoTransaction, AlreadyInTransaction, LimitExceeded, ForbiddenInTransaction}
use Rattle.sql_types.specs.declared.journal.JournalItem.{JournalItem}
use Rattle.sql_types.specs.declared.reply.Reply.TheVariants as reply
use Rattle.spec_model.specs.Journals.{tx_count}
use Rattle.spec_history.specs.Facts.{facts_outside, image}
use Rattle.spec_history.specs.Transcripts.{kind_of, Kind, keep}
use Rattle.sql_types.specs.declared.statement.Stmt.TheVariants as stmt
use Rattle.spec_history.specs.Sessions.{acted}
use Rattle.spec_protocol.specs.Seats.{begun, KeptImage, SessionStatus}
use Rattle.law_protocol_steps.proofs.TranscriptActs.{goes_on, GoesFrom}
use Rattle.spec_history.specs.Lists.{In}
use Rattle.spec_history.specs.Acts.{keeps}
use Rattle.spec_history.specs.Sessions.{SessionState}
use Rattle.spec_history.specs.Worlds.{first, run}
use Rattle.spec_history.proofs.Trace.{each_append}
use Rattle.spec_protocol.specs.Server.{Server, journal_image}
use Rattle.spec_protocol.specs.Cells.{LedgerCell, Cell, Ledger, ledger_at}
use Rattle.spec_protocol.specs.Contents.{contents, known}
use Rattle.spec_protocol.specs.Seats.{answering, inside, Session, Written, Role, SeatState}
use Rattle.spec_protocol.specs.Moves.{at_place, sits, marking, InStatement, keeping}
use Rattle.spec_protocol.specs.OpenOnes.{text_at}
use Rattle.spec_protocol.specs.Parts.{AreTransactions}
use Rattle.spec_protocol.specs.TranscriptsAgree.{session_moments, moments_of, IsImage}
use Rattle.spec_protocol.specs.StandTogether.{History, Stands, StandsAfter}
use Rattle.law_protocol_steps.proofs.Ids.{Running, running}
use Rattle.law_protocol_steps.proofs.LedgerVisit.{the_ledger}
use Rattle.law_protocol_steps.proofs.OneMore.{Acts, agrees_then, agrees_owner}
use Rattle.law_protocol_steps.proofs.OpenSeats.{owns_none}
use Rattle.spec_history.specs.InPlace.{ComesAt}
use Rattle.spec_protocol.specs.TranscriptsSoFar.{FitsOutside, image_at, open_before, shown_at}
use Rattle.spec_protocol.specs.ImageVisits.{KeepsImage}
use Rattle.law_protocol_steps.proofs.AloneTurns.{alone_after}
use Rattle.std.proofs.lemmas.Bool.{ne_eqb}
use Rattle.law_protocol_steps.proofs.InPlaces.{never, outside}
use Rattle.law_protocol_changes.proofs.DigestsStand.{no_turn, same_none}

take_all : (xs : List JournalItem) → take (length xs) xs ≡ xs
take_all [] = refl
take_all (x ∷ xs) = ap (λ (l : List JournalItem). x ∷ l) (take_all xs)

map_end : (ks : List KeptImage) (k : KeptImage) → map (λ (i : KeptImage). i.0) (ks ++ k ∷ []) ≡ map (λ (i : KeptImage). i.0) ks ++ k.0 ∷ []
map_end [] k = refl
map_end (i ∷ is) k = ap (λ (l : List ℕ). i.0 ∷ l) (map_end is k)

length_end : (ks : List KeptImage) (k : KeptImage) → length (ks ++ k ∷ []) ≡ length ks + 1
length_end [] k = refl
length_end (i ∷ is) k = omega (arith, length_end is k)

module _ (v : Server) (cells : List Cell) (seats : List SeatState) {history : History} (st : Stands v history cells seats) (j : ℕ) (s : SeatState) (there : get_elem? seats j ≡ some s) (p : InStatement v s) (free : p.x.open_one ≡ None) (at_begun : p.stage ≡ begun) (asks : p.stmt ≡ stmt.Image) (fewer : length p.x.images < 2) where
  abbrev ledger : LedgerCell
  ledger = st.ledger

  r : Running v.meaning history (st.transcripts_agree.of_seat j) p.x
  r = running v history ledger seats st.transcripts_agree j s p.x there p.role

  abbrev sess : SessionState
  sess = (run first history).at r.number

  no_transaction : AreTransactions sess.transaction p.x None
  no_transaction = subst (AreTransactions sess.transaction p.x) free r.now.open_one

  was_greatest : (s.least ≤ s.greatest) × (s.greatest ≤ tx_count ledger.items)
  was_greatest = (st.transcripts_agree.agree j s there).greatest

  place : p.x.place ≡ inside p.text begun
  place = p.place ∙ ap (λ z. inside p.text z) at_begun

  kind : kind_of (v.meaning.reads p.text) ≡ keep
  kind = ap kind_of (v.real.reading p.text ∙ p.is) ∙ ap (λ z. kind_of (Some z)) asks

  abbrev items : ℕ
  items = length ledger.items

  abbrev mark : ℕ
  mark = tx_count ledger.items

  abbrev kept_image : KeptImage
  kept_image = (items, journal_image v ledger.database ledger.items)

  abbrev z : Session
  z = keeping kept_image (at_place None (inside p.text (answering (reply.Image items) None)) p.x)

  abbrev t : SeatState
  t = marking mark (sits s z)

  image_fits : (n : ℕ) → n < 2 → FitsOutside v.meaning n p.text (reply.Image items)
  image_fits n l = record {
    plain = refl;
    in_place = outside v.meaning n p.text (reply.Image items) keep None kind refl (record {
      none_open = never NoTransaction _ (λ f. cc);
      begun_twice = never AlreadyInTransaction _ (λ f. cc);
      not_inside = never ForbiddenInTransaction _ (λ f. cc);
      unread_outside = never SyntaxError _ (λ f. cc);
      third_image = subst (λ (b : Bool). ComesAt LimitExceeded b (reply.Image items)) (sym (ne_eqb n 2 (λ e. absurd (omega (arith, l, e))))) (never LimitExceeded (reply.Image items) (λ f. cc));
      begins = tt;
    }) tt;
  }

  goes : GoesFrom v.meaning p.x z (image items ∷ [])
  goes n images fits = let few : n + 0 ≡ length p.x.images = subst (λ (q : SessionStatus). n + image_at q ≡ length p.x.images) place images in record {
    shown = (λ i. shown_at v.meaning (place i) (free i) ++ image items ∷ []) ∙ sym (ap (λ (k : Kind). facts_outside v.meaning k p.text (reply.Image items) None) kind);
    before = λ i. open_before v.meaning (place i) (free i);
    images = let e = length_end p.x.images kept_image in omega (arith, few, e);
    fits = image_fits n (let l = fewer in omega (arith, few, l));
  }

  same_moments : (i : ℕ) → In i (moments_of s) → In i (moments_of t)
  same_moments i e = subst (λ (r : Role). In i (flat_map (λ (w : Written). w.moments) s.written ++ session_moments r)) p.role e

  acts : Acts v history r.number (keeps items mark) ledger ledger s t
  acts = record {
    ok = (r.now.running, ap length (sym st.transcripts_agree.items), ap tx_count (sym st.transcripts_agree.items));
    items = sym (append-nil ledger.items);
    next = omega arith;
    issued = sym (append-nil ledger.issued);
    same_database = refl;
    same_size = refl;
    x = p.x;
    y = z;
    was = p.role;
    role = refl;
    same_name = refl;
    now = record { running = r.now.running; transcript = r.now.transcript; under = r.now.under ∙ ap text_at p.place; open_one = same_none sess.transaction p.x z no_transaction; so_far = goes_on v.meaning sess.so_far (acted sess (keeps items mark)).so_far p.x z (image items ∷ []) refl refl r.now.so_far goes };
    same_present = refl;
    seat_database = refl;
    seat_size = refl;
    same_written = refl;
    same_earlier = refl;
    same_least = refl;
    more_marks = let l = was_greatest.1 in omega arith;
    greatest = let l = was_greatest.1 in omega arith;
    marks = ((let l = was_greatest.0 in let m = was_greatest.1 in omega arith, omega arith), tt);
    images = map_end p.x.images kept_image;
    each_image = λ e. each_append (IsImage v ledger) p.x.images (kept_image ∷ []) e (record { within = omega arith; bytes = ap (journal_image v ledger.database) (sym (take_all ledger.items)) }, tt);
    moments = same_moments;
    times = tt;
    made = tt;
  }

  pub image_stands : StandsAfter v j history (keeps items mark ∷ []) cells (slice_set seats j t)
  image_stands = alone_after v cells seats st j s there t r.number
      (no_turn v (contents cells) (known v.reads ledger.items) st.catalog.defs s t (owns_none s p.x p.role free) (owns_none t z refl refl))
      (agrees_then v history ledger ledger seats st.transcripts_agree j s t there r.number (keeps items mark) r.is acts) (agrees_owner _ _ _ _ _ _ _ _ _ _ _ _ _ _)

-- what is out is as it lies there
pub keeps_stand : (v : Server) (cells : List Cell) (seats : List SeatState) {history : History} → Stands v history cells seats → (j : ℕ) (s : SeatState) → get_elem? seats j ≡ some s
    → (out : List (ℕ × Cell)) → ((i : ℕ) (c : Cell) → In (i, c) out → get_elem? cells i ≡ some c) → (t : SeatState) → (w : KeepsImage v out s t) → StandsAfter v j history (keeps (length w.ledger.items) (tx_count w.ledger.items) ∷ []) cells (slice_set seats j t)
keeps_stand v cells seats {history} st j s there out lies t w = subst₂ (λ (l : LedgerCell) (u : SeatState). StandsAfter v j history (keeps (length l.items) (tx_count l.items) ∷ []) cells (slice_set seats j u)) (sym is) (sym (w.seat ∙ ap (λ (l : LedgerCell). marking (tx_count l.items) (sits s (keeping (length l.items, journal_image v l.database l.items) (at_place None (inside w.stands.text (answering (reply.Image (length l.items)) None)) w.stands.x)))) is))
    (image_stands v cells seats st j s there w.stands w.none_open w.at_begin w.asks w.fewer)
  where
    is : w.ledger ≡ st.ledger
    is = the_ledger cells st.catalog st.ledger w.ledger st.are_cells (lies ledger_at (Ledger w.ledger) w.there)
