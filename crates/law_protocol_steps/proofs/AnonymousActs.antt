-- Acts that add nothing to the journal, the ids or the digests, one after another.
use Rattle.std.proofs.Common.{◌≡◌, ℕ, ◌≤◌, List, [], ◌∷◌, ◌++◌, map, flat_map, slice_set, refl, sym, ap, ◌∙◌, subst, append-nil, arith}
use Rattle.std.proofs.lemmas.Bool.{eq-eqb}
use Rattle.std.specs.Prelude.{Some}
use mathlib.Core.Option.{some}
use lib.ListN.{get_elem?}
use Rattle.sql_types.specs.declared.journal.JournalItem.{JournalItem}
use Rattle.spec_model.specs.Journals.{tx_count}
use Rattle.spec_history.specs.Lists.{Each, In}
use Rattle.spec_history.specs.Digests.{Digest}
use Rattle.spec_history.specs.Facts.{Shows}
use Rattle.spec_history.specs.Acts.{SessionAct, Act, by, marked}
use Rattle.spec_history.specs.Sessions.{SessionState, acted}
use Rattle.spec_history.specs.Worlds.{World, first, step, run, items_by, ids_by, issued_by}
use Rattle.spec_history.specs.Guards.{Good}
use Rattle.spec_protocol.specs.Server.{Server}
use Rattle.spec_protocol.specs.Cells.{LedgerCell}
use Rattle.spec_protocol.specs.Seats.{KeptImage, Session, Written, Role, session, SeatState}
use Rattle.spec_protocol.specs.Moves.{sits}
use Rattle.spec_protocol.specs.Parts.{IsNow}
use Rattle.spec_protocol.specs.TranscriptsAgree.{session_moments, moments_of, image_of, IsImage, TranscriptsAgree}
use Rattle.law_protocol_steps.proofs.OneMore.{acted_all, by_each, all_agree_then, owner_is, same_parts}
use Rattle.law_protocol_steps.proofs.PlainAct.{KeepsAll}

pub record IsPlain (a : SessionAct) : Type 0 where
  pub items : (x : SessionState) → items_by x a ≡ []
  pub ids : ids_by a ≡ 0
  pub issued : issued_by a ≡ []
  pub marks : marked a ≡ []
  pub images : image_of a ≡ []

-- after an act its session is what the act makes of it
pub at_after : (w : World) (n : ℕ) (a : SessionAct) → (step w (by n a)).at n ≡ acted (w.at n) a
at_after w n a = rw (eq-eqb n n refl) refl

pub same_items : (n : ℕ) (w : World) (anonymous_acts : List SessionAct) → Each IsPlain anonymous_acts → (run w (by_each n anonymous_acts)).items ≡ w.items
same_items n w [] p = refl
same_items n w (a ∷ anonymous_acts) p = same_items n (step w (by n a)) anonymous_acts p.1 ∙ ap (λ (l : List JournalItem). w.items ++ l) (p.0.items (w.at n)) ∙ append-nil w.items

pub same_next : (n : ℕ) (w : World) (anonymous_acts : List SessionAct) → Each IsPlain anonymous_acts → (run w (by_each n anonymous_acts)).next ≡ w.next
same_next n w [] p = refl
same_next n w (a ∷ anonymous_acts) p = same_next n (step w (by n a)) anonymous_acts p.1 ∙ (let e = p.0.ids in omega arith)

pub same_issued : (n : ℕ) (w : World) (anonymous_acts : List SessionAct) → Each IsPlain anonymous_acts → (run w (by_each n anonymous_acts)).issued ≡ w.issued
same_issued n w [] p = refl
same_issued n w (a ∷ anonymous_acts) p = same_issued n (step w (by n a)) anonymous_acts p.1 ∙ ap (λ (l : List Digest). w.issued ++ l) p.0.issued ∙ append-nil w.issued

pub no_images : (anonymous_acts : List SessionAct) → Each IsPlain anonymous_acts → flat_map image_of anonymous_acts ≡ []
no_images [] p = refl
no_images (a ∷ anonymous_acts) p = ap (λ (l : List ℕ). l ++ flat_map image_of anonymous_acts) p.0.images ∙ no_images anonymous_acts p.1

pub no_marks : (P : ℕ → Type 0) (anonymous_acts : List SessionAct) → Each IsPlain anonymous_acts → Shows marked P anonymous_acts
no_marks P [] p = tt
no_marks P (a ∷ anonymous_acts) p = (subst (Each P) (sym p.0.marks) tt, no_marks P anonymous_acts p.1)

module _ (v : Server) (c : LedgerCell) (seats : List SeatState) (h : List Act) (agree : TranscriptsAgree v h c seats) (j : ℕ) (s : SeatState) (there : get_elem? seats j ≡ some s) (x y : Session) (role : s.role ≡ session x)
    (n : ℕ) (number : (agree.of_seat j).now ≡ Some n) (anonymous_acts : List SessionAct) (plain : Each IsPlain anonymous_acts) (ok : Good v.meaning c.database (run first h) (by_each n anonymous_acts)) (now : IsNow v.meaning (acted_all ((run first h).at n) anonymous_acts) y) (keeps : KeepsAll x y) where
  abbrev t : SeatState
  t = sits s y

  was_greatest : (s.least ≤ s.greatest) × (s.greatest ≤ tx_count c.items)
  was_greatest = (agree.agree j s there).greatest

  kept_moments : (i : ℕ) → In i (moments_of s) → In i (moments_of t)
  kept_moments i e = subst (λ (ms : List ℕ). In i (flat_map (λ (w : Written). w.moments) s.written ++ ms)) (sym keeps.moments) (subst (λ (r : Role). In i (flat_map (λ (w : Written). w.moments) s.written ++ session_moments r)) role e)

  pub plain_acts : TranscriptsAgree v (h ++ by_each n anonymous_acts) c (slice_set seats j t)
  plain_acts = all_agree_then v h c c seats agree j s t there n anonymous_acts number (record {
    ok = ok;
    K = [];
    ids = 0;
    G = [];
    adds_items = same_items n (run first h) anonymous_acts plain ∙ sym (append-nil _);
    adds_ids = same_next n (run first h) anonymous_acts plain ∙ omega arith;
    adds_digests = same_issued n (run first h) anonymous_acts plain ∙ sym (append-nil _);
    items = sym (append-nil c.items);
    next = omega arith;
    issued = sym (append-nil c.issued);
    same_database = refl;
    same_size = refl;
    x = x;
    y = y;
    was = role;
    role = refl;
    same_name = keeps.earlier;
    now = now;
    same_present = refl;
    seat_database = refl;
    seat_size = refl;
    same_written = refl;
    same_earlier = refl;
    same_least = refl;
    more_marks = omega arith;
    greatest = was_greatest.1;
    marks = no_marks _ anonymous_acts plain;
    images = ap (map (λ (k : KeptImage). k.0)) keeps.images ∙ sym (append-nil _) ∙ ap (λ (l : List ℕ). map (λ (k : KeptImage). k.0) x.images ++ l) (sym (no_images anonymous_acts plain));
    each_image = λ e. subst (Each (IsImage v c)) (sym keeps.images) e;
    moments = kept_moments;
    times = tt;
    made = tt;
  })

  -- whose part is whose stays
  pub plain_parts : plain_acts.of_seat ≡ agree.of_seat
  unfolding plain_acts
  plain_parts = same_parts v h c c seats agree j s t there n anonymous_acts number _

pub plain_owner : (v : Server) (c : LedgerCell) (seats : List SeatState) (h : List Act) (agree : TranscriptsAgree v h c seats) (j : ℕ) (s : SeatState) (there : get_elem? seats j ≡ some s) (x y : Session) (role : s.role ≡ session x)
    (n : ℕ) (number : (agree.of_seat j).now ≡ Some n) (anonymous_acts : List SessionAct) (plain : Each IsPlain anonymous_acts) (ok : Good v.meaning c.database (run first h) (by_each n anonymous_acts)) (now : IsNow v.meaning (acted_all ((run first h).at n) anonymous_acts) y) (keeps : KeepsAll x y)
    → (plain_acts v c seats h agree j s there x y role n number anonymous_acts plain ok now keeps).owner n ≡ j
unfolding plain_acts
plain_owner v c seats h agree j s there x y role n number anonymous_acts _ _ _ _ = owner_is v h c c seats agree j s _ there n anonymous_acts number _
