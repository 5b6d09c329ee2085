-- An act that adds nothing to the journal, the ids or the digests: its guard and what is known of the session then are all that it owes.
use Rattle.std.proofs.Common.{◌≡◌, ℕ, ◌≤◌, List, [], ◌∷◌, ◌++◌, map, flat_map, refl, sym, ap, ◌∙◌, subst, append-nil, arith}
use Rattle.std.specs.Prelude.{slice_set, Some}
use mathlib.Core.Option.{some}
use lib.ListN.{get_elem?}
use Rattle.sql_types.specs.declared.journal.JournalItem.{JournalItem}
use Rattle.spec_model.specs.Journals.{tx_count}
use Rattle.spec_history.specs.Lists.{Each, In}
use Rattle.spec_history.specs.Digests.{Digest}
use Rattle.spec_history.specs.Acts.{SessionAct, Act, by, marked}
use Rattle.spec_history.specs.Journals.{times}
use Rattle.spec_history.specs.Sessions.{SessionState, acted}
use Rattle.spec_history.specs.Worlds.{first, run, items_by, ids_by, issued_by}
use Rattle.spec_history.specs.Guards.{IsEnabled}
use Rattle.spec_protocol.specs.Server.{Server}
use Rattle.spec_protocol.specs.Cells.{LedgerCell}
use Rattle.spec_protocol.specs.Seats.{KeptImage, Session, Written, Role, session, SeatState}
use Rattle.spec_protocol.specs.Parts.{IsNow}
use Rattle.spec_protocol.specs.TranscriptsAgree.{session_moments, moments_of, image_of, IsImage, TranscriptsAgree}
use Rattle.law_protocol_steps.proofs.OneMore.{Acts, agrees_then, agrees_owner}

-- the seat with this session, and this greatest mark
abbrev pub seat_as : SeatState → Session → ℕ → SeatState
seat_as s y greatest = record { present = s.present; role = session y; database = s.database; block_size = s.block_size; written = s.written; least = s.least; greatest = greatest; earlier = s.earlier }

-- it adds nothing
pub record AddsNothing (w : SessionState) (a : SessionAct) : Type 0 where
  pub items : items_by w a ≡ []
  pub ids : ids_by a ≡ 0
  pub issued : issued_by a ≡ []
  pub images : image_of a ≡ []

-- what the session keeps is as it was
pub record KeepsAll (x y : Session) : Type 0 where
  pub images : y.images ≡ x.images
  pub moments : y.moments ≡ x.moments
  pub earlier : y.earlier ≡ x.earlier

module _ (v : Server) (c : LedgerCell) (seats : List SeatState) (h : List Act) (agree : TranscriptsAgree v h c seats) (j : ℕ) (s : SeatState) (there : get_elem? seats j ≡ some s) (x y : Session) (role : s.role ≡ session x)
    (n : ℕ) (number : (agree.of_seat j).now ≡ Some n) (a : SessionAct) (greatest : ℕ) (more : s.greatest ≤ greatest) (most : greatest ≤ tx_count c.items) (marks : Each (λ m. (s.least ≤ m) × (m ≤ greatest)) (marked a))
    (ok : IsEnabled v.meaning c.database (run first h) (by n a)) (now : IsNow v.meaning (acted ((run first h).at n) a) y) (nothing : AddsNothing ((run first h).at n) a) (keeps : KeepsAll x y) where
  abbrev t : SeatState
  t = seat_as s y greatest

  kept_moments : (i : ℕ) → In i (moments_of s) → In i (moments_of t)
  kept_moments i e = subst (λ (ms : List ℕ). In i (flat_map (λ (w : Written). w.moments) s.written ++ ms)) (sym keeps.moments) (subst (λ (r : Role). In i (flat_map (λ (w : Written). w.moments) s.written ++ session_moments r)) role e)

  acts : Acts v h n a c c s t
  acts = record {
    ok = ok;
    items = sym (append-nil c.items) ∙ ap (λ (J : List JournalItem). c.items ++ J) (sym nothing.items);
    next = (let e = nothing.ids in omega arith);
    issued = sym (append-nil c.issued) ∙ ap (λ (G : List Digest). c.issued ++ G) (sym nothing.issued);
    same_database = refl;
    same_size = refl;
    x = x;
    y = y;
    was = role;
    role = refl;
    same_name = keeps.earlier;
    now = now;
    same_present = refl;
    seat_database = refl;
    seat_size = refl;
    same_written = refl;
    same_earlier = refl;
    same_least = refl;
    more_marks = more;
    greatest = most;
    marks = marks;
    images = ap (map (λ (k : KeptImage). k.0)) keeps.images ∙ sym (append-nil (map (λ (k : KeptImage). k.0) x.images)) ∙ ap (λ (l : List ℕ). map (λ (k : KeptImage). k.0) x.images ++ l) (sym nothing.images);
    each_image = λ e. subst (Each (IsImage v c)) (sym keeps.images) e;
    moments = kept_moments;
    times = subst (λ (J : List JournalItem). Each (λ i. In i (moments_of t)) (times J)) (sym nothing.items) tt;
    made = subst (Each (λ g. In g.made (moments_of t))) (sym nothing.issued) tt;
  }

  pub plain_act : TranscriptsAgree v (h ++ by n a ∷ []) c (slice_set seats j t)
  plain_act = agrees_then v h c c seats agree j s t there n a number acts

  pub plain_act_owner : plain_act.owner n ≡ j
  unfolding plain_act
  plain_act_owner = (agrees_owner _ _ _ _ _ _ _ _ _ _ _ _ _ _)
