-- What was written at the seat that is left agrees, behind a past.
use Rattle.std.proofs.Common.{◌≡◌, ◌⊎◌, ℕ, zero, suc, true, List, ◌∷◌, ◌++◌, drop, length, map, flat_map, Option, Some, refl, sym, ap, subst, ◌∙◌, inl, inr, ⊎_elim, arith}
use mathlib.Core.Logic.{dite}
use mathlib.Core.Option.{some, some-injective}
use native.Mathlib.Decide.{ℕ_discrete}
use lib.ListN.{get_elem?, length-map}
use Rattle.base_types.specs.Moment.{is_moment}
use Rattle.base_types.specs.SessionName.{is_session_name}
use Rattle.sql_types.specs.declared.digest.Digest.{Digest}
use Rattle.sql_types.specs.declared.journal.JournalItem.{JournalItem}
use Rattle.spec_history.specs.Histories.{SetupRan}
use Rattle.spec_history.specs.Inputs.{InputSession}
use Rattle.spec_history.specs.Journals.{times}
use Rattle.spec_history.specs.Lists.{Text, Each, Some_of, At, In}
use Rattle.spec_history.specs.Meaning.{Meaning}
use Rattle.spec_history.specs.Transcripts.{Transcript}
use Rattle.spec_protocol.specs.AtTheEnd.{AllRest, HasItsImages, NamesDiffer, SessionsDiffer, WasKnown, WroteAt}
use Rattle.spec_protocol.specs.Cells.{Cell, Ledger, LedgerCell, ledger_at}
use Rattle.spec_protocol.specs.JournalForms.{HaveForms}
use Rattle.spec_protocol.specs.Reordered.{InOrderOf, IsSessionOrder, NamesApart, Reordered, moved}
use Rattle.spec_protocol.specs.SeatNames.{names_of, session_names}
use Rattle.spec_protocol.specs.Seats.{IsAtRest, SeatState, Written, nobody}
use Rattle.spec_protocol.specs.Server.{Server}
use Rattle.spec_protocol.specs.StandTogether.{History, Stands}
use Rattle.spec_protocol.specs.TranscriptsAgree.{IsMoment, moments_of, session_moments}
use Rattle.law_kept_images.proofs.JournalKept.{legal_journal}
use Rattle.law_kept_images.proofs.KeptImages.{have_images}
use Rattle.law_kept_images.proofs.InSessionOrder.{in_order_of}
use Rattle.law_kept_images.proofs.Reorders.{sessions_long}
use Rattle.law_kept_images.specs.Wrote.{transcripts_in}
use Rattle.law_kept_images.proofs.SameNames.{differ, same_list}
use Rattle.law_behind.specs.AgreeBehind.{AgreeBehind}
use Rattle.law_behind.specs.Forgotten.{without}
use Rattle.law_behind.specs.OrderBehind.{HaveOneOrderBehind}
use Rattle.law_behind.specs.Past.{Past, since}
use Rattle.law_kept_images.specs.Start.{Start}
use Rattle.law_kept_images.specs.EndBehind.{AreWrittenBehind}
use Rattle.law_moments.specs.AddedInTime.{AddedInTime, FitsBlock}
use Rattle.law_kept_images.specs.RunStart.{RunStart}
use Rattle.law_kept_images.proofs.AtStart.{since_front}
use Rattle.law_kept_images.proofs.Over.{AgreesBehind}
use Rattle.law_concurrent.specs.Joined.{KnewThatOver}
use Rattle.law_concurrent.specs.JoinedBehind.{IsJoinedBehind}
use Rattle.law_concurrent.specs.Together.{AreFormed, IsMomentOf, names_in, session_in}
use Rattle.law_concurrent.specs.TogetherBehind.{RanTogetherBehind}
use Rattle.law_concurrent.proofs.Meets.{nameless, same_ledger, timeless}
use Rattle.law_concurrent.proofs.Orders.{of_same}
use Rattle.law_concurrent.proofs.SameTranscripts.{all_in, apart_by_place, at_of, each_both, each_flat, each_map, each_named, each_of, each_within, in_at, in_either, in_some, in_transcripts, inputs_are, named_in, no_longer, transcript_at}

-- the law that is used beside the one on the end
abbrev pub AgreeInAnyOrder : Type 0
AgreeInAnyOrder = (q : Meaning) (database : Text) (past : Past) (input : List InputSession) (setup : Option ℕ) (X : List Transcript) (J : List JournalItem) (G : List Digest)
    → AgreeBehind q database past input setup X J G → (then_input : List InputSession) (then_X : List Transcript) (to : ℕ → ℕ) → Reordered input X then_input then_X to
    → AgreeBehind q database past then_input (moved to setup) then_X J G

module _ (agrees_behind : AgreesBehind) (in_any_order : AgreeInAnyOrder) {v : Server} {database : Text} {size : ℕ} {past : Past} (start : RunStart v database size past)
    (cells : List Cell) (w : Written) (ws : List Written) (joined : IsJoinedBehind start cells (w ∷ ws)) (knew : KnewThatOver w ws) (apart : NamesApart (names_in (transcripts_in (w ∷ ws)))) where
  abbrev written : List Written
  written = w ∷ ws

  abbrev begins : Start v database size
  begins = start.begins

  abbrev seats : List SeatState
  seats = joined.seats

  -- with that of the past
  abbrev all_seats : List SeatState
  all_seats = begins.seat ∷ seats

  abbrev events : History
  events = joined.events

  abbrev st : Stands v (begins.history ++ events) cells all_seats
  st = joined.stands

  abbrev T : List Transcript
  T = transcripts_in written

  -- what holds of the seat that is left, and of nobody, holds of each
  of_each : (P : SeatState → Type 0) → P joined.s → P nobody → (k : ℕ) (t : SeatState) → get_elem? seats k ≡ some t → P t
  of_each P mine none k t e = dite (ℕ_discrete k joined.j)
      (λ same. subst P (some-injective joined.s t (sym joined.there ∙ subst (λ (n : ℕ). get_elem? seats n ≡ some t) same e)) mine)
      (λ ne. subst P (sym (joined.others k t ne e)) none)

  rests : AllRest seats
  rests k t e = of_each (λ (u : SeatState). IsAtRest u.role) joined.rests tt k t e

  found : (k m : ℕ) (x : Transcript) → WroteAt seats k m x → (k ≡ joined.j) × At T m x
  found k m x a = dite (ℕ_discrete k joined.j)
      (λ same. (
        same,
        subst (λ (y : Transcript). At T m y) a.is (transcript_at written m a.written (subst (λ (us : List Written). At us m a.written)
            (ap (λ (t : SeatState). t.written) (sym (some-injective joined.s a.state (sym joined.there ∙ subst (λ (n : ℕ). get_elem? seats n ≡ some a.state) same a.there))) ∙ joined.wrote) a.has)),
      ))
      (λ ne. absurd (subst (λ (us : List Written). At us m a.written) (ap (λ (t : SeatState). t.written) (joined.others k a.state ne a.there)) a.has))

  names_differ : NamesDiffer seats
  names_differ j k m n x y a b ne = let p = found j m x a in let q = found k n y b in differ T (names_in T) refl apart m n x y p.1 q.1 (ne (p.0 ∙ sym q.0))

  abbrev input : List InputSession
  input = (agrees_behind v database size begins events cells seats st rests).0

  abbrev X : List Transcript
  X = (agrees_behind v database size begins events cells seats st rests).1

  are_written : AreWrittenBehind begins.count events seats input X
  are_written = (agrees_behind v database size begins events cells seats st rests).2

  differs : SessionsDiffer X
  differs = (agrees_behind v database size begins events cells seats st rests).3 names_differ

  -- ---- the same transcripts

  is_ours : (x : Transcript) → In x X → In x T
  is_ours x i = let p = at_of X x i in let r = are_written.written p.0 x p.1 in
      of_each (λ (t : SeatState). Some_of (λ u. u.transcript ≡ x) t.written → In x T)
      (λ h. in_transcripts written x (subst (λ (us : List Written). Some_of (λ u. u.transcript ≡ x) us) joined.wrote h))
      (λ h. absurd h) r.j r.seat r.there r.has

  is_theirs : (x : Transcript) → In x T → In x X
  is_theirs x i = all_in X written (subst (λ (us : List Written). Each (λ u. In u.transcript X) us) joined.wrote (are_written.all joined.j joined.s joined.there)) x i

  as_many : length (names_in T) ≡ length X
  as_many = let a = no_longer (names_in T) (names_in X) apart (named_in T X is_theirs) in
      let b = no_longer (names_in X) (names_in T) (apart_by_place X differs) (named_in X T is_ours) in
      let c : length (names_in X) ≡ length X = length-map X (λ x. x.session) in omega (arith, a, b, c)

  session_order : IsSessionOrder (names_in T) X
  session_order = record { apart = apart; as_many = as_many; each = each_named T X is_theirs }

  o : InOrderOf (names_in T) input X
  o = in_order_of input X (names_in T) (sessions_long _ 0 input X are_written.sessions) session_order

  same : o.then_X ≡ T
  same = sym (same_list T o.then_X (names_in T) refl o.named apart (each_within T o.then_X (λ x i. let p = at_of X x (is_theirs x i) in in_at o.then_X (o.to p.0) x (o.places p.0 x p.1))))

  -- ---- the first of them ran before all others

  abbrev first_at : (u : ℕ) × At X u w.transcript
  first_at = at_of X w.transcript (is_theirs w.transcript (inl refl))

  abbrev IsKnown : Written → Type 0
  IsKnown u = (u.transcript ≡ w.transcript) ⊎ In w.transcript u.earlier

  known : WasKnown seats w.transcript
  known k t e = of_each (λ (s : SeatState). Each IsKnown s.written)
      (subst (λ (us : List Written). Each IsKnown us) (sym joined.wrote) (inl refl, each_of (λ u. In w.transcript u.earlier) IsKnown (λ u i. inr i) ws knew)) tt k t e

  ran : SetupRan (Some first_at.0) (without begins.count events)
  ran = (agrees_behind v database size begins events cells seats st rests).7 differs first_at.0 w.transcript first_at.1 known

  comes_first : o.to first_at.0 ≡ 0
  comes_first = dite (ℕ_discrete (o.to first_at.0) 0) (λ e. e) (λ ne. absurd (differ T (names_in T) refl apart (o.to first_at.0) 0 w.transcript w.transcript
      (subst (λ (Y : List Transcript). At Y (o.to first_at.0) w.transcript) same (o.places first_at.0 w.transcript first_at.1)) refl ne refl))

  -- ---- agreement

  then_agrees : AgreeBehind v.meaning st.ledger.database past input (Some first_at.0) X st.ledger.items st.ledger.issued × HaveOneOrderBehind v.meaning past (Some first_at.0) X st.ledger.items
  then_agrees = subst (λ (p : Past). AgreeBehind v.meaning st.ledger.database p input (Some first_at.0) X st.ledger.items st.ledger.issued × HaveOneOrderBehind v.meaning p (Some first_at.0) X st.ledger.items)
      start.of_past ((agrees_behind v database size begins events cells seats st rests).5 differs (Some first_at.0) ran)

  reordered : AgreeBehind v.meaning st.ledger.database past o.then_input (Some (o.to first_at.0)) o.then_X st.ledger.items st.ledger.issued
  reordered = in_any_order v.meaning st.ledger.database past input (Some first_at.0) X st.ledger.items st.ledger.issued then_agrees.0 o.then_input o.then_X o.to o.reordered

  agree : AgreeBehind v.meaning st.ledger.database past (map session_in T) (Some 0) T st.ledger.items st.ledger.issued
  agree = subst (λ (n : ℕ). AgreeBehind v.meaning st.ledger.database past (map session_in T) (Some n) T st.ledger.items st.ledger.issued) comes_first
      (subst (λ (Y : List Transcript). AgreeBehind v.meaning st.ledger.database past (map session_in Y) (Some (o.to first_at.0)) Y st.ledger.items st.ledger.issued) same
      (subst (λ (i : List InputSession). AgreeBehind v.meaning st.ledger.database past i (Some (o.to first_at.0)) o.then_X st.ledger.items st.ledger.issued)
      (inputs_are o.then_input o.then_X reordered.statements_are_answered) reordered))

  -- ---- one order

  in_order : HaveOneOrderBehind v.meaning past (Some 0) T st.ledger.items
  in_order = let found_order = then_agrees.1 in record {
    order = found_order.order;
    is = of_same v.meaning past X st.ledger.items found_order.order first_at.0 w.transcript (transcripts_in ws) first_at.1 is_ours is_theirs found_order.is;
  }

  -- ---- images, moments, forms

  images : Each (HasItsImages v st.ledger) written
  images = subst (λ (us : List Written). Each (HasItsImages v st.ledger) us) joined.wrote (have_images v (begins.history ++ events) cells all_seats st (suc joined.j) joined.s joined.there)

  moment_is : (time : ℕ) → IsMoment seats time → IsMomentOf written time
  moment_is time m = of_each (λ (t : SeatState). In time (moments_of t) → IsMomentOf written time)
      (λ i. ⊎_elim (λ (l : In time (flat_map (λ u. u.moments) joined.s.written)). subst (λ (us : List Written). IsMomentOf us time) joined.wrote (in_some time joined.s.written l))
      (λ (r : In time (session_moments joined.s.role)). absurd (subst (λ (ts : List ℕ). In time ts) (timeless joined.s.role joined.rests) r))
      (in_either time (flat_map (λ u. u.moments) joined.s.written) (session_moments joined.s.role) i))
      (λ i. absurd i) m.j m.seat m.there m.is

  abbrev IsName : Text → Type 0
  IsName name = is_session_name name ≡ true

  abbrev IsTime : ℕ → Type 0
  IsTime time = is_moment time ≡ true

  names_are : Each (λ u. IsName u.transcript.session) written → (k : ℕ) (t : SeatState) → get_elem? all_seats k ≡ some t → Each IsName (names_of t)
  names_are named zero t e = subst (λ (u : SeatState). Each IsName (names_of u)) (some-injective begins.seat t e) start.names
  names_are named (suc k) t e = of_each (λ (u : SeatState). Each IsName (names_of u))
      (each_both IsName (map (λ u. u.transcript.session) joined.s.written) (session_names joined.s.role)
      (each_map (λ (u : Written). u.transcript.session) IsName joined.s.written (subst (λ (us : List Written). Each (λ u. IsName u.transcript.session) us) (sym joined.wrote) named))
      (subst (λ (ns : List Text). Each IsName ns) (sym (nameless joined.s.role joined.rests)) tt))
      tt k t e

  moments_are : Each (λ u. Each IsTime u.moments) written → (k : ℕ) (t : SeatState) → get_elem? all_seats k ≡ some t → Each IsTime (moments_of t)
  moments_are timed zero t e = subst (λ (u : SeatState). Each IsTime (moments_of u)) (some-injective begins.seat t e) start.moments
  moments_are timed (suc k) t e = of_each (λ (u : SeatState). Each IsTime (moments_of u))
      (each_both IsTime (flat_map (λ u. u.moments) joined.s.written) (session_moments joined.s.role)
      (each_flat (λ (u : Written). u.moments) IsTime joined.s.written (subst (λ (us : List Written). Each (λ u. Each IsTime u.moments) us) (sym joined.wrote) timed))
      (subst (λ (ts : List ℕ). Each IsTime ts) (sym (timeless joined.s.role joined.rests)) tt))
      tt k t e

  forms : AreFormed st.ledger written → HaveForms st.ledger all_seats
  forms f = record { database = f.database; ids = f.ids; names = names_are f.names; moments = moments_are f.moments }

  added : AddedInTime past.items seats st.ledger
  added = joined.added st.ledger st.are_cells.has_ledger

  is_new : added.added ≡ since past st.ledger.items
  is_new = sym (since_front past.items added.added) ∙ ap (drop (length past.items)) (sym added.are)

  ran_together : RanTogetherBehind v past written st.ledger
  ran_together = record {
    agree = agree;
    in_order = in_order;
    images = images;
    times = subst (λ (is : List JournalItem). Each (IsMomentOf written) (times is)) is_new (each_of (IsMoment seats) (IsMomentOf written) moment_is (times added.added) added.times);
    made = each_of (λ d. IsMoment seats d.made) (λ d. IsMomentOf written d.made) (λ d m. moment_is d.made m) st.ledger.issued added.made;
    closings = subst (Each (FitsBlock st.ledger.block_size)) is_new added.closings;
    legal = λ f. legal_journal v (begins.history ++ events) cells all_seats st (forms f);
  }

  pub comes_to : (ledger : LedgerCell) → get_elem? cells ledger_at ≡ some (Ledger ledger) → RanTogetherBehind v past written ledger
  comes_to ledger e = subst (RanTogetherBehind v past written) (same_ledger st.ledger ledger (some-injective (Ledger st.ledger) (Ledger ledger) (sym st.are_cells.has_ledger ∙ e))) ran_together
