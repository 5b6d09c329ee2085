-- The images that a seat kept are those that its transcripts show.
use Rattle.std.proofs.Common.{◌≡◌, ℕ, List, [], ◌∷◌, ◌++◌, flat_map, None, refl, sym, ap, ◌∙◌, append-nil}
use Rattle.std.proofs.lemmas.Grind.{flat_map-append}
use mathlib.Core.Option.{some}
use lib.ListN.{get_elem?}
use Rattle.spec_history.specs.Lists.{Each}
use Rattle.spec_history.specs.Acts.{SessionAct, starts, takes, assigns_id, looks, says, fails, meets, commits, ends, releases_locks, issues, keeps, lacks, answers, stops, of, shown, all_shown}
use Rattle.spec_history.specs.Facts.{Fact, facts, facts_of}
use Rattle.spec_history.specs.Sessions.{gone, transcript_of}
use Rattle.spec_history.specs.Transcripts.{Transcript}
use Rattle.spec_history.specs.Worlds.{first, run}
use Rattle.law_history.proofs.TranscriptsSoFar.{told}
use Rattle.spec_protocol.specs.AtTheEnd.{HasItsImages, image_items}
use Rattle.spec_protocol.specs.Cells.{Cell}
use Rattle.spec_protocol.specs.Parts.{Past}
use Rattle.spec_protocol.specs.Seats.{SeatState, Written}
use Rattle.spec_protocol.specs.Server.{Server}
use Rattle.spec_protocol.specs.StandTogether.{History, Stands}
use Rattle.spec_protocol.specs.TranscriptsAgree.{ImagesOfPast, image_of}
use Rattle.law_protocol_ledger.proofs.GoneFree.{gone_rests}

-- an act shows the image that it keeps, and no other
by_act : (a : SessionAct) → image_of a ≡ flat_map image_items (shown a)
by_act (starts name) = refl
by_act (takes text) = refl
by_act (assigns_id id explicit) = refl
by_act (looks text table) = refl
by_act (says line) = refl
by_act (fails text) = refl
by_act (meets text holder) = refl
by_act (commits time place) = refl
by_act (ends n back) = refl
by_act releases_locks = refl
by_act (issues d mark) = refl
by_act (keeps items mark) = refl
by_act lacks = refl
by_act (answers entry) = refl
by_act stops = refl

by_acts : (acts : List SessionAct) → flat_map image_of acts ≡ flat_map image_items (all_shown acts)
by_acts [] = refl
by_acts (a ∷ acts) = ap (λ (l : List ℕ). l ++ flat_map image_of acts) (by_act a) ∙ ap (λ (l : List ℕ). flat_map image_items (shown a) ++ l) (by_acts acts) ∙ sym (flat_map-append image_items (shown a) (all_shown acts))

module _ (v : Server) (history : History) (cells : List Cell) (seats : List SeatState) (st : Stands v history cells seats) where
  -- what the transcript of a session shows that is over
  shown_then : (n : ℕ) → ((run first history).at n).phase ≡ gone → facts_of v.meaning (transcript_of ((run first history).at n)) ≡ all_shown (of n history)
  shown_then n over = let t = told v.meaning st.ledger.database n first history [] st.transcripts_agree.good (record { shows = refl; in_order = refl; end_is_last = tt; in_place = tt }) in
      sym (append-nil _) ∙ ap (λ (l : List Fact). facts v.meaning None ((run first history).at n).so_far.entries ++ l) (sym (gone_rests v.meaning st.ledger.database history st.transcripts_agree.good n over).shown) ∙ t.shows

  each_has : (ns : List ℕ) (ws : List Written) → Past history ns ws → ImagesOfPast v history st.ledger ns ws → Each (HasItsImages v st.ledger) ws
  each_has [] [] past images = tt
  each_has [] (w ∷ ws) past images = absurd past
  each_has (n ∷ ns) [] past images = absurd past
  each_has (n ∷ ns) (w ∷ ws) past images = (
    record {
      shown = images.0.shown ∙ by_acts (of n history) ∙ ap (flat_map image_items) (sym (shown_then n past.0.over)) ∙ ap (λ (x : Transcript). flat_map image_items (facts_of v.meaning x)) past.0.is;
      each = images.0.each;
    },
    each_has ns ws past.1 images.1,
  )

  pub have_images : (j : ℕ) (s : SeatState) → get_elem? seats j ≡ some s → Each (HasItsImages v st.ledger) s.written
  have_images j s there = let a = st.transcripts_agree.agree j s there in each_has (st.transcripts_agree.of_seat j).past s.written a.sessions.past a.past_images
