-- Over the tables after a transaction of another seat, an open transaction's script comes to what it came to before.
use Rattle.std.proofs.Common.{◌≡◌, ◌≢◌, ℕ, false, List, [], ◌∷◌, ◌++◌, map, sym, ap, ◌∙◌, subst}
use Rattle.sql_types.specs.declared.event.Event.{Event}
use Rattle.spec_model.specs.Catalog.{Tables, defs_of, versions_of}
use Rattle.spec_model.specs.Journals.{Line}
use Rattle.spec_model.specs.Replies.{reply_text}
use Rattle.spec_model.specs.Runs.{Sound}
use Rattle.spec_model.specs.Script.{Saved}
use Rattle.law_frame.proofs.LegalSound.{legal_sound}
use Rattle.law_frame.proofs.OtherTransactions.{others_sound}
use Rattle.law_frame.proofs.SameEnds.{SameSaved, AllSaved, SameEnds, IsShort, same_ends}
use Rattle.spec_history.specs.Lists.{Text, Each, In}
use Rattle.spec_history.specs.Transactions.{unfixed}
use Rattle.spec_protocol.specs.Server.{Server}
use Rattle.spec_protocol.specs.Cells.{catalog_at, Cell}
use Rattle.spec_protocol.specs.Contents.{Contents, Known, contents, known}
use Rattle.spec_protocol.specs.Seats.{OpenSavepoint, StatementProgress, begun, found, made, going_back, replied, answering, refused, SessionStatus, between, inside, leaving, OpenTransaction, Session, SeatState}
use Rattle.spec_protocol.specs.OpenOnes.{HasOpen, last_line, lines_at, script_so_far, texts_so_far, script_end}
use Rattle.spec_protocol.specs.EventsIn.{events_in}
use Rattle.spec_protocol.specs.RequestsIn.{requests_in, Holds}
use Rattle.spec_protocol.specs.OpenScripts.{IsOfItsScript}
use Rattle.spec_protocol.specs.TreesAreOfEvents.{AreTrees, IsOpenSavepoint, AreOpenSavepoints}
use Rattle.spec_protocol.specs.StandTogether.{History, Stands}
use Rattle.law_protocol_steps.proofs.FreshIds.{events_of_touched}
use Rattle.law_protocol_steps.proofs.Ids.{outside, others, differ}
use Rattle.law_protocol_steps.proofs.OthersAgree.{AllLocked, all_agree}

-- ---- a transaction of its own has at most one text

module _ (v : Server) where
  stage_short : (id : ℕ) (text : Text) (stage : StatementProgress) → IsShort v.reads id (map (λ l. l.0) (last_line text stage))
  stage_short id text begun = tt
  stage_short id text (found named fresh) = tt
  stage_short id text (made def indexed) = tt
  stage_short id text (going_back seq cells) = tt
  stage_short id text (replied reply) = tt
  stage_short id text (answering reply def) = tt
  stage_short id text (refused reply) = tt

  place_short : (id : ℕ) (place : SessionStatus) → IsShort v.reads id (map (λ l. l.0) (lines_at place))
  place_short id between = tt
  place_short id (inside text stage) = stage_short id text stage
  place_short id leaving = tt

  pub is_short : (x : Session) (o : OpenTransaction) → (o.explicit ≡ false → o.script ≡ []) → o.explicit ≡ false → IsShort v.reads o.id (texts_so_far x o)
  is_short x o alone e = subst (λ (s : List Line). IsShort v.reads o.id (map (λ l. l.0) (s ++ lines_at x.place))) (sym (alone e)) (place_short o.id x.place)

  -- ---- frames

  same_savepoint : (id : ℕ) (f : OpenSavepoint) (a b : Saved) → SameSaved id a b → IsOpenSavepoint id f a → IsOpenSavepoint id f b
  same_savepoint id f a b s h = record {
    name = h.name ∙ s.name;
    counter = h.counter ∙ s.seq;
    trees = subst (λ (events : ℕ → List Event). AreTrees events f.trees) (λ i t. (events_of_touched id t (versions_of a.tables t) ∙ ap (events_in id t) (s.mine t) ∙ sym (events_of_touched id t (versions_of b.tables t))) i) h.trees;
  }

  same_savepoints : (id : ℕ) (fs : List OpenSavepoint) (us bs : List Saved) → AllSaved id us bs → AreOpenSavepoints id fs us → AreOpenSavepoints id fs bs
  same_savepoints id [] [] [] s h = tt
  same_savepoints id (f ∷ fs) (a ∷ us) (b ∷ bs) s h = (same_savepoint id f a b s.0 h.0, same_savepoints id fs us bs s.1 h.1)
  same_savepoints id fs [] (b ∷ bs) s h = absurd s
  same_savepoints id fs (a ∷ us) [] s h = absurd s
  same_savepoints id [] (a ∷ us) bs s h = absurd h
  same_savepoints id (f ∷ fs) [] bs s h = absurd h

pub each_map : (f : Line → Text) (P : Text → Type 0) (ls : List Line) → Each (λ l. P (f l)) ls → Each P (map f ls)
each_map f P [] h = tt
each_map f P (l ∷ ls) h = (h.0, each_map f P ls h.1)

-- ---- beside a transaction of seat j

module _ (v : Server) (cells : List Cell) (seats : List SeatState) {history : History} (st : Stands v history cells seats) where
  abbrev c : Contents
  c = contents cells

  abbrev k : Known
  k = known v.reads st.ledger.items

  -- until its end is fixed the tables of the journal are sound for it
  pub sound_for : (j : ℕ) (x : Session) (o : OpenTransaction) → HasOpen seats j x o → o.end ≡ unfixed → Sound o.id 0 k.tables
  sound_for j x o has u = legal_sound v.reads st.ledger.items o.id st.ledger_is_legal.legal (others o.id st.ledger.items (outside v history st.ledger seats st.transcripts_agree j x o has u))

  -- and all that its script wants is locked
  pub locked : (j : ℕ) (x : Session) (o : OpenTransaction) → HasOpen seats j x o → o.end ≡ unfixed → AllLocked v c k.tables o.explicit o.id (texts_so_far x o)
  locked j x o has u n = each_map (λ l. l.0) (λ t. Each (Holds (c.holds n) o.id) (requests_in v (defs_of k.tables) o.explicit n t)) (script_so_far x o)
      (st.locks_cover.cover j x o has n (λ i. subst (In n) (st.locks_cover.unreleased j x o has u) i, λ i. subst (In catalog_at) (st.locks_cover.unreleased j x o has u) i))

  module _ (j : ℕ) (x : Session) (o : OpenTransaction) (has : HasOpen seats j x o) (open_end : o.end ≡ unfixed) where
    abbrev After : Tables
    After = (script_end v k.tables x o).state.tables

    module _ (i : ℕ) (y : Session) (p : OpenTransaction) (ne : i ≢ j) (has_p : HasOpen seats i y p) (open_p : p.end ≡ unfixed) where
      differ_ids : o.id ≢ p.id
      differ_ids = differ v history st.ledger seats st.transcripts_agree j i x y o p (λ e. ne (sym e)) has has_p

      pub same_end : SameEnds p.id (script_end v k.tables y p) (script_end v After y p)
      same_end = same_ends v.reads p.id p.explicit k.tables After (texts_so_far y p) (is_short v y p (st.open_scripts i y p has_p open_p).alone)
          (sound_for i y p has_p open_p)
          (others_sound o.id p.id 0 differ_ids v.reads o.explicit k.tables (texts_so_far x o) (sound_for j x o has open_end) (sound_for i y p has_p open_p))
          (all_agree v c k.tables seats st.locks_agree i j y x p o ne has_p has (sound_for j x o has open_end) (texts_so_far x o) (locked j x o has open_end) (is_short v x o (st.open_scripts j x o has open_end).alone)
          (texts_so_far y p) (locked i y p has_p open_p))

      pub script_stays : IsOfItsScript v c k.tables y p → IsOfItsScript v c After y p
      script_stays h = record {
        replies = h.replies ∙ ap (map reply_text) same_end.replies;
        versions = λ id l. h.versions id l ∙ same_end.mine id;
        counter = h.counter ∙ same_end.seq;
        alone = h.alone;
      }

      pub savepoints_stay : AreOpenSavepoints p.id p.open_savepoints (script_end v k.tables y p).state.saved → AreOpenSavepoints p.id p.open_savepoints (script_end v After y p).state.saved
      savepoints_stay h = same_savepoints v p.id p.open_savepoints (script_end v k.tables y p).state.saved (script_end v After y p).state.saved same_end.saved h
