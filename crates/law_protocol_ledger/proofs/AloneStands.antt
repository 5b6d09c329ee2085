-- What a seat does alone keeps cells and seats standing together.
use Rattle.std.proofs.Common.{◌≡◌, ℕ, true, List, length, Option, Some, None, slice_set, refl, sym, ap, ◌∙◌, subst, arith, [], ◌∷◌}
use mathlib.Core.Option.{some}
use lib.ListN.{get_elem?}
use Rattle.sql_types.specs.declared.reply.Reply.{Reply}
use Rattle.sql_types.specs.declared.reply.Reply.TheVariants as reply
use Rattle.sql_value.specs.declared.refusal.Refusal.TheVariants.{NoMemory}
use Rattle.sql_types.specs.declared.statement.Stmt.{Stmt}
use Rattle.spec_history.specs.Lists.{Text}
use Rattle.spec_history.specs.Transcripts.{kind_of, statement}
use Rattle.spec_protocol.specs.Server.{Server}
use Rattle.spec_protocol.specs.Cells.{Cell}
use Rattle.spec_protocol.specs.Alone.{Alone, begins, builds, rests, takes, leaves, stops, refused_in, refused_out, refused_checked, no_memory, no_memory_then, saves, has_too_many, goes_back, has_no_savepoint, is_back, answers, answers_end, has_left, IsUnfixed, GoesOn}
use Rattle.spec_protocol.specs.Answering.{with_entry, refused_outside}
use Rattle.spec_protocol.specs.Doing.{done}
use Rattle.spec_protocol.specs.Moves.{at_place, sits, InOpenTransaction}
use Rattle.spec_protocol.specs.Seats.{OpenTransaction, begun, found, answering, between, inside, idle, builder, Session, session, SeatState}
use Rattle.spec_protocol.specs.StandTogether.{History, Stands, StandsAfter}
use Rattle.law_protocol_changes.proofs.OutsideRefusals.{no_memory_outside, refused_out_fits}
use Rattle.law_protocol_ledger.proofs.StepsBack.{went_back, is_back_stands, explicit_by_begin}
use Rattle.law_protocol_ledger.proofs.StepsChecked.{checked_stands}
use Rattle.law_protocol_ledger.proofs.StepsEnd.{stopped, answered_end, left}
use Rattle.law_protocol_changes.proofs.StepsQuiet.{outside_stands, leaves_stands, no_memory_stands, no_memory_then_stands}
use Rattle.law_protocol_ledger.proofs.StepsRole.{role_stands, begin_stands}
use Rattle.law_protocol_changes.proofs.StepsSaid.{done_is, refused_there, saved, too_many, no_savepoint}
use Rattle.law_protocol_ledger.proofs.StepsTake.{taken_none, taken_some, answered_none, answered_some}
use Rattle.spec_history.specs.Acts.{SessionAct}
use Rattle.spec_protocol.specs.ActsOf.{failed_in, alone_acts}
use Rattle.law_protocol_steps.proofs.GoesOn.{unacted}
use Rattle.spec_history.specs.Acts as act

module _ (v : Server) (cells : List Cell) (seats : List SeatState) {history : History} (st : Stands v history cells seats) (j : ℕ) (s : SeatState) (there : get_elem? seats j ≡ some s) where
  abbrev Then : List SessionAct → SeatState → Type 0
  Then acts t = StandsAfter v j history acts cells (slice_set seats j t)

  take_by : (x : Session) (text : Text) → s.role ≡ session x → x.place ≡ between → (z : Option OpenTransaction) → x.open_one ≡ z → GoesOn z → Then (act.takes text ∷ []) (sits s (at_place z (inside text begun) x))
  take_by x text role at None e g = taken_none v cells seats st j s there x role text at e
  take_by x text role at (Some o) e g = taken_some v cells seats st j s there x role text at o e g.0 g.1

  answer_by : (x : Session) (text : Text) (r : Reply) → s.role ≡ session x → x.place ≡ inside text (answering r None) → (z : Option OpenTransaction) → x.open_one ≡ z → GoesOn z → Then (act.answers (statement text r None) ∷ []) (sits s (with_entry (statement text r None) z between x))
  answer_by x text r role at None e g = answered_none v cells seats st j s there x role text r at e
  answer_by x text r role at (Some o) e g = answered_some v cells seats st j s there x role text r at o e g.0 g.1

  no_memory_by : (x : Session) (text : Text) → s.role ≡ session x → x.place ≡ inside text begun → (z : Option OpenTransaction) → x.open_one ≡ z → IsUnfixed z → Then (failed_in v.meaning z text) (sits s (at_place z (inside text (answering (reply.Refused NoMemory) None)) x))
  no_memory_by x text role at None e g = unacted v (outside_stands v cells seats st j s there x role text at e (reply.Refused NoMemory) refl (λ n i. no_memory_outside v.meaning text n))
  no_memory_by x text role at (Some o) e g = no_memory_stands v cells seats st j s there x role o e g text at

  place_at : (o : OpenTransaction) (at : InOpenTransaction v s o) (stage : _) → at.stands.stage ≡ stage → at.stands.x.place ≡ inside at.stands.text stage
  place_at o at stage e = at.stands.place ∙ ap (λ z. inside at.stands.text z) e

  text_is : (o : OpenTransaction) (at : InOpenTransaction v s o) (d : Stmt) → at.stands.stmt ≡ d → v.reads at.stands.text ≡ Some d
  text_is o at d e = at.stands.is ∙ ap Some e

  done_stands : {acts : List SessionAct} (o p : OpenTransaction) (at : InOpenTransaction v s o) (r : Reply) → p.explicit ≡ true → Then acts (Rattle.spec_protocol.specs.Moves.then_at s at.stands (Some (Rattle.spec_protocol.specs.Moves.saying (at.stands.text, Rattle.spec_model.specs.Replies.reply_text r) p)) (answering r None)) → Then acts (done s at.stands p r)
  done_stands {acts} o p at r e h = subst (Then acts) (sym (done_is v s at.stands p r e)) h

  pub alone_keeps : (t : SeatState) → (step : Alone v s t) → Then (alone_acts step) t
  alone_keeps _ (begins name present role) = begin_stands v cells seats st j s there role name
  alone_keeps _ (builds present role) = unacted v (role_stands v cells seats st j s there idle builder role tt tt)
  alone_keeps _ (rests role) = unacted v (role_stands v cells seats st j s there builder idle role tt tt)
  alone_keeps _ (takes x text at goes) = take_by x text at.role at.here x.open_one refl goes
  alone_keeps _ (leaves x o at one open_end explicit) = unacted v (leaves_stands v cells seats st j s there x at.role o one open_end at.here explicit)
  alone_keeps _ (stops x at free) = stopped v cells seats st j s there x at.role at.here free
  alone_keeps _ (refused_in x o text e at one open_end explicit is) = refused_there v cells seats st j s there x at.role o one open_end explicit text at.here e is
  alone_keeps _ (refused_out x text e at free is) = unacted v (outside_stands v cells seats st j s there x at.role text at.here free (reply.Refused e) refl
      (λ n i. refused_out_fits v.meaning text n (v.reads text) e (ap (λ m. refused_outside m (v.reads text)) (let f : n ≡ length x.images = omega (arith, i) in f) ∙ is) (ap kind_of (v.real.reading text))))
  alone_keeps _ (refused_checked o at named fresh e stage is) = checked_stands v cells seats st j s there o at named fresh e stage is
  alone_keeps _ (no_memory x text at open_end) = no_memory_by x text at.role at.here x.open_one refl open_end
  alone_keeps _ (no_memory_then o at named fresh stage) = no_memory_then_stands v cells seats st j s there at.stands.x at.stands.role o at.open_one at.unfixed at.stands.text named fresh (place_at o at (found named fresh) stage)
  alone_keeps _ (saves o at name stage explicit is few) = done_stands o _ at reply.Saved explicit (saved v cells seats st j s there at.stands.x at.stands.role o at.open_one at.unfixed explicit at.stands.text (place_at o at begun stage) name (text_is o at _ is) few)
  alone_keeps _ (has_too_many o at name stage explicit is full) = done_stands o _ at _ explicit (too_many v cells seats st j s there at.stands.x at.stands.role o at.open_one at.unfixed explicit at.stands.text (place_at o at begun stage) name (text_is o at _ is) full)
  alone_keeps _ (goes_back o at name f fs stage explicit is there_is) = unacted v (went_back v cells seats st j s there at.stands.x at.stands.role o at.open_one at.unfixed explicit at.stands.text (place_at o at begun stage) name (text_is o at _ is) f fs there_is)
  alone_keeps _ (has_no_savepoint o at name stage explicit is nothing) = done_stands o _ at _ explicit (no_savepoint v cells seats st j s there at.stands.x at.stands.role o at.open_one at.unfixed explicit at.stands.text (place_at o at begun stage) name (text_is o at _ is) nothing)
  alone_keeps _ (is_back o at seq stage) = done_stands o _ at reply.Back (explicit_by_begin v cells seats st j s there at.stands.x at.stands.role o at.open_one at.unfixed at.stands.text seq (place_at o at _ stage)).0
      (is_back_stands v cells seats st j s there at.stands.x at.stands.role o at.open_one at.unfixed at.stands.text seq (place_at o at _ stage))
  alone_keeps _ (answers x text r at goes) = answer_by x text r at.role at.here x.open_one refl goes
  alone_keeps _ (answers_end x o text r def line at one is released) = answered_end v cells seats st j s there x at.role o one line is released text r def at.here
  alone_keeps _ (has_left x o line at one is released) = left v cells seats st j s there x at.role o one line is released at.here
