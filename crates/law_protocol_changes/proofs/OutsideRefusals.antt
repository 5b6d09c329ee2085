-- What is answered where no transaction is open, and want of memory.
use Rattle.std.proofs.Common.{◌≡◌, ℕ, ◌⊎◌, Bool, true, false, [], ◌∷◌, Option, Some, None, refl, sym, ap, ◌∙◌, subst, inl, inr}
use Rattle.std.specs.Prelude.{◌==◌, if◌then◌else◌}
use Rattle.sql_value.specs.declared.refusal.Refusal.{Refusal}
use Rattle.sql_value.specs.declared.refusal.Refusal.TheVariants.{SyntaxError, NoTransaction, AlreadyInTransaction, LimitExceeded, ForbiddenInTransaction, NoMemory}
use Rattle.sql_types.specs.declared.reply.Reply.TheVariants as reply
use Rattle.sql_types.specs.declared.statement.Stmt.{Stmt}
use Rattle.sql_types.specs.declared.statement.Stmt.TheVariants as stmt
use Rattle.spec_history.specs.Lists.{Text}
use Rattle.spec_history.specs.Meaning.{Meaning}
use Rattle.spec_history.specs.Transcripts.{Kind, unread, begin, commit, roll_back, to_savepoint, create, rows, issue, keep, kind_of}
use Rattle.spec_history.specs.Facts.{failed, facts_inside, facts_outside}
use Rattle.spec_history.specs.InPlace.{ComesAt, ControlledBy}
use Rattle.spec_protocol.specs.Answering.{refused_outside}
use Rattle.spec_protocol.specs.TranscriptsSoFar.{FitsOutside}
use Rattle.law_protocol_steps.proofs.InPlaces.{never, comes, outside, memory_refused_outside}
use Rattle.spec_protocol.specs.ActsOf.{failed_acts}
use Rattle.spec_history.specs.Acts.{fails}

module _ (q : Meaning) (text : Text) where
  abbrev k : Kind
  k = kind_of (q.reads text)

  -- want of memory, where no transaction is open
  facts_none : (a : Kind) → facts_outside q a text (reply.Refused NoMemory) None ≡ []
  facts_none unread = refl
  facts_none begin = refl
  facts_none commit = refl
  facts_none roll_back = refl
  facts_none to_savepoint = refl
  facts_none create = refl
  facts_none rows = refl
  facts_none issue = refl
  facts_none keep = refl

  pub no_memory_outside : (n : ℕ) → FitsOutside q n text (reply.Refused NoMemory) × (facts_outside q k text (reply.Refused NoMemory) None ≡ [])
  no_memory_outside n = (record { plain = refl; in_place = memory_refused_outside q n text }, facts_none k)

  -- and in one that BEGIN opened: COMMIT and ROLLBACK show nothing then
  pub no_memory_facts : (a : Kind) → ((facts_inside q a text (reply.Refused NoMemory) None ≡ []) × (failed_acts a text ≡ [])) ⊎ ((facts_inside q a text (reply.Refused NoMemory) None ≡ failed text ∷ []) × (failed_acts a text ≡ fails text ∷ []))
  no_memory_facts unread = inr (refl, refl)
  no_memory_facts begin = inr (refl, refl)
  no_memory_facts commit = inl (refl, refl)
  no_memory_facts roll_back = inl (refl, refl)
  no_memory_facts to_savepoint = inr (refl, refl)
  no_memory_facts create = inr (refl, refl)
  no_memory_facts rows = inr (refl, refl)
  no_memory_facts issue = inr (refl, refl)
  no_memory_facts keep = inr (refl, refl)

  -- ---- refused where no transaction is open

  abbrev Refuses : ℕ → Refusal → Type 0
  Refuses n e = FitsOutside q n text (reply.Refused e) × (facts_outside q k text (reply.Refused e) None ≡ [])

  needs_one : (n : ℕ) (a : Kind) → k ≡ a → Rattle.spec_history.specs.InPlace.EndsOutside a None → ControlledBy None n a (reply.Refused NoTransaction) → Rattle.spec_history.specs.InPlace.HasItsForm a (reply.Refused NoTransaction) None → facts_outside q a text (reply.Refused NoTransaction) None ≡ [] → Refuses n NoTransaction
  needs_one n a same e c f g = (record { plain = refl; in_place = outside q n text (reply.Refused NoTransaction) a None same e c f }, ap (λ (z : Kind). facts_outside q z text (reply.Refused NoTransaction) None) same ∙ g)

  third : (n : ℕ) (e : Refusal) (b : Bool) → (n == 2) ≡ b → (if b then Some LimitExceeded else None) ≡ Some e → k ≡ keep → Refuses n e
  third n LimitExceeded true f is same = (
    record { plain = refl; in_place = outside q n text (reply.Refused LimitExceeded) keep None same refl (record { none_open = never NoTransaction _ (λ f. cc); begun_twice = never AlreadyInTransaction _ (λ f. cc); not_inside = never ForbiddenInTransaction _ (λ f. cc); unread_outside = never SyntaxError _ (λ f. cc); third_image = subst (λ (z : Bool). ComesAt LimitExceeded z (reply.Refused LimitExceeded)) (sym f) (comes LimitExceeded); begins = tt }) tt },
    ap (λ (z : Kind). facts_outside q z text (reply.Refused LimitExceeded) None) same,
  )
  third n e true f is same = cc
  third n e false f is same = cc

  pub refused_out_fits : (n : ℕ) (o : Option Stmt) (e : Refusal) → refused_outside n o ≡ Some e → k ≡ kind_of o → Refuses n e
  refused_out_fits n None SyntaxError f same = (
    record { plain = refl; in_place = outside q n text (reply.Refused SyntaxError) unread None same refl (record { none_open = never NoTransaction _ (λ f. cc); begun_twice = never AlreadyInTransaction _ (λ f. cc); not_inside = never ForbiddenInTransaction _ (λ f. cc); unread_outside = comes SyntaxError; third_image = tt; begins = tt }) tt },
    ap (λ (z : Kind). facts_outside q z text (reply.Refused SyntaxError) None) same,
  )
  refused_out_fits n (Some stmt.Commit) NoTransaction f same = needs_one n commit same refl (record { none_open = comes NoTransaction; begun_twice = never AlreadyInTransaction _ (λ f. cc); not_inside = never ForbiddenInTransaction _ (λ f. cc); unread_outside = never SyntaxError _ (λ f. cc); third_image = tt; begins = tt }) tt refl
  refused_out_fits n (Some (stmt.Save name)) NoTransaction f same = needs_one n to_savepoint same refl (record { none_open = comes NoTransaction; begun_twice = never AlreadyInTransaction _ (λ f. cc); not_inside = never ForbiddenInTransaction _ (λ f. cc); unread_outside = never SyntaxError _ (λ f. cc); third_image = tt; begins = tt }) tt refl
  refused_out_fits n (Some (stmt.Rollback None)) NoTransaction f same = needs_one n roll_back same refl (record { none_open = comes NoTransaction; begun_twice = never AlreadyInTransaction _ (λ f. cc); not_inside = never ForbiddenInTransaction _ (λ f. cc); unread_outside = never SyntaxError _ (λ f. cc); third_image = tt; begins = tt }) tt refl
  refused_out_fits n (Some (stmt.Rollback (Some name))) NoTransaction f same = needs_one n to_savepoint same refl (record { none_open = comes NoTransaction; begun_twice = never AlreadyInTransaction _ (λ f. cc); not_inside = never ForbiddenInTransaction _ (λ f. cc); unread_outside = never SyntaxError _ (λ f. cc); third_image = tt; begins = tt }) tt refl
  refused_out_fits n (Some stmt.Image) e f same = third n e (n == 2) refl f same
  refused_out_fits n None e f same = cc
  refused_out_fits n (Some (stmt.Alter a)) e f same = cc
  refused_out_fits n (Some (stmt.Drop name)) e f same = cc
  refused_out_fits n (Some stmt.Commit) e f same = cc
  refused_out_fits n (Some (stmt.Save name)) e f same = cc
  refused_out_fits n (Some (stmt.Rollback None)) e f same = cc
  refused_out_fits n (Some (stmt.Rollback (Some name))) e f same = cc
  refused_out_fits n (Some (stmt.Create c)) e f same = cc
  refused_out_fits n (Some (stmt.Index c)) e f same = cc
  refused_out_fits n (Some (stmt.Change c)) e f same = cc
  refused_out_fits n (Some (stmt.Select c)) e f same = cc
  refused_out_fits n (Some stmt.Begin) e f same = cc
  refused_out_fits n (Some stmt.Digest) e f same = cc
