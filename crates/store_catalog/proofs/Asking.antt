-- What a transaction that asks for locks gets of the catalog.
use Rattle.std.proofs.Common.{◌≡◌, ◌≢◌, ℕ, refl, ap, subst, ◌∙◌, Bool, List, Option, Some, None, Ok, Err, not}
use Rattle.std.specs.Prelude.{Result, IfOk, IfErr, OnOk}
use Rattle.sql_types.specs.declared.lock.Hold.{Hold}
use Rattle.sql_types.specs.declared.lock.LockRequest.{LockRequest}
use Rattle.sql_types.specs.declared.reply.Reply.TheVariants as reply
use Rattle.spec_model.specs.Holds.{holds_after, holds_any}
use Rattle.spec_model.specs.InTheWay.{Conflict, first_conflict}
use Rattle.store_locks.specs.Asked.{asked, refused_or, IsMeant}
use Rattle.store_locks.specs.declared.lock_err.LockErr.{LockErr}
use Rattle.store_locks.specs.declared.lock_err.LockErr.TheVariants.{Locked, Memory}
use Rattle.spec_protocol.specs.CatalogVisits.{with_holds}
use Rattle.spec_protocol.specs.Cells.{CatalogCell}
use Rattle.spec_protocol.specs.Doing.{Stopped, blocked, no_memory}
use Rattle.store_catalog.specs.Calls.{LocksTaken}
use Rattle.store_catalog.specs.Refusals.{or_refusal, refusal_of}

none_there : (o : Option Conflict) (answer fresh : Bool) → refused_or o answer ≡ Ok fresh → (o ≡ None) × (fresh ≡ answer)
none_there None answer fresh e = (refl, cc)
none_there (Some c) answer fresh e = cc

module _ (c : CatalogCell) (tx : ℕ) (requests : List LockRequest) where
  pub taken : (holds : List Hold) (d : CatalogCell) (r : Result Bool LockErr) → IsMeant (asked c.holds tx requests) r → OnOk r (holds ≡ holds_after c.holds tx requests)
      → d ≡ with_holds holds c → IfOk (or_refusal r) (λ fresh. LocksTaken c tx requests fresh d)
  unfolding asked
  taken holds d (Ok fresh) meant all is =
      let p = none_there (first_conflict c.holds tx requests) (not (holds_any c.holds tx)) fresh meant in
      record { free = p.0; fresh = p.1; cell = is ∙ ap (λ (hs : List Hold). with_holds hs c) all }
  taken holds d (Err e) meant all is = tt

  by_conflict : (o : Option Conflict) (answer : Bool) (e : LockErr) → first_conflict c.holds tx requests ≡ o → (e ≢ Memory → refused_or o answer ≡ Err e) → Stopped c.holds tx requests (reply.Refused (refusal_of e))
  by_conflict o answer Memory is meant = no_memory
  by_conflict None answer (Locked holder item mode) is meant = absurd (let never : refused_or None answer ≡ Err (Locked holder item mode) = meant (λ k. cc) in cc)
  by_conflict (Some x) answer (Locked holder item mode) is meant =
      let e : refused_or (Some x) answer ≡ Err (Locked holder item mode) = meant (λ k. cc) in
      let same : x.0.0 ≡ holder = cc in
      subst (λ (n : ℕ). Stopped c.holds tx requests (reply.Refused (refusal_of (Locked n item mode)))) same (blocked x is)

  pub stopped : (r : Result Bool LockErr) → IsMeant (asked c.holds tx requests) r → IfErr (or_refusal r) (λ e. Stopped c.holds tx requests (reply.Refused e))
  unfolding asked
  stopped (Ok fresh) meant = tt
  stopped (Err e) meant = by_conflict (first_conflict c.holds tx requests) (not (holds_any c.holds tx)) e refl meant
