-- What a transaction that asks for locks gets of a table's cell, and what it keeps.
use Rattle.std.proofs.Common.{◌≡◌, ◌≢◌, ◌≤◌, ℕ, zero, suc, inl, inr, refl, sym, ap, subst, ◌∙◌, Bool, List, [], ◌∷◌, Option, Some, None, Ok, Err, length, take, arith}
use Rattle.std.specs.Prelude.{Result, IfErr, OnErr, OnOk, not}
use Rattle.sql_value.specs.declared.refusal.Refusal.{Refusal}
use Rattle.sql_value.specs.declared.refusal.Refusal.TheVariants as refusal
use Rattle.sql_types.specs.declared.lock.Hold.{Hold}
use Rattle.sql_types.specs.declared.lock.Item.{Item}
use Rattle.sql_types.specs.declared.lock.Mode.{Mode}
use Rattle.sql_types.specs.declared.lock.LockRequest.{LockRequest}
use Rattle.sql_types.specs.declared.reply.Reply.TheVariants as reply
use Rattle.spec_model.specs.Holds.{holds_after, holds_any}
use Rattle.spec_model.specs.InTheWay.{Conflict, first_conflict}
use Rattle.store_locks.specs.Asked.{asked, refused_or, IsMeant}
use Rattle.store_locks.specs.declared.lock_err.LockErr.{LockErr}
use Rattle.store_locks.specs.declared.lock_err.LockErr.TheVariants as lock
use Rattle.store_locks.proofs.Steps.{back_restores}
use Rattle.spec_protocol.specs.Cells.{TableCell}
use Rattle.spec_protocol.specs.Doing.{Stopped, blocked}
use Rattle.spec_protocol.specs.TableVisits.{with_holds}
use Rattle.store_table.specs.Calls.{IsLeft, IsStopped, LocksTaken}
use Rattle.store_table.specs.Stopping.{granted_or_err, table_err_of}
use Rattle.store_table.specs.declared.stop.TableErr.{TableErr}
use Rattle.store_table.specs.declared.stop.TableErr.TheVariants.{Locked, Memory, Refused}

take_within : {A : Type 0} (n : ℕ) (xs : List A) → length (take n xs) ≤ length xs
take_within zero xs = omega arith
take_within (suc n) [] = omega arith
take_within (suc n) (x ∷ xs) = omega (arith, take_within n xs)

none_there : (o : Option Conflict) (answer fresh : Bool) → refused_or o answer ≡ Ok fresh → o ≡ None
none_there None answer fresh e = refl
none_there (Some c) answer fresh e = cc

module _ (c : TableCell) (tx : ℕ) (requests : List LockRequest) where
  pub taken : (holds : List Hold) (d : TableCell) (r : Result Bool LockErr) → IsMeant (asked c.holds tx requests) r → OnOk r (holds ≡ holds_after c.holds tx requests) → d ≡ with_holds holds c
      → OnOk (granted_or_err r) (LocksTaken c tx requests d)
  unfolding asked
  taken holds d (Ok fresh) meant all is = record {
    free = none_there (first_conflict c.holds tx requests) (not (holds_any c.holds tx)) fresh meant;
    cell = is ∙ ap (λ (hs : List Hold). with_holds hs c) all;
  }
  taken holds d (Err e) meant all is = tt

  by_conflict : (o : Option Conflict) (answer : Bool) (holder : ℕ) (item : Item) (mode : Mode) → first_conflict c.holds tx requests ≡ o → refused_or o answer ≡ Err (lock.Locked holder item mode)
      → Stopped c.holds tx requests (reply.Refused (refusal.Locked holder))
  by_conflict None answer holder item mode is e = absurd cc
  by_conflict (Some x) answer holder item mode is e =
      let same : x.0.0 ≡ holder = cc in
      subst (λ (n : ℕ). Stopped c.holds tx requests (reply.Refused (refusal.Locked n))) same (blocked x is)

  stopped_by : (e : LockErr) (d : TableCell) → (e ≢ lock.Memory → asked c.holds tx requests ≡ Err e) → d ≡ c → IsStopped c tx requests (λ r. ⊥) (table_err_of e) d
  unfolding asked
  stopped_by (lock.Locked holder item mode) d meant same =
      (by_conflict (first_conflict c.holds tx requests) (not (holds_any c.holds tx)) holder item mode refl (meant (λ k. cc)), same)
  stopped_by lock.Memory d meant same = same

  pub stopped : (holds : List Hold) (d : TableCell) (r : Result Bool LockErr) → IsMeant (asked c.holds tx requests) r → OnErr r (holds ≡ c.holds) → d ≡ with_holds holds c
      → IfErr (granted_or_err r) (λ stop. IsStopped c tx requests (λ e. ⊥) stop d)
  stopped holds d (Ok fresh) meant same is = tt
  stopped holds d (Err e) meant same is = stopped_by e d meant (is ∙ ap (λ (hs : List Hold). with_holds hs c) same)

  -- what stops a statement before its rows stops it
  pub stopped_so : (P : Refusal → Type 0) (stop : TableErr) (d : TableCell) → IsStopped c tx requests (λ r. ⊥) stop d → IsStopped c tx requests P stop d
  stopped_so P (Refused e) d h = absurd h.0
  stopped_so P (Locked holder) d h = h
  stopped_so P Memory d h = h

  -- so does a refusal under its locks
  pub left : (P : Refusal → Type 0) (l d : TableCell) (held : ℕ) (e : Refusal) (stop : TableErr) → LocksTaken c tx requests l → held ≡ length c.holds → IsLeft l held e stop d → (e ≢ refusal.NoMemory → P e)
      → IsStopped c tx requests P stop d
  left P l d held e stop locks many is refuses = elim is [
    | inl p ↦ subst (λ (x : TableErr). IsStopped c tx requests P x d) (sym p.1)
        (p.2 ∙ ap (λ (x : TableCell). with_holds (take held x.holds) x) locks.cell
        ∙ ap (λ (n : ℕ). with_holds (take n (holds_after c.holds tx requests)) c) many
        ∙ ap (λ (hs : List Hold). with_holds hs c) (back_restores c.holds tx requests))
    | inr p ↦ subst (λ (x : TableErr). IsStopped c tx requests P x d) (sym p.1)
        (refuses p.0, record { free = locks.free; cell = p.2 ∙ locks.cell })
  ]

  pub fewer : (l : TableCell) → LocksTaken c tx requests l → take (length c.holds) l.holds ≡ c.holds
  fewer l locks = ap (λ (x : TableCell). take (length c.holds) x.holds) locks.cell ∙ back_restores c.holds tx requests

  pub held_within : (l : TableCell) → LocksTaken c tx requests l → length c.holds ≤ length l.holds
  held_within l locks = let e = ap length (fewer l locks) in let w = take_within (length c.holds) l.holds in omega (arith, e, w)
