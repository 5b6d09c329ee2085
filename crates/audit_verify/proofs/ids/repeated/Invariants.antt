use Rattle.std.proofs.Common.{ℕ, ◌≡◌, drop, take}
use Rattle.std.specs.Prelude.{not}
use Rattle.sql_types.specs.declared.entry.TxEntry.{TxEntry}
use Rattle.spec_verify.specs.declared.place.Place.TheVariants as at
use Rattle.spec_verify.specs.Entries.{has_id}
use Rattle.spec_verify.specs.First.{unless, first_from}
use Rattle.audit_verify.specs.Ids.{repeated_in}
use Rattle.audit_verify.proofs.ids.repeated.Given as goal

abbrev pub invariant-loop-k : goal.invariant-loop-k
invariant-loop-k l =
    let found = λ (k : ℕ) (e : TxEntry). unless (not (has_id (take k l.entries.all.now) e.id)) (at.Entry k) in
    first_from found l.k (drop l.k l.entries.all.now) ≡ repeated_in l.entries.all.now
