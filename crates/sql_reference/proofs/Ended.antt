-- A script ends.
use Rattle.std.proofs.Common.{◌≡◌, sym, subst, Some}
use Rattle.spec_model.specs.Catalog.{Tables}
use Rattle.sql_apply.specs.Short.{AreShort}
use Rattle.sql_reference.specs.declared.begun.RunningScript.{RunningScript}
use Rattle.sql_reference.specs.Machine.{Machine, at_rest}
use Rattle.sql_reference.specs.Order.{InOrder}
use Rattle.sql_reference.specs.Seen.{before, machine_of}
use Rattle.sql_reference.proofs.Ready.{ready, ready_short, rests, ends_back}
use Rattle.sql_reference.proofs.NextReady.{ends_kept}

module _ (T : Tables) (b : RunningScript) (h : InOrder (machine_of T (Some b))) where
  pub short : AreShort T
  short = ready_short b.tx b.seq T (ready T b h)

  -- where it is kept
  pub kept_order : (m : Machine) → m ≡ at_rest T → InOrder m
  kept_order m e = subst InOrder (sym e) (rests T (ends_kept T b h))

  -- where it is taken back
  pub back_order : (m : Machine) → m ≡ at_rest (before T b) → InOrder m
  back_order m e = subst InOrder (sym e) (rests (before T b) (ends_back T b h))
