use Rattle.std.proofs.Common.{◌∙◌, refl}
use Rattle.store_ledger.proofs.OfJournal.{issued_is_digest}
use Rattle.store_ledger.proofs.laws.issuing_is_a_visit.Goals as goal

pub returns : goal.returns
returns c = λ v made cell d issued s t legal i stands begun none_open asks seat. record {
  stands = stands;
  at_begin = begun;
  none_open = none_open;
  asks = asks;
  digest = i.digest;
  newest = i.of_newest.newest;
  is = issued_is_digest v made cell d issued legal i;
  made = i.made;
  cell = i.cell;
  seat = seat ∙ rw (i.block, i.hash) refl;
}
