use Rattle.std.proofs.Common.{◌∷◌, ◌∙◌, List, map, sym, ap, subst, arith}
use mathlib.Core.Option.{some}
use Rattle.spec_protocol.specs.Cells.{ledger_at}
use Rattle.server_engine.specs.Images.{AreImageBytes, CellsStand, JournalFitsFormat}
use Rattle.server_session.specs.KeptCell.{KeptCell}
use Rattle.server_engine.proofs.Pairs.{index_there}
use Rattle.server_result.specs.Joined.{joined_each}
use Rattle.server_engine.specs.declared.session.SessionEnd.{SessionEnd}
use Rattle.server_ending.proofs.Ledgers.{ledger_within, second_is_ledger}
use Rattle.server_ending.proofs.leaving.leave.Goals as goal

pub swap_remove-requires : goal.swap_remove-requires
swap_remove-requires c =
    let l = ledger_within c.args.finished.cells.items c.requires in
    let ok = c.args.finished.cells.ok in omega (arith, l, ok)

pub into_ledger-ledger-requires : goal.into_ledger-ledger-requires
into_ledger-ledger-requires c =
    let cells = c.args.finished.cells.items in
    let x = c.swap_remove.result in
    second_is_ledger cells c.requires x (index_there cells ledger_at x (ledger_within cells c.requires) c.swap_remove.ensures.value)

pub returns : goal.returns
returns c =
    let cells = c.args.finished.cells.items in
    let here = index_there cells ledger_at c.swap_remove.result (ledger_within cells c.requires) c.swap_remove.ensures.value in
    record {
      transcript = c.in_ok-transcript.ensures ∙ ap (λ (es : List SessionEnd). joined_each (c.args.finished.setup.entries ∷ map (λ e. e.entries) es)) c.deref.ensures.value;
      images = c.in_ok-images.ensures;
      bytes = subst (λ (cs : List KeptCell). AreImageBytes cs c.in_ok-image.image) c.deref-2.ensures.value c.in_ok-image.ensures.bytes;
      room = subst (λ (cs : List KeptCell). (stand : CellsStand cs) → JournalFitsFormat stand.hash cs) c.deref-2.ensures.value c.in_ok-image.ensures.room;
      there = here ∙ ap (λ (k : KeptCell). some k) (sym c.into_ledger-ledger.ensures);
    }
