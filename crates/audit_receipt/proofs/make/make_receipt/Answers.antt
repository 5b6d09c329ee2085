use Rattle.std.proofs.Common.{◌≡◌, ◌∙◌, sym, ap, arith, Some, None}
use Rattle.std.specs.Option.{option_copied}
use Rattle.audit_receipt.specs.Made.{entry_of}
use Rattle.audit_receipt.proofs.Finding.{found, none_found}
use Rattle.audit_receipt.proofs.Spelled.{part_fits_at, is_made}
use Rattle.audit_receipt.proofs.make.make_receipt.Goals as goal

pub receipt_of-requires-clause-within : goal.receipt_of-requires-clause-within
receipt_of-requires-clause-within g c κs within =
    let at : entry_of c.args.tx c.args.block c.args.image.now.entries ≡ Some c.in-Some.entry.now = ap (entry_of c.args.tx c.args.block) (sym c.as_slice.ensures) ∙ sym c.entry_of.ensures ∙ ap option_copied c.in-Some.is in
    (found c.args.image.now.entries c.args.tx c.args.block c.in-Some.entry.now at).within

pub receipt_of-requires-clause-fit : goal.receipt_of-requires-clause-fit
receipt_of-requires-clause-fit g c κs within =
    let at : entry_of c.args.tx c.args.block c.args.image.now.entries ≡ Some c.in-Some.entry.now = ap (entry_of c.args.tx c.args.block) (sym c.as_slice.ensures) ∙ sym c.entry_of.ensures ∙ ap option_copied c.in-Some.is in
    let f = found c.args.image.now.entries c.args.tx c.args.block c.in-Some.entry.now at in
    let lt = c.requires.block in
    part_fits_at (g.H.Hash32.digest c.args.h) c.args.image.now c.requires.image c.requires.chain c.requires.blocks c.in-Some.entry.now.block (omega (arith, lt, f.within))

pub returns-in_ok-receipt-in-Some-clause-made : goal.returns-in_ok-receipt-in-Some-clause-made
returns-in_ok-receipt-in-Some-clause-made g c =
    let at : entry_of c.args.tx c.args.block c.args.image.now.entries ≡ Some c.in-Some.entry.now = ap (entry_of c.args.tx c.args.block) (sym c.as_slice.ensures) ∙ sym c.entry_of.ensures ∙ ap option_copied c.in-Some.is in
    is_made (g.H.Hash32.digest c.args.h) c.args.image.now c.requires.image c.requires.chain c.requires.blocks ((g.met.H.Hash32 g.world.𝓛 g.world.𝓜 g.world.𝓡 ((λ s x. x), (λ x. x), (λ x. x), λ x. x)).sized c.args.h) c.args.tx c.args.block c.in-Some.entry.now c.in_ok-receipt-in-Some.receipt c.requires.block at c.in_ok-receipt-in-Some.ensures

pub returns-in-None-clause-none : goal.returns-in-None-clause-none
returns-in-None-clause-none g c =
    let at : entry_of c.args.tx c.args.block c.args.image.now.entries ≡ None = ap (entry_of c.args.tx c.args.block) (sym c.as_slice.ensures) ∙ sym c.entry_of.ensures ∙ ap option_copied c.in-None.is in
    λ _. none_found c.args.image.now.entries c.args.tx c.args.block at
