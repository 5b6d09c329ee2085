use Rattle.base_io.proofs.Places.{none_found, within_found, place_found}
use Rattle.base_io.proofs.mem_vault.place_of.Goals as goal

pub returns : goal.returns
returns c = record {
  none = none_found c.args.name.now c.args.entries.now c.position_of.result c.position_of.ensures;
  within = within_found c.args.name.now c.args.entries.now c.position_of.result c.position_of.ensures;
  place = place_found c.args.name.now c.args.entries.now c.position_of.result c.position_of.ensures;
}
