use Rattle.std.proofs.Common.{ℕ, ◌∙◌, ◌++◌, ◌∷◌, [], List, None, Some, ap, sym, append-nil}
use Rattle.spec_protocol.specs.Seats.{KeptImage}
use Rattle.server_visits.proofs.Keeping.{keeps_none}
use Rattle.server_engine.proofs.session.keep_behind.Goals as goal

pub returns-in-Some-clause-kept : goal.returns-in-Some-clause-kept
returns-in-Some-clause-kept g c =
    let bytes = c.in-Some.bytes in record {
      image = Some bytes;
      keeps = c.in-Some.ensures.visits;
      stays = c.in-Some.ensures.stays;
      images = c.push_reserved.ensures.items
          ∙ ap (λ (all : List KeptImage). all ++ (c.args.items, bytes) ∷ []) c.reserve.ensures.items
          ∙ ap (λ (n : ℕ). c.args.images.now.items ++ (n, bytes) ∷ []) c.requires.items;
    }

pub returns-in-Err-clause-kept : goal.returns-in-Err-clause-kept
returns-in-Err-clause-kept g c = record {
  image = None;
  keeps = keeps_none g.H.Hash32.digest c.args.seat.now c.lack_image.new.self c.args.cells.now c.lack_image.ensures.steps;
  stays = c.lack_image.ensures.stays;
  images = c.reserve.ensures.items ∙ sym (append-nil c.args.images.now.items);
}
