use Rattle.std.proofs.Common.{◌∙◌, ◌++◌, List, refl, ap}
use Rattle.spec_protocol.specs.Seats.{KeptImage}
use Rattle.server_session.specs.Steps.{image_in, images_kept, items_in}
use Rattle.server_engine.proofs.session.Session.keep_image.Goals as goal

pub returns-clause-kept : goal.returns-clause-kept
returns-clause-kept g c =
    let k = c.keep_behind.ensures.kept in record {
      image = k.image;
      keeps = k.keeps;
      stays = k.stays;
      entries = refl;
      answer = refl;
      last = refl;
      images = c.from_vec.ensures ∙ k.images
          ∙ ap (λ (all : List KeptImage). all ++ images_kept (image_in (items_in c.args.cells.now) k.image))
          (c.into_vec-images.ensures ∙ c.replace.ensures.value);
    }
