use Rattle.std.proofs.Common.{◌≡◌, ℕ, List, map, sym, subst}
use Rattle.std.specs.List.{AllByRecursion}
use Rattle.spec_model.specs.Catalog.{versions_of}
use Rattle.spec_model.specs.Journals.{upto, serial}
use Rattle.spec_model.specs.Lists.{is_among}
use Rattle.format_image.specs.Rows.{filled_version, table_rows}
use Rattle.spec_asof.specs.DatabaseAt.{versions_at}
use Rattle.law_asof.proofs.Told.{all_left, first_are}
use Rattle.law_asof.proofs.laws.images_tell_earlier_versions.Goals as goal

pub returns : goal.returns
returns c = λ h reads database items n legal.
    subst (λ (ids : List ℕ). AllByRecursion (λ t. versions_at (is_among ids) (table_rows t) ≡ map (filled_version t.def.columns) (versions_of (serial reads (upto items n)) t.def.id)) (serial reads items))
    (sym (first_are h reads database items n legal)) (all_left reads items legal n)
