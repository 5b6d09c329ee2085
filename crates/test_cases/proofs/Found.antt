-- What was read can be written.
use Rattle.std.proofs.Common.{◌≡◌, ℕ, List, Option, Some, None, IfSome}
use Rattle.sql_types.specs.declared.entry.TxEntry.{TxEntry}
use Rattle.sql_types.specs.declared.event.Event.{Event}
use Rattle.sql_types.specs.declared.image.Image.{Image}
use Rattle.sql_types.specs.declared.journal.Journal.{Journal}
use Rattle.format_entry.specs.Entry.{IsEntry, entry_bytes}
use Rattle.format_image.specs.ImageBytes.{IsImage, IsSpellingOf}
use Rattle.format_journal.specs.Journal.{journal_bytes}
use Rattle.format_journal.specs.Rules.{IsJournal}
use Rattle.format_event.specs.Leaf.{IsEvent, HasLeaf, event_bytes}
use Rattle.format_event.proofs.Leaves.{leaf_again}

pub has_leaf : (bytes : List ℕ) (found : Option Event) → IfSome found (λ e. IsEvent e × (bytes ≡ event_bytes e))
    → IfSome found (λ e. HasLeaf e)
has_leaf bytes None _ = tt
has_leaf bytes (Some e) is = leaf_again e is.0

pub is_entry : (bytes : List ℕ) (found : Option TxEntry) → IfSome found (λ e. IsEntry e × (bytes ≡ entry_bytes e))
    → IfSome found (λ e. IsEntry e)
is_entry bytes None _ = tt
is_entry bytes (Some e) is = is.0

pub is_journal : (bytes : List ℕ) (found : Option Journal)
    → IfSome found (λ j. IsJournal j × (bytes ≡ journal_bytes j)) → IfSome found (λ j. IsJournal j)
is_journal bytes None _ = tt
is_journal bytes (Some j) is = is.0

pub is_image : (bytes : List ℕ) (found : Option Image) → IfSome found (λ i. IsImage i × IsSpellingOf bytes i)
    → IfSome found (λ i. IsImage i)
is_image bytes None _ = tt
is_image bytes (Some i) is = is.0
