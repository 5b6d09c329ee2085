use Rattle.std.proofs.Common.{◌≡◌, ℕ, List, ap₂, ◌∙◌}
use Rattle.sql_types.specs.declared.journal.JournalItem.{JournalItem}
use Rattle.spec_model.specs.Script.{Reading}
use Rattle.spec_ledger.specs.Ledger.{block_hash}
use Rattle.format_image.specs.Image.{image_of}
use Rattle.format_image.specs.ImageBytes.{image_bytes}
use Rattle.spec_protocol.specs.Server.{Server, journal_image}
use Rattle.spec_protocol.specs.Serves.{Serves}
use Rattle.law_server.proofs.laws.such_a_server_hashes_and_keeps_so.Goals as goal

images : (h : List ℕ → List ℕ) (reads : Reading) (v : Server) → Serves h reads v → (database : List ℕ) (J : List JournalItem) → journal_image v database J ≡ image_bytes (image_of h reads database J)
unfolding journal_image
images h reads v s database J = ap₂ (λ (g : List ℕ → List ℕ) (r : Reading). image_bytes (image_of g r database J)) s.hash s.reading

pub returns : goal.returns
returns c = record {
  blocks = λ h reads v s J b. v.hashes J b ∙ ap₂ (λ (g : List ℕ → List ℕ) (r : Reading). block_hash g r J b) s.hash s.reading;
  images = images;
}
