-- The images that were written are those of the journal, and the transcripts show them.
use Rattle.std.proofs.Common.{◌≡◌, ℕ, List, [], ◌∷◌, length, map, flat_map, refl, sym, ap, ap₂, ◌∙◌, arith}
use Rattle.std.proofs.lemmas.List.{take_all}
use Rattle.sql_types.specs.declared.journal.JournalItem.{JournalItem}
use Rattle.spec_model.specs.Journals.{cut}
use Rattle.spec_model.specs.Script.{Reading}
use Rattle.spec_history.specs.Facts.{Fact, facts_of}
use Rattle.spec_history.specs.Lists.{Text, Each}
use Rattle.spec_history.specs.Meaning.{Meaning}
use Rattle.spec_history.specs.Transcripts.{Transcript}
use Rattle.spec_history.proofs.Trace.{each_weaker}
use Rattle.format_image.specs.Image.{image_of}
use Rattle.format_image.specs.ImageBytes.{image_bytes}
use Rattle.spec_protocol.specs.AtTheEnd.{HasItsImages, image_items}
use Rattle.spec_protocol.specs.Cells.{LedgerCell}
use Rattle.spec_protocol.specs.Seats.{KeptImage, Written}
use Rattle.spec_protocol.specs.Server.{Server, journal_image}
use Rattle.spec_protocol.specs.TranscriptsAgree.{IsImage}
use Rattle.spec_protocol.specs.Serves.{Serves}
use Rattle.law_kept_images.specs.SessionOutput.{IsImageOf}
use Rattle.law_kept_images.specs.Wrote.{transcripts_in}

module _ (h : List ℕ → List ℕ) (reads : Reading) (database : Text) (v : Server) (s : Serves h reads v) (l : LedgerCell) (of_database : l.database ≡ database) where
  bytes_of : (J : List JournalItem) → journal_image v l.database J ≡ image_bytes (image_of h reads database J)
  unfolding journal_image
  bytes_of J = ap₂ (λ (g : List ℕ → List ℕ) (rd : Reading). image_bytes (image_of g rd l.database J)) s.hash s.reading ∙ ap (λ (d : Text). image_bytes (image_of h reads d J)) of_database

  one_image : (k : KeptImage) → IsImage v l k → IsImageOf h reads database l.items k
  one_image k i = record { within = i.within; bytes = i.bytes ∙ bytes_of (cut l.items k.0) }

  pub all_images : (ws : List Written) → Each (HasItsImages v l) ws → Each (λ kept. Each (IsImageOf h reads database l.items) kept) (map (λ w. w.images) ws)
  all_images [] e = tt
  all_images (w ∷ ws) e = (each_weaker (IsImage v l) (IsImageOf h reads database l.items) one_image w.images e.0.each, all_images ws e.1)

-- by any meaning that shows the same facts
pub all_shown : (v : Server) (l : LedgerCell) (q : Meaning) → ((x : Transcript) → facts_of v.meaning x ≡ facts_of q x) → (ws : List Written) → Each (HasItsImages v l) ws
    → map (λ kept. map (λ k. k.0) kept) (map (λ w. w.images) ws) ≡ map (λ x. flat_map image_items (facts_of q x)) (transcripts_in ws)
all_shown v l q same [] e = refl
all_shown v l q same (w ∷ ws) e = ap₂ (λ (n : List ℕ) (ns : List (List ℕ)). n ∷ ns) (e.0.shown ∙ ap (λ (gs : List Fact). flat_map image_items gs) (same w.transcript)) (all_shown v l q same ws e.1)

-- the image of the whole journal is that of the cut of all its items
pub whole_image : (h : List ℕ → List ℕ) (reads : Reading) (database : Text) (J : List JournalItem) → IsImageOf h reads database J (length J, image_bytes (image_of h reads database J))
whole_image h reads database J = record {
  within = omega arith;
  bytes = ap (λ (K : List JournalItem). image_bytes (image_of h reads database K)) (sym (take_all (length J) J (omega arith)));
}
