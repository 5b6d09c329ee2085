use Rattle.std.proofs.Common.{None, Some, List, refl, sym, ap, subst, ◌∙◌}
use Rattle.sql_types.specs.declared.digest.Digest.{Digest}
use Rattle.sql_types.specs.declared.journal.Journal.{Journal}
use Rattle.spec_history.specs.Lists.{Text}
use Rattle.spec_syntax.specs.Text.{statement_of}
use Rattle.spec_protocol.specs.Seats.{KeptImage}
use Rattle.format_lines.specs.Sessions.{sessions_of}
use Rattle.spec_history.specs.Inputs.{sessions_in}
use Rattle.law_headline.specs.OutcomeBehind.{RunAgreesBehind}
use Rattle.law_headline.specs.LastImage.{last_image_bytes}
use Rattle.law_headline.specs.SessionOutput.{RunAgrees}
use Rattle.law_headline.specs.Before.{InOneOrder, InOrderOfLines}
use Rattle.law_headline.specs.BeforeBehind.{InOneOrderBehind, InOrderOfLinesBehind}
use Rattle.law_headline.specs.Headline.{Headline}
use Rattle.law_headline.specs.HeadlineBehind.{HeadlineBehind}
use Rattle.cli_commands.specs.PastCells.{past_seen}
use Rattle.law_commands.specs.Runs.{input_of, lines_of}
use Rattle.law_commands.proofs.Put.{moved}
use Rattle.law_commands.proofs.values.saved_files_keep_the_headline.Goals as goal

pub returns : goal.returns
returns g c =
    let law = c.saved_images_are_serial_and_tamper_evident.ensures in
    let law_behind = c.saved_images_behind_a_past_are_serial_and_tamper_evident.ensures in
    record {
      step = λ h how clock statements o came.
          let run = came.run in
          let names = sessions_of statements in
          let lines = lines_of statements in (
            came.is.image ∙ ap (last_image_bytes h) (sym came.is.journal),
            moved (λ (images : List KeptImage) (J : Journal) (G : List Digest). Headline h (sessions_in lines names) None
                (InOrderOfLines how.block_size lines run.X J.items) (record { X = run.X; images = images; J = J; G = G })) run.images run.J run.G o
                came.is.images came.is.journal came.is.digests
                (law.one_thread h how.block_size names lines run.X run.kept run.images run.J run.G
                (subst (λ (D : Text). RunAgrees h statement_of D how.block_size names lines run.X run.kept run.J.items run.G) (sym came.came.of_database) came.came.agrees)
                came.came.legal came.is.has_room came.came.saved),
          );
      run = λ h how clock all_sections o came.
          let left = came.left in (
            came.is.image ∙ ap (last_image_bytes h) (sym came.is.journal),
            moved (λ (images : List KeptImage) (J : Journal) (G : List Digest). Headline h (input_of all_sections) (Some 0)
                (InOneOrder left.X J.items) (record { X = left.X; images = images; J = J; G = G })) o.images left.J left.G o
                refl came.is.journal came.is.digests
                (law.side_by_side h how.database how.block_size how.clock clock (input_of all_sections) left o.images
                came.came came.is.has_room came.is.images),
          );
      step_behind = λ h how clock J statements o came.
          let run = came.run in
          let past = past_seen came.past in
          let names = sessions_of statements in
          let lines = lines_of statements in (
            came.is.image ∙ ap (last_image_bytes h) (sym came.is.journal),
            moved (λ (images : List KeptImage) (J : Journal) (G : List Digest). HeadlineBehind h past (sessions_in lines names) None
                (InOrderOfLinesBehind how.block_size past lines run.X J.items) (record { X = run.X; images = images; J = J; G = G })) run.images run.J run.G o
                came.is.images came.is.journal came.is.digests
                (law_behind.one_thread h how.block_size past names lines run.X run.kept run.images run.J run.G
                (subst (λ (D : Text). RunAgreesBehind h statement_of D how.block_size past names lines run.X run.kept run.J.items run.G) (sym came.came.of_database) came.came.agrees)
                came.came.legal came.is.has_room came.came.saved),
          );
      run_behind = λ h how clock J all_sections o came.
          let left = came.left in
          let past = past_seen came.past in (
            came.is.image ∙ ap (last_image_bytes h) (sym came.is.journal),
            moved (λ (images : List KeptImage) (J : Journal) (G : List Digest). HeadlineBehind h past (input_of all_sections) (Some 0)
                (InOneOrderBehind past left.X J.items) (record { X = left.X; images = images; J = J; G = G })) o.images left.J left.G o
                refl came.is.journal came.is.digests
                (law_behind.side_by_side h J.database how.block_size past how.clock clock (input_of all_sections) left o.images
                came.came came.is.has_room came.is.images),
          );
    }
