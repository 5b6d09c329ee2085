-- What is put and written of a run of an input.
use Rattle.std.specs.Prelude.{◌≡◌, ◌<◌, ◌^◌, ℕ, List, [], ◌∷◌, ◌++◌, codes, map, Ok}
use Rattle.std.specs.Fmt.{decimal}
use Rattle.std.specs.List.{AllByRecursion}
use Rattle.spec_history.specs.Lists.{Each}
use Rattle.format_journal.specs.Rules.{IsJournal}
use Rattle.format_digest.specs.Reading.{IsRead}
use Rattle.format_digest.specs.Writing.{HasMoments, IsFile, held_form}
use Rattle.format_lines.specs.Line.{Statement}
use Rattle.format_lines.specs.Sessions.{sessions_of}
use Rattle.format_sections.specs.RunSections.{RunSections}
use Rattle.spec_protocol.specs.Seats.{KeptImage}
use Rattle.server_step.specs.Came.{Run, CameTo}
use Rattle.server_result.specs.Images.{ItemsRise}
use Rattle.server_result.specs.Moments.{said_with}
use Rattle.server_step.specs.RunOutcome.{IsRunOutcome}
use Rattle.server_result.specs.declared.ran.RunOutcome.{RunOutcome as Output}
use Rattle.workload_run.specs.Agreed.{RunResult}
use Rattle.workload_run.specs.CameTo as all
use Rattle.workload_run.specs.CameTo.{IsOf}
use Rattle.cli_words.specs.Commands.{Settings}
use Rattle.cli_audit.specs.declared.files.File.{File}
use Rattle.cli_audit.specs.Files.{image_file, journal_file}
use Rattle.cli_commands.specs.Input.{InputForm, Says}

-- ---- files

-- NAME-m.img has the image of the first m items
abbrev pub cut_name : List ℕ → ℕ → List ℕ
cut_name save items = save ++ codes "-" ++ decimal items ++ codes ".img"

abbrev pub cut_file : List ℕ → KeptImage → File
cut_file save k = record { name = cut_name save k.0; bytes = k.1 }

-- NAME.digests has the digests
abbrev pub digests_name : List ℕ → List ℕ
digests_name save = save ++ codes ".digests"

abbrev pub digests_file : List ℕ → List ℕ → File
digests_file save bytes = record { name = digests_name save; bytes = bytes }

-- what is saved of a run under a name, in the order in which it is put; the digests have these bytes
abbrev pub saved_files : List ℕ → Output → List ℕ → List File
saved_files save o digests = map (cut_file save) o.images
    ++ image_file save o.image
    ∷ digests_file save digests
    ∷ journal_file save o.journal
    ∷ []

-- ---- the run

-- The lines came to this by these settings, where the clock says such moments.
pub record LinesComeTo (h : List ℕ → List ℕ) (how : Settings) (clock : ℕ → Type 0)
    (statements : List Statement) (o : Output) : Type 0 where
  pub run : Run
  pub came : CameTo h how.database how.block_size (said_with how.clock clock) statements run
  pub is : IsRunOutcome h (sessions_of statements) run o

-- The same of sections, whose sessions were run side by side.
pub record SectionsComeTo (h : List ℕ → List ℕ) (how : Settings) (clock : ℕ → Type 0)
    (all_sections : RunSections) (o : Output) : Type 0 where
  pub left : RunResult
  pub came : all.CameTo h how.database how.block_size (said_with how.clock clock) all_sections left
  pub is : IsOf h all_sections left o

-- What the input says, which has this form and its limits, came to this.
pub record IsRun {A : Type 0} (form : InputForm A) (comes_to : A → Output → Type 0) (bytes : List ℕ)
    (o : Output) : Type 0 where
  pub said : A
  pub within : Says form bytes said
  pub came : comes_to said o

-- It has a spelling, and no two of its images are of one number of items, which 8 bytes can tell.
pub record IsSavable (o : Output) : Type 0 where
  pub journal : IsJournal o.journal
  pub digests : AllByRecursion HasMoments o.digests
  pub numbers : Each (λ k. k.0 < 2 ^ 64) o.images
  pub rise : ItemsRise o.images

-- the files of what the code has of a run
pub record AreSaved (save : List ℕ) (o : Output) (made : List File) : Type 0 where
  pub digests : List ℕ
  pub file : IsFile o.digests digests
  pub read_back : IsRead digests (Ok (map held_form o.digests))
  pub files : made ≡ saved_files save o digests
