-- What was put and written, where it is made as another.
use Rattle.std.proofs.Common.{◌≡◌, ℕ, List, Option, subst}
use Rattle.base_io.specs.Store.{Names}
use Rattle.cli_audit.specs.declared.files.File.{File}
use Rattle.cli_audit.specs.declared.status.Status.{Status}
use Rattle.cli_audit.specs.Answer.{HasPut, HasWritten}

-- what was put is what the run puts
pub put_is : (status : Status) (made files : List File) (old new : Option Names) → made ≡ files → HasPut status made old new → HasPut status files old new
put_is status made files old new is put = let P : List File → Type 0 = λ x. HasPut status x old new in subst P is put

pub written_is : (status : Status) (made text : List ℕ) (old new : Option (List ℕ)) → made ≡ text → HasWritten status made old new → HasWritten status text old new
written_is status made text old new is written = let P : List ℕ → Type 0 = λ x. HasWritten status x old new in subst P is written
