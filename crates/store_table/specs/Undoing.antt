-- What is still to be undone of a transaction.
use Rattle.std.specs.Prelude.{ℕ, ◌≡◌, ◌<◌, true, false, List, length, None, Some}
use Rattle.std.specs.List.{AllByRecursion, HoldsAt}
use Rattle.sql_types.specs.declared.version.Version.{Version}
use Rattle.spec_model.specs.Rows.{EventId}
use Rattle.spec_model.specs.Undo.{is_undone, end_left}

-- the version at this place has an end that is undone
pub record EndsUndone (tx seq : ℕ) (versions : List Version) (place : ℕ) : Type 0 where
  pub within : place < length versions
  pub end : EventId
  pub ended : HoldsAt (λ v. v.end ≡ Some end) versions place
  pub undone : is_undone tx seq end ≡ true

-- the version at this place has a start that is undone
pub record StartsUndone (tx seq : ℕ) (versions : List Version) (place : ℕ) : Type 0 where
  pub within : place < length versions
  pub undone : HoldsAt (λ v. is_undone tx seq v.start ≡ true) versions place

-- no end is undone, and no start
abbrev pub NoEndUndone : ℕ → ℕ → List Version → Type 0
NoEndUndone tx seq versions = AllByRecursion (λ v. end_left tx seq v.end ≡ v.end) versions

abbrev pub NoStartUndone : ℕ → ℕ → List Version → Type 0
NoStartUndone tx seq versions = AllByRecursion (λ v. is_undone tx seq v.start ≡ false) versions

abbrev pub without_end : Version → Version
without_end v = record { values = v.values; start = v.start; end = None }
