-- Versions stay by rising start, change after change.
use Rattle.std.proofs.Common.{◌≡◌, ◌+◌, ℕ, refl, sym, ap, subst, ◌∙◌, List, [], ◌∷◌, length, false, arith}
use Rattle.std.specs.List.{AllByRecursion}
use Rattle.sql_value.specs.declared.column.TableKind.TheVariants.{AppendOnly}
use Rattle.sql_types.specs.declared.change.Change.{Change}
use Rattle.sql_types.specs.declared.version.Table.{Table}
use Rattle.sql_types.specs.declared.version.Version.{Version}
use Rattle.spec_model.specs.Changes.{changed, changed_all}
use Rattle.spec_model.specs.Runs.{MadeBefore, Rising, Sound, SoundTable}
use Rattle.law_frame.proofs.Sounds.{sound_changed}

-- versions before the event of transaction tx with the number seq
pub record AreBefore (tx seq : ℕ) (vs : List Version) : Type 0 where
  pub rising : Rising vs
  pub before : AllByRecursion (MadeBefore tx seq) vs

-- a table that has them
abbrev with_them : List Version → Table
with_them vs = record { def = record { id = 1; name = []; kind = AppendOnly; gone = false; history = []; view = []; columns = []; dropped = []; indexes = [] }; versions = vs }

changed_are_before : (tx seq : ℕ) (c : Change) (vs : List Version) → AreBefore tx seq vs → AreBefore tx (seq + 1) (changed (tx, seq) c vs)
changed_are_before tx seq c vs h =
    let one : Sound tx seq (with_them vs ∷ []) = record { ids = (refl, tt); each = (record { names = refl; rising = h.rising; before = h.before }, tt) } in
    let after : SoundTable tx (seq + 1) (with_them (changed (tx, seq) c vs)) = (sound_changed tx seq (1, c) (with_them vs ∷ []) one).each.0 in
    record { rising = after.rising; before = after.before }

pub none_left : (tx seq : ℕ) (left : List Change) (vs : List Version) → length left ≡ 0 → vs ≡ changed_all tx seq left vs
unfolding changed_all
none_left tx seq [] vs none = refl
none_left tx seq (c ∷ cs) vs none = absurd (omega arith)

one_more : (tx seq : ℕ) (c : Change) (cs : List Change) (vs : List Version) → changed_all tx seq (c ∷ cs) vs ≡ changed_all tx (seq + 1) cs (changed (tx, seq) c vs)
unfolding changed_all
one_more tx seq c cs vs = refl

module _ (tx seq : ℕ) (c : Change) (left rest : List Change) (vs ws : List Version) (next : left ≡ c ∷ rest) (made : ws ≡ changed (tx, seq) c vs) where
  pub still_left : (end : List Version) → changed_all tx seq left vs ≡ end → changed_all tx (seq + 1) rest ws ≡ end
  still_left end before =
      ap (changed_all tx (seq + 1) rest) made
      ∙ sym (one_more tx seq c rest vs)
      ∙ ap (λ cs. changed_all tx seq cs vs) (sym next)
      ∙ before

  pub before_still : AreBefore tx seq vs → AreBefore tx (seq + 1) ws
  before_still h = subst (AreBefore tx (seq + 1)) (sym made) (changed_are_before tx seq c vs h)
