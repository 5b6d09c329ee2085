-- Changes carried out one after another.
use Rattle.std.proofs.Common.{◌≡◌, ◌+◌, ℕ, refl, sym, ap, subst, ◌∙◌, List, [], ◌∷◌, length, arith}
use Rattle.std.specs.List.{AllByRecursion}
use Rattle.sql_types.specs.declared.change.Change.{Change}
use Rattle.sql_types.specs.declared.version.Version.{Version}
use Rattle.spec_model.specs.Changes.{changed, changed_all}
use Rattle.spec_model.specs.Runs.{MadeBefore}
use Rattle.law_frame.proofs.Sounds.{before_changed}

pub none_left : (tx seq : ℕ) (left : List Change) (vs : List Version) → length left ≡ 0 → vs ≡ changed_all tx seq left vs
unfolding changed_all
none_left tx seq [] vs none = refl
none_left tx seq (c ∷ cs) vs none = absurd (omega arith)

one_more : (tx seq : ℕ) (c : Change) (cs : List Change) (vs : List Version) → changed_all tx seq (c ∷ cs) vs ≡ changed_all tx (seq + 1) cs (changed (tx, seq) c vs)
unfolding changed_all
one_more tx seq c cs vs = refl

pub still_left : (tx seq : ℕ) (c : Change) (left rest : List Change) (vs ws : List Version) → left ≡ c ∷ rest → ws ≡ changed (tx, seq) c vs
    → (end : List Version) → changed_all tx seq left vs ≡ end → changed_all tx (seq + 1) rest ws ≡ end
still_left tx seq c left rest vs ws next made end before =
    ap (changed_all tx (seq + 1) rest) made
    ∙ sym (one_more tx seq c rest vs)
    ∙ ap (λ (cs : List Change). changed_all tx seq cs vs) (sym next)
    ∙ before

pub still_before : (tx seq : ℕ) (c : Change) (vs ws : List Version) → ws ≡ changed (tx, seq) c vs → AllByRecursion (MadeBefore tx seq) vs → AllByRecursion (MadeBefore tx (seq + 1)) ws
still_before tx seq c vs ws made h = subst (λ (us : List Version). AllByRecursion (MadeBefore tx (seq + 1)) us) (sym made) (before_changed tx seq c vs h)
