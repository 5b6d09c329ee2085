use Rattle.std.proofs.Common.{◌≡◌, ◌∙◌, ◌+◌, refl, sym, ap, ◌∷◌, drop}
use Rattle.std.proofs.lemmas.List.{drop_more, drop_all}
use Rattle.sql_parse.specs.Text.{reading_of}
use Rattle.sql_reference.proofs.Differences.{at, sets_out, begun_here, all_agree, all_went, first_differs, moves_along}
use Rattle.sql_reference.proofs.serial_machine.SerialMachine.first_difference.Goals as goal

pub loop-place-init : goal.loop-place-init
loop-place-init c = (c.requires.order, c.requires.begun, λ x e. sets_out (reading_of c.args.version) c.args.self.now x c.args.script.now e)

pub returns-then-not-branch-clause-difference : goal.returns-then-not-branch-clause-difference
returns-then-not-branch-clause-difference c = λ x e.
    let lines = c.args.script.now in
    let n = c.loop-place.place in
    let line = c.index-script-place.result in
    let a = c.loop-place.invariant.2 x e in
    let rest : drop n lines ≡ line ∷ drop (n + 1) lines = drop_more lines n line c.loop-place-test.true ∙ ap (λ l. l ∷ drop (n + 1) lines) (sym c.index-script-place.is) in
    let same = c.in_ok-agrees_with.ensures.reply (at x a.state) (begun_here (reading_of c.args.version) c.args.self.now x lines n c.loop-place.self a) in
    sym (first_differs (reading_of c.args.version) c.args.self.now x lines n c.loop-place.self a line (drop (n + 1) lines) rest (sym same ∙ c.if-not-branch.true))

pub loop-place-preserved : goal.loop-place-preserved
loop-place-preserved c = (
  c.in_ok-agrees_with.ensures.order,
  c.in_ok-agrees_with.ensures.begun,
  λ x e.
      let lines = c.args.script.now in
      let n = c.loop-place.place in
      let line = c.index-script-place.result in
      let a = c.loop-place.invariant.2 x e in
      let rest : drop n lines ≡ line ∷ drop (n + 1) lines = drop_more lines n line c.loop-place-test.true ∙ ap (λ l. l ∷ drop (n + 1) lines) (sym c.index-script-place.is) in
      let here = begun_here (reading_of c.args.version) c.args.self.now x lines n c.loop-place.self a in
      let same = c.in_ok-agrees_with.ensures.reply (at x a.state) here in
      let step = c.in_ok-agrees_with.ensures.script (at x a.state) here in
      moves_along (reading_of c.args.version) c.args.self.now x lines n c.loop-place.self a line (drop (n + 1) lines) rest c.agrees_with.new.self step (sym same ∙ c.if-not-branch.false) refl,
)

pub returns-clause-difference : goal.returns-clause-difference
returns-clause-difference c = λ x e.
    let a = c.loop-place.invariant.2 x e in
    sym (all_agree (reading_of c.args.version) c.args.self.now x c.args.script.now c.loop-place.place c.loop-place.self a (drop_all c.loop-place.place c.args.script.now c.loop-place-test.false))

pub returns-clause-script : goal.returns-clause-script
returns-clause-script c = λ x e none.
    let a = c.loop-place.invariant.2 x e in
    all_went (reading_of c.args.version) c.args.self.now x c.args.script.now c.loop-place.place c.loop-place.self a (drop_all c.loop-place.place c.args.script.now c.loop-place-test.false)
