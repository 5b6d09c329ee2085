use Rattle.std.proofs.Common.{◌≡◌, ◌∙◌, map, Result, Err, ap, sym, arith}
use Rattle.std.proofs.lemmas.List.{map_push}
use Rattle.std.proofs.lemmas.Result.{err_from_is_err_and}
use Rattle.format_sections.specs.Kind.{kinds_of}
use Rattle.format_sections.specs.RunSections.{section_view}
use Rattle.format_sections.specs.UnreadInput.{behind_setup, setup_at}
use Rattle.format_sections.proofs.Reached.{begun, grown}
use Rattle.format_sections.proofs.Sizes.{all_sections, size_begun, size_more}
use Rattle.format_sections.proofs.Whole.{finished, refused, names_read}
use Rattle.format_sections.proofs.all_sections.read_run_sections.Goals as goal

err_inside : {T E : Type 0} (r : Result T E) (e f : E) → r ≡ Err e → r ≡ Err f → e ≡ f
err_inside r e f is told = cc

pub loop-rest-init : goal.loop-rest-init
loop-rest-init c =
    let setup = map (λ t. t.now) c.in_ok-setup.setup.items in
    let none = ap (map section_view) c.new-sessions.ensures.items in (
      begun (kinds_of c.args.input.now) (kinds_of c.in_ok-setup.behind.bytes.now) setup (map section_view c.new-sessions.result.items) c.in_ok-names.names
          (c.in_ok-setup.ensures.behind ∙ ap behind_setup c.behind_skipped.ensures.behind) (c.in_ok-setup.ensures.statements ∙ ap setup_at c.behind_skipped.ensures.behind) none c.in_ok-names.ensures,
      omega (arith, c.in_ok-setup.ensures.before, c.behind_skipped.ensures.before),
      omega (arith, c.in_ok-setup.ensures.within, c.behind_skipped.ensures.within),
      size_begun c.in_ok-setup.setup.items (map section_view c.new-sessions.result.items) c.behind_skipped.result.before c.in_ok-setup.behind.before none c.in_ok-setup.ensures.count,
    )

pub returns-in_err-session-clause-form : goal.returns-in_err-session-clause-form
returns-in_err-session-clause-form c = λ line told.
    let p = err_from_is_err_and c.from_residual-in_err-session.result c.from_residual-in_err-session.ensures.1 in
    let same : c.from_residual-in_err-session.result ≡ Err c.in_err-session.field-0.0 = p.1 ∙ ap Err p.2 in
    let lacks = c.in_err-session.ensures.form line (ap Err (err_inside c.from_residual-in_err-session.result _ _ same told)) in
    let setup = map (λ t. t.now) c.in_ok-setup.setup.items in
    let sessions = map section_view c.loop-rest.sessions.items in
    rw lacks.0 (refused c.args.input.now c.loop-rest.rest.bytes.now setup sessions c.loop-rest.names c.loop-rest.rest.before c.loop-rest.invariant.0 lacks.1 lacks.2 c.loop-rest.invariant.1)

pub loop-rest-preserved : goal.loop-rest-preserved
loop-rest-preserved c =
    let setup = map (λ t. t.now) c.in_ok-setup.setup.items in
    let sessions = map section_view c.loop-rest.sessions.items in
    let session = section_view c.in_ok-session.session in
    let pushed = ap (map section_view) c.in_ok-push.ensures.items ∙ map_push section_view c.loop-rest.sessions.items c.in_ok-session.session in (
      grown (kinds_of c.args.input.now) (kinds_of c.loop-rest.rest.bytes.now) (kinds_of c.in_ok-session.behind.bytes.now) setup sessions (map section_view c.push.new.self.items) session c.loop-rest.names c.read_section.new.names
          c.loop-rest.invariant.0 c.in_ok-session.ensures.head c.in_ok-session.ensures.statements c.in_ok-session.ensures.behind c.in_ok-session.ensures.added pushed,
      c.in_ok-session.ensures.before ∙ c.loop-rest.invariant.1,
      omega (arith, c.in_ok-session.ensures.within, c.loop-rest.invariant.2),
      size_more setup sessions (map section_view c.push.new.self.items) c.in_ok-session.session c.loop-rest.rest.before c.in_ok-session.behind.before pushed c.loop-rest.invariant.3 c.in_ok-session.ensures.count,
    )

pub returns-clause-read : goal.returns-clause-read
returns-clause-read c =
    let setup = map (λ t. t.now) c.in_ok-setup.setup.items in
    finished c.args.input.now c.loop-rest.rest.bytes.now setup (map section_view c.loop-rest.sessions.items) c.loop-rest.names c.loop-rest.invariant.0 (sym c.is_empty.ensures ∙ c.loop-rest-test.false)

pub returns-clause-names : goal.returns-clause-names
returns-clause-names c =
    let setup = map (λ t. t.now) c.in_ok-setup.setup.items in
    let sessions = map section_view c.loop-rest.sessions.items in
    (names_read c.args.input.now (all_sections setup sessions) (finished c.args.input.now c.loop-rest.rest.bytes.now setup sessions c.loop-rest.names c.loop-rest.invariant.0 (sym c.is_empty.ensures ∙ c.loop-rest-test.false))).0

pub returns-clause-apart : goal.returns-clause-apart
returns-clause-apart c =
    let setup = map (λ t. t.now) c.in_ok-setup.setup.items in
    let sessions = map section_view c.loop-rest.sessions.items in
    (names_read c.args.input.now (all_sections setup sessions) (finished c.args.input.now c.loop-rest.rest.bytes.now setup sessions c.loop-rest.names c.loop-rest.invariant.0 (sym c.is_empty.ensures ∙ c.loop-rest-test.false))).1
