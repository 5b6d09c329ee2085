use Rattle.std.proofs.Common.{◌≡◌, refl, subst, length, arith}
use Rattle.spec_syntax.specs.Text.{statement_of}
use Rattle.server_session.specs.Steps.{Begins}
use Rattle.server_engine.proofs.Calls.{last_open, last_others}
use Rattle.server_engine.proofs.Ends.{session_count, session_stands}
use Rattle.server_visits.proofs.Servers.{some_server}
use Rattle.server_engine.proofs.one_thread.Core.open_session.Goals as goal

pub returns-clause-stands : goal.returns-clause-stands
returns-clause-stands g c = λ h a m.
    let y = c.new_session.result in
    let is = c.new_session.ensures in
    let v = some_server (g.H.Hash32.digest h) statement_of in
    session_stands g.H.Hash32.digest h a c.args.self.now m c.args.name y
    (λ w s present rests. subst (λ x. Begins g.H.Hash32.digest x w c.args.name s y.seat) m.hasher (is.begins w s present rests))
    is.between is.name is.entries is.answer is.last is.images v.0 v.1 _ refl refl c.in_ok-push.ensures.items

pub returns-clause-number : goal.returns-clause-number
returns-clause-number g c = λ h a m.
    let e = c.len-number.ensures in let ok = c.args.self.now.sessions.ok in
    let n = session_count g.H.Hash32.digest h a c.args.self.now m in omega (arith, e, ok, n)

pub returns-clause-open : goal.returns-clause-open
returns-clause-open g c =
    let e = c.len-number.ensures in let ok = c.args.self.now.sessions.ok in
    last_open c.args.self.now.sessions.items c.push.new.self.items c.new_session.result c.len-number.result c.in_ok-push.ensures.items
    (let n : c.len-number.result ≡ length c.args.self.now.sessions.items = omega (arith, e, ok) in n) c.new_session.ensures.between

pub returns-clause-others : goal.returns-clause-others
returns-clause-others g c =
    let e = c.len-number.ensures in let ok = c.args.self.now.sessions.ok in
    last_others c.args.self.now.sessions.items c.push.new.self.items c.new_session.result c.len-number.result c.in_ok-push.ensures.items
    (let n : c.len-number.result ≡ length c.args.self.now.sessions.items = omega (arith, e, ok) in n)
