use Rattle.std.proofs.Common.{List, ℕ, map, length, sym, Bor}
use Rattle.std.proofs.lemmas.List.{length-map}
use Rattle.format_lines.specs.Line.{seen}
use Rattle.format_lines.specs.Sessions.{sessions_of}
use Rattle.server_engine.specs.Starts.{past_in}
use Rattle.server_result.specs.Moments.{said_with}
use Rattle.server_step.specs.Reached.{asked}
use Rattle.server_step.proofs.Ends.{has_run, is_done, still_stands}
use Rattle.server_step.proofs.Named.{borrowed_formed, lines_named, sessions_formed}
use Rattle.server_step.proofs.running.run_to_the_end.Goals as goal

pub open_sessions-requires-clause-begins : goal.open_sessions-requires-clause-begins
open_sessions-requires-clause-begins g c κs within =
    let past = past_in c.args.cells.items in
    let d = c.args.how.database.now in
    let size = c.args.how.block_size in
    (c.args.hasher, past, d, size, c.over-core.ensures d size past c.requires.starts)

pub open_sessions-requires-clause-names : goal.open_sessions-requires-clause-names
open_sessions-requires-clause-names g c κs within =
    let statements = map seen c.args.lines.now in
    borrowed_formed c.args.sessions.now (sessions_of statements) c.requires.sessions (sessions_formed c.args.lines.now c.requires.names (c.sessions_law.ensures.of_statements statements))

pub run_each-requires-clause-begins : goal.run_each-requires-clause-begins
run_each-requires-clause-begins g c κs within =
    let past = past_in c.args.cells.items in
    let d = c.args.how.database.now in
    let size = c.args.how.block_size in
    let h = c.args.hasher in
    (h, past, d, size, c.in_ok-open_sessions.ensures.stands h past d size (c.over-core.ensures d size past c.requires.starts))

pub run_each-requires-clause-named : goal.run_each-requires-clause-named
run_each-requires-clause-named g c κs within =
    lines_named c.args.lines.now (map (λ (n : Bor (List ℕ)). n.now) c.args.sessions.now) c.requires.sessions (c.sessions_law.ensures.named (map seen c.args.lines.now))

pub end_sessions-requires-clause-standing : goal.end_sessions-requires-clause-standing
end_sessions-requires-clause-standing g c κs within =
    let ss = map seen c.args.lines.now in
    let names = map (λ (n : Bor (List ℕ)). n.now) c.args.sessions.now in
    let says = said_with c.args.how.clock (g.C.Clock.says c.args.clock.now) in
    let past = past_in c.args.cells.items in
    let d = c.args.how.database.now in
    let size = c.args.how.block_size in
    let h = c.args.hasher in
    let reached = c.in_ok-run_each.ensures.reached h past d size (c.in_ok-open_sessions.ensures.stands h past d size (c.over-core.ensures d size past c.requires.starts)) in
    still_stands g.H.Hash32.digest h past d size names says ss c.run_each.new.core reached

pub into_parts-requires-after_bounds : goal.into_parts-requires-after_bounds
into_parts-requires-after_bounds g c κs within =
    let ss = map seen c.args.lines.now in
    let names = map (λ (n : Bor (List ℕ)). n.now) c.args.sessions.now in
    let past = past_in c.args.cells.items in
    let d = c.args.how.database.now in
    let size = c.args.how.block_size in
    let h = c.args.hasher in
    let reached = c.in_ok-run_each.ensures.reached h past d size (c.in_ok-open_sessions.ensures.stands h past d size (c.over-core.ensures d size past c.requires.starts)) in
    let a = asked past d size names ss reached.times in
    is_done g.H.Hash32.digest h a c.end_sessions.new.core (length c.args.sessions.now) (sym (length-map c.args.sessions.now (λ (n : Bor (List ℕ)). n.now)))
    (c.end_sessions.ensures.stands h a reached.stands) c.end_sessions.ensures.ended

pub returns : goal.returns
returns g c =
    let ss = map seen c.args.lines.now in
    let names = map (λ (n : Bor (List ℕ)). n.now) c.args.sessions.now in
    let says = said_with c.args.how.clock (g.C.Clock.says c.args.clock.now) in
    let past = past_in c.args.cells.items in
    let d = c.args.how.database.now in
    let size = c.args.how.block_size in
    let h = c.args.hasher in
    let reached = c.in_ok-run_each.ensures.reached h past d size (c.in_ok-open_sessions.ensures.stands h past d size (c.over-core.ensures d size past c.requires.starts)) in
    has_run g.H.Hash32.digest h past d size says ss names c.run_each.new.core c.end_sessions.new.core c.into_parts.result
    c.requires.sessions c.requires.database
    (sessions_formed c.args.lines.now c.requires.names (c.sessions_law.ensures.of_statements ss))
    reached (c.end_sessions.ensures.stands h (asked past d size names ss reached.times) reached.stands) c.into_parts.ensures
