use Rattle.std.proofs.Common.{rules, ◌≡◌, ◌<◌, ◌∙◌, suc, sym, subst, drop, length, map, List, get_or, arith}
use Rattle.std.proofs.lemmas.List.{get_or_default}
use Rattle.std.specs.Prelude.{slice_set}
use Rattle.server_engine.specs.Written.{texts_shown}
use Rattle.server_engine.specs.declared.session.Session.{Session}
use Rattle.server_engine.proofs.LastLines.{AreWhole, all_whole, as_many, none_whole, one_whole, put_back}
use Rattle.server_engine.proofs.parts.write_last_lines.Goals as goal

pub loop-session-init : goal.loop-session-init
loop-session-init g c = subst (λ now. AreWhole 0 c.args.sessions.now.items now) (sym c.deref_mut-session-items.ensures.value)
    (none_whole c.args.sessions.now.items)

pub loop-session-preserved : goal.loop-session-preserved
loop-session-preserved g c =
    let items = c.loop-session.session-items in
    let at = c.loop-session.session-index in
    let inside : at < length items = search rules in
    let x = get_or items at c.session-item.result in
    let z = c.write_last.new.self in
    subst (λ n. AreWhole n c.args.sessions.now.items (slice_set items at z)) {x = suc at} (omega arith)
    (one_whole at c.args.sessions.now.items items x z inside
    (get_or_default items at c.session-item.result x inside)
    (record { entries = c.in_ok-write_last.ensures.entries; images = c.write_last.ensures.images })
    c.loop-session.invariant)

pub returns-clause-entries : goal.returns-clause-entries
returns-clause-entries g c =
    let was = c.args.sessions.now.items in
    let items = c.loop-session.session-items in
    put_back (λ (l : List (Session g.row.H.Denot)). map (λ y. y.entries) l ≡ map texts_shown was) c.args.sessions.now.len
    items (drop (length items) was)
    (c.args.sessions.now.ok.0 ∙ sym (as_many c.loop-session.session-index was items c.loop-session.invariant))
    (all_whole c.loop-session.session-index was items (search rules) c.loop-session.invariant).0

pub returns-clause-images : goal.returns-clause-images
returns-clause-images g c =
    let was = c.args.sessions.now.items in
    let items = c.loop-session.session-items in
    put_back (λ (l : List (Session g.row.H.Denot)). map (λ y. y.images) l ≡ map (λ y. y.images) was) c.args.sessions.now.len
    items (drop (length items) was)
    (c.args.sessions.now.ok.0 ∙ sym (as_many c.loop-session.session-index was items c.loop-session.invariant))
    (all_whole c.loop-session.session-index was items (search rules) c.loop-session.invariant).1
