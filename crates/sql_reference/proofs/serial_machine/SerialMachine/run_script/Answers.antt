use Rattle.std.proofs.Common.{ap, length, ◌∙◌, sym, map}
use Rattle.spec_model.specs.Script.{script as script_of}
use Rattle.sql_parse.specs.Text.{reading_of}
use Rattle.sql_reference.specs.RunEnd.{left_by}
use Rattle.sql_reference.proofs.Differences.{at, newly, begun_newly, moved_on, some_script, none_else, judged_differing, judged_ended}
use Rattle.sql_reference.proofs.serial_machine.SerialMachine.run_script.Goals as goal

pub returns-in-Some-clause-end : goal.returns-in-Some-clause-end
returns-in-Some-clause-end c =
    let T = c.args.self.now.tables in
    let begun = begun_newly c.begin.new.self c.args.tx c.args.explicit T c.begin.ensures.script in
    let o = script_of (reading_of c.args.version) c.args.explicit T c.args.tx (map (λ l. l.0) c.args.script.now) in
    let found = c.in_ok-statement.ensures.difference (newly c.args.tx c.args.explicit T) begun in
    sym (judged_differing c.args.tx c.args.script.now o c.in-Some.statement (sym found ∙ c.in-Some.is))

pub end-requires-clause-begun : goal.end-requires-clause-begun
end-requires-clause-begun c =
    let T = c.args.self.now.tables in
    let x = newly c.args.tx c.args.explicit T in
    let begun = begun_newly c.begin.new.self c.args.tx c.args.explicit T c.begin.ensures.script in
    let o = script_of (reading_of c.args.version) c.args.explicit T c.args.tx (map (λ l. l.0) c.args.script.now) in
    let went = c.in_ok-statement.ensures.script x begun (none_else c.in_ok-statement.field-0 c.in_default.not-Some) in
    some_script c.first_difference.new.self (at x o.state) (moved_on c.first_difference.new.self c.begin.new.self x o.state went)

pub returns-clause-end : goal.returns-clause-end
returns-clause-end c =
    let T = c.args.self.now.tables in
    let x = newly c.args.tx c.args.explicit T in
    let begun = begun_newly c.begin.new.self c.args.tx c.args.explicit T c.begin.ensures.script in
    let o = script_of (reading_of c.args.version) c.args.explicit T c.args.tx (map (λ l. l.0) c.args.script.now) in
    let none = none_else c.in_ok-statement.field-0 c.in_default.not-Some in
    let went = c.in_ok-statement.ensures.script x begun none in
    let events = c.in_ok-events.ensures.events (at x o.state) (moved_on c.first_difference.new.self c.begin.new.self x o.state went) in
    let same = ap (left_by (length c.args.script.now)) (c.as_slice.ensures ∙ events) in
    c.left_by.ensures ∙ same ∙ sym (judged_ended c.args.tx c.args.script.now o (sym (c.in_ok-statement.ensures.difference x begun) ∙ none))

pub returns-clause-tables : goal.returns-clause-tables
returns-clause-tables c = λ agrees.
    let T = c.args.self.now.tables in
    let x = newly c.args.tx c.args.explicit T in
    let begun = begun_newly c.begin.new.self c.args.tx c.args.explicit T c.begin.ensures.script in
    let o = script_of (reading_of c.args.version) c.args.explicit T c.args.tx (map (λ l. l.0) c.args.script.now) in
    let went = c.in_ok-statement.ensures.script x begun (none_else c.in_ok-statement.field-0 c.in_default.not-Some) in
    c.in_ok-events.ensures.tables (at x o.state) (moved_on c.first_difference.new.self c.begin.new.self x o.state went)
