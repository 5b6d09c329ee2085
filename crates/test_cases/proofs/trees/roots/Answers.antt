use Rattle.test_cases.proofs.trees.roots.Goals as goal

-- both trees hash by SHA-256, so the mark of the first is one of the second
pub push_all-requires-3-clause-before : goal.push_all-requires-3-clause-before
push_all-requires-3-clause-before c _ =
    let first = c.push_all.ensures.after in
    let second = c.push_all-2.ensures.after in
    let mark = c.save-mark.ensures first.0 first.1 first.2 in
    (second.0, first.1, c.restore.ensures second.0 second.1 first.1 second.2 mark)
