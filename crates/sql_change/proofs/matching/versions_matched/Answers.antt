use Rattle.std.proofs.Common.{rules, subst, IfErr, Err, ◌≡◌, ◌≢◌}
use Rattle.sql_value.specs.declared.refusal.Refusal.TheVariants.{NoMemory}
use Rattle.sql_change.proofs.Matched.{matched_is}
use Rattle.sql_change.proofs.matching.versions_matched.Goals as goal

pub returns-clause-err : goal.returns-clause-err
returns-clause-err g c = subst (λ w. IfErr c.matched.result (λ e. e ≢ NoMemory → w ≡ Err e))
    (matched_is c.args.table.now c.args.cond.now (g.R.LiveVersions.versions c.args.versions.now) _ _ _ (search rules) (search rules) (search rules)) c.matched.ensures.err
