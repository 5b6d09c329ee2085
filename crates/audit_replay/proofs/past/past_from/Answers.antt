use Rattle.std.proofs.Common.{◌∙◌, ◌++◌, refl, replicate, sym, ap, subst, suc, List}
use Rattle.std.specs.List.{AllByRecursion}
use Rattle.sql_types.specs.declared.journal.JournalItem.{JournalItem}
use Rattle.sql_types.specs.declared.journal.JournalItem.TheVariants.{Close}
use Rattle.sql_types.specs.JournalRules.{ItemRules}
use Rattle.spec_model.specs.Lists.{greatest}
use Rattle.spec_history.specs.Journals.{ids_of}
use Rattle.spec_ledger.specs.Ledger.{Ledger}
use Rattle.spec_syntax.specs.Text.{statement_of}
use Rattle.store_blocks.specs.Closings.{closed_by}
use Rattle.audit_replay.specs.GoesOn.{Led}
use Rattle.audit_replay.proofs.Onward.{all_closings, led_placed}
use Rattle.audit_replay.proofs.Steps.{rules_of}
use Rattle.audit_replay.proofs.past.past_from.Goals as goal

pub next_id-next-requires : goal.next_id-next-requires
next_id-next-requires g c = subst (AllByRecursion ItemRules) (sym (c.deref.ensures.value ∙ c.into_vec-items.ensures)) (rules_of c.args.journal c.requires.journal).each

pub close_full-requires-clause-placed : goal.close_full-requires-clause-placed
close_full-requires-clause-placed g c κs within =
    led_placed (g.H.Hash32.digest c.args.h) statement_of c.args.journal.items c.args.again.ledger_chain.ledger c.requires.leads.ledger

pub returns-in-Ok : goal.returns-in-Ok
returns-in-Ok g c =
    let h = g.H.Hash32.digest c.args.h in
    let J = c.args.journal in
    let size = c.args.block_size in
    let again = c.args.again in
    let led : Led h statement_of J.items again.tables.items again.ledger_chain.ledger =
    record { legal = c.requires.leads.legal; rules = (rules_of J c.requires.journal).each; inside = c.requires.inside; tables = c.requires.leads.tables; ledger = c.requires.leads.ledger } in
    let closes = c.in-Ok.ensures.closes in
    let items = closes.items ∙ ap (λ (l : List JournalItem). l ++ replicate closes.count (Close size)) c.into_vec-items.ensures in
    let all : Led h statement_of (J.items ++ replicate closes.count (Close size)) again.tables.items (closed_by h closes.count size again.ledger_chain.ledger) =
    all_closings h statement_of closes.count size J.items again.tables.items again.ledger_chain.ledger c.requires.some c.requires.most closes.full led in
    record {
      database = refl;
      named = c.requires.journal.database;
      count = closes.count;
      items = items;
      next = c.next_id-next.ensures.next ∙ ap (λ (l : List JournalItem). suc (greatest (ids_of l))) (c.deref.ensures.value ∙ c.into_vec-items.ensures);
      most = c.next_id-next.ensures.most;
      led = subst (λ (l : Ledger). Led h statement_of c.close_full.new.items.items again.tables.items l) (sym closes.ledger)
          (subst (λ (l : List JournalItem). Led h statement_of l again.tables.items (closed_by h closes.count size again.ledger_chain.ledger)) (sym items) all);
      hash = c.in-Ok.ensures.hash;
      few = c.in-Ok.ensures.few;
    }
