-- What comes behind the history that is told from a journal may happen where a database goes on that has it.
use Rattle.std.proofs.Common.{ℕ, ◌+◌, List, ◌++◌, sym, subst, arith}
use Rattle.sql_types.specs.declared.journal.JournalItem.{JournalItem}
use Rattle.spec_model.specs.Journals.{IsLegal}
use Rattle.spec_model.specs.Script.{Reading}
use Rattle.spec_history.specs.Acts.{Act}
use Rattle.spec_history.specs.Guards.{Good}
use Rattle.spec_history.specs.Lists.{Text, Each}
use Rattle.spec_history.specs.Meaning.{Meaning}
use Rattle.spec_history.specs.Real.{Hashing, IsReal}
use Rattle.spec_history.specs.Worlds.{World, first, run}
use Rattle.spec_history.proofs.Cuts.{good_append, run_append}
use Rattle.law_behind.specs.Forgotten.{IsWithout, without}
use Rattle.law_behind.specs.Past.{behind}
use Rattle.law_behind.proofs.Forgotten.{forgotten}
use Rattle.law_retold.specs.Retold.{AreWords, CanBeRetold, LeadsTo, Words, past_of, retold}
use Rattle.law_retold.proofs.Tellings.{leads}

module _ (reads : Reading) (h : Hashing) (q : Meaning) (real : IsReal reads h q) (c : Words) (words : AreWords reads c) (db : Text) (J : List JournalItem) (count : ℕ) (legal : IsLegal reads J) (may : Each (CanBeRetold reads count) J) where
  abbrev told : List Act
  told = retold reads c J count

  to : LeadsTo c J count told
  to = leads reads h q real c words db J count legal may

  pub goes_on_so : IsWithout count (run first told) (behind (past_of J count))
  goes_on_so = record {
    items = sym to.items;
    next = sym to.next;
    issued = sym to.issued;
    at = λ n. sym (to.no_others (count + n) (omega arith)).0;
    over = to.over;
    free = to.free;
  }

  pub alone : (since : List Act) → Good q db first (told ++ since) → Good q db (behind (past_of J count)) (without count since) × IsWithout count (run first (told ++ since)) (run (behind (past_of J count)) (without count since))
  alone since good =
      let parts = good_append q db first told since good in
      let rest = forgotten q db count since (run first told) (behind (past_of J count)) goes_on_so parts.1 in
      (rest.0, subst (λ (w : World). IsWithout count w (run (behind (past_of J count)) (without count since))) (sym (run_append first told since)) rest.1)
