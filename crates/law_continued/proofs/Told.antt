-- The history that is told from a journal, of which words are asked only where an id was assigned.
use Rattle.std.proofs.Common.{◌≡◌, ℕ, ◌<◌, ◌≤◌, List, [], ◌∷◌, refl, sym, subst₂, ⊎_elim, arith}
use Rattle.std.proofs.lemmas.Bool.{cases_lt}
use Rattle.sql_types.specs.declared.journal.JournalItem.{JournalItem}
use Rattle.sql_types.specs.declared.journal.JournalItem.TheVariants.{Tx, Close}
use Rattle.spec_model.specs.Journals.{IsLegal}
use Rattle.spec_model.specs.Script.{Reading}
use Rattle.spec_history.specs.Guards.{Good}
use Rattle.spec_history.specs.Lists.{Each, Text}
use Rattle.spec_history.specs.Worlds.{first}
use Rattle.spec_protocol.specs.Server.{Server}
use Rattle.law_retold.specs.Retold.{AreWords, CanBeRetold, LeadsTo, Words, retold}
use Rattle.law_retold.proofs.Tellings.{all_goes, leads}

-- without an id there is no item
none_there : (reads : Reading) (J : List JournalItem) (count : ℕ) → count ≡ 0 → IsLegal reads J → Each (CanBeRetold reads count) J → J ≡ []
none_there reads [] count e legal may = refl
none_there reads (Tx id session time explicit lines ∷ J) count e legal may = absurd (let some = may.0.some in let most = may.0.most in omega (arith, e, some, most))
none_there reads (Close k ∷ J) count e legal may = absurd (let some = legal.0.0 in let most = legal.0.2 in omega (arith, some, most))

nothing_told : (c : Words) → LeadsTo c [] 0 []
nothing_told c = record {
  items = refl;
  next = refl;
  issued = refl;
  over = λ n l. absurd (omega (arith, l));
  free = λ n l. absurd (omega (arith, l));
  names = λ n l. absurd (omega (arith, l));
  no_others = λ n l. (refl, refl);
  keeps_none = λ n. tt;
  drew = λ n l. absurd (omega (arith, l));
}

module _ (v : Server) (c : Words) (database : Text) (J : List JournalItem) (count : ℕ) (words : 1 ≤ count → AreWords v.reads c) (legal : IsLegal v.reads J) (may : Each (CanBeRetold v.reads count) J) where
  pub good : Good v.meaning database first (retold v.reads c J count)
  good = ⊎_elim
      (λ (l : 0 < count). (all_goes v.reads v.hashing v.meaning v.real c (words (omega (arith, l))) database J count legal may).good)
      (λ l. let zero : count ≡ 0 = omega (arith, l) in
      subst₂ (λ (K : List JournalItem) (k : ℕ). Good v.meaning database first (retold v.reads c K k)) (sym (none_there v.reads J count zero legal may)) (sym zero) tt)
      (cases_lt 0 count)

  pub to : LeadsTo c J count (retold v.reads c J count)
  to = ⊎_elim
      (λ (l : 0 < count). leads v.reads v.hashing v.meaning v.real c (words (omega (arith, l))) database J count legal may)
      (λ l. let zero : count ≡ 0 = omega (arith, l) in
      subst₂ (λ (K : List JournalItem) (k : ℕ). LeadsTo c K k (retold v.reads c K k)) (sym (none_there v.reads J count zero legal may)) (sym zero) (nothing_told c))
      (cases_lt 0 count)
