-- What holds of a script that is begun is kept by each of its steps.
use Rattle.std.proofs.Common.{◌≡◌, ◌≤◌, ℕ, refl, sym, ap, subst, ◌∙◌, Bool, true, false, List, [], ◌∷◌, ◌++◌, arith}
use Rattle.std.specs.List.{AllByRecursion}
use Rattle.sql_types.specs.declared.statement.Stmt.{Stmt}
use Rattle.spec_model.specs.Catalog.{Tables}
use Rattle.spec_model.specs.Effect.{Effect, effect}
use Rattle.spec_model.specs.Reach.{creates}
use Rattle.spec_model.specs.Script.{Saved, by_effect}
use Rattle.spec_model.specs.Undo.{undone}
use Rattle.law_frame.proofs.Alls.{all_weaker, all_both}
use Rattle.law_frame.proofs.StepByStep.{with_copy, at_copy}
use Rattle.law_frame.proofs.UndoneScripts.{counter_rises}
use Rattle.law_frame.proofs.UndoneTables.{none_undone, statement_undone}
use Rattle.law_journal.specs.Kept.{Kept}
use Rattle.law_journal.specs.Described.{Described}
use Rattle.law_journal.proofs.Keeping.{statement_kept, statement_described}
use Rattle.sql_reference.specs.Machine.{Running}
use Rattle.sql_reference.specs.Order.{NeverRise, InScript}
use Rattle.sql_reference.proofs.UndoneTwice.{undone_twice}

-- ---- numbers that never rise

pub none_above : (n : ℕ) (cs : List Saved) → NeverRise n cs → AllByRecursion (λ c. c.seq ≤ n) cs
none_above n [] h = tt
none_above n (c ∷ cs) h = (h.0, all_weaker (λ d. d.seq ≤ c.seq) (λ d. d.seq ≤ n) (λ d le. omega (arith, le, h.0)) cs (none_above c.seq cs h.1))

never_from : (m n : ℕ) (cs : List Saved) → m ≤ n → NeverRise m cs → NeverRise n cs
never_from m n [] le h = tt
never_from m n (c ∷ cs) le h = (omega (arith, le, h.0), h.1)

never_behind : (n : ℕ) (front : List Saved) (c : Saved) (cs : List Saved) → NeverRise n (front ++ c ∷ cs) → NeverRise c.seq (c ∷ cs)
never_behind n [] c cs h = (omega arith, h.1)
never_behind n (d ∷ front) c cs h = never_behind d.seq front c cs h.1

-- ---- the back of a list

all_behind : {A : Type 0} (P : A → Type 0) (xs ys : List A) → AllByRecursion P (xs ++ ys) → AllByRecursion P ys
all_behind P [] ys h = h
all_behind P (x ∷ xs) ys h = all_behind P xs ys h.1

not_none : {A : Type 0} (xs : List A) (y : A) (ys : List A) → xs ++ y ∷ ys ≡ [] → ⊥
not_none [] y ys e = cc
not_none (x ∷ xs) y ys e = cc

-- ---- the steps

pub start_in : (tx : ℕ) (explicit : Bool) (T : Tables) → (place : ℕ → ℕ) × Kept place tx 0 T → Described T → InScript (record { tx = tx; explicit = explicit; state = record { tables = T; seq = 0; saved = [] } })
start_in tx explicit T k d = record { place = k.0; kept = k.1; described = d; copies = tt; copies_kept = tt; numbers = tt; alone = λ e. refl }

module _ (x : Running) (h : InScript x) where
  abbrev at_numbers : AllByRecursion (λ c. (c.seq ≤ x.state.seq) × (undone x.tx c.seq x.state.tables ≡ c.tables)) x.state.saved
  at_numbers = all_both (λ c. c.seq ≤ x.state.seq) (λ c. undone x.tx c.seq x.state.tables ≡ c.tables) x.state.saved (none_above x.state.seq x.state.saved h.numbers) h.copies

  pub change_in : (stmt : Stmt) → creates stmt ≡ false → InScript (record { tx = x.tx; explicit = x.explicit; state = (by_effect x.state (effect x.state.tables x.tx x.state.seq stmt)).0 })
  change_in stmt k =
      let T : Tables = x.state.tables in
      let e : Effect = effect T x.tx x.state.seq stmt in
      record {
        place = h.place;
        kept = statement_kept h.place x.tx x.state.seq T stmt h.kept h.described;
        described = statement_described h.place x.tx x.state.seq T stmt h.kept.sound.ids h.described;
        copies = all_weaker (λ c. (c.seq ≤ x.state.seq) × (undone x.tx c.seq T ≡ c.tables)) (λ c. undone x.tx c.seq e.tables ≡ c.tables)
            (λ c p. statement_undone x.tx c.seq x.state.seq T h.kept.sound p.0 stmt k ∙ p.1) x.state.saved at_numbers;
        copies_kept = h.copies_kept;
        numbers = never_from x.state.seq e.seq x.state.saved (counter_rises T x.tx x.state.seq stmt) h.numbers;
        alone = h.alone;
      }

  pub change_alone : (stmt : Stmt) → x.state.saved ≡ [] → InScript (record { tx = x.tx; explicit = x.explicit; state = (by_effect x.state (effect x.state.tables x.tx x.state.seq stmt)).0 })
  change_alone stmt none =
      let T : Tables = x.state.tables in
      let e : Effect = effect T x.tx x.state.seq stmt in
      record {
        place = h.place;
        kept = statement_kept h.place x.tx x.state.seq T stmt h.kept h.described;
        described = statement_described h.place x.tx x.state.seq T stmt h.kept.sound.ids h.described;
        copies = subst (λ (cs : List Saved). AllByRecursion (λ c. undone x.tx c.seq e.tables ≡ c.tables) cs) (sym none) tt;
        copies_kept = h.copies_kept;
        numbers = never_from x.state.seq e.seq x.state.saved (counter_rises T x.tx x.state.seq stmt) h.numbers;
        alone = h.alone;
      }

  pub save_in : (name : List ℕ) → x.explicit ≡ true → InScript (record { tx = x.tx; explicit = x.explicit; state = with_copy x.state name })
  save_in name o = record {
    place = h.place;
    kept = h.kept;
    described = h.described;
    copies = (none_undone x.tx x.state.seq x.state.tables h.kept.sound.each, h.copies);
    copies_kept = ((h.kept, h.described), h.copies_kept);
    numbers = (omega arith, h.numbers);
    alone = λ e. (let no : true ≡ false = sym o ∙ e in cc);
  }

  pub return_in : (front : List Saved) (c : Saved) (cs : List Saved) → x.state.saved ≡ front ++ c ∷ cs → InScript (record { tx = x.tx; explicit = x.explicit; state = at_copy c cs })
  return_in front c cs e =
      let T : Tables = x.state.tables in
      let numbers : NeverRise c.seq (c ∷ cs) = never_behind x.state.seq front c cs (subst (NeverRise x.state.seq) e h.numbers) in
      let copies : AllByRecursion (λ d. undone x.tx d.seq T ≡ d.tables) (c ∷ cs) = all_behind (λ d. undone x.tx d.seq T ≡ d.tables) front (c ∷ cs) (subst (λ (ds : List Saved). AllByRecursion (λ d. undone x.tx d.seq T ≡ d.tables) ds) e h.copies) in
      let both : AllByRecursion (λ d. Kept h.place x.tx d.seq d.tables × Described d.tables) (c ∷ cs) = all_behind (λ d. Kept h.place x.tx d.seq d.tables × Described d.tables) front (c ∷ cs) (subst (λ (ds : List Saved). AllByRecursion (λ d. Kept h.place x.tx d.seq d.tables × Described d.tables) ds) e h.copies_kept) in
      record {
        place = h.place;
        kept = both.0.0;
        described = both.0.1;
        copies = all_weaker (λ d. (d.seq ≤ c.seq) × (undone x.tx d.seq T ≡ d.tables)) (λ d. undone x.tx d.seq c.tables ≡ d.tables)
            (λ d p. ap (undone x.tx d.seq) (sym copies.0) ∙ undone_twice x.tx d.seq c.seq p.0 T ∙ p.1) (c ∷ cs)
            (all_both (λ d. d.seq ≤ c.seq) (λ d. undone x.tx d.seq T ≡ d.tables) (c ∷ cs) (none_above c.seq (c ∷ cs) numbers) copies);
        copies_kept = both;
        numbers = numbers;
        alone = λ o. absurd (not_none front c cs (sym e ∙ h.alone o));
      }
