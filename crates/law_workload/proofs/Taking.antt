-- A journal whose sessions' transactions are their statements takes turns.
use Rattle.std.proofs.Common.{◌≡◌, ◌<◌, ℕ, suc, Bool, true, false, List, [], ◌∷◌, length, codes, refl, ap, subst, arith, inl, inr}
use Rattle.std.specs.Fmt.{digits}
use Rattle.std.specs.List.{AllByRecursion}
use Rattle.std.proofs.lemmas.Bool.{eqb-true}
use Rattle.sql_types.specs.JournalRules.{ItemRules, is_alone}
use Rattle.sql_types.specs.declared.journal.JournalItem.{JournalItem}
use Rattle.sql_types.specs.declared.journal.JournalItem.TheVariants.{Tx, Close}
use Rattle.spec_model.specs.Journals.{Line}
use Rattle.spec_history.specs.Lists.{Text, Each, Some_of}
use Rattle.spec_history.specs.Agree.{Placed, IsOneOfTheirs}
use Rattle.workload_generator.specs.Workload.{session_name}
use Rattle.law_workload.specs.Turns.{Turns, over, closes, sets_up, first, second, third, fourth}
use Rattle.law_workload.specs.Input.{workload_input}
use Rattle.law_workload.proofs.Entries.{IsFine}
use Rattle.law_workload.proofs.Committed.{AllAre}
use Rattle.law_workload.proofs.Counting.{picks, above}
use Rattle.law_workload.proofs.Sessions.{Before}

-- ---- one transaction

-- of one statement alone, with its reply
abbrev IsAlone : Text → Bool → List Line → Type 0
IsAlone text explicit script = (explicit ≡ false) × (reply : Text) × (script ≡ (text, reply) ∷ [])

one_line : (explicit : Bool) (script : List Line) → is_alone explicit script ≡ true → explicit ≡ false → length script ≡ 1
one_line true script e not_opened = cc
one_line false script e not_opened = eqb-true (length script) 1 e

alone : (text : Text) (explicit : Bool) (script : List Line) → IsFine text explicit script → is_alone explicit script ≡ true → IsAlone text explicit script
alone text explicit script (e, inl none) rule = absurd (omega (arith, one_line explicit script rule e, ap length none))
alone text explicit script (e, inr (reply, is)) rule = (e, reply, is)

-- ---- the sessions

none_left : (texts : List Text) → AllAre texts [] → texts ≡ []
none_left [] h = refl
none_left (text ∷ texts) h = absurd h

-- the transactions of a session are these statements, and none comes before one of the setup
pub record Held (S : List Placed) (texts : List Text) (ps : List Placed) : Type 0 where
  pub are : AllAre texts ps
  pub before : Before S ps

-- the next one of a session: nothing is left of the setup
record Turned (s : List Text) (S : List Placed) (texts : List Text) (p : Placed) (ps : List Placed) : Type 0 where
  none : s ≡ []
  text : Text
  rest : List Text
  is : texts ≡ text ∷ rest
  explicit : p.explicit ≡ false
  reply : Text
  script : p.script ≡ (text, reply) ∷ []
  set_up : AllAre [] S
  held : Held S rest ps

turned : (s : List Text) (S : List Placed) (texts : List Text) (p : Placed) (ps : List Placed) → AllAre s S → Held S texts (p ∷ ps) → Each (λ z. p.place < z.place) S
    → is_alone p.explicit p.script ≡ true → Turned s S texts p ps
turned s (z ∷ S) texts p ps a h later rule = absurd (omega (arith, h.before.0.0, later.0))
turned (text ∷ s) [] texts p ps a h later rule = absurd a
turned [] [] [] p ps a h later rule = absurd h.are
turned [] [] (text ∷ rest) p ps a h later rule =
    let line = alone text p.explicit p.script h.are.0 rule in
    record { none = refl; text = text; rest = rest; is = refl; explicit = line.0; reply = line.1; script = line.2; set_up = tt; held = record { are = h.are.1; before = tt } }

-- what is said of it where nothing is left of the setup
said_so : (T : List Text → List Text → Bool → List Line → Type 0) (s texts : List Text) (explicit : Bool) (script : List Line) (text reply : Text) (rest : List Text)
    → s ≡ [] → texts ≡ text ∷ rest → explicit ≡ false → script ≡ (text, reply) ∷ [] → T [] (text ∷ rest) false ((text, reply) ∷ []) → T s texts explicit script
said_so T s texts explicit script text reply rest none is alone line h = rw (none, is, alone, line) h

-- the setup has one less
fewer : (p : Placed) (S : List Placed) (texts : List Text) (ps : List Placed) → Held (p ∷ S) texts ps → Held S texts ps
fewer p S texts ps h = record { are = h.are; before = h.before.1 }

abbrev setup_name : Text
setup_name = codes "setup"

-- what is left of the setup and of the sessions
pub record Left (s a b c d : List Text) (S A B C D : List Placed) : Type 0 where
  pub setup : AllAre s S
  pub first : Held S a A
  pub second : Held S b B
  pub third : Held S c C
  pub fourth : Held S d D

-- ---- all of them

-- behind n transactions these items are such turns
abbrev Takes : ℕ → List JournalItem → Type 0
Takes n is = (s a b c d : List Text)
    → Left s a b c d (picks setup_name n is) (picks (session_name 1) n is) (picks (session_name 2) n is) (picks (session_name 3) n is) (picks (session_name 4) n is)
    → Turns s a b c d is

module _ (n id time : ℕ) (explicit : Bool) (script : List Line) (rule : is_alone explicit script ≡ true) (is : List JournalItem) (rec : Takes (suc n) is) where
  abbrev item : Text → JournalItem
  item session = Tx id session time explicit script

  abbrev here : Placed
  here = record { place = suc n; id = id; explicit = explicit; script = script }

  later : Each (λ z. suc n < z.place) (picks setup_name (suc n) is)
  later = above setup_name (suc n) (suc n) is (omega arith)

  of_setup : Takes n (item setup_name ∷ is)
  unfolding digits
  of_setup [] a b c d left = absurd left.setup
  of_setup (text ∷ s) a b c d left =
      let line = alone text explicit script left.setup.0 rule in
      let S = picks setup_name (suc n) is in
      let rest = rec s a b c d (record {
        setup = left.setup.1;
        first = fewer here S a (picks (session_name 1) (suc n) is) left.first;
        second = fewer here S b (picks (session_name 2) (suc n) is) left.second;
        third = fewer here S c (picks (session_name 3) (suc n) is) left.third;
        fourth = fewer here S d (picks (session_name 4) (suc n) is) left.fourth;
      }) in
      rw (line.0, line.2) (sets_up id setup_name time text line.1 rest)

  of_first : Takes n (item (session_name 1) ∷ is)
  unfolding digits
  of_first s a b c d left =
      let t = turned s (picks setup_name (suc n) is) a here (picks (session_name 1) (suc n) is) left.setup left.first later rule in
      let rest = rec [] t.rest b c d (record { setup = t.set_up; first = t.held; second = left.second; third = left.third; fourth = left.fourth }) in
      said_so (λ z y o l. Turns z y b c d (Tx id (session_name 1) time o l ∷ is)) s a explicit script t.text t.reply t.rest t.none t.is t.explicit t.script
      (first id (session_name 1) time t.text t.reply rest)

  of_second : Takes n (item (session_name 2) ∷ is)
  unfolding digits
  of_second s a b c d left =
      let t = turned s (picks setup_name (suc n) is) b here (picks (session_name 2) (suc n) is) left.setup left.second later rule in
      let rest = rec [] a t.rest c d (record { setup = t.set_up; first = left.first; second = t.held; third = left.third; fourth = left.fourth }) in
      said_so (λ z y o l. Turns z a y c d (Tx id (session_name 2) time o l ∷ is)) s b explicit script t.text t.reply t.rest t.none t.is t.explicit t.script
      (second id (session_name 2) time t.text t.reply rest)

  of_third : Takes n (item (session_name 3) ∷ is)
  unfolding digits
  of_third s a b c d left =
      let t = turned s (picks setup_name (suc n) is) c here (picks (session_name 3) (suc n) is) left.setup left.third later rule in
      let rest = rec [] a b t.rest d (record { setup = t.set_up; first = left.first; second = left.second; third = t.held; fourth = left.fourth }) in
      said_so (λ z y o l. Turns z a b y d (Tx id (session_name 3) time o l ∷ is)) s c explicit script t.text t.reply t.rest t.none t.is t.explicit t.script
      (third id (session_name 3) time t.text t.reply rest)

  of_fourth : Takes n (item (session_name 4) ∷ is)
  unfolding digits
  of_fourth s a b c d left =
      let t = turned s (picks setup_name (suc n) is) d here (picks (session_name 4) (suc n) is) left.setup left.fourth later rule in
      let rest = rec [] a b c t.rest (record { setup = t.set_up; first = left.first; second = left.second; third = left.third; fourth = t.held }) in
      said_so (λ z y o l. Turns z a b c y (Tx id (session_name 4) time o l ∷ is)) s d explicit script t.text t.reply t.rest t.none t.is t.explicit t.script
      (fourth id (session_name 4) time t.text t.reply rest)

  -- it is of one of the sessions
  of_one : (rows : ℕ) (session : Text) → Some_of (λ t. t.name ≡ session) (workload_input rows) → Takes n (item session ∷ is)
  of_one rows session (inl e) = subst (λ name. Takes n (item name ∷ is)) e of_setup
  of_one rows session (inr (inl e)) = subst (λ name. Takes n (item name ∷ is)) e of_first
  of_one rows session (inr (inr (inl e))) = subst (λ name. Takes n (item name ∷ is)) e of_second
  of_one rows session (inr (inr (inr (inl e)))) = subst (λ name. Takes n (item name ∷ is)) e of_third
  of_one rows session (inr (inr (inr (inr (inl e))))) = subst (λ name. Takes n (item name ∷ is)) e of_fourth
  of_one rows session (inr (inr (inr (inr (inr h))))) = absurd h

nothing_left : (n : ℕ) → Takes n []
nothing_left n s a b c d left =
    rw (none_left s left.setup, none_left a left.first.are, none_left b left.second.are, none_left c left.third.are, none_left d left.fourth.are) over

pub takes_turns : (rows n : ℕ) (is : List JournalItem) → Each (IsOneOfTheirs (workload_input rows)) is → AllByRecursion ItemRules is → Takes n is
takes_turns rows n [] theirs rules = nothing_left n
takes_turns rows n (Close k ∷ is) theirs rules = λ s a b c d left. closes k (takes_turns rows n is theirs.1 rules.1 s a b c d left)
takes_turns rows n (Tx id session time explicit script ∷ is) theirs rules =
    of_one n id time explicit script rules.0.alone is (takes_turns rows (suc n) is theirs.1 rules.1) rows session theirs.0
