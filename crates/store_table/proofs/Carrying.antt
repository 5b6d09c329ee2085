-- Changes are carried out, one after another.
use Rattle.std.proofs.Common.{◌≡◌, ◌<◌, ◌≤◌, ◌+◌, ◌^◌, ℕ, refl, sym, ap, subst, ◌∙◌, List, [], ◌∷◌, length, arith}
use Rattle.std.specs.List.{AllByRecursion}
use Rattle.sql_types.specs.declared.version.Version.{Version}
use Rattle.spec_model.specs.Changes.{Change, changed, changed_all}
use Rattle.spec_model.specs.Runs.{MadeBefore}
use Rattle.law_frame.proofs.Sounds.{before_changed}
use Rattle.store_table.specs.Stored.{Stored, ReservedTable, with_versions}
use Rattle.store_table.proofs.Keeping.{follows_on}

-- so far, with these changes left
pub record Carrying (tx seq number : ℕ) (changes rest : List Change) (was now : ReservedTable) : Type 0 where
  pub stored : now.stored ≡ with_versions was.stored.key now.stored.versions was.stored
  pub left : changed_all tx number rest now.stored.versions ≡ changed_all tx seq changes was.stored.versions
  pub before : AllByRecursion (MadeBefore tx number) now.stored.versions
  pub numbers : number + length rest < 2 ^ 64
  pub few : length changes ≤ was.room
  pub room : was.room + length rest ≤ now.room + length changes

pub carrying_first : (tx seq : ℕ) (changes : List Change) (was : ReservedTable) → was.stored ≡ with_versions was.stored.key was.stored.versions was.stored
    → AllByRecursion (MadeBefore tx seq) was.stored.versions → seq + length changes < 2 ^ 64 → length changes ≤ was.room
    → Carrying tx seq seq changes changes was was
carrying_first tx seq changes was follows before numbers room = record { stored = follows; left = refl; before = before; numbers = numbers; few = room; room = omega arith }

module _ (tx seq number : ℕ) (changes left rest : List Change) (c : Change) (was now : ReservedTable) (next : left ≡ c ∷ rest) (h : Carrying tx seq number changes left was now) where
  longer : length left ≡ length rest + 1
  longer = ap length next ∙ omega arith

  pub some_room : 1 ≤ now.room
  some_room = let f = h.few in let r = h.room in omega (arith, longer, f, r)

  pub some_number : number + 1 < 2 ^ 64
  some_number = let r = h.numbers in omega (arith, longer, r)

  pub carrying_one : (new : ReservedTable) → new.stored ≡ with_versions now.stored.key (changed (tx, number) c now.stored.versions) now.stored → now.room ≤ new.room + 1
      → Carrying tx seq (number + 1) changes rest was new
  unfolding changed_all
  carrying_one new stored room =
      let versions : new.stored.versions ≡ changed (tx, number) c now.stored.versions = ap (λ (s : Stored). s.versions) stored in
      let there = h.room in
      let few = h.numbers in
      record {
        stored = follows_on was.stored now.stored new.stored (changed (tx, number) c now.stored.versions) h.stored stored;
        left = ap (changed_all tx (number + 1) rest) versions ∙ ap (λ (l : List Change). changed_all tx number l now.stored.versions) (sym next) ∙ h.left;
        before = subst (AllByRecursion (MadeBefore tx (number + 1))) (sym versions) (before_changed tx number c now.stored.versions h.before);
        numbers = omega (arith, longer, few);
        few = h.few;
        room = omega (arith, longer, there, room);
      }

none_left : (tx number : ℕ) (rest : List Change) (vs : List Version) → length rest ≡ 0 → vs ≡ changed_all tx number rest vs
unfolding changed_all
none_left tx number [] vs e = refl
none_left tx number (c ∷ cs) vs e = absurd (omega (arith, e))

pub carried : (tx seq number : ℕ) (changes rest : List Change) (was now : ReservedTable) → length rest ≡ 0 → Carrying tx seq number changes rest was now
    → now.stored ≡ with_versions was.stored.key (changed_all tx seq changes was.stored.versions) was.stored
carried tx seq number changes rest was now none h =
    h.stored ∙ ap (λ (l : List Version). with_versions was.stored.key l was.stored) (none_left tx number rest now.stored.versions none ∙ h.left)

pub room_left : (tx seq number : ℕ) (changes rest : List Change) (was now : ReservedTable) → length rest ≡ 0 → Carrying tx seq number changes rest was now
    → was.room ≤ now.room + length changes
room_left tx seq number changes rest was now none h = let r = h.room in omega (arith, none, r)
