-- The transactions of a journal by the names of sessions.
use Rattle.std.proofs.Common.{◌≡◌, ◌<◌, ◌≤◌, ℕ, suc, Bool, true, false, List, [], ◌∷◌, length, map, sym, ap, arith, inl, inr}
use Rattle.std.specs.Prelude.{if◌then◌else◌}
use Rattle.std.specs.Str.{bytes_eq}
use Rattle.std.proofs.lemmas.Slice.Eq.{bytes_eq-Decides}
use Rattle.sql_types.specs.declared.journal.JournalItem.{JournalItem}
use Rattle.sql_types.specs.declared.journal.JournalItem.TheVariants.{Tx, Close}
use Rattle.spec_model.specs.Journals.{Line, tx_count}
use Rattle.spec_history.specs.Lists.{Text, Each, Some_of, sum}
use Rattle.spec_history.specs.Inputs.{InputSession}
use Rattle.spec_history.specs.Agree.{Placed, picked, IsOneOfTheirs}

-- those with this session's name; n come before
abbrev pub picks : Text → ℕ → List JournalItem → List Placed
picks name n J = picked (λ id session. bytes_eq session name) n J

-- where it is picked or not, behind these
abbrev maybe_picked : Bool → Placed → List Placed → List Placed
maybe_picked b p ps = if b then p ∷ ps else ps

above_one : (b : Bool) (m : ℕ) (p : Placed) (ps : List Placed) → m < p.place → Each (λ r. m < r.place) ps → Each (λ r. m < r.place) (maybe_picked b p ps)
above_one true m p ps h k = (h, k)
above_one false m p ps h k = k

-- their places are behind
pub above : (name : Text) (m n : ℕ) (J : List JournalItem) → m ≤ n → Each (λ r. m < r.place) (picks name n J)
above name m n [] le = tt
above name m n (Close k ∷ is) le = above name m n is le
above name m n (Tx id session time explicit script ∷ is) le =
    above_one (bytes_eq session name) m (record { place = suc n; id = id; explicit = explicit; script = script }) (picks name (suc n) is)
    (omega (arith, le)) (above name m (suc n) is (omega (arith, le)))

-- as many as the sessions' names are found
abbrev pub found_in : List InputSession → ℕ → List JournalItem → ℕ
found_in input n J = sum (map (λ s. length (picks s.name n J)) input)

no_fewer : (b : Bool) (p : Placed) (ps : List Placed) → length ps ≤ length (maybe_picked b p ps)
no_fewer true p ps = omega arith
no_fewer false p ps = omega arith

module _ (n id time : ℕ) (session : Text) (explicit : Bool) (script : List Line) (is : List JournalItem) where
  abbrev item : JournalItem
  item = Tx id session time explicit script

  abbrev here : Placed
  here = record { place = suc n; id = id; explicit = explicit; script = script }

  one_no_fewer : (name : Text) → length (picks name (suc n) is) ≤ length (picks name n (item ∷ is))
  one_no_fewer name = no_fewer (bytes_eq session name) here (picks name (suc n) is)

  one_more : (name : Text) → name ≡ session → length (picks name n (item ∷ is)) ≡ suc (length (picks name (suc n) is))
  one_more name e =
      let yes : bytes_eq session name ≡ true = (bytes_eq-Decides session name).1 (sym e) in
      ap (λ b. length (maybe_picked b here (picks name (suc n) is))) yes

  all_no_fewer : (input : List InputSession) → found_in input (suc n) is ≤ found_in input n (item ∷ is)
  all_no_fewer [] = omega arith
  all_no_fewer (s ∷ input) = omega (arith, one_no_fewer s.name, all_no_fewer input)

  found_once_more : (input : List InputSession) → Some_of (λ s. s.name ≡ session) input → suc (found_in input (suc n) is) ≤ found_in input n (item ∷ is)
  found_once_more [] h = absurd h
  found_once_more (s ∷ input) (inl e) = omega (arith, one_more s.name e, all_no_fewer input)
  found_once_more (s ∷ input) (inr h) = omega (arith, one_no_fewer s.name, found_once_more input h)

-- each transaction has one of the names
pub each_is_found : (input : List InputSession) (n : ℕ) (J : List JournalItem) → Each (IsOneOfTheirs input) J → tx_count J ≤ found_in input n J
each_is_found input n [] h = omega arith
each_is_found input n (Close k ∷ is) h = each_is_found input n is h.1
each_is_found input n (Tx id session time explicit script ∷ is) h =
    omega (arith, each_is_found input (suc n) is h.1, found_once_more n id time session explicit script is input h.0)
