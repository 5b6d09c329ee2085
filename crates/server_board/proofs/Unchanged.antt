-- A seat may give each of the cells that stand together back as it took it: a visit at which nothing happens.
use Rattle.std.proofs.Common.{◌≡◌, ℕ, zero, suc, List, [], ◌∷◌, refl, sym, subst}
use mathlib.Core.Option.{some, some-injective, some-ne-none}
use lib.ListN.{get_elem?}
use Rattle.spec_history.specs.Lists.{Each}
use Rattle.spec_protocol.specs.Alone.Alones.{none}
use Rattle.spec_protocol.specs.Cells.{Cell}
use Rattle.spec_protocol.specs.Seats.{SeatState}
use Rattle.spec_protocol.specs.Visits.Visit.{nothing}
use Rattle.server_board.specs.ServedDatabase.{ServedDatabase, outs_seen, MayVisitServed}

pub each_there : {A : Type 0} (P : A → Type 0) (xs : List A) → Each P xs → (i : ℕ) (x : A) → get_elem? xs i ≡ some x → P x
each_there P [] h i x at = absurd (some-ne-none x (sym at))
each_there P (y ∷ ys) h zero x at = subst P (some-injective y x at) h.0
each_there P (y ∷ ys) h (suc i) x at = each_there P ys h.1 i x at

module _ {C : Type 0} (cell : C → Cell) (keeps : (List ℕ → List ℕ) → C → Type 0) (d : ServedDatabase) where
  pub gives_back : (s : SeatState) (out : List (ℕ × C)) (i : ℕ) (c : C) → keeps d.server.hash c → MayVisitServed cell keeps d s ((i, c) ∷ out) i c s
  gives_back s out i c kept = record {
    kept = kept;
    may = record { visit = nothing; old = cell c; rest = outs_seen cell out; is_out = refl; begun = s; before = none; ended = s; happens = (refl, refl); after = none };
  }

  -- so each of all cells, where each keeps what was worked out ahead: the clause `nothing` of `give_all_with`
  pub gives_each_back : (cells : List C) → Each (keeps d.server.hash) cells → (i : ℕ) (c : C) (out : List (ℕ × C)) (t : SeatState) → get_elem? cells i ≡ some c → MayVisitServed cell keeps d t ((i, c) ∷ out) i c t
  gives_each_back cells kept i c out t at = gives_back t out i c (each_there (keeps d.server.hash) cells kept i c at)
