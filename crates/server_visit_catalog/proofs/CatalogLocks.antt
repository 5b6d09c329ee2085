-- Locks in the catalog that a transaction takes for the first time.
use Rattle.std.proofs.Common.{◌≡◌, ◌≢◌, ℕ, Bool, true, false, List, [], ◌∷◌, ◌++◌, refl, sym, ap, ◌∙◌, inl, inr, subst}
use Rattle.std.specs.Prelude.{◌==◌, ◌||◌, not, if◌then◌else◌}
use Rattle.std.specs.List.{list_any, filter}
use Rattle.std.proofs.lemmas.Bool.{eq-eqb, ne_eqb}
use mathlib.Core.Option.{some}
use lib.ListN.{get_elem?}
use Rattle.sql_types.specs.declared.lock.Hold.{Hold}
use Rattle.sql_types.specs.declared.lock.LockRequest.{LockRequest}
use Rattle.spec_model.specs.Holds.{hold, holds_after, holds_any, holds_request, is_foreign, is_of, released}
use Rattle.server_session.specs.Lists.{In}
use Rattle.server_session.specs.CatalogVisits.{with_holds}
use Rattle.server_session.specs.Cells.{Cell, Catalog, CatalogCell, catalog_at}
use Rattle.server_session.specs.OpenOnes.{HasOpen}
use Rattle.server_session.specs.Seats.{OpenTransaction, Session, SeatState}
use Rattle.server_session.specs.Server.{Server}
use Rattle.server_session.specs.StandTogether.{History, Stands}
use Rattle.law_protocol_steps.proofs.CellsAfter.{held_here}
use Rattle.law_protocol_steps.proofs.SeatIds.{one_seat}
use Rattle.law_protocol_steps.proofs.SeatsAfter.{one_session}

-- ---- what was taken goes again

module _ (tx : ℕ) (w : LockRequest) where
  others_stay : (holds : List Hold) → list_any (is_of tx) holds ≡ false → filter (is_foreign tx) holds ≡ holds
  others_stay [] e = refl
  others_stay (h ∷ hs) e = by (h.tx == tx) e (others_stay hs)
    where
      by : (b : Bool) → (b || list_any (is_of tx) hs) ≡ false → (list_any (is_of tx) hs ≡ false → filter (is_foreign tx) hs ≡ hs)
          → (if not b then h ∷ filter (is_foreign tx) hs else filter (is_foreign tx) hs) ≡ h ∷ hs
      by true f rest = cc
      by false f rest = ap (λ (l : List Hold). h ∷ l) (rest f)

  new_goes : (holds : List Hold) → list_any (is_of tx) holds ≡ false → filter (is_foreign tx) (holds ++ hold tx w ∷ []) ≡ holds
  new_goes [] e = rw (eq-eqb tx tx refl) refl
  new_goes (h ∷ hs) e = by (h.tx == tx) e (new_goes hs)
    where
      by : (b : Bool) → (b || list_any (is_of tx) hs) ≡ false → (list_any (is_of tx) hs ≡ false → filter (is_foreign tx) (hs ++ hold tx w ∷ []) ≡ hs)
          → (if not b then h ∷ filter (is_foreign tx) (hs ++ hold tx w ∷ []) else filter (is_foreign tx) (hs ++ hold tx w ∷ [])) ≡ h ∷ hs
      by true f rest = cc
      by false f rest = ap (λ (l : List Hold). h ∷ l) (rest f)

  -- released at once, a transaction's first lock leaves nothing
  pub taken_goes : (holds : List Hold) → holds_any holds tx ≡ false → released (holds_after holds tx (w ∷ [])) tx ≡ holds
  unfolding holds_after holds_any released
  taken_goes holds e = by (holds_request holds tx w)
    where
      by : (b : Bool) → filter (is_foreign tx) (if b then holds else holds ++ hold tx w ∷ []) ≡ holds
      by true = others_stay holds e
      by false = new_goes holds e

  pub cell_again : (c d : CatalogCell) → holds_any c.holds tx ≡ false → d ≡ with_holds (holds_after c.holds tx (w ∷ [])) c
      → with_holds (released d.holds tx) d ≡ c
  cell_again c d e is = ap (λ (x : CatalogCell). with_holds (released x.holds tx) x) is ∙ ap (λ (holds : List Hold). with_holds holds c) (taken_goes c.holds e)

-- ---- who has visited nothing holds nothing

none_held : (tx : ℕ) (holds : List Hold) → ((h : Hold) → In h holds → h.tx ≢ tx) → list_any (is_of tx) holds ≡ false
none_held tx [] f = refl
none_held tx (h ∷ hs) f = rw (ne_eqb h.tx tx (f h (inl refl))) (none_held tx hs (λ g i. f g (inr i)))

pub holds_nothing : (v : Server) (cells : List Cell) (seats : List SeatState) {history : History} (S : Stands v history cells seats) (j : ℕ) (x : Session) (o : OpenTransaction) (c : CatalogCell)
    → HasOpen seats j x o → o.visited ≡ [] → get_elem? cells catalog_at ≡ some (Catalog c) → holds_any c.holds o.id ≡ false
unfolding holds_any
holds_nothing v cells seats S j x o c has none out = none_held o.id c.holds (λ h is same.
    let b = S.locks_cover.belong catalog_at h (subst (In h) (sym (held_here cells catalog_at (Catalog c) (Catalog c) out)) is) in
    let here : b.j ≡ j = one_seat v cells seats S b.j j b.x x b.o o b.has has (b.mine ∙ same) in
    let one : b.o ≡ o = (one_session seats j b.x x b.o o (subst (λ (n : ℕ). HasOpen seats n b.x b.o) here b.has) has).1 in
    subst (In catalog_at) (ap (λ (p : OpenTransaction). p.visited) one ∙ none) b.visited)
