-- Two transactions never have X on the rows of one key, and who has X on the catalog is alone there.
use Rattle.std.proofs.Common.{◌≡◌, ◌≢◌, Bool, List, [], false, inl, inr, refl, subst, sym, true, ℕ, ◌∙◌, ◌∷◌}
use Rattle.sql_types.specs.declared.lock.Hold.{Hold}
use Rattle.spec_protocol.specs.Cells.{Cell, holds_at}
use Rattle.spec_history.specs.Lists.{Each, In}
use Rattle.spec_protocol.specs.LocksCover.{HasIntent}
use Rattle.law_protocol_steps.proofs.Excluded.{HasNoX, excluded}
use Rattle.spec_model.specs.Keys.{Key}
use Rattle.sql_types.specs.declared.lock.Mode.{Mode}
use Rattle.law_frame.proofs.NoClash.{Relies}
use Rattle.spec_protocol.specs.Seats.{SeatState}
use Rattle.spec_protocol.specs.Server.{Server}
use Rattle.spec_protocol.specs.StandTogether.{History, Stands}
use Rattle.law_frame.proofs.SameKeys.{and_true}
use Rattle.spec_model.specs.Reach.{has_key, is_exclusive, lets_change}
use Rattle.law_protocol_steps.proofs.Locks.{no_conflict}
use Rattle.spec_model.specs.Locks.{requests_conflict}
use Rattle.sql_types.specs.declared.lock.Mode.TheVariants.{X}

module _ (v : Server) (cells : List Cell) (seats : List SeatState) {history : History} (S : Stands v history cells seats) (i : ℕ) (key : Key) (g h : Hold) (has_g : In g (holds_at cells i)) (has_h : In h (holds_at cells i)) (apart : h.tx ≢ g.tx)
    (reach_g : lets_change key g.request ≡ true) (reach_h : lets_change key h.request ≡ true) where
  exclusive_mode : (m : Mode) → is_exclusive m ≡ true → m ≡ X
  exclusive_mode X e = refl
  exclusive_mode m e = cc

  parts_g : (is_exclusive g.request.mode ≡ true) × (has_key key g.request.item ≡ true)
  parts_g = and_true (is_exclusive g.request.mode) (has_key key g.request.item) reach_g

  intent : HasIntent (holds_at cells i) g
  intent = S.locks_cover.intents i g has_g (exclusive_mode g.request.mode parts_g.0)

  free_of : (w : Hold) → In w (holds_at cells i) → w.tx ≡ g.tx → (hs : List Hold) → ((k : Hold) → In k hs → In k (holds_at cells i)) → Each (λ k. k.tx ≢ g.tx → requests_conflict w.request k.request ≡ false) hs
  free_of w has mine [] all = tt
  free_of w has mine (k ∷ hs) all = ((λ ne. no_conflict v cells seats S i w k has (all k (inl refl)) (λ e. ne (sym e ∙ mine))), free_of w has mine hs (λ m d. all m (inr d)))

  relies_g : Relies g.request.mode
  relies_g = subst Relies (sym (exclusive_mode g.request.mode parts_g.0)) tt

  pub x_apart : ⊥
  x_apart = let z : lets_change key h.request ≡ false = excluded (holds_at cells i) g.tx (g.request ∷ intent.hold.request ∷ [])
      (free_of g has_g refl (holds_at cells i) (λ k d. d), (free_of intent.hold intent.has intent.mine (holds_at cells i) (λ k d. d), tt))
      (S.locks_cover.intents i)
      (λ w d. (intent.hold.request, inr (inl refl), intent.whole))
      key g.request (inl refl) relies_g parts_g.1 h has_h apart in cc
  -- so where one has it, another hasn't

pub none_besides : (v : Server) (cells : List Cell) (seats : List SeatState) {history : History} (S : Stands v history cells seats) (i tx : ℕ) (key : Key) (h : Hold) → In h (holds_at cells i) → h.tx ≢ tx → lets_change key h.request ≡ true → HasNoX (holds_at cells i) tx key
none_besides v cells seats S i tx key h has ne reach g is m = by (lets_change key g.request) refl
  where
    by : (b : Bool) → lets_change key g.request ≡ b → b ≡ false
    by true e = absurd (x_apart v cells seats S i key g h is has (λ z. ne (z ∙ m)) e reach)
    by false e = refl
