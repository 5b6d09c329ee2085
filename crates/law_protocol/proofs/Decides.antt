-- A visit or a step that says a statement does so where nobody is in its way, and one that meets a lock meets the one that is.
use Rattle.std.proofs.Common.{◌≡◌, ◌≢◌, ℕ, zero, suc, ◌<◌, ◌≤◌, Bool, true, List, [], ◌∷◌, ◌++◌, map, Option, Some, None, refl, sym, ap, ap₂, ◌∙◌, subst, subst₂, ⊎_elim, arith, append-nil}
use Rattle.std.proofs.lemmas.Bool.{cases_eq, cases_lt, ne_eqb, eq-eqb}
use Rattle.std.specs.Prelude.{◌==◌, if◌then◌else◌}
use Rattle.spec_model.specs.Catalog.{Defs, defs_of}
use Rattle.spec_model.specs.Journals.{Line, serial}
use Rattle.spec_history.specs.Acts.{SessionAct, looks, says, meets, Act, by, closes}
use Rattle.spec_history.specs.ByLocks.{IsByLocks, LocksDecide}
use Rattle.spec_history.specs.ExactRefusals.{HeldStatement, held_by, held_beside, in_the_way}
use Rattle.spec_history.specs.Histories.{IsIdle, SessionsBelow}
use Rattle.spec_history.specs.Lists.{Text, Each, In}
use Rattle.spec_history.specs.Meaning.{Meaning}
use Rattle.spec_history.specs.Serial as serials
use Rattle.spec_history.specs.Sessions.{SessionTransaction, SessionState, fresh, scripts, viewed}
use Rattle.spec_history.specs.Transactions.{Transaction, on_some, unfixed}
use Rattle.spec_history.specs.Worlds.{World, first, run, step, tables}
use Rattle.spec_history.proofs.Cuts.{run_append}
use Rattle.spec_protocol.specs.Server.{Server}
use Rattle.spec_protocol.specs.Cells.{Cell, catalog_at, holds_at}
use Rattle.spec_protocol.specs.AnonymousActs.{AnonymousAct, did, anonymous_act}
use Rattle.spec_protocol.specs.LocksCover.{KeepsLocks}
use Rattle.spec_protocol.specs.LocksDecideIn.{LocksDecideIn}
use Rattle.spec_protocol.specs.OpenOnes.{HasOpen, script_so_far, text_at, texts_so_far}
use Rattle.spec_protocol.specs.Parts.{IsTransaction}
use Rattle.spec_protocol.specs.Seats.{OpenTransaction, inside, StatementProgress, Session, SeatState}
use Rattle.spec_protocol.specs.StandTogether.{History, Stands}
use Rattle.spec_protocol.specs.RequestsIn.{requests_in, Holds}
use Rattle.law_protocol_steps.proofs.ByLocksMore.{below_first}
use Rattle.law_protocol_steps.proofs.AnonymousActs.{at_after}
use Rattle.law_protocol.proofs.FreeOrMet.{none_there}
use Rattle.law_protocol.proofs.HeldStatements.{in_map}
use Rattle.law_protocol_steps.proofs.Ids.{InTransaction, each_in, in_transaction}

-- ---- worlds

else_at : (w : World) (n : ℕ) (a : SessionAct) (t : ℕ) → t ≢ n → (step w (by n a)).at t ≡ w.at t
else_at w n a t ne = rw (ne_eqb t n ne) refl

-- sessions beyond those that act are as they were
beyond : (k : ℕ) (w : World) (es : List Act) → SessionsBelow k es → (t : ℕ) → k ≤ t → (run w es).at t ≡ w.at t
beyond k w [] below t l = refl
beyond k w (by s a ∷ es) below t l = let m = below.0 in beyond k (step w (by s a)) es below.1 t l ∙ else_at w s a t (λ e. omega (arith, e, l, m))
beyond k w (closes n ∷ es) below t l = beyond k (step w (closes n)) es below t l

has_none : (x : SessionState) (d : SessionTransaction) → x ≡ fresh → x.transaction ≡ Some d → ⊥
has_none x d e f = let g : None ≡ Some d = ap (λ (z : SessionState). z.transaction) (sym e) ∙ f in cc

all_below : (k : ℕ) (h : History) → SessionsBelow k h → (t : ℕ) (d : SessionTransaction) → ((run first h).at t).transaction ≡ Some d → t < k
all_below k h b t d e = ⊎_elim (λ (l : t < k). l) (λ l. absurd (has_none ((run first h).at t) d (beyond k first h b t (omega (arith, l))) e)) (cases_lt t k)

held_same : (s k : ℕ) (f g : ℕ → Option Transaction) → ((t : ℕ) → t ≢ s → f t ≡ g t) → held_beside s k f ≡ held_beside s k g
held_same s zero f g same = refl
held_same s (suc k) f g same = ap₂ (λ (a b : List HeldStatement). a ++ b) (held_same s k f g same) (⊎_elim
    (λ (e : k ≡ s). let is : (k == s) ≡ true = eq-eqb k s e in rw is refl)
    (λ (ne : k ≢ s). ap (λ (l : List HeldStatement). if k == s then [] else l) (ap held_by (same k ne)))
    (cases_eq k s))

-- ---- who acts is the session at the seat that is inside a statement

-- seat j is inside a statement, and this text is one of its transaction's script
pub record SaidAt (seats : List SeatState) (j : ℕ) (text : Text) : Type 0 where
  pub x : Session
  pub o : OpenTransaction
  pub has : HasOpen seats j x o
  pub under : Text
  pub stage : StatementProgress
  pub place : x.place ≡ inside under stage
  pub open_end : o.end ≡ unfixed
  pub said : In text (texts_so_far x o)

module _ (v : Server) {history : History} {cells : List Cell} {seats : List SeatState} (st : Stands v history cells seats) (n : ℕ) (idle : (t : ℕ) → t ≢ n → IsIdle ((run first history).at t)) (j : ℕ) where
  abbrev W : World
  W = run first history

  module _ (x : Session) (o : OpenTransaction) (has : HasOpen seats j x o) (under : Text) (stage : StatementProgress) (place : x.place ≡ inside under stage) where
    its : InTransaction v.meaning history (st.transcripts_agree.of_seat j) x o
    its = in_transaction v history st.ledger seats st.transcripts_agree j x o has

    acting : its.runs.number ≡ n
    acting = ⊎_elim (λ (e : its.runs.number ≡ n). e)
        (λ (ne : its.runs.number ≢ n). absurd (let e : None ≡ Some under = sym (idle its.runs.number ne).under ∙ its.runs.now.under ∙ ap text_at place in cc))
        (cases_eq its.runs.number n)

    pub is_its : (d : SessionTransaction) → (W.at n).transaction ≡ Some d → IsTransaction d x o
    is_its d e = let same : Some its.transaction ≡ Some d = sym its.has ∙ ap (λ (m : ℕ). (W.at m).transaction) acting ∙ e in subst (λ (z : SessionTransaction). IsTransaction z x o) (let f : its.transaction ≡ d = cc in f) its.is

    -- all that its script wants is locked
    locked : o.end ≡ unfixed → (text : Text) → In text (texts_so_far x o) → (i : ℕ) → Each (Holds (holds_at cells i) o.id) (requests_in v (defs_of (serial v.reads st.ledger.items)) o.explicit i text)
    locked open_end text said i = let m = in_map (λ l. l.0) (script_so_far x o) text said in
        subst (λ (z : Text). Each (Holds (holds_at cells i) o.id) (requests_in v (defs_of (serial v.reads st.ledger.items)) o.explicit i z)) m.is
        (each_in (λ l. Each (Holds (holds_at cells i) o.id) (requests_in v (defs_of (serial v.reads st.ledger.items)) o.explicit i l.0)) (script_so_far x o) m.of (st.locks_cover.cover j x o has i keeps) m.has)
      where
        none_released : o.released ≡ []
        none_released = st.locks_cover.unreleased j x o has open_end

        keeps : KeepsLocks o i
        keeps = (λ k. subst (In i) none_released k, λ k. subst (In catalog_at) none_released k)

  pub said_free : (k : ℕ) (text : Text) (at : SaidAt seats j text) (d : SessionTransaction) → (W.at n).transaction ≡ Some d → in_the_way v.meaning (v.meaning.defs (tables v.meaning W)) (held_beside n k (λ t. viewed (W.at t).transaction)) d.id d.explicit text ≡ None
  said_free k text at d e = let is = is_its at.x at.o at.has at.under at.stage at.place d e in
      subst₂ (λ (id : ℕ) (b : Bool). in_the_way v.meaning (v.meaning.defs (tables v.meaning W)) (held_beside n k (λ t. viewed (W.at t).transaction)) id b text ≡ None) (sym is.id) (sym is.explicit)
      (none_there v st n idle k at.o.id at.o.explicit text (locked at.x at.o at.has at.under at.stage at.place at.open_end text at.said))

-- ---- one act that says a statement, by what stands after it

module _ (v : Server) {history : History} {cells : List Cell} {seats : List SeatState} (after : Stands v history cells seats) (w : World) (n : ℕ) (line : Line) (is : run first history ≡ step w (by n (says line))) (idle : (t : ℕ) → t ≢ n → IsIdle (w.at t)) (j k : ℕ) (at : SaidAt seats j line.0) where
  still : (t : ℕ) → t ≢ n → (run first history).at t ≡ w.at t
  still t ne = ap (λ (z : World). z.at t) is ∙ else_at w n (says line) t ne

  idle_then : (t : ℕ) → t ≢ n → IsIdle ((run first history).at t)
  idle_then t ne = subst IsIdle (sym (still t ne)) (idle t ne)

  same_tables : tables v.meaning (run first history) ≡ tables v.meaning w
  same_tables = ap (tables v.meaning) is ∙ ap (serials.serial v.meaning v.meaning.first) (append-nil w.items)

  pub says_free : IsByLocks v.meaning k w n (says line)
  says_free d e = let then_has : ((run first history).at n).transaction ≡ Some (scripts line d) = ap (λ (z : World). (z.at n).transaction) is ∙ ap (λ (z : SessionState). z.transaction) (at_after w n (says line)) ∙ ap (on_some (scripts line)) e in
      ap₂ (λ (ds : Defs) (hs : List HeldStatement). in_the_way v.meaning ds hs d.id d.explicit line.0) (ap v.meaning.defs (sym same_tables)) (held_same n k (λ t. viewed (w.at t).transaction) (λ t. viewed ((run first history).at t).transaction) (λ t ne. ap (λ (z : SessionState). viewed z.transaction) (sym (still t ne))))
      ∙ said_free v after n idle_then j k line.0 at (scripts line d) then_has

-- ---- acts that say nothing and meet no lock

abbrev pub IsSilent : AnonymousAct → Type 0
IsSilent (did (says line)) = ⊥
IsSilent (did (meets text holder)) = ⊥
IsSilent _ = Unit {0}

module _ (q : Meaning) (k : ℕ) where
  silent_act : (w : World) (n : ℕ) (a : SessionAct) → IsSilent (did a) → IsByLocks q k w n a
  silent_act w n (says line) h = absurd h
  silent_act w n (meets text holder) h = absurd h
  silent_act w n a h = tt

  pub silent : (w : World) (es : List Act) → Each IsSilent (map anonymous_act es) → LocksDecide q k w es
  silent w [] h = tt
  silent w (by n a ∷ es) h = (silent_act w n a h.0, silent (step w (by n a)) es h.1)
  silent w (closes m ∷ es) h = silent (step w (closes m)) es h.1

-- ---- what was done, by whom

pub record DoneFirst (es : List Act) (a : SessionAct) (more : List AnonymousAct) : Type 0 where
  pub session : ℕ
  pub rest : List Act
  pub is : es ≡ by session a ∷ rest
  pub are : map anonymous_act rest ≡ more

same_act : (a b : SessionAct) → did a ≡ did b → a ≡ b
same_act a b e = cc

pub done_first : (es : List Act) (a : SessionAct) (more : List AnonymousAct) → map anonymous_act es ≡ did a ∷ more → DoneFirst es a more
done_first [] a more e = cc
done_first (closes m ∷ es) a more e = cc
done_first (by n b ∷ es) a more e = let f : did b ≡ did a = cc in record { session = n; rest = es; is = ap (λ (z : SessionAct). by n z ∷ es) (same_act b a f); are = cc }

pub nothing_more : (es : List Act) → map anonymous_act es ≡ [] → es ≡ []
nothing_more [] e = refl
nothing_more (x ∷ es) e = cc

module _ (v : Server) (history : History) where
  abbrev Decided : List Act → Type 0
  Decided events = LocksDecideIn v history events

  pub all_silent : (events : List Act) (anonymous_acts : List AnonymousAct) → map anonymous_act events ≡ anonymous_acts → Each IsSilent anonymous_acts → Decided events
  all_silent events anonymous_acts e h = λ k below alone. silent v.meaning k (run first history) events (subst (Each IsSilent) (sym e) h)

  -- one statement is said, and cells and seats stand together then
  pub says_one : (cells : List Cell) (seats : List SeatState) (j : ℕ) (line : Line) (events : List Act) → map anonymous_act events ≡ did (says line) ∷ [] → Stands v (history ++ events) cells seats → SaidAt seats j line.0 → Decided events
  says_one cells seats j line events e after at = let d = done_first events (says line) [] e in
      let is : events ≡ by d.session (says line) ∷ [] = d.is ∙ ap (λ (es : List Act). by d.session (says line) ∷ es) (nothing_more d.rest d.are) in
      subst Decided (sym is) (here d.session (subst (λ (es : List Act). Stands v (history ++ es) cells seats) is after))
    where
      here : (n : ℕ) → Stands v (history ++ by n (says line) ∷ []) cells seats → Decided (by n (says line) ∷ [])
      here n st k below alone = (says_free v st (run first history) n line (run_append first history (by n (says line) ∷ [])) alone.0 j k at, tt)

  -- after it looked
  pub says_then : (cells : List Cell) (seats : List SeatState) (j : ℕ) (text : Text) (table : Bool) (line : Line) (events : List Act) → map anonymous_act events ≡ did (looks text table) ∷ did (says line) ∷ [] → Stands v (history ++ events) cells seats → SaidAt seats j line.0 → Decided events
  says_then cells seats j text table line events e after at = let d = done_first events (looks text table) (did (says line) ∷ []) e in let f = done_first d.rest (says line) [] d.are in
      let is : events ≡ by d.session (looks text table) ∷ by f.session (says line) ∷ [] = d.is ∙ ap (λ (es : List Act). by d.session (looks text table) ∷ es) (f.is ∙ ap (λ (es : List Act). by f.session (says line) ∷ es) (nothing_more f.rest f.are)) in
      subst Decided (sym is) (here d.session f.session (subst (λ (es : List Act). Stands v (history ++ es) cells seats) is after))
    where
      here : (m n : ℕ) → Stands v (history ++ by m (looks text table) ∷ by n (says line) ∷ []) cells seats → Decided (by m (looks text table) ∷ by n (says line) ∷ [])
      here m n st k below alone = (tt, (says_free v st (step (run first history) (by m (looks text table))) n line (run_append first history (by m (looks text table) ∷ by n (says line) ∷ [])) alone.1.0 j k at, tt))

  module _ {cells : List Cell} {seats : List SeatState} (st : Stands v history cells seats) (j : ℕ) where
    -- one statement is said first, by what stood before it
    pub says_first : (line : Line) (more : List AnonymousAct) → Each IsSilent more → (events : List Act) → map anonymous_act events ≡ did (says line) ∷ more → SaidAt seats j line.0 → Decided events
    says_first line more h events e at = let d = done_first events (says line) more e in
        subst Decided (sym d.is) (λ k below alone. (said_free v st d.session alone.0 j k line.0 at, silent v.meaning k (step (run first history) (by d.session (says line))) d.rest (subst (Each IsSilent) (sym d.are) h)))

    -- one meets a lock
    pub meets_one : (text : Text) (holder : ℕ) (events : List Act) → map anonymous_act events ≡ did (meets text holder) ∷ []
        → ((n : ℕ) (idle : (t : ℕ) → t ≢ n → IsIdle ((run first history).at t)) (k : ℕ) → ((t : ℕ) (d : SessionTransaction) → ((run first history).at t).transaction ≡ Some d → t < k) → IsByLocks v.meaning k (run first history) n (meets text holder)) → Decided events
    meets_one text holder events e is_met = let d = done_first events (meets text holder) [] e in
        subst Decided (sym d.is) (λ k below alone. (is_met d.session alone.0 k (all_below k history (below_first k history (by d.session (meets text holder) ∷ d.rest) below)), silent v.meaning k (step (run first history) (by d.session (meets text holder))) d.rest (subst (Each IsSilent) (sym d.are) tt)))
