-- A step of a seat alone: cells and the journal stay, and so it owes what a seat owes that turns.
use Rattle.std.proofs.Common.{◌≡◌, ℕ, not, false, List, [], ◌++◌, map, Some, slice_set, refl, sym, ap, ◌∙◌, subst}
use mathlib.Core.Option.{some}
use lib.ListN.{get_elem?}
use Rattle.sql_types.specs.declared.version.Version.{Version}
use Rattle.spec_model.specs.Catalog.{defs_of, versions_of, Tables}
use Rattle.spec_model.specs.Journals.{Line}
use Rattle.spec_model.specs.Replies.{reply_text}
use Rattle.spec_model.specs.Script.{script}
use Rattle.spec_model.specs.Touched.{touched}
use Rattle.spec_history.specs.Lists.{Text, Each, In}
use Rattle.spec_history.specs.Refusals.{EndsAt}
use Rattle.spec_history.specs.Transactions.{unfixed}
use Rattle.spec_history.specs.Acts.{Act, SessionAct, by}
use Rattle.spec_protocol.specs.Server.{Server}
use Rattle.spec_protocol.specs.Cells.{Cell, catalog_at}
use Rattle.spec_protocol.specs.Contents.{Contents, Known, contents, known, HasAlone}
use Rattle.spec_protocol.specs.EventsIn.{events_in}
use Rattle.spec_protocol.specs.LocksCover.{KeepsLocks, LookedAt, HasLock, IsGotAt, IsDropping, LookedFirst, RequestsNone}
use Rattle.spec_protocol.specs.OpenOnes.{HasOpen, text_at, lines_at, script_so_far, script_end}
use Rattle.spec_protocol.specs.OpenScripts.{IsOfItsScript, counted}
use Rattle.spec_protocol.specs.Seats.{OpenTransaction, Session, session, SeatState}
use Rattle.spec_protocol.specs.StandTogether.{History, Stands, StandsAfter}
use Rattle.spec_protocol.specs.TranscriptsAgree.{TranscriptsAgree}
use Rattle.spec_protocol.specs.TreesAreOfEvents.{AreTrees, AreOpenSavepoints, HasItsTrees}
use Rattle.spec_protocol.specs.RequestsIn.{requests_in, Holds}
use Rattle.law_protocol_steps.proofs.GoesOn.{each_so}
use Rattle.law_protocol_steps.proofs.AssignsId.{at_own}
use Rattle.law_protocol_steps.proofs.OpenSeats.{Own}
use Rattle.law_protocol_steps.proofs.Turns.{MayHoldLock, Turns, tables_turn, scripts_turn, trees_turn, agree_turn, cover_turn, Owes, StillStands, owed, rows_turn}
use Rattle.law_protocol_steps.proofs.PlainPlaces.{AddsNone, IsBare, none_added, not_dropping, not_first, not_indexing, not_back, of_either}
use Rattle.std.specs.List.{AllByRecursion}
use Rattle.spec_protocol.specs.RowsAgree.{GoesBackTo, IsExplicitAt, key_rows}
use Rattle.spec_protocol.specs.TablesAreSerial.{HasActed, IsAdding, IsCarried, IsIndexed}
use Rattle.spec_model.specs.Runs.{MadeBefore}
use Rattle.sql_types.specs.declared.table.TableDef.{TableDef}
use Rattle.spec_history.specs.Worlds.{tables}

-- the transaction with this script
abbrev pub with_script : List Line → OpenTransaction → OpenTransaction
with_script ls o = record { id = o.id; explicit = o.explicit; script = ls; seq = o.seq; trees = o.trees; open_savepoints = o.open_savepoints; end = o.end; visited = o.visited; released = o.released }

module _ (v : Server) (cells : List Cell) (seats : List SeatState) {history : History} (st : Stands v history cells seats) (j : ℕ) (s : SeatState) (there : get_elem? seats j ≡ some s) where
  abbrev c : Contents
  c = contents cells

  abbrev k : Known
  k = known v.reads st.ledger.items

  pub alone_stands : (t : SeatState) (h : List Act) → Turns v c k st.catalog.defs s t → TranscriptsAgree v h st.ledger (slice_set seats j t) → Stands v h cells (slice_set seats j t)
  alone_stands t h turn agree = record {
    catalog = st.catalog;
    ledger = st.ledger;
    are_cells = st.are_cells;
    ledger_is_legal = st.ledger_is_legal;
    tables_are_serial = tables_turn v c k st.catalog.defs seats j s t there turn st.catalog.creator st.tables_are_serial;
    rows_agree = rows_turn v c k st.catalog.defs seats j s t there turn st.rows_agree;
    open_scripts = scripts_turn v c k st.catalog.defs seats j s t there turn st.open_scripts;
    locks_cover = cover_turn v c k st.catalog.defs seats j s t there turn st.locks_cover;
    locks_agree = agree_turn v c k st.catalog.defs seats j s t there turn st.locks_agree;
    trees_are_of_events = trees_turn v c k st.catalog.defs seats j s t there turn st.trees_are_of_events;
    transcripts_agree = agree;
  }

  -- so whose a session is stays
  pub alone_own : (t : SeatState) (h : History) (turn : Turns v c k st.catalog.defs s t) (agree : TranscriptsAgree v h st.ledger (slice_set seats j t)) (n : ℕ) → agree.owner n ≡ j → (alone_stands t h turn agree).transcripts_agree.owner n ≡ j
  unfolding alone_stands
  alone_own t h turn agree n own = own

  -- with acts of one session
  abbrev pub alone_after : (t : SeatState) (n : ℕ) {acts : List SessionAct} → Turns v c k st.catalog.defs s t → (agree : TranscriptsAgree v (history ++ map (by n) acts) st.ledger (slice_set seats j t)) → agree.owner n ≡ j → StandsAfter v j history acts cells (slice_set seats j t)
  alone_after t n {acts} turn agree own = record { session = n; stands = alone_stands t (history ++ map (by n) acts) turn agree; mine = each_so acts (alone_own t (history ++ map (by n) acts) turn agree n own) }

  -- what one that creates has done, it has done still
  pub record StillAt (x : Session) (o : OpenTransaction) (y : Session) (p : OpenTransaction) : Type 0 where
    pub acted : o.explicit ≡ false → HasActed x.place → HasActed y.place
    pub adding : (after : TableDef) (i : ℕ) → IsAdding x.place o after i → IsAdding y.place p after i

  module _ (x : Session) (role : s.role ≡ session x) (o : OpenTransaction) (open_one : x.open_one ≡ Some o) where
    has : HasOpen seats j x o
    has = record { seat = s; there = there; role = role; open_one = open_one }

    -- what a transaction owes that goes on as p, with the same locks and the same end
    pub record Keeps (y : Session) (p : OpenTransaction) : Type 0 where
      pub id : p.id ≡ o.id
      pub explicit : p.explicit ≡ o.explicit
      pub visited : p.visited ≡ o.visited
      pub released : p.released ≡ o.released
      pub end : p.end ≡ o.end
      pub stands : o.explicit ≡ false → text_at x.place ≡ text_at y.place
      pub script : o.end ≡ unfixed → IsOfItsScript v c k.tables y p
      pub trees : o.end ≡ unfixed → HasItsTrees v c k y p
      pub cover : (i : ℕ) → KeepsLocks o i → Each (λ l. Each (Holds (c.holds i) o.id) (requests_in v (defs_of k.tables) o.explicit i l.0)) (script_so_far y p)
      pub got : HasLock c catalog_at o.id → IsGotAt v k.tables (HasAlone c o.id) (not (k.has o.id)) y.place
      pub looked : LookedAt v c (defs_of k.tables) o.id o.explicit y.place
      pub still : StillAt x o y p
      pub owes : Owes v c k st.catalog.defs y p

    -- where the script comes to the same tables, and what counts is as it was
    pub owes_like : (y : Session) (p : OpenTransaction) → p.id ≡ o.id → p.seq ≡ o.seq → p.end ≡ o.end → IsBare y.place → (script_end v k.tables y p).state.tables ≡ (script_end v k.tables x o).state.tables
        → ((id : ℕ) (ws : List Version) → counted o.id id x.place ws ≡ counted o.id id y.place ws) → Owes v c k st.catalog.defs y p
    owes_like y p id seq end bare tables same_counted = let h = owed v cells seats st j x o has in record {
      carried = λ u. subst (IsCarried st.catalog.defs k.tables) (sym tables) (h.carried (sym end ∙ u));
      indexed = λ u. not_indexing c y.place bare;
      looked_first = λ u f. absurd (not_first y.place bare f);
      dropping = λ f. absurd (not_dropping y.place p bare f);
      own = λ u n key l hold i m r. ap (λ a. counted a n y.place (key_rows k.tables n key (c.versions n))) id ∙ sym (same_counted n (key_rows k.tables n key (c.versions n)))
          ∙ h.own (sym end ∙ u) n key l hold i (m ∙ id) r ∙ ap (λ (T : Tables). key_rows k.tables n key (versions_of T n)) (sym tables);
      before = λ u n l. subst (λ a. AllByRecursion (MadeBefore a p.seq) (counted a n y.place (c.versions n))) (sym id)
          (subst (λ a. AllByRecursion (MadeBefore o.id a) (counted o.id n y.place (c.versions n))) (sym seq) (subst (AllByRecursion (MadeBefore o.id o.seq)) (same_counted n (c.versions n)) (h.before (sym end ∙ u) n l)));
      back = not_back y.place p.seq bare;
      explicit = of_either y.place p.explicit bare;
    }

    module _ (t : SeatState) (y : Session) (p : OpenTransaction) (role_then : t.role ≡ session y) (open_then : y.open_one ≡ Some p) (keeps : Keeps y p) where
      own : (P : Session → OpenTransaction → Type 0) → P y p → (z : Session) (u : OpenTransaction) → Own t z u → P z u
      own P h = at_own t y p P role_then open_then h

      was : (P : Session → OpenTransaction → Type 0) → P x o → (z : Session) (u : OpenTransaction) → Own s z u → P z u
      was P h = at_own s x o P role open_one h

      abbrev new : Own t y p
      new = record { role = role_then; open_one = open_then }

      abbrev Covered : Session → OpenTransaction → Type 0
      Covered z u = (i : ℕ) → KeepsLocks u i → Each (λ l. Each (Holds (c.holds i) u.id) (requests_in v (defs_of k.tables) u.explicit i l.0)) (script_so_far z u)

      pub keeps_turn : Turns v c k st.catalog.defs s t
      keeps_turn = record {
        came = λ i h e w. record { x = x; o = o; own = record { role = role; open_one = open_one }; is = own (λ z u. u.id ≡ h.tx → o.id ≡ h.tx) (λ f. sym keeps.id ∙ f) w.x w.o w.own w.is };
        locks = λ i h e w. was (λ z u. u.id ≡ h.tx → In i u.visited → (In i u.released → ⊥) → MayHoldLock t i h)
            (λ mine visited free. record { x = y; o = p; own = new; mine = keeps.id ∙ mine; visited = subst (In i) (sym keeps.visited) visited; unreleased = λ r. free (subst (In i) keeps.released r) })
            w.x w.o w.own w.mine w.visited w.unreleased;
        stands = λ z u text w alone out exclusive stands acted. was (λ a b. b.explicit ≡ false → text_at a.place ≡ Some text → HasActed a.place → StillStands t a b text)
            (λ e f g. record { y = y; p = p; own = new; is = keeps.id; alone = keeps.explicit ∙ e; stands = sym (keeps.stands e) ∙ f; acted = keeps.still.acted e g; adding = keeps.still.adding })
            z u w alone stands acted;
        script = λ z u w e. own (λ a b. b.end ≡ unfixed → IsOfItsScript v c k.tables a b) (λ f. keeps.script (sym keeps.end ∙ f)) z u w e;
        trees = λ z u w e. own (λ a b. b.end ≡ unfixed → HasItsTrees v c k a b) (λ f. keeps.trees (sym keeps.end ∙ f)) z u w e;
        cover = own Covered (λ i free. let h = keeps.cover i (λ r. free.0 (subst (In i) (sym keeps.released) r), λ r. free.1 (subst (In catalog_at) (sym keeps.released) r)) in
            subst (λ n. Each (λ l. Each (Holds (c.holds i) n) (requests_in v (defs_of k.tables) p.explicit i l.0)) (script_so_far y p)) (sym keeps.id)
            (subst (λ b. Each (λ l. Each (Holds (c.holds i) o.id) (requests_in v (defs_of k.tables) b i l.0)) (script_so_far y p)) (sym keeps.explicit) h));
        unreleased = λ z u w e. own (λ a b. b.end ≡ unfixed → b.released ≡ []) (λ f. keeps.released ∙ st.locks_cover.unreleased j x o has (sym keeps.end ∙ f)) z u w e;
        looked = λ z u w e. own (λ a b. LookedAt v c (defs_of k.tables) b.id b.explicit a.place) (subst (λ n. LookedAt v c (defs_of k.tables) n p.explicit y.place) (sym keeps.id) (subst (λ b. LookedAt v c (defs_of k.tables) o.id b y.place) (sym keeps.explicit) keeps.looked)) z u w;
        definitions = λ z u n w e l. own (λ a b. EndsAt b.end n → HasLock c catalog_at b.id → defs_of k.tables ≡ defs_of (k.after n))
            (λ f g. st.locks_cover.definitions j x o n has (subst (λ a. EndsAt a n) keeps.end f) (subst (HasLock c catalog_at) keeps.id g)) z u w e l;
        got = λ z u w l. own (λ a b. HasLock c catalog_at b.id → IsGotAt v k.tables (HasAlone c b.id) (not (k.has b.id)) a.place)
            (λ g. subst (λ n. IsGotAt v k.tables (HasAlone c n) (not (k.has n)) y.place) (sym keeps.id) (keeps.got (subst (HasLock c catalog_at) keeps.id g))) z u w l;
        owes = own (Owes v c k st.catalog.defs) keeps.owes;
      }

    -- what its new place owes
    pub record PlaceOwes (y : Session) (p : OpenTransaction) : Type 0 where
      pub still : StillAt x o y p
      pub indexed : IsIndexed c y.place
      pub looked_first : LookedFirst y.place → RequestsNone v c k.tables p
      pub dropping : IsDropping y.place p → HasAlone c o.id
      pub back : GoesBackTo y.place o.seq
      pub explicit : IsExplicitAt y.place o.explicit

    -- a bare place owes no more than that its transaction acted
    pub bare : (y : Session) (p : OpenTransaction) → IsBare y.place → AddsNone x.place → (o.explicit ≡ false → HasActed x.place → HasActed y.place) → PlaceOwes y p
    bare y p b adds_none acted = record {
      still = record { acted = acted; adding = λ after i a. absurd (none_added x.place o after i adds_none a) };
      indexed = not_indexing c y.place b;
      looked_first = λ f. absurd (not_first y.place b f);
      dropping = λ d. absurd (not_dropping y.place p b d);
      back = not_back y.place o.seq b;
      explicit = of_either y.place o.explicit b;
    }

    -- where the script so far and what counts are as they were
    module _ (y : Session) (ls : List Line) (same_script : script_so_far x o ≡ ls ++ lines_at y.place) (same_counted : (id : ℕ) (ws : List Version) → counted o.id id x.place ws ≡ counted o.id id y.place ws)
        (alone : o.explicit ≡ false → o.script ≡ [] → ls ≡ []) where
      abbrev p : OpenTransaction
      p = with_script ls o

      abbrev texts : List Line → List Text
      texts ms = map (λ l. l.0) ms

      same_versions : (id : ℕ) → counted o.id id y.place (c.versions id) ≡ counted o.id id x.place (c.versions id)
      same_versions id = sym (same_counted id (c.versions id))

      pub script_kept : o.end ≡ unfixed → IsOfItsScript v c k.tables y p
      script_kept u = let h = st.open_scripts j x o has u in record {
        replies = subst (λ ms. map (λ l. l.1) ms ≡ map reply_text (script v.reads o.explicit k.tables o.id (texts ms)).replies) same_script h.replies;
        versions = λ id l. ap (touched o.id) (same_versions id) ∙ subst (λ ms. touched o.id (counted o.id id x.place (c.versions id)) ≡ touched o.id (versions_of (script v.reads o.explicit k.tables o.id (texts ms)).state.tables id)) same_script (h.versions id l);
        counter = subst (λ ms. o.seq ≡ (script v.reads o.explicit k.tables o.id (texts ms)).state.seq) same_script h.counter;
        alone = λ e. alone e (h.alone e);
      }

      pub trees_kept : o.end ≡ unfixed → HasItsTrees v c k y p
      trees_kept u = let h = st.trees_are_of_events j x o has u in record {
        trees = subst (λ f. AreTrees f o.trees) (λ i id. events_in o.id id (sym (same_versions id) i)) h.trees;
        open_savepoints = subst (λ ms. AreOpenSavepoints o.id o.open_savepoints (script v.reads o.explicit k.tables o.id (texts ms)).state.saved) same_script h.open_savepoints;
      }

      owes_kept : PlaceOwes y p → Owes v c k st.catalog.defs y p
      owes_kept q = let h = owed v cells seats st j x o has in record {
        carried = λ u. subst (λ ms. IsCarried st.catalog.defs k.tables (script v.reads o.explicit k.tables o.id (texts ms)).state.tables) same_script (h.carried u);
        indexed = λ u. q.indexed;
        looked_first = λ u. q.looked_first;
        dropping = q.dropping;
        own = λ u id key l hold i m r. sym (same_counted id (key_rows k.tables id key (c.versions id)))
            ∙ subst (λ ms. counted o.id id x.place (key_rows k.tables id key (c.versions id)) ≡ key_rows k.tables id key (versions_of (script v.reads o.explicit k.tables o.id (texts ms)).state.tables id)) same_script (h.own u id key l hold i m r);
        before = λ u id l. subst (AllByRecursion (MadeBefore o.id o.seq)) (same_counted id (c.versions id)) (h.before u id l);
        back = q.back;
        explicit = q.explicit;
      }

      pub kept : (o.explicit ≡ false → text_at x.place ≡ text_at y.place) → (HasLock c catalog_at o.id → IsGotAt v k.tables (HasAlone c o.id) (not (k.has o.id)) y.place) → LookedAt v c (defs_of k.tables) o.id o.explicit y.place → PlaceOwes y p → Keeps y p
      kept stands got looked q = record {
        id = refl;
        explicit = refl;
        visited = refl;
        released = refl;
        end = refl;
        stands = stands;
        script = script_kept;
        trees = trees_kept;
        cover = λ i free. subst (Each (λ l. Each (Holds (c.holds i) o.id) (requests_in v (defs_of k.tables) o.explicit i l.0))) same_script (st.locks_cover.cover j x o has i free);
        got = got;
        looked = looked;
        still = q.still;
        owes = owes_kept q;
      }
