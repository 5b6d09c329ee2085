-- The journal of the ledger's cell is one that a server could have made, where what it wrote has the forms.
use Rattle.std.proofs.Common.{◌≡◌, ◌≢◌, ◌⊎◌, ℕ, suc, ◌-◌, ◌<◌, ◌≤◌, ◌^◌, Bool, true, false, List, [], ◌∷◌, ◌++◌, length, map, flat_map, Option, refl, sym, ap, ◌∙◌, subst, inl, inr, ⊎_elim, arith}
use Rattle.std.proofs.lemmas.Bool.{and_from, cases_lt, lt-ltb, le-leb}
use Rattle.std.specs.Prelude.{◌==◌, nat_lt, nat_le}
use Rattle.base_types.specs.Moment.{is_moment}
use Rattle.base_types.specs.SessionName.{is_session_name}
use Rattle.sql_types.specs.declared.journal.JournalItem.{JournalItem}
use Rattle.sql_types.specs.declared.journal.JournalItem.TheVariants.{Tx, Close}
use Rattle.sql_types.specs.JournalRules.{ItemRules, is_alone}
use Rattle.spec_model.specs.Catalog.{Tables}
use Rattle.spec_model.specs.Events.{all_events}
use Rattle.spec_model.specs.Journals.{Line, IsLegal, IsLegalFrom, IsNext, serial, serial_from}
use Rattle.spec_model.specs.LegalJournals.{IsLegalJournal}
use Rattle.spec_model.specs.Script.{Reading, script, script_from}
use Rattle.law_frame.proofs.LegalSound.{legal_sound}
use Rattle.spec_history.specs.Acts.{SessionAct, commits, Act, by, closes, assigned_id, of}
use Rattle.spec_history.specs.Facts.{Shows}
use Rattle.spec_history.specs.Guards.{Good}
use Rattle.spec_history.specs.Histories.{HasItsName}
use Rattle.spec_history.specs.Journals.{times}
use Rattle.spec_history.specs.Lists.{Text, Each, In}
use Rattle.spec_history.specs.Meaning.{Meaning}
use Rattle.spec_history.specs.Serial.{ClosesPending}
use Rattle.spec_history.specs.Sessions.{SessionTransaction}
use Rattle.spec_history.specs.WantClashes.{AloneIn}
use Rattle.spec_history.specs.Worlds.{World, first, item_of, items_by, run, step}
use Rattle.spec_history.specs.Guards.{IsEnabled}
use Rattle.spec_history.proofs.Alone.{alone_step}
use Rattle.law_history.proofs.IdsAssigned.{all_named}
use Rattle.spec_history.proofs.Legal.{closings_run}
use Rattle.spec_history.proofs.Trace.{each_append, ids_from, ids_to}
use Rattle.spec_protocol.specs.Cells.{Cell}
use Rattle.spec_protocol.specs.JournalForms.{HaveForms, journal_in}
use Rattle.spec_protocol.specs.SeatNames.{names_of}
use Rattle.spec_protocol.specs.Seats.{SeatState}
use Rattle.spec_protocol.specs.Server.{Server}
use Rattle.spec_protocol.specs.StandTogether.{History, Stands}
use Rattle.spec_protocol.specs.TranscriptsAgree.{IsMoment, TranscriptsAgree}
use Rattle.law_protocol_steps.proofs.FreshIds.{none_in_tables}
use Rattle.law_protocol.proofs.HeldStatements.{in_flat}
use Rattle.law_protocol_steps.proofs.Ids.{each_in}
use Rattle.law_protocol_steps.proofs.JournalMore.{legal_more, serial_more}
use Rattle.law_protocol.proofs.SeatNames.{name_there}
use Rattle.law_protocol_ledger.proofs.QuietOnes.{none_at_all}

-- ---- a transaction that BEGIN didn't open has one statement

abbrev IsSingle : JournalItem → Type 0
IsSingle (Tx id name time explicit lines) = explicit ≡ false → (lines ≡ []) ⊎ ((line : Line) × (lines ≡ line ∷ []))
IsSingle (Close k) = Unit {0}

module _ (q : Meaning) (db : Text) where
  single_item : (w : World) (s : ℕ) (a : SessionAct) → IsEnabled q db w (by s a) → AloneIn (w.at s).transaction → Each IsSingle (items_by (w.at s) a)
  single_item w s (commits time place) k alone = subst (λ (o : Option SessionTransaction). Each IsSingle (item_of (w.at s) o time)) (sym k.stands.has)
      ((λ own. ⊎_elim (λ (e : k.mine.script ≡ []). inl e) (λ z. inr (z.0, z.1)) (subst AloneIn k.stands.has alone own)), tt)
  single_item w s a k alone = tt

  singles : (w : World) (es : List Act) → Good q db w es → ((u : ℕ) → AloneIn (w.at u).transaction) → Each IsSingle w.items → Each IsSingle (run w es).items
  singles w [] g alone h = h
  singles w (by s a ∷ es) g alone h = singles (step w (by s a)) es g.1 (alone_step q db w (by s a) g.0 alone) (each_append IsSingle w.items (items_by (w.at s) a) h (single_item w s a g.0 (alone s)))
  singles w (closes k ∷ es) g alone h = singles (step w (closes k)) es g.1 (alone_step q db w (closes k) g.0 alone) (each_append IsSingle w.items (Close k ∷ []) h (tt, tt))

abbrev HasLine : JournalItem → Type 0
HasLine (Tx id name time explicit lines) = lines ≢ []
HasLine (Close k) = Unit {0}

module _ (reads : Reading) where
  nothing_said : (explicit : Bool) (T : Tables) (id : ℕ) → (script reads explicit T id []).state.tables ≡ T
  unfolding script_from
  nothing_said explicit T id = refl

  -- what says nothing leaves no event
  has_line : (before : List JournalItem) (i : JournalItem) → IsLegal reads before → IsNext reads before (serial reads before) i → HasLine i
  has_line before (Tx id name time explicit lines) legal next = λ none. next.0.events
      (ap (λ (ls : List Line). all_events id (script reads explicit (serial reads before) id (map (λ l. l.0) ls)).state.tables) none ∙ ap (all_events id) (nothing_said explicit (serial reads before) id)
      ∙ (let sound = legal_sound reads before id legal next.1 in none_at_all id (serial reads before) (λ t l. none_in_tables id (serial reads before) t sound) sound.ids))
  has_line before (Close k) legal next = tt

  have_lines : (before items : List JournalItem) → IsLegal reads before → IsLegalFrom reads before (serial reads before) items → Each HasLine items
  have_lines before [] legal h = tt
  have_lines before (i ∷ is) legal h = (has_line before i legal h.0, have_lines (before ++ i ∷ []) is (legal_more reads before i legal h.0) (subst (λ (T : Tables). IsLegalFrom reads (before ++ i ∷ []) T is) (sym (serial_more reads before i)) h.1))

  all_have : (items : List JournalItem) → IsLegal reads items → Each HasLine items
  unfolding serial_from
  all_have items legal = have_lines [] items tt legal

one_line : (explicit : Bool) (lines : List Line) → (explicit ≡ false → (lines ≡ []) ⊎ ((line : Line) × (lines ≡ line ∷ []))) → lines ≢ [] → is_alone explicit lines ≡ true
one_line true lines single said = refl
one_line false lines single said = ⊎_elim (λ (e : lines ≡ []). absurd (said e)) (λ z. ap (λ (ls : List Line). length ls == 1) z.1) (single refl)

-- ---- closings

abbrev Fits : JournalItem → Type 0
Fits (Tx id name time explicit lines) = Unit {0}
Fits (Close k) = ItemRules (Close k)

closings_fit : (n : ℕ) (items : List JournalItem) → ClosesPending n items → Each Fits items
closings_fit n [] h = tt
closings_fit n (Tx id name time explicit lines ∷ is) h = (tt, closings_fit (suc n) is h)
closings_fit n (Close k ∷ is) h = (and_from (nat_le 1 k) _ (le-leb 1 k h.0) (le-leb k _ h.1), closings_fit (n - k) is h.3)

-- ---- names, ids and times

shown_in : (P : ℕ → Type 0) (xs : List SessionAct) (id : ℕ) → Shows assigned_id P xs → In id (flat_map assigned_id xs) → P id
shown_in P xs id h i = let a = in_flat assigned_id xs id i in each_in P (assigned_id a.of) id (each_in (λ x. Each P (assigned_id x)) xs a.of h a.has) a.is

none_shown : (acts : List SessionAct) (id : ℕ) → acts ≡ [] → In id (flat_map assigned_id acts) → ⊥
none_shown acts id e i = subst (λ (xs : List SessionAct). In id (flat_map assigned_id xs)) e i

module _ (v : Server) (history : History) (cells : List Cell) (seats : List SeatState) (s : Stands v history cells seats) (forms : HaveForms s.ledger seats) where
  abbrev agree : TranscriptsAgree v history s.ledger seats
  agree = s.transcripts_agree

  abbrev W : World
  W = run first history

  abbrev IsName : Text → Type 0
  IsName name = is_session_name name ≡ true

  its_name : (n : ℕ) → n < agree.count → IsName (W.at n).name
  its_name n l = let a = agree.all n l in each_in IsName (names_of a.0) (W.at n).name (forms.names (agree.owner n) a.0 a.1) (name_there v history s.ledger seats agree n l)

  each_rule : (items : List JournalItem) → Each (HasItsName history) items → Each (IsMoment seats) (times items) → Each IsSingle items → Each HasLine items → Each Fits items → Each ItemRules items
  each_rule [] named moments single lines fits = tt
  each_rule (Tx id name time explicit script ∷ is) named moments single lines fits = (
    record {
      id = and_from (nat_lt 0 id) _ (lt-ltb 0 id (shown_in (λ m. 1 ≤ m) (of n history) id (ids_from v.meaning s.ledger.database 1 n first history agree.good (omega arith)) named.0.drew)) (lt-ltb id _ below);
      session = subst IsName named.0.named (its_name n acted);
      time = each_in (λ t. is_moment t ≡ true) _ time (forms.moments moments.0.j moments.0.seat moments.0.there) moments.0.is;
      alone = one_line explicit script single.0 lines.0;
    },
    each_rule is named.1 moments.1 single.1 lines.1 fits.1,
  )
    where
      n : ℕ
      n = named.0.session

      acted : n < agree.count
      acted = ⊎_elim (λ (l : n < agree.count). l) (λ l. absurd (none_shown (of n history) id (agree.no_others n (omega arith)).1 named.0.drew)) (cases_lt n agree.count)

      below : id < 2 ^ 63
      below = let l = shown_in (λ m. m < W.next) (of n history) id (ids_to v.meaning s.ledger.database n first history agree.good) named.0.drew in let e = agree.next in let k = forms.ids in omega (arith, l, e, k)
  each_rule (Close k ∷ is) named moments single lines fits = (fits.0, each_rule is named.1 moments single.1 lines.1 fits.1)

  of_ledger : (P : JournalItem → Type 0) → Each P W.items → Each P s.ledger.items
  of_ledger P h = subst (Each P) agree.items h

  pub legal_journal : IsLegalJournal v.reads (journal_in s.ledger)
  legal_journal = record {
    version = refl;
    database = forms.database;
    items = each_rule s.ledger.items (of_ledger (HasItsName history) (all_named v.meaning s.ledger.database history agree.good)) agree.times (of_ledger IsSingle (singles v.meaning s.ledger.database first history agree.good (λ u. tt) tt))
        (all_have v.reads s.ledger.items s.ledger_is_legal.legal) (of_ledger Fits (closings_fit 0 W.items (closings_run v.meaning s.ledger.database first history agree.good tt)));
    legal = s.ledger_is_legal.legal;
  }
