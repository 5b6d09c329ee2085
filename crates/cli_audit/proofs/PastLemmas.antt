-- A journal from which a database goes on, or none; and what is called by a command that goes on from it.
use Rattle.std.specs.Prelude.{⊤}
use Rattle.std.proofs.Common.{◌≡◌, ◌∙◌, ℕ, List, [], ◌∷◌, ◌++◌, replicate, Option, Some, None, IfSome, Result, refl, sym, ap, subst, append-nil, inl, inr, arith}
use Rattle.std.specs.List.{AllByRecursion}
use Rattle.base_io.specs.declared.failed.Failed.{Failed}
use Rattle.base_io.specs.History.{Since}
use Rattle.base_io.specs.Store.{Names}
use Rattle.sql_types.specs.declared.journal.Journal.{Journal as JournalOf}
use Rattle.sql_types.specs.declared.journal.JournalItem.{JournalItem}
use Rattle.sql_types.specs.declared.journal.JournalItem.TheVariants.{Close}
use Rattle.spec_model.specs.Catalog.{Tables}
use Rattle.spec_model.specs.Journals.{IsLegal, IsLegalFrom, after_item}
use Rattle.spec_model.specs.Script.{Reading}
use Rattle.spec_model.specs.SystemTables.{first_tables}
use Rattle.spec_syntax.specs.Text.{statement_of}
use Rattle.spec_verify.proofs.EncodedSo.{all_front}
use Rattle.audit_replay.specs.GoesOn.{CannotGoOn, EndsInsideAt, LeadsOn, NoneEndsInside, end_inside}
use Rattle.audit_replay.specs.declared.past.Past.{Past}
use Rattle.audit_replay.specs.declared.running.ReplayErr.{ReplayErr}
use Rattle.audit_replay.specs.declared.running.ReplayErr.TheVariants as errors
use Rattle.cli_audit.specs.declared.status.Status.{Status}
use Rattle.cli_audit.specs.declared.status.Status.TheVariants.{Done, No, Words, Limit, SourceFault, SinkFault, VaultFault, Missing, Digests, Journal, Form, Memory, NotImage, NoEntry, Receipt, TooFar, NoDigestHeld}
use Rattle.cli_audit.specs.Answer.{Unfailed}
use Rattle.cli_audit.specs.AsOf.{AreReadsBehind, HasReadBehind, IsUnread}
use Rattle.cli_audit.specs.Calls.{AreGets, AreGetsInputAndPuts, ArePuts, Behind, Gave}
use Rattle.cli_audit.specs.Names.{LacksName, image_limit}
use Rattle.cli_audit.specs.Past.{AreReadsBehindPast, HasReadBehindPast, IsRefusedAt, LacksPast, MayGoOn}
use Rattle.cli_audit.specs.Replay.{AreRefused, IsSpelled, IsUnderName, JournalUnder, LacksJournal, replay_status}
use Rattle.cli_audit.proofs.AsOfLemmas.{by_unread}
use Rattle.cli_audit.proofs.CallLemmas.{since_none, since_weaker}
use Rattle.cli_audit.proofs.GetLemmas.{Answers, by_name, name_lacks}
use Rattle.cli_audit.proofs.ReplayLemmas.{AgreesAgain, differs_illegal, gets_then, then_or}

-- memory ran out when k names had been read
gave_all : (k : ℕ) (old now : Answers → Type 0) → Since old now (Gave k) → Since old now (AreGets k Memory)
gave_all k old now = since_weaker old now (Gave k) (AreGets k Memory) (λ answers all. (inl all.0, omega (arith, all.1)))

-- ---- the journal under a name

pub lacks_name : (status : Status) (name : List ℕ) (names : Option Names) (vault : Type 0) → LacksName status 1 image_limit names name
    → (status ≡ VaultFault → vault) → LacksJournal status name names vault
lacks_name status name names vault lacks fault =
    by_name (λ s. LacksName s 1 image_limit names name → (s ≡ VaultFault → vault) → LacksJournal s name names vault)
    (λ l f. l) (λ l f. f refl) (λ which l f. l) (λ l f. tt) status (name_lacks 1 image_limit names name status lacks) lacks fault

by_refused : (P : Status → Type 0) (bytes : List ℕ) → (AreRefused (Journal None) bytes → P (Journal None)) → P Memory → (status : Status) → AreRefused status bytes → P status
by_refused P bytes none short (Journal None) refused = none refused
by_refused P bytes none short (Journal (Some at)) refused = absurd refused
by_refused P bytes none short Memory refused = short
by_refused P bytes none short Done refused = absurd refused
by_refused P bytes none short No refused = absurd refused
by_refused P bytes none short Words refused = absurd refused
by_refused P bytes none short Limit refused = absurd refused
by_refused P bytes none short SourceFault refused = absurd refused
by_refused P bytes none short SinkFault refused = absurd refused
by_refused P bytes none short VaultFault refused = absurd refused
by_refused P bytes none short (Missing which) refused = absurd refused
by_refused P bytes none short (Digests index) refused = absurd refused
by_refused P bytes none short (Form line) refused = absurd refused
by_refused P bytes none short NoEntry refused = absurd refused
by_refused P bytes none short NotImage refused = absurd refused
by_refused P bytes none short Receipt refused = absurd refused
by_refused P bytes none short (TooFar entries) refused = absurd refused
by_refused P bytes none short NoDigestHeld refused = absurd refused

module _ (status : Status) (bytes : List ℕ) (refused : AreRefused status bytes) where
  pub lacks_journal : (name : List ℕ) (names : Option Names) (vault : Type 0) → IsUnderName name names bytes → LacksJournal status name names vault
  lacks_journal name names vault are_in_vault = by_refused (λ s. LacksJournal s name names vault) bytes (λ none. (bytes, are_in_vault, none)) tt status refused

  -- the one name was read then
  pub gets_refused : (old now : Answers → Type 0) → Since old now (Gave 1) → Since old now (AreGets 1 status)
  gets_refused old now gave = by_refused (λ s. Since old now (AreGets 1 s)) bytes (λ none. gave) (gave_all 1 old now gave) status refused

  -- and the vault hasn't failed
  pub unfailed_refused : (vault : Type 0) → vault → Unfailed status ⊤ vault ⊤
  unfailed_refused vault same = by_refused (λ s. Unfailed s ⊤ vault ⊤) bytes (λ none. (tt, same, tt)) (tt, same, tt) status refused

pub this_one : (name : List ℕ) (names : Option Names) (J : JournalOf) (bytes : List ℕ) → IsUnderName name names bytes → IsSpelled J bytes
    → JournalUnder name names (λ K. K ≡ J)
this_one name names J bytes are_in_vault spelled = record { J = J; bytes = bytes; is_in_vault = are_in_vault; spelled = spelled; such = refl }

-- what is known of the journal
pub such_under : (name : List ℕ) (names : Option Names) (J : JournalOf) (Such : JournalOf → Type 0) → JournalUnder name names (λ K. K ≡ J) → Such J
    → JournalUnder name names Such
such_under name names J Such under such =
    record { J = under.J; bytes = under.bytes; is_in_vault = under.is_in_vault; spelled = under.spelled; such = subst Such (sym under.such) such }

-- why a database doesn't go on from it, though a journal stands there
pub lacks_past : (status : Status) (name : List ℕ) (names : Option Names) (vault : Type 0) → LacksJournal status name names vault → LacksPast status name names vault
lacks_past (Journal None) name names vault lacks = lacks
lacks_past (Journal (Some at)) name names vault lacks = absurd lacks
lacks_past Limit name names vault lacks = lacks
lacks_past VaultFault name names vault lacks = lacks
lacks_past (Missing which) name names vault lacks = lacks
lacks_past Memory name names vault lacks = lacks
lacks_past Done name names vault lacks = absurd lacks
lacks_past No name names vault lacks = absurd lacks
lacks_past Words name names vault lacks = absurd lacks
lacks_past SourceFault name names vault lacks = absurd lacks
lacks_past SinkFault name names vault lacks = absurd lacks
lacks_past (Digests index) name names vault lacks = absurd lacks
lacks_past (Form line) name names vault lacks = absurd lacks
lacks_past NoEntry name names vault lacks = absurd lacks
lacks_past NotImage name names vault lacks = absurd lacks
lacks_past Receipt name names vault lacks = absurd lacks
lacks_past (TooFar entries) name names vault lacks = absurd lacks
lacks_past NoDigestHeld name names vault lacks = absurd lacks

-- ---- a journal from which none goes on

in_the_middle : {A : Type 0} (P : A → Type 0) (xs : List A) (x : A) (ys : List A) → AllByRecursion P (xs ++ x ∷ ys) → P x
in_the_middle P [] x ys h = h.0
in_the_middle P (z ∷ zs) x ys h = in_the_middle P zs x ys h.1

ends_not_inside : (items : List JournalItem) (item statement : ℕ) → EndsInsideAt statement_of (errors.Differs item statement) items → NoneEndsInside statement_of items → ⊥
ends_not_inside items item statement ends inside =
    let none : end_inside statement_of ends.1 ≡ None = in_the_middle (λ i. end_inside statement_of i ≡ None) ends.0 ends.1 ends.2 (subst (NoneEndsInside statement_of) ends.3 inside) in
    let some : end_inside statement_of ends.1 ≡ Some statement = ends.6 in
    cc

not_on : AgreesAgain → (J : JournalOf) (item statement : ℕ) → CannotGoOn statement_of (errors.Differs item statement) J.items → MayGoOn J → ⊥
not_on again J item statement (inl differs) may = differs_illegal again statement_of J.items item statement differs may.0
not_on again J item statement (inr ends) may = ends_not_inside J.items item statement ends.1 may.1

pub cannot_go_on : AgreesAgain → (name : List ℕ) (names : Option Names) (J : JournalOf) (vault : Type 0) → JournalUnder name names (λ K. K ≡ J)
    → (error : ReplayErr) → CannotGoOn statement_of error J.items → LacksPast (replay_status error) name names vault
cannot_go_on again name names J vault under (errors.Differs item statement) cannot =
    such_under name names J (λ K. IsRefusedAt K item statement) under (record { not_on = not_on again J item statement cannot; cannot = cannot })
cannot_go_on again name names J vault under errors.Memory cannot = tt

pub gets_replayed : (error : ReplayErr) (old now : Answers → Type 0) → Since old now (Gave 1) → Since old now (AreGets 1 (replay_status error))
gets_replayed (errors.Differs item statement) old now gave = gave
gets_replayed errors.Memory old now gave = gave_all 1 old now gave

pub unfailed_replayed : (error : ReplayErr) (vault : Type 0) → vault → Unfailed (replay_status error) ⊤ vault ⊤
unfailed_replayed (errors.Differs item statement) vault same = (tt, same, tt)
unfailed_replayed errors.Memory vault same = (tt, same, tt)

-- ---- a journal from which one goes on

legal_front : (reads : Reading) (before : List JournalItem) (T : Tables) (xs ys : List JournalItem) → IsLegalFrom reads before T (xs ++ ys) → IsLegalFrom reads before T xs
legal_front reads before T [] ys legal = tt
legal_front reads before T (x ∷ xs) ys legal = (legal.0, legal_front reads (before ++ x ∷ []) (after_item reads T x) xs ys legal.1)

pub leads_may_go_on : (h : List ℕ → List ℕ) (size : ℕ) (J : JournalOf) (past : Past) → LeadsOn h size J past → MayGoOn J
leads_may_go_on h size J past leads =
    let closings : List JournalItem = replicate leads.count (Close size) in (
      legal_front statement_of [] first_tables J.items closings (subst (IsLegal statement_of) leads.items leads.led.legal),
      all_front (λ i. end_inside statement_of i ≡ None) J.items closings (subst (NoneEndsInside statement_of) leads.items leads.led.inside),
    )

-- ---- where no past is read, nothing else is called

-- by cases on the status
pub by_past : (P : Status → Type 0) (name : List ℕ) (names : Option Names) (vault : Type 0) → P Limit → ((which : ℕ) → P (Missing which))
    → ((at : Option (ℕ × ℕ)) → P (Journal at)) → P VaultFault → P Memory → (status : Status) → LacksPast status name names vault → P status
by_past P name names vault long missing refused failed short Limit lacks = long
by_past P name names vault long missing refused failed short VaultFault lacks = failed
by_past P name names vault long missing refused failed short (Missing which) lacks = missing which
by_past P name names vault long missing refused failed short (Journal at) lacks = refused at
by_past P name names vault long missing refused failed short Memory lacks = short
by_past P name names vault long missing refused failed short Done lacks = absurd lacks
by_past P name names vault long missing refused failed short No lacks = absurd lacks
by_past P name names vault long missing refused failed short Words lacks = absurd lacks
by_past P name names vault long missing refused failed short SourceFault lacks = absurd lacks
by_past P name names vault long missing refused failed short SinkFault lacks = absurd lacks
by_past P name names vault long missing refused failed short (Digests index) lacks = absurd lacks
by_past P name names vault long missing refused failed short NoEntry lacks = absurd lacks
by_past P name names vault long missing refused failed short NotImage lacks = absurd lacks
by_past P name names vault long missing refused failed short Receipt lacks = absurd lacks
by_past P name names vault long missing refused failed short (TooFar entries) lacks = absurd lacks
by_past P name names vault long missing refused failed short NoDigestHeld lacks = absurd lacks
by_past P name names vault long missing refused failed short (Form line) lacks = absurd lacks

module _ (name : List ℕ) (names : Option Names) (vault : Type 0) (status : Status) (lacks : LacksPast status name names vault) where
  pub past_unread : (input : Option (List ℕ)) → IfSome input (λ all. HasReadBehindPast status all input)
  past_unread None = tt
  past_unread (Some all) =
      by_past (λ s. HasReadBehindPast s all (Some all)) name names vault (inl refl) (λ which. refl) (λ at. refl) (inl refl) (0, omega arith, refl) status lacks

  pub past_no_reads : (now : List (Result ℕ Failed) → Type 0) → Since now now (AreReadsBehindPast status)
  past_no_reads now =
      since_none now (AreReadsBehindPast status)
      (by_past (λ s. AreReadsBehindPast s []) name names vault (inl refl) (λ which. refl) (λ at. refl) (inl refl) (inl refl) status lacks)

  pub past_gets : (old now : Answers → Type 0) → Since old now (AreGets 1 status) → Since old now (AreGetsInputAndPuts 1 status)
  past_gets old now =
      since_weaker old now (AreGets 1 status) (AreGetsInputAndPuts 1 status)
      (by_past (λ s. (answers : Answers) → AreGets 1 s answers → AreGetsInputAndPuts 1 s answers) name names vault
      (λ answers gets. inl gets) (λ which answers gets. gets) (λ at answers gets. gets) (λ answers gets. inl gets) (λ answers gets. inl gets) status lacks)

  pub past_unfailed : (calm source sink : Type 0) → source → sink → Unfailed status ⊤ calm ⊤ → Unfailed status source calm sink
  past_unfailed calm source sink s k =
      by_past (λ e. Unfailed e ⊤ calm ⊤ → Unfailed e source calm sink) name names vault
      (λ u. (s, u.1, k)) (λ which u. (s, u.1, k)) (λ at u. (s, u.1, k)) (λ u. (s, k)) (λ u. (s, u.1, k)) status lacks

-- ---- the input isn't read to its end behind the names

module _ (input : Option (List ℕ)) (source : Type 0) (status : Status) (unread : IsUnread status input source) where
  pub unread_gets_behind : (k : ℕ) (old now : Answers → Type 0) → Since old now (Gave k) → Since old now (AreGetsInputAndPuts k status)
  unread_gets_behind k old now =
      since_weaker old now (Gave k) (AreGetsInputAndPuts k status)
      (by_unread (λ s. (answers : Answers) → Gave k answers → AreGetsInputAndPuts k s answers) input source
      (λ much answers gave. inr gave) (λ fault answers gave. gave) (λ answers gave. inl (inl gave.0, omega (arith, gave.1))) status unread)

  pub unread_read_behind : (all : List ℕ) (rest : Option (List ℕ)) → HasReadBehind status all rest → HasReadBehindPast status all rest
  unread_read_behind all rest =
      by_unread (λ s. HasReadBehind s all rest → HasReadBehindPast s all rest) input source (λ much r. r) (λ fault r. r) (λ r. r) status unread

  pub unread_reads_behind : (old now : List (Result ℕ Failed) → Type 0) → Since old now (AreReadsBehind status) → Since old now (AreReadsBehindPast status)
  unread_reads_behind old now =
      by_unread (λ s. Since old now (AreReadsBehind s) → Since old now (AreReadsBehindPast s)) input source (λ much r. r) (λ fault r. r) (λ r. r) status unread

-- ---- the input was read, and files may be put

-- with one of these statuses
abbrev pub IsBehindInput : Status → Type 0
IsBehindInput Done = Unit {0}
IsBehindInput Limit = Unit {0}
IsBehindInput SinkFault = Unit {0}
IsBehindInput VaultFault = Unit {0}
IsBehindInput (Form line) = Unit {0}
IsBehindInput Memory = Unit {0}
IsBehindInput _ = ⊥

pub by_run : (P : Status → Type 0) → P Done → P Limit → P SinkFault → P VaultFault → ((line : ℕ) → P (Form line)) → P Memory → (status : Status) → IsBehindInput status → P status
by_run P done many faulty failed form short Done is = done
by_run P done many faulty failed form short Limit is = many
by_run P done many faulty failed form short SinkFault is = faulty
by_run P done many faulty failed form short VaultFault is = failed
by_run P done many faulty failed form short (Form line) is = form line
by_run P done many faulty failed form short Memory is = short
by_run P done many faulty failed form short No is = absurd is
by_run P done many faulty failed form short Words is = absurd is
by_run P done many faulty failed form short SourceFault is = absurd is
by_run P done many faulty failed form short (Missing which) is = absurd is
by_run P done many faulty failed form short (Digests index) is = absurd is
by_run P done many faulty failed form short (Journal at) is = absurd is
by_run P done many faulty failed form short NoEntry is = absurd is
by_run P done many faulty failed form short NotImage is = absurd is
by_run P done many faulty failed form short Receipt is = absurd is
by_run P done many faulty failed form short (TooFar entries) is = absurd is
by_run P done many faulty failed form short NoDigestHeld is = absurd is

module _ (old mid new : Answers → Type 0) (k : ℕ) where
  -- nothing was put
  gave_alone : Since old mid (Gave k) → Since mid new (λ answers. answers ≡ []) → Since old new (Gave k)
  gave_alone gave none =
      since_weaker old new (Behind k (λ answers. answers ≡ [])) (Gave k)
      (λ answers b. subst (Gave k) (sym (b.2 ∙ ap (λ (puts : Answers). b.0 ++ puts) b.4 ∙ append-nil b.0)) b.3) (gets_then old mid new k (λ answers. answers ≡ []) gave none)

  too_many : Since old mid (Gave k) → Since mid new (λ answers. answers ≡ []) → Since old new (AreGetsInputAndPuts k Limit)
  too_many gave none = since_weaker old new (Gave k) (AreGetsInputAndPuts k Limit) (λ answers all. inr all) (gave_alone gave none)

  pub run_gets : (status : Status) → IsBehindInput status → Since old mid (Gave k) → Since mid new (ArePuts status) → Since old new (AreGetsInputAndPuts k status)
  run_gets status is gave =
      by_run (λ s. Since mid new (ArePuts s) → Since old new (AreGetsInputAndPuts k s))
      (gets_then old mid new k (ArePuts Done) gave) (too_many gave) (gets_then old mid new k (ArePuts SinkFault) gave)
      (then_or old mid new k VaultFault gave) (λ line. gave_alone gave) (then_or old mid new k Memory gave) status is
