-- How a call of `asof` ends.
use Rattle.std.proofs.Common.{◌≡◌, ◌≤◌, ◌∙◌, ℕ, List, [], length, Option, Some, None, IfSome, Ok, Err, Result, Vec, refl, sym, ap, subst, inl, inr, arith}
use Rattle.std.proofs.Math.Seq.{drop-length}
use Rattle.std.specs.Prelude.{⊤, string_bytes}
use Rattle.std.specs.declared.alloc.Global.{Global}
use Rattle.base_io.specs.declared.failed.Failed.{Failed}
use Rattle.base_io.specs.declared.vault.VaultErr.{VaultErr}
use Rattle.base_io.specs.History.{EndsAt, Since}
use Rattle.base_io.specs.Store.{Names}
use Rattle.sql_types.specs.declared.digest.HeldDigest.{HeldDigest}
use Rattle.format_asof.specs.Texts.{texts_of}
use Rattle.spec_verify.specs.declared.place.Verdict.{Verdict}
use Rattle.audit_answers.specs.declared.coverage.Coverage.{Coverage}
use Rattle.audit_answers.specs.declared.answering.Answers.{Answers}
use Rattle.audit_answers.specs.declared.answering.Answers.TheVariants.{Refused, Written}
use Rattle.cli_audit.specs.declared.status.Status.{Status}
use Rattle.cli_audit.specs.declared.status.Status.TheVariants.{Done, No, Words, Limit, SourceFault, SinkFault, VaultFault, Missing, Digests, Journal, Form, Memory, NotImage, NoEntry, Receipt, TooFar, NoDigestHeld}
use Rattle.cli_audit.specs.Answer.{Unfailed}
use Rattle.cli_audit.specs.declared.transfer.ReadErr.TheVariants as reading
use Rattle.cli_audit.specs.AsOf.{AreReadsBehind, AreToldSo, AsOfCause, EndsSaying, HasAnswered, HasReadBehind, IsTold, IsUnread, LacksAnswers, LacksTexts, LacksTold, SaysAnswers, StandAndCame, answers_note}
use Rattle.cli_audit.specs.Subject.{AreHeld, AreSubject, FileIsRefused, HasSubject, LacksSubject}
use Rattle.cli_audit.specs.Calls.{AreGets, AreGetsBefore, AreWrites, Gave, Moved}
use Rattle.cli_audit.specs.Receipt.{EndsRefusing}
use Rattle.cli_audit.specs.Transfer.{input_limit, IsInputRead, IsTooMuch}
use Rattle.cli_audit.specs.Verify.{AreRefused, SaidOrIdle}
use Rattle.cli_audit.proofs.CallLemmas.{since_none, since_weaker}
use Rattle.cli_audit.proofs.GetLemmas.{IsAtName, by_name, name_lacks}

if_some : {A : Type 0} {P Q : A → Type 0} (o : Option A) → IfSome o P → ((a : A) → P a → Q a) → IfSome o Q
if_some None p weaker = tt
if_some (Some a) p weaker = weaker a p

-- ---- a name isn't read

at_name : (image : List ℕ) (digests : Option (List ℕ)) (names : Option Names) (status : Status) → LacksSubject status image digests names → IsAtName status
at_name image None names status lacks = name_lacks 1 _ names image status lacks
at_name image (Some digests) names status (inl lacks) = name_lacks 1 _ names image status lacks
at_name image (Some digests) names status (inr lacks) = name_lacks 2 _ names digests status lacks.2

module _ (image : List ℕ) (digests : Option (List ℕ)) (names : Option Names) (status : Status) (lacks : LacksSubject status image digests names) where
  pub name_answers : (h : List ℕ → List ℕ) (n : ℕ) (input : Option (List ℕ)) (source vault : Type 0) → (status ≡ VaultFault → vault)
      → LacksAnswers status h image n digests input names source vault
  name_answers h n input source vault fault =
      by_name (λ s. LacksSubject s image digests names → (s ≡ VaultFault → vault) → LacksAnswers s h image n digests input names source vault)
      (λ l f. inl l) (λ l f. f refl) (λ which l f. l) (λ l f. tt) status (at_name image digests names status lacks) lacks fault

  pub name_unread : (input : Option (List ℕ)) → IfSome input (λ all. HasReadBehind status all input)
  name_unread None = tt
  name_unread (Some all) =
      by_name (λ s. HasReadBehind s all (Some all)) (inl refl) refl (λ which. refl) (0, omega arith, refl) status (at_name image digests names status lacks)

  pub name_no_reads : (now : List (Result ℕ Failed) → Type 0) → Since now now (AreReadsBehind status)
  name_no_reads now =
      since_none now (AreReadsBehind status)
      (by_name (λ s. AreReadsBehind s []) (inl refl) refl (λ which. refl) (inl refl) status (at_name image digests names status lacks))

  pub name_gets : (k : ℕ) (old new : List (Result ⊤ VaultErr) → Type 0) → Since old new (AreGets k status) → Since old new (AreGetsBefore k status)
  name_gets k old new =
      since_weaker old new (AreGets k status) (AreGetsBefore k status)
      (by_name (λ s. (answers : List (Result ⊤ VaultErr)) → AreGets k s answers → AreGetsBefore k s answers)
      (λ answers gets. inl gets) (λ answers gets. gets) (λ which answers gets. gets) (λ answers gets. gets) status (at_name image digests names status lacks))

  -- the source was not called
  pub name_unfailed : (source vault sink : Type 0) → source → Unfailed status ⊤ vault sink → Unfailed status source vault sink
  name_unfailed source vault sink is =
      by_name (λ s. Unfailed s ⊤ vault sink → Unfailed s source vault sink)
      (λ u. (is, u.1, u.2)) (λ u. (is, u.1)) (λ which u. (is, u.1, u.2)) (λ u. (is, u.1, u.2)) status (at_name image digests names status lacks)

-- ---- the input

module _ (input rest : Option (List ℕ)) where
  pub read_came : (v : Vec ℕ Global) → IfSome input (λ all. IsInputRead all rest (Ok v)) → IfSome input (λ all. v.items ≡ all)
  read_came v came = if_some input came (λ all is. is.0)

  pub read_none : (v : Vec ℕ Global) → IfSome input (λ all. IsInputRead all rest (Ok v)) → IfSome input (λ all. rest ≡ Some [])
  read_none v came = if_some input came (λ all is. is.2)

  pub read_past : IfSome input (λ all. IsInputRead all rest (Err reading.TooMuch)) → IfSome input (λ all. HasReadBehind Limit all rest)
  read_past came = if_some input came (λ all is. inr is.1)

-- ---- the input isn't read to its end

pub by_unread : (P : Status → Type 0) (input : Option (List ℕ)) (source : Type 0) → (IfSome input IsTooMuch → P Limit) → (source → P SourceFault) → P Memory
    → (status : Status) → IsUnread status input source → P status
by_unread P input source long failed short Limit unread = long unread
by_unread P input source long failed short SourceFault unread = failed unread
by_unread P input source long failed short Memory unread = short
by_unread P input source long failed short Done unread = absurd unread
by_unread P input source long failed short No unread = absurd unread
by_unread P input source long failed short Words unread = absurd unread
by_unread P input source long failed short SinkFault unread = absurd unread
by_unread P input source long failed short VaultFault unread = absurd unread
by_unread P input source long failed short (Missing which) unread = absurd unread
by_unread P input source long failed short (Digests index) unread = absurd unread
by_unread P input source long failed short (Journal at) unread = absurd unread
by_unread P input source long failed short (Form line) unread = absurd unread
by_unread P input source long failed short NoEntry unread = absurd unread
by_unread P input source long failed short NotImage unread = absurd unread
by_unread P input source long failed short Receipt unread = absurd unread
by_unread P input source long failed short (TooFar entries) unread = absurd unread
by_unread P input source long failed short NoDigestHeld unread = absurd unread

module _ (input : Option (List ℕ)) (source : Type 0) (status : Status) (unread : IsUnread status input source) where
  pub unread_answers : (h : List ℕ → List ℕ) (image : List ℕ) (n : ℕ) (digests : Option (List ℕ)) (names : Option Names) (vault : Type 0)
      → HasSubject image digests names → LacksAnswers status h image n digests input names source vault
  unread_answers h image n digests names vault has =
      by_unread (λ s. LacksAnswers s h image n digests input names source vault) input source (λ much. inr (has, much)) (λ fault. fault) tt status unread

  pub unread_gets : (k : ℕ) (old new : List (Result ⊤ VaultErr) → Type 0) → Since old new (Gave k) → Since old new (AreGetsBefore k status)
  unread_gets k old new =
      since_weaker old new (Gave k) (AreGetsBefore k status)
      (by_unread (λ s. (answers : List (Result ⊤ VaultErr)) → Gave k answers → AreGetsBefore k s answers) input source
      (λ much answers gave. inr gave) (λ fault answers gave. gave) (λ answers gave. (inl gave.0, omega (arith, gave.1))) status unread)

  pub unread_unfailed : (calm vault : Type 0) → vault → Unfailed status calm ⊤ ⊤ → Unfailed status calm vault ⊤
  unread_unfailed calm vault is =
      by_unread (λ s. Unfailed s calm ⊤ ⊤ → Unfailed s calm vault ⊤) input source (λ much u. (u.0, is, tt)) (λ fault u. (is, tt)) (λ u. (u.0, is, tt)) status unread

-- ---- nothing is told of what was read

pub texts_lacking : (h : List ℕ → List ℕ) (n : ℕ) (bytes : List ℕ) (file : Option (List ℕ)) (input : List ℕ) (status : Status) → LacksTexts status input
    → LacksTold status h n bytes file input
texts_lacking h n bytes file input (Form line) lacks = lacks
texts_lacking h n bytes file input Memory lacks = tt
texts_lacking h n bytes file input Done lacks = absurd lacks
texts_lacking h n bytes file input No lacks = absurd lacks
texts_lacking h n bytes file input Words lacks = absurd lacks
texts_lacking h n bytes file input Limit lacks = absurd lacks
texts_lacking h n bytes file input SourceFault lacks = absurd lacks
texts_lacking h n bytes file input SinkFault lacks = absurd lacks
texts_lacking h n bytes file input VaultFault lacks = absurd lacks
texts_lacking h n bytes file input (Missing which) lacks = absurd lacks
texts_lacking h n bytes file input (Digests index) lacks = absurd lacks
texts_lacking h n bytes file input (Journal at) lacks = absurd lacks
texts_lacking h n bytes file input NoEntry lacks = absurd lacks
texts_lacking h n bytes file input NotImage lacks = absurd lacks
texts_lacking h n bytes file input Receipt lacks = absurd lacks
texts_lacking h n bytes file input (TooFar entries) lacks = absurd lacks
texts_lacking h n bytes file input NoDigestHeld lacks = absurd lacks

file_refused : (h : List ℕ → List ℕ) (n : ℕ) (bytes file input : List ℕ) (texts : List (List ℕ)) → texts_of input ≡ Ok texts → (status : Status) → AreRefused status file
    → LacksTold status h n bytes (Some file) input
file_refused h n bytes file input texts read (Digests index) refused = record { texts = texts; read = read; refused = refused }
file_refused h n bytes file input texts read Memory refused = tt
file_refused h n bytes file input texts read Done refused = absurd refused
file_refused h n bytes file input texts read No refused = absurd refused
file_refused h n bytes file input texts read Words refused = absurd refused
file_refused h n bytes file input texts read Limit refused = absurd refused
file_refused h n bytes file input texts read SourceFault refused = absurd refused
file_refused h n bytes file input texts read SinkFault refused = absurd refused
file_refused h n bytes file input texts read VaultFault refused = absurd refused
file_refused h n bytes file input texts read (Missing which) refused = absurd refused
file_refused h n bytes file input texts read (Journal at) refused = absurd refused
file_refused h n bytes file input texts read (Form line) refused = absurd refused
file_refused h n bytes file input texts read NoEntry refused = absurd refused
file_refused h n bytes file input texts read NotImage refused = absurd refused
file_refused h n bytes file input texts read Receipt refused = absurd refused
file_refused h n bytes file input texts read (TooFar entries) refused = absurd refused
file_refused h n bytes file input texts read NoDigestHeld refused = absurd refused

pub file_lacking : (h : List ℕ → List ℕ) (n : ℕ) (bytes : List ℕ) (file : Option (List ℕ)) (input : List ℕ) (texts : List (List ℕ)) → texts_of input ≡ Ok texts → (status : Status)
    → FileIsRefused status file → LacksTold status h n bytes file input
file_lacking h n bytes None input texts read status refused = absurd refused
file_lacking h n bytes (Some file) input texts read status refused = file_refused h n bytes file input texts read status refused

-- of these texts and digests, which lie in slices
pub told_so : (file : Option (List ℕ)) (input : List ℕ) (texts words : List (List ℕ)) (held slice : List HeldDigest) → words ≡ texts → slice ≡ held → texts_of input ≡ Ok texts → AreHeld file held
    → (Such : List HeldDigest → List (List ℕ) → Type 0) → Such slice words → AreToldSo file input Such
told_so file input texts words held slice same also read are Such such = record {
  texts = texts;
  read = read;
  held = held;
  are_held = are;
  such = subst (λ (l : List HeldDigest). Such l texts) also (subst (λ (t : List (List ℕ)). Such slice t) same such);
}

module _ (h : List ℕ → List ℕ) (n : ℕ) (bytes : List ℕ) (file : Option (List ℕ)) (came : List ℕ) where
  by_told : (P : Status → Type 0) → ((index : Option ℕ) → LacksTold (Digests index) h n bytes file came → P (Digests index))
      → ((line : ℕ) → LacksTold (Form line) h n bytes file came → P (Form line)) → ((entries : ℕ) → LacksTold (TooFar entries) h n bytes file came → P (TooFar entries)) → P Memory
      → (status : Status) → LacksTold status h n bytes file came → P status
  by_told P digests form far short (Digests index) lacks = digests index lacks
  by_told P digests form far short (Form line) lacks = form line lacks
  by_told P digests form far short Memory lacks = short
  by_told P digests form far short (TooFar entries) lacks = far entries lacks
  by_told P digests form far short NoDigestHeld lacks = absurd lacks
  by_told P digests form far short Done lacks = absurd lacks
  by_told P digests form far short No lacks = absurd lacks
  by_told P digests form far short Words lacks = absurd lacks
  by_told P digests form far short Limit lacks = absurd lacks
  by_told P digests form far short SourceFault lacks = absurd lacks
  by_told P digests form far short SinkFault lacks = absurd lacks
  by_told P digests form far short VaultFault lacks = absurd lacks
  by_told P digests form far short (Missing which) lacks = absurd lacks
  by_told P digests form far short (Journal at) lacks = absurd lacks
  by_told P digests form far short NoEntry lacks = absurd lacks
  by_told P digests form far short NotImage lacks = absurd lacks
  by_told P digests form far short Receipt lacks = absurd lacks

  module _ (status : Status) (lacks : LacksTold status h n bytes file came) where
    read_all : (all : List ℕ) (rest : Option (List ℕ)) → length all ≤ input_limit → rest ≡ Some [] → HasReadBehind status all rest
    read_all all rest within is =
        by_told (λ s. HasReadBehind s all rest) (λ index l. is) (λ line l. is) (λ entries l. is)
        (length all, omega (arith, within), is ∙ ap Some (sym (drop-length all))) status lacks

    pub work_read : (input rest : Option (List ℕ)) (now : List ℕ) → IfSome input (λ all. now ≡ all) → length now ≤ input_limit → IfSome input (λ all. rest ≡ Some [])
        → IfSome input (λ all. HasReadBehind status all rest)
    work_read None rest now is within none = tt
    work_read (Some all) rest now is within none = read_all all rest (subst (λ (l : List ℕ). length l ≤ input_limit) is within) none

    pub work_reads : (old new : List (Result ℕ Failed) → Type 0) → Since old new (EndsAt Moved (Ok 0)) → Since old new (AreReadsBehind status)
    work_reads old new =
        since_weaker old new (EndsAt Moved (Ok 0)) (AreReadsBehind status)
        (by_told (λ s. (answers : List (Result ℕ Failed)) → EndsAt Moved (Ok 0) answers → AreReadsBehind s answers)
        (λ index l answers end. end) (λ line l answers end. end) (λ entries l answers end. end) (λ answers end. inr (inr end)) status lacks)

    pub work_gets : (k : ℕ) (old new : List (Result ⊤ VaultErr) → Type 0) → Since old new (Gave k) → Since old new (AreGetsBefore k status)
    work_gets k old new =
        since_weaker old new (Gave k) (AreGetsBefore k status)
        (by_told (λ s. (answers : List (Result ⊤ VaultErr)) → Gave k answers → AreGetsBefore k s answers)
        (λ index l answers gave. gave) (λ line l answers gave. gave) (λ entries l answers gave. gave) (λ answers gave. (inl gave.0, omega (arith, gave.1))) status lacks)

    pub work_unfailed : (source vault : Type 0) → source → vault → Unfailed status source vault ⊤
    work_unfailed source vault s v =
        by_told (λ e. Unfailed e source vault ⊤) (λ index l. (s, v, tt)) (λ line l. (s, v, tt)) (λ entries l. (s, v, tt)) (s, v, tt) status lacks

-- of what stands under the names and came, which lies in slices
module _ (image : List ℕ) (digests input : Option (List ℕ)) (names : Option Names) (bytes slice : List ℕ) (file held : Option (List ℕ)) (came now : List ℕ) (is : slice ≡ bytes) (also : held ≡ file) (again : now ≡ came)
    (are_in_vault : IfSome names (λ m. AreSubject image digests m bytes file)) (is_input : IfSome input (λ all. came ≡ all)) (within : length came ≤ input_limit) where
  pub of_these : (Such : List ℕ → Option (List ℕ) → List ℕ → Type 0) → Such slice held now → StandAndCame image digests names input Such
  of_these Such such = record {
    bytes = bytes;
    file = file;
    came = came;
    are_in_vault = are_in_vault;
    is_input = is_input;
    within = within;
    such = subst (λ (l : List ℕ). Such l file came) is (subst (λ (o : Option (List ℕ)). Such slice o came) also (subst (λ (l : List ℕ). Such slice held l) again such));
  }

  pub work_answers : (h : List ℕ → List ℕ) (n : ℕ) (source vault : Type 0) (status : Status) → LacksTold status h n slice held now
      → LacksAnswers status h image n digests input names source vault
  work_answers h n source vault =
      by_told h n slice held now (λ s. LacksAnswers s h image n digests input names source vault)
      (λ index l. of_these (LacksTold (Digests index) h n) l) (λ line l. of_these (LacksTold (Form line) h n) l) (λ entries l. of_these (LacksTold (TooFar entries) h n) l) tt

-- ---- nothing is said

module _ (h : List ℕ → List ℕ) (image : List ℕ) (n : ℕ) (digests input : Option (List ℕ)) (names : Option Names) (source vault : Type 0) where
  by_lacking : (P : Status → Type 0) → P Limit → P VaultFault → P SourceFault → ((which : ℕ) → P (Missing which)) → ((index : Option ℕ) → P (Digests index))
      → ((line : ℕ) → P (Form line)) → ((entries : ℕ) → P (TooFar entries)) → P Memory → (status : Status) → LacksAnswers status h image n digests input names source vault → P status
  by_lacking P long failed source missing digests form far short Limit lacks = long
  by_lacking P long failed source missing digests form far short SourceFault lacks = source
  by_lacking P long failed source missing digests form far short VaultFault lacks = failed
  by_lacking P long failed source missing digests form far short (Missing which) lacks = missing which
  by_lacking P long failed source missing digests form far short (Digests index) lacks = digests index
  by_lacking P long failed source missing digests form far short (Form line) lacks = form line
  by_lacking P long failed source missing digests form far short Memory lacks = short
  by_lacking P long failed source missing digests form far short (TooFar entries) lacks = far entries
  by_lacking P long failed source missing digests form far short NoDigestHeld lacks = absurd lacks.such
  by_lacking P long failed source missing digests form far short Done lacks = absurd lacks.such
  by_lacking P long failed source missing digests form far short No lacks = absurd lacks.such
  by_lacking P long failed source missing digests form far short Words lacks = absurd lacks.such
  by_lacking P long failed source missing digests form far short SinkFault lacks = absurd lacks.such
  by_lacking P long failed source missing digests form far short (Journal at) lacks = absurd lacks.such
  by_lacking P long failed source missing digests form far short NoEntry lacks = absurd lacks.such
  by_lacking P long failed source missing digests form far short NotImage lacks = absurd lacks.such
  by_lacking P long failed source missing digests form far short Receipt lacks = absurd lacks.such

  module _ (status : Status) (lacks : LacksAnswers status h image n digests input names source vault) where
    pub cause_lacking : (sink : Type 0) → AsOfCause status h image n digests input names source vault sink
    cause_lacking sink =
        by_lacking (λ s. LacksAnswers s h image n digests input names source vault → AsOfCause s h image n digests input names source vault sink)
        (λ l. l) (λ l. l) (λ l. l) (λ which l. l) (λ index l. l) (λ line l. l) (λ entries l. l) (λ l. l) status lacks lacks

    pub idle_lacking : (said idle : Type 0) → idle → SaidOrIdle status said idle
    idle_lacking said idle is =
        by_lacking (λ s. SaidOrIdle s said idle) is is is (λ which. is) (λ index. is) (λ line. is) (λ entries. is) is status lacks

    pub writes_lacking : (now : List (Result ℕ Failed) → Type 0) → Since now now (AreWrites status)
    writes_lacking now =
        since_none now (AreWrites status)
        (by_lacking (λ s. AreWrites s []) refl refl refl (λ which. refl) (λ index. refl) (λ line. refl) (λ entries. refl) refl status lacks)

-- ---- saying what is told

pub ends_refusing : (digests : Option (List ℕ)) (verdict : Verdict) (sink : Type 0) (old new : Option (List ℕ)) (idle : Type 0) (status : Status) → EndsRefusing status verdict sink old new idle
    → EndsSaying status digests (Refused verdict) sink old new idle
ends_refusing digests verdict sink old new idle No ends = ends.1
ends_refusing digests verdict sink old new idle SinkFault ends = ends
ends_refusing digests verdict sink old new idle Memory ends = ends
ends_refusing digests verdict sink old new idle Done ends = absurd ends
ends_refusing digests verdict sink old new idle Words ends = absurd ends
ends_refusing digests verdict sink old new idle Limit ends = absurd ends
ends_refusing digests verdict sink old new idle SourceFault ends = absurd ends
ends_refusing digests verdict sink old new idle VaultFault ends = absurd ends
ends_refusing digests verdict sink old new idle (Missing which) ends = absurd ends
ends_refusing digests verdict sink old new idle (Digests index) ends = absurd ends
ends_refusing digests verdict sink old new idle (Journal at) ends = absurd ends
ends_refusing digests verdict sink old new idle (Form line) ends = absurd ends
ends_refusing digests verdict sink old new idle NoEntry ends = absurd ends
ends_refusing digests verdict sink old new idle NotImage ends = absurd ends
ends_refusing digests verdict sink old new idle Receipt ends = absurd ends
ends_refusing digests verdict sink old new idle (TooFar entries) ends = absurd ends
ends_refusing digests verdict sink old new idle NoDigestHeld ends = absurd ends

module _ (digests : Option (List ℕ)) (answers : Answers) (sink : Type 0) (old new : Option (List ℕ)) (idle : Type 0) where
  by_saying : (P : Status → Type 0) → (HasAnswered Done digests answers old new → P Done) → (HasAnswered NoDigestHeld digests answers old new → P NoDigestHeld) → (HasAnswered No digests answers old new → P No)
      → (sink → HasAnswered SinkFault digests answers old new → P SinkFault) → (idle → P Memory) → (status : Status) → EndsSaying status digests answers sink old new idle → P status
  by_saying P done without other faulty short Done ends = done ends
  by_saying P done without other faulty short No ends = other ends
  by_saying P done without other faulty short SinkFault ends = faulty ends.0 ends.1
  by_saying P done without other faulty short Memory ends = short ends
  by_saying P done without other faulty short Words ends = absurd ends
  by_saying P done without other faulty short Limit ends = absurd ends
  by_saying P done without other faulty short SourceFault ends = absurd ends
  by_saying P done without other faulty short VaultFault ends = absurd ends
  by_saying P done without other faulty short (Missing which) ends = absurd ends
  by_saying P done without other faulty short (Digests index) ends = absurd ends
  by_saying P done without other faulty short (Journal at) ends = absurd ends
  by_saying P done without other faulty short (Form line) ends = absurd ends
  by_saying P done without other faulty short NoEntry ends = absurd ends
  by_saying P done without other faulty short NotImage ends = absurd ends
  by_saying P done without other faulty short Receipt ends = absurd ends
  by_saying P done without other faulty short (TooFar entries) ends = absurd ends
  by_saying P done without other faulty short NoDigestHeld ends = without ends

  -- all that the source and the vault are called for came before
  module _ (status : Status) (ends : EndsSaying status digests answers sink old new idle) where
    pub reads_said : (before behind : List (Result ℕ Failed) → Type 0) → Since before behind (EndsAt Moved (Ok 0)) → Since before behind (AreReadsBehind status)
    reads_said before behind =
        since_weaker before behind (EndsAt Moved (Ok 0)) (AreReadsBehind status)
        (by_saying (λ s. (answered : List (Result ℕ Failed)) → EndsAt Moved (Ok 0) answered → AreReadsBehind s answered)
        (λ said answered end. end) (λ said answered end. end) (λ said answered end. end) (λ fault said answered end. end) (λ is answered end. inr (inr end)) status ends)

    pub gets_said : (k : ℕ) (before behind : List (Result ⊤ VaultErr) → Type 0) → Since before behind (Gave k) → Since before behind (AreGetsBefore k status)
    gets_said k before behind =
        since_weaker before behind (Gave k) (AreGetsBefore k status)
        (by_saying (λ s. (answered : List (Result ⊤ VaultErr)) → Gave k answered → AreGetsBefore k s answered)
        (λ said answered gave. gave) (λ said answered gave. gave) (λ said answered gave. gave) (λ fault said answered gave. gave) (λ is answered gave. (inl gave.0, omega (arith, gave.1))) status ends)

    read_all_said : (all : List ℕ) (rest : Option (List ℕ)) → length all ≤ input_limit → rest ≡ Some [] → HasReadBehind status all rest
    read_all_said all rest within is =
        by_saying (λ s. HasReadBehind s all rest) (λ said. is) (λ said. is) (λ said. is) (λ fault said. is)
        (λ short. (length all, omega (arith, within), is ∙ ap Some (sym (drop-length all)))) status ends

    pub read_said : (input rest : Option (List ℕ)) (came : List ℕ) → IfSome input (λ all. came ≡ all) → length came ≤ input_limit → IfSome input (λ all. rest ≡ Some [])
        → IfSome input (λ all. HasReadBehind status all rest)
    read_said None rest came is within none = tt
    read_said (Some all) rest came is within none = read_all_said all rest (subst (λ (l : List ℕ). length l ≤ input_limit) is within) none

    pub unfailed_said : (s v k : Type 0) → s → v → Unfailed status ⊤ ⊤ k → Unfailed status s v k
    unfailed_said s v k is also =
        by_saying (λ e. Unfailed e ⊤ ⊤ k → Unfailed e s v k) (λ said u. (is, also, u.2)) (λ said u. (is, also, u.2)) (λ said u. (is, also, u.2)) (λ fault said u. (is, also)) (λ short u. (is, also, u.2)) status ends

-- what is said, by what was told
module _ (h : List ℕ → List ℕ) (image : List ℕ) (n : ℕ) (digests input : Option (List ℕ)) (names : Option Names) where
  cause_done : (source vault sink : Type 0) (old new : Option (List ℕ)) (answers : Answers) → StandAndCame image digests names input (IsTold h n answers)
      → HasAnswered Done digests answers old new → AsOfCause Done h image n digests input names source vault sink
  cause_done source vault sink old new (Written text coverage) told said = (string_bytes text, coverage, said.0, told)
  cause_done source vault sink old new (Refused verdict) told said = absurd said

  cause_without : (source vault sink : Type 0) (old new : Option (List ℕ)) (answers : Answers) → StandAndCame image digests names input (IsTold h n answers)
      → HasAnswered NoDigestHeld digests answers old new → AsOfCause NoDigestHeld h image n digests input names source vault sink
  cause_without source vault sink old new (Written text coverage) told said = (string_bytes text, coverage, said.0, told)
  cause_without source vault sink old new (Refused verdict) told said = absurd said

  cause_no : (source vault sink : Type 0) (old new : Option (List ℕ)) (answers : Answers) → StandAndCame image digests names input (IsTold h n answers)
      → HasAnswered No digests answers old new → AsOfCause No h image n digests input names source vault sink
  cause_no source vault sink old new (Written text coverage) told said = absurd said
  cause_no source vault sink old new (Refused verdict) told said = (
    verdict,
    told.such.such.0,
    record {
      bytes = told.bytes;
      file = told.file;
      came = told.came;
      are_in_vault = told.are_in_vault;
      is_input = told.is_input;
      within = told.within;
      such = record { texts = told.such.texts; read = told.such.read; held = told.such.held; are_held = told.such.are_held; such = told.such.such.1 };
    },
  )

  module _ (answers : Answers) (told : StandAndCame image digests names input (IsTold h n answers)) (sink : Type 0) (old new : Option (List ℕ)) (idle : Type 0)
      (status : Status) (ends : EndsSaying status digests answers sink old new idle) where
    pub cause_said : (source vault : Type 0) → AsOfCause status h image n digests input names source vault sink
    cause_said source vault =
        by_saying digests answers sink old new idle (λ s. AsOfCause s h image n digests input names source vault sink)
        (cause_done source vault sink old new answers told) (cause_without source vault sink old new answers told) (cause_no source vault sink old new answers told) (λ fault said. fault) (λ is. tt) status ends

    pub answered_said : (covers : Option Coverage) → covers ≡ answers_note digests answers → SaidOrIdle status (SaysAnswers status h image n digests covers input names old new) idle
    answered_said covers noted =
        by_saying digests answers sink old new idle (λ s. SaidOrIdle s (SaysAnswers s h image n digests covers input names old new) idle)
        (λ said. record { answers = answers; told = told; said = said; noted = noted }) (λ said. record { answers = answers; told = told; said = said; noted = noted })
        (λ said. record { answers = answers; told = told; said = said; noted = noted }) (λ fault said. record { answers = answers; told = told; said = said; noted = noted }) (λ is. is) status ends
