-- What the vault has answered to the gets of names, one after another.
use Rattle.std.specs.Prelude.{⊤}
use Rattle.std.proofs.Common.{◌≡◌, ◌≤◌, ◌+◌, ◌∙◌, ℕ, List, [], ◌∷◌, ◌++◌, length, refl, sym, ap, inr, Option, Result, Ok, Err, arith}
use Rattle.std.proofs.lemmas.List.{length-append}
use Rattle.std.proofs.lemmas.List.Elements.{All-nil, All-push}
use Rattle.base_io.specs.declared.vault.VaultErr.{VaultErr}
use Rattle.base_io.specs.declared.vault.VaultErr.TheVariants as refused
use Rattle.base_io.specs.History.{Adds, Since, EndsAt}
use Rattle.base_io.specs.Store.{Names}
use Rattle.cli_audit.specs.declared.status.Status.{Status}
use Rattle.cli_audit.specs.declared.status.Status.TheVariants.{Done, No, Words, Limit, SourceFault, SinkFault, VaultFault, Missing, Digests, Journal, Form, Memory, NotImage, NoEntry, Receipt, TooFar, NoDigestHeld}
use Rattle.cli_audit.specs.Calls.{GaveFile, Gave, AreGets}
use Rattle.cli_audit.specs.Names.{LacksName, name_answer}
use Rattle.cli_audit.proofs.CallLemmas.{adds_more, since_none, since_weaker}

abbrev pub Answers : Type 0
Answers = List (Result ⊤ VaultErr)

-- no get at all
pub gave_none : (now : Answers → Type 0) → Since now now (Gave 0)
gave_none now = since_none now (Gave 0) (All-nil GaveFile, refl)

-- one get more gave something
pub gave_more : (old mid new : Answers → Type 0) (n : ℕ) → Since old mid (Gave n) → Adds mid new (Ok tt ∷ []) → Since old new (Gave (n + 1))
gave_more old mid new n so_far one =
    record {
      answers = so_far.answers ++ Ok tt ∷ [];
      adds = adds_more old mid new GaveFile so_far.answers (Ok tt) so_far.adds one;
      such = (All-push GaveFile so_far.answers (Ok tt) so_far.such.0 refl, length-append so_far.answers (Ok tt ∷ []) ∙ ap (λ k. k + 1) so_far.such.1);
    }

-- one get more gave nothing
gets_end : (old mid new : Answers → Type 0) (n : ℕ) (last : Result ⊤ VaultErr) → Since old mid (Gave n) → Adds mid new (last ∷ [])
    → Since old new (λ answers. EndsAt GaveFile last answers × (length answers ≡ n + 1))
gets_end old mid new n last so_far one =
    record {
      answers = so_far.answers ++ last ∷ [];
      adds = adds_more old mid new GaveFile so_far.answers last so_far.adds one;
      such = ((so_far.answers, refl, so_far.such.0), length-append so_far.answers (last ∷ []) ∙ ap (λ k. k + 1) so_far.such.1);
    }

-- the name behind n others wasn't read
pub lacks_next : (old mid new : Answers → Type 0) (n k limit : ℕ) (status : Status) (names : Option Names) (name : List ℕ) → n + 1 ≤ k
    → LacksName status (n + 1) limit names name → Since old mid (Gave n) → Adds mid new (name_answer (Err status) ∷ []) → Since old new (AreGets k status)
lacks_next old mid new n k limit Limit names name few lacks so_far one =
    since_weaker old new _ (AreGets k Limit) (λ answers end. (end.0, omega (arith, few, end.1))) (gets_end old mid new n (Err refused.TooLong) so_far one)
lacks_next old mid new n k limit (Missing which) names name few lacks so_far one =
    since_weaker old new _ (AreGets k (Missing which)) (λ answers end. (end.0, end.1 ∙ sym lacks.0)) (gets_end old mid new n (Err refused.Missing) so_far one)
lacks_next old mid new n k limit VaultFault names name few lacks so_far one =
    since_weaker old new _ (AreGets k VaultFault) (λ answers end. (end.0, omega (arith, few, end.1))) (gets_end old mid new n (Err refused.Failed) so_far one)
lacks_next old mid new n k limit Memory names name few lacks so_far one =
    since_weaker old new _ (AreGets k Memory) (λ answers end. (inr end.0, omega (arith, few, end.1))) (gets_end old mid new n (Err refused.Memory) so_far one)
lacks_next old mid new n k limit Done names name few lacks so_far one = absurd lacks
lacks_next old mid new n k limit No names name few lacks so_far one = absurd lacks
lacks_next old mid new n k limit Words names name few lacks so_far one = absurd lacks
lacks_next old mid new n k limit SourceFault names name few lacks so_far one = absurd lacks
lacks_next old mid new n k limit SinkFault names name few lacks so_far one = absurd lacks
lacks_next old mid new n k limit (Digests index) names name few lacks so_far one = absurd lacks
lacks_next old mid new n k limit NoEntry names name few lacks so_far one = absurd lacks
lacks_next old mid new n k limit NotImage names name few lacks so_far one = absurd lacks
lacks_next old mid new n k limit Receipt names name few lacks so_far one = absurd lacks
lacks_next old mid new n k limit (TooFar entries) names name few lacks so_far one = absurd lacks
lacks_next old mid new n k limit NoDigestHeld names name few lacks so_far one = absurd lacks
lacks_next old mid new n k limit (Journal at) names name few lacks so_far one = absurd lacks
lacks_next old mid new n k limit (Form line) names name few lacks so_far one = absurd lacks

-- ---- a name isn't read

-- with one of these statuses
abbrev pub IsAtName : Status → Type 0
IsAtName Limit = Unit {0}
IsAtName VaultFault = Unit {0}
IsAtName (Missing which) = Unit {0}
IsAtName Memory = Unit {0}
IsAtName _ = ⊥

pub by_name : (P : Status → Type 0) → P Limit → P VaultFault → ((which : ℕ) → P (Missing which)) → P Memory → (status : Status) → IsAtName status → P status
by_name P long failed missing short Limit is = long
by_name P long failed missing short VaultFault is = failed
by_name P long failed missing short (Missing which) is = missing which
by_name P long failed missing short Memory is = short
by_name P long failed missing short Done is = absurd is
by_name P long failed missing short No is = absurd is
by_name P long failed missing short Words is = absurd is
by_name P long failed missing short SourceFault is = absurd is
by_name P long failed missing short SinkFault is = absurd is
by_name P long failed missing short (Digests index) is = absurd is
by_name P long failed missing short (Journal at) is = absurd is
by_name P long failed missing short (Form line) is = absurd is
by_name P long failed missing short NoEntry is = absurd is
by_name P long failed missing short NotImage is = absurd is
by_name P long failed missing short Receipt is = absurd is
by_name P long failed missing short (TooFar entries) is = absurd is
by_name P long failed missing short NoDigestHeld is = absurd is

pub name_lacks : (which limit : ℕ) (names : Option Names) (name : List ℕ) (status : Status) → LacksName status which limit names name → IsAtName status
name_lacks which limit names name Limit lacks = tt
name_lacks which limit names name VaultFault lacks = tt
name_lacks which limit names name (Missing number) lacks = tt
name_lacks which limit names name Memory lacks = tt
name_lacks which limit names name Done lacks = absurd lacks
name_lacks which limit names name No lacks = absurd lacks
name_lacks which limit names name Words lacks = absurd lacks
name_lacks which limit names name SourceFault lacks = absurd lacks
name_lacks which limit names name SinkFault lacks = absurd lacks
name_lacks which limit names name (Digests index) lacks = absurd lacks
name_lacks which limit names name (Journal at) lacks = absurd lacks
name_lacks which limit names name (Form line) lacks = absurd lacks
name_lacks which limit names name NoEntry lacks = absurd lacks
name_lacks which limit names name NotImage lacks = absurd lacks
name_lacks which limit names name Receipt lacks = absurd lacks
name_lacks which limit names name (TooFar entries) lacks = absurd lacks
name_lacks which limit names name NoDigestHeld lacks = absurd lacks
