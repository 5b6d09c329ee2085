-- What the vault has answered where memory ran out before a command was known, and what is so of a command that is.
use Rattle.std.proofs.Common.{◌≡◌, ℕ, List, [], Option, Some, None, refl, sym, subst, inl, arith}
use Rattle.std.proofs.lemmas.List.Elements.{All-nil}
use Rattle.cli_audit.specs.declared.status.Status.TheVariants.{Memory}
use Rattle.cli_audit.specs.Calls.{GaveFile}
use Rattle.cli_words.specs.Commands.{Command, Settings, Step, Run, Verify, Extract, Replay, Upgrade, Gen, Receipt, Join, Check, AsOf, Help, Version}
use Rattle.cli_commands.specs.Calls.{AreCalls}
use Rattle.cli_commands.specs.Words.{OfStep, OfStepFrom, OfRun, OfRunFrom}

pub no_calls : (words : Option Command) → AreCalls words Memory []
no_calls None = refl
no_calls (Some (Step save None how)) = inl refl
no_calls (Some (Step save (Some journal) how)) = inl (inl (All-nil GaveFile), omega arith)
no_calls (Some (Run save None how)) = inl refl
no_calls (Some (Run save (Some journal) how)) = inl (inl (All-nil GaveFile), omega arith)
no_calls (Some (Verify image digests workers covers)) = (inl (All-nil GaveFile), omega arith)
no_calls (Some (Replay journal save)) = inl (inl (All-nil GaveFile), omega arith)
no_calls (Some (Upgrade image save)) = inl (inl (All-nil GaveFile), omega arith)
no_calls (Some (Extract honest suspect digests)) = (inl (All-nil GaveFile), omega arith)
no_calls (Some (Gen count)) = refl
no_calls (Some (Receipt image digests tx part save)) = inl (inl (All-nil GaveFile), omega arith)
no_calls (Some (Join image digests save)) = inl (inl (All-nil GaveFile), omega arith)
no_calls (Some (Check receipt digests)) = (inl (All-nil GaveFile), omega arith)
no_calls (Some (AsOf image n digests)) = (inl (All-nil GaveFile), omega arith)
no_calls (Some (Help which)) = refl
no_calls (Some Version) = refl

-- ---- what is so of a command that words say

pub of_step : (words : Option Command) (save : List ℕ) (how : Settings) (P : List ℕ → Settings → Type 0) → words ≡ Some (Step save None how) → P save how → OfStep words P
of_step words save how P e p = subst (λ (w : Option Command). OfStep w P) (sym e) p

pub of_step_from : (words : Option Command) (save journal : List ℕ) (how : Settings) (P : List ℕ → List ℕ → Settings → Type 0) → words ≡ Some (Step save (Some journal) how)
    → P save journal how → OfStepFrom words P
of_step_from words save journal how P e p = subst (λ (w : Option Command). OfStepFrom w P) (sym e) p

pub of_run : (words : Option Command) (save : List ℕ) (how : Settings) (P : List ℕ → Settings → Type 0) → words ≡ Some (Run save None how) → P save how → OfRun words P
of_run words save how P e p = subst (λ (w : Option Command). OfRun w P) (sym e) p

pub of_run_from : (words : Option Command) (save journal : List ℕ) (how : Settings) (P : List ℕ → List ℕ → Settings → Type 0) → words ≡ Some (Run save (Some journal) how)
    → P save journal how → OfRunFrom words P
of_run_from words save journal how P e p = subst (λ (w : Option Command). OfRunFrom w P) (sym e) p
