-- What is answered of a receipt or a chain holds of it.
use Rattle.std.proofs.Common.{◌≡◌, ℕ, Bool, true, false, List, Option, Some, None, refl, sym, ◌∙◌, subst}
use Rattle.std.specs.Bool.{Decides}
use Rattle.std.specs.List.{AllByRecursion}
use Rattle.sql_types.specs.declared.digest.HeldDigest.{HeldDigest}
use Rattle.format_chain.specs.declared.chain.Chain.{Chain}
use Rattle.audit_chain.specs.Continues.{IsJoined, LeadsOn, LeavesOut, first_block}
use Rattle.audit_any_receipt.specs.declared.among.Answer.{Answer}
use Rattle.audit_any_receipt.specs.declared.among.Answer.TheVariants as answers
use Rattle.audit_any_receipt.specs.declared.any.AnyReceipt.{AnyReceipt}
use Rattle.audit_any_receipt.specs.declared.any.AnyReceipt.TheVariants as kinds
use Rattle.audit_any_receipt.specs.Among.{IsAcceptedBy, IsAcceptedAmong, IsAnswer, IsLeftOut, IsNoChain, IsRefused, LeavesOutAmong, answer_of, first_of_block, last_block}
use Rattle.audit_any_receipt.specs.Kinds.{records_of}

module _ (h : List ℕ → List ℕ) (held : List HeldDigest) (d : HeldDigest) where
  -- there is one first digest of a block
  one_first : (block : ℕ) (e : HeldDigest) → first_of_block block held ≡ Some d → first_of_block block held ≡ Some e → e ≡ d
  one_first block e this that = let same : Some e ≡ Some d = sym that ∙ this in cc

  no_left : (r : AnyReceipt) → IsNoChain r → (block : ℕ) → IsLeftOut h r held block → ⊥
  no_left (kinds.Entry r) plain block x = x
  no_left (kinds.Table r) plain block x = x
  no_left (kinds.Event r) plain block x = x
  no_left (kinds.Chain c) plain block x = plain

  pub of_receipt : (r : AnyReceipt) (so : Bool) → IsNoChain r → first_of_block (last_block (records_of r)) held ≡ Some d → Decides so (IsAcceptedBy h r d held) → IsAnswer h r held (answer_of so)
  of_receipt r true plain first decides = (plain, record { d = d; first = first; accepted = decides.0 refl })
  of_receipt r false plain first decides =
      record {
        unaccepted = λ x.
            (let own = subst (λ (e : HeldDigest). IsAcceptedBy h r e held) (one_first (last_block (records_of r)) x.d first x.first) x.accepted in
            let so = decides.1 own in
            cc);
        joined = no_left r plain;
        some = λ none. (let e : None ≡ Some d = sym none ∙ first in cc);
      }

  module _ (c : Chain) (first : first_of_block (last_block c.records) held ≡ Some d) where
    pub of_none : (LeadsOn h c d → ⊥) → IsAnswer h (kinds.Chain c) held answers.NoReceipt
    of_none not =
        record {
          unaccepted = λ x. not (subst (LeadsOn h c) (one_first (last_block c.records) x.d first x.first) x.accepted.leads);
          joined = λ block x. not (subst (LeadsOn h c) (one_first (last_block c.records) x.d first x.first) x.leads);
          some = λ none. (let e : None ≡ Some d = sym none ∙ first in cc);
        }

    pub of_left : (block : ℕ) → LeadsOn h c d → LeavesOut h c held block → IsAnswer h (kinds.Chain c) held (answers.NoJoin block)
    of_left block leads out = record { d = d; first = first; leads = leads; out = out }

    pub of_all : (from to : ℕ) → from ≡ first_block c.records → to ≡ last_block c.records → LeadsOn h c d → AllByRecursion (IsJoined h c) held → IsAnswer h (kinds.Chain c) held (answers.Joined from to)
    of_all from to begins ends leads joined =
        ((begins, ends), record { d = d; first = first; accepted = record { leads = leads; joined = joined } })
