-- Any two meanings that statements have, where blocks are hashed with one hash, have equal values.
use Rattle.std.proofs.Common.{ℕ, List, sym, ◌∙◌}
use Rattle.spec_model.specs.Script.{Reading}
use Rattle.spec_history.specs.Meaning.{Meaning}
use Rattle.law_kept_images.specs.SessionOutput.{IsMeaning}
use Rattle.law_concurrent.proofs.SameMeanings.{Same}

pub same : (h : List ℕ → List ℕ) (reads : Reading) (q r : Meaning) → IsMeaning h reads q → IsMeaning h reads r → Same q r
same h reads q r m n = record {
  first = m.real.first ∙ sym n.real.first;
  defs = λ T. m.real.defs T ∙ sym (n.real.defs T);
  reading = λ text. m.real.reading text ∙ sym (n.real.reading text);
  writes = λ x. m.real.writes x ∙ sym (n.real.writes x);
  after = λ o T id texts. m.real.after o T id texts ∙ sym (n.real.after o T id texts);
  replies = λ o T id texts. m.real.replies o T id texts ∙ sym (n.real.replies o T id texts);
  events = λ o T id texts. m.real.events o T id texts ∙ sym (n.real.events o T id texts);
  in_catalog = λ o p a b. m.real.in_catalog o p a b ∙ sym (n.real.in_catalog o p a b);
  in_table = λ D o p a b. m.real.in_table D o p a b ∙ sym (n.real.in_table D o p a b);
  block_hash = λ J b. m.real.block_hash J b ∙ m.hashes J b ∙ sym (n.real.block_hash J b ∙ n.hashes J b);
}
