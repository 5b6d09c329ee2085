use Rattle.std.proofs.Common.{sym, ap, ◌∙◌, ◌∷◌, ◌++◌, [], List, take, subst}
use Rattle.std.specs.List.{AllByRecursion}
use Rattle.std.proofs.SliceLists.{all_by_recursion_push}
use Rattle.std.proofs.lemmas.List.{take_all, take_more}
use Rattle.sql_types.specs.declared.journal.JournalItem.{JournalItem}
use Rattle.format_journal.specs.Rules.{HasTexts}
use Rattle.format_journal.proofs.encoded.texts_are_encodable.Goals as goal

pub loop-item-preserved : goal.loop-item-preserved
loop-item-preserved c =
    let so_far = take c.loop-item.item-index c.args.items.now in
    subst (λ (l : List JournalItem). AllByRecursion HasTexts l)
    (sym (take_more c.args.items.now c.loop-item.item-index c.item-item.result c.loop-item-test.true
    ∙ ap (λ (i : JournalItem). so_far ++ i ∷ []) (sym c.item-item.is)))
    (all_by_recursion_push HasTexts so_far c.item-item.result c.loop-item.invariant c.has_texts.ensures)

pub returns : goal.returns
returns c =
    subst (λ (l : List JournalItem). AllByRecursion HasTexts l)
    (take_all c.loop-item.item-index c.args.items.now c.loop-item-test.false) c.loop-item.invariant
