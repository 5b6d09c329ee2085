use Rattle.std.proofs.Common.{rules, ◌≡◌, ◌<◌, ◌^◌, ap, ◌∙◌, sym, subst, ◌++◌, length, arith}
use Rattle.std.specs.List.{AllByRecursion}
use Rattle.spec_history.specs.Journals.{blocks}
use Rattle.spec_model.specs.Journals.{IsLegal, serial, tx_count}
use Rattle.spec_ledger.specs.Ledger.{Ledger}
use Rattle.spec_syntax.specs.Text.{reading_of}
use Rattle.law_blocks.proofs.Counting.{entries_counted}
use Rattle.law_blocks.proofs.Staying.{blocks_counted}
use Rattle.law_image.specs.Room.{TableFitsFormat}
use Rattle.format_image.specs.Image.{image_of}
use Rattle.format_image.specs.ImageBytes.{IsImage}
use Rattle.audit_replay.specs.Reached.{KeepRules, LeadTo}
use Rattle.audit_replay.proofs.Steps.{image_led, rules_of}
use Rattle.audit_replay.proofs.running.replay.Goals as goal

pub run_again-requires : goal.run_again-requires
run_again-requires g c = (search rules, (search rules, subst KeepRules (sym c.as_slice-items.ensures) (rules_of c.args.journal.now c.requires)))

pub returns-clause-legal : goal.returns-clause-legal
returns-clause-legal g c = record {
  version = c.requires.version;
  database = c.requires.database;
  items = (rules_of c.args.journal.now c.requires).each;
  legal = subst (IsLegal (reading_of c.args.journal.now.version)) c.as_slice-items.ensures c.in_ok-again.ensures.leads.legal;
}

pub returns-clause-image : goal.returns-clause-image
returns-clause-image g c =
    let reads = reading_of c.args.journal.now.version in
    let h = g.H.Hash32.digest c.args.h in
    c.in_ok-image.ensures
    ∙ image_led reads h c.args.journal.now.database c.as_slice-items.result.now c.in_ok-again.again c.in_ok-again.ensures.leads
    ∙ ap (image_of h reads c.args.journal.now.database) c.as_slice-items.ensures

pub returns-clause-spelling : goal.returns-clause-spelling
returns-clause-spelling g c =
    let items = c.args.journal.now.items in
    let h = g.H.Hash32.digest c.args.h in
    let reads = reading_of c.args.journal.now.version in
    let leads : LeadTo h reads items c.in_ok-again.again =
    subst (λ l. LeadTo h reads l c.in_ok-again.again) c.as_slice-items.ensures c.in_ok-again.ensures.leads in
    let here : c.deref.result.now ≡ serial reads items = c.deref.ensures.value ∙ leads.tables in
    let in_blocks : blocks items < 2 ^ 64 =
    omega (
      arith,
      c.blocks-blocks.type_inv.0,
      ap length c.blocks-blocks.ensures,
      ap (λ (l : Ledger). length l.blocks) leads.ledger,
      blocks_counted h reads items,
    ) in
    let in_entries : tx_count items < 2 ^ 64 =
    omega (
      arith,
      c.entries-entries.type_inv.0,
      ap length c.entries-entries.ensures,
      ap (λ (l : Ledger). length (l.closed ++ l.pending)) leads.ledger,
      entries_counted h reads items,
    ) in
    subst IsImage (sym (returns-clause-image g c))
    (c.legal_images_are_encodable.ensures h reads c.args.journal.now.database items
    (c.readings_of_the_grammar_give_written.ensures.written reads (c.readings_of_the_grammar_give_written.ensures.versions c.args.journal.now.version))
    leads.legal
    (record {
      hash = (g.met.H.Hash32 g.world.𝓛 g.world.𝓜 g.world.𝓡 ((λ s x. x), (λ x. x), (λ x. x), λ x. x)).sized c.args.h;
      database_name = c.requires.database;
      rules = (rules_of c.args.journal.now c.requires).each;
      blocks = in_blocks;
      entries = in_entries;
      tables = subst (AllByRecursion TableFitsFormat) here c.tables_have_room.ensures;
    }))
