use Rattle.std.specs.Prelude.{ℕ, ◌≤◌, ◌<◌, List, [], ◌∷◌, ◌++◌, length, None, Some}
use Rattle.std.proofs.Common.{refl, subst, sym, arith}
use Rattle.std.proofs.lemmas.List.{take_all}
use Rattle.sql_types.specs.declared.digest.Digest.{Digest}
use Rattle.sql_types.specs.declared.journal.JournalItem.{JournalItem}
use Rattle.spec_model.specs.Journals.{cut}
use Rattle.spec_history.specs.Facts.{Fact}
use Rattle.spec_history.specs.Journals.{blocks}
use Rattle.spec_history.specs.Lists.{Text, Each, In}
use Rattle.spec_history.specs.Marks.{ImagesHave}
use Rattle.spec_history.specs.Meaning.{Meaning}
use Rattle.spec_history.specs.StepOrder.{rows_facts}
use Rattle.law_order.specs.OneOrder.{facts_in_order}
use Rattle.spec_syntax.specs.Text.{statement_of}
use Rattle.law_behind.specs.AgreeBehind.{AgreeBehind}
use Rattle.law_kept_images.specs.Accepted.{IsOfCut}
use Rattle.law_kept_images.specs.AcceptedBehind.{IsAcceptedBehind}
use Rattle.law_kept_images.specs.LastImage.{last_image}
use Rattle.law_kept_images.specs.SessionOutput.{IsImageOf, IsMeaning}
use Rattle.law_kept_images.proofs.Accepts.{each_in}
use Rattle.law_kept_images.proofs.WithPast.{all_closed, all_have, are_whole, both_each, some_real}
use Rattle.law_headline.specs.Before.{ComesBefore}
use Rattle.law_headline.specs.BeforeBehind.{InOneOrderBehind, InOrderOfLinesBehind}
use Rattle.law_headline.specs.HeadlineBehind.{IsSavedBehind}
use Rattle.law_headline.proofs.Before.{closed_by_images}
use Rattle.law_headline.proofs.BehindPast.{all_saved_behind, closed_in_order_behind, with_earlier_behind}
use Rattle.law_headline.proofs.Saved.{in_this_version, whole_bound}
use Rattle.law_headline.proofs.Shown.{all_are_shown}
use Rattle.law_headline.proofs.behind.saved_images_behind_a_past_are_serial_and_tamper_evident.Goals as goal

pub returns-clause-one_thread : goal.returns-clause-one_thread
returns-clause-one_thread g c =
    let read = c.readings_of_the_grammar_give_written.ensures in
    let written = read.written statement_of read.parser in
    let bound = c.accepted_images_are_bound.ensures in
    let encodable = c.legal_images_are_encodable.ensures in
    let accepted = c.kept_images_behind_a_past_are_accepted.ensures in
    λ h size past names lines X kept images J G run legal room are.
    let now = in_this_version J legal in
    let real = some_real h in
    let every : Each (IsSavedBehind h J past G) (images ++ last_image h J ∷ []) =
    all_saved_behind bound encodable written h J past G legal room (run.agree real.0 real.1).journal_goes_on.begins kept images are
    (are_whole h J.database size past names lines X kept J.items G run)
    (accepted.room h J.database size past names lines X kept J.items G run now room)
    (accepted.whole h J.database size past names lines X kept J.items G run now room) in
    let closed_before : (q : Meaning) → IsMeaning h statement_of q → (facts : List Fact) → InOrderOfLinesBehind size past lines X J.items q facts
    → (d : Digest) → In d G → (items : ℕ) → ComesBefore d.block items facts → d.block < blocks (cut J.items items) =
    λ q real facts order d is items comes.
    let closed = each_in (IsOfCut J.items (length J.items) G) G d (all_closed h J.database size past names lines X kept J.items G run) is in
    let goes_on = (run.agree q real).journal_goes_on in
    closed_in_order_behind c.digests_behind_a_past_are_closed_in_later_images.ensures q size past lines X J.items goes_on.legal goes_on.begins
    facts order d.block items comes
    (subst (λ (K : List JournalItem). d.block < blocks K) (take_all (length J.items) J.items (omega arith)) closed.1) in
    record {
      replies_given = run.agree;
      by_one_thread = legal;
      shown = λ q real. all_are_shown q X kept images (run.shown q real) are;
      every_image = every;
      all_digests = whole_bound bound encodable written h J G legal room (accepted.all h J.database size past names lines X kept J.items G run now room);
      in_order = λ q real. let o = run.in_order q real in (rows_facts q (λ s. None) o.rows, record { rows = o.rows; order = o.order; are = refl });
      issued_before = closed_before;
      yes_with_earlier = λ q real facts order. with_earlier_behind h J past G images every facts (closed_before q real facts order);
    }

pub returns-clause-side_by_side : goal.returns-clause-side_by_side
returns-clause-side_by_side g c =
    let read = c.readings_of_the_grammar_give_written.ensures in
    let written = read.written statement_of read.parser in
    let bound = c.accepted_images_are_bound.ensures in
    let encodable = c.legal_images_are_encodable.ensures in
    λ h database size past given clock input left images came room are.
    let J = left.J in
    let G = left.G in
    let named = sym came.of_database in
    let real = some_real h in
    let agree : (q : Meaning) → IsMeaning h statement_of q → AgreeBehind q J.database past input (Some 0) left.X J.items G =
    λ q real. subst (λ (D : Text). AgreeBehind q D past input (Some 0) left.X J.items G) named (came.agree q real) in
    let every : Each (IsSavedBehind h J past G) (images ++ last_image h J ∷ []) =
    all_saved_behind bound encodable written h J past G came.legal room (agree real.0 real.1).journal_goes_on.begins left.kept images are
    (both_each (IsImageOf h statement_of J.database J.items) (λ k. length past.items ≤ k.0) left.kept
    (subst (λ (D : Text). Each (λ ks. Each (IsImageOf h statement_of D J.items) ks) left.kept) named came.are_images)
    (all_have real.0 (length past.items) left.kept left.X (came.shown real.0 real.1) (agree real.0 real.1).past_counts.images))
    (subst (λ (D : Text). Each (λ ks. Each (IsAcceptedBehind h D past J.items G) ks) left.kept) named came.accepted)
    (subst (λ (D : Text). IsAcceptedBehind h D past J.items G (last_image h J)) named came.last_accepted) in
    let closed_before : (q : Meaning) → IsMeaning h statement_of q → (facts : List Fact) → InOneOrderBehind past left.X J.items q facts
    → (d : Digest) → In d G → (items : ℕ) → ComesBefore d.block items facts → d.block < blocks (cut J.items items) =
    λ q real facts order d is items comes. closed_by_images J.items facts (subst (λ (gs : List Fact). ImagesHave J.items gs) (sym order.are) order.is.images) d.block items comes in
    record {
      replies_given = agree;
      by_one_thread = came.legal;
      shown = λ q real. all_are_shown q left.X left.kept images (came.shown q real) are;
      every_image = every;
      all_digests = whole_bound bound encodable written h J G came.legal room came.all_accepted;
      in_order = λ q real. let o = came.in_order q real in (facts_in_order o.order, record { order = o.order; is = o.is; are = refl });
      issued_before = closed_before;
      yes_with_earlier = λ q real facts order. with_earlier_behind h J past G images every facts (closed_before q real facts order);
    }
