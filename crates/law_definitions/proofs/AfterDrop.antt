-- A dropped table has no later start or end.
use Rattle.std.proofs.Common.{◌≡◌, inl, inr, ℕ, pos, refl, Bool, true, false, List, Option, Some, None}
use Rattle.std.specs.Prelude.{◌&&◌, ◌||◌, not, IfSome}
use Rattle.std.specs.List.{AllByRecursion, list_all}
use Rattle.sql_types.specs.declared.digest.HeldDigest.{HeldDigest}
use Rattle.sql_types.specs.declared.image.Image.{Image}
use Rattle.spec_model.specs.Rows.{EventId}
use Rattle.law_frame.proofs.Alls.{all_weaker}
use Rattle.law_catalog_rows.proofs.CountingUp.{is_number}
use Rattle.law_catalog_rows.specs.Latest.{number_at}
use Rattle.spec_rules.specs.Places.{PlacedRow, place_of, stands_before}
use Rattle.spec_rules.specs.WhileTheTableIsThere.{is_before_end, is_before_event, is_while_the_table_is_there, says_gone}
use Rattle.spec_verify.specs.Rules.{rows_of_image}
use Rattle.spec_verify.specs.Sentences.{HoldsTogether, TableVersion, VersionRulesHold, versions_of_image}
use Rattle.law_definitions.specs.Accepted.{NothingAfterDrop, SaysGone, rows_about}
use Rattle.law_definitions.proofs.Lists.{behind, each_passes}

or_true : (a : Bool) → (a || true) ≡ true
or_true true = refl
or_true false = refl

is_gone : (r : PlacedRow) → SaysGone r → says_gone r ≡ true
is_gone r (inl three) = rw (is_number (number_at 3 r.row) (pos 3) three) refl
is_gone r (inr four) = rw (is_number (number_at 3 r.row) (pos 4) four) (or_true _)

neither : (gone start end : Bool) → gone ≡ true → not (gone && (start || end)) ≡ true → (start ≡ false) × (end ≡ false)
neither true true end g e = cc
neither true false true g e = cc
neither true false false g e = (refl, refl)
neither false start end g e = cc

module _ (i : Image) where
  not_before_end : (r : PlacedRow) (o : Option EventId) → is_before_end i.entries o r ≡ false → IfSome o (λ end. stands_before r.place (place_of i.entries end) ≡ false)
  not_before_end r None e = tt
  not_before_end r (Some end) e = e

  none_after : (x : TableVersion) → is_while_the_table_is_there i.entries (rows_of_image i) (pos x.0.def.id) x.1 ≡ true
      → AllByRecursion (λ r. SaysGone r → (stands_before r.place (place_of i.entries x.1.start) ≡ false) × IfSome x.1.end (λ end. stands_before r.place (place_of i.entries end) ≡ false)) (rows_about i x)
  unfolding is_while_the_table_is_there
  none_after x e =
      let test : PlacedRow → Bool = λ r. not (says_gone r && (is_before_event i.entries x.1.start r || is_before_end i.entries x.1.end r)) in
      all_weaker (λ r. test r ≡ true) _
      (λ r passes gone. (let p = neither (says_gone r) (is_before_event i.entries x.1.start r) (is_before_end i.entries x.1.end r) (is_gone r gone) passes in
      (p.0, not_before_end r x.1.end p.1))) (rows_about i x)
      (each_passes test (rows_about i x) (behind _ (list_all test (rows_about i x)) e))

  pub nothing_after : (h : List ℕ → List ℕ) (digests : List HeldDigest) → HoldsTogether h i digests → NothingAfterDrop i
  nothing_after h digests t = all_weaker (VersionRulesHold i) _ (λ x rules lt. none_after x (rules lt).while_the_table_is_there) (versions_of_image i) t.version_rules
