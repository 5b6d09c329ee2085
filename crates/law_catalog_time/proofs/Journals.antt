-- In the tables to which a legal journal leads versions start after the rows about their columns, and respect their columns.
use Rattle.std.proofs.Common.{ℕ, List, arith}
use Rattle.std.specs.List.{AllByRecursion}
use Rattle.sql_types.specs.declared.journal.JournalItem.{JournalItem}
use Rattle.sql_types.specs.declared.statement.Stmt.{Stmt}
use Rattle.spec_model.specs.Catalog.{Tables, versions_of}
use Rattle.spec_model.specs.Effect.{effect}
use Rattle.spec_model.specs.SystemTables.{columns_id, first_tables}
use Rattle.spec_model.specs.Script.{Reading}
use Rattle.spec_model.specs.Journals.{serial, IsLegal}
use Rattle.law_frame.proofs.Alls.{all_weaker}
use Rattle.law_frame.proofs.StepByStep.{Any}
use Rattle.law_journal.specs.Kept.{Kept}
use Rattle.law_journal.specs.Described.{Described}
use Rattle.law_journal.specs.Serial.{place_in}
use Rattle.law_catalog_time.specs.AfterColumns.{VersionsFollowColumns}
use Rattle.law_catalog_time.specs.AsOfStart.{AllRespectColumns, VersionsRespectColumns}
use Rattle.law_catalog_time.proofs.Statements.{statement_follows}
use Rattle.law_catalog_time.proofs.ToldChanges.{ToldIn, AllTold}
use Rattle.law_catalog_time.proofs.ToldStatements.{statement_told}
use Rattle.law_catalog_time.proofs.WithPlaces.{legal_keeps_in_place}

module _ (reads : Reading) (all : List JournalItem) where
  abbrev FollowAndTold : Tables → Type 0
  FollowAndTold T = VersionsFollowColumns (place_in all) T × AllTold (place_in all) T

  keeps_both : (tx seq : ℕ) (T : Tables) (stmt : Stmt) → Kept (place_in all) tx seq T → Described T → Any stmt → FollowAndTold T → FollowAndTold (effect T tx seq stmt).tables
  keeps_both tx seq T stmt k d any h = (statement_follows (place_in all) tx seq T stmt k d h.0, statement_told (place_in all) tx seq T k d h.1 stmt)

  first_both : FollowAndTold first_tables
  unfolding first_tables
  first_both = (((λ lt. tt), ((λ lt. tt), tt)), ((λ lt. absurd (omega (arith, lt))), ((λ lt. absurd (omega (arith, lt))), tt)))

  legal_both : IsLegal reads all → FollowAndTold (serial reads all)
  legal_both legal = legal_keeps_in_place all Any FollowAndTold keeps_both reads (λ text stmt e. tt) legal first_both

  pub legal_follows : IsLegal reads all → VersionsFollowColumns (place_in all) (serial reads all)
  legal_follows legal = (legal_both legal).0

  pub legal_respects : IsLegal reads all → VersionsRespectColumns (place_in all) (serial reads all)
  legal_respects legal =
      let T : Tables = serial reads all in
      all_weaker (ToldIn (place_in all) (versions_of T columns_id)) (AllRespectColumns (place_in all) (versions_of T columns_id)) (λ t h lt. (h lt).versions) T (legal_both legal).1
