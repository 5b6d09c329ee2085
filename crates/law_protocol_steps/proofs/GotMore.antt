-- What a statement got stays, where its transaction still has the catalog alone.
use Rattle.std.proofs.Common.{Bool, Option, Some, None}
use Rattle.spec_protocol.specs.LocksCover.{IsGot, IsGotAt}
use Rattle.spec_protocol.specs.Seats.{SessionStatus, StatementProgress, answering, begun, between, found, going_back, inside, leaving, made, refused, replied}
use Rattle.spec_protocol.specs.Server.{Server}
use Rattle.sql_types.specs.declared.statement.Stmt.{Stmt}
use Rattle.spec_model.specs.Catalog.{Tables}

module _ (v : Server) (T : Tables) (E F : Type 0) (b : Bool) (more : E → F) where
  got_more : (o : Option Stmt) (stage : StatementProgress) → IsGot T E b o stage → IsGot T F b o stage
  got_more o (found named fresh) g = g
  got_more o (made def indexed) g = (g.0, g.1, more g.2)
  got_more o (answering reply (Some def)) g = (g.0, g.1, more g.2)
  got_more o (answering reply None) g = tt
  got_more o begun g = tt
  got_more o (going_back seq cells) g = tt
  got_more o (replied reply) g = g
  got_more o (refused reply) g = tt

  pub got_at_more : (place : SessionStatus) → IsGotAt v T E b place → IsGotAt v T F b place
  got_at_more between g = tt
  got_at_more (inside text stage) g = got_more (v.reads text) stage g
  got_at_more leaving g = tt
