-- Steps that are taken one after another: each by one seat, while all others are between statements.
use Rattle.spec_protocol.specs.Cells.{Cell}
use Rattle.spec_protocol.specs.InactiveExcept.{InactiveExcept}
use Rattle.spec_protocol.specs.Seats.{SeatState}
use Rattle.spec_protocol.specs.Server.{Server}
use Rattle.spec_protocol.specs.Steps.{Step, Steps}
use Rattle.spec_protocol.specs.Steps as step
use Rattle.std.specs.Prelude.{List}

abbrev pub IsOneAlone : {v : Server} {cells : List Cell} {seats : List SeatState} {then_cells : List Cell}
    {then_seats : List SeatState} → Step v cells seats then_cells then_seats → Type 0
IsOneAlone {seats = seats} (step.alone j s t there how a b) = InactiveExcept seats j
IsOneAlone {seats = seats} (step.visits w) = InactiveExcept seats w.j
IsOneAlone (step.splits j n s there a b) = Unit {0}
IsOneAlone (step.joins j k s t there there_k apart ends a b) = Unit {0}

abbrev pub OneByOne : {v : Server} {cells : List Cell} {seats : List SeatState} {then_cells : List Cell}
    {then_seats : List SeatState} → Steps v cells seats then_cells then_seats → Type 0
OneByOne step.none = Unit {0}
OneByOne (step.more steps last) = OneByOne steps × IsOneAlone last
