-- The line that is written of a verdict.
use Rattle.std.specs.Prelude.{ℕ, List, [], ◌++◌, codes}
use Rattle.std.specs.Fmt.{decimal, signed_decimal}
use Rattle.spec_verify.specs.declared.place.Invariant.{Invariant}
use Rattle.spec_verify.specs.declared.place.Invariant.TheVariants.{V0, V1, V2, V3, V4, V5, V6, V7, V8}
use Rattle.spec_verify.specs.declared.place.Place.{Place}
use Rattle.spec_verify.specs.declared.place.Place.TheVariants as at
use Rattle.spec_verify.specs.declared.place.Verdict.{Verdict}
use Rattle.spec_verify.specs.declared.place.Verdict.TheVariants.{Yes, No}

-- V and the digit of the invariant
abbrev pub invariant_name : Invariant → List ℕ
invariant_name V0 = codes "V0"
invariant_name V1 = codes "V1"
invariant_name V2 = codes "V2"
invariant_name V3 = codes "V3"
invariant_name V4 = codes "V4"
invariant_name V5 = codes "V5"
invariant_name V6 = codes "V6"
invariant_name V7 = codes "V7"
invariant_name V8 = codes "V8"

-- a place in words and numbers, each behind a blank; of the whole nothing is said
abbrev pub place_text : Place → List ℕ
place_text at.Whole = []
place_text (at.Digest i) = codes " digest " ++ decimal i
place_text (at.Block b) = codes " block " ++ decimal b
place_text (at.Entry i) = codes " entry " ++ decimal i
place_text (at.Event table tx seq) =
    codes " table " ++ decimal table ++ codes " event " ++ decimal tx ++ codes " " ++ decimal seq
place_text (at.Numbers tx) = codes " transaction " ++ decimal tx ++ codes " numbers"
place_text (at.Root tx table) = codes " transaction " ++ decimal tx ++ codes " table " ++ decimal table
place_text (at.Table id) = codes " table " ++ signed_decimal id
place_text (at.Index table index) = codes " table " ++ decimal table ++ codes " index " ++ decimal index

-- `Yes`, or `No`, the invariant, and the place; without the end of the line
abbrev pub verdict_line : Verdict → List ℕ
verdict_line Yes = codes "Yes"
verdict_line (No invariant place) = codes "No " ++ invariant_name invariant ++ place_text place
