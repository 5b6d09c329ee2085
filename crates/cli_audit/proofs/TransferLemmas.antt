-- A sink that took one piece and then the next took both.
use Rattle.std.proofs.Common.{◌≡◌, ◌≤◌, ◌+◌, ◌-◌, ◌∙◌, ap, sym, IfSome, Err, length, ℕ, List, ◌++◌, Option, Some, None, take, drop, append_assoc, refl, arith, subst}
use Rattle.std.proofs.lemmas.Grind.{common_steps}
use Rattle.std.proofs.Math.Seq.{drop-append_seam}
use Rattle.std.proofs.lemmas.List.{length-append}
use Rattle.base_io.specs.Outside.{TellsTaken, TellsRead}
use Rattle.cli_audit.specs.declared.transfer.ReadErr.TheVariants.{Memory, TooMuch}
use Rattle.cli_audit.specs.Transfer.{input_limit, CameSoFar, IsInputRead, IsTooMuch}

pub taken_next : (a b c : Option (List ℕ)) (x y z : List ℕ) → z ≡ x ++ y → TellsTaken a b x → TellsTaken b c y → TellsTaken a c z
taken_next None b c x y z e p q = tt
taken_next (Some t) b c x y z e p q =
    let P : Option (List ℕ) → Type 0 = λ o. TellsTaken o c y in
    let next : c ≡ Some ((t ++ x) ++ y) = subst P p q in
    rw (next, e, append_assoc) refl

pub rest_whole : (at : ℕ) (xs : List ℕ) → take (length xs - at) (drop at xs) ≡ drop at xs
rest_whole at xs = grind (arith, common_steps)

-- a piece more of the input came
came_next : (input now next : Option (List ℕ)) (came buffer : List ℕ) (n : ℕ) → CameSoFar input now came → TellsRead now next buffer n → CameSoFar input next (came ++ take n buffer)
came_next None now next came buffer n sofar reads = tt
came_next (Some i) None next came buffer n sofar reads = absurd sofar
came_next (Some i) (Some rest) None came buffer n sofar reads = absurd reads
came_next (Some i) (Some rest) (Some more) came buffer n sofar reads = sofar ∙ ap (λ x. came ++ x) reads.moved ∙ sym (append_assoc came (take n buffer) more)

pub came_on : (input now next : Option (List ℕ)) (came buffer all : List ℕ) (n : ℕ) → CameSoFar input now came → TellsRead now next buffer n → all ≡ came ++ take n buffer → CameSoFar input next all
came_on input now next came buffer all n sofar reads is =
    let P : List ℕ → Type 0 = λ x. CameSoFar input next x in
    subst P (sym is) (came_next input now next came buffer n sofar reads)

-- memory ran out behind a piece
pub came_short : (input now next : Option (List ℕ)) (came buffer : List ℕ) (n : ℕ) → CameSoFar input now came → TellsRead now next buffer n → length came + length (take n buffer) ≤ input_limit + 1 → IfSome input (λ i. IsInputRead i next (Err Memory))
came_short None now next came buffer n sofar reads few = tt
came_short (Some i) None next came buffer n sofar reads few = absurd sofar
came_short (Some i) (Some rest) None came buffer n sofar reads few = absurd reads
came_short (Some i) (Some rest) (Some more) came buffer n sofar reads few =
    let is = came_next (Some i) (Some rest) (Some more) came buffer n sofar reads in
    let taken = came ++ take n buffer in
    (length taken, omega (arith, length-append came (take n buffer), few), ap Some (sym (ap (drop (length taken)) is ∙ drop-append_seam taken more)))

-- one byte past the limit came
pub came_past : (input now next : Option (List ℕ)) (came buffer : List ℕ) (n : ℕ) → CameSoFar input now came → TellsRead now next buffer n → length came + length (take n buffer) ≡ input_limit + 1 → IfSome input (λ i. IsInputRead i next (Err TooMuch))
came_past None now next came buffer n sofar reads len = tt
came_past (Some i) None next came buffer n sofar reads len = absurd sofar
came_past (Some i) (Some rest) None came buffer n sofar reads len = absurd reads
came_past (Some i) (Some rest) (Some more) came buffer n sofar reads len =
    let is = came_next (Some i) (Some rest) (Some more) came buffer n sofar reads in
    let taken = came ++ take n buffer in
    let count : length taken ≡ input_limit + 1 = length-append came (take n buffer) ∙ len in
    let whole : length i ≡ length taken + length more = ap length is ∙ length-append taken more in
    (omega (arith, count, whole), ap Some (sym (ap (λ k. drop k i) (sym count) ∙ ap (drop (length taken)) is ∙ drop-append_seam taken more)))

-- so the input has more than it may have
pub too_much : (input rest : Option (List ℕ)) → IfSome input (λ i. IsInputRead i rest (Err TooMuch)) → IfSome input IsTooMuch
too_much None rest came = tt
too_much (Some i) rest came = came.0
