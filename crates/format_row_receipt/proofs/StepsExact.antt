-- Steps are read exactly as they are written.
use Rattle.std.proofs.Common.{◌≡◌, ◌<◌, ℕ, zero, suc, true, List, [], ◌∷◌, length, Some, refl, ap, arith}
use Rattle.std.specs.List.{AllByRecursion}
use Rattle.base_fields.specs.Fields.{u8_field, hash_field}
use Rattle.base_fields.specs.Readers.{u8_at, hash_at, listed}
use Rattle.base_fields.specs.Exact.{Exact}
use Rattle.base_fields.proofs.Written.{u8_exact, hash_exact}
use Rattle.base_fields.proofs.Parts.{Decodes, both_exact, decoded_exact, where_exact, listed_exact}
use Rattle.audit_paths.specs.declared.side.Side.{Side}
use Rattle.audit_paths.specs.declared.side.Side.TheVariants as other
use Rattle.audit_paths.specs.Path.{Step}
use Rattle.format_row_receipt.specs.RowReceipts.{side_number, step_bytes, steps_bytes}
use Rattle.format_row_receipt.specs.RowReading.{side_of, side_at, step_at, are_few, steps_at}

abbrev IsSide : Side → Type 0
IsSide s = Unit {0}

abbrev side_field : Side → List ℕ
side_field s = u8_field (side_number s)

side_there : (s : Side) → side_of (side_number s) ≡ Some s
side_there other.Right = refl
side_there other.Left = refl

side_small : (s : Side) → side_number s < 256
side_small other.Right = omega arith
side_small other.Left = omega arith

side_back : (n : ℕ) (s : Side) → side_of n ≡ Some s → n ≡ side_number s
side_back zero other.Right e = refl
side_back zero other.Left e = cc
side_back (suc zero) other.Right e = cc
side_back (suc zero) other.Left e = refl
side_back (suc (suc n)) s e = cc

sides_decode : Decodes (λ n. n < 256) IsSide u8_field side_field side_of side_number
sides_decode = record {
  there = λ s f. side_there s;
  encoded = λ s f. refl;
  fit_back = λ s f. side_small s;
  back = λ n s fits small read. (tt, ap u8_field (side_back n s read));
}

side_exact : Exact IsSide side_field side_at
unfolding side_at
side_exact = decoded_exact (λ n. n < 256) IsSide u8_field side_field side_of side_number u8_at sides_decode u8_exact

abbrev pub IsStep : Step → Type 0
IsStep s = length s.1 ≡ 32

abbrev FitStep : Step → Type 0
FitStep s = IsSide s.0 × IsStep s

step_exact : Exact FitStep step_bytes step_at
unfolding step_at
step_exact = both_exact IsSide (λ (hash : List ℕ). length hash ≡ 32) side_field hash_field side_at hash_at side_exact hash_exact

abbrev pub FitSteps : List Step → Type 0
FitSteps steps = ((length steps < 256) × AllByRecursion FitStep steps) × (are_few steps ≡ true)

pub steps_exact : Exact FitSteps steps_bytes steps_at
unfolding steps_at
steps_exact = where_exact (λ (steps : List Step). (length steps < 256) × AllByRecursion FitStep steps) steps_bytes are_few (listed u8_at step_at)
    (listed_exact FitStep step_bytes step_at step_exact 256 u8_field u8_at u8_exact)

-- ---- a step that fits has a side and a hash of 32 bytes, and no more

pub steps_fit : (steps : List Step) → AllByRecursion IsStep steps → AllByRecursion FitStep steps
steps_fit [] all = tt
steps_fit (s ∷ steps) all = ((tt, all.0), steps_fit steps all.1)

pub steps_hashes : (steps : List Step) → AllByRecursion FitStep steps → AllByRecursion IsStep steps
steps_hashes [] all = tt
steps_hashes (s ∷ steps) all = (all.0.1, steps_hashes steps all.1)
