use Rattle.std.proofs.Common.{◌≡◌, ℕ, ◌*◌, ◌%◌, ◌^◌, ◌∙◌, length, take, drop, ap, arith}
use Rattle.std.specs.Int.{w64, to_be_bytes}
use Rattle.sha2.specs.Sha256.{padded_message}
use Rattle.base_sha256.proofs.Ending.{padded_end, padded_full, padded_last, padded_mark}
use Rattle.base_sha256.proofs.block.pad.Goals as goal

pub returns-then-filled-ge64 : goal.returns-then-filled-ge64
returns-then-filled-ge64 c = λ m index el es within held.
    padded_full c.args.block.now c.args.filled c.args.start m c.if-filled-ge64.true held ∙ ap (λ (k : ℕ). take 64 (drop k (padded_message m))) es

pub returns-then-start-len : goal.returns-then-start-len
returns-then-start-len c = λ m index el es within held.
    let bits : c.args.len * 8 ≡ length m * 8 % 2 ^ 64 = omega (arith, c.requires.short) in
    padded_last c.args.block.now c.copy_from_slice.new.self c.args.filled index c.args.start 8 m es (omega arith) within (omega arith)
    (c.copy_from_slice.ensures.after ∙ c.to_be_bytes-bits.ensures ∙ ap (to_be_bytes w64) bits) held ∙ ap (λ (k : ℕ). take 64 (drop k (padded_message m))) es

pub returns-then-filled-ge56 : goal.returns-then-filled-ge56
returns-then-filled-ge56 c = λ m index el es within held.
    padded_mark c.args.block.now c.args.filled index c.args.start m es (omega arith) c.if-filled-ge56.true (omega arith) held ∙ ap (λ (k : ℕ). take 64 (drop k (padded_message m))) es

pub returns : goal.returns
returns c = λ m index el es within held.
    let bits : c.args.len * 8 ≡ length m * 8 % 2 ^ 64 = omega (arith, c.requires.short) in
    padded_end c.args.block.now c.copy_from_slice-2.new.self c.args.filled index c.args.start 8 m es (omega arith) (omega arith) (omega arith)
    (c.copy_from_slice-2.ensures.after ∙ c.to_be_bytes-bits.ensures ∙ ap (to_be_bytes w64) bits) held ∙ ap (λ (k : ℕ). take 64 (drop k (padded_message m))) es
