-- A read moves the first bytes of what is left.
use Rattle.std.proofs.Common.{◌≡◌, ◌≤◌, ◌+◌, ℕ, List, ◌++◌, length, take, drop, sym, subst}
use Rattle.std.proofs.lemmas.List.{take-append-drop, drop-drop, drop_all}
use Rattle.std.proofs.Math.Seq.{take-append_seam}
use Rattle.base_io.specs.Outside.{Reads}

pub moves : (bytes buf got : List ℕ) (at n : ℕ) → length got ≡ n → got ≡ take n (drop at bytes) → (n ≡ 0 → length bytes ≤ at) → Reads (drop at bytes) (drop (at + n) bytes) (got ++ drop n buf) n
moves bytes buf got at n len is none = record {
  moved =
      let seam : take n (got ++ drop n buf) ≡ got = let P : ℕ → Type 0 = λ m. take m (got ++ drop n buf) ≡ got in subst P len (take-append_seam got (drop n buf)) in
      rw (seam, is, ← drop-drop n at bytes) (sym (take-append-drop n (drop at bytes)));
  at_end = λ z. drop_all at bytes (none z);
}
