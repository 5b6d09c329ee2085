-- Entries that are placed one after another stand at the places that the sizes of blocks give them.
use Rattle.std.proofs.Common.{◌≡◌, ◌<◌, ℕ, zero, suc, ◌+◌, ◌-◌, true, false, refl, ap, sym, subst, ◌∙◌, List, [], ◌∷◌, ◌++◌, take, drop, Option, Some, None, arith, append_assoc}
use Rattle.std.specs.Prelude.{nat_lt}
use Rattle.std.proofs.lemmas.Bool.{lt-ltb, le-ltb}
use Rattle.base_fields.specs.Readers.{Reader, ◌>>=◌, mapped, times}
use Rattle.sql_types.specs.declared.entry.TxEntry.{TxEntry}
use Rattle.spec_ledger.specs.Entries.{at_place, placed}
use Rattle.spec_ledger.specs.Parts.{by_sizes}
use Rattle.format_image.specs.Walk.{Spot, free_spot, walked, walked_behind}

walked_alone : (b o : ℕ) (es : List TxEntry) → walked [] b o es ≡ placed b o es
walked_alone b o [] = refl
walked_alone b o (e ∷ es) = ap (λ (l : List TxEntry). at_place b o e ∷ l) (walked_alone b (o + 1) es)

by_sizes_nothing : (b : ℕ) (ks : List ℕ) → by_sizes b ks [] ≡ []
by_sizes_nothing b [] = refl
by_sizes_nothing b (zero ∷ ks) = by_sizes_nothing (b + 1) ks
by_sizes_nothing b (suc k ∷ ks) = by_sizes_nothing (b + 1) ks

-- in a block with room for n more
abbrev rest_of : ℕ → ℕ → List ℕ → ℕ → List TxEntry → List TxEntry
rest_of b o ks n es = placed b o (take n es) ++ by_sizes (b + 1) ks (drop n es)

rest_of_nothing : (b o : ℕ) (ks : List ℕ) (n : ℕ) → [] ≡ rest_of b o ks n []
rest_of_nothing b o ks zero = sym (by_sizes_nothing (b + 1) ks)
rest_of_nothing b o ks (suc n) = sym (by_sizes_nothing (b + 1) ks)

in_block : (k b : ℕ) (ks : List ℕ) → ((es : List TxEntry) → walked ks (b + 1) 0 es ≡ by_sizes (b + 1) ks es)
    → (es : List TxEntry) (o n : ℕ) → o + n ≡ k → walked (k ∷ ks) b o es ≡ rest_of b o ks n es
in_block k b ks next [] o n e = rest_of_nothing b o ks n
in_block k b ks next (x ∷ es) o zero e =
    let full : nat_lt o k ≡ false = le-ltb o k (omega arith) in
    rw full (next (x ∷ es))
in_block k b ks next (x ∷ es) o (suc n) e =
    let room : nat_lt o k ≡ true = lt-ltb o k (omega arith) in
    rw room (ap (λ (l : List TxEntry). at_place b o x ∷ l) (in_block k b ks next es (o + 1) n (omega arith)))

pub walked_is : (ks : List ℕ) (b : ℕ) (es : List TxEntry) → walked ks b 0 es ≡ by_sizes b ks es
walked_is [] b es = walked_alone b 0 es
walked_is (k ∷ ks) b es = in_block k b ks (walked_is ks (b + 1)) es 0 k (omega arith)

-- ---- reading

regroup : (before : List TxEntry) (e : TxEntry) (ks : List ℕ) (b o : ℕ) (read : Option (List TxEntry × List ℕ))
    → walked_behind before ks b o (read >>= λ xs. Some (e ∷ xs.0, xs.1))
    ≡ (let s = free_spot ks b o in walked_behind (before ++ at_place s.block s.ordinal e ∷ []) s.sizes s.block (s.ordinal + 1) read)
regroup before e ks b o (Some xs) =
    let s : Spot = free_spot ks b o in
    ap (λ (l : List TxEntry). let r : Option (List TxEntry × List ℕ) = Some (l, xs.1) in r)
    (sym (append_assoc before (at_place s.block s.ordinal e ∷ []) (walked s.sizes s.block (s.ordinal + 1) xs.0)))
regroup before e ks b o None = refl

module _ (r : Reader TxEntry) where
  pub goes_on : (before : List TxEntry) (ks : List ℕ) (b o count i : ℕ) (bytes after : List ℕ) (e : TxEntry) (s : Spot) (total : Option (List TxEntry × List ℕ)) → i < count → r bytes ≡ Some (e, after)
      → free_spot ks b o ≡ s → walked_behind before ks b o (times r (count - i) bytes) ≡ total
      → walked_behind (before ++ at_place s.block s.ordinal e ∷ []) s.sizes s.block (s.ordinal + 1) (times r (count - (i + 1)) after) ≡ total
  goes_on before ks b o count i bytes after e s total lt read spot so_far =
      let k : count - i ≡ suc (count - (i + 1)) = omega arith in
      let more = times r (count - (i + 1)) after in
      let one : walked_behind before ks b o (times r (count - i) bytes) ≡ (let t = free_spot ks b o in walked_behind (before ++ at_place t.block t.ordinal e ∷ []) t.sizes t.block (t.ordinal + 1) more) =
      rw (k, read) (regroup before e ks b o more) in
      subst (λ (t : Spot). walked_behind (before ++ at_place t.block t.ordinal e ∷ []) t.sizes t.block (t.ordinal + 1) more ≡ total) spot (sym one ∙ so_far)

  pub starts : (ks : List ℕ) (count : ℕ) (bytes : List ℕ) → walked_behind [] ks 0 0 (times r count bytes) ≡ mapped (by_sizes 0 ks) (times r count) bytes
  starts ks count bytes = by_read (times r count bytes)
    where
      by_read : (read : Option (List TxEntry × List ℕ)) → walked_behind [] ks 0 0 read ≡ (read >>= λ x. Some (by_sizes 0 ks x.0, x.1))
      by_read (Some x) = ap (λ (l : List TxEntry). let o : Option (List TxEntry × List ℕ) = Some (l, x.1) in o) (walked_is ks 0 x.0)
      by_read None = refl
