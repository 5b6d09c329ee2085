-- The entries of a block whose size is right have a spelling, at the places that the sizes give them.
use Rattle.std.proofs.Common.{◌≡◌, ◌<◌, ◌≤◌, ◌+◌, ◌^◌, ℕ, zero, suc, arith, refl, sym, ap, subst, ◌∙◌, List, [], ◌∷◌, ◌++◌, length, take, drop, get_or, length-drop}
use Rattle.std.proofs.lemmas.List.{length-take-le}
use Rattle.std.proofs.lemmas.List.Sums.{sum_by-cons, sum_by_more}
use Rattle.std.proofs.Math.Seq.{drop-nil}
use Rattle.std.specs.List.{AllByRecursion, sum_by}
use Rattle.sql_types.specs.declared.entry.BlockRecord.{BlockRecord}
use Rattle.sql_types.specs.declared.entry.TxEntry.{TxEntry}
use Rattle.sql_types.specs.declared.image.Image.{Image}
use Rattle.format_entry.specs.Entry.{IsEntry}
use Rattle.format_image.specs.ImageBytes.{IsImage, IsPlaceless, sizes_of}
use Rattle.spec_ledger.specs.Entries.{placed}
use Rattle.spec_ledger.specs.Parts.{by_sizes}
use Rattle.spec_model.specs.Limits.{max_block}
use Rattle.spec_verify.specs.Blocks.{entries_before}

length_placed : (block ordinal : ℕ) (es : List TxEntry) → length (placed block ordinal es) ≡ length es
length_placed block ordinal [] = refl
length_placed block ordinal (e ∷ es) = ap suc (length_placed block (ordinal + 1) es)

-- what is spelled wherever it stands is spelled at these places
placed_fit : (block ordinal : ℕ) (es : List TxEntry) → block < 2 ^ 64 → ordinal + length es < 2 ^ 32
    → AllByRecursion IsPlaceless es → AllByRecursion IsEntry (placed block ordinal es)
placed_fit block ordinal [] b o a = tt
placed_fit block ordinal (e ∷ es) b o a = (
  record {
    id = a.0.id;
    block = b;
    ordinal = omega (arith, o);
    time = a.0.time;
    principal = a.0.principal;
    count = a.0.count;
    roots = a.0.roots;
    rise = a.0.rise;
  },
  placed_fit block (ordinal + 1) es b (omega (arith, o)) a.1,
)

fit_take : (k : ℕ) (es : List TxEntry) → AllByRecursion IsPlaceless es → AllByRecursion IsPlaceless (take k es)
fit_take zero es a = tt
fit_take (suc k) [] a = tt
fit_take (suc k) (e ∷ es) a = (a.0, fit_take k es a.1)

fit_drop : (k : ℕ) (es : List TxEntry) → AllByRecursion IsPlaceless es → AllByRecursion IsPlaceless (drop k es)
fit_drop zero es a = a
fit_drop (suc k) [] a = tt
fit_drop (suc k) (e ∷ es) a = fit_drop k es a.1

take_front : {A : Type 0} (k : ℕ) (xs ys : List A) → length xs ≡ k → take k (xs ++ ys) ≡ xs
take_front zero [] ys e = refl
take_front (suc k) [] ys e = cc
take_front zero (x ∷ xs) ys e = cc
take_front (suc k) (x ∷ xs) ys e = ap (λ zs. x ∷ zs) (take_front k xs ys (omega (arith, e)))

drop_front : {A : Type 0} (k : ℕ) (xs ys : List A) → length xs ≡ k → drop k (xs ++ ys) ≡ ys
drop_front zero [] ys e = refl
drop_front (suc k) [] ys e = cc
drop_front zero (x ∷ xs) ys e = cc
drop_front (suc k) (x ∷ xs) ys e = drop_front k xs ys (omega (arith, e))

drop_drop : {A : Type 0} (m n : ℕ) (xs : List A) → drop n (drop m xs) ≡ drop (m + n) xs
drop_drop zero n xs = ap (λ (k : ℕ). drop k xs) (omega arith)
drop_drop (suc m) n [] = drop-nil n ∙ sym (drop-nil (suc m + n))
drop_drop (suc m) n (x ∷ xs) =
    let same : suc (m + n) ≡ suc m + n = omega arith in
    drop_drop m n xs ∙ ap (λ (k : ℕ). drop k (x ∷ xs)) same

fit_from : (block b : ℕ) (rs : List BlockRecord) (r : BlockRecord) (more : List BlockRecord) (es : List TxEntry)
    → block + length rs < 2 ^ 64 → AllByRecursion IsPlaceless es → es ≡ by_sizes block (sizes_of rs) es
    → drop b rs ≡ r ∷ more → r.size < 2 ^ 32 → sum_by (λ (x : BlockRecord). x.size) (take b rs) + r.size ≤ length es
    → AllByRecursion IsEntry (take r.size (drop (sum_by (λ (x : BlockRecord). x.size) (take b rs)) es))
fit_from block zero [] r more es few a is here small within = cc
fit_from block (suc b) [] r more es few a is here small within = cc
fit_from block zero (x ∷ xs) r more es few a is here small within =
    let same : x ≡ r = cc in
    let size : x.size ≡ r.size = ap (λ (y : BlockRecord). y.size) same in
    let k = x.size in
    let front = take k es in
    let count : length front ≡ k = length-take-le k es (omega (arith, size, within)) in
    let parts = placed block 0 front in
    let first : take k es ≡ parts = ap (take k) is ∙ take_front k parts (by_sizes (block + 1) (sizes_of xs) (drop k es)) (length_placed block 0 front ∙ count) in
    let fit : AllByRecursion IsEntry parts = placed_fit block 0 front (omega (arith, few)) (omega (arith, count, small, size)) (fit_take k es a) in
    subst (λ n. AllByRecursion IsEntry (take n es)) size (subst (AllByRecursion IsEntry) (sym first) fit)
fit_from block (suc b) (x ∷ xs) r more es few a is here small within =
    let k = x.size in
    let size : BlockRecord → ℕ = λ (y : BlockRecord). y.size in
    let sum : ℕ = sum_by size (take b xs) in
    let all : sum_by size (x ∷ take b xs) ≡ k + sum = sum_by-cons size x (take b xs) in
    let long : k + (sum + r.size) ≤ length es = omega (arith, within, all) in
    let front = take k es in
    let count : length front ≡ k = length-take-le k es (omega (arith, long)) in
    let parts = placed block 0 front in
    let rest : drop k es ≡ by_sizes (block + 1) (sizes_of xs) (drop k es) = ap (drop k) is ∙ drop_front k parts (by_sizes (block + 1) (sizes_of xs) (drop k es)) (length_placed block 0 front ∙ count) in
    let left : length (drop k es) + k ≡ length es = omega (arith, long, length-drop k es) in
    subst (λ ys. AllByRecursion IsEntry (take r.size ys)) (drop_drop k sum es ∙ ap (λ (n : ℕ). drop n es) (sym all))
    (fit_from (block + 1) b xs r more (drop k es) (omega (arith, few)) (fit_drop k es a) rest here small (omega (arith, long, left)))

-- in an image, of the block at a place
pub entries_fit : (i : Image) (b : ℕ) (r : BlockRecord) (more : List BlockRecord) → IsImage i → drop b i.blocks ≡ r ∷ more
    → r.size ≤ max_block → entries_before i b + r.size ≤ length i.entries
    → AllByRecursion IsEntry (take r.size (drop (entries_before i b) i.entries))
entries_fit i b r more is here small within =
    fit_from 0 b i.blocks r more i.entries (omega (arith, is.block_count)) is.entries is.places here (omega (arith, small)) within

in_range : {A : Type 0} (b : ℕ) (xs : List A) (x : A) (more : List A) → drop b xs ≡ x ∷ more → (b < length xs) × (get_or xs b x ≡ x)
in_range zero [] x more e = cc
in_range (suc b) [] x more e = cc
in_range zero (y ∷ ys) x more e = (omega arith, cc)
in_range (suc b) (y ∷ ys) x more e = let r = in_range b ys x more e in (omega (arith, r.0), r.1)

-- one block more
pub entries_more : (i : Image) (b : ℕ) (r : BlockRecord) (more : List BlockRecord) → drop b i.blocks ≡ r ∷ more
    → entries_before i b + r.size ≡ entries_before i (b + 1)
entries_more i b r more e =
    let size : BlockRecord → ℕ = λ (y : BlockRecord). y.size in
    let at = in_range b i.blocks r more e in
    sym (sum_by_more size i.blocks b r at.0 ∙ ap (λ (y : BlockRecord). entries_before i b + y.size) at.1)
