-- Savepoints and the frames that they keep.
use Rattle.std.proofs.Common.{◌≡◌, ◌≤◌, ◌+◌, ℕ, zero, suc, true, false, List, [], ◌∷◌, ◌++◌, Option, Some, length, get_or, take, refl, sym, ap, ◌∙◌, subst, arith, length-append}
use Rattle.std.specs.Prelude.{◌==◌, bytes_eq, if◌then◌else◌}
use Rattle.std.proofs.Math.Seq.{take-suc, take-length, get_or-append_seam}
use Rattle.base_merkle.specs.declared.frontier.FrontierMark.{FrontierMark}
use Rattle.spec_protocol.specs.Seats.{OpenSavepoint}
use Rattle.spec_protocol.specs.Answering.{savepoints_from}
use Rattle.store_tx.specs.Trees.{mark_of, IsMark}
use Rattle.store_tx.specs.Represents.{RepresentsSavepoint, RepresentSavepoints}
use Rattle.store_tx.specs.Leaves.{leaves_in}
use Rattle.store_tx.specs.declared.savepoint.Savepoint.{Savepoint}

-- ---- more tables

mark_before : (id : ℕ) (tables more : List ℕ) (ms : List FrontierMark) → length ms ≤ length tables → mark_of id (tables ++ more) ms ≡ mark_of id tables ms
mark_before id [] [] [] le = refl
mark_before id [] (t ∷ more) [] le = refl
mark_before id [] more (m ∷ ms) le = absurd (omega (arith, le))
mark_before id (t ∷ tables) more [] le = refl
mark_before id (t ∷ tables) more (m ∷ ms) le = ap (λ (o : Option FrontierMark). if t == id then Some m else o) (mark_before id tables more ms (omega (arith, le)))

module _ (h : List ℕ → List ℕ) where
  keeps_more : (tables more : List ℕ) (s : Savepoint) (f : OpenSavepoint) → RepresentsSavepoint h tables s f → RepresentsSavepoint h (tables ++ more) s f
  keeps_more tables more s f k = let len = length-append tables more in record {
    name = k.name;
    seq = k.seq;
    few = k.few;
    placed = omega (arith, k.placed, len);
    marks = λ id. subst (λ o. IsMark h o (leaves_in id f.trees)) (sym (mark_before id tables more s.marks.items k.placed)) (k.marks id);
  }

  pub keep_more : (tables more : List ℕ) (ss : List Savepoint) (fs : List OpenSavepoint) → RepresentSavepoints h tables ss fs → RepresentSavepoints h (tables ++ more) ss fs
  keep_more tables more ss [] k = k
  keep_more tables more ss (f ∷ fs) k = (k.0, k.1, k.2, keeps_more tables more k.1 f k.3, keep_more tables more k.0 fs k.4)

  pub keep_length : (tables : List ℕ) (ss : List Savepoint) (fs : List OpenSavepoint) → RepresentSavepoints h tables ss fs → length ss ≡ length fs
  keep_length tables ss [] k = ap length k
  keep_length tables ss (f ∷ fs) k = let len = length-append k.0 (k.1 ∷ []) in let rest = keep_length tables k.0 fs k.4 in omega (arith, ap length k.2, len, rest)

-- ---- the last one

snoc_same : (xs ys : List Savepoint) (a b : Savepoint) → xs ++ a ∷ [] ≡ ys ++ b ∷ [] → (xs ≡ ys) × (a ≡ b)
snoc_same [] [] a b e = (refl, (let one : a ≡ b = cc in one))
snoc_same [] (y ∷ ys) a b e = let len = length-append ys (b ∷ []) in absurd (omega (arith, ap length e, len))
snoc_same (x ∷ xs) [] a b e = let len = length-append xs (a ∷ []) in absurd (omega (arith, ap length e, len))
snoc_same (x ∷ xs) (y ∷ ys) a b e =
    let head : x ≡ y = cc in
    let tail : xs ++ a ∷ [] ≡ ys ++ b ∷ [] = cc in
    let rest = snoc_same xs ys a b tail in
    (rw (head, rest.0) refl, rest.1)

pub last_read : (xs older : List Savepoint) (s x : Savepoint) (k : ℕ) → xs ≡ older ++ s ∷ [] → k + 1 ≡ length xs → get_or xs k x ≡ s
last_read xs older s x k is at =
    let len = length-append older (s ∷ []) in
    let place : k ≡ length older = omega (arith, at, ap length is, len) in
    rw (is, place) (get_or-append_seam older s [] x)

-- ---- the most recent one of a name

-- those that are looked at no more have another name
abbrev pub Passed : List ℕ → List Savepoint → List Savepoint → Type 0
Passed name all left = (h : List ℕ → List ℕ) (tables : List ℕ) (open_savepoints : List OpenSavepoint) → RepresentSavepoints h tables all open_savepoints
    → (rest : List OpenSavepoint) × RepresentSavepoints h tables left rest × (savepoints_from name open_savepoints ≡ savepoints_from name rest)

none_passed : (name : List ℕ) (all : List Savepoint) → Passed name all all
none_passed name all h tables open_savepoints k = (open_savepoints, k, refl)

-- what is left ends in this savepoint
pub record Ends (h : List ℕ → List ℕ) (tables : List ℕ) (older : List Savepoint) (s : Savepoint) (open_savepoints : List OpenSavepoint) : Type 0 where
  pub f : OpenSavepoint
  pub fs : List OpenSavepoint
  pub are : open_savepoints ≡ f ∷ fs
  pub keeps : RepresentsSavepoint h tables s f
  pub keep : RepresentSavepoints h tables older fs

ends_so : (h : List ℕ → List ℕ) (tables : List ℕ) (left older : List Savepoint) (s : Savepoint) (open_savepoints : List OpenSavepoint) → left ≡ older ++ s ∷ [] → RepresentSavepoints h tables left open_savepoints → Ends h tables older s open_savepoints
ends_so h tables left older s [] is k = let len = length-append older (s ∷ []) in absurd (omega (arith, ap length is, ap length k, len))
ends_so h tables left older s (f ∷ fs) is k =
    let same = snoc_same older k.0 s k.1 (sym is ∙ k.2) in
    record { f = f; fs = fs; are = refl; keeps = subst (λ v. RepresentsSavepoint h tables v f) (sym same.1) k.3; keep = subst (λ v. RepresentSavepoints h tables v fs) (sym same.0) k.4 }

one_off : (ss : List Savepoint) (n m : ℕ) (x : Savepoint) → n ≡ m + 1 → n ≤ length ss → take n ss ≡ take m ss ++ get_or ss m x ∷ []
one_off ss n m x is le = let s : n ≡ suc m = omega (arith, is) in rw s (take-suc ss m x (omega (arith, is, le)))

pub passed_more : (name : List ℕ) (all ss : List Savepoint) (n m : ℕ) (x : Savepoint) → n ≡ m + 1 → n ≤ length ss → bytes_eq (get_or ss m x).name name ≡ false
    → Passed name all (take n ss) → Passed name all (take m ss)
passed_more name all ss n m x is le other so h tables open_savepoints k =
    let r = so h tables open_savepoints k in
    let e = ends_so h tables (take n ss) (take m ss) (get_or ss m x) r.0 (one_off ss n m x is le) r.1 in
    let no : bytes_eq e.f.name name ≡ false = subst (λ v. bytes_eq v name ≡ false) e.keeps.name other in
    (e.fs, e.keep, r.2 ∙ ap (savepoints_from name) e.are ∙ rw no refl)

pub found_there : (name : List ℕ) (all ss : List Savepoint) (n m : ℕ) (x : Savepoint) → n ≡ m + 1 → n ≤ length ss → bytes_eq (get_or ss m x).name name ≡ true
    → Passed name all (take n ss) → (h : List ℕ → List ℕ) (tables : List ℕ) (open_savepoints : List OpenSavepoint) → RepresentSavepoints h tables all open_savepoints → RepresentSavepoints h tables (take n ss) (savepoints_from name open_savepoints)
found_there name all ss n m x is le here so h tables open_savepoints k =
    let r = so h tables open_savepoints k in
    let e = ends_so h tables (take n ss) (take m ss) (get_or ss m x) r.0 (one_off ss n m x is le) r.1 in
    let yes : bytes_eq e.f.name name ≡ true = subst (λ v. bytes_eq v name ≡ true) e.keeps.name here in
    let same : savepoints_from name open_savepoints ≡ r.0 = r.2 ∙ ap (savepoints_from name) e.are ∙ (let first : savepoints_from name (e.f ∷ e.fs) ≡ e.f ∷ e.fs = rw yes refl in first) ∙ sym e.are in
    subst (λ fs. RepresentSavepoints h tables (take n ss) fs) (sym same) r.1

none_left : (name : List ℕ) (all : List Savepoint) → Passed name all [] → (h : List ℕ → List ℕ) (tables : List ℕ) (open_savepoints : List OpenSavepoint) → RepresentSavepoints h tables all open_savepoints → RepresentSavepoints h tables [] (savepoints_from name open_savepoints)
none_left name all so h tables open_savepoints k = by r.0 r.1 r.2
  where
    r : (rest : List OpenSavepoint) × RepresentSavepoints h tables [] rest × (savepoints_from name open_savepoints ≡ savepoints_from name rest)
    r = so h tables open_savepoints k

    by : (rest : List OpenSavepoint) → RepresentSavepoints h tables [] rest → savepoints_from name open_savepoints ≡ savepoints_from name rest → RepresentSavepoints h tables [] (savepoints_from name open_savepoints)
    by [] k e = rw e refl
    by (f ∷ fs) k e = let len = length-append k.0 (k.1 ∷ []) in absurd (omega (arith, ap length k.2, len))

pub start_passed : (name : List ℕ) (all : List Savepoint) → Passed name all (take (length all) all)
start_passed name all = subst (λ v. Passed name all v) (sym (take-length all)) (none_passed name all)

pub none_named : (name : List ℕ) (all ss : List Savepoint) (n : ℕ) → n ≤ 0 → Passed name all (take n ss) → (h : List ℕ → List ℕ) (tables : List ℕ) (open_savepoints : List OpenSavepoint)
    → RepresentSavepoints h tables all open_savepoints → RepresentSavepoints h tables [] (savepoints_from name open_savepoints)
none_named name all ss zero le so = none_left name all so
none_named name all ss (suc n) le so = absurd (omega (arith, le))
