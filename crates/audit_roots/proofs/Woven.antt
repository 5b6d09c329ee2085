-- What is made of starts and of ends apart, woven, is made of both in their order.
use Rattle.std.proofs.Common.{◌≡◌, ◌<◌, ◌+◌, ℕ, refl, sym, ap, ap₂, ◌∙◌, Bool, true, false, cond, List, [], ◌∷◌, ◌++◌, append_assoc, get_or, length, map, filter, take, drop}
use Rattle.std.proofs.lemmas.List.Elements.{All-from_recursion, recursion_from_All}
use Rattle.std.specs.Prelude.{not}
use Rattle.std.specs.List.{All, AllByRecursion}
use Rattle.audit_definitions.proofs.Walks.{from_here}
use Rattle.audit_roots.specs.declared.marks.Mark.{Mark}
use Rattle.audit_roots.specs.Marks.{is_end, is_start, woven, HasValues}

-- those that are kept have their values
pub kept_values : (p : Mark → Bool) (ms : List Mark) → All HasValues ms → All HasValues (filter p ms)
kept_values p ms all = All-from_recursion HasValues (filter p ms) (kept ms (recursion_from_All HasValues ms all))
  where
    kept : (xs : List Mark) → AllByRecursion HasValues xs → AllByRecursion HasValues (filter p xs)
    kept [] each = tt
    kept (x ∷ xs) each = by (p x) (kept xs each.1)
      where
        by : (b : Bool) → AllByRecursion HasValues (filter p xs) → AllByRecursion HasValues (cond b (x ∷ filter p xs) (filter p xs))
        by true more = (each.0, more)
        by false more = more

pub woven_maps : {A : Type 0} (f : Mark → A) (ms : List Mark) → woven ms (map f (filter is_start ms)) (map f (filter is_end ms)) ≡ map f ms
woven_maps f [] = refl
woven_maps {A} f (m ∷ ms) = by m.is_end (woven_maps f ms)
  where
    starts : List Mark
    starts = filter is_start ms

    ends : List Mark
    ends = filter is_end ms

    by : (b : Bool) → woven ms (map f starts) (map f ends) ≡ map f ms
        → cond b
        (take 1 (map f (cond b (m ∷ ends) ends)) ++ woven ms (map f (cond (not b) (m ∷ starts) starts)) (drop 1 (map f (cond b (m ∷ ends) ends))))
        (take 1 (map f (cond (not b) (m ∷ starts) starts)) ++ woven ms (drop 1 (map f (cond (not b) (m ∷ starts) starts))) (map f (cond b (m ∷ ends) ends)))
        ≡ f m ∷ map f ms
    by true more = ap (λ (l : List A). f m ∷ l) more
    by false more = ap (λ (l : List A). f m ∷ l) more

-- what is woven of the two
pub woven_is : {A : Type 0} (f : Mark → A) (ms : List Mark) (starts ends : List A) → starts ≡ map f (filter is_start ms) → ends ≡ map f (filter is_end ms) → woven ms starts ends ≡ map f ms
woven_is f ms starts ends starts_are ends_are = ap (λ l. woven ms l ends) starts_are ∙ ap (woven ms (map f (filter is_start ms))) ends_are ∙ woven_maps f ms

-- from one to the next
step : {A : Type 0} (ms : List Mark) (k : ℕ) (m : Mark) (starts ends before all : List A) → k < length ms → m ≡ get_or ms k m → before ++ woven (drop k ms) starts ends ≡ all
    → before ++ woven (m ∷ drop (k + 1) ms) starts ends ≡ all
step ms k m starts ends before all within is rest =
    sym (ap (λ l. before ++ woven l starts ends) (from_here ms k m within ∙ ap (λ (x : Mark). x ∷ drop (k + 1) ms) (sym is))) ∙ rest

pub end_next : {A : Type 0} (ms : List Mark) (k : ℕ) (m : Mark) (starts ends left before next all : List A) → k < length ms → m ≡ get_or ms k m → m.is_end ≡ true
    → next ≡ before ++ take 1 ends → left ≡ drop 1 ends → before ++ woven (drop k ms) starts ends ≡ all → next ++ woven (drop (k + 1) ms) starts left ≡ all
end_next {A} ms k m starts ends left before next all within is end put left_is rest =
    let rear : List Mark = drop (k + 1) ms in
    ap₂ (λ (a b : List A). a ++ woven rear starts b) put left_is
    ∙ append_assoc before (take 1 ends) (woven rear starts (drop 1 ends))
    ∙ sym (ap (λ (b : Bool). before ++ cond b (take 1 ends ++ woven rear starts (drop 1 ends)) (take 1 starts ++ woven rear (drop 1 starts) ends)) end)
    ∙ step ms k m starts ends before all within is rest

pub start_next : {A : Type 0} (ms : List Mark) (k : ℕ) (m : Mark) (starts ends left before next all : List A) → k < length ms → m ≡ get_or ms k m → m.is_end ≡ false
    → next ≡ before ++ take 1 starts → left ≡ drop 1 starts → before ++ woven (drop k ms) starts ends ≡ all → next ++ woven (drop (k + 1) ms) left ends ≡ all
start_next {A} ms k m starts ends left before next all within is start put left_is rest =
    let rear : List Mark = drop (k + 1) ms in
    ap₂ (λ (a b : List A). a ++ woven rear b ends) put left_is
    ∙ append_assoc before (take 1 starts) (woven rear (drop 1 starts) ends)
    ∙ sym (ap (λ (b : Bool). before ++ cond b (take 1 ends ++ woven rear starts (drop 1 ends)) (take 1 starts ++ woven rear (drop 1 starts) ends)) start)
    ∙ step ms k m starts ends before all within is rest
