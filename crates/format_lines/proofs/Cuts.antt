-- Colons and line feeds.
use Rattle.std.proofs.Common.{◌≡◌, ◌≤◌, ◌<◌, ◌-◌, ◌+◌, ◌∙◌, ℕ, suc, Bool, true, false, not, List, [], ◌∷◌, length, get_or, refl, arith, ◌==◌, ◌||◌, cond, ap, nat_lt, take, drop, length-drop, sym, subst, Some, None}
use Rattle.std.specs.List.{position_or_len, list_any, slice_split, position, before_first, after_first, All}
use Rattle.std.proofs.lemmas.Bool.Decides.{nat_tests}
use Rattle.std.proofs.lemmas.List.{drop_all, take_all}
use Rattle.std.proofs.lemmas.List.Sums.{prefix_len_passes, prefix_len_stops}
use Rattle.std.proofs.lemmas.List.Splits.{slice_split_first, slice_split_none, length-slice_split}
use Rattle.format_lines.specs.Lines.{ended, lines_of, without_return, is_line_feed}

no_end : (n : ℕ) → 0 ≡ suc n → ⊥
no_end n e = omega arith

not_below : 0 < 0 → ⊥
not_below l = omega arith

module _ {A : Type 0} (p : A → Bool) where
  nowhere_at : (z : List A) (t : Bool) → (position_or_len p z ≡ length z → list_any p z ≡ false) → cond (not t) (1 + position_or_len p z) 0 ≡ suc (length z) → (t || list_any p z) ≡ false
  nowhere_at z true rest e = absurd (no_end (length z) e)
  nowhere_at z false rest e = rest (omega arith)

  -- what is found nowhere isn't there
  pub nowhere : (z : List A) → position_or_len p z ≡ length z → list_any p z ≡ false
  nowhere [] e = refl
  nowhere (b ∷ z) e = nowhere_at z (p b) (nowhere z) e

  somewhere_at : (z : List A) (t : Bool) → (position_or_len p z < length z → list_any p z ≡ true) → cond (not t) (1 + position_or_len p z) 0 < suc (length z) → (t || list_any p z) ≡ true
  somewhere_at z true rest l = refl
  somewhere_at z false rest l = rest (omega arith)

  -- what is found at a place is there
  pub somewhere : (z : List A) → position_or_len p z < length z → list_any p z ≡ true
  somewhere [] l = absurd (not_below l)
  somewhere (b ∷ z) l = somewhere_at z (p b) (somewhere z) l

ended_more : (line : List ℕ) (more : List (List ℕ)) → 0 < length more → ended (line ∷ more) ≡ without_return line ∷ ended more
ended_more line [] l = absurd (not_below l)
ended_more line (next ∷ more) l = refl

found_below : (n len at : ℕ) (t : Bool) → nat_lt n len ≡ t → cond t (Some n) None ≡ Some at → (n < len) × (n ≡ at)
found_below n len at true e f = (grind (arith, nat_tests), cc)
found_below n len at false e f = cc

found_not : (n len : ℕ) (t : Bool) → nat_lt n len ≡ t → cond t (Some n) None ≡ None → len ≤ n
found_not n len true e f = cc
found_not n len false e f = grind (arith, nat_tests)

not_false : (t : Bool) → not t ≡ true → t ≡ false
not_false true e = cc
not_false false e = refl

alone : (z : List ℕ) (t : Bool) → (length z == 0) ≡ t → 0 < length z → cond t [] (z ∷ []) ≡ z ∷ []
alone z true e l = absurd (not_zero (length z) e l)
  where
    not_zero : (n : ℕ) → (n == 0) ≡ true → 0 < n → ⊥
    not_zero n e l = grind (arith, nat_tests)
alone z false e l = refl

all_taken : (z : List ℕ) (at : ℕ) → drop (at + 1) z ≡ take (length z - (at + 1)) (drop (at + 1) z)
all_taken z at =
    let within : length (drop (at + 1) z) ≤ length (drop (at + 1) z) = omega arith in
    sym (ap (λ k. take k (drop (at + 1) z)) (sym (length-drop (at + 1) z)) ∙ take_all (length (drop (at + 1) z)) (drop (at + 1) z) within)

-- the first line ends at the first line feed
pub line_ended : (z : List ℕ) (at : ℕ) → position is_line_feed z ≡ Some at → lines_of z ≡ without_return (take at z) ∷ lines_of (take (length z - (at + 1)) (drop (at + 1) z))
line_ended z at e =
    let n = position_or_len is_line_feed z in
    let found = found_below n (length z) at (nat_lt n (length z)) refl e in
    let cut = slice_split_first is_line_feed z 0 found.0 in
    let behind = slice_split is_line_feed (after_first is_line_feed z) in
    let some : 0 < length behind = omega (arith, length-slice_split is_line_feed (after_first is_line_feed z)) in
    ap ended cut ∙ (ended_more (before_first is_line_feed z) behind some ∙ (ap (λ k. without_return (take k z) ∷ lines_of (drop (k + 1) z)) found.1
    ∙ ap (λ x. without_return (take at z) ∷ lines_of x) (all_taken z at)))

-- the rest stands behind the first line feed
pub rest_behind : (z : List ℕ) (at : ℕ) → position is_line_feed z ≡ Some at → take (length z - (at + 1)) (drop (at + 1) z) ≡ after_first is_line_feed z
rest_behind z at e =
    let n = position_or_len is_line_feed z in
    let found = found_below n (length z) at (nat_lt n (length z)) refl e in
    sym (all_taken z at) ∙ ap (λ k. drop (k + 1) z) (sym found.1)

is_it : (t : Bool) (b : ℕ) → (b == 10) ≡ t → not t ≡ false → b ≡ 10
is_it true b e f = grind (arith, nat_tests)
is_it false b e f = cc

-- the place of the first line feed
pub feed_at : (z : List ℕ) (at : ℕ) → position is_line_feed z ≡ Some at → (at < length z) × (get_or z at 0 ≡ 10)
feed_at z at e =
    let n = position_or_len is_line_feed z in
    let found = found_below n (length z) at (nat_lt n (length z)) refl e in
    let stops = prefix_len_stops (λ b. not (is_line_feed b)) z 0 found.0 in
    let P : ℕ → Type 0 = λ k. (k < length z) × (get_or z k 0 ≡ 10) in
    subst P found.1 (found.0, is_it (get_or z n 0 == 10) (get_or z n 0) refl stops)

-- where there is no line feed, all is one line
pub line_alone : (z : List ℕ) → position is_line_feed z ≡ None → 0 < length z → lines_of z ≡ z ∷ []
line_alone z e l =
    let n = position_or_len is_line_feed z in
    let past = found_not n (length z) (nat_lt n (length z)) refl e in
    let none : All (λ b. is_line_feed b ≡ false) z = λ k d h. not_false (is_line_feed (get_or z k d)) (prefix_len_passes (λ b. not (is_line_feed b)) z k d (omega (arith, past))) in
    ap ended (slice_split_none is_line_feed z none) ∙ alone z (length z == 0) refl l

-- where there is no line feed, nothing stands behind one
pub none_behind : (z : List ℕ) → position is_line_feed z ≡ None → [] ≡ after_first is_line_feed z
none_behind z e =
    let n = position_or_len is_line_feed z in
    let past = found_not n (length z) (nat_lt n (length z)) refl e in
    sym (drop_all (n + 1) z (omega (arith, past)))
