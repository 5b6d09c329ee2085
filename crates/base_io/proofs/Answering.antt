-- A fake's answers with one more.
use Rattle.std.proofs.Common.{◌≡◌, ◌∙◌, ◌+◌, ◌-◌, ◌^◌, ◌++◌, ◌∷◌, [], ℕ, Bool, true, false, cond, List, length, min, ap, sym, refl, subst, arith}
use Rattle.std.specs.List.{count_by}
use Rattle.std.proofs.lemmas.List.{length-append}
use Rattle.std.proofs.lemmas.List.Sums.{sum_by_push}
use Rattle.base_io.specs.Answered.{HasAnswered, with_answer}
use Rattle.base_io.specs.Count.{counted}
use Rattle.base_io.specs.History.{Adds}
use Rattle.base_io.specs.declared.answer_log.AnswerLog.{AnswerLog}

abbrev top : ℕ
top = 2 ^ 64 - 1

one_more : (c n : ℕ) → c ≡ min n top → counted c ≡ min (n + 1) top
one_more c n e = omega (arith, e)

more_if : (b : Bool) (c n : ℕ) → c ≡ min n top → cond b (counted c) c ≡ min (n + cond b 1 0) top
more_if true c n e = one_more c n e
more_if false c n e = omega (arith, e)

noted : {A : Type 0} (is_stop : A → Bool) (log : AnswerLog A) (a : A) (earlier : List A) → HasAnswered is_stop log earlier
    → HasAnswered is_stop (with_answer a (is_stop a) log) (earlier ++ a ∷ [])
noted is_stop log a earlier h = record {
  many = one_more log.answers (length earlier) h.many ∙ ap (λ n. min n top) (sym (length-append earlier (a ∷ [])));
  stops = more_if (is_stop a) log.stops (count_by is_stop earlier) h.stops
      ∙ ap (λ n. min n top) (sym (sum_by_push (λ x. cond (is_stop x) 1 0) earlier a));
  last = (earlier, refl);
}

-- an answer was noted, in a log that was as before
pub adds : {A : Type 0} (is_stop : A → Bool) (log same_log then_log : AnswerLog A) (answer a : A) (stop : Bool) → same_log ≡ log
    → a ≡ answer → stop ≡ is_stop a → then_log ≡ with_answer a stop same_log
    → Adds (HasAnswered is_stop log) (HasAnswered is_stop then_log) (answer ∷ [])
adds {A} is_stop log same_log then_log answer a stop same are stops is earlier h =
    let of_answer : then_log ≡ with_answer answer (is_stop answer) log =
    is ∙ ap (λ (b : Bool). with_answer a b same_log) stops ∙ ap (λ (x : A). with_answer x (is_stop x) same_log) are
    ∙ ap (λ (l : AnswerLog A). with_answer answer (is_stop answer) l) same in
    subst (λ (l : AnswerLog A). HasAnswered is_stop l (earlier ++ answer ∷ [])) (sym of_answer) (noted is_stop log answer earlier h)
