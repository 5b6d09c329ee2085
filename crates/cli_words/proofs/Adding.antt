-- A command to which the names that stand behind references are added, one after another.
use Rattle.std.proofs.Common.{ℕ, ◌≡◌, ◌<◌, ◌+◌, ◌∙◌, List, ap, ap₂, sym, map, length, get_or, take}
use Rattle.std.proofs.lemmas.List.Folds.{fold-map}
use Rattle.std.proofs.lemmas.List.Sums.{fold_more}
use Rattle.std.specs.List.{fold}
use Rattle.clap.specs.Words.{App}
use Rattle.cli_words.specs.Line.{Text}

module _ {N : Type 0} (step : App → Text → App) (now : N → Text) where
  -- one more
  pub one_more : (a b c : App) (names : List N) (i : ℕ) (d : N) → i < length names → c ≡ step b (now (get_or names i d))
      → b ≡ fold (λ x name. step x (now name)) a (take i names) → c ≡ fold (λ x name. step x (now name)) a (take (i + 1) names)
  one_more a b c names i d inside is before =
      is ∙ (ap (λ (x : App). step x (now (get_or names i d))) before ∙ sym (fold_more (λ x name. step x (now name)) a names i d inside))

  -- all of them
  pub added : (a b : App) (names : List N) (texts : List Text) → a ≡ b → map now names ≡ texts → fold (λ x name. step x (now name)) a names ≡ fold step b texts
  added a b names texts e t = sym (fold-map step now a names) ∙ ap₂ (fold step) e t
