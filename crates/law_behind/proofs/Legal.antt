-- The journal of a history that goes on is legal, and begins with that of the past.
use Rattle.std.proofs.Common.{◌≡◌, ℕ, List, [], ◌∷◌, ◌++◌, length, drop, Option, refl, sym, ap, ◌∙◌, subst}
use Rattle.sql_types.specs.declared.journal.JournalItem.{JournalItem}
use Rattle.sql_types.specs.declared.journal.JournalItem.TheVariants.{Close}
use Rattle.spec_history.specs.Lists.{Text}
use Rattle.spec_history.specs.Meaning.{Meaning}
use Rattle.spec_history.specs.Serial.{Replays, IsLegal}
use Rattle.spec_history.specs.Acts.{SessionAct, commits, Act, by, closes}
use Rattle.spec_history.specs.Sessions.{SessionTransaction}
use Rattle.spec_history.specs.Worlds.{World, item_of, items_by, step, run, tables}
use Rattle.spec_history.specs.Guards.{IsEnabled, Good}
use Rattle.law_history.proofs.Items.{added, items_are}
use Rattle.spec_history.proofs.Legal.{IdsApart, apart_run, closings_run}
use Rattle.spec_history.proofs.Stable.{replays_append}
use Rattle.law_behind.specs.Past.{IsPast, Past, behind, since}

drop_front : (xs ys : List JournalItem) → drop (length xs) (xs ++ ys) ≡ ys
drop_front [] ys = refl
drop_front (x ∷ xs) ys = drop_front xs ys

module _ (q : Meaning) (db : Text) where
  replays_item : (w : World) (s : ℕ) (a : SessionAct) → IsEnabled q db w (by s a) → Replays q (tables q w) (items_by (w.at s) a)
  replays_item w s (commits time place) k = subst (λ (o : Option SessionTransaction). Replays q (tables q w) (item_of (w.at s) o time)) (sym k.stands.has) (k.agrees, tt)
  replays_item w s a k = tt

  replays_run : (w : World) (es : List Act) → Good q db w es → Replays q q.first w.items → Replays q q.first (run w es).items
  replays_run w [] g h = h
  replays_run w (by s a ∷ es) g h = replays_run (step w (by s a)) es g.1 (replays_append q q.first w.items (items_by (w.at s) a) h (replays_item w s a g.0))
  replays_run w (closes k ∷ es) g h = replays_run (step w (closes k)) es g.1 (replays_append q q.first w.items (Close k ∷ []) h (tt, tt))

  module _ (past : Past) (is : IsPast q past) where
    pub apart : IdsApart (behind past)
    apart = record {
      differ = is.legal.ids_differ;
      below = is.ids;
      drawn = λ t d h. cc;
      outside = λ t d h f. cc;
      apart = λ s t c d ne h k. cc;
    }

    pub legal : (es : List Act) → Good q db (behind past) es → IsLegal q (run (behind past) es).items
    legal es g = record {
      replays = replays_run (behind past) es g is.legal.replays;
      ids_differ = (apart_run q db (behind past) es g apart).differ;
      closings = closings_run q db (behind past) es g is.legal.closings;
    }

pub new_ones : (past : Past) (es : List Act) → since past (run (behind past) es).items ≡ added (behind past) es
new_ones past es = ap (drop (length past.items)) (items_are (behind past) es) ∙ drop_front past.items (added (behind past) es)

pub begins : (past : Past) (es : List Act) → (run (behind past) es).items ≡ past.items ++ since past (run (behind past) es).items
begins past es = items_are (behind past) es ∙ ap (λ (l : List JournalItem). past.items ++ l) (sym (new_ones past es))
