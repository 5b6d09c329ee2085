-- Printed tokens are the longest at their places.
use Rattle.std.proofs.Common.{◌≡◌, ℕ, suc, ◌+◌, Bool, true, false, ◌==◌, ◌&&◌, ◌||◌, List, [], ◌∷◌, ◌++◌, length, get_or, Some, refl, ap, ◌∙◌, sym, subst, arith, codes}
use Rattle.std.proofs.lemmas.Bool.{and_parts}
use Rattle.std.specs.List.{list_all, prefix_len}
use Rattle.std.specs.Char.{is_ascii_digit}
use Rattle.std.proofs.lemmas.Bool.Decides.{nat_tests}
use Rattle.sql_lex.specs.declared.token.Kind.TheVariants as kind
use Rattle.sql_lex.specs.IsToken.{begins_word, is_word_byte}
use Rattle.sql_lex.specs.Cut.{is_blank, begins_comment}
use Rattle.sql_lex.specs.Front.{front}
use Rattle.sql_lex.proofs.Found.{front_is}
use Rattle.spec_syntax.specs.declared.tag.Tag.{Tag}
use Rattle.spec_syntax.specs.declared.tag.Tag.TheVariants as t
use Rattle.spec_syntax.specs.Tags.{tag_of}
use Rattle.spec_syntax.specs.Page.{opens, touches}
use Rattle.spec_syntax.specs.Printed.{key, spelling, word}
use Rattle.law_printing.proofs.Cut.{cut, cut_token, prepend}
use Rattle.law_printing.proofs.Lexed.{Stop, at_close, at_comma, by_stop, After, One}

-- a run of bytes that pass a test, before one that does not
pub run_len : (p : ℕ → Bool) (n rest : List ℕ) → list_all p n ≡ true → prefix_len p rest ≡ 0 → prefix_len p (n ++ rest) ≡ length n
run_len p [] rest all stop = stop
run_len p (x ∷ n) rest all stop =
    let both = and_parts (p x) (list_all p n) all in
    let e : 1 + length n ≡ suc (length n) = omega arith in
    rw both.0 (ap (λ m. 1 + m) (run_len p n rest both.1 stop) ∙ e)

-- ---- signs

one_sign : (b : ℕ) (w : List ℕ) (tag : Tag) → is_blank b ≡ false → tag_of kind.Sign (b ∷ w) ≡ tag
    → ((rest : List ℕ) → After (opens tag) rest → begins_comment (b ∷ (w ++ rest)) ≡ false)
    → ((rest : List ℕ) → After (opens tag) rest → front (b ∷ (w ++ rest)) ≡ Some (kind.Sign, length (b ∷ w)))
    → (touches tag ≡ true → (rest : List ℕ) → Stop (b ∷ (w ++ rest))) → One (tag, b ∷ w) ((tag, b ∷ w) ∷ [])
one_sign b w tag blank is comment found touching = record {
  lexes = λ rest after. cut_token kind.Sign b w rest blank (comment rest after) (sym (front_is (b ∷ (w ++ rest))) ∙ found rest after)
      ∙ ap (λ x. prepend ((x, b ∷ w) ∷ []) (cut 0 rest)) is;
  touching = touching;
}

pub open_ : One (key t.Open) (key t.Open ∷ [])
unfolding spelling tag_of front
open_ = one_sign 40 [] t.Open refl refl (λ rest after. refl) (λ rest after. refl) (λ h. cc)

pub close : One (key t.Close) (key t.Close ∷ [])
unfolding spelling tag_of front
close = one_sign 41 [] t.Close refl refl (λ rest after. refl) (λ rest after. refl) (λ h rest. at_close rest)

pub comma : One (key t.Comma) (key t.Comma ∷ [])
unfolding spelling tag_of front
comma = one_sign 44 [] t.Comma refl refl (λ rest after. refl) (λ rest after. refl) (λ h rest. at_comma rest)

pub equal : One (key t.Equal) (key t.Equal ∷ [])
unfolding spelling tag_of front
equal = one_sign 61 [] t.Equal refl refl (λ rest after. refl) (λ rest after. refl) (λ h. cc)

pub not_equal : One (key t.NotEqual) (key t.NotEqual ∷ [])
unfolding spelling tag_of front
not_equal = one_sign 60 (62 ∷ []) t.NotEqual refl refl (λ rest after. refl) (λ rest after. refl) (λ h. cc)

pub less : One (key t.Less) (key t.Less ∷ [])
unfolding spelling tag_of front
less = one_sign 60 [] t.Less refl refl (λ rest after. refl)
    (λ rest after. by_stop (λ r. front (60 ∷ r) ≡ Some (kind.Sign, 1)) refl (λ z. refl) (λ z. refl) (λ z. refl) after) (λ h. cc)

pub less_equal : One (key t.LessEqual) (key t.LessEqual ∷ [])
unfolding spelling tag_of front
less_equal = one_sign 60 (61 ∷ []) t.LessEqual refl refl (λ rest after. refl) (λ rest after. refl) (λ h. cc)

pub greater : One (key t.Greater) (key t.Greater ∷ [])
unfolding spelling tag_of front
greater = one_sign 62 [] t.Greater refl refl (λ rest after. refl)
    (λ rest after. by_stop (λ r. front (62 ∷ r) ≡ Some (kind.Sign, 1)) refl (λ z. refl) (λ z. refl) (λ z. refl) after) (λ h. cc)

pub greater_equal : One (key t.GreaterEqual) (key t.GreaterEqual ∷ [])
unfolding spelling tag_of front
greater_equal = one_sign 62 (61 ∷ []) t.GreaterEqual refl refl (λ rest after. refl) (λ rest after. refl) (λ h. cc)

pub plus : One (key t.Plus) (key t.Plus ∷ [])
unfolding spelling tag_of front
plus = one_sign 43 [] t.Plus refl refl (λ rest after. refl) (λ rest after. refl) (λ h. cc)

pub minus : One (key t.Minus) (key t.Minus ∷ [])
unfolding spelling tag_of front
minus = one_sign 45 [] t.Minus refl refl
    (λ rest after. by_stop (λ r. begins_comment (45 ∷ r) ≡ false) refl (λ z. refl) (λ z. refl) (λ z. refl) after)
    (λ rest after. refl) (λ h. cc)

pub star : One (key t.Star) (key t.Star ∷ [])
unfolding spelling tag_of front
star = one_sign 42 [] t.Star refl refl (λ rest after. refl) (λ rest after. refl) (λ h. cc)

-- ---- words

no_word : {rest : List ℕ} → Stop rest → prefix_len is_word_byte rest ≡ 0
no_word = by_stop (λ r. prefix_len is_word_byte r ≡ 0) refl (λ z. refl) (λ z. refl) (λ z. refl)

no_quote : {rest : List ℕ} → Stop rest → (get_or rest 0 0 == 39) ≡ false
no_quote = by_stop (λ r. (get_or r 0 0 == 39) ≡ false) refl (λ z. refl) (λ z. refl) (λ z. refl)

word_byte_no_quote : (b : ℕ) → is_word_byte b ≡ true → (b == 39) ≡ false
word_byte_no_quote b e = grind (arith, nat_tests)

next_no_quote : (w rest : List ℕ) → list_all is_word_byte w ≡ true → Stop rest → (get_or (w ++ rest) 0 0 == 39) ≡ false
next_no_quote [] rest all stop = no_quote stop
next_no_quote (c ∷ w) rest all stop = word_byte_no_quote c (and_parts (is_word_byte c) (list_all is_word_byte w) all).0

abbrev Letter : ℕ → Type 0
Letter b = ((b == 48) ≡ false) × (is_ascii_digit b ≡ false) × ((b == 46) ≡ false) × ((b == 39) ≡ false) × (is_word_byte b ≡ true) × (is_blank b ≡ false) × ((b == 45) ≡ false)

letter : (b : ℕ) → begins_word b ≡ true → Letter b
letter b e = (grind (arith, nat_tests), grind (arith, nat_tests), grind (arith, nat_tests), grind (arith, nat_tests), grind (arith, nat_tests), grind (arith, nat_tests), grind (arith, nat_tests))

pub and_false : (t : Bool) → (t && false) ≡ false
and_false true = refl
and_false false = refl

word_front : (b : ℕ) (w rest : List ℕ) → begins_word b ≡ true → list_all is_word_byte w ≡ true → Stop rest → front (b ∷ (w ++ rest)) ≡ Some (kind.Word, length (b ∷ w))
unfolding front
word_front b w rest first all stop =
    let l = letter b first in
    let run = run_len is_word_byte w rest all (no_word stop) in
    let quote = next_no_quote w rest all stop in
    rw (l.0, l.1, l.2, l.3, quote, first, run) (rw (and_false (b == 78 || b == 110)) (ap (λ n. Some (kind.Word, n)) (omega arith)))

one_word : (b : ℕ) (w : List ℕ) (tag : Tag) → begins_word b ≡ true → list_all is_word_byte w ≡ true → tag_of kind.Word (b ∷ w) ≡ tag → opens tag ≡ false → touches tag ≡ false → One (tag, b ∷ w) ((tag, b ∷ w) ∷ [])
one_word b w tag first all is opens_ touches_ =
    let l = letter b first in
    record {
      lexes = λ rest after. (let stop = subst (λ o. After o rest) opens_ after in
          cut_token kind.Word b w rest l.5 (rw l.6 refl) (sym (front_is (b ∷ (w ++ rest))) ∙ word_front b w rest first all stop)
          ∙ ap (λ x. prepend ((x, b ∷ w) ∷ []) (cut 0 rest)) is);
      touching = λ h. (let no : true ≡ false = sym h ∙ touches_ in cc);
    }

pub select_ : One (key t.Select) (key t.Select ∷ [])
unfolding spelling tag_of
select_ = one_word 83 (codes "ELECT") t.Select refl refl refl refl refl

pub where_ : One (key t.Where) (key t.Where ∷ [])
unfolding spelling tag_of
where_ = one_word 87 (codes "HERE") t.Where refl refl refl refl refl

pub add_ : One (key t.Add) (key t.Add ∷ [])
unfolding spelling tag_of
add_ = one_word 65 (codes "DD") t.Add refl refl refl refl refl

pub alter_ : One (key t.Alter) (key t.Alter ∷ [])
unfolding spelling tag_of
alter_ = one_word 65 (codes "LTER") t.Alter refl refl refl refl refl

pub and_ : One (key t.And) (key t.And ∷ [])
unfolding spelling tag_of
and_ = one_word 65 (codes "ND") t.And refl refl refl refl refl

pub asc_ : One (key t.Asc) (key t.Asc ∷ [])
unfolding spelling tag_of
asc_ = one_word 65 (codes "SC") t.Asc refl refl refl refl refl

pub begin_ : One (key t.Begin) (key t.Begin ∷ [])
unfolding spelling tag_of
begin_ = one_word 66 (codes "EGIN") t.Begin refl refl refl refl refl

pub by_ : One (key t.By) (key t.By ∷ [])
unfolding spelling tag_of
by_ = one_word 66 (codes "Y") t.By refl refl refl refl refl

pub column_ : One (key t.Column) (key t.Column ∷ [])
unfolding spelling tag_of
column_ = one_word 67 (codes "OLUMN") t.Column refl refl refl refl refl

pub commit_ : One (key t.Commit) (key t.Commit ∷ [])
unfolding spelling tag_of
commit_ = one_word 67 (codes "OMMIT") t.Commit refl refl refl refl refl

pub create_ : One (key t.Create) (key t.Create ∷ [])
unfolding spelling tag_of
create_ = one_word 67 (codes "REATE") t.Create refl refl refl refl refl

pub delete_ : One (key t.Delete) (key t.Delete ∷ [])
unfolding spelling tag_of
delete_ = one_word 68 (codes "ELETE") t.Delete refl refl refl refl refl

pub desc_ : One (key t.Desc) (key t.Desc ∷ [])
unfolding spelling tag_of
desc_ = one_word 68 (codes "ESC") t.Desc refl refl refl refl refl

pub drop_ : One (key t.Drop) (key t.Drop ∷ [])
unfolding spelling tag_of
drop_ = one_word 68 (codes "ROP") t.Drop refl refl refl refl refl

pub execute_ : One (key t.Execute) (key t.Execute ∷ [])
unfolding spelling tag_of
execute_ = one_word 69 (codes "XECUTE") t.Execute refl refl refl refl refl

pub from_ : One (key t.From) (key t.From ∷ [])
unfolding spelling tag_of
from_ = one_word 70 (codes "ROM") t.From refl refl refl refl refl

pub index_ : One (key t.Index) (key t.Index ∷ [])
unfolding spelling tag_of
index_ = one_word 73 (codes "NDEX") t.Index refl refl refl refl refl

pub insert_ : One (key t.Insert) (key t.Insert ∷ [])
unfolding spelling tag_of
insert_ = one_word 73 (codes "NSERT") t.Insert refl refl refl refl refl

pub into_ : One (key t.Into) (key t.Into ∷ [])
unfolding spelling tag_of
into_ = one_word 73 (codes "NTO") t.Into refl refl refl refl refl

pub is_ : One (key t.Is) (key t.Is ∷ [])
unfolding spelling tag_of
is_ = one_word 73 (codes "S") t.Is refl refl refl refl refl

pub key_ : One (key t.Key) (key t.Key ∷ [])
unfolding spelling tag_of
key_ = one_word 75 (codes "EY") t.Key refl refl refl refl refl

pub not_ : One (key t.Not) (key t.Not ∷ [])
unfolding spelling tag_of
not_ = one_word 78 (codes "OT") t.Not refl refl refl refl refl

pub null_ : One (key t.Null) (key t.Null ∷ [])
unfolding spelling tag_of
null_ = one_word 78 (codes "ULL") t.Null refl refl refl refl refl

pub on_ : One (key t.On) (key t.On ∷ [])
unfolding spelling tag_of
on_ = one_word 79 (codes "N") t.On refl refl refl refl refl

pub or_ : One (key t.Or) (key t.Or ∷ [])
unfolding spelling tag_of
or_ = one_word 79 (codes "R") t.Or refl refl refl refl refl

pub order_ : One (key t.Order) (key t.Order ∷ [])
unfolding spelling tag_of
order_ = one_word 79 (codes "RDER") t.Order refl refl refl refl refl

pub primary_ : One (key t.Primary) (key t.Primary ∷ [])
unfolding spelling tag_of
primary_ = one_word 80 (codes "RIMARY") t.Primary refl refl refl refl refl

pub rollback_ : One (key t.Rollback) (key t.Rollback ∷ [])
unfolding spelling tag_of
rollback_ = one_word 82 (codes "OLLBACK") t.Rollback refl refl refl refl refl

pub save_ : One (key t.Save) (key t.Save ∷ [])
unfolding spelling tag_of
save_ = one_word 83 (codes "AVE") t.Save refl refl refl refl refl

pub set_ : One (key t.Set) (key t.Set ∷ [])
unfolding spelling tag_of
set_ = one_word 83 (codes "ET") t.Set refl refl refl refl refl

pub table_ : One (key t.Table) (key t.Table ∷ [])
unfolding spelling tag_of
table_ = one_word 84 (codes "ABLE") t.Table refl refl refl refl refl

pub transaction_ : One (key t.Transaction) (key t.Transaction ∷ [])
unfolding spelling tag_of
transaction_ = one_word 84 (codes "RANSACTION") t.Transaction refl refl refl refl refl

pub update_ : One (key t.Update) (key t.Update ∷ [])
unfolding spelling tag_of
update_ = one_word 85 (codes "PDATE") t.Update refl refl refl refl refl

pub values_ : One (key t.Values) (key t.Values ∷ [])
unfolding spelling tag_of
values_ = one_word 86 (codes "ALUES") t.Values refl refl refl refl refl

pub with_ : One (key t.With) (key t.With ∷ [])
unfolding spelling tag_of
with_ = one_word 87 (codes "ITH") t.With refl refl refl refl refl

-- a word that is not reserved
pub plain_word : (b : ℕ) (w : List ℕ) → begins_word b ≡ true → list_all is_word_byte w ≡ true → tag_of kind.Word (b ∷ w) ≡ t.Word → One (word (b ∷ w)) (word (b ∷ w) ∷ [])
plain_word b w first all is = one_word b w t.Word first all is refl refl
