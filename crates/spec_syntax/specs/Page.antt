-- How tokens are written: with one blank between two of them, but none behind '(' and none before ')' and
-- ','.
use Rattle.std.specs.Prelude.{ℕ, Bool, true, false, if◌then◌else◌, List, [], ◌∷◌, ◌++◌}
use Rattle.spec_syntax.specs.declared.tag.Tag.{Tag}
use Rattle.spec_syntax.specs.declared.tag.Tag.TheVariants as t
use Rattle.spec_syntax.specs.Input.{Sym}

pub record Page : Type 0 where
  -- what is written
  pub text : List ℕ
  -- nothing is written yet, or '(' was written last
  pub opened : Bool

abbrev pub opens : Tag → Bool
opens t.Open = true
opens _ = false

abbrev pub touches : Tag → Bool
touches t.Close = true
touches t.Comma = true
touches _ = false

-- what stands before a token
abbrev pub blank : Bool → Tag → List ℕ
blank opened tag = if opened then [] else (if touches tag then [] else 32 ∷ [])

-- the page with what stands before a token
unfoldable pub begin : Page → Tag → Page
begin p tag = record { text = p.text ++ blank p.opened tag; opened = opens tag }

unfoldable pub append : Page → List ℕ → Page
append p word = record { text = p.text ++ word; opened = p.opened }

abbrev pub put : Page → Sym → Page
put p s = append (begin p s.0) s.1

abbrev pub write : Page → List Sym → Page
write p [] = p
write p (s ∷ ss) = write (put p s) ss

abbrev pub no_page : Page
no_page = record { text = []; opened = true }

-- the text of these tokens
unfoldable pub spelled : List Sym → List ℕ
spelled ts = (write no_page ts).text
