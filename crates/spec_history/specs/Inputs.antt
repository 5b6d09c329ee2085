-- The input of a run: its lines, and what it has of each session.
use Rattle.std.specs.Prelude.{if◌then◌else◌, List, [], ◌∷◌, map}
use Rattle.std.specs.Str.{bytes_eq}
use Rattle.spec_history.specs.Lists.{Text}

-- a statement, and the name of its session
pub record InputLine : Type 0 where
  pub session : Text
  pub text : Text

-- a session: its name, and its statements in order
pub record InputSession : Type 0 where
  pub name : Text
  pub texts : List Text

-- the statements of the session of this name, in the order of the lines
abbrev pub texts_of_session : Text → List InputLine → List Text
texts_of_session name [] = []
texts_of_session name (line ∷ lines) =
    if bytes_eq line.session name
    then line.text ∷ texts_of_session name lines
    else texts_of_session name lines

-- the sessions of these names, as some lines have them
abbrev pub sessions_in : List InputLine → List Text → List InputSession
sessions_in lines names = map (λ name. record { name = name; texts = texts_of_session name lines }) names
