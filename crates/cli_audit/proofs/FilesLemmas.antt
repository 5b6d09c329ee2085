-- What a vault has after one put more.
use Rattle.std.proofs.Common.{◌≡◌, ◌≢◌, ◌<◌, ◌+◌, get_or, length, suc, ℕ, Bool, true, false, cond, List, [], ◌∷◌, ◌++◌, map, take, drop, Option, Some, None, Result, Ok, Err, refl, sym, ◌∙◌, ap, subst, bytes_eq}
use Rattle.std.proofs.lemmas.Slice.Eq.{bytes_eq-Decides}
use Rattle.base_io.specs.declared.vault.VaultErr.{VaultErr}
use Rattle.base_io.specs.declared.vault.VaultErr.TheVariants.{Memory, Missing, TooLong, Failed}
use Rattle.base_io.specs.Store.{NameContent, Names}
use Rattle.base_io.specs.Outside.{TellsPut, Leaves}
use Rattle.std.proofs.Math.Seq.{drop-cons}
use Rattle.std.proofs.lemmas.List.{take_more, map_push}
use Rattle.cli_audit.specs.declared.files.File.{File}
use Rattle.cli_audit.specs.Files.{names_after, TellsLeft, FirstArePut, StopsOpen, StopsBy, put_held, is_open}

-- the last one left counts, and what was left before it under the other names
names_last : (before : List (List ℕ × NameContent)) (name : List ℕ) (held : NameContent) (old : Names) (other : List ℕ) → names_after (before ++ (name, held) ∷ []) old other ≡ cond (bytes_eq other name) held (names_after before old other)
names_last [] name held old other = refl
names_last (left ∷ before) name held old other = names_last before name held (λ n. cond (bytes_eq n left.0) left.1 (old n)) other

-- under one name this, under the others as before
changed_at : (mid new : Names) (name : List ℕ) (held : NameContent) (other : List ℕ) (b : Bool) → bytes_eq other name ≡ b → new name ≡ held → ((o : List ℕ) → o ≢ name → new o ≡ mid o) → new other ≡ cond b held (mid other)
changed_at mid new name held other true e here elsewhere = ap new ((bytes_eq-Decides other name).0 e) ∙ here
changed_at mid new name held other false e here elsewhere =
    elsewhere other (λ is. let same : bytes_eq other name ≡ true = (bytes_eq-Decides other name).1 is in cc)

-- one put more that leaves this under its name
pub left_next : (before : List (List ℕ × NameContent)) (a b c : Option Names) (result : Result (Unit {0}) VaultErr) (name bytes : List ℕ) (held : NameContent) → TellsLeft before a b → TellsPut b c result name bytes → ((was is : NameContent) → Leaves result was bytes is → is ≡ held) → TellsLeft (before ++ (name, held) ∷ []) a c
left_next before None b c result name bytes held sofar put leaves = tt
left_next before (Some old) None c result name bytes held sofar put leaves = absurd sofar
left_next before (Some old) (Some mid) None result name bytes held sofar put leaves = absurd put
left_next before (Some old) (Some mid) (Some new) result name bytes held sofar put leaves = λ other.
    changed_at mid new name held other (bytes_eq other name) refl (leaves (mid name) (new name) put.here) put.elsewhere
    ∙ ap (λ x. cond (bytes_eq other name) held x) (sofar other)
    ∙ sym (names_last before name held old other)

same_at : (mid new : Names) (name other : List ℕ) (b : Bool) → bytes_eq other name ≡ b → new name ≡ mid name → ((o : List ℕ) → o ≢ name → new o ≡ mid o) → new other ≡ mid other
same_at mid new name other true e here elsewhere = let is = (bytes_eq-Decides other name).0 e in ap new is ∙ here ∙ ap mid (sym is)
same_at mid new name other false e here elsewhere =
    elsewhere other (λ is. let same : bytes_eq other name ≡ true = (bytes_eq-Decides other name).1 is in cc)

-- one put more that leaves all as before
pub left_same : (before : List (List ℕ × NameContent)) (a b c : Option Names) (result : Result (Unit {0}) VaultErr) (name bytes : List ℕ) → TellsLeft before a b → TellsPut b c result name bytes → ((was is : NameContent) → Leaves result was bytes is → is ≡ was) → TellsLeft before a c
left_same before None b c result name bytes sofar put leaves = tt
left_same before (Some old) None c result name bytes sofar put leaves = absurd sofar
left_same before (Some old) (Some mid) None result name bytes sofar put leaves = absurd put
left_same before (Some old) (Some mid) (Some new) result name bytes sofar put leaves = λ other.
    same_at mid new name other (bytes_eq other name) refl (leaves (mid name) (new name) put.here) put.elsewhere ∙ sofar other

-- one file more stands
pub more_are_put : (files : List File) (k : ℕ) (file : File) (a b c : Option Names) → k < length files → file ≡ get_or files k file → FirstArePut files k a b → TellsPut b c (Ok tt) file.name file.bytes → FirstArePut files (k + 1) a c
more_are_put files k file a b c within is sofar put =
    let next : map put_held (take (k + 1) files) ≡ map put_held (take k files) ++ put_held file ∷ [] =
    ap (map put_held) (take_more files k file within ∙ ap (λ x. take k files ++ x ∷ []) (sym is)) ∙ map_push put_held (take k files) file in
    let P : List (List ℕ × NameContent) → Type 0 = λ left. TellsLeft left a c in
    subst P (sym next) (left_next (map put_held (take k files)) a b c (Ok tt) file.name file.bytes (put_held file).1 sofar put (λ was now is. is))

-- the put of the next file failed
stop_open : (files : List File) (k : ℕ) (file : File) (a b c : Option Names) → k < length files → file ≡ get_or files k file → FirstArePut files k a b → TellsPut b c (Err Failed) file.name file.bytes → StopsOpen files a c
stop_open files k file a b c within is sofar put = (
  k,
  file,
  drop (suc k) files,
  drop-cons files k file within ∙ ap (λ x. x ∷ drop (suc k) files) (sym is),
  left_next (map put_held (take k files)) a b c (Err Failed) file.name file.bytes (is_open file).1 sofar put (λ was now is. is),
)

still : (files : List File) (k : ℕ) (file : File) (e : VaultErr) (a b c : Option Names) → k < length files → FirstArePut files k a b → TellsPut b c (Err e) file.name file.bytes → ((was now : NameContent) → Leaves (Err e) was file.bytes now → now ≡ was) → (n : ℕ) × (n < length files) × FirstArePut files n a c
still files k file e a b c within sofar put same = (k, within, left_same (map put_held (take k files)) a b c (Err e) file.name file.bytes sofar put same)

-- the vault refused the next file
pub stops_at : (files : List File) (k : ℕ) (file : File) (e : VaultErr) (a b c : Option Names) → k < length files → file ≡ get_or files k file → FirstArePut files k a b → TellsPut b c (Err e) file.name file.bytes → StopsBy e files a c
stops_at files k file Failed a b c within is sofar put = stop_open files k file a b c within is sofar put
stops_at files k file Memory a b c within is sofar put = still files k file Memory a b c within sofar put (λ was now is. is)
stops_at files k file Missing a b c within is sofar put = still files k file Missing a b c within sofar put (λ was now is. absurd is)
stops_at files k file TooLong a b c within is sofar put = still files k file TooLong a b c within sofar put (λ was now is. absurd is)
