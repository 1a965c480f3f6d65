-- What the changes of a folder in memory come to, one after the other.
use Rattle.std.proofs.Common.{◌≡◌, ◌<◌, ◌+◌, ℕ, List, [], ◌∷◌, ◌++◌, length, take, get_or, Option, None, refl}
use Rattle.std.proofs.Common.{sym, ◌∙◌, ap}
use Rattle.std.proofs.lemmas.List.{take_more}
use Rattle.rv_journal.specs.folders.Folder.{GivenFile, FileNames}
use Rattle.rv_journal.specs.folders.Memory.{after_change, after_changes, names_after}
use Rattle.rv_journal.specs.declared.folders.folder.FileName.{FileName}
use Rattle.rv_journal.specs.declared.folders.testing.memory.NameChange.{NameChange}

pub after_last : (changes : List NameChange) (change : NameChange) (names : FileNames) (name : FileName)
    → after_changes (changes ++ change ∷ []) names name
    ≡ after_change change name (after_changes changes names name)
after_last [] change names name = refl
after_last (first ∷ changes) change names name =
    after_last changes change (λ n. after_change first n (names n)) name

-- what a name stands for after the changes so far, and after one more
pub stands_after : (changes : List NameChange) (i : ℕ) (d : NameChange) (name : FileName)
    (was now : Option GivenFile) → i < length changes → was ≡ names_after (take i changes) name
    → now ≡ after_change (get_or changes i d) name was → now ≡ names_after (take (i + 1) changes) name
stands_after changes i d name was now low so_far is =
    is ∙ ap (λ (file : Option GivenFile). after_change (get_or changes i d) name file) so_far
    ∙ sym (after_last (take i changes) (get_or changes i d) (λ n. None) name)
    ∙ ap (λ (l : List NameChange). names_after l name) (sym (take_more changes i d low))
