-- Definitions that theorems and laws about the forms of lines use: a line's mark, by one byte of it, and the form that has it. Assumes nothing.
use Rattle.std.specs.Prelude.{ℕ, ◌+◌, cond, List, [], ◌∷◌, eqb, get_or}
use Rattle.std.proofs.Math.Option.{Option, none}
use Rattle.text.specs.Bytes.{behind}
use Rattle.text.specs.Template.{values_of}
use Rattle.job.specs.Grammar.{Written, Form, forms, said}

-- The mark of a line: its first byte where that is no `o` (element lines); else byte 3, the letter after `op=`, where that is no `n` and no `j`; else, of a
-- noise line, the digit of d, which is byte 2 of the field behind the fifth space; of a header 256 more than byte 7, with which its first field begins. A
-- byte that the line has not is 0.
unfoldable pub mark_of : List ℕ → ℕ
mark_of l =
    cond (eqb (get_or l 0 0) 111)
    (cond (eqb (get_or l 3 0) 110) (get_or (behind 5 l) 2 0) (cond (eqb (get_or l 3 0) 106) (256 + get_or l 7 0) (get_or l 3 0)))
    (get_or l 0 0)

-- what a line says by one form
abbrev pub read_as : Form → List ℕ → Option Written
read_as f l = said f.says (values_of f.template l)

-- the first of these forms with that mark, and a form that says nothing where none has it
unfoldable pub form_from : ℕ → List Form → Form
form_from k [] = record { template = []; says = λ v. none }
form_from k (f ∷ fs) = let later = form_from k fs in cond (eqb k (mark_of f.template)) f later

abbrev pub form_by_mark : ℕ → Form
form_by_mark k = form_from k forms
