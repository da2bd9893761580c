-- The lines of lists of cases, and the notes that they ask for.
use Rattle.std.specs.Prelude.{List, ℕ, [], ◌++◌, codes, if◌then◌else◌}
use Rattle.std.specs.Str.{bytes_eq}
use Rattle.cross_examples.specs.declared.cases.Case.{Case}

-- fields with bars between them
abbrev pub barred : List ℕ → List ℕ → List ℕ
barred field rest = field ++ (codes " | " ++ rest)

-- the line of a case
abbrev pub line_of : Case → List ℕ
line_of c = barred c.name.now (barred c.input.now (barred c.words.now (barred c.status.now (barred c.answer.now c.line.now))))

-- the notes that a case asks for: a line, or nothing where its field is `-`
abbrev pub notes_of : List ℕ → List ℕ
notes_of line = if bytes_eq line (codes "-") then [] else line ++ codes "\n"
