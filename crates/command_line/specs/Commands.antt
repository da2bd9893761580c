-- The command line.
use Rattle.std.specs.Prelude.{ℕ, ◌==◌, ◌&&◌, not, Bool, List, [], ◌∷◌, Option, Some, None, codes, length, option_map, option_and_then, slice_index, if◌then◌else◌}
use Rattle.std.specs.Str.{bytes_eq}
use Rattle.profile_rules.specs.declared.given.Given.{Given}
use Rattle.profile_rules.specs.Overrides.{overrides_of, decimal_up_to, above_zero}
use Rattle.conformance.specs.Rules.{Options}
use Rattle.dispatch_case.specs.Cases.{CaseParts}
use Rattle.dispatch_case.specs.Written.{case_of}
use Rattle.command_line.specs.declared.commands.Verb.{Verb}
use Rattle.command_line.specs.declared.commands.Verb.TheVariants.{Glsl, Check, Report, Run}
use Rattle.command_line.specs.State.{Task, prints, judges, reports, sums, runs, CommandState}

-- what is asked of the input by a word
abbrev pub verb_of : List ℕ → Option Verb
verb_of w =
    if bytes_eq w (codes "glsl") then Some Glsl
    else (if bytes_eq w (codes "check") then Some Check
    else (if bytes_eq w (codes "report") then Some Report
    else (if bytes_eq w (codes "run") then Some Run
    else None)))

-- the name of an entry point is not empty, and begins with no `-`
abbrev pub is_name : List ℕ → Bool
is_name w = not (length w == 0) && not (slice_index w 0 == 45)

-- the entry point that is asked for, if any, with the overrides that these words are
abbrev pub with_entry : Option (List ℕ) → List (List ℕ) → Option Options
with_entry entry ws = option_map (λ (pairs : List (ℕ × Given)). record { entry = entry; overrides = pairs }) (overrides_of ws)

-- a task, with overrides
abbrev pub with_task : Option (List ℕ) → List (List ℕ) → Task → Option CommandState
with_task entry ws task = option_map (λ (o : Options). record { task = task; pieces = None; options = o }) (with_entry entry ws)

-- a case, and overrides
abbrev pub with_case : Option (List ℕ) → List (List ℕ) → Option CommandState
with_case entry [] = None
with_case entry (w ∷ ws) = option_and_then (λ (c : CaseParts). with_task entry ws (runs c)) (case_of w)

-- what stands behind the entry point
abbrev pub with_verb : Option (List ℕ) → List (List ℕ) → Verb → Option CommandState
with_verb entry ws Glsl = with_task entry ws prints
with_verb entry ws Check = with_task entry ws judges
with_verb entry ws Report = with_task entry ws reports
with_verb entry ws Run = with_case entry ws

-- the words behind `--entry`: a name, and what stands behind it
abbrev pub named : List (List ℕ) → Verb → Option CommandState
named [] verb = None
named (name ∷ ws) verb = if is_name name then with_verb (Some name) ws verb else None

-- the words behind a verb: `--entry` and a name, or neither, and what stands behind that
abbrev pub asking : List (List ℕ) → Verb → Option CommandState
asking [] verb = with_verb None [] verb
asking (w ∷ ws) verb = if bytes_eq w (codes "--entry") then named ws verb else with_verb None (w ∷ ws) verb

-- a number of pieces: from 1 to 1000, in decimal without leading zeros
abbrev pub pieces_of : List ℕ → Option ℕ
pieces_of w = option_and_then above_zero (decimal_up_to 1000 w)

-- nothing is asked of a generated module
abbrev pub no_options : Options
no_options = record { entry = None; overrides = [] }

-- the words behind `gen`: a number of pieces
abbrev pub generating : List (List ℕ) → Option CommandState
generating [] = None
generating (w ∷ []) = option_map (λ (n : ℕ). record { task = sums; pieces = Some n; options = no_options }) (pieces_of w)
generating (w ∷ v ∷ ws) = None

-- the command that these words are
abbrev pub command_of : List (List ℕ) → Option CommandState
command_of [] = None
command_of (w ∷ ws) = if bytes_eq w (codes "gen") then generating ws else option_and_then (asking ws) (verb_of w)
