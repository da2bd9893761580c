-- Cases as they are written: `groups=X,Y,Z`, `buffer=S.B:W,W,..` for each buffer, `push=W,W,..`, `first=I,I,..` and `steps=N`, with `;` between. There may be no push and no first.
use Rattle.std.specs.Prelude.{◌≡◌, ℕ, ◌-◌, ◌^◌, ◌==◌, List, [], ◌∷◌, ◌++◌, codes, Option, Some, None, option_map, option_and_then, if◌then◌else◌, bytes_eq}
use Rattle.std.specs.List.{slice_split}
use Rattle.op_semantics.specs.Component.{each_one}
use Rattle.profile_rules.specs.Overrides.{decimal_up_to}
use Rattle.traces.specs.Invocations.{Triple}
use Rattle.spec_constants.specs.declared.overrides.Unparsed.{Unparsed}
use Rattle.spec_constants.specs.declared.overrides.Unparsed.TheVariants.{Usage, Memory}
use Rattle.dispatch_case.specs.declared.part.Part.{Part}
use Rattle.dispatch_case.specs.declared.part.Part.TheVariants as own
use Rattle.dispatch_case.specs.declared.part.Key.{Key}
use Rattle.dispatch_case.specs.declared.part.Key.TheVariants as key
use Rattle.dispatch_case.specs.declared.read.Stage.{Stage}
use Rattle.dispatch_case.specs.declared.read.Stage.TheVariants.{Start, Buffers, Push, First, Done}
use Rattle.dispatch_case.specs.Three.{triple_of}
use Rattle.dispatch_case.specs.Cases.{CaseParts, Buffer, buffer_view, is_fine}

-- a part of a case
pub data Said : Type 0 where
  groups : Triple → Said
  buffer : Buffer → Said
  push : List ℕ → Said
  first : List ℕ → Said
  steps : ℕ → Said

abbrev pub said_by : Part → Said
said_by (own.Groups g) = groups (triple_of g)
said_by (own.Buffer b) = buffer (buffer_view b)
said_by (own.Push ws) = push ws.items
said_by (own.First is) = first is.items
said_by (own.Steps n) = steps n

-- what stands between these bytes
abbrev pub pieces : ℕ → List ℕ → List (List ℕ)
pieces between text = slice_split (λ b. b == between) text

-- a number up to 2 ^ 32 - 1
abbrev pub number_of : List ℕ → Option ℕ
number_of = decimal_up_to (2 ^ 32 - 1)

-- numbers with this byte between
abbrev pub numbers_of : ℕ → List ℕ → Option (List ℕ)
numbers_of between text = each_one number_of (pieces between text)

-- `X,Y,Z`
abbrev pub three_of : List ℕ → Option Triple
three_of (x ∷ y ∷ z ∷ []) = Some (x, y, z)
three_of _ = None

abbrev pub groups_of : List ℕ → Option Triple
groups_of text = option_and_then three_of (numbers_of 44 text)

-- `S.B:W,W,..`
abbrev pub buffer_with : List ℕ → List ℕ → Option Buffer
buffer_with (set ∷ binding ∷ []) words = Some (set, binding, words)
buffer_with _ words = None

abbrev pub buffer_by : Option (List ℕ) → Option (List ℕ) → Option Buffer
buffer_by (Some names) (Some words) = buffer_with names words
buffer_by _ _ = None

abbrev pub buffer_among : List (List ℕ) → Option Buffer
buffer_among (names ∷ words ∷ []) = buffer_by (numbers_of 46 names) (numbers_of 44 words)
buffer_among _ = None

abbrev pub buffer_of : List ℕ → Option Buffer
buffer_of text = buffer_among (pieces 58 text)

-- what a key says
abbrev pub key_of : List ℕ → Option Key
key_of name =
    if bytes_eq name (codes "groups") then Some key.Groups
    else (if bytes_eq name (codes "buffer") then Some key.Buffer
    else (if bytes_eq name (codes "push") then Some key.Push
    else (if bytes_eq name (codes "first") then Some key.First
    else (if bytes_eq name (codes "steps") then Some key.Steps else None))))

abbrev pub said_behind : List ℕ → Key → Option Said
said_behind text key.Groups = option_map groups (groups_of text)
said_behind text key.Buffer = option_map buffer (buffer_of text)
said_behind text key.Push = option_map push (numbers_of 44 text)
said_behind text key.First = option_map first (numbers_of 44 text)
said_behind text key.Steps = option_map steps (number_of text)

-- a part is a key, `=` and a text
abbrev pub said_among : List (List ℕ) → Option Said
said_among (name ∷ text ∷ []) = option_and_then (said_behind text) (key_of name)
said_among _ = None

abbrev pub said_of : List ℕ → Option Said
said_of part = said_among (pieces 61 part)

-- what may stand behind what, and what is then behind it
abbrev pub stage_with : Stage → Said → Option Stage
stage_with Start (groups g) = Some Buffers
stage_with Buffers (buffer b) = Some Buffers
stage_with Buffers (push ws) = Some Push
stage_with Buffers (first is) = Some First
stage_with Push (first is) = Some First
stage_with Buffers (steps n) = Some Done
stage_with Push (steps n) = Some Done
stage_with First (steps n) = Some Done
stage_with _ _ = None

abbrev pub with_said : CaseParts → Said → CaseParts
with_said c (groups g) = record c { groups = g }
with_said c (buffer b) = record c { buffers = c.buffers ++ b ∷ [] }
with_said c (push ws) = record c { push = ws }
with_said c (first is) = record c { first = is }
with_said c (steps n) = record c { steps = n }

-- nothing is said yet
abbrev pub unsaid : CaseParts
unsaid = record { groups = (0, 0, 0); buffers = []; push = []; first = []; steps = 0 }

abbrev pub at_end : Stage → CaseParts → Option CaseParts
at_end Done c = Some c
at_end _ c = None

-- with one part more
abbrev pub after_said : CaseParts → Stage → Said → Option (Stage × CaseParts)
after_said c s p = option_map (λ t. (t, with_said c p)) (stage_with s p)

-- with all that the parts say, in their order
abbrev pub after_parts : Stage → CaseParts → List (List ℕ) → Option CaseParts
after_parts s c [] = at_end s c
after_parts s c (p ∷ ps) = option_and_then (λ (t : Stage × CaseParts). after_parts t.0 t.1 ps) (option_and_then (after_said c s) (said_of p))

abbrev pub if_fine : CaseParts → Option CaseParts
if_fine c = if is_fine c then Some c else None

-- the case that a word is; none where it is no case
abbrev pub case_of : List ℕ → Option CaseParts
case_of word = option_and_then if_fine (after_parts Start unsaid (pieces 59 word))

-- a word is no case; want of memory has no cause
abbrev pub IsCause : List ℕ → Unparsed → Type 0
IsCause word Usage = case_of word ≡ None
IsCause word Memory = Unit {0}
