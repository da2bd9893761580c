-- What is given to a command is words: the bytes of its input are octets, and its overrides are below 2 ^ 32.
use Rattle.std.proofs.Common.{◌≡◌, ◌<◌, ◌-◌, ◌^◌, arith, Fits, w8, ℕ, suc, Bool, true, false, List, [], ◌∷◌, Option, Some, None, length, get_or, slice_index, refl, subst, if◌then◌else◌}
use Rattle.std.specs.Prelude.{◌==◌, ◌&&◌, ◌||◌, not, codes, drop, IfSome, nat_le, nat_lt, option_map, option_and_then}
use Rattle.std.specs.Option.{option_zip}
use Rattle.std.specs.Str.{bytes_eq}
use Rattle.std.specs.List.{before_first, after_first}
use Rattle.std.proofs.lemmas.Bool.Decides.{nat_tests}
use Rattle.op_semantics.specs.Component.{before, each_one}
use Rattle.profile_rules.specs.declared.given.Given.{Given}
use Rattle.profile_rules.specs.declared.given.Given.TheVariants.{Decimal, Negative, Hex}
use Rattle.profile_rules.specs.Constants.{word_given}
use Rattle.profile_rules.specs.Overrides.{number_from, at_most, above_zero, number_up_to, decimal_up_to, hexadecimal, given_by, override_of, repeats, without_repeat, overrides_of}
use Rattle.conformance.specs.Rules.{Options}
use Rattle.typed_law.specs.Words.{AreBytes, AreGivenWords}
use Rattle.dispatch_case.specs.Cases.{CaseParts}
use Rattle.dispatch_case.specs.Written.{case_of}
use Rattle.command_line.specs.State.{Task, prints, judges, reports, sums, runs, CommandState}
use Rattle.command_line.specs.Commands.{verb_of, is_name, with_task, with_case, asking, pieces_of, no_options, generating, command_of}

pub are_bytes : (bytes : List ℕ) → ((k : ℕ) → Fits w8 (get_or bytes k 0)) → AreBytes bytes
are_bytes [] each = tt
are_bytes (b ∷ bs) each = ((each 0).fits, are_bytes bs (λ k. each (suc k)))

-- what one option gives another
map_if : {A B : Type 0} (P : A → Type 0) (Q : B → Type 0) (f : A → B) (o : Option A) → ((a : A) → P a → Q (f a)) → IfSome o P → IfSome (option_map f o) Q
map_if P Q f None each has = tt
map_if P Q f (Some a) each has = each a has

then_if : {A B : Type 0} (Q : B → Type 0) (f : A → Option B) (o : Option A) → ((a : A) → IfSome (f a) Q) → IfSome (option_and_then f o) Q
then_if Q f None each = tt
then_if Q f (Some a) each = each a

test_if : {A : Type 0} (P : A → Type 0) (b : Bool) (x y : Option A) → IfSome x P → IfSome y P → IfSome (if b then x else y) P
test_if P true x y one other = one
test_if P false x y one other = other

-- numbers that are written
abbrev IsLow : ℕ → Type 0
IsLow n = n < 2 ^ 32

at_most_low : (n : ℕ) → IfSome (at_most (2 ^ 32 - 1) n) IsLow
at_most_low n = by_test (nat_le n (2 ^ 32 - 1)) refl
  where
    by_test : (b : Bool) → nat_le n (2 ^ 32 - 1) ≡ b → IfSome (if b then Some n else None) IsLow
    by_test true is = grind (arith, nat_tests, is)
    by_test false is = tt

number_low : (base : ℕ) (cs : List ℕ) → IfSome (number_up_to (2 ^ 32 - 1) base cs) IsLow
number_low base cs = then_if IsLow (at_most (2 ^ 32 - 1)) (number_from base 0 cs) at_most_low

decimal_low : (cs : List ℕ) → IfSome (decimal_up_to (2 ^ 32 - 1) cs) IsLow
decimal_low cs = test_if IsLow ((length cs == 0) || ((slice_index cs 0 == 48) && not (length cs == 1))) None (number_up_to (2 ^ 32 - 1) 10 cs) tt (number_low 10 cs)

hexadecimal_low : (cs : List ℕ) → IfSome (hexadecimal cs) IsLow
hexadecimal_low cs = test_if IsLow ((length cs == 0) || nat_lt 8 (length cs)) None (number_up_to (2 ^ 32 - 1) 16 cs) tt (number_low 16 cs)

-- what they override by
abbrev IsWord : Given → Type 0
IsWord g = word_given g < 2 ^ 32

negative_low : (o : Option ℕ) → IfSome (option_map Negative o) IsWord
negative_low None = tt
negative_low (Some n) = grind (arith)

given_low : (word : List ℕ) → IfSome (given_by word) IsWord
unfolding given_by
given_low word =
    test_if IsWord (slice_index word 0 == 45) (option_map Negative (option_and_then above_zero (decimal_up_to (2 ^ 31) (drop 1 word)))) (if (slice_index word 0 == 48) && (slice_index word 1 == 120) then option_map Hex (hexadecimal (drop 2 word)) else option_map Decimal (decimal_up_to (2 ^ 32 - 1) word))
    (negative_low (option_and_then above_zero (decimal_up_to (2 ^ 31) (drop 1 word))))
    (test_if IsWord ((slice_index word 0 == 48) && (slice_index word 1 == 120)) (option_map Hex (hexadecimal (drop 2 word))) (option_map Decimal (decimal_up_to (2 ^ 32 - 1) word))
    (map_if IsLow IsWord Hex (hexadecimal (drop 2 word)) (λ n low. low) (hexadecimal_low (drop 2 word)))
    (map_if IsLow IsWord Decimal (decimal_up_to (2 ^ 32 - 1) word) (λ n low. low) (decimal_low word)))

-- the second of two is a word
abbrev IsPair : ℕ × Given → Type 0
IsPair p = word_given p.1 < 2 ^ 32

zip_if : (a : Option ℕ) (b : Option Given) → IfSome b IsWord → IfSome (option_zip a b) IsPair
zip_if None None has = tt
zip_if None (Some g) has = tt
zip_if (Some n) None has = tt
zip_if (Some n) (Some g) has = has

override_low : (word : List ℕ) → IfSome (override_of word) IsPair
unfolding override_of
override_low word = zip_if (decimal_up_to (2 ^ 32 - 1) (before_first (λ c. c == 61) word)) (given_by (after_first (λ c. c == 61) word)) (given_low (after_first (λ c. c == 61) word))

each_low : (ws : List (List ℕ)) → IfSome (each_one override_of ws) AreGivenWords
each_low [] = tt
each_low (w ∷ ws) = both (override_of w) (each_one override_of ws) (override_low w) (each_low ws)
  where
    both : (o : Option (ℕ × Given)) (os : Option (List (ℕ × Given))) → IfSome o IsPair → IfSome os AreGivenWords → IfSome (before o os) AreGivenWords
    both None None one rest = tt
    both None (Some ps) one rest = tt
    both (Some p) None one rest = tt
    both (Some p) (Some ps) one rest = (one, rest)

overrides_low : (ws : List (List ℕ)) → IfSome (overrides_of ws) AreGivenWords
overrides_low ws = by_all (each_one override_of ws) (each_low ws)
  where
    by_all : (o : Option (List (ℕ × Given))) → IfSome o AreGivenWords → IfSome (option_and_then without_repeat o) AreGivenWords
    by_all None has = tt
    by_all (Some ps) has = test_if AreGivenWords (repeats ps) None (Some ps) tt has

-- what a command line asks
abbrev IsOfWords : CommandState → Type 0
IsOfWords c = AreGivenWords c.options.overrides

task_low : (entry : Option (List ℕ)) (ws : List (List ℕ)) (task : Task) → IfSome (with_task entry ws task) IsOfWords
task_low entry ws task = by_pairs (overrides_of ws) (overrides_low ws)
  where
    by_pairs : (q : Option (List (ℕ × Given))) → IfSome q AreGivenWords → IfSome (option_map (λ (o : Options). record { task = task; pieces = None; options = o }) (option_map (λ (pairs : List (ℕ × Given)). record { entry = entry; overrides = pairs }) q)) IsOfWords
    by_pairs None has = tt
    by_pairs (Some ps) has = has

case_low : (entry : Option (List ℕ)) (ws : List (List ℕ)) → IfSome (with_case entry ws) IsOfWords
case_low entry [] = tt
case_low entry (w ∷ ws) = then_if IsOfWords (λ (c : CaseParts). with_task entry ws (runs c)) (case_of w) (λ c. task_low entry ws (runs c))

-- the verb is told by four tests
verb_if : {V : Type 0} (P : CommandState → Type 0) (f : V → Option CommandState) (a b c d : Bool) (p q r s : V) → IfSome (f p) P → IfSome (f q) P → IfSome (f r) P → IfSome (f s) P
    → IfSome (option_and_then f (if a then Some p else (if b then Some q else (if c then Some r else (if d then Some s else None))))) P
verb_if P f true b c d p q r s one two three four = one
verb_if P f false true c d p q r s one two three four = two
verb_if P f false false true d p q r s one two three four = three
verb_if P f false false false true p q r s one two three four = four
verb_if P f false false false false p q r s one two three four = tt

generating_low : (ws : List (List ℕ)) → IfSome (generating ws) IsOfWords
generating_low [] = tt
generating_low (w ∷ []) = by_pieces (pieces_of w)
  where
    by_pieces : (q : Option ℕ) → IfSome (option_map (λ (n : ℕ). record { task = sums; pieces = Some n; options = no_options }) q) IsOfWords
    by_pieces None = tt
    by_pieces (Some n) = tt
generating_low (w ∷ v ∷ ws) = tt

asking_low : (w : List ℕ) (ws : List (List ℕ)) → IfSome (option_and_then (asking ws) (verb_of w)) IsOfWords
asking_low w [] =
    verb_if IsOfWords (asking []) (bytes_eq w (codes "glsl")) (bytes_eq w (codes "check")) (bytes_eq w (codes "report")) (bytes_eq w (codes "run")) _ _ _ _
    (task_low None [] prints)
    (task_low None [] judges)
    (task_low None [] reports)
    (case_low None [])
asking_low w (v ∷ []) =
    let entry : Bool = bytes_eq v (codes "--entry") in
    verb_if IsOfWords (asking (v ∷ [])) (bytes_eq w (codes "glsl")) (bytes_eq w (codes "check")) (bytes_eq w (codes "report")) (bytes_eq w (codes "run")) _ _ _ _
    (test_if IsOfWords entry None (with_task None (v ∷ []) prints) tt (task_low None (v ∷ []) prints))
    (test_if IsOfWords entry None (with_task None (v ∷ []) judges) tt (task_low None (v ∷ []) judges))
    (test_if IsOfWords entry None (with_task None (v ∷ []) reports) tt (task_low None (v ∷ []) reports))
    (test_if IsOfWords entry None (with_case None (v ∷ [])) tt (case_low None (v ∷ [])))
asking_low w (v ∷ name ∷ us) =
    let entry : Bool = bytes_eq v (codes "--entry") in
    let task : (t : Task) → IfSome (if entry then (if is_name name then with_task (Some name) us t else None) else with_task None (v ∷ name ∷ us) t) IsOfWords =
    λ t. test_if IsOfWords entry (if is_name name then with_task (Some name) us t else None) (with_task None (v ∷ name ∷ us) t)
    (test_if IsOfWords (is_name name) (with_task (Some name) us t) None (task_low (Some name) us t) tt)
    (task_low None (v ∷ name ∷ us) t) in
    verb_if IsOfWords (asking (v ∷ name ∷ us)) (bytes_eq w (codes "glsl")) (bytes_eq w (codes "check")) (bytes_eq w (codes "report")) (bytes_eq w (codes "run")) _ _ _ _
    (task prints)
    (task judges)
    (task reports)
    (test_if IsOfWords entry (if is_name name then with_case (Some name) us else None) (with_case None (v ∷ name ∷ us))
    (test_if IsOfWords (is_name name) (with_case (Some name) us) None (case_low (Some name) us) tt)
    (case_low None (v ∷ name ∷ us)))

command_low : (ws : List (List ℕ)) → IfSome (command_of ws) IsOfWords
command_low [] = tt
command_low (w ∷ ws) = test_if IsOfWords (bytes_eq w (codes "gen")) (generating ws) (option_and_then (asking ws) (verb_of w)) (generating_low ws) (asking_low w ws)

pub given_words : (ws : List (List ℕ)) (c : CommandState) → command_of ws ≡ Some c → AreGivenWords c.options.overrides
given_words ws c is = subst (λ (q : Option CommandState). IfSome q IsOfWords) is (command_low ws)
