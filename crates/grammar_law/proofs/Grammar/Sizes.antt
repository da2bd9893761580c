-- The line of the size of workgroups has parts, for the axes, and their numbers are words (P9, P10).
use Rattle.std.proofs.Common.{◌≡◌, ◌≤◌, ◌<◌, ◌==◌, ◌&&◌, ◌||◌, not, ℕ, Bool, true, false, List, [], ◌∷◌, ◌++◌, length, map, drop, Option, Some, None, Contains, refl, sym, ap, subst, if◌then◌else◌, arith}
use Rattle.std.specs.Prelude.{find, flat_map, nat_le, nat_lt, option_map, IsSomeAnd}
use Rattle.std.specs.Option.{option_map_or}
use Rattle.std.specs.List.{count_by, list_any, list_all, zip}
use Rattle.std.proofs.lemmas.List.Elements.{Contains-append_left, Contains-append_right}
use Rattle.std.proofs.lemmas.Bool.{and_from, not-false}
use Rattle.spv_ops.specs.Opcode.{is, number}
use Rattle.spv_ops.specs.Enumerants.{decoration_number, mode_number}
use Rattle.spv_ops.specs.declared.Op.TheVariants as code
use Rattle.spv_ops.specs.declared.Decoration.TheVariants as decoration
use Rattle.spv_ops.specs.declared.ExecutionMode.TheVariants as mode
use Rattle.spv_module.specs.State.{ModuleState}
use Rattle.spv_module.specs.Held.{global}
use Rattle.spv_module.specs.declared.inst.Inst.{Inst}
use Rattle.spv_decor.specs.Rows.{word, first_row, has_key}
use Rattle.profile_rules.specs.declared.given.Given.{Given}
use Rattle.profile_rules.specs.declared.size.SizePart.{SizePart}
use Rattle.profile_rules.specs.declared.size.SizePart.TheVariants.{Fixed, Spec}
use Rattle.profile_rules.specs.Constants.{word_given, given_to}
use Rattle.profile_rules.specs.Places.{places, when, is_defined_elsewhere}
use Rattle.profile_rules.specs.TypeRows.{type_row}
use Rattle.profile_rules.specs.Entry.{chosen, is_mode_of, is_local_size, is_local_size_id, is_other_mode, is_repeated, is_bad_mode, is_size_composite, has_no_size, is_no_uvec3, are_no_sizes, is_bad_composite, is_bad_size_id, bad_modes, p9_of, p9, is_bad_size, composite_faults, p10_of, p10, size_by, size_part, size_by_literals, size_by_ids, group_size}
use Rattle.conformance.specs.Rules.{Options}
use Rattle.module_check.specs.Judged.{IsEntry}
use Rattle.glsl_ast.specs.declared.items.Size.{Size}
use Rattle.glsl_grammar.specs.Spelled.{FitsWord, AreSpelledSizes}
use Rattle.glsl_grammar.specs.Scopes.{AreAxes}
use Rattle.text_rules.specs.Constants.{axes, overridden, size_now, sizes_of, sizes_by, sizes}
use Rattle.unit_rules.specs.Unit.{source_of}
use Rattle.claim_law.specs.Blocks.{FitWords}
use Rattle.typed_law.specs.Conforms.{IsConforming}
use Rattle.typed_law.specs.Words.{AreGivenWords}
use Rattle.typed_law.proofs.Lists.{and_left, and_off, or_left, or_right, none_at_fault}
use Rattle.claim_law.specs.Claimed.{IsIn}
use Rattle.claim_law.proofs.Claim.Constants.{found_in}
use Rattle.grammar_law.proofs.Unit.Lists.{found_by, as_among}
use Rattle.grammar_law.proofs.Meets.CompositeMeets.{dropped}
use Rattle.grammar_law.proofs.Grammar.Readings.{none_fits, FitsIfGiven, given_fits}
use Rattle.grammar_law.proofs.Grammar.StructItems.{nth_fits}

-- lists
none_any : {A : Type 0} (test : A → Bool) (xs : List A) → find test xs ≡ None → list_any test xs ≡ false
none_any test [] none = refl
none_any test (x ∷ xs) none = by_test (test x) none (none_any test xs)
  where
    by_test : (b : Bool) → (if b then Some x else find test xs) ≡ None → (find test xs ≡ None → list_any test xs ≡ false) → (b || list_any test xs) ≡ false
    by_test true none later = cc
    by_test false none later = later none

none_either : {A : Type 0} (p q : A → Bool) (xs : List A) → list_any p xs ≡ false → list_any q xs ≡ false → list_any (λ x. p x || q x) xs ≡ false
none_either p q [] p_off q_off = refl
none_either p q (x ∷ xs) p_off q_off = by_tests (p x) (q x) p_off q_off (none_either p q xs)
  where
    by_tests : (a b : Bool) → (a || list_any p xs) ≡ false → (b || list_any q xs) ≡ false → (list_any p xs ≡ false → list_any q xs ≡ false → list_any (λ y. p y || q y) xs ≡ false) → ((a || b) || list_any (λ y. p y || q y) xs) ≡ false
    by_tests false false p_off q_off later = later p_off q_off
    by_tests true b p_off q_off later = cc
    by_tests false true p_off q_off later = cc

some_dropped : (ws : List ℕ) → (length ws == 5) ≡ true → 1 ≤ length (drop 2 ws)
some_dropped [] five = absurd (never five)
  where
    never : (0 == 5) ≡ true → ⊥
    never e = cc
some_dropped (a ∷ []) five = absurd (never five)
  where
    never : (1 == 5) ≡ true → ⊥
    never e = cc
some_dropped (a ∷ b ∷ []) five = absurd (never five)
  where
    never : (2 == 5) ≡ true → ⊥
    never e = cc
some_dropped (a ∷ b ∷ c ∷ ws) five = omega arith

-- parts of words
abbrev FitsPart : SizePart → Type 0
FitsPart (Fixed n) = FitsWord n
FitsPart (Spec n default) = FitsWord n × FitsWord default

abbrev FitParts : List SizePart → Type 0
FitParts [] = Unit {0}
FitParts (p ∷ ps) = FitsPart p × FitParts ps

now_fits : (pairs : List (ℕ × Given)) → AreGivenWords pairs → (p : SizePart) → FitsPart p → FitsPart (size_now pairs p)
now_fits pairs given (Fixed n) fit = fit
now_fits pairs given (Spec n default) fit = by_given (given_to pairs n) (given_fits pairs n given)
  where
    by_given : (q : Option Given) → FitsIfGiven (option_map word_given q) → FitsPart (overridden (Spec n default) q)
    by_given None has = fit
    by_given (Some g) has = has

-- what is written of a part
abbrev IsSizeLine : List Size → Type 0
IsSizeLine ss = AreSpelledSizes ss × AreAxes ss

part_line : (axis : ℕ) → axis < 3 → (p : SizePart) → FitsPart p → IsSizeLine (sizes_of axis p)
part_line axis low (Fixed n) fit = ((fit, tt), (low, tt))
part_line axis low (Spec n default) fit = ((fit.1, (fit.0, tt)), (low, (low, tt)))

both_spelled : (xs ys : List Size) → AreSpelledSizes xs → AreSpelledSizes ys → AreSpelledSizes (xs ++ ys)
both_spelled [] ys p q = q
both_spelled (x ∷ xs) ys p q = (p.0, both_spelled xs ys p.1 q)

both_axes : (xs ys : List Size) → AreAxes xs → AreAxes ys → AreAxes (xs ++ ys)
both_axes [] ys p q = q
both_axes (x ∷ xs) ys p q = (p.0, both_axes xs ys p.1 q)

more_line : (xs ys : List Size) → IsSizeLine xs → IsSizeLine ys → IsSizeLine (xs ++ ys)
more_line xs ys p q = (both_spelled xs ys p.0 q.0, both_axes xs ys p.1 q.1)

some_line : (axis : ℕ) (p : SizePart) (ys : List Size) → 1 ≤ length (sizes_of axis p ++ ys)
some_line axis (Fixed n) ys = omega arith
some_line axis (Spec n default) ys = omega arith

abbrev AreLowAxes : List ℕ → Type 0
AreLowAxes [] = Unit {0}
AreLowAxes (a ∷ as') = (a < 3) × AreLowAxes as'

module _ (pairs : List (ℕ × Given)) (given : AreGivenWords pairs) where
  lines : (as' : List ℕ) (ps : List SizePart) → AreLowAxes as' → FitParts ps → IsSizeLine (flat_map (λ (p : ℕ × SizePart). sizes_of p.0 (size_now pairs p.1)) (zip as' ps))
  lines [] ps low fit = (tt, tt)
  lines (a ∷ as') [] low fit = (tt, tt)
  lines (a ∷ as') (p ∷ ps) low fit = more_line (sizes_of a (size_now pairs p)) (flat_map (λ (q : ℕ × SizePart). sizes_of q.0 (size_now pairs q.1)) (zip as' ps)) (part_line a low.0 (size_now pairs p) (now_fits pairs given p fit.0)) (lines as' ps low.1 fit.1)

  all_lines : (ps : List SizePart) → FitParts ps → IsSizeLine (sizes_by pairs ps)
  all_lines ps fit = lines axes ps ((let low : 0 < 3 = omega arith in low), ((let low : 1 < 3 = omega arith in low), ((let low : 2 < 3 = omega arith in low), tt))) fit

  some_lines : (ps : List SizePart) → 1 ≤ length ps → 1 ≤ length (sizes_by pairs ps)
  some_lines [] some = absurd (omega (arith, some))
  some_lines (p ∷ ps) some = some_line 0 (size_now pairs p) (flat_map (λ (q : ℕ × SizePart). sizes_of q.0 (size_now pairs q.1)) (zip (1 ∷ 2 ∷ []) ps))

-- the parts of a module
module _ (m : ModuleState) (rows : (h : Inst) → IsIn h m.heads → FitWords h.args) (words : (h : Inst) → IsIn h m.globals → FitWords h.args) where
  part_fits : (n : ℕ) → FitsPart (size_part m n)
  part_fits n = by_row (first_row m.heads (number code.Decorate, n, 0, decoration_number decoration.SpecId)) refl
    where
      default_fits : FitsWord (option_map_or (λ (g : Inst). word g 0) (global m.globals n) 0)
      default_fits = by_global (global m.globals n) refl
        where
          by_global : (q : Option Inst) → global m.globals n ≡ q → FitsWord (option_map_or (λ (g : Inst). word g 0) q 0)
          by_global None at = none_fits
          by_global (Some g) at = nth_fits g.args 0 (words g (found_in m.globals n g at).0)

      by_row : (q : Option Inst) → first_row m.heads (number code.Decorate, n, 0, decoration_number decoration.SpecId) ≡ q → FitsPart (size_by (option_map (λ (h : Inst). word h 2) q) (option_map_or (λ (g : Inst). word g 0) (global m.globals n) 0))
      by_row None at = default_fits
      by_row (Some h) at = (nth_fits h.args 2 (rows h (found_by (has_key (number code.Decorate, n, 0, decoration_number decoration.SpecId)) m.heads h at).0), default_fits)

  parts_fit : (ns : List ℕ) → FitParts (map (size_part m) ns)
  parts_fit [] = tt
  parts_fit (n ∷ ns) = (part_fits n, parts_fit ns)

  numbers_fit : (ns : List ℕ) → FitWords ns → FitParts (map Fixed ns)
  numbers_fit [] fit = tt
  numbers_fit (n ∷ ns) fit = (fit.0, numbers_fit ns fit.1)

  group_fits : (f : ℕ) → FitParts (group_size m f)
  group_fits f = by_composite (find (is_size_composite m.heads) m.globals)
    where
      by_literals : (q : Option Inst) → find (is_local_size f) m.heads ≡ q → FitParts (option_map_or (λ (i : Inst). map Fixed (drop 2 i.args)) q [])
      by_literals None at = tt
      by_literals (Some i) at = numbers_fit (drop 2 i.args) (dropped 2 i.args (rows i (found_by (is_local_size f) m.heads i at).0))

      by_ids : (q : Option Inst) → FitParts (option_map_or (λ (i : Inst). map (size_part m) (drop 2 i.args)) q (size_by_literals m.heads f))
      by_ids None = by_literals (find (is_local_size f) m.heads) refl
      by_ids (Some i) = parts_fit (drop 2 i.args)

      by_composite : (q : Option Inst) → FitParts (option_map_or (λ (g : Inst). map (size_part m) g.args) q (size_by_ids m f))
      by_composite None = by_ids (find (is_local_size_id f) m.heads)
      by_composite (Some g) = parts_fit g.args

some_parts : (f : ℕ → SizePart) (ns : List ℕ) → 1 ≤ length ns → 1 ≤ length (map f ns)
some_parts f [] some = absurd (omega (arith, some))
some_parts f (n ∷ ns) some = omega arith

-- three constants are some
some_sizes : (m : ModuleState) (none : ℕ → Bool) (ids : List ℕ) → are_no_sizes m none ids ≡ false → 1 ≤ length ids
some_sizes m none [] off = cc
some_sizes m none (a ∷ ids) off = omega arith

composite_off : (m : ModuleState) (count : ℕ) (g : Inst) → is_bad_size m count g ≡ false → is_size_composite m.heads g ≡ true → is_bad_composite m g ≡ false
unfolding is_bad_size
composite_off m count g off on = or_right (nat_le 2 count) (is_bad_composite m g) (and_off (is_size_composite m.heads g) (nat_le 2 count || is_bad_composite m g) off on)

mode_off : (literals ids f : ℕ) (i : Inst) → is_bad_mode literals ids f i ≡ false → is_other_mode f i ≡ false
unfolding is_bad_mode
mode_off literals ids f i off = or_left (is_other_mode f i) (is_repeated literals ids f i) off

mode_on : (a b c d : Bool) → (a && c && d) ≡ true → ((a || b) && c) ≡ true
mode_on true b true d on = refl
mode_on true b false d on = cc
mode_on false b c d on = cc

module _ (m : ModuleState) (o : Options) (right : IsConforming m o.entry) (entry : ℕ) (is_entry : IsEntry m o entry) where
  abbrev pub IsChosen : Type 0
  IsChosen = (e : Inst) × (chosen o.entry m.heads ≡ Some e) × (entry ≡ word e 1)

  pub chosen_is : IsChosen
  chosen_is = by_chosen (chosen o.entry m.heads) refl is_entry
    where
      by_chosen : (q : Option Inst) → chosen o.entry m.heads ≡ q → IsSomeAnd q (λ (i : Inst). entry ≡ word i 1) → IsChosen
      by_chosen None at some = absurd some
      by_chosen (Some e) at some = (e, at, some)

  abbrev e : Inst
  e = chosen_is.0

  -- P9 and P10
  modes_are : p9 m o.entry ≡ bad_modes m (word e 1) ++ when (has_no_size m (word e 1)) (e.at ∷ [])
  modes_are = ap (λ (q : Option Inst). option_map_or (p9_of m) q []) chosen_is.1

  faults_are : p10 m o.entry ≡ composite_faults m ++ places (is_bad_size_id m (word e 1)) m.heads
  faults_are = ap (λ (q : Option Inst). option_map_or (p10_of m) q (composite_faults m)) chosen_is.1

  no_mode : (at : ℕ) → Contains (p9 m o.entry) at → ⊥
  no_mode = right.declared.1.1.1.1.1.1.0

  no_fault : (at : ℕ) → Contains (p10 m o.entry) at → ⊥
  no_fault = right.declared.1.1.1.1.1.1.1.0

  composite_some : (g : Inst) → IsIn g m.globals → is_size_composite m.heads g ≡ true → 1 ≤ length g.args
  composite_some g there on =
      let off = none_at_fault (is_bad_size m (count_by (is_size_composite m.heads) m.globals)) m.globals g (λ at has. no_fault at (subst (λ l. Contains l at) (sym faults_are) (Contains-append_left (composite_faults m) (places (is_bad_size_id m (word e 1)) m.heads) at has))) (as_among m.globals g there) in
      some_sizes m (is_defined_elsewhere m) g.args (or_right (option_map_or (is_no_uvec3 m.globals) (type_row m.globals g.ty) false) (are_no_sizes m (is_defined_elsewhere m) g.args) (composite_off m (count_by (is_size_composite m.heads) m.globals) g off on))

  ids_some : (i : Inst) → IsIn i m.heads → is_local_size_id (word e 1) i ≡ true → 1 ≤ length (drop 2 i.args)
  ids_some i there on =
      let off = none_at_fault (is_bad_size_id m (word e 1)) m.heads i (λ at has. no_fault at (subst (λ l. Contains l at) (sym faults_are) (Contains-append_right (composite_faults m) (places (is_bad_size_id m (word e 1)) m.heads) at has))) (as_among m.heads i there) in
      some_sizes m (λ n. true) (drop 2 i.args) (and_off (is_local_size_id (word e 1) i) (are_no_sizes m (λ n. true) (drop 2 i.args)) off on)

  literals_some : (i : Inst) → IsIn i m.heads → is_local_size (word e 1) i ≡ true → 1 ≤ length (drop 2 i.args)
  literals_some i there on =
      let bad = none_at_fault (is_bad_mode (count_by (is_local_size (word e 1)) m.heads) (count_by (is_local_size_id (word e 1)) m.heads) (word e 1)) m.heads i (λ at has. no_mode at (subst (λ l. Contains l at) (sym modes_are) (Contains-append_left (bad_modes m (word e 1)) (when (has_no_size m (word e 1)) (e.at ∷ [])) at has))) (as_among m.heads i there) in
      let off = mode_off (count_by (is_local_size (word e 1)) m.heads) (count_by (is_local_size_id (word e 1)) m.heads) (word e 1) i bad in
      let of_it : is_mode_of (word e 1) i ≡ true = mode_on (is i.op code.ExecutionMode) (is i.op code.ExecutionModeId) (word i 0 == word e 1) (word i 1 == mode_number mode.LocalSize) on in
      let form = not-false ((length i.args == 5) && (is_local_size_id (word e 1) i || (is_local_size (word e 1) i && list_all (nat_lt 0) (drop 2 i.args)))) (and_off (is_mode_of (word e 1) i) (not ((length i.args == 5) && (is_local_size_id (word e 1) i || (is_local_size (word e 1) i && list_all (nat_lt 0) (drop 2 i.args))))) off of_it) in
      some_dropped i.args (and_left (length i.args == 5) (is_local_size_id (word e 1) i || (is_local_size (word e 1) i && list_all (nat_lt 0) (drop 2 i.args))) form)

  some_size : has_no_size m (word e 1) ≡ true → ⊥
  some_size on = no_mode e.at (subst (λ l. Contains l e.at) (sym modes_are) (Contains-append_right (bad_modes m (word e 1)) (when (has_no_size m (word e 1)) (e.at ∷ [])) e.at (subst (λ (b : Bool). Contains (when b (e.at ∷ [])) e.at) (sym on) first)))
    where
      first : Contains (e.at ∷ []) e.at
      first = (0, (let less : 0 < 1 = omega arith in less), refl)

  group_some : 1 ≤ length (group_size m (word e 1))
  group_some = by_composite (find (is_size_composite m.heads) m.globals) refl
    where
      by_literals : find (is_size_composite m.heads) m.globals ≡ None → find (is_local_size_id (word e 1)) m.heads ≡ None → (q : Option Inst) → find (is_local_size (word e 1)) m.heads ≡ q → 1 ≤ length (option_map_or (λ (i : Inst). map Fixed (drop 2 i.args)) q [])
      by_literals composite ids None at =
          absurd (some_size (and_from (not (list_any (λ i. is_local_size (word e 1) i || is_local_size_id (word e 1) i) m.heads)) (not (list_any (is_size_composite m.heads) m.globals))
          (ap not (none_either (is_local_size (word e 1)) (is_local_size_id (word e 1)) m.heads (none_any (is_local_size (word e 1)) m.heads at) (none_any (is_local_size_id (word e 1)) m.heads ids))) (ap not (none_any (is_size_composite m.heads) m.globals composite))))
      by_literals composite ids (Some i) at = let w = found_by (is_local_size (word e 1)) m.heads i at in some_parts Fixed (drop 2 i.args) (literals_some i w.0 w.1)

      by_ids : find (is_size_composite m.heads) m.globals ≡ None → (q : Option Inst) → find (is_local_size_id (word e 1)) m.heads ≡ q → 1 ≤ length (option_map_or (λ (i : Inst). map (size_part m) (drop 2 i.args)) q (size_by_literals m.heads (word e 1)))
      by_ids composite None at = by_literals composite at (find (is_local_size (word e 1)) m.heads) refl
      by_ids composite (Some i) at = let w = found_by (is_local_size_id (word e 1)) m.heads i at in some_parts (size_part m) (drop 2 i.args) (ids_some i w.0 w.1)

      by_composite : (q : Option Inst) → find (is_size_composite m.heads) m.globals ≡ q → 1 ≤ length (option_map_or (λ (g : Inst). map (size_part m) g.args) q (size_by_ids m (word e 1)))
      by_composite None at = by_ids at (find (is_local_size_id (word e 1)) m.heads) refl
      by_composite (Some g) at = let w = found_by (is_size_composite m.heads) m.globals g at in some_parts (size_part m) g.args (composite_some g w.0 w.1)

  -- the law
  pub sizes_made : (rows : (h : Inst) → IsIn h m.heads → FitWords h.args) (words : (h : Inst) → IsIn h m.globals → FitWords h.args) → AreGivenWords o.overrides → AreSpelledSizes (sizes (source_of m o entry)) × (1 ≤ length (sizes (source_of m o entry))) × AreAxes (sizes (source_of m o entry))
  sizes_made rows words given =
      let fit = group_fits m rows words entry in
      let line = all_lines o.overrides given (group_size m entry) fit in
      let some : 1 ≤ length (group_size m entry) = subst (λ (n : ℕ). 1 ≤ length (group_size m n)) (sym chosen_is.2) group_some in
      (line.0, some_lines o.overrides given (group_size m entry) some, line.1)
